-- Events whose packet, client or node is there: their inner steps are done, or a limit was reached, and leave there what was.
use Rattle.std.proofs.Common.{◌≡◌, ℕ, zero, suc, ◌-◌, ◌==◌, Bool, true, false, cond, List, [], ◌∷◌, ◌++◌, Option, Some, None, Result, Ok, Err, inl, inr, ⊎_elim, refl, sym, ap, ◌∙◌, subst, append_assoc, append-nil}
use Rattle.std.specs.Prelude.{◌⊎◌, slice_get, slice_set}
use Rattle.std.specs.FinMap as table
use Rattle.lard_law_view.specs.Prelude.{BackIn, ClientBlock, Event, FrontIn, FrontState, Machine, NodeState, Out, Packet, Place, Rec, Station, StepFault, ToClient, Turn, What, client_acts, client_gets, client_goes_on, client_put, client_takes, client_timer, decoded, delivered, from_place, front_acts, front_gave, front_setting, front_step, happens, is_client_armed, is_no_node, limit_reached, machine_step, machine_to_client, machine_to_front, machine_told, node_acts, node_at, node_gave, node_setting, node_step, out_of, packet_at, packets_of, passed, timer, timer_at, to_place, unless_limit}
use Rattle.lard_base.specs.declared.event.Event.TheVariants as event
use Rattle.lard_base.specs.declared.place.Place.TheVariants as place
use Rattle.lard_rules.specs.declared.fault.Refusal.TheVariants.{NoNode, WasLost}
use Rattle.lard_rules.specs.declared.fault.StepFault.TheVariants.{Limit, Refused}
use Rattle.lard_history.proofs.Each.{Each}
use Rattle.lard_history.proofs.Seeing.{by_number}
use Rattle.lard_journal.specs.declared.rec.Rec.TheVariants as rec
use Rattle.lard_rules.specs.declared.node.BackIn.TheVariants as back
use Rattle.lard_rules.specs.declared.front.FrontIn.TheVariants as input
use Rattle.lard_settling.specs.Settling.{Stop, all_inner}
use Rattle.lard_law_settles.specs.SettlesStops.{StopsAtLimits}
use Rattle.lard_settling.specs.Steps.{as_inner, inner_given, inner_step}
use Rattle.lard_table.proofs.Map.{get_inserted, get_other}

-- ---- what a step leaves as it was

-- a client that opened is there for ever
abbrev pub HasClient : Machine → ℕ → Type 0
HasClient m c = (x : Station) × (table.get m.clients c ≡ Some x)

-- The numbers of the run are the same, each client that opened is there, and packets only come.
abbrev pub Keeps : Machine → Machine → Type 0
Keeps m n = (n.config ≡ m.config) × ((c : ℕ) → HasClient m c → HasClient n c) × ((more : List Packet) × (n.net ≡ m.net ++ more))

told-keeps : (m : Machine) (e : Event) (own : List Rec) (p : Place) (o : Out) → Keeps m (machine_told m e own p o)
unfolding machine_told
told-keeps m e own p o = (refl, λ c h. h, (packets_of p o.segments ++ packets_of p o.messages, append_assoc m.net (packets_of p o.segments) (packets_of p o.messages)))

passed-keeps : (m : Machine) (e : Event) (own : List Rec) → Keeps m (passed m e own)
passed-keeps m e own = (refl, λ c h. h, ([], sym (append-nil m.net)))

put-has : (m : Machine) (c : ℕ) (x : Station) (q : ℕ) → HasClient m q → HasClient (client_put m c x) q
put-has m c x q h = by_number (HasClient (client_put m c x) q) c q
    (λ same. (x, ap (table.get (table.insert m.clients c x)) (sym same) ∙ get_inserted m.clients c x))
    (λ other. (h.0, get_other m.clients c q x (λ e. other (sym e)) ∙ h.1))

client-keeps : (m : Machine) (e : Event) (own : List Rec) (c : ℕ) (x : Station) (given : ClientBlock × Turn) → Keeps m (client_goes_on m e own c x given)
client-keeps m e own c x given =
    let w : Machine = client_put m c (record { client = given.0; iss = x.iss }) in
    let k : Keeps w (client_goes_on m e own c x given) = told-keeps w e own (place.Client c) (out_of (place.Client c) c (is_client_armed x.client) (is_client_armed given.0) given.1) in
    (k.0, λ q h. k.1 q (put-has m c (record { client = given.0; iss = x.iss }) q h), k.2)

front-gave-keeps : (m : Machine) (e : Event) (own : List Rec) (given : FrontState × Out) → Keeps m (front_gave m e own given)
front-gave-keeps m e own given = told-keeps (record m { front = given.0 }) e own place.Front given.1

front-keeps : (m : Machine) (e : Event) (own : List Rec) (i : FrontIn) → Keeps m (front_acts m e own i)
front-keeps m e own i = front-gave-keeps m e own (front_step (front_setting m) m.front i)

gave-keeps : (m : Machine) (e : Event) (own : List Rec) (n : ℕ) (given : NodeState × Out) → Keeps m (node_gave m e own n given)
gave-keeps m e own n given = told-keeps (record m { nodes = slice_set m.nodes (n - 1) given.0 }) e own (place.Node n) given.1

node-keeps : (m : Machine) (e : Event) (own : List Rec) (n : ℕ) (i : BackIn) (o : Option NodeState) → Keeps m (node_acts m e own n i o)
node-keeps m e own n i None = passed-keeps m e own
node-keeps m e own n i (Some s) = gave-keeps m e own n (node_step (node_setting m n) s i)

-- ---- packets

front-gets : (m : Machine) (k : ℕ) (bytes : List ℕ) (c : ℕ) (o : Option Station) → Keeps m (machine_to_front m k bytes c o)
front-gets m k bytes c None = passed-keeps m (event.Deliver k) (rec.Got k ∷ [])
front-gets m k bytes c (Some x) = front-keeps m (event.Deliver k) (rec.Got k ∷ []) (input.Segment c (record { 0 = x.iss }) bytes)

client-gets : (m : Machine) (k : ℕ) (bytes : List ℕ) (c : ℕ) (o : Option Station) → Keeps m (machine_to_client m k bytes c o)
client-gets m k bytes c None = passed-keeps m (event.Deliver k) (rec.Got k ∷ [])
client-gets m k bytes c (Some x) = client-keeps m (event.Deliver k) (rec.Got k ∷ []) c x (client_gets x.client (decoded bytes c ToClient))

from-keeps : (m : Machine) (k : ℕ) (bytes : List ℕ) (from : Place) → Keeps m (from_place m k bytes from)
from-keeps m k bytes (place.Client c) = front-gets m k bytes c (table.get m.clients c)
from-keeps m k bytes place.Front = passed-keeps m (event.Deliver k) (rec.Got k ∷ [])
from-keeps m k bytes (place.Node n) = front-keeps m (event.Deliver k) (rec.Got k ∷ []) (input.Message n bytes)

place-keeps : (m : Machine) (k : ℕ) (p : Packet) (to : Place) → Keeps m (to_place m k p to)
place-keeps m k p place.Front = from-keeps m k p.bytes p.from
place-keeps m k p (place.Client c) = client-gets m k p.bytes c (table.get m.clients c)
place-keeps m k p (place.Node n) = node-keeps m (event.Deliver k) (rec.Got k ∷ []) n (back.Message p.from p.bytes) (node_at m.nodes n)

-- ---- events that are ready

-- a place whose timer may fire
abbrev pub IsThere : ℕ → Place → Type 0
IsThere nodes (place.Node n) = is_no_node nodes n ≡ false
IsThere nodes place.Front = Unit {0}
IsThere nodes (place.Client c) = Unit {0}

-- the packet was sent, and is not lost
abbrev pub HasPacket : List Packet → ℕ → Type 0
HasPacket net k = (p : Packet) × (packet_at net k ≡ Some p) × (p.lost ≡ false)

-- what the event names is there
abbrev pub IsReady : Machine → Event → Type 0
IsReady m (event.Deliver k) = HasPacket m.net k
IsReady m (event.Take c) = HasClient m c
IsReady m (event.Timer p c) = HasClient m c × IsThere m.config.nodes p
IsReady m _ = ⊥

-- a step is done, and leaves there what was
abbrev IsDone : Machine → Result Machine StepFault → Type 0
IsDone m x = (n : Machine) × (x ≡ Ok n) × Keeps m n

done-by : (m n : Machine) (x : Result Machine StepFault) → x ≡ Ok n → Keeps m n → IsDone m x
done-by m n x is keeps = (n, is, keeps)

deliver-done : (m : Machine) (k : ℕ) → HasPacket m.net k → IsDone m (delivered m k (packet_at m.net k))
unfolding delivered
deliver-done m k h = let p : Packet = h.0 in done-by m (to_place m k p p.to) (delivered m k (packet_at m.net k))
    (ap (delivered m k) h.1 ∙ ap (λ (b : Bool). cond {A = Result Machine StepFault} b (Err (Refused (WasLost k))) (Ok (to_place m k p p.to))) h.2) (place-keeps m k p p.to)

take-done : (m : Machine) (c : ℕ) → HasClient m c → IsDone m (client_acts m (event.Take c) [] c client_takes (table.get m.clients c))
unfolding client_acts
take-done m c h = let x : Station = h.0 in done-by m (client_goes_on m (event.Take c) [] c x (client_takes x.client)) _ (ap (client_acts m (event.Take c) [] c client_takes) h.1) (client-keeps m (event.Take c) [] c x (client_takes x.client))

fires-at : (m : Machine) (p : Place) (c : ℕ) (x : Station) → IsThere m.config.nodes p → IsDone m (timer_at m p c x)
fires-at m place.Front c x there = done-by m _ _ refl (front-keeps m (event.Timer place.Front c) [] (input.Timer c))
fires-at m (place.Client d) c x there = done-by m _ _ refl (client-keeps m (event.Timer (place.Client d) c) [] c x (client_timer x.client))
fires-at m (place.Node n) c x there =
    let after : Machine = node_acts m (event.Timer (place.Node n) c) [] n (back.Timer c) (node_at m.nodes n) in
    done-by m after _ (ap (λ (b : Bool). cond {A = Result Machine StepFault} b (Err (Refused (NoNode n m.config.nodes))) (Ok after)) there)
    (node-keeps m (event.Timer (place.Node n) c) [] n (back.Timer c) (node_at m.nodes n))

fire-done : (m : Machine) (p : Place) (c : ℕ) → HasClient m c → IsThere m.config.nodes p → IsDone m (timer m p c (table.get m.clients c))
unfolding timer
fire-done m p c h there = let x : Station = h.0 in
    let at : IsDone m (timer_at m p c x) = fires-at m p c x there in
    done-by m at.0 (timer m p c (table.get m.clients c)) (ap (timer m p c) h.1 ∙ at.1) at.2

ready-done : (m : Machine) (e : Event) → IsReady m e → IsDone m (happens m e)
ready-done m (event.Deliver k) h = deliver-done m k h
ready-done m (event.Take c) h = take-done m c h
ready-done m (event.Timer p c) h = fire-done m p c h.0 h.1
ready-done m _ h = absurd h

-- ---- inner steps

-- an inner step is done so, or a limit was reached
abbrev pub DoneOrLimit : (Machine → Type 0) → Result Machine StepFault → Type 0
DoneOrLimit P x = ((what : What) × (x ≡ Err (Limit what))) ⊎ ((n : Machine) × (x ≡ Ok n) × P n)

pub inner-done : (P : Machine → Type 0) (m n : Machine) (e : Event) → happens m e ≡ Ok n → P (as_inner m n) → DoneOrLimit P (inner_step m e)
unfolding inner_step machine_step
inner-done P m n e is h = go (limit_reached m) refl where
  go : (o : Option What) → limit_reached m ≡ o → DoneOrLimit P (inner_given m (unless_limit o (happens m e)))
  go None none = inr (as_inner m n, ap (inner_given m) is, h)
  go (Some what) some = inl (what, refl)

pub ready-inner : (m : Machine) (e : Event) → IsReady m e → DoneOrLimit (Keeps m) (inner_step m e)
ready-inner m e ready = let done = ready-done m e ready in inner-done (Keeps m) m done.0 e done.1 done.2

-- ---- what is ready stays so

module _ {A : Type 0} where
  get-front : (xs ys : List A) (i : ℕ) (x : A) → slice_get xs i ≡ Some x → slice_get (xs ++ ys) i ≡ Some x
  get-front [] ys i x e = let no : None ≡ Some x = e in absurd cc
  get-front (y ∷ xs) ys zero x e = e
  get-front (y ∷ xs) ys (suc i) x e = get-front xs ys i x e

pub packet-stays : (net more : List Packet) (k : ℕ) (p : Packet) → packet_at net k ≡ Some p → packet_at (net ++ more) k ≡ Some p
packet-stays net more k p = go (k == 0) where
  go : (b : Bool) → cond b None (slice_get net (k - 1)) ≡ Some p → cond b None (slice_get (net ++ more) (k - 1)) ≡ Some p
  go true e = e
  go false e = get-front net more (k - 1) p e

there-stays : (m n : Machine) → Keeps m n → (p : Place) → IsThere m.config.nodes p → IsThere n.config.nodes p
there-stays m n keeps p there = subst (λ config. IsThere config.nodes p) (sym keeps.0) there

ready-stays : (m n : Machine) → Keeps m n → (e : Event) → IsReady m e → IsReady n e
ready-stays m n keeps (event.Deliver k) h = (h.0, ap (λ (net : List Packet). packet_at net k) keeps.2.1 ∙ packet-stays m.net keeps.2.0 k h.0 h.1, h.2)
ready-stays m n keeps (event.Take c) h = keeps.1 c h
ready-stays m n keeps (event.Timer p c) h = (keeps.1 c h.0, there-stays m n keeps p h.1)
ready-stays m n keeps _ h = absurd h

each-stays : (m n : Machine) → Keeps m n → (es : List Event) → Each (IsReady m) es → Each (IsReady n) es
each-stays m n keeps [] h = tt
each-stays m n keeps (e ∷ es) h = (ready-stays m n keeps e h.0, each-stays m n keeps es h.1)

-- ---- lists of events

abbrev then : Machine → List Event → Result Machine StepFault → Result Machine Stop
then m es x = elim x as (λ r. Result Machine Stop) [ Err fault ↦ Err (m, fault) | Ok n ↦ all_inner n es ]

-- behind a step that is done, or stops at a limit
pub one-more : (m : Machine) (es : List Event) (P : Machine → Type 0) (x : Result Machine StepFault) → DoneOrLimit P x → ((n : Machine) → P n → StopsAtLimits (all_inner n es)) → StopsAtLimits (then m es x)
one-more m es P x does more = ⊎_elim
    (λ (l : (what : What) × (x ≡ Err (Limit what))). subst (λ y. StopsAtLimits (then m es y)) (sym l.1) (l.0, refl))
    (λ (d : (n : Machine) × (x ≡ Ok n) × P n). subst (λ y. StopsAtLimits (then m es y)) (sym d.1) (more d.0 d.2))
    does

pub all-ready : (es : List Event) (m : Machine) → Each (IsReady m) es → StopsAtLimits (all_inner m es)
unfolding all_inner
all-ready [] m h = tt
all-ready (e ∷ es) m h = one-more m es (Keeps m) (inner_step m e) (ready-inner m e h.0) (λ n keeps. all-ready es n (each-stays m n keeps es h.1))
