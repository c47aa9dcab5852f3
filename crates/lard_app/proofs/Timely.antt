-- No event of a generated schedule is refused: each comes where it may.
use Rattle.std.proofs.Common.{◌≡◌, ◌≢◌, ◌⊎◌, inl, inr, ℕ, zero, suc, ◌+◌, ◌-◌, ◌≤◌, ◌<◌, Bool, true, false, cond, List, [], ◌∷◌, ◌++◌, length, map, Option, Some, None, IsSome, Result, Ok, Err, refl, sym, ap, ◌∙◌, subst, append_assoc, append-nil, arith, length-append}
use Rattle.std.proofs.lemmas.Bool.Decides.{nat_tests}
use Rattle.std.proofs.lemmas.List.{map-append}
use Rattle.std.specs.FinMap as table
use Rattle.std.specs.Ordering.{nat_cmp}
use Rattle.std.specs.Prelude.{nat_eq, nat_lt, slice_get, if◌then◌else◌}
use Rattle.rand_pcg.specs.Lcg.{Lcg}
use Rattle.lard_law_view.specs.Prelude.{BackIn, ClientBlock, Event, FrontIn, Machine, NodeState, Out, Packet, Place, Rec, Refusal, Station, StepFault, Turn, What, client_acted, client_acts, client_emits, client_goes_on, client_opens, client_put, client_shuts, client_writes, delivered, from_place, front_acts, happens, is_client_armed, is_lost, limit_reached, lose_at, lost, machine_opened, machine_start, machine_step, machine_to_client, machine_to_front, machine_told, machine_wrote, node_acts, node_at, numbers_of, out_of, packet_at, packets_of, passed, sent_count, to_place, unless_limit, written_len}
use Rattle.lard_base.specs.declared.event.Event.TheVariants as event
use Rattle.lard_base.specs.declared.place.Place.TheVariants as place
use Rattle.lard_rules.specs.declared.fault.Refusal.TheVariants as refusal
use Rattle.lard_rules.specs.declared.fault.StepFault.TheVariants as fault
use Rattle.lard_rules.specs.declared.front.FrontIn.TheVariants as input
use Rattle.lard_history.proofs.Each.{Each, Each-append}
use Rattle.lard_journal.specs.declared.rec.Rec.TheVariants as rec
use Rattle.lard_rules.specs.declared.fault.What.TheVariants as what
use Rattle.lard_net.proofs.Packets.{lost_length}
use Rattle.lard_rules.specs.declared.node.BackIn.TheVariants as back
use Rattle.lard_table.proofs.Map.{get_inserted, get_other}
use Rattle.lard_settling.specs.Events.{GoesThrough, MayCome, event_step}
use Rattle.lard_settling.specs.Written.{is_settle}
use Rattle.lard_generate.specs.declared.action.Action.TheVariants.{Shut}
use Rattle.lard_generate.specs.Clients.{drawn_actions, drawn_ask, drawn_fate, drawn_open, action_event, fate_at, rounds, shut_at}
use Rattle.lard_generate.specs.Draws.{behind, draw, each, seeded}
use Rattle.lard_generate.specs.Files.{drawn_size}
use Rattle.lard_generate.specs.Generated.{generated}
use Rattle.lard_app.specs.Causes.{MayNotCome}
use Rattle.lard_app.specs.Generate.{run_begins, large}
use Rattle.lard_law_settles.proofs.Events.{plain-done}
use Rattle.lard_app.proofs.Failures.{some_there}
use Rattle.lard_app.proofs.Fit.{IsFit, next-fit}
use Rattle.lard_app.proofs.Reached.{Told, written-told}

-- ---- numbers

same-number : (d c : ℕ) → (d ≡ c) ⊎ (d ≢ c)
same-number d c = go (nat_eq d c) refl where
  go : (b : Bool) → nat_eq d c ≡ b → (d ≡ c) ⊎ (d ≢ c)
  go true e = inl (grind (arith, nat_tests, e))
  go false e = inr (λ s. grind (arith, nat_tests, e, s))

up-to : (d c : ℕ) → d ≤ c + 1 → (d ≡ c + 1) ⊎ (d ≤ c)
up-to d c le = go (nat_eq d (c + 1)) refl where
  go : (b : Bool) → nat_eq d (c + 1) ≡ b → (d ≡ c + 1) ⊎ (d ≤ c)
  go true e = inl (grind (arith, nat_tests, e))
  go false e = inr (grind (arith, nat_tests, e, le))

no-some : {X : Type 0} (o : Option X) → o ≡ None → IsSome o → ⊥
no-some {X = X} o none some = let both = subst (λ (p : Option X). IsSome p) none some in cc

-- ---- events that are all timely

-- nothing refuses the event
abbrev pub IsTimely : Machine → Event → Type 0
IsTimely m e = (reason : Refusal) → ¬ (MayNotCome m e reason)

-- none is refused, as far as those before it are done
abbrev pub AreTimely : Machine → List Event → Type 0
AreTimely m [] = Unit {0}
AreTimely m (e ∷ es) = IsTimely m e × ((n : Machine) → MayCome e → event_step m e ≡ Ok n → AreTimely n es)

-- from any state that is P the events are timely, and lead to states that are Q
record Runs (P : Machine → Type 0) (es : List Event) (Q : Machine → Type 0) : Type 0 where
  pub timely : (m : Machine) → P m → AreTimely m es
  pub leads : (m n : Machine) → P m → GoesThrough m es n → Q n

runs-nothing : (P : Machine → Type 0) → Runs P [] P
runs-nothing P = record { timely = λ m p. tt; leads = λ m n p g. subst P (sym g) p }

runs-one : (P Q : Machine → Type 0) (e : Event) → ((m : Machine) → P m → IsTimely m e) → ((m n : Machine) → P m → MayCome e → event_step m e ≡ Ok n → Q n) → Runs P (e ∷ []) Q
runs-one P Q e may next = record {
  timely = λ m p. (may m p, λ n come is. tt);
  leads = λ m n p g. subst Q (sym g.3) (next m g.0 p g.1 g.2);
}

goes-apart : (xs ys : List Event) (m n : Machine) → GoesThrough m (xs ++ ys) n → (k : Machine) × GoesThrough m xs k × GoesThrough k ys n
goes-apart [] ys m n g = (m, refl, g)
goes-apart (e ∷ es) ys m n g = let more = goes-apart es ys g.0 n g.3 in (more.0, (g.0, g.1, g.2, more.1), more.2)

timely-behind : (xs ys : List Event) (m : Machine) → AreTimely m xs → ((k : Machine) → GoesThrough m xs k → AreTimely k ys) → AreTimely m (xs ++ ys)
timely-behind [] ys m first later = later m refl
timely-behind (e ∷ es) ys m first later = (first.0, λ n come is. timely-behind es ys n (first.1 n come is) (λ k g. later k (n, come, is, g)))

runs-both : (P Q R : Machine → Type 0) (xs ys : List Event) → Runs P xs Q → Runs Q ys R → Runs P (xs ++ ys) R
runs-both P Q R xs ys first second = record {
  timely = λ m p. timely-behind xs ys m (first.timely m p) (λ k g. second.timely k (first.leads m k p g));
  leads = λ m n p g. let parts = goes-apart xs ys m n g in second.leads parts.0 n (first.leads m parts.0 p parts.1) parts.2;
}

runs-weaker : (P Q R : Machine → Type 0) (es : List Event) → ((m : Machine) → Q m → R m) → Runs P es Q → Runs P es R
runs-weaker P Q R es w r = record { timely = r.timely; leads = λ m n p g. w n (r.leads m n p g) }

-- what is made for 1, 2, .., n, each behind those before
runs-each : {A : Type 0} (P : ℕ → Machine → Type 0) (f : ℕ → Lcg → List A × Lcg) (to : List A → List Event) → to [] ≡ [] → ((xs ys : List A) → to (xs ++ ys) ≡ to xs ++ to ys) → (n : ℕ) (g : Lcg)
    → ((k : ℕ) (h : Lcg) → k < n → Runs (P k) (to (f (k + 1) h).0) (P (k + 1))) → Runs (P 0) (to (each f n g).0) (P n)
unfolding each
runs-each P f to none both zero g one = subst (λ (es : List Event). Runs (P 0) es (P 0)) (sym none) (runs-nothing (P 0))
runs-each P f to none both (suc n) g one =
    let before = each f n g in
    let first : Runs (P 0) (to before.0) (P n) = runs-each P f to none both n g (λ k h less. one k h (omega (arith, less))) in
    let last : Runs (P n) (to (f (n + 1) before.1).0) (P (n + 1)) = one n before.1 (omega arith) in
    subst (λ i. Runs (P 0) (to (before.0 ++ (f (n + 1) before.1).0)) (P i)) (omega arith)
    (subst (λ (es : List Event). Runs (P 0) es (P (n + 1))) (sym (both before.0 (f (n + 1) before.1).0)) (runs-both (P 0) (P n) (P (n + 1)) (to before.0) (to (f (n + 1) before.1).0) first last))

-- ---- packets

abbrev IsOnTheWay : Packet → Type 0
IsOnTheWay p = p.lost ≡ false

new-ones : (from : Place) (ss : List (Place × List ℕ)) → Each IsOnTheWay (packets_of from ss)
new-ones from [] = tt
new-ones from (s ∷ ss) = (refl, new-ones from ss)

-- none from this place on, counted from 0, was lost
abbrev AreKept : ℕ → List Packet → Type 0
AreKept c net = (i : ℕ) (p : Packet) → c ≤ i → slice_get net i ≡ Some p → p.lost ≡ false

each-kept : (net : List Packet) → Each IsOnTheWay net → (i : ℕ) (p : Packet) → slice_get net i ≡ Some p → p.lost ≡ false
each-kept [] h i p at = cc
each-kept (q ∷ net) h zero p at = let same : q ≡ p = cc in subst IsOnTheWay same h.0
each-kept (q ∷ net) h (suc i) p at = each-kept net h.1 i p at

kept-more : (c : ℕ) (net more : List Packet) → AreKept c net → Each IsOnTheWay more → AreKept c (net ++ more)
kept-more c [] more h new i p le at = each-kept more new i p at
kept-more c (q ∷ net) more h new zero p le at = h zero p le at
kept-more c (q ∷ net) more h new (suc i) p le at = kept-more (c - 1) net more (λ j r low found. h (suc j) r (omega (arith, low)) found) new i p (omega (arith, le)) at

kept-but : (c : ℕ) (net : List Packet) → AreKept c net → AreKept (c + 1) (lose_at c net)
kept-but c [] h i p le at = cc
kept-but zero (q ∷ net) h zero p le at = absurd (omega (arith, le))
kept-but zero (q ∷ net) h (suc i) p le at = h (suc i) p (omega arith) at
kept-but (suc c) (q ∷ net) h zero p le at = absurd (omega (arith, le))
kept-but (suc c) (q ∷ net) h (suc i) p le at = kept-but c net (λ j r low found. h (suc j) r (omega (arith, low)) found) i p (omega (arith, le)) at

-- packets were sent, and none was lost
record Sends (m n : Machine) : Type 0 where
  pub more : List Packet
  pub net : n.net ≡ m.net ++ more
  pub new : Each IsOnTheWay more

told-sends : (m k : Machine) (e : Event) (own : List Rec) (p : Place) (out : Out) → k.net ≡ m.net → Sends m (machine_told k e own p out)
unfolding machine_told
told-sends m k e own p out same = record {
  more = packets_of p out.segments ++ packets_of p out.messages;
  net = append_assoc k.net (packets_of p out.segments) (packets_of p out.messages) ∙ ap (λ (net : List Packet). net ++ (packets_of p out.segments ++ packets_of p out.messages)) same;
  new = Each-append IsOnTheWay (packets_of p out.segments) (packets_of p out.messages) (new-ones p out.segments) (new-ones p out.messages);
}

sends-nothing : (m n : Machine) → n.net ≡ m.net → Sends m n
sends-nothing m n same = record { more = []; net = same ∙ sym (append-nil m.net); new = tt }

sends-longer : (m n : Machine) → Sends m n → length m.net ≤ length n.net
sends-longer m n s = let sum = length-append m.net s.more in let is : length n.net ≡ length (m.net ++ s.more) = ap (λ (net : List Packet). length net) s.net in omega (arith, sum, is)

sends-kept : (c : ℕ) (m n : Machine) → Sends m n → AreKept c m.net → AreKept c n.net
sends-kept c m n s kept = subst (AreKept c) (sym s.net) (kept-more c m.net s.more kept s.new)

-- ---- steps

-- what a step that is done gives, whatever the limits
done-happens : (m n : Machine) (e : Event) → is_settle e ≡ false → event_step m e ≡ Ok n → happens m e ≡ Ok n
unfolding machine_step
done-happens m n e nots is = go (limit_reached m) (plain-done m n e nots is) where
  go : (o : Option What) → unless_limit o (happens m e) ≡ Ok n → happens m e ≡ Ok n
  go None h = h
  go (Some what) h = cc

ok-same : (m n : Machine) → ◌≡◌ {A = Result Machine StepFault} (Ok m) (Ok n) → m ≡ n
ok-same m n e = cc

-- the clients that opened
abbrev IsOpen : Machine → ℕ → Type 0
IsOpen m c = IsSome (table.get m.clients c)

-- The first clients opened, and no other; their SYNs are the first packets, and no packet was lost.
record HasOpened (count : ℕ) (m : Machine) : Type 0 where
  pub fit : IsFit m
  pub open_ : (c : ℕ) → 1 ≤ c → c ≤ count → IsOpen m c
  pub others : (c : ℕ) → count < c → table.get m.clients c ≡ None
  pub sent : count ≤ length m.net
  pub kept : AreKept 0 m.net

-- So many packets at least were sent, and of those from here on none was lost.
record Floats (count from : ℕ) (m : Machine) : Type 0 where
  pub fit : IsFit m
  pub sent : count ≤ length m.net
  pub kept : AreKept from m.net

-- a client's part was put, and packets were sent
record Puts (m n : Machine) (c : ℕ) : Type 0 where
  pub station : Station
  pub clients : n.clients ≡ table.insert m.clients c station
  pub sends : Sends m n

put-told : (m : Machine) (e : Event) (own : List Rec) (p : Place) (out : Out) (c : ℕ) (x : Station) → Puts m (machine_told (client_put m c x) e own p out) c
unfolding machine_told
put-told m e own p out c x = record { station = x; clients = refl; sends = told-sends m (client_put m c x) e own p out refl }

-- a client that opened acts
does-puts : (m n : Machine) (e : Event) (own : List Rec) (c : ℕ) (rule : ClientBlock → ClientBlock × Turn) (o : Option Station) → client_acts m e own c rule o ≡ Ok n → Puts m n c
unfolding client_acts
does-puts m n e own c rule None is = cc
does-puts m n e own c rule (Some x) is = subst (λ (k : Machine). Puts m k c) (ok-same (client_goes_on m e own c x (rule x.client)) n is) (put-told m e own (place.Client c) _ c _)

wrote-puts : (m n : Machine) (e : Event) (c : ℕ) (bytes : List ℕ) (o : Option Station) → machine_wrote m e c bytes o ≡ Ok n → Puts m n c
unfolding machine_wrote
wrote-puts m n e c bytes None is = cc
wrote-puts m n e c bytes (Some x) is = go (nat_lt m.config.stream (written_len x.client bytes)) is where
  go : (b : Bool) → cond {A = Result Machine StepFault} b (Err (fault.Limit what.Stream)) (Ok (client_goes_on m e [] c x (client_writes x.client bytes))) ≡ Ok n → Puts m n c
  go true h = cc
  go false h = subst (λ (k : Machine). Puts m k c) (ok-same (client_goes_on m e [] c x (client_writes x.client bytes)) n h) (put-told m e [] (place.Client c) _ c _)

-- ---- an open

-- a client's SYN goes out as it opens
syn-goes : (c isn wnd mss : ℕ) → 1 ≤ length (client_opens c isn wnd mss).1.segments
unfolding client_emits
syn-goes c isn wnd mss = omega arith

length-packets : (from : Place) (ss : List (Place × List ℕ)) → length (packets_of from ss) ≡ length ss
length-packets from [] = refl
length-packets from (s ∷ ss) = ap suc (length-packets from ss)

-- the machine after the open of a client that has not opened
abbrev opening : Machine → ℕ → ℕ → ℕ → ℕ → ℕ → Machine
opening m c isn iss wnd mss = client_acted m (event.Open c isn iss wnd mss) (rec.Opened c isn iss wnd mss ∷ []) c iss false (client_opens c isn wnd mss)

-- it is put, and a packet at least is sent
record Opens (m n : Machine) (c : ℕ) : Type 0 where
  pub puts : Puts m n c
  pub longer : length m.net + 1 ≤ length n.net

opened-opens : (m : Machine) (c isn iss wnd mss : ℕ) → Opens m (opening m c isn iss wnd mss) c
unfolding machine_told
opened-opens m c isn iss wnd mss =
    let given = client_opens c isn wnd mss in
    record {
      puts = put-told m (event.Open c isn iss wnd mss) (rec.Opened c isn iss wnd mss ∷ []) (place.Client c) (out_of (place.Client c) c false (is_client_armed given.0) given.1) c (record { client = given.0; iss = iss });
      longer =
          let first = length-append (m.net ++ packets_of (place.Client c) given.1.segments) [] in
          let second = length-append m.net (packets_of (place.Client c) given.1.segments) in
          let third = length-packets (place.Client c) given.1.segments in
          let some = syn-goes c isn wnd mss in
          omega (arith, first, second, third, some);
    }

open-opens : (m n : Machine) (c isn iss wnd mss : ℕ) (o : Option Station) → machine_opened m c isn iss wnd mss o ≡ Ok n → Opens m n c
unfolding machine_opened
open-opens m n c isn iss wnd mss (Some x) is = cc
open-opens m n c isn iss wnd mss None is = subst (λ (k : Machine). Opens m k c) (ok-same (opening m c isn iss wnd mss) n is) (opened-opens m c isn iss wnd mss)

-- ---- a delivery

acts-sends : (m : Machine) (k n : ℕ) (i : BackIn) (o : Option NodeState) → Sends m (node_acts m (event.Deliver k) (rec.Got k ∷ []) n i o)
acts-sends m k n i None = sends-nothing m (passed m (event.Deliver k) (rec.Got k ∷ [])) refl
acts-sends m k n i (Some s) = told-sends m _ (event.Deliver k) (rec.Got k ∷ []) (place.Node n) _ refl

front-sends : (m : Machine) (k : ℕ) (i : FrontIn) → Sends m (front_acts m (event.Deliver k) (rec.Got k ∷ []) i)
front-sends m k i = told-sends m _ (event.Deliver k) (rec.Got k ∷ []) place.Front _ refl

segment-sends : (m : Machine) (k : ℕ) (bytes : List ℕ) (c : ℕ) (o : Option Station) → Sends m (machine_to_front m k bytes c o)
segment-sends m k bytes c None = sends-nothing m (passed m (event.Deliver k) (rec.Got k ∷ [])) refl
segment-sends m k bytes c (Some x) = front-sends m k (input.Segment c (record { 0 = x.iss }) bytes)

client-sends : (m : Machine) (k : ℕ) (bytes : List ℕ) (c : ℕ) (o : Option Station) → Sends m (machine_to_client m k bytes c o)
client-sends m k bytes c None = sends-nothing m (passed m (event.Deliver k) (rec.Got k ∷ [])) refl
client-sends m k bytes c (Some x) = (put-told m (event.Deliver k) (rec.Got k ∷ []) (place.Client c) _ c _).sends

from-sends : (m : Machine) (k : ℕ) (bytes : List ℕ) (from : Place) → Sends m (from_place m k bytes from)
from-sends m k bytes (place.Client c) = segment-sends m k bytes c (table.get m.clients c)
from-sends m k bytes place.Front = sends-nothing m (passed m (event.Deliver k) (rec.Got k ∷ [])) refl
from-sends m k bytes (place.Node n) = front-sends m k (input.Message n bytes)

place-sends : (m : Machine) (k : ℕ) (p : Packet) (to : Place) → Sends m (to_place m k p to)
place-sends m k p place.Front = from-sends m k p.bytes p.from
place-sends m k p (place.Client c) = client-sends m k p.bytes c (table.get m.clients c)
place-sends m k p (place.Node n) = acts-sends m k n (back.Message p.from p.bytes) (node_at m.nodes n)

delivered-sends : (m n : Machine) (k : ℕ) (o : Option Packet) → delivered m k o ≡ Ok n → Sends m n
unfolding delivered
delivered-sends m n k None is = cc
delivered-sends m n k (Some p) is = go p.lost is where
  go : (b : Bool) → cond {A = Result Machine StepFault} b (Err (fault.Refused (refusal.WasLost k))) (Ok (to_place m k p p.to)) ≡ Ok n → Sends m n
  go true h = cc
  go false h = subst (Sends m) (ok-same (to_place m k p p.to) n h) (place-sends m k p p.to)

-- ---- a loss

lost-net : (m n : Machine) (k : ℕ) (o : Option Packet) → lost m k o ≡ Ok n → n.net ≡ lose_at (k - 1) m.net
unfolding lost
lost-net m n k None is = cc
lost-net m n k (Some p) is = go p.lost is where
  go : (b : Bool) → cond {A = Result Machine StepFault} b (Err (fault.Refused (refusal.WasLost k))) (Ok (passed (record m { net = lose_at (k - 1) m.net }) (event.Lose k) (rec.Lost k ∷ []))) ≡ Ok n → n.net ≡ lose_at (k - 1) m.net
  go true h = cc
  go false h = ap (λ (j : Machine). j.net) (sym (ok-same (passed (record m { net = lose_at (k - 1) m.net }) (event.Lose k) (rec.Lost k ∷ [])) n h))

-- ---- clients

-- who had opened is open still, and nobody else
put-open : (m n : Machine) (c count : ℕ) → Puts m n c → ((d : ℕ) → 1 ≤ d → d ≤ count → IsOpen m d) → (d : ℕ) → 1 ≤ d → d ≤ count → IsOpen n d
put-open m n c count p open_ d low high = go (same-number d c) where
  here : d ≡ c → IsOpen n d
  here e = subst (λ (t : table.FinMap nat_cmp Station). IsSome (table.get t d)) (sym p.clients) (subst (λ i. IsSome (table.get (table.insert m.clients i p.station) d)) e (subst (λ (o : Option Station). IsSome o) (sym (get_inserted m.clients d p.station)) refl))

  go : (d ≡ c) ⊎ (d ≢ c) → IsOpen n d
  go (inl e) = here e
  go (inr other) = subst (λ (t : table.FinMap nat_cmp Station). IsSome (table.get t d)) (sym p.clients) (subst (λ (o : Option Station). IsSome o) (sym (get_other m.clients c d p.station other)) (open_ d low high))

put-others : (m n : Machine) (c d : ℕ) → Puts m n c → d ≢ c → table.get m.clients d ≡ None → table.get n.clients d ≡ None
put-others m n c d p other none = ap (λ (t : table.FinMap nat_cmp Station). table.get t d) p.clients ∙ get_other m.clients c d p.station other ∙ none

-- ---- events that may come

told-of : (m : Machine) → IsFit m → Told m
told-of m fit = written-told m.config m.files m fit.written fit.checked

-- an open of a client that has not opened
open-timely : (m : Machine) (c isn iss wnd mss : ℕ) → IsFit m → table.get m.clients c ≡ None → IsTimely m (event.Open c isn iss wnd mss)
open-timely m c isn iss wnd mss fit none (refusal.Used d) may = no-some _ (subst (λ i. numbers_of m.journal i ≡ None) may.1.0 ((told-of m fit).unopened c none)) may.1.1
open-timely m c isn iss wnd mss fit none _ may = may.1.0

-- an event of a client that opened
client-known : (m : Machine) (c d : ℕ) → IsFit m → IsOpen m c → c ≡ d → ¬ (numbers_of m.journal d ≡ None)
client-known m c d fit open_ same none = go (table.get m.clients c) refl where
  go : (o : Option Station) → table.get m.clients c ≡ o → ⊥
  go None at = absurd (let both = subst (λ (o : Option Station). IsSome o) at open_ in cc)
  go (Some x) at = no-some _ (subst (λ i. numbers_of m.journal i ≡ None) (sym same) none) ((told-of m fit).opened c x at)

write-timely : (m : Machine) (c : ℕ) (bytes : List ℕ) → IsFit m → IsOpen m c → IsTimely m (event.Write c bytes)
write-timely m c bytes fit open_ (refusal.NoClient d) may = client-known m c d fit open_ may.1.0 may.1.1
write-timely m c bytes fit open_ _ may = may.1.0

shut-timely : (m : Machine) (c : ℕ) → IsFit m → IsOpen m c → IsTimely m (event.Shut c)
shut-timely m c fit open_ (refusal.NoClient d) may = client-known m c d fit open_ may.1.0 may.1.1
shut-timely m c fit open_ _ may = may.1.0

-- packet c + 1 was sent, and not lost
sent-known : (m : Machine) (c k sent : ℕ) → IsFit m → c + 1 ≤ length m.net → c + 1 ≡ k → sent ≡ sent_count m.journal → ¬ ((k ≡ 0) ⊎ (sent < k))
sent-known m c k sent fit there same is (inl none) = omega (arith, same, none)
sent-known m c k sent fit there same is (inr less) = let count = (told-of m fit).sent in omega (arith, there, same, is, less, count)

kept-known : (m : Machine) (c k : ℕ) → IsFit m → c + 1 ≤ length m.net → AreKept c m.net → c + 1 ≡ k → ¬ (is_lost m.journal k ≡ true)
kept-known m c k fit there kept same gone =
    let p = some_there m.net (suc c) (omega arith) (omega (arith, there)) in
    let at : packet_at m.net (suc c) ≡ Some p.0 = p.1 in
    let test : nat_eq (suc c) 0 ≡ false = grind (arith, nat_tests) in
    let found : slice_get m.net c ≡ Some p.0 = ap (slice_get m.net) (omega arith) ∙ ap (λ b. cond b None (slice_get m.net (suc c - 1))) (sym test) ∙ at in
    let both : false ≡ true = sym (kept c p.0 (omega arith) found) ∙ sym ((told-of m fit).lost (suc c) p.0 at) ∙ ap (is_lost m.journal) (omega (arith, same)) ∙ gone in cc

deliver-timely : (m : Machine) (c : ℕ) → IsFit m → c + 1 ≤ length m.net → AreKept c m.net → IsTimely m (event.Deliver (c + 1))
deliver-timely m c fit there kept (refusal.NotSent k sent) may = sent-known m c k sent fit there may.1.0 may.1.1 may.1.2
deliver-timely m c fit there kept (refusal.WasLost k) may = kept-known m c k fit there kept may.1.0 may.1.3
deliver-timely m c fit there kept _ may = may.1.0

lose-timely : (m : Machine) (c : ℕ) → IsFit m → c + 1 ≤ length m.net → AreKept c m.net → IsTimely m (event.Lose (c + 1))
lose-timely m c fit there kept (refusal.NotSent k sent) may = sent-known m c k sent fit there may.1.0 may.1.1 may.1.2
lose-timely m c fit there kept (refusal.WasLost k) may = kept-known m c k fit there kept may.1.0 may.1.3
lose-timely m c fit there kept _ may = may.1.0

-- ---- the parts of the schedule

-- one more client opens
open-runs : (c : ℕ) (isn iss wnd mss : ℕ) → Runs (HasOpened c) (event.Open (c + 1) isn iss wnd mss ∷ []) (HasOpened (c + 1))
open-runs c isn iss wnd mss = runs-one (HasOpened c) (HasOpened (c + 1)) (event.Open (c + 1) isn iss wnd mss)
    (λ m h. open-timely m (c + 1) isn iss wnd mss h.fit (h.others (c + 1) (omega arith)))
    (λ m n h come is.
    let o : Opens m n (c + 1) = open-opens m n (c + 1) isn iss wnd mss (table.get m.clients (c + 1)) (done-happens m n (event.Open (c + 1) isn iss wnd mss) refl is) in
    record {
      fit = next-fit m n (event.Open (c + 1) isn iss wnd mss) come h.fit is;
      open_ = λ d low high. go m n h o d low (up-to d c high);
      others = λ d above. put-others m n (c + 1) d o.puts (λ e. omega (arith, above, e)) (h.others d (omega (arith, above)));
      sent = let longer = o.longer in omega (arith, longer, h.sent);
      kept = sends-kept 0 m n o.puts.sends h.kept;
    }) where
      go : (m n : Machine) → HasOpened c m → Opens m n (c + 1) → (d : ℕ) → 1 ≤ d → (d ≡ c + 1) ⊎ (d ≤ c) → IsOpen n d
      go m n h o d low (inl e) = subst (λ (t : table.FinMap nat_cmp Station). IsSome (table.get t d)) (sym o.puts.clients)
          (subst (λ i. IsSome (table.get (table.insert m.clients i o.puts.station) d)) e (subst (λ (x : Option Station). IsSome x) (sym (get_inserted m.clients d o.puts.station)) refl))
      go m n h o d low (inr less) = put-open m n (c + 1) c o.puts h.open_ d low less

-- what a client does that opened leaves all that open, and loses nothing
puts-keeps : (count c : ℕ) (m n : Machine) → 1 ≤ c → c ≤ count → IsFit n → Puts m n c → HasOpened count m → HasOpened count n
puts-keeps count c m n low high fit p h = record {
  fit = fit;
  open_ = put-open m n c count p h.open_;
  others = λ d above. put-others m n c d p (λ e. omega (arith, above, high, e)) (h.others d above);
  sent = let longer = sends-longer m n p.sends in omega (arith, longer, h.sent);
  kept = sends-kept 0 m n p.sends h.kept;
}

write-runs : (count c : ℕ) (bytes : List ℕ) → 1 ≤ c → c ≤ count → Runs (HasOpened count) (event.Write c bytes ∷ []) (HasOpened count)
write-runs count c bytes low high = runs-one (HasOpened count) (HasOpened count) (event.Write c bytes)
    (λ m h. write-timely m c bytes h.fit (h.open_ c low high))
    (λ m n h come is. puts-keeps count c m n low high (next-fit m n (event.Write c bytes) come h.fit is)
    (wrote-puts m n (event.Write c bytes) c bytes (table.get m.clients c) (done-happens m n (event.Write c bytes) refl is)) h)

shut-runs : (count c : ℕ) → 1 ≤ c → c ≤ count → Runs (HasOpened count) (event.Shut c ∷ []) (HasOpened count)
shut-runs count c low high = runs-one (HasOpened count) (HasOpened count) (event.Shut c)
    (λ m h. shut-timely m c h.fit (h.open_ c low high))
    (λ m n h come is. puts-keeps count c m n low high (next-fit m n (event.Shut c) come h.fit is)
    (does-puts m n (event.Shut c) [] c client_shuts (table.get m.clients c) (done-happens m n (event.Shut c) refl is)) h)

-- a packet comes
deliver-runs : (count c : ℕ) → c + 1 ≤ count → Runs (Floats count c) (event.Deliver (c + 1) ∷ []) (Floats count c)
deliver-runs count c there = runs-one (Floats count c) (Floats count c) (event.Deliver (c + 1))
    (λ m f. deliver-timely m c f.fit (omega (arith, there, f.sent)) f.kept)
    (λ m n f come is.
    let s : Sends m n = delivered-sends m n (c + 1) (packet_at m.net (c + 1)) (done-happens m n (event.Deliver (c + 1)) refl is) in
    record { fit = next-fit m n (event.Deliver (c + 1)) come f.fit is; sent = let longer = sends-longer m n s in omega (arith, longer, f.sent); kept = sends-kept c m n s f.kept })

-- a packet is lost
lose-runs : (count c : ℕ) → c + 1 ≤ count → Runs (Floats count c) (event.Lose (c + 1) ∷ []) (Floats count (c + 1))
lose-runs count c there = runs-one (Floats count c) (Floats count (c + 1)) (event.Lose (c + 1))
    (λ m f. lose-timely m c f.fit (omega (arith, there, f.sent)) f.kept)
    (λ m n f come is.
    let net : n.net ≡ lose_at c m.net = lost-net m n (c + 1) (packet_at m.net (c + 1)) (done-happens m n (event.Lose (c + 1)) refl is) ∙ ap (λ i. lose_at i m.net) (omega arith) in
    let long : length n.net ≡ length m.net = ap (λ (ps : List Packet). length ps) net ∙ lost_length c m.net in
    record { fit = next-fit m n (event.Lose (c + 1)) come f.fit is; sent = omega (arith, long, f.sent); kept = subst (AreKept (c + 1)) (sym net) (kept-but c m.net f.kept) })

floats-on : (count c : ℕ) (m : Machine) → Floats count c m → Floats count (c + 1) m
floats-on count c m f = record { fit = f.fit; sent = f.sent; kept = λ i p le at. f.kept i p (omega (arith, le)) at }

-- ---- the whole schedule

opens-run : (clients : ℕ) (g : Lcg) → Runs (HasOpened 0) (each drawn_open clients g).0 (HasOpened clients)
opens-run clients g = runs-each HasOpened drawn_open (λ es. es) refl (λ xs ys. refl) clients g (λ k h less. open-runs k _ _ 65535 1460)

shut-run : (clients c draw : ℕ) → 1 ≤ c → c ≤ clients → Runs (HasOpened clients) (map action_event (shut_at c draw)) (HasOpened clients)
shut-run clients c draw low high = go (nat_eq draw 0) where
  go : (b : Bool) → Runs (HasOpened clients) (map action_event (if b then [] else Shut c ∷ [])) (HasOpened clients)
  go true = runs-nothing (HasOpened clients)
  go false = shut-runs clients c low high

asks-run : (clients c n : ℕ) (g : Lcg) → 1 ≤ c → c ≤ clients → Runs (HasOpened clients) (map action_event (each (drawn_ask c) n g).0) (HasOpened clients)
asks-run clients c n g low high = runs-each (λ k. HasOpened clients) (drawn_ask c) (map action_event) refl (map-append action_event) n g (λ k h less. write-runs clients c _ low high)

client-runs : (clients c : ℕ) (g : Lcg) → 1 ≤ c → c ≤ clients → Runs (HasOpened clients) (map action_event (drawn_actions c g).0) (HasOpened clients)
client-runs clients c g low high =
    let asks = each (drawn_ask c) (1 + draw 10 g) (behind g) in
    subst (λ (es : List Event). Runs (HasOpened clients) es (HasOpened clients)) (sym (map-append action_event asks.0 (shut_at c (draw 4 asks.1))))
    (runs-both (HasOpened clients) (HasOpened clients) (HasOpened clients) (map action_event asks.0) (map action_event (shut_at c (draw 4 asks.1)))
    (asks-run clients c (1 + draw 10 g) (behind g) low high) (shut-run clients c (draw 4 asks.1) low high))

actions-run : (clients : ℕ) (g : Lcg) → Runs (HasOpened clients) (map action_event (each drawn_actions clients g).0) (HasOpened clients)
actions-run clients g = runs-each (λ k. HasOpened clients) drawn_actions (map action_event) refl (map-append action_event) clients g (λ k h less. client-runs clients (k + 1) h (omega arith) (omega (arith, less)))

fate-runs : (clients c draw : ℕ) → c < clients → Runs (Floats clients c) (fate_at (c + 1) draw) (Floats clients (c + 1))
fate-runs clients c draw less = go (nat_eq draw 0) (nat_eq draw 1) where
  come : Runs (Floats clients c) (event.Deliver (c + 1) ∷ []) (Floats clients c)
  come = deliver-runs clients c (omega (arith, less))

  go : (a b : Bool) → Runs (Floats clients c) (if a then event.Lose (c + 1) ∷ [] else if b then event.Deliver (c + 1) ∷ event.Deliver (c + 1) ∷ [] else []) (Floats clients (c + 1))
  go true b = lose-runs clients c (omega (arith, less))
  go false true = runs-weaker (Floats clients c) (Floats clients c) (Floats clients (c + 1)) (event.Deliver (c + 1) ∷ event.Deliver (c + 1) ∷ []) (floats-on clients c)
      (runs-both (Floats clients c) (Floats clients c) (Floats clients c) (event.Deliver (c + 1) ∷ []) (event.Deliver (c + 1) ∷ []) come come)
  go false false = runs-weaker (Floats clients c) (Floats clients c) (Floats clients (c + 1)) [] (floats-on clients c) (runs-nothing (Floats clients c))

fates-run : (clients : ℕ) (g : Lcg) → Runs (Floats clients 0) (each drawn_fate clients g).0 (Floats clients clients)
fates-run clients g = runs-each (Floats clients) drawn_fate (λ es. es) refl (λ xs ys. refl) clients g (λ k h less. fate-runs clients k (draw 8 h) less)

settle-runs : (P : Machine → Type 0) (rounds : ℕ) → Runs P (event.Settle rounds ∷ []) (λ m. Unit {0})
settle-runs P rounds = runs-one P (λ m. Unit {0}) (event.Settle rounds) (λ m p cause may. may) (λ m n p come is. tt)

nobody : (files : List (List ℕ × List ℕ)) → IsFit (machine_start large files) → HasOpened 0 (machine_start large files)
nobody files fit = record {
  fit = fit;
  open_ = λ c low high. absurd (omega (arith, low, high));
  others = λ c above. table.get-empty nat_cmp c;
  sent = omega arith;
  kept = λ i p le at. cc;
}

-- no event of a generated schedule is refused
pub are-timely : (seed clients : ℕ) → IsFit (run_begins (generated seed clients)) → AreTimely (run_begins (generated seed clients)) (generated seed clients).events
unfolding generated
are-timely seed clients fit =
    let sizes = each drawn_size 256 (seeded seed) in
    let opens = each drawn_open clients sizes.1 in
    let actions = each drawn_actions clients opens.1 in
    let fates = each drawn_fate clients actions.1 in
    let moves = map action_event actions.0 in
    let last = event.Settle (rounds clients sizes.0 actions.0) in
    let first : Runs (HasOpened 0) (opens.0 ++ moves) (Floats clients 0) =
    runs-weaker (HasOpened 0) (HasOpened clients) (Floats clients 0) (opens.0 ++ moves) (λ m h. record { fit = h.fit; sent = h.sent; kept = h.kept })
    (runs-both (HasOpened 0) (HasOpened clients) (HasOpened clients) opens.0 moves (opens-run clients sizes.1) (actions-run clients opens.1)) in
    let second : Runs (HasOpened 0) (opens.0 ++ moves ++ fates.0) (Floats clients clients) = runs-both (HasOpened 0) (Floats clients 0) (Floats clients clients) (opens.0 ++ moves) fates.0 first (fates-run clients actions.1) in
    (runs-both (HasOpened 0) (Floats clients clients) (λ m. Unit {0}) (opens.0 ++ moves ++ fates.0) (last ∷ []) second (settle-runs (Floats clients clients) _)).timely (run_begins (generated seed clients)) (nobody (generated seed clients).files fit)
