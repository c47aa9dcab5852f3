-- The client rule as a fold, rule by rule.
use Rattle.std.proofs.Common.{◌≡◌, ℕ, List, [], ◌∷◌, ◌++◌, map, true, false, Option, Some, None, refl, sym, ap, ◌∙◌, subst, append-nil, inl}
use Rattle.std.proofs.lemmas.List.{map-append}
use Rattle.std.proofs.lemmas.List.Sums.{fold-append}
use Rattle.std.specs.List.{fold}
use Rattle.lard_law_view.specs.Prelude.{Came, Client, ClientBlock, ClientGets, ClientReceives, Config, Conn, Front, IsClientStep, IsGiven, IsLaw, IsNobody, IsStepLaw, MayRestOn, Move, MustKeepTables, Node, NoneOfClient, OfEach, Place, Rec, Row, Rules, Seen, Setting, Station, Turn, after_turn, client_begins, client_does, client_injects, client_of, client_opens, client_rule, client_step, client_turn, grown, is_client_armed, is_opening, nothing_said, packet_seen, rows_of, seen_in, setting, stands, station_armed, timer_change, timer_rows, turn_rows, with_leaving}
use Rattle.lard_base.specs.declared.event.Event.TheVariants as event
use Rattle.lard_laws.specs.ClientsLaws.{ClientsKeepTheirTables}
use Rattle.lard_laws.proofs.ClientsAsides.{IsAside, asides-step, asides-still, machine-aside, same-station}
use Rattle.lard_law_view.specs.View.{sending}
use Rattle.lard_law_view.proofs.EachClient.{client_goes, each-client}
use Rattle.lard_law_view.proofs.Carried.{carried}
use Rattle.lard_law_view.proofs.Fine.{IsFine, IsItsOwn, fine}
use Rattle.lard_law_view.proofs.Frames.{IsAtMachine, Owed, fronts-leave, nodes-leave}
use Rattle.lard_law_view.proofs.Guarded.{both, weaker}
use Rattle.lard_law_view.proofs.InSteps.{carried-steps}
use Rattle.lard_law_view.proofs.Saying.{GaveAt, IsStill, NotedAt, gave-still, note-still}
use Rattle.lard_law_view.proofs.Timers.{timer_rows-same, timer_rows-still}
use Rattle.lard_history.proofs.Each.{Each, Each-append, Each-weaker}
use Rattle.lard_history.proofs.Stepping.{AreInside}
use Rattle.lard_journal.specs.declared.rec.Rec.TheVariants as rec

-- ---- the state

abbrev pub client_at : Option Station → Option ClientBlock
client_at None = None
client_at (Some s) = Some s.client

-- a client is what it saw makes of it
abbrev pub IsFolded : Conn → Type 0
IsFolded x = client_of x.c x.seen ≡ client_at x.part.station

row-still : (c : ℕ) (o : Option ClientBlock) (r : Rec) → is_opening r ≡ false → client_step c o (Row r) ≡ o
row-still c o (rec.Event i e) n = let no : true ≡ false = n in absurd cc
row-still c None _ n = refl
row-still c (Some x) _ n = refl

rows-still : (c : ℕ) (o : Option ClientBlock) (rs : List Rec) → AreInside rs → fold (client_step c) o (map Row rs) ≡ o
rows-still c o [] n = refl
rows-still c o (r ∷ rs) n = ap (λ p. fold (client_step c) p (map Row rs)) (row-still c o r n.0) ∙ rows-still c o rs n.1

-- no record of a move begins a step
sends-inside : (place : Place) (ss : List (Place × List ℕ)) → AreInside (map (sending place) ss)
sends-inside place [] = tt
sends-inside place (s ∷ ss) = (refl, sends-inside place ss)

rows-inside : (x : Conn) (v : Move) → IsItsOwn x v → AreInside (rows_of x v)
rows-inside x v own =
    let P : Rec → Type 0 = λ r. is_opening r ≡ false in
    let segments : List Rec = map (sending v.place) v.said.segments in
    let messages : List Rec = map (sending v.place) v.said.messages in
    let timers : List Rec = timer_rows v.place x.c x.part v.part in
    Each-append P (v.said.notes ++ segments ++ v.said.gave ++ messages) timers
    (Each-append P (v.said.notes ++ segments ++ v.said.gave) messages
    (Each-append P (v.said.notes ++ segments) v.said.gave
    (Each-append P v.said.notes segments (Each-weaker (NotedAt v.place x.c) P (λ r h. (note-still v.place x.c r (inl h)).0) v.said.notes own.notes) (sends-inside v.place v.said.segments))
    (Each-weaker (GaveAt v.place x.c) P (λ r h. (gave-still v.place x.c r h).0) v.said.gave own.gave))
    (sends-inside v.place v.said.messages))
    (Each-weaker IsStill P (λ r h. h.0) timers (timer_rows-still v.place x.c x.part v.part))

-- the fold goes on by the heads of a move
folded : (x : Conn) (v : Move) → IsItsOwn x v → client_of x.c (grown x v).seen ≡ fold (client_step x.c) (client_of x.c x.seen) v.heads
folded x v own =
    fold-append (client_step x.c) None x.seen (seen_in x v) ∙ fold-append (client_step x.c) (client_of x.c x.seen) v.heads (map Row (rows_of x v))
    ∙ rows-still x.c (fold (client_step x.c) (client_of x.c x.seen) v.heads) (rows_of x v) (rows-inside x v own)

-- what a move owes, from the state before it
record Owes (x : Conn) (v : Move) : Type 0 where
  state : fold (client_step x.c) (client_at x.part.station) v.heads ≡ client_at v.part.station
  step : IsClientStep x.c (client_at x.part.station) (seen_in x v)

-- ---- a client acts

-- it gives nothing up, and sends no messages
plain-rows : (S T : List Rec) → S ++ [] ++ [] ++ T ≡ S ++ T
plain-rows S T = ap (λ l. l ++ T) (append-nil (S ++ []) ∙ append-nil S)

-- a move of a client that opened: its heads are one thing that it sees, which gives its turn, and the records of that
client-owes : (x : Conn) (s : Station) (h : Seen) (hs : List Rec) (given : ClientBlock × Turn) → x.part.station ≡ Some s → (fold (client_step x.c) (Some s.client) (h ∷ map Row hs) ≡ Some given.0)
    → ((later : List Seen) → later ≡ map Row (hs ++ turn_rows x.c (Some s.client) given) → IsClientStep x.c (Some s.client) (h ∷ later)) → Owes x (client_does x s (h ∷ map Row hs) given)
unfolding timer_rows
client-owes x s h hs given there state step =
    let v : Move = client_does x s (h ∷ map Row hs) given in
    let at : client_at x.part.station ≡ Some s.client = ap client_at there in
    let said : List Rec = given.1.notes ++ map (sending (Client x.c)) given.1.segments in
    let rows : rows_of x v ≡ turn_rows x.c (Some s.client) given =
    plain-rows said (timer_change (Client x.c) x.c (station_armed x.part.station) (is_client_armed given.0)) ∙ ap (λ b. said ++ timer_change (Client x.c) x.c b (is_client_armed given.0)) (ap station_armed there) in
    let later : map Row hs ++ map Row (rows_of x v) ≡ map Row (hs ++ turn_rows x.c (Some s.client) given) = ap (λ rs. map Row hs ++ map Row rs) rows ∙ sym (map-append Row hs (turn_rows x.c (Some s.client) given)) in
    record {
      state = ap (λ o. fold (client_step x.c) o (h ∷ map Row hs)) at ∙ state;
      step = subst (λ (o : Option ClientBlock). IsClientStep x.c o (seen_in x v)) (sym at) (step (map Row hs ++ map Row (rows_of x v)) later);
    }

begins-owes : (x : Conn) (isn iss wnd mss : ℕ) → x.part.station ≡ None → Owes x (client_begins x isn iss wnd mss)
unfolding timer_rows
begins-owes x isn iss wnd mss none =
    let v : Move = client_begins x isn iss wnd mss in
    let given : ClientBlock × Turn = client_opens x.c isn wnd mss in
    let at : client_at x.part.station ≡ None = ap client_at none in
    let o : Rec = rec.Opened x.c isn iss wnd mss in
    let said : List Rec = given.1.notes ++ map (sending (Client x.c)) given.1.segments in
    let rows : rows_of x v ≡ turn_rows x.c None given =
    plain-rows said (timer_change (Client x.c) x.c (station_armed x.part.station) (is_client_armed given.0)) ∙ ap (λ b. said ++ timer_change (Client x.c) x.c b (is_client_armed given.0)) (ap station_armed none) in
    record {
      state = ap (λ p. fold (client_step x.c) p v.heads) at;
      step = subst (λ (p : Option ClientBlock). IsClientStep x.c p (seen_in x v)) (sym at) (ap (λ rs. Row o ∷ map Row rs) rows);
    }

-- ---- another place acts

machine-owes : (x : Conn) (v : Move) → IsAtMachine x v → IsItsOwn x v → Owes x v
machine-owes x v at own =
    let asides : Each (IsAside x.c) (seen_in x v) = machine-aside x v at own in
    record {
      state = asides-still x.c (client_at x.part.station) v.heads (each_front (IsAside x.c) v.heads (map Row (rows_of x v)) asides) ∙ ap client_at (sym (same-station v.place x.part v.part at.machine at.keeps));
      step = asides-step x.c (client_at x.part.station) (seen_in x v) asides;
    }
  where
    each_front : {A : Type 0} (P : A → Type 0) (xs ys : List A) → Each P (xs ++ ys) → Each P xs
    each_front P [] ys e = tt
    each_front P (a ∷ xs) ys e = (e.0, each_front P xs ys e.1)

-- a packet comes, and no client that opened is there
came-nobody : (c : ℕ) (station : Option Station) (from to : Place) (bytes : List ℕ) → IsNobody station to → client_turn c (client_at station) (Came (record { from = from; to = to; bytes = bytes })) ≡ None
came-nobody c None from to bytes none = refl
came-nobody c (Some s) from Front bytes none = refl
came-nobody c (Some s) from (Node n) bytes none = refl
came-nobody c (Some s) from (Client d) bytes none = let no : Some s ≡ None = none in absurd cc

ignores-owes : (x : Conn) (from to : Place) (bytes : List ℕ) → IsNobody x.part.station to → Owes x (stands x to (packet_seen from to bytes) nothing_said)
ignores-owes x from to bytes nobody =
    let v : Move = stands x to (packet_seen from to bytes) nothing_said in
    let o : Option ClientBlock = client_at x.part.station in
    let h : Seen = Came (record { from = from; to = to; bytes = bytes }) in
    let none : client_turn x.c o h ≡ None = came-nobody x.c x.part.station from to bytes nobody in
    record {
      state = ap (after_turn o) none;
      step = subst (IsGiven x.c o h (map Row (rows_of x v))) (sym none) (none, subst (λ (rs : List Rec). NoneOfClient x.c o (map Row rs)) (sym (timer_rows-same to x.c x.part)) tt);
    }

-- ---- every rule

rule-owes : (x : Conn) (s : Station) → x.part.station ≡ Some s → (g : ClientGets) → Owes x (client_goes x s g)
rule-owes x s there (ClientReceives from bytes) = client-owes x s _ [] (client_rule x.c s.client (ClientReceives from bytes)) there refl (λ later is. is)
rule-owes x s there g = client-owes x s _ [] (client_rule x.c s.client g) there refl (λ later is. is)

owing : (k : Setting) → Rules k (Owed Owes)
owing k = record {
  untouched = record {
    client = each-client k (Owed Owes) (record {
      opens = λ x isn iss wnd mss rule none number sound. begins-owes x isn iss wnd mss none;
      does = λ x s g there comes number sound. rule-owes x s there g;
    });
    front = fronts-leave k Owes (λ x v at own number sound. machine-owes x v at own);
    node = nodes-leave k Owes (λ x v at own number sound. machine-owes x v at own);
    ignores = λ x from to bytes was number sound. ignores-owes x from to bytes was.1;
  };
  injects = λ x s bytes there rule number sound. client-owes x s (Row (rec.Event 0 (event.Inject x.c bytes))) (rec.Injected x.c ∷ []) (client_injects s.client bytes) there refl (λ later is. is);
}

-- nothing more is given
abbrev Anything : Conn → Type 0
Anything x = Unit {0}

folding : (k : Setting) → IsLaw k Anything IsFolded
folding k = record {
  begins = λ c. refl;
  moves = weaker k (λ x v. Owed Owes x v × IsFine x v) (λ x v. MayRestOn Anything x → IsFolded x → IsFolded (grown x v))
      (λ x v h may is. folded x v (h.1 may.number may.sound).0 ∙ ap (λ o. fold (client_step x.c) o v.heads) is ∙ (h.0 may.number may.sound).state)
      (both k (Owed Owes) IsFine (owing k) (fine k));
}

stepping : (k : Setting) → IsStepLaw k IsFolded (λ c past seen. IsClientStep c (client_of c past) seen)
stepping k = record {
  still = λ c past. tt;
  moves = weaker k (Owed Owes) (λ x v. MayRestOn IsFolded x → IsClientStep x.c (client_of x.c x.seen) (seen_in x v))
      (λ x v owes may. subst (λ (o : Option ClientBlock). IsClientStep x.c o (seen_in x v)) (sym may.given) (owes may.number may.sound).step) (owing k);
}

-- each client is what it saw, in every run
pub clients-folded : (config : Config) (files : List (List ℕ × List ℕ)) → OfEach config files IsFolded
clients-folded config files = carried config files Anything IsFolded (λ l. folding (with_leaving (setting config files) l)) (λ m r q. tt)

pub clients-keep : ClientsKeepTheirTables
clients-keep config files m r = carried-steps config files IsFolded MustKeepTables (λ c past seen. IsClientStep c (client_of c past) seen) (λ past s h. h)
    (λ l. stepping (with_leaving (setting config files) l)) (clients-folded config files) m r
