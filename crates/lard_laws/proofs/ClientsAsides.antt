-- What a connection sees of a machine of the cluster is nothing that its client does or writes.
use Rattle.std.proofs.Common.{◌≡◌, ℕ, List, [], ◌∷◌, map, true, false, Option, Some, None, refl, sym, ap, ◌∙◌, subst}
use Rattle.std.specs.List.{fold}
use Rattle.lard_base.specs.declared.event.Event.TheVariants as event
use Rattle.lard_law_view.specs.Prelude.{Came, Client, ClientBlock, Conn, Front, IsClientStep, IsGiven, IsMachine, Move, Node, NoneOfClient, Part, Place, Rec, Row, Seen, after_turn, at_client, client_step, client_turn, is_of_client, is_opening, row_turn, rows_of, seen_in}
use Rattle.lard_law_view.specs.View.{sending}
use Rattle.lard_law_view.proofs.Fine.{IsItsOwn}
use Rattle.lard_law_view.proofs.Frames.{IsAtMachine, IsHeadAt, KeepsAt}
use Rattle.lard_law_view.proofs.Saying.{NotedAt, note-kind, note-passes}
use Rattle.lard_law_view.proofs.Timers.{IsTimerAt, timer_rows-are}
use Rattle.lard_history.proofs.Each.{Each, Each-append, Each-weaker}
use Rattle.lard_journal.specs.declared.rec.Rec.TheVariants as rec
use Rattle.lard_law_view.proofs.OfKinds.{of-gifts, rest-each, rest_of, rows-are, timers}
use Rattle.lard_law_view.proofs.RecordKinds.{IsByMachine, IsOfPlace, any-kind, kind_of, machine-kind}

-- ---- records of a machine

-- it begins no step, and no client writes it
abbrev pub IsOfMachine : Rec → Type 0
IsOfMachine r = (is_opening r ≡ false) × (is_of_client r ≡ false)

not-client : (place : Place) → IsMachine place → at_client place ≡ false
not-client Front m = refl
not-client (Node n) m = refl
not-client (Client d) m = absurd m

note-other : (r : Rec) → IsByMachine (kind_of r) → is_of_client r ≡ false
note-other (rec.Wrote d bytes) h = absurd h
note-other (rec.Accepted d bytes) h = absurd h
note-other (rec.Eof d) h = absurd h
note-other (rec.Aborted d) h = absurd h
note-other (rec.Sent k from to bytes) h = absurd h
note-other (rec.Armed p d kind) h = absurd h
note-other (rec.Cleared p d kind) h = absurd h
note-other (rec.Opened d isn iss wnd mss) h = absurd h
note-other (rec.Injected d) h = absurd h
note-other _ h = refl

timer-machine : (place : Place) (c : ℕ) (r : Rec) → IsMachine place → IsTimerAt place c r → IsOfMachine r
timer-machine place c (rec.Armed p d kind) m h = (refl, ap at_client h.0 ∙ not-client place m)
timer-machine place c (rec.Cleared p d kind) m h = (refl, ap at_client h.0 ∙ not-client place m)
timer-machine place c _ m h = absurd h

sends-machine : (place : Place) (ss : List (Place × List ℕ)) → IsMachine place → Each IsOfMachine (map (sending place) ss)
sends-machine place [] m = tt
sends-machine place (s ∷ ss) m = ((refl, not-client place m), sends-machine place ss m)

-- what such a place notes
pub kind-machine : (place : Place) (r : Rec) → IsMachine place → IsOfPlace place (kind_of r) → IsOfMachine r
kind-machine place r m k = ((note-passes r (any-kind place (kind_of r) k)).0, note-other r (machine-kind place (kind_of r) m k))

pub note-machine : (place : Place) (c : ℕ) (r : Rec) → IsMachine place → NotedAt place c r → IsOfMachine r
note-machine place c r m h = kind-machine place r m (note-kind place c r h)

-- all that it tells of its connection
pub rows-machine : (x : Conn) (v : Move) → IsMachine v.place → IsItsOwn x v → Each IsOfMachine (rows_of x v)
rows-machine x v m own = subst (Each IsOfMachine) (sym (rows-are x v)) (Each-append IsOfMachine v.said.notes (rest_of x v)
    (Each-weaker (NotedAt v.place x.c) IsOfMachine (λ r h. note-machine v.place x.c r m h) v.said.notes own.notes)
    (rest-each x v IsOfMachine
    (sends-machine v.place v.said.segments m)
    (of-gifts IsOfMachine (λ p d epoch. (refl, refl)) v.place x.c v.said.gave own.gave)
    (sends-machine v.place v.said.messages m)
    (Each-weaker (IsTimerAt v.place x.c) IsOfMachine (λ r h. timer-machine v.place x.c r m h) (timers x v) (timer_rows-are v.place x.c x.part v.part))))

-- ---- what is seen of it

-- the client did not write it
abbrev pub IsUnwritten : Seen → Type 0
IsUnwritten (Row r) = is_of_client r ≡ false
IsUnwritten (Came l) = Unit {0}

-- it gives the client no turn, and the client did not write it
abbrev pub IsAside : ℕ → Seen → Type 0
IsAside c s = ((o : Option ClientBlock) → client_turn c o s ≡ None) × IsUnwritten s

turn-none : (c : ℕ) (o : Option ClientBlock) (r : Rec) → is_opening r ≡ false → row_turn c o r ≡ None
turn-none c o (rec.Event i e) n = let no : true ≡ false = n in absurd cc
turn-none c None _ n = refl
turn-none c (Some x) _ n = refl

row-aside : (c : ℕ) (r : Rec) → IsOfMachine r → IsAside c (Row r)
row-aside c r h = ((λ o. turn-none c o r h.0), h.1)

pub rows-aside : (c : ℕ) (rs : List Rec) → Each IsOfMachine rs → Each (IsAside c) (map Row rs)
rows-aside c [] e = tt
rows-aside c (r ∷ rs) e = (row-aside c r e.0, rows-aside c rs e.1)

timer-none : (c i : ℕ) (p : Place) (d : ℕ) → IsMachine p → (o : Option ClientBlock) → row_turn c o (rec.Event i (event.Timer p d)) ≡ None
timer-none c i p d m None = refl
timer-none c i Front d m (Some x) = refl
timer-none c i (Node n) d m (Some x) = refl
timer-none c i (Client e) d m (Some x) = absurd m

pub came-none : (c : ℕ) (from to : Place) (bytes : List ℕ) → IsMachine to → (o : Option ClientBlock) → client_turn c o (Came (record { from = from; to = to; bytes = bytes })) ≡ None
came-none c from to bytes m None = refl
came-none c from Front bytes m (Some x) = refl
came-none c from (Node n) bytes m (Some x) = refl
came-none c from (Client d) bytes m (Some x) = absurd m

pub head-aside : (place : Place) (c : ℕ) (s : Seen) → IsMachine place → IsHeadAt place c s → IsAside c s
head-aside place c (Row (rec.Event i (event.Timer p d))) m h = (timer-none c i p d (subst IsMachine (sym h.0) m), refl)
head-aside place c (Came l) m h = (came-none c l.from l.to l.bytes (subst IsMachine (sym h) m), tt)
head-aside place c _ m h = absurd h

-- all of its move
pub machine-aside : (x : Conn) (v : Move) → IsAtMachine x v → IsItsOwn x v → Each (IsAside x.c) (seen_in x v)
machine-aside x v at own = Each-append (IsAside x.c) v.heads (map Row (rows_of x v))
    (Each-weaker (IsHeadAt v.place x.c) (IsAside x.c) (λ s h. head-aside v.place x.c s at.machine h) v.heads at.heads)
    (rows-aside x.c (rows_of x v) (rows-machine x v at.machine own))

-- ---- what that makes of the client

none-of : (c : ℕ) (o : Option ClientBlock) (ss : List Seen) → Each (IsAside c) ss → NoneOfClient c o ss
none-of c o [] e = tt
none-of c o (Row r ∷ ss) e = (e.0.1, none-of c o ss e.1)
none-of c o (Came l ∷ ss) e = (e.0.0 o, none-of c o ss e.1)

pub asides-step : (c : ℕ) (o : Option ClientBlock) (ss : List Seen) → Each (IsAside c) ss → IsClientStep c o ss
asides-step c o [] e = tt
asides-step c o (s ∷ ss) e = subst (IsGiven c o s ss) (sym (e.0.0 o)) (none-of c o (s ∷ ss) e)

pub asides-still : (c : ℕ) (o : Option ClientBlock) (ss : List Seen) → Each (IsAside c) ss → fold (client_step c) o ss ≡ o
asides-still c o [] e = refl
asides-still c o (s ∷ ss) e = ap (λ t. fold (client_step c) (after_turn o t) ss) (e.0.0 o) ∙ asides-still c o ss e.1

-- a machine keeps the client as it is
pub same-station : (place : Place) (p q : Part) → IsMachine place → KeepsAt place p q → q.station ≡ p.station
same-station Front p q m keeps = keeps.0
same-station (Node n) p q m keeps = keeps.0
same-station (Client d) p q m keeps = absurd m
