-- What a place says of the connection that it acts on: what it may note, give up and send, and who sees that.
use Rattle.std.proofs.Common.{◌≡◌, ◌≢◌, ℕ, ◌+◌, false, cond, List, [], ◌∷◌, ◌++◌, map, is_some, Option, Some, None, refl, sym, ap, ◌∙◌, inl, inr, ⊎_elim, true, not, ◌&&◌}
use Rattle.std.specs.Prelude.{◌⊎◌}
use Rattle.std.specs.List.{list_all}
use Rattle.lard_law_view.specs.Prelude.{AreOwn, Client, Event, Front, GoesBetween, IsMachine, Node, Packet, Place, Rec, Row, conn_of, is_opening, is_own, letter, letter_of, letters, named_records, net_step, packets_of, plain, seen_of, seen_on, sent_records, whose}
use Rattle.lard_law_view.specs.View.{sending}
use Rattle.lard_history.proofs.Each.{Each, Each-weaker}
use Rattle.lard_history.proofs.Seeing.{AreOf, letters-all, letters-none, of-whose, packet_conn, seen-all, seen-mine, seen-none, seen-other}
use Rattle.lard_journal.specs.declared.rec.Rec.TheVariants as rec
use Rattle.lard_law_view.proofs.Firsts.{AreOthers, HasOwn}
use Rattle.lard_law_view.proofs.RecordKinds.{IsByMachine, IsNote, IsOfPlace, any-kind, kind_of, machine-kind}
use Rattle.lard_law_view.proofs.OwnRecords.{IsNoClosing, behind}

-- ---- notes

-- what a place may note of connection c
abbrev pub NotedAt : Place → ℕ → Rec → Type 0
NotedAt (Client e) c (rec.Wrote d bytes) = d ≡ c
NotedAt (Client e) c (rec.Accepted d bytes) = d ≡ c
NotedAt (Client e) c (rec.Eof d) = d ≡ c
NotedAt (Client e) c (rec.Aborted d) = d ≡ c
NotedAt Front c (rec.Took Front d epoch) = d ≡ c
NotedAt Front c (rec.Served Front d r code size via) = d ≡ c
NotedAt Front c (rec.Reset Front d total) = d ≡ c
NotedAt Front c (rec.Waits d) = d ≡ c
NotedAt Front c (rec.Admitted d) = d ≡ c
NotedAt Front c (rec.AssignedFirst d r path n add remove) = d ≡ c
NotedAt Front c (rec.AssignedLater d r path n add size queue) = d ≡ c
NotedAt Front c (rec.BatchOver d) = d ≡ c
NotedAt Front c (rec.Released d) = d ≡ c
NotedAt (Node n) c (rec.Took (Node k) d epoch) = (k ≡ n) × (d ≡ c)
NotedAt (Node n) c (rec.Served (Node k) d r code size via) = (k ≡ n) × (d ≡ c)
NotedAt (Node n) c (rec.Reset (Node k) d total) = (k ≡ n) × (d ≡ c)
NotedAt (Node n) c (rec.Queued k o d r path) = (k ≡ n) × (d ≡ c)
NotedAt (Node n) c (rec.Read k o d r path) = (k ≡ n) × (d ≡ c)
NotedAt (Node n) c (rec.Hit k path) = k ≡ n
NotedAt _ _ _ = ⊥

-- what a place may note that names no connection
abbrev pub NamesNobody : Place → Rec → Type 0
NamesNobody Front (rec.Closed n) = Unit {0}
NamesNobody (Node n) (rec.Hit k path) = k ≡ n
NamesNobody _ _ = ⊥

-- of the connection, or of none
abbrev pub NotedIn : Place → ℕ → Rec → Type 0
NotedIn place c r = NotedAt place c r ⊎ NamesNobody place r

-- of what kind it is
pub note-kind : (place : Place) (c : ℕ) (r : Rec) → NotedAt place c r → IsOfPlace place (kind_of r)
note-kind (Client e) c (rec.Wrote d bytes) h = tt
note-kind (Client e) c (rec.Accepted d bytes) h = tt
note-kind (Client e) c (rec.Eof d) h = tt
note-kind (Client e) c (rec.Aborted d) h = tt
note-kind Front c (rec.Took Front d epoch) h = tt
note-kind Front c (rec.Served Front d r code size via) h = tt
note-kind Front c (rec.Reset Front d total) h = tt
note-kind Front c (rec.Waits d) h = tt
note-kind Front c (rec.Admitted d) h = tt
note-kind Front c (rec.AssignedFirst d r path n add remove) h = tt
note-kind Front c (rec.AssignedLater d r path n add size queue) h = tt
note-kind Front c (rec.BatchOver d) h = tt
note-kind Front c (rec.Released d) h = tt
note-kind (Node n) c (rec.Took (Node k) d epoch) h = tt
note-kind (Node n) c (rec.Served (Node k) d r code size via) h = tt
note-kind (Node n) c (rec.Reset (Node k) d total) h = tt
note-kind (Node n) c (rec.Queued k o d r path) h = tt
note-kind (Node n) c (rec.Read k o d r path) h = tt
note-kind (Node n) c (rec.Hit k path) h = tt
note-kind _ c _ h = absurd h

pub nobody-kind : (place : Place) (r : Rec) → NamesNobody place r → IsOfPlace place (kind_of r)
nobody-kind Front (rec.Closed n) h = tt
nobody-kind (Node n) (rec.Hit k path) h = tt
nobody-kind _ _ h = absurd h

pub in-kind : (place : Place) (c : ℕ) (r : Rec) → NotedIn place c r → IsOfPlace place (kind_of r)
in-kind place c r (inl h) = note-kind place c r h
in-kind place c r (inr h) = nobody-kind place r h

-- what it may give up
abbrev pub GaveAt : Place → ℕ → Rec → Type 0
GaveAt Front c (rec.Gave Front d epoch) = d ≡ c
GaveAt (Node n) c (rec.Gave (Node k) d epoch) = (k ≡ n) × (d ≡ c)
GaveAt _ _ _ = ⊥

-- a record is of the connection, or of none
abbrev pub IsOf : ℕ → Rec → Type 0
IsOf c r = ((whose r ≡ Some c) × (plain r ≡ r)) ⊎ ((whose r ≡ None) × ((q : ℕ) (net : List Packet) → seen_of q net r ≡ []))

pub note-of : (place : Place) (c : ℕ) (r : Rec) → NotedAt place c r → IsOf c r
note-of (Client e) c (rec.Wrote d bytes) h = inl (ap Some h, refl)
note-of (Client e) c (rec.Accepted d bytes) h = inl (ap Some h, refl)
note-of (Client e) c (rec.Eof d) h = inl (ap Some h, refl)
note-of (Client e) c (rec.Aborted d) h = inl (ap Some h, refl)
note-of Front c (rec.Took Front d epoch) h = inl (ap Some h, refl)
note-of Front c (rec.Served Front d r code size via) h = inl (ap Some h, refl)
note-of Front c (rec.Reset Front d total) h = inl (ap Some h, refl)
note-of Front c (rec.Waits d) h = inl (ap Some h, refl)
note-of Front c (rec.Admitted d) h = inl (ap Some h, refl)
note-of Front c (rec.AssignedFirst d r path n add remove) h = inl (ap Some h, refl)
note-of Front c (rec.AssignedLater d r path n add size queue) h = inl (ap Some h, refl)
note-of Front c (rec.BatchOver d) h = inl (ap Some h, refl)
note-of Front c (rec.Released d) h = inl (ap Some h, refl)
note-of (Node n) c (rec.Took (Node k) d epoch) h = inl (ap Some h.1, refl)
note-of (Node n) c (rec.Served (Node k) d r code size via) h = inl (ap Some h.1, refl)
note-of (Node n) c (rec.Reset (Node k) d total) h = inl (ap Some h.1, refl)
note-of (Node n) c (rec.Queued k o d r path) h = inl (ap Some h.1, refl)
note-of (Node n) c (rec.Read k o d r path) h = inl (ap Some h.1, refl)
note-of (Node n) c (rec.Hit k path) h = inr (refl, λ q net. refl)
note-of _ c _ h = absurd h

pub nobody-seen : (place : Place) (q : ℕ) (net : List Packet) (r : Rec) → NamesNobody place r → seen_of q net r ≡ []
nobody-seen Front q net (rec.Closed n) h = refl
nobody-seen (Node n) q net (rec.Hit k path) h = refl
nobody-seen _ q net _ h = absurd h

nobody-of : (place : Place) (c : ℕ) (r : Rec) → NamesNobody place r → IsOf c r
nobody-of Front c (rec.Closed n) h = inr (refl, λ q net. refl)
nobody-of (Node n) c (rec.Hit k path) h = inr (refl, λ q net. refl)
nobody-of _ c _ h = absurd h

pub in-of : (place : Place) (c : ℕ) (r : Rec) → NotedIn place c r → IsOf c r
in-of place c r (inl h) = note-of place c r h
in-of place c r (inr h) = nobody-of place c r h

-- what is noted of a connection closes no node
note-closing : (place : Place) (c : ℕ) (r : Rec) → NotedAt place c r → IsNoClosing r
note-closing Front c (rec.Closed n) h = absurd h
note-closing (Node k) c (rec.Closed n) h = absurd h
note-closing (Client d) c (rec.Closed n) h = absurd h
note-closing _ c _ h = tt

pub notes-closing : (place : Place) (c : ℕ) (rs : List Rec) → Each (NotedAt place c) rs → Each IsNoClosing rs
notes-closing place c rs h = Each-weaker (NotedAt place c) IsNoClosing (note-closing place c) rs h

-- all that another place than a node notes is of the connection
abbrev pub NamesAll : Place → Type 0
NamesAll (Node n) = ⊥
NamesAll _ = Unit {0}

note-names : (place : Place) (c : ℕ) (r : Rec) → NamesAll place → NotedAt place c r → (whose r ≡ Some c) × (plain r ≡ r)
note-names (Client e) c (rec.Wrote d bytes) k h = (ap Some h, refl)
note-names (Client e) c (rec.Accepted d bytes) k h = (ap Some h, refl)
note-names (Client e) c (rec.Eof d) k h = (ap Some h, refl)
note-names (Client e) c (rec.Aborted d) k h = (ap Some h, refl)
note-names Front c (rec.Took Front d epoch) k h = (ap Some h, refl)
note-names Front c (rec.Served Front d r code size via) k h = (ap Some h, refl)
note-names Front c (rec.Reset Front d total) k h = (ap Some h, refl)
note-names Front c (rec.Waits d) k h = (ap Some h, refl)
note-names Front c (rec.Admitted d) k h = (ap Some h, refl)
note-names Front c (rec.AssignedFirst d r path n add remove) k h = (ap Some h, refl)
note-names Front c (rec.AssignedLater d r path n add size queue) k h = (ap Some h, refl)
note-names Front c (rec.BatchOver d) k h = (ap Some h, refl)
note-names Front c (rec.Released d) k h = (ap Some h, refl)
note-names (Node n) c r k h = absurd k
note-names _ c _ k h = absurd h

gave-of : (place : Place) (c : ℕ) (r : Rec) → GaveAt place c r → (whose r ≡ Some c) × (plain r ≡ r)
gave-of Front c (rec.Gave Front d epoch) h = (ap Some h, refl)
gave-of (Node n) c (rec.Gave (Node k) d epoch) h = (ap Some h.1, refl)
gave-of _ c _ h = absurd h

-- what a machine of the cluster notes is no event's own record
machine-other : (r : Rec) → IsByMachine (kind_of r) → not (is_own r) ≡ true
machine-other (rec.Took place c epoch) h = refl
machine-other (rec.Served place c r code size via) h = refl
machine-other (rec.Reset place c total) h = refl
machine-other (rec.Waits c) h = refl
machine-other (rec.Admitted c) h = refl
machine-other (rec.Released c) h = refl
machine-other (rec.AssignedFirst c r path n add remove) h = refl
machine-other (rec.AssignedLater c r path n add size queue) h = refl
machine-other (rec.BatchOver c) h = refl
machine-other (rec.Closed n) h = refl
machine-other (rec.Hit n path) h = refl
machine-other (rec.Queued n m c r path) h = refl
machine-other (rec.Read n m c r path) h = refl
machine-other _ h = absurd h

note-other : (place : Place) (c : ℕ) (r : Rec) → IsMachine place → NotedIn place c r → not (is_own r) ≡ true
note-other place c r m h = machine-other r (machine-kind place (kind_of r) m (in-kind place c r h))

pub notes-other : (place : Place) (c : ℕ) (rs : List Rec) → IsMachine place → Each (NotedIn place c) rs → AreOthers rs
notes-other place c [] m e = refl
notes-other place c (r ∷ rs) m e = ap (λ b. b && list_all (λ q. not (is_own q)) rs) (note-other place c r m e.0) ∙ notes-other place c rs m e.1

-- the event's own records stand first
pub own-first : (e : Event) (place : Place) (c : ℕ) (rs : List Rec) → IsMachine place → AreOwn e (behind e) → Each (NotedIn place c) rs → HasOwn e (behind e ++ rs)
own-first e place c rs m own noted = (behind e, rs, refl, own, notes-other place c rs m noted)

-- ---- who sees notes

named-of : (c : ℕ) (r : Rec) (rs : List Rec) → whose r ≡ Some c → named_records (r ∷ rs) ≡ r ∷ named_records rs
named-of c r rs e = ap (λ (o : Option ℕ). cond (is_some o) (r ∷ named_records rs) (named_records rs)) e

named-none : (r : Rec) (rs : List Rec) → whose r ≡ None → named_records (r ∷ rs) ≡ named_records rs
named-none r rs e = ap (λ (o : Option ℕ). cond (is_some o) (r ∷ named_records rs) (named_records rs)) e

-- the connection sees those that name it
pub notes-mine : (place : Place) (c : ℕ) (net : List Packet) (rs : List Rec) → Each (NotedIn place c) rs → seen_on c net rs ≡ map Row (named_records rs)
notes-mine place c net [] e = refl
notes-mine place c net (r ∷ rs) e =
    let later : seen_on c (net_step net r) rs ≡ map Row (named_records rs) = notes-mine place c (net_step net r) rs e.1 in
    ⊎_elim
    (λ (h : (whose r ≡ Some c) × (plain r ≡ r)).
    (λ i. seen-mine c net r h.0 i ++ later i) ∙ ap (λ (k : Rec). Row k ∷ map Row (named_records rs)) h.1 ∙ ap (map Row) (sym (named-of c r rs h.0)))
    (λ (h : (whose r ≡ None) × ((q : ℕ) (net : List Packet) → seen_of q net r ≡ [])).
    (λ i. h.1 c net i ++ later i) ∙ ap (map Row) (sym (named-none r rs h.0)))
    (in-of place c r e.0)

-- of a place that notes nothing else, all
pub notes-all : (place : Place) (c : ℕ) (net : List Packet) (rs : List Rec) → NamesAll place → Each (NotedAt place c) rs → seen_on c net rs ≡ map Row rs
notes-all place c net rs k e = seen-all c net rs (Each-weaker (NotedAt place c) (λ r. (whose r ≡ Some c) × (plain r ≡ r)) (λ r. note-names place c r k) rs e)

-- no other sees one
pub notes-others : (place : Place) (c q : ℕ) (net : List Packet) (rs : List Rec) → q ≢ c → Each (NotedIn place c) rs → seen_on q net rs ≡ []
notes-others place c q net [] n e = refl
notes-others place c q net (r ∷ rs) n e =
    let later : seen_on q (net_step net r) rs ≡ [] = notes-others place c q (net_step net r) rs n e.1 in
    ⊎_elim
    (λ (h : (whose r ≡ Some c) × (plain r ≡ r)). λ i. seen-other c q net r n h.0 i ++ later i)
    (λ (h : (whose r ≡ None) × ((q : ℕ) (net : List Packet) → seen_of q net r ≡ [])). λ i. h.1 q net i ++ later i)
    (in-of place c r e.0)

gaves-of : (place : Place) (c : ℕ) (rs : List Rec) → Each (GaveAt place c) rs → AreOf c rs
gaves-of place c rs e = Each-weaker (GaveAt place c) (λ r. (whose r ≡ Some c) × (plain r ≡ r)) (gave-of place c) rs e

pub gaves-mine : (place : Place) (c : ℕ) (net : List Packet) (rs : List Rec) → Each (GaveAt place c) rs → seen_on c net rs ≡ map Row rs
gaves-mine place c net rs e = seen-all c net rs (gaves-of place c rs e)

pub gaves-others : (place : Place) (c q : ℕ) (net : List Packet) (rs : List Rec) → q ≢ c → Each (GaveAt place c) rs → seen_on q net rs ≡ []
gaves-others place c q net rs n e = seen-none c q net rs n (of-whose c rs (gaves-of place c rs e))

-- ---- no record of a turn begins a step, or tells of a packet

abbrev pub IsStill : Rec → Type 0
IsStill r = (is_opening r ≡ false) × ((net : List Packet) → net_step net r ≡ net)

pub note-passes : (r : Rec) → IsNote r → IsStill r
note-passes (rec.Event i e) h = absurd h
note-passes (rec.Inner e) h = absurd h
note-passes (rec.Sent k from to bytes) h = absurd h
note-passes (rec.Lost k) h = absurd h
note-passes _ h = (refl, λ net. refl)

pub note-still : (place : Place) (c : ℕ) (r : Rec) → NotedIn place c r → IsStill r
note-still place c r h = note-passes r (any-kind place (kind_of r) (in-kind place c r h))

pub gave-still : (place : Place) (c : ℕ) (r : Rec) → GaveAt place c r → IsStill r
gave-still Front c (rec.Gave Front d epoch) h = (refl, λ net. refl)
gave-still (Node n) c (rec.Gave (Node k) d epoch) h = (refl, λ net. refl)
gave-still _ c _ h = absurd h

-- ---- what is sent

-- on connection c
abbrev pub AllBetween : ℕ → Place → List (Place × List ℕ) → Type 0
AllBetween c place ss = Each (λ s. GoesBetween c place s.0 s.1) ss

-- to other machines of the cluster
abbrev pub AreMessages : ℕ → Place → List (Place × List ℕ) → Type 0
AreMessages c place ss = Each (λ s. IsMachine s.0 × GoesBetween c place s.0 s.1) ss

pub messages-between : (c : ℕ) (place : Place) (ss : List (Place × List ℕ)) → AreMessages c place ss → AllBetween c place ss
messages-between c place ss e = Each-weaker (λ s. IsMachine s.0 × GoesBetween c place s.0 s.1) (λ s. GoesBetween c place s.0 s.1) (λ s h. h.1) ss e

pub between-conn : (c : ℕ) (from to : Place) (bytes : List ℕ) → GoesBetween c from to bytes → conn_of from to bytes ≡ Some c
between-conn c (Client d) Front bytes h = ap Some h
between-conn c Front (Client d) bytes h = ap Some h
between-conn c (Node n) (Client d) bytes h = ap Some h
between-conn c Front (Node n) bytes h = h
between-conn c (Node n) Front bytes h = h
between-conn c (Node n) (Node k) bytes h = h
between-conn c _ _ bytes h = absurd h

sents-of : (c k : ℕ) (place : Place) (ss : List (Place × List ℕ)) → AllBetween c place ss → Each (λ r. whose r ≡ Some c) (sent_records k place ss)
sents-of c k place [] e = tt
sents-of c k place (s ∷ ss) e = (between-conn c place s.0 s.1 e.0, sents-of c (k + 1) place ss e.1)

pub sents-mine : (c k : ℕ) (net : List Packet) (place : Place) (ss : List (Place × List ℕ)) → AllBetween c place ss → seen_on c net (sent_records k place ss) ≡ map Row (map (sending place) ss)
sents-mine c k net place [] e = refl
sents-mine c k net place (s ∷ ss) e =
    let r : Rec = rec.Sent k place s.0 s.1 in
    λ i. seen-mine c net r (between-conn c place s.0 s.1 e.0) i ++ sents-mine c (k + 1) (net_step net r) place ss e.1 i

pub sents-others : (c q k : ℕ) (net : List Packet) (place : Place) (ss : List (Place × List ℕ)) → q ≢ c → AllBetween c place ss → seen_on q net (sent_records k place ss) ≡ []
sents-others c q k net place ss n e = seen-none c q net (sent_records k place ss) n (sents-of c k place ss e)

packets-of : (c : ℕ) (place : Place) (ss : List (Place × List ℕ)) → AllBetween c place ss → Each (λ p. packet_conn p ≡ Some c) (packets_of place ss)
packets-of c place [] e = tt
packets-of c place (s ∷ ss) e = (between-conn c place s.0 s.1 e.0, packets-of c place ss e.1)

map-letters : (place : Place) (ss : List (Place × List ℕ)) → map letter_of (packets_of place ss) ≡ map (letter place) ss
map-letters place [] = refl
map-letters place (s ∷ ss) = ap (λ l. letter place s ∷ l) (map-letters place ss)

pub letters-mine : (c : ℕ) (place : Place) (ss : List (Place × List ℕ)) → AllBetween c place ss → letters c (packets_of place ss) ≡ map (letter place) ss
letters-mine c place ss e = letters-all c (packets_of place ss) (packets-of c place ss e) ∙ map-letters place ss

pub letters-others : (c q : ℕ) (place : Place) (ss : List (Place × List ℕ)) → q ≢ c → AllBetween c place ss → letters q (packets_of place ss) ≡ []
letters-others c q place ss n e = letters-none c q (packets_of place ss) n (packets-of c place ss e)
