-- Each record of a timer names a place and a connection that have a seat of their own, and a low one.
use Rattle.std.proofs.Common.{◌≡◌, ◌≤◌, ◌<◌, ℕ, ◌+◌, ◌^◌, List, [], ◌∷◌, ◌++◌, length, Some, Ok, inl, inr, ⊎_elim, refl, sym, ap, ◌∙◌, subst, arith}
use Rattle.std.specs.Prelude.{◌⊎◌}
use Rattle.std.specs.List.{AllByRecursion}
use Rattle.lard_agenda.specs.Agenda.{seat}
use Rattle.lard_agenda.specs.Laws.{IsSeated, NamesLowSeat, NamesSeat}
use Rattle.lard_law_view.specs.Prelude.{Client, Config, Conn, EachMay, Event, Front, HasRule, HasTimer, IsConnNumber, IsMachine, IsReached, IsViewed, Machine, Move, Node, Packet, Part, Place, Rec, Rules, Setting, config_check, conn, machine_step, packets_of, part_of, sent_records, setting, timer_rows, with_leaving}
use Rattle.lard_base.specs.declared.event.Event.TheVariants as event
use Rattle.lard_base.proofs.Usable.{usable}
use Rattle.lard_laws.proofs.RecordsThere.{only-nodes}
use Rattle.lard_laws.specs.RecordsMessages.{MayBeThere}
use Rattle.lard_law_view.proofs.Acts.{ActsAlone, ActsMany, IsPassing, IsStepOf, Moving, said_rows, step_acts, timers_in}
use Rattle.lard_law_view.proofs.AnyShape.{SomeGift, SomeNote, some-noted}
use Rattle.lard_law_view.proofs.Carried.{IsOn, carried-keep, on-rules}
use Rattle.lard_law_view.proofs.Fine.{IsFine, IsItsOwn, fine}
use Rattle.lard_law_view.proofs.Frames.{Owed, clients-leave, fronts-leave, nodes-leave}
use Rattle.lard_law_view.proofs.Guarded.{both}
use Rattle.lard_law_view.proofs.Saying.{GaveAt, NotedAt, NotedIn}
use Rattle.lard_law_view.proofs.Timers.{IsTimerAt, timer_rows-are, timer_rows-same}
use Rattle.lard_history.proofs.Each.{Each, Each-append, Each-weaker}
use Rattle.lard_journal.specs.declared.rec.Rec.TheVariants as rec
use Rattle.lard_settling.specs.Written.{IsWrittenOut, steps_with, written_from, written_rec}
use Rattle.lard_law_view.proofs.OwnRecords.{behind}
use Rattle.lard_law_view.proofs.OfKinds as of-kinds
use Rattle.lard_law_view.proofs.RecordKinds.{IsNote}

-- ---- records

-- a timer is one of a connection, and a client has those of its own
abbrev pub IsNamed : Rec → Type 0
IsNamed (rec.Armed p c kind) = HasTimer p c × IsConnNumber c
IsNamed (rec.Cleared p c kind) = HasTimer p c × IsConnNumber c
IsNamed _ = Unit {0}

abbrev pub AreNamed : List Rec → Type 0
AreNamed rs = Each IsNamed rs

noted-named : (r : Rec) → IsNote r → IsNamed r
noted-named (rec.Armed p d kind) h = absurd h
noted-named (rec.Cleared p d kind) h = absurd h
noted-named _ h = tt

note-named : (place : Place) (c : ℕ) (r : Rec) → NotedAt place c r → IsNamed r
note-named place c r h = noted-named r (of-kinds.noted place c r h)

gave-named : (place : Place) (c : ℕ) (r : Rec) → GaveAt place c r → IsNamed r
gave-named = of-kinds.of-gift IsNamed (λ p d epoch. tt)

timer-named : (place : Place) (c : ℕ) → HasTimer place c → IsConnNumber c → (r : Rec) → IsTimerAt place c r → IsNamed r
timer-named place c own number (rec.Armed p d kind) h = (subst (λ (q : Place). HasTimer q d) (sym h.0) (subst (HasTimer place) (sym h.1) own), subst IsConnNumber (sym h.1) number)
timer-named place c own number (rec.Cleared p d kind) h = (subst (λ (q : Place). HasTimer q d) (sym h.0) (subst (HasTimer place) (sym h.1) own), subst IsConnNumber (sym h.1) number)
timer-named place c own number _ h = absurd h

rows-named : (place : Place) (c : ℕ) (p q : Part) → IsConnNumber c → HasTimer place c ⊎ (q ≡ p) → AreNamed (timer_rows place c p q)
rows-named place c p q number of = ⊎_elim
    (λ (own : HasTimer place c). Each-weaker (IsTimerAt place c) IsNamed (timer-named place c own number) (timer_rows place c p q) (timer_rows-are place c p q))
    (λ (same : q ≡ p). subst AreNamed (sym (ap (timer_rows place c p) same ∙ timer_rows-same place c p)) tt)
    of

sents-named : (k : ℕ) (place : Place) (ss : List (Place × List ℕ)) → AreNamed (sent_records k place ss)
sents-named = of-kinds.of-sents IsNamed (λ k from to bytes. tt)

behind-named : (e : Event) → AreNamed (behind e)
behind-named (event.Open c isn iss wnd mss) = (tt, tt)
behind-named (event.Deliver k) = (tt, tt)
behind-named (event.Lose k) = (tt, tt)
behind-named (event.Inject c bytes) = (tt, tt)
behind-named _ = tt

-- ---- moves

-- the place that acts has a timer of the connection, or nothing changes
abbrev IsSeatedMove : Conn → Move → Type 0
IsSeatedMove x v = HasTimer v.place x.c ⊎ (v.part ≡ x.part)

machine-timer : (place : Place) (c : ℕ) → IsMachine place → HasTimer place c
machine-timer Front c h = tt
machine-timer (Node n) c h = tt
machine-timer (Client d) c h = absurd h

seated-moves : (k : Setting) → Rules k (Owed IsSeatedMove)
seated-moves k = record {
  untouched = record {
    client = clients-leave k IsSeatedMove (λ x v at own number sound. inl (subst (λ (p : Place). HasTimer p x.c) (sym at.client) refl));
    front = fronts-leave k IsSeatedMove (λ x v at own number sound. inl (machine-timer v.place x.c at.machine));
    node = nodes-leave k IsSeatedMove (λ x v at own number sound. inl (machine-timer v.place x.c at.machine));
    ignores = λ x from to bytes was number sound. inr refl;
  };
  injects = λ x s bytes there rule number sound. inl refl;
}

abbrev Moves : Conn → Move → Type 0
Moves x v = Owed IsSeatedMove x v × IsFine x v

moves : (k : Setting) → Rules k Moves
moves k = both k (Owed IsSeatedMove) IsFine (seated-moves k) (fine k)

-- ---- a step

said-named : (e : Event) (net : List Packet) (place : Place) (notes : List Rec) (segments : List (Place × List ℕ)) (gave : List Rec) (messages : List (Place × List ℕ)) (timers : List Rec)
    → AreNamed notes → AreNamed gave → AreNamed timers → AreNamed (said_rows (behind e) net place notes segments gave messages timers)
said-named e net place notes segments gave messages timers n g t =
    let S : List Rec = sent_records (length net + 1) place segments in
    let M : List Rec = sent_records (length (net ++ packets_of place segments) + 1) place messages in
    Each-append IsNamed (behind e ++ notes ++ S ++ gave ++ M) timers
    (Each-append IsNamed (behind e ++ notes ++ S ++ gave) M
    (Each-append IsNamed (behind e ++ notes ++ S) gave
    (Each-append IsNamed (behind e ++ notes) S (Each-append IsNamed (behind e) notes (behind-named e) n) (sents-named (length net + 1) place segments)) g)
    (sents-named (length (net ++ packets_of place segments) + 1) place messages)) t

in-named : (place : Place) (c : ℕ) (r : Rec) → NotedIn place c r → IsNamed r
in-named place c r (inl h) = note-named place c r h
in-named place c r (inr h) = noted-named r (some-noted place r (inr h))

notes-named : (place : Place) (c : ℕ) (rs : List Rec) → Each (NotedIn place c) rs → AreNamed rs
notes-named place c rs h = Each-weaker (NotedIn place c) IsNamed (in-named place c) rs h

gaves-named : (place : Place) (c : ℕ) (rs : List Rec) → Each (GaveAt place c) rs → AreNamed rs
gaves-named place c rs h = Each-weaker (GaveAt place c) IsNamed (gave-named place c) rs h

module _ (m : Machine) (view : IsViewed m) (e : Event) (adds : List Rec) where
  alone-named : ActsAlone Moves m e adds → AreNamed adds
  unfolding conn
  alone-named a =
      let v : Move = a.move in
      let own : IsItsOwn (conn m a.c) v = (a.moves.does.1 a.moves.number (view.sound a.c)).0 in
      let seated = a.moves.does.0 a.moves.number (view.sound a.c) in
      subst AreNamed (sym a.are)
      (said-named e m.net v.place a.noted v.said.segments v.said.gave v.said.messages (timer_rows v.place a.c (part_of m a.c) v.part)
      (notes-named v.place a.c a.noted a.moves.notes) (gaves-named v.place a.c v.said.gave own.gave) (rows-named v.place a.c (part_of m a.c) v.part a.moves.number seated))

  -- the records of the timers of several, one behind another
  timers-named : (xs : List Moving) → Each (λ x. IsConnNumber x.c × Moves (conn m x.c) x.move) xs → AreNamed (timers_in m xs)
  unfolding conn
  timers-named [] h = tt
  timers-named (x ∷ xs) h = Each-append IsNamed (timer_rows x.move.place x.c (part_of m x.c) x.move.part) (timers_in m xs)
      (rows-named x.move.place x.c (part_of m x.c) x.move.part h.0.0 (h.0.1.0 h.0.0 (view.sound x.c))) (timers-named xs h.1)

  many-named : ActsMany Moves m e adds → AreNamed adds
  many-named a =
      subst AreNamed (sym a.are)
      (said-named e m.net a.place a.o.notes a.o.segments a.o.gave a.o.messages a.o.timers
      (Each-weaker (SomeNote a.place) IsNamed (λ r h. noted-named r (some-noted a.place r h)) a.o.notes a.act.notes)
      (Each-weaker (SomeGift a.place) IsNamed (λ r h. gave-named a.place h.0 r h.1) a.o.gave a.act.gave)
      (subst AreNamed (sym a.timers) (timers-named a.moving a.moves)))

  passing-named : (d : Event) → IsPassing m d adds → AreNamed adds
  passing-named (event.Clock ms) h = subst AreNamed (sym h) (tt, tt)
  passing-named d h = subst AreNamed (sym h) (behind-named d)

  adds-named : IsPassing m e adds ⊎ (ActsAlone Moves m e adds ⊎ ActsMany Moves m e adds) → AreNamed adds
  adds-named (inl passing) = passing-named e passing
  adds-named (inr (inl a)) = alone-named a
  adds-named (inr (inr a)) = many-named a

-- ---- every run

module _ (config : Config) (files : List (List ℕ × List ℕ)) where
  step-named : (k n : Machine) (e : Event) → IsOn config files k → AreNamed k.journal → HasRule e → machine_step k e ≡ Ok n → AreNamed n.journal
  step-named k n e on h rule is =
      let step : IsStepOf Moves k n e = step_acts k n e Moves on.view (on-rules config files Moves (λ l. moves (with_leaving (setting config files) l)) k on) rule is in
      subst AreNamed (sym step.journal) (Each-append IsNamed k.journal (rec.Event (k.events + 1) e ∷ step.adds) h (tt, adds-named k on.view e step.adds step.acts))

  pub named-always : (m : Machine) → IsReached config files m → AreNamed m.journal
  named-always m r = carried-keep config files (λ k. AreNamed k.journal) tt step-named m r

-- ---- seats

-- it has a seat of its own, below 2^32
abbrev SitsLow : Place → ℕ → Type 0
SitsLow p c = IsSeated p c × (seat p c < 2 ^ 32)

seat-of : (nodes : ℕ) → nodes ≤ 64 → (p : Place) (c : ℕ) → HasTimer p c × IsConnNumber c → ((n : ℕ) → Some p ≡ Some (Node n) → (1 ≤ n) × (n ≤ nodes)) → SitsLow p c
seat-of nodes few Front c h there = let number = h.1 in ((tt, omega (arith, number)), omega (arith, number))
seat-of nodes few (Node n) c h there = let number = h.1 in let one = there n refl in (((one.0, omega (arith, one, few)), omega (arith, number)), omega (arith, number, one, few))
seat-of nodes few (Client d) c h there = let number = h.1 in let same : d ≡ c = h.0 in ((omega (arith, number, same), omega (arith, number)), omega (arith, number, same))

abbrev NamesSeated : Rec → Type 0
NamesSeated (rec.Armed p c kind) = SitsLow p c
NamesSeated (rec.Cleared p c kind) = SitsLow p c
NamesSeated _ = Unit {0}

rec-seated : (nodes : ℕ) → nodes ≤ 64 → (past : List Rec) (r : Rec) → IsNamed r → MayBeThere nodes past r → NamesSeated r
rec-seated nodes few past (rec.Armed p c kind) h may = seat-of nodes few p c h may
rec-seated nodes few past (rec.Cleared p c kind) h may = seat-of nodes few p c h may
rec-seated nodes few past _ h may = tt

all-seated : (nodes : ℕ) → nodes ≤ 64 → (past rs : List Rec) → AreNamed rs → EachMay (MayBeThere nodes) past rs → Each NamesSeated rs
all-seated nodes few past [] h may = tt
all-seated nodes few past (r ∷ rs) h may = (rec-seated nodes few past r h.0 may.0, all-seated nodes few (past ++ r ∷ []) rs h.1 may.1)

-- ---- of a journal whose settles are written out, and of that journal

first-seated : (i : ℕ) (r : Rec) (rs : List Rec) → Each NamesSeated (written_rec i r ++ rs) → NamesSeated r
first-seated i (rec.Armed p c kind) rs h = h.0
first-seated i (rec.Cleared p c kind) rs h = h.0
first-seated i _ rs h = tt

rest-seated : (xs ys : List Rec) → Each NamesSeated (xs ++ ys) → Each NamesSeated ys
rest-seated [] ys h = h
rest-seated (x ∷ xs) ys h = rest-seated xs ys h.1

unwritten : (i : ℕ) (J : List Rec) → Each NamesSeated (written_from i J) → Each NamesSeated J
unwritten i [] h = tt
unwritten i (r ∷ rs) h = (first-seated i r (written_from (steps_with i r) rs) h, unwritten (steps_with i r) rs (rest-seated (written_rec i r) (written_from (steps_with i r) rs) h))

own-seat : (r : Rec) → NamesSeated r → NamesSeat r
own-seat (rec.Armed p c kind) h = h.0
own-seat (rec.Cleared p c kind) h = h.0
own-seat _ h = tt

low-seat : (r : Rec) → NamesSeated r → NamesLowSeat r
low-seat (rec.Armed p c kind) h = h.1
low-seat (rec.Cleared p c kind) h = h.1
low-seat _ h = tt

each-of : (P : Rec → Type 0) → ((r : Rec) → NamesSeated r → P r) → (rs : List Rec) → Each NamesSeated rs → AllByRecursion P rs
each-of P f [] h = tt
each-of P f (r ∷ rs) h = (f r h.0, each-of P f rs h.1)

module _ (config : Config) (files : List (List ℕ × List ℕ)) (m : Machine) (checked : config_check config ≡ Ok tt) (w : IsWrittenOut config files m) where
  seated : Each NamesSeated m.journal
  seated = unwritten 0 m.journal (subst (Each NamesSeated) w.journal
      (all-seated config.nodes (usable config checked).nodes [] w.plain.journal (named-always config files w.plain w.reached) (only-nodes config files w.plain w.reached)))

  pub seats-named : AllByRecursion NamesSeat m.journal
  seats-named = each-of NamesSeat own-seat m.journal seated

  pub seats-low : AllByRecursion NamesLowSeat m.journal
  seats-low = each-of NamesLowSeat low-seat m.journal seated
