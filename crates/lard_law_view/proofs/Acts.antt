-- The connections that move in a step, and the step's records with the numbers that they have.
use Rattle.std.proofs.Common.{◌≡◌, ◌≢◌, ◌<◌, ℕ, ◌+◌, List, [], ◌∷◌, ◌++◌, map, length, Ok, refl, sym, ap, ◌∙◌, inl, inr, ⊎_elim, append-nil, arith}
use Rattle.std.specs.Prelude.{◌⊎◌}
use Rattle.std.specs.List.{flat_map}
use Rattle.lard_law_view.specs.Prelude.{Conn, Event, Front, HasRule, IsConnNumber, IsMachine, IsViewed, Machine, Move, Out, Packet, Part, Place, Rec, Row, Rules, Seen, clocked, conn, machine_step, machine_told, packets_of, part_of, seen_on, sent_records, setting_of, timer_rows}
use Rattle.lard_base.specs.declared.event.Event.TheVariants as event
use Rattle.lard_law_view.proofs.AnyShape.{IsAct, each-act, two-act}
use Rattle.lard_law_view.proofs.Heads.{ActsAt}
use Rattle.lard_law_view.proofs.Saying.{NotedIn}
use Rattle.lard_law_view.proofs.Shapes.{ActsOn, ActsOnEach, ActsOnTwo, AreRising, IsMover, Mover, Shapes, both_out, each_out, move_of, mover_move, with_rest}
use Rattle.lard_law_view.proofs.Stepping.{step-has}
use Rattle.lard_history.proofs.Each.{Each}
use Rattle.lard_journal.specs.declared.rec.Rec.TheVariants as rec
use Rattle.lard_law_view.proofs.Deliveries.{IsDelivered, IsHead}
use Rattle.lard_law_view.proofs.OwnRecords.{behind}

-- behind these records those of what is noted, sent and given up, and of timers, where there were these packets
abbrev pub said_rows : List Rec → List Packet → Place → List Rec → List (Place × List ℕ) → List Rec → List (Place × List ℕ) → List Rec → List Rec
said_rows before net place notes segments gave messages timers =
    before ++ notes ++ sent_records (length net + 1) place segments ++ gave ++ sent_records (length (net ++ packets_of place segments) + 1) place messages ++ timers

-- Connection c moves, behind these heads. What is noted may name none, as a path that goes to the front of a cache.
pub record Moves (P : Conn → Move → Type 0) (m : Machine) (e : Event) (c : ℕ) (move : Move) (noted : List Rec) : Type 0 where
  pub number : IsConnNumber c
  pub does : P (conn m c) move
  pub event : Each (IsHead e) move.heads
  pub came : Each (IsDelivered m.net e) move.heads
  pub notes : Each (NotedIn move.place c) noted
  pub seen : (net : List Packet) → seen_on c net noted ≡ map Row move.said.notes

-- It moves alone, and its move's records stand behind those of the event.
pub record ActsAlone (P : Conn → Move → Type 0) (m : Machine) (e : Event) (adds : List Rec) : Type 0 where
  pub c : ℕ
  pub move : Move
  pub noted : List Rec
  pub moves : Moves P m e c move noted
  pub acts : ActsAt m.net e move.place
  pub are : adds ≡ said_rows (behind e) m.net move.place noted move.said.segments move.said.gave move.said.messages (timer_rows move.place c (part_of m c) move.part)

-- one that moves among several
pub record Moving : Type 0 where
  pub c : ℕ
  pub move : Move

-- no two of them are the same
abbrev pub AreApart : List Moving → Type 0
AreApart [] = Unit {0}
AreApart (x ∷ xs) = Each (λ y. y.c ≢ x.c) xs × AreApart xs

-- the records of their timers, one behind another
abbrev pub timers_in : Machine → List Moving → List Rec
timers_in m xs = flat_map (λ x. timer_rows x.move.place x.c (part_of m x.c) x.move.part) xs

-- Several move in the step of a machine of the cluster, or none. What it says of them stands kind by kind.
pub record ActsMany (P : Conn → Move → Type 0) (m : Machine) (e : Event) (adds : List Rec) : Type 0 where
  pub w : Machine
  pub place : Place
  pub machine : IsMachine place
  pub o : Out
  pub act : IsAct m w e place o
  pub moving : List Moving
  pub apart : AreApart moving
  pub moves : Each (λ x. IsConnNumber x.c × P (conn m x.c) x.move) moving
  pub timers : o.timers ≡ timers_in m moving
  pub are : adds ≡ said_rows (behind e) m.net place o.notes o.segments o.gave o.messages o.timers

-- what stands behind an event in whose step nothing is done
abbrev pub IsPassing : Machine → Event → List Rec → Type 0
IsPassing m (event.Clock ms) adds = adds ≡ rec.Clock (record { 0 = m.now + ms }) ∷ []
IsPassing m e adds = adds ≡ behind e

-- The step adds its event and these records: one connection moves, or several, or none.
pub record IsStepOf (P : Conn → Move → Type 0) (m n : Machine) (e : Event) : Type 0 where
  pub events : n.events ≡ m.events + 1
  pub adds : List Rec
  pub journal : n.journal ≡ m.journal ++ rec.Event (m.events + 1) e ∷ adds
  pub acts : IsPassing m e adds ⊎ (ActsAlone P m e adds ⊎ ActsMany P m e adds)

module _ (m : Machine) (P : Conn → Move → Type 0) where
  -- the records of an act, as they are told
  rows-are : (w : Machine) (e : Event) (place : Place) (o : Out) → w.net ≡ m.net → w.journal ≡ m.journal → w.events ≡ m.events
      → (machine_told w e (behind e) place o).journal ≡ m.journal ++ (rec.Event (m.events + 1) e ∷ said_rows (behind e) m.net place o.notes o.segments o.gave o.messages o.timers)
  unfolding machine_told
  rows-are w e place o net journal events = λ i. journal i ++ (rec.Event (events i + 1) e ∷ said_rows (behind e) (net i) place o.notes o.segments o.gave o.messages o.timers)

  one-acts : (w : Machine) (e : Event) (place : Place) (o : Out) (c : ℕ) (heads : List Seen) (ns : List Rec) (p : Part) → ActsOn m w e place o c heads ns p
      → P (conn m c) (move_of place heads ns o p) → IsStepOf P m (machine_told w e (behind e) place o) e
  unfolding machine_told
  one-acts w e place o c heads ns p act does = record {
    events = ap (λ i. i + 1) act.put.events;
    adds = said_rows (behind e) m.net place o.notes o.segments o.gave o.messages o.timers;
    journal = rows-are w e place o act.put.net act.put.journal act.put.events;
    acts = inr (inl (record {
      c = c;
      move = move_of place heads ns o p;
      noted = o.notes;
      moves = record { number = act.number; does = does; event = act.begins.event; came = act.begins.came; notes = act.said.notes; seen = act.notes };
      acts = act.begins.acts;
      are = ap (λ (rs : List Rec). said_rows (behind e) m.net place o.notes o.segments o.gave o.messages rs) act.timers;
    }));
  }

  many-act : (w : Machine) (e : Event) (place : Place) (o : Out) (moving : List Moving) → IsMachine place → IsAct m w e place o → AreApart moving → Each (λ x. IsConnNumber x.c × P (conn m x.c) x.move) moving
      → o.timers ≡ timers_in m moving → IsStepOf P m (machine_told w e (behind e) place o) e
  unfolding machine_told
  many-act w e place o moving machine act apart moves timers = record {
    events = ap (λ i. i + 1) act.put.events;
    adds = said_rows (behind e) m.net place o.notes o.segments o.gave o.messages o.timers;
    journal = rows-are w e place o act.put.net act.put.journal act.put.events;
    acts = inr (inr (record { w = w; place = place; machine = machine; o = o; act = act; moving = moving; apart = apart; moves = moves; timers = timers; are = refl }));
  }

  two-move : (w : Machine) (e : Event) (a b z : Out) (rows : List Rec) (c d : ℕ) (heads : List Seen) (ns : List Rec) (p r : Part) → ActsOnTwo m w e a b z rows c d heads ns p r
      → P (conn m c) (move_of Front heads ns (with_rest a z) p) → P (conn m d) (move_of Front [] b.notes b r) → IsStepOf P m (machine_told w e (behind e) Front (both_out a b z rows)) e
  two-move w e a b z rows c d heads ns p r act does too =
      let x : Moving = record { c = c; move = move_of Front heads ns (with_rest a z) p } in
      let y : Moving = record { c = d; move = move_of Front [] b.notes b r } in
      let cs : List Rec = timer_rows Front c (part_of m c) p in
      let ds : List Rec = timer_rows Front d (part_of m d) r in
      let acts : IsAct m w e Front (both_out a b z rows) = two-act m w e a b z rows c d heads ns p r act in
      ⊎_elim
      (λ (order : rows ≡ a.timers ++ b.timers). many-act w e Front (both_out a b z rows) (x ∷ y ∷ []) tt acts ((act.apart, tt), (tt, tt)) ((act.number, does), ((act.number_too, too), tt))
      (order ∙ (λ i. act.timers i ++ act.timers_too i) ∙ ap (λ (rs : List Rec). cs ++ rs) (sym (append-nil ds))))
      (λ (order : rows ≡ b.timers ++ a.timers). many-act w e Front (both_out a b z rows) (y ∷ x ∷ []) tt acts (((λ same. act.apart (sym same)), tt), (tt, tt)) ((act.number_too, too), ((act.number, does), tt))
      (order ∙ (λ i. act.timers_too i ++ act.timers i) ∙ ap (λ (rs : List Rec). ds ++ rs) (sym (append-nil cs))))
      act.order

  -- each of many
  abbrev moving_of : Place → Mover → Moving
  moving_of place x = record { c = x.c; move = mover_move place x }

  apart-behind : (place : Place) (c : ℕ) (xs : List Mover) → Each (λ y. c < y.c) xs → Each (λ y. y.c ≢ c) (map (moving_of place) xs)
  apart-behind place c [] h = tt
  apart-behind place c (y ∷ xs) h = ((λ same. omega (arith, h.0, same)), apart-behind place c xs h.1)

  rising-apart : (place : Place) (xs : List Mover) → AreRising xs → AreApart (map (moving_of place) xs)
  rising-apart place [] h = tt
  rising-apart place (x ∷ xs) h = (apart-behind place x.c xs h.0, rising-apart place xs h.1)

  movers-move : (w : Machine) (place : Place) (xs : List Mover) → Each (IsMover m w place) xs → Each (λ x. P (conn m x.c) (mover_move place x)) xs
      → Each (λ x. IsConnNumber x.c × P (conn m x.c) x.move) (map (moving_of place) xs)
  movers-move w place [] h made = tt
  movers-move w place (x ∷ xs) h made = ((h.0.number, made.0), movers-move w place xs h.1 made.1)

  movers-timers : (w : Machine) (place : Place) (xs : List Mover) → Each (IsMover m w place) xs → flat_map (λ x. x.timers) xs ≡ timers_in m (map (moving_of place) xs)
  movers-timers w place [] h = refl
  movers-timers w place (x ∷ xs) h = λ i. h.0.timers i ++ movers-timers w place xs h.1 i

  each-move : (w : Machine) (e : Event) (place : Place) (notes : List Rec) (xs : List Mover) → ActsOnEach m w e place notes xs → Each (λ x. P (conn m x.c) (mover_move place x)) xs
      → IsStepOf P m (machine_told w e (behind e) place (each_out notes xs)) e
  each-move w e place notes xs act made = many-act w e place (each_out notes xs) (map (moving_of place) xs) act.machine (each-act m w e place notes xs act) (rising-apart place xs act.rising)
      (movers-move w place xs act.movers made) (movers-timers w place xs act.movers)

  shapes-act : Shapes m P (λ e n. IsStepOf P m n e)
  unfolding clocked
  shapes-act = record {
    one = one-acts;
    two = two-move;
    each = each-move;
    nobody = λ k l at there. record { events = refl; adds = behind (event.Deliver k); journal = refl; acts = inl refl };
    loses = λ k l at there. record { events = refl; adds = behind (event.Lose k); journal = refl; acts = inl refl };
    clocks = λ ms. record { events = refl; adds = rec.Clock (record { 0 = m.now + ms }) ∷ []; journal = refl; acts = inl refl };
  }

-- what the step of an event is
pub step_acts : (m n : Machine) (e : Event) (P : Conn → Move → Type 0) → IsViewed m → Rules (setting_of m) P → HasRule e → machine_step m e ≡ Ok n → IsStepOf P m n e
step_acts m n e P view R rule is = step-has m view P R (λ d k. IsStepOf P m k d) (shapes-act m P) e n rule is
