-- A connection that is at a node, or whose node tells its end, is so by what the front end keeps.
use Rattle.std.proofs.Common.{◌≡◌, ◌<◌, ◌^◌, ◌==◌, ◌&&◌, ℕ, Bool, true, false, Option, Some, None, refl, sym, ◌∙◌, arith}
use Rattle.std.proofs.lemmas.Bool.{and_parts, eq-eqb, eqb-true}
use Rattle.lard_bound.specs.Seats.{Gone, Here, Returned, SeatNow, Staying, Unborn, seat_away, seat_in, seat_of}
use Rattle.lard_law_view.specs.Prelude.{ControlBlock, FrontConn, FrontRow, NodePart, Part, front_rest, is_away, is_row_at, is_with}
use Rattle.lard_handoff_front.specs.declared.row.FrontConn.TheVariants as stage
use Rattle.lard_law_progress.proofs.AnswersFrontGiven.{IsStage}
use Rattle.lard_law_progress.proofs.AnswersFrontSpots.{away-cases, seat-row}

-- the front end's stage is that of a node
pub home : (p : Part) (told : Bool) (n e : ℕ) (b : ControlBlock) (s : Staying) → seat_of p ≡ Here told n e b s → is_row_at n e p.front.row ≡ true
home p told n e b s seat = go p.front.row refl where
  same : (m d : ℕ) → m ≡ n → d ≡ e → ((m == n) && (d == e)) ≡ true
  same m d f g = λ i. (eq-eqb m n f i) && (eq-eqb d e g i)

  away : (t : Bool) (m d count : ℕ) (q : NodePart) → seat_away t m d count q ≡ Here told n e b s → (m ≡ n) × (d ≡ e)
  away t m d count q = away-cases t m d count q (λ (z : SeatNow). z ≡ Here told n e b s → (m ≡ n) × (d ≡ e)) (λ f. absurd cc) (λ f. absurd cc)
      (λ c f. (cc, cc)) (λ f. absurd cc) (λ served f. absurd cc)

  at : (c : FrontConn) → seat_in p.front p.nodes c ≡ Here told n e b s → is_with n e c ≡ true
  at (stage.Held d) f = absurd cc
  at (stage.Waiting d) f = absurd cc
  at stage.Lent f = absurd cc
  at (stage.Offering m d) f = let h = away false m d.0 (front_rest p.front.rest).count (p.nodes m) f in same m d.0 h.0 h.1
  at (stage.Moved m d) f = let h = away true m d.0 (front_rest p.front.rest).count (p.nodes m) f in same m d.0 h.0 h.1
  at (stage.Closed last) f = absurd cc

  go : (o : Option FrontRow) → p.front.row ≡ o → is_row_at n e o ≡ true
  go None is = absurd (let bad : Unborn ≡ Here told n e b s = sym (seat-row p None is) ∙ seat in cc)
  go (Some row) is = at row.stage (sym (seat-row p (Some row) is) ∙ seat)

-- and so where its node tells the end
pub gone-home : (p : Part) (row : FrontRow) (told : Bool) (n e : ℕ) → p.front.row ≡ Some row → seat_of p ≡ Gone told n e → is_away e row.stage ≡ true
gone-home p row told n e is seat = at row.stage (sym (seat-row p (Some row) is) ∙ seat) where
  same : (d : ℕ) → d ≡ e → (d == e) ≡ true
  same d f = eq-eqb d e f

  away : (t : Bool) (m d count : ℕ) (q : NodePart) → seat_away t m d count q ≡ Gone told n e → d ≡ e
  away t m d count q = away-cases t m d count q (λ (z : SeatNow). z ≡ Gone told n e → d ≡ e) (λ f. absurd cc) (λ f. absurd cc) (λ c f. absurd cc) (λ f. cc)
      (λ served f. absurd cc)

  at : (c : FrontConn) → seat_in p.front p.nodes c ≡ Gone told n e → is_away e c ≡ true
  at (stage.Held d) f = absurd cc
  at (stage.Waiting d) f = absurd cc
  at stage.Lent f = absurd cc
  at (stage.Offering m d) f = same d.0 (away false m d.0 (front_rest p.front.rest).count (p.nodes m) f)
  at (stage.Moved m d) f = same d.0 (away true m d.0 (front_rest p.front.rest).count (p.nodes m) f)
  at (stage.Closed last) f = absurd cc

-- and where its node gives it back
pub returned-home : (p : Part) (told : Bool) (n e served : ℕ) → seat_of p ≡ Returned told n e served
    → (row : FrontRow) × (p.front.row ≡ Some row) × (is_with n e row.stage ≡ true) × (is_away e row.stage ≡ true)
returned-home p told n e served seat = go p.front.row refl where
  same : (m d : ℕ) → m ≡ n → d ≡ e → ((m == n) && (d == e)) ≡ true
  same m d f g = λ i. (eq-eqb m n f i) && (eq-eqb d e g i)

  away : (t : Bool) (m d count : ℕ) (q : NodePart) → seat_away t m d count q ≡ Returned told n e served → (m ≡ n) × (d ≡ e)
  away t m d count q = away-cases t m d count q (λ (z : SeatNow). z ≡ Returned told n e served → (m ≡ n) × (d ≡ e)) (λ f. absurd cc) (λ f. absurd cc)
      (λ c f. absurd cc) (λ f. absurd cc) (λ s f. (cc, cc))

  at : (c : FrontConn) → seat_in p.front p.nodes c ≡ Returned told n e served → (is_with n e c ≡ true) × (is_away e c ≡ true)
  at (stage.Held d) f = absurd cc
  at (stage.Waiting d) f = absurd cc
  at stage.Lent f = absurd cc
  at (stage.Offering m d) f = let h = away false m d.0 (front_rest p.front.rest).count (p.nodes m) f in (same m d.0 h.0 h.1, eq-eqb d.0 e h.1)
  at (stage.Moved m d) f = let h = away true m d.0 (front_rest p.front.rest).count (p.nodes m) f in (same m d.0 h.0 h.1, eq-eqb d.0 e h.1)
  at (stage.Closed last) f = absurd cc

  go : (o : Option FrontRow) → p.front.row ≡ o → (row : FrontRow) × (p.front.row ≡ Some row) × (is_with n e row.stage ≡ true) × (is_away e row.stage ≡ true)
  go None is = absurd (let bad : Unborn ≡ Returned told n e served = sym (seat-row p None is) ∙ seat in cc)
  go (Some row) is = let h = at row.stage (sym (seat-row p (Some row) is) ∙ seat) in (row, is, h.0, h.1)

-- its epoch fits a message
pub at-small : (n e : ℕ) (c : FrontConn) → IsStage c → is_with n e c ≡ true → e < 2 ^ 16
at-small n e stage.Lent h f = absurd h
at-small n e (stage.Offering m d) h f = let p = and_parts (m == n) (d.0 == e) f in let s : d.0 ≡ e = eqb-true d.0 e p.1 in omega (arith, s, h)
at-small n e (stage.Moved m d) h f = let p = and_parts (m == n) (d.0 == e) f in let s : d.0 ≡ e = eqb-true d.0 e p.1 in omega (arith, s, h)
at-small n e _ h f = absurd cc

pub small-at : (n e : ℕ) (o : Option FrontRow) → ((row : FrontRow) → o ≡ Some row → IsStage row.stage) → is_row_at n e o ≡ true → e < 2 ^ 16
small-at n e None h f = absurd cc
small-at n e (Some row) h f = at-small n e row.stage (h row refl) f
