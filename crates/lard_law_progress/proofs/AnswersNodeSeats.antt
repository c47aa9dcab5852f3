-- Where the spot says that a node has the connection, or decided about its Offer, by what the front end and the node keep.
use Rattle.std.proofs.Common.{◌≡◌, ◌==◌, ℕ, Bool, true, false, cond, Option, Some, None, refl, ap, ◌∙◌, arith}
use Rattle.std.proofs.lemmas.Bool.{cond-true, cond_both, eqb-true}
use Rattle.std.proofs.lemmas.Bool.Decides.{nat_tests}
use Rattle.lard_bound.specs.Seats.{Gone, Here, Offered, Refused, Returned, SeatNow, seat_by, seat_decided, seat_in, seat_of, seat_over_by, seat_there, seat_untaken, staying_of}
use Rattle.lard_law_view.specs.Prelude.{BackConn, BackRow, ControlBlock, FrontConn, FrontRow, NodePart, Part, Stay, both_of, front_rest, here, staying}
use Rattle.lard_handoff_back.specs.declared.row.BackConn.TheVariants as back
use Rattle.lard_handoff_back.specs.Leaving.{is_this_epoch}
use Rattle.lard_handoff_front.specs.declared.row.FrontConn.TheVariants as stage
use Rattle.lard_law_progress.proofs.Away.{IsWith, away-here, seat-with}
use Rattle.lard_law_progress.proofs.Given.{IsAt}

-- node n has the connection in epoch e, and the front end is with it
pub record IsHere (p : Part) (told : Bool) (n e : ℕ) (b : ControlBlock) : Type 0 where
  pub front : FrontRow
  pub row : p.front.row ≡ Some front
  pub with_ : IsWith told n e front.stage
  pub there : (p.nodes n).row ≡ Some (record { stage = back.Here b; epoch = record { 0 = e } })

-- node n decided about the Offer of epoch e
pub record IsDone (p : Part) (n e : ℕ) : Type 0 where
  pub row : BackRow
  pub there : (p.nodes n).row ≡ Some row
  pub epoch : row.epoch.0 ≡ e

-- what a seat tells of the places
abbrev pub Sits : Part → SeatNow → Type 0
Sits p (Here told n e b s) = IsHere p told n e b × (s ≡ staying_of (p.nodes n))
Sits p (Gone told n e) = IsDone p n e
Sits p (Returned told n e served) = IsDone p n e
Sits p (Offered n e count) = IsAt p.front n e
Sits p (Refused n e count) = IsAt p.front n e × (is_this_epoch e (p.nodes n).beside.refused ≡ true)
Sits p _ = Unit {0}

module _ (p : Part) (front : FrontRow) (row : p.front.row ≡ Some front) (told : Bool) (n e count : ℕ) (with_ : IsWith told n e front.stage) where
  at : IsAt p.front n e
  at = record { told = told; row = front; front = row; with_ = with_ }

  over-sits : IsDone p n e → (o : Option ℕ) → Sits p (seat_over_by told n e o)
  over-sits done None = done
  over-sits done (Some served) = done

  there-sits : (r : BackRow) (s : BackConn) → (p.nodes n).row ≡ Some r → r.stage ≡ s → (r.epoch.0 == e) ≡ true → Sits p (seat_there told n e count (p.nodes n) s)
  there-sits r (back.Here b) is stage_is same =
      let e_is : r.epoch.0 ≡ e = eqb-true r.epoch.0 e same in
      (record { front = front; row = row; with_ = with_; there = is ∙ λ i. Some (record { stage = stage_is i; epoch = record { 0 = e_is i } }) }, refl)
  there-sits r back.Out is stage_is same = at
  there-sits r back.Ended is stage_is same = over-sits (record { row = r; there = is; epoch = eqb-true r.epoch.0 e same }) (p.nodes n).beside.returned
  there-sits r back.Gone is stage_is same = over-sits (record { row = r; there = is; epoch = eqb-true r.epoch.0 e same }) (p.nodes n).beside.returned

  untaken-sits : Sits p (seat_untaken n e count (p.nodes n))
  untaken-sits = cond_both (is_this_epoch e (p.nodes n).beside.refused) (Refused n e count) (Offered n e count) (Sits p) (λ t. (at, t)) (λ t. at)

  decided-sits : (o : Option BackRow) → (p.nodes n).row ≡ o → Sits p (seat_decided told n e count (p.nodes n) o)
  decided-sits None is = untaken-sits
  decided-sits (Some r) is = go (r.epoch.0 == e) refl where
    go : (b : Bool) → (r.epoch.0 == e) ≡ b → Sits p (cond b (seat_there told n e count (p.nodes n) r.stage) (seat_untaken n e count (p.nodes n)))
    go true same = there-sits r r.stage is refl same
    go false other = untaken-sits

pub seat-sits : (p : Part) → Sits p (seat_of p)
unfolding seat_of
seat-sits p = by-row p.front.row refl where
  by-stage : (front : FrontRow) → p.front.row ≡ Some front → (s : FrontConn) → front.stage ≡ s → Sits p (seat_in p.front p.nodes s)
  by-stage front row (stage.Held b) is = tt
  by-stage front row (stage.Waiting b) is = tt
  by-stage front row stage.Lent is = tt
  by-stage front row (stage.Offering n e) is = decided-sits p front row false n e.0 (front_rest p.front.rest).count is (p.nodes n).row refl
  by-stage front row (stage.Moved n e) is = decided-sits p front row true n e.0 (front_rest p.front.rest).count is (p.nodes n).row refl
  by-stage front row (stage.Closed last) is = tt

  by-row : (o : Option FrontRow) → p.front.row ≡ o → Sits p (seat_by p.front p.nodes o)
  by-row None is = tt
  by-row (Some front) is = by-stage front is front.stage refl

-- ---- a connection that a node has

pub here-seat : (p : Part) (told : Bool) (n e : ℕ) (b : ControlBlock) → IsHere p told n e b → seat_of p ≡ Here told n e b (staying_of (p.nodes n))
here-seat p told n e b h = seat-with p n e told h.front h.row h.with_ ∙ away-here told n e (front_rest p.front.rest).count (p.nodes n) b h.there

self : (n : ℕ) → (n == n) ≡ true
self n = grind (arith, nat_tests)

-- what the rules of its stay are over
pub here-both : (q : NodePart) (e : ℕ) (b : ControlBlock) (s : Stay) → q.row ≡ Some (record { stage = back.Here b; epoch = record { 0 = e } }) → q.stay ≡ Some s → here e q ≡ Some (b, s)
here-both q e b s row stay =
    let one : staying e q.row ≡ Some b = ap (staying e) row ∙ cond-true (e == e) (Some b) None (self e) in
    ap (λ (o : Option ControlBlock). both_of o q.stay) one ∙ ap (both_of (Some b)) stay
