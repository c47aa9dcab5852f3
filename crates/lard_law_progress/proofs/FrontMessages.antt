-- The front end hears a message of a node: nothing that is left to do comes back.
use Rattle.std.proofs.Common.{◌≡◌, ◌==◌, ℕ, Bool, true, false, cond, Option, Some, None, refl, sym, ap, ◌∙◌}
use Rattle.lard_law_view.specs.Prelude.{Ask, BackConn, BackRow, Epoch, FilesAt, Final, FrontDeed, FrontEnv, FrontPart, FrontRest, FrontRow, NodePart, Part, Station, assigns, ended_row, front_ends, front_rest, next_epoch, taken_by, with_front, without}
use Rattle.lard_base.specs.declared.place.TimerKind.TheVariants as kind
use Rattle.lard_bound.specs.Seats.{seat_away, seat_decided, seat_of, seat_over_by, seat_there, seat_untaken, staying_of}
use Rattle.lard_bound.specs.Units.{Whole}
use Rattle.lard_rules.specs.Front.{Does}
use Rattle.lard_handoff_back.specs.declared.row.BackConn.TheVariants as back
use Rattle.lard_handoff_front.specs.declared.row.FrontConn.TheVariants as stage
use Rattle.lard_law_progress.proofs.Given.{IsGone}
use Rattle.lard_law_progress.proofs.Handing.{ended-over, taken-back, taken-gone, taken-here}
use Rattle.lard_law_progress.proofs.Less.{Lasting}
use Rattle.lard_law_progress.proofs.Seating.{FrontLasts, front-stays, seat-at, seat-counts}

module _ (w : Whole) (K : ℕ) (files : FilesAt) (p : Part) (st : Station) where
  abbrev Owes : FrontDeed → Type 0
  Owes d = FrontLasts w K files p st d

  abbrev To : FrontPart → Type 0
  To f = Lasting w K files p st (with_front p f) st

  -- ---- its node took it: that goes, where the node decided; else it is where it was

  flips-over : (f : FrontPart) (n e : ℕ) (o : Option ℕ) → seat_of p ≡ seat_over_by false n e o → seat_of (with_front p f) ≡ seat_over_by true n e o → To f
  flips-over f n e None was now = taken-gone w K files p st f n e was now
  flips-over f n e (Some served) was now = taken-back w K files p st f n e served was now

  flips-there : (f : FrontPart) (n e count : ℕ) (q : NodePart) (s : BackConn) → seat_of p ≡ seat_there false n e count q s → seat_of (with_front p f) ≡ seat_there true n e count q s → To f
  flips-there f n e count q (back.Here b) was now = taken-here w K files p st f n e b (staying_of q) was now
  flips-there f n e count q back.Out was now = front-stays w K files p st f (now ∙ sym was)
  flips-there f n e count q back.Ended was now = flips-over f n e q.beside.returned was now
  flips-there f n e count q back.Gone was now = flips-over f n e q.beside.returned was now

  flips-by : (f : FrontPart) (n e count : ℕ) (q : NodePart) (s : BackConn) (b : Bool)
      → seat_of p ≡ cond b (seat_there false n e count q s) (seat_untaken n e count q)
      → seat_of (with_front p f) ≡ cond b (seat_there true n e count q s) (seat_untaken n e count q) → To f
  flips-by f n e count q s true was now = flips-there f n e count q s was now
  flips-by f n e count q s false was now = front-stays w K files p st f (now ∙ sym was)

  flips : (f : FrontPart) (n e count : ℕ) (q : NodePart) (o : Option BackRow) → seat_of p ≡ seat_decided false n e count q o → seat_of (with_front p f) ≡ seat_decided true n e count q o → To f
  flips f n e count q None was now = front-stays w K files p st f (now ∙ sym was)
  flips f n e count q (Some r) was now = flips-by f n e count q r.stage (r.epoch.0 == e) was now

  pub taken-lasts : (row : FrontRow) (n : ℕ) (d : Epoch) (epoch : ℕ) → p.front.row ≡ Some row → row.stage ≡ stage.Offering n d → d.0 ≡ epoch → Owes (taken_by p.front epoch (Some row) (Some n))
  taken-lasts row n d epoch at is same known =
      let r : FrontRow = record row { stage = stage.Moved n (record { 0 = epoch }) } in
      let f : FrontPart = record p.front { row = Some r; kept = without kind.Offer 0 p.front.kept } in
      let count = (front_rest p.front.rest).count in
      let was : seat_of p ≡ seat_away false n epoch count (p.nodes n) = seat-at p row (stage.Offering n d) at is ∙ ap (λ e. seat_away false n e count (p.nodes n)) same in
      let now : seat_of (with_front p f) ≡ seat_away true n epoch count (p.nodes n) = seat-at (with_front p f) r (stage.Moved n (record { 0 = epoch })) refl refl in
      flips f n epoch count (p.nodes n) (p.nodes n).row was now

  -- ---- its node asks: the answer is kept, and it is where it was

  pub assigned-lasts : (env : FrontEnv) (from epoch : ℕ) (ask : Ask) (rest : FrontRest) → p.front.rest ≡ Some rest → Owes (Does (assigns env p.front rest from epoch ask (env.later ask)))
  assigned-lasts env from epoch ask rest found known =
      let f = (assigns env p.front rest from epoch ask (env.later ask)).part in
      front-stays w K files p st f (seat-counts w K files p st f (sym (ap (λ (o : Option FrontRest). (front_rest o).count) found)) refl)

  -- ---- it ended at its node

  pub ended-lasts : (env : FrontEnv) (from epoch : ℕ) (last : Final) (row : FrontRow) → IsGone (seat_of p) → Owes (Does (front_ends env p.front from epoch last row (next_epoch row)))
  ended-lasts env from epoch last row g known =
      let f = (front_ends env p.front from epoch last row (next_epoch row)).part in
      ended-over w K files p st f g.told g.n g.e last g.is (seat-at (with_front p f) (ended_row (record { 0 = epoch }) last row) (stage.Closed last) refl refl)
