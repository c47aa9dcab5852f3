-- Nothing was requested yet.
use Rattle.std.proofs.Common.{sym, subst}
use Rattle.lard_loads.specs.Tally.{Tally}
use Rattle.lard_lab.specs.Desk.{desk_begun}
use Rattle.lard_lab.specs.Sound.{IsDeskSound}
use Rattle.lard_lab.proofs.Soundness.{begun-with-sound}
use Rattle.lard_lab.proofs.assigner.Assigner.with_targets.Goals as goal

pub invariant_of-result : goal.invariant_of-result
invariant_of-result c = (
  c.room-room.ensures.room,
  subst (λ (l : Tally). IsDeskSound (record (desk_begun c.args.policy c.args.config) { loads = l; targets = c.args.targets })) (sym c.in_ok-loads.ensures)
      (begun-with-sound c.args.policy c.args.config c.args.targets c.requires.usable c.requires.fresh),
)
