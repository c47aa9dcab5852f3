-- At first all members are left, one is looked at in each turn, and none is left behind the last.
use Rattle.std.proofs.Common.{◌≡◌, ◌<◌, ◌≤◌, ◌∙◌, sym, ap, arith}
use Rattle.lard_costs.specs.Costs.{cost_at}
use Rattle.lard_costs.specs.Later.{cheapest}
use Rattle.lard_costs.proofs.Members.{members_from, members_from-one, members_from-end, cheapest-next}
use Rattle.lard_costs.proofs.later.cheapest.Goals as goal

pub loop-number-init : goal.loop-number-init
loop-number-init c = record {
  rest = ap (cheapest (cost_at c.args.loads.now c.args.cfg.now c.args.set) c.args.h) (members_from-one c.args.set);
  within = c.requires.home;
}

pub loop-number-preserved : goal.loop-number-preserved
loop-number-preserved c =
    let some : 1 ≤ c.loop-number.number = omega arith in
    let low : c.loop-number.number < 65 = omega arith in
    let most : c.loop-number.number ≤ 64 = omega arith in
    record {
      rest = cheapest-next c.args.set (cost_at c.args.loads.now c.args.cfg.now c.args.set) c.loop-number.best c.loop-number.number c.after_member-best.result low (c.after_member-best.ensures.node some most)
          ∙ c.loop-number.invariant.rest;
      within = c.after_member-best.ensures.within;
    }

pub returns-clause-node : goal.returns-clause-node
returns-clause-node c =
    let last : c.loop-number.number ≡ 65 = omega arith in
    sym (members_from-end c.args.set (cost_at c.args.loads.now c.args.cfg.now c.args.set) c.loop-number.best)
    ∙ ap (λ n. cheapest (cost_at c.args.loads.now c.args.cfg.now c.args.set) c.loop-number.best (members_from c.args.set n)) (sym last)
    ∙ c.loop-number.invariant.rest
