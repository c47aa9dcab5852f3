-- The new entry goes last, and its size is added to the sum.
use Rattle.std.proofs.Common.{◌≡◌, ◌+◌, ◌++◌, ◌∷◌, [], ◌∙◌, ap, arith}
use Rattle.lard_lab.specs.Targets.{fresh_target, targets_shown, targets_total}
use Rattle.lard_lab.proofs.Entries.{allowed, shown-added, total-added}
use Rattle.lard_lab.proofs.targets.Targets.keep.Goals as goal

seen : (c : goal.After-self-1) → targets_shown c.insert.new.self.entries ≡ c.args.self.now ++ (c.args.path.now, fresh_target c.args.size) ∷ []
seen c =
    shown-added c.self.inside.targets.entries c.insert.new.self.entries c.in_ok-key.key c.fresh.result (fresh_target c.args.size) c.args.self.now c.args.path.now
    c.self.view_is c.in_ok-key.ensures.items c.fresh.ensures (allowed c.args.self.now c.args.path.now c.args.size c.requires.allowed).absent c.in_ok-insert.ensures.entries

pub invariant_of-self-2 : goal.invariant_of-self-2
invariant_of-self-2 c =
    let new : targets_total (targets_shown c.insert.new.self.entries) ≡ targets_total c.args.self.now + c.args.size = ap targets_total (seen c) ∙ total-added c.args.self.now c.args.path.now (fresh_target c.args.size) in
    let old : c.self.inside.bytes ≡ targets_total c.args.self.now = c.self.invariant.0 ∙ ap targets_total c.self.view_is in
    (omega (arith, new, old), omega (arith, (allowed c.args.self.now c.args.path.now c.args.size c.requires.allowed).fits, old))

pub returns-clause-ok : goal.returns-clause-ok
returns-clause-ok c = seen c
