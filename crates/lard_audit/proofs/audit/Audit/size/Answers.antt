-- The size of a file is that of its target.
use Rattle.std.proofs.Common.{ℕ, List, sym, ap, ◌∙◌}
use Rattle.lard_lab.specs.Targets.{target_at}
use Rattle.lard_audit.proofs.Auditing.{size-of-none, size-of-some}
use Rattle.lard_audit.proofs.audit.Audit.size.Goals as goal

pub returns-in-Some : goal.returns-in-Some
returns-in-Some c =
    size-of-some c.args.self.now.targets c.args.path.now c.in-Some.target (ap (λ (p : List ℕ). target_at c.args.self.now.targets p) (sym c.as_slice.ensures) ∙ sym c.get.ensures ∙ c.in-Some.is)

pub returns-in-None : goal.returns-in-None
returns-in-None c =
    size-of-none c.args.self.now.targets c.args.path.now (ap (λ (p : List ℕ). target_at c.args.self.now.targets p) (sym c.as_slice.ensures) ∙ sym c.get.ensures ∙ c.in-None.is)
