-- A file that passed the check is found, and every other path has what it had.
use Rattle.std.proofs.Common.{◌∙◌, sym, ap, length}
use Rattle.lard_files.specs.Files.{file_at}
use Rattle.lard_files.proofs.Entries.{IsAllowed, allowed}
use Rattle.lard_files.proofs.Lookups.{finds_added, others_stay}
use Rattle.lard_files.proofs.files.Files.add.Goals as goal

pub returns-in-Ok-clause-found : goal.returns-in-Ok-clause-found
returns-in-Ok-clause-found c =
    let ok : IsAllowed c.args.self.now c.args.path.now (length c.args.bytes.now) =
    allowed c.args.self.now c.args.path.now (length c.args.bytes.now) (sym c.check.ensures ∙ c.in_ok-check.was) in
    ap (λ m. file_at m c.args.path.now) c.in-Ok.ensures.ok ∙ finds_added c.args.self.now c.args.path.now c.args.bytes.now ok.absent

pub returns-in-Ok-clause-others : goal.returns-in-Ok-clause-others
returns-in-Ok-clause-others c = λ other n. ap (λ m. file_at m other) c.in-Ok.ensures.ok ∙ others_stay c.args.self.now c.args.path.now c.args.bytes.now other n
