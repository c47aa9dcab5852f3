-- A look-up among the entries is one among the pairs, each of which may be kept.
use Rattle.std.proofs.Common.{◌∙◌, ap, sym, subst, Some, All}
use Rattle.lard_files.specs.Files.{IsFile, file_at}
use Rattle.lard_files.proofs.Entries.{lookup-shown}
use Rattle.lard_files.proofs.Lookups.{file-kept}
use Rattle.lard_files.proofs.files.Files.share.Goals as goal

pub returns-clause-file : goal.returns-clause-file
returns-clause-file c = ap Some c.in_ok-share.ensures ∙ c.in-Some.ensures.value ∙ lookup-shown c.self.inside.files.entries c.args.path.now ∙ ap (λ m. file_at m c.args.path.now) c.self.view_is

pub returns-clause-short : goal.returns-clause-short
returns-clause-short c = (file-kept c.args.self.now c.args.path.now c.in_ok-share.field-0 (subst (All IsFile) c.self.view_is c.self.invariant.2) (sym (returns-clause-file c))).1

pub returns-in_default-clause-file : goal.returns-in_default-clause-file
returns-in_default-clause-file c = c.in_default.ensures.value ∙ lookup-shown c.self.inside.files.entries c.args.path.now ∙ ap (λ m. file_at m c.args.path.now) c.self.view_is
