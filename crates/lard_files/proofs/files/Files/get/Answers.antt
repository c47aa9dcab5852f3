-- A look-up among the entries is one among the pairs, each of which may be kept.
use Rattle.std.proofs.Common.{◌∙◌, ap, sym, subst, Some, All}
use Rattle.lard_files.specs.Files.{IsFile, file_at}
use Rattle.lard_files.proofs.Entries.{lookup-shown}
use Rattle.lard_files.proofs.Lookups.{file-kept}
use Rattle.lard_files.proofs.files.Files.get.Goals as goal

pub returns-in-Some-clause-file : goal.returns-in-Some-clause-file
returns-in-Some-clause-file c = ap Some c.as_slice.ensures ∙ c.in-Some.ensures.value ∙ lookup-shown c.self.inside.files.entries c.args.path.now ∙ ap (λ m. file_at m c.args.path.now) c.self.view_is

pub returns-in-Some-clause-short : goal.returns-in-Some-clause-short
returns-in-Some-clause-short c = (file-kept c.args.self.now c.args.path.now c.as_slice.result.now (subst (All IsFile) c.self.view_is c.self.invariant.2) (sym (returns-in-Some-clause-file c))).1

pub returns-in-Some-clause-path : goal.returns-in-Some-clause-path
returns-in-Some-clause-path c = (file-kept c.args.self.now c.args.path.now c.as_slice.result.now (subst (All IsFile) c.self.view_is c.self.invariant.2) (sym (returns-in-Some-clause-file c))).0

pub returns-in-None-clause-file : goal.returns-in-None-clause-file
returns-in-None-clause-file c = c.in-None.ensures.value ∙ lookup-shown c.self.inside.files.entries c.args.path.now ∙ ap (λ m. file_at m c.args.path.now) c.self.view_is
