-- The look-up, the count and the sum of the entries are those of the pairs.
use Rattle.std.proofs.Common.{◌∙◌, sym, ap, is_some, length}
use Rattle.lard_files.specs.Files.{first_fault, file_at, files_total}
use Rattle.lard_files.proofs.Entries.{lookup-shown, length-shown}
use Rattle.lard_files.proofs.files.Files.check.Goals as goal

pub returns : goal.returns
returns c =
    let there = c.contains_key.ensures ∙ ap is_some (lookup-shown c.self.inside.files.entries c.args.path.now ∙ ap (λ m. file_at m c.args.path.now) c.self.view_is) in
    let count = c.len.ensures.len ∙ sym (length-shown c.self.inside.files.entries) ∙ ap length c.self.view_is in
    let sum = c.self.invariant.0 ∙ ap files_total c.self.view_is in
    c.first_fault.ensures
    ∙ ap (λ b. first_fault b c.len.result c.self.inside.bytes c.args.len) there
    ∙ ap (λ n. first_fault (is_some (file_at c.args.self.now c.args.path.now)) n c.self.inside.bytes c.args.len) count
    ∙ ap (λ n. first_fault (is_some (file_at c.args.self.now c.args.path.now)) (length c.args.self.now) n c.args.len) sum
