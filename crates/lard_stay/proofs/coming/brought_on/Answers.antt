-- The entry at the place comes on, if there is one.
use Rattle.std.proofs.Common.{ap, arith, ◌∙◌, set}
use Rattle.lard_rules.specs.declared.stay.Entry.{Entry}
use Rattle.lard_stay.specs.Work.{progress_by}
use Rattle.lard_stay.proofs.Arrived.{come-past, come-set}
use Rattle.lard_stay.proofs.coming.brought_on.Goals as goal

pub returns-then-at-len : goal.returns-then-at-len
returns-then-at-len c =
    let f = progress_by c.args.coming in
    let es = c.args.entries.items in
    let e = c.index_mut-entry.ensures.value in
    ap (λ p. set es c.args.at (record { verdict = c.index_mut-entry.result.now.verdict; progress = p })) c.progress_by-entry.ensures
    ∙ ap (λ (x : Entry). set es c.args.at (record x { progress = f x.progress })) e
    ∙ come-set f es c.args.at c.index_mut-entry.result.now (omega arith)

pub returns-else-at-len : goal.returns-else-at-len
returns-else-at-len c = come-past (progress_by c.args.coming) c.args.entries.items c.args.at (omega arith)
