use Rattle.std.proofs.Common.{ℕ, List, ◌+◌, take, Some, sym, ap, ◌∙◌}
use Rattle.lard_schedule.specs.Words.{word_then, words_of}
use Rattle.lard_schedule.proofs.Cuts.{words_at, words_alone, slice_rest}
use Rattle.lard_schedule.proofs.words.next.Goals as goal

pub returns-in-Some : goal.returns-in-Some
returns-in-Some c =
    let text : List ℕ = c.in_ok-rest.rest.now in
    rw c.in_ok-rest.was (ap word_then (words_at text c.in-Some.at (sym c.in-Some.ensures))
    ∙ ap (λ rest. Some (take c.in-Some.at text, words_of rest)) (sym (slice_rest text (c.in-Some.at + 1))))

pub returns-in-None : goal.returns-in-None
returns-in-None c = rw c.in_ok-rest.was (ap word_then (words_alone c.in_ok-rest.rest.now (sym c.in-None.ensures)))
