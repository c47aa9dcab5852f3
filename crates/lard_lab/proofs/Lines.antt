-- The line of a request is its front and its outcome.
use Rattle.std.proofs.Common.{◌≡◌, ℕ, Bool, List, ◌++◌, Some, codes, decimal, sym}
use Rattle.std.proofs.lemmas.List.{append_assoc}
use Rattle.lard_lab.specs.Text.{line_front, outcome_word, request_line}

pub line_ended : (number : ℕ) (path : List ℕ) (n : ℕ) (hit : Bool) → line_front number path n ++ outcome_word hit ≡ request_line number path (Some (n, hit))
unfolding line_front request_line
line_ended number path n hit = append_assoc (decimal number ++ codes " " ++ path) (codes " n" ++ decimal n) (outcome_word hit)
