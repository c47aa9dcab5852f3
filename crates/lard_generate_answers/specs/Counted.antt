-- All that the clients of a schedule are answered: how many responses there are to what they write, and how many bytes these have.
use Rattle.std.specs.Prelude.{◌≡◌, ℕ, zero, suc, ◌+◌, nat_eq, if◌then◌else◌, List, [], ◌∷◌, ◌++◌, length}
use Rattle.lard_law_view.specs.Prelude.{Event, FilesAt, Rec, answer_bytes, answers, request}
use Rattle.lard_base.specs.declared.event.Event.TheVariants as event
use Rattle.lard_summary.specs.Counts.{accepted_bytes, requests_answered}

-- f 1 + f 2 + .. + f n
abbrev pub sum_to : (ℕ → ℕ) → ℕ → ℕ
sum_to f zero = 0
sum_to f (suc n) = sum_to f n + f (n + 1)

-- what client c writes by these events, one after another
abbrev pub writes : ℕ → List Event → List ℕ
writes c [] = []
writes c (event.Get d path ∷ es) = (if nat_eq d c then request path else []) ++ writes c es
writes c (event.Write d bytes ∷ es) = (if nat_eq d c then bytes else []) ++ writes c es
writes c (_ ∷ es) = writes c es

-- how many responses there are to what clients 1 to n write by these events
abbrev pub answer_count : FilesAt → List Event → ℕ → ℕ
answer_count files es n = sum_to (λ c. length (answers files (writes c es))) n

-- how many bytes they have
abbrev pub answer_size : FilesAt → List Event → ℕ → ℕ
answer_size files es n = sum_to (λ c. length (answer_bytes files (writes c es))) n

-- The requests that are counted of a journal are all responses to what clients 1 to n write by these events, and the bytes that are counted
-- are theirs.
pub record CountsAllAnswers (files : FilesAt) (es : List Event) (n : ℕ) (J : List Rec) : Type 0 where
  pub requests_are : requests_answered J ≡ answer_count files es n
  pub accepted_are : accepted_bytes J ≡ answer_size files es n
