-- When a connection is quiet, and when it is complete, in words of the journal.
use Rattle.std.specs.Prelude.{◌≡◌, ℕ, Bool, true, false, ◌||◌, List, length, nat_eq}
use Rattle.std.specs.List.{fold}
use Rattle.lard_answers.specs.Answers.{FilesAt, answer_bytes, answers, closes_any, verdicts}
use Rattle.lard_base.specs.declared.place.Place.{Place}
use Rattle.lard_base.specs.declared.place.TimerKind.{TimerKind}
use Rattle.lard_history.specs.Journal.{accepted, event_shuts, is_running, served, wrote}
use Rattle.lard_journal.specs.declared.rec.Rec.{Rec}
use Rattle.lard_journal.specs.declared.rec.Rec.TheVariants as rec

-- ---- quiet connections

-- Connection c is quiet: none of its timers runs anywhere, so all that was sent on it is acknowledged.
abbrev pub IsQuiet : List Rec → ℕ → Type 0
IsQuiet J c = (p : Place) (kind : TimerKind) → is_running J p c kind ≡ false

-- ---- what became of a client

abbrev pub aborted_step : ℕ → Bool → Rec → Bool
aborted_step c was (rec.Aborted d) = was || nat_eq d c
aborted_step c was _ = was

-- client c reset its connection
abbrev pub has_aborted : List Rec → ℕ → Bool
has_aborted J c = fold (aborted_step c) false J

abbrev pub shut_step : ℕ → Bool → Rec → Bool
shut_step c was (rec.Event i e) = was || event_shuts c e
shut_step c was (rec.Inner e) = was || event_shuts c e
shut_step c was _ = was

-- the schedule closed the side of client c
abbrev pub was_shut : List Rec → ℕ → Bool
was_shut J c = fold (shut_step c) false J

abbrev pub ended_step : ℕ → Bool → Rec → Bool
ended_step c was (rec.Eof d) = was || nat_eq d c
ended_step c was _ = was

-- client c took the end of its stream
abbrev pub has_ended : List Rec → ℕ → Bool
has_ended J c = fold (ended_step c) false J

-- ---- the law

-- Client c was served and accepted all responses to what it wrote, and took the end of its stream where the last of them closes, or
-- where the schedule closed its own side.
pub record IsComplete (files : FilesAt) (J : List Rec) (c : ℕ) : Type 0 where
  pub responses : served J c ≡ length (answers files (wrote J c))
  pub all : accepted J c ≡ answer_bytes files (wrote J c)
  pub ends : closes_any (verdicts (wrote J c)) ≡ true → has_ended J c ≡ true
  pub shut : was_shut J c ≡ true → has_ended J c ≡ true
