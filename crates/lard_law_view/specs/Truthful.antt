-- What holds of a connection that the schedule did not touch, between any two steps, as far as bytes go.
use Rattle.std.specs.Prelude.{◌≡◌, ℕ, Bool, false, List, ◌++◌}
use Rattle.lard_answers.specs.Answers.{FilesAt, IsPrefix, answer_bytes}
use Rattle.lard_history.specs.Journal.{Tale, accepted, is_touched, tale, wrote}
use Rattle.lard_history.specs.Laws.{MayServe, MayTell}
use Rattle.lard_journal.specs.declared.rec.Rec.{Rec}
use Rattle.lard_journal.specs.declared.rec.Rec.TheVariants as rec
use Rattle.lard_request.specs.declared.verdict.Verdict.{Verdict}
use Rattle.lard_law_view.specs.Truth.{Stream}

-- What one connection is about: the client's stream, the cluster's, and the verdicts that were answered.
pub record Talk : Type 0 where
  pub w : Stream
  pub out : Stream
  pub vs : List Verdict
  pub was_reset : Bool

-- ---- its records

-- What a client accepts goes on as the answers to what it wrote do, as long as the schedule did not touch it.
abbrev pub MayAccept : FilesAt → List Rec → Rec → Type 0
MayAccept files past (rec.Accepted c bytes) = is_touched past c ≡ false → IsPrefix (accepted past c ++ bytes) (answer_bytes files (wrote past c))
MayAccept files past _ = Unit {0}

-- A record of connection c is true where this is told of c: it may stand in each journal that tells this.
abbrev pub IsTrueAfter : FilesAt → ℕ → Tale → Rec → Type 0
IsTrueAfter files c t r = (J : List Rec) → tale J c ≡ t → MayTell files J r × MayServe files J r × MayAccept files J r
