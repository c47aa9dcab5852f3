-- What each record of a journal of the cluster may say where it stands, as far as bytes go.
use Rattle.std.specs.Prelude.{◌≡◌, ℕ, ◌+◌, false, List, [], length, Option, Some, None}
use Rattle.std.specs.Option.{option_map}
use Rattle.lard_law_view.specs.Prelude.{EachMay, FilesAt, MayAccept, MayTell, Rec, Tale, Verdict, Via, answer_code, good_path, is_touched, next_answer, next_verdict, owner, served, served_bytes, tale}
use Rattle.lard_base.specs.declared.place.Via.TheVariants.{Own}
use Rattle.lard_journal.specs.declared.rec.Rec.TheVariants as rec

-- ---- the law of service

-- How the content of an answer came: it is the place's own exactly where the request is not for a file.
abbrev pub IsWay : FilesAt → Verdict → Via → Type 0
IsWay files v via = (via ≡ Own → good_path files v ≡ None) × (good_path files v ≡ None → via ≡ Own)

-- so it is of the answer to a request that is there
abbrev pub ComesBy : FilesAt → Option Verdict → Via → Type 0
ComesBy files None via = ⊥
ComesBy files (Some v) via = IsWay files v via

-- A response answers the client's next request: it has the number of that, and the code and the length of the answer to it, whose
-- content came as it may.
abbrev pub AnswersNext : FilesAt → List Rec → ℕ → ℕ → ℕ → ℕ → Via → Type 0
AnswersNext files past c r code size via =
    (r ≡ served past c + 1) × (option_map (answer_code files) (next_verdict past c) ≡ Some code) × (option_map length (next_answer files past c) ≡ Some size) × ComesBy files (next_verdict past c) via

-- A reset stands where the next response would be, which is there, and counts the bytes of that with those of all before it.
abbrev pub ResetsNext : FilesAt → List Rec → ℕ → ℕ → Type 0
ResetsNext files past c total = option_map (λ bytes. served_bytes past c + length bytes) (next_answer files past c) ≡ Some total

-- Both are of the place that owns the connection. So it is of each client whose connection the schedule did not touch.
abbrev pub MayServeOwned : FilesAt → List Rec → Rec → Type 0
MayServeOwned files past (rec.Served place c r code size via) = is_touched past c ≡ false → (owner past c ≡ Some place) × AnswersNext files past c r code size via
MayServeOwned files past (rec.Reset place c total) = is_touched past c ≡ false → (owner past c ≡ Some place) × ResetsNext files past c total
MayServeOwned files past _ = Unit {0}

abbrev pub ServesTheAnswers : FilesAt → List Rec → Type 0
ServesTheAnswers files J = EachMay (MayServeOwned files) [] J

-- ---- all of them

-- A record of connection c is true where this is told of c: it may stand in each journal that tells this.
abbrev pub IsOwnedTrueAfter : FilesAt → ℕ → Tale → Rec → Type 0
IsOwnedTrueAfter files c t r = (J : List Rec) → tale J c ≡ t → MayTell files J r × MayServeOwned files J r × MayAccept files J r
