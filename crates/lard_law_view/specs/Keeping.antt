-- What a turn of a place keeps of the agreement of its connection.
use Rattle.std.specs.Prelude.{◌≡◌, ℕ, ◌+◌, ◌≤◌, Bool, true, false, List, [], ◌∷◌, ◌++◌, length, take}
use Rattle.lard_base.specs.declared.limits.TheConstants.{MAX_STREAM_BYTES}
use Rattle.lard_client.specs.Control.{ClientBlock}
use Rattle.lard_history.specs.Journal.{Tale}
use Rattle.lard_journal.specs.declared.rec.Rec.{Rec}
use Rattle.lard_journal.specs.declared.rec.Rec.TheVariants as rec
use Rattle.lard_rules.specs.declared.places.Turn.{Turn}
use Rattle.lard_request.specs.declared.verdict.Verdict.{Verdict}
use Rattle.lard_law_view.specs.Truth.{Stream, GoesOn}
use Rattle.lard_law_view.specs.Agreement.{AreClientWords, ClientAgrees}

-- ---- the front end's turn

-- the record resets its connection at the stream limit
abbrev pub is_reset_record : Rec → Bool
is_reset_record (rec.Reset place c total) = true
is_reset_record _ = false

-- how many responses these records queue
abbrev pub served_in : List Rec → ℕ
served_in [] = 0
served_in (rec.Served place c r code size via ∷ rs) = 1 + served_in rs
served_in (_ ∷ rs) = served_in rs

-- and how many bytes these have
abbrev pub bytes_served_in : List Rec → ℕ
bytes_served_in [] = 0
bytes_served_in (rec.Served place c r code size via ∷ rs) = size + bytes_served_in rs
bytes_served_in (_ ∷ rs) = bytes_served_in rs

-- So much is told of a connection: its client wrote w, and was answered vs by the bytes `said`.
pub record TellsOf (w said : List ℕ) (vs : List Verdict) (t : Tale) : Type 0 where
  pub wrote : t.wrote ≡ w
  pub served : t.served ≡ length vs
  pub served_bytes : t.served_bytes ≡ length said

-- ---- a client's turn

abbrev pub written_in : List Rec → List ℕ
written_in [] = []
written_in (rec.Wrote c bytes ∷ rs) = bytes ++ written_in rs
written_in (_ ∷ rs) = written_in rs

abbrev pub accepted_in : List Rec → List ℕ
accepted_in [] = []
accepted_in (rec.Accepted c bytes ∷ rs) = bytes ++ accepted_in rs
accepted_in (_ ∷ rs) = accepted_in rs

abbrev pub is_client_note : ℕ → Rec → Type 0
is_client_note c (rec.Wrote d bytes) = d ≡ c
is_client_note c (rec.Accepted d bytes) = d ≡ c
is_client_note c (rec.Eof d) = d ≡ c
is_client_note c (rec.Aborted d) = d ≡ c
is_client_note c _ = ⊥

abbrev pub AreClientNotes : ℕ → List Rec → Type 0
AreClientNotes c [] = Unit {0}
AreClientNotes c (r ∷ rs) = is_client_note c r × AreClientNotes c rs

-- Between a client before and after a turn: its stream goes on by what it noted as written, what it noted as accepted
-- are the next bytes of the cluster's stream, and all that was sent is true.
pub record ClientTurned (c : ℕ) (w out : Stream) (x : ClientBlock) (given : ClientBlock × Turn) : Type 0 where
  pub w_after : Stream
  pub longer : GoesOn w w_after
  pub wrote : w_after.bytes ≡ w.bytes ++ written_in given.1.notes
  pub agrees : ClientAgrees c w_after out given.0
  pub notes : AreClientNotes c given.1.notes
  pub accepted : take given.0.accepted out.bytes ≡ take x.accepted out.bytes ++ accepted_in given.1.notes
  pub sent : AreClientWords c w_after given.1.segments

abbrev pub ClientKeeps : (ClientBlock → ClientBlock × Turn) → Type 0
ClientKeeps rule = (c : ℕ) (w out : Stream) (x : ClientBlock) → length out.bytes ≤ MAX_STREAM_BYTES → ClientAgrees c w out x → ClientTurned c w out x (rule x)

-- the stream of a client that wrote nothing yet
abbrev pub unwritten : ℕ → Stream
unwritten isn = record { first = isn; bytes = []; ended = false }

-- A client that opened: it wrote and accepted nothing, whatever it is to be sent, and its SYN is true.
pub record ClientOpened (c : ℕ) (w out : Stream) (given : ClientBlock × Turn) : Type 0 where
  pub agrees : ClientAgrees c w out given.0
  pub accepted : given.0.accepted ≡ 0
  pub notes : given.1.notes ≡ []
  pub sent : AreClientWords c w given.1.segments
