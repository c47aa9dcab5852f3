-- What every place that could serve a connection knows of what was served on it, between any two steps.
use Rattle.std.specs.Prelude.{◌≡◌, ◌⊎◌, ℕ, ◌-◌, ◌≤◌, Bool, true, false, List, Option, Some, None, Ok}
use Rattle.lard_law_view.specs.Prelude.{BackConn, BackRow, Body, Conn, ControlBlock, Front, FrontConn, FrontRow, IsControlBlock, Letter, Message, Node, Part, Place, Tale, decoded_message, may_freeze, tale_at}
use Rattle.lard_law_connections.specs.Places.{HasEnded, IsDecided}
use Rattle.lard_handoff_back.specs.declared.row.BackConn.TheVariants as back
use Rattle.lard_handoff_front.specs.declared.row.FrontConn.TheVariants as stage
use Rattle.lard_history.proofs.Each.{Each}
use Rattle.lard_message.specs.declared.message.Body.TheVariants as body

-- the bytes of the responses that were queued on a connection, and whether the stream limit reset it
pub record Served : Type 0 where
  pub bytes : ℕ
  pub was_reset : Bool

abbrev pub served_by_tale : Tale → Served
served_by_tale t = record { bytes = t.served_bytes; was_reset = t.was_reset }

-- All responses had so many bytes, within the limit, and none was too many.
pub record IsWithinStream (stream : ℕ) (w : Served) (total : ℕ) : Type 0 where
  pub bytes : w.bytes ≡ total
  pub within : total ≤ stream
  pub not_reset : w.was_reset ≡ false

-- ---- places

-- the front end's endpoint
pub record EndpointCounts (stream : ℕ) (w : Served) (b : ControlBlock) : Type 0 where
  pub sound : IsControlBlock b
  pub counts : IsWithinStream stream w b.send.total

-- one that waits may move
abbrev pub FrontStageCounts : ℕ → Served → FrontConn → Type 0
FrontStageCounts stream w (stage.Held b) = EndpointCounts stream w b
FrontStageCounts stream w (stage.Waiting b) = EndpointCounts stream w b × (may_freeze b ≡ true)
FrontStageCounts stream w _ = Unit {0}

-- before the front end knows a connection, nothing was served on it
abbrev pub FrontCounts : ℕ → Served → Option FrontRow → Type 0
FrontCounts stream w None = IsWithinStream stream w 0
FrontCounts stream w (Some row) = FrontStageCounts stream w row.stage

abbrev pub BackStageCounts : ℕ → Served → BackConn → Type 0
BackStageCounts stream w (back.Here b) = IsWithinStream stream w b.send.total
BackStageCounts stream w _ = Unit {0}

abbrev pub BackCounts : ℕ → Served → Option BackRow → Type 0
BackCounts stream w None = Unit {0}
BackCounts stream w (Some row) = BackStageCounts stream w row.stage

-- ---- packets

-- an Offer to node n that this has not decided, while the front end is not past it: what goes on from it begins with all that was served
abbrev pub BodyCounts : ℕ → Served → Part → ℕ → ℕ → Body → Type 0
BodyCounts stream w p n e (body.Offer parts) = IsDecided e (p.nodes n).row ⊎ HasEnded e p.front.row ⊎ IsWithinStream stream w (parts.una - 1)
BodyCounts stream w p n e _ = Unit {0}

abbrev pub LetterCountsOn : ℕ → Served → Part → Place → Place → List ℕ → Type 0
LetterCountsOn stream w p Front (Node n) bytes = (m : Message) → decoded_message bytes ≡ Ok m → BodyCounts stream w p n m.epoch.0 m.body
LetterCountsOn stream w p _ _ bytes = Unit {0}

abbrev pub LetterCounts : ℕ → Served → Part → Letter → Type 0
LetterCounts stream w p l = LetterCountsOn stream w p l.from l.to l.bytes

-- ---- one connection

-- Whatever has an endpoint of it, or its Offer, counts what was served on it.
pub record CountsWhatWasServed (stream : ℕ) (x : Conn) : Type 0 where
  pub front : FrontCounts stream (served_by_tale (tale_at x)) x.part.front.row
  pub nodes : (n : ℕ) → BackCounts stream (served_by_tale (tale_at x)) (x.part.nodes n).row
  pub letters : Each (LetterCounts stream (served_by_tale (tale_at x)) x.part) x.letters
