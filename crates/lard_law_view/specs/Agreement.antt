-- What holds of one connection between any two steps: what its client and the front end keep, what the journal says of
-- it, and what every segment that was ever sent says, agree.
use Rattle.std.specs.Prelude.{◌≡◌, ◌≢◌, ℕ, ◌+◌, ◌-◌, ◌^◌, ◌<◌, ◌≤◌, Bool, true, false, List, [], ◌∷◌, ◌++◌, map, length, take, Some}
use Rattle.std.specs.List.{concat}
use Rattle.lard_answers.specs.Answers.{FilesAt, IsPrefix, answer, closes_any, verdicts, verdicts_on}
use Rattle.lard_base.specs.declared.limits.TheConstants.{MAX_STREAM_BYTES}
use Rattle.lard_base.specs.declared.place.Place.{Place}
use Rattle.lard_base.specs.declared.place.Place.TheVariants as place
use Rattle.lard_base.specs.declared.place.Reason.TheVariants as reason
use Rattle.lard_block.specs.Blocks.{blocks}
use Rattle.lard_client.specs.Control.{ClientBlock, IsClientBlock}
use Rattle.lard_endpoint.specs.Control.{ControlBlock, IsControlBlock}
use Rattle.lard_endpoint.specs.declared.control.moving.Final.{Final}
use Rattle.lard_endpoint.specs.Moving.{is_closed, final_of}
use Rattle.lard_history.specs.Journal.{Tale}
use Rattle.lard_rules.specs.declared.places.Ending.{Ending}
use Rattle.lard_rules.specs.declared.places.Ending.TheVariants as ending
use Rattle.lard_rules.specs.declared.places.Station.{Station}
use Rattle.lard_law_view.specs.Seat.{Seat, Nowhere, AtFront, Away, Over}
use Rattle.lard_request.specs.declared.verdict.Verdict.{Verdict}
use Rattle.lard_segment.specs.declared.segment.Dir.TheVariants.{ToClient, ToCluster}
use Rattle.lard_segment.specs.Segment.{Said, IsSendable, spelled}
use Rattle.lard_seq.specs.Seq.{seq_add}
use Rattle.lard_law_view.specs.Truth.{Stream, IsTrueOf, stream_of, Speaks, Hears, Accepts}

-- ---- segments

-- A client's segment is true of its stream w.
pub record IsWord (w : Stream) (s : Said) : Type 0 where
  pub sendable : IsSendable s
  pub true_of : IsTrueOf w s

-- A segment of the cluster is true of its stream out. It acknowledges no more than the client's SYN, bytes and FIN, and
-- resets after a reset of the stream limit alone.
pub record IsReply (w out : Stream) (was_reset : Bool) (s : Said) : Type 0 where
  pub sendable : IsSendable s
  pub true_of : IsTrueOf out s
  pub acks : s.flags.rst ≡ false → (n : ℕ) × (s.ack ≡ seq_add w.first n) × (n ≤ 2 + length w.bytes)
  pub resets : s.flags.rst ≡ true → was_reset ≡ true

-- what goes out from a client, and from the front end, each with its goal
abbrev pub AreClientWords : ℕ → Stream → List (Place × List ℕ) → Type 0
AreClientWords c w [] = Unit {0}
AreClientWords c w (p ∷ ps) = (p.0 ≡ place.Front) × ((s : Said) × (p.1 ≡ spelled c ToCluster s) × IsWord w s) × AreClientWords c w ps

abbrev pub AreReplies : ℕ → Stream → Stream → Bool → List (Place × List ℕ) → Type 0
AreReplies c w out was_reset [] = Unit {0}
AreReplies c w out was_reset (p ∷ ps) = (p.0 ≡ place.Client c) × ((s : Said) × (p.1 ≡ spelled c ToClient s) × IsReply w out was_reset s) × AreReplies c w out was_reset ps

-- ---- reading

-- The verdicts vs are on what an endpoint has read of a client's bytes. While none of them closes, what was read is cut
-- into their pieces, whatever follows; behind one that closes nothing more is read.
pub record HasRead (w : Stream) (b : ControlBlock) (vs : List Verdict) : Type 0 where
  pub cut : b.recv.discarding ≡ false → (z : List ℕ)
      → verdicts_on (blocks (take (b.recv.got - length b.recv.unread) w.bytes ++ z)) ≡ vs ++ verdicts_on (blocks z)
  pub goes_on : b.recv.discarding ≡ false → closes_any vs ≡ false
  pub stops : b.recv.discarding ≡ true → (b.send.finished ≡ true) × (closes_any vs ≡ true)

-- No request is left unread, unless what comes is discarded. Behind the client's FIN the cluster's follows, and where
-- nothing is discarded only there.
pub record HasStopped (b : ControlBlock) : Type 0 where
  pub none : b.recv.discarding ≡ false → blocks b.recv.unread ≡ []
  pub finishes : b.recv.discarding ≡ false → b.recv.fin ≡ true → b.send.finished ≡ true
  pub only_then : b.recv.discarding ≡ false → b.send.finished ≡ true → b.recv.fin ≡ true

-- ---- the front end

-- It holds the endpoint, which its peer did not reset, which answered these verdicts, and has read all that there was.
pub record HoldsIt (w out : Stream) (vs : List Verdict) (b : ControlBlock) (count : ℕ) : Type 0 where
  pub counted : count ≡ length vs
  pub not_reset : b.reset ≡ false
  pub sound : IsControlBlock b
  pub speaks : Speaks b.send out.bytes
  pub out_is : out ≡ stream_of b.send out.bytes
  pub hears : Hears w b.recv
  pub has_read : HasRead w b vs
  pub stopped : HasStopped b

-- It ended as this endpoint, which had read all that there was. Both sides had closed, or the client reset it then.
pub record EndedAs (w out : Stream) (vs : List Verdict) (last : Final) : Type 0 where
  pub block : ControlBlock
  pub count : ℕ
  pub held : HoldsIt w out vs block count
  pub both : last.reason ≡ reason.Closed → is_closed block ≡ true
  pub is : last ≡ final_of block last.reason

-- It ended: the last numbers, a reset where that was for the stream limit, and else as what it ended.
pub record EndedIt (w out : Stream) (vs : List Verdict) (was_reset : Bool) (last : Final) : Type 0 where
  pub snd_fits : last.snd.0 < 2 ^ 32
  pub acks : (n : ℕ) × (last.rcv.0 ≡ seq_add w.first n) × (n ≤ 2 + length w.bytes)
  pub limit : last.reason ≡ reason.Limit → was_reset ≡ true
  pub ended : last.reason ≢ reason.Limit → EndedAs w out vs last

-- Of a connection at the end of a turn of the place that held it.
abbrev pub EndAgrees : Stream → Stream → List Verdict → Bool → Ending → Type 0
EndAgrees w out vs was_reset (ending.Here b count) = HoldsIt w out vs b count
EndAgrees w out vs was_reset (ending.Over last) = EndedIt w out vs was_reset last

abbrev pub FrontAgrees : Stream → Stream → List Verdict → Bool → Seat → Type 0
FrontAgrees w out vs was_reset Nowhere = (vs ≡ []) × (out.ended ≡ false)
FrontAgrees w out vs was_reset (AtFront b count) = EndAgrees w out vs was_reset (ending.Here b count)
FrontAgrees w out vs was_reset Away = ⊥
FrontAgrees w out vs was_reset (Over last) = EndAgrees w out vs was_reset (ending.Over last)

-- What was said to the client are the answers to these verdicts, which are the first on what the client wrote, however
-- that goes on.
pub record SaysAnswers (files : FilesAt) (w out : Stream) (vs : List Verdict) : Type 0 where
  pub spoken : out.bytes ≡ concat (map (answer files) vs)
  pub fronts : (z : List ℕ) → IsPrefix vs (verdicts (w.bytes ++ z))
  pub number : out.first < 2 ^ 32
  pub most : length out.bytes ≤ MAX_STREAM_BYTES

-- ---- the client

-- It writes the stream w, and accepts the first bytes of out.
pub record ClientAgrees (c : ℕ) (w out : Stream) (x : ClientBlock) : Type 0 where
  pub numbered : x.c ≡ c
  pub sound : IsClientBlock x
  pub wide : x.wnd < 2 ^ 16
  pub speaks : Speaks x.send w.bytes
  pub w_is : w ≡ stream_of x.send w.bytes
  pub accepts : Accepts out x

-- ---- the journal

-- It says what was written, accepted and answered.
pub record TaleAgrees (w out : Stream) (vs : List Verdict) (x : ClientBlock) (t : Tale) : Type 0 where
  pub numbers : t.numbers ≡ Some (record { isn = w.first; iss = out.first })
  pub wrote : t.wrote ≡ w.bytes
  pub accepted : t.accepted ≡ take x.accepted out.bytes
  pub served : t.served ≡ length vs
  pub served_bytes : t.served_bytes ≡ length out.bytes
  pub fin : t.fin_sent ≡ true → out.ended ≡ true

-- ---- all of one connection
pub record Agrees (files : FilesAt) (c : ℕ) (w out : Stream) (vs : List Verdict) (x : Station) (f : Seat) (t : Tale) : Type 0 where
  pub begins : out.first ≡ x.iss
  pub says : SaysAnswers files w out vs
  pub client : ClientAgrees c w out x.client
  pub front : FrontAgrees w out vs t.was_reset f
  pub tale : TaleAgrees w out vs x.client t
