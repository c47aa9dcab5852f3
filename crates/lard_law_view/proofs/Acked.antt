-- What the two ends of a connection and their packets acknowledge: never more than was taken.
use Rattle.std.proofs.Common.{◌≡◌, ◌⊎◌, ◌≤◌, ◌<◌, ◌+◌, ◌^◌, ℕ, Bool, true, false, List, [], ◌∷◌, length, Ok}
use Rattle.std.specs.Prelude.{if◌then◌else◌}
use Rattle.lard_law_view.specs.Prelude.{AtFront, Away, ClientAgrees, ClientBlock, Ending, IsSendable, IsTrueOf, Nowhere, Over, Place, Rec, Received, Said, Seat, Stream, ToClient, ToCluster, Turn, client_aborts, client_gets, client_holds, client_opens, client_shuts, client_takes, client_timer, client_writes, is_client_open, is_established, one_if, seq_add, seq_offset, spelled, written_len}
use Rattle.lard_base.specs.declared.place.Place.TheVariants as place
use Rattle.lard_base.specs.declared.place.Reason.TheVariants as reason
use Rattle.lard_client.specs.declared.phase.Phase.TheVariants.{Aborted, Reset}
use Rattle.lard_journal.specs.declared.rec.Rec.TheVariants as rec
use Rattle.lard_rules.specs.declared.places.Ending.TheVariants as ending

-- ---- how much was taken

-- how many of the cluster's symbols a client took: its SYN, bytes and FIN; none before the client is established
abbrev pub taken_by : ClientBlock → ℕ
taken_by x = if is_established x then 1 + x.accepted + one_if x.eof else 0

-- how many of the client's symbols a receiving half took
abbrev pub heard_by : Received → ℕ
heard_by r = 1 + r.got + one_if r.fin

-- and how many the cluster did, by the client's first number, where a turn left the connection
abbrev pub heard_at : ℕ → Ending → ℕ
heard_at isn (ending.Here b count) = heard_by b.recv
heard_at isn (ending.Over last) = seq_offset last.rcv.0 isn

-- and how many the front end did
abbrev pub heard_of : ℕ → Seat → ℕ
heard_of isn Nowhere = 0
heard_of isn (AtFront b count) = heard_at isn (ending.Here b count)
heard_of isn Away = 0
heard_of isn (Over last) = heard_at isn (ending.Over last)

-- ---- segments

-- a number acknowledges at most n symbols, from a first number on
abbrev pub Acks : ℕ → ℕ → ℕ → Type 0
Acks first n number = (a : ℕ) × (number ≡ seq_add first a) × (a ≤ n)

-- a client's segment acknowledges what the client took, and resets only where the client aborted
pub record WordMay (iss taken : ℕ) (aborted : Bool) (s : Said) : Type 0 where
  pub acks : s.flags.ack ≡ true → Acks iss taken s.ack
  pub resets : s.flags.rst ≡ true → aborted ≡ true

-- a segment of the cluster acknowledges what the front end took
abbrev pub ReplyMay : ℕ → ℕ → Said → Type 0
ReplyMay isn heard s = s.flags.ack ≡ true → Acks isn heard s.ack

-- all that goes out in a turn
abbrev pub WordsMay : ℕ → ℕ → ℕ → Bool → List (Place × List ℕ) → Type 0
WordsMay c iss taken aborted [] = Unit {0}
WordsMay c iss taken aborted (p ∷ ps) = ((s : Said) × (p.1 ≡ spelled c ToCluster s) × IsSendable s × WordMay iss taken aborted s) × WordsMay c iss taken aborted ps

abbrev pub RepliesMay : ℕ → ℕ → ℕ → List (Place × List ℕ) → Type 0
RepliesMay c isn heard [] = Unit {0}
RepliesMay c isn heard (p ∷ ps) = ((p.0 ≡ place.Client c) × ((s : Said) × (p.1 ≡ spelled c ToClient s) × IsSendable s × ReplyMay isn heard s)) × RepliesMay c isn heard ps

-- ---- a place that serves, and the front end

-- Of a client that took so many symbols, and aborted or not: no more of them are acknowledged; only a client that aborted
-- resets; and where both sides closed, all that was sent is acknowledged.
abbrev pub EndHolds : ℕ → ℕ → Bool → Ending → Type 0
EndHolds iss taken aborted (ending.Here b count) = (b.send.una ≤ taken) × (b.reset ≡ true → aborted ≡ true)
EndHolds iss taken aborted (ending.Over last) = (last.reason ≡ reason.Closed → Acks iss taken last.snd.0) × (last.reason ≡ reason.Peer → aborted ≡ true)

abbrev pub FrontHolds : ℕ → ℕ → Bool → Seat → Type 0
FrontHolds iss taken aborted Nowhere = Unit {0}
FrontHolds iss taken aborted (AtFront b count) = EndHolds iss taken aborted (ending.Here b count)
FrontHolds iss taken aborted Away = Unit {0}
FrontHolds iss taken aborted (Over last) = EndHolds iss taken aborted (ending.Over last)

-- a turn of a place that serves takes no less than so much, which was taken before, and acknowledges no more than is taken
pub record ServingActed (c isn iss taken : ℕ) (aborted : Bool) (before : ℕ) (given : Ending × Turn) : Type 0 where
  pub grows : before ≤ heard_at isn given.0
  pub holds : EndHolds iss taken aborted given.0
  pub sent : RepliesMay c isn (heard_at isn given.0) given.1.segments

-- ---- a client

-- Of a front end that took so many of its symbols: no more of them are acknowledged; and it is aborted or reset only where
-- that was told.
pub record ClientHolds (heard : ℕ) (aborted was_reset : Bool) (x : ClientBlock) : Type 0 where
  pub acknowledged : x.send.una ≤ heard
  pub aborts : x.phase ≡ Aborted → aborted ≡ true
  pub resets : x.phase ≡ Reset → was_reset ≡ true

-- these records have the end of a stream
abbrev pub ends_in : List Rec → Bool
ends_in [] = false
ends_in (rec.Eof c ∷ rs) = true
ends_in (_ ∷ rs) = ends_in rs

-- a turn of a client takes no less than was taken, and acknowledges no more; the end of its stream is noted; an open one
-- was open, and one that closed its side has it closed
pub record ClientActed (c iss heard : ℕ) (aborted was_reset : Bool) (x : ClientBlock) (given : ClientBlock × Turn) : Type 0 where
  pub grows : taken_by x ≤ taken_by given.0
  pub holds : ClientHolds heard aborted was_reset given.0
  pub sent : WordsMay c iss (taken_by given.0) aborted given.1.segments
  pub ended : given.0.eof ≡ true → (x.eof ≡ true) ⊎ (ends_in given.1.notes ≡ true)
  pub was_open : is_client_open given.0 ≡ true → is_client_open x ≡ true
  pub stays_shut : x.send.finished ≡ true → given.0.send.finished ≡ true

-- a rule of a client that takes nothing from outside
abbrev pub ClientActs : (ClientBlock → ClientBlock × Turn) → Type 0
ClientActs rule = (c : ℕ) (w out : Stream) (x : ClientBlock) (heard : ℕ) (aborted was_reset : Bool)
    → length out.bytes ≤ 2 ^ 30 → ClientAgrees c w out x → ClientHolds heard aborted was_reset x
    → ClientActed c out.first heard aborted was_reset x (rule x)

abbrev pub ClientWritesActs : Type 0
ClientWritesActs = (c : ℕ) (w out : Stream) (x : ClientBlock) (bytes : List ℕ) (heard : ℕ) (aborted was_reset : Bool)
    → length out.bytes ≤ 2 ^ 30 → written_len x bytes ≤ 2 ^ 30 → ClientAgrees c w out x → ClientHolds heard aborted was_reset x
    → ClientActed c out.first heard aborted was_reset x (client_writes x bytes)

abbrev pub ClientGetsActs : Type 0
ClientGetsActs = (c : ℕ) (w out : Stream) (x : ClientBlock) (s : Said) (heard : ℕ) (aborted was_reset : Bool)
    → length out.bytes ≤ 2 ^ 30 → out.first < 2 ^ 32 → s.seq < 2 ^ 32 → s.ack < 2 ^ 32 → ClientAgrees c w out x → IsTrueOf out s
    → ClientHolds heard aborted was_reset x → ReplyMay w.first heard s → (s.flags.rst ≡ true → was_reset ≡ true)
    → ClientActed c out.first heard aborted was_reset x (client_gets x (Ok s))

-- the rule of one that aborts, behind which that is told
abbrev pub ClientAborts : Type 0
ClientAborts = (c : ℕ) (w out : Stream) (x : ClientBlock) (heard : ℕ) (aborted was_reset : Bool)
    → length out.bytes ≤ 2 ^ 30 → ClientAgrees c w out x → ClientHolds heard aborted was_reset x
    → ClientActed c out.first heard true was_reset x (client_aborts x)

-- a client that opened has taken nothing, and none of its symbols is acknowledged
pub record ClientBegins (c iss : ℕ) (given : ClientBlock × Turn) : Type 0 where
  pub holds : (aborted was_reset : Bool) → ClientHolds 0 aborted was_reset given.0
  pub sent : (aborted : Bool) → WordsMay c iss (taken_by given.0) aborted given.1.segments
  pub not_ended : given.0.eof ≡ false

abbrev pub ClientOpensActs : Type 0
ClientOpensActs = (c isn iss wnd mss : ℕ) → isn < 2 ^ 32 → wnd < 2 ^ 16 → 1 ≤ mss → mss ≤ 1460 → ClientBegins c iss (client_opens c isn wnd mss)

-- ---- all rules, each by itself

pub record RulesAct : Type 0 where
  pub opens : ClientOpensActs
  pub writes : ClientWritesActs
  pub shuts : ClientActs client_shuts
  pub finishes : (x : ClientBlock) → is_client_open (client_shuts x).0 ≡ true → (client_shuts x).0.send.finished ≡ true
  pub aborts : ClientAborts
  pub holds : ClientActs client_holds
  pub takes : ClientActs client_takes
  pub client_timer : ClientActs client_timer
  pub client_gets : ClientGetsActs
