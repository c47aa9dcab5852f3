-- Laws of a journal: what each record may say where it stands, and how the steps follow the events.
use Rattle.std.specs.Prelude.{◌≡◌, ◌⊎◌, ℕ, ◌+◌, ◌<◌, ◌≤◌, Bool, true, false, not, List, [], ◌∷◌, ◌++◌, length, Option, Some, None, Ok, IsSome}
use Rattle.std.specs.List.{list_all}
use Rattle.std.specs.Option.{option_map}
use Rattle.lard_answers.specs.Answers.{FilesAt, IsPrefix, answer_bytes, answer_code}
use Rattle.lard_arrival.specs.Arrival.{IsPartAt}
use Rattle.lard_base.specs.declared.event.Event.{Event}
use Rattle.lard_base.specs.declared.event.Event.TheVariants as event
use Rattle.lard_base.specs.declared.ids.Millis.{Millis}
use Rattle.lard_base.specs.declared.place.Place.{Place}
use Rattle.lard_base.specs.declared.place.Place.TheVariants.{Front, Node, Client}
use Rattle.lard_base.specs.declared.place.Via.TheVariants.{Own}
use Rattle.lard_history.specs.Journal.{Numbers, accepted, acting, fin_sent, goal_of, has_closed, is_lost, is_touched, last_epoch, last_event, next_answer, next_verdict, numbers_of, owner, request, said_to, sent_count, served, served_bytes, time_of, was_reset, wrote}
use Rattle.lard_journal.specs.declared.rec.Rec.{Rec}
use Rattle.lard_journal.specs.declared.rec.Rec.TheVariants as rec
use Rattle.lard_segment.specs.declared.segment.Dir.TheVariants.{ToClient}
use Rattle.lard_segment.specs.Segment.{Said, decoded}
use Rattle.lard_seq.specs.Seq.{seq_add}

-- each of these records may stand where it does, after those of the past
abbrev pub EachMay : (List Rec → Rec → Type 0) → List Rec → List Rec → Type 0
EachMay may past [] = Unit {0}
EachMay may past (r ∷ rs) = may past r × EachMay may (past ++ r ∷ []) rs

-- ---- the network law

-- Packet numbers run from 1. A packet is got only after it was sent, in a step of the place to which it was sent,
-- and not after it was lost.
abbrev pub MayInNetwork : List Rec → Rec → Type 0
MayInNetwork past (rec.Sent k from to bytes) = k ≡ sent_count past + 1
MayInNetwork past (rec.Got k) = IsSome (goal_of past k) × (acting past ≡ goal_of past k) × (is_lost past k ≡ false)
MayInNetwork past (rec.Lost k) = IsSome (goal_of past k) × (is_lost past k ≡ false)
MayInNetwork past _ = Unit {0}

abbrev pub IsNetwork : List Rec → Type 0
IsNetwork J = EachMay MayInNetwork [] J

-- ---- the acting place

-- the place that a record names first, of those that a place of the cluster or a client writes of itself
abbrev pub first_place : Rec → Option Place
first_place (rec.Sent k from to bytes) = Some from
first_place (rec.Took place c epoch) = Some place
first_place (rec.Gave place c epoch) = Some place
first_place (rec.Served place c r code size via) = Some place
first_place (rec.Hit n path) = Some (Node n)
first_place (rec.Queued n m c r path) = Some (Node n)
first_place (rec.Read n m c r path) = Some (Node n)
first_place (rec.Armed place c kind) = Some place
first_place (rec.Cleared place c kind) = Some place
first_place (rec.Reset place c total) = Some place
first_place _ = None

-- it is the one that acts in the step: that of the event, or that to which the delivered packet was sent
abbrev pub MayAct : List Rec → Rec → Type 0
MayAct past r = (p : Place) → first_place r ≡ Some p → acting past ≡ Some p

abbrev pub ActsInPlace : List Rec → Type 0
ActsInPlace J = EachMay MayAct [] J

-- ---- the clock

-- A time is told in a step of the clock alone: it is the time before, and the event's milliseconds more.
abbrev pub MayTime : List Rec → Rec → Type 0
MayTime past (rec.Clock time) = (ms : ℕ) × (last_event past ≡ Some (event.Clock ms)) × (time.0 ≡ time_of past + ms)
MayTime past _ = Unit {0}

abbrev pub KeepsTime : List Rec → Type 0
KeepsTime J = EachMay MayTime [] J

-- ---- the ownership law

-- The epochs in which a connection is taken rise. A place that gives a connection up owns it, in the epoch in which
-- it took it.
abbrev pub MayOwn : List Rec → Rec → Type 0
MayOwn past (rec.Took place c epoch) = last_epoch past c < epoch.0
MayOwn past (rec.Gave place c epoch) = (owner past c ≡ Some place) × (last_epoch past c ≡ epoch.0)
MayOwn past _ = Unit {0}

abbrev pub IsOwnership : List Rec → Type 0
IsOwnership J = EachMay MayOwn [] J

-- ---- the sole-sender law: who sends

-- what a place of the cluster may send to client c
abbrev pub OwnerSends : List Rec → Place → Place → Type 0
OwnerSends past Front (Client c) = owner past c ≡ Some Front
OwnerSends past (Node n) (Client c) = owner past c ≡ Some (Node n)
OwnerSends past _ _ = Unit {0}

-- A place takes a connection only where nobody owns it, and only the owner sends to the client.
abbrev pub MaySend : List Rec → Rec → Type 0
MaySend past (rec.Took place c epoch) = owner past c ≡ None
MaySend past (rec.Sent k from to bytes) = OwnerSends past from to
MaySend past _ = Unit {0}

abbrev pub IsSoleSender : List Rec → Type 0
IsSoleSender J = EachMay MaySend [] J

-- ---- the sole-sender law: what is sent

-- A segment to client c: it resets after a reset of the stream limit alone; else its data is the part of the responses
-- that were queued, at its offset, its FIN stands directly behind all of them, and it acknowledges no more than the
-- client's SYN, bytes and FIN.
pub record IsTold (files : FilesAt) (past : List Rec) (c : ℕ) (bytes : List ℕ) : Type 0 where
  pub said : Said
  pub decodes : decoded bytes c ToClient ≡ Ok said
  pub numbers : Numbers
  pub opened : numbers_of past c ≡ Some numbers
  pub reset : said.flags.rst ≡ true → was_reset past c ≡ true
  pub carries : (said.payload ≡ []) ⊎ ((k : ℕ) × (said.seq ≡ seq_add numbers.iss (1 + k)) × IsPartAt k said.payload (said_to files past c))
  pub final : said.flags.fin ≡ true → (k : ℕ) × (said.seq ≡ seq_add numbers.iss (1 + k)) × (k + length said.payload ≡ length (said_to files past c))
  pub acknowledges : said.flags.rst ≡ false → (n : ℕ) × (said.ack ≡ seq_add numbers.isn n) × (n ≤ 2 + length (wrote past c))

-- so it is of each client whose connection the schedule did not touch
abbrev pub ToldTo : FilesAt → List Rec → Place → Place → List ℕ → Type 0
ToldTo files past Front (Client c) bytes = is_touched past c ≡ false → IsTold files past c bytes
ToldTo files past (Node n) (Client c) bytes = is_touched past c ≡ false → IsTold files past c bytes
ToldTo files past _ _ bytes = Unit {0}

-- No response is queued behind the FIN.
abbrev pub MayTell : FilesAt → List Rec → Rec → Type 0
MayTell files past (rec.Sent k from to bytes) = ToldTo files past from to bytes
MayTell files past (rec.Served place c r code size via) = is_touched past c ≡ false → fin_sent past c ≡ false
MayTell files past _ = Unit {0}

abbrev pub TellsTheTruth : FilesAt → List Rec → Type 0
TellsTheTruth files J = EachMay (MayTell files) [] J

-- ---- the law of service

-- A response answers the client's next request: it has the number of that, and the code and the length of the answer to
-- it. Its content is the place's own, since one front end answers all; a cluster's responses come by several ways. A reset stands where the next response would be,
-- which is there, and counts the bytes of that with those of all before it. So it is of each client whose connection the
-- schedule did not touch.
abbrev pub MayServe : FilesAt → List Rec → Rec → Type 0
MayServe files past (rec.Served place c r code size via) =
    is_touched past c ≡ false
    → (r ≡ served past c + 1) × (option_map (answer_code files) (next_verdict past c) ≡ Some code) × (option_map length (next_answer files past c) ≡ Some size) × (via ≡ Own)
MayServe files past (rec.Reset place c total) = is_touched past c ≡ false → option_map (λ bytes. served_bytes past c + length bytes) (next_answer files past c) ≡ Some total
MayServe files past _ = Unit {0}

-- ---- the reset law

-- The responses on a connection have at most `stream` bytes, and none follows a reset, which counts more. With the law
-- of service, which says what it counts, a reset stands only where the next response would pass the limit.
abbrev pub MayReset : ℕ → List Rec → Rec → Type 0
MayReset stream past (rec.Served place c r code size via) = (served_bytes past c + size ≤ stream) × (was_reset past c ≡ false)
MayReset stream past (rec.Reset place c total) = (stream < total) × (was_reset past c ≡ false)
MayReset stream past _ = Unit {0}

abbrev pub ResetsAtTheLimit : ℕ → List Rec → Type 0
ResetsAtTheLimit stream J = EachMay (MayReset stream) [] J

-- ---- the prefix law

-- At every moment, the bytes that a client accepted are a prefix of the responses to what it wrote until then, which
-- are sent in the order of its requests (RFC 9112, 9.3.2), as long as the schedule did not touch its connection.
abbrev pub AcceptsOnlyAnswers : FilesAt → List Rec → Type 0
AcceptsOnlyAnswers files J =
    (past later : List Rec) (c : ℕ) → J ≡ past ++ later → is_touched past c ≡ false → IsPrefix (accepted past c) (answer_bytes files (wrote past c))

-- ---- clients

-- A client writes nothing once it was shut or aborted, or took the end of its stream.
abbrev pub MayWrite : List Rec → Rec → Type 0
MayWrite past (rec.Wrote c bytes) = has_closed past c ≡ false
MayWrite past _ = Unit {0}

abbrev pub WritesWhileOpen : List Rec → Type 0
WritesWhileOpen J = EachMay MayWrite [] J

-- ---- how a journal follows the events

-- the records that stand directly behind their event alone
abbrev pub is_own : Rec → Bool
is_own (rec.Event i e) = true
is_own (rec.Inner e) = true
is_own (rec.Opened c isn iss wnd mss) = true
is_own (rec.Wrote c bytes) = true
is_own (rec.Got k) = true
is_own (rec.Lost k) = true
is_own (rec.Aborted c) = true
is_own (rec.Injected c) = true
is_own (rec.Clock time) = true
is_own _ = false

-- the own records of an event's step; a client that writes no longer writes none, and a node that is closed is not closed again
abbrev pub AreOwn : Event → List Rec → Type 0
AreOwn (event.Open c isn iss wnd mss) own = own ≡ rec.Opened c isn iss wnd mss ∷ []
AreOwn (event.Get c path) own = (own ≡ rec.Wrote c (request path) ∷ []) ⊎ (own ≡ [])
AreOwn (event.Write c bytes) own = (own ≡ rec.Wrote c bytes ∷ []) ⊎ (own ≡ [])
AreOwn (event.Abort c) own = own ≡ rec.Aborted c ∷ []
AreOwn (event.Deliver k) own = own ≡ rec.Got k ∷ []
AreOwn (event.Lose k) own = own ≡ rec.Lost k ∷ []
AreOwn (event.Inject c bytes) own = own ≡ rec.Injected c ∷ []
AreOwn (event.Clock ms) own = (time : Millis) × (own ≡ rec.Clock time ∷ [])
AreOwn (event.Drain n) own = (own ≡ rec.Closed n ∷ []) ⊎ (own ≡ [])
AreOwn _ own = own ≡ []

-- the records of the i-th event's step: the event, its own records, and others
pub record IsStep (i : ℕ) (e : Event) (step : List Rec) : Type 0 where
  pub own : List Rec
  pub others : List Rec
  pub is : step ≡ rec.Event i e ∷ own ++ others
  pub own_are : AreOwn e own
  pub alone : list_all (λ r. not (is_own r)) others ≡ true

-- A journal is the steps of these events, one after another, and the events are numbered from i.
abbrev pub Follows : ℕ → List Event → List Rec → Type 0
Follows i [] J = J ≡ []
Follows i (e ∷ es) J = (step : List Rec) × (later : List Rec) × (J ≡ step ++ later) × IsStep i e step × Follows (i + 1) es later
