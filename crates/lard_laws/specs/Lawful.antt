-- The laws of a journal of the cluster, in words of its records alone.
use Rattle.std.specs.Prelude.{◌≡◌, ℕ, ◌≤◌, List, [], ◌++◌, Ok}
use Rattle.lard_law_view.specs.Prelude.{AcceptsOnlyAnswers, ActsInPlace, AtEachEnd, ChangesInSteps, Config, EachMay, EachStep, FilesAt, IsNetwork, IsOwnership, IsReached, IsSoleSender, KeepsTables, KeepsTime, Machine, Rec, ResetsAtTheLimit, TakesInOrder, TellsTheTruth, WritesWhileOpen, config_check, file_at, room_of, steps}
use Rattle.lard_laws.specs.AsksAnswers.{MustAnswer, MustEnd}
use Rattle.lard_laws.specs.AsksSent.{MustAsk}
use Rattle.lard_laws.specs.BackingJobs.{MustQueue}
use Rattle.lard_laws.specs.BackingRequests.{MayAnswerFrom, MayBeBacked, MayName, MayStart}
use Rattle.lard_law_connections.specs.BytesRecords.{ServesTheAnswers}
use Rattle.lard_law_connections.specs.Closings.{MustClose, SomeStays}
use Rattle.lard_law_connections.specs.LineLaws.{HasFewConnections, IsNearTheThresholds, IsNotBusy, IsWithinTheRoom, LineNeedsAFullRoom, MayPass, MayWait, MustRelease}
use Rattle.lard_law_connections.specs.Motion.{MustMove}
use Rattle.lard_law_connections.specs.Offers.{CarryTheEndpoint}
use Rattle.lard_law_connections.specs.ResetsLaws.{SendsRstBehindResets}
use Rattle.lard_law_connections.specs.PolicyLaws.{AreLoadsCharged, ArePaired, AreServersTold, MayAdmit, MayAssign, MayRelease, MayShare, Nothing, last_but_closed, last_record}
use Rattle.lard_counts.specs.Ledger.{Ledger, ledger_admitted, ledger}
use Rattle.lard_laws.specs.Due.{AnswersWhatIsDue}
use Rattle.lard_laws.specs.Quiet.{CompletesWhenQuiet}
use Rattle.lard_laws.specs.RecordsMessages.{MayBeThere}
use Rattle.lard_laws.specs.Sizes.{MustSize}
use Rattle.lard_law_connections.specs.StoresLaws.{MayStore, MustRead}
use Rattle.lard_laws.specs.WaysBefore.{MayBeServed}
use Rattle.lard_laws.specs.WaysContents.{MustBring}
use Rattle.lard_laws.specs.Ways.{AreAssignedInOrder, AssignsAPrefix, ComeAsAssigned, NamesTheNext}

-- P is so, at every moment, of what the journal counts and of the records so far.
abbrev pub Throughout : (Ledger → List Rec → Type 0) → Config → List Rec → Type 0
Throughout P config J = (past later : List Rec) → J ≡ past ++ later → P (ledger config past) past

-- each record may stand where it does, by what the journal counts just before it
abbrev pub EachCounted : (Config → Ledger → Rec → Type 0) → Config → List Rec → Type 0
EachCounted may config J = EachMay (λ past r. may config (ledger config past) r) [] J

-- Such files are served, in a cluster of this configuration.
pub record IsLawful (config : Config) (files : FilesAt) (J : List Rec) : Type 0 where
  -- what comes was sent, to the place where it comes, and not lost
  pub network : IsNetwork J
  -- each record is of the place that acts in its step, no node acts but those that there are, and the time is the sum of what the
  -- clock was moved by
  pub places : ActsInPlace J
  pub acts : EachMay (MayBeThere config.nodes) [] J
  pub clock : KeepsTime J
  -- one owner at a time, in rising epochs, who alone sends to the client
  pub ownership : IsOwnership J
  pub sole_sender : IsSoleSender J
  -- in which steps a connection is taken, given up and forwarded
  pub motion : EachStep (MustMove config.nodes) [] (steps J)
  -- what clients write and take
  pub writers : WritesWhileOpen J
  pub takers : TakesInOrder J
  pub tables : KeepsTables J
  -- when timers start and stop to run
  pub timers : ChangesInSteps J
  -- what is told to a client, what is served, and what it accepts
  pub tells : TellsTheTruth files J
  pub service : ServesTheAnswers files J
  pub prefix : AcceptsOnlyAnswers files J
  -- when the stream limit resets a connection
  pub resets : ResetsAtTheLimit config.stream J
  -- and that RST is sent behind such a reset alone
  pub sends_rst : SendsRstBehindResets J
  -- what is cached, what waits at a disk, and which job is read
  pub stores : EachMay (MayStore files config.cache) [] J
  pub disks : EachStep MustRead [] (steps J)
  -- who waits, who is admitted and who is released; how many are admitted; that each of them gets a node at once, and is released
  -- where the front end takes it again
  pub admission : EachCounted MayAdmit config J
  pub room : Throughout (λ l past. ledger_admitted l ≤ room_of config) config J
  pub nodes : ArePaired Nothing J
  pub releases : EachMay (λ past r. MayRelease (last_but_closed past) r) [] J
  pub taken_back : EachStep (MustRelease config) [] (steps J)
  -- the line: who is told to wait joins it, somebody is in it only at a full room, and who is admitted is its first
  pub joins : EachMay (λ past r. MayWait (ledger config past) past r) [] J
  pub line : AtEachEnd (LineNeedsAFullRoom config) J
  pub passes : EachMay MayPass [] J
  -- each choice of a node is that of the stated policy, at loads and server sets that the journal counts
  pub choices : EachCounted MayAssign config J
  pub batches : EachMay (λ past r. MayShare (last_record past) (ledger config past) r) [] J
  pub loads : Throughout (AreLoadsCharged config) config J
  pub servers : Throughout AreServersTold config J
  -- when a node is closed: where it was open, as it is drained or a connection comes back from it, and nowhere else; and that some node stays open
  pub closings : EachStep MustClose [] (steps J)
  pub some_stays : Throughout (SomeStays config) config J
  -- how great a load may be, by the room and, while no node is closed, by the policy; and how many connections a node may have then
  pub most_by_room : Throughout (IsWithinTheRoom config) config J
  pub most_by_policy : Throughout (IsNearTheThresholds config) config J
  pub few : Throughout (HasFewConnections config) config J
  pub never_all_busy : Throughout (IsNotBusy config) config J
  -- which Asks a node sends; in which steps later requests are assigned and Tags are sent, and a batch is over
  pub asks : EachStep MustAsk [] (steps J)
  pub tags : EachStep MustAnswer [] (steps J)
  pub batch_ends : EachStep (MustEnd config) [] (steps J)
  -- how many requests the batch of an Ask has, and which of them it names
  pub sizes : EachStep (MustSize files) [] (steps J)
  -- which request each assignment is for, and by which way its content comes
  pub requests : AreAssignedInOrder files J
  pub paths : AssignsAPrefix files J
  -- and the paths of an Ask go on from those that were assigned before it is sent first
  pub names_next : NamesTheNext files J
  pub ways : ComeAsAssigned files J
  -- which place answers each request; for which request a first assignment is, and each job of a disk
  pub answerers : EachMay (MayAnswerFrom files) [] J
  pub named : EachMay (MayName files) [] J
  -- what a node saw before a response whose content it did not have at hand, and what it sends as a content
  pub came : EachMay MayBeServed [] J
  -- that it is of the path of the request which the response answers, and stands behind what told the node where the request is
  -- assigned: the record that it took the connection, and the Tag of the request's Ask
  pub backed : EachMay (MayBeBacked files) [] J
  -- and that no job of a node itself is queued or read before that
  pub starts : EachMay (MayStart files) [] J
  pub contents : EachStep (MustBring files) [] (steps J)
  -- for which node it queues a job
  pub queues : EachStep MustQueue [] (steps J)
  -- what an Offer and a Give carry where they are sent first
  pub offers : CarryTheEndpoint files J
  -- a connection on which nothing more is to come is complete, or in the line
  pub quiet : CompletesWhenQuiet config files J
  -- at the end of each step the next response to what was acknowledged is not due, so none that would pass the stream limit is
  pub nothing_due : AnswersWhatIsDue config files J

-- in every state that events lead to, with a configuration that may be used
abbrev pub JournalsAreLawful : Type 0
JournalsAreLawful = (config : Config) (files : List (List ℕ × List ℕ)) (m : Machine) → config_check config ≡ Ok tt → IsReached config files m
    → IsLawful config (file_at files) m.journal
