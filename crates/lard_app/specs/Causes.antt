-- Why a replay ends as it does, in words of the text's lines, and of the journal before the line that ends it.
-- The numbers of all limits and ranges are written out here, apart from the rules that use them.
use Rattle.std.specs.Prelude.{◌≡◌, ◌≢◌, ◌⊎◌, ℕ, ◌+◌, ◌-◌, ◌*◌, ◌^◌, ◌<◌, ◌≤◌, true, List, [], ◌∷◌, ◌++◌, length, Option, Some, None, IsSome, Ok, Err}
use Rattle.lard_law_view.specs.Prelude.{Client, ClientBlock, Config, ConfigFault, Event, FileFault, Front, Key, Machine, Node, Place, Rec, Refusal, StepFault, What, answered_bytes, client_of, file_at, files_total, is_lost, is_node_closed, numbers_of, own, packet_bytes, request, sent_count, written_len}
use Rattle.lard_base.specs.declared.config.ConfigFault.TheVariants.{Range, LowHigh, NoRoom}
use Rattle.lard_base.specs.declared.config.Key.TheVariants as key
use Rattle.lard_base.specs.declared.event.Event.TheVariants as event
use Rattle.lard_counts.specs.Stores.{jobs}
use Rattle.lard_files.specs.declared.fault.FileFault.TheVariants as file_fault
use Rattle.lard_rules.specs.declared.fault.Refusal.TheVariants as refusal
use Rattle.lard_rules.specs.declared.fault.What.TheVariants as what
use Rattle.lard_schedule.specs.declared.item.Item.{Item}
use Rattle.lard_schedule.specs.declared.item.Item.TheVariants as item
use Rattle.lard_schedule.specs.declared.reader.Stage.TheVariants.{Running}
use Rattle.lard_schedule.specs.Laws.{IsLineOf, MayStand}
use Rattle.lard_schedule.specs.Reader.{HasRange}
use Rattle.lard_settling.specs.Events.{event_step}
use Rattle.lard_settling.specs.Written.{written_out}
use Rattle.lard_app.specs.declared.status.Status.{Status}
use Rattle.lard_app.specs.declared.status.Status.TheVariants.{Done, Refused, Limit}
use Rattle.lard_app.specs.declared.status.Why.{Why}
use Rattle.lard_app.specs.declared.status.Why.TheVariants as why
use Rattle.lard_app.specs.Replay.{Progress, begin, line_passed}

-- ---- lines

-- the bytes of lines, with their line feeds
abbrev pub lines_bytes : List (List ℕ) → ℕ
lines_bytes [] = 0
lines_bytes (line ∷ lines) = (length line + 1) + lines_bytes lines

-- The line spells the item, the item may stand behind the lines before, and it is in range.
abbrev pub StandsThere : Progress → List ℕ → Item → Type 0
StandsThere s line x = IsLineOf line x × MayStand s.reader x × HasRange x

-- it is an event, which is tried
abbrev pub Tries : Progress → List ℕ → Event → Type 0
Tries s line e = StandsThere s line (item.Event e)

-- ---- why an item is refused

-- the range of each number of the configuration
abbrev pub IsFit : Key → ℕ → Type 0
IsFit key.Nodes n = (1 ≤ n) × (n ≤ 64)
IsFit key.Low n = (1 ≤ n) × (n ≤ 1000)
IsFit key.High n = (1 ≤ n) × (n ≤ 1000)
IsFit key.Age n = n < 2 ^ 32
IsFit key.Idle n = n ≤ 1000000
IsFit key.Over n = n ≤ 1000000
IsFit key.Miss n = n ≤ 1000000
IsFit key.Cache n = (1 ≤ n) × (n ≤ 2 ^ 30)
IsFit key.Stream n = (1 ≤ n) × (n ≤ 2 ^ 30)

-- why the numbers that were kept do not go together: low is above high, or not even one connection would be admitted
abbrev pub DisagreesBy : Config → ConfigFault → Type 0
DisagreesBy config (Range key value) = ⊥
DisagreesBy config (LowHigh low high) = (low ≡ config.low) × (high ≡ config.high) × (high < low)
DisagreesBy config NoRoom = (config.low ≤ config.high) × ((config.nodes - 1) * config.high + config.low ≤ 1)

-- a number out of its range, or `go` behind numbers that do not go together
abbrev pub IsUnfit : Config → Item → ConfigFault → Type 0
IsUnfit config item.Header fault = ⊥
IsUnfit config (item.Set key value) fault = (fault ≡ Range key value) × ¬ (IsFit key value)
IsUnfit config (item.File path bytes) fault = ⊥
IsUnfit config item.Go fault = DisagreesBy config fault
IsUnfit config (item.Event e) fault = ⊥

-- ---- why a step is not done, after the records of J

-- no limit was reached before the step
abbrev pub IsWithinLimits : List Rec → Type 0
IsWithinLimits J = (sent_count J < 1000000) × (packet_bytes J < 2 ^ 29) × (length J < 4000000) × (answered_bytes J < 2 ^ 29)

-- this limit was reached before the step, as the first of the four
abbrev pub HasReached : List Rec → What → Type 0
HasReached J what.Packets = 1000000 ≤ sent_count J
HasReached J what.PacketBytes = (sent_count J < 1000000) × (2 ^ 29 ≤ packet_bytes J)
HasReached J what.Records = (sent_count J < 1000000) × (packet_bytes J < 2 ^ 29) × (4000000 ≤ length J)
HasReached J what.Answers = (sent_count J < 1000000) × (packet_bytes J < 2 ^ 29) × (length J < 4000000) × (2 ^ 29 ≤ answered_bytes J)
HasReached J what.Input = ⊥
HasReached J what.Requests = ⊥
HasReached J what.Stream = ⊥

-- an event of packet k
abbrev pub IsOfPacket : Event → ℕ → Type 0
IsOfPacket (event.Deliver j) k = j ≡ k
IsOfPacket (event.Lose j) k = j ≡ k
IsOfPacket _ k = ⊥

-- an event of client c, which opened before
abbrev pub IsOfClient : Event → ℕ → Type 0
IsOfClient (event.Get d path) c = d ≡ c
IsOfClient (event.Write d bytes) c = d ≡ c
IsOfClient (event.Shut d) c = d ≡ c
IsOfClient (event.Abort d) c = d ≡ c
IsOfClient (event.Hold d) c = d ≡ c
IsOfClient (event.Take d) c = d ≡ c
IsOfClient (event.Timer place d) c = d ≡ c
IsOfClient (event.Inject d bytes) c = d ≡ c
IsOfClient _ c = ⊥

abbrev pub Opens : Event → ℕ → Type 0
Opens (event.Open d isn iss wnd mss) c = d ≡ c
Opens _ c = ⊥

-- client c would have written more than `stream` bytes: by its table, which counts inner steps as events
abbrev pub WouldPass : ℕ → List Rec → ℕ → List ℕ → Type 0
WouldPass stream J c bytes = (x : ClientBlock) × (client_of c (own c (written_out J)) ≡ Some x) × (stream < written_len x bytes)

abbrev pub WritesTooMuch : ℕ → List Rec → Event → Type 0
WritesTooMuch stream J (event.Get c path) = WouldPass stream J c (request path)
WritesTooMuch stream J (event.Write c bytes) = WouldPass stream J c bytes
WritesTooMuch stream J _ = ⊥

-- a timer of node n, a job of its disk, or its closing; the client of a timer opened before
abbrev pub IsNumbered : Place → ℕ → Type 0
IsNumbered Front n = ⊥
IsNumbered (Node k) n = k ≡ n
IsNumbered (Client c) n = ⊥

abbrev pub IsOfNode : List Rec → Event → ℕ → Type 0
IsOfNode J (event.Timer place c) n = IsNumbered place n × IsSome (numbers_of J c)
IsOfNode J (event.Disk k j) n = k ≡ n
IsOfNode J (event.Drain k) n = k ≡ n
IsOfNode J _ n = ⊥

-- job j of the disk of node n, one of so many nodes, where so many jobs wait
abbrev pub IsOfDisk : ℕ → List Rec → Event → ℕ → ℕ → ℕ → Type 0
IsOfDisk nodes J (event.Disk k i) n j len = (k ≡ n) × (i ≡ j) × (1 ≤ n) × (n ≤ nodes) × (len ≡ length (jobs J n))
IsOfDisk nodes J _ n j len = ⊥

-- it is that node n is to be closed
abbrev pub IsDrainOf : Event → ℕ → Type 0
IsDrainOf (event.Drain k) n = k ≡ n
IsDrainOf _ n = ⊥

-- of so many nodes each but node n is closed
abbrev pub AreOthersClosed : ℕ → List Rec → ℕ → Type 0
AreOthersClosed nodes J n = (k : ℕ) → 1 ≤ k → k ≤ nodes → k ≢ n → is_node_closed J k ≡ true

-- the event is not one that may come now
abbrev pub IsUntimely : Machine → Event → Refusal → Type 0
IsUntimely m e (refusal.NotSent k sent) = IsOfPacket e k × (sent ≡ sent_count m.journal) × ((k ≡ 0) ⊎ (sent < k))
IsUntimely m e (refusal.WasLost k) = IsOfPacket e k × (1 ≤ k) × (k ≤ sent_count m.journal) × (is_lost m.journal k ≡ true)
IsUntimely m e (refusal.NoClient c) = IsOfClient e c × (numbers_of m.journal c ≡ None)
IsUntimely m e (refusal.Used c) = Opens e c × IsSome (numbers_of m.journal c)
IsUntimely m e (refusal.NoNode n nodes) = IsOfNode m.journal e n × (nodes ≡ m.config.nodes) × ((n ≡ 0) ⊎ (nodes < n))
IsUntimely m e (refusal.LastNode n) = IsDrainOf e n × (1 ≤ n) × (n ≤ m.config.nodes) × AreOthersClosed m.config.nodes m.journal n
IsUntimely m e (refusal.NoJob n j len) = IsOfDisk m.config.nodes m.journal e n j len × ((j ≡ 0) ⊎ (len < j))

-- A settle ended the run in this state, by this fault: no step was done there.
abbrev pub StopsIn : Machine → ℕ → Machine → StepFault → Type 0
StopsIn m rounds n f = event_step m (event.Settle rounds) ≡ Err (n, f)

-- A limit was reached before the step, or the event would pass that on what a client writes. Of a settle it is the step that was not
-- done: its event, or one inside.
abbrev pub ReachesLimit : Machine → Event → What → Type 0
ReachesLimit m (event.Settle rounds) w = (n : Machine) × (f : StepFault) × StopsIn m rounds n f × HasReached n.journal w
ReachesLimit m e w = HasReached m.journal w ⊎ (IsWithinLimits m.journal × (w ≡ what.Stream) × WritesTooMuch m.config.stream m.journal e)

-- The event may not come now. A settle always may, and its inner steps are refused for no other cause than a limit.
abbrev pub MayNotCome : Machine → Event → Refusal → Type 0
MayNotCome m (event.Settle rounds) reason = ⊥
MayNotCome m e reason = IsWithinLimits m.journal × IsUntimely m e reason

-- ---- files

-- Why a file of so many bytes may not be added to others, of which there are so many, with so many bytes in all, and the
-- one with its path is given: the first of these that applies.
abbrev pub MayNotAdd : Option (List ℕ) → ℕ → ℕ → ℕ → FileFault → Type 0
MayNotAdd there count sum len file_fault.Repeated = IsSome there
MayNotAdd there count sum len (file_fault.TooLong n) = (there ≡ None) × (n ≡ len) × (2 ^ 20 < len)
MayNotAdd there count sum len (file_fault.TooMany n) = (there ≡ None) × (len ≤ 2 ^ 20) × (n ≡ count + 1) × (65536 < count + 1)
MayNotAdd there count sum len (file_fault.TooMuch n) = (there ≡ None) × (len ≤ 2 ^ 20) × (count + 1 ≤ 65536) × (n ≡ sum + len) × (2 ^ 26 < sum + len)
MayNotAdd there count sum len file_fault.NoMemory = ⊥

-- it is a file that may not be added to those before, for this reason
abbrev pub AddsNone : Progress → List ℕ → FileFault → Type 0
AddsNone s line fault = (path : List ℕ) × (bytes : List ℕ) × StandsThere s line (item.File path bytes) × MayNotAdd (file_at s.files path) (length s.files) (files_total s.files) (length bytes) fault

-- ---- causes

-- why a line is refused in its place
abbrev pub RefusesLine : Progress → List ℕ → Why → Type 0
RefusesLine s line why.Syntax = (x : Item) → ¬ (StandsThere s line x)
RefusesLine s line (why.Config fault) = (x : Item) × StandsThere s line x × IsUnfit s.config x fault
RefusesLine s line (why.File fault) = AddsNone s line fault
RefusesLine s line (why.Untimely reason) = (e : Event) × Tries s line e × MayNotCome s.machine e reason
RefusesLine s line why.NoFile = ⊥
RefusesLine s line (why.NotOpen number) = ⊥
RefusesLine s line (why.Broken rule) = ⊥

-- how a line ends the run, after n lines of so many bytes: it holds the byte after the limit, or it is refused, or a
-- limit is reached
abbrev pub EndsLine : Progress → ℕ → ℕ → List ℕ → Status → Type 0
EndsLine s n bytes line (Limit number what.Input) = (number ≡ n + 1) × (2 ^ 26 < bytes + (length line + 1))
EndsLine s n bytes line (Limit number w) = (number ≡ n + 1) × (bytes + (length line + 1) ≤ 2 ^ 26) × ((e : Event) × Tries s line e × ReachesLimit s.machine e w)
EndsLine s n bytes line (Refused number cause) = (number ≡ n + 1) × (bytes + (length line + 1) ≤ 2 ^ 26) × RefusesLine s line cause
EndsLine s n bytes line _ = ⊥

-- how the text behind the line feed of the last line ends it: it is to be empty, and `go` is to have passed
abbrev pub EndsText : Progress → ℕ → ℕ → List ℕ → Status → Type 0
EndsText s n bytes last Done = (last ≡ []) × (s.reader.stage ≡ Running)
EndsText s n bytes last (Refused line why.Syntax) = (line ≡ n + 1) × (bytes + length last ≤ 2 ^ 26) × ((last ≢ []) ⊎ (s.reader.stage ≢ Running))
EndsText s n bytes last (Limit line what.Input) = (line ≡ n + 1) × (2 ^ 26 < bytes + length last)
EndsText s n bytes last _ = ⊥

-- the lines pass, one after another, and lead from one state to another
abbrev pub Leads : Progress → List (List ℕ) → Progress → Type 0
Leads s [] t = s ≡ t
Leads s (line ∷ lines) t = (u : Progress) × (line_passed s line ≡ Ok u) × Leads u lines t

-- what is left behind the lines that passed ends the run
abbrev pub EndsRest : Progress → ℕ → ℕ → List (List ℕ) → Status → Type 0
EndsRest s n bytes [] status = ⊥
EndsRest s n bytes (last ∷ []) status = EndsText s n bytes last status
EndsRest s n bytes (line ∷ next ∷ more) status = EndsLine s n bytes line status

-- Some lines pass, and the next ends the run.
pub record EndsRun (lines : List (List ℕ)) (status : Status) : Type 0 where
  pub before : List (List ℕ)
  pub rest : List (List ℕ)
  pub are : lines ≡ before ++ rest
  pub state : Progress
  pub leads : Leads begin before state
  pub ends : EndsRest state (length before) (lines_bytes before) rest status
