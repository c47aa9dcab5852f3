-- Which records their lines tell apart.
use Rattle.std.specs.Prelude.{ℕ, ◌<◌, ◌^◌, List, Option, Some, None, All}
use Rattle.hex.specs.Hex.{IsBytes}
use Rattle.lard_base.specs.declared.config.Config.{Config}
use Rattle.lard_base.specs.declared.event.Event.{Event}
use Rattle.lard_base.specs.declared.event.Event.TheVariants as event
use Rattle.lard_base.specs.declared.place.Place.{Place}
use Rattle.lard_base.specs.declared.place.Place.TheVariants.{Front, Node, Client}
use Rattle.lard_base.specs.declared.place.Via.{Via}
use Rattle.lard_base.specs.declared.place.Via.TheVariants as via
use Rattle.lard_journal.specs.declared.rec.Rec.{Rec}
use Rattle.lard_journal.specs.declared.rec.Rec.TheVariants as rec

-- a number of at most 64 bits
abbrev pub IsNumber : ℕ → Type 0
IsNumber n = n < 2 ^ 64

-- neither a space nor a line feed, nor another control byte
abbrev pub IsUnspaced : List ℕ → Type 0
IsUnspaced path = All (λ b. 32 < b) path

abbrev pub IsPlaceInRange : Place → Type 0
IsPlaceInRange Front = Unit {0}
IsPlaceInRange (Node n) = IsNumber n
IsPlaceInRange (Client c) = IsNumber c

abbrev pub IsChoiceInRange : Option ℕ → Type 0
IsChoiceInRange None = Unit {0}
IsChoiceInRange (Some n) = IsNumber n

abbrev pub IsViaInRange : Via → Type 0
IsViaInRange via.Own = Unit {0}
IsViaInRange via.Cache = Unit {0}
IsViaInRange via.Disk = Unit {0}
IsViaInRange (via.Node m) = IsNumber m

-- an event whose numbers are below 2^64, whose bytes are bytes, and whose path has no spaces
abbrev pub IsEventInRange : Event → Type 0
IsEventInRange (event.Open c isn iss wnd mss) = IsNumber c × IsNumber isn × IsNumber iss × IsNumber wnd × IsNumber mss
IsEventInRange (event.Get c path) = IsNumber c × IsUnspaced path
IsEventInRange (event.Write c bytes) = IsNumber c × IsBytes bytes
IsEventInRange (event.Shut c) = IsNumber c
IsEventInRange (event.Abort c) = IsNumber c
IsEventInRange (event.Hold c) = IsNumber c
IsEventInRange (event.Take c) = IsNumber c
IsEventInRange (event.Deliver k) = IsNumber k
IsEventInRange (event.Lose k) = IsNumber k
IsEventInRange (event.Timer place c) = IsPlaceInRange place × IsNumber c
IsEventInRange (event.Disk n j) = IsNumber n × IsNumber j
IsEventInRange (event.Drain n) = IsNumber n
IsEventInRange (event.Clock ms) = IsNumber ms
IsEventInRange (event.Settle rounds) = IsNumber rounds
IsEventInRange (event.Inject c bytes) = IsNumber c × IsBytes bytes

-- the same of a record
abbrev pub IsRecordInRange : Rec → Type 0
IsRecordInRange (rec.Event i event) = IsNumber i × IsEventInRange event
IsRecordInRange (rec.Inner event) = IsEventInRange event
IsRecordInRange (rec.Opened c isn iss wnd mss) = IsNumber c × IsNumber isn × IsNumber iss × IsNumber wnd × IsNumber mss
IsRecordInRange (rec.Wrote c bytes) = IsNumber c × IsBytes bytes
IsRecordInRange (rec.Sent k from to bytes) = IsNumber k × IsPlaceInRange from × IsPlaceInRange to × IsBytes bytes
IsRecordInRange (rec.Got k) = IsNumber k
IsRecordInRange (rec.Lost k) = IsNumber k
IsRecordInRange (rec.Accepted c bytes) = IsNumber c × IsBytes bytes
IsRecordInRange (rec.Eof c) = IsNumber c
IsRecordInRange (rec.Took place c epoch) = IsPlaceInRange place × IsNumber c × IsNumber epoch.0
IsRecordInRange (rec.Gave place c epoch) = IsPlaceInRange place × IsNumber c × IsNumber epoch.0
IsRecordInRange (rec.Waits c) = IsNumber c
IsRecordInRange (rec.Admitted c) = IsNumber c
IsRecordInRange (rec.Released c) = IsNumber c
IsRecordInRange (rec.AssignedFirst c r path n add remove) = IsNumber c × IsNumber r × IsUnspaced path × IsNumber n × IsChoiceInRange add × IsChoiceInRange remove
IsRecordInRange (rec.AssignedLater c r path n add size queue) = IsNumber c × IsNumber r × IsUnspaced path × IsNumber n × IsChoiceInRange add × IsNumber size × IsNumber queue
IsRecordInRange (rec.BatchOver c) = IsNumber c
IsRecordInRange (rec.Served place c r code length via) = IsPlaceInRange place × IsNumber c × IsNumber r × IsNumber code × IsNumber length × IsViaInRange via
IsRecordInRange (rec.Hit n path) = IsNumber n × IsUnspaced path
IsRecordInRange (rec.Queued n m c r path) = IsNumber n × IsNumber m × IsNumber c × IsNumber r × IsUnspaced path
IsRecordInRange (rec.Read n m c r path) = IsNumber n × IsNumber m × IsNumber c × IsNumber r × IsUnspaced path
IsRecordInRange (rec.Closed n) = IsNumber n
IsRecordInRange (rec.Armed place c _) = IsPlaceInRange place × IsNumber c
IsRecordInRange (rec.Cleared place c _) = IsPlaceInRange place × IsNumber c
IsRecordInRange (rec.Reset place c count) = IsPlaceInRange place × IsNumber c × IsNumber count
IsRecordInRange (rec.Aborted c) = IsNumber c
IsRecordInRange (rec.Injected c) = IsNumber c
IsRecordInRange (rec.Clock time) = IsNumber time.0
IsRecordInRange (rec.Settled rounds) = IsNumber rounds
IsRecordInRange (rec.Unsettled rounds left) = IsNumber rounds × IsNumber left

-- the same of a file's path and length
abbrev pub IsFileInRange : List ℕ × ℕ → Type 0
IsFileInRange (path, length) = IsUnspaced path × IsNumber length

abbrev pub IsConfigInRange : Config → Type 0
IsConfigInRange c = IsNumber c.nodes × IsNumber c.low × IsNumber c.high × IsNumber c.age × IsNumber c.idle × IsNumber c.over × IsNumber c.miss × IsNumber c.cache × IsNumber c.stream

-- all that a report is made of is in range
pub record IsReportInRange (config : Config) (files : List (List ℕ × ℕ)) (recs : List Rec) : Type 0 where
  pub numbers : IsConfigInRange config
  pub paths : All IsFileInRange files
  pub records : All IsRecordInRange recs
