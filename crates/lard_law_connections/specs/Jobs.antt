-- What a node reads for the requests of a batch, and the jobs of its disk.
use Rattle.std.specs.Prelude.{◌≡◌, ℕ, ◌+◌, true, List, [], ◌∷◌, Option, Some, None}
use Rattle.lard_law_view.specs.Prelude.{BackConn, BackRow, Entry, Has, Job, NodePart, NodeState, Progress, Stay, is_for, node_part}
use Rattle.lard_handoff_back.specs.declared.row.BackConn.TheVariants as back
use Rattle.lard_rules.specs.declared.stay.Progress.TheVariants as progress

-- one of these jobs reads for request r of connection c, which node n serves in that epoch
abbrev pub HasJob : ℕ → ℕ → List Job → ℕ → ℕ → Type 0
HasJob n c disk epoch r = (job : Job) × Has job disk × (job.origin ≡ n) × (is_for c epoch r job ≡ true)

-- Q is so of the number of each request of a batch that is read, the first with number r
abbrev pub ReadsBy : (ℕ → Type 0) → ℕ → Progress → Type 0
ReadsBy Q r progress.Reading = Q r
ReadsBy Q r _ = Unit {0}

abbrev pub BatchReads : (ℕ → Type 0) → ℕ → List Entry → Type 0
BatchReads Q r [] = Unit {0}
BatchReads Q r (e ∷ es) = ReadsBy Q r e.progress × BatchReads Q (r + 1) es

abbrev pub StayReads : (ℕ → Type 0) → Option Stay → Type 0
StayReads Q None = Unit {0}
StayReads Q (Some s) = BatchReads Q (s.served + 1) s.batch

abbrev pub StageReads : (ℕ → Type 0) → Option Stay → BackConn → Type 0
StageReads Q stay (back.Here b) = StayReads Q stay
StageReads Q stay _ = Unit {0}

-- Q, of an epoch and a number, is so of each request that is read for the connection where it is here
abbrev pub RowReads : (ℕ → ℕ → Type 0) → Option Stay → Option BackRow → Type 0
RowReads Q stay None = Unit {0}
RowReads Q stay (Some row) = StageReads (Q row.epoch.0) stay row.stage

-- what node n keeps of connection c, with these jobs
abbrev pub PartReads : ℕ → ℕ → List Job → NodePart → Type 0
PartReads n c disk p = RowReads (HasJob n c disk) p.stay p.row

-- a node reads nothing that is no job of its disk
abbrev pub NodeReads : ℕ → NodeState → Type 0
NodeReads n s = (c : ℕ) → PartReads n c s.disk (node_part s c)
