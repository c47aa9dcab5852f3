-- What a node awaits for the requests of a batch it asked for, and asks for again until that comes.
use Rattle.std.specs.Prelude.{◌≡◌, ℕ, ◌+◌, List, [], ◌∷◌, Option, Some, None}
use Rattle.std.specs.List.{find}
use Rattle.lard_law_view.specs.Prelude.{BackConn, BackRow, Conn, Entry, FilesAt, Kept, Node, NodePart, Progress, Stay, Verdict, good_path, is_under}
use Rattle.lard_base.specs.declared.place.TimerKind.TheVariants as kind
use Rattle.lard_handoff_back.specs.declared.row.BackConn.TheVariants as back
use Rattle.lard_rules.specs.declared.stay.Progress.TheVariants as progress

-- an Ask is kept
abbrev pub AskKept : List Kept → Type 0
AskKept ks = (k : Kept) × (find (is_under kind.Ask 0) ks ≡ Some k)

-- a Fetch of request r is kept, to this node
abbrev pub FetchKept : ℕ → ℕ → List Kept → Type 0
FetchKept r node ks = (k : Kept) × (find (is_under kind.Fetch r) ks ≡ Some k) × (k.to ≡ Node node)

-- A request that has no node yet is for a file, and an Ask is kept; the Fetch of one whose content is to come is kept.
abbrev pub IsToCome : FilesAt → List Kept → List Kept → ℕ → Verdict → Progress → Type 0
IsToCome files kept fetches r v progress.Named = AskKept kept × (good_path files v ≡ None → ⊥)
IsToCome files kept fetches r v (progress.Awaited node) = FetchKept r node fetches
IsToCome files kept fetches r v progress.Reading = Unit {0}
IsToCome files kept fetches r v (progress.Ready way) = Unit {0}

-- so it is of each request of a batch, the first with number r
abbrev pub BatchComes : FilesAt → List Kept → List Kept → ℕ → List Entry → Type 0
BatchComes files kept fetches r [] = Unit {0}
BatchComes files kept fetches r (e ∷ es) = IsToCome files kept fetches r e.verdict e.progress × BatchComes files kept fetches (r + 1) es

abbrev pub StayComes : FilesAt → NodePart → Option Stay → Type 0
StayComes files p None = Unit {0}
StayComes files p (Some s) = BatchComes files p.kept p.fetches (s.served + 1) s.batch

abbrev pub StageComes : FilesAt → NodePart → BackConn → Type 0
StageComes files p (back.Here b) = StayComes files p p.stay
StageComes files p _ = Unit {0}

abbrev pub RowComes : FilesAt → NodePart → Option BackRow → Type 0
RowComes files p None = Unit {0}
RowComes files p (Some row) = StageComes files p row.stage

abbrev pub NodeComes : FilesAt → NodePart → Type 0
NodeComes files p = RowComes files p p.row

-- at each node
abbrev pub AwaitsWhatItAsked : FilesAt → Conn → Type 0
AwaitsWhatItAsked files x = (n : ℕ) → NodeComes files (x.part.nodes n)
