-- What a node asked for and has not got, of one connection between any two steps: it was sent, and no answer to it came behind that.
use Rattle.std.specs.Prelude.{◌≡◌, ℕ, List, [], ◌∷◌, Option, Some, None, Ok}
use Rattle.std.specs.List.{AllByRecursion}
use Rattle.lard_law_view.specs.Prelude.{BackConn, BackRow, Config, Conn, FilesAt, Kept, NodePart, OfEach, Seen, Stay, config_check, fetch_kept, file_at, named_paths}
use Rattle.lard_handoff_back.specs.declared.row.BackConn.TheVariants as back
use Rattle.lard_laws.specs.Due.{AskIsOut, FetchIsOut}

-- where requests have no node, the last Ask is for these
abbrev pub NamesAreOut : List Seen → ℕ → ℕ → ℕ → ℕ → List (List ℕ) → Type 0
NamesAreOut seen n c e number [] = Unit {0}
NamesAreOut seen n c e number (path ∷ paths) = AskIsOut seen n c e number (path ∷ paths)

abbrev pub FetchKeptIsOut : List Seen → ℕ → ℕ → ℕ → Kept → Type 0
FetchKeptIsOut seen n c e k = (r : ℕ) × (node : ℕ) × (path : List ℕ) × (k ≡ fetch_kept c e r node path) × FetchIsOut seen n c e r node path

-- of the stay of epoch e at node n
pub record StayIsOut (files : FilesAt) (seen : List Seen) (n c e : ℕ) (fetches : List Kept) (s : Stay) : Type 0 where
  pub asks : NamesAreOut seen n c e s.asks (named_paths files s.batch)
  pub fetched : AllByRecursion (FetchKeptIsOut seen n c e) fetches

abbrev pub HereIsOut : FilesAt → List Seen → ℕ → ℕ → ℕ → List Kept → Option Stay → Type 0
HereIsOut files seen n c e fetches None = Unit {0}
HereIsOut files seen n c e fetches (Some s) = StayIsOut files seen n c e fetches s

abbrev pub StageIsOut : FilesAt → List Seen → ℕ → ℕ → ℕ → NodePart → BackConn → Type 0
StageIsOut files seen n c e p (back.Here b) = HereIsOut files seen n c e p.fetches p.stay
StageIsOut files seen n c e p _ = Unit {0}

abbrev pub RowIsOut : FilesAt → List Seen → ℕ → ℕ → NodePart → Option BackRow → Type 0
RowIsOut files seen n c p None = Unit {0}
RowIsOut files seen n c p (Some row) = StageIsOut files seen n c row.epoch.0 p row.stage

abbrev pub PartIsOut : FilesAt → List Seen → ℕ → ℕ → NodePart → Type 0
PartIsOut files seen n c p = RowIsOut files seen n c p p.row

-- at each node
abbrev pub AwaitsAnswers : FilesAt → Conn → Type 0
AwaitsAnswers files x = (n : ℕ) → PartIsOut files x.seen n x.c (x.part.nodes n)

-- Of each connection, in every state: what its nodes asked for was sent, and has not come.
abbrev pub ConnectionsAwaitAnswers : Type 0
ConnectionsAwaitAnswers = (config : Config) (files : List (List ℕ × List ℕ)) → config_check config ≡ Ok tt → OfEach config files (AwaitsAnswers (file_at files))
