-- What the front end and the nodes keep of a connection until it is answered, by the stage in which it is.
use Rattle.std.specs.Prelude.{◌≡◌, ◌≢◌, ◌<◌, ◌≤◌, ℕ, ◌+◌, true, is_some, List, [], ◌∷◌, length, Option, Some, None}
use Rattle.std.specs.List.{AllByRecursion}
use Rattle.lard_law_view.specs.Prelude.{AreInOrder, BackConn, BackRow, Conn, EndpointParts, Entry, FilesAt, Final, Front, FrontConn, FrontPart, FrontRest, FrontRow, HasTarget, Kept, Node, NodePart, Progress, Stay, ask_kept, ended_kept, fetch_kept, front_rest, named_paths}
use Rattle.lard_base.specs.declared.place.TimerKind.TheVariants as kind
use Rattle.lard_handoff_back.specs.declared.row.BackConn.TheVariants as back
use Rattle.lard_handoff_front.specs.declared.row.FrontConn.TheVariants as stage
use Rattle.lard_message.specs.declared.message.Body.TheVariants as body
use Rattle.lard_rules.specs.declared.stay.Progress.TheVariants as progress
use Rattle.lard_rules.specs.Node.{message}

-- ---- the front end

-- the Offer of connection c to this node in this epoch, after so many responses, and nothing else
abbrev pub IsOffer : ℕ → ℕ → ℕ → ℕ → List Kept → Type 0
IsOffer c n e count ks = (parts : EndpointParts) × (ks ≡ record { kind = kind.Offer; r = 0; to = Node n; bytes = message c e (body.Offer parts) } ∷ []) × (parts.served ≡ count)

-- what was done on it is known
abbrev pub HasRest : Option FrontRest → Type 0
HasRest None = ⊥
HasRest (Some rest) = Unit {0}

-- An Offer is kept exactly while the connection is on its way. What was done is known until it ends, and a path while it waits.
abbrev pub FrontStageKeeps : ℕ → FrontPart → FrontConn → Type 0
FrontStageKeeps c p (stage.Held b) = HasRest p.rest × (p.kept ≡ [])
FrontStageKeeps c p (stage.Waiting b) = HasTarget p.rest × (p.kept ≡ [])
FrontStageKeeps c p stage.Lent = ⊥
FrontStageKeeps c p (stage.Offering n e) = HasRest p.rest × IsOffer c n e.0 (front_rest p.rest).count p.kept
FrontStageKeeps c p (stage.Moved n e) = HasRest p.rest × (p.kept ≡ [])
FrontStageKeeps c p (stage.Closed last) = p.kept ≡ []

abbrev pub FrontRowKeeps : ℕ → FrontPart → Option FrontRow → Type 0
FrontRowKeeps c p None = p.kept ≡ []
FrontRowKeeps c p (Some row) = FrontStageKeeps c p row.stage

abbrev pub FrontKeeps : ℕ → FrontPart → Type 0
FrontKeeps c p = FrontRowKeeps c p p.row

-- ---- a node

-- An Ask for these paths, with this number, which is not 0; and none where there are no paths.
abbrev pub AsksFor : ℕ → ℕ → ℕ → List (List ℕ) → List Kept → Type 0
AsksFor c e number [] ks = ks ≡ []
AsksFor c e number (path ∷ paths) ks = (queue : ℕ) × (size : ℕ) × (ks ≡ ask_kept c e (record { number = number; queue = queue; size = size; paths = path ∷ paths }) ∷ []) × (0 < number)

-- the Fetch of a file, by node n from another one, of which N is so
pub record IsFetchFromOther (N : ℕ → Type 0) (files : FilesAt) (c e n : ℕ) (k : Kept) : Type 0 where
  pub r : ℕ
  pub node : ℕ
  pub path : List ℕ
  pub is : k ≡ fetch_kept c e r node path
  pub file : is_some (files path) ≡ true
  pub other : node ≢ n
  pub there : N node

-- how many requests await a content of another node
abbrev pub awaits_content : Progress → ℕ
awaits_content (progress.Awaited node) = 1
awaits_content _ = 0

abbrev pub contents_awaited : List Entry → ℕ
contents_awaited [] = 0
contents_awaited (e ∷ es) = awaits_content e.progress + contents_awaited es

-- The Ask that is kept names the requests that have no node, and its number is that of the last Ask. The Fetches are of files, stand in
-- the order of their requests, and are no more than contents are awaited. The node did not give the connection back.
pub record StayKeeps (N : ℕ → Type 0) (files : FilesAt) (c e n : ℕ) (p : NodePart) (s : Stay) : Type 0 where
  pub asks : AsksFor c e s.asks (named_paths files s.batch) p.kept
  pub fetches : AllByRecursion (IsFetchFromOther N files c e n) p.fetches
  pub order : AreInOrder p.fetches
  pub few : length p.fetches ≤ contents_awaited s.batch
  pub not_back : p.beside.returned ≡ None

abbrev pub HereKeeps : (ℕ → Type 0) → FilesAt → ℕ → ℕ → ℕ → NodePart → Option Stay → Type 0
HereKeeps N files c e n p None = ⊥
HereKeeps N files c e n p (Some s) = StayKeeps N files c e n p s

-- the Ended of the stay of this epoch, and nothing else
abbrev pub IsEnded : ℕ → ℕ → List Kept → Type 0
IsEnded c e ks = (last : Final) × (count : ℕ) × (ks ≡ ended_kept c e last count ∷ [])

-- its Give, with so many responses, and nothing else
abbrev pub IsGive : ℕ → ℕ → ℕ → List Kept → Type 0
IsGive c e served ks = (parts : EndpointParts) × (ks ≡ record { kind = kind.Give; r = 0; to = Front; bytes = message c e (body.Give parts) } ∷ []) × (parts.served ≡ served)

-- what tells that the stay is over: its Give where the node gave it back, else its Ended
abbrev pub TellsOver : ℕ → ℕ → Option ℕ → List Kept → Type 0
TellsOver c e None ks = IsEnded c e ks
TellsOver c e (Some served) ks = IsGive c e served ks

abbrev pub NodeStageKeeps : (ℕ → Type 0) → FilesAt → ℕ → ℕ → ℕ → NodePart → BackConn → Type 0
NodeStageKeeps N files c e n p (back.Here b) = HereKeeps N files c e n p p.stay
NodeStageKeeps N files c e n p back.Out = ⊥
NodeStageKeeps N files c e n p back.Ended = TellsOver c e p.beside.returned p.kept × (p.fetches ≡ [])
NodeStageKeeps N files c e n p back.Gone = (p.kept ≡ []) × (p.fetches ≡ [])

abbrev pub NodeRowKeeps : (ℕ → Type 0) → FilesAt → ℕ → ℕ → NodePart → Option BackRow → Type 0
NodeRowKeeps N files c n p None = (p.kept ≡ []) × (p.fetches ≡ [])
NodeRowKeeps N files c n p (Some row) = NodeStageKeeps N files c row.epoch.0 n p row.stage

abbrev pub NodeKeepsMessages : (ℕ → Type 0) → FilesAt → ℕ → ℕ → NodePart → Type 0
NodeKeepsMessages N files c n p = NodeRowKeeps N files c n p p.row

-- ---- one connection

pub record IsKeptByStage (N : ℕ → Type 0) (files : FilesAt) (x : Conn) : Type 0 where
  pub front : FrontKeeps x.c x.part.front
  pub nodes : (n : ℕ) → NodeKeepsMessages N files x.c n (x.part.nodes n)
