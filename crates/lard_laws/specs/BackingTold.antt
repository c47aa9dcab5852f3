-- What tells a node where a request is assigned, in words of the journal: that it takes the connection, and the Tag of the Ask that names
-- the request.
use Rattle.std.specs.Prelude.{◌≡◌, ℕ, ◌-◌, List, ◌∷◌, ◌++◌, length, take, Option, Some, None, Ok}
use Rattle.lard_law_view.specs.Prelude.{Came, FilesAt, Front, Has, Node, Rec, assigned, decoded_message, own, verdicts}
use Rattle.lard_laws.specs.Asks.{ask_tale}
use Rattle.lard_laws.specs.WaysBefore.{SawBehind}
use Rattle.lard_laws.specs.Ways.{good_paths}
use Rattle.lard_journal.specs.declared.rec.Rec.TheVariants as rec
use Rattle.lard_message.specs.declared.message.Body.TheVariants as body

-- ---- the assignment of a request

-- The record assigns a request of connection c, for this path and to this node, for this Ask: the first assignment for none, since it is
-- made with the connection, and a later one for that which the front end answered last, told by its number.
abbrev pub AssignsFor : List Rec → ℕ → List ℕ → ℕ → Option ℕ → Rec → Type 0
AssignsFor past c path node ask (rec.AssignedFirst d r p n add remove) = (d ≡ c) × (p ≡ path) × (n ≡ node) × (ask ≡ None)
AssignsFor past c path node ask (rec.AssignedLater d r p n add size queue) = (d ≡ c) × (p ≡ path) × (n ≡ node) × (ask ≡ Some (ask_tale c (own c past)).done.last)
AssignsFor past c path node ask _ = ⊥

-- how many requests for files stand before request r of all that a client wrote
abbrev pub files_before : FilesAt → List ℕ → ℕ → ℕ
files_before files wrote r = length (good_paths files (take (r - 1) (verdicts wrote)))

-- Request r of connection c was assigned so: before the record that assigns it stand as many assignments of the connection as there are
-- requests for files before it.
pub record WasAssigned (files : FilesAt) (wrote : List ℕ) (past : List Rec) (c r : ℕ) (path : List ℕ) (node : ℕ) (ask : Option ℕ) : Type 0 where
  pub before : List Rec
  pub its : Rec
  pub behind : List Rec
  pub split : past ≡ before ++ its ∷ behind
  pub assigns : AssignsFor before c path node ask its
  pub place : length (assigned before c) ≡ files_before files wrote r

-- ---- what a node is told

-- A Tag with this number came to node n, behind the record that the node took the connection in the epoch of the Tag.
pub record TagHasCome (past : List Rec) (n c epoch number : ℕ) : Type 0 where
  pub nodes : List ℕ
  pub bytes : List ℕ
  pub came : SawBehind (own c past) n c epoch (Came (record { from = Front; to = Node n; bytes = bytes }))
  pub reads : decoded_message bytes ≡ Ok (record { c = c; epoch = record { 0 = epoch }; body = body.Tag number nodes })

-- Node n was told where a request is assigned: of the first one it is told as it takes the connection, and of one that an Ask names by the
-- Tag with the number of that Ask, which comes to it behind that.
abbrev pub WasTold : List Rec → ℕ → ℕ → ℕ → Option ℕ → Type 0
WasTold past n c epoch None = Has (rec.Took (Node n) c (record { 0 = epoch })) past
WasTold past n c epoch (Some number) = TagHasCome past n c epoch number
