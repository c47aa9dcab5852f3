-- What the last Tag of a connection names.
use Rattle.std.specs.Prelude.{◌≡◌, ◌⊎◌, ℕ, true, [], length, Some}
use Rattle.lard_law_view.specs.Prelude.{Conn, ControlBlock, FilesAt, FrontPart, FrontRest, NodePart, Stay, is_row_at, named_paths}
use Rattle.lard_handoff_back.specs.declared.row.BackConn.TheVariants as back
use Rattle.lard_history.proofs.Each.{Each}

-- N is so of each node that is named
abbrev pub TagsAre : (ℕ → Type 0) → FrontPart → Type 0
TagsAre N f = (r : FrontRest) → f.rest ≡ Some r → Each N r.tag

-- Where the last Ask of the stay was answered, as many nodes are named as requests wait for one, if any waits.
abbrev pub IsTagged : FilesAt → FrontRest → Stay → Type 0
IsTagged files r s = s.asks ≡ r.asks → (named_paths files s.batch ≡ []) ⊎ (length r.tag ≡ length (named_paths files s.batch))

-- so it is while the connection is with this node
abbrev pub FitsAt : FilesAt → FrontPart → ℕ → NodePart → Type 0
FitsAt files f n p = (e : ℕ) (b : ControlBlock) (s : Stay) (r : FrontRest) → is_row_at n e f.row ≡ true → p.row ≡ Some (record { stage = back.Here b; epoch = record { 0 = e } }) → p.stay ≡ Some s → f.rest ≡ Some r → IsTagged files r s

pub record NamesNodes (N : ℕ → Type 0) (files : FilesAt) (x : Conn) : Type 0 where
  pub nodes : TagsAre N x.part.front
  pub fits : (n : ℕ) → FitsAt files x.part.front n (x.part.nodes n)
