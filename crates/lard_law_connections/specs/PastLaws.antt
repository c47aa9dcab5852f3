-- Which nodes a connection goes to, and which it left, over every run of the cluster.
use Rattle.std.specs.Prelude.{◌≡◌, ℕ, false, List, [], Ok}
use Rattle.lard_law_view.specs.Prelude.{Config, EachMay, OfEach, Rec, config_check, conn, is_node_closed, is_open}
use Rattle.lard_journal.specs.declared.rec.Rec.TheVariants as rec
use Rattle.lard_law_connections.specs.LineLaws.{AlwaysConfigured}
use Rattle.lard_law_connections.specs.Past.{ClosesBehind, EndsAreOfStays, EpochsAreOfOneNode, GoesToNew}

-- A first assignment is to a node that was not closed.
abbrev pub AssignsOpen : List Rec → Rec → Type 0
AssignsOpen past (rec.AssignedFirst c r path n add remove) = is_node_closed past n ≡ false
AssignsOpen past _ = Unit {0}

abbrev pub FirstsAreOpen : Type 0
FirstsAreOpen = AlwaysConfigured (λ config m. EachMay AssignsOpen [] m.journal)

-- of each connection, in every state
abbrev pub PastIsClosed : Type 0
PastIsClosed = AlwaysConfigured (λ config m. (q : ℕ) → ClosesBehind (λ n. is_open m.front.dispatch.books.loads n ≡ false) (conn m q))

abbrev pub ConnectionsGoToNew : Type 0
ConnectionsGoToNew = AlwaysConfigured (λ config m. (q : ℕ) → GoesToNew (conn m q))

abbrev pub EachEpochIsOfOneNode : Type 0
EachEpochIsOfOneNode = (config : Config) (files : List (List ℕ × List ℕ)) → config_check config ≡ Ok tt → OfEach config files EpochsAreOfOneNode

abbrev pub EachEndIsOfItsStay : Type 0
EachEndIsOfItsStay = (config : Config) (files : List (List ℕ × List ℕ)) → config_check config ≡ Ok tt → OfEach config files EndsAreOfStays
