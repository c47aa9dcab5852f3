-- What it is to refuse a journal, and the cluster and the files that all journals here are of.
use Rattle.std.specs.Prelude.{◌≡◌, ℕ, List, [], ◌∷◌, Ok, codes}
use Rattle.lard_law_view.specs.Prelude.{Config, FilesAt, Place, Rec, config_check, file_at}
use Rattle.lard_laws.specs.Lawful.{IsLawful}
use Rattle.lard_journal.specs.declared.rec.Rec.TheVariants as rec

-- ---- laws

-- A law of the journals of a cluster that serves such files.
abbrev pub Law : Type 1
Law = Config → FilesAt → List Rec → Type 0

-- Every lawful journal obeys it.
abbrev pub IsLawOfAll : Law → Type 0
IsLawOfAll law = (config : Config) (files : FilesAt) (J : List Rec) → IsLawful config files J → law config files J

-- Three nodes, with room for two connections. A node's cache holds three bytes, and a connection may have a hundred.
abbrev pub three_nodes : Config
three_nodes = record { nodes = 3; low = 1; high = 1; age = 1000; idle = 1; over = 2; miss = 1; cache = 3; stream = 100 }

-- Such numbers may be used.
abbrev pub MayBeUsed : Type 0
MayBeUsed = config_check three_nodes ≡ Ok tt

-- Two files of two bytes each.
abbrev pub two_files : FilesAt
two_files = file_at ((codes "/a", codes "hi") ∷ (codes "/b", codes "ho") ∷ [])

-- The law refuses this journal of that cluster.
abbrev pub Refuses : Law → List Rec → Type 0
Refuses law J = law three_nodes two_files J → ⊥

-- It lets this one through.
abbrev pub Allows : Law → List Rec → Type 0
Allows law J = law three_nodes two_files J

-- ---- short words for records

abbrev pub took : Place → ℕ → ℕ → Rec
took place c epoch = rec.Took place c (record { 0 = epoch })

abbrev pub gave : Place → ℕ → ℕ → Rec
gave place c epoch = rec.Gave place c (record { 0 = epoch })
