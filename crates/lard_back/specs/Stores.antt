-- What a node's cache and disk are told, as the code has it.
use Rattle.std.specs.Prelude.{ℕ, List, [], ◌∷◌, ◌++◌}
use Rattle.lard_back.specs.declared.hand.At.{At}
use Rattle.lard_disk.specs.declared.disk.Job.{Job}
use Rattle.lard_journal.specs.declared.rec.Rec.{Rec}
use Rattle.lard_journal.specs.declared.rec.Rec.TheVariants as rec
use Rattle.lard_rules.specs.declared.node.NodeState.{NodeState}
use Rattle.lard_rules.specs.declared.node.NodeTurn.{NodeTurn}
use Rattle.lard_rules.specs.Node.{node_saying}
use Rattle.lard_rules.specs.NodePlace.{hits}

-- the cache is told these notes, and the disk is given these jobs
abbrev pub stores_told_of : NodeState → List Rec → List Job → NodeState
stores_told_of s notes jobs = record s { cache = hits notes s.cache; disk = s.disk ++ jobs }

-- a job is queued for another node's request
abbrev pub read_turn : At → ℕ → ℕ → List ℕ → NodeTurn
read_turn at from r path = record (node_saying []) {
  notes = rec.Queued at.n from at.c r path ∷ [];
  jobs = record { origin = from; c = at.c; epoch = at.epoch; r = r; path = path } ∷ [];
}
