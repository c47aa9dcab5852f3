-- The policies' words, and the hash of a path.
use Rattle.std.specs.Prelude.{ℕ, ◌+◌, ◌*◌, ◌%◌, ◌^◌, List, codes}
use Rattle.std.specs.List.{fold}
use Rattle.lard_lab.specs.declared.policy.Policy.{Policy}
use Rattle.lard_lab.specs.declared.policy.Policy.TheVariants.{Rr, Hash, Lard, LardR}

abbrev pub policy_word : Policy → List ℕ
policy_word Rr = codes "rr"
policy_word Hash = codes "hash"
policy_word Lard = codes "lard"
policy_word LardR = codes "lardr"

-- a hash with one byte more
abbrev pub hash_on : ℕ → ℕ → ℕ
hash_on hash byte = (31 * hash + byte) % (2 ^ 32)

-- the hash of a path: it begins with 0
abbrev pub hash_of : List ℕ → ℕ
hash_of path = fold hash_on 0 path
