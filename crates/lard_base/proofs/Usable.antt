-- What the check of a configuration tells of its numbers: the nodes and the stream limit are few.
use Rattle.std.proofs.Common.{◌≡◌, ◌≤◌, ◌^◌, List, [], ◌∷◌, Bool, true, false, cond, Ok, Err, refl}
use Rattle.lard_base.proofs.Ranges.{within}
use Rattle.lard_base.specs.Config.{checked_from, config_check, is_in_range, value_of}
use Rattle.lard_base.specs.declared.config.Config.{Config}
use Rattle.lard_base.specs.declared.config.ConfigFault.TheVariants.{Range}
use Rattle.lard_base.specs.declared.config.Key.{Key}
use Rattle.lard_base.specs.declared.config.Key.TheVariants.{Nodes, Low, High, Age, Idle, Over, Miss, Cache, Stream}

-- the number of one key, and the keys behind it
key-checked : (c : Config) (key : Key) (keys : List Key) → checked_from c (key ∷ keys) ≡ Ok tt → (is_in_range key (value_of c key) ≡ true) × (checked_from c keys ≡ Ok tt)
key-checked c key keys e = go (is_in_range key (value_of c key)) refl e where
  go : (b : Bool) → is_in_range key (value_of c key) ≡ b → cond b (checked_from c keys) (Err (Range key (value_of c key))) ≡ Ok tt → (is_in_range key (value_of c key) ≡ true) × (checked_from c keys ≡ Ok tt)
  go true t h = (t, h)
  go false t h = cc

pub record IsUsable (c : Config) : Type 0 where
  pub nodes : c.nodes ≤ 64
  pub stream : c.stream ≤ 2 ^ 30

pub usable : (c : Config) → config_check c ≡ Ok tt → IsUsable c
usable c e =
    let first = key-checked c Nodes (Low ∷ High ∷ Age ∷ Idle ∷ Over ∷ Miss ∷ Cache ∷ Stream ∷ []) e in
    let second = key-checked c Low (High ∷ Age ∷ Idle ∷ Over ∷ Miss ∷ Cache ∷ Stream ∷ []) first.1 in
    let third = key-checked c High (Age ∷ Idle ∷ Over ∷ Miss ∷ Cache ∷ Stream ∷ []) second.1 in
    let fourth = key-checked c Age (Idle ∷ Over ∷ Miss ∷ Cache ∷ Stream ∷ []) third.1 in
    let fifth = key-checked c Idle (Over ∷ Miss ∷ Cache ∷ Stream ∷ []) fourth.1 in
    let sixth = key-checked c Over (Miss ∷ Cache ∷ Stream ∷ []) fifth.1 in
    let seventh = key-checked c Miss (Cache ∷ Stream ∷ []) sixth.1 in
    let eighth = key-checked c Cache (Stream ∷ []) seventh.1 in
    let ninth = key-checked c Stream [] eighth.1 in
    record { nodes = (within 1 64 c.nodes first.0).1; stream = (within 1 (2 ^ 30) c.stream ninth.0).1 }
