-- The ranges of the configuration's numbers, and what makes a configuration fit for use.
use Rattle.std.specs.Prelude.{ℕ, ◌+◌, ◌-◌, ◌*◌, ◌^◌, Bool, ◌&&◌, IsTrue, nat_le, nat_lt, nat_eq, if◌then◌else◌, List, [], ◌∷◌, Result, Ok, Err}
use Rattle.lard_base.specs.declared.config.Config.{Config}
use Rattle.lard_base.specs.declared.config.Key.{Key}
use Rattle.lard_base.specs.declared.config.Key.TheVariants.{Nodes, Low, High, Age, Idle, Over, Miss, Cache, Stream}
use Rattle.lard_base.specs.declared.limits.TheConstants.{MAX_STREAM_BYTES}
use Rattle.lard_base.specs.declared.config.ConfigFault.{ConfigFault}
use Rattle.lard_base.specs.declared.config.ConfigFault.TheVariants.{Range, LowHigh, NoRoom}

-- the numbers that a run has where its schedule sets none
abbrev pub standard : Config
standard = record { nodes = 2; low = 25; high = 65; age = 20000; idle = 25; over = 130; miss = 50; cache = 1048576; stream = MAX_STREAM_BYTES }

-- the least and the greatest value of a key
abbrev pub range_of : Key → ℕ × ℕ
range_of Nodes = (1, 64)
range_of Low = (1, 1000)
range_of High = (1, 1000)
range_of Age = (0, 2 ^ 32 - 1)
range_of Idle = (0, 1000000)
range_of Over = (0, 1000000)
range_of Miss = (0, 1000000)
range_of Cache = (1, 2 ^ 30)
range_of Stream = (1, MAX_STREAM_BYTES)

abbrev pub is_in_range : Key → ℕ → Bool
is_in_range key value = nat_le (range_of key).0 value && nat_le value (range_of key).1

-- what a value answers for a key: a fault with both exactly where it is out of the key's range
abbrev pub range_check : Key → ℕ → Result (Unit {0}) ConfigFault
range_check key value = if is_in_range key value then Ok tt else Err (Range key value)

-- the number of a key
abbrev pub value_of : Config → Key → ℕ
value_of c Nodes = c.nodes
value_of c Low = c.low
value_of c High = c.high
value_of c Age = c.age
value_of c Idle = c.idle
value_of c Over = c.over
value_of c Miss = c.miss
value_of c Cache = c.cache
value_of c Stream = c.stream

-- every number is in its range
abbrev pub AreKeysInRange : Config → Type 0
AreKeysInRange c = (key : Key) → IsTrue (is_in_range key (value_of c key))

-- a configuration with one number changed
abbrev pub set_key : Config → Key → ℕ → Config
set_key c Nodes value = record c { nodes = value }
set_key c Low value = record c { low = value }
set_key c High value = record c { high = value }
set_key c Age value = record c { age = value }
set_key c Idle value = record c { idle = value }
set_key c Over value = record c { over = value }
set_key c Miss value = record c { miss = value }
set_key c Cache value = record c { cache = value }
set_key c Stream value = record c { stream = value }

-- a configuration after an attempt to set a number: one out of its range changes nothing
abbrev pub after_set : Config → Key → ℕ → Config
after_set c key value = if is_in_range key value then set_key c key value else c

-- how many connections are admitted at a time
abbrev pub room_of : Config → ℕ
room_of c = (c.nodes - 1) * c.high + c.low - 1

-- the keys in their order
abbrev pub all_keys : List Key
all_keys = Nodes ∷ Low ∷ High ∷ Age ∷ Idle ∷ Over ∷ Miss ∷ Cache ∷ Stream ∷ []

-- the first of these keys whose number is out of its range; else low above high; else no room
abbrev pub checked_from : Config → List Key → Result (Unit {0}) ConfigFault
checked_from c [] = if nat_lt c.high c.low then Err (LowHigh c.low c.high) else if nat_eq (room_of c) 0 then Err NoRoom else Ok tt
checked_from c (key ∷ keys) = if is_in_range key (value_of c key) then checked_from c keys else Err (Range key (value_of c key))

-- whether a configuration can be used
abbrev pub config_check : Config → Result (Unit {0}) ConfigFault
config_check c = checked_from c all_keys
