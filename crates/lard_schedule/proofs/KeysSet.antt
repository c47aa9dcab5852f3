-- Which keys are set after one more.
use Rattle.std.proofs.Common.{◌≡◌, ◌≢◌, true, refl}
use Rattle.lard_base.specs.declared.config.Key.{Key}
use Rattle.lard_base.specs.declared.config.Key.TheVariants.{Nodes, Low, High, Age, Idle, Over, Miss, Cache, Stream}
use Rattle.lard_schedule.specs.declared.keys.Keys.{Keys}
use Rattle.lard_schedule.specs.Reader.{has_key, with_key}

pub has_set : (keys : Keys) (key : Key) → has_key (with_key keys key) key ≡ true
has_set keys Nodes = refl
has_set keys Low = refl
has_set keys High = refl
has_set keys Age = refl
has_set keys Idle = refl
has_set keys Over = refl
has_set keys Miss = refl
has_set keys Cache = refl
has_set keys Stream = refl

pub has_other : (keys : Keys) (key other : Key) → other ≢ key → has_key (with_key keys key) other ≡ has_key keys other
has_other keys Nodes Nodes ne = absurd (ne refl)
has_other keys Nodes other ne = refl
has_other keys Low Low ne = absurd (ne refl)
has_other keys Low other ne = refl
has_other keys High High ne = absurd (ne refl)
has_other keys High other ne = refl
has_other keys Age Age ne = absurd (ne refl)
has_other keys Age other ne = refl
has_other keys Idle Idle ne = absurd (ne refl)
has_other keys Idle other ne = refl
has_other keys Over Over ne = absurd (ne refl)
has_other keys Over other ne = refl
has_other keys Miss Miss ne = absurd (ne refl)
has_other keys Miss other ne = refl
has_other keys Cache Cache ne = absurd (ne refl)
has_other keys Cache other ne = refl
has_other keys Stream Stream ne = absurd (ne refl)
has_other keys Stream other ne = refl
