-- Loads from the list of all calls: what each call charges a node, until another call takes it back.
use Rattle.std.specs.Prelude.{◌≡◌, ℕ, ◌+◌, ◌*◌, ◌/◌, ◌≤◌, Bool, true, false, not, ◌&&◌, nat_eq, if◌then◌else◌, List, [], ◌∷◌, ◌++◌, sum_by, count_by, None, is_some}
use Rattle.std.specs.FinMap as map
use Rattle.std.specs.List.{filter, list_any}
use Rattle.lard_loads.specs.Tally.{Tally, admitted, batch_ended, connected, load, numbers, released, shared, tally_start}

-- the calls that count, with the number of the connection, that of the node, and the size of the batch
pub data LoadCall : Type 0 where
  Connect : ℕ → ℕ → LoadCall
  Release : ℕ → LoadCall
  Share : ℕ → ℕ → ℕ → LoadCall
  BatchOver : ℕ → LoadCall

pub record Charge : Type 0 where
  pub c : ℕ
  pub node : ℕ
  pub units : ℕ
  pub share : Bool

abbrev pub is_charge_of : ℕ → Charge → Bool
is_charge_of c x = nat_eq x.c c

abbrev pub is_share_of : ℕ → Charge → Bool
is_share_of c x = is_charge_of c x && x.share

-- the charge that a connection came with is at this node
abbrev pub is_home : List Charge → ℕ → ℕ → Bool
is_home xs c n = list_any (λ x. is_charge_of c x && (not x.share && nat_eq x.node n)) xs

-- the open charges after one more call
abbrev pub charged : List Charge → LoadCall → List Charge
charged xs (Connect c n) = xs ++ record { c = c; node = n; units = 840; share = false } ∷ []
charged xs (Release c) = filter (λ x. not (is_charge_of c x)) xs
charged xs (Share c n size) = if is_home xs c n then xs else xs ++ record { c = c; node = n; units = 840 / size; share = true } ∷ []
charged xs (BatchOver c) = filter (λ x. not (is_share_of c x)) xs

-- the open charges after these calls, in the order of the calls
abbrev pub charges_from : List Charge → List LoadCall → List Charge
charges_from xs [] = xs
charges_from xs (call ∷ calls) = charges_from (charged xs call) calls

abbrev pub units_at : ℕ → Charge → ℕ
units_at n x = if nat_eq x.node n then x.units else 0

-- ---- the same calls on a tally

abbrev pub tally_after : Tally → LoadCall → Tally
tally_after t (Connect c n) = connected t c n
tally_after t (Release c) = released t c
tally_after t (Share c n size) = shared t c n size
tally_after t (BatchOver c) = batch_ended t c

abbrev pub tally_after_all : Tally → List LoadCall → Tally
tally_after_all t [] = t
tally_after_all t (call ∷ calls) = tally_after_all (tally_after t call) calls

-- the number is that of a connection
abbrev pub IsConnection : ℕ → Type 0
IsConnection c = (1 ≤ c) × (c ≤ 16384)

-- the conditions of a call
abbrev pub MayCall : Tally → LoadCall → Type 0
MayCall t (Connect c n) = IsConnection c × (map.get t.standings c ≡ None) × (1 ≤ n) × (n ≤ t.nodes)
MayCall t (Release c) = IsConnection c × (is_some (map.get t.standings c) ≡ true)
MayCall t (Share c n size) = IsConnection c × (is_some (map.get t.standings c) ≡ true) × (1 ≤ n) × (n ≤ t.nodes)
MayCall t (BatchOver c) = IsConnection c × (is_some (map.get t.standings c) ≡ true)

abbrev pub MayCallAll : Tally → List LoadCall → Type 0
MayCallAll t [] = Unit {0}
MayCallAll t (call ∷ calls) = MayCall t call × MayCallAll (tally_after t call) calls

-- ---- laws

-- a node's load is what the open charges of all calls add up to
abbrev pub TallyIsCharges : Type 0
TallyIsCharges = (nodes : ℕ) (calls : List LoadCall) → MayCallAll (tally_start nodes) calls → (n : ℕ) → load (tally_after_all (tally_start nodes) calls) n ≡ sum_by (units_at n) (charges_from [] calls)

-- as many are admitted as charges stand that are no shares
abbrev pub AdmittedAreCharges : Type 0
AdmittedAreCharges = (nodes : ℕ) (calls : List LoadCall) → MayCallAll (tally_start nodes) calls → admitted (tally_after_all (tally_start nodes) calls) ≡ count_by (λ x. not x.share) (charges_from [] calls)

-- all loads together are 840 for each admitted connection, and the units of the open shares
abbrev pub TallyAddsUp : Type 0
TallyAddsUp = (nodes : ℕ) (calls : List LoadCall) → MayCallAll (tally_start nodes) calls
    → sum_by (load (tally_after_all (tally_start nodes) calls)) (numbers nodes) ≡ 840 * admitted (tally_after_all (tally_start nodes) calls) + sum_by (λ x. if x.share then x.units else 0) (charges_from [] calls)
