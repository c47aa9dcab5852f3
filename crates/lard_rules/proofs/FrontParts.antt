-- One connection's part of the state, over what is put back of it.
use Rattle.std.proofs.Common.{◌≡◌, ℕ, Bool, true, false, [], refl}
use Rattle.lard_base.specs.declared.place.Place.{Place}
use Rattle.lard_base.specs.declared.place.TimerKind.{TimerKind}
use Rattle.lard_rules.specs.declared.front.FrontState.{FrontState}
use Rattle.lard_rules.specs.Front.{FrontPart}
use Rattle.lard_rules.specs.FrontPlace.{front_part, front_put}
use Rattle.lard_resend.proofs.Lists.{found_other, held_put}
use Rattle.lard_resend.specs.Pending.{list_of}
use Rattle.lard_rules.specs.Outs.{kind_change}
use Rattle.lard_table.proofs.Map.{get_put_other, get_put_same}

-- what was put back is found
pub part_put : (s : FrontState) (c : ℕ) (p : FrontPart) → front_part (front_put s c p) c ≡ p
part_put s c p = λ i. record { row = get_put_same s.conns c p.row i; rest = get_put_same s.rests c p.rest i; kept = held_put s.kept c p.kept i }

-- and of other connections what was
pub part_other : (s : FrontState) (c q : ℕ) (p : FrontPart) → (q ≡ c → ⊥) → front_part (front_put s c p) q ≡ front_part s q
part_other s c q p n = λ i. record {
  row = get_put_other s.conns c q p.row n i;
  rest = get_put_other s.rests c q p.rest n i;
  kept = list_of (found_other s.kept c q p.kept n i);
}

-- a timer that did not change has no record
pub unchanged : (p : Place) (c : ℕ) (kind : TimerKind) (b : Bool) → kind_change p c kind b b ≡ []
unchanged p c kind true = refl
unchanged p c kind false = refl
