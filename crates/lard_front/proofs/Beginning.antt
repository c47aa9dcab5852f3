-- A connection that begins.
use Rattle.std.proofs.Common.{◌≡◌, ℕ, false, [], Some, None, refl, ap, ◌∙◌, arith}
use Rattle.std.specs.FinMap as table
use Rattle.std.specs.FinMap.{FinMap}
use Rattle.std.specs.Ordering.{nat_cmp}
use Rattle.lard_endpoint.specs.Control.{ControlBlock, listening}
use Rattle.lard_segment.specs.Segment.{Said}
use Rattle.lard_rules.specs.declared.front.FrontRest.{FrontRest}
use Rattle.lard_rules.specs.declared.front.FrontState.{FrontState}
use Rattle.lard_rules.specs.Front.{FrontPart, holds, front_rest, front_rests, rest_after, turn_here}
use Rattle.lard_rules.specs.FrontPlace.{front_part}
use Rattle.lard_rules.specs.FrontSound.{Serves}
use Rattle.lard_front.specs.Hand.{Holds, deed_turn}
use Rattle.lard_handoff_front.specs.declared.row.FrontConn.TheVariants as stage
use Rattle.lard_handoff_front.specs.declared.row.FrontRow.{FrontRow}
use Rattle.lard_handoff_front.specs.Front.{Fronts, row_begun}
use Rattle.lard_resend.specs.Pending.{held, put_list}
use Rattle.lard_rules.specs.declared.places.Ending.{Ending}
use Rattle.lard_rules.specs.declared.places.Turn.{Turn}
use Rattle.lard_table.proofs.Map.{get_inserted, put_twice}
use Rattle.lard_table.specs.Table.{put_or}

-- before it is held
abbrev pub first_row : FrontRow
first_row = record { stage = stage.Lent; epoch = record { 0 = 1 }; ended_by = None }

-- nothing was done on a connection that listens
pub listens_serve : (syn : Said) (iss : ℕ) → Serves 0 (listening syn iss).recv (listening syn iss).send
listens_serve syn iss = record { asked = omega arith; most = omega arith; sent = omega arith }

module _ (s : FrontState) (c : ℕ) (syn : Said) (iss : ℕ) {m : Fronts} {r : FinMap nat_cmp FrontRest} {k : ℕ} {x : FrontRest}
    (kept : m ≡ table.insert s.conns c (row_begun (listening syn iss))) (put : r ≡ table.insert s.rests k x) (new : x ≡ front_rest None) (number : k ≡ c) where
  abbrev met : FrontState
  met = record s { conns = m; rests = r }

  abbrev b : ControlBlock
  b = listening syn iss

  abbrev first : FrontPart
  first = front_part s c

  set : r ≡ table.insert s.rests c (front_rest None)
  set = put ∙ (λ i. table.insert s.rests (number i) (new i))

  pub found : table.get m c ≡ Some (row_begun b)
  found = ap (λ u. table.get u c) kept ∙ get_inserted s.conns c (row_begun b)

  pub found_rest : table.get r c ≡ Some (front_rest None)
  found_rest = ap (λ u. table.get u c) set ∙ get_inserted s.rests c (front_rest None)

  abbrev pub met_holds : held s.kept c ≡ [] → (table.get s.kept c ≡ Some [] → ⊥) → Holds met c false
  met_holds none some = record {
    row = row_begun b;
    block = b;
    rest = front_rest None;
    found = found;
    stage = refl;
    found_rest = found_rest;
    small = omega arith;
    serves = listens_serve syn iss;
    none_kept = none;
    some_kept = some;
  }

  -- what is held from there on is held from the beginning
  pub met_is : (x : Ending × Turn) → deed_turn met c (holds (front_part met c) (row_begun b) (front_rest (table.get r c)) x) ≡ deed_turn s c (holds first first_row (front_rest None) x)
  met_is x =
      let put = (front_rests first first_row (front_rest None) stage.Held x.0).row in
      let rest = rest_after (front_rest None) x.0 in
      ap (λ o. deed_turn met c (holds (front_part met c) (row_begun b) (front_rest o) x)) found_rest
      ∙ (λ i. (
        record s {
          conns = (ap (λ u. put_or u c put) kept ∙ put_twice s.conns c (Some (row_begun b)) put) i;
          rests = (ap (λ u. put_or u c rest) set ∙ put_twice s.rests c (Some (front_rest None)) rest) i;
          kept = put_list s.kept c (held s.kept c);
        },
        turn_here x.1,
      ))
