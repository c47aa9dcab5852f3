-- What is found in a finite map after a number was set to a value or to none.
use Rattle.std.proofs.Common.{◌≡◌, ℕ, Bool, true, false, cond, is_some, Option, refl, ap, ◌∙◌, nat_eq, arith}
use Rattle.std.specs.Ordering.{nat_cmp, eq_by_cmp}
use Rattle.std.specs.FinMap as map
use Rattle.std.specs.FinMap.{FinMap}
use Rattle.std.proofs.lemmas.Bool.Decides.{nat_tests}
use Rattle.lard_table.specs.Table.{put_or}
use Rattle.lard_table.proofs.Map.{get_put}

pub same_test : (k q : ℕ) → eq_by_cmp nat_cmp q k ≡ nat_eq k q
same_test k q = grind (arith, nat_tests)

-- the number's value is the new one, and each other's is as before
pub found : {X : Type 0} (m : FinMap nat_cmp X) (k q : ℕ) (o : Option X) → map.get (put_or m k o) q ≡ cond (nat_eq k q) o (map.get m q)
found m k q o = get_put m k q o ∙ ap (λ b. cond b o (map.get m q)) (same_test k q)

pub is_some-cond : {X : Type 0} (b : Bool) (o p : Option X) → is_some (cond b o p) ≡ cond b (is_some o) (is_some p)
is_some-cond true o p = refl
is_some-cond false o p = refl

pub has : {X : Type 0} (m : FinMap nat_cmp X) (k q : ℕ) (o : Option X) → is_some (map.get (put_or m k o) q) ≡ cond (nat_eq k q) (is_some o) (is_some (map.get m q))
has m k q o = ap is_some (found m k q o) ∙ is_some-cond (nat_eq k q) o (map.get m q)
