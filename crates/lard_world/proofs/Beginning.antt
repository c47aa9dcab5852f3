-- Before anything has happened the places are as they are to be.
use Rattle.std.proofs.Common.{◌≡◌, ℕ, ◌+◌, ◌≤◌, ◌&&◌, nat_le, Bool, true, false, cond, suc, zero, List, [], ◌∷◌, ◌++◌, replicate, Some, None, Result, Ok, Err, refl, sym, ◌∙◌, subst, arith, ◌^◌}
use Rattle.std.specs.FinMap as table
use Rattle.std.specs.FinMap.{get-empty}
use Rattle.std.specs.List.{AllByRecursion}
use Rattle.std.specs.Ordering.{nat_cmp}
use Rattle.std.proofs.lemmas.List.{length-replicate, replicate-append-replicate}
use Rattle.std.proofs.lemmas.Bool.Decides.{nat_tests}
use Rattle.lard_back.specs.Sound.{IsAtRest, IsNodeSound}
use Rattle.lard_base.specs.Config.{all_keys, checked_from, config_check, is_in_range, value_of}
use Rattle.lard_base.specs.declared.config.Config.{Config}
use Rattle.lard_base.specs.declared.config.ConfigFault.{ConfigFault}
use Rattle.lard_base.specs.declared.config.ConfigFault.TheVariants.{Range}
use Rattle.lard_base.specs.declared.config.Key.{Key}
use Rattle.lard_rules.specs.Machine.{machine_start}
use Rattle.lard_rules.specs.declared.machine.Machine.{Machine}
use Rattle.lard_world.specs.Runs.{IsRun}
use Rattle.lard_stepping.specs.Sound.{IsNodeFit, IsSet}
use Rattle.lard_dispatch.specs.Sound.{AreBefore}
use Rattle.lard_rules.specs.FrontPlace.{no_connections}
use Rattle.lard_rules.specs.FrontSound.{IsFrontSound}
use Rattle.lard_rules.specs.NodePlace.{no_stays}
use Rattle.lard_settling.proofs.Written.{written}

fresh : (limit : ℕ) → IsNodeSound (no_stays limit)
fresh limit = record {
  stays = λ c. subst (λ row. IsAtRest row (table.get (no_stays limit).stays c)) (sym (get-empty nat_cmp c)) (subst (IsAtRest None) (sym (get-empty nat_cmp c)) tt);
  kept = λ c h. let no : None ≡ Some [] = sym (get-empty nat_cmp c) ∙ h in absurd cc;
  fetches = λ c h. let no : None ≡ Some [] = sym (get-empty nat_cmp c) ∙ h in absurd cc;
}

all-fresh : (limit n : ℕ) → AllByRecursion (IsNodeFit 0) (replicate n (no_stays limit))
all-fresh limit zero = tt
all-fresh limit (suc n) = (record { sound = fresh limit; jobs = omega arith }, all-fresh limit n)

pub one-more : (limit n : ℕ) → replicate n (no_stays limit) ++ no_stays limit ∷ [] ≡ replicate (n + 1) (no_stays limit)
one-more limit n = replicate-append-replicate n 1 (no_stays limit)

-- ---- a configuration that passed its check

-- each of the keys is in its range
passed : (c : Config) (keys : List Key) → checked_from c keys ≡ Ok tt → AllByRecursion (λ key. is_in_range key (value_of c key) ≡ true) keys
passed c [] h = tt
passed c (key ∷ keys) h = go (is_in_range key (value_of c key)) refl (passed c keys) h where
  go : (b : Bool) → is_in_range key (value_of c key) ≡ b → (checked_from c keys ≡ Ok tt → AllByRecursion (λ key. is_in_range key (value_of c key) ≡ true) keys)
      → cond {A = Result (Unit {0}) ConfigFault} b (checked_from c keys) (Err (Range key (value_of c key))) ≡ Ok tt
      → AllByRecursion (λ key. is_in_range key (value_of c key) ≡ true) (key ∷ keys)
  go true t rest k = (t, rest k)
  go false t rest k = cc

at_most : (least most value : ℕ) → (nat_le least value && nat_le value most) ≡ true → value ≤ most
at_most least most value h = grind (arith, nat_tests, h)

set-small : (c : Config) → config_check c ≡ Ok tt → IsSet c
set-small c usable =
    let each = passed c all_keys usable in
    record { usable = usable; stream = at_most 1 (2 ^ 30) c.stream each.1.1.1.1.1.1.1.1.0; nodes = at_most 1 64 c.nodes each.0 }

-- ---- the whole

pub begins : (config : Config) (files : List (List ℕ × List ℕ)) (m : Machine) → m ≡ machine_start config files → config_check config ≡ Ok tt
    → IsFrontSound (no_connections config) → AreBefore 0 (no_connections config).dispatch.books.sets → IsRun m
begins config files m is usable front clock = subst IsRun (sym is) (record {
  reached = (written config files).begins;
  set = set-small config usable;
  sound = record {
    front = front;
    clock = clock;
    count = length-replicate config.nodes (no_stays config.cache);
    nodes = all-fresh config.cache config.nodes;
    events = omega arith;
    time = omega arith;
  };
})
