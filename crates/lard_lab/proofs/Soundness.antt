-- What holds of a desk between two events is kept by each.
use Rattle.std.proofs.Common.{◌≡◌, ◌≢◌, ℕ, ◌+◌, ◌<◌, ◌≤◌, Bool, true, false, List, ◌∷◌, ◌++◌, [], Option, Some, None, is_some, Ok, cond, refl, ap, ◌∙◌, arith, ◌⊎◌, inl, inr}
use Rattle.std.proofs.lemmas.Bool.Decides.{nat_tests}
use Rattle.std.specs.Cmp.{nat_cmp_total}
use Rattle.std.specs.FinMap as map
use Rattle.std.specs.FinMap.{FinMap, get-empty, get-insert, get-remove}
use Rattle.std.specs.Ordering.{nat_cmp, eq_by_cmp}
use Rattle.lard_base.specs.declared.config.Config.{Config}
use Rattle.lard_base.specs.Config.{config_check}
use Rattle.lard_loads.specs.Tally.{Standing, home_of}
use Rattle.lard_policy.specs.declared.first.FirstChoice.{FirstChoice}
use Rattle.lard_lab.specs.declared.policy.Policy.{Policy}
use Rattle.lard_lab.specs.declared.targets.Target.{Target}
use Rattle.lard_lab.specs.Desk.{Desk, desk_assigned, desk_begun, chosen_for, done_with, is_request_open, later_by, request_passed_over}
use Rattle.lard_lab.specs.Sound.{IsTargetKept, IsDeskSound}
use Rattle.lard_lab.specs.Targets.{AreFresh, fresh_target, target_at}
use Rattle.lard_lab.proofs.Sizes.{fresh-found}
use Rattle.lard_lab.proofs.Kept.{kept_at, kept-added, kept-chosen, kept-later, kept-written}

not_at : (q k : ℕ) → q ≢ k → eq_by_cmp nat_cmp q k ≡ false
not_at q k n = grind (arith, nat_tests, n)

-- who is at no other key is at none after an insertion
still-none : (m : FinMap nat_cmp Standing) (k q : ℕ) (s : Standing) → q ≢ k → map.get m q ≡ None → map.get (map.insert m k s) q ≡ None
still-none m k q s apart none = get-insert nat_cmp_total m k s q ∙ ap (λ b. cond b (Some s) (map.get m q)) (not_at q k apart) ∙ none

-- nor after a removal
removed-none : (m : FinMap nat_cmp Standing) (k q : ℕ) → map.get m q ≡ None → map.get (map.remove m k) q ≡ None
removed-none m k q none = get-remove nat_cmp_total m k q ∙ go (eq_by_cmp nat_cmp q k) where
  go : (b : Bool) → cond {A = Option Standing} b None (map.get m q) ≡ None
  go true = refl
  go false = none

pub begun-with-sound : (policy : Policy) (cfg : Config) (targets : List (List ℕ × Target)) → config_check cfg ≡ Ok tt → AreFresh targets → IsDeskSound (record (desk_begun policy cfg) { targets = targets })
begun-with-sound policy cfg targets usable all = record {
  usable = usable;
  nodes = refl;
  few = omega arith;
  none = get-empty nat_cmp 0;
  free = λ i h. get-empty nat_cmp i;
  kept = λ path. fresh-found (IsTargetKept cfg.nodes 0) targets path (λ size. record { server = tt; modified = omega arith }) all;
}

pub added-sound : (d : Desk) (path : List ℕ) (size : ℕ) → IsDeskSound d → IsDeskSound (record d { targets = d.targets ++ (path, fresh_target size) ∷ [] })
added-sound d path size s = record {
  usable = s.usable;
  nodes = s.nodes;
  few = s.few;
  none = s.none;
  free = s.free;
  kept = kept-added d.config.nodes d.time.0 d.targets path size s.kept;
}

pub passed-sound : (d : Desk) → d.made < 16384 → IsDeskSound d → IsDeskSound (request_passed_over d)
passed-sound d few s = record {
  usable = s.usable;
  nodes = s.nodes;
  few = omega (arith, few);
  none = s.none;
  free = λ i h. s.free i (omega (arith, h));
  kept = s.kept;
}

pub assigned-sound : (d : Desk) (path : List ℕ) (target : Target) (choice : FirstChoice) → d.made < 16384 → target_at d.targets path ≡ Some target → choice.node ≤ d.config.nodes → IsDeskSound d
    → IsDeskSound (desk_assigned d path target choice)
assigned-sound d path target choice few there node s = record {
  usable = s.usable;
  nodes = s.nodes;
  few = omega (arith, few);
  none = still-none d.loads.standings (d.made + 1) 0 (record { home = choice.node; shares = [] }) (λ e. omega (arith, e)) s.none;
  free = λ i h. still-none d.loads.standings (d.made + 1) i (record { home = choice.node; shares = [] }) (λ e. omega (arith, e, h)) (s.free i (omega (arith, h)));
  kept = kept-written d.config.nodes d.time.0 d.targets path (chosen_for target choice d.time)
      (kept-chosen d.config.nodes d.time target choice node (kept_at d.config.nodes d.time.0 d.targets path target s.kept there)) s.kept;
}

pub done-sound : (d : Desk) (i : ℕ) → IsDeskSound d → IsDeskSound (done_with d i)
done-sound d i s = record {
  usable = s.usable;
  nodes = s.nodes;
  few = s.few;
  none = removed-none d.loads.standings i 0 s.none;
  free = λ k h. removed-none d.loads.standings i k (s.free k h);
  kept = s.kept;
}

pub later-sound : (d : Desk) (ms : ℕ) → IsDeskSound d → IsDeskSound (later_by d ms)
later-sound d ms s = record {
  usable = s.usable;
  nodes = s.nodes;
  few = s.few;
  none = s.none;
  free = s.free;
  kept = kept-later d.config.nodes d.time.0 (d.time.0 + ms) d.targets (omega arith) s.kept;
}

-- a number that no request has yet is that of no open one
pub none-open : (d : Desk) (i : ℕ) → IsDeskSound d → (i ≡ 0) ⊎ (d.made < i) → is_request_open d i ≡ false
none-open d i s (inl e) = ap (λ (k : ℕ). is_request_open d k) e ∙ ap (λ (o : Option Standing). is_some (home_of o)) s.none
none-open d i s (inr h) = ap (λ (o : Option Standing). is_some (home_of o)) (s.free i h)

-- the request that comes next has the number of no open one
pub next-free : (d : Desk) → IsDeskSound d → map.get d.loads.standings (d.made + 1) ≡ None
next-free d s = s.free (d.made + 1) (omega arith)
