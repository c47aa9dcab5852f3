-- A lab follows an empty trace.
use Rattle.std.proofs.Common.{◌≡◌, ℕ, zero, suc, ◌+◌, List, [], ◌∷◌, ◌++◌, map, replicate, Ok, refl, sym, ap, ◌∙◌, arith, append_assoc}
use Rattle.std.specs.FinMap.{get-empty}
use Rattle.std.specs.List.{range_with_len}
use Rattle.std.specs.Ordering.{nat_cmp}
use Rattle.lard_base.specs.declared.config.Config.{Config}
use Rattle.lard_base.specs.Config.{config_check}
use Rattle.lard_loads.proofs.Charged.{zeros}
use Rattle.lard_loads.proofs.Sums.{load-empty}
use Rattle.lard_lab.specs.declared.backends.Backend.{Backend}
use Rattle.lard_lab.specs.declared.policy.Policy.{Policy}
use Rattle.lard_lab.specs.declared.targets.Target.{Target}
use Rattle.lard_lab.specs.Backends.{cold, untouched}
use Rattle.lard_lab.specs.Lab.{State, lab_filed, lab_opened}
use Rattle.lard_lab.specs.Laws.{lab_with, with_files}
use Rattle.lard_lab.specs.Report.{File, backend_of, desk_with, file_size_in}
use Rattle.lard_lab.specs.Sound.{IsTargetKept, IsDeskSound}
use Rattle.lard_lab.proofs.Following.{Follows, ServedBy}
use Rattle.lard_lab.proofs.Sizes.{fresh-each, fresh-sizes, fresh_all}

-- the files come one after another
with-all : (s : State) (files : List File) → with_files s files ≡ record s { desk = record s.desk { targets = s.desk.targets ++ fresh_all files } }
with-all s [] = ap (λ (ts : List (List ℕ × Target)). let t : State = record s { desk = record s.desk { targets = ts } } in t) (sym (append-nil s.desk.targets)) where
  append-nil : (xs : List (List ℕ × Target)) → xs ++ [] ≡ xs
  append-nil [] = refl
  append-nil (x ∷ xs) = ap (λ (ys : List (List ℕ × Target)). x ∷ ys) (append-nil xs)
with-all s (f ∷ files) =
    with-all (lab_filed s f.0 f.1) files
    ∙ ap (λ (ts : List (List ℕ × Target)). let t : State = record s { desk = record s.desk { targets = ts } } in t) (append_assoc s.desk.targets (fresh_all (f ∷ [])) (fresh_all files))

-- a lab with these files
abbrev pub first_state : Policy → Config → List File → State
first_state policy cfg files = record { desk = desk_with policy cfg files; stores = untouched cfg.nodes cfg.cache }

pub first-is : (policy : Policy) (cfg : Config) (files : List File) → lab_with policy cfg files ≡ first_state policy cfg files
first-is policy cfg files = with-all (lab_opened policy cfg) files

-- so many nodes of which nothing was counted
cold-row : (f : ℕ → Backend) (b : Backend) (a k : ℕ) → ((n : ℕ) → f n ≡ b) → replicate k b ≡ map f (range_with_len a k)
cold-row f b a zero same = refl
cold-row f b a (suc k) same = ap (λ (x : Backend). x ∷ replicate k b) (sym (same a)) ∙ ap (λ (xs : List Backend). f a ∷ xs) (cold-row f b (a + 1) k same)

first-sound : (policy : Policy) (cfg : Config) (files : List File) → config_check cfg ≡ Ok tt → IsDeskSound (desk_with policy cfg files)
first-sound policy cfg files usable = record {
  usable = usable;
  nodes = refl;
  few = omega arith;
  none = get-empty nat_cmp 0;
  free = λ i h. get-empty nat_cmp i;
  kept = λ q. fresh-each (IsTargetKept cfg.nodes 0) files q (λ size. record { server = tt; modified = omega arith });
}

pub first-follows : (policy : Policy) (cfg : Config) (files : List File) → config_check cfg ≡ Ok tt → Follows files (first_state policy cfg files) [] (λ n. 0)
first-follows policy cfg files usable = record {
  sound = first-sound policy cfg files usable;
  all_open = refl;
  servers = λ q. fresh-each (ServedBy cfg.nodes) files q (λ size. tt);
  sizes = fresh-sizes files;
  made = refl;
  nodes = cold-row (backend_of (file_size_in files) cfg.cache [] (λ n. 0)) (cold cfg.cache) 1 cfg.nodes (λ n. refl);
  requests = sym (zeros 1 cfg.nodes);
  full = refl;
  hits = sym (zeros 1 cfg.nodes);
  loads = λ n. let none = load-empty n in omega (arith, none);
}
