-- From one step to every state that events lead to, and what there is at the start.
use Rattle.std.proofs.Common.{◌≡◌, ℕ, zero, suc, List, [], ◌∷◌, ◌++◌, length, replicate, Option, Some, None, Ok, refl, sym, ap, subst}
use Rattle.std.specs.Prelude.{slice_get}
use Rattle.std.specs.FinMap.{get-empty}
use Rattle.std.specs.Ordering.{nat_cmp}
use Rattle.lard_handoff_back.proofs.Putting.{beside_begun}
use Rattle.lard_law_view.specs.Prelude.{Config, Event, HasRule, Machine, NodeState, Passes, blank_conn, conn, kept_at, letters, list_of, machine_start, machine_step, no_stays, node_at, node_part, nothing_kept, own, part_of}

-- ---- runs

-- what each step keeps holds after many
pub passes-keep : (P : Machine → Type 0) → ((m n : Machine) (e : Event) → P m → HasRule e → machine_step m e ≡ Ok n → P n) → (es : List Event) (m n : Machine) → Passes m es n → P m → P n
passes-keep P step [] m n same p = subst P (sym same) p
passes-keep P step (e ∷ es) m n past p = passes-keep P step es past.0 n past.3 (step m past.0 e p past.1 past.2)

-- one more event passes
pub passes-more : (es : List Event) (m n k : Machine) (e : Event) → Passes m es n → HasRule e → machine_step n e ≡ Ok k → Passes m (es ++ e ∷ []) k
passes-more [] m n k e same rule is = (k, rule, subst (λ (l : Machine). machine_step l e ≡ Ok k) same is, refl)
passes-more (d ∷ ds) m n k e past rule is = (past.0, past.1, past.2, passes-more ds past.0 n k e past.3 rule is)

-- ---- the start

-- what is so of the one that all are is so of each
module _ {A : Type 0} (x : A) where
  pub of-replicated : (P : Option A → Type 0) → P None → P (Some x) → (n i : ℕ) → P (slice_get (replicate n x) i)
  of-replicated P none some zero i = none
  of-replicated P none some (suc n) zero = some
  of-replicated P none some (suc n) (suc i) = of-replicated P none some n i

  pub length-replicated : (n : ℕ) → length (replicate n x) ≡ n
  length-replicated zero = refl
  length-replicated (suc n) = ap suc (length-replicated n)

pub of-nodes : (P : Option NodeState → Type 0) (count : ℕ) (x : NodeState) → P None → P (Some x) → (n : ℕ) → P (node_at (replicate count x) n)
of-nodes P count x none some zero = none
of-nodes P count x none some (suc i) = of-replicated x P none some count i

-- a node keeps nothing at the start
none-kept : (limit q : ℕ) → node_part (no_stays limit) q ≡ nothing_kept
none-kept limit q = λ i. record { row = get-empty nat_cmp q i; stay = get-empty nat_cmp q i; kept = list_of (get-empty nat_cmp q i); fetches = list_of (get-empty nat_cmp q i); beside = beside_begun q i }

pub start-blank : (config : Config) (files : List (List ℕ × List ℕ)) (q : ℕ) → conn (machine_start config files) q ≡ blank_conn q
unfolding conn part_of own letters
start-blank config files q = λ i. record {
  c = q;
  part = record {
    station = get-empty nat_cmp q i;
    front = record { row = get-empty nat_cmp q i; rest = get-empty nat_cmp q i; kept = list_of (get-empty nat_cmp q i) };
    nodes = λ n. of-nodes (λ o. kept_at q o ≡ nothing_kept) config.nodes (no_stays config.cache) refl (none-kept config.cache q) n i;
  };
  letters = [];
  seen = [];
}
