-- No job waits where there is no node: the records of jobs are of nodes that there are.
use Rattle.std.proofs.Common.{◌≡◌, ◌≤◌, ℕ, Bool, false, cond, nat_eq, List, [], ◌∷◌, ◌++◌, refl, ap, ◌∙◌, subst}
use Rattle.std.specs.List.{fold}
use Rattle.lard_laws.specs.RecordsMessages.{MayBeThere}
use Rattle.lard_counts.specs.Stores.{Queue, Waiting, jobs, jobs_step, no_jobs, without_waiting}
use Rattle.lard_history.proofs.Seeing.{by_number, other_number}
use Rattle.lard_law_view.specs.Prelude.{EachMay, Rec}
use Rattle.lard_journal.specs.declared.rec.Rec.TheVariants as rec

module _ (nodes n : ℕ) (none : (1 ≤ n) × (n ≤ nodes) → ⊥) where
  -- it is of another node
  elsewhere : (k : ℕ) → (1 ≤ k) × (k ≤ nodes) → nat_eq k n ≡ false
  elsewhere k there = by_number (nat_eq k n ≡ false) k n (λ same. absurd (none (subst (λ (i : ℕ). (1 ≤ i) × (i ≤ nodes)) same there))) (other_number k n)

  changed : (q : Queue) (more : List Waiting) (its : Bool) → its ≡ false → q.list ≡ [] → (cond its (record q { list = more }) q).list ≡ []
  changed q more its other empty = ap (λ (b : Bool). (cond b (record q { list = more }) q).list) other ∙ empty

  step-empty : (past : List Rec) (q : Queue) (r : Rec) → q.list ≡ [] → MayBeThere nodes past r → (jobs_step n q r).list ≡ []
  step-empty past q (rec.Queued k m c i path) empty there = changed q (q.list ++ (m, c, i, path) ∷ []) (nat_eq k n) (elsewhere k (there k refl)) empty
  step-empty past q (rec.Read k m c i path) empty there = changed q (without_waiting q.list q.at) (nat_eq k n) (elsewhere k (there k refl)) empty
  step-empty past q _ empty there = empty

  fold-empty : (past : List Rec) (q : Queue) (J : List Rec) → q.list ≡ [] → EachMay (MayBeThere nodes) past J → (fold (jobs_step n) q J).list ≡ []
  fold-empty past q [] empty there = empty
  fold-empty past q (r ∷ J) empty there = fold-empty (past ++ r ∷ []) (jobs_step n q r) J (step-empty past q r empty there.0) there.1

  pub no-jobs : (J : List Rec) → EachMay (MayBeThere nodes) [] J → jobs J n ≡ []
  no-jobs J there = fold-empty [] no_jobs J refl there
