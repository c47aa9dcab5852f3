-- Who waits, as the journal tells it.
use Rattle.std.specs.Prelude.{◌≡◌, ◌⊎◌, ℕ, not, nat_eq, List, [], ◌∷◌, ◌++◌}
use Rattle.std.specs.List.{filter, fold}
use Rattle.lard_law_view.specs.Prelude.{Rec}
use Rattle.lard_journal.specs.declared.rec.Rec.TheVariants as rec

abbrev pub waiting_step : List ℕ → Rec → List ℕ
waiting_step ws (rec.Waits c) = ws ++ c ∷ []
waiting_step ws (rec.Admitted c) = filter (λ d. not (nat_eq c d)) ws
waiting_step ws _ = ws

-- those who were to wait and were not admitted since, in that order; some of them may have left
abbrev pub waiting : List Rec → List ℕ
waiting J = fold waiting_step [] J

-- these stand among those, in the same order
abbrev pub IsSublist : List ℕ → List ℕ → Type 0
IsSublist [] ys = Unit {0}
IsSublist (x ∷ xs) [] = ⊥
IsSublist (x ∷ xs) (y ∷ ys) = ((x ≡ y) × IsSublist xs ys) ⊎ IsSublist (x ∷ xs) ys
