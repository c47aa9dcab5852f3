-- The journal follows the events.
use Rattle.std.proofs.Common.{◌≡◌, ◌+◌, List, [], ◌∷◌, ◌++◌, refl, sym, ap, ◌∙◌, subst, append_assoc, append-nil}
use Rattle.lard_law_view.specs.Prelude.{Event, Follows, IsStep, IsViewed, Machine, Passes, Rec, machine_start}
use Rattle.lard_laws.specs.StepsLaws.{JournalsFollow}
use Rattle.lard_law_view.proofs.After.{IsAfter, step-after}
use Rattle.lard_law_view.proofs.Carried.{start-viewed, viewed-kept}

-- behind m stand the steps of these events
follows-on : (es : List Event) (m n : Machine) → IsViewed m → Passes m es n → (adds : List Rec) × (n.journal ≡ m.journal ++ adds) × Follows (m.events + 1) es adds
follows-on [] m n view same = ([], ap (λ (k : Machine). k.journal) same ∙ sym (append-nil m.journal), refl)
follows-on (e ∷ es) m n view past =
    let k : Machine = past.0 in
    let after : IsAfter m e k = step-after m view e k past.1 past.2 in
    let later = follows-on es k n (viewed-kept m k e view past.1 past.2) past.3 in (
      after.step ++ later.0,
      later.1 ∙ ap (λ (J : List Rec). J ++ later.0) after.is ∙ append_assoc m.journal after.step later.0,
      (after.step, later.0, refl, subst (λ i. IsStep i e after.step) after.events after.follows, subst (λ i. Follows (i + 1) es later.0) after.events later.2),
    )

pub follows : JournalsFollow
follows config files es m past =
    let all = follows-on es (machine_start config files) m (start-viewed config files) past in
    subst (Follows 1 es) (sym all.1) all.2
