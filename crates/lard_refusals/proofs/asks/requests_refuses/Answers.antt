use Rattle.std.proofs.Common.{◌≡◌, ℕ, List, None, Some, refl, sym, ap, ◌∙◌, arith}
use Rattle.std.specs.Prelude.{codes, slice_get, slice_index}
use Rattle.lard_refusals.proofs.Responses.{its-paths, no-paths}
use Rattle.lard_refusals.proofs.asks.requests_refuses.Goals as goal

pub returns-clause-assigned_before_it_is_written : goal.returns-clause-assigned_before_it_is_written
returns-clause-assigned_before_it_is_written c h =
    let e : None ≡ Some (codes "/a") = sym (ap (λ (all : List (List ℕ)). slice_get all 0) no-paths) ∙ h.0 refl in
    cc

-- the letters are not the same
pub returns-clause-another_path_assigned : goal.returns-clause-another_path_assigned
returns-clause-another_path_assigned c h =
    let e : Some (codes "/a") ≡ Some (codes "/b") = sym (ap (λ (all : List (List ℕ)). slice_get all 0) its-paths) ∙ h.1.0 refl in
    let same : codes "/a" ≡ codes "/b" = cc in
    let letters : ◌≡◌ {A = ℕ} 97 98 = ap (λ (path : List ℕ). slice_index path 1) same in
    omega arith

pub returns-clause-its_path_assigned : goal.returns-clause-its_path_assigned
returns-clause-its_path_assigned c = (tt, ((λ untouched. ap (λ (all : List (List ℕ)). slice_get all 0) its-paths), tt))

pub returns-clause-assigned_twice : goal.returns-clause-assigned_twice
returns-clause-assigned_twice c h =
    let e : None ≡ Some (codes "/a") = sym (ap (λ (all : List (List ℕ)). slice_get all 1) its-paths) ∙ h.1.1.0 refl in
    cc

pub returns-clause-assigned_again_behind_a_stay : goal.returns-clause-assigned_again_behind_a_stay
returns-clause-assigned_again_behind_a_stay c h =
    let e : None ≡ Some (codes "/a") = sym (ap (λ (all : List (List ℕ)). slice_get all 1) its-paths) ∙ h.1.1.1.1.0 refl in
    cc

pub returns-clause-assigned_again : goal.returns-clause-assigned_again
returns-clause-assigned_again c =
    let first = ap (λ (all : List (List ℕ)). slice_get all 0) its-paths in
    (tt, ((λ untouched. first), (tt, ((λ untouched. first), tt))))
