use Rattle.std.proofs.Common.{◌≡◌, ℕ, List, [], ◌∷◌, ◌++◌, refl, sym, ap, ◌∙◌, arith, Bool, true, false, cond, nat_eq, map, None, Some}
use Rattle.std.specs.Prelude.{codes, slice_index}
use Rattle.lard_law_view.specs.Prelude.{IsPrefix, Rec, assigned, goods, request, wrote}
use Rattle.lard_history.specs.Journal.{Assignments}
use Rattle.lard_journal.specs.declared.rec.Rec.TheVariants as rec
use Rattle.lard_refusals.specs.Asks.{another_path_assigned, assigned_before_it_is_written}
use Rattle.lard_refusals.specs.Refusals.{two_files}
use Rattle.lard_refusals.proofs.Moments.{at-every-moment}
use Rattle.lard_refusals.proofs.Responses.{its-goods, no-goods}
use Rattle.lard_refusals.proofs.asks.paths_refuses.Goals as goal

pub returns-clause-assigned_before_it_is_written : goal.returns-clause-assigned_before_it_is_written
returns-clause-assigned_before_it_is_written c h =
    let begins = h assigned_before_it_is_written [] 1 refl refl in
    let e : [] ≡ (codes "/a" ∷ []) ++ begins.0 = sym no-goods ∙ begins.1 in
    cc

-- the letters are not the same
pub returns-clause-another_path_assigned : goal.returns-clause-another_path_assigned
returns-clause-another_path_assigned c h =
    let begins = h another_path_assigned [] 1 refl refl in
    let e : codes "/a" ∷ [] ≡ codes "/b" ∷ begins.0 = sym its-goods ∙ begins.1 in
    let same : codes "/a" ≡ codes "/b" = cc in
    let letters : ◌≡◌ {A = ℕ} 97 98 = ap (λ (path : List ℕ). slice_index path 1) same in
    omega arith

abbrev asking : Rec
asking = rec.Wrote 1 (request (codes "/a"))

abbrev assigning : Rec
assigning = rec.AssignedFirst 1 1 (codes "/a") 1 (Some 1) None

-- what was assigned of connection c is the front of what its client asked for
abbrev AreFirst : List Rec → Type 0
AreFirst past = (c : ℕ) → IsPrefix (map (λ a. a.0) (assigned past c)) (map (λ g. g.1) (goods two_files (wrote past c)))

both : AreFirst (asking ∷ assigning ∷ [])
both c = go (nat_eq 1 c) where
  go : (b : Bool) → IsPrefix (map (λ a. a.0) (cond {A = Assignments} b (record { list = (codes "/a", 1) ∷ []; fresh = true }) (record { list = []; fresh = false })).list) (map (λ g. g.1) (goods two_files (cond b (request (codes "/a")) [])))
  go true = ([], its-goods)
  go false = (_, refl)

pub returns-clause-its_path_assigned : goal.returns-clause-its_path_assigned
returns-clause-its_path_assigned c past later q cut untouched = at-every-moment AreFirst (asking ∷ assigning ∷ []) ((λ c. (_, refl)), ((λ c. (_, refl)), both)) past later cut q
