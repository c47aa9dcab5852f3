-- A node that is closed stays closed, so what is so while none is says nothing behind that.
use Rattle.std.proofs.Common.{◌≡◌, ℕ, nat_eq, true, false, Bool, List, [], ◌∷◌, ◌++◌, refl, sym, ◌∙◌, subst}
use Rattle.std.proofs.lemmas.Bool.{cond_both}
use Rattle.std.specs.List.{fold}
use Rattle.lard_law_connections.specs.LineLaws.{NoneIsClosed}
use Rattle.lard_law_view.specs.Prelude.{Rec, is_node_closed, node_closed_step}
use Rattle.lard_journal.specs.declared.rec.Rec.TheVariants as rec

still-closed : (n : ℕ) (rs : List Rec) → fold (node_closed_step n) true rs ≡ true
still-closed n [] = refl
still-closed n (rec.Closed m ∷ rs) =
    cond_both (nat_eq m n) true true (λ (was : Bool). fold (node_closed_step n) was rs ≡ true) (λ t. still-closed n rs) (λ t. still-closed n rs)
still-closed n (_ ∷ rs) = still-closed n rs

-- it is so at every moment of a journal that begins with the closing of node 2, where it is so before that
pub until-closed : (P : List Rec → Type 0) → P [] → (J past later : List Rec) → rec.Closed 2 ∷ J ≡ past ++ later → NoneIsClosed past → P past
until-closed P first J [] later cut none = first
until-closed P first J (r ∷ past) later cut none =
    let same : r ≡ rec.Closed 2 = cc in
    let closed : is_node_closed (r ∷ past) 2 ≡ true = subst (λ (x : Rec). is_node_closed (x ∷ past) 2 ≡ true) (sym same) (still-closed 2 past) in
    let no : true ≡ false = sym closed ∙ none 2 in
    absurd cc
