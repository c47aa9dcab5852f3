-- A record that is turned in its place.
use Rattle.std.proofs.Common.{◌≡◌, ◌<◌, [], ◌∷◌, ◌++◌, length, ℕ, zero, suc, List, slice_set, slice_index_or, ap, refl, arith}
use Rattle.lard_base.specs.declared.event.Event.{Event}
use Rattle.lard_journal.specs.declared.rec.Rec.{Rec}
use Rattle.lard_journal.specs.declared.rec.Rec.TheVariants as rec
use Rattle.lard_journal.specs.Inner.{inner_of, turned_at}

-- the code sets one record in its place
pub turned_is : (rs : List Rec) (i : ℕ) (q : Rec) → i < length rs → q ≡ slice_index_or rs i q → slice_set rs i (inner_of q) ≡ turned_at i rs
turned_is [] i q within e = absurd (omega arith)
turned_is (r ∷ rs) zero q within e = ap (λ (x : Rec). inner_of x ∷ rs) e
turned_is (r ∷ rs) (suc i) q within e = ap (λ (xs : List Rec). r ∷ xs) (turned_is rs i q (omega arith) e)

-- the one behind those before is turned
pub turned_behind : (past : List Rec) (i : ℕ) (e : Event) (rs : List Rec) → turned_at (length past) (past ++ rec.Event i e ∷ rs) ≡ past ++ rec.Inner e ∷ rs
turned_behind [] i e rs = refl
turned_behind (r ∷ past) i e rs = ap (λ (xs : List Rec). r ∷ xs) (turned_behind past i e rs)
