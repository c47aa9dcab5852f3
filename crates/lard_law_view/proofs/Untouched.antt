-- Laws of connections that the schedule did not touch, and weaker ones.
use Rattle.std.proofs.Common.{◌≡◌, ℕ, List, [], ◌∷◌, Bool, true, false, cond, refl, nat_eq}
use Rattle.std.specs.List.{fold}
use Rattle.lard_law_view.specs.Prelude.{Came, Rec, Row, Seen, Tale, seen_step, tale_step}
use Rattle.lard_journal.specs.declared.rec.Rec.TheVariants as rec

-- ---- once touched, a connection stays so

touched-row : (c : ℕ) (t : Tale) (r : Rec) → t.touched ≡ true → (tale_step c t r).touched ≡ true
touched-row c t (rec.Injected d) e = go (nat_eq d c) where
  go : (b : Bool) → cond b true t.touched ≡ true
  go true = refl
  go false = e
touched-row c t _ e = e

touched-seen : (c : ℕ) (t : Tale) (s : Seen) → t.touched ≡ true → (seen_step (tale_step c) t s).touched ≡ true
touched-seen c t (Row r) e = touched-row c t r e
touched-seen c t (Came l) e = e

pub touched-stays : (c : ℕ) (t : Tale) (ss : List Seen) → t.touched ≡ true → (fold (seen_step (tale_step c)) t ss).touched ≡ true
touched-stays c t [] e = e
touched-stays c t (s ∷ ss) e = touched-stays c (seen_step (tale_step c) t s) ss (touched-seen c t s e)
