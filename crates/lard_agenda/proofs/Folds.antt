-- What holds before each record holds behind it: two folds over a journal that go side by side.
use Rattle.std.proofs.Common.{List, [], ◌∷◌}
use Rattle.std.specs.List.{AllByRecursion, fold}
use Rattle.lard_journal.specs.declared.rec.Rec.{Rec}

-- two folds stay in a relation that each record keeps which the journal may have
pub side_by_side : {A B : Type 0} (R : A → B → Type 0) (P : Rec → Type 0) (f : A → Rec → A) (g : B → Rec → B)
    → ((a : A) (b : B) (r : Rec) → P r → R a b → R (f a r) (g b r)) → (a : A) (b : B) (J : List Rec) → AllByRecursion P J → R a b → R (fold f a J) (fold g b J)
side_by_side R P f g step a b [] all h = h
side_by_side R P f g step a b (r ∷ J) all h = side_by_side R P f g step (f a r) (g b r) J all.1 (step a b r all.0 h)

-- and each journal may have any record
any_records : (J : List Rec) → AllByRecursion (λ r. Unit {0}) J
any_records [] = tt
any_records (r ∷ J) = (tt, any_records J)

pub always : {A B : Type 0} (R : A → B → Type 0) (f : A → Rec → A) (g : B → Rec → B)
    → ((a : A) (b : B) (r : Rec) → R a b → R (f a r) (g b r)) → (a : A) (b : B) (J : List Rec) → R a b → R (fold f a J) (fold g b J)
always R f g step a b J h = side_by_side R (λ r. Unit {0}) f g (λ a b r u. step a b r) a b J (any_records J) h
