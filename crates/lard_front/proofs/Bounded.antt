-- What is sent is short, and little of it.
use Rattle.std.proofs.Common.{ℕ, List, [], ◌∷◌, ◌++◌, map}
use Rattle.lard_base.specs.declared.place.Place.{Place}
use Rattle.lard_front.specs.Bounds.{AreMessages}
use Rattle.lard_resend.specs.declared.kept.Kept.{Kept}
use Rattle.lard_resend.specs.Pending.{AreFit, sent_of}

-- what is held fits, and so does what is sent of it
pub fit_messages : (ks : List Kept) → AreFit ks → AreMessages (map sent_of ks)
fit_messages [] h = tt
fit_messages (k ∷ ks) h = (h.0, fit_messages ks h.1)

pub both_fit : (xs ys : List (Place × List ℕ)) → AreMessages xs → AreMessages ys → AreMessages (xs ++ ys)
both_fit [] ys h k = k
both_fit (x ∷ xs) ys h k = (h.0, both_fit xs ys h.1 k)
