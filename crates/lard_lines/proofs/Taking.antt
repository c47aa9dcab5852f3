-- What was taken from a source, and then more.
use Rattle.std.proofs.Common.{ℕ, List, [], ◌++◌, Option, sym, ap, ◌∙◌, append_assoc, append-nil}
use Rattle.std.proofs.KnownBytes.{Consumes-nil, Consumes-trans}
use Rattle.lard_base.specs.Outside.{TakesIn}

pub takes_none : (left : Option (List ℕ)) (text : List ℕ) → TakesIn left left text text
takes_none left text = record { taken = []; consumed = Consumes-nil left; text = sym (append-nil text) }

pub takes_more : (a b c : Option (List ℕ)) (old mid new : List ℕ) → TakesIn a b old mid → TakesIn b c mid new → TakesIn a c old new
takes_more a b c old mid new h k = record {
  taken = h.taken ++ k.taken;
  consumed = Consumes-trans a b c h.taken k.taken h.consumed k.consumed;
  text = k.text ∙ ap (λ xs. xs ++ k.taken) h.text ∙ append_assoc old h.taken k.taken;
}
