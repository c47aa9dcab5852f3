-- What is held of each connection.
use Rattle.std.specs.Prelude.{◌≡◌, ℕ, ◌≤◌, List, [], ◌∷◌, length, Option, Some, None, is_some, if◌then◌else◌}
use Rattle.std.specs.FinMap.{FinMap, get, insert}
use Rattle.std.specs.FinMap as map
use Rattle.std.specs.List.{AllByRecursion, find}
use Rattle.std.specs.Ordering.{nat_cmp}
use Rattle.lard_base.specs.declared.limits.TheConstants.{MAX_MESSAGE_BYTES}
use Rattle.lard_base.specs.declared.place.Place.{Place}
use Rattle.lard_base.specs.declared.place.TimerKind.{TimerKind}
use Rattle.lard_resend.specs.declared.kept.Kept.{Kept}
use Rattle.lard_resend.specs.Kept.{anew, is_under, put_in, without, AreInOrder}

abbrev pub list_of : Option (List Kept) → List Kept
list_of None = []
list_of (Some ks) = ks

abbrev pub held : FinMap nat_cmp (List Kept) → ℕ → List Kept
held m c = list_of (get m c)

-- messages that fit packets
abbrev pub AreFit : List Kept → Type 0
AreFit ks = AllByRecursion (λ k. length k.bytes ≤ MAX_MESSAGE_BYTES) ks

-- what holds of all that is held: each connection's messages stand in order and fit packets, and there is one
pub record AreHeld (m : FinMap nat_cmp (List Kept)) : Type 0 where
  pub ordered : (c : ℕ) → AreInOrder (held m c)
  pub fit : (c : ℕ) → AreFit (held m c)
  pub some : (c : ℕ) → get m c ≡ Some [] → ⊥

-- what is held of a connection under a kind and a number
abbrev pub under : FinMap nat_cmp (List Kept) → ℕ → TimerKind → ℕ → Option Kept
under m c kind r = find (is_under kind r) (held m c)

-- one message more
abbrev pub holding : FinMap nat_cmp (List Kept) → ℕ → Kept → FinMap nat_cmp (List Kept)
holding m c k = insert m c (put_in k (held m c))

-- a message takes the place of what is held under its kind and number
abbrev pub renewed : FinMap nat_cmp (List Kept) → ℕ → Kept → FinMap nat_cmp (List Kept)
renewed m c k = insert m c (anew k (held m c))

-- a connection of which nothing is held is not in the map
abbrev pub put_list : FinMap nat_cmp (List Kept) → ℕ → List Kept → FinMap nat_cmp (List Kept)
put_list m c [] = map.remove m c
put_list m c (k ∷ ks) = insert m c (k ∷ ks)

-- what is held under a kind and a number is dropped
abbrev pub pending_settled : FinMap nat_cmp (List Kept) → ℕ → TimerKind → ℕ → FinMap nat_cmp (List Kept)
pending_settled m c kind r = if is_some (under m c kind r) then put_list m c (without kind r (held m c)) else m

-- a message, and the place that it goes to
abbrev pub sent_of : Kept → Place × List ℕ
sent_of k = (k.to, k.bytes)
