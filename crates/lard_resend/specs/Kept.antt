-- Messages that await their answers, in order.
use Rattle.std.specs.Prelude.{◌≡◌, ℕ, ◌+◌, Bool, true, ◌==◌, nat_lt, not, ◌&&◌, List, [], ◌∷◌, insert, filter, if◌then◌else◌}
use Rattle.std.specs.List.{AllByRecursion}
use Rattle.lard_base.specs.declared.place.TimerKind.{TimerKind}
use Rattle.lard_base.specs.declared.place.TimerKind.TheVariants.{Tcp, Offer, Ask, Fetch, Ended, Give}
use Rattle.lard_resend.specs.declared.kept.Kept.{Kept}

-- the order of kinds
abbrev pub kind_rank : TimerKind → ℕ
kind_rank Tcp = 0
kind_rank Offer = 1
kind_rank Ask = 2
kind_rank Fetch = 3
kind_rank Ended = 4
kind_rank Give = 5

abbrev pub is_under : TimerKind → ℕ → Kept → Bool
is_under kind r k = kind_rank k.kind == kind_rank kind && k.r == r

-- k stands before what has this kind and number: by the order of kinds, and among one kind by the number
abbrev pub comes_before : TimerKind → ℕ → Kept → Bool
comes_before kind r k = if kind_rank k.kind == kind_rank kind then nat_lt k.r r else nat_lt (kind_rank k.kind) (kind_rank kind)

-- the place behind those that stand before it
abbrev pub kept_place_of : TimerKind → ℕ → List Kept → ℕ
kept_place_of kind r [] = 0
kept_place_of kind r (x ∷ xs) = if comes_before kind r x then kept_place_of kind r xs + 1 else 0

abbrev pub put_in : Kept → List Kept → List Kept
put_in k ks = insert ks (kept_place_of k.kind k.r ks) k

abbrev pub without : TimerKind → ℕ → List Kept → List Kept
without kind r ks = filter (λ k. not (is_under kind r k)) ks

-- a message takes the place of one of its kind and number
abbrev pub anew : Kept → List Kept → List Kept
anew k ks = put_in k (without k.kind k.r ks)

-- each stands before those behind it
abbrev pub AreInOrder : List Kept → Type 0
AreInOrder [] = Unit {0}
AreInOrder (k ∷ ks) = AllByRecursion (λ later. comes_before later.kind later.r k ≡ true) ks × AreInOrder ks
