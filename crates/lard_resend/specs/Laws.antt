-- What holds of messages that are held.
use Rattle.std.specs.Prelude.{◌≡◌, ℕ, false, List, Some, None}
use Rattle.std.specs.List.{find}
use Rattle.lard_base.specs.declared.place.TimerKind.{TimerKind}
use Rattle.lard_resend.specs.declared.kept.Kept.{Kept}
use Rattle.lard_resend.specs.Kept.{is_under, put_in, without, AreInOrder}

-- What is held is found under its kind and number.
abbrev pub HeldIsFound : Type 0
HeldIsFound = (k : Kept) (ks : List Kept) → find (is_under k.kind k.r) ks ≡ None → find (is_under k.kind k.r) (put_in k ks) ≡ Some k

-- What is dropped is found no more.
abbrev pub DropsIt : Type 0
DropsIt = (kind : TimerKind) (r : ℕ) (ks : List Kept) → find (is_under kind r) (without kind r ks) ≡ None

-- Neither changes what is found under another kind or number.
abbrev pub LeavesOthers : Type 0
LeavesOthers = (kind : TimerKind) (r : ℕ) (k : Kept) (ks : List Kept) → is_under kind r k ≡ false
    → (find (is_under kind r) (put_in k ks) ≡ find (is_under kind r) ks) × (find (is_under kind r) (without k.kind k.r ks) ≡ find (is_under kind r) ks)

-- Both keep the order of kinds, and of numbers among those of one kind.
abbrev pub KeepsTheOrder : Type 0
KeepsTheOrder = (k : Kept) (ks : List Kept) → AreInOrder ks → find (is_under k.kind k.r) ks ≡ None → AreInOrder (put_in k ks) × AreInOrder (without k.kind k.r ks)
