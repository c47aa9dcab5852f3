-- What holds of contents that are awaited.
use Rattle.std.specs.Prelude.{◌≡◌, ℕ, ◌<◌, ◌^◌, ◌==◌, ◌&&◌, true, false, List}
use Rattle.std.specs.FinMap.{FinMap}
use Rattle.std.specs.Ordering.{nat_cmp}
use Rattle.lard_resend.specs.declared.kept.Kept.{Kept}
use Rattle.lard_lateral.specs.Lateral.{wanting, is_awaited, after_content}

-- What is wanted of a node in an epoch is awaited from that node in that epoch, and from no other.
abbrev pub AwaitsWhatIsWanted : Type 0
AwaitsWhatIsWanted = (m : FinMap nat_cmp (List Kept)) (c epoch r node from other : ℕ) (path : List ℕ) → epoch < 2 ^ 16
    → is_awaited (wanting m c epoch r node path) from c other r ≡ (node == from && epoch == other)

-- A content that came is awaited no more, from whichever node and in whichever epoch.
abbrev pub AwaitsItOnce : Type 0
AwaitsItOnce = (m : FinMap nat_cmp (List Kept)) (c epoch r from node other : ℕ) → is_awaited m from c epoch r ≡ true
    → is_awaited (after_content m from c epoch r) node c other r ≡ false
