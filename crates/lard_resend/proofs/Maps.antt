-- A list that is taken out of a map for a while.
use Rattle.std.proofs.Common.{◌≡◌, ℕ, List, [], ◌∷◌, Some, None, sym, ap, ◌∙◌}
use Rattle.std.specs.FinMap.{FinMap, get, insert}
use Rattle.std.specs.Ordering.{nat_cmp}
use Rattle.lard_table.proofs.Map.{put_twice, put_got, insert_twice}
use Rattle.lard_table.specs.Table.{put_or}
use Rattle.lard_resend.specs.declared.kept.Kept.{Kept}
use Rattle.lard_resend.specs.Pending.{put_list}

-- and put back
pub back_again : (m : FinMap nat_cmp (List Kept)) (c : ℕ) (v w : List Kept) → get m c ≡ Some w → insert (insert m c v) c w ≡ m
back_again m c v w h = insert_twice m c v w ∙ ap (put_or m c) (sym h) ∙ put_got m c

-- and another put to its place
pub put_list_again : (m : FinMap nat_cmp (List Kept)) (c : ℕ) (v ks : List Kept) → put_list (insert m c v) c ks ≡ put_list m c ks
put_list_again m c v [] = put_twice m c (Some v) None
put_list_again m c v (k ∷ ks) = put_twice m c (Some v) (Some (k ∷ ks))
