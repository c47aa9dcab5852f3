-- The row of a connection, and what stands beside it, are put into the table.
use Rattle.std.proofs.Common.{◌≡◌, ℕ, Option, sym}
use Rattle.std.specs.FinMap.{get-empty}
use Rattle.std.specs.Ordering.{nat_cmp}
use Rattle.lard_handoff_back.specs.declared.row.BackRow.{BackRow}
use Rattle.lard_handoff_back.specs.Table.{Beside, Table, beside_in, nothing_beside, table_put, table_begun}
use Rattle.lard_table.proofs.Map.{get_put_other, get_put_same, put_got, put_twice}
use Rattle.lard_table.specs.Table.{put_or}

-- what stands beside the row is there, and is not touched elsewhere
pub beside_put : (t : Table) (c : ℕ) (row : Option BackRow) (b : Beside) → beside_in (table_put t c row b) c ≡ b
beside_put t c row b = λ i. record { refused = get_put_same t.refused c b.refused i; returned = get_put_same t.returned c b.returned i }

pub beside_other : (t : Table) (c d : ℕ) (row : Option BackRow) (b : Beside) → (d ≡ c → ⊥) → beside_in (table_put t c row b) d ≡ beside_in t d
beside_other t c d row b n = λ i. record { refused = get_put_other t.refused c d b.refused n i; returned = get_put_other t.returned c d b.returned n i }

-- where the row alone changes, what stands beside it is put back
pub row_put_in : (t : Table) (c : ℕ) (row : Option BackRow) → record t { rows = put_or t.rows c row } ≡ table_put t c row (beside_in t c)
row_put_in t c row = λ i. record t { rows = put_or t.rows c row; refused = sym (put_got t.refused c) i; returned = sym (put_got t.returned c) i }

-- the last that was put counts
pub put_in_twice : (t : Table) (c : ℕ) (row : Option BackRow) (last : Option BackRow) (b : Beside) → table_put (record t { rows = put_or t.rows c row }) c last b ≡ table_put t c last b
put_in_twice t c row last b = λ i. record (table_put t c last b) { rows = put_twice t.rows c row last i }

-- nothing stands beside a connection of which nothing was offered
pub beside_begun : (c : ℕ) → beside_in table_begun c ≡ nothing_beside
beside_begun c = λ i. record { refused = get-empty nat_cmp c i; returned = get-empty nat_cmp c i }
