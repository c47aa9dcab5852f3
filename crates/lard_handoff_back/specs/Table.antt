-- What a node's table is: its rows, and beside them what a node that leaves decided.
use Rattle.std.specs.Prelude.{◌≡◌, ℕ, Bool, true, false, Option, Some, None, refl}
use Rattle.std.specs.Coded.{Coded, code_by, coded×, coded_ℕ, coded_bool}
use Rattle.std.specs.FinMap as map
use Rattle.std.specs.FinMap.{FinMap, empty, get}
use Rattle.std.specs.Ordering.{nat_cmp}
use Rattle.lard_base.specs.contracts.ids.Epoch as epoch
use Rattle.lard_base.specs.declared.ids.Epoch.{Epoch}
use Rattle.lard_handoff_back.specs.contracts.row.BackRow as row
use Rattle.lard_handoff_back.specs.declared.row.BackRow.{BackRow}
use Rattle.lard_handoff_back.specs.Back.{Backs}
use Rattle.lard_table.specs.Table.{put_or}

pub record Table : Type 0 where
  pub rows : Backs
  pub refused : FinMap nat_cmp Epoch  -- of each connection the highest epoch that was refused
  pub returned : FinMap nat_cmp ℕ  -- of each that was given back: how many responses were queued before
  pub leaving : Bool

abbrev pub coded_table : Coded Table
coded_table = code_by _ (coded× (map.code coded_ℕ row.the_row.coded) (coded× (map.code coded_ℕ epoch.the_row.coded) (coded× (map.code coded_ℕ coded_ℕ) coded_bool)))
    (λ t. (t.rows, (t.refused, (t.returned, t.leaving)))) (λ p. record { rows = p.0; refused = p.1.0; returned = p.1.1.0; leaving = p.1.1.1 }) (λ _. refl)

-- nothing was offered, and the node stays
abbrev pub table_begun : Table
table_begun = record { rows = empty; refused = empty; returned = empty; leaving = false }

-- what stands beside the row of one connection
pub record Beside : Type 0 where
  pub refused : Option Epoch
  pub returned : Option ℕ

abbrev pub nothing_beside : Beside
nothing_beside = record { refused = None; returned = None }

abbrev pub beside_in : Table → ℕ → Beside
beside_in t c = record { refused = get t.refused c; returned = get t.returned c }

-- the table with this row of a connection, and this beside it
abbrev pub table_put : Table → ℕ → Option BackRow → Beside → Table
table_put t c row b = record t { rows = put_or t.rows c row; refused = put_or t.refused c b.refused; returned = put_or t.returned c b.returned }

-- only a node that leaves refuses, or gives back
pub record IsTableSound (t : Table) : Type 0 where
  pub refuses : (c : ℕ) (epoch : Epoch) → get t.refused c ≡ Some epoch → t.leaving ≡ true
  pub returns : (c : ℕ) (served : ℕ) → get t.returned c ≡ Some served → t.leaving ≡ true
