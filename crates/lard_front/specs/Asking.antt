-- What the code of an Ask has in hand, as the rules have it.
use Rattle.std.specs.Prelude.{◌≡◌, ℕ, ◌+◌, true, List, ◌++◌, length, map, Some}
use Rattle.std.specs.FinMap as table
use Rattle.std.specs.FinMap.{FinMap}
use Rattle.std.specs.Ordering.{nat_cmp}
use Rattle.lard_dispatch.specs.declared.dispatch.Ask.{Ask}
use Rattle.lard_dispatch.specs.declared.dispatch.Later.{Later}
use Rattle.lard_dispatch.specs.Calls.{after_later}
use Rattle.lard_rules.specs.declared.front.FrontRest.{FrontRest}
use Rattle.lard_rules.specs.declared.front.FrontState.{FrontState}
use Rattle.lard_rules.specs.declared.front.FrontTurn.{FrontTurn}
use Rattle.lard_rules.specs.Front.{FrontEnv, assigned_notes, is_row_at, over_note, front_rest, front_saying, tag_sent}
use Rattle.lard_loads.specs.Tally.{home}

-- the connection is admitted at the node that asks, where it is there
abbrev pub AsksFromHome : FrontState → Ask → ℕ → Type 0
AsksFromHome s a epoch = is_row_at a.home epoch (table.get s.conns a.c) ≡ true → home s.dispatch.books.loads a.c ≡ Some a.home

abbrev pub kept_rests : FinMap nat_cmp FrontRest → Ask → List ℕ → ℕ → FinMap nat_cmp FrontRest
kept_rests rests a tag last = table.insert rests a.c (record (front_rest (table.get rests a.c)) { asks = a.number; tag = tag; assigned = last })

-- the requests are assigned as the dispatcher says, and the Tag goes out
abbrev pub assigned_with : FrontEnv → FrontState → ℕ → Ask → ℕ → Later → FrontState × FrontTurn
assigned_with env s epoch a assigned l = (
  record s { rests = kept_rests s.rests a (map (λ x. x.node) l.choices) (assigned + length l.choices); dispatch = after_later s.dispatch a env.now },
  record (front_saying (tag_sent env a.home epoch a.number (map (λ x. x.node) l.choices))) { notes = over_note env.serve.c l.over ++ assigned_notes env.serve.c a assigned a.paths l.choices },
)

abbrev pub assigned_by : FrontEnv → FrontState → ℕ → Ask → ℕ → FrontState × FrontTurn
assigned_by env s epoch a assigned = assigned_with env s epoch a assigned (env.later a)
