-- What each call answers, and what it leaves of the books.
use Rattle.std.specs.Prelude.{ℕ, Bool, ◌==◌, nat_lt, List, [], ◌∷◌, ◌++◌, Option, Some, None, if◌then◌else◌}
use Rattle.lard_base.specs.declared.config.Config.{Config}
use Rattle.lard_base.specs.declared.ids.Millis.{Millis}
use Rattle.lard_base.specs.Config.{room_of}
use Rattle.lard_loads.specs.Tally as tally
use Rattle.lard_loads.specs.Tally.{Tally, admitted, batch_ended, connected, is_open, open_shares, released, shared}
use Rattle.lard_sets.specs.Sets as sets
use Rattle.lard_sets.specs.Sets.{added, removed, set_of, touched}
use Rattle.lard_sets.specs.declared.sets.ServerSet.{ServerSet}
use Rattle.lard_policy.specs.First.{first_choice}
use Rattle.lard_policy.specs.declared.first.FirstChoice.{FirstChoice}
use Rattle.lard_costs.specs.Later.{later_choice}
use Rattle.lard_costs.specs.declared.later.LaterChoice.{LaterChoice}
use Rattle.lard_dispatch.specs.declared.dispatch.Ask.{Ask}
use Rattle.lard_dispatch.specs.declared.dispatch.First.{First}
use Rattle.lard_dispatch.specs.declared.dispatch.First.TheVariants.{Go, Waits}
use Rattle.lard_dispatch.specs.declared.dispatch.Later.{Later}
use Rattle.lard_dispatch.specs.declared.line.Waiting.{Waiting}
use Rattle.lard_dispatch.specs.Books.{Books, Dispatcher}
use Rattle.lard_dispatch.specs.Line.{line_without}

-- ---- server sets, as a choice changes them

-- a node joins the set of a target, if one does
abbrev pub joined : List (List ℕ × ServerSet) → List ℕ → Option ℕ → Millis → List (List ℕ × ServerSet)
joined all target None now = all
joined all target (Some n) now = added all target n now

-- a node leaves it, if one does
abbrev pub reduced : List (List ℕ × ServerSet) → List ℕ → Option ℕ → Millis → List (List ℕ × ServerSet)
reduced all target None now = all
reduced all target (Some n) now = removed all target n now

-- each of these targets has a place
abbrev pub all_touched : List (List ℕ × ServerSet) → List (List ℕ) → List (List ℕ × ServerSet)
all_touched all [] = all
all_touched all (target ∷ targets) = all_touched (touched all target) targets

-- these loads and sets, of which alone choices are made
abbrev pub unlined : Tally → List (List ℕ × ServerSet) → Books
unlined loads all = record { loads = loads; sets = all; line = [] }

-- ---- first choices

-- the choice for a target, at the loads and the sets as they are
abbrev pub choice_at : Config → Books → List ℕ → Millis → FirstChoice
choice_at cfg b target now = first_choice b.loads (set_of b.sets target).members now (set_of b.sets target).modified cfg

-- a connection is admitted to the node that was chosen for its target
abbrev pub placed_by : Books → ℕ → List ℕ → Millis → FirstChoice → Books
placed_by b c target now choice = record b { loads = connected b.loads c choice.node; sets = reduced (joined (touched b.sets target) target choice.add now) target choice.remove now }

abbrev pub admitted_with : Config → Books → ℕ → List ℕ → Millis → Books
admitted_with cfg b c target now = placed_by b c target now (choice_at cfg b target now)

-- as many connections are admitted as there is room for
abbrev pub is_full : Dispatcher → Bool
is_full d = admitted d.books.loads == room_of d.config

-- a connection with its first request is admitted where there is room, and else waits behind all others
abbrev pub first_answer : Dispatcher → List ℕ → Millis → First
first_answer d target now = if is_full d then Waits else Go (choice_at d.config d.books target now)

abbrev pub after_first : Dispatcher → ℕ → List ℕ → Millis → Dispatcher
after_first d c target now =
    if is_full d then record d { books = record d.books { line = d.books.line ++ record { c = c; target = target } ∷ [] } }
    else record d { books = admitted_with d.config d.books c target now }

-- ---- later choices

abbrev pub later_choice_at : Config → Books → Ask → List ℕ → LaterChoice
later_choice_at cfg b ask target = later_choice b.loads ask.home (set_of b.sets target).members ask.queue cfg

-- a request is assigned to the node that was chosen for it
abbrev pub shared_by : Books → Ask → List ℕ → Millis → LaterChoice → Books
shared_by b ask target now choice = record b { loads = shared b.loads ask.c choice.node ask.size; sets = joined (touched b.sets target) target choice.add now }

abbrev pub shared_with : Config → Books → Ask → List ℕ → Millis → Books
shared_with cfg b ask target now = shared_by b ask target now (later_choice_at cfg b ask target)

-- the paths in order, each at the loads and the sets that those before it left
abbrev pub all_shared : Config → Ask → Millis → List (List ℕ) → Books → Books
all_shared cfg ask now [] b = b
all_shared cfg ask now (path ∷ paths) b = all_shared cfg ask now paths (shared_with cfg b ask path now)

abbrev pub all_choices : Config → Ask → Millis → List (List ℕ) → Books → List LaterChoice
all_choices cfg ask now [] b = []
all_choices cfg ask now (path ∷ paths) b = later_choice_at cfg b ask path ∷ all_choices cfg ask now paths (shared_with cfg b ask path now)

-- the connection's batch before this one is over
abbrev pub batch_over : Books → Ask → Books
batch_over b ask = record b { loads = batch_ended b.loads ask.c }

abbrev pub later_answer : Dispatcher → Ask → Millis → Later
later_answer d ask now = record { over = nat_lt 0 (open_shares d.books.loads ask.c); choices = all_choices d.config ask now ask.paths (batch_over d.books ask) }

abbrev pub after_later : Dispatcher → Ask → Millis → Dispatcher
after_later d ask now = record d { books = all_shared d.config ask now ask.paths (batch_over d.books ask) }

-- ---- an end

abbrev pub released_from : Books → ℕ → Books
released_from b c = record b { loads = released b.loads c }

-- the first of the line is admitted, with the target that it waits with
abbrev pub next_admission : Config → Millis → Books → List Waiting → Option (ℕ × FirstChoice)
next_admission cfg now b [] = None
next_admission cfg now b (w ∷ ws) = Some (w.c, choice_at cfg b w.target now)

abbrev pub next_admitted : Config → Millis → Books → List Waiting → Books
next_admitted cfg now b [] = b
next_admitted cfg now b (w ∷ ws) = admitted_with cfg (record b { line = ws }) w.c w.target now

-- a connection is released, and the first of the line admitted
abbrev pub ended_answer : Dispatcher → ℕ → Millis → Option (ℕ × FirstChoice)
ended_answer d c now = next_admission d.config now (released_from d.books c) d.books.line

abbrev pub after_ended : Dispatcher → ℕ → Millis → Dispatcher
after_ended d c now = record d { books = next_admitted d.config now (released_from d.books c) d.books.line }

-- ---- the line, and closed nodes

abbrev pub after_leave : Dispatcher → ℕ → Dispatcher
after_leave d c = record d { books = record d.books { line = line_without d.books.line c } }

-- an open node is closed, and serves no target any longer
abbrev pub after_close : Dispatcher → ℕ → Dispatcher
after_close d n = if is_open d.books.loads n then record d { books = record d.books { loads = tally.tally_closed d.books.loads n; sets = sets.sets_closed d.books.sets n } } else d
