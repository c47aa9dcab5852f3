-- Which timers of a connection run at a place.
use Rattle.std.specs.Prelude.{ℕ, ◌+◌, Bool, false, ◌||◌, not, if◌then◌else◌, Option, Some, None}
use Rattle.lard_base.specs.declared.place.TimerKind.{TimerKind}
use Rattle.lard_base.specs.declared.place.TimerKind.TheVariants.{Tcp, Offer, Ask, Fetch, Ended, Give}
use Rattle.lard_agenda.specs.declared.kinds.Kinds.{Kinds}
use Rattle.lard_agenda.specs.declared.kinds.Running.{Running}

-- none runs
abbrev pub no_kinds : Kinds
no_kinds = record { tcp = false; offer = false; ask = false; fetch = false; ended = false; give = false }

-- the timer of this kind runs
abbrev pub runs : TimerKind → Kinds → Bool
runs Tcp kinds = kinds.tcp
runs Offer kinds = kinds.offer
runs Ask kinds = kinds.ask
runs Fetch kinds = kinds.fetch
runs Ended kinds = kinds.ended
runs Give kinds = kinds.give

-- the same, but that the timer of this kind runs, or does not
abbrev pub with_timer : Kinds → TimerKind → Bool → Kinds
with_timer kinds Tcp on = record kinds { tcp = on }
with_timer kinds Offer on = record kinds { offer = on }
with_timer kinds Ask on = record kinds { ask = on }
with_timer kinds Fetch on = record kinds { fetch = on }
with_timer kinds Ended on = record kinds { ended = on }
with_timer kinds Give on = record kinds { give = on }

abbrev pub is_none : Kinds → Bool
is_none kinds = not (kinds.tcp || (kinds.offer || (kinds.ask || (kinds.fetch || (kinds.ended || kinds.give)))))

abbrev pub one_if : Bool → ℕ
one_if on = if on then 1 else 0

-- how many run
abbrev pub how_many : Kinds → ℕ
how_many kinds = one_if kinds.tcp + one_if kinds.offer + one_if kinds.ask + one_if kinds.fetch + one_if kinds.ended + one_if kinds.give

-- those of a connection at a place: none where nothing is kept of it there
abbrev pub kinds_of : Option Running → Kinds
kinds_of None = no_kinds
kinds_of (Some running) = running.kinds
