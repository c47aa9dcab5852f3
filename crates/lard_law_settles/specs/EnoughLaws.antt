-- Enough rounds settle.
use Rattle.std.specs.Prelude.{◌≡◌, ℕ, All, List, [], Ok}
use Rattle.lard_law_view.specs.Prelude.{Config, EachMay, Event, Machine, config_check, file_at, machine_start}
use Rattle.lard_laws.specs.Records.{IsRunFile, IsScheduled}
use Rattle.lard_law_settles.specs.Enough.{EndsWithEnough, MayLeaveUnsettled, RestsWithEnough}
use Rattle.lard_settling.specs.declared.settled.Settled.{Settled}
use Rattle.lard_settling.specs.Events.{LeadsTo}
use Rattle.lard_settling.specs.Settling.{settled}

-- A settle that is done with as many rounds as the bound of its journal, or more, ends with nothing left to do, in each state that events
-- lead to, settles among them: where the schedule put no packet on the way in a client's name, and each client wrote fewer than 16,383 bytes.
abbrev pub SettlesEndQuiet : Type 0
SettlesEndQuiet = (m : Machine) (rounds : ℕ) (n : Machine) (s : Settled) → settled m rounds ≡ Ok (n, s) → EndsWithEnough m rounds s

-- And where such a settle has ended nothing is left, whatever it answered: in each state with numbers that pass their check.
abbrev pub SettlesRest : Type 0
SettlesRest = (n : Machine) → config_check n.config ≡ Ok tt → RestsWithEnough n

-- So in the journal of each run: an `unsettled` stands only where that is not so, or behind fewer rounds than the bound.
abbrev pub RunsSettle : Type 0
RunsSettle = (config : Config) (files : List (List ℕ × List ℕ)) → config_check config ≡ Ok tt → All IsRunFile files → (es : List Event) (m : Machine) → All IsScheduled es → LeadsTo (machine_start config files) es m
    → EachMay (MayLeaveUnsettled (file_at files)) [] m.journal
