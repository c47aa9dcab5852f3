-- What a call gives of a generated run, made of what another did.
use Rattle.std.proofs.Common.{◌≡◌, ℕ, List, Ok, Err, sym, ap, ◌∙◌}
use Rattle.lard_law_view.specs.Prelude.{Machine, Rec}
use Rattle.lard_generate.specs.Generated.{generated}
use Rattle.lard_generate.specs.declared.schedule.Schedule.{Schedule}
use Rattle.lard_app.specs.declared.status.Status.{Status}
use Rattle.lard_app.specs.declared.status.Status.TheVariants.{Done, Usage, Refused, ReadFault, WriteFault, NoMemory, Limit}
use Rattle.lard_app.specs.Generate.{GivesRun, Plays, run_begins, first_line, played, run_of}

-- the run of the schedule that was made
pub run-is : (seed clients : ℕ) (schedule : Schedule) → schedule ≡ generated seed clients → played first_line (run_begins schedule) schedule.events ≡ run_of seed clients
unfolding run_of
run-is seed clients schedule is = ap (λ (s : Schedule). played first_line (run_begins s) s.events) is

-- the events were done
pub plays-done : (given : Machine × Status) (n : Machine) (J : List Rec) → given ≡ (n, Done) → J ≡ n.journal → GivesRun given (λ m. m.journal) (Ok J)
plays-done given n J is same = (ap (λ (p : Machine × Status). p.1) is, same ∙ ap (λ (p : Machine × Status). p.0.journal) (sym is))

-- or were not
pub plays-stopped : {X : Type 0} (given : Machine × Status) (n : Machine) (part : Machine → X) (status : Status) → Plays given n (Err status) → GivesRun given part (Err status)
plays-stopped given n part NoMemory h = tt
plays-stopped given n part (Limit line what) h = ap (λ (p : Machine × Status). p.1) h
plays-stopped given n part (Refused line why) h = ap (λ (p : Machine × Status). p.1) h
plays-stopped given n part Done h = h
plays-stopped given n part Usage h = h
plays-stopped given n part ReadFault h = h
plays-stopped given n part WriteFault h = h

-- what was not given of one part is not of another
pub gives-no-other : {X Y : Type 0} (given : Machine × Status) (part : Machine → X) (other : Machine → Y) (status : Status) → GivesRun given part (Err status) → GivesRun given other (Err status)
gives-no-other given part other NoMemory h = tt
gives-no-other given part other (Limit line what) h = h
gives-no-other given part other (Refused line why) h = h
gives-no-other given part other Done h = h
gives-no-other given part other Usage h = h
gives-no-other given part other ReadFault h = h
gives-no-other given part other WriteFault h = h
