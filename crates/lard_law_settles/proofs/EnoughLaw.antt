-- Enough rounds settle: by what is left at each state within a settle, which goes down in rounds.
use Rattle.std.proofs.Common.{◌≡◌, ◌≤◌, ℕ, List, Ok, sym, subst}
use Rattle.std.specs.Prelude.{All}
use Rattle.lard_law_view.specs.Prelude.{Config, Machine, file_at, machine_start}
use Rattle.lard_bound.specs.Bound.{settling_bound}
use Rattle.lard_laws.specs.Records.{IsRunFile, IsScheduled}
use Rattle.lard_law_view.proofs.ByteLists.{all-each}
use Rattle.lard_law_settles.specs.Enough.{EndsWithEnough, RestsWithEnough}
use Rattle.lard_law_settles.specs.EnoughLaws.{RunsSettle, SettlesEndQuiet, SettlesRest}
use Rattle.lard_law_settles.proofs.EnoughEnds.{enough, kept-numbers}
use Rattle.lard_law_settles.proofs.EnoughStanding.{enough-rounds, says-quiet}
use Rattle.lard_settling.specs.declared.settled.Settled.{Settled}
use Rattle.lard_settling.specs.Events.{GoesThrough}
use Rattle.lard_settling.specs.Settling.{settled}

pub settles-rest : SettlesRest
settles-rest n checked are es given m goes ordinary rounds paid s is = (enough n.config n.files checked are es m (all-each IsScheduled es given) goes ordinary rounds paid n s is).0

-- a settle that rests says so
pub ends-with-enough : (m : Machine) (rounds : ℕ) (n : Machine) (s : Settled) → settled m rounds ≡ Ok (n, s) → RestsWithEnough n → EndsWithEnough m rounds s
ends-with-enough m rounds n s is rests config files checked are es given goes ordinary paid =
    let kept = kept-numbers config files checked are m es (all-each IsScheduled es given) goes rounds n s is in
    let from : GoesThrough (machine_start n.config n.files) es m = subst (λ (c : Config). GoesThrough (machine_start c n.files) es m) (sym kept.config_is) (subst (λ (fs : List (List ℕ × List ℕ)). GoesThrough (machine_start config fs) es m) (sym kept.files_are) goes) in
    let pays : settling_bound (file_at n.files) m.journal ≤ rounds = subst (λ (fs : List (List ℕ × List ℕ)). settling_bound (file_at fs) m.journal ≤ rounds) (sym kept.files_are) paid in
    says-quiet m rounds n s is (rests (subst (λ (fs : List (List ℕ × List ℕ)). All IsRunFile fs) (sym kept.files_are) are) es given m from ordinary rounds pays s is)

pub settles-end-quiet : SettlesEndQuiet
settles-end-quiet m rounds n s is config files checked are es given goes ordinary paid =
    let end = enough config files checked are es m (all-each IsScheduled es given) goes ordinary rounds paid n s is in (end.1, end.2)

pub runs-settle : RunsSettle
runs-settle config files checked are es m given leads = enough-rounds config files (enough config files checked are) es m (all-each IsScheduled es given) leads
