-- Few timers and jobs are left: the timers have low seats, and a disk stays short.
use Rattle.std.proofs.Common.{◌≡◌, ◌≤◌, ◌*◌, ◌^◌, ℕ, zero, suc, ◌+◌, List, Option, Some, None, refl, sym, ap, ◌∙◌, subst, arith}
use Rattle.lard_agenda.proofs.Few.{few_timers}
use Rattle.lard_base.proofs.Usable.{usable}
use Rattle.lard_law_view.specs.Prelude.{Config, IsReached, Machine, NodeState, node_at}
use Rattle.lard_laws.proofs.RecordsShort.{disks-stay}
use Rattle.lard_law_view.proofs.Carried.{carried-keep}
use Rattle.lard_law_view.proofs.After.{IsAfter, step-after}
use Rattle.lard_law_settles.specs.SettlesFew.{FewAreLeft}
use Rattle.lard_law_settles.proofs.SettlesSeats.{seats-low}
use Rattle.lard_settling.specs.Left.{jobs_at, jobs_from, jobs_of}
use Rattle.lard_settling.specs.Written.{IsWrittenOut}

-- the numbers of a run stay
pub config-is : (config : Config) (files : List (List ℕ × List ℕ)) (m : Machine) → IsReached config files m → m.config ≡ config
config-is config files m r = carried-keep config files (λ k. k.config ≡ config) refl (λ k n e on h rule is. let after : IsAfter k e n = step-after k on.view e n rule is in after.config ∙ h) m r

module _ (m : Machine) (short : (n : ℕ) → jobs_at m n ≤ 2 ^ 31) where
  sum-few : (n more : ℕ) → jobs_from m n more ≤ more * 2 ^ 31
  sum-few n zero = omega arith
  sum-few n (suc more) = let one = short n in let rest = sum-few (n + 1) more in omega (arith, one, rest)

jobs-few : (config : Config) (files : List (List ℕ × List ℕ)) (m : Machine) → IsWrittenOut config files m → (n : ℕ) → jobs_at m n ≤ 2 ^ 31
jobs-few config files m w n = subst (λ (k : Machine). jobs_at k n ≤ 2 ^ 31) (sym w.same) (go (node_at w.plain.nodes n) refl) where
  go : (o : Option NodeState) → node_at w.plain.nodes n ≡ o → jobs_of o ≤ 2 ^ 31
  go None at = omega arith
  go (Some s) at = let few = disks-stay config files w.plain w.reached n s at in omega (arith, few)

pub few-left : FewAreLeft
few-left config files m checked w =
    let timers = few_timers m.front.dispatch m.journal (seats-low config files m checked w) in
    let jobs = sum-few m (jobs-few config files m w) 1 m.config.nodes in
    let same : m.config.nodes ≡ config.nodes = ap (λ (k : Machine). k.config.nodes) w.same ∙ ap (λ (c : Config). c.nodes) (config-is config files w.plain w.reached) in
    let nodes = (usable config checked).nodes in
    omega (arith, timers, jobs, same, nodes)
