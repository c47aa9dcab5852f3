use Rattle.std.proofs.Common.{◌≡◌, [], ◌∷◌, true, false, Some, ap, arith, refl}
use Rattle.std.specs.Prelude.{codes}
use Rattle.lard_counts.specs.Stores.{Waiting}
use Rattle.lard_journal.specs.declared.rec.Rec.TheVariants as rec
use Rattle.lard_refusals.proofs.contents.disks_refuses.Goals as goal

pub returns-clause-done_and_not_read : goal.returns-clause-done_and_not_read
returns-clause-done_and_not_read c h =
    let done = h.1.0 in
    let job : Waiting = done.0 in
    let e : [] ≡ rec.Read 1 job.0 job.1 job.2 job.3 ∷ done.1 = done.3 in
    cc

pub returns-clause-another_job_is_read : goal.returns-clause-another_job_is_read
returns-clause-another_job_is_read c h =
    let done = h.1.0 in
    let job : Waiting = done.0 in
    let its : Some (1, 1, 1, codes "/a") ≡ Some job = done.2 in
    let oldest : (1, 1, 1, codes "/a") ≡ job = cc in
    let first : 1 ≡ job.2 = ap (λ (w : Waiting). w.2) oldest in
    let e : rec.Read 1 1 1 2 (codes "/b") ∷ [] ≡ rec.Read 1 job.0 job.1 job.2 job.3 ∷ done.1 = done.3 in
    let second : 2 ≡ job.2 = cc in
    omega arith

pub returns-clause-read_in_another_step : goal.returns-clause-read_in_another_step
returns-clause-read_in_another_step c h = let e : true ≡ false = h.0.1.0 in cc

pub returns-clause-oldest_job_is_read : goal.returns-clause-oldest_job_is_read
returns-clause-oldest_job_is_read c = ((refl, (refl, tt)), (((1, 1, 1, codes "/a"), [], refl, refl, tt), tt))
