-- A settle with as many rounds as its journal's bound leaves nothing, where the schedule put no packet on the way in a client's name and each
-- client wrote little.
use Rattle.std.proofs.Common.{◌≡◌, ◌≤◌, ℕ, List, Ok, ap, ◌∙◌, Bool, subst}
use Rattle.std.specs.Prelude.{All}
use Rattle.lard_law_view.specs.Prelude.{Config, Event, Machine, config_check, conn, file_at, machine_start, setting, which_leave, with_leaving}
use Rattle.lard_bound.specs.Bound.{IsOrdinary, settling_bound}
use Rattle.lard_laws.specs.Records.{IsRunFile, IsScheduled}
use Rattle.lard_laws.proofs.RecordsNamed.{files-named}
use Rattle.lard_law_settles.proofs.CourseUniting.{Known}
use Rattle.lard_history.proofs.Each.{Each}
use Rattle.lard_law_settles.proofs.KnownEverything.{IsSet, is-set}
use Rattle.lard_law_settles.proofs.EnoughBeside.{Is}
use Rattle.lard_law_settles.proofs.EnoughGivens.{rules-given}
use Rattle.lard_law_settles.proofs.EnoughGranted.{IsGone, goes-gone, settle-gone, start-gone}
use Rattle.lard_law_settles.proofs.EnoughRested.{events, free-tale, holds, rested}
use Rattle.lard_law_settles.proofs.EnoughSettled.{EndsQuiet}
use Rattle.lard_law_settles.proofs.EnoughKnownTimers.{timers-known}
use Rattle.lard_law_settles.proofs.EnoughSums.{wholes}
use Rattle.lard_law_settles.proofs.EnoughWithin.{IsWithin}
use Rattle.lard_settling.specs.declared.settled.Settled.{Settled}
use Rattle.lard_settling.specs.Events.{GoesThrough, event_step, settled_to}
use Rattle.lard_settling.specs.Settling.{settled}

module _ (config : Config) (files : List (List ℕ × List ℕ)) (checked : config_check config ≡ Ok tt) (are : All IsRunFile files) where
  -- all that is given of a connection within
  known : (m p : Machine) → IsWithin config files m p → (q : ℕ)
      → Known (with_leaving (setting config files) (which_leave m)) (wholes (file_at files) (which_leave m) m.journal) (conn p q)
  known m p w q =
      let given = rules-given config files checked are m p w q in
      subst (λ (l : ℕ → Bool). Known (with_leaving (setting config files) l) (wholes (file_at files) (which_leave m) m.journal) (conn p q)) w.leaving_same (
        given,
        timers-known config files checked p w.reached (holds config files checked are m p w) (files-named files are) q (free-tale config files checked are m p w q) (wholes (file_at files) (which_leave m) m.journal) given,
      )

  -- of a state whose journal can be written out
  pub ends : (m : Machine) (w : Is config files m) → Each IsScheduled w.reached.0 → IsOrdinary m.journal → (rounds : ℕ) → settling_bound (file_at files) m.journal ≤ rounds
      → (n : Machine) (s : Settled) → settled m rounds ≡ Ok (n, s) → EndsQuiet n s
  ends m w given ordinary = rested config files checked are m (known m) w given ordinary

  -- and of one that events lead to, settles among them
  pub enough : (before : List Event) (m : Machine) → Each IsScheduled before → GoesThrough (machine_start config files) before m → IsOrdinary m.journal → (rounds : ℕ) → settling_bound (file_at files) m.journal ≤ rounds
      → (n : Machine) (s : Settled) → settled m rounds ≡ Ok (n, s) → EndsQuiet n s
  enough before m given goes =
      let gone = goes-gone config files (events config files checked are m) before (machine_start config files) m (start-gone config files (events config files checked are m)) given goes in
      ends m gone.is gone.given

  -- such events lead from the start to numbers and files that are its own
  module _ (m : Machine) (es : List Event) (given : Each IsScheduled es) (goes : GoesThrough (machine_start config files) es m) (rounds : ℕ) (n : Machine) (s : Settled) (is : settled m rounds ≡ Ok (n, s)) where
    gone : IsGone config files (events config files checked are m) n
    unfolding event_step
    gone =
        let given-all = events config files checked are m in
        let here = goes-gone config files given-all es (machine_start config files) m (start-gone config files given-all) given goes in
        settle-gone config files given-all m n rounds here (ap settled_to is)

    pub kept-numbers : IsSet config files n
    kept-numbers =
        let w = gone.is in
        let plain = is-set config files w.plain w.reached in
        record { config_is = ap (λ (k : Machine). k.config) w.same ∙ plain.config_is; files_are = ap (λ (k : Machine). k.files) w.same ∙ plain.files_are }
