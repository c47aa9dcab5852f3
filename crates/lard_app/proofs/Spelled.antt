-- A generated schedule is one that a text could give, and so is all that it gives to a run.
use Rattle.std.proofs.Common.{All, ◌≡◌, ◌+◌, ◌≤◌, ℕ, List, [], ◌∷◌, ◌++◌, length, Option, Some, None, Ok, Err, refl, subst, arith}
use Rattle.std.specs.Io.KnownBytes.{Appends, Keeps}
use Rattle.lard_law_view.specs.Prelude.{Event, Machine, WrotePrefix}
use Rattle.lard_laws.specs.Records.{IsRunFile, IsScheduled}
use Rattle.lard_generate.specs.Generated.{generated}
use Rattle.lard_generate.specs.Laws.{IsSpelled, IsSpelledFile}
use Rattle.lard_generate.proofs.Spelled.{events_spelled, files_spelled}
use Rattle.lard_generate_answers.proofs.Runs.{runs-answer-all}
use Rattle.lard_history.proofs.Each.{Each, Each-weaker}
use Rattle.lard_law_view.proofs.ByteLists.{all-each, each-all}
use Rattle.lard_schedule.specs.Events.{IsInLineRange}
use Rattle.lard_settling.specs.Events.{MayCome}
use Rattle.lard_settling.proofs.Written.{written}
use Rattle.lard_app.specs.declared.status.Status.{Status}
use Rattle.lard_app.specs.declared.status.Status.TheVariants.{Done, Usage, Refused, ReadFault, WriteFault, NoMemory, Limit}
use Rattle.lard_app.specs.declared.status.Why.{Why}
use Rattle.lard_app.specs.Generate.{EndsLeft, EndsPlay, Generated, GivesRun, Prints, run_begins, first_line, large, run_of}
use Rattle.lard_law_settles.proofs.Firing.{each-parts}
use Rattle.lard_app.proofs.Happened.{happened}
use Rattle.lard_app.proofs.Fit.{IsFit}
use Rattle.lard_app.proofs.Played.{Front, caused, front, played-done}
use Rattle.lard_app.proofs.Quieted.{ends-settled}
use Rattle.lard_app.proofs.Ranges.{event-ranged, file-ranged}
use Rattle.lard_app.proofs.Steps.{may-come}
use Rattle.lard_app.proofs.Timely.{are-timely}
use Rattle.lard_summary.specs.Lines.{summary}

spelled-file : (f : List ℕ × List ℕ) → IsSpelledFile f → IsRunFile f
spelled-file f s = let most = s.2 in file-ranged f.0 f.1 s.0 (omega (arith, most)) s.3

module _ (seed clients : ℕ) where
  files : Each IsRunFile (generated seed clients).files
  files = Each-weaker IsSpelledFile IsRunFile spelled-file (generated seed clients).files (all-each IsSpelledFile (generated seed clients).files (files_spelled seed clients))

  spelled : clients ≤ 2000 → Each IsSpelled (generated seed clients).events
  spelled few = all-each IsSpelled (generated seed clients).events (events_spelled seed clients few)

  given : clients ≤ 2000 → Each IsScheduled (generated seed clients).events
  given few = Each-weaker IsSpelled IsScheduled (λ e s. event-ranged e s.0 s.1) (generated seed clients).events (spelled few)

  pub in-range : clients ≤ 2000 → All IsInLineRange (generated seed clients).events
  in-range few = each-all IsInLineRange (generated seed clients).events (Each-weaker IsSpelled IsInLineRange (λ e s. s.0) (generated seed clients).events (spelled few))

  pub come : clients ≤ 2000 → Each MayCome (generated seed clients).events
  come few = Each-weaker IsSpelled MayCome (λ e s. may-come e s.0) (generated seed clients).events (spelled few)

  fit : IsFit (run_begins (generated seed clients))
  fit = record { written = (written large (generated seed clients).files).begins; checked = refl }

  -- what a generated run says
  pub says : clients ≤ 2000 → (status : Status) (old new : Option (List ℕ)) → Prints (run_of seed clients).1 status (summary seed clients (run_of seed clients).0.journal) old new → Generated seed clients status old new
  unfolding run_of
  says few status old new printed =
      let f : Front first_line (run_begins (generated seed clients)) (generated seed clients).events = front first_line (run_begins (generated seed clients)) (generated seed clients).events (come few) in
      let whole = played-done first_line (run_begins (generated seed clients)) (generated seed clients).events (come few) in
      record {
        events = f.done;
        rest = f.rest;
        are = f.are;
        all = f.all;
        journal = (run_of seed clients).0.journal;
        is = refl;
        happened = happened large (generated seed clients).files refl (omega arith) files f.done (run_of seed clients).0 (front-given f.done f.rest f.are) f.leads;
        settles = λ done. ends-settled seed clients files (given few) (run_of seed clients).0 (whole done);
        printed = printed;
        answers = λ done.
            let last = ends-settled seed clients files (given few) (run_of seed clients).0 (whole done) in
            runs-answer-all seed clients large (run_of seed clients).0 last.0 last.1 few refl (omega (arith, few)) (omega arith) (whole done) last.2;
        causes = λ other. caused first_line (run_begins (generated seed clients)) (generated seed clients).events (come few) fit (are-timely seed clients fit) other;
      } where
        front-given : (done rest : List Event) → (generated seed clients).events ≡ done ++ rest → Each IsScheduled done
        front-given done rest are = (each-parts IsScheduled done rest (subst (Each IsScheduled) are (given few))).0

  -- none is refused
  never-refused : clients ≤ 2000 → (line : ℕ) (reason : Why) → ¬ ((run_of seed clients).1 ≡ Refused line reason)
  unfolding run_of
  never-refused few line reason is = go ((caused first_line (run_begins (generated seed clients)) (generated seed clients).events (come few) fit (are-timely seed clients fit) (Refused line reason)).0 is) where
    left : (m : Machine) (l : ℕ) (rest : List Event) → ¬ (EndsLeft m l rest (Refused line reason))
    left m l [] h = cc
    left m l (e ∷ es) h = h

    go : ¬ (EndsPlay (run_begins (generated seed clients)) first_line (generated seed clients).events (Refused line reason))
    go p = left p.state (first_line + length p.before) p.rest p.ends

  -- what is said of a run whose lines were not made, or not for want of memory
  pub says-nothing : clients ≤ 2000 → (status : Status) (old : Option (List ℕ)) → GivesRun (run_of seed clients) (λ m. summary seed clients m.journal) (Err status) → Generated seed clients status old old
  says-nothing few status old h = says few status old old (go status h) where
    kept : (known : Option (List ℕ)) → Keeps known known
    kept None = tt
    kept (Some bytes) = refl

    go : (s : Status) → GivesRun (run_of seed clients) (λ m. summary seed clients m.journal) (Err s) → Prints (run_of seed clients).1 s (summary seed clients (run_of seed clients).0.journal) old old
    go NoMemory i = kept old
    go (Limit line what) i = (i, kept old)
    go (Refused line reason) i = absurd (never-refused few line reason i)
    go Done i = absurd i
    go Usage i = absurd i
    go ReadFault i = absurd i
    go WriteFault i = absurd i

  -- and of one whose lines were written
  pub says-all : clients ≤ 2000 → (text : List ℕ) (old new : Option (List ℕ)) → GivesRun (run_of seed clients) (λ m. summary seed clients m.journal) (Ok text) → Appends old new text → Generated seed clients Done old new
  says-all few text old new h w = says few Done old new (h.0, subst (Appends old new) h.1 w)

  -- or were not, to their end
  pub says-some : clients ≤ 2000 → (text : List ℕ) (old new : Option (List ℕ)) → GivesRun (run_of seed clients) (λ m. summary seed clients m.journal) (Ok text) → WrotePrefix old new text → Generated seed clients WriteFault old new
  says-some few text old new h w = says few WriteFault old new (h.0, subst (WrotePrefix old new) h.1 w)
