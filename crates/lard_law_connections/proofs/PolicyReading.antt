-- Reading and saying at the front end notes records aside alone.
use Rattle.std.proofs.Common.{◌≡◌, ℕ, ◌+◌, List, [], ◌∷◌, length, Option, Some, None, refl, subst}
use Rattle.std.proofs.lemmas.Bool.{cond_both}
use Rattle.lard_law_view.specs.Prelude.{Done, Found, More, Reading, ServeEnv, Service, Step, Verdict, Via, answer, answer_code, answered, block_at, cut_of, ended_at_fin, front_reads, good_path, may_freeze, may_read, reading_turn, reads_block, reads_found, serving_consumed, serving_settled, targeted}
use Rattle.lard_base.specs.declared.place.Via.TheVariants.{Own}
use Rattle.lard_block.specs.declared.block.Found.TheVariants as found
use Rattle.lard_law_connections.proofs.PolicyAsides.{IsAside}
use Rattle.lard_rules.specs.FrontReading as front
use Rattle.lard_history.proofs.Each.{Each, Each-append}
use Rattle.lard_journal.specs.declared.rec.Rec.TheVariants as rec
use Rattle.lard_request.specs.declared.verdict.Code.TheVariants as code
use Rattle.lard_request.specs.declared.verdict.Verdict.TheVariants.{Fault}
use Rattle.lard_rules.proofs.Runs.{runs_keep}
use Rattle.lard_rules.proofs.Endings.{answered-keeps, at-fin-keeps, settled-keeps}

-- what was in hand is said, with the notes that it had
pub settled-notes : (env : ServeEnv) (w : Service) → (serving_settled env w).1.notes ≡ w.notes
settled-notes env w = settled-keeps (λ given. given.1.notes ≡ w.notes) env w (λ e. refl) (λ total e. refl)

-- all notes are aside
abbrev pub Notes : Service → Type 0
Notes w = Each IsAside w.notes

answered-notes : (env : ServeEnv) (via : Via) (v : Verdict) (w : Service) → Notes w → Notes (answered env via v w)
answered-notes env via v w h =
    let bytes : List ℕ = answer env.files v in
    let total : ℕ = w.block.send.total + length bytes in
    answered-keeps Notes env via v w
    (λ t. Each-append IsAside w.notes (rec.Reset env.place env.c total ∷ []) h (tt, tt))
    (λ t. Each-append IsAside w.notes (rec.Served env.place env.c (w.count + 1) (answer_code env.files v) (length bytes) via ∷ []) h (tt, tt))

ended-notes : (w : Service) → Notes w → Notes (ended_at_fin w)
ended-notes w h = at-fin-keeps Notes w (λ t. h) (λ t. h)

abbrev ReadsSo : Step Reading → Type 0
ReadsSo (More y) = Notes y.service
ReadsSo (Done y) = Notes y.service

targeted-notes : (path : List ℕ) (x : Reading) → Notes x.service → Notes (targeted path x).service
targeted-notes path x h = cond_both (may_freeze x.service.block) (record x { target = Some path }) x (λ y. Notes y.service) (λ t. h) (λ t. h)

block-notes : (env : ServeEnv) (x : Reading) (n : ℕ) (v : Verdict) (o : Option (List ℕ)) → Notes x.service → ReadsSo (reads_block env x n v o)
block-notes env x n v None h = answered-notes env Own v (serving_consumed n x.service) h
block-notes env x n v (Some path) h = targeted-notes path x h

found-notes : (env : ServeEnv) (x : Reading) (f : Found) → Notes x.service → ReadsSo (reads_found env x f)
found-notes env x (found.More skip) h = ended-notes (serving_consumed skip x.service) h
found-notes env x (found.Block skip len) h = block-notes env x (skip + len) (block_at x skip len) (good_path env.files (block_at x skip len)) h
found-notes env x (found.TooLong skip) h = answered-notes env Own (Fault code.FieldsTooLarge) (serving_consumed (length x.service.block.recv.unread) x.service) h

turn-notes : (env : ServeEnv) (x : Reading) → Notes x.service → ReadsSo (reading_turn env x)
turn-notes env x h = cond_both (may_read x.service) (reads_found env x (cut_of x.service.block.recv.unread)) (Done x) ReadsSo
    (λ t. found-notes env x (cut_of x.service.block.recv.unread) h) (λ t. h)

pub reads-notes : (env : ServeEnv) (x : Reading) → Notes x.service → Notes (front_reads env x).service
reads-notes env x h = runs_keep (reading_turn env) front.reading_left (λ y. Notes y.service) (record {
  more = λ y z e p. subst ReadsSo e (turn-notes env y p);
  done = λ y z e p. subst ReadsSo e (turn-notes env y p);
}) x h
