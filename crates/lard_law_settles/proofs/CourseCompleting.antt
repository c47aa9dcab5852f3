-- A job is done: a content is nearer, or nothing comes of what is sent.
use Rattle.std.proofs.Common.{◌≡◌, ◌≢◌, ◌<◌, ◌≤◌, ℕ, suc, ◌+◌, Bool, cond, List, [], ◌∷◌, length, Option, Some, None, Ok, refl, sym, ap, ◌∙◌, subst, arith}
use Rattle.lard_base.specs.declared.event.Event.TheVariants as event
use Rattle.lard_law_view.specs.Prelude.{Conn, IsConnNumber, IsMessage, Job, Machine, Move, Node, NodeSetting, NodeState, Out, Place, Rec, completed, conn, content_bytes, content_sent, disk_step, file_at, grown, job_at, letter_of, letters_of, machine_step, node_at, node_deed, node_env, node_part, node_read, node_saying, node_setting, node_step, packet_at, packet_of, with_first}
use Rattle.lard_bound.specs.Progress.{chain_at, spot_at}
use Rattle.lard_bound.specs.Spots.{Spot}
use Rattle.lard_bound.specs.Units.{Whole, machine_units}
use Rattle.lard_law_connections.proofs.Happened.{disk-is}
use Rattle.lard_law_settles.specs.CourseGame.{JobNearOn, game}
use Rattle.lard_law_settles.proofs.CourseDelivering.{new-is, still}
use Rattle.lard_law_settles.proofs.CourseFetching.{Fetches, content-nearer, content_of, gave-sends}
use Rattle.lard_law_settles.proofs.CourseGoing.{IsPlain}
use Rattle.lard_law_settles.proofs.CourseOwing.{IsStep}
use Rattle.lard_law_settles.proofs.CourseSending.{every-has}
use Rattle.lard_history.proofs.Seeing.{other_number}
use Rattle.lard_journal.specs.declared.rec.Rec.TheVariants as rec
use Rattle.lard_message.specs.declared.message.Body.TheVariants as body
use Rattle.lard_rules.specs.declared.node.BackIn.TheVariants as back
use Rattle.lard_rules.specs.Node.{message}
use Rattle.lard_rules.specs.NodePlace as place
use Rattle.lard_rounds.specs.Rounds.{AreShorter, Nearer}

-- ---- the step

-- a job for another node sends its content there, and says nothing else
pub record Sends (k : NodeSetting) (job : Job) (given : NodeState × Out) : Type 0 where
  pub segments : given.1.segments ≡ []
  pub messages : given.1.messages ≡ content_sent k job.origin job.c job.epoch.0 job.r job.path ∷ []

pub job-sends : (k : NodeSetting) (s : NodeState) (job : Job) → job_at s.disk 1 ≡ Some job → job.origin ≢ k.n → Sends k job (node_step k s (back.Disk 1))
job-sends k s job at other =
    let z : NodeState = completed k s 1 job in
    let t : NodeState × Out = place.aside z (node_saying (content_sent k job.origin job.c job.epoch.0 job.r job.path ∷ [])) in
    let r : Rec = rec.Read k.n job.origin job.c job.r job.path in
    let mine : NodeState × Out = node_deed k z job.c (node_read (node_env k z job.c job.epoch.0) (node_part z job.c) job.r) in
    let first : Sends k job (with_first r t) = record { segments = refl; messages = refl } in
    subst (λ (o : Option Job). Sends k job (disk_step k s 1 o)) (sym at)
    (subst (λ (b : Bool). Sends k job (with_first r (cond b mine t))) (sym (other_number job.origin k.n other)) first)

-- ---- what comes of it

module _ (Given : Conn → Type 0) (Came_ : Conn → Move → Type 0) (Good : Machine → Type 0) (all : ℕ → Whole) (m n : Machine) (i : ℕ) (s : IsStep Given Came_ all m n (event.Disk i 1)) (plain : IsPlain m n) where
  pub job-shorter : machine_units all m ≤ machine_units all n → AreShorter (game all Good) n (length m.net) 1
  job-shorter up k on late =
      let new = new-is Given Came_ Good all m n (event.Disk i 1) s plain k on late in
      let still_ = still Given Came_ Good all m n (event.Disk i 1) s plain up new.c new.number new.moved_ in
      let none : new.moved_.move.heads ≡ [] = new.moved_.shown.heads in
      let short = every-has (λ a. chain_at (file_at m.files) (grown (conn m new.c) new.moved_.move) a < 1) (letters_of new.moved_.move) (letter_of new.packet) (new.moved_.leads.alone.works none still_) new.has in
      let is = new.chain in
      omega (arith, short, is)

module _ (Good : Machine → Type 0) (all : ℕ → Whole) (m n : Machine) (plain : IsPlain m n) (facts : Fetches m) (spots : (q : ℕ) → IsConnNumber q → spot_at (file_at m.files) (conn n q) ≡ spot_at (file_at m.files) (conn m q))
    (i : ℕ) (job : Job) (s : NodeState) (there : node_at m.nodes i ≡ Some s) (at : job_at s.disk 1 ≡ Some job) (is : machine_step m (event.Disk i 1) ≡ Ok n) (may : IsMessage (content_of job.c job.epoch.0 job.r (content_bytes (file_at m.files job.path)))) where
  pub job-leads : (d : ℕ) → JobNearOn m (i, job) (suc d) (spot_at (file_at m.files) (conn m job.c)) → IsConnNumber job.c → Nearer (game all Good) n (length m.net) d
  job-leads d near number = go (spot_at (file_at m.files) (conn m job.c)) refl near where
    go : (o : Option Spot) → spot_at (file_at m.files) (conn m job.c) ≡ o → JobNearOn m (i, job) (suc d) o → Nearer (game all Good) n (length m.net) d
    go None spot h = absurd h
    go (Some t) spot h =
        let given : NodeState × Out = node_step (node_setting m i) s (back.Disk 1) in
        let step = disk-is m n i 1 s there is in
        let sends = job-sends (node_setting m i) s job at h.1 in
        let x : Place × List ℕ = (Node job.origin, message job.c job.epoch.0 (body.Content job.r (content_bytes (file_at m.files job.path)))) in
        let sent : packet_at n.net (length m.net + 1) ≡ Some (packet_of (Node i) x) =
        ap (λ (z : Machine). packet_at z.net (length m.net + 1)) step ∙ gave-sends m i s there (event.Disk i 1) [] given x sends.segments sends.messages in
        let spot_behind : spot_at (file_at n.files) (conn n job.c) ≡ Some t = ap (λ f. spot_at (file_at f) (conn n job.c)) plain.files ∙ spots job.c number ∙ spot in
        let two : 2 ≤ suc d = h.2 in
        content-nearer Good all m n plain job.c job.epoch.0 job.r job.origin i d (content_bytes (file_at m.files job.path)) number may t spot_behind h.0 (omega (arith, two)) sent
