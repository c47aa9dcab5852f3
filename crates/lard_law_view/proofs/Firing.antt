-- A timer of a machine of the cluster fires, a segment comes to the front end, or a job of a disk is completed.
use Rattle.std.proofs.Common.{◌≡◌, ℕ, zero, suc, ◌-◌, ◌==◌, Bool, true, false, cond, List, [], ◌∷◌, ◌++◌, take, drop, map, Option, Some, None, refl, sym, ap, subst, arith, eqb-true}
use Rattle.std.proofs.lemmas.Bool.{cond_both}
use Rattle.std.specs.Prelude.{slice_get}
use Rattle.std.specs.FinMap as table
use Rattle.std.specs.List.{AllByRecursion}
use Rattle.lard_law_view.specs.Prelude.{AreNumbered, Client, Conn, Event, Front, FrontEnv, FrontPart, IsConnNumber, IsNodeEnv, IsViewed, Job, Machine, Move, Node, NodeEnv, NodePart, NodeState, Out, Packet, Rec, Rules, Station, ToCluster, aside, completed, conn, content_sent, decoded, disk_step, epoch_in, event_seen, front_acts, front_env, front_gets, front_part, front_setting, front_timer, is_no_job, job_at, leaves_at, node_at, node_deed, node_does, node_env, node_epoch_at, node_gave, node_part, node_read, node_saying, node_setting, node_step, node_timer, packet_at, packet_seen, part_of, reads_first, sent_of, setting_of, with_first, without_job}
use Rattle.lard_base.specs.declared.event.Event.TheVariants as event
use Rattle.lard_law_view.proofs.FrontActs.{front-acts}
use Rattle.lard_law_view.proofs.Fronts as fronts
use Rattle.lard_law_view.proofs.Heads.{comes, completes, names, was}
use Rattle.lard_law_view.proofs.NodeActs.{aside-acts, deed-acts}
use Rattle.lard_law_view.proofs.Nodes as nodes
use Rattle.lard_law_view.proofs.Nothing.{numbered}
use Rattle.lard_law_view.proofs.Numbers.{client-number}
use Rattle.lard_law_view.proofs.Parts.{node-kept}
use Rattle.lard_law_view.proofs.Saying.{AreMessages}
use Rattle.lard_law_view.proofs.Shapes.{Shapes}
use Rattle.lard_law_view.proofs.Turned.{sent-messages, spelled}
use Rattle.lard_law_view.proofs.Works.{all-append}
use Rattle.lard_journal.specs.declared.rec.Rec.TheVariants as rec
use Rattle.lard_message.specs.declared.message.Body.TheVariants as body
use Rattle.lard_rules.specs.declared.node.BackIn.TheVariants as back
use Rattle.lard_rules.specs.declared.front.FrontIn.TheVariants as input

-- ---- lists

module _ {A : Type 0} (P : A → Type 0) where
  all-take : (i : ℕ) (xs : List A) → AllByRecursion P xs → AllByRecursion P (take i xs)
  all-take zero xs e = tt
  all-take (suc i) [] e = tt
  all-take (suc i) (x ∷ xs) e = (e.0, all-take i xs e.1)

  all-drop : (i : ℕ) (xs : List A) → AllByRecursion P xs → AllByRecursion P (drop i xs)
  all-drop zero xs e = e
  all-drop (suc i) [] e = tt
  all-drop (suc i) (x ∷ xs) e = all-drop i xs e.1

  all-got : (xs : List A) (i : ℕ) (x : A) → slice_get xs i ≡ Some x → AllByRecursion P xs → P x
  all-got [] i x is e = let no : None ≡ Some x = is in absurd cc
  all-got (y ∷ xs) zero x is e = let same : y ≡ x = cc in subst P same e.0
  all-got (y ∷ xs) (suc i) x is e = all-got xs i x is e.1

-- a job that is there is of a connection, and so are the others
job-number : (jobs : List Job) (j : ℕ) (job : Job) → job_at jobs j ≡ Some job → AreNumbered jobs → IsConnNumber job.c
job-number jobs j job is of = go (j == 0) is where
  go : (b : Bool) → cond b None (slice_get jobs (j - 1)) ≡ Some job → IsConnNumber job.c
  go true e = let no : None ≡ Some job = e in absurd cc
  go false e = all-got (λ (job : Job). IsConnNumber job.c) jobs (j - 1) job e of

others-numbered : (jobs : List Job) (j : ℕ) → AreNumbered jobs → AreNumbered (without_job jobs j)
others-numbered jobs j of = cond_both (j == 0) jobs (take (j - 1) jobs ++ drop (suc (j - 1)) jobs) AreNumbered (λ t. of)
    (λ t. all-append (λ (job : Job). IsConnNumber job.c) (take (j - 1) jobs) (drop (suc (j - 1)) jobs)
    (all-take (λ (job : Job). IsConnNumber job.c) (j - 1) jobs of) (all-drop (λ (job : Job). IsConnNumber job.c) (suc (j - 1)) jobs of))

-- ---- the front end

module _ (m : Machine) (view : IsViewed m) (P : Conn → Move → Type 0) (R : Rules (setting_of m) P) (Q : Event → Machine → Type 0) (shapes : Shapes m P Q) where
  module _ (c : ℕ) (x : Station) (there : table.get m.clients c ≡ Some x) where
    opened : IsConnNumber c
    unfolding conn part_of
    opened = client-number (conn m c) x (view.sound c) there

    station-there : (conn m c).part.station ≡ Some x
    unfolding conn part_of
    station-there = there

    front-kept : AreMessages c Front (map sent_of (front_part m.front c).kept)
    unfolding conn part_of
    front-kept = sent-messages (conn m c) Front (front_part m.front c).kept (view.sound c).between (view.sound c).front

    pub front-fires : Q (event.Timer Front c) (front_acts m (event.Timer Front c) [] (input.Timer c))
    unfolding conn part_of
    front-fires =
        let env : FrontEnv = front_env (front_setting m) m.front c 0 in
        let p : FrontPart = front_part m.front c in
        front-acts m P Q shapes (event.Timer Front c) c (event_seen (event.Timer Front c)) opened (names m (event.Timer Front c) Front c refl (λ J. refl) tt) refl (front_timer env p) (fronts.fires-deed env refl opened p front-kept)
        (R.untouched.front.fires (conn m c) x env there (record { place = refl; number = refl; files = refl; stream = refl }))

    pub front-gets : (k : ℕ) (l : Packet) → packet_at m.net k ≡ Some l → l.lost ≡ false → l.from ≡ Client c → l.to ≡ Front
        → Q (event.Deliver k) (front_acts m (event.Deliver k) (rec.Got k ∷ []) (input.Segment c (record { 0 = x.iss }) l.bytes))
    unfolding conn part_of
    front-gets k l at on from to =
        let env : FrontEnv = front_env (front_setting m) m.front c x.iss in
        let p : FrontPart = front_part m.front c in
        front-acts m P Q shapes (event.Deliver k) c (packet_seen (Client c) Front l.bytes) opened (comes m k c l at (Client c) Front from to refl on) refl (front_gets env p l.bytes (decoded l.bytes c ToCluster))
        (fronts.gets-deed env refl opened p front-kept l.bytes (decoded l.bytes c ToCluster))
        (R.untouched.front.hears (conn m c) x env l.bytes there (record { place = refl; number = refl; files = refl; stream = refl }) refl (was m k c l at (Client c) Front from to refl))

    -- ---- a node's timer

    pub node-fires : (n : ℕ) (s : NodeState) → node_at m.nodes n ≡ Some s → Q (event.Timer (Node n) c) (node_gave m (event.Timer (Node n) c) [] n (node_step (node_setting m n) s (back.Timer c)))
    unfolding conn
    node-fires n s here =
        let e : Event = event.Timer (Node n) c in
        let env : NodeEnv = node_env (node_setting m n) s c (node_epoch_at s c) in
        let kept-is : (part_of m c).nodes n ≡ node_part s c = node-kept m n s c here in
        let kept : AreMessages c (Node n) (map sent_of (node_part s c).kept) =
        subst (λ (p : NodePart). AreMessages c (Node n) (map sent_of p.kept)) kept-is (sent-messages (conn m c) (Node n) ((part_of m c).nodes n).kept (view.sound c).between ((view.sound c).kept n)) in
        let fetches : AreMessages c (Node n) (map sent_of (node_part s c).fetches) =
        subst (λ (p : NodePart). AreMessages c (Node n) (map sent_of p.fetches)) kept-is (sent-messages (conn m c) (Node n) ((part_of m c).nodes n).fetches (view.sound c).between ((view.sound c).fetches n)) in
        let is-env : IsNodeEnv (setting_of m) c n (epoch_in ((part_of m c).nodes n)) env =
        record { place = refl; number = refl; files = refl; stream = refl; node = refl; epoch_is = ap epoch_in (sym kept-is); leaves = ap leaves_at (sym here); remains = view.remain n s here } in
        let moves : P (conn m c) (node_does (conn m c) n (event_seen e) (node_timer env ((conn m c).part.nodes n))) =
        R.untouched.node.fires (conn m c) x n env station-there is-env in
        deed-acts m P Q shapes e c (event_seen e) opened n (names m e (Node n) c refl (λ J. refl) tt) refl s here [] tt (λ j. refl) (λ rs. refl) s.cache s.disk (view.jobs n s here) (node_setting m n) (node_timer env (node_part s c)) refl
        (nodes.fires-deed env refl opened (node_part s c) kept fetches)
        (subst (λ (p : NodePart). P (conn m c) (node_does (conn m c) n (event_seen e) (node_timer env p))) kept-is moves)

  -- ---- a job of a disk is completed

  module _ (n : ℕ) (s : NodeState) (here : node_at m.nodes n ≡ Some s) (j : ℕ) (job : Job) (number : IsConnNumber job.c) where
    abbrev read_of : ℕ → Rec
    read_of origin = rec.Read n origin job.c job.r job.path

    abbrev after : NodeState
    after = completed (node_setting m n) s j job

    -- the job was for this node's own request
    own-read : job.origin ≡ n → Q (event.Disk n j) (node_gave m (event.Disk n j) [] n (with_first (read_of job.origin)
        (node_deed (node_setting m n) after job.c (node_read (node_env (node_setting m n) after job.c job.epoch.0) (node_part after job.c) job.r))))
    unfolding conn
    own-read own =
        let env : NodeEnv = node_env (node_setting m n) after job.c job.epoch.0 in
        let kept-is : (part_of m job.c).nodes n ≡ node_part s job.c = node-kept m n s job.c here in
        let moves : P (conn m job.c) (reads_first (read_of n) (node_does (conn m job.c) n [] (node_read env ((part_of m job.c).nodes n) job.r))) =
        R.untouched.node.read (conn m job.c) n job.epoch.0 job.r env job.path (record { place = refl; number = refl; files = refl; stream = refl; node = refl; epoch_is = refl; leaves = ap leaves_at (sym here); remains = view.remain n s here }) in
        deed-acts m P Q shapes (event.Disk n j) job.c [] number n (completes m n j job.c) refl s here (read_of job.origin ∷ []) ((refl, refl), tt) (λ k. refl) (λ rs. refl)
        after.cache after.disk (others-numbered s.disk j (view.jobs n s here)) (node_setting m n) (node_read env (node_part s job.c) job.r) refl
        (nodes.read-deed env refl number (node_part s job.c) job.r)
        (subst (λ (o : ℕ). P (conn m job.c) (reads_first (read_of o) (node_does (conn m job.c) n [] (node_read env (node_part s job.c) job.r)))) (sym own)
        (subst (λ (p : NodePart). P (conn m job.c) (reads_first (read_of n) (node_does (conn m job.c) n [] (node_read env p job.r)))) kept-is moves))

    -- it was for another node
    brings : Q (event.Disk n j) (node_gave m (event.Disk n j) [] n (with_first (read_of job.origin)
        (aside after (node_saying (content_sent (node_setting m n) job.origin job.c job.epoch.0 job.r job.path ∷ [])))))
    unfolding conn
    brings =
        aside-acts m P Q shapes (event.Disk n j) job.c [] number n (completes m n j job.c) refl s here (read_of job.origin ∷ []) ((refl, refl), tt) (λ k. refl) (λ rs. refl)
        after.cache after.disk (others-numbered s.disk j (view.jobs n s here)) (node_saying (content_sent (node_setting m n) job.origin job.c job.epoch.0 job.r job.path ∷ []))
        (record { notes = tt; segments = tt; gave = tt; messages = ((tt, spelled job.c job.epoch.0 (body.Content job.r _) number), tt); counted = λ n. omega arith }) tt
        (R.untouched.node.brings (conn m job.c) n job.origin job.epoch.0 job.r job.path)

    job-completes : Q (event.Disk n j) (node_gave m (event.Disk n j) [] n (disk_step (node_setting m n) s j (Some job)))
    job-completes = cond_both (job.origin == n)
        (node_deed (node_setting m n) after job.c (node_read (node_env (node_setting m n) after job.c job.epoch.0) (node_part after job.c) job.r))
        (aside after (node_saying (content_sent (node_setting m n) job.origin job.c job.epoch.0 job.r job.path ∷ [])))
        (λ (x : NodeState × Out). Q (event.Disk n j) (node_gave m (event.Disk n j) [] n (with_first (read_of job.origin) x)))
        (λ t. own-read (eqb-true job.origin n t)) (λ t. brings)

  pub disk-completes : (n : ℕ) (s : NodeState) → node_at m.nodes n ≡ Some s → (j : ℕ) → is_no_job s j ≡ false → Q (event.Disk n j) (node_gave m (event.Disk n j) [] n (node_step (node_setting m n) s (back.Disk j)))
  disk-completes n s here j there =
      let got = numbered s.disk j there in
      subst (λ (o : Option Job). Q (event.Disk n j) (node_gave m (event.Disk n j) [] n (disk_step (node_setting m n) s j o))) (sym got.1)
      (job-completes n s here j got.0 (job-number s.disk j got.0 got.1 (view.jobs n s here)))
