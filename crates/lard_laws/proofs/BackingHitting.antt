-- What backs each response of a node's turn stands behind what told the node where the request is assigned, and so it is of what it keeps
-- in hand. And the jobs that it tells are the node's own.
use Rattle.std.proofs.Common.{◌≡◌, ◌<◌, ◌+◌, ◌-◌, ◌==◌, ◌&&◌, is_some, eq-eqb, nat_lt, ℕ, Bool, true, false, List, [], ◌∷◌, ◌++◌, length, slice_get, Option, Some, None, refl, sym, ap, ◌∙◌, subst, arith, append_assoc, append-nil, inl}
use Rattle.std.proofs.lemmas.Bool.{and_from, cond_both, ltb-true}
use Rattle.std.proofs.lemmas.List.{length_push}
use Rattle.std.specs.List.{find}
use Rattle.lard_law_view.specs.Prelude.{Completed, Content, ControlBlock, Done, EachMay, Ending, EndpointParts, Entry, FilesAt, More, Next, Node, NodeDeed, NodeEnv, NodeGets, NodePart, Offered, Place, Progress, Rec, Service, Stay, Step, Tagged, Turn, Verdict, Work, after_timer, again_sent, answer, answer_code, asks_for, batch_of, bytes_used, came_for, come_on, come_progress, entered, enters, enters_first, finishing, gave_by, gives_back, goes_on, good_path, here, is_tag_awaited, is_touched, is_under, kept_after, named_path, named_paths, net_of, next_of, node_begins, node_rule, offer_answer, on_segment, passed_over, progress_of, queued, read_entry, read_progress, reads_batch, reads_these, seen_on, serves_by, serves_first, serves_with, serving, serving_consumed, serving_ready_of, serving_settled, spoken, started, started_here, started_there, starts_at, starts_named, starts_one, state_of, stay_turn, tagged, taken_sent, timed, turn_by, turned, with_work, without, work_left, work_of, wrote}
use Rattle.lard_base.specs.declared.place.TimerKind.TheVariants as timer
use Rattle.lard_base.specs.declared.place.Via.TheVariants as via
use Rattle.lard_law_connections.proofs.AwaitsNodes.{HasServed, settled-served, spoken-served}
use Rattle.lard_laws.proofs.BackingAssignments.{HasAssignment}
use Rattle.lard_laws.specs.BackingRequests.{IsFor}
use Rattle.lard_laws.specs.BackingTold.{WasTold}
use Rattle.lard_laws.proofs.BackingHeld.{Anything, AreHeld, HasCome, Holds, IsHit, IsQueued, Started, StayHits, Ways, assigned-past, batch-more, come-held, content-come, gone-hits, held-weaker, job-done, one-more, pushed, stay-more, told-more, ways-more}
use Rattle.lard_laws.proofs.BackingMarks.{for-later, untouched-before}
use Rattle.lard_laws.proofs.BackingNumbers.{assigned-on}
use Rattle.lard_laws.proofs.BackingTurns.{EachNamed, FirstBy, FirstIn}
use Rattle.lard_law_connections.proofs.PlacesLoops.{settled-is}
use Rattle.lard_handoff_back.specs.declared.table.Adopt.TheVariants.{New}
use Rattle.lard_history.proofs.Each.{Each, Each-append, Each-weaker, each_append}
use Rattle.lard_history.proofs.Seeing.{has-behind}
use Rattle.lard_journal.specs.declared.rec.Rec.TheVariants as rec
use Rattle.lard_rules.specs.declared.stay.Next.TheVariants as next
use Rattle.lard_rules.specs.declared.stay.Progress.TheVariants as progress
use Rattle.lard_laws.proofs.NodeHere.{here-of}
use Rattle.lard_rules.proofs.NodeCases.{IsHereWith, IsOfItsEpoch, KeptByNode, Turned, node-keeps, of-here}
use Rattle.lard_rules.specs.Node.{Does, Drops, Says}
use Rattle.lard_rules.specs.declared.places.Ending.TheVariants as ending
use Rattle.lard_rules.proofs.Runs.{runs_keep}

-- ---- responses

-- what is so of a response of a node, and of a job of its own
abbrev pub MayHit : FilesAt → List Rec → Rec → Type 0
MayHit files past (rec.Served (Node n) c r code size way) = (epoch : ℕ) × Ways files n c epoch past r way
MayHit files past (rec.Queued n m c r path) = is_touched past c ≡ false → m ≡ n → (epoch : ℕ) × Started files n c epoch (Anything files n c epoch) past r
MayHit files past _ = Unit {0}

-- it is neither
abbrev pub IsQuiet : Rec → Type 0
IsQuiet (rec.Served (Node n) c r code size way) = ⊥
IsQuiet (rec.Queued n m c r path) = ⊥
IsQuiet _ = Unit {0}

-- a job that it tells is the node's own
abbrev pub IsOwn : Rec → Type 0
IsOwn (rec.Queued n m c r path) = m ≡ n
IsOwn _ = Unit {0}

abbrev pub IsStill : Rec → Type 0
IsStill r = IsQuiet r × IsOwn r

pub quiet-may : (files : FilesAt) (past : List Rec) (r : Rec) → IsQuiet r → MayHit files past r
quiet-may files past (rec.Served (Node n) c r code size way) h = absurd h
quiet-may files past (rec.Queued n m c r path) h = absurd h
quiet-may files past _ h = tt

pub quiets-may : (files : FilesAt) (past rs : List Rec) → Each IsQuiet rs → EachMay (MayHit files) past rs
quiets-may files past [] h = tt
quiets-may files past (r ∷ rs) h = (quiet-may files past r h.0, quiets-may files (past ++ r ∷ []) rs h.1)

pub stills-may : (files : FilesAt) (past rs : List Rec) → Each IsStill rs → EachMay (MayHit files) past rs
stills-may files past rs h = quiets-may files past rs (Each-weaker IsStill IsQuiet (λ r k. k.0) rs h)

-- what a node notes before the first request that starts: where that is assigned for no Ask, it takes the connection
abbrev pub begins_by : ℕ → ℕ → ℕ → Option ℕ → List Rec
begins_by n c epoch None = rec.Took (Node n) c (record { 0 = epoch }) ∷ []
begins_by n c epoch (Some number) = []

-- ---- a node's rules

module _ (env : NodeEnv) (at_node : env.serve.place ≡ Node env.n) (base : List Rec) where
  abbrev files_at : FilesAt
  files_at = env.serve.files

  abbrev n : ℕ
  n = env.n

  abbrev c : ℕ
  c = env.serve.c

  abbrev W : List Rec → ℕ → Progress → Type 0
  W J = Holds files_at n c env.epoch J

  -- what is kept behind a deed, what it notes and gives up, and that its jobs are the node's own
  abbrev pub DeedHits : NodeDeed → Type 0
  DeedHits Drops = Unit {0}
  DeedHits (Says ms) = Unit {0}
  DeedHits (Does given) = StayHits files_at n c (base ++ given.1.notes) given.0.row given.0.stay × EachMay (MayHit files_at) base given.1.notes × Each IsStill given.1.gave × Each IsOwn given.1.notes

  -- ---- turn by turn, behind these notes

  -- what was noted may stand, and its jobs are the node's own
  abbrev AreNoted : List Rec → Type 0
  AreNoted rs = EachMay (MayHit files_at) base rs × Each IsOwn rs

  module _ (start : List Rec) (silent : AreNoted start) where
    abbrev J : List Rec
    J = base ++ start

    abbrev IsTold : Rec → Type 0
    IsTold (rec.Served p d r code size way) = (p ≡ Node n) × (d ≡ c) × Ways files_at n c env.epoch (base ++ start) r way
    IsTold (rec.Queued k m d r path) = ⊥
    IsTold _ = Unit {0}

    record Goes (k : Work) : Type 0 where
      batch : AreHeld (W J) (k.service.count + 1) k.batch
      more : List Rec
      notes : k.service.notes ≡ start ++ more
      each : Each IsTold more

    noted : (ns more : List Rec) (r : Rec) → ns ≡ start ++ more → ns ++ r ∷ [] ≡ start ++ (more ++ r ∷ [])
    noted ns more r e = ap (λ (l : List Rec). l ++ r ∷ []) e ∙ append_assoc start more (r ∷ [])

    read-by : (v : Verdict) (i : ℕ) → W J i (read_entry files_at v).progress
    read-by v i = go (good_path files_at v) where
      go : (o : Option (List ℕ)) → W J i (progress_of o)
      go None = tt
      go (Some path) = tt

    quiet-enters : (r : ℕ) (vs : List Verdict) (k : Work) → Goes k → Goes (enters env false r vs k)
    unfolding enters
    quiet-enters r [] k h = h
    quiet-enters r (v ∷ vs) k h = quiet-enters (r + 1) vs (entered (read_entry files_at v) k)
        (record { batch = pushed (W J) (k.service.count + 1) ((k.service.count + 1) + length k.batch) k.batch (read_entry files_at v) refl h.batch (read-by v ((k.service.count + 1) + length k.batch)); more = h.more; notes = h.notes; each = h.each })

    asks-go : (size : ℕ) (paths : List (List ℕ)) (k : Work) → Goes k → Goes (asks_for env size paths k)
    asks-go size [] k h = h
    asks-go size (path ∷ paths) k h = record { batch = h.batch; more = h.more; notes = h.notes; each = h.each }

    abbrev StepGoes : Step Work → Type 0
    StepGoes (More k) = Goes k
    StepGoes (Done k) = Goes k

    these-go : (used : ℕ) (k : Work) (vs : List Verdict) → Goes k → StepGoes (reads_these env false used k vs)
    these-go used k [] h = cond_both (serving_consumed used k.service).block.recv.fin (record (serving_consumed used k.service) { block = finishing (serving_consumed used k.service).block }) (serving_consumed used k.service) (λ (s : Service). Goes (record k { service = s }))
        (λ t. record { batch = h.batch; more = h.more; notes = h.notes; each = h.each }) (λ t. record { batch = h.batch; more = h.more; notes = h.notes; each = h.each })
    these-go used k (v ∷ vs) h =
        let rest : Work = record k { service = serving_consumed used k.service } in
        let all : Work = enters env false (k.service.count + 1) (v ∷ vs) rest in
        asks-go (length (v ∷ vs)) (named_paths files_at all.batch) all (quiet-enters (k.service.count + 1) (v ∷ vs) rest (record { batch = h.batch; more = h.more; notes = h.notes; each = h.each }))

    serves-by : (e : Entry) (rest : List Entry) (k : Work) (p : Progress) → e.progress ≡ p → Goes k → AreHeld (W J) (k.service.count + 1) (e ∷ rest) → Goes (serves_by env e rest k p)
    serves-by e rest k (progress.Ready way) at same h =
        let bytes = answer files_at e.verdict in
        let total = k.service.block.send.total + length bytes in
        let reset : Rec = rec.Reset env.serve.place env.serve.c total in
        let served : Rec = rec.Served env.serve.place env.serve.c (k.service.count + 1) (answer_code files_at e.verdict) (length bytes) way in
        cond_both (nat_lt env.serve.stream total) (passed_over env.serve total k.service) (queued env.serve way e.verdict bytes k.service) (λ (s : Service). Goes (serves_with s e rest k))
        (λ t. record { batch = h; more = same.more ++ reset ∷ []; notes = noted k.service.notes same.more reset same.notes; each = Each-append IsTold same.more (reset ∷ []) same.each (tt, tt) })
        (λ t. record {
          batch = h.1;
          more = same.more ++ served ∷ [];
          notes = noted k.service.notes same.more served same.notes;
          each = Each-append IsTold same.more (served ∷ []) same.each ((at_node, refl, subst (W J (k.service.count + 1)) at h.0), tt);
        })
    serves-by e rest k _ at same h = same

    serves-go : (k : Work) (es : List Entry) → Goes k → AreHeld (W J) (k.service.count + 1) es → Goes (serves_first env k es)
    serves-go k [] same h = same
    serves-go k (e ∷ rest) same h = serves-by e rest k e.progress refl same h

    turned-go : (k : Work) (x : Next) → Goes k → StepGoes (turned env k x)
    turned-go k next.Serve h = serves-go k k.batch h h.batch
    turned-go k next.Read h = cond_both env.leaving (Done k) (reads_batch env false k) StepGoes (λ leaves. h) (λ stays. these-go (bytes_used 8 k.service.block.recv.unread) k (batch_of 8 k.service.block.recv.unread) h)
    turned-go k next.Stop h = h

    all-go : (k : Work) → Goes k → Goes (goes_on env k)
    all-go k h = runs_keep (stay_turn env) work_left Goes (record {
      more = λ y z e p. subst StepGoes e (turned-go y (next_of y) p);
      done = λ y z e p. subst StepGoes e (turned-go y (next_of y) p);
    }) k h

    -- ---- the end of a turn

    told-own : (r : Rec) → IsTold r → IsOwn r
    told-own (rec.Queued k m d r path) h = absurd h
    told-own _ h = tt

    told-may : (past : List Rec) (r : Rec) → IsTold r → MayHit files_at (J ++ past) r
    told-may past (rec.Served (Node m) d r code size way) h =
        (env.epoch, subst (λ (i : ℕ). Ways files_at i d env.epoch (J ++ past) r way) (sym (node-same m n h.0)) (subst (λ (i : ℕ). Ways files_at n i env.epoch (J ++ past) r way) (sym h.1) (ways-more files_at n c env.epoch J past r way h.2))) where
          node-same : (a b : ℕ) → Node a ≡ Node b → a ≡ b
          node-same a b e = cc
    told-may past (rec.Queued k m d r path) h = absurd h
    told-may past _ h = tt

    tolds-may : (past rs : List Rec) → Each IsTold rs → EachMay (MayHit files_at) (J ++ past) rs
    tolds-may past [] h = tt
    tolds-may past (r ∷ rs) h = (told-may past r h.0, subst (λ (l : List Rec). EachMay (MayHit files_at) l rs) (sym (append_assoc J past (r ∷ []))) (tolds-may (past ++ r ∷ []) rs h.1))

    notes-may : (ns more : List Rec) → ns ≡ start ++ more → Each IsTold more → AreNoted ns
    notes-may ns more is each = (
      subst (EachMay (MayHit files_at) base) (sym is) (each_append (MayHit files_at) base start more silent.0 (subst (λ (l : List Rec). EachMay (MayHit files_at) l more) (append-nil J) (tolds-may [] more each))),
      subst (Each IsOwn) (sym is) (Each-append IsOwn start more silent.1 (Each-weaker IsTold IsOwn told-own more each)),
    )

    ends-hit : (p : NodePart) (before : List (Place × List ℕ)) (k : Work) (given : Ending × Turn) → HasServed k.service.count given.0 → given.1.notes ≡ k.service.notes → Goes k → DeedHits (Does (kept_after env p k given.0, turn_by env before k given))
    ends-hit p before k given served same h =
        let is : given.1.notes ≡ start ++ h.more = same ∙ h.notes in
        let noted : AreNoted given.1.notes = notes-may given.1.notes h.more is h.each in (
          subst (λ (ns : List Rec). StayHits files_at n c (base ++ ns) (kept_after env p k given.0).row (kept_after env p k given.0).stay) (sym is)
              (subst (λ (l : List Rec). StayHits files_at n c l (kept_after env p k given.0).row (kept_after env p k given.0).stay) (append_assoc base start h.more)
              (stay-more files_at n c J h.more (kept_after env p k given.0).row (kept_after env p k given.0).stay (stay given.0 served))),
          noted.0,
          gave given.0,
          noted.1,
        ) where
          gave : (e : Ending) → Each IsStill (gave_by env e)
          gave (ending.Here b count) = tt
          gave (ending.Over last) = ((tt, tt), tt)

          stay : (e : Ending) → HasServed k.service.count e → StayHits files_at n c J (kept_after env p k e).row (kept_after env p k e).stay
          stay (ending.Here b count) at = subst (λ (i : ℕ). AreHeld (W J) (i + 1) k.batch) (sym at) h.batch
          stay (ending.Over last) at = tt

    works-hit : (p : NodePart) (before : List (Place × List ℕ)) (k : Work) → Goes k → DeedHits (with_work env p before (goes_on env k))
    works-hit p before k h = ends-hit p before (goes_on env k) (serving_settled env.serve (goes_on env k).service) (settled-served env.serve (goes_on env k).service) (settled-is env.serve (goes_on env k).service).notes (all-go k h)

    -- nothing is kept of one that goes back
    backs-hit : (p : NodePart) (before : List (Place × List ℕ)) (k : Work) → Goes k → DeedHits (gives_back env p before k)
    backs-hit p before k h = let noted : AreNoted k.service.notes = notes-may k.service.notes h.more h.notes h.each in (tt, noted.0, ((tt, tt), tt), noted.1)

    turns-hit : (p : NodePart) (k : Work) → Goes k → Turned DeedHits env p [] (goes_on env k)
    turns-hit p k h = (λ rests. works-hit p [] k h, λ back. backs-hit p [] (goes_on env k) (all-go k h))

  -- ---- requests start

  abbrev N : Work → List Rec
  N k = base ++ k.service.notes

  -- where they are assigned for this Ask
  module _ (ask : Option ℕ) where
    abbrev start : List Rec
    start = begins_by n c env.epoch ask

    -- It is for this path, and was assigned so.
    abbrev pub IsMeant : ℕ → List ℕ → Type 0
    IsMeant r path = IsFor files_at (wrote base c) r path × HasAssignment files_at (wrote base c) (base ++ begins_by n c env.epoch ask) c r ask

    -- as long as the schedule did not touch the connection
    abbrev pub ForIf : ℕ → List ℕ → Type 0
    ForIf r path = is_touched base c ≡ false → IsMeant r path

    record Starts (k : Work) (r : ℕ) : Type 0 where
      batch : AreHeld (W (N k)) (k.service.count + 1) k.batch
      silent : AreNoted k.service.notes
      later : List Rec
      notes : k.service.notes ≡ start ++ later
      told : WasTold (N k) n c env.epoch ask
      next_is : r ≡ (k.service.count + 1) + length k.batch

    -- what starts behind these notes, and stands so
    begun : (P : List ℕ → List Rec → List Rec → Type 0) (r : ℕ) (path : List ℕ) (k : Work) (more : List Rec) → ForIf r path → Starts k r → P path (N k) more → (J : List Rec) → J ≡ N k ++ more → Started files_at n c env.epoch P J r
    begun P r path k more for h stands J is = record {
      path = path;
      ask = ask;
      before = N k;
      later = more;
      split = is;
      told = h.told;
      for = λ u.
          let all : J ≡ base ++ (k.service.notes ++ more) = is ∙ append_assoc base k.service.notes more in
          let f : IsMeant r path = for (untouched-before base (k.service.notes ++ more) c (subst (λ (l : List Rec). is_touched l c ≡ false) all u)) in
          let now : (base ++ start) ++ h.later ≡ N k = append_assoc base start h.later ∙ ap (λ (l : List Rec). base ++ l) (sym h.notes) in (
            subst (λ (l : List Rec). IsFor files_at (wrote l c) r path) (sym all) (for-later files_at base (k.service.notes ++ more) c r path f.0),
            subst (λ (l : List Rec). HasAssignment files_at (wrote l c) (N k) c r ask) (sym all) (assigned-on files_at base (k.service.notes ++ more) (N k) c r path ask f.0
                (subst (λ (l : List Rec). HasAssignment files_at (wrote base c) l c r ask) now (assigned-past files_at (wrote base c) (base ++ start) h.later c r ask f.1))),
          );
      stands = stands;
    }

    -- one more is entered, behind one more note
    longer : (k : Work) (x : Rec) → N k ++ x ∷ [] ≡ base ++ (k.service.notes ++ x ∷ [])
    longer k x = append_assoc base k.service.notes (x ∷ [])

    note-starts : (x : Rec) (r : ℕ) (e : Entry) (k : Work) (j : Work) → j.service.notes ≡ k.service.notes ++ x ∷ [] → j.service.count ≡ k.service.count → j.batch ≡ k.batch ++ e ∷ [] → Starts k r → MayHit files_at (N k) x → IsOwn x → W (N k ++ x ∷ []) r e.progress → Starts j (r + 1)
    note-starts x r e k j notes count batch h may its_own by =
        let J : List Rec = base ++ (k.service.notes ++ x ∷ []) in
        record {
          batch = subst (λ (es : List Entry). AreHeld (W (N j)) (j.service.count + 1) es) (sym batch)
              (subst (λ (i : ℕ). AreHeld (W (N j)) (i + 1) (k.batch ++ e ∷ [])) (sym count)
              (subst (λ (l : List Rec). AreHeld (W l) (k.service.count + 1) (k.batch ++ e ∷ [])) (longer k x ∙ ap (λ (l : List Rec). base ++ l) (sym notes))
              (pushed (W (N k ++ x ∷ [])) (k.service.count + 1) r k.batch e h.next_is (batch-more files_at n c env.epoch (N k) (x ∷ []) (k.service.count + 1) k.batch h.batch) by)));
          silent = subst AreNoted (sym notes) (each_append (MayHit files_at) base k.service.notes (x ∷ []) h.silent.0 (may, tt), Each-append IsOwn k.service.notes (x ∷ []) h.silent.1 (its_own, tt));
          later = h.later ++ x ∷ [];
          notes = notes ∙ ap (λ (l : List Rec). l ++ x ∷ []) h.notes ∙ append_assoc start h.later (x ∷ []);
          told = subst (λ (l : List Rec). WasTold l n c env.epoch ask) (longer k x ∙ ap (λ (l : List Rec). base ++ l) (sym notes)) (told-more (N k) (x ∷ []) n c env.epoch ask h.told);
          next_is = let is = h.next_is in let long = ap length batch in omega (arith, is, long, count, length_push k.batch e);
        }

    -- or behind none
    stay-starts : (r : ℕ) (e : Entry) (k : Work) → Starts k r → W (N k) r e.progress → Starts (entered e k) (r + 1)
    stay-starts r e k h by = record {
      batch = pushed (W (N k)) (k.service.count + 1) r k.batch e h.next_is h.batch by;
      silent = h.silent;
      later = h.later;
      notes = h.notes;
      told = h.told;
      next_is = let is = h.next_is in omega (arith, is, length_push k.batch e);
    }

    here-starts : (r : ℕ) (path : List ℕ) (v : Verdict) (k : Work) → ForIf r path → Starts k r → Starts (started_here env r path v k) (r + 1)
    here-starts r path v k for h =
        let hit : Rec = rec.Hit n path in
        let job : Rec = rec.Queued n n c r path in
        cond_both (env.cached path) _ _ (λ (u : Work). Starts u (r + 1))
        (λ t. note-starts hit r (record { verdict = v; progress = progress.Ready via.Cache }) k _ refl refl refl h tt tt (begun (IsHit files_at n c env.epoch) r path k (hit ∷ []) for h (inl refl) (N k ++ hit ∷ []) refl))
        (λ t. note-starts job r (record { verdict = v; progress = progress.Reading }) k _ refl refl refl h (λ u own. (env.epoch, begun (λ path before later. Unit {0}) r path k [] for h tt (N k) (sym (append-nil (N k))))) refl (begun (IsQueued files_at n c env.epoch r) r path k (job ∷ []) for h (inl refl) (N k ++ job ∷ []) refl))

    there-starts : (node r : ℕ) (path : List ℕ) (v : Verdict) (k : Work) → ForIf r path → Starts k r → Starts (started_there node r path v k) (r + 1)
    there-starts node r path v k for h =
        let next = stay-starts r (record { verdict = v; progress = progress.Awaited node }) k h (begun (λ path before later. Unit {0}) r path k [] for h tt (N k) (sym (append-nil (N k)))) in
        record { batch = next.batch; silent = next.silent; later = next.later; notes = next.notes; told = next.told; next_is = next.next_is }

    started-starts : (node r : ℕ) (path : List ℕ) (v : Verdict) (k : Work) → ForIf r path → Starts k r → Starts (started env node r path v k) (r + 1)
    started-starts node r path v k for h = cond_both (node == env.n) (started_here env r path v k) (started_there node r path v k) (λ (u : Work). Starts u (r + 1)) (λ t. here-starts r path v k for h) (λ t. there-starts node r path v k for h)

    -- ---- by a Tag

    -- each request that the Ask names is meant so
    abbrev pub AllFor : ℕ → List Entry → Type 0
    AllFor r es = is_touched base c ≡ false → EachNamed files_at IsMeant r es

    named-starts : (node r : ℕ) (e : Entry) (k : Work) (o : Option (List ℕ)) → ((path : List ℕ) → o ≡ Some path → ForIf r path) → Starts k r → W (N k) r e.progress → Starts (starts_named env node r e k o).1 (r + 1)
    named-starts node r e k None for h by = stay-starts r e k h by
    named-starts node r e k (Some path) for h by = started-starts node r path e.verdict k (for path refl) h

    one-starts : (o : Option ℕ) (r : ℕ) (e : Entry) (k : Work) → ((path : List ℕ) → named_path files_at e ≡ Some path → ForIf r path) → Starts k r → W (N k) r e.progress → Starts (starts_one env o r e k).1 (r + 1)
    one-starts None r e k for h by = stay-starts r e k h by
    one-starts (Some node) r e k for h by = named-starts node r e k (named_path files_at e) for h by

    abbrev HasStarted : Work → Type 0
    HasStarted k = (r : ℕ) × Starts k r

    at-starts : (nodes : List ℕ) (at r : ℕ) (es : List Entry) (k : Work) → Starts k r → AreHeld (W base) r es → AllFor r es → HasStarted (starts_at env nodes at r es k)
    unfolding starts_at
    at-starts nodes at r [] k h was for = (r, h)
    at-starts nodes at r (e ∷ es) k h was for = go (starts_one env (slice_get nodes at) r e k).0
        (λ i. at-starts nodes i (r + 1) es x (one-starts (slice_get nodes at) r e k (λ path is u. (for u).0 path is) h (one-more files_at n c env.epoch base k.service.notes r e.progress was.0)) was.1 (λ u. (for u).1)) where
          x : Work
          x = (starts_one env (slice_get nodes at) r e k).1

          go : (b : Bool) → ((i : ℕ) → HasStarted (starts_at env nodes i (r + 1) es x))
              → HasStarted (elim b as (λ b. Work) [ true ↦ starts_at env nodes (at + 1) (r + 1) es x | false ↦ starts_at env nodes at (r + 1) es x ])
          go true later = later (at + 1)
          go false later = later at

    -- ---- by an Offer

    -- the first of these that is for a file is meant so
    abbrev pub FirstFor : ℕ → List Verdict → Type 0
    FirstFor r vs = is_touched base c ≡ false → FirstIn files_at IsMeant r vs

    read-by-here : (J : List Rec) (v : Verdict) (i : ℕ) → W J i (read_entry files_at v).progress
    read-by-here J v i = go (good_path files_at v) where
      go : (o : Option (List ℕ)) → W J i (progress_of o)
      go None = tt
      go (Some path) = tt

    quiet-starts : (r : ℕ) (vs : List Verdict) (k : Work) → Starts k r → HasStarted (enters env false r vs k)
    unfolding enters
    quiet-starts r [] k h = (r, h)
    quiet-starts r (v ∷ vs) k h = quiet-starts (r + 1) vs (entered (read_entry files_at v) k) (stay-starts r (read_entry files_at v) k h (read-by-here (N k) v r))

    first-starts : (r : ℕ) (vs : List Verdict) (k : Work) → FirstFor r vs → Starts k r → HasStarted (enters env true r vs k)
    unfolding enters
    first-starts r [] k for h = (r, h)
    first-starts r (v ∷ vs) k for h = go (good_path files_at v) for (λ f. first-starts (r + 1) vs (entered (read_entry files_at v) k) f (stay-starts r (read_entry files_at v) k h (read-by-here (N k) v r))) where
      go : (o : Option (List ℕ)) → (is_touched base c ≡ false → FirstBy files_at IsMeant (FirstIn files_at IsMeant (r + 1) vs) r o) → (FirstFor (r + 1) vs → HasStarted (enters env true (r + 1) vs (entered (read_entry files_at v) k)))
          → HasStarted (enters env (enters_first env r v k o).0 (r + 1) vs (enters_first env r v k o).1)
      go None f later = later f
      go (Some path) f later = quiet-starts (r + 1) vs (started_here env r path v k) (here-starts r path v k f h)

    asks-start : (size : ℕ) (paths : List (List ℕ)) (k : Work) → HasStarted k → HasStarted (asks_for env size paths k)
    asks-start size [] k h = h
    asks-start size (path ∷ paths) k h = (h.0, record { batch = h.1.batch; silent = h.1.silent; later = h.1.later; notes = h.1.notes; told = h.1.told; next_is = h.1.next_is })

    these-start : (used : ℕ) (k : Work) (vs : List Verdict) → FirstFor (k.service.count + 1) vs → Starts k (k.service.count + 1) → HasStarted (state_of (reads_these env true used k vs))
    these-start used k [] for h = cond_both (serving_consumed used k.service).block.recv.fin (record (serving_consumed used k.service) { block = finishing (serving_consumed used k.service).block }) (serving_consumed used k.service) (λ (s : Service). HasStarted (record k { service = s }))
        (λ t. (k.service.count + 1, record { batch = h.batch; silent = h.silent; later = h.later; notes = h.notes; told = h.told; next_is = h.next_is })) (λ t. (k.service.count + 1, record { batch = h.batch; silent = h.silent; later = h.later; notes = h.notes; told = h.told; next_is = h.next_is }))
    these-start used k (v ∷ vs) for h =
        let rest : Work = record k { service = serving_consumed used k.service } in
        let all : Work = enters env true (k.service.count + 1) (v ∷ vs) rest in
        asks-start (length (v ∷ vs)) (named_paths files_at all.batch) all (first-starts (k.service.count + 1) (v ∷ vs) rest for (record { batch = h.batch; silent = h.silent; later = h.later; notes = h.notes; told = h.told; next_is = h.next_is }))

    started-goes : (k : Work) (h : HasStarted k) → Goes k.service.notes h.1.silent k
    started-goes k h = record { batch = h.1.batch; more = []; notes = sym (append-nil k.service.notes); each = tt }

    started-hit : (p : NodePart) (before : List (Place × List ℕ)) (k : Work) → HasStarted k → DeedHits (with_work env p before (goes_on env k))
    started-hit p before k h = works-hit k.service.notes h.1.silent p before k (started-goes k h)

  -- ---- the rules

  -- what is known where a Tag counts
  pub record TagKnown (number : ℕ) (y : ControlBlock × Stay) : Type 0 where
    pub told : WasTold base n c env.epoch (Some number)
    pub for : AllFor (Some number) (y.1.served + 1) y.1.batch

  module _ (p : NodePart) where
    -- a content came behind these, and what was kept then is kept still
    pub record CameBehind (from r : ℕ) : Type 0 where
      pub old : List Rec
      pub first : List Rec
      pub is : base ≡ old ++ first
      pub kept : StayHits files_at n c old p.row p.stay
      pub comes : HasCome n from c env.epoch r (seen_on c (net_of old) first)

    -- what is known of what comes
    abbrev pub MayCome : NodeGets → Type 0
    MayCome (Offered parts) = StayHits files_at n c base p.row p.stay × (offer_answer env.epoch p.row ≡ New → FirstFor None (parts.served + 1) (batch_of 8 parts.unread))
    MayCome (Tagged number nodes) = StayHits files_at n c base p.row p.stay × ((y : ControlBlock × Stay) → here env.epoch p ≡ Some y → is_tag_awaited env number nodes p y.1 ≡ true → TagKnown number y)
    MayCome (Content from r) = CameBehind from r
    MayCome (Completed r path) = (old : List Rec) × (base ≡ old ++ rec.Read n n c r path ∷ []) × StayHits files_at n c old p.row p.stay
    MayCome _ = StayHits files_at n c base p.row p.stay

    -- what is in hand of a stay that is here
    held-here : (J : List Rec) (b : ControlBlock) (s : Stay) → IsHereWith env.epoch p b s → StayHits files_at n c J p.row p.stay
        → AreHeld (W J) (s.served + 1) s.batch
    held-here J b s at h = subst (λ (e : ℕ). AreHeld (Holds files_at n c e J) (s.served + 1) s.batch) at.epoch_is (of-here (StayHits files_at n c J) env.epoch p b s at h)

    fresh : (b : ControlBlock) (s : Stay) → AreHeld (W base) (s.served + 1) s.batch → Goes [] (tt, tt) (work_of b s)
    fresh b s h = record { batch = batch-more files_at n c env.epoch base [] (s.served + 1) s.batch h; more = []; notes = refl; each = tt }

    -- what came for one of the requests stands behind this
    came-goes : (old first : List Rec) → base ≡ old ++ first → (f : Progress → Progress) (r : ℕ) → ((x : Progress) → W old r x → W (old ++ first) r (f x)) → (b : ControlBlock) (s : Stay) → AreHeld (W old) (s.served + 1) s.batch → Goes [] (tt, tt) (came_for f r (work_of b s))
    came-goes old first is f r keeps b s h = cond_both (nat_lt s.served r) (record (work_of b s) { batch = come_on f (r - (s.served + 1)) s.batch }) (work_of b s) (Goes [] (tt, tt))
        (λ t.
        let less : s.served < r = ltb-true s.served r t in
        record { batch = come-held (W old) (W (base ++ [])) on f (s.served + 1) (r - (s.served + 1)) r s.batch (omega (arith, less)) (λ x g. now r (f x) (keeps x g)) h; more = []; notes = refl; each = tt })
        (λ t. record { batch = held-weaker (W old) (W (base ++ [])) on (s.served + 1) s.batch h; more = []; notes = refl; each = tt }) where
          now : (i : ℕ) (x : Progress) → W (old ++ first) i x → W (base ++ []) i x
          now i x g = one-more files_at n c env.epoch base [] i x (subst (λ (J : List Rec). W J i x) (sym is) g)

          on : (i : ℕ) (x : Progress) → W old i x → W (base ++ []) i x
          on i x g = now i x (one-more files_at n c env.epoch old first i x g)

    content-keeps : (from r : ℕ) (m : CameBehind from r) (x : Progress) → W m.old r x → W (m.old ++ m.first) r (come_progress from x)
    content-keeps from r m progress.Named h = tt
    content-keeps from r m progress.Reading h = one-more files_at n c env.epoch m.old m.first r progress.Reading h
    content-keeps from r m (progress.Ready way) h = one-more files_at n c env.epoch m.old m.first r (progress.Ready way) h
    content-keeps from r m (progress.Awaited node) h = cond_both (node == from) (progress.Ready (via.Node from)) (progress.Awaited node) (W (m.old ++ m.first) r)
        (λ t. content-come files_at n c env.epoch m.old m.first from node r m.comes h) (λ t. one-more files_at n c env.epoch m.old m.first r (progress.Awaited node) h)

    job-keeps : (old : List Rec) (r : ℕ) (path : List ℕ) (x : Progress) → W old r x → W (old ++ rec.Read n n c r path ∷ []) r (read_progress x)
    job-keeps old r path progress.Named h = tt
    job-keeps old r path progress.Reading h = job-done files_at n c env.epoch old r path h
    job-keeps old r path (progress.Ready way) h = one-more files_at n c env.epoch old (rec.Read n n c r path ∷ []) r (progress.Ready way) h
    job-keeps old r path (progress.Awaited node) h = one-more files_at n c env.epoch old (rec.Read n n c r path ∷ []) r (progress.Awaited node) h

    tags : (number : ℕ) (nodes : List ℕ) (b : ControlBlock) (s : Stay) → AreHeld (W base) (s.served + 1) s.batch → TagKnown number (b, s)
        → Turned DeedHits env (record p { kept = without timer.Ask 0 p.kept }) [] (goes_on env (tagged env nodes (work_of b s)))
    tags number nodes b s h k =
        let begins_so : Starts (Some number) (record (work_of b s) { batch = [] }) (s.served + 1) = record { batch = tt; silent = (tt, tt); later = []; notes = refl; told = told-more base [] n c env.epoch (Some number) k.told; next_is = omega arith } in
        let w : Work = tagged env nodes (work_of b s) in
        let started : HasStarted (Some number) w = at-starts (Some number) nodes 0 (s.served + 1) s.batch (record (work_of b s) { batch = [] }) begins_so h k.for in
        turns-hit w.service.notes started.1.silent (record p { kept = without timer.Ask 0 p.kept }) w (started-goes (Some number) w started)

    begins : (parts : EndpointParts) → FirstFor None (parts.served + 1) (batch_of 8 parts.unread)
        → DeedHits (with_work env p (taken_sent env) (goes_on env (state_of (reads_batch env true (node_begins env parts)))))
    begins parts for = started-hit None p (taken_sent env) (state_of (reads_batch env true (node_begins env parts)))
        (these-start None (bytes_used 8 parts.unread) (node_begins env parts) (batch_of 8 parts.unread) for
        (record { batch = tt; silent = ((tt, tt), (tt, tt)); later = []; notes = refl; told = has-behind (rec.Took (Node n) c (record { 0 = env.epoch })) base (rec.Took (Node n) c (record { 0 = env.epoch }) ∷ []) (inl refl); next_is = omega arith }))

    rules_hit : KeptByNode env p MayCome DeedHits
    rules_hit = record {
      drops = tt;
      hears = λ sd b s m at. turns-hit [] (tt, tt) p (work_of (on_segment b sd).1 s) (fresh (on_segment b sd).1 s (held-here base b s at m));
      tags = λ number nodes b s m at asked same count. tags number nodes b s (held-here base b s at m.0)
          (m.1 (b, s) (here-of env.epoch p b s at) (and_from (is_some (find (is_under timer.Ask 0) p.kept)) (s.asks == number && length nodes == length (named_paths files_at s.batch)) asked
          (and_from (s.asks == number) (length nodes == length (named_paths files_at s.batch)) (eq-eqb s.asks number same) (eq-eqb (length nodes) (length (named_paths files_at s.batch)) count))));
      comes = λ from r b s m at wanted.
          turns-hit [] (tt, tt) (record p { fetches = without timer.Fetch r p.fetches }) (came_for (come_progress from) r (work_of b s))
          (came-goes m.old m.first m.is (come_progress from) r (content-keeps from r m) b s (held-here m.old b s at m.kept));
      reads = λ r path b s m at.
          turns-hit [] (tt, tt) p (came_for read_progress r (work_of b s)) (came-goes m.0 (rec.Read n n c r path ∷ []) m.1 read_progress r (job-keeps m.0 r path) b s (held-here m.0 b s at m.2));
      begins = λ parts m new may. begins parts (m.1 new);
      takes_again = λ parts m again. tt;
      refuses = λ parts m is. (stay-more files_at n c base [] p.row p.stay m.0, tt, tt, tt);
      fires = λ b s m at.
          let v : Service = serving (after_timer b) s.served [] in
          let before = serving_ready_of env.serve (after_timer b) (timed b) in
          ends-hit [] (tt, tt) p (again_sent p) (work_of (after_timer b) s) (spoken env.serve v before) (spoken-served env.serve v before) refl (fresh (after_timer b) s (held-here base b s at m));
      resends = λ m none. tt;
      ends = λ back m told was. (gone-hits files_at n c (base ++ []) p.row p.stay (stay-more files_at n c base [] p.row p.stay m), tt, tt, tt);
      leaves = λ b s m at back. backs-hit [] (tt, tt) p [] (work_of b s) (fresh b s (held-here base b s at m));
    }

    pub rule-hit : (g : NodeGets) → IsOfItsEpoch env p g → MayCome g → DeedHits (node_rule env p g)
    rule-hit g at m = node-keeps env p MayCome DeedHits rules_hit g at m
