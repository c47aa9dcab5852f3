-- Each job that a step queues has its record, so the disk grows by no more than what is noted.
use Rattle.std.proofs.Common.{◌≡◌, ℕ, zero, suc, ◌+◌, ◌-◌, ◌≤◌, ◌==◌, nat_lt, Bool, true, false, cond, List, [], ◌∷◌, ◌++◌, length, take, drop, remove, Option, Some, None, Result, Ok, Err, IfOk, refl, sym, ap, subst, arith, length-append, length-drop}
use Rattle.std.proofs.lemmas.Bool.{cond_both}
use Rattle.std.proofs.lemmas.List.{length-take}
use Rattle.std.specs.List.{find, list_any, slice_get}
use Rattle.lard_answers.specs.Answers.{answer, good_path}
use Rattle.lard_base.specs.declared.errors.NoMemory.{NoMemory}
use Rattle.lard_base.specs.declared.parts.EndpointParts.{EndpointParts}
use Rattle.lard_base.specs.declared.place.Place.{Place}
use Rattle.lard_base.specs.declared.place.Place.TheVariants as place
use Rattle.lard_base.specs.declared.place.TimerKind.TheVariants as kind
use Rattle.lard_base.specs.declared.place.Via.{Via}
use Rattle.lard_base.specs.declared.place.Via.TheVariants as via
use Rattle.lard_cache.specs.Recency.{has_path}
use Rattle.lard_disk.specs.declared.disk.Job.{Job}
use Rattle.lard_disk.specs.Jobs.{is_for, job_at, without_job}
use Rattle.lard_endpoint.specs.Arriving.{on_segment}
use Rattle.lard_endpoint.specs.Control.{ControlBlock, finishing}
use Rattle.lard_handoff_back.specs.declared.table.Adopt.{Adopt}
use Rattle.lard_handoff_back.specs.declared.table.Adopt.TheVariants.{New, Again, Stale, Refuse}
use Rattle.lard_handoff_back.specs.Back.{back_endpoint}
use Rattle.lard_handoff_back.specs.Leaving.{offer_decision}
use Rattle.lard_journal.specs.declared.rec.Rec.{Rec}
use Rattle.lard_journal.specs.declared.rec.Rec.TheVariants as rec
use Rattle.lard_lateral.specs.Lateral.{is_from}
use Rattle.lard_message.specs.declared.fault.MsgFault.{MsgFault}
use Rattle.lard_message.specs.declared.message.Body.{Body}
use Rattle.lard_message.specs.declared.message.Body.TheVariants as body
use Rattle.lard_message.specs.declared.message.Message.{Message}
use Rattle.lard_message.specs.Reading.{decoded_message}
use Rattle.lard_rules.specs.declared.node.BackIn.{BackIn}
use Rattle.lard_rules.specs.declared.node.BackIn.TheVariants as input
use Rattle.lard_rules.specs.declared.node.NodeState.{NodeState}
use Rattle.lard_rules.specs.declared.node.NodeTurn.{NodeTurn}
use Rattle.lard_rules.specs.declared.stay.Entry.{Entry}
use Rattle.lard_rules.specs.declared.stay.Next.{Next}
use Rattle.lard_rules.specs.declared.stay.Next.TheVariants.{Serve, Read, Stop}
use Rattle.lard_rules.specs.declared.stay.Progress.{Progress}
use Rattle.lard_rules.specs.declared.stay.Progress.TheVariants.{Reading, Ready}
use Rattle.lard_rules.specs.declared.stay.Stay.{Stay}
use Rattle.lard_rules.specs.Node.{NodeDeed, Does, Drops, NodePart, Says, awaits_told, both_of, come_by, gives_back, gone, here, is_tag_awaited, may_give_back, node_acknowledged, node_begins, node_content, node_fired_by, node_forwarded, node_heard_by, node_offered, node_read, node_read_by, node_rests, node_saying, node_tagged, node_timer, node_turns, offered_by, tagged_by, taken_sent, told_kind, with_work, work_of}
use Rattle.lard_rules.specs.NodePlace.{NodeSetting, aside, node_brought, completed, content_sent, disk_step, node_epoch_at, fetched, fetched_file, node_deed, node_env, node_gets, node_hears, node_leaves, node_part, node_step}
use Rattle.lard_rules.specs.Stay.{NodeEnv, Work, asks_for, came_for, come_on, come_progress, entered, enters, enters_first, enters_one, goes_on, work_left, named_path, named_paths, next_of, noted, read_progress, reads_batch, reads_these, serves_by, serves_first, started, started_here, started_there, starts_at, starts_named, starts_one, tagged, stay_turn, turned}
use Rattle.lard_reader.specs.Batches.{batch_of, bytes_used}
use Rattle.lard_request.specs.declared.verdict.Verdict.{Verdict}
use Rattle.lard_resend.specs.Kept.{is_under, without}
use Rattle.lard_rules.specs.declared.places.Out.{Out}
use Rattle.lard_rules.specs.declared.places.Ending.{Ending}
use Rattle.lard_rules.specs.declared.places.Turn.{Turn}
use Rattle.lard_rules.specs.Loop.{Step, Done, state_of}
use Rattle.lard_rules.specs.Outs.{nothing_done}
use Rattle.lard_rules.specs.Serving.{ServeEnv, Service, answered, serving_consumed, cut_off, passed_over, queued, serving_settled, spoken}
use Rattle.lard_rules.proofs.Runs.{runs_keep}
use Rattle.lard_segment.specs.declared.fault.SegFault.{SegFault}
use Rattle.lard_segment.specs.declared.segment.Dir.TheVariants.{ToCluster}
use Rattle.lard_segment.specs.Segment.{Said, decoded}

-- ---- a job is taken out

-- behind the last item nothing is removed
past : {X : Type 0} (xs : List X) (i : ℕ) → slice_get xs i ≡ None → remove xs i ≡ xs
past [] zero h = refl
past [] (suc i) h = refl
past (x ∷ xs) zero h = let none : Some x ≡ None = h in absurd cc
past {X = X} (x ∷ xs) (suc i) h = ap (λ (l : List X). x ∷ l) (past xs i h)

pub without-none : (jobs : List Job) (j : ℕ) → job_at jobs j ≡ None → without_job jobs j ≡ jobs
without-none jobs j h = go (j == 0) h where
  go : (t : Bool) → cond t None (slice_get jobs (j - 1)) ≡ None → cond t jobs (remove jobs (j - 1)) ≡ jobs
  go true h = refl
  go false h = past jobs (j - 1) h

fewer : (jobs : List Job) (j : ℕ) → length (without_job jobs j) ≤ length jobs
fewer jobs j =
    let i : ℕ = j - 1 in
    cond_both (j == 0) jobs (remove jobs i) (λ (l : List Job). length l ≤ length jobs) (λ t. omega arith)
    (λ t. let b = length-take i jobs in let d = length-drop (suc i) jobs in let e = length-append (take i jobs) (drop (suc i) jobs) in omega arith)

-- ---- what is in hand

-- as many notes as jobs
abbrev Noted : Work → Type 0
Noted w = length w.jobs ≤ length w.service.notes

one-more : {X : Type 0} (xs : List X) (x : X) → length (xs ++ x ∷ []) ≡ length xs + 1
one-more xs x = length-append xs (x ∷ [])

module _ (env : NodeEnv) where
  abbrev hit_here : List ℕ → Verdict → Work → Work
  hit_here path v w = entered (record { verdict = v; progress = Ready via.Cache }) (record w { service = noted (rec.Hit env.n path ∷ []) w.service })

  abbrev read_here : ℕ → List ℕ → Verdict → Work → Work
  read_here r path v w =
      entered (record { verdict = v; progress = Reading })
      (record w { service = noted (rec.Queued env.n env.n env.serve.c r path ∷ []) w.service; jobs = w.jobs ++ record { origin = env.n; c = env.serve.c; epoch = record { 0 = env.epoch }; r = r; path = path } ∷ [] })

  here-noted : (r : ℕ) (path : List ℕ) (v : Verdict) (w : Work) → Noted w → Noted (started_here env r path v w)
  here-noted r path v w h =
      cond_both (env.cached path) (hit_here path v w) (read_here r path v w) Noted
      (λ t. omega (arith, one-more w.service.notes (rec.Hit env.n path), h))
      (λ t. omega (arith, one-more w.service.notes (rec.Queued env.n env.n env.serve.c r path), one-more w.jobs (record { origin = env.n; c = env.serve.c; epoch = record { 0 = env.epoch }; r = r; path = path }), h))

  started-noted : (node r : ℕ) (path : List ℕ) (v : Verdict) (w : Work) → Noted w → Noted (started env node r path v w)
  started-noted node r path v w h = cond_both (node == env.n) (started_here env r path v w) (started_there node r path v w) Noted (λ t. here-noted r path v w h) (λ t. h)

  named-noted : (node r : ℕ) (e : Entry) (w : Work) (o : Option (List ℕ)) → Noted w → Noted (starts_named env node r e w o).1
  named-noted node r e w None h = h
  named-noted node r e w (Some path) h = started-noted node r path e.verdict w h

  one-noted : (o : Option ℕ) (r : ℕ) (e : Entry) (w : Work) → Noted w → Noted (starts_one env o r e w).1
  one-noted None r e w h = h
  one-noted (Some node) r e w h = named-noted node r e w (named_path env.serve.files e) h

  at-noted : (nodes : List ℕ) (at r : ℕ) (es : List Entry) (w : Work) → Noted w → Noted (starts_at env nodes at r es w)
  unfolding starts_at
  at-noted nodes at r [] w h = h
  at-noted nodes at r (e ∷ es) w h =
      let v : Work = (starts_one env (slice_get nodes at) r e w).1 in
      let k : Noted v = one-noted (slice_get nodes at) r e w h in
      go (starts_one env (slice_get nodes at) r e w).0 (at-noted nodes (at + 1) (r + 1) es v k) (at-noted nodes at (r + 1) es v k) where
        go : (t : Bool) → Noted (starts_at env nodes (at + 1) (r + 1) es (starts_one env (slice_get nodes at) r e w).1) → Noted (starts_at env nodes at (r + 1) es (starts_one env (slice_get nodes at) r e w).1)
            → Noted (elim t [
              | true ↦ starts_at env nodes (at + 1) (r + 1) es (starts_one env (slice_get nodes at) r e w).1
              | false ↦ starts_at env nodes at (r + 1) es (starts_one env (slice_get nodes at) r e w).1
            ])
        go true a b = a
        go false a b = b

  tagged-noted : (nodes : List ℕ) (w : Work) → Noted w → Noted (tagged env nodes w)
  tagged-noted nodes w h = at-noted nodes 0 (w.service.count + 1) w.batch (record w { batch = [] }) h

  came-noted : (f : Progress → Progress) (r : ℕ) (w : Work) → Noted w → Noted (came_for f r w)
  came-noted f r w h = cond_both (nat_lt w.service.count r) (record w { batch = come_on f (r - (w.service.count + 1)) w.batch }) w Noted (λ t. h) (λ t. h)

  -- ---- a batch is read

  first-noted : (r : ℕ) (v : Verdict) (w : Work) (o : Option (List ℕ)) → Noted w → Noted (enters_first env r v w o).1
  first-noted r v w None h = h
  first-noted r v w (Some path) h = here-noted r path v w h

  enter-noted : (here : Bool) (r : ℕ) (v : Verdict) (w : Work) → Noted w → Noted (enters_one env here r v w).1
  enter-noted false r v w h = h
  enter-noted true r v w h = first-noted r v w (good_path env.serve.files v) h

  enters-noted : (here : Bool) (r : ℕ) (vs : List Verdict) (w : Work) → Noted w → Noted (enters env here r vs w)
  unfolding enters
  enters-noted here r [] w h = h
  enters-noted here r (v ∷ vs) w h = enters-noted (enters_one env here r v w).0 (r + 1) vs (enters_one env here r v w).1 (enter-noted here r v w h)

  asks-noted : (size : ℕ) (paths : List (List ℕ)) (w : Work) → Noted w → Noted (asks_for env size paths w)
  asks-noted size [] w h = h
  asks-noted size (path ∷ paths) w h = h

  abbrev NotedStep : Step Work → Type 0
  NotedStep st = Noted (state_of st)

  these-noted : (here : Bool) (used : ℕ) (w : Work) (vs : List Verdict) → Noted w → NotedStep (reads_these env here used w vs)
  these-noted here used w [] h =
      let s : Service = serving_consumed used w.service in
      cond_both s.block.recv.fin (record s { block = finishing s.block }) s (λ (s : Service). length w.jobs ≤ length s.notes) (λ t. h) (λ t. h)
  these-noted here used w (v ∷ vs) h =
      let x : Work = enters env here (w.service.count + 1) (v ∷ vs) (record w { service = serving_consumed used w.service }) in
      asks-noted (length (v ∷ vs)) (named_paths env.serve.files x.batch) x (enters-noted here (w.service.count + 1) (v ∷ vs) (record w { service = serving_consumed used w.service }) h)

  batch-noted : (here : Bool) (w : Work) → Noted w → NotedStep (reads_batch env here w)
  batch-noted here w h = these-noted here (bytes_used 8 w.service.block.recv.unread) w (batch_of 8 w.service.block.recv.unread) h

  -- ---- turn by turn

  answered-noted : (via : Via) (v : Verdict) (n : ℕ) (s : Service) → n ≤ length s.notes → n ≤ length (answered env.serve via v s).notes
  answered-noted via v n s h =
      let bytes : List ℕ = answer env.serve.files v in
      let total : ℕ = s.block.send.total + length bytes in
      cond_both (nat_lt env.serve.stream total) (passed_over env.serve total s) (queued env.serve via v bytes s) (λ (s : Service). n ≤ length s.notes)
      (λ t. let e = length-append s.notes ((passed_over env.serve total (record s { notes = [] })).notes) in omega (arith, e, h))
      (λ t. let e = length-append s.notes ((queued env.serve via v bytes (record s { notes = [] })).notes) in omega (arith, e, h))

  by-noted : (e : Entry) (rest : List Entry) (w : Work) (p : Progress) → Noted w → Noted (serves_by env e rest w p)
  by-noted e rest w (Ready way) h = answered-noted way e.verdict (length w.jobs) w.service h
  by-noted e rest w _ h = h

  first-served : (w : Work) (es : List Entry) → Noted w → Noted (serves_first env w es)
  first-served w [] h = h
  first-served w (e ∷ rest) h = by-noted e rest w e.progress h

  turned-noted : (w : Work) (n : Next) → Noted w → NotedStep (turned env w n)
  turned-noted w Serve h = first-served w w.batch h
  turned-noted w Read h = cond_both env.leaving (Done w) (reads_batch env false w) NotedStep (λ t. h) (λ t. batch-noted false w h)
  turned-noted w Stop h = h

  goes-noted : (w : Work) → Noted w → Noted (goes_on env w)
  goes-noted w h = runs_keep (stay_turn env) work_left Noted (record {
    more = λ x y is p. subst NotedStep is (turned-noted x (next_of x) p);
    done = λ x y is p. subst NotedStep is (turned-noted x (next_of x) p);
  }) w h

-- ---- the rules

abbrev TurnNoted : NodeTurn → Type 0
TurnNoted t = length t.jobs ≤ length t.notes

settled-notes : (env : ServeEnv) (s : Service) → (serving_settled env s).1.notes ≡ s.notes
settled-notes env s = go s.over where
  go : (o : Option ℕ) → (elim o as (λ p. Ending × Turn) [ None ↦ spoken env s [] | Some total ↦ cut_off env s ]).1.notes ≡ s.notes
  go None = refl
  go (Some total) = refl

abbrev DeedNoted : NodeDeed → Type 0
DeedNoted Drops = Unit {0}
DeedNoted (Says messages) = Unit {0}
DeedNoted (Does given) = TurnNoted given.1

module _ (env : NodeEnv) (p : NodePart) where
  rests-noted : (q : NodePart) (before : List (Place × List ℕ)) (w : Work) → Noted w → DeedNoted (Does (node_rests env q before (goes_on env w)))
  rests-noted q before w h =
      let x : Work = goes_on env w in
      subst (λ (notes : List Rec). length x.jobs ≤ length notes) (sym (settled-notes env.serve x.service)) (goes-noted env w h)

  turns-noted : (q : NodePart) (before : List (Place × List ℕ)) (w : Work) → Noted w → DeedNoted (node_turns env q before (goes_on env w))
  turns-noted q before w h =
      let x : Work = goes_on env w in
      cond_both (may_give_back env x) (gives_back env q before x) (with_work env q before x) DeedNoted (λ t. goes-noted env w h) (λ t. rests-noted q before w h)

  heard-noted : (given : Result Said SegFault) (o : Option (ControlBlock × Stay)) → DeedNoted (node_heard_by env p given o)
  heard-noted (Err fault) o = tt
  heard-noted (Ok s) None = tt
  heard-noted (Ok s) (Some x) = turns-noted p [] (work_of (on_segment x.0 s).1 x.1) (omega arith)

  tag-noted : (number : ℕ) (nodes : List ℕ) (o : Option (ControlBlock × Stay)) → DeedNoted (tagged_by env number nodes p o)
  tag-noted number nodes None = tt
  tag-noted number nodes (Some x) =
      let q : NodePart = record p { kept = without kind.Ask 0 p.kept } in
      let w : Work = tagged env nodes (work_of x.0 x.1) in
      cond_both (is_tag_awaited env number nodes p x.1) (node_turns env q [] (goes_on env w)) Drops DeedNoted (λ t. turns-noted q [] w (tagged-noted env nodes (work_of x.0 x.1) (omega arith))) (λ t. tt)

  come-noted : (from r : ℕ) (o : Option (ControlBlock × Stay)) → DeedNoted (come_by env from r p o)
  come-noted from r None = tt
  come-noted from r (Some x) =
      let q : NodePart = record p { fetches = without kind.Fetch r p.fetches } in
      let w : Work = came_for (come_progress from) r (work_of x.0 x.1) in
      cond_both (is_from from env.epoch (find (is_under kind.Fetch r) p.fetches)) (node_turns env q [] (goes_on env w)) Drops DeedNoted
      (λ t. turns-noted q [] w (came-noted env (come_progress from) r (work_of x.0 x.1) (omega arith))) (λ t. tt)

  read-noted : (r : ℕ) (o : Option (ControlBlock × Stay)) → DeedNoted (node_read_by env r p o)
  read-noted r None = tt
  read-noted r (Some x) = turns-noted p [] (came_for read_progress r (work_of x.0 x.1)) (came-noted env read_progress r (work_of x.0 x.1) (omega arith))

  offered-noted : (parts : EndpointParts) (a : Adopt) → DeedNoted (offered_by env parts p a)
  offered-noted parts New = rests-noted p (taken_sent env) (state_of (reads_batch env true (node_begins env parts))) (batch-noted env true (node_begins env parts) (omega arith))
  offered-noted parts Again = tt
  offered-noted parts Stale = tt
  offered-noted parts Refuse = omega arith

  acked-noted : (back : Bool) → DeedNoted (node_acknowledged env back p)
  acked-noted back = cond_both (awaits_told back env p) (Does (record p { row = gone p.row; kept = without (told_kind back) 0 p.kept }, node_saying [])) Drops DeedNoted (λ t. omega arith) (λ t. tt)

  fired-noted : (o : Option (ControlBlock × Stay)) → DeedNoted (node_fired_by env p o)
  fired-noted None = tt
  fired-noted (Some x) = omega arith

-- ---- a step

abbrev Grows : NodeState → NodeState × Out → Type 0
Grows s x = length x.0.disk ≤ length s.disk + length x.1.notes

module _ (k : NodeSetting) (s : NodeState) where
  jobs-grow : (t : NodeTurn) → TurnNoted t → length (s.disk ++ t.jobs) ≤ length s.disk + length t.notes
  jobs-grow t h = omega (arith, length-append s.disk t.jobs, h)

  deed-grows : (c : ℕ) (d : NodeDeed) → DeedNoted d → Grows s (node_deed k s c d)
  deed-grows c Drops h = omega arith
  deed-grows c (Says messages) h = jobs-grow (node_saying messages) (omega arith)
  deed-grows c (Does given) h = jobs-grow given.1 h

  file-grows : (from c epoch r : ℕ) (path : List ℕ) → Grows s (aside s (fetched_file k s from c epoch r path))
  file-grows from c epoch r path =
      cond_both (has_path s.cache.entries path) (record (node_saying (content_sent k from c epoch r path ∷ [])) { notes = rec.Hit k.n path ∷ [] })
      (record (node_saying []) { notes = rec.Queued k.n from c r path ∷ []; jobs = record { origin = from; c = c; epoch = record { 0 = epoch }; r = r; path = path } ∷ [] }) (λ (t : NodeTurn). Grows s (aside s t))
      (λ t. jobs-grow (record (node_saying (content_sent k from c epoch r path ∷ [])) { notes = rec.Hit k.n path ∷ [] }) (omega arith))
      (λ t. jobs-grow (record (node_saying []) { notes = rec.Queued k.n from c r path ∷ []; jobs = record { origin = from; c = c; epoch = record { 0 = epoch }; r = r; path = path } ∷ [] }) (omega arith))

  fetched-grows : (from c epoch r : ℕ) (path : List ℕ) (o : Option (List ℕ)) → Grows s (fetched k s from c epoch r path o)
  fetched-grows from c epoch r path None = omega arith
  fetched-grows from c epoch r path (Some bytes) =
      cond_both (list_any (is_for c epoch r) s.disk) (s, nothing_done) (aside s (fetched_file k s from c epoch r path)) (Grows s) (λ t. omega arith) (λ t. file-grows from c epoch r path)

  still : Grows s (s, nothing_done)
  still = omega arith

  front-grows : (c epoch : ℕ) (b : Body) → Grows s (node_hears k s place.Front c epoch b)
  front-grows c epoch (body.Offer parts) = deed-grows c (node_offered (node_env k s c epoch) (node_part s c) parts) (offered-noted (node_env k s c epoch) (node_part s c) parts (offer_decision (node_leaves s) epoch (node_part s c).row (node_part s c).beside))
  front-grows c epoch (body.Forward bytes) = deed-grows c (node_forwarded (node_env k s c epoch) (node_part s c) (decoded bytes c ToCluster)) (heard-noted (node_env k s c epoch) (node_part s c) (decoded bytes c ToCluster) (here epoch (node_part s c)))
  front-grows c epoch (body.Tag number nodes) = deed-grows c (node_tagged (node_env k s c epoch) (node_part s c) number nodes) (tag-noted (node_env k s c epoch) (node_part s c) number nodes (here epoch (node_part s c)))
  front-grows c epoch body.EndedAck = deed-grows c (node_acknowledged (node_env k s c epoch) false (node_part s c)) (acked-noted (node_env k s c epoch) (node_part s c) false)
  front-grows c epoch body.Given = deed-grows c (node_acknowledged (node_env k s c epoch) true (node_part s c)) (acked-noted (node_env k s c epoch) (node_part s c) true)
  front-grows c epoch _ = still

  node-grows : (from c epoch : ℕ) (b : Body) → Grows s (node_hears k s (place.Node from) c epoch b)
  node-grows from c epoch (body.Fetch r path) = fetched-grows from c epoch r path (k.files path)
  node-grows from c epoch (body.Content r bytes) = deed-grows c (node_content (node_env k s c epoch) (node_part s c) from r) (come-noted (node_env k s c epoch) (node_part s c) from r (here epoch (node_part s c)))
  node-grows from c epoch _ = still

  client-grows : (x c epoch : ℕ) (b : Body) → Grows s (node_hears k s (place.Client x) c epoch b)
  client-grows x c epoch _ = still

  hears-grows : (from : Place) (c epoch : ℕ) (b : Body) → Grows s (node_hears k s from c epoch b)
  hears-grows place.Front c epoch b = front-grows c epoch b
  hears-grows (place.Node n) c epoch b = node-grows n c epoch b
  hears-grows (place.Client x) c epoch b = client-grows x c epoch b

  gets-grows : (from : Place) (given : Result Message MsgFault) → Grows s (node_gets k s from given)
  gets-grows from (Err fault) = still
  gets-grows from (Ok m) = hears-grows from m.c m.epoch.0 m.body

  brought-grows : (job : Job) → Grows s (node_brought k s job)
  brought-grows job =
      let read : NodeDeed = node_read (node_env k s job.c job.epoch.0) (node_part s job.c) job.r in
      let sent : NodeTurn = node_saying (content_sent k job.origin job.c job.epoch.0 job.r job.path ∷ []) in
      cond_both (job.origin == k.n) (node_deed k s job.c read) (aside s sent) (Grows s)
      (λ t. deed-grows job.c read (read-noted (node_env k s job.c job.epoch.0) (node_part s job.c) job.r (here job.epoch.0 (node_part s job.c)))) (λ t. jobs-grow sent (omega arith))

  timer-grows : (c : ℕ) → Grows s (node_deed k s c (node_timer (node_env k s c (node_epoch_at s c)) (node_part s c)))
  timer-grows c =
      let env : NodeEnv = node_env k s c (node_epoch_at s c) in
      deed-grows c (node_timer env (node_part s c)) (fired-noted env (node_part s c) (both_of (back_endpoint (node_part s c).row) (node_part s c).stay))

disk-grows : (k : NodeSetting) (s : NodeState) (j : ℕ) (o : Option Job) → Grows s (disk_step k s j o)
disk-grows k s j None = omega arith
disk-grows k s j (Some job) =
    let x : NodeState × Out = node_brought k (completed k s j job) job in
    let h : length x.0.disk ≤ length (without_job s.disk j) + length x.1.notes = brought-grows k (completed k s j job) job in
    let few : length (without_job s.disk j) ≤ length s.disk = fewer s.disk j in
    let more : length (rec.Read k.n job.origin job.c job.r job.path ∷ [] ++ x.1.notes) ≡ length x.1.notes + 1 = omega arith in
    omega (arith, h, few, more)

step-grows : (k : NodeSetting) (s : NodeState) (i : BackIn) → Grows s (node_step k s i)
step-grows k s (input.Message from bytes) = gets-grows k s from (decoded_message bytes)
step-grows k s (input.Timer c) = timer-grows k s c
step-grows k s (input.Disk j) = disk-grows k s j (job_at s.disk j)

-- as code has it
pub grows-by : (k : NodeSetting) (s n : NodeState) (i : BackIn) (r : Result Out NoMemory) → IfOk r (λ out. (n, out) ≡ node_step k s i) → IfOk r (λ out. length n.disk ≤ length s.disk + length out.notes)
grows-by k s n i (Ok out) is = subst (Grows s) (sym is) (step-grows k s i)
grows-by k s n i (Err e) is = tt
