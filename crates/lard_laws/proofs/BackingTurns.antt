-- What a turn of a node notes and says: each request that it starts is for its path.
use Rattle.std.proofs.Common.{◌≡◌, ◌≤◌, ◌+◌, ◌^◌, ◌==◌, nat_lt, ℕ, Bool, true, false, List, [], ◌∷◌, ◌++◌, map, length, slice_get, Option, Some, None, refl, sym, ap, ◌∙◌, subst, arith, append_assoc, eq-eqb, ◌≢◌}
use Rattle.std.proofs.lemmas.Bool.{both_ways, cond_both}
use Rattle.std.proofs.lemmas.List.{length_push}
use Rattle.lard_law_view.specs.Prelude.{Asked, Client, Done, Ending, Entry, FilesAt, IsPrefix, More, Next, Node, NodeDeed, NodeEnv, NodePart, NodeTurn, Place, Progress, Rec, Service, Step, Turn, Verdict, Want, Work, all_sent, answer, answer_code, asked_sent, asks_for, batch_of, bytes_used, ended_sent, entered, enters, enters_first, fetch_of, finishing, give_kept, gives_back, goes_on, good_path, kept_after, named_path, named_paths, next_of, passed_over, path_in, queued, read_entry, reads_batch, reads_these, sent_of, serves_by, serves_first, serves_with, serving_consumed, serving_settled, started, started_here, started_there, starts_at, starts_named, starts_one, state_of, stay_turn, tagged, turn_by, turned, verdicts, wants_sent, with_work, work_left}
use Rattle.lard_laws.specs.BackingRequests.{IsFor}
use Rattle.lard_laws.specs.BackingState.{BodyFor, MayBack, SaysFor}
use Rattle.lard_laws.proofs.BackingRows.{Backs}
use Rattle.lard_laws.proofs.BackingSpelled.{fetch-reads, number-small, path-short}
use Rattle.lard_law_connections.proofs.PlacesLoops.{settled-is}
use Rattle.lard_laws.specs.Ways.{WayMarks}
use Rattle.lard_laws.proofs.WaysGoods.{next-get}
use Rattle.lard_laws.proofs.WaysMarking.{mark}
use Rattle.lard_history.proofs.Each.{Each, Each-append}
use Rattle.lard_journal.specs.declared.rec.Rec.TheVariants as rec
use Rattle.lard_rules.specs.declared.stay.Next.TheVariants as next
use Rattle.lard_rules.specs.declared.stay.Progress.TheVariants as progress
use Rattle.lard_rules.specs.Node.{Drops, Says, Does}
use Rattle.lard_rules.specs.declared.places.Ending.TheVariants as ending
use Rattle.lard_rules.proofs.Runs.{runs_keep}
use Rattle.lard_law_view.proofs.EndpointSends.{AllTo}

-- ---- records that leave what was written, and are no first assignment

abbrev pub IsUnmarked : Rec → Type 0
IsUnmarked (rec.Wrote d bytes) = ⊥
IsUnmarked (rec.AssignedFirst d r path n add remove) = ⊥
IsUnmarked _ = Unit {0}

abbrev pub IsSteady : FilesAt → WayMarks → Rec → Type 0
IsSteady files m r = IsUnmarked r × MayBack files m r

-- ---- requests of a batch

module _ (files : FilesAt) (P : ℕ → List ℕ → Type 0) where
  -- so it is of each one that was only read, by its number, from this on, and its path
  abbrev pub EachNamed : ℕ → List Entry → Type 0
  EachNamed r [] = Unit {0}
  EachNamed r (e ∷ es) = ((path : List ℕ) → named_path files e ≡ Some path → P r path) × EachNamed (r + 1) es

  -- and of the first one for a file
  abbrev pub FirstBy : Type 0 → ℕ → Option (List ℕ) → Type 0
  FirstBy later r None = later
  FirstBy later r (Some path) = P r path

  abbrev pub FirstIn : ℕ → List Verdict → Type 0
  FirstIn r [] = Unit {0}
  FirstIn r (v ∷ vs) = FirstBy (FirstIn (r + 1) vs) r (good_path files v)

module _ (files : FilesAt) (P Q : ℕ → List ℕ → Type 0) where
  pub named-weaker : ((r : ℕ) (path : List ℕ) → P r path → Q r path) → (r : ℕ) (es : List Entry) → EachNamed files P r es → EachNamed files Q r es
  named-weaker f r [] h = tt
  named-weaker f r (e ∷ es) h = (λ path is. f r path (h.0 path is), named-weaker f (r + 1) es h.1)

  pub named-both : (r : ℕ) (es : List Entry) → EachNamed files P r es → EachNamed files Q r es → EachNamed files (λ r path. P r path × Q r path) r es
  named-both r [] h k = tt
  named-both r (e ∷ es) h k = (λ path is. (h.0 path is, k.0 path is), named-both (r + 1) es h.1 k.1)

  pub first-weaker : ((r : ℕ) (path : List ℕ) → P r path → Q r path) → (r : ℕ) (vs : List Verdict) → FirstIn files P r vs → FirstIn files Q r vs
  first-weaker f r [] h = tt
  first-weaker f r (v ∷ vs) h = go (good_path files v) h (first-weaker f (r + 1) vs) where
    go : (o : Option (List ℕ)) → FirstBy files P (FirstIn files P (r + 1) vs) r o → (FirstIn files P (r + 1) vs → FirstIn files Q (r + 1) vs) → FirstBy files Q (FirstIn files Q (r + 1) vs) r o
    go None h later = later h
    go (Some path) h later = f r path h

module _ (files : FilesAt) (m : WayMarks) where
  -- where as much was written
  like-may : (k : WayMarks) → k.wrote ≡ m.wrote → (r : Rec) → IsSteady files m r → MayBack files k r
  like-may k like (rec.AssignedFirst d r path n add remove) h = absurd h.0
  like-may k like (rec.Queued n o d r path) h = (subst (λ (q : List ℕ). IsFor files q r path) (sym like) h.1.0, h.1.1)
  like-may k like (rec.Sent i from to bytes) h = subst (λ (q : List ℕ). SaysFor files q from to bytes) (sym like) h.1
  like-may k like _ h = tt

  like-mark : (k : WayMarks) → k.wrote ≡ m.wrote → (r : Rec) → IsUnmarked r → (mark k r).wrote ≡ m.wrote
  like-mark k like (rec.Wrote d bytes) h = absurd h
  like-mark k like (rec.AssignedFirst d r path n add remove) h = absurd h
  like-mark k like _ h = like

  like-backs : (k : WayMarks) → k.wrote ≡ m.wrote → (rs : List Rec) → Each (IsSteady files m) rs → Backs files k rs
  like-backs k like [] h = tt
  like-backs k like (r ∷ rs) h = (like-may k like r h.0, like-backs (mark k r) (like-mark k like r h.0.0) rs h.1)

  pub steady-backs : (rs : List Rec) → Each (IsSteady files m) rs → Backs files m rs
  steady-backs rs h = like-backs m refl rs h

-- ---- the requests of a batch, by number

module _ (wrote : List ℕ) where
  -- the verdicts of a batch are those of the requests from this number on
  abbrev pub AreAt : ℕ → List Entry → Type 0
  AreAt r [] = Unit {0}
  AreAt r (e ∷ es) = ((i : ℕ) × (r ≡ i + 1) × (slice_get (verdicts wrote) i ≡ Some e.verdict)) × AreAt (r + 1) es

  -- the verdicts of a batch stand behind those that were answered
  pub batch-at : (before : List Verdict) (es : List Entry) (r : ℕ) → r ≡ length before + 1 → IsPrefix (before ++ map (λ e. e.verdict) es) (verdicts wrote) → AreAt r es
  batch-at before [] r is fronts = tt
  batch-at before (e ∷ es) r is fronts = (
    (length before, is, next-get before (map (λ e. e.verdict) es) (verdicts wrote) e.verdict fronts),
    batch-at (before ++ e.verdict ∷ []) es (r + 1) (omega (arith, is, length_push before e.verdict)) (fronts.0, fronts.1 ∙ ap (λ (l : List Verdict). l ++ fronts.0) (sym (append_assoc before (e.verdict ∷ []) (map (λ e. e.verdict) es)))),
  )

  module _ (files : FilesAt) where
    named-for : (r : ℕ) (e : Entry) → ((i : ℕ) × (r ≡ i + 1) × (slice_get (verdicts wrote) i ≡ Some e.verdict)) → (path : List ℕ) → named_path files e ≡ Some path → IsFor files wrote r path
    named-for r e at path is = go e.progress is where
      go : (p : Progress) → path_in files e p ≡ Some path → IsFor files wrote r path
      go progress.Named good = record { before = at.0; number = at.1; verdict = e.verdict; is = at.2; good = good }
      go progress.Reading none = let no : None ≡ Some path = none in absurd (let f : ⊥ = cc in f)
      go (progress.Awaited node) none = let no : None ≡ Some path = none in absurd (let f : ⊥ = cc in f)
      go (progress.Ready way) none = let no : None ≡ Some path = none in absurd (let f : ⊥ = cc in f)

    pub all-named : (r : ℕ) (es : List Entry) → AreAt r es → EachNamed files (IsFor files wrote) r es
    all-named r [] h = tt
    all-named r (e ∷ es) h = (named-for r e h.0, all-named (r + 1) es h.1)

-- ---- what is in hand

module _ (env : NodeEnv) (m : WayMarks) where
  abbrev files : FilesAt
  files = env.serve.files

  abbrev pub For : ℕ → List ℕ → Type 0
  For r path = IsFor files m.wrote r path

  abbrev WantFor : Want → Type 0
  WantFor w = For w.r w.path × (env.n ≢ w.node)

  -- all that was noted so far may stand, and each Fetch that is to be sent is for its path
  pub record Clean (k : Work) : Type 0 where
    pub notes : Each (IsSteady files m) k.service.notes
    pub wants : Each WantFor k.wants

  noted-more : (ns : List Rec) (r : Rec) → Each (IsSteady files m) ns → IsSteady files m r → Each (IsSteady files m) (ns ++ r ∷ [])
  noted-more ns r h by = Each-append (IsSteady files m) ns (r ∷ []) h (by, tt)

  -- none has a node yet
  quiet-clean : (r : ℕ) (vs : List Verdict) (k : Work) → Clean k → Clean (enters env false r vs k)
  unfolding enters
  quiet-clean r [] k h = h
  quiet-clean r (v ∷ vs) k h = quiet-clean (r + 1) vs (entered (read_entry files v) k) (record { notes = h.notes; wants = h.wants })

  asks-clean : (size : ℕ) (paths : List (List ℕ)) (k : Work) → Clean k → Clean (asks_for env size paths k)
  asks-clean size [] k h = h
  asks-clean size (path ∷ paths) k h = record { notes = h.notes; wants = h.wants }

  abbrev StepClean : Step Work → Type 0
  StepClean (More k) = Clean k
  StepClean (Done k) = Clean k

  these-clean : (used : ℕ) (k : Work) (vs : List Verdict) → Clean k → StepClean (reads_these env false used k vs)
  these-clean used k [] h = cond_both (serving_consumed used k.service).block.recv.fin (record (serving_consumed used k.service) { block = finishing (serving_consumed used k.service).block }) (serving_consumed used k.service) (λ (s : Service). Clean (record k { service = s }))
      (λ t. record { notes = h.notes; wants = h.wants }) (λ t. record { notes = h.notes; wants = h.wants })
  these-clean used k (v ∷ vs) h =
      let start : Work = record k { service = serving_consumed used k.service } in
      let all : Work = enters env false (k.service.count + 1) (v ∷ vs) start in
      asks-clean (length (v ∷ vs)) (named_paths files all.batch) all (quiet-clean (k.service.count + 1) (v ∷ vs) start (record { notes = h.notes; wants = h.wants }))

  -- ---- turn by turn

  serves-clean : (e : Entry) (rest : List Entry) (k : Work) (p : Progress) → Clean k → Clean (serves_by env e rest k p)
  serves-clean e rest k (progress.Ready way) h =
      let bytes = answer files e.verdict in
      let total = k.service.block.send.total + length bytes in
      cond_both (nat_lt env.serve.stream total) (passed_over env.serve total k.service) (queued env.serve way e.verdict bytes k.service) (λ (s : Service). Clean (serves_with s e rest k))
      (λ t. record { notes = noted-more k.service.notes (rec.Reset env.serve.place env.serve.c total) h.notes (tt, tt); wants = h.wants })
      (λ t. record { notes = noted-more k.service.notes (rec.Served env.serve.place env.serve.c (k.service.count + 1) (answer_code files e.verdict) (length bytes) way) h.notes (tt, tt); wants = h.wants })
  serves-clean e rest k _ h = h

  in-order : (k : Work) (es : List Entry) → Clean k → Clean (serves_first env k es)
  in-order k [] h = h
  in-order k (e ∷ rest) h = serves-clean e rest k e.progress h

  turned-clean : (k : Work) (n : Next) → Clean k → StepClean (turned env k n)
  turned-clean k next.Serve h = in-order k k.batch h
  turned-clean k next.Read h = cond_both env.leaving (Done k) (reads_batch env false k) StepClean (λ leaves. h) (λ stays. these-clean (bytes_used 8 k.service.block.recv.unread) k (batch_of 8 k.service.block.recv.unread) h)
  turned-clean k next.Stop h = h

  pub goes-clean : (k : Work) → Clean k → Clean (goes_on env k)
  goes-clean k h = runs_keep (stay_turn env) work_left Clean (record {
    more = λ y z e p. subst StepClean e (turned-clean y (next_of y) p);
    done = λ y z e p. subst StepClean e (turned-clean y (next_of y) p);
  }) k h

  -- ---- the end of a turn

  abbrev pub SaidFor : Place × List ℕ → Type 0
  SaidFor s = SaysFor files m.wrote (Node env.n) s.0 s.1

  -- what a turn notes may stand, and what it says to other nodes is right
  pub record TurnBacks (t : NodeTurn) : Type 0 where
    pub notes : Each (IsSteady files m) t.notes
    pub segments : AllTo (Client env.serve.c) t.segments
    pub messages : Each SaidFor t.messages

  abbrev pub DeedBacks : NodeDeed → Type 0
  DeedBacks Drops = Unit {0}
  DeedBacks (Says ms) = Each SaidFor ms
  DeedBacks (Does given) = TurnBacks given.1

  asked-says : (o : Option Asked) → Each SaidFor (asked_sent env o)
  asked-says None = tt
  asked-says (Some a) = (tt, tt)

  ended-says : (over : Option ℕ) (e : Ending) → Each SaidFor (ended_sent env over e)
  ended-says over (ending.Here b count) = tt
  ended-says over (ending.Over last) = (tt, tt)

  -- ---- where the client wrote so much

  module _ (most : length m.wrote ≤ 2 ^ 30) where
    here-clean : (r : ℕ) (path : List ℕ) (v : Verdict) (k : Work) → For r path → Clean k → Clean (started_here env r path v k)
    here-clean r path v k for h = cond_both (env.cached path) _ _ Clean
        (λ t. record { notes = noted-more k.service.notes (rec.Hit env.n path) h.notes (tt, tt); wants = h.wants })
        (λ t. record { notes = noted-more k.service.notes (rec.Queued env.n env.n env.serve.c r path) h.notes (tt, (for, number-small files m.wrote r path most for)); wants = h.wants })

    started-clean : (node r : ℕ) (path : List ℕ) (v : Verdict) (k : Work) → For r path → Clean k → Clean (started env node r path v k)
    started-clean node r path v k for h = cond_both (node == env.n) (started_here env r path v k) (started_there node r path v k) Clean (λ t. here-clean r path v k for h)
        (λ t. record { notes = h.notes; wants = Each-append WantFor k.wants (record { r = r; node = node; path = path } ∷ []) h.wants ((for, other t), tt) }) where
          other : (node == env.n) ≡ false → env.n ≢ node
          other t same = both_ways (node == env.n) t (eq-eqb node env.n (sym same))

    -- the first batch, whose first request was assigned with the connection
    pub first-clean : (used : ℕ) (k : Work) (v : Verdict) (vs : List Verdict) (path : List ℕ) → good_path files v ≡ Some path → For (k.service.count + 1) path → Clean k → Clean (state_of (reads_these env true used k (v ∷ vs)))
    unfolding enters
    first-clean used k v vs path good for h =
        let start : Work = record k { service = serving_consumed used k.service } in
        let n : ℕ = k.service.count + 1 in
        let all : Work = enters env false (n + 1) vs (started_here env n path v start) in
        let clean : Clean all = quiet-clean (n + 1) vs (started_here env n path v start) (here-clean n path v start for (record { notes = h.notes; wants = h.wants })) in
        subst (λ (o : Option (List ℕ)). Clean (in_hand (enters env (enters_first env n v start o).0 (n + 1) vs (enters_first env n v start o).1))) (sym good)
        (asks-clean (length (v ∷ vs)) (named_paths files all.batch) all clean) where
          in_hand : Work → Work
          in_hand u = asks_for env (length (v ∷ vs)) (named_paths files u.batch) u

    -- ---- a Tag comes

    named-clean : (node r : ℕ) (e : Entry) (k : Work) (o : Option (List ℕ)) → ((path : List ℕ) → o ≡ Some path → For r path) → Clean k → Clean (starts_named env node r e k o).1
    named-clean node r e k None for h = record { notes = h.notes; wants = h.wants }
    named-clean node r e k (Some path) for h = started-clean node r path e.verdict k (for path refl) h

    one-clean : (o : Option ℕ) (r : ℕ) (e : Entry) (k : Work) → ((i : ℕ) × (r ≡ i + 1) × (slice_get (verdicts m.wrote) i ≡ Some e.verdict)) → Clean k → Clean (starts_one env o r e k).1
    one-clean None r e k at h = record { notes = h.notes; wants = h.wants }
    one-clean (Some node) r e k at h = named-clean node r e k (named_path files e) (named-for m.wrote files r e at) h

    at-clean : (nodes : List ℕ) (at r : ℕ) (es : List Entry) (k : Work) → AreAt m.wrote r es → Clean k → Clean (starts_at env nodes at r es k)
    unfolding starts_at
    at-clean nodes at r [] k are h = h
    at-clean nodes at r (e ∷ es) k are h = go (starts_one env (slice_get nodes at) r e k).0 (λ i. at-clean nodes i (r + 1) es x are.1 (one-clean (slice_get nodes at) r e k are.0 h)) where
      x : Work
      x = (starts_one env (slice_get nodes at) r e k).1

      go : (b : Bool) → ((i : ℕ) → Clean (starts_at env nodes i (r + 1) es x))
          → Clean (elim b as (λ b. Work) [ true ↦ starts_at env nodes (at + 1) (r + 1) es x | false ↦ starts_at env nodes at (r + 1) es x ])
      go true later = later (at + 1)
      go false later = later at

    pub tagged-clean : (nodes : List ℕ) (k : Work) → AreAt m.wrote (k.service.count + 1) k.batch → Clean k → Clean (tagged env nodes k)
    tagged-clean nodes k are h = at-clean nodes 0 (k.service.count + 1) k.batch (record k { batch = [] }) are (record { notes = h.notes; wants = h.wants })

    -- ---- the end of a turn

    want-says : (w : Want) → WantFor w → SaidFor (Node w.node, (fetch_of env w).bytes)
    want-says w for = λ msg d. subst (BodyFor files m.wrote env.n w.node) (sym (fetch-reads env.serve.c env.epoch w.r w.path (number-small files m.wrote w.r w.path most for.0) (path-short files m.wrote w.r w.path for.0) msg d))
        (for.0, number-small files m.wrote w.r w.path most for.0, for.1)

    wants-say : (ws : List Want) → Each WantFor ws → Each SaidFor (wants_sent env ws)
    wants-say [] h = tt
    wants-say (w ∷ ws) h = (want-says w h.0, wants-say ws h.1)

    all-say : (before : List (Place × List ℕ)) (k : Work) → Each SaidFor before → Clean k → Each SaidFor (all_sent env before k)
    all-say before k said h =
        Each-append SaidFor (before ++ asked_sent env k.asked) (wants_sent env k.wants) (Each-append SaidFor before (asked_sent env k.asked) said (asked-says k.asked)) (wants-say k.wants h.wants)

    pub ends-back : (p : NodePart) (before : List (Place × List ℕ)) (k : Work) (given : Ending × Turn) → Each SaidFor before → given.1.notes ≡ k.service.notes → AllTo (Client env.serve.c) given.1.segments → Clean k → DeedBacks (Does (kept_after env p k given.0, turn_by env before k given))
    ends-back p before k given said notes to h = record {
      notes = subst (Each (IsSteady files m)) (sym notes) h.notes;
      segments = to;
      messages = Each-append SaidFor (all_sent env before k) (ended_sent env k.service.over given.0)
          (all-say before k said h)
          (ended-says k.service.over given.0);
    }

    pub works-back : (p : NodePart) (before : List (Place × List ℕ)) (k : Work) → Each SaidFor before → Clean k → DeedBacks (with_work env p before k)
    works-back p before k said h = let is = settled-is env.serve k.service in ends-back p before k (serving_settled env.serve k.service) said is.notes is.to h

    -- or the connection goes back
    pub gives-back : (p : NodePart) (before : List (Place × List ℕ)) (k : Work) → Each SaidFor before → Clean k → DeedBacks (gives_back env p before k)
    gives-back p before k said h = record { notes = h.notes; segments = tt; messages = Each-append SaidFor (all_sent env before k) (sent_of (give_kept env k) ∷ []) (all-say before k said h) (tt, tt) }
