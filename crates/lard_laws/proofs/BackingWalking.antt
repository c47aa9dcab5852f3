-- What backs the responses of a node's step, and what it keeps, stands behind what the node was told; and for which node it queues a job.
use Rattle.std.proofs.Common.{◌≡◌, ℕ, ◌+◌, ◌==◌, Bool, true, false, List, [], ◌∷◌, ◌++◌, Option, Some, None, Result, Ok, Err, refl, sym, ap, ◌∙◌, subst, append_assoc, inl, inr, eqb-true}
use Rattle.std.specs.Prelude.{◌⊎◌}
use Rattle.std.proofs.lemmas.Bool.{cond_both}
use Rattle.std.specs.List.{flat_map, list_any}
use Rattle.lard_law_view.specs.Prelude.{Acknowledged, BackIn, BackRow, Body, Completed, Content, ControlBlock, EachMay, Fires, Forwarded, Front, Job, Message, MsgFault, Node, NodeDeed, NodePart, NodeSetting, NodeState, NodeTurn, Offered, Out, Place, Rec, Stay, Tagged, TimerKind, ToCluster, aside, batch_of, completed, content_sent, decoded, decoded_message, disk_step, fetched, fetched_file, has_path, here, is_for, is_tag_awaited, is_touched, job_at, kind_change, node_armed, node_brought, node_deed, node_env, node_epoch_at, node_gets, node_hears, node_part, node_put, node_read, node_saying, node_step, nothing_done, offer_answer, timer_kinds, with_first}
use Rattle.lard_laws.proofs.BackingHeld.{StayHits, stay-more}
use Rattle.lard_laws.proofs.BackingHitting.{CameBehind, DeedHits, FirstFor, IsOwn, IsQuiet, IsStill, MayHit, TagKnown, quiet-may, rule-hit}
use Rattle.lard_law_view.proofs.Parts.{node-elsewhere, node-here}
use Rattle.lard_handoff_back.specs.declared.table.Adopt.TheVariants.{New}
use Rattle.lard_history.proofs.Each.{Each, Each-append, Each-weaker}
use Rattle.lard_history.proofs.Seeing.{by_number}
use Rattle.lard_journal.specs.declared.rec.Rec.TheVariants as rec
use Rattle.lard_message.specs.declared.message.Body.TheVariants as body
use Rattle.lard_rules.specs.declared.node.BackIn.TheVariants as input
use Rattle.lard_rules.specs.Node.{Does, Drops, Says}

-- ---- the records of timers

one-still : (place : Place) (c : ℕ) (kind : TimerKind) (was is : Bool) → Each IsStill (kind_change place c kind was is)
one-still place c kind false false = tt
one-still place c kind false true = ((tt, tt), tt)
one-still place c kind true false = ((tt, tt), tt)
one-still place c kind true true = tt

timers-still : (place : Place) (c : ℕ) (was is : TimerKind → Bool) (kinds : List TimerKind) → Each IsStill (flat_map (λ kind. kind_change place c kind (was kind) (is kind)) kinds)
timers-still place c was is [] = tt
timers-still place c was is (kind ∷ kinds) =
    Each-append IsStill (kind_change place c kind (was kind) (is kind)) (flat_map (λ kind. kind_change place c kind (was kind) (is kind)) kinds) (one-still place c kind (was kind) (is kind)) (timers-still place c was is kinds)

-- ---- jobs

-- this comes, a Fetch of node m
abbrev pub FetchIn : BackIn → ℕ → ℕ → ℕ → List ℕ → Type 0
FetchIn (input.Message from bytes) m c r path = (epoch : ℕ) × (from ≡ Node m) × (decoded_message bytes ≡ Ok (record { c = c; epoch = record { 0 = epoch }; body = body.Fetch r path }))
FetchIn _ m c r path = ⊥

-- a job that node k tells is its own, or is asked for by this
abbrev pub QueuesBy : ℕ → BackIn → Rec → Type 0
QueuesBy k i (rec.Queued n m c r path) = (m ≡ n) ⊎ ((n ≡ k) × FetchIn i m c r path)
QueuesBy k i _ = Unit {0}

own-by : (k : ℕ) (i : BackIn) (r : Rec) → IsOwn r → QueuesBy k i r
own-by k i (rec.Queued n m c r path) h = inl h
own-by k i _ h = tt

module _ (k : NodeSetting) where
  -- all that it keeps of each connection
  abbrev pub NodeHits : List Rec → NodeState → Type 0
  NodeHits J s = (q : ℕ) → StayHits k.files k.n q J (node_part s q).row (node_part s q).stay

  pub node-more : (J rs : List Rec) (s : NodeState) → NodeHits J s → NodeHits (J ++ rs) s
  node-more J rs s h q = stay-more k.files k.n q J rs (node_part s q).row (node_part s q).stay (h q)

  module _ (base : List Rec) where
    -- A content of request r came from node m in the last of these records, and before them this was kept.
    abbrev pub ContentKnown : NodeState → ℕ → ℕ → ℕ → ℕ → Type 0
    ContentKnown s m c epoch r = CameBehind (node_env k s c epoch) refl base (node_part s c) m r

    -- what must be known of a message that comes
    abbrev pub BodyKnown : NodeState → Place → ℕ → ℕ → Body → Type 0
    BodyKnown s Front c epoch (body.Offer parts) = offer_answer epoch (node_part s c).row ≡ New → FirstFor (node_env k s c epoch) refl base None (parts.served + 1) (batch_of 8 parts.unread)
    BodyKnown s Front c epoch (body.Tag number nodes) =
        (y : ControlBlock × Stay) → here epoch (node_part s c) ≡ Some y → is_tag_awaited (node_env k s c epoch) number nodes (node_part s c) y.1 ≡ true → TagKnown (node_env k s c epoch) refl base number y
    BodyKnown s (Node m) c epoch (body.Content r bytes) = ContentKnown s m c epoch r
    BodyKnown s (Node m) c epoch (body.Fetch r path) = is_touched base c ≡ false → m ≡ k.n → ⊥
    BodyKnown s _ c epoch _ = Unit {0}

    abbrev pub GetsKnown : NodeState → Place → Result Message MsgFault → Type 0
    GetsKnown s from (Err fault) = Unit {0}
    GetsKnown s from (Ok m) = BodyKnown s from m.c m.epoch.0 m.body

module _ (k : NodeSetting) (i : BackIn) where
  -- what it keeps, and what it tells, behind this journal
  pub record StepHits (base : List Rec) (x : NodeState × Out) : Type 0 where
    pub kept : NodeHits k (base ++ x.1.notes) x.0
    pub notes : EachMay (MayHit k.files) base x.1.notes
    pub gave : Each IsStill x.1.gave
    pub timers : Each IsStill x.1.timers
    pub queued : Each (QueuesBy k.n i) x.1.notes

  module _ (base : List Rec) where
    stays : (s : NodeState) → NodeHits k base s → StepHits base (s, nothing_done)
    stays s h = record { kept = node-more k base [] s h; notes = tt; gave = tt; timers = tt; queued = tt }

    aside-hits : (s : NodeState) (t : NodeTurn) → EachMay (MayHit k.files) base t.notes → Each (QueuesBy k.n i) t.notes → NodeHits k base s → StepHits base (aside s t)
    aside-hits s t may queued h = record { kept = node-more k base t.notes s h; notes = may; gave = tt; timers = tt; queued = queued }

    deed-hits : (s : NodeState) (c epoch : ℕ) (d : NodeDeed) → NodeHits k base s → DeedHits (node_env k s c epoch) refl base d → StepHits base (node_deed k s c d)
    deed-hits s c epoch Drops h b = stays s h
    deed-hits s c epoch (Says ms) h b = aside-hits s (node_saying ms) tt tt h
    deed-hits s c epoch (Does given) h b =
        let now : List Rec = base ++ given.1.notes in
        record {
          kept = λ q. by_number (StayHits k.files k.n q now (node_part (node_put s c given.0) q).row (node_part (node_put s c given.0) q).stay) q c
              (λ same. subst (λ (d : ℕ). StayHits k.files k.n d now (node_part (node_put s c given.0) d).row (node_part (node_put s c given.0) d).stay) (sym same)
              (subst (λ (p : NodePart). StayHits k.files k.n c now p.row p.stay) (sym (node-here s c given.0)) b.0))
              (λ other. subst (λ (p : NodePart). StayHits k.files k.n q now p.row p.stay) (sym (node-elsewhere s c q given.0 other)) (node-more k base given.1.notes s h q));
          notes = b.1;
          gave = b.2;
          timers = timers-still (Node k.n) c (node_armed (node_part s c)) (node_armed given.0) timer_kinds;
          queued = Each-weaker IsOwn (QueuesBy k.n i) (own-by k.n i) given.1.notes b.3;
        }

    -- ---- messages

    fetched-hits : (s : NodeState) (from c epoch r : ℕ) (path : List ℕ) (o : Option (List ℕ)) → (is_touched base c ≡ false → from ≡ k.n → ⊥) → FetchIn i from c r path → NodeHits k base s → StepHits base (fetched k s from c epoch r path o)
    fetched-hits s from c epoch r path None other f h = stays s h
    fetched-hits s from c epoch r path (Some bytes) other f h = cond_both (list_any (is_for c epoch r) s.disk) (s, nothing_done) (aside s (fetched_file k s from c epoch r path)) (StepHits base) (λ t. stays s h)
        (λ t. aside-hits s (fetched_file k s from c epoch r path) (cond_both (has_path s.cache.entries path) _ _ (λ (u : NodeTurn). EachMay (MayHit k.files) base u.notes) (λ there. (tt, tt)) (λ none. ((λ u same. absurd (other u same)), tt)))
        (cond_both (has_path s.cache.entries path) _ _ (λ (u : NodeTurn). Each (QueuesBy k.n i) u.notes) (λ there. (tt, tt)) (λ none. (inr (refl, f), tt))) h)

    -- a Fetch is what comes
    abbrev Asked : Place → ℕ → Body → Type 0
    Asked (Node from) c (body.Fetch r path) = FetchIn i from c r path
    Asked _ c _ = Unit {0}

    hears-hits : (s : NodeState) (from : Place) (c epoch : ℕ) (b : Body) → Asked from c b → NodeHits k base s → BodyKnown k base s from c epoch b → StepHits base (node_hears k s from c epoch b)
    hears-hits s Front c epoch (body.Offer parts) asked h known = deed-hits s c epoch _ h (rule-hit (node_env k s c epoch) refl base (node_part s c) (Offered parts) tt (h c, known))
    hears-hits s Front c epoch (body.Forward bytes) asked h known = deed-hits s c epoch _ h (rule-hit (node_env k s c epoch) refl base (node_part s c) (Forwarded (decoded bytes c ToCluster)) tt (h c))
    hears-hits s Front c epoch (body.Tag number nodes) asked h known = deed-hits s c epoch _ h (rule-hit (node_env k s c epoch) refl base (node_part s c) (Tagged number nodes) tt (h c, known))
    hears-hits s Front c epoch body.EndedAck asked h known = deed-hits s c epoch _ h (rule-hit (node_env k s c epoch) refl base (node_part s c) (Acknowledged false) tt (h c))
    hears-hits s Front c epoch body.Given asked h known = deed-hits s c epoch _ h (rule-hit (node_env k s c epoch) refl base (node_part s c) (Acknowledged true) tt (h c))
    hears-hits s (Node from) c epoch (body.Fetch r path) asked h known = fetched-hits s from c epoch r path (k.files path) known asked h
    hears-hits s (Node from) c epoch (body.Content r bytes) asked h known = deed-hits s c epoch _ h (rule-hit (node_env k s c epoch) refl base (node_part s c) (Content from r) tt known)
    hears-hits s _ c epoch _ asked h known = stays s h

    asked-by : (from : Place) (bytes : List ℕ) → i ≡ input.Message from bytes → (m : Message) → decoded_message bytes ≡ Ok m → Asked from m.c m.body
    asked-by from bytes is m reads = go from m.body refl refl where
      go : (f : Place) (b : Body) → from ≡ f → m.body ≡ b → Asked f m.c b
      go (Node n) (body.Fetch r path) at of = subst (λ (j : BackIn). FetchIn j n m.c r path) (sym is) (m.epoch.0, at, reads ∙ (λ j. Ok (record { c = m.c; epoch = m.epoch; body = of j })))
      go _ _ at of = tt

    gets-hits : (s : NodeState) (from : Place) (bytes : List ℕ) → i ≡ input.Message from bytes → (r : Result Message MsgFault) → decoded_message bytes ≡ r → NodeHits k base s → GetsKnown k base s from r → StepHits base (node_gets k s from r)
    gets-hits s from bytes is (Err fault) reads h known = stays s h
    gets-hits s from bytes is (Ok m) reads h known = hears-hits s from m.c m.epoch.0 m.body (asked-by from bytes is m reads) h known

  -- ---- the disk

  -- behind the record that it is read
  brought-hits : (base : List Rec) (s : NodeState) (job : Job) → NodeHits k base s → StepHits (base ++ rec.Read k.n job.origin job.c job.r job.path ∷ []) (node_brought k s job)
  brought-hits base s job h =
      let read : Rec = rec.Read k.n job.origin job.c job.r job.path in
      let now : List Rec = base ++ read ∷ [] in
      let more : NodeHits k now s = node-more k base (read ∷ []) s h in
      cond_both (job.origin == k.n) (node_deed k s job.c (node_read (node_env k s job.c job.epoch.0) (node_part s job.c) job.r)) (aside s (node_saying (content_sent k job.origin job.c job.epoch.0 job.r job.path ∷ []))) (StepHits now)
      (λ t. deed-hits now s job.c job.epoch.0 _ more (rule-hit (node_env k s job.c job.epoch.0) refl now (node_part s job.c) (Completed job.r job.path) tt (base, ap (λ (o : ℕ). base ++ rec.Read k.n o job.c job.r job.path ∷ []) (eqb-true job.origin k.n t), h job.c)))
      (λ t. aside-hits now s (node_saying (content_sent k job.origin job.c job.epoch.0 job.r job.path ∷ [])) tt tt more)

  first-hits : (base : List Rec) (r : Rec) (x : NodeState × Out) → IsQuiet r → QueuesBy k.n i r → StepHits (base ++ r ∷ []) x → StepHits base (with_first r x)
  first-hits base r x quiet by h = record {
    kept = λ q. subst (λ (J : List Rec). StayHits k.files k.n q J (node_part x.0 q).row (node_part x.0 q).stay) (append_assoc base (r ∷ []) x.1.notes) (h.kept q);
    notes = (quiet-may k.files base r quiet, h.notes);
    gave = h.gave;
    timers = h.timers;
    queued = (by, h.queued);
  }

  disk-hits : (base : List Rec) (s : NodeState) (j : ℕ) (o : Option Job) → NodeHits k base s → StepHits base (disk_step k s j o)
  disk-hits base s j None h = stays base s h
  disk-hits base s j (Some job) h =
      let done : Rec = rec.Read k.n job.origin job.c job.r job.path in
      first-hits base done (node_brought k (completed k s j job) job) tt tt (brought-hits base (completed k s j job) job h)

-- ---- a step

module _ (k : NodeSetting) where
  abbrev pub StepKnown : List Rec → NodeState → BackIn → Type 0
  StepKnown base s (input.Message from bytes) = GetsKnown k base s from (decoded_message bytes)
  StepKnown base s _ = Unit {0}

  pub step-hits : (base : List Rec) (s : NodeState) (i : BackIn) → NodeHits k base s → StepKnown base s i → StepHits k i base (node_step k s i)
  step-hits base s (input.Message from bytes) h known = gets-hits k (input.Message from bytes) base s from bytes refl (decoded_message bytes) refl h known
  step-hits base s (input.Timer c) h known = deed-hits k (input.Timer c) base s c (node_epoch_at s c) _ h (rule-hit (node_env k s c (node_epoch_at s c)) refl base (node_part s c) Fires (λ row found. sym (ap (λ (o : Option BackRow). elim o [ None ↦ 0 | Some row ↦ row.epoch.0 ]) found)) (h c))
  step-hits base s (input.Disk j) h known = disk-hits k (input.Disk j) base s j (job_at s.disk j) h
