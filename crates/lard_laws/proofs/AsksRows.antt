-- Each Ask among the records of a step is the last one again, or says how many jobs the journal counts behind the step.
use Rattle.std.proofs.Common.{◌≡◌, ◌≢◌, ◌⊎◌, ℕ, ◌+◌, ◌-◌, ◌==◌, Bool, true, false, List, [], ◌∷◌, ◌++◌, length, map, Option, Some, None, Ok, refl, sym, ap, ◌∙◌, subst, inl, inr, ⊎_elim, eqb-true, eq-eqb, append-nil}
use Rattle.std.specs.Prelude.{slice_set}
use Rattle.std.proofs.lemmas.Bool.{both_ways}
use Rattle.lard_law_view.specs.Prelude.{Client, Config, Event, Front, HasRule, IsReached, IsViewed, Machine, Node, NodeState, Out, Place, Rec, clocked, conn, listed, lose_at, machine_step, machine_told, node_at, node_gave, own, passed, segments_sent, sent_records}
use Rattle.lard_base.specs.declared.event.Event.TheVariants as event
use Rattle.lard_laws.specs.AsksSent.{AsksGoOn, IsNextAsk, JobsFirst, NoJobs, ask_by, is_job, last_ask}
use Rattle.lard_laws.proofs.AsksQueues.{Moved, acts-moved}
use Rattle.lard_laws.proofs.AsksSending.{asks_in}
use Rattle.lard_laws.proofs.AsksSends.{IsNoNode, PartsAsk, ask-unsent, other-asks}
use Rattle.lard_laws.proofs.AsksSteps.{Told}
use Rattle.lard_law_view.proofs.OfKinds.{gave-unsent, noted-unsent, timer-unsent}
use Rattle.lard_law_view.proofs.RecordKinds.{IsUnsent}
use Rattle.lard_law_connections.proofs.MotionPicking.{pick, pick-append, pick-none}
use Rattle.lard_law_connections.proofs.PlacesTurns.{IsPlaced}
use Rattle.lard_counts.specs.Stores.{jobs}
use Rattle.lard_law_connections.proofs.Calm.{Allows, first_rows, gifts-calm, last-calm, last_rows, timers-calm, told-journal}
use Rattle.lard_law_connections.proofs.Forms.{NodeActs}
use Rattle.lard_law_connections.proofs.StoresStored.{jobs-told}
use Rattle.lard_law_view.specs.View.{sending}
use Rattle.lard_law_view.proofs.AnyShape.{AnyShape, IsAct, SomeGift, SomeNote, SomeTimer, some-noted, step-any}
use Rattle.lard_law_view.proofs.Heads.{ActsAt}
use Rattle.lard_law_view.proofs.Parts.{node-set}
use Rattle.lard_history.proofs.Each.{Each, Each-append, Each-weaker}
use Rattle.lard_history.proofs.Stepping.{cancel}
use Rattle.lard_journal.specs.declared.rec.Rec.TheVariants as rec
use Rattle.lard_message.specs.declared.message.Body.TheVariants as body
use Rattle.lard_rules.specs.Node.{message}
use Rattle.lard_law_view.proofs.OwnRecords.{behind}

-- ---- records that are no Asks

-- numbers of packets do not matter
sents-same : (n e k : ℕ) (place : Place) (ss : List (Place × List ℕ)) → pick (ask_by n e) (sent_records k place ss) ≡ pick (ask_by n e) (map (sending place) ss)
sents-same n e k place [] = refl
sents-same n e k place (s ∷ ss) = (λ i. listed (one place s.0 i) ++ sents-same n e (k + 1) place ss i) where
  one : (from to : Place) → ask_by n e (rec.Sent k from to s.1) ≡ ask_by n e (rec.Sent 0 from to s.1)
  one (Node m) Front = refl
  one (Node m) (Node j) = refl
  one (Node m) (Client d) = refl
  one Front to = refl
  one (Client d) to = refl

unsent-none : (n e : ℕ) (rs : List Rec) → Each IsUnsent rs → pick (ask_by n e) rs ≡ []
unsent-none n e rs h = pick-none (ask_by n e) rs (Each-weaker IsUnsent (λ r. ask_by n e r ≡ None) (ask-unsent n e) rs h)

behind-unsent : (e : Event) → Each IsUnsent (behind e)
behind-unsent (event.Open c isn iss wnd mss) = (tt, tt)
behind-unsent (event.Deliver k) = (tt, tt)
behind-unsent (event.Lose k) = (tt, tt)
behind-unsent (event.Inject c bytes) = (tt, tt)
behind-unsent _ = tt

-- it is none, whoever is meant
abbrev IsNoAsk : Rec → Type 0
IsNoAsk r = (n e : ℕ) → ask_by n e r ≡ None

unsents-ask : (rs : List Rec) → Each IsUnsent rs → Each IsNoAsk rs
unsents-ask rs h = Each-weaker IsUnsent IsNoAsk (λ r k n e. ask-unsent n e r k) rs h

-- what is sent by a place that is no node
sents-ask : (k : ℕ) (place : Place) (ss : List (Place × List ℕ)) → IsNoNode place → Each IsNoAsk (sent_records k place ss)
sents-ask k place [] who = tt
sents-ask k place (s ∷ ss) who = (one place who, sents-ask (k + 1) place ss who) where
  one : (from : Place) → IsNoNode from → IsNoAsk (rec.Sent k from s.0 s.1)
  one Front who n e = refl
  one (Client d) who n e = refl
  one (Node i) who n e = absurd who

-- ---- jobs stand before packets

no-jobs : (xs ys : List Rec) → NoJobs xs → NoJobs ys → NoJobs (xs ++ ys)
no-jobs [] ys h k = k
no-jobs (x ∷ xs) ys h k = (h.0, no-jobs xs ys h.1 k)

none-first : (rs : List Rec) → NoJobs rs → JobsFirst rs
none-first [] h = tt
none-first (rec.Sent k from to bytes ∷ rs) h = h.1
none-first (_ ∷ rs) h = none-first rs h.1

unsent-first : (rs : List Rec) → Each IsUnsent rs → JobsFirst rs
unsent-first [] h = tt
unsent-first (rec.Sent k from to bytes ∷ rs) h = absurd h.0
unsent-first (_ ∷ rs) h = unsent-first rs h.1

-- where no job is queued behind
first-behind : (xs ys : List Rec) → JobsFirst xs → NoJobs ys → JobsFirst (xs ++ ys)
first-behind [] ys h k = none-first ys k
first-behind (rec.Sent i from to bytes ∷ xs) ys h k = no-jobs xs ys h k
first-behind (_ ∷ xs) ys h k = first-behind xs ys h k

abbrev IsNoJob : Rec → Type 0
IsNoJob r = is_job r ≡ false

allows-no-job : Allows IsNoJob
allows-no-job = record {
  event = λ i e. refl;
  opened = λ c isn iss wnd mss. refl;
  injected = λ c. refl;
  got = λ k. refl;
  lost = λ k. refl;
  sent = λ k from to bytes. refl;
  gave = λ place c epoch. refl;
  armed = λ place c kind. refl;
  cleared = λ place c kind. refl;
}

each-jobs : (rs : List Rec) → Each IsNoJob rs → NoJobs rs
each-jobs [] h = tt
each-jobs (r ∷ rs) h = (h.0, each-jobs rs h.1)

-- What a step adds: no Ask, but where a node acts; and jobs stand first.
record Adds (m : Machine) (e : Event) (n : Machine) : Type 0 where
  rows : List Rec
  is : n.journal ≡ m.journal ++ rows
  asks : NodeActs m e ⊎ Each IsNoAsk rows
  jobs_first : JobsFirst rows

module _ (m : Machine) where
  told-adds : (w : Machine) (e : Event) (place : Place) (o : Out) → IsAct m w e place o → Adds m e (machine_told w e (behind e) place o)
  told-adds w e place o act =
      let S : List Rec = sent_records (length w.net + 1) place o.segments in
      let M : List Rec = sent_records (length (segments_sent w place o) + 1) place o.messages in
      let before : List Rec = first_rows w e ++ o.notes in
      let last : List Rec = last_rows w place o in
      let first : Each IsUnsent before = Each-append IsUnsent (first_rows w e) o.notes (tt, behind-unsent e) (Each-weaker (SomeNote place) IsUnsent (λ r k. noted-unsent r (some-noted place r k)) o.notes act.notes) in
      let gave : Each IsUnsent o.gave = Each-weaker (SomeGift place) IsUnsent (λ r k. gave-unsent place k.0 r k.1) o.gave act.gave in
      let timers : Each IsUnsent o.timers = Each-weaker (SomeTimer place) IsUnsent (λ r k. timer-unsent place k.0 r k.1) o.timers act.timers in
      let none : Each IsNoJob last = last-calm IsNoJob allows-no-job w place o (gifts-calm IsNoJob allows-no-job place o.gave act.gave) (timers-calm IsNoJob allows-no-job place o.timers act.timers) in
      record {
        rows = before ++ last;
        is = told-journal w e place o ∙ ap (λ (J : List Rec). J ++ (before ++ last)) act.put.journal;
        asks = by-place place (before ++ last) act.acts (λ who. Each-append IsNoAsk before last (unsents-ask before first)
            (Each-append IsNoAsk (S ++ o.gave ++ M) o.timers (Each-append IsNoAsk (S ++ o.gave) M
            (Each-append IsNoAsk S o.gave (sents-ask (length w.net + 1) place o.segments who) (unsents-ask o.gave gave)) (sents-ask (length (segments_sent w place o) + 1) place o.messages who)) (unsents-ask o.timers timers)));
        jobs_first = first-behind before last (unsent-first before first) (each-jobs last none);
      }
    where
      by-place : (p : Place) (rs : List Rec) → ActsAt m.net e p → (IsNoNode p → Each IsNoAsk rs) → NodeActs m e ⊎ Each IsNoAsk rs
      by-place Front rs acts quiet = inr (quiet tt)
      by-place (Client d) rs acts quiet = inr (quiet tt)
      by-place (Node i) rs acts quiet = inl (i, acts)

  passed-adds : (w : Machine) (e : Event) (own : List Rec) → w.journal ≡ m.journal → Each IsUnsent own → Adds m e (passed w e own)
  passed-adds w e own same h =
      let rows : List Rec = rec.Event (w.events + 1) e ∷ own in record {
        rows = rows;
        is = ap (λ (J : List Rec). J ++ rows) same;
        asks = inr (unsents-ask rows (tt, h));
        jobs_first = unsent-first rows (tt, h);
      }

  any-adds : AnyShape m (Adds m)
  unfolding clocked
  any-adds = record {
    acts = told-adds;
    nobody = λ k l at there. passed-adds m (event.Deliver k) (rec.Got k ∷ []) refl (tt, tt);
    loses = λ k l at there. passed-adds (record m { net = lose_at (k - 1) m.net }) (event.Lose k) (rec.Lost k ∷ []) refl (tt, tt);
    clocks = λ ms. passed-adds (record m { now = m.now + ms }) (event.Clock ms) (rec.Clock (record { 0 = m.now + ms }) ∷ []) refl (tt, tt);
  }

-- ---- the Asks of a step

-- the last one of some connection again, or one that says so
abbrev pub IsTold : List Rec → List Rec → ℕ → ℕ → List ℕ → Type 0
IsTold past then j d bytes = ((c : ℕ) × (last_ask j d (own c past) ≡ Some bytes)) ⊎ ((c e k size : ℕ) × (paths : List (List ℕ)) × (bytes ≡ message c e (body.Ask k (length (jobs then j)) size paths)))

goes-each : (c d waiting : ℕ) (last : Option (List ℕ)) (all : List (List ℕ)) → AsksGoOn (IsNextAsk c d waiting) last all → Each (λ bytes. (last ≡ Some bytes) ⊎ IsNextAsk c d waiting last bytes) all
goes-each c d waiting last [] h = tt
goes-each c d waiting last (bytes ∷ more) h = ⊎_elim
    (λ (again : (last ≡ Some bytes) × AsksGoOn (IsNextAsk c d waiting) last more). (inl again.0, goes-each c d waiting last more again.1))
    (λ (new : IsNextAsk c d waiting last bytes × (more ≡ [])). (inr new.0, subst (Each (λ bytes. (last ≡ Some bytes) ⊎ IsNextAsk c d waiting last bytes)) (sym new.1) tt))
    h

module _ (config : Config) (files : List (List ℕ × List ℕ)) (m n : Machine) (reached : IsReached config files n) (view : IsViewed m) (placed : (c : ℕ) → IsPlaced (conn m c)) (known : (c : ℕ) → PartsAsk (conn m c)) (e : Event) (step : List Rec)
    (adds : n.journal ≡ m.journal ++ step) where
  abbrev AllTold : Type 0
  AllTold = (j d : ℕ) → Each (IsTold m.journal n.journal j d) (pick (ask_by j d) step)

  none-told : ((j d : ℕ) → pick (ask_by j d) step ≡ []) → AllTold
  none-told none j d = subst (Each (IsTold m.journal n.journal j d)) (sym (none j d)) tt

  -- node i moved on
  module _ (i : ℕ) (s : NodeState) (x : NodeState × Out) (there : node_at m.nodes i ≡ Some s) (h : Told m.journal i x) (is : n ≡ node_gave m e (behind e) i x) where
    abbrev w : Machine
    w = record m { nodes = slice_set m.nodes (i - 1) x.0 }

    rows-are : step ≡ first_rows w e ++ x.1.notes ++ last_rows w (Node i) x.1
    rows-are = cancel m.journal step (first_rows w e ++ x.1.notes ++ last_rows w (Node i) x.1) (sym adds ∙ ap (λ (y : Machine). y.journal) is ∙ told-journal w e (Node i) x.1)

    now-there : node_at n.nodes i ≡ Some x.0
    unfolding machine_told
    now-there = ap (λ (y : Machine). node_at y.nodes i) is ∙ node-set m.nodes i s x.0 there

    many : length (jobs n.journal i) ≡ length x.0.disk
    many = (jobs-told config files n reached i x.0 now-there).1

    sent-are : (j d : ℕ) → pick (ask_by j d) step ≡ pick (ask_by j d) (map (sending (Node i)) x.1.messages)
    sent-are j d =
        let f : Rec → Option (List ℕ) = ask_by j d in
        let S : List Rec = sent_records (length w.net + 1) (Node i) x.1.segments in
        let M : List Rec = sent_records (length (segments_sent w (Node i) x.1) + 1) (Node i) x.1.messages in
        let sent : List (List ℕ) = pick f (map (sending (Node i)) x.1.messages) in
        ap (pick f) rows-are
        ∙ pick-append f (first_rows w e ++ x.1.notes) (last_rows w (Node i) x.1)
        ∙ (λ k. (pick-append f (first_rows w e) x.1.notes ∙ (λ l. unsent-none j d (first_rows w e) (tt, behind-unsent e) l ++ unsent-none j d x.1.notes h.notes l)) k
        ++ (pick-append f (S ++ x.1.gave ++ M) x.1.timers ∙ (λ l. pick-append f (S ++ x.1.gave) M l ++ unsent-none j d x.1.timers h.timers l) ∙ append-nil (pick f (S ++ x.1.gave) ++ pick f M)
        ∙ (λ l. (pick-append f S x.1.gave ∙ (λ o. (sents-same j d (length w.net + 1) (Node i) x.1.segments ∙ h.segments j d) o ++ unsent-none j d x.1.gave h.gave o)) l
        ++ sents-same j d (length (segments_sent w (Node i) x.1) + 1) (Node i) x.1.messages l)) k)

    next-told : (d : ℕ) (bytes : List ℕ) → (last_ask i d (own h.c m.journal) ≡ Some bytes) ⊎ IsNextAsk h.c d (length x.0.disk) (last_ask i d (own h.c m.journal)) bytes → IsTold m.journal n.journal i d bytes
    next-told d bytes k = ⊎_elim
        (λ (again : last_ask i d (own h.c m.journal) ≡ Some bytes). inl (h.c, again))
        (λ (new : IsNextAsk h.c d (length x.0.disk) (last_ask i d (own h.c m.journal)) bytes). inr (h.c, d, new.0 + 1, new.1, new.2, new.4 ∙ ap (λ (waiting : ℕ). message h.c d (body.Ask (new.0 + 1) waiting new.1 new.2)) (sym many)))
        k

    moved-told : AllTold
    moved-told j d = go (i == j) refl where
      go : (b : Bool) → (i == j) ≡ b → Each (IsTold m.journal n.journal j d) (pick (ask_by j d) step)
      go true same = subst (λ (k : ℕ). Each (IsTold m.journal n.journal k d) (pick (ask_by k d) step)) (eqb-true i j same)
          (subst (Each (IsTold m.journal n.journal i d)) (sym (sent-are i d))
          (Each-weaker (λ bytes. (last_ask i d (own h.c m.journal) ≡ Some bytes) ⊎ IsNextAsk h.c d (length x.0.disk) (last_ask i d (own h.c m.journal)) bytes) (IsTold m.journal n.journal i d) (next-told d) (asks_in i d x.1.messages)
          (goes-each h.c d (length x.0.disk) (last_ask i d (own h.c m.journal)) (asks_in i d x.1.messages) (h.asks d))))
      go false other =
          let apart : i ≢ j = λ same. both_ways (i == j) other (eq-eqb i j same) in
          subst (Each (IsTold m.journal n.journal j d)) (sym (sent-are j d ∙ other-asks j d i x.1.messages apart)) tt

  node-told : (i : ℕ) → Moved m e n i → AllTold
  node-told i moved = ⊎_elim
      (λ (h : (s : NodeState) × (x : NodeState × Out) × (node_at m.nodes i ≡ Some s) × Told m.journal i x × (n ≡ node_gave m e (behind e) i x)). moved-told i h.0 h.1 h.2 h.3 h.4)
      (λ (h : n ≡ passed m e (behind e)). none-told (λ j d.
      ap (pick (ask_by j d)) (cancel m.journal step (rec.Event (m.events + 1) e ∷ behind e) (sym adds ∙ ap (λ (y : Machine). y.journal) h)) ∙ unsent-none j d (rec.Event (m.events + 1) e ∷ behind e) (tt, behind-unsent e)))
      moved

  -- ---- by who acts

  module _ (rule : HasRule e) (is : machine_step m e ≡ Ok n) where
    its : Adds m e n
    its = step-any m view (Adds m) (any-adds m) e n rule is

    rows-same : its.rows ≡ step
    rows-same = cancel m.journal its.rows step (sym its.is ∙ adds)

    pub step-told : AllTold
    step-told = ⊎_elim
        (λ (acts : NodeActs m e). node-told acts.0 (acts-moved m n view placed known acts.0 e acts.1 is))
        (λ (none : Each IsNoAsk its.rows). none-told (λ j d. ap (pick (ask_by j d)) (sym rows-same)
        ∙ pick-none (ask_by j d) its.rows (Each-weaker IsNoAsk (λ r. ask_by j d r ≡ None) (λ r h. h j d) its.rows none)))
        its.asks

    -- jobs stand first
    pub step-first : JobsFirst step
    step-first = subst JobsFirst rows-same its.jobs_first
