-- What each rule of a node says is of its connection.
use Rattle.std.proofs.Common.{◌≡◌, ℕ, Bool, true, List, [], ◌∷◌, ◌++◌, map, Option, Some, None, Result, Ok, Err, refl, arith, inl, inr}
use Rattle.std.proofs.lemmas.Bool.{cond_both}
use Rattle.std.specs.List.{AllByRecursion, find}
use Rattle.lard_law_view.specs.Prelude.{Adopt, AreNumbered, Asked, ControlBlock, Ending, EndpointParts, GoesBetween, Has, IsConnNumber, IsMachine, Job, Kept, Node, NodeDeed, NodeEnv, NodePart, NodeTurn, Place, Said, SegFault, Service, Stay, Turn, Want, Work, again_sent, all_sent, anew, ask_kept, asked_kept, asked_sent, awaits_told, back_endpoint, both_of, came_for, come_by, come_progress, ended_kept, ended_sent, fetch_of, gave_by, give_kept, gives_back, goes_on, gone, here, is_from, is_tag_awaited, is_under, kept_after, kept_refused, may_give_back, node_acknowledged, node_begins, node_content, node_fired_by, node_forwarded, node_heard_by, node_offered, node_read, node_read_by, node_saying, node_tagged, node_timer, node_turns, offer_decision, offered_by, on_segment, read_progress, reads_batch, refused_sent, sent_of, serving, serving_ready_of, serving_settled, spoken, state_of, tagged, tagged_by, taken_sent, told_kind, turn_by, wants_kept, wants_sent, with_work, without, work_of}
use Rattle.lard_base.specs.declared.place.TimerKind.TheVariants as kind
use Rattle.lard_law_view.proofs.Saying.{AreMessages, GaveAt}
use Rattle.lard_law_view.proofs.Turned.{AreHeld, HeldBy, IsSaid, all-has, all-weaker, as-held, node-segments, spelled}
use Rattle.lard_law_view.proofs.Works.{AreTold, IsAtWork, N, by_told, noting}
use Rattle.lard_rules.proofs.StayKeeping.{KeptByNotes, batch-works, came-works, goes-works, tagged-works}
use Rattle.lard_endpoint.specs.Leaving as leaving
use Rattle.lard_handoff_back.specs.declared.table.Adopt.TheVariants.{New, Again, Stale, Refuse}
use Rattle.lard_history.proofs.Each.{Each, Each-append}
use Rattle.lard_history.proofs.Seeing.{has-before, has-behind}
use Rattle.lard_message.specs.declared.message.Body.TheVariants as body
use Rattle.lard_rules.specs.Node.{Drops, Says, Does}
use Rattle.lard_resend.proofs.Ordered.{drop_all, put_all}
use Rattle.lard_rules.specs.declared.places.Ending.TheVariants.{Here, Over}
use Rattle.lard_law_view.proofs.EndpointSends as endpoints
use Rattle.lard_law_view.proofs.PlaceTurns as turns
use Rattle.lard_law_view.proofs.PlaceTurns.{IsServingTurn}

-- one message more, in its place
pub anew-all : (P : Kept → Type 0) (k : Kept) (ks : List Kept) → P k → AllByRecursion P ks → AllByRecursion P (anew k ks)
anew-all P k ks h e = put_all P k (without k.kind k.r ks) h (drop_all P k.kind k.r ks e)

-- A turn of node n is of connection c, and the jobs are of a connection.
abbrev pub IsNodeTurn : ℕ → ℕ → NodeTurn → Type 0
IsNodeTurn n c t = IsSaid (Node n) c t.notes t.segments t.gave t.messages t.answered × AreNumbered t.jobs

-- A rule's turn is of connection c, and what is held then was held before or is sent in it.
abbrev pub IsNodeDeed : ℕ → ℕ → NodePart → NodeDeed → Type 0
IsNodeDeed n c p Drops = Unit {0}
IsNodeDeed n c p (Says messages) = AreMessages c (Node n) messages
IsNodeDeed n c p (Does x) = IsNodeTurn n c x.1 × AreHeld x.1.messages p.kept x.0.kept × AreHeld x.1.messages p.fetches x.0.fetches

-- Node env.n acts on connection c, whose number is one, and what it holds of it goes to other machines of the cluster.
module _ (env : NodeEnv) (own : env.serve.place ≡ Node env.n) (number : IsConnNumber env.serve.c) where
  abbrev AreSaid : List (Place × List ℕ) → Type 0
  AreSaid messages = AreMessages env.serve.c (Node env.n) messages

  abbrev IsOfNode : NodeTurn → Type 0
  IsOfNode t = IsNodeTurn env.n env.serve.c t

  abbrev Told : Service → List Job → Type 0
  Told s jobs = AreTold env own number s jobs

  told : KeptByNotes env Told
  told = by_told env own number

  abbrev Works : Work → Type 0
  Works w = IsAtWork env own number w

  -- ---- the end of a turn

  asks-sent : (o : Option Asked) → AreSaid (asked_sent env o)
  asks-sent None = tt
  asks-sent (Some a) = ((tt, spelled env.serve.c env.epoch (body.Ask a.number a.queue a.size a.paths) number), tt)

  wants-are-sent : (ws : List Want) → AreSaid (wants_sent env ws)
  wants-are-sent [] = tt
  wants-are-sent (w ∷ ws) = ((tt, spelled env.serve.c env.epoch (body.Fetch w.r w.path) number), wants-are-sent ws)

  ends-sent : (over : Option ℕ) (e : Ending) → AreSaid (ended_sent env over e)
  ends-sent over (Here b count) = tt
  ends-sent over (Over last) = ((tt, spelled env.serve.c env.epoch _ number), tt)

  gave-of : (e : Ending) → Each (GaveAt (Node env.n) env.serve.c) (gave_by env e)
  gave-of (Here b count) = tt
  gave-of (Over last) = ((refl, refl), tt)

  abbrev IsMessage : Place × List ℕ → Type 0
  IsMessage s = IsMachine s.0 × GoesBetween env.serve.c (Node env.n) s.0 s.1

  -- all that goes out before how the stay is over
  all-said : (before : List (Place × List ℕ)) (w : Work) → AreSaid before → AreSaid (all_sent env before w)
  all-said before w said = Each-append IsMessage (before ++ asked_sent env w.asked) (wants_sent env w.wants)
      (Each-append IsMessage before (asked_sent env w.asked) said (asks-sent w.asked)) (wants-are-sent w.wants)

  -- a turn that ends so
  turn-of : (before : List (Place × List ℕ)) (w : Work) (given : Ending × Turn) → AreSaid before → AreNumbered w.jobs → IsServingTurn (N env own number) env.serve.c given.1
      → IsOfNode (turn_by env before w given)
  turn-of before w given said jobs t = (
    record {
      notes = t.notes;
      segments = node-segments env.n env.serve.c given.1.segments t.to;
      gave = gave-of given.0;
      messages = Each-append IsMessage (all_sent env before w) (ended_sent env w.service.over given.0) (all-said before w said) (ends-sent w.service.over given.0);
      counted = t.answered;
    },
    jobs,
  )

  -- ---- what is held after a turn

  module _ (H : Kept → Type 0) where
    asked-held : (o : Option Asked) (ks : List Kept) → ((k : Kept) → Has (sent_of k) (asked_sent env o) → H k) → AllByRecursion H ks → AllByRecursion H (asked_kept env o ks)
    asked-held None ks sent e = e
    asked-held (Some a) ks sent e = anew-all H (ask_kept env.serve.c env.epoch a) ks (sent (ask_kept env.serve.c env.epoch a) (inl refl)) e

    wants-held : (ws : List Want) (ks : List Kept) → ((k : Kept) → Has (sent_of k) (wants_sent env ws) → H k) → AllByRecursion H ks → AllByRecursion H (wants_kept env ws ks)
    wants-held [] ks sent e = e
    wants-held (w ∷ ws) ks sent e = wants-held ws (anew (fetch_of env w) ks) (λ k h. sent k (inr h)) (anew-all H (fetch_of env w) ks (sent (fetch_of env w) (inl refl)) e)

    module _ (before : List (Place × List ℕ)) (w : Work) where
      abbrev AllSent : Ending → List (Place × List ℕ)
      AllSent e = all_sent env before w ++ ended_sent env w.service.over e

      kept-held : (p : NodePart) (e : Ending) → ((k : Kept) → Has (sent_of k) (AllSent e) → H k) → AllByRecursion H p.kept → AllByRecursion H (kept_after env p w e).kept
      kept-held p (Here b count) sent h = asked-held w.asked p.kept
          (λ k s. sent k (has-before (sent_of k) (all_sent env before w) []
          (has-before (sent_of k) (before ++ asked_sent env w.asked) (wants_sent env w.wants) (has-behind (sent_of k) before (asked_sent env w.asked) s)))) h
      kept-held p (Over last) sent h =
          (sent (ended_kept env.serve.c env.epoch last _) (has-behind _ (all_sent env before w) (ended_sent env w.service.over (Over last)) (inl refl)), tt)

      fetches-held : (p : NodePart) (e : Ending) → ((k : Kept) → Has (sent_of k) (AllSent e) → H k) → AllByRecursion H p.fetches → AllByRecursion H (kept_after env p w e).fetches
      fetches-held p (Here b count) sent h = wants-held w.wants p.fetches
          (λ k s. sent k (has-before (sent_of k) (all_sent env before w) [] (has-behind (sent_of k) (before ++ asked_sent env w.asked) (wants_sent env w.wants) s))) h
      fetches-held p (Over last) sent h = tt

  -- ---- what each rule comes to

  module _ (p : NodePart) where
    abbrev IsResult : NodePart × NodeTurn → Type 0
    IsResult x = IsOfNode x.1 × AreHeld x.1.messages p.kept x.0.kept × AreHeld x.1.messages p.fetches x.0.fetches

    abbrev IsDeed : NodeDeed → Type 0
    IsDeed d = IsNodeDeed env.n env.serve.c p d

    -- what is held is as before, or less
    abbrev IsLess : NodePart → Type 0
    IsLess q = AllByRecursion (λ k. Has k p.kept) q.kept × AllByRecursion (λ k. Has k p.fetches) q.fetches

    same : IsLess p
    same = (all-has p.kept, all-has p.fetches)

    result : (q : NodePart) (before : List (Place × List ℕ)) (w : Work) (given : Ending × Turn) → IsLess q → AreSaid before → AreNumbered w.jobs → IsServingTurn (N env own number) env.serve.c given.1
        → IsResult (kept_after env q w given.0, turn_by env before w given)
    result q before w given less said jobs t =
        let messages : List (Place × List ℕ) = (turn_by env before w given).messages in (
          turn-of before w given said jobs t,
          kept-held (HeldBy messages p.kept) before w q given.0 (λ k s. inl s) (all-weaker (λ k. Has k p.kept) (HeldBy messages p.kept) (λ k h. inr h) q.kept less.0),
          fetches-held (HeldBy messages p.fetches) before w q given.0 (λ k s. inl s) (all-weaker (λ k. Has k p.fetches) (HeldBy messages p.fetches) (λ k h. inr h) q.fetches less.1),
        )

    works-deed : (q : NodePart) (before : List (Place × List ℕ)) (w : Work) → IsLess q → AreSaid before → Works w → IsDeed (with_work env q before w)
    works-deed q before w less said h = result q before w (serving_settled env.serve w.service) less said h.1 (turns.settled-turn env.serve (N env own number) (noting env own number) w.service h.0)

    -- the connection goes back
    back-deed : (q : NodePart) (before : List (Place × List ℕ)) (w : Work) → AreSaid before → Works w → IsDeed (gives_back env q before w)
    back-deed q before w said h =
        let give : List (Place × List ℕ) = sent_of (give_kept env w) ∷ [] in (
          (
            record {
              notes = h.0.0;
              segments = tt;
              gave = ((refl, refl), tt);
              messages = Each-append IsMessage (all_sent env before w) give (all-said before w said) ((tt, spelled env.serve.c env.epoch (body.Give _) number), tt);
              counted = h.0.1;
            },
            h.1,
          ),
          (inl (has-behind (sent_of (give_kept env w)) (all_sent env before w) give (inl refl)), tt),
          tt,
        )

    turns-deed : (q : NodePart) (before : List (Place × List ℕ)) (w : Work) → IsLess q → AreSaid before → Works w → IsDeed (node_turns env q before w)
    turns-deed q before w less said h = cond_both (may_give_back env w) (gives_back env q before w) (with_work env q before w) IsDeed (λ t. back-deed q before w said h) (λ t. works-deed q before w less said h)

    fresh : (b : ControlBlock) (s : Stay) → Works (work_of b s)
    fresh b s = ((tt, λ n. omega arith), tt)

    heard-deed : (given : Result Said SegFault) (x : Option (ControlBlock × Stay)) → IsDeed (node_heard_by env p given x)
    heard-deed (Err fault) x = tt
    heard-deed (Ok s) None = tt
    heard-deed (Ok s) (Some x) =
        let w : Work = work_of (on_segment x.0 s).1 x.1 in turns-deed p [] (goes_on env w) same tt (goes-works env Told told w (fresh (on_segment x.0 s).1 x.1))

    pub forwarded-deed : (given : Result Said SegFault) → IsDeed (node_forwarded env p given)
    forwarded-deed given = heard-deed given (here env.epoch p)

    tagged_by-deed : (n : ℕ) (nodes : List ℕ) (x : Option (ControlBlock × Stay)) → IsDeed (tagged_by env n nodes p x)
    tagged_by-deed n nodes None = tt
    tagged_by-deed n nodes (Some x) =
        let q : NodePart = record p { kept = without kind.Ask 0 p.kept } in
        let w : Work = tagged env nodes (work_of x.0 x.1) in
        cond_both (is_tag_awaited env n nodes p x.1) (node_turns env q [] (goes_on env w)) Drops IsDeed
        (λ t. turns-deed q [] (goes_on env w) (drop_all (λ k. Has k p.kept) kind.Ask 0 p.kept same.0, same.1) tt
        (goes-works env Told told w (tagged-works env Told told nodes (work_of x.0 x.1) (fresh x.0 x.1))))
        (λ t. tt)

    pub tagged-deed : (n : ℕ) (nodes : List ℕ) → IsDeed (node_tagged env p n nodes)
    tagged-deed n nodes = tagged_by-deed n nodes (here env.epoch p)

    come-deed : (from r : ℕ) (x : Option (ControlBlock × Stay)) → IsDeed (come_by env from r p x)
    come-deed from r None = tt
    come-deed from r (Some x) =
        let q : NodePart = record p { fetches = without kind.Fetch r p.fetches } in
        let w : Work = came_for (come_progress from) r (work_of x.0 x.1) in
        cond_both (is_from from env.epoch (find (is_under kind.Fetch r) p.fetches)) (node_turns env q [] (goes_on env w)) Drops IsDeed
        (λ t. turns-deed q [] (goes_on env w) (same.0, drop_all (λ k. Has k p.fetches) kind.Fetch r p.fetches same.1) tt
        (goes-works env Told told w (came-works env Told told (come_progress from) r (work_of x.0 x.1) (fresh x.0 x.1))))
        (λ t. tt)

    pub content-deed : (from r : ℕ) → IsDeed (node_content env p from r)
    content-deed from r = come-deed from r (here env.epoch p)

    read_by-deed : (r : ℕ) (x : Option (ControlBlock × Stay)) → IsDeed (node_read_by env r p x)
    read_by-deed r None = tt
    read_by-deed r (Some x) =
        let w : Work = came_for read_progress r (work_of x.0 x.1) in
        turns-deed p [] (goes_on env w) same tt (goes-works env Told told w (came-works env Told told read_progress r (work_of x.0 x.1) (fresh x.0 x.1)))

    pub read-deed : (r : ℕ) → IsDeed (node_read env p r)
    read-deed r = read_by-deed r (here env.epoch p)

    -- ---- an Offer

    takes : AreSaid (taken_sent env)
    takes = ((tt, spelled env.serve.c env.epoch body.Taken number), tt)

    offered_by-deed : (parts : EndpointParts) (a : Adopt) → IsDeed (offered_by env parts p a)
    offered_by-deed parts New =
        let w : Work = state_of (reads_batch env true (node_begins env parts)) in
        works-deed p (taken_sent env) (goes_on env w) same takes
        (goes-works env Told told w (batch-works env Told told true (node_begins env parts) refl ((((refl, refl), tt), λ n. omega arith), tt)))
    offered_by-deed parts Again = takes
    offered_by-deed parts Stale = tt
    offered_by-deed parts Refuse = (
      (record { notes = tt; segments = tt; gave = tt; messages = ((tt, spelled env.serve.c env.epoch body.Refused number), tt); counted = λ n. omega arith }, tt),
      as-held (refused_sent env) p.kept,
      as-held (refused_sent env) p.fetches,
    )

    pub offered-deed : (parts : EndpointParts) → IsDeed (node_offered env p parts)
    offered-deed parts = offered_by-deed parts (offer_decision env.leaving env.epoch p.row p.beside)

    -- ---- the end of a stay

    pub acknowledged-deed : (back : Bool) → IsDeed (node_acknowledged env back p)
    acknowledged-deed back =
        let q : NodePart = record p { row = gone p.row; kept = without (told_kind back) 0 p.kept } in
        cond_both (awaits_told back env p) (Does (q, node_saying [])) Drops IsDeed
        (λ t. (
          (record { notes = tt; segments = tt; gave = tt; messages = tt; counted = λ n. omega arith }, tt),
          drop_all (HeldBy [] p.kept) (told_kind back) 0 p.kept (as-held [] p.kept),
          as-held [] p.fetches,
        ))
        (λ t. tt)

    -- ---- timers

    module _ (kept : AreSaid (map sent_of p.kept)) (fetches : AreSaid (map sent_of p.fetches)) where
      again : (ks ls : List Kept) → AreSaid (map sent_of ks) → AreSaid (map sent_of ls) → AreSaid (map sent_of (ks ++ ls))
      again [] ls e f = f
      again (k ∷ ks) ls e f = (e.0, again ks ls e.1 f)

      fired-deed : (x : Option (ControlBlock × Stay)) → IsDeed (node_fired_by env p x)
      fired-deed None = again p.kept p.fetches kept fetches
      fired-deed (Some x) =
          let b : ControlBlock = leaving.after_timer x.0 in
          let w : Service = serving b x.1.served [] in
          result p (again_sent p) (work_of b x.1) (spoken env.serve w (serving_ready_of env.serve b (leaving.timed x.0))) same (again p.kept p.fetches kept fetches) tt
          (turns.spoken-turn env.serve (N env own number) (noting env own number) w (serving_ready_of env.serve b (leaving.timed x.0)) (endpoints.ready-to env.serve b (leaving.timed x.0)) (tt, λ n. omega arith))

      pub fires-deed : IsDeed (node_timer env p)
      fires-deed = fired-deed (both_of (back_endpoint p.row) p.stay)
