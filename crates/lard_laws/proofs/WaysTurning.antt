-- What a turn of a node leaves: its responses go with their assignments, its batch still agrees with them, and an Ask names the next
-- good requests.
use Rattle.std.proofs.Common.{◌≡◌, ◌+◌, ◌⊎◌, ℕ, false, List, [], ◌∷◌, ◌++◌, length, Option, Some, None, inl, inr, ⊎_elim, refl, sym, ap, ◌∙◌, subst, arith, append_assoc, append-nil}
use Rattle.lard_law_view.specs.Prelude.{Asked, Body, Client, ControlBlock, Ending, FilesAt, Front, FrontRest, IsPrefix, IsWord, Node, NodeDeed, NodeEnv, NodePart, NodeTurn, Place, Said, Stay, Talk, Turn, Verdict, Want, Work, after_timer, again_sent, asked_sent, came_for, come_progress, ended_sent, give_kept, gives_back, goes_on, kept_after, named_paths, node_fired, on_segment, parts_of, read_progress, sent_of, serving, serving_ready_of, serving_settled, spoken, tagged, timed, turn_by, wants_sent, with_work, without, work_of}
use Rattle.lard_base.specs.declared.place.TimerKind.TheVariants as timer
use Rattle.lard_law_connections.proofs.AwaitsNodes.{HasServed, settled-served, spoken-served}
use Rattle.lard_law_connections.specs.BytesKeeping.{IsTalk}
use Rattle.lard_law_connections.proofs.BytesHolding.{heard-so}
use Rattle.lard_law_connections.proofs.BytesServing.{So}
use Rattle.lard_law_connections.proofs.BytesStays.{IsHeld, same-works}
use Rattle.lard_law_connections.proofs.BytesWorking.{Right, Works, came-so, tagged-so}
use Rattle.lard_law_connections.proofs.BytesWays.{came-right, come_progress-on, read_progress-on, tagged-right}
use Rattle.lard_law_connections.specs.Places.{IsDecided}
use Rattle.lard_law_connections.proofs.PlacesLoops.{settled-is, spoken-to}
use Rattle.lard_laws.specs.WaysState.{StayAsks, StayWays, TagIs}
use Rattle.lard_laws.specs.Ways.{WayMarks, paths_assigned, paths_wanted}
use Rattle.lard_laws.proofs.WaysGoing.{Awaits, came-goes, stay-goes, tagged-goes, work-goes}
use Rattle.lard_laws.proofs.WaysLying.{come-keeps, read-keeps}
use Rattle.lard_laws.proofs.WaysMarking.{Rightly, marked}
use Rattle.lard_laws.proofs.WaysShort.{AreShort, short-within, wanted-short}
use Rattle.lard_laws.proofs.WaysStaying.{AskIn, Goes, Home}
use Rattle.lard_history.proofs.Each.{Each, Each-append}
use Rattle.lard_message.specs.declared.message.Body.TheVariants as body
use Rattle.lard_rules.proofs.NodeCases.{Turned}
use Rattle.lard_rules.specs.Node.{Does, message}
use Rattle.lard_rules.specs.Node as node
use Rattle.lard_rules.specs.declared.places.Ending.TheVariants as ending
use Rattle.lard_law_view.proofs.EndpointSends.{AllTo, ready-to}

module _ (env : NodeEnv) (m : WayMarks) (r : FrontRest) where
  abbrev files : FilesAt
  files = env.serve.files

  -- ---- what it says

  -- an Ask names the next good requests, those that the batch awaits
  abbrev pub BodyIs : Option Stay → Body → Type 0
  BodyIs stay (body.Ask number queue size paths) = (number ≡ r.asks + 1) × AreShort paths × IsPrefix (paths_assigned m ++ paths) (paths_wanted files m) × StayAsks files (r.asks + 1) paths stay
  BodyIs stay _ = Unit {0}

  abbrev pub SaysIt : Option Stay → Place × List ℕ → Type 0
  SaysIt stay s = ((i : ℕ) × (s.0 ≡ Node i)) ⊎ ((b : Body) × (s ≡ (Front, message env.serve.c env.epoch b)) × BodyIs stay b)

  -- the paths of an Ask that is awaited
  abbrev pub Asked_by : NodePart → List (List ℕ) → Type 0
  Asked_by p ps = StayAsks files (r.asks + 1) ps p.stay

  -- A turn of a node that keeps the connection: an Ask that was awaited is still, if it is not answered.
  pub record TurnWays (before : NodePart) (Was : List (List ℕ) → Type 0) (given : NodePart × NodeTurn) : Type 0 where
    pub served : ℕ
    pub notes : Rightly files m given.1.notes
    pub told : marked m given.1.notes ≡ record m { served = served; fresh = false }
    pub stay : StayWays files env.n (record m { served = served; fresh = false }) r given.0.stay
    pub kept : (ps : List (List ℕ)) → Was ps → StayAsks files (r.asks + 1) ps given.0.stay
    pub decided : IsDecided env.epoch given.0.row
    pub to : AllTo (Client env.serve.c) given.1.segments
    pub again : List (Place × List ℕ)
    pub more : List (Place × List ℕ)
    pub messages : given.1.messages ≡ again ++ more
    pub sent : (again ≡ []) ⊎ (again ≡ again_sent before)
    pub said : Each (SaysIt given.0.stay) more

  abbrev pub DeedWays : NodePart → (List (List ℕ) → Type 0) → NodeDeed → Type 0
  DeedWays before Was (Does given) = TurnWays before Was given
  DeedWays before Was _ = Unit {0}

  -- ---- the end of a turn

  wants-say : (stay : Option Stay) (ws : List Want) → Each (SaysIt stay) (wants_sent env ws)
  wants-say stay [] = tt
  wants-say stay (x ∷ xs) = (inl (x.node, refl), wants-say stay xs)

  module _ (Before : List (List ℕ) → Type 0) (k : Work) (h : Goes env m r Before k) where
    after-stay : (part : NodePart) (e : Ending) → HasServed k.service.count e → StayWays files env.n (record m { served = k.service.count; fresh = false }) r (kept_after env part k e).stay
    after-stay part (ending.Here b count) served = record { gone = h.gone; under = h.under; walked = h.walked; lies = h.lies; asking = h.asking }
    after-stay part (ending.Over last) served = tt

    after-asks : (part : NodePart) (e : Ending) (ps : List (List ℕ)) → (k.asks ≡ r.asks + 1) × (ps ≡ named_paths files k.batch) → StayAsks files (r.asks + 1) ps (kept_after env part k e).stay
    after-asks part (ending.Here b count) ps a = a
    after-asks part (ending.Over last) ps a = tt

    after-decided : (part : NodePart) (e : Ending) → IsDecided env.epoch (kept_after env part k e).row
    after-decided part (ending.Here b count) = omega arith
    after-decided part (ending.Over last) = omega arith

    ended-says : (part : NodePart) (e : Ending) → Each (SaysIt (kept_after env part k e).stay) (ended_sent env k.service.over e)
    ended-says part (ending.Here b count) = tt
    ended-says part (ending.Over last) = (inr (body.Ended last.reason last.snd.0 last.rcv.0 (node.reset_count k.service.over), refl, tt), tt)

    give-says : Each (SaysIt None) (sent_of (give_kept env k) ∷ [])
    give-says = (inr (body.Give (parts_of k.service.block k.service.count), refl, tt), tt)

    -- where this is kept of the stay, and that is said last
    module _ (stay : Option Stay) (asks : (ps : List (List ℕ)) → (k.asks ≡ r.asks + 1) × (ps ≡ named_paths files k.batch) → StayAsks files (r.asks + 1) ps stay) (last : List (Place × List ℕ)) where
      asked-says : (o : Option Asked) → AskIn env m r Before k o → Each (SaysIt stay) (asked_sent env o)
      asked-says None a = tt
      asked-says (Some q) a =
          let short : AreShort q.paths = short-within (paths_assigned m) q.paths a.2.0 (paths_wanted files m) a.2.1 (wanted-short files m.wrote) in
          (inr (body.Ask q.number q.queue q.size q.paths, refl, (a.0, short, a.2, asks q.paths a.1)), tt)

      rest-says : Each (SaysIt stay) last → Each (SaysIt stay) ((asked_sent env k.asked ++ wants_sent env k.wants) ++ last)
      rest-says says = Each-append (SaysIt stay) (asked_sent env k.asked ++ wants_sent env k.wants) last
          (Each-append (SaysIt stay) (asked_sent env k.asked) (wants_sent env k.wants) (asked-says k.asked h.asked) (wants-say stay k.wants)) says

    -- these messages go out before all others
    pub record First (old : NodePart) (before : List (Place × List ℕ)) : Type 0 where
      pub again : List (Place × List ℕ)
      pub first : List (Place × List ℕ)
      pub is : before ≡ again ++ first
      pub sent : (again ≡ []) ⊎ (again ≡ again_sent old)
      pub said : (stay : Option Stay) → Each (SaysIt stay) first

    -- all that goes out, with what is said last
    all-are : (old : NodePart) (before last : List (Place × List ℕ)) (first : First old before)
        → (before ++ asked_sent env k.asked ++ wants_sent env k.wants) ++ last ≡ first.again ++ (first.first ++ ((asked_sent env k.asked ++ wants_sent env k.wants) ++ last))
    all-are old before last first =
        let rest : List (Place × List ℕ) = asked_sent env k.asked ++ wants_sent env k.wants in
        ap (λ (ms : List (Place × List ℕ)). ms ++ last) (append_assoc before (asked_sent env k.asked) (wants_sent env k.wants))
        ∙ append_assoc before rest last
        ∙ ap (λ (ms : List (Place × List ℕ)). ms ++ (rest ++ last)) first.is
        ∙ append_assoc first.again first.first (rest ++ last)

    pub turn-ways : (old part : NodePart) (Was : List (List ℕ) → Type 0) (before : List (Place × List ℕ)) (given : Ending × Turn) → First old before → given.1.notes ≡ k.service.notes → HasServed k.service.count given.0 → AllTo (Client env.serve.c) given.1.segments
        → ((ps : List (List ℕ)) → Was ps → Before ps) → TurnWays old Was (kept_after env part k given.0, turn_by env before k given)
    turn-ways old part Was before given first notes served to asks = record {
      served = k.service.count;
      notes = subst (Rightly files m) (sym notes) h.noted_so;
      told = ap (marked m) notes ∙ h.told;
      stay = after-stay part given.0 served;
      kept = λ ps a. after-asks part given.0 ps (h.kept ps (asks ps a));
      decided = after-decided part given.0;
      to = to;
      again = first.again;
      more = first.first ++ ((asked_sent env k.asked ++ wants_sent env k.wants) ++ ended_sent env k.service.over given.0);
      messages = all-are old before (ended_sent env k.service.over given.0) first;
      sent = first.sent;
      said = Each-append (SaysIt (kept_after env part k given.0).stay) first.first ((asked_sent env k.asked ++ wants_sent env k.wants) ++ ended_sent env k.service.over given.0) (first.said _)
          (rest-says (kept_after env part k given.0).stay (after-asks part given.0) (ended_sent env k.service.over given.0) (ended-says part given.0));
    }

    pub back-ways : (old part : NodePart) (Was : List (List ℕ) → Type 0) (before : List (Place × List ℕ)) → First old before → DeedWays old Was (gives_back env part before k)
    back-ways old part Was before first = record {
      served = k.service.count;
      notes = h.noted_so;
      told = h.told;
      stay = tt;
      kept = λ ps a. tt;
      decided = omega arith;
      to = tt;
      again = first.again;
      more = first.first ++ ((asked_sent env k.asked ++ wants_sent env k.wants) ++ sent_of (give_kept env k) ∷ []);
      messages = all-are old before (sent_of (give_kept env k) ∷ []) first;
      sent = first.sent;
      said = Each-append (SaysIt None) first.first ((asked_sent env k.asked ++ wants_sent env k.wants) ++ sent_of (give_kept env k) ∷ []) (first.said None)
          (rest-says None (λ ps a. tt) (sent_of (give_kept env k) ∷ []) give-says);
    }

    pub work-ways : (old part : NodePart) (Was : List (List ℕ) → Type 0) (before : List (Place × List ℕ)) → First old before → ((ps : List (List ℕ)) → Was ps → Before ps) → DeedWays old Was (with_work env part before k)
    work-ways old part Was before first asks =
        let given : Ending × Turn = serving_settled env.serve k.service in
        let is = settled-is env.serve k.service in
        turn-ways old part Was before given first is.notes (settled-served env.serve k.service) is.to asks

    pub none-first : (old : NodePart) → First old []
    none-first old = record { again = []; first = []; is = refl; sent = inl refl; said = λ stay. tt }

  -- ---- the rules of a stay that is here, which agrees

  pub record IsAgreeing (l : Talk) (pend : List Verdict) (p : NodePart) (b : ControlBlock) (s : Stay) : Type 0 where
    pub home : Home env m
    pub wrote : m.wrote ≡ l.w.bytes
    pub counted : m.served ≡ length l.vs
    pub talk : IsTalk env l.w l.out l.vs
    pub fresh : m.fresh ≡ false
    pub stay : StayWays files env.n m r p.stay
    pub held : IsHeld env l.w l.out l.vs l.was_reset pend (b, s)
    pub is : p.stay ≡ Some s

  module _ (l : Talk) (pend : List Verdict) (p : NodePart) (b : ControlBlock) (s : Stay) (a : IsAgreeing l pend p b s) where
    abbrev k : Work
    k = work_of b s

    abbrev Before : List (List ℕ) → Type 0
    Before = Awaits env m r s

    begun : Goes env m r Before k
    begun = work-goes env m r b s (a.counted ∙ sym a.held.1.counted) a.fresh (subst (StayWays files env.n m r) a.is a.stay)

    asks-it : (ps : List (List ℕ)) → StayAsks files (r.asks + 1) ps p.stay → Before ps
    asks-it ps asked = subst (StayAsks files (r.asks + 1) ps) a.is asked

    same : Works env l.w l.out l.vs k
    same = same-works env l.w l.out l.vs l.was_reset pend (b, s) a.talk.says a.held

    -- a turn of the stay, which rests or goes back
    abbrev pub Turns : NodePart → Work → Type 0
    Turns part k = Turned (λ d. DeedWays p (Asked_by p) d) env part [] k

    goes-on : (part : NodePart) (k : Work) → Works env l.w l.out l.vs k → Right env l.w l.out l.vs k → Goes env m r Before k → Turns part (goes_on env k)
    goes-on part k works right g =
        let all : Goes env m r Before (goes_on env k) = stay-goes env m r Before a.home l.w l.out l.vs a.wrote a.talk.most k works right g in (
          λ rests. work-ways Before (goes_on env k) all p part (Asked_by p) [] (none-first Before (goes_on env k) all p) asks-it,
          λ back. back-ways Before (goes_on env k) all p part (Asked_by p) [] (none-first Before (goes_on env k) all p),
        )

    pub leaves-ways : DeedWays p (Asked_by p) (gives_back env p [] k)
    leaves-ways = back-ways Before k begun p p (Asked_by p) [] (none-first Before k begun p)

    pub hears-ways : (said : Said) → IsWord l.w said → Turns p (goes_on env (work_of (on_segment b said).1 s))
    hears-ways said word = goes-on p (work_of (on_segment b said).1 s)
        (subst (So env.serve l.w l.out l.vs (serving (on_segment b said).1 s.served [])) a.held.0 (heard-so env.serve l.w l.out l.vs a.talk.says pend b s.served a.held.1 a.talk.stream said word)) a.held.2
        (let g = begun in record { noted_so = g.noted_so; told = g.told; gone = g.gone; under = g.under; walked = g.walked; lies = g.lies; asking = g.asking; asked = g.asked; kept = g.kept })

    pub tags-ways : (number : ℕ) (nodes : List ℕ) → TagIs r number nodes → s.asks ≡ number → length nodes ≡ length (named_paths files s.batch)
        → Turns (record p { kept = without timer.Ask 0 p.kept }) (goes_on env (tagged env nodes k))
    tags-ways number nodes tag asks count =
        let part : NodePart = record p { kept = without timer.Ask 0 p.kept } in
        let at : number ≡ r.asks = ⊎_elim (λ (q : (s.asks ≡ r.asks) × (m.assigned ≡ _)). sym asks ∙ q.0) (λ (q : (s.asks ≡ r.asks + 1) × _ × _). absurd (let le = tag.0 in omega (arith, asks, q.0, le))) begun.asking in
        let is_tag : nodes ≡ r.tag = tag.1 at in
        subst (λ (ns : List ℕ). Turns part (goes_on env (tagged env ns k))) (sym is_tag)
        (goes-on part (tagged env r.tag k) (tagged-so env l.w l.out l.vs r.tag k same) (tagged-right env r.tag k a.held.2)
        (tagged-goes env m r Before k begun refl (asks ∙ at) (ap length (sym is_tag) ∙ count)))

    pub comes-ways : (from i : ℕ)
        → Turns (record p { fetches = without timer.Fetch i p.fetches }) (goes_on env (came_for (come_progress from) i k))
    comes-ways from i = goes-on (record p { fetches = without timer.Fetch i p.fetches }) (came_for (come_progress from) i k) (came-so env l.w l.out l.vs (come_progress from) i k same)
        (came-right files (come_progress from) (come_progress-on files from) i k a.held.2)
        (came-goes env m r Before (come_progress from) (come-keeps files env.n from) i k begun)

    pub reads-ways : (i : ℕ) → Turns p (goes_on env (came_for read_progress i k))
    reads-ways i = goes-on p (came_for read_progress i k) (came-so env l.w l.out l.vs read_progress i k same) (came-right files read_progress (read_progress-on files) i k a.held.2)
        (came-goes env m r Before read_progress (read-keeps files env.n) i k begun)

    pub fires-ways : DeedWays p (Asked_by p) (Does (node_fired env p (b, s) (spoken env.serve (serving (after_timer b) s.served []) (serving_ready_of env.serve (after_timer b) (timed b)))))
    fires-ways =
        let after : Work = work_of (after_timer b) s in
        let g = begun in
        let h : Goes env m r Before after = record { noted_so = g.noted_so; told = g.told; gone = g.gone; under = g.under; walked = g.walked; lies = g.lies; asking = g.asking; asked = g.asked; kept = g.kept } in
        let before = serving_ready_of env.serve (after_timer b) (timed b) in
        turn-ways Before after h p p (Asked_by p) (again_sent p) (spoken env.serve (serving (after_timer b) s.served []) before)
        (record { again = again_sent p; first = []; is = sym (append-nil (again_sent p)); sent = inr refl; said = λ stay. tt }) refl (spoken-served env.serve after.service before)
        (spoken-to env.serve (serving (after_timer b) s.served []) before (ready-to env.serve (after_timer b) (timed b))) asks-it
