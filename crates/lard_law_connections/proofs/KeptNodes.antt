-- What a node does leaves of a connection what its stage awaits.
use Rattle.std.proofs.Common.{eq-eqb, ◌≡◌, ◌⊎◌, ◌-◌, ◌+◌, ◌==◌, ◌&&◌, nat_lt, ◌≤◌, ℕ, Bool, true, false, cond, List, [], ◌∷◌, length, is_some, Option, Some, None, Result, Ok, Err, refl, sym, ap, ◌∙◌, subst, arith, eqb-true, inl, inr}
use Rattle.std.proofs.lemmas.Bool.{cond-true, and_parts, cond_both}
use Rattle.std.specs.List.{find}
use Rattle.lard_law_view.specs.Prelude.{Adopt, Asked, BackConn, BackRow, Conn, ControlBlock, Ending, EndpointParts, FilesAt, Kept, NodeDeed, NodeEnv, NodeGets, NodePart, Offered, Place, Progress, Said, Seen, SegFault, Stay, Tagged, Work, after_timer, awaits_ack, back_endpoint, back_held, both_of, came_for, come_by, come_on, come_progress, epoch_in, gives_back, goes_on, gone, grown, here, is_ended, is_from, is_gone, is_tag_awaited, is_under, kept_after, kept_refused, may_give_back, named_paths, node_begins, node_content, node_does, node_fired_by, node_forwarded, node_heard_by, node_offered, node_read, node_read_by, node_rule, node_tagged, node_timer, node_turns, offer_answer, offer_decision, offered_by, on_segment, parts_of, read_progress, reads_batch, reset_count, serving, serving_ready_of, serving_settled, spoken, state_of, staying, tagged, tagged_by, taken_sent, timed, told_kind, with_work, without, work_of}
use Rattle.lard_base.specs.declared.place.TimerKind.TheVariants as kind
use Rattle.lard_law_connections.specs.Kept.{AsksFor, HereKeeps, IsKeptByStage, NodeKeepsMessages, NodeRowKeeps, NodeStageKeeps, StayKeeps, TellsOver, contents_awaited}
use Rattle.lard_law_connections.proofs.KeptBatches.{AreFetches, IsCalm, Loses, awaited-come, come-calm, come-loses, found-less, named-come, read-calm, read-loses, without-fetches}
use Rattle.lard_law_connections.proofs.KeptStays.{Awaits, Follows, Starts, batch-state, goes-await, started-await, starts-all}
use Rattle.lard_law_view.proofs.Parts.{put-each}
use Rattle.lard_handoff_back.specs.declared.row.BackConn.TheVariants as back
use Rattle.lard_handoff_back.specs.declared.table.Adopt.TheVariants.{New, Again, Stale, Refuse}
use Rattle.lard_history.proofs.Each.{Each}
use Rattle.lard_rules.proofs.NodeCases.{IsHereWith, IsOfItsEpoch, KeptByNode, Turned, decision-new, node-keeps, of-here, where-held, where-here}
use Rattle.lard_rules.specs.Node.{Drops, Says, Does}
use Rattle.lard_rules.specs.declared.places.Ending.TheVariants as ending

-- what node n does for connection c leaves what its stage awaits
abbrev pub DeedKeeps : (ℕ → Type 0) → FilesAt → ℕ → ℕ → NodeDeed → Type 0
DeedKeeps N files c n Drops = Unit {0}
DeedKeeps N files c n (Says ms) = Unit {0}
DeedKeeps N files c n (Does given) = NodeKeepsMessages N files c n given.0

-- A stay goes on from one in which so many Asks were made, and in which these paths had no node.
abbrev pub StayFollows : FilesAt → ℕ → List (List ℕ) → Stay → Type 0
StayFollows files asks0 named0 s = ((s.asks ≡ asks0) × ((named_paths files s.batch ≡ []) ⊎ (named_paths files s.batch ≡ named0))) ⊎ (s.asks ≡ asks0 + 1)

abbrev pub MayFollow : FilesAt → ℕ → List (List ℕ) → Option Stay → Type 0
MayFollow files asks0 named0 None = Unit {0}
MayFollow files asks0 named0 (Some s) = StayFollows files asks0 named0 s

-- what is kept of it is of this epoch
abbrev pub IsOfEpoch : ℕ → Option BackRow → Type 0
IsOfEpoch e None = ⊥
IsOfEpoch e (Some row) = row.epoch.0 ≡ e

abbrev pub DeedFollows : FilesAt → ℕ → ℕ → List (List ℕ) → NodeDeed → Type 0
DeedFollows files e asks0 named0 Drops = Unit {0}
DeedFollows files e asks0 named0 (Says ms) = Unit {0}
DeedFollows files e asks0 named0 (Does given) = MayFollow files asks0 named0 given.0.stay × IsOfEpoch e given.0.row

-- what an Offer leads to, where it is this to the node
abbrev pub OfferFollows : FilesAt → ℕ → Adopt → NodeDeed → Type 0
OfferFollows files e New d = DeedFollows files e 0 [] d
OfferFollows files e _ d = Unit {0}

-- nothing that is kept changes
abbrev pub IsIdle : NodeDeed → Type 0
IsIdle Drops = Unit {0}
IsIdle (Says ms) = Unit {0}
IsIdle (Does given) = ⊥

-- it goes on from what was here before; and nothing changes, where nothing was
abbrev pub DeedGoes : FilesAt → ℕ → Option (ControlBlock × Stay) → NodeDeed → Type 0
DeedGoes files e None d = IsIdle d
DeedGoes files e (Some y) d = DeedFollows files e y.1.asks (named_paths files y.1.batch) d

-- without the Ask, none is kept
pub asks-left : (c e number : ℕ) (paths : List (List ℕ)) (ks : List Kept) → AsksFor c e number paths ks → without kind.Ask 0 ks ≡ []
asks-left c e number [] ks h = ap (without kind.Ask 0) h
asks-left c e number (path ∷ paths) ks h = ap (without kind.Ask 0) h.2

pub here-some : (e : ℕ) (p : NodePart) (b : ControlBlock) (s : Stay) → IsHereWith e p b s → here e p ≡ Some (b, s)
here-some e p b s at = ap (λ (o : Option BackRow). both_of (staying e o) p.stay) at.found
    ∙ ap (λ (o : Option ControlBlock). both_of o p.stay) (cond-true (at.row.epoch.0 == e) (back_held at.row.stage) None (eq-eqb at.row.epoch.0 e at.epoch_is) ∙ ap back_held at.staged)
    ∙ ap (λ (t : Option Stay). both_of (Some b) t) at.stays

module _ (N : ℕ → Type 0) (env : NodeEnv) where
  abbrev files : FilesAt
  files = env.serve.files

  abbrev pub Keeps : NodeDeed → Type 0
  Keeps d = DeedKeeps N env.serve.files env.serve.c env.n d

  abbrev pub PartKeeps : NodePart → Type 0
  PartKeeps p = NodeKeepsMessages N env.serve.files env.serve.c env.n p

  -- a node that gave it back leaves
  abbrev pub GaverLeaves : NodePart → Type 0
  GaverLeaves p = env.leaving ≡ false → p.beside.returned ≡ None

  follows-by : (asks0 : ℕ) (named0 : List (List ℕ)) (o : Option Asked) (s : Stay) → Follows asks0 named0 o s.asks (named_paths files s.batch) → StayFollows files asks0 named0 s
  follows-by asks0 named0 None s h = inl h
  follows-by asks0 named0 (Some a) s h = inr h

  module _ (asks0 : ℕ) (named0 : List (List ℕ)) where
    after-keeps : (part : NodePart) (k : Work) (e : Ending) → part.beside.returned ≡ None → Awaits N env part.kept part.fetches asks0 named0 k → PartKeeps (kept_after env part k e) × MayFollow files asks0 named0 (kept_after env part k e).stay × IsOfEpoch env.epoch (kept_after env part k e).row
    after-keeps part k (ending.Here b count) stays h = (
      record { asks = h.0; fetches = h.1.each; order = h.1.order; few = h.3; not_back = stays },
      follows-by asks0 named0 k.asked (record { served = count; batch = k.batch; asks = k.asks }) h.2,
      refl,
    )
    after-keeps part k (ending.Over last) stays h = (
      (subst (λ (o : Option ℕ). TellsOver env.serve.c env.epoch o (kept_after env part k (ending.Over last)).kept) (sym stays) (last, reset_count k.service.over, refl), refl),
      tt,
      refl,
    )

    -- what a turn leaves, and how it goes on
    abbrev KeepsOn : NodeDeed → Type 0
    KeepsOn d = Keeps d × DeedFollows files env.epoch asks0 named0 d

    rests-keep : (part : NodePart) (before : List (Place × List ℕ)) (k : Work) → part.beside.returned ≡ None → Awaits N env part.kept part.fetches asks0 named0 k → KeepsOn (with_work env part before (goes_on env k))
    rests-keep part before k stays h =
        let all = after-keeps part (goes_on env k) (serving_settled env.serve (goes_on env k).service).0 stays (goes-await N env part.kept part.fetches asks0 named0 k h) in (all.0, (all.1, all.2))

    -- what goes back is told by its Give
    back-keeps : (part : NodePart) (before : List (Place × List ℕ)) (k : Work) → KeepsOn (gives_back env part before k)
    back-keeps part before k = (((parts_of k.service.block k.service.count, refl, refl), refl), (tt, refl))

    goes-keep : (part : NodePart) (before : List (Place × List ℕ)) (k : Work) → part.beside.returned ≡ None → Awaits N env part.kept part.fetches asks0 named0 k → KeepsOn (node_turns env part before (goes_on env k))
    goes-keep part before k stays h =
        let w : Work = goes_on env k in
        cond_both (may_give_back env w) (gives_back env part before w) (with_work env part before w) KeepsOn (λ back. back-keeps part before w) (λ rests. rests-keep part before k stays h)

    turns-keep : (part : NodePart) (before : List (Place × List ℕ)) (k : Work) → part.beside.returned ≡ None → Awaits N env part.kept part.fetches asks0 named0 k → Turned Keeps env part before (goes_on env k)
    turns-keep part before k stays h = (λ rests. (rests-keep part before k stays h).0, λ back. (back-keeps part before (goes_on env k)).0)

  module _ (p : NodePart) (h : PartKeeps p) where
    abbrev RowKeeps : Option BackRow → Type 0
    RowKeeps o = NodeRowKeeps N env.serve.files env.serve.c env.n p o

    abbrev StageKeeps : ℕ → BackConn → Type 0
    StageKeeps e d = NodeStageKeeps N env.serve.files env.serve.c e env.n p d

    abbrev IsHere : ControlBlock × Stay → Type 0
    IsHere y = StayKeeps N env.serve.files env.serve.c env.epoch env.n p y.1

    -- so it is of the stay that is here
    stays : (b : ControlBlock) (s : Stay) → IsHereWith env.epoch p b s → IsHere (b, s)
    stays b s at =
        let k : StayKeeps N env.serve.files env.serve.c at.row.epoch.0 env.n (record p { stay = Some s }) s =
        of-here (λ q o. NodeRowKeeps N env.serve.files env.serve.c env.n (record p { stay = o }) q) env.epoch p b s at h in
        subst (λ (e : ℕ). StayKeeps N env.serve.files env.serve.c e env.n p s) at.epoch_is
        (record { asks = k.asks; fetches = k.fetches; order = k.order; few = k.few; not_back = k.not_back })

    module _ (P : Option (ControlBlock × Stay) → Type 0) (none : P None) (some : (y : ControlBlock × Stay) → IsHere y → P (Some y)) where
      at-epoch : P (here env.epoch p)
      at-epoch = where-here env.epoch p P none (λ b s at. some (b, s) (stays b s at))

      at-endpoint : env.epoch ≡ epoch_in p → P (both_of (back_endpoint p.row) p.stay)
      at-endpoint now = where-held env.epoch p P none (λ b s at. some (b, s) (stays b s at))
          (λ row found. sym (now ∙ ap (λ (o : Option BackRow). epoch_in (record p { row = o })) found))

    -- what is so of what a rule does, where this was here
    abbrev pub Goes : Option (ControlBlock × Stay) → NodeDeed → Type 0
    Goes o d = Keeps d × DeedGoes files env.epoch o d

    abbrev named_of : Stay → List (List ℕ)
    named_of s = named_paths files s.batch

    -- what is in hand at the beginning of a turn
    begun : (b : ControlBlock) (s : Stay) → StayKeeps N env.serve.files env.serve.c env.epoch env.n p s → Awaits N env p.kept p.fetches s.asks (named_of s) (work_of b s)
    begun b s k = (k.asks, record { each = k.fetches; order = k.order }, (refl, inr refl), k.few)

    dropped : (o : Option (ControlBlock × Stay)) → DeedGoes files env.epoch o Drops
    dropped None = tt
    dropped (Some y) = tt

    pub forwarded-keeps : (r : Result Said SegFault) → Goes (here env.epoch p) (node_forwarded env p r)
    forwarded-keeps (Err fault) = (tt, dropped (here env.epoch p))
    forwarded-keeps (Ok s) = at-epoch (λ o. Goes o (node_heard_by env p (Ok s) o)) (tt, tt)
        (λ y k. goes-keep y.1.asks (named_of y.1) p [] (work_of (on_segment y.0 s).1 y.1) k.not_back (begun (on_segment y.0 s).1 y.1 k))

    pub tagged-keeps : (number : ℕ) (nodes : List ℕ) → ((y : ControlBlock × Stay) → here env.epoch p ≡ Some y → y.1.asks ≡ number → Each N nodes) → Goes (here env.epoch p) (node_tagged env p number nodes)
    tagged-keeps number nodes all = at-epoch (λ o. (here env.epoch p ≡ o → Goes o (tagged_by env number nodes p o))) (λ e. (tt, tt))
        (λ y k is.
        let part : NodePart = record p { kept = without kind.Ask 0 p.kept } in
        let w : Work = work_of y.0 y.1 in
        let named : ℕ = length (named_paths files y.1.batch) in
        cond_both (is_tag_awaited env number nodes p y.1) (node_turns env part [] (goes_on env (tagged env nodes w))) Drops (Goes (Some y))
        (λ t.
        let its = and_parts (y.1.asks == number) (length nodes == named)
        (and_parts (is_some (find (is_under kind.Ask 0) p.kept)) (y.1.asks == number && length nodes == named) t).1 in
        let same : y.1.asks ≡ number = eqb-true y.1.asks number its.0 in
        let count : length nodes ≡ named = eqb-true (length nodes) named its.1 in
        let left : without kind.Ask 0 p.kept ≡ [] = asks-left env.serve.c env.epoch y.1.asks (named_paths files y.1.batch) p.kept k.asks in
        let first : Starts N env part.kept p.fetches y.1.asks (named_of y.1) (contents_awaited y.1.batch) (record w { batch = [] }) = (refl, record { each = k.fetches; order = k.order }, refl, refl, let few = k.few in omega (arith, few)) in
        goes-keep y.1.asks (named_of y.1) part [] (tagged env nodes w) k.not_back
        (started-await N env part.kept p.fetches y.1.asks (named_of y.1) (tagged env nodes w) left (starts-all N env part.kept p.fetches y.1.asks (named_of y.1) nodes (all y is same) w count first)))
        (λ t. (tt, tt)))
        refl

    -- a content or a job comes
    come-awaits : (fetches : List Kept) (n : ℕ) (f : Progress → Progress) → IsCalm files f → Loses n f → (r : ℕ) (b : ControlBlock) (s : Stay) → StayKeeps N env.serve.files env.serve.c env.epoch env.n p s
        → AreFetches N env.serve.files env.serve.c env.epoch env.n fetches → length fetches + n ≤ length p.fetches → Awaits N env p.kept fetches s.asks (named_of s) (came_for f r (work_of b s))
    come-awaits fetches n f calm loses r b s k are less =
        let w : Work = work_of b s in
        let i : ℕ = r - (w.service.count + 1) in
        let few = k.few in
        cond_both (nat_lt w.service.count r) (record w { batch = come_on f i w.batch }) w (Awaits N env p.kept fetches s.asks (named_of s))
        (λ t.
        let same : named_of s ≡ named_paths files (come_on f i s.batch) = sym (named-come files f calm i s.batch) in
        let most = awaited-come n f loses i s.batch in (
          subst (λ (ps : List (List ℕ)). AsksFor env.serve.c env.epoch s.asks ps p.kept) same k.asks,
          are,
          (refl, inr (sym same)),
          omega (arith, few, less, most),
        ))
        (λ t. (k.asks, are, (refl, inr refl), omega (arith, few, less)))

    pub content-keeps : (from r : ℕ) → Goes (here env.epoch p) (node_content env p from r)
    content-keeps from r = at-epoch (λ o. Goes o (come_by env from r p o)) (tt, tt)
        (λ y k.
        let part : NodePart = record p { fetches = without kind.Fetch r p.fetches } in
        let w : Work = work_of y.0 y.1 in
        cond_both (is_from from env.epoch (find (is_under kind.Fetch r) p.fetches)) (node_turns env part [] (goes_on env (came_for (come_progress from) r w))) Drops (Goes (Some y))
        (λ t. goes-keep y.1.asks (named_of y.1) part [] (came_for (come_progress from) r w) k.not_back
        (come-awaits part.fetches 1 (come_progress from) (come-calm files from) (come-loses from) r y.0 y.1 k
        (without-fetches N env.serve.files env.serve.c env.epoch env.n r p.fetches (record { each = k.fetches; order = k.order })) (found-less kind.Fetch r from env.epoch p.fetches t)))
        (λ t. (tt, tt)))

    pub read-keeps : (r : ℕ) → Goes (here env.epoch p) (node_read env p r)
    read-keeps r = at-epoch (λ o. Goes o (node_read_by env r p o)) (tt, tt)
        (λ y k. goes-keep y.1.asks (named_of y.1) p [] (came_for read_progress r (work_of y.0 y.1)) k.not_back
        (come-awaits p.fetches 0 read_progress (read-calm files) read-loses r y.0 y.1 k (record { each = k.fetches; order = k.order }) (omega arith)))

    pub timer-keeps : env.epoch ≡ epoch_in p → Goes (both_of (back_endpoint p.row) p.stay) (node_timer env p)
    timer-keeps at = at-endpoint (λ o. Goes o (node_fired_by env p o)) (tt, tt)
        (λ y k.
        let all = after-keeps y.1.asks (named_of y.1) p (work_of (after_timer y.0) y.1) (spoken env.serve (serving (after_timer y.0) y.1.served []) (serving_ready_of env.serve (after_timer y.0) (timed y.0))).0 k.not_back (begun (after_timer y.0) y.1 k) in
        (all.0, (all.1, all.2)))
        at

    -- ---- its end is acknowledged

    module _ (returns : Bool) (was : is_some p.beside.returned ≡ returns) where
      abbrev left : List Kept
      left = without (told_kind returns) 0 p.kept

      -- without what told that it is over, none is kept
      over-left : (e : ℕ) (o : Option ℕ) → is_some o ≡ returns → TellsOver env.serve.c e o p.kept → left ≡ []
      over-left e None is k = subst (λ (b : Bool). without (told_kind b) 0 p.kept ≡ []) is (ap (without kind.Ended 0) k.2)
      over-left e (Some served) is k = subst (λ (b : Bool). without (told_kind b) 0 p.kept ≡ []) is (ap (without kind.Give 0) k.1)

      told-over : (e : ℕ) (d : BackConn) → is_ended d ≡ true → StageKeeps e d → (left ≡ []) × (p.fetches ≡ [])
      told-over e (back.Here b) is k = let no : false ≡ true = is in absurd cc
      told-over e back.Out is k = absurd k
      told-over e back.Ended is k = (over-left e p.beside.returned was k.0, k.1)
      told-over e back.Gone is k = let no : false ≡ true = is in absurd cc

      gone-keeps : (o : Option BackRow) → RowKeeps o → awaits_ack env.epoch o ≡ true → NodeRowKeeps N env.serve.files env.serve.c env.n (record p { row = gone p.row; kept = left }) (gone o)
      gone-keeps None k t = let no : false ≡ true = t in absurd cc
      gone-keeps (Some row) k t = told-over row.epoch.0 row.stage (and_parts (row.epoch.0 == env.epoch) (is_ended row.stage) t).1 k

    -- ---- an Offer

    is-none : (e : ℕ) (d : BackConn) → is_gone d ≡ true → StageKeeps e d → (p.kept ≡ []) × (p.fetches ≡ [])
    is-none e (back.Here b) is k = let no : false ≡ true = is in absurd cc
    is-none e back.Out is k = absurd k
    is-none e back.Ended is k = let no : false ≡ true = is in absurd cc
    is-none e back.Gone is k = k

    -- where it is new, nothing is kept
    pub new-none : (o : Option BackRow) → RowKeeps o → offer_answer env.epoch o ≡ New → (p.kept ≡ []) × (p.fetches ≡ [])
    new-none None k is = k
    new-none (Some row) k is = go (row.epoch.0 == env.epoch) is where
      later : (b : Bool) → (nat_lt row.epoch.0 env.epoch && is_gone row.stage) ≡ b → cond b New Stale ≡ New → (p.kept ≡ []) × (p.fetches ≡ [])
      later true t e = is-none row.epoch.0 row.stage (and_parts (nat_lt row.epoch.0 env.epoch) (is_gone row.stage) t).1 k
      later false t e = let no : Stale ≡ New = e in absurd cc

      go : (b : Bool) → cond b Again (cond (nat_lt row.epoch.0 env.epoch && is_gone row.stage) New Stale) ≡ New → (p.kept ≡ []) × (p.fetches ≡ [])
      go true e = let no : Again ≡ New = e in absurd cc
      go false e = later (nat_lt row.epoch.0 env.epoch && is_gone row.stage) refl e

    begins-keep : (parts : EndpointParts) → offer_answer env.epoch p.row ≡ New → p.beside.returned ≡ None → KeepsOn 0 [] (offered_by env parts p New)
    begins-keep parts new stays =
        let empty = new-none p.row h new in
        rests-keep 0 [] p (taken_sent env) (state_of (reads_batch env true (node_begins env parts))) stays
        (batch-state N env p.kept p.fetches 0 [] true (node_begins env parts) refl
        (empty.0, subst (λ (ks : List Kept). AreFetches N env.serve.files env.serve.c env.epoch env.n ks) (sym empty.1) (record { each = tt; order = tt }), (refl, inl refl), (let none = ap (λ (ks : List Kept). length ks) empty.1 in omega (arith, none))))

    -- that it is refused changes nothing of what is kept
    refused-keeps : PartKeeps (kept_refused env p)
    refused-keeps = by-row p.row h where
      by-stay : (e : ℕ) (o : Option Stay) → HereKeeps N env.serve.files env.serve.c e env.n p o → HereKeeps N env.serve.files env.serve.c e env.n (kept_refused env p) o
      by-stay e None k = k
      by-stay e (Some s) k = record { asks = k.asks; fetches = k.fetches; order = k.order; few = k.few; not_back = k.not_back }

      by-stage : (e : ℕ) (d : BackConn) → StageKeeps e d → NodeStageKeeps N env.serve.files env.serve.c e env.n (kept_refused env p) d
      by-stage e (back.Here b) k = by-stay e p.stay k
      by-stage e back.Out k = k
      by-stage e back.Ended k = k
      by-stage e back.Gone k = k

      by-row : (o : Option BackRow) → RowKeeps o → NodeRowKeeps N env.serve.files env.serve.c env.n (kept_refused env p) o
      by-row None k = k
      by-row (Some row) k = by-stage row.epoch.0 row.stage k

    offered-by : (parts : EndpointParts) → GaverLeaves p → (a : Adopt) → offer_decision env.leaving env.epoch p.row p.beside ≡ a → Keeps (offered_by env parts p a) × OfferFollows files env.epoch a (offered_by env parts p a)
    offered-by parts leaves New is = let new = decision-new env.leaving env.epoch p.row p.beside is in begins-keep parts new.0 (leaves new.1)
    offered-by parts leaves Again is = (tt, tt)
    offered-by parts leaves Stale is = (tt, tt)
    offered-by parts leaves Refuse is = (refused-keeps, tt)

    pub offered-keeps : (parts : EndpointParts) → GaverLeaves p → Keeps (node_offered env p parts) × OfferFollows files env.epoch (offer_decision env.leaving env.epoch p.row p.beside) (node_offered env p parts)
    offered-keeps parts leaves = offered-by parts leaves (offer_decision env.leaving env.epoch p.row p.beside) refl

    -- ---- whatever comes

    abbrev pub MayCome : NodeGets → Type 0
    MayCome (Offered parts) = GaverLeaves p
    MayCome (Tagged number nodes) = (b : ControlBlock) (s : Stay) → IsHereWith env.epoch p b s → s.asks ≡ number → Each N nodes
    MayCome _ = Unit {0}

    by-rules : KeptByNode env p MayCome Keeps
    by-rules = record {
      drops = tt;
      hears = λ said b s m at. let k = stays b s at in turns-keep s.asks (named_of s) p [] (work_of (on_segment b said).1 s) k.not_back (begun (on_segment b said).1 s k);
      tags = λ number nodes b s m at asked same count.
          let k = stays b s at in
          let part : NodePart = record p { kept = without kind.Ask 0 p.kept } in
          let left : without kind.Ask 0 p.kept ≡ [] = asks-left env.serve.c env.epoch s.asks (named_paths files s.batch) p.kept k.asks in
          let first : Starts N env part.kept p.fetches s.asks (named_of s) (contents_awaited s.batch) (record (work_of b s) { batch = [] }) = (refl, record { each = k.fetches; order = k.order }, refl, refl, let few = k.few in omega (arith, few)) in
          turns-keep s.asks (named_of s) part [] (tagged env nodes (work_of b s)) k.not_back
          (started-await N env part.kept p.fetches s.asks (named_of s) (tagged env nodes (work_of b s)) left (starts-all N env part.kept p.fetches s.asks (named_of s) nodes (m b s at same) (work_of b s) count first));
      comes = λ from r b s m at wanted.
          let k = stays b s at in
          let part : NodePart = record p { fetches = without kind.Fetch r p.fetches } in
          turns-keep s.asks (named_of s) part [] (came_for (come_progress from) r (work_of b s)) k.not_back
          (come-awaits part.fetches 1 (come_progress from) (come-calm files from) (come-loses from) r b s k
          (without-fetches N env.serve.files env.serve.c env.epoch env.n r p.fetches (record { each = k.fetches; order = k.order })) (found-less kind.Fetch r from env.epoch p.fetches wanted));
      reads = λ r path b s m at.
          let k = stays b s at in
          turns-keep s.asks (named_of s) p [] (came_for read_progress r (work_of b s)) k.not_back
          (come-awaits p.fetches 0 read_progress (read-calm files) read-loses r b s k (record { each = k.fetches; order = k.order }) (omega arith));
      begins = λ parts m new may. (begins-keep parts new (m may.0)).0;
      takes_again = λ parts m again. tt;
      refuses = λ parts m is. refused-keeps;
      fires = λ b s m at. let k = stays b s at in (after-keeps s.asks (named_of s) p (work_of (after_timer b) s) (spoken env.serve (serving (after_timer b) s.served []) (serving_ready_of env.serve (after_timer b) (timed b))).0 k.not_back (begun (after_timer b) s k)).0;
      resends = λ m none. tt;
      ends = λ returns m told was. gone-keeps returns was p.row h told;
      leaves = λ b s m at back. (back-keeps s.asks (named_of s) p [] (work_of b s)).0;
    }

    pub rule-keeps : (g : NodeGets) → IsOfItsEpoch env p g → MayCome g → Keeps (node_rule env p g)
    rule-keeps g at m = node-keeps env p MayCome Keeps by-rules g at m

-- ---- its move

pub node-move : (N : ℕ → Type 0) (fs : FilesAt) (x : Conn) (n : ℕ) (heads : List Seen) (d : NodeDeed) → DeedKeeps N fs x.c n d → IsKeptByStage N fs x → IsKeptByStage N fs (grown x (node_does x n heads d))
node-move N fs x n heads Drops k h = record { front = h.front; nodes = h.nodes }
node-move N fs x n heads (Says ms) k h = record { front = h.front; nodes = h.nodes }
node-move N fs x n heads (Does given) k h = record { front = h.front; nodes = put-each x.part.nodes n given.0 (λ m p. NodeKeepsMessages N fs x.c m p) k (λ m other. h.nodes m) }
