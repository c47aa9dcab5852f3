-- What each rule of a node keeps of a connection, and that its turn is in range.
use Rattle.std.proofs.Common.{◌≡◌, ℕ, suc, ◌+◌, ◌-◌, ◌≤◌, ◌<◌, ◌^◌, List, [], ◌∷◌, ◌++◌, length, Bool, true, Option, Some, None, IfSome, Ok, refl, ap, subst, arith, length-append}
use Rattle.lard_law_view.specs.Prelude.{Asked, BackRow, Content, ControlBlock, Ending, EndpointParts, Final, Forwarded, IsNumber, IsRecordInRange, Kept, Node, NodeDeed, NodeEnv, NodeGets, NodePart, NodeTurn, Offered, Place, Progress, Said, Stay, Tagged, Turn, Want, Work, after_timer, again_sent, all_sent, anew, ask_kept, asked_kept, asked_sent, back_endpoint, came_for, come_progress, ended_kept, ended_sent, fetch_of, gave_by, give_kept, gives_back, goes_on, gone, kept_after, kept_refused, may_freeze, may_give_back, node_begins, node_fired, node_rule, node_saying, on_segment, parts_of, read_progress, reads_batch, refused_sent, reset_count, sent_of, serving, serving_ready_of, serving_settled, spoken, state_of, tagged, taken_sent, timed, told_kind, turn_by, wants_kept, wants_sent, with_work, without, work_of}
use Rattle.lard_base.specs.declared.place.TimerKind.TheVariants as kind
use Rattle.lard_rules.specs.Bounds as cluster
use Rattle.lard_law_connections.proofs.NodeReady.{is-ready}
use Rattle.lard_laws.proofs.RecordsCounted.{IsCounted, came-counts, tagged-counts}
use Rattle.lard_laws.proofs.RecordsFit.{IsAdoptable, IsTold, keeping-adopted, keeping-segment, keeping-timer, offer-fits}
use Rattle.lard_laws.proofs.RecordsLetters.{IsLetter, ask-says, bytes-message, ended-says, give-says, refused-says, spells, taken-says}
use Rattle.lard_laws.proofs.RecordsNamed.{AreNamed, IsNamed, contents}
use Rattle.lard_laws.proofs.RecordsRead.{EndsRead, HasRead, IsRead, batch-read, came-read, goes-read, segment-read, settled-read, spoken-read, tagged-read, timer-read}
use Rattle.lard_laws.proofs.RecordsServing.{EndFits, EndKeeps, EndTells, Keeps, ready-few, ready-sent, settled-fits, settled-tells, spoken-fits, spoken-tells}
use Rattle.lard_laws.proofs.RecordsTurns.{AreHeld, IsTurn, held-less, held-more, held-sent, length-held, length-less, length-more, sends}
use Rattle.lard_laws.proofs.RecordsWorks.{AskFits, EntryFits, IsAtWork, JobFits, ProgressFits, WantFits, at, batch-works, came-fits, came-works, goes-works, read-fits, tagged-works, work-wider}
use Rattle.lard_laws.proofs.RecordsWorks as works
use Rattle.lard_history.proofs.Each.{Each, Each-append, Each-weaker}
use Rattle.lard_law_view.proofs.ByteLists.{AreBytes, each-all}
use Rattle.lard_message.specs.declared.message.Body.TheVariants as body
use Rattle.lard_message.specs.Message.{IsPath}
use Rattle.lard_rules.proofs.NodeCases.{IsHereWith, IsOfItsEpoch, KeptByNode, Turned, node-keeps, of-here}
use Rattle.lard_rules.specs.Node.{Drops, Says, Does}
use Rattle.lard_rules.specs.declared.places.Ending.TheVariants.{Here, Over}

-- ---- what is kept

-- the endpoint that is here, and the requests that were read of it, each of a byte at least, of which each Ask is for one at least
abbrev pub BothKeep : ControlBlock → Stay → Type 0
BothKeep b s = Keeps s.served b × Each EntryFits s.batch × (length s.batch ≤ 8) × (s.asks ≤ s.served + length s.batch)
    × HasRead (s.served + length s.batch) b.recv

abbrev pub HereKeeps : Option ControlBlock → Option Stay → Type 0
HereKeeps None o = Unit {0}
HereKeeps (Some b) None = Unit {0}
HereKeeps (Some b) (Some s) = BothKeep b s

-- an epoch fits the two bytes in which a message has it
abbrev pub IsEarly : Option BackRow → Type 0
IsEarly None = Unit {0}
IsEarly (Some row) = row.epoch.0 < 2 ^ 16

-- Of what node n keeps: at most so many messages are held.
pub record NodeKeeps (n most : ℕ) (p : NodePart) : Type 0 where
  pub early : IsEarly p.row
  pub here : HereKeeps (back_endpoint p.row) p.stay
  pub kept : AreHeld (Node n) p.kept
  pub few : length p.kept ≤ most
  pub fetches : AreHeld (Node n) p.fetches
  pub few_fetches : length p.fetches ≤ most

pub keeps-wider : (n most more : ℕ) (p : NodePart) → most ≤ more → NodeKeeps n most p → NodeKeeps n more p
keeps-wider n most more p le h = let few = h.few in let fetches = h.few_fetches in
    record { early = h.early; here = h.here; kept = h.kept; few = omega (arith, few, le); fetches = h.fetches; few_fetches = omega (arith, fetches, le) }

-- ---- what a rule comes to

abbrev pub NodeTurnFits : ℕ → NodeTurn → Type 0
NodeTurnFits n t = IsTurn (Node n) t.notes t.segments t.gave t.messages × Each JobFits t.jobs

abbrev pub DeedFits : ℕ → ℕ → NodeDeed → Type 0
DeedFits n most Drops = Unit {0}
DeedFits n most (Says messages) = Each (IsLetter (Node n)) messages × (length messages ≤ 2 ^ 30)
DeedFits n most (Does x) = NodeKeeps n (most + length x.1.messages) x.0 × NodeTurnFits n x.1

gone-early : (row : Option BackRow) → IsEarly row → IsEarly (gone row)
gone-early None h = tt
gone-early (Some row) h = h

gone-keeps : (row : Option BackRow) (s : Option Stay) → HereKeeps (back_endpoint (gone row)) s
gone-keeps None s = tt
gone-keeps (Some row) s = tt

-- what comes is in range
abbrev pub MayFit : NodeGets → Type 0
MayFit (Offered parts) = IsAdoptable parts
MayFit (Forwarded (Ok said)) = IsTold said
MayFit (Tagged number nodes) = Each IsNumber nodes
MayFit (Content from r) = IsNumber from
MayFit _ = Unit {0}

-- ---- the rules, in an environment of a node

module _ (env : NodeEnv) (own : env.serve.place ≡ Node env.n) (node : IsNumber env.n) (conn : cluster.IsConnNumber env.serve.c) (early : env.epoch < 2 ^ 16) (small : env.serve.stream ≤ 2 ^ 30) (files : AreNamed env.serve.files) (short : env.queue ≤ 2 ^ 30) (most : ℕ) (packets : most ≤ 2 ^ 20) where
  abbrev number : IsNumber env.serve.c
  number = works.number env own node conn early small files short

  abbrev Works : ℕ → Work → Type 0
  Works j w = IsAtWork env own node conn early small files short 8 j w

  abbrev IsSaid : Place × List ℕ → Type 0
  IsSaid s = IsLetter (Node env.n) s

  -- ---- messages

  ask-sent : (a : Asked) → AskFits a → IsSaid (sent_of (ask_kept env.serve.c env.epoch a))
  ask-sent a h =
      let size = h.0 in
      let few = h.1 in (
        tt,
        bytes-message env.serve.c env.epoch (body.Ask a.number a.queue a.size a.paths) (omega (arith, size), omega (arith, few, size), Each-weaker IsNamed AreBytes (λ p k. k.1) a.paths h.2),
        ask-says env.serve.c env.epoch a.number a.queue a.size a.paths h.2,
        spells env.serve.c env.epoch (body.Ask a.number a.queue a.size a.paths) conn early (h.0, h.3, h.1, each-all IsPath a.paths (Each-weaker IsNamed IsPath (λ p k. k.2) a.paths h.2)) (h.4, h.5),
      )

  asks-sent : (o : Option Asked) → IfSome o AskFits → Each IsSaid (asked_sent env o)
  asks-sent None h = tt
  asks-sent (Some a) h = (ask-sent a h, tt)

  fetch-sent : (w : Want) → WantFits w → IsSaid (sent_of (fetch_of env w))
  fetch-sent w h = (h.0, bytes-message env.serve.c env.epoch (body.Fetch w.r w.path) h.1.1, tt, spells env.serve.c env.epoch (body.Fetch w.r w.path) conn early h.1.2 h.2)

  wants-said : (ws : List Want) → Each WantFits ws → Each IsSaid (wants_sent env ws)
  wants-said [] h = tt
  wants-said (w ∷ ws) h = (fetch-sent w h.0, wants-said ws h.1)

  wants-length : (ws : List Want) → length (wants_sent env ws) ≡ length ws
  wants-length [] = refl
  wants-length (w ∷ ws) = ap suc (wants-length ws)

  end-said : (over : Option ℕ) (n : ℕ) (last : Final) → EndTells over n (Over last) → IsSaid (sent_of (ended_kept env.serve.c env.epoch last (reset_count over)))
  end-said over n last h =
      let count : ℕ = reset_count over in (
        tt,
        bytes-message env.serve.c env.epoch (body.Ended last.reason last.snd.0 last.rcv.0 count) tt,
        ended-says env.serve.c env.epoch last.reason last.snd.0 last.rcv.0 count,
        spells env.serve.c env.epoch (body.Ended last.reason last.snd.0 last.rcv.0 count) conn early h.0 h.1,
      )

  ends-said : (over : Option ℕ) (n : ℕ) (e : Ending) → EndTells over n e → Each IsSaid (ended_sent env over e)
  ends-said over n (Here b count) h = tt
  ends-said over n (Over last) h = (end-said over n last h, tt)

  ends-few : (over : Option ℕ) (e : Ending) → length (ended_sent env over e) ≤ 1
  ends-few over (Here b count) = omega arith
  ends-few over (Over last) = omega arith

  asks-few : (o : Option Asked) → length (asked_sent env o) ≤ 1
  asks-few None = omega arith
  asks-few (Some a) = omega arith

  gave-range : (e : Ending) → Each IsRecordInRange (gave_by env e)
  gave-range (Here b count) = tt
  gave-range (Over last) = ((node, number, omega (arith, early)), tt)

  -- ---- what is held after a turn

  asked-held : (o : Option Asked) (ks : List Kept) → IfSome o AskFits → AreHeld (Node env.n) ks → AreHeld (Node env.n) (asked_kept env o ks)
  asked-held None ks a h = h
  asked-held (Some a) ks f h = held-more (Node env.n) (ask_kept env.serve.c env.epoch a) ks (ask-sent a f) h

  asked-length : (o : Option Asked) (ks : List Kept) → length (asked_kept env o ks) ≤ length ks + length (asked_sent env o)
  asked-length None ks = omega arith
  asked-length (Some a) ks = length-more (ask_kept env.serve.c env.epoch a) ks

  wants-held : (ws : List Want) (ks : List Kept) → Each WantFits ws → AreHeld (Node env.n) ks → AreHeld (Node env.n) (wants_kept env ws ks)
  wants-held [] ks f h = h
  wants-held (w ∷ ws) ks f h = wants-held ws (anew (fetch_of env w) ks) f.1 (held-more (Node env.n) (fetch_of env w) ks (fetch-sent w f.0) h)

  held-length : (ws : List Want) (ks : List Kept) → length (wants_kept env ws ks) ≤ length ks + length ws
  held-length [] ks = omega arith
  held-length (w ∷ ws) ks = let more = length-more (fetch_of env w) ks in let rest = held-length ws (anew (fetch_of env w) ks) in omega (arith, more, rest)

  -- ---- the end of a turn

  -- what is in hand behind a turn
  record InHand (w : Work) : Type 0 where
    works : Works 8 w
    counts : IsCounted w
    read : IsRead w

  module _ (p : NodePart) (held : NodeKeeps env.n most p) (before : List (Place × List ℕ)) (said : Each IsSaid before) (few : length before ≤ 2 ^ 22) (w : Work) (h : InHand w) where
    -- before what tells that the stay is over
    all-said : Each IsSaid (all_sent env before w)
    all-said = Each-append IsSaid (before ++ asked_sent env w.asked) (wants_sent env w.wants)
        (Each-append IsSaid before (asked_sent env w.asked) said (asks-sent w.asked h.works.asked)) (wants-said w.wants h.works.wants)

    all-length : length (all_sent env before w) ≡ length before + length (asked_sent env w.asked) + length w.wants
    all-length =
        let a = length-append before (asked_sent env w.asked) in
        let b = length-append (before ++ asked_sent env w.asked) (wants_sent env w.wants) in
        let wants = wants-length w.wants in
        omega (arith, a, b, wants)

    abbrev Sends : Ending → List (Place × List ℕ)
    Sends e = all_sent env before w ++ ended_sent env w.service.over e

    sends-length : (e : Ending) → length (Sends e) ≡ length before + length (asked_sent env w.asked) + length w.wants + length (ended_sent env w.service.over e)
    sends-length e =
        let all = all-length in
        let d = length-append (all_sent env before w) (ended_sent env w.service.over e) in
        omega (arith, all, d)

    after-keeps : (e : Ending) → EndKeeps e → EndTells w.service.over w.service.count e → EndsRead (length w.batch) e → NodeKeeps env.n (most + length (Sends e)) (kept_after env p w e)
    after-keeps (Here b count) keeps tells read =
        let all = sends-length (Here b count) in
        let one = asked-length w.asked p.kept in
        let more = held-length w.wants p.fetches in
        let kept_few = held.few in
        let fetches_few = held.few_fetches in
        let asks = h.counts.asks in
        record {
          early = early;
          here = (keeps, h.works.batch, h.works.few, omega (arith, asks, tells), read);
          kept = asked-held w.asked p.kept h.works.asked held.kept;
          few = omega (arith, all, one, kept_few);
          fetches = wants-held w.wants p.fetches h.works.wants held.fetches;
          few_fetches = omega (arith, all, more, fetches_few);
        }
    after-keeps (Over last) keeps tells read =
        let all = sends-length (Over last) in
        record { early = early; here = tt; kept = (end-said w.service.over w.service.count last tells, tt); few = omega (arith, all); fetches = tt; few_fetches = omega arith }

    result : (given : Ending × Turn) → EndFits (Node env.n) given → EndTells w.service.over w.service.count given.0 → EndsRead (length w.batch) given.0
        → DeedFits env.n most (Does (kept_after env p w given.0, turn_by env before w given))
    result given fits tells read =
        let all = sends-length given.0 in
        let one = asks-few w.asked in
        let last = ends-few w.service.over given.0 in
        let eight = h.works.few_wants in (
          after-keeps given.0 fits.keeps tells read,
          (
            record {
              notes = fits.turn.notes;
              segments = fits.turn.sent;
              few = fits.turn.few;
              gave = gave-range given.0;
              messages = Each-append IsSaid (all_sent env before w) (ended_sent env w.service.over given.0) all-said (ends-said w.service.over w.service.count given.0 tells);
              few_messages = omega (arith, all, one, last, eight, few);
            },
            h.works.jobs,
          ),
        )

    -- where it goes back: the numbers of an endpoint that may freeze fit a message
    give-said : may_freeze w.service.block ≡ true → IsSaid (sent_of (give_kept env w))
    give-said may =
        let b : ControlBlock = w.service.block in
        let read = h.read in
        let parts = offer-fits b w.service.count may (omega (arith, read)) h.works.service.keeps.2 in (
          tt,
          bytes-message env.serve.c env.epoch (body.Give (parts_of b w.service.count)) h.works.service.keeps.1,
          give-says env.serve.c env.epoch (parts_of b w.service.count),
          spells env.serve.c env.epoch (body.Give (parts_of b w.service.count)) conn early parts.0 parts.1,
        )

    returns : may_give_back env w ≡ true → DeedFits env.n most (gives_back env p before w)
    returns back =
        let give : IsSaid (sent_of (give_kept env w)) = give-said (is-ready env w back).freezes in
        let all = all-length in
        let more = length-append (all_sent env before w) (sent_of (give_kept env w) ∷ []) in
        let one = asks-few w.asked in
        let eight = h.works.few_wants in (
          record { early = early; here = tt; kept = (give, tt); few = omega (arith, more); fetches = tt; few_fetches = omega arith },
          (
            record {
              notes = h.works.service.notes;
              segments = tt;
              few = omega arith;
              gave = ((node, number, omega (arith, early)), tt);
              messages = Each-append IsSaid (all_sent env before w) (sent_of (give_kept env w) ∷ []) all-said (give, tt);
              few_messages = omega (arith, all, more, one, eight, few);
            },
            h.works.jobs,
          ),
        )

  abbrev Fits : NodeDeed → Type 0
  Fits d = DeedFits env.n most d

  work-fits : (p : NodePart) → NodeKeeps env.n most p → (before : List (Place × List ℕ)) → Each IsSaid before → length before ≤ 2 ^ 22 → (w : Work) → InHand w → Fits (with_work env p before w)
  work-fits p held before said few w h = result p held before said few w h (serving_settled env.serve w.service)
      (subst (λ (q : Place). EndFits q (serving_settled env.serve w.service)) own (settled-fits env.serve number small (contents env.serve.files files) (at env own node conn early small files short) w.service h.works.service))
      (settled-tells env.serve number small (contents env.serve.files files) (at env own node conn early small files short) w.service h.works.service)
      (settled-read env.serve (length w.batch) w.service h.read)

  -- it rests, or goes back
  turn-fits : (p : NodePart) → NodeKeeps env.n most p → (w : Work) → InHand w → Turned Fits env p [] w
  turn-fits p held w h = (λ rests. work-fits p held [] tt (omega arith) w h, λ back. returns p held [] tt (omega arith) w h back)

  goes : (w : Work) → Works 8 w → IsCounted w → IsRead w → InHand (goes_on env w)
  goes w works counts read = let on = goes-works env own node conn early small files short 8 w works counts in record { works = on.0; counts = on.1; read = goes-read env w read }

  wide : (w : Work) → Works 0 w → Works 8 w
  wide w h = work-wider env own node conn early small files short 8 0 8 8 w (omega arith) (omega arith) h

  -- nothing was done in the turn yet
  fresh : (b : ControlBlock) (s : Stay) → BothKeep b s → Works 0 (work_of b s)
  fresh b s h = record { service = record { notes = tt; keeps = h.0; over = tt }; batch = h.1; few = h.2; jobs = tt; wants = tt; few_wants = omega arith; asked = tt }

  fresh-counts : (b : ControlBlock) (s : Stay) → BothKeep b s → IsCounted (work_of b s)
  fresh-counts b s h = record { asks = h.3; jobs = omega arith }

  module _ (p : NodePart) (held : NodeKeeps env.n most p) where
    both-here : (b : ControlBlock) (s : Stay) → IsHereWith env.epoch p b s → BothKeep b s
    both-here b s at = of-here (λ (row : Option BackRow) (stay : Option Stay). HereKeeps (back_endpoint row) stay) env.epoch p b s at held.here

    hears : (said : Said) (b : ControlBlock) (s : Stay) → IsTold said → BothKeep b s → Turned Fits env p [] (goes_on env (work_of (on_segment b said).1 s))
    hears said b s told h =
        let w : Work = work_of (on_segment b said).1 s in
        let read : IsRead w = segment-read (s.served + length s.batch) b said h.0.2.block h.4 in
        let both : BothKeep (on_segment b said).1 s = (keeping-segment (s.served - 2 ^ 30) b said told h.0, h.1, h.2, h.3, read) in
        turn-fits p held (goes_on env w) (goes w (wide w (fresh (on_segment b said).1 s both)) (fresh-counts (on_segment b said).1 s both) read)

    tags : (nodes : List ℕ) (b : ControlBlock) (s : Stay) → Each IsNumber nodes → BothKeep b s
        → Turned Fits env (record p { kept = without kind.Ask 0 p.kept }) [] (goes_on env (tagged env nodes (work_of b s)))
    tags nodes b s ns h =
        let q : NodePart = record p { kept = without kind.Ask 0 p.kept } in
        let w : Work = tagged env nodes (work_of b s) in
        let few = held.few in
        let fewer = length-less kind.Ask 0 p.kept in
        let less : NodeKeeps env.n most q = record { early = held.early; here = held.here; kept = held-less kind.Ask 0 (Node env.n) p.kept held.kept; few = omega (arith, few, fewer); fetches = held.fetches; few_fetches = held.few_fetches } in
        turn-fits q less (goes_on env w) (goes w (tagged-works env own node conn early small files short nodes (work_of b s) ns (fresh b s h))
        (tagged-counts env nodes (work_of b s) (omega arith) (fresh-counts b s h)) (tagged-read env nodes (work_of b s) h.4))

    came : (f : Progress → Progress) → ((x : Progress) → ProgressFits x → ProgressFits (f x)) → (r : ℕ) (b : ControlBlock) (s : Stay) → BothKeep b s
        → InHand (goes_on env (came_for f r (work_of b s)))
    came f on r b s h =
        let w : Work = came_for f r (work_of b s) in
        goes w (wide w (came-works env own node conn early small files short f on r (work_of b s) (fresh b s h))) (came-counts env f r (work_of b s) (fresh-counts b s h))
        (came-read env f r (work_of b s) h.4)

    comes : (from r : ℕ) (b : ControlBlock) (s : Stay) → IsNumber from → BothKeep b s
        → Turned Fits env (record p { fetches = without kind.Fetch r p.fetches }) [] (goes_on env (came_for (come_progress from) r (work_of b s)))
    comes from r b s n h =
        let q : NodePart = record p { fetches = without kind.Fetch r p.fetches } in
        let few = held.few_fetches in
        let fewer = length-less kind.Fetch r p.fetches in
        let less : NodeKeeps env.n most q = record { early = held.early; here = held.here; kept = held.kept; few = held.few; fetches = held-less kind.Fetch r (Node env.n) p.fetches held.fetches; few_fetches = omega (arith, few, fewer) } in
        turn-fits q less (goes_on env (came_for (come_progress from) r (work_of b s))) (came (come_progress from) (came-fits from n) r b s h)

    -- ---- an Offer

    takes : Each IsSaid (taken_sent env)
    takes = ((tt, bytes-message env.serve.c env.epoch body.Taken tt, taken-says env.serve.c env.epoch, spells env.serve.c env.epoch body.Taken conn early tt tt), tt)

    begins : (parts : EndpointParts) → IsAdoptable parts
        → Fits (with_work env p (taken_sent env) (goes_on env (state_of (reads_batch env true (node_begins env parts)))))
    begins parts fit =
        let w : Work = state_of (reads_batch env true (node_begins env parts)) in
        let start : IsAtWork env own node conn early small files short 8 0 (node_begins env parts) = record {
          service = record { notes = ((node, number, omega (arith, early)), tt); keeps = keeping-adopted parts fit; over = tt };
          batch = tt;
          few = omega arith;
          jobs = tt;
          wants = tt;
          few_wants = omega arith;
          asked = tt;
        } in
        let first : IsCounted (node_begins env parts) = record { asks = omega arith; jobs = omega arith } in
        let begun = batch-works env own node conn early small files short 0 true (node_begins env parts) refl start first in
        let answered = fit.valid.answered in
        let within = fit.valid.within in
        let read : IsRead w = batch-read env true (node_begins env parts) refl (omega (arith, answered, within)) in
        work-fits p held (taken_sent env) takes (omega arith) (goes_on env w) (goes w (wide w begun.0) begun.1 read)

    refused : Fits (Does (kept_refused env p, node_saying (refused_sent env)))
    refused =
        let few = held.few in
        let fetches = held.few_fetches in (
          record { early = held.early; here = held.here; kept = held.kept; few = omega (arith, few); fetches = held.fetches; few_fetches = omega (arith, fetches) },
          (
            sends (Node env.n) (refused_sent env)
                ((tt, bytes-message env.serve.c env.epoch body.Refused tt, refused-says env.serve.c env.epoch, spells env.serve.c env.epoch body.Refused conn early tt tt), tt) (omega arith),
            tt,
          ),
        )

    -- ---- the end of a stay

    ends : (back : Bool) → Fits (Does (record p { row = gone p.row; kept = without (told_kind back) 0 p.kept }, node_saying []))
    ends back =
        let few = held.few in
        let fetches = held.few_fetches in
        let fewer = length-less (told_kind back) 0 p.kept in (
          record {
            early = gone-early p.row held.early;
            here = gone-keeps p.row p.stay;
            kept = held-less (told_kind back) 0 (Node env.n) p.kept held.kept;
            few = omega (arith, few, fewer);
            fetches = held.fetches;
            few_fetches = omega (arith, fetches);
          },
          (sends (Node env.n) [] tt (omega arith), tt),
        )

    -- ---- timers

    again-few : length (again_sent p) ≤ 2 ^ 22
    again-few =
        let few = held.few in
        let fetches = held.few_fetches in
        let both = length-append p.kept p.fetches in
        let same = length-held (p.kept ++ p.fetches) in
        omega (arith, few, fetches, both, same, packets)

    again : Each IsSaid (again_sent p)
    again = held-sent (Node env.n) (p.kept ++ p.fetches) (Each-append (λ k. IsSaid (sent_of k)) p.kept p.fetches held.kept held.fetches)

    fires : (b : ControlBlock) (s : Stay) → BothKeep b s
        → Fits (Does (node_fired env p (b, s) (spoken env.serve (serving (after_timer b) s.served []) (serving_ready_of env.serve (after_timer b) (timed b)))))
    fires b0 s h =
        let b : ControlBlock = after_timer b0 in
        let after : Keeps s.served b = keeping-timer (s.served - 2 ^ 30) b0 h.0 in
        let w : Work = work_of b s in
        let read : IsRead w = timer-read (s.served + length s.batch) b0 h.4 in
        let both : BothKeep b s = (after, h.1, h.2, h.3, read) in
        result p held (again_sent p) again again-few w (record { works = wide w (fresh b s both); counts = fresh-counts b s both; read = read }) (spoken env.serve (serving b s.served []) (serving_ready_of env.serve b (timed b0)))
        (subst (λ (q : Place). EndFits q (spoken env.serve (serving b s.served []) (serving_ready_of env.serve b (timed b0)))) own
        (spoken-fits env.serve number small (contents env.serve.files files) (at env own node conn early small files short) (serving b s.served []) (serving_ready_of env.serve b (timed b0))
        (ready-sent env.serve number (s.served - 2 ^ 30) b (timed b0) after) (ready-few env.serve number b (timed b0)) (record { notes = tt; keeps = after; over = tt })))
        (spoken-tells env.serve number small (contents env.serve.files files) (at env own node conn early small files short) (serving b s.served []) (serving_ready_of env.serve b (timed b0)))
        (spoken-read env.serve (length s.batch) (serving b s.served []) read (serving_ready_of env.serve b (timed b0)))

    -- ---- the node leaves

    gives-up : (b : ControlBlock) (s : Stay) → BothKeep b s → may_give_back env (work_of b s) ≡ true → Fits (gives_back env p [] (work_of b s))
    gives-up b s h back = returns p held [] tt (omega arith) (work_of b s) (record { works = wide (work_of b s) (fresh b s h); counts = fresh-counts b s h; read = h.4 }) back

    -- ---- the rules

    rules_fit : KeptByNode env p MayFit Fits
    rules_fit = record {
      drops = tt;
      hears = λ said b s m here. hears said b s m (both-here b s here);
      tags = λ number nodes b s m here asked same count. tags nodes b s m (both-here b s here);
      comes = λ from r b s m here wanted. comes from r b s m (both-here b s here);
      reads = λ r path b s m here.
          turn-fits p held (goes_on env (came_for read_progress r (work_of b s))) (came read_progress read-fits r b s (both-here b s here));
      begins = λ parts m new may. begins parts m;
      takes_again = λ parts m told. (takes, omega arith);
      refuses = λ parts m is. refused;
      fires = λ b s m here. fires b s (both-here b s here);
      resends = λ m none. let few = again-few in (again, omega (arith, few));
      ends = λ back m told was. ends back;
      leaves = λ b s m here back. gives-up b s (both-here b s here) back;
    }

    pub rule-fits : (g : NodeGets) → IsOfItsEpoch env p g → MayFit g → Fits (node_rule env p g)
    rule-fits g in_epoch m = node-keeps env p MayFit Fits rules_fit g in_epoch m
