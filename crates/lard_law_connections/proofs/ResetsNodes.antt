-- What a node does keeps the law of RST.
use Rattle.std.proofs.Common.{◌≡◌, ℕ, Bool, true, List, [], ◌∷◌, ◌++◌, Option, Some, None, refl, sym, subst}
use Rattle.lard_law_view.specs.Prelude.{AreSent, Asked, Conn, ControlBlock, Ending, IsConnSound, IsNodeEnv, Kept, Node, NodeDeed, NodeEnv, NodeGets, NodePart, Place, Progress, Seen, Service, Setting, Stay, Turn, Want, Work, after_timer, again_sent, all_sent, asked_sent, came_for, come_progress, ended_sent, give_kept, gives_back, goes_on, kept_after, named_records, node_begins, node_does, node_rule, on_segment, read_progress, reads_batch, sent_of, serving, serving_ready_of, serving_settled, spoken, state_of, tagged, taken_sent, tale_at, timed, turn_by, wants_sent, with_work, without, work_of}
use Rattle.lard_base.specs.declared.place.TimerKind.TheVariants as timer
use Rattle.lard_history.proofs.Each.{Each, Each-append}
use Rattle.lard_law_connections.proofs.LimitsWorking.{batch-state, came-so, goes-so, tagged-so}
use Rattle.lard_law_connections.proofs.ResetsMoves.{IsBehindResets, MoveResets, ended-ends, kept-fair, other-ends}
use Rattle.lard_law_connections.proofs.ResetsRows.{AllKeepRst, KeepsRst, IsUnsentSeen, fair-more, named-resets, resets-stay, resets_on, row-more}
use Rattle.lard_law_connections.proofs.ResetsTurns.{EndingAfter, IsBehind, TurnResets, are-fair, serving-behind, settled-resets, spoken-resets, timed-plain}
use Rattle.lard_message.specs.declared.message.Body.TheVariants as body
use Rattle.lard_rules.proofs.NodeCases.{IsOfItsEpoch, KeptByNode, Turned, node-keeps}
use Rattle.lard_rules.specs.declared.places.Ending.TheVariants as ending
use Rattle.lard_rules.specs.Node.{Drops, Says, Does}

both-sent : (x : Conn) (place : Place) (ks ls : List Kept) → AreSent x place ks → AreSent x place ls → AreSent x place (ks ++ ls)
both-sent x place [] ls sent more = more
both-sent x place (k ∷ ks) ls sent more = (sent.0, both-sent x place ks ls sent.1 more)

module _ (k : Setting) (x : Conn) (sound_x : IsConnSound x) (h : IsBehindResets x) (n epoch : ℕ) (env : NodeEnv) (is : IsNodeEnv k x.c n epoch env) (heads : List Seen) (seen : Each IsUnsentSeen heads) where
  abbrev ours : NodePart
  ours = x.part.nodes n

  abbrev was : Bool
  was = (tale_at x).was_reset

  abbrev Stays : NodeDeed → Type 0
  Stays d = MoveResets x (node_does x n heads d)

  dropped : Stays Drops
  dropped = record { heads = seen; segments = tt; messages = tt; front = h.ends.front }

  says : (ms : List (Place × List ℕ)) → AllKeepRst was (Node n) ms → Stays (Says ms)
  says ms fair = record { heads = seen; segments = tt; messages = fair; front = h.ends.front }

  -- ---- what goes to other machines

  taken-fair : (b : Bool) → AllKeepRst b (Node n) (taken_sent env)
  taken-fair b = ((tt, other-ends b n env.serve.c env.epoch body.Taken (λ i. absurd cc)), tt)

  again-fair : AllKeepRst was (Node n) (again_sent ours)
  again-fair = kept-fair x (Node n) (ours.kept ++ ours.fetches) h.ends (both-sent x (Node n) ours.kept ours.fetches (sound_x.kept n) (sound_x.fetches n))

  asked-fair : (b : Bool) (o : Option Asked) → AllKeepRst b (Node n) (asked_sent env o)
  asked-fair b None = tt
  asked-fair b (Some a) = ((tt, other-ends b n env.serve.c env.epoch (body.Ask a.number a.queue a.size a.paths) (λ i. absurd cc)), tt)

  wants-fair : (b : Bool) (ws : List Want) → AllKeepRst b (Node n) (wants_sent env ws)
  wants-fair b [] = tt
  wants-fair b (w ∷ ws) = ((tt, tt), wants-fair b ws)

  ended-fair : (b : Bool) (over : Option ℕ) (e : Ending) → EndingAfter b e → AllKeepRst b (Node n) (ended_sent env over e)
  ended-fair b over (ending.Here block count) a = tt
  ended-fair b over (ending.Over last) a = ((tt, ended-ends b n env.serve.c env.epoch last.reason last.snd.0 last.rcv.0 _ a), tt)

  all-fair : (b : Bool) (before : List (Place × List ℕ)) (work : Work) (e : Ending) → AllKeepRst b (Node n) before → EndingAfter b e → AllKeepRst b (Node n) (all_sent env before work ++ ended_sent env work.service.over e)
  all-fair b before work e fair a =
      Each-append (KeepsRst b (Node n)) (all_sent env before work) (ended_sent env work.service.over e)
      (Each-append (KeepsRst b (Node n)) (before ++ asked_sent env work.asked) (wants_sent env work.wants)
      (Each-append (KeepsRst b (Node n)) before (asked_sent env work.asked) fair (asked-fair b work.asked)) (wants-fair b work.wants))
      (ended-fair b work.service.over e a)

  -- ---- a turn

  turn-behind : (part : NodePart) (before : List (Place × List ℕ)) (work : Work) (given : Ending × Turn) → AllKeepRst was (Node n) before → TurnResets env.serve.c was given
      → Stays (Does (kept_after env part work given.0, turn_by env before work given))
  turn-behind part before work given fair turn =
      let t : TurnResets x.c was given = subst (λ (c : ℕ). TurnResets c was given) is.number turn in
      let all : Bool = resets_on x.c was given.1.notes in
      let then : Bool = resets_on x.c was (named_records given.1.notes) in
      let same : all ≡ then = sym (named-resets x.c given.1.notes was) in
      record {
        heads = seen;
        segments = subst (λ (b : Bool). AllKeepRst b (Node n) given.1.segments) same (are-fair x.c all (Node n) given.1.segments t.says);
        messages = subst (λ (b : Bool). AllKeepRst b (Node n) (all_sent env before work ++ ended_sent env work.service.over given.0)) same
            (all-fair all before work given.0 (fair-more was all (Node n) before (resets-stay x.c given.1.notes was) fair) t.ends);
        front = row-more was then x.part.front.row (resets-stay x.c (named_records given.1.notes) was) h.ends.front;
      }

  -- one that goes back says nothing to the client
  backs-behind : (part : NodePart) (before : List (Place × List ℕ)) (work : Work) → AllKeepRst was (Node n) before → Stays (gives_back env part before work)
  backs-behind part before work fair =
      let then : Bool = resets_on x.c was (named_records work.service.notes) in
      let later = resets-stay x.c (named_records work.service.notes) was in
      let give : List (Place × List ℕ) = sent_of (give_kept env work) ∷ [] in
      record {
        heads = seen;
        segments = tt;
        messages = Each-append (KeepsRst then (Node n)) (all_sent env before work) give
            (Each-append (KeepsRst then (Node n)) (before ++ asked_sent env work.asked) (wants_sent env work.wants)
            (Each-append (KeepsRst then (Node n)) before (asked_sent env work.asked) (fair-more was then (Node n) before later fair) (asked-fair then work.asked)) (wants-fair then work.wants))
            ((tt, other-ends then n env.serve.c env.epoch (body.Give _) (λ i. absurd cc)), tt);
        front = row-more was then x.part.front.row later h.ends.front;
      }

  abbrev Works : Work → Type 0
  Works w = IsBehind env.serve was w.service

  goes-behind : (part : NodePart) (before : List (Place × List ℕ)) (work : Work) → AllKeepRst was (Node n) before → Works work
      → Stays (with_work env part before (goes_on env work))
  goes-behind part before work fair behind =
      let w : Work = goes_on env work in
      turn-behind part before w (serving_settled env.serve w.service) fair
      (settled-resets env.serve was w.service (goes-so env (IsBehind env.serve was) (serving-behind env.serve was) work behind))

  goes-turned : (part : NodePart) (work : Work) → Works work → Turned Stays env part [] (goes_on env work)
  goes-turned part work behind = (λ rests. goes-behind part [] work tt behind, λ back. backs-behind part [] (goes_on env work) tt)

  -- ---- the rules

  came-behind : (f : Progress → Progress) (r : ℕ) (b : ControlBlock) (s : Stay) → Works (came_for f r (work_of b s))
  came-behind f r b s = came-so env (IsBehind env.serve was) (serving-behind env.serve was) f r (work_of b s) tt

  rules_behind : KeptByNode env ours (λ g. Unit {0}) Stays
  rules_behind = record {
    drops = dropped;
    hears = λ said b s m at. goes-turned ours (work_of (on_segment b said).1 s) tt;
    tags = λ number nodes b s m at asked same count. goes-turned (record ours { kept = without timer.Ask 0 ours.kept }) (tagged env nodes (work_of b s))
        (tagged-so env (IsBehind env.serve was) (serving-behind env.serve was) nodes (work_of b s) tt);
    comes = λ from r b s m at wanted. goes-turned (record ours { fetches = without timer.Fetch r ours.fetches })
        (came_for (come_progress from) r (work_of b s)) (came-behind (come_progress from) r b s);
    reads = λ r path b s m at. goes-turned ours (came_for read_progress r (work_of b s)) (came-behind read_progress r b s);
    begins = λ parts m new may. goes-behind ours (taken_sent env) (state_of (reads_batch env true (node_begins env parts))) (taken-fair was)
        (batch-state env (IsBehind env.serve was) (serving-behind env.serve was) true (node_begins env parts) refl tt);
    takes_again = λ parts m again. says (taken_sent env) (taken-fair was);
    refuses = λ parts m is. record { heads = seen; segments = tt; messages = ((tt, other-ends was n env.serve.c env.epoch body.Refused (λ i. absurd cc)), tt); front = h.ends.front };
    fires = λ b s m at.
        let before : List (Place × List ℕ) = serving_ready_of env.serve (after_timer b) (timed b) in
        let start : Service = serving (after_timer b) s.served [] in
        turn-behind ours (again_sent ours) (work_of (after_timer b) s) (spoken env.serve start before) again-fair
        (spoken-resets env.serve was start before (timed-plain env.serve b));
    resends = λ m none. says (again_sent ours) again-fair;
    ends = λ back m told was. record { heads = seen; segments = tt; messages = tt; front = h.ends.front };
    leaves = λ b s m at back. backs-behind ours [] (work_of b s) tt;
  }

  pub rule-behind : (g : NodeGets) → IsOfItsEpoch env ours g → Stays (node_rule env ours g)
  rule-behind g at = node-keeps env ours (λ g. Unit {0}) Stays rules_behind g at tt
