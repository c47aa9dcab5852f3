-- What a node does leaves what it awaits asked for.
use Rattle.std.proofs.Common.{◌≡◌, ◌≤◌, ◌<◌, ◌+◌, ◌-◌, nat_lt, ℕ, true, List, [], length, Option, Some, None, refl, sym, subst, arith}
use Rattle.std.proofs.lemmas.Bool.{cond_both, ltb-false, ltb-true}
use Rattle.std.specs.List.{find}
use Rattle.lard_law_view.specs.Prelude.{BackRow, Conn, ControlBlock, Ending, FilesAt, NodeDeed, NodeEnv, NodeGets, NodePart, Place, Seen, ServeEnv, Service, Stay, Work, after_timer, asked_kept, came_for, come_on, come_progress, goes_on, gone, grown, is_from, is_under, kept_after, named_paths, node_begins, node_does, node_rule, on_segment, read_progress, reads_batch, serving, serving_ready_of, serving_settled, spoken, state_of, tagged, taken_sent, timed, told_kind, wants_kept, with_work, without, work_of}
use Rattle.lard_base.specs.declared.place.TimerKind.TheVariants as timer
use Rattle.lard_law_connections.specs.Awaits.{AwaitsWhatItAsked, BatchComes, NodeComes, RowComes}
use Rattle.lard_law_connections.proofs.AwaitsBatches.{batch-came, batch-later, batch-read}
use Rattle.lard_law_connections.proofs.AwaitsStays.{Comes, all-started, batch-state, goes-comes, starts-come}
use Rattle.lard_law_view.proofs.Parts.{put-each}
use Rattle.lard_rules.proofs.NodeCases.{IsHereWith, IsOfItsEpoch, KeptByNode, Turned, node-keeps, of-here}
use Rattle.lard_rules.specs.Node.{Drops, Says, Does}
use Rattle.lard_rules.specs.declared.places.Ending.TheVariants as ending
use Rattle.lard_rules.proofs.Endings.{StaysWith, settled-stays, spoken-stays}

-- ---- the end of a turn

-- where it stays, so many were served
abbrev pub HasServed : ℕ → Ending → Type 0
HasServed n = StaysWith (λ b count. count ≡ n)

pub spoken-served : (env : ServeEnv) (s : Service) (before : List (Place × List ℕ)) → HasServed s.count (spoken env s before).0
spoken-served env s before = spoken-stays (λ b count. count ≡ s.count) env s before (λ stays. refl)

pub settled-served : (env : ServeEnv) (s : Service) → HasServed s.count (serving_settled env s).0
settled-served env s = settled-stays (λ b count. count ≡ s.count) env s (λ none stays. refl)

module _ (env : NodeEnv) where
  abbrev files : FilesAt
  files = env.serve.files

  after-comes : (part : NodePart) (k : Work) (e : Ending) → HasServed k.service.count e → Comes env part.kept part.fetches k → NodeComes files (kept_after env part k e)
  after-comes part k (ending.Here b count) served h = subst (λ (n : ℕ). BatchComes files (asked_kept env k.asked part.kept) (wants_kept env k.wants part.fetches) (n + 1) k.batch) (sym served) h
  after-comes part k (ending.Over last) served h = tt

  -- ---- the rules

  abbrev pub DeedComes : NodeDeed → Type 0
  DeedComes Drops = Unit {0}
  DeedComes (Says ms) = Unit {0}
  DeedComes (Does given) = NodeComes files given.0

  goes-come : (part : NodePart) (before : List (Place × List ℕ)) (k : Work) → Comes env part.kept part.fetches k → DeedComes (with_work env part before (goes_on env k))
  goes-come part before k h = after-comes part (goes_on env k) (serving_settled env.serve (goes_on env k).service).0 (settled-served env.serve (goes_on env k).service) (goes-comes env part.kept part.fetches k h)

  goes-turned : (part : NodePart) (k : Work) → Comes env part.kept part.fetches k → Turned DeedComes env part [] (goes_on env k)
  goes-turned part k h = (λ rests. goes-come part [] k h, λ back. tt)

  module _ (p : NodePart) (h : NodeComes files p) where
    -- what the stay that is here awaits was asked for
    come : (b : ControlBlock) (s : Stay) → IsHereWith env.epoch p b s → BatchComes files p.kept p.fetches (s.served + 1) s.batch
    come b s at = of-here (λ q o. RowComes files (record p { stay = o }) q) env.epoch p b s at h

    tagged-comes : (nodes : List ℕ) (b : ControlBlock) (s : Stay) → length nodes ≡ length (named_paths files s.batch)
        → BatchComes files p.kept p.fetches (s.served + 1) s.batch
        → Comes env (without timer.Ask 0 p.kept) p.fetches (tagged env nodes (work_of b s))
    tagged-comes nodes b s count comes =
        let k : Work = work_of b s in
        all-started env (without timer.Ask 0 p.kept) p.fetches (tagged env nodes k) (starts-come env p.kept p.fetches nodes k refl count comes)

    content-comes : (from r : ℕ) (b : ControlBlock) (s : Stay) → is_from from env.epoch (find (is_under timer.Fetch r) p.fetches) ≡ true
        → BatchComes files p.kept p.fetches (s.served + 1) s.batch
        → Comes env p.kept (without timer.Fetch r p.fetches) (came_for (come_progress from) r (work_of b s))
    content-comes from r b s came comes =
        let k : Work = work_of b s in
        cond_both (nat_lt s.served r) (record k { batch = come_on (come_progress from) (r - (s.served + 1)) k.batch }) k
        (Comes env p.kept (without timer.Fetch r p.fetches))
        (λ less. let above : s.served < r = ltb-true s.served r less in
        batch-came files p.kept p.fetches from env.epoch r came (s.served + 1) (r - (s.served + 1)) s.batch (omega (arith, above)) comes)
        (λ less. let below : r ≤ s.served = ltb-false s.served r less in
        batch-later files p.kept p.fetches from env.epoch r came (s.served + 1) s.batch (omega (arith, below)) comes)

    read-comes : (r : ℕ) (b : ControlBlock) (s : Stay) → BatchComes files p.kept p.fetches (s.served + 1) s.batch
        → Comes env p.kept p.fetches (came_for read_progress r (work_of b s))
    read-comes r b s comes =
        let k : Work = work_of b s in
        cond_both (nat_lt s.served r) (record k { batch = come_on read_progress (r - (s.served + 1)) k.batch }) k (Comes env p.kept p.fetches)
        (λ less. batch-read files p.kept p.fetches (s.served + 1) (r - (s.served + 1)) s.batch comes) (λ less. comes)

    gone-comes : (q : NodePart) (o : Option BackRow) → RowComes files q (gone o)
    gone-comes q None = tt
    gone-comes q (Some row) = tt

    rules_come : KeptByNode env p (λ g. Unit {0}) DeedComes
    rules_come = record {
      drops = tt;
      hears = λ said b s m at. goes-turned p (work_of (on_segment b said).1 s) (come b s at);
      tags = λ number nodes b s m at asked same count. goes-turned (record p { kept = without timer.Ask 0 p.kept }) (tagged env nodes (work_of b s))
          (tagged-comes nodes b s count (come b s at));
      comes = λ from r b s m at wanted. goes-turned (record p { fetches = without timer.Fetch r p.fetches }) (came_for (come_progress from) r (work_of b s))
          (content-comes from r b s wanted (come b s at));
      reads = λ r path b s m at. goes-turned p (came_for read_progress r (work_of b s)) (read-comes r b s (come b s at));
      begins = λ parts m new may. goes-come p (taken_sent env) (state_of (reads_batch env true (node_begins env parts)))
          (batch-state env p.kept p.fetches true (node_begins env parts) refl);
      takes_again = λ parts m again. tt;
      refuses = λ parts m is. h;
      fires = λ b s m at.
          let before : List (Place × List ℕ) = serving_ready_of env.serve (after_timer b) (timed b) in
          let w : Service = serving (after_timer b) s.served [] in
          after-comes p (work_of (after_timer b) s) (spoken env.serve w before).0 (spoken-served env.serve w before) (come b s at);
      resends = λ m none. tt;
      ends = λ back m told was. gone-comes (record p { row = gone p.row; kept = without (told_kind back) 0 p.kept }) p.row;
      leaves = λ b s m at back. tt;
    }

    pub rule-comes : (g : NodeGets) → IsOfItsEpoch env p g → DeedComes (node_rule env p g)
    rule-comes g at = node-keeps env p (λ g. Unit {0}) DeedComes rules_come g at tt

-- ---- its move

pub node-move : (env : NodeEnv) (x : Conn) (n : ℕ) (heads : List Seen) (d : NodeDeed) → DeedComes env d → AwaitsWhatItAsked env.serve.files x → AwaitsWhatItAsked env.serve.files (grown x (node_does x n heads d))
node-move env x n heads Drops k h = h
node-move env x n heads (Says ms) k h = h
node-move env x n heads (Does given) k h = put-each x.part.nodes n given.0 (λ m p. NodeComes env.serve.files p) k (λ m other. h m)
