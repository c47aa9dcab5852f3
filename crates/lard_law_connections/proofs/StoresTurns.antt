-- What each rule of a node tells of its disk and its cache.
use Rattle.std.proofs.Common.{ℕ, Bool, true, List, [], refl}
use Rattle.lard_law_view.specs.Prelude.{ControlBlock, Ending, FilesAt, NodeDeed, NodeEnv, NodeGets, NodePart, NodeTurn, Place, Stay, Work, came_for, come_progress, gave_by, gives_back, goes_on, node_begins, node_rule, on_segment, read_progress, reads_batch, serving_settled, state_of, tagged, taken_sent, with_work, without, work_of}
use Rattle.lard_base.specs.declared.place.TimerKind.TheVariants as kind
use Rattle.lard_law_connections.proofs.StoresAsides.{IsAside}
use Rattle.lard_law_connections.proofs.StoresNotes.{Tells}
use Rattle.lard_law_connections.proofs.StoresWorks.{IsAtWork, Told, by_told, settled-told}
use Rattle.lard_history.proofs.Each.{Each}
use Rattle.lard_rules.proofs.NodeCases.{IsOfItsEpoch, KeptByNode, Turned, node-keeps}
use Rattle.lard_rules.proofs.StayKeeping.{batch-works, came-works, goes-works, tagged-works}
use Rattle.lard_rules.specs.Node.{Drops, Says, Does}
use Rattle.lard_rules.specs.declared.places.Ending.TheVariants.{Here, Over}

-- The jobs of a turn are those that it notes, and what it gives up says nothing of disks.
pub record TurnTells (n : ℕ) (files : FilesAt) (has : List ℕ → Bool) (t : NodeTurn) : Type 0 where
  pub notes : Tells n files has t.notes t.jobs
  pub gave : Each IsAside t.gave

abbrev pub DeedTells : ℕ → FilesAt → (List ℕ → Bool) → NodeDeed → Type 0
DeedTells n files has Drops = Unit {0}
DeedTells n files has (Says messages) = Unit {0}
DeedTells n files has (Does x) = TurnTells n files has x.1

-- a turn that only sends
pub nothing-told : (n : ℕ) (files : FilesAt) (has : List ℕ → Bool) → Tells n files has [] []
nothing-told n files has = record { told = refl; each = tt }

module _ (env : NodeEnv) where
  abbrev IsDeed : NodeDeed → Type 0
  IsDeed d = DeedTells env.n env.serve.files env.cached d

  gave-told : (e : Ending) → Each IsAside (gave_by env e)
  gave-told (Here b count) = tt
  gave-told (Over last) = (tt, tt)

  works-deed : (p : NodePart) (before : List (Place × List ℕ)) (w : Work) → IsAtWork env w → IsDeed (with_work env p before (goes_on env w))
  works-deed p before w h =
      let done : Work = goes_on env w in
      record {
        notes = settled-told env done.jobs done.service (goes-works env (Told env) (by_told env) w h);
        gave = gave-told (serving_settled env.serve done.service).0;
      }

  backs-deed : (p : NodePart) (before : List (Place × List ℕ)) (w : Work) → IsAtWork env w → IsDeed (gives_back env p before w)
  backs-deed p before w h = record { notes = h; gave = (tt, tt) }

  works-turned : (p : NodePart) (before : List (Place × List ℕ)) (w : Work) → IsAtWork env w → Turned IsDeed env p before (goes_on env w)
  works-turned p before w h = (λ rests. works-deed p before w h, λ back. backs-deed p before (goes_on env w) (goes-works env (Told env) (by_told env) w h))

  fresh : (b : ControlBlock) (s : Stay) → IsAtWork env (work_of b s)
  fresh b s = nothing-told env.n env.serve.files env.cached

  module _ (p : NodePart) where
    rules_told : KeptByNode env p (λ g. Unit {0}) IsDeed
    rules_told = record {
      drops = tt;
      hears = λ said b s m at. works-turned p [] (work_of (on_segment b said).1 s) (fresh (on_segment b said).1 s);
      tags = λ number nodes b s m at asked same count. works-turned (record p { kept = without kind.Ask 0 p.kept }) [] (tagged env nodes (work_of b s))
          (tagged-works env (Told env) (by_told env) nodes (work_of b s) (fresh b s));
      comes = λ from r b s m at wanted. works-turned (record p { fetches = without kind.Fetch r p.fetches }) [] (came_for (come_progress from) r (work_of b s))
          (came-works env (Told env) (by_told env) (come_progress from) r (work_of b s) (fresh b s));
      reads = λ r path b s m at. works-turned p [] (came_for read_progress r (work_of b s))
          (came-works env (Told env) (by_told env) read_progress r (work_of b s) (fresh b s));
      begins = λ parts m new may. works-deed p (taken_sent env) (state_of (reads_batch env true (node_begins env parts)))
          (batch-works env (Told env) (by_told env) true (node_begins env parts) refl (record { told = refl; each = (tt, tt) }));
      takes_again = λ parts m again. tt;
      refuses = λ parts m is. record { notes = nothing-told env.n env.serve.files env.cached; gave = tt };
      fires = λ b s m at. record { notes = nothing-told env.n env.serve.files env.cached; gave = gave-told _ };
      resends = λ m none. tt;
      ends = λ back m told was. record { notes = nothing-told env.n env.serve.files env.cached; gave = tt };
      leaves = λ b s m at back. backs-deed p [] (work_of b s) (fresh b s);
    }

    pub rule-deed : (g : NodeGets) → IsOfItsEpoch env p g → IsDeed (node_rule env p g)
    rule-deed g at = node-keeps env p (λ g. Unit {0}) IsDeed rules_told g at tt
