-- The reset law in every run.
use Rattle.std.proofs.Common.{◌≤◌, ◌^◌, ℕ, List, refl, arith, ◌≡◌, Ok}
use Rattle.lard_law_view.specs.Prelude.{ClientRules, Completed, Config, Conn, FrontRules, IsLaw, MayReset, MayRestOn, Move, Node, NodeGets, NodeRules, OfEach, Rules, Setting, client_begins, client_injects, client_opens, client_rule, config_check, conn, grown, inject_seen, nothing_said, packet_seen, setting, stands, with_leaving}
use Rattle.lard_law_view.proofs.EachFront.{each-front, of-front}
use Rattle.lard_history.proofs.Each.{Each}
use Rattle.lard_law_view.proofs.EachClient.{client_seen, each-client, of-client}
use Rattle.lard_law_connections.specs.Kept.{FrontKeeps}
use Rattle.lard_law_connections.specs.LimitsLaws.{ConnectionsAreCounted, ResetsAreLawful}
use Rattle.lard_law_connections.proofs.KeptRuns.{connections-are-kept}
use Rattle.lard_law_connections.proofs.LimitsFronts.{front-limited}
use Rattle.lard_law_connections.proofs.LimitsMoves.{IsLimited, MoveCounts, client-counts, move-limited, stands-counts}
use Rattle.lard_law_connections.proofs.LimitsNodes.{rule-limited}
use Rattle.lard_law_connections.proofs.LimitsRows.{IsMuteSeen, MayStand, lawful-local}
use Rattle.lard_law_view.proofs.NodeHeads.{heads-of}
use Rattle.lard_law_connections.proofs.PlacesLaw.{owing}
use Rattle.lard_law_connections.proofs.PlacesRuns.{each-placed}
use Rattle.lard_law_connections.proofs.PlacesTurns.{IsPlaced, Owes}
use Rattle.lard_law_view.proofs.Carried.{carried}
use Rattle.lard_law_view.proofs.EachNode.{Answers, Aside, Brings, Queues, aside_said, aside_seen, each-node, job_notes, told_first}
use Rattle.lard_law_view.proofs.Fine.{IsFine, fine}
use Rattle.lard_law_view.proofs.Guarded.{both, weaker}
use Rattle.lard_law_view.proofs.InSteps.{carried-records}
use Rattle.lard_law_view.proofs.RowLists.{MayBeSeen}
use Rattle.lard_law_view.proofs.PlaceTurns.{injects-turn, opens-turn, rule-turn}
use Rattle.lard_base.proofs.Usable.{usable}

-- where it sits is known, and that the front end keeps an Offer while it is on its way
abbrev IsGiven : Conn → Type 0
IsGiven x = IsPlaced x × FrontKeeps x.c x.part.front

module _ (k : Setting) (most : k.stream ≤ 2 ^ 30) where
  -- what the move of each rule owes
  abbrev Counting : Conn → Move → Type 0
  Counting x v = MayRestOn IsGiven x → IsLimited k.stream x → MoveCounts k.stream x v

  clients : ClientRules k Counting
  clients = each-client k Counting (record {
    opens = λ x isn iss wnd mss rule none m h. client-counts k.stream x (client_begins x isn iss wnd mss).heads _ (client_opens x.c isn wnd mss) h (tt, (tt, tt))
        (opens-turn x.c isn wnd mss).notes;
    does = λ x s g there comes m h. client-counts k.stream x (client_seen x.c g) _ (client_rule x.c s.client g) h
        (of-client x.c (Each IsMuteSeen) (λ from bytes. (tt, tt)) (λ e. (tt, tt)) g) (rule-turn x.c s.client (m.sound.client s there) g).notes;
  })

  fronts : FrontRules k Counting
  fronts = each-front k Counting (λ x env heads g is comes m h. front-limited k most x m.sound m.given.0 m.given.1 h heads
      (of-front x (Each IsMuteSeen) (λ from bytes. (tt, tt)) tt (tt, tt) env heads g comes) env is g comes)

  -- the record of a job that was read says nothing of it
  read-first : (x : Conn) (n : ℕ) (g : NodeGets) (v : Move) → MoveCounts k.stream x v → MoveCounts k.stream x (told_first (job_notes x.c n g) v)
  read-first x n (Completed r path) v m = record { heads = m.heads; notes = (tt, m.notes); front = m.front; nodes = m.nodes; old = m.old; letters = m.letters }
  read-first x n _ v m = m

  by-aside : (x : Conn) (n : ℕ) (a : Aside) → IsLimited k.stream x → MoveCounts k.stream x (stands x (Node n) (aside_seen n a) (aside_said k n x.c a))
  by-aside x n (Answers from epoch r path file bytes) h = stands-counts k.stream x (Node n) _ _ h (tt, tt) tt refl (tt, tt)
  by-aside x n (Queues from epoch r path file bytes) h = stands-counts k.stream x (Node n) _ _ h (tt, tt) (tt, tt) refl tt
  by-aside x n (Brings from epoch r path) h = stands-counts k.stream x (Node n) _ _ h tt (tt, tt) refl (tt, tt)

  nodes : NodeRules k Counting
  nodes = each-node k Counting (record {
    does = λ x n epoch env heads g is at comes m h. read-first x n g _
        (rule-limited k x m.given.0 h n epoch env is heads (heads-of IsMuteSeen (λ l. tt) (λ i c. tt) x n epoch heads g comes) g at.0 comes);
    aside = λ x n a may m h. by-aside x n a h;
  })

  counting : Rules k Counting
  counting = record {
    untouched = record {
      client = clients;
      front = fronts;
      node = nodes;
      ignores = λ x from to bytes was m h. stands-counts k.stream x to (packet_seen from to bytes) nothing_said h (tt, tt) tt refl tt;
    };
    injects = λ x s bytes there rule m h. client-counts k.stream x (inject_seen x.c bytes) _ (client_injects s.client bytes) h (tt, (tt, tt)) (injects-turn x.c s.client (m.sound.client s there) bytes).notes;
  }

  abbrev Owed : Conn → Move → Type 0
  Owed x v = MayRestOn IsGiven x → IsPlaced x → Owes x v

  limits-law : IsLaw k IsGiven (IsLimited k.stream)
  limits-law = record {
    begins = λ c. record { counted = record { front = record { bytes = refl; within = omega arith; not_reset = refl }; nodes = λ n. tt; letters = tt }; lawful = tt };
    moves = weaker k (λ x v. (IsFine x v × Owed x v) × Counting x v) (λ x v. MayRestOn IsGiven x → IsLimited k.stream x → IsLimited k.stream (grown x v))
        (λ x v all may h. move-limited k.stream x v (all.1 may h)
        (record { number = may.number; sound = may.sound; placed = may.given.0; owes = all.0.1 may may.given.0; own = (all.0.0 may.number may.sound).0 }) h)
        (both k (λ x v. IsFine x v × Owed x v) Counting (both k IsFine Owed (fine k) (owing k IsGiven)) counting);
  }

each-limited : (config : Config) (files : List (List ℕ × List ℕ)) → config_check config ≡ Ok tt → OfEach config files (IsLimited config.stream)
each-limited config files checked = carried config files IsGiven (IsLimited config.stream) (λ l. limits-law (with_leaving (setting config files) l) (usable config checked).stream)
    (λ m r q. (each-placed config files checked m r q, (connections-are-kept config files m r q).front))

pub connections-counted : ConnectionsAreCounted
connections-counted config files checked m r q = (each-limited config files checked m r q).counted

-- Each record of a connection may stand among its own, so each may stand in the journal.
pub resets-lawful : ResetsAreLawful
unfolding conn
resets-lawful config files m checked r =
    carried-records config files (MayReset config.stream) (λ c. MayBeSeen (MayStand config.stream c) c) (lawful-local config.stream).nobody (lawful-local config.stream).somebody (λ n s q. (each-limited config files checked n s q).lawful) m r
