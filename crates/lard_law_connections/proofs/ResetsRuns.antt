-- The law of RST in every run.
use Rattle.std.proofs.Common.{ℕ, List, refl}
use Rattle.lard_law_view.specs.Prelude.{ClientRules, Completed, Config, Conn, FrontRules, IsLaw, MayRestOn, Move, Node, NodeGets, NodeRules, OfEach, Rules, Setting, client_begins, client_injects, client_opens, client_rule, conn, grown, inject_seen, nothing_said, packet_seen, setting, stands, with_leaving}
use Rattle.lard_law_view.proofs.EachFront.{each-front, of-front}
use Rattle.lard_history.proofs.Each.{Each}
use Rattle.lard_law_view.proofs.EachClient.{client_seen, each-client, of-client}
use Rattle.lard_law_connections.specs.ResetsLaws.{EndsFollowResets, MaySendRst, RstFollowsResets}
use Rattle.lard_law_view.proofs.NodeHeads.{heads-of}
use Rattle.lard_law_connections.proofs.ResetsFronts.{front-behind}
use Rattle.lard_law_connections.proofs.ResetsMoves.{IsBehindResets, MoveResets, client-resets, move-behind, stands-resets}
use Rattle.lard_law_connections.proofs.ResetsNodes.{rule-behind}
use Rattle.lard_law_connections.proofs.ResetsRows.{IsUnsentSeen, MayStand, rst-local}
use Rattle.lard_law_view.proofs.Carried.{carried}
use Rattle.lard_law_view.proofs.EachNode.{Answers, Aside, Brings, Queues, aside_said, aside_seen, each-node, job_notes, told_first}
use Rattle.lard_law_view.proofs.Fine.{IsFine, fine}
use Rattle.lard_law_view.proofs.Guarded.{both, weaker}
use Rattle.lard_law_view.proofs.InSteps.{carried-records}
use Rattle.lard_law_view.proofs.RowLists.{MayBeSeen}

-- nothing more is given
abbrev Anything : Conn → Type 0
Anything x = Unit {0}

-- what the move of each rule owes
abbrev Owing : Conn → Move → Type 0
Owing x v = MayRestOn Anything x → IsBehindResets x → MoveResets x v

module _ (k : Setting) where
  clients : ClientRules k Owing
  clients = each-client k Owing (record {
    opens = λ x isn iss wnd mss rule none m h. client-resets x (client_begins x isn iss wnd mss).heads _ (client_opens x.c isn wnd mss) h (tt, (tt, tt));
    does = λ x s g there comes m h. client-resets x (client_seen x.c g) _ (client_rule x.c s.client g) h
        (of-client x.c (Each IsUnsentSeen) (λ from bytes. (tt, tt)) (λ e. (tt, tt)) g);
  })

  fronts : FrontRules k Owing
  fronts = each-front k Owing (λ x env heads g is comes m h. front-behind k x m.sound h heads
      (of-front x (Each IsUnsentSeen) (λ from bytes. (tt, tt)) tt (tt, tt) env heads g comes) env is g comes)

  -- the record of a job that was read says nothing of it
  read-first : (x : Conn) (n : ℕ) (g : NodeGets) (v : Move) → MoveResets x v → MoveResets x (told_first (job_notes x.c n g) v)
  read-first x n (Completed r path) v m = record { heads = m.heads; segments = m.segments; messages = m.messages; front = m.front }
  read-first x n _ v m = m

  by-aside : (x : Conn) (n : ℕ) (a : Aside) → IsBehindResets x → MoveResets x (stands x (Node n) (aside_seen n a) (aside_said k n x.c a))
  by-aside x n (Queues from epoch r path file bytes) h = stands-resets x (Node n) _ _ h (tt, tt) refl tt
  by-aside x n (Answers from epoch r path file bytes) h = stands-resets x (Node n) _ _ h (tt, tt) refl ((tt, tt), tt)
  by-aside x n (Brings from epoch r path) h = stands-resets x (Node n) _ _ h tt refl ((tt, tt), tt)

  nodes : NodeRules k Owing
  nodes = each-node k Owing (record {
    does = λ x n epoch env heads g is at comes m h. read-first x n g _
        (rule-behind k x m.sound h n epoch env is heads (heads-of IsUnsentSeen (λ l. tt) (λ i c. tt) x n epoch heads g comes) g at.0);
    aside = λ x n a may m h. by-aside x n a h;
  })

  owing : Rules k Owing
  owing = record {
    untouched = record {
      client = clients;
      front = fronts;
      node = nodes;
      ignores = λ x from to bytes sent m h. stands-resets x to (packet_seen from to bytes) nothing_said h (tt, tt) refl tt;
    };
    injects = λ x s bytes there rule m h. client-resets x (inject_seen x.c bytes) _ (client_injects s.client bytes) h (tt, (tt, tt));
  }

  resets-law : IsLaw k Anything IsBehindResets
  resets-law = record {
    begins = λ c. record { ends = record { front = tt; letters = tt }; lawful = tt };
    moves = weaker k (λ x v. IsFine x v × Owing x v) (λ x v. MayRestOn Anything x → IsBehindResets x → IsBehindResets (grown x v))
        (λ x v all may h. move-behind x v (all.0 may.number may.sound).0 (all.1 may h) h) (both k IsFine Owing (fine k) owing);
  }

each-behind : (config : Config) (files : List (List ℕ × List ℕ)) → OfEach config files IsBehindResets
each-behind config files = carried config files Anything IsBehindResets (λ l. resets-law (with_leaving (setting config files) l)) (λ m r q. tt)

pub ends-follow : EndsFollowResets
ends-follow config files m r q = (each-behind config files m r q).ends

-- Each record of a connection may stand among its own, so each may stand in the journal.
pub rst-follows : RstFollowsResets
unfolding conn
rst-follows config files m r = carried-records config files MaySendRst (λ c. MayBeSeen MayStand c) rst-local.nobody rst-local.somebody (λ n s q. (each-behind config files n s q).lawful) m r
