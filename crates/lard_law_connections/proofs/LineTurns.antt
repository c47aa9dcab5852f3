-- What each rule notes, as a fact of each move.
use Rattle.std.proofs.Common.{◌≡◌, ℕ, ◌^◌, ◌<◌, ◌≤◌, List, [], sym, subst, ◌⊎◌, inl, inr, true}
use Rattle.lard_law_view.specs.Prelude.{Came, Client, ClientRules, Conn, Front, FrontAdmits, FrontEnv, FrontGets, FrontHears, FrontRules, Move, Node, NodeRules, Place, Rec, Row, Rules, Seen, Setting, client_begins, front_does, front_gets, front_rule, node_does, nothing_said, packet_seen, stands}
use Rattle.lard_law_view.proofs.EachClient.{client_goes, each-client, of-client}
use Rattle.lard_law_connections.proofs.LineFrontMessages.{brings-valid}
use Rattle.lard_law_connections.proofs.LineLaw.{IsLined, IsThere, front-small, node-there}
use Rattle.lard_law_connections.proofs.LineNotes.{DeedNotes, Enters, Noted, Silent, Was, admitted-enters, admitted-waits, gets-noted, rule-noted, was}
use Rattle.lard_law_view.proofs.NodeHeads.{heads-of, of-aside}
use Rattle.lard_law_connections.proofs.LineStands.{IsElsewhere, stand_at}
use Rattle.lard_law_view.proofs.EachFront.{EachFrontRule, FrontComes, admission, each-front}
use Rattle.lard_law_view.proofs.FirstSeen.{by-front-seen}
use Rattle.lard_law_view.proofs.EachNode.{each-node, job_notes, told_first}
use Rattle.lard_rules.specs.Front as front
use Rattle.lard_history.proofs.Each.{Each}
use Rattle.lard_journal.specs.declared.rec.Rec.TheVariants as rec
use Rattle.lard_rules.specs.Node as node

-- It is the admission of one that waits, before which nothing is seen.
pub record IsEntry (x : Conn) (v : Move) : Type 0 where
  pub none : v.heads ≡ []
  pub enters : Enters x.c v.said.notes
  pub waits : (stand_at x).waits ≡ true

-- what is so of it before
abbrev pub was_at : Conn → Was
was_at x = was (stand_at x) x.part.front.row

-- It is seen to come, or to be an event of its client; or it is a response, or the reset at the stream limit. None of these tells of the
-- line, or of who owns the connection.
abbrev pub IsBare : Seen → Type 0
IsBare (Came l) = Unit {0}
IsBare (Row (rec.Event i e)) = Unit {0}
IsBare (Row (rec.Opened c isn iss wnd mss)) = Unit {0}
IsBare (Row (rec.Injected c)) = Unit {0}
IsBare (Row (rec.Served place c r code size via)) = Unit {0}
IsBare (Row (rec.Reset place c total)) = Unit {0}
IsBare (Row _) = ⊥

-- The front end's notes read as those of a turn, or as that of an admission, as they do where nothing is seen before them.
pub record IsNoted (x : Conn) (v : Move) : Type 0 where
  pub bare : Each IsBare v.heads
  pub noted : v.place ≡ Front → Noted x.c (was_at x) v.said.notes ⊎ IsEntry x v
  pub alone : v.place ≡ Front → v.heads ≡ [] → IsEntry x v

abbrev pub Notes : Conn → Move → Type 0
Notes x v = IsLined x → IsNoted x v

-- another place
elsewhere : (p : Place) → IsElsewhere p → p ≡ Front → ⊥
elsewhere Front there at = there
elsewhere (Node n) there at = let no : Node n ≡ Front = at in absurd cc
elsewhere (Client d) there at = let no : Client d ≡ Front = at in absurd cc

aside : (x : Conn) (v : Move) → IsElsewhere v.place → Each IsBare v.heads → Notes x v
aside x v there bare h = record { bare = bare; noted = λ at. absurd (elsewhere v.place there at); alone = λ at none. absurd (elsewhere v.place there at) }

by-node : (x : Conn) (n : ℕ) (rs : List Rec) (heads : List Seen) (d : node.NodeDeed) → Each IsBare heads → Notes x (told_first rs (node_does x n heads d))
by-node x n rs heads d bare =
    let there : IsThere x heads (told_first rs (node_does x n heads d)) = node-there x n rs heads d in
    aside x (told_first rs (node_does x n heads d)) there.place (subst (Each IsBare) (sym there.heads_are) bare)

-- something is seen before what the front end does
by-front : (x : Conn) (env : FrontEnv) (heads : List Seen) (d : front.FrontDeed) → env.serve.c ≡ x.c → Each IsBare heads → (heads ≡ [] → ⊥) → (IsLined x → DeedNotes env.serve.c (was_at x) d) → Notes x (front_does x heads d)
by-front x env heads d same bare some noted h = go d (subst (λ (c : ℕ). DeedNotes c (was_at x) d) same (noted h)) where
  go : (d : front.FrontDeed) → DeedNotes x.c (was_at x) d → IsNoted x (front_does x heads d)
  go front.Drops k = record { bare = bare; noted = λ at. inl (Silent); alone = λ at none. absurd (some none) }
  go (front.Says t) k = record { bare = bare; noted = λ at. inl k; alone = λ at none. absurd (some none) }
  go (front.Does did) k = record { bare = bare; noted = λ at. inl k; alone = λ at none. absurd (some none) }

-- where it is not the turn of the line, something is seen
abbrev IsSome : List Seen → FrontGets → Type 0
IsSome heads (FrontAdmits choice given) = Unit {0}
IsSome heads _ = Each IsBare heads × (heads ≡ [] → ⊥)

some-packet : (from : Place) (bytes : List ℕ) (g : FrontGets) → IsSome (packet_seen from Front bytes) g
some-packet from bytes (FrontAdmits choice given) = tt
some-packet from bytes _ = ((tt, tt), λ e. absurd (cc))

is-some : (x : Conn) (env : FrontEnv) (heads : List Seen) (g : FrontGets) → FrontComes x env heads g → IsSome heads g
is-some x env heads = by-front-seen x env heads IsSome (λ from bytes g was seen. subst (λ (ss : List Seen). IsSome ss g) (sym seen) (some-packet from bytes g))
    (λ rung. ((tt, tt), λ e. absurd (cc))) (λ choice given turn. tt)

module _ (k : Setting) (small : k.stream ≤ 2 ^ 30) where
  clients : ClientRules k Notes
  clients = each-client k Notes (record {
    opens = λ x isn iss wnd mss rule none. aside x (client_begins x isn iss wnd mss) tt (tt, (tt, tt));
    does = λ x s g there comes. aside x (client_goes x s g) tt (of-client x.c (Each IsBare) (λ from bytes. (tt, tt)) (λ e. (tt, tt)) g);
  })

  fronts : FrontRules k Notes
  fronts = each-front k Notes front-notes where
    front-notes : EachFrontRule k Notes
    front-notes x env heads (FrontAdmits choice given) is comes h =
        let v : Move = front_does x heads (front_rule env x.part.front (FrontAdmits choice given)) in
        let entry : IsEntry x v = record {
          none = comes.seen;
          enters = subst (λ (c : ℕ). Enters c given.1.notes) is.number (admitted-enters env x.part.front choice given comes.is);
          waits = admitted-waits env x.part.front (stand_at x) h.stands choice given comes.is;
        } in
        record { bare = subst (Each IsBare) (sym comes.seen) tt; noted = λ at. inr entry; alone = λ at none. entry }
    front-notes x env heads (FrontHears bytes given) is comes h =
        let some : IsSome heads (FrontHears bytes given) = is-some x env heads (FrontHears bytes given) comes in
        by-front x env heads (front_gets env x.part.front bytes given) is.number some.0 some.1
        (λ h. gets-noted env (front-small k small x.c env is) x.part.front (stand_at x) h.stands
        (subst (λ (n : ℕ). n < 2 ^ 32) (sym comes.iss_is) (h.number comes.station comes.there)) bytes given) h
    front-notes x env heads g is comes h =
        let some = is-some x env heads g comes in
        by-front x env heads (front_rule env x.part.front g) is.number some.0 some.1
        (λ h. rule-noted env (front-small k small x.c env is) x.part.front (stand_at x) h.stands g tt (brings-valid x env heads g comes)
        (admission x env heads g comes)) h

  nodes : NodeRules k Notes
  nodes = each-node k Notes (record {
    does = λ x n epoch env heads g is at comes. by-node x n (job_notes x.c n g) heads (node.node_rule env (x.part.nodes n) g)
        (heads-of IsBare (λ l. tt) (λ m c. tt) x n epoch heads g comes);
    aside = λ x n a may. aside x _ tt (of-aside x n (Each IsBare) (λ from bytes. (tt, tt)) tt a);
  })

  -- nothing is noted of what is not heard
  ignored : (x : Conn) (from to : Place) (bytes : List ℕ) → Notes x (stands x to (packet_seen from to bytes) nothing_said)
  ignored x from to bytes h = record { bare = (tt, tt); noted = λ at. inl (Silent); alone = λ at none. absurd (some none) } where
    some : packet_seen from to bytes ≡ [] → ⊥
    some e = cc

  pub noting : Rules k Notes
  noting = record {
    untouched = record { client = clients; front = fronts; node = nodes; ignores = λ x from to bytes was. ignored x from to bytes };
    injects = λ x s bytes there rule. aside x _ tt (tt, (tt, tt));
  }
