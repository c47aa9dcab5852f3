-- Each rule leaves the last Tag as it must be, by what the dispatcher answers, so it is in every run.
use Rattle.std.proofs.Common.{◌≡◌, ℕ, false, true, List, [], ◌∷◌, Option, Some, None, Ok, refl, sym, ◌∙◌, subst, inl, inr, ⊎_elim, Bool}
use Rattle.std.proofs.lemmas.Bool.{cond_both}
use Rattle.lard_law_view.specs.Prelude.{Acknowledged, BackRow, ClientRules, Completed, Config, Conn, Content, ControlBlock, Event, FilesAt, Fires, Forwarded, FrontRules, HasRule, IsConnNumber, IsNode, IsNodeEnv, IsReached, Leaves, Machine, Move, NodeEnv, NodeGets, NodePart, NodeRules, Offered, Rules, Seen, Setting, Stay, Tagged, Untouched, awaits_told, back_endpoint, both_of, config_check, conn, epoch_in, file_at, gives_back, goes_back_by, grown, here, kept_back, machine_start, machine_step, may_give_back, node_rule, node_saying, offer_decision, setting, tale_at, told_kind, which_leave, with_leaving, without, work_of}
use Rattle.lard_law_view.proofs.EachClient.{each-client}
use Rattle.lard_law_view.proofs.EachFront.{each-front}
use Rattle.lard_laws.proofs.AsksFilling.{step-fills}
use Rattle.lard_laws.proofs.AsksMoving.{Fills}
use Rattle.lard_law_connections.specs.Kept.{IsKeptByStage, NodeKeepsMessages}
use Rattle.lard_law_connections.specs.KeptLaws.{AnyNode}
use Rattle.lard_law_connections.proofs.KeptHere.{here-timer}
use Rattle.lard_law_connections.proofs.KeptNodes as kept
use Rattle.lard_law_connections.proofs.KeptNodes.{DeedGoes, OfferFollows}
use Rattle.lard_law_connections.proofs.KeptRuns.{connections-are-kept}
use Rattle.lard_law_connections.proofs.LeaversMoves.{SendersLeave, stays-ungiven}
use Rattle.lard_law_connections.proofs.LeaversSenders.{senders-leave}
use Rattle.lard_law_connections.proofs.PlacesRuns.{each-placed}
use Rattle.lard_law_connections.proofs.PolicyCounted.{IsCounted, reached-counted}
use Rattle.lard_laws.specs.TagsLaws.{ConnectionsNameNodes}
use Rattle.lard_laws.specs.Tags.{NamesNodes}
use Rattle.lard_laws.proofs.TagsChoices.{Names, step-names}
use Rattle.lard_laws.proofs.TagsFronts as fronts_of
use Rattle.lard_laws.proofs.TagsNodes.{DeedFits, Facts, goes-fit, node-move, offered-fit, over-fits}
use Rattle.lard_law_view.specs.View as view
use Rattle.lard_law_view.proofs.After.{IsAfter, step-after}
use Rattle.lard_law_view.proofs.Carried.{IsOn, carried-keep, goes-leaving, gone}
use Rattle.lard_law_view.proofs.Guarded.{untouched-before}
use Rattle.lard_law_view.proofs.Runs.{start-blank}
use Rattle.lard_laws.proofs.WaysRuns.{each-guarded}
use Rattle.lard_history.proofs.Each.{Each}
use Rattle.lard_law_view.proofs.EachNode.{NodeComes, each-node}
use Rattle.lard_rules.proofs.NodeCases.{decision-new}
use Rattle.lard_rules.specs.Node as node

-- what is known of a connection beside its Tags
pub record Known (k : Setting) (x : Conn) : Type 0 where
  pub facts : Facts k.files x
  pub kept : IsKeptByStage AnyNode k.files x
  pub leave : SendersLeave k.leaving x

any : (nodes : List ℕ) → Each AnyNode nodes
any [] = tt
any (n ∷ ns) = (tt, any ns)

module _ (N : ℕ → Type 0) (k : Setting) where
  abbrev Moves : Conn → Move → Type 0
  Moves x v = Known k x → Fills x (grown x v) → Names N x (grown x v) → NamesNodes N k.files x → NamesNodes N k.files (grown x v)

  clients : ClientRules k Moves
  clients = each-client k Moves (record {
    opens = λ x isn iss wnd mss rule none known fills names h. record { nodes = h.nodes; fits = h.fits };
    does = λ x s g there comes known fills names h. record { nodes = h.nodes; fits = h.fits };
  })

  fronts : FrontRules k Moves
  fronts = each-front k Moves (λ x env heads g is comes known fills names h. fronts_of.rule-fits N k.files x known.facts h env heads g comes fills names)

  -- a rule of a node
  module _ (x : Conn) (n epoch : ℕ) (env : NodeEnv) (is : IsNodeEnv k x.c n epoch env) (known : Known k x) (h : NamesNodes N k.files x) where
    abbrev p : NodePart
    p = x.part.nodes n

    abbrev Fits : node.NodeDeed → Type 0
    Fits d = DeedFits N k.files x known.facts h n d

    abbrev IsKept : FilesAt × ℕ × ℕ → Type 0
    IsKept t = NodeKeepsMessages AnyNode t.0 t.1 t.2 p

    -- what is so with its files is so with the run's
    of-run : (P : FilesAt → Type 0) → (IsKept (env.serve.files, env.serve.c, env.n) → P env.serve.files) → P k.files
    of-run P rule =
        let all : ◌≡◌ {A = FilesAt × ℕ × ℕ} (env.serve.files, env.serve.c, env.n) (k.files, x.c, n) = λ i. (is.files i, is.number i, is.node i) in
        subst (λ (t : FilesAt × ℕ × ℕ). IsKept t → P t.0) all rule (known.kept.nodes n)

    -- the stay goes on
    goes : (d : node.NodeDeed) → (IsKept (env.serve.files, env.serve.c, env.n) → DeedGoes env.serve.files env.epoch (here env.epoch p) d) → Fits d
    goes d rule = goes-fit N k.files x known.facts h n env.epoch d (of-run (λ (f : FilesAt). DeedGoes f env.epoch (here env.epoch p) d) rule)

    -- where its end is acknowledged nothing is here
    gone-fits : (returns : Bool) (o : Option BackRow) → Fits (node.Does (record p { row = node.gone o; kept = without (told_kind returns) 0 p.kept }, node_saying []))
    gone-fits returns None = over-fits N k.files x known.facts h n (record p { row = None; kept = without (told_kind returns) 0 p.kept }) refl
    gone-fits returns (Some it) = over-fits N k.files x known.facts h n (record p { row = node.gone (Some it); kept = without (told_kind returns) 0 p.kept }) refl

    -- nor where it goes back
    leaves-fit : (o : Option (ControlBlock × Stay)) → Fits (goes_back_by env p o)
    leaves-fit None = tt
    leaves-fit (Some y) = cond_both (may_give_back env (work_of y.0 y.1)) (gives_back env p [] (work_of y.0 y.1)) node.Drops Fits (λ t. over-fits N k.files x known.facts h n (kept_back env p (work_of y.0 y.1)) refl) (λ t. tt)

    rule-fits : (heads : List Seen) (g : NodeGets) → NodeComes x n epoch heads g → Fits (node_rule env p g)
    rule-fits heads (Offered parts) comes = offered-fit N k.files x known.facts h n env parts (offer_decision env.leaving env.epoch p.row p.beside) (λ new. (decision-new env.leaving env.epoch p.row p.beside new).0)
        (of-run (λ (f : FilesAt). OfferFollows f env.epoch (offer_decision env.leaving env.epoch p.row p.beside) (node_rule env p (Offered parts))) (λ g. (kept.offered-keeps AnyNode env p g parts (λ remains. stays-ungiven k.leaving x known.leave n (sym is.leaves ∙ remains))).1))
    rule-fits heads (Forwarded given) comes = goes (node_rule env p (Forwarded given)) (λ g. (kept.forwarded-keeps AnyNode env p g given).1)
    rule-fits heads (Tagged number tags) comes = goes (node_rule env p (Tagged number tags)) (λ g. (kept.tagged-keeps AnyNode env p g number tags (λ y at same. any tags)).1)
    rule-fits heads (Content from r) comes = goes (node_rule env p (Content from r)) (λ g. (kept.content-keeps AnyNode env p g from r).1)
    rule-fits heads (Acknowledged returns) comes =
        let q : NodePart = record p { row = node.gone p.row; kept = without (told_kind returns) 0 p.kept } in
        cond_both (awaits_told returns env p) (node.Does (q, node_saying [])) node.Drops Fits (λ t. gone-fits returns p.row) (λ t. tt)
    rule-fits heads (Completed r path) comes = goes (node_rule env p (Completed r path)) (λ g. (kept.read-keeps AnyNode env p g r).1)
    rule-fits heads Fires comes = let now : env.epoch ≡ epoch_in p = is.epoch_is ∙ comes.epoch_is in
        goes (node_rule env p Fires) (λ g. subst (λ o. DeedGoes env.serve.files env.epoch o (node_rule env p Fires)) (here-timer env.epoch p now) (kept.timer-keeps AnyNode env p g now).1)
    rule-fits heads Leaves comes = leaves-fit (both_of (back_endpoint p.row) p.stay)

  nodes : NodeRules k Moves
  nodes = each-node k Moves (record {
    does = λ x n epoch env heads g is at comes known fills names h.
        let y = node-move N k.files x known.facts h n heads (node_rule env (x.part.nodes n) g) (rule-fits x n epoch env is known h heads g comes) in
        record { nodes = y.nodes; fits = y.fits };
    aside = λ x n a may known fills names h. record { nodes = h.nodes; fits = h.fits };
  })

  rules : Rules k Moves
  rules = record {
    untouched = record { client = clients; front = fronts; node = nodes; ignores = λ x from to bytes was known fills names h. record { nodes = h.nodes; fits = h.fits } };
    injects = λ x s bytes there rule known fills names h. record { nodes = h.nodes; fits = h.fits };
  }

-- ---- every run

module _ (config : Config) (files : List (List ℕ × List ℕ)) (checked : config_check config ≡ Ok tt) where
  abbrev N : ℕ → Type 0
  N = IsNode config.nodes

  abbrev Inv : Conn → Type 0
  Inv x = Untouched (NamesNodes N (file_at files)) x

  -- the rules where these leave
  abbrev Goes : (ℕ → Bool) → Conn → Move → Type 0
  Goes l = Moves N (with_leaving (setting config files) l)

  module _ (l : ℕ → Bool) where
    abbrev All : Conn → Move → Type 0
    All x v = (IsConnNumber x.c × Goes l x v) × Fills x (grown x v) × Names N x (grown x v)

    filling : (x y : Conn) → Fills x y → Names N x y → view.GoesBy (λ x v. IsConnNumber x.c × Goes l x v) x y → view.GoesBy All x y
    filling x y fills names goes = ⊎_elim
        (λ (same : y ≡ x). inl same)
        (λ (k : (v : Move) × (IsConnNumber x.c × Goes l x v) × (y ≡ grown x v)). inr (k.0, (k.1, subst (Fills x) k.2 fills, subst (Names N x) k.2 names), k.2))
        goes

  pub known-of : (m : Machine) → IsReached config files m → (q : ℕ) → (tale_at (conn m q)).touched ≡ false → Known (with_leaving (setting config files) (which_leave m)) (conn m q)
  known-of m r q untouched = record {
    facts = record { placed = each-placed config files checked m r q; ways = (each-guarded config files checked m r q).0 untouched };
    kept = connections-are-kept config files m r q;
    leave = senders-leave config files m r q;
  }

  abbrev IsKnownOf : Machine → Type 0
  IsKnownOf m = (q : ℕ) → Inv (conn m q)

  module _ (m n : Machine) (e : Event) (on : IsOn config files m) (known : IsKnownOf m) (rule : HasRule e) (is : machine_step m e ≡ Ok n) (q : ℕ) where
    after : IsAfter m e n
    after = step-after m on.view e n rule is

    counted : IsCounted config m
    counted = reached-counted config files checked m on.reached

    names : Names N (conn m q) (conn n q)
    names = subst (λ (c : Config). Names (IsNode c.nodes) (conn m q) (conn n q)) counted.config_is (step-names m n counted.sound e after is on.view.told q)

    goes-so : view.GoesBy (All (which_leave m)) (conn m q) (conn n q)
    goes-so = filling (which_leave m) (conn m q) (conn n q) (step-fills m n e after is on.view.told q) names
        (goes-leaving config files Goes (λ l. rules N (with_leaving (setting config files) l)) m n e on rule is q)

    stays : Inv (conn n q)
    stays = gone Inv (All (which_leave m)) (conn m q) (conn n q) (known q)
        (λ v h untouched. let before : (tale_at (conn m q)).touched ≡ false = untouched-before (conn m q) v untouched in h.0.1 (known-of m on.reached q before) h.1 h.2 (known q before)) goes-so

  start-named : IsKnownOf (machine_start config files)
  start-named q = subst Inv (sym (start-blank config files q)) (λ untouched. record { nodes = λ r is. let no : None ≡ Some r = is in absurd cc; fits = λ n e b s r at. let no : false ≡ true = at in absurd cc })

  pub each-named : (m : Machine) → IsReached config files m → (q : ℕ) → Inv (conn m q)
  each-named m r = carried-keep config files IsKnownOf start-named (λ k n e on known rule is q. stays k n e on known rule is q) m r

pub connections-name-nodes : ConnectionsNameNodes
connections-name-nodes config files checked m r q = each-named config files checked m r q
