-- The dispatcher names nodes that there are, in the step in which an Ask comes.
use Rattle.std.proofs.Common.{◌≡◌, ℕ, ◌+◌, ◌==◌, true, false, List, [], ◌∷◌, ◌++◌, map, Option, Some, None, IfSome, Ok, sym, ap, ◌∙◌, subst, eqb-true, ⊎_elim}
use Rattle.std.proofs.lemmas.Bool.{and_parts}
use Rattle.std.specs.FinMap as table
use Rattle.lard_law_view.specs.Prelude.{AreServedByNodes, Ask, Books, Came, Config, Conn, Did, DispatchStanding, Dispatcher, Event, Front, FrontConn, FrontPart, FrontRest, FrontRow, IsDispatcherSound, IsFrontSound, IsNode, IsRowSound, IsStageSound, Kept, Letter, Machine, Millis, Node, Packet, Seen, SpellsMessage, all_choices, ask_of, batch_over, conn, decoded_message, dispatch_standing, front_part, front_setting, is_row_at, is_with, later_choice_at, letter_of, machine_step, machine_told, net_of, packet_at, part_of, seen_on, set_of, shared_with, touched}
use Rattle.lard_rules.specs.FrontSound.{OpenNodes, open_nodes_of}
use Rattle.lard_base.specs.declared.event.Event.TheVariants as event
use Rattle.lard_laws.proofs.AsksComing.{Delivers, IsRow, step-comes}
use Rattle.lard_laws.proofs.AsksFilling.{asked-is, did, seen-is}
use Rattle.lard_law_view.proofs.After.{IsAfter}
use Rattle.lard_dispatch.proofs.Counted.{later-has}
use Rattle.lard_dispatch.proofs.Servers.{served-joined, served-touched}
use Rattle.lard_dispatch.proofs.Sharing.{add-home}
use Rattle.lard_rules.proofs.FrontParts.{part_put}
use Rattle.lard_handoff_front.specs.declared.row.FrontConn.TheVariants as stage
use Rattle.lard_history.proofs.Each.{Each}
use Rattle.lard_loads.specs.Tally as tally
use Rattle.lard_message.specs.declared.message.Body.TheVariants as body

-- ---- choices

-- each node of the choices is one that there is
choices-there : (cfg : Config) (ask : Ask) (now : Millis) (ps : List (List ℕ)) (b : Books) → AreServedByNodes cfg.nodes b.sets → IsNode cfg.nodes ask.home → Each (IsNode cfg.nodes) (map (λ y. y.node) (all_choices cfg ask now ps b))
choices-there cfg ask now [] b served home = tt
choices-there cfg ask now (p ∷ ps) b served home = (
  later-has (IsNode cfg.nodes) b.loads ask.home (set_of b.sets p).members ask.queue cfg home (λ m k some has less. (some, served p m has)),
  choices-there cfg ask now ps (shared_with cfg b ask p now)
      (served-joined cfg.nodes (touched b.sets p) p (later_choice_at cfg b ask p).add now (served-touched cfg.nodes b.sets p served) (add-home b.loads ask.home (set_of b.sets p).members ask.queue cfg.nodes cfg home)) home,
)

-- ---- homes

-- who is admitted is at a node that there is
home-there : (d : Dispatcher) → IsDispatcherSound d → (c n : ℕ) → tally.home d.books.loads c ≡ Some n → IsNode d.config.nodes n
home-there d sound c n is = go (table.get d.books.loads.standings c) (sound.at_nodes c) is where
  go : (o : Option tally.Standing) → IfSome o (λ s. IsNode d.config.nodes s.home) → tally.home_of o ≡ Some n → IsNode d.config.nodes n
  go None h e = let no : None ≡ Some n = e in absurd cc
  go (Some s) h e = let found : Some s.home ≡ Some n = e in let same : s.home ≡ n = cc in subst (IsNode d.config.nodes) same h

-- the node with which a connection is, is its home
stage-home : (nodes : OpenNodes) (epoch n e : ℕ) (rest : Option FrontRest) (kept : List Kept) (at : DispatchStanding) (st : FrontConn)
    → IsStageSound nodes epoch rest kept at st → is_with n e st ≡ true → at.home ≡ Some n
stage-home nodes epoch n e rest kept at (stage.Offering node d) h is =
    ap (λ (a : DispatchStanding). a.home) h.stands ∙ ap Some (eqb-true node n (and_parts (node == n) (d.0 == e) is).0)
stage-home nodes epoch n e rest kept at (stage.Moved node d) h is =
    ap (λ (a : DispatchStanding). a.home) h.stands ∙ ap Some (eqb-true node n (and_parts (node == n) (d.0 == e) is).0)
stage-home nodes epoch n e rest kept at _ h is = let no : false ≡ true = is in absurd cc

row-home : (nodes : OpenNodes) (n e : ℕ) (rest : Option FrontRest) (kept : List Kept) (at : DispatchStanding) (o : Option FrontRow)
    → IsRowSound nodes rest kept at o → is_row_at n e o ≡ true → at.home ≡ Some n
row-home nodes n e rest kept at None h is = let no : false ≡ true = is in absurd cc
row-home nodes n e rest kept at (Some row) h is = stage-home nodes row.epoch.0 n e rest kept at row.stage h is

module _ (m : Machine) (sound : IsFrontSound m.front) where
  -- the node with which the front end has a connection is there
  pub with-there : (c n e : ℕ) → is_row_at n e (front_part m.front c).row ≡ true → IsNode m.front.dispatch.config.nodes n
  with-there c n e is = home-there m.front.dispatch sound.books c n (row-home (open_nodes_of m.front.dispatch) n e (front_part m.front c).rest (front_part m.front c).kept (dispatch_standing m.front.dispatch c) (front_part m.front c).row (sound.each c) is)

-- ---- the step in which an Ask comes

-- The dispatcher names nodes of which N is so: where x becomes y by the next Ask of its node, in its epoch, these are kept for the
-- Tag. The view does not say so, since it hides what the dispatcher answers.
abbrev pub Names : (ℕ → Type 0) → Conn → Conn → Type 0
Names N x y = (n epoch number queue size : ℕ) (paths : List (List ℕ)) (bytes : List ℕ) (rest : List Seen) (r q : FrontRest)
    → y.seen ≡ x.seen ++ Came (record { from = Node n; to = Front; bytes = bytes }) ∷ rest → SpellsMessage x.c epoch (body.Ask number queue size paths) bytes
    → is_row_at n epoch x.part.front.row ≡ true → x.part.front.rest ≡ Some r → number ≡ r.asks + 1 → y.part.front.rest ≡ Some q → Each N q.tag

first-same : (x y : Letter) (xs ys : List Seen) → Came x ∷ xs ≡ Came y ∷ ys → x ≡ y
first-same x y xs ys e = cc

-- the nodes of the last Tag
abbrev tag_of : Option FrontRest → List ℕ
tag_of None = []
tag_of (Some r) = r.tag

module _ (m n : Machine) (sound : IsFrontSound m.front) where
  module _ (k : ℕ) (p : Packet) (at : packet_at m.net k ≡ Some p) (i : ℕ) (is-from : p.from ≡ Node i) (is-to : p.to ≡ Front) (is : machine_step m (event.Deliver k) ≡ Ok n)
      (c epoch number queue size : ℕ) (paths : List (List ℕ)) (spells : decoded_message p.bytes ≡ Ok (record { c = c; epoch = record { 0 = epoch }; body = body.Ask number queue size paths })) (r : FrontRest)
      (there : is_row_at i epoch (front_part m.front c).row ≡ true) (found : (front_part m.front c).rest ≡ Some r) (next : number ≡ r.asks + 1) where
    named : (q : FrontRest) → (front_part n.front c).rest ≡ Some q → Each (IsNode m.front.dispatch.config.nodes) q.tag
    unfolding machine_told
    named q is-rest =
        let ask : Ask = ask_of c i number queue size paths in
        let cfg : Config = m.front.dispatch.config in
        let its : Did = did m n k p at i is-from is-to is c epoch number queue size paths spells r there found next in
        let part : front_part n.front c ≡ its.part =
        ap (λ (w : Machine). front_part w.front c) (asked-is m n k p at i is-from is-to is c epoch number queue size paths spells r there found next) ∙ part_put m.front c its.part in
        let same : tag_of its.part.rest ≡ q.tag = ap tag_of (sym (ap (λ (f : FrontPart). f.rest) part) ∙ is-rest) in
        subst (Each (IsNode cfg.nodes)) same
        (choices-there cfg ask (front_setting m).now paths (batch_over m.front.dispatch.books ask) sound.books.served (with-there m sound c i epoch there))

  pub step-names : (e : Event) (after : IsAfter m e n) → machine_step m e ≡ Ok n → net_of m.journal ≡ m.net → (q : ℕ) → Names (IsNode m.front.dispatch.config.nodes) (conn m q) (conn n q)
  unfolding conn part_of
  step-names e after is told_is q i epoch number queue size paths bytes rest r s seen spells there found next then =
      let comes : seen_on q m.net after.step ≡ Came (record { from = Node i; to = Front; bytes = bytes }) ∷ rest = seen-is m n e after is told_is q (Came (record { from = Node i; to = Front; bytes = bytes }) ∷ rest) seen in
      ⊎_elim
      (λ (rows : Each IsRow (seen_on q m.net after.step)). absurd (subst (Each IsRow) comes rows).0)
      (λ (d : Delivers q m.net e (seen_on q m.net after.step)).
      let same : letter_of d.p ≡ record { from = Node i; to = Front; bytes = bytes } = first-same (letter_of d.p) (record { from = Node i; to = Front; bytes = bytes }) d.rows rest (sym d.seen_is ∙ comes) in
      let stepped : machine_step m (event.Deliver d.k) ≡ Ok n = ap (machine_step m) (sym d.is) ∙ is in
      named d.k d.p d.at i (ap (λ (l : Letter). l.from) same) (ap (λ (l : Letter). l.to) same) stepped q epoch number queue size paths (ap (λ (l : Letter). decoded_message l.bytes) same ∙ spells) r there found next s then)
      (step-comes q m n e after m.net)
