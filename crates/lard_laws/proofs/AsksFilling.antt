-- An Ask that the event delivers is assigned by the dispatcher, and each of its paths gets a node. No rule of one connection tells
-- this, since the view hides what the dispatcher answers.
use Rattle.std.proofs.Common.{◌≡◌, ℕ, suc, ◌+◌, ◌==◌, ◌&&◌, true, cond, nat_lt, List, [], ◌∷◌, ◌++◌, length, map, Some, Result, Ok, refl, sym, ap, ◌∙◌, subst, eq-eqb, ⊎_elim}
use Rattle.std.proofs.lemmas.List.{length-map}
use Rattle.lard_law_view.specs.Prelude.{Ask, Books, Came, Config, Did, Event, Front, FrontDeed, FrontEnv, FrontPart, FrontRest, Later, Letter, Machine, Message, Millis, MsgFault, Node, Packet, Seen, all_choices, ask_of, asked_by, assigns, batch_over, conn, decoded_message, from_place, front_asked, front_deed, front_did, front_env, front_gave, front_part, front_saying, front_setting, is_row_at, letter_of, machine_step, machine_told, message_comes, net_of, own, packet_at, part_of, seen_on, shared_with, tag_sent, to_place}
use Rattle.lard_base.specs.declared.event.Event.TheVariants as event
use Rattle.lard_laws.proofs.AsksComing.{Delivers, IsRow, step-comes}
use Rattle.lard_laws.proofs.AsksMoving.{Fills}
use Rattle.lard_law_connections.proofs.Happened.{deliver-is}
use Rattle.lard_law_view.proofs.After.{IsAfter}
use Rattle.lard_rules.specs.Front.{Drops, Says, Does}
use Rattle.lard_rules.proofs.FrontParts.{part_put}
use Rattle.lard_history.proofs.Each.{Each}
use Rattle.lard_history.proofs.Seeing.{own-append}
use Rattle.lard_history.proofs.Stepping.{cancel}
use Rattle.lard_journal.specs.declared.rec.Rec.TheVariants as rec
use Rattle.lard_message.specs.declared.message.Body.TheVariants as body

-- ---- each path gets a node

choices-fill : (cfg : Config) (ask : Ask) (now : Millis) (paths : List (List ℕ)) (b : Books) → length (all_choices cfg ask now paths b) ≡ length paths
choices-fill cfg ask now [] b = refl
choices-fill cfg ask now (path ∷ paths) b = ap suc (choices-fill cfg ask now paths (shared_with cfg b ask path now))

-- ---- the step in which a packet of a node comes to the front end

module _ (m n : Machine) where
  module _ (k : ℕ) (p : Packet) (at : packet_at m.net k ≡ Some p) (i : ℕ) (is-from : p.from ≡ Node i) (is-to : p.to ≡ Front) (is : machine_step m (event.Deliver k) ≡ Ok n) where
    pub message-is : n ≡ front_gave m (event.Deliver k) (rec.Got k ∷ []) (message_comes (front_setting m) m.front i (decoded_message p.bytes))
    message-is = deliver-is m n k p at is ∙ ap (to_place m k p) is-to ∙ ap (from_place m k p.bytes) is-from

    module _ (c epoch number queue size : ℕ) (paths : List (List ℕ)) (spells : decoded_message p.bytes ≡ Ok (record { c = c; epoch = record { 0 = epoch }; body = body.Ask number queue size paths })) where
      abbrev its : Ask
      its = ask_of c i number queue size paths

      abbrev env : FrontEnv
      env = front_env (front_setting m) m.front c 0

      -- it is the next Ask of the connection's node
      module _ (r : FrontRest) (there : is_row_at i epoch (front_part m.front c).row ≡ true) (found : (front_part m.front c).rest ≡ Some r) (next : number ≡ r.asks + 1) where
        abbrev pub did : Did
        did = assigns env (front_part m.front c) r i epoch its (env.later its)

        deed-is : front_asked env (front_part m.front c) i epoch its ≡ Does did
        deed-is =
            ap (λ b. cond b (asked_by env (front_part m.front c) i epoch its (front_part m.front c).rest) Drops) there
            ∙ ap (asked_by env (front_part m.front c) i epoch its) found
            ∙ ap (λ b. cond b (Does did) (cond (number == r.asks && nat_lt 0 r.asks) (Says (front_saying (tag_sent env i epoch r.asks r.tag))) Drops)) (eq-eqb number (r.asks + 1) next)

        pub asked-is : n ≡ front_gave m (event.Deliver k) (rec.Got k ∷ []) (front_did m.front c did)
        asked-is =
            message-is
            ∙ ap (λ (g : Result Message MsgFault). front_gave m (event.Deliver k) (rec.Got k ∷ []) (message_comes (front_setting m) m.front i g)) spells
            ∙ ap (λ (d : FrontDeed). front_gave m (event.Deliver k) (rec.Got k ∷ []) (front_deed m.front c d)) deed-is

        part-is : front_part n.front c ≡ did.part
        unfolding machine_told
        part-is = ap (λ (w : Machine). front_part w.front c) asked-is ∙ part_put m.front c did.part

        pub filled : (q : FrontRest) → (front_part n.front c).rest ≡ Some q → length q.tag ≡ length paths
        filled q is-rest =
            let later : Later = env.later its in
            let new : FrontRest = record r { asks = number; tag = map (λ y. y.node) later.choices; assigned = r.assigned + length later.choices } in
            let same : Some new ≡ Some q = sym (ap (λ (p : FrontPart). p.rest) part-is) ∙ is-rest in
            let one : new ≡ q = cc in
            sym (ap (λ (x : FrontRest). length x.tag) one) ∙ length-map later.choices (λ y. y.node) ∙ choices-fill m.front.dispatch.config its (front_setting m).now paths (batch_over m.front.dispatch.books its)

-- ---- in each step

first-same : (x y : Letter) (xs ys : List Seen) → Came x ∷ xs ≡ Came y ∷ ys → x ≡ y
first-same x y xs ys e = cc

module _ (m n : Machine) (e : Event) (after : IsAfter m e n) (is : machine_step m e ≡ Ok n) (told_is : net_of m.journal ≡ m.net) (q : ℕ) where
  pub seen-is : (ss : List Seen) → own q n.journal ≡ own q m.journal ++ ss → seen_on q m.net after.step ≡ ss
  seen-is ss e = cancel (own q m.journal) (seen_on q m.net after.step) ss
      (ap (λ (net : List Packet). own q m.journal ++ seen_on q net after.step) (sym told_is) ∙ sym (own-append q m.journal after.step) ∙ ap (own q) (sym after.is) ∙ e)

  pub step-fills : Fills (conn m q) (conn n q)
  unfolding conn part_of
  step-fills i epoch number queue size paths bytes rest r s seen spells there found next then =
      let comes : seen_on q m.net after.step ≡ Came (record { from = Node i; to = Front; bytes = bytes }) ∷ rest = seen-is (Came (record { from = Node i; to = Front; bytes = bytes }) ∷ rest) seen in
      ⊎_elim
      (λ (rows : Each IsRow (seen_on q m.net after.step)). absurd (subst (Each IsRow) comes rows).0)
      (λ (d : Delivers q m.net e (seen_on q m.net after.step)).
      let same : letter_of d.p ≡ record { from = Node i; to = Front; bytes = bytes } = first-same (letter_of d.p) (record { from = Node i; to = Front; bytes = bytes }) d.rows rest (sym d.seen_is ∙ comes) in
      let stepped : machine_step m (event.Deliver d.k) ≡ Ok n = ap (machine_step m) (sym d.is) ∙ is in
      filled m n d.k d.p d.at i (ap (λ (l : Letter). l.from) same) (ap (λ (l : Letter). l.to) same) stepped q epoch number queue size paths (ap (λ (l : Letter). decoded_message l.bytes) same ∙ spells) r there found next s then)
      (step-comes q m n e after m.net)
