-- A content that is awaited is not ignored: its node makes its request ready, and awaits it no longer.
use Rattle.std.proofs.Common.{◌≡◌, ℕ, true, cond, List, [], ◌∷◌, ◌++◌, length, Option, Some, None, Ok, refl, sym, ap, ◌∙◌, subst, arith}
use Rattle.std.proofs.lemmas.Bool.{cond-true, cond_both}
use Rattle.std.specs.List.{find}
use Rattle.lard_law_view.specs.Prelude.{BackConn, BackRow, Body, Came, Conn, ControlBlock, Ending, Epoch, Event, Kept, Letter, Machine, Message, Move, Node, NodeEnv, NodePart, NodeSetting, NodeState, NodeTurn, Out, Packet, Part, Row, Seen, Stay, Want, Work, came_for, came_seen, come_by, come_progress, conn, conn_of, decoded_message, gives_back, goes_on, grown, here, is_from, is_under, kept_after, kept_at, kept_back, letter_of, machine_step, may_give_back, node_at, node_content, node_deed, node_env, node_gets, node_hears, node_part, node_rests, node_setting, node_turns, packet_at, part_of, serving_settled, setting_of, turn_back, wants_kept, with_node, with_work, without, work_of}
use Rattle.lard_base.specs.declared.event.Event.TheVariants as event
use Rattle.lard_base.specs.declared.place.TimerKind.TheVariants as kind
use Rattle.lard_bound.specs.Progress.{came_in}
use Rattle.lard_bound.specs.Units.{Whole}
use Rattle.lard_law_view.proofs.Naming.{decoded-names}
use Rattle.lard_law_view.proofs.Parts.{node-kept}
use Rattle.lard_law_settles.proofs.CourseFetching.{deed-part, delivered-to}
use Rattle.lard_law_settles.proofs.CourseGoing.{IsListed}
use Rattle.lard_law_view.proofs.Steps.{IsShown, shown}
use Rattle.lard_handoff_back.specs.declared.row.BackConn.TheVariants as back
use Rattle.lard_history.proofs.Each.{Each}
use Rattle.lard_history.proofs.Seeing.{by_number, one-other, same_number}
use Rattle.lard_journal.specs.declared.rec.Rec.TheVariants as rec
use Rattle.lard_message.specs.declared.message.Body.TheVariants as body
use Rattle.lard_rules.specs.Node as node
use Rattle.lard_law_progress.proofs.AnswersIgnored.{IsUnwanted}
use Rattle.lard_law_progress.proofs.AnswersNodeAsks.{goes-asks}
use Rattle.lard_law_progress.proofs.AnswersNodeGiven.{NodeGiven}
use Rattle.lard_law_progress.proofs.AnswersNodeSeats.{here-both}
use Rattle.lard_law_progress.proofs.Coming.{awaited-some, came-on, content-comes, without-fewer}
use Rattle.lard_rules.specs.declared.places.Ending.TheVariants as ending
use Rattle.lard_law_view.proofs.Deliveries.{IsDelivered}

-- ---- a node's part, where the content is awaited

abbrev stage-of : Option BackRow → BackConn
stage-of None = back.Out
stage-of (Some row) = row.stage

stages-apart : (b : ControlBlock) (e f : Epoch) → ◌≡◌ {A = Option BackRow} (Some (record { stage = back.Here b; epoch = e })) (Some (record { stage = back.Ended; epoch = f })) → ⊥
stages-apart b e f h = let bad : back.Here b ≡ back.Ended = ap stage-of h in cc

module _ (env : NodeEnv) (q : NodePart) (b : ControlBlock) (s : Stay) (e : ℕ) (row : q.row ≡ Some (record { stage = back.Here b; epoch = record { 0 = e } })) (from r : ℕ)
    (wanted : is_from from env.epoch (find (is_under kind.Fetch r) q.fetches) ≡ true) where
  abbrev w : Work
  w = goes_on env (came_for (come_progress from) r (work_of b s))

  abbrev qq : NodePart
  qq = record q { fetches = without kind.Fetch r q.fetches }

  differs : (o : Ending) → kept_after env qq w o ≡ q → ⊥
  differs (ending.Here d count) same =
      let t = came-on (come_progress from) (content-comes from) r (work_of b s) in
      let none : w.wants ≡ [] = (goes-asks env (came_for (come_progress from) r (work_of b s))).wants ∙ t.3 in
      let fetches : without kind.Fetch r q.fetches ≡ q.fetches =
      sym (ap (λ (ws : List Want). wants_kept env ws (without kind.Fetch r q.fetches)) none) ∙ ap (λ (x : NodePart). x.fetches) same in
      let few = without-fewer kind.Fetch r q.fetches (awaited-some from env.epoch (find (is_under kind.Fetch r) q.fetches) wanted) in
      let len : length (without kind.Fetch r q.fetches) ≡ length q.fetches = ap (λ (ks : List Kept). length ks) fetches in
      omega (arith, few, len)
  differs (ending.Over last) same =
      let rows = sym (ap (λ (x : NodePart). x.row) same) in
      stages-apart b (record { 0 = e }) (record { 0 = env.epoch }) (sym row ∙ rows)

  -- it is not as it was
  abbrev Changes : node.NodeDeed → Type 0
  Changes d = (given : NodePart × NodeTurn) × (d ≡ node.Does given) × (given.0 ≡ q → ⊥)

  turn-changes : Changes (node_turns env qq [] w)
  turn-changes = cond_both (may_give_back env w) (gives_back env qq [] w) (with_work env qq [] w) Changes
      (λ t. ((kept_back env qq w, turn_back env [] w), refl, λ same. stages-apart b (record { 0 = e }) (record { 0 = env.epoch }) (sym row ∙ sym (ap (λ (x : NodePart). x.row) same))))
      (λ f. (node_rests env qq [] w, refl, differs (serving_settled env.serve w.service).0))

  pub content-changes : (here env.epoch q ≡ Some (b, s)) → (d : node.NodeDeed) → node_content env q from r ≡ d → Changes d
  content-changes is d deed =
      let does : node_content env q from r ≡ node_turns env qq [] w =
      ap (come_by env from r q) is ∙ cond-true (is_from from env.epoch (find (is_under kind.Fetch r) q.fetches)) (node_turns env qq [] w) node.Drops wanted in
      subst Changes (sym does ∙ deed) turn-changes

-- ---- the step

came-delivered : (net : List Packet) (e : Event) (heads : List Seen) (l : Letter) → Each (IsDelivered net e) heads → came_in heads ≡ Some l → IsDelivered net e (Came l)
came-delivered net e [] l each is = absurd (let bad : None ≡ Some l = is in cc)
came-delivered net e (Row r ∷ ss) l each is = came-delivered net e ss l each.1 is
came-delivered net e (Came x ∷ ss) l each is = let same : x ≡ l = cc in subst (λ (a : Letter). IsDelivered net e (Came a)) same each.0

module _ (m : Machine) (q : ℕ) where
  put-is : (p : Part) (i : ℕ) (g : NodePart) → with_node p i g ≡ p → g ≡ p.nodes i
  put-is p i g same = sym (ap (λ t. cond t g (p.nodes i)) (same_number i)) ∙ ap (λ (x : Part). x.nodes i) same

  -- a node that keeps a row is there
  there-of : (i : ℕ) (row : BackRow) → (part_of m q).nodes i ≡ kept_at q (node_at m.nodes i) → ((part_of m q).nodes i).row ≡ Some row → (s : NodeState) × (node_at m.nodes i ≡ Some s)
  there-of i row kept is = go (node_at m.nodes i) refl where
    go : (o : Option NodeState) → node_at m.nodes i ≡ o → (s : NodeState) × (node_at m.nodes i ≡ Some s)
    go None at = absurd (let bad : None ≡ Some row = sym (ap (λ (x : NodePart). x.row) kept ∙ ap (λ o. (kept_at q o).row) at) ∙ is in cc)
    go (Some s) at = (s, at)

  kept-is : (i : ℕ) → (part_of m q).nodes i ≡ kept_at q (node_at m.nodes i)
  unfolding part_of
  kept-is i = refl

  module _ (w : Whole) (given : NodeGiven (setting_of m) w (conn m q)) (n : Machine) (k : ℕ) (step : machine_step m (event.Deliver k) ≡ Ok n) (p : Packet) (at : packet_at m.net k ≡ Some p) (of : conn_of p.from p.to p.bytes ≡ Some q)
      (stays : part_of n q ≡ part_of m q) where
    -- the content came from node a to node i, which has the connection and awaits it
    changes : (a i : ℕ) → p.from ≡ Node a → p.to ≡ Node i → (x : Message) (r : ℕ) (file : List ℕ) → decoded_message p.bytes ≡ Ok x → x.body ≡ body.Content r file → x.c ≡ q
        → (b : ControlBlock) → ((conn m q).part.nodes i).row ≡ Some (record { stage = back.Here b; epoch = record { 0 = x.epoch.0 } })
        → is_from a x.epoch.0 (find (is_under kind.Fetch r) ((conn m q).part.nodes i).fetches) ≡ true → ⊥
    unfolding conn
    changes a i from to x r file reads content same b row wanted =
        let there = there-of i (record { stage = back.Here b; epoch = record { 0 = x.epoch.0 } }) (kept-is i) row in
        let s : NodeState = there.0 in
        let ks : NodeSetting = node_setting m i in
        let kept : (part_of m q).nodes i ≡ node_part s q = node-kept m i s q there.1 in
        let stay = given.stays i x.epoch.0 b row in
        let here_row : (node_part s q).row ≡ Some (record { stage = back.Here b; epoch = record { 0 = x.epoch.0 } }) = sym (ap (λ (z : NodePart). z.row) kept) ∙ row in
        let here_stay : (node_part s q).stay ≡ Some stay.0 = sym (ap (λ (z : NodePart). z.stay) kept) ∙ stay.1 in
        let here_wanted : is_from a x.epoch.0 (find (is_under kind.Fetch r) (node_part s q).fetches) ≡ true = sym (ap (λ (z : NodePart). is_from a x.epoch.0 (find (is_under kind.Fetch r) z.fetches)) kept) ∙ wanted in
        let env : NodeEnv = node_env ks s q x.epoch.0 in
        let c = content-changes env (node_part s q) b stay.0 x.epoch.0 here_row a r here_wanted (here-both (node_part s q) x.epoch.0 b stay.0 here_row here_stay) (node_content env (node_part s q) a r) refl in
        let got = delivered-to m n k i p s at to there.1 step in
        let read : node_gets ks s p.from (decoded_message p.bytes) ≡ node_gets ks s (Node a) (Ok x) = λ j. node_gets ks s (from j) (reads j) in
        let heard : node_gets ks s (Node a) (Ok x) ≡ node_deed ks s x.c (node_content (node_env ks s x.c x.epoch.0) (node_part s x.c) a r) = ap (λ (y : Body). node_hears ks s (Node a) x.c x.epoch.0 y) content in
        let mine : node_deed ks s x.c (node_content (node_env ks s x.c x.epoch.0) (node_part s x.c) a r) ≡ node_deed ks s q (node_content env (node_part s q) a r) =
        ap (λ (j : ℕ). node_deed ks s j (node_content (node_env ks s j x.epoch.0) (node_part s j) a r)) same in
        let gets : node_gets ks s p.from (decoded_message p.bytes) ≡ node_deed ks s q (node_content env (node_part s q) a r) = read ∙ heard ∙ mine in
        let put : (node_gets ks s p.from (decoded_message p.bytes)).0 ≡ (node_deed ks s q (node.Does c.0)).0 = ap (λ (z : NodeState × Out). z.0) gets ∙ ap (λ (d : node.NodeDeed). (node_deed ks s q d).0) c.1 in
        let part = deed-part m q n (event.Deliver k) (rec.Got k ∷ []) i s (node_gets ks s p.from (decoded_message p.bytes)) c.0 there.1 got put in
        c.2 (put-is (part_of m q) i c.0.0 (sym part ∙ stays) ∙ kept)

-- Of the move of a connection with which a packet from node a to node i comes, and which leaves it as it was.
pub unwanted : (m n : Machine) (e : Event) → machine_step m e ≡ Ok n → IsListed m → (q : ℕ) (w : Whole) → NodeGiven (setting_of m) w (conn m q) → (v : Move) → IsShown m e (conn m q) v → conn n q ≡ grown (conn m q) v
    → (l : Letter) (a i : ℕ) → came_in v.heads ≡ Some l → l.from ≡ Node a → l.to ≡ Node i → v.part ≡ (conn m q).part → IsUnwanted (conn m q) a i l.bytes
unfolding conn
unwanted m n e step listed q w given v seen grows l a i is from to stays x r file reads content (told_, b, here_, awaits) =
    let d = came-delivered m.net e v.heads l seen.came is in
    let k : ℕ = d.0 in
    let p : Packet = d.1 in
    let of = listed.numbers k p d.3 in
    let same_from : p.from ≡ Node a = ap (λ (z : Letter). z.from) d.4 ∙ from in
    let same_to : p.to ≡ Node i = ap (λ (z : Letter). z.to) d.4 ∙ to in
    let bytes : p.bytes ≡ l.bytes = ap (λ (z : Letter). z.bytes) d.4 in
    let delivers : machine_step m (event.Deliver k) ≡ Ok n = subst (λ (y : Event). machine_step m y ≡ Ok n) d.2 step in
    by_number ⊥ of.0 q
    (λ same.
    let mine : conn_of p.from p.to p.bytes ≡ Some q = of.1 ∙ ap (λ j. Some j) same in
    let reads_ : decoded_message p.bytes ≡ Ok x = ap decoded_message bytes ∙ reads in
    let names = decoded-names x p.bytes reads_ in
    let named : x.c ≡ q = some-is x.c q (sym names.named ∙ sym (λ j. conn_of (same_from j) (same_to j) p.bytes) ∙ mine) in
    changes m q w given n k delivers p d.3 mine (ap (λ (y : Conn). y.part) grows ∙ stays) a i same_from same_to x r file reads_ content named b here_.there awaits)
    (λ other.
    let none : shown m (event.Deliver k) q ≡ [] = ap (λ o. came_seen q o ++ []) d.3 ∙ ap (λ hs. hs ++ []) (one-other of.0 q (conn_of p.from p.to p.bytes) (Came (letter_of p)) (λ s. other (sym s)) of.1) in
    let heads : v.heads ≡ [] = seen.heads ∙ ap (λ (y : Event). shown m y q) d.2 ∙ none in
    let bad : None ≡ Some l = sym (ap came_in heads) ∙ is in cc)
  where
    some-is : (c j : ℕ) → Some c ≡ Some j → c ≡ j
    some-is c j h = cc
