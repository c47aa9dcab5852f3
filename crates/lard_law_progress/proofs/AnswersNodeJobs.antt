-- What a node sends as a job is done: for another node the content, of which nothing comes; for a request of its own nothing, where no unit
-- goes. So it is where the node leaves.
use Rattle.std.proofs.Common.{◌≡◌, ◌<◌, ◌≤◌, ℕ, List, [], ◌∷◌, ◌++◌, length, map, Option, Some, None, Result, Ok, Err, refl, sym, ap, ◌∙◌, subst, arith}
use Rattle.std.proofs.lemmas.Bool.{cond_both}
use Rattle.lard_law_view.specs.Prelude.{Asked, BackRow, Body, Conn, ControlBlock, Ending, Letter, Message, Move, MsgFault, Node, NodeEnv, NodePart, NodeTurn, Place, Rec, Seen, Service, Setting, Station, Stay, Turn, Want, Work, brought_said, came_for, content_bytes, cut_off, decoded_message, gives_back, goes_back_by, goes_on, grown, kept_back, kind_of, letter, letters_of, may_give_back, node_does, node_goes_back, node_read, node_read_by, node_rests, read_progress, serving_settled, spelled_message, spoken, stands, turn_back, with_node, with_work, work_of}
use Rattle.lard_bound.specs.Chains.{aside_chain, chain, of_message}
use Rattle.lard_bound.specs.Progress.{Every, Lasts, chain_at, chain_on, spot_with}
use Rattle.lard_bound.specs.Seats.{Staying, stay_of, staying_of}
use Rattle.lard_bound.specs.Spots.{Spot, spot_of}
use Rattle.lard_bound.specs.Units.{Whole, batch_left, is_stale, left_with, units}
use Rattle.lard_law_connections.specs.Places.{Head}
use Rattle.lard_law_connections.proofs.PlacesHeads.{decoded-head, spelled-some}
use Rattle.lard_message.specs.declared.kind.Kind.TheVariants as kind
use Rattle.lard_message.specs.declared.message.Body.TheVariants as body
use Rattle.lard_rules.specs.Node as node
use Rattle.lard_law_view.proofs.EachNode.{told_first}
use Rattle.lard_law_progress.proofs.AnswersMessages.{content_letter, of_conn}
use Rattle.lard_law_progress.proofs.AnswersNodeDeeds.{is-here, left-same}
use Rattle.lard_law_progress.proofs.AnswersNodeGiven.{NodeGiven}
use Rattle.lard_law_progress.proofs.Away.{here-row}
use Rattle.lard_law_progress.proofs.AnswersNodeStill.{back-moves, left_here, no-message, still, still-seat}
use Rattle.lard_law_progress.proofs.AnswersNodeUnits.{Unmoved, unmoved}
use Rattle.lard_law_progress.proofs.Coming.{came-on, read-comes}
use Rattle.lard_law_progress.proofs.Stays.{IsAlike, read_of}
use Rattle.lard_law_progress.proofs.Still.{alike-none}
use Rattle.lard_rules.specs.declared.places.Ending.TheVariants as ending
use Rattle.lard_rules.proofs.NodeCases.{IsHereWith, where-here, where-held}
use Rattle.lard_rules.proofs.Saying.{speaks-done}

-- what is sent as a job is done has no chain, where no unit goes
abbrev pub JobOwes : Setting → Whole → Conn → Move → Type 0
JobOwes k w x v = units w k.nodes x ≤ units w k.nodes (grown x v) → Every (λ a. chain_at k.files (grown x v) a < 1) (letters_of v)

-- ---- a content, whatever it is of

content-kind : (b : Body) → kind_of b ≡ kind.Content → aside_chain b ≡ 0
content-kind (body.Offer parts) e = absurd (let bad : kind.Offer ≡ kind.Content = e in cc)
content-kind (body.Fetch r path) e = absurd (let bad : kind.Fetch ≡ kind.Content = e in cc)
content-kind _ e = refl

nothing-comes : (t : Spot) (c n to e r : ℕ) (file : List ℕ) → chain t c (content_letter n to c e r file) ≡ 0
nothing-comes t c n to e r file = go (decoded_message (spelled_message m)) refl where
  m : Message
  m = of_conn c e (body.Content r file)

  go : (o : Result Message MsgFault) → decoded_message (spelled_message m) ≡ o → of_message (λ (m : Message). aside_chain m.body) o ≡ 0
  go (Err fault) is = refl
  go (Ok x) is =
      let both = sym (decoded-head (spelled_message m) x is) ∙ spelled-some m in
      content-kind x.body (ap (λ (o : Option Head). elim o [ None ↦ kind.Content | Some h ↦ h.kind ]) both)

module _ (k : Setting) (w : Whole) (x : Conn) where
  by-spot : (v : Move) (o : Option Spot) (ls : List Letter) → ((t : Spot) → o ≡ Some t → Every (λ a. chain t x.c a < 1) ls) → Every (λ a. chain_on o x.c a < 1) ls
  by-spot v None [] h = tt
  by-spot v None (l ∷ ls) h = (omega arith, by-spot v None ls (λ t e. absurd (let bad : None ≡ Some t = e in cc)))
  by-spot v (Some t) ls h = h t refl

  pub brings-works : (n from epoch r : ℕ) (path : List ℕ) → JobOwes k w x (stands x (Node n) [] (brought_said k n from x.c epoch r path))
  brings-works n from epoch r path up =
      let v = stands x (Node n) [] (brought_said k n from x.c epoch r path) in
      by-spot v (spot_with k.files (grown x v) x.part.station) (letters_of v) (λ t e. (let none = nothing-comes t x.c n from epoch r (content_bytes (k.files path)) in omega (arith, none), tt))

-- ---- a request of its own

-- whatever is noted first
module _ (k : Setting) (w : Whole) (x : Conn) (n : ℕ) (env : NodeEnv) (rs : List Rec) (heads : List Seen) where
  abbrev q : NodePart
  q = x.part.nodes n

  abbrev does : node.NodeDeed → Move
  does deed = told_first rs (node_does x n heads deed)

  module _ (r : ℕ) (st : Station) (is : x.part.station ≡ Some st) (b : ControlBlock) (stay : Stay) (has : IsHereWith env.epoch q b stay) where
    abbrev w0 : Work
    w0 = came_for read_progress r (work_of b stay)

    abbrev turn : Work
    turn = goes_on env w0

    abbrev s0 : Staying
    s0 = record { stay = stay; kept = q.kept; fetches = q.fetches }

    -- nothing is sent
    read-silent : NodeGiven k w x → NodeGiven k w (grown x (does (node.Does (node_rests env q [] turn)))) → left_with w k.nodes x.part st ≤ left_with w k.nodes (with_node x.part n (node_rests env q [] turn).0) st
        → spot_of k.files (with_node x.part n (node_rests env q [] turn).0) st ≡ spot_of k.files x.part st → letters_of (does (node.Does (node_rests env q [] turn))) ≡ []
    read-silent given after up same =
        let row = here-row env.epoch q b stay has in
        let at = is-here k w x given n env.epoch b row in
        let stays = still k.files x.part st at.0 n b env at.1 q [] turn same in
        let d = left_here k.files x.part st at.0 n b env at.1 q [] turn in
        let few : read_of turn ≤ w.requests = after.few at.0 n env.epoch d (staying_of (node.kept_after env q turn (ending.Here d turn.service.count))) (still-seat k.files x.part st at.0 n b env at.1 q [] turn stays) in
        let s-is : s0 ≡ staying_of q = λ i. record { stay = stay_of (sym has.stays i); kept = q.kept; fetches = q.fetches } in
        let h = came-on read_progress read-comes r (work_of b stay) in
        let block : w0.service.block ≡ b = ap (λ (z : Service). z.block) h.2 in
        let l : length w0.batch ≡ length stay.batch = h.0 in
        let c : batch_left w0.batch ≤ batch_left stay.batch = h.1 in
        let count : w0.service.count ≡ stay.served = ap (λ (z : Service). z.count) h.2 in
        let asked : length (node.asked_kept env w0.asked q.kept) ≡ length q.kept = ap (λ (o : Option Asked). length (node.asked_kept env o q.kept)) h.4 in
        let wants : length (node.wants_kept env w0.wants q.fetches) ≡ length q.fetches = ap (λ (ws : List Want). length (node.wants_kept env ws q.fetches)) h.3 in
        let stale : is_stale st.client w0.service.block ≡ is_stale st.client b = ap (is_stale st.client) block in
        let un : Unmoved w k.nodes k.files x.part st at.0 n b env at.1 q [] w0 s0 s-is =
        unmoved w k.nodes k.files x.part st at.0 n b env at.1 q [] w0 s0 s-is stays
        (record { shut = ap (λ (z : ControlBlock). z.send.finished) block; stale = omega (arith, stale); read = omega (arith, l, count); costs = omega (arith, c, asked, wants) }) few up in
        let talk = given.talks st n env.epoch b is row in
        let alike : IsAlike b turn.service.block = subst (λ (z : ControlBlock). IsAlike z turn.service.block) block un.idle.block in
        let none = alike-none b turn.service.block talk.silent alike in
        let spoke : serving_settled env.serve turn.service ≡ spoken env.serve turn.service [] =
        ap (λ (o : Option ℕ). elim o as (λ t. Ending × Turn) [ None ↦ spoken env.serve turn.service [] | Some total ↦ cut_off env.serve turn.service ]) stays.none in
        let segments : (node_rests env q [] turn).1.segments ≡ [] = ap (λ (r : Ending × Turn). r.1.segments) spoke ∙ ap (λ (r : List (Place × List ℕ) × ControlBlock). r.0) (speaks-done env.serve.c turn.service.block none) in
        let messages : (node_rests env q [] turn).1.messages ≡ [] = no-message k.files x.part st at.0 n b env at.1 q [] turn stays (un.idle.asked ∙ h.4) (un.idle.wants ∙ h.3) in
        λ i. map (letter (Node n)) (segments i) ++ map (letter (Node n)) (messages i)

  -- what is owed of a deed, where all that is given holds behind it
  abbrev WorksBy : node.NodeDeed → Type 0
  WorksBy deed = NodeGiven k w (grown x (does deed)) → Lasts k w x (does deed) → JobOwes k w x (does deed)

  -- where no unit goes, the spot is as it was
  same-spot : (st : Station) → x.part.station ≡ Some st → (given : NodePart × NodeTurn) → Lasts k w x (does (node.Does given))
      → units w k.nodes x ≤ units w k.nodes (grown x (does (node.Does given))) → spot_of k.files (with_node x.part n given.0) st ≡ spot_of k.files x.part st
  same-spot st is given lasts up =
      let v = does (node.Does given) in
      let both : Some (spot_of k.files (with_node x.part n given.0) st) ≡ Some (spot_of k.files x.part st) =
      sym (ap (spot_with k.files (grown x v)) is) ∙ lasts.steady up ∙ ap (spot_with k.files x) is in cc

  module _ (given : NodeGiven k w x) (b : ControlBlock) (stay : Stay) (has : IsHereWith env.epoch q b stay) where
    abbrev opens : (st : Station) × (x.part.station ≡ Some st)
    opens = given.held n env.epoch b (here-row env.epoch q b stay has)

    read-rests : (r : ℕ) → WorksBy (with_work env q [] (goes_on env (came_for read_progress r (work_of b stay))))
    read-rests r after lasts up =
        let st = opens in
        let turn = node_rests env q [] (goes_on env (came_for read_progress r (work_of b stay))) in
        let v = does (node.Does turn) in
        subst (λ (ls : List Letter). Every (λ a. chain_at k.files (grown x v) a < 1) ls)
        (sym (read-silent r st.0 st.1 b stay has given after (left-same k w x v st.0 st.1 st.1 up) (same-spot st.0 st.1 turn lasts up))) tt

    -- given back it is somewhere else
    goes-back : (v : Work) → WorksBy (gives_back env q [] v)
    goes-back v after lasts up =
        let st = opens in
        let home = is-here k w x given n env.epoch b (here-row env.epoch q b stay has) in
        absurd (back-moves k.files x.part st.0 home.0 n b env home.1 q v (same-spot st.0 st.1 (kept_back env q v, turn_back env [] v) lasts up))

  pub read-works : (r : ℕ) → NodeGiven k w x → WorksBy (node_read env q r)
  read-works r given = where-here env.epoch q (λ o. WorksBy (node_read_by env r q o)) (λ after lasts up. tt) (λ b stay has.
      let v = goes_on env (came_for read_progress r (work_of b stay)) in
      cond_both (may_give_back env v) (gives_back env q [] v) (with_work env q [] v) WorksBy (λ t. goes-back given b stay has v) (λ f. read-rests given b stay has r))

  -- the node leaves
  pub leaves-works : NodeGiven k w x → ((row : BackRow) → q.row ≡ Some row → row.epoch.0 ≡ env.epoch) → WorksBy (node_goes_back env q)
  leaves-works given = where-held env.epoch q (λ o. WorksBy (goes_back_by env q o)) (λ after lasts up. tt) (λ b stay has.
      cond_both (may_give_back env (work_of b stay)) (gives_back env q [] (work_of b stay)) node.Drops WorksBy (λ t. goes-back given b stay has (work_of b stay))
      (λ f after lasts up. tt))
