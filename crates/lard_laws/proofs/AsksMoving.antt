-- What is known at the front end of the last Ask, and what a move must be, by lists.
use Rattle.std.proofs.Common.{◌≡◌, ℕ, ◌+◌, true, List, [], ◌∷◌, ◌++◌, length, map, Option, Some, None, refl, sym, ap, ◌∙◌, subst}
use Rattle.std.specs.List.{fold}
use Rattle.lard_law_view.specs.Prelude.{Came, Conn, Front, FrontConn, FrontRest, FrontRow, Move, Node, Rec, Seen, SpellsMessage, grown, is_row_at, seen_in}
use Rattle.lard_laws.specs.AsksAnswers.{EndsWith, IsAnswered, dues, tags_due}
use Rattle.lard_laws.specs.Asks.{Answered, Asking, AskTale, LaterAssigned, ask_in, ask_tale, end_in, later_in, node_in, row_done, tag_to}
use Rattle.lard_laws.proofs.AsksPicking.{done-grown, end-noted, first-done, later-noted, node-noted, seen-asks, seen-noted, seen-tags}
use Rattle.lard_law_connections.specs.MotionStory.{of_row, picked}
use Rattle.lard_law_connections.proofs.MotionNodes.{IsFirst}
use Rattle.lard_law_connections.proofs.MotionPicking.{pick, pick-none}
use Rattle.lard_law_view.specs.View.{sending}
use Rattle.lard_law_view.proofs.Fine.{IsItsOwn}
use Rattle.lard_handoff_front.specs.declared.row.FrontConn.TheVariants as stage
use Rattle.lard_history.proofs.Each.{Each, Each-weaker}
use Rattle.lard_journal.specs.declared.rec.Rec.TheVariants as rec
use Rattle.lard_message.specs.declared.message.Body.TheVariants as body

-- ---- what is known

-- the front end keeps of the last Ask what is told of it
abbrev pub IsTold : Answered → Option FrontRest → Type 0
IsTold d None = ⊥
IsTold d (Some rest) = (rest.asks ≡ d.last) × (rest.tag ≡ d.nodes) × (rest.assigned ≡ d.assigned)

-- so it is while the connection is away
abbrev pub StageTold : Answered → Option FrontRest → FrontConn → Type 0
StageTold d rest (stage.Offering n e) = IsTold d rest
StageTold d rest (stage.Moved n e) = IsTold d rest
StageTold d rest _ = Unit {0}

abbrev pub RowTold : Answered → Option FrontRest → Option FrontRow → Type 0
RowTold d rest None = Unit {0}
RowTold d rest (Some row) = StageTold d rest row.stage

abbrev pub Told : Conn → Type 0
Told x = RowTold (ask_tale x.c x.seen).done x.part.front.rest x.part.front.row

-- The dispatcher assigns each path: where x becomes y by the next Ask of its node, in its epoch, as many nodes are kept for the Tag
-- as the Ask has paths. The view does not say so, since it hides what the dispatcher answers.
abbrev pub Fills : Conn → Conn → Type 0
Fills x y = (n epoch number queue size : ℕ) (paths : List (List ℕ)) (bytes : List ℕ) (rest : List Seen) (r q : FrontRest)
    → y.seen ≡ x.seen ++ Came (record { from = Node n; to = Front; bytes = bytes }) ∷ rest → SpellsMessage x.c epoch (body.Ask number queue size paths) bytes
    → is_row_at n epoch x.part.front.row ≡ true → x.part.front.rest ≡ Some r → number ≡ r.asks + 1 → y.part.front.rest ≡ Some q → length q.tag ≡ length paths

-- the move is as it must be, and what is known stays known
abbrev pub Answers : Conn → Move → Type 0
Answers x v = IsAnswered x.c x.seen (seen_in x v) × Told (grown x v)

-- ---- by lists

-- neither a later assignment nor the end of shares
abbrev pub IsCalm : Rec → Type 0
IsCalm (rec.AssignedLater c r path n add size queue) = ⊥
IsCalm (rec.BatchOver c) = ⊥
IsCalm _ = Unit {0}

calm-later : (r : Rec) → IsCalm r → later_in r ≡ None
calm-later (rec.AssignedLater c r path n add size queue) h = absurd h
calm-later _ h = refl

calm-node : (r : Rec) → IsCalm r → node_in r ≡ None
calm-node (rec.AssignedLater c r path n add size queue) h = absurd h
calm-node _ h = refl

calm-end : (r : Rec) → IsCalm r → end_in r ≡ None
calm-end (rec.BatchOver c) h = absurd h
calm-end _ h = refl

module _ (x : Conn) (v : Move) (own : IsItsOwn x v) (first : Each IsFirst v.heads) where
  abbrev t : AskTale
  t = ask_tale x.c x.seen

  -- these Asks come, and this is written and sent
  pub record Lists (came : List Asking) (laters : List LaterAssigned) (nodes ends : List ℕ) (tags : List (ℕ × List ℕ)) : Type 0 where
    pub asks_are : picked ask_in v.heads ≡ came
    pub laters_are : pick later_in v.said.notes ≡ laters
    pub nodes_are : pick node_in v.said.notes ≡ nodes
    pub ends_are : pick end_in v.said.notes ≡ ends
    pub segments : pick tag_to (map (sending v.place) v.said.segments) ≡ []
    pub tags_are : pick tag_to (map (sending v.place) v.said.messages) ≡ tags
    pub due : laters ≡ dues t came
    pub tagged : tags ≡ tags_due x.c t nodes came
    pub ended : EndsWith laters ends

  pub by-lists : (came : List Asking) (laters : List LaterAssigned) (nodes ends : List ℕ) (tags : List (ℕ × List ℕ)) → Lists came laters nodes ends tags → IsAnswered x.c x.seen (seen_in x v)
  by-lists came laters nodes ends tags l =
      let comes : picked ask_in (seen_in x v) ≡ came = seen-asks x v own first ∙ l.asks_are in
      let assigned : picked (of_row later_in) (seen_in x v) ≡ laters = seen-noted x v own first later_in later-noted ∙ l.laters_are in
      let chosen : picked (of_row node_in) (seen_in x v) ≡ nodes = seen-noted x v own first node_in node-noted ∙ l.nodes_are in
      let over : picked (of_row end_in) (seen_in x v) ≡ ends = seen-noted x v own first end_in end-noted ∙ l.ends_are in
      record {
        assigns = assigned ∙ l.due ∙ ap (dues t) (sym comes);
        tags = seen-tags x v own first l.segments ∙ l.tags_are ∙ l.tagged ∙ (λ i. tags_due x.c t (sym chosen i) (sym comes i));
        ends = subst (λ (ls : List LaterAssigned). EndsWith ls (picked (of_row end_in) (seen_in x v))) (sym assigned) (subst (EndsWith laters) (sym over) l.ended);
      }

  -- no Ask comes, and nothing of one is done
  pub calm-answers : picked ask_in v.heads ≡ [] → Each IsCalm v.said.notes → pick tag_to (map (sending v.place) v.said.segments) ≡ [] → pick tag_to (map (sending v.place) v.said.messages) ≡ []
      → RowTold (fold row_done t.done v.said.notes) v.part.front.rest v.part.front.row → Answers x v
  calm-answers none calm segments messages told = (
    by-lists [] [] [] [] [] (record {
      asks_are = none;
      laters_are = pick-none later_in v.said.notes (Each-weaker IsCalm (λ r. later_in r ≡ None) calm-later v.said.notes calm);
      nodes_are = pick-none node_in v.said.notes (Each-weaker IsCalm (λ r. node_in r ≡ None) calm-node v.said.notes calm);
      ends_are = pick-none end_in v.said.notes (Each-weaker IsCalm (λ r. end_in r ≡ None) calm-end v.said.notes calm);
      segments = segments;
      tags_are = messages;
      due = refl;
      tagged = refl;
      ended = refl;
    }),
    subst (λ (d : Answered). RowTold d v.part.front.rest v.part.front.row) (sym (done-grown x v own first ∙ ap (λ (d : Answered). fold row_done d v.said.notes) (first-done x.c t v.heads first none))) told,
  )
