-- The front end gets an Ask: the next one is assigned and answered, the last one is answered again, and any other is dropped.
use Rattle.std.proofs.Common.{◌≡◌, ◌+◌, ◌==◌, ◌&&◌, nat_lt, ℕ, Bool, true, false, cond, List, [], ◌∷◌, ◌++◌, length, map, Option, Some, None, refl, sym, ap, ◌∙◌, subst, arith, append-nil, append_assoc, eqb-true}
use Rattle.std.proofs.lemmas.Bool.{and_parts}
use Rattle.std.proofs.lemmas.List.{length-map}
use Rattle.std.proofs.lemmas.List.Sums.{fold-append}
use Rattle.std.specs.List.{fold}
use Rattle.lard_law_view.specs.Prelude.{Ask, Conn, Did, Front, FrontConn, FrontDeed, FrontEnv, FrontPart, FrontRest, FrontRow, IsFrontEnv, Later, LaterChoice, Move, Node, Rec, Row, Seen, Setting, SpellsMessage, ask_of, asked_by, assigned_notes, assigns, decoded_message, front_asked, front_does, front_saying, grown, is_row_at, is_with, listed, over_note, packet_seen, rows_of, tag_sent}
use Rattle.lard_laws.specs.AsksAnswers.{EndsWith, later_assigned, dues, tag_for, tags_due}
use Rattle.lard_laws.specs.Asks.{Answered, Asking, AskTale, LaterAssigned, ask_from, ask_in, ask_tale, asks_step, came_done, end_in, is_again, is_its, is_next, is_this, later_in, node_in, row_done, tag_to}
use Rattle.lard_laws.proofs.AsksFronts.{tagged-is}
use Rattle.lard_laws.proofs.AsksMoving.{Answers, Fills, IsTold, RowTold, StageTold, Told, by-lists}
use Rattle.lard_laws.proofs.AsksPicking.{done-grown, way-told}
use Rattle.lard_law_connections.specs.MotionStory.{Story, picked, story}
use Rattle.lard_law_connections.proofs.MotionElsewhere.{IsKnown, RowKnown, StageKnown}
use Rattle.lard_law_connections.proofs.MotionPicking.{pick, pick-append}
use Rattle.lard_law_view.specs.View.{sending}
use Rattle.lard_law_view.proofs.Fine.{IsItsOwn}
use Rattle.lard_rules.specs.Front.{Drops, Says, Does, message}
use Rattle.lard_handoff_front.specs.declared.row.FrontConn.TheVariants as stage
use Rattle.lard_journal.specs.declared.rec.Rec.TheVariants as rec
use Rattle.lard_message.specs.declared.message.Body.TheVariants as body

-- ---- what is noted of an Ask

over-picks : {A : Type 0} (f : Rec → Option A) (c : ℕ) (b : Bool) → f (rec.BatchOver c) ≡ None → pick f (over_note c b) ≡ []
over-picks f c true none = ap (λ o. listed o ++ []) none
over-picks f c false none = refl

over-done : (d : Answered) (c : ℕ) (b : Bool) → fold row_done d (over_note c b) ≡ d
over-done d c true = refl
over-done d c false = refl

-- the Ask as it comes, and as the dispatcher is asked
abbrev pub asking_of : ℕ → ℕ → ℕ → ℕ → ℕ → List (List ℕ) → Asking
asking_of n epoch number queue size paths = record { from = n; epoch = epoch; number = number; queue = queue; size = size; paths = paths }

module _ (c n epoch number queue size : ℕ) (paths : List (List ℕ)) where
  abbrev ask : Ask
  ask = ask_of c n number queue size paths

  abbrev a : Asking
  a = asking_of n epoch number queue size paths

  -- as many choices as paths
  pub notes-assign : (d r : ℕ) (ps : List (List ℕ)) (cs : List LaterChoice) → length cs ≡ length ps → pick later_in (assigned_notes d ask r ps cs) ≡ later_assigned a r ps
  notes-assign d r [] [] e = refl
  notes-assign d r [] (choice ∷ cs) e = refl
  notes-assign d r (path ∷ ps) [] e = absurd cc
  notes-assign d r (path ∷ ps) (choice ∷ cs) e = ap (λ l. record { r = r + 1; path = path; size = size; queue = queue } ∷ l) (notes-assign d (r + 1) ps cs (omega (arith, e)))

  pub notes-choose : (d r : ℕ) (ps : List (List ℕ)) (cs : List LaterChoice) → length cs ≡ length ps → pick node_in (assigned_notes d ask r ps cs) ≡ map (λ x. x.node) cs
  notes-choose d r [] [] e = refl
  notes-choose d r [] (choice ∷ cs) e = absurd cc
  notes-choose d r (path ∷ ps) [] e = refl
  notes-choose d r (path ∷ ps) (choice ∷ cs) e = ap (λ l. choice.node ∷ l) (notes-choose d (r + 1) ps cs (omega (arith, e)))

  -- these nodes come behind, and this request was assigned last
  pub notes-done : (d r : ℕ) (ps : List (List ℕ)) (cs : List LaterChoice) (x : Answered) → length cs ≡ length ps → x.assigned ≡ r
      → fold row_done x (assigned_notes d ask r ps cs) ≡ record { last = x.last; nodes = x.nodes ++ map (λ y. y.node) cs; assigned = r + length cs }
  notes-done d r [] [] x e at = let none : r ≡ r + 0 = omega arith in λ i. record { last = x.last; nodes = sym (append-nil x.nodes) i; assigned = (at ∙ none) i }
  notes-done d r [] (choice ∷ cs) x e at = absurd cc
  notes-done d r (path ∷ ps) [] x e at = absurd cc
  notes-done d r (path ∷ ps) (choice ∷ cs) x e at =
      let y : Answered = record x { nodes = x.nodes ++ choice.node ∷ []; assigned = r + 1 } in
      let sum : (r + 1) + length cs ≡ r + length (choice ∷ cs) = omega arith in
      notes-done d (r + 1) ps cs y (omega (arith, e)) refl ∙ (λ i. record { last = x.last; nodes = append_assoc x.nodes (choice.node ∷ []) (map (λ z. z.node) cs) i; assigned = sum i })

-- ---- it is the connection's

-- the connection is with this node in this epoch, where its story says so
pub its-is : (s : Story) (row : Option FrontRow) (a : Asking) → RowKnown s row → is_its s a ≡ is_row_at a.from a.epoch row
its-is s None a h = ap (λ b. b && (is_this s.node a.from && is_this s.epoch a.epoch)) h.2.away
its-is s (Some row) a h = go row.stage h.2 where
  go : (st : FrontConn) → StageKnown s st → is_its s a ≡ is_with a.from a.epoch st
  go (stage.Held b) k = ap (λ b. b && (is_this s.node a.from && is_this s.epoch a.epoch)) k.away
  go (stage.Waiting b) k = ap (λ b. b && (is_this s.node a.from && is_this s.epoch a.epoch)) k.away
  go stage.Lent k = ap (λ b. b && (is_this s.node a.from && is_this s.epoch a.epoch)) k.away
  go (stage.Offering n d) k = λ i. k.away i && (is_this (k.node i) a.from && is_this (k.epoch i) a.epoch)
  go (stage.Moved n d) k = λ i. k.away i && (is_this (k.node i) a.from && is_this (k.epoch i) a.epoch)
  go (stage.Closed last) k = ap (λ b. b && (is_this s.node a.from && is_this s.epoch a.epoch)) k.away

-- and then the front end keeps what is told of the last Ask
pub with-told : (d : Answered) (rest : Option FrontRest) (row : Option FrontRow) (n epoch : ℕ) → is_row_at n epoch row ≡ true → RowTold d rest row → IsTold d rest
with-told d rest None n epoch at h = let no : false ≡ true = at in absurd cc
with-told d rest (Some row) n epoch at h = go row.stage at h where
  go : (st : FrontConn) → is_with n epoch st ≡ true → StageTold d rest st → IsTold d rest
  go (stage.Held b) at h = let no : false ≡ true = at in absurd cc
  go (stage.Waiting b) at h = let no : false ≡ true = at in absurd cc
  go stage.Lent at h = let no : false ≡ true = at in absurd cc
  go (stage.Offering m d) at h = h
  go (stage.Moved m d) at h = h
  go (stage.Closed last) at h = let no : false ≡ true = at in absurd cc

-- ---- the rule

module _ (k : Setting) (x : Conn) (told : Told x) (known : IsKnown x) (env : FrontEnv) (is : IsFrontEnv k x.c env) (n epoch number queue size : ℕ) (paths : List (List ℕ)) (bytes : List ℕ)
    (spells : SpellsMessage x.c epoch (body.Ask number queue size paths) bytes) (some : length paths ≡ 0 → ⊥) where
  abbrev heads : List Seen
  heads = packet_seen (Node n) Front bytes

  abbrev p : FrontPart
  p = x.part.front

  abbrev t : AskTale
  t = ask_tale x.c x.seen

  abbrev its : Ask
  its = ask_of x.c n number queue size paths

  abbrev comes : Asking
  comes = asking_of n epoch number queue size paths

  abbrev Goes : FrontDeed → Type 0
  Goes d = IsItsOwn x (front_does x heads d) → Fills x (grown x (front_does x heads d)) → Answers x (front_does x heads d)

  came : picked ask_in heads ≡ comes ∷ []
  came = append-nil (listed (ask_from n (decoded_message bytes))) ∙ ap (λ r. listed (ask_from n r)) spells

  behind : (fold (asks_step x.c) t heads).done ≡ came_done t (Some comes)
  behind = ap (λ r. came_done t (ask_from n r)) spells

  its-at : is_its t.way comes ≡ is_row_at n epoch p.row
  its-at = ap (λ (s : Story). is_its s comes) (way-told x.c x.seen) ∙ its-is (story x.c x.seen) p.row comes known.row

  -- nothing is due: it is dropped
  none-next : is_next t comes ≡ false → dues t (comes ∷ []) ≡ []
  none-next e = ap (λ b. cond b (later_assigned comes t.done.assigned paths) [] ++ []) e

  kept-told : is_next t comes ≡ false → RowTold (fold row_done (fold (asks_step x.c) t heads).done []) p.rest p.row
  kept-told e = subst (λ (d : Answered). RowTold d p.rest p.row) (sym (behind ∙ ap (λ b. cond b (record t.done { last = number; nodes = [] }) t.done) e)) told

  tags-are : (b c : Bool) (nodes : List ℕ) → is_next t comes ≡ b → is_again t comes ≡ c → tags_due x.c t nodes (comes ∷ []) ≡ cond b (tag_for x.c comes nodes) (cond c (tag_for x.c comes t.done.nodes) []) ++ []
  tags-are b c nodes e f = λ i. cond (e i) (tag_for x.c comes nodes) (cond (f i) (tag_for x.c comes t.done.nodes) []) ++ []

  drops : is_next t comes ≡ false → is_again t comes ≡ false → Goes Drops
  drops e f own fills = (
    by-lists x (front_does x heads Drops) own (tt, tt) (comes ∷ []) [] [] [] []
        (record { asks_are = came; laters_are = refl; nodes_are = refl; ends_are = refl; segments = refl; tags_are = refl; due = sym (none-next e); tagged = sym (tags-are false false [] e f); ended = refl }),
    subst (λ (d : Answered). RowTold d p.rest p.row) (sym (done-grown x (front_does x heads Drops) own (tt, tt))) (kept-told e),
  )

  -- the last one gets its Tag again
  again : (rest : FrontRest) → IsTold t.done (Some rest) → number ≡ rest.asks → is_next t comes ≡ false → is_again t comes ≡ true → Goes (Says (front_saying (tag_sent env n epoch rest.asks rest.tag)))
  again rest same last e f own fills =
      let v : Move = front_does x heads (Says (front_saying (tag_sent env n epoch rest.asks rest.tag))) in
      let tag : List (ℕ × List ℕ) = (n, message x.c epoch (body.Tag number t.done.nodes)) ∷ [] in
      let sent : pick tag_to (map (sending Front) (tag_sent env n epoch rest.asks rest.tag)) ≡ tag =
      ap (λ o. listed o ++ []) (tagged-is n env.serve.c epoch rest.asks rest.tag) ∙ (λ i. (n, message (is.number i) epoch (body.Tag (sym last i) (same.1 i))) ∷ []) in (
        by-lists x v own (tt, tt) (comes ∷ []) [] [] [] tag
            (record { asks_are = came; laters_are = refl; nodes_are = refl; ends_are = refl; segments = refl; tags_are = sent; due = sym (none-next e); tagged = sym (tags-are false true [] e f); ended = refl }),
        subst (λ (d : Answered). RowTold d p.rest p.row) (sym (done-grown x v own (tt, tt))) (kept-told e),
      )

  -- the next one is assigned
  assigned : (rest : FrontRest) → p.rest ≡ Some rest → is_row_at n epoch p.row ≡ true → IsTold t.done (Some rest) → number ≡ rest.asks + 1 → is_next t comes ≡ true → (l : Later) → Goes (Does (assigns env p rest n epoch its l))
  assigned rest found at same next e l own fills =
      let did : Did = assigns env p rest n epoch its l in
      let v : Move = front_does x heads (Does did) in
      let nodes : List ℕ = map (λ y. y.node) l.choices in
      let more : List Rec = assigned_notes env.serve.c its rest.assigned paths l.choices in
      let over : List Rec = over_note env.serve.c l.over in
      let full : length l.choices ≡ length paths =
      sym (length-map l.choices (λ y. y.node)) ∙ fills n epoch number queue size paths bytes (map Row (rows_of x v)) rest (record rest { asks = number; tag = nodes; assigned = rest.assigned + length l.choices }) refl spells at found next refl in
      let due : List LaterAssigned = later_assigned comes t.done.assigned paths in
      let laters : pick later_in did.turn.notes ≡ due =
      pick-append later_in over more
      ∙ (λ i. over-picks later_in env.serve.c l.over refl i ++ notes-assign x.c n epoch number queue size paths env.serve.c rest.assigned paths l.choices full i)
      ∙ ap (λ r. later_assigned comes r paths) same.2 in
      let chosen : pick node_in did.turn.notes ≡ nodes =
      pick-append node_in over more ∙ (λ i. over-picks node_in env.serve.c l.over refl i ++ notes-choose x.c n epoch number queue size paths env.serve.c rest.assigned paths l.choices full i) in
      let tag : List (ℕ × List ℕ) = (n, message x.c epoch (body.Tag number nodes)) ∷ [] in
      let sent : pick tag_to (map (sending Front) (tag_sent env n epoch number nodes)) ≡ tag =
      ap (λ o. listed o ++ []) (tagged-is n env.serve.c epoch number nodes) ∙ (λ i. (n, message (is.number i) epoch (body.Tag number nodes)) ∷ []) in
      let start : (fold (asks_step x.c) t heads).done ≡ record { last = number; nodes = []; assigned = rest.assigned } =
      behind ∙ ap (λ b. cond b (record t.done { last = number; nodes = [] }) t.done) e ∙ (λ i. record { last = number; nodes = []; assigned = sym same.2 i }) in
      let now : fold row_done (fold (asks_step x.c) t heads).done did.turn.notes ≡ record { last = number; nodes = nodes; assigned = rest.assigned + length l.choices } =
      ap (λ (d : Answered). fold row_done d did.turn.notes) start
      ∙ fold-append row_done (record { last = number; nodes = []; assigned = rest.assigned }) over more
      ∙ ap (λ (d : Answered). fold row_done d more) (over-done (record { last = number; nodes = []; assigned = rest.assigned }) env.serve.c l.over)
      ∙ notes-done x.c n epoch number queue size paths env.serve.c rest.assigned paths l.choices (record { last = number; nodes = []; assigned = rest.assigned }) full refl in (
        by-lists x v own (tt, tt) (comes ∷ []) due nodes (pick end_in did.turn.notes) tag (record {
          asks_are = came;
          laters_are = laters;
          nodes_are = chosen;
          ends_are = refl;
          segments = refl;
          tags_are = sent;
          due = sym (ap (λ b. cond b due [] ++ []) e ∙ append-nil due);
          tagged = sym (tags-are true (is_again t comes) nodes e refl);
          ended = some-due due paths refl some;
        }),
        subst (λ (d : Answered). RowTold d did.part.rest p.row) (sym (done-grown x v own (tt, tt) ∙ now)) (stays-told p.row at),
      ) where
        some-due : (due : List LaterAssigned) (ps : List (List ℕ)) → due ≡ later_assigned comes t.done.assigned ps → (length ps ≡ 0 → ⊥) → EndsWith due (pick end_in (assigns env p rest n epoch its l).turn.notes)
        some-due due [] e none = absurd (none refl)
        some-due [] (path ∷ ps) e none = absurd cc
        some-due (y ∷ due) (path ∷ ps) e none = tt

        stays-told : (o : Option FrontRow) → is_row_at n epoch o ≡ true
            → RowTold (record { last = number; nodes = map (λ y. y.node) l.choices; assigned = rest.assigned + length l.choices }) (assigns env p rest n epoch its l).part.rest o
        stays-told None at = tt
        stays-told (Some row) at = go row.stage where
          go : (st : FrontConn) → StageTold (record { last = number; nodes = map (λ y. y.node) l.choices; assigned = rest.assigned + length l.choices }) (assigns env p rest n epoch its l).part.rest st
          go (stage.Held b) = tt
          go (stage.Waiting b) = tt
          go stage.Lent = tt
          go (stage.Offering m d) = (refl, refl, refl)
          go (stage.Moved m d) = (refl, refl, refl)
          go (stage.Closed last) = tt

  -- by the tests of the rule
  asked-by : is_row_at n epoch p.row ≡ true → (o : Option FrontRest) → p.rest ≡ o → Goes (asked_by env p n epoch its o)
  asked-by at None found = absurd (subst (IsTold t.done) found (with-told t.done p.rest p.row n epoch at told))
  asked-by at (Some rest) found = go (number == rest.asks + 1) refl (number == rest.asks && nat_lt 0 rest.asks) refl where
    same : IsTold t.done (Some rest)
    same = subst (IsTold t.done) found (with-told t.done p.rest p.row n epoch at told)

    next-is : (b : Bool) → (number == rest.asks + 1) ≡ b → is_next t comes ≡ b
    next-is b e = (λ i. (its-at ∙ at) i && number == sym same.0 i + 1) ∙ e

    again-is : (b : Bool) → (number == rest.asks && nat_lt 0 rest.asks) ≡ b → is_again t comes ≡ b
    again-is b e = (λ i. (its-at ∙ at) i && (number == sym same.0 i && nat_lt 0 (sym same.0 i))) ∙ e

    go : (b : Bool) → (number == rest.asks + 1) ≡ b → (c : Bool) → (number == rest.asks && nat_lt 0 rest.asks) ≡ c
        → Goes (cond b (Does (assigns env p rest n epoch its (env.later its))) (cond c (Says (front_saying (tag_sent env n epoch rest.asks rest.tag))) Drops))
    go true e c f = assigned rest found at same (eqb-true number (rest.asks + 1) e) (next-is true e) (env.later its)
    go false e true f = again rest same (eqb-true number rest.asks ((and_parts (number == rest.asks) (nat_lt 0 rest.asks) f).0)) (next-is false e) (again-is true f)
    go false e false f = drops (next-is false e) (again-is false f)

  pub asked-answers : Goes (front_asked env p n epoch its)
  asked-answers = go (is_row_at n epoch p.row) refl where
    go : (b : Bool) → is_row_at n epoch p.row ≡ b → Goes (cond b (asked_by env p n epoch its p.rest) Drops)
    go true at = asked-by at p.rest refl
    go false at = drops (ap (λ b. b && number == t.done.last + 1) (its-at ∙ at)) (ap (λ b. b && (number == t.done.last && nat_lt 0 t.done.last)) (its-at ∙ at))
