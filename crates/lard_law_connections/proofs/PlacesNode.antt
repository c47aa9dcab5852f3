-- What a turn of a node owes.
use Rattle.std.proofs.Common.{◌≡◌, ℕ, List, [], ◌∷◌, ◌++◌, Option, Some, None, inl, inr, refl, sym, ap, ◌∙◌, subst, arith, is_some}
use Rattle.lard_law_view.specs.Prelude.{Asked, BackConn, BackRow, Client, Conn, Ending, Front, IsMachine, Node, NodeEnv, NodePart, Part, Place, Rec, Seen, Turn, TurnSaid, Want, Work, all_sent, asked_sent, by_node, ended_sent, gave_by, give_kept, gives_back, kept_after, kept_back, named_records, node_does, node_put_back, nothing_said, sent_of, stands, tale_at, turn_back, turn_by, wants_sent, with_node}
use Rattle.lard_law_connections.specs.Places.{IsDecided, IsEarlyEpoch, IsEven, IsGivenBack, IsOver, MaySay, Owning, Owns, Sits, owning}
use Rattle.lard_law_connections.proofs.PlacesFront.{IsQuiet, Tells, turn-letters}
use Rattle.lard_law_connections.proofs.PlacesGrowing.{BackGrows, KeepsRefusals, KeepsReturn, back-still, front-still, grows-still}
use Rattle.lard_law_connections.proofs.PlacesHeads.{spelled-head, spelled-some}
use Rattle.lard_law_connections.proofs.PlacesRows.{IsPlain, OwnsBy, after_all, plain-after, plain-owns}
use Rattle.lard_law_connections.proofs.PlacesTurns.{IsPlaced, Owes, Turned, timers-plain, turned-after, turned-owns}
use Rattle.lard_law_view.proofs.Parts.{put-each, put-same}
use Rattle.lard_handoff_back.specs.declared.row.BackConn.TheVariants as back
use Rattle.lard_history.proofs.Each.{Each, Each-append}
use Rattle.lard_rules.specs.Node.{Drops, Says, Does}
use Rattle.lard_rules.specs.declared.places.Ending.TheVariants as ending
use Rattle.lard_law_view.proofs.EndpointSends.{AllTo}
use Rattle.lard_handoff_back.specs.Table.{Beside}

module _ (x : Conn) (heads : List Seen) (quiet : IsQuiet x heads) where
  abbrev w : Owning
  w = owning (tale_at x)

  -- ---- nothing that is kept changes

  pub stands-owes : (placed : IsPlaced x) (place : Place) (s : TurnSaid) → Turned x.c place w s w → Each (Tells x.part place) s.messages → Owes x (stands x place heads s)
  stands-owes placed place s t tells =
      let timers = timers-plain place x.c x.part x.part in
      record {
        heads = quiet.may;
        same = quiet.same;
        rows = turned-owns x.c place w w s _ t timers;
        sits = subst (λ (u : Owning). Sits u x.part.nodes x.part.front.row) (sym (turned-after x.c place w w s _ t timers)) placed.sits;
        grows = grows-still x.part;
        letters = turn-letters x.part place x.c w w s t tells;
      }

  -- plain notes, and messages
  pub plain-turned : (place : Place) (notes : List Rec) (ms : List (Place × List ℕ)) → Each IsPlain notes → Each (λ m. IsMachine m.0) ms
      → Turned x.c place w (record { notes = notes; segments = []; gave = []; messages = ms }) w
  plain-turned place notes ms plain machines = record { notes = plain-owns x.c w notes plain; segments = inr refl; gave = tt; messages = machines; then = plain-after w notes plain }

  pub node-drops : (placed : IsPlaced x) (n : ℕ) → Owes x (node_does x n heads Drops)
  node-drops placed n = stands-owes placed (Node n) nothing_said (plain-turned (Node n) [] [] tt tt) tt

  pub node-says : (placed : IsPlaced x) (n : ℕ) (ms : List (Place × List ℕ)) → Each (λ m. IsMachine m.0) ms → Each (Tells x.part (Node n)) ms → Owes x (node_does x n heads (Says ms))
  node-says placed n ms machines tells = stands-owes placed (Node n) (record nothing_said { messages = ms }) (plain-turned (Node n) [] ms tt machines) tells

  -- ---- one node's part changes

  pub node-owes : (n : ℕ) (s : TurnSaid) (q : NodePart) (v : Owning) → Turned x.c (Node n) w s v → Sits v (node_put_back x.part.nodes n q) x.part.front.row → BackGrows (x.part.nodes n).row q.row
      → KeepsRefusals (x.part.nodes n) q → KeepsReturn (x.part.nodes n) q → Each (Tells (with_node x.part n q) (Node n)) s.messages
      → Owes x (record { place = Node n; heads = heads; said = s; part = with_node x.part n q })
  node-owes n s q v t sits grows refusals returns tells =
      let p : Part = with_node x.part n q in
      let timers = timers-plain (Node n) x.c x.part p in
      record {
        heads = quiet.may;
        same = quiet.same;
        rows = turned-owns x.c (Node n) w v s _ t timers;
        sits = subst (λ (u : Owning). Sits u p.nodes x.part.front.row) (sym (turned-after x.c (Node n) w v s _ t timers)) sits;
        grows = record {
          nodes = put-each x.part.nodes n q (λ m r. BackGrows (x.part.nodes m).row r.row) grows (λ m other. back-still (x.part.nodes m).row);
          refusals = put-each x.part.nodes n q (λ m r. KeepsRefusals (x.part.nodes m) r) refusals (λ m other e h. h);
          returns = put-each x.part.nodes n q (λ m r. KeepsReturn (x.part.nodes m) r) returns (λ m other h. h);
          front = front-still p.nodes x.part.front.row;
        };
        letters = turn-letters p (Node n) x.c w v s t tells;
      }

-- ---- a node that has the connection in an epoch, or takes it

-- it sits at node n in whatever stage of this epoch
pub record CanSit (x : Conn) (n e : ℕ) : Type 0 where
  pub even : IsEven e
  pub early : IsEarlyEpoch e
  pub sits : (v : Owning) (q : NodePart) (st : BackConn) → q.row ≡ Some (record { stage = st; epoch = record { 0 = e } }) → Owns n st v.owner → v.epoch ≡ e → Sits v (node_put_back x.part.nodes n q) x.part.front.row
  pub grows : (st : BackConn) → BackGrows (x.part.nodes n).row (Some (record { stage = st; epoch = record { 0 = e } }))
  pub refusals : (q : NodePart) (st : BackConn) → q.row ≡ Some (record { stage = st; epoch = record { 0 = e } })
      → q.beside.refused ≡ (x.part.nodes n).beside.refused
      → KeepsRefusals (x.part.nodes n) q

module _ (x : Conn) (heads : List Seen) (quiet : IsQuiet x heads) (n : ℕ) (env : NodeEnv) (number : env.serve.c ≡ x.c) (node : env.n ≡ n) (can : CanSit x n env.epoch) where
  abbrev owned : Owning
  owned = owning (tale_at x)

  ask-machines : (o : Option Asked) → Each (λ m. IsMachine m.0) (asked_sent env o)
  ask-machines None = tt
  ask-machines (Some a) = (tt, tt)

  want-machines : (ws : List Want) → Each (λ m. IsMachine m.0) (wants_sent env ws)
  want-machines [] = tt
  want-machines (want ∷ ws) = (tt, want-machines ws)

  all-machines : (before : List (Place × List ℕ)) (k : Work) → Each (λ m. IsMachine m.0) before → Each (λ m. IsMachine m.0) (all_sent env before k)
  all-machines before k h = Each-append (λ m. IsMachine m.0) (before ++ asked_sent env k.asked) (wants_sent env k.wants)
      (Each-append (λ m. IsMachine m.0) before (asked_sent env k.asked) h (ask-machines k.asked)) (want-machines k.wants)

  ask-tells : (q : Part) (o : Option Asked) → Each (Tells q (Node n)) (asked_sent env o)
  ask-tells q None = tt
  ask-tells q (Some a) = (subst (λ h. MaySay q (Node n) Front h) (sym (spelled-some _)) tt, tt)

  want-tells : (q : Part) (ws : List Want) → IsDecided env.epoch (q.nodes n).row → Each (Tells q (Node n)) (wants_sent env ws)
  want-tells q [] decided = tt
  want-tells q (want ∷ ws) decided = (
    subst (λ h. MaySay q (Node n) (Node want.node) h) (sym (spelled-head _ (omega (arith, can.early)))) decided,
    want-tells q ws decided,
  )

  all-tells : (q : Part) (before : List (Place × List ℕ)) (k : Work) → IsDecided env.epoch (q.nodes n).row → Each (Tells q (Node n)) before → Each (Tells q (Node n)) (all_sent env before k)
  all-tells q before k decided h = Each-append (Tells q (Node n)) (before ++ asked_sent env k.asked) (wants_sent env k.wants)
      (Each-append (Tells q (Node n)) before (asked_sent env k.asked) h (ask-tells q k.asked)) (want-tells q k.wants decided)

  -- the node that is put back in this epoch decided it
  put-decided : (q : NodePart) (st : BackConn) → q.row ≡ Some (record { stage = st; epoch = record { 0 = env.epoch } }) → IsDecided env.epoch ((with_node x.part n q).nodes n).row
  put-decided q st row = subst (λ (r : NodePart). IsDecided env.epoch r.row) (sym (put-same x.part.nodes n q)) (subst (IsDecided env.epoch) (sym row) (omega arith))

  -- the row as it is put back
  abbrev put_row : BackConn → BackRow
  put_row st = record { stage = st; epoch = record { 0 = env.epoch } }

  -- What was in hand is put back: it stays, or it ended. The node owns it behind its notes.
  pub rests-owe : (part : NodePart) → part.beside ≡ (x.part.nodes n).beside
      → (before : List (Place × List ℕ)) (k : Work) (given : Ending × Turn) (u : Owning) → u.owner ≡ Some (Node n) → u.epoch ≡ env.epoch
      → OwnsBy x.c owned (named_records given.1.notes) → after_all owned (named_records given.1.notes) ≡ u → AllTo (Client env.serve.c) given.1.segments
      → Each (λ m. IsMachine m.0) before
      → ((q : NodePart) (st : BackConn) → q.row ≡ Some (put_row st) → q.beside ≡ (x.part.nodes n).beside → Each (Tells (with_node x.part n q) (Node n)) before)
      → Owes x (node_does x n heads (Does (kept_after env part k given.0, turn_by env before k given)))
  rests-owe part same before k (ending.Here b count, turn) u mine epoch notes then to machines tells =
      let q : NodePart = kept_after env part k (ending.Here b count) in
      let msgs : List (Place × List ℕ) = all_sent env before k in
      node-owes x heads quiet n (by_node (turn_by env before k (ending.Here b count, turn))) q u
      (record {
        notes = notes;
        segments = inl (subst (λ (c : ℕ). AllTo (Client c) turn.segments) number to, ap (λ (v : Owning). v.owner) then ∙ mine, tt);
        gave = tt;
        messages = Each-append (λ m. IsMachine m.0) msgs [] (all-machines before k machines) tt;
        then = then;
      })
      (can.sits u q (back.Here b) refl mine epoch) (can.grows (back.Here b)) (can.refusals q (back.Here b) refl (ap (λ (b : Beside). b.refused) same)) (λ h. ap (λ (b : Beside). is_some b.returned) same ∙ h)
      (Each-append (Tells (with_node x.part n q) (Node n)) msgs [] (all-tells (with_node x.part n q) before k (put-decided q (back.Here b) refl) (tells q (back.Here b) refl same)) tt)
  rests-owe part same before k (ending.Over last, turn) u mine epoch notes then to machines tells =
      let q : NodePart = kept_after env part k (ending.Over last) in
      let p : Part = with_node x.part n q in
      let msgs : List (Place × List ℕ) = all_sent env before k in
      let end : List (Place × List ℕ) = ended_sent env k.service.over (ending.Over last) in
      let v : Owning = record u { owner = None } in
      node-owes x heads quiet n (by_node (turn_by env before k (ending.Over last, turn))) q v
      (record {
        notes = notes;
        segments = inl (subst (λ (c : ℕ). AllTo (Client c) turn.segments) number to, ap (λ (v : Owning). v.owner) then ∙ mine, tt);
        gave = subst (λ (o : Owning). OwnsBy x.c o (gave_by env (ending.Over last))) (sym then) ((number, mine ∙ ap (λ (m : ℕ). Some (Node m)) (sym node), epoch), tt);
        messages = Each-append (λ m. IsMachine m.0) msgs end (all-machines before k machines) (tt, tt);
        then = ap (λ (o : Owning). after_all o (gave_by env (ending.Over last))) then;
      })
      (can.sits v q back.Ended refl refl epoch) (can.grows back.Ended) (can.refusals q back.Ended refl (ap (λ (b : Beside). b.refused) same)) (λ h. ap (λ (b : Beside). is_some b.returned) same ∙ h)
      (Each-append (Tells p (Node n)) msgs end (all-tells p before k (put-decided q back.Ended refl) (tells q back.Ended refl same)) (
        subst (λ h. MaySay p (Node n) Front h) (sym (spelled-head _ (omega (arith, can.early))))
            (subst (λ (r : NodePart). IsOver env.epoch r.row) (sym (put-same x.part.nodes n q)) (omega arith, λ same. tt)),
        tt,
      ))

  -- It goes back: its endpoint is frozen before it says anything, and the Give is told.
  pub gives-owe : (part : NodePart) → part.beside ≡ (x.part.nodes n).beside → (before : List (Place × List ℕ)) (k : Work) (u : Owning)
      → u.owner ≡ Some (Node n) → u.epoch ≡ env.epoch
      → OwnsBy x.c owned (named_records k.service.notes) → after_all owned (named_records k.service.notes) ≡ u
      → Each (λ m. IsMachine m.0) before
      → ((q : NodePart) (st : BackConn) → q.row ≡ Some (put_row st) → q.beside.refused ≡ (x.part.nodes n).beside.refused → Each (Tells (with_node x.part n q) (Node n)) before)
      → Owes x (node_does x n heads (gives_back env part before k))
  gives-owe part same before k u mine epoch notes then machines tells =
      let q : NodePart = kept_back env part k in
      let p : Part = with_node x.part n q in
      let msgs : List (Place × List ℕ) = all_sent env before k in
      let give : List (Place × List ℕ) = sent_of (give_kept env k) ∷ [] in
      let gave : List Rec = (turn_back env before k).gave in
      let v : Owning = record u { owner = None } in
      node-owes x heads quiet n (by_node (turn_back env before k)) q v
      (record {
        notes = notes;
        segments = inr refl;
        gave = subst (λ (o : Owning). OwnsBy x.c o gave) (sym then) ((number, mine ∙ ap (λ (m : ℕ). Some (Node m)) (sym node), epoch), tt);
        messages = Each-append (λ m. IsMachine m.0) msgs give (all-machines before k machines) (tt, tt);
        then = ap (λ (o : Owning). after_all o gave) then;
      })
      (can.sits v q back.Ended refl refl epoch) (can.grows back.Ended) (can.refusals q back.Ended refl (ap (λ (b : Beside). b.refused) same)) (λ h. refl)
      (Each-append (Tells p (Node n)) msgs give (all-tells p before k (put-decided q back.Ended refl) (tells q back.Ended refl (ap (λ (b : Beside). b.refused) same))) (
        subst (λ h. MaySay p (Node n) Front h) (sym (spelled-head _ (omega (arith, can.early))))
            (subst (IsGivenBack env.epoch) (sym (put-same x.part.nodes n q)) ((omega arith, λ same. tt), refl)),
        tt,
      ))
