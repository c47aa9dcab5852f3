-- What each rule of the front end makes of a connection's way.
use Rattle.std.proofs.Common.{◌≡◌, ◌<◌, ◌+◌, ◌^◌, ◌==◌, ◌||◌, ◌&&◌, not, ℕ, Bool, true, false, cond, List, [], ◌∷◌, ◌++◌, map, Option, Some, None, is_some, inl, inr, ⊎_elim, ◌⊎◌, refl, sym, ap, ◌∙◌, subst, arith, append-nil, eqb-true, eq-eqb}
use Rattle.std.proofs.lemmas.Bool.{both_ways, cond_both}
use Rattle.std.proofs.lemmas.List.Folds.{list_any-append}
use Rattle.std.proofs.lemmas.List.Sums.{fold-append}
use Rattle.std.specs.List.{fold}
use Rattle.lard_law_view.specs.Prelude.{Ask, Call, Client, Conn, ControlBlock, Did, EndedBy, EndpointParts, Ending, Epoch, Final, First, FirstChoice, Front, FrontConn, FrontDeed, FrontEnv, FrontGets, FrontHears, FrontPart, FrontRest, FrontRow, FrontTurn, IsFrontEnv, Later, Move, Node, NodePart, Place, Reading, Rec, ReturnedBy, Row, Said as Segment, Seen, Service, Setting, Turn, ack_sent, adopted, after_timer, assigned_notes, assigns, by_front, end_answer, ended_with, front_begun, front_does, front_ended, front_ended_by, front_ends, front_fired, front_hears, front_reads, front_rest, front_rests, front_rule, front_saying, handed_off, heard, hears_at, is_away, is_plain_syn, last_words, leaves_by, letter, letters_of, listed, listening, met, next_epoch, on_segment, over_note, placed, rows_of, seen_in, sent_of, serving, serving_settled, settled_by, spoken, stage_after, tag_sent, taken_by, tale_at, timed, tombstone, turn_here, with_front, without}
use Rattle.lard_base.specs.declared.place.TimerKind.TheVariants as timer
use Rattle.lard_law_connections.specs.Motion.{IsHandedOff, first_back, first_syn, first_takes, forwards_by, forwards_of, later_takes}
use Rattle.lard_law_connections.specs.MotionStory.{Story, first_node, forward_to, front_gave_epoch, front_took, is_among, last_gave, picked, refused_in, row_step, story, to_node}
use Rattle.lard_law_connections.proofs.MotionAnswers.{reads-answers}
use Rattle.lard_law_connections.proofs.MotionElsewhere.{AreNextUp, Helps, IsAway, IsBack, IsKnown, IsNotOfClient, IsOfferKept, Lists, Moves, Parts, RowKnown, IsNoLater, StageKnown, and-false, no-later-grows, by-lists, machine-letters, no-forwards, no-syn, no-takes, none-back, seen-back, seen-firsts, seen-forwards, seen-gives, seen-said, seen-segments, seen-syn, seen-takes}
use Rattle.lard_law_connections.proofs.MotionPicking.{IsStill, pick, pick-append, picked-append, segments-none, still-all, stills-first, stills-took, story-grown}
use Rattle.lard_law_connections.specs.Places.{HasEnded, IsComing, IsDecided, IsEarlyEpoch, IsOffered, IsRefusalTold, IsThere, Offers, Owning, Sits, StageSits, owning, unowned}
use Rattle.lard_law_connections.proofs.MotionEpochs.{gave-last}
use Rattle.lard_law_connections.proofs.PlacesFrontMessages.{coming-refused, there-epoch}
use Rattle.lard_law_connections.proofs.PlacesFrontRules.{decided-there}
use Rattle.lard_law_connections.proofs.PlacesHeads.{spelled-head}
use Rattle.lard_law_connections.proofs.PlacesLoops.{settled-is, spoken-to}
use Rattle.lard_law_connections.proofs.PlacesTurns.{IsPlaced, early-at}
use Rattle.lard_law_view.specs.View.{sending}
use Rattle.lard_dispatch.specs.declared.dispatch.First.TheVariants as first
use Rattle.lard_dispatch.specs.Laws as call
use Rattle.lard_rules.specs.Front.{Drops, Says, Does, back_answer, back_notes, back_part, back_rest, does_first, front_returned, is_with, message, parts_kept, reads_on, returned_by, stands_first}
use Rattle.lard_handoff_front.specs.Returns.{refused_answer, returned_row}
use Rattle.lard_handoff_front.specs.Row.{offered_to}
use Rattle.lard_handoff_front.specs.declared.table.returns.Back.TheVariants as back
use Rattle.lard_handoff_front.specs.declared.row.FrontConn.TheVariants as stage
use Rattle.lard_handoff_front.specs.declared.table.OnEnded.TheVariants.{New, Again, Stale}
use Rattle.lard_history.proofs.Each.{Each, Each-append}
use Rattle.lard_journal.specs.declared.rec.Rec.TheVariants as rec
use Rattle.lard_message.specs.declared.message.Body.TheVariants as body
use Rattle.lard_rules.specs.declared.places.Ending.TheVariants as ending
use Rattle.lard_law_view.proofs.EndpointSends.{AllTo, ready-to}
use Rattle.lard_law_connections.proofs.MotionComings.{assigned-still, over-still, Heads, among-more, answers-still, back-behind, behind_heads, forwarded-is, not-forwarded, resent-none, row-behind, without-kept}
use Rattle.lard_rules.proofs.FrontCases.{IsAsGiven, IsInStage, KeptByFront, front-keeps, fired_before, fired_service}

-- anything but a segment, and what brings the connection back
abbrev pub IsCalm : FrontGets → Type 0
IsCalm (FrontHears bytes given) = ⊥
IsCalm (EndedBy n epoch last) = ⊥
IsCalm (ReturnedBy n epoch given) = ⊥
IsCalm _ = Unit {0}

or-true : (b : Bool) → b || true ≡ true
or-true true = refl
or-true false = refl

-- ---- one connection

module _ (k : Setting) (x : Conn) (at_place : IsPlaced x) (known : IsKnown x) (heads : List Seen) (syn : Bool) (es : List ℕ) (segments : List (List ℕ)) (came : Heads x heads syn es segments) (env : FrontEnv) (is : IsFrontEnv k x.c env)
    (no_later : (e : ℕ) → is_among e ((story x.c x.seen).back ++ es) ≡ true → IsNoLater e x.part.front.row) where
  abbrev p : FrontPart
  p = x.part.front

  abbrev nodes : ℕ → NodePart
  nodes = x.part.nodes

  abbrev own : Owning
  own = owning (tale_at x)

  abbrev t : Story
  t = story x.c x.seen

  abbrev u : Story
  u = behind_heads t syn es

  -- it is given
  abbrev pub Goes : FrontDeed → Type 0
  Goes d = Helps x (front_does x heads d) → Moves x (front_does x heads d)

  -- ---- a move, by its lists

  abbrev move : FrontPart → FrontTurn → Move
  move part turn = record { place = Front; heads = heads; said = by_front turn; part = with_front x.part part }

  pub record Turns (part : FrontPart) (turn : FrontTurn) (takes gives firsts : List ℕ) (forwards : List (ℕ × List ℕ)) (then : Story) : Type 0 where
    pub takes_are : pick front_took turn.notes ≡ takes
    pub gives_are : pick front_gave_epoch turn.gave ≡ gives
    pub firsts_are : pick first_node turn.notes ≡ firsts
    pub forwards_are : pick forward_to (map (sending Front) turn.messages) ≡ forwards
    pub to : AllTo (Client x.c) turn.segments
    pub tells : fold row_step (fold row_step u turn.notes) turn.gave ≡ then
    pub first : first_takes t takes ≡ first_syn t syn
    pub off : IsHandedOff gives firsts (pick to_node (map (sending Front) turn.messages))
    pub back : later_takes t takes ≡ first_back t es
    pub up : AreNextUp x (move part turn) takes
    pub forth : forwards ≡ forwards_of x.c t segments
    pub row : RowKnown then part.row
    pub same_back : then.back ≡ u.back
    pub kept : Each IsOfferKept part.kept

  fresh-on : (part : FrontPart) (turn : FrontTurn) → (x.part.station ≡ None → Each IsNotOfClient (x.letters ++ letters_of (move part turn)))
  fresh-on part turn none = Each-append IsNotOfClient x.letters (letters_of (move part turn)) (known.fresh none)
      (Each-append IsNotOfClient (map (letter Front) turn.segments) (map (letter Front) turn.messages) (machine-letters Front turn.segments tt) (machine-letters Front turn.messages tt))

  pub turns-move : (part : FrontPart) (turn : FrontTurn) (takes gives firsts : List ℕ) (forwards : List (ℕ × List ℕ)) (then : Story) → Turns part turn takes gives firsts forwards then
      → Helps x (move part turn) → Moves x (move part turn)
  turns-move part turn takes gives firsts forwards then m help =
      let v : Move = move part turn in
      let parts : Parts x v = record { heads = came.bare; segments = segments-none forward_to Front x.c (λ i bytes. refl) turn.segments m.to } in
      let lists : Lists x v takes gives firsts forwards syn es segments = record {
        takes_are = seen-takes x v help.own parts takes m.takes_are;
        gives_are = seen-gives x v help.own parts gives m.gives_are;
        firsts_are = seen-firsts x v help.own parts firsts m.firsts_are;
        forwards_are = seen-forwards x v help.own parts forwards m.forwards_are;
        syn_is = seen-syn x v help.own parts syn came.syn_is;
        comes_are = seen-back x v help.own parts es came.comes_are;
        segments_are = seen-segments x v help.own parts segments came.segments_are;
      } in
      let now : story x.c (x.seen ++ seen_in x v) ≡ then =
      story-grown x v ∙ ap (λ (s : Story). fold row_step (fold row_step s turn.notes) turn.gave) came.tells ∙ m.tells in (
        by-lists x v takes gives firsts forwards syn es segments lists m.first (subst (IsHandedOff gives firsts) (sym (seen-said x v help.own parts (pick to_node (map (sending Front) turn.messages)) (segments-none to_node Front x.c (λ i bytes. refl) turn.segments m.to) refl)) m.off) m.back m.up m.forth,
        record {
          row = subst (λ (s : Story). RowKnown s part.row) (sym now) m.row;
          back = λ e among. no-later-grows v.part.nodes e p.row part.row help.owes.grows.front
              (no_later e (ap (λ (l : List ℕ). is_among e l) (sym (ap (λ (s : Story). s.back) now ∙ m.same_back)) ∙ among));
          kept = m.kept;
          fresh = fresh-on part turn;
        },
      )

  -- ---- nothing of the way is done

  -- what the lists must be where it neither takes it nor gives it up
  record Calm (forwards : List (ℕ × List ℕ)) : Type 0 where
    first : [] ≡ first_syn t syn
    back : [] ≡ first_back t es
    forth : forwards ≡ forwards_of x.c t segments

  calm-move : (part : FrontPart) (turn : FrontTurn) (forwards : List (ℕ × List ℕ)) → Calm forwards → Each IsStill turn.notes → turn.gave ≡ [] → pick forward_to (map (sending Front) turn.messages) ≡ forwards
      → AllTo (Client x.c) turn.segments → RowKnown u part.row → Each IsOfferKept part.kept → Helps x (move part turn) → Moves x (move part turn)
  calm-move part turn forwards calm notes none messages to row kept = turns-move part turn [] [] [] forwards u (record {
    takes_are = stills-took turn.notes notes;
    gives_are = ap (pick front_gave_epoch) none;
    firsts_are = stills-first turn.notes notes;
    forwards_are = messages;
    to = to;
    tells = ap (λ (gs : List Rec). fold row_step (fold row_step u turn.notes) gs) none ∙ still-all u turn.notes notes;
    first = (no-takes t).0 ∙ calm.first;
    off = tt;
    back = (no-takes t).1 ∙ calm.back;
    up = tt;
    forth = calm.forth;
    row = row;
    same_back = refl;
    kept = kept;
  })

  -- once it took the connection, no SYN is the first
  taken-first : t.syn ≡ true → [] ≡ first_syn t syn
  taken-first e = ap (λ b. cond (not b && syn) (1 ∷ []) []) (sym e)

  -- it came back already
  was-back : IsBack t → [] ≡ first_back t es
  was-back h = go t.epoch refl where
    go : (o : Option ℕ) → t.epoch ≡ o → [] ≡ (elim o as (λ q. List ℕ) [ None ↦ [] | Some d ↦ cond (not (is_among d t.back) && is_among d es) ((d + 1) ∷ []) [] ])
    go None f = refl
    go (Some d) f = ap (λ b. cond (not b && is_among d es) ((d + 1) ∷ []) []) (sym (h.back d f))

  at-home : t.away ≡ false → [] ≡ forwards_of x.c t segments
  at-home e = ap (λ b. cond b (forwards_by x.c t.node t.epoch segments) []) (sym e)

  -- where it is held here
  held-calm : (row : FrontRow) → p.row ≡ Some row → IsBack t → Calm []
  held-calm row found h =
      let r : RowKnown t (Some row) = subst (RowKnown t) found known.row in
      record { first = taken-first r.1; back = was-back h; forth = at-home h.away }

  row-of : (row : FrontRow) → p.row ≡ Some row → RowKnown t (Some row)
  row-of row found = subst (RowKnown t) found known.row

  -- a turn of an endpoint that is here
  ends-move : (row : FrontRow) → p.row ≡ Some row → IsBack t → (rest : FrontRest) (stays : ControlBlock → FrontConn) → ((b : ControlBlock) → StageKnown u (stays b)) → (given : Ending × Turn) (calls : List Call)
      → Each IsStill given.1.notes → AllTo (Client env.serve.c) given.1.segments → Goes (Does (record { part = front_rests p row rest stays given.0; turn = turn_here given.1; calls = calls }))
  ends-move row found h rest stays stay given calls notes to =
      let r : RowKnown t (Some row) = row-of row found in
      calm-move (front_rests p row rest stays given.0) (turn_here given.1) [] (held-calm row found h) notes refl refl (subst (λ (c : ℕ). AllTo (Client c) given.1.segments) is.number to)
      (r.0, ap (λ b. b || syn) r.1, go given.0) known.kept where
        go : (e : Ending) → StageKnown u (stage_after stays e)
        go (ending.Here b count) = stay b
        go (ending.Over last) = back-behind t syn es h

  -- it did not come back in an epoch that the front end has not reached
  never-among : (e : ℕ) (row : FrontRow) → p.row ≡ Some row → row.epoch.0 < e → is_among e (t.back ++ es) ≡ false
  never-among e row found later = go (is_among e (t.back ++ es)) refl where
    go : (b : Bool) → is_among e (t.back ++ es) ≡ b → b ≡ false
    go false f = refl
    go true f = let le : IsNoLater e (Some row) = subst (IsNoLater e) found (no_later e f) in absurd (omega (arith, le, later))

  -- it is handed off
  handed-move : (row : FrontRow) → p.row ≡ Some row → IsBack t → IsEarlyEpoch row.epoch.0 → es ≡ []
      → (s : Service) (path : List ℕ) (choice : FirstChoice) (calls : List Call) → Each IsStill s.notes
      → Goes (Does (record { part = (handed_off env row s path choice).0; turn = (handed_off env row s path choice).1; calls = calls }))
  handed-move row found h early none s path choice calls notes =
      let given : FrontPart × FrontTurn = handed_off env row s path choice in
      let e : ℕ = row.epoch.0 in
      let more : List Rec = rec.Admitted env.serve.c ∷ rec.AssignedFirst env.serve.c (s.count + 1) path choice.node choice.add choice.remove ∷ [] in
      let then : Story = record u { node = Some choice.node; away = true; epoch = Some (e + 1) } in
      let small : e + 1 < 2 ^ 16 = omega (arith, early) in
      let r : RowKnown t (Some row) = row-of row found in
      let calm = held-calm row found h in
      turns-move given.0 given.1 [] (e ∷ []) (choice.node ∷ []) [] then (record {
        takes_are = pick-append front_took s.notes more ∙ ap (λ l. l ++ []) (stills-took s.notes notes);
        gives_are = refl;
        firsts_are = pick-append first_node s.notes more ∙ ap (λ l. l ++ choice.node ∷ []) (stills-first s.notes notes);
        forwards_are = ap (λ o. listed o ++ []) (not-forwarded choice.node env.serve.c (e + 1) (body.Offer _) (λ i. cc));
        to = tt;
        tells = ap (λ (v : Story). fold row_step v given.1.gave) (fold-append row_step u s.notes more ∙ ap (λ (v : Story). fold row_step v more) (still-all u s.notes notes));
        first = (no-takes t).0 ∙ calm.first;
        off = inl (refl, spelled-head _ small);
        back = (no-takes t).1 ∙ calm.back;
        up = tt;
        forth = calm.forth;
        row = (r.0, ap (λ b. b || syn) r.1, record { away = refl; epoch = refl; node = refl; back = undone });
        same_back = refl;
        kept = ((e + 1, spelled-head _ small), tt);
      }) where
        -- it did not come back in the next epoch
        undone : is_among (row.epoch.0 + 1) (t.back ++ es) ≡ false
        undone = never-among (row.epoch.0 + 1) row found (omega arith)

  placed-move : (row : FrontRow) → p.row ≡ Some row → IsBack t → IsEarlyEpoch row.epoch.0 → es ≡ []
      → (rest : FrontRest) (s : Service) (path : List ℕ) (f : First) → Each IsStill s.notes
      → Goes (Does (placed env p row rest s path f))
  placed-move row found h early none rest s path (first.Go choice) notes = handed-move row found h early none s path choice (call.First env.serve.c path env.now ∷ []) notes
  placed-move row found h early none rest s path first.Waits notes =
      let w : Service = record s { notes = s.notes ++ rec.Waits env.serve.c ∷ [] } in
      ends-move row found h (record rest { target = Some path }) stage.Waiting (λ b. back-behind t syn es h) (spoken env.serve w []) (call.First env.serve.c path env.now ∷ leaves_by env.serve.c (spoken env.serve w []).0)
      (Each-append IsStill s.notes (rec.Waits env.serve.c ∷ []) notes (tt, tt)) (spoken-to env.serve w [] tt)

  settled-move : (row : FrontRow) → p.row ≡ Some row → IsBack t → IsEarlyEpoch row.epoch.0 → es ≡ [] → (rest : FrontRest) (s : Service) (o : Option (List ℕ))
      → Each IsStill s.notes → Goes (settled_by env p row rest s o)
  settled-move row found h early none rest s None notes =
      let done = settled-is env.serve s in
      ends-move row found h rest stage.Held (λ b. back-behind t syn es h) (serving_settled env.serve s) [] (subst (Each IsStill) (sym done.notes) notes) done.to
  settled-move row found h early none rest s (Some path) notes = placed-move row found h early none rest s path (env.first path) notes

  heard-move : (row : FrontRow) → p.row ≡ Some row → IsBack t → IsEarlyEpoch row.epoch.0 → es ≡ [] → (rest : FrontRest) (b : ControlBlock)
      → Goes (heard env p row rest b)
  heard-move row found h early none rest b =
      let r : Reading = front_reads env.serve (record { service = serving b rest.count []; target = None }) in
      settled-move row found h early none rest r.service r.target (answers-still r.service.notes (reads-answers env.serve (record { service = serving b rest.count []; target = None }) tt))

  -- ---- what is kept is as it was

  -- no row becomes another
  same-row : (p.row ≡ None → syn ≡ false) → ((n e : ℕ) → IsAway t n e → is_among e (t.back ++ es) ≡ false) → RowKnown u p.row
  same-row plain none = row-behind t syn es p.row plain none known.row

  drops-move : Calm [] → RowKnown u p.row → Goes Drops
  drops-move calm row = calm-move p (front_saying []) [] calm tt refl refl tt row known.kept

  says-move : (turn : FrontTurn) (forwards : List (ℕ × List ℕ)) → Calm forwards → RowKnown u p.row → turn.notes ≡ [] → turn.gave ≡ [] → pick forward_to (map (sending Front) turn.messages) ≡ forwards → AllTo (Client x.c) turn.segments
      → Goes (Says turn)
  says-move turn forwards calm row notes none messages to = calm-move p turn forwards calm (subst (Each IsStill) (sym notes) tt) none messages to row known.kept

  -- ---- where nothing brings it back

  module _ (no_back : es ≡ []) where
    comes-none : [] ≡ first_back t es
    comes-none = sym (none-back t) ∙ ap (first_back t) (sym no_back)

    still-away : (n e : ℕ) → IsAway t n e → is_among e (t.back ++ es) ≡ false
    still-away n e h = ap (λ l. is_among e (t.back ++ l)) no_back ∙ ap (is_among e) (append-nil t.back) ∙ h.back

    -- its row stays
    row-stays : (p.row ≡ None → syn ≡ false) → RowKnown u p.row
    row-stays plain = same-row plain still-away

    some-plain : (row : FrontRow) → p.row ≡ Some row → p.row ≡ None → syn ≡ false
    some-plain row found none = let no : Some row ≡ None = sym found ∙ none in absurd cc

    -- what comes is no segment, and no SYN
    nothing-calm : segments ≡ [] → syn ≡ false → Calm []
    nothing-calm no_segments no_syn = record {
      first = sym (no-syn t) ∙ ap (first_syn t) (sym no_syn);
      back = comes-none;
      forth = sym (no-forwards x.c t) ∙ ap (forwards_of x.c t) (sym no_segments);
    }

    pub nothing-drops : segments ≡ [] → syn ≡ false → Goes Drops
    nothing-drops no_segments no_syn = drops-move (nothing-calm no_segments no_syn) (row-stays (λ e. no_syn))

    nothing-says : segments ≡ [] → syn ≡ false → (ms : List (Place × List ℕ)) → pick forward_to (map (sending Front) ms) ≡ [] → Goes (Says (front_saying ms))
    nothing-says no_segments no_syn ms messages = says-move (front_saying ms) [] (nothing-calm no_segments no_syn) (row-stays (λ e. no_syn)) refl refl messages tt

    -- ---- a segment

    -- it is taken first
    begun-move : (s : Segment) → p.row ≡ None → syn ≡ true → Goes (front_begun env p s)
    begun-move s none plain =
        let row : FrontRow = record { stage = stage.Lent; epoch = record { 0 = 1 }; ended_by = None } in
        let w : Service = serving (listening s env.iss) 0 (rec.Took Front env.serve.c (record { 0 = 1 }) ∷ []) in
        let given : Ending × Turn = spoken env.serve w [] in
        let then : Story = record u { took = true; away = false } in
        let r : RowKnown t None = subst (RowKnown t) none known.row in
        let free : first_takes t (1 ∷ []) ≡ 1 ∷ [] = ap (λ b. cond b [] (1 ∷ [])) r.0 in
        let now : first_syn t syn ≡ 1 ∷ [] = λ i. cond (not (r.1 i) && plain i) (1 ∷ []) [] in
        let part : FrontPart = front_rests p row (front_rest None) stage.Held given.0 in
        turns-move part (turn_here given.1) (1 ∷ []) [] [] [] then (record {
          takes_are = refl;
          gives_are = refl;
          firsts_are = refl;
          forwards_are = refl;
          to = subst (λ (c : ℕ). AllTo (Client c) given.1.segments) is.number (spoken-to env.serve w [] tt);
          tells = refl;
          first = free ∙ sym now;
          off = tt;
          back = ap (λ b. cond b (1 ∷ []) []) r.0 ∙ comes-none;
          up = (inl (ap (λ (e : ℕ). e + 1) (sym (first-gave (subst (Sits own nodes) none at_place.sits).0))), tt);
          forth = at-home r.2.away;
          row = (refl, (λ i. r.1 i || plain i), go given.0 (back-behind t syn es r.2));
          same_back = refl;
          kept = known.kept;
        }) where
          go : (e : Ending) → IsBack u → StageKnown (record u { took = true; away = false }) (stage_after stage.Held e)
          go (ending.Here b count) h = record { away = refl; back = h.back }
          go (ending.Over last) h = record { away = refl; back = h.back }

          -- nobody gave it up yet
          first-gave : own ≡ unowned → last_gave x.seen ≡ 0
          first-gave is = gave-last x at_place (ap (λ (w : Owning). w.owner) is) ∙ ap (λ (w : Owning). w.epoch) is

    met-move : (s : Segment) → p.row ≡ None → syn ≡ is_plain_syn s → Goes (met env p s)
    met-move s none plain =
        let r : RowKnown t None = subst (RowKnown t) none known.row in
        cond_both (is_plain_syn s) (front_begun env p s) Drops Goes
        (λ e. begun-move s none (plain ∙ e))
        (λ e.
        let no_syn : syn ≡ false = plain ∙ e in
        drops-move (record { first = sym (no-syn t) ∙ ap (first_syn t) (sym no_syn); back = comes-none; forth = at-home r.2.away }) (row-stays (λ i. no_syn)))

    sits-row : (row : FrontRow) → p.row ≡ Some row → StageSits row.epoch.0 own nodes row.stage
    sits-row row found = let at : Sits own nodes (Some row) = subst (Sits own nodes) found at_place.sits in at.0

    module _ (bytes : List ℕ) (comes : segments ≡ bytes ∷ []) where
      forwards-move : (row : FrontRow) (n : ℕ) (d : Epoch) → p.row ≡ Some row → IsAway t n d.0 → Goes (Says (front_saying ((Node n, message env.serve.c d.0 (body.Forward bytes)) ∷ [])))
      forwards-move row n d found h =
          let turn : FrontTurn = front_saying ((Node n, message env.serve.c d.0 (body.Forward bytes)) ∷ []) in
          let sent : List (ℕ × List ℕ) = (n, message env.serve.c d.0 (body.Forward bytes)) ∷ [] in
          let mine : sent ≡ (n, message x.c d.0 (body.Forward bytes)) ∷ [] = ap (λ (c : ℕ). (n, message c d.0 (body.Forward bytes)) ∷ []) is.number in
          let due : forwards_of x.c t segments ≡ (n, message x.c d.0 (body.Forward bytes)) ∷ [] = λ i. cond (h.away i) (forwards_by x.c (h.node i) (h.epoch i) (comes i)) [] in
          says-move turn sent (record { first = taken-first (row-of row found).1; back = comes-none; forth = mine ∙ sym due }) (row-stays (some-plain row found)) refl refl
          (ap (λ o. listed o ++ []) (forwarded-is n env.serve.c d.0 bytes)) tt

      tombstone-move : (row : FrontRow) → p.row ≡ Some row → IsBack t → (o : Option Segment) → Goes (Says (turn_here (tombstone env.serve o)))
      tombstone-move row found h None = says-move (turn_here (tombstone env.serve None)) [] (record { first = taken-first (row-of row found).1; back = comes-none; forth = at-home h.away }) (row-stays (some-plain row found)) refl refl refl tt
      tombstone-move row found h (Some s) = says-move (turn_here (tombstone env.serve (Some s))) [] (record { first = taken-first (row-of row found).1; back = comes-none; forth = at-home h.away }) (row-stays (some-plain row found)) refl refl refl
          (ap Client is.number, tt)

      hears-at : (s : Segment) (row : FrontRow) → p.row ≡ Some row → (st : FrontConn) → row.stage ≡ st → Goes (hears_at env p row bytes s st)
      hears-at s row found (stage.Held b) at =
          heard-move row found (subst (StageKnown t) at (row-of row found).2) (early-at x at_place row found) no_back (front_rest p.rest) (on_segment b s).1
      hears-at s row found (stage.Waiting b) at =
          let w : Service = serving (on_segment b s).1 (front_rest p.rest).count [] in
          let h : IsBack t = subst (StageKnown t) at (row-of row found).2 in
          ends-move row found h (front_rest p.rest) stage.Waiting (λ c. back-behind t syn es h) (spoken env.serve w []) (leaves_by env.serve.c (spoken env.serve w []).0) tt (spoken-to env.serve w [] tt)
      hears-at s row found stage.Lent at = let sits : StageSits row.epoch.0 own nodes stage.Lent = subst (StageSits row.epoch.0 own nodes) at (sits-row row found) in absurd sits
      hears-at s row found (stage.Offering n d) at = forwards-move row n d found (subst (StageKnown t) at (row-of row found).2)
      hears-at s row found (stage.Moved n d) at = forwards-move row n d found (subst (StageKnown t) at (row-of row found).2)
      hears-at s row found (stage.Closed last) at = tombstone-move row found (subst (StageKnown t) at (row-of row found).2) (last_words last.reason last s)

      pub hears-move : (s : Segment) → syn ≡ is_plain_syn s → (o : Option FrontRow) → p.row ≡ o → Goes (front_hears env p bytes s o)
      hears-move s plain None found = met-move s found plain
      hears-move s plain (Some row) found = hears-at s row found row.stage refl

    -- ---- no segment comes

    module _ (no_segments : segments ≡ []) (no_syn : syn ≡ false) where
      held-in : (row : FrontRow) (st : FrontConn) → IsInStage p row st → StageKnown t st
      held-in row st at = subst (StageKnown t) at.1 (row-of row at.0).2

      -- a Taken: it is where it was offered
      taken-row : (row : FrontRow) (n : ℕ) (d : Epoch) (epoch : ℕ) → p.row ≡ Some row → row.stage ≡ stage.Offering n d → d.0 ≡ epoch → Goes (taken_by p epoch (Some row) (Some n))
      taken-row row n d epoch found at same =
          let part : FrontPart = record p { row = Some (record row { stage = stage.Moved n (record { 0 = epoch }) }); kept = without timer.Offer 0 p.kept } in
          let r : RowKnown t (Some row) = row-of row found in
          let h : IsAway t n d.0 = subst (StageKnown t) at r.2 in
          let away : IsAway u n d.0 = record { away = h.away; epoch = h.epoch; node = h.node; back = still-away n d.0 h } in
          calm-move part (front_saying []) [] (nothing-calm no_segments no_syn) tt refl refl tt (r.0, ap (λ b. b || syn) r.1, subst (IsAway u n) same away) (without-kept p.kept known.kept)

      -- an Ask
      tag-none : (n epoch number : ℕ) (tags : List ℕ) → pick forward_to (map (sending Front) (tag_sent env n epoch number tags)) ≡ []
      tag-none n epoch number tags = ap (λ o. listed o ++ []) (not-forwarded n env.serve.c epoch (body.Tag number tags) (λ i. cc))

      assigns-move : (rest : FrontRest) (n epoch : ℕ) (ask : Ask) (l : Later) → Goes (Does (assigns env p rest n epoch ask l))
      assigns-move rest n epoch ask l =
          let did : Did = assigns env p rest n epoch ask l in
          calm-move did.part did.turn [] (nothing-calm no_segments no_syn)
          (Each-append IsStill (over_note env.serve.c l.over) (assigned_notes env.serve.c ask rest.assigned ask.paths l.choices) (over-still env.serve.c l.over) (assigned-still env.serve.c ask rest.assigned ask.paths l.choices))
          refl (tag-none n epoch ask.number _) tt (row-stays (λ e. no_syn)) known.kept

      -- whatever comes
      by-rules : KeptByFront env p IsCalm (λ w o. Unit {0}) Goes
      by-rules = record {
        drops = nothing-drops no_segments no_syn;
        hears = λ bytes s no. absurd no;
        fires = λ m. record {
          drops = nothing-drops no_segments no_syn;
          holds = λ row b at.
              let h : IsBack t = held-in row (stage.Held b) at in
              ends-move row at.0 h (front_rest p.rest) stage.Held (λ c. back-behind t syn es h) (front_fired env (front_rest p.rest) b) [] tt (spoken-to env.serve (fired_service p b) (fired_before env b) (ready-to env.serve (after_timer b) (timed b)));
          stays = λ row b at.
              let h : IsBack t = held-in row (stage.Waiting b) at in
              let given : Ending × Turn = front_fired env (front_rest p.rest) b in
              ends-move row at.0 h (front_rest p.rest) stage.Waiting (λ c. back-behind t syn es h) given (leaves_by env.serve.c given.0) tt (spoken-to env.serve (fired_service p b) (fired_before env b) (ready-to env.serve (after_timer b) (timed b)));
          resends = λ row n d at. nothing-says no_segments no_syn (map sent_of p.kept) (resent-none p.kept known.kept);
        };
        takes = λ n epoch m row node d at same. taken-row row node d epoch at.0 at.1 same;
        tags_again = λ n epoch ask m rest found there same some.
            nothing-says no_segments no_syn (tag_sent env n epoch rest.asks rest.tag) (tag-none n epoch rest.asks rest.tag);
        assigns_next = λ n epoch ask m rest found there next. assigns-move rest n epoch ask (env.later ask);
        ends_again = λ n epoch last no row found away again. absurd no;
        ends = λ n epoch last no row found away. absurd no;
        gives_again = λ n epoch parts no row found past. absurd no;
        returns = λ n epoch given no row parts at. absurd no;
        admits = λ choice made met row b path at target.
            handed-move row at.0 (held-in row (stage.Waiting b) at) (early-at x at_place row at.0) no_back
            (serving b (front_rest p.rest).count []) path choice [] tt;
      }

      pub rule-move : (g : FrontGets) → IsCalm g → IsAsGiven env p g → Goes (front_rule env p g)
      rule-move g calm is = front-keeps env p IsCalm (λ w o. Unit {0}) Goes by-rules g is calm

  -- ---- an Ended comes

  module _ (n epoch : ℕ) (comes : es ≡ epoch ∷ []) (no_segments : segments ≡ []) (no_syn : syn ≡ false) where
    abbrev due_in : Option ℕ → List ℕ
    due_in o = elim o as (λ q. List ℕ) [ None ↦ [] | Some e ↦ cond (not (is_among e t.back) && is_among e (epoch ∷ [])) ((e + 1) ∷ []) [] ]

    due-is : first_back t es ≡ due_in t.epoch
    due-is = ap (first_back t) comes

    no-away : IsBack t → (m e : ℕ) → IsAway t m e → (P : Type 0) → P
    no-away h m e a P = absurd (both_ways t.away h.away a.away)

    -- it is away in another epoch
    other-among : (d : Epoch) → (d.0 == epoch) ≡ false → is_among d.0 (epoch ∷ []) ≡ false
    other-among d e = ap (λ b. b || false) (go (epoch == d.0) refl) where
      go : (b : Bool) → (epoch == d.0) ≡ b → b ≡ false
      go false f = refl
      go true f = absurd (both_ways (d.0 == epoch) e (eq-eqb d.0 epoch (sym (eqb-true epoch d.0 f))))

    other-back : (m : ℕ) (d : Epoch) → IsAway t m d.0 → (d.0 == epoch) ≡ false → [] ≡ first_back t es
    other-back m d h e =
        let o : due_in t.epoch ≡ cond (not (is_among d.0 t.back) && is_among d.0 (epoch ∷ [])) ((d.0 + 1) ∷ []) [] = ap due_in h.epoch in
        sym (due-is ∙ o ∙ (λ i. cond (not (h.back i) && other-among d e i) ((d.0 + 1) ∷ []) []))

    -- the stage is not away in this epoch
    stays-back : (st : FrontConn) → StageKnown t st → is_away epoch st ≡ false → [] ≡ first_back t es
    stays-back (stage.Held b) h e = was-back h
    stays-back (stage.Waiting b) h e = was-back h
    stays-back stage.Lent h e = was-back h
    stays-back (stage.Offering m d) h e = other-back m d h e
    stays-back (stage.Moved m d) h e = other-back m d h e
    stays-back (stage.Closed last) h e = was-back h

    away-same : (m i d e : ℕ) → IsAway t m d → IsAway t i e → d ≡ e
    away-same m i d e a b = some-same d e (sym a.epoch ∙ b.epoch) where
      some-same : (d e : ℕ) → Some d ≡ Some e → d ≡ e
      some-same d e f = cc

    among-behind : (e : ℕ) → is_among e t.back ≡ false → is_among e (epoch ∷ []) ≡ false → is_among e (t.back ++ es) ≡ false
    among-behind e a b = ap (λ l. is_among e (t.back ++ l)) comes ∙ list_any-append (λ d. d == e) t.back (epoch ∷ []) ∙ (λ i. a i || b i)

    stays-away : (st : FrontConn) → StageKnown t st → is_away epoch st ≡ false → (i e : ℕ) → IsAway t i e → is_among e (t.back ++ es) ≡ false
    stays-away (stage.Held b) h f i e a = no-away h i e a _
    stays-away (stage.Waiting b) h f i e a = no-away h i e a _
    stays-away stage.Lent h f i e a = no-away h i e a _
    stays-away (stage.Offering m d) h f i e a = subst (λ (j : ℕ). is_among j (t.back ++ es) ≡ false) (away-same m i d.0 e h a) (among-behind d.0 h.back (other-among d f))
    stays-away (stage.Moved m d) h f i e a = subst (λ (j : ℕ). is_among j (t.back ++ es) ≡ false) (away-same m i d.0 e h a) (among-behind d.0 h.back (other-among d f))
    stays-away (stage.Closed last) h f i e a = absurd (both_ways t.away h.away a.away)

    no-forth : [] ≡ forwards_of x.c t segments
    no-forth = sym (no-forwards x.c t) ∙ ap (forwards_of x.c t) (sym no_segments)

    plain-first : [] ≡ first_syn t syn
    plain-first = sym (no-syn t) ∙ ap (first_syn t) (sym no_syn)

    -- of one that nobody took
    unknown-drops : p.row ≡ None → Goes Drops
    unknown-drops none =
        let r : RowKnown t None = subst (RowKnown t) none known.row in
        drops-move (record { first = plain-first; back = was-back r.2; forth = no-forth }) (same-row (λ e. no_syn) (λ m e a. no-away r.2 m e a _))

    stays-calm : (row : FrontRow) → p.row ≡ Some row → is_away epoch row.stage ≡ false → Calm [] × RowKnown u p.row
    stays-calm row found other =
        let r : RowKnown t (Some row) = row-of row found in
        (record { first = plain-first; back = stays-back row.stage r.2 other; forth = no-forth }, same-row (λ e. no_syn) (stays-away row.stage r.2 other))

    come-now : (e : ℕ) → epoch ≡ e → is_among e (t.back ++ es) ≡ true
    come-now e is = ap (λ l. is_among e (t.back ++ l)) comes ∙ list_any-append (λ d. d == e) t.back (epoch ∷ [])
        ∙ ap (λ b. is_among e t.back || (b || false)) (eq-eqb epoch e is) ∙ or-true (is_among e t.back)

    ack-none : pick forward_to (map (sending Front) (ack_sent env n epoch)) ≡ []
    ack-none = ap (λ o. listed o ++ []) (not-forwarded n env.serve.c epoch body.EndedAck (λ i. cc))

    -- it ended where it is away
    away-ends : (last : Final) (row : FrontRow) → p.row ≡ Some row → (m : ℕ) (d : Epoch) → IsAway t m d.0 → d.0 ≡ epoch → row.epoch.0 ≡ d.0 → own.epoch ≡ row.epoch.0 → Goes (Does (front_ends env p n epoch last row (next_epoch row)))
    away-ends last row found m d h same at taken help =
        let did : Did = front_ends env p n epoch last row (next_epoch row) in
        let next : List ℕ = (row.epoch.0 + 1) ∷ [] in
        let then : Story = record u { took = true; away = false } in
        let r : RowKnown t (Some row) = row-of row found in
        let one : is_among d.0 (epoch ∷ []) ≡ true = ap (λ b. b || false) (eq-eqb epoch d.0 (sym same)) in
        let due : due_in t.epoch ≡ (d.0 + 1) ∷ [] = ap due_in h.epoch ∙ (λ i. cond (not (h.back i) && one i) ((d.0 + 1) ∷ []) []) in
        turns-move did.part did.turn next [] [] [] then (record {
          takes_are = refl;
          gives_are = refl;
          firsts_are = refl;
          forwards_are = ack-none;
          to = tt;
          tells = refl;
          first = ap (λ b. cond b [] next) r.0 ∙ taken-first r.1;
          off = tt;
          back = ap (λ b. cond b next []) r.0 ∙ ap (λ (e : ℕ). (e + 1) ∷ []) at ∙ sym (due-is ∙ due);
          up = (inl (ap (λ (e : ℕ). e + 1) (sym (gave-last x at_place help.owes.rows.0.2 ∙ taken))), tt);
          forth = no-forth;
          row = (refl, ap (λ b. b || syn) r.1, record { away = refl; back = λ e some. come-now e (sym same ∙ some-same d.0 e (sym h.epoch ∙ some)) });
          same_back = refl;
          kept = without-kept p.kept known.kept;
        }) help where
          some-same : (d e : ℕ) → Some d ≡ Some e → d ≡ e
          some-same d e f = cc

    away-by : IsDecided epoch (nodes n).row → (last : Final) (row : FrontRow) → p.row ≡ Some row → (st : FrontConn) → row.stage ≡ st
        → is_away epoch st ≡ true → StageSits row.epoch.0 own nodes st → Goes (Does (front_ends env p n epoch last row (next_epoch row)))
    away-by decided last row found (stage.Offering m d) at away sits =
        let same : d.0 ≡ epoch = eqb-true d.0 epoch away in
        away-ends last row found m d (subst (StageKnown t) at (row-of row found).2) same (sym sits.1)
        (there-epoch m row.epoch.0 own (nodes m).row (decided-there m row.epoch.0 own nodes sits.2 n sits.3 (subst (λ (e : ℕ). IsDecided e (nodes n).row) (sym same ∙ sits.1) decided)))
    away-by decided last row found (stage.Moved m d) at away sits =
        away-ends last row found m d (subst (StageKnown t) at (row-of row found).2) (eqb-true d.0 epoch away) (sym sits.1) (there-epoch m row.epoch.0 own (nodes m).row sits.3)
    away-by decided last row found _ at away sits = let no : false ≡ true = away in absurd cc

    ended-row : IsDecided epoch (nodes n).row → (last : Final) (row : FrontRow) → p.row ≡ Some row
        → Goes (front_ended_by env p n epoch last (Some row) (end_answer epoch (Some row)))
    ended-row decided last row found = go (is_away epoch row.stage) refl (ended_with epoch row.ended_by) where
      go : (a : Bool) → is_away epoch row.stage ≡ a → (b : Bool) → Goes (front_ended_by env p n epoch last (Some row) (cond a (New (next_epoch row)) (cond b Again Stale)))
      go true e b = away-by decided last row found row.stage refl e (let at : Sits own nodes (Some row) = subst (Sits own nodes) found at_place.sits in at.0)
      go false e true = let calm = stays-calm row found e in says-move (front_saying (ack_sent env n epoch)) [] calm.0 calm.1 refl refl ack-none tt
      go false e false = let calm = stays-calm row found e in drops-move calm.0 calm.1

    ended-by : IsDecided epoch (nodes n).row → (last : Final) (o : Option FrontRow) → p.row ≡ o
        → Goes (front_ended_by env p n epoch last o (end_answer epoch o))
    ended-by decided last None found = unknown-drops found
    ended-by decided last (Some row) found = ended-row decided last row found

    pub ended-move : IsDecided epoch (nodes n).row → (last : Final) → Goes (front_ended env p n epoch last)
    ended-move decided last = ended-by decided last p.row refl

    -- ---- a Refused comes

    -- it was offered there, and is here again: it reads on in the same step
    module _ (row : FrontRow) (parts : EndpointParts) (found : p.row ≡ Some row) (d : Epoch) (h : IsAway t n d.0) (same : d.0 ≡ epoch) (at : row.epoch.0 ≡ epoch) (early : IsEarlyEpoch epoch)
        (free : own.owner ≡ None) (behind : own.epoch + 1 ≡ epoch) (refused : is_among epoch (picked refused_in heads) ≡ true) where
      abbrev next : List ℕ
      next = (row.epoch.0 + 1) ∷ []

      abbrev home : FrontRow
      home = returned_row parts row

      abbrev noted : List Rec
      noted = back_notes env.serve.c row

      abbrev back_then : Story
      back_then = record u { took = true; away = false }

      r : RowKnown t (Some row)
      r = row-of row found

      some-same : (e f : ℕ) → Some e ≡ Some f → e ≡ f
      some-same e f is = cc

      is-back : IsBack back_then
      is-back = record { away = refl; back = λ e some. come-now e (sym same ∙ some-same d.0 e (sym h.epoch ∙ some)) }

      first-now : first_takes t next ≡ first_syn t syn
      first-now = ap (λ b. cond b [] next) r.0 ∙ taken-first r.1

      back-now : later_takes t next ≡ first_back t es
      back-now =
          let one : is_among d.0 (epoch ∷ []) ≡ true = ap (λ b. b || false) (eq-eqb epoch d.0 (sym same)) in
          let due : due_in t.epoch ≡ (d.0 + 1) ∷ [] = ap due_in h.epoch ∙ (λ i. cond (not (h.back i) && one i) ((d.0 + 1) ∷ []) []) in
          ap (λ b. cond b next []) r.0 ∙ ap (λ (e : ℕ). (e + 1) ∷ []) (at ∙ sym same) ∙ sym (due-is ∙ due)

      -- two epochs behind the one in which the front end gave it up
      up-now : (part : FrontPart) (turn : FrontTurn) → AreNextUp x (move part turn) next
      up-now part turn =
          let gave : last_gave x.seen ≡ own.epoch = gave-last x at_place free in
          let among : is_among epoch (picked refused_in (seen_in x (move part turn))) ≡ true =
          ap (is_among epoch) (picked-append refused_in heads (map Row (rows_of x (move part turn))))
          ∙ among-more epoch (picked refused_in heads) (picked refused_in (map Row (rows_of x (move part turn)))) refused in
          let between : epoch ≡ last_gave x.seen + 1 = omega (arith, gave, behind) in
          (inr (omega (arith, gave, behind, at), subst (λ (e : ℕ). is_among e (picked refused_in (seen_in x (move part turn))) ≡ true) between among), tt)

      -- it goes on here, or ends
      rests-back : (rest : FrontRest) (stays : ControlBlock → FrontConn) → ((b : ControlBlock) → StageKnown back_then (stays b))
          → (given : Ending × Turn) (calls : List Call)
          → Each IsStill given.1.notes → AllTo (Client env.serve.c) given.1.segments
          → Goes (does_first noted [] (Does (record { part = front_rests (back_part p row parts) home rest stays given.0; turn = turn_here given.1; calls = calls })))
      rests-back rest stays stay given calls notes to =
          let part : FrontPart = front_rests (back_part p row parts) home rest stays given.0 in
          let turn : FrontTurn = stands_first noted [] (turn_here given.1) in
          turns-move part turn next [] [] [] back_then (record {
            takes_are = ap (λ l. (row.epoch.0 + 1) ∷ l) (stills-took given.1.notes notes);
            gives_are = refl;
            firsts_are = stills-first given.1.notes notes;
            forwards_are = refl;
            to = subst (λ (c : ℕ). AllTo (Client c) given.1.segments) is.number to;
            tells = still-all back_then given.1.notes notes;
            first = first-now;
            off = tt;
            back = back-now;
            up = up-now part turn;
            forth = no-forth;
            row = (refl, ap (λ b. b || syn) r.1, go given.0);
            same_back = refl;
            kept = without-kept p.kept known.kept;
          }) where
            go : (e : Ending) → StageKnown back_then (stage_after stays e)
            go (ending.Here b count) = stay b
            go (ending.Over last) = is-back

      -- it is handed off again, in the epoch behind
      hands-back : (s : Service) (path : List ℕ) (choice : FirstChoice) (calls : List Call) → Each IsStill s.notes
          → Goes (does_first noted [] (Does (record { part = (handed_off env home s path choice).0; turn = (handed_off env home s path choice).1; calls = calls })))
      hands-back s path choice calls notes =
          let given : FrontPart × FrontTurn = handed_off env home s path choice in
          let turn : FrontTurn = stands_first noted [] given.1 in
          let e : ℕ = row.epoch.0 + 1 in
          let more : List Rec = rec.Admitted env.serve.c ∷ rec.AssignedFirst env.serve.c (s.count + 1) path choice.node choice.add choice.remove ∷ [] in
          let gone : Story = record back_then { node = Some choice.node; away = true; epoch = Some (e + 1) } in
          let small : e + 1 < 2 ^ 16 = omega (arith, early, at) in
          turns-move given.0 turn next (e ∷ []) (choice.node ∷ []) [] gone (record {
            takes_are = ap (λ l. e ∷ l) (pick-append front_took s.notes more ∙ ap (λ l. l ++ []) (stills-took s.notes notes));
            gives_are = refl;
            firsts_are = pick-append first_node s.notes more ∙ ap (λ l. l ++ choice.node ∷ []) (stills-first s.notes notes);
            forwards_are = ap (λ o. listed o ++ []) (not-forwarded choice.node env.serve.c (e + 1) (body.Offer _) (λ i. cc));
            to = tt;
            tells = ap (λ (v : Story). fold row_step v given.1.gave)
                (fold-append row_step back_then s.notes more ∙ ap (λ (v : Story). fold row_step v more) (still-all back_then s.notes notes));
            first = first-now;
            off = inl (refl, spelled-head _ small);
            back = back-now;
            up = up-now given.0 turn;
            forth = no-forth;
            row = (refl, ap (λ b. b || syn) r.1, record { away = refl; epoch = refl; node = refl; back = never-among (e + 1) row found (omega arith) });
            same_back = refl;
            kept = ((e + 1, spelled-head _ small), tt);
          })

      placed-back : (rest : FrontRest) (s : Service) (path : List ℕ) (f : First) → Each IsStill s.notes
          → Goes (does_first noted [] (Does (placed env (back_part p row parts) home rest s path f)))
      placed-back rest s path (first.Go choice) notes = hands-back s path choice (call.First env.serve.c path env.now ∷ []) notes
      placed-back rest s path first.Waits notes =
          let w : Service = record s { notes = s.notes ++ rec.Waits env.serve.c ∷ [] } in
          rests-back (record rest { target = Some path }) stage.Waiting (λ b. is-back) (spoken env.serve w []) (call.First env.serve.c path env.now ∷ leaves_by env.serve.c (spoken env.serve w []).0)
          (Each-append IsStill s.notes (rec.Waits env.serve.c ∷ []) notes (tt, tt)) (spoken-to env.serve w [] tt)

      settled-back : (rest : FrontRest) (s : Service) (o : Option (List ℕ)) → Each IsStill s.notes
          → Goes (does_first noted [] (settled_by env (back_part p row parts) home rest s o))
      settled-back rest s None notes =
          let done = settled-is env.serve s in
          rests-back rest stage.Held (λ b. is-back) (serving_settled env.serve s) [] (subst (Each IsStill) (sym done.notes) notes) done.to
      settled-back rest s (Some path) notes = placed-back rest s path (env.first path) notes

      reads-back : Goes (does_first noted [] (reads_on env p row parts))
      reads-back =
          let x0 : Reading = record { service = serving (adopted parts) parts.served []; target = None } in
          let y : Reading = front_reads env.serve x0 in
          settled-back (back_rest parts) y.service y.target (answers-still y.service.notes (reads-answers env.serve x0 tt))

    -- what is known of a Refused: where the connection was offered in its epoch, it was offered to the node that says so and is nobody's, and the
    -- Offer that is kept is read
    pub record IsTurnedDown : Type 0 where
      pub told : IsRefusalTold x.part n epoch
      pub refused : is_among epoch (picked refused_in heads) ≡ true
      pub parts : EndpointParts
      pub read : parts_kept p.kept ≡ Some parts

    module _ (down : IsTurnedDown) where
      not-with : (st : FrontConn) → is_away epoch st ≡ false → is_with n epoch st ≡ false
      not-with (stage.Offering m d) e = ap (λ b. (m == n) && b) e ∙ and-false (m == n)
      not-with (stage.Moved m d) e = ap (λ b. (m == n) && b) e ∙ and-false (m == n)
      not-with _ e = refl

      abbrev Comes : FrontRow → Bool → Type 0
      Comes row b = Goes (returned_by env p [] (Some row) (cond b (refused_answer epoch (Some row)) back.Stale) (parts_kept p.kept))

      -- it is away in this epoch: so it was offered to that node
      offered-here : (row : FrontRow) (st : FrontConn) → p.row ≡ Some row → row.stage ≡ st → is_away epoch st ≡ true → StageSits row.epoch.0 own nodes st
          → Offers n epoch st
      offered-here row st found at away sits = ⊎_elim
          (λ (ended : HasEnded epoch p.row). absurd (let less : HasEnded epoch (Some row) = subst (HasEnded epoch) found ended in past st away sits less))
          (λ (offered : IsOffered n epoch p.row). subst (Offers n epoch) at (subst (IsOffered n epoch) found offered))
          down.told.1 where
            past : (st : FrontConn) → is_away epoch st ≡ true → StageSits row.epoch.0 own nodes st → epoch < row.epoch.0 → ⊥
            past (stage.Offering m d) away sits less = let same : d.0 ≡ epoch = eqb-true d.0 epoch away in let now = sits.1 in omega (arith, same, now, less)
            past (stage.Moved m d) away sits less = let same : d.0 ≡ epoch = eqb-true d.0 epoch away in let now = sits.1 in omega (arith, same, now, less)
            past _ away sits less = let no : false ≡ true = away in absurd cc

      comes-here : (row : FrontRow) (d : Epoch) → p.row ≡ Some row → row.stage ≡ stage.Offering n d → d.0 ≡ epoch → Comes row (is_with n epoch row.stage)
      comes-here row d found at same =
          let sits : StageSits row.epoch.0 own nodes (stage.Offering n d) = subst (StageSits row.epoch.0 own nodes) at (subst (Sits own nodes) found at_place.sits).0 in
          let now : row.epoch.0 ≡ epoch = sym sits.1 ∙ same in
          let coming : IsComing epoch own (nodes n).row = coming-refused n epoch own (nodes n)
          (subst (λ (e : ℕ). IsComing e own (nodes n).row ⊎ IsThere n e own (nodes n).row) now sits.3) down.told.0 in
          let known_away : IsAway t n d.0 = subst (StageKnown t) at (row-of row found).2 in
          let goes = reads-back row down.parts found d known_away same now (subst IsEarlyEpoch now (early-at x at_place row found)) coming.0 coming.1 down.refused in
          let with : is_with n epoch row.stage ≡ true = ap (is_with n epoch) at ∙ (λ i. eq-eqb n n refl i && eq-eqb d.0 epoch same i) in
          let to : offered_to epoch row.stage ≡ Some n = ap (offered_to epoch) at ∙ ap (λ b. cond b (Some n) None) (eq-eqb d.0 epoch same) in
          subst Goes (sym ((λ i. returned_by env p [] (Some row) (cond (with i) (refused_answer epoch (Some row)) back.Stale) (down.read i))
          ∙ (λ i. returned_by env p [] (Some row) (cond (is_some (to i)) (back.New (next_epoch row)) back.Stale) (Some down.parts)))) goes

      comes-by : (row : FrontRow) → p.row ≡ Some row → (st : FrontConn) → row.stage ≡ st → Offers n epoch st → Comes row (is_with n epoch row.stage)
      comes-by row found (stage.Offering m d) at offers = comes-here row d found (subst (λ (j : ℕ). row.stage ≡ stage.Offering j d) offers.0 at) offers.1
      comes-by row found _ at offers = absurd offers

      refused-row : (row : FrontRow) → p.row ≡ Some row → Comes row (is_with n epoch row.stage)
      refused-row row found = go (is_away epoch row.stage) refl where
        go : (a : Bool) → is_away epoch row.stage ≡ a → Comes row (is_with n epoch row.stage)
        go false e = subst (Comes row) (sym (not-with row.stage e)) (let calm = stays-calm row found e in drops-move calm.0 calm.1)
        go true e = comes-by row found row.stage refl (offered-here row row.stage found refl e (subst (Sits own nodes) found at_place.sits).0)

      refused-by : (o : Option FrontRow) → p.row ≡ o → Goes (returned_by env p [] o (back_answer n epoch None o) (parts_kept p.kept))
      refused-by None found = unknown-drops found
      refused-by (Some row) found = refused-row row found

      pub refused-move : Goes (front_returned env p n epoch None)
      refused-move = refused-by p.row refl
