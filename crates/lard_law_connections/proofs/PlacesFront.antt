-- What each rule of the front end owes.
use Rattle.std.proofs.Common.{◌≡◌, ℕ, ◌+◌, List, [], ◌∷◌, ◌++◌, ◌^◌, ◌<◌, ◌≤◌, map, Option, Some, None, inl, inr, ⊎_elim, refl, sym, ap, ◌∙◌, subst, arith}
use Rattle.std.proofs.lemmas.List.Sums.{fold-append}
use Rattle.std.specs.List.{fold}
use Rattle.lard_law_view.specs.Prelude.{Call, Client, Conn, ControlBlock, EachRow, Ending, First, Front, FrontConn, FrontEnv, FrontPart, FrontRest, FrontRow, IsMachine, Node, Part, Place, Seen, Service, Turn, TurnSaid, by_front, front_does, front_rests, front_saying, holds, leaves_by, letter, next_epoch, nothing_said, placed, Rec, seen_step, serving_settled, spoken, stage_after, tale_at, tale_step, turn_here, with_front}
use Rattle.lard_law_connections.specs.Places.{EndedBefore, IsEven, IsHome, IsOdd, IsPast, LetterMay, MaySay, Offers, Owning, Sits, StageSits, message_head, owning, unowned}
use Rattle.lard_law_connections.proofs.PlacesGrowing.{FrontGrows, back-still, front-still, past-later}
use Rattle.lard_law_connections.proofs.PlacesHeads.{spelled-head}
use Rattle.lard_law_connections.proofs.PlacesLoops.{settled-is, spoken-to}
use Rattle.lard_law_connections.proofs.PlacesRows.{IsPlain, MayStand, OwnsBy, after_all, owns-append, plain-after, plain-owns}
use Rattle.lard_law_connections.proofs.PlacesTurns.{IsPlaced, Owes, Turned, early-at, timers-plain, turned-after, turned-owns}
use Rattle.lard_dispatch.specs.declared.dispatch.First.TheVariants as first
use Rattle.lard_dispatch.specs.Laws as call
use Rattle.lard_rules.proofs.FrontCases.{IsInStage, of-stage}
use Rattle.lard_rules.specs.Front.{Drops, Says, Does, does_first, stands_first}
use Rattle.lard_handoff_front.specs.declared.row.FrontConn.TheVariants as stage
use Rattle.lard_history.proofs.Each.{Each, Each-append}
use Rattle.lard_journal.specs.declared.rec.Rec.TheVariants as rec
use Rattle.lard_rules.specs.declared.places.Ending.TheVariants as ending
use Rattle.lard_law_view.proofs.EndpointSends.{AllTo}
use Rattle.lard_law_view.proofs.RowLists.{MayBeSeen}

-- ---- what is seen before the notes

-- it may stand, and leaves who owns the connection
pub record IsQuiet (x : Conn) (heads : List Seen) : Type 0 where
  pub may : EachRow (MayBeSeen (MayStand x.c) x.c) x.seen heads
  pub same : owning (fold (seen_step (tale_step x.c)) (tale_at x) heads) ≡ owning (tale_at x)

-- ---- where it is at the front end

-- Behind its notes the front end owns it so, in the epoch of this row.
pub record IsHomeAt (x : Conn) (row : FrontRow) (v : Owning) : Type 0 where
  pub odd : IsOdd row.epoch.0
  pub small : row.epoch.0 + 1 < 2 ^ 16
  pub home : IsHome row.epoch.0 v x.part.nodes
  pub ended : EndedBefore row.epoch.0 row.ended_by
  pub grows : (next : FrontRow) → row.epoch.0 ≤ next.epoch.0 → FrontGrows x.part.nodes x.part.front.row (Some next)

-- what is said of its row in a stage
pub sits-in : (x : Conn) → IsPlaced x → (row : FrontRow) (st : FrontConn) → IsInStage x.part.front row st
    → StageSits row.epoch.0 (owning (tale_at x)) x.part.nodes st × EndedBefore row.epoch.0 row.ended_by
sits-in x placed row st at = of-stage (Sits (owning (tale_at x)) x.part.nodes) x.part.front row st at placed.sits

-- nothing is offered that is here
here-grows : (x : Conn) (row : FrontRow) (st : FrontConn) → IsInStage x.part.front row st → ((n e : ℕ) → Offers n e st → ⊥) → (next : FrontRow)
    → row.epoch.0 ≤ next.epoch.0
    → FrontGrows x.part.nodes x.part.front.row (Some next)
here-grows x row st at none next le = subst (λ (o : Option FrontRow). FrontGrows x.part.nodes o (Some next)) (sym at.0)
    (le, λ n e offers. absurd (none n e (subst (Offers n e) at.1 offers)))

-- it is held, or waits
pub held-home : (x : Conn) → IsPlaced x → (row : FrontRow) (b : ControlBlock) → IsInStage x.part.front row (stage.Held b) → IsHomeAt x row (owning (tale_at x))
held-home x placed row b at =
    let h = sits-in x placed row (stage.Held b) at in
    let early = early-at x placed row at.0 in
    record { odd = h.0.0; small = omega (arith, early); home = h.0.1; ended = h.1; grows = here-grows x row (stage.Held b) at (λ n e o. o) }

pub waits-home : (x : Conn) → IsPlaced x → (row : FrontRow) (b : ControlBlock) → IsInStage x.part.front row (stage.Waiting b)
    → IsHomeAt x row (owning (tale_at x))
waits-home x placed row b at =
    let h = sits-in x placed row (stage.Waiting b) at in
    let early = early-at x placed row at.0 in
    record { odd = h.0.0; small = omega (arith, early); home = h.0.1; ended = h.1; grows = here-grows x row (stage.Waiting b) at (λ n e o. o) }

-- who owns it where the front end reads on: a connection that was away is taken in the next epoch
abbrev pub reading_epoch : ℕ → FrontConn → ℕ
reading_epoch e (stage.Offering n d) = e + 1
reading_epoch e (stage.Moved n d) = e + 1
reading_epoch e _ = e

abbrev pub reader : Option FrontRow → Owning
reader None = unowned
reader (Some row) = record { owner = Some Front; epoch = reading_epoch row.epoch.0 row.stage }

pub reader-in : (x : Conn) (row : FrontRow) (st : FrontConn) → IsInStage x.part.front row st
    → reader x.part.front.row ≡ record { owner = Some Front; epoch = reading_epoch row.epoch.0 st }
reader-in x row st at = ap reader at.0 ∙ ap (λ (q : FrontConn). record { owner = Some Front; epoch = reading_epoch row.epoch.0 q }) at.1

-- these notes may stand, and behind them it is owned so
abbrev pub Leads : Conn → Owning → List Rec → Type 0
Leads x v ns = OwnsBy x.c (owning (tale_at x)) ns × (after_all (owning (tale_at x)) ns ≡ v)

pub leads-more : (x : Conn) (v : Owning) (ns rs : List Rec) → Each IsPlain rs → Leads x v ns → Leads x v (ns ++ rs)
leads-more x v ns rs plain h =
    let w : Owning = owning (tale_at x) in
    (owns-append x.c w ns rs h.0 (plain-owns x.c (after_all w ns) rs plain), fold-append _ w ns rs ∙ plain-after (after_all w ns) rs plain ∙ h.1)

pub plain-leads : (x : Conn) (ns : List Rec) → Each IsPlain ns → Leads x (owning (tale_at x)) ns
plain-leads x ns plain = (plain-owns x.c (owning (tale_at x)) ns plain, plain-after (owning (tale_at x)) ns plain)

-- ---- packets

pub segment-letters : (q : Part) (place : Place) (c : ℕ) (ss : List (Place × List ℕ)) → AllTo (Client c) ss → Each (LetterMay q) (map (letter place) ss)
segment-letters q place c [] to = tt
segment-letters q place c (s ∷ ss) to = (subst (λ (p : Place). MaySay q place p (message_head s.1)) (sym to.0) (one place), segment-letters q place c ss to.1) where
  one : (place : Place) → MaySay q place (Client c) (message_head s.1)
  one Front = tt
  one (Node n) = tt
  one (Client d) = tt

pub none-letters : (q : Part) (place : Place) (ss : List (Place × List ℕ)) → ss ≡ [] → Each (LetterMay q) (map (letter place) ss)
none-letters q place ss none = subst (λ (l : List (Place × List ℕ)). Each (LetterMay q) (map (letter place) l)) (sym none) tt

-- what a message says, where it goes
abbrev pub Tells : Part → Place → Place × List ℕ → Type 0
Tells q place m = MaySay q place m.0 (message_head m.1)

pub message-letters : (q : Part) (place : Place) (ms : List (Place × List ℕ)) → Each (Tells q place) ms → Each (LetterMay q) (map (letter place) ms)
message-letters q place [] h = tt
message-letters q place (m ∷ ms) h = (h.0, message-letters q place ms h.1)

-- all packets of a turn
pub turn-letters : (q : Part) (place : Place) (c : ℕ) (w v : Owning) (s : TurnSaid) → Turned c place w s v → Each (Tells q place) s.messages
    → Each (LetterMay q) (map (letter place) s.segments ++ map (letter place) s.messages)
turn-letters q place c w v s t m = Each-append (LetterMay q) (map (letter place) s.segments) (map (letter place) s.messages)
    (⊎_elim (λ (mine : AllTo (Client c) s.segments × ((after_all w s.notes).owner ≡ Some place) × IsMachine place). segment-letters q place c s.segments mine.0)
    (λ (none : s.segments ≡ []). none-letters q place s.segments none) t.segments)
    (message-letters q place s.messages m)

-- ---- a turn of the front end

module _ (x : Conn) (heads : List Seen) (quiet : IsQuiet x heads) where
  abbrev w : Owning
  w = owning (tale_at x)

  pub front-owes : (s : TurnSaid) (part : FrontPart) (v : Owning) → Turned x.c Front w s v → Sits v x.part.nodes part.row → FrontGrows x.part.nodes x.part.front.row part.row
      → Each (Tells (with_front x.part part) Front) s.messages → Owes x (record { place = Front; heads = heads; said = s; part = with_front x.part part })
  front-owes s part v t sits grows tells =
      let q : Part = with_front x.part part in
      let timers = timers-plain Front x.c x.part q in
      record {
        heads = quiet.may;
        same = quiet.same;
        rows = turned-owns x.c Front w v s _ t timers;
        sits = subst (λ (u : Owning). Sits u x.part.nodes part.row) (sym (turned-after x.c Front w v s _ t timers)) sits;
        grows = record { nodes = λ n. back-still (x.part.nodes n).row; refusals = λ n e h. h; returns = λ n h. h; front = grows };
        letters = turn-letters q Front x.c w v s t tells;
      }

  -- nothing is done
  pub nothing-turned : (place : Place) → Turned x.c place w nothing_said w
  nothing-turned place = record { notes = tt; segments = inr refl; gave = tt; messages = tt; then = refl }

  module _ (placed : IsPlaced x) where
    pub drops-owes : Owes x (front_does x heads Drops)
    drops-owes = front-owes nothing_said x.part.front w (nothing-turned Front) placed.sits (front-still x.part.nodes x.part.front.row) tt

    -- messages go out, and nothing else is done
    pub messages-owe : (ms : List (Place × List ℕ)) → Each (λ m. IsMachine m.0) ms → Each (Tells x.part Front) ms → Owes x (front_does x heads (Says (front_saying ms)))
    messages-owe ms machines tells = front-owes (by_front (front_saying ms)) x.part.front w
        (record { notes = tt; segments = inr refl; gave = tt; messages = machines; then = refl }) placed.sits (front-still x.part.nodes x.part.front.row) tells

  -- ---- an endpoint that is here behind its notes

  -- it rests, or goes on, behind these messages
  module _ (env : FrontEnv) (mine : env.serve.c ≡ x.c) (p : FrontPart) (row : FrontRow) (v : Owning) (here : IsHomeAt x row v) (said : List (Place × List ℕ))
      (machines : Each (λ m. IsMachine m.0) said) (tells : (next : FrontRow) → row.epoch.0 ≤ next.epoch.0 → (q : Part) → q.front.row ≡ Some next → Each (Tells q Front) said) where
    rests-owe : (rest : FrontRest) (stays : ControlBlock → FrontConn) (given : Ending × Turn) (calls : List Call)
        → ((b : ControlBlock) → IsHome row.epoch.0 v x.part.nodes → StageSits row.epoch.0 v x.part.nodes (stays b))
        → Leads x v given.1.notes → AllTo (Client env.serve.c) given.1.segments
        → Owes x (front_does x heads (does_first [] said (Does (record { part = front_rests p row rest stays given.0; turn = turn_here given.1; calls = calls }))))
    rests-owe rest stays given calls stay leads to =
        let part : FrontPart = front_rests p row rest stays given.0 in
        let next : FrontRow = record row { stage = stage_after stays given.0 } in
        front-owes (by_front (stands_first [] said (turn_here given.1))) part v
        (record {
          notes = leads.0;
          segments = inl (subst (λ (c : ℕ). AllTo (Client c) given.1.segments) mine to, ap (λ (u : Owning). u.owner) (leads.1 ∙ here.home.0), tt);
          gave = tt;
          messages = Each-append (λ m. IsMachine m.0) said [] machines tt;
          then = leads.1;
        })
        (go given.0, here.ended) (here.grows next (omega arith)) (Each-append (Tells (with_front x.part part) Front) said [] (tells next (omega arith) (with_front x.part part) refl) tt) where
          go : (e : Ending) → StageSits row.epoch.0 v x.part.nodes (stage_after stays e)
          go (ending.Here b count) = stay b here.home
          go (ending.Over last) = (here.odd, here.home)

    -- it is handed off, or waits
    pub placed-owes : (rest : FrontRest) (s : Service) (path : List ℕ) (f : First) → Leads x v s.notes
        → Owes x (front_does x heads (does_first [] said (Does (placed env p row rest s path f))))
    placed-owes rest s path (first.Go choice) leads =
        let did = placed env p row rest s path (first.Go choice) in
        let q : Part = with_front x.part did.part in
        let next : FrontRow = record { stage = stage.Offering choice.node (next_epoch row); epoch = next_epoch row; ended_by = None } in
        let notes : Leads x v did.turn.notes = leads-more x v s.notes (rec.Admitted env.serve.c ∷ rec.AssignedFirst env.serve.c (s.count + 1) path choice.node choice.add choice.remove ∷ []) (tt, (tt, tt)) leads in
        let now : after_all w did.turn.notes ≡ record { owner = Some Front; epoch = row.epoch.0 } = notes.1 ∙ here.home.0 in
        let even : IsEven (row.epoch.0 + 1) = (let odd : IsOdd row.epoch.0 = here.odd in omega (arith, odd), omega arith) in
        let past : (n : ℕ) → IsPast (row.epoch.0 + 1) (x.part.nodes n).row = λ n. past-later row.epoch.0 (row.epoch.0 + 1) (x.part.nodes n).row (omega arith)
        (here.home.1 n) in
        front-owes (by_front (stands_first [] said did.turn)) did.part (record { owner = None; epoch = row.epoch.0 })
        (record {
          notes = notes.0;
          segments = inr refl;
          gave = subst (λ (u : Owning). OwnsBy x.c u did.turn.gave) (sym now) ((mine, refl, refl), tt);
          messages = Each-append (λ m. IsMachine m.0) said did.turn.messages machines (tt, tt);
          then = ap (λ (u : Owning). after_all u did.turn.gave) now;
        })
        ((even, refl, (λ m other. past m), inl (refl, refl, past choice.node)), tt)
        (here.grows next (omega arith))
        (Each-append (Tells q Front) said did.turn.messages (tells next (omega arith) q refl) (
          subst (λ h. MaySay q Front (Node choice.node) h) (sym (spelled-head _ here.small)) (inr (inl (refl, refl))),
          tt,
        ))
    placed-owes rest s path first.Waits leads =
        let s' : Service = record s { notes = s.notes ++ rec.Waits env.serve.c ∷ [] } in
        rests-owe (record rest { target = Some path }) stage.Waiting (spoken env.serve s' [])
        (call.First env.serve.c path env.now ∷ leaves_by env.serve.c (spoken env.serve s' []).0) (λ b home. (here.odd, home))
        (leads-more x v s.notes (rec.Waits env.serve.c ∷ []) (tt, tt) leads) (spoken-to env.serve s' [] tt)

    pub holds-owe : (rest : FrontRest) (s : Service) → Leads x v s.notes
        → Owes x (front_does x heads (does_first [] said (holds p row rest (serving_settled env.serve s))))
    holds-owe rest s leads =
        let is = settled-is env.serve s in
        rests-owe rest stage.Held (serving_settled env.serve s) [] (λ b home. (here.odd, home)) (subst (Leads x v) (sym is.notes) leads) is.to

    -- what is said in a stage of waiting or of being held
    pub says-owe : (rest : FrontRest) (stays : ControlBlock → FrontConn) (s : Service) (before : List (Place × List ℕ)) (calls : List Call)
        → ((b : ControlBlock) → IsHome row.epoch.0 v x.part.nodes → StageSits row.epoch.0 v x.part.nodes (stays b)) → Leads x v s.notes → AllTo (Client env.serve.c) before
        → Owes x (front_does x heads (does_first [] said (Does (record { part = front_rests p row rest stays (spoken env.serve s before).0; turn = turn_here (spoken env.serve s before).1; calls = calls }))))
    says-owe rest stays s before calls stay leads to = rests-owe rest stays (spoken env.serve s before) calls stay leads (spoken-to env.serve s before to)
