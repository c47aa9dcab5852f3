-- What is known of a connection's way at the front end, and that what happens elsewhere leaves it.
use Rattle.std.proofs.Common.{◌≡◌, ℕ, ◌||◌, ◌&&◌, not, Bool, true, false, cond, List, [], ◌∷◌, ◌++◌, map, Option, Some, None, refl, sym, ap, ◌∙◌, subst, ◌+◌, ◌≤◌, append-nil, arith}
use Rattle.std.specs.List.{fold, list_any}
use Rattle.std.proofs.lemmas.List.Folds.{list_any-append}
use Rattle.lard_law_view.specs.Prelude.{Came, Client, Conn, Front, FrontConn, FrontPart, FrontRow, IsConnNumber, IsConnSound, IsMachine, Kept, Letter, Move, Node, NodePart, Place, Rec, Row, Seen, grown, letter, letters_of, listed, rows_of, seen_in}
use Rattle.lard_law_connections.specs.Motion.{Forwards, HandsOff, forwards_by, IsHandedOff, IsNextUp, StepsUp, TakesBack, TakesFirst, first_back, first_syn, first_takes, forwards_of, later_takes}
use Rattle.lard_law_connections.specs.MotionStory.{Story, back_in, first_node, forward_to, front_gave_epoch, front_took, is_among, is_syn_in, last_gave, of_row, picked, refused_in, row_step, segment_in, story, to_node}
use Rattle.lard_law_connections.proofs.MotionPicking.{IsApart, IsStill, apart-back, apart-segments, apart-story, apart-syn, came-none, pick, pick-seen, picked-append, rows-syn, still-all, stills-first, stills-gave, stills-took, still-first, still-gave, still-took, or-false, story-grown, IsNoGift, pick-given, pick-noted, pick-sent}
use Rattle.lard_law_connections.specs.Places.{message_head}
use Rattle.lard_law_connections.proofs.PlacesGrowing.{FrontGrows}
use Rattle.lard_law_connections.proofs.PlacesTurns.{IsPlaced, Owes}
use Rattle.lard_law_view.specs.View.{sending}
use Rattle.lard_law_view.proofs.Fine.{IsItsOwn}
use Rattle.lard_law_view.proofs.Saying.{GaveAt, NotedAt}
use Rattle.lard_handoff_front.specs.declared.row.FrontConn.TheVariants as stage
use Rattle.lard_history.proofs.Each.{Each, Each-weaker}
use Rattle.lard_journal.specs.declared.rec.Rec.TheVariants as rec
use Rattle.lard_message.specs.declared.kind.Kind.TheVariants as kind
use Rattle.lard_law_view.proofs.RecordKinds.{IsOuter, IsUnsent}
use Rattle.lard_law_connections.specs.Past.{GoesToNew}

-- What is known of a connection and of its move beside its way: the view has it of each rule, and the law of places.
pub record Helps (x : Conn) (v : Move) : Type 0 where
  pub new : GoesToNew x
  pub number : IsConnNumber x.c
  pub sound : IsConnSound x
  pub placed : IsPlaced x
  pub owes : Owes x v
  pub own : IsItsOwn x v

-- ---- what is known of the way

-- it is away at node n, in this epoch, and did not come back yet
pub record IsAway (t : Story) (n e : ℕ) : Type 0 where
  pub away : t.away ≡ true
  pub epoch : t.epoch ≡ Some e
  pub node : t.node ≡ Some n
  pub back : is_among e t.back ≡ false

-- it is not away: it never was, or it came back
pub record IsBack (t : Story) : Type 0 where
  pub away : t.away ≡ false
  pub back : (e : ℕ) → t.epoch ≡ Some e → is_among e t.back ≡ true

abbrev pub StageKnown : Story → FrontConn → Type 0
StageKnown t (stage.Held b) = IsBack t
StageKnown t (stage.Waiting b) = IsBack t
StageKnown t stage.Lent = IsBack t
StageKnown t (stage.Offering n d) = IsAway t n d.0
StageKnown t (stage.Moved n d) = IsAway t n d.0
StageKnown t (stage.Closed last) = IsBack t

abbrev pub RowKnown : Story → Option FrontRow → Type 0
RowKnown t None = (t.took ≡ false) × (t.syn ≡ false) × IsBack t
RowKnown t (Some row) = (t.took ≡ true) × (t.syn ≡ true) × StageKnown t row.stage

-- the front end has it in this epoch, or in a later one
abbrev pub IsNoLater : ℕ → Option FrontRow → Type 0
IsNoLater e None = ⊥
IsNoLater e (Some row) = e ≤ row.epoch.0

pub no-later-grows : (nodes : ℕ → NodePart) (e : ℕ) (o r : Option FrontRow) → FrontGrows nodes o r → IsNoLater e o → IsNoLater e r
no-later-grows nodes e None r g h = absurd h
no-later-grows nodes e (Some row) None g h = absurd g
no-later-grows nodes e (Some row) (Some next) g h = omega (arith, g.0, h)

-- what is kept is an Offer
abbrev pub IsOfferKept : Kept → Type 0
IsOfferKept k = (e : ℕ) × (message_head k.bytes ≡ Some (record { kind = kind.Offer; epoch = e }))

abbrev pub IsNotOfClient : Letter → Type 0
IsNotOfClient l = IsMachine l.from

pub record IsKnown (x : Conn) : Type 0 where
  pub row : RowKnown (story x.c x.seen) x.part.front.row
  pub back : (e : ℕ) → is_among e (story x.c x.seen).back ≡ true → IsNoLater e x.part.front.row
  pub kept : Each IsOfferKept x.part.front.kept
  pub fresh : x.part.station ≡ None → Each IsNotOfClient x.letters

-- ---- what a step must be

pub record FrontMoves (c : ℕ) (past step : List Seen) : Type 0 where
  pub takes_first : TakesFirst c past step
  pub hands_off : HandsOff step
  pub takes_back : TakesBack c past step
  pub steps_up : StepsUp front_took past step
  pub forwards : Forwards c past step

-- the move is as it must be, and what is known stays known
abbrev pub Moves : Conn → Move → Type 0
Moves x v = FrontMoves x.c x.seen (seen_in x v) × IsKnown (grown x v)

-- ---- the lists that a step is judged by

-- each of these epochs is one in which the connection may be taken in the move
abbrev pub AreNextUp : Conn → Move → List ℕ → Type 0
AreNextUp x v takes = Each (IsNextUp (last_gave x.seen) (picked refused_in (seen_in x v))) takes

-- what is seen of the move
pub record Lists (x : Conn) (v : Move) (takes gives firsts : List ℕ) (forwards : List (ℕ × List ℕ)) (syn : Bool) (comes : List ℕ) (segments : List (List ℕ)) : Type 0 where
  pub takes_are : picked (of_row front_took) (seen_in x v) ≡ takes
  pub gives_are : picked (of_row front_gave_epoch) (seen_in x v) ≡ gives
  pub firsts_are : picked (of_row first_node) (seen_in x v) ≡ firsts
  pub forwards_are : picked (of_row forward_to) (seen_in x v) ≡ forwards
  pub syn_is : list_any (is_syn_in x.c) (seen_in x v) ≡ syn
  pub comes_are : picked back_in (seen_in x v) ≡ comes
  pub segments_are : picked (segment_in x.c) (seen_in x v) ≡ segments

module _ (x : Conn) (v : Move) (takes gives firsts : List ℕ) (forwards : List (ℕ × List ℕ)) (syn : Bool) (comes : List ℕ) (segments : List (List ℕ)) (l : Lists x v takes gives firsts forwards syn comes segments) where
  abbrev t : Story
  t = story x.c x.seen

  pub by-lists : first_takes t takes ≡ first_syn t syn → IsHandedOff gives firsts (picked (of_row to_node) (seen_in x v)) → later_takes t takes ≡ first_back t comes → AreNextUp x v takes → forwards ≡ forwards_of x.c t segments
      → FrontMoves x.c x.seen (seen_in x v)
  by-lists first off back up forth = record {
    takes_first = ap (first_takes t) l.takes_are ∙ first ∙ ap (first_syn t) (sym l.syn_is);
    hands_off = subst (λ (gs : List ℕ). IsHandedOff gs (picked (of_row first_node) (seen_in x v)) (picked (of_row to_node) (seen_in x v))) (sym l.gives_are)
        (subst (λ (fs : List ℕ). IsHandedOff gives fs (picked (of_row to_node) (seen_in x v))) (sym l.firsts_are) off);
    takes_back = ap (later_takes t) l.takes_are ∙ back ∙ ap (first_back t) (sym l.comes_are);
    steps_up = subst (AreNextUp x v) (sym l.takes_are) up;
    forwards = l.forwards_are ∙ forth ∙ ap (forwards_of x.c t) (sym l.segments_are);
  }

-- ---- what is seen first, and the records behind it

-- it tells of no packet that is sent, and nothing of the front end's part
abbrev pub IsBare : Seen → Type 0
IsBare (Row r) = IsStill r × IsUnsent r
IsBare (Came l) = Unit {0}

bare-none : {A : Type 0} (f : Rec → Option A) → ((r : Rec) → IsStill r → IsUnsent r → f r ≡ None) → (ss : List Seen) → Each IsBare ss → picked (of_row f) ss ≡ []
bare-none f none [] h = refl
bare-none f none (Row r ∷ ss) h = ap (λ o. listed o ++ picked (of_row f) ss) (none r h.0.0 h.0.1) ∙ bare-none f none ss h.1
bare-none f none (Came l ∷ ss) h = bare-none f none ss h.1

-- the lists of a move, by its notes, what it gives up and its messages, behind what is seen first
pub record Parts (x : Conn) (v : Move) : Type 0 where
  pub heads : Each IsBare v.heads
  pub segments : pick forward_to (map (sending v.place) v.said.segments) ≡ []

pub unsent-forward : (r : Rec) → IsUnsent r → forward_to r ≡ None
unsent-forward (rec.Sent k from to bytes) h = absurd h
unsent-forward _ h = refl

pub unsent-said : (r : Rec) → IsUnsent r → to_node r ≡ None
unsent-said (rec.Sent k from to bytes) h = absurd h
unsent-said _ h = refl

-- only notes take or assign, and only what is given up gives
took-noted : (r : Rec) → IsOuter r → front_took r ≡ None
took-noted (rec.Took p d epoch) h = absurd h
took-noted _ h = refl

first-noted : (r : Rec) → IsOuter r → first_node r ≡ None
first-noted (rec.AssignedFirst d r path n add remove) h = absurd h
first-noted _ h = refl

gave-given : (r : Rec) → IsNoGift r → front_gave_epoch r ≡ None
gave-given (rec.Gave p d epoch) h = absurd h
gave-given _ h = refl

module _ (x : Conn) (v : Move) (own : IsItsOwn x v) (parts : Parts x v) where
  abbrev sent : List Rec
  sent = map (sending v.place) v.said.segments

  abbrev told : List Rec
  told = map (sending v.place) v.said.messages

  behind : {A : Type 0} (f : Rec → Option A) (found : List A) → picked (of_row f) v.heads ≡ [] → pick f (rows_of x v) ≡ found → picked (of_row f) (seen_in x v) ≡ found
  behind f found heads rows = pick-seen f x v ∙ (λ i. heads i ++ rows i)

  pub seen-takes : (takes : List ℕ) → pick front_took v.said.notes ≡ takes → picked (of_row front_took) (seen_in x v) ≡ takes
  seen-takes takes e = behind front_took takes (bare-none front_took (λ r s u. still-took r s) v.heads parts.heads) (pick-noted front_took x v own took-noted ∙ e)

  pub seen-gives : (gives : List ℕ) → pick front_gave_epoch v.said.gave ≡ gives → picked (of_row front_gave_epoch) (seen_in x v) ≡ gives
  seen-gives gives e = behind front_gave_epoch gives (bare-none front_gave_epoch (λ r s u. still-gave r s) v.heads parts.heads) (pick-given front_gave_epoch x v own gave-given ∙ e)

  pub seen-firsts : (firsts : List ℕ) → pick first_node v.said.notes ≡ firsts → picked (of_row first_node) (seen_in x v) ≡ firsts
  seen-firsts firsts e = behind first_node firsts (bare-none first_node (λ r s u. still-first r s) v.heads parts.heads) (pick-noted first_node x v own first-noted ∙ e)

  -- what is sent
  seen-sent : {A : Type 0} (f : Rec → Option A) → ((r : Rec) → IsUnsent r → f r ≡ None) → (found : List A) → pick f sent ≡ [] → pick f told ≡ found → picked (of_row f) (seen_in x v) ≡ found
  seen-sent f none found segments e = behind f found (bare-none f (λ r s u. none r u) v.heads parts.heads)
      (pick-sent f x v own none ∙ (λ i. segments i ++ e i))

  pub seen-forwards : (forwards : List (ℕ × List ℕ)) → pick forward_to told ≡ forwards → picked (of_row forward_to) (seen_in x v) ≡ forwards
  seen-forwards forwards e = seen-sent forward_to unsent-forward forwards parts.segments e

  pub seen-said : (said : List (ℕ × List ℕ)) → pick to_node sent ≡ [] → pick to_node told ≡ said → picked (of_row to_node) (seen_in x v) ≡ said
  seen-said said segments e = seen-sent to_node unsent-said said segments e

  -- packets that come are seen first
  pub seen-syn : (b : Bool) → list_any (is_syn_in x.c) v.heads ≡ b → list_any (is_syn_in x.c) (seen_in x v) ≡ b
  seen-syn b e = list_any-append (is_syn_in x.c) v.heads (map Row (rows_of x v)) ∙ (λ i. e i || rows-syn x.c (rows_of x v) i) ∙ or-false b

  pub seen-back : (es : List ℕ) → picked back_in v.heads ≡ es → picked back_in (seen_in x v) ≡ es
  seen-back es e = picked-append back_in v.heads (map Row (rows_of x v)) ∙ (λ i. e i ++ came-none back_in (λ r. refl) (rows_of x v) i) ∙ append-nil es

  pub seen-segments : (ss : List (List ℕ)) → picked (segment_in x.c) v.heads ≡ ss → picked (segment_in x.c) (seen_in x v) ≡ ss
  seen-segments ss e = picked-append (segment_in x.c) v.heads (map Row (rows_of x v)) ∙ (λ i. e i ++ came-none (segment_in x.c) (λ r. refl) (rows_of x v) i) ∙ append-nil ss

-- ---- where nothing is done that tells of the way

same-none : {A : Type 0} (b : Bool) → ◌≡◌ {A = List A} (cond b [] []) []
same-none true = refl
same-none false = refl

pub and-false : (b : Bool) → b && false ≡ false
and-false true = refl
and-false false = refl

pub no-syn : (t : Story) → first_syn t false ≡ []
no-syn t = ap (λ b. cond b (1 ∷ []) []) (and-false (not t.syn))

pub no-takes : (t : Story) → (first_takes t [] ≡ []) × (later_takes t [] ≡ [])
no-takes t = (same-none t.took, same-none t.took)

pub none-back : (t : Story) → first_back t [] ≡ []
none-back t = go t.epoch where
  go : (o : Option ℕ) → (elim o as (λ q. List ℕ) [ None ↦ [] | Some e ↦ cond (not (is_among e t.back) && false) ((e + 1) ∷ []) [] ]) ≡ []
  go None = refl
  go (Some e) = ap (λ b. cond b ((e + 1) ∷ []) []) (and-false (not (is_among e t.back)))

pub no-forwards : (c : ℕ) (t : Story) → forwards_of c t [] ≡ []
no-forwards c t = ap (λ l. cond t.away l []) (go t.node t.epoch) ∙ same-none t.away where
  go : (n e : Option ℕ) → forwards_by c n e [] ≡ []
  go None e = refl
  go (Some n) None = refl
  go (Some n) (Some e) = refl

-- what stays known, where the story is as it was
pub still-known : (x : Conn) (v : Move) → Helps x v → IsKnown x → story x.c (x.seen ++ seen_in x v) ≡ story x.c x.seen → RowKnown (story x.c x.seen) v.part.front.row → Each IsOfferKept v.part.front.kept
    → (v.part.station ≡ None → Each IsNotOfClient (x.letters ++ letters_of v)) → IsKnown (grown x v)
still-known x v help known same row kept fresh = record {
  row = subst (λ (t : Story). RowKnown t v.part.front.row) (sym same) row;
  back = λ e among. no-later-grows v.part.nodes e x.part.front.row v.part.front.row help.owes.grows.front
      (known.back e (ap (λ (t : Story). is_among e t.back) (sym same) ∙ among));
  kept = kept;
  fresh = fresh;
}

-- packets of a machine
pub machine-letters : (place : Place) (ss : List (Place × List ℕ)) → IsMachine place → Each IsNotOfClient (map (letter place) ss)
machine-letters place [] m = tt
machine-letters place (s ∷ ss) m = (m, machine-letters place ss m)

module _ (x : Conn) (v : Move) (help : Helps x v) (known : IsKnown x) where
  abbrev now : Story
  now = story x.c x.seen

  -- it tells nothing of the way, and nothing of it came
  pub record IsQuiet : Type 0 where
    pub heads : Each (IsApart x.c) v.heads
    pub bare : Each IsBare v.heads
    pub notes : Each IsStill v.said.notes
    pub gave : Each IsStill v.said.gave
    pub segments : pick forward_to (map (sending v.place) v.said.segments) ≡ []
    pub messages : pick forward_to (map (sending v.place) v.said.messages) ≡ []
    pub row : RowKnown now v.part.front.row
    pub kept : Each IsOfferKept v.part.front.kept
    pub fresh : v.part.station ≡ None → Each IsNotOfClient (x.letters ++ letters_of v)

  pub quiet-moves : IsQuiet → Moves x v
  quiet-moves q =
      let parts : Parts x v = record { heads = q.bare; segments = q.segments } in
      let lists : Lists x v [] [] [] [] false [] [] = record {
        takes_are = seen-takes x v help.own parts [] (stills-took v.said.notes q.notes);
        gives_are = seen-gives x v help.own parts [] (stills-gave v.said.gave q.gave);
        firsts_are = seen-firsts x v help.own parts [] (stills-first v.said.notes q.notes);
        forwards_are = seen-forwards x v help.own parts [] q.messages;
        syn_is = seen-syn x v help.own parts false (apart-syn x.c v.heads q.heads);
        comes_are = seen-back x v help.own parts [] (apart-back x.c v.heads q.heads);
        segments_are = seen-segments x v help.own parts [] (apart-segments x.c v.heads q.heads);
      } in
      let same : story x.c (x.seen ++ seen_in x v) ≡ now =
      story-grown x v
      ∙ (λ i. fold row_step (fold row_step (apart-story x.c now v.heads q.heads i) v.said.notes) v.said.gave)
      ∙ ap (λ (t : Story). fold row_step t v.said.gave) (still-all now v.said.notes q.notes)
      ∙ still-all now v.said.gave q.gave in (
        by-lists x v [] [] [] [] false [] [] lists ((no-takes now).0 ∙ sym (no-syn now)) tt ((no-takes now).1 ∙ sym (none-back now)) tt (sym (no-forwards x.c now)),
        still-known x v help known same q.row q.kept q.fresh,
      )

-- ---- elsewhere: a client, or a node

-- its notes and what it gives up tell nothing of the front end
abbrev pub IsElse : Place → Type 0
IsElse Front = ⊥
IsElse (Node n) = Unit {0}
IsElse (Client d) = Unit {0}

else-note : (place : Place) (c : ℕ) (r : Rec) → IsElse place → NotedAt place c r → IsStill r
else-note Front c r m h = absurd m
else-note (Client e) c (rec.Wrote d bytes) m h = tt
else-note (Client e) c (rec.Accepted d bytes) m h = tt
else-note (Client e) c (rec.Eof d) m h = tt
else-note (Client e) c (rec.Aborted d) m h = tt
else-note (Client e) c _ m h = absurd h
else-note (Node n) c (rec.Took (Node k) d epoch) m h = tt
else-note (Node n) c (rec.Served (Node k) d r code size via) m h = tt
else-note (Node n) c (rec.Reset (Node k) d total) m h = tt
else-note (Node n) c (rec.Queued k o d r path) m h = tt
else-note (Node n) c (rec.Read k o d r path) m h = tt
else-note (Node n) c (rec.Hit k path) m h = tt
else-note (Node n) c _ m h = absurd h

else-gave : (place : Place) (c : ℕ) (r : Rec) → IsElse place → GaveAt place c r → IsStill r
else-gave Front c r m h = absurd m
else-gave (Node n) c (rec.Gave (Node k) d epoch) m h = tt
else-gave (Client e) c r m h = absurd h
else-gave (Node n) c _ m h = absurd h

else-sends : (place : Place) (ss : List (Place × List ℕ)) → IsElse place → pick forward_to (map (sending place) ss) ≡ []
else-sends Front ss m = absurd m
else-sends (Node n) [] m = refl
else-sends (Node n) (s ∷ ss) m = else-sends (Node n) ss m
else-sends (Client d) [] m = refl
else-sends (Client d) (s ∷ ss) m = else-sends (Client d) ss m

pub else-moves : (x : Conn) (v : Move) → Helps x v → IsKnown x → IsElse v.place → Each (IsApart x.c) v.heads → Each IsBare v.heads → v.part.front ≡ x.part.front
    → (v.part.station ≡ None → Each IsNotOfClient (x.letters ++ letters_of v)) → Moves x v
else-moves x v help known m heads bare same fresh = quiet-moves x v help known (record {
  heads = heads;
  bare = bare;
  notes = Each-weaker (NotedAt v.place x.c) IsStill (λ r. else-note v.place x.c r m) v.said.notes help.own.notes;
  gave = Each-weaker (GaveAt v.place x.c) IsStill (λ r. else-gave v.place x.c r m) v.said.gave help.own.gave;
  segments = else-sends v.place v.said.segments m;
  messages = else-sends v.place v.said.messages m;
  row = subst (λ (f : FrontPart). RowKnown (story x.c x.seen) f.row) (sym same) known.row;
  kept = subst (λ (f : FrontPart). Each IsOfferKept f.kept) (sym same) known.kept;
  fresh = fresh;
})
