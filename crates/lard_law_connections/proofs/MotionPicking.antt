-- What is picked of the records of a move, and what they make of the story.
use Rattle.std.proofs.Common.{◌≡◌, ℕ, ◌||◌, Bool, true, false, List, [], ◌∷◌, ◌++◌, map, Option, None, refl, sym, ap, ◌∙◌, append_assoc, append-nil}
use Rattle.std.proofs.lemmas.List.Sums.{fold-append}
use Rattle.std.specs.List.{fold, list_any}
use Rattle.lard_law_view.specs.Prelude.{Came, Client, Conn, Front, Move, Node, Part, Place, Rec, Row, Seen, listed, rows_of, seen_in, timer_rows}
use Rattle.lard_law_connections.specs.MotionStory.{Story, back_in, first_node, front_gave_epoch, front_took, is_back, is_syn_in, of_row, picked, row_step, segment_in, segment_on, story, story_step, syn_on, told_of, untold_story}
use Rattle.lard_law_view.specs.View.{sending}
use Rattle.lard_history.proofs.Each.{Each, Each-weaker}
use Rattle.lard_journal.specs.declared.rec.Rec.TheVariants as rec
use Rattle.lard_law_view.proofs.EndpointSends.{AllTo}
use Rattle.lard_law_view.proofs.Fine.{IsItsOwn}
use Rattle.lard_law_view.proofs.OfKinds.{gaves-unsent, notes-unsent, of-notes, of-sends, of-timers, rest_of, rest-outer, rows-are, timers-unsent}
use Rattle.lard_law_view.proofs.RecordKinds.{IsNote, IsOuter, IsUnsent}

-- ---- lists

-- what is picked of records
abbrev pub pick : {A : Type 0} → (Rec → Option A) → List Rec → List A
pick f [] = []
pick f (r ∷ rs) = listed (f r) ++ pick f rs

module _ {A : Type 0} where
  pub picked-append : (f : Seen → Option A) (xs ys : List Seen) → picked f (xs ++ ys) ≡ picked f xs ++ picked f ys
  picked-append f [] ys = refl
  picked-append f (x ∷ xs) ys = ap (λ l. listed (f x) ++ l) (picked-append f xs ys) ∙ sym (append_assoc (listed (f x)) (picked f xs) (picked f ys))

  pub pick-append : (f : Rec → Option A) (xs ys : List Rec) → pick f (xs ++ ys) ≡ pick f xs ++ pick f ys
  pick-append f [] ys = refl
  pick-append f (x ∷ xs) ys = ap (λ l. listed (f x) ++ l) (pick-append f xs ys) ∙ sym (append_assoc (listed (f x)) (pick f xs) (pick f ys))

  pub picked-rows : (f : Rec → Option A) (rs : List Rec) → picked (of_row f) (map Row rs) ≡ pick f rs
  picked-rows f [] = refl
  picked-rows f (r ∷ rs) = ap (λ l. listed (f r) ++ l) (picked-rows f rs)

  pub pick-none : (f : Rec → Option A) (rs : List Rec) → Each (λ r. f r ≡ None) rs → pick f rs ≡ []
  pick-none f [] h = refl
  pick-none f (r ∷ rs) h = ap (λ o. listed o ++ pick f rs) h.0 ∙ pick-none f rs h.1

  pub picked-none : (f : Seen → Option A) (ss : List Seen) → Each (λ s. f s ≡ None) ss → picked f ss ≡ []
  picked-none f [] h = refl
  picked-none f (s ∷ ss) h = ap (λ o. listed o ++ picked f ss) h.0 ∙ picked-none f ss h.1

  -- packets are no records
  pub came-none : (f : Seen → Option A) → ((r : Rec) → f (Row r) ≡ None) → (rs : List Rec) → picked f (map Row rs) ≡ []
  came-none f none [] = refl
  came-none f none (r ∷ rs) = ap (λ o. listed o ++ picked f (map Row rs)) (none r) ∙ came-none f none rs

-- ---- what a move is seen of

module _ {A : Type 0} (f : Rec → Option A) (x : Conn) (v : Move) where
  abbrev S : List Rec
  S = map (sending v.place) v.said.segments

  abbrev M : List Rec
  M = map (sending v.place) v.said.messages

  abbrev T : List Rec
  T = timer_rows v.place x.c x.part v.part

  -- in parts
  pub pick-parts : pick f (rows_of x v) ≡ pick f v.said.notes ++ pick f S ++ pick f v.said.gave ++ pick f M ++ pick f T
  pick-parts =
      pick-append f (v.said.notes ++ S ++ v.said.gave ++ M) T
      ∙ ap (λ l. l ++ pick f T) (pick-append f (v.said.notes ++ S ++ v.said.gave) M)
      ∙ ap (λ l. l ++ pick f M ++ pick f T) (pick-append f (v.said.notes ++ S) v.said.gave)
      ∙ ap (λ l. l ++ pick f v.said.gave ++ pick f M ++ pick f T) (pick-append f v.said.notes S)

  -- behind what is seen first, these
  pub pick-seen : picked (of_row f) (seen_in x v) ≡ picked (of_row f) v.heads ++ pick f (rows_of x v)
  pick-seen = picked-append (of_row f) v.heads (map Row (rows_of x v)) ∙ ap (λ l. picked (of_row f) v.heads ++ l) (picked-rows f (rows_of x v))

-- it gives nothing up
abbrev pub IsNoGift : Rec → Type 0
IsNoGift (rec.Gave place c epoch) = ⊥
IsNoGift _ = Unit {0}

note-no-gift : (r : Rec) → IsNote r → IsNoGift r
note-no-gift (rec.Gave place c epoch) h = absurd h
note-no-gift _ h = tt

module _ {A : Type 0} (f : Rec → Option A) (x : Conn) (v : Move) (own : IsItsOwn x v) where
  abbrev Misses : Rec → Type 0
  Misses r = f r ≡ None

  -- what is picked of notes alone
  pub pick-noted : ((r : Rec) → IsOuter r → f r ≡ None) → pick f (rows_of x v) ≡ pick f v.said.notes
  pick-noted none =
      ap (pick f) (rows-are x v)
      ∙ pick-append f v.said.notes (rest_of x v)
      ∙ ap (λ l. pick f v.said.notes ++ l) (pick-none f (rest_of x v) (rest-outer x v Misses none own))
      ∙ append-nil (pick f v.said.notes)

  -- of what is given up alone
  pub pick-given : ((r : Rec) → IsNoGift r → f r ≡ None) → pick f (rows_of x v) ≡ pick f v.said.gave
  pick-given none =
      pick-parts f x v
      ∙ (λ i.
      pick-none f v.said.notes (of-notes Misses (λ r h. none r (note-no-gift r h)) v.place x.c v.said.notes own.notes) i
      ++ pick-none f (S f x v) (sent v.said.segments) i ++ pick f v.said.gave ++ pick-none f (M f x v) (sent v.said.messages) i
      ++ pick-none f (T f x v) (of-timers Misses (λ p d kind. (none (rec.Armed p d kind) tt, none (rec.Cleared p d kind) tt)) v.place x.c x.part v.part) i)
      ∙ append-nil (pick f v.said.gave ++ []) ∙ append-nil (pick f v.said.gave)
    where
      sent : (ss : List (Place × List ℕ)) → Each Misses (map (sending v.place) ss)
      sent ss = of-sends Misses (λ k from to bytes. none (rec.Sent k from to bytes) tt) v.place ss

  -- of what is sent alone
  pub pick-sent : ((r : Rec) → IsUnsent r → f r ≡ None) → pick f (rows_of x v) ≡ pick f (S f x v) ++ pick f (M f x v)
  pick-sent none =
      pick-parts f x v
      ∙ (λ i.
      pick-none f v.said.notes (Each-weaker IsUnsent Misses none v.said.notes (notes-unsent v.place x.c v.said.notes own.notes)) i
      ++ pick f (S f x v)
      ++ pick-none f v.said.gave (Each-weaker IsUnsent Misses none v.said.gave (gaves-unsent v.place x.c v.said.gave own.gave)) i
      ++ pick f (M f x v)
      ++ pick-none f (T f x v) (Each-weaker IsUnsent Misses none (T f x v) (timers-unsent v.place x.c x.part v.part)) i)
      ∙ append-nil (pick f (S f x v) ++ [] ++ pick f (M f x v)) ∙ ap (λ l. l ++ pick f (M f x v)) (append-nil (pick f (S f x v)))

-- ---- the story

-- it tells nothing of the front end's way
abbrev pub IsStill : Rec → Type 0
IsStill (rec.Took Front c epoch) = ⊥
IsStill (rec.Gave Front c epoch) = ⊥
IsStill (rec.AssignedFirst c r path n add remove) = ⊥
IsStill _ = Unit {0}

still-step : (t : Story) (r : Rec) → IsStill r → row_step t r ≡ t
still-step t (rec.Took Front c epoch) h = absurd h
still-step t (rec.Took (Node n) c epoch) h = refl
still-step t (rec.Took (Client d) c epoch) h = refl
still-step t (rec.Gave Front c epoch) h = absurd h
still-step t (rec.Gave (Node n) c epoch) h = refl
still-step t (rec.Gave (Client d) c epoch) h = refl
still-step t (rec.AssignedFirst c r path n add remove) h = absurd h
still-step t _ h = refl

pub still-all : (t : Story) (rs : List Rec) → Each IsStill rs → fold row_step t rs ≡ t
still-all t [] h = refl
still-all t (r ∷ rs) h = ap (λ u. fold row_step u rs) (still-step t r h.0) ∙ still-all t rs h.1

pub still-took : (r : Rec) → IsStill r → front_took r ≡ None
still-took (rec.Took Front c epoch) h = absurd h
still-took (rec.Took (Node n) c epoch) h = refl
still-took (rec.Took (Client d) c epoch) h = refl
still-took _ h = refl

pub still-gave : (r : Rec) → IsStill r → front_gave_epoch r ≡ None
still-gave (rec.Gave Front c epoch) h = absurd h
still-gave (rec.Gave (Node n) c epoch) h = refl
still-gave (rec.Gave (Client d) c epoch) h = refl
still-gave _ h = refl

pub still-first : (r : Rec) → IsStill r → first_node r ≡ None
still-first (rec.AssignedFirst c r path n add remove) h = absurd h
still-first _ h = refl

pub stills-took : (rs : List Rec) → Each IsStill rs → pick front_took rs ≡ []
stills-took rs h = pick-none front_took rs (Each-weaker IsStill (λ r. front_took r ≡ None) still-took rs h)

pub stills-gave : (rs : List Rec) → Each IsStill rs → pick front_gave_epoch rs ≡ []
stills-gave rs h = pick-none front_gave_epoch rs (Each-weaker IsStill (λ r. front_gave_epoch r ≡ None) still-gave rs h)

pub stills-first : (rs : List Rec) → Each IsStill rs → pick first_node rs ≡ []
stills-first rs h = pick-none first_node rs (Each-weaker IsStill (λ r. first_node r ≡ None) still-first rs h)

pub sends-still : (place : Place) (ss : List (Place × List ℕ)) → Each IsStill (map (sending place) ss)
sends-still = of-sends IsStill (λ k from to bytes. tt)

pub timers-still : (place : Place) (c : ℕ) (p q : Part) → Each IsStill (timer_rows place c p q)
timers-still = of-timers IsStill (λ p d kind. (tt, tt))

story-rows : (c : ℕ) (t : Story) (rs : List Rec) → fold (story_step c) t (map Row rs) ≡ fold row_step t rs
story-rows c t [] = refl
story-rows c t (r ∷ rs) = story-rows c (row_step t r) rs

-- a move tells its heads, its notes and what it gave up
pub story-grown : (x : Conn) (v : Move) → story x.c (x.seen ++ seen_in x v) ≡ fold row_step (fold row_step (fold (story_step x.c) (story x.c x.seen) v.heads) v.said.notes) v.said.gave
story-grown x v =
    let S : List Rec = map (sending v.place) v.said.segments in
    let M : List Rec = map (sending v.place) v.said.messages in
    let T : List Rec = timer_rows v.place x.c x.part v.part in
    let t : Story = fold (story_step x.c) (story x.c x.seen) v.heads in
    let noted : Story = fold row_step t v.said.notes in
    fold-append (story_step x.c) untold_story x.seen (seen_in x v)
    ∙ fold-append (story_step x.c) (story x.c x.seen) v.heads (map Row (rows_of x v))
    ∙ story-rows x.c t (rows_of x v)
    ∙ fold-append row_step t (v.said.notes ++ S ++ v.said.gave ++ M) T
    ∙ still-all (fold row_step t (v.said.notes ++ S ++ v.said.gave ++ M)) T (timers-still v.place x.c x.part v.part)
    ∙ fold-append row_step t (v.said.notes ++ S ++ v.said.gave) M
    ∙ still-all (fold row_step t (v.said.notes ++ S ++ v.said.gave)) M (sends-still v.place v.said.messages)
    ∙ fold-append row_step t (v.said.notes ++ S) v.said.gave
    ∙ ap (λ u. fold row_step u v.said.gave) (fold-append row_step t v.said.notes S ∙ still-all noted S (sends-still v.place v.said.segments))

-- ---- what is seen first

-- it tells nothing: no segment, nothing that brings the connection back, and no record of the way
abbrev pub IsApart : ℕ → Seen → Type 0
IsApart c (Row r) = IsStill r
IsApart c (Came l) = (segment_on c l.from l.to l.bytes ≡ None) × (syn_on c l.from l.to l.bytes ≡ false) × (told_of is_back l.from l.to l.bytes ≡ None)

pub or-false : (b : Bool) → b || false ≡ b
or-false true = refl
or-false false = refl

apart-step : (c : ℕ) (t : Story) (s : Seen) → IsApart c s → story_step c t s ≡ t
apart-step c t (Row r) h = still-step t r h
apart-step c t (Came l) h =
    λ i. record t { syn = (ap (λ b. t.syn || b) h.1 ∙ or-false t.syn) i; back = (ap (λ o. t.back ++ listed o) h.2 ∙ append-nil t.back) i }

pub apart-story : (c : ℕ) (t : Story) (ss : List Seen) → Each (IsApart c) ss → fold (story_step c) t ss ≡ t
apart-story c t [] h = refl
apart-story c t (s ∷ ss) h = ap (λ u. fold (story_step c) u ss) (apart-step c t s h.0) ∙ apart-story c t ss h.1

pub apart-syn : (c : ℕ) (ss : List Seen) → Each (IsApart c) ss → list_any (is_syn_in c) ss ≡ false
apart-syn c [] h = refl
apart-syn c (s ∷ ss) h = (λ i. one s h.0 i || apart-syn c ss h.1 i) where
  one : (s : Seen) → IsApart c s → is_syn_in c s ≡ false
  one (Row r) h = refl
  one (Came l) h = h.1

pub apart-segments : (c : ℕ) (ss : List Seen) → Each (IsApart c) ss → picked (segment_in c) ss ≡ []
apart-segments c ss h = picked-none (segment_in c) ss (Each-weaker (IsApart c) (λ s. segment_in c s ≡ None) one ss h) where
  one : (s : Seen) → IsApart c s → segment_in c s ≡ None
  one (Row r) h = refl
  one (Came l) h = h.0

pub apart-back : (c : ℕ) (ss : List Seen) → Each (IsApart c) ss → picked back_in ss ≡ []
apart-back c ss h = picked-none back_in ss (Each-weaker (IsApart c) (λ s. back_in s ≡ None) one ss h) where
  one : (s : Seen) → IsApart c s → back_in s ≡ None
  one (Row r) h = refl
  one (Came l) h = h.2

-- of records, nothing is a packet that comes
pub rows-syn : (c : ℕ) (rs : List Rec) → list_any (is_syn_in c) (map Row rs) ≡ false
rows-syn c [] = refl
rows-syn c (r ∷ rs) = rows-syn c rs

-- ---- segments to a client are no messages

pub segments-none : {A : Type 0} (f : Rec → Option A) (place : Place) (c : ℕ) → ((k : ℕ) (bytes : List ℕ) → f (rec.Sent k place (Client c) bytes) ≡ None) → (ss : List (Place × List ℕ)) → AllTo (Client c) ss
    → pick f (map (sending place) ss) ≡ []
segments-none f place c none [] to = refl
segments-none f place c none (s ∷ ss) to =
    ap (λ o. listed o ++ pick f (map (sending place) ss)) (ap (λ p. f (rec.Sent 0 place p s.1)) to.0 ∙ none 0 s.1) ∙ segments-none f place c none ss to.1
