-- What is so of each record of a kind is so of all the records of that kind which a move, or a step, has; and a fold that passes over
-- what stands around the notes says of a move what it says of its notes.
use Rattle.std.proofs.Common.{◌≡◌, ℕ, ◌+◌, List, [], ◌∷◌, ◌++◌, map, append_assoc, refl, ap, ◌∙◌}
use Rattle.std.proofs.lemmas.List.Sums.{fold-append}
use Rattle.std.specs.List.{fold}
use Rattle.lard_law_view.specs.Prelude.{Client, Conn, EachMay, EachRow, Epoch, Event, Front, IsMachine, Move, Node, Part, Place, Rec, Row, Seen, Tale, TimerKind, rows_of, sent_records, tale_step, timer_rows}
use Rattle.lard_law_view.specs.View.{sending}
use Rattle.lard_law_view.specs.WhileUntouched.{TellsBy}
use Rattle.lard_base.specs.declared.event.Event.TheVariants as event
use Rattle.lard_history.proofs.Each.{Each, Each-append, Each-weaker}
use Rattle.lard_journal.specs.declared.rec.Rec.TheVariants as rec
use Rattle.lard_law_view.proofs.Fine.{IsItsOwn}
use Rattle.lard_law_view.proofs.RecordKinds.{IsByMachine, IsElsewhere, IsNote, IsOuter, IsUnsent, any-kind, else-kind, kind_of, machine-kind}
use Rattle.lard_law_view.proofs.OwnRecords.{behind}
use Rattle.lard_law_view.proofs.Saying.{GaveAt, NotedAt, note-kind}
use Rattle.lard_law_view.proofs.Timers.{IsTimerAt, timer_rows-are}

-- ---- notes, by where they are noted

module _ (place : Place) (c : ℕ) (r : Rec) (h : NotedAt place c r) where
  pub noted : IsNote r
  noted = any-kind place (kind_of r) (note-kind place c r h)

  pub by-machine : IsMachine place → IsByMachine (kind_of r)
  by-machine m = machine-kind place (kind_of r) m (note-kind place c r h)

  pub elsewhere : (place ≡ Front → ⊥) → IsElsewhere (kind_of r)
  elsewhere n = else-kind place (kind_of r) n (note-kind place c r h)

-- ---- all records of a kind

module _ (P : Rec → Type 0) where
  pub of-gift : ((p : Place) (d : ℕ) (epoch : Epoch) → P (rec.Gave p d epoch)) → (place : Place) (c : ℕ) (r : Rec) → GaveAt place c r → P r
  of-gift f Front c (rec.Gave p d epoch) h = f p d epoch
  of-gift f (Node n) c (rec.Gave p d epoch) h = f p d epoch
  of-gift f (Client e) c r h = absurd h
  of-gift f Front c _ h = absurd h
  of-gift f (Node n) c _ h = absurd h

  pub of-gifts : ((p : Place) (d : ℕ) (epoch : Epoch) → P (rec.Gave p d epoch)) → (place : Place) (c : ℕ) (rs : List Rec) → Each (GaveAt place c) rs → Each P rs
  of-gifts f place c rs h = Each-weaker (GaveAt place c) P (of-gift f place c) rs h

  abbrev pub OfTimers : Type 0
  OfTimers = (p : Place) (d : ℕ) (kind : TimerKind) → P (rec.Armed p d kind) × P (rec.Cleared p d kind)

  pub of-timer : OfTimers → (place : Place) (c : ℕ) (r : Rec) → IsTimerAt place c r → P r
  of-timer f place c (rec.Armed p d kind) h = (f p d kind).0
  of-timer f place c (rec.Cleared p d kind) h = (f p d kind).1
  of-timer f place c _ h = absurd h

  pub of-timers : OfTimers → (place : Place) (c : ℕ) (p q : Part) → Each P (timer_rows place c p q)
  of-timers f place c p q = Each-weaker (IsTimerAt place c) P (of-timer f place c) (timer_rows place c p q) (timer_rows-are place c p q)

  abbrev pub OfLetters : Type 0
  OfLetters = (k : ℕ) (from to : Place) (bytes : List ℕ) → P (rec.Sent k from to bytes)

  -- as the connection sees them
  pub of-sends : OfLetters → (place : Place) (ss : List (Place × List ℕ)) → Each P (map (sending place) ss)
  of-sends f place [] = tt
  of-sends f place (s ∷ ss) = (f 0 place s.0 s.1, of-sends f place ss)

  -- as the journal has them
  pub of-sents : OfLetters → (k : ℕ) (place : Place) (ss : List (Place × List ℕ)) → Each P (sent_records k place ss)
  of-sents f k place [] = tt
  of-sents f k place (s ∷ ss) = (f k place s.0 s.1, of-sents f (k + 1) place ss)

  pub of-notes : ((r : Rec) → IsNote r → P r) → (place : Place) (c : ℕ) (rs : List Rec) → Each (NotedAt place c) rs → Each P rs
  of-notes f place c rs h = Each-weaker (NotedAt place c) P (λ r k. f r (noted place c r k)) rs h

  -- ---- all that stands around the notes

  module _ (f : (r : Rec) → IsOuter r → P r) where
    pub outer-behind : (e : Event) → Each P (behind e)
    outer-behind (event.Open c isn iss wnd mss) = (f (rec.Opened c isn iss wnd mss) tt, tt)
    outer-behind (event.Deliver k) = (f (rec.Got k) tt, tt)
    outer-behind (event.Lose k) = (f (rec.Lost k) tt, tt)
    outer-behind (event.Inject c bytes) = (f (rec.Injected c) tt, tt)
    outer-behind _ = tt

    pub outer-gift : (place : Place) (c : ℕ) (r : Rec) → GaveAt place c r → P r
    outer-gift = of-gift (λ p d epoch. f (rec.Gave p d epoch) tt)

    pub outer-gifts : (place : Place) (c : ℕ) (rs : List Rec) → Each (GaveAt place c) rs → Each P rs
    outer-gifts = of-gifts (λ p d epoch. f (rec.Gave p d epoch) tt)

    pub outer-timer : (place : Place) (c : ℕ) (r : Rec) → IsTimerAt place c r → P r
    outer-timer = of-timer (λ p d kind. (f (rec.Armed p d kind) tt, f (rec.Cleared p d kind) tt))

    pub outer-timers : (place : Place) (c : ℕ) (p q : Part) → Each P (timer_rows place c p q)
    outer-timers = of-timers (λ p d kind. (f (rec.Armed p d kind) tt, f (rec.Cleared p d kind) tt))

    pub outer-sends : (place : Place) (ss : List (Place × List ℕ)) → Each P (map (sending place) ss)
    outer-sends = of-sends (λ k from to bytes. f (rec.Sent k from to bytes) tt)

    pub outer-sents : (k : ℕ) (place : Place) (ss : List (Place × List ℕ)) → Each P (sent_records k place ss)
    outer-sents = of-sents (λ k from to bytes. f (rec.Sent k from to bytes) tt)

-- ---- records that tell of no packet that is sent

pub noted-unsent : (r : Rec) → IsNote r → IsUnsent r
noted-unsent (rec.Sent k from to bytes) h = absurd h
noted-unsent _ h = tt

pub note-unsent : (place : Place) (c : ℕ) (r : Rec) → NotedAt place c r → IsUnsent r
note-unsent place c r h = noted-unsent r (noted place c r h)

pub notes-unsent : (place : Place) (c : ℕ) (rs : List Rec) → Each (NotedAt place c) rs → Each IsUnsent rs
notes-unsent = of-notes IsUnsent noted-unsent

pub gave-unsent : (place : Place) (c : ℕ) (r : Rec) → GaveAt place c r → IsUnsent r
gave-unsent = of-gift IsUnsent (λ p d epoch. tt)

pub gaves-unsent : (place : Place) (c : ℕ) (rs : List Rec) → Each (GaveAt place c) rs → Each IsUnsent rs
gaves-unsent = of-gifts IsUnsent (λ p d epoch. tt)

pub timer-unsent : (place : Place) (c : ℕ) (r : Rec) → IsTimerAt place c r → IsUnsent r
timer-unsent = of-timer IsUnsent (λ p d kind. (tt, tt))

pub timers-unsent : (place : Place) (c : ℕ) (p q : Part) → Each IsUnsent (timer_rows place c p q)
timers-unsent = of-timers IsUnsent (λ p d kind. (tt, tt))

-- ---- laws that say something of some records alone

-- where all records are such ones they may stand, whatever was told or stands before them
module _ (P : Rec → Type 0) where
  pub each-tells : (may : Tale → Rec → Type 0) → ((t : Tale) (r : Rec) → P r → may t r) → (c : ℕ) (t : Tale) (rs : List Rec) → Each P rs → TellsBy may c t rs
  each-tells may f c t [] h = tt
  each-tells may f c t (r ∷ rs) h = (f t r h.0, each-tells may f c (tale_step c t r) rs h.1)

  pub each-may : (may : List Rec → Rec → Type 0) → ((past : List Rec) (r : Rec) → P r → may past r) → (past rs : List Rec) → Each P rs → EachMay may past rs
  each-may may f past [] h = tt
  each-may may f past (r ∷ rs) h = (f past r h.0, each-may may f (past ++ r ∷ []) rs h.1)

  pub each-rows : (mine : List Seen → Rec → Type 0) → ((past : List Seen) (r : Rec) → P r → mine past r) → (past : List Seen) (rs : List Rec) → Each P rs → EachRow mine past (map Row rs)
  each-rows mine f past [] h = tt
  each-rows mine f past (r ∷ rs) h = (f past r h.0, each-rows mine f (past ++ Row r ∷ []) rs h.1)

-- ---- a move

module _ (x : Conn) (v : Move) where
  abbrev pub segments : List Rec
  segments = map (sending v.place) v.said.segments

  abbrev pub messages : List Rec
  messages = map (sending v.place) v.said.messages

  abbrev pub timers : List Rec
  timers = timer_rows v.place x.c x.part v.part

  -- the records behind its notes
  abbrev pub rest_of : List Rec
  rest_of = segments ++ v.said.gave ++ messages ++ timers

  pub rows-are : rows_of x v ≡ v.said.notes ++ rest_of
  rows-are =
      ap (λ (l : List Rec). l ++ messages ++ timers) (append_assoc v.said.notes segments v.said.gave)
      ∙ ap (λ (l : List Rec). l ++ timers) (append_assoc v.said.notes (segments ++ v.said.gave) messages)
      ∙ append_assoc v.said.notes (segments ++ v.said.gave ++ messages) timers

  -- all of a move, by its parts
  pub rest-each : (P : Rec → Type 0) → Each P segments → Each P v.said.gave → Each P messages → Each P timers → Each P rest_of
  rest-each P s g m t = Each-append P (segments ++ v.said.gave ++ messages) timers (Each-append P (segments ++ v.said.gave) messages (Each-append P segments v.said.gave s g) m) t

  pub rest-outer : (P : Rec → Type 0) → ((r : Rec) → IsOuter r → P r) → IsItsOwn x v → Each P rest_of
  rest-outer P f own = rest-each P
      (outer-sends P f v.place v.said.segments) (outer-gifts P f v.place x.c v.said.gave own.gave)
      (outer-sends P f v.place v.said.messages) (outer-timers P f v.place x.c x.part v.part)

-- ---- folds that pass over records

module _ {A : Type 0} (f : A → Rec → A) where
  -- it says the same behind this record
  abbrev pub Passes : Rec → Type 0
  Passes r = (a : A) → f a r ≡ a

  pub passes-all : (a : A) (rs : List Rec) → Each Passes rs → fold f a rs ≡ a
  passes-all a [] h = refl
  passes-all a (r ∷ rs) h = ap (λ (b : A). fold f b rs) (h.0 a) ∙ passes-all a rs h.1

  -- what it says of a move it says of its notes
  pub passes-rest : (x : Conn) (v : Move) (a : A) → Each Passes (rest_of x v) → fold f a (rows_of x v) ≡ fold f a v.said.notes
  passes-rest x v a h = ap (fold f a) (rows-are x v) ∙ fold-append f a v.said.notes (rest_of x v) ∙ passes-all (fold f a v.said.notes) (rest_of x v) h
