-- What a move tells of its connection, list by list, for laws that say nothing of some of them.
use Rattle.std.proofs.Common.{◌≡◌, ℕ, List, [], ◌∷◌, ◌++◌, map, false, ◌&&◌, refl, sym, ap, ◌∙◌, subst}
use Rattle.std.proofs.lemmas.List.Sums.{fold-append}
use Rattle.std.specs.List.{fold}
use Rattle.lard_law_view.specs.Prelude.{Client, Conn, EachRow, Front, IsMachine, Move, Node, Place, Rec, Tale, about, goes_to, grown, is_cluster, rows_of, seen_in, seen_step, tale_at, tale_of, tale_step, timer_rows, told_on, untold}
use Rattle.lard_law_view.specs.Carry.{TellsBy}
use Rattle.lard_law_view.specs.View.{sending}
use Rattle.lard_law_view.proofs.Saying.{AreMessages}
use Rattle.lard_law_view.proofs.Timers.{IsTimerAt, timer_rows-are}
use Rattle.lard_history.proofs.Each.{Each, Each-weaker}
use Rattle.lard_history.proofs.Lifting.{each_row-append}
use Rattle.lard_history.proofs.Tales.{others, told_on-append}
use Rattle.lard_journal.specs.declared.rec.Rec.TheVariants as rec
use Rattle.lard_law_view.proofs.RowLists.{MayBeSeen, TellsBy-append, each_row-told, seen-rows}

-- ---- folds

-- of all that a connection sees, with a move
pub grown-told : {A : Type 0} (step : A → Rec → A) (a : A) (x : Conn) (v : Move)
    → fold (seen_step step) a (grown x v).seen ≡ fold step (fold (seen_step step) (fold (seen_step step) a x.seen) v.heads) (rows_of x v)
grown-told step a x v =
    fold-append (seen_step step) a x.seen (seen_in x v) ∙ fold-append (seen_step step) (fold (seen_step step) a x.seen) v.heads (map _ (rows_of x v))
    ∙ seen-rows step (fold (seen_step step) (fold (seen_step step) a x.seen) v.heads) (rows_of x v)

-- ---- the tale

-- what is told before the notes
abbrev pub tale_before : Conn → Move → Tale
tale_before x v = fold (seen_step (tale_step x.c)) (tale_at x) v.heads

-- what is told once the notes, the segments and what was given up are told
abbrev pub tale_said : Conn → Move → Tale → Tale
tale_said x v t = told_on x.c (told_on x.c (told_on x.c t v.said.notes) (map (sending v.place) v.said.segments)) v.said.gave

-- a message to another machine tells nothing
message-about : (c : ℕ) (from to : Place) → IsMachine to → is_cluster from && goes_to c to ≡ false
message-about c Front (Client d) h = absurd h
message-about c (Node k) (Client d) h = absurd h
message-about c (Client d) to h = refl
message-about c Front Front h = refl
message-about c Front (Node n) h = refl
message-about c (Node k) Front h = refl
message-about c (Node k) (Node n) h = refl

pub messages-tale : (c : ℕ) (place : Place) (ms : List (Place × List ℕ)) (t : Tale) → AreMessages c place ms → told_on c t (map (sending place) ms) ≡ t
messages-tale c place ms t of = others c t (map (sending place) ms) (about-none ms of) where
  about-none : (ms : List (Place × List ℕ)) → AreMessages c place ms → Each (λ r. about c r ≡ false) (map (sending place) ms)
  about-none [] e = tt
  about-none (m ∷ ms) e = (message-about c place m.0 e.0.0, about-none ms e.1)

-- nor does a timer
timer-about : (c d : ℕ) (place : Place) (r : Rec) → IsTimerAt place d r → about c r ≡ false
timer-about c d place (rec.Armed p k kind) h = refl
timer-about c d place (rec.Cleared p k kind) h = refl
timer-about c d place _ h = absurd h

pub timers-tale : (c d : ℕ) (place : Place) (rs : List Rec) (t : Tale) → Each (IsTimerAt place d) rs → told_on c t rs ≡ t
timers-tale c d place rs t e = others c t rs (Each-weaker (IsTimerAt place d) (λ r. about c r ≡ false) (timer-about c d place) rs e)

-- a move tells its heads, its notes, its segments and what it gave up
pub rows-tale : (x : Conn) (v : Move) (t : Tale) → AreMessages x.c v.place v.said.messages → told_on x.c t (rows_of x v) ≡ tale_said x v t
rows-tale x v t of =
    let segments : List Rec = map (sending v.place) v.said.segments in
    let messages : List Rec = map (sending v.place) v.said.messages in
    let timers : List Rec = timer_rows v.place x.c x.part v.part in
    let said : List Rec = v.said.notes ++ segments ++ v.said.gave in
    told_on-append x.c t (said ++ messages) timers
    ∙ timers-tale x.c x.c v.place timers (told_on x.c t (said ++ messages)) (timer_rows-are v.place x.c x.part v.part)
    ∙ told_on-append x.c t said messages
    ∙ messages-tale x.c v.place v.said.messages (told_on x.c t said) of
    ∙ told_on-append x.c t (v.said.notes ++ segments) v.said.gave
    ∙ ap (λ (u : Tale). told_on x.c u v.said.gave) (told_on-append x.c t v.said.notes segments)

pub grown-tale : (x : Conn) (v : Move) → AreMessages x.c v.place v.said.messages → tale_at (grown x v) ≡ tale_said x v (tale_before x v)
grown-tale x v of = grown-told (tale_step x.c) untold x v ∙ rows-tale x v (tale_before x v) of

-- ---- laws of a record by the tale of its connection

module _ (may : Tale → Rec → Type 0) (x : Conn) (v : Move) where
  abbrev Tells : Tale → List Rec → Type 0
  Tells t rs = TellsBy may x.c t rs

  -- all that is seen of a move may stand, once each part of it may
  pub move-lawful : EachRow (MayBeSeen may x.c) x.seen v.heads → Tells (tale_before x v) v.said.notes
      → Tells (told_on x.c (tale_before x v) v.said.notes) (map (sending v.place) v.said.segments)
      → Tells (told_on x.c (told_on x.c (tale_before x v) v.said.notes) (map (sending v.place) v.said.segments)) v.said.gave
      → Tells (tale_said x v (tale_before x v)) (map (sending v.place) v.said.messages)
      → Tells (told_on x.c (tale_said x v (tale_before x v)) (map (sending v.place) v.said.messages)) (timer_rows v.place x.c x.part v.part)
      → EachRow (MayBeSeen may x.c) x.seen (seen_in x v)
  move-lawful heads notes segments gave messages timers =
      let t : Tale = tale_before x v in
      let ss : List Rec = map (sending v.place) v.said.segments in
      let ms : List Rec = map (sending v.place) v.said.messages in
      let now : tale_of x.c (x.seen ++ v.heads) ≡ t = fold-append (seen_step (tale_step x.c)) untold x.seen v.heads in
      let two : told_on x.c t (v.said.notes ++ ss) ≡ told_on x.c (told_on x.c t v.said.notes) ss = told_on-append x.c t v.said.notes ss in
      let three : told_on x.c t (v.said.notes ++ ss ++ v.said.gave) ≡ tale_said x v t =
      told_on-append x.c t (v.said.notes ++ ss) v.said.gave ∙ ap (λ (u : Tale). told_on x.c u v.said.gave) two in
      let four : told_on x.c t (v.said.notes ++ ss ++ v.said.gave ++ ms) ≡ told_on x.c (tale_said x v t) ms =
      told_on-append x.c t (v.said.notes ++ ss ++ v.said.gave) ms ∙ ap (λ (u : Tale). told_on x.c u ms) three in
      let told : Tells t (rows_of x v) =
      TellsBy-append may x.c t (v.said.notes ++ ss ++ v.said.gave ++ ms) (timer_rows v.place x.c x.part v.part)
      (TellsBy-append may x.c t (v.said.notes ++ ss ++ v.said.gave) ms
      (TellsBy-append may x.c t (v.said.notes ++ ss) v.said.gave
      (TellsBy-append may x.c t v.said.notes ss notes segments)
      (subst (λ (u : Tale). Tells u v.said.gave) (sym two) gave))
      (subst (λ (u : Tale). Tells u ms) (sym three) messages))
      (subst (λ (u : Tale). Tells u (timer_rows v.place x.c x.part v.part)) (sym four) timers) in
      each_row-append (MayBeSeen may x.c) x.seen v.heads (map _ (rows_of x v)) heads
      (each_row-told may x.c (x.seen ++ v.heads) (rows_of x v) (subst (λ (u : Tale). Tells u (rows_of x v)) (sym now) told))

  -- and so may all that was seen before, with it
  pub grown-lawful : EachRow (MayBeSeen may x.c) [] x.seen → EachRow (MayBeSeen may x.c) x.seen (seen_in x v) → EachRow (MayBeSeen may x.c) [] (grown x v).seen
  grown-lawful past now = each_row-append (MayBeSeen may x.c) [] x.seen (seen_in x v) past now
