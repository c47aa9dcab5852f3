-- What a step says besides its notes: its event, packets, gifts and timers. A law that looks at none of these owes a word for each
-- (`Allows`); where only such places act whose notes it does not look at either, it looks at nothing of the step (`step-calm`).
use Rattle.std.proofs.Common.{◌≡◌, ℕ, ◌+◌, List, [], ◌∷◌, ◌++◌, length, Ok, ap, ◌∙◌, refl, sym, subst, append_assoc, inl, inr}
use Rattle.lard_law_view.specs.Prelude.{Epoch, Event, Front, HasRule, IsViewed, Machine, Millis, Node, Out, Part, Place, Rec, TimerKind, clocked, machine_step, machine_told, passed, segments_sent, sent_records, timer_rows}
use Rattle.lard_base.specs.declared.event.Event.TheVariants as event
use Rattle.lard_law_view.proofs.AnyShape.{AnyShape, IsAct, SomeGift, SomeNote, SomeTimer, step-any}
use Rattle.lard_law_view.proofs.Heads.{ActsAt}
use Rattle.lard_law_view.proofs.Saying.{GaveAt, NamesNobody, NotedAt}
use Rattle.lard_law_view.proofs.Timers.{IsTimerAt, timer_rows-are}
use Rattle.lard_history.proofs.Each.{Each, Each-append, Each-weaker}
use Rattle.lard_journal.specs.declared.rec.Rec.TheVariants as rec
use Rattle.lard_law_view.proofs.OwnRecords.{behind}

-- ---- the records of an act: the event with what stands directly behind it, the notes, and all others

abbrev pub first_rows : Machine → Event → List Rec
first_rows w e = rec.Event (w.events + 1) e ∷ behind e

abbrev pub last_rows : Machine → Place → Out → List Rec
last_rows w place o = sent_records (length w.net + 1) place o.segments ++ o.gave ++ sent_records (length (segments_sent w place o) + 1) place o.messages ++ o.timers

regroup : (A S G M T : List Rec) → A ++ S ++ G ++ M ++ T ≡ A ++ (S ++ G ++ M ++ T)
regroup A S G M T = ap (λ l. l ++ M ++ T) (append_assoc A S G) ∙ ap (λ l. l ++ T) (append_assoc A (S ++ G) M) ∙ append_assoc A (S ++ G ++ M) T

pub told-journal : (w : Machine) (e : Event) (place : Place) (o : Out)
    → (machine_told w e (behind e) place o).journal ≡ w.journal ++ (first_rows w e ++ o.notes ++ last_rows w place o)
unfolding machine_told
told-journal w e place o = ap (λ (rs : List Rec). w.journal ++ rs)
    (regroup (first_rows w e ++ o.notes) (sent_records (length w.net + 1) place o.segments) o.gave (sent_records (length (segments_sent w place o) + 1) place o.messages) o.timers)

-- ---- what is no note

-- It is so of each record that is neither a note nor of the clock.
pub record Allows (P : Rec → Type 0) : Type 0 where
  pub event : (i : ℕ) (e : Event) → P (rec.Event i e)
  pub opened : (c isn iss wnd mss : ℕ) → P (rec.Opened c isn iss wnd mss)
  pub injected : (c : ℕ) → P (rec.Injected c)
  pub got : (k : ℕ) → P (rec.Got k)
  pub lost : (k : ℕ) → P (rec.Lost k)
  pub sent : (k : ℕ) (from to : Place) (bytes : List ℕ) → P (rec.Sent k from to bytes)
  pub gave : (place : Place) (c : ℕ) (epoch : Epoch) → P (rec.Gave place c epoch)
  pub armed : (place : Place) (c : ℕ) (kind : TimerKind) → P (rec.Armed place c kind)
  pub cleared : (place : Place) (c : ℕ) (kind : TimerKind) → P (rec.Cleared place c kind)

module _ (P : Rec → Type 0) (k : Allows P) where
  pub behind-calm : (e : Event) → Each P (behind e)
  behind-calm (event.Open c isn iss wnd mss) = (k.opened c isn iss wnd mss, tt)
  behind-calm (event.Deliver i) = (k.got i, tt)
  behind-calm (event.Lose i) = (k.lost i, tt)
  behind-calm (event.Inject c bytes) = (k.injected c, tt)
  behind-calm _ = tt

  pub first-calm : (w : Machine) (e : Event) → Each P (first_rows w e)
  first-calm w e = (k.event (w.events + 1) e, behind-calm e)

  pub gift-calm : (place : Place) (c : ℕ) (r : Rec) → GaveAt place c r → P r
  gift-calm Front c (rec.Gave Front d epoch) h = k.gave Front d epoch
  gift-calm (Node n) c (rec.Gave (Node i) d epoch) h = k.gave (Node i) d epoch
  gift-calm _ c _ h = absurd h

  pub timer-calm : (place : Place) (c : ℕ) (r : Rec) → IsTimerAt place c r → P r
  timer-calm place c (rec.Armed p d kind) h = k.armed p d kind
  timer-calm place c (rec.Cleared p d kind) h = k.cleared p d kind
  timer-calm place c _ h = absurd h

  pub gifts-calm : (place : Place) (rs : List Rec) → Each (SomeGift place) rs → Each P rs
  gifts-calm place rs e = Each-weaker (SomeGift place) P (λ r h. gift-calm place h.0 r h.1) rs e

  pub timers-calm : (place : Place) (rs : List Rec) → Each (SomeTimer place) rs → Each P rs
  timers-calm place rs e = Each-weaker (SomeTimer place) P (λ r h. timer-calm place h.0 r h.1) rs e

  pub changed-calm : (place : Place) (c : ℕ) (p q : Part) (rs : List Rec) → rs ≡ timer_rows place c p q → Each P rs
  changed-calm place c p q rs e = subst (Each P) (sym e) (Each-weaker (IsTimerAt place c) P (timer-calm place c) (timer_rows place c p q) (timer_rows-are place c p q))

  sents-calm : (i : ℕ) (place : Place) (ss : List (Place × List ℕ)) → Each P (sent_records i place ss)
  sents-calm i place [] = tt
  sents-calm i place (s ∷ ss) = (k.sent i place s.0 s.1, sents-calm (i + 1) place ss)

  pub last-calm : (w : Machine) (place : Place) (o : Out) → Each P o.gave → Each P o.timers → Each P (last_rows w place o)
  last-calm w place o gave timers =
      let S : List Rec = sent_records (length w.net + 1) place o.segments in
      let M : List Rec = sent_records (length (segments_sent w place o) + 1) place o.messages in
      let before : Each P (S ++ o.gave) = Each-append P S o.gave (sents-calm (length w.net + 1) place o.segments) gave in
      let later : Each P M = sents-calm (length (segments_sent w place o) + 1) place o.messages in
      Each-append P (S ++ o.gave ++ M) o.timers (Each-append P (S ++ o.gave) M before later) timers

-- ---- a step

-- what the journal of n has behind that of m is so
abbrev pub IsCalm : (Rec → Type 0) → Machine → Machine → Type 0
IsCalm P m n = (rs : List Rec) × (n.journal ≡ m.journal ++ rs) × Each P rs

-- so it is of the record of the clock, where the event is one of it
abbrev pub AtClock : (Rec → Type 0) → Event → Type 0
AtClock P (event.Clock ms) = (time : Millis) → P (rec.Clock time)
AtClock P _ = Unit {0}

pub every-clock : (P : Rec → Type 0) → ((time : Millis) → P (rec.Clock time)) → (e : Event) → AtClock P e
every-clock P clock (event.Clock ms) = clock
every-clock P clock _ = tt

-- what notes of these places say is so
pub record AllowsNotes (Who : Place → Type 0) (P : Rec → Type 0) : Type 0 where
  pub named : (place : Place) (c : ℕ) (r : Rec) → Who place → NotedAt place c r → P r
  pub nobody : (place : Place) (r : Rec) → Who place → NamesNobody place r → P r

-- only such places act in the step of the event
abbrev pub OnlyAct : (Place → Type 0) → Machine → Event → Type 0
OnlyAct Who m e = (place : Place) → ActsAt m.net e place → Who place

pub passed-calm : (P : Rec → Type 0) → Allows P → (m : Machine) (e : Event) → IsCalm P m (passed m e (behind e))
passed-calm P k m e = (first_rows m e, refl, first-calm P k m e)

module _ (P : Rec → Type 0) (k : Allows P) (Who : Place → Type 0) (notes : AllowsNotes Who P) (m : Machine) where
  abbrev Calms : Event → Machine → Type 0
  Calms e n = AtClock P e → OnlyAct Who m e → IsCalm P m n

  allowed : (place : Place) → Who place → (r : Rec) → SomeNote place r → P r
  allowed place who r (inl h) = notes.named place h.0 r who h.2
  allowed place who r (inr h) = notes.nobody place r who h

  told-calm : (w : Machine) (e : Event) (place : Place) (o : Out) → IsAct m w e place o → Who place → IsCalm P m (machine_told w e (behind e) place o)
  told-calm w e place o act who = (
    first_rows w e ++ o.notes ++ last_rows w place o,
    told-journal w e place o ∙ ap (λ (J : List Rec). J ++ (first_rows w e ++ o.notes ++ last_rows w place o)) act.put.journal,
    Each-append P (first_rows w e ++ o.notes) (last_rows w place o)
        (Each-append P (first_rows w e) o.notes (first-calm P k w e) (Each-weaker (SomeNote place) P (allowed place who) o.notes act.notes))
        (last-calm P k w place o (gifts-calm P k place o.gave act.gave) (timers-calm P k place o.timers act.timers)),
  )

  any-calm : AnyShape m Calms
  unfolding clocked
  any-calm = record {
    acts = λ w e place o act clock only. told-calm w e place o act (only place act.acts);
    nobody = λ i l at there clock only. passed-calm P k m (event.Deliver i);
    loses = λ i l at there clock only. passed-calm P k m (event.Lose i);
    clocks = λ ms clock only. (
      rec.Event (m.events + 1) (event.Clock ms) ∷ rec.Clock (record { 0 = m.now + ms }) ∷ [],
      refl,
      (k.event (m.events + 1) (event.Clock ms), (clock (record { 0 = m.now + ms }), tt)),
    );
  }

  pub step-calm : IsViewed m → (e : Event) (n : Machine) → HasRule e → machine_step m e ≡ Ok n → AtClock P e → OnlyAct Who m e → IsCalm P m n
  step-calm view e n rule is = step-any m view Calms any-calm e n rule is
