-- What a record says of a place, the place that acts says; and the time is told in steps of the clock alone.
use Rattle.std.proofs.Common.{◌≡◌, ℕ, ◌+◌, ◌-◌, ◌≤◌, ◌<◌, List, [], ◌∷◌, ◌++◌, length, Some, None, inl, inr, refl, sym, ap, ◌∙◌, subst, arith, length-append}
use Rattle.std.proofs.lemmas.List.Sums.{fold-append}
use Rattle.std.specs.List.{fold}
use Rattle.lard_law_view.specs.Prelude.{ActsInPlace, Client, Config, EachMay, Event, Front, IsReached, KeepsTime, Machine, MayAct, MayTime, Node, Out, Packet, Place, Rec, clocked, first_place, goal_in, lose_at, machine_told, packets_of, passed, segments_sent, sent_records, time_of, time_step, told_rows}
use Rattle.lard_base.specs.declared.event.Event.TheVariants as event
use Rattle.lard_laws.proofs.StepsLinking.{IsLinked, reached-linked}
use Rattle.lard_law_view.proofs.AnyShape.{AnyShape, IsAct, SomeGift, SomeNote, SomeTimer, step-any}
use Rattle.lard_law_view.proofs.Carried.{carried-keep}
use Rattle.lard_law_view.proofs.Heads.{ActsAt}
use Rattle.lard_law_view.proofs.Saying.{GaveAt, NamesNobody, NotedAt}
use Rattle.lard_law_view.proofs.Shapes.{IsPut}
use Rattle.lard_law_view.proofs.Timers.{IsTimerAt}
use Rattle.lard_history.proofs.Acting.{IsActing, IsAt, IsInside, acting-lawful, comes-acting, named-acting, placeless-acts}
use Rattle.lard_history.proofs.Counts.{last_event-append}
use Rattle.lard_history.proofs.Each.{Each, Each-append, Each-weaker, each_append}
use Rattle.lard_journal.specs.declared.rec.Rec.TheVariants as rec
use Rattle.lard_law_view.proofs.PlaceRecords.{few, sents-at, sents-inside}
use Rattle.lard_law_view.proofs.OwnRecords.{behind}
use Rattle.lard_law_view.proofs.OfKinds.{each-may, of-sents}

-- ---- records that tell no time

abbrev pub IsTimeless : Rec → Type 0
IsTimeless (rec.Clock time) = ⊥
IsTimeless _ = Unit {0}

timeless-may : (past : List Rec) (r : Rec) → IsTimeless r → MayTime past r
timeless-may past (rec.Clock time) h = absurd h
timeless-may past _ h = tt

timeless-all : (past rs : List Rec) → Each IsTimeless rs → EachMay MayTime past rs
timeless-all past rs e = each-may IsTimeless MayTime timeless-may past rs e

timeless-step : (n : ℕ) (r : Rec) → IsTimeless r → time_step n r ≡ n
timeless-step n (rec.Clock time) h = absurd h
timeless-step n _ h = refl

timeless-fold : (n : ℕ) (rs : List Rec) → Each IsTimeless rs → fold time_step n rs ≡ n
timeless-fold n [] e = refl
timeless-fold n (r ∷ rs) e = ap (λ k. fold time_step k rs) (timeless-step n r e.0) ∙ timeless-fold n rs e.1

-- ---- records of a place

-- it names no other place, sends no packet, begins no step and tells no time
abbrev pub IsHere : Place → Rec → Type 0
IsHere p r = IsAt p r × ((k : ℕ) → IsInside k r) × IsTimeless r

note-here : (p : Place) (c : ℕ) (r : Rec) → NotedAt p c r → IsHere p r
note-here (Client e) c (rec.Wrote d bytes) h = (inl refl, (λ k. (refl, tt)), tt)
note-here (Client e) c (rec.Accepted d bytes) h = (inl refl, (λ k. (refl, tt)), tt)
note-here (Client e) c (rec.Eof d) h = (inl refl, (λ k. (refl, tt)), tt)
note-here (Client e) c (rec.Aborted d) h = (inl refl, (λ k. (refl, tt)), tt)
note-here Front c (rec.Took Front d epoch) h = (inr refl, (λ k. (refl, tt)), tt)
note-here Front c (rec.Served Front d r code size via) h = (inr refl, (λ k. (refl, tt)), tt)
note-here Front c (rec.Reset Front d total) h = (inr refl, (λ k. (refl, tt)), tt)
note-here Front c (rec.Waits d) h = (inl refl, (λ k. (refl, tt)), tt)
note-here Front c (rec.Admitted d) h = (inl refl, (λ k. (refl, tt)), tt)
note-here Front c (rec.AssignedFirst d r path n add remove) h = (inl refl, (λ k. (refl, tt)), tt)
note-here Front c (rec.AssignedLater d r path n add size queue) h = (inl refl, (λ k. (refl, tt)), tt)
note-here Front c (rec.BatchOver d) h = (inl refl, (λ k. (refl, tt)), tt)
note-here Front c (rec.Released d) h = (inl refl, (λ k. (refl, tt)), tt)
note-here (Node n) c (rec.Took (Node j) d epoch) h = (inr (ap (λ i. Some (Node i)) h.0), (λ k. (refl, tt)), tt)
note-here (Node n) c (rec.Served (Node j) d r code size via) h = (inr (ap (λ i. Some (Node i)) h.0), (λ k. (refl, tt)), tt)
note-here (Node n) c (rec.Reset (Node j) d total) h = (inr (ap (λ i. Some (Node i)) h.0), (λ k. (refl, tt)), tt)
note-here (Node n) c (rec.Queued j o d r path) h = (inr (ap (λ i. Some (Node i)) h.0), (λ k. (refl, tt)), tt)
note-here (Node n) c (rec.Read j o d r path) h = (inr (ap (λ i. Some (Node i)) h.0), (λ k. (refl, tt)), tt)
note-here (Node n) c (rec.Hit j path) h = (inr (ap (λ i. Some (Node i)) h), (λ k. (refl, tt)), tt)
note-here _ c _ h = absurd h

nobody-here : (p : Place) (r : Rec) → NamesNobody p r → IsHere p r
nobody-here Front (rec.Closed n) h = (inl refl, (λ k. (refl, tt)), tt)
nobody-here (Node n) (rec.Hit j path) h = (inr (ap (λ i. Some (Node i)) h), (λ k. (refl, tt)), tt)
nobody-here _ _ h = absurd h

some-here : (p : Place) (r : Rec) → SomeNote p r → IsHere p r
some-here p r (inl h) = note-here p h.0 r h.2
some-here p r (inr h) = nobody-here p r h

gave-here : (p : Place) (c : ℕ) (r : Rec) → GaveAt p c r → IsHere p r
gave-here Front c (rec.Gave Front d epoch) h = (inr refl, (λ k. (refl, tt)), tt)
gave-here (Node n) c (rec.Gave (Node j) d epoch) h = (inr (ap (λ i. Some (Node i)) h.0), (λ k. (refl, tt)), tt)
gave-here _ c _ h = absurd h

timer-here : (p : Place) (c : ℕ) (r : Rec) → IsTimerAt p c r → IsHere p r
timer-here p c (rec.Armed q d kind) h = (inr (ap Some h.0), (λ k. (refl, tt)), tt)
timer-here p c (rec.Cleared q d kind) h = (inr (ap Some h.0), (λ k. (refl, tt)), tt)
timer-here p c _ h = absurd h

-- what stands behind an event at which a place acts names none
pub behind-here : (p : Place) (e : Event) → Each (IsHere p) (behind e)
behind-here p (event.Open c isn iss wnd mss) = ((inl refl, (λ k. (refl, tt)), tt), tt)
behind-here p (event.Deliver k) = ((inl refl, (λ k. (refl, tt)), tt), tt)
behind-here p (event.Lose k) = ((inl refl, (λ k. (refl, tt)), tt), tt)
behind-here p (event.Inject c bytes) = ((inl refl, (λ k. (refl, tt)), tt), tt)
behind-here p _ = tt

sents-timeless : (k : ℕ) (p : Place) (ss : List (Place × List ℕ)) → Each IsTimeless (sent_records k p ss)
sents-timeless = of-sents IsTimeless (λ k from to bytes. tt)

-- ---- what an act says

-- all that it says is of its place
pub record AreHere (p : Place) (o : Out) : Type 0 where
  pub notes : Each (IsHere p) o.notes
  pub gave : Each (IsHere p) o.gave
  pub timers : Each (IsHere p) o.timers

pub act-here : (m w : Machine) (e : Event) (p : Place) (o : Out) → IsAct m w e p o → AreHere p o
act-here m w e p o act = record {
  notes = Each-weaker (SomeNote p) (IsHere p) (some-here p) o.notes act.notes;
  gave = Each-weaker (SomeGift p) (IsHere p) (λ r h. gave-here p h.0 r h.1) o.gave act.gave;
  timers = Each-weaker (SomeTimer p) (IsHere p) (λ r h. timer-here p h.0 r h.1) o.timers act.timers;
}

module _ (p : Place) where
  pub here-at : (rs : List Rec) → Each (IsHere p) rs → Each (IsAt p) rs
  here-at rs e = Each-weaker (IsHere p) (IsAt p) (λ r h. h.0) rs e

  here-inside : (k : ℕ) (rs : List Rec) → Each (IsHere p) rs → Each (IsInside k) rs
  here-inside k rs e = Each-weaker (IsHere p) (IsInside k) (λ r h. h.1 k) rs e

  here-timeless : (rs : List Rec) → Each (IsHere p) rs → Each IsTimeless rs
  here-timeless rs e = Each-weaker (IsHere p) IsTimeless (λ r h. h.2) rs e

-- the records of a step, list by list
pub all-six : (P : Rec → Type 0) (A B C D E F : List Rec) → Each P A → Each P B → Each P C → Each P D → Each P E → Each P F → Each P (A ++ B ++ C ++ D ++ E ++ F)
all-six P A B C D E F a b c d e f =
    Each-append P (A ++ B ++ C ++ D ++ E) F (Each-append P (A ++ B ++ C ++ D) E (Each-append P (A ++ B ++ C) D (Each-append P (A ++ B) C (Each-append P A B a b) c) d) e) f

-- ---- a step

-- It adds records that may stand there, and the time goes on by them.
record Adds (m n : Machine) : Type 0 where
  rows : List Rec
  is : n.journal ≡ m.journal ++ rows
  acts : EachMay MayAct m.journal rows
  times : EachMay MayTime m.journal rows
  now : fold time_step m.now rows ≡ n.now

module _ (m : Machine) (l : IsLinked m) (timed : time_of m.journal ≡ m.now) where
  -- who acts, by which packet if one comes
  acting-of : (e : Event) (place : Place) → ActsAt m.net e place → (k : ℕ) × (k ≤ length m.net) × IsActing m.journal e place k
  acting-of (event.Deliver k) place h = (k, few m.net k h.0 h.1, comes-acting m.journal k place (l.is.goals k ∙ ap goal_in h.1 ∙ ap Some h.3))
  acting-of e place h = (0, omega arith, named-acting m.journal e place h)

  told-adds : (w : Machine) (e : Event) (place : Place) (o : Out) → IsAct m w e place o → Adds m (machine_told w e (behind e) place o)
  unfolding machine_told
  told-adds w e place o act =
      let put : IsPut m w = act.put in
      let here : AreHere place o = act-here m w e place o act in
      let S : List Rec = sent_records (length w.net + 1) place o.segments in
      let M : List Rec = sent_records (length (segments_sent w place o) + 1) place o.messages in
      let rest : List Rec = behind e ++ o.notes ++ S ++ o.gave ++ M ++ o.timers in
      let by = acting-of e place act.acts in
      let few_w : by.0 ≤ length w.net = subst (λ (ps : List Packet). by.0 ≤ length ps) (sym put.net) by.1 in
      let first : by.0 < length w.net + 1 = omega (arith, few_w) in
      let second : by.0 < length (segments_sent w place o) + 1 = omega (arith, few_w, length-append w.net (packets_of place o.segments)) in
      let at : Each (IsAt place) rest = all-six (IsAt place) (behind e) o.notes S o.gave M o.timers (here-at place (behind e) (behind-here place e)) (here-at place o.notes here.notes)
      (sents-at (length w.net + 1) place o.segments) (here-at place o.gave here.gave) (sents-at (length (segments_sent w place o) + 1) place o.messages) (here-at place o.timers here.timers) in
      let inside : Each (IsInside by.0) rest = all-six (IsInside by.0) (behind e) o.notes S o.gave M o.timers (here-inside place by.0 (behind e) (behind-here place e))
      (here-inside place by.0 o.notes here.notes) (sents-inside by.0 (length w.net + 1) place o.segments first) (here-inside place by.0 o.gave here.gave)
      (sents-inside by.0 (length (segments_sent w place o) + 1) place o.messages second) (here-inside place by.0 o.timers here.timers) in
      let timeless : Each IsTimeless rest = all-six IsTimeless (behind e) o.notes S o.gave M o.timers (here-timeless place (behind e) (behind-here place e)) (here-timeless place o.notes here.notes)
      (sents-timeless (length w.net + 1) place o.segments) (here-timeless place o.gave here.gave) (sents-timeless (length (segments_sent w place o) + 1) place o.messages) (here-timeless place o.timers here.timers) in
      record {
        rows = told_rows w e (behind e) place o;
        is = ap (λ (J : List Rec). J ++ told_rows w e (behind e) place o) put.journal;
        acts = acting-lawful m.journal (w.events + 1) e place by.0 rest by.2 at inside;
        times = timeless-all m.journal (rec.Event (w.events + 1) e ∷ rest) (tt, timeless);
        now = timeless-fold m.now rest timeless ∙ sym put.now;
      }

  passed-adds : (w : Machine) (e : Event) (r : Rec) → w.journal ≡ m.journal → w.now ≡ m.now → first_place r ≡ None → IsTimeless r → Adds m (passed w e (r ∷ []))
  passed-adds w e r journal now none timeless = record {
    rows = rec.Event (w.events + 1) e ∷ r ∷ [];
    is = ap (λ (J : List Rec). J ++ (rec.Event (w.events + 1) e ∷ r ∷ [])) journal;
    acts = (placeless-acts m.journal (rec.Event (w.events + 1) e) refl, (placeless-acts (m.journal ++ rec.Event (w.events + 1) e ∷ []) r none, tt));
    times = (tt, (timeless-may (m.journal ++ rec.Event (w.events + 1) e ∷ []) r timeless, tt));
    now = timeless-step m.now r timeless ∙ sym now;
  }

  -- the time moves on
  clocks-adds : (ms : ℕ) → Adds m (clocked m ms)
  unfolding clocked
  clocks-adds ms =
      let E : Rec = rec.Event (m.events + 1) (event.Clock ms) in
      record {
        rows = E ∷ rec.Clock (record { 0 = m.now + ms }) ∷ [];
        is = refl;
        acts = (placeless-acts m.journal E refl, (placeless-acts (m.journal ++ E ∷ []) (rec.Clock (record { 0 = m.now + ms })) refl, tt));
        times = (tt, ((ms, last_event-append m.journal (E ∷ []), ap (λ n. n + ms) (sym (fold-append time_step 0 m.journal (E ∷ []) ∙ timed))), tt));
        now = refl;
      }

  any-add : AnyShape m (λ e n. Adds m n)
  any-add = record {
    acts = told-adds;
    nobody = λ k q at there. passed-adds m (event.Deliver k) (rec.Got k) refl refl refl tt;
    loses = λ k q at there. passed-adds (record m { net = lose_at (k - 1) m.net }) (event.Lose k) (rec.Lost k) refl refl refl tt;
    clocks = clocks-adds;
  }

-- ---- every state

-- Its records are of the places that acted, and the time is the one that was told last.
pub record IsInPlace (m : Machine) : Type 0 where
  pub acts : ActsInPlace m.journal
  pub times : KeepsTime m.journal
  pub now : time_of m.journal ≡ m.now

adds-more : (m n : Machine) → IsInPlace m → Adds m n → IsInPlace n
adds-more m n h a = record {
  acts = subst ActsInPlace (sym a.is) (each_append MayAct [] m.journal a.rows h.acts a.acts);
  times = subst KeepsTime (sym a.is) (each_append MayTime [] m.journal a.rows h.times a.times);
  now = ap time_of a.is ∙ fold-append time_step 0 m.journal a.rows ∙ ap (λ k. fold time_step k a.rows) h.now ∙ a.now;
}

pub reached-in-place : (config : Config) (files : List (List ℕ × List ℕ)) (m : Machine) → IsReached config files m → IsInPlace m
reached-in-place config files m r = carried-keep config files IsInPlace (record { acts = tt; times = tt; now = refl })
    (λ k n e on h rule is. adds-more k n h (step-any k on.view (λ d i. Adds k i) (any-add k (reached-linked config files k on.reached) h.now) e n rule is))
    m r
