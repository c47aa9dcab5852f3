-- What the journal tells of packets and of responses goes on as the state does, shape by shape.
use Rattle.std.proofs.Common.{◌≡◌, ℕ, ◌+◌, ◌-◌, List, [], ◌∷◌, ◌++◌, length, cond, Bool, true, false, Some, None, refl, sym, ap, ◌∙◌, subst, append_assoc, nat_eq}
use Rattle.std.specs.Prelude.{slice_get}
use Rattle.std.specs.List.{fold}
use Rattle.lard_law_view.specs.Prelude.{Config, Event, IsReached, Machine, Out, Packet, Place, Rec, answered_step, clocked, goal_in, lost_in, machine_start, machine_told, packet_at, packets_of, segments_sent, sent_records}
use Rattle.lard_base.specs.declared.event.Event.TheVariants as event
use Rattle.lard_laws.specs.StepsLaws.{SettingsStay}
use Rattle.lard_law_view.proofs.After.{IsAfter, step-after}
use Rattle.lard_law_view.proofs.AnyShape.{AnyShape, IsAct, SomeGift, SomeNote, SomeTimer, some-noted, step-any}
use Rattle.lard_law_view.proofs.Carried.{carried-keep}
use Rattle.lard_law_view.proofs.Heads.{ActsAt}
use Rattle.lard_law_view.proofs.Shapes.{IsPut}
use Rattle.lard_history.proofs.Each.{Each, Each-weaker}
use Rattle.lard_journal.specs.declared.rec.Rec.TheVariants as rec
use Rattle.lard_law_view.proofs.Packets.{IsUncounted, Linked, delivers, loses, sents, uncounted-all}
use Rattle.lard_law_view.proofs.OwnRecords.{behind}
use Rattle.lard_law_view.proofs.OfKinds.{of-gift, of-timer}
use Rattle.lard_law_view.proofs.RecordKinds.{IsNote}

-- a state's journal is one of its packets and responses
abbrev pub IsLinked : Machine → Type 0
IsLinked m = Linked m.journal m.net m.answered

-- ---- records that say nothing of packets

note-uncounted : (r : Rec) → IsNote r → IsUncounted r
note-uncounted (rec.Sent k from to bytes) h = absurd h
note-uncounted (rec.Got k) h = absurd h
note-uncounted (rec.Lost k) h = absurd h
note-uncounted _ h = tt

-- nor of responses
abbrev IsIdle : Rec → Type 0
IsIdle r = IsUncounted r × ((n : ℕ) → answered_step n r ≡ n)

idle-count : (n : ℕ) (rs : List Rec) → Each IsIdle rs → fold answered_step n rs ≡ n
idle-count n [] e = refl
idle-count n (r ∷ rs) e = ap (λ k. fold answered_step k rs) (e.0.1 n) ∙ idle-count n rs e.1

-- idle records behind a journal
idles : (J rs : List Rec) (net : List Packet) (answered : ℕ) → Each IsIdle rs → Linked J net answered → Linked (J ++ rs) net answered
idles J rs net answered e l =
    subst (λ n. Linked (J ++ rs) net n) (idle-count answered rs e) (uncounted-all J rs net answered (Each-weaker IsIdle IsUncounted (λ r h. h.0) rs e) l)

-- ---- a step in which a place acts

-- the event and what stands behind it
begun : (J : List Rec) (net : List Packet) (answered i : ℕ) (e : Event) (place : Place) → ActsAt net e place → Linked J net answered → Linked (J ++ rec.Event i e ∷ behind e) net answered
begun J net answered i (event.Open c isn iss wnd mss) place h l = uncounted-all J (rec.Event i (event.Open c isn iss wnd mss) ∷ rec.Opened c isn iss wnd mss ∷ []) net answered (tt, (tt, tt)) l
begun J net answered i (event.Inject c bytes) place h l = uncounted-all J (rec.Event i (event.Inject c bytes) ∷ rec.Injected c ∷ []) net answered (tt, (tt, tt)) l
begun J net answered i (event.Deliver k) place h l = delivers J net answered i k h.0 h.1 h.2 l
begun J net answered i (event.Lose k) place h l = let no : None ≡ Some place = h [] in absurd cc
begun J net answered i (event.Get c path) place h l = uncounted-all J (rec.Event i (event.Get c path) ∷ []) net answered (tt, tt) l
begun J net answered i (event.Write c bytes) place h l = uncounted-all J (rec.Event i (event.Write c bytes) ∷ []) net answered (tt, tt) l
begun J net answered i (event.Shut c) place h l = uncounted-all J (rec.Event i (event.Shut c) ∷ []) net answered (tt, tt) l
begun J net answered i (event.Abort c) place h l = uncounted-all J (rec.Event i (event.Abort c) ∷ []) net answered (tt, tt) l
begun J net answered i (event.Hold c) place h l = uncounted-all J (rec.Event i (event.Hold c) ∷ []) net answered (tt, tt) l
begun J net answered i (event.Take c) place h l = uncounted-all J (rec.Event i (event.Take c) ∷ []) net answered (tt, tt) l
begun J net answered i (event.Timer p c) place h l = uncounted-all J (rec.Event i (event.Timer p c) ∷ []) net answered (tt, tt) l
begun J net answered i (event.Disk n j) place h l = uncounted-all J (rec.Event i (event.Disk n j) ∷ []) net answered (tt, tt) l
begun J net answered i (event.Drain n) place h l = uncounted-all J (rec.Event i (event.Drain n) ∷ []) net answered (tt, tt) l
begun J net answered i (event.Clock ms) place h l = uncounted-all J (rec.Event i (event.Clock ms) ∷ []) net answered (tt, tt) l
begun J net answered i (event.Settle rounds) place h l = uncounted-all J (rec.Event i (event.Settle rounds) ∷ []) net answered (tt, tt) l

-- lists behind one another
five : (J A B C D E F : List Rec) → (((((J ++ A) ++ B) ++ C) ++ D) ++ E) ++ F ≡ J ++ (A ++ B ++ C ++ D ++ E ++ F)
five J A B C D E F =
    ap (λ xs. xs ++ F) (ap (λ xs. xs ++ E) (ap (λ xs. xs ++ D) (ap (λ xs. xs ++ C) (append_assoc J A B) ∙ append_assoc J (A ++ B) C) ∙ append_assoc J (A ++ B ++ C) D) ∙ append_assoc J (A ++ B ++ C ++ D) E)
    ∙ append_assoc J (A ++ B ++ C ++ D ++ E) F

module _ (m : Machine) (l : IsLinked m) where
  -- what a place keeps is put back, and nothing is told of packets
  put-linked : (w : Machine) → IsPut m w → IsLinked w
  put-linked w put =
      subst (λ (J : List Rec). Linked J w.net w.answered) (sym put.journal)
      (subst (λ (ps : List Packet). Linked m.journal ps w.answered) (sym put.net) (subst (λ n. Linked m.journal m.net n) (sym put.answered) l))

  told-linked : (w : Machine) (e : Event) (place : Place) (o : Out) → IsAct m w e place o → IsLinked (machine_told w e (behind e) place o)
  unfolding machine_told
  told-linked w e place o act =
      let put : IsPut m w = act.put in
      let notes : Each IsUncounted o.notes = Each-weaker (SomeNote place) IsUncounted (λ r h. note-uncounted r (some-noted place r h)) o.notes act.notes in
      let gave : Each IsIdle o.gave = Each-weaker (SomeGift place) IsIdle (λ r h. of-gift IsIdle (λ p d epoch. (tt, λ n. refl)) place h.0 r h.1) o.gave act.gave in
      let timers : Each IsIdle o.timers = Each-weaker (SomeTimer place) IsIdle (λ r h. of-timer IsIdle (λ p d kind. ((tt, λ n. refl), (tt, λ n. refl))) place h.0 r h.1) o.timers act.timers in
      let A : List Rec = rec.Event (w.events + 1) e ∷ behind e in
      let net : List Packet = segments_sent w place o in
      let answered : ℕ = w.answered + o.answered in
      let S : List Rec = sent_records (length w.net + 1) place o.segments in
      let M : List Rec = sent_records (length net + 1) place o.messages in
      let first : Linked (w.journal ++ A) w.net w.answered = begun w.journal w.net w.answered (w.events + 1) e place (subst (λ (ps : List Packet). ActsAt ps e place) (sym put.net) act.acts) (put-linked w put) in
      let noted : Linked (w.journal ++ A ++ o.notes) w.net answered =
      subst (λ n. Linked (w.journal ++ A ++ o.notes) w.net n) (act.counted w.answered) (uncounted-all (w.journal ++ A) o.notes w.net w.answered notes first) in
      let said : Linked (w.journal ++ A ++ o.notes ++ S) net answered = sents (w.journal ++ A ++ o.notes) w.net answered place o.segments noted in
      let given : Linked (w.journal ++ A ++ o.notes ++ S ++ o.gave) net answered = idles (w.journal ++ A ++ o.notes ++ S) o.gave net answered gave said in
      let written = sents (w.journal ++ A ++ o.notes ++ S ++ o.gave) net answered place o.messages given in
      let timed = idles (w.journal ++ A ++ o.notes ++ S ++ o.gave ++ M) o.timers (net ++ packets_of place o.messages) answered timers written in
      subst (λ (J : List Rec). Linked J (net ++ packets_of place o.messages) answered) (five w.journal A o.notes S o.gave M o.timers) timed

  passed-linked : (ms : ℕ) → IsLinked (clocked m ms)
  unfolding clocked
  passed-linked ms = uncounted-all m.journal (rec.Event (m.events + 1) (event.Clock ms) ∷ rec.Clock (record { 0 = m.now + ms }) ∷ []) m.net m.answered (tt, (tt, tt)) l

  any-link : AnyShape m (λ e n. IsLinked n)
  any-link = record {
    acts = told-linked;
    nobody = λ k q at there. delivers m.journal m.net m.answered (m.events + 1) k q at there.0 l;
    loses = λ k q at there. loses m.journal m.net m.answered (m.events + 1) k q at there l;
    clocks = passed-linked;
  }

-- ---- every state

none_at : (k : ℕ) → packet_at [] k ≡ None
none_at k = go (nat_eq k 0) where
  go : (b : Bool) → cond b None (slice_get {X = Packet} [] (k - 1)) ≡ None
  go true = refl
  go false = refl

start-linked : (config : Config) (files : List (List ℕ × List ℕ)) → IsLinked (machine_start config files)
start-linked config files = record {
  each = tt;
  is = record { packets = refl; sent = refl; bytes = refl; goals = λ k. ap goal_in (sym (none_at k)); lost = λ k. ap lost_in (sym (none_at k)) };
  bytes = refl;
}

pub reached-linked : (config : Config) (files : List (List ℕ × List ℕ)) (m : Machine) → IsReached config files m → IsLinked m
reached-linked config files m r = carried-keep config files IsLinked (start-linked config files)
    (λ k n e on l rule is. step-any k on.view (λ d i. IsLinked i) (any-link k l) e n rule is)
    m r

-- the settings are those of the start
pub settings-stay : SettingsStay
settings-stay config files m r = carried-keep config files (λ k. (k.config ≡ config) × (k.files ≡ files)) (refl, refl)
    (λ k n e on same rule is. let after : IsAfter k e n = step-after k on.view e n rule is in (after.config ∙ same.0, after.files ∙ same.1))
    m r
