-- What a step makes of the journal, of no one connection: it begins by its event and no other, and what the journal tells of
-- packets goes on as the network does.
use Rattle.std.proofs.Common.{◌≡◌, ℕ, ◌+◌, ◌-◌, List, [], ◌∷◌, ◌++◌, length, false, Ok, refl, sym, ap, ◌∙◌, true, not, ◌&&◌, append_assoc}
use Rattle.std.proofs.lemmas.List.Sums.{fold-append}
use Rattle.std.specs.List.{fold, list_all}
use Rattle.lard_law_view.specs.Prelude.{Event, HasRule, IsStep, IsViewed, Machine, Out, Packet, Place, Rec, answered_step, clocked, is_opening, is_own, lose_at, machine_step, machine_told, net_of, net_step, node_at, packets_of, passed, segments_sent, sent_records, told_rows}
use Rattle.lard_base.specs.declared.event.Event.TheVariants as event
use Rattle.lard_law_view.proofs.AnyShape.{AnyShape, IsAct, SomeGift, SomeNote, SomeTimer, some-noted, step-any}
use Rattle.lard_law_view.proofs.OfKinds.{OfTimers, of-gift, of-sents, of-timer}
use Rattle.lard_law_view.proofs.Saying.{IsStill, gave-still, note-passes}
use Rattle.lard_law_view.proofs.Shapes.{HasJobs, IsPut, NoneLeaves}
use Rattle.lard_law_view.proofs.Timers.{timer-still}
use Rattle.lard_history.proofs.Each.{Each, Each-append, Each-weaker}
use Rattle.lard_history.proofs.Stepping.{AreInside, IsOneStep}
use Rattle.lard_journal.specs.declared.rec.Rec.TheVariants as rec
use Rattle.lard_law_view.proofs.Firsts.{AreOthers, HasOwn, others_append, own-alone}
use Rattle.lard_law_view.proofs.SentPackets.{sents-net}
use Rattle.lard_law_view.proofs.OwnRecords.{behind}

-- Behind m comes one step, of this event, which counts the bytes of its responses, and the journal tells of the packets that there are. Settings stay, and so do the nodes and what their disks
-- are given.
pub record IsAfter (m : Machine) (e : Event) (n : Machine) : Type 0 where
  pub step : List Rec
  pub is : n.journal ≡ m.journal ++ step
  pub one : IsOneStep step
  pub events : n.events ≡ m.events + 1
  pub follows : IsStep n.events e step
  pub answered : fold answered_step m.answered step ≡ n.answered
  pub told : net_of n.journal ≡ n.net
  pub config : n.config ≡ m.config
  pub files : n.files ≡ m.files
  pub nodes : length n.nodes ≡ length m.nodes
  pub jobs : HasJobs m → HasJobs n
  pub remain : NoneLeaves m → NoneLeaves n

-- ---- records that begin no step, and tell of no packet

abbrev pub AreStill : List Rec → Type 0
AreStill rs = Each IsStill rs

still-net : (net : List Packet) (rs : List Rec) → AreStill rs → fold net_step net rs ≡ net
still-net net [] e = refl
still-net net (r ∷ rs) e = ap (λ n. fold net_step n rs) (e.0.1 net) ∙ still-net net rs e.1

still-inside : (rs : List Rec) → AreStill rs → AreInside rs
still-inside rs e = Each-weaker IsStill (λ r. is_opening r ≡ false) (λ r h. h.0) rs e

sents-inside : (k : ℕ) (place : Place) (ss : List (Place × List ℕ)) → AreInside (sent_records k place ss)
sents-inside k place [] = tt
sents-inside k place (s ∷ ss) = (refl, sents-inside (k + 1) place ss)

-- ---- records that count no response, and are no event's own

-- neither, wherever they stand
abbrev pub IsQuiet : Rec → Type 0
IsQuiet r = ((n : ℕ) → answered_step n r ≡ n) × (not (is_own r) ≡ true)

quiet-count : (n : ℕ) (rs : List Rec) → Each IsQuiet rs → fold answered_step n rs ≡ n
quiet-count n [] e = refl
quiet-count n (r ∷ rs) e = ap (λ k. fold answered_step k rs) (e.0.0 n) ∙ quiet-count n rs e.1

quiet-others : (rs : List Rec) → Each IsQuiet rs → AreOthers rs
quiet-others [] e = refl
quiet-others (r ∷ rs) e = ap (λ b. b && list_all (λ q. not (is_own q)) rs) e.0.1 ∙ quiet-others rs e.1

quiet-timers : OfTimers IsQuiet
quiet-timers p d kind = ((λ n. refl, refl), (λ n. refl, refl))

sents-quiet : (k : ℕ) (place : Place) (ss : List (Place × List ℕ)) → Each IsQuiet (sent_records k place ss)
sents-quiet = of-sents IsQuiet (λ k from to bytes. (λ n. refl, refl))

-- ---- what an act says

-- Its notes, gifts and timers begin no step and tell of no packet, and the last two count no response.
record IsStillOut (o : Out) : Type 0 where
  notes : AreStill o.notes
  gave : Each (λ r. IsStill r × IsQuiet r) o.gave
  timers : Each (λ r. IsStill r × IsQuiet r) o.timers

some-still : (place : Place) (r : Rec) → SomeNote place r → IsStill r
some-still place r h = note-passes r (some-noted place r h)

act-still : (m w : Machine) (e : Event) (place : Place) (o : Out) → IsAct m w e place o → IsStillOut o
act-still m w e place o act = record {
  notes = Each-weaker (SomeNote place) IsStill (some-still place) o.notes act.notes;
  gave = Each-weaker (SomeGift place) (λ r. IsStill r × IsQuiet r) (λ r h. (gave-still place h.0 r h.1, of-gift IsQuiet (λ p d epoch. (λ n. refl, refl)) place h.0 r h.1)) o.gave act.gave;
  timers = Each-weaker (SomeTimer place) (λ r. IsStill r × IsQuiet r) (λ r h. (timer-still place h.0 r h.1, of-timer IsQuiet quiet-timers place h.0 r h.1)) o.timers act.timers;
}

-- the event and its own records stand before all others
own_first : (r : Rec) (own rest notes S G M T : List Rec) → notes ≡ own ++ rest
    → (r ∷ []) ++ notes ++ S ++ G ++ M ++ T ≡ r ∷ own ++ (rest ++ S ++ G ++ M ++ T)
own_first r own rest notes S G M T e =
    ap (λ (ns : List Rec). r ∷ ns ++ S ++ G ++ M ++ T) e
    ∙ ap (λ l. l ++ G ++ M ++ T) (append_assoc (r ∷ own) rest S)
    ∙ ap (λ l. l ++ M ++ T) (append_assoc (r ∷ own) (rest ++ S) G)
    ∙ ap (λ l. l ++ T) (append_assoc (r ∷ own) (rest ++ S ++ G) M)
    ∙ append_assoc (r ∷ own) (rest ++ S ++ G ++ M) T

-- ---- a step

module _ (m : Machine) (known : net_of m.journal ≡ m.net) where
  told-after : (w : Machine) (e : Event) (place : Place) (o : Out) → IsAct m w e place o → IsAfter m e (machine_told w e (behind e) place o)
  unfolding machine_told
  told-after w e place o act =
      let put : IsPut m w = act.put in
      let has : HasOwn e (behind e ++ o.notes) = act.first in
      let still : IsStillOut o = act-still m w e place o act in
      let inside : Rec → Type 0 = λ r. is_opening r ≡ false in
      let Both : Rec → Type 0 = λ r. IsStill r × IsQuiet r in
      let gave_still : AreStill o.gave = Each-weaker Both IsStill (λ r h. h.0) o.gave still.gave in
      let timers_still : AreStill o.timers = Each-weaker Both IsStill (λ r h. h.0) o.timers still.timers in
      let gave_quiet : Each IsQuiet o.gave = Each-weaker Both IsQuiet (λ r h. h.1) o.gave still.gave in
      let timers_quiet : Each IsQuiet o.timers = Each-weaker Both IsQuiet (λ r h. h.1) o.timers still.timers in
      let A : List Rec = rec.Event (w.events + 1) e ∷ behind e in
      let S : List Rec = sent_records (length w.net + 1) place o.segments in
      let M : List Rec = sent_records (length (segments_sent w place o) + 1) place o.messages in
      let to_notes : fold net_step m.net (A ++ o.notes) ≡ m.net = fold-append net_step m.net A o.notes ∙ ap (λ n. fold net_step n o.notes) (still-net m.net (behind e) act.still) ∙ still-net m.net o.notes still.notes in
      let to_segments : fold net_step m.net (A ++ o.notes ++ S) ≡ m.net ++ packets_of place o.segments =
      fold-append net_step m.net (A ++ o.notes) S ∙ ap (λ n. fold net_step n S) to_notes ∙ sents-net m.net (length w.net + 1) place o.segments in
      let between : List Packet = m.net ++ packets_of place o.segments in
      let to_gave : fold net_step m.net (A ++ o.notes ++ S ++ o.gave) ≡ between =
      fold-append net_step m.net (A ++ o.notes ++ S) o.gave ∙ ap (λ n. fold net_step n o.gave) to_segments ∙ still-net between o.gave gave_still in
      let to_messages : fold net_step m.net (A ++ o.notes ++ S ++ o.gave ++ M) ≡ between ++ packets_of place o.messages =
      fold-append net_step m.net (A ++ o.notes ++ S ++ o.gave) M ∙ ap (λ n. fold net_step n M) to_gave ∙ sents-net between (length (segments_sent w place o) + 1) place o.messages in
      record {
        step = told_rows w e (behind e) place o;
        is = ap (λ (J : List Rec). J ++ told_rows w e (behind e) place o) put.journal;
        one = (
          refl,
          Each-append inside (behind e ++ o.notes ++ S ++ o.gave ++ M) o.timers
              (Each-append inside (behind e ++ o.notes ++ S ++ o.gave) M
              (Each-append inside (behind e ++ o.notes ++ S) o.gave
              (Each-append inside (behind e ++ o.notes) S
              (Each-append inside (behind e) o.notes (still-inside (behind e) act.still) (still-inside o.notes still.notes))
              (sents-inside (length w.net + 1) place o.segments))
              (still-inside o.gave gave_still))
              (sents-inside (length (segments_sent w place o) + 1) place o.messages))
              (still-inside o.timers timers_still),
        );
        events = ap (λ i. i + 1) put.events;
        follows = record {
          own = has.0;
          others = has.1 ++ S ++ o.gave ++ M ++ o.timers;
          is = own_first (rec.Event (w.events + 1) e) has.0 has.1 (behind e ++ o.notes) S o.gave M o.timers has.2;
          own_are = has.3;
          alone = others_append (has.1 ++ S ++ o.gave ++ M) o.timers
              (others_append (has.1 ++ S ++ o.gave) M
              (others_append (has.1 ++ S) o.gave
              (others_append has.1 S has.4 (quiet-others S (sents-quiet (length w.net + 1) place o.segments)))
              (quiet-others o.gave gave_quiet))
              (quiet-others M (sents-quiet (length (segments_sent w place o) + 1) place o.messages)))
              (quiet-others o.timers timers_quiet);
        };
        answered =
            fold-append answered_step m.answered (A ++ o.notes ++ S ++ o.gave ++ M) o.timers
            ∙ quiet-count (fold answered_step m.answered (A ++ o.notes ++ S ++ o.gave ++ M)) o.timers timers_quiet
            ∙ fold-append answered_step m.answered (A ++ o.notes ++ S ++ o.gave) M
            ∙ quiet-count (fold answered_step m.answered (A ++ o.notes ++ S ++ o.gave)) M (sents-quiet (length (segments_sent w place o) + 1) place o.messages)
            ∙ fold-append answered_step m.answered (A ++ o.notes ++ S) o.gave
            ∙ quiet-count (fold answered_step m.answered (A ++ o.notes ++ S)) o.gave gave_quiet
            ∙ fold-append answered_step m.answered (A ++ o.notes) S
            ∙ quiet-count (fold answered_step m.answered (A ++ o.notes)) S (sents-quiet (length w.net + 1) place o.segments)
            ∙ fold-append answered_step m.answered A o.notes
            ∙ ap (λ n. fold answered_step n o.notes) (act.uncounted m.answered)
            ∙ act.counted m.answered
            ∙ ap (λ n. n + o.answered) (sym put.answered);
        told =
            fold-append net_step [] w.journal (told_rows w e (behind e) place o)
            ∙ ap (λ n. fold net_step n (told_rows w e (behind e) place o)) (ap net_of put.journal ∙ known)
            ∙ fold-append net_step m.net (A ++ o.notes ++ S ++ o.gave ++ M) o.timers
            ∙ ap (λ n. fold net_step n o.timers) to_messages
            ∙ still-net (between ++ packets_of place o.messages) o.timers timers_still
            ∙ ap (λ (n : List Packet). n ++ packets_of place o.segments ++ packets_of place o.messages) (sym put.net);
        config = put.config;
        files = put.files;
        nodes = put.nodes;
        jobs = put.jobs;
        remain = put.remain;
      }

  passed-after : (w : Machine) (e : Event) (r : Rec) → w.journal ≡ m.journal → w.events ≡ m.events → w.answered ≡ m.answered → HasOwn e (r ∷ []) → ((n : ℕ) → answered_step n r ≡ n) → w.config ≡ m.config → w.files ≡ m.files → w.nodes ≡ m.nodes → is_opening r ≡ false → net_step m.net r ≡ w.net → IsAfter m e (passed w e (r ∷ []))
  passed-after w e r journal events answered has uncounted config files nodes inside net = record {
    step = rec.Event (w.events + 1) e ∷ r ∷ [];
    is = ap (λ (J : List Rec). J ++ rec.Event (w.events + 1) e ∷ r ∷ []) journal;
    one = (refl, (inside, tt));
    events = ap (λ i. i + 1) events;
    follows = record { own = has.0; others = has.1; is = ap (λ (rs : List Rec). rec.Event (w.events + 1) e ∷ rs) has.2; own_are = has.3; alone = has.4 };
    answered = uncounted m.answered ∙ sym answered;
    told = fold-append net_step [] w.journal (rec.Event (w.events + 1) e ∷ r ∷ []) ∙ ap (λ n. net_step n r) (ap net_of journal ∙ known) ∙ net;
    config = config;
    files = files;
    nodes = ap (λ ns. length ns) nodes;
    jobs = λ h n s at. h n s (ap (λ ns. node_at ns n) (sym nodes) ∙ at);
    remain = λ h n s at. h n s (ap (λ ns. node_at ns n) (sym nodes) ∙ at);
  }

  after-any : AnyShape m (λ e n. IsAfter m e n)
  unfolding clocked
  after-any = record {
    acts = told-after;
    nobody = λ k l at there. passed-after m (event.Deliver k) (rec.Got k) refl refl refl (own-alone (event.Deliver k) (rec.Got k ∷ []) refl) (λ n. refl) refl refl refl refl refl;
    loses = λ k l at there. passed-after (record m { net = lose_at (k - 1) m.net }) (event.Lose k) (rec.Lost k) refl refl refl (own-alone (event.Lose k) (rec.Lost k ∷ []) refl) (λ n. refl) refl refl refl refl refl;
    clocks = λ ms. passed-after (record m { now = m.now + ms }) (event.Clock ms) (rec.Clock (record { 0 = m.now + ms })) refl refl refl
        (own-alone (event.Clock ms) (rec.Clock (record { 0 = m.now + ms }) ∷ []) (record { 0 = m.now + ms }, refl)) (λ n. refl) refl refl refl refl refl;
  }

pub step-after : (m : Machine) → IsViewed m → (e : Event) (n : Machine) → HasRule e → machine_step m e ≡ Ok n → IsAfter m e n
step-after m view e n rule is = step-any m view (λ d k. IsAfter m d k) (after-any m view.told) e n rule is
