-- What a step sends is on its way behind it.
use Rattle.std.proofs.Common.{⊎_elim, ◌≡◌, ◌<◌, ◌≤◌, ℕ, ◌+◌, ◌-◌, Bool, true, false, cond, nat_eq, List, [], ◌∷◌, ◌++◌, length, Ok, refl, ap, ◌∙◌, arith, length-append}
use Rattle.std.specs.Prelude.{◌⊎◌}
use Rattle.std.proofs.lemmas.Bool.{cases_lt}
use Rattle.std.proofs.lemmas.List.{length-map}
use Rattle.std.proofs.lemmas.List.Sums.{fold-append}
use Rattle.std.specs.List.{fold}
use Rattle.lard_agenda.specs.Laws.{is_on_way, way_flag}
use Rattle.lard_law_view.specs.Prelude.{Event, HasRule, IsViewed, Machine, Out, Place, Rec, clocked, lose_at, machine_step, machine_told, packet_of, packets_of, passed, segments_sent, sent_records}
use Rattle.lard_base.specs.declared.event.Event.TheVariants as event
use Rattle.lard_law_connections.proofs.Calm.{first_rows, last_rows}
use Rattle.lard_law_view.proofs.AnyShape.{AnyShape, step-any}
use Rattle.lard_law_view.proofs.Shapes.{IsPut}
use Rattle.lard_law_settles.proofs.CourseWays.{OnlySend, SaysLittle, act-little, lost-length, none-send, rest-journal, sents-send}
use Rattle.lard_history.proofs.Seeing.{by_number, same_number}
use Rattle.lard_journal.specs.declared.rec.Rec.TheVariants as rec
use Rattle.lard_law_view.proofs.OwnRecords.{behind}

-- each packet that is new is on its way
abbrev pub AreNew : Machine → Machine → Type 0
AreNew m n = (k : ℕ) → length m.net < k → k ≤ length n.net → is_on_way n.journal k ≡ true

module _ (k : ℕ) where
  -- behind these records it is on its way, whatever was before
  abbrev Tells : List Rec → Type 0
  Tells rs = (was : Bool) → fold (way_flag k) was rs ≡ true

  tells-behind : (xs ys : List Rec) → Tells ys → Tells (xs ++ ys)
  tells-behind xs ys h was = fold-append (way_flag k) was xs ys ∙ h (fold (way_flag k) was xs)

  tells-before : (first : ℕ) (xs ys : List Rec) → Tells xs → OnlySend k first ys → Tells (xs ++ ys)
  tells-before first xs ys h s was = fold-append (way_flag k) was xs ys ∙ ap (λ b. fold (way_flag k) b ys) (h was) ∙ s.keeps

  -- it is among those of these numbers
  sents-tell : (first i : ℕ) (place : Place) (ss : List (Place × List ℕ)) → first < i → i ≤ k → k < i + length ss → Tells (sent_records i place ss)
  sents-tell first i place [] late from to was = absurd (omega (arith, from, to))
  sents-tell first i place (s ∷ ss) late from to was =
      let rest : OnlySend k first (sent_records (i + 1) place ss) = sents-send k first (i + 1) place ss (omega (arith, late)) in
      by_number (fold (way_flag k) (cond (nat_eq i k) true was) (sent_records (i + 1) place ss) ≡ true) i k
      (λ same. let t : nat_eq i k ≡ true = ap (λ j. nat_eq j k) same ∙ same_number k in
      ap (λ b. fold (way_flag k) (cond b true was) (sent_records (i + 1) place ss)) t ∙ rest.keeps)
      (λ other. sents-tell first (i + 1) place ss (omega (arith, late)) (omega (arith, from, other)) (omega (arith, to)) (cond (nat_eq i k) true was))

  -- among the segments or among the messages of a turn
  module _ (first : ℕ) (place : Place) (o : Out) (little : SaysLittle k first o) (i j : ℕ) (a : first < i) (b : first < j) where
    abbrev S : List Rec
    S = sent_records i place o.segments

    abbrev M : List Rec
    M = sent_records j place o.messages

    segment-tells : i ≤ k → k < i + length o.segments → Tells (o.notes ++ (S ++ o.gave ++ M ++ o.timers))
    segment-tells from to =
        tells-behind o.notes (S ++ o.gave ++ M ++ o.timers)
        (tells-before first (S ++ o.gave ++ M) o.timers
        (tells-before first (S ++ o.gave) M
        (tells-before first S o.gave (sents-tell first i place o.segments a from to) (none-send k first o.gave little.gave))
        (sents-send k first j place o.messages b))
        (none-send k first o.timers little.timers))

    message-tells : j ≤ k → k < j + length o.messages → Tells (o.notes ++ (S ++ o.gave ++ M ++ o.timers))
    message-tells from to =
        tells-behind o.notes (S ++ o.gave ++ M ++ o.timers)
        (tells-before first (S ++ o.gave ++ M) o.timers (tells-behind (S ++ o.gave) M (sents-tell first j place o.messages b from to)) (none-send k first o.timers little.timers))

-- ---- shape by shape

module _ (m : Machine) where
  told-new : (w : Machine) (e : Event) (place : Place) (o : Out) → IsPut m w → ((k : ℕ) → SaysLittle k (length m.net) o) → AreNew m (machine_told w e (behind e) place o)
  unfolding machine_told
  told-new w e place o put little k late within =
      let first : ℕ = length m.net in
      let same : length w.net ≡ first = ap (λ ps. length ps) put.net in
      let segments : length (packets_of place o.segments) ≡ length o.segments = length-map o.segments (packet_of place) in
      let messages : length (packets_of place o.messages) ≡ length o.messages = length-map o.messages (packet_of place) in
      let sum : length (segments_sent w place o) ≡ length w.net + length (packets_of place o.segments) = length-append w.net (packets_of place o.segments) in
      let all : length (segments_sent w place o ++ packets_of place o.messages) ≡ length (segments_sent w place o) + length (packets_of place o.messages) =
      length-append (segments_sent w place o) (packets_of place o.messages) in
      let i : ℕ = length w.net + 1 in
      let j : ℕ = length (segments_sent w place o) + 1 in
      let rest : List Rec = o.notes ++ last_rows w place o in
      let tells : (t : (k < j) ⊎ (j ≤ k)) → Tells k rest = λ t. ⊎_elim
      (λ (f : k < j). segment-tells k first place o (little k) i j (omega (arith, same)) (omega (arith, same, sum)) (omega (arith, late, same)) (omega (arith, f, sum, segments)))
      (λ (f : j ≤ k). message-tells k first place o (little k) i j (omega (arith, same)) (omega (arith, same, sum)) f (omega (arith, within, all, messages)))
      t in
      ap (λ (J : List Rec). is_on_way J k) (rest-journal w e place o) ∙ fold-append (way_flag k) false w.journal (first_rows w e ++ rest)
      ∙ tells-behind k (first_rows w e) rest (tells (cases_lt k j)) (is_on_way w.journal k)

  passed-new : (n : Machine) → length n.net ≡ length m.net → AreNew m n
  passed-new n same k late within = absurd (omega (arith, late, within, same))

  any-new : AnyShape m (λ e n. AreNew m n)
  unfolding clocked
  any-new = record {
    acts = λ w e place o act. told-new w e place o act.put (λ k. act-little k (length m.net) m w e place o act);
    nobody = λ k l at there. passed-new (passed m (event.Deliver k) (rec.Got k ∷ [])) refl;
    loses = λ k l at there. passed-new (passed (record m { net = lose_at (k - 1) m.net }) (event.Lose k) (rec.Lost k ∷ [])) (lost-length m.net (k - 1));
    clocks = λ ms. passed-new (passed (record m { now = m.now + ms }) (event.Clock ms) (rec.Clock (record { 0 = m.now + ms }) ∷ [])) refl;
  }

pub step-new : (m : Machine) → IsViewed m → (e : Event) (n : Machine) → HasRule e → machine_step m e ≡ Ok n → AreNew m n
step-new m view e n rule is = step-any m view (λ d k. AreNew m k) (any-new m) e n rule is
