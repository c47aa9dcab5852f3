-- In every step, and so in every run, the contents that nodes send are those of files that they have.
use Rattle.std.proofs.Common.{◌≡◌, ℕ, ◌+◌, ◌-◌, List, [], ◌∷◌, ◌++◌, map, length, Some, Ok, refl, sym, ap, ◌∙◌, subst, inl, inr, ⊎_elim}
use Rattle.std.specs.Prelude.{◌⊎◌}
use Rattle.lard_law_view.specs.Prelude.{Client, Event, Front, Has, HasRule, IsViewed, Letter, Machine, Move, Node, Out, Packet, Part, Place, Rec, Row, Seen, clocked, conn, decoded_message, file_at, letter_of, lose_at, machine_step, machine_told, packet_at, packet_seen, segments_sent, sent_records, setting_of}
use Rattle.lard_base.specs.declared.event.Event.TheVariants as event
use Rattle.lard_law_connections.proofs.Calm.{first_rows, last_rows}
use Rattle.lard_law_view.proofs.After.{IsAfter, step-after}
use Rattle.lard_law_view.proofs.AnyShape.{IsAct, SomeGift, SomeNote, SomeTimer, each-act, each-flat, one-act, two-act}
use Rattle.lard_law_view.proofs.Carried.{carried-keep}
use Rattle.lard_law_view.proofs.Saying.{NamesAll}
use Rattle.lard_law_view.proofs.Shapes.{ActsOn, ActsOnEach, Mover, Shapes, both_out, each_out, move_of, mover_move}
use Rattle.lard_law_view.proofs.Stepping.{step-has}
use Rattle.lard_laws.specs.WaysContents.{ContentsAreFiles, MustBring}
use Rattle.lard_laws.proofs.WaysBringing.{Good, IsPlain, all-may, all_rows, fetch-good, gave-plain, may_in, none-plain, note-plain, noted-has, others-plain, passed-good, timer-plain, to-client, told-good}
use Rattle.lard_laws.proofs.WaysQuiet.{IsNone, SentNone}
use Rattle.lard_laws.proofs.WaysSending.{Brings, Fetches, HoldsNone, Owes, SaysAt, SaysOfContents, each-holds, rules}
use Rattle.lard_history.proofs.Each.{Each, Each-weaker}
use Rattle.lard_history.proofs.Seeing.{has-before, has-behind}
use Rattle.lard_history.proofs.Stepping.{AreLawful, cancel, one-more}
use Rattle.lard_journal.specs.declared.rec.Rec.TheVariants as rec
use Rattle.lard_law_view.proofs.Deliveries.{IsDelivered}
use Rattle.lard_law_view.proofs.OwnRecords.{behind}

-- the step brings a Fetch to node i
record IsFetched (m : Machine) (e : Event) : Type 0 where
  k : ℕ
  i : ℕ
  p : Packet
  c : ℕ
  its : (heads : List Seen) × Fetches (setting_of m) c i heads
  event_is : e ≡ event.Deliver k
  at : packet_at m.net k ≡ Some p
  letter_is : letter_of p ≡ record { from = Node its.1.from; to = Node i; bytes = its.1.bytes }

notes-plain : (place : Place) (rs : List Rec) → Each (SomeNote place) rs → Each IsPlain rs
notes-plain place rs h = Each-weaker (SomeNote place) IsPlain (note-plain place) rs h

gifts-plain : (place : Place) (rs : List Rec) → Each (SomeGift place) rs → Each IsPlain rs
gifts-plain place rs h = Each-weaker (SomeGift place) IsPlain (λ r k. gave-plain place k.0 r k.1) rs h

timers-plain : (place : Place) (rs : List Rec) → Each (SomeTimer place) rs → Each IsPlain rs
timers-plain place rs h = Each-weaker (SomeTimer place) IsPlain (λ r k. timer-plain place k.0 r k.1) rs h

module _ (m : Machine) (held : (q : ℕ) → HoldsNone (conn m q)) where
  abbrev IsEither : Event → Machine → Type 0
  IsEither e n = IsFetched m e ⊎ Good m n

  any-good : (w : Machine) (e : Event) (place : Place) (o : Out) → IsAct m w e place o → Each IsPlain (sent_records (length w.net + 1) place o.segments)
      → Each (may_in m (all_rows m w e place o)) (sent_records (length (segments_sent w place o) + 1) place o.messages) → Good m (machine_told w e (behind e) place o)
  any-good w e place o act segments messages =
      told-good m w e place o act.put.journal (notes-plain place o.notes act.notes) segments (gifts-plain place o.gave act.gave) messages (timers-plain place o.timers act.timers)

  -- a place that is no node's sends no contents
  others-good : (w : Machine) (e : Event) (place : Place) (o : Out) → NamesAll place → IsAct m w e place o → Good m (machine_told w e (behind e) place o)
  others-good w e place o names act =
      any-good w e place o act (others-plain (length w.net + 1) place o.segments names)
      (all-may m (all_rows m w e place o) (sent_records (length (segments_sent w place o) + 1) place o.messages) (others-plain (length (segments_sent w place o) + 1) place o.messages names))

  -- ---- a place acts on one connection

  module _ (w : Machine) (e : Event) (o : Out) (c : ℕ) (heads : List Seen) (ns : List Rec) (p : Part) where
    abbrev messages_in : Place → List Rec
    messages_in place = sent_records (length (segments_sent w place o) + 1) place o.messages

    acts-good : (place : Place) → ActsOn m w e place o c heads ns p → Each IsPlain (sent_records (length w.net + 1) place o.segments) → Each (may_in m (all_rows m w e place o)) (messages_in place) → Good m (machine_told w e (behind e) place o)
    acts-good place act segments messages = any-good w e place o (one-act m w e place o c heads ns p act) segments messages

    module _ (i : ℕ) (act : ActsOn m w e (Node i) o c heads ns p) where
      abbrev v : Move
      v = move_of (Node i) heads ns o p

      fetched : Fetches (setting_of m) (conn m c).c i heads → IsFetched m e
      fetched f =
          let came : Each (IsDelivered m.net e) (packet_seen (Node f.from) (Node i) f.bytes) = subst (Each (IsDelivered m.net e)) f.came act.begins.came in
          record { k = came.0.0; i = i; p = came.0.1; c = (conn m c).c; its = (heads, f); event_is = came.0.2; at = came.0.3; letter_is = came.0.4 }

      -- the record of the job is in the step
      read-there : (b : Brings (setting_of m) (conn m c).c i v) → Has (rec.Read i b.from (conn m c).c b.r b.path) (all_rows m w e (Node i) o)
      read-there b =
          let r : Rec = rec.Read i b.from (conn m c).c b.r b.path in
          let seen : Has (Row r) (map Row ns) = subst (λ (l : List Rec). Has (Row r) (map Row l)) (sym b.notes) (inl refl) in
          has-before r (first_rows w e ++ o.notes) (last_rows w (Node i) o)
          (has-behind r (first_rows w e) o.notes (noted-has (Node i) c m.net r o.notes act.said.notes (subst (Has (Row r)) (sym (act.notes m.net)) seen)))

      brings-may : (b : Brings (setting_of m) (conn m c).c i v) → Each (may_in m (all_rows m w e (Node i) o)) (messages_in (Node i))
      brings-may b =
          let N : ℕ = length (segments_sent w (Node i) o) + 1 in
          subst (λ (ms : List (Place × List ℕ)). Each (may_in m (all_rows m w e (Node i) o)) (sent_records N (Node i) ms)) (sym b.messages)
          ((λ content. record { c = (conn m c).c; epoch = b.epoch; r = b.r; path = b.path; is = refl; by = inr (read-there b) }), tt)

      node-good : SaysOfContents (setting_of m) (conn m c) i v → IsEither e (machine_told w e (behind e) (Node i) o)
      node-good says =
          let segments : Each IsPlain (sent_records (length w.net + 1) (Node i) o.segments) = to-client i (conn m c).c (length w.net + 1) o.segments says.segments in
          ⊎_elim
          (λ (none : SentNone o.messages). inr (acts-good (Node i) act segments (all-may m (all_rows m w e (Node i) o) (messages_in (Node i)) (none-plain (length (segments_sent w (Node i) o) + 1) (Node i) o.messages none))))
          (λ (some : Fetches (setting_of m) (conn m c).c i heads ⊎ Brings (setting_of m) (conn m c).c i v).
          ⊎_elim
          (λ (f : Fetches (setting_of m) (conn m c).c i heads). inl (fetched f))
          (λ (b : Brings (setting_of m) (conn m c).c i v). inr (acts-good (Node i) act segments (brings-may b)))
          some)
          says.messages

    one-good : (place : Place) → ActsOn m w e place o c heads ns p → SaysAt (setting_of m) (conn m c) (move_of place heads ns o p) place → IsEither e (machine_told w e (behind e) place o)
    one-good Front act says = inr (others-good w e Front o tt (one-act m w e Front o c heads ns p act))
    one-good (Client d) act says = inr (others-good w e (Client d) o tt (one-act m w e (Client d) o c heads ns p act))
    one-good (Node i) act says = node-good i act says

  -- ---- a place acts on each of many

  -- one that sees nothing and notes nothing sends no contents
  mover-none : (i : ℕ) (x : Mover) → SaysOfContents (setting_of m) (conn m x.c) i (mover_move (Node i) x) → SentNone x.messages
  mover-none i x says = ⊎_elim
      (λ (none : SentNone x.messages). none)
      (λ (some : Fetches (setting_of m) (conn m x.c).c i [] ⊎ Brings (setting_of m) (conn m x.c).c i (mover_move (Node i) x)).
      ⊎_elim
      (λ (f : Fetches (setting_of m) (conn m x.c).c i []). absurd (let no : [] ≡ packet_seen (Node f.from) (Node i) f.bytes = f.came in cc))
      (λ (b : Brings (setting_of m) (conn m x.c).c i (mover_move (Node i) x)). absurd (let no : [] ≡ rec.Read i b.from (conn m x.c).c b.r b.path ∷ [] = b.notes in cc))
      some)
      says.messages

  each-good : (w : Machine) (e : Event) (place : Place) (notes : List Rec) (xs : List Mover) → ActsOnEach m w e place notes xs → Each (λ x. Owes (setting_of m) (conn m x.c) (mover_move place x)) xs
      → Good m (machine_told w e (behind e) place (each_out notes xs))
  each-good w e Front notes xs act owes = others-good w e Front (each_out notes xs) tt (each-act m w e Front notes xs act)
  each-good w e (Client d) notes xs act owes = others-good w e (Client d) (each_out notes xs) tt (each-act m w e (Client d) notes xs act)
  each-good w e (Node i) notes xs act owes =
      let o : Out = each_out notes xs in
      let N : ℕ = length (segments_sent w (Node i) o) + 1 in
      let none : SentNone o.messages = each-flat (λ s. IsNone s.1) (λ x. x.messages) xs
      (Each-weaker (λ x. Owes (setting_of m) (conn m x.c) (mover_move (Node i) x)) (λ x. SentNone x.messages) (λ x h. mover-none i x (h (held x.c)).1) xs owes) in
      any-good w e (Node i) o (each-act m w e (Node i) notes xs act) tt (all-may m (all_rows m w e (Node i) o) (sent_records N (Node i) o.messages) (none-plain N (Node i) o.messages none))

  -- ---- each shape

  shapes-good : Shapes m (Owes (setting_of m)) IsEither
  unfolding clocked
  shapes-good = record {
    one = λ w e place o c heads ns p act owes. one-good w e o c heads ns p place act (owes (held c)).1;
    two = λ w e a b z rows c d heads ns p r act does too. inr (others-good w e Front (both_out a b z rows) tt (two-act m w e a b z rows c d heads ns p r act));
    each = λ w e place notes xs act owes. inr (each-good w e place notes xs act owes);
    nobody = λ k l at there. inr (passed-good m m (event.Deliver k) (rec.Got k ∷ []) refl (tt, tt));
    loses = λ k l at there. inr (passed-good m (record m { net = lose_at (k - 1) m.net }) (event.Lose k) (rec.Lost k ∷ []) refl (tt, tt));
    clocks = λ ms. inr (passed-good m (record m { now = m.now + ms }) (event.Clock ms) (rec.Clock (record { 0 = m.now + ms }) ∷ []) refl (tt, tt));
  }

  -- ---- a step

  fetched-good : (e : Event) (n : Machine) → IsViewed m → machine_step m e ≡ Ok n → IsFetched m e → Good m n
  fetched-good e n view is f =
      let y = f.its.1 in
      fetch-good m view f.k f.i y.from f.c y.epoch y.r y.path y.file f.p f.at (ap (λ (l : Letter). l.from) f.letter_is) (ap (λ (l : Letter). l.to) f.letter_is)
      (ap (λ (l : Letter). decoded_message l.bytes) f.letter_is ∙ y.spells) y.known n (ap (machine_step m) (sym f.event_is) ∙ is)

  step-good : IsViewed m → (e : Event) (n : Machine) → HasRule e → machine_step m e ≡ Ok n → Good m n
  step-good view e n rule is =
      ⊎_elim (fetched-good e n view is) (λ (g : Good m n). g) (step-has m view (Owes (setting_of m)) (rules (setting_of m)) IsEither shapes-good e n rule is)

-- ---- every state

pub contents-are-files : ContentsAreFiles
contents-are-files config files m r = (carried-keep config files (λ k. AreLawful (MustBring (file_at files)) k.journal) (refl, tt)
    (λ k n e on lawful rule is.
    let after : IsAfter k e n = step-after k on.view e n rule is in
    let good : Good k n = step-good k (each-holds config files k on.reached) on.view e n rule is in
    let same : good.0 ≡ after.step = cancel k.journal good.0 after.step (sym good.1 ∙ after.is) in
    let must : MustBring (file_at k.files) k.journal after.step = subst (MustBring (file_at k.files) k.journal) same good.2 in
    subst (AreLawful (MustBring (file_at files))) (sym after.is)
    (one-more (MustBring (file_at files)) k.journal after.step after.one lawful (subst (λ (fs : List (List ℕ × List ℕ)). MustBring (file_at fs) k.journal after.step) on.files_are must)))
    m r).1
