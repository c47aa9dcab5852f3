-- What a step in which a place acts does to a connection, by what it sees of the act.
use Rattle.std.proofs.Common.{◌≡◌, ◌≢◌, ℕ, ◌+◌, List, [], ◌∷◌, ◌++◌, map, length, inl, inr, sym, ap, ◌∙◌, append_assoc, append-nil}
use Rattle.std.proofs.lemmas.List.{map-append}
use Rattle.std.specs.List.{fold}
use Rattle.lard_law_view.specs.Prelude.{Conn, Event, GoesBy, Machine, Move, Out, Packet, Part, Place, Rec, Row, Seen, TurnSaid, conn, letter, letters, machine_told, net_of, net_step, nothing_said, own, packet_seen, packets_of, part_of, passed, seen_on, segments_sent, sent_records, stands, timer_rows, told_rows}
use Rattle.lard_law_view.specs.View.{sending}
use Rattle.lard_law_view.proofs.Saying.{gaves-mine, gaves-others, letters-mine, letters-others, messages-between, notes-others, sents-mine, sents-others}
use Rattle.lard_law_view.proofs.Turned.{IsSaidIn}
use Rattle.lard_history.proofs.Seeing.{AreOf, letters-append, of-whose, own-append, seen-all, seen-none, seen_on-append}
use Rattle.lard_journal.specs.declared.rec.Rec.TheVariants as rec

-- ---- what a connection sees of an act

-- These notes, segments and messages of an act are those of connection q, and these records of its timers.
pub record Shows (q : ℕ) (place : Place) (o : Out) (s : TurnSaid) (rows : List Rec) : Type 0 where
  pub notes : (net : List Packet) → seen_on q net o.notes ≡ map Row s.notes
  pub segments : (net : List Packet) (k : ℕ) → seen_on q net (sent_records k place o.segments) ≡ map Row (map (sending place) s.segments)
  pub gave : (net : List Packet) → seen_on q net o.gave ≡ map Row s.gave
  pub messages : (net : List Packet) (k : ℕ) → seen_on q net (sent_records k place o.messages) ≡ map Row (map (sending place) s.messages)
  pub timers : (net : List Packet) → seen_on q net o.timers ≡ map Row rows
  pub first : letters q (packets_of place o.segments) ≡ map (letter place) s.segments
  pub second : letters q (packets_of place o.messages) ≡ map (letter place) s.messages

-- all that is said is of connection c, whose notes are seen so
module _ (c : ℕ) (place : Place) (o : Out) (said : IsSaidIn place c o.notes o.segments o.gave o.messages o.answered) (timers : AreOf c o.timers) where
  pub shows-mine : (ns : List Rec) → ((net : List Packet) → seen_on c net o.notes ≡ map Row ns) → Shows c place o (record { notes = ns; segments = o.segments; gave = o.gave; messages = o.messages }) o.timers
  shows-mine ns notes = record {
    notes = notes;
    segments = λ net k. sents-mine c k net place o.segments said.segments;
    gave = λ net. gaves-mine place c net o.gave said.gave;
    messages = λ net k. sents-mine c k net place o.messages (messages-between c place o.messages said.messages);
    timers = λ net. seen-all c net o.timers timers;
    first = letters-mine c place o.segments said.segments;
    second = letters-mine c place o.messages (messages-between c place o.messages said.messages);
  }

  pub shows-others : (q : ℕ) → q ≢ c → Shows q place o nothing_said []
  shows-others q n = record {
    notes = λ net. notes-others place c q net o.notes n said.notes;
    segments = λ net k. sents-others c q k net place o.segments n said.segments;
    gave = λ net. gaves-others place c q net o.gave n said.gave;
    messages = λ net k. sents-others c q k net place o.messages n (messages-between c place o.messages said.messages);
    timers = λ net. seen-none c q net o.timers n (of-whose c o.timers timers);
    first = letters-others c q place o.segments n said.segments;
    second = letters-others c q place o.messages n (messages-between c place o.messages said.messages);
  }

-- ---- lists, one behind another

six : (q : ℕ) (net : List Packet) (A B C D E F : List Rec) (a b c d e f : List Seen) → seen_on q net A ≡ a → ((n : List Packet) → seen_on q n B ≡ b) → ((n : List Packet) → seen_on q n C ≡ c)
    → ((n : List Packet) → seen_on q n D ≡ d) → ((n : List Packet) → seen_on q n E ≡ e) → ((n : List Packet) → seen_on q n F ≡ f)
    → seen_on q net (A ++ B ++ C ++ D ++ E ++ F) ≡ a ++ b ++ c ++ d ++ e ++ f
six q net A B C D E F a b c d e f ea eb ec ed ee ef =
    let two : seen_on q net (A ++ B) ≡ a ++ b = seen_on-append q net A B ∙ (λ i. ea i ++ eb (fold net_step net A) i) in
    let three : seen_on q net (A ++ B ++ C) ≡ a ++ b ++ c = seen_on-append q net (A ++ B) C ∙ (λ i. two i ++ ec (fold net_step net (A ++ B)) i) in
    let four : seen_on q net (A ++ B ++ C ++ D) ≡ a ++ b ++ c ++ d = seen_on-append q net (A ++ B ++ C) D ∙ (λ i. three i ++ ed (fold net_step net (A ++ B ++ C)) i) in
    let five : seen_on q net (A ++ B ++ C ++ D ++ E) ≡ a ++ b ++ c ++ d ++ e = seen_on-append q net (A ++ B ++ C ++ D) E ∙ (λ i. four i ++ ee (fold net_step net (A ++ B ++ C ++ D)) i) in
    seen_on-append q net (A ++ B ++ C ++ D ++ E) F ∙ (λ i. five i ++ ef (fold net_step net (A ++ B ++ C ++ D ++ E)) i)

rows-behind : (heads : List Seen) (xs ys : List Rec) → (heads ++ map Row xs) ++ map Row ys ≡ heads ++ map Row (xs ++ ys)
rows-behind heads xs ys = append_assoc heads (map Row xs) (map Row ys) ∙ ap (λ l. heads ++ l) (sym (map-append Row xs ys))

five-rows : (heads : List Seen) (a b c d e : List Rec) → heads ++ map Row a ++ map Row b ++ map Row c ++ map Row d ++ map Row e ≡ heads ++ map Row (a ++ b ++ c ++ d ++ e)
five-rows heads a b c d e =
    ap (λ l. l ++ map Row c ++ map Row d ++ map Row e) (rows-behind heads a b)
    ∙ ap (λ l. l ++ map Row d ++ map Row e) (rows-behind heads (a ++ b) c)
    ∙ ap (λ l. l ++ map Row e) (rows-behind heads (a ++ b ++ c) d)
    ∙ rows-behind heads (a ++ b ++ c ++ d) e

-- ---- a step in which a place acts

-- w is m with what a place keeps put back
module _ (m w : Machine) (e : Event) (own_ : List Rec) (place : Place) (o : Out) (known : net_of m.journal ≡ m.net) (net : w.net ≡ m.net) (journal : w.journal ≡ m.journal) where
  abbrev A : List Rec
  A = rec.Event (w.events + 1) e ∷ own_

  module _ (q : ℕ) (heads : List Seen) (s : TurnSaid) (rows : List Rec) (seen : seen_on q m.net A ≡ heads) (shows : Shows q place o s rows) where
    packets : letters q (segments_sent w place o ++ packets_of place o.messages) ≡ letters q m.net ++ (map (letter place) s.segments ++ map (letter place) s.messages)
    packets =
        letters-append q (segments_sent w place o) (packets_of place o.messages)
        ∙ (λ i. (letters-append q w.net (packets_of place o.segments) ∙ (λ j. letters q (net j) ++ shows.first j)) i ++ shows.second i)
        ∙ append_assoc (letters q m.net) (map (letter place) s.segments) (map (letter place) s.messages)

    sees : own q (w.journal ++ told_rows w e own_ place o) ≡ own q m.journal ++ (heads ++ map Row (s.notes ++ map (sending place) s.segments ++ s.gave ++ map (sending place) s.messages ++ rows))
    sees =
        own-append q w.journal (told_rows w e own_ place o)
        ∙ (λ i. own q (journal i) ++ seen_on q ((ap net_of journal ∙ known) i) (told_rows w e own_ place o))
        ∙ ap (λ l. own q m.journal ++ l)
        (six q m.net A o.notes (sent_records (length w.net + 1) place o.segments) o.gave (sent_records (length (segments_sent w place o) + 1) place o.messages) o.timers
        heads (map Row s.notes) (map Row (map (sending place) s.segments)) (map Row s.gave) (map Row (map (sending place) s.messages)) (map Row rows)
        seen shows.notes (λ n. shows.segments n (length w.net + 1)) shows.gave (λ n. shows.messages n (length (segments_sent w place o) + 1)) shows.timers
        ∙ five-rows heads s.notes (map (sending place) s.segments) s.gave (map (sending place) s.messages) rows)

  module _ (P : Conn → Move → Type 0) where
    -- the connection that moves
    pub moved : (q : ℕ) (heads : List Seen) (s : TurnSaid) (p : Part) → part_of w q ≡ p → seen_on q m.net A ≡ heads → Shows q place o s (timer_rows place q (part_of m q) p)
        → P (conn m q) (record { place = place; heads = heads; said = s; part = p }) → GoesBy P (conn m q) (conn (machine_told w e own_ place o) q)
    unfolding conn machine_told part_of
    moved q heads s p at seen shows does = inr (
      record { place = place; heads = heads; said = s; part = p },
      does,
      λ i. record { c = q; part = at i; letters = packets q heads s _ seen shows i; seen = sees q heads s _ seen shows i },
    )

    -- any other stays
    pub stays : (q : ℕ) → part_of w q ≡ part_of m q → seen_on q m.net A ≡ [] → Shows q place o nothing_said [] → GoesBy P (conn m q) (conn (machine_told w e own_ place o) q)
    unfolding conn machine_told part_of
    stays q at seen shows = inl (λ i. record {
      c = q;
      part = at i;
      letters = (packets q [] nothing_said [] seen shows ∙ append-nil (letters q m.net)) i;
      seen = (sees q [] nothing_said [] seen shows ∙ append-nil (own q m.journal)) i;
    })

-- ---- a step in which no place acts: the connection stays, but that it may see a packet come

module _ (P : Conn → Move → Type 0) (m w : Machine) (e : Event) (own_ : List Rec) (q : ℕ) (known : net_of m.journal ≡ m.net) (net : letters q w.net ≡ letters q m.net) (journal : w.journal ≡ m.journal)
    (at : part_of w q ≡ part_of m q) where
  passed-sees : (heads : List Seen) → seen_on q m.net (rec.Event (w.events + 1) e ∷ own_) ≡ heads → own q (w.journal ++ rec.Event (w.events + 1) e ∷ own_) ≡ own q m.journal ++ heads
  passed-sees heads seen = own-append q w.journal (rec.Event (w.events + 1) e ∷ own_)
      ∙ (λ j. own q (journal j) ++ seen_on q ((ap net_of journal ∙ known) j) (rec.Event (w.events + 1) e ∷ own_)) ∙ ap (λ l. own q m.journal ++ l) seen

  pub passes : seen_on q m.net (rec.Event (w.events + 1) e ∷ own_) ≡ [] → GoesBy P (conn m q) (conn (passed w e own_) q)
  unfolding conn part_of
  passes seen = inl (λ i. record { c = q; part = at i; letters = net i; seen = (passed-sees [] seen ∙ append-nil (own q m.journal)) i })

  -- a packet comes, and nothing is done
  pub ignores : (from to : Place) (bytes : List ℕ) → timer_rows to q (part_of m q) (part_of m q) ≡ [] → seen_on q m.net (rec.Event (w.events + 1) e ∷ own_) ≡ packet_seen from to bytes
      → P (conn m q) (stands (conn m q) to (packet_seen from to bytes) nothing_said) → GoesBy P (conn m q) (conn (passed w e own_) q)
  unfolding conn part_of
  ignores from to bytes still seen does = inr (
    stands (conn m q) to (packet_seen from to bytes) nothing_said,
    does,
    λ i. record {
      c = q;
      part = at i;
      letters = (net ∙ sym (append-nil (letters q m.net))) i;
      seen = (passed-sees (packet_seen from to bytes) seen ∙ ap (λ (rs : List Rec). own q m.journal ++ (packet_seen from to bytes ++ map Row rs)) (sym still)) i;
    },
  )
