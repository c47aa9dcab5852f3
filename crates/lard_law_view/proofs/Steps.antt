-- One step of the machine: each connection stays as it is, or makes one move of one rule; a packet that comes with the move is the one
-- that the step's event delivers.
use Rattle.std.proofs.Common.{◌≡◌, ◌≢◌, ◌<◌, ℕ, ◌+◌, ◌-◌, List, [], ◌∷◌, ◌++◌, map, Option, Some, None, Ok, refl, sym, ap, ◌∙◌, subst, append-nil, inl, inr, ⊎_elim, false, arith}
use Rattle.std.specs.Prelude.{◌⊎◌}
use Rattle.std.specs.FinMap as table
use Rattle.std.specs.List.{flat_map, fold}
use Rattle.std.proofs.lemmas.List.{map-append}
use Rattle.lard_law_view.specs.Prelude.{Came, Client, Conn, Event, Front, GoesBetween, GoesBy, HasRule, IsConnNumber, IsNobody, IsViewed, Letter, Machine, Move, Node, Out, Packet, Part, Place, Rec, Row, Rules, Seen, TurnSaid, clocked, conn, conn_of, letter, letter_of, letters, lose_at, machine_step, machine_told, named_records, net_step, nothing_said, packet_at, packet_of, packets_of, part_of, passed, seen_on, sent_records, setting_of, timer_rows}
use Rattle.lard_base.specs.declared.event.Event.TheVariants as event
use Rattle.lard_law_view.specs.View.{sending}
use Rattle.lard_law_view.proofs.AnyShape.{none-seen}
use Rattle.lard_law_view.proofs.Deliveries.{IsDelivered, IsHead}
use Rattle.lard_law_view.proofs.Heads.{Begins, comes, comes-to-none, was}
use Rattle.lard_law_view.proofs.Moving.{Shows, ignores, moved, passes, shows-mine, shows-others, stays}
use Rattle.lard_law_view.proofs.Numbers.{letter-number}
use Rattle.lard_law_view.proofs.Saying.{NamesAll, notes-mine}
use Rattle.lard_law_view.proofs.Shapes.{ActsOn, ActsOnEach, ActsOnTwo, AreRising, IsMover, IsNobodyAt, IsUnheardAt, Mover, Shapes, both_out, each_out, move_of, mover_move, with_rest}
use Rattle.lard_law_view.proofs.Stepping.{step-has}
use Rattle.lard_law_view.proofs.Timers.{timer_rows-of, timer_rows-same}
use Rattle.lard_law_view.proofs.Turned.{IsSaidIn, between-has}
use Rattle.lard_history.proofs.Each.{Each, Each-weaker}
use Rattle.lard_history.proofs.Seeing.{AreOf, by_number, letters-append, letters-lost, seen_on-append}
use Rattle.lard_journal.specs.declared.rec.Rec.TheVariants as rec
use Rattle.lard_law_view.proofs.OwnRecords.{behind}

-- what a place does on two connections
abbrev joined_out : Out → Out → List Rec → Out
joined_out a b timers = record { notes = a.notes ++ b.notes; segments = a.segments ++ b.segments; gave = a.gave ++ b.gave; messages = a.messages ++ b.messages; timers = timers; answered = a.answered }

abbrev joined_said : TurnSaid → TurnSaid → TurnSaid
joined_said s t = record { notes = s.notes ++ t.notes; segments = s.segments ++ t.segments; gave = s.gave ++ t.gave; messages = s.messages ++ t.messages }

-- ---- what is seen of an act on two connections

module _ (q : ℕ) where
  left : (net : List Packet) (A B : List Rec) (x : List Seen) → seen_on q net A ≡ x → ((n : List Packet) → seen_on q n B ≡ []) → seen_on q net (A ++ B) ≡ x
  left net A B x ea eb = seen_on-append q net A B ∙ (λ i. ea i ++ eb (fold net_step net A) i) ∙ append-nil x

  right : (net : List Packet) (A B : List Rec) (y : List Seen) → seen_on q net A ≡ [] → ((n : List Packet) → seen_on q n B ≡ y) → seen_on q net (A ++ B) ≡ y
  right net A B y ea eb = seen_on-append q net A B ∙ (λ i. ea i ++ eb (fold net_step net A) i)

  -- in whichever order they stand
  either : (net : List Packet) (A B rows : List Rec) (x : List Seen) → (rows ≡ A ++ B) ⊎ (rows ≡ B ++ A) → ((n : List Packet) → seen_on q n A ≡ x) → ((n : List Packet) → seen_on q n B ≡ [])
      → seen_on q net rows ≡ x
  either net A B rows x order ea eb = ⊎_elim
      (λ (e : rows ≡ A ++ B). ap (seen_on q net) e ∙ left net A B x (ea net) eb)
      (λ (e : rows ≡ B ++ A). ap (seen_on q net) e ∙ right net B A x (eb net) ea)
      order

other-order : (A B rows : List Rec) → (rows ≡ A ++ B) ⊎ (rows ≡ B ++ A) → (rows ≡ B ++ A) ⊎ (rows ≡ A ++ B)
other-order A B rows order = ⊎_elim (λ (e : rows ≡ A ++ B). inr e) (λ (e : rows ≡ B ++ A). inl e) order

-- the records of what is sent, one list behind the other
sents-append : (k : ℕ) (place : Place) (xs ys : List (Place × List ℕ)) → (j : ℕ) × (sent_records k place (xs ++ ys) ≡ sent_records k place xs ++ sent_records j place ys)
sents-append k place [] ys = (k, refl)
sents-append k place (x ∷ xs) ys = let later = sents-append (k + 1) place xs ys in (later.0, ap (λ rs. rec.Sent k place x.0 x.1 ∷ rs) later.1)

module _ (q : ℕ) (place : Place) (a b : Out) (s : TurnSaid) (rows xs : List Rec) (timers : (net : List Packet) → seen_on q net rows ≡ map Row xs) where
  letters-two : (sent more : List (Place × List ℕ)) (x y : List Letter) → letters q (packets_of place sent) ≡ x → letters q (packets_of place more) ≡ y → letters q (packets_of place (sent ++ more)) ≡ x ++ y
  letters-two sent more x y ea eb = ap (letters q) (map-append (packet_of place) sent more) ∙ letters-append q (packets_of place sent) (packets_of place more) ∙ (λ i. ea i ++ eb i)

  -- what the first is seen of is all, where the second is none of the connection's
  shows-first : (ys zs : List Rec) → Shows q place a s ys → Shows q place b nothing_said zs → Shows q place (joined_out a b rows) s xs
  shows-first ys zs f g = record {
    notes = λ net. left q net a.notes b.notes (map Row s.notes) (f.notes net) g.notes;
    segments = λ net k. let e = sents-append k place a.segments b.segments in
        ap (seen_on q net) e.1 ∙ left q net (sent_records k place a.segments) (sent_records e.0 place b.segments) (map Row (map (sending place) s.segments)) (f.segments net k) (λ n. g.segments n e.0);
    gave = λ net. left q net a.gave b.gave (map Row s.gave) (f.gave net) g.gave;
    messages = λ net k. let e = sents-append k place a.messages b.messages in
        ap (seen_on q net) e.1 ∙ left q net (sent_records k place a.messages) (sent_records e.0 place b.messages) (map Row (map (sending place) s.messages)) (f.messages net k) (λ n. g.messages n e.0);
    timers = timers;
    first = letters-two a.segments b.segments (map (letter place) s.segments) [] f.first g.first ∙ append-nil (map (letter place) s.segments);
    second = letters-two a.messages b.messages (map (letter place) s.messages) [] f.second g.second ∙ append-nil (map (letter place) s.messages);
  }

  -- and the other way round
  shows-second : (ys zs : List Rec) → Shows q place a nothing_said ys → Shows q place b s zs → Shows q place (joined_out a b rows) s xs
  shows-second ys zs f g = record {
    notes = λ net. right q net a.notes b.notes (map Row s.notes) (f.notes net) g.notes;
    segments = λ net k. let e = sents-append k place a.segments b.segments in
        ap (seen_on q net) e.1 ∙ right q net (sent_records k place a.segments) (sent_records e.0 place b.segments) (map Row (map (sending place) s.segments)) (f.segments net k) (λ n. g.segments n e.0);
    gave = λ net. right q net a.gave b.gave (map Row s.gave) (f.gave net) g.gave;
    messages = λ net k. let e = sents-append k place a.messages b.messages in
        ap (seen_on q net) e.1 ∙ right q net (sent_records k place a.messages) (sent_records e.0 place b.messages) (map Row (map (sending place) s.messages)) (f.messages net k) (λ n. g.messages n e.0);
    timers = timers;
    first = letters-two a.segments b.segments [] (map (letter place) s.segments) f.first g.first;
    second = letters-two a.messages b.messages [] (map (letter place) s.messages) f.second g.second;
  }

  -- what the second is seen of stands behind that
  shows-both : (t : TurnSaid) (ys zs : List Rec) → Shows q place a s ys → Shows q place b t zs → Shows q place (joined_out a b rows) (joined_said s t) xs
  shows-both t ys zs f g = record {
    notes = λ net. seen_on-append q net a.notes b.notes ∙ (λ i. f.notes net i ++ g.notes (fold net_step net a.notes) i) ∙ sym (map-append Row s.notes t.notes);
    segments = λ net k. let e = sents-append k place a.segments b.segments in
        ap (seen_on q net) e.1 ∙ seen_on-append q net (sent_records k place a.segments) (sent_records e.0 place b.segments)
        ∙ (λ i. f.segments net k i ++ g.segments (fold net_step net (sent_records k place a.segments)) e.0 i) ∙ sym (rows-both s.segments t.segments);
    gave = λ net. seen_on-append q net a.gave b.gave ∙ (λ i. f.gave net i ++ g.gave (fold net_step net a.gave) i) ∙ sym (map-append Row s.gave t.gave);
    messages = λ net k. let e = sents-append k place a.messages b.messages in
        ap (seen_on q net) e.1 ∙ seen_on-append q net (sent_records k place a.messages) (sent_records e.0 place b.messages)
        ∙ (λ i. f.messages net k i ++ g.messages (fold net_step net (sent_records k place a.messages)) e.0 i) ∙ sym (rows-both s.messages t.messages);
    timers = timers;
    first = letters-two a.segments b.segments (map (letter place) s.segments) (map (letter place) t.segments) f.first g.first ∙ sym (map-append (letter place) s.segments t.segments);
    second = letters-two a.messages b.messages (map (letter place) s.messages) (map (letter place) t.messages) f.second g.second ∙ sym (map-append (letter place) s.messages t.messages);
  } where
    rows-both : (ss ts : List (Place × List ℕ)) → map Row (map (sending place) (ss ++ ts)) ≡ map Row (map (sending place) ss) ++ map Row (map (sending place) ts)
    rows-both ss ts = ap (map Row) (map-append (sending place) ss ts) ∙ map-append Row (map (sending place) ss) (map (sending place) ts)

-- ---- what is seen of an act on each of many

-- what one of them does, alone
abbrev piece : Mover → Out
piece x = record { notes = []; segments = []; gave = x.gave; messages = x.messages; timers = x.timers; answered = 0 }

abbrev mover_said : Mover → TurnSaid
mover_said x = record { notes = []; segments = []; gave = x.gave; messages = x.messages }

module _ (m w : Machine) (place : Place) (q : ℕ) where
  piece-said : (x : Mover) → IsMover m w place x → IsSaidIn place x.c [] [] x.gave x.messages 0
  piece-said x h = record { notes = tt; segments = tt; gave = h.gave; messages = h.messages; counted = λ n. omega arith }

  piece-timers : (x : Mover) → IsMover m w place x → AreOf x.c x.timers
  piece-timers x h = subst (AreOf x.c) (sym h.timers) (timer_rows-of place x.c (part_of m x.c) x.part)

  piece-others : (x : Mover) → IsMover m w place x → q ≢ x.c → Shows q place (piece x) nothing_said []
  piece-others x h other = shows-others x.c place (piece x) (piece-said x h) (piece-timers x h) q other

  abbrev rest_timers : List Mover → List Rec
  rest_timers xs = flat_map (λ y. y.timers) xs

  -- none of them is this connection
  each-none : (xs : List Mover) → Each (IsMover m w place) xs → Each (λ x. q ≢ x.c) xs → Shows q place (each_out [] xs) nothing_said []
  unfolding letters
  each-none [] h other = record { notes = λ net. refl; segments = λ net k. refl; gave = λ net. refl; messages = λ net k. refl; timers = λ net. refl; first = refl; second = refl }
  each-none (x ∷ xs) h other =
      let first : Shows q place (piece x) nothing_said [] = piece-others x h.0 other.0 in
      let rest : Shows q place (each_out [] xs) nothing_said [] = each-none xs h.1 other.1 in
      shows-first q place (piece x) (each_out [] xs) nothing_said (x.timers ++ rest_timers xs) [] (λ net. left q net x.timers (rest_timers xs) [] (first.timers net) rest.timers) [] [] first rest

  -- one of them is
  record Found (P : Mover → Type 0) (xs : List Mover) : Type 0 where
    x : Mover
    same : q ≡ x.c
    mover : IsMover m w place x
    does : P x
    shows : Shows q place (each_out [] xs) (mover_said x) x.timers

  module _ (P : Mover → Type 0) where
    found-first : (x : Mover) (xs : List Mover) → q ≡ x.c → IsMover m w place x → Each (IsMover m w place) xs → Each (λ y. x.c < y.c) xs → P x → Found P (x ∷ xs)
    found-first x xs same h hs rising does =
        let mine : Shows q place (piece x) (mover_said x) x.timers =
        subst (λ (c : ℕ). Shows c place (piece x) (mover_said x) x.timers) (sym same) (shows-mine x.c place (piece x) (piece-said x h) (piece-timers x h) [] (λ net. refl)) in
        let rest : Shows q place (each_out [] xs) nothing_said [] = each-none xs hs (Each-weaker (λ y. x.c < y.c) (λ y. q ≢ y.c) (λ y less e. omega (arith, less, e, same)) xs rising) in
        record {
          x = x;
          same = same;
          mover = h;
          does = does;
          shows = shows-first q place (piece x) (each_out [] xs) (mover_said x) (x.timers ++ rest_timers xs) x.timers
              (λ net. left q net x.timers (rest_timers xs) (map Row x.timers) (mine.timers net) rest.timers) x.timers [] mine rest;
        }

    found-later : (x : Mover) (xs : List Mover) → q ≢ x.c → IsMover m w place x → Found P xs → Found P (x ∷ xs)
    found-later x xs other h f =
        let first : Shows q place (piece x) nothing_said [] = piece-others x h other in
        record {
          x = f.x;
          same = f.same;
          mover = f.mover;
          does = f.does;
          shows = shows-second q place (piece x) (each_out [] xs) (mover_said f.x) (x.timers ++ rest_timers xs) f.x.timers
              (λ net. right q net x.timers (rest_timers xs) (map Row f.x.timers) (first.timers net) f.shows.timers) [] f.x.timers first f.shows;
        }

    find : (xs : List Mover) → Each (IsMover m w place) xs → AreRising xs → Each P xs → Found P xs ⊎ Each (λ x. q ≢ x.c) xs
    find [] h rising made = inr tt
    find (x ∷ xs) h rising made = by_number (Found P (x ∷ xs) ⊎ Each (λ y. q ≢ y.c) (x ∷ xs)) q x.c
        (λ same. inl (found-first x xs same h.0 h.1 rising.0 made.0))
        (λ other. ⊎_elim (λ (f : Found P xs). inl (found-later x xs other h.0 f)) (λ none. inr (other, none)) (find xs h.1 rising.1 made.1))

-- with notes that name nobody
with-notes : (q : ℕ) (place : Place) (notes : List Rec) (xs : List Mover) (s : TurnSaid) (rows : List Rec) → s.notes ≡ [] → ((net : List Packet) → seen_on q net notes ≡ []) → Shows q place (each_out [] xs) s rows
    → Shows q place (each_out notes xs) s rows
with-notes q place notes xs s rows none seen h = record {
  notes = λ net. seen net ∙ ap (map Row) (sym none);
  segments = h.segments;
  gave = h.gave;
  messages = h.messages;
  timers = h.timers;
  first = h.first;
  second = h.second;
}

-- ---- each shape of a step

-- what connection q sees of an event
abbrev pub shown : Machine → Event → ℕ → List Seen
shown m e q = seen_on q m.net (rec.Event 0 e ∷ behind e)

-- What a move of a step begins with: its number is one of a connection, what it sees first is the event, and what comes with it is what the
-- event delivers. Where it sees nothing, it is the second at its place, which is no node's, or nobody sees anything of the event.
pub record IsShown (m : Machine) (e : Event) (x : Conn) (v : Move) : Type 0 where
  pub number : IsConnNumber x.c
  pub heads : v.heads ≡ shown m e x.c
  pub event : Each (IsHead e) v.heads
  pub came : Each (IsDelivered m.net e) v.heads
  pub alone : v.heads ≡ [] → NamesAll v.place ⊎ ((q : ℕ) → shown m e q ≡ [])

module _ (m : Machine) (view : IsViewed m) (P : Conn → Move → Type 0) (R : Rules (setting_of m) P) where
  -- P is so of the move
  abbrev pub Numbered : Event → Conn → Move → Type 0
  Numbered e x v = IsShown m e x v × P x v

  -- the first that moves
  first-shown : (e : Event) (place : Place) (c : ℕ) (heads : List Seen) (ns : List Rec) (o : Out) (p : Part) → IsConnNumber c → Begins m e place c heads → IsShown m e (conn m c) (move_of place heads ns o p)
  unfolding conn
  first-shown e place c heads ns o p number begins = record {
    number = number;
    heads = sym (begins.mine 0);
    event = begins.event;
    came = begins.came;
    alone = λ none. inr (λ q. by_number (shown m e q ≡ []) q c (λ same. ap (λ (d : ℕ). shown m e d) same ∙ begins.mine 0 ∙ none) (λ other. begins.others 0 q other));
  }

  -- and the second
  second-shown : (e : Event) (c d : ℕ) (heads : List Seen) (ns : List Rec) (o : Out) (r : Part) → IsConnNumber d → d ≢ c → Begins m e Front c heads → IsShown m e (conn m d) (move_of Front [] ns o r)
  unfolding conn
  second-shown e c d heads ns o r number apart begins = record { number = number; heads = sym (begins.others 0 d apart); event = tt; came = tt; alone = λ none. inl tt }

  -- each connection stays, or moves
  abbrev pub To : Event → Machine → Type 0
  To e n = (q : ℕ) → GoesBy (Numbered e) (conn m q) (conn n q)

  timers-of : (place : Place) (c : ℕ) (p q : Part) (rs : List Rec) → rs ≡ timer_rows place c p q → AreOf c rs
  timers-of place c p q rs e = subst (AreOf c) (sym e) (timer_rows-of place c p q)

  goes-one : (w : Machine) (e : Event) (place : Place) (o : Out) (c : ℕ) (heads : List Seen) (ns : List Rec) (p : Part) → ActsOn m w e place o c heads ns p
      → P (conn m c) (move_of place heads ns o p) → To e (machine_told w e (behind e) place o)
  unfolding conn
  goes-one w e place o c heads ns p act does q =
      let n : Machine = machine_told w e (behind e) place o in
      let of : AreOf c o.timers = timers-of place c (part_of m c) p o.timers act.timers in
      let s : TurnSaid = record { notes = ns; segments = o.segments; gave = o.gave; messages = o.messages } in
      by_number (GoesBy (Numbered e) (conn m q) (conn n q)) q c
      (λ same. subst (λ (d : ℕ). GoesBy (Numbered e) (conn m d) (conn n d)) (sym same)
      (moved m w e (behind e) place o view.told act.put.net act.put.journal (Numbered e) c heads s p act.mine (act.begins.mine (w.events + 1))
      (subst (Shows c place o s) act.timers (shows-mine c place o act.said of ns act.notes)) (first-shown e place c heads ns o p act.number act.begins, does)))
      (λ other. stays m w e (behind e) place o view.told act.put.net act.put.journal (Numbered e) q (act.others q other) (act.begins.others (w.events + 1) q other)
      (shows-others c place o act.said of q other))

  -- all that is seen of three acts, of the first and the last of which c is
  module _ (a k z : Out) (rows xs : List Rec) (q : ℕ) (s : TurnSaid) where
    abbrev zz : Out
    zz = record z { timers = [] }

    as-both : Shows q Front (joined_out (joined_out a (record k { answered = 0 }) rows) zz rows) s xs → Shows q Front (both_out a k z rows) s xs
    as-both h = record { notes = h.notes; segments = h.segments; gave = h.gave; messages = h.messages; timers = h.timers; first = h.first; second = h.second }

  goes-two : (w : Machine) (e : Event) (a b z : Out) (rows : List Rec) (c d : ℕ) (heads : List Seen) (ns : List Rec) (p r : Part) → ActsOnTwo m w e a b z rows c d heads ns p r
      → P (conn m c) (move_of Front heads ns (with_rest a z) p) → P (conn m d) (move_of Front [] b.notes b r) → To e (machine_told w e (behind e) Front (both_out a b z rows))
  unfolding conn
  goes-two w e a b z rows c d heads ns p r act does too q =
      let o : Out = both_out a b z rows in
      let n : Machine = machine_told w e (behind e) Front o in
      let k : Out = record b { answered = 0 } in
      let y : Out = record z { timers = [] } in
      let first : AreOf c a.timers = timers-of Front c (part_of m c) p a.timers act.timers in
      let second : AreOf d b.timers = timers-of Front d (part_of m d) r b.timers act.timers_too in
      let s : TurnSaid = record { notes = named_records a.notes; segments = a.segments; gave = a.gave; messages = a.messages } in
      let t : TurnSaid = record { notes = b.notes; segments = b.segments; gave = b.gave; messages = b.messages } in
      let u : TurnSaid = record { notes = named_records z.notes; segments = z.segments; gave = z.gave; messages = z.messages } in
      let v : TurnSaid = record { notes = ns; segments = a.segments ++ z.segments; gave = a.gave ++ z.gave; messages = a.messages ++ z.messages } in
      let cs : List Rec = timer_rows Front c (part_of m c) p in
      let ds : List Rec = timer_rows Front d (part_of m d) r in
      let mine : Shows c Front a s a.timers = shows-mine c Front a act.said first (named_records a.notes) (λ net. notes-mine Front c net a.notes act.said.notes) in
      let its : Shows d Front k t b.timers = shows-mine d Front k act.said_too second b.notes act.notes_too in
      let last : Shows c Front y u [] = shows-mine c Front y act.said_rest tt (named_records z.notes) (λ net. notes-mine Front c net z.notes act.said_rest.notes) in
      by_number (GoesBy (Numbered e) (conn m q) (conn n q)) q c
      (λ same. subst (λ (x : ℕ). GoesBy (Numbered e) (conn m x) (conn n x)) (sym same)
      (let others = shows-others d Front k act.said_too second c (λ e. act.apart (sym e)) in
      let seen : (net : List Packet) → seen_on c net rows ≡ map Row cs =
      λ net. either c net a.timers b.timers rows (map Row a.timers) act.order mine.timers others.timers ∙ ap (map Row) act.timers in
      let two : Shows c Front (joined_out a k rows) s cs = shows-first c Front a k s rows cs seen a.timers [] mine others in
      let all = shows-both c Front (joined_out a k rows) y s rows cs seen u cs [] two last in
      let notes : (net : List Packet) → seen_on c net (a.notes ++ b.notes ++ z.notes) ≡ map Row ns =
      λ net. all.notes net ∙ map-append Row (named_records a.notes) (named_records z.notes) ∙ sym (seen_on-append c net a.notes z.notes ∙ (λ i. mine.notes net i ++ last.notes (fold net_step net a.notes) i)) ∙ act.notes net in
      moved m w e (behind e) Front o view.told act.put.net act.put.journal (Numbered e) c heads v p act.mine (act.begins.mine (w.events + 1))
      (record { notes = notes; segments = all.segments; gave = all.gave; messages = all.messages; timers = all.timers; first = all.first; second = all.second })
      (first-shown e Front c heads ns (with_rest a z) p act.number act.begins, does)))
      (λ not_c. by_number (GoesBy (Numbered e) (conn m q) (conn n q)) q d
      (λ same. subst (λ (x : ℕ). GoesBy (Numbered e) (conn m x) (conn n x)) (sym same)
      (let others = shows-others c Front a act.said first d act.apart in
      let after = shows-others c Front y act.said_rest tt d act.apart in
      let seen : (net : List Packet) → seen_on d net rows ≡ map Row ds =
      λ net. either d net b.timers a.timers rows (map Row b.timers) (other-order a.timers b.timers rows act.order) its.timers others.timers ∙ ap (map Row) act.timers_too in
      let two : Shows d Front (joined_out a k rows) t ds = shows-second d Front a k t rows ds seen [] b.timers others its in
      moved m w e (behind e) Front o view.told act.put.net act.put.journal (Numbered e) d [] t r act.mine_too (act.begins.others (w.events + 1) d act.apart)
      (as-both a b z rows ds d t (shows-first d Front (joined_out a k rows) y t rows ds seen ds [] two after)) (second-shown e c d heads b.notes b r act.number_too act.apart act.begins, too)))
      (λ not_d.
      let of_c = shows-others c Front a act.said first q not_c in
      let of_d = shows-others d Front k act.said_too second q not_d in
      let after = shows-others c Front y act.said_rest tt q not_c in
      let seen : (net : List Packet) → seen_on q net rows ≡ [] = λ net. either q net a.timers b.timers rows [] act.order of_c.timers of_d.timers in
      stays m w e (behind e) Front o view.told act.put.net act.put.journal (Numbered e) q (act.others q not_c not_d) (act.begins.others (w.events + 1) q not_c)
      (as-both a b z rows [] q nothing_said (shows-first q Front (joined_out a k rows) y nothing_said rows [] seen [] [] (shows-first q Front a k nothing_said rows [] seen [] [] of_c of_d) after))))

  -- a place acts on each of many
  goes-each : (w : Machine) (e : Event) (place : Place) (notes : List Rec) (xs : List Mover) → ActsOnEach m w e place notes xs → Each (λ x. P (conn m x.c) (mover_move place x)) xs
      → To e (machine_told w e (behind e) place (each_out notes xs))
  unfolding conn
  goes-each w e place notes xs act made q =
      let o : Out = each_out notes xs in
      let n : Machine = machine_told w e (behind e) place o in
      let none : (net : List Packet) → seen_on q net notes ≡ [] = λ net. none-seen place q net notes act.nobody in
      let unseen : (i : ℕ) → seen_on q m.net (rec.Event i e ∷ behind e) ≡ [] = λ i. (act.begins q).mine i in
      ⊎_elim
      (λ (f : Found m w place q (λ x. P (conn m x.c) (mover_move place x)) xs).
      subst (λ (c : ℕ). GoesBy (Numbered e) (conn m c) (conn n c)) (sym f.same)
      (moved m w e (behind e) place o view.told act.put.net act.put.journal (Numbered e) f.x.c [] (mover_said f.x) f.x.part f.mover.mine ((act.begins f.x.c).mine (w.events + 1))
      (subst (λ (c : ℕ). Shows c place o (mover_said f.x) (timer_rows place c (part_of m c) f.x.part)) f.same
      (with-notes q place notes xs (mover_said f.x) _ refl none (subst (Shows q place (each_out [] xs) (mover_said f.x)) (f.mover.timers ∙ ap (λ (c : ℕ). timer_rows place c (part_of m c) f.x.part) (sym f.same)) f.shows))) (
        record {
          number = f.mover.number;
          heads = sym ((act.begins f.x.c).mine 0);
          event = tt;
          came = tt;
          alone = λ nothing. inr (λ d. (act.begins d).mine 0);
        },
        f.does,
      )))
      (λ (other : Each (λ x. q ≢ x.c) xs).
      stays m w e (behind e) place o view.told act.put.net act.put.journal (Numbered e) q (act.others q other) (unseen (w.events + 1))
      (with-notes q place notes xs nothing_said [] refl none (each-none m w place q xs act.movers other)))
      (find m w place q (λ x. P (conn m x.c) (mover_move place x)) xs act.movers act.rising made)

  -- a packet comes, and nothing is done
  nobody-there : (d : ℕ) (from to : Place) (bytes : List ℕ) → GoesBetween d from to bytes → IsNobodyAt m to → IsNobody (table.get m.clients d) to
  nobody-there d from Front bytes goes none = tt
  nobody-there d from (Node n) bytes goes none = tt
  nobody-there d Front (Client c) bytes goes none = subst (λ (q : ℕ). table.get m.clients q ≡ None) goes (none c refl)
  nobody-there d (Node n) (Client c) bytes goes none = subst (λ (q : ℕ). table.get m.clients q ≡ None) goes (none c refl)
  nobody-there d (Client q) (Client c) bytes goes none = absurd goes

  ignored : (k : ℕ) (p : Packet) → packet_at m.net k ≡ Some p → (p.lost ≡ false) × IsNobodyAt m p.to × IsUnheardAt m p → To (event.Deliver k) (passed m (event.Deliver k) (rec.Got k ∷ []))
  unfolding conn part_of
  ignored k p at there q = go (conn_of p.from p.to p.bytes) refl where
    n : Machine
    n = passed m (event.Deliver k) (rec.Got k ∷ [])

    go : (o : Option ℕ) → conn_of p.from p.to p.bytes ≡ o → GoesBy (Numbered (event.Deliver k)) (conn m q) (conn n q)
    go None e = passes (Numbered (event.Deliver k)) m m (event.Deliver k) (rec.Got k ∷ []) q view.told refl refl refl (comes-to-none m k p at e (m.events + 1) q)
    go (Some d) e =
        let b = comes m k d p at p.from p.to refl refl e there.0 in
        let sent = was m k d p at p.from p.to refl refl e in
        let none : IsNobody (table.get m.clients d) p.to = nobody-there d p.from p.to p.bytes (between-has d (letter_of p) (conn m d).letters sent (view.sound d).between) there.1 in
        by_number (GoesBy (Numbered (event.Deliver k)) (conn m q) (conn n q)) q d
        (λ same. subst (λ (z : ℕ). GoesBy (Numbered (event.Deliver k)) (conn m z) (conn n z)) (sym same)
        (ignores (Numbered (event.Deliver k)) m m (event.Deliver k) (rec.Got k ∷ []) d view.told refl refl refl p.from p.to p.bytes (timer_rows-same p.to d (part_of m d)) (b.mine (m.events + 1)) (
          record {
            number = letter-number (conn m d) (letter_of p) (view.sound d) sent;
            heads = sym (b.mine 0);
            event = (tt, tt);
            came = ((k, p, refl, at, refl), tt);
            alone = λ none. absurd (let bad : Came (letter_of p) ∷ [] ≡ [] = none in cc);
          },
          R.untouched.ignores (conn m d) p.from p.to p.bytes (sent, none, there.2 d e),
        )))
        (λ other. passes (Numbered (event.Deliver k)) m m (event.Deliver k) (rec.Got k ∷ []) q view.told refl refl refl (b.others (m.events + 1) q other))

  pub shapes-go : Shapes m P To
  unfolding part_of clocked
  shapes-go = record {
    one = goes-one;
    two = goes-two;
    each = goes-each;
    nobody = λ k l at there. ignored k l at there;
    loses = λ k l at there q. passes (Numbered (event.Lose k)) m (record m { net = lose_at (k - 1) m.net }) (event.Lose k) (rec.Lost k ∷ []) q view.told (letters-lost q (k - 1) m.net) refl refl refl;
    clocks = λ ms q. passes (Numbered (event.Clock ms)) m (record m { now = m.now + ms }) (event.Clock ms) (rec.Clock (record { 0 = m.now + ms }) ∷ []) q view.told refl refl refl refl;
  }

-- what the step of an event does to each connection
pub step_comes : (m n : Machine) (e : Event) (P : Conn → Move → Type 0) (view : IsViewed m) (R : Rules (setting_of m) P) → HasRule e → machine_step m e ≡ Ok n
    → (q : ℕ) → GoesBy (λ x v. IsShown m e x v × P x v) (conn m q) (conn n q)
step_comes m n e P view R rule is = step-has m view P R (To m view P R) (shapes-go m view P R) e n rule is
