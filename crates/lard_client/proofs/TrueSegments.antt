-- What a client accepts of a segment that tells the truth.
use Rattle.std.proofs.Common.{◌≡◌, ◌≤◌, ◌<◌, ◌-◌, ◌+◌, ◌^◌, ℕ, nat_lt, not, ◌&&◌, Bool, true, false, List, length, take, drop, min, arith, refl, subst, sym, ap, ◌∙◌, ⊎_elim, length-drop}
use Rattle.std.specs.Prelude.{if◌then◌else◌}
use Rattle.std.proofs.lemmas.Bool.{cases_lt, not-true}
use Rattle.std.proofs.lemmas.List.{drop-take, drop-drop, length-take, take-take}
use Rattle.lard_client.specs.declared.heard.Heard.{Heard}
use Rattle.lard_client.specs.Control.{ClientBlock, is_client_open, is_established, client_rcv_nxt, client_rcv_wnd}
use Rattle.lard_client.specs.Arriving.{client_arrived, client_begins_after, known, client_room}
use Rattle.lard_arrival.specs.Arrival.{IsPartAt, is_acceptable}
use Rattle.lard_client.specs.Laws.{counts, IsInOrder, IsTrueSegment, IsNextOf}
use Rattle.lard_client.proofs.Accepted.{arrived-order}
use Rattle.lard_client.proofs.Counting.{arrived-awaited}
use Rattle.lard_segment.specs.Segment.{Said}
use Rattle.lard_seq.specs.Seq.{one_if, seq_add, seq_offset}

-- two places with one number are one place, within 2^30
same_place : (i k f a e : ℕ) → i < 2 ^ 32 → k + f ≤ 2 ^ 30 → a ≤ 2 ^ 30 → e ≡ 0 → seq_add (seq_add i (1 + k)) f ≡ seq_add i (1 + a + e) → k + f ≡ a
same_place i k f a e hi hk ha he h = omega arith

-- n bytes of a part, from its place f on
inner_part : (k f n : ℕ) (part all : List ℕ) → f + n ≤ length part → IsPartAt k part all → IsPartAt (k + f) (take n (drop f part)) all
inner_part k f n part all le p =
    let more : f + (length part - f) ≡ length part = omega arith in
    let within = p.within in
    let size : length (take n (drop f part)) ≡ n = omega (arith, length-take n (drop f part), length-drop f part) in
    let rest : drop f part ≡ take (length part - f) (drop (k + f) all) =
    ap (drop f) (sym p.same ∙ ap (λ m. take m (drop k all)) (sym more)) ∙ drop-take f (length part - f) (drop k all) ∙ ap (take (length part - f)) (drop-drop f k all) in
    record {
      within = omega arith;
      same = ap (λ m. take m (drop (k + f) all)) size ∙ sym (take-take n (length part - f) (drop (k + f) all) (omega arith)) ∙ ap (take n) (sym rest);
    }

module _ (x : ClientBlock) (s : Said) (all : List ℕ) (k : ℕ) (h : Heard) (y : ClientBlock) (a : x.accepted ≤ length all) (t : IsTrueSegment x all k s) (o : IsInOrder x s h y) where
  -- after a FIN nothing is taken
  still_open : (b : Bool) → x.eof ≡ b → 0 < h.len + one_if h.eof → one_if x.eof ≡ 0
  still_open false e p = ap one_if e
  still_open true e p = let none = o.once e in absurd (omega arith)

  -- what is taken begins at the awaited place
  place : 0 < h.len + one_if h.eof → k + h.from ≡ x.accepted
  place p =
      let in_part = t.part.within in
      let within = o.within in
      let most = t.most in
      same_place x.send.irs k h.from x.accepted (one_if x.eof) t.first (omega arith) (omega arith) (still_open x.eof refl p)
      (ap (λ n. seq_add n h.from) (sym t.number) ∙ o.place p)

  taken_part : IsPartAt x.accepted (take h.len (drop h.from s.payload)) all
  taken_part = ⊎_elim
      (λ (some : 0 < h.len + one_if h.eof). subst (λ (n : ℕ). IsPartAt n (take h.len (drop h.from s.payload)) all) (place some) (inner_part k h.from h.len s.payload all o.within t.part))
      (λ (none : h.len + one_if h.eof ≤ 0).
      let zero_len : 0 ≡ h.len = omega arith in
      subst (λ (n : ℕ). IsPartAt x.accepted (take n (drop h.from s.payload)) all) zero_len (record { within = omega arith; same = refl }))
      (cases_lt 0 (h.len + one_if h.eof))

  taken_all : h.eof ≡ true → x.accepted + h.len ≡ length all
  taken_all e =
      let one : one_if h.eof ≡ 1 = ap one_if e in
      let at = place (omega arith) in
      let last = o.last e in
      let final = t.final (o.ended e) in
      omega arith

pub true-accepted : (x : ClientBlock) (s : Said) (all : List ℕ) (k : ℕ) → x.accepted ≤ length all → IsTrueSegment x all k s → IsNextOf x s (client_arrived x s).0 all
true-accepted x s all k a t =
    let number : s.seq < 2 ^ 32 = let e = t.number in omega arith in
    let order = arrived-order x s number in
    record {
      part = taken_part x s all k (client_arrived x s).0 (client_arrived x s).1 a t order;
      final = taken_all x s all k (client_arrived x s).0 (client_arrived x s).1 a t order;
    }

-- ---- all of them
later : (i a k e : ℕ) → i < 2 ^ 32 → k ≤ a → a ≤ 2 ^ 30 → e ≡ 0 → seq_offset (seq_add i (1 + a + e)) (seq_add i (1 + k)) ≡ a - k
later i a k e hi hk ha he = omega arith

-- one that counts comes before the FIN
last_test : (a b c d e f g h i : Bool) → (a && (b && (c && (d && (e && (f && (g && (h && i)))))))) ≡ true → i ≡ true
last_test false b c d e f g h i t = absurd (cc)
last_test true false c d e f g h i t = absurd (cc)
last_test true true false d e f g h i t = absurd (cc)
last_test true true true false e f g h i t = absurd (cc)
last_test true true true true false f g h i t = absurd (cc)
last_test true true true true true false g h i t = absurd (cc)
last_test true true true true true true false h i t = absurd (cc)
last_test true true true true true true true false i t = absurd (cc)
last_test true true true true true true true true i t = t

counts-open : (x : ClientBlock) (s : Said) → counts x s ≡ true → x.eof ≡ false
counts-open x s c =
    not-true x.eof
    (last_test (is_client_open x) (is_established x) (is_acceptable (client_rcv_nxt x) (client_rcv_wnd x) s) (not s.flags.rst) (not s.flags.syn) s.flags.ack
    (not (nat_lt x.send.nxt (seq_offset s.ack x.send.iss))) (not (client_begins_after x s)) (not x.eof) c)

pub true-len : (x : ClientBlock) (s : Said) (all : List ℕ) (k : ℕ) → x.accepted ≤ length all → IsTrueSegment x all k s
    → counts x s ≡ true → k ≤ x.accepted → (client_arrived x s).0.len ≡ min (k + length s.payload - x.accepted) (client_room x)
true-len x s all k a t c le =
    let most = t.most in
    let offset : known x s ≡ x.accepted - k =
    ap (seq_offset (client_rcv_nxt x)) t.number ∙ later x.send.irs x.accepted k (one_if x.eof) t.first le (omega arith) (ap one_if (counts-open x s c)) in
    let len : (client_arrived x s).0.len ≡ min (length s.payload - known x s) (client_room x) =
    (arrived-awaited x s).len ∙ ap (λ b. if b then min (length s.payload - known x s) (client_room x) else 0) c in
    len ∙ ap (λ n. min n (client_room x)) (omega (arith, offset))
