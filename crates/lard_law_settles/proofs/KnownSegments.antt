-- What a segment of the client, or of the cluster, says: by the laws of bytes and of acknowledgements, whenever it was sent.
use Rattle.std.proofs.Common.{◌≡◌, ◌<◌, ◌≤◌, ◌+◌, ◌^◌, ℕ, Bool, true, false, cond, List, length, Ok, ⊎_elim, refl, sym, ap, ◌∙◌, arith}
use Rattle.std.specs.Prelude.{Result}
use Rattle.lard_law_view.specs.Prelude.{Dir, IsBare, IsSendable, IsStream, IsTrueOf, MAX_STREAM_BYTES, Said, SegFault, Stands, Stream, decoded, one_if, seg_len, seq_offset, spelled}
use Rattle.lard_law_settles.proofs.KnownCounting.{one-most}
use Rattle.lard_law_view.proofs.Acked.{Acks}
use Rattle.lard_segment.proofs.Again.{again}
use Rattle.lard_seq.proofs.Laws.{offset-add}

-- what is read of a segment that was spelled is that segment
pub read-is : (c : ℕ) (dir : Dir) (bytes : List ℕ) (said s : Said) → bytes ≡ spelled c dir said → IsSendable said → decoded bytes c dir ≡ Ok s → said ≡ s
read-is c dir bytes said s is fits read = one said s (sym (again c dir said fits) ∙ sym (ap (λ (bs : List ℕ). decoded bs c dir) is) ∙ read) where
  one : (a b : Said) → ◌≡◌ {A = Result Said SegFault} (Ok a) (Ok b) → a ≡ b
  one a b e = cc

flag-len : (t : Bool) → cond t 1 0 ≡ one_if t
flag-len true = refl
flag-len false = refl

-- a number that acknowledges at most n symbols has no greater offset
pub acks-most : (first n number : ℕ) → first < 2 ^ 32 → n < 2 ^ 32 → Acks first n number → seq_offset number first ≤ n
acks-most first n number small few h =
    let a : h.0 ≤ n = h.2 in
    let is : seq_offset number first ≡ h.0 = ap (λ m. seq_offset m first) h.1 ∙ offset-add first h.0 small (omega (arith, a, few)) in
    omega (arith, is, a)

-- ---- a segment that has symbols has those of its place

module _ (w : Stream) (stream : IsStream w) (s : Said) (true_of : IsTrueOf w s) where
  abbrev ended : ℕ
  ended = one_if w.ended

  len-is : seg_len s ≡ length s.payload + one_if s.flags.syn + one_if s.flags.fin
  len-is = let a = flag-len s.flags.syn in let b = flag-len s.flags.fin in omega (arith, a, b)

  bare-len : IsBare s → s.flags.syn ≡ false → seg_len s ≡ 0
  bare-len bare syn =
      let l = len-is in
      let a : length s.payload ≡ 0 = ap (λ (xs : List ℕ). length xs) bare.0 in
      let b : one_if s.flags.fin ≡ 0 = ap one_if bare.1 in
      let c : one_if s.flags.syn ≡ 0 = ap one_if syn in
      omega (arith, l, a, b, c)

  -- the symbols in its place, where it stands in one
  stands-within : (h : Stands w s) → (seq_offset s.seq w.first ≡ 1 + h.place) × (1 + h.place + length s.payload + one_if s.flags.fin ≤ 1 + length w.bytes + ended)
  stands-within h =
      let part : h.place + length s.payload ≤ length w.bytes = h.part.within in
      let most : length w.bytes ≤ MAX_STREAM_BYTES = stream.most in
      let number : seq_offset s.seq w.first ≡ 1 + h.place = ap (λ n. seq_offset n w.first) h.number ∙ offset-add w.first (1 + h.place) stream.number (omega (arith, part, most)) in
      (number, go s.flags.fin refl)
    where
      go : (t : Bool) → s.flags.fin ≡ t → 1 + h.place + length s.payload + one_if s.flags.fin ≤ 1 + length w.bytes + ended
      go true is =
          let f = h.final is in
          let g : h.place + length s.payload ≡ length w.bytes = f.0 in
          let e : ended ≡ 1 = ap one_if f.1 in
          let o = one-most s.flags.fin in
          omega (arith, g, e, o)
      go false is = let none : one_if s.flags.fin ≡ 0 = ap one_if is in let part : h.place + length s.payload ≤ length w.bytes = h.part.within in omega (arith, none, part)

  -- a SYN has nothing more
  syn-alone : s.flags.syn ≡ true → (seq_offset s.seq w.first ≡ 0) × (seg_len s ≡ 1)
  syn-alone syn =
      let at : s.seq ≡ w.first = true_of.greets syn in
      let l = len-is in
      let one : one_if s.flags.syn ≡ 1 = ap one_if syn in
      let zero_ : seq_offset s.seq w.first ≡ 0 = ap (λ n. seq_offset n w.first) at ∙ itself w.first in (
        zero_,
        ⊎_elim
            (λ (bare : IsBare s). let a : length s.payload ≡ 0 = ap (λ (xs : List ℕ). length xs) bare.0 in let b : one_if s.flags.fin ≡ 0 = ap one_if bare.1 in omega (arith, l, a, b, one))
            (λ (h : Stands w s). absurd (let n = (stands-within h).0 in omega (arith, n, zero_)))
            true_of.carries,
      )
    where
      itself : (n : ℕ) → seq_offset n n ≡ 0
      itself n = omega arith

  -- all of its symbols are the stream's
  pub symbols-within : 1 ≤ seg_len s → seq_offset s.seq w.first + seg_len s ≤ 1 + length w.bytes + ended
  symbols-within some = go s.flags.syn refl where
    go : (t : Bool) → s.flags.syn ≡ t → seq_offset s.seq w.first + seg_len s ≤ 1 + length w.bytes + ended
    go true is = let h = syn-alone is in let a = h.0 in let b = h.1 in omega (arith, a, b)
    go false is = ⊎_elim
        (λ (bare : IsBare s). absurd (let none = bare-len bare is in omega (arith, none, some)))
        (λ (h : Stands w s). let p = stands-within h in let n = p.0 in let m = p.1 in let l = len-is in let c : one_if s.flags.syn ≡ 0 = ap one_if is in omega (arith, n, m, l, c))
        true_of.carries

  -- and its bytes do not go beyond what one direction carries
  pub bytes-within : s.flags.syn ≡ false → 1 ≤ seg_len s → seq_offset s.seq w.first + length s.payload ≤ 1 + MAX_STREAM_BYTES
  bytes-within syn some = ⊎_elim
      (λ (bare : IsBare s). absurd (let none = bare-len bare syn in omega (arith, none, some)))
      (λ (h : Stands w s).
      let n = (stands-within h).0 in
      let part : h.place + length s.payload ≤ length w.bytes = h.part.within in
      let most : length w.bytes ≤ MAX_STREAM_BYTES = stream.most in
      omega (arith, n, part, most))
      true_of.carries
