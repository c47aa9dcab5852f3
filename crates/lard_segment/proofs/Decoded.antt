-- What holds of a segment that was read.
use Rattle.std.proofs.Common.{◌≡◌, ℕ, ◌≤◌, ◌+◌, ◌-◌, zero, suc, List, [], ◌∷◌, length, take, drop, Bool, true, false, cond, Option, None, Some, Result, Ok, Err, refl, sym, ap, ◌∙◌, subst, arith, nat_eq, slice_index, IfSome, length-drop, nat_lt}
use Rattle.std.specs.Prelude.{not, ◌||◌}
use Rattle.std.proofs.lemmas.Bool.Decides.{nat_tests}
use Rattle.lard_segment.specs.declared.segment.Dir.{Dir}
use Rattle.lard_segment.specs.declared.fault.SegFault.{SegFault}
use Rattle.lard_segment.specs.declared.fault.SegFault.TheVariants as fault
use Rattle.lard_segment.specs.Fields.{word_at, double_word_at, flags_of}
use Rattle.lard_segment.specs.Checksum.{checksum_of}
use Rattle.lard_segment.specs.Options.{option_len, clamped, mss_after, mss_among, mss_in}
use Rattle.lard_segment.specs.Segment.{Said, decoded, are_ports, begins_at, offset_of, with_data, with_mss}

-- a size in its range, where there is one
abbrev pub IsInRange : Option ℕ → Type 0
IsInRange mss = IfSome mss (λ m. (1 ≤ m) × (m ≤ 1460))

-- one value is given
ok_same : (m n : Option ℕ) (given : Result (Option ℕ) SegFault) → given ≡ Ok m → given ≡ Ok n → m ≡ n
ok_same m n given g h = cc

-- a test before an answer has passed
passed : (t : Bool) (e : SegFault) (x : Result Said SegFault) (s : Said) → cond t (Err e) x ≡ Ok s → x ≡ Ok s
passed true e x s h = absurd (cc)
passed false e x s h = h

-- all of them have passed
with_data-decoded : (bytes : List ℕ) (c : ℕ) (dir : Dir) (s : Said) → decoded bytes c dir ≡ Ok s → with_data bytes (begins_at bytes) ≡ Ok s
unfolding decoded
with_data-decoded bytes c dir s h =
    passed (not (are_ports bytes dir)) fault.Port _ s (passed (not (nat_eq (word_at bytes 16) (checksum_of c dir bytes))) fault.Sum _ s (passed (nat_lt (length bytes) 20) fault.Short _ s h))

-- a place of the data that is no fault
begins_at-range : (bytes : List ℕ) (n : ℕ) → begins_at bytes ≡ Some n → (20 ≤ n) × (n ≤ length bytes)
begins_at-range bytes n h = go (nat_lt (offset_of bytes) 20) (nat_lt (length bytes) (offset_of bytes)) refl refl h where
  go : (low high : Bool) → nat_lt (offset_of bytes) 20 ≡ low → nat_lt (length bytes) (offset_of bytes) ≡ high → cond (low || high) None (Some (offset_of bytes)) ≡ Some n → (20 ≤ n) × (n ≤ length bytes)
  go true high l g e = absurd (cc)
  go false true l g e = absurd (cc)
  go false false l g e = let same : offset_of bytes ≡ n = cc in (grind (arith, nat_tests), grind (arith, nat_tests))

-- where each part of a segment was read
pub record IsRead (bytes : List ℕ) (s : Said) : Type 0 where
  pub begins : ℕ
  pub behind_fixed : 20 ≤ begins
  pub within : begins ≤ length bytes
  pub sequence : s.seq ≡ double_word_at bytes 4
  pub acknowledgement : s.ack ≡ double_word_at bytes 8
  pub control : s.flags ≡ flags_of (slice_index bytes 13)
  pub window : s.wnd ≡ word_at bytes 14
  pub options : mss_in (take (begins - 20) (drop 20 bytes)) ≡ Ok s.mss
  pub rest : s.payload ≡ drop begins bytes

-- a segment that bytes give was read from them
pub decoded-read : (bytes : List ℕ) (c : ℕ) (dir : Dir) (s : Said) → decoded bytes c dir ≡ Ok s → IsRead bytes s
decoded-read bytes c dir s h = by_place (begins_at bytes) refl (with_data-decoded bytes c dir s h) where
  by_size : (n : ℕ) (given : Result (Option ℕ) SegFault) → begins_at bytes ≡ Some n → mss_in (take (n - 20) (drop 20 bytes)) ≡ given → with_mss bytes n given ≡ Ok s → IsRead bytes s
  by_size n (Err e) at size h = absurd (cc)
  by_size n (Ok mss) at size h =
      let same : record { seq = double_word_at bytes 4; ack = double_word_at bytes 8; flags = flags_of (slice_index bytes 13); wnd = word_at bytes 14; mss = mss; payload = drop n bytes } ≡ s = cc in
      record {
        begins = n;
        behind_fixed = (begins_at-range bytes n at).0;
        within = (begins_at-range bytes n at).1;
        sequence = sym (ap (λ (x : Said). x.seq) same);
        acknowledgement = sym (ap (λ (x : Said). x.ack) same);
        control = sym (ap (λ (x : Said). x.flags) same);
        window = sym (ap (λ (x : Said). x.wnd) same);
        options = size ∙ ap (λ (x : Said). Ok x.mss) same;
        rest = sym (ap (λ (x : Said). x.payload) same);
      }

  by_place : (o : Option ℕ) → begins_at bytes ≡ o → with_data bytes o ≡ Ok s → IsRead bytes s
  by_place None at h = absurd (cc)
  by_place (Some n) at h = by_size n (mss_in (take (n - 20) (drop 20 bytes))) at refl h

-- its data lies behind 20 bytes at least
pub length-decoded : (bytes : List ℕ) (c : ℕ) (dir : Dir) (s : Said) → decoded bytes c dir ≡ Ok s → 20 + length s.payload ≤ length bytes
length-decoded bytes c dir s h =
    let r = decoded-read bytes c dir s h in
    omega (arith, r.behind_fixed, r.within, ap length r.rest, length-drop r.begins bytes)

-- an option's size is in its range
mss_after-range : (mss : Option ℕ) (k : ℕ) (bytes : List ℕ) → IsInRange mss → IsInRange (mss_after mss k bytes)
mss_after-range (Some m) k bytes h = h
mss_after-range None k bytes h = go (nat_eq k 2) (word_at bytes 1) where
  go : (t : Bool) (n : ℕ) → IsInRange (cond t (Some (clamped n)) None)
  go true n = (omega arith, omega arith)
  go false n = tt

-- so is what options give
mss_among-range : (n : ℕ) (bytes : List ℕ) (mss m : Option ℕ) → mss_among n bytes mss ≡ Ok m → IsInRange mss → IsInRange m
mss_among-range n [] mss m h r = subst IsInRange (ok_same mss m _ refl h) r
mss_among-range zero (k ∷ bytes) mss m h r = subst IsInRange (ok_same mss m _ refl h) r
mss_among-range (suc n) (k ∷ bytes) mss m h r =
    step (λ g. mss_among-range n bytes mss m g r) (λ l g. mss_among-range n (drop (l - 1) bytes) (mss_after mss k bytes) m g (mss_after-range mss k bytes r)) (nat_eq k 0) (nat_eq k 1) (option_len k bytes) h where
      step : (mss_among n bytes mss ≡ Ok m → IsInRange m) → ((l : ℕ) → mss_among n (drop (l - 1) bytes) (mss_after mss k bytes) ≡ Ok m → IsInRange m)
          → (t u : Bool) (o : Option ℕ) → cond t (Ok mss) (cond u (mss_among n bytes mss) (elim o as (λ _. Result (Option ℕ) SegFault) [ None ↦ Err fault.Option | Some l ↦ mss_among n (drop (l - 1) bytes) (mss_after mss k bytes) ])) ≡ Ok m
          → IsInRange m
      step x y true u o e = subst IsInRange (ok_same mss m _ refl e) r
      step x y false true o e = x e
      step x y false false None e = absurd (cc)
      step x y false false (Some l) e = y l e

-- a size that was read is in its range
pub mss-decoded : (bytes : List ℕ) (c : ℕ) (dir : Dir) (s : Said) → decoded bytes c dir ≡ Ok s → IsInRange s.mss
mss-decoded bytes c dir s h =
    let r = decoded-read bytes c dir s h in
    let header : List ℕ = take (r.begins - 20) (drop 20 bytes) in
    mss_among-range (length header) header None s.mss r.options tt
