-- What is written is read again.
use Rattle.std.proofs.Common.{◌≡◌, ℕ, ◌<◌, ◌≤◌, ◌+◌, ◌*◌, ◌/◌, ◌%◌, ◌^◌, List, Bool, true, false, Option, Some, None, Ok, refl, ap, sym, ◌∙◌, arith, eq-eqb}
use Rattle.std.proofs.lemmas.Bool.Decides.{nat_tests}
use Rattle.lard_segment.specs.declared.segment.Dir.{Dir}
use Rattle.lard_segment.specs.declared.segment.Dir.TheVariants.{ToCluster, ToClient}
use Rattle.lard_segment.specs.declared.segment.Flags.{Flags}
use Rattle.lard_segment.specs.Checksum.{checksum_of}
use Rattle.lard_segment.specs.Fields.{word_at, flags_of, flags_byte}
use Rattle.lard_segment.specs.Options.{clamped}
use Rattle.lard_segment.specs.Segment.{Said, decoded, spelled, with_checksum, are_ports, IsSendable, SegmentReadsAgain}
use Rattle.lard_segment.proofs.InOrder.{in_order, at_places}

-- two bytes of a number make it again
two : (n : ℕ) → n < 2 ^ 16 → n / 256 % 256 * 256 + n % 256 ≡ n
two n h = omega arith

-- and four bytes
four : (n : ℕ) → n < 2 ^ 32 → (n / 16777216 % 256 * 256 + n / 65536 % 256) * 65536 + (n / 256 % 256 * 256 + n % 256) ≡ n
four n h = omega arith

-- the bits of their byte are the flags
flags_of-flag_byte : (f : Flags) → flags_of (flags_byte f) ≡ f
flags_of-flag_byte f = each f.syn f.ack f.fin f.rst f.psh where
  each : (syn ack fin rst psh : Bool) → flags_of (flags_byte (record { syn = syn; ack = ack; fin = fin; rst = rst; psh = psh })) ≡ record { syn = syn; ack = ack; fin = fin; rst = rst; psh = psh }
  each true true true true true = refl
  each true true true true false = refl
  each true true true false true = refl
  each true true true false false = refl
  each true true false true true = refl
  each true true false true false = refl
  each true true false false true = refl
  each true true false false false = refl
  each true false true true true = refl
  each true false true true false = refl
  each true false true false true = refl
  each true false true false false = refl
  each true false false true true = refl
  each true false false true false = refl
  each true false false false true = refl
  each true false false false false = refl
  each false true true true true = refl
  each false true true true false = refl
  each false true true false true = refl
  each false true true false false = refl
  each false true false true true = refl
  each false true false true false = refl
  each false true false false true = refl
  each false true false false false = refl
  each false false true true true = refl
  each false false true true false = refl
  each false false true false true = refl
  each false false true false false = refl
  each false false false true true = refl
  each false false false true false = refl
  each false false false false true = refl
  each false false false false false = refl

-- a checksum fits its field
small_checksum : (c : ℕ) (dir : Dir) (bytes : List ℕ) → checksum_of c dir bytes < 2 ^ 16
small_checksum c dir bytes = omega arith

-- the ports are those of the direction
are_ports-again : (dir : Dir) (s : Said) (checksum : ℕ) → are_ports (with_checksum dir s checksum) dir ≡ true
are_ports-again ToCluster s checksum = refl
are_ports-again ToClient s checksum = refl

-- a size in its range stays
clamped_same : (m : ℕ) → 1 ≤ m → m ≤ 1460 → clamped m ≡ m
clamped_same m low high = omega arith

again_at : (c : ℕ) (dir : Dir) (q a : ℕ) (f : Flags) (w : ℕ) (mss : Option ℕ) (P : List ℕ) → IsSendable (record { seq = q; ack = a; flags = f; wnd = w; mss = mss; payload = P })
    → decoded (spelled c dir (record { seq = q; ack = a; flags = f; wnd = w; mss = mss; payload = P })) c dir ≡ Ok (record { seq = q; ack = a; flags = f; wnd = w; mss = mss; payload = P })
unfolding spelled
again_at c dir q a f w None P v =
    let s : Said = record { seq = q; ack = a; flags = f; wnd = w; mss = None; payload = P } in
    let sum : ℕ = checksum_of c dir (with_checksum dir s 0) in
    let bytes : List ℕ = with_checksum dir s sum in
    in_order bytes c dir 20 (Ok None) (grind (arith, nat_tests)) (eq-eqb (word_at bytes 16) (checksum_of c dir bytes) (two sum (small_checksum c dir (with_checksum dir s 0))))
    (are_ports-again dir s sum) (grind (arith, nat_tests)) refl ∙ at_places bytes 20 s (sym (four q v.seq_fits)) (sym (four a v.ack_fits)) (sym (flags_of-flag_byte f)) (sym (two w v.wnd_fits)) refl
again_at c dir q a f w (Some m) P v =
    let s : Said = record { seq = q; ack = a; flags = f; wnd = w; mss = Some m; payload = P } in
    let sum : ℕ = checksum_of c dir (with_checksum dir s 0) in
    let bytes : List ℕ = with_checksum dir s sum in
    let size : clamped (m / 256 % 256 * 256 + m % 256) ≡ m = ap clamped (two m (omega (arith, v.small_mss))) ∙ clamped_same m v.some_mss v.small_mss in
    in_order bytes c dir 24 (Ok (Some m)) (grind (arith, nat_tests)) (eq-eqb (word_at bytes 16) (checksum_of c dir bytes) (two sum (small_checksum c dir (with_checksum dir s 0))))
    (are_ports-again dir s sum) (grind (arith, nat_tests)) (ap (λ n. Ok (Some n)) size) ∙ at_places bytes 24 s (sym (four q v.seq_fits)) (sym (four a v.ack_fits)) (sym (flags_of-flag_byte f)) (sym (two w v.wnd_fits)) refl

-- what is written is read again
pub again : SegmentReadsAgain
again c dir s v = again_at c dir s.seq s.ack s.flags s.wnd s.mss s.payload v
