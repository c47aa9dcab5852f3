-- The sum of a segment's words without its checksum, and that of the pseudo header.
use Rattle.std.proofs.Common.{◌≡◌, ℕ, ◌≤◌, ◌+◌, ◌-◌, ◌*◌, ◌%◌, List, ◌∷◌, length, ap, ◌∙◌, arith}
use Rattle.lard_segment.specs.declared.segment.Dir.{Dir}
use Rattle.lard_segment.specs.Fields.{word_at}
use Rattle.lard_segment.specs.Checksum.{words_sum, pseudo_header, blanked, checksum_of}

-- one word more on both sides
deeper : (x y w z : ℕ) → y + w ≡ z → x + y + w ≡ x + z
deeper x y w z e = omega arith

-- a word in place of zeros
in_place : (w s : ℕ) → 0 + s + w ≡ w + s
in_place w s = omega arith

-- the sum with a zero checksum lacks just the checksum
pub words_sum-blanked : (bytes : List ℕ) → 20 ≤ length bytes → words_sum (blanked bytes) + word_at bytes 16 ≡ words_sum bytes
words_sum-blanked (a ∷ b ∷ c ∷ d ∷ e ∷ f ∷ g ∷ h ∷ i ∷ j ∷ k ∷ l ∷ m ∷ n ∷ o ∷ p ∷ q ∷ r ∷ rest) long =
    let w : ℕ = q * 256 + r in
    deeper _ _ w _ (deeper _ _ w _ (deeper _ _ w _ (deeper _ _ w _ (deeper _ _ w _ (deeper _ _ w _ (deeper _ _ w _ (deeper _ _ w _ (in_place w (words_sum rest)))))))))
words_sum-blanked bytes long = absurd (omega (arith, long))

-- the checksum from the plain sums
pub checksum_of-sums : (c : ℕ) (dir : Dir) (bytes : List ℕ) (pseudo sum field : ℕ) → 20 ≤ length bytes → pseudo ≡ words_sum (pseudo_header c dir (length bytes)) → sum ≡ words_sum bytes → field ≡ word_at bytes 16
    → (65535 - (pseudo + (sum - field)) % 65535) % 65535 ≡ checksum_of c dir bytes
checksum_of-sums c dir bytes pseudo sum field long p s f =
    let whole = words_sum-blanked bytes long in
    let left : sum - field ≡ words_sum (blanked bytes) = omega (arith, whole, s, f) in
    ap (λ n. (65535 - n % 65535) % 65535) (ap (λ n. n + (sum - field)) p ∙ ap (λ n. words_sum (pseudo_header c dir (length bytes)) + n) left)
