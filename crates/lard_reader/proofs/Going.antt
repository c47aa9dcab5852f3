-- A batch between two of its verdicts: what was read, and what is left to read.
use Rattle.std.proofs.Common.{◌≡◌, ℕ, zero, suc, ◌+◌, ◌-◌, ◌≤◌, ◌<◌, true, false, List, [], ◌∷◌, ◌++◌, length, take, drop, cond, refl, sym, ap, ◌∙◌, subst, append_assoc, arith, take_all}
use Rattle.std.proofs.lemmas.List.{append-nil, length-drop, drop-drop}
use Rattle.lard_block.specs.declared.block.Found.{Found}
use Rattle.lard_block.specs.declared.block.Found.TheVariants.{Block, More, TooLong}
use Rattle.lard_block.specs.Blocks.{cut_of, IsWithin}
use Rattle.lard_request.specs.declared.verdict.Code.TheVariants.{FieldsTooLarge}
use Rattle.lard_request.specs.declared.verdict.Verdict.{Verdict}
use Rattle.lard_request.specs.declared.verdict.Verdict.TheVariants.{Fault}
use Rattle.lard_request.specs.Verdict.{closes, verdict}
use Rattle.lard_answers.specs.Answers.{verdicts}
use Rattle.lard_answers.proofs.Firsts.{verdicts-block, verdicts-more, verdicts-long}
use Rattle.lard_reader.specs.Batches.{batch_of, used_from, bytes_used}

-- ---- the definitions, by what is found

pub used-zero : (q : List ℕ) → bytes_used zero q ≡ 0
unfolding bytes_used
used-zero q = refl

pub used-suc : (n : ℕ) (q : List ℕ) (f : Found) → cut_of q ≡ f → bytes_used (suc n) q ≡ used_from q (bytes_used n) f
unfolding bytes_used
used-suc n q f e = ap (used_from q (bytes_used n)) e

take-nil : (n : ℕ) → ◌≡◌ {A = List Verdict} (take n []) []
take-nil zero = refl
take-nil (suc n) = refl

-- a block whose answer closes, and one whose answer does not
pub used-closed : (n : ℕ) (q : List ℕ) (s l : ℕ) → cut_of q ≡ Block s l → closes (verdict (take l (drop s q))) ≡ true → bytes_used (suc n) q ≡ s + l
used-closed n q s l e c =
    let z : s + l + 0 ≡ s + l = omega arith in
    used-suc n q (Block s l) e ∙ ap (λ b. s + l + cond b 0 (bytes_used n (drop (s + l) q))) c ∙ z

pub used-open : (n : ℕ) (q : List ℕ) (s l : ℕ) → cut_of q ≡ Block s l → closes (verdict (take l (drop s q))) ≡ false → bytes_used (suc n) q ≡ s + l + bytes_used n (drop (s + l) q)
used-open n q s l e c = used-suc n q (Block s l) e ∙ ap (λ b. s + l + cond b 0 (bytes_used n (drop (s + l) q))) c

pub batch-closed : (n : ℕ) (q : List ℕ) (s l : ℕ) → cut_of q ≡ Block s l → closes (verdict (take l (drop s q))) ≡ true
    → batch_of (suc n) q ≡ verdict (take l (drop s q)) ∷ []
batch-closed n q s l e c =
    ap (take (suc n)) (verdicts-block q s l e ∙ ap (λ b. verdict (take l (drop s q)) ∷ cond b [] (verdicts (drop (s + l) q))) c)
    ∙ ap (λ w. verdict (take l (drop s q)) ∷ w) (take-nil n)

pub batch-open : (n : ℕ) (q : List ℕ) (s l : ℕ) → cut_of q ≡ Block s l → closes (verdict (take l (drop s q))) ≡ false
    → batch_of (suc n) q ≡ verdict (take l (drop s q)) ∷ batch_of n (drop (s + l) q)
batch-open n q s l e c = ap (take (suc n)) (verdicts-block q s l e ∙ ap (λ b. verdict (take l (drop s q)) ∷ cond b [] (verdicts (drop (s + l) q))) c)

pub batch-more : (n : ℕ) (q : List ℕ) (s : ℕ) → cut_of q ≡ More s → batch_of n q ≡ []
batch-more n q s e = ap (take n) (verdicts-more q s e) ∙ take-nil n

pub batch-long : (n : ℕ) (q : List ℕ) (s : ℕ) → cut_of q ≡ TooLong s → batch_of (suc n) q ≡ Fault FieldsTooLarge ∷ []
batch-long n q s e = ap (take (suc n)) (verdicts-long q s e) ∙ ap (λ w. Fault FieldsTooLarge ∷ w) (take-nil n)

-- ---- between two verdicts: these were read, and so many at most are still to come

pub record Going (q : List ℕ) (vs : List Verdict) (used n : ℕ) : Type 0 where
  pub inside : used ≤ length q
  pub said : batch_of 8 q ≡ vs ++ batch_of n (drop used q)
  pub taken : bytes_used 8 q ≡ used + bytes_used n (drop used q)

pub going_first : (q : List ℕ) → Going q [] 0 8
going_first q = record { inside = omega arith; said = refl; taken = omega arith }

-- what the code reads: the bytes behind a place
pub behind : (q : List ℕ) (used : ℕ) → take (length q - used) (drop used q) ≡ drop used q
behind q used = take_all (length q - used) (drop used q) (omega (arith, length-drop used q))

-- one that does not close, and the reading goes on
pub going_on : (q : List ℕ) (vs : List Verdict) (used n s l : ℕ) → Going q vs used (suc n) → cut_of (drop used q) ≡ Block s l → s + l ≤ length (drop used q)
    → closes (verdict (take l (drop s (drop used q)))) ≡ false → Going q (vs ++ verdict (take l (drop s (drop used q))) ∷ []) (used + (s + l)) n
going_on q vs used n s l g e w c =
    let d : drop (s + l) (drop used q) ≡ drop (used + (s + l)) q = drop-drop (s + l) used q in
    let k : bytes_used (suc n) (drop used q) ≡ s + l + bytes_used n (drop (used + (s + l)) q) = used-open n (drop used q) s l e c ∙ ap (λ r. s + l + bytes_used n r) d in record {
      inside = omega (arith, w, g.inside, length-drop used q);
      said = g.said ∙ ap (λ w. vs ++ w) (batch-open n (drop used q) s l e c ∙ ap (λ r. verdict (take l (drop s (drop used q))) ∷ batch_of n r) d)
          ∙ sym (append_assoc vs (verdict (take l (drop s (drop used q))) ∷ []) (batch_of n (drop (used + (s + l)) q)));
      taken = omega (arith, g.taken, k);
    }

-- ---- the exits

pub record Ended (q : List ℕ) (vs : List Verdict) (used : ℕ) : Type 0 where
  pub all : vs ≡ batch_of 8 q
  pub bytes : used ≡ bytes_used 8 q
  pub inside : used ≤ length q

pub going_closed : (q : List ℕ) (vs : List Verdict) (used n s l : ℕ) → Going q vs used (suc n) → cut_of (drop used q) ≡ Block s l → s + l ≤ length (drop used q)
    → closes (verdict (take l (drop s (drop used q)))) ≡ true → Ended q (vs ++ verdict (take l (drop s (drop used q))) ∷ []) (used + (s + l))
going_closed q vs used n s l g e w c =
    let k : bytes_used (suc n) (drop used q) ≡ s + l = used-closed n (drop used q) s l e c in record {
      all = sym (g.said ∙ ap (λ w. vs ++ w) (batch-closed n (drop used q) s l e c));
      bytes = omega (arith, g.taken, k);
      inside = omega (arith, w, g.inside, length-drop used q);
    }

pub going_more : (q : List ℕ) (vs : List Verdict) (used n s : ℕ) → Going q vs used (suc n) → cut_of (drop used q) ≡ More s → s ≤ length (drop used q) → Ended q vs (used + s)
going_more q vs used n s g e w =
    let k : bytes_used (suc n) (drop used q) ≡ s = used-suc n (drop used q) (More s) e in record {
      all = sym (g.said ∙ ap (λ w. vs ++ w) (batch-more (suc n) (drop used q) s e) ∙ append-nil vs);
      bytes = omega (arith, g.taken, k);
      inside = omega (arith, w, g.inside, length-drop used q);
    }

pub going_long : (q : List ℕ) (vs : List Verdict) (used n s : ℕ) → Going q vs used (suc n) → cut_of (drop used q) ≡ TooLong s → Ended q (vs ++ Fault FieldsTooLarge ∷ []) (length q)
going_long q vs used n s g e =
    let k : bytes_used (suc n) (drop used q) ≡ length (drop used q) = used-suc n (drop used q) (TooLong s) e in record {
      all = sym (g.said ∙ ap (λ w. vs ++ w) (batch-long n (drop used q) s e));
      bytes = omega (arith, g.taken, g.inside, k, length-drop used q);
      inside = omega arith;
    }

pub going_full : (q : List ℕ) (vs : List Verdict) (used : ℕ) → Going q vs used 0 → Ended q vs used
going_full q vs used g = record {
  all = sym (g.said ∙ append-nil vs);
  bytes = omega (arith, g.taken, used-zero (drop used q));
  inside = g.inside;
}

-- ---- the same for what the code reads: turn i of 8, and the bytes behind a place as it takes them

-- a turn that is not the last
one_less : (q : List ℕ) (vs : List Verdict) (used i : ℕ) → i < 8 → Going q vs used (8 - i) → Going q vs used (suc (8 - (i + 1)))
one_less q vs used i h g = let e : 8 - i ≡ suc (8 - (i + 1)) = omega (arith, h) in subst (λ n. Going q vs used n) e g

-- the block as it was judged
judged : (q : List ℕ) (used s l : ℕ) (v : Verdict) → v ≡ verdict (take (s + l - s) (drop s (take (length q - used) (drop used q)))) → v ≡ verdict (take l (drop s (drop used q)))
judged q used s l v e = let k : s + l - s ≡ l = omega arith in e ∙ ap (λ r. verdict (take (s + l - s) (drop s r))) (behind q used) ∙ ap (λ n. verdict (take n (drop s (drop used q)))) k

found_here : (q : List ℕ) (used : ℕ) (f : Found) → f ≡ cut_of (take (length q - used) (drop used q)) → cut_of (drop used q) ≡ f
found_here q used f e = sym (e ∙ ap cut_of (behind q used))

pub read_on : (q : List ℕ) (vs us : List Verdict) (used i s l : ℕ) (v : Verdict) → i < 8 → Going q vs used (8 - i) → Block s l ≡ cut_of (take (length q - used) (drop used q))
    → IsWithin (Block s l) (length (take (length q - used) (drop used q))) → v ≡ verdict (take (s + l - s) (drop s (take (length q - used) (drop used q)))) → closes v ≡ false
    → us ≡ vs ++ v ∷ [] → Going q us (used + (s + l)) (8 - (i + 1))
read_on q vs us used i s l v h g e w j c p =
    let k : v ≡ verdict (take l (drop s (drop used q))) = judged q used s l v j in
    subst (λ (ws : List Verdict). Going q ws (used + (s + l)) (8 - (i + 1))) (sym (p ∙ ap (λ v. vs ++ v ∷ []) k))
    (going_on q vs used (8 - (i + 1)) s l (one_less q vs used i h g) (found_here q used (Block s l) e) (omega (arith, w, ap length (behind q used))) (ap closes (sym k) ∙ c))

pub read_closed : (q : List ℕ) (vs us : List Verdict) (used i s l : ℕ) (v : Verdict) → i < 8 → Going q vs used (8 - i) → Block s l ≡ cut_of (take (length q - used) (drop used q))
    → IsWithin (Block s l) (length (take (length q - used) (drop used q))) → v ≡ verdict (take (s + l - s) (drop s (take (length q - used) (drop used q)))) → closes v ≡ true
    → us ≡ vs ++ v ∷ [] → Ended q us (used + (s + l))
read_closed q vs us used i s l v h g e w j c p =
    let k : v ≡ verdict (take l (drop s (drop used q))) = judged q used s l v j in
    subst (λ (ws : List Verdict). Ended q ws (used + (s + l))) (sym (p ∙ ap (λ v. vs ++ v ∷ []) k))
    (going_closed q vs used (8 - (i + 1)) s l (one_less q vs used i h g) (found_here q used (Block s l) e) (omega (arith, w, ap length (behind q used))) (ap closes (sym k) ∙ c))

pub read_more : (q : List ℕ) (vs : List Verdict) (used i s : ℕ) → i < 8 → Going q vs used (8 - i) → More s ≡ cut_of (take (length q - used) (drop used q))
    → IsWithin (More s) (length (take (length q - used) (drop used q))) → Ended q vs (used + s)
read_more q vs used i s h g e w = going_more q vs used (8 - (i + 1)) s (one_less q vs used i h g) (found_here q used (More s) e) (omega (arith, w, ap length (behind q used)))

pub read_long : (q : List ℕ) (vs us : List Verdict) (used i s : ℕ) → i < 8 → Going q vs used (8 - i) → TooLong s ≡ cut_of (take (length q - used) (drop used q))
    → us ≡ vs ++ Fault FieldsTooLarge ∷ [] → Ended q us (length q)
read_long q vs us used i s h g e p =
    subst (λ (ws : List Verdict). Ended q ws (length q)) (sym p) (going_long q vs used (8 - (i + 1)) s (one_less q vs used i h g) (found_here q used (TooLong s) e))

pub read_full : (q : List ℕ) (vs : List Verdict) (used i : ℕ) → 8 ≤ i → Going q vs used (8 - i) → Ended q vs used
read_full q vs used i h g = let e : 8 - i ≡ 0 = omega (arith, h) in going_full q vs used (subst (λ n. Going q vs used n) e g)
