-- What is found is what the declared words say, and nothing else.
use Rattle.std.proofs.Common.{◌≡◌, ℕ, zero, suc, ◌+◌, ◌≤◌, ◌<◌, Bool, true, false, List, [], ◌∷◌, ◌++◌, length, take, drop, Some, None, refl, sym, ap, ◌∙◌, subst, arith, nat_lt}
use Rattle.std.proofs.lemmas.List.{take-append-le, take-append-drop, length-take, length-append}
use Rattle.std.proofs.lemmas.Slice.Eq.{starts_is}
use Rattle.std.proofs.lemmas.Bool.Decides.{Decides-eqb, nat_tests}
use Rattle.std.specs.Option.{option_map}
use Rattle.lard_block.specs.declared.block.Found.{Found}
use Rattle.lard_block.specs.declared.block.Found.TheVariants.{Block, More, TooLong}
use Rattle.lard_block.specs.Blocks.{skipped, head_end, found_in, cut_of}
use Rattle.lard_block.specs.Said.{BeginsWithPairs, EndsAt, HasNoEnd, IsFirstEnd, IsFound, IsSkipped, pairs}
use Rattle.lard_block.proofs.Cutting.{cut_is, found-block, found-long, found-more}
use Rattle.lard_block.proofs.Ends.{ends_here, Ending, here, there, apart, ending, end-within, head-hit, head-miss, same-front}
use Rattle.lard_block.proofs.Pairs.{pair_here, pair-hit, pair-miss, pair-lone}

-- ---- the run of pairs

-- no run is longer than the bytes
none_more : (q : List ℕ) (n : ℕ) → length q < 2 → BeginsWithPairs q n → n ≤ 0
none_more q zero short b = omega arith
none_more q (suc n) short b = let l : length q ≡ suc (suc (length (pairs n ++ b.0))) = ap length b.1 in absurd (omega (arith, l, short))

no_run : (q : List ℕ) → skipped q ≡ 0 → ((n : ℕ) → BeginsWithPairs q n → n ≤ 0) → IsSkipped q (skipped q)
no_run q e longest = record { count = 0; size = omega (arith, e); begins = (q, refl); longest = longest }

skips : (q : List ℕ) → IsSkipped q (skipped q)
skips [] = no_run [] (pair-miss [] refl) (λ n. none_more [] n (omega arith))
skips (a ∷ []) = no_run (a ∷ []) (pair-lone a) (λ n. none_more (a ∷ []) n (omega arith))
skips (a ∷ b ∷ rest) = go (skips rest) (pair_here (a ∷ b ∷ rest)) refl where
  go : IsSkipped rest (skipped rest) → (t : Bool) → pair_here (a ∷ b ∷ rest) ≡ t → IsSkipped (a ∷ b ∷ rest) (skipped (a ∷ b ∷ rest))
  go s true e =
      let p : a ∷ b ∷ rest ≡ (13 ∷ 10 ∷ []) ++ drop 2 (a ∷ b ∷ rest) = (starts_is Decides-eqb (a ∷ b ∷ rest) (13 ∷ 10 ∷ []) (pair_here (a ∷ b ∷ rest)) refl).0 e in
      let begins : a ∷ b ∷ rest ≡ 13 ∷ 10 ∷ (pairs s.count ++ s.begins.0) = p ∙ ap (λ w. 13 ∷ 10 ∷ w) s.begins.1 in
      record { count = suc s.count; size = omega (arith, pair-hit a b rest e, s.size); begins = (s.begins.0, begins); longest = longest } where
        longest : (n : ℕ) → BeginsWithPairs (a ∷ b ∷ rest) n → n ≤ suc s.count
        longest zero h = omega arith
        longest (suc n) h = let f : rest ≡ pairs n ++ h.0 = ap (drop 2) h.1 in omega (arith, s.longest n (h.0, f))
  go s false e = no_run (a ∷ b ∷ rest) (pair-miss (a ∷ b ∷ rest) e) longest where
    longest : (n : ℕ) → BeginsWithPairs (a ∷ b ∷ rest) n → n ≤ 0
    longest zero h = omega arith
    longest (suc n) h = absurd (let f : false ≡ true = sym e ∙ ap pair_here h.1 in cc)

-- two runs of which neither is shorter are one
same_skip : (q : List ℕ) (a b : ℕ) → IsSkipped q a → IsSkipped q b → a ≡ b
same_skip q a b s t = omega (arith, s.size, t.size, s.longest t.count t.begins, t.longest s.count s.begins)

-- ---- the end of a head

-- an end is four bytes behind the front
four : (x : List ℕ) (n : ℕ) → EndsAt x n → 4 ≤ n
four x n e = let l : length (take n x) ≡ length e.before + 4 = ap length e.ends ∙ length-append e.before (13 ∷ 10 ∷ 13 ∷ 10 ∷ []) in omega (arith, l, length-take n x)

-- the end that the search finds is one
ends : (x : List ℕ) (n : ℕ) → head_end x ≡ Some n → EndsAt x n
ends x n h = record { within = (end-within x n h).1; before = (fronts x n h).0; ends = (fronts x n h).1 } where
  fronts : (x : List ℕ) (n : ℕ) → head_end x ≡ Some n → (before : List ℕ) × (take n x ≡ before ++ 13 ∷ 10 ∷ 13 ∷ 10 ∷ [])
  fronts [] n h = absurd (omega (arith, end-within [] n h))
  fronts (a ∷ rest) n h = go (λ m. fronts rest m) (ending a rest n h) where
    go : ((m : ℕ) → head_end rest ≡ Some m → (before : List ℕ) × (take m rest ≡ before ++ 13 ∷ 10 ∷ 13 ∷ 10 ∷ [])) → Ending a rest n
        → (before : List ℕ) × (take n (a ∷ rest) ≡ before ++ 13 ∷ 10 ∷ 13 ∷ 10 ∷ [])
    go later (here e f) = ([], ap (λ k. take k (a ∷ rest)) (sym f) ∙ ap (take 4) (apart (a ∷ rest) e))
    go later (there m e f g) = (a ∷ (later m f).0, ap (λ k. take k (a ∷ rest)) (sym g) ∙ ap (λ w. a ∷ w) (later m f).1)

-- and no other end is before it
pub record Finds (x : List ℕ) (n : ℕ) : Type 0 where
  pub end : ℕ
  pub is : head_end x ≡ Some end
  pub before : end ≤ n

earlier : (a : ℕ) (rest : List ℕ) (n : ℕ) → 4 ≤ suc n → Finds rest n → Finds (a ∷ rest) (suc n)
earlier a rest n h f = go (ends_here (a ∷ rest)) refl where
  go : (t : Bool) → ends_here (a ∷ rest) ≡ t → Finds (a ∷ rest) (suc n)
  go true e = record { end = 4; is = head-hit a rest e; before = h }
  go false e = record { end = f.end + 1; is = head-miss a rest e ∙ ap (λ o. option_map (λ k. k + 1) o) f.is; before = omega (arith, f.before) }

-- the first four bytes are an end
at_front : (a : ℕ) (rest : List ℕ) (n : ℕ) → a ∷ take n rest ≡ 13 ∷ 10 ∷ 13 ∷ 10 ∷ [] → Finds (a ∷ rest) (suc n)
at_front a rest n e =
    let first : a ≡ 13 = cc in
    let others : take n rest ≡ 10 ∷ 13 ∷ 10 ∷ [] = ap (drop 1) e in
    let l : length (take n rest) ≡ 3 = ap length others in
    let most = length-take n rest in
    let three : take 3 rest ≡ 10 ∷ 13 ∷ 10 ∷ [] = ap (take 3) (sym (take-append-drop n rest)) ∙ take-append-le 3 (take n rest) (drop n rest) (omega (arith, l)) ∙ ap (take 3) others in
    let hit : ends_here (a ∷ rest) ≡ true = same-front a rest (10 ∷ 13 ∷ 10 ∷ []) three ∙ ap (λ b. ends_here (b ∷ 10 ∷ 13 ∷ 10 ∷ [])) first in
    record { end = 4; is = head-hit a rest hit; before = omega (arith, l, most) }

finds : (x : List ℕ) (n : ℕ) → EndsAt x n → Finds x n
finds [] n e = absurd (let l : n ≤ 0 = e.within in omega (arith, l, four [] n e))
finds (a ∷ rest) zero e = absurd (omega (arith, four (a ∷ rest) zero e))
finds (a ∷ rest) (suc n) e = go (λ k. finds rest n k) e.before e.ends where
  go : (EndsAt rest n → Finds rest n) → (before : List ℕ) → a ∷ take n rest ≡ before ++ 13 ∷ 10 ∷ 13 ∷ 10 ∷ [] → Finds (a ∷ rest) (suc n)
  go later [] f = at_front a rest n f
  go later (b ∷ before) f =
      let within : suc n ≤ length (a ∷ rest) = e.within in
      earlier a rest n (four (a ∷ rest) (suc n) e) (later (record { within = omega (arith, within); before = before; ends = ap (drop 1) f }))

-- ends within some of the bytes
taken : (x : List ℕ) (most n : ℕ) → n ≤ length (take most x) → take n (take most x) ≡ take n x
taken x most n h = sym (take-append-le n (take most x) (drop most x) h) ∙ ap (take n) (take-append-drop most x)

ends_in : (x : List ℕ) (most n : ℕ) → EndsAt (take most x) n → EndsAt x n
ends_in x most n e = record { within = let h = e.within in omega (arith, h, length-take most x); before = e.before; ends = sym (taken x most n e.within) ∙ e.ends }

ends_within : (x : List ℕ) (most n : ℕ) → n ≤ most → EndsAt x n → EndsAt (take most x) n
ends_within x most n h e =
    let within : n ≤ length (take most x) = let k = e.within in omega (arith, h, k, length-take most x) in
    record { within = within; before = e.before; ends = taken x most n within ∙ e.ends }

-- an end within the first 8,192 bytes is not before the one that the search finds there
not_before : (x : List ℕ) (n : ℕ) → head_end (take 8192 x) ≡ Some n → n ≤ 8192 → (other : ℕ) → EndsAt x other → n ≤ other
not_before x n h most other e = go (nat_lt 8192 other) refl where
  go : (t : Bool) → nat_lt 8192 other ≡ t → n ≤ other
  go true f = let far : 8192 < other = grind (arith, nat_tests, f) in omega (arith, far, most)
  go false f =
      let near : other ≤ 8192 = grind (arith, nat_tests, f) in
      let found : Finds (take 8192 x) other = finds (take 8192 x) other (ends_within x 8192 other near e) in
      let same : Some found.end ≡ Some n = sym found.is ∙ h in
      let k : found.end ≡ n = cc in omega (arith, k, found.before)

first_end : (x : List ℕ) (n : ℕ) → head_end (take 8192 x) ≡ Some n → IsFirstEnd x n × (n ≤ 8192)
first_end x n h =
    let w : n ≤ length (take 8192 x) = (end-within (take 8192 x) n h).1 in
    let most : n ≤ 8192 = omega (arith, w, length-take 8192 x) in
    (record { ends = ends_in x 8192 n (ends (take 8192 x) n h); first = not_before x n h most }, most)

no_end : (x : List ℕ) → head_end (take 8192 x) ≡ None → HasNoEnd x
no_end x h n e = go (nat_lt 8192 n) refl where
  go : (t : Bool) → nat_lt 8192 n ≡ t → 8192 < n
  go true f = grind (arith, nat_tests, f)
  go false f =
      let near : n ≤ 8192 = grind (arith, nat_tests, f) in
      let found : Finds (take 8192 x) n = finds (take 8192 x) n (ends_within x 8192 n near e) in
      let clash : Some found.end ≡ None = sym found.is ∙ h in cc

-- ---- the law

-- what is found is as it is said
pub said : (q : List ℕ) → IsFound q (cut_of q)
said q = go (cut_of q) (sym (cut_is q)) where
  rest : List ℕ
  rest = drop (skipped q) q

  moved : (skip : ℕ) → skipped q ≡ skip → (P : ℕ → Type 0) → P (skipped q) → P skip
  moved skip e P h = subst P e h

  go : (f : Found) → found_in (skipped q) rest ≡ f → IsFound q f
  go (Block skip len) e =
      let f : (skipped q ≡ skip) × (head_end (take 8192 rest) ≡ Some len) = found-block (skipped q) (length rest) (head_end (take 8192 rest)) skip len e in
      let end : IsFirstEnd rest len × (len ≤ 8192) = first_end rest len f.1 in
      moved skip f.0 (λ k. IsSkipped q k × IsFirstEnd (drop k q) len × (len ≤ 8192)) (skips q, end.0, end.1)
  go (More skip) e =
      let f : (skipped q ≡ skip) × (head_end (take 8192 rest) ≡ None) × (length rest < 8192) = found-more (skipped q) (length rest) (head_end (take 8192 rest)) skip e in
      moved skip f.0 (λ k. IsSkipped q k × HasNoEnd (drop k q) × (length (drop k q) < 8192)) (skips q, no_end rest f.1, f.2)
  go (TooLong skip) e =
      let f : (skipped q ≡ skip) × (head_end (take 8192 rest) ≡ None) × (8192 ≤ length rest) = found-long (skipped q) (length rest) (head_end (take 8192 rest)) skip e in
      moved skip f.0 (λ k. IsSkipped q k × HasNoEnd (drop k q) × (8192 ≤ length (drop k q))) (skips q, no_end rest f.1, f.2)

-- a block and no end do not go together
ended : (q : List ℕ) (a b n : ℕ) → IsSkipped q a → IsSkipped q b → IsFirstEnd (drop a q) n → n ≤ 8192 → HasNoEnd (drop b q) → ⊥
ended q a b n s t e most none =
    let there : EndsAt (drop b q) n = subst (λ i. EndsAt (drop i q) n) (same_skip q a b s t) e.ends in
    let far : 8192 < n = none n there in omega (arith, far, most)

-- two answers that are as it is said are one
both : (q : List ℕ) (f g : Found) → IsFound q f → IsFound q g → f ≡ g
both q (Block a m) (Block b n) h k =
    let s : a ≡ b = same_skip q a b h.0 k.0 in
    let there : IsFirstEnd (drop a q) n = subst (λ i. IsFirstEnd (drop i q) n) (sym s) k.1 in
    let l : m ≡ n = omega (arith, h.1.first n there.ends, there.first m h.1.ends) in
    ap (λ i. Block i m) s ∙ ap (Block b) l
both q (Block a m) (More b) h k = absurd (ended q a b m h.0 k.0 h.1 h.2 k.1)
both q (Block a m) (TooLong b) h k = absurd (ended q a b m h.0 k.0 h.1 h.2 k.1)
both q (More a) (Block b n) h k = absurd (ended q b a n k.0 h.0 k.1 k.2 h.1)
both q (More a) (More b) h k = ap More (same_skip q a b h.0 k.0)
both q (More a) (TooLong b) h k = absurd (let s : a ≡ b = same_skip q a b h.0 k.0 in let few : length (drop b q) < 8192 = subst (λ i. length (drop i q) < 8192) s h.2 in omega (arith, few, k.2))
both q (TooLong a) (Block b n) h k = absurd (ended q b a n k.0 h.0 k.1 k.2 h.1)
both q (TooLong a) (More b) h k = absurd (let s : b ≡ a = same_skip q b a k.0 h.0 in let few : length (drop a q) < 8192 = subst (λ i. length (drop i q) < 8192) s k.2 in omega (arith, few, h.2))
both q (TooLong a) (TooLong b) h k = ap TooLong (same_skip q a b h.0 k.0)

-- and so nothing else is
pub nothing_else : (q : List ℕ) (f : Found) → IsFound q f → f ≡ cut_of q
nothing_else q f h = both q f (cut_of q) h (said q)
