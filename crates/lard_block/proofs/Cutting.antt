-- What is found at the front of some bytes, and what follows them.
use Rattle.std.proofs.Common.{◌≡◌, ℕ, ◌+◌, ◌-◌, ◌≤◌, min, Bool, true, false, List, ◌++◌, length, take, drop, Option, Some, None, cond, refl, sym, ap, ◌∙◌, subst, append_assoc, arith, nat_lt, take_all, ◌<◌}
use Rattle.std.proofs.Math.Seq.{take-add, take-append-add, take-append_seam, drop-append_seam}
use Rattle.std.proofs.lemmas.List.{take-append-le, take-append-drop, length-take-le, length-take, length-drop, length-append}
use Rattle.std.proofs.lemmas.Bool.Decides.{nat_tests}
use Rattle.lard_block.specs.declared.block.Found.{Found}
use Rattle.lard_block.specs.declared.block.Found.TheVariants.{Block, More, TooLong}
use Rattle.lard_block.specs.Blocks.{skipped, head_end, head_found, found_in, cut_of, IsWithin}
use Rattle.lard_block.proofs.Ends.{end-within, end-alone}
use Rattle.lard_block.proofs.Pairs.{skipped-within, skipped-alone, behind}

pub cut_is : (q : List ℕ) → cut_of q ≡ found_in (skipped q) (drop (skipped q) q)
unfolding cut_of
cut_is q = refl

-- ---- what an answer says

pub found-block : (s l : ℕ) (o : Option ℕ) (skip len : ℕ) → head_found s l o ≡ Block skip len → (s ≡ skip) × (o ≡ Some len)
found-block s l (Some n) skip len h = let e : s ≡ skip = cc in let f : n ≡ len = cc in (e, ap Some f)
found-block s l None skip len h = go (nat_lt l 8192) h where
  go : (b : Bool) → cond {A = Found} b (More s) (TooLong s) ≡ Block skip len → (s ≡ skip) × (None ≡ Some len)
  go true e = cc
  go false e = cc

pub found-long : (s l : ℕ) (o : Option ℕ) (skip : ℕ) → head_found s l o ≡ TooLong skip → (s ≡ skip) × (o ≡ None) × (8192 ≤ l)
found-long s l (Some n) skip h = cc
found-long s l None skip h = go (nat_lt l 8192) refl h where
  go : (b : Bool) → nat_lt l 8192 ≡ b → cond {A = Found} b (More s) (TooLong s) ≡ TooLong skip → (s ≡ skip) × ◌≡◌ {A = Option ℕ} None None × (8192 ≤ l)
  go true f e = cc
  go false f e = let k : s ≡ skip = cc in (k, refl, grind (arith, nat_tests, f))

pub found-more : (s l : ℕ) (o : Option ℕ) (skip : ℕ) → head_found s l o ≡ More skip → (s ≡ skip) × (o ≡ None) × (l < 8192)
found-more s l (Some n) skip h = cc
found-more s l None skip h = go (nat_lt l 8192) refl h where
  go : (b : Bool) → nat_lt l 8192 ≡ b → cond {A = Found} b (More s) (TooLong s) ≡ More skip → (s ≡ skip) × ◌≡◌ {A = Option ℕ} None None × (l < 8192)
  go true f e = let k : s ≡ skip = cc in (k, refl, grind (arith, nat_tests, f))
  go false f e = cc

-- where more is awaited, the pairs are skipped
pub more-skips : (q : List ℕ) (skip : ℕ) → cut_of q ≡ More skip → skipped q ≡ skip
more-skips q skip h = (found-more (skipped q) (length (drop (skipped q) q)) (head_end (take 8192 (drop (skipped q) q))) skip (sym (cut_is q) ∙ h)).0

-- a block lies behind the pairs, within the bytes, and has 4 to 8,192 bytes
pub record IsCut (q : List ℕ) (skip len : ℕ) : Type 0 where
  pub pairs : skipped q ≡ skip
  pub ends : head_end (take 8192 (drop skip q)) ≡ Some len
  pub some : 4 ≤ len
  pub short : len ≤ 8192
  pub within : skip + len ≤ length q

pub is_cut : (q : List ℕ) (skip len : ℕ) → cut_of q ≡ Block skip len → IsCut q skip len
is_cut q skip len h =
    let f : (skipped q ≡ skip) × (head_end (take 8192 (drop (skipped q) q)) ≡ Some len) =
    found-block (skipped q) (length (drop (skipped q) q)) (head_end (take 8192 (drop (skipped q) q))) skip len (sym (cut_is q) ∙ h) in
    let e : head_end (take 8192 (drop skip q)) ≡ Some len = ap (λ k. head_end (take 8192 (drop k q))) (sym f.0) ∙ f.1 in
    let w : (4 ≤ len) × (len ≤ length (take 8192 (drop skip q))) = end-within (take 8192 (drop skip q)) len e in
    let l : length (take 8192 (drop skip q)) ≡ min 8192 (length (drop skip q)) = length-take 8192 (drop skip q) in
    let d : length (drop skip q) ≡ length q - skip = length-drop skip q in
    record { pairs = f.0; ends = e; some = w.0; short = omega (arith, w, l); within = omega (arith, w, l, d) }

-- the pairs, and then other bytes that begin alike
pub cut-put : (q w : List ℕ) (skip : ℕ) → skipped q ≡ skip → 2 ≤ length w → take 2 w ≡ take 2 (drop skip q) → cut_of (take skip q ++ w) ≡ found_in skip w
cut-put q w skip s h e =
    let same : skipped (take skip q ++ w) ≡ skip =
    subst (λ k. take 2 w ≡ take 2 (drop k q) → skipped (take k q ++ w) ≡ k) s (skipped-alone q w h) e in
    let l : length (take skip q) ≡ skip = length-take-le skip q (subst (λ k. k ≤ length q) s (skipped-within q)) in
    let rest : drop skip (take skip q ++ w) ≡ w = subst (λ k. drop k (take skip q ++ w) ≡ w) l (drop-append_seam (take skip q) w) in
    cut_is (take skip q ++ w) ∙ ap (λ k. found_in k (drop k (take skip q ++ w))) same ∙ ap (found_in skip) rest

-- the first bytes of a block and what follows it
front-of : (rest : List ℕ) (len : ℕ) (z : List ℕ) → len ≤ 8192 → len ≤ length rest → take 8192 (take len rest ++ z) ≡ take len (take 8192 rest) ++ take (8192 - len) z
front-of rest len z h k =
    let l : length (take len rest) ≡ len = length-take-le len rest k in
    let n : length (take len rest) + (8192 - len) ≡ 8192 = omega (arith, l, h) in
    let m : len + (8192 - len) ≡ 8192 = omega (arith, h) in
    let both : take 8192 rest ≡ take len rest ++ take (8192 - len) (drop len rest) = ap (λ i. take i rest) (sym m) ∙ take-add len (8192 - len) rest in
    let again : take len (take 8192 rest) ≡ take len rest =
    ap (take len) both ∙ subst (λ i. take i (take len rest ++ take (8192 - len) (drop len rest)) ≡ take len rest) l (take-append_seam (take len rest) (take (8192 - len) (drop len rest))) in
    ap (λ i. take i (take len rest ++ z)) (sym n) ∙ take-append-add (take len rest) z (8192 - len) ∙ ap (λ w. w ++ take (8192 - len) z) (sym again)

-- the block by itself, whatever follows
pub block-alone : (q : List ℕ) (skip len : ℕ) → cut_of q ≡ Block skip len → (z : List ℕ) → cut_of (take (skip + len) q ++ z) ≡ Block skip len
block-alone q skip len h z =
    let c : IsCut q skip len = is_cut q skip len h in
    let d : length (drop skip q) ≡ length q - skip = length-drop skip q in
    let l : length (take len (drop skip q)) ≡ len = length-take-le len (drop skip q) (omega (arith, c.within, d)) in
    let two : take 2 (take len (drop skip q) ++ z) ≡ take 2 (drop skip q) =
    take-append-le 2 (take len (drop skip q)) z (omega (arith, l, c.some)) ∙ sym (take-append-le 2 (take len (drop skip q)) (drop len (drop skip q)) (omega (arith, l, c.some)))
    ∙ ap (take 2) (take-append-drop len (drop skip q)) in
    let long : 2 ≤ length (take len (drop skip q) ++ z) = omega (arith, length-append (take len (drop skip q)) z, l, c.some) in
    let split : take (skip + len) q ++ z ≡ take skip q ++ (take len (drop skip q) ++ z) = ap (λ w. w ++ z) (take-add skip len q) ∙ append_assoc (take skip q) (take len (drop skip q)) z in
    let front : take 8192 (take len (drop skip q) ++ z) ≡ take len (take 8192 (drop skip q)) ++ take (8192 - len) z =
    front-of (drop skip q) len z c.short (omega (arith, c.within, d)) in
    let e : head_end (take 8192 (take len (drop skip q) ++ z)) ≡ Some len = ap head_end front ∙ end-alone (take 8192 (drop skip q)) len c.ends (take (8192 - len) z) in
    ap cut_of split ∙ cut-put q (take len (drop skip q) ++ z) skip c.pairs long two ∙ ap (head_found skip (length (take len (drop skip q) ++ z))) e

-- what is found stays, whatever follows
pub block-stays : (q : List ℕ) (skip len : ℕ) → cut_of q ≡ Block skip len → (z : List ℕ) → cut_of (q ++ z) ≡ Block skip len
block-stays q skip len h z =
    ap cut_of (ap (λ w. w ++ z) (sym (take-append-drop (skip + len) q)) ∙ append_assoc (take (skip + len) q) (drop (skip + len) q) z)
    ∙ block-alone q skip len h (drop (skip + len) q ++ z)

pub long-stays : (q : List ℕ) (skip : ℕ) → cut_of q ≡ TooLong skip → (z : List ℕ) → cut_of (q ++ z) ≡ TooLong skip
long-stays q skip h z =
    let f : (skipped q ≡ skip) × (head_end (take 8192 (drop (skipped q) q)) ≡ None) × (8192 ≤ length (drop (skipped q) q)) =
    found-long (skipped q) (length (drop (skipped q) q)) (head_end (take 8192 (drop (skipped q) q))) skip (sym (cut_is q) ∙ h) in
    let e : head_end (take 8192 (drop skip q)) ≡ None = ap (λ k. head_end (take 8192 (drop k q))) (sym f.0) ∙ f.1 in
    let l : 8192 ≤ length (drop skip q) = subst (λ k. 8192 ≤ length (drop k q)) f.0 f.2 in
    let n : length (drop skip q ++ z) ≡ length (drop skip q) + length z = length-append (drop skip q) z in
    let split : q ++ z ≡ take skip q ++ (drop skip q ++ z) = ap (λ w. w ++ z) (sym (take-append-drop skip q)) ∙ append_assoc (take skip q) (drop skip q) z in
    let test : nat_lt (length (drop skip q ++ z)) 8192 ≡ false = grind (arith, nat_tests, l, n) in
    ap cut_of split ∙ cut-put q (drop skip q ++ z) skip f.0 (omega (arith, l, n)) (take-append-le 2 (drop skip q) z (omega (arith, l)))
    ∙ ap (head_found skip (length (drop skip q ++ z))) (ap head_end (take-append-le 8192 (drop skip q) z l) ∙ e)
    ∙ ap (λ b. cond {A = Found} b (More skip) (TooLong skip)) test

-- bytes past the 8,192 behind the pairs change nothing
pub beyond : (q z : List ℕ) → skipped q + 8192 ≤ length q → cut_of (q ++ z) ≡ cut_of q
beyond q z h = go (cut_of q) refl where
  go : (f : Found) → cut_of q ≡ f → cut_of (q ++ z) ≡ cut_of q
  go (Block skip len) e = block-stays q skip len e z ∙ sym e
  go (TooLong skip) e = long-stays q skip e z ∙ sym e
  go (More skip) e =
      let f : (skipped q ≡ skip) × (head_end (take 8192 (drop (skipped q) q)) ≡ None) × (length (drop (skipped q) q) < 8192) =
      found-more (skipped q) (length (drop (skipped q) q)) (head_end (take 8192 (drop (skipped q) q))) skip (sym (cut_is q) ∙ e) in
      absurd (omega (arith, f.2, h, length-drop (skipped q) q))

-- the places of an answer
pub cut-within : (q : List ℕ) → IsWithin (cut_of q) (length q)
cut-within q = go (cut_of q) refl where
  go : (f : Found) → cut_of q ≡ f → IsWithin f (length q)
  go (Block skip len) e = let c : IsCut q skip len = is_cut q skip len e in (c.some, c.short, c.within)
  go (More skip) e =
      let f : (skipped q ≡ skip) × (head_end (take 8192 (drop (skipped q) q)) ≡ None) × (length (drop (skipped q) q) < 8192) =
      found-more (skipped q) (length (drop (skipped q) q)) (head_end (take 8192 (drop (skipped q) q))) skip (sym (cut_is q) ∙ e) in
      (omega (arith, f.0, skipped-within q), omega (arith, f.0, f.2, skipped-within q, length-drop (skipped q) q))
  go (TooLong skip) e =
      let f : (skipped q ≡ skip) × ◌≡◌ {A = Option ℕ} (head_end (take 8192 (drop (skipped q) q))) None × (8192 ≤ length (drop (skipped q) q)) =
      found-long (skipped q) (length (drop (skipped q) q)) (head_end (take 8192 (drop (skipped q) q))) skip (sym (cut_is q) ∙ e) in
      omega (arith, f.0, f.2, length-drop (skipped q) q)

-- ---- the code

-- a bound that is no more than the length
take-min : (n : ℕ) (xs : List ℕ) → take (min (length xs) n) xs ≡ take n xs
take-min n xs = go (nat_lt (length xs) n) refl where
  go : (b : Bool) → nat_lt (length xs) n ≡ b → take (min (length xs) n) xs ≡ take n xs
  go true e = let h : length xs < n = grind (arith, nat_tests, e) in take_all (min (length xs) n) xs (omega (arith, h)) ∙ sym (take_all n xs (omega (arith, h)))
  go false e = let h : n ≤ length xs = grind (arith, nat_tests, e) in let k : min (length xs) n ≡ n = omega (arith, h) in ap (λ i. take i xs) k

-- the answer of the code, once it knows the end
pub cut-code : (q : List ℕ) (s m : ℕ) (o : Option ℕ) → s ≡ skipped q → m ≡ min (length (take (length q - s) (drop s q))) 8192 → o ≡ head_end (take m (take (length q - s) (drop s q)))
    → head_found s (length (take (length q - s) (drop s q))) o ≡ cut_of q
cut-code q s m o a b c =
    let e : o ≡ head_end (take 8192 (drop s q)) =
    c ∙ ap (λ i. head_end (take i (take (length q - s) (drop s q)))) b ∙ ap head_end (take-min 8192 (take (length q - s) (drop s q))) ∙ ap (λ w. head_end (take 8192 w)) (behind q s) in
    ap (λ w. head_found s (length w) o) (behind q s) ∙ ap (head_found s (length (drop s q))) e ∙ ap (λ k. found_in k (drop k q)) a ∙ sym (cut_is q)

pub more-awaited : (s l : ℕ) → l < 8192 → More s ≡ head_found s l None
more-awaited s l h = let e : nat_lt l 8192 ≡ true = grind (arith, nat_tests, h) in sym (ap (λ b. cond {A = Found} b (More s) (TooLong s)) e)

pub none-in-time : (s l : ℕ) → 8192 ≤ l → TooLong s ≡ head_found s l None
none-in-time s l h = let e : nat_lt l 8192 ≡ false = grind (arith, nat_tests, h) in sym (ap (λ b. cond {A = Found} b (More s) (TooLong s)) e)
