-- What a batch uses, and what it leaves.
use Rattle.std.proofs.Common.{append_assoc, ◌≡◌, ℕ, zero, suc, ◌+◌, ◌≤◌, ◌<◌, ◌||◌, Bool, true, false, List, [], ◌∷◌, ◌++◌, map, length, take, drop, None, cond, refl, sym, ap, ◌∙◌, subst, arith, nat_lt, nat_eq}
use Rattle.std.specs.List.{starts_with}
use Rattle.std.proofs.Math.ListN.{drop_of_length-le}
use Rattle.std.proofs.Math.Seq.{take-add}
use Rattle.std.proofs.lemmas.Bool.{or_parts}
use Rattle.std.proofs.lemmas.Bool.Decides.{nat_tests}
use Rattle.std.proofs.lemmas.List.{take-append-drop, length-take-le, drop-drop}
use Rattle.lard_block.specs.declared.block.Found.{Found}
use Rattle.lard_block.specs.declared.block.Found.TheVariants.{Block, More, TooLong}
use Rattle.lard_block.specs.Blocks.{skipped, head_end, head_found, found_in, cut_of, Piece, Head, Long, piece_moved, blocks, Cuts}
use Rattle.lard_block.proofs.Cutting.{cut_is, found-more, more-skips}
use Rattle.lard_block.proofs.Division.{block-first, long-last, cuts-nothing, cuts-block, cuts-join}
use Rattle.lard_request.specs.Verdict.{closes, verdict}
use Rattle.lard_answers.specs.Answers.{FilesAt, answer, answers, verdicts_on, verdicts, closes_any}
use Rattle.lard_answers.proofs.Growing.{blocks-nothing}
use Rattle.lard_answers.proofs.Firsts.{verdicts-block}
use Rattle.lard_answers.proofs.Following.{verdicts_on-moved, answers-follow}
use Rattle.lard_reader.specs.Batches.{batch_of, bytes_used, batch_pieces, has_long}
use Rattle.lard_reader.proofs.Going.{used-zero, used-suc, used-closed, used-open, batch-closed, batch-open, batch-more, batch-long}

-- ---- pieces that stand further on

take-moved : (by n : ℕ) (ps : List Piece) → take n (map (piece_moved by) ps) ≡ map (piece_moved by) (take n ps)
take-moved by zero ps = refl
take-moved by (suc n) [] = refl
take-moved by (suc n) (p ∷ ps) = ap (λ w. piece_moved by p ∷ w) (take-moved by n ps)

has_long-moved : (by : ℕ) (ps : List Piece) → has_long (map (piece_moved by) ps) ≡ has_long ps
has_long-moved by [] = refl
has_long-moved by (Head block after ∷ ps) = has_long-moved by ps
has_long-moved by (Long ∷ ps) = refl

-- pieces of the bytes behind a place stand behind the bytes before it; of no bytes there are none
moved-behind : (q : List ℕ) (k : ℕ) (ps : List Piece) → (drop k q ≡ [] → ps ≡ []) → map (piece_moved (length (take k q))) ps ≡ map (piece_moved k) ps
moved-behind q k ps h = go (nat_lt (length q) k) refl where
  go : (b : Bool) → nat_lt (length q) k ≡ b → map (piece_moved (length (take k q))) ps ≡ map (piece_moved k) ps
  go true e =
      let l : length q < k = grind (arith, nat_tests, e) in
      let none : ps ≡ [] = h (drop_of_length-le q (omega (arith, l))) in
      ap (map (piece_moved (length (take k q)))) none ∙ ap (map (piece_moved k)) (sym none)
  go false e =
      let l : k ≤ length q = grind (arith, nat_tests, e) in
      ap (λ m. map (piece_moved m) ps) (length-take-le k q l)

-- ---- the verdicts of a batch are those on its pieces

pieces-closed : (n : ℕ) (q : List ℕ) (s l : ℕ) → cut_of q ≡ Block s l → closes (verdict (take l (drop s q))) ≡ true → batch_pieces (suc n) q ≡ Head (take l (drop s q)) (s + l) ∷ []
pieces-closed n q s l e c = ap (λ vs. take (length vs) (blocks q)) (batch-closed n q s l e c) ∙ ap (take 1) (block-first q s l e)

pieces-open : (n : ℕ) (q : List ℕ) (s l : ℕ) → cut_of q ≡ Block s l → closes (verdict (take l (drop s q))) ≡ false
    → batch_pieces (suc n) q ≡ Head (take l (drop s q)) (s + l) ∷ map (piece_moved (s + l)) (batch_pieces n (drop (s + l) q))
pieces-open n q s l e c = ap (λ vs. take (length vs) (blocks q)) (batch-open n q s l e c)
    ∙ ap (take (suc (length (batch_of n (drop (s + l) q))))) (block-first q s l e)
    ∙ ap (λ w. Head (take l (drop s q)) (s + l) ∷ w) (take-moved (s + l) (length (batch_of n (drop (s + l) q))) (blocks (drop (s + l) q)))

pieces-more : (n : ℕ) (q : List ℕ) (s : ℕ) → cut_of q ≡ More s → batch_pieces n q ≡ []
pieces-more n q s e = ap (λ vs. take (length vs) (blocks q)) (batch-more n q s e)

pieces-long : (n : ℕ) (q : List ℕ) (s : ℕ) → cut_of q ≡ TooLong s → batch_pieces (suc n) q ≡ Long ∷ []
pieces-long n q s e = ap (λ vs. take (length vs) (blocks q)) (batch-long n q s e) ∙ ap (take 1) (long-last q s e)

pub batch-verdicts : (n : ℕ) (q : List ℕ) → verdicts_on (batch_pieces n q) ≡ batch_of n q
batch-verdicts zero q = refl
batch-verdicts (suc n) q = go (λ r. batch-verdicts n r) (cut_of q) refl where
  block : (s l : ℕ) → ((r : List ℕ) → verdicts_on (batch_pieces n r) ≡ batch_of n r) → cut_of q ≡ Block s l → (b : Bool) → closes (verdict (take l (drop s q))) ≡ b
      → verdicts_on (batch_pieces (suc n) q) ≡ batch_of (suc n) q
  block s l ih e true c = ap verdicts_on (pieces-closed n q s l e c) ∙ sym (batch-closed n q s l e c)
  block s l ih e false c = ap verdicts_on (pieces-open n q s l e c)
      ∙ ap (λ w. verdict (take l (drop s q)) ∷ w) (verdicts_on-moved (s + l) (batch_pieces n (drop (s + l) q)) ∙ ih (drop (s + l) q))
      ∙ sym (batch-open n q s l e c)

  go : ((r : List ℕ) → verdicts_on (batch_pieces n r) ≡ batch_of n r) → (f : Found) → cut_of q ≡ f → verdicts_on (batch_pieces (suc n) q) ≡ batch_of (suc n) q
  go ih (Block s l) e = block s l ih e (closes (verdict (take l (drop s q)))) refl
  go ih (More s) e = ap verdicts_on (pieces-more (suc n) q s e) ∙ sym (batch-more (suc n) q s e)
  go ih (TooLong s) e = ap verdicts_on (pieces-long n q s e) ∙ sym (batch-long n q s e)

pieces-nothing : (n : ℕ) (r : List ℕ) → r ≡ [] → batch_pieces n r ≡ []
pieces-nothing n r e = ap (λ w. take (length (batch_of n w)) (blocks w)) e ∙ ap (λ ps. take (length (batch_of n [])) ps) blocks-nothing ∙ take-none (length (batch_of n [])) where
  take-none : (k : ℕ) → ◌≡◌ {A = List Piece} (take k []) []
  take-none zero = refl
  take-none (suc k) = refl

-- ---- what is used is cut whatever follows; that the skipped pairs are is a law of blocks, which the caller brings

pub batch-cut : ((q : List ℕ) → Cuts (take (skipped q) q) []) → (n : ℕ) (q : List ℕ) → has_long (batch_pieces n q) ≡ false → Cuts (take (bytes_used n q) q) (batch_pieces n q)
batch-cut pairs zero q h = subst (λ k. Cuts (take k q) []) (sym (used-zero q)) cuts-nothing
batch-cut pairs (suc n) q h = go (λ r. batch-cut pairs n r) (cut_of q) refl where
  block : (s l : ℕ) → ((r : List ℕ) → has_long (batch_pieces n r) ≡ false → Cuts (take (bytes_used n r) r) (batch_pieces n r)) → cut_of q ≡ Block s l
      → (b : Bool) → closes (verdict (take l (drop s q))) ≡ b → Cuts (take (bytes_used (suc n) q) q) (batch_pieces (suc n) q)
  block s l ih e true c =
      subst (λ k. Cuts (take k q) (batch_pieces (suc n) q)) (sym (used-closed n q s l e c))
      (subst (λ ps. Cuts (take (s + l) q) ps) (sym (pieces-closed n q s l e c)) (cuts-block q s l e))
  block s l ih e false c =
      let r : List ℕ = drop (s + l) q in
      let k : map (piece_moved (length (take (s + l) q))) (batch_pieces n r) ≡ map (piece_moved (s + l)) (batch_pieces n r) = moved-behind q (s + l) (batch_pieces n r) (pieces-nothing n r) in
      let p : batch_pieces (suc n) q ≡ Head (take l (drop s q)) (s + l) ∷ map (piece_moved (s + l)) (batch_pieces n r) = pieces-open n q s l e c in
      let f : has_long (batch_pieces n r) ≡ false = sym (has_long-moved (s + l) (batch_pieces n r)) ∙ sym (ap has_long p) ∙ h in
      subst (λ w. Cuts w (batch_pieces (suc n) q)) (sym (ap (λ m. take m q) (used-open n q s l e c) ∙ take-add (s + l) (bytes_used n r) q))
      (subst (λ ps. Cuts (take (s + l) q ++ take (bytes_used n r) r) ps) (sym p)
      (subst (λ ms. Cuts (take (s + l) q ++ take (bytes_used n r) r) (Head (take l (drop s q)) (s + l) ∷ ms)) k
      (cuts-join (take (s + l) q) (take (bytes_used n r) r) (Head (take l (drop s q)) (s + l) ∷ []) (batch_pieces n r) (cuts-block q s l e) (ih r f))))

  go : ((r : List ℕ) → has_long (batch_pieces n r) ≡ false → Cuts (take (bytes_used n r) r) (batch_pieces n r)) → (f : Found) → cut_of q ≡ f
      → Cuts (take (bytes_used (suc n) q) q) (batch_pieces (suc n) q)
  go ih (Block s l) e = block s l ih e (closes (verdict (take l (drop s q)))) refl
  go ih (More s) e =
      subst (λ k. Cuts (take k q) (batch_pieces (suc n) q)) (more-skips q s e ∙ sym (used-suc n q (More s) e))
      (subst (λ ps. Cuts (take (skipped q) q) ps) (sym (pieces-more (suc n) q s e)) (pairs q))
  go ih (TooLong s) e = let f : true ≡ false = sym (ap has_long (pieces-long n q s e)) ∙ h in absurd (let g : ⊥ = cc in g)

-- where none closes, no head is too long
no_long : (ps : List Piece) → closes_any (verdicts_on ps) ≡ false → has_long ps ≡ false
no_long [] h = refl
no_long (Head block after ∷ ps) h = no_long ps (or_parts (closes (verdict block)) (closes_any (verdicts_on ps)) h).1
no_long (Long ∷ ps) h = h

pub batch-open_cut : ((q : List ℕ) → Cuts (take (skipped q) q) []) → (n : ℕ) (q : List ℕ) → closes_any (batch_of n q) ≡ false → Cuts (take (bytes_used n q) q) (batch_pieces n q)
batch-open_cut pairs n q h = batch-cut pairs n q (no_long (batch_pieces n q) (ap closes_any (batch-verdicts n q) ∙ h))

-- and the answers to what is left follow those of the batch
pub batch-answers : ((q : List ℕ) → Cuts (take (skipped q) q) []) → (files : FilesAt) (n : ℕ) (q z : List ℕ) → closes_any (batch_of n q) ≡ false
    → answers files (q ++ z) ≡ map (answer files) (batch_of n q) ++ answers files (drop (bytes_used n q) q ++ z)
batch-answers pairs files n q z h =
    let v : verdicts_on (batch_pieces n q) ≡ batch_of n q = batch-verdicts n q in
    let k : ℕ = bytes_used n q in
    let split : q ++ z ≡ take k q ++ (drop k q ++ z) = ap (λ w. w ++ z) (sym (take-append-drop k q)) ∙ append_assoc (take k q) (drop k q) z in
    ap (answers files) split
    ∙ answers-follow files (take k q) (drop k q ++ z) (batch_pieces n q) (batch-open_cut pairs n q h) (ap closes_any v ∙ h)
    ∙ ap (λ vs. map (answer files) vs ++ answers files (drop k q ++ z)) v

-- ---- what is left

pair-hit : (a b : ℕ) (rest : List ℕ) → starts_with nat_eq (a ∷ b ∷ rest) (13 ∷ 10 ∷ []) ≡ true → skipped (a ∷ b ∷ rest) ≡ suc (suc (skipped rest))
unfolding skipped
pair-hit a b rest e = let k : skipped rest + 2 ≡ suc (suc (skipped rest)) = omega arith in ap (λ t. cond t (skipped rest + 2) 0) e ∙ k

pair-miss : (a b : ℕ) (rest : List ℕ) → starts_with nat_eq (a ∷ b ∷ rest) (13 ∷ 10 ∷ []) ≡ false → skipped (a ∷ b ∷ rest) ≡ 0
unfolding skipped
pair-miss a b rest e = ap (λ t. cond t (skipped rest + 2) 0) e

no-pair : (a : ℕ) → skipped (a ∷ []) ≡ 0
unfolding skipped
no-pair a = refl

no-pairs : (k : ℕ) → skipped (drop {A = ℕ} k []) ≡ 0
unfolding skipped
no-pairs zero = refl
no-pairs (suc k) = refl

-- behind the skipped pairs there is none
skipped-once : (q : List ℕ) → skipped (drop (skipped q) q) ≡ 0
skipped-once [] = no-pairs (skipped [])
skipped-once (a ∷ []) = subst (λ k. skipped (drop k (a ∷ [])) ≡ 0) (sym (no-pair a)) (no-pair a)
skipped-once (a ∷ b ∷ rest) = go (skipped-once rest) (starts_with nat_eq (a ∷ b ∷ rest) (13 ∷ 10 ∷ [])) refl where
  go : skipped (drop (skipped rest) rest) ≡ 0 → (t : Bool) → starts_with nat_eq (a ∷ b ∷ rest) (13 ∷ 10 ∷ []) ≡ t → skipped (drop (skipped (a ∷ b ∷ rest)) (a ∷ b ∷ rest)) ≡ 0
  go ih true e = ap (λ k. skipped (drop k (a ∷ b ∷ rest))) (pair-hit a b rest e) ∙ ih
  go ih false e = ap (λ k. skipped (drop k (a ∷ b ∷ rest))) (pair-miss a b rest e) ∙ pair-miss a b rest e

-- what is awaited is awaited still, with no pair before it
more-once : (q : List ℕ) (s : ℕ) → cut_of q ≡ More s → cut_of (drop s q) ≡ More 0
more-once q s e =
    let a : (skipped q ≡ s) × (head_end (take 8192 (drop (skipped q) q)) ≡ None) × (length (drop (skipped q) q) < 8192) =
    found-more (skipped q) (length (drop (skipped q) q)) (head_end (take 8192 (drop (skipped q) q))) s (sym (cut_is q) ∙ e) in
    let r : List ℕ = drop (skipped q) q in
    let t : nat_lt (length r) 8192 ≡ true = grind (arith, nat_tests, a.2) in
    ap (λ k. cut_of (drop k q)) (sym a.0)
    ∙ cut_is r
    ∙ ap (λ k. found_in k (drop k r)) (skipped-once q)
    ∙ ap (head_found 0 (length r)) a.1
    ∙ ap (λ b. cond {A = Found} b (More 0) (TooLong 0)) t

-- where there were fewer than n and none closes, the bytes behind those used begin with no pair, and with no whole head
pub batch-rest : (n : ℕ) (q : List ℕ) → length (verdicts q) < n → closes_any (batch_of n q) ≡ false → cut_of (drop (bytes_used n q) q) ≡ More 0
batch-rest zero q h c = absurd (omega (arith, h))
batch-rest (suc n) q h c = go (λ r. batch-rest n r) (cut_of q) refl where
  block : (s l : ℕ) → ((r : List ℕ) → length (verdicts r) < n → closes_any (batch_of n r) ≡ false → cut_of (drop (bytes_used n r) r) ≡ More 0) → cut_of q ≡ Block s l
      → (b : Bool) → closes (verdict (take l (drop s q))) ≡ b → cut_of (drop (bytes_used (suc n) q) q) ≡ More 0
  block s l ih e true k =
      let f : (true || false) ≡ false = sym (ap (λ b. b || false) k) ∙ sym (ap closes_any (batch-closed n q s l e k)) ∙ c in absurd (let g : ⊥ = cc in g)
  block s l ih e false k =
      let r : List ℕ = drop (s + l) q in
      let m : length (verdicts q) ≡ suc (length (verdicts r)) =
      ap length (verdicts-block q s l e ∙ ap (λ b. verdict (take l (drop s q)) ∷ cond b [] (verdicts r)) k) in
      let f : (closes (verdict (take l (drop s q))) ≡ false) × (closes_any (batch_of n r) ≡ false) =
      or_parts (closes (verdict (take l (drop s q)))) (closes_any (batch_of n r)) (sym (ap closes_any (batch-open n q s l e k)) ∙ c) in
      ap (λ u. cut_of (drop u q)) (used-open n q s l e k) ∙ ap cut_of (sym (drop-drop (bytes_used n r) (s + l) q)) ∙ ih r (omega (arith, h, m)) f.1

  go : ((r : List ℕ) → length (verdicts r) < n → closes_any (batch_of n r) ≡ false → cut_of (drop (bytes_used n r) r) ≡ More 0) → (f : Found) → cut_of q ≡ f
      → cut_of (drop (bytes_used (suc n) q) q) ≡ More 0
  go ih (Block s l) e = block s l ih e (closes (verdict (take l (drop s q)))) refl
  go ih (More s) e = ap (λ u. cut_of (drop u q)) (used-suc n q (More s) e) ∙ more-once q s e
  go ih (TooLong s) e = let f : true ≡ false = sym (ap closes_any (batch-long n q s e)) ∙ c in absurd (let g : ⊥ = cc in g)
