-- Bytes whose verdicts are cut off from whatever follows are blocks, and perhaps empty lines behind them.
use Rattle.std.proofs.Common.{◌≡◌, ◌+◌, ◌-◌, ◌≤◌, ◌<◌, ◌||◌, ◌&&◌, min, ℕ, zero, suc, Bool, true, false, cond, nat_eq, nat_lt, List, [], ◌∷◌, ◌++◌, drop, length, map, option_map, take, Option, Some, None, arith, refl, ap, ◌∙◌, sym, subst, append-nil, append_assoc, take_all, take_at}
use Rattle.std.proofs.Math.Seq.{drop-append_seam}
use Rattle.std.proofs.lemmas.Bool.Decides.{nat_tests}
use Rattle.std.proofs.lemmas.List.{drop-append-le, length-append, length-drop, length-map, length-take, length-take-le, take-append-drop}
use Rattle.std.specs.List.{starts_with}
use Rattle.lard_law_view.specs.Prelude.{Cuts, Found, Head, Long, Verdict, blocks, closes, closes_any, cut_of, head_end, piece_moved, pieces, skipped, verdict, verdicts_on}
use Rattle.lard_answers.proofs.Following.{verdicts_on-moved}
use Rattle.lard_block.specs.declared.block.Found.TheVariants.{Block, More, TooLong}
use Rattle.lard_block.specs.Blocks.{Piece}
use Rattle.lard_block.proofs.Cutting.{IsCut, cut_is, found-more, is_cut}
use Rattle.lard_block.proofs.Division.{block-first, cuts-block, cuts-join, cuts-nothing, long-last, none-yet}
use Rattle.lard_block.proofs.Skips.{cuts-pairs}
use Rattle.lard_law_connections.specs.Offers.{BeginsFrom, EndsBy, IsCutAt}
use Rattle.lard_history.proofs.Each.{Each}

-- ---- two empty lines behind some bytes

abbrev four : List ℕ
four = 13 ∷ 10 ∷ 13 ∷ 10 ∷ []

abbrev pair_here : List ℕ → Bool
pair_here xs = starts_with nat_eq xs (13 ∷ 10 ∷ [])

skip-one : (a : ℕ) → skipped (a ∷ []) ≡ 0
unfolding skipped
skip-one a = refl

skip-more : (a b : ℕ) (rest : List ℕ) → skipped (a ∷ b ∷ rest) ≡ cond (pair_here (a ∷ b ∷ rest)) (skipped rest + 2) 0
unfolding skipped
skip-more a b rest = refl

never : (b : Bool) → (b && false) ≡ false
never true = refl
never false = refl

-- no more is skipped, where not all was
skipped-stays : (x z : List ℕ) → skipped x < length x → skipped (x ++ 13 ∷ z) ≡ skipped x
skipped-stays [] z h = absurd (omega (arith, h))
skipped-stays (a ∷ []) z h = skip-more a 13 z ∙ ap (λ t. cond t (skipped z + 2) 0) (never (nat_eq 13 a)) ∙ sym (skip-one a)
skipped-stays (a ∷ b ∷ rest) z h = go (skipped-stays rest z) (pair_here (a ∷ b ∷ rest)) refl where
  go : (skipped rest < length rest → skipped (rest ++ 13 ∷ z) ≡ skipped rest) → (t : Bool) → pair_here (a ∷ b ∷ rest) ≡ t → skipped (a ∷ b ∷ rest ++ 13 ∷ z) ≡ skipped (a ∷ b ∷ rest)
  go ih true e =
      let now : skipped (a ∷ b ∷ rest) ≡ skipped rest + 2 = skip-more a b rest ∙ ap (λ t. cond t (skipped rest + 2) 0) e in
      let less : skipped rest < length rest = omega (arith, now, h) in
      skip-more a b (rest ++ 13 ∷ z) ∙ ap (λ t. cond t (skipped (rest ++ 13 ∷ z) + 2) 0) e ∙ ap (λ n. n + 2) (ih less) ∙ sym now
  go ih false e = skip-more a b (rest ++ 13 ∷ z) ∙ ap (λ t. cond t (skipped (rest ++ 13 ∷ z) + 2) 0) e ∙ sym (skip-more a b rest ∙ ap (λ t. cond t (skipped rest + 2) 0) e)

-- a head ends there at the latest
head-some : (t : List ℕ) → head_end (t ++ four) ≡ None → ⊥
unfolding head_end
head-some [] h = let no : ◌≡◌ {A = Option ℕ} (Some 4) None = h in absurd cc
head-some (a ∷ t) h = go (head-some t) (starts_with nat_eq (a ∷ t ++ four) four) h where
  later : (o : Option ℕ) → option_map (λ (n : ℕ). n + 1) o ≡ None → o ≡ None
  later None e = refl
  later (Some m) e = let no : Some (m + 1) ≡ None = e in absurd cc

  go : (head_end (t ++ four) ≡ None → ⊥) → (b : Bool) → cond b (Some 4) (option_map (λ (n : ℕ). n + 1) (head_end (t ++ four))) ≡ None → ⊥
  go ih true e = let no : ◌≡◌ {A = Option ℕ} (Some 4) None = e in absurd cc
  go ih false e = ih (later (head_end (t ++ four)) e)

four-more : cut_of four ≡ More 4
unfolding cut_of skipped head_end
four-more = refl

blocks-nothing : blocks [] ≡ []
unfolding blocks pieces
blocks-nothing = refl

-- ---- what is no block, and cut off, is empty lines

-- behind other bytes two empty lines end a block, or there are too many bytes
not-more : (x : List ℕ) → skipped x < length x → (skip : ℕ) → cut_of (x ++ four) ≡ More skip → ⊥
not-more x less skip e =
    let k : ℕ = skipped (x ++ four) in
    let f = found-more k (length (drop k (x ++ four))) (head_end (take 8192 (drop k (x ++ four)))) skip (sym (cut_is (x ++ four)) ∙ e) in
    let same : k ≡ skipped x = skipped-stays x (10 ∷ 13 ∷ 10 ∷ []) less in
    let short : length (drop k (x ++ four)) < 8192 = f.2 in
    let whole : take 8192 (drop k (x ++ four)) ≡ drop k (x ++ four) = take_all 8192 (drop k (x ++ four)) (omega (arith, short)) in
    let split : drop k (x ++ four) ≡ drop (skipped x) x ++ four = ap (λ (n : ℕ). drop n (x ++ four)) same ∙ drop-append-le (skipped x) x four (omega (arith, less)) in
    head-some (drop (skipped x) x) (ap head_end (sym (whole ∙ split)) ∙ f.1)

some-verdicts : (q : List ℕ) → verdicts_on (blocks q) ≡ [] → (skip : ℕ) × (cut_of q ≡ More skip)
some-verdicts q none = go (cut_of q) refl where
  go : (f : Found) → cut_of q ≡ f → (skip : ℕ) × (cut_of q ≡ More skip)
  go (More skip) e = (skip, e)
  go (Block skip len) e = let no = ap verdicts_on (sym (block-first q skip len e)) ∙ none in absurd cc
  go (TooLong skip) e = let no = ap verdicts_on (sym (long-last q skip e)) ∙ none in absurd cc

empty-lines : (x : List ℕ) (skip : ℕ) → cut_of x ≡ More skip → ((z : List ℕ) → verdicts_on (blocks (x ++ z)) ≡ verdicts_on (blocks z)) → Cuts x []
empty-lines x skip e h = go (nat_lt (skipped x) (length x)) refl where
  go : (b : Bool) → nat_lt (skipped x) (length x) ≡ b → Cuts x []
  go true t =
      let less : skipped x < length x = grind (arith, nat_tests, t) in
      let none : verdicts_on (blocks (x ++ four)) ≡ [] = h four ∙ ap verdicts_on (none-yet four 4 four-more) in
      let more = some-verdicts (x ++ four) none in
      absurd (not-more x less more.0 more.1)
  go false t = let all : length x ≤ skipped x = grind (arith, nat_tests, t) in subst (λ (y : List ℕ). Cuts y []) (take_all (skipped x) x all) (cuts-pairs x)

-- ---- blocks further on

moved-ends : (k n m : ℕ) (ps : List Piece) → k + n ≤ m → Each (EndsBy n) ps → Each (EndsBy m) (map (piece_moved k) ps)
moved-ends k n m [] le h = tt
moved-ends k n m (Head block after ∷ ps) le h = (let e : after ≤ n = h.0 in omega (arith, le, e), moved-ends k n m ps le h.1)
moved-ends k n m (Long ∷ ps) le h = absurd h.0

moved-begins : (k n m : ℕ) (ps : List Piece) → m ≤ k + n → Each (BeginsFrom n) ps → Each (BeginsFrom m) (map (piece_moved k) ps)
moved-begins k n m [] le h = tt
moved-begins k n m (Head block after ∷ ps) le h = (let e : n + length block ≤ after = h.0 in omega (arith, le, e), moved-begins k n m ps le h.1)
moved-begins k n m (Long ∷ ps) le h = (tt, moved-begins k n m ps le h.1)

-- each block begins somewhere
begins-in : (n : ℕ) (q : List ℕ) → length q ≤ n → Each (BeginsFrom 0) (blocks q)
begins-in zero [] h = subst (Each (BeginsFrom 0)) (sym blocks-nothing) tt
begins-in zero (a ∷ q) h = absurd (omega (arith, h))
begins-in (suc n) q h = go (λ r l. begins-in n r l) (cut_of q) refl where
  go : ((r : List ℕ) → length r ≤ n → Each (BeginsFrom 0) (blocks r)) → (f : Found) → cut_of q ≡ f → Each (BeginsFrom 0) (blocks q)
  go ih (More skip) e = subst (Each (BeginsFrom 0)) (sym (none-yet q skip e)) tt
  go ih (TooLong skip) e = subst (Each (BeginsFrom 0)) (sym (long-last q skip e)) (tt, tt)
  go ih (Block skip len) e =
      let c : IsCut q skip len = is_cut q skip len e in
      let k : ℕ = skip + len in
      let shorter : length (drop k q) ≤ n = omega (arith, c.some, c.within, h, length-drop k q) in
      let l : length (take len (drop skip q)) ≡ min len (length (drop skip q)) = length-take len (drop skip q) in
      subst (Each (BeginsFrom 0)) (sym (block-first q skip len e)) (omega (arith, l), moved-begins k 0 0 (blocks (drop k q)) (omega arith) (ih (drop k q) shorter))

-- ---- all that is cut

record Divided (x : List ℕ) (vs : List Verdict) : Type 0 where
  pub ps : List Piece
  pub cuts : Cuts x ps
  pub same : verdicts_on ps ≡ vs
  pub ends : Each (EndsBy (length x)) ps

abbrev AreCut : List ℕ → List Verdict → Type 0
AreCut x vs = (z : List ℕ) → verdicts_on (blocks (x ++ z)) ≡ vs ++ verdicts_on (blocks z)

-- with nothing behind
alone : (x : List ℕ) (vs : List Verdict) → AreCut x vs → verdicts_on (blocks x) ≡ vs
alone x vs h = ap (λ (q : List ℕ). verdicts_on (blocks q)) (sym (append-nil x)) ∙ h [] ∙ ap (λ (ps : List Piece). vs ++ verdicts_on ps) blocks-nothing ∙ append-nil vs

or-right : (a b : Bool) → (a || b) ≡ false → b ≡ false
or-right true b e = absurd cc
or-right false b e = e

tail_of : List Verdict → List Verdict
tail_of [] = []
tail_of (v ∷ vs) = vs

-- its first block, and then the rest
module _ (x : List ℕ) (skip len : ℕ) (e : cut_of x ≡ Block skip len) where
  abbrev k : ℕ
  k = skip + len

  abbrev block : List ℕ
  block = take len (drop skip x)

  abbrev behind : List ℕ
  behind = drop k x

  behind-first : (z : List ℕ) → verdicts_on (blocks (x ++ z)) ≡ verdict block ∷ verdicts_on (blocks (behind ++ z))
  behind-first z =
      let split : x ++ z ≡ take k x ++ (behind ++ z) = ap (λ (q : List ℕ). q ++ z) (sym (take-append-drop k x)) ∙ append_assoc (take k x) behind z in
      ap (λ (q : List ℕ). verdicts_on (blocks q)) split ∙ ap verdicts_on (cuts-block x skip len e (behind ++ z)) ∙ ap (λ (vs : List Verdict). verdict block ∷ vs) (verdicts_on-moved (length (take k x)) (blocks (behind ++ z)))

  rest-cut : (v : Verdict) (vs : List Verdict) → AreCut x (v ∷ vs) → AreCut behind vs
  unfolding tail_of
  rest-cut v vs h z = ap tail_of (sym (behind-first z) ∙ h z)

  first-same : (v : Verdict) (vs : List Verdict) → AreCut x (v ∷ vs) → verdict block ≡ v
  first-same v vs h = let all : verdict block ∷ verdicts_on (blocks (behind ++ [])) ≡ v ∷ (vs ++ verdicts_on (blocks [])) = sym (behind-first []) ∙ h [] in cc

  joined : (v : Verdict) (vs : List Verdict) → AreCut x (v ∷ vs) → Divided behind vs → Divided x (v ∷ vs)
  joined v vs h d =
      let c : IsCut x skip len = is_cut x skip len e in
      let l : length (take k x) ≡ k = length-take-le k x c.within in
      let m : length behind ≡ length x - k = length-drop k x in
      record {
        ps = Head block k ∷ map (piece_moved (length (take k x))) d.ps;
        cuts = subst (λ (q : List ℕ). Cuts q (Head block k ∷ map (piece_moved (length (take k x))) d.ps)) (take-append-drop k x) (cuts-join (take k x) behind (Head block k ∷ []) d.ps (cuts-block x skip len e) d.cuts);
        same = ap (λ (us : List Verdict). verdict block ∷ us) (verdicts_on-moved (length (take k x)) d.ps ∙ d.same) ∙ ap (λ (u : Verdict). u ∷ vs) (first-same v vs h);
        ends = (c.within, moved-ends (length (take k x)) (length behind) (length x) d.ps (omega (arith, l, m, c.within)) d.ends);
      }

divided : (n : ℕ) (x : List ℕ) (vs : List Verdict) → length x ≤ n → AreCut x vs → closes_any vs ≡ false → Divided x vs
divided zero [] vs le h open_ = record { ps = []; cuts = cuts-nothing; same = ap verdicts_on (sym blocks-nothing) ∙ alone [] vs h; ends = tt }
divided zero (a ∷ x) vs le h open_ = absurd (omega (arith, le))
divided (suc n) x vs le h open_ = go (λ y us l g o. divided n y us l g o) (cut_of x) refl where
  block-case : ((y : List ℕ) (us : List Verdict) → length y ≤ n → AreCut y us → closes_any us ≡ false → Divided y us) → (skip len : ℕ) → cut_of x ≡ Block skip len → (us : List Verdict) → AreCut x us → closes_any us ≡ false → Divided x us
  block-case ih skip len e [] g o = let no = sym (behind-first x skip len e []) ∙ g [] ∙ ap verdicts_on blocks-nothing in absurd cc
  block-case ih skip len e (v ∷ us) g o =
      let c : IsCut x skip len = is_cut x skip len e in
      let shorter : length (drop (skip + len) x) ≤ n = omega (arith, c.some, c.within, le, length-drop (skip + len) x) in
      joined x skip len e v us g (ih (drop (skip + len) x) us shorter (rest-cut x skip len e v us g) (or-right (closes v) (closes_any us) o))

  go : ((y : List ℕ) (us : List Verdict) → length y ≤ n → AreCut y us → closes_any us ≡ false → Divided y us) → (f : Found) → cut_of x ≡ f → Divided x vs
  go ih (More skip) e =
      let none : [] ≡ vs = ap verdicts_on (sym (none-yet x skip e)) ∙ alone x vs h in
      record { ps = []; cuts = empty-lines x skip e (subst (AreCut x) (sym none) h); same = none; ends = tt }
  go ih (TooLong skip) e =
      let one = ap verdicts_on (sym (long-last x skip e)) ∙ alone x vs h in
      let no : true ≡ false = ap closes_any one ∙ open_ in absurd cc
  go ih (Block skip len) e = block-case ih skip len e vs h open_

-- ---- of what was written

-- where verdicts are cut, and none closes, the bytes are cut behind as many blocks
pub cut-at : (n : ℕ) (w : List ℕ) (vs : List Verdict) → n ≤ length w → AreCut (take n w) vs → closes_any vs ≡ false → IsCutAt n (length vs) w
cut-at n w vs le h open_ =
    let x : List ℕ = take n w in
    let d : Divided x vs = divided (length x) x vs (omega arith) h open_ in
    let l : length x ≡ n = length-take-le n w le in
    let rest : List Piece = map (piece_moved (length x)) (blocks (drop n w)) in
    let all : blocks w ≡ d.ps ++ rest = ap blocks (sym (take-append-drop n w)) ∙ d.cuts (drop n w) in
    let many : length d.ps ≡ length vs = sym (length-map d.ps _) ∙ ap length d.same in
    let first : take (length vs) (blocks w) ≡ d.ps = ap (take (length vs)) all ∙ take_at d.ps rest (length vs) many in
    let later : drop (length vs) (blocks w) ≡ rest = ap (drop (length vs)) all ∙ subst (λ (m : ℕ). drop m (d.ps ++ rest) ≡ rest) many (drop-append_seam d.ps rest) in
    record {
      there = (let a : length (blocks w) ≡ length d.ps + length rest = ap length all ∙ length-append d.ps rest in omega (arith, a, many));
      cuts = subst (Cuts x) (sym first) d.cuts;
      ends = subst (Each (EndsBy n)) (sym first) (subst (λ (m : ℕ). Each (EndsBy m) d.ps) l d.ends);
      begins = subst (Each (BeginsFrom n)) (sym later) (moved-begins (length x) 0 n (blocks (drop n w)) (omega (arith, l)) (begins-in (length (drop n w)) (drop n w) (omega arith)));
    }
