-- The verdicts by what is found at the front, and where they end.
use Rattle.std.proofs.Common.{◌≡◌, ℕ, zero, suc, ◌+◌, ◌||◌, Bool, true, false, List, [], ◌∷◌, ◌++◌, take, drop, cond, refl, sym, ap, ◌∙◌}
use Rattle.lard_block.specs.declared.block.Found.TheVariants.{Block, More, TooLong}
use Rattle.lard_block.specs.Blocks.{cut_of, Piece, blocks}
use Rattle.lard_block.proofs.Division.{grows, block-first, none-yet, long-last}
use Rattle.lard_request.specs.declared.verdict.Code.TheVariants.{FieldsTooLarge}
use Rattle.lard_request.specs.declared.verdict.Verdict.{Verdict}
use Rattle.lard_request.specs.declared.verdict.Verdict.TheVariants.{Fault}
use Rattle.lard_request.specs.Verdict.{closes, verdict}
use Rattle.lard_answers.specs.Answers.{piece_verdict, verdicts_on, until_close, verdicts, closes_any}
use Rattle.lard_answers.proofs.Growing.{until_close-nil, until_close-cons, until_close-closed, until_close-open, until_close-alone, verdicts-are}
use Rattle.lard_answers.proofs.Following.{verdicts_on-moved, until_close-before}
use Rattle.std.proofs.lemmas.List.{map-append}

-- ---- what is found at the front

-- a block: its verdict, and then, unless that closes, those on the bytes behind it
pub verdicts-block : (q : List ℕ) (skip len : ℕ) → cut_of q ≡ Block skip len
    → verdicts q ≡ verdict (take len (drop skip q)) ∷ cond (closes (verdict (take len (drop skip q)))) [] (verdicts (drop (skip + len) q))
verdicts-block q skip len e =
    let v : Verdict = verdict (take len (drop skip q)) in
    let rest : List ℕ = drop (skip + len) q in
    verdicts-are q
    ∙ ap (λ ps. until_close (verdicts_on ps)) (block-first q skip len e)
    ∙ ap (λ vs. until_close (v ∷ vs)) (verdicts_on-moved (skip + len) (blocks rest))
    ∙ until_close-cons v (verdicts_on (blocks rest))
    ∙ ap (λ vs. v ∷ cond (closes v) [] vs) (sym (verdicts-are rest))

pub verdicts-more : (q : List ℕ) (skip : ℕ) → cut_of q ≡ More skip → verdicts q ≡ []
verdicts-more q skip e = verdicts-are q ∙ ap (λ ps. until_close (verdicts_on ps)) (none-yet q skip e) ∙ until_close-nil

pub verdicts-long : (q : List ℕ) (skip : ℕ) → cut_of q ≡ TooLong skip → verdicts q ≡ Fault FieldsTooLarge ∷ []
verdicts-long q skip e = verdicts-are q ∙ ap (λ ps. until_close (verdicts_on ps)) (long-last q skip e) ∙ until_close-alone (Fault FieldsTooLarge)

-- ---- one that closes is the last

-- where one of the first closes, the first are all, and one closes
take-closed : (n : ℕ) (vs : List Verdict) → closes_any (take n (until_close vs)) ≡ true → (closes_any vs ≡ true) × (take n (until_close vs) ≡ until_close vs)
take-closed zero vs h = let e : false ≡ true = h in cc
take-closed (suc n) [] h = let e : false ≡ true = ap (λ ws. closes_any (take (suc n) ws)) (sym until_close-nil) ∙ h in cc
take-closed (suc n) (v ∷ vs) h = go (take-closed n vs) (closes v) refl where
  go : (closes_any (take n (until_close vs)) ≡ true → (closes_any vs ≡ true) × (take n (until_close vs) ≡ until_close vs)) → (b : Bool) → closes v ≡ b
      → ((closes v || closes_any vs) ≡ true) × (take (suc n) (until_close (v ∷ vs)) ≡ until_close (v ∷ vs))
  go ih true e =
      let s : until_close (v ∷ vs) ≡ v ∷ [] = until_close-closed v vs e in
      (ap (λ b. b || closes_any vs) e, ap (take (suc n)) s ∙ ap (λ w. v ∷ w) (take-nil n) ∙ sym s) where
        take-nil : (k : ℕ) → ◌≡◌ {A = List Verdict} (take k []) []
        take-nil zero = refl
        take-nil (suc k) = refl
  go ih false e =
      let s : until_close (v ∷ vs) ≡ v ∷ until_close vs = until_close-open v vs e in
      let f : (closes v || closes_any (take n (until_close vs))) ≡ true = ap (λ ws. closes_any (take (suc n) ws)) (sym s) ∙ h in
      let g : (closes_any vs ≡ true) × (take n (until_close vs) ≡ until_close vs) = ih (sym (ap (λ b. b || closes_any (take n (until_close vs))) e) ∙ f) in
      (ap (λ b. b || closes_any vs) e ∙ g.0, ap (take (suc n)) s ∙ ap (λ w. v ∷ w) g.1 ∙ sym s)

-- where one of the first verdicts closes, they are all, whatever follows
pub verdicts-closed : (n : ℕ) (q z : List ℕ) → closes_any (take n (verdicts q)) ≡ true → verdicts (q ++ z) ≡ take n (verdicts q)
verdicts-closed n q z h =
    let g : (later : List Piece) × (blocks (q ++ z) ≡ blocks q ++ later) = grows q z in
    let c : (closes_any (verdicts_on (blocks q)) ≡ true) × (take n (until_close (verdicts_on (blocks q))) ≡ until_close (verdicts_on (blocks q))) =
    take-closed n (verdicts_on (blocks q)) (ap (λ ws. closes_any (take n ws)) (sym (verdicts-are q)) ∙ h) in
    verdicts-are (q ++ z)
    ∙ ap (λ ps. until_close (verdicts_on ps)) g.1
    ∙ ap until_close (map-append piece_verdict (blocks q) g.0)
    ∙ until_close-before (verdicts_on (blocks q)) (verdicts_on g.0) c.0
    ∙ sym c.1
    ∙ ap (take n) (sym (verdicts-are q))
