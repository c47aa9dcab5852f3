-- Spaces and tabs around a text.
use Rattle.std.proofs.Common.{◌≡◌, ℕ, Bool, true, false, IsTrue, List, [], ◌∷◌, ◌++◌, reverse, cond, refl, sym, ap, ◌∙◌}
use Rattle.std.proofs.lemmas.List.{reverse-append, reverse-reverse}
use Rattle.std.proofs.lemmas.List.Elements.{All-nil, All-cons, All-head, All-tail}
use Rattle.httparse.specs.Grammar.{AllPass, is_ows, skip_ows, trim_ows}
use Rattle.httparse.proofs.TrimLemmas.{AllPass-reverse, skip_ows_no}

-- the blanks in front, and what stands behind them
blanks-first : (xs : List ℕ) → (blank : List ℕ) × AllPass is_ows blank × (xs ≡ blank ++ skip_ows xs)
blanks-first [] = ([], All-nil (λ b. IsTrue (is_ows b)), refl)
blanks-first (b ∷ bs) = go (blanks-first bs) (is_ows b) refl where
  go : (blank : List ℕ) × AllPass is_ows blank × (bs ≡ blank ++ skip_ows bs) → (t : Bool) → is_ows b ≡ t
      → (blank : List ℕ) × AllPass is_ows blank × (b ∷ bs ≡ blank ++ cond t (skip_ows bs) (b ∷ bs))
  go ih true e = (b ∷ ih.0, All-cons (λ b. IsTrue (is_ows b)) b ih.0 e ih.1, ap (λ v. b ∷ v) ih.2)
  go ih false e = ([], All-nil (λ b. IsTrue (is_ows b)), refl)

skipped-over : (blank xs : List ℕ) → AllPass is_ows blank → skip_ows (blank ++ xs) ≡ skip_ows xs
skipped-over [] xs a = refl
skipped-over (b ∷ bs) xs a =
    ap (λ t. cond t (skip_ows (bs ++ xs)) (b ∷ (bs ++ xs))) (All-head (λ b. IsTrue (is_ows b)) b bs a)
    ∙ skipped-over bs xs (All-tail (λ b. IsTrue (is_ows b)) b bs a)

-- a value is the trimmed one between blanks
pub trim-sound : (value : List ℕ) → (before behind : List ℕ) × AllPass is_ows before × AllPass is_ows behind × (value ≡ before ++ (trim_ows value ++ behind))
unfolding trim_ows
trim-sound value =
    let front = blanks-first value in
    let back = blanks-first (reverse (skip_ows value)) in
    let parted : skip_ows value ≡ reverse (skip_ows (reverse (skip_ows value))) ++ reverse back.0 =
    sym (reverse-reverse (skip_ows value)) ∙ ap reverse back.2 ∙ reverse-append back.0 (skip_ows (reverse (skip_ows value))) in
    (front.0, reverse back.0, front.1, AllPass-reverse is_ows back.0 back.1, front.2 ∙ ap (λ v. front.0 ++ v) parted)

-- the first byte of a text is no blank, and its last one is none
pub record HasVisibleEnds (text : List ℕ) : Type 0 where
  pub first : ℕ
  pub rest : List ℕ
  pub begins : text ≡ first ∷ rest
  pub first_shows : is_ows first ≡ false
  pub before : List ℕ
  pub last : ℕ
  pub ends : text ≡ before ++ last ∷ []
  pub last_shows : is_ows last ≡ false

-- and so the text comes back from between blanks
pub trim-complete : (before text behind : List ℕ) → AllPass is_ows before → AllPass is_ows behind → HasVisibleEnds text
    → trim_ows (before ++ (text ++ behind)) ≡ text
unfolding trim_ows
trim-complete before text behind a b v =
    let front : skip_ows (before ++ (text ++ behind)) ≡ text ++ behind =
    skipped-over before (text ++ behind) a ∙ skip_ows_no (ap (λ t. t ++ behind) v.begins) (sym v.first_shows) in
    let turned : reverse text ≡ v.last ∷ reverse v.before = ap reverse v.ends ∙ reverse-append v.before (v.last ∷ []) in
    let back : skip_ows (reverse (text ++ behind)) ≡ reverse text =
    ap skip_ows (reverse-append text behind)
    ∙ skipped-over (reverse behind) (reverse text) (AllPass-reverse is_ows behind b)
    ∙ skip_ows_no turned (sym v.last_shows) in
    ap (λ t. reverse (skip_ows (reverse t))) front ∙ ap reverse back ∙ reverse-reverse text
