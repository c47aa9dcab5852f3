-- One range, behind its unit: read exactly where it is spelled.
use Rattle.std.proofs.Common.{◌≡◌, ℕ, ◌+◌, ◌<◌, ◌≤◌, Bool, true, false, not, List, [], ◌∷◌, ◌++◌, length, take, drop, get_or, Option, Some, None, cond, refl, sym, ap, ◌∙◌, subst, arith, append_assoc, nat_lt, codes}
use Rattle.std.specs.List.{position, position_or_len}
use Rattle.std.specs.Str.Parse.{AllDigits}
use Rattle.std.proofs.Math.Seq.{take-append_seam, drop-append-add}
use Rattle.std.proofs.lemmas.Bool.Decides.{nat_tests}
use Rattle.std.proofs.lemmas.List.{take-append-drop, drop_more, length-append}
use Rattle.std.proofs.lemmas.List.Quantifiers.{position-Some}
use Rattle.std.proofs.lemmas.Str.Parse.{digit_from_value}
use Rattle.httparse.specs.Grammar.{is_ows}
use Rattle.lard_ranges.specs.declared.reading.Range.{Range}
use Rattle.lard_ranges.specs.declared.reading.Range.TheVariants.{From, Suffix}
use Rattle.lard_ranges.specs.Reading.{number_told, suffix_of, up_to, starting, starting_at, spec_around, is_dash, spec_at}
use Rattle.lard_ranges.specs.Spelled.{SpellsNumber, SpellsSpec}
use Rattle.lard_ranges.proofs.Numbers.{number-sound, number-complete}

-- ---- the first dash

at-dash : (spec : List ℕ) (k : ℕ) → position is_dash spec ≡ Some k → take k spec ++ 45 ∷ drop (k + 1) spec ≡ spec
at-dash spec k e =
    let p = position-Some is_dash spec k 0 e in
    let dash : get_or spec k 0 ≡ 45 = grind (arith, nat_tests, p.1) in
    let rest : drop k spec ≡ 45 ∷ drop (k + 1) spec = drop_more spec k 0 p.0 ∙ ap (λ b. b ∷ drop (k + 1) spec) dash in
    ap (λ r. take k spec ++ r) (sym rest) ∙ take-append-drop k spec

not-dash : (d : ℕ) → 48 ≤ d → not (is_dash d) ≡ true
not-dash d low = grind (arith, nat_tests)

behind-digits : (a b : List ℕ) → AllDigits 10 a → position_or_len is_dash (a ++ 45 ∷ b) ≡ length a
behind-digits [] b all = refl
behind-digits (d ∷ ds) b all =
    let ih : position_or_len is_dash (ds ++ 45 ∷ b) ≡ length ds = behind-digits ds b all.1 in
    let one : 1 + length ds ≡ length (d ∷ ds) = omega arith in
    ap (λ t. cond t (1 + position_or_len is_dash (ds ++ 45 ∷ b)) 0) (not-dash d (digit_from_value d all.0).0) ∙ ap (λ n. 1 + n) ih ∙ one

-- digits, a dash and more are cut at the dash
cut-at-dash : (a b : List ℕ) → AllDigits 10 a → spec_at (a ++ 45 ∷ b) (position is_dash (a ++ 45 ∷ b)) ≡ spec_around a b
cut-at-dash a b all =
    let more : nat_lt (length a) (length (a ++ 45 ∷ b)) ≡ true = grind (arith, nat_tests, length-append a (45 ∷ b)) in
    let found : position is_dash (a ++ 45 ∷ b) ≡ Some (length a) =
    ap (λ n. cond {A = Option ℕ} (nat_lt n (length (a ++ 45 ∷ b))) (Some n) None) (behind-digits a b all)
    ∙ ap (λ t. cond {A = Option ℕ} t (Some (length a)) None) more in
    ap (spec_at (a ++ 45 ∷ b)) found
    ∙ ap (λ w. spec_around w (drop (length a + 1) (a ++ 45 ∷ b))) (take-append_seam a (45 ∷ b))
    ∙ ap (spec_around a) (drop-append-add a (45 ∷ b) 1)

-- ---- what is read is spelled

suffix-sound : (behind : List ℕ) (o : Option ℕ) (range : Range) → number_told behind ≡ o → suffix_of o ≡ Some range → SpellsSpec (45 ∷ behind) range
suffix-sound behind None range told e = cc
suffix-sound behind (Some len) range told e =
    let same : Suffix len ≡ range = cc in subst (SpellsSpec (45 ∷ behind)) same (behind, number-sound behind len told, refl)

last-sound : (a b : List ℕ) (first : ℕ) (o : Option ℕ) (range : Range) → SpellsNumber a first → number_told b ≡ o → up_to first o ≡ Some range
    → SpellsSpec (a ++ 45 ∷ b) range
last-sound a b first None range n told e = cc
last-sound a b first (Some last) range n told e = go (nat_lt last first) refl e where
  go : (t : Bool) → nat_lt last first ≡ t → cond {A = Option Range} t None (Some (From first (Some last))) ≡ Some range → SpellsSpec (a ++ 45 ∷ b) range
  go true f g = cc
  go false f g =
      let same : From first (Some last) ≡ range = cc in
      let up : first ≤ last = grind (arith, nat_tests, f) in
      subst (SpellsSpec (a ++ 45 ∷ b)) same (a, b, n, number-sound b last told, up, sym (append_assoc a (codes "-") b))

first-sound : (a behind : List ℕ) (o : Option ℕ) (range : Range) → number_told a ≡ o → starting_at o behind ≡ Some range → SpellsSpec (a ++ 45 ∷ behind) range
first-sound a behind None range told e = cc
first-sound a [] (Some first) range told e =
    let same : From first None ≡ range = cc in subst (SpellsSpec (a ++ 45 ∷ [])) same (a, number-sound a first told, refl)
first-sound a (b ∷ bs) (Some first) range told e = last-sound a (b ∷ bs) first (number_told (b ∷ bs)) range (number-sound a first told) refl e

around-sound : (before behind : List ℕ) (range : Range) → spec_around before behind ≡ Some range → SpellsSpec (before ++ 45 ∷ behind) range
around-sound [] behind range e = suffix-sound behind (number_told behind) range refl e
around-sound (b ∷ bs) behind range e = first-sound (b ∷ bs) behind (number_told (b ∷ bs)) range refl e

pub spec-sound : (spec : List ℕ) (range : Range) → spec_at spec (position is_dash spec) ≡ Some range → SpellsSpec spec range
spec-sound spec range e = go (position is_dash spec) refl e where
  go : (o : Option ℕ) → position is_dash spec ≡ o → spec_at spec o ≡ Some range → SpellsSpec spec range
  go None f g = cc
  go (Some k) f g = subst (λ (s : List ℕ). SpellsSpec s range) (at-dash spec k f) (around-sound (take k spec) (drop (k + 1) spec) range g)

-- ---- what is spelled is read

around-first : (a behind : List ℕ) → 0 < length a → spec_around a behind ≡ starting_at (number_told a) behind
around-first [] behind some = absurd (omega arith)
around-first (b ∷ bs) behind some = refl

starting-last : (first : ℕ) (b : List ℕ) → 0 < length b → starting first b ≡ up_to first (number_told b)
starting-last first [] some = absurd (omega arith)
starting-last first (b ∷ bs) some = refl

up-from : (first last : ℕ) → first ≤ last → up_to first (Some last) ≡ Some (From first (Some last))
up-from first last up =
    let t : nat_lt last first ≡ false = grind (arith, nat_tests) in ap (λ b. cond {A = Option Range} b None (Some (From first (Some last)))) t

spelled-first : (a b : List ℕ) (first : ℕ) → SpellsNumber a first → spec_at (a ++ 45 ∷ b) (position is_dash (a ++ 45 ∷ b)) ≡ starting first b
spelled-first a b first n =
    cut-at-dash a b n.numeral.1 ∙ around-first a b n.numeral.0 ∙ ap (λ o. starting_at o b) (number-complete a first n)

pub spec-complete : (spec : List ℕ) (range : Range) → SpellsSpec spec range → spec_at spec (position is_dash spec) ≡ Some range
spec-complete spec (From first None) x = ap (λ s. spec_at s (position is_dash s)) x.2 ∙ spelled-first x.0 [] first x.1
spec-complete spec (From first (Some last)) x =
    ap (λ s. spec_at s (position is_dash s)) (x.5 ∙ append_assoc x.0 (codes "-") x.1)
    ∙ spelled-first x.0 x.1 first x.2
    ∙ starting-last first x.1 x.3.numeral.0
    ∙ ap (up_to first) (number-complete x.1 last x.3)
    ∙ up-from first last x.4
spec-complete spec (Suffix len) x = ap (λ s. spec_at s (position is_dash s)) x.2 ∙ cut-at-dash [] x.0 tt ∙ ap suffix_of (number-complete x.0 len x.1)

-- ---- the last byte of a range is no blank

digit-shows : (d : ℕ) → 48 ≤ d → is_ows d ≡ false
digit-shows d low = grind (arith, nat_tests)

last-digit : (b : List ℕ) → 0 < length b → AllDigits 10 b → (before : List ℕ) × (last : ℕ) × (b ≡ before ++ last ∷ []) × (is_ows last ≡ false)
last-digit [] some all = absurd (omega arith)
last-digit (d ∷ []) some all = ([], d, refl, digit-shows d (digit_from_value d all.0).0)
last-digit (d ∷ e ∷ ds) some all = let ih = last-digit (e ∷ ds) (omega arith) all.1 in (d ∷ ih.0, ih.1, ap (λ v. d ∷ v) ih.2, ih.3)

pub last-shows : (spec : List ℕ) (range : Range) → SpellsSpec spec range → (before : List ℕ) × (last : ℕ) × (spec ≡ before ++ last ∷ []) × (is_ows last ≡ false)
last-shows spec (From first None) x = (x.0, 45, x.2, refl)
last-shows spec (From first (Some last)) x =
    let end = last-digit x.1 x.3.numeral.0 x.3.numeral.1 in
    ((x.0 ++ codes "-") ++ end.0, end.1, x.5 ∙ ap (λ v. (x.0 ++ codes "-") ++ v) end.2 ∙ sym (append_assoc (x.0 ++ codes "-") end.0 (end.1 ∷ [])), end.3)
last-shows spec (Suffix len) x = let end = last-digit x.0 x.1.numeral.0 x.1.numeral.1 in (45 ∷ end.0, end.1, x.2 ∙ ap (λ v. 45 ∷ v) end.2, end.3)
