-- What was served on a connection are its first answers, and no limit resets one whose answers are within it.
use Rattle.std.proofs.Common.{◌≡◌, ◌≤◌, ◌<◌, ℕ, zero, suc, ◌+◌, Bool, true, false, cond, nat_eq, List, [], ◌∷◌, ◌++◌, length, take, Option, Some, None, refl, sym, ap, ◌∙◌, subst, append_assoc, append-nil, length-append, add-one, arith}
use Rattle.std.proofs.lemmas.List.{take-append-le}
use Rattle.std.proofs.lemmas.Bool.{eqb-true}
use Rattle.std.proofs.lemmas.List.Sums.{fold-append}
use Rattle.std.specs.List.{concat, slice_get}
use Rattle.std.specs.Option.{option_map}
use Rattle.lard_law_view.specs.Prelude.{EachMay, FilesAt, IsPrefix, MayReset, Rec, answer_bytes, answers, is_touched, reset_step, served, served_bytes, served_bytes_step, served_step, was_reset, wrote, wrote_step}
use Rattle.lard_answers.proofs.Growing.{answer_bytes-grow, answers-grow}
use Rattle.lard_journal.specs.declared.rec.Rec.TheVariants as rec
use Rattle.lard_laws.proofs.BackingMarks.{untouched-before, writes-on}
use Rattle.lard_law_connections.specs.BytesRecords.{MayServeOwned}

-- ---- the first answers

-- how many bytes the first k have
abbrev front : List (List ℕ) → ℕ → ℕ
front xs k = length (concat (take k xs))

-- with the next one they have its bytes more
front-next : (xs : List (List ℕ)) (k : ℕ) (x : List ℕ) → slice_get xs k ≡ Some x → (front xs (suc k) ≡ front xs k + length x) × (k < length xs)
front-next [] k x at = cc
front-next (y ∷ ys) zero x at =
    let same : y ≡ x = cc in
    (length-append y [] ∙ omega arith ∙ ap (λ (z : List ℕ). 0 + length z) same, omega arith)
front-next (y ∷ ys) (suc k) x at =
    let more = front-next ys k x at in
    let all = more.0 in
    let few = more.1 in
    (omega (arith, all, length-append y (concat (take (suc k) ys)), length-append y (concat (take k ys))), omega (arith, few))

-- they have no more than all
front-within : (xs : List (List ℕ)) (k : ℕ) → front xs k ≤ length (concat xs)
front-within [] zero = omega arith
front-within [] (suc k) = omega arith
front-within (x ∷ xs) zero = omega arith
front-within (x ∷ xs) (suc k) = omega (arith, front-within xs k, length-append x (concat (take k xs)), length-append x (concat xs))

-- the one that is counted
counted : (o : Option (List ℕ)) (f : List ℕ → ℕ) (n : ℕ) → option_map f o ≡ Some n → (x : List ℕ) × (o ≡ Some x) × (f x ≡ n)
counted None f n is = cc
counted (Some x) f n is = (x, refl, cc)

prefix-short : (xs ys : List ℕ) → IsPrefix xs ys → length xs ≤ length ys
prefix-short xs ys p = omega (arith, ap (λ (l : List ℕ). length l) p.1, length-append xs p.0)

module _ (files : FilesAt) (stream c : ℕ) where
  -- where its client wrote this, so many answers were served, with their bytes, and it was not reset
  abbrev FitsAs : List ℕ → ℕ → ℕ → Bool → Type 0
  FitsAs q n b was = (b ≡ front (answers files q) n) × (n ≤ length (answers files q)) × (was ≡ false)

  abbrev pub Fits : List Rec → Type 0
  Fits J = FitsAs (wrote J c) (served J c) (served_bytes J c) (was_reset J c)

  -- its client writes on
  fits-grown : (q z : List ℕ) (n b : ℕ) (was : Bool) → FitsAs q n b was → FitsAs (q ++ z) n b was
  fits-grown q z n b was h =
      let on = answers-grow files q z in
      let few = h.1 in
      let same : front (answers files (q ++ z)) n ≡ front (answers files q) n = ap (λ (xs : List (List ℕ)). front xs n) on.1 ∙ ap (λ (xs : List (List ℕ)). length (concat xs)) (take-append-le n (answers files q) on.0 few) in
      (h.0 ∙ sym same, omega (arith, few, ap (λ (xs : List (List ℕ)). length xs) on.1, length-append (answers files q) on.0), h.2)

  -- the next one is served
  fits-served : (q : List ℕ) (n b size : ℕ) (was : Bool) → option_map (λ x. length x) (slice_get (answers files q) n) ≡ Some size → FitsAs q n b was → FitsAs q (n + 1) (b + size) was
  fits-served q n b size was is h =
      let one = counted (slice_get (answers files q) n) (λ x. length x) size is in
      let next = front-next (answers files q) n one.0 one.1 in
      let bytes : front (answers files q) (n + 1) ≡ front (answers files q) (suc n) = ap (front (answers files q)) (add-one n) in
      let all = next.0 in
      let few = next.1 in
      let before = h.0 in
      let its = one.2 in
      (omega (arith, bytes, all, before, its), omega (arith, few), h.2)

  -- where the next one would pass the limit, so do all
  not-reset : (q : List ℕ) (n b total : ℕ) (was : Bool) → option_map (λ x. b + length x) (slice_get (answers files q) n) ≡ Some total → stream < total → length (answer_bytes files q) ≤ stream → FitsAs q n b was → ⊥
  not-reset q n b total was is above within h =
      let one = counted (slice_get (answers files q) n) (λ x. b + length x) total is in
      let next = front-next (answers files q) n one.0 one.1 in
      let all = next.0 in
      let before = h.0 in
      let its = one.2 in
      omega (arith, all, before, its, above, within, front-within (answers files q) (suc n))

  -- ---- record by record

  fits-one : (past : List Rec) (r : Rec) → MayServeOwned files past r → MayReset stream past r → is_touched past c ≡ false → length (answer_bytes files (wrote past c)) ≤ stream → Fits past
      → FitsAs (wrote_step c (wrote past c) r) (served_step c (served past c) r) (served_bytes_step c (served_bytes past c) r) (reset_step c (was_reset past c) r)
  fits-one past (rec.Wrote d more) serve reset un within h = go (nat_eq d c) where
    go : (b : Bool) → FitsAs (cond b (wrote past c ++ more) (wrote past c)) (served past c) (served_bytes past c) (was_reset past c)
    go true = fits-grown (wrote past c) more (served past c) (served_bytes past c) (was_reset past c) h
    go false = h
  fits-one past (rec.Served place d r code size via) serve reset un within h = go (nat_eq d c) refl where
    go : (b : Bool) → nat_eq d c ≡ b → FitsAs (wrote past c) (cond b (served past c + 1) (served past c)) (cond b (served_bytes past c + size) (served_bytes past c)) (was_reset past c)
    go true e =
        let law = subst (λ i. MayServeOwned files past (rec.Served place i r code size via)) (eqb-true d c e) serve un in
        fits-served (wrote past c) (served past c) (served_bytes past c) size (was_reset past c) law.1.2 h
    go false e = h
  fits-one past (rec.Reset place d total) serve reset un within h = go (nat_eq d c) refl where
    go : (b : Bool) → nat_eq d c ≡ b → FitsAs (wrote past c) (served past c) (served_bytes past c) (cond b true (was_reset past c))
    go true e =
        let law = subst (λ i. MayServeOwned files past (rec.Reset place i total)) (eqb-true d c e) serve un in
        absurd (not-reset (wrote past c) (served past c) (served_bytes past c) total (was_reset past c) law.1 reset.0 within h)
    go false e = h
  fits-one past _ serve reset un within h = h

  -- with the record more
  fits-more : (past : List Rec) (r : Rec) → FitsAs (wrote_step c (wrote past c) r) (served_step c (served past c) r) (served_bytes_step c (served_bytes past c) r) (reset_step c (was_reset past c) r) → Fits (past ++ r ∷ [])
  fits-more past r h = (
    fold-append (served_bytes_step c) 0 past (r ∷ []) ∙ h.0 ∙ sym (λ i. front (answers files (fold-append (wrote_step c) [] past (r ∷ []) i)) (fold-append (served_step c) 0 past (r ∷ []) i)),
    subst (λ n. n ≤ length (answers files (wrote (past ++ r ∷ []) c))) (sym (fold-append (served_step c) 0 past (r ∷ [])))
        (subst (λ (q : List ℕ). served_step c (served past c) r ≤ length (answers files q)) (sym (fold-append (wrote_step c) [] past (r ∷ []))) h.1),
    fold-append (reset_step c) false past (r ∷ []) ∙ h.2,
  )

  -- the answers so far are no more than all
  within-before : (past rs : List Rec) → length (answer_bytes files (wrote (past ++ rs) c)) ≤ stream → length (answer_bytes files (wrote past c)) ≤ stream
  within-before past rs within =
      let on = writes-on past rs c in
      let few = prefix-short (answer_bytes files (wrote past c)) (answer_bytes files (wrote past c ++ on.0)) (answer_bytes-grow files (wrote past c) on.0) in
      omega (arith, few, within, ap (λ (q : List ℕ). length (answer_bytes files q)) on.1)

  fits-all : (past rs : List Rec) → EachMay (MayServeOwned files) past rs → EachMay (MayReset stream) past rs → is_touched (past ++ rs) c ≡ false → length (answer_bytes files (wrote (past ++ rs) c)) ≤ stream → Fits past → Fits (past ++ rs)
  fits-all past [] serves resets un within h = subst Fits (sym (append-nil past)) h
  fits-all past (r ∷ rs) serves resets un within h =
      let whole = append_assoc past (r ∷ []) rs in
      subst Fits whole (fits-all (past ++ r ∷ []) rs serves.1 resets.1
      (subst (λ (K : List Rec). is_touched K c ≡ false) (sym whole) un)
      (subst (λ (K : List Rec). length (answer_bytes files (wrote K c)) ≤ stream) (sym whole) within)
      (fits-more past r (fits-one past r serves.0 resets.0 (untouched-before past (r ∷ rs) c un) (within-before past (r ∷ rs) within) h)))

  -- In a journal that serves the answers and resets at the limit, where all answers are within it.
  pub answers-fit : (J : List Rec) → EachMay (MayServeOwned files) [] J → EachMay (MayReset stream) [] J → is_touched J c ≡ false → length (answer_bytes files (wrote J c)) ≤ stream → Fits J
  answers-fit J serves resets un within = fits-all [] J serves resets un within (refl, omega arith, refl)
