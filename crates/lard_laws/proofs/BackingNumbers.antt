-- How many requests for files stand before one of a client, and before each of a batch that was only read.
use Rattle.std.proofs.Common.{◌≡◌, ◌≤◌, ◌<◌, ◌+◌, ◌-◌, ℕ, zero, suc, List, [], ◌∷◌, ◌++◌, length, take, Option, Some, None, refl, sym, ap, ◌∙◌, subst, arith, append-nil}
use Rattle.std.specs.List.{slice_get}
use Rattle.std.proofs.lemmas.List.{length_push}
use Rattle.std.proofs.lemmas.Option.{slice_get_within}
use Rattle.lard_law_view.specs.Prelude.{Entry, FilesAt, Progress, Rec, Verdict, and_path, good_path, named_paths, path_in, verdicts, wrote}
use Rattle.lard_base.specs.declared.place.Via.TheVariants as via
use Rattle.lard_laws.proofs.BackingAssignments.{HasAssignment}
use Rattle.lard_laws.specs.BackingRequests.{IsFor}
use Rattle.lard_laws.specs.BackingTold.{files_before}
use Rattle.lard_laws.proofs.BackingMarks.{writes-on}
use Rattle.lard_laws.proofs.BackingTurns.{AreAt, EachNamed}
use Rattle.lard_laws.specs.WaysUnder.{Assigned, Lies, TakesFirstAssigned, Under}
use Rattle.lard_laws.specs.Ways.{WayMarks, good_paths}
use Rattle.lard_laws.proofs.WaysGoods.{answered-grow, good-append}
use Rattle.lard_rules.specs.declared.stay.Progress.TheVariants as progress

-- ---- as a client writes on

module _ (files : FilesAt) where
  before-more : (q z : List ℕ) (r : ℕ) (path : List ℕ) → IsFor files q r path → files_before files (q ++ z) r ≡ files_before files q r
  before-more q z r path h =
      let within : h.before < length (verdicts q) = slice_get_within (verdicts q) h.before h.verdict h.is in
      let number = h.number in
      ap (λ (vs : List Verdict). length (good_paths files vs)) (answered-grow (r - 1) q z (omega (arith, within, number)))

  -- the assignment of a request stays so
  pub assigned-on : (J rs past : List Rec) (c r : ℕ) (path : List ℕ) (ask : Option ℕ) → IsFor files (wrote J c) r path → HasAssignment files (wrote J c) past c r ask → HasAssignment files (wrote (J ++ rs) c) past c r ask
  assigned-on J rs past c r path ask for h =
      let w = writes-on J rs c in
      subst (λ (q : List ℕ). HasAssignment files q past c r ask) (sym w.1)
      (record { before = h.before; its = h.its; behind = h.behind; split = h.split; made = h.made; assigns = h.assigns; place = h.place ∙ sym (before-more (wrote J c) w.0 r path for); lasts = h.lasts })

-- ---- one request more

take-next : {A : Type 0} (xs : List A) (i j : ℕ) (x : A) → j ≡ i + 1 → slice_get xs i ≡ Some x → take j xs ≡ take i xs ++ x ∷ []
take-next [] i j x is e = let no : None ≡ Some x = e in absurd (let f : ⊥ = cc in f)
take-next (y ∷ xs) i zero x is e = absurd (omega (arith, is))
take-next (y ∷ xs) zero (suc j) x is e =
    let same : y ≡ x = cc in
    let none : j ≡ 0 = omega (arith, is) in
    (λ k. same k ∷ take (none k) xs)
take-next (y ∷ xs) (suc i) (suc j) x is e = ap (λ l. y ∷ l) (take-next xs i j x (omega (arith, is)) e)

abbrev counts : Option (List ℕ) → ℕ
counts None = 0
counts (Some path) = 1

module _ (files : FilesAt) (wrote_now : List ℕ) where
  before-next : (r i : ℕ) (v : Verdict) → r ≡ i + 1 → slice_get (verdicts wrote_now) i ≡ Some v → files_before files wrote_now (r + 1) ≡ files_before files wrote_now r + counts (good_path files v)
  before-next r i v is e =
      let first : i ≡ r - 1 = omega (arith, is) in
      ap (λ (vs : List Verdict). length (good_paths files vs)) (take-next (verdicts wrote_now) i ((r + 1) - 1) v (omega (arith, is)) e)
      ∙ ap length (good-append files (take i (verdicts wrote_now)) (v ∷ []))
      ∙ go (good_paths files (take i (verdicts wrote_now))) (good_path files v)
      ∙ ap (λ (n : ℕ). length (good_paths files (take n (verdicts wrote_now))) + counts (good_path files v)) first where
        go : (xs : List (List ℕ)) (o : Option (List ℕ)) → length (xs ++ and_path o []) ≡ length xs + counts o
        go xs None = ap length (append-nil xs) ∙ (let sum : length xs ≡ length xs + 0 = omega arith in sum)
        go xs (Some path) = length_push xs path

-- ---- a batch

module _ (files : FilesAt) (m : WayMarks) (home lo hi : ℕ) where
  abbrev before : ℕ → ℕ
  before r = files_before files m.wrote r

  -- so many are before it
  abbrev pub IsWithin : ℕ → List ℕ → Type 0
  IsWithin r path = (lo ≤ files_before files m.wrote r) × (files_before files m.wrote r < hi)

  abbrev GoesOn : ℕ → List Entry → Type 0
  GoesOn r es = (us : List Assigned) → Under files home es us → lo ≤ before r + length us → (before r + length us) + length (named_paths files es) ≤ hi → EachNamed files IsWithin r es

  -- those that were only read stand behind all that started
  pub named-within : (r : ℕ) (es : List Entry) (us : List Assigned) → AreAt m.wrote r es → Under files home es us → lo ≤ before r + length us → (before r + length us) + length (named_paths files es) ≤ hi → EachNamed files IsWithin r es
  named-within r [] us at lies low high = tt
  named-within r (e ∷ es) us at lies low high =
      go (good_path files e.verdict) refl e.progress us lies low high (before-next files m.wrote r at.0.0 e.verdict at.0.1 at.0.2) (λ vs l a b. named-within (r + 1) es vs at.1 l a b) where
        unnamed : (path : List ℕ) → None ≡ Some path → IsWithin r path
        unnamed path e = absurd (let f : ⊥ = cc in f)

        more : (o : Option (List ℕ)) → good_path files e.verdict ≡ o → before (r + 1) ≡ before r + counts (good_path files e.verdict) → before (r + 1) ≡ before r + counts o
        more o is next = next ∙ ap (λ (q : Option (List ℕ)). before r + counts q) is

        taken : (path : List ℕ) (p : Progress) (us : List Assigned) → TakesFirstAssigned home path p (λ gs. Under files home es gs) us → lo ≤ before r + length us → (before r + length us) + length (named_paths files es) ≤ hi → before (r + 1) ≡ before r + 1 → GoesOn (r + 1) es
            → EachNamed files IsWithin (r + 1) es
        taken path p [] h low high same later = absurd h
        taken path p (g ∷ gs) h low high same later = later gs h.2 (omega (arith, low, same)) (omega (arith, high, same))

        go : (o : Option (List ℕ)) → good_path files e.verdict ≡ o → (p : Progress) (us : List Assigned) → Lies home p (λ gs. Under files home es gs) us o → lo ≤ before r + length us → (before r + length us) + length (and_path (path_in files e p) (named_paths files es)) ≤ hi
            → before (r + 1) ≡ before r + counts (good_path files e.verdict) → GoesOn (r + 1) es → ((path : List ℕ) → path_in files e p ≡ Some path → IsWithin r path) × EachNamed files IsWithin (r + 1) es
        go None is progress.Named us lies low high next later = let no : progress.Named ≡ progress.Ready via.Own = lies.0 in absurd (let f : ⊥ = cc in f)
        go None is progress.Reading us lies low high next later = let no : progress.Reading ≡ progress.Ready via.Own = lies.0 in absurd (let f : ⊥ = cc in f)
        go None is (progress.Awaited from) us lies low high next later = let no : progress.Awaited from ≡ progress.Ready via.Own = lies.0 in absurd (let f : ⊥ = cc in f)
        go None is (progress.Ready way) us lies low high next later = let same : before (r + 1) ≡ before r + 0 = more None is next in (unnamed, later us lies.1 (omega (arith, low, same)) (omega (arith, high, same)))
        go (Some path) is progress.Named us lies low high next later =
            let same : before (r + 1) ≡ before r + 1 = more (Some path) is next in
            let none : length us ≡ 0 = ap length lies.0 in
            let most : (before r + length us) + length (path ∷ named_paths files es) ≤ hi = subst (λ (q : Option (List ℕ)). (before r + length us) + length (and_path q (named_paths files es)) ≤ hi) is high in
            (λ its found. (omega (arith, low, none), omega (arith, most)), later [] lies.1 (omega (arith, low, none, same)) (omega (arith, most, none, same)))
        go (Some path) is progress.Reading us lies low high next later = (unnamed, taken path progress.Reading us lies low high (more (Some path) is next) later)
        go (Some path) is (progress.Awaited from) us lies low high next later = (unnamed, taken path (progress.Awaited from) us lies low high (more (Some path) is next) later)
        go (Some path) is (progress.Ready way) us lies low high next later = (unnamed, taken path (progress.Ready way) us lies low high (more (Some path) is next) later)
