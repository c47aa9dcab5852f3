-- A journal whose settle left nothing counts all answers, where only clients 1 to n wrote and none of them is in the line, reset or touched.
use Rattle.std.proofs.Common.{◌≡◌, ◌≤◌, ◌<◌, ◌⊎◌, inl, inr, ℕ, Bool, true, false, List, [], ◌∷◌, ◌++◌, length, Some, None, refl, sym, ap, ◌∙◌, subst, append-nil, append_assoc, length-append, ⊎_elim, arith}
use Rattle.std.proofs.lemmas.Bool.Decides.{nat_tests}
use Rattle.std.proofs.lemmas.List.{nil_from_length}
use Rattle.std.proofs.lemmas.List.Sums.{fold-append}
use Rattle.std.specs.List.{concat, fold, slice_get}
use Rattle.std.specs.Prelude.{nat_le}
use Rattle.lard_law_view.specs.Prelude.{Config, EachMay, Event, FilesAt, IsComplete, IsPrefix, Rec, aborted_step, accepted, accepted_step, answer_bytes, answers, assigned, has_aborted, is_touched, reset_step, room_of, served, served_step, touched_step, verdicts, was_reset, wrote, wrote_step}
use Rattle.lard_answers.proofs.Growing.{answers-nothing, verdicts-nothing}
use Rattle.lard_bound.specs.Bound.{openers, opener_step}
use Rattle.lard_laws.proofs.BackingMarks.{each-at, untouched-before, writes-on}
use Rattle.lard_laws.specs.Lawful.{IsLawful}
use Rattle.lard_laws.specs.Ways.{IsNextGood, MayBeAssigned, good_paths, way_marks}
use Rattle.lard_counts.specs.Ledger.{Ledger, ledger_admitted, blank_ledger, ledger, ledger_step}
use Rattle.lard_laws.specs.Quiet.{IsInLine}
use Rattle.lard_generate_bound.specs.Shares.{numbers_to}
use Rattle.lard_history.proofs.Each.{Each}
use Rattle.lard_journal.specs.declared.rec.Rec.TheVariants as rec
use Rattle.lard_law_settles.specs.Done.{IsDoneWith, MaySettle}
use Rattle.lard_law_settles.specs.DoneSame.{TellsTheSame}
use Rattle.lard_generate_answers.specs.Counted.{CountsAllAnswers, writes}
use Rattle.lard_generate_answers.proofs.Admitting.{IsNoFirst, admitted-few}
use Rattle.lard_generate_answers.proofs.Counting.{bytes-together, requests-together}
use Rattle.lard_generate_answers.proofs.Serving.{Fits, answers-fit}
use Rattle.lard_generate_answers.proofs.Starting.{opened}
use Rattle.lard_generate_answers.proofs.Sums.{IsTo, sum-same}

-- a number is from 1 to n, or not
to-or-not : (n c : ℕ) → IsTo n c ⊎ (IsTo n c → ⊥)
to-or-not n c = go (nat_le 1 c) (nat_le c n) refl refl where
  go : (a b : Bool) → nat_le 1 c ≡ a → nat_le c n ≡ b → IsTo n c ⊎ (IsTo n c → ⊥)
  go true true e f = inl (grind (arith, nat_tests, e), grind (arith, nat_tests, f))
  go false b e f = inr (λ to. let low = to.0 in grind (arith, nat_tests, e, low))
  go true false e f = inr (λ to. let high = to.1 in grind (arith, nat_tests, f, high))

-- ---- nothing written, nothing answered

size-nothing : (files : FilesAt) → length (answer_bytes files []) ≡ 0
size-nothing files = ap (λ (all : List (List ℕ)). length (concat all)) (answers-nothing files)

-- a front of nothing is nothing
front-nothing : {A : Type 0} (xs ys : List A) → IsPrefix xs ys → length ys ≡ 0 → length xs ≡ 0
front-nothing xs ys p none = let all = ap (λ l. length l) p.1 in let both = length-append xs p.0 in omega (arith, all, both, none)

-- What is known of a journal of which clients 1 to n are all.
pub record IsTheirs (files : FilesAt) (stream n : ℕ) (J : List Rec) : Type 0 where
  pub opened_are : openers J ≡ numbers_to n
  pub alone : (c : ℕ) → (IsTo n c → ⊥) → wrote J c ≡ []
  pub untouched : (c : ℕ) → is_touched J c ≡ false
  pub unaborted : (c : ℕ) → has_aborted J c ≡ false
  pub small : (c : ℕ) → IsTo n c → length (answer_bytes files (wrote J c)) ≤ stream

module _ (config : Config) (files : FilesAt) (n : ℕ) (J K : List Rec) (theirs : IsTheirs files config.stream n J) (laws : IsLawful config files K) (same : TellsTheSame config files J K) where
  -- ---- what was served and reset

  untouched-too : (c : ℕ) → is_touched K c ≡ false
  untouched-too c = same.clients.touched c ∙ theirs.untouched c

  within : (c : ℕ) → IsTo n c ⊎ (IsTo n c → ⊥) → length (answer_bytes files (wrote K c)) ≤ config.stream
  within c (inl to) = let w = theirs.small c to in subst (λ (q : List ℕ). length (answer_bytes files q) ≤ config.stream) (sym (same.clients.written c)) w
  within c (inr none) =
      let nothing : length (answer_bytes files (wrote K c)) ≡ 0 = ap (λ (q : List ℕ). length (answer_bytes files q)) (same.clients.written c ∙ theirs.alone c none) ∙ size-nothing files in
      omega (arith, nothing)

  fits : (c : ℕ) → Fits files config.stream c K
  fits c = answers-fit files config.stream c K laws.service laws.resets (untouched-too c) (within c (to-or-not n c))

  not-reset : (c : ℕ) → was_reset J c ≡ false
  not-reset c = sym (same.resets c) ∙ (fits c).2

  -- ---- other clients

  unwritten : (c : ℕ) → (IsTo n c → ⊥) → wrote K c ≡ []
  unwritten c none = same.clients.written c ∙ theirs.alone c none

  served-none : (c : ℕ) → (IsTo n c → ⊥) → served J c ≡ 0
  served-none c none =
      let most = (fits c).1 in
      let nothing : length (answers files (wrote K c)) ≡ 0 = ap (λ (q : List ℕ). length (answers files q)) (unwritten c none) ∙ ap (λ (all : List (List ℕ)). length all) (answers-nothing files) in
      let is = same.responses c in
      omega (arith, most, nothing, is)

  accepted-none : (c : ℕ) → (IsTo n c → ⊥) → length (accepted J c) ≡ 0
  accepted-none c none =
      ap (λ (q : List ℕ). length q) (sym (same.clients.taken c))
      ∙ front-nothing (accepted K c) (answer_bytes files (wrote K c)) (laws.prefix K [] c (sym (append-nil K)) (untouched-too c)) (ap (λ (q : List ℕ). length (answer_bytes files q)) (unwritten c none) ∙ size-nothing files)

  -- nothing is the next request of who writes nothing
  no-first : (c : ℕ) → (IsTo n c → ⊥) → (past later : List Rec) (r : Rec) → K ≡ past ++ r ∷ later → MayBeAssigned files past r → IsNoFirst c r
  no-first c none past later (rec.AssignedFirst d i path home add remove) is may = λ same.
      let step : Rec = rec.AssignedFirst d i path home add remove in
      let next : is_touched past c ≡ false → IsNextGood files (way_marks past c) path = subst (λ (q : ℕ). is_touched past q ≡ false → IsNextGood files (way_marks past q) path) same may in
      let calm : is_touched past c ≡ false = untouched-before past (step ∷ later) c (subst (λ (J : List Rec). is_touched J c ≡ false) is (untouched-too c)) in
      let on = writes-on past (step ∷ later) c in
      let all : wrote past c ++ on.0 ≡ [] = sym on.1 ∙ ap (λ (J : List Rec). wrote J c) (sym is) ∙ unwritten c none in
      let wrote_none : wrote past c ≡ [] = nil_from_length (wrote past c) (omega (arith, length-append (wrote past c) on.0, ap (λ (l : List ℕ). length l) all)) in
      let wanted : good_paths files (verdicts (wrote past c)) ≡ [] = ap (good_paths files) (ap verdicts wrote_none ∙ verdicts-nothing) in
      let no : None ≡ Some path = sym (ap (λ (ps : List (List ℕ)). slice_get ps (length (assigned past c))) wanted) ∙ next calm in
      cc
  no-first c none past later _ is may = tt

  never-first : (c : ℕ) → (IsTo n c → ⊥) → Each (IsNoFirst c) K
  never-first c none = go [] K refl laws.requests where
    go : (past rs : List Rec) → K ≡ past ++ rs → EachMay (MayBeAssigned files) past rs → Each (IsNoFirst c) rs
    go past [] is each = tt
    go past (r ∷ rs) is each = (no-first c none past rs r is each.0, go (past ++ r ∷ []) rs (is ∙ sym (append_assoc past (r ∷ []) rs)) each.1)

  -- ---- the line

  few : ledger_admitted (ledger config J) ≤ n
  few = subst (λ (l : Ledger). ledger_admitted l ≤ n) same.counted (admitted-few config n K laws.admission laws.nodes (λ c. one c (to-or-not n c))) where
    one : (c : ℕ) → IsTo n c ⊎ (IsTo n c → ⊥) → IsTo n c ⊎ Each (IsNoFirst c) K
    one c (inl to) = inl to
    one c (inr none) = inr (never-first c none)

  -- ---- each of them

  module _ (es : List Event) (all : (c : ℕ) → wrote J c ≡ writes c es) (room : n < room_of config) (before : List Rec) (done : ℕ) (is : J ≡ before ++ rec.Settled done ∷ []) (settles : EachMay (MaySettle config files) [] J) where
    -- the closing record changes no fold
    before-same : {A : Type 0} (step : A → Rec → A) (a : A) → ((b : A) → step b (rec.Settled done) ≡ b) → fold step a before ≡ fold step a J
    before-same step a still = sym (ap (fold step a) is ∙ fold-append step a before (rec.Settled done ∷ []) ∙ still (fold step a before))

    not-in-line : (c : ℕ) → IsInLine config before c → ⊥
    not-in-line c h =
        let full = h.1 in
        let counted : ledger_admitted (ledger config before) ≡ ledger_admitted (ledger config J) = ap ledger_admitted (before-same ledger_step (blank_ledger config) (λ l. refl)) in
        omega (arith, full, counted, few, room)

    complete : (c : ℕ) → IsTo n c → IsComplete files before c
    complete c to =
        let there = opened n c before (before-same opener_step [] (λ b. refl) ∙ theirs.opened_are) to in
        let law : IsDoneWith config files before c = each-at (MaySettle config files) J before [] (rec.Settled done) is settles c there in
        ⊎_elim (λ (h : IsComplete files before c). h) (λ (h : IsInLine config before c). absurd (not-in-line c h))
        (law.ends (before-same (touched_step c) false (λ b. refl) ∙ theirs.untouched c) (before-same (aborted_step c) false (λ b. refl) ∙ theirs.unaborted c) (before-same (reset_step c) false (λ b. refl) ∙ not-reset c))

    written-by : (c : ℕ) → wrote before c ≡ writes c es
    written-by c = before-same (wrote_step c) [] (λ b. refl) ∙ all c

    pub counts : CountsAllAnswers files es n J
    counts = record {
      requests_are = requests-together n J (λ c. served-else c (to-or-not n c)) ∙ sum-same (served J) (λ c. length (answers files (writes c es))) n responses;
      accepted_are = bytes-together n J (λ c. accepted-else c (to-or-not n c)) ∙ sum-same (λ c. length (accepted J c)) (λ c. length (answer_bytes files (writes c es))) n bytes;
    } where
      served-else : (c : ℕ) → IsTo n c ⊎ (IsTo n c → ⊥) → IsTo n c ⊎ (served J c ≡ 0)
      served-else c (inl to) = inl to
      served-else c (inr none) = inr (served-none c none)

      accepted-else : (c : ℕ) → IsTo n c ⊎ (IsTo n c → ⊥) → IsTo n c ⊎ (length (accepted J c) ≡ 0)
      accepted-else c (inl to) = inl to
      accepted-else c (inr none) = inr (accepted-none c none)

      responses : (c : ℕ) → IsTo n c → served J c ≡ length (answers files (writes c es))
      responses c to = sym (before-same (served_step c) 0 (λ b. refl)) ∙ (complete c to).responses ∙ ap (λ (q : List ℕ). length (answers files q)) (written-by c)

      bytes : (c : ℕ) → IsTo n c → length (accepted J c) ≡ length (answer_bytes files (writes c es))
      bytes c to = ap (λ (q : List ℕ). length q) (sym (before-same (accepted_step c) [] (λ b. refl)) ∙ (complete c to).all ∙ ap (answer_bytes files) (written-by c))
