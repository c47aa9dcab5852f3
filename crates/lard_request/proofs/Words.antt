-- What the small readers of specs/Head.antt find: a run, a word, a line end, a version.
use Rattle.std.proofs.Common.{◌≡◌, ℕ, zero, suc, ◌≤◌, ◌<◌, Bool, true, false, ◌&&◌, IsTrue, List, [], ◌∷◌, ◌++◌, length, take, drop, Some, None, cond, refl, sym, ap, ◌∙◌, subst, arith, nat_eq, nat_lt, codes, inl, inr, ◌⊎◌}
use Rattle.std.proofs.lemmas.List.Elements.{All-cons, All-nil, All-head, All-tail}
use Rattle.std.proofs.lemmas.Bool.{ltb-true, eqb-true, false≢true}
use Rattle.std.proofs.lemmas.Bool.Decides.{nat_tests, Decides-eqb}
use Rattle.std.proofs.lemmas.Slice.Eq.{starts_is}
use Rattle.std.specs.List.{starts_with}
use lib.Pointwise.{pointwise}
use Rattle.httparse.specs.Grammar.{AllPass, LineEnd, crlf, lf, print_end, print_version}
use Rattle.httparse.specs.Pieces.{Stops, is_newline, Word, Newline, Version}
use Rattle.lard_request.specs.Head.{Read, and_then, run, stopped, ended_word, word, newline, version}

-- ---- one reading after another

-- what a first reading found, and the second went on from
pub record Bound {A B : Type 0} (found : Read A) (next : A → List ℕ → Read B) (y : B × List ℕ) : Type 0 where
  pub value : A
  pub rest : List ℕ
  pub first : found ≡ Some (value, rest)
  pub second : next value rest ≡ Some y

pub bound : {A B : Type 0} (found : Read A) (next : A → List ℕ → Read B) (y : B × List ℕ) → and_then found next ≡ Some y → Bound found next y
bound None next y e = cc
bound (Some x) next y e = record { value = x.0; rest = x.1; first = refl; second = e }

-- and the other way round
pub bind : {A B : Type 0} (found : Read A) (next : A → List ℕ → Read B) (a : A) (rest : List ℕ) → found ≡ Some (a, rest) → and_then found next ≡ next a rest
bind found next a rest e = ap (λ r. and_then r next) e

-- two findings that are equal are so in their parts
pub same_parts : {A : Type 0} (a b : A) (s t : List ℕ) → ◌≡◌ {A = Read A} (Some (a, s)) (Some (b, t)) → (a ≡ b) × (s ≡ t)
same_parts {A} a b s t e = let p : ◌≡◌ {A = A × List ℕ} (a, s) (b, t) = cc in (ap (λ (x : A × List ℕ). x.0) p, ap (λ (x : A × List ℕ). x.1) p)

-- ---- runs

module _ (test : ℕ → Bool) where
  -- a run passes the test, and what is left stands behind it
  pub run-parts : (text : List ℕ) → AllPass test (run test text).0 × (text ≡ (run test text).0 ++ (run test text).1)
  unfolding run
  run-parts [] = (All-nil (λ b. IsTrue (test b)), refl)
  run-parts (b ∷ rest) = go (run test rest) (run-parts rest) (test b) refl where
    go : (more : List ℕ × List ℕ) → AllPass test more.0 × (rest ≡ more.0 ++ more.1) → (t : Bool) → test b ≡ t
        → AllPass test (cond {A = List ℕ × List ℕ} t (b ∷ more.0, more.1) ([], b ∷ rest)).0
        × (b ∷ rest ≡ (cond {A = List ℕ × List ℕ} t (b ∷ more.0, more.1) ([], b ∷ rest)).0 ++ (cond {A = List ℕ × List ℕ} t (b ∷ more.0, more.1) ([], b ∷ rest)).1)
    go more ih true e = (All-cons (λ b. IsTrue (test b)) b more.0 e ih.0, ap (λ r. b ∷ r) ih.1)
    go more ih false e = (All-nil (λ b. IsTrue (test b)), refl)

  -- it takes all that passes, up to a byte that does not
  pub run-stops : (passes rest : List ℕ) → AllPass test passes → Stops test rest → run test (passes ++ rest) ≡ (passes, rest)
  unfolding run
  run-stops [] [] all stops = absurd stops
  run-stops [] (b ∷ rest) all stops = ap (λ t. cond {A = List ℕ × List ℕ} t (b ∷ (run test rest).0, (run test rest).1) ([], b ∷ rest)) stops
  run-stops (b ∷ passes) rest all stops =
      ap (λ t. cond {A = List ℕ × List ℕ} t (b ∷ (run test (passes ++ rest)).0, (run test (passes ++ rest)).1) ([], b ∷ (passes ++ rest))) (All-head (λ b. IsTrue (test b)) b passes all)
      ∙ ap (λ (more : List ℕ × List ℕ). (b ∷ more.0, more.1)) (run-stops passes rest (All-tail (λ b. IsTrue (test b)) b passes all) stops)

-- ---- words

stopped-at : (stop : ℕ) (f g w rest : List ℕ) → stopped stop f g ≡ Some (w, rest) → (f ≡ w) × (g ≡ stop ∷ rest)
stopped-at stop f [] w rest e = cc
stopped-at stop f (b ∷ g) w rest e = go (nat_eq b stop) refl e where
  go : (t : Bool) → nat_eq b stop ≡ t → cond {A = Read (List ℕ)} t (Some (f, g)) None ≡ Some (w, rest) → (f ≡ w) × (b ∷ g ≡ stop ∷ rest)
  go true s h =
      let same : (f ≡ w) × (g ≡ rest) = same_parts f w g rest h in
      let byte : b ≡ stop = eqb-true b stop s in (same.0, cc)
  go false s h = cc

ended-at : (stop : ℕ) (found : List ℕ × List ℕ) (w rest : List ℕ) → ended_word stop found ≡ Some (w, rest) → (0 < length found.0) × (found.0 ≡ w) × (found.1 ≡ stop ∷ rest)
ended-at stop found w rest e = go (nat_lt 0 (length found.0)) refl e where
  go : (t : Bool) → nat_lt 0 (length found.0) ≡ t → cond {A = Read (List ℕ)} t (stopped stop found.0 found.1) None ≡ Some (w, rest)
      → (0 < length found.0) × (found.0 ≡ w) × (found.1 ≡ stop ∷ rest)
  go true s h = let parts : (found.0 ≡ w) × (found.1 ≡ stop ∷ rest) = stopped-at stop found.0 found.1 w rest h in (ltb-true 0 (length found.0) s, parts.0, parts.1)
  go false s h = cc

pub word-sound : (test : ℕ → Bool) (stop : ℕ) (text w rest : List ℕ) → word test stop text ≡ Some (w, rest) → Word test stop w text rest
unfolding word
word-sound test stop text w rest e =
    let at : (0 < length (run test text).0) × ((run test text).0 ≡ w) × ((run test text).1 ≡ stop ∷ rest) = ended-at stop (run test text) w rest e in
    let parts : AllPass test (run test text).0 × (text ≡ (run test text).0 ++ (run test text).1) = run-parts test text in
    (subst (λ (v : List ℕ). 0 < length v) at.1 at.0, subst (λ (v : List ℕ). AllPass test v) at.1 parts.0, cc)

ended-more : (stop : ℕ) (w rest : List ℕ) → 0 < length w → ended_word stop (w, stop ∷ rest) ≡ Some (w, rest)
ended-more stop w rest some =
    let t : nat_lt 0 (length w) ≡ true = grind (arith, nat_tests) in
    let s : nat_eq stop stop ≡ true = grind (arith, nat_tests) in
    ap (λ b. cond {A = Read (List ℕ)} b (stopped stop w (stop ∷ rest)) None) t ∙ ap (λ b. cond {A = Read (List ℕ)} b (Some (w, rest)) None) s

pub word-complete : (test : ℕ → Bool) (stop : ℕ) (text w rest : List ℕ) → test stop ≡ false → Word test stop w text rest → word test stop text ≡ Some (w, rest)
unfolding word
word-complete test stop text w rest fails x = ap (λ v. ended_word stop (run test v)) x.2 ∙ ap (ended_word stop) (run-stops test w (stop ∷ rest) x.1 fails) ∙ ended-more stop w rest x.0

-- ---- line ends

starts : (text p : List ℕ) → starts_with nat_eq text p ≡ true → text ≡ p ++ drop (length p) text
starts text p e = (starts_is Decides-eqb text p (starts_with nat_eq text p) refl).0 e

pub newline-sound : (text : List ℕ) (end : LineEnd) (rest : List ℕ) → newline text ≡ Some (end, rest) → Newline end text rest
unfolding newline
newline-sound text end rest e = go (starts_with nat_eq text (13 ∷ 10 ∷ [])) refl (starts_with nat_eq text (10 ∷ [])) refl e where
  go : (t : Bool) → starts_with nat_eq text (13 ∷ 10 ∷ []) ≡ t → (s : Bool) → starts_with nat_eq text (10 ∷ []) ≡ s
      → cond {A = Read LineEnd} t (Some (crlf, drop 2 text)) (cond {A = Read LineEnd} s (Some (lf, drop 1 text)) None) ≡ Some (end, rest) → Newline end text rest
  go true a s b h =
      let same : (crlf ≡ end) × (drop 2 text ≡ rest) = same_parts crlf end (drop 2 text) rest h in
      starts text (13 ∷ 10 ∷ []) a ∙ ap (λ r. 13 ∷ 10 ∷ r) same.1 ∙ ap (λ v. print_end v ++ rest) same.0
  go false a true b h =
      let same : (lf ≡ end) × (drop 1 text ≡ rest) = same_parts lf end (drop 1 text) rest h in
      starts text (10 ∷ []) b ∙ ap (λ r. 10 ∷ r) same.1 ∙ ap (λ v. print_end v ++ rest) same.0
  go false a false b h = cc

not_newline : (b : ℕ) → (b ≡ 13) ⊎ (b ≡ 10) → is_newline b ≡ false → ⊥
not_newline b is stops = elim is [ inl e ↦ false≢true (sym stops ∙ ap is_newline e) | inr e ↦ false≢true (sym stops ∙ ap is_newline e) ]

newline-printed : (end : LineEnd) (rest : List ℕ) → newline (print_end end ++ rest) ≡ Some (end, rest)
unfolding newline
newline-printed crlf rest = refl
newline-printed lf rest = refl

pub newline-complete : (text : List ℕ) (end : LineEnd) (rest : List ℕ) → Newline end text rest → newline text ≡ Some (end, rest)
newline-complete text end rest e = ap newline e ∙ newline-printed end rest

-- where neither CR nor LF comes next, no line ends
pub newline-none : (text : List ℕ) → Stops is_newline text → newline text ≡ None
unfolding newline
newline-none [] stops = absurd stops
newline-none (b ∷ rest) stops = go (nat_eq 13 b) refl (nat_eq 10 b) refl where
  go : (t : Bool) → nat_eq 13 b ≡ t → (s : Bool) → nat_eq 10 b ≡ s
      → cond {A = Read LineEnd} (t && pointwise nat_eq (10 ∷ []) (take 1 rest)) (Some (crlf, drop 1 rest)) (cond {A = Read LineEnd} (s && pointwise nat_eq [] (take 0 rest)) (Some (lf, drop 0 rest)) None) ≡ None
  go true a s h = absurd (not_newline b (inl (sym (eqb-true 13 b a))) stops)
  go false a true h = absurd (not_newline b (inr (sym (eqb-true 10 b h))) stops)
  go false a false h = refl

-- ---- versions

pub version-sound : (text : List ℕ) (minor : ℕ) (rest : List ℕ) → version text ≡ Some (minor, rest) → Version minor text rest
unfolding version
version-sound text minor rest e = go (starts_with nat_eq text (codes "HTTP/1.0")) refl (starts_with nat_eq text (codes "HTTP/1.1")) refl e where
  go : (t : Bool) → starts_with nat_eq text (codes "HTTP/1.0") ≡ t → (s : Bool) → starts_with nat_eq text (codes "HTTP/1.1") ≡ s
      → cond {A = Read ℕ} t (Some (0, drop 8 text)) (cond {A = Read ℕ} s (Some (1, drop 8 text)) None) ≡ Some (minor, rest) → Version minor text rest
  go true a s b h =
      let same : (0 ≡ minor) × (drop 8 text ≡ rest) = same_parts 0 minor (drop 8 text) rest h in
      (omega (arith, same.0), starts text (codes "HTTP/1.0") a ∙ ap (λ r. codes "HTTP/1.0" ++ r) same.1 ∙ ap (λ v. print_version v ++ rest) same.0)
  go false a true b h =
      let same : (1 ≡ minor) × (drop 8 text ≡ rest) = same_parts 1 minor (drop 8 text) rest h in
      (omega (arith, same.0), starts text (codes "HTTP/1.1") b ∙ ap (λ r. codes "HTTP/1.1" ++ r) same.1 ∙ ap (λ v. print_version v ++ rest) same.0)
  go false a false b h = cc

version-printed : (minor : ℕ) (rest : List ℕ) → minor ≤ 1 → version (print_version minor ++ rest) ≡ Some (minor, rest)
unfolding version
version-printed zero rest small = refl
version-printed (suc zero) rest small = refl
version-printed (suc (suc n)) rest small = absurd (omega arith)

pub version-complete : (text : List ℕ) (minor : ℕ) (rest : List ℕ) → Version minor text rest → version text ≡ Some (minor, rest)
version-complete text minor rest x = ap version x.1 ∙ version-printed minor rest x.0
