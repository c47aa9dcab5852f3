-- What a client wrote, record by record, and what a lawful journal says of each record of a connection.
use Rattle.std.proofs.Common.{◌≡◌, ℕ, Bool, true, false, cond, nat_eq, List, [], ◌∷◌, ◌++◌, Some, refl, sym, ap, ◌∙◌, subst, append_assoc, append-nil}
use Rattle.std.proofs.lemmas.Bool.{both_ways}
use Rattle.std.proofs.lemmas.List.Sums.{fold-append}
use Rattle.lard_law_view.specs.Prelude.{EachMay, FilesAt, Rec, is_touched, touched_step, whose, wrote, wrote_step}
use Rattle.lard_laws.specs.BackingRequests.{IsFor}
use Rattle.lard_laws.specs.BackingState.{MayBack}
use Rattle.lard_laws.proofs.BackingRows.{WritesOn, for-more}
use Rattle.lard_laws.specs.Ways.{way_marks}
use Rattle.lard_journal.specs.declared.rec.Rec.TheVariants as rec

-- ---- one record more

touched-more : (J : List Rec) (r : Rec) (c : ℕ) → is_touched (J ++ r ∷ []) c ≡ touched_step c (is_touched J c) r
touched-more J r c = fold-append (touched_step c) false J (r ∷ [])

-- what is untouched was untouched before
untouched-one : (J : List Rec) (r : Rec) (c : ℕ) → is_touched (J ++ r ∷ []) c ≡ false → is_touched J c ≡ false
untouched-one J (rec.Injected d) c u = go (nat_eq d c) refl where
  go : (b : Bool) → nat_eq d c ≡ b → is_touched J c ≡ false
  go true e = absurd (both_ways (is_touched (J ++ rec.Injected d ∷ []) c) u (touched-more J (rec.Injected d) c ∙ ap (λ b. cond b true (is_touched J c)) e))
  go false e = sym (touched-more J (rec.Injected d) c ∙ ap (λ b. cond b true (is_touched J c)) e) ∙ u
untouched-one J r c u = sym (touched-more J r c) ∙ u

pub untouched-before : (J rs : List Rec) (c : ℕ) → is_touched (J ++ rs) c ≡ false → is_touched J c ≡ false
untouched-before J [] c u = subst (λ (K : List Rec). is_touched K c ≡ false) (append-nil J) u
untouched-before J (r ∷ rs) c u = untouched-one J r c (untouched-before (J ++ r ∷ []) rs c (subst (λ (K : List Rec). is_touched K c ≡ false) (sym (append_assoc J (r ∷ []) rs)) u))

-- a client only writes on
writes-step : (c : ℕ) (bytes : List ℕ) (r : Rec) → WritesOn bytes (wrote_step c bytes r)
writes-step c bytes (rec.Wrote d more) = go (nat_eq d c) where
  go : (b : Bool) → WritesOn bytes (cond b (bytes ++ more) bytes)
  go true = (more, refl)
  go false = ([], sym (append-nil bytes))
writes-step c bytes _ = ([], sym (append-nil bytes))

writes-one : (J : List Rec) (r : Rec) (c : ℕ) → WritesOn (wrote J c) (wrote (J ++ r ∷ []) c)
writes-one J r c = subst (WritesOn (wrote J c)) (sym (fold-append (wrote_step c) [] J (r ∷ []))) (writes-step c (wrote J c) r)

pub writes-on : (J rs : List Rec) (c : ℕ) → WritesOn (wrote J c) (wrote (J ++ rs) c)
writes-on J [] c = ([], ap (λ (K : List Rec). wrote K c) (append-nil J) ∙ sym (append-nil (wrote J c)))
writes-on J (r ∷ rs) c =
    let first = writes-one J r c in
    let later = writes-on (J ++ r ∷ []) rs c in
    (first.0 ++ later.0, ap (λ (K : List Rec). wrote K c) (sym (append_assoc J (r ∷ []) rs)) ∙ later.1 ∙ ap (λ (l : List ℕ). l ++ later.0) first.1 ∙ append_assoc (wrote J c) first.0 later.0)

-- what a request is for stays so
pub for-later : (files : FilesAt) (J rs : List Rec) (c r : ℕ) (path : List ℕ) → IsFor files (wrote J c) r path → IsFor files (wrote (J ++ rs) c) r path
for-later files J rs c r path h = let w = writes-on J rs c in subst (λ (q : List ℕ). IsFor files q r path) (sym w.1) (for-more files (wrote J c) w.0 r path h)

-- ---- a law of what a journal marks

-- each record of a connection that the schedule did not touch may stand by what is marked of that connection
abbrev pub MayMark : FilesAt → List Rec → Rec → Type 0
MayMark files past r = (c : ℕ) → whose r ≡ Some c → is_touched past c ≡ false → MayBack files (way_marks past c) r

-- what stands in a lawful journal may stand
pub each-at : (may : List Rec → Rec → Type 0) (J a b : List Rec) (r : Rec) → J ≡ a ++ r ∷ b → EachMay may [] J → may a r
each-at may J a b r is e = go [] a (subst (EachMay may []) is e) where
  go : (past a : List Rec) → EachMay may past (a ++ r ∷ b) → may (past ++ a) r
  go past [] h = subst (λ (K : List Rec). may K r) (sym (append-nil past)) h.0
  go past (x ∷ a) h = subst (λ (K : List Rec). may K r) (append_assoc past (x ∷ []) a) (go (past ++ x ∷ []) a h.1)
