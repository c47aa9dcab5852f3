-- What is assigned goes on as the good requests do, record by record and at every moment.
use Rattle.std.proofs.Common.{◌≡◌, ◌-◌, ℕ, List, [], ◌∷◌, ◌++◌, map, length, take, drop, Bool, true, false, cond, Some, None, refl, sym, ap, ◌∙◌, subst, append_assoc, append-nil, nat_eq}
use Rattle.std.specs.List.{slice_get}
use Rattle.std.proofs.lemmas.Bool.{both_ways, cond_both, eqb-true}
use Rattle.std.proofs.lemmas.List.{length-map, map-append, take-append-drop}
use Rattle.std.proofs.lemmas.List.Sums.{fold-append}
use Rattle.lard_law_view.specs.Prelude.{Client, EachMay, FilesAt, Front, IsPrefix, Node, Place, Rec, assigned, assignments, assignments_step, assignments_taken, is_touched, touched_step, verdicts, wrote, wrote_step}
use Rattle.lard_answers.proofs.Growing.{IsPrefix-trans}
use Rattle.lard_laws.specs.Ways.{AssignsAPrefix, MayBeAssigned, good_paths}
use Rattle.lard_laws.proofs.WaysGoods.{front-of, goods-paths, wanted-grow}
use Rattle.lard_history.proofs.Each.{each_then}
use Rattle.lard_history.specs.Journal.{Assignments, without_last}
use Rattle.lard_journal.specs.declared.rec.Rec.TheVariants as rec

abbrev Chosen : Type 0
Chosen = List (List ℕ × ℕ)

abbrev paths_of : Chosen → List (List ℕ)
paths_of chosen = map (λ a. a.0) chosen

-- the next of the whole goes behind the first
next-front : (xs whole : List (List ℕ)) (y : List ℕ) → IsPrefix xs whole → slice_get whole (length xs) ≡ Some y → IsPrefix (xs ++ y ∷ []) whole
next-front xs whole y h e = go h.0 h.1 where
  behind : (xs ys : List (List ℕ)) → slice_get (xs ++ ys) (length xs) ≡ slice_get ys 0
  behind [] ys = refl
  behind (x ∷ xs) ys = behind xs ys

  go : (rest : List (List ℕ)) → whole ≡ xs ++ rest → IsPrefix (xs ++ y ∷ []) whole
  go [] is = let none : None ≡ Some y = sym (behind xs []) ∙ ap (λ l. slice_get l (length xs)) (sym is) ∙ e in absurd (let f : ⊥ = cc in f)
  go (z ∷ rest) is =
      let same : Some z ≡ Some y = sym (behind xs (z ∷ rest)) ∙ ap (λ l. slice_get l (length xs)) (sym is) ∙ e in
      let first : z ≡ y = cc in
      (rest, is ∙ ap (λ w. xs ++ w ∷ rest) first ∙ sym (append_assoc xs (y ∷ []) rest))

-- where a place takes the connection, what is left of the assignments goes on as before
pub taken-front : (place : Place) (s : Assignments) (whole : List (List ℕ)) → IsPrefix (paths_of s.list) whole → IsPrefix (paths_of (assignments_taken place s).list) whole
taken-front Front s whole h = cond_both s.fresh (without_last s.list) s.list (λ (l : Chosen). IsPrefix (paths_of l) whole) (λ t. less (length s.list - 1)) (λ t. h) where
  less : (n : ℕ) → IsPrefix (paths_of (take n s.list)) whole
  less n = front-of (paths_of (take n s.list)) (paths_of (drop n s.list)) whole
      (subst (λ (l : List (List ℕ)). IsPrefix l whole) (ap paths_of (sym (take-append-drop n s.list)) ∙ map-append (λ a. a.0) (take n s.list) (drop n s.list)) h)
taken-front (Node n) s whole h = h
taken-front (Client d) s whole h = h

module _ (files : FilesAt) where
  wrote-more : (J : List Rec) (r : Rec) (c : ℕ) → wrote (J ++ r ∷ []) c ≡ wrote_step c (wrote J c) r
  wrote-more J r c = fold-append (wrote_step c) [] J (r ∷ [])

  assignments-more : (J : List Rec) (r : Rec) (c : ℕ) → assignments (J ++ r ∷ []) c ≡ assignments_step c (assignments J c) r
  assignments-more J r c = fold-append (assignments_step c) (record { list = []; fresh = false }) J (r ∷ [])

  touched-more : (J : List Rec) (r : Rec) (c : ℕ) → is_touched (J ++ r ∷ []) c ≡ touched_step c (is_touched J c) r
  touched-more J r c = fold-append (touched_step c) false J (r ∷ [])

  abbrev wanted_of : List ℕ → List (List ℕ)
  wanted_of q = good_paths files (verdicts q)

  abbrev IsInOrder : List Rec → ℕ → Type 0
  IsInOrder J c = is_touched J c ≡ false → IsPrefix (paths_of (assigned J c)) (wanted_of (wrote J c))

  same_order : (J : List Rec) (r : Rec) (c : ℕ) (a : Chosen) (w : List ℕ) → (assignments_step c (assignments J c) r).list ≡ a → wrote_step c (wrote J c) r ≡ w → touched_step c (is_touched J c) r ≡ is_touched J c
      → (is_touched J c ≡ false → IsPrefix (paths_of a) (wanted_of w)) → IsInOrder (J ++ r ∷ []) c
  same_order J r c a w e f t front u =
      subst (λ (xs : Chosen). IsPrefix (paths_of xs) (wanted_of (wrote (J ++ r ∷ []) c))) (sym (ap (λ (s : Assignments). s.list) (assignments-more J r c) ∙ e))
      (subst (λ (xs : List ℕ). IsPrefix (paths_of a) (wanted_of xs)) (sym (wrote-more J r c ∙ f)) (front (sym (touched-more J r c ∙ t) ∙ u)))

  -- one more is assigned
  assigns-more : (J : List Rec) (c : ℕ) (path : List ℕ) (n : ℕ) → (is_touched J c ≡ false → slice_get (wanted_of (wrote J c)) (length (assigned J c)) ≡ Some path) → IsInOrder J c → is_touched J c ≡ false → IsPrefix (paths_of (assigned J c ++ (path, n) ∷ [])) (wanted_of (wrote J c))
  assigns-more J c path n may front u =
      subst (λ (l : List (List ℕ)). IsPrefix l (wanted_of (wrote J c))) (sym (map-append (λ a. a.0) (assigned J c) ((path, n) ∷ [])))
      (next-front (paths_of (assigned J c)) (wanted_of (wrote J c)) path (front u) (ap (slice_get (wanted_of (wrote J c))) (length-map (assigned J c) (λ a. a.0)) ∙ may u))

  one_more : (J : List Rec) (r : Rec) (c : ℕ) → MayBeAssigned files J r → IsInOrder J c → IsInOrder (J ++ r ∷ []) c
  one_more J (rec.AssignedFirst d i path n add remove) c may front = go (nat_eq d c) refl where
    go : (b : Bool) → nat_eq d c ≡ b → IsInOrder (J ++ rec.AssignedFirst d i path n add remove ∷ []) c
    go true e = same_order J (rec.AssignedFirst d i path n add remove) c (assigned J c ++ (path, n) ∷ []) (wrote J c) (ap (λ b. (cond b (record { list = assigned J c ++ (path, n) ∷ []; fresh = true }) (assignments J c)).list) e) refl refl
        (assigns-more J c path n (subst (λ q. MayBeAssigned files J (rec.AssignedFirst q i path n add remove)) (eqb-true d c e) may) front)
    go false e = same_order J (rec.AssignedFirst d i path n add remove) c (assigned J c) (wrote J c) (ap (λ b. (cond b (record { list = assigned J c ++ (path, n) ∷ []; fresh = true }) (assignments J c)).list) e) refl refl front
  one_more J (rec.AssignedLater d i path n add size queue) c may front = go (nat_eq d c) refl where
    go : (b : Bool) → nat_eq d c ≡ b → IsInOrder (J ++ rec.AssignedLater d i path n add size queue ∷ []) c
    go true e = same_order J (rec.AssignedLater d i path n add size queue) c (assigned J c ++ (path, n) ∷ []) (wrote J c) (ap (λ b. (cond b (record { list = assigned J c ++ (path, n) ∷ []; fresh = false }) (assignments J c)).list) e) refl refl
        (assigns-more J c path n (subst (λ q. MayBeAssigned files J (rec.AssignedLater q i path n add size queue)) (eqb-true d c e) may) front)
    go false e = same_order J (rec.AssignedLater d i path n add size queue) c (assigned J c) (wrote J c) (ap (λ b. (cond b (record { list = assigned J c ++ (path, n) ∷ []; fresh = false }) (assignments J c)).list) e) refl refl front
  one_more J (rec.Took place d epoch) c may front = go (nat_eq d c) refl where
    go : (b : Bool) → nat_eq d c ≡ b → IsInOrder (J ++ rec.Took place d epoch ∷ []) c
    go true e = same_order J (rec.Took place d epoch) c (assignments_taken place (assignments J c)).list (wrote J c) (ap (λ b. (cond b (assignments_taken place (assignments J c)) (assignments J c)).list) e) refl refl
        (λ u. taken-front place (assignments J c) (wanted_of (wrote J c)) (front u))
    go false e = same_order J (rec.Took place d epoch) c (assigned J c) (wrote J c) (ap (λ b. (cond b (assignments_taken place (assignments J c)) (assignments J c)).list) e) refl refl front
  one_more J (rec.Wrote d bytes) c may front = go (nat_eq d c) refl where
    go : (b : Bool) → nat_eq d c ≡ b → IsInOrder (J ++ rec.Wrote d bytes ∷ []) c
    go true e = same_order J (rec.Wrote d bytes) c (assigned J c) (wrote J c ++ bytes) refl (ap (λ b. cond b (wrote J c ++ bytes) (wrote J c)) e) refl
        (λ u. IsPrefix-trans (paths_of (assigned J c)) (wanted_of (wrote J c)) (wanted_of (wrote J c ++ bytes)) (front u) (wanted-grow files (wrote J c) bytes))
    go false e = same_order J (rec.Wrote d bytes) c (assigned J c) (wrote J c) refl (ap (λ b. cond b (wrote J c ++ bytes) (wrote J c)) e) refl front
  one_more J (rec.Injected d) c may front = go (nat_eq d c) refl where
    go : (b : Bool) → nat_eq d c ≡ b → IsInOrder (J ++ rec.Injected d ∷ []) c
    go true e = λ u. absurd (both_ways (is_touched (J ++ rec.Injected d ∷ []) c) u (touched-more J (rec.Injected d) c ∙ ap (λ b. cond b true (is_touched J c)) e))
    go false e = same_order J (rec.Injected d) c (assigned J c) (wrote J c) refl refl (ap (λ b. cond b true (is_touched J c)) e) front
  one_more J r c may front = same_order J r c (assigned J c) (wrote J c) refl refl refl front

  all_more : (J rs : List Rec) (c : ℕ) → EachMay (MayBeAssigned files) J rs → IsInOrder J c → IsInOrder (J ++ rs) c
  all_more J [] c each front = subst (λ (K : List Rec). IsInOrder K c) (sym (append-nil J)) front
  all_more J (r ∷ rs) c each front = subst (λ (K : List Rec). IsInOrder K c) (append_assoc J (r ∷ []) rs) (all_more (J ++ r ∷ []) rs c each.1 (one_more J r c each.0 front))

  pub assigns-a-prefix : (J : List Rec) → EachMay (MayBeAssigned files) [] J → AssignsAPrefix files J
  assigns-a-prefix J each past later c is u =
      subst (IsPrefix (paths_of (assigned past c))) (sym (goods-paths files (wrote past c)))
      (all_more [] past c (each_then (MayBeAssigned files) J past later is each) (λ v. (wanted_of [], refl)) u)
