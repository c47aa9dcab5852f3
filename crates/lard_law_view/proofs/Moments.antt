-- What clients accept goes on as the answers do, record by record and at every moment.
use Rattle.std.proofs.Common.{◌≡◌, ℕ, List, [], ◌∷◌, ◌++◌, Bool, true, false, cond, refl, sym, ap, ◌∙◌, subst, append_assoc, append-nil, nat_eq}
use Rattle.std.proofs.lemmas.Bool.{both_ways, eqb-true}
use Rattle.std.proofs.lemmas.List.Sums.{fold-append}
use Rattle.lard_law_view.specs.Prelude.{AcceptsOnlyAnswers, AreClientNotes, EachMay, FilesAt, IsPrefix, IsTrueAfter, MayAccept, Rec, Tale, accepted, accepted_in, accepted_step, answer_bytes, is_touched, tale, tale_step, touched_step, wrote, wrote_step}
use Rattle.lard_answers.proofs.Growing.{IsPrefix-trans, answer_bytes-grow}
use Rattle.lard_history.proofs.Each.{each_then}
use Rattle.lard_history.proofs.Tales.{accepted-tale, wrote-tale}
use Rattle.lard_journal.specs.declared.rec.Rec.TheVariants as rec
use Rattle.lard_law_view.specs.WhileUntouched.{TellsBy}
use Rattle.lard_law_view.proofs.Notes.{same-number}

module _ (files : FilesAt) where
  wrote-more : (J : List Rec) (r : Rec) (c : ℕ) → wrote (J ++ r ∷ []) c ≡ wrote_step c (wrote J c) r
  wrote-more J r c = fold-append (wrote_step c) [] J (r ∷ [])

  accepted-more : (J : List Rec) (r : Rec) (c : ℕ) → accepted (J ++ r ∷ []) c ≡ accepted_step c (accepted J c) r
  accepted-more J r c = fold-append (accepted_step c) [] J (r ∷ [])

  touched-more : (J : List Rec) (r : Rec) (c : ℕ) → is_touched (J ++ r ∷ []) c ≡ touched_step c (is_touched J c) r
  touched-more J r c = fold-append (touched_step c) false J (r ∷ [])

  -- what a client accepted is answered, as long as the schedule did not touch it
  abbrev IsAnswered : List Rec → ℕ → Type 0
  IsAnswered J c = is_touched J c ≡ false → IsPrefix (accepted J c) (answer_bytes files (wrote J c))

  same_answered : (J : List Rec) (r : Rec) (c : ℕ) (a w : List ℕ) → accepted_step c (accepted J c) r ≡ a → wrote_step c (wrote J c) r ≡ w → touched_step c (is_touched J c) r ≡ is_touched J c
      → (is_touched J c ≡ false → IsPrefix a (answer_bytes files w)) → IsAnswered (J ++ r ∷ []) c
  same_answered J r c a w e f t front u =
      subst (λ (xs : List ℕ). IsPrefix xs (answer_bytes files (wrote (J ++ r ∷ []) c))) (sym (accepted-more J r c ∙ e))
      (subst (λ (xs : List ℕ). IsPrefix a (answer_bytes files xs)) (sym (wrote-more J r c ∙ f)) (front (sym (touched-more J r c ∙ t) ∙ u)))

  one_more : (J : List Rec) (r : Rec) (c : ℕ) → MayAccept files J r → IsAnswered J c → IsAnswered (J ++ r ∷ []) c
  one_more J (rec.Accepted d bytes) c may front = go (nat_eq d c) refl where
    go : (b : Bool) → nat_eq d c ≡ b → IsAnswered (J ++ rec.Accepted d bytes ∷ []) c
    go true e = same_answered J (rec.Accepted d bytes) c (accepted J c ++ bytes) (wrote J c) (ap (λ b. cond b (accepted J c ++ bytes) (accepted J c)) e) refl refl
        (subst (λ k. MayAccept files J (rec.Accepted k bytes)) (eqb-true d c e) may)
    go false e = same_answered J (rec.Accepted d bytes) c (accepted J c) (wrote J c) (ap (λ b. cond b (accepted J c ++ bytes) (accepted J c)) e) refl refl front
  one_more J (rec.Wrote d bytes) c may front = go (nat_eq d c) refl where
    go : (b : Bool) → nat_eq d c ≡ b → IsAnswered (J ++ rec.Wrote d bytes ∷ []) c
    go true e = same_answered J (rec.Wrote d bytes) c (accepted J c) (wrote J c ++ bytes) refl (ap (λ b. cond b (wrote J c ++ bytes) (wrote J c)) e) refl
        (λ u. IsPrefix-trans (accepted J c) (answer_bytes files (wrote J c)) (answer_bytes files (wrote J c ++ bytes)) (front u) (answer_bytes-grow files (wrote J c) bytes))
    go false e = same_answered J (rec.Wrote d bytes) c (accepted J c) (wrote J c) refl (ap (λ b. cond b (wrote J c ++ bytes) (wrote J c)) e) refl front
  one_more J (rec.Injected d) c may front = go (nat_eq d c) refl where
    go : (b : Bool) → nat_eq d c ≡ b → IsAnswered (J ++ rec.Injected d ∷ []) c
    go true e = λ u. absurd (both_ways (is_touched (J ++ rec.Injected d ∷ []) c) u (touched-more J (rec.Injected d) c ∙ ap (λ b. cond b true (is_touched J c)) e))
    go false e = same_answered J (rec.Injected d) c (accepted J c) (wrote J c) refl refl (ap (λ b. cond b true (is_touched J c)) e) front
  one_more J r c may front = same_answered J r c (accepted J c) (wrote J c) refl refl refl front

  all_more : (J rs : List Rec) (c : ℕ) → EachMay (MayAccept files) J rs → IsAnswered J c → IsAnswered (J ++ rs) c
  all_more J [] c each front = subst (λ (K : List Rec). IsAnswered K c) (sym (append-nil J)) front
  all_more J (r ∷ rs) c each front = subst (λ (K : List Rec). IsAnswered K c) (append_assoc J (r ∷ []) rs) (all_more (J ++ r ∷ []) rs c each.1 (one_more J r c each.0 front))

  pub at_every_moment : (J : List Rec) → EachMay (MayAccept files) [] J → AcceptsOnlyAnswers files J
  at_every_moment J each past later c is = all_more [] past c (each_then (MayAccept files) J past later is each) (λ u. (answer_bytes files [], refl))

  -- ---- a client's notes

  -- what it accepts is a prefix of what was said, and that of the answers to what it wrote at some time; its other notes
  -- say nothing of that
  pub client-true : (c : ℕ) (said w : List ℕ) → IsPrefix said (answer_bytes files w) → (t : Tale) (rs : List Rec) → AreClientNotes c rs → IsPrefix w t.wrote
      → IsPrefix (t.accepted ++ accepted_in rs) said → TellsBy (IsTrueAfter files c) c t rs
  client-true c said w front t [] n wr ac = tt
  client-true c said w front t (rec.Accepted d bytes ∷ rs) n wr ac =
      let a : List ℕ = t.accepted in
      let whole : IsPrefix ((a ++ bytes) ++ accepted_in rs) said = subst (λ (l : List ℕ). IsPrefix l said) (sym (append_assoc a bytes (accepted_in rs))) ac in
      let first : IsPrefix (a ++ bytes) said = IsPrefix-trans (a ++ bytes) ((a ++ bytes) ++ accepted_in rs) said (accepted_in rs, refl) whole in
      let longer : IsPrefix (answer_bytes files w) (answer_bytes files t.wrote) =
      subst (λ (l : List ℕ). IsPrefix (answer_bytes files w) (answer_bytes files l)) (sym wr.1) (answer_bytes-grow files w wr.0) in
      let here : IsPrefix (a ++ bytes) (answer_bytes files t.wrote) =
      IsPrefix-trans (a ++ bytes) (answer_bytes files w) (answer_bytes files t.wrote) (IsPrefix-trans (a ++ bytes) said (answer_bytes files w) first front) longer in
      let may : (J : List Rec) → tale J c ≡ t → MayAccept files J (rec.Accepted c bytes) =
      λ J e u. subst (λ (l : List ℕ). IsPrefix (l ++ bytes) (answer_bytes files (wrote J c))) (sym (accepted-tale J c ∙ ap (λ (v : Tale). v.accepted) e))
      (subst (λ (l : List ℕ). IsPrefix (a ++ bytes) (answer_bytes files l)) (sym (wrote-tale J c ∙ ap (λ (v : Tale). v.wrote) e)) here) in (
        (λ J e. (tt, tt, subst (λ (q : ℕ). MayAccept files J (rec.Accepted q bytes)) (sym n.0) (may J e))),
        client-true c said w front (tale_step c t (rec.Accepted d bytes)) rs n.1 wr
            (subst (λ (b : Bool). IsPrefix (cond b (a ++ bytes) a ++ accepted_in rs) said) (sym (same-number d c n.0)) whole),
      )
  client-true c said w front t (rec.Wrote d bytes ∷ rs) n wr ac = (
    (λ J e. (tt, tt, tt)),
    client-true c said w front (tale_step c t (rec.Wrote d bytes)) rs n.1
        (subst (λ (b : Bool). IsPrefix w (cond b (t.wrote ++ bytes) t.wrote)) (sym (same-number d c n.0)) (IsPrefix-trans w t.wrote (t.wrote ++ bytes) wr (bytes, refl))) ac,
  )
  client-true c said w front t (rec.Eof d ∷ rs) n wr ac = ((λ J e. (tt, tt, tt)), client-true c said w front (tale_step c t (rec.Eof d)) rs n.1 wr ac)
  client-true c said w front t (rec.Aborted d ∷ rs) n wr ac = ((λ J e. (tt, tt, tt)), client-true c said w front (tale_step c t (rec.Aborted d)) rs n.1 wr ac)
  client-true c said w front t (_ ∷ rs) n wr ac = absurd n.0
