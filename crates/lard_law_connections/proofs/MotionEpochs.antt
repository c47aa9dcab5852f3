-- A connection that nobody owns was given up last in the epoch in which it was taken last.
use Rattle.std.proofs.Common.{◌≡◌, ℕ, List, [], ◌∷◌, ◌++◌, Some, None, refl, sym, ap, ◌∙◌, subst, append_assoc, append-nil}
use Rattle.std.proofs.lemmas.List.Sums.{fold-append}
use Rattle.lard_law_view.specs.Prelude.{Came, Conn, EachRow, Rec, Row, Seen, seen_step, tale_at, tale_of, tale_step, untold}
use Rattle.lard_law_connections.specs.MotionStory.{gave_step, last_gave}
use Rattle.lard_law_connections.specs.Places.{Owning, owning}
use Rattle.lard_law_connections.proofs.PlacesRows.{MayOwnBy, MayStand, after, one-step}
use Rattle.lard_law_connections.proofs.PlacesTurns.{IsPlaced}
use Rattle.lard_law_view.proofs.RowLists.{MayBeSeen}
use Rattle.lard_journal.specs.declared.rec.Rec.TheVariants as rec

abbrev GaveLast : Owning → ℕ → Type 0
GaveLast w gave = w.owner ≡ None → gave ≡ w.epoch

gave-step : (c : ℕ) (w : Owning) (gave : ℕ) (r : Rec) → MayOwnBy c w r → GaveLast w gave → GaveLast (after w r) (gave_step gave r)
gave-step c w gave (rec.Took place d epoch) may h = λ none. let no : Some place ≡ None = none in absurd cc
gave-step c w gave (rec.Gave place d epoch) may h = λ none. sym may.2
gave-step c w gave _ may h = h

module _ (c : ℕ) where
  abbrev At : List Seen → Type 0
  At seen = GaveLast (owning (tale_of c seen)) (last_gave seen)

  row-at : (past : List Seen) (r : Rec) → MayStand c (tale_of c past) r → At past → At (past ++ Row r ∷ [])
  row-at past r may h =
      let owned : owning (tale_of c (past ++ Row r ∷ [])) ≡ after (owning (tale_of c past)) r =
      ap owning (fold-append (seen_step (tale_step c)) untold past (Row r ∷ [])) ∙ one-step c (tale_of c past) r may in
      subst (λ (w : Owning). GaveLast w (last_gave (past ++ Row r ∷ []))) (sym owned)
      (subst (GaveLast (after (owning (tale_of c past)) r)) (sym (fold-append (seen_step gave_step) 0 past (Row r ∷ []))) (gave-step c (owning (tale_of c past)) (last_gave past) r may h))

  came-at : (past : List Seen) (l : _) → At past → At (past ++ Came l ∷ [])
  came-at past l h =
      subst (λ (w : Owning). GaveLast w (last_gave (past ++ Came l ∷ []))) (sym (ap owning (fold-append (seen_step (tale_step c)) untold past (Came l ∷ []))))
      (subst (GaveLast (owning (tale_of c past))) (sym (fold-append (seen_step gave_step) 0 past (Came l ∷ []))) h)

  all-at : (past ss : List Seen) → EachRow (MayBeSeen (MayStand c) c) past ss → At past → At (past ++ ss)
  all-at past [] may h = subst At (sym (append-nil past)) h
  all-at past (Row r ∷ ss) may h = subst At (append_assoc past (Row r ∷ []) ss) (all-at (past ++ Row r ∷ []) ss may.1 (row-at past r may.0 h))
  all-at past (Came l ∷ ss) may h = subst At (append_assoc past (Came l ∷ []) ss) (all-at (past ++ Came l ∷ []) ss may (came-at past l h))

pub gave-last : (x : Conn) → IsPlaced x → (owning (tale_at x)).owner ≡ None → last_gave x.seen ≡ (owning (tale_at x)).epoch
gave-last x placed none = all-at x.c [] x.seen placed.lawful (λ n. refl) none
