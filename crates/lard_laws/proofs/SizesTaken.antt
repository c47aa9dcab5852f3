-- Behind how many responses a node took a connection last: by what the connection sees, and behind a move.
use Rattle.std.proofs.Common.{◌≡◌, ◌≢◌, ◌+◌, ℕ, nat_eq, Bool, cond, List, [], ◌∷◌, Option, Some, None, is_some, refl, sym, ap, ◌∙◌}
use Rattle.std.specs.List.{fold}
use Rattle.lard_law_view.specs.Prelude.{Came, Conn, Epoch, Move, Node, Place, Rec, Row, Seen, Tale, grown, named_records, own, plain, rows_of, seen_step, served_step, tale_of, tale_step, untold, whose}
use Rattle.lard_law_connections.proofs.BytesLaw.{IsHead}
use Rattle.lard_law_connections.proofs.PlacesRows.{IsPlain, MayOwnBy}
use Rattle.lard_law_connections.specs.Places.{Owning}
use Rattle.lard_laws.specs.Sizes.{TakeOver, last_taken, not_taken, take_over, take_over_step, taken_step}
use Rattle.lard_law_view.proofs.Fine.{IsItsOwn}
use Rattle.lard_law_view.proofs.OfKinds.{Passes, passes-rest, rest-outer}
use Rattle.lard_law_view.proofs.RecordKinds.{IsOuter}
use Rattle.lard_law_view.proofs.Rows.{grown-told}
use Rattle.lard_history.proofs.Each.{Each}
use Rattle.lard_history.proofs.Lifting.{IsOwnFold, fold-own}
use Rattle.lard_history.proofs.Seeing.{other_number, same_number}
use Rattle.lard_journal.specs.declared.rec.Rec.TheVariants as rec

-- by what a connection saw
abbrev pub seen_take_over : ℕ → List Seen → TakeOver
seen_take_over c ss = fold (seen_step (take_over_step c)) not_taken ss

module _ (c : ℕ) where
  abbrev step : TakeOver → Rec → TakeOver
  step = take_over_step c

  -- ---- the journal says what the connection sees

  plain-same : (t : TakeOver) (r : Rec) → step t (plain r) ≡ step t r
  plain-same t (rec.Event i e) = refl
  plain-same t (rec.Sent k from to bytes) = refl
  plain-same t _ = refl

  other-same : (t : TakeOver) (r : Rec) (d : ℕ) → d ≢ c → whose r ≡ Some d → step t r ≡ t
  other-same t (rec.Took place q epoch) d n e =
      let same : q ≡ d = cc in ap (λ (b : Bool). record { served = t.served; taken = cond b (last_taken place t) t.taken }) (ap (λ k. nat_eq k c) same ∙ other_number d c n)
  other-same t (rec.Served place q r code size via) d n e =
      let same : q ≡ d = cc in ap (λ (b : Bool). record { served = cond b (t.served + 1) t.served; taken = t.taken }) (ap (λ k. nat_eq k c) same ∙ other_number d c n)
  other-same t _ d n e = refl

  nobody-same : (t : TakeOver) (r : Rec) → whose r ≡ None → step t r ≡ t
  nobody-same t (rec.Took place q epoch) e = let no : Some q ≡ None = e in absurd cc
  nobody-same t (rec.Served place q r code size via) e = let no : Some q ≡ None = e in absurd cc
  nobody-same t _ e = refl

  is-own : IsOwnFold c step
  is-own = record { mine = λ t r e. plain-same t r; others = other-same; nobody = nobody-same }

  pub take-own : (J : List Rec) → take_over J c ≡ seen_take_over c (own c J)
  take-own J = fold-own c step is-own not_taken J

  -- what a node notes of no connection counts for none
  pub named-take : (t : TakeOver) (rs : List Rec) → fold step t (named_records rs) ≡ fold step t rs
  named-take t [] = refl
  named-take t (r ∷ rs) = go (whose r) refl (named-take t rs) (named-take (step t r) rs) where
    go : (o : Option ℕ) → whose r ≡ o → fold step t (named_records rs) ≡ fold step t rs → fold step (step t r) (named_records rs) ≡ fold step (step t r) rs → fold step t (named_records (r ∷ rs)) ≡ fold step (step t r) rs
    go None e without with = ap (λ (o : Option ℕ). fold step t (cond (is_some o) (r ∷ named_records rs) (named_records rs))) e ∙ without ∙ ap (λ (u : TakeOver). fold step u rs) (sym (nobody-same t r e))
    go (Some d) e without with = ap (λ (o : Option ℕ). fold step t (cond (is_some o) (r ∷ named_records rs) (named_records rs))) e ∙ with

  -- how many responses there were is what the tale says
  fold-served : (t : TakeOver) (u : Tale) (ss : List Seen) → t.served ≡ u.served → (fold (seen_step step) t ss).served ≡ (fold (seen_step (tale_step c)) u ss).served
  fold-served t u [] e = e
  fold-served t u (Row r ∷ ss) e = fold-served (step t r) (tale_step c u r) ss (ap (λ (n : ℕ). served_step c n r) e)
  fold-served t u (Came l ∷ ss) e = fold-served t u ss e

  pub take-served : (ss : List Seen) → (seen_take_over c ss).served ≡ (tale_of c ss).served
  take-served ss = fold-served not_taken untold ss refl

  -- ---- notes

  plain-step : (t : TakeOver) (r : Rec) → IsPlain r → taken_step c t r ≡ t.taken
  plain-step t (rec.Took place d epoch) h = absurd h
  plain-step t _ h = refl

  pub plain-taken : (t : TakeOver) (rs : List Rec) → Each IsPlain rs → (fold step t rs).taken ≡ t.taken
  plain-taken t [] h = refl
  plain-taken t (r ∷ rs) h = plain-taken (step t r) rs h.1 ∙ plain-step t r h.0

  -- a node takes it
  pub begun-taken : (t : TakeOver) (n : ℕ) (epoch : Epoch) (rs : List Rec) → Each IsPlain rs → (fold step t (rec.Took (Node n) c epoch ∷ rs)).taken ≡ t.served
  begun-taken t n epoch rs h = plain-taken (step t (rec.Took (Node n) c epoch)) rs h ∙ ap (λ (b : Bool). cond b t.served t.taken) (same_number c)

  -- nobody takes what has an owner
  pub owned-taken : (w : Owning) (q : Place) (t : TakeOver) (r : Rec) → w.owner ≡ Some q → MayOwnBy c w r → taken_step c t r ≡ t.taken
  owned-taken w q t (rec.Took place d epoch) mine may = let no : Some q ≡ None = sym mine ∙ may.2 in absurd cc
  owned-taken w q t _ mine may = refl

  -- ---- a move

  outer-passes : (r : Rec) → IsOuter r → Passes step r
  outer-passes (rec.Took place d epoch) h = absurd h
  outer-passes (rec.Served place d r code size via) h = absurd h
  outer-passes _ h = λ t. refl

  heads-take : (t : TakeOver) (hs : List Seen) → Each IsHead hs → fold (seen_step step) t hs ≡ t
  heads-take t [] h = refl
  heads-take t (Came l ∷ hs) h = heads-take t hs h.1
  heads-take t (Row (rec.Event i e) ∷ hs) h = heads-take t hs h.1
  heads-take t (Row (rec.Opened d isn iss wnd mss) ∷ hs) h = heads-take t hs h.1
  heads-take t (Row _ ∷ hs) h = absurd h.0

-- its notes say who takes it
pub take-grown : (x : Conn) (v : Move) → IsItsOwn x v → Each IsHead v.heads → seen_take_over x.c (grown x v).seen ≡ fold (take_over_step x.c) (seen_take_over x.c x.seen) v.said.notes
take-grown x v own heads =
    let c : ℕ = x.c in
    grown-told (step c) not_taken x v ∙ ap (λ (t : TakeOver). fold (step c) t (rows_of x v)) (heads-take c (seen_take_over c x.seen) v.heads heads)
    ∙ passes-rest (step c) x v (seen_take_over c x.seen) (rest-outer x v (Passes (step c)) (outer-passes c) own)
