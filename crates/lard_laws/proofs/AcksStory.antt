-- What is told of a client by what its connection sees: a move of another place tells nothing of it but resets.
use Rattle.std.proofs.Common.{◌≡◌, ℕ, List, [], ◌∷◌, Bool, true, false, cond, ◌||◌, nat_eq, refl, sym, ap, ◌∙◌, subst}
use Rattle.std.proofs.lemmas.List.Sums.{fold-append}
use Rattle.lard_law_view.specs.Prelude.{Conn, Move, Rec, grown, rows_of, tale_at, untold}
use Rattle.lard_laws.specs.Acks.{story_at}
use Rattle.lard_law_view.proofs.Fine.{IsItsOwn}
use Rattle.lard_law_view.proofs.Rows.{grown-told}
use Rattle.lard_history.proofs.Each.{Each}
use Rattle.lard_journal.specs.declared.rec.Rec.TheVariants as rec
use Rattle.lard_law_view.proofs.Story.{Story, Tells, reset-in-tale, story_on, story_seen, story_step, unheard}
use Rattle.lard_law_view.proofs.OfKinds.{of-gifts, of-notes, of-sends, of-timers, rest_of, rest-each, rows-are}
use Rattle.lard_law_view.proofs.RecordKinds.{IsNote}

-- ---- records that are no events

abbrev pub IsCalm : Rec → Type 0
IsCalm (rec.Event i e) = ⊥
IsCalm (rec.Inner e) = ⊥
IsCalm _ = Unit {0}

or-first : (a b : Bool) → a ≡ true → (a || b) ≡ true
or-first a b e = ap (λ t. t || b) e

or-true : (b was : Bool) → was ≡ true → cond b true was ≡ true
or-true true was e = refl
or-true false was e = e

tells-none : (y : Story) → Tells y y
tells-none y = record { aborted = λ e. e; reset = λ e. e; ended = λ e. e; shut = refl }

pub tells-both : (x y z : Story) → Tells x y → Tells y z → Tells x z
tells-both x y z a b = record {
  aborted = λ e. b.aborted (a.aborted e);
  reset = λ e. b.reset (a.reset e);
  ended = λ e. b.ended (a.ended e);
  shut = b.shut ∙ a.shut;
}

tells-one : (c : ℕ) (y : Story) (r : Rec) → IsCalm r → Tells y (story_step c y r)
tells-one c y (rec.Event i e) h = absurd h
tells-one c y (rec.Inner e) h = absurd h
tells-one c y (rec.Eof d) h = record { aborted = λ e. e; reset = λ e. e; ended = λ e. or-first y.ended (nat_eq d c) e; shut = refl }
tells-one c y (rec.Aborted d) h = record { aborted = λ e. or-first y.aborted (nat_eq d c) e; reset = λ e. e; ended = λ e. e; shut = refl }
tells-one c y (rec.Reset place d total) h = record { aborted = λ e. e; reset = λ e. or-true (nat_eq d c) y.reset e; ended = λ e. e; shut = refl }
tells-one c y _ h = tells-none y

-- what was told stays told
pub calm-tells : (c : ℕ) (y : Story) (rs : List Rec) → Each IsCalm rs → Tells y (story_on c y rs)
calm-tells c y [] h = tells-none y
calm-tells c y (r ∷ rs) h = tells-both y (story_step c y r) (story_on c y (r ∷ rs)) (tells-one c y r h.0) (calm-tells c (story_step c y r) rs h.1)

-- ---- the records of a move

noted-calm : (r : Rec) → IsNote r → IsCalm r
noted-calm (rec.Event i f) h = absurd h
noted-calm (rec.Inner f) h = absurd h
noted-calm _ h = tt

-- ---- a move

module _ (x : Conn) (v : Move) (own : IsItsOwn x v) where
  rest-calm : Each IsCalm (rest_of x v)
  rest-calm = rest-each x v IsCalm (of-sends IsCalm (λ k from to bytes. tt) v.place v.said.segments) (of-gifts IsCalm (λ p d epoch. tt) v.place x.c v.said.gave own.gave)
      (of-sends IsCalm (λ k from to bytes. tt) v.place v.said.messages) (of-timers IsCalm (λ p d kind. (tt, tt)) v.place x.c x.part v.part)

  module _ (y : Story) (heads : story_seen x.c (story_at x) v.heads ≡ y) where
    -- what is told behind its notes
    abbrev pub noted_story : Story
    noted_story = story_on x.c y v.said.notes

    grown-story : story_at (grown x v) ≡ story_on x.c noted_story (rest_of x v)
    grown-story = grown-told (story_step x.c) unheard x v ∙ ap (λ (z : Story). story_on x.c z (rows_of x v)) heads ∙ ap (story_on x.c y) (rows-are x v) ∙ fold-append (story_step x.c) y v.said.notes (rest_of x v)

    -- stays told, with all that follows
    pub behind-notes : Tells noted_story (story_at (grown x v))
    behind-notes = subst (λ (z : Story). Tells noted_story z) (sym grown-story) (calm-tells x.c noted_story (rest_of x v) rest-calm)

    -- and so does what was told before them
    pub move-tells : Tells y (story_at (grown x v))
    move-tells = tells-both y noted_story (story_at (grown x v)) (calm-tells x.c y v.said.notes (of-notes IsCalm noted-calm v.place x.c v.said.notes own.notes)) behind-notes

-- its tale tells of resets as well
pub reset-told : (x : Conn) → (story_at x).reset ≡ (tale_at x).was_reset
reset-told x = reset-in-tale x.c unheard untold x.seen refl
