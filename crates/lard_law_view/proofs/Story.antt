-- What is told of one connection beside its bytes: what became of its client.
use Rattle.std.proofs.Common.{◌≡◌, ◌≢◌, ◌⊎◌, ℕ, List, [], ◌∷◌, Bool, true, false, cond, ◌||◌, Some, None, refl, sym, ap, ◌∙◌, inl, inr, nat_eq}
use Rattle.std.specs.List.{fold}
use Rattle.lard_law_view.specs.Prelude.{AreClientNotes, Came, Event, Rec, Row, Seen, Tale, aborted_step, ended_step, event_conn, event_shuts, has_aborted, has_ended, own, plain, reset_step, seen_step, shut_step, tale_step, was_reset, was_shut, whose}
use Rattle.lard_base.specs.declared.event.Event.TheVariants as event
use Rattle.lard_history.proofs.Lifting.{IsOwnFold, fold-own}
use Rattle.lard_history.proofs.Seeing.{other_number, same_number}
use Rattle.lard_journal.specs.declared.rec.Rec.TheVariants as rec
use Rattle.lard_law_view.proofs.Acked.{ends_in}

-- ---- one connection

pub record Story : Type 0 where
  pub aborted : Bool
  pub reset : Bool
  pub ended : Bool
  pub shut : Bool

abbrev pub unheard : Story
unheard = record { aborted = false; reset = false; ended = false; shut = false }

abbrev pub story_step : ℕ → Story → Rec → Story
story_step c y r = record {
  aborted = aborted_step c y.aborted r;
  reset = reset_step c y.reset r;
  ended = ended_step c y.ended r;
  shut = shut_step c y.shut r;
}

-- a story goes on by records
abbrev pub story_on : ℕ → Story → List Rec → Story
story_on c y rs = fold (story_step c) y rs

-- and by all that the connection sees
abbrev pub story_seen : ℕ → Story → List Seen → Story
story_seen c y ss = fold (seen_step (story_step c)) y ss

-- ---- the journal tells it of each connection

-- the record may change the story of connection c
abbrev pub concerns : ℕ → Rec → Bool
concerns c (rec.Event i e) = event_shuts c e
concerns c (rec.Inner e) = event_shuts c e
concerns c (rec.Eof d) = nat_eq d c
concerns c (rec.Aborted d) = nat_eq d c
concerns c (rec.Reset place d total) = nat_eq d c
concerns c _ = false

cond-not : (b x y : Bool) → b ≡ false → cond b x y ≡ y
cond-not b x y e = ap (λ t. cond t x y) e

or-not : (b d : Bool) → d ≡ false → b || d ≡ b
or-not true d e = refl
or-not false d e = e

other : (c : ℕ) (y : Story) (r : Rec) → concerns c r ≡ false → story_step c y r ≡ y
other c y (rec.Event i e) n = ap (λ b. record y { shut = b }) (or-not y.shut (event_shuts c e) n)
other c y (rec.Inner e) n = ap (λ b. record y { shut = b }) (or-not y.shut (event_shuts c e) n)
other c y (rec.Eof d) n = ap (λ b. record y { ended = b }) (or-not y.ended (nat_eq d c) n)
other c y (rec.Aborted d) n = ap (λ b. record y { aborted = b }) (or-not y.aborted (nat_eq d c) n)
other c y (rec.Reset place d total) n = ap (λ b. record y { reset = b }) (cond-not (nat_eq d c) true y.reset n)
other c y _ n = refl

shuts-not : (c : ℕ) (e : Event) → event_conn e ≢ Some c → event_shuts c e ≡ false
shuts-not c (event.Shut q) n = other_number q c (λ s. n (ap Some s))
shuts-not c _ n = refl

-- a record of another connection, or of none, does not
concerns-not : (c : ℕ) (r : Rec) → whose r ≢ Some c → concerns c r ≡ false
concerns-not c (rec.Event i e) n = shuts-not c e n
concerns-not c (rec.Inner e) n = shuts-not c e n
concerns-not c (rec.Eof q) n = other_number q c (λ s. n (ap Some s))
concerns-not c (rec.Aborted q) n = other_number q c (λ s. n (ap Some s))
concerns-not c (rec.Reset place q total) n = other_number q c (λ s. n (ap Some s))
concerns-not c _ n = refl

plain-story : (c : ℕ) (y : Story) (r : Rec) → story_step c y (plain r) ≡ story_step c y r
plain-story c y (rec.Event i e) = refl
plain-story c y (rec.Sent k from to bytes) = refl
plain-story c y _ = refl

story-is-own : (c : ℕ) → IsOwnFold c (story_step c)
story-is-own c = record {
  mine = λ y r e. plain-story c y r;
  others = λ y r d n e. other c y r (concerns-not c r (λ s. n (let same : Some d ≡ Some c = sym e ∙ s in cc)));
  nobody = λ y r e. other c y r (concerns-not c r (λ s. let no : None ≡ Some c = sym e ∙ s in absurd cc));
}

-- a fold of one field is the field of the fold
field_of : (field : Story → Bool) (step : Bool → Rec → Bool) (c : ℕ) → ((y : Story) (r : Rec) → step (field y) r ≡ field (story_step c y r))
    → (y : Story) (rs : List Rec) → fold step (field y) rs ≡ field (story_on c y rs)
field_of field step c same y [] = refl
field_of field step c same y (r ∷ rs) = ap (λ a. fold step a rs) (same y r) ∙ field_of field step c same (story_step c y r) rs

module _ (J : List Rec) (c : ℕ) where
  -- what a journal says is told by what the connection sees of it
  told : (field : Story → Bool) (step : Bool → Rec → Bool) → ((y : Story) (r : Rec) → step (field y) r ≡ field (story_step c y r))
      → fold step (field unheard) J ≡ field (story_seen c unheard (own c J))
  told field step same = field_of field step c same unheard J ∙ ap field (fold-own c (story_step c) (story-is-own c) unheard J)

  pub aborted-story : has_aborted J c ≡ (story_seen c unheard (own c J)).aborted
  aborted-story = told (λ y. y.aborted) (aborted_step c) (λ y r. refl)

  pub ended-story : has_ended J c ≡ (story_seen c unheard (own c J)).ended
  ended-story = told (λ y. y.ended) (ended_step c) (λ y r. refl)

  pub reset-story : was_reset J c ≡ (story_seen c unheard (own c J)).reset
  reset-story = told (λ y. y.reset) (reset_step c) (λ y r. refl)

  pub shut-story : was_shut J c ≡ (story_seen c unheard (own c J)).shut
  shut-story = told (λ y. y.shut) (shut_step c) (λ y r. refl)

-- the tale tells of resets as well
pub reset-in-tale : (c : ℕ) (y : Story) (t : Tale) (ss : List Seen) → y.reset ≡ t.was_reset → (story_seen c y ss).reset ≡ (fold (seen_step (tale_step c)) t ss).was_reset
reset-in-tale c y t [] e = e
reset-in-tale c y t (Row r ∷ ss) e = reset-in-tale c (story_step c y r) (tale_step c t r) ss (ap (λ b. reset_step c b r) e)
reset-in-tale c y t (Came l ∷ ss) e = reset-in-tale c y t ss e

-- ---- what they tell

-- What was told of a client stays told, and nothing else changes but its end.
pub record Tells (y z : Story) : Type 0 where
  pub aborted : y.aborted ≡ true → z.aborted ≡ true
  pub reset : y.reset ≡ true → z.reset ≡ true
  pub ended : y.ended ≡ true → z.ended ≡ true
  pub shut : z.shut ≡ y.shut

same-number : (d c : ℕ) → d ≡ c → nat_eq d c ≡ true
same-number d c e = ap (λ k. nat_eq k c) e ∙ same_number c

or-first : (a b : Bool) → a ≡ true → (a || b) ≡ true
or-first a b e = ap (λ t. t || b) e

or-second : (a b : Bool) → b ≡ true → (a || b) ≡ true
or-second true b e = refl
or-second false b e = e

pub or-either : (a b : Bool) → (a || b) ≡ true → (a ≡ true) ⊎ (b ≡ true)
or-either true b e = inl refl
or-either false b e = inr e

tells-none : (y : Story) → Tells y y
tells-none y = record { aborted = λ e. e; reset = λ e. e; ended = λ e. e; shut = refl }

tells-both : (x y z : Story) → Tells x y → Tells y z → Tells x z
tells-both x y z a b = record {
  aborted = λ e. b.aborted (a.aborted e);
  reset = λ e. b.reset (a.reset e);
  ended = λ e. b.ended (a.ended e);
  shut = b.shut ∙ a.shut;
}

tells-one : (c : ℕ) (y : Story) (rs : List Rec) (r : Rec) → Tells y (story_step c y r) → Tells (story_step c y r) (story_on c (story_step c y r) rs) → Tells y (story_on c y (r ∷ rs))
tells-one c y rs r a b = tells-both y (story_step c y r) (story_on c (story_step c y r) rs) a b

pub client-tells : (c : ℕ) (y : Story) (rs : List Rec) → AreClientNotes c rs → Tells y (story_on c y rs)
client-tells c y [] notes = tells-none y
client-tells c y (rec.Wrote d bytes ∷ rs) notes = tells-one c y rs (rec.Wrote d bytes) (tells-none y) (client-tells c (story_step c y (rec.Wrote d bytes)) rs notes.1)
client-tells c y (rec.Accepted d bytes ∷ rs) notes = tells-one c y rs (rec.Accepted d bytes) (tells-none y) (client-tells c (story_step c y (rec.Accepted d bytes)) rs notes.1)
client-tells c y (rec.Eof d ∷ rs) notes =
    tells-one c y rs (rec.Eof d)
    (record { aborted = λ e. e; reset = λ e. e; ended = λ e. or-first y.ended (nat_eq d c) e; shut = refl })
    (client-tells c (story_step c y (rec.Eof d)) rs notes.1)
client-tells c y (rec.Aborted d ∷ rs) notes =
    tells-one c y rs (rec.Aborted d)
    (record { aborted = λ e. or-first y.aborted (nat_eq d c) e; reset = λ e. e; ended = λ e. e; shut = refl })
    (client-tells c (story_step c y (rec.Aborted d)) rs notes.1)
client-tells c y (_ ∷ rs) notes = absurd notes.0

-- the end of a stream that is noted is told
pub ends-told : (c : ℕ) (y : Story) (rs : List Rec) → AreClientNotes c rs → ends_in rs ≡ true → (story_on c y rs).ended ≡ true
ends-told c y [] notes e = absurd cc
ends-told c y (rec.Wrote d bytes ∷ rs) notes e = ends-told c (story_step c y (rec.Wrote d bytes)) rs notes.1 e
ends-told c y (rec.Accepted d bytes ∷ rs) notes e = ends-told c (story_step c y (rec.Accepted d bytes)) rs notes.1 e
ends-told c y (rec.Eof d ∷ rs) notes e =
    (client-tells c (story_step c y (rec.Eof d)) rs notes.1).ended (or-second y.ended (nat_eq d c) (same-number d c notes.0))
ends-told c y (rec.Aborted d ∷ rs) notes e = ends-told c (story_step c y (rec.Aborted d)) rs notes.1 e
ends-told c y (_ ∷ rs) notes e = absurd notes.0

-- and that a client aborted
pub aborted-told : (c d : ℕ) (y : Story) → d ≡ c → (story_on c y (rec.Aborted d ∷ [])).aborted ≡ true
aborted-told c d y e = or-second y.aborted (nat_eq d c) (same-number d c e)
