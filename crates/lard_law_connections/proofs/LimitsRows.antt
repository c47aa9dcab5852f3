-- What the records of a turn do to what was served: the reset law, of one connection's own records.
use Rattle.std.proofs.Common.{◌≡◌, ◌≤◌, ◌<◌, ◌+◌, ℕ, List, [], ◌∷◌, ◌++◌, true, false, cond, Some, None, is_some, Option, refl, sym, ap, ◌∙◌, subst, nat_eq}
use Rattle.std.specs.List.{fold}
use Rattle.lard_law_view.specs.Prelude.{Came, Client, MayReset, Rec, Row, Seen, Tale, named_records, plain, served_bytes, tale, tale_step, told_on, was_reset, whose}
use Rattle.lard_law_connections.specs.LimitsCounts.{Served, served_by_tale}
use Rattle.lard_law_view.proofs.Saying.{NotedAt, note-kind}
use Rattle.lard_history.proofs.Each.{Each, Each-weaker}
use Rattle.lard_history.proofs.Lifting.{IsLocal, tale-own}
use Rattle.lard_history.proofs.Seeing.{same_number}
use Rattle.lard_history.proofs.Tales.{reset-tale, served_bytes-tale}
use Rattle.lard_journal.specs.declared.rec.Rec.TheVariants as rec
use Rattle.lard_law_view.specs.WhileUntouched.{TellsBy}
use Rattle.lard_law_view.proofs.RowLists.{MayBeSeen}
use Rattle.lard_law_view.proofs.RecordKinds.{IsOuter, IsOfPlace, kind_of}

-- ---- a record of the connection

-- what a record of the connection makes of what was served on it
abbrev pub after : Served → Rec → Served
after w (rec.Served place d r code size via) = record w { bytes = w.bytes + size }
after w (rec.Reset place d total) = record w { was_reset = true }
after w _ = w

-- it may stand where so much was served
abbrev pub MayCount : ℕ → ℕ → Served → Rec → Type 0
MayCount stream c w (rec.Served place d r code size via) = (d ≡ c) × (w.bytes + size ≤ stream) × (w.was_reset ≡ false)
MayCount stream c w (rec.Reset place d total) = (d ≡ c) × (stream < total) × (w.was_reset ≡ false)
MayCount stream c w _ = Unit {0}

abbrev pub MayStand : ℕ → ℕ → Tale → Rec → Type 0
MayStand stream c t r = MayCount stream c (served_by_tale t) r

-- records, one after another
abbrev pub CountsBy : ℕ → ℕ → Served → List Rec → Type 0
CountsBy stream c w [] = Unit {0}
CountsBy stream c w (r ∷ rs) = MayCount stream c w r × CountsBy stream c (after w r) rs

abbrev pub after_all : Served → List Rec → Served
after_all w rs = fold after w rs

one-step : (stream c : ℕ) (t : Tale) (r : Rec) → MayStand stream c t r → served_by_tale (tale_step c t r) ≡ after (served_by_tale t) r
one-step stream c t (rec.Served place d r code size via) h =
    let mine : nat_eq d c ≡ true = subst (λ (n : ℕ). nat_eq n c ≡ true) (sym h.0) (same_number c) in
    λ i. record { bytes = cond (mine i) (t.served_bytes + size) t.served_bytes; was_reset = t.was_reset }
one-step stream c t (rec.Reset place d total) h =
    let mine : nat_eq d c ≡ true = subst (λ (n : ℕ). nat_eq n c ≡ true) (sym h.0) (same_number c) in
    λ i. record { bytes = t.served_bytes; was_reset = cond (mine i) true t.was_reset }
one-step stream c t _ h = refl

-- and so in the tale
pub counts-told : (stream c : ℕ) (t : Tale) (rs : List Rec) → CountsBy stream c (served_by_tale t) rs
    → TellsBy (MayStand stream c) c t rs × (served_by_tale (told_on c t rs) ≡ after_all (served_by_tale t) rs)
counts-told stream c t [] h = (tt, refl)
counts-told stream c t (r ∷ rs) h =
    let now : served_by_tale (tale_step c t r) ≡ after (served_by_tale t) r = one-step stream c t r h.0 in
    let later = counts-told stream c (tale_step c t r) rs (subst (λ (w : Served). CountsBy stream c w rs) (sym now) h.1) in
    ((h.0, later.0), later.1 ∙ ap (λ (w : Served). after_all w rs) now)

pub counts-append : (stream c : ℕ) (w : Served) (xs ys : List Rec) → CountsBy stream c w xs → CountsBy stream c (after_all w xs) ys → CountsBy stream c w (xs ++ ys)
counts-append stream c w [] ys h k = k
counts-append stream c w (x ∷ xs) ys h k = (h.0, counts-append stream c (after w x) xs ys h.1 k)

-- ---- records that leave it

-- it says nothing of what was served
abbrev pub IsMute : Rec → Type 0
IsMute (rec.Served place d r code size via) = ⊥
IsMute (rec.Reset place d total) = ⊥
IsMute _ = Unit {0}

mute-step : (w : Served) (r : Rec) → IsMute r → after w r ≡ w
mute-step w (rec.Served place d r code size via) h = absurd h
mute-step w (rec.Reset place d total) h = absurd h
mute-step w _ h = refl

mute-may : (stream c : ℕ) (w : Served) (r : Rec) → IsMute r → MayCount stream c w r
mute-may stream c w (rec.Served place d r code size via) h = absurd h
mute-may stream c w (rec.Reset place d total) h = absurd h
mute-may stream c w _ h = tt

pub mute-after : (w : Served) (rs : List Rec) → Each IsMute rs → after_all w rs ≡ w
mute-after w [] h = refl
mute-after w (r ∷ rs) h = ap (λ (v : Served). after_all v rs) (mute-step w r h.0) ∙ mute-after w rs h.1

pub mute-counts : (stream c : ℕ) (w : Served) (rs : List Rec) → Each IsMute rs → CountsBy stream c w rs
mute-counts stream c w [] h = tt
mute-counts stream c w (r ∷ rs) h = (mute-may stream c w r h.0, mute-counts stream c (after w r) rs h.1)

pub outer-mute : (r : Rec) → IsOuter r → IsMute r
outer-mute (rec.Served place d r code size via) h = absurd h
outer-mute (rec.Reset place d total) h = absurd h
outer-mute _ h = tt

pub clients-mute : (e c : ℕ) (rs : List Rec) → Each (NotedAt (Client e) c) rs → Each IsMute rs
clients-mute e c rs h = Each-weaker (NotedAt (Client e) c) IsMute (λ r k. one r (note-kind (Client e) c r k)) rs h where
  one : (r : Rec) → IsOfPlace (Client e) (kind_of r) → IsMute r
  one (rec.Served place d r code size via) h = absurd h
  one (rec.Reset place d total) h = absurd h
  one _ h = tt

-- ---- what a node names of its notes

-- no record that nobody is named in counts
unnamed-mute : (r : Rec) → whose r ≡ None → IsMute r
unnamed-mute (rec.Served place d r code size via) e = let no : Some d ≡ None = e in absurd cc
unnamed-mute (rec.Reset place d total) e = let no : Some d ≡ None = e in absurd cc
unnamed-mute _ e = tt

-- so the notes that it names count as all do
pub named-counts : (stream c : ℕ) (w : Served) (rs : List Rec) → CountsBy stream c w rs → CountsBy stream c w (named_records rs) × (after_all w (named_records rs) ≡ after_all w rs)
named-counts stream c w [] h = (tt, refl)
named-counts stream c w (r ∷ rs) h = go (whose r) refl (named-counts stream c (after w r) rs h.1) where
  go : (o : Option ℕ) → whose r ≡ o → CountsBy stream c (after w r) (named_records rs) × (after_all (after w r) (named_records rs) ≡ after_all (after w r) rs)
      → CountsBy stream c w (cond (is_some o) (r ∷ named_records rs) (named_records rs)) × (after_all w (cond (is_some o) (r ∷ named_records rs) (named_records rs)) ≡ after_all (after w r) rs)
  go None e later =
      let same : after w r ≡ w = mute-step w r (unnamed-mute r e) in
      (subst (λ (v : Served). CountsBy stream c v (named_records rs)) same later.0, ap (λ (v : Served). after_all v (named_records rs)) (sym same) ∙ later.1)
  go (Some d) e later = ((h.0, later.0), later.1)

-- ---- what is seen before the notes

abbrev pub IsMuteSeen : Seen → Type 0
IsMuteSeen (Row r) = IsMute r
IsMuteSeen (Came l) = Unit {0}

-- ---- the law

abbrev IsOf : (A : Type 0) → (List Rec → ℕ → A) → (Tale → A) → Type 0
IsOf A f field = (J : List Rec) (c : ℕ) → f J c ≡ field (tale J c)

-- what is told of connection c is what the journal says of d, which is c
meant : {A : Type 0} (f : List Rec → ℕ → A) (field : Tale → A) → IsOf A f field → (J : List Rec) (c d : ℕ) → d ≡ c → (P : A → Type 0) → P (field (tale J c)) → P (f J d)
meant f field is J c d e P p = subst (λ q. P (f J q)) (sym e) (subst P (sym (is J c)) p)

stands-lawful : (stream c : ℕ) (J : List Rec) (r : Rec) → MayStand stream c (tale J c) r → MayReset stream J r
stands-lawful stream c J (rec.Served place d r code size via) h =
    (meant served_bytes (λ t. t.served_bytes) served_bytes-tale J c d h.0 (λ n. n + size ≤ stream) h.1, meant was_reset (λ t. t.was_reset) reset-tale J c d h.0 (λ b. b ≡ false) h.2)
stands-lawful stream c J (rec.Reset place d total) h = (h.1, meant was_reset (λ t. t.was_reset) reset-tale J c d h.0 (λ b. b ≡ false) h.2)
stands-lawful stream c J _ h = tt

-- a plain record of the connection may stand as the record itself may
plain-stands : (stream c : ℕ) (t : Tale) (r : Rec) → MayStand stream c t (plain r) → MayStand stream c t r
plain-stands stream c t (rec.Event i e) h = h
plain-stands stream c t (rec.Sent k from to bytes) h = h
plain-stands stream c t _ h = h

mute-lawful : (stream : ℕ) (J : List Rec) (r : Rec) → IsMute r → MayReset stream J r
mute-lawful stream J (rec.Served place d r code size via) h = absurd h
mute-lawful stream J (rec.Reset place d total) h = absurd h
mute-lawful stream J _ h = tt

-- the law looks at the record's own connection alone
pub lawful-local : (stream : ℕ) → IsLocal (MayReset stream) (λ c. MayBeSeen (MayStand stream c) c)
lawful-local stream = record {
  nobody = λ J r e. mute-lawful stream J r (unnamed-mute r e);
  somebody = λ J r c e h. stands-lawful stream c J r (plain-stands stream c (tale J c) r (subst (λ (t : Tale). MayStand stream c t (plain r)) (sym (tale-own J c)) h));
}
