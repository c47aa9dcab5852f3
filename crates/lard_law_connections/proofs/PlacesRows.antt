-- What the records of a turn do to who owns a connection: the law of owners and senders, of one connection's own records.
use Rattle.std.proofs.Common.{◌≡◌, ℕ, ◌<◌, List, [], ◌∷◌, ◌++◌, map, true, cond, Some, None, is_some, refl, sym, ap, ◌∙◌, subst, nat_eq}
use Rattle.std.proofs.lemmas.Bool.{cond_both}
use Rattle.std.specs.List.{fold}
use Rattle.lard_law_view.specs.Prelude.{Client, Front, IsMachine, Node, Place, Rec, Tale, named_records, tale_step, told_on, whose}
use Rattle.lard_law_connections.specs.Places.{Owning, owning}
use Rattle.lard_law_view.specs.View.{sending}
use Rattle.lard_history.proofs.Each.{Each}
use Rattle.lard_history.proofs.Seeing.{same_number}
use Rattle.lard_journal.specs.declared.rec.Rec.TheVariants as rec
use Rattle.lard_law_view.specs.WhileUntouched.{TellsBy}
use Rattle.lard_law_view.proofs.EndpointSends.{AllTo}

-- ---- a record of the connection

-- what a record of the connection makes of who owns it
abbrev pub after : Owning → Rec → Owning
after w (rec.Took place d epoch) = record { owner = Some place; epoch = epoch.0 }
after w (rec.Gave place d epoch) = record w { owner = None }
after w _ = w

-- a place of the cluster sends to the client only what it owns
abbrev pub SendsOwn : ℕ → Owning → Place → Place → Type 0
SendsOwn c w Front (Client d) = (d ≡ c) × (w.owner ≡ Some Front)
SendsOwn c w (Node n) (Client d) = (d ≡ c) × (w.owner ≡ Some (Node n))
SendsOwn c w _ _ = Unit {0}

-- the record may stand where the connection is owned so
abbrev pub MayOwnBy : ℕ → Owning → Rec → Type 0
MayOwnBy c w (rec.Took place d epoch) = (d ≡ c) × (w.epoch < epoch.0) × (w.owner ≡ None)
MayOwnBy c w (rec.Gave place d epoch) = (d ≡ c) × (w.owner ≡ Some place) × (w.epoch ≡ epoch.0)
MayOwnBy c w (rec.Sent k from to bytes) = SendsOwn c w from to
MayOwnBy c w _ = Unit {0}

abbrev pub MayStand : ℕ → Tale → Rec → Type 0
MayStand c t r = MayOwnBy c (owning t) r

-- records, one after another
abbrev pub OwnsBy : ℕ → Owning → List Rec → Type 0
OwnsBy c w [] = Unit {0}
OwnsBy c w (r ∷ rs) = MayOwnBy c w r × OwnsBy c (after w r) rs

abbrev pub after_all : Owning → List Rec → Owning
after_all w rs = fold after w rs

pub one-step : (c : ℕ) (t : Tale) (r : Rec) → MayStand c t r → owning (tale_step c t r) ≡ after (owning t) r
one-step c t (rec.Took place d epoch) h =
    let mine : nat_eq d c ≡ true = subst (λ (n : ℕ). nat_eq n c ≡ true) (sym h.0) (same_number c) in
    λ i. record { owner = cond (mine i) (Some place) t.owner; epoch = cond (mine i) epoch.0 t.epoch }
one-step c t (rec.Gave place d epoch) h =
    let mine : nat_eq d c ≡ true = subst (λ (n : ℕ). nat_eq n c ≡ true) (sym h.0) (same_number c) in
    λ i. record { owner = cond (mine i) None t.owner; epoch = t.epoch }
one-step c t _ h = refl

-- and so in the tale
pub owns-told : (c : ℕ) (t : Tale) (rs : List Rec) → OwnsBy c (owning t) rs → TellsBy (MayStand c) c t rs × (owning (told_on c t rs) ≡ after_all (owning t) rs)
owns-told c t [] h = (tt, refl)
owns-told c t (r ∷ rs) h =
    let now : owning (tale_step c t r) ≡ after (owning t) r = one-step c t r h.0 in
    let later = owns-told c (tale_step c t r) rs (subst (λ (w : Owning). OwnsBy c w rs) (sym now) h.1) in
    ((h.0, later.0), later.1 ∙ ap (λ (w : Owning). after_all w rs) now)

pub owns-append : (c : ℕ) (w : Owning) (xs ys : List Rec) → OwnsBy c w xs → OwnsBy c (after_all w xs) ys → OwnsBy c w (xs ++ ys)
owns-append c w [] ys h k = k
owns-append c w (x ∷ xs) ys h k = (h.0, owns-append c (after w x) xs ys h.1 k)

-- ---- records that leave it

-- it says nothing of who owns or sends
abbrev pub IsPlain : Rec → Type 0
IsPlain (rec.Took place d epoch) = ⊥
IsPlain (rec.Gave place d epoch) = ⊥
IsPlain (rec.Sent k from to bytes) = ⊥
IsPlain _ = Unit {0}

plain-step : (w : Owning) (r : Rec) → IsPlain r → after w r ≡ w
plain-step w (rec.Took place d epoch) h = absurd h
plain-step w (rec.Gave place d epoch) h = absurd h
plain-step w (rec.Sent k from to bytes) h = absurd h
plain-step w _ h = refl

plain-may : (c : ℕ) (w : Owning) (r : Rec) → IsPlain r → MayOwnBy c w r
plain-may c w (rec.Took place d epoch) h = absurd h
plain-may c w (rec.Gave place d epoch) h = absurd h
plain-may c w (rec.Sent k from to bytes) h = absurd h
plain-may c w _ h = tt

pub plain-after : (w : Owning) (rs : List Rec) → Each IsPlain rs → after_all w rs ≡ w
plain-after w [] h = refl
plain-after w (r ∷ rs) h = ap (λ (v : Owning). after_all v rs) (plain-step w r h.0) ∙ plain-after w rs h.1

pub plain-owns : (c : ℕ) (w : Owning) (rs : List Rec) → Each IsPlain rs → OwnsBy c w rs
plain-owns c w [] h = tt
plain-owns c w (r ∷ rs) h = (plain-may c w r h.0, plain-owns c (after w r) rs h.1)

-- of the notes that name a connection all is so that is so of all
pub each-named : (P : Rec → Type 0) (rs : List Rec) → Each P rs → Each P (named_records rs)
each-named P [] h = tt
each-named P (r ∷ rs) h = cond_both (is_some (whose r)) (r ∷ named_records rs) (named_records rs) (Each P) (λ t. (h.0, each-named P rs h.1)) (λ t. each-named P rs h.1)

pub plain-named : (rs : List Rec) → Each IsPlain rs → Each IsPlain (named_records rs)
plain-named rs h = each-named IsPlain rs h

-- ---- what is sent

pub sends-after : (w : Owning) (place : Place) (ss : List (Place × List ℕ)) → after_all w (map (sending place) ss) ≡ w
sends-after w place [] = refl
sends-after w place (s ∷ ss) = sends-after w place ss

-- a client sends what it likes
pub client-owns : (c d : ℕ) (w : Owning) (ss : List (Place × List ℕ)) → OwnsBy c w (map (sending (Client d)) ss)
client-owns c d w [] = tt
client-owns c d w (s ∷ ss) = (tt, client-owns c d w ss)

-- who sends to machines need not own it
pub machines-own : (c : ℕ) (w : Owning) (place : Place) (ss : List (Place × List ℕ)) → Each (λ s. IsMachine s.0) ss → OwnsBy c w (map (sending place) ss)
machines-own c w place [] h = tt
machines-own c w place (s ∷ ss) h = (one place s.0 h.0, machines-own c w place ss h.1) where
  one : (from to : Place) → IsMachine to → SendsOwn c w from to
  one Front Front h = tt
  one Front (Node n) h = tt
  one Front (Client d) h = absurd h
  one (Node m) Front h = tt
  one (Node m) (Node n) h = tt
  one (Node m) (Client d) h = absurd h
  one (Client q) to h = tt

-- the owner sends to the client
pub owner-owns : (c : ℕ) (w : Owning) (place : Place) (ss : List (Place × List ℕ)) → IsMachine place → w.owner ≡ Some place → AllTo (Client c) ss → OwnsBy c w (map (sending place) ss)
owner-owns c w place [] at mine to = tt
owner-owns c w place (s ∷ ss) at mine to =
    (subst (λ (p : Place). SendsOwn c w place p) (sym to.0) (one place at mine), owner-owns c w place ss at mine to.1) where
      one : (place : Place) → IsMachine place → w.owner ≡ Some place → SendsOwn c w place (Client c)
      one Front at mine = (refl, mine)
      one (Node n) at mine = (refl, mine)
      one (Client d) at mine = absurd at
