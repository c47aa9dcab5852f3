-- The laws of owners and senders look at the record's own connection alone.
use Rattle.std.proofs.Common.{◌≡◌, ℕ, ◌<◌, List, Some, None, sym, subst}
use Rattle.lard_law_view.specs.Prelude.{Client, Front, MayOwn, MaySend, Node, OwnerSends, Place, Rec, Tale, conn_of, last_epoch, owner, plain, tale, whose}
use Rattle.lard_law_connections.specs.Places.{owning}
use Rattle.lard_law_connections.proofs.PlacesRows.{MayStand, SendsOwn}
use Rattle.lard_history.proofs.Lifting.{IsLocal, tale-own}
use Rattle.lard_history.proofs.Tales.{epoch-tale, owner-tale}
use Rattle.lard_journal.specs.declared.rec.Rec.TheVariants as rec
use Rattle.lard_law_view.proofs.RowLists.{MayBeSeen}

-- both laws
abbrev pub IsLawful : List Rec → Rec → Type 0
IsLawful past r = MayOwn past r × MaySend past r

-- what is told of connection c is what the journal says of d, which is c
owned-by : (J : List Rec) (c d : ℕ) → d ≡ c → (o : _) → (tale J c).owner ≡ o → owner J d ≡ o
owned-by J c d e o h = subst (λ q. owner J q ≡ o) (sym e) (subst (λ p. p ≡ o) (sym (owner-tale J c)) h)

sends-lawful : (J : List Rec) (c : ℕ) (from to : Place) → SendsOwn c (owning (tale J c)) from to → OwnerSends J from to
sends-lawful J c Front (Client d) h = owned-by J c d h.0 (Some Front) h.1
sends-lawful J c (Node n) (Client d) h = owned-by J c d h.0 (Some (Node n)) h.1
sends-lawful J c _ _ h = tt

stands-lawful : (c : ℕ) (J : List Rec) (r : Rec) → MayStand c (tale J c) r → IsLawful J r
stands-lawful c J (rec.Took place d epoch) h =
    (subst (λ (q : ℕ). last_epoch J q < epoch.0) (sym h.0) (subst (λ (n : ℕ). n < epoch.0) (sym (epoch-tale J c)) h.1), owned-by J c d h.0 None h.2)
stands-lawful c J (rec.Gave place d epoch) h =
    ((owned-by J c d h.0 (Some place) h.1, subst (λ (q : ℕ). last_epoch J q ≡ epoch.0) (sym h.0) (subst (λ (n : ℕ). n ≡ epoch.0) (sym (epoch-tale J c)) h.2)), tt)
stands-lawful c J (rec.Sent k from to bytes) h = (tt, sends-lawful J c from to h)
stands-lawful c J _ h = (tt, tt)

plain-stands : (c : ℕ) (t : Tale) (r : Rec) → MayStand c t (plain r) → MayStand c t r
plain-stands c t (rec.Event i e) h = h
plain-stands c t (rec.Sent k from to bytes) h = h
plain-stands c t _ h = h

nobody-sends : (J : List Rec) (from to : Place) (bytes : List ℕ) → conn_of from to bytes ≡ None → OwnerSends J from to
nobody-sends J Front (Client d) bytes e = let no : Some d ≡ None = e in absurd cc
nobody-sends J (Node n) (Client d) bytes e = let no : Some d ≡ None = e in absurd cc
nobody-sends J _ _ bytes e = tt

nobody-lawful : (J : List Rec) (r : Rec) → whose r ≡ None → IsLawful J r
nobody-lawful J (rec.Took place d epoch) e = let no : Some d ≡ None = e in absurd cc
nobody-lawful J (rec.Gave place d epoch) e = let no : Some d ≡ None = e in absurd cc
nobody-lawful J (rec.Sent k from to bytes) e = (tt, nobody-sends J from to bytes e)
nobody-lawful J _ e = (tt, tt)

pub lawful-local : IsLocal IsLawful (λ c. MayBeSeen (MayStand c) c)
lawful-local = record {
  nobody = λ J r e. nobody-lawful J r e;
  somebody = λ J r c e h. stands-lawful c J r (plain-stands c (tale J c) r (subst (λ (t : Tale). MayStand c t (plain r)) (sym (tale-own J c)) h));
}
