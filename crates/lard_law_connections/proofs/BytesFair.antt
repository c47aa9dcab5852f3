-- What a packet says stays so while the client, the front end and the nodes go on.
use Rattle.std.proofs.Common.{◌≡◌, ◌⊎◌, ℕ, List, [], ◌∷◌, Ok, Some, inl, inr, ⊎_elim, ◌∙◌, subst, arith}
use Rattle.lard_law_view.specs.Prelude.{Body, Client, Front, FrontRow, Letter, Message, Node, Part, Place, Talk, decoded_message, kind_of}
use Rattle.lard_law_connections.specs.BytesAgreement.{FrontTells, IsFair, IsFairOn, IsKept, NodeTells}
use Rattle.lard_law_connections.specs.Places.{FrontSaid, HasEnded, IsDecided, IsOffered, IsOver, IsRefusalKnown, LetterMay, MaySay, NodeSaid, message_head}
use Rattle.lard_law_connections.proofs.PlacesGrowing.{Grows, decided-grows, ended-grows, offered-grows}
use Rattle.lard_law_connections.proofs.PlacesHeads.{decoded-head}
use Rattle.lard_history.proofs.Each.{Each}
use Rattle.lard_law_view.proofs.Later.{TalksOn, reply-later, word-later}
use Rattle.lard_message.specs.declared.kind.Kind.TheVariants as kind
use Rattle.lard_message.specs.declared.message.Body.TheVariants as body

-- an Offer that its node has not decided is the one that is kept, where the front end is not past it
pub told-kept : (p : Part) (n e : ℕ) (bytes : List ℕ) (row : FrontRow) → p.front.row ≡ Some row → row.epoch.0 ≡ e → (IsDecided e (p.nodes n).row → ⊥)
    → IsDecided e (p.nodes n).row ⊎ (HasEnded e p.front.row ⊎ IsKept p.front.kept bytes) → IsKept p.front.kept bytes
told-kept p n e bytes row found now not told = ⊎_elim (λ (d : IsDecided e (p.nodes n).row). absurd (not d))
    (λ (other : HasEnded e p.front.row ⊎ IsKept p.front.kept bytes). ⊎_elim
    (λ (past : HasEnded e p.front.row). let less : HasEnded e (Some row) = subst (HasEnded e) found past in absurd (omega (arith, less, now)))
    (λ (kept : IsKept p.front.kept bytes). kept) other) told

-- How a step leaves what packets speak of: an Offer that is told on is the same, and so is the end or the Give that a node tells, until
-- the front end knows it.
pub record GoesOnFairly (k l : Talk) (p q : Part) : Type 0 where
  pub talk : TalksOn k l
  pub grows : Grows p q
  pub offers : (n e : ℕ) → IsOffered n e p.front.row → IsOffered n e q.front.row → q.front.kept ≡ p.front.kept
  pub ends : (n e : ℕ) → IsOver e (p.nodes n).row → ((q.nodes n).kept ≡ (p.nodes n).kept) ⊎ HasEnded e q.front.row

module _ (k l : Talk) (c : ℕ) (p q : Part) (on : GoesOnFairly k l p q) where
  offer-on : (n e : ℕ) (bytes : List ℕ) → FrontSaid p n e kind.Offer → IsDecided e (p.nodes n).row ⊎ (HasEnded e p.front.row ⊎ IsKept p.front.kept bytes)
      → IsDecided e (q.nodes n).row ⊎ (HasEnded e q.front.row ⊎ IsKept q.front.kept bytes)
  offer-on n e bytes place told = ⊎_elim decided
      (λ (other : HasEnded e p.front.row ⊎ IsKept p.front.kept bytes). ⊎_elim
      ended
      (λ (kept : IsKept p.front.kept bytes). ⊎_elim decided
      (λ (there : IsOffered n e p.front.row ⊎ IsRefusalKnown p n e). ⊎_elim
      (λ (o : IsOffered n e p.front.row). ⊎_elim
      (λ (still : IsOffered n e q.front.row). inr (inr (kept.0, on.offers n e o still ∙ kept.1, kept.2)))
      (λ (now : IsDecided e (q.nodes n).row ⊎ IsRefusalKnown q n e). ⊎_elim
      (λ (d : IsDecided e (q.nodes n).row). inl d) (λ (known : IsRefusalKnown q n e). inr (inl known.1)) now)
      (offered-grows q.nodes n e p.front.row q.front.row on.grows.front o))
      (λ (known : IsRefusalKnown p n e). ended known.1) there)
      place) other)
      told where
        decided : IsDecided e (p.nodes n).row → IsDecided e (q.nodes n).row ⊎ (HasEnded e q.front.row ⊎ IsKept q.front.kept bytes)
        decided d = inl (decided-grows e (p.nodes n).row (q.nodes n).row (on.grows.nodes n) d)

        ended : HasEnded e p.front.row → IsDecided e (q.nodes n).row ⊎ (HasEnded e q.front.row ⊎ IsKept q.front.kept bytes)
        ended h = inr (inl (ended-grows q.nodes e p.front.row q.front.row on.grows.front h))

  end-on : (n e : ℕ) (bytes : List ℕ) → IsOver e (p.nodes n).row → HasEnded e p.front.row ⊎ IsKept (p.nodes n).kept bytes → HasEnded e q.front.row ⊎ IsKept (q.nodes n).kept bytes
  end-on n e bytes over told = ⊎_elim
      (λ (h : HasEnded e p.front.row). inl (ended-grows q.nodes e p.front.row q.front.row on.grows.front h))
      (λ (kept : IsKept (p.nodes n).kept bytes). ⊎_elim (λ (same : (q.nodes n).kept ≡ (p.nodes n).kept). inr (kept.0, same ∙ kept.1, kept.2)) (λ (h : HasEnded e q.front.row). inl h) (on.ends n e over))
      told

  -- what places says of a message, by its head
  said-front : (n : ℕ) (bytes : List ℕ) (m : Message) → decoded_message bytes ≡ Ok m → MaySay p Front (Node n) (message_head bytes) → FrontSaid p n m.epoch.0 (kind_of m.body)
  said-front n bytes m d h = subst (MaySay p Front (Node n)) (decoded-head bytes m d) h

  said-node : (n : ℕ) (bytes : List ℕ) (m : Message) → decoded_message bytes ≡ Ok m → MaySay p (Node n) Front (message_head bytes) → NodeSaid p n m.epoch.0 (kind_of m.body)
  said-node n bytes m d h = subst (MaySay p (Node n) Front) (decoded-head bytes m d) h

  front-on : (n e : ℕ) (bytes : List ℕ) (b : Body) → FrontSaid p n e (kind_of b) → FrontTells k c p n e bytes b → FrontTells l c q n e bytes b
  front-on n e bytes (body.Offer parts) said told = offer-on n e bytes said told
  front-on n e bytes (body.Forward segment) said told = (told.0, told.1, word-later k.w l.w told.0 on.talk.w told.2)
  front-on n e bytes _ said told = tt

  node-on : (n e : ℕ) (bytes : List ℕ) (b : Body) → NodeSaid p n e (kind_of b) → NodeTells p n e bytes b → NodeTells q n e bytes b
  node-on n e bytes (body.Ended reason snd rcv count) said told = end-on n e bytes said told
  node-on n e bytes (body.Give parts) said told = end-on n e bytes said.0 told
  node-on n e bytes _ said told = tt

  fair-on : (from to : Place) (bytes : List ℕ) → MaySay p from to (message_head bytes) → IsFairOn k c p from to bytes → IsFairOn l c q from to bytes
  fair-on (Client d) Front bytes may f = (f.0, f.1, word-later k.w l.w f.0 on.talk.w f.2)
  fair-on Front (Client d) bytes may f = (f.0, f.1, reply-later k l f.0 on.talk f.2)
  fair-on (Node n) (Client d) bytes may f = (f.0, f.1, reply-later k l f.0 on.talk f.2)
  fair-on Front (Node n) bytes may f = λ m d. front-on n m.epoch.0 bytes m.body (said-front n bytes m d may) (f m d)
  fair-on (Node n) Front bytes may f = λ m d. node-on n m.epoch.0 bytes m.body (said-node n bytes m d may) (f m d)
  fair-on (Client d) (Client e) bytes may f = tt
  fair-on (Client d) (Node n) bytes may f = tt
  fair-on Front Front bytes may f = tt
  fair-on (Node n) (Node m) bytes may f = tt

  pub all-on : (ls : List Letter) → Each (LetterMay p) ls → Each (IsFair k c p) ls → Each (IsFair l c q) ls
  all-on [] may f = tt
  all-on (x ∷ xs) may f = (fair-on x.from x.to x.bytes may.0 f.0, all-on xs may.1 f.1)
