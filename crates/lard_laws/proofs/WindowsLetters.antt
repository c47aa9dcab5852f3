-- What goes out reaches, where each segment does; and it goes on as more is sent.
use Rattle.std.proofs.Common.{◌≡◌, ◌⊎◌, ◌≤◌, ℕ, List, [], ◌∷◌, map, Result, Ok, inl, inr, refl, sym, ap, ◌∙◌, subst, arith}
use Rattle.lard_law_view.specs.Prelude.{Client, Front, IsMachine, IsSendable, Letter, Node, Place, Said, SegFault, ToClient, decoded, letter}
use Rattle.lard_law_connections.proofs.SilenceTurns.{AreTold}
use Rattle.lard_law_view.proofs.Saying.{AreMessages}
use Rattle.lard_laws.specs.Windows.{BytesReach, LetterReaches, LetterReachesOn, ReachesFar}
use Rattle.lard_history.proofs.Each.{Each, Each-weaker}
use Rattle.lard_segment.proofs.Again.{again}

-- ---- as more is sent

reach-more : (isn iss n m : ℕ) → n ≤ m → (s : Said) → ReachesFar isn iss n s → ReachesFar isn iss m s
reach-more isn iss n m le s r = record { wide = r.wide; ends = λ rst some. let e = r.ends rst some in omega (arith, e, le) }

module _ (c isn iss n m : ℕ) (le : n ≤ m) where
  on-more : (from to : Place) (bytes : List ℕ) → LetterReachesOn c isn iss n from to bytes → LetterReachesOn c isn iss m from to bytes
  on-more Front (Client d) bytes r = λ s e. reach-more isn iss n m le s (r s e)
  on-more (Node k) (Client d) bytes r = λ s e. reach-more isn iss n m le s (r s e)
  on-more _ _ bytes r = tt

  pub letters-more : (ls : List Letter) → Each (LetterReaches c isn iss n) ls → Each (LetterReaches c isn iss m) ls
  letters-more ls h = Each-weaker (LetterReaches c isn iss n) (LetterReaches c isn iss m) (λ l r. on-more l.from l.to l.bytes r) ls h

-- ---- what goes out

pub same-said : (a b : Said) → ◌≡◌ {A = Result Said SegFault} (Ok a) (Ok b) → a ≡ b
same-said a b e = cc

module _ (c isn iss u : ℕ) where
  from-machine : (place : Place) (bytes : List ℕ) → IsMachine place → BytesReach c isn iss u bytes → LetterReachesOn c isn iss u place (Client c) bytes
  from-machine Front bytes m r = r
  from-machine (Node n) bytes m r = r
  from-machine (Client d) bytes m r = absurd m

  -- segments to the client
  pub told-reach : (Q : Type 0) (place : Place) → IsMachine place → (ss : List (Place × List ℕ)) → AreTold c (λ (s : Said). IsSendable s × ReachesFar isn iss u s × Q) ss → Each (LetterReaches c isn iss u) (map (letter place) ss)
  told-reach Q place m [] told = tt
  told-reach Q place m (p ∷ ps) told = (subst (λ (to : Place). LetterReachesOn c isn iss u place to p.1) (sym told.0.0) (from-machine place p.1 m reach), told-reach Q place m ps told.1) where
    said : Said
    said = told.0.1.0

    reach : BytesReach c isn iss u p.1
    reach s e =
        let same : said ≡ s = same-said said s (sym (again c ToClient said told.0.1.2.0) ∙ ap (λ l. decoded l c ToClient) (sym told.0.1.1) ∙ e) in
        subst (λ (t : Said). ReachesFar isn iss u t) same told.0.1.2.1

  -- messages are no segments
  to-machine : (from to : Place) (bytes : List ℕ) → IsMachine to → LetterReachesOn c isn iss u from to bytes
  to-machine Front Front bytes m = tt
  to-machine (Node k) Front bytes m = tt
  to-machine (Client d) Front bytes m = tt
  to-machine Front (Node n) bytes m = tt
  to-machine (Node k) (Node n) bytes m = tt
  to-machine (Client d) (Node n) bytes m = tt
  to-machine from (Client d) bytes m = absurd m

  pub messages-reach : (place : Place) (ms : List (Place × List ℕ)) → AreMessages c place ms → Each (LetterReaches c isn iss u) (map (letter place) ms)
  messages-reach place [] all = tt
  messages-reach place (p ∷ ps) all = (to-machine place p.0 p.1 all.0.0, messages-reach place ps all.1)

  -- what a client sends is none of the cluster's
  from-client : (d : ℕ) (to : Place) (bytes : List ℕ) → LetterReachesOn c isn iss u (Client d) to bytes
  from-client d _ bytes = tt

  pub words-reach : (d : ℕ) (ps : List (Place × List ℕ)) → Each (LetterReaches c isn iss u) (map (letter (Client d)) ps)
  words-reach d [] = tt
  words-reach d (p ∷ ps) = (from-client d p.0 p.1, words-reach d ps)

-- what is known of any segment that goes out is known, or none goes out
pub by-told : (c : ℕ) (A : Said → Type 0) (Q : Type 0) → ((s : Said) → A s → Q) → (ss : List (Place × List ℕ)) → AreTold c A ss → (ss ≡ []) ⊎ Q
by-told c A Q f [] told = inl refl
by-told c A Q f (p ∷ ps) told = inr (f told.0.1.0 told.0.1.2)
