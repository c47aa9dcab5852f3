-- What a turn says is of its connection, and what is held then was held before or is sent now.
use Rattle.std.proofs.Common.{◌≡◌, ℕ, ◌+◌, List, [], ◌∷◌, ◌++◌, map, Some, refl, sym, ap, subst, inl, inr, ⊎_elim}
use Rattle.std.specs.Prelude.{◌⊎◌}
use Rattle.std.specs.List.{AllByRecursion, fold}
use Rattle.lard_law_view.specs.Prelude.{AreBetween, AreSent, Body, Client, Conn, Front, GoesBetween, Has, IsConnNumber, IsMachine, Kept, Letter, Node, Place, Rec, Was, answered_step, letter, named_in, sent_of, spelled_message}
use Rattle.lard_law_view.proofs.Naming.{spelled-named}
use Rattle.lard_law_view.proofs.Saying.{AllBetween, AreMessages, GaveAt, NotedAt, NotedIn}
use Rattle.lard_history.proofs.Each.{Each, Each-weaker}
use Rattle.lard_history.proofs.Seeing.{has-before, has-behind, has-each}
use Rattle.lard_law_view.proofs.EndpointSends.{AllTo}

-- ---- what a turn says

-- all that a place says in a turn is of connection c
pub record IsSaid (place : Place) (c : ℕ) (ns : List Rec) (ss : List (Place × List ℕ)) (gs : List Rec) (ms : List (Place × List ℕ)) (answered : ℕ) : Type 0 where
  pub notes : Each (NotedAt place c) ns
  pub segments : AllBetween c place ss
  pub gave : Each (GaveAt place c) gs
  pub messages : AreMessages c place ms
  pub counted : (n : ℕ) → fold answered_step n ns ≡ n + answered

-- so in a step, in which what names nobody may stand among the notes
pub record IsSaidIn (place : Place) (c : ℕ) (ns : List Rec) (ss : List (Place × List ℕ)) (gs : List Rec) (ms : List (Place × List ℕ)) (answered : ℕ) : Type 0 where
  pub notes : Each (NotedIn place c) ns
  pub segments : AllBetween c place ss
  pub gave : Each (GaveAt place c) gs
  pub messages : AreMessages c place ms
  pub counted : (n : ℕ) → fold answered_step n ns ≡ n + answered

pub notes-in : (place : Place) (c : ℕ) (ns : List Rec) → Each (NotedAt place c) ns → Each (NotedIn place c) ns
notes-in place c ns h = Each-weaker (NotedAt place c) (NotedIn place c) (λ r k. inl k) ns h

pub said-in : (place : Place) (c : ℕ) (ns : List Rec) (ss : List (Place × List ℕ)) (gs : List Rec) (ms : List (Place × List ℕ)) (answered : ℕ)
    → IsSaid place c ns ss gs ms answered → IsSaidIn place c ns ss gs ms answered
said-in place c ns ss gs ms answered h = record { notes = notes-in place c ns h.notes; segments = h.segments; gave = h.gave; messages = h.messages; counted = h.counted }

-- what an endpoint sends to its client
pub front-segments : (c : ℕ) (ss : List (Place × List ℕ)) → AllTo (Client c) ss → AllBetween c Front ss
front-segments c ss to = Each-weaker (λ s. s.0 ≡ Client c) (λ s. GoesBetween c Front s.0 s.1) (λ s e. subst (λ (q : Place). GoesBetween c Front q s.1) (sym e) refl) ss to

pub node-segments : (n c : ℕ) (ss : List (Place × List ℕ)) → AllTo (Client c) ss → AllBetween c (Node n) ss
node-segments n c ss to = Each-weaker (λ s. s.0 ≡ Client c) (λ s. GoesBetween c (Node n) s.0 s.1) (λ s e. subst (λ (q : Place). GoesBetween c (Node n) q s.1) (sym e) refl) ss to

-- what a client sends
pub client-segments : (c : ℕ) (ss : List (Place × List ℕ)) → AllTo Front ss → AllBetween c (Client c) ss
client-segments c ss to = Each-weaker (λ s. s.0 ≡ Front) (λ s. GoesBetween c (Client c) s.0 s.1) (λ s e. subst (λ (q : Place). GoesBetween c (Client c) q s.1) (sym e) refl) ss to

-- a message that is spelled names its connection
pub spelled : (c epoch : ℕ) (b : Body) → IsConnNumber c → named_in (spelled_message (record { c = c; epoch = record { 0 = epoch }; body = b })) ≡ Some c
spelled c epoch b number = spelled-named (record { c = c; epoch = record { 0 = epoch }; body = b }) number

-- ---- what is held

-- it is sent in the turn, or was held before
abbrev pub HeldBy : List (Place × List ℕ) → List Kept → Kept → Type 0
HeldBy messages old k = Has (sent_of k) messages ⊎ Has k old

abbrev pub AreHeld : List (Place × List ℕ) → List Kept → List Kept → Type 0
AreHeld messages old ks = AllByRecursion (HeldBy messages old) ks

module _ {A : Type 0} (P Q : A → Type 0) (w : (a : A) → P a → Q a) where
  pub all-weaker : (xs : List A) → AllByRecursion P xs → AllByRecursion Q xs
  all-weaker [] e = tt
  all-weaker (a ∷ xs) e = (w a e.0, all-weaker xs e.1)

pub all-has : {A : Type 0} (xs : List A) → AllByRecursion (λ a. Has a xs) xs
all-has [] = tt
all-has (a ∷ xs) = (inl refl, all-weaker (λ b. Has b xs) (λ b. Has b (a ∷ xs)) (λ b h. inr h) xs (all-has xs))

-- what was held is held
pub as-held : (messages : List (Place × List ℕ)) (old : List Kept) → AreHeld messages old old
as-held messages old = all-weaker (λ k. Has k old) (HeldBy messages old) (λ k h. inr h) old (all-has old)

pub has-map : {A B : Type 0} (f : A → B) (a : A) (xs : List A) → Has a xs → Has (f a) (map f xs)
has-map f a [] h = absurd h
has-map f a (b ∷ xs) h = ⊎_elim (λ (e : b ≡ a). inl (ap f e)) (λ (k : Has a xs). inr (has-map f a xs k)) h

pub has-all : {A : Type 0} (P : A → Type 0) (a : A) (xs : List A) → Has a xs → AllByRecursion P xs → P a
has-all P a [] h e = absurd h
has-all P a (b ∷ xs) h e = ⊎_elim (λ (s : b ≡ a). subst P s e.0) (λ (k : Has a xs). has-all P a xs k e.1) h

-- ---- what was sent of what is held

pub between-has : (c : ℕ) (l : Letter) (ls : List Letter) → Has l ls → AreBetween c ls → GoesBetween c l.from l.to l.bytes
between-has c l [] h e = absurd h
between-has c l (x ∷ xs) h e = ⊎_elim (λ (s : x ≡ l). subst (λ (k : Letter). GoesBetween c k.from k.to k.bytes) s e.0) (λ (k : Has l xs). between-has c l xs k e.1) h

-- it goes to another machine of the cluster, and names the connection
pub sent-messages : (x : Conn) (place : Place) (ks : List Kept) → AreBetween x.c x.letters → AreSent x place ks → AreMessages x.c place (map sent_of ks)
sent-messages x place [] between e = tt
sent-messages x place (k ∷ ks) between e = ((e.0.0, between-has x.c (letter place (sent_of k)) x.letters e.0.1 between), sent-messages x place ks between e.1)

-- what is held after a turn was sent then, or before
module _ (x y : Conn) (place : Place) (messages : List (Place × List ℕ)) (first : List Letter) (letters : y.letters ≡ x.letters ++ (first ++ map (letter place) messages)) where
  pub held-sent : (old ks : List Kept) → AreMessages x.c place messages → AreSent x place old → AreHeld messages old ks → AreSent y place ks
  held-sent old ks of sent held = all-weaker (HeldBy messages old) (λ k. IsMachine k.to × Was y place k.to k.bytes) one ks held where
    one : (k : Kept) → HeldBy messages old k → IsMachine k.to × Was y place k.to k.bytes
    one k h = ⊎_elim
        (λ (now : Has (sent_of k) messages). (
          (has-each (sent_of k) (λ s. IsMachine s.0 × GoesBetween x.c place s.0 s.1) messages now of).0,
          subst (λ (ls : List Letter). Has (letter place (sent_of k)) ls) (sym letters)
              (has-behind (letter place (sent_of k)) x.letters (first ++ map (letter place) messages)
              (has-behind (letter place (sent_of k)) first (map (letter place) messages) (has-map (letter place) (sent_of k) messages now))),
        ))
        (λ (before : Has k old). let was = has-all (λ k. IsMachine k.to × Was x place k.to k.bytes) k old before sent in (
          was.0,
          subst (λ (ls : List Letter). Has (letter place (sent_of k)) ls) (sym letters) (has-before (letter place (sent_of k)) x.letters (first ++ map (letter place) messages) was.1),
        ))
        h
