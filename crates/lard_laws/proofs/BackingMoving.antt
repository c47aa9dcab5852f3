-- A move is right, where its notes and its messages are.
use Rattle.std.proofs.Common.{◌≡◌, ℕ, Bool, true, false, cond, is_some, List, [], ◌∷◌, map, refl, sym, subst}
use Rattle.lard_law_view.specs.Prelude.{AreSent, Body, Client, Conn, FilesAt, Front, Kept, Move, Node, Place, Rec, kind_of, letter, named_records, sent_of, whose}
use Rattle.lard_laws.specs.BackingState.{BodyFor, FetchesFor, LetterFor, SaysFor}
use Rattle.lard_laws.proofs.BackingRows.{Backs, IsBackedMove, backed-move}
use Rattle.lard_law_connections.proofs.BytesLaw.{Helps}
use Rattle.lard_law_connections.proofs.BytesClientMoves.{has-fair}
use Rattle.lard_law_connections.proofs.PlacesHeads.{kinds-same}
use Rattle.lard_laws.specs.WaysState.{GoesItsWay, marks_at}
use Rattle.lard_history.proofs.Each.{Each}
use Rattle.lard_message.specs.declared.kind.Kind.TheVariants as kind
use Rattle.lard_message.specs.declared.message.Body.TheVariants as body
use Rattle.lard_rules.specs.Node.{message}
use Rattle.lard_law_view.proofs.EndpointSends.{AllTo}

-- what a move owes
abbrev pub Keeps : FilesAt → Conn → Move → Type 0
Keeps files x v = Helps x v → GoesItsWay files x → FetchesFor files x → IsBackedMove files x v

-- ---- packets

module _ (files : FilesAt) (wrote : List ℕ) where
  -- a client is sent no Fetch, and the front end and clients send none
  pub clients-for : (place : Place) (c : ℕ) (ss : List (Place × List ℕ)) → AllTo (Client c) ss → Each (LetterFor files wrote) (map (letter place) ss)
  clients-for place c [] h = tt
  clients-for place c (s ∷ ss) h = (one place s.0 h.0, clients-for place c ss h.1) where
    one : (from to : Place) → to ≡ Client c → SaysFor files wrote from to s.1
    one (Node n) to e = subst (λ (q : Place). SaysFor files wrote (Node n) q s.1) (sym e) tt
    one _ to e = tt

  pub others-for : (place : Place) → ((n : ℕ) → place ≡ Node n → ⊥) → (ss : List (Place × List ℕ)) → Each (LetterFor files wrote) (map (letter place) ss)
  others-for place other [] = tt
  others-for Front other (s ∷ ss) = (tt, others-for Front other ss)
  others-for (Client c) other (s ∷ ss) = (tt, others-for (Client c) other ss)
  others-for (Node n) other (s ∷ ss) = absurd (other n refl)

  -- what a node says
  pub nodes-for : (n : ℕ) (ss : List (Place × List ℕ)) → Each (λ s. SaysFor files wrote (Node n) s.0 s.1) ss → Each (LetterFor files wrote) (map (letter (Node n)) ss)
  nodes-for n [] h = tt
  nodes-for n (s ∷ ss) h = (h.0, nodes-for n ss h.1)

  -- a content is no Fetch
  no-fetch : (n m : ℕ) (b : Body) → kind.Content ≡ kind_of b → BodyFor files wrote n m b
  no-fetch n m (body.Fetch r path) e = let no : kind.Content ≡ kind.Fetch = e in absurd (let f : ⊥ = cc in f)
  no-fetch n m _ e = tt

  pub content-for : (n m c e r : ℕ) (file : List ℕ) → SaysFor files wrote (Node n) (Node m) (message c e (body.Content r file))
  content-for n m c e r file = λ msg d. no-fetch n m msg.body (kinds-same (record { c = c; epoch = record { 0 = e }; body = body.Content r file }) msg d)

-- what is held was sent before
pub again-for : (files : FilesAt) (x : Conn) (n : ℕ) (ks : List Kept) → AreSent x (Node n) ks → FetchesFor files x → Each (λ s. SaysFor files (marks_at x).wrote (Node n) s.0 s.1) (map sent_of ks)
again-for files x n [] h old = tt
again-for files x n (k ∷ ks) h old = (has-fair (LetterFor files (marks_at x).wrote) (record { from = Node n; to = k.to; bytes = k.bytes }) x.letters h.0.1 old, again-for files x n ks h.1 old)

-- ---- a move

pub each-named : (P : Rec → Type 0) (rs : List Rec) → Each P rs → Each P (named_records rs)
each-named P [] h = tt
each-named P (y ∷ ys) h = go (is_some (whose y)) (each-named P ys h.1) where
  go : (b : Bool) → Each P (named_records ys) → Each P (cond b (y ∷ named_records ys) (named_records ys))
  go true k = (h.0, k)
  go false k = k

pub makes : (files : FilesAt) (x : Conn) (v : Move) → Backs files (marks_at x) v.said.notes → Each (LetterFor files (marks_at x).wrote) (map (letter v.place) v.said.segments) → Each (LetterFor files (marks_at x).wrote) (map (letter v.place) v.said.messages) → Keeps files x v
makes files x v notes ss ms help g old = backed-move files x v help.own help.heads notes ss ms old
