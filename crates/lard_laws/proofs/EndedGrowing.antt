-- What is told of an end stays told: while its client writes on, and while the connection moves.
use Rattle.std.proofs.Common.{◌≡◌, ◌<◌, ◌^◌, ℕ, false, List, [], ◌∷◌, map, Option, Some, None, inl, inr, ⊎_elim, refl, sym, subst}
use Rattle.lard_law_view.specs.Prelude.{AtFront, Body, Client, EndedAs, FilesAt, Final, Front, FrontConn, FrontRow, GoesOn, Letter, Node, NodePart, Place, Stream, kind_of, letter}
use Rattle.lard_law_connections.specs.BytesAgreement.{IsInner, IsNodePlace}
use Rattle.lard_law_connections.proofs.BytesLater.{said-stays}
use Rattle.lard_laws.proofs.AcksMessages.{ended-same}
use Rattle.lard_laws.specs.EndedEnds.{BodyEnds, IsTrueEnd, LetterEnds, LetterEndsOn, RowEnds, StageEnds, WasClosed}
use Rattle.lard_law_connections.specs.Places.{HasEnded}
use Rattle.lard_law_connections.proofs.PlacesGrowing.{FrontGrows, ended-grows}
use Rattle.lard_law_connections.proofs.PlacesHeads.{kinds-same}
use Rattle.lard_handoff_front.specs.declared.row.FrontConn.TheVariants as stage
use Rattle.lard_history.proofs.Each.{Each}
use Rattle.lard_law_view.proofs.Agreeing.{front-grown}
use Rattle.lard_message.specs.declared.kind.Kind.TheVariants as kind
use Rattle.lard_message.specs.declared.message.Body.TheVariants as body
use Rattle.lard_rules.specs.Node.{message}
use Rattle.lard_law_view.proofs.EndpointSends.{AllTo}

-- ---- the client writes on

-- an endpoint that both sides had closed is of the client's stream still: it had taken its end, so nothing follows
pub ends-on : (files : FilesAt) (w v : Stream) (iss : ℕ) → GoesOn w v → (last : Final) → IsTrueEnd files w iss last → IsTrueEnd files v iss last
ends-on files w v iss g last h = λ why.
    let e : WasClosed files w iss last = h why in
    let was : EndedAs w e.out e.vs last = e.ended in
    record {
      out = e.out;
      vs = e.vs;
      begins = e.begins;
      says = said-stays files w v e.out e.vs g e.says;
      ended = record { block = was.block; count = was.count; held = front-grown w v g e.out e.vs false (AtFront was.block was.count) was.held; both = was.both; is = was.is };
    }

-- ---- the connection moves

module _ (P Q : Final → Type 0) (on : (last : Final) → P last → Q last) where
  stage-on : (st : FrontConn) → StageEnds P st → StageEnds Q st
  stage-on (stage.Closed last) h = on last h
  stage-on _ h = tt

  pub row-on : (o : Option FrontRow) → RowEnds P o → RowEnds Q o
  row-on None h = tt
  row-on (Some row) h = stage-on row.stage h

  module _ (nodes : ℕ → NodePart) (row next : Option FrontRow) (grows : FrontGrows nodes row next) where
    body-on : (e : ℕ) (a : Body) → BodyEnds P e row a → BodyEnds Q e next a
    body-on e (body.Ended why snd rcv count) h = ⊎_elim
        (λ (known : HasEnded e row). inl (ended-grows nodes e row next grows known))
        (λ (was : P (record { reason = why; snd = record { 0 = snd }; rcv = record { 0 = rcv } })). inr (on _ was)) h
    body-on e _ h = tt

    letter-on : (from to : Place) (bytes : List ℕ) → LetterEndsOn P row from to bytes → LetterEndsOn Q next from to bytes
    letter-on (Node n) Front bytes h = λ m e. body-on m.epoch.0 m.body (h m e)
    letter-on _ _ bytes h = tt

    pub letters-on : (ls : List Letter) → Each (LetterEnds P row) ls → Each (LetterEnds Q next) ls
    letters-on [] h = tt
    letters-on (l ∷ ls) h = (letter-on l.from l.to l.bytes h.0, letters-on ls h.1)

-- ---- packets that tell no end

module _ (P : Final → Type 0) (row : Option FrontRow) where
  -- those of the front end and of a client
  pub front-letters : (ss : List (Place × List ℕ)) → Each (LetterEnds P row) (map (letter Front) ss)
  front-letters [] = tt
  front-letters (s ∷ ss) = (tt, front-letters ss)

  pub client-letters : (c : ℕ) (ss : List (Place × List ℕ)) → Each (LetterEnds P row) (map (letter (Client c)) ss)
  client-letters c [] = tt
  client-letters c (s ∷ ss) = (tt, client-letters c ss)

  -- and what a node sends to a client
  pub reply-letters : (n c : ℕ) (ss : List (Place × List ℕ)) → AllTo (Client c) ss → Each (LetterEnds P row) (map (letter (Node n)) ss)
  reply-letters n c [] to = tt
  reply-letters n c (s ∷ ss) to = (subst (λ (p : Place). LetterEndsOn P row (Node n) p s.1) (sym to.0) tt, reply-letters n c ss to.1)

  -- or to another one
  pub inner-letters : (ls : List Letter) → Each IsInner ls → Each (LetterEnds P row) ls
  inner-letters [] h = tt
  inner-letters (l ∷ ls) h = (one l.from l.to h.0.0 h.0.1, inner-letters ls h.1) where
    one : (from to : Place) → IsNodePlace from → IsNodePlace to → LetterEndsOn P row from to l.bytes
    one (Node n) (Node m) f t = tt
    one (Node n) _ f t = absurd t
    one _ to f t = absurd f

  -- a message of another kind
  pub other-ends : (n c e : ℕ) (a : Body) → (kind_of a ≡ kind.Ended → ⊥) → LetterEndsOn P row (Node n) Front (message c e a)
  other-ends n c e a ended m d = go m.body (kinds-same (record { c = c; epoch = record { 0 = e }; body = a }) m d) where
    go : (z : Body) → kind_of a ≡ kind_of z → BodyEnds P m.epoch.0 row z
    go (body.Ended why snd rcv count) is = absurd (ended is)
    go _ is = tt

  -- The end that a node tells has the last numbers.
  pub ended-ends : (n c e count : ℕ) (last : Final) → last.snd.0 < 2 ^ 32 → last.rcv.0 < 2 ^ 32 → P last → LetterEndsOn P row (Node n) Front (message c e (body.Ended last.reason last.snd.0 last.rcv.0 count))
  ended-ends n c e count last snd_fits rcv_fits h m d = go m.body refl where
    go : (a : Body) → m.body ≡ a → BodyEnds P m.epoch.0 row a
    go (body.Ended why snd rcv k) is = inr (subst P (ended-same c e count last snd_fits rcv_fits m why snd rcv k d is) h)
    go _ is = tt
