-- What was acknowledged may still be acknowledged when more was taken; and what packets say stays so while their connection moves.
use Rattle.std.proofs.Common.{◌≡◌, ◌⊎◌, ℕ, ◌≤◌, true, List, [], ◌∷◌, map, Option, Some, None, Result, Ok, inl, inr, ⊎_elim, sym, ap, ◌∙◌, subst, arith}
use Rattle.lard_law_view.specs.Prelude.{BackConn, BackRow, Body, Client, Ending, EndpointParts, Final, Front, FrontConn, FrontRow, Letter, Node, Part, Place, Said, SegFault, ToClient, ToCluster, decoded, kind_of, letter}
use Rattle.lard_laws.specs.Acks.{BackActs, Bounds, EndActs, FrontActs, FrontBodyActs, LetterActs, LetterActsOn, NodeBodyActs, PartsAct, ReplyActs, WordActs}
use Rattle.lard_law_connections.specs.Places.{FrontSaid, HasEnded, IsDecided, IsOffered, IsOver, IsRefusalKnown, LetterMay, MaySay, NodeSaid, message_head}
use Rattle.lard_law_connections.proofs.PlacesGrowing.{Grows, decided-grows, ended-grows}
use Rattle.lard_law_connections.proofs.PlacesHeads.{decoded-head}
use Rattle.lard_handoff_back.specs.declared.row.BackConn.TheVariants as back
use Rattle.lard_handoff_front.specs.declared.row.FrontConn.TheVariants as stage
use Rattle.lard_history.proofs.Each.{Each}
use Rattle.lard_law_view.proofs.Acked.{heard_at, RepliesMay, ReplyMay, WordMay, WordsMay}
use Rattle.lard_law_view.proofs.Holding.{acks-more}
use Rattle.lard_message.specs.declared.kind.Kind.TheVariants as kind
use Rattle.lard_message.specs.declared.message.Body.TheVariants as body
use Rattle.lard_rules.specs.declared.places.Ending.TheVariants as ending
use Rattle.lard_segment.proofs.Again.{again}

-- between the same numbers more is taken, and what was told stays told
pub record Widens (b d : Bounds) : Type 0 where
  pub isn : d.isn ≡ b.isn
  pub iss : d.iss ≡ b.iss
  pub heard : b.heard ≤ d.heard
  pub taken : b.taken ≤ d.taken
  pub aborted : b.aborted ≡ true → d.aborted ≡ true

module _ (b d : Bounds) (w : Widens b d) where
  word-more : (s : Said) → WordMay b.iss b.taken b.aborted s → WordMay d.iss d.taken d.aborted s
  word-more s h = record {
    acks = λ e. acks-more b.iss d.iss b.taken d.taken s.ack w.iss w.taken (h.acks e);
    resets = λ e. w.aborted (h.resets e);
  }

  reply-more : (s : Said) → ReplyMay b.isn b.heard s → ReplyMay d.isn d.heard s
  reply-more s r e = acks-more b.isn d.isn b.heard d.heard s.ack w.isn w.heard (r e)

  pub words-more : (c : ℕ) (bytes : List ℕ) → WordActs c b bytes → WordActs c d bytes
  words-more c bytes h s is = word-more s (h s is)

  replies-more : (c : ℕ) (bytes : List ℕ) → ReplyActs c b bytes → ReplyActs c d bytes
  replies-more c bytes h s is = reply-more s (h s is)

  -- where no more was heard
  module _ (same : d.heard ≡ b.heard) where
    parts-more : (parts : EndpointParts) → PartsAct b parts → PartsAct d parts
    parts-more parts h = let una = h.acknowledged in let taken = w.taken in record { heard = same ∙ h.heard; acknowledged = omega arith }

    pub end-more : (e : Ending) → EndActs b e → EndActs d e
    end-more (ending.Here block count) h = (same ∙ h.0, (let una = h.1.0 in let taken = w.taken in omega arith, λ e. w.aborted (h.1.1 e)))
    end-more (ending.Over last) h = (
      same ∙ h.0 ∙ ap (λ n. heard_in n last) (sym w.isn),
      (λ e. acks-more b.iss d.iss b.taken d.taken last.snd.0 w.iss w.taken (h.1.0 e), λ e. w.aborted (h.1.1 e)),
    ) where
      heard_in : ℕ → Final → ℕ
      heard_in n last = heard_at n (ending.Over last)

    front-stage-more : (st : FrontConn) → FrontActs b (Some (record { stage = st; epoch = record { 0 = 0 }; ended_by = None })) → FrontActs d (Some (record { stage = st; epoch = record { 0 = 0 }; ended_by = None }))
    front-stage-more (stage.Held block) h = end-more (ending.Here block 0) h
    front-stage-more (stage.Waiting block) h = end-more (ending.Here block 0) h
    front-stage-more stage.Lent h = tt
    front-stage-more (stage.Offering n e) h = tt
    front-stage-more (stage.Moved n e) h = tt
    front-stage-more (stage.Closed last) h = end-more (ending.Over last) h

    pub front-more : (o : Option FrontRow) → FrontActs b o → FrontActs d o
    front-more None h = same ∙ h
    front-more (Some row) h = front-stage-more row.stage h

    back-stage-more : (st : BackConn) → BackActs b (Some (record { stage = st; epoch = record { 0 = 0 } })) → BackActs d (Some (record { stage = st; epoch = record { 0 = 0 } }))
    back-stage-more (back.Here block) h = end-more (ending.Here block 0) h
    back-stage-more _ h = tt

    pub back-more : (o : Option BackRow) → BackActs b o → BackActs d o
    back-more None h = tt
    back-more (Some row) h = back-stage-more row.stage h

-- ---- packets

-- How a move leaves what packets speak of: where more was heard, each Offer is decided by then, and each end of a stay is known.
pub record GoesOn (b d : Bounds) (p q : Part) : Type 0 where
  pub widens : Widens b d
  pub grows : Grows p q
  pub offers : (d.heard ≡ b.heard) ⊎ ((n e : ℕ) → IsOffered n e p.front.row → IsDecided e (q.nodes n).row)
  pub ends : (d.heard ≡ b.heard) ⊎ ((n e : ℕ) → IsOver e (p.nodes n).row → HasEnded e p.front.row)

module _ (c : ℕ) (b d : Bounds) (p q : Part) (on : GoesOn b d p q) where
  decided-on : (n e : ℕ) → IsDecided e (p.nodes n).row → IsDecided e (q.nodes n).row
  decided-on n e h = decided-grows e (p.nodes n).row (q.nodes n).row (on.grows.nodes n) h

  ended-on : (e : ℕ) → HasEnded e p.front.row → HasEnded e q.front.row
  ended-on e h = ended-grows q.nodes e p.front.row q.front.row on.grows.front h

  offer-on : (n e : ℕ) (parts : EndpointParts) → FrontSaid p n e kind.Offer → FrontBodyActs c b p n e (body.Offer parts)
      → FrontBodyActs c d q n e (body.Offer parts)
  offer-on n e parts said h = ⊎_elim decided (λ other. ⊎_elim ended acts other) h where
    decided : IsDecided e (p.nodes n).row → FrontBodyActs c d q n e (body.Offer parts)
    decided f = inl (decided-on n e f)

    ended : HasEnded e p.front.row → FrontBodyActs c d q n e (body.Offer parts)
    ended f = inr (inl (ended-on e f))

    acts : PartsAct b parts → FrontBodyActs c d q n e (body.Offer parts)
    acts act = ⊎_elim
        (λ (same : d.heard ≡ b.heard). inr (inr (parts-more b d on.widens same parts act)))
        (λ (all : (n e : ℕ) → IsOffered n e p.front.row → IsDecided e (q.nodes n).row). ⊎_elim decided
        (λ (other : IsOffered n e p.front.row ⊎ IsRefusalKnown p n e). ⊎_elim
        (λ (offered : IsOffered n e p.front.row). inl (all n e offered)) (λ (known : IsRefusalKnown p n e). ended known.1) other) said)
        on.offers

  end-on : (n e : ℕ) (x : Ending) → IsOver e (p.nodes n).row → HasEnded e p.front.row ⊎ EndActs b x → HasEnded e q.front.row ⊎ EndActs d x
  end-on n e x over h = ⊎_elim
      (λ (ended : HasEnded e p.front.row). inl (ended-on e ended))
      (λ (act : EndActs b x). ⊎_elim
      (λ (same : d.heard ≡ b.heard). inr (end-more b d on.widens same x act))
      (λ (all : (n e : ℕ) → IsOver e (p.nodes n).row → HasEnded e p.front.row). inl (ended-on e (all n e over)))
      on.ends) h

  front-body-on : (n e : ℕ) (a : Body) → FrontSaid p n e (kind_of a) → FrontBodyActs c b p n e a → FrontBodyActs c d q n e a
  front-body-on n e (body.Offer parts) said h = offer-on n e parts said h
  front-body-on n e (body.Forward segment) said h = words-more b d on.widens c segment h
  front-body-on n e _ said h = tt

  node-body-on : (n e : ℕ) (a : Body) → NodeSaid p n e (kind_of a) → NodeBodyActs b e p.front.row a → NodeBodyActs d e q.front.row a
  node-body-on n e (body.Ended reason snd rcv count) said h = end-on n e (ending.Over (record { reason = reason; snd = record { 0 = snd }; rcv = record { 0 = rcv } })) said h
  node-body-on n e _ said h = tt

  letter-on : (from to : Place) (bytes : List ℕ) → MaySay p from to (message_head bytes) → LetterActsOn c b p from to bytes → LetterActsOn c d q from to bytes
  letter-on (Client e) Front bytes said h = words-more b d on.widens c bytes h
  letter-on Front (Client e) bytes said h = replies-more b d on.widens c bytes h
  letter-on (Node n) (Client e) bytes said h = replies-more b d on.widens c bytes h
  letter-on Front (Node n) bytes said h = λ m e. front-body-on n m.epoch.0 m.body (subst (MaySay p Front (Node n)) (decoded-head bytes m e) said) (h m e)
  letter-on (Node n) Front bytes said h = λ m e. node-body-on n m.epoch.0 m.body (subst (MaySay p (Node n) Front) (decoded-head bytes m e) said) (h m e)
  letter-on _ _ bytes said h = tt

  pub letters-on : (ls : List Letter) → Each (LetterMay p) ls → Each (LetterActs c b p) ls → Each (LetterActs c d q) ls
  letters-on [] said h = tt
  letters-on (l ∷ ls) said h = (letter-on l.from l.to l.bytes said.0 h.0, letters-on ls said.1 h.1)

-- ---- what goes out in a turn

same-said : (a b : Said) → ◌≡◌ {A = Result Said SegFault} (Ok a) (Ok b) → a ≡ b
same-said a b e = cc

module _ (c : ℕ) (b : Bounds) (p : Part) where
  pub words-act : (d : ℕ) (ss : List (Place × List ℕ)) → WordsMay c b.iss b.taken b.aborted ss → Each (LetterActs c b p) (map (letter (Client d)) ss)
  words-act d [] may = tt
  words-act d (s ∷ ss) may = (go s.0, words-act d ss may.1) where
    said : Said
    said = may.0.0

    says : WordActs c b s.1
    says t e =
        let same : said ≡ t = same-said said t (sym (again c ToCluster said may.0.2) ∙ ap (λ l. decoded l c ToCluster) (sym may.0.1) ∙ e) in
        subst (λ (u : Said). WordMay b.iss b.taken b.aborted u) same may.0.3

    go : (to : Place) → LetterActsOn c b p (Client d) to s.1
    go Front = says
    go _ = tt

  pub replies-act : (place : Place) (ss : List (Place × List ℕ)) → RepliesMay c b.isn b.heard ss → Each (LetterActs c b p) (map (letter place) ss)
  replies-act place [] may = tt
  replies-act place (s ∷ ss) may = (subst (λ (to : Place). LetterActsOn c b p place to s.1) (sym may.0.0) (go place), replies-act place ss may.1) where
    said : Said
    said = may.0.1.0

    says : ReplyActs c b s.1
    says t e =
        let same : said ≡ t = same-said said t (sym (again c ToClient said may.0.1.2) ∙ ap (λ l. decoded l c ToClient) (sym may.0.1.1) ∙ e) in
        subst (λ (u : Said). ReplyMay b.isn b.heard u) same may.0.1.3

    go : (from : Place) → LetterActsOn c b p from (Client c) s.1
    go Front = says
    go (Node n) = says
    go (Client d) = tt
