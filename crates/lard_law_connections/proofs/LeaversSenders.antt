-- In every run, who refuses a connection or gives it back leaves.
use Rattle.std.proofs.Common.{◌≡◌, ⊎_elim, ℕ, true, false, List, Option, Some, None, inl, inr, sym, subst}
use Rattle.lard_law_connections.proofs.Forms.{ComesToFront}
use Rattle.lard_law_connections.proofs.LeaversMoves.{IsToldSo, LetterTells, Owes, SendersLeave, leave-more, owing, told-more}
use Rattle.lard_law_connections.proofs.LeaversSteps.{still-leaves}
use Rattle.lard_law_connections.proofs.LeaversTold.{HasDecided, HasSentBack, MayTell}
use Rattle.lard_law_connections.proofs.PlacesFrontRules.{has-each}
use Rattle.lard_law_connections.proofs.PlacesHeads.{decoded-head}
use Rattle.lard_law_view.proofs.Carried.{carried, carried-leaving}
use Rattle.lard_law_view.proofs.Guarded.{weaker}
use Rattle.lard_law_view.proofs.Heads.{was}
use Rattle.lard_law_view.proofs.Naming.{decoded-names}
use Rattle.lard_law_view.proofs.Shapes.{HearsReturn}
use Rattle.lard_law_view.specs.Prelude.{Config, Conn, EndpointParts, Event, Front, IsLaw, IsReached, Machine, MayRestOn, Node, NodePart, OfEach, Setting, SpellsMessage, Was, back_body, conn, grown, kind_of, setting, which_leave, with_leaving}
use Rattle.lard_rules.specs.declared.front.FrontIn.TheVariants as input

-- ---- what was said is so

-- nothing more is given
abbrev Anything : Conn → Type 0
Anything x = Unit {0}

told-law : (k : Setting) → IsLaw k Anything IsToldSo
told-law k = record {
  begins = λ c. tt;
  moves = weaker k (λ x v. MayRestOn Anything x → IsToldSo x → Owes k.leaving x v) (λ x v. MayRestOn Anything x → IsToldSo x → IsToldSo (grown x v))
      (λ x v owes may told. told-more k.leaving x v (owes may told) told) (owing k Anything);
}

-- who sent it back leaves, where what was said is so
leave-law : (k : Setting) → IsLaw k IsToldSo (SendersLeave k.leaving)
leave-law k = record {
  begins = λ c n sent. ⊎_elim (λ (h : false ≡ true). absurd cc) (λ (h : false ≡ true). absurd cc) sent;
  moves = weaker k (λ x v. MayRestOn IsToldSo x → IsToldSo x → Owes k.leaving x v) (λ x v. MayRestOn IsToldSo x → SendersLeave k.leaving x → SendersLeave k.leaving (grown x v))
      (λ x v owes may h. leave-more k.leaving x v (owes may may.given) h) (owing k IsToldSo);
}

module _ (config : Config) (files : List (List ℕ × List ℕ)) where
  pub each-told : OfEach config files IsToldSo
  each-told = carried config files Anything IsToldSo (λ l. told-law (with_leaving (setting config files) l)) (λ m r q. tt)

  pub senders-leave : (m : Machine) → IsReached config files m → (q : ℕ) → SendersLeave (which_leave m) (conn m q)
  senders-leave = carried-leaving config files (λ l. IsToldSo) SendersLeave
      (λ m n e rule is x h i sent. still-leaves m n e is i (h i sent)) (λ l. leave-law (with_leaving (setting config files) l)) each-told

  -- it says what it decided
  said-back : (p : NodePart) (given : Option EndpointParts) → HasDecided p (kind_of (back_body given)) → HasSentBack p
  said-back p None h = inl h
  said-back p (Some parts) h = inr h

  -- so a node of which a connection comes back leaves
  pub returns-leave : (m : Machine) → IsReached config files m → (e : Event) (c from : ℕ) → HearsReturn m e c from → which_leave m from ≡ true
  unfolding conn
  returns-leave m r e c from h =
      let x : Conn = conn m c in
      let sent : Was x (Node from) Front h.packet.bytes = was m h.k c h.packet h.at (Node from) Front h.sender h.goal
      (decoded-names (record { c = c; epoch = record { 0 = h.epoch }; body = back_body h.given }) h.packet.bytes h.spells).named in
      let says = has-each (LetterTells x.part) (record { from = Node from; to = Front; bytes = h.packet.bytes }) x.letters sent (each-told m r c) in
      senders-leave m r c from (said-back (x.part.nodes from) h.given (subst (MayTell (x.part.nodes from) Front) (decoded-head h.packet.bytes _ h.spells) says))

  -- what comes to the front end is such a message
  pub back-leaves : (m : Machine) → IsReached config files m → (e : Event) (n : ℕ) (bytes : List ℕ) → ComesToFront m e (input.Message n bytes) → (c epoch : ℕ)
      (given : Option EndpointParts) → SpellsMessage c epoch (back_body given) bytes → which_leave m n ≡ true
  back-leaves m r e n bytes came c epoch given spells = returns-leave m r e c n (record {
    k = came.0;
    packet = came.1;
    epoch = epoch;
    given = given;
    delivers = came.2;
    at = came.3;
    sender = came.4;
    goal = came.5;
    spells = subst (SpellsMessage c epoch (back_body given)) (sym came.6) spells;
  })
