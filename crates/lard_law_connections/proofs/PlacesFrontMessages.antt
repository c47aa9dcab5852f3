-- The front end's rules for what nodes say, and the head of the line.
use Rattle.std.proofs.Common.{◌≡◌, ◌⊎◌, ℕ, ◌+◌, ◌<◌, ◌≤◌, ◌==◌, Bool, true, false, List, [], ◌∷◌, Option, Some, None, inl, inr, ⊎_elim, refl, sym, ◌∙◌, subst, arith, eqb-true, eq-eqb, ap, is_some}
use Rattle.lard_law_view.specs.Prelude.{Ask, BackConn, BackRow, Body, Conn, EndedBy, EndpointParts, Epoch, Final, Front, FrontConn, FrontDeed, FrontEnv, FrontGets, FrontPart, FrontRest, FrontRow, IsConnSound, IsFrontEnv, IsMachine, Later, LaterChoice, Node, NodePart, Part, Place, ReturnedBy, Seen, Service, Setting, SpellsMessage, TakenBy, Was, ack_sent, assigned_notes, assigns, back_body, by_front, ended_with, front_does, front_ends, front_rest, front_rule, front_saying, is_away, kind_of, next_epoch, over_note, serving, tag_sent, taken_by, tale_at, with_front}
use Rattle.lard_law_connections.specs.Places.{ArePast, EndedBefore, HasEnded, HasStay, IsComing, IsDecided, IsEarlyEpoch, IsEven, IsLeft, IsOfOther, IsOffered, IsOver, IsPast, IsRefusalKnown, IsRefusedBy, IsThere, LetterMay, MaySay, Offers, OthersArePast, Owning, Owns, StageSits, owning}
use Rattle.lard_law_connections.proofs.PlacesFront.{IsHomeAt, IsQuiet, Leads, Tells, drops-owes, front-owes, holds-owe, leads-more, messages-owe, placed-owes, reader, reader-in, reading_epoch, sits-in, waits-home}
use Rattle.lard_law_connections.proofs.PlacesFrontRules.{Read, by-segment, by-timer, decided-there, has-each, sits-row}
use Rattle.lard_law_connections.proofs.PlacesGrowing.{FrontGrows, front-still, past-later}
use Rattle.lard_law_connections.proofs.PlacesHeads.{decoded-head, head, spelled-head, spelled-some}
use Rattle.lard_law_connections.proofs.PlacesRows.{IsPlain, plain-after, plain-owns}
use Rattle.lard_law_connections.proofs.PlacesTurns.{IsPlaced, Owes, early-at, no-refusal}
use Rattle.lard_dispatch.specs.declared.dispatch.First.TheVariants as first
use Rattle.lard_law_view.proofs.EachFront.{FrontComes, HasBack, admission}
use Rattle.lard_rules.proofs.FrontCases.{IsBack, IsInStage, KeptByFront, KeptByReturn, back_reading, front-keeps}
use Rattle.lard_law_connections.proofs.PlacesLoops.{reads-notes}
use Rattle.lard_rules.specs.Front.{Drops, Says, Does, back_notes, back_part, back_rest, given_sent}
use Rattle.lard_handoff_front.specs.Returns.{returned_row}
use Rattle.lard_handoff_back.specs.declared.row.BackConn.TheVariants as back
use Rattle.lard_handoff_front.specs.declared.row.FrontConn.TheVariants as stage
use Rattle.lard_history.proofs.Each.{Each, Each-append}
use Rattle.lard_message.specs.declared.message.Body.TheVariants as body
use Rattle.std.proofs.lemmas.Bool.{both_ways}

-- what a packet that came says, where it is a message of this connection
pub came-says : (x : Conn) (from to : Place) (epoch : ℕ) (b : Body) (bytes : List ℕ) → Each (LetterMay x.part) x.letters → Was x from to bytes → SpellsMessage x.c epoch b bytes
    → MaySay x.part from to (Some (head (kind_of b) epoch))
came-says x from to epoch b bytes letters was spells =
    subst (MaySay x.part from to) (decoded-head bytes _ spells) (has-each (LetterMay x.part) (record { from = from; to = to; bytes = bytes }) x.letters was letters)

-- INTERIM: what an Offer that came says, while no node refuses a connection
pub offer-says : (x : Conn) → IsPlaced x → (n epoch : ℕ) (parts : EndpointParts) (bytes : List ℕ) → Was x Front (Node n) bytes
    → SpellsMessage x.c epoch (body.Offer parts) bytes
    → IsDecided epoch (x.part.nodes n).row ⊎ IsOffered n epoch x.part.front.row
offer-says x placed n epoch parts bytes was spells = ⊎_elim
    (λ (decided : IsDecided epoch (x.part.nodes n).row). inl decided)
    (λ (other : IsOffered n epoch x.part.front.row ⊎ IsRefusalKnown x.part n epoch). ⊎_elim
    (λ (offered : IsOffered n epoch x.part.front.row). inr offered)
    (λ (known : IsRefusalKnown x.part n epoch). absurd (no-refusal x placed n epoch known.0)) other)
    (came-says x Front (Node n) epoch (body.Offer parts) bytes placed.letters was spells)

-- ---- it comes back

-- INTERIM: no node gives a connection back yet
pub no-give : (x : Conn) → IsPlaced x → (n epoch : ℕ) (parts : EndpointParts) (bytes : List ℕ) → Was x (Node n) Front bytes
    → SpellsMessage x.c epoch (body.Give parts) bytes → ⊥
no-give x placed n epoch parts bytes was spells =
    let given = (came-says x (Node n) Front epoch (body.Give parts) bytes placed.letters was spells).1 in
    both_ways (is_some (x.part.nodes n).beside.returned) (ap (λ (o : Option ℕ). is_some o) (placed.unreturned.ungiven n)) given

-- INTERIM: nor does one refuse it, so none comes back
pub never-back : (x : Conn) → IsPlaced x → (n epoch : ℕ) (given : Option EndpointParts) (bytes : List ℕ) → Was x (Node n) Front bytes → SpellsMessage x.c epoch (back_body given) bytes → ⊥
never-back x placed n epoch None bytes was spells = no-refusal x placed n epoch (came-says x (Node n) Front epoch body.Refused bytes placed.letters was spells).0
never-back x placed n epoch (Some parts) bytes was spells = no-give x placed n epoch parts bytes was spells

-- INTERIM: so where it comes back, it was refused
pub none-given : (x : Conn) → IsPlaced x → (n epoch : ℕ) (given : Option EndpointParts) (heads : List Seen) → HasBack x n epoch given heads → given ≡ None
none-given x placed n epoch None heads h = refl
none-given x placed n epoch (Some parts) heads h = absurd (no-give x placed n epoch parts h.bytes h.was h.spells)

-- Node n refused it, and the front end has it still: it was on its way there, and nobody owns it.
pub record IsRefusedThere (x : Conn) (n epoch : ℕ) (row : FrontRow) : Type 0 where
  pub found : x.part.front.row ≡ Some row
  pub stage : row.stage ≡ stage.Offering n (record { 0 = epoch })
  pub epoch_is : row.epoch.0 ≡ epoch
  pub even : IsEven epoch
  pub early : IsEarlyEpoch epoch
  pub others : OthersArePast n epoch x.part.nodes
  pub coming : IsComing epoch (owning (tale_at x)) (x.part.nodes n).row
  pub refused : IsRefusedBy epoch (x.part.nodes n)
  pub ended : EndedBefore epoch row.ended_by

-- its stay is of another epoch, so it has not taken it
pub coming-refused : (n e : ℕ) (w : Owning) (p : NodePart) → IsComing e w p.row ⊎ IsThere n e w p.row → IsRefusedBy e p → IsComing e w p.row
coming-refused n e w p at h = ⊎_elim (λ (coming : IsComing e w p.row). coming) (λ (there : IsThere n e w p.row). absurd (other p.row there h.1)) at where
  other : (o : Option BackRow) → IsThere n e w o → IsOfOther e o → ⊥
  other None there apart = there
  other (Some row) there apart = apart there.0

pub refused-there : (x : Conn) → IsPlaced x → (n epoch : ℕ) (heads : List Seen) → HasBack x n epoch None heads → (row : FrontRow) (parts : EndpointParts)
    → IsBack x.part.front n epoch None row parts → IsRefusedThere x n epoch row
refused-there x placed n epoch heads comes row parts is =
    let at = is.refused refl in
    let w : Owning = owning (tale_at x) in
    let said : IsRefusedBy epoch (x.part.nodes n) = (came-says x (Node n) Front epoch body.Refused comes.bytes placed.letters comes.was comes.spells).0 in
    let h = sits-in x placed row (stage.Offering n is.from) at in
    let same : row.epoch.0 ≡ epoch = sym h.0.1 ∙ is.epoch_is in
    record {
      found = at.0;
      stage = at.1 ∙ (λ i. stage.Offering n (record { 0 = is.epoch_is i }));
      epoch_is = same;
      even = subst IsEven same h.0.0;
      early = subst IsEarlyEpoch same (early-at x placed row at.0);
      others = subst (λ (e : ℕ). OthersArePast n e x.part.nodes) same h.0.2;
      coming = coming-refused n epoch w (x.part.nodes n) (subst (λ (e : ℕ). IsComing e w (x.part.nodes n).row ⊎ IsThere n e w (x.part.nodes n).row) same h.0.3) said;
      refused = said;
      ended = subst (λ (e : ℕ). EndedBefore e row.ended_by) same h.1;
    }

-- so every stay there was is over
pub refused-past : (x : Conn) (n epoch : ℕ) (row : FrontRow) → IsRefusedThere x n epoch row → ArePast epoch x.part.nodes
refused-past x n epoch row it m = go (m == n) refl where
  go : (b : Bool) → (m == n) ≡ b → IsPast epoch (x.part.nodes m).row
  go true same = subst (λ (j : ℕ). IsPast epoch (x.part.nodes j).row) (sym (eqb-true m n same)) it.coming.2
  go false other = it.others m (λ is. let yes : true ≡ false = sym (eq-eqb m n is) ∙ other in cc)

-- ---- where it is while it is away

-- It was offered to node n, and is there or on its way.
pub record IsWith (x : Conn) (row : FrontRow) (n : ℕ) : Type 0 where
  pub even : IsEven row.epoch.0
  pub early : IsEarlyEpoch row.epoch.0
  pub others : OthersArePast n row.epoch.0 x.part.nodes
  pub at : IsComing row.epoch.0 (owning (tale_at x)) (x.part.nodes n).row ⊎ IsThere n row.epoch.0 (owning (tale_at x)) (x.part.nodes n).row

-- ---- the end of a stay

there-stay : (n e : ℕ) (w : Owning) (o : Option BackRow) → IsThere n e w o → HasStay e o
there-stay n e w None h = h
there-stay n e w (Some row) h = h.0

-- a stay of this epoch that is over is nobody's
over-nobody : (n e : ℕ) (w : Owning) (o : Option BackRow) → IsThere n e w o → IsOver e o → w.owner ≡ None
over-nobody n e w None there over = absurd there
over-nobody n e w (Some row) there over = go row.stage there.2 (over.1 there.0) where
  go : (st : BackConn) → Owns n st w.owner → IsLeft st → w.owner ≡ None
  go (back.Here b) owns left = absurd left
  go back.Out owns left = absurd owns
  go back.Ended owns left = owns
  go back.Gone owns left = absurd owns

pub over-past : (e : ℕ) (n : ℕ) (w : Owning) (o : Option BackRow) → IsThere n e w o → IsOver e o → IsPast (e + 1) o
over-past e n w None there over = tt
over-past e n w (Some row) there over = (omega (arith, there.0), over.1 there.0)

pub over-decided : (e : ℕ) (o : Option BackRow) → IsOver e o → IsDecided e o
over-decided e None h = h
over-decided e (Some row) h = h.0

pub there-epoch : (n e : ℕ) (w : Owning) (o : Option BackRow) → IsThere n e w o → w.epoch ≡ e
there-epoch n e w None h = absurd h
there-epoch n e w (Some row) h = h.1

module _ (k : Setting) (x : Conn) (heads : List Seen) (quiet : IsQuiet x heads) (held : IsPlaced x) (env : FrontEnv) (is : IsFrontEnv k x.c env) where
  abbrev p : FrontPart
  p = x.part.front

  abbrev w : Owning
  w = owning (tale_at x)

  abbrev nodes : ℕ → NodePart
  nodes = x.part.nodes

  abbrev Owed : FrontDeed → Type 0
  Owed d = Owes x (front_does x heads d)

  dropped : Owed Drops
  dropped = drops-owes x heads quiet held

  find-row : (row : FrontRow) → p.row ≡ Some row → StageSits row.epoch.0 w nodes row.stage × EndedBefore row.epoch.0 row.ended_by
  find-row row found = sits-row k x heads quiet held env is row found

  -- ---- a Taken

  -- where it was offered, and the node has decided
  taken-owes : (row : FrontRow) (n : ℕ) (d : Epoch) (epoch m : ℕ) → p.row ≡ Some row → row.stage ≡ stage.Offering n d → d.0 ≡ epoch → IsDecided epoch (nodes m).row
      → Owed (taken_by p epoch (Some row) (Some n))
  taken-owes row n d epoch m found at same decided =
      let h = find-row row found in
      let sits : StageSits row.epoch.0 w nodes (stage.Offering n d) = subst (StageSits row.epoch.0 w nodes) at h.0 in
      let now : epoch ≡ row.epoch.0 = sym same ∙ sits.1 in
      let there : IsThere n row.epoch.0 w (nodes n).row = decided-there n row.epoch.0 w nodes sits.2 m sits.3 (subst (λ (e : ℕ). IsDecided e (nodes m).row) now decided) in
      let next : FrontRow = record row { stage = stage.Moved n (record { 0 = epoch }) } in
      front-owes x heads quiet (by_front (front_saying [])) _ w
      (record { notes = tt; segments = inr refl; gave = tt; messages = tt; then = refl })
      ((sits.0, now, sits.2, there), h.1)
      (subst (λ (o : Option FrontRow). FrontGrows nodes o (Some next)) (sym found) (
        omega arith,
        λ i e offers.
            let o : Offers i e (stage.Offering n d) = subst (Offers i e) at offers in
            inr (inl (subst (λ (j : ℕ). HasStay e (nodes j).row) o.0 (subst (λ (f : ℕ). HasStay f (nodes n).row) (sym sits.1 ∙ o.1)
            (there-stay n row.epoch.0 w (nodes n).row there)))),
      ))
      tt

  -- ---- an Ask

  notes-plain : (c : ℕ) (ask : Ask) (r : ℕ) (paths : List (List ℕ)) (choices : List LaterChoice) → Each IsPlain (assigned_notes c ask r paths choices)
  notes-plain c ask r [] choices = tt
  notes-plain c ask r (path ∷ paths) [] = tt
  notes-plain c ask r (path ∷ paths) (choice ∷ choices) = (tt, notes-plain c ask (r + 1) paths choices)

  over-plain : (c : ℕ) (b : Bool) → Each IsPlain (over_note c b)
  over-plain c true = (tt, tt)
  over-plain c false = tt

  tag-tells : (q : Part) (n epoch number : ℕ) (tags : List ℕ) → Each (Tells q Front) (tag_sent env n epoch number tags)
  tag-tells q n epoch number tags = (subst (λ h. MaySay q Front (Node n) h) (sym (spelled-some _)) tt, tt)

  assigns-owe : (rest : FrontRest) (n epoch : ℕ) (ask : Ask) (l : Later) → Owed (Does (assigns env p rest n epoch ask l))
  assigns-owe rest n epoch ask l =
      let did = assigns env p rest n epoch ask l in
      let plain : Each IsPlain did.turn.notes = Each-append IsPlain (over_note env.serve.c l.over) (assigned_notes env.serve.c ask rest.assigned ask.paths l.choices) (over-plain env.serve.c l.over)
      (notes-plain env.serve.c ask rest.assigned ask.paths l.choices) in
      front-owes x heads quiet (by_front did.turn) did.part w
      (record { notes = plain-owns x.c w did.turn.notes plain; segments = inr refl; gave = tt; messages = (tt, tt); then = plain-after w did.turn.notes plain })
      held.sits (front-still nodes p.row) (tag-tells (with_front x.part did.part) n epoch ask.number _)

  -- ---- an Ended

  -- the node that decided it there is the one with which it is
  only : (row : FrontRow) (m n : ℕ) → IsWith x row n → IsDecided row.epoch.0 (nodes m).row → m ≡ n
  only row m n away decided = go (m == n) refl where
    go : (b : Bool) → (m == n) ≡ b → m ≡ n
    go true same = eqb-true m n same
    go false other = absurd (undecided (nodes m).row (away.others m (λ is. let yes : true ≡ false = sym (eq-eqb m n is) ∙ other in cc)) decided) where
      undecided : (o : Option BackRow) → IsPast row.epoch.0 o → IsDecided row.epoch.0 o → ⊥
      undecided None past h = h
      undecided (Some r) past h = omega (arith, past.0, h)

  -- once its stay there is over every stay is
  all-past : (row : FrontRow) (n : ℕ) → IsWith x row n → IsThere n row.epoch.0 w (nodes n).row → IsOver row.epoch.0 (nodes n).row → (j : ℕ) → IsPast (row.epoch.0 + 1) (nodes j).row
  all-past row n away there over j = go (j == n) refl where
    go : (b : Bool) → (j == n) ≡ b → IsPast (row.epoch.0 + 1) (nodes j).row
    go true same = subst (λ (i : ℕ). IsPast (row.epoch.0 + 1) (nodes i).row) (sym (eqb-true j n same)) (over-past row.epoch.0 n w (nodes n).row there over)
    go false other = past-later row.epoch.0 (row.epoch.0 + 1) (nodes j).row (omega arith) (away.others j (λ is. let yes : true ≡ false = sym (eq-eqb j n is) ∙ other in cc))

  -- The connection is with node n in this epoch, and the node m that says so has given it up.
  ends-owe-one : (row : FrontRow) (m n epoch : ℕ) (last : Final) → p.row ≡ Some row → IsWith x row n → row.epoch.0 ≡ epoch → IsOver epoch (nodes m).row
      → ((i e : ℕ) → Offers i e row.stage → (i ≡ n) × (e ≡ row.epoch.0)) → EndedBefore row.epoch.0 row.ended_by → Owed (Does (front_ends env p m epoch last row (next_epoch row)))
  ends-owe-one row m n epoch last found away now over offered before =
      let did = front_ends env p m epoch last row (next_epoch row) in
      let q : Part = with_front x.part did.part in
      let e : ℕ = row.epoch.0 in
      let over_e : IsOver e (nodes m).row = subst (λ (f : ℕ). IsOver f (nodes m).row) (sym now) over in
      let there : IsThere n e w (nodes n).row = decided-there n e w nodes away.others m away.at (over-decided e (nodes m).row over_e) in
      let it : m ≡ n = only row m n away (over-decided e (nodes m).row over_e) in
      let over_n : IsOver e (nodes n).row = subst (λ (j : ℕ). IsOver e (nodes j).row) it over_e in
      let free : w.owner ≡ None = over-nobody n e w (nodes n).row there over_n in
      let taken : w.epoch ≡ e = there-epoch n e w (nodes n).row there in
      let v : Owning = record { owner = Some Front; epoch = e + 1 } in
      front-owes x heads quiet (by_front did.turn) did.part v
      (record {
        notes = ((is.number, omega (arith, taken), free), (tt, tt));
        segments = inr refl;
        gave = tt;
        messages = (tt, tt);
        then = refl;
      })
      ((omega (arith, away.even.0), (refl, all-past row n away there over_n)), omega (arith, now))
      (subst (λ (o : Option FrontRow). FrontGrows nodes o did.part.row) (sym found) (
        omega arith,
        λ i f offers. inr (inl (subst (λ (j : ℕ). HasStay f (nodes j).row) (sym (offered i f offers).0)
            (subst (λ (g : ℕ). HasStay g (nodes n).row) (sym (offered i f offers).1) (there-stay n e w (nodes n).row there)))),
      ))
      (subst (λ h. MaySay q Front (Node m) h) (sym (spelled-head _ (omega (arith, now, away.early)))) (omega (arith, now)), tt)

  -- where its stage is one of being away
  with-node : (row : FrontRow) → p.row ≡ Some row → (epoch : ℕ) → (st : FrontConn) → row.stage ≡ st → is_away epoch st ≡ true → (P : Type 0)
      → ((n : ℕ) → IsWith x row n → row.epoch.0 ≡ epoch → ((i e : ℕ) → Offers i e row.stage → (i ≡ n) × (e ≡ row.epoch.0)) → P) → P
  with-node row found epoch (stage.Offering n d) at away P then =
      let sits : StageSits row.epoch.0 w nodes (stage.Offering n d) = subst (StageSits row.epoch.0 w nodes) at (find-row row found).0 in
      then n (record { even = sits.0; early = early-at x held row found; others = sits.2; at = sits.3 }) (sym sits.1 ∙ eqb-true d.0 epoch away)
      (λ i e offers. let o : Offers i e (stage.Offering n d) = subst (Offers i e) at offers in (sym o.0, sym o.1 ∙ sits.1))
  with-node row found epoch (stage.Moved n d) at away P then =
      let sits : StageSits row.epoch.0 w nodes (stage.Moved n d) = subst (StageSits row.epoch.0 w nodes) at (find-row row found).0 in
      then n (record { even = sits.0; early = early-at x held row found; others = sits.2; at = inr sits.3 }) (sym sits.1 ∙ eqb-true d.0 epoch away)
      (λ i e offers. absurd (subst (Offers i e) at offers))
  with-node row found epoch _ at away P then = let no : false ≡ true = away in absurd cc

  -- it ended before, and is acknowledged again
  again-owes : (row : FrontRow) (m epoch : ℕ) → p.row ≡ Some row → ended_with epoch row.ended_by ≡ true → Owed (Says (front_saying (ack_sent env m epoch)))
  again-owes row m epoch found again =
      let h = find-row row found in
      let before : epoch < row.epoch.0 = earlier row.ended_by again h.1 in
      let le : IsEarlyEpoch row.epoch.0 = early-at x held row found in
      let ended : HasEnded epoch p.row = subst (HasEnded epoch) (sym found) before in
      messages-owe x heads quiet held (ack_sent env m epoch) (tt, tt)
      (subst (λ h. MaySay x.part Front (Node m) h) (sym (spelled-head _ (omega (arith, before, le)))) ended, tt) where
        earlier : (o : Option Epoch) → ended_with epoch o ≡ true → EndedBefore row.epoch.0 o → epoch < row.epoch.0
        earlier None e h = let no : false ≡ true = e in absurd cc
        earlier (Some by) e h = let same : by.0 ≡ epoch = eqb-true by.0 epoch e in omega (arith, same, h)

  -- ---- a connection that comes back

  given-machines : (n epoch : ℕ) (given : Option EndpointParts) → Each (λ m. IsMachine m.0) (given_sent env.serve.c n epoch given)
  given-machines n epoch None = tt
  given-machines n epoch (Some parts) = (tt, tt)

  abbrev next_owning : FrontRow → Owning
  next_owning row = record { owner = Some Front; epoch = row.epoch.0 + 1 }

  -- Wherever it comes back from, it is here behind these notes, in the next epoch.
  record ComesHome (epoch : ℕ) (row : FrontRow) (parts : EndpointParts) : Type 0 where
    pub here : IsHomeAt x (returned_row parts row) (next_owning row)
    pub leads : Leads x (next_owning row) (back_notes env.serve.c row)
    pub reads : reader p.row ≡ next_owning row
    pub epoch_is : row.epoch.0 ≡ epoch
    pub early : IsEarlyEpoch epoch

  -- it was refused
  refused-home : (n epoch : ℕ) (row : FrontRow) (parts : EndpointParts) → IsRefusedThere x n epoch row → ComesHome epoch row parts
  refused-home n epoch row parts it =
      let same : row.epoch.0 ≡ epoch = it.epoch_is in
      let even = it.even.0 in
      let early = it.early in
      let before = it.coming.1 in
      record {
        here = record {
          odd = omega (arith, even, same);
          small = omega (arith, early, same);
          home = (refl, λ m. past-later epoch (row.epoch.0 + 1) (nodes m).row (omega (arith, same)) (refused-past x n epoch row it m));
          ended = tt;
          grows = λ next le. subst (λ (o : Option FrontRow). FrontGrows nodes o (Some next)) (sym it.found) (
            omega (arith, le),
            λ i f offers.
                let o : Offers i f (stage.Offering n (record { 0 = epoch })) = subst (Offers i f) it.stage offers in
                let refused : IsRefusedBy epoch (nodes i) = subst (λ (j : ℕ). IsRefusedBy epoch (nodes j)) o.0 it.refused in
                let at : epoch ≡ f = o.1 in
                inr (inr (subst (λ (g : ℕ). IsRefusedBy g (nodes i)) at refused, omega (arith, le, same, at))),
          );
        };
        leads = (((is.number, omega (arith, before, same), it.coming.0), (tt, tt)), refl);
        reads = reader-in x row (stage.Offering n (record { 0 = epoch })) (it.found, it.stage);
        epoch_is = same;
        early = early;
      }

  -- it was given back
  given-home : (m epoch : ℕ) (row : FrontRow) (parts : EndpointParts) → p.row ≡ Some row → is_away epoch row.stage ≡ true → IsOver epoch (nodes m).row → ComesHome epoch row parts
  given-home m epoch row parts found is_at over = with-node row found epoch row.stage refl is_at (ComesHome epoch row parts) (λ n away now offered.
      let e : ℕ = row.epoch.0 in
      let over_e : IsOver e (nodes m).row = subst (λ (f : ℕ). IsOver f (nodes m).row) (sym now) over in
      let there : IsThere n e w (nodes n).row = decided-there n e w nodes away.others m away.at (over-decided e (nodes m).row over_e) in
      let over_n : IsOver e (nodes n).row = subst (λ (j : ℕ). IsOver e (nodes j).row) (only row m n away (over-decided e (nodes m).row over_e)) over_e in
      let taken : w.epoch ≡ e = there-epoch n e w (nodes n).row there in
      record {
        here = record {
          odd = omega (arith, away.even.0);
          small = omega (arith, away.early);
          home = (refl, all-past row n away there over_n);
          ended = tt;
          grows = λ next le. subst (λ (o : Option FrontRow). FrontGrows nodes o (Some next)) (sym found) (
            omega (arith, le),
            λ i f offers. inr (inl (subst (λ (j : ℕ). HasStay f (nodes j).row) (sym (offered i f offers).0)
                (subst (λ (g : ℕ). HasStay g (nodes n).row) (sym (offered i f offers).1) (there-stay n e w (nodes n).row there)))),
          );
        };
        leads = (((is.number, omega (arith, taken), over-nobody n e w (nodes n).row there over_n), (tt, tt)), refl);
        reads = reads-away row found epoch is_at;
        epoch_is = now;
        early = let small = away.early in omega (arith, small, now);
      }) where
        reads-away : (row : FrontRow) → p.row ≡ Some row → (epoch : ℕ) → is_away epoch row.stage ≡ true → reader p.row ≡ next_owning row
        reads-away row found epoch away = ap reader found ∙ go row.stage away where
          go : (st : FrontConn) → is_away epoch st ≡ true
              → ◌≡◌ {A = Owning} (record { owner = Some Front; epoch = reading_epoch row.epoch.0 st }) (record { owner = Some Front; epoch = row.epoch.0 + 1 })
          go (stage.Offering n d) t = refl
          go (stage.Moved n d) t = refl
          go _ t = let no : false ≡ true = t in absurd cc

  -- it reads on, and may be handed off in the same step
  returns-owe : (n epoch : ℕ) (given : Option EndpointParts) (row : FrontRow) (parts : EndpointParts) → ComesHome epoch row parts
      → KeptByReturn env p (given_sent env.serve.c n epoch given) row parts (Read k x heads quiet held env is) Owed
  returns-owe n epoch given row parts it =
      let said : List (Place × List ℕ) = given_sent env.serve.c n epoch given in
      let v : Owning = next_owning row in
      let leads : (r : Service) → Leads x (reader p.row) r.notes → Leads x v r.notes = λ r. subst (λ (u : Owning). Leads x u r.notes) it.reads in
      record {
        reads = reads-notes (Leads x (reader p.row)) (leads-more x (reader p.row)) env.serve (back_reading env row parts)
            (subst (λ (u : Owning). Leads x u (back_notes env.serve.c row)) (sym it.reads) it.leads);
        holds = λ r h. holds-owe x heads quiet env is.number (back_part p row parts) (returned_row parts row) v it.here said (given-machines n epoch given) (told given)
            (back_rest parts) r (leads r h);
        hands = λ r path choice h same. placed-owes x heads quiet env is.number (back_part p row parts) (returned_row parts row) v it.here said (given-machines n epoch given)
            (told given) (back_rest parts) r path (first.Go choice) (leads r h);
        waits = λ r path h same. placed-owes x heads quiet env is.number (back_part p row parts) (returned_row parts row) v it.here said (given-machines n epoch given)
            (told given) (back_rest parts) r path first.Waits (leads r h);
      } where
        told : (g : Option EndpointParts) (next : FrontRow) → row.epoch.0 + 1 ≤ next.epoch.0 → (q : Part) → q.front.row ≡ Some next
            → Each (Tells q Front) (given_sent env.serve.c n epoch g)
        told None next le q at = tt
        told (Some parts) next le q at =
            let small = it.early in
            let same = it.epoch_is in (
              subst (λ h. MaySay q Front (Node n) h) (sym (spelled-head _ (omega (arith, small)))) (subst (HasEnded epoch) (sym at) (omega (arith, le, same))),
              tt,
            )

  -- the front end is past a Give, and answers it again
  given-owes : (row : FrontRow) (m epoch : ℕ) (parts : EndpointParts) → p.row ≡ Some row → epoch < row.epoch.0
      → Owed (Says (front_saying (given_sent env.serve.c m epoch (Some parts))))
  given-owes row m epoch parts found past =
      let le : IsEarlyEpoch row.epoch.0 = early-at x held row found in
      let ended : HasEnded epoch p.row = subst (HasEnded epoch) (sym found) past in
      messages-owe x heads quiet held (given_sent env.serve.c m epoch (Some parts)) (tt, tt)
      (subst (λ h. MaySay x.part Front (Node m) h) (sym (spelled-head _ (omega (arith, past, le)))) ended, tt)

  -- ---- whatever comes

  -- a node that says Taken has decided, the stay of one that says Ended or gives it back is over, and one that says Refused did not take it
  abbrev SaysSo : FrontGets → Type 0
  SaysSo (TakenBy m epoch) = IsDecided epoch (nodes m).row
  SaysSo (EndedBy m epoch last) = IsOver epoch (nodes m).row
  SaysSo (ReturnedBy m epoch given) = (row : FrontRow) (parts : EndpointParts) → IsBack p m epoch given row parts → ComesHome epoch row parts
  SaysSo _ = Unit {0}

  says : (g : FrontGets) → FrontComes x env heads g → SaysSo g
  says (TakenBy m epoch) comes = came-says x (Node m) Front epoch body.Taken comes.bytes held.letters comes.was comes.spells
  says (EndedBy m epoch last) comes =
      let t = comes.told in came-says x (Node m) Front epoch (body.Ended last.reason last.snd.0 last.rcv.0 comes.count) t.bytes held.letters t.was t.spells
  says (ReturnedBy m epoch None) comes = λ row parts at. refused-home m epoch row parts (refused-there x held m epoch heads comes row parts at)
  says (ReturnedBy m epoch (Some given)) comes = λ row parts at. given-home m epoch row parts (back-found row parts at).0 (back-found row parts at).1
      (came-says x (Node m) Front epoch (body.Give given) comes.bytes held.letters comes.was comes.spells).0 where
        back-found : (row : FrontRow) (parts : EndpointParts) → IsBack p m epoch (Some given) row parts → (p.row ≡ Some row) × (is_away epoch row.stage ≡ true)
        back-found row parts at = ⊎_elim
            (λ (offering : IsInStage p row (stage.Offering m at.from)). (offering.0, ap (is_away epoch) offering.1 ∙ eq-eqb at.from.0 epoch at.epoch_is))
            (λ (moved : IsInStage p row (stage.Moved m at.from)). (moved.0, ap (is_away epoch) moved.1 ∙ eq-eqb at.from.0 epoch at.epoch_is)) at.at
  says _ comes = tt

  by-rules : IsConnSound x → KeptByFront env p SaysSo (Read k x heads quiet held env is) Owed
  by-rules sound = record {
    drops = dropped;
    hears = λ bytes s m. by-segment k x heads quiet held env is bytes s;
    fires = λ m. by-timer k x heads quiet held env is sound;
    takes = λ m epoch decided row n d at same. taken-owes row n d epoch m at.0 at.1 same decided;
    tags_again = λ n epoch ask m rest found there same some. messages-owe x heads quiet held (tag_sent env n epoch rest.asks rest.tag) (tt, tt)
        (tag-tells x.part n epoch rest.asks rest.tag);
    assigns_next = λ n epoch ask m rest found there next. assigns-owe rest n epoch ask (env.later ask);
    ends_again = λ m epoch last over row found away again. again-owes row m epoch found again;
    ends = λ m epoch last over row found away. with-node row found epoch row.stage refl away _
        (λ n there now offered. ends-owe-one row m n epoch last found there now over offered (find-row row found).1);
    gives_again = λ m epoch parts said row found past. given-owes row m epoch parts found past;
    returns = λ m epoch given said row parts at. returns-owe m epoch given row parts (said row parts at);
    admits = λ choice made met row b path at target. placed-owes x heads quiet env is.number p row w (waits-home x held row b at) [] tt (λ next le q at. tt) (front_rest p.rest)
        (serving b (front_rest p.rest).count []) path (first.Go choice) (tt, refl);
  }

  pub gets-owe : IsConnSound x → (g : FrontGets) → FrontComes x env heads g → Owed (front_rule env p g)
  gets-owe sound g comes = front-keeps env p SaysSo (Read k x heads quiet held env is) Owed (by-rules sound) g (admission x env heads g comes) (says g comes)
