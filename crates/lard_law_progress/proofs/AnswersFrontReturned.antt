-- What comes of a refusal and of a Give at the front end: where they were awaited the connection is placed anew, which is a unit, and a Give
-- of an epoch that is past is answered again.
use Rattle.std.proofs.Common.{◌≡◌, ◌⊎◌, ⊎_elim, inl, inr, ◌<◌, ◌≤◌, ◌+◌, ◌&&◌, ◌==◌, nat_lt, ℕ, suc, Bool, true, false, cond, List, [], Option, Some, None, is_some, refl, sym, ap, ◌∙◌, subst, arith}
use Rattle.std.proofs.lemmas.Bool.{cond_both}
use Rattle.std.proofs.lemmas.Bool.Decides.{nat_tests}
use Rattle.lard_law_view.specs.Prelude.{Conn, Ending, EndpointParts, FrontConn, FrontDeed, FrontEnv, FrontPart, FrontRest, FrontRow, IsConnNumber, IsFrontEnv, Place, Service, Setting, SpellsMessage, Station, Was, back_answer, back_body, back_notes, back_part, back_rest, does_first, front_rests, front_returned, front_saying, given_sent, holds, is_away, is_with, next_epoch, offered_to, offering, parts_back, placed, reads_on, returned_by, returned_row, serving_settled, spoken}
use Rattle.lard_bound.specs.Chains.{chain, node_chain, of_message}
use Rattle.lard_bound.specs.Nears.{NearReturn, Near, NearSaid, OfMessage}
use Rattle.lard_bound.specs.Seats.{Refused, Returned, SeatNow, seat_of, tells_over}
use Rattle.lard_bound.specs.Spots.{Declined, GaveBack, Post, Spot, post_of}
use Rattle.lard_bound.specs.Units.{Whole}
use Rattle.lard_dispatch.specs.declared.dispatch.First.TheVariants as first
use Rattle.lard_rules.specs.Front.{Does, Drops, Says, message}
use Rattle.lard_handoff_front.specs.declared.row.FrontConn.TheVariants as stage
use Rattle.lard_handoff_front.specs.declared.table.returns.Back.{Back}
use Rattle.lard_handoff_front.specs.declared.table.returns.Back.TheVariants as back
use Rattle.lard_law_view.specs.Prelude.{Front, Node}
use Rattle.lard_message.specs.declared.message.Body.TheVariants as body
use Rattle.lard_rules.specs.declared.places.Ending.TheVariants as ending
use Rattle.lard_rules.proofs.FrontCases.{IsBack, return-keeps, returned-keeps, waiting_service}
use Rattle.lard_law_progress.proofs.AnswersFrontGiven.{FrontGiven}
use Rattle.lard_law_progress.proofs.AnswersFrontHome.{returned-home}
use Rattle.lard_law_progress.proofs.AnswersFrontMessages.{Owes, does, drops-owes, l, one-owes, reads, unopened-owes}
use Rattle.lard_law_progress.proofs.AnswersFrontSpots.{at_seat, away-cases, moves-on, unit-goes}
use Rattle.lard_law_progress.proofs.Given.{IsFrom}

-- a return that counts does something
never-drops : (env : FrontEnv) (p : FrontPart) (said : List (Place × List ℕ)) (row : FrontRow) (parts : EndpointParts)
    → does_first (back_notes env.serve.c row) said (reads_on env p row parts) ≡ Drops → ⊥
never-drops env p said row parts = return-keeps env p said row parts (λ w o. Unit {0}) (λ (d : FrontDeed). d ≡ Drops → ⊥)
    (record { reads = tt; holds = λ w r f. cc; hands = λ w path choice r is f. cc; waits = λ w path r is f. cc })

less-so : (a b : ℕ) → a < b → nat_lt a b ≡ true
less-so a b low = grind (arith, nat_tests, low)

self : (n : ℕ) → (n == n) ≡ true
self n = grind (arith, nat_tests)

module _ (k : Setting) (w : Whole) (x : Conn) (env : FrontEnv) (is_env : IsFrontEnv k x.c env) (number : IsConnNumber x.c) (given : FrontGiven k.files w x)
    (n : ℕ) (bytes : List ℕ) (epoch : ℕ) (parts_given : Option EndpointParts)
    (spells : SpellsMessage x.c epoch (back_body parts_given) bytes) (sent : Was x (Node n) Front bytes) where
  abbrev p : FrontPart
  p = x.part.front

  abbrev deed : FrontDeed
  deed = front_returned env p n epoch parts_given

  -- ---- what is near

  near-said : (t : Spot) (d : ℕ) → Near k.files t x.c d (l k w x n bytes) → NearSaid t d n epoch (back_body parts_given)
  near-said t d near = subst (OfMessage (λ m. NearSaid t d n m.epoch.0 m.body)) spells near

  -- one that a node refused, or gives back
  pub data IsComing (z : SeatNow) : Type 0 where
    WasRefused : (count : ℕ) → z ≡ Refused n epoch count → parts_given ≡ None → IsComing z
    IsGiven : (told : Bool) (served : ℕ) → z ≡ Returned told n epoch served → (parts : EndpointParts) → parts_given ≡ Some parts → IsComing z

  -- or one that is told still
  abbrev IsStillTold : ℕ → Type 0
  IsStillTold d = (parts : EndpointParts) × (parts_given ≡ Some parts) × (tells_over (x.part.nodes n) ≡ Some (epoch, true)) × (2 ≤ d)

  is-coming : (st : Station) (z : SeatNow) (d : ℕ) → NearSaid (at_seat k.files x.part st z) d n epoch (back_body parts_given) → IsComing z ⊎ IsStillTold d
  is-coming st z d = by parts_given refl where
    refused : parts_given ≡ None → (y : SeatNow) → NearSaid (at_seat k.files x.part st y) d n epoch body.Refused → IsComing y
    refused none (Refused m f count) h = WasRefused count (λ i. Refused (h.0 i) (h.1 i) count) none
    refused none _ h = absurd h

    given_so : (parts : EndpointParts) → parts_given ≡ Some parts → (y : SeatNow) → NearReturn d n epoch (post_of k.files st.client y) → IsComing y
    given_so parts some (Returned told m f served) h = IsGiven told served (λ i. Returned told (h.0 i) (h.1 i) served) parts some
    given_so parts some _ h = absurd h

    by : (o : Option EndpointParts) → parts_given ≡ o → NearSaid (at_seat k.files x.part st z) d n epoch (back_body o) → IsComing z ⊎ IsStillTold d
    by None none h = inl (refused none z h)
    by (Some parts) some (inl h) = inl (given_so parts some z h)
    by (Some parts) some (inr h) = inr (parts, some, h.0, h.1)

  -- then it is taken back
  not-dropped : IsComing (seat_of x.part) → deed ≡ Drops → ⊥
  not-dropped (IsGiven told served seat parts some) drops =
      let f = returned-home x.part told n epoch served seat in
      let row = f.0 in
      let answer : back_answer n epoch (Some parts) p.row ≡ back.New (next_epoch row) = ap (back_answer n epoch (Some parts)) f.1
      ∙ (λ i. cond (f.2 i) (cond (f.3 i) (back.New (next_epoch row)) (cond (nat_lt epoch row.epoch.0) back.Again back.Stale))
      (cond (nat_lt epoch row.epoch.0) back.Again back.Stale)) in
      let taken : deed ≡ does_first (back_notes env.serve.c row) (given_sent env.serve.c n epoch (Some parts)) (reads_on env p row parts) =
      ap (front_returned env p n epoch) some ∙ (λ i. returned_by env p (given_sent env.serve.c n epoch (Some parts)) (f.1 i) (answer i) (Some parts)) in
      never-drops env p (given_sent env.serve.c n epoch (Some parts)) row parts (sym taken ∙ drops)
  not-dropped (WasRefused count seat none) drops =
      let f = given.back.refused n epoch count seat in
      let row = f.0 in
      let offered : (s : FrontConn) → s ≡ stage.Offering n (record { 0 = epoch })
      → cond (is_with n epoch s) (cond (is_some (offered_to epoch s)) (back.New (next_epoch row)) back.Stale) back.Stale ≡ back.New (next_epoch row) =
      λ s is. ap (λ (s : FrontConn). cond (is_with n epoch s) (cond (is_some (offered_to epoch s)) (back.New (next_epoch row)) back.Stale) back.Stale) is
      ∙ (λ i. cond (self n i && self epoch i) (cond (is_some (cond (self epoch i) (Some n) None)) (back.New (next_epoch row)) back.Stale) back.Stale) in
      let answer : back_answer n epoch None p.row ≡ back.New (next_epoch row) = ap (back_answer n epoch None) f.1 ∙ offered row.stage f.2 in
      let taken : deed ≡ does_first (back_notes env.serve.c row) [] (reads_on env p row f.3) =
      ap (front_returned env p n epoch) none ∙ (λ i. returned_by env p [] (f.1 i) (answer i) (f.4 i)) in
      never-drops env p [] row f.3 (sym taken ∙ drops)

  -- and one that is told still is answered, or taken back
  still-answered : (d : ℕ) → IsStillTold d → deed ≡ Drops → ⊥
  still-answered d (parts, some, told, low) drops = go (given.back.told n epoch told) where
    go : ((row : FrontRow) × (p.row ≡ Some row) × ((epoch < row.epoch.0) ⊎ ((t : Bool) × (served : ℕ) × (seat_of x.part ≡ Returned t n epoch served)))) → ⊥
    go (row, found, inr at) = not-dropped (IsGiven at.0 at.1 at.2 parts some) drops
    go (row, found, inl past) =
        let said : List (Place × List ℕ) = given_sent env.serve.c n epoch (Some parts) in
        let Stays : Back → Type 0 = λ a. returned_by env p said (Some row) a (Some parts) ≡ Drops → ⊥ in
        let again : Stays back.Again = λ f. cc in
        let lt : nat_lt epoch row.epoch.0 ≡ true = less-so epoch row.epoch.0 past in
        let late : Stays (cond (nat_lt epoch row.epoch.0) back.Again back.Stale) = subst (λ t. Stays (cond t back.Again back.Stale)) (sym lt) again in
        let answered : Stays (back_answer n epoch (Some parts) (Some row)) =
        cond_both (is_with n epoch row.stage) (cond (is_away epoch row.stage) (back.New (next_epoch row)) (cond (nat_lt epoch row.epoch.0) back.Again back.Stale))
        (cond (nat_lt epoch row.epoch.0) back.Again back.Stale) Stays
        (λ t. cond_both (is_away epoch row.stage) (back.New (next_epoch row)) (cond (nat_lt epoch row.epoch.0) back.Again back.Stale) Stays
        (λ u. never-drops env p said row parts) (λ u. late)) (λ t. late) in
        answered (sym (ap (front_returned env p n epoch) some ∙ (λ i. returned_by env p said (found i) (back_answer n epoch (Some parts) (found i)) (Some parts))) ∙ drops)

  -- ---- it comes back

  -- the post where it was
  abbrev IsLeft : Post → Type 0
  IsLeft z = (z ≡ Declined n epoch) ⊎ ((told : Bool) × (z ≡ GaveBack told n epoch))

  left-post : (st : Station) → IsComing (seat_of x.part) → IsLeft (post_of k.files st.client (seat_of x.part))
  left-post st (WasRefused count seat none) = inl (ap (post_of k.files st.client) seat)
  left-post st (IsGiven told served seat parts some) = inr (told, ap (post_of k.files st.client) seat)

  apart : (st : Station) → x.part.station ≡ Some st → IsComing (seat_of x.part) → (d : FrontDeed) → (does k w x n bytes d).part.station ≡ Some st
      → (IsLeft (post_of k.files st.client (seat_of (does k w x n bytes d).part)) → ⊥) → Owes k w x n bytes d
  apart st was coming d is never lasts later = unit-goes k w x (does k w x n bytes d) (l k w x n bytes) (λ up.
      let same = moves-on k w x (does k w x n bytes d) (l k w x n bytes) st was is (seat_of x.part) (seat_of (does k w x n bytes d).part) refl refl lasts up in
      never (subst IsLeft (sym same) (left-post st coming)))

  module _ (st : Station) (was : x.part.station ≡ Some st) (row : FrontRow) (parts : EndpointParts) (is : IsBack p n epoch parts_given row parts) where
    abbrev now : FrontPart
    now = back_part p row parts

    abbrev next : FrontRow
    next = returned_row parts row

    comes : (row.epoch.0 ≡ epoch) × IsFrom parts_given n epoch parts.served (seat_of x.part)
    comes = given.back.returns n epoch parts_given bytes spells sent row parts is

    coming-from : (z : SeatNow) → IsFrom parts_given n epoch parts.served z → IsComing z
    coming-from (Refused m f count) h = WasRefused count (λ i. Refused (h.1 i) (h.2 i) count) h.0
    coming-from (Returned told m f served) h = by parts_given refl h.0 where
      by : (o : Option EndpointParts) → parts_given ≡ o → is_some o ≡ true → IsComing (Returned told m f served)
      by None none t = absurd (let no : false ≡ true = t in cc)
      by (Some q) some t = IsGiven told served (λ i. Returned told (h.1 i) (h.2 i) served) q some
    coming-from _ h = absurd h

    coming : IsComing (seat_of x.part)
    coming = coming-from (seat_of x.part) comes.1

    -- a post that is not the one of a connection that comes back
    neither : (z : Post) → ((m d : ℕ) → z ≡ Declined m d → ⊥) → ((told : Bool) (m d : ℕ) → z ≡ GaveBack told m d → ⊥) → IsLeft z → ⊥
    neither z one two h = ⊎_elim (λ (f : z ≡ Declined n epoch). one n epoch f) (λ (f : (told : Bool) × (z ≡ GaveBack told n epoch)). two f.0 n epoch f.1) h

    held-not : (o : Ending) → IsLeft (post_of k.files st.client (seat_of (record x.part { front = front_rests now next (back_rest parts) stage.Held o }))) → ⊥
    unfolding seat_of
    held-not (ending.Here e count) = neither _ (λ m d f. cc) (λ t m d f. cc)
    held-not (ending.Over last) = neither _ (λ m d f. cc) (λ t m d f. cc)

    waits-not : (more : FrontRest) (o : Ending) → IsLeft (post_of k.files st.client
        (seat_of (record x.part { front = front_rests now next more stage.Waiting o }))) → ⊥
    unfolding seat_of
    waits-not more (ending.Here e count) = neither _ (λ m d f. cc) (λ t m d f. cc)
    waits-not more (ending.Over last) = neither _ (λ m d f. cc) (λ t m d f. cc)

    -- it is offered in a later epoch
    later-not : row.epoch.0 + 1 + 1 ≡ epoch → ⊥
    later-not late = let here : row.epoch.0 ≡ epoch = comes.0 in omega (arith, late, here)

    offered-not : (v : Service) (path : List ℕ) (node : ℕ) → IsLeft
        (post_of k.files st.client (seat_of (record x.part { front = offering env next v path node }))) → ⊥
    unfolding seat_of
    offered-not v path node = away-cases false node (next_epoch next).0 v.count (x.part.nodes node) (λ (z : SeatNow). IsLeft (post_of k.files st.client z) → ⊥)
        (neither _ (λ m d f. cc) (λ t m d f. cc))
        (λ h. ⊎_elim (λ (f : Declined node (row.epoch.0 + 1 + 1) ≡ Declined n epoch). later-not cc)
        (λ (f : (told : Bool) × (Declined node (row.epoch.0 + 1 + 1) ≡ GaveBack told n epoch)). let g = f.1 in cc) h)
        (λ b. neither _ (λ m d f. cc) (λ t m d f. cc)) (neither _ (λ m d f. cc) (λ t m d f. cc))
        (λ served h. ⊎_elim (λ (f : GaveBack false node (row.epoch.0 + 1 + 1) ≡ Declined n epoch). cc)
        (λ (f : (told : Bool) × (GaveBack false node (row.epoch.0 + 1 + 1) ≡ GaveBack told n epoch)). let g = f.1 in later-not cc) h)

    abbrev said : List (Place × List ℕ)
    said = given_sent env.serve.c n epoch parts_given

    comes-owes : Owes k w x n bytes (does_first (back_notes env.serve.c row) said (reads_on env p row parts))
    comes-owes = return-keeps env p said row parts (λ v o. Unit {0}) (Owes k w x n bytes) (record {
      reads = tt;
      holds = λ v r. apart st was coming (does_first [] said (holds now next (back_rest parts) (serving_settled env.serve v))) was
          (held-not (serving_settled env.serve v).0);
      hands = λ v path choice r first_is. apart st was coming
          (does_first [] said (Does (placed env now next (back_rest parts) v path (first.Go choice)))) was (offered-not v path choice.node);
      waits = λ v path r first_is. apart st was coming (does_first [] said (Does (placed env now next (back_rest parts) v path first.Waits))) was
          (waits-not (record (back_rest parts) { target = Some path }) (spoken env.serve (waiting_service env v) []).0);
    })

  -- ---- what was given back before is told again

  again-owes : (st : Station) → x.part.station ≡ Some st → (parts : EndpointParts) → parts_given ≡ Some parts → (IsComing (seat_of x.part) → ⊥)
      → Owes k w x n bytes (Says (front_saying (given_sent env.serve.c n epoch (Some parts))))
  again-owes st was parts some out =
      let give : SpellsMessage x.c epoch (body.Give parts) bytes = subst
      (λ (o : Option EndpointParts). SpellsMessage x.c epoch (back_body o) bytes) some spells in
      one-owes k w x n bytes st was (Says (front_saying (given_sent env.serve.c n epoch (Some parts))))
      (message env.serve.c epoch body.Given) epoch body.Given refl
      (reads x.c env.serve.c epoch body.Given is_env.number number (given.back.gives n epoch parts bytes give sent) tt tt)
      (λ z seat. let one : chain (at_seat k.files x.part st z) x.c (l k w x n bytes) ≡ 1 = ap (of_message (λ m. node_chain m.body)) give in omega (arith, one))
      (λ z seat d near. ⊎_elim
      (λ (c : IsComing z). absurd (out (subst IsComing (sym seat) c)))
      (λ (h : IsStillTold (suc d)). let two : 2 ≤ suc d = h.3 in (h.2, omega (arith, two)))
      (is-coming st z (suc d) (near-said (at_seat k.files x.part st z) (suc d) near)))

  -- what comes back does so in the front end's epoch
  past-out : (parts : EndpointParts) → parts_given ≡ Some parts → (row : FrontRow) → p.row ≡ Some row → epoch < row.epoch.0 → IsComing (seat_of x.part) → ⊥
  past-out parts some row found past (WasRefused count seat none) = let bad : None ≡ Some parts = sym none ∙ some in cc
  past-out parts some row found past (IsGiven told served seat q is) =
      let same : row.epoch.0 ≡ epoch = given.back.given told n epoch served seat row found in omega (arith, past, same)

  -- ---- the rule

  pub returned-answers : Owes k w x n bytes deed
  returned-answers = by-station x.part.station refl where
    by-station : (o : Option Station) → x.part.station ≡ o → Owes k w x n bytes deed
    by-station None none =
        subst (λ (o : Option FrontRow). Owes k w x n bytes (returned_by env p (given_sent env.serve.c n epoch parts_given) o
        (back_answer n epoch parts_given o) (parts_back p parts_given))) (sym (given.unopened none))
        (unopened-owes k w x n bytes none)
    by-station (Some st) was = returned-keeps env p (λ (d : FrontDeed). deed ≡ d → Owes k w x n bytes d)
        (λ same. drops-owes k w x n bytes st was (λ z seat d near. ⊎_elim
        (λ (c : IsComing z). not-dropped (subst IsComing (sym seat) c) same)
        (λ (h : IsStillTold (suc d)). still-answered (suc d) h same)
        (is-coming st z (suc d) (near-said (at_seat k.files x.part st z) (suc d) near))))
        n epoch parts_given
        (λ parts some row found past same. again-owes st was parts some (past-out parts some row found past))
        (λ row parts is same. comes-owes st was row parts is)
        refl
