-- What comes of the messages of a node at the front end: a Taken and an end are a unit where they were awaited, and an end that is known is
-- acknowledged again.
use Rattle.std.proofs.Common.{◌≡◌, ◌<◌, ◌≤◌, ◌^◌, ℕ, suc, Bool, true, false, cond, List, Option, Some, None, refl, sym, ap, ◌∙◌, subst, arith}
use Rattle.std.proofs.lemmas.Bool.{cond_both, eq-eqb, eqb-true}
use Rattle.lard_law_view.specs.Prelude.{ClientBlock, Conn, Epoch, Final, FrontConn, FrontEnv, FrontRow, IsConnNumber, IsFrontEnv, NodePart, Reason, Setting, SpellsMessage, Station, ack_sent, asked_node, end_answer, ended_with, front_ended, front_ended_by, front_rest, front_saying, front_taken, is_away, next_epoch, offered_to, taken_by}
use Rattle.lard_bound.specs.Chains.{chain, node_chain, of_message}
use Rattle.lard_bound.specs.Nears.{Near, NearEnding, NearSaid, NearTaken, OfMessage}
use Rattle.lard_bound.specs.Seats.{Gone, Held, Here, Offered, Over, Refused, Returned, SeatNow, Unborn, Waiting, seat_away, seat_in, seat_of, tells_over}
use Rattle.lard_bound.specs.Spots.{Spot, post_of}
use Rattle.lard_bound.specs.Units.{Whole}
use Rattle.lard_rules.specs.Front.{Says, message}
use Rattle.lard_handoff_front.specs.declared.row.FrontConn.TheVariants as stage
use Rattle.lard_handoff_front.specs.declared.table.OnEnded.TheVariants.{New, Again, Stale}
use Rattle.lard_message.specs.declared.message.Body.TheVariants as body
use Rattle.lard_law_progress.proofs.AnswersFrontGiven.{FrontGiven}
use Rattle.lard_law_progress.proofs.AnswersFrontHome.{gone-home}
use Rattle.lard_law_progress.proofs.AnswersFrontMessages.{Owes, does, drops-owes, l, one-owes, reads, unopened-owes}
use Rattle.lard_law_progress.proofs.AnswersFrontSpots.{answers-by, at_seat, away-cases, moves-on, seat-row, unit-goes}

-- ---- a Taken

module _ (k : Setting) (w : Whole) (x : Conn) (given : FrontGiven k.files w x) (n : ℕ) (bytes : List ℕ) (epoch : ℕ) (spells : SpellsMessage x.c epoch body.Taken bytes) where
  -- once the front end knows, none is awaited
  never : (xc : ClientBlock) (m e count : ℕ) (q : NodePart) (d : ℕ) → NearTaken d epoch (post_of k.files xc (seat_away true m e count q)) → ⊥
  never xc m e count q d = away-cases true m e count q (λ (z : SeatNow). NearTaken d epoch (post_of k.files xc z) → ⊥) (λ near. near) (λ near. near)
      (λ b near. near) (λ near. near) (λ served near. near)

  -- nor where it is not offered
  unawaited : (xc : ClientBlock) (c : FrontConn) → offered_to epoch c ≡ None → (d : ℕ) → NearTaken d epoch (post_of k.files xc (seat_in x.part.front x.part.nodes c)) → ⊥
  unawaited xc (stage.Offering m e) none d near =
      away-cases false m e.0 (front_rest x.part.front.rest).count (x.part.nodes m) (λ (z : SeatNow). NearTaken d epoch (post_of k.files xc z) → ⊥)
      (λ near. near) (λ near. near) (λ b near. differ near.0) (λ near. differ near.0)
      (λ served near. differ near.0) near
    where
      differ : e.0 ≡ epoch → ⊥
      differ same = let t : offered_to epoch (stage.Offering m e) ≡ Some m = ap (λ (t : Bool). cond t (Some m) None) (eq-eqb e.0 epoch same) in let bad : Some m ≡ None = sym t ∙ none in cc
  unawaited xc (stage.Moved m e) none d near = never xc m e.0 (front_rest x.part.front.rest).count (x.part.nodes m) d near
  unawaited xc _ none d near = near

  taken-near : (t : Spot) (d : ℕ) → Near k.files t x.c d (l k w x n bytes) → NearTaken d epoch t.post
  taken-near t d near = subst (OfMessage (λ m. NearSaid t d n m.epoch.0 m.body)) spells near

  there : (row : FrontRow) (node : ℕ) → seat_of (does k w x n bytes (taken_by x.part.front epoch (Some row) (Some node))).part ≡ seat_away true node epoch (front_rest x.part.front.rest).count (x.part.nodes node)
  unfolding seat_of
  there row node = refl

  -- the front end knows: what was near was a unit
  knows-owes : (st : Station) → x.part.station ≡ Some st → (row : FrontRow) (node : ℕ) → Owes k w x n bytes (taken_by x.part.front epoch (Some row) (Some node))
  knows-owes st was row node lasts later =
      let deed = taken_by x.part.front epoch (Some row) (Some node) in
      let z = seat_of x.part in
      answers-by k w x (does k w x n bytes deed) (l k w x n bytes) st was lasts z refl (λ up. record {
        shorter = tt;
        leads = λ d near.
            let same = moves-on k w x (does k w x n bytes deed) (l k w x n bytes) st was was z (seat_away true node epoch (front_rest x.part.front.rest).count (x.part.nodes node)) refl (there row node) lasts up in
            absurd (never st.client node epoch (front_rest x.part.front.rest).count (x.part.nodes node) (suc d) (subst (NearTaken (suc d) epoch) (sym same) (taken-near (at_seat k.files x.part st z) (suc d) near)));
      })

  pub taken-answers : Owes k w x n bytes (front_taken x.part.front epoch)
  taken-answers = by-station x.part.station refl where
    by-node : (st : Station) → x.part.station ≡ Some st → (row : FrontRow) → x.part.front.row ≡ Some row → (o : Option ℕ) → offered_to epoch row.stage ≡ o → Owes k w x n bytes (taken_by x.part.front epoch (Some row) o)
    by-node st was row is None none = drops-owes k w x n bytes st was (λ z seat d near.
        unawaited st.client row.stage none (suc d) (subst (λ (y : SeatNow). NearTaken (suc d) epoch (post_of k.files st.client y)) (sym seat ∙ seat-row x.part (Some row) is) (taken-near (at_seat k.files x.part st z) (suc d) near)))
    by-node st was row is (Some node) asked = knows-owes st was row node

    by-row : (st : Station) → x.part.station ≡ Some st → (o : Option FrontRow) → x.part.front.row ≡ o → Owes k w x n bytes (taken_by x.part.front epoch o (asked_node epoch o))
    by-row st was None is = drops-owes k w x n bytes st was (λ z seat d near.
        subst (λ (y : SeatNow). NearTaken (suc d) epoch (post_of k.files st.client y)) (sym seat ∙ seat-row x.part None is) (taken-near (at_seat k.files x.part st z) (suc d) near))
    by-row st was (Some row) is = by-node st was row is (offered_to epoch row.stage) refl

    by-station : (o : Option Station) → x.part.station ≡ o → Owes k w x n bytes (front_taken x.part.front epoch)
    by-station None none = subst (λ (o : Option FrontRow). Owes k w x n bytes (taken_by x.part.front epoch o (asked_node epoch o))) (sym (given.unopened none)) (unopened-owes k w x n bytes none)
    by-station (Some st) was = by-row st was x.part.front.row refl

-- ---- an end

module _ (k : Setting) (w : Whole) (x : Conn) (env : FrontEnv) (is_env : IsFrontEnv k x.c env) (number : IsConnNumber x.c) (given : FrontGiven k.files w x) (n : ℕ) (bytes : List ℕ) (epoch : ℕ) (reason : Reason) (snd rcv count : ℕ)
    (spells : SpellsMessage x.c epoch (body.Ended reason snd rcv count) bytes) (last : Final) where
  ended-near : (t : Spot) (d : ℕ) → Near k.files t x.c d (l k w x n bytes) → NearEnding t d n epoch t.post
  ended-near t d near = subst (OfMessage (λ m. NearSaid t d n m.epoch.0 m.body)) spells near

  ended-chain : (t : Spot) → chain t x.c (l k w x n bytes) ≡ 1
  ended-chain t = ap (of_message (λ m. node_chain m.body)) spells

  -- an end that is near is of a node that the connection is with, or was told before
  near-end : (st : Station) (z : SeatNow) → seat_of x.part ≡ z → (row : FrontRow) → x.part.front.row ≡ Some row → is_away epoch row.stage ≡ false → (d : ℕ) → NearEnding (at_seat k.files x.part st z) (suc d) n epoch (post_of k.files st.client z)
      → (tells_over (x.part.nodes n) ≡ Some (epoch, false)) × (1 ≤ d) × (ended_with epoch row.ended_by ≡ true)
  near-end st Unborn seat row is out d near = absurd near
  near-end st (Held b c) seat row is out d near = absurd near
  near-end st (Waiting b c) seat row is out d near = absurd near
  near-end st (Offered m e c) seat row is out d near = absurd near
  near-end st (Refused m e c) seat row is out d near = absurd near
  near-end st (Returned told m e c) seat row is out d near = absurd near
  near-end st (Here told m e b s) seat row is out d near = absurd near
  near-end st (Gone told m e) seat row is out d near =
      let home = gone-home x.part row told m e is seat in
      let here : is_away epoch row.stage ≡ true = subst (λ (i : ℕ). is_away i row.stage ≡ true) near.0 home in
      absurd (let bad : true ≡ false = sym here ∙ out in cc)
  near-end st (Over final) seat row is out d near =
      let by : row.ended_by ≡ Some (record { 0 = epoch }) = given.ended row final n epoch is seat near.0 in
      (near.0, (let two : 2 ≤ suc d = near.1 in omega arith), ap (ended_with epoch) by ∙ eq-eqb epoch epoch refl)

  over : (row : FrontRow) → seat_of (does k w x n bytes (front_ended_by env x.part.front n epoch last (Some row) (New (next_epoch row)))).part ≡ Over last
  unfolding seat_of
  over row = refl

  -- it is new: a unit goes
  new-owes : (st : Station) → x.part.station ≡ Some st → (row : FrontRow) → x.part.front.row ≡ Some row → is_away epoch row.stage ≡ true → Owes k w x n bytes (front_ended_by env x.part.front n epoch last (Some row) (New (next_epoch row)))
  new-owes st was row is away lasts later =
      let deed = front_ended_by env x.part.front n epoch last (Some row) (New (next_epoch row)) in
      let v = does k w x n bytes deed in
      unit-goes k w x v (l k w x n bytes) (λ up. apart row.stage away (moves-on k w x v (l k w x n bytes) st was was (seat_in x.part.front x.part.nodes row.stage) (Over last) (seat-row x.part (Some row) is) (over row) lasts up))
    where
      from : (told : Bool) (m e count : ℕ) (q : NodePart) → post_of k.files st.client (Over last) ≡ post_of k.files st.client (seat_away told m e count q) → ⊥
      from told m e count q = away-cases told m e count q (λ (z : SeatNow). post_of k.files st.client (Over last) ≡ post_of k.files st.client z → ⊥)
          (λ f. cc) (λ f. cc) (λ b f. cc) (λ f. cc) (λ served f. cc)

      apart : (c : FrontConn) → is_away epoch c ≡ true → post_of k.files st.client (Over last) ≡ post_of k.files st.client (seat_in x.part.front x.part.nodes c) → ⊥
      apart (stage.Held b) away f = cc
      apart (stage.Waiting b) away f = cc
      apart stage.Lent away f = cc
      apart (stage.Offering m e) away f = from false m e.0 (front_rest x.part.front.rest).count (x.part.nodes m) f
      apart (stage.Moved m e) away f = from true m e.0 (front_rest x.part.front.rest).count (x.part.nodes m) f
      apart (stage.Closed final) away f = cc

  -- it is known: that is told again
  again-owes : (st : Station) → x.part.station ≡ Some st → (row : FrontRow) → x.part.front.row ≡ Some row → is_away epoch row.stage ≡ false → ended_with epoch row.ended_by ≡ true
      → Owes k w x n bytes (Says (front_saying (ack_sent env n epoch)))
  again-owes st was row is out known =
      one-owes k w x n bytes st was (Says (front_saying (ack_sent env n epoch))) (message env.serve.c epoch body.EndedAck) epoch body.EndedAck refl
      (reads x.c env.serve.c epoch body.EndedAck is_env.number number (small row.ended_by known (λ e f. given.epochs row e is f)) tt tt)
      (λ z seat. let one = ended-chain (at_seat k.files x.part st z) in omega (arith, one))
      (λ z seat d near. let h = near-end st z seat row is out d (ended-near (at_seat k.files x.part st z) (suc d) near) in (h.0, h.1))
    where
      small : (o : Option Epoch) → ended_with epoch o ≡ true → ((e : Epoch) → o ≡ Some e → e.0 < 2 ^ 16) → epoch < 2 ^ 16
      small None t h = absurd cc
      small (Some e) t h = let same : e.0 ≡ epoch = eqb-true e.0 epoch t in let less : e.0 < 2 ^ 16 = h e refl in omega (arith, same, less)

  pub ended-answers : Owes k w x n bytes (front_ended env x.part.front n epoch last)
  ended-answers = by-station x.part.station refl where
    by-row : (st : Station) → x.part.station ≡ Some st → (o : Option FrontRow) → x.part.front.row ≡ o → Owes k w x n bytes (front_ended_by env x.part.front n epoch last o (end_answer epoch o))
    by-row st was None is = drops-owes k w x n bytes st was (λ z seat d near.
        subst (λ (y : SeatNow). NearEnding (at_seat k.files x.part st z) (suc d) n epoch (post_of k.files st.client y)) (sym seat ∙ seat-row x.part None is) (ended-near (at_seat k.files x.part st z) (suc d) near))
    by-row st was (Some row) is =
        cond_both (is_away epoch row.stage) (New (next_epoch row)) (cond (ended_with epoch row.ended_by) Again Stale) (λ o. Owes k w x n bytes (front_ended_by env x.part.front n epoch last (Some row) o))
        (λ away. new-owes st was row is away)
        (λ out. cond_both (ended_with epoch row.ended_by) Again Stale (λ o. Owes k w x n bytes (front_ended_by env x.part.front n epoch last (Some row) o))
        (λ known. again-owes st was row is out known)
        (λ unknown. drops-owes k w x n bytes st was (λ z seat d near.
        let h = near-end st z seat row is out d (ended-near (at_seat k.files x.part st z) (suc d) near) in let bad : true ≡ false = sym h.2 ∙ unknown in cc)))

    by-station : (o : Option Station) → x.part.station ≡ o → Owes k w x n bytes (front_ended env x.part.front n epoch last)
    by-station None none = subst (λ (o : Option FrontRow). Owes k w x n bytes (front_ended_by env x.part.front n epoch last o (end_answer epoch o))) (sym (given.unopened none)) (unopened-owes k w x n bytes none)
    by-station (Some st) was = by-row st was x.part.front.row refl
