-- What is known where a stay is here, of a connection that agrees: its client opened, the front end knows where it is, and the stay holds what was said.
use Rattle.std.proofs.lemmas.Bool.{and_from}
use Rattle.std.proofs.Common.{Option, true, eq-eqb, ◌==◌, ◌≡◌, ◌≤◌, ◌^◌, ℕ, List, Some, None, Ok, sym, ◌∙◌, subst}
use Rattle.lard_law_view.specs.Prelude.{Conn, ControlBlock, FrontConn, FrontRow, IsNodeEnv, IsWord, NodeEnv, NodePart, Said, Seen, Setting, Station, Stay, is_row_at, is_with, tale_at}
use Rattle.lard_law_connections.specs.BytesAgreement.{IsOpen, IsTruthful}
use Rattle.lard_law_connections.proofs.BytesClientMoves.{open-at}
use Rattle.lard_law_connections.proofs.BytesFrontMessages.{opened-at}
use Rattle.lard_law_connections.proofs.BytesNodeMoves.{IsAt, has-it, known}
use Rattle.lard_law_connections.proofs.BytesNodeRest.{by-station, front-opens, nothing-here}
use Rattle.lard_law_connections.proofs.BytesNodeTurns.{It, agrees-by, ways-here}
use Rattle.lard_law_connections.proofs.BytesStays.{IsHeld, at-epoch}
use Rattle.lard_law_connections.specs.Places.{Sits, StageSits, owning}
use Rattle.lard_law_connections.proofs.PlacesTurns.{IsPlaced}
use Rattle.lard_handoff_front.specs.declared.row.FrontConn.TheVariants as stage
use Rattle.lard_law_view.proofs.EachNode.{HasForwarded}
use Rattle.lard_laws.proofs.NodeHere.{here-of}
use Rattle.lard_rules.proofs.NodeCases.{IsHereWith}
use Rattle.lard_laws.proofs.NodeDeeds.{forwarded-word}

module _ (k : Setting) (small : k.stream ≤ 2 ^ 30) (x : Conn) (truth : IsTruthful k.files x) (n epoch : ℕ) (env : NodeEnv) (is : IsNodeEnv k x.c n epoch env) where
  abbrev p : NodePart
  p = x.part.nodes n

  pub record StayHolds (b : ControlBlock) (t : Stay) : Type 0 where
    pub station : Station
    pub there : x.part.station ≡ Some station
    pub opened : IsOpen k.files x truth.talk truth.pend station
    pub it : It k small x station there truth.talk truth.pend opened n env epoch is env.epoch
    pub held : IsHeld env truth.talk.w truth.talk.out truth.talk.vs truth.talk.was_reset truth.pend (b, t)

  module _ (placed : IsPlaced x) (b : ControlBlock) (t : Stay) (at : IsHereWith env.epoch p b t) where
    of-station : (s : Station) → x.part.station ≡ Some s → StayHolds b t
    of-station s there =
        let o : IsOpen k.files x truth.talk truth.pend s = open-at k.files x s there truth in
        let it : It k small x s there truth.talk truth.pend o n env epoch is env.epoch = subst (It k small x s there truth.talk truth.pend o n env epoch is) at.epoch_is
        (λ placed. (has-it x truth.talk truth.pend o.seat placed n at.row b at.found at.staged, known x truth.talk truth.pend o.seat placed n at.row b at.found at.staged)) in
        let Held : ControlBlock × Stay → Type 0 = IsHeld env truth.talk.w truth.talk.out truth.talk.vs truth.talk.was_reset truth.pend in
        record {
          station = s;
          there = there;
          opened = o;
          it = it;
          held = at-epoch env truth.talk.w truth.talk.out truth.talk.vs truth.talk.was_reset truth.pend (λ z. z ≡ Some (b, t) → Held (b, t)) (λ e. let no : None ≡ Some (b, t) = e in absurd cc)
              (λ y held e. let same : y ≡ (b, t) = cc in subst Held same held) p env.serve.c p.row (agrees-by k small x s there truth.talk truth.pend o n env epoch is it placed)
              (ways-here k small x s there truth.talk truth.pend o n env epoch is) (here-of env.epoch p b t at);
        }

    pub stay-holds : StayHolds b t
    stay-holds = by-station k small x (StayHolds b t) of-station (λ none. let no : None ≡ Some (b, t) = sym (nothing-here k.files x none truth n env.epoch placed.sits) ∙ here-of env.epoch p b t at in absurd cc)

-- a segment that the front end forwarded is a word of the client
pub word-of : (k : Setting) (x : Conn) (truth : IsTruthful k.files x) (n epoch : ℕ) (heads : List Seen) (said : Said) → HasForwarded x n epoch (Ok said) heads
    → IsWord truth.talk.w said
word-of k x truth n epoch heads said m =
    let s = opened-at k.files x truth (front-opens x n m.came.bytes m.came.was) in
    forwarded-word k.files x s.0 truth.talk truth.pend (open-at k.files x s.0 s.1 truth) n epoch heads said m

-- the front end has it with the node that it is at
pub with-row : (x : Conn) → IsPlaced x → (n epoch : ℕ) (row : FrontRow) → x.part.front.row ≡ Some row → IsAt n row.stage → row.epoch.0 ≡ epoch
    → is_row_at n epoch x.part.front.row ≡ true
with-row x placed n epoch row found at same =
    subst (λ (q : Option FrontRow). is_row_at n epoch q ≡ true) (sym found) (go row.epoch.0 row.stage at (subst (Sits (owning (tale_at x)) x.part.nodes) found placed.sits).0 same) where
      go : (now : ℕ) (f : FrontConn) → IsAt n f → StageSits now (owning (tale_at x)) x.part.nodes f → now ≡ epoch → is_with n epoch f ≡ true
      go now (stage.Offering i f) at s e = and_from (i == n) (f.0 == epoch) (eq-eqb i n at) (eq-eqb f.0 epoch (s.1 ∙ e))
      go now (stage.Moved i f) at s e = and_from (i == n) (f.0 == epoch) (eq-eqb i n at) (eq-eqb f.0 epoch (s.1 ∙ e))
      go now _ at s e = absurd at
