-- An Ask and the end of a connection at its node leave it in agreement.
use Rattle.std.proofs.Common.{◌≡◌, ◌≤◌, ◌+◌, ◌==◌, ◌^◌, ℕ, Bool, false, true, List, [], ◌∷◌, ◌++◌, map, Option, Some, None, arith, refl, ◌∙◌, sym, subst, inl, ⊎_elim, eqb-true, eq-eqb}
use Rattle.std.specs.List.{fold, list_any}
use Rattle.lard_law_view.specs.Prelude.{Ask, Conn, EndpointParts, Final, Front, FrontConn, FrontDeed, FrontEnv, FrontGets, FrontPart, FrontRest, FrontRow, FrontRules, IsConnNumber, IsFrontEnv, LaterChoice, Node, NodePart, Reason, Rec, Seen, Setting, SpellsMessage, Station, Talk, Verdict, Was, ack_sent, assigned_notes, assigns, bytes_served_in, front_does, front_ended_by, front_rest, front_rule, front_saying, given_sent, is_away, is_reset_record, is_row_at, is_with, next_epoch, over_note, seen_step, served_in, serving, tag_sent, tale_at, tale_step, with_front}
use Rattle.lard_law_connections.specs.BytesAgreement.{AwayAgrees, EndedWithNumbers, IsFair, IsKept, IsOpen, IsTruthful, NodeAgrees, NodeTells, SeatAgrees, StageAgrees}
use Rattle.lard_law_connections.specs.BytesKeeping.{FrontSays, IsFrontTalk}
use Rattle.lard_law_connections.proofs.BytesLaw.{Helps, IsTrueMove, StaysTruthful}
use Rattle.lard_law_connections.specs.BytesTurning.{IsNoteOf}
use Rattle.lard_law_connections.proofs.BytesClientMoves.{has-fair, open-at}
use Rattle.lard_law_connections.proofs.BytesFrontMessages.{past-undecided, taken-moves, where-opened}
use Rattle.lard_law_connections.proofs.BytesFrontMoves.{GoesSo, all-say, at-home, by-segment, by-timer, drops-goes, heard-word, rule-agrees, says-goes, talk-of}
use Rattle.lard_law_connections.proofs.BytesFronts.{CameBack}
use Rattle.lard_law_connections.proofs.BytesMoves.{idle-goes, move-goes}
use Rattle.lard_law_connections.proofs.BytesOver.{over-tells, told-end}
use Rattle.lard_law_connections.proofs.BytesReturns.{by-return}
use Rattle.lard_law_connections.proofs.BytesTold.{bytes_of}
use Rattle.lard_law_connections.specs.Places.{HasEnded, IsDecided, IsOver, IsPast, IsThere, OthersArePast, Sits, StageSits, owning}
use Rattle.lard_law_connections.proofs.PlacesFrontMessages.{came-says, over-decided}
use Rattle.lard_law_connections.proofs.PlacesFrontRules.{decided-there, there-decided}
use Rattle.lard_law_connections.proofs.PlacesTurns.{IsPlaced}
use Rattle.lard_law_view.proofs.Rows.{tale_before}
use Rattle.lard_rules.specs.Front.{Does, Drops, Says}
use Rattle.lard_handoff_front.specs.declared.row.FrontConn.TheVariants as stage
use Rattle.lard_handoff_front.specs.declared.table.OnEnded.TheVariants.{New}
use Rattle.lard_history.proofs.Each.{Each}
use Rattle.lard_message.specs.declared.message.Body.TheVariants as body
use Rattle.lard_rules.proofs.FrontCases.{KeptByFront, front-keeps, hands_off}
use Rattle.lard_law_view.proofs.EachFront.{FrontComes, admission, each-front, of-front}

-- ---- notes that tell nothing of bytes

record Mute (c : ℕ) (rs : List Rec) : Type 0 where
  each : Each (IsNoteOf c) rs
  served : served_in rs ≡ 0
  size : bytes_served_in rs ≡ 0
  reset : list_any is_reset_record rs ≡ false

assigned-mute : (c : ℕ) (ask : Ask) (r : ℕ) (paths : List (List ℕ)) (choices : List LaterChoice) → Mute c (assigned_notes c ask r paths choices)
assigned-mute c ask r [] choices = record { each = tt; served = refl; size = refl; reset = refl }
assigned-mute c ask r (path ∷ paths) [] = record { each = tt; served = refl; size = refl; reset = refl }
assigned-mute c ask r (path ∷ paths) (choice ∷ choices) = let h = assigned-mute c ask (r + 1) paths choices in record { each = (tt, h.each); served = h.served; size = h.size; reset = h.reset }

over-mute : (c : ℕ) (b : Bool) (rs : List Rec) → Mute c rs → Mute c (over_note c b ++ rs)
over-mute c true rs h = record { each = (tt, h.each); served = h.served; size = h.size; reset = h.reset }
over-mute c false rs h = h

module _ (k : Setting) (small : k.stream ≤ 2 ^ 30) (x : Conn) (s : Station) (there : x.part.station ≡ Some s) (l : Talk) (pend : List Verdict) (o : IsOpen k.files x l pend s) (heads : List Seen)
    (quiet : (d : FrontDeed) → bytes_of (tale_before x (front_does x heads d)) ≡ bytes_of (tale_at x)) (env : FrontEnv) (is : IsFrontEnv k x.c env) where
  abbrev p : FrontPart
  p = x.part.front

  abbrev Goes : FrontDeed → Type 0
  Goes d = Helps x (front_does x heads d) → IsTrueMove k.files x (front_does x heads d)

  ack-says : (q : FrontPart) (n epoch : ℕ) → Each (FrontSays x.c q) (ack_sent env n epoch)
  ack-says q n epoch = subst (λ (c : ℕ). Each (FrontSays c q) (ack_sent env n epoch)) is.number ((n, epoch, body.EndedAck, refl, tt), tt)

  given-says : (q : FrontPart) (n epoch : ℕ) (parts : EndpointParts) → Each (FrontSays x.c q) (given_sent env.serve.c n epoch (Some parts))
  given-says q n epoch parts = subst (λ (c : ℕ). Each (FrontSays x.c q) (given_sent c n epoch (Some parts))) (sym is.number)
      ((n, epoch, body.Given, refl, tt), tt)

  tag-says : (q : FrontPart) (n epoch number : ℕ) (nodes : List ℕ) → Each (FrontSays x.c q) (tag_sent env n epoch number nodes)
  tag-says q n epoch number nodes = subst (λ (c : ℕ). Each (FrontSays c q) (tag_sent env n epoch number nodes)) is.number ((n, epoch, body.Tag number nodes, refl, tt), tt)

  ends-moves : (row : FrontRow) (m epoch : ℕ) (last : Final) → EndedWithNumbers l.w l.was_reset last → Goes (front_ended_by env p m epoch last (Some row) (New (next_epoch row)))
  ends-moves row m epoch last ended help =
      let d : FrontDeed = front_ended_by env p m epoch last (Some row) (New (next_epoch row)) in
      move-goes k.files x s there l pend o (front_does x heads d) help
      (record { heads = quiet d; station = refl; offers = λ i e a b. absurd b; ends = λ i e over. inl refl })
      (idle-goes k.files x s there l pend o (front_does x heads d) (record { each = (tt, (tt, tt)); served = refl; size = refl; reset = refl; seat = ended; ways = o.ways; sent = tt; letters = all-say l x.c (front_does x heads d).part (ack_sent env m epoch) (ack-says (front_does x heads d).part.front m epoch) }))

  -- ---- an Ask

  away-seat : (rest : Option FrontRest) (n epoch e : ℕ) (d : FrontConn) → is_with n epoch d ≡ true → StageAgrees l.w l.out l.vs pend l.was_reset x.c x.part e d
      → StageAgrees l.w l.out l.vs pend l.was_reset x.c (with_front x.part (record p { rest = rest })) e d
  away-seat rest n epoch e (stage.Offering i f) w h = h
  away-seat rest n epoch e (stage.Moved i f) w h = h
  away-seat rest n epoch e _ w h = let no : false ≡ true = w in absurd cc

  row-seat : (rest : Option FrontRest) (n epoch : ℕ) (row : Option FrontRow) → is_row_at n epoch row ≡ true → SeatAgrees l.w l.out l.vs pend l.was_reset x.c x.part row
      → SeatAgrees l.w l.out l.vs pend l.was_reset x.c (with_front x.part (record p { rest = rest })) row
  row-seat rest n epoch None w h = let no : false ≡ true = w in absurd cc
  row-seat rest n epoch (Some row) w h = away-seat rest n epoch row.epoch.0 row.stage w h

  assigns-moves : (rest : FrontRest) (n epoch : ℕ) (ask : Ask) → is_row_at n epoch p.row ≡ true → Goes (Does (assigns env p rest n epoch ask (env.later ask)))
  assigns-moves rest n epoch ask at help =
      let d : FrontDeed = Does (assigns env p rest n epoch ask (env.later ask)) in
      let mute : Mute x.c (over_note env.serve.c (env.later ask).over ++ assigned_notes env.serve.c ask rest.assigned ask.paths (env.later ask).choices) =
      subst (λ (c : ℕ). Mute c (over_note env.serve.c (env.later ask).over ++ assigned_notes env.serve.c ask rest.assigned ask.paths (env.later ask).choices)) is.number
      (over-mute env.serve.c (env.later ask).over _ (assigned-mute env.serve.c ask rest.assigned ask.paths (env.later ask).choices)) in
      move-goes k.files x s there l pend o (front_does x heads d) help
      (record { heads = quiet d; station = refl; offers = λ i e a b. refl; ends = λ i e over. inl refl })
      (idle-goes k.files x s there l pend o (front_does x heads d) (record {
        each = mute.each;
        served = mute.served;
        size = mute.size;
        reset = mute.reset;
        seat = row-seat (assigns env p rest n epoch ask (env.later ask)).part.rest n epoch p.row at o.seat;
        ways = o.ways;
        sent = tt;
        letters = all-say l x.c (front_does x heads d).part (assigns env p rest n epoch ask (env.later ask)).turn.messages (tag-says (front_does x heads d).part.front n epoch ask.number (map (λ y. y.node) (env.later ask).choices));
      }))

  -- ---- an Ended

  module _ (m epoch : ℕ) (why : Reason) (snd rcv count : ℕ) (bytes : List ℕ) (spells : SpellsMessage x.c epoch (body.Ended why snd rcv count) bytes) (was : Was x (Node m) Front bytes) where
    abbrev last : Final
    last = record { reason = why; snd = record { 0 = snd }; rcv = record { 0 = rcv } }

    abbrev here : NodePart
    here = x.part.nodes m

    -- it is the one that is kept, where the front end does not know it
    told : NodeTells x.part m epoch bytes (body.Ended why snd rcv count)
    told = (has-fair (IsFair l x.c x.part) (record { from = Node m; to = Front; bytes = bytes }) x.letters was o.fair) _ spells

    end-at : (row : FrontRow) (n : ℕ) → p.row ≡ Some row → row.epoch.0 ≡ epoch → OthersArePast n row.epoch.0 x.part.nodes → IsThere n row.epoch.0 (owning (tale_at x)) (x.part.nodes n).row
        → IsOver epoch here.row → NodeAgrees l.w l.out l.vs pend l.was_reset x.c (x.part.nodes n) → EndedWithNumbers l.w l.was_reset last
    end-at row n found same others is over agrees = go (m == n) refl where
      mine : IsOver row.epoch.0 here.row
      mine = subst (λ (e : ℕ). IsOver e here.row) (sym same) over

      unknown : IsKept here.kept bytes
      unknown = ⊎_elim (λ h. absurd (omega (arith, same, subst (HasEnded epoch) found h))) (λ h. h) told

      go : (b : Bool) → (m == n) ≡ b → EndedWithNumbers l.w l.was_reset last
      go true e =
          let eq : n ≡ m = sym (eqb-true m n e) in
          let tells = over-tells l.w l.out l.vs pend l.was_reset x.c row.epoch.0 here m (owning (tale_at x))
          (subst (λ (i : ℕ). IsThere i row.epoch.0 (owning (tale_at x)) (x.part.nodes i).row) eq is) mine (subst (λ (i : ℕ). NodeAgrees l.w l.out l.vs pend l.was_reset x.c (x.part.nodes i)) eq agrees) in
          told-end l.w l.out l.vs pend l.was_reset x.c row.epoch.0 here bytes tells unknown _ why snd rcv count spells refl
      go false e = absurd (past-undecided row.epoch.0 here.row (others m (λ eq. let no : true ≡ false = sym (eq-eqb m n eq) ∙ e in cc)) (over-decided row.epoch.0 here.row mine))

    -- where it is away, at which node and in this epoch
    end-stage : (row : FrontRow) (d : FrontConn) → p.row ≡ Some row → row.stage ≡ d → is_away epoch d ≡ true → IsOver epoch here.row → Helps x (front_does x heads (front_ended_by env p m epoch last (Some row) (New (next_epoch row)))) → EndedWithNumbers l.w l.was_reset last
    end-stage row (stage.Offering n f) found at away over help =
        let sits : StageSits row.epoch.0 (owning (tale_at x)) x.part.nodes (stage.Offering n f) = subst (StageSits row.epoch.0 (owning (tale_at x)) x.part.nodes) at (subst (Sits (owning (tale_at x)) x.part.nodes) found help.placed.sits).0 in
        let same : row.epoch.0 ≡ epoch = sym sits.1 ∙ eqb-true f.0 epoch away in
        let decided : IsDecided row.epoch.0 here.row = subst (λ (e : ℕ). IsDecided e here.row) (sym same) (over-decided epoch here.row over) in
        let is = decided-there n row.epoch.0 (owning (tale_at x)) x.part.nodes sits.2 m sits.3 decided in
        let there = there-decided n row.epoch.0 (owning (tale_at x)) x.part.nodes sits.2 (x.part.nodes n).row is in
        let seat : AwayAgrees l.w l.out l.vs pend l.was_reset x.c n row.epoch.0 x.part =
        subst (StageAgrees l.w l.out l.vs pend l.was_reset x.c x.part row.epoch.0) at (subst (SeatAgrees l.w l.out l.vs pend l.was_reset x.c x.part) found o.seat) in
        end-at row n found same sits.2 is over (⊎_elim
        (λ (a : IsPast row.epoch.0 (x.part.nodes n).row × _). absurd (past-undecided row.epoch.0 (x.part.nodes n).row a.0 there))
        (λ (a : IsDecided row.epoch.0 (x.part.nodes n).row × NodeAgrees l.w l.out l.vs pend l.was_reset x.c (x.part.nodes n)). a.1) seat)
    end-stage row (stage.Moved n f) found at away over help =
        let sits : StageSits row.epoch.0 (owning (tale_at x)) x.part.nodes (stage.Moved n f) = subst (StageSits row.epoch.0 (owning (tale_at x)) x.part.nodes) at (subst (Sits (owning (tale_at x)) x.part.nodes) found help.placed.sits).0 in
        let same : row.epoch.0 ≡ epoch = sym sits.1 ∙ eqb-true f.0 epoch away in
        let seat : IsDecided row.epoch.0 (x.part.nodes n).row × NodeAgrees l.w l.out l.vs pend l.was_reset x.c (x.part.nodes n) =
        subst (StageAgrees l.w l.out l.vs pend l.was_reset x.c x.part row.epoch.0) at (subst (SeatAgrees l.w l.out l.vs pend l.was_reset x.c x.part) found o.seat) in
        end-at row n found same sits.2 sits.3 over seat.1
    end-stage row _ found at away over help = let no : false ≡ true = away in absurd cc

  -- ---- whatever comes

  module _ (talk : IsFrontTalk env l.w l.out l.vs) (number : IsConnNumber x.c) (placed : IsPlaced x) where
    abbrev pub KeepsTrue : FrontDeed → Type 0
    KeepsTrue d = GoesSo k small x s there env is l pend o talk heads quiet d

    pub by-rules : KeptByFront env p (FrontComes x env heads) (CameBack env l.w l.out l.vs l.was_reset p) KeepsTrue
    by-rules = record {
      drops = λ keeps. drops-goes k small x s there l pend o heads (quiet Drops);
      hears = λ bytes sd comes.
          let f = heard-word k small x s there env is l pend o heads bytes sd comes in
          by-segment k small x s there env is l pend o talk heads quiet bytes sd f.0 f.1;
      fires = λ comes. by-timer k small x s there env is l pend o talk heads quiet;
      takes = λ m epoch comes row n e at same keeps help. taken-moves k small x s there l pend o heads quiet row n e epoch m at.0 at.1 same
          (came-says x (Node m) Front epoch body.Taken comes.bytes help.placed.letters comes.was comes.spells) help;
      tags_again = λ n epoch ask comes rest found at same some keeps.
          says-goes k small x s there l pend o heads (front_saying (tag_sent env n epoch rest.asks rest.tag))
          (quiet (Says (front_saying (tag_sent env n epoch rest.asks rest.tag)))) refl tt
          (all-say l x.c x.part (tag_sent env n epoch rest.asks rest.tag) (tag-says p n epoch rest.asks rest.tag));
      assigns_next = λ n epoch ask comes rest found at next keeps. assigns-moves rest n epoch ask at;
      ends_again = λ m epoch last comes row found away again keeps.
          says-goes k small x s there l pend o heads (front_saying (ack_sent env m epoch)) (quiet (Says (front_saying (ack_sent env m epoch)))) refl tt
          (all-say l x.c x.part (ack_sent env m epoch) (ack-says p m epoch));
      ends = λ m epoch last comes row found away keeps help. let t = comes.told in
          ends-moves row m epoch last (end-stage m epoch last.reason last.snd.0 last.rcv.0 comes.count t.bytes t.spells t.was row row.stage found refl away
          (came-says x (Node m) Front epoch (body.Ended last.reason last.snd.0 last.rcv.0 comes.count) t.bytes help.placed.letters t.was t.spells) help) help;
      gives_again = λ n epoch parts comes row found past keeps.
          says-goes k small x s there l pend o heads (front_saying (given_sent env.serve.c n epoch (Some parts)))
          (quiet (Says (front_saying (given_sent env.serve.c n epoch (Some parts))))) refl tt
          (all-say l x.c x.part (given_sent env.serve.c n epoch (Some parts)) (given-says p n epoch parts));
      returns = by-return k small x s there env is l pend o talk number placed heads quiet;
      admits = λ choice made met row b path at target. at-home k small x s there env is l pend o talk heads quiet row (stage.Waiting b) at tt tt
          (hands_off env row (serving b (front_rest p.rest).count []) path choice []) tt;
    }

-- ---- the rules of the front end

module _ (k : Setting) (small : k.stream ≤ 2 ^ 30) where
  -- what is seen first tells nothing of bytes
  heads-quiet : (x : Conn) (heads : List Seen) → bytes_of (fold (seen_step (tale_step x.c)) (tale_at x) heads) ≡ bytes_of (tale_at x)
      → (d : FrontDeed) → bytes_of (tale_before x (front_does x heads d)) ≡ bytes_of (tale_at x)
  heads-quiet x heads same Drops = same
  heads-quiet x heads same (Says turn) = same
  heads-quiet x heads same (Does did) = same

  opened-stays : (x : Conn) (s : Station) (env : FrontEnv) (heads : List Seen) (g : FrontGets) → x.part.station ≡ Some s → env.iss ≡ s.iss
      → IsFrontEnv k x.c env → FrontComes x env heads g → IsTruthful k.files x
      → Helps x (front_does x heads (front_rule env x.part.front g)) → IsTrueMove k.files x (front_does x heads (front_rule env x.part.front g))
  opened-stays x s env heads g there iss is comes h help =
      let o = open-at k.files x s there h in
      let talk = talk-of k small x env is s h.talk h.pend o iss in
      let quiet = heads-quiet x heads (of-front x (λ (ss : List Seen). bytes_of (fold (seen_step (tale_step x.c)) (tale_at x) ss) ≡ bytes_of (tale_at x))
      (λ from bytes. refl) refl refl env heads g comes) in
      front-keeps env x.part.front (FrontComes x env heads) (CameBack env h.talk.w h.talk.out h.talk.vs h.talk.was_reset x.part.front)
      (KeepsTrue k small x s there h.talk h.pend o heads quiet env is talk help.number help.placed)
      (by-rules k small x s there h.talk h.pend o heads quiet env is talk help.number help.placed) g (admission x env heads g comes) comes
      (rule-agrees k small x s there env is h.talk h.pend o talk heads g comes) help

  pub fronts : FrontRules k (StaysTruthful k)
  fronts = each-front k (StaysTruthful k) (λ x env heads g is comes help h.
      where-opened k (λ y v. Helps y v → IsTrueMove k.files y v) opened-stays x env heads g is comes h help)
