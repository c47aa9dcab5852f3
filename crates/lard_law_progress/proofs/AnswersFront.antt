-- What comes of each packet that comes to the front end, where no unit goes: all that it sends has shorter chains, and if the packet was
-- near, something of that is nearer.
use Rattle.std.proofs.Common.{◌≡◌, ℕ, suc, true, false, List, Option, Some, None, Result, Ok, Err, refl, sym, ap, ◌∙◌, subst}
use Rattle.lard_base.specs.declared.event.Event.TheVariants as event
use Rattle.lard_law_view.specs.Prelude.{Body, Client, Conn, Final, Front, FrontConn, FrontDeed, FrontEnv, FrontRow, FrontRules, IsForFront, IsFrontEnv, IsUnheard, Letter, MayRestOn, Message, Move, MsgFault, Node, Place, Said, SegFault, Setting, Station, ToCluster, Was, ask_of, decoded, decoded_message, event_seen, front_asked, front_does, front_ended, front_gets, front_hears, front_rest, front_returned, front_taken, front_timer, grown, hears_at, kind_of, nothing_said, packet_seen, stands}
use Rattle.lard_bound.specs.Nears.{NearSaid, OfMessage}
use Rattle.lard_bound.specs.Progress.{Answers, IsWarm, IsWarmBy, IsWarmSegment, IsWarmWord, Lasts, NearOn, spot_at, spot_with}
use Rattle.lard_bound.specs.Seats.{Held, Over, SeatNow, Waiting, seat_in, seat_of}
use Rattle.lard_bound.specs.Spots.{Spot}
use Rattle.lard_bound.specs.Units.{Whole}
use Rattle.lard_rules.specs.Front.{Drops, Says, Does}
use Rattle.lard_handoff_front.specs.declared.row.FrontConn.TheVariants as stage
use Rattle.lard_message.specs.declared.message.Body.TheVariants as body
use Rattle.lard_law_progress.proofs.AnswersFrontAsked.{asked-answers}
use Rattle.lard_law_progress.proofs.AnswersFrontAway.{Owes, forwarded-owes, l, met-owes, unread-owes}
use Rattle.lard_law_progress.proofs.AnswersForm.{IsLateOn}
use Rattle.lard_law_progress.proofs.AnswersForm as form
use Rattle.lard_law_progress.proofs.AnswersFrontGiven.{AtSeat, FrontGiven, IsOnlyRefusal, IsStage, IsWord}
use Rattle.lard_law_progress.proofs.AnswersFrontHolding.{heard-owes}
use Rattle.lard_law_progress.proofs.AnswersFrontOver.{over-owes}
use Rattle.lard_law_progress.proofs.AnswersFrontReturned.{returned-answers}
use Rattle.lard_law_progress.proofs.AnswersFrontSpots.{seat-row}
use Rattle.lard_law_progress.proofs.AnswersFrontTold.{ended-answers, taken-answers}
use Rattle.lard_law_progress.proofs.AnswersFrontWaiting.{waiting-owes}

-- ---- a client's segment

module _ (k : Setting) (w : Whole) (x : Conn) (bytes : List ℕ) (st : Station) (was : x.part.station ≡ Some st) (env : FrontEnv) (is_env : IsFrontEnv k x.c env) (may : MayRestOn (FrontGiven k.files w) x)
    (sent : Was x (Client x.c) Front bytes) (warm : IsWarm x (l k w x bytes)) (only : IsOnlyRefusal x (l k w x bytes)) where
  -- its window is the client's
  warm-word : (s : Said) → decoded bytes x.c ToCluster ≡ Ok s → IsWarmWord st.client s st.client.phase
  warm-word s reads_so =
      let a : IsWarmSegment st.client (decoded bytes st.client.c ToCluster) = subst (λ (o : Option Station). IsWarmBy o (l k w x bytes)) was warm in
      let c : decoded bytes st.client.c ToCluster ≡ Ok s = ap (λ n. decoded bytes n ToCluster) (may.sound.client st was) ∙ reads_so in
      subst (IsWarmSegment st.client) c a

  word : (s : Said) → decoded bytes x.c ToCluster ≡ Ok s → IsWord st (seat_of x.part) bytes s
  word s reads_so = may.given.words st bytes s was sent reads_so

  at : (z : SeatNow) → seat_of x.part ≡ z → AtSeat w st z
  at z seat = subst (AtSeat w st) seat (may.given.seats st was)

  hears-at : (s : Said) → decoded bytes x.c ToCluster ≡ Ok s → (row : FrontRow) (c : FrontConn) → seat_of x.part ≡ seat_in x.part.front x.part.nodes c → IsStage c → Owes k w x bytes (hears_at env x.part.front row bytes s c)
  hears-at s reads_so row (stage.Held b) seat good =
      let h = at (Held b (front_rest x.part.front.rest).count) seat in
      heard-owes k w x bytes st was s reads_so env is_env row b seat h.0 (word s reads_so) only (warm-word s reads_so)
  hears-at s reads_so row (stage.Waiting b) seat good =
      let h = at (Waiting b (front_rest x.part.front.rest).count) seat in
      waiting-owes k w x bytes st was s reads_so env row b seat h.0 h.1 (word s reads_so) only
  hears-at s reads_so row stage.Lent seat good = absurd good
  hears-at s reads_so row (stage.Offering node e) seat good =
      forwarded-owes k w x bytes st was s reads_so env is_env may.number (word s reads_so) false node (front_rest x.part.front.rest).count e good seat
  hears-at s reads_so row (stage.Moved node e) seat good =
      forwarded-owes k w x bytes st was s reads_so env is_env may.number (word s reads_so) true node (front_rest x.part.front.rest).count e good seat
  hears-at s reads_so row (stage.Closed last) seat good =
      over-owes k w x bytes st was s reads_so env is_env last seat (word s reads_so) (at (Over last) seat)

  hears-by : (s : Said) → decoded bytes x.c ToCluster ≡ Ok s → (o : Option FrontRow) → x.part.front.row ≡ o → Owes k w x bytes (front_hears env x.part.front bytes s o)
  hears-by s reads_so None is = met-owes k w x bytes st was s reads_so env (seat-row x.part None is)
  hears-by s reads_so (Some row) is = hears-at s reads_so row row.stage (seat-row x.part (Some row) is) (may.given.stages row is)

  pub hears-answers : (r : Result Said SegFault) → decoded bytes x.c ToCluster ≡ r → Owes k w x bytes (front_gets env x.part.front bytes r)
  hears-answers (Err fault) is = unread-owes k w x bytes st was fault is
  hears-answers (Ok s) is = hears-by s is x.part.front.row refl

-- ---- all of the front end

module _ (k : Setting) (all : ℕ → Whole) where
  -- of each move
  abbrev pub Owed : Conn → Move → Type 0
  Owed x v = form.Owes k (all x.c) (FrontGiven k.files (all x.c)) x v

  by-packet : (x : Conn) (from to : Place) (bytes : List ℕ) (deed : FrontDeed) → let a : Letter = record { from = from; to = to; bytes = bytes } in let v = front_does x (packet_seen from to bytes) deed in
      (MayRestOn (FrontGiven k.files (all x.c)) x → IsWarm x a → IsLateOn x a → Lasts k (all x.c) x v → FrontGiven k.files (all x.c) (grown x v) → Answers k (all x.c) x v a) → Owed x v
  by-packet x from to bytes Drops h may later warm late lasts = h may warm late lasts later
  by-packet x from to bytes (Says turn) h may later warm late lasts = h may warm late lasts later
  by-packet x from to bytes (Does did) h may later warm late lasts = h may warm late lasts later

  by-timer : (x : Conn) (deed : FrontDeed) → let e = event_seen (event.Timer Front x.c) in Owed x (front_does x e deed)
  by-timer x Drops may later warm late lasts = tt
  by-timer x (Says turn) may later warm late lasts = tt
  by-timer x (Does did) may later warm late lasts = tt

  pub front-answers : FrontRules k Owed
  front-answers = record {
    hears = λ x s env bytes was is_env iss sent. by-packet x (Client x.c) Front bytes (front_gets env x.part.front bytes (decoded bytes x.c ToCluster))
        (λ may warm late. hears-answers k (all x.c) x bytes s was env is_env may sent warm (late s was) (decoded bytes x.c ToCluster) refl);
    fires = λ x s env was is_env. by-timer x (front_timer env x.part.front);
    taken = λ x env n epoch bytes is_env spells sent. by-packet x (Node n) Front bytes (front_taken x.part.front epoch)
        (λ may warm late. taken-answers k (all x.c) x may.given n bytes epoch spells);
    asked = λ x env n epoch number queue size paths bytes is_env spells sent. by-packet x (Node n) Front bytes (front_asked env x.part.front n epoch (ask_of x.c n number queue size paths))
        (λ may warm late. asked-answers k (all x.c) x env is_env may.number may.given n bytes epoch number queue size paths spells);
    ended = λ x env n epoch reason snd rcv count bytes is_env spells sent.
        let last : Final = record { reason = reason; snd = record { 0 = snd }; rcv = record { 0 = rcv } } in
        by-packet x (Node n) Front bytes (front_ended env x.part.front n epoch last)
        (λ may warm late. ended-answers k (all x.c) x env is_env may.number may.given n bytes epoch reason snd rcv count spells last);
    returned = λ x env n epoch back bytes is_env spells sent. by-packet x (Node n) Front bytes (front_returned env x.part.front n epoch back)
        (λ may warm late. returned-answers k (all x.c) x env is_env may.number may.given n bytes epoch back spells sent);
    admitted = λ x env choice given is_env is may later warm late lasts. tt;
  }

module _ (k : Setting) (w : Whole) where
  -- ---- a packet that is ignored

  never-heard : (n : ℕ) (bytes : List ℕ) (t : Spot) (d : ℕ) → ((m : Message) → decoded_message bytes ≡ Ok m → IsForFront (kind_of m.body) → ⊥) → (r : Result Message MsgFault) → decoded_message bytes ≡ r
      → OfMessage (λ m. NearSaid t d n m.epoch.0 m.body) r → ⊥
  never-heard n bytes t d never (Err fault) is near = near
  never-heard n bytes t d never (Ok m) is near = by m.body refl near where
    by : (b : Body) → m.body ≡ b → NearSaid t d n m.epoch.0 b → ⊥
    by (body.Taken) e near = never m is (subst (λ b. IsForFront (kind_of b)) (sym e) tt)
    by (body.Ask number queue size paths) e near = never m is (subst (λ b. IsForFront (kind_of b)) (sym e) tt)
    by body.Refused e near = never m is (subst (λ b. IsForFront (kind_of b)) (sym e) tt)
    by (body.Give parts) e near = never m is (subst (λ b. IsForFront (kind_of b)) (sym e) tt)
    by (body.Ended why snd rcv count) e near = never m is (subst (λ b. IsForFront (kind_of b)) (sym e) tt)
    by _ e near = near

  pub front-ignores : (x : Conn) (from : Place) (bytes : List ℕ) → IsUnheard k.nodes x.part.station from Front bytes
      → Answers k w x (stands x Front (packet_seen from Front bytes) nothing_said) (record { from = from; to = Front; bytes = bytes })
  front-ignores x from bytes unheard = record { shorter = λ up. tt; leads = λ up d near. absurd (far from unheard (spot_at k.files x) refl d near) } where
    far : (from : Place) → IsUnheard k.nodes x.part.station from Front bytes → (o : Option Spot) → spot_at k.files x ≡ o → (d : ℕ) → NearOn k.files o x.c (suc d) (record { from = from; to = Front; bytes = bytes }) → ⊥
    far from unheard None is d near = near
    far (Client c) unheard (Some t) is d near = let bad : None ≡ Some t = sym (ap (spot_with k.files x) unheard) ∙ is in cc
    far Front unheard (Some t) is d near = near
    far (Node n) unheard (Some t) is d near = never-heard n bytes t (suc d) unheard (decoded_message bytes) refl near
