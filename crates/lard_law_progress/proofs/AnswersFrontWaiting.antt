-- What comes of a client's segment to a connection in the line: no unit is near, and nothing is said to a segment that ends a chain.
use Rattle.std.proofs.Common.{◌≡◌, ◌≤◌, ◌&&◌, ◌||◌, not, ℕ, suc, true, false, List, [], ◌++◌, Some, None, Ok, ⊎_elim, refl, sym, ap, ◌∙◌, subst, arith, ◌==◌, length}
use Rattle.std.proofs.lemmas.Bool.{and_parts, eqb-true, or_cases}
use Rattle.lard_law_view.specs.Prelude.{Conn, ControlBlock, Ending, Final, FrontEnv, FrontRest, FrontRow, Place, Said, Service, Setting, Station, ToCluster, Turn, decoded, emitted, front_rest, is_clear, may_end, may_freeze, on_segment, seq_offset, serving, speaks, spoken, symbols, turn_of, waits_on}
use Rattle.lard_bound.specs.Chains.{is_current, is_plain}
use Rattle.lard_bound.specs.Seats.{Over, SeatNow, Waiting, seat_of}
use Rattle.lard_bound.specs.Spots.{Spot}
use Rattle.lard_bound.specs.Units.{Whole, symbols_taken}
use Rattle.lard_law_progress.proofs.AnswersFrontAway.{Owes, does, l, word-chained, word-near}
use Rattle.lard_law_progress.proofs.AnswersFrontGiven.{IsOnlyRefusal, IsTalking, IsWord, WasAwaited}
use Rattle.lard_law_progress.proofs.AnswersFrontSaying.{clear-silent, refused, reset-ends, says-to-client, spoken-cases}
use Rattle.lard_law_progress.proofs.AnswersFrontSpots.{answers-by, at_seat, moves-on, unit-goes, words-short}
use Rattle.lard_law_progress.proofs.Ends.{speaks-said}
use Rattle.lard_law_progress.proofs.Silence.{plain-parts}
use Rattle.lard_rules.specs.declared.places.Ending.TheVariants as ending
use Rattle.lard_rules.proofs.Saying.{speaks-done}

-- the number of a refusal was awaited by the endpoint
pub awaited-here : (st : Station) (seq : ℕ) (z : SeatNow) (b : ControlBlock) (count : ℕ) → z ≡ Waiting b count → WasAwaited st seq z → WasAwaited st seq (Waiting b count)
awaited-here st seq z b count is h = subst (WasAwaited st seq) is h

-- an endpoint that may be frozen has all acknowledged
pub frozen-clear : (b : ControlBlock) → may_freeze b ≡ true → b.send.una ≡ symbols b.send
frozen-clear b e = eqb-true b.send.una (symbols b.send) (and_parts (is_clear b.send) (not b.send.finished) (and_parts (is_clear b.send && not b.send.finished) (not b.recv.discarding && not b.reset) e).0).0

module _ (k : Setting) (w : Whole) (x : Conn) (bytes : List ℕ) (st : Station) (was : x.part.station ≡ Some st) (s : Said) (reads_so : decoded bytes x.c ToCluster ≡ Ok s) (env : FrontEnv) (row : FrontRow) (b : ControlBlock)
    (seat : seat_of x.part ≡ Waiting b (front_rest x.part.front.rest).count) (talk : IsTalking st b) (frozen : may_freeze b ≡ true) (word : IsWord st (seat_of x.part) bytes s) (only : IsOnlyRefusal x (l k w x bytes)) where
  abbrev rest : FrontRest
  rest = front_rest x.part.front.rest

  abbrev t : Spot
  t = at_seat k.files x.part st (Waiting b rest.count)

  abbrev d : ControlBlock
  d = (on_segment b s).1

  abbrev q : Service
  q = serving d rest.count []

  -- what ends a chain has no answer, where the endpoint stays
  unanswered : (s.flags.rst || is_current t s) ≡ true → may_end (speaks env.serve.c d).1 ≡ false → emitted d ≡ None
  unanswered ends stays = ⊎_elim
      (λ (rst : s.flags.rst ≡ true).
      let h = word.refuses rst (only s reads_so rst) in
      let a = awaited-here st s.seq (seat_of x.part) b rest.count seat h.1 in
      ⊎_elim
      (λ (r : d ≡ record b { reset = true }).
      let said = speaks-said env.serve.c d in
      let over = reset-ends (speaks env.serve.c d).1 (said.reset ∙ ap (λ (z : ControlBlock). z.reset) r) in
      absurd (let bad : true ≡ false = sym over ∙ stays in cc))
      (λ (r : d ≡ b). ap emitted r ∙ talk.silent.none)
      (refused st b s talk h.0 rst a.0 a.1 a.2))
      (λ (now : is_current t s ≡ true).
      let c = and_parts (is_plain s) (seq_offset s.seq t.isn == t.last) now in
      let p = plain-parts s.flags.syn s.flags.fin s.flags.rst s.flags.ack (length s.payload) c.0 in
      let acked : seq_offset s.ack st.iss ≤ symbols_taken st.client = word.acks p.3 in
      let sent : symbols_taken st.client ≤ b.send.nxt = talk.sent in
      let clear = frozen-clear b frozen in
      let most : b.send.una ≤ b.send.nxt = talk.sound.sending.sent in
      clear-silent st b s talk word.seq_small c.0 (eqb-true (seq_offset s.seq t.isn) t.last c.1) (omega (arith, acked, sent)) (omega (arith, clear, most)))
      (or_cases s.flags.rst (is_current t s) ends)

  over : (last : Final) (turn : Turn) → seat_of (does k w x bytes (waits_on env x.part.front row rest (ending.Over last, turn))).part ≡ Over last
  unfolding seat_of
  over last turn = refl

  pub waiting-owes : Owes k w x bytes (waits_on env x.part.front row rest (spoken env.serve q []))
  waiting-owes = spoken-cases env.serve q (λ (g : Ending × Turn). Owes k w x bytes (waits_on env x.part.front row rest g))
      (λ last turn lasts later.
      let v = does k w x bytes (waits_on env x.part.front row rest (ending.Over last, turn)) in
      unit-goes k w x v (l k w x bytes) (λ up. let bad = moves-on k w x v (l k w x bytes) st was was (Waiting b rest.count) (Over last) seat (over last turn) lasts up in cc))
      (λ stays lasts later.
      let ss = (speaks env.serve.c d).0 in
      let v = does k w x bytes (waits_on env x.part.front row rest (ending.Here (speaks env.serve.c d).1 rest.count, turn_of q ([] ++ ss))) in
      answers-by k w x v (l k w x bytes) st was lasts (Waiting b rest.count) seat (λ up. record {
        shorter = words-short t x.c env.serve.c (l k w x bytes) s (word-chained k w x bytes st was s reads_so t) ss (says-to-client env.serve.c d)
            (λ ends. ap (λ (r : List (Place × List ℕ) × ControlBlock). r.0) (speaks-done env.serve.c d (unanswered ends stays)));
        leads = λ e near. absurd (word-near k w x bytes st was s reads_so t (suc e) near);
      }))
