-- What a client notes and sends in its turn is in range, and it sends few segments.
use Rattle.std.proofs.Common.{◌≡◌, ℕ, zero, suc, ◌+◌, ◌-◌, ◌≤◌, ◌<◌, ◌^◌, List, [], ◌∷◌, ◌++◌, length, take, drop, true, false, cond, nat_lt, ◌||◌, Option, Some, None, Ok, Err, Result, refl, sym, subst, arith, length-append}
use Rattle.std.proofs.lemmas.Bool.{cond_both}
use Rattle.lard_law_view.specs.Prelude.{ClientBlock, Heard, IsNumber, IsPlaceInRange, IsRecordInRange, Place, Ready, Rec, Said, SegFault, ToCluster, Turn, abort_ready, aborted, accepted_note, acknowledged_bytes, client_aborts, client_after_emit, client_after_timer, client_arrived, client_emits, client_emitted, client_filled, client_gets, client_holds, client_injects, client_opened, client_opens, client_owes, client_shuts, client_speaks, client_taken, client_takes, client_timed, client_timer, client_writes, client_written, eof_note, held_on, is_client_open, is_established, is_writing, queued_too, shut_down, silent, speaking, station_ready_of, to_front, unsaid, written_len}
use Rattle.lard_client.specs.declared.phase.Phase.TheVariants.{Aborted}
use Rattle.lard_history.proofs.Each.{Each, Each-append}
use Rattle.lard_journal.specs.declared.rec.Rec.TheVariants as rec
use Rattle.lard_rules.proofs.Loops.{KeptByTelling, client_keeps}
use Rattle.lard_law_view.proofs.ClientTurns.{arrived-hears}
use Rattle.lard_law_view.proofs.ByteLists.{AreBytes, bytes-append, bytes-index, bytes-spelled, each-drop, each-take}
use Rattle.lard_rules.proofs.Halves.{client-arrived, client-emit, client-fires, client-shuts}
use Rattle.lard_law_view.proofs.KeptBytes.{IsKept, kept-sending, left-few}

-- a segment goes to a place in range, and has bytes
abbrev pub IsSent : Place × List ℕ → Type 0
IsSent s = IsPlaceInRange s.0 × AreBytes s.1

-- A turn's notes and segments are in range, and its segments are few.
pub record Fits (turn : Turn) : Type 0 where
  pub notes : Each IsRecordInRange turn.notes
  pub sent : Each IsSent turn.segments
  pub few : length turn.segments ≤ 2 ^ 31

-- a turn in which nothing is noted or sent
pub silent-fits : Fits silent
silent-fits = record { notes = tt; sent = tt; few = omega arith }

-- what a client wrote is bytes, and no more than one direction carries
abbrev pub ClientKeeps : ClientBlock → Type 0
ClientKeeps x = IsKept 0 x.send

-- what a rule gives: what the client keeps, and its turn
pub record ClientFits (given : ClientBlock × Turn) : Type 0 where
  pub keeps : ClientKeeps given.0
  pub turn : Fits given.1

-- ---- what a client sends

-- a segment has a part of what it wrote
segment-sent : (x : ClientBlock) (r : Ready) → ClientKeeps x → IsSent (to_front x r)
segment-sent x r h =
    let from : ℕ = r.at - acknowledged_bytes x.send in
    (tt, bytes-spelled x.c ToCluster (client_filled x r) (each-take (λ b. b < 256) r.len (drop from x.send.rest) (each-drop (λ b. b < 256) from x.send.rest h.0)))

-- one segment that is ready, or none
ready-sent : (x : ClientBlock) (o : Option Ready) → ClientKeeps x → Each IsSent (station_ready_of x o)
ready-sent x None h = tt
ready-sent x (Some r) h = (segment-sent x r h, tt)

ready-few : (x : ClientBlock) (o : Option Ready) → length (station_ready_of x o) ≤ 1
ready-few x None = omega arith
ready-few x (Some r) = omega arith

-- what it says until it has no more to say
telling-keeps : KeptByTelling (λ x ss y. ClientKeeps x → ClientKeeps y × Each IsSent ss)
telling-keeps = record {
  rests = λ x h. (h, tt);
  says = λ x r ss y e later h.
      let next : ClientKeeps (client_after_emit x) = client-emit (IsKept 0) (kept-sending 0) x h in
      let rest : ClientKeeps y × Each IsSent ss = later next in
      (rest.0, (segment-sent (client_after_emit x) r next, rest.1));
}

-- no more segments than it is allowed calls
emits-few : (n : ℕ) (x : ClientBlock) → length (client_emits n x).0 ≤ n
unfolding client_emits
emits-few zero x = omega arith
emits-few (suc n) x = go (client_emitted x) (emits-few n (client_after_emit x)) where
  go : (o : Option Ready) → length (client_emits n (client_after_emit x)).0 ≤ n → length (elim o as (λ p. List (Place × List ℕ) × ClientBlock) [
    | None ↦ ([], x)
    | Some r ↦ (to_front (client_after_emit x) r ∷ (client_emits n (client_after_emit x)).0, (client_emits n (client_after_emit x)).1)
  ]).0 ≤ suc n
  go None few = omega arith
  go (Some r) few = omega (arith, few)

-- a client that speaks: the segments before, and what it has left to say
speaking-fits : (notes : List Rec) (segments : List (Place × List ℕ)) (x : ClientBlock) → Each IsRecordInRange notes → Each IsSent segments → length segments ≤ 1 → ClientKeeps x → ClientFits (speaking notes segments x)
speaking-fits notes segments x h sent one keeps =
    let few = emits-few (unsaid x) x in
    let most = left-few x.send (client_owes x) keeps.2 in
    let both = length-append segments (client_speaks x).0 in
    let says : ClientKeeps (client_speaks x).1 × Each IsSent (client_speaks x).0 = client_keeps (λ x ss y. ClientKeeps x → ClientKeeps y × Each IsSent ss) telling-keeps x keeps in
    record { keeps = says.0; turn = record { notes = h; sent = Each-append IsSent segments (client_speaks x).0 sent says.1; few = omega (arith, few, most, both, one) } }

-- ---- rule by rule

-- a client that opens
pub opens-fits : (c isn wnd mss : ℕ) → ClientFits (client_opens c isn wnd mss)
opens-fits c isn wnd mss = speaking-fits [] [] (client_opened c isn wnd mss) tt tt (omega arith) (tt, omega arith, omega arith)

module _ (x : ClientBlock) (number : IsNumber x.c) (keeps : ClientKeeps x) where
  quiet-fits : ClientFits (x, silent)
  quiet-fits = record { keeps = keeps; turn = silent-fits }

  -- its own calls and its timer note nothing but that it aborts
  pub shuts-fits : ClientFits (client_shuts x)
  shuts-fits = speaking-fits [] [] (shut_down x) tt tt (omega arith) (client-shuts (IsKept 0) (kept-sending 0) x keeps)

  pub holds-fits : ClientFits (client_holds x)
  holds-fits = speaking-fits [] [] (held_on x) tt tt (omega arith) (cond_both (is_client_open x) (record x { holding = true }) x ClientKeeps (λ t. keeps) (λ t. keeps))

  pub takes-fits : ClientFits (client_takes x)
  takes-fits = speaking-fits [] [] (client_taken x) tt tt (omega arith)
      (cond_both (is_client_open x) (record x { holding = false; held = 0; owed = x.owed || is_established x }) x ClientKeeps (λ t. keeps) (λ t. keeps))

  pub fires-fits : ClientFits (client_timer x)
  fires-fits =
      let after : ClientKeeps (client_after_timer x) = client-fires (IsKept 0) (kept-sending 0) x keeps in
      speaking-fits [] (station_ready_of (client_after_timer x) (client_timed x)) (client_after_timer x) tt (ready-sent (client_after_timer x) (client_timed x) after) (ready-few (client_after_timer x) (client_timed x)) after

  pub aborts-fits : ClientFits (client_aborts x)
  aborts-fits =
      let after : ClientKeeps (aborted x) = cond_both (is_client_open x) (record x { phase = Aborted }) x ClientKeeps (λ t. keeps) (λ t. keeps) in
      let few = ready-few (aborted x) (abort_ready x) in
      record { keeps = after; turn = record { notes = (number, tt); sent = ready-sent (aborted x) (abort_ready x) after; few = omega (arith, few) } }

  module _ (bytes : List ℕ) (are : AreBytes bytes) where
    -- what it writes is noted
    wrote-fits : is_writing x ≡ true → written_len x bytes ≤ 2 ^ 30 → ClientFits (speaking (rec.Wrote x.c bytes ∷ []) [] (client_written x bytes))
    wrote-fits writes fits =
        let all : x.send.total + length bytes ≤ 2 ^ 30 = subst (λ b. x.send.total + cond b (length bytes) 0 ≤ 2 ^ 30) writes fits in
        speaking-fits (rec.Wrote x.c bytes ∷ []) [] (client_written x bytes) ((number, bytes-index bytes are), tt) tt (omega arith)
        (cond_both (is_writing x) (record x { send = queued_too x.send bytes }) x ClientKeeps (λ t. (bytes-append x.send.rest bytes keeps.0 are, omega arith, all)) (λ t. keeps))

    pub writes-fits : written_len x bytes ≤ 2 ^ 30 → ClientFits (client_writes x bytes)
    writes-fits fits = cond_both {A = ClientBlock × Turn} (is_writing x) (speaking (rec.Wrote x.c bytes ∷ []) [] (client_written x bytes)) (x, silent) ClientFits
        (λ t. wrote-fits t fits) (λ t. quiet-fits)

    -- a packet that the schedule puts on the way
    pub injects-fits : ClientFits (client_injects x bytes)
    injects-fits = record { keeps = keeps; turn = record { notes = tt; sent = ((tt, are), tt); few = omega arith } }

  -- ---- a segment comes

  -- what it accepted is a part of the segment's data
  accepted-noted : (d : ℕ) (heard : Heard) (payload : List ℕ) → IsNumber d → AreBytes payload → Each IsRecordInRange (accepted_note d heard payload)
  accepted-noted d heard payload n are = cond_both (nat_lt 0 heard.len) (rec.Accepted d (take heard.len (drop heard.from payload)) ∷ []) [] (Each IsRecordInRange)
      (λ t. ((n, bytes-index _ (each-take (λ b. b < 256) heard.len (drop heard.from payload) (each-drop (λ b. b < 256) heard.from payload are))), tt)) (λ t. tt)

  -- the end of its stream has its number alone
  eof-noted : (d : ℕ) (heard : Heard) → IsNumber d → Each IsRecordInRange (eof_note d heard)
  eof-noted d heard n = cond_both heard.eof (rec.Eof d ∷ []) [] (Each IsRecordInRange) (λ t. (n, tt)) (λ t. tt)

  -- whatever comes
  pub gets-fits : (r : Result Said SegFault) → ((s : Said) → r ≡ Ok s → AreBytes s.payload) → ClientFits (client_gets x r)
  gets-fits (Err fault) are = quiet-fits
  gets-fits (Ok s) are =
      let after : Heard × ClientBlock = client_arrived x s in
      let n : IsNumber after.1.c = subst IsNumber (sym (arrived-hears x s).on.number) number in
      let still : ClientKeeps after.1 = client-arrived (IsKept 0) (kept-sending 0) x s keeps in
      speaking-fits (accepted_note after.1.c after.0 s.payload ++ eof_note after.1.c after.0) (station_ready_of after.1 after.0.reply) after.1
      (Each-append IsRecordInRange (accepted_note after.1.c after.0 s.payload) (eof_note after.1.c after.0) (accepted-noted after.1.c after.0 s.payload n (are s refl)) (eof-noted after.1.c after.0 n))
      (ready-sent after.1 after.0.reply still) (ready-few after.1 after.0.reply) still
