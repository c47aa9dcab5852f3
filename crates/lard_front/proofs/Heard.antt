-- A connection whose endpoint is here, and the turn that begins with it.
use Rattle.std.proofs.Common.{◌≡◌, ℕ, ◌-◌, ◌≤◌, Bool, List, [], length, Option, Some, None, refl, sym, ap, ◌∙◌, arith, subst}
use Rattle.std.specs.FinMap as table
use Rattle.lard_endpoint.specs.declared.control.arriving.Arrival.{Arrival}
use Rattle.lard_endpoint.specs.Arriving.{on_segment}
use Rattle.lard_endpoint.specs.Control.{ControlBlock}
use Rattle.lard_endpoint.specs.Leaving.{after_timer, timed}
use Rattle.lard_rules.specs.declared.front.FrontRest.{FrontRest}
use Rattle.lard_rules.specs.declared.front.FrontState.{FrontState}
use Rattle.lard_rules.specs.FrontReading.{Reading, front_reads}
use Rattle.lard_rules.proofs.FrontBlocks.{segment-serves}
use Rattle.lard_rules.proofs.FrontTurns.{IsServed, reads-stop}
use Rattle.lard_rules.specs.Front.{FrontDeed, FrontEnv, FrontPart, front_fired, front_read_by, holds, front_rest, settled_by, waits_on}
use Rattle.lard_rules.specs.FrontPlace.{front_part}
use Rattle.lard_rules.specs.FrontSound.{Serves}
use Rattle.lard_front.specs.declared.turns.Around.{Around}
use Rattle.lard_front.specs.Hand.{Holds, front_count_of, deed_turn, front_env_of, front_lent, fires_held, fires_held_by, fires_waiting, fires_waiting_by, heard_at, front_heard_by, read_deed, reading_of, reads_at, reads_by, reads_with, waits_heard, waits_heard_by}
use Rattle.lard_front.proofs.Lent.{held_here, read_lent, same_endpoint}
use Rattle.lard_handoff_front.specs.declared.row.FrontRow.{FrontRow}
use Rattle.lard_handoff_front.specs.Front.{endpoint_of}
use Rattle.lard_handoff_front.specs.Row.{held_in}
use Rattle.lard_rules.specs.declared.places.Ending.{Ending}
use Rattle.lard_rules.specs.declared.places.Turn.{Turn}
use Rattle.lard_rules.specs.Serving.{ServeEnv, serving, serving_ready_of, spoken}
use Rattle.lard_segment.specs.Segment.{Said}
use Rattle.lard_serving.specs.declared.answering.Service.{Service as Served}
use Rattle.lard_serving.specs.Serving.{IsCounted, service_of}

abbrev pub IsNew : Served → ℕ → Type 0
IsNew w n = (w.count ≡ n) × (w.notes ≡ []) × (w.answered ≡ 0) × (w.over ≡ None)

-- a turn begins
pub begins : (b d : ControlBlock) (w : Served) (n m : ℕ) → IsNew w n → n ≡ m → b ≡ d → service_of b w ≡ serving d m []
begins b d w n m is e f = λ i. record { block = f i; count = (is.0 ∙ e) i; notes = is.1 i; answered = is.2 i; over = is.3 i }

-- a turn of reading begins with an endpoint that serves what was asked for
module _ (b : ControlBlock) (n : ℕ) (serves : Serves n b.recv b.send) (w : Served) (is : IsNew w n) where
  -- as many responses as before are counted
  pub reading_counted : IsCounted b w
  reading_counted = record { responses = omega (arith, serves.asked, is.0); bytes = omega (arith, is.2) }

  -- and those that are queued then were asked for
  pub reading_asked : (env : ServeEnv) (e : ControlBlock) (v : Served) (target : Option (List ℕ))
      → reading_of e v target ≡ front_reads env (reading_of b w None) → v.count ≤ e.recv.got - length e.recv.unread
  reading_asked env e v target read =
      let stopped = reads-stop env (serving b n []) serves in
      let begun = ap (λ x. front_reads env (record { service = x; target = None })) (begins b b w n n is refl refl) in
      let all : IsServed (service_of e v) = subst (λ (x : Reading). IsServed x.service) (sym (read ∙ begun)) stopped.0 in
      omega (arith, all.asked)

-- it comes to what the definition says
pub reads_are : (env : FrontEnv) (p : FrontPart) (b : ControlBlock) (n : ℕ) (w : Served) (e : ControlBlock) (v : Served) (target : Option (List ℕ)) → IsNew w n
    → reading_of e v target ≡ front_reads env.serve (reading_of b w None) → (o : Option FrontRow)
    → read_deed env p (service_of e v) target o ≡ reads_with env p b n o
reads_are env p b n w e v target is read None = refl
reads_are env p b n w e v target is read (Some row) =
    ap (λ (y : Reading). settled_by env p row (front_rest p.rest) y.service y.target)
    (read ∙ ap (λ x. front_reads env.serve (record { service = x; target = None })) (begins b b w n n is refl refl))

-- the segment that came was taken by the endpoint, and a turn begins with it
module _ {s : FrontState} {c : ℕ} {waiting : Bool} (h : Holds s c waiting) (said : Said) {b new : ControlBlock} {a : Arrival} {n : ℕ}
    (out : endpoint_of (table.get s.conns c) ≡ Some b) (came : (a, new) ≡ on_segment b said) (counts : n ≡ front_count_of (table.get s.rests c)) where
  pub took : new ≡ (on_segment h.block said).1
  took = ap (λ (x : Arrival × ControlBlock). x.1) came ∙ ap (λ (x : ControlBlock). (on_segment x said).1) (same_endpoint s c waiting h b out)

  many : h.rest.count ≡ n
  many = sym (counts ∙ ap front_count_of h.found_rest)

  -- it serves on what was asked for
  pub segment_serves : Serves n new.recv new.send
  segment_serves =
      subst (λ m. Serves m new.recv new.send) many
      (subst (λ (d : ControlBlock). Serves h.rest.count d.recv d.send) (sym took) (segment-serves h.rest.count h.block said h.serves))

  pub segment_begins : (w : Served) → IsNew w n → service_of new w ≡ serving (on_segment h.block said).1 (front_count_of (table.get s.rests c)) []
  segment_begins w is = begins new (on_segment h.block said).1 w n (front_count_of (table.get s.rests c)) is counts took

-- as it was taken out
pub held_serves : {s : FrontState} {c : ℕ} {waiting : Bool} (h : Holds s c waiting) {b : ControlBlock} {n : ℕ}
    → endpoint_of (table.get s.conns c) ≡ Some b → n ≡ front_count_of (table.get s.rests c) → Serves n b.recv b.send
held_serves {s = s} {c = c} {waiting = waiting} h {b = b} {n = n} out counts =
    subst (λ m. Serves m b.recv b.send) (sym (counts ∙ ap front_count_of h.found_rest))
    (subst (λ (d : ControlBlock). Serves h.rest.count d.recv d.send) (sym (same_endpoint s c waiting h b out)) h.serves)

-- ---- the rules of a connection whose endpoint is here

-- what the timer of an endpoint comes to
abbrev pub fired_turn : ServeEnv → ControlBlock → ℕ → Ending × Turn
fired_turn env b n = spoken env (serving (after_timer b) n []) (serving_ready_of env (after_timer b) (timed b))

module _ (around : Around) (s : FrontState) (waiting : Bool) (h : Holds s around.serve.c waiting) where
  abbrev k : ℕ
  k = around.serve.c

  abbrev env : FrontEnv
  env = front_env_of around s

  abbrev p : FrontPart
  p = front_part s k

  abbrev rest : FrontRest
  rest = front_rest (table.get s.rests k)

  here : (at : Option FrontRow → FrontDeed) (by : Option ControlBlock → FrontDeed) → by (held_in h.row.stage) ≡ at (Some h.row)
      → deed_turn s k (by (Some h.block)) ≡ deed_turn s k (at (table.get s.conns k))
  here at by same = ap (deed_turn s k) (sym (ap by (ap held_in h.stage ∙ held_here waiting h.block)) ∙ same ∙ sym (ap at h.found))

  abbrev lent : FrontState
  lent = front_lent s k

  abbrev Read : ControlBlock → ℕ → Reading
  Read b n = front_reads env.serve (record { service = serving b n []; target = None })

  abbrev Reads : ControlBlock → ℕ → FrontDeed
  Reads b n = front_read_by env p h.row rest (Read b n)

  -- what is read of the endpoint that was taken out
  abbrev ReadsLent : ControlBlock → ℕ → FrontDeed
  ReadsLent b n = reads_with (front_env_of around lent) (front_part lent k) b n (table.get lent.conns k)

  lent_reads : (b : ControlBlock) (n : ℕ) → deed_turn lent k (ReadsLent b n) ≡ deed_turn s k (Reads b n)
  lent_reads b n =
      ap (deed_turn lent k) (as_read (table.get lent.conns k)) ∙ read_lent around s h.row h.found (Read b n).service (Read b n).target where
        as_read : (o : Option FrontRow) → reads_with (front_env_of around lent) (front_part lent k) b n o
            ≡ read_deed (front_env_of around lent) (front_part lent k) (Read b n).service (Read b n).target o
        as_read None = refl
        as_read (Some row) = refl

  pub heard_is : (said : Said) {b : ControlBlock} {n : ℕ} → b ≡ (on_segment h.block said).1 → n ≡ rest.count
      → deed_turn lent k (ReadsLent b n) ≡ deed_turn s k (heard_at env p said (table.get s.conns k))
  heard_is said {b = b} {n = n} took counts =
      lent_reads b n ∙ (λ i. deed_turn s k (Reads (took i) (counts i))) ∙ here (heard_at env p said) (front_heard_by env p said h.row) refl

  pub reads_on_is : {b : ControlBlock} {n : ℕ} → endpoint_of (table.get s.conns k) ≡ Some b → n ≡ rest.count
      → deed_turn lent k (ReadsLent b n) ≡ deed_turn s k (reads_at env p (table.get s.conns k))
  reads_on_is {b = b} {n = n} out counts =
      lent_reads b n ∙ (λ i. deed_turn s k (Reads (same_endpoint s k waiting h b out i) (counts i))) ∙ here (reads_at env p) (reads_by env p h.row) refl

  pub waits_heard_is : (said : Said) {given : Ending × Turn} → given ≡ spoken env.serve (serving (on_segment h.block said).1 rest.count []) []
      → deed_turn s k (waits_on env p h.row rest given) ≡ deed_turn s k (waits_heard env p said (table.get s.conns k))
  waits_heard_is said ruled = ap (λ x. deed_turn s k (waits_on env p h.row rest x)) ruled ∙ here (waits_heard env p said) (waits_heard_by env p said h.row) refl

  -- the timer of the endpoint that was taken out
  module _ {b : ControlBlock} {n : ℕ} (out : endpoint_of (table.get s.conns k) ≡ Some b) (counts : n ≡ rest.count) {x : Ending × Turn} (told : x ≡ fired_turn env.serve b n) where
    fired_is : x ≡ front_fired env rest h.block
    fired_is = told ∙ (λ i. fired_turn env.serve (same_endpoint s k waiting h b out i) (counts i))

    pub fires_held_is : deed_turn s k (holds p h.row rest x) ≡ deed_turn s k (fires_held env p (table.get s.conns k))
    fires_held_is = ap (λ x. deed_turn s k (holds p h.row rest x)) fired_is ∙ here (fires_held env p) (fires_held_by env p h.row) refl

    pub fires_waiting_is : deed_turn s k (waits_on env p h.row rest x) ≡ deed_turn s k (fires_waiting env p (table.get s.conns k))
    fires_waiting_is = ap (λ x. deed_turn s k (waits_on env p h.row rest x)) fired_is ∙ here (fires_waiting env p) (fires_waiting_by env p h.row) refl
