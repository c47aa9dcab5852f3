-- Each settle of a run takes rounds: a step adds records that begin none, and a settle adds its own.
use Rattle.std.proofs.Common.{◌≡◌, ◌⊎◌, inl, inr, ℕ, ◌+◌, false, List, [], ◌∷◌, ◌++◌, Result, Ok, Err, refl, sym, ap, ◌∙◌, subst, append_assoc, append-nil, arith}
use Rattle.lard_law_view.specs.Prelude.{Config, Event, Machine, Rec, StepFault, config_check, machine_start}
use Rattle.lard_base.specs.declared.event.Event.TheVariants as event
use Rattle.lard_journal.specs.declared.rec.Rec.TheVariants as rec
use Rattle.lard_law_settles.proofs.SettlesEvents.{begun-is, either-kind, plain-done, plain-rule}
use Rattle.lard_law_settles.proofs.SettlesFiring.{take-inner}
use Rattle.lard_law_settles.proofs.SettlesGiven.{StepRows, step-rows}
use Rattle.lard_law_settles.proofs.RoundsComing.{Come, RoundsCome, all-come, rounds-come}
use Rattle.lard_law_settles.proofs.RoundsRecords.{AreClosed, Grows, begun-grows, closed-closed, closed-stand, none-closed, none-take, unmarked-none, whole-grows}
use Rattle.lard_law_settles.proofs.RoundsTold.{left-same, takes-same}
use Rattle.lard_law_settles.specs.RoundsLaws.{RunsTakeRounds}
use Rattle.lard_law_settles.specs.Rounds.{IsBegun, IsWhole, SettlesTakeRounds, InnerSteps}
use Rattle.lard_law_settles.specs.RoundsToDo.{takes_in}
use Rattle.lard_settling.proofs.Written.{written}
use Rattle.lard_settling.specs.declared.settled.Settled.{Settled}
use Rattle.lard_settling.specs.Events.{GoesThrough, MayCome, event_step, settled_to}
use Rattle.lard_settling.specs.Settling.{Stop, all_inner, closed_by, settle_left, rounds_from, settled, settled_from, takes}
use Rattle.lard_settling.specs.Steps.{closing, settle_begun}
use Rattle.lard_settling.specs.Written.{IsWrittenOut, is_settle}

module _ (config : Config) (files : List (List ℕ × List ℕ)) (checked : config_check config ≡ Ok tt) where
  abbrev W : Machine → Type 0
  W m = IsWrittenOut config files m

  -- ---- one settle

  -- the journal behind the event of a settle
  abbrev behind : Machine → ℕ → List Rec
  behind m rounds = m.journal ++ rec.Event (m.events + 1) (event.Settle rounds) ∷ []

  -- from a journal on: it is whole, or it is begun
  abbrev Ends : ℕ → List Rec → Result Machine Stop → Type 0
  Ends rounds J (Ok n) = W n × IsWhole config.nodes rounds J n.journal
  Ends rounds J (Err stop) = IsBegun config.nodes rounds J stop.0.journal

  closes : (rounds : ℕ) (J : List Rec) (k : Machine) → InnerSteps (takes_in J) J k.journal → (x : Result (Machine × ℕ) Stop) → RoundsCome config files checked rounds 0 k x → Ends rounds J (settled_to (closed_by x))
  closes rounds J k taken (Err stop) h = inr (k.journal, taken, h)
  closes rounds J k taken (Ok (n, all)) h =
      let r = h.1 in
      let first = r.1 in
      let count : all ≡ r.0 = omega (arith, first) in (
        (written config files).closes n all (settle_left n) h.0,
        record {
          taken = k.journal;
          takes = taken;
          done = r.0;
          last = n.journal;
          are = r.4;
          few = r.2;
          over = r.3;
          closed = ap (λ i. n.journal ++ closing i (settle_left n) ∷ []) count ∙ ap (λ i. n.journal ++ closing r.0 i ∷ []) (left-same config files checked n h.0);
        },
      )

  from-begun : (m : Machine) (rounds : ℕ) → W m → Ends rounds m.journal (settled_to (settled_from m rounds))
  from-begun m rounds w = go (all_inner m (takes m)) (subst (λ es. Come config files checked m es (all_inner m (takes m))) (takes-same config files checked m w) (all-come config files checked (takes m) m w (take-inner _))) where
    go : (x : Result Machine Stop) → Come config files checked m (takes_in m.journal) x → Ends rounds m.journal (settled_to (elim x as (λ r. Result (Machine × Settled) Stop) [ Err stop ↦ Err stop | Ok n ↦ closed_by (rounds_from rounds 0 n) ]))
    go (Err stop) h = inl h
    go (Ok n) h = closes rounds m.journal n h.1 (rounds_from rounds 0 n) (rounds-come config files checked rounds 0 n h.0)

  -- of the whole, which may not begin
  abbrev Comes : Machine → ℕ → Result Machine Stop → Type 0
  Comes m rounds (Ok n) = Ends rounds (behind m rounds) (Ok n)
  Comes m rounds (Err stop) = (stop.0 ≡ m) ⊎ Ends rounds (behind m rounds) (Err stop)

  settle-comes : (m : Machine) (rounds : ℕ) → W m → Comes m rounds (event_step m (event.Settle rounds))
  unfolding event_step settled
  settle-comes m rounds w = go (settle_begun m rounds) refl where
    over : (y : Result Machine Stop) → Ends rounds (behind m rounds) y → Comes m rounds y
    over (Ok n) h = h
    over (Err stop) h = inr h

    go : (x : Result Machine StepFault) → settle_begun m rounds ≡ x → Comes m rounds (settled_to (elim x as (λ r. Result (Machine × Settled) Stop) [ Err fault ↦ Err (m, fault) | Ok n ↦ settled_from n rounds ]))
    go (Err fault) is = inl refl
    go (Ok n) is =
        let same : n.journal ≡ behind m rounds = sym (ap (λ (k : Machine). k.journal) (begun-is m n rounds is)) in
        over (settled_to (settled_from n rounds)) (subst (λ J. Ends rounds J (settled_to (settled_from n rounds))) same (from-begun n rounds ((written config files).settle m n rounds w is)))

  -- ---- runs

  -- so far all settles are closed
  record IsClosed (m : Machine) : Type 0 where
    pub written_out : W m
    pub closed : AreClosed config.nodes [] m.journal

  -- the event of a settle and what it adds are records more
  added : (m : Machine) (rounds : ℕ) (K more : List Rec) → K ≡ behind m rounds ++ more → K ≡ m.journal ++ (rec.Event (m.events + 1) (event.Settle rounds) ∷ more)
  added m rounds K more is = is ∙ append_assoc m.journal (rec.Event (m.events + 1) (event.Settle rounds) ∷ []) more

  whole-closed : (m n : Machine) (rounds : ℕ) → IsClosed m → W n → IsWhole config.nodes rounds (behind m rounds) n.journal → IsClosed n
  whole-closed m n rounds h w whole =
      let grows : Grows (behind m rounds) n.journal = whole-grows config.nodes rounds (behind m rounds) n.journal whole in
      let more = grows.0 in
      let mine : AreClosed config.nodes m.journal (rec.Event (m.events + 1) (event.Settle rounds) ∷ more) =
      ((n.journal, [], sym grows.1 ∙ sym (append-nil n.journal), whole), none-closed config.nodes (behind m rounds) more grows.2) in
      record {
        written_out = w;
        closed = subst (λ J. AreClosed config.nodes [] J) (sym (added m rounds n.journal more grows.1)) (closed-closed config.nodes [] m.journal _ h.closed mine);
      }

  plain-closed : (m n : Machine) (e : Event) → IsClosed m → is_settle e ≡ false → MayCome e → event_step m e ≡ Ok n → IsClosed n
  plain-closed m n e h plain may is =
      let on : StepRows m e n = step-rows config files m n e h.written_out (plain-rule e plain may) (plain-done m n e plain is) in
      record {
        written_out = (written config files).steps m n e h.written_out (plain-rule e plain may) (plain-done m n e plain is);
        closed = subst (λ J. AreClosed config.nodes [] J) (sym on.are) (closed-closed config.nodes [] m.journal (rec.Event (m.events + 1) e ∷ on.rows) h.closed (none-closed config.nodes m.journal (rec.Event (m.events + 1) e ∷ on.rows) (plain, unmarked-none on.rows on.unmarked)));
      }

  event-closed : (m n : Machine) (e : Event) → IsClosed m → MayCome e → event_step m e ≡ Ok n → IsClosed n
  event-closed m n e h may is = go (either-kind e) where
    go : (is_settle e ≡ false) ⊎ ((rounds : ℕ) × (e ≡ event.Settle rounds)) → IsClosed n
    go (inl plain) = plain-closed m n e h plain may is
    go (inr s) = let ends = subst (Comes m s.0) (sym (ap (event_step m) s.1) ∙ is) (settle-comes m s.0 h.written_out) in whole-closed m n s.0 h ends.0 ends.1

  goes-closed : (es : List Event) (m n : Machine) → IsClosed m → GoesThrough m es n → IsClosed n
  goes-closed [] m n h goes = subst IsClosed (sym goes) h
  goes-closed (e ∷ es) m n h goes = goes-closed es goes.0 n (event-closed m goes.0 e h goes.1 goes.2) goes.3

  start-closed : IsClosed (machine_start config files)
  start-closed = record { written_out = (written config files).begins; closed = tt }

  stands : (m : Machine) → IsClosed m → SettlesTakeRounds config.nodes [] m.journal
  stands m h = subst (λ J. SettlesTakeRounds config.nodes [] J) (append-nil m.journal) (closed-stand config.nodes [] m.journal [] h.closed tt)

  -- the last settle may be open
  begun-stands : (m : Machine) (rounds : ℕ) (K : List Rec) → IsClosed m → IsBegun config.nodes rounds (behind m rounds) K → SettlesTakeRounds config.nodes [] K
  begun-stands m rounds K h begun =
      let grows : Grows (behind m rounds) K = begun-grows config.nodes rounds (behind m rounds) K begun in
      let more = grows.0 in
      let mine : SettlesTakeRounds config.nodes m.journal (rec.Event (m.events + 1) (event.Settle rounds) ∷ more) =
      (inr (subst (λ J. IsBegun config.nodes rounds (behind m rounds) J) grows.1 begun), none-take config.nodes (behind m rounds) more grows.2) in
      subst (λ J. SettlesTakeRounds config.nodes [] J) (sym (added m rounds K more grows.1)) (closed-stand config.nodes [] m.journal _ h.closed mine)

  stops-stand : (m n : Machine) (rounds : ℕ) (fault : StepFault) → IsClosed m → event_step m (event.Settle rounds) ≡ Err (n, fault) → SettlesTakeRounds config.nodes [] n.journal
  stops-stand m n rounds fault h is = go (subst (Comes m rounds) is (settle-comes m rounds h.written_out)) where
    go : (n ≡ m) ⊎ IsBegun config.nodes rounds (behind m rounds) n.journal → SettlesTakeRounds config.nodes [] n.journal
    go (inl same) = stands n (subst IsClosed (sym same) h)
    go (inr begun) = begun-stands m rounds n.journal h begun

pub take-rounds : RunsTakeRounds
take-rounds config files es m checked (inl goes) = stands config files checked m (goes-closed config files checked es (machine_start config files) m (start-closed config files checked) goes)
take-rounds config files es m checked (inr i) = stops-stand config files checked i.behind m i.rounds i.fault (goes-closed config files checked i.before (machine_start config files) i.behind (start-closed config files checked) i.goes) i.stops
