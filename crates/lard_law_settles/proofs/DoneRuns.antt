-- In the journal of a run each settle that leaves nothing leaves each connection so.
use Rattle.std.proofs.Common.{◌≡◌, ◌⊎◌, inl, inr, ℕ, zero, suc, ◌+◌, false, List, [], ◌∷◌, ◌++◌, Ok, Err, refl, sym, ap, ◌∙◌, subst}
use Rattle.lard_law_view.specs.Prelude.{Config, EachMay, Event, Machine, Rec, StepFault, config_check, file_at, machine_start}
use Rattle.lard_base.specs.declared.event.Event.TheVariants as event
use Rattle.lard_history.proofs.Each.{each_append}
use Rattle.lard_journal.specs.declared.rec.Rec.TheVariants as rec
use Rattle.lard_law_settles.proofs.SettlesEvents.{begun-is, either-kind, plain-done, plain-rule}
use Rattle.lard_law_settles.proofs.SettlesFiring.{IsInner, deliver-inner, disk-inner, firings-inner, inner-rule, take-inner}
use Rattle.lard_law_settles.proofs.SettlesGiven.{InnerRows, StepRows, inner-rows, step-rows}
use Rattle.lard_law_settles.proofs.SettlesInside.{InnerKept, IsClosed, SettleEnds, settle-ends}
use Rattle.lard_law_settles.proofs.DoneClosing.{done-with}
use Rattle.lard_law_settles.specs.Done.{MaySettle}
use Rattle.lard_law_settles.specs.DoneLaws.{SettledRunsAreDone}
use Rattle.lard_settling.proofs.Plain.{AreUnmarked, is_mark}
use Rattle.lard_settling.proofs.Written.{written}
use Rattle.lard_settling.specs.Events.{GoesThrough, MayCome, event_step}
use Rattle.lard_settling.specs.Settling.{settle_left}
use Rattle.lard_settling.specs.Steps.{closing, inner_step, settle_begun}
use Rattle.lard_settling.specs.Written.{IsWrittenOut, is_settle}

module _ (config : Config) (files : List (List ℕ × List ℕ)) (checked : config_check config ≡ Ok tt) where
  abbrev May : List Rec → Rec → Type 0
  May = MaySettle config (file_at files)

  -- a state whose journal can be written out, and in which each record may stand
  record Stands (m : Machine) : Type 0 where
    pub is : IsWrittenOut config files m
    pub each : EachMay May [] m.journal

  -- ---- records that close no settle

  unmarked-may : (past : List Rec) (r : Rec) → is_mark r ≡ false → May past r
  unmarked-may past (rec.Settled done) h = cc
  unmarked-may past _ h = tt

  rows-may : (past rs : List Rec) → AreUnmarked rs → EachMay May past rs
  rows-may past [] h = tt
  rows-may past (r ∷ rs) h = (unmarked-may past r h.0, rows-may (past ++ r ∷ []) rs h.1)

  inner-stands : (m n : Machine) (e : Event) → Stands m → IsInner e → inner_step m e ≡ Ok n → Stands n
  inner-stands m n e h inner is =
      let on : InnerRows m e n = inner-rows config files m n e h.is (inner-rule e inner) is in
      record {
        is = (written config files).inner_steps m n e h.is (inner-rule e inner) is;
        each = subst (EachMay May []) (sym on.are) (each_append May [] m.journal (rec.Inner e ∷ on.rows) h.each (tt, rows-may (m.journal ++ rec.Inner e ∷ []) on.rows on.unmarked));
      }

  kept : InnerKept Stands IsInner
  kept = record { inner = inner-stands; takes = λ m p. take-inner _; deliveries = λ m p. deliver-inner _; completions = λ m n p. disk-inner n _; firings = λ m p. firings-inner m }

  begun-stands : (m n : Machine) (rounds : ℕ) → Stands m → settle_begun m rounds ≡ Ok n → Stands n
  begun-stands m n rounds h is = record {
    is = (written config files).settle m n rounds h.is is;
    each = subst (λ (k : Machine). EachMay May [] k.journal) (begun-is m n rounds is) (each_append May [] m.journal (rec.Event (m.events + 1) (event.Settle rounds) ∷ []) h.each (tt, tt));
  }

  settle-stands : (m : Machine) (rounds : ℕ) → Stands m → SettleEnds Stands IsInner m rounds (event_step m (event.Settle rounds))
  settle-stands m rounds h = settle-ends Stands IsInner kept m rounds (λ n is. begun-stands m n rounds h is)

  -- ---- the one that does

  closing-may : (m : Machine) (done remaining : ℕ) → IsWrittenOut config files m → settle_left m ≡ remaining → EachMay May m.journal (closing done remaining ∷ [])
  closing-may m done zero w none = (done-with config files checked m w none, tt)
  closing-may m done (suc more) w some = (tt, tt)

  closed-stands : (n : Machine) (rounds : ℕ) → IsClosed Stands IsInner rounds n → Stands n
  closed-stands n rounds c = subst Stands (sym c.is) (record {
    is = (written config files).closes c.last c.done (settle_left c.last) c.holds.is;
    each = each_append May [] c.last.journal (closing c.done (settle_left c.last) ∷ []) c.holds.each (closing-may c.last c.done (settle_left c.last) c.holds.is refl);
  })

  -- ---- runs

  plain-stands : (m n : Machine) (e : Event) → Stands m → is_settle e ≡ false → MayCome e → event_step m e ≡ Ok n → Stands n
  plain-stands m n e h plain may is =
      let on : StepRows m e n = step-rows config files m n e h.is (plain-rule e plain may) (plain-done m n e plain is) in
      record {
        is = (written config files).steps m n e h.is (plain-rule e plain may) (plain-done m n e plain is);
        each = subst (EachMay May []) (sym on.are) (each_append May [] m.journal (rec.Event (m.events + 1) e ∷ on.rows) h.each (tt, rows-may (m.journal ++ rec.Event (m.events + 1) e ∷ []) on.rows on.unmarked));
      }

  event-stands : (m n : Machine) (e : Event) → Stands m → MayCome e → event_step m e ≡ Ok n → Stands n
  event-stands m n e h may is = go (either-kind e) where
    go : (is_settle e ≡ false) ⊎ ((rounds : ℕ) × (e ≡ event.Settle rounds)) → Stands n
    go (inl plain) = plain-stands m n e h plain may is
    go (inr s) =
        let done : event_step m (event.Settle s.0) ≡ Ok n = sym (ap (event_step m) s.1) ∙ is in
        closed-stands n s.0 (subst (SettleEnds Stands IsInner m s.0) done (settle-stands m s.0 h))

  goes-stand : (es : List Event) (m n : Machine) → Stands m → GoesThrough m es n → Stands n
  goes-stand [] m n h goes = subst Stands (sym goes) h
  goes-stand (e ∷ es) m n h goes = goes-stand es goes.0 n (event-stands m goes.0 e h goes.1 goes.2) goes.3

  start-stands : Stands (machine_start config files)
  start-stands = record { is = (written config files).begins; each = tt }

  -- a run may end inside a settle
  stop-stands : (m n : Machine) (rounds : ℕ) (fault : StepFault) → Stands m → event_step m (event.Settle rounds) ≡ Err (n, fault) → EachMay May [] n.journal
  stop-stands m n rounds fault h is = go (subst (SettleEnds Stands IsInner m rounds) is (settle-stands m rounds h)) where
    go : SettleEnds Stands IsInner m rounds (Err (n, fault)) → EachMay May [] n.journal
    go (inl began) = subst (λ (k : Machine). EachMay May [] k.journal) (sym began.0) h.each
    go (inr ended) = ended.0.each

pub runs-are-done : SettledRunsAreDone
runs-are-done config files es m checked (inl goes) = (goes-stand config files checked es (machine_start config files) m (start-stands config files checked) goes).each
runs-are-done config files es m checked (inr i) =
    stop-stands config files checked i.behind m i.rounds i.fault (goes-stand config files checked i.before (machine_start config files) i.behind (start-stands config files checked) i.goes) i.stops
