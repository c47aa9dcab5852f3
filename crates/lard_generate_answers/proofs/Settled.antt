-- A settle leaves what a fold says that no inner step changes.
use Rattle.std.proofs.Common.{◌≡◌, ℕ, zero, suc, ◌+◌, false, List, [], ◌∷◌, All, Ok, refl, sym, ap, ◌∙◌, subst}
use Rattle.std.proofs.lemmas.List.Elements.{All-head, All-tail}
use Rattle.std.proofs.lemmas.List.Sums.{fold-append}
use Rattle.std.specs.List.{fold}
use Rattle.lard_law_view.specs.Prelude.{Config, Event, Machine, Rec, machine_start}
use Rattle.lard_base.specs.declared.event.Event.TheVariants as event
use Rattle.lard_law_view.proofs.Carried.{reached-viewed}
use Rattle.lard_generate_bound.proofs.Leaving.{IsPlain}
use Rattle.lard_journal.specs.declared.rec.Rec.TheVariants as rec
use Rattle.lard_law_settles.proofs.EnoughBeside.{inner-plain}
use Rattle.lard_law_settles.proofs.EnoughTelling.{PassesOver, inner-over}
use Rattle.lard_law_settles.proofs.SettlesEvents.{begun-is, plain-done, plain-rule}
use Rattle.lard_law_settles.proofs.SettlesFiring.{IsInner, deliver-inner, disk-inner, firings-inner, inner-rule, take-inner}
use Rattle.lard_law_settles.proofs.SettlesInside.{InnerKept, IsClosed, SettleEnds, settle-ends}
use Rattle.lard_settling.proofs.Folds.{TakesSteps, fold-written}
use Rattle.lard_settling.proofs.Written.{written}
use Rattle.lard_settling.specs.Events.{GoesThrough, MayCome, event_step}
use Rattle.lard_settling.specs.Settling.{settle_left}
use Rattle.lard_settling.specs.Steps.{closing, inner_step, settle_begun}
use Rattle.lard_settling.specs.Written.{IsWrittenOut, is_settle}

module _ (config : Config) (files : List (List ℕ × List ℕ)) where
  -- ---- events before it

  plain-kind : (e : Event) → IsPlain e → is_settle e ≡ false
  plain-kind (event.Settle rounds) plain = absurd plain
  plain-kind _ plain = refl

  plain-written : (m n : Machine) (e : Event) → IsWrittenOut config files m → IsPlain e → MayCome e → event_step m e ≡ Ok n → IsWrittenOut config files n
  plain-written m n e w plain may is =
      let kind = plain-kind e plain in
      (written config files).steps m n e w (plain-rule e kind may) (plain-done m n e kind is)

  all-written : (es : List Event) (m n : Machine) → All IsPlain es → IsWrittenOut config files m → GoesThrough m es n → IsWrittenOut config files n
  all-written [] m n plain w goes = subst (IsWrittenOut config files) (sym goes) w
  all-written (e ∷ es) m n plain w goes =
      all-written es goes.0 n (All-tail IsPlain e es plain) (plain-written m goes.0 e w (All-head IsPlain e es plain) goes.1 goes.2) goes.3

  -- the state to which they lead can be written out
  pub before-written : (es : List Event) (m : Machine) → All IsPlain es → GoesThrough (machine_start config files) es m → IsWrittenOut config files m
  before-written es m plain goes = all-written es (machine_start config files) m plain (written config files).begins goes

  -- ---- the settle

  module _ {A : Type 0} (step : A → Rec → A) (over : PassesOver step) (steps : TakesSteps step) (a b : A) where
    -- a state that can be written out, whose journal says b
    record Says (m : Machine) : Type 0 where
      pub is : IsWrittenOut config files m
      pub says : fold step a m.journal ≡ b

    inner-says : (m n : Machine) (e : Event) → Says m → IsInner e → inner_step m e ≡ Ok n → Says n
    inner-says m n e h inner is =
        let w = h.is in
        let one = inner-plain config files m n e w (inner-rule e inner) is in
        record {
          is = one.0;
          says = sym (ap (fold step a) one.0.journal ∙ fold-written step steps a 0 n.journal) ∙ inner-over step over a w.plain one.0.plain e (reached-viewed config files w.plain w.reached) inner one.1
              ∙ ap (fold step a) w.journal ∙ fold-written step steps a 0 m.journal ∙ h.says;
        }

    begun-says : (m n : Machine) (rounds : ℕ) → Says m → settle_begun m rounds ≡ Ok n → Says n
    begun-says m n rounds h is = record {
      is = (written config files).settle m n rounds h.is is;
      says = ap (λ (k : Machine). fold step a k.journal) (sym (begun-is m n rounds is))
          ∙ fold-append step a m.journal (rec.Event (m.events + 1) (event.Settle rounds) ∷ [])
          ∙ steps.settles (fold step a m.journal) (m.events + 1) rounds ∙ h.says;
    }

    kept : InnerKept Says IsInner
    kept = record { inner = inner-says; takes = λ m p. take-inner _; deliveries = λ m p. deliver-inner _; completions = λ m n p. disk-inner n _; firings = λ m p. firings-inner m }

    closing-same : (c : A) (done remaining : ℕ) → step c (closing done remaining) ≡ c
    closing-same c done zero = steps.settled c done
    closing-same c done (suc more) = steps.unsettled c done (suc more)

    closed-says : (n : Machine) (rounds : ℕ) → IsClosed Says IsInner rounds n → Says n
    closed-says n rounds c = subst Says (sym c.is) (record {
      is = (written config files).closes c.last c.done (settle_left c.last) c.holds.is;
      says = fold-append step a c.last.journal (closing c.done (settle_left c.last) ∷ []) ∙ closing-same (fold step a c.last.journal) c.done (settle_left c.last) ∙ c.holds.says;
    })

    -- behind it the state can be written out, and its journal says the same
    pub settle-says : (m n : Machine) (rounds : ℕ) → IsWrittenOut config files m → fold step a m.journal ≡ b → event_step m (event.Settle rounds) ≡ Ok n
        → IsWrittenOut config files n × (fold step a n.journal ≡ b)
    settle-says m n rounds w says is =
        let ends : SettleEnds Says IsInner m rounds (Ok n) = subst (SettleEnds Says IsInner m rounds) is (settle-ends Says IsInner kept m rounds (λ k begun. begun-says m k rounds (record { is = w; says = says }) begun)) in
        let done = closed-says n rounds ends in
        (done.is, done.says)
