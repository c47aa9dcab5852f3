-- The laws of Asks in every run.
use Rattle.std.proofs.Common.{◌≡◌, ℕ, nat_lt, List, [], Ok, refl, sym, subst, inl, inr, ⊎_elim}
use Rattle.lard_law_view.specs.Prelude.{Config, Conn, Event, HasRule, IsConnNumber, IsReached, Machine, Move, Rules, Seen, Setting, Tally, config_check, conn, grown, machine_start, machine_step, net_of, open_shares, own, seen_on, setting, with_leaving}
use Rattle.lard_laws.specs.AsksAnswers.{IsAnswered, MustAnswer, MustEnd, ends_due}
use Rattle.lard_laws.specs.Asks.{end_in, later_in}
use Rattle.lard_laws.specs.AsksRuns.{AsksAreAnswered, BatchesEndInSteps}
use Rattle.lard_laws.proofs.AsksEnding.{step-ends}
use Rattle.lard_laws.proofs.AsksFilling.{step-fills}
use Rattle.lard_laws.proofs.AsksMoving.{Answers, Fills, Told}
use Rattle.lard_laws.proofs.AsksRules.{Goes, all-go}
use Rattle.lard_law_connections.specs.MotionStory.{of_row, picked}
use Rattle.lard_law_connections.proofs.MotionRuns.{each-way}
use Rattle.lard_law_connections.proofs.PolicyCounted.{books-are-told}
use Rattle.lard_law_view.specs.View as view
use Rattle.lard_law_view.proofs.After.{IsAfter, step-after}
use Rattle.lard_law_view.proofs.Carried.{IsOn, carried-keep, goes-on, gone}
use Rattle.lard_law_view.proofs.Fine.{IsFine, fine}
use Rattle.lard_law_view.proofs.Guarded.{both}
use Rattle.lard_law_view.proofs.InSteps.{seen-step}
use Rattle.lard_law_view.proofs.Runs.{start-blank}
use Rattle.lard_history.proofs.Stepping.{AreLawful, one-more}

-- where nothing of it is seen, nothing of it is done
nothing-answered : (c : ℕ) (past : List Seen) → IsAnswered c past []
nothing-answered c past = record { assigns = refl; tags = refl; ends = refl }

module _ (config : Config) (files : List (List ℕ × List ℕ)) (checked : config_check config ≡ Ok tt) where
  abbrev All : Conn → Move → Type 0
  All x v = IsFine x v × Goes (setting config files) x v

  all : (k : Setting) → Rules k (λ x v. IsFine x v × Goes k x v)
  all k = both k IsFine (Goes k) (fine k) (all-go k)

  -- where it goes, the dispatcher assigned what is asked
  filling : (x y : Conn) → Fills x y → view.GoesBy (λ x v. IsConnNumber x.c × All x v) x y → view.GoesBy (λ x v. (IsConnNumber x.c × All x v) × Fills x (grown x v)) x y
  filling x y fills goes = ⊎_elim
      (λ (same : y ≡ x). inl same)
      (λ (k : (v : Move) × (IsConnNumber x.c × All x v) × (y ≡ grown x v)). inr (k.0, (k.1, subst (Fills x) k.2 fills), k.2))
      goes

  -- what is known in each state
  abbrev IsKnownOf : Machine → Type 0
  IsKnownOf m = (q : ℕ) → Told (conn m q)

  module _ (m n : Machine) (e : Event) (on : IsOn config files m) (known : IsKnownOf m) (rule : HasRule e) (is : machine_step m e ≡ Ok n) (q : ℕ) where
    after : IsAfter m e n
    after = step-after m on.view e n rule is

    goes : view.GoesBy (λ x v. (IsConnNumber x.c × All x v) × Fills x (grown x v)) (conn m q) (conn n q)
    goes = filling (conn m q) (conn n q) (step-fills m n e after is on.view.told q) (goes-on config files All (λ l. all (with_leaving (setting config files) l)) m n e on rule is q)

    does : (v : Move) → (IsConnNumber (conn m q).c × All (conn m q) v) × Fills (conn m q) (grown (conn m q) v) → Answers (conn m q) v
    does v h = h.0.1.1 (each-way config files checked m on.reached q).front (known q) (h.0.1.0 h.0.0 (on.view.sound q)).0 h.1

    pub stays-told : Told (conn n q)
    stays-told = gone Told (λ x v. (IsConnNumber x.c × All x v) × Fills x (grown x v)) (conn m q) (conn n q) (known q) (λ v h. (does v h).1) goes

    pub step-answers : (s : IsAfter m e n) → IsAnswered q (own q m.journal) (seen_on q (net_of m.journal) s.step)
    unfolding conn
    step-answers s = seen-step (λ x v. (IsConnNumber x.c × All x v) × Fills x (grown x v)) (IsAnswered q (own q m.journal)) m n s.step q s.is (nothing-answered q (own q m.journal)) (λ v h. (does v h).0) goes

  start-told : IsKnownOf (machine_start config files)
  start-told q = subst Told (sym (start-blank config files q)) tt

  pub each-told : (m : Machine) → IsReached config files m → IsKnownOf m
  each-told m r = carried-keep config files IsKnownOf start-told (λ k n e on known rule is q. stays-told k n e on known rule is q) m r

pub asks-answered : AsksAreAnswered
asks-answered config files m checked r = (carried-keep config files (λ k. AreLawful MustAnswer k.journal) (refl, tt)
    (λ k n e on lawful rule is.
    let after : IsAfter k e n = step-after k on.view e n rule is in
    subst (AreLawful MustAnswer) (sym after.is)
    (one-more MustAnswer k.journal after.step after.one lawful (λ q. step-answers config files checked k n e on (each-told config files checked k on.reached) rule is q after)))
    m r).1

-- ---- the batch before

pub batches-end : BatchesEndInSteps
batches-end config files m checked r = (carried-keep config files (λ k. AreLawful (MustEnd config) k.journal) (refl, tt)
    (λ k n e on lawful rule is.
    let after : IsAfter k e n = step-after k on.view e n rule is in
    let books = (books-are-told config files k checked on.reached).0 in
    subst (AreLawful (MustEnd config)) (sym after.is)
    (one-more (MustEnd config) k.journal after.step after.one lawful
    (λ q. subst (λ (loads : Tally). picked (of_row end_in) (seen_on q (net_of k.journal) after.step) ≡ ends_due q (nat_lt 0 (open_shares loads q)) (picked (of_row later_in) (seen_on q (net_of k.journal) after.step))) books
    (step-ends k n e after is on.view.told q (each-told config files checked k on.reached q) (each-way config files checked k on.reached q).front
    (step-answers config files checked k n e on (each-told config files checked k on.reached) rule is q after)))))
    m r).1
