-- In the journal of a run a settle leaves something only where it did too few rounds, where each settle with enough of them ends quiet.
use Rattle.std.proofs.Common.{◌≡◌, ◌⊎◌, inl, inr, ◌≤◌, ◌<◌, ℕ, zero, suc, ◌+◌, Bool, true, false, List, [], ◌∷◌, ◌++◌, length, Option, Some, None, Result, Ok, Err, refl, sym, ap, ◌∙◌, subst, arith}
use Rattle.std.proofs.lemmas.Bool.{leb-false, leb-true}
use Rattle.std.proofs.lemmas.List.Sums.{fold-append}
use Rattle.std.specs.List.{fold}
use Rattle.std.specs.Prelude.{nat_le}
use Rattle.lard_law_view.specs.Prelude.{Config, EachMay, Event, FilesAt, Machine, Rec, StepFault, answer_bytes, blocks, file_at, is_touched, machine_start, touched_step, wrote, wrote_step}
use Rattle.lard_base.specs.declared.event.Event.TheVariants as event
use Rattle.lard_bound.specs.Bound.{IsOrdinary, bytes_both_ways, opener_step, openers, requests_of, settling_bound, total_of}
use Rattle.lard_laws.specs.Records.{IsScheduled}
use Rattle.lard_law_view.proofs.Carried.{reached-viewed}
use Rattle.lard_history.proofs.Each.{Each, Each-append, each_append}
use Rattle.lard_journal.specs.declared.rec.Rec.TheVariants as rec
use Rattle.lard_law_settles.proofs.EnoughAgendas.{closing-quiet}
use Rattle.lard_law_settles.proofs.EnoughBeside.{Is, err-ok, inner-plain, ok-same}
use Rattle.lard_law_settles.proofs.EnoughSettled.{EndsQuiet}
use Rattle.lard_law_settles.proofs.EnoughTelling.{PassesOver, inner-over, openers-over, touched-over, wrote-over}
use Rattle.lard_law_settles.proofs.EnoughWithin.{opener-steps, touched-steps, wrote-steps}
use Rattle.lard_law_settles.specs.Enough.{MayLeaveUnsettled}
use Rattle.lard_law_settles.proofs.SettlesEvents.{begun-is, either-kind, plain-done, plain-rule}
use Rattle.lard_law_settles.proofs.SettlesFiring.{IsInner, deliver-inner, disk-inner, firings-inner, inner-rule, take-inner}
use Rattle.lard_law_settles.proofs.SettlesGiven.{InnerRows, StepRows, inner-rows, step-rows}
use Rattle.lard_law_settles.proofs.SettlesInside.{InnerKept, IsClosed, SettleEnds, quiet-left, settle-ends}
use Rattle.lard_settling.proofs.Folds.{TakesSteps, fold-written}
use Rattle.lard_settling.proofs.Plain.{AreUnmarked, is_mark}
use Rattle.lard_settling.proofs.Written.{written}
use Rattle.lard_settling.specs.declared.settled.Settled.{Settled}
use Rattle.lard_settling.specs.declared.settled.Settled.TheVariants.{Quiet}
use Rattle.lard_settling.specs.Events.{GoesThrough, LeadsTo, MayCome, event_step, settled_to}
use Rattle.lard_settling.specs.Settling.{Stop, all_inner, settle_answer, closed_by, is_quiet, settle_left, rounds_from, settled, settled_from, takes}
use Rattle.lard_settling.specs.Steps.{closing, inner_step, settle_begun, settle_closed}
use Rattle.lard_settling.specs.Written.{is_settle}

-- ---- records that leave nothing

module _ (files : FilesAt) where
  unmarked-may : (past : List Rec) (r : Rec) → is_mark r ≡ false → MayLeaveUnsettled files past r
  unmarked-may past (rec.Unsettled done left) h = cc
  unmarked-may past _ h = tt

  rows-may : (past rs : List Rec) → AreUnmarked rs → EachMay (MayLeaveUnsettled files) past rs
  rows-may past [] h = tt
  rows-may past (r ∷ rs) h = (unmarked-may past r h.0, rows-may (past ++ r ∷ []) rs h.1)

  -- ---- the bound is of what was written

  -- clients wrote the same, the same opened, and the same were touched
  record Same (J K : List Rec) : Type 0 where
    pub written : (c : ℕ) → wrote K c ≡ wrote J c
    pub opened : openers K ≡ openers J
    pub touched : (c : ℕ) → is_touched K c ≡ is_touched J c

  total-same : (f g : ℕ → ℕ) → ((c : ℕ) → f c ≡ g c) → (cs : List ℕ) → total_of f cs ≡ total_of g cs
  total-same f g same [] = refl
  total-same f g same (c ∷ cs) = let one = same c in let rest = total-same f g same cs in omega (arith, one, rest)

  bound-same : (J K : List Rec) → Same J K → settling_bound files K ≡ settling_bound files J
  bound-same J K s =
      let clients : length (openers K) ≡ length (openers J) = ap length s.opened in
      let requests : total_of (requests_of K) (openers K) ≡ total_of (requests_of J) (openers J) =
      total-same (requests_of K) (requests_of J) (λ c. ap (λ bytes. length (blocks bytes)) (s.written c)) (openers K) ∙ ap (total_of (requests_of J)) s.opened in
      let bytes : total_of (bytes_both_ways files K) (openers K) ≡ total_of (bytes_both_ways files J) (openers J) =
      total-same (bytes_both_ways files K) (bytes_both_ways files J) (λ c. ap (λ bytes. length bytes + length (answer_bytes files bytes)) (s.written c)) (openers K) ∙ ap (total_of (bytes_both_ways files J)) s.opened in
      omega (arith, clients, requests, bytes)

  ordinary-same : (J K : List Rec) → Same J K → IsOrdinary K → IsOrdinary J
  ordinary-same J K s h c = (sym (s.touched c) ∙ (h c).0, subst (λ (bytes : List ℕ). length bytes < 16383) (s.written c) (h c).1)

-- ---- how a settle that is done ends

-- the last record
abbrev last_of : List Rec → Option Rec
last_of J = fold (λ o r. Some r) None J

last-is : (J : List Rec) (r : Rec) → last_of (J ++ r ∷ []) ≡ Some r
last-is J r = fold-append (λ o q. Some q) None J (r ∷ [])

-- it is closed by what is left, and answers so
record Closing (n : Machine) (s : Settled) : Type 0 where
  pub at : Machine
  pub done : ℕ
  pub is : n ≡ settle_closed at done (settle_left at)
  pub says : s ≡ settle_answer done (settle_left at)

left-closing : (k : Machine) (done l : ℕ) (n : Machine) (s : Settled) → l ≡ settle_left k → ◌≡◌ {A = Result (Machine × Settled) Stop} (Ok (settle_closed k done l, settle_answer done l)) (Ok (n, s)) → Closing n s
left-closing k done l n s all is =
    let same = ok-same (settle_closed k done l, settle_answer done l) (n, s) is in record {
      at = k;
      done = done;
      is = sym (ap (λ (p : Machine × Settled). p.0) same) ∙ ap (settle_closed k done) all;
      says = sym (ap (λ (p : Machine × Settled). p.1) same) ∙ ap (settle_answer done) all;
    }

closed-closing : (x : Result (Machine × ℕ) Stop) (n : Machine) (s : Settled) → closed_by x ≡ Ok (n, s) → Closing n s
closed-closing (Err stop) n s is = absurd (err-ok stop (n, s) is)
closed-closing (Ok (k, done)) n s is = left-closing k done (settle_left k) n s refl is

from-closing : (m : Machine) (rounds : ℕ) (n : Machine) (s : Settled) → settled_from m rounds ≡ Ok (n, s) → Closing n s
from-closing m rounds n s = go (all_inner m (takes m)) where
  go : (x : Result Machine Stop) → (elim x as (λ r. Result (Machine × Settled) Stop) [ Err stop ↦ Err stop | Ok k ↦ closed_by (rounds_from rounds 0 k) ]) ≡ Ok (n, s) → Closing n s
  go (Err stop) is = absurd (err-ok stop (n, s) is)
  go (Ok k) is = closed-closing (rounds_from rounds 0 k) n s is

settled-closing : (m : Machine) (rounds : ℕ) (n : Machine) (s : Settled) → settled m rounds ≡ Ok (n, s) → Closing n s
unfolding settled
settled-closing m rounds n s = go (settle_begun m rounds) where
  go : (x : Result Machine StepFault) → (elim x as (λ r. Result (Machine × Settled) Stop) [ Err fault ↦ Err (m, fault) | Ok k ↦ settled_from k rounds ]) ≡ Ok (n, s) → Closing n s
  go (Err fault) is = absurd (err-ok (m, fault) (n, s) is)
  go (Ok k) is = from-closing k rounds n s is

-- where nothing is left behind it, it says so
pub says-quiet : (m : Machine) (rounds : ℕ) (n : Machine) (s : Settled) → settled m rounds ≡ Ok (n, s) → is_quiet n ≡ true → (done : ℕ) × (s ≡ Quiet done)
says-quiet m rounds n s is quiet =
    let c : Closing n s = settled-closing m rounds n s is in
    let before : is_quiet c.at ≡ true = sym (closing-quiet c.at c.done (settle_left c.at)) ∙ sym (ap is_quiet c.is) ∙ quiet in
    (c.done, c.says ∙ ap (settle_answer c.done) (quiet-left c.at before))

-- an event that is a settle is done where the settle is
event-settled : (m : Machine) (rounds : ℕ) (n : Machine) → event_step m (event.Settle rounds) ≡ Ok n → (s : Settled) × (settled m rounds ≡ Ok (n, s))
unfolding event_step
event-settled m rounds n is = go (settled m rounds) is where
  go : (x : Result (Machine × Settled) Stop) → settled_to x ≡ Ok n → (s : Settled) × (x ≡ Ok (n, s))
  go (Err stop) h = absurd (err-ok stop n h)
  go (Ok (k, s)) h = (s, ap (λ (j : Machine). Ok (j, s)) (ok-same k n h))

quiet-none : (done left other : ℕ) → settle_answer done left ≡ Quiet other → left ≡ 0
quiet-none done zero other h = refl
quiet-none done (suc left) other h = cc

-- one that ends quiet is closed by no record of what is left
not-left : (n k : Machine) (s : Settled) (done more : ℕ) → Closing n s → EndsQuiet n s → n ≡ settle_closed k done (suc more) → ⊥
not-left n k s done more c quiet is =
    let none : settle_left c.at ≡ 0 = quiet-none c.done (settle_left c.at) quiet.1 (sym c.says ∙ quiet.2) in
    let one : last_of n.journal ≡ Some (rec.Settled c.done) = ap (λ (j : Machine). last_of j.journal) c.is ∙ last-is c.at.journal (closing c.done (settle_left c.at)) ∙ ap (λ i. Some (closing c.done i)) none in
    let other : last_of n.journal ≡ Some (rec.Unsettled done (suc more)) = ap (λ (j : Machine). last_of j.journal) is ∙ last-is k.journal (rec.Unsettled done (suc more)) in
    let no : Some (rec.Settled c.done) ≡ Some (rec.Unsettled done (suc more)) = sym one ∙ other in
    cc

-- ---- runs

module _ (config : Config) (files : List (List ℕ × List ℕ))
    (enough : (before : List Event) (m : Machine) → Each IsScheduled before → GoesThrough (machine_start config files) before m → IsOrdinary m.journal → (rounds : ℕ) → settling_bound (file_at files) m.journal ≤ rounds
    → (n : Machine) (s : Settled) → settled m rounds ≡ Ok (n, s) → EndsQuiet n s) where
  abbrev May : List Rec → Rec → Type 0
  May = MayLeaveUnsettled (file_at files)

  abbrev AreSame : List Rec → List Rec → Type 0
  AreSame = Same (file_at files)

  -- a state whose journal can be written out, and in which each record may stand
  record Stands (m : Machine) : Type 0 where
    pub is : Is config files m
    pub each : EachMay May [] m.journal

  -- the same behind inner steps of a settle of journal J
  record StandsIn (J : List Rec) (m : Machine) : Type 0 where
    pub is : Is config files m
    pub each : EachMay May [] m.journal
    pub same : AreSame J m.journal

  -- ---- a settle

  module _ {A : Type 0} (step : A → Rec → A) (over : PassesOver step) (steps : TakesSteps step) (a : A) where
    inner-fold : (m n : Machine) (e : Event) → Is config files m → IsInner e → inner_step m e ≡ Ok n → fold step a n.journal ≡ fold step a m.journal
    inner-fold m n e w inner is =
        let one = inner-plain config files m n e w (inner-rule e inner) is in
        sym (ap (fold step a) one.0.journal ∙ fold-written step steps a 0 n.journal) ∙ inner-over step over a w.plain one.0.plain e (reached-viewed config files w.plain w.reached) inner one.1
        ∙ ap (fold step a) w.journal ∙ fold-written step steps a 0 m.journal

    begun-fold : (m n : Machine) (rounds : ℕ) → settle_begun m rounds ≡ Ok n → fold step a n.journal ≡ fold step a m.journal
    begun-fold m n rounds is =
        ap (λ (k : Machine). fold step a k.journal) (sym (begun-is m n rounds is))
        ∙ fold-append step a m.journal (rec.Event (m.events + 1) (event.Settle rounds) ∷ [])
        ∙ steps.settles (fold step a m.journal) (m.events + 1) rounds

  inner-stands : (J : List Rec) (m n : Machine) (e : Event) → StandsIn J m → IsInner e → inner_step m e ≡ Ok n → StandsIn J n
  inner-stands J m n e h inner is =
      let on : InnerRows m e n = inner-rows config files m n e h.is (inner-rule e inner) is in
      record {
        is = (written config files).inner_steps m n e h.is (inner-rule e inner) is;
        each = subst (EachMay May []) (sym on.are) (each_append May [] m.journal (rec.Inner e ∷ on.rows) h.each (tt, rows-may (file_at files) (m.journal ++ rec.Inner e ∷ []) on.rows on.unmarked));
        same = record {
          written = λ c. inner-fold (wrote_step c) (wrote-over c) (wrote-steps c) [] m n e h.is inner is ∙ h.same.written c;
          opened = inner-fold opener_step openers-over opener-steps [] m n e h.is inner is ∙ h.same.opened;
          touched = λ c. inner-fold (touched_step c) (touched-over c) (touched-steps c) false m n e h.is inner is ∙ h.same.touched c;
        };
      }

  kept-stands : (J : List Rec) → InnerKept (StandsIn J) IsInner
  kept-stands J = record { inner = inner-stands J; takes = λ m p. take-inner _; deliveries = λ m p. deliver-inner _; completions = λ m n p. disk-inner n _; firings = λ m p. firings-inner m }

  begun-stands : (m n : Machine) (rounds : ℕ) → Stands m → settle_begun m rounds ≡ Ok n → StandsIn m.journal n
  begun-stands m n rounds h is = record {
    is = (written config files).settle m n rounds h.is is;
    each = subst (λ (k : Machine). EachMay May [] k.journal) (begun-is m n rounds is) (each_append May [] m.journal (rec.Event (m.events + 1) (event.Settle rounds) ∷ []) h.each (tt, tt));
    same = record {
      written = λ c. begun-fold (wrote_step c) (wrote-over c) (wrote-steps c) [] m n rounds is;
      opened = begun-fold opener_step openers-over opener-steps [] m n rounds is;
      touched = λ c. begun-fold (touched_step c) (touched-over c) (touched-steps c) false m n rounds is;
    };
  }

  settle-stands : (m : Machine) (rounds : ℕ) → Stands m → SettleEnds (StandsIn m.journal) IsInner m rounds (event_step m (event.Settle rounds))
  settle-stands m rounds h = settle-ends (StandsIn m.journal) IsInner (kept-stands m.journal) m rounds (λ n is. begun-stands m n rounds h is)

  -- a run so far
  record Runs (m : Machine) : Type 0 where
    pub before : List Event
    pub given : Each IsScheduled before
    pub goes : GoesThrough (machine_start config files) before m
    pub stands : Stands m

  -- the closing record may stand
  closing-may : (m n : Machine) (rounds : ℕ) → Runs m → event_step m (event.Settle rounds) ≡ Ok n → (c : IsClosed (StandsIn m.journal) IsInner rounds n) → EachMay May c.last.journal (closing c.done (settle_left c.last) ∷ [])
  closing-may m n rounds run is c = go (settle_left c.last) refl where
    over : (more : ℕ) → settle_left c.last ≡ suc more → (settle_left c.last ≡ 0) ⊎ (c.done ≡ rounds) → c.done ≡ rounds
    over more some (inl none) = absurd (omega (arith, some, none))
    over more some (inr all) = all

    test : (b : Bool) (more : ℕ) → nat_le (settling_bound (file_at files) m.journal) rounds ≡ b → settle_left c.last ≡ suc more → IsOrdinary c.last.journal → c.done < settling_bound (file_at files) c.last.journal
    test true more paid some ordinary =
        let s = event-settled m rounds n is in
        let quiet : EndsQuiet n s.0 = enough run.before m run.given run.goes (ordinary-same (file_at files) m.journal c.last.journal c.holds.same ordinary) rounds (leb-true _ _ paid) n s.0 s.1 in
        absurd (not-left n c.last s.0 c.done more (settled-closing m rounds n s.0 s.1) quiet (c.is ∙ ap (settle_closed c.last c.done) some))
    test false more few some ordinary =
        let less : rounds < settling_bound (file_at files) m.journal = leb-false _ _ few in
        let same = bound-same (file_at files) m.journal c.last.journal c.holds.same in
        let all = over more some c.over in
        omega (arith, less, same, all)

    go : (i : ℕ) → settle_left c.last ≡ i → EachMay May c.last.journal (closing c.done i ∷ [])
    go zero is = (tt, tt)
    go (suc more) some = (λ ordinary. test (nat_le (settling_bound (file_at files) m.journal) rounds) more refl some ordinary, tt)

  closed-stands : (m n : Machine) (rounds : ℕ) → Runs m → event_step m (event.Settle rounds) ≡ Ok n → IsClosed (StandsIn m.journal) IsInner rounds n → Stands n
  closed-stands m n rounds run is c = subst Stands (sym c.is) (record {
    is = (written config files).closes c.last c.done (settle_left c.last) c.holds.is;
    each = each_append May [] c.last.journal (closing c.done (settle_left c.last) ∷ []) c.holds.each (closing-may m n rounds run is c);
  })

  plain-stands : (m n : Machine) (e : Event) → Stands m → is_settle e ≡ false → MayCome e → event_step m e ≡ Ok n → Stands n
  plain-stands m n e h plain may is =
      let on : StepRows m e n = step-rows config files m n e h.is (plain-rule e plain may) (plain-done m n e plain is) in
      record {
        is = (written config files).steps m n e h.is (plain-rule e plain may) (plain-done m n e plain is);
        each = subst (EachMay May []) (sym on.are) (each_append May [] m.journal (rec.Event (m.events + 1) e ∷ on.rows) h.each (tt, rows-may (file_at files) (m.journal ++ rec.Event (m.events + 1) e ∷ []) on.rows on.unmarked));
      }

  event-stands : (m n : Machine) (e : Event) → Runs m → MayCome e → event_step m e ≡ Ok n → Stands n
  event-stands m n e run may is = go (either-kind e) where
    go : (is_settle e ≡ false) ⊎ ((rounds : ℕ) × (e ≡ event.Settle rounds)) → Stands n
    go (inl plain) = plain-stands m n e run.stands plain may is
    go (inr s) =
        let done : event_step m (event.Settle s.0) ≡ Ok n = sym (ap (event_step m) s.1) ∙ is in
        closed-stands m n s.0 run done (subst (SettleEnds (StandsIn m.journal) IsInner m s.0) done (settle-stands m s.0 run.stands))

  goes-on : (es : List Event) (k m n : Machine) (e : Event) → GoesThrough k es m → MayCome e → event_step m e ≡ Ok n → GoesThrough k (es ++ e ∷ []) n
  goes-on [] k m n e goes may is = (n, may, subst (λ (j : Machine). event_step j e ≡ Ok n) goes is, refl)
  goes-on (d ∷ es) k m n e goes may is = (goes.0, goes.1, goes.2, goes-on es goes.0 m n e goes.3 may is)

  goes-stand : (es : List Event) (m n : Machine) → Each IsScheduled es → Runs m → GoesThrough m es n → Runs n
  goes-stand [] m n given run goes = subst Runs (sym goes) run
  goes-stand (e ∷ es) m n given run goes = goes-stand es goes.0 n given.1 (record {
    before = run.before ++ e ∷ [];
    given = Each-append IsScheduled run.before (e ∷ []) run.given (given.0, tt);
    goes = goes-on run.before (machine_start config files) m goes.0 e run.goes goes.1 goes.2;
    stands = event-stands m goes.0 e run goes.1 goes.2;
  }) goes.3

  start-runs : Runs (machine_start config files)
  start-runs = record { before = []; given = tt; goes = refl; stands = record { is = (written config files).begins; each = tt } }

  -- a run may end inside a settle
  stop-stands : (m n : Machine) (rounds : ℕ) (fault : StepFault) → Stands m → event_step m (event.Settle rounds) ≡ Err (n, fault) → EachMay May [] n.journal
  stop-stands m n rounds fault h is = go (subst (SettleEnds (StandsIn m.journal) IsInner m rounds) is (settle-stands m rounds h)) where
    go : SettleEnds (StandsIn m.journal) IsInner m rounds (Err (n, fault)) → EachMay May [] n.journal
    go (inl began) = subst (λ (k : Machine). EachMay May [] k.journal) (sym began.0) h.each
    go (inr ended) = ended.0.each

  -- so it is in the journal of each run
  pub enough-rounds : (es : List Event) (m : Machine) → Each IsScheduled es → LeadsTo (machine_start config files) es m → EachMay May [] m.journal
  enough-rounds es m given (inl goes) = (goes-stand es (machine_start config files) m given start-runs goes).stands.each
  enough-rounds es m given (inr i) =
      let parts = given-parts i.before (event.Settle i.rounds ∷ []) (subst (Each IsScheduled) i.are given) in
      stop-stands i.behind m i.rounds i.fault (goes-stand i.before (machine_start config files) i.behind parts start-runs i.goes).stands i.stops where
        given-parts : (xs ys : List Event) → Each IsScheduled (xs ++ ys) → Each IsScheduled xs
        given-parts [] ys h = tt
        given-parts (x ∷ xs) ys h = (h.0, given-parts xs ys h.1)
