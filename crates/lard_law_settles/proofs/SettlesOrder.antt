-- Settles stand in order: by what each step records, and how a settle ends.
use Rattle.std.proofs.Common.{◌≡◌, ◌⊎◌, inl, inr, ◌≤◌, ℕ, zero, suc, ◌+◌, false, List, [], ◌∷◌, ◌++◌, Option, Some, None, IsSome, Ok, Err, refl, sym, ap, ◌∙◌, subst, arith}
use Rattle.std.proofs.lemmas.List.Sums.{fold-append}
use Rattle.std.specs.List.{fold}
use Rattle.lard_law_view.specs.Prelude.{Config, Event, Machine, Rec, machine_start, passed}
use Rattle.lard_base.specs.declared.event.Event.TheVariants as event
use Rattle.lard_journal.specs.declared.rec.Rec.TheVariants as rec
use Rattle.lard_settling.specs.Events.{GoesThrough, MayCome, event_step}
use Rattle.lard_settling.specs.Settling.{Stop, settle_left}
use Rattle.lard_law_settles.specs.SettlesOrder.{RunsSettleInOrder}
use Rattle.lard_law_settles.proofs.SettlesEvents.{begun-is, either-kind, plain-done, plain-rule}
use Rattle.lard_law_settles.proofs.SettlesFiring.{IsInner, deliver-inner, disk-inner, firings-inner, inner-rule, inner-stands, take-inner}
use Rattle.lard_law_settles.proofs.SettlesGiven.{InnerRows, StepRows, inner-rows, step-rows}
use Rattle.lard_law_settles.proofs.SettlesInside.{InnerKept, IsClosed, SettleEnds, settle-ends}
use Rattle.lard_settling.specs.Order.{AllStand, Begun, Inside, IsInStep, MayStandInPhase, Nothing, Outside, Phase, further, open_settle, phase_at, phase_step}
use Rattle.lard_settling.specs.Steps.{closing, inner_step, settle_begun, settle_closed}
use Rattle.lard_settling.specs.Written.{IsWrittenOut, is_settle}
use Rattle.lard_settling.proofs.Plain.{AreUnmarked, is_mark}
use Rattle.lard_settling.proofs.Written.{written}

-- ---- records

-- Records may stand from one phase on, and lead to another.
abbrev Leads : Phase → List Rec → Phase → Type 0
Leads p rs q = AllStand p rs × (fold phase_step p rs ≡ q)

all-append : (p : Phase) (J K : List Rec) → AllStand p J → AllStand (fold phase_step p J) K → AllStand p (J ++ K)
all-append p [] K h k = k
all-append p (r ∷ J) K h k = (h.0, all-append (phase_step p r) J K h.1 k)

leads-append : (p q s : Phase) (J K : List Rec) → Leads p J q → Leads q K s → Leads p (J ++ K) s
leads-append p q s J K h k = (
  all-append p J K h.0 (subst (λ (x : Phase). AllStand x K) (sym h.1) k.0),
  fold-append phase_step p J K ∙ ap (λ (x : Phase). fold phase_step x K) h.1 ∙ k.1,
)

-- what is told in a step stands in it
unmarked-stands : (p : Phase) → IsInStep p → (r : Rec) → is_mark r ≡ false → MayStandInPhase p r × (phase_step p r ≡ p)
unmarked-stands p in_step (rec.Event i e) h = cc
unmarked-stands p in_step (rec.Inner e) h = cc
unmarked-stands p in_step (rec.Settled done) h = cc
unmarked-stands p in_step (rec.Unsettled done left) h = cc
unmarked-stands p in_step _ h = (in_step, refl)

rows-lead : (p : Phase) → IsInStep p → (rs : List Rec) → AreUnmarked rs → Leads p rs p
rows-lead p in_step [] h = (tt, refl)
rows-lead p in_step (r ∷ rs) h =
    let one = unmarked-stands p in_step r h.0 in
    let more = rows-lead p in_step rs h.1 in
    ((one.0, subst (λ (x : Phase). AllStand x rs) (sym one.1) more.0), ap (λ (x : Phase). fold phase_step x rs) one.1 ∙ more.1)

-- a record that leads into a step, and what is told in it
step-leads : (p q : Phase) (r : Rec) (rs : List Rec) → MayStandInPhase p r → phase_step p r ≡ q → IsInStep q → AreUnmarked rs → Leads p (r ∷ rs) q
step-leads p q r rs stands is in_step plain =
    let more = rows-lead q in_step rs plain in
    ((stands, subst (λ (x : Phase). AllStand x rs) (sym is) more.0), ap (λ (x : Phase). fold phase_step x rs) is ∙ more.1)

-- an event that is no settle leads into its step
plain-phase : (e : Event) → is_settle e ≡ false → phase_at e ≡ Outside
plain-phase (event.Settle rounds) h = cc
plain-phase _ h = refl

-- an inner step leads further into its settle
further-in : (p : Phase) (rounds : ℕ) → open_settle p ≡ Some rounds → further p ≡ Inside rounds
further-in Nothing rounds inside = cc
further-in Outside rounds inside = cc
further-in (Begun done) rounds inside = let same : done ≡ rounds = cc in ap Inside same
further-in (Inside done) rounds inside = let same : done ≡ rounds = cc in ap Inside same

some-open : (o : Option ℕ) (rounds : ℕ) → o ≡ Some rounds → IsSome o
some-open None rounds h = cc
some-open (Some done) rounds h = refl

-- a settle is closed behind so many rounds, all of them where anything is left
closing-leads : (p : Phase) (rounds done left : ℕ) → open_settle p ≡ Some rounds → done ≤ rounds → (left ≡ 0) ⊎ (done ≡ rounds) → Leads p (closing done left ∷ []) Nothing
closing-leads p rounds done zero inside few over = (((rounds, inside, few), tt), refl)
closing-leads p rounds done (suc left) inside few (inl none) = absurd (omega (arith, none))
closing-leads p rounds done (suc left) inside few (inr all) = (((inside ∙ ap Some (sym all), omega arith), tt), refl)

-- ---- states

-- a journal stands in order, and leads to this phase
abbrev ComesTo : Machine → Phase → Type 0
ComesTo m p = Leads Nothing m.journal p

module _ (config : Config) (files : List (List ℕ × List ℕ)) where
  -- outside of settles
  record IsOutside (m : Machine) : Type 0 where
    pub written_out : IsWrittenOut config files m
    pub phase : Phase
    pub comes : ComesTo m phase
    pub closed : open_settle phase ≡ None

  -- inside one of so many rounds
  record IsInside (rounds : ℕ) (m : Machine) : Type 0 where
    pub written_out : IsWrittenOut config files m
    pub phase : Phase
    pub comes : ComesTo m phase
    pub inside : open_settle phase ≡ Some rounds

  -- records more
  comes-on : (m n : Machine) (p q : Phase) (rs : List Rec) → ComesTo m p → n.journal ≡ m.journal ++ rs → Leads p rs q → ComesTo n q
  comes-on m n p q rs h is more = subst (λ (J : List Rec). Leads Nothing J q) (sym is) (leads-append Nothing p q m.journal rs h more)

  inner-inside : (rounds : ℕ) (m n : Machine) (e : Event) → IsInside rounds m → IsInner e → inner_step m e ≡ Ok n → IsInside rounds n
  inner-inside rounds m n e h inner is =
      let on : InnerRows m e n = inner-rows config files m n e h.written_out (inner-rule e inner) is in
      record {
        written_out = (written config files).inner_steps m n e h.written_out (inner-rule e inner) is;
        phase = Inside rounds;
        comes = comes-on m n h.phase (Inside rounds) (rec.Inner e ∷ on.rows) h.comes on.are
            (step-leads h.phase (Inside rounds) (rec.Inner e) on.rows (some-open (open_settle h.phase) rounds h.inside, inner-stands e inner) (further-in h.phase rounds h.inside) tt on.unmarked);
        inside = refl;
      }

  kept-inside : (rounds : ℕ) → InnerKept (IsInside rounds) IsInner
  kept-inside rounds = record {
    inner = inner-inside rounds;
    takes = λ m p. take-inner _;
    deliveries = λ m p. deliver-inner _;
    completions = λ m n p. disk-inner n _;
    firings = λ m p. firings-inner m;
  }

  begun-inside : (m n : Machine) (rounds : ℕ) → IsOutside m → settle_begun m rounds ≡ Ok n → IsInside rounds n
  begun-inside m n rounds h is =
      let same : passed m (event.Settle rounds) [] ≡ n = begun-is m n rounds is in
      record {
        written_out = (written config files).settle m n rounds h.written_out is;
        phase = Begun rounds;
        comes = comes-on m n h.phase (Begun rounds) (rec.Event (m.events + 1) (event.Settle rounds) ∷ []) h.comes (sym (ap (λ (k : Machine). k.journal) same)) ((h.closed, tt), refl);
        inside = refl;
      }

  closed-outside : (rounds : ℕ) (n : Machine) → IsClosed (IsInside rounds) IsInner rounds n → IsOutside n
  closed-outside rounds n c =
      let h : IsInside rounds c.last = c.holds in
      subst IsOutside (sym c.is) (record {
        written_out = (written config files).closes c.last c.done (settle_left c.last) h.written_out;
        phase = Nothing;
        comes = comes-on c.last (settle_closed c.last c.done (settle_left c.last)) h.phase Nothing (closing c.done (settle_left c.last) ∷ []) h.comes refl (closing-leads h.phase rounds c.done (settle_left c.last) h.inside c.few c.over);
        closed = refl;
      })

  settle-leads : (m : Machine) (rounds : ℕ) → IsOutside m → SettleEnds (IsInside rounds) IsInner m rounds (event_step m (event.Settle rounds))
  settle-leads m rounds h = settle-ends (IsInside rounds) IsInner (kept-inside rounds) m rounds (λ n is. begun-inside m n rounds h is)

  plain-outside : (m n : Machine) (e : Event) → IsOutside m → is_settle e ≡ false → MayCome e → event_step m e ≡ Ok n → IsOutside n
  plain-outside m n e h plain may is =
      let on : StepRows m e n = step-rows config files m n e h.written_out (plain-rule e plain may) (plain-done m n e plain is) in
      record {
        written_out = (written config files).steps m n e h.written_out (plain-rule e plain may) (plain-done m n e plain is);
        phase = Outside;
        comes = comes-on m n h.phase Outside (rec.Event (m.events + 1) e ∷ on.rows) h.comes on.are (step-leads h.phase Outside (rec.Event (m.events + 1) e) on.rows h.closed (plain-phase e plain) tt on.unmarked);
        closed = refl;
      }

  event-outside : (m n : Machine) (e : Event) → IsOutside m → MayCome e → event_step m e ≡ Ok n → IsOutside n
  event-outside m n e h may is = go (either-kind e) where
    go : (is_settle e ≡ false) ⊎ ((rounds : ℕ) × (e ≡ event.Settle rounds)) → IsOutside n
    go (inl plain) = plain-outside m n e h plain may is
    go (inr s) = closed-outside s.0 n (subst (SettleEnds (IsInside s.0) IsInner m s.0) (sym (ap (event_step m) s.1) ∙ is) (settle-leads m s.0 h))

  -- ---- runs

  goes-outside : (es : List Event) (m n : Machine) → IsOutside m → GoesThrough m es n → IsOutside n
  goes-outside [] m n h goes = subst IsOutside (sym goes) h
  goes-outside (e ∷ es) m n h goes = goes-outside es goes.0 n (event-outside m goes.0 e h goes.1 goes.2) goes.3

  start-outside : IsOutside (machine_start config files)
  start-outside = record { written_out = (written config files).begins; phase = Nothing; comes = (tt, refl); closed = refl }

  -- a run may end inside a settle
  inside-stands : (m n : Machine) (rounds : ℕ) (stop : Stop) → stop.0 ≡ n → IsOutside m → event_step m (event.Settle rounds) ≡ Err stop → AllStand Nothing n.journal
  inside-stands m n rounds stop same h is = over (subst (SettleEnds (IsInside rounds) IsInner m rounds) is (settle-leads m rounds h)) where
    over : SettleEnds (IsInside rounds) IsInner m rounds (Err stop) → AllStand Nothing n.journal
    over (inl began) = subst (λ (k : Machine). AllStand Nothing k.journal) (sym began.0 ∙ same) h.comes.0
    over (inr ended) = subst (λ (k : Machine). AllStand Nothing k.journal) same ended.0.comes.0

pub in-order : RunsSettleInOrder
in-order config files es m (inl goes) = (goes-outside config files es (machine_start config files) m (start-outside config files) goes).comes.0
in-order config files es m (inr i) = inside-stands config files i.behind m i.rounds (m, i.fault) refl (goes-outside config files i.before (machine_start config files) i.behind (start-outside config files) i.goes) i.stops
