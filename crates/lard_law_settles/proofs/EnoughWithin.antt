-- Machines within the rounds of a settle: what clients wrote before it stays, the schedule touched no connection, and no client holds. From
-- the settle's event on its takes lead there, and each step of its rounds stays there.
use Rattle.std.proofs.Common.{◌≡◌, ◌<◌, ◌≤◌, ◌⊎◌, ⊎_elim, ℕ, zero, suc, ◌+◌, Bool, true, false, List, [], ◌∷◌, ◌++◌, length, map, filter, Some, Ok, refl, sym, ap, ◌∙◌, subst, append-nil}
use Rattle.std.proofs.lemmas.Bool.{both_ways}
use Rattle.std.proofs.lemmas.List.Sums.{fold-append}
use Rattle.std.specs.List.{fold}
use Rattle.lard_agenda.specs.Agenda.{agenda_of, holders}
use Rattle.lard_law_view.specs.Prelude.{Config, Event, Has, IsReached, Machine, Passes, Rec, Station, conn, file_at, is_touched, machine_start, machine_step, passed, touched_step, which_leave, wrote, wrote_step}
use Rattle.lard_base.specs.declared.event.Event.TheVariants as event
use Rattle.lard_bound.specs.Bound.{IsOrdinary, opener_step, openers, settling_bound}
use Rattle.lard_bound.specs.Seats.{seat_of}
use Rattle.lard_bound.specs.Units.{tellers}
use Rattle.lard_law_view.proofs.Carried.{reached-viewed}
use Rattle.lard_law_view.proofs.Runs.{passes-more}
use Rattle.lard_laws.specs.Records.{IsScheduled}
use Rattle.lard_law_connections.proofs.LeaversSteps.{leaving-stays}
use Rattle.lard_law_settles.specs.CourseGame.{game}
use Rattle.lard_history.proofs.Each.{Each, Each-append}
use Rattle.lard_journal.specs.declared.rec.Rec.TheVariants as rec
use Rattle.lard_law_progress.proofs.Most.{IsModest}
use Rattle.lard_rounds.specs.Rounds.{Owes}
use Rattle.lard_law_settles.proofs.EnoughBeside.{Beside, Is}
use Rattle.lard_law_settles.proofs.EnoughHolders.{holder-before, none-holds}
use Rattle.lard_law_settles.proofs.EnoughRuling.{step-warms}
use Rattle.lard_law_settles.proofs.EnoughSettled.{EndsQuiet, SettlesBy, settled-quiet}
use Rattle.lard_law_connections.proofs.LeaversStays.{none-leaves}
use Rattle.lard_law_settles.proofs.EnoughSums.{wholes}
use Rattle.lard_law_settles.proofs.EnoughTelling.{PassesOver, inner-over, openers-over, touched-over, wrote-over}
use Rattle.lard_law_progress.proofs.Given.{IsRounds, rounds-rule}
use Rattle.lard_law_settles.proofs.EnoughWarming.{OfAll, Warming, first-round, second-round}
use Rattle.lard_law_settles.proofs.EnoughWording.{First, IsCalmConn, Second, second-first}
use Rattle.lard_law_settles.proofs.SettlesEvents.{begun-is}
use Rattle.lard_law_settles.proofs.SettlesFiring.{IsInner}
use Rattle.lard_settling.specs.declared.settled.Settled.{Settled}
use Rattle.lard_settling.specs.Left.{is_holder}
use Rattle.lard_settling.specs.Settling.{settled, takes}
use Rattle.lard_settling.specs.Steps.{closing, settle_begun, settle_closed}
use Rattle.lard_settling.specs.Written.{steps_in, steps_with, told_as, written_from, written_out}
use Rattle.lard_settling.proofs.Folds.{TakesSteps, fold-written, written-append}

rounds-inner : (e : Event) → IsRounds e → IsInner e
rounds-inner (event.Deliver k) h = tt
rounds-inner (event.Disk n j) h = h
rounds-inner (event.Timer p c) h = h
rounds-inner _ h = absurd h

pub wrote-steps : (c : ℕ) → TakesSteps (wrote_step c)
wrote-steps c = record { events = λ a i j e. refl; inner = λ a i e. refl; settles = λ a i rounds. refl; settled = λ a rounds. refl; unsettled = λ a rounds left. refl }

pub opener-steps : TakesSteps opener_step
opener-steps = record { events = λ a i j e. refl; inner = λ a i e. refl; settles = λ a i rounds. refl; settled = λ a rounds. refl; unsettled = λ a rounds left. refl }

pub touched-steps : (c : ℕ) → TakesSteps (touched_step c)
touched-steps c = record { events = λ a i j e. refl; inner = λ a i e. refl; settles = λ a i rounds. refl; settled = λ a rounds. refl; unsettled = λ a rounds left. refl }

module _ (config : Config) (files : List (List ℕ × List ℕ)) where
  -- of the settle that begins in machine o
  pub record IsWithin (o m : Machine) : Type 0 where
    pub reached : IsReached config files m
    pub given : Each IsScheduled reached.0
    pub wrote_same : (c : ℕ) → wrote m.journal c ≡ wrote o.journal c
    pub openers_same : openers m.journal ≡ openers o.journal
    pub leaving_same : which_leave m ≡ which_leave o
    pub untouched : (c : ℕ) → is_touched m.journal c ≡ false
    pub few : (c : ℕ) → length (wrote m.journal c) < 16383
    pub free : (c : ℕ) → is_holder m c ≡ false

  no-hold : (e : Event) (c : ℕ) → IsRounds e → e ≡ event.Hold c → ⊥
  no-hold e c of same = subst IsRounds same of

  -- an event of an inner step that is done is one that a schedule may give
  abbrev pub AreGiven : Type 0
  AreGiven = (m n : Machine) (e : Event) → IsReached config files m → IsInner e → machine_step m e ≡ Ok n → IsScheduled e

  few-same : (c : ℕ) (xs ys : List ℕ) → xs ≡ ys → length ys < 16383 → length xs < 16383
  few-same c xs ys same few = subst (λ (zs : List ℕ). length zs < 16383) (sym same) few

  -- each step of a round stays there
  pub within-kept : AreGiven → (o m n : Machine) (e : Event) → IsWithin o m → IsRounds e → machine_step m e ≡ Ok n → IsWithin o n
  within-kept events o m n e w of is =
      let view = reached-viewed config files m w.reached in
      let inner : IsInner e = rounds-inner e of in
      let wrote_is : (c : ℕ) → wrote n.journal c ≡ wrote m.journal c = λ c. inner-over (wrote_step c) (wrote-over c) [] m n e view inner is in
      record {
        reached = (w.reached.0 ++ e ∷ [], passes-more w.reached.0 (machine_start config files) m n e w.reached.1 (rounds-rule e of) is);
        given = Each-append IsScheduled w.reached.0 (e ∷ []) w.given (events m n e w.reached inner is, tt);
        few = λ c. few-same c (wrote n.journal c) (wrote m.journal c) (wrote_is c) (w.few c);
        wrote_same = λ c. wrote_is c ∙ w.wrote_same c;
        openers_same = inner-over opener_step openers-over [] m n e view inner is ∙ w.openers_same;
        leaving_same = leaving-stays m n e is ∙ w.leaving_same;
        untouched = λ c. inner-over (touched_step c) (touched-over c) false m n e view inner is ∙ w.untouched c;
        free = λ c. held (is_holder n c) refl (w.free c) (holder-before m n e view (rounds-rule e of) is c);
      } where
        held : {c : ℕ} (b : Bool) → is_holder n c ≡ b → is_holder m c ≡ false → (is_holder n c ≡ true → (is_holder m c ≡ true) ⊎ (e ≡ event.Hold c)) → is_holder n c ≡ false
        held false now was before = now
        held {c} true now was before = ⊎_elim (λ (h : is_holder m c ≡ true). absurd (both_ways (is_holder m c) was h)) (λ (h : e ≡ event.Hold c). absurd (no-hold e c of h)) (before now)

  -- ---- the takes lead there

  module _ {A : Type 0} (step : A → Rec → A) (over : PassesOver step) (steps : TakesSteps step) (a : A) where
    takes-over : (cs : List ℕ) (p q : Machine) → IsReached config files p → Passes p (map event.Take cs) q → fold step a q.journal ≡ fold step a p.journal
    takes-over [] p q r same = ap (λ (k : Machine). fold step a k.journal) same
    takes-over (c ∷ cs) p q r on =
        takes-over cs on.0 q (r.0 ++ event.Take c ∷ [], passes-more r.0 (machine_start config files) p on.0 (event.Take c) r.1 tt on.2) on.3
        ∙ inner-over step over a p on.0 (event.Take c) (reached-viewed config files p r) tt on.2

    pub begun-over : (m n t : Machine) (rounds : ℕ) (w : Is config files n) → settle_begun m rounds ≡ Ok n → (b : Beside config files n w (takes n) t) → fold step a b.is.plain.journal ≡ fold step a m.journal
    begun-over m n t rounds w begun b =
        let same : n.journal ≡ m.journal ++ rec.Event (m.events + 1) (event.Settle rounds) ∷ [] = sym (ap (λ (k : Machine). k.journal) (begun-is m n rounds begun)) in
        takes-over (filter (is_holder n) (holders (agenda_of n.journal))) w.plain b.is.plain w.reached b.passes
        ∙ ap (λ (J : List Rec). fold step a J) w.journal
        ∙ fold-written step steps a 0 n.journal
        ∙ ap (λ (J : List Rec). fold step a J) same
        ∙ fold-append step a m.journal (rec.Event (m.events + 1) (event.Settle rounds) ∷ [])
        ∙ steps.settles (fold step a m.journal) (m.events + 1) rounds

  -- the same nodes leave behind the takes
  takes-leaving : (cs : List ℕ) (p q : Machine) → Passes p (map event.Take cs) q → which_leave q ≡ which_leave p
  takes-leaving [] p q same = ap (λ (k : Machine). which_leave k) same
  takes-leaving (c ∷ cs) p q on = takes-leaving cs on.0 q on.3 ∙ leaving-stays p on.0 (event.Take c) on.2

  begun-leaving : (m n t : Machine) (rounds : ℕ) (w : Is config files n) → settle_begun m rounds ≡ Ok n → (b : Beside config files n w (takes n) t)
      → which_leave b.is.plain ≡ which_leave m
  begun-leaving m n t rounds w begun b =
      takes-leaving (filter (is_holder n) (holders (agenda_of n.journal))) w.plain b.is.plain b.passes
      ∙ sym (ap (λ (k : Machine). which_leave k) w.same)
      ∙ sym (ap (λ (k : Machine). which_leave k) (begun-is m n rounds begun))

  -- the settle's event changes nothing of the machine without settles
  pub begun-plain : (m n : Machine) (rounds : ℕ) (w : Is config files m) (v : Is config files n) → settle_begun m rounds ≡ Ok n → w.plain ≡ v.plain
  begun-plain m n rounds w v begun =
      let same : passed m (event.Settle rounds) [] ≡ n = begun-is m n rounds begun in
      let last : n.journal ≡ m.journal ++ rec.Event (m.events + 1) (event.Settle rounds) ∷ [] = sym (ap (λ (k : Machine). k.journal) same) in
      let out : written_out n.journal ≡ written_out m.journal =
      ap written_out last ∙ written-append 0 m.journal (rec.Event (m.events + 1) (event.Settle rounds) ∷ []) ∙ append-nil (written_out m.journal) in
      let steps : steps_in n.journal ≡ steps_in m.journal = ap steps_in last ∙ fold-append steps_with 0 m.journal (rec.Event (m.events + 1) (event.Settle rounds) ∷ []) in
      let journal : w.plain.journal ≡ v.plain.journal = w.journal ∙ sym out ∙ sym v.journal in
      let events : w.plain.events ≡ v.plain.events = w.events ∙ sym steps ∙ sym v.events in
      ap (λ (k : Machine). told_as k w.plain.journal w.plain.events) (sym w.same)
      ∙ (λ i. told_as m (journal i) (events i))
      ∙ ap (λ (k : Machine). told_as k v.plain.journal v.plain.events) same
      ∙ ap (λ (k : Machine). told_as k v.plain.journal v.plain.events) v.same

  -- and its closing record changes nothing either
  pub closed-plain : (m : Machine) (done more : ℕ) (w : Is config files m) (v : Is config files (settle_closed m done more)) → w.plain ≡ v.plain
  closed-plain m done more w v =
      let out : written_out (m.journal ++ closing done more ∷ []) ≡ written_out m.journal = written-append 0 m.journal (closing done more ∷ []) ∙ nothing more in
      let steps : steps_in (m.journal ++ closing done more ∷ []) ≡ steps_in m.journal = fold-append steps_with 0 m.journal (closing done more ∷ []) ∙ no-step more in
      let journal : w.plain.journal ≡ v.plain.journal = w.journal ∙ sym out ∙ sym v.journal in
      let events : w.plain.events ≡ v.plain.events = w.events ∙ sym steps ∙ sym v.events in
      ap (λ (k : Machine). told_as k w.plain.journal w.plain.events) (sym w.same)
      ∙ (λ i. told_as m (journal i) (events i))
      ∙ ap (λ (k : Machine). told_as k v.plain.journal v.plain.events) v.same
    where
      nothing : (more : ℕ) → written_out m.journal ++ written_from (steps_in m.journal) (closing done more ∷ []) ≡ written_out m.journal
      nothing zero = append-nil (written_out m.journal)
      nothing (suc more) = append-nil (written_out m.journal)

      no-step : (more : ℕ) → fold steps_with (steps_in m.journal) (closing done more ∷ []) ≡ steps_in m.journal
      no-step zero = refl
      no-step (suc more) = refl

  takes-given : AreGiven → (cs : List ℕ) (p q : Machine) → IsReached config files p → Passes p (map event.Take cs) q → Each IsScheduled (map event.Take cs)
  takes-given events [] p q r on = tt
  takes-given events (c ∷ cs) p q r on =
      (events p on.0 (event.Take c) r tt on.2, takes-given events cs on.0 q (r.0 ++ event.Take c ∷ [], passes-more r.0 (machine_start config files) p on.0 (event.Take c) r.1 tt on.2) on.3)

  passes-append : (es fs : List Event) (a b c : Machine) → Passes a es b → Passes b fs c → Passes a (es ++ fs) c
  passes-append [] fs a b c same on = subst (λ (k : Machine). Passes k fs c) same on
  passes-append (e ∷ es) fs a b c past on = (past.0, past.1, past.2, passes-append es fs past.0 b c past.3 on)

  -- where the run up to the settle was ordinary
  pub begun-within : AreGiven → (m n t : Machine) (rounds : ℕ) (w : Is config files m) (v : Is config files n) → Each IsScheduled w.reached.0 → IsOrdinary m.journal → settle_begun m rounds ≡ Ok n → (b : Beside config files n v (takes n) t)
      → IsWithin m b.is.plain
  begun-within events m n t rounds w v given ordinary begun b =
      let cs : List ℕ = filter (is_holder n) (holders (agenda_of n.journal)) in
      let same : w.plain ≡ v.plain = begun-plain m n rounds w v begun in
      let past : Passes (machine_start config files) w.reached.0 v.plain = subst (Passes (machine_start config files) w.reached.0) same w.reached.1 in
      let wrote_is : (c : ℕ) → wrote b.is.plain.journal c ≡ wrote m.journal c = λ c. begun-over (wrote_step c) (wrote-over c) (wrote-steps c) [] m n t rounds v begun b in
      record {
        reached = (w.reached.0 ++ map event.Take cs, passes-append w.reached.0 (map event.Take cs) (machine_start config files) v.plain b.is.plain past b.passes);
        given = Each-append IsScheduled w.reached.0 (map event.Take cs) given (takes-given events cs v.plain b.is.plain v.reached b.passes);
        wrote_same = wrote_is;
        openers_same = begun-over opener_step openers-over opener-steps [] m n t rounds v begun b;
        leaving_same = begun-leaving m n t rounds v begun b;
        untouched = λ c. begun-over (touched_step c) (touched-over c) (touched-steps c) false m n t rounds v begun b ∙ (ordinary c).0;
        few = λ c. few-same c (wrote b.is.plain.journal c) (wrote m.journal c) (wrote_is c) (ordinary c).1;
        free = none-holds config files n t v b;
      }

  -- ---- the settle

  module _ (m : Machine) (w : Is config files m) (rounds : ℕ) where
    abbrev J : List Rec
    J = m.journal

    -- what is known of all that is on its way behind two rounds
    abbrev pub Good : Machine → Type 0
    Good p = IsWithin m p × OfAll Second p

    -- What is left to be shown: of each machine within the settle, what is known of its connections, and how much is left to do at most; and
    -- what rounds ask of its steps.
    pub record SettlesWithin : Type 0 where
      pub calm : (p : Machine) → IsWithin m p → (q : ℕ) → IsCalmConn (conn p q)
      pub opened : (p : Machine) → IsWithin m p → (c : ℕ) (s : Station) → (conn p c).part.station ≡ Some s → Has c (openers p.journal)
      pub modest : (p : Machine) → IsWithin m p → (c : ℕ) (s : Station) → (conn p c).part.station ≡ Some s
          → IsModest (wholes (file_at files) (which_leave m) m.journal c) (tellers (conn p c).part.nodes p.config.nodes) (seat_of (conn p c).part)
      pub owes : Owes (game (wholes (file_at files) (which_leave m) m.journal) Good) 5 3

    module _ (events : AreGiven) (h : SettlesWithin) (given : Each IsScheduled w.reached.0) (ordinary : IsOrdinary m.journal) where
      warming : Warming config files (wholes (file_at files) (which_leave m) m.journal) Good (IsWithin m) First Second
      warming = record {
        reached = λ p v. v.reached;
        kept = λ p q e v of is. within-kept events m p q e v of is;
        moves = λ p q e v of is. step-warms p q e (reached-viewed config files p v.reached) (h.calm p v) of is;
        follows = second-first;
      }

      settles-by : SettlesBy config files m w rounds (IsWithin m) (λ p. IsWithin m p × OfAll First p) Good
      settles-by = record {
        owes = h.owes;
        begins = λ n t v begun b. begun-within events m n t rounds w v given ordinary begun b;
        first = λ p q v r. first-round config files (wholes (file_at files) (which_leave m) m.journal) Good (IsWithin m) First Second warming p q v r;
        second = λ p q v r. second-round config files (wholes (file_at files) (which_leave m) m.journal) Good (IsWithin m) First Second warming p q v r;
        modest = λ p v. record {
          stays = λ n. ap (λ (l : ℕ → Bool). l n) (sym v.0.leaving_same) ∙ none-leaves p (reached-viewed config files p v.0.reached) n;
          opened = λ c s at. subst (Has c) v.0.openers_same (h.opened p v.0 c s at);
          modest = λ c s at. h.modest p v.0 c s at;
        };
      }

      -- so a settle with enough rounds ends with nothing left
      pub within-quiet : settling_bound (file_at files) m.journal ≤ rounds → (n : Machine) (s : Settled) → settled m rounds ≡ Ok (n, s) → EndsQuiet n s
      within-quiet paid n s is = settled-quiet config files m w rounds (IsWithin m) (λ p. IsWithin m p × OfAll First p) Good settles-by paid n s is
