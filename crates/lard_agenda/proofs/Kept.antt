-- What is kept at a seat: a timer that runs, of the seat's own place and connection.
use Rattle.std.proofs.Common.{◌≡◌, ◌<◌, ℕ, ◌^◌, Bool, true, false, List, Some, None, refl, sym, ap, subst, ◌∙◌, cond, nat_eq}
use Rattle.std.specs.FinMap.{FinMap, get, get-empty}
use Rattle.std.specs.List.{AllByRecursion}
use Rattle.std.specs.Ordering.{nat_cmp}
use Rattle.lard_base.specs.declared.place.Place.{Place}
use Rattle.lard_base.specs.declared.place.TimerKind.{TimerKind}
use Rattle.lard_journal.specs.declared.rec.Rec.{Rec}
use Rattle.lard_journal.specs.declared.rec.Rec.TheVariants as rec
use Rattle.lard_agenda.specs.declared.agenda.Agenda.{Agenda}
use Rattle.lard_agenda.specs.declared.kinds.Kinds.{Kinds}
use Rattle.lard_agenda.specs.declared.kinds.Running.{Running}
use Rattle.lard_agenda.specs.Agenda.{agenda_of, entry, noted_by, nothing_noted, running_step, seat, timer_set}
use Rattle.lard_agenda.specs.Kinds.{is_none, kinds_of, with_timer}
use Rattle.lard_agenda.specs.Laws.{AgendasKeepNothingIdle, IsSeated, NamesLowSeat, NamesSeat}
use Rattle.lard_agenda.proofs.Folds.{always, side_by_side}
use Rattle.lard_agenda.proofs.Numbers.{found}
use Rattle.lard_agenda.proofs.Timers.{number-is}

entry-is : (q : Place) (d : ℕ) (kinds : Kinds) (r : Running) → entry q d kinds ≡ Some r → (record { place = q; c = d; kinds = kinds } ≡ r) × (is_none kinds ≡ false)
entry-is q d kinds r h = go (is_none kinds) refl h where
  go : (b : Bool) → is_none kinds ≡ b → cond b None (Some (record { place = q; c = d; kinds = kinds })) ≡ Some r → (record { place = q; c = d; kinds = kinds } ≡ r) × (is_none kinds ≡ false)
  go true e is = absurd cc
  go false e is = (cc, e)

-- what holds of the entry that is put in, and of all before, holds of all
module _ (Q : ℕ → Running → Type 0) where
  abbrev EachKept : FinMap nat_cmp Running → Type 0
  EachKept running = (at : ℕ) (r : Running) → get running at ≡ Some r → Q at r

  set-each : (q : Place) (d : ℕ) (k : TimerKind) (on : Bool) (running : FinMap nat_cmp Running)
      → ((kinds : Kinds) (r : Running) → entry q d kinds ≡ Some r → Q (seat q d) r) → EachKept running → EachKept (timer_set running q d k on)
  set-each q d k on running own h at r e = go (nat_eq (seat q d) at) refl (sym (found running (seat q d) at (entry q d kinds)) ∙ e) where
    kinds : Kinds
    kinds = with_timer (kinds_of (get running (seat q d))) k on

    go : (b : Bool) → nat_eq (seat q d) at ≡ b → cond b (entry q d kinds) (get running at) ≡ Some r → Q at r
    go true same is = subst (λ n. Q n r) (number-is (seat q d) at same) (own kinds r is)
    go false other is = h at r is

  none-kept : EachKept nothing_noted.running
  none-kept at r e = let h : None ≡ Some r = sym (get-empty nat_cmp at) ∙ e in absurd cc

-- ---- nothing idle is kept

abbrev IsKept : ℕ → Running → Type 0
IsKept at r = (at ≡ seat r.place r.c) × (is_none r.kinds ≡ false)

own-kept : (q : Place) (d : ℕ) (kinds : Kinds) (r : Running) → entry q d kinds ≡ Some r → IsKept (seat q d) r
own-kept q d kinds r h = let is = entry-is q d kinds r h in
    (ap (λ (x : Running). seat x.place x.c) is.0, ap (λ (x : Running). is_none x.kinds) (sym is.0) ∙ is.1)

kept-step : (a : Agenda) (u : Unit {0}) (r : Rec) → EachKept IsKept a.running → EachKept IsKept (running_step a.running r)
kept-step a u (rec.Armed q d k) h = set-each IsKept q d k true a.running (own-kept q d) h
kept-step a u (rec.Cleared q d k) h = set-each IsKept q d k false a.running (own-kept q d) h
kept-step a u _ h = h

pub nothing_idle : AgendasKeepNothingIdle
unfolding agenda_of
nothing_idle J = always (λ (a : Agenda) (u : Unit {0}). EachKept IsKept a.running) noted_by (λ u r. u) kept-step nothing_noted tt J (none-kept IsKept)

-- ---- and what is kept has a seat of its own

abbrev HasSeat : ℕ → Running → Type 0
HasSeat at r = IsSeated r.place r.c

own-seat : (q : Place) (d : ℕ) → IsSeated q d → (kinds : Kinds) (r : Running) → entry q d kinds ≡ Some r → HasSeat (seat q d) r
own-seat q d g kinds r h = subst (λ (x : Running). IsSeated x.place x.c) (entry-is q d kinds r h).0 g

seat-step : (a : Agenda) (u : Unit {0}) (r : Rec) → NamesSeat r → EachKept HasSeat a.running → EachKept HasSeat (running_step a.running r)
seat-step a u (rec.Armed q d k) g h = set-each HasSeat q d k true a.running (own-seat q d g) h
seat-step a u (rec.Cleared q d k) g h = set-each HasSeat q d k false a.running (own-seat q d g) h
seat-step a u _ g h = h

pub kept_is_seated : (J : List Rec) → AllByRecursion NamesSeat J → (at : ℕ) (r : Running) → get (agenda_of J).running at ≡ Some r → IsSeated r.place r.c
unfolding agenda_of
kept_is_seated J all = side_by_side (λ (a : Agenda) (u : Unit {0}). EachKept HasSeat a.running) NamesSeat noted_by (λ u r. u) seat-step nothing_noted tt J all (none-kept HasSeat)

-- ---- and where all seats that are named are low, those are

abbrev IsLow : ℕ → Running → Type 0
IsLow at r = at < 2 ^ 32

low-step : (a : Agenda) (u : Unit {0}) (r : Rec) → NamesLowSeat r → EachKept IsLow a.running → EachKept IsLow (running_step a.running r)
low-step a u (rec.Armed q d k) g h = set-each IsLow q d k true a.running (λ kinds r is. g) h
low-step a u (rec.Cleared q d k) g h = set-each IsLow q d k false a.running (λ kinds r is. g) h
low-step a u _ g h = h

pub kept_is_low : (J : List Rec) → AllByRecursion NamesLowSeat J → (at : ℕ) (r : Running) → get (agenda_of J).running at ≡ Some r → at < 2 ^ 32
unfolding agenda_of
kept_is_low J all = side_by_side (λ (a : Agenda) (u : Unit {0}). EachKept IsLow a.running) NamesLowSeat noted_by (λ u r. u) low-step nothing_noted tt J all (none-kept IsLow)
