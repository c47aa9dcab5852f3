-- A connection waits, or is admitted.
use Rattle.std.proofs.Common.{◌≡◌, ◌≢◌, ℕ, ◌≤◌, ◌++◌, ◌∷◌, [], false, List, None, sym, subst, ◌∙◌, ap, arith}
use Rattle.std.proofs.lemmas.Bool.{cond-false, ne_eqb}
use Rattle.std.specs.FinMap as map
use Rattle.lard_base.specs.Config.{room_of}
use Rattle.lard_loads.specs.Tally.{admitted, home}
use Rattle.lard_sets.specs.declared.sets.ServerSet.{ServerSet}
use Rattle.lard_sets.specs.Sets.{has_place, set_of, touched}
use Rattle.lard_dispatch.specs.declared.dispatch.First.TheVariants.{Go, Waits}
use Rattle.lard_dispatch.specs.declared.line.Waiting.{Waiting}
use Rattle.lard_dispatch.specs.Books.{Books, Dispatcher}
use Rattle.lard_dispatch.specs.Calls.{admitted_with, after_first, choice_at, first_answer, is_full}
use Rattle.lard_dispatch.specs.Line.{line_waits}
use Rattle.lard_dispatch.specs.Sound.{AreBefore, IsDispatcherSound}
use Rattle.lard_dispatch.proofs.Places.{place-own, placed, placed-books}
use Rattle.lard_dispatch.proofs.Servers.{Sets, set_of-touched}
use Rattle.lard_dispatch.proofs.Soundness.{admission, before-first, not-in, room-left, waiting-kept}
use Rattle.lard_dispatch.proofs.dispatch.Dispatch.first.Goals as goal

pub invariant_of-self-then-admitted-self : goal.invariant_of-self-then-admitted-self
invariant_of-self-then-admitted-self c =
    let old : Dispatcher = record { config = c.self.inside.config; books = record { loads = c.self.inside.loads; sets = c.self.inside.sets; line = c.self.inside.line } } in
    let full : admitted c.self.inside.loads ≡ room_of c.self.inside.config = omega (arith, c.admitted.ensures.value, c.if-admitted-self.true, c.self.invariant.0) in
    let free : map.get c.self.inside.loads.standings c.args.c ≡ None = not-in c.self.inside.loads c.args.c (ap (λ (d : Dispatcher). home d.books.loads c.args.c) c.self.view_is ∙ c.requires.free) in
    let away : line_waits c.self.inside.line c.args.c ≡ false = ap (λ (d : Dispatcher). line_waits d.books.line c.args.c) c.self.view_is ∙ c.requires.away in (
      c.self.invariant.0,
      subst (λ (line : List Waiting). IsDispatcherSound (record old { books = record old.books { line = line } })) (sym c.in_ok-push.ensures.ok)
          (waiting-kept old c.args.c c.in_ok-target.target c.self.invariant.1 full free away),
    )

pub admit-choice-requires-clause-place : goal.admit-choice-requires-clause-place
admit-choice-requires-clause-place c =
    ap (has_place c.touch.new.self) c.as_slice-2.ensures
    ∙ ap (λ (s : Sets). has_place s c.args.target.now) (c.in_ok-touch.ensures.ok ∙ ap (touched c.self.inside.sets) c.as_slice.ensures)
    ∙ place-own c.self.inside.sets c.args.target.now

pub admit-choice-requires-clause-clock : goal.admit-choice-requires-clause-clock
admit-choice-requires-clause-clock c =
    let same : set_of c.touch.new.self c.as_slice-2.result.now ≡ set_of c.self.inside.sets c.args.target.now =
    ap (set_of c.touch.new.self) c.as_slice-2.ensures
    ∙ ap (λ (s : Sets). set_of s c.args.target.now) (c.in_ok-touch.ensures.ok ∙ ap (touched c.self.inside.sets) c.as_slice.ensures)
    ∙ set_of-touched c.self.inside.sets c.args.target.now c.args.target.now in
    let before : AreBefore c.args.now.0 c.self.inside.sets = subst (λ (d : Dispatcher). AreBefore c.args.now.0 d.books.sets) (sym c.self.view_is) c.requires.clock in
    subst (λ (s : ServerSet). s.modified.0 ≤ c.args.now.0) (sym same) (before c.args.target.now)

-- the books before
abbrev books : goal.After-admit-choice → Books
books c = record { loads = c.self.inside.loads; sets = c.self.inside.sets; line = c.self.inside.line }

less : (c : goal.After-admit-choice) → admitted c.self.inside.loads ≢ room_of c.self.inside.config
less c = λ e. c.if-admitted-self.false (omega (arith, e, c.admitted.ensures.value, c.self.invariant.0))

kept : (c : goal.After-admit-choice) → c.touch.new.self ≡ touched c.self.inside.sets c.as_slice-2.result.now
kept c = c.in_ok-touch.ensures.ok ∙ ap (touched c.self.inside.sets) (c.as_slice.ensures ∙ sym c.as_slice-2.ensures)

now_books : (c : goal.After-admit-choice) → record { loads = c.admit-choice.new.loads; sets = c.admit-choice.new.sets; line = c.self.inside.line } ≡ admitted_with c.self.inside.config (books c) c.args.c c.as_slice-2.result.now c.args.now
now_books c =
    placed-books c.self.inside.config c.self.inside.loads c.admit-choice.new.loads c.self.inside.sets c.touch.new.self c.admit-choice.new.sets c.self.inside.line c.args.c c.as_slice-2.result.now c.args.now c.admit-choice.result
    (kept c) c.admit-choice.ensures.choice c.admit-choice.ensures.loads c.admit-choice.ensures.sets

not_full : (c : goal.After-admit-choice) → is_full (record { config = c.self.inside.config; books = books c }) ≡ false
not_full c = ne_eqb (admitted c.self.inside.loads) (room_of c.self.inside.config) (less c)

pub invariant_of-self-2 : goal.invariant_of-self-2
invariant_of-self-2 c =
    let old : Dispatcher = record { config = c.self.inside.config; books = books c } in
    let free : map.get c.self.inside.loads.standings c.args.c ≡ None = not-in c.self.inside.loads c.args.c (ap (λ (d : Dispatcher). home d.books.loads c.args.c) c.self.view_is ∙ c.requires.free) in
    let away : line_waits c.self.inside.line c.args.c ≡ false = ap (λ (d : Dispatcher). line_waits d.books.line c.args.c) c.self.view_is ∙ c.requires.away in (
      c.self.invariant.0,
      subst (λ (b : Books). IsDispatcherSound (record { config = c.self.inside.config; books = b })) (sym (now_books c))
          (admission c.self.inside.config (books c) c.args.c c.as_slice-2.result.now c.args.now (room-left old c.self.invariant.1 (less c)) free away),
    )

pub returns-clause-answer : goal.returns-clause-answer
returns-clause-answer c =
    let old : Dispatcher = record { config = c.self.inside.config; books = books c } in
    ap Go (placed c.self.inside.config c.self.inside.loads c.self.inside.sets c.touch.new.self c.self.inside.line c.args.c c.as_slice-2.result.now c.args.now c.admit-choice.result (kept c) c.admit-choice.ensures.choice
    ∙ ap (λ (t : List ℕ). choice_at c.self.inside.config (books c) t c.args.now) c.as_slice-2.ensures)
    ∙ sym (cond-false (is_full old) Waits (Go (choice_at c.self.inside.config (books c) c.args.target.now c.args.now)) (not_full c))
    ∙ ap (λ (d : Dispatcher). first_answer d c.args.target.now c.args.now) c.self.view_is

after : (c : goal.After-admit-choice) → record { config = c.self.inside.config; books = record { loads = c.admit-choice.new.loads; sets = c.admit-choice.new.sets; line = c.self.inside.line } } ≡ after_first c.args.self.now c.args.c c.args.target.now c.args.now
after c =
    let old : Dispatcher = record { config = c.self.inside.config; books = books c } in
    ap (λ (b : Books). record { config = c.self.inside.config; books = b }) (now_books c ∙ ap (λ (t : List ℕ). admitted_with c.self.inside.config (books c) c.args.c t c.args.now) c.as_slice-2.ensures)
    ∙ sym (cond-false (is_full old) (record old { books = record old.books { line = old.books.line ++ record { c = c.args.c; target = c.args.target.now } ∷ [] } })
    (record old { books = admitted_with c.self.inside.config (books c) c.args.c c.args.target.now c.args.now }) (not_full c))
    ∙ ap (λ (d : Dispatcher). after_first d c.args.c c.args.target.now c.args.now) c.self.view_is

pub returns-clause-ok : goal.returns-clause-ok
returns-clause-ok c = after c

pub returns-clause-clock : goal.returns-clause-clock
returns-clause-clock c = subst (λ (d : Dispatcher). AreBefore c.args.now.0 d.books.sets) (sym (after c)) (before-first c.args.self.now c.args.c c.args.target.now c.args.now c.requires.clock)

pub returns-then-admitted-self-clause-clock : goal.returns-then-admitted-self-clause-clock
returns-then-admitted-self-clause-clock c = subst (λ (d : Dispatcher). AreBefore c.args.now.0 d.books.sets) (sym c.self.view_is) c.requires.clock
