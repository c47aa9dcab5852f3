-- A connection is released, and the first of the line admitted.
use Rattle.std.proofs.Common.{◌≡◌, ℕ, ◌<◌, ◌≤◌, ◌∷◌, [], true, List, length, Some, is_some, sym, subst, ◌∙◌, ap, arith}
use Rattle.std.specs.FinMap as map
use Rattle.std.specs.Option.{option_copied}
use Rattle.lard_base.specs.Config.{room_of}
use Rattle.lard_loads.specs.Tally.{Tally, admitted, home, released}
use Rattle.lard_sets.specs.declared.sets.ServerSet.{ServerSet}
use Rattle.lard_sets.specs.Sets.{has_place, set_of, touched}
use Rattle.lard_policy.specs.declared.first.FirstChoice.{FirstChoice}
use Rattle.lard_dispatch.specs.declared.line.Waiting.{Waiting}
use Rattle.lard_dispatch.specs.Books.{Books, Dispatcher}
use Rattle.lard_dispatch.specs.Calls.{admitted_with, after_ended, choice_at, ended_answer, next_admitted, next_admission, released_from}
use Rattle.lard_dispatch.specs.Sound.{AreApart, AreBefore, IsDispatcherSound}
use Rattle.lard_dispatch.proofs.Places.{place-own, placed, placed-books}
use Rattle.lard_dispatch.proofs.Servers.{Sets, set_of-touched}
use Rattle.lard_dispatch.proofs.Soundness.{admission, before-ended, empty-line, free-first, is-in, released-room, rested, same-first}
use Rattle.lard_dispatch.proofs.dispatch.Dispatch.ended.Goals as goal

-- ---- nobody waits

pub invariant_of-self : goal.invariant_of-self
invariant_of-self c =
    let old : Dispatcher = record { config = c.self.inside.config; books = record { loads = c.self.inside.loads; sets = c.self.inside.sets; line = c.self.inside.line } } in
    let in_ : is_some (map.get c.self.inside.loads.standings c.args.c) ≡ true = is-in c.self.inside.loads c.args.c (ap (λ (d : Dispatcher). is_some (home d.books.loads c.args.c)) c.self.view_is ∙ c.requires.admitted) in
    let none : c.self.inside.line ≡ [] = empty-line c.self.inside.line (sym (ap option_copied c.in_default.is) ∙ c.first.ensures) in (
      c.self.invariant.0,
      subst (λ (t : Tally). IsDispatcherSound (record { config = c.self.inside.config; books = record { loads = t; sets = c.self.inside.sets; line = c.self.inside.line } })) (sym c.release.ensures)
          (rested c.self.inside.config (released_from old.books c.args.c) (released-room old c.args.c c.self.inside.line c.self.invariant.1 in_ c.self.invariant.1.apart c.self.invariant.1.full) none),
    )

-- ---- somebody waits

-- the target of the first is the one that a place was kept for
target_is : (c : goal.After-as_slice-2) → c.as_slice.result.now ≡ c.as_slice-2.result.now
target_is c =
    c.as_slice.ensures ∙ ap (λ (w : Waiting). w.target) (same-first c.self.inside.line c.in-Some.next.now c.in-Some-pop.next c.pop.new.self c.in-Some.ensures c.in-Some-pop.ensures.some)
    ∙ sym c.as_slice-2.ensures

kept : (c : goal.After-as_slice-2) → c.touch.new.self ≡ touched c.self.inside.sets c.as_slice-2.result.now
kept c = c.in_ok-touch.ensures.ok ∙ ap (touched c.self.inside.sets) (target_is c)

apart : (c : goal.After-as_slice-2) → AreApart c.self.inside.loads.standings (c.in-Some-pop.next ∷ c.pop.new.self)
apart c = subst (AreApart c.self.inside.loads.standings) c.in-Some-pop.ensures.some c.self.invariant.1.apart

in_before : (c : goal.After-as_slice-2) → is_some (map.get c.self.inside.loads.standings c.args.c) ≡ true
in_before c = is-in c.self.inside.loads c.args.c (ap (λ (d : Dispatcher). is_some (home d.books.loads c.args.c)) c.self.view_is ∙ c.requires.admitted)

pub admit-choice-requires-clause-free : goal.admit-choice-requires-clause-free
admit-choice-requires-clause-free c =
    ap (λ (t : Tally). map.get t.standings c.in-Some-pop.next.c) c.release-2.ensures
    ∙ free-first c.self.inside.loads.standings c.args.c c.in-Some-pop.next c.pop.new.self (in_before c) (apart c)

pub admit-choice-requires-clause-place : goal.admit-choice-requires-clause-place
admit-choice-requires-clause-place c =
    ap (λ (s : Sets). has_place s c.as_slice-2.result.now) (kept c) ∙ place-own c.self.inside.sets c.as_slice-2.result.now

pub admit-choice-requires-clause-clock : goal.admit-choice-requires-clause-clock
admit-choice-requires-clause-clock c =
    let same : set_of c.touch.new.self c.as_slice-2.result.now ≡ set_of c.self.inside.sets c.as_slice-2.result.now =
    ap (λ (s : Sets). set_of s c.as_slice-2.result.now) (kept c) ∙ set_of-touched c.self.inside.sets c.as_slice-2.result.now c.as_slice-2.result.now in
    let before : AreBefore c.args.now.0 c.self.inside.sets = subst (λ (d : Dispatcher). AreBefore c.args.now.0 d.books.sets) (sym c.self.view_is) c.requires.clock in
    subst (λ (s : ServerSet). s.modified.0 ≤ c.args.now.0) (sym same) (before c.as_slice-2.result.now)

-- what one is admitted to
abbrev books_with : (c : goal.After-drop-next) → Tally → Books
books_with c t = record { loads = t; sets = c.self.inside.sets; line = c.pop.new.self }

same_target : (c : goal.After-drop-next) → c.as_slice.result.now ≡ c.as_slice-2.result.now
same_target c =
    c.as_slice.ensures ∙ ap (λ (w : Waiting). w.target) (same-first c.self.inside.line c.in-Some.next.now c.in-Some-pop.next c.pop.new.self c.in-Some.ensures c.in-Some-pop.ensures.some)
    ∙ sym c.as_slice-2.ensures

now_books : (c : goal.After-drop-next) → record { loads = c.admit-choice.new.loads; sets = c.admit-choice.new.sets; line = c.pop.new.self }
    ≡ admitted_with c.self.inside.config (books_with c (released c.self.inside.loads c.args.c)) c.in-Some-pop.next.c c.as_slice-2.result.now c.args.now
now_books c =
    placed-books c.self.inside.config c.release-2.new.self c.admit-choice.new.loads c.self.inside.sets c.touch.new.self c.admit-choice.new.sets c.pop.new.self c.in-Some-pop.next.c c.as_slice-2.result.now c.args.now c.admit-choice.result
    (c.in_ok-touch.ensures.ok ∙ ap (touched c.self.inside.sets) (same_target c)) c.admit-choice.ensures.choice c.admit-choice.ensures.loads c.admit-choice.ensures.sets
    ∙ ap (λ (t : Tally). admitted_with c.self.inside.config (books_with c t) c.in-Some-pop.next.c c.as_slice-2.result.now c.args.now) c.release-2.ensures

pub invariant_of-self-2 : goal.invariant_of-self-2
invariant_of-self-2 c =
    let old : Dispatcher = record { config = c.self.inside.config; books = record { loads = c.self.inside.loads; sets = c.self.inside.sets; line = c.self.inside.line } } in
    let in_ : is_some (map.get c.self.inside.loads.standings c.args.c) ≡ true = is-in c.self.inside.loads c.args.c (ap (λ (d : Dispatcher). is_some (home d.books.loads c.args.c)) c.self.view_is ∙ c.requires.admitted) in
    let apart : AreApart c.self.inside.loads.standings (c.in-Some-pop.next ∷ c.pop.new.self) = subst (AreApart c.self.inside.loads.standings) c.in-Some-pop.ensures.some c.self.invariant.1.apart in
    let full : admitted c.self.inside.loads ≡ room_of c.self.inside.config = c.self.invariant.1.full (subst (λ (ws : List Waiting). 0 < length ws) (sym c.in-Some-pop.ensures.some) (omega arith)) in (
      c.self.invariant.0,
      subst (λ (b : Books). IsDispatcherSound (record { config = c.self.inside.config; books = b })) (sym (now_books c))
          (admission c.self.inside.config (books_with c (released c.self.inside.loads c.args.c)) c.in-Some-pop.next.c c.as_slice-2.result.now c.args.now
          (released-room old c.args.c c.pop.new.self c.self.invariant.1 in_ apart.2 (λ _. full)) (free-first c.self.inside.loads.standings c.args.c c.in-Some-pop.next c.pop.new.self in_ apart) apart.1),
    )

pub returns-clause-answer : goal.returns-clause-answer
returns-clause-answer c =
    let old : Dispatcher = record { config = c.self.inside.config; books = record { loads = c.self.inside.loads; sets = c.self.inside.sets; line = c.self.inside.line } } in
    let choice : c.admit-choice.result ≡ choice_at c.self.inside.config (released_from old.books c.args.c) c.in-Some-pop.next.target c.args.now =
    placed c.self.inside.config c.release-2.new.self c.self.inside.sets c.touch.new.self c.self.inside.line c.in-Some-pop.next.c c.as_slice-2.result.now c.args.now c.admit-choice.result
    (c.in_ok-touch.ensures.ok ∙ ap (touched c.self.inside.sets) (same_target c)) c.admit-choice.ensures.choice
    ∙ ap (λ (t : Tally). choice_at c.self.inside.config (record { loads = t; sets = c.self.inside.sets; line = c.self.inside.line }) c.as_slice-2.result.now c.args.now) c.release-2.ensures
    ∙ ap (λ (p : List ℕ). choice_at c.self.inside.config (released_from old.books c.args.c) p c.args.now) c.as_slice-2.ensures in
    ap (λ (x : FirstChoice). Some (c.in-Some-pop.next.c, x)) choice
    ∙ sym (ap (next_admission c.self.inside.config c.args.now (released_from old.books c.args.c)) c.in-Some-pop.ensures.some)
    ∙ ap (λ (d : Dispatcher). ended_answer d c.args.c c.args.now) c.self.view_is

after : (c : goal.After-drop-next) → record { config = c.self.inside.config; books = record { loads = c.admit-choice.new.loads; sets = c.admit-choice.new.sets; line = c.pop.new.self } } ≡ after_ended c.args.self.now c.args.c c.args.now
after c =
    let old : Dispatcher = record { config = c.self.inside.config; books = record { loads = c.self.inside.loads; sets = c.self.inside.sets; line = c.self.inside.line } } in
    ap (λ (b : Books). record { config = c.self.inside.config; books = b })
    (now_books c
    ∙ ap (λ (p : List ℕ). admitted_with c.self.inside.config (books_with c (released c.self.inside.loads c.args.c)) c.in-Some-pop.next.c p c.args.now) c.as_slice-2.ensures
    ∙ sym (ap (next_admitted c.self.inside.config c.args.now (released_from old.books c.args.c)) c.in-Some-pop.ensures.some))
    ∙ ap (λ (d : Dispatcher). after_ended d c.args.c c.args.now) c.self.view_is

pub returns-clause-ok : goal.returns-clause-ok
returns-clause-ok c = after c

pub returns-clause-clock : goal.returns-clause-clock
returns-clause-clock c = subst (λ (d : Dispatcher). AreBefore c.args.now.0 d.books.sets) (sym (after c)) (before-ended c.args.self.now c.args.c c.args.now c.requires.clock)

pub returns-in_default-clause-clock : goal.returns-in_default-clause-clock
returns-in_default-clause-clock c = subst (λ (d : Dispatcher). AreBefore c.args.now.0 d.books.sets) (sym c.self.view_is) c.requires.clock
