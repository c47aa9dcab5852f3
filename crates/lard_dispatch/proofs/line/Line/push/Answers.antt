-- The new arrival is the last.
use Rattle.std.proofs.Common.{◌≡◌, ℕ, ◌+◌, ◌-◌, ◌∷◌, ◌++◌, [], false, ap, ◌∙◌, sym, subst, List, slice_set, map, arith}
use Rattle.std.proofs.lemmas.List.{map-append}
use Rattle.std.specs.BTreeMap.{insert_entry}
use Rattle.std.specs.List.Sorted.{IsStrictlySortedBy}
use Rattle.std.specs.Ordering.{nat_cmp}
use Rattle.lard_dispatch.specs.declared.line.Waiting.{Waiting}
use Rattle.lard_dispatch.specs.Line.{IsLineKept, who, line_waits}
use Rattle.lard_dispatch.proofs.Kept.{Entry, pushed-kept, last-in}
use Rattle.lard_dispatch.proofs.line.Line.push.Goals as goal

pub invariant_of-self-2 : goal.invariant_of-self-2
invariant_of-self-2 c =
    let w : Waiting = record { c = c.args.c; target = c.args.target } in
    let place : c.args.c - 1 ≡ c.at.result = omega (arith, c.at.ensures.place) in
    let none : line_waits (who c.self.inside.waiting.entries) c.args.c ≡ false = ap (λ (line : List Waiting). line_waits line c.args.c) c.self.view_is ∙ c.requires in
    let kept : IsLineKept (insert_entry nat_cmp c.self.inside.waiting.entries c.self.inside.next w) (slice_set c.self.inside.arrivals.items (c.args.c - 1) c.self.inside.next) (c.self.inside.next + 1) =
    pushed-kept c.self.inside.waiting.entries c.self.inside.arrivals.items c.self.inside.next w c.self.invariant (omega (arith, c.at.ensures.place)) (omega (arith, c.at.ensures.place, c.at.ensures.within)) none
    (subst (IsStrictlySortedBy nat_cmp) (ap (map (λ (e : Entry). e.0)) c.in_ok-insert.ensures.entries) c.insert.ensures.ordered) in
    let at : IsLineKept (insert_entry nat_cmp c.self.inside.waiting.entries c.self.inside.next w) (slice_set c.self.inside.arrivals.items c.at.result c.self.inside.next) (c.self.inside.next + 1) =
    subst (λ (p : ℕ). IsLineKept (insert_entry nat_cmp c.self.inside.waiting.entries c.self.inside.next w) (slice_set c.self.inside.arrivals.items p c.self.inside.next) (c.self.inside.next + 1)) place kept in
    subst (λ (es : List Entry). IsLineKept es (slice_set c.self.inside.arrivals.items c.at.result c.self.inside.next) (c.self.inside.next + 1)) (sym c.in_ok-insert.ensures.entries) at

pub returns-clause-ok : goal.returns-clause-ok
returns-clause-ok c =
    let w : Waiting = record { c = c.args.c; target = c.args.target } in
    ap who (c.in_ok-insert.ensures.entries ∙ last-in c.self.inside.waiting.entries c.self.inside.arrivals.items c.self.inside.next w c.self.invariant.found)
    ∙ map-append (λ (e : Entry). e.1) c.self.inside.waiting.entries ((c.self.inside.next, w) ∷ [])
    ∙ ap (λ (line : List Waiting). line ++ w ∷ []) c.self.view_is
