use Rattle.std.proofs.Common.{◌≡◌, ℕ, Bool, true, false, ◌&&◌, not, List, [], ◌∷◌, ◌++◌, refl, sym, ap, subst, ◌∙◌}
use Rattle.std.specs.List.{filter, list_all}
use Rattle.lard_base.specs.declared.event.Event.TheVariants as event
use Rattle.lard_law_view.specs.Prelude.{Front, Rec, is_change, is_change_of}
use Rattle.lard_base.specs.declared.place.TimerKind.TheVariants.{Tcp}
use Rattle.lard_journal.specs.declared.rec.Rec.TheVariants as rec
use Rattle.lard_refusals.specs.Refusals.{took}
use Rattle.lard_refusals.proofs.clients.timers_refuses.Goals as goal

abbrev begin : ℕ → Rec
begin i = rec.Event i (event.Timer Front 1)

-- The event of a step is no change of a timer, so that it stands before the changes; and the first change stands not before them.
changes-are : (i : ℕ) (x : Rec) (rest before changes : List Rec) → is_change x ≡ true → begin i ∷ x ∷ rest ≡ before ++ changes
    → list_all (λ r. not (is_change r)) before ≡ true → list_all is_change changes ≡ true → changes ≡ x ∷ rest
changes-are i x rest [] changes change cut none all =
    let e : false ≡ true = ap (list_all is_change) cut ∙ all in
    absurd cc
changes-are i x rest (b ∷ []) changes change cut none all = cc
changes-are i x rest (b ∷ d ∷ more) changes change cut none all =
    let second : d ≡ x = cc in
    let first : b ≡ begin i = cc in
    let tests : (not (is_change (begin i)) && (not (is_change x) && list_all (λ r. not (is_change r)) more)) ≡ true
    = subst (λ (r : Rec). (not (is_change r) && (not (is_change x) && list_all (λ r. not (is_change r)) more)) ≡ true) first
    (subst (λ (r : Rec). (not (is_change b) && (not (is_change r) && list_all (λ r. not (is_change r)) more)) ≡ true) second none) in
    let e : false ≡ true = ap (λ (t : Bool). not t && list_all (λ r. not (is_change r)) more) (sym change) ∙ tests in
    absurd cc

pub returns-clause-cleared_and_never_armed : goal.returns-clause-cleared_and_never_armed
returns-clause-cleared_and_never_armed c h =
    let t = h.0 in
    let only = changes-are 1 (rec.Cleared Front 1 Tcp) [] t.before t.changes refl t.is t.none t.all in
    let e : rec.Cleared Front 1 Tcp ∷ [] ≡ [] = ap (filter (is_change_of Front 1 Tcp)) (sym only) ∙ t.exactly Front 1 Tcp in
    cc

pub returns-clause-armed_twice : goal.returns-clause-armed_twice
returns-clause-armed_twice c h =
    let t = h.1.0 in
    let only = changes-are 2 (rec.Armed Front 1 Tcp) [] t.before t.changes refl t.is t.none t.all in
    let e : rec.Armed Front 1 Tcp ∷ [] ≡ [] = ap (filter (is_change_of Front 1 Tcp)) (sym only) ∙ t.exactly Front 1 Tcp in
    cc

pub returns-clause-armed_too_early : goal.returns-clause-armed_too_early
returns-clause-armed_too_early c h =
    let t = h.0 in
    let all = changes-are 1 (rec.Armed Front 1 Tcp) (took Front 1 1 ∷ []) t.before t.changes refl t.is t.none t.all in
    let e : false ≡ true = ap (list_all is_change) (sym all) ∙ t.all in
    cc
