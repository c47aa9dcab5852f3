-- The connection that is due is assigned.
use Rattle.std.proofs.Common.{◌≡◌, ℕ, List, Option, Some, sym, ap, subst, ◌∙◌}
use Rattle.lard_dispatch.specs.Calls.{joined, reduced}
use Rattle.lard_dispatch.proofs.Places.{place-own}
use Rattle.lard_loads.specs.Tally.{Tally}
use Rattle.lard_policy.specs.declared.first.FirstChoice.{FirstChoice}
use Rattle.lard_sets.specs.Sets.{has_place, removed, touched}
use Rattle.lard_sets.specs.declared.sets.ServerSet.{ServerSet}
use Rattle.lard_audit.specs.Books.{AreSound, AuditBooks}
use Rattle.lard_audit.specs.Sound.{audit_first_at}
use Rattle.lard_audit.proofs.Keeping.{first_books, first-node, first-sound}
use Rattle.lard_audit.proofs.books.Books.assign_first.Goals as goal

pub connect-requires-clause-node : goal.connect-requires-clause-node
connect-requires-clause-node c =
    let old : AuditBooks = record { config = c.self.inside.config; time = c.self.inside.time; loads = c.self.inside.loads; sets = c.self.inside.sets; due = c.self.inside.due } in
    let chosen : audit_first_at old.config old.time old.loads old.sets c.args.path.now ≡ record { node = c.args.n; add = c.args.add; remove = c.args.remove } =
    subst (λ (b : AuditBooks). audit_first_at b.config b.time b.loads b.sets c.args.path.now ≡ record { node = c.args.n; add = c.args.add; remove = c.args.remove }) (sym c.self.view_is) c.requires.choice in
    first-node old c.args.path.now c.args.n c.args.add c.args.remove c.self.invariant.1 chosen

pub join-requires : goal.join-requires
join-requires c =
    ap (λ (s : List (List ℕ × ServerSet)). has_place s c.as_slice-2.result.now) (c.in_ok-touch.ensures.ok ∙ ap (touched c.self.inside.sets) c.as_slice.ensures)
    ∙ ap (has_place (touched c.self.inside.sets c.args.path.now)) c.as_slice-2.ensures ∙ place-own c.self.inside.sets c.args.path.now

pub invariant_of-self-in-Some : goal.invariant_of-self-in-Some
invariant_of-self-in-Some c =
    let old : AuditBooks = record { config = c.self.inside.config; time = c.self.inside.time; loads = c.self.inside.loads; sets = c.self.inside.sets; due = c.self.inside.due } in
    let chosen : audit_first_at old.config old.time old.loads old.sets c.args.path.now ≡ record { node = c.args.n; add = c.args.add; remove = c.args.remove } =
    subst (λ (b : AuditBooks). audit_first_at b.config b.time b.loads b.sets c.args.path.now ≡ record { node = c.args.n; add = c.args.add; remove = c.args.remove }) (sym c.self.view_is) c.requires.choice in
    let due : c.self.inside.due ≡ Some c.args.c = subst (λ (b : AuditBooks). b.due ≡ Some c.args.c) (sym c.self.view_is) c.requires.due in
    let choice : FirstChoice = record { node = c.args.n; add = c.args.add; remove = c.args.remove } in
    let touch : c.touch.new.self ≡ touched c.self.inside.sets c.args.path.now = c.in_ok-touch.ensures.ok ∙ ap (touched c.self.inside.sets) c.as_slice.ensures in
    let join : c.join.new.sets ≡ joined (touched c.self.inside.sets c.args.path.now) c.args.path.now c.args.add c.self.inside.time =
    c.join.ensures ∙ ap (λ (s : List (List ℕ × ServerSet)). joined s c.as_slice-2.result.now c.args.add c.self.inside.time) touch
    ∙ ap (λ (p : List ℕ). joined (touched c.self.inside.sets c.args.path.now) p c.args.add c.self.inside.time) c.as_slice-2.ensures in
    let sets : c.remove.new.self ≡ reduced (joined (touched c.self.inside.sets c.args.path.now) c.args.path.now c.args.add c.self.inside.time) c.args.path.now c.args.remove c.self.inside.time =
    c.remove.ensures ∙ ap (λ (s : List (List ℕ × ServerSet)). removed s c.as_slice-in-Some.result.now c.in-Some.m c.self.inside.time) join
    ∙ ap (λ (p : List ℕ). removed (joined (touched c.self.inside.sets c.args.path.now) c.args.path.now c.args.add c.self.inside.time) p c.in-Some.m c.self.inside.time) c.as_slice-in-Some.ensures
    ∙ ap (λ (o : Option ℕ). reduced (joined (touched c.self.inside.sets c.args.path.now) c.args.path.now c.args.add c.self.inside.time) c.args.path.now o c.self.inside.time) (sym c.in-Some.is) in
    let all : AreSound (first_books old c.args.c c.args.path.now choice) = first-sound old c.args.c c.args.path.now choice c.self.invariant.1 due chosen in (
      c.self.invariant.0,
      subst (λ (l : Tally). AreSound (record (first_books old c.args.c c.args.path.now choice) { loads = l; sets = c.remove.new.self })) (sym c.connect.ensures)
          (subst (λ (s : List (List ℕ × ServerSet)). AreSound (record (first_books old c.args.c c.args.path.now choice) { sets = s })) (sym sets) all),
    )

pub invariant_of-self-in_default : goal.invariant_of-self-in_default
invariant_of-self-in_default c =
    let old : AuditBooks = record { config = c.self.inside.config; time = c.self.inside.time; loads = c.self.inside.loads; sets = c.self.inside.sets; due = c.self.inside.due } in
    let chosen : audit_first_at old.config old.time old.loads old.sets c.args.path.now ≡ record { node = c.args.n; add = c.args.add; remove = c.args.remove } =
    subst (λ (b : AuditBooks). audit_first_at b.config b.time b.loads b.sets c.args.path.now ≡ record { node = c.args.n; add = c.args.add; remove = c.args.remove }) (sym c.self.view_is) c.requires.choice in
    let due : c.self.inside.due ≡ Some c.args.c = subst (λ (b : AuditBooks). b.due ≡ Some c.args.c) (sym c.self.view_is) c.requires.due in
    let choice : FirstChoice = record { node = c.args.n; add = c.args.add; remove = c.args.remove } in
    let touch : c.touch.new.self ≡ touched c.self.inside.sets c.args.path.now = c.in_ok-touch.ensures.ok ∙ ap (touched c.self.inside.sets) c.as_slice.ensures in
    let join : c.join.new.sets ≡ joined (touched c.self.inside.sets c.args.path.now) c.args.path.now c.args.add c.self.inside.time =
    c.join.ensures ∙ ap (λ (s : List (List ℕ × ServerSet)). joined s c.as_slice-2.result.now c.args.add c.self.inside.time) touch
    ∙ ap (λ (p : List ℕ). joined (touched c.self.inside.sets c.args.path.now) p c.args.add c.self.inside.time) c.as_slice-2.ensures in
    let sets : c.join.new.sets ≡ reduced (joined (touched c.self.inside.sets c.args.path.now) c.args.path.now c.args.add c.self.inside.time) c.args.path.now c.args.remove c.self.inside.time =
    join ∙ ap (λ (o : Option ℕ). reduced (joined (touched c.self.inside.sets c.args.path.now) c.args.path.now c.args.add c.self.inside.time) c.args.path.now o c.self.inside.time) (sym c.in_default.is) in
    let all : AreSound (first_books old c.args.c c.args.path.now choice) = first-sound old c.args.c c.args.path.now choice c.self.invariant.1 due chosen in (
      c.self.invariant.0,
      subst (λ (l : Tally). AreSound (record (first_books old c.args.c c.args.path.now choice) { loads = l; sets = c.join.new.sets })) (sym c.connect.ensures)
          (subst (λ (s : List (List ℕ × ServerSet)). AreSound (record (first_books old c.args.c c.args.path.now choice) { sets = s })) (sym sets) all),
    )
