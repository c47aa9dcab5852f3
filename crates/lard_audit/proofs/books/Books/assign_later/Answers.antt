-- A later request is assigned.
use Rattle.std.proofs.Common.{◌≡◌, ℕ, List, true, sym, ap, subst, ◌∙◌}
use Rattle.lard_dispatch.specs.Calls.{joined}
use Rattle.lard_dispatch.proofs.Places.{place-own}
use Rattle.lard_loads.specs.Tally.{Tally, home}
use Rattle.lard_sets.specs.Sets.{has_place, touched}
use Rattle.lard_sets.specs.declared.sets.ServerSet.{ServerSet}
use Rattle.lard_audit.specs.Books.{AreSound, AuditBooks}
use Rattle.lard_audit.specs.Sound.{keeps_later}
use Rattle.lard_audit.proofs.Keeping.{IsLater, is-later, later_books, later-node, later-sound}
use Rattle.lard_audit.proofs.books.Books.assign_later.Goals as goal

pub share-requires-clause-node : goal.share-requires-clause-node
share-requires-clause-node c =
    let old : AuditBooks = record { config = c.self.inside.config; time = c.self.inside.time; loads = c.self.inside.loads; sets = c.self.inside.sets; due = c.self.inside.due } in
    let later : IsLater old c.args.c c.args.path.now c.args.n c.args.add c.args.size c.args.queue =
    is-later old c.args.c c.args.path.now c.args.n c.args.add c.args.size c.args.queue
    (subst (λ (b : AuditBooks). keeps_later b.config b.loads b.sets (home b.loads c.args.c) c.args.c c.args.path.now c.args.n c.args.add c.args.size c.args.queue ≡ true) (sym c.self.view_is) c.requires) in
    later-node old c.args.c c.args.path.now c.args.n c.args.add c.args.size c.args.queue c.self.invariant.1 later

pub join-requires : goal.join-requires
join-requires c =
    ap (λ (s : List (List ℕ × ServerSet)). has_place s c.as_slice-2.result.now) (c.in_ok-touch.ensures.ok ∙ ap (touched c.self.inside.sets) c.as_slice.ensures)
    ∙ ap (has_place (touched c.self.inside.sets c.args.path.now)) c.as_slice-2.ensures ∙ place-own c.self.inside.sets c.args.path.now

pub invariant_of-self-2 : goal.invariant_of-self-2
invariant_of-self-2 c =
    let old : AuditBooks = record { config = c.self.inside.config; time = c.self.inside.time; loads = c.self.inside.loads; sets = c.self.inside.sets; due = c.self.inside.due } in
    let later : IsLater old c.args.c c.args.path.now c.args.n c.args.add c.args.size c.args.queue =
    is-later old c.args.c c.args.path.now c.args.n c.args.add c.args.size c.args.queue
    (subst (λ (b : AuditBooks). keeps_later b.config b.loads b.sets (home b.loads c.args.c) c.args.c c.args.path.now c.args.n c.args.add c.args.size c.args.queue ≡ true) (sym c.self.view_is) c.requires) in
    let touch : c.touch.new.self ≡ touched c.self.inside.sets c.args.path.now = c.in_ok-touch.ensures.ok ∙ ap (touched c.self.inside.sets) c.as_slice.ensures in
    let join : c.join.new.sets ≡ joined (touched c.self.inside.sets c.args.path.now) c.args.path.now c.args.add c.self.inside.time =
    c.join.ensures ∙ ap (λ (s : List (List ℕ × ServerSet)). joined s c.as_slice-2.result.now c.args.add c.self.inside.time) touch
    ∙ ap (λ (p : List ℕ). joined (touched c.self.inside.sets c.args.path.now) p c.args.add c.self.inside.time) c.as_slice-2.ensures in
    let all : AreSound (later_books old c.args.c c.args.path.now c.args.n c.args.add c.args.size) =
    later-sound old c.args.c c.args.path.now c.args.n c.args.add c.args.size c.args.queue c.self.invariant.1 later in (
      c.self.invariant.0,
      subst (λ (l : Tally). AreSound (record (later_books old c.args.c c.args.path.now c.args.n c.args.add c.args.size) { loads = l; sets = c.join.new.sets })) (sym c.share.ensures)
          (subst (λ (s : List (List ℕ × ServerSet)). AreSound (record (later_books old c.args.c c.args.path.now c.args.n c.args.add c.args.size) { sets = s })) (sym join) all),
    )
