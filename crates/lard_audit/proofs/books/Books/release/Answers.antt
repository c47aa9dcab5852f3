-- A connection is released.
use Rattle.std.proofs.Common.{◌≡◌, None, true, sym, subst}
use Rattle.lard_loads.specs.Tally.{Tally}
use Rattle.lard_audit.specs.Books.{AreSound, AuditBooks, is_inside}
use Rattle.lard_audit.proofs.Keeping.{release-sound}
use Rattle.lard_audit.proofs.books.Books.release.Goals as goal

pub invariant_of-self : goal.invariant_of-self
invariant_of-self c =
    let old : AuditBooks = record { config = c.self.inside.config; time = c.self.inside.time; loads = c.self.inside.loads; sets = c.self.inside.sets; due = c.self.inside.due } in
    let none : c.self.inside.due ≡ None = subst (λ (b : AuditBooks). b.due ≡ None) (sym c.self.view_is) c.requires.due in
    let inside : is_inside old c.args.c ≡ true = subst (λ (b : AuditBooks). is_inside b c.args.c ≡ true) (sym c.self.view_is) c.requires.inside in
    (c.self.invariant.0, subst (λ (l : Tally). AreSound (record old { loads = l })) (sym c.release.ensures) (release-sound old c.args.c c.self.invariant.1 none inside))
