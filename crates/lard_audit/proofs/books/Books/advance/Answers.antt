-- The time moves on.
use Rattle.std.proofs.Common.{◌≤◌, sym, subst}
use Rattle.lard_audit.specs.Books.{AuditBooks}
use Rattle.lard_audit.proofs.Keeping.{advance-sound}
use Rattle.lard_audit.proofs.books.Books.advance.Goals as goal

pub invariant_of-self : goal.invariant_of-self
invariant_of-self c =
    let old : AuditBooks = record { config = c.self.inside.config; time = c.self.inside.time; loads = c.self.inside.loads; sets = c.self.inside.sets; due = c.self.inside.due } in
    (c.self.invariant.0, advance-sound old c.args.time c.self.invariant.1 (subst (λ (b : AuditBooks). b.time.0 ≤ c.args.time.0) (sym c.self.view_is) c.requires))
