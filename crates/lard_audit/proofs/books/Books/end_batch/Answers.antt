-- The shares of a connection end.
use Rattle.std.proofs.Common.{sym, subst}
use Rattle.lard_loads.specs.Tally.{Tally}
use Rattle.lard_audit.specs.Books.{AreSound, AuditBooks}
use Rattle.lard_audit.proofs.Keeping.{ended-sound}
use Rattle.lard_audit.proofs.books.Books.end_batch.Goals as goal

pub invariant_of-self : goal.invariant_of-self
invariant_of-self c =
    let old : AuditBooks = record { config = c.self.inside.config; time = c.self.inside.time; loads = c.self.inside.loads; sets = c.self.inside.sets; due = c.self.inside.due } in
    (c.self.invariant.0, subst (λ (l : Tally). AreSound (record old { loads = l })) (sym c.batch_over.ensures.after) (ended-sound old c.args.c c.self.invariant.1))
