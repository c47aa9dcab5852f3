-- What each change asks for follows from the rules that are kept.
use Rattle.std.proofs.Common.{refl, sym, ap, ◌∙◌}
use Rattle.std.proofs.lemmas.Bool.{and_parts}
use Rattle.lard_journal.specs.declared.rec.Rec.TheVariants as rec
use Rattle.lard_loads.specs.Tally.{has_other_open, home, is_open}
use Rattle.lard_audit.specs.Books.{is_inside}
use Rattle.lard_audit.specs.Sound.{audit_first_at, keeps_later}
use Rattle.lard_audit.specs.State.{broken_at}
use Rattle.lard_audit.proofs.Auditing.{Keeps, first-changed, first-due, keeps-all, none-due, room-kept}
use Rattle.lard_audit.proofs.Keeping.{at-most, same-first}
use Rattle.lard_audit.proofs.audit.Audit.change_books.Goals as goal

pub admit-requires-clause-due : goal.admit-requires-clause-due
admit-requires-clause-due c = none-due c.args.self.now.books (rec.Admitted c.in-Admitted.c) (λ d. refl) (keeps-all c.args.self.now (rec.Admitted c.in-Admitted.c) (ap (broken_at c.args.self.now) (sym c.in-Admitted.is) ∙ c.requires)).roomy

pub admit-requires-clause-keeps : goal.admit-requires-clause-keeps
admit-requires-clause-keeps c =
    let k : Keeps c.args.self.now (rec.Admitted c.in-Admitted.c) = keeps-all c.args.self.now (rec.Admitted c.in-Admitted.c) (ap (broken_at c.args.self.now) (sym c.in-Admitted.is) ∙ c.requires) in
    room-kept c.args.self.now.books (rec.Admitted c.in-Admitted.c) (none-due c.args.self.now.books (rec.Admitted c.in-Admitted.c) (λ d. refl) k.roomy) k.roomy

pub release-requires-clause-due : goal.release-requires-clause-due
release-requires-clause-due c = none-due c.args.self.now.books (rec.Released c.in-Released.c) (λ d. refl) (keeps-all c.args.self.now (rec.Released c.in-Released.c) (ap (broken_at c.args.self.now) (sym c.in-Released.is) ∙ c.requires)).roomy

pub release-requires-clause-inside : goal.release-requires-clause-inside
release-requires-clause-inside c =
    let k : Keeps c.args.self.now (rec.Released c.in-Released.c) = keeps-all c.args.self.now (rec.Released c.in-Released.c) (ap (broken_at c.args.self.now) (sym c.in-Released.is) ∙ c.requires) in
    room-kept c.args.self.now.books (rec.Released c.in-Released.c) (none-due c.args.self.now.books (rec.Released c.in-Released.c) (λ d. refl) k.roomy) k.roomy

pub assign_first-requires-clause-due : goal.assign_first-requires-clause-due
assign_first-requires-clause-due c =
    first-due c.args.self.now.books c.in-AssignedFirst.c c.in-AssignedFirst.r c.in-AssignedFirst.path c.in-AssignedFirst.n c.in-AssignedFirst.add c.in-AssignedFirst.remove
    (keeps-all c.args.self.now (rec.AssignedFirst c.in-AssignedFirst.c c.in-AssignedFirst.r c.in-AssignedFirst.path c.in-AssignedFirst.n c.in-AssignedFirst.add c.in-AssignedFirst.remove) (ap (broken_at c.args.self.now) (sym c.in-AssignedFirst.is) ∙ c.requires)).roomy

pub assign_first-requires-clause-choice : goal.assign_first-requires-clause-choice
assign_first-requires-clause-choice c =
    same-first (audit_first_at c.args.self.now.books.config c.args.self.now.books.time c.args.self.now.books.loads c.args.self.now.books.sets c.in-AssignedFirst.path) c.in-AssignedFirst.n c.in-AssignedFirst.add c.in-AssignedFirst.remove
    (keeps-all c.args.self.now (rec.AssignedFirst c.in-AssignedFirst.c c.in-AssignedFirst.r c.in-AssignedFirst.path c.in-AssignedFirst.n c.in-AssignedFirst.add c.in-AssignedFirst.remove) (ap (broken_at c.args.self.now) (sym c.in-AssignedFirst.is) ∙ c.requires)).chosen

pub assign_later-requires : goal.assign_later-requires
assign_later-requires c =
    (and_parts (is_inside c.args.self.now.books c.in-AssignedLater.c)
    (keeps_later c.args.self.now.books.config c.args.self.now.books.loads c.args.self.now.books.sets (home c.args.self.now.books.loads c.in-AssignedLater.c) c.in-AssignedLater.c c.in-AssignedLater.path c.in-AssignedLater.n c.in-AssignedLater.add c.in-AssignedLater.size c.in-AssignedLater.queue)
    (keeps-all c.args.self.now (rec.AssignedLater c.in-AssignedLater.c c.in-AssignedLater.r c.in-AssignedLater.path c.in-AssignedLater.n c.in-AssignedLater.add c.in-AssignedLater.size c.in-AssignedLater.queue) (ap (broken_at c.args.self.now) (sym c.in-AssignedLater.is) ∙ c.requires)).chosen).1

pub close-requires-clause-open : goal.close-requires-clause-open
close-requires-clause-open c =
    (and_parts (is_open c.args.self.now.books.loads c.in-Closed.n) (has_other_open c.args.self.now.books.loads c.in-Closed.n)
    (keeps-all c.args.self.now (rec.Closed c.in-Closed.n) (ap (broken_at c.args.self.now) (sym c.in-Closed.is) ∙ c.requires)).chosen).0

pub close-requires-clause-other : goal.close-requires-clause-other
close-requires-clause-other c =
    (and_parts (is_open c.args.self.now.books.loads c.in-Closed.n) (has_other_open c.args.self.now.books.loads c.in-Closed.n)
    (keeps-all c.args.self.now (rec.Closed c.in-Closed.n) (ap (broken_at c.args.self.now) (sym c.in-Closed.is) ∙ c.requires)).chosen).1

pub advance-requires : goal.advance-requires
advance-requires c = at-most c.args.self.now.books.time.0 c.in-Clock.time.0 (keeps-all c.args.self.now (rec.Clock c.in-Clock.time) (ap (broken_at c.args.self.now) (sym c.in-Clock.is) ∙ c.requires)).timed

pub returns-in-AssignedFirst-clause-ok : goal.returns-in-AssignedFirst-clause-ok
returns-in-AssignedFirst-clause-ok c =
    first-changed c.args.self.now c.args.rec.now c.in-AssignedFirst.c c.in-AssignedFirst.r c.in-AssignedFirst.path c.in-AssignedFirst.n c.in-AssignedFirst.add c.in-AssignedFirst.remove c.assign_first.result c.assign_first.new.self c.in-AssignedFirst.is c.assign_first.ensures.ok
