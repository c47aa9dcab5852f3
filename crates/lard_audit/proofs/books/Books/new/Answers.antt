-- Nobody came yet.
use Rattle.std.proofs.Common.{ℕ, List, sym, subst}
use Rattle.lard_loads.specs.Tally.{Tally}
use Rattle.lard_sets.specs.declared.sets.ServerSet.{ServerSet}
use Rattle.lard_audit.specs.Books.{AreSound, blank_books}
use Rattle.lard_audit.proofs.Keeping.{blank-sound}
use Rattle.lard_audit.proofs.books.Books.new.Goals as goal

pub invariant_of-result : goal.invariant_of-result
invariant_of-result c = (
  c.room-room.ensures.room,
  subst (λ (l : Tally). AreSound (record (blank_books c.args.config) { loads = l; sets = c.new-2.result })) (sym c.in_ok-loads.ensures)
      (subst (λ (s : List (List ℕ × ServerSet)). AreSound (record (blank_books c.args.config) { sets = s })) (sym c.new-2.ensures)
      (blank-sound c.args.config c.requires)),
)
