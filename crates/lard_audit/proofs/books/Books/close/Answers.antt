-- A node is closed.
use Rattle.std.proofs.Common.{◌≡◌, ℕ, List, true, sym, subst}
use Rattle.lard_loads.specs.Tally.{Tally, has_other_open, is_open, tally_closed}
use Rattle.lard_sets.specs.declared.sets.ServerSet.{ServerSet}
use Rattle.lard_audit.specs.Books.{AreSound, AuditBooks}
use Rattle.lard_audit.proofs.Keeping.{close-sound}
use Rattle.lard_audit.proofs.books.Books.close.Goals as goal

pub invariant_of-self : goal.invariant_of-self
invariant_of-self c =
    let old : AuditBooks = record { config = c.self.inside.config; time = c.self.inside.time; loads = c.self.inside.loads; sets = c.self.inside.sets; due = c.self.inside.due } in
    let here : is_open old.loads c.args.n ≡ true = subst (λ (b : AuditBooks). is_open b.loads c.args.n ≡ true) (sym c.self.view_is) c.requires.open in
    let other : has_other_open old.loads c.args.n ≡ true = subst (λ (b : AuditBooks). has_other_open b.loads c.args.n ≡ true) (sym c.self.view_is) c.requires.other in (
      c.self.invariant.0,
      subst (λ (l : Tally). AreSound (record old { loads = l; sets = c.close-2.new.self })) (sym c.close.ensures)
          (subst (λ (s : List (List ℕ × ServerSet)). AreSound (record old { loads = tally_closed c.self.inside.loads c.args.n; sets = s })) (sym c.close-2.ensures) (close-sound old c.args.n c.self.invariant.1 here other)),
    )
