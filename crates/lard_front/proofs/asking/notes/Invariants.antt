use Rattle.std.proofs.Common.{◌≡◌, ◌+◌, ◌++◌, drop}
use Rattle.lard_rules.specs.Front.{assigned_notes, over_note}
use Rattle.lard_front.proofs.asking.notes.Given as goal

-- what was noted, and what is left to note, are all
abbrev pub invariant-loop-i : goal.invariant-loop-i
invariant-loop-i l =
    l.notes ++ assigned_notes l.ask.c l.ask (l.assigned + l.i) (drop l.i l.ask.paths) (drop l.i l.choices) ≡ over_note l.fn.ask.c l.fn.over ++ assigned_notes l.fn.ask.c l.fn.ask l.fn.assigned l.fn.ask.paths l.fn.choices
