use Rattle.std.proofs.Common.{◌≡◌, drop}
use Rattle.lard_rules.specs.NodePlace.{hits}
use Rattle.lard_back.proofs.stores.tell_hits.Given as goal

-- what the hits of all notes make of the cache, those of the notes that are left make of it now
abbrev pub invariant-loop-note : goal.invariant-loop-note
invariant-loop-note l = hits (drop l.note-index l.notes) l.cache ≡ hits l.fn.notes l.fn.cache
