-- Which timers of a connection run, and the records of those that changed in a step.
use Rattle.std.specs.Prelude.{ℕ, List, [], ◌++◌}
use Rattle.lard_back.specs.declared.timers.Flags.{Flags}
use Rattle.lard_base.specs.declared.place.Place.TheVariants.{Node}
use Rattle.lard_base.specs.declared.place.TimerKind.TheVariants.{Tcp, Ask, Fetch, Ended, Give}
use Rattle.lard_journal.specs.declared.rec.Rec.{Rec}
use Rattle.lard_rules.specs.Node.{NodePart, node_armed}
use Rattle.lard_rules.specs.Outs.{kind_change}

abbrev pub timer_flags : NodePart → Flags
timer_flags p = record { tcp = node_armed p Tcp; ask = node_armed p Ask; fetch = node_armed p Fetch; ended = node_armed p Ended; give = node_armed p Give }

-- an Offer is no message of a node
abbrev pub flag_changes : ℕ → ℕ → Flags → Flags → List Rec
flag_changes n c was is =
    [] ++ kind_change (Node n) c Tcp was.tcp is.tcp ++ kind_change (Node n) c Ask was.ask is.ask ++ kind_change (Node n) c Fetch was.fetch is.fetch
    ++ kind_change (Node n) c Ended was.ended is.ended ++ kind_change (Node n) c Give was.give is.give
