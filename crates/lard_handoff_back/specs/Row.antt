-- The stages of a connection at a node.
use Rattle.std.specs.Prelude.{Bool, true, false, Option, Some, None}
use Rattle.lard_endpoint.specs.Control.{ControlBlock}
use Rattle.lard_handoff_back.specs.declared.row.BackConn.{BackConn}
use Rattle.lard_handoff_back.specs.declared.row.BackConn.TheVariants.{Here, Out, Ended, Gone}

-- the endpoint that is here
abbrev pub back_held : BackConn → Option ControlBlock
back_held (Here b) = Some b
back_held Out = None
back_held Ended = None
back_held Gone = None

abbrev pub is_out : BackConn → Bool
is_out Out = true
is_out (Here b) = false
is_out Ended = false
is_out Gone = false

abbrev pub is_ended : BackConn → Bool
is_ended Ended = true
is_ended (Here b) = false
is_ended Out = false
is_ended Gone = false

abbrev pub is_gone : BackConn → Bool
is_gone Gone = true
is_gone (Here b) = false
is_gone Out = false
is_gone Ended = false
