-- Journals in which a connection comes to rest and is not complete, and in which a response is due and nothing comes of it.
use Rattle.std.specs.Prelude.{List, [], ◌∷◌, codes}
use Rattle.lard_base.specs.declared.event.Event.TheVariants as event
use Rattle.lard_law_view.specs.Prelude.{Client, Node, Rec, request}
use Rattle.lard_laws.specs.Due.{AnswersWhatIsDue}
use Rattle.lard_laws.specs.Quiet.{CompletesWhenQuiet}
use Rattle.lard_journal.specs.declared.rec.Rec.TheVariants as rec
use Rattle.lard_refusals.specs.Packets.{acknowledges_the_request}
use Rattle.lard_refusals.specs.Refusals.{Law, took}

abbrev pub quiet : Law
quiet config files J = CompletesWhenQuiet config files J

-- A client closed its side, nothing is under way, and the end of its stream did not come.
abbrev pub shut_and_forgotten : List Rec
shut_and_forgotten = rec.Opened 1 1000 5000 65535 1460 ∷ rec.Event 1 (event.Shut 1) ∷ []

-- A client asked for a file, nothing is under way, and nothing came.
abbrev pub asked_and_forgotten : List Rec
asked_and_forgotten = rec.Opened 1 1000 5000 65535 1460 ∷ rec.Wrote 1 (request (codes "/a")) ∷ []

-- ---- responses that are due

abbrev pub nothing_due : Law
nothing_due config files J = AnswersWhatIsDue config files J

-- A node has the file that a client asked for, and acknowledges the request. The response would pass the limit, and the reset in its place
-- comes a step late.
abbrev pub reset_comes_late : List Rec
reset_comes_late =
    rec.Opened 1 1000 5000 65535 1460 ∷ rec.Wrote 1 (request (codes "/a")) ∷ took (Node 1) 1 2 ∷ rec.Hit 1 (codes "/a") ∷ rec.Sent 1 (Node 1) (Client 1) acknowledges_the_request
    ∷ rec.Event 1 (event.Timer (Node 1) 1) ∷ rec.Reset (Node 1) 1 120 ∷ []

-- It comes at once.
abbrev pub reset_comes_at_once : List Rec
reset_comes_at_once =
    rec.Opened 1 1000 5000 65535 1460 ∷ rec.Wrote 1 (request (codes "/a")) ∷ took (Node 1) 1 2 ∷ rec.Hit 1 (codes "/a") ∷ rec.Reset (Node 1) 1 120
    ∷ rec.Sent 1 (Node 1) (Client 1) acknowledges_the_request ∷ rec.Event 1 (event.Timer (Node 1) 1) ∷ []
