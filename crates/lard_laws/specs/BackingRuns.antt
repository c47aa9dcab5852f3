-- What backs responses, over every run of the cluster's machine.
use Rattle.std.specs.Prelude.{[]}
use Rattle.lard_laws.specs.BackingJobs.{MustQueue}
use Rattle.lard_laws.specs.BackingRequests.{MayAnswerFrom, MayBeBacked, MayName, MayStart}
use Rattle.lard_law_connections.specs.PlacesLaws.{AlwaysUsable}
use Rattle.lard_law_view.specs.Prelude.{EachMay, EachStep, file_at, steps}

-- A first assignment has the number and the path of the next request, behind the answers to all that was assigned, and each job has the
-- path of its request.
abbrev pub JournalsNameRequests : Type 0
JournalsNameRequests = AlwaysUsable (λ files m. EachMay (MayName (file_at files)) [] m.journal)

-- The home answers each request for a file, and the place that owns the connection each other one.
abbrev pub PlacesAnswer : Type 0
PlacesAnswer = AlwaysUsable (λ files m. EachMay (MayAnswerFrom (file_at files)) [] m.journal)

-- What was hit, was queued and read, or came for a response is of its request's path, and stands behind what told the node where the
-- request is assigned.
abbrev pub ResponsesAreBacked : Type 0
ResponsesAreBacked = AlwaysUsable (λ files m. EachMay (MayBeBacked (file_at files)) [] m.journal)

-- No job of a node itself is queued or read before what tells the node where its request is assigned.
abbrev pub JobsStartWhenTold : Type 0
JobsStartWhenTold = AlwaysUsable (λ files m. EachMay (MayStart (file_at files)) [] m.journal)

-- Each job is the node's own, or that of a Fetch which comes in the step in which it is queued.
abbrev pub JobsAreAsked : Type 0
JobsAreAsked = AlwaysUsable (λ files m. EachStep MustQueue [] (steps m.journal))
