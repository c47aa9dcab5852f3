-- Journals that break the laws of what is told to clients, of responses, and of resets.
use Rattle.std.specs.Prelude.{List, [], ◌∷◌, ◌++◌, None, Some, codes}
use Rattle.lard_law_view.specs.Prelude.{AcceptsOnlyAnswers, Client, EachMay, Front, Node, Rec, ResetsAtTheLimit, TellsTheTruth, request}
use Rattle.lard_base.specs.declared.place.Via.TheVariants as via
use Rattle.lard_laws.specs.BackingRequests.{MayAnswerFrom, MayName}
use Rattle.lard_law_connections.specs.BytesRecords.{ServesTheAnswers}
use Rattle.lard_law_connections.specs.ResetsLaws.{SendsRstBehindResets}
use Rattle.lard_journal.specs.declared.rec.Rec.TheVariants as rec
use Rattle.lard_refusals.specs.Packets.{acknowledges_three_bytes, final_segment, reset_segment, two_bytes, two_bytes_from_the_end, two_bytes_from_zero, two_other_bytes}
use Rattle.lard_refusals.specs.Refusals.{Law, took}

-- ---- what is told

abbrev pub tells : Law
tells config files J = TellsTheTruth files J

-- A client is sent three bytes that are no segment.
abbrev pub no_segment : List Rec
no_segment = rec.Sent 1 Front (Client 1) (1 ∷ 2 ∷ 3 ∷ []) ∷ []

-- A client is reset, and no limit was passed.
abbrev pub reset_at_will : List Rec
reset_at_will = rec.Opened 1 1000 5000 65535 1460 ∷ rec.Sent 1 Front (Client 1) reset_segment ∷ []

-- It is reset behind a reset of the limit.
abbrev pub reset_behind_the_limit : List Rec
reset_behind_the_limit = rec.Opened 1 1000 5000 65535 1460 ∷ rec.Reset Front 1 120 ∷ rec.Sent 1 Front (Client 1) reset_segment ∷ []

-- A client is sent bytes of a response that was not queued.
abbrev pub bytes_of_no_response : List Rec
bytes_of_no_response = rec.Opened 1 1000 5000 65535 1460 ∷ rec.Sent 1 Front (Client 1) two_bytes ∷ []

-- It is sent bytes of one that was.
abbrev pub bytes_of_a_response : List Rec
bytes_of_a_response =
    rec.Opened 1 1000 5000 65535 1460 ∷ rec.Wrote 1 (request (codes "/a")) ∷ rec.Served (Node 1) 1 1 200 40 via.Cache ∷ rec.Sent 1 (Node 1) (Client 1) two_bytes ∷ []

-- The bytes of its response begin one too late.
abbrev pub bytes_begin_one_too_late : List Rec
bytes_begin_one_too_late =
    rec.Opened 1 1000 5000 65535 1460 ∷ rec.Wrote 1 (request (codes "/a")) ∷ rec.Served (Node 1) 1 1 200 40 via.Cache ∷ rec.Sent 1 (Node 1) (Client 1) two_other_bytes ∷ []

-- The cluster's first number is the greatest that there is, and the number behind it does not wrap.
abbrev pub number_does_not_wrap : List Rec
number_does_not_wrap =
    rec.Opened 1 1000 4294967295 65535 1460 ∷ rec.Wrote 1 (request (codes "/a")) ∷ rec.Served (Node 1) 1 1 200 40 via.Cache ∷ rec.Sent 1 (Node 1) (Client 1) two_bytes_from_the_end ∷ []

-- It is 0.
abbrev pub number_wraps : List Rec
number_wraps =
    rec.Opened 1 1000 4294967295 65535 1460 ∷ rec.Wrote 1 (request (codes "/a")) ∷ rec.Served (Node 1) 1 1 200 40 via.Cache ∷ rec.Sent 1 (Node 1) (Client 1) two_bytes_from_zero ∷ []

-- A client wrote nothing, and three bytes are acknowledged.
abbrev pub acknowledged_before_it_is_written : List Rec
acknowledged_before_it_is_written = rec.Opened 1 1000 5000 65535 1460 ∷ rec.Sent 1 Front (Client 1) acknowledges_three_bytes ∷ []

-- A response is queued behind the end of the stream.
abbrev pub served_behind_the_end : List Rec
served_behind_the_end = rec.Opened 1 1000 5000 65535 1460 ∷ rec.Sent 1 Front (Client 1) final_segment ∷ rec.Served Front 1 1 400 66 via.Own ∷ []

-- ---- what is served

abbrev pub service : Law
service config files J = ServesTheAnswers files J

-- A client wrote two requests. The content of the second came first, and its response is queued first.
abbrev pub second_answer_first : List Rec
second_answer_first = took (Node 1) 1 2 ∷ rec.Wrote 1 (request (codes "/a") ++ request (codes "/b")) ∷ rec.Served (Node 1) 1 2 200 40 via.Disk ∷ []

-- A place answers that does not own the connection.
abbrev pub answered_by_a_stranger : List Rec
answered_by_a_stranger = took (Node 1) 1 2 ∷ rec.Wrote 1 (request (codes "/a")) ∷ rec.Served (Node 2) 1 1 200 40 via.Disk ∷ []

-- A response of another length than the answer has.
abbrev pub response_of_another_length : List Rec
response_of_another_length = took (Node 1) 1 2 ∷ rec.Wrote 1 (request (codes "/a")) ∷ rec.Served (Node 1) 1 1 200 41 via.Disk ∷ []

-- It has the answer's.
abbrev pub its_answer_served : List Rec
its_answer_served = took (Node 1) 1 2 ∷ rec.Wrote 1 (request (codes "/a")) ∷ rec.Served (Node 1) 1 1 200 40 via.Disk ∷ []

-- ---- what is accepted

abbrev pub prefix : Law
prefix config files J = AcceptsOnlyAnswers files J

-- A client accepts bytes, and wrote no request.
abbrev pub accepted_and_not_asked : List Rec
accepted_and_not_asked = rec.Accepted 1 (codes "HTTP/1.1 200 OK") ∷ []

-- A client asked for a file that is there, and accepts that it is not.
abbrev pub another_answer_accepted : List Rec
another_answer_accepted = rec.Wrote 1 (request (codes "/a")) ∷ rec.Accepted 1 (codes "HTTP/1.1 404") ∷ []

-- It accepts that the file comes.
abbrev pub its_answer_accepted : List Rec
its_answer_accepted = rec.Wrote 1 (request (codes "/a")) ∷ rec.Accepted 1 (codes "HTTP/1.1 200") ∷ []

-- ---- resets

abbrev pub resets : Law
resets config files J = ResetsAtTheLimit config.stream J

-- A client wrote what is no request, of which the answer has 66 bytes, and is reset in its place.
abbrev pub malformed_request_is_reset : List Rec
malformed_request_is_reset = rec.Wrote 1 (codes "?\r\n\r\n") ∷ rec.Reset Front 1 66 ∷ []

-- It is answered.
abbrev pub malformed_request_is_answered : List Rec
malformed_request_is_answered = rec.Wrote 1 (codes "?\r\n\r\n") ∷ rec.Served Front 1 1 400 66 via.Own ∷ []

-- The third response passes the limit of a hundred bytes, and is queued.
abbrev pub third_response_passes_the_limit : List Rec
third_response_passes_the_limit = rec.Served (Node 1) 1 1 200 40 via.Cache ∷ rec.Served (Node 1) 1 2 200 40 via.Cache ∷ rec.Served (Node 1) 1 3 200 40 via.Cache ∷ []

-- The connection is reset in its place.
abbrev pub third_response_resets : List Rec
third_response_resets = rec.Served (Node 1) 1 1 200 40 via.Cache ∷ rec.Served (Node 1) 1 2 200 40 via.Cache ∷ rec.Reset (Node 1) 1 120 ∷ []

-- A response is queued behind a reset.
abbrev pub served_behind_a_reset : List Rec
served_behind_a_reset = rec.Reset (Node 1) 1 120 ∷ rec.Served (Node 1) 1 1 200 40 via.Cache ∷ []

-- ---- RST

abbrev pub sends_rst : Law
sends_rst config files J = SendsRstBehindResets J

-- A packet was put on the way in the name of a client, and it is reset, though no limit was passed.
abbrev pub touched_client_is_reset : List Rec
touched_client_is_reset = rec.Opened 1 1000 5000 65535 1460 ∷ rec.Injected 1 ∷ rec.Sent 1 Front (Client 1) reset_segment ∷ []

-- Another client passed the limit.
abbrev pub reset_for_another_client : List Rec
reset_for_another_client = rec.Opened 1 1000 5000 65535 1460 ∷ rec.Injected 1 ∷ rec.Reset (Node 1) 2 120 ∷ rec.Sent 1 (Node 1) (Client 1) reset_segment ∷ []

-- It passed the limit itself.
abbrev pub touched_client_passes_the_limit : List Rec
touched_client_passes_the_limit = rec.Opened 1 1000 5000 65535 1460 ∷ rec.Injected 1 ∷ rec.Reset (Node 1) 1 120 ∷ rec.Sent 1 (Node 1) (Client 1) reset_segment ∷ []

-- ---- who answers what

abbrev pub answerers : Law
answerers config files J = EachMay (MayAnswerFrom files) [] J

-- A node answers, and no request for a file was written.
abbrev pub node_answers_no_file : List Rec
node_answers_no_file = rec.Served (Node 1) 1 1 400 66 via.Own ∷ []

-- The front end answers a request for a file.
abbrev pub file_answered_at_the_front_end : List Rec
file_answered_at_the_front_end =
    rec.Wrote 1 (request (codes "/a")) ∷ rec.AssignedFirst 1 1 (codes "/a") 1 (Some 1) None ∷ rec.Served Front 1 1 200 40 via.Own ∷ []

-- Its node does.
abbrev pub file_answered_at_its_node : List Rec
file_answered_at_its_node =
    rec.Wrote 1 (request (codes "/a")) ∷ rec.AssignedFirst 1 1 (codes "/a") 1 (Some 1) None ∷ rec.Served (Node 1) 1 1 200 40 via.Cache ∷ []

abbrev pub named : Law
named config files J = EachMay (MayName files) [] J

-- A client wrote two requests, and the first assignment is of the second.
abbrev pub second_request_assigned_first : List Rec
second_request_assigned_first = rec.Wrote 1 (request (codes "/a") ++ request (codes "/b")) ∷ rec.AssignedFirst 1 2 (codes "/b") 1 (Some 1) None ∷ []

-- A connection is assigned first a second time, and its first request is not answered.
abbrev pub assigned_first_again : List Rec
assigned_first_again =
    rec.Wrote 1 (request (codes "/a")) ∷ rec.AssignedFirst 1 1 (codes "/a") 1 (Some 1) None ∷ rec.AssignedFirst 1 1 (codes "/a") 1 None None ∷ []

-- It has one.
abbrev pub assigned_first_once : List Rec
assigned_first_once = rec.Wrote 1 (request (codes "/a")) ∷ rec.AssignedFirst 1 1 (codes "/a") 1 (Some 1) None ∷ []

-- A job is queued for a request that was not written.
abbrev pub job_for_no_request : List Rec
job_for_no_request = rec.Queued 1 1 1 1 (codes "/a") ∷ []
