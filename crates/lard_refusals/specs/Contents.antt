-- Journals that break the laws of disks and caches, and of where contents come from.
use Rattle.std.specs.Prelude.{List, [], ◌∷◌, None, Some, codes}
use Rattle.lard_base.specs.declared.event.Event.TheVariants as event
use Rattle.lard_history.proofs.Each.{Each}
use Rattle.lard_law_view.specs.Prelude.{EachMay, EachStep, Front, Node, Rec, request, steps}
use Rattle.lard_base.specs.declared.place.Via.TheVariants as via
use Rattle.lard_laws.specs.BackingJobs.{MustQueue}
use Rattle.lard_laws.specs.BackingRequests.{MayBeBacked, MayStart}
use Rattle.lard_law_connections.specs.StoresLaws.{MayStore, MustRead}
use Rattle.lard_laws.specs.Formed.{HasPathAndBytes}
use Rattle.lard_laws.specs.WaysBefore.{MayBeServed}
use Rattle.lard_laws.specs.WaysContents.{MustBring}
use Rattle.lard_journal.specs.declared.rec.Rec.TheVariants as rec
use Rattle.lard_refusals.specs.Packets.{content}
use Rattle.lard_refusals.specs.Refusals.{Law, took}

-- ---- caches

abbrev pub stores : Law
stores config files J = EachMay (MayStore files config.cache) [] J

-- A node has a file in its cache that its disk never read.
abbrev pub hit_of_what_was_never_read : List Rec
hit_of_what_was_never_read = rec.Hit 1 (codes "/a") ∷ []

-- A cache has room for one of two files. The second was read behind the first, which is served from the cache.
abbrev pub evicted_path_is_a_hit : List Rec
evicted_path_is_a_hit =
    rec.Queued 1 1 1 1 (codes "/a") ∷ rec.Queued 1 1 1 2 (codes "/b")
    ∷ rec.Event 1 (event.Disk 1 1) ∷ rec.Read 1 1 1 1 (codes "/a") ∷ rec.Event 2 (event.Disk 1 1) ∷ rec.Read 1 1 1 2 (codes "/b") ∷ rec.Hit 1 (codes "/a") ∷ []

-- The second is served from it.
abbrev pub kept_path_is_a_hit : List Rec
kept_path_is_a_hit =
    rec.Queued 1 1 1 1 (codes "/a") ∷ rec.Queued 1 1 1 2 (codes "/b")
    ∷ rec.Event 1 (event.Disk 1 1) ∷ rec.Read 1 1 1 1 (codes "/a") ∷ rec.Event 2 (event.Disk 1 1) ∷ rec.Read 1 1 1 2 (codes "/b") ∷ rec.Hit 1 (codes "/b") ∷ []

-- A job is queued for a file that the cache has.
abbrev pub queued_though_cached : List Rec
queued_though_cached = rec.Queued 1 1 1 1 (codes "/a") ∷ rec.Event 1 (event.Disk 1 1) ∷ rec.Read 1 1 1 1 (codes "/a") ∷ rec.Queued 1 1 1 2 (codes "/a") ∷ []

-- A job is queued for a path that no file has.
abbrev pub queued_without_a_file : List Rec
queued_without_a_file = rec.Queued 1 1 1 1 (codes "/c") ∷ []

-- It is for that of a file.
abbrev pub queued_for_a_file : List Rec
queued_for_a_file = rec.Queued 1 1 1 1 (codes "/a") ∷ []

-- ---- disks

abbrev pub disks : Law
disks config files J = EachStep MustRead [] (steps J)

-- A disk is done with a job, and nothing is read.
abbrev pub done_and_not_read : List Rec
done_and_not_read = rec.Event 1 (event.Timer (Node 1) 1) ∷ rec.Queued 1 1 1 1 (codes "/a") ∷ rec.Event 2 (event.Disk 1 1) ∷ []

-- The disk is done with the first job, and the second is read.
abbrev pub another_job_is_read : List Rec
another_job_is_read =
    rec.Event 1 (event.Timer (Node 1) 1) ∷ rec.Queued 1 1 1 1 (codes "/a") ∷ rec.Queued 1 1 1 2 (codes "/b") ∷ rec.Event 2 (event.Disk 1 1) ∷ rec.Read 1 1 1 2 (codes "/b") ∷ []

-- The first is.
abbrev pub oldest_job_is_read : List Rec
oldest_job_is_read =
    rec.Event 1 (event.Timer (Node 1) 1) ∷ rec.Queued 1 1 1 1 (codes "/a") ∷ rec.Queued 1 1 1 2 (codes "/b") ∷ rec.Event 2 (event.Disk 1 1) ∷ rec.Read 1 1 1 1 (codes "/a") ∷ []

-- A job is read in a step in which no disk is done.
abbrev pub read_in_another_step : List Rec
read_in_another_step = rec.Event 1 (event.Timer (Node 1) 1) ∷ rec.Queued 1 1 1 1 (codes "/a") ∷ rec.Read 1 1 1 1 (codes "/a") ∷ []

-- ---- what stands before a response

abbrev pub came : Law
came config files J = EachMay MayBeServed [] J

-- A request that is another node's is served at once: no content of it came.
abbrev pub remote_request_served_at_once : List Rec
remote_request_served_at_once = took (Node 1) 1 2 ∷ rec.Served (Node 1) 1 1 200 40 (via.Node 2) ∷ []

-- A file is served from a disk that did not read it.
abbrev pub served_before_it_is_read : List Rec
served_before_it_is_read = took (Node 1) 1 2 ∷ rec.Queued 1 1 1 1 (codes "/a") ∷ rec.Served (Node 1) 1 1 200 40 via.Disk ∷ []

-- It was read.
abbrev pub served_once_it_is_read : List Rec
served_once_it_is_read = took (Node 1) 1 2 ∷ rec.Read 1 1 1 1 (codes "/a") ∷ rec.Served (Node 1) 1 1 200 40 via.Disk ∷ []

abbrev pub backed : Law
backed config files J = EachMay (MayBeBacked files) [] J

-- A file is served out of a cache in which it was not looked up.
abbrev pub cache_without_a_hit : List Rec
cache_without_a_hit =
    rec.Wrote 1 (request (codes "/a")) ∷ rec.AssignedFirst 1 1 (codes "/a") 1 (Some 1) None ∷ took (Node 1) 1 2 ∷ rec.Served (Node 1) 1 1 200 40 via.Cache ∷ []

-- ---- what starts

abbrev pub starts : Law
starts config files J = EachMay (MayStart files) [] J

-- A request was assigned to a node, which was not told of it and queues a job for it.
abbrev pub job_before_it_is_told : List Rec
job_before_it_is_told = rec.AssignedFirst 1 1 (codes "/a") 1 (Some 1) None ∷ rec.Queued 1 1 1 1 (codes "/a") ∷ []

-- A node queues one for the request with which it took the connection.
abbrev pub job_once_it_is_told : List Rec
job_once_it_is_told = rec.AssignedFirst 1 1 (codes "/a") 1 (Some 1) None ∷ took (Node 1) 1 2 ∷ rec.Queued 1 1 1 1 (codes "/a") ∷ []

-- A node reads a file for a request that was not assigned.
abbrev pub read_before_it_is_assigned : List Rec
read_before_it_is_assigned = took (Node 1) 1 2 ∷ rec.Read 1 1 1 1 (codes "/a") ∷ []

abbrev pub contents : Law
contents config files J = EachStep (MustBring files) [] (steps J)

-- A node sends a content that it neither had nor read.
abbrev pub content_out_of_nothing : List Rec
content_out_of_nothing = rec.Event 1 (event.Timer (Node 1) 1) ∷ rec.Sent 1 (Node 1) (Node 2) content ∷ []

abbrev pub queues : Law
queues config files J = EachStep MustQueue [] (steps J)

-- A node queues a job for another, and no Fetch came.
abbrev pub job_for_another_unasked : List Rec
job_for_another_unasked = rec.Event 1 (event.Timer (Node 1) 1) ∷ rec.Queued 1 2 1 1 (codes "/a") ∷ []

-- It queues one of its own.
abbrev pub job_of_its_own : List Rec
job_of_its_own = rec.Event 1 (event.Timer (Node 1) 1) ∷ rec.Queued 1 1 1 1 (codes "/a") ∷ []

-- ---- paths and bytes

abbrev pub paths_and_bytes : Law
paths_and_bytes config files J = Each (HasPathAndBytes files) J

-- A request is assigned for a path that no file has.
abbrev pub assigned_without_a_file : List Rec
assigned_without_a_file = rec.AssignedFirst 1 1 (codes "/c") 1 (Some 1) None ∷ []

-- It is for that of a file.
abbrev pub assigned_for_a_file : List Rec
assigned_for_a_file = rec.AssignedFirst 1 1 (codes "/a") 1 (Some 1) None ∷ []

-- A disk reads a path that no file has.
abbrev pub read_without_a_file : List Rec
read_without_a_file = rec.Hit 1 (codes "/a") ∷ rec.Read 1 1 1 1 (codes "/c") ∷ []

-- A client accepts no byte, and a record tells it.
abbrev pub nothing_is_accepted : List Rec
nothing_is_accepted = rec.Accepted 1 [] ∷ []

-- A packet has no byte.
abbrev pub empty_packet : List Rec
empty_packet = rec.Sent 1 Front (Node 1) [] ∷ []
