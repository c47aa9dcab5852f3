-- What is known of Fetches and jobs in a run of given files and events: where they go, whose they are, and that what they ask for can be
-- told.
use Rattle.std.proofs.Common.{◌≡◌, ◌≢◌, ℕ, ◌≤◌, nat_eq, true, false, List, [], ◌∷◌, length, Option, Some, None, IfSome, Ok, sym, subst, arith}
use Rattle.std.proofs.lemmas.Bool.{cond_both}
use Rattle.std.specs.List.{find}
use Rattle.lard_law_view.specs.Prelude.{BackRow, Config, Conn, ControlBlock, FilesAt, Has, IsMessage, IsNode, IsReached, Job, Letter, MAX_FILE_BYTES, Machine, Message, Node, NodeState, Packet, SpellsMessage, Stay, Was, config_check, conn, conn_of, content_bytes, file_at, is_from, is_under, letter_of, letters, letters_in, node_at, one_of, tale_at}
use Rattle.lard_base.specs.declared.place.TimerKind.TheVariants as kind
use Rattle.lard_laws.proofs.OriginsJobs.{jobs-from-home}
use Rattle.lard_law_connections.proofs.PastMoves.{at-node}
use Rattle.lard_law_connections.proofs.PastRuns.{others-past}
use Rattle.lard_law_connections.specs.Past.{AtNode, whereabouts_of}
use Rattle.lard_law_connections.proofs.PlacesFrontRules.{has-each}
use Rattle.lard_law_connections.proofs.PlacesRuns.{each-placed}
use Rattle.lard_law_connections.proofs.PlacesTurns.{IsPlaced}
use Rattle.lard_law_connections.proofs.PlacesWithNode.{with-node}
use Rattle.lard_law_connections.specs.Places.{IsDecided, IsPast}
use Rattle.lard_laws.proofs.RecordsHolding.{Holds, IsPacket, NodeHolds}
use Rattle.lard_laws.proofs.RecordsLetters.{is-message}
use Rattle.lard_laws.proofs.RecordsNamed.{AreNamed, IsNamed}
use Rattle.lard_laws.proofs.RecordsWorks.{JobFits}
use Rattle.lard_laws.proofs.TagsAgree.{IsStaying, goal-there}
use Rattle.lard_laws.proofs.TagsGoing.{each-goes}
use Rattle.lard_handoff_back.specs.declared.row.BackConn.TheVariants as back
use Rattle.lard_history.proofs.Each.{Each, Each-append}
use Rattle.lard_history.proofs.Seeing.{by_number}
use Rattle.lard_law_view.proofs.ByteLists.{AreBytes}
use Rattle.lard_law_view.proofs.ContentRange.{IsContent}
use Rattle.lard_message.specs.declared.message.Body.TheVariants as body

-- ---- packets have bytes

of-packets : (q : ℕ) (ps : List Packet) → Each IsPacket ps → Each (λ (l : Letter). AreBytes l.bytes) (letters_in q ps)
of-packets q [] h = tt
of-packets q (p ∷ ps) h = Each-append (λ (l : Letter). AreBytes l.bytes) (one_of q (conn_of p.from p.to p.bytes) (letter_of p)) (letters_in q ps) (one (conn_of p.from p.to p.bytes)) (of-packets q ps h.1) where
  one : (o : Option ℕ) → Each (λ (l : Letter). AreBytes l.bytes) (one_of q o (letter_of p))
  one None = tt
  one (Some c) = cond_both (nat_eq c q) (letter_of p ∷ []) [] (Each (λ (l : Letter). AreBytes l.bytes)) (λ t. (h.0.1.1, tt)) (λ t. tt)

pub letters-have-bytes : (m : Machine) (q : ℕ) → Holds m → Each (λ (l : Letter). AreBytes l.bytes) (conn m q).letters
unfolding conn letters
letters-have-bytes m q holds = of-packets q m.net holds.past.packets

-- ---- what is asked for

-- the content of a request, as it is told
abbrev pub content_told : ℕ → ℕ → ℕ → List ℕ → Message
content_told c e r bytes = record { c = c; epoch = record { 0 = e }; body = body.Content r bytes }

-- what a path names is no longer than a file
file-short : (files : FilesAt) → AreNamed files → (path : List ℕ) → length (content_bytes (files path)) ≤ MAX_FILE_BYTES
file-short files are path = go (files path) (are path) where
  go : (o : Option (List ℕ)) → IfSome o (λ bytes. IsContent bytes × IsNamed path) → length (content_bytes o) ≤ MAX_FILE_BYTES
  go None h = omega arith
  go (Some bytes) h = h.0.1

-- an epoch that a node is past was not decided there
past-undecided : (e : ℕ) (o : Option BackRow) → IsPast e o → IsDecided e o → ⊥
past-undecided e None past h = h
past-undecided e (Some row) past h = omega (arith, past.0, h)

-- what a job is for
job-has : (m : Machine) → Holds m → (i : ℕ) (s : NodeState) (job : Job) → node_at m.nodes i ≡ Some s → Has job s.disk → JobFits job
job-has m holds i s job at has =
    let node : NodeHolds (length m.net) i s = subst (λ (o : Option NodeState). IfSome o (NodeHolds (length m.net) i)) at (holds.parts.nodes i) in
    has-each JobFits job s.disk has node.1.jobs

-- Of Fetches and jobs: a Fetch that is awaited goes to another node, which is there; a job is for the node that has the connection in the
-- job's epoch; and the contents that they ask for can be told.
pub record FetchesAreTold (m : Machine) : Type 0 where
  pub goals : (q h e from r : ℕ) (b : ControlBlock) (s : Stay) → IsStaying (conn m q) h e b s → is_from from e (find (is_under kind.Fetch r) ((conn m q).part.nodes h).fetches) ≡ true → (from ≢ h) × IsNode m.config.nodes from
  pub origins : (i : ℕ) (s : NodeState) (job : Job) → node_at m.nodes i ≡ Some s → Has job s.disk → (h : ℕ) (b : ControlBlock) → ((conn m job.c).part.nodes h).row ≡ Some (record { stage = back.Here b; epoch = record { 0 = job.epoch.0 } }) → job.origin ≡ h
  pub contents : (q a b e r : ℕ) (path file bytes : List ℕ) → Was (conn m q) (Node a) (Node b) bytes → SpellsMessage q e (body.Fetch r path) bytes → file_at m.files path ≡ Some file → IsMessage (content_told q e r file)
  pub jobs : (i : ℕ) (s : NodeState) (job : Job) → node_at m.nodes i ≡ Some s → Has job s.disk → IsMessage (content_told job.c job.epoch.0 job.r (content_bytes (file_at m.files job.path)))

module _ (config : Config) (files : List (List ℕ × List ℕ)) (checked : config_check config ≡ Ok tt) (m : Machine) (reached : IsReached config files m) (holds : Holds m) (named : AreNamed (file_at m.files)) (same : m.config ≡ config) where
  goals : ((q : ℕ) → (tale_at (conn m q)).touched ≡ false) → (q h e from r : ℕ) (b : ControlBlock) (s : Stay) → IsStaying (conn m q) h e b s → is_from from e (find (is_under kind.Fetch r) ((conn m q).part.nodes h).fetches) ≡ true → (from ≢ h) × IsNode m.config.nodes from
  goals untouched q h e from r b s stays is =
      let goal = goal-there (IsNode config.nodes) (file_at files) (conn m q) h e b s stays (each-goes config files checked m reached q (untouched q)) from r is in
      (goal.0, subst (λ (c : Config). IsNode c.nodes from) (sym same) goal.1)

  origins : (i : ℕ) (s : NodeState) (job : Job) → node_at m.nodes i ≡ Some s → Has job s.disk → (h : ℕ) (b : ControlBlock) → ((conn m job.c).part.nodes h).row ≡ Some (record { stage = back.Here b; epoch = record { 0 = job.epoch.0 } }) → job.origin ≡ h
  origins i s job at has h b row =
      let x : Conn = conn m job.c in
      let placed : IsPlaced x = each-placed config files checked m reached job.c in
      let there : whereabouts_of x ≡ AtNode h job.epoch.0 = at-node x h job.epoch.0 (with-node x placed h job.epoch.0 b row) in
      by_number (job.origin ≡ h) job.origin h (λ is. is)
      (λ other. absurd (past-undecided job.epoch.0 (x.part.nodes job.origin).row (others-past x placed h job.epoch.0 there job.origin other)
      (jobs-from-home config files m checked reached i s at job has)))

  contents : (q a b e r : ℕ) (path file bytes : List ℕ) → Was (conn m q) (Node a) (Node b) bytes → SpellsMessage q e (body.Fetch r path) bytes → file_at m.files path ≡ Some file → IsMessage (content_told q e r file)
  contents q a b e r path file bytes was spells is =
      let fetch : Message = record { c = q; epoch = record { 0 = e }; body = body.Fetch r path } in
      let its : IsMessage fetch = is-message bytes fetch (has-each (λ (l : Letter). AreBytes l.bytes) (record { from = Node a; to = Node b; bytes = bytes }) (conn m q).letters was (letters-have-bytes m q holds)) spells in
      let short : length file ≤ MAX_FILE_BYTES = subst (λ (o : Option (List ℕ)). length (content_bytes o) ≤ MAX_FILE_BYTES) is (file-short (file_at m.files) named path) in
      record { some_connection = its.some_connection; connection = its.connection; epoch = its.epoch; table = short; fits = its.fits }

  jobs : (i : ℕ) (s : NodeState) (job : Job) → node_at m.nodes i ≡ Some s → Has job s.disk → IsMessage (content_told job.c job.epoch.0 job.r (content_bytes (file_at m.files job.path)))
  jobs i s job at has =
      let its : JobFits job = job-has m holds i s job at has in
      record { some_connection = its.1.0; connection = its.1.1; epoch = its.2; table = file-short (file_at m.files) named job.path; fits = its.3 }

  -- where the schedule touched no connection
  pub fetches-are-told : ((q : ℕ) → (tale_at (conn m q)).touched ≡ false) → FetchesAreTold m
  fetches-are-told untouched = record { goals = goals untouched; origins = origins; contents = contents; jobs = jobs }
