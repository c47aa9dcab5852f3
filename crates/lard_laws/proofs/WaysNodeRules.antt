-- All rules of a node, and what changes nothing, leave a connection on its way.
use Rattle.std.proofs.Common.{◌≡◌, ◌≤◌, ◌+◌, ◌^◌, ℕ, Bool, List, [], ◌∷◌, ◌++◌, map, Option, Some, None, refl, sym, subst}
use Rattle.lard_law_view.specs.Prelude.{AreSent, BackRow, Completed, Conn, FilesAt, IsNodeEnv, Kept, Move, Node, NodeDeed, NodeEnv, NodeGets, NodePart, NodeRules, Part, Place, Rec, Seen, Setting, again_sent, brought_said, content_said, front_rest, gone, kept_refused, letter, node_does, node_saying, nothing_said, offered_by, packet_seen, refused_sent, stands, taken_sent, told_kind, without}
use Rattle.lard_handoff_back.specs.declared.table.Adopt.TheVariants.{New}
use Rattle.lard_handoff_back.specs.Table.{Beside}
use Rattle.lard_history.proofs.Each.{Each, Each-append}
use Rattle.lard_journal.specs.declared.rec.Rec.TheVariants as rec
use Rattle.lard_law_connections.specs.BytesAgreement.{IsTruthful}
use Rattle.lard_law_connections.proofs.BytesClientMoves.{open-at}
use Rattle.lard_law_connections.proofs.BytesFrontMessages.{opened-at}
use Rattle.lard_law_connections.proofs.BytesNodeRest.{front-opens}
use Rattle.lard_law_connections.specs.Places.{IsDecided, IsPast}
use Rattle.lard_law_view.proofs.EachNode.{Answers, Aside, Brings, MayAside, NodeComes, Queues, aside_said, aside_seen, each-node, job_notes, node_goes, told_first}
use Rattle.lard_law_view.proofs.Parts.{put-each}
use Rattle.lard_laws.specs.WaysState.{LetterWays, StayAsks, marks_at}
use Rattle.lard_laws.specs.Ways.{WayMarks}
use Rattle.lard_laws.proofs.NodeStays.{word-of}
use Rattle.lard_laws.proofs.WaysHomes.{quiet-asks, quiet-says, seat-kept, sent-append}
use Rattle.lard_laws.proofs.WaysLetters.{carries-same}
use Rattle.lard_laws.proofs.WaysMarking.{IsPlain}
use Rattle.lard_laws.proofs.WaysMoving.{Keeps, LetterAsks, makes, none-asked, same-marks, sent-ask, sent-say, stands-makes}
use Rattle.lard_laws.proofs.WaysNodes.{comes, fires, hears, leaves, reads, tags}
use Rattle.lard_laws.proofs.WaysOffered.{new-makes}
use Rattle.lard_message.specs.declared.kind.Kind.TheVariants as kind
use Rattle.lard_message.specs.declared.message.Body.TheVariants as body
use Rattle.lard_rules.proofs.NodeCases.{KeptByNode, node-keeps}
use Rattle.lard_rules.specs.Node.{Does, Says}

-- ---- a stay that is as it was

module _ (files : FilesAt) (x : Conn) (n : ℕ) (heads : List Seen) where
  abbrev p : NodePart
  p = x.part.nodes n

  gone-past : (e : ℕ) (o : Option BackRow) → IsPast e o → IsPast e (gone o)
  gone-past e None h = h
  gone-past e (Some row) h = (h.0, tt)

  gone-decided : (e : ℕ) (o : Option BackRow) → IsDecided e o → IsDecided e (gone o)
  gone-decided e None h = h
  gone-decided e (Some row) h = h

  -- a node keeps this beside its stay, and says that
  module _ (row : Option BackRow) (kept : List Kept) (beside : Beside) (past : (e : ℕ) → IsPast e p.row → IsPast e row) (decided : (e : ℕ) → IsDecided e p.row → IsDecided e row) where
    abbrev q : NodePart
    q = record p { row = row; kept = kept; beside = beside }

    still-makes : (ms : List (Place × List ℕ)) → ((part : Part) → Each (LetterWays files (marks_at x) part) (map (letter (Node n)) ms)) → Each (LetterAsks files (marks_at x) x) (map (letter (Node n)) ms)
        → Keeps files x (node_does x n heads (Does (q, node_saying ms)))
    still-makes ms says asks help g =
        let m : WayMarks = marks_at x in
        let v : Move = node_does x n heads (Does (q, node_saying ms)) in
        makes files x v help g m tt refl g.paths (seat-kept files m x.part n q (past, decided, refl) x.part.front.row g.seat)
        (carries-same files m m (same-marks files m m.served m.fresh) x.part v.part help.owes.grows refl refl
        (λ i e ps c d a. put-each x.part.nodes n q (λ j (z : NodePart). StayAsks files ((front_rest x.part.front.rest).asks + 1) ps (x.part.nodes j).stay → StayAsks files ((front_rest x.part.front.rest).asks + 1) ps z.stay) (λ b. b) (λ j other b. b) i a))
        (λ old. says v.part) asks

  -- what tells that it is over is acknowledged
  gone-makes : (back : Bool) → Keeps files x (node_does x n heads (Does (record p { row = gone p.row; kept = without (told_kind back) 0 p.kept }, node_saying [])))
  gone-makes back = still-makes (gone p.row) (without (told_kind back) 0 p.kept) p.beside (λ e h. gone-past e p.row h) (λ e h. gone-decided e p.row h) [] (λ part. tt) tt

  refused-makes : (env : NodeEnv) → Keeps files x (node_does x n heads (Does (kept_refused env p, node_saying (refused_sent env))))
  refused-makes env = still-makes p.row p.kept (kept_refused env p).beside (λ e h. h) (λ e h. h) (refused_sent env)
      (λ part. (quiet-says files (marks_at x) part n env.serve.c env.epoch body.Refused (λ ask. let no : kind.Refused ≡ kind.Ask = ask in cc), tt))
      (quiet-asks files (marks_at x) x n env.serve.c env.epoch body.Refused (λ ask. let no : kind.Refused ≡ kind.Ask = ask in cc), tt)

-- ---- what is said alone

module _ (files : FilesAt) (x : Conn) (n : ℕ) (env : NodeEnv) (heads : List Seen) where
  answer-makes : Keeps files x (node_does x n heads (Says (taken_sent env)))
  answer-makes = stands-makes files x (Node n) heads (record nothing_said { messages = taken_sent env }) tt
      (λ old. (quiet-says files (marks_at x) x.part n env.serve.c env.epoch body.Taken (λ ask. let no : kind.Taken ≡ kind.Ask = ask in cc), tt))
      (quiet-asks files (marks_at x) x n env.serve.c env.epoch body.Taken (λ ask. let no : kind.Taken ≡ kind.Ask = ask in cc), tt)

  -- what was said before
  again-makes : Keeps files x (node_does x n heads (Says (again_sent (x.part.nodes n))))
  again-makes help g =
      let p : NodePart = x.part.nodes n in
      let sent : AreSent x (Node n) (p.kept ++ p.fetches) = sent-append x (Node n) p.kept p.fetches (help.sound.kept n) (help.sound.fetches n) in
      stands-makes files x (Node n) heads (record nothing_said { messages = again_sent p }) tt (λ old. sent-say files (marks_at x) x.part x (Node n) (p.kept ++ p.fetches) sent old)
      (sent-ask files (marks_at x) x n (p.kept ++ p.fetches) sent) help g

-- ---- the rules

module _ (k : Setting) (small : k.stream ≤ 2 ^ 30) where
  -- what is owed of a move of a connection that agrees
  abbrev pub Owes : Conn → Move → Type 0
  Owes x v = IsTruthful k.files x → Keeps k.files x v

  -- behind the record of a job that was completed, or of none
  module _ (x : Conn) (truth : IsTruthful k.files x) (n epoch : ℕ) (env : NodeEnv) (is : IsNodeEnv k x.c n epoch env) (heads : List Seen) (first : List Rec) (plain : Each IsPlain first) where
    abbrev After : NodeDeed → Type 0
    After d = Keeps env.serve.files x (told_first first (node_does x n heads d))

    abbrev Comes : NodeGets → Type 0
    Comes g = NodeComes x n epoch heads g × (first ≡ job_notes x.c n g)

    alone : first ≡ [] → (d : NodeDeed) → Keeps env.serve.files x (node_does x n heads d) → After d
    alone none d h = subst (λ (rs : List Rec). Keeps env.serve.files x (told_first rs (node_does x n heads d))) (sym none) h

    rules_keep : KeptByNode env (x.part.nodes n) Comes After
    rules_keep = record {
      drops = stands-makes env.serve.files x (Node n) heads (record nothing_said { notes = first ++ [] }) (Each-append IsPlain first [] plain tt) (λ old. tt) tt;
      hears = λ said b t m here. hears k small x truth n epoch env is heads first plain b t here said (word-of k x truth n epoch heads said m.0);
      tags = λ number nodes b t m here asked same count.
          tags k small x truth n epoch env is heads first plain b t here number nodes m.0.bytes m.0.spells m.0.was same count;
      comes = λ from r b t m here wanted. comes k small x truth n epoch env is heads first plain b t here from r;
      reads = λ r path b t m here. reads k small x truth n epoch env is heads first plain b t here r;
      begins = λ parts m new may.
          let s = opened-at k.files x truth (front-opens x n m.0.bytes m.0.was) in
          alone m.1 (offered_by env parts (x.part.nodes n) New)
          (new-makes k small x s.0 s.1 truth.talk truth.pend (open-at k.files x s.0 s.1 truth) n epoch env is parts m.0.bytes m.0.spells m.0.was heads new);
      takes_again = λ parts m again. alone m.1 (Says (taken_sent env)) (answer-makes env.serve.files x n env heads);
      refuses = λ parts m is. alone m.1 (Does (kept_refused env (x.part.nodes n), node_saying (refused_sent env))) (refused-makes env.serve.files x n heads env);
      fires = λ b t m here. fires k small x truth n epoch env is heads first plain b t here;
      resends = λ m none. alone m.1 (Says (again_sent (x.part.nodes n))) (again-makes env.serve.files x n env heads);
      ends = λ back m told was.
          alone m.1 (Does (record (x.part.nodes n) { row = gone (x.part.nodes n).row; kept = without (told_kind back) 0 (x.part.nodes n).kept }, node_saying [])) (gone-makes env.serve.files x n heads back);
      leaves = λ b t m here back. leaves k small x truth n epoch env is heads first plain b t here;
    }

  jobs-plain : (c n : ℕ) (g : NodeGets) → Each IsPlain (job_notes c n g)
  jobs-plain c n (Completed r path) = (tt, tt)
  jobs-plain c n _ = tt

  asides-keep : (x : Conn) (n : ℕ) (a : Aside) → MayAside k x n a → Owes x (stands x (Node n) (aside_seen n a) (aside_said k n x.c a))
  asides-keep x n (Answers from epoch r path file bytes) may h = stands-makes k.files x (Node n) (packet_seen (Node from) (Node n) bytes) (content_said k n from x.c epoch r path) tt (λ old. (tt, tt)) (tt, tt)
  asides-keep x n (Queues from epoch r path file bytes) may h = stands-makes k.files x (Node n) (packet_seen (Node from) (Node n) bytes) (record nothing_said { notes = rec.Queued n from x.c r path ∷ [] }) (tt, tt) (λ old. tt) tt
  asides-keep x n (Brings from epoch r path) may h = stands-makes k.files x (Node n) [] (brought_said k n from x.c epoch r path) (tt, tt) (λ old. (tt, tt)) (tt, tt)

  pub nodes : NodeRules k Owes
  nodes = each-node k Owes (record {
    does = λ x n epoch env heads g is at comes h.
        let first : List Rec = job_notes x.c n g in
        let all = rules_keep x h n epoch env is heads first (jobs-plain x.c n g) in
        subst (λ (f : FilesAt). Keeps f x (node_goes x n env heads g)) is.files
        (node-keeps env (x.part.nodes n) (Comes x h n epoch env is heads first (jobs-plain x.c n g)) (After x h n epoch env is heads first (jobs-plain x.c n g)) all g at.0 (comes, refl));
    aside = asides-keep;
  })

  -- a packet comes, and nothing is done
  pub ignores : (x : Conn) (from to : Place) (bytes : List ℕ) → Owes x (stands x to (packet_seen from to bytes) nothing_said)
  ignores x from to bytes h = stands-makes k.files x to (packet_seen from to bytes) nothing_said tt (λ old. tt) (none-asked k.files (marks_at x) x to)
