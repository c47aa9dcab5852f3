-- A node that takes a connection starts the request that was assigned with it.
use Rattle.std.proofs.Common.{◌≡◌, ◌≤◌, ◌+◌, ◌-◌, ◌^◌, ℕ, true, List, [], ◌∷◌, length, take, Some, sym, ap, ◌∙◌, subst, arith}
use Rattle.std.proofs.lemmas.List.{length-map, length_push}
use Rattle.lard_law_view.specs.Prelude.{Conn, ControlBlock, EndpointParts, FilesAt, Front, IsConnNumber, IsNodeEnv, Node, NodeEnv, NodePart, Seen, Setting, SpellsMessage, Station, Talk, Verdict, Was, Work, batch_of, bytes_used, goes_on, node_begins, node_does, offer_answer, offered_by, parts_of, reads_batch, reads_these, state_of, taken_sent, verdicts}
use Rattle.lard_laws.specs.BackingRequests.{IsFor}
use Rattle.lard_laws.specs.BackingTold.{files_before}
use Rattle.lard_laws.proofs.BackingMoving.{Keeps}
use Rattle.lard_laws.proofs.BackingNext.{next-for}
use Rattle.lard_laws.proofs.BackingNodes.{deed-makes}
use Rattle.lard_laws.proofs.BackingTurns.{Clean, DeedBacks, FirstBy, FirstIn, first-clean, goes-clean, works-back}
use Rattle.lard_law_connections.specs.BytesAgreement.{FrontHolds, IsOpen}
use Rattle.lard_law_connections.proofs.BytesNodeTurns.{talk-of}
use Rattle.lard_law_connections.proofs.PlacesTurns.{IsPlaced}
use Rattle.lard_laws.specs.WaysState.{BeginsWithRequest, GoesItsWay, marks_at}
use Rattle.lard_laws.specs.Ways.{WayMarks, good_paths}
use Rattle.lard_handoff_back.specs.declared.table.Adopt.TheVariants.{New}
use Rattle.lard_message.specs.declared.message.Body.TheVariants as body
use Rattle.lard_laws.proofs.WaysOffering.{IsTaken, new-taken}

-- It is for its path, and was assigned with the connection: no node took the last that was assigned, and as many requests for files stand
-- before it as assignments before that.
abbrev pub IsAssignedWith : FilesAt → WayMarks → ℕ → List ℕ → Type 0
IsAssignedWith files m i path = IsFor files m.wrote i path × (m.fresh ≡ true) × (length m.assigned ≡ files_before files m.wrote i + 1)

-- the first batch of an endpoint whose next request is for this path
takes-back : (env : NodeEnv) (m : WayMarks) (most : length m.wrote ≤ 2 ^ 30) (p : NodePart) (b : ControlBlock) (count : ℕ) (path : List ℕ) → BeginsWithRequest env.serve.files b.recv.unread path → IsFor env.serve.files m.wrote (count + 1) path
    → DeedBacks env m (offered_by env (parts_of b count) p New)
takes-back env m most p b count path next for =
    let k : Work = node_begins env (parts_of b count) in
    let used : ℕ = bytes_used 8 b.recv.unread in
    let us : List Verdict = take 7 next.others in
    let is : batch_of 8 b.recv.unread ≡ next.first ∷ us = ap (take 8) next.are in
    let first : Clean env m (state_of (reads_these env true used k (next.first ∷ us))) = first-clean env m most used k next.first us path next.good for (record { notes = ((tt, tt), tt); wants = tt }) in
    let begun : Clean env m (state_of (reads_batch env true k)) = subst (λ (vs : List Verdict). Clean env m (state_of (reads_these env true used k vs))) (sym is) first in
    works-back env m most p (taken_sent env) (goes_on env (state_of (reads_batch env true k))) (tt, tt) (goes-clean env m (state_of (reads_batch env true k)) begun)

-- ---- an Offer that comes

module _ (k : Setting) (small : k.stream ≤ 2 ^ 30) (x : Conn) (s : Station) (there : x.part.station ≡ Some s) (l : Talk) (pend : List Verdict) (o : IsOpen k.files x l pend s) (n epoch : ℕ) (env : NodeEnv) (is : IsNodeEnv k x.c n epoch env)
    (parts : EndpointParts) (bytes : List ℕ) (spells : SpellsMessage x.c epoch (body.Offer parts) bytes) (was : Was x Front (Node n) bytes) where
  abbrev all_files : FilesAt
  all_files = env.serve.files

  abbrev m : WayMarks
  m = marks_at x

  abbrev p : NodePart
  p = x.part.nodes n

  -- where it is new: its next request is for this path, and was assigned with it
  record Starting : Type 0 where
    it : IsTaken all_files x l pend n epoch parts
    most : length m.wrote ≤ 2 ^ 30
    for : IsFor all_files m.wrote (it.offering.count + 1) it.once.path
    last : length m.assigned ≡ files_before all_files m.wrote (it.offering.count + 1) + 1

  new-starts : IsPlaced x → IsConnNumber x.c → GoesItsWay all_files x → offer_answer env.epoch p.row ≡ New → Starting
  new-starts placed number g new =
      let it : IsTaken all_files x l pend n epoch parts = new-taken k small x s there l pend o n epoch env is parts bytes spells was placed number g new in
      let holds : FrontHolds l.w l.out l.vs pend it.offering.block it.offering.count = it.offering.holds in
      let answered : it.offering.count ≡ m.served = holds.holds.counted ∙ sym o.tale.served in
      let first : (it.offering.count + 1) - 1 ≡ m.served = omega (arith, answered) in
      let before : length it.once.before ≡ files_before all_files m.wrote (it.offering.count + 1) =
      sym (length-map it.once.before (λ a. a.0)) ∙ ap length it.once.answered ∙ ap (λ (i : ℕ). length (good_paths all_files (take i (verdicts m.wrote)))) (sym first) in
      record {
        it = it;
        most = subst (λ (q : List ℕ). length q ≤ 2 ^ 30) (sym o.tale.wrote) (talk-of k small x s there l pend o n env epoch is).stream.most;
        for = subst (λ (q : List ℕ). IsFor all_files q (it.offering.count + 1) it.once.path) (sym o.tale.wrote)
            (next-for all_files l.w l.out l.vs it.offering.block it.offering.count holds.holds it.offering.frozen it.once.path it.next);
        last = ap length it.once.assigned ∙ length_push it.once.before (it.once.path, n) ∙ ap (λ (i : ℕ). i + 1) before;
      }

  pub new-makes : (heads : List Seen) → offer_answer env.epoch p.row ≡ New → Keeps all_files x (node_does x n heads (offered_by env parts p New))
  new-makes heads new help g old =
      let at : Starting = new-starts help.placed help.number g new in
      deed-makes env x n is.node heads [] tt (offered_by env parts p New)
      (subst (λ (q : EndpointParts). DeedBacks env m (offered_by env q p New)) (sym at.it.same) (takes-back env m at.most p at.it.offering.block at.it.offering.count at.it.once.path at.it.next at.for)) help g old

  -- so it is of the first of its requests for a file
  pub offered-for : IsPlaced x → IsConnNumber x.c → GoesItsWay all_files x → offer_answer env.epoch p.row ≡ New → FirstIn all_files (IsAssignedWith all_files m) (parts.served + 1) (batch_of 8 parts.unread)
  offered-for placed number g e =
      let at : Starting = new-starts placed number g e in
      let it : IsTaken all_files x l pend n epoch parts = at.it in
      subst (λ (q : EndpointParts). FirstIn all_files (IsAssignedWith all_files m) (q.served + 1) (batch_of 8 q.unread)) (sym it.same)
      (subst (FirstIn all_files (IsAssignedWith all_files m) (it.offering.count + 1)) (sym (ap (take 8) it.next.are))
      (subst (FirstBy all_files (IsAssignedWith all_files m) (FirstIn all_files (IsAssignedWith all_files m) ((it.offering.count + 1) + 1) (take 7 it.next.others)) (it.offering.count + 1)) (sym it.next.good)
      (at.for, it.once.fresh, at.last)))
