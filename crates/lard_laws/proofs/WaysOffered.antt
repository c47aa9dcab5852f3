-- A node that takes a connection begins with the request that was assigned to it.
use Rattle.std.proofs.Common.{◌≡◌, ◌≤◌, ◌^◌, ◌==◌, ℕ, Bool, true, false, List, [], ◌∷◌, ◌++◌, length, take, Option, Some, inl, inr, refl, sym, ap, ◌∙◌, subst, arith, eqb-true}
use Rattle.std.proofs.lemmas.Bool.{and_parts}
use Rattle.std.proofs.lemmas.List.{length-append}
use Rattle.lard_law_view.specs.Prelude.{Conn, ControlBlock, EndpointParts, Epoch, FilesAt, Front, FrontConn, FrontRest, FrontRow, IsNodeEnv, Node, NodeDeed, NodeEnv, NodePart, NodeTurn, Seen, Setting, SpellsMessage, Station, Stream, Talk, Verdict, Was, Work, batch_of, bytes_used, front_rest, goes_on, is_row_at, is_with, may_freeze, named_records, node_begins, node_does, node_rests, offer_answer, offered_by, parts_of, reads_batch, reads_these, state_of, taken_sent, verdicts}
use Rattle.lard_law_connections.specs.BytesAgreement.{FrontHolds, IsOpen}
use Rattle.lard_law_connections.specs.BytesKeeping.{IsTalk}
use Rattle.lard_law_connections.proofs.BytesNodeMoves.{IsAt}
use Rattle.lard_law_connections.proofs.BytesNodeTurns.{talk-of}
use Rattle.lard_law_connections.proofs.BytesServing.{So, MayGo, go-on}
use Rattle.lard_law_connections.proofs.BytesStays.{offered-so}
use Rattle.lard_law_connections.proofs.BytesWorking.{Works, first-so}
use Rattle.lard_law_connections.proofs.BytesWays.{batch-right}
use Rattle.lard_law_connections.specs.Places.{IsDecided}
use Rattle.lard_laws.specs.WaysState.{BeginsWithRequest, IsPlacedOnce, marks_at}
use Rattle.lard_laws.specs.Ways.{WayMarks, good_paths}
use Rattle.lard_laws.proofs.WaysGoing.{first-goes, stay-goes}
use Rattle.lard_laws.proofs.WaysHomes.{does-makes, named-marked, named-rightly}
use Rattle.lard_laws.proofs.WaysMoving.{Keeps}
use Rattle.lard_laws.proofs.WaysStaying.{Goes, Home}
use Rattle.lard_laws.proofs.WaysTurning.{DeedWays, TurnWays, work-ways}
use Rattle.lard_handoff_back.specs.declared.table.Adopt.TheVariants.{New}
use Rattle.lard_handoff_front.specs.declared.row.FrontConn.TheVariants as stage
use Rattle.lard_message.specs.declared.message.Body.TheVariants as body
use Rattle.lard_law_connections.proofs.PlacesNodeRules.{not-decided}
use Rattle.lard_laws.proofs.WaysOffering.{IsTaken, new-taken}

module _ (env : NodeEnv) (m : WayMarks) (r : FrontRest) (w out : Stream) (vs pend : List Verdict) (was_reset : Bool) (talk : IsTalk env w out vs) (wrote : m.wrote ≡ w.bytes) (counted : m.served ≡ length vs) (place : env.serve.place ≡ Node env.n) where
  abbrev files : FilesAt
  files = env.serve.files

  -- nothing was asked of it
  abbrev pub Never : List (List ℕ) → Type 0
  Never ps = ⊥

  -- the front end froze this endpoint, whose next request was assigned to this node
  module _ (p : NodePart) (b : ControlBlock) (count : ℕ) (h : FrontHolds w out vs pend b count) (frozen : may_freeze b ≡ true) (homed : m.home ≡ Some env.n) (once : IsPlacedOnce files m r env.n)
      (next : BeginsWithRequest files b.recv.unread once.path) where
    parts : EndpointParts
    parts = parts_of b count

    first : Work
    first = node_begins env (parts_of b count)

    home : Home env m
    home = record { place = place; home = homed }

    same-count : m.served ≡ count
    same-count = counted ∙ sym h.holds.counted

    pub takes-ways : DeedWays env m r p Never (offered_by env (parts_of b count) p New)
    unfolding parts first home
    takes-ways =
        let k : Work = node_begins env (parts_of b count) in
        let so : So env.serve w out vs k.service [] = offered-so env w out vs was_reset talk pend p b count h frozen in
        let may : MayGo w so.vs_now [] k.service = go-on env.serve w out vs k.service [] so refl refl refl in
        let works : Works env w out vs (state_of (reads_batch env true k)) = first-so env w out vs true k so may refl in
        let right = batch-right env true k refl tt in
        let used : ℕ = bytes_used 8 b.recv.unread in
        let us : List Verdict = take 7 next.others in
        let is : batch_of 8 b.recv.unread ≡ next.first ∷ us = ap (take 8) next.are in
        let steps : Works env w out vs (state_of (reads_these env true used k (next.first ∷ us))) = subst (λ (vs_next : List Verdict). Works env w out vs (state_of (reads_these env true used k vs_next))) is works in
        let goes : Goes env m r Never (state_of (reads_these env true used k (next.first ∷ us))) =
        first-goes env m r once.before once.path once.assigned w out vs wrote used k next.first us next.good refl refl (sym once.asks) refl (tt, tt) (ap (λ (n : ℕ). record m { served = n; fresh = false }) same-count)
        (once.answered ∙ ap (λ (n : ℕ). good_paths files (take n (verdicts m.wrote))) same-count) steps in
        let begun : Goes env m r Never (state_of (reads_batch env true k)) = subst (λ (vs_next : List Verdict). Goes env m r Never (state_of (reads_these env true used k vs_next))) (sym is) goes in
        let all : Goes env m r Never (goes_on env (state_of (reads_batch env true k))) = stay-goes env m r Never home w out vs wrote talk.most (state_of (reads_batch env true k)) works right begun in
        work-ways env m r Never (goes_on env (state_of (reads_batch env true k))) all p p Never (taken_sent env)
        (record { again = []; first = taken_sent env; is = refl; sent = inl refl; said = λ stay. (inr (body.Taken, refl, tt), tt) }) (λ ps a. a)

-- ---- an Offer that comes

module _ (k : Setting) (small : k.stream ≤ 2 ^ 30) (x : Conn) (s : Station) (there : x.part.station ≡ Some s) (l : Talk) (pend : List Verdict) (o : IsOpen k.files x l pend s) (n epoch : ℕ) (env : NodeEnv) (is : IsNodeEnv k x.c n epoch env)
    (parts : EndpointParts) (bytes : List ℕ) (spells : SpellsMessage x.c epoch (body.Offer parts) bytes) (was : Was x Front (Node n) bytes) (heads : List Seen) where
  abbrev all_files : FilesAt
  all_files = env.serve.files

  abbrev m : WayMarks
  m = marks_at x

  abbrev r : FrontRest
  r = front_rest x.part.front.rest

  abbrev p : NodePart
  p = x.part.nodes n

  abbrev Goal : NodeDeed → Type 0
  Goal d = Keeps all_files x (node_does x n heads d)

  -- where it is new
  pub new-makes : offer_answer env.epoch p.row ≡ New → Goal (offered_by env parts p New)
  new-makes new help g =
      let at : IsTaken all_files x l pend n epoch parts = new-taken k small x s there l pend o n epoch env is parts bytes spells was help.placed help.number g new in
      let not : IsDecided epoch p.row → ⊥ = not-decided epoch p.row (subst (λ (i : ℕ). offer_answer i p.row ≡ New) is.epoch_is new) in
      let once : IsPlacedOnce all_files m r env.n = record {
        before = at.once.before;
        path = at.once.path;
        assigned = at.once.assigned ∙ ap (λ (i : ℕ). at.once.before ++ (at.once.path, i) ∷ []) (sym is.node);
        fresh = at.once.fresh;
        answered = at.once.answered;
        asks = at.once.asks;
      } in
      let ways : DeedWays env m r p Never_here (offered_by env parts p New) = subst (λ (q : EndpointParts). DeedWays env m r p Never_here (offered_by env q p New)) (sym at.same)
      (takes-ways env m r l.w l.out l.vs pend l.was_reset (talk-of k small x s there l pend o n env epoch is) o.tale.wrote o.tale.served (is.place ∙ ap Node (sym is.node)) p at.offering.block at.offering.count
      at.offering.holds at.offering.frozen (at.home ∙ ap Some (sym is.node)) once at.next) in
      let given : NodePart × NodeTurn = node_rests env p (taken_sent env) (goes_on env (state_of (reads_batch env true (node_begins env parts)))) in
      let t : TurnWays env m r p Never_here given = ways in
      does-makes env x n is.node (omega (arith, at.early, is.epoch_is)) heads (named_records given.1.notes) given Never_here t
      (λ e ps c decided b. not (subst (λ (f : ℕ). IsDecided f p.row) (counts-epoch at.to at.to_is e (subst (λ (q : FrontConn). is_with n e q ≡ true) at.staged (subst (λ (q : Option FrontRow). is_row_at n e q ≡ true) at.found c))) decided))
      (named-rightly all_files m given.1.notes t.notes) (named-marked all_files m given.1.notes) at.row at.found (subst (IsAt n) (sym at.staged) refl) (at.epoch_is ∙ sym is.epoch_is) at.home (λ none. omega (arith, length-append at.once.before ((at.once.path, n) ∷ []), ap length (sym at.once.assigned ∙ none))) help g where
        Never_here : List (List ℕ) → Type 0
        Never_here ps = ⊥

        counts-epoch : (d : Epoch) → d.0 ≡ epoch → (e : ℕ) → is_with n e (stage.Offering n d) ≡ true → e ≡ epoch
        counts-epoch d when e c = sym (eqb-true d.0 e (and_parts (n == n) (d.0 == e) c).1) ∙ when
