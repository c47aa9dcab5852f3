-- A node that takes a connection asks for what its first batch is.
use Rattle.std.proofs.Common.{◌≡◌, ◌≤◌, ◌^◌, ℕ, Bool, true, List, [], ◌∷◌, length, take, Option, Some, None, inl, refl, sym, ap, ◌∙◌, subst}
use Rattle.std.specs.List.{fold}
use Rattle.lard_law_view.specs.Prelude.{Conn, ControlBlock, EndpointParts, FilesAt, Front, IsConnNumber, IsNodeEnv, Node, NodeDeed, NodeEnv, NodePart, Numbers, Place, Rec, Setting, SpellsMessage, Station, Stream, Talk, Verdict, Was, Work, batch_of, goes_on, may_freeze, node_begins, offer_answer, offered_by, parts_of, reads_batch, serving_settled, state_of, taken_sent}
use Rattle.lard_law_connections.specs.BytesAgreement.{FrontHolds, IsOpen}
use Rattle.lard_law_connections.specs.BytesKeeping.{IsTalk}
use Rattle.lard_law_connections.proofs.BytesNodeTurns.{talk-of}
use Rattle.lard_law_connections.proofs.BytesServing.{MayGo, So, go-on}
use Rattle.lard_law_connections.proofs.BytesStays.{offered-so}
use Rattle.lard_law_connections.proofs.BytesWorking.{Right, Works, first-so, goes-so}
use Rattle.lard_law_connections.proofs.BytesWays.{batch-right}
use Rattle.lard_law_connections.proofs.PlacesLoops.{settled-is}
use Rattle.lard_law_connections.proofs.PlacesNodeRules.{Begins, begun-notes, took_by}
use Rattle.lard_law_connections.proofs.PlacesTurns.{IsPlaced}
use Rattle.lard_laws.specs.Sizes.{SizeMarks, TakeOver, take_over_step}
use Rattle.lard_laws.proofs.SizesReading.{Fits, first-fits}
use Rattle.lard_laws.proofs.SizesTaken.{begun-taken}
use Rattle.lard_laws.proofs.SizesTelling.{IsQuiet, batch-state, wider-quiet}
use Rattle.lard_laws.proofs.SizesTurns.{DeedFits, Reads, SaysFit, goes-on-fits, other-says, past_take_over}
use Rattle.lard_laws.specs.WaysState.{BeginsWithRequest, GoesItsWay, marks_at}
use Rattle.lard_laws.specs.Ways as ways_specs
use Rattle.lard_handoff_back.specs.declared.table.Adopt.TheVariants.{New}
use Rattle.lard_history.proofs.Each.{Each}
use Rattle.lard_message.specs.declared.kind.Kind.TheVariants as kind
use Rattle.lard_message.specs.declared.message.Body.TheVariants as body
use Rattle.lard_laws.proofs.WaysOffering.{IsTaken, new-taken}

-- ---- an endpoint that the front end froze is adopted

module _ (env : NodeEnv) (x : Conn) (n u : ℕ) (past : SizeMarks) (w out : Stream) (vs pend : List Verdict) (was_reset : Bool) (talk : IsTalk env w out vs) (num : Numbers) (numbers : past.numbers ≡ Some num) (isn : num.isn ≡ w.first)
    (wrote : past.wrote ≡ w.bytes) (counted : past.served ≡ length vs) (p : NodePart) where
  abbrev fs : FilesAt
  fs = env.serve.files

  taken-says : (now : SizeMarks) → Each (SaysFit fs env.serve.c x n u past now) (taken_sent env)
  taken-says now = (other-says fs x n u past now env.serve.c env.epoch Front body.Taken (λ e. let no : kind.Taken ≡ kind.Ask = e in absurd cc), tt)

  pub takes-fit : (b : ControlBlock) (count : ℕ) → FrontHolds w out vs pend b count → may_freeze b ≡ true → (path : List ℕ) → BeginsWithRequest fs b.recv.unread path → count ≡ u → count ≡ past.served
      → DeedFits fs env.serve.c x n u past (offered_by env (parts_of b count) p New)
  takes-fit b count h frozen path begins_with upto answered =
      let k : Work = node_begins env (parts_of b count) in
      let so : So env.serve w out vs k.service [] = offered-so env w out vs was_reset talk pend p b count h frozen in
      let may : MayGo w so.vs_now [] k.service = go-on env.serve w out vs k.service [] so refl refl refl in
      let v : Work = state_of (reads_batch env true k) in
      let works : Works env w out vs v = first-so env w out vs true k so may refl in
      let right : Right env w out vs v = batch-right env true k refl tt in
      let us : List Verdict = take 7 begins_with.others in
      let is : batch_of 8 b.recv.unread ≡ begins_with.first ∷ us = ap (take 8) begins_with.are in
      let fits : Fits env w out vs u past.served v = first-fits env w out vs u past.served k so may refl refl refl begins_with.first us path is begins_with.good upto answered in
      let quiet : IsQuiet past.told v.service.block = wider-quiet past.told k.service.block v.service.block (batch-state env true k refl) (λ calm. inl refl) in
      let begins : Begins (took_by env) (serving_settled env.serve (goes_on env v).service).1.notes = begun-notes env (parts_of b count) in
      let start : TakeOver = past_take_over fs env.serve.c x n u past in
      let took : (fold (take_over_step env.serve.c) start (goes_on env v).service.notes).taken ≡ past.served =
      ap (λ (rs : List Rec). (fold (take_over_step env.serve.c) start rs).taken) (sym (settled-is env.serve (goes_on env v).service).notes ∙ begins.1)
      ∙ begun-taken env.serve.c start env.n (record { 0 = env.epoch }) begins.0 begins.2 in
      goes-on-fits env x n u past.served past w out vs talk num numbers isn wrote counted p (taken_sent env) taken-says v works right fits quiet (goes-so env w out vs talk.most v works right) took

-- ---- an Offer that comes

module _ (k : Setting) (small : k.stream ≤ 2 ^ 30) (x : Conn) (number : IsConnNumber x.c) (s : Station) (there : x.part.station ≡ Some s) (l : Talk) (pend : List Verdict) (o : IsOpen k.files x l pend s) (n epoch : ℕ) (env : NodeEnv) (is : IsNodeEnv k x.c n epoch env)
    (u : ℕ) (past : SizeMarks) (num : Numbers) (numbers : past.numbers ≡ Some num) (isn : num.isn ≡ l.w.first) (wrote : past.wrote ≡ l.w.bytes) (counted : past.served ≡ length l.vs)
    (parts : EndpointParts) (bytes : List ℕ) (spells : SpellsMessage x.c epoch (body.Offer parts) bytes) (was : Was x Front (Node n) bytes) (placed : IsPlaced x) (g : GoesItsWay env.serve.files x) (reads : Reads u x) where
  abbrev files : FilesAt
  files = env.serve.files

  abbrev m : ways_specs.WayMarks
  m = marks_at x

  abbrev p : NodePart
  p = x.part.nodes n

  abbrev Goal : NodeDeed → Type 0
  Goal d = DeedFits files env.serve.c x n u past d

  talk : IsTalk env l.w l.out l.vs
  talk = talk-of k small x s there l pend o n env epoch is

  -- where it is new
  pub new-fits : offer_answer env.epoch p.row ≡ New → Goal (offered_by env parts p New)
  new-fits new =
      let at : IsTaken files x l pend n epoch parts = new-taken k small x s there l pend o n epoch env is parts bytes spells was placed number g new in
      let count : m.served ≡ at.offering.count = o.tale.served ∙ sym at.offering.holds.holds.counted in
      let upto : at.offering.count ≡ u = sym (reads.away (λ i e. let no : ◌≡◌ {A = Option Place} None (Some (Node i)) = sym at.nobody ∙ e in absurd cc) ∙ count) in
      subst (λ (q : EndpointParts). Goal (offered_by env q p New)) (sym at.same)
      (takes-fit env x n u past l.w l.out l.vs pend l.was_reset talk num numbers isn wrote counted p at.offering.block at.offering.count at.offering.holds at.offering.frozen at.once.path at.next upto (at.offering.holds.holds.counted ∙ sym counted))
