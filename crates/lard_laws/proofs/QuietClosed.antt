-- A connection that ended is complete: what its last numbers are of had answered all, and its client took all of that.
use Rattle.std.proofs.Common.{◌≡◌, ◌≤◌, ◌+◌, ℕ, Bool, true, false, cond, List, [], ◌∷◌, ◌++◌, map, length, take, append-nil, arith, Some, refl, sym, ap, ◌∙◌, subst}
use Rattle.std.proofs.lemmas.Bool.{both_ways}
use Rattle.std.proofs.lemmas.List.{length-append, length-map}
use Rattle.std.proofs.Math.Seq.{take-length}
use Rattle.std.specs.List.{concat}
use Rattle.lard_law_view.specs.Prelude.{Conn, FilesAt, Final, FrontRow, IsPrefix, Reason, Station, Stream, Talk, Verdict, answer, answer_bytes, answers, is_established, one_if, verdicts}
use Rattle.lard_answers.proofs.Growing.{answers-are}
use Rattle.lard_base.specs.declared.place.Reason.TheVariants as reason
use Rattle.lard_laws.specs.Acks.{AcksWhatWasTaken, EndActs, FrontActs, FrontStageActs, OpenActs, StationActs, bounds_of, story_at}
use Rattle.lard_laws.proofs.AcksStory.{reset-told}
use Rattle.lard_law_connections.specs.BytesAgreement.{EndedWithNumbers, IsOpen, IsTruthful, SeatAgrees, StageAgrees}
use Rattle.lard_law_connections.proofs.BytesClientMoves.{open-at}
use Rattle.lard_laws.specs.EndedEnds.{EndsAreTrue, IsTrueEnd, RowEnds, StageEnds, StationEnds, TellsEnds, WasClosed, written_by}
use Rattle.lard_laws.proofs.EndedClients.{written-is}
use Rattle.lard_laws.proofs.QuietComplete.{IsDone}
use Rattle.lard_handoff_front.specs.declared.row.FrontConn.TheVariants as stage
use Rattle.lard_law_view.proofs.Answered.{all-answered}
use Rattle.lard_law_view.proofs.Prefix.{said-front}
use Rattle.lard_law_view.proofs.Acked.{Acks, taken_by}
use Rattle.lard_law_view.proofs.Complete.{both-closed, closed-taken}
use Rattle.lard_rules.proofs.Serving.{answer-some}
use Rattle.lard_rules.specs.declared.places.Ending.TheVariants as ending

-- the front of a list that is as long is the whole
whole-front : (xs ys rest : List ℕ) → ys ≡ xs ++ rest → length ys ≤ length xs → ys ≡ xs
whole-front xs ys rest e le = e ∙ ap (λ l. xs ++ l) (none rest (omega (arith, ap length e, length-append xs rest, le))) ∙ append-nil xs where
  none : (l : List ℕ) → length l ≡ 0 → l ≡ []
  none [] h = refl
  none (a ∷ l) h = absurd (omega (arith, h))

-- verdicts that are answered by no more bytes than their front are that front
none-more : (files : FilesAt) (vs more : List Verdict) → length (concat (map (answer files) (vs ++ more))) ≤ length (concat (map (answer files) vs)) → more ≡ []
none-more files [] [] le = refl
none-more files [] (v ∷ more) le =
    let some = answer-some files v in
    let sum : length (answer files v ++ concat (map (answer files) more)) ≡ length (answer files v) + length (concat (map (answer files) more)) = length-append (answer files v) (concat (map (answer files) more)) in
    absurd (omega (arith, some, sum, le))
none-more files (v ∷ vs) more le =
    let all : length (answer files v ++ concat (map (answer files) (vs ++ more))) ≡ length (answer files v) + length (concat (map (answer files) (vs ++ more))) = length-append (answer files v) (concat (map (answer files) (vs ++ more))) in
    let some : length (answer files v ++ concat (map (answer files) vs)) ≡ length (answer files v) + length (concat (map (answer files) vs)) = length-append (answer files v) (concat (map (answer files) vs)) in
    none-more files vs more (omega (arith, all, some, le))

-- one that took a stream's bytes and one symbol more, and accepted no more bytes than those, took its end
took-end : (known end : Bool) (accepted bytes : ℕ) → 2 + bytes ≤ cond known (1 + accepted + one_if end) 0 → accepted ≤ bytes → (end ≡ true) × (bytes ≡ accepted)
took-end true true accepted bytes le within = (refl, omega (arith, le, within))
took-end true false accepted bytes le within = absurd (omega (arith, le, within))
took-end false end accepted bytes le within = absurd (omega (arith, le))

module _ (files : FilesAt) (x : Conn) (truth : IsTruthful files x) (acts : AcksWhatWasTaken x) (told : EndsAreTrue files x) (not_aborted : (story_at x).aborted ≡ false) (not_reset : (story_at x).reset ≡ false) (s : Station) (there : x.part.station ≡ Some s)
    (row : FrontRow) (last : Final) (found : x.part.front.row ≡ Some row) (at : row.stage ≡ stage.Closed last) where
  abbrev l : Talk
  l = truth.talk

  o : IsOpen files x l truth.pend s
  o = open-at files x s there truth

  r : OpenActs x s
  r = subst (StationActs x) there acts

  act : EndActs (bounds_of x s r.heard) (ending.Over last)
  act = subst (FrontStageActs (bounds_of x s r.heard)) at (subst (FrontActs (bounds_of x s r.heard)) found r.within.front)

  agrees : EndedWithNumbers l.w l.was_reset last
  agrees = subst (StageAgrees l.w l.out l.vs truth.pend l.was_reset x.c x.part row.epoch.0) at (subst (SeatAgrees l.w l.out l.vs truth.pend l.was_reset x.c x.part) found o.seat)

  -- both sides had closed it
  module _ (why : last.reason ≡ reason.Closed) where
    was : WasClosed files l.w s.iss last
    was =
        let P : Final → Type 0 = IsTrueEnd files (written_by x s) s.iss in
        let ends : TellsEnds P x = subst (StationEnds files x) there told in
        let end : P last = subst (StageEnds P) at (subst (RowEnds P) found ends.front) in
        subst (λ (w : Stream). WasClosed files w s.iss last) (sym (written-is files x s l truth.pend o)) (end why)

    -- it had answered all that was written
    answered : verdicts l.w.bytes ≡ was.vs
    answered =
        let e = was.ended in
        all-answered l.w was.out was.vs e.block e.count files was.says e.held (e.held.hears.final (both-closed e.block (e.both why)).2).0

    all-said : answer_bytes files l.w.bytes ≡ was.out.bytes
    all-said = ap concat (answers-are files l.w.bytes) ∙ ap (λ (us : List Verdict). concat (map (answer files) us)) answered ∙ sym was.says.spoken

    -- and its client took all of that
    taken : 2 + length was.out.bytes ≤ taken_by s.client
    taken =
        let acks : Acks was.out.first (taken_by s.client) last.snd.0 = subst (λ (n : ℕ). Acks n (taken_by s.client) last.snd.0) (sym was.begins) (act.1.0 why) in
        closed-taken files l.w was.out was.vs s.client was.says last why was.ended acks o.client.sound.bounded

    -- no more was said than all answers
    said-most : length l.out.bytes ≤ length was.out.bytes
    said-most = let front = said-front files l.w l.out l.vs o.says in omega (arith, ap length front.1, length-append l.out.bytes front.0, ap length all-said)

    took : (s.client.eof ≡ true) × (length was.out.bytes ≡ s.client.accepted)
    took = took-end (is_established s.client) s.client.eof s.client.accepted (length was.out.bytes) taken (let within = o.client.accepts.within in let most = said-most in omega (arith, within, most))

    said-all : l.out.bytes ≡ answer_bytes files l.w.bytes
    said-all =
        let front = said-front files l.w l.out l.vs o.says in
        let within = o.client.accepts.within in
        sym (whole-front l.out.bytes (answer_bytes files l.w.bytes) front.0 front.1 (omega (arith, ap length all-said, took.1, within)))

    -- so each verdict was answered
    all-served : verdicts l.w.bytes ≡ l.vs
    all-served =
        let front : IsPrefix l.vs (verdicts l.w.bytes) = subst (λ (q : List ℕ). IsPrefix l.vs (verdicts q)) (append-nil l.w.bytes) (o.says.fronts []) in
        let same : concat (map (answer files) (l.vs ++ front.0)) ≡ concat (map (answer files) l.vs) =
        ap (λ (us : List Verdict). concat (map (answer files) us)) (sym front.1) ∙ ap concat (sym (answers-are files l.w.bytes)) ∙ sym said-all ∙ o.says.spoken in
        front.1 ∙ ap (λ (us : List Verdict). l.vs ++ us) (none-more files l.vs front.0 (let sizes = ap (λ (xs : List ℕ). length xs) same in omega (arith, sizes))) ∙ append-nil l.vs

    both-done : IsDone files x
    both-done = record {
      responses = o.tale.served ∙ ap (λ (us : List Verdict). length us) (sym all-served) ∙ sym (length-map (verdicts l.w.bytes) (answer files))
          ∙ ap (λ (all : List (List ℕ)). length all) (sym (answers-are files l.w.bytes)) ∙ ap (λ (bytes : List ℕ). length (answers files bytes)) (sym o.tale.wrote);
      all = o.tale.accepted_is ∙ ap (λ (n : ℕ). take n l.out.bytes) (o.client.accepts.final took.0).0 ∙ take-length l.out.bytes ∙ said-all ∙ ap (answer_bytes files) (sym o.tale.wrote);
      ends = λ e. r.ended took.0;
      shut = λ e. r.ended took.0;
    }

  pub closed-done : IsDone files x
  closed-done = by-reason last.reason refl where
    by-reason : (why : Reason) → last.reason ≡ why → IsDone files x
    by-reason reason.Closed is = both-done is
    by-reason reason.Peer is = absurd (both_ways (story_at x).aborted not_aborted (act.1.1 is))
    by-reason reason.Limit is = absurd (both_ways (story_at x).reset not_reset (reset-told x ∙ o.tale.was_reset ∙ agrees.limit is))
