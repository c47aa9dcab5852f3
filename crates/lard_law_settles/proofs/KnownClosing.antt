-- A connection that both sides closed: its last numbers are those behind all that its client took and has.
use Rattle.std.proofs.Common.{◌≡◌, ◌≤◌, ◌<◌, ◌+◌, ◌^◌, ◌==◌, not, ℕ, Bool, true, false, cond, List, map, length, arith, Some, sym, ap, ◌∙◌, subst}
use Rattle.std.proofs.lemmas.Bool.{eqb-true}
use Rattle.std.proofs.lemmas.List.{length-append}
use Rattle.std.specs.List.{concat}
use Rattle.lard_law_view.specs.Prelude.{Conn, FilesAt, Final, FrontRow, MAX_STREAM_BYTES, Station, Stream, Talk, Verdict, answer, answer_bytes, one_if, seq_add, seq_offset, symbols, verdicts}
use Rattle.lard_answers.proofs.Growing.{answers-are}
use Rattle.lard_base.specs.declared.place.Reason.TheVariants as reason
use Rattle.lard_bound.specs.Units.{symbols_taken}
use Rattle.lard_laws.specs.Acks.{AcksWhatWasTaken, EndActs, FrontActs, FrontStageActs, OpenActs, StationActs, bounds_of}
use Rattle.lard_law_connections.specs.BytesAgreement.{EndedWithNumbers, IsOpen, IsTruthful, SeatAgrees, StageAgrees}
use Rattle.lard_law_connections.proofs.BytesClientMoves.{open-at}
use Rattle.lard_laws.specs.EndedEnds.{EndsAreTrue, IsTrueEnd, RowEnds, StageEnds, StationEnds, TellsEnds, WasClosed, written_by}
use Rattle.lard_laws.proofs.EndedClients.{written-is}
use Rattle.lard_handoff_front.specs.declared.row.FrontConn.TheVariants as stage
use Rattle.lard_law_view.proofs.Answered.{all-answered}
use Rattle.lard_law_view.proofs.Prefix.{said-front}
use Rattle.lard_law_view.proofs.Acked.{Acks, taken_by}
use Rattle.lard_law_view.proofs.Complete.{BothClosed, both-closed, closed-taken}
use Rattle.lard_law_progress.proofs.AnswersFrontGiven.{HasClosed}
use Rattle.lard_rules.specs.declared.places.Ending.TheVariants as ending
use Rattle.lard_seq.proofs.Laws.{offset-add}

-- a client that took as much as this many bytes, the SYN and the FIN, and accepted no more bytes
took-all : (none eof : Bool) (accepted bytes : ℕ) → 2 + bytes ≤ cond (not none) (1 + accepted + one_if eof) 0 → accepted ≤ bytes → cond none 0 (1 + accepted + cond eof 1 0) ≡ 2 + bytes
took-all true eof accepted bytes le within = absurd (omega (arith, le))
took-all false true accepted bytes le within = omega (arith, le, within)
took-all false false accepted bytes le within = absurd (omega (arith, le, within))

module _ (files : FilesAt) (x : Conn) (truth : IsTruthful files x) (acts : AcksWhatWasTaken x) (told : EndsAreTrue files x) (st : Station) (there : x.part.station ≡ Some st)
    (row : FrontRow) (last : Final) (found : x.part.front.row ≡ Some row) (at : row.stage ≡ stage.Closed last) where
  abbrev l : Talk
  l = truth.talk

  o : IsOpen files x l truth.pend st
  o = open-at files x st there truth

  r : OpenActs x st
  r = subst (StationActs x) there acts

  act : EndActs (bounds_of x st r.heard) (ending.Over last)
  act = subst (FrontStageActs (bounds_of x st r.heard)) at (subst (FrontActs (bounds_of x st r.heard)) found r.within.front)

  agrees : EndedWithNumbers l.w l.was_reset last
  agrees = subst (StageAgrees l.w l.out l.vs truth.pend l.was_reset x.c x.part row.epoch.0) at (subst (SeatAgrees l.w l.out l.vs truth.pend l.was_reset x.c x.part) found o.seat)

  module _ (why : last.reason ≡ reason.Closed) where
    was : WasClosed files l.w st.iss last
    was =
        let P : Final → Type 0 = IsTrueEnd files (written_by x st) st.iss in
        let ends : TellsEnds P x = subst (StationEnds files x) there told in
        let end : P last = subst (StageEnds P) at (subst (RowEnds P) found ends.front) in
        subst (λ (w : Stream). WasClosed files w st.iss last) (sym (written-is files x st l truth.pend o)) (end why)

    both : BothClosed was.ended.block
    both = both-closed was.ended.block (was.ended.both why)

    -- it had answered all that was written, and no more was said
    all-said : answer_bytes files l.w.bytes ≡ was.out.bytes
    all-said =
        let e = was.ended in
        let answered : verdicts l.w.bytes ≡ was.vs = all-answered l.w was.out was.vs e.block e.count files was.says e.held (e.held.hears.final both.2).0 in
        ap concat (answers-are files l.w.bytes) ∙ ap (λ (us : List Verdict). concat (map (answer files) us)) answered ∙ sym was.says.spoken

    said-most : length l.out.bytes ≤ length was.out.bytes
    said-most = let front = said-front files l.w l.out l.vs o.says in omega (arith, ap length front.1, length-append l.out.bytes front.0, ap length all-said)

    -- its client took all of that
    took : symbols_taken st.client ≡ 2 + length was.out.bytes
    took =
        let acks : Acks was.out.first (taken_by st.client) last.snd.0 = subst (λ (n : ℕ). Acks n (taken_by st.client) last.snd.0) (sym was.begins) (act.1.0 why) in
        let most = closed-taken files l.w was.out was.vs st.client was.says last why was.ended acks o.client.sound.bounded in
        let within = o.client.accepts.within in
        let fewer = said-most in
        took-all (st.client.send.una == 0) st.client.eof st.client.accepted (length was.out.bytes) most (omega (arith, within, fewer))

    -- ---- the last numbers

    snd-is : seq_offset last.snd.0 st.iss ≡ symbols_taken st.client
    snd-is =
        let e = was.ended in
        let una : e.block.send.una ≡ symbols e.block.send = eqb-true e.block.send.una (symbols e.block.send) both.1 in
        let one : one_if e.block.send.finished ≡ 1 = ap one_if both.0 in
        let count : length was.out.bytes ≡ e.block.send.total = e.held.speaks.part.count in
        let more = e.held.sound.sending.sent in
        let less = e.held.sound.sending.queued in
        let nxt : e.block.send.nxt ≡ 2 + length was.out.bytes = omega (arith, una, one, count, more, less) in
        let first : e.block.send.iss ≡ st.iss = sym (ap (λ (s : Stream). s.first) e.held.out_is) ∙ was.begins in
        let number : last.snd.0 ≡ seq_add st.iss (2 + length was.out.bytes) = ap (λ (f : Final). f.snd.0) e.is ∙ (λ i. seq_add (first i) (nxt i)) in
        let small : st.iss < 2 ^ 32 = subst (λ n. n < 2 ^ 32) was.begins was.says.number in
        let most : length was.out.bytes ≤ MAX_STREAM_BYTES = was.says.most in
        ap (λ n. seq_offset n st.iss) number ∙ offset-add st.iss (2 + length was.out.bytes) small (omega (arith, most)) ∙ sym took

    rcv-is : seq_offset last.rcv.0 st.client.send.iss ≡ symbols st.client.send
    rcv-is =
        let e = was.ended in
        let done = e.held.hears.final both.2 in
        let got : e.block.recv.got ≡ length l.w.bytes = done.0 in
        let fin : one_if e.block.recv.fin ≡ 1 = ap one_if both.2 in
        let isn : l.w.first ≡ st.client.send.iss = ap (λ (s : Stream). s.first) o.client.w_is in
        let shut : one_if st.client.send.finished ≡ 1 = ap one_if (sym (ap (λ (s : Stream). s.ended) o.client.w_is) ∙ done.1) in
        let count : length l.w.bytes ≡ st.client.send.total = o.client.speaks.part.count in
        let all : 1 + e.block.recv.got + one_if e.block.recv.fin ≡ symbols st.client.send = omega (arith, got, fin, shut, count) in
        let first : e.block.recv.irs ≡ st.client.send.iss = e.held.hears.first ∙ isn in
        let number : last.rcv.0 ≡ seq_add st.client.send.iss (symbols st.client.send) = ap (λ (f : Final). f.rcv.0) e.is ∙ (λ i. seq_add (first i) (all i)) in
        let small : st.client.send.iss < 2 ^ 32 = o.client.speaks.number in
        let most : e.block.recv.got ≤ MAX_STREAM_BYTES = e.held.sound.received.received in
        ap (λ n. seq_offset n st.client.send.iss) number ∙ offset-add st.client.send.iss (symbols st.client.send) small (omega (arith, all, most, fin))

  pub has-closed : HasClosed st last
  has-closed = record { snd_small = agrees.snd_fits; rcv_small = agrees.rcv_fits; all = λ why open_. (snd-is why, rcv-is why) }
