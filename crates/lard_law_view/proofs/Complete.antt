-- A connection of which no timer runs is complete.
use Rattle.std.proofs.Common.{◌≡◌, ◌≢◌, ◌≤◌, ◌+◌, ◌^◌, ℕ, Bool, true, false, cond, not, ◌&&◌, List, map, length, take, arith, refl, ap, ◌∙◌, sym, subst}
use Rattle.std.proofs.lemmas.Bool.{and_parts, both_ways, eqb-true}
use Rattle.std.proofs.lemmas.List.{length-map}
use Rattle.std.proofs.Math.Seq.{take-length}
use Rattle.std.specs.List.{concat}
use Rattle.lard_law_view.specs.Prelude.{Accepts, Agrees, AtFront, Away, ClientBlock, ControlBlock, EndedAs, FilesAt, Final, FrontAgrees, Hears, HoldsIt, Nowhere, Over, Phase, Reason, SaysAnswers, Seat, Sending, Station, Stream, Tale, Verdict, answer, answer_bytes, answers, closes_any, is_clear, is_client_armed, is_client_open, is_closed, is_established, is_open_in, one_if, seat_armed, seq_add, symbols, verdicts}
use Rattle.lard_answers.proofs.Growing.{answers-are}
use Rattle.lard_base.specs.declared.place.Reason.TheVariants as reason
use Rattle.lard_client.specs.declared.phase.Phase.TheVariants.{Open, Aborted, Reset}
use Rattle.lard_law_view.proofs.Answered.{all-answered}
use Rattle.lard_law_view.proofs.Acked.{Acks, FrontHolds, heard_by, heard_of, taken_by}
use Rattle.lard_law_view.proofs.Holding.{ConnHolds}
use Rattle.lard_law_view.proofs.Story.{Story}

-- ---- two ends of a stream

-- a client that took all symbols of a stream accepted all its bytes, and its end
taken-all : (out : Stream) (x : ClientBlock) → Accepts out x → 1 + length out.bytes + one_if out.ended ≤ taken_by x
    → (x.accepted ≡ length out.bytes) × (out.ended ≡ true → x.eof ≡ true)
taken-all out x a le = go (is_established x) le where
  counted : (e : Bool) → x.eof ≡ e → (t : Bool) → out.ended ≡ t → 1 + length out.bytes + one_if t ≤ 1 + x.accepted + one_if e → (x.accepted ≡ length out.bytes) × (t ≡ true → e ≡ true)
  counted true is t at n = ((a.final is).0, λ _. refl)
  counted false is true at n = let within = a.within in absurd (omega (arith, n, within))
  counted false is false at n = let within = a.within in (omega (arith, n, within), λ e. e)

  go : (known : Bool) → 1 + length out.bytes + one_if out.ended ≤ cond known (1 + x.accepted + one_if x.eof) 0 → (x.accepted ≡ length out.bytes) × (out.ended ≡ true → x.eof ≡ true)
  go true n = counted x.eof refl out.ended refl n
  go false n = absurd (omega (arith, n))

-- a receiving half that took all symbols got all bytes, and the end
heard-all : (w : Stream) (b : ControlBlock) → Hears w b.recv → 1 + length w.bytes + one_if w.ended ≤ heard_by b.recv
    → (b.recv.got ≡ length w.bytes) × (w.ended ≡ true → b.recv.fin ≡ true)
heard-all w b h le = counted b.recv.fin refl w.ended refl le where
  counted : (e : Bool) → b.recv.fin ≡ e → (t : Bool) → w.ended ≡ t → 1 + length w.bytes + one_if t ≤ 1 + b.recv.got + one_if e → (b.recv.got ≡ length w.bytes) × (t ≡ true → e ≡ true)
  counted true is t at n = ((h.final is).0, λ _. refl)
  counted false is true at n = let within = h.within in absurd (omega (arith, n, within))
  counted false is false at n = let within = h.within in (omega (arith, n, within), λ e. e)

-- a half all of whose symbols are acknowledged
clear-una : (s : Sending) → is_clear s ≡ true → s.una ≡ symbols s
clear-una s e = eqb-true s.una (symbols s) e

-- ---- an end that both sides closed

-- the cluster's FIN is acknowledged, and the client's was taken
abbrev pub BothClosed : ControlBlock → Type 0
BothClosed b = (b.send.finished ≡ true) × (is_clear b.send ≡ true) × (b.recv.fin ≡ true)

pub both-closed : (b : ControlBlock) → is_closed b ≡ true → BothClosed b
both-closed b closed =
    let ends = and_parts (b.send.finished && is_clear b.send) b.recv.fin closed in
    let said = and_parts b.send.finished (is_clear b.send) ends.0 in
    (said.0, said.1, ends.1)

-- What its last numbers say was acknowledged is all that was said, so the client took all of that, and the end.
pub closed-taken : (files : FilesAt) (w out : Stream) (vs : List Verdict) (x : ClientBlock) → SaysAnswers files w out vs → (last : Final) → last.reason ≡ reason.Closed → EndedAs w out vs last → Acks out.first (taken_by x) last.snd.0
    → x.accepted ≤ 2 ^ 30 → 2 + length out.bytes ≤ taken_by x
closed-taken files w out vs x says last why e acks few = all_acked acks.0 acks.2 number where
  b : ControlBlock
  b = e.block

  both : BothClosed b
  both = both-closed b (e.both why)

  -- all that was sent was acknowledged
  sent : b.send.nxt ≡ 2 + length out.bytes
  sent =
      let una : b.send.una ≡ symbols b.send = clear-una b.send both.1 in
      let one : one_if b.send.finished ≡ 1 = ap one_if both.0 in
      let count : length out.bytes ≡ b.send.total = e.held.speaks.part.count in
      let more = e.held.sound.sending.sent in
      let less = e.held.sound.sending.queued in
      omega (arith, una, one, count, more, less)

  number : seq_add out.first (2 + length out.bytes) ≡ seq_add out.first acks.0
  number =
      let first : out.first ≡ b.send.iss = ap (λ (s : Stream). s.first) e.held.out_is in
      ap (seq_add out.first) (sym sent) ∙ ap (λ n. seq_add n b.send.nxt) first ∙ sym (ap (λ (l : Final). l.snd.0) e.is) ∙ acks.1

  taken_most : taken_by x ≤ 2 ^ 30 + 2
  taken_most = go (is_established x) x.eof where
    go : (known end : Bool) → cond known (1 + x.accepted + one_if end) 0 ≤ 2 ^ 30 + 2
    go true true = omega (arith, few)
    go true false = omega (arith, few)
    go false end = omega arith

  all_acked : (a : ℕ) → a ≤ taken_by x → seq_add out.first (2 + length out.bytes) ≡ seq_add out.first a → 2 + length out.bytes ≤ taken_by x
  all_acked a le same = let most = says.most in let first = says.number in let few = taken_most in omega (arith, le, same, most, first, few)

-- ---- what follows where all was taken

-- the client accepted all that was said, which answers all that it wrote, and ended where that closes or it was shut
pub record IsDone (w out : Stream) (vs : List Verdict) (x : ClientBlock) : Type 0 where
  pub accepted : x.accepted ≡ length out.bytes
  pub answered : verdicts w.bytes ≡ vs
  pub closes : closes_any vs ≡ true → x.eof ≡ true
  pub shut : w.ended ≡ true → x.eof ≡ true

-- the connection is one on which all that was sent was taken
module _ (files : FilesAt) (w out : Stream) (vs : List Verdict) (x : ClientBlock) (says : SaysAnswers files w out vs) (accepts : Accepts out x) where
  held-done : (b : ControlBlock) (count : ℕ) → HoldsIt w out vs b count → 1 + length w.bytes + one_if w.ended ≤ heard_by b.recv → 1 + length out.bytes + one_if out.ended ≤ taken_by x
      → IsDone w out vs x
  held-done b count h heard taken =
      let all = taken-all out x accepts taken in
      let got = heard-all w b h.hears heard in
      let ended : b.send.finished ≡ true → x.eof ≡ true = λ e. all.1 (ap (λ (s : Stream). s.ended) h.out_is ∙ e) in
      record {
        accepted = all.0;
        answered = all-answered w out vs b count files says h got.0;
        closes = λ e. ended (by-reading b.recv.discarding refl (λ d. absurd (both_ways (closes_any vs) (h.has_read.goes_on d) e)));
        shut = λ e. ended (by-reading b.recv.discarding refl (λ d. h.stopped.finishes d (got.1 e)));
      }
    where
      by-reading : (d : Bool) → b.recv.discarding ≡ d → (b.recv.discarding ≡ false → b.send.finished ≡ true) → b.send.finished ≡ true
      by-reading true e open_ = (h.has_read.stops e).0
      by-reading false e open_ = open_ e

  -- one that both sides closed
  closed-done : (last : Final) → last.reason ≡ reason.Closed → EndedAs w out vs last → Acks out.first (taken_by x) last.snd.0 → x.accepted ≤ 2 ^ 30 → IsDone w out vs x
  closed-done last why e acks few = held-done e.block e.count e.held heard taken where
    b : ControlBlock
    b = e.block

    both : BothClosed b
    both = both-closed b (e.both why)

    heard : 1 + length w.bytes + one_if w.ended ≤ heard_by b.recv
    heard =
        let done = e.held.hears.final both.2 in
        let got : b.recv.got ≡ length w.bytes = done.0 in
        let one : one_if w.ended ≡ 1 = ap one_if done.1 in
        let fin : one_if b.recv.fin ≡ 1 = ap one_if both.2 in
        omega (arith, got, one, fin)

    taken : 1 + length out.bytes + one_if out.ended ≤ taken_by x
    taken =
        let all : 2 + length out.bytes ≤ taken_by x = closed-taken files w out vs x says last why e acks few in
        let one : one_if out.ended ≡ 1 = ap one_if (ap (λ (s : Stream). s.ended) e.held.out_is ∙ both.0) in
        omega (arith, all, one)

-- ---- a connection of which no timer runs

module _ (files : FilesAt) (c : ℕ) (w out : Stream) (vs : List Verdict) (x : Station) (f : Seat) (t : Tale) (y : Story)
    (a : Agrees files c w out vs x f t) (r : ConnHolds x f y) (told : t.was_reset ≡ y.reset) (not_aborted : y.aborted ≡ false) (not_reset : y.reset ≡ false)
    (client_quiet : is_client_armed x.client ≡ false) (front_quiet : seat_armed f ≡ false) where
  open_ : is_client_open x.client ≡ true
  open_ = go x.client.phase refl where
    go : (p : Phase) → x.client.phase ≡ p → is_open_in p ≡ true
    go Open e = refl
    go Aborted e = absurd (both_ways y.aborted not_aborted (r.client.aborts e))
    go Reset e = absurd (both_ways y.reset not_reset (r.client.resets e))

  cleared : is_clear x.client.send ≡ true
  cleared = go (is_client_open x.client) open_ (is_clear x.client.send) client_quiet where
    go : (o : Bool) → o ≡ true → (k : Bool) → (o && not k) ≡ false → k ≡ true
    go true e true n = refl
    go true e false n = absurd (both_ways true n refl)
    go false e k n = absurd (both_ways false refl e)

  -- all symbols of the client were taken
  all_heard : 1 + length w.bytes + one_if w.ended ≤ heard_of x.client.send.iss f
  all_heard =
      let una : x.client.send.una ≡ symbols x.client.send = clear-una x.client.send cleared in
      let count : length w.bytes ≡ x.client.send.total = a.client.speaks.part.count in
      let end : one_if w.ended ≡ one_if x.client.send.finished = ap (λ (s : Stream). one_if s.ended) a.client.w_is in
      let acked = r.client.acknowledged in
      omega (arith, una, count, end, acked)

  few : x.client.accepted ≤ 2 ^ 30
  few = a.client.sound.bounded

  abbrev Done : Type 0
  Done = IsDone w out vs x.client

  front_done : (g : Seat) → f ≡ g → Done
  front_done Nowhere e = absurd (let heard = subst (λ (o : Seat). 1 + length w.bytes + one_if w.ended ≤ heard_of x.client.send.iss o) e all_heard in omega (arith, heard))
  front_done (AtFront b count) e =
      let h : HoldsIt w out vs b count = subst (FrontAgrees w out vs t.was_reset) e a.front in
      let heard : 1 + length w.bytes + one_if w.ended ≤ heard_by b.recv = subst (λ (o : Seat). 1 + length w.bytes + one_if w.ended ≤ heard_of x.client.send.iss o) e all_heard in
      let clear : is_clear b.send ≡ true = not_not (is_clear b.send) (sym (ap seat_armed e) ∙ front_quiet) in
      let una : b.send.una ≡ symbols b.send = clear-una b.send clear in
      let count : length out.bytes ≡ b.send.total = h.speaks.part.count in
      let end : one_if out.ended ≡ one_if b.send.finished = ap (λ (s : Stream). one_if s.ended) h.out_is in
      let most : b.send.una ≤ taken_by x.client = (subst (λ (o : Seat). FrontHolds x.iss (taken_by x.client) y.aborted o) e r.front).0 in
      held-done files w out vs x.client a.says a.client.accepts b _ h heard (omega (arith, una, count, end, most))
    where
      not_not : (k : Bool) → not k ≡ false → k ≡ true
      not_not true n = refl
      not_not false n = absurd (both_ways true n refl)
  front_done Away e = absurd (subst (FrontAgrees w out vs t.was_reset) e a.front)
  front_done (Over last) e = by-reason last.reason refl where
    h : FrontAgrees w out vs t.was_reset (Over last)
    h = subst (FrontAgrees w out vs t.was_reset) e a.front

    held : FrontHolds x.iss (taken_by x.client) y.aborted (Over last)
    held = subst (λ (o : Seat). FrontHolds x.iss (taken_by x.client) y.aborted o) e r.front

    not_limit : last.reason ≡ reason.Closed → last.reason ≢ reason.Limit
    not_limit is l = let no : reason.Closed ≡ reason.Limit = sym is ∙ l in cc

    by-reason : (why : Reason) → last.reason ≡ why → Done
    by-reason reason.Closed is = closed-done files w out vs x.client a.says a.client.accepts last is (h.ended (not_limit is)) (subst (λ (n : ℕ). Acks n (taken_by x.client) last.snd.0) (sym a.begins) (held.0 is)) few
    by-reason reason.Peer is = absurd (both_ways y.aborted not_aborted (held.1 is))
    by-reason reason.Limit is = absurd (both_ways y.reset not_reset (sym told ∙ h.limit is))

  pub is-done : Done
  is-done = front_done f refl

  -- as many were served as there are answers to what it wrote
  pub served-all : t.served ≡ length (answers files t.wrote)
  served-all =
      let done : Done = is-done in
      a.tale.served
      ∙ ap (λ (us : List Verdict). length us) (sym done.answered)
      ∙ sym (length-map (verdicts w.bytes) (answer files))
      ∙ ap (λ (all : List (List ℕ)). length all) (sym (answers-are files w.bytes))
      ∙ ap (λ (bytes : List ℕ). length (answers files bytes)) (sym a.tale.wrote)

  -- what it accepted are the answers to what it wrote
  pub accepted-all : t.accepted ≡ answer_bytes files t.wrote
  accepted-all =
      let done : Done = is-done in
      a.tale.accepted
      ∙ ap (λ n. take n out.bytes) done.accepted
      ∙ take-length out.bytes
      ∙ a.says.spoken
      ∙ ap (λ (us : List Verdict). concat (map (answer files) us)) (sym done.answered)
      ∙ ap concat (sym (answers-are files w.bytes))
      ∙ ap (answer_bytes files) (sym a.tale.wrote)

  pub closes-ended : closes_any (verdicts t.wrote) ≡ true → y.ended ≡ true
  closes-ended e = let done : Done = is-done in r.ended (done.closes (ap closes_any (sym done.answered) ∙ ap (λ (l : List ℕ). closes_any (verdicts l)) (sym a.tale.wrote) ∙ e))

  pub shut-ended : y.shut ≡ true → y.ended ≡ true
  shut-ended e = let done : Done = is-done in r.ended (done.shut (ap (λ (s : Stream). s.ended) a.client.w_is ∙ r.shut open_ e))
