-- What the laws of bytes and of acknowledgements give a settle: how much the client said and took, how much an endpoint knows of that, and
-- how many requests were read.
use Rattle.std.proofs.Common.{◌≡◌, ◌≤◌, ◌+◌, ◌==◌, not, ℕ, Bool, true, false, cond, List, [], ◌++◌, map, length, append-nil, refl, ap, ◌∙◌, subst, arith}
use Rattle.std.proofs.lemmas.Bool.{and_parts, both_ways, cond_both, eqb-true, not-true}
use Rattle.std.proofs.lemmas.List.{length-append, length-map}
use Rattle.lard_law_view.specs.Prelude.{ClientAgrees, ClientBlock, ControlBlock, Entry, FilesAt, IsPrefix, SaysAnswers, Station, Stream, Talk, Verdict, answer_bytes, is_clear, may_freeze, one_if, verdicts}
use Rattle.lard_bound.specs.Units.{Whole, symbols_taken, whole_of}
use Rattle.lard_law_connections.specs.BytesAgreement.{HoldsItPending}
use Rattle.lard_law_view.proofs.Prefix.{said-front}
use Rattle.lard_law_view.proofs.Acked.{taken_by}
use Rattle.lard_law_view.proofs.Growth.{front-length}

-- ---- words for the same

-- how much a client took, as both laws count it
pub taken-same : (x : ClientBlock) → symbols_taken x ≡ taken_by x
taken-same x = go (x.send.una == 0) where
  end_ : (e : Bool) → cond e 1 0 ≡ one_if e
  end_ true = refl
  end_ false = refl

  go : (b : Bool) → cond b 0 (1 + x.accepted + cond x.eof 1 0) ≡ cond (not b) (1 + x.accepted + one_if x.eof) 0
  go true = refl
  go false = ap (λ n. 1 + x.accepted + n) (end_ x.eof)

-- no more than what it accepted, its SYN and its FIN
pub taken-most : (x : ClientBlock) (n m : ℕ) → x.accepted ≤ n → (x.eof ≡ true → 1 ≤ m) → symbols_taken x ≤ 1 + n + m
taken-most x n m some fin = cond_both (x.send.una == 0) 0 (1 + x.accepted + cond x.eof 1 0) (λ t. t ≤ 1 + n + m) (λ t. omega arith) (λ t. go x.eof fin) where
  go : (e : Bool) → (e ≡ true → 1 ≤ m) → 1 + x.accepted + cond e 1 0 ≤ 1 + n + m
  go true fin = let f : 1 ≤ m = fin refl in omega (arith, some, f)
  go false fin = omega (arith, some)

prefix-length : {A : Type 0} → (xs ys : List A) → IsPrefix xs ys → length xs ≤ length ys
prefix-length xs ys f = let e : length ys ≡ length (xs ++ f.0) = ap (λ (zs : List _). length zs) f.1 in let l = length-append xs f.0 in omega (arith, e, l)

pub one-most : (b : Bool) → one_if b ≤ 1
one-most true = omega arith
one-most false = omega arith

-- ---- one connection

module _ (files : FilesAt) (c : ℕ) (st : Station) (k : Talk) (client : ClientAgrees c k.w k.out st.client) (says : SaysAnswers files k.w k.out k.vs) (w : Whole) (is : w ≡ whole_of files w.leaving k.w.bytes) where
  -- no more of it is acknowledged than its SYN, bytes and FIN
  pub client-said : st.client.send.una ≤ w.written + 2
  client-said =
      let s = client.speaks in
      let sent = s.sound.sent in
      let queued = s.sound.queued in
      let count = s.part.count in
      let one = one-most st.client.send.finished in
      let e : w.written ≡ length k.w.bytes = ap (λ (w : Whole). w.written) is in
      omega (arith, sent, queued, count, one, e)

  answers-most : length k.out.bytes ≤ w.answers
  answers-most =
      let l = front-length k.out.bytes (answer_bytes files k.w.bytes) (said-front files k.w k.out k.vs says) in
      let e : w.answers ≡ length (answer_bytes files k.w.bytes) = ap (λ (w : Whole). w.answers) is in
      omega (arith, l, e)

  -- it took no more than the SYN, the bytes of all responses and the FIN
  pub client-took : symbols_taken st.client ≤ w.answers + 2
  client-took =
      let m = answers-most in
      let t = taken-most st.client (length k.out.bytes) 1 client.accepts.within (λ e. omega arith) in
      omega (arith, m, t)

  -- what was answered, and what was read behind that, are among all requests
  pub read-most : (b : ControlBlock) (pend : List Verdict) (count : ℕ) → HoldsItPending k.w k.out k.vs pend b count → count + length pend ≤ w.requests
  read-most b pend count h =
      let f : IsPrefix (k.vs ++ pend) (verdicts k.w.bytes) = subst (λ (bytes : List ℕ). IsPrefix (k.vs ++ pend) (verdicts bytes)) (append-nil k.w.bytes) (h.has_read.fronts []) in
      let l = prefix-length (k.vs ++ pend) (verdicts k.w.bytes) f in
      let a = length-append k.vs pend in
      let n : count ≡ length k.vs = h.counted in
      let e : w.requests ≡ length (verdicts k.w.bytes) = ap (λ (w : Whole). w.requests) is in
      omega (arith, l, a, n, e)

  pub stay-most : (b : ControlBlock) (pend : List Verdict) (count : ℕ) (batch : List Entry) → pend ≡ map (λ e. e.verdict) batch → HoldsItPending k.w k.out k.vs pend b count → count + length batch ≤ w.requests
  stay-most b pend count batch same h =
      let m = read-most b pend count h in
      let l : length pend ≡ length batch = ap (λ (vs : List Verdict). length vs) same ∙ length-map batch (λ e. e.verdict) in
      omega (arith, m, l)

  -- ---- an endpoint that may move

  -- all that the client took was acknowledged to it
  pub frozen-knows : (b : ControlBlock) (pend : List Verdict) (count : ℕ) → HoldsItPending k.w k.out k.vs pend b count → may_freeze b ≡ true → symbols_taken st.client ≤ b.send.una
  frozen-knows b pend count h may =
      let parts = and_parts (is_clear b.send) (not b.send.finished) (and_parts _ _ may).0 in
      let shut : b.send.finished ≡ false = not-true b.send.finished parts.1 in
      let all : b.send.una ≡ 1 + b.send.total + one_if b.send.finished = eqb-true b.send.una (1 + b.send.total + one_if b.send.finished) parts.0 in
      let ended : k.out.ended ≡ false = ap (λ (s : Stream). s.ended) h.out_is ∙ shut in
      let none : one_if b.send.finished ≡ 0 = ap one_if shut in
      let count : length k.out.bytes ≡ b.send.total = h.speaks.part.count in
      let t = taken-most st.client (length k.out.bytes) 0 client.accepts.within (λ e. absurd (both_ways k.out.ended ended (client.accepts.final e).1)) in
      omega (arith, all, none, count, t)
