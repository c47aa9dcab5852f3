-- What a segment of the client says that a node gets, by the laws of bytes and of acknowledgements.
use Rattle.std.proofs.Common.{◌≡◌, ◌<◌, ◌≤◌, ◌+◌, ◌^◌, ◌==◌, not, ℕ, Bool, true, false, cond, List, length, Ok, sym, ap, subst, arith}
use Rattle.lard_law_view.specs.Prelude.{ClientBlock, Conn, ControlBlock, FilesAt, Front, IsStream, Letter, MAX_STREAM_BYTES, Message, Node, Said, SpellsMessage, Station, Stream, Talk, ToCluster, Verdict, Was, decoded, one_if, seg_len, seq_add, seq_offset}
use Rattle.lard_laws.specs.Acks.{LetterActs, OpenActs, bounds_of}
use Rattle.lard_law_connections.specs.BytesAgreement.{IsFair, IsOpen}
use Rattle.lard_law_connections.proofs.PlacesFrontRules.{has-each}
use Rattle.lard_law_settles.proofs.KnownSegments.{acks-most, read-is, symbols-within}
use Rattle.lard_law_settles.proofs.KnownCounting.{one-most, taken-same}
use Rattle.lard_law_view.specs.Agreement as agreement
use Rattle.lard_law_view.proofs.Acked.{WordMay, taken_by}
use Rattle.lard_message.specs.declared.message.Body.TheVariants as body
use Rattle.lard_law_progress.proofs.AnswersNodeGiven.{IsForwarded}
use Rattle.lard_law_progress.proofs.Data.{heard}

-- a refusal has the number of what was acknowledged
abbrev pub Refuses : ℕ → ℕ → Said → Type 0
Refuses first most s = s.flags.rst ≡ true → s.flags.ack ≡ false → (seg_len s ≡ 0) × (a : ℕ) × (s.seq ≡ seq_add first a) × (a ≤ most)

-- how much is taken at the most
pub took-most : (x : ClientBlock) (n : ℕ) → x.accepted ≤ n → taken_by x ≤ 2 + n
took-most x n some = go (x.send.una == 0) where
  go : (b : Bool) → cond (not b) (1 + x.accepted + one_if x.eof) 0 ≤ 2 + n
  go true = omega arith
  go false = let o = one-most x.eof in omega (arith, o, some)

module _ (files : FilesAt) (x : Conn) (st : Station) (k : Talk) (pend : List Verdict) (o : IsOpen files x k pend st) (acts : OpenActs x st) where
  pub is-stream : IsStream k.w
  is-stream =
      let count : length k.w.bytes ≡ st.client.send.total = o.client.speaks.part.count in
      let most : st.client.send.total ≤ MAX_STREAM_BYTES = o.client.speaks.sound.most in
      record { number = subst (λ n. n < 2 ^ 32) (sym (ap (λ (y : Stream). y.first) o.client.w_is)) o.client.speaks.number; most = omega (arith, count, most) }

  pub taken-small : taken_by st.client < 2 ^ 32
  taken-small =
      let a : st.client.accepted ≤ length k.out.bytes = o.client.accepts.within in
      let most : length k.out.bytes ≤ MAX_STREAM_BYTES = o.says.most in
      let t = took-most st.client MAX_STREAM_BYTES (omega (arith, a, most)) in
      omega (arith, t)

  pub word-forwarded : (b : ControlBlock) (s : Said) → agreement.IsWord k.w s → WordMay st.iss (taken_by st.client) (bounds_of x st acts.heard).aborted s → Refuses st.client.send.iss (heard b.recv) s → IsForwarded st b s
  word-forwarded b s word may refuses = record {
    seq_small = word.sendable.seq_fits;
    acks = λ acks. let m = acks-most st.iss (taken_by st.client) s.ack (subst (λ n. n < 2 ^ 32) o.begins o.says.number) taken-small (may.acks acks) in let same = taken-same st.client in omega (arith, m, same);
    within = λ rst some.
        let h = symbols-within k.w is-stream s word.true_of some in
        let first : seq_offset s.seq k.w.first ≡ seq_offset s.seq st.client.send.iss = ap (seq_offset s.seq) (ap (λ (y : Stream). y.first) o.client.w_is) in
        let count : length k.w.bytes ≡ st.client.send.total = o.client.speaks.part.count in
        let ended : one_if k.w.ended ≡ one_if st.client.send.finished = ap one_if (ap (λ (y : Stream). y.ended) o.client.w_is) in
        omega (arith, h, first, count, ended);
    refuses = refuses;
  }

  -- one that the front end forwarded
  pub forwarded : (n e : ℕ) (b : ControlBlock) (segment bytes : List ℕ) (s : Said) → SpellsMessage x.c e (body.Forward segment) bytes → Was x Front (Node n) bytes → decoded segment x.c ToCluster ≡ Ok s
      → Refuses st.client.send.iss (heard b.recv) s → IsForwarded st b s
  forwarded n e b segment bytes s spells was read refuses =
      let l : Letter = record { from = Front; to = Node n; bytes = bytes } in
      let m : Message = record { c = x.c; epoch = record { 0 = e }; body = body.Forward segment } in
      let fair = has-each (IsFair k x.c x.part) l x.letters was o.fair m spells in
      let may = has-each (LetterActs x.c (bounds_of x st acts.heard) x.part) l x.letters was acts.within.packets m spells s read in
      let same : fair.0 ≡ s = read-is x.c ToCluster segment fair.0 s fair.1 fair.2.sendable read in
      word-forwarded b s (subst (agreement.IsWord k.w) same fair.2) may refuses
