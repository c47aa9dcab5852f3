-- An endpoint that has said all talks with its client, by the laws of bytes and of acknowledgements: its numbers are the client's, no more is
-- acknowledged than was taken, and all that the client says is within its window.
use Rattle.std.proofs.Common.{◌≡◌, ◌<◌, ◌≤◌, ◌+◌, ◌-◌, ◌^◌, ◌==◌, min, ℕ, Bool, true, false, List, length, None, refl, sym, ap, ◌∙◌, subst, arith}
use Rattle.std.proofs.lemmas.Bool.Decides.{nat_tests}
use Rattle.lard_law_view.specs.Prelude.{ClientBlock, Conn, ControlBlock, FilesAt, MAX_STREAM_BYTES, RECEIVE_WINDOW, Station, Stream, Talk, Verdict, emitted, may_end, one_if, symbols}
use Rattle.lard_client.specs.declared.phase.Phase.TheVariants as phase
use Rattle.lard_laws.specs.Acks.{EndActs, OpenActs, bounds_of}
use Rattle.lard_law_connections.specs.BytesAgreement.{HoldsItPending, IsOpen}
use Rattle.lard_law_view.proofs.Acked.{heard_by, taken_by}
use Rattle.lard_law_settles.proofs.KnownCounting.{one-most, taken-same}
use Rattle.lard_law_progress.proofs.AnswersFrontGiven.{IsTalking}
use Rattle.lard_law_progress.proofs.Data.{heard}
use Rattle.lard_rules.specs.declared.places.Ending.TheVariants as ending

-- Beside the laws of bytes and of acknowledgements: the endpoint goes on, has said all, and told a window that ends no sooner than the
-- first; its client was not reset, and took no more than was sent; and little was written.
pub record HasSaid (x : ClientBlock) (w : Stream) (b : ControlBlock) : Type 0 where
  pub stays : may_end b ≡ false
  pub none : emitted b ≡ None
  pub told : RECEIVE_WINDOW ≤ b.last_window + b.recv.got
  pub sent : taken_by x ≤ b.send.nxt
  pub here : x.phase ≡ phase.Reset → ⊥
  pub few : length w.bytes ≤ 16382

module _ (files : FilesAt) (x : Conn) (st : Station) (k : Talk) (pend : List Verdict) (o : IsOpen files x k pend st) (acts : OpenActs x st) (vs more : List Verdict) (b : ControlBlock) (count : ℕ)
    (holds : HoldsItPending k.w k.out vs more b count) (ends : EndActs (bounds_of x st acts.heard) (ending.Here b 0)) (said : HasSaid st.client k.w b) where
  first-is : k.w.first ≡ st.client.send.iss
  first-is = ap (λ (s : Stream). s.first) o.client.w_is

  total-is : length k.w.bytes ≡ st.client.send.total
  total-is = o.client.speaks.part.count

  ended-is : k.w.ended ≡ st.client.send.finished
  ended-is = ap (λ (s : Stream). s.ended) o.client.w_is

  -- the client's FIN was taken behind all of its bytes
  fin-takes : b.recv.fin ≡ true → (b.recv.got ≡ length k.w.bytes) × (one_if st.client.send.finished ≡ 1)
  fin-takes fin = let h = holds.hears.final fin in (h.0, ap one_if (sym ended-is ∙ h.1))

  pub heard-most : heard b.recv ≤ symbols st.client.send
  heard-most = go b.recv.fin refl where
    go : (t : Bool) → b.recv.fin ≡ t → 1 + b.recv.got + one_if b.recv.fin ≤ 1 + st.client.send.total + one_if st.client.send.finished
    go true is = let f = fin-takes is in let g = f.0 in let e = f.1 in let t = total-is in let o = one-most b.recv.fin in omega (arith, g, e, t, o)
    go false is = let none : one_if b.recv.fin ≡ 0 = ap one_if is in let w : b.recv.got ≤ length k.w.bytes = holds.hears.within in let t = total-is in omega (arith, none, w, t)

  window : (u g : ℕ) → u ≤ g → g ≤ 16382 → 16385 ≤ 1 + g + min (RECEIVE_WINDOW - u) (MAX_STREAM_BYTES - g)
  window u g a few = omega (arith, a, few)

  window-far : (u g e : ℕ) → g ≤ 16382 → e ≤ 1 → 1 + g + e + min (RECEIVE_WINDOW - u) (MAX_STREAM_BYTES - g) ≤ 2 ^ 31
  window-far u g e few one = omega (arith, few, one)

  pub talks : IsTalking st b
  talks =
      let few : length k.w.bytes ≤ 16382 = said.few in
      let got : b.recv.got ≤ length k.w.bytes = holds.hears.within in
      let unread : length b.recv.unread ≤ b.recv.got = holds.sound.received.within in
      let t = total-is in
      let f = one-most st.client.send.finished in
      let e = one-most b.recv.fin in
      let open_window = window (length b.recv.unread) b.recv.got unread (omega (arith, got, few)) in
      let told : RECEIVE_WINDOW ≤ b.last_window + b.recv.got = said.told in
      let same = taken-same st.client in
      let una : b.send.una ≤ taken_by st.client = ends.1.0 in
      let sent : taken_by st.client ≤ b.send.nxt = said.sent in
      let client : st.client.send.una ≤ acts.heard = acts.client.acknowledged in
      let heard_is : acts.heard ≡ heard_by b.recv = ends.0 in
      record {
        silent = record { open_ = holds.not_reset; none = said.none; told = some b.last_window (omega (arith, told, got, few)) };
        stays = said.stays;
        sound = holds.sound;
        irs = holds.hears.first ∙ first-is;
        iss = ap (λ (s : Stream). s.first) (sym holds.out_is) ∙ o.begins;
        isn_small = o.client.speaks.number;
        iss_small = subst (λ n. n < 2 ^ 32) o.begins o.says.number;
        acked = omega (arith, una, same);
        sent = omega (arith, sent, same);
        knows = omega (arith, client, heard_is);
        spoke = heard-most;
        wide = omega (arith, open_window, t, few, f);
        far = window-far (length b.recv.unread) b.recv.got (one_if b.recv.fin) (omega (arith, got, few)) e;
        shut = λ fin. let g = (fin-takes fin).0 in let one = (fin-takes fin).1 in let here : one_if b.recv.fin ≡ 1 = ap one_if fin in omega (arith, g, one, here, t);
        here = said.here;
      }
    where
      some : (n : ℕ) → 1 ≤ n → (n == 0) ≡ false
      some n e = grind (arith, nat_tests, e)
