-- What goes back from a node: the endpoint as it was frozen, with as many responses as were read.
use Rattle.std.proofs.Common.{◌≡◌, ◌≤◌, ◌-◌, ℕ, zero, suc, true, List, [], ◌∷◌, ◌++◌, length, take, refl, ap, ◌∙◌, subst, arith, append-nil, length-append}
use Rattle.lard_law_view.specs.Prelude.{ControlBlock, NodeEnv, Serves, Stream, Verdict, Work, blocks, may_freeze, may_give_back, verdicts_on}
use Rattle.lard_law_connections.specs.BytesAgreement.{FrontHolds, HasReadPending, HoldsItPending}
use Rattle.lard_law_connections.proofs.BytesServing.{MayGo, may-go}
use Rattle.lard_law_connections.proofs.BytesWorking.{Works, verdicts_of}
use Rattle.lard_law_connections.proofs.FewVerdicts.{blocks-few, on-few}
use Rattle.lard_law_connections.proofs.NodeReady.{is-ready}
use Rattle.lard_endpoint.proofs.Adoption.{Stands, frozen_stands}
use Rattle.lard_law_view.proofs.EndpointStreams.{between-sound}

-- ---- each response was asked for by one that was read

-- the first n bytes have n requests at the most
first-few : (n : ℕ) (q : List ℕ) → length (verdicts_on (blocks (take n q ++ []))) ≤ n
first-few n q =
    let a = on-few (blocks (take n q ++ [])) in
    let b = blocks-few (take n q ++ []) in
    let c = ap length (append-nil (take n q)) in
    let d = take-most n q in
    omega (arith, a, b, c, d) where
      take-most : (n : ℕ) (q : List ℕ) → length (take n q) ≤ n
      take-most zero q = omega arith
      take-most (suc n) [] = omega arith
      take-most (suc n) (b ∷ q) = let le = take-most n q in omega (arith, le)

module _ (w out : Stream) (vs : List Verdict) (b : ControlBlock) (count : ℕ) (h : HoldsItPending w out vs [] b count) (frozen : may_freeze b ≡ true) where
  stands : Stands b
  stands = frozen_stands b h.sound frozen

  cut : verdicts_on (blocks (take (b.recv.got - length b.recv.unread) w.bytes ++ [])) ≡ (vs ++ []) ++ verdicts_on (blocks [])
  cut = h.has_read.cut stands.discarding_is refl []

  pub back-serves : Serves count b.recv b.send
  back-serves =
      let few = first-few (b.recv.got - length b.recv.unread) w.bytes in
      let same = ap length cut ∙ length-append (vs ++ []) (verdicts_on (blocks [])) in
      let all = length-append vs [] in
      let counted = h.counted in
      let unread = h.sound.received.within in
      record {
        asked = omega (arith, few, same, all, counted, unread);
        most = h.sound.received.received;
        sent = h.sound.sending.queued;
      }

-- ---- what goes back

module _ (env : NodeEnv) (w out : Stream) (vs : List Verdict) (k : Work) (h : Works env w out vs k) (back : may_give_back env k ≡ true) where
  pub back-frozen : may_freeze k.service.block ≡ true
  back-frozen = (is-ready env k back).freezes

  pub back-holds : FrontHolds w h.out_now h.vs_now [] k.service.block k.service.count
  back-holds =
      let ready = is-ready env k back in
      let b : ControlBlock = k.service.block in
      let go : MayGo w h.vs_now (verdicts_of k.batch) k.service = may-go w h.vs_now (verdicts_of k.batch) k.service ready.may h.reading in
      let sound = between-sound w h.out_now b h.between in
      let held : HoldsItPending w h.out_now h.vs_now [] b k.service.count = record {
        counted = h.counted;
        not_reset = (frozen_stands b sound ready.freezes).reset_is;
        sound = sound;
        speaks = h.between.speaks;
        out_is = h.between.out_is;
        hears = h.between.hears;
        wide = h.wide;
        has_read = subst (HasReadPending w b h.vs_now) (ap verdicts_of ready.none) go.read;
      } in
      record { none = refl; serves = back-serves w h.out_now h.vs_now b k.service.count held ready.freezes; holds = held }
