-- What a client sends once its rule is done is true of its stream, and it agrees on as much after that as before.
use Rattle.std.proofs.Common.{◌≡◌, ◌≤◌, ◌^◌, ℕ, zero, suc, List, [], ◌∷◌, ◌++◌, take, Option, Some, None, arith, refl, sym, ap, ◌∙◌, subst}
use Rattle.lard_law_view.specs.Prelude.{Accepts, AreClientWords, ClientAgrees, ClientBlock, ClientTurned, Place, Ready, Rec, Speaks, Stream, ToCluster, client_emits, speaking, spelled, station_ready_of, stream_of, to_front}
use Rattle.lard_client.specs.Leaving as client
use Rattle.lard_law_view.proofs.Client.{emitted-fair, emit-left}
use Rattle.lard_law_view.proofs.Pieces.{Fair}
use Rattle.lard_law_view.proofs.ClientAlike.{IsLike, emit-alike}

-- ---- agreeing

-- a client that speaks and accepts as another does, and is like one that agreed
pub agrees-after : (c : ℕ) (w v out : Stream) (x y : ClientBlock) → ClientAgrees c w out x → IsLike x y → y.accepted ≤ 2 ^ 30
    → v ≡ stream_of y.send v.bytes → Speaks y.send v.bytes → Accepts out y → ClientAgrees c v out y
agrees-after c w v out x y h like bounded is speaks accepts =
    let sound = h.sound in
    let wide = h.wide in
    let same = like.1 in
    let some = sound.some_mss in
    let small = sound.small_mss in
    let mss = like.2 in
    record {
      numbered = like.0 ∙ h.numbered;
      sound = record { bounded = bounded; held_within = like.3 sound.held_within; some_mss = omega arith; small_mss = omega arith };
      wide = omega arith;
      speaks = speaks;
      w_is = is;
      accepts = accepts;
    }

-- ---- its words

-- a segment that is ready is a word
pub ready-word : (c : ℕ) (w : Stream) (x : ClientBlock) (r : Ready) → x.c ≡ c → Fair w (client.client_filled x r) → AreClientWords c w (to_front x r ∷ [])
ready-word c w x r n fair = (refl, (client.client_filled x r, ap (λ k. spelled k ToCluster (client.client_filled x r)) n, record { sendable = fair.1; true_of = fair.0 }), tt)

pub ready-words : (c : ℕ) (w : Stream) (x : ClientBlock) (o : Option Ready) → x.c ≡ c → ((r : Ready) → o ≡ Some r → Fair w (client.client_filled x r)) → AreClientWords c w (station_ready_of x o)
ready-words c w x None n fair = tt
ready-words c w x (Some r) n fair = ready-word c w x r n (fair r refl)

words-append : (c : ℕ) (w : Stream) (ps qs : List (Place × List ℕ)) → AreClientWords c w ps → AreClientWords c w qs → AreClientWords c w (ps ++ qs)
words-append c w [] qs a b = b
words-append c w (p ∷ ps) qs a b = (a.0, a.1, words-append c w ps qs a.2 b)

-- ---- call by call

-- what it sent are words, and it agrees after that, with so many bytes accepted
pub record Spoke (c : ℕ) (w out : Stream) (count : ℕ) (given : List (Place × List ℕ) × ClientBlock) : Type 0 where
  pub agrees : ClientAgrees c w out given.1
  pub accepted : given.1.accepted ≡ count
  pub sent : AreClientWords c w given.0

module _ (c : ℕ) (w out : Stream) where
  emit-agrees : (x : ClientBlock) → ClientAgrees c w out x → ClientAgrees c w out (client.client_after_emit x)
  emit-agrees x h =
      let left = emit-left out x w.bytes h.speaks h.accepts in
      let like = emit-alike x in
      let count = like.1 in
      let bounded = h.sound.bounded in
      agrees-after c w w out x (client.client_after_emit x) h like.0 (omega arith) (h.w_is ∙ sym left.1) left.0 left.2

  emit-fair : (x : ClientBlock) (r : Ready) → ClientAgrees c w out x → client.client_emitted x ≡ Some r → Fair w (client.client_filled (client.client_after_emit x) r)
  emit-fair x r h e =
      subst (λ (v : Stream). Fair v (client.client_filled (client.client_after_emit x) r)) (sym h.w_is) (emitted-fair x w.bytes h.sound h.wide h.speaks r e)

  pub emits-spoke : (n : ℕ) (x : ClientBlock) → ClientAgrees c w out x → Spoke c w out x.accepted (client_emits n x)
  unfolding client_emits
  emits-spoke zero x h = record { agrees = h; accepted = refl; sent = tt }
  emits-spoke (suc n) x h = go (emits-spoke n (client.client_after_emit x) (emit-agrees x h)) (client.client_emitted x) refl where
    go : Spoke c w out (client.client_after_emit x).accepted (client_emits n (client.client_after_emit x)) → (o : Option Ready) → client.client_emitted x ≡ o
        → Spoke c w out x.accepted (elim o as (λ _. List (Place × List ℕ) × ClientBlock) [
          | None ↦ ([], x)
          | Some r ↦ (to_front (client.client_after_emit x) r ∷ (client_emits n (client.client_after_emit x)).0, (client_emits n (client.client_after_emit x)).1)
        ])
    go later None e = record { agrees = h; accepted = refl; sent = tt }
    go later (Some r) e =
        let first = ready-word c w (client.client_after_emit x) r ((emit-alike x).0.0 ∙ h.numbered) (emit-fair x r h e) in
        record { agrees = later.agrees; accepted = later.accepted ∙ (emit-alike x).1; sent = (first.0, first.1, later.sent) }

-- a turn that is kept before it speaks is kept when it has
pub turned-speaking : (c : ℕ) (w out : Stream) (x y : ClientBlock) (notes : List Rec) (segments : List (Place × List ℕ))
    → ClientTurned c w out x (y, record { notes = notes; segments = segments; answered = 0 }) → ClientTurned c w out x (speaking notes segments y)
turned-speaking c w out x y notes segments t =
    let spoke = emits-spoke c t.w_after out (client.unsaid y) y t.agrees in
    record {
      w_after = t.w_after;
      longer = t.longer;
      wrote = t.wrote;
      agrees = spoke.agrees;
      notes = t.notes;
      accepted = ap (λ n. take n out.bytes) spoke.accepted ∙ t.accepted;
      sent = words-append c t.w_after segments _ t.sent spoke.sent;
    }
