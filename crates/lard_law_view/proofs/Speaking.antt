-- A sending half keeps what is not acknowledged of the bytes that it was given, whatever befalls it.
use Rattle.std.proofs.Common.{◌≡◌, ◌≤◌, ◌<◌, ◌+◌, ◌-◌, ◌^◌, ℕ, Bool, true, false, cond, max, nat_lt, ◌==◌, ◌&&◌, ◌||◌, List, [], ◌++◌, length, drop, arith, ap, sym, subst, refl, append-nil}
use Rattle.std.proofs.lemmas.Bool.{cond_both}
use Rattle.lard_endpoint.proofs.Sound.{after_ack-sound, after_next-sound, after_resend-sound, queued-sound}
use Rattle.lard_law_view.specs.Prelude.{GoesOn, IsSending, IsStream, IsUnacknowledgedPart, Sending, Speaks, Stream, after_ack, after_next, after_resend, introduced, is_newer, may_send, moved_up, next_fin, next_len, one_if, queued_too, send_begun, send_closed, seq_offset, stream_of, symbols, windowed}
use Rattle.lard_send.proofs.Unacknowledged.{kept-queued, kept-ack, kept-next, kept-resend}
use Rattle.lard_law_view.proofs.Growth.{goes_on-equal}

-- ---- NXT is all that sending moves
pub next-moves : (s : Sending) → after_next s ≡ record s { nxt = (after_next s).nxt }
next-moves s =
    let P : Sending → Type 0 = λ t. t ≡ record s { nxt = t.nxt } in
    let more : Sending = record s { nxt = s.nxt + next_len s + one_if (next_fin s) } in
    cond_both (s.nxt == 0) (record s { nxt = 1 }) (cond (may_send s) more s) P (λ t. refl)
    (λ t. cond_both (may_send s) more s P (λ u. refl) (λ u. refl))

pub resend-moves : (s : Sending) → after_resend s ≡ record s { nxt = (after_resend s).nxt }
resend-moves s =
    let P : Sending → Type 0 = λ t. t ≡ record s { nxt = t.nxt } in
    let probed : Sending = record s { nxt = s.nxt + 1 } in
    let last : Sending = cond (nat_lt s.nxt (symbols s)) probed s in
    cond_both (s.una == 0) (record s { nxt = max s.nxt 1 }) (cond (nat_lt s.una s.nxt) s last) P (λ t. refl)
    (λ t. cond_both (nat_lt s.una s.nxt) s last P (λ u. refl)
    (λ u. cond_both (nat_lt s.nxt (symbols s)) probed s P (λ v. refl) (λ v. refl)))

-- ---- the stream of a half
pub stream-same : (s t : Sending) (bytes : List ℕ) → t.iss ≡ s.iss → t.finished ≡ s.finished → stream_of t bytes ≡ stream_of s bytes
stream-same s t bytes e f = λ i. record { first = e i; bytes = bytes; ended = f i }

-- it speaks, and its stream is another half's
abbrev pub SpeaksAs : Sending → List ℕ → Sending → Type 0
SpeaksAs s bytes t = Speaks t bytes × (stream_of t bytes ≡ stream_of s bytes)

-- another half that kept the bytes
speaks-as : (s t : Sending) (bytes : List ℕ) → Speaks s bytes → IsSending t → t.iss ≡ s.iss → t.finished ≡ s.finished → IsUnacknowledgedPart t bytes → SpeaksAs s bytes t
speaks-as s t bytes h sound e f part =
    (record { sound = sound; number = subst (λ n. n < 2 ^ 32) (sym e) h.number; part = part }, stream-same s t bytes e f)

-- what it may send is a stream
pub speaks-stream : (s : Sending) (bytes : List ℕ) → Speaks s bytes → IsStream (stream_of s bytes)
speaks-stream s bytes h = record { number = h.number; most = let count = h.part.count in let most = h.sound.most in omega arith }

-- ---- what befalls it
pub speaks-begun : (iss irs wnd mss : ℕ) → iss < 2 ^ 32 → 1 ≤ mss → mss ≤ 1460 → Speaks (send_begun iss irs wnd mss) []
speaks-begun iss irs wnd mss n some small = record {
  sound = record { sent = omega arith; queued = omega arith; kept = omega arith; most = omega arith; some_mss = some; small_mss = small };
  number = n;
  part = record { count = refl; part = refl };
}

pub speaks-next : (s : Sending) (bytes : List ℕ) → Speaks s bytes → SpeaksAs s bytes (after_next s)
speaks-next s bytes h =
    speaks-as s (after_next s) bytes h (after_next-sound s h.sound) (ap (λ t. t.iss) (next-moves s)) (ap (λ t. t.finished) (next-moves s)) (kept-next s bytes h.part)

pub speaks-resend : (s : Sending) (bytes : List ℕ) → Speaks s bytes → SpeaksAs s bytes (after_resend s)
speaks-resend s bytes h =
    speaks-as s (after_resend s) bytes h (after_resend-sound s h.sound) (ap (λ t. t.iss) (resend-moves s)) (ap (λ t. t.finished) (resend-moves s)) (kept-resend s bytes h.part)

-- an ACK moves neither the first number nor the end
ack-same : (s : Sending) (ack seq wnd : ℕ) → ((after_ack s ack seq wnd).iss ≡ s.iss) × ((after_ack s ack seq wnd).finished ≡ s.finished)
ack-same s ack seq wnd =
    let P : Sending → Type 0 = λ t. (t.iss ≡ s.iss) × (t.finished ≡ s.finished) in
    let offset = seq_offset ack s.iss in
    let moved = moved_up s offset in
    let last = windowed moved (s.una == 0) seq ack wnd in
    let same : P moved = cond_both (nat_lt s.una offset) (record s { una = offset; rest = drop ((offset - 1) - (s.una - 1)) s.rest }) s P (λ t. (refl, refl)) (λ t. (refl, refl)) in
    cond_both (nat_lt s.nxt offset) s (cond ((s.una == 0) && (offset == 0)) s last) P (λ t. (refl, refl))
    (λ t. cond_both ((s.una == 0) && (offset == 0)) s last P (λ u. (refl, refl))
    (λ u. cond_both ((s.una == 0) || is_newer moved seq ack) (record moved { wnd = wnd; wl1 = seq; wl2 = ack }) moved P (λ v. same) (λ v. same)))

pub speaks-ack : (s : Sending) (bytes : List ℕ) (ack seq wnd : ℕ) → Speaks s bytes → SpeaksAs s bytes (after_ack s ack seq wnd)
speaks-ack s bytes ack seq wnd h =
    let same = ack-same s ack seq wnd in
    speaks-as s (after_ack s ack seq wnd) bytes h (after_ack-sound s ack seq wnd h.sound) same.0 same.1 (kept-ack s bytes ack seq wnd h.part)

pub speaks-introduced : (s : Sending) (bytes : List ℕ) (irs mss : ℕ) → 1 ≤ mss → mss ≤ 1460 → Speaks s bytes → SpeaksAs s bytes (introduced s irs mss)
speaks-introduced s bytes irs mss some small h =
    let sound = h.sound in
    speaks-as s (introduced s irs mss) bytes h
    (record { sent = sound.sent; queued = sound.queued; kept = sound.kept; most = sound.most; some_mss = some; small_mss = small })
    refl refl (record { count = h.part.count; part = h.part.part })

-- ---- its owner's calls
pub speaks-queued : (s : Sending) (bytes more : List ℕ) → s.finished ≡ false → length bytes + length more ≤ 2 ^ 30 → Speaks s bytes
    → Speaks (queued_too s more) (bytes ++ more) × GoesOn (stream_of s bytes) (stream_of (queued_too s more) (bytes ++ more))
speaks-queued s bytes more f le h =
    let count = h.part.count in (
      record { sound = queued-sound s more f (omega arith) h.sound; number = h.number; part = kept-queued s bytes more h.part },
      record { first = refl; bytes = (more, refl); ended = λ e. absurd (cc) },
    )

pub one_small : (b : Bool) → one_if b ≤ 1
one_small true = omega arith
one_small false = omega arith

pub speaks-closed : (s : Sending) (bytes : List ℕ) → Speaks s bytes → Speaks (send_closed s) bytes × GoesOn (stream_of s bytes) (stream_of (send_closed s) bytes)
speaks-closed s bytes h =
    let sound = h.sound in
    let queued : s.nxt ≤ symbols s = sound.queued in
    let one = one_small s.finished in (
      record {
        sound = record { sent = sound.sent; queued = omega arith; kept = sound.kept; most = sound.most; some_mss = sound.some_mss; small_mss = sound.small_mss };
        number = h.number;
        part = record { count = h.part.count; part = h.part.part };
      },
      record { first = refl; bytes = ([], sym (append-nil bytes)); ended = λ e. λ i. record { first = s.iss; bytes = bytes; ended = sym e i } },
    )

-- ---- its stream goes on
abbrev pub Continues : Sending → List ℕ → Sending → Type 0
Continues s bytes t = Speaks t bytes × GoesOn (stream_of s bytes) (stream_of t bytes)

pub continues-as : (s t : Sending) (bytes : List ℕ) → SpeaksAs s bytes t → Continues s bytes t
continues-as s t bytes h = (h.0, goes_on-equal (stream_of s bytes) (stream_of t bytes) h.1)

pub continues-behind : (s t u : Sending) (bytes : List ℕ) → SpeaksAs s bytes t → Continues t bytes u → Continues s bytes u
continues-behind s t u bytes h k = (k.0, subst (λ (x : Stream). GoesOn x (stream_of u bytes)) h.1 k.1)
