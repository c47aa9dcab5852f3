-- The numbers of an endpoint fit the message that offers it, and what holds of every endpoint holds of it, whatever comes and goes.
use Rattle.std.proofs.Common.{◌≡◌, ℕ, ◌+◌, ◌-◌, ◌≤◌, ◌<◌, ◌^◌, List, length, true, false, Ok, refl, sym, subst, arith}
use Rattle.std.proofs.lemmas.Bool.{cond_both}
use Rattle.lard_law_view.specs.Prelude.{ControlBlock, Dir, EndpointParts, FitsFields, IsControlBlock, IsOfTable, IsValidParts, Received, Said, Sending, Verdict, adopted, after_emit, after_timer, closed_behind, closes, consuming, decoded, discarding_on, finishing, listening, may_freeze, on_segment, parts_of, queueing}
use Rattle.lard_endpoint.proofs.Adoption.{parts-valid}
use Rattle.lard_endpoint.proofs.Sound.{after_emit-sound, after_timer-sound, on_segment-sound, queueing-sound}
use Rattle.lard_endpoint.proofs.Windows.{emit-recv, segment-recv, timer-recv}
use Rattle.lard_law_view.proofs.ByteLists.{AreBytes, bytes-decoded, bytes-index}
use Rattle.lard_law_view.proofs.KeptBytes.{IsKept, emit-keeps, segment-keeps, timer-keeps}
use Rattle.lard_message.specs.declared.message.Body.TheVariants as body
use Rattle.lard_recv.proofs.Window.{arrived-irs}
use Rattle.lard_rules.proofs.Halves.{KeptBySending, endpoint-emit, endpoint-fires, endpoint-segment}
use Rattle.lard_rules.proofs.Sides.{ack-side, next-side, resend-side}
use Rattle.lard_rules.proofs.Endpoints.{closed-sound, consuming-sound, finishing-sound, listening-sound}
use Rattle.lard_rules.proofs.Wide.{IsWideHalf, closed-wide, emit-wide, numbers-wide, timer-wide}
use Rattle.lard_segment.proofs.Decoded.{decoded-read, length-decoded}

-- ---- a segment

-- what bytes say has bytes for data, and numbers that fit their fields
pub record IsTold (s : Said) : Type 0 where
  pub payload : AreBytes s.payload
  pub seq : s.seq < 2 ^ 32
  pub ack : s.ack < 2 ^ 32
  pub wnd : s.wnd < 2 ^ 16

pub told-decoded : (bytes : List ℕ) (c : ℕ) (dir : Dir) (s : Said) → decoded bytes c dir ≡ Ok s → AreBytes bytes → IsTold s
told-decoded bytes c dir s is h =
    let read = decoded-read bytes c dir s is in
    let at = bytes-index bytes h in
    let seq = read.sequence in
    let ack = read.acknowledgement in
    let wnd = read.window in
    let a = at 4 in
    let b = at 5 in
    let d = at 6 in
    let e = at 7 in
    let f = at 8 in
    let g = at 9 in
    let i = at 10 in
    let j = at 11 in
    let k = at 14 in
    let l = at 15 in
    record { payload = bytes-decoded bytes c dir s is h; seq = omega (arith, seq, a, b, d, e); ack = omega (arith, ack, f, g, i, j); wnd = omega (arith, wnd, k, l) }

-- it has 20 bytes at least
pub some-decoded : (bytes : List ℕ) (c : ℕ) (dir : Dir) (s : Said) → decoded bytes c dir ≡ Ok s → 20 ≤ length bytes
some-decoded bytes c dir s is = let long = length-decoded bytes c dir s is in omega (arith, long)

-- ---- an endpoint

pub record IsFit (b : ControlBlock) : Type 0 where
  pub block : IsControlBlock b
  pub irs : b.recv.irs < 2 ^ 32
  pub iss : b.send.iss < 2 ^ 32
  pub wide : IsWideHalf b.send

abbrev HasFirst : Received → Type 0
HasFirst r = r.irs < 2 ^ 32

abbrev BeginsSmall : Sending → Type 0
BeginsSmall s = s.iss < 2 ^ 32

-- no operation moves the first number
first-sending : KeptBySending BeginsSmall
first-sending = record {
  acks = λ s ack seq wnd h. subst (λ n. n < 2 ^ 32) (sym (ack-side s ack seq wnd).first) h;
  nexts = λ s h. subst (λ n. n < 2 ^ 32) (sym (next-side s).first) h;
  resends = λ s h. subst (λ n. n < 2 ^ 32) (sym (resend-side s).first) h;
  closes = λ s h. h;
  learns = λ s irs mss h. h;
}

pub fit-segment : (b : ControlBlock) (s : Said) → IsTold s → IsFit b → IsFit (on_segment b s).1
fit-segment b s told h = record {
  block = on_segment-sound b s h.block;
  irs = segment-recv HasFirst b s h.irs (subst (λ n. n < 2 ^ 32) (sym (arrived-irs b.recv s.seq s.payload s.flags.fin)) h.irs);
  iss = endpoint-segment BeginsSmall first-sending b s h.iss;
  wide = numbers-wide b s told.ack told.seq told.wnd h.wide;
}

pub fit-emit : (b : ControlBlock) → IsFit b → IsFit (after_emit b)
fit-emit b h = record {
  block = after_emit-sound b h.block;
  irs = subst HasFirst (sym (emit-recv b)) h.irs;
  iss = endpoint-emit BeginsSmall first-sending b h.iss;
  wide = emit-wide b h.wide;
}

pub fit-timer : (b : ControlBlock) → IsFit b → IsFit (after_timer b)
fit-timer b h = record {
  block = after_timer-sound b h.block;
  irs = subst HasFirst (sym (timer-recv b)) h.irs;
  iss = endpoint-fires BeginsSmall first-sending b h.iss;
  wide = timer-wide b h.wide;
}

-- an endpoint that took a SYN
pub fit-listening : (syn : Said) (iss : ℕ) → IsTold syn → iss < 2 ^ 32 → IsFit (listening syn iss)
fit-listening syn iss told small = record { block = listening-sound syn iss; irs = told.seq; iss = small; wide = record { wnd = told.wnd; wl1 = told.seq; wl2 = small } }

-- what a message may bring of an endpoint
pub record IsAdoptable (parts : EndpointParts) : Type 0 where
  pub valid : IsValidParts parts
  pub fits : FitsFields (body.Offer parts)
  pub unread : AreBytes parts.unread

-- one that goes on from it
fit-adopted : (p : EndpointParts) → IsValidParts p → FitsFields (body.Offer p) → IsFit (adopted p)
fit-adopted p valid fits = record { block = adopted-sound p valid; irs = fits.0; iss = fits.1; wide = record { wnd = fits.2; wl1 = fits.3; wl2 = fits.4 } } where
  adopted-sound : (p : EndpointParts) → IsValidParts p → IsControlBlock (adopted p)
  adopted-sound p v =
      let some = v.syn_acknowledged in
      let most = v.acknowledged in
      record {
        received = record { received = v.received; buffered = v.buffered; within = v.within; dropped = λ no. absurd (let not : false ≡ true = no in cc) };
        sending = record { sent = omega arith; queued = omega (arith, some); kept = omega arith; most = omega (arith, most); some_mss = v.some_mss; small_mss = v.small_mss };
        same_irs = refl;
      }

-- what is read goes, and all that is unread
pub fit-consuming : (b : ControlBlock) (n : ℕ) → IsFit b → IsFit (consuming b n)
fit-consuming b n h = record { block = consuming-sound b n h.block; irs = h.irs; iss = h.iss; wide = h.wide }

-- the FIN follows
pub fit-finishing : (b : ControlBlock) → IsFit b → IsFit (finishing b)
fit-finishing b h = record { block = finishing-sound b h.block; irs = h.irs; iss = h.iss; wide = record { wnd = h.wide.wnd; wl1 = h.wide.wl1; wl2 = h.wide.wl2 } }

-- bytes follow
pub fit-queueing : (b : ControlBlock) (bytes : List ℕ) → b.send.finished ≡ false → b.send.total + length bytes ≤ 2 ^ 30 → IsFit b → IsFit (queueing b bytes)
fit-queueing b bytes unfinished few h = record { block = queueing-sound b bytes unfinished few h.block; irs = h.irs; iss = h.iss; wide = record { wnd = h.wide.wnd; wl1 = h.wide.wl1; wl2 = h.wide.wl2 } }

-- behind an answer that closes
pub fit-closed : (v : Verdict) (b : ControlBlock) → IsFit b → IsFit (closed_behind v b)
fit-closed v b h = record {
  block = closed-sound v b h.block;
  irs = cond_both (closes v) (finishing (discarding_on b)) b (λ d. d.recv.irs < 2 ^ 32) (λ t. h.irs) (λ t. h.irs);
  iss = cond_both (closes v) (finishing (discarding_on b)) b (λ d. d.send.iss < 2 ^ 32) (λ t. h.iss) (λ t. h.iss);
  wide = closed-wide v b h.wide;
}

-- ---- it is offered

-- the parts of a frozen one have a message
pub offer-fits : (b : ControlBlock) (served : ℕ) → may_freeze b ≡ true → served + length b.recv.unread ≤ b.recv.got → IsFit b → IsOfTable (body.Offer (parts_of b served)) × FitsFields (body.Offer (parts_of b served))
offer-fits b served may read h = (parts-valid b served h.block may (omega (arith, read)), (h.irs, h.iss, h.wide.wnd, h.wide.wl1, h.wide.wl2))

-- ---- what is kept of a connection here

-- It is bytes, at least so many of them were queued, and the endpoint is fit.
abbrev pub Keeping : ℕ → ControlBlock → Type 0
Keeping least b = IsKept least b.send × AreBytes b.recv.unread × IsFit b

module _ (least : ℕ) where
  pub keeping-segment : (b : ControlBlock) (s : Said) → IsTold s → Keeping least b → Keeping least (on_segment b s).1
  keeping-segment b s told h = let bytes = segment-keeps least b s told.payload (h.0, h.1) in (bytes.0, bytes.1, fit-segment b s told h.2)

  pub keeping-emit : (b : ControlBlock) → Keeping least b → Keeping least (after_emit b)
  keeping-emit b h = let bytes = emit-keeps least b (h.0, h.1) in (bytes.0, bytes.1, fit-emit b h.2)

  pub keeping-timer : (b : ControlBlock) → Keeping least b → Keeping least (after_timer b)
  keeping-timer b h = let bytes = timer-keeps least b (h.0, h.1) in (bytes.0, bytes.1, fit-timer b h.2)

-- with the responses that it had
pub keeping-adopted : (parts : EndpointParts) → IsAdoptable parts → Keeping (parts.served - 2 ^ 30) (adopted parts)
keeping-adopted parts fit =
    let got = fit.valid.received in
    let answered = fit.valid.answered in
    let acked = fit.valid.acknowledged in
    ((tt, omega (arith, got, answered), omega (arith, acked)), fit.unread, fit-adopted parts fit.valid fit.fits)
