-- How a turn of a place begins that holds the endpoint, and what its timer sends.
use Rattle.std.proofs.Common.{◌≡◌, ◌-◌, ◌||◌, ℕ, Bool, false, true, List, [], length, Option, Some, None, arith, refl, subst}
use Rattle.lard_law_connections.specs.BytesAgreement.{HasReadPending, HoldsItPending, IsWide}
use Rattle.lard_law_connections.specs.BytesTurning.{CountsResponses, EndTurned}
use Rattle.lard_law_connections.proofs.BytesEnding.{spoken-ends}
use Rattle.lard_law_connections.proofs.BytesReading.{read-arrived, read-same}
use Rattle.lard_law_connections.proofs.BytesServing.{So, counts-nothing}
use Rattle.lard_law_connections.proofs.BytesWide.{half-wide, wide-half}
use Rattle.lard_endpoint.proofs.Adoption.{Stands, frozen_stands}
use Rattle.lard_law_view.specs.Prelude.{AreReplies, ControlBlock, IsStream, IsWord, RECEIVE_WINDOW, Ready, Rec, Said, SaysAnswers, Serves, ServeEnv, Stream, Verdict, adopted, after_timer, filled, may_freeze, on_segment, parts_of, restored, resumed, serving, serving_ready_of, spoken, timed}
use Rattle.lard_law_view.proofs.EndpointStreams.{IsBetween, between-arrived, between-timed}
use Rattle.lard_law_view.proofs.EndpointSpeaking.{timed-reply}
use Rattle.lard_rules.proofs.Wide.{segment-wide, timer-wide}
use Rattle.lard_law_view.proofs.Endpoint.{timer-left}
use Rattle.lard_law_view.proofs.Growth.{goes_on-same}

-- ---- an endpoint that was frozen

-- what is adopted is the endpoint that was frozen, which owes an ACK
module _ (b : ControlBlock) (count : ℕ) where
  abbrev moved : ControlBlock
  moved = record { recv = b.recv; send = b.send; owed = true; last_window = RECEIVE_WINDOW; reset = false }

  same-send : Stands b → b.send.irs ≡ b.recv.irs → b.send ≡ resumed (parts_of b count)
  same-send s irs = λ i. record b.send { irs = irs i; nxt = s.nxt_is i; rest = s.rest_is i; total = (let e : b.send.total ≡ b.send.una - 1 = omega (arith, s.una_is) in e) i; finished = s.finished_is i }

  same-recv : Stands b → b.recv ≡ restored b.recv.irs b.recv.got b.recv.fin b.recv.unread
  same-recv s = λ i. record b.recv { discarding = s.discarding_is i }

  adopted-is : Stands b → b.send.irs ≡ b.recv.irs → moved ≡ adopted (parts_of b count)
  adopted-is s irs = λ i. record { recv = same-recv s i; send = same-send s irs i; owed = true; last_window = RECEIVE_WINDOW; reset = false }

-- ---- a turn

module _ (env : ServeEnv) (w out : Stream) (vs : List Verdict) (says : SaysAnswers env.files w out vs) (pend : List Verdict) where
  -- nothing was answered in the turn yet
  pub begins-so : (b : ControlBlock) (count : ℕ) (notes : List Rec) → count ≡ length vs → IsBetween w out b → IsWide b → HasReadPending w b vs pend → CountsResponses env.files env.c w out vs vs out.bytes notes
      → So env w out vs (serving b count notes) pend
  begins-so b count notes counted between wide read counts = record {
    out_now = out;
    vs_now = vs;
    longer = goes_on-same out;
    says = says;
    counted = counted;
    between = between;
    wide = wide;
    noted = counts;
    reading = read;
  }

  module _ (b : ControlBlock) (count : ℕ) (h : HoldsItPending w out vs pend b count) where
    before : IsBetween w out b
    before = record { same_irs = h.sound.same_irs; speaks = h.speaks; out_is = h.out_is; hears = h.hears }

    pub same-so : So env w out vs (serving b count []) pend
    same-so = begins-so b count [] h.counted before h.wide h.has_read (counts-nothing env.files env.c w out vs)

    -- a true segment came
    pub heard-so : IsStream w → (s : Said) → IsWord w s → So env w out vs (serving (on_segment b s).1 count []) pend
    heard-so is s word =
        let after = between-arrived w out b before s is word.true_of in
        let wide = wide-half (on_segment b s).1 (segment-wide b s word.sendable (half-wide b h.wide)) in
        begins-so (on_segment b s).1 count [] h.counted after wide (read-arrived w out b vs pend s before after h.has_read) (counts-nothing env.files env.c w out vs)

    -- it was frozen, and goes on from its parts
    pub adopted-so : may_freeze b ≡ true → (notes : List Rec) → CountsResponses env.files env.c w out vs vs out.bytes notes → So env w out vs (serving (adopted (parts_of b count)) count notes) pend
    adopted-so frozen notes counts =
        let read = h.has_read in
        subst (λ (d : ControlBlock). So env w out vs (serving d count notes) pend) (adopted-is b count (frozen_stands b h.sound frozen) h.sound.same_irs)
        (begins-so (moved b count) count notes h.counted
        (record { same_irs = h.sound.same_irs; speaks = h.speaks; out_is = h.out_is; hears = h.hears })
        (record { wnd = h.wide.wnd; wl1 = h.wide.wl1; wl2 = h.wide.wl2 })
        (record { cut = read.cut; goes_on = read.goes_on; stops = read.stops; fronts = read.fronts }) counts)

    -- with the responses that it had
    pub adopted-serves : may_freeze b ≡ true → Serves count b.recv b.send → let d : ControlBlock = adopted (parts_of b count) in Serves count d.recv d.send
    adopted-serves frozen serves = subst (λ (d : ControlBlock). Serves count d.recv d.send) (adopted-is b count (frozen_stands b h.sound frozen) h.sound.same_irs) serves

    -- the timer fired
    pub fired-ends : (was_reset : Bool) → EndTurned env.files env.c w out vs was_reset pend (spoken env (serving (after_timer b) count []) (serving_ready_of env (after_timer b) (timed b)))
    unfolding begins-so
    fired-ends was_reset =
        let after = between-timed w out b before in
        let read = read-same w out b (after_timer b) vs pend before after (timer-left b out.bytes h.speaks).2 h.has_read in
        let wide = wide-half (after_timer b) (timer-wide b (half-wide b h.wide)) in
        let so = begins-so (after_timer b) count [] h.counted after wide read (counts-nothing env.files env.c w out vs) in
        spoken-ends env w out vs was_reset (serving (after_timer b) count []) pend so (serving_ready_of env (after_timer b) (timed b)) so.reading (replies (timed b) refl)
      where
        replies : (o : Option Ready) → timed b ≡ o → AreReplies env.c w out (was_reset || false) (serving_ready_of env (after_timer b) o)
        replies None e = tt
        replies (Some q) e = (refl, (filled (after_timer b) q, refl, timed-reply env.c w out (was_reset || false) b q before e), tt)
