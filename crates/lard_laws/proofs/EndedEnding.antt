-- The end of a turn of a place that has the endpoint: where both sides have closed it is what the last numbers are of.
use Rattle.std.proofs.Common.{◌≡◌, ◌<◌, ◌^◌, ◌||◌, ◌&&◌, ℕ, Bool, true, false, cond, List, [], None, arith, refl, ◌∙◌, sym, subst}
use Rattle.std.proofs.lemmas.Bool.{and_parts, both_ways}
use Rattle.lard_law_view.specs.Prelude.{ControlBlock, Ending, HasStopped, Place, Reason, SaysAnswers, ServeEnv, Service, Stream, Verdict, after_timer, emits_left, end_reason, final_of, is_clear, is_closed, serving, serving_settled, speaks, spoken}
use Rattle.lard_base.specs.declared.place.Reason.TheVariants as reason
use Rattle.lard_law_connections.specs.BytesAgreement.{HasReadPending, HoldsItPending}
use Rattle.lard_law_connections.specs.BytesTurning.{IsReading}
use Rattle.lard_law_connections.proofs.BytesHolding.{begins-so}
use Rattle.lard_law_connections.proofs.BytesReading.{read-alone, read-same}
use Rattle.lard_law_connections.proofs.BytesServing.{So, counts-nothing}
use Rattle.lard_law_connections.proofs.BytesWide.{half-wide, wide-half}
use Rattle.lard_laws.specs.EndedEnds.{IsTrueEnd, WasClosed}
use Rattle.lard_law_connections.proofs.StopsSame.{Same, same-stopped, speaks-same}
use Rattle.lard_law_view.proofs.EndpointStreams.{IsBetween, between-sound, between-timed}
use Rattle.lard_law_view.proofs.EndpointSpeaking.{Spoke, emits-spoke}
use Rattle.lard_rules.specs.declared.places.Ending.TheVariants as ending
use Rattle.lard_rules.proofs.Wide.{timer-wide}
use Rattle.lard_law_view.proofs.Endpoint.{timer-left}
use Rattle.lard_rules.proofs.Endings.{rested-keeps, settled-keeps}

-- ---- an endpoint

-- behind the cluster's FIN it has stopped, and nothing that was read is left, unless what comes is discarded
abbrev pub ReadsNothing : ControlBlock → List Verdict → Type 0
ReadsNothing b pend = b.send.finished ≡ true → HasStopped b × (b.recv.discarding ≡ false → pend ≡ [])

-- one that ends as closed by both sides was not reset
not-reset : (b : ControlBlock) → end_reason b ≡ reason.Closed → b.reset ≡ false
not-reset b e = go b.reset e where
  go : (r : Bool) → cond r reason.Peer reason.Closed ≡ reason.Closed → r ≡ false
  go true f = absurd (let no : reason.Peer ≡ reason.Closed = f in cc)
  go false f = refl

closed-then : (r c : Bool) → r ≡ false → (r || c) ≡ true → c ≡ true
closed-then true c e may = absurd (both_ways true e refl)
closed-then false c e may = may

closed-finished : (b : ControlBlock) → is_closed b ≡ true → b.send.finished ≡ true
closed-finished b e = (and_parts b.send.finished (is_clear b.send) (and_parts (b.send.finished && is_clear b.send) b.recv.fin e).0).0

-- ---- the end of a turn

module _ (env : ServeEnv) (w : Stream) (iss : ℕ) where
  -- where it ended, the numbers fit their fields, and are those of an endpoint that was closed if they say so
  abbrev pub EndsTruly : Ending → Type 0
  EndsTruly (ending.Here b count) = Unit {0}
  EndsTruly (ending.Over last) = (last.snd.0 < 2 ^ 32) × (last.rcv.0 < 2 ^ 32) × IsTrueEnd env.files w iss last

  -- while its own side is open it does not end as closed by both
  pub open-ends : (s : Service) (before : List (Place × List ℕ)) → s.block.send.finished ≡ false → EndsTruly (spoken env s before).0
  open-ends s before open_ =
      let b : ControlBlock = (speaks env.c s.block).1 in
      let same : Same s.block b = speaks-same env.c s.block in
      rested-keeps EndsTruly b s.count
      (λ may. (
        omega arith,
        omega arith,
        λ why.
            let closed : is_closed b ≡ true = closed-then b.reset (is_closed b) (not-reset b why) may in
            absurd (both_ways b.send.finished (same.3 ∙ open_) (closed-finished b closed)),
      ))
      (λ stays. tt)

  module _ (out : Stream) (vs : List Verdict) (begins : out.first ≡ iss) where
    -- one that both sides have closed, once it has said what it may
    closed-as : (s : Service) (pend : List Verdict) (g : So env w out vs s pend) → HasReadPending w s.block g.vs_now pend → (s.block.reset ≡ false → ReadsNothing s.block pend) → (b : ControlBlock) → (speaks env.c s.block).1 ≡ b
        → b.reset ≡ false → is_closed b ≡ true → WasClosed env.files w iss (final_of b reason.Closed)
    closed-as s pend g read nothing b is calm closed = record {
      out = g.out_now;
      vs = g.vs_now;
      begins = g.longer.first ∙ begins;
      says = g.says;
      ended = record {
        block = b;
        count = s.count;
        held = record {
          counted = g.counted;
          not_reset = calm;
          sound = between-sound w g.out_now b between;
          speaks = between.speaks;
          out_is = between.out_is;
          hears = between.hears;
          has_read = read-alone w b g.vs_now (subst (HasReadPending w b g.vs_now) none (read-same w g.out_now s.block b g.vs_now pend g.between between same.0 read));
          stopped = same-stopped s.block b same left.0;
        };
        both = λ e. closed;
        is = refl;
      };
    } where
      same : Same s.block b
      same = subst (Same s.block) is (speaks-same env.c s.block)

      talk : Spoke env.c w g.out_now true s.block (speaks env.c s.block)
      talk = emits-spoke env.c w g.out_now true (emits_left s.block) s.block g.between

      between : IsBetween w g.out_now b
      between = subst (IsBetween w g.out_now) is talk.between

      left : HasStopped s.block × (s.block.recv.discarding ≡ false → pend ≡ [])
      left = nothing (sym same.4 ∙ calm) (sym same.3 ∙ closed-finished b closed)

      none : pend ≡ []
      none = go s.block.recv.discarding refl where
        go : (d : Bool) → s.block.recv.discarding ≡ d → pend ≡ []
        go true e = (read.stops e).2
        go false e = left.1 e

    pub spoken-end : (s : Service) (pend : List Verdict) (g : So env w out vs s pend) (before : List (Place × List ℕ)) → HasReadPending w s.block g.vs_now pend → (s.block.reset ≡ false → ReadsNothing s.block pend) → EndsTruly (spoken env s before).0
    spoken-end s pend g before read nothing =
        let b : ControlBlock = (speaks env.c s.block).1 in
        rested-keeps EndsTruly b s.count
        (λ may. (
          omega arith,
          omega arith,
          λ why.
              let calm : b.reset ≡ false = not-reset b why in
              subst (λ (r : Reason). WasClosed env.files w iss (final_of b r)) (sym why) (closed-as s pend g read nothing b refl calm (closed-then b.reset (is_closed b) calm may)),
        ))
        (λ stays. tt)

    -- of what is in hand, unless it is to be reset
    pub settled-end : (s : Service) (pend : List Verdict) (g : So env w out vs s pend) → (s.over ≡ None → s.block.reset ≡ false → ReadsNothing s.block pend) → EndsTruly (serving_settled env s).0
    settled-end s pend g nothing = settled-keeps (λ given. EndsTruly given.0) env s
        (λ e. spoken-end s pend g [] (subst (IsReading w g.vs_now pend s.block s.notes) e g.reading) (nothing e))
        (λ total e. (omega arith, omega arith, λ why. absurd (let no : reason.Limit ≡ reason.Closed = why in cc)))

    -- its timer fired
    module _ (says : SaysAnswers env.files w out vs) (pend : List Verdict) (b : ControlBlock) (count : ℕ) (h : HoldsItPending w out vs pend b count) where
      before-timer : IsBetween w out b
      before-timer = record { same_irs = h.sound.same_irs; speaks = h.speaks; out_is = h.out_is; hears = h.hears }

      pub timed-end : (before : List (Place × List ℕ)) → ((after_timer b).reset ≡ false → ReadsNothing (after_timer b) pend) → EndsTruly (spoken env (serving (after_timer b) count []) before).0
      timed-end before nothing =
          let after = between-timed w out b before-timer in
          let read = read-same w out b (after_timer b) vs pend before-timer after (timer-left b out.bytes h.speaks).2 h.has_read in
          let wide = wide-half (after_timer b) (timer-wide b (half-wide b h.wide)) in
          let so = begins-so env w out vs says pend (after_timer b) count [] h.counted after wide read (counts-nothing env.files env.c w out vs) in
          spoken-end (serving (after_timer b) count []) pend so before so.reading nothing
