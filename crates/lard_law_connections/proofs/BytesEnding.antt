-- The end of a turn: what an endpoint may say goes out, and it stays or ends.
use Rattle.std.proofs.Common.{Bool, List, None, Option, Some, [], arith, false, refl, subst, true, ℕ, ◌++◌, ◌||◌, ◌∷◌, ◌≡◌}
use Rattle.std.specs.List.{list_any}
use Rattle.std.proofs.lemmas.Bool.{cond_both, or_parts}
use Rattle.lard_law_view.specs.Prelude.{AreReplies, ControlBlock, Ending, IsReply, Place, Reason, ServeEnv, Service, Stream, Turn, Verdict, cut_off, emits_left, end_reason, final_of, is_closed, is_reset_record, limit_said, serving_settled, serving_told, speaks, speaks_symbols, spoken}
use Rattle.lard_base.specs.declared.place.Reason.TheVariants as reason
use Rattle.lard_law_connections.specs.BytesAgreement.{EndAgreesPending, EndedWithNumbers, HasReadPending, HoldsItPending, IsWide}
use Rattle.lard_law_connections.specs.BytesTurning.{EndTurned, IsReading, TurnServes}
use Rattle.lard_law_connections.proofs.BytesReading.{read-same}
use Rattle.lard_law_connections.proofs.BytesWide.{half-wide, wide-half}
use Rattle.lard_law_view.proofs.EndpointStreams.{IsBetween, between-sound}
use Rattle.lard_law_view.proofs.EndpointSpeaking.{Spoke, awaits-within, emits-spoke, emits_symbols-spoke}
use Rattle.lard_rules.proofs.Wide.{speaks-wide}
use Rattle.lard_law_view.proofs.Pieces.{bare-true}
use Rattle.lard_rules.proofs.Endings.{rested-keeps, settled-keeps}

pub replies-append : (c : ℕ) (w out : Stream) (r : Bool) (ps qs : List (Place × List ℕ)) → AreReplies c w out r ps → AreReplies c w out r qs → AreReplies c w out r (ps ++ qs)
replies-append c w out r [] qs h k = k
replies-append c w out r (p ∷ ps) qs h k = (h.0, h.1, replies-append c w out r ps qs h.2 k)

or-last : (b c : Bool) → c ≡ true → (b || c) ≡ true
or-last true c e = refl
or-last false c e = e

not_limit : (b : ControlBlock) → end_reason b ≡ reason.Limit → ⊥
not_limit b = cond_both b.reset reason.Peer reason.Closed (λ (r : Reason). r ≡ reason.Limit → ⊥) (λ t e. cc) (λ t e. cc)

module _ (env : ServeEnv) (w out : Stream) (vs : List Verdict) (was_reset : Bool) where
  abbrev pub Ends : List Verdict → Ending × Turn → Type 0
  Ends pend given = EndTurned env.files env.c w out vs was_reset pend given

  abbrev pub reset_in : Service → Bool
  reset_in s = was_reset || list_any is_reset_record s.notes

  -- what is left of an endpoint that ended
  ended-it : (now : Stream) (b : ControlBlock) (why : Reason) (r : Bool) → IsBetween w now b → (why ≡ reason.Limit → r ≡ true) → EndedWithNumbers w r (final_of b why)
  ended-it now b why r h limit = record { snd_fits = omega arith; rcv_fits = omega arith; acks = awaits-within w now b h; limit = limit }

  -- one that said what it may, and was not reset, is held as it was
  still-holds : (s : Service) (pend : List Verdict) (g : TurnServes env.files env.c w out vs s pend) (r : Bool) (said : List (Place × List ℕ) × ControlBlock) → Spoke env.c w g.out_now r s.block said → HasReadPending w s.block g.vs_now pend
      → IsWide said.1 → said.1.reset ≡ false → HoldsItPending w g.out_now g.vs_now pend said.1 s.count
  still-holds s pend g r said talk read wide calm = record {
    counted = g.counted;
    not_reset = calm;
    sound = between-sound w g.out_now said.1 talk.between;
    speaks = talk.between.speaks;
    out_is = talk.between.out_is;
    hears = talk.between.hears;
    wide = wide;
    has_read = read-same w g.out_now s.block said.1 g.vs_now pend g.between talk.between talk.recv read;
  }

  pub spoken-ends : (s : Service) (pend : List Verdict) (g : TurnServes env.files env.c w out vs s pend) (before : List (Place × List ℕ)) → HasReadPending w s.block g.vs_now pend
      → AreReplies env.c w g.out_now (reset_in s) before → Ends pend (spoken env s before)
  spoken-ends s pend g before read replies =
      let r = reset_in s in
      let said = speaks env.c s.block in
      let talk : Spoke env.c w g.out_now r s.block said = emits-spoke env.c w g.out_now r (emits_left s.block) s.block g.between in
      let wide : IsWide said.1 = wide-half said.1 (speaks-wide env.c s.block (half-wide s.block g.wide)) in
      let P : Ending → Type 0 = λ e. EndAgreesPending w g.out_now g.vs_now pend r e in
      record {
        out_after = g.out_now;
        vs_after = g.vs_now;
        longer = g.longer;
        says = g.says;
        agrees = rested-keeps P said.1 s.count
            (λ may. ended-it g.out_now said.1 (end_reason said.1) r talk.between (λ e. absurd (not_limit said.1 e)))
            (λ e. still-holds s pend g r said talk read wide (or_parts said.1.reset (is_closed said.1) e).0);
        noted = g.noted;
        sent = replies-append env.c w g.out_now r before said.0 replies talk.sent;
      }

  limit-reply : (now : Stream) (b : ControlBlock) (r : Bool) → r ≡ true → IsReply w now r (limit_said (final_of b reason.Limit))
  limit-reply now b r e = record {
    sendable = record { seq_fits = omega arith; ack_fits = omega arith; wnd_fits = omega arith; some_mss = tt; small_mss = tt; small_payload = omega arith; no_ack = λ f. absurd cc };
    true_of = bare-true now (limit_said (final_of b reason.Limit)) (λ f. absurd cc) refl refl;
    acks = λ f. absurd cc;
    resets = λ f. e;
  }

  -- at the stream limit
  cut_off-ends : (s : Service) (pend others : List Verdict) → TurnServes env.files env.c w out vs s pend → list_any is_reset_record s.notes ≡ true → Ends others (cut_off env s)
  cut_off-ends s pend others g e =
      let r = reset_in s in
      let was : r ≡ true = or-last was_reset (list_any is_reset_record s.notes) e in
      let said = speaks_symbols env.c s.block in
      let talk : Spoke env.c w g.out_now r s.block said = emits_symbols-spoke env.c w g.out_now r (emits_left s.block) s.block g.between in
      let last = final_of said.1 reason.Limit in
      record {
        out_after = g.out_now;
        vs_after = g.vs_now;
        longer = g.longer;
        says = g.says;
        agrees = ended-it g.out_now said.1 reason.Limit r talk.between (λ f. was);
        noted = g.noted;
        sent = replies-append env.c w g.out_now r said.0 (serving_told env (limit_said last) ∷ []) talk.sent ((refl, (limit_said last, refl, limit-reply g.out_now said.1 r was), tt));
      }

  -- of what is in hand, whatever that came to
  pub settled-ends : (s : Service) (pend : List Verdict) → TurnServes env.files env.c w out vs s pend → Ends pend (serving_settled env s)
  settled-ends s pend g =
      let read : (o : Option ℕ) → s.over ≡ o → IsReading w g.vs_now pend s.block s.notes o = λ o e. subst (IsReading w g.vs_now pend s.block s.notes) e g.reading in
      settled-keeps (Ends pend) env s (λ e. spoken-ends s pend g [] (read None e) tt) (λ total e. cut_off-ends s pend pend g (read (Some total) e))
