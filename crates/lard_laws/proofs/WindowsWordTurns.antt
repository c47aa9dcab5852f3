-- What a client says in the turn of each of its rules.
use Rattle.std.proofs.Common.{◌≡◌, ◌≤◌, ◌<◌, ◌+◌, ◌^◌, ◌&&◌, ◌||◌, nat_lt, not, ℕ, Bool, true, false, cond, List, [], ◌∷◌, ◌++◌, length, Option, Some, None, Ok, IfSome, refl, sym, ap, ◌∙◌, subst, arith}
use Rattle.std.proofs.lemmas.Bool.{and_parts, both_ways, cond-true, cond_both, ltb-false, not-true}
use Rattle.lard_law_view.specs.Prelude.{Client, ClientBlock, Has, Heard, IsClientBlock, IsSendable, Letter, Phase, Place, Ready, Rec, Said, Sending, Speaks, ToClient, ToCluster, Turn, abort_ready, aborted, after_resend, client_aborts, client_after_emit, client_after_piece, client_after_timer, client_arrived, client_filled, client_gets, client_holds, client_opened, client_opens, client_piece_ready, client_ready_of, client_refusal, client_shuts, client_speaks, client_takes, client_timed, client_timer, client_told, client_writes, client_written, decoded, heard_in, heard_open, is_client_open, is_established, is_open_in, is_writing, one_if, queued_too, resent_piece, reset_ready, seg_len, send_closed, seq_offset, shut_down, silent, speaking, spelled, symbols, written_len}
use Rattle.lard_client.specs.declared.phase.Phase.TheVariants.{Open, Aborted, Reset}
use Rattle.lard_client.proofs.Accepted.{arrived-bounded, arrived-ended, no_reply}
use Rattle.lard_client.proofs.Windows.{timed-tells}
use Rattle.lard_laws.specs.WindowsWords.{FitsClient}
use Rattle.lard_laws.proofs.WindowsPieces.{resend-is}
use Rattle.lard_laws.proofs.WindowsWords.{IsLater, IsTurning, Says, Spoke, Word, client-ends, fits-later, from-like, later-self, later-then, since-kept, since-self, speaks-words, symbols-small, IsSince}
use Rattle.lard_endpoint.proofs.Sound.{after_resend-sound}
use Rattle.lard_history.proofs.Each.{Each, Each-append, Each-weaker}
use Rattle.lard_journal.specs.declared.rec.Rec.TheVariants as rec
use Rattle.lard_law_view.proofs.ClientAlike.{IsLike, alike, arrived-alike, emit-alike, timer-alike}
use Rattle.lard_rules.specs.Client as client
use Rattle.lard_rules.proofs.Halves.{client-arrived, client-fires, client-shuts}
use Rattle.lard_rules.proofs.Loops.{client_keeps}
use Rattle.lard_rules.proofs.Sides.{resend-side}
use Rattle.lard_send.specs.declared.piece.Piece.{Piece}
use Rattle.lard_law_view.proofs.Client.{abort-fair, arriving-continues, closing-speaks, reply-fair, timed-fair, written-speaks}
use Rattle.lard_law_view.proofs.Speaking.{speaks-begun, speaks-resend}
use Rattle.lard_rules.proofs.Hearing.{client-emit-keeps, client-timer-keeps}

-- ---- it is open as before

emit-open : (x : ClientBlock) → is_client_open (client_after_emit x) ≡ is_client_open x
emit-open x = client-emit-keeps (λ (y : ClientBlock). is_client_open y ≡ is_client_open x) x refl refl refl

speaks-open : (x : ClientBlock) → is_client_open (client_speaks x).1 ≡ is_client_open x
speaks-open x = client_keeps (λ (x : ClientBlock) ss y. is_client_open y ≡ is_client_open x) (record { rests = λ x. refl; says = λ x r ss y e later. later ∙ emit-open x }) x

speaks-window : (x : ClientBlock) → (client_speaks x).1.wnd ≡ x.wnd
speaks-window x = client_keeps (λ (x : ClientBlock) ss y. y.wnd ≡ x.wnd) (record { rests = λ x. refl; says = λ x r ss y e later. later ∙ (emit-alike x).0.1 }) x

-- what holds by its phase, holds
in-phase : (P : Heard × ClientBlock → Type 0) (x : ClientBlock) (s : Said) → ((p : Phase) → x.phase ≡ p → P (heard_in p x s)) → P (client_arrived x s)
unfolding client_arrived
in-phase P x s h = h x.phase refl

-- ---- a turn

-- all that goes out can be sent, and fits the client as it is then
abbrev pub Out : ℕ → ClientBlock → List Letter → Place × List ℕ → Type 0
Out c x ls p = Word c (λ (t : Said). IsSendable t × FitsClient c x ls t) p

pub record Turned (c : ℕ) (x : ClientBlock) (ls : List Letter) (given : ClientBlock × Turn) : Type 0 where
  pub later : IsLater x given.0
  pub words : Each (Out c given.0 ls) given.1.segments

out-later : (c : ℕ) (x y : ClientBlock) (ls : List Letter) → IsLater x y → (ps : List (Place × List ℕ)) → Each (Out c x ls) ps → Each (Out c y ls) ps
out-later c x y ls later ps h = Each-weaker (Out c x ls) (Out c y ls) (λ p w. (w.0, (w.1.0, w.1.1, (w.1.2.0, fits-later c x y ls ls later (λ l has. has) w.1.0 w.1.2.1)))) ps h

-- what it says of itself
says-fits : (c : ℕ) (x : ClientBlock) (ls : List Letter) (s : Said) → x.send.nxt ≤ symbols x.send → Says x.send.iss x.send.nxt s → FitsClient c x ls s
says-fits c x ls s queued h = record {
  within = λ rst. let w = h.within in omega (arith, w, queued);
  sent = λ rst. h.within;
  closed = λ rst. absurd (both_ways s.flags.rst h.plain rst);
  bare = λ rst. absurd (both_ways s.flags.rst h.plain rst);
  refuses = λ rst ack. absurd (both_ways s.flags.rst h.plain rst);
}

module _ (c : ℕ) (ls : List Letter) where
  -- it speaks after that
  speaking-turned : (x y : ClientBlock) (notes : List Rec) (pre : List (Place × List ℕ)) → IsLater x y → IsTurning c y.send.iss y → Each (Out c y ls) pre → Turned c x ls (speaking notes pre y)
  speaking-turned x y notes pre later turning before =
      let spoke : Spoke c y.send.iss y (client_speaks y).0 (client_speaks y).1 = speaks-words c y.send.iss y turning in
      let z : ClientBlock = (client_speaks y).1 in
      let on : IsLater y z = record { since = spoke.since; window = speaks-window y; closed = λ e. speaks-open y ∙ e } in
      let queued : z.send.nxt ≤ symbols z.send = spoke.turning.speaks.sound.queued in
      let fits : (t : Said) → Says y.send.iss z.send.nxt t → FitsClient c z ls t = λ t says. says-fits c z ls t queued (subst (λ (i : ℕ). Says i z.send.nxt t) (sym spoke.since.iss) says) in
      let own : Each (Out c z ls) (client_speaks y).0 = Each-weaker (Word c (Says y.send.iss z.send.nxt)) (Out c z ls) (λ p w. (w.0, (w.1.0, w.1.1, (w.1.2.sendable, fits w.1.0 w.1.2)))) (client_speaks y).0 spoke.words in
      record {
        later = later-then x y z later on;
        words = Each-append (Out c z ls) pre (client_speaks y).0 (out-later c y z ls on pre before) own;
      }

  pub opens-turned : (isn wnd mss : ℕ) → isn < 2 ^ 32 → wnd < 2 ^ 16 → 1 ≤ mss → mss ≤ 1460 → Turned c (client_opened c isn wnd mss) ls (client_opens c isn wnd mss)
  opens-turned isn wnd mss fits wide some few = speaking-turned (client_opened c isn wnd mss) (client_opened c isn wnd mss) [] [] (later-self (client_opened c isn wnd mss))
      (record { numbered = refl; sound = record { bounded = omega arith; held_within = omega arith; some_mss = some; small_mss = few }; wide = wide; bytes = []; speaks = speaks-begun isn 0 0 536 fits (omega arith) (omega arith); first = refl }) tt

  module _ (x : ClientBlock) (numbered : x.c ≡ c) (sound : IsClientBlock x) (wide : x.wnd < 2 ^ 16) (bytes : List ℕ) (speaks : Speaks x.send bytes) where
    -- what it becomes is known too
    turning : (y : ClientBlock) (more : List ℕ) → IsLike x y → y.accepted ≤ 2 ^ 30 → Speaks y.send more → IsTurning c y.send.iss y
    turning y more like few given = record { numbered = like.0 ∙ numbered; sound = from-like x y like few sound; wide = omega (arith, wide, like.1); bytes = more; speaks = given; first = refl }

    few : x.accepted ≤ 2 ^ 30
    few = sound.bounded

    silent-turned : Turned c x ls (x, silent)
    silent-turned = record { later = later-self x; words = tt }

    pub writes-turned : (stream : ℕ) (more : List ℕ) → stream ≤ 2 ^ 30 → nat_lt stream (written_len x more) ≡ false → Turned c x ls (client_writes x more)
    writes-turned stream more small within = cond_both (is_writing x) (speaking (rec.Wrote x.c more ∷ []) [] (client_written x more)) (x, silent) (Turned c x ls)
        (λ w.
        let y : ClientBlock = record x { send = queued_too x.send more } in
        let le : written_len x more ≤ stream = ltb-false stream (written_len x more) within in
        let all : ◌≡◌ {A = ℕ} (cond (is_writing x) (length more) 0) (length more) = cond-true (is_writing x) (length more) 0 w in
        let count = speaks.part.count in
        let given : Speaks (client_written x more).send (bytes ++ more) = (written-speaks x bytes more w (omega (arith, le, all, small, count)) speaks).0 in
        let is : client_written x more ≡ y = cond-true (is_writing x) y x w in
        subst (λ (z : ClientBlock). Turned c x ls (speaking (rec.Wrote x.c more ∷ []) [] z)) (sym is)
        (speaking-turned x y (rec.Wrote x.c more ∷ []) [] (record { since = record { iss = refl; more = omega arith; sent = omega arith; acked = omega arith; first = λ f. f }; window = refl; closed = λ e. e }) (turning y (bytes ++ more) (refl, refl, refl, λ h. h) few (subst (λ (z : ClientBlock). Speaks z.send (bytes ++ more)) is given)) tt))
        (λ w. silent-turned)

    pub shuts-turned : Turned c x ls (client_shuts x)
    shuts-turned = speaking-turned x (shut_down x) [] []
        (record { since = client-shuts _ (since-kept x.send) x (since-self x.send); window = cond_both (is_client_open x) (record x { send = send_closed x.send }) x (λ (y : ClientBlock). y.wnd ≡ x.wnd) (λ t. refl) (λ t. refl); closed = λ e. open_ ∙ e })
        (turning (shut_down x) bytes (cond_both (is_client_open x) (record x { send = send_closed x.send }) x (IsLike x) (λ t. alike x) (λ t. alike x)) (cond_both (is_client_open x) (record x { send = send_closed x.send }) x (λ (y : ClientBlock). y.accepted ≤ 2 ^ 30) (λ t. few) (λ t. few)) (closing-speaks x bytes speaks).0) tt
      where
        open_ : is_client_open (shut_down x) ≡ is_client_open x
        open_ = cond_both (is_client_open x) (record x { send = send_closed x.send }) x (λ (y : ClientBlock). is_client_open y ≡ is_client_open x) (λ t. refl) (λ t. refl)

    -- a call that leaves its sending half
    same-turned : (y : ClientBlock) → y.send ≡ x.send → is_client_open y ≡ is_client_open x → IsLike x y → y.accepted ≡ x.accepted → Turned c x ls (speaking [] [] y)
    same-turned y send open_ like accepted = speaking-turned x y [] []
        (record { since = subst (λ (t : Sending). IsSince x.send t) (sym send) (since-self x.send); window = like.1; closed = λ e. open_ ∙ e })
        (turning y bytes like (omega (arith, few, accepted)) (subst (λ (t : Sending). Speaks t bytes) (sym send) speaks)) tt

    pub holds-turned : Turned c x ls (client_holds x)
    holds-turned =
        let y : ClientBlock = record x { holding = true } in
        cond_both (is_client_open x) y x (λ (z : ClientBlock). Turned c x ls (speaking [] [] z)) (λ t. same-turned y refl refl (refl, refl, refl, λ h. h) refl) (λ t. same-turned x refl refl (alike x) refl)

    pub takes-turned : Turned c x ls (client_takes x)
    takes-turned =
        let y : ClientBlock = record x { holding = false; held = 0; owed = x.owed || is_established x } in
        cond_both (is_client_open x) y x (λ (z : ClientBlock). Turned c x ls (speaking [] [] z)) (λ t. same-turned y refl refl (refl, refl, refl, λ h. omega arith) refl) (λ t. same-turned x refl refl (alike x) refl)

    -- ---- its reset

    aborted-closed : is_client_open (aborted x) ≡ false
    aborted-closed = cond_both (is_client_open x) (record x { phase = Aborted }) x (λ (y : ClientBlock). is_client_open y ≡ false) (λ t. refl) (λ t. t)

    pub aborts-turned : Turned c x ls (client_aborts x)
    aborts-turned = record {
      later = cond_both (is_client_open x) (record x { phase = Aborted }) x (IsLater x) (λ t. record { since = since-self x.send; window = refl; closed = λ e. refl }) (λ t. later-self x);
      words = go (abort_ready x) refl;
    } where
      number : (aborted x).c ≡ x.c
      number = cond_both (is_client_open x) (record x { phase = Aborted }) x (λ (y : ClientBlock). y.c ≡ x.c) (λ t. refl) (λ t. refl)

      is-reset : (r : Ready) → abort_ready x ≡ Some r → FitsClient c (aborted x) ls (client_filled (aborted x) r)
      is-reset r e = by-test (is_client_open x && is_established x) e where
        by-test : (t : Bool) → cond {A = Option Ready} t (Some (reset_ready x)) None ≡ Some r → FitsClient c (aborted x) ls (client_filled (aborted x) r)
        by-test true k =
            let same : reset_ready x ≡ r = cc in
            subst (λ (q : Ready). FitsClient c (aborted x) ls (client_filled (aborted x) q)) same
            (record { within = λ rst. absurd (cc); sent = λ rst. absurd (cc); closed = λ rst. aborted-closed; bare = λ rst. omega arith; refuses = λ rst ack. absurd (cc) })
        by-test false k = absurd (let no : None ≡ Some r = k in cc)

      go : (o : Option Ready) → abort_ready x ≡ o → Each (Out c (aborted x) ls) (client.station_ready_of (aborted x) o)
      go None e = tt
      go (Some r) e = ((refl, (client_filled (aborted x) r, ap (λ n. spelled n ToCluster (client_filled (aborted x) r)) (number ∙ numbered), ((abort-fair (record { first = 0; bytes = []; ended = false }) x r e).1, is-reset r e))), tt)

    -- ---- its timer

    timed-within : (r : Ready) → client_timed x ≡ Some r → seq_offset (client_filled (client_after_timer x) r).seq x.send.iss + seg_len (client_filled (client_after_timer x) r) ≤ (client_after_timer x).send.nxt
    timed-within r e = go (not (is_client_open x)) (resent_piece x.send) refl e where
      small : x.send.iss < 2 ^ 32
      small = speaks.number

      most : (after_resend x.send).nxt < 2 ^ 32
      most =
          let side = resend-side x.send in
          let q : (after_resend x.send).nxt ≤ symbols (after_resend x.send) = (after_resend-sound x.send speaks.sound).queued in
          let f = ap one_if side.finished in
          let n = side.total in
          let all = symbols-small x.send speaks.sound in
          omega (arith, q, f, n, all)

      go : (t : Bool) (p : Option Piece) → resent_piece x.send ≡ p → cond {A = Option Ready} t None (client_ready_of x p None) ≡ Some r
          → seq_offset (client_filled (cond t x (client_after_piece (record x { send = after_resend x.send }) p x)) r).seq x.send.iss + seg_len (client_filled (cond t x (client_after_piece (record x { send = after_resend x.send }) p x)) r)
          ≤ (cond t x (client_after_piece (record x { send = after_resend x.send }) p x)).send.nxt
      go true p q k = absurd (let no : None ≡ Some r = k in cc)
      go false (Some p) q k =
          let d : ClientBlock = client_told (record x { send = after_resend x.send }) in
          let same : client_piece_ready x p ≡ r = cc in
          subst (λ (r : Ready). seq_offset (client_filled d r).seq x.send.iss + seg_len (client_filled d r) ≤ (after_resend x.send).nxt) same
          (client-ends x p (after_resend x.send) (after_resend x.send).nxt d small (resend-is x.send p speaks.sound q) (omega arith) most)
      go false None q k = absurd (let no : None ≡ Some r = k in cc)

    timer-later : IsLater x (client_after_timer x)
    timer-later = record { since = client-fires _ (since-kept x.send) x (since-self x.send); window = (timer-alike x).0.1; closed = λ e. open_ ∙ e } where
      open_ : is_client_open (client_after_timer x) ≡ is_client_open x
      open_ = client-timer-keeps (λ (y : ClientBlock). is_client_open y ≡ is_client_open x) x refl refl

    timer-speaks : Speaks (client_after_timer x).send bytes
    timer-speaks = client-timer-keeps (λ (y : ClientBlock). Speaks y.send bytes) x speaks (speaks-resend x.send bytes speaks).0

    pub timer-turned : Turned c x ls (client_timer x)
    timer-turned =
        let like = timer-alike x in
        speaking-turned x (client_after_timer x) [] (client.station_ready_of (client_after_timer x) (client_timed x)) timer-later (turning (client_after_timer x) bytes like.0 (omega (arith, few, like.1)) timer-speaks) (go (client_timed x) refl)
      where
        says : (r : Ready) → client_timed x ≡ Some r → Says (client_after_timer x).send.iss (client_after_timer x).send.nxt (client_filled (client_after_timer x) r)
        says r e = subst (λ (i : ℕ). Says i (client_after_timer x).send.nxt (client_filled (client_after_timer x) r)) (sym timer-later.since.iss)
            (record { sendable = (timed-fair x bytes sound wide speaks r e).1; plain = (timed-tells x r e).no_rst; within = timed-within r e })

        go : (o : Option Ready) → client_timed x ≡ o → Each (Out c (client_after_timer x) ls) (client.station_ready_of (client_after_timer x) o)
        go None e = tt
        go (Some r) e =
            let t : Said = client_filled (client_after_timer x) r in
            ((refl, (t, ap (λ n. spelled n ToCluster t) ((timer-alike x).0.0 ∙ numbered), ((says r e).sendable, says-fits c (client_after_timer x) ls t timer-speaks.sound.queued (says r e)))), tt)

    -- ---- a segment comes to it

    pub gets-turned : (from : Place) (came : List ℕ) (s : Said) → Has (record { from = from; to = Client c; bytes = came }) ls → decoded came c ToClient ≡ Ok s → s.ack < 2 ^ 32 → Turned c x ls (client_gets x (Ok s))
    gets-turned from came s has read small =
        let y : ClientBlock = (client_arrived x s).1 in
        speaking-turned x y _ (client.station_ready_of y (client_arrived x s).0.reply) (record { since = client-arrived _ (since-kept x.send) x s (since-self x.send); window = (arrived-alike x s).1; closed = still })
        (turning y bytes (arrived-alike x s) (arrived-bounded x s few) (arriving-continues x bytes s speaks).0) (go (client_arrived x s).0.reply refl)
      where
        still : is_client_open x ≡ false → is_client_open (client_arrived x s).1 ≡ false
        still e = ap is_client_open (arrived-ended x s e).0 ∙ e

        refuses : (p : Phase) → x.phase ≡ p → IfSome (heard_in p x s).0.reply (λ q. FitsClient c (heard_in p x s).1 ls (client_filled (heard_in p x s).1 q))
        refuses Open e = no_reply x s (heard_open x s).0 (heard_open x s).1 (λ q. FitsClient c (heard_open x s).1 ls (client_filled (heard_open x s).1 q)) refl
        refuses Aborted e = cond_both (s.flags.ack && not s.flags.rst) (Some (client_refusal x s.ack)) None (λ (o : Option Ready). IfSome o (λ q. FitsClient c x ls (client_filled x q)))
            (λ t.
            let both = and_parts s.flags.ack (not s.flags.rst) t in
            record {
              within = λ rst. absurd (cc);
              sent = λ rst. absurd (cc);
              closed = λ rst. ap is_open_in e;
              bare = λ rst. omega arith;
              refuses = λ rst ack. record { letter = record { from = from; to = Client c; bytes = came }; said = s; has = has; to = refl; read = read; acks = both.0; plain = not-true s.flags.rst both.1; same = refl };
            })
            (λ t. tt)
        refuses Reset e = tt

        fits : (q : Ready) → (client_arrived x s).0.reply ≡ Some q → FitsClient c (client_arrived x s).1 ls (client_filled (client_arrived x s).1 q)
        fits q e = subst (λ (o : Option Ready). IfSome o (λ r. FitsClient c (client_arrived x s).1 ls (client_filled (client_arrived x s).1 r))) e (by-phase) where
          by-phase : IfSome (client_arrived x s).0.reply (λ r. FitsClient c (client_arrived x s).1 ls (client_filled (client_arrived x s).1 r))
          by-phase = in-phase (λ (h : Heard × ClientBlock). IfSome h.0.reply (λ r. FitsClient c h.1 ls (client_filled h.1 r))) x s (λ p e. refuses p e)

        go : (o : Option Ready) → (client_arrived x s).0.reply ≡ o → Each (Out c (client_arrived x s).1 ls) (client.station_ready_of (client_arrived x s).1 o)
        go None e = tt
        go (Some q) e =
            let t : Said = client_filled (client_arrived x s).1 q in
            ((refl, (t, ap (λ n. spelled n ToCluster t) ((arrived-alike x s).0 ∙ numbered), ((reply-fair (record { first = 0; bytes = []; ended = false }) x s q small e).1, fits q e))), tt)
