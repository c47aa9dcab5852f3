-- The turns of a client's own calls and of its timer keep the agreement.
use Rattle.std.proofs.Common.{◌≡◌, ◌≤◌, ◌<◌, ◌+◌, ◌^◌, ℕ, true, false, cond, ◌||◌, List, [], ◌∷◌, ◌++◌, length, take, Some, arith, refl, sym, ap, ◌∙◌, subst, append-nil}
use Rattle.std.proofs.lemmas.Bool.{cond_both}
use Rattle.lard_law_view.specs.Prelude.{Accepts, AreClientNotes, AreClientWords, ClientAgrees, ClientBlock, ClientOpened, ClientTurned, GoesOn, Place, Ready, Rec, Speaks, Stream, abort_ready, aborted, accepted_in, client_aborts, client_after_timer, client_filled, client_holds, client_opened, client_opens, client_shuts, client_taken, client_takes, client_timed, client_timer, client_writes, client_written, held_on, is_client_open, is_established, is_writing, queued_too, send_closed, shut_down, silent, speaking, station_ready_of, stream_of, unwritten, written_in, written_len}
use Rattle.lard_client.specs.declared.phase.Phase.TheVariants as phase
use Rattle.lard_journal.specs.declared.rec.Rec.TheVariants as rec
use Rattle.lard_law_view.proofs.Client.{opening-begins, timed-fair, timer-left, abort-fair, written-speaks}
use Rattle.lard_law_view.proofs.Pieces.{Fair}
use Rattle.lard_law_view.proofs.Speaking.{Continues, continues-as, speaks-closed}
use Rattle.lard_law_view.proofs.ClientAlike.{IsLike, IsLeft, alike, timer-alike}
use Rattle.lard_law_view.proofs.ClientSpeaking.{agrees-after, emits-spoke, ready-words, turned-speaking}

module _ (c : ℕ) (w out : Stream) (x : ClientBlock) (most : length out.bytes ≤ 2 ^ 30) (h : ClientAgrees c w out x) where
  -- ---- any turn

  -- The stream goes on by what was noted as written, and so does what it accepted.
  pub turned : (y : ClientBlock) (notes : List Rec) (segments : List (Place × List ℕ)) (bytes : List ℕ) → IsLike x y
      → Speaks y.send bytes × GoesOn (stream_of x.send w.bytes) (stream_of y.send bytes) → Accepts out y
      → bytes ≡ w.bytes ++ written_in notes → take y.accepted out.bytes ≡ take x.accepted out.bytes ++ accepted_in notes
      → AreClientNotes c notes → AreClientWords c (stream_of y.send bytes) segments
      → ClientTurned c w out x (y, record { notes = notes; segments = segments; answered = 0 })
  turned y notes segments bytes like goes accepts wrote took are sent =
      let within = accepts.within in
      record {
        w_after = stream_of y.send bytes;
        longer = subst (λ (v : Stream). GoesOn v (stream_of y.send bytes)) (sym h.w_is) goes.1;
        wrote = wrote;
        agrees = agrees-after c w (stream_of y.send bytes) out x y h like (omega arith) refl goes.0 accepts;
        notes = are;
        accepted = took;
        sent = sent;
      }

  -- ---- a turn in which nothing is written or accepted

  -- the client after it
  abbrev Stays : ClientBlock → Type 0
  Stays y = IsLeft x y × Continues x.send w.bytes y.send × Accepts out y

  stays : Stays x
  stays = ((alike x, refl), continues-as x.send x.send w.bytes (h.speaks, refl), h.accepts)

  stayed : (y : ClientBlock) (notes : List Rec) (segments : List (Place × List ℕ)) → Stays y → written_in notes ≡ [] → accepted_in notes ≡ []
      → AreClientNotes c notes → AreClientWords c (stream_of y.send w.bytes) segments → ClientTurned c w out x (y, record { notes = notes; segments = segments; answered = 0 })
  stayed y notes segments k wrote took are sent =
      turned y notes segments w.bytes k.0.0 k.1 k.2
      (sym (append-nil w.bytes) ∙ ap (λ (l : List ℕ). w.bytes ++ l) (sym wrote))
      (ap (λ n. take n out.bytes) k.0.1 ∙ sym (append-nil (take x.accepted out.bytes)) ∙ ap (λ (l : List ℕ). take x.accepted out.bytes ++ l) (sym took))
      are sent

  -- nothing is done
  pub silent-turned : ClientTurned c w out x (x, silent)
  silent-turned = stayed x [] [] stays refl refl tt tt

  -- it speaks after that
  stayed-speaking : (y : ClientBlock) (segments : List (Place × List ℕ)) → Stays y → AreClientWords c (stream_of y.send w.bytes) segments → ClientTurned c w out x (speaking [] segments y)
  stayed-speaking y segments k sent = turned-speaking c w out x y [] segments (stayed y [] segments k refl refl tt sent)

  -- ---- the calls

  pub shuts-turned : ClientTurned c w out x (client_shuts x)
  shuts-turned =
      let a = h.accepts in
      stayed-speaking (shut_down x) []
      (cond_both (is_client_open x) (record x { send = send_closed x.send }) x Stays
      (λ t. ((alike x, refl), speaks-closed x.send w.bytes h.speaks, record { first = a.first; within = a.within; final = a.final })) (λ t. stays))
      tt

  pub holds-turned : ClientTurned c w out x (client_holds x)
  holds-turned =
      let a = h.accepts in
      let s = stays in
      stayed-speaking (held_on x) []
      (cond_both (is_client_open x) (record x { holding = true }) x Stays
      (λ t. (s.0, s.1, record { first = a.first; within = a.within; final = a.final })) (λ t. s))
      tt

  pub takes-turned : ClientTurned c w out x (client_takes x)
  takes-turned =
      let a = h.accepts in
      let s = stays in
      stayed-speaking (client_taken x) []
      (cond_both (is_client_open x) (record x { holding = false; held = 0; owed = x.owed || is_established x }) x Stays
      (λ t. (((refl, refl, refl, λ e. omega arith), refl), s.1, record { first = a.first; within = a.within; final = a.final })) (λ t. s))
      tt

  pub aborts-turned : ClientTurned c w out x (client_aborts x)
  aborts-turned =
      let a = h.accepts in
      let s = stays in
      let gone : Stays (aborted x) = cond_both (is_client_open x) (record x { phase = phase.Aborted }) x Stays
      (λ t. (s.0, s.1, record { first = a.first; within = a.within; final = a.final })) (λ t. s) in
      stayed (aborted x) (rec.Aborted x.c ∷ []) (station_ready_of (aborted x) (abort_ready x)) gone refl refl (h.numbered, tt)
      (ready-words c (stream_of (aborted x).send w.bytes) (aborted x) (abort_ready x) (gone.0.0.0 ∙ h.numbered) (λ r e. abort-fair (stream_of (aborted x).send w.bytes) x r e))

  pub timer-turned : ClientTurned c w out x (client_timer x)
  timer-turned =
      let left = timer-left out x w.bytes h.speaks h.accepts in
      let like = timer-alike x in
      let fair = λ (r : Ready) (e : client_timed x ≡ Some r). subst (λ (v : Stream). Fair v (client_filled (client_after_timer x) r)) (sym left.1) (timed-fair x w.bytes h.sound h.wide h.speaks r e) in
      stayed-speaking (client_after_timer x) (station_ready_of (client_after_timer x) (client_timed x)) (like, continues-as x.send (client_after_timer x).send w.bytes (left.0, left.1), left.2)
      (ready-words c (stream_of (client_after_timer x).send w.bytes) (client_after_timer x) (client_timed x) (like.0.0 ∙ h.numbered) fair)

  -- it writes
  wrote-turned : (bytes : List ℕ) → is_writing x ≡ true → written_len x bytes ≤ 2 ^ 30 → ClientTurned c w out x (speaking (rec.Wrote x.c bytes ∷ []) [] (client_written x bytes))
  wrote-turned bytes writes fits =
      let a = h.accepts in
      let count = h.speaks.part.count in
      let all : x.send.total + length bytes ≤ 2 ^ 30 = subst (λ b. x.send.total + cond b (length bytes) 0 ≤ 2 ^ 30) writes fits in
      let same : IsLeft x (client_written x bytes) × Accepts out (client_written x bytes) =
      cond_both (is_writing x) (record x { send = queued_too x.send bytes }) x (λ y. IsLeft x y × Accepts out y)
      (λ t. ((alike x, refl), record { first = a.first; within = a.within; final = a.final })) (λ t. ((alike x, refl), a)) in
      turned-speaking c w out x (client_written x bytes) (rec.Wrote x.c bytes ∷ []) []
      (turned (client_written x bytes) (rec.Wrote x.c bytes ∷ []) [] (w.bytes ++ bytes) same.0.0
      (written-speaks x w.bytes bytes writes (omega arith) h.speaks) same.1
      (ap (λ (l : List ℕ). w.bytes ++ l) (sym (append-nil bytes)))
      (ap (λ n. take n out.bytes) same.0.1 ∙ sym (append-nil (take x.accepted out.bytes)))
      (h.numbered, tt) tt)

  pub writes-turned : (bytes : List ℕ) → written_len x bytes ≤ 2 ^ 30 → ClientTurned c w out x (client_writes x bytes)
  writes-turned bytes fits =
      cond_both (is_writing x) (speaking (rec.Wrote x.c bytes ∷ []) [] (client_written x bytes)) (x, silent) (ClientTurned c w out x)
      (λ t. wrote-turned bytes t fits) (λ t. silent-turned)

-- ---- the beginning

-- a client that opened agrees, whatever it is to be sent
pub opened-agrees : (c isn wnd mss : ℕ) (out : Stream) → isn < 2 ^ 32 → wnd < 2 ^ 16 → 1 ≤ mss → mss ≤ 1460 → ClientAgrees c (unwritten isn) out (client_opened c isn wnd mss)
opened-agrees c isn wnd mss out n wide some small =
    let begins = opening-begins out c isn wnd mss n in
    record {
      numbered = refl;
      sound = record { bounded = omega arith; held_within = omega arith; some_mss = some; small_mss = small };
      wide = wide;
      speaks = begins.1;
      w_is = refl;
      accepts = begins.0;
    }

pub opens-agreeing : (c isn wnd mss : ℕ) (out : Stream) → isn < 2 ^ 32 → wnd < 2 ^ 16 → 1 ≤ mss → mss ≤ 1460 → ClientOpened c (unwritten isn) out (client_opens c isn wnd mss)
opens-agreeing c isn wnd mss out n wide some small =
    let spoke = emits-spoke c (unwritten isn) out _ (client_opened c isn wnd mss) (opened-agrees c isn wnd mss out n wide some small) in
    record { agrees = spoke.agrees; accepted = spoke.accepted; notes = refl; sent = spoke.sent }
