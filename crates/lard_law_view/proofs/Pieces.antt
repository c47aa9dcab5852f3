-- The pieces of a sending half are true parts of the bytes that it was given, and end where it says. Both ends of a
-- connection share this half.
use Rattle.std.proofs.Common.{◌≡◌, ◌≤◌, ◌<◌, ◌+◌, ◌-◌, ℕ, Bool, true, false, cond, min, nat_lt, ◌==◌, not, ◌&&◌, List, [], length, take, drop, Option, Some, None, IfSome, arith, ap, ◌∙◌, sym, subst, refl, inl, inr, length-take, length-drop}
use Rattle.std.proofs.lemmas.Bool.{cond_both, and_parts, eqb-true, eqb-false, ltb-true}
use Rattle.lard_law_view.specs.Prelude.{Flags, IsPartAt, IsSendable, IsSending, IsTrueOf, Said, Sending, Speaks, Stream, acknowledged_bytes, again_fin, again_len, byte_piece, may_send, next_fin, next_len, next_piece, one_if, resent_piece, send_left, seq_add, stream_of, symbols, syn_piece, unsent_bytes}
use Rattle.lard_send.specs.declared.piece.Piece.{Piece}
use Rattle.lard_send.proofs.Unacknowledged.{pieces}
use Rattle.lard_law_view.proofs.Speaking.{one_small}

-- Its bytes are queued and not acknowledged, a FIN stands behind all bytes, and a SYN goes alone.
pub record Carries (s : Sending) (p : Piece) : Type 0 where
  pub from : acknowledged_bytes s ≤ p.at
  pub to : p.at + p.len ≤ s.total
  pub small : p.len ≤ 1460
  pub final : p.fin ≡ true → (p.at + p.len ≡ s.total) × (s.finished ≡ true)
  pub alone : p.syn ≡ true → (p.len ≡ 0) × (p.fin ≡ false)

-- ---- which pieces there are
set_bit : (b : Bool) → 0 < one_if b → b ≡ true
set_bit true h = refl
set_bit false h = absurd (omega arith)

syn-carries : (s : Sending) → IsSending s → s.una ≡ 0 → Carries s syn_piece
syn-carries s h z = record { from = omega arith; to = omega arith; small = omega arith; final = λ e. absurd (cc); alone = λ e. (refl, refl) }

-- bytes from a symbol on that is not acknowledged
bytes-carry : (s : Sending) (k len : ℕ) (fin : Bool) → IsSending s → s.una ≤ k → (k - 1) + len ≤ s.total → len ≤ s.mss
    → (fin ≡ true → ((k - 1) + len ≡ s.total) × (s.finished ≡ true)) → Carries s (byte_piece s (k - 1) len fin)
bytes-carry s k len fin h le to small final =
    let kept = h.kept in
    let most = h.small_mss in
    record { from = omega arith; to = to; small = omega arith; final = final; alone = λ e. absurd (cc) }

next-carried : (s : Sending) → IsSending s → IfSome (next_piece s) (Carries s)
next-carried s h =
    let P : Option Piece → Type 0 = λ o. IfSome o (Carries s) in
    let next = Some (byte_piece s (s.nxt - 1) (next_len s) (next_fin s)) in
    let sent = h.sent in
    cond_both (s.nxt == 0) (Some syn_piece) (cond (may_send s) next None) P
    (λ t. let zero : s.nxt ≡ 0 = eqb-true s.nxt 0 t in syn-carries s h (omega arith))
    (λ t. cond_both (may_send s) next None P
    (λ m.
    let may = and_parts (not (s.una == 0)) (nat_lt s.nxt (symbols s) && nat_lt 0 (send_left s)) m in
    let some : s.nxt < symbols s = ltb-true s.nxt (symbols s) (and_parts (nat_lt s.nxt (symbols s)) (nat_lt 0 (send_left s)) may.1).0 in
    let one = one_small s.finished in
    bytes-carry s s.nxt (next_len s) (next_fin s) h sent (omega arith) (omega arith)
    (λ f.
    let ends = and_parts s.finished ((next_len s == unsent_bytes s) && nat_lt (next_len s) (send_left s)) f in
    let all : next_len s ≡ unsent_bytes s = eqb-true (next_len s) (unsent_bytes s) (and_parts (next_len s == unsent_bytes s) (nat_lt (next_len s) (send_left s)) ends.1).0 in
    (omega arith, ends.0)))
    (λ m. tt))

resent-carried : (s : Sending) → IsSending s → IfSome (resent_piece s) (Carries s)
resent-carried s h =
    let P : Option Piece → Type 0 = λ o. IfSome o (Carries s) in
    let again = Some (byte_piece s (s.una - 1) (again_len s) (again_fin s)) in
    let probe = Some (byte_piece s (s.nxt - 1) (min (unsent_bytes s) 1) (unsent_bytes s == 0)) in
    let last : Option Piece = cond (nat_lt s.nxt (symbols s)) probe None in
    let sent = h.sent in
    let queued : s.nxt ≤ symbols s = h.queued in
    let mss = h.some_mss in
    let one = one_small s.finished in
    cond_both (s.una == 0) (Some syn_piece) (cond (nat_lt s.una s.nxt) again last) P
    (λ t. syn-carries s h (eqb-true s.una 0 t))
    (λ t. cond_both (nat_lt s.una s.nxt) again last P
    (λ u.
    let some : s.una < s.nxt = ltb-true s.una s.nxt u in
    bytes-carry s s.una (again_len s) (again_fin s) h (omega arith) (omega arith) (omega arith)
    (λ f.
    let ends = and_parts s.finished ((s.nxt == symbols s) && ((s.una - 1) + again_len s == s.total)) f in
    (eqb-true ((s.una - 1) + again_len s) s.total (and_parts (s.nxt == symbols s) ((s.una - 1) + again_len s == s.total) ends.1).1, ends.0)))
    (λ u. cond_both (nat_lt s.nxt (symbols s)) probe None P
    (λ v.
    let some : s.nxt < symbols s = ltb-true s.nxt (symbols s) v in
    bytes-carry s s.nxt (min (unsent_bytes s) 1) (unsent_bytes s == 0) h sent (omega arith) (omega arith)
    (λ f.
    let none : unsent_bytes s ≡ 0 = eqb-true (unsent_bytes s) 0 f in
    let begun : s.una ≡ 0 → ⊥ = eqb-false s.una 0 t in
    (omega arith, set_bit s.finished (omega arith))))
    (λ v. tt)))

pub next-carries : (s : Sending) (p : Piece) → IsSending s → next_piece s ≡ Some p → Carries s p
next-carries s p h e = subst (λ (o : Option Piece). IfSome o (Carries s)) e (next-carried s h)

pub resent-carries : (s : Sending) (p : Piece) → IsSending s → resent_piece s ≡ Some p → Carries s p
resent-carries s p h e = subst (λ (o : Option Piece). IfSome o (Carries s)) e (resent-carried s h)

-- ---- what they say
-- the bytes of a piece
abbrev pub piece_bytes : Sending → Piece → List ℕ
piece_bytes s p = take p.len (drop (p.at - acknowledged_bytes s) s.rest)

-- true, and such that it can be sent
abbrev pub Fair : Stream → Said → Type 0
Fair x s = IsTrueOf x s × IsSendable s

-- a segment without bytes and FIN
pub bare-true : (x : Stream) (s : Said) → (s.flags.syn ≡ true → s.seq ≡ x.first) → s.payload ≡ [] → s.flags.fin ≡ false → IsTrueOf x s
bare-true x s first payload fin = record { greets = first; carries = inl (payload, fin) }

module _ (s : Sending) (bytes : List ℕ) (p : Piece) (h : Speaks s bytes) (c : Carries s p) where
  pub piece_size : length (piece_bytes s p) ≡ p.len
  piece_size =
      let kept = h.sound.kept in
      let from : acknowledged_bytes s ≤ p.at = c.from in
      let to = c.to in
      omega (arith, length-take p.len (drop (p.at - acknowledged_bytes s) s.rest), length-drop (p.at - acknowledged_bytes s) s.rest)

  piece_part : IsPartAt p.at (piece_bytes s p) bytes
  piece_part =
      let to = c.to in
      let count = h.part.count in
      record {
        within = omega (arith, piece_size);
        same = ap (λ n. take n (drop p.at bytes)) piece_size ∙ sym (pieces s bytes p.at p.len c.from h.part);
      }

  -- by its number
  pub piece-true : (ack wnd : ℕ) (flags : Flags) (mss : Option ℕ) → flags.syn ≡ false → flags.fin ≡ p.fin
      → IsTrueOf (stream_of s bytes) (record { seq = seq_add s.iss (1 + p.at); ack = ack; flags = flags; wnd = wnd; mss = mss; payload = piece_bytes s p })
  piece-true ack wnd flags mss syn fin = record {
    greets = λ e. absurd (cc);
    carries = inr (record {
      place = p.at;
      number = refl;
      part = piece_part;
      final = λ f. let last = c.final (sym fin ∙ f) in let size = piece_size in let count = h.part.count in let at = last.0 in (omega arith, last.1);
    });
  }

  -- the SYN goes alone
  pub syn-empty : p.syn ≡ true → piece_bytes s p ≡ []
  syn-empty e = ap (λ n. take n (drop (p.at - acknowledged_bytes s) s.rest)) (c.alone e).0
