-- The symbols of what is sent count as sent from then on.
use Rattle.std.proofs.Common.{◌≡◌, ◌≤◌, ◌<◌, ◌+◌, ◌-◌, ◌==◌, ◌&&◌, nat_lt, min, max, ℕ, Bool, true, false, cond, Option, Some, None, IfSome, refl, ap, arith, subst}
use Rattle.std.proofs.lemmas.Bool.{and_parts, eqb-false, eqb-true, ltb-true}
use Rattle.lard_law_view.specs.Prelude.{IsSending, Sending, after_next, after_resend, again_fin, again_len, byte_piece, may_send, next_fin, next_len, next_piece, one_if, resent_piece, symbols, syn_piece, unsent_bytes}
use Rattle.lard_send.specs.declared.piece.Piece.{Piece}

-- where so many symbols were sent then
pub record IsSent (t : Sending) (p : Piece) : Type 0 where
  pub syn : p.syn ≡ true → 1 ≤ t.nxt
  pub bytes : p.syn ≡ false → 1 + p.at + p.len + one_if p.fin ≤ t.nxt
  pub alone : p.syn ≡ true → (p.len ≡ 0) × (p.fin ≡ false)

abbrev Sent : Option Piece → Sending → Type 0
Sent o t = IfSome o (IsSent t)

next-sent : (s : Sending) → Sent (next_piece s) (after_next s)
next-sent s = go (s.nxt == 0) refl (may_send s) where
  go : (t : Bool) → (s.nxt == 0) ≡ t → (m : Bool)
      → Sent (cond {A = Option Piece} t (Some syn_piece) (cond {A = Option Piece} m (Some (byte_piece s (s.nxt - 1) (next_len s) (next_fin s))) None))
      (cond t (record s { nxt = 1 }) (cond m (record s { nxt = s.nxt + next_len s + one_if (next_fin s) }) s))
  go true e m = record { syn = λ f. omega arith; bytes = λ f. absurd (cc); alone = λ f. (refl, refl) }
  go false e true = record { syn = λ f. absurd (cc); bytes = λ f. let some : s.nxt ≡ 0 → ⊥ = eqb-false s.nxt 0 e in omega arith; alone = λ f. absurd (cc) }
  go false e false = tt

pub next-is : (s : Sending) (p : Piece) → next_piece s ≡ Some p → IsSent (after_next s) p
next-is s p e = subst (λ (o : Option Piece). Sent o (after_next s)) e (next-sent s)

again-few : (s : Sending) (b : Bool) → IsSending s → again_fin s ≡ b → s.una < s.nxt → 1 ≤ s.una → 1 + (s.una - 1) + again_len s + one_if b ≤ s.nxt
again-few s true h e more some =
    let ends = and_parts s.finished ((s.nxt == symbols s) && ((s.una - 1) + again_len s == s.total)) e in
    let both = and_parts (s.nxt == symbols s) ((s.una - 1) + again_len s == s.total) ends.1 in
    let all : s.nxt ≡ symbols s = eqb-true s.nxt (symbols s) both.0 in
    let last : (s.una - 1) + again_len s ≡ s.total = eqb-true ((s.una - 1) + again_len s) s.total both.1 in
    let one : one_if s.finished ≡ 1 = ap one_if ends.0 in
    omega (arith, all, last, one, some)
again-few s false h e more some = omega (arith, more, some)

probe-few : (n len all : ℕ) → 1 ≤ n → len ≤ 1 → (all ≡ 0 → len ≡ 0) → (b : Bool) → (all == 0) ≡ b → 1 + (n - 1) + len + one_if b ≤ n + 1
probe-few n len all some few none true e = let z : all ≡ 0 = eqb-true all 0 e in omega (arith, none z, some)
probe-few n len all some few none false e = omega (arith, few, some)

resend-sent : (s : Sending) → IsSending s → Sent (resent_piece s) (after_resend s)
resend-sent s h = go (s.una == 0) refl (nat_lt s.una s.nxt) refl (nat_lt s.nxt (symbols s)) where
  go : (t : Bool) → (s.una == 0) ≡ t → (a : Bool) → nat_lt s.una s.nxt ≡ a → (m : Bool)
      → Sent (cond {A = Option Piece} t (Some syn_piece) (cond {A = Option Piece} a (Some (byte_piece s (s.una - 1) (again_len s) (again_fin s)))
      (cond {A = Option Piece} m (Some (byte_piece s (s.nxt - 1) (min (unsent_bytes s) 1) (unsent_bytes s == 0))) None)))
      (cond t (record s { nxt = max s.nxt 1 }) (cond a s (cond m (record s { nxt = s.nxt + 1 }) s)))
  go true e a f m = record { syn = λ g. omega arith; bytes = λ g. absurd (cc); alone = λ g. (refl, refl) }
  go false e true f m =
      let some : s.una ≡ 0 → ⊥ = eqb-false s.una 0 e in
      record { syn = λ g. absurd (cc); bytes = λ g. again-few s (again_fin s) h refl (ltb-true s.una s.nxt f) (omega (arith, some)); alone = λ g. absurd (cc) }
  go false e false f true =
      let some : s.una ≡ 0 → ⊥ = eqb-false s.una 0 e in
      let sent = h.sent in
      record { syn = λ g. absurd (cc); bytes = λ g. probe-few s.nxt (min (unsent_bytes s) 1) (unsent_bytes s) (omega (arith, some, sent)) (omega arith) (λ z. omega (arith, z)) (unsent_bytes s == 0) refl; alone = λ g. absurd (cc) }
  go false e false f false = tt

pub resend-is : (s : Sending) (p : Piece) → IsSending s → resent_piece s ≡ Some p → IsSent (after_resend s) p
resend-is s p h e = subst (λ (o : Option Piece). Sent o (after_resend s)) e (resend-sent s h)
