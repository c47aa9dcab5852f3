-- What a client hears of a segment, in the numbers of the journal.
use Rattle.std.proofs.Common.{◌≡◌, ℕ, ◌+◌, ◌<◌, ◌^◌, length, Bool, true, false, not, ◌==◌, cond, refl, sym, ap, ◌∙◌, arith}
use Rattle.std.proofs.lemmas.Bool.{cond_both}
use Rattle.lard_law_view.specs.Prelude.{ClientBlock, Heard, IsInOrder, Phase, Said, answers_syn, client_arrived, client_on_segment, established, heard_in, heard_nothing, is_established, on_greeting, one_if, reset_by_peer, seq_add}
use Rattle.lard_client.specs.declared.phase.Phase.TheVariants.{Open, Aborted, Reset}
use Rattle.lard_client.proofs.Accepted.{arrived-order}

-- it takes something
abbrev pub Takes : Heard → Type 0
Takes h = 0 < h.len + one_if h.eof

abbrev TakesNothing : Heard × ClientBlock → Type 0
TakesNothing given = given.0.len + one_if given.0.eof ≡ 0

greeting-nothing : (x : ClientBlock) (s : Said) → TakesNothing (on_greeting x s)
greeting-nothing x s =
    cond_both (not (answers_syn x s)) (heard_nothing, x) (cond s.flags.rst (heard_nothing, reset_by_peer x) (cond s.flags.syn (heard_nothing, established x s) (heard_nothing, x))) TakesNothing (λ t. refl)
    (λ f. cond_both s.flags.rst (heard_nothing, reset_by_peer x) (cond s.flags.syn (heard_nothing, established x s) (heard_nothing, x)) TakesNothing (λ t. refl)
    (λ g. cond_both s.flags.syn (heard_nothing, established x s) (heard_nothing, x) TakesNothing (λ t. refl) (λ h. refl)))

none-taken : (given : Heard × ClientBlock) → TakesNothing given → Takes given.0 → ⊥
none-taken given none some = omega (arith, none, some)

-- it takes something only once it is established
pub takes-established : (x : ClientBlock) (s : Said) → Takes (client_arrived x s).0 → is_established x ≡ true
unfolding client_arrived
takes-established x s some = in-phase x.phase some where
  open_ : (b : Bool) → (x.send.una == 0) ≡ b → Takes (cond b (on_greeting x s) (client_on_segment x s)).0 → not b ≡ true
  open_ true e h = absurd (none-taken (on_greeting x s) (greeting-nothing x s) h)
  open_ false e h = refl

  in-phase : (p : Phase) → Takes (heard_in p x s).0 → is_established x ≡ true
  in-phase Open h = open_ (x.send.una == 0) refl h
  in-phase Aborted h = absurd (omega (arith, h))
  in-phase Reset h = absurd (omega (arith, h))

module _ (x : ClientBlock) (s : Said) (fits : s.seq < 2 ^ 32) (some : Takes (client_arrived x s).0) where
  in-order : IsInOrder x s (client_arrived x s).0 (client_arrived x s).1
  in-order = arrived-order x s fits

  not-ended : x.eof ≡ false
  not-ended = go x.eof refl where
    go : (b : Bool) → x.eof ≡ b → b ≡ false
    go true e = let none = in-order.once e in absurd (omega (arith, none, some))
    go false e = refl

  -- what it takes begins behind all that it accepted
  pub next-number : seq_add s.seq (client_arrived x s).0.from ≡ seq_add x.send.irs (1 + x.accepted)
  next-number = in-order.place some ∙ ap (λ (b : Bool). seq_add x.send.irs (1 + x.accepted + one_if b)) not-ended ∙ ap (seq_add x.send.irs) (plus-zero (1 + x.accepted)) where
    plus-zero : (n : ℕ) → n + 0 ≡ n
    plus-zero n = omega arith

  -- and so does the FIN behind it
  pub end-number : (client_arrived x s).0.eof ≡ true → seq_add s.seq (length s.payload) ≡ seq_add x.send.irs (1 + (x.accepted + (client_arrived x s).0.len))
  end-number e =
      let h : Heard = (client_arrived x s).0 in
      let last : h.from + h.len ≡ length s.payload = in-order.last e in
      ap (seq_add s.seq) (sym last) ∙ sym (two-steps s.seq h.from h.len) ∙ ap (λ (n : ℕ). seq_add n h.len) next-number ∙ two-steps x.send.irs (1 + x.accepted) h.len
      ∙ ap (seq_add x.send.irs) (omega arith) where
        two-steps : (b m n : ℕ) → seq_add (seq_add b m) n ≡ seq_add b (m + n)
        two-steps b m n = omega arith
