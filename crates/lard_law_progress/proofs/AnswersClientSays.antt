-- What an open and established client says that has sent all it has: an acknowledgement where one is owed, with its last number.
use Rattle.std.proofs.Common.{◌≡◌, ◌<◌, ◌≤◌, ◌-◌, ◌^◌, ◌==◌, ◌&&◌, ◌||◌, nat_lt, not, ℕ, Bool, true, false, cond, [], ◌∷◌, Option, Some, None, Ok, refl, sym, ap, ◌∙◌, arith}
use Rattle.std.proofs.lemmas.Bool.{cond-false}
use Rattle.std.proofs.lemmas.Bool.Decides.{nat_tests}
use Rattle.lard_bound.specs.Chains.{is_current}
use Rattle.lard_bound.specs.Spots.{Spot}
use Rattle.lard_law_view.specs.Prelude.{ClientBlock, IsSending, Ready, Said, Sending, ToCluster, byte_piece, client_ack_ready, client_emitted, client_owed_ready, client_owes, client_rcv_nxt, client_rcv_wnd, client_ready_of, client_refusal, client_snd_nxt, client_speaks, client_told, decoded, is_client_open, is_established, may_send, next_fin, next_len, next_piece, send_left, seq_offset, symbols, syn_piece, to_front}
use Rattle.lard_law_progress.proofs.Answering.{client-answers}
use Rattle.lard_rules.proofs.Saying.{client-done}
use Rattle.lard_segment.specs.declared.segment.TheConstants.Flags.{ACK, RST}
use Rattle.lard_segment.proofs.Again.{again}
use Rattle.lard_send.specs.declared.piece.Piece.{Piece}
use Rattle.lard_seq.proofs.Laws.{offset-add}

-- ---- nothing more to send

pub sent-all : (s : Sending) → symbols s ≤ s.nxt → next_piece s ≡ None
sent-all s all =
    let some : (s.nxt == 0) ≡ false = above s.nxt (omega (arith, all)) in
    let done : nat_lt s.nxt (symbols s) ≡ false = under s.nxt (symbols s) all in
    let shut : may_send s ≡ false = last (not (s.una == 0)) (nat_lt s.nxt (symbols s)) (nat_lt 0 (send_left s)) done in
    cond-false (s.nxt == 0) (Some syn_piece) (cond (may_send s) (Some (byte_piece s (s.nxt - 1) (next_len s) (next_fin s))) None) some
    ∙ cond-false (may_send s) (Some (byte_piece s (s.nxt - 1) (next_len s) (next_fin s))) None shut
  where
    above : (n : ℕ) → 1 ≤ n → (n == 0) ≡ false
    above n e = grind (arith, nat_tests, e)

    under : (a b : ℕ) → b ≤ a → nat_lt a b ≡ false
    under a b e = grind (arith, nat_tests, e)

    last : (p q r : Bool) → q ≡ false → (p && (q && r)) ≡ false
    last true q r e = ap (λ (t : Bool). t && r) e
    last false q r e = refl

pub record HasSaidAll (y : ClientBlock) : Type 0 where
  pub sound : IsSending y.send
  pub open_ : is_client_open y ≡ true
  pub established : is_established y ≡ true
  pub all : symbols y.send ≤ y.send.nxt
  pub told_ : (y.last_window == 0) ≡ false
  pub wide : 1 ≤ client_rcv_wnd y

module _ (y : ClientBlock) (h : HasSaidAll y) where
  pub says-nothing : y.owed ≡ false → client_speaks y ≡ ([], y)
  says-nothing free =
      let none = sent-all y.send h.all in
      let quiet : client_owes y ≡ false = λ i. h.established i && (free i || ((h.told_ i) && nat_lt 0 (client_rcv_wnd y))) in
      let owed : client_owed_ready y ≡ None = cond-false (client_owes y) (Some (client_ack_ready y)) None quiet in
      let says : client_emitted y ≡ None =
      ap (λ (t : Bool). cond {A = Option Ready} (not t) None (client_ready_of y (next_piece y.send) (client_owed_ready y))) h.open_
      ∙ ap (λ (o : Option Piece). client_ready_of y o (client_owed_ready y)) none ∙ owed in
      client-done y says

  pub says-one : y.owed ≡ true → client_speaks y ≡ (to_front (client_told y) (client_ack_ready y) ∷ [], client_told y)
  says-one owed = client-answers y h.sound h.open_ h.established owed (sent-all y.send h.all) (above (client_rcv_wnd y) h.wide) where
    above : (n : ℕ) → 1 ≤ n → (n == 0) ≡ false
    above n e = grind (arith, nat_tests, e)

-- ---- what is read of that

-- the acknowledgement
abbrev pub ack_said : ClientBlock → Said
ack_said y = record { seq = client_snd_nxt y; ack = client_rcv_nxt y; flags = ACK; wnd = client_rcv_wnd y; mss = None; payload = [] }

pub ack-read : (y : ClientBlock) → client_rcv_wnd y < 2 ^ 16 → decoded (to_front (client_told y) (client_ack_ready y)).1 y.c ToCluster ≡ Ok (ack_said y)
ack-read y small = again y.c ToCluster (ack_said y) (record {
  seq_fits = omega arith;
  ack_fits = omega arith;
  wnd_fits = small;
  some_mss = tt;
  small_mss = tt;
  small_payload = omega arith;
  no_ack = λ e. absurd (let bad : true ≡ false = e in cc);
})

-- it has the client's last number
pub ack-current : (t : Spot) (y : ClientBlock) → y.send.iss < 2 ^ 32 → t.isn ≡ y.send.iss → t.last ≡ y.send.nxt → y.send.nxt < 2 ^ 32 → is_current t (ack_said y) ≡ true
ack-current t y small isn last few =
    let number : seq_offset (client_snd_nxt y) t.isn ≡ t.last = ap (seq_offset (client_snd_nxt y)) isn ∙ offset-add y.send.iss y.send.nxt small few ∙ sym last in
    equal (seq_offset (client_snd_nxt y) t.isn) t.last number
  where
    equal : (a b : ℕ) → a ≡ b → (a == b) ≡ true
    equal a b e = grind (arith, nat_tests, e)

-- a refusal
abbrev pub refusal_said : ℕ → Said
refusal_said ack = record { seq = ack; ack = 0; flags = RST; wnd = 0; mss = None; payload = [] }

pub refusal-read : (x : ClientBlock) (ack : ℕ) → ack < 2 ^ 32 → decoded (to_front x (client_refusal x ack)).1 x.c ToCluster ≡ Ok (refusal_said ack)
refusal-read x ack small = again x.c ToCluster (refusal_said ack) (record {
  seq_fits = small;
  ack_fits = omega arith;
  wnd_fits = omega arith;
  some_mss = tt;
  small_mss = tt;
  small_payload = omega arith;
  no_ack = λ e. refl;
})
