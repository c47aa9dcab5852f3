-- What a timer sends again of a sending half: a segment from the first symbol that is not acknowledged, with one at least.
use Rattle.std.proofs.Common.{◌≡◌, ◌<◌, ◌≤◌, ◌==◌, ◌&&◌, nat_lt, ℕ, ◌+◌, ◌-◌, ◌^◌, min, Bool, true, false, cond, List, [], ◌∷◌, length, Option, Some, None, refl, sym, ap, ◌∙◌, subst, arith, eqb-true, ltb-true, ltb-false, eq-eqb}
use Rattle.std.proofs.lemmas.Bool.{both_ways, eqb-false}
use Rattle.lard_law_view.specs.Prelude.{ControlBlock, IsSendable, IsSending, Ready, Said, Sending, ServeEnv, Speaks, ToClient, after_piece, after_timer, again_fin, again_len, byte_piece, filled, is_clear, one_if, own_mss, piece_ready, rcv_nxt, rcv_wnd, ready_of, resent_piece, retried, seg_len, seq_add, seq_offset, spelled, symbols, syn_piece, timed, to_client, told, unsent_bytes}
use Rattle.lard_base.specs.declared.place.Place.TheVariants as place
use Rattle.lard_bound.specs.Nears.{IsUntold, first_symbol}
use Rattle.lard_bound.specs.Spots.{EndpointSymbols, Spot}
use Rattle.lard_rules.specs.Serving as serving
use Rattle.lard_send.specs.declared.piece.Piece.{Piece}
use Rattle.lard_seq.proofs.Laws.{offset-add}
use Rattle.lard_law_view.proofs.Endpoint.{timed-fair}
use Rattle.lard_law_view.proofs.Pieces.{piece_bytes, piece_size, resent-carries}
use Rattle.lard_law_view.proofs.Speaking.{resend-moves}

-- ---- the piece

-- a piece from the first symbol that is not acknowledged, with a symbol
pub record IsResent (s : Sending) (p : Piece) : Type 0 where
  pub is : resent_piece s ≡ Some p
  pub syn : p.syn ≡ (s.una == 0)
  pub at : p.syn ≡ false → 1 + p.at ≡ s.una
  pub some : 1 ≤ p.len + one_if p.syn + one_if p.fin

finished-of : (b : Bool) → 1 ≤ one_if b → b ≡ true
finished-of true h = refl
finished-of false h = absurd (omega (arith, h))

one-small : (b : Bool) → one_if b ≤ 1
one-small true = omega arith
one-small false = omega arith

-- where no byte is sent again, the FIN is
again-some : (s : Sending) → IsSending s → (s.una == 0) ≡ false → s.una < s.nxt → 1 ≤ again_len s + one_if (again_fin s)
again-some s h begun less = go (again_len s == 0) refl where
  go : (b : Bool) → (again_len s == 0) ≡ b → 1 ≤ again_len s + one_if (again_fin s)
  go false some = let some_ : again_len s ≡ 0 → ⊥ = eqb-false (again_len s) 0 some in omega (arith, some_)
  go true none =
      let zero : again_len s ≡ 0 = eqb-true (again_len s) 0 none in
      let una : s.una ≡ 0 → ⊥ = eqb-false s.una 0 begun in
      let queued : s.nxt ≤ symbols s = h.queued in
      let mss = h.some_mss in
      let one = one-small s.finished in
      let some_fin : 1 ≤ one_if s.finished = omega (arith, zero, una, queued, mss, less, one) in
      let fin : s.finished ≡ true = finished-of s.finished some_fin in
      let all : s.nxt ≡ symbols s = omega (arith, zero, una, queued, mss, less, one, some_fin) in
      let last : (s.una - 1) + again_len s ≡ s.total = omega (arith, zero, una, queued, mss, less, one, some_fin) in
      let is : again_fin s ≡ true = (λ i. fin i && (eq-eqb s.nxt (symbols s) all i && eq-eqb ((s.una - 1) + again_len s) s.total last i)) in
      let bit : one_if (again_fin s) ≡ 1 = ap one_if is in
      omega (arith, bit)

probe-some : (n : ℕ) → 1 ≤ min n 1 + one_if (n == 0)
probe-some n = go (n == 0) refl where
  go : (b : Bool) → (n == 0) ≡ b → 1 ≤ min n 1 + one_if b
  go true e = omega arith
  go false e = let some : n ≡ 0 → ⊥ = eqb-false n 0 e in omega (arith, some)

pub resent-first : (s : Sending) → IsSending s → is_clear s ≡ false → (p : Piece) × IsResent s p
resent-first s h unclear = go (s.una == 0) refl where
  una-one : (s.una == 0) ≡ false → 1 + (s.una - 1) ≡ s.una
  una-one e = let some : s.una ≡ 0 → ⊥ = eqb-false s.una 0 e in omega (arith, some)

  probe : (s.una == 0) ≡ false → nat_lt s.una s.nxt ≡ false → (b : Bool) → nat_lt s.nxt (symbols s) ≡ b → (p : Piece) × IsResent s p
  probe e f true g =
      let piece : Piece = byte_piece s (s.nxt - 1) (min (unsent_bytes s) 1) (unsent_bytes s == 0) in
      let high : s.nxt ≤ s.una = ltb-false s.una s.nxt f in
      let low = h.sent in
      let one = una-one e in (
        piece,
        record {
          is = ap (λ b. cond b (Some syn_piece) (cond (nat_lt s.una s.nxt) (Some (byte_piece s (s.una - 1) (again_len s) (again_fin s))) (cond (nat_lt s.nxt (symbols s)) (Some piece) None))) e
              ∙ ap (λ b. cond b (Some (byte_piece s (s.una - 1) (again_len s) (again_fin s))) (cond (nat_lt s.nxt (symbols s)) (Some piece) None)) f ∙ ap (λ b. cond b (Some piece) None) g;
          syn = sym e;
          at = λ no_syn. omega (arith, high, low, one);
          some = let more = probe-some (unsent_bytes s) in omega (arith, more);
        },
      )
  probe e f false g =
      let high : symbols s ≤ s.nxt = ltb-false s.nxt (symbols s) g in
      let above : s.nxt ≤ s.una = ltb-false s.una s.nxt f in
      let low = h.sent in
      let queued : s.nxt ≤ symbols s = h.queued in
      let all : s.una ≡ symbols s = omega (arith, high, above, low, queued) in
      absurd (both_ways (is_clear s) unclear (eq-eqb s.una (symbols s) all))

  more : (s.una == 0) ≡ false → (b : Bool) → nat_lt s.una s.nxt ≡ b → (p : Piece) × IsResent s p
  more e true f =
      let piece : Piece = byte_piece s (s.una - 1) (again_len s) (again_fin s) in (
        piece,
        record {
          is = ap (λ b. cond b (Some syn_piece) (cond (nat_lt s.una s.nxt) (Some piece) (cond (nat_lt s.nxt (symbols s)) (Some (byte_piece s (s.nxt - 1) (min (unsent_bytes s) 1) (unsent_bytes s == 0))) None))) e
              ∙ ap (λ b. cond b (Some piece) (cond (nat_lt s.nxt (symbols s)) (Some (byte_piece s (s.nxt - 1) (min (unsent_bytes s) 1) (unsent_bytes s == 0))) None)) f;
          syn = sym e;
          at = λ no_syn. una-one e;
          some = let some_ = again-some s h e (ltb-true s.una s.nxt f) in omega (arith, some_);
        },
      )
  more e false f = probe e f (nat_lt s.nxt (symbols s)) refl

  go : (b : Bool) → (s.una == 0) ≡ b → (p : Piece) × IsResent s p
  go true e = (
    syn_piece,
    record {
      is = ap (λ b. cond b (Some syn_piece) (cond (nat_lt s.una s.nxt) (Some (byte_piece s (s.una - 1) (again_len s) (again_fin s))) (cond (nat_lt s.nxt (symbols s)) (Some (byte_piece s (s.nxt - 1) (min (unsent_bytes s) 1) (unsent_bytes s == 0))) None))) e;
      syn = sym e;
      at = λ no_syn. absurd (both_ways true no_syn refl);
      some = omega arith;
    },
  )
  go false e = more e (nat_lt s.una s.nxt) refl

-- ---- where it begins, and that it ends behind

-- by numbers from the first on
pub first-is : (iss una at : ℕ) (syn : Bool) → iss < 2 ^ 32 → una < 2 ^ 32 → syn ≡ (una == 0) → (syn ≡ false → 1 + at ≡ una) → seq_offset (cond syn iss (seq_add iss (1 + at))) iss ≡ una
first-is iss una at true small low syn next = let zero : una ≡ 0 = eqb-true una 0 (sym syn) in omega (arith, small, zero)
first-is iss una at false small low syn next = ap (λ n. seq_offset (seq_add iss n) iss) (next refl) ∙ offset-add iss una small low

pub bit : (t : Bool) → cond t 1 0 ≡ one_if t
bit true = refl
bit false = refl

-- ---- an endpoint's timer

module _ (env : ServeEnv) (b : ControlBlock) (bytes : List ℕ) (open_ : b.reset ≡ false) (h : Speaks b.send bytes) (unclear : is_clear b.send ≡ false) where
  abbrev piece : Piece
  piece = (resent-first b.send h.sound unclear).0

  resent : IsResent b.send piece
  resent = (resent-first b.send h.sound unclear).1

  -- what it says
  abbrev pub said : Said
  said = record {
    seq = cond piece.syn b.send.iss (seq_add b.send.iss (1 + piece.at));
    ack = rcv_nxt b;
    flags = record { syn = piece.syn; ack = true; fin = piece.fin; rst = false; psh = piece.push };
    wnd = rcv_wnd b;
    mss = own_mss piece.syn;
    payload = piece_bytes b.send piece;
  }

  timed-is : timed b ≡ Some (piece_ready (retried b) piece)
  timed-is = ap (λ (t : Bool). cond {A = Option Ready} t None (ready_of (retried b) (resent_piece b.send) None)) open_ ∙ ap (λ (o : Option Piece). ready_of (retried b) o None) resent.is

  after-is : after_timer b ≡ told (retried b)
  after-is = ap (λ (t : Bool). cond t b (after_piece (retried b) (resent_piece b.send) (retried b))) open_ ∙ ap (λ (o : Option Piece). after_piece (retried b) o (retried b)) resent.is

  filled-is : filled (told (retried b)) (piece_ready (retried b) piece) ≡ said
  filled-is = ap (λ (t : Sending). filled (told (record b { send = t })) (piece_ready (record b { send = t }) piece)) (resend-moves b.send)

  -- its timer sends this first
  pub timer-says : serving.serving_ready_of env (after_timer b) (timed b) ≡ (place.Client env.c, spelled env.c ToClient said) ∷ []
  timer-says =
      ap (serving.serving_ready_of env (after_timer b)) timed-is
      ∙ ap (λ (d : ControlBlock). to_client env.c d (piece_ready (retried b) piece) ∷ []) after-is
      ∙ ap (λ (s : Said). (place.Client env.c, spelled env.c ToClient s) ∷ []) filled-is

  pub timer-sendable : IsSendable said
  timer-sendable =
      let fair = timed-fair b bytes h (piece_ready (retried b) piece) timed-is in
      subst IsSendable (ap (λ (d : ControlBlock). filled d (piece_ready (retried b) piece)) after-is ∙ filled-is) fair.1

  pub timer-untold : (t : Spot) (e : EndpointSymbols) → t.iss ≡ b.send.iss → e.una ≡ b.send.una → b.send.una < 2 ^ 32 → IsUntold t e said
  timer-untold t e iss una low =
      let first : seq_offset said.seq b.send.iss ≡ b.send.una = first-is b.send.iss b.send.una piece.at piece.syn h.number low resent.syn resent.at in
      let size : length (piece_bytes b.send piece) ≡ piece.len = piece_size b.send bytes piece h (resent-carries b.send piece h.sound resent.is) in
      let some = resent.some in
      let syn = bit piece.syn in
      let fin = bit piece.fin in
      let from : first_symbol t.iss said ≡ e.una = ap (seq_offset said.seq) iss ∙ first ∙ sym una in
      record {
        acks = refl;
        no_rst = refl;
        syn = resent.syn ∙ sym (ap (λ (n : ℕ). n == 0) una);
        from = from;
        to = let len : seg_len said ≡ piece.len + one_if piece.syn + one_if piece.fin = (λ i. size i + syn i + fin i) in omega (arith, from, len, some);
      }
