-- What each operation makes of a client: what it took and what is acknowledged only grow, no more is acknowledged than was
-- told, and it is aborted, reset and closed by their causes.
use Rattle.std.proofs.Common.{◌≡◌, ◌⊎◌, ◌≤◌, ◌+◌, ℕ, Bool, true, false, cond, not, ◌==◌, ◌&&◌, ◌||◌, nat_lt, List, arith, refl, sym, ap, ◌∙◌, inl, inr}
use Rattle.std.proofs.lemmas.Bool.{cond_both, and_parts, not-true, not-false, eqb-true, eqb-false}
use Rattle.lard_law_view.specs.Prelude.{ClientBlock, Heard, Said, Sending, aborted, accepting, after_ack, client_after_timer, client_arrived, client_ends, client_part_of, client_taken, client_written, established, fresh_len, heard_nothing, held_on, introduced, is_aborted_in, is_client_open, is_established, is_open_in, is_writing, one_if, peer_mss, queued_too, reply_to, reset_by_peer, send_closed, seq_offset, shut_down}
use Rattle.lard_client.specs.declared.phase.Phase.TheVariants.{Aborted, Reset}
use Rattle.lard_law_view.proofs.Acked.{taken_by}
use Rattle.lard_law_view.proofs.Acknowledging.{Moves, ack-moves}
use Rattle.lard_law_view.proofs.ClientSaying.{Same, timer-same}
use Rattle.lard_rules.proofs.Hearing.{acked, arrived-keeps}

-- ---- a step

-- Of a front end that took n symbols, and whether the client aborted and was reset is known.
abbrev pub Step : ℕ → Bool → Bool → ClientBlock → Heard × ClientBlock → Type 0
Step n aborted reset x r =
    (x.send.una ≤ r.1.send.una) × (x.send.una ≤ n → r.1.send.una ≤ n) × (x.accepted ≤ r.1.accepted) × (x.eof ≡ true → r.1.eof ≡ true)
    × (r.1.eof ≡ true → (x.eof ≡ true) ⊎ (r.0.eof ≡ true)) × (x.send.finished ≡ true → r.1.send.finished ≡ true)
    × ((x.phase ≡ Aborted → aborted ≡ true) → r.1.phase ≡ Aborted → aborted ≡ true) × ((x.phase ≡ Reset → reset ≡ true) → r.1.phase ≡ Reset → reset ≡ true)
    × (is_client_open r.1 ≡ true → is_client_open x ≡ true)

-- a FIN that is taken stays taken
bit-grows : (e f : Bool) → (e ≡ true → f ≡ true) → one_if e ≤ one_if f
bit-grows true f h = let t = ap one_if (h refl) in omega arith
bit-grows false f h = omega arith

-- how many symbols these are
abbrev count_of : ℕ → ℕ → Bool → ℕ
count_of una accepted eof = cond (not (una == 0)) (1 + accepted + one_if eof) 0

-- they grow with each of what they count
count-grows : (u v a b : ℕ) (e f : Bool) → u ≤ v → a ≤ b → (e ≡ true → f ≡ true) → count_of u a e ≤ count_of v b f
count-grows u v a b e f le more ended =
    let bits = bit-grows e f ended in
    cond_both (not (u == 0)) (1 + a + one_if e) 0 (λ n. n ≤ count_of v b f)
    (λ t. cond_both (not (v == 0)) (1 + b + one_if f) 0 (λ n. 1 + a + one_if e ≤ n) (λ q. omega arith)
    (λ q.
    let some : u ≡ 0 → ⊥ = eqb-false u 0 (not-true (u == 0) t) in
    let none : v ≡ 0 = eqb-true v 0 (not-false (v == 0) q) in
    absurd (omega arith)))
    (λ t. omega arith)

-- what it took grows
pub taken-grows : (n : ℕ) (aborted reset : Bool) (x : ClientBlock) (r : Heard × ClientBlock) → Step n aborted reset x r → taken_by x ≤ taken_by r.1
taken-grows n aborted reset x r k = count-grows x.send.una r.1.send.una x.accepted r.1.accepted x.eof r.1.eof k.0 k.2 k.3

module _ (n : ℕ) (gone reset : Bool) where
  abbrev Steps : ClientBlock → Heard × ClientBlock → Type 0
  Steps x r = Step n gone reset x r

  -- nothing that counts differs
  pub still : (x : ClientBlock) (h : Heard) → Steps x (h, x)
  still x h = (omega arith, λ e. e, omega arith, λ e. e, λ e. inl e, λ e. e, λ e. e, λ e. e, λ e. e)

  -- behind an ACK
  behind : (x : ClientBlock) (t : Sending) (r : Heard × ClientBlock) → Moves n x.send t → Steps (record x { send = t }) r → Steps x r
  behind x t r m k =
      let up = m.0 in
      let more = k.0 in
      (omega arith, λ e. k.1 (m.1 e), k.2, k.3, k.4, λ e. k.5 (m.2 e), k.6, k.7, k.8)

  -- a RST
  reset-step : (x : ClientBlock) → reset ≡ true → Steps x (heard_nothing, reset_by_peer x)
  reset-step x told = (
    omega arith,
    λ e. e,
    omega arith,
    λ e. e,
    λ e. inl e,
    λ e. e,
    λ e f. absurd (let no : false ≡ true = ap is_aborted_in f in cc),
    λ e f. told,
    λ e. absurd (cc),
  )

  -- ---- a segment comes

  -- a part of it is accepted
  fresh-step : (x : ClientBlock) (s : Said) → x.eof ≡ false → Steps x (client_part_of x s, accepting x (fresh_len x s) (client_ends x s))
  fresh-step x s going =
      let after : ClientBlock = accepting x (fresh_len x s) (client_ends x s) in
      cond_both (client_ends x s) (send_closed x.send) x.send (λ (q : Sending). Steps x (client_part_of x s, record after { send = q }))
      (λ u. (omega arith, λ e. e, omega arith, λ e. absurd (cc), λ e. inr e, λ e. refl, λ e. e, λ e. e, λ e. e))
      (λ u. (omega arith, λ e. e, omega arith, λ e. absurd (cc), λ e. inr e, λ e. e, λ e. e, λ e. e, λ e. e))

  module _ (x : ClientBlock) (s : Said) (told : s.flags.ack ≡ true → seq_offset s.ack x.send.iss ≤ n) (cause : s.flags.rst ≡ true → reset ≡ true) where
    -- it acknowledges no more than the front end took
    ack-step : s.flags.ack ≡ true → Moves n x.send (after_ack x.send s.ack s.seq s.wnd)
    ack-step t = ack-moves n x.send s.ack s.seq s.wnd (told t)

    -- to any client
    pub arrived-step : Steps x (client_arrived x s)
    arrived-step = arrived-keeps x s (Steps x) (record {
      refuses = λ e. still x (reply_to x s);
      ignores = λ e. still x heard_nothing;
      learns = λ e t plain.
          let acks : s.flags.ack ≡ true = (and_parts s.flags.ack ((seq_offset s.ack x.send.iss == 1) && nat_lt 0 x.send.nxt) t).0 in
          let met = introduced x.send s.seq (peer_mss s.mss) in
          behind x (after_ack met s.ack s.seq s.wnd) (heard_nothing, established x s) (ack-moves n met s.ack s.seq s.wnd (told acks)) (still (established x s) heard_nothing);
      takes = λ e. record {
        rests = λ owed. still x heard_nothing;
        resets = λ t. reset-step x (cause t);
        acks = λ owed c. behind x (after_ack x.send s.ack s.seq s.wnd) (heard_nothing, acked x s owed) (ack-step c.ack) (still (acked x s owed) heard_nothing);
        accepts = λ c in_order going.
            let y : ClientBlock = acked x s true in
            behind x (after_ack x.send s.ack s.seq s.wnd) (client_part_of y s, accepting y (fresh_len y s) (client_ends y s)) (ack-step c.ack) (fresh-step y s going);
      };
    })

  -- ---- its own calls, and its timer

  -- what is as a client was after a step
  pub same-step : (x y z : ClientBlock) (h : Heard) → Same y z → Steps x (h, y) → Steps x (h, z)
  same-step x y z h e k =
      let una = e.0 in
      let accepted = e.1 in
      let up = k.0 in
      let more = k.2 in (
        omega arith,
        λ u. let most = k.1 u in omega arith,
        omega arith,
        λ u. e.2 ∙ k.3 u,
        λ u. k.4 (sym e.2 ∙ u),
        λ u. e.4 ∙ k.5 u,
        λ u v. k.6 u (sym e.3 ∙ v),
        λ u v. k.7 u (sym e.3 ∙ v),
        λ u. k.8 (ap is_open_in (sym e.3) ∙ u),
      )

  -- its timer fires
  pub timer-step : (x : ClientBlock) → Steps x (heard_nothing, client_after_timer x)
  timer-step x = same-step x x (client_after_timer x) heard_nothing (timer-same x) (still x heard_nothing)

  -- it closes its side
  pub shuts-step : (x : ClientBlock) → Steps x (heard_nothing, shut_down x)
  shuts-step x =
      cond_both (is_client_open x) (record x { send = send_closed x.send }) x (λ (y : ClientBlock). Steps x (heard_nothing, y))
      (λ t. (omega arith, λ e. e, omega arith, λ e. e, λ e. inl e, λ e. refl, λ e. e, λ e. e, λ e. e)) (λ t. still x heard_nothing)

  -- it leaves bytes in its window
  pub holds-step : (x : ClientBlock) → Steps x (heard_nothing, held_on x)
  holds-step x = cond_both (is_client_open x) (record x { holding = true }) x (λ (y : ClientBlock). Steps x (heard_nothing, y)) (λ t. still x heard_nothing) (λ t. still x heard_nothing)

  -- it reads them
  pub takes-step : (x : ClientBlock) → Steps x (heard_nothing, client_taken x)
  takes-step x =
      cond_both (is_client_open x) (record x { holding = false; held = 0; owed = x.owed || is_established x }) x (λ (y : ClientBlock). Steps x (heard_nothing, y))
      (λ t. still x heard_nothing) (λ t. still x heard_nothing)

  -- it writes
  pub writes-step : (x : ClientBlock) (bytes : List ℕ) → Steps x (heard_nothing, client_written x bytes)
  writes-step x bytes =
      cond_both (is_writing x) (record x { send = queued_too x.send bytes }) x (λ (y : ClientBlock). Steps x (heard_nothing, y)) (λ t. still x heard_nothing) (λ t. still x heard_nothing)

  -- it aborts
  pub aborts-step : (x : ClientBlock) → gone ≡ true → Steps x (heard_nothing, aborted x)
  aborts-step x done =
      cond_both (is_client_open x) (record x { phase = Aborted }) x (λ (y : ClientBlock). Steps x (heard_nothing, y))
      (λ t. (
        omega arith,
        λ e. e,
        omega arith,
        λ e. e,
        λ e. inl e,
        λ e. e,
        λ e f. done,
        λ e f. absurd (let no : true ≡ false = ap is_aborted_in f in cc),
        λ e. absurd (cc),
      ))
      (λ t. still x heard_nothing)
