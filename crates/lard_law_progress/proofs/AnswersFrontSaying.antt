-- What an endpoint that has said all makes of a client's segment: nothing is said to a refusal and to an acknowledgement with the last
-- number, and data is acknowledged by one segment.
use Rattle.std.proofs.Common.{◌≡◌, ◌⊎◌, ◌<◌, ◌≤◌, ◌+◌, ◌-◌, ◌^◌, ◌==◌, ◌&&◌, ◌||◌, nat_lt, not, ℕ, zero, suc, Bool, true, false, cond, List, [], ◌∷◌, ◌++◌, length, Option, Some, None, inl, inr, ⊎_elim, refl, sym, ap, ◌∙◌, arith}
use Rattle.std.proofs.lemmas.Bool.{cases_lt, cond-false, cond-true, eq-eqb, eqb-true, le-ltb, lt-ltb}
use Rattle.std.proofs.lemmas.Bool.Decides.{nat_tests}
use Rattle.lard_law_view.specs.Prelude.{Arrival, ControlBlock, Ending, Final, Place, Ready, Said, Sending, ServeEnv, Service, Station, Turn, ack_ready, advanced, after_emit, after_owed, after_piece, bare, byte_piece, cut_off, emits, emits_left, emitted, is_acceptable, is_allowed, is_closed, is_in_window, last_number, may_end, may_send, next_fin, next_len, next_piece, on_ack, on_rst, on_segment, on_syn, on_unacceptable, one_if, owed_ready, owes, owing, rcv_nxt, rcv_wnd, ready_of, receive_room, seg_len, send_left, seq_add, seq_offset, serving_settled, speaks, spoken, symbols, syn_piece, to_client, told, turn_of}
use Rattle.lard_bound.specs.Chains.{is_plain}
use Rattle.lard_endpoint.specs.declared.control.arriving.Arrival.TheVariants as arrival
use Rattle.lard_endpoint.proofs.Numbers.{offset_later}
use Rattle.lard_law_progress.proofs.AnswersFrontGiven.{IsTalking}
use Rattle.lard_law_progress.proofs.AnswersFrontSpots.{AreToClient}
use Rattle.lard_law_progress.proofs.Data.{heard}
use Rattle.lard_law_progress.proofs.Silence.{heard-kept, none-said, plain-heard, plain-parts}
use Rattle.lard_rules.specs.declared.places.Ending.TheVariants as ending
use Rattle.lard_rules.proofs.Loops.{speaks_keep}
use Rattle.lard_send.specs.declared.piece.Piece.{Piece}
use Rattle.lard_send.proofs.Sent.{next-rests}
use Rattle.lard_seq.proofs.Laws.{add-offset}
use Rattle.lard_rules.proofs.Endings.{rested-keeps, settled-keeps}

pub not-zero : (n : ℕ) → 1 ≤ n → (n == 0) ≡ false
not-zero n e = grind (arith, nat_tests, e)

pub flag-none : (t : Bool) → t ≡ false → ◌≡◌ {A = ℕ} (cond t 1 0) 0
flag-none t e = ap (λ (t : Bool). cond {A = ℕ} t 1 0) e

-- ---- the end of a turn

-- all that is said goes to the client
pub says-to-client : (c : ℕ) (b : ControlBlock) → AreToClient c (speaks c b).0
says-to-client c b = speaks_keep c (λ b ss d. AreToClient c ss) (record { rests = λ b. tt; says = λ b r ss d e h. (refl, h) }) b

-- what was said is so, or it ended
pub spoken-cases : (env : ServeEnv) (w : Service) (P : Ending × Turn → Type 0) → ((last : Final) (t : Turn) → P (ending.Over last, t))
    → (may_end (speaks env.c w.block).1 ≡ false → P (ending.Here (speaks env.c w.block).1 w.count, turn_of w ([] ++ (speaks env.c w.block).0))) → P (spoken env w [])
spoken-cases env w P over here = let t = turn_of w ([] ++ (speaks env.c w.block).0) in rested-keeps (λ (o : Ending). P (o, t)) (speaks env.c w.block).1 w.count (λ e. over _ t) here

pub settled-cases : (env : ServeEnv) (w : Service) (P : Ending × Turn → Type 0) → ((last : Final) (t : Turn) → P (ending.Over last, t))
    → (w.over ≡ None → may_end (speaks env.c w.block).1 ≡ false → P (ending.Here (speaks env.c w.block).1 w.count, turn_of w ([] ++ (speaks env.c w.block).0))) → P (serving_settled env w)
settled-cases env w P over here = settled-keeps P env w (λ e. spoken-cases env w P over (here e)) (λ total e. over _ (cut_off env w).1)

-- what was reset may end
pub reset-ends : (b : ControlBlock) → b.reset ≡ true → may_end b ≡ true
reset-ends b e = ap (λ (t : Bool). t || is_closed b) e

-- ---- nothing to say

-- all symbols are acknowledged, so none is left to send
pub none-left : (s : Sending) → symbols s ≤ s.nxt → next_piece s ≡ None
none-left s all =
    let some : (s.nxt == 0) ≡ false = not-zero s.nxt (omega (arith, all)) in
    let done : nat_lt s.nxt (symbols s) ≡ false = le-ltb s.nxt (symbols s) all in
    let shut : may_send s ≡ false = last (not (s.una == 0)) (nat_lt s.nxt (symbols s)) (nat_lt 0 (send_left s)) done in
    cond-false (s.nxt == 0) (Some syn_piece) (cond (may_send s) (Some (byte_piece s (s.nxt - 1) (next_len s) (next_fin s))) None) some
    ∙ cond-false (may_send s) (Some (byte_piece s (s.nxt - 1) (next_len s) (next_fin s))) None shut
  where
    last : (p q r : Bool) → q ≡ false → (p && (q && r)) ≡ false
    last true q r e = ap (λ (t : Bool). t && r) e
    last false q r e = refl

-- ---- an acknowledgement that is owed, and nothing else

pub one-said : (c : ℕ) (b : ControlBlock) → b.reset ≡ false → b.owed ≡ true → symbols b.send ≤ b.send.nxt → (speaks c b).0 ≡ to_client c (told b) (ack_ready b) ∷ []
unfolding emits
one-said c b open_ owed all =
    let none = none-left b.send all in
    let still : advanced b ≡ b = ap (λ (s : Sending). record b { send = s }) (next-rests b.send (b.send.nxt == 0) (may_send b.send) none) in
    let debt : owes b ≡ true = ap (λ (t : Bool). t || ((b.last_window == 0) && nat_lt 0 (rcv_wnd b))) owed in
    let owing : owes (advanced b) ≡ true = ap owes still ∙ debt in
    let ack : owed_ready (advanced b) ≡ Some (ack_ready b) = cond-true (owes (advanced b)) (Some (ack_ready (advanced b))) None owing ∙ ap (λ (d : ControlBlock). Some (ack_ready d)) still in
    let says : emitted b ≡ Some (ack_ready b) =
    ap (λ (t : Bool). cond {A = Option Ready} t None (ready_of (advanced b) (next_piece b.send) (owed_ready (advanced b)))) open_
    ∙ ap (λ (o : Option Piece). ready_of (advanced b) o (owed_ready (advanced b))) none ∙ ack in
    let after : after_emit b ≡ told b =
    ap (λ (t : Bool). cond t b (after_piece (advanced b) (next_piece b.send) (after_owed (advanced b)))) open_
    ∙ ap (λ (o : Option Piece). after_piece (advanced b) o (after_owed (advanced b))) none
    ∙ cond-true (owes (advanced b)) (told (advanced b)) (advanced b) owing ∙ ap told still in
    let one : one_if (owes b) ≡ 1 = ap one_if debt in
    let left : emits_left b ≡ suc zero = omega (arith, one, all) in
    ap (λ (n : ℕ). (emits c n b).0) left
    ∙ ap (λ (o : Option Ready). (elim o as (λ t. List (Place × List ℕ) × ControlBlock) [ None ↦ ([], b) | Some r ↦ (to_client c (after_emit b) r ∷ (emits c zero (after_emit b)).0, (emits c zero (after_emit b)).1) ]).0) says
    ∙ ap (λ (d : ControlBlock). to_client c d (ack_ready b) ∷ []) after

-- ---- what comes

module _ (st : Station) (b : ControlBlock) (s : Said) (talk : IsTalking st b) where
  abbrev isn : ℕ
  isn = st.client.send.iss

  abbrev d : ControlBlock
  d = (on_segment b s).1

  wide : 1 ≤ rcv_wnd b
  wide = let a : heard b.recv ≤ symbols st.client.send = talk.spoke in let c : symbols st.client.send < heard b.recv + receive_room b.recv = talk.wide in omega (arith, a, c)

  next-is : rcv_nxt b ≡ seq_add isn (heard b.recv)
  next-is = ap (λ n. seq_add n (heard b.recv)) talk.irs

  -- one without symbols is acceptable where its number is in the window
  by-number : seg_len s ≡ 0 → is_acceptable (rcv_nxt b) (rcv_wnd b) s ≡ nat_lt (seq_offset s.seq (rcv_nxt b)) (rcv_wnd b)
  by-number none =
      let w = rcv_wnd b in
      cond-true (seg_len s == 0) (cond (w == 0) (s.seq == rcv_nxt b) (is_in_window (rcv_nxt b) w s.seq)) (cond (w == 0) false (is_in_window (rcv_nxt b) w s.seq || is_in_window (rcv_nxt b) w (last_number s))) (ap (λ n. n == 0) none)
      ∙ cond-false (w == 0) (s.seq == rcv_nxt b) (is_in_window (rcv_nxt b) w s.seq) (not-zero w wide)

  -- ---- an acknowledgement with the client's last number

  plain-len : is_plain s ≡ true → seg_len s ≡ 0
  plain-len plain =
      let p = plain-parts s.flags.syn s.flags.fin s.flags.rst s.flags.ack (length s.payload) plain in
      let syn = flag-none s.flags.syn p.0 in
      let fin = flag-none s.flags.fin p.1 in
      let len : length s.payload ≡ 0 = eqb-true (length s.payload) 0 p.4 in
      omega (arith, syn, fin, len)

  pub current-fits : s.seq < 2 ^ 32 → is_plain s ≡ true → seq_offset s.seq isn ≡ symbols st.client.send → is_acceptable (rcv_nxt b) (rcv_wnd b) s ≡ true
  current-fits small plain last =
      let a : heard b.recv ≤ symbols st.client.send = talk.spoke in let c : symbols st.client.send < heard b.recv + receive_room b.recv = talk.wide in let f : heard b.recv + receive_room b.recv ≤ 2 ^ 31 = talk.far in
      let number : s.seq ≡ seq_add isn (symbols st.client.send) = sym (add-offset s.seq isn small talk.isn_small) ∙ ap (seq_add isn) last in
      let off : seq_offset s.seq (rcv_nxt b) ≡ symbols st.client.send - heard b.recv =
      ap (λ n. seq_offset n (rcv_nxt b)) number ∙ ap (seq_offset (seq_add isn (symbols st.client.send))) next-is ∙ offset_later isn (symbols st.client.send) (heard b.recv) talk.isn_small a (omega (arith, c, f)) in
      by-number (plain-len plain) ∙ lt-ltb (seq_offset s.seq (rcv_nxt b)) (rcv_wnd b) (omega (arith, off, c, a))

  -- it acknowledges nothing that was not sent
  pub ack-known : seq_offset s.ack st.iss ≤ b.send.nxt → nat_lt b.send.nxt (seq_offset s.ack b.send.iss) ≡ false
  ack-known most = ap (λ n. nat_lt b.send.nxt (seq_offset s.ack n)) talk.iss ∙ le-ltb b.send.nxt (seq_offset s.ack st.iss) most

  -- where all is acknowledged, nothing is said to it
  pub clear-silent : s.seq < 2 ^ 32 → is_plain s ≡ true → seq_offset s.seq isn ≡ symbols st.client.send → seq_offset s.ack st.iss ≤ b.send.nxt → symbols b.send ≤ b.send.nxt → emitted d ≡ None
  clear-silent small plain last known all =
      let is = plain-heard b s plain (current-fits small plain last) (ack-known known) in
      let k = heard-kept b s in
      let n : d.send.nxt ≡ b.send.nxt = k.nxt in let t : d.send.total ≡ b.send.total = k.total in let f : one_if d.send.finished ≡ one_if b.send.finished = ap one_if k.finished in
      none-said b d talk.silent (ap (λ (z : ControlBlock). z.owed) is) (ap (λ (z : ControlBlock). z.last_window) is) (ap (λ (z : ControlBlock). z.reset) is) (none-left d.send (omega (arith, n, t, f, all)))

  -- ---- a refusal

  -- at the number that is awaited it resets
  pub at-awaited : seg_len s ≡ 0 → s.flags.rst ≡ true → s.seq ≡ rcv_nxt b → d ≡ record b { reset = true }
  at-awaited none rst at =
      let zero_ : seq_offset s.seq (rcv_nxt b) ≡ 0 = ap (λ n. seq_offset n (rcv_nxt b)) at ∙ same (rcv_nxt b) in
      let fits : is_acceptable (rcv_nxt b) (rcv_wnd b) s ≡ true = by-number none ∙ lt-ltb (seq_offset s.seq (rcv_nxt b)) (rcv_wnd b) (let w = wide in omega (arith, zero_, w)) in
      let a : on_segment b s ≡ on_rst b s = cond-true (is_acceptable (rcv_nxt b) (rcv_wnd b) s) (on_rst b s) (on_unacceptable b s) fits in
      let c : on_rst b s ≡ cond (s.seq == rcv_nxt b) (arrival.Reset, record b { reset = true }) (arrival.AckOwed, owing b) =
      cond-false (not s.flags.rst) (on_syn b s) (cond (s.seq == rcv_nxt b) (arrival.Reset, record b { reset = true }) (arrival.AckOwed, owing b)) (ap not rst) in
      let e : cond (s.seq == rcv_nxt b) (arrival.Reset, record b { reset = true }) (arrival.AckOwed, owing b) ≡ (arrival.Reset, record b { reset = true }) =
      cond-true (s.seq == rcv_nxt b) (arrival.Reset, record b { reset = true }) (arrival.AckOwed, owing b) (eq-eqb s.seq (rcv_nxt b) at) in
      ap (λ (r : Arrival × ControlBlock). r.1) (a ∙ c ∙ e)
    where
      same : (n : ℕ) → seq_offset n n ≡ 0
      same n = omega arith

  -- elsewhere nothing comes of it
  unanswered : s.flags.rst ≡ true → is_acceptable (rcv_nxt b) (rcv_wnd b) s ≡ false → d ≡ b
  unanswered rst out =
      let shut : is_allowed (rcv_nxt b) (rcv_wnd b) s ≡ false = second ((rcv_wnd b == 0) && (s.seq == rcv_nxt b)) (not s.flags.rst) (not s.flags.syn) (ap not rst) in
      let is : on_segment b s ≡ (arrival.Fine, b) =
      cond-false (is_acceptable (rcv_nxt b) (rcv_wnd b) s) (on_rst b s) (on_unacceptable b s) out
      ∙ cond-false (is_allowed (rcv_nxt b) (rcv_wnd b) s) (arrival.AckOwed, (on_ack (owing b) (bare s)).1) (cond s.flags.rst (arrival.Fine, b) (arrival.AckOwed, owing b)) shut
      ∙ cond-true s.flags.rst (arrival.Fine, b) (arrival.AckOwed, owing b) rst in
      ap (λ (r : Arrival × ControlBlock). r.1) is
    where
      second : (p q r : Bool) → q ≡ false → (p && (q && r)) ≡ false
      second true q r e = ap (λ (t : Bool). t && r) e
      second false q r e = refl

  -- So a refusal resets, or nothing comes of it.
  pub refused : seg_len s ≡ 0 → s.flags.rst ≡ true → (a : ℕ) → s.seq ≡ seq_add isn a → a ≤ heard b.recv → (d ≡ record b { reset = true }) ⊎ (d ≡ b)
  refused none rst a number most = ⊎_elim
      (λ (l : a < heard b.recv).
      let h : heard b.recv + receive_room b.recv ≤ 2 ^ 31 = talk.far in
      let off : seq_offset s.seq (rcv_nxt b) ≡ seq_offset (seq_add isn a) (seq_add isn (heard b.recv)) = ap (λ n. seq_offset n (rcv_nxt b)) number ∙ ap (seq_offset (seq_add isn a)) next-is in
      let up : 2 ^ 31 ≤ seq_offset (seq_add isn a) (seq_add isn (heard b.recv)) = far isn a (heard b.recv) talk.isn_small l (omega (arith, h)) in
      inr (unanswered rst (by-number none ∙ le-ltb (seq_offset s.seq (rcv_nxt b)) (rcv_wnd b) (omega (arith, off, up, h)))))
      (λ (l : heard b.recv ≤ a). let same : a ≡ heard b.recv = omega (arith, l, most) in inl (at-awaited none rst (number ∙ ap (seq_add isn) same ∙ sym next-is)))
      (cases_lt a (heard b.recv))
    where
      far : (first a h : ℕ) → first < 2 ^ 32 → a < h → h ≤ 2 ^ 31 → 2 ^ 31 ≤ seq_offset (seq_add first a) (seq_add first h)
      far first a h i l small = omega (arith, i, l, small)
