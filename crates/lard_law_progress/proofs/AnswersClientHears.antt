-- What an open and established client makes of a segment of the cluster: it owes an acknowledgement of what has symbols, and takes what it
-- awaits; a refusal resets it or nothing comes of it.
use Rattle.std.proofs.Common.{◌≡◌, ◌⊎◌, ◌<◌, ◌≤◌, ◌+◌, ◌-◌, ◌^◌, ◌==◌, ◌&&◌, ◌||◌, nat_lt, not, min, ℕ, Bool, true, false, cond, length, inl, inr, ⊎_elim, refl, sym, ap, ◌∙◌, subst, arith}
use Rattle.std.proofs.lemmas.Bool.{cases_lt, cond_both, cond-false, cond-true}
use Rattle.std.proofs.lemmas.Bool.Decides.{nat_tests}
use Rattle.lard_law_view.specs.Prelude.{ClientBlock, Heard, MAX_STREAM_BYTES, Said, accepting, after_ack, bare, client_begins_after, client_ends, client_on_ack, client_on_rst, client_on_segment, client_on_syn, client_on_text, client_on_unacceptable, client_owing, client_part_of, client_rcv_nxt, client_rcv_wnd, client_room, fresh_len, heard_nothing, is_acceptable, is_allowed, is_in_window, known, last_number, on_fresh, one_if, reset_by_peer, seg_len, seq_add, seq_offset}
use Rattle.lard_bound.specs.Units.{symbols_taken}
use Rattle.lard_client.specs.declared.phase.Phase.TheVariants.{Reset}
use Rattle.lard_send.proofs.Sent.{after_ack-irs}

-- how many symbols an established client took
abbrev pub took : ClientBlock → ℕ
took x = 1 + x.accepted + one_if x.eof

pub took-taken : (x : ClientBlock) → (x.send.una == 0) ≡ false → symbols_taken x ≡ took x
took-taken x open_ = cond-false (x.send.una == 0) 0 (1 + x.accepted + cond x.eof 1 0) open_ ∙ ap (λ n. 1 + x.accepted + n) (one x.eof) where
  one : (t : Bool) → cond t 1 0 ≡ one_if t
  one true = refl
  one false = refl

above : (n : ℕ) → 1 ≤ n → (n == 0) ≡ false
above n e = grind (arith, nat_tests, e)

within : (x y : ℕ) → x < y → nat_lt x y ≡ true
within x y e = grind (arith, nat_tests, e)

beyond : (x y : ℕ) → y ≤ x → nat_lt x y ≡ false
beyond x y e = grind (arith, nat_tests, e)

equal : (x y : ℕ) → x ≡ y → (x == y) ≡ true
equal x y e = grind (arith, nat_tests, e)

-- It is established; its window is open, and does not reach far.
pub record IsListening (x : ClientBlock) : Type 0 where
  pub established : (x.send.una == 0) ≡ false
  pub wide : 1 ≤ client_rcv_wnd x
  pub far : took x + client_rcv_wnd x ≤ 2 ^ 31
  pub irs_small : x.send.irs < 2 ^ 32

module _ (x : ClientBlock) (s : Said) (listens : IsListening x) where
  -- ---- in the window or not

  open_window : (client_rcv_wnd x == 0) ≡ false
  open_window = above (client_rcv_wnd x) listens.wide

  not-allowed : is_allowed (client_rcv_nxt x) (client_rcv_wnd x) s ≡ false
  not-allowed = λ i. ((open_window i) && (s.seq == client_rcv_nxt x)) && (not s.flags.rst && not s.flags.syn)

  -- where its first number is, it is
  in-window : nat_lt (seq_offset s.seq (client_rcv_nxt x)) (client_rcv_wnd x) ≡ true → is_acceptable (client_rcv_nxt x) (client_rcv_wnd x) s ≡ true
  in-window first =
      let w = client_rcv_wnd x in
      let n = client_rcv_nxt x in
      let more : (is_in_window n w s.seq || is_in_window n w (last_number s)) ≡ true = ap (λ (t : Bool). t || is_in_window n w (last_number s)) first in
      cond_both (seg_len s == 0) (cond (w == 0) (s.seq == n) (is_in_window n w s.seq)) (cond (w == 0) false (is_in_window n w s.seq || is_in_window n w (last_number s))) (λ (t : Bool). t ≡ true)
      (λ t. cond-false (w == 0) (s.seq == n) (is_in_window n w s.seq) open_window ∙ first)
      (λ t. cond-false (w == 0) false (is_in_window n w s.seq || is_in_window n w (last_number s)) open_window ∙ more)

  -- one without symbols is in it nowhere else
  out-of-window : seg_len s ≡ 0 → nat_lt (seq_offset s.seq (client_rcv_nxt x)) (client_rcv_wnd x) ≡ false → is_acceptable (client_rcv_nxt x) (client_rcv_wnd x) s ≡ false
  out-of-window none first =
      let w = client_rcv_wnd x in
      let n = client_rcv_nxt x in
      cond-true (seg_len s == 0) (cond (w == 0) (s.seq == n) (is_in_window n w s.seq)) (cond (w == 0) false (is_in_window n w s.seq || is_in_window n w (last_number s))) (ap (λ m. m == 0) none)
      ∙ cond-false (w == 0) (s.seq == n) (is_in_window n w s.seq) open_window ∙ first

  pub at-next : s.seq ≡ client_rcv_nxt x → is_acceptable (client_rcv_nxt x) (client_rcv_wnd x) s ≡ true
  at-next at =
      let w = listens.wide in
      let zero_ : seq_offset s.seq (client_rcv_nxt x) ≡ 0 = ap (λ n. seq_offset n (client_rcv_nxt x)) at ∙ same (client_rcv_nxt x) in
      in-window (within (seq_offset s.seq (client_rcv_nxt x)) (client_rcv_wnd x) (omega (arith, zero_, w)))
    where
      same : (n : ℕ) → seq_offset n n ≡ 0
      same n = omega arith

  -- ---- a reset

  -- at the number that is awaited it resets
  pub resets-at : s.flags.rst ≡ true → s.seq ≡ client_rcv_nxt x → (client_on_segment x s).1.phase ≡ Reset
  resets-at rst at =
      let a : client_on_segment x s ≡ client_on_rst x s = cond-true (is_acceptable (client_rcv_nxt x) (client_rcv_wnd x) s) (client_on_rst x s) (client_on_unacceptable x s) (at-next at) in
      let c : client_on_rst x s ≡ cond (s.seq == client_rcv_nxt x) (heard_nothing, reset_by_peer x) (heard_nothing, client_owing x) =
      cond-false (not s.flags.rst) (client_on_syn x s) (cond (s.seq == client_rcv_nxt x) (heard_nothing, reset_by_peer x) (heard_nothing, client_owing x)) (ap not rst) in
      let e : cond (s.seq == client_rcv_nxt x) (heard_nothing, reset_by_peer x) (heard_nothing, client_owing x) ≡ (heard_nothing, reset_by_peer x) =
      cond-true (s.seq == client_rcv_nxt x) (heard_nothing, reset_by_peer x) (heard_nothing, client_owing x) (equal s.seq (client_rcv_nxt x) at) in
      ap (λ (r : Heard × ClientBlock). r.1.phase) (a ∙ c ∙ e)

  unanswered : s.flags.rst ≡ true → is_acceptable (client_rcv_nxt x) (client_rcv_wnd x) s ≡ false → (client_on_segment x s).1 ≡ x
  unanswered rst out =
      let is : client_on_segment x s ≡ (heard_nothing, x) =
      cond-false (is_acceptable (client_rcv_nxt x) (client_rcv_wnd x) s) (client_on_rst x s) (client_on_unacceptable x s) out
      ∙ cond-false (is_allowed (client_rcv_nxt x) (client_rcv_wnd x) s) (client_on_ack (client_owing x) (bare s)) (cond s.flags.rst (heard_nothing, x) (heard_nothing, client_owing x)) not-allowed
      ∙ cond-true s.flags.rst (heard_nothing, x) (heard_nothing, client_owing x) rst in
      ap (λ (r : Heard × ClientBlock). r.1) is

  -- So a refusal, whose number was awaited once, resets, or nothing comes of it.
  pub refused : seg_len s ≡ 0 → s.flags.rst ≡ true → (a : ℕ) → s.seq ≡ seq_add x.send.irs a → a ≤ took x → ((client_on_segment x s).1.phase ≡ Reset) ⊎ ((client_on_segment x s).1 ≡ x)
  refused none rst a number most = ⊎_elim
      (λ (l : a < took x).
      let f = listens.far in
      let off : seq_offset s.seq (client_rcv_nxt x) ≡ seq_offset (seq_add x.send.irs a) (seq_add x.send.irs (took x)) = ap (λ n. seq_offset n (client_rcv_nxt x)) number in
      let up : 2 ^ 31 ≤ seq_offset (seq_add x.send.irs a) (seq_add x.send.irs (took x)) = apart x.send.irs a (took x) listens.irs_small l (omega (arith, f)) in
      inr (unanswered rst (out-of-window none (beyond (seq_offset s.seq (client_rcv_nxt x)) (client_rcv_wnd x) (omega (arith, off, up, f))))))
      (λ (l : took x ≤ a). let same : a ≡ took x = omega (arith, l, most) in inl (resets-at rst (number ∙ ap (seq_add x.send.irs) same)))
      (cases_lt a (took x))
    where
      apart : (first a h : ℕ) → first < 2 ^ 32 → a < h → h ≤ 2 ^ 31 → 2 ^ 31 ≤ seq_offset (seq_add first a) (seq_add first h)
      apart first a h i l small = omega (arith, i, l, small)

  -- ---- a SYN

  pub syn-owed : s.flags.syn ≡ true → s.flags.rst ≡ false → (client_on_segment x s).1.owed ≡ true
  syn-owed syn no_rst =
      let Owes : Heard × ClientBlock → Type 0 = λ r. r.1.owed ≡ true in
      cond_both {A = Heard × ClientBlock} (is_acceptable (client_rcv_nxt x) (client_rcv_wnd x) s) (client_on_rst x s) (client_on_unacceptable x s) Owes
      (λ t.
      let rst : client_on_rst x s ≡ client_on_syn x s = cond-true (not s.flags.rst) (client_on_syn x s) (cond (s.seq == client_rcv_nxt x) (heard_nothing, reset_by_peer x) (heard_nothing, client_owing x)) (ap not no_rst) in
      let is : client_on_syn x s ≡ (heard_nothing, client_owing x) = cond-true s.flags.syn (heard_nothing, client_owing x) (client_on_ack x s) syn in
      ap (λ (r : Heard × ClientBlock). r.1.owed) (rst ∙ is))
      (λ t.
      let is : client_on_unacceptable x s ≡ (heard_nothing, client_owing x) =
      cond-false (is_allowed (client_rcv_nxt x) (client_rcv_wnd x) s) (client_on_ack (client_owing x) (bare s)) (cond s.flags.rst (heard_nothing, x) (heard_nothing, client_owing x)) not-allowed ∙ cond-false s.flags.rst (heard_nothing, x) (heard_nothing, client_owing x) no_rst in
      ap (λ (r : Heard × ClientBlock). r.1.owed) is)

  -- ---- data

  -- It begins at the number that is awaited, and what it has does not go beyond what one direction carries.
  pub record IsNext : Type 0 where
    pub at : s.seq ≡ client_rcv_nxt x
    pub acks : s.flags.ack ≡ true
    pub no_syn : s.flags.syn ≡ false
    pub no_rst : s.flags.rst ≡ false
    pub known_ack : nat_lt x.send.nxt (seq_offset s.ack x.send.iss) ≡ false
    pub going : x.eof ≡ false
    pub some : 1 ≤ length s.payload + one_if s.flags.fin
    pub most : x.accepted + length s.payload ≤ MAX_STREAM_BYTES

  some-text : (n : ℕ) (fin : Bool) → 1 ≤ n + one_if fin → ((n == 0) && not fin) ≡ false
  some-text n true e = never (n == 0) where
    never : (t : Bool) → (t && false) ≡ false
    never true = refl
    never false = refl
  some-text n false e = first n (omega (arith, e)) where
    first : (n : ℕ) → 1 ≤ n → ((n == 0) && true) ≡ false
    first n e = grind (arith, nat_tests, e)

  -- more is taken of that than before
  pub takes-next : IsNext → took x < took (client_on_segment x s).1
  takes-next h =
      let after : ClientBlock = record x { send = after_ack x.send s.ack s.seq s.wnd } in
      let a : client_on_segment x s ≡ client_on_rst x s = cond-true (is_acceptable (client_rcv_nxt x) (client_rcv_wnd x) s) (client_on_rst x s) (client_on_unacceptable x s) (at-next h.at) in
      let c : client_on_rst x s ≡ client_on_syn x s = cond-true (not s.flags.rst) (client_on_syn x s) (cond (s.seq == client_rcv_nxt x) (heard_nothing, reset_by_peer x) (heard_nothing, client_owing x)) (ap not h.no_rst) in
      let d : client_on_syn x s ≡ client_on_ack x s = cond-false s.flags.syn (heard_nothing, client_owing x) (client_on_ack x s) h.no_syn in
      let e : client_on_ack x s ≡ client_on_text after s =
      cond-false (not s.flags.ack) (heard_nothing, x) (cond (nat_lt x.send.nxt (seq_offset s.ack x.send.iss)) (heard_nothing, client_owing x) (client_on_text after s)) (ap not h.acks)
      ∙ cond-false (nat_lt x.send.nxt (seq_offset s.ack x.send.iss)) (heard_nothing, client_owing x) (client_on_text after s) h.known_ack in
      let f : client_on_text after s ≡ on_fresh (client_owing after) s = cond-false ((length s.payload == 0) && not s.flags.fin) (heard_nothing, after) (on_fresh (client_owing after) s) (some-text (length s.payload) s.flags.fin h.some) in
      let whole : (client_on_segment x s).1 ≡ (on_fresh (client_owing after) s).1 = ap (λ (r : Heard × ClientBlock). r.1) (a ∙ c ∙ d ∙ e ∙ f) in
      let y : ClientBlock = client_owing after in
      let at_y : s.seq ≡ client_rcv_nxt y = h.at ∙ ap (λ n. seq_add n (took x)) (sym (after_ack-irs x.send s.ack s.seq s.wnd)) in
      let none : known y s ≡ 0 = ap (seq_offset (client_rcv_nxt y)) at_y ∙ itself (client_rcv_nxt y) in
      let first : client_begins_after y s ≡ false = not-after (is_in_window (client_rcv_nxt y) (client_rcv_wnd y) s.seq) (s.seq == client_rcv_nxt y) (equal s.seq (client_rcv_nxt y) at_y) in
      let is : on_fresh y s ≡ (client_part_of y s, accepting y (fresh_len y s) (client_ends y s)) =
      cond-false (client_begins_after y s || y.eof) (heard_nothing, y) (client_part_of y s, accepting y (fresh_len y s) (client_ends y s)) (λ i. first i || h.going i) in
      let n : fresh_len y s ≡ min (length s.payload - 0) (client_room y) = ap (λ m. min (length s.payload - m) (client_room y)) none in
      let fin : one_if (client_ends y s) ≡ one_if (s.flags.fin && (0 + fresh_len y s == length s.payload)) = ap (λ m. one_if (s.flags.fin && (m + fresh_len y s == length s.payload))) none in
      let open_ : one_if x.eof ≡ 0 = ap one_if h.going in
      let up = finish x.accepted (length s.payload) (fresh_len y s) (client_rcv_wnd x) s.flags.fin listens.wide n h.most h.some in
      let last : took x < took (accepting y (fresh_len y s) (client_ends y s)) = omega (arith, up, fin, open_) in
      subst (λ (z : ClientBlock). took x < took z) (sym (whole ∙ ap (λ (r : Heard × ClientBlock). r.1) is)) last
    where
      itself : (n : ℕ) → seq_offset n n ≡ 0
      itself n = omega arith

      not-after : (p q : Bool) → q ≡ true → (p && not q) ≡ false
      not-after true q e = ap not e
      not-after false q e = refl

      finish-open : (acc len n w : ℕ) → 1 ≤ w → n ≡ min (len - 0) (min w (MAX_STREAM_BYTES - acc)) → acc + len ≤ MAX_STREAM_BYTES → 1 ≤ len → 1 ≤ n
      finish-open acc len n w wide is most some = omega (arith, wide, is, most, some)

      finish-short : (acc len n w : ℕ) → n ≡ min (len - 0) (min w (MAX_STREAM_BYTES - acc)) → len < 1 → 0 + n ≡ len
      finish-short acc len n w is none = omega (arith, is, none)

      apart : (a b : ℕ) → (a == b) ≡ false → a ≡ b → ⊥
      apart a b e f = grind (arith, nat_tests, e, f)

      finish : (acc len n w : ℕ) (fin : Bool) → 1 ≤ w → n ≡ min (len - 0) (min w (MAX_STREAM_BYTES - acc)) → acc + len ≤ MAX_STREAM_BYTES → 1 ≤ len + one_if fin
          → 1 + acc + 0 < 1 + (acc + n) + one_if (fin && (0 + n == len))
      finish acc len n w false wide is most some = let one = finish-open acc len n w wide is most (omega (arith, some)) in omega (arith, one)
      finish acc len n w true wide is most some = go (0 + n == len) refl where
        go : (t : Bool) → (0 + n == len) ≡ t → 1 + acc + 0 < 1 + (acc + n) + one_if t
        go true e = omega arith
        go false e = ⊎_elim
            (λ (l : len < 1). absurd (apart (0 + n) len e (finish-short acc len n w is l)))
            (λ (l : 1 ≤ len). let one = finish-open acc len n w wide is most l in omega (arith, one))
            (cases_lt len 1)
