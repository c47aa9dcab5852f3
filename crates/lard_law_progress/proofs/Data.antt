-- An endpoint takes data of which the client does not know that it was taken: an acknowledgement of it is owed.
use Rattle.std.proofs.Common.{◌≡◌, ◌⊎◌, ◌<◌, ◌≤◌, ◌+◌, ◌-◌, ◌^◌, ◌==◌, ◌&&◌, ◌||◌, nat_lt, not, ℕ, Bool, true, false, cond, min, List, drop, length, inl, inr, ⊎_elim, refl, sym, ap, ◌∙◌, subst, arith}
use Rattle.std.proofs.lemmas.Bool.{cases_lt, cond_both, cond-false, cond-true}
use Rattle.std.proofs.lemmas.Bool.Decides.{nat_tests}
use Rattle.std.proofs.lemmas.List.{length-drop, length-take}
use Rattle.lard_law_view.specs.Prelude.{Arrival, ControlBlock, Received, Said, Sending, after_ack, arrived, awaited, bare, begins_after, bytes_taken, ends, fresh_bytes, is_acceptable, is_allowed, is_in_window, last_number, on_ack, on_acked, on_rst, on_segment, on_syn, on_text, on_unacceptable, one_if, owing, rcv_nxt, rcv_wnd, receive_room, seg_len, seq_add, seq_offset}
use Rattle.lard_endpoint.specs.declared.control.arriving.Arrival.TheVariants as arrival
use Rattle.lard_endpoint.proofs.Numbers.{offset_later}
use Rattle.lard_law_progress.proofs.Ends.{ahead-self, kept-ahead}

-- how many symbols of the client's were taken
abbrev pub heard : Received → ℕ
heard r = 1 + r.got + one_if r.fin

-- ---- the receiving half

-- Bytes and perhaps a FIN, that begin no later than what is awaited, at symbol f of the client's, and end behind symbol c.
pub record IsData (r : Received) (c f seq : ℕ) (data_ : List ℕ) (fin : Bool) : Type 0 where
  pub first : r.irs < 2 ^ 32
  pub number : seq ≡ seq_add r.irs f
  pub from : f ≤ c
  pub known : c ≤ heard r
  pub to : c < f + (length data_ + one_if fin)
  pub some : 1 ≤ receive_room r
  pub small : heard r ≤ 2 ^ 31
  pub last : r.fin ≡ true → f + (length data_ + one_if fin) ≤ heard r  -- nothing stands behind the FIN

-- such data moves what is taken beyond c
finish-bytes : (h f c len n w : ℕ) → f ≤ c → c ≤ h → c < f + (len + 0) → 1 ≤ w → n ≡ min w (len - (h - f)) → c < h + n + 0
finish-bytes h f c len n w a b d e m = omega arith

finish-fin : (h f c len n w : ℕ) → f ≤ c → c ≤ h → c < f + (len + 1) → 1 ≤ w → n ≡ min w (len - (h - f)) → ((h - f) + n == len) ≡ false → c < h + n + 0
finish-fin h f c len n w a b d e m no_ = let ne : ((h - f) + n ≡ len) → ⊥ = apart ((h - f) + n) len no_ in go (cases_lt n 1) ne where
  apart : (x y : ℕ) → (x == y) ≡ false → x ≡ y → ⊥
  apart x y e s = grind (arith, nat_tests, e, s)

  go : (n < 1) ⊎ (1 ≤ n) → ((h - f) + n ≡ len → ⊥) → c < h + n + 0
  go (inl z) ne = ⊎_elim (λ (l : len < h - f). omega (arith, l, d, z)) (λ (l : h - f ≤ len). absurd (ne (omega (arith, l, m, z, e)))) (cases_lt len (h - f))
  go (inr z) ne = omega (arith, z, b)

finish : (h f c len n w : ℕ) (fin : Bool) → f ≤ c → c ≤ h → c < f + (len + one_if fin) → 1 ≤ w → n ≡ min w (len - (h - f)) → c < h + n + one_if (fin && ((h - f) + n == len))
finish h f c len n w false a b d e m = finish-bytes h f c len n w a b d e m
finish h f c len n w true a b d e m = go ((h - f) + n == len) refl where
  go : (t : Bool) → ((h - f) + n == len) ≡ t → c < h + n + one_if t
  go true is = omega (arith, b)
  go false is = finish-fin h f c len n w a b d e m is

not-after : (o : ℕ) → (o ≡ 0) ⊎ (2 ^ 31 ≤ o) → (nat_lt 0 o && nat_lt o (2 ^ 31)) ≡ false
not-after o (inl e) = grind (arith, nat_tests, e)
not-after o (inr e) = grind (arith, nat_tests, e)

behind : (first f h seq : ℕ) → first < 2 ^ 32 → seq ≡ seq_add first f → f ≤ h → h ≤ 2 ^ 31 → (seq_offset seq (seq_add first h) ≡ 0) ⊎ (2 ^ 31 ≤ seq_offset seq (seq_add first h))
behind first f h seq i is low small = ⊎_elim (λ (l : f < h). inr (omega (arith, i, is, l, small))) (λ (l : h ≤ f). inl (omega (arith, i, is, l, low, small))) (cases_lt f h)

pub data-taken : (r : Received) (c f seq : ℕ) (data_ : List ℕ) (fin : Bool) → IsData r c f seq data_ fin → c < heard (arrived r seq data_ fin)
data-taken r c f seq data_ fin h = go r.fin refl where
  go : (t : Bool) → r.fin ≡ t → c < heard (cond (begins_after seq (awaited r)) r (cond t r (bytes_taken r (fresh_bytes r seq data_) (ends r seq data_ fin))))
  go true is =
      let l : f + (length data_ + one_if fin) ≤ heard r = h.last is in
      let b : c < f + (length data_ + one_if fin) = h.to in
      cond_both (begins_after seq (awaited r)) r r (λ (q : Received). c < heard q) (λ t. omega (arith, l, b)) (λ t. omega (arith, l, b))
  go false is =
      let none : one_if r.fin ≡ 0 = ap one_if is in
      let a : f ≤ c = h.from in let b : c ≤ heard r = h.known in let s : heard r ≤ 2 ^ 31 = h.small in
      let i : r.irs < 2 ^ 32 = h.first in
      let off : seq_offset (awaited r) seq ≡ heard r - f = ap (seq_offset (awaited r)) h.number ∙ offset_later r.irs (heard r) f i (omega (arith, a, b)) s in
      let back : (seq_offset seq (awaited r) ≡ 0) ⊎ (2 ^ 31 ≤ seq_offset seq (awaited r)) = behind r.irs f (heard r) seq i h.number (omega (arith, a, b)) s in
      let len : length (fresh_bytes r seq data_) ≡ min (receive_room r) (length data_ - (heard r - f)) =
      length-take (receive_room r) (drop (seq_offset (awaited r) seq) data_) ∙ ap (min (receive_room r)) (length-drop (seq_offset (awaited r) seq) data_ ∙ ap (λ n. length data_ - n) off) in
      let e : ends r seq data_ fin ≡ (fin && ((heard r - f) + length (fresh_bytes r seq data_) == length data_)) = ap (λ n. fin && (n + length (fresh_bytes r seq data_) == length data_)) off in
      let done : c < heard r + length (fresh_bytes r seq data_) + one_if (fin && ((heard r - f) + length (fresh_bytes r seq data_) == length data_)) =
      finish (heard r) f c (length data_) (length (fresh_bytes r seq data_)) (receive_room r) fin a b h.to h.some len in
      let same : one_if (ends r seq data_ fin) ≡ one_if (fin && ((heard r - f) + length (fresh_bytes r seq data_) == length data_)) = ap one_if e in
      cond_both (begins_after seq (awaited r)) r (bytes_taken r (fresh_bytes r seq data_) (ends r seq data_ fin)) (λ (q : Received). c < heard q)
      (λ t. absurd (let bad : true ≡ false = sym t ∙ not-after (seq_offset seq (awaited r)) back in cc))
      (λ t. omega (arith, done, same, none))

-- ---- the endpoint

-- The segment has data or a FIN, as above, within the window, and acknowledges nothing that was not sent.
pub record CarriesData (b : ControlBlock) (c f : ℕ) (s : Said) : Type 0 where
  pub data_is : IsData b.recv c f s.seq s.payload s.flags.fin
  pub acks : s.flags.ack ≡ true
  pub no_syn : s.flags.syn ≡ false
  pub no_rst : s.flags.rst ≡ false
  pub known : nat_lt b.send.nxt (seq_offset s.ack b.send.iss) ≡ false
  pub established : (b.send.una == 0) ≡ false
  pub within : f + (length s.payload + one_if s.flags.fin) ≤ heard b.recv + receive_room b.recv
  pub far : heard b.recv + receive_room b.recv ≤ 2 ^ 31

-- behind it an ACK is owed, and more was taken than symbol c
pub record IsOwing (b : ControlBlock) (c : ℕ) (r : Arrival × ControlBlock) : Type 0 where
  pub owed : r.1.owed ≡ true
  pub reset : r.1.reset ≡ b.reset
  pub more : c < heard r.1.recv

is-one : (t : Bool) → cond t 1 0 ≡ one_if t
is-one true = refl
is-one false = refl

some-length : (f c n : ℕ) (fin : Bool) → f ≤ c → c < f + (n + one_if fin) → ((n == 0) && not fin) ≡ false
some-length f c n true a b = second (n == 0) where
  second : (t : Bool) → (t && false) ≡ false
  second true = refl
  second false = refl
some-length f c n false a b = first n (omega (arith, a, b)) where
  first : (n : ℕ) → 1 ≤ n → ((n == 0) && true) ≡ false
  first n e = grind (arith, nat_tests, e)

-- a window that it does not reach has all of it behind
past-window : (x y wnd : ℕ) → nat_lt x wnd ≡ false → x ≡ y → y < wnd → ⊥
past-window x y wnd e is low = grind (arith, nat_tests, e, is, low)

adds : (first f n m seq : ℕ) → seq ≡ seq_add first f → n ≡ m → 1 ≤ m → seq_add seq (n - 1) ≡ seq_add first ((f + m) - 1)
adds first f n m seq is e some = omega (arith, is, e, some)

-- what is not acceptable was taken before
old-data : (b : ControlBlock) (c f : ℕ) (s : Said) → CarriesData b c f s → is_acceptable (rcv_nxt b) (rcv_wnd b) s ≡ false → f + (length s.payload + one_if s.flags.fin) ≤ heard b.recv
old-data b c f s h no_ = ⊎_elim (λ (l : heard b.recv < f + (length s.payload + one_if s.flags.fin)). absurd (fits l)) (λ l. l) (cases_lt (heard b.recv) (f + (length s.payload + one_if s.flags.fin))) where
  none : (a x y z : Bool) → a ≡ false → (cond a x (cond y false z)) ≡ false → y ≡ false → z ≡ false
  none true x y z e f g = absurd (let bad : true ≡ false = e in cc)
  none false x true z e f g = absurd (let bad : true ≡ false = g in cc)
  none false x false z e f g = f

  right : (p q : Bool) → (p || q) ≡ false → q ≡ false
  right true q e = absurd (let bad : true ≡ false = e in cc)
  right false q e = e

  is-zero : (n : ℕ) → 1 ≤ n → (n == 0) ≡ false
  is-zero n e = grind (arith, nat_tests, e)

  fits : heard b.recv < f + (length s.payload + one_if s.flags.fin) → ⊥
  fits l =
      let d = h.data_is in
      let a : f ≤ c = d.from in let k : c ≤ heard b.recv = d.known in let t : c < f + (length s.payload + one_if s.flags.fin) = d.to in
      let w : 1 ≤ receive_room b.recv = d.some in
      let i : b.recv.irs < 2 ^ 32 = d.first in
      let far : heard b.recv + receive_room b.recv ≤ 2 ^ 31 = h.far in
      let in_ : f + (length s.payload + one_if s.flags.fin) ≤ heard b.recv + receive_room b.recv = h.within in
      let syn : cond s.flags.syn 1 0 ≡ 0 = is-one s.flags.syn ∙ ap one_if h.no_syn in
      let fin : cond s.flags.fin 1 0 ≡ one_if s.flags.fin = is-one s.flags.fin in
      let len : seg_len s ≡ length s.payload + one_if s.flags.fin = omega (arith, syn, fin) in
      let out : (is_in_window (rcv_nxt b) (rcv_wnd b) s.seq || is_in_window (rcv_nxt b) (rcv_wnd b) (last_number s)) ≡ false =
      none (seg_len s == 0) (cond (rcv_wnd b == 0) (s.seq == rcv_nxt b) (is_in_window (rcv_nxt b) (rcv_wnd b) s.seq)) (rcv_wnd b == 0) (is_in_window (rcv_nxt b) (rcv_wnd b) s.seq || is_in_window (rcv_nxt b) (rcv_wnd b) (last_number s))
      (is-zero (seg_len s) (omega (arith, len, a, t))) no_ (is-zero (rcv_wnd b) w) in
      let number : last_number s ≡ seq_add b.recv.irs ((f + (length s.payload + one_if s.flags.fin)) - 1) =
      adds b.recv.irs f (seg_len s) (length s.payload + one_if s.flags.fin) s.seq d.number len (omega (arith, a, t)) in
      let off : seq_offset (last_number s) (rcv_nxt b) ≡ ((f + (length s.payload + one_if s.flags.fin)) - 1) - heard b.recv =
      ap (λ n. seq_offset n (rcv_nxt b)) number ∙ offset_later b.recv.irs ((f + (length s.payload + one_if s.flags.fin)) - 1) (heard b.recv) i (omega (arith, l)) (omega (arith, in_, far)) in
      past-window (seq_offset (last_number s) (rcv_nxt b)) (((f + (length s.payload + one_if s.flags.fin)) - 1) - heard b.recv) (rcv_wnd b) (right (is_in_window (rcv_nxt b) (rcv_wnd b) s.seq) (is_in_window (rcv_nxt b) (rcv_wnd b) (last_number s)) out) off
      (omega (arith, l, in_))

pub data-owes : (b : ControlBlock) (c f : ℕ) (s : Said) → CarriesData b c f s → IsOwing b c (on_segment b s)
data-owes b c f s h =
    let after : ControlBlock = record b { send = after_ack b.send s.ack s.seq s.wnd } in
    let d = h.data_is in
    let has = some-length f c (length s.payload) s.flags.fin d.from d.to in
    cond_both {A = Arrival × ControlBlock} (is_acceptable (rcv_nxt b) (rcv_wnd b) s) (on_rst b s) (on_unacceptable b s) (IsOwing b c)
    (λ t.
    let rst : on_rst b s ≡ on_syn b s = cond-true (not s.flags.rst) (on_syn b s) (cond (s.seq == rcv_nxt b) (arrival.Reset, record b { reset = true }) (arrival.AckOwed, owing b)) (ap not h.no_rst) in
    let syn : on_syn b s ≡ on_ack b s = cond-false s.flags.syn (arrival.AckOwed, owing b) (on_ack b s) h.no_syn in
    let ack : on_ack b s ≡ on_acked after s =
    cond-false (not s.flags.ack) (arrival.Fine, b) (cond (nat_lt b.send.nxt (seq_offset s.ack b.send.iss)) (arrival.AckOwed, owing b) (on_acked after s)) (ap not h.acks)
    ∙ cond-false (nat_lt b.send.nxt (seq_offset s.ack b.send.iss)) (arrival.AckOwed, owing b) (on_acked after s) h.known in
    let open_ : (after.send.una == 0) ≡ false = still-open b.send.una after.send.una ((acks-up b.send s.ack s.seq s.wnd)) h.established in
    let text : on_acked after s ≡ on_text after s = cond-false (after.send.una == 0) (arrival.Fine, after) (on_text after s) open_ in
    let takes : on_text after s ≡ (arrival.AckOwed, record after { recv = arrived after.recv s.seq s.payload s.flags.fin; owed = true }) =
    cond-false ((length s.payload == 0) && not s.flags.fin) (arrival.Fine, after) (arrival.AckOwed, record after { recv = arrived after.recv s.seq s.payload s.flags.fin; owed = true }) has in
    subst (IsOwing b c) (sym (rst ∙ syn ∙ ack ∙ text ∙ takes)) (record { owed = refl; reset = refl; more = data-taken b.recv c f s.seq s.payload s.flags.fin d }))
    (λ t.
    let old = old-data b c f s h t in
    let to : c < f + (length s.payload + one_if s.flags.fin) = d.to in
    let w : (rcv_wnd b == 0) ≡ false = is-open (rcv_wnd b) d.some in
    let shut : is_allowed (rcv_nxt b) (rcv_wnd b) s ≡ false = λ i. ((w i) && (s.seq == rcv_nxt b)) && (not s.flags.rst && not s.flags.syn) in
    let is : on_unacceptable b s ≡ (arrival.AckOwed, owing b) =
    cond-false (is_allowed (rcv_nxt b) (rcv_wnd b) s) (arrival.AckOwed, (on_ack (owing b) (bare s)).1) (cond s.flags.rst (arrival.Fine, b) (arrival.AckOwed, owing b)) shut
    ∙ cond-false s.flags.rst (arrival.Fine, b) (arrival.AckOwed, owing b) h.no_rst in
    subst (IsOwing b c) (sym is) (record { owed = refl; reset = refl; more = omega (arith, old, to) }))
  where
    is-open : (n : ℕ) → 1 ≤ n → (n == 0) ≡ false
    is-open n e = grind (arith, nat_tests, e)

    still-open : (a b : ℕ) → a ≤ b → (a == 0) ≡ false → (b == 0) ≡ false
    still-open a b l e = grind (arith, nat_tests, l, e)

    acks-up : (s : Sending) (ack seq wnd : ℕ) → s.una ≤ (after_ack s ack seq wnd).una
    acks-up s ack seq wnd = let h = (kept-ahead s).acks s ack seq wnd (ahead-self s) in h.una
