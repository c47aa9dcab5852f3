-- A segment that reaches leaves the client with a window that ends far enough, and with no more symbols than were sent.
use Rattle.std.proofs.Common.{◌≡◌, ◌⊎◌, ◌≤◌, ◌<◌, ◌+◌, ◌-◌, ◌^◌, ◌==◌, ◌&&◌, ◌||◌, nat_lt, not, ℕ, Bool, true, false, cond, List, length, drop, inl, inr, ⊎_elim, refl, sym, ap, ◌∙◌, arith}
use Rattle.std.proofs.lemmas.Bool.{cond-true, cond_both, eqb-false, eqb-true, ltb-false, ltb-true, or_parts}
use Rattle.lard_law_view.specs.Prelude.{ClientBlock, Heard, IsInOrder, Phase, Said, Sending, aborted, after_ack, answers_syn, client_after_emit, client_after_timer, client_arrived, client_ends, client_on_segment, client_rcv_nxt, client_speaks, client_taken, client_written, established, fresh_len, heard_in, heard_nothing, held_on, introduced, is_client_open, is_established, is_newer, is_writing, moved_up, on_greeting, one_if, peer_mss, queued_too, reset_by_peer, seg_len, send_closed, seq_add, seq_offset, shut_down, windowed}
use Rattle.lard_client.specs.declared.phase.Phase.TheVariants.{Open, Aborted, Reset}
use Rattle.lard_client.proofs.Accepted.{arrived-order}
use Rattle.lard_client.proofs.Outcomes.{Quiet, Took, greeting-quiet, segment-outcome}
use Rattle.lard_laws.specs.Windows.{ClientReaches}
use Rattle.lard_law_view.proofs.Acked.{taken_by}
use Rattle.lard_rules.proofs.Loops.{client_keeps}
use Rattle.lard_seq.proofs.Laws.{offset-add}
use Rattle.lard_law_view.proofs.Speaking.{next-moves, resend-moves}
use Rattle.lard_rules.proofs.Hearing.{Counts, acked, arrived-keeps, client-emit-keeps, client-segment-keeps, client-timer-keeps}

-- ---- an acknowledgement

abbrev IsWide : Sending → Type 0
IsWide t = 0 < t.una → 16384 ≤ t.una + t.wnd

-- the window ends far enough, and no less is acknowledged
abbrev Up : Sending → Sending → Type 0
Up s t = IsWide t × (s.una ≤ t.una)

ack-up : (t : Sending) (ack seq wnd : ℕ) → 16384 ≤ seq_offset ack t.iss + wnd → IsWide t → Up t (after_ack t ack seq wnd)
ack-up t ack seq wnd wide h =
    let offset = seq_offset ack t.iss in
    let up = moved_up t offset in
    let more : (offset ≤ up.una) × (t.una ≤ up.una) × (up.wnd ≡ t.wnd) =
    cond_both (nat_lt t.una offset) (record t { una = offset; rest = drop ((offset - 1) - (t.una - 1)) t.rest }) t (λ (u : Sending). (offset ≤ u.una) × (t.una ≤ u.una) × (u.wnd ≡ t.wnd))
    (λ e. let less = ltb-true t.una offset e in (omega arith, omega (arith, less), refl)) (λ e. (ltb-false t.una offset e, omega arith, refl)) in
    cond_both (nat_lt t.nxt offset) t (cond ((t.una == 0) && (offset == 0)) t (windowed up (t.una == 0) seq ack wnd)) (Up t) (λ e. (h, omega arith)) (λ e.
    cond_both ((t.una == 0) && (offset == 0)) t (windowed up (t.una == 0) seq ack wnd) (Up t) (λ f. (h, omega arith)) (λ f.
    cond_both ((t.una == 0) || is_newer up seq ack) (record up { wnd = wnd; wl1 = seq; wl2 = ack }) up (Up t)
    (λ g. ((λ some. omega (arith, wide, more.0)), more.1))
    (λ g. (
      (λ some.
          let begun : t.una ≡ 0 → ⊥ = eqb-false t.una 0 (or_parts (t.una == 0) (is_newer up seq ack) g).0 in
          let was : 16384 ≤ t.una + t.wnd = h (omega (arith, begun)) in
          omega (arith, was, more.1, more.2)),
      more.1,
    ))))

-- ---- a segment, by the window that it names

module _ (x : ClientBlock) (s : Said) (wide : s.flags.rst ≡ false → 16384 ≤ seq_offset s.ack x.send.iss + s.wnd) (h : IsWide x.send) where
  still : Up x.send x.send
  still = (h, omega arith)

  pub arrived-up : Up x.send (client_arrived x s).1.send
  arrived-up = arrived-keeps x s (λ r. Up x.send r.1.send) (record {
    refuses = λ e. still;
    ignores = λ e. still;
    learns = λ e t plain. ack-up (introduced x.send s.seq (peer_mss s.mss)) s.ack s.seq s.wnd (wide plain) h;
    takes = λ e. record {
      rests = λ owed. still;
      resets = λ t. still;
      acks = λ owed c. knows c;
      accepts = λ c in_order going. let y : ClientBlock = acked x s true in cond_both (client_ends y s) (send_closed y.send) y.send (Up x.send) (λ u. knows c) (λ u. knows c);
    };
  }) where
    knows : Counts s x.send → Up x.send (after_ack x.send s.ack s.seq s.wnd)
    knows c = ack-up x.send s.ack s.seq s.wnd (wide c.plain) h

-- ---- what was taken

pub taken-most : (y : ClientBlock) → taken_by y ≤ 1 + y.accepted + one_if y.eof
taken-most y = cond_both (is_established y) (1 + y.accepted + one_if y.eof) 0 (λ n. n ≤ 1 + y.accepted + one_if y.eof) (λ t. omega arith) (λ t. omega arith)

-- a reset takes nothing
segment-plain : (x : ClientBlock) (s : Said) → (((client_on_segment x s).1.accepted ≡ x.accepted) × ((client_on_segment x s).1.eof ≡ x.eof)) ⊎ (s.flags.rst ≡ false)
segment-plain x s = client-segment-keeps x s (λ (r : Heard × ClientBlock). ((r.1.accepted ≡ x.accepted) × (r.1.eof ≡ x.eof)) ⊎ (s.flags.rst ≡ false)) (record {
  rests = λ owed. inl (refl, refl);
  resets = λ t. inl (refl, refl);
  acks = λ owed c. inr c.plain;
  accepts = λ c in_order going. inr c.plain;
})

-- two numbers that are the same from a first one on
same-count : (iss a b : ℕ) → iss < 2 ^ 32 → a < 2 ^ 32 → b < 2 ^ 32 → seq_add iss a ≡ seq_add iss b → a ≡ b
same-count iss a b small h k e = sym (offset-add iss a small h) ∙ ap (λ n. seq_offset n iss) e ∙ offset-add iss b small k

seq-back : (s iss from : ℕ) → s < 2 ^ 32 → iss < 2 ^ 32 → seq_add s from ≡ seq_add iss (seq_offset s iss + from)
seq-back s iss from a b = omega arith

-- What is known of an open client and of a segment that comes to it.
pub record IsHearing (x : ClientBlock) (iss most : ℕ) (s : Said) : Type 0 where
  pub iss_small : iss < 2 ^ 32
  pub seq_small : s.seq < 2 ^ 32
  pub place_small : 0 < length s.payload + one_if s.flags.fin → seq_offset s.seq iss + length s.payload < 2 ^ 32
  pub bounded : x.accepted ≤ 2 ^ 30
  pub irs_is : is_established x ≡ true → x.send.irs ≡ iss
  pub ends : s.flags.rst ≡ false → 0 < seg_len s → seq_offset s.seq iss + seg_len s ≤ most

module _ (x : ClientBlock) (iss most : ℕ) (s : Said) (h : IsHearing x iss most s) where
  abbrev All : ClientBlock → Type 0
  All y = 1 + y.accepted + one_if y.eof ≤ most

  fin-len : length s.payload + one_if s.flags.fin ≤ seg_len s
  fin-len = go s.flags.fin s.flags.syn where
    go : (f y : Bool) → length s.payload + one_if f ≤ length s.payload + cond y 1 0 + cond f 1 0
    go true true = omega arith
    go true false = omega arith
    go false true = omega arith
    go false false = omega arith

  -- what it takes of a segment was sent
  took-all : is_established x ≡ true → All x → s.flags.rst ≡ false → IsInOrder x s (client_on_segment x s).0 (client_on_segment x s).1 → Took x s (client_on_segment x s) → All (client_on_segment x s).1
  took-all est was plain order took = go (nat_lt 0 (fresh_len x s + one_if (client_ends x s))) refl where
    y : ClientBlock
    y = (client_on_segment x s).1

    counted : y.accepted ≡ x.accepted + fresh_len x s
    counted = took.2

    ended : one_if y.eof ≡ one_if (client_ends x s)
    ended = ap one_if took.3

    len : (client_on_segment x s).0.len ≡ fresh_len x s
    len = ap (λ (r : Heard). r.len) took.1

    eof : (client_on_segment x s).0.eof ≡ client_ends x s
    eof = ap (λ (r : Heard). r.eof) took.1

    open_ : one_if x.eof ≡ 0
    open_ = ap one_if took.0

    last : (b : Bool) → client_ends x s ≡ b → one_if b ≤ one_if s.flags.fin
    last true e = let f : s.flags.fin ≡ true = order.ended (eof ∙ e) in let one : one_if s.flags.fin ≡ 1 = ap one_if f in omega (arith, one)
    last false e = omega arith

    go : (t : Bool) → nat_lt 0 (fresh_len x s + one_if (client_ends x s)) ≡ t → All y
    go false e =
        let none = ltb-false 0 (fresh_len x s + one_if (client_ends x s)) e in
        omega (arith, none, counted, ended, open_, was)
    go true e =
        let some = ltb-true 0 (fresh_len x s + one_if (client_ends x s)) e in
        let one : one_if (client_on_segment x s).0.eof ≡ one_if (client_ends x s) = ap one_if eof in
        let from = (client_on_segment x s).0.from in
        let within : from + (client_on_segment x s).0.len ≤ length s.payload = order.within in
        let fin = last (client_ends x s) refl in
        let all = fin-len in
        let end : seq_offset s.seq iss + seg_len s ≤ most = h.ends plain (omega (arith, some, len, within, fin, all)) in
        let place : seq_add s.seq from ≡ client_rcv_nxt x = order.place (omega (arith, some, len, one)) in
        let next : client_rcv_nxt x ≡ seq_add iss (1 + x.accepted + one_if x.eof) = ap (λ i. seq_add i (1 + x.accepted + one_if x.eof)) (h.irs_is est) in
        let bounded = h.bounded in
        let small = h.place_small (omega (arith, some, len, within, fin)) in
        let at : seq_offset s.seq iss + from ≡ 1 + x.accepted + one_if x.eof =
        same-count iss (seq_offset s.seq iss + from) (1 + x.accepted + one_if x.eof) h.iss_small (omega (arith, within, small)) (omega (arith, bounded, open_)) (sym (seq-back s.seq iss from h.seq_small h.iss_small) ∙ place ∙ next) in
        omega (arith, at, open_, counted, ended, within, len, fin, all, end)

  segment-all : is_established x ≡ true → All x → IsInOrder x s (client_on_segment x s).0 (client_on_segment x s).1 → All (client_on_segment x s).1
  segment-all est was order = ⊎_elim
      (λ (same : ((client_on_segment x s).1.accepted ≡ x.accepted) × ((client_on_segment x s).1.eof ≡ x.eof)). let e = ap one_if same.1 in omega (arith, same.0, e, was))
      (λ (plain : s.flags.rst ≡ false). ⊎_elim
      (λ (q : Quiet x (client_on_segment x s)). let e = ap one_if q.2 in omega (arith, q.1, e, was))
      (λ (t : Took x s (client_on_segment x s)). took-all est was plain order t)
      (segment-outcome x s))
      (segment-plain x s)

  -- ---- while its SYN is not acknowledged

  greeting-taken : taken_by x ≤ most → (x.accepted ≡ 0) × (x.eof ≡ false) → taken_by (on_greeting x s).1 ≤ most
  greeting-taken was none =
      let P : Heard × ClientBlock → Type 0 = λ r. taken_by r.1 ≤ most in
      let synced : Heard × ClientBlock = cond s.flags.syn (heard_nothing, established x s) (heard_nothing, x) in
      cond_both {A = Heard × ClientBlock} (not (answers_syn x s)) (heard_nothing, x) (cond s.flags.rst (heard_nothing, reset_by_peer x) synced) P (λ t. was)
      (λ t. cond_both {A = Heard × ClientBlock} s.flags.rst (heard_nothing, reset_by_peer x) synced P (λ u. was)
      (λ u. cond_both {A = Heard × ClientBlock} s.flags.syn (heard_nothing, established x s) (heard_nothing, x) P
      (λ v.
      let one : ◌≡◌ {A = ℕ} (cond s.flags.syn 1 0) 1 = cond-true {A = ℕ} s.flags.syn 1 0 v in
      let end : seq_offset s.seq iss + seg_len s ≤ most = h.ends u (omega (arith, one)) in
      let eof : one_if x.eof ≡ 0 = ap one_if none.1 in
      omega (arith, taken-most (established x s), none.0, eof, end, one)) (λ v. was)))

  -- ---- all phases

  taken-in : (p : Phase) → taken_by x ≤ most → (x.send.una ≡ 0 → (x.accepted ≡ 0) × (x.eof ≡ false)) → IsInOrder x s (heard_in p x s).0 (heard_in p x s).1 → taken_by (heard_in p x s).1 ≤ most
  taken-in Open was fresh order = go (x.send.una == 0) refl order where
    go : (t : Bool) → (x.send.una == 0) ≡ t → IsInOrder x s (cond t (on_greeting x s) (client_on_segment x s)).0 (cond t (on_greeting x s) (client_on_segment x s)).1 → taken_by (cond t (on_greeting x s) (client_on_segment x s)).1 ≤ most
    go true e order = greeting-taken was (fresh (eqb-true x.send.una 0 e))
    go false e order =
        let est : is_established x ≡ true = ap not e in
        let all : taken_by x ≡ 1 + x.accepted + one_if x.eof = cond-true (is_established x) (1 + x.accepted + one_if x.eof) 0 est in
        let k : All (client_on_segment x s).1 = segment-all est (omega (arith, all, was)) order in
        omega (arith, k, taken-most (client_on_segment x s).1)
  taken-in Aborted was fresh order = was
  taken-in Reset was fresh order = was

  pub arrived-taken : taken_by x ≤ most → (x.send.una ≡ 0 → (x.accepted ≡ 0) × (x.eof ≡ false)) → taken_by (client_arrived x s).1 ≤ most
  unfolding client_arrived
  arrived-taken was fresh = taken-in x.phase was fresh (arrived-order x s h.seq_small)

-- ---- one that is not established took nothing

fresh-in : (p : Phase) (x : ClientBlock) (s : Said) → x.send.una ≡ 0 → (x.accepted ≡ 0) × (x.eof ≡ false) → ((heard_in p x s).1.accepted ≡ 0) × ((heard_in p x s).1.eof ≡ false)
fresh-in Open x s none was = go (x.send.una == 0) refl where
  go : (t : Bool) → (x.send.una == 0) ≡ t → ((cond t (on_greeting x s) (client_on_segment x s)).1.accepted ≡ 0) × ((cond t (on_greeting x s) (client_on_segment x s)).1.eof ≡ false)
  go true e = greeting-quiet x s (λ (r : Heard × ClientBlock). (r.1.accepted ≡ 0) × (r.1.eof ≡ false)) (λ y a f w. (a ∙ was.0, f ∙ was.1))
  go false e = absurd (eqb-false x.send.una 0 e none)
fresh-in Aborted x s none was = was
fresh-in Reset x s none was = was

pub arrived-reaches : (x : ClientBlock) (s : Said) → (s.flags.rst ≡ false → 16384 ≤ seq_offset s.ack x.send.iss + s.wnd) → ClientReaches x → ClientReaches (client_arrived x s).1
unfolding client_arrived
arrived-reaches x s wide h =
    let up = arrived-up x s wide h.wide in
    record { wide = up.0; fresh = λ none. let was : x.send.una ≡ 0 = omega (arith, up.1, none) in fresh-in x.phase x s was (h.fresh was) }

-- ---- what its other rules leave as it was

abbrev pub IsSame : ClientBlock → ClientBlock → Type 0
IsSame x y = (y.send.iss ≡ x.send.iss) × (y.send.una ≡ x.send.una) × (y.send.wnd ≡ x.send.wnd) × (y.accepted ≡ x.accepted) × (y.eof ≡ x.eof)

same-self : (x : ClientBlock) → IsSame x x
same-self x = (refl, refl, refl, refl, refl)

same-then : (x y z : ClientBlock) → IsSame x y → IsSame y z → IsSame x z
same-then x y z h k = (k.0 ∙ h.0, k.1 ∙ h.1, k.2 ∙ h.2, k.3 ∙ h.3, k.4 ∙ h.4)

emit-same : (x : ClientBlock) → IsSame x (client_after_emit x)
emit-same x =
    let m = next-moves x.send in
    client-emit-keeps (IsSame x) x (same-self x) (same-self x) (ap (λ (s : Sending). s.iss) m, ap (λ (s : Sending). s.una) m, ap (λ (s : Sending). s.wnd) m, refl, refl)

pub timer-same : (x : ClientBlock) → IsSame x (client_after_timer x)
timer-same x =
    let m = resend-moves x.send in
    client-timer-keeps (IsSame x) x (same-self x) (ap (λ (s : Sending). s.iss) m, ap (λ (s : Sending). s.una) m, ap (λ (s : Sending). s.wnd) m, refl, refl)

pub speaks-same : (x : ClientBlock) → IsSame x (client_speaks x).1
speaks-same x = client_keeps (λ (x : ClientBlock) ss y. IsSame x y) (record { rests = same-self; says = λ x r ss y e later. same-then x (client_after_emit x) y (emit-same x) later }) x

-- it speaks behind that
pub then-speaks : (x y : ClientBlock) → IsSame x y → IsSame x (client_speaks y).1
then-speaks x y h = same-then x y (client_speaks y).1 h (speaks-same y)

pub written-same : (x : ClientBlock) (bytes : List ℕ) → IsSame x (client_written x bytes)
written-same x bytes = cond_both (is_writing x) (record x { send = queued_too x.send bytes }) x (IsSame x) (λ t. same-self x) (λ t. same-self x)

pub shut-same : (x : ClientBlock) → IsSame x (shut_down x)
shut-same x = cond_both (is_client_open x) (record x { send = send_closed x.send }) x (IsSame x) (λ t. same-self x) (λ t. same-self x)

pub aborted-same : (x : ClientBlock) → IsSame x (aborted x)
aborted-same x = cond_both (is_client_open x) (record x { phase = Aborted }) x (IsSame x) (λ t. same-self x) (λ t. same-self x)

pub held-same : (x : ClientBlock) → IsSame x (held_on x)
held-same x = cond_both (is_client_open x) (record x { holding = true }) x (IsSame x) (λ t. same-self x) (λ t. same-self x)

pub taken-same : (x : ClientBlock) → IsSame x (client_taken x)
taken-same x = cond_both (is_client_open x) (record x { holding = false; held = 0; owed = x.owed || is_established x }) x (IsSame x) (λ t. same-self x) (λ t. same-self x)

pub same-taken : (x y : ClientBlock) → IsSame x y → taken_by y ≡ taken_by x
same-taken x y h = λ i. cond (not (h.1 i == 0)) (1 + h.3 i + one_if (h.4 i)) 0

pub same-reaches : (x y : ClientBlock) → IsSame x y → ClientReaches x → ClientReaches y
same-reaches x y h r = record {
  wide = λ some. let w = r.wide (omega (arith, some, h.1)) in omega (arith, w, h.1, h.2);
  fresh = λ none. let f = r.fresh (sym h.1 ∙ none) in (h.3 ∙ f.0, h.4 ∙ f.1);
}
