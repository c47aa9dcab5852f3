-- What is accepted is in order, stays bounded, and is nothing once the client was aborted or reset.
use Rattle.std.proofs.Common.{is_some, Bool, Some, ◌&&◌, ◌≡◌, ◌≤◌, ◌<◌, ◌+◌, ◌^◌, ℕ, true, false, cond, min, ◌==◌, not, Option, None, IfSome, length, arith, refl, subst, sym, ap, ◌∙◌, ⊎_elim}
use Rattle.std.proofs.lemmas.Bool.{cond_both, and_parts, eqb-true}
use Rattle.lard_client.specs.declared.heard.Heard.{Heard}
use Rattle.lard_client.specs.declared.phase.Phase.{Phase}
use Rattle.lard_client.specs.declared.phase.Phase.TheVariants.{Open, Aborted, Reset}
use Rattle.lard_client.specs.Leaving.{client_refusal}
use Rattle.lard_client.specs.Control.{ClientBlock, is_client_open, is_open_in, is_aborted, is_aborted_in, is_established, client_rcv_nxt}
use Rattle.lard_client.specs.Arriving.{known, fresh_len, client_ends, client_part_of, client_on_segment, on_greeting, heard_open, heard_in, client_arrived}
use Rattle.lard_client.specs.Laws.{IsAwaitedPart, IsInOrder}
use Rattle.lard_client.proofs.Counting.{arrived-awaited}
use Rattle.lard_client.proofs.Outcomes.{Outcome, greeting-quiet, segment-outcome}
use Rattle.lard_segment.specs.declared.segment.Ready.{Ready}
use Rattle.lard_segment.specs.Segment.{Said}
use Rattle.lard_seq.specs.Seq.{one_if, seq_add}
use Rattle.lard_seq.proofs.Laws.{add-offset}

-- nothing is in order
none-order : (x y : ClientBlock) (s : Said) (o : Option Ready) → y.accepted ≡ x.accepted → (is_established x ≡ true → client_rcv_nxt y ≡ client_rcv_nxt x)
    → IsAwaitedPart x s (record { from = 0; len = 0; eof = false; reply = o }) → IsInOrder x s (record { from = 0; len = 0; eof = false; reply = o }) y
none-order x y s o a n f = record {
  within = omega arith;
  place = λ h. absurd (omega arith);
  fresh = f;
  fits = omega arith;
  ended = λ e. cc;
  last = λ e. cc;
  counted = omega arith;
  next = λ e. n e ∙ omega arith;
  shuts = λ e. cc;
  once = λ e. refl;
}

-- RCV.NXT after n more bytes, and a FIN where f is 1
moved : (i j a b n d e f : ℕ) → j ≡ i → b ≡ a + n → d ≡ f → e ≡ 0 → seq_add j (1 + b + d) ≡ seq_add (seq_add i (1 + a + e)) (n + f)
moved i j a b n d e f p q r t = omega arith

-- the FIN is taken where its bytes are
reaches : (x : ClientBlock) (s : Said) → client_ends x s ≡ true → known x s + fresh_len x s ≡ length s.payload
reaches x s t = eqb-true _ _ (and_parts s.flags.fin (known x s + fresh_len x s == length s.payload) t).1

-- where something is taken, all that comes before RCV.NXT lies in the segment
all_known : (x : ClientBlock) (s : Said) (b : Bool) → client_ends x s ≡ b → 0 < fresh_len x s + one_if b → min (known x s) (length s.payload) ≡ known x s
all_known x s true e h = let all = reaches x s e in omega arith
all_known x s false e h = omega arith

-- a part is in order
part-order : (x y : ClientBlock) (s : Said) → s.seq < 2 ^ 32 → x.eof ≡ false → y.accepted ≡ x.accepted + fresh_len x s → y.eof ≡ client_ends x s
    → y.send.irs ≡ x.send.irs → (client_ends x s ≡ true → y.send.finished ≡ true) → IsAwaitedPart x s (client_part_of x s) → IsInOrder x s (client_part_of x s) y
part-order x y s q f a e i shut w =
    let numbered : client_rcv_nxt x < 2 ^ 32 = omega arith in
    record {
      within = omega arith;
      place = λ h. ap (seq_add s.seq) (all_known x s (client_ends x s) refl h) ∙ add-offset (client_rcv_nxt x) s.seq numbered q;
      fresh = w;
      fits = omega arith;
      ended = λ t. (and_parts s.flags.fin (known x s + fresh_len x s == length s.payload) t).0;
      last = λ t. let all = reaches x s t in omega arith;
      counted = a;
      next = λ t. moved x.send.irs y.send.irs x.accepted y.accepted (fresh_len x s) (one_if y.eof) (one_if x.eof) (one_if (client_ends x s)) i a (ap one_if e) (ap one_if f);
      shuts = shut;
      once = λ t. absurd (cc);
    }

same-next : (x y : ClientBlock) → y.accepted ≡ x.accepted → y.eof ≡ x.eof → y.send.irs ≡ x.send.irs → client_rcv_nxt y ≡ client_rcv_nxt x
same-next x y a e i = ap (λ n. seq_add n (1 + y.accepted + one_if y.eof)) i ∙ ap (λ n. seq_add x.send.irs (1 + n + one_if y.eof)) a ∙ ap (λ b. seq_add x.send.irs (1 + x.accepted + one_if b)) e

outcome-order : (x : ClientBlock) (s : Said) (r : Heard × ClientBlock) → s.seq < 2 ^ 32 → IsAwaitedPart x s r.0 → Outcome x s r → IsInOrder x s r.0 r.1
outcome-order x s r q w =
    let P : Heard → Type 0 = λ h. IsInOrder x s h r.1 in
    let Q : Heard → Type 0 = λ h. IsAwaitedPart x s h in
    ⊎_elim (λ u. subst P (sym u.0) (none-order x r.1 s None u.1 (λ e. same-next x r.1 u.1 u.2 u.3) (subst Q u.0 w)))
    (λ t. subst P (sym t.1) (part-order x r.1 s q t.0 t.2 t.3 t.4 t.5 (subst Q t.1 w)))

-- in order, if it is the awaited part
abbrev InOrder : ClientBlock → Said → Heard × ClientBlock → Type 0
InOrder x s r = IsAwaitedPart x s r.0 → IsInOrder x s r.0 r.1

open-order : (x : ClientBlock) (s : Said) → s.seq < 2 ^ 32 → InOrder x s (heard_open x s)
open-order x s q =
    cond_both (x.send.una == 0) (on_greeting x s) (client_on_segment x s) (InOrder x s)
    (λ t. greeting-quiet x s (InOrder x s)
    (λ y a f n. none-order x y s None a (λ e. let no : not true ≡ true = subst (λ b. not b ≡ true) t e in absurd (cc))))
    (λ f w. outcome-order x s (client_on_segment x s) q w (segment-outcome x s))

phase-order : (p : Phase) (x : ClientBlock) (s : Said) → s.seq < 2 ^ 32 → InOrder x s (heard_in p x s)
phase-order Open x s q = open-order x s q
phase-order Aborted x s q = none-order x x s _ refl (λ e. refl)
phase-order Reset x s q = none-order x x s None refl (λ e. refl)

pub arrived-order : (x : ClientBlock) (s : Said) → s.seq < 2 ^ 32 → IsInOrder x s (client_arrived x s).0 (client_arrived x s).1
unfolding client_arrived
arrived-order x s q = phase-order x.phase x s q (arrived-awaited x s)

-- ---- bounds
open-bounded : (x : ClientBlock) (s : Said) → x.accepted ≤ 2 ^ 30 → (heard_open x s).1.accepted ≤ 2 ^ 30
open-bounded x s b =
    cond_both (x.send.una == 0) (on_greeting x s) (client_on_segment x s) (λ r. r.1.accepted ≤ 2 ^ 30)
    (λ t. greeting-quiet x s (λ r. r.1.accepted ≤ 2 ^ 30) (λ y a f n. omega arith))
    (λ f. ⊎_elim (λ u. let a = u.1 in omega arith) (λ t. let a = t.2 in omega arith) (segment-outcome x s))

phase-bounded : (p : Phase) (x : ClientBlock) (s : Said) → x.accepted ≤ 2 ^ 30 → (heard_in p x s).1.accepted ≤ 2 ^ 30
phase-bounded Open x s b = open-bounded x s b
phase-bounded Aborted x s b = b
phase-bounded Reset x s b = b

pub arrived-bounded : (x : ClientBlock) (s : Said) → x.accepted ≤ 2 ^ 30 → (client_arrived x s).1.accepted ≤ 2 ^ 30
unfolding client_arrived
arrived-bounded x s b = phase-bounded x.phase x s b

-- ---- after its end
phase-ended : (p : Phase) (x : ClientBlock) (s : Said) → is_open_in p ≡ false
    → ((heard_in p x s).1 ≡ x) × ((heard_in p x s).0.len ≡ 0) × ((heard_in p x s).0.eof ≡ false)
phase-ended Open x s e = absurd (cc)
phase-ended Aborted x s e = (refl, refl, refl)
phase-ended Reset x s e = (refl, refl, refl)

pub arrived-ended : (x : ClientBlock) (s : Said) → is_client_open x ≡ false → ((client_arrived x s).1 ≡ x) × ((client_arrived x s).0.len ≡ 0) × ((client_arrived x s).0.eof ≡ false)
unfolding client_arrived
arrived-ended x s e = phase-ended x.phase x s e

-- ---- what an open client answers
open-part : (x : ClientBlock) (s : Said) → ((heard_open x s).0.from + (heard_open x s).0.len ≤ length s.payload) × ((heard_open x s).0.reply ≡ None)
open-part x s =
    let P : Heard × ClientBlock → Type 0 = λ r. (r.0.from + r.0.len ≤ length s.payload) × (r.0.reply ≡ None) in
    cond_both (x.send.una == 0) (on_greeting x s) (client_on_segment x s) P
    (λ t. greeting-quiet x s P (λ y a f n. (omega arith, refl)))
    (λ f.
    let Q : Heard → Type 0 = λ h. (h.from + h.len ≤ length s.payload) × (h.reply ≡ None) in
    ⊎_elim (λ u. subst Q (sym u.0) (omega arith, refl)) (λ t. subst Q (sym t.1) (omega arith, refl)) (segment-outcome x s))

pub part_within : (x : ClientBlock) (s : Said) (h : Heard) (y : ClientBlock) → (h, y) ≡ heard_open x s → h.from + h.len ≤ length s.payload
part_within x s h y e =
    let P : Heard × ClientBlock → Type 0 = λ r. r.0.from + r.0.len ≤ length s.payload in
    subst P (sym e) (open-part x s).0

pub no_reply : (x : ClientBlock) (s : Said) (h : Heard) (y : ClientBlock) (P : Ready → Type 0) → (h, y) ≡ heard_open x s → IfSome h.reply P
no_reply x s h y P e =
    let Q : Option Ready → Type 0 = λ o. IfSome o P in
    let none : h.reply ≡ None = ap (λ (r : Heard × ClientBlock). r.0.reply) e ∙ (open-part x s).1 in
    subst Q (sym none) tt

-- ---- replies
some_if : (b : Bool) (r : Ready) → is_some (cond b (Some r) None) ≡ b
some_if true r = refl
some_if false r = refl

phase-reply : (p : Phase) (x : ClientBlock) (s : Said) → is_some (heard_in p x s).0.reply ≡ (is_aborted_in p && (s.flags.ack && not s.flags.rst))
phase-reply Open x s = ap (λ (o : Option Ready). is_some o) (open-part x s).1
phase-reply Aborted x s = some_if (s.flags.ack && not s.flags.rst) (client_refusal x s.ack)
phase-reply Reset x s = refl

pub arrived-reply : (x : ClientBlock) (s : Said) → is_some (client_arrived x s).0.reply ≡ (is_aborted x && (s.flags.ack && not s.flags.rst))
unfolding client_arrived
arrived-reply x s = phase-reply x.phase x s
