-- What comes of a segment at a client that is open and established: nothing, or one acknowledgement with its last number, which is news
-- where the segment had what the endpoint does not know to be taken.
use Rattle.std.proofs.Common.{◌≡◌, ◌<◌, ◌≤◌, ◌+◌, ◌^◌, ◌==◌, ◌&&◌, ◌||◌, nat_lt, not, ℕ, Bool, true, false, cond, length, Option, Some, None, ⊎_elim, refl, sym, ap, ◌∙◌, subst, arith}
use Rattle.std.proofs.lemmas.Bool.{cases_lt, eqb-true}
use Rattle.std.proofs.lemmas.Bool.Decides.{nat_tests}
use Rattle.lard_law_view.specs.Prelude.{ClientBlock, MAX_STREAM_BYTES, Ready, Said, Station, client_ack_ready, client_arrived, client_on_segment, client_owed_ready, client_owes, client_rcv_nxt, client_rcv_wnd, client_ready_of, is_client_open, is_open_in, next_piece, one_if, seg_len, seq_add, seq_offset, symbols}
use Rattle.lard_bound.specs.Nears.{IsAnswer, IsUntold}
use Rattle.lard_bound.specs.Seats.{SeatNow}
use Rattle.lard_bound.specs.Spots.{EndpointSymbols, Spot}
use Rattle.lard_bound.specs.Units.{symbols_taken}
use Rattle.lard_client.specs.declared.phase.Phase.TheVariants.{Open, Reset}
use Rattle.lard_law_progress.proofs.AnswersClientGiven.{IsCalm, IsReply, Matters}
use Rattle.lard_law_progress.proofs.AnswersClientHears.{IsListening, at-next, refused, resets-at, syn-owed, takes-next, took, took-taken}
use Rattle.lard_law_progress.proofs.AnswersClientKeeps.{IsSame, heard-few, heard-same, heard-sound}
use Rattle.lard_law_progress.proofs.AnswersClientSays.{HasSaidAll}
use Rattle.lard_law_progress.proofs.Clients.{Takes, arrived-takes}
use Rattle.lard_law_progress.proofs.Hearing.{IsInTalk, arrives, data-owed, plain-tells}
use Rattle.lard_law_progress.proofs.Silence.{plain-parts}
use Rattle.lard_send.specs.declared.piece.Piece.{Piece}
use Rattle.lard_seq.proofs.Laws.{add-offset, offset-add}

-- behind the turn it goes on, and knows of no more
pub record GoesOn (x y : ClientBlock) : Type 0 where
  pub phase : y.phase ≡ x.phase
  pub una : y.send.una ≡ x.send.una
  pub symbols_ : symbols y.send ≡ symbols x.send

module _ (st : Station) (s : Said) (calm : IsCalm st st.client) (is_open_ : st.client.phase ≡ Open) (established : (st.client.send.una == 0) ≡ false) (z : SeatNow) (reply : IsReply st st.client z s) where
  abbrev x : ClientBlock
  x = st.client

  abbrev y : ClientBlock
  y = (client_on_segment x s).1

  above : (n : ℕ) → 1 ≤ n → (n == 0) ≡ false
  above n e = grind (arith, nat_tests, e)

  under : (a b : ℕ) → b ≤ a → nat_lt a b ≡ false
  under a b e = grind (arith, nat_tests, e)

  within : (a b : ℕ) → a < b → nat_lt a b ≡ true
  within a b e = grind (arith, nat_tests, e)

  took-is : symbols_taken x ≡ took x
  took-is = took-taken x established

  window : client_rcv_wnd x ≡ x.wnd
  window = let h : x.held ≡ 0 = calm.held is_open_ in omega (arith, h)

  listens : IsListening x
  listens =
      let w = window in let a : 1 ≤ x.wnd = calm.some in let f : symbols_taken x + x.wnd ≤ 2 ^ 31 = calm.far in let t = took-is in
      let i : x.send.irs ≡ st.iss = calm.irs established in let l : st.iss < 2 ^ 32 = calm.iss_small in
      record { established = established; wide = omega (arith, w, a); far = omega (arith, w, f, t); irs_small = omega (arith, i, l) }

  -- it owed nothing, and its window was told as an open one
  quiet : (x.owed ≡ false) × ((x.last_window == 0) ≡ false)
  quiet =
      let w : nat_lt 0 (client_rcv_wnd x) ≡ true = within 0 (client_rcv_wnd x) listens.wide in
      let one = by-open (is_client_open x) (ap is_open_in is_open_) calm.none in
      let two = by-piece (next_piece x.send) one in
      parts (not (x.send.una == 0)) x.owed (x.last_window == 0) (nat_lt 0 (client_rcv_wnd x)) (ap not established) w (by-owed (client_owes x) two)
    where
      by-open : (t : Bool) → t ≡ true → cond {A = Option Ready} (not t) None (client_ready_of x (next_piece x.send) (client_owed_ready x)) ≡ None → client_ready_of x (next_piece x.send) (client_owed_ready x) ≡ None
      by-open true e f = f
      by-open false e f = absurd (let bad : false ≡ true = e in cc)

      by-piece : (p : Option Piece) → client_ready_of x p (client_owed_ready x) ≡ None → client_owed_ready x ≡ None
      by-piece (Some p) f = absurd cc
      by-piece None f = f

      by-owed : (t : Bool) → cond {A = Option Ready} t (Some (client_ack_ready x)) None ≡ None → t ≡ false
      by-owed true f = absurd cc
      by-owed false f = refl

      parts : (p o l w : Bool) → p ≡ true → w ≡ true → (p && (o || (l && w))) ≡ false → (o ≡ false) × (l ≡ false)
      parts true true l w e f g = absurd (let bad : true ≡ false = g in cc)
      parts true false true w e f g = absurd (let bad : true ≡ false = sym f ∙ g in cc)
      parts true false false w e f g = (refl, refl)
      parts false o l w e f g = absurd (let bad : false ≡ true = e in cc)

  pub same : IsSame x y
  same = heard-same x s (calm.holding is_open_)

  -- so it says an acknowledgement where one is owed
  pub said-all : GoesOn x y → HasSaidAll y
  said-all goes =
      let w1 : y.wnd ≡ x.wnd = same.wnd in let w2 : y.held ≡ x.held = same.held in let h : x.held ≡ 0 = calm.held is_open_ in let a : 1 ≤ x.wnd = calm.some in
      let n : y.send.nxt ≡ x.send.nxt = same.nxt in let all : symbols x.send ≤ x.send.nxt = calm.all is_open_ established in let sy : symbols y.send ≡ symbols x.send = goes.symbols_ in record {
        sound = heard-sound x s calm.sound;
        open_ = ap is_open_in (goes.phase ∙ is_open_);
        established = ap (λ n. not (n == 0)) goes.una ∙ ap not established;
        all = omega (arith, n, all, sy);
        told_ = ap (λ n. n == 0) same.last ∙ quiet.1;
        wide = omega (arith, w1, w2, h, a);
      }

  -- what is said of it then
  pub y-window : client_rcv_wnd y ≡ x.wnd
  y-window = let w1 : y.wnd ≡ x.wnd = same.wnd in let w2 : y.held ≡ x.held = same.held in let h : x.held ≡ 0 = calm.held is_open_ in omega (arith, w1, w2, h)

  -- its acknowledgement tells how many symbols it took
  pub y-tells : seq_offset (client_rcv_nxt y) st.iss ≡ took y
  y-tells =
      let f : symbols_taken x + x.wnd ≤ 2 ^ 31 = calm.far in
      let t = took-is in
      let few : y.accepted ≤ 2 ^ 31 = heard-few x s (omega (arith, f, t)) in
      let one = most y.eof in
      ap (λ n. seq_offset (seq_add n (took y)) st.iss) (same.irs ∙ calm.irs established) ∙ offset-add st.iss (took y) calm.iss_small (omega (arith, few, one))
    where
      most : (q : Bool) → one_if q ≤ 1
      most true = omega arith
      most false = omega arith

  -- ---- a refusal is not answered

  pub unanswered : GoesOn x y → s.flags.rst ≡ true → s.flags.ack ≡ false → y.owed ≡ true → ⊥
  unanswered goes rst ack owed =
      let h = reply.refuses rst ack in
      let number : s.seq ≡ seq_add x.send.irs h.1 = h.2 ∙ ap (λ n. seq_add n h.1) (sym (calm.irs established)) in
      let most : h.1 ≤ took x = let m : h.1 ≤ symbols_taken x = h.3 in let t = took-is in omega (arith, m, t) in
      ⊎_elim
      (λ (e : y.phase ≡ Reset). let bad : Reset ≡ Open = sym e ∙ goes.phase ∙ is_open_ in cc)
      (λ (e : y ≡ x). let bad : true ≡ false = sym owed ∙ ap (λ (z : ClientBlock). z.owed) e ∙ quiet.0 in cc)
      (refused x s listens h.0 rst h.1 number most)

  -- ---- what the endpoint does not know to be taken

  number-is : s.seq ≡ seq_add st.iss (seq_offset s.seq st.iss)
  number-is = sym (add-offset s.seq st.iss reply.seq_small calm.iss_small)

  talk : Matters z → s.flags.ack ≡ true → IsInTalk x s
  talk bound acks = record {
    open_ = is_open_;
    established = established;
    known = under x.send.nxt (seq_offset s.ack x.send.iss) (reply.acks is_open_ established bound acks);
    wide = above (client_rcv_wnd x) listens.wide;
  }

  arrives-is : Matters z → s.flags.ack ≡ true → client_arrived x s ≡ client_on_segment x s
  arrives-is bound acks = arrives x s (talk bound acks)

  more-taken : Matters z → s.flags.ack ≡ true → took x ≤ took y
  more-taken bound acks =
      let t : Takes x y = subst (λ r. Takes x r.1) (arrives-is bound acks) (arrived-takes x s).0 in
      let a : x.accepted ≤ y.accepted = t.accepted in
      let e = ends-up x.eof y.eof t.eof in
      omega (arith, a, e)
    where
      ends-up : (a b : Bool) → (a ≡ true → b ≡ true) → one_if a ≤ one_if b
      ends-up true true on = omega arith
      ends-up true false on = absurd (let bad : false ≡ true = on refl in cc)
      ends-up false true on = omega arith
      ends-up false false on = omega arith

  module _ (t : Spot) (e : EndpointSymbols) (iss : t.iss ≡ st.iss) (knows : e.una ≤ symbols_taken x) (bound : Matters z) (h : IsUntold t e s) where
    first : seq_offset s.seq st.iss ≡ e.una
    first = ap (seq_offset s.seq) (sym iss) ∙ h.from

    behind : e.una < seq_offset s.seq st.iss + seg_len s
    behind = subst (λ n. e.una < seq_offset s.seq n + seg_len s) iss h.to

    of-syn : s.flags.syn ≡ true → (y.owed ≡ true) × (e.una < took y)
    of-syn syn =
        let none : e.una ≡ 0 = eqb-true e.una 0 (sym h.syn ∙ syn) in
        (syn-owed x s listens syn h.no_rst, omega (arith, none))

    some-length : (n : ℕ) (syn fin : Bool) → syn ≡ false → 1 ≤ n + cond syn 1 0 + cond fin 1 0 → (((n == 0) && not fin) ≡ false) × (1 ≤ n + one_if fin)
    some-length n true fin no_ some = absurd (let bad : true ≡ false = no_ in cc)
    some-length n false true no_ some = (never (n == 0), omega arith) where
      never : (t : Bool) → (t && false) ≡ false
      never true = refl
      never false = refl
    some-length n false false no_ some = (first-one n (omega (arith, some)), omega (arith, some)) where
      first-one : (n : ℕ) → 1 ≤ n → ((n == 0) && true) ≡ false
      first-one n e = grind (arith, nat_tests, e)

    of-data : s.flags.syn ≡ false → (y.owed ≡ true) × (e.una < took y)
    of-data no_syn =
        let f = first in
        let b = behind in
        let some = some-length (length s.payload) s.flags.syn s.flags.fin no_syn (omega (arith, f, b)) in
        let owed = data-owed x s (talk bound h.acks) (record { acks = h.acks; no_syn = no_syn; no_rst = h.no_rst; some = some.0 }) in
        let is_owed : y.owed ≡ true = ap (λ r. r.1.owed) (sym (arrives-is bound h.acks)) ∙ owed.0 in
        let m = more-taken bound h.acks in
        let t = took-is in
        (is_owed, ⊎_elim (λ (l : e.una < symbols_taken x). omega (arith, l, m, t)) (λ (l : symbols_taken x ≤ e.una). at-once some.1 (omega (arith, l, knows))) (cases_lt e.una (symbols_taken x)))
      where
        at-once : 1 ≤ length s.payload + one_if s.flags.fin → e.una ≡ symbols_taken x → e.una < took y
        at-once some at =
            let f = first in
            let b = behind in
            let t = took-is in
            let going : x.eof ≡ false = not-ended x.eof refl in
            let one : one_if x.eof ≡ 0 = ap one_if going in
            let most : seq_offset s.seq st.iss + length s.payload ≤ 1 + MAX_STREAM_BYTES = reply.most h.no_rst no_syn (let o = first in let b = behind in omega (arith, o, b)) in
            let next = takes-next x s listens (record {
              at = number-is ∙ ap (seq_add st.iss) (f ∙ at ∙ t) ∙ ap (λ n. seq_add n (took x)) (sym (calm.irs established));
              acks = h.acks;
              no_syn = no_syn;
              no_rst = h.no_rst;
              known_ack = under x.send.nxt (seq_offset s.ack x.send.iss) (reply.acks is_open_ established bound h.acks);
              going = going;
              some = some;
              most = omega (arith, most, f, at, t, one);
            }) in
            omega (arith, next, at, t)
          where
            not-ended : (q : Bool) → x.eof ≡ q → q ≡ false
            not-ended false is = refl
            not-ended true is = absurd (let l : seq_offset s.seq st.iss + seg_len s ≤ symbols_taken x = reply.last h.no_rst is (let o = first in let b = behind in omega (arith, o, b)) in let b = behind in omega (arith, l, b, at))

    -- it owes an acknowledgement, of more than that
    pub untold-owed : (y.owed ≡ true) × (e.una < took y)
    untold-owed = go s.flags.syn refl where
      go : (q : Bool) → s.flags.syn ≡ q → (y.owed ≡ true) × (e.una < took y)
      go true is = of-syn is
      go false is = of-data is

  -- ---- an acknowledgement of what it does not know to be taken is a unit

  pub answer-tells : (t : Spot) → Matters z → t.iss ≡ st.iss → t.isn ≡ x.send.iss → t.una ≡ x.send.una → IsAnswer t (symbols_taken x) s → GoesOn x y → ⊥
  answer-tells t bound iss isn una h goes =
      let at : s.seq ≡ client_rcv_nxt x = number-is ∙ ap (seq_add st.iss) (ap (seq_offset s.seq) (sym iss) ∙ h.number ∙ took-is) ∙ ap (λ n. seq_add n (took x)) (sym (calm.irs established)) in
      let acks : s.flags.ack ≡ true = (plain-parts s.flags.syn s.flags.fin s.flags.rst s.flags.ack (length s.payload) h.plain).3 in
      let up : x.send.una < seq_offset s.ack x.send.iss = subst (λ n. x.send.una < seq_offset s.ack n) isn (subst (λ n. n < seq_offset s.ack t.isn) una h.more) in
      let tells = plain-tells x s (talk bound acks) h.plain (at-next x s listens at) (within x.send.una (seq_offset s.ack x.send.iss) up) in
      let now : y.send.una ≡ seq_offset s.ack x.send.iss = ap (λ r. r.1.send.una) (sym (arrives-is bound acks)) ∙ tells in
      let old : y.send.una ≡ x.send.una = goes.una in
      omega (arith, now, old, up)

  -- and so is a reset at the number that it awaits
  pub reset-tells : (t : Spot) → t.iss ≡ st.iss → s.flags.rst ≡ true → seq_offset s.seq t.iss ≡ symbols_taken x → GoesOn x y → ⊥
  reset-tells t iss rst number goes =
      let at : s.seq ≡ client_rcv_nxt x = number-is ∙ ap (seq_add st.iss) (ap (seq_offset s.seq) (sym iss) ∙ number ∙ took-is) ∙ ap (λ n. seq_add n (took x)) (sym (calm.irs established)) in
      let bad : Reset ≡ Open = sym (resets-at x s listens rst at) ∙ goes.phase ∙ is_open_ in cc
