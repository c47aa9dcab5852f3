-- What a client says fits it, and goes on fitting.
use Rattle.std.proofs.Common.{◌≡◌, ◌≤◌, ◌<◌, ◌+◌, ◌-◌, ◌^◌, ◌==◌, ◌&&◌, ◌||◌, nat_lt, max, eq-eqb, not, ℕ, Bool, true, false, cond, List, drop, Option, Some, None, refl, sym, ap, ◌∙◌, subst, arith}
use Rattle.std.proofs.lemmas.Bool.{and_parts, cond_both, eqb-false, eqb-true, ltb-true}
use Rattle.std.proofs.lemmas.List.{length-take}
use Rattle.lard_law_view.specs.Prelude.{ClientBlock, Front, Has, IsClientBlock, IsSendable, IsSending, Letter, Place, Ready, Said, Sending, Speaks, ToCluster, acknowledged_bytes, after_ack, after_next, after_resend, client_ack_ready, client_after_emit, client_after_piece, client_emitted, client_filled, client_owes, client_piece_ready, client_ready_of, client_speaks, client_told, data_ready, is_client_open, is_newer, may_send, moved_up, next_fin, next_len, next_piece, one_if, seg_len, send_closed, seq_add, seq_offset, spelled, symbols, syn_ready, windowed}
use Rattle.lard_client.proofs.Windows.{emitted-tells}
use Rattle.lard_laws.specs.WindowsWords.{FitsClient, Starts}
use Rattle.lard_laws.proofs.WindowsPieces.{IsSent, next-is}
use Rattle.lard_history.proofs.Each.{Each}
use Rattle.lard_law_view.proofs.ClientAlike.{IsLike, emit-alike}
use Rattle.lard_rules.proofs.Halves.{KeptBySending, client-emit}
use Rattle.lard_rules.proofs.Loops.{client_keeps}
use Rattle.lard_rules.proofs.Sides.{ack-side, next-side, resend-side}
use Rattle.lard_send.specs.declared.piece.Piece.{Piece}
use Rattle.lard_endpoint.proofs.Sound.{after_next-sound}
use Rattle.lard_seq.proofs.Laws.{offset-add}
use Rattle.lard_law_view.proofs.Client.{emitted-fair}
use Rattle.lard_law_view.proofs.Speaking.{speaks-next}
use Rattle.lard_rules.proofs.Hearing.{client-emit-keeps}

-- ---- a sending half later

-- it has no fewer symbols from the same first number on, sent no fewer and has no fewer acknowledged; and where it sent its SYN alone
-- until that was acknowledged, that goes on
pub record IsSince (s t : Sending) : Type 0 where
  pub iss : t.iss ≡ s.iss
  pub more : symbols s ≤ symbols t
  pub sent : s.nxt ≤ t.nxt
  pub acked : s.una ≤ t.una
  pub first : (s.una ≡ 0 → s.nxt ≤ 1) → t.una ≡ 0 → t.nxt ≤ 1

pub since-self : (s : Sending) → IsSince s s
since-self s = record { iss = refl; more = omega arith; sent = omega arith; acked = omega arith; first = λ h. h }

pub since-then : (s t u : Sending) → IsSince s t → IsSince t u → IsSince s u
since-then s t u h k = record {
  iss = k.iss ∙ h.iss;
  more = let a = h.more in let b = k.more in omega (arith, a, b);
  sent = let a = h.sent in let b = k.sent in omega (arith, a, b);
  acked = let a = h.acked in let b = k.acked in omega (arith, a, b);
  first = λ f. k.first (h.first f);
}

-- by its fields
side-since : (s t : Sending) → t.iss ≡ s.iss → t.total ≡ s.total → t.finished ≡ s.finished → s.nxt ≤ t.nxt → s.una ≤ t.una → ((s.una ≡ 0 → s.nxt ≤ 1) → t.una ≡ 0 → t.nxt ≤ 1) → IsSince s t
side-since s t first total finished sent acked alone = record { iss = first; more = (let f = ap one_if finished in omega (arith, total, f)); sent = sent; acked = acked; first = alone }

abbrev AckMoves : Sending → Sending → Type 0
AckMoves s t = (t.nxt ≡ s.nxt) × (s.una ≤ t.una)

abbrev SentMoves : Sending → Sending → Type 0
SentMoves s t = (s.nxt ≤ t.nxt) × (t.una ≡ s.una) × ((s.una ≡ 0 → s.nxt ≤ 1) → t.una ≡ 0 → t.nxt ≤ 1)

-- an ACK sends nothing
acks-since : (s : Sending) (ack seq wnd : ℕ) → IsSince s (after_ack s ack seq wnd)
acks-since s ack seq wnd =
    let k = ack-side s ack seq wnd in
    let m = moves in
    side-since s (after_ack s ack seq wnd) k.first k.total k.finished (let n = m.0 in omega (arith, n)) m.1 (λ f z. let le = f (let up = m.1 in omega (arith, up, z)) in let n = m.0 in omega (arith, le, n))
  where
    moves : AckMoves s (after_ack s ack seq wnd)
    moves =
        let offset = seq_offset ack s.iss in
        let up = moved_up s offset in
        let still : AckMoves s s = (refl, omega arith) in
        let k : AckMoves s up = moved (nat_lt s.una offset) refl in
        cond_both (nat_lt s.nxt offset) s (cond ((s.una == 0) && (offset == 0)) s (windowed up (s.una == 0) seq ack wnd)) (AckMoves s) (λ t. still) (λ t.
        cond_both ((s.una == 0) && (offset == 0)) s (windowed up (s.una == 0) seq ack wnd) (AckMoves s) (λ u. still) (λ u.
        cond_both ((s.una == 0) || is_newer up seq ack) (record up { wnd = wnd; wl1 = seq; wl2 = ack }) up (AckMoves s) (λ v. k) (λ v. k)))
      where
        moved : (t : Bool) → nat_lt s.una (seq_offset ack s.iss) ≡ t → AckMoves s (cond t (record s { una = seq_offset ack s.iss; rest = drop ((seq_offset ack s.iss - 1) - (s.una - 1)) s.rest }) s)
        moved true e = (refl, let up = ltb-true s.una (seq_offset ack s.iss) e in omega (arith, up))
        moved false e = (refl, omega arith)

nexts-since : (s : Sending) → IsSince s (after_next s)
nexts-since s = let k = next-side s in let m = moves (s.nxt == 0) refl (may_send s) refl in side-since s (after_next s) k.first k.total k.finished m.0 (let u = m.1 in omega (arith, u)) m.2 where
  moves : (a : Bool) → (s.nxt == 0) ≡ a → (m : Bool) → may_send s ≡ m → SentMoves s (cond a (record s { nxt = 1 }) (cond m (record s { nxt = s.nxt + next_len s + one_if (next_fin s) }) s))
  moves true e m f = ((let z : s.nxt ≡ 0 = eqb-true s.nxt 0 e in omega (arith, z)), refl, λ f z. omega arith)
  moves false e true f = (omega arith, refl, λ g z. absurd (let none : (s.una == 0) ≡ true = eq-eqb s.una 0 z in none-sent (s.una == 0) none (and_parts (not (s.una == 0)) _ f).0)) where
    none-sent : (u : Bool) → u ≡ true → not u ≡ true → ⊥
    none-sent true a b = let bad : false ≡ true = b in cc
    none-sent false a b = let bad : false ≡ true = a in cc
  moves false e false f = (omega arith, refl, λ g. g)

resends-since : (s : Sending) → IsSince s (after_resend s)
resends-since s = let k = resend-side s in let m = moves in side-since s (after_resend s) k.first k.total k.finished m.0 (let u = m.1 in omega (arith, u)) m.2 where
  moves : SentMoves s (after_resend s)
  moves =
      let last : Sending = cond (nat_lt s.nxt (symbols s)) (record s { nxt = s.nxt + 1 }) s in
      let still : SentMoves s s = (omega arith, refl, λ f. f) in
      cond_both (s.una == 0) (record s { nxt = max s.nxt 1 }) (cond (nat_lt s.una s.nxt) s last) (SentMoves s)
      (λ t. (omega arith, refl, λ f z. let le = f z in omega (arith, le)))
      (λ t. cond_both (nat_lt s.una s.nxt) s last (SentMoves s) (λ u. still)
      (λ u. cond_both (nat_lt s.nxt (symbols s)) (record s { nxt = s.nxt + 1 }) s (SentMoves s) (λ v. (omega arith, refl, λ f z. absurd (eqb-false s.una 0 t z))) (λ v. still)))

closes-since : (s : Sending) → IsSince s (send_closed s)
closes-since s = record { iss = refl; more = go s.finished; sent = omega arith; acked = omega arith; first = λ f. f } where
  go : (b : Bool) → 1 + s.total + one_if b ≤ 1 + s.total + 1
  go true = omega arith
  go false = omega arith

pub since-kept : (s : Sending) → KeptBySending (IsSince s)
since-kept s = record {
  acks = λ t ack seq wnd h. since-then s t (after_ack t ack seq wnd) h (acks-since t ack seq wnd);
  nexts = λ t h. since-then s t (after_next t) h (nexts-since t);
  resends = λ t h. since-then s t (after_resend t) h (resends-since t);
  closes = λ t h. since-then s t (send_closed t) h (closes-since t);
  learns = λ t irs mss h. record { iss = h.iss; more = h.more; sent = h.sent; acked = h.acked; first = h.first };
}

-- ---- a client later

-- its sending half is, its window is the same, and it is open no more where it was not
pub record IsLater (x y : ClientBlock) : Type 0 where
  pub since : IsSince x.send y.send
  pub window : y.wnd ≡ x.wnd
  pub closed : is_client_open x ≡ false → is_client_open y ≡ false

pub later-self : (x : ClientBlock) → IsLater x x
later-self x = record { since = since-self x.send; window = refl; closed = λ e. e }

pub later-then : (x y z : ClientBlock) → IsLater x y → IsLater y z → IsLater x z
later-then x y z h k = record { since = since-then x.send y.send z.send h.since k.since; window = k.window ∙ h.window; closed = λ e. k.closed (h.closed e) }

pub starts-later : (x y : ClientBlock) → IsLater x y → Starts x → Starts y
starts-later x y later h = record { window = (let w = h.window in let same = later.window in omega (arith, w, same)); first = later.since.first h.first }

pub fits-later : (c : ℕ) (x y : ClientBlock) (ls ms : List Letter) → IsLater x y → ((l : Letter) → Has l ls → Has l ms) → (s : Said) → FitsClient c x ls s → FitsClient c y ms s
fits-later c x y ls ms later goes s h = record {
  within = λ rst. let w : seq_offset s.seq y.send.iss + seg_len s ≤ symbols x.send = subst (λ (i : ℕ). seq_offset s.seq i + seg_len s ≤ symbols x.send) (sym later.since.iss) (h.within rst) in let more = later.since.more in omega (arith, w, more);
  sent = λ rst. let w : seq_offset s.seq y.send.iss + seg_len s ≤ x.send.nxt = subst (λ (i : ℕ). seq_offset s.seq i + seg_len s ≤ x.send.nxt) (sym later.since.iss) (h.sent rst) in let more = later.since.sent in omega (arith, w, more);
  closed = λ rst. later.closed (h.closed rst);
  bare = h.bare;
  refuses = λ rst ack. let r = h.refuses rst ack in record { letter = r.letter; said = r.said; has = goes r.letter r.has; to = r.to; read = r.read; acks = r.acks; plain = r.plain; same = r.same };
}

-- ---- a piece's segment

pub client-ends : (x : ClientBlock) (p : Piece) (t : Sending) (most : ℕ) (d : ClientBlock) → x.send.iss < 2 ^ 32 → IsSent t p → t.nxt ≤ most → most < 2 ^ 32
    → seq_offset (client_filled d (client_piece_ready x p)).seq x.send.iss + seg_len (client_filled d (client_piece_ready x p)) ≤ most
client-ends x p t most d small h le few = go p.syn refl where
  fin-one : (b : Bool) → cond b 1 0 ≡ one_if b
  fin-one true = refl
  fin-one false = refl

  go : (b : Bool) → p.syn ≡ b → seq_offset (client_filled d (cond b (syn_ready x) (data_ready x p))).seq x.send.iss + seg_len (client_filled d (cond b (syn_ready x) (data_ready x p))) ≤ most
  go true e = let some = h.syn e in omega (arith, some, le)
  go false e =
      let bytes = h.bytes e in
      let fin = fin-one p.fin in
      let len = length-take p.len (drop (p.at - acknowledged_bytes d.send) d.send.rest) in
      let at : seq_offset (seq_add x.send.iss (1 + p.at)) x.send.iss ≡ 1 + p.at = offset-add x.send.iss (1 + p.at) small (omega (arith, bytes, le, few)) in
      omega (arith, at, fin, bytes, len, le)

pub symbols-small : (s : Sending) → IsSending s → symbols s < 2 ^ 32
symbols-small s h = let m : s.total ≤ 2 ^ 30 = h.most in go s.finished m where
  go : (b : Bool) → s.total ≤ 2 ^ 30 → 1 + s.total + one_if b < 2 ^ 32
  go true m = omega (arith, m)
  go false m = omega (arith, m)

-- ---- what goes out of itself

-- it can be sent, is no reset, and has no number beyond so many that were sent
pub record Says (iss most : ℕ) (s : Said) : Type 0 where
  pub sendable : IsSendable s
  pub plain : s.flags.rst ≡ false
  pub within : seq_offset s.seq iss + seg_len s ≤ most

says-more : (iss n m : ℕ) → n ≤ m → (s : Said) → Says iss n s → Says iss m s
says-more iss n m le s h = record { sendable = h.sendable; plain = h.plain; within = let w = h.within in omega (arith, w, le) }

abbrev pub Word : ℕ → (Said → Type 0) → Place × List ℕ → Type 0
Word c P p = (p.0 ≡ Front) × ((s : Said) × (p.1 ≡ spelled c ToCluster s) × P s)

-- what is known of a client in its turn
pub record IsTurning (c iss : ℕ) (x : ClientBlock) : Type 0 where
  pub numbered : x.c ≡ c
  pub sound : IsClientBlock x
  pub wide : x.wnd < 2 ^ 16
  pub bytes : List ℕ
  pub speaks : Speaks x.send bytes
  pub first : x.send.iss ≡ iss

pub from-like : (x y : ClientBlock) → IsLike x y → y.accepted ≤ 2 ^ 30 → IsClientBlock x → IsClientBlock y
from-like x y like few h = record { bounded = few; held_within = like.3 h.held_within; some_mss = let s = h.some_mss in omega (arith, s, like.2); small_mss = let s = h.small_mss in omega (arith, s, like.2) }

module _ (c iss : ℕ) where
  abbrev T : ClientBlock → Type 0
  T x = IsTurning c iss x

  emit-turns : (x : ClientBlock) → T x → T (client_after_emit x)
  emit-turns x h =
      let like = emit-alike x in
      let few = h.sound.bounded in
      let side = next-side x.send in
      let P : ClientBlock → Type 0 = λ y. Speaks y.send h.bytes × (y.send.iss ≡ iss) in
      let still : P x = (h.speaks, h.first) in
      let all : P (client_after_emit x) = client-emit-keeps P x still still ((speaks-next x.send h.bytes h.speaks).0, side.first ∙ h.first) in
      record {
        numbered = like.0.0 ∙ h.numbered;
        sound = from-like x (client_after_emit x) like.0 (omega (arith, few, like.1)) h.sound;
        wide = let w = h.wide in omega (arith, w, like.0.1);
        bytes = h.bytes;
        speaks = all.0;
        first = all.1;
      }

  emitted-within : (x : ClientBlock) (r : Ready) → T x → client_emitted x ≡ Some r → seq_offset (client_filled (client_after_emit x) r).seq iss + seg_len (client_filled (client_after_emit x) r) ≤ (client_after_emit x).send.nxt
  emitted-within x r h e = go (not (is_client_open x)) (next_piece x.send) refl (client_owes x) e where
    small : x.send.iss < 2 ^ 32
    small = h.speaks.number

    few : symbols x.send < 2 ^ 32
    few = symbols-small x.send h.speaks.sound

    next-few : (after_next x.send).nxt < 2 ^ 32
    next-few =
        let side = next-side x.send in
        let q : (after_next x.send).nxt ≤ symbols (after_next x.send) = (after_next-sound x.send h.speaks.sound).queued in
        let f = ap one_if side.finished in
        let n = side.total in
        omega (arith, q, f, n, few)

    by-first : (d : ClientBlock) (r : Ready) (most : ℕ) → seq_offset (client_filled d r).seq x.send.iss + seg_len (client_filled d r) ≤ most → seq_offset (client_filled d r).seq iss + seg_len (client_filled d r) ≤ most
    by-first d r most le = subst (λ (i : ℕ). seq_offset (client_filled d r).seq i + seg_len (client_filled d r) ≤ most) h.first le

    go : (t : Bool) (p : Option Piece) → next_piece x.send ≡ p → (o : Bool)
        → cond {A = Option Ready} t None (client_ready_of x p (cond {A = Option Ready} o (Some (client_ack_ready x)) None)) ≡ Some r
        → seq_offset (client_filled (cond t x (client_after_piece (record x { send = after_next x.send }) p (cond o (client_told x) x))) r).seq iss + seg_len (client_filled (cond t x (client_after_piece (record x { send = after_next x.send }) p (cond o (client_told x) x))) r)
        ≤ (cond t x (client_after_piece (record x { send = after_next x.send }) p (cond o (client_told x) x))).send.nxt
    go true p q o k = absurd (let no : None ≡ Some r = k in cc)
    go false (Some p) q o k =
        let d : ClientBlock = client_told (record x { send = after_next x.send }) in
        let same : client_piece_ready x p ≡ r = cc in
        subst (λ (r : Ready). seq_offset (client_filled d r).seq iss + seg_len (client_filled d r) ≤ (after_next x.send).nxt) same
        (by-first d (client_piece_ready x p) (after_next x.send).nxt (client-ends x p (after_next x.send) (after_next x.send).nxt d small (next-is x.send p q) (omega arith) next-few))
    go false None q true k =
        let same : client_ack_ready x ≡ r = cc in
        subst (λ (r : Ready). seq_offset (client_filled (client_told x) r).seq iss + seg_len (client_filled (client_told x) r) ≤ x.send.nxt) same
        (by-first (client_told x) (client_ack_ready x) x.send.nxt (let q : x.send.nxt ≤ symbols x.send = h.speaks.sound.queued in let at : seq_offset (seq_add x.send.iss x.send.nxt) x.send.iss ≡ x.send.nxt = offset-add x.send.iss x.send.nxt small (omega (arith, q, few)) in omega (arith, at)))
    go false None q false k = absurd (let no : None ≡ Some r = k in cc)

  says-emitted : (x : ClientBlock) (r : Ready) → T x → client_emitted x ≡ Some r → Says iss (client_after_emit x).send.nxt (client_filled (client_after_emit x) r)
  says-emitted x r h e = record { sendable = (emitted-fair x h.bytes h.sound h.wide h.speaks r e).1; plain = (emitted-tells x r e).no_rst; within = emitted-within x r h e }

  -- all that it says in a turn, and how it is then
  pub record Spoke (x : ClientBlock) (ss : List (Place × List ℕ)) (y : ClientBlock) : Type 0 where
    pub turning : T y
    pub since : IsSince x.send y.send
    pub words : Each (Word c (Says iss y.send.nxt)) ss

  pub speaks-words : (x : ClientBlock) → T x → Spoke x (client_speaks x).0 (client_speaks x).1
  speaks-words x = client_keeps (λ (x : ClientBlock) ss y. T x → Spoke x ss y) (record {
    rests = λ x h. record { turning = h; since = since-self x.send; words = tt };
    says = λ x r ss y e later h.
        let l : Spoke (client_after_emit x) ss y = later (emit-turns x h) in
        let k : T (client_after_emit x) = emit-turns x h in
        let t : Said = client_filled (client_after_emit x) r in
        record {
          turning = l.turning;
          since = since-then x.send (client_after_emit x).send y.send (client-emit _ (since-kept x.send) x (since-self x.send)) l.since;
          words = ((refl, (t, ap (λ n. spelled n ToCluster t) k.numbered, says-more iss (client_after_emit x).send.nxt y.send.nxt l.since.sent t (says-emitted x r h e))), l.words);
        };
  }) x
