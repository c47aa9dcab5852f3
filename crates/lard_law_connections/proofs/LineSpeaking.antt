-- What an endpoint says at the end of its turn: the last segment tells RCV.NXT and the window, and nothing is owed then.
use Rattle.std.proofs.Common.{◌≡◌, ℕ, zero, suc, ◌+◌, ◌-◌, ◌^◌, ◌<◌, ◌≤◌, ◌==◌, min, nat_lt, Bool, true, false, cond, List, [], ◌∷◌, ◌++◌, length, drop, arith, sym, ap, ◌∙◌, refl, subst}
use Rattle.std.specs.Prelude.{Option, Some, None, IfSome, OnSome}
use Rattle.std.proofs.lemmas.Bool.{cond_both, eqb-true}
use Rattle.std.proofs.lemmas.List.{length-take}
use Rattle.lard_law_view.specs.Prelude.{Client, ControlBlock, IsControlBlock, IsSendable, Place, Ready, Said, Sending, ServeEnv, ToClient, ack_ready, advanced, after_emit, after_next, after_owed, after_piece, after_resend, after_timer, again_fin, again_len, awaited, byte_piece, decoded, emits, emits_left, emitted, filled, may_send, next_fin, next_len, next_piece, owed_ready, owes, own_mss, piece_ready, rcv_nxt, rcv_wnd, ready_of, receive_room, resent_piece, retried, seq_add, speaks, spelled, symbols, syn_piece, timed, to_client, told, unsent_bytes}
use Rattle.lard_law_connections.proofs.LineHearing.{GoesOn, goes-same, goes-then}
use Rattle.lard_law_connections.specs.Line.{said_of}
use Rattle.lard_endpoint.proofs.Ends.{emit-falls}
use Rattle.lard_endpoint.proofs.Sound.{after_emit-sound, after_timer-sound}
use Rattle.lard_rules.specs.Serving as serving
use Rattle.lard_segment.proofs.Again.{again}
use Rattle.lard_send.specs.declared.piece.Piece.{Piece}
use Rattle.lard_law_view.proofs.Pieces.{next-carries, resent-carries}
use Rattle.lard_law_view.proofs.Speaking.{next-moves, resend-moves}
use Rattle.lard_law_view.proofs.EndpointSends.{AllTo}

-- What holds of every endpoint: the number with which it begins is told in a SYN alone, so it has to fit only until that is acknowledged.
pub record IsSound (b : ControlBlock) : Type 0 where
  pub block : IsControlBlock b
  pub number : b.send.una ≡ 0 → b.send.iss < 2 ^ 32

-- ---- a segment that leaves

next-goes : (s : Sending) → GoesOn s (after_next s)
next-goes s = subst (GoesOn s) (sym (next-moves s)) (record { iss = refl; una = omega arith; total = refl; finished = refl })

resend-goes : (s : Sending) → GoesOn s (after_resend s)
resend-goes s = subst (GoesOn s) (sym (resend-moves s)) (record { iss = refl; una = omega arith; total = refl; finished = refl })

-- It tells RCV.NXT and the window, and the endpoint keeps that window.
pub record Tells (b : ControlBlock) (r : Ready) (d : ControlBlock) : Type 0 where
  pub sendable : IsSendable (filled d r)
  pub ack : r.ack.0 ≡ rcv_nxt b
  pub window : r.wnd ≡ rcv_wnd b
  pub last : d.last_window ≡ rcv_wnd b

mss-some : (b : Bool) → IfSome (own_mss b) (λ m. 1 ≤ m)
mss-some true = omega arith
mss-some false = tt

mss-small : (b : Bool) → IfSome (own_mss b) (λ m. m ≤ 1460)
mss-small true = omega arith
mss-small false = tt

seq-fits : (b : Bool) (iss n : ℕ) → (b ≡ true → iss < 2 ^ 32) → cond b iss (seq_add iss n) < 2 ^ 32
seq-fits true iss n h = h refl
seq-fits false iss n h = omega arith

-- a SYN is sent, and sent again, only until it is acknowledged
next-begins : (s : Sending) (p : Piece) → s.una ≤ s.nxt → next_piece s ≡ Some p → p.syn ≡ true → s.una ≡ 0
next-begins s p sent e = subst Begins e
    (cond_both (s.nxt == 0) (Some syn_piece) (cond (may_send s) next None) Begins
    (λ t f. let zero : s.nxt ≡ 0 = eqb-true s.nxt 0 t in omega (arith, zero, sent))
    (λ t. cond_both (may_send s) next None Begins (λ m f. let no : false ≡ true = f in absurd cc) (λ m. tt))) where
      Begins : Option Piece → Type 0
      Begins o = IfSome o (λ q. q.syn ≡ true → s.una ≡ 0)

      next : Option Piece
      next = Some (byte_piece s (s.nxt - 1) (next_len s) (next_fin s))

again-begins : (s : Sending) (p : Piece) → resent_piece s ≡ Some p → p.syn ≡ true → s.una ≡ 0
again-begins s p e = subst Begins e
    (cond_both (s.una == 0) (Some syn_piece) (cond (nat_lt s.una s.nxt) again last) Begins
    (λ t f. eqb-true s.una 0 t)
    (λ t. cond_both (nat_lt s.una s.nxt) again last Begins (λ u f. let no : false ≡ true = f in absurd cc)
    (λ u. cond_both (nat_lt s.nxt (symbols s)) probe None Begins (λ v f. let no : false ≡ true = f in absurd cc) (λ v. tt)))) where
      Begins : Option Piece → Type 0
      Begins o = IfSome o (λ q. q.syn ≡ true → s.una ≡ 0)

      again : Option Piece
      again = Some (byte_piece s (s.una - 1) (again_len s) (again_fin s))

      probe : Option Piece
      probe = Some (byte_piece s (s.nxt - 1) (min (unsent_bytes s) 1) (unsent_bytes s == 0))

      last : Option Piece
      last = cond (nat_lt s.nxt (symbols s)) probe None

-- of an endpoint whose sending half may have moved on
piece-tells : (b c : ControlBlock) (p : Piece) → c.recv ≡ b.recv → (p.syn ≡ true → c.send.iss < 2 ^ 32) → p.len ≤ 1460 → Tells b (piece_ready c p) (told c)
piece-tells b c p e iss small =
    let size = length-take p.len (drop (p.at - (c.send.total - length c.send.rest)) c.send.rest) in
    record {
      sendable = record {
        seq_fits = seq-fits p.syn c.send.iss (1 + p.at) iss;
        ack_fits = omega arith;
        wnd_fits = omega arith;
        some_mss = mss-some p.syn;
        small_mss = mss-small p.syn;
        small_payload = omega arith;
        no_ack = λ f. absurd (cc);
      };
      ack = ap awaited e;
      window = ap receive_room e;
      last = ap receive_room e;
    }

ack-tells : (b c : ControlBlock) → c.recv ≡ b.recv → Tells b (ack_ready c) (told c)
ack-tells b c e = record {
  sendable = record { seq_fits = omega arith; ack_fits = omega arith; wnd_fits = omega arith; some_mss = tt; small_mss = tt; small_payload = omega arith; no_ack = λ f. absurd (cc) };
  ack = ap awaited e;
  window = ap receive_room e;
  last = ap receive_room e;
}

abbrev AllTell : ControlBlock → Option Ready → ControlBlock → Type 0
AllTell b o d = IfSome o (λ r. Tells b r d)

module _ (b : ControlBlock) (h : IsSound b) where
  unless_reset : (t : Bool) (o : Option Ready) (d : ControlBlock) → AllTell b o d → AllTell b (cond t None o) (cond t b d)
  unless_reset true o d f = tt
  unless_reset false o d f = f

  owed-tells : (t : Bool) → AllTell b (cond t (Some (ack_ready (advanced b))) None) (cond t (told (advanced b)) (advanced b))
  owed-tells true = ack-tells b (advanced b) refl
  owed-tells false = tt

  next-tells : (o : Option Piece) → next_piece b.send ≡ o → AllTell b (ready_of (advanced b) o (owed_ready (advanced b))) (after_piece (advanced b) o (after_owed (advanced b)))
  next-tells (Some p) e = piece-tells b (advanced b) p refl
      (λ f. let n = h.number (next-begins b.send p h.block.sending.sent e f) in omega (arith, n, (next-goes b.send).iss))
      (next-carries b.send p h.block.sending e).small
  next-tells None e = owed-tells (owes (advanced b))

  resend-tells : (o : Option Piece) → resent_piece b.send ≡ o → AllTell b (ready_of (retried b) o None) (after_piece (retried b) o (retried b))
  resend-tells (Some p) e = piece-tells b (retried b) p refl
      (λ f. let n = h.number (again-begins b.send p e f) in omega (arith, n, (resend-goes b.send).iss)) (resent-carries b.send p h.block.sending e).small
  resend-tells None e = tt

  emitted-tells : AllTell b (emitted b) (after_emit b)
  emitted-tells = unless_reset b.reset (ready_of (advanced b) (next_piece b.send) (owed_ready (advanced b))) (after_piece (advanced b) (next_piece b.send) (after_owed (advanced b))) (next-tells (next_piece b.send) refl)

  timed-tells : AllTell b (timed b) (after_timer b)
  timed-tells = unless_reset b.reset (ready_of (retried b) (resent_piece b.send) None) (after_piece (retried b) (resent_piece b.send) (retried b)) (resend-tells (resent_piece b.send) refl)

-- ---- what speaking leaves

pub record LeavesAs (b d : ControlBlock) : Type 0 where
  pub send : GoesOn b.send d.send
  pub recv : d.recv ≡ b.recv
  pub reset_is : d.reset ≡ b.reset

leaves-same : (b : ControlBlock) → LeavesAs b b
leaves-same b = record { send = goes-same b.send; recv = refl; reset_is = refl }

leaves-then : (b c d : ControlBlock) → LeavesAs b c → LeavesAs c d → LeavesAs b d
leaves-then b c d g h = record { send = goes-then b.send c.send d.send g.send h.send; recv = h.recv ∙ g.recv; reset_is = h.reset_is ∙ g.reset_is }

piece-leaves : (b d other : ControlBlock) (p : Option Piece) → LeavesAs b d → LeavesAs b other → LeavesAs b (after_piece d p other)
piece-leaves b d other (Some p) h k = record { send = h.send; recv = h.recv; reset_is = h.reset_is }
piece-leaves b d other None h k = k

emit-leaves : (b : ControlBlock) → LeavesAs b (after_emit b)
emit-leaves b =
    let sent : LeavesAs b (advanced b) = record { send = next-goes b.send; recv = refl; reset_is = refl } in
    let said : LeavesAs b (told (advanced b)) = record { send = next-goes b.send; recv = refl; reset_is = refl } in
    cond_both b.reset b (after_piece (advanced b) (next_piece b.send) (after_owed (advanced b))) (LeavesAs b) (λ _. leaves-same b)
    (λ _. piece-leaves b (advanced b) (after_owed (advanced b)) (next_piece b.send) sent (cond_both (owes (advanced b)) (told (advanced b)) (advanced b) (LeavesAs b) (λ _. said) (λ _. sent)))

timer-leaves : (b : ControlBlock) → LeavesAs b (after_timer b)
timer-leaves b =
    let sent : LeavesAs b (retried b) = record { send = resend-goes b.send; recv = refl; reset_is = refl } in
    cond_both b.reset b (after_piece (retried b) (resent_piece b.send) (retried b)) (LeavesAs b) (λ _. leaves-same b)
    (λ _. piece-leaves b (retried b) (retried b) (resent_piece b.send) sent sent)

sound-then : (b d : ControlBlock) → IsSound b → IsControlBlock d → LeavesAs b d → IsSound d
sound-then b d h k l = record {
  block = k;
  number = λ z. let up = l.send.una in let n = h.number (omega (arith, up, z)) in omega (arith, l.send.iss, n);
}

-- ---- what the client was told

-- The last segment told RCV.NXT and a window, which is 0 where there is no room.
pub record IsTold (o : Option Said) (b : ControlBlock) : Type 0 where
  pub said : Said
  pub is : o ≡ Some said
  pub ack : said.ack ≡ rcv_nxt b
  pub window : said.wnd ≡ b.last_window
  pub shut : rcv_wnd b ≡ 0 → b.last_window ≡ 0

-- what the last of these segments says to client c, or else what was said before them
abbrev pub heard_by : ℕ → Option Said → List (Place × List ℕ) → Option Said
heard_by c o [] = o
heard_by c o (s ∷ ss) = heard_by c (said_of (decoded s.1 c ToClient)) ss

-- a segment that was told is read as it was written
tells-told : (c : ℕ) (b d : ControlBlock) (r : Ready) → d.recv ≡ b.recv → Tells b r d → IsTold (said_of (decoded (spelled c ToClient (filled d r)) c ToClient)) d
tells-told c b d r e t = record {
  said = filled d r;
  is = ap said_of (again c ToClient (filled d r) t.sendable);
  ack = t.ack ∙ sym (ap awaited e);
  window = t.window ∙ sym t.last;
  shut = λ z. t.last ∙ sym (ap receive_room e) ∙ z;
}

-- it stays so while what came and the window that was told do
pub told-on : (o : Option Said) (b d : ControlBlock) → d.recv ≡ b.recv → d.last_window ≡ b.last_window → IsTold o b → IsTold o d
told-on o b d e l k = record {
  said = k.said;
  is = k.is;
  ack = k.ack ∙ sym (ap awaited e);
  window = k.window ∙ sym l;
  shut = λ z. l ∙ k.shut (sym (ap receive_room e) ∙ z);
}

timer-window : (b : ControlBlock) → timed b ≡ None → (after_timer b).last_window ≡ b.last_window
timer-window b e = go b.reset (resent_piece b.send) e where
  go : (t : Bool) (p : Option Piece) → cond {A = Option Ready} t None (ready_of (retried b) p None) ≡ None → (cond t b (after_piece (retried b) p (retried b))).last_window ≡ b.last_window
  go true p q = refl
  go false (Some p) q = cc
  go false None q = refl

-- ---- until nothing more is emitted

pub record HasSpoken (c : ℕ) (o : Option Said) (b : ControlBlock) (given : List (Place × List ℕ) × ControlBlock) : Type 0 where
  pub to : AllTo (Client c) given.0
  pub sound : IsSound given.1
  pub left : LeavesAs b given.1
  pub told_is : IsTold (heard_by c o given.0) given.1
  pub rests : emitted given.1 ≡ None

module _ (c : ℕ) where
  emits-spoken : (n : ℕ) (o : Option Said) (b : ControlBlock) → IsSound b → emits_left b ≤ n → (emitted b ≡ None → IsTold o b) → HasSpoken c o b (emits c n b)
  unfolding emits
  emits-spoken zero o b h le k = go (emitted b) refl where
    go : (e : Option Ready) → emitted b ≡ e → HasSpoken c o b ([], b)
    go None e = record { to = tt; sound = h; left = leaves-same b; told_is = k e; rests = e }
    go (Some r) e =
        let falls : OnSome (emitted b) (emits_left (after_emit b) < emits_left b) = emit-falls b (after_emit b) (emitted b) h.block refl refl in
        let less : emits_left (after_emit b) < emits_left b = subst (λ (x : Option Ready). OnSome x (emits_left (after_emit b) < emits_left b)) e falls in
        absurd (omega arith)
  emits-spoken (suc n) o b h le k = go (λ p. emits-spoken n p (after_emit b) (sound-then b (after_emit b) h (after_emit-sound b h.block) (emit-leaves b))) (emitted b) refl where
    go : ((p : Option Said) → emits_left (after_emit b) ≤ n → (emitted (after_emit b) ≡ None → IsTold p (after_emit b)) → HasSpoken c p (after_emit b) (emits c n (after_emit b)))
        → (e : Option Ready) → emitted b ≡ e → HasSpoken c o b (elim e [
          | None ↦ ([], b)
          | Some r ↦ (to_client c (after_emit b) r ∷ (emits c n (after_emit b)).0, (emits c n (after_emit b)).1)
        ])
    go later None e = record { to = tt; sound = h; left = leaves-same b; told_is = k e; rests = e }
    go later (Some r) e =
        let falls : OnSome (emitted b) (emits_left (after_emit b) < emits_left b) = emit-falls b (after_emit b) (emitted b) h.block refl refl in
        let less : emits_left (after_emit b) < emits_left b = subst (λ (x : Option Ready). OnSome x (emits_left (after_emit b) < emits_left b)) e falls in
        let t : Tells b r (after_emit b) = subst (λ (x : Option Ready). AllTell b x (after_emit b)) e (emitted-tells b h) in
        let l = emit-leaves b in
        let p : Option Said = said_of (decoded (spelled c ToClient (filled (after_emit b) r)) c ToClient) in
        let d : IsTold p (after_emit b) = tells-told c b (after_emit b) r l.recv t in
        let rest = later p (omega arith) (λ _. d) in
        record { to = (refl, rest.to); sound = rest.sound; left = leaves-then b (after_emit b) (emits c n (after_emit b)).1 l rest.left; told_is = rest.told_is; rests = rest.rests }

  pub speaks-spoken : (o : Option Said) (b : ControlBlock) → IsSound b → (emitted b ≡ None → IsTold o b) → HasSpoken c o b (speaks c b)
  speaks-spoken o b h k = emits-spoken (emits_left b) o b h (omega arith) k

-- what the timer sends, and then the rest
module _ (env : ServeEnv) where
  abbrev timer_given : ControlBlock → Option Ready → List (Place × List ℕ) × ControlBlock
  timer_given b o = (serving.serving_ready_of env (after_timer b) o ++ (speaks env.c (after_timer b)).0, (speaks env.c (after_timer b)).1)

  pub timer-spoken : (o : Option Said) (b : ControlBlock) → IsSound b → IsTold o b → HasSpoken env.c o b (timer_given b (timed b))
  timer-spoken o b h k = go (timed b) refl (timed-tells b h) where
    l : LeavesAs b (after_timer b)
    l = timer-leaves b

    rest : (p : Option Said) → IsTold p (after_timer b) → HasSpoken env.c p (after_timer b) (speaks env.c (after_timer b))
    rest p t = speaks-spoken env.c p (after_timer b) (sound-then b (after_timer b) h (after_timer-sound b h.block) l) (λ _. t)

    go : (e : Option Ready) → timed b ≡ e → AllTell b e (after_timer b) → HasSpoken env.c o b (timer_given b e)
    go None q t =
        let s = rest o (told-on o b (after_timer b) l.recv (timer-window b q) k) in
        record { to = s.to; sound = s.sound; left = leaves-then b (after_timer b) (speaks env.c (after_timer b)).1 l s.left; told_is = s.told_is; rests = s.rests }
    go (Some r) q t =
        let d = tells-told env.c b (after_timer b) r l.recv t in
        let s = rest (said_of (decoded (spelled env.c ToClient (filled (after_timer b) r)) env.c ToClient)) d in
        record { to = (refl, s.to); sound = s.sound; left = leaves-then b (after_timer b) (speaks env.c (after_timer b)).1 l s.left; told_is = s.told_is; rests = s.rests }
