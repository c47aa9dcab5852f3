-- What a client says in the rounds of a settle: where it holds nothing each segment names the window that it opens, and one that was aborted
-- only refuses.
use Rattle.std.proofs.Common.{◌≡◌, ◌≤◌, ◌<◌, ◌^◌, ◌&&◌, not, ℕ, Bool, true, false, cond, List, [], ◌++◌, Option, Some, None, is_some, Result, Ok, Err, inl, inr, refl, sym, ap, ◌∙◌, subst, arith}
use Rattle.std.proofs.lemmas.Bool.{cond_both, true≢false}
use Rattle.lard_law_view.specs.Prelude.{ClientBlock, Front, IsClientBlock, IsSendable, Phase, Place, Ready, Said, SegFault, Speaks, ToCluster, after_resend, client_ack_ready, client_after_emit, client_after_piece, client_after_timer, client_arrived, client_emitted, client_filled, client_gets, client_owed_ready, client_owes, client_piece_ready, client_rcv_wnd, client_ready_of, client_refusal, client_speaks, client_timed, client_timer, data_ready, heard_in, is_aborted_in, is_client_open, is_open_in, next_piece, resent_piece, spelled, stream_of, syn_ready, to_front}
use Rattle.lard_bound.specs.Progress.{IsWarmWord}
use Rattle.lard_client.specs.declared.phase.Phase.TheVariants.{Open, Aborted, Reset}
use Rattle.lard_client.proofs.Accepted.{arrived-bounded, arrived-ended, arrived-reply}
use Rattle.lard_history.proofs.Each.{Each, Each-append, Each-weaker}
use Rattle.lard_law_progress.proofs.Clients.{OnPhase, heard-turned, timer-turned}
use Rattle.lard_rules.specs.Client as rules
use Rattle.lard_rules.proofs.Hearing.{client-emit-keeps, client-timer-keeps}
use Rattle.lard_rules.proofs.Loops.{client_keeps}
use Rattle.lard_send.specs.declared.piece.Piece.{Piece}
use Rattle.lard_law_settles.proofs.EnoughHolding.{Keeps, arrived-keeps, emit-keeps, timer-keeps}
use Rattle.lard_law_view.proofs.Client.{arriving-continues, emitted-fair, reply-fair, timed-fair}
use Rattle.lard_law_view.proofs.Speaking.{speaks-next, speaks-resend}

-- ---- what goes out

-- a segment of connection c goes to the front end, and P is so of it
abbrev pub IsSaid : ℕ → (Said → Type 0) → Place × List ℕ → Type 0
IsSaid c P p = (p.0 ≡ Front) × ((s : Said) × (p.1 ≡ spelled c ToCluster s) × IsSendable s × P s)

abbrev pub AreSaid : ℕ → (Said → Type 0) → List (Place × List ℕ) → Type 0
AreSaid c P ps = Each (IsSaid c P) ps

said-weaker : (c : ℕ) (P Q : Said → Type 0) → ((s : Said) → P s → Q s) → (ps : List (Place × List ℕ)) → AreSaid c P ps → AreSaid c Q ps
said-weaker c P Q f ps h = Each-weaker (IsSaid c P) (IsSaid c Q) (λ p x. (x.0, (x.1.0, x.1.1, x.1.2, f x.1.0 x.1.3))) ps h

-- it names window w, and is no reset
abbrev Names : ℕ → Said → Type 0
Names w s = (s.wnd ≡ w) × (s.flags.rst ≡ false)

abbrev ReadyNames : ℕ → Option Ready → Type 0
ReadyNames w None = Unit {0}
ReadyNames w (Some r) = (r.wnd ≡ w) × (r.flags.rst ≡ false)

ready-names : (w : ℕ) (o : Option Ready) (r : Ready) → ReadyNames w o → o ≡ Some r → (r.wnd ≡ w) × (r.flags.rst ≡ false)
ready-names w o r h e = subst (ReadyNames w) e h

-- a client that holds nothing, and whose symbols are those of some bytes
record IsTalking (c w : ℕ) (x : ClientBlock) : Type 0 where
  c_is : x.c ≡ c
  wnd_is : x.wnd ≡ w
  holding : x.holding ≡ false
  held : x.held ≡ 0
  sound : IsClientBlock x
  fits : x.wnd < 2 ^ 16
  bytes : List ℕ
  speaks : Speaks x.send bytes

module _ (c w : ℕ) where
  talks-on : (x y : ClientBlock) → IsTalking c w x → Keeps x y → y.accepted ≤ 2 ^ 30 → (bytes : List ℕ) → Speaks y.send bytes → IsTalking c w y
  talks-on x y h k few bytes speaks =
      let none : y.held ≡ 0 = k.held h.holding ∙ h.held in
      let mss = k.mss in
      let wnd = k.wnd in
      let fits = h.fits in
      let some = h.sound.some_mss in
      let small = h.sound.small_mss in
      record {
        c_is = k.c ∙ h.c_is;
        wnd_is = k.wnd ∙ h.wnd_is;
        holding = k.holding ∙ h.holding;
        held = none;
        sound = record { bounded = few; held_within = omega (arith, none); some_mss = omega (arith, mss, some); small_mss = omega (arith, mss, small) };
        fits = omega (arith, wnd, fits);
        bytes = bytes;
        speaks = speaks;
      }

  -- what it may send names its window
  window-is : (x : ClientBlock) → IsTalking c w x → client_rcv_wnd x ≡ w
  window-is x h = let none = h.held in let is = h.wnd_is in omega (arith, none, is)

  piece-names : (x : ClientBlock) (p : Piece) → IsTalking c w x → ReadyNames w (Some (client_piece_ready x p))
  piece-names x p h = cond_both p.syn (syn_ready x) (data_ready x p) (λ (r : Ready). ReadyNames w (Some r)) (λ t. (window-is x h, refl)) (λ t. (window-is x h, refl))

  or-names : (x : ClientBlock) (o : Option Piece) (other : Option Ready) → IsTalking c w x → ReadyNames w other → ReadyNames w (client_ready_of x o other)
  or-names x (Some p) other h k = piece-names x p h
  or-names x None other h k = k

  emitted-names : (x : ClientBlock) → IsTalking c w x → ReadyNames w (client_emitted x)
  emitted-names x h = cond_both {A = Option Ready} (not (is_client_open x)) None (client_ready_of x (next_piece x.send) (client_owed_ready x)) (ReadyNames w) (λ t. tt)
      (λ t. or-names x (next_piece x.send) (client_owed_ready x) h (cond_both {A = Option Ready} (client_owes x) (Some (client_ack_ready x)) None (ReadyNames w) (λ u. (window-is x h, refl)) (λ u. tt)))

  timed-names : (x : ClientBlock) → IsTalking c w x → ReadyNames w (client_timed x)
  timed-names x h = cond_both {A = Option Ready} (not (is_client_open x)) None (client_ready_of x (resent_piece x.send) None) (ReadyNames w) (λ t. tt) (λ t. or-names x (resent_piece x.send) None h tt)

  -- a segment that goes out, as it is filled in by the client behind it
  said-ready : (x : ClientBlock) (r : Ready) (P : Said → Type 0) → x.c ≡ c → IsSendable (client_filled x r) → P (client_filled x r) → IsSaid c P (to_front x r)
  said-ready x r P c_is sendable p = (refl, (client_filled x r, ap (λ k. spelled k ToCluster (client_filled x r)) c_is, sendable, p))

  emit-few : (x : ClientBlock) → x.accepted ≤ 2 ^ 30 → (client_after_emit x).accepted ≤ 2 ^ 30
  emit-few x few = client-emit-keeps (λ (y : ClientBlock). y.accepted ≤ 2 ^ 30) x few few few

  emit-speaks : (x : ClientBlock) (bytes : List ℕ) → Speaks x.send bytes → Speaks (client_after_emit x).send bytes
  emit-speaks x bytes h = client-emit-keeps (λ (y : ClientBlock). Speaks y.send bytes) x h h (speaks-next x.send bytes h).0

  timer-few : (x : ClientBlock) → x.accepted ≤ 2 ^ 30 → (client_after_timer x).accepted ≤ 2 ^ 30
  timer-few x few = client-timer-keeps (λ (y : ClientBlock). y.accepted ≤ 2 ^ 30) x few few

  timer-speaks : (x : ClientBlock) (bytes : List ℕ) → Speaks x.send bytes → Speaks (client_after_timer x).send bytes
  timer-speaks x bytes h = client-timer-keeps (λ (y : ClientBlock). Speaks y.send bytes) x h (speaks-resend x.send bytes h).0

  emit-talks : (x : ClientBlock) → IsTalking c w x → IsTalking c w (client_after_emit x)
  emit-talks x h = talks-on x (client_after_emit x) h (emit-keeps x) (emit-few x h.sound.bounded) h.bytes (emit-speaks x h.bytes h.speaks)

  -- all that it says
  speaks-names : (x : ClientBlock) → IsTalking c w x → AreSaid c (Names w) (client_speaks x).0
  speaks-names x h = client_keeps (λ (y : ClientBlock) ss z. IsTalking c w y → AreSaid c (Names w) ss) (record {
    rests = λ y k. tt;
    says = λ y r ss z e later k. (
      said-ready (client_after_emit y) r (Names w) ((emit-keeps y).c ∙ k.c_is) (emitted-fair y k.bytes k.sound k.fits k.speaks r e).1 (ready-names w (client_emitted y) r (emitted-names y k) e),
      later (emit-talks y k),
    );
  }) x h

-- ---- one that is open no longer says nothing of itself

closed-none : (x : ClientBlock) → is_client_open x ≡ false → client_emitted x ≡ None
closed-none x shut = ap (λ b. cond {A = Option Ready} (not b) None (client_ready_of x (next_piece x.send) (client_owed_ready x))) shut

closed-silent : (x : ClientBlock) → is_client_open x ≡ false → (client_speaks x).0 ≡ []
closed-silent x shut = client_keeps (λ (y : ClientBlock) ss z. is_client_open y ≡ false → ss ≡ []) (record {
  rests = λ y h. refl;
  says = λ y r ss z e later h. let no : None ≡ Some r = sym (closed-none y h) ∙ e in absurd cc;
}) x shut

-- ---- turns

-- a word of a client as it is: one that is open names its window, one that was aborted refuses; and no reset has ACK
abbrev pub IsFineWord : ClientBlock → Said → Type 0
IsFineWord x s = IsWarmWord x s x.phase × (s.flags.rst ≡ true → s.flags.ack ≡ false)

-- What is known of a client within a settle.
pub record IsCalm (x : ClientBlock) : Type 0 where
  pub sound : IsClientBlock x
  pub fits : x.wnd < 2 ^ 16
  pub bytes : List ℕ
  pub speaks : Speaks x.send bytes
  pub free : x.phase ≡ Open → x.holding ≡ false
  pub held : x.holding ≡ false → x.held ≡ 0

talking : (x : ClientBlock) → IsCalm x → x.phase ≡ Open → IsTalking x.c x.wnd x
talking x h open_ = record { c_is = refl; wnd_is = refl; holding = h.free open_; held = h.held (h.free open_); sound = h.sound; fits = h.fits; bytes = h.bytes; speaks = h.speaks }

-- what names the window is fine behind the turn, where it is open still or was reset
names-fine : (x z : ClientBlock) → x.phase ≡ Open → OnPhase x.phase z.phase → z.wnd ≡ x.wnd → (s : Said) → Names x.wnd s → IsFineWord z s
names-fine x z open_ on wnd s names = (go z.phase on, λ rst. absurd (true≢false (sym rst ∙ names.1))) where
  go : (p : Phase) → OnPhase x.phase p → IsWarmWord z s p
  go Open on = names.0 ∙ sym wnd
  go Aborted (inl e) = let bad : Aborted ≡ Open = e ∙ open_ in absurd cc
  go Aborted (inr e) = let bad : Aborted ≡ Reset = e.1 in absurd cc
  go Reset on = tt

-- words stay fine
pub fine-stays : (x z : ClientBlock) → OnPhase x.phase z.phase → z.wnd ≡ x.wnd → (s : Said) → IsFineWord x s → IsFineWord z s
fine-stays x z on wnd s h = (go x.phase z.phase on h.0, h.1) where
  go : (p q : Phase) → OnPhase p q → IsWarmWord x s p → IsWarmWord z s q
  go p Reset on k = tt
  go Open Open on k = k ∙ sym wnd
  go Aborted Aborted on k = k
  go Open Aborted (inl e) k = let bad : Aborted ≡ Open = e in absurd cc
  go Open Aborted (inr e) k = let bad : Aborted ≡ Reset = e.1 in absurd cc
  go Aborted Open (inl e) k = let bad : Open ≡ Aborted = e in absurd cc
  go Aborted Open (inr e) k = let bad : Open ≡ Reset = e.1 in absurd cc
  go Reset Open (inl e) k = let bad : Open ≡ Reset = e in absurd cc
  go Reset Open (inr e) k = let bad : Open ≡ Reset = e.1 in absurd cc
  go Reset Aborted (inl e) k = let bad : Aborted ≡ Reset = e in absurd cc
  go Reset Aborted (inr e) k = let bad : Aborted ≡ Reset = e.1 in absurd cc

-- none is sent of what there is none
none-said : (c : ℕ) (P : Said → Type 0) (x : ClientBlock) (o : Option Ready) (ss : List (Place × List ℕ)) → o ≡ None → AreSaid c P ss → AreSaid c P (rules.station_ready_of x o ++ ss)
none-said c P x o ss none h = subst (λ (q : Option Ready). AreSaid c P (rules.station_ready_of x q ++ ss)) (sym none) h

-- a reset without ACK is fine of one that was aborted
refusal-fine : (z : ClientBlock) → z.phase ≡ Aborted → (s : Said) → (s.flags.rst ≡ true) × (s.flags.ack ≡ false) → IsFineWord z s
refusal-fine z is s h = (subst (IsWarmWord z s) (sym is) h.0, λ rst. h.1)

abbrev ReadyRefuses : Option Ready → Type 0
ReadyRefuses None = Unit {0}
ReadyRefuses (Some r) = (r.flags.rst ≡ true) × (r.flags.ack ≡ false)

reply-refuses : (x : ClientBlock) (s : Said) → x.phase ≡ Aborted → ReadyRefuses (client_arrived x s).0.reply
unfolding client_arrived
reply-refuses x s is = subst (λ (p : Phase). ReadyRefuses (heard_in p x s).0.reply) (sym is)
    (cond_both {A = Option Ready} (s.flags.ack && not s.flags.rst) (Some (client_refusal x s.ack)) None ReadyRefuses (λ t. (refl, refl)) (λ t. tt))

no-some : (o : Option Ready) → is_some o ≡ false → o ≡ None
no-some None e = refl
no-some (Some r) e = absurd (true≢false e)

-- A segment comes.
module _ (x : ClientBlock) (h : IsCalm x) (s : Said) (fits : s.ack < 2 ^ 32) where
  abbrev y : ClientBlock
  y = (client_arrived x s).1

  abbrev z : ClientBlock
  z = (client_speaks (client_arrived x s).1).1

  abbrev Says : List (Place × List ℕ) → Type 0
  Says ss = AreSaid x.c (IsFineWord z) ss

  silent-in : (p : Phase) → x.phase ≡ p → is_aborted_in p ≡ false → (client_arrived x s).0.reply ≡ None
  silent-in p is none =
      let reply : is_some (client_arrived x s).0.reply ≡ false = arrived-reply x s ∙ ap (λ (q : Phase). is_aborted_in q && (s.flags.ack && not s.flags.rst)) is ∙ ap (λ b. b && (s.flags.ack && not s.flags.rst)) none in
      no-some (client_arrived x s).0.reply reply

  open-says : x.phase ≡ Open → Says (rules.station_ready_of y (client_arrived x s).0.reply ++ (client_speaks y).0)
  open-says open_ =
      let t = heard-turned x s in
      let on : IsTalking x.c x.wnd y = talks-on x.c x.wnd x y (talking x h open_) (arrived-keeps x s) (arrived-bounded x s h.sound.bounded) h.bytes (arriving-continues x h.bytes s h.speaks).0 in
      none-said x.c (IsFineWord z) y (client_arrived x s).0.reply (client_speaks y).0 (silent-in Open open_ refl)
      (said-weaker x.c (Names x.wnd) (IsFineWord z) (names-fine x z open_ t.takes.phase t.takes.wnd) (client_speaks y).0 (speaks-names x.c x.wnd y on))

  -- nothing of itself
  closed-says : is_client_open x ≡ false → (ss : List (Place × List ℕ)) → Says ss → Says (ss ++ (client_speaks y).0)
  closed-says shut ss k =
      let same : y ≡ x = (arrived-ended x s shut).0 in
      let none : (client_speaks y).0 ≡ [] = closed-silent y (ap is_client_open same ∙ shut) in
      Each-append (IsSaid x.c (IsFineWord z)) ss (client_speaks y).0 k (subst Says (sym none) tt)

  reply-says : x.phase ≡ Aborted → (o : Option Ready) → (client_arrived x s).0.reply ≡ o → ReadyRefuses o → Says (rules.station_ready_of y o)
  reply-says is None e k = tt
  reply-says is (Some r) e k =
      let left : z.phase ≡ Aborted = aborted-stays x.phase z.phase is (heard-turned x s).takes.phase in
      (said-ready x.c x.wnd y r (IsFineWord z) (arrived-keeps x s).c (reply-fair (stream_of x.send h.bytes) x s r fits e).1 (refusal-fine z left (client_filled y r) k), tt) where
        aborted-stays : (p q : Phase) → p ≡ Aborted → OnPhase p q → q ≡ Aborted
        aborted-stays p q is (inl e) = e ∙ is
        aborted-stays p q is (inr e) = let bad : Aborted ≡ Open = sym is ∙ e.0 in absurd cc

  pub segment-says : Says (rules.station_ready_of y (client_arrived x s).0.reply ++ (client_speaks y).0)
  segment-says = go x.phase refl where
    go : (p : Phase) → x.phase ≡ p → Says (rules.station_ready_of y (client_arrived x s).0.reply ++ (client_speaks y).0)
    go Open is = open-says is
    go Aborted is = closed-says (ap is_open_in is) (rules.station_ready_of y (client_arrived x s).0.reply) (reply-says is (client_arrived x s).0.reply refl (reply-refuses x s is))
    go Reset is = closed-says (ap is_open_in is) (rules.station_ready_of y (client_arrived x s).0.reply) (subst (λ (o : Option Ready). Says (rules.station_ready_of y o)) (sym (silent-in Reset is refl)) tt)

-- all that it sends where a segment comes
pub gets-says : (x : ClientBlock) (given : Result Said SegFault) → IsCalm x → ((s : Said) → given ≡ Ok s → s.ack < 2 ^ 32) → AreSaid x.c (IsFineWord (client_gets x given).0) (client_gets x given).1.segments
gets-says x (Err fault) h fits = tt
gets-says x (Ok s) h fits = segment-says x h s (fits s refl)

-- Its timer fires.
module _ (x : ClientBlock) (h : IsCalm x) where
  abbrev u : ClientBlock
  u = client_after_timer x

  abbrev v : ClientBlock
  v = (client_speaks (client_after_timer x)).1

  abbrev Fires : List (Place × List ℕ) → Type 0
  Fires ss = AreSaid x.c (IsFineWord v) ss

  open-fires : x.phase ≡ Open → Fires (rules.station_ready_of u (client_timed x) ++ (client_speaks u).0)
  open-fires open_ =
      let t : IsTalking x.c x.wnd x = talking x h open_ in
      let on : IsTalking x.c x.wnd u = talks-on x.c x.wnd x u t (timer-keeps x) (timer-few x.c x.wnd x h.sound.bounded) h.bytes (timer-speaks x.c x.wnd x h.bytes h.speaks) in
      let turned = timer-turned x in
      said-weaker x.c (Names x.wnd) (IsFineWord v) (names-fine x v open_ turned.takes.phase turned.takes.wnd) (rules.station_ready_of u (client_timed x) ++ (client_speaks u).0)
      (Each-append (IsSaid x.c (Names x.wnd)) (rules.station_ready_of u (client_timed x)) (client_speaks u).0 (first t (client_timed x) refl) (speaks-names x.c x.wnd u on)) where
        first : IsTalking x.c x.wnd x → (o : Option Ready) → client_timed x ≡ o → AreSaid x.c (Names x.wnd) (rules.station_ready_of u o)
        first t None e = tt
        first t (Some r) e = (said-ready x.c x.wnd u r (Names x.wnd) (timer-keeps x).c (timed-fair x h.bytes h.sound h.fits h.speaks r e).1 (ready-names x.wnd (client_timed x) r (timed-names x.c x.wnd x t) e), tt)

  closed-fires : is_client_open x ≡ false → Fires (rules.station_ready_of u (client_timed x) ++ (client_speaks u).0)
  closed-fires shut =
      let none : client_timed x ≡ None = ap (λ b. cond {A = Option Ready} (not b) None (client_ready_of x (resent_piece x.send) None)) shut in
      let same : u ≡ x = ap (λ b. cond {A = ClientBlock} (not b) x (client_after_piece (record x { send = after_resend x.send }) (resent_piece x.send) x)) shut in
      let quiet : (client_speaks u).0 ≡ [] = closed-silent u (ap is_client_open same ∙ shut) in
      none-said x.c (IsFineWord v) u (client_timed x) (client_speaks u).0 none (subst Fires (sym quiet) tt)

  pub fires-says : AreSaid x.c (IsFineWord (client_timer x).0) (client_timer x).1.segments
  fires-says = go (is_client_open x) refl x.phase refl where
    go : (b : Bool) → is_client_open x ≡ b → (p : Phase) → x.phase ≡ p → Fires (rules.station_ready_of u (client_timed x) ++ (client_speaks u).0)
    go b open_ Open is = open-fires is
    go b open_ Aborted is = closed-fires (ap is_open_in is)
    go b open_ Reset is = closed-fires (ap is_open_in is)
