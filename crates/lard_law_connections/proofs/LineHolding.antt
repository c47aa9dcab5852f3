-- An endpoint that the front end has, between two steps and while its requests are read.
use Rattle.std.proofs.Common.{◌≡◌, ◌⊎◌, ℕ, zero, suc, ◌+◌, ◌^◌, ◌≤◌, Bool, true, false, cond, nat_lt, ◌==◌, ◌&&◌, ◌||◌, not, List, [], ◌∷◌, ◌++◌, length, append-nil, append_assoc, Option, Some, None, Ok, inl, inr, ⊎_elim, arith, refl, sym, ap, ◌∙◌, subst}
use Rattle.std.proofs.lemmas.Bool.{and_parts, cond_both, ltb-false}
use Rattle.std.proofs.lemmas.Bool.Decides.{nat_tests}
use Rattle.std.proofs.lemmas.List.{length-drop}
use Rattle.lard_law_view.specs.Prelude.{Client, ControlBlock, Ending, Found, MayMove, Place, Reading, Ready, Rec, Received, Said, ServeEnv, Service, Step, Turn, Verdict, advanced, answer, answer_code, answered, block_at, closed_behind, closes, consuming, cut_of, discarding_on, emitted, end_reason, ended_at_fin, final_of, finishing, front_reads, good_path, is_clear, is_closed, limit_said, may_end, may_freeze, may_read, next_piece, one_if, owed_ready, owes, queueing, rcv_nxt, rcv_wnd, reading_left, reading_turn, reads_block, reads_found, ready_of, rested, runs_on, seg_len, serving_consumed, serving_settled, serving_told, speaks, speaks_symbols, spoken, symbols, targeted, with_service}
use Rattle.lard_base.specs.declared.place.Reason.TheVariants.{Limit}
use Rattle.lard_base.specs.declared.place.Via.TheVariants.{Own}
use Rattle.lard_block.specs.declared.block.Found.TheVariants as found
use Rattle.lard_law_connections.proofs.LineHearing.{freezes-still, is_reset, is_reset-is}
use Rattle.lard_law_connections.proofs.LineSpeaking.{HasSpoken, IsSound, IsTold, heard_by, speaks-spoken}
use Rattle.lard_law_connections.specs.Line.{leaves}
use Rattle.lard_endpoint.proofs.Silence.{emit-none}
use Rattle.lard_endpoint.proofs.Sound.{queueing-sound}
use Rattle.lard_history.proofs.Each.{Each, Each-append}
use Rattle.lard_journal.specs.declared.rec.Rec.TheVariants as rec
use Rattle.lard_request.specs.declared.verdict.Code.TheVariants as code
use Rattle.lard_request.specs.declared.verdict.Verdict.TheVariants.{Fault}
use Rattle.lard_rules.specs.declared.places.Ending.TheVariants as ending
use Rattle.lard_rules.specs.Loop as loop
use Rattle.lard_rules.proofs.Saying.{speaks-done}
use Rattle.lard_law_view.proofs.EndpointSends.{AllTo, speaks-to, speaks_symbols-to}
use Rattle.lard_rules.proofs.Endings.{answered-keeps, at-fin-keeps, settled-keeps}

-- ---- between steps

-- All that may be said was said, and the last segment told RCV.NXT and whether there is room.
pub record IsHeld (o : Option Said) (b : ControlBlock) : Type 0 where
  pub sound : IsSound b
  pub told_is : IsTold o b
  pub open_ : b.reset ≡ false
  pub rests : emitted b ≡ None

-- one that waits may be frozen, too
pub record IsWaiting (o : Option Said) (b : ControlBlock) : Type 0 where
  pub held : IsHeld o b
  pub freezes : may_freeze b ≡ true

-- ---- which segment resets it: the one by which the journal sees it leave

window-test : (wnd last : ℕ) → (wnd ≡ 0 → last ≡ 0) → ((last == 0) && nat_lt 0 wnd) ≡ false → nat_lt 0 wnd ≡ nat_lt 0 last
window-test wnd last f e = grind (arith, nat_tests, f)

second-false : (a b : Bool) → (a || b) ≡ false → b ≡ false
second-false true b e = cc
second-false false b e = e

window-told : (o : Option Said) (b : ControlBlock) → IsHeld o b → nat_lt 0 (rcv_wnd b) ≡ nat_lt 0 b.last_window
window-told o b h =
    let quiet : owes b ≡ false = (emit-none b h.open_ h.rests).0 in
    window-test (rcv_wnd b) b.last_window h.told_is.shut (second-false b.owed ((b.last_window == 0) && nat_lt 0 (rcv_wnd b)) quiet)

pub reset-leaves : (o : Option Said) (b : ControlBlock) (s : Said) → IsHeld o b → leaves o (Ok s) ≡ is_reset b s
reset-leaves o b s h =
    let t = h.told_is in
    ap (λ x. leaves x (Ok s)) t.is
    ∙ (λ i. s.flags.rst && ((s.seq == t.ack i) && ((seg_len s == 0) || nat_lt 0 (t.window i))))
    ∙ ap (λ x. s.flags.rst && ((s.seq == rcv_nxt b) && ((seg_len s == 0) || x))) (sym (window-told o b h))
    ∙ sym (is_reset-is b s)

-- ---- while its requests are read

-- what reading notes: responses, and the reset at the stream limit
abbrev pub IsRead : Rec → Type 0
IsRead (rec.Served place c r code size via) = Unit {0}
IsRead (rec.Reset place c total) = Unit {0}
IsRead _ = ⊥

-- An ACK is owed, or the client was told what is so; unless the client reset it.
pub record IsReady (o : Option Said) (b : ControlBlock) : Type 0 where
  pub sound : IsSound b
  pub quiet : b.reset ≡ false → (b.owed ≡ true) ⊎ IsTold o b

pub ready-quiet : (o : Option Said) (b : ControlBlock) → IsReady o b → b.reset ≡ false → emitted b ≡ None → IsTold o b
ready-quiet o b h open_ e = ⊎_elim (λ (w : b.owed ≡ true). absurd (owing b.owed ((b.last_window == 0) && nat_lt 0 (rcv_wnd b)) w (emit-none b open_ e).0)) (λ (t : IsTold o b). t) (h.quiet open_) where
  owing : (a x : Bool) → a ≡ true → (a || x) ≡ false → ⊥
  owing true x p q = cc
  owing false x p q = cc

-- one that awaits the same, and has no less room
told-wider : (o : Option Said) (b d : ControlBlock) → rcv_nxt d ≡ rcv_nxt b → rcv_wnd b ≤ rcv_wnd d → d.last_window ≡ b.last_window → IsTold o b → IsTold o d
told-wider o b d e w l t = record { said = t.said; is = t.is; ack = t.ack ∙ sym e; window = t.window ∙ sym l; shut = λ z. l ∙ t.shut (omega arith) }

still-quiet : (o : Option Said) (b d : ControlBlock) → rcv_nxt d ≡ rcv_nxt b → rcv_wnd b ≤ rcv_wnd d → d.last_window ≡ b.last_window → d.owed ≡ b.owed → d.reset ≡ b.reset
    → (b.reset ≡ false → (b.owed ≡ true) ⊎ IsTold o b) → d.reset ≡ false → (d.owed ≡ true) ⊎ IsTold o d
still-quiet o b d e w l same reset q r = ⊎_elim (λ (owed : b.owed ≡ true). inl (same ∙ owed)) (λ (t : IsTold o b). inr (told-wider o b d e w l t)) (q (sym reset ∙ r))

module _ (o : Option Said) where
  consuming-ready : (b : ControlBlock) (n : ℕ) → IsReady o b → IsReady o (consuming b n)
  consuming-ready b n h =
      let size = length-drop n b.recv.unread in
      let r = h.sound.block.received in
      let got = r.received in
      let within = r.within in
      let buffered = r.buffered in
      record {
        sound = record {
          block = record {
            received = record { received = got; buffered = omega arith; within = omega arith; dropped = λ d. let e = r.dropped d in omega arith };
            sending = h.sound.block.sending;
            same_irs = h.sound.block.same_irs;
          };
          number = h.sound.number;
        };
        quiet = still-quiet o b (consuming b n) refl (omega arith) refl refl refl h.quiet;
      }

  queueing-ready : (b : ControlBlock) (bytes : List ℕ) → b.send.finished ≡ false → b.send.total + length bytes ≤ 2 ^ 30 → IsReady o b → IsReady o (queueing b bytes)
  queueing-ready b bytes open_ fits h = record {
    sound = record { block = queueing-sound b bytes open_ fits h.sound.block; number = h.sound.number };
    quiet = still-quiet o b (queueing b bytes) refl (omega arith) refl refl refl h.quiet;
  }

  one-most : (f : Bool) → one_if f ≤ 1
  one-most true = omega arith
  one-most false = omega arith

  finishing-ready : (b : ControlBlock) → IsReady o b → IsReady o (finishing b)
  finishing-ready b h =
      let s = h.sound.block.sending in
      let queued : b.send.nxt ≤ symbols b.send = s.queued in
      let one = one-most b.send.finished in
      record {
        sound = record {
          block = record {
            received = h.sound.block.received;
            sending = record { sent = s.sent; queued = omega arith; kept = s.kept; most = s.most; some_mss = s.some_mss; small_mss = s.small_mss };
            same_irs = h.sound.block.same_irs;
          };
          number = h.sound.number;
        };
        quiet = still-quiet o b (finishing b) refl (omega arith) refl refl refl h.quiet;
      }

  discarding-ready : (b : ControlBlock) → IsReady o b → IsReady o (discarding_on b)
  discarding-ready b h =
      let r = h.sound.block.received in
      record {
        sound = record {
          block = record {
            received = record { received = r.received; buffered = omega arith; within = omega arith; dropped = λ d. omega arith };
            sending = h.sound.block.sending;
            same_irs = h.sound.block.same_irs;
          };
          number = h.sound.number;
        };
        quiet = still-quiet o b (discarding_on b) refl (omega arith) refl refl refl h.quiet;
      }

  closed-ready : (v : Verdict) (b : ControlBlock) → IsReady o b → IsReady o (closed_behind v b)
  closed-ready v b h = cond_both (closes v) (finishing (discarding_on b)) b (IsReady o) (λ t. finishing-ready (discarding_on b) (discarding-ready b h)) (λ t. h)

  -- ---- the loop

  -- the endpoint is ready, and nothing but reading was noted behind these records
  pub record Serves (first : List Rec) (w : Service) : Type 0 where
    pub ready : IsReady o w.block
    pub read : List Rec
    pub notes_are : w.notes ≡ first ++ read
    pub notes : Each IsRead read

  module _ (env : ServeEnv) (small : env.stream ≤ 2 ^ 30) (first : List Rec) where
    -- one more record of reading
    more-serves : (w v : Service) (r : Rec) → IsReady o v.block → v.notes ≡ w.notes ++ r ∷ [] → IsRead r → Serves first w → Serves first v
    more-serves w v r ready is read h = record {
      ready = ready;
      read = h.read ++ r ∷ [];
      notes_are = is ∙ ap (λ (rs : List Rec). rs ++ r ∷ []) h.notes_are ∙ append_assoc first h.read (r ∷ []);
      notes = Each-append IsRead h.read (r ∷ []) h.notes (read, tt);
    }

    -- none
    so-serves : (w v : Service) → IsReady o v.block → v.notes ≡ w.notes → Serves first w → Serves first v
    so-serves w v ready is h = record { ready = ready; read = h.read; notes_are = is ∙ h.notes_are; notes = h.notes }

    answered-serves : (v : Verdict) (w : Service) → w.block.send.finished ≡ false → Serves first w → Serves first (answered env Own v w)
    answered-serves v w open_ h =
        let bytes : List ℕ = answer env.files v in
        let total : ℕ = w.block.send.total + length bytes in
        answered-keeps (Serves first) env Own v w
        (λ t. more-serves w _ (rec.Reset env.place env.c total) h.ready refl tt h)
        (λ t. let fits : total ≤ env.stream = ltb-false env.stream total t in
        more-serves w _ (rec.Served env.place env.c (w.count + 1) (answer_code env.files v) (length bytes) Own)
        (closed-ready v (queueing w.block bytes) (queueing-ready w.block bytes open_ (omega (arith, fits, small)) h.ready)) refl tt h)

    consumed-serves : (n : ℕ) (w : Service) → Serves first w → Serves first (serving_consumed n w)
    consumed-serves n w h = so-serves w (serving_consumed n w) (consuming-ready w.block n h.ready) refl h

    ended-serves : (w : Service) → Serves first w → Serves first (ended_at_fin w)
    ended-serves w h = at-fin-keeps (Serves first) w (λ t. so-serves w _ (finishing-ready w.block h.ready) refl h) (λ t. h)

    -- while it goes on nothing is to be placed, and what is to be placed may move
    abbrev IsReading : Reading → Type 0
    IsReading x = Serves first x.service × (x.target ≡ None)

    abbrev pub HasRead : Reading → Type 0
    HasRead x = Serves first x.service × MayMove x.service.block x.target

    abbrev ReadOn : Step Reading → Type 0
    ReadOn (loop.More y) = IsReading y
    ReadOn (loop.Done y) = HasRead y

    still : (x : Reading) (w : Service) → Serves first w → x.target ≡ None → HasRead (with_service x w)
    still x w h none = (h, subst (MayMove w.block) (sym none) tt)

    targeted-reads : (path : List ℕ) (x : Reading) → IsReading x → HasRead (targeted path x)
    targeted-reads path x h = cond_both (may_freeze x.service.block) (record x { target = Some path }) x HasRead (λ t. (h.0, t)) (λ t. still x x.service h.0 h.1)

    -- what may be read of is not finished
    unfinished : (w : Service) → may_read w ≡ true → w.block.send.finished ≡ false
    unfinished w may = go w.block.send.finished (and_parts (not w.block.send.finished) _ (and_parts (not w.block.reset) _ may).1).0 where
      go : (b : Bool) → not b ≡ true → b ≡ false
      go true h = let no : false ≡ true = h in absurd cc
      go false h = refl

    found-reads : (x : Reading) → may_read x.service ≡ true → (f : Found) → IsReading x → ReadOn (reads_found env x f)
    found-reads x may (found.More skip) h = still x (ended_at_fin (serving_consumed skip x.service)) (ended-serves (serving_consumed skip x.service) (consumed-serves skip x.service h.0)) h.1
    found-reads x may (found.Block skip len) h = by_path (good_path env.files (block_at x skip len)) where
      by_path : (p : Option (List ℕ)) → ReadOn (reads_block env x (skip + len) (block_at x skip len) p)
      by_path None = (answered-serves (block_at x skip len) (serving_consumed (skip + len) x.service) (unfinished x.service may) (consumed-serves (skip + len) x.service h.0), h.1)
      by_path (Some path) = targeted-reads path x h
    found-reads x may (found.TooLong skip) h =
        (answered-serves (Fault code.FieldsTooLarge) (serving_consumed (length x.service.block.recv.unread) x.service) (unfinished x.service may) (consumed-serves (length x.service.block.recv.unread) x.service h.0), h.1)

    turn-reads : (x : Reading) → IsReading x → ReadOn (reading_turn env x)
    turn-reads x h = cond_both (may_read x.service) (reads_found env x (cut_of x.service.block.recv.unread)) (loop.Done x) ReadOn
        (λ may. found-reads x may (cut_of x.service.block.recv.unread) h) (λ t. still x x.service h.0 h.1)

    reads-on : (n : ℕ) (x : Reading) → IsReading x → HasRead (runs_on n (reading_turn env) x)
    unfolding runs_on
    reads-on zero x h = still x x.service h.0 h.1
    reads-on (suc n) x h = go (reading_turn env x) (turn-reads x h) (reads-on n) where
      go : (s : Step Reading) → ReadOn s → ((y : Reading) → IsReading y → HasRead (runs_on n (reading_turn env) y)) → HasRead (elim s as (λ s. Reading) [ loop.More y ↦ runs_on n (reading_turn env) y | loop.Done y ↦ y ])
      go (loop.More y) k later = later y k
      go (loop.Done y) k later = k

    -- what begins with these records
    pub all-read : (w : Service) → w.notes ≡ first → IsReady o w.block → HasRead (front_reads env (record { service = w; target = None }))
    all-read w is ready =
        let h : Serves first w = record { ready = ready; read = []; notes_are = is ∙ sym (append-nil first); notes = tt } in
        reads-on (reading_left (record { service = w; target = None }) + 1) (record { service = w; target = None }) (h, refl)

-- ---- the end of a turn

-- what is here yet is the endpoint that spoke
rested-here : (d : ControlBlock) (n : ℕ) (b : ControlBlock) (count : ℕ) → rested d n ≡ ending.Here b count → (may_end d ≡ false) × (d ≡ b)
rested-here d n b count e = go (may_end d) refl e where
  go : (t : Bool) → may_end d ≡ t → cond t (ending.Over (final_of d (end_reason d))) (ending.Here d n) ≡ ending.Here b count → (may_end d ≡ false) × (d ≡ b)
  go true t e = let no : ending.Over (final_of d (end_reason d)) ≡ ending.Here b count = e in absurd cc
  go false t e = (t, cc)

-- The turn goes to the client, and notes these; where the endpoint is here yet, it is held.
pub record EndsHeld (c : ℕ) (o : Option Said) (notes : List Rec) (given : Ending × Turn) : Type 0 where
  pub noted : given.1.notes ≡ notes
  pub to : AllTo (Client c) given.1.segments
  pub held : (b : ControlBlock) (count : ℕ) → given.0 ≡ ending.Here b count → IsHeld (heard_by c o given.1.segments) b

-- The same of one that may be frozen, which is here yet.
pub record EndsWaiting (c : ℕ) (o : Option Said) (notes : List Rec) (given : Ending × Turn) : Type 0 where
  pub noted : given.1.notes ≡ notes
  pub to : AllTo (Client c) given.1.segments
  pub block : ControlBlock
  pub count : ℕ
  pub here : given.0 ≡ ending.Here block count
  pub waits : IsWaiting (heard_by c o given.1.segments) block

spoken-held : (c : ℕ) (o : Option Said) (b : ControlBlock) (given : List (Place × List ℕ) × ControlBlock) → b.reset ≡ false → HasSpoken c o b given → IsHeld (heard_by c o given.0) given.1
spoken-held c o b given open_ s = record { sound = s.sound; told_is = s.told_is; open_ = s.left.reset_is ∙ open_; rests = s.rests }

pub held-ends : (c : ℕ) (o : Option Said) (w : Service) (b : ControlBlock) (given : List (Place × List ℕ) × ControlBlock) → b.reset ≡ false → HasSpoken c o b given
    → EndsHeld c o w.notes (rested given.1 w.count, record { notes = w.notes; segments = given.0; answered = w.answered })
held-ends c o w b given open_ s = record {
  noted = refl;
  to = s.to;
  held = λ d count e. subst (IsHeld (heard_by c o given.0)) (rested-here given.1 w.count d count e).1 (spoken-held c o b given open_ s);
}

goes-on : (clear fin disc reset peer : Bool) → ((clear && not fin) && (not disc && not reset)) ≡ true → (reset || ((fin && clear) && peer)) ≡ false
goes-on true false false false peer h = refl
goes-on true true disc reset peer h = let no : false ≡ true = h in absurd cc
goes-on false fin disc reset peer h = let no : false ≡ true = h in absurd cc
goes-on true false true reset peer h = let no : false ≡ true = h in absurd cc
goes-on true false false true peer h = let no : false ≡ true = h in absurd cc

pub waiting-ends : (c : ℕ) (o : Option Said) (w : Service) (b : ControlBlock) (given : List (Place × List ℕ) × ControlBlock) → b.reset ≡ false → may_freeze b ≡ true → HasSpoken c o b given
    → EndsWaiting c o w.notes (rested given.1 w.count, record { notes = w.notes; segments = given.0; answered = w.answered })
waiting-ends c o w b given open_ may s =
    let d : ControlBlock = given.1 in
    let freezes : may_freeze d ≡ true = freezes-still b d s.sound.block s.left.send (ap (λ (r : Received). r.discarding) s.left.recv) (s.left.reset_is ∙ open_) may in
    let on : may_end d ≡ false = goes-on (is_clear d.send) d.send.finished d.recv.discarding d.reset d.recv.fin freezes in
    record {
      noted = refl;
      to = s.to;
      block = d;
      count = w.count;
      here = ap (λ (t : Bool). cond t (ending.Over (final_of d (end_reason d))) (ending.Here d w.count)) on;
      waits = record { held = spoken-held c o b given open_ s; freezes = freezes };
    }

module _ (env : ServeEnv) (o : Option Said) (w : Service) (h : IsReady o w.block) where
  -- what its client reset is over
  abbrev over_of : Ending
  over_of = ending.Over (final_of (speaks env.c w.block).1 (end_reason (speaks env.c w.block).1))

  pub spoken-over : w.block.reset ≡ true → (spoken env w []).0 ≡ over_of
  spoken-over e =
      let none : emitted w.block ≡ None = ap (λ (t : Bool). cond {A = Option Ready} t None (ready_of (advanced w.block) (next_piece w.block.send) (owed_ready (advanced w.block)))) e in
      let same : (speaks env.c w.block).1 ≡ w.block = ap (λ (given : List (Place × List ℕ) × ControlBlock). given.1) (speaks-done env.c w.block none) in
      let over : may_end (speaks env.c w.block).1 ≡ true = ap may_end same ∙ ap (λ (t : Bool). t || is_closed w.block) e in
      ap (λ (t : Bool). cond t over_of (ending.Here (speaks env.c w.block).1 w.count)) over

  -- else it says all that it may
  pub spoken-ends : EndsHeld env.c o w.notes (spoken env w [])
  spoken-ends = go w.block.reset refl where
    go : (t : Bool) → w.block.reset ≡ t → EndsHeld env.c o w.notes (spoken env w [])
    go false e = held-ends env.c o w w.block (speaks env.c w.block) e (speaks-spoken env.c o w.block h.sound (ready-quiet o w.block h e))
    go true e = record {
      noted = refl;
      to = (speaks-to env.c w.block).to;
      held = λ b count is. let no : over_of ≡ ending.Here b count = sym (spoken-over e) ∙ is in absurd cc;
    }

  pub spoken-waits : w.block.reset ≡ false → may_freeze w.block ≡ true → EndsWaiting env.c o w.notes (spoken env w [])
  spoken-waits open_ may = waiting-ends env.c o w w.block (speaks env.c w.block) open_ may (speaks-spoken env.c o w.block h.sound (ready-quiet o w.block h open_))

  -- or is cut off at the stream limit
  pub settled-ends : EndsHeld env.c o w.notes (serving_settled env w)
  settled-ends = settled-keeps (EndsHeld env.c o w.notes) env w (λ e. spoken-ends) (λ total e. record {
    noted = refl;
    to = Each-append (λ s. s.0 ≡ Client env.c) (speaks_symbols env.c w.block).0 (serving_told env (limit_said (final_of (speaks_symbols env.c w.block).1 Limit)) ∷ []) (speaks_symbols-to env.c w.block).to (refl, tt);
    held = λ b count e. let no : ending.Over (final_of (speaks_symbols env.c w.block).1 Limit) ≡ ending.Here b count = e in absurd cc;
  })
