-- A stay goes on: requests are read or served, the cluster's side is closed or the stream limit reached, or nothing changes but what
-- is unread.
use Rattle.std.proofs.Common.{◌≡◌, ◌⊎◌, ◌<◌, ◌≤◌, ◌+◌, ◌-◌, ◌*◌, ℕ, suc, Bool, true, false, not, ◌&&◌, List, [], ◌∷◌, ◌++◌, length, drop, min, is_some, Option, Some, None, inl, inr, ⊎_elim, refl, sym, ap, ◌∙◌, subst, arith}
use Rattle.std.proofs.lemmas.Bool.{cond_both}
use Rattle.std.proofs.lemmas.List.{length_push, length-drop}
use Rattle.lard_law_view.specs.Prelude.{Asked, ControlBlock, Done, Entry, Kept, MAX_STREAM_BYTES, More, NodeEnv, Progress, RECEIVE_WINDOW, Received, Sending, Service, Step, Verdict, Via, Want, Work, answer, answered, ask_kept, asked_kept, asks_for, awaited, batch_of, bytes_used, closed_behind, closes, discarding_on, ended_at_fin, entered, finishing, goes_on, hit_here, queued_here, queueing, read_entry, reads_batch, reads_these, receive_room, serves_with, serving_consumed, state_of, wants_kept}
use Rattle.lard_base.specs.declared.place.Via.TheVariants as via
use Rattle.lard_bound.specs.Units.{batch_left, progress_left}
use Rattle.lard_rules.specs.declared.stay.Progress.TheVariants as progress
use Rattle.lard_resend.proofs.Lengths.{anew-more, length-anew}
use Rattle.lard_rules.proofs.Endings.{answered-keeps, at-fin-keeps}
use Rattle.lard_rules.proofs.StayWalking.{KeptByReads, StepIn, goes-in, state-in, these-in}

-- how many requests were read, served or not
abbrev pub read_of : Work → ℕ
read_of w = w.service.count + length w.batch

-- an endpoint of which nothing but less is unread
pub record IsAlike (b d : ControlBlock) : Type 0 where
  pub send : d.send ≡ b.send
  pub awaits : awaited d.recv ≡ awaited b.recv
  pub roomy : receive_room b.recv ≤ receive_room d.recv
  pub owed : d.owed ≡ b.owed
  pub last_window : d.last_window ≡ b.last_window
  pub reset : d.reset ≡ b.reset

-- nothing is done but that
pub record Idle (a b : Work) : Type 0 where
  pub block : IsAlike a.service.block b.service.block
  pub count : b.service.count ≡ a.service.count
  pub over : b.service.over ≡ a.service.over
  pub batch : b.batch ≡ a.batch
  pub asks : b.asks ≡ a.asks
  pub wants : b.wants ≡ a.wants
  pub asked : b.asked ≡ a.asked

-- the cluster's side is closed
abbrev pub Finishes : Work → Work → Type 0
Finishes a b = (a.service.block.send.finished ≡ false) × (b.service.block.send.finished ≡ true)

-- behind an answer that closes: no more is acknowledged, and the window is as it was
pub behind : (v : Verdict) (b : ControlBlock) → ((closed_behind v b).send.una ≡ b.send.una) × ((closed_behind v b).send.wnd ≡ b.send.wnd) × (b.send.finished ≡ true → (closed_behind v b).send.finished ≡ true)
behind v b = cond_both (closes v) (finishing (discarding_on b)) b (λ (d : ControlBlock). (d.send.una ≡ b.send.una) × (d.send.wnd ≡ b.send.wnd) × (b.send.finished ≡ true → d.send.finished ≡ true))
    (λ t. (refl, refl, λ e. refl)) (λ t. (refl, refl, λ e. e))

-- what may be read on has neither closed its side nor passed the stream limit
pub may-parts : (reset shut : Bool) (o : Option ℕ) → (not reset && (not shut && (elim o [ None ↦ true | Some total ↦ false ]))) ≡ true → (shut ≡ false) × (o ≡ None)
may-parts true shut o e = absurd (let bad : false ≡ true = e in cc)
may-parts false true o e = absurd (let bad : false ≡ true = e in cc)
may-parts false false None e = (refl, refl)
may-parts false false (Some total) e = absurd (let bad : false ≡ true = e in cc)

-- with less unread there is as much room
pub wider : (n : ℕ) (r : Received) → receive_room r ≤ receive_room (record r { unread = drop n r.unread })
wider n r = let l = length-drop n r.unread in less (length r.unread) (length (drop n r.unread)) r.got (omega (arith, l)) where
  less : (x y z : ℕ) → y ≤ x → min (RECEIVE_WINDOW - x) (MAX_STREAM_BYTES - z) ≤ min (RECEIVE_WINDOW - y) (MAX_STREAM_BYTES - z)
  less x y z e = omega (arith, e)

pub alike-self : (b : ControlBlock) → IsAlike b b
alike-self b = record { send = refl; awaits = refl; roomy = omega arith; owed = refl; last_window = refl; reset = refl }

pub alike-then : (b d f : ControlBlock) → IsAlike b d → IsAlike d f → IsAlike b f
alike-then b d f h k = record {
  send = k.send ∙ h.send;
  awaits = k.awaits ∙ h.awaits;
  roomy = let x : receive_room b.recv ≤ receive_room d.recv = h.roomy in let y : receive_room d.recv ≤ receive_room f.recv = k.roomy in omega arith;
  owed = k.owed ∙ h.owed;
  last_window = k.last_window ∙ h.last_window;
  reset = k.reset ∙ h.reset;
}

idle-self : (a : Work) → Idle a a
idle-self a = record { block = alike-self a.service.block; count = refl; over = refl; batch = refl; asks = refl; wants = refl; asked = refl }

idle-then : (a b c : Work) → Idle a b → Idle b c → Idle a c
idle-then a b c h k = record {
  block = alike-then a.service.block b.service.block c.service.block h.block k.block;
  count = k.count ∙ h.count;
  over = k.over ∙ h.over;
  batch = k.batch ∙ h.batch;
  asks = k.asks ∙ h.asks;
  wants = k.wants ∙ h.wants;
  asked = k.asked ∙ h.asked;
}

module _ (env : NodeEnv) (kept fetches : List Kept) where
  -- what its requests cost: to get a node or a content, to be served, and to be asked for
  abbrev pub cost : Work → ℕ
  cost w = batch_left w.batch + length (asked_kept env w.asked kept) + length (wants_kept env w.wants fetches)

  abbrev pub Cheaper : Work → Work → Type 0
  Cheaper a b = cost b + 4 * read_of a < cost a + 4 * read_of b

  -- No request comes back, and one that is read costs less than one that is not. Where none got on, the cluster's side was closed,
  -- the stream limit was reached, or nothing changed.
  pub record Onward (a b : Work) : Type 0 where
    pub una : b.service.block.send.una ≡ a.service.block.send.una
    pub wnd : b.service.block.send.wnd ≡ a.service.block.send.wnd
    pub shut : a.service.block.send.finished ≡ true → b.service.block.send.finished ≡ true
    pub limit : is_some a.service.over ≡ true → is_some b.service.over ≡ true
    pub more : read_of a ≤ read_of b
    pub cheap : cost b + 4 * read_of a ≤ cost a + 4 * read_of b
    pub way : Cheaper a b ⊎ (Finishes a b ⊎ ((is_some b.service.over ≡ true) ⊎ Idle a b))

  pub onward-self : (a : Work) → Onward a a
  onward-self a = record { una = refl; wnd = refl; shut = λ e. e; limit = λ e. e; more = omega arith; cheap = omega arith; way = inr (inr (inr (idle-self a))) }

  pub onward-then : (a b c : Work) → Onward a b → Onward b c → Onward a c
  onward-then a b c h k =
      let m1 : read_of a ≤ read_of b = h.more in let m2 : read_of b ≤ read_of c = k.more in
      let c1 : cost b + 4 * read_of a ≤ cost a + 4 * read_of b = h.cheap in let c2 : cost c + 4 * read_of b ≤ cost b + 4 * read_of c = k.cheap in record {
        una = k.una ∙ h.una;
        wnd = k.wnd ∙ h.wnd;
        shut = λ e. k.shut (h.shut e);
        limit = λ e. k.limit (h.limit e);
        more = omega arith;
        cheap = omega arith;
        way = ⊎_elim
            (λ (t : Cheaper a b). inl (omega arith))
            (λ (e : Finishes a b ⊎ ((is_some b.service.over ≡ true) ⊎ Idle a b)). ⊎_elim
            (λ (t : Finishes a b). inr (inl (t.0, k.shut t.1)))
            (λ (e2 : (is_some b.service.over ≡ true) ⊎ Idle a b). ⊎_elim
            (λ (t : is_some b.service.over ≡ true). inr (inr (inl (k.limit t))))
            (λ (i : Idle a b). ⊎_elim
            (λ (t : Cheaper b c). inl (omega arith))
            (λ (f : Finishes b c ⊎ ((is_some c.service.over ≡ true) ⊎ Idle b c)). ⊎_elim
            (λ (t : Finishes b c). inr (inl (sym (ap (λ (s : Sending). s.finished) i.block.send) ∙ t.0, t.1)))
            (λ (f2 : (is_some c.service.over ≡ true) ⊎ Idle b c). ⊎_elim
            (λ (t : is_some c.service.over ≡ true). inr (inr (inl t)))
            (λ (j : Idle b c). inr (inr (inr (idle-then a b c i j)))) f2) f) k.way) e2) e)
            h.way;
      }

  -- ---- a request is served

  serves-on : (way : Via) (e : Entry) (rest : List Entry) (w : Work) → w.service.over ≡ None → w.batch ≡ e ∷ rest → e.progress ≡ progress.Ready way → Onward w (serves_with (answered env.serve way e.verdict w.service) e rest w)
  serves-on way e rest w none is ready =
      answered-keeps (λ (s : Service). Onward w (serves_with s e rest w)) env.serve way e.verdict w.service
      (λ t. record {
        una = refl;
        wnd = refl;
        shut = λ f. f;
        limit = λ f. refl;
        more = let n : length w.batch ≡ suc (length rest) = ap (λ (es : List Entry). length es) is in omega arith;
        cheap = let n : length w.batch ≡ suc (length rest) = ap (λ (es : List Entry). length es) is in let l : batch_left w.batch ≡ progress_left e.progress + batch_left rest = ap batch_left is in omega arith;
        way = inr (inr (inl refl));
      })
      (λ t.
      let d = behind e.verdict (queueing w.service.block (answer env.serve.files e.verdict)) in
      let n : length w.batch ≡ suc (length rest) = ap (λ (es : List Entry). length es) is in
      let l : batch_left w.batch ≡ progress_left e.progress + batch_left rest = ap batch_left is in
      let one : progress_left e.progress ≡ 1 = ap progress_left ready in record {
        una = d.0;
        wnd = d.1;
        shut = d.2;
        limit = λ f. absurd (let o : is_some w.service.over ≡ false = ap (λ (o : Option ℕ). is_some o) none in let bad : true ≡ false = sym f ∙ o in cc);
        more = omega arith;
        cheap = omega arith;
        way = inl (omega arith);
      })

  -- ---- a batch is read

  -- So many requests are in it with those that are still to be entered, which cost two each at most, and nothing else was done.
  record Entering (w : Work) (size : ℕ) (vs : List Verdict) (b : Work) : Type 0 where
    longer : length b.batch + length vs ≡ size
    costs : batch_left b.batch + 2 * length vs ≤ 2 * size
    send : b.service.block.send ≡ w.service.block.send
    count : b.service.count ≡ w.service.count
    over : b.service.over ≡ w.service.over
    wants : b.wants ≡ w.wants
    asked : b.asked ≡ w.asked

  left-push : (es : List Entry) (e : Entry) → batch_left (es ++ e ∷ []) ≡ batch_left es + progress_left e.progress
  left-push [] e = omega arith
  left-push (x ∷ es) e = let rest = left-push es e in omega arith

  two-at-most : (p : Progress) → progress_left p ≤ 2
  two-at-most progress.Named = omega arith
  two-at-most progress.Reading = omega arith
  two-at-most (progress.Awaited node) = omega arith
  two-at-most (progress.Ready way) = omega arith

  one-entered : (w : Work) (size : ℕ) (v : Verdict) (vs : List Verdict) (e : Entry) (b : Work) → Entering w size (v ∷ vs) b → Entering w size vs (entered e b)
  one-entered w size v vs e b h = record {
    longer = let all = h.longer in let more = length_push b.batch e in omega (arith, all, more);
    costs = let l = left-push b.batch e in let t = two-at-most e.progress in let c = h.costs in omega arith;
    send = h.send;
    count = h.count;
    over = h.over;
    wants = h.wants;
    asked = h.asked;
  }

  -- with another note, and a job
  like-entered : (w : Work) (size : ℕ) (vs : List Verdict) (a b : Work) → b.batch ≡ a.batch → b.service.block ≡ a.service.block → b.service.count ≡ a.service.count → b.service.over ≡ a.service.over → b.wants ≡ a.wants → b.asked ≡ a.asked → Entering w size vs a
      → Entering w size vs b
  like-entered w size vs a b batch block count over wants asked h = record {
    longer = ap (λ (es : List Entry). length es + length vs) batch ∙ h.longer;
    costs = subst (λ (es : List Entry). batch_left es + 2 * length vs ≤ 2 * size) (sym batch) h.costs;
    send = ap (λ (x : ControlBlock). x.send) block ∙ h.send;
    count = count ∙ h.count;
    over = over ∙ h.over;
    wants = wants ∙ h.wants;
    asked = asked ∙ h.asked;
  }

  -- an Ask is one more, and takes the place of the one before
  asked-more : (a : Asked) (o : Option Asked) → length (asked_kept env (Some a) kept) ≤ length (asked_kept env o kept) + 1
  asked-more a None = anew-more (ask_kept env.serve.c env.epoch a) kept
  asked-more a (Some b) =
      let x = length-anew (ask_kept env.serve.c env.epoch a) kept in
      let y = length-anew (ask_kept env.serve.c env.epoch b) kept in omega (arith, x, y)

  -- all were entered, and an Ask was made, or none
  all-read : (w b c : Work) (size : ℕ) → 1 ≤ size → w.batch ≡ [] → Entering w size [] b → c.service ≡ b.service → c.batch ≡ b.batch → c.wants ≡ b.wants → length (asked_kept env c.asked kept) ≤ length (asked_kept env b.asked kept) + 1 → Onward w c
  all-read w b c size some none h service batch wants_same asked =
      let send : c.service.block.send ≡ w.service.block.send = ap (λ (x : Service). x.block.send) service ∙ h.send in
      let over : c.service.over ≡ w.service.over = ap (λ (x : Service). x.over) service ∙ h.over in
      let count : c.service.count ≡ w.service.count = ap (λ (x : Service). x.count) service ∙ h.count in
      let l0 : length w.batch ≡ 0 = ap (λ (es : List Entry). length es) none in
      let b0 : batch_left w.batch ≡ 0 = ap batch_left none in
      let l1 : length c.batch ≡ length b.batch = ap (λ (es : List Entry). length es) batch in
      let b1 : batch_left c.batch ≡ batch_left b.batch = ap batch_left batch in
      let l2 : length b.batch + 0 ≡ size = h.longer in
      let b2 : batch_left b.batch + 2 * 0 ≤ 2 * size = h.costs in
      let same : length (asked_kept env b.asked kept) ≡ length (asked_kept env w.asked kept) = ap (λ (o : Option Asked). length (asked_kept env o kept)) h.asked in
      let wants : length (wants_kept env c.wants fetches) ≡ length (wants_kept env w.wants fetches) = ap (λ (ws : List Want). length (wants_kept env ws fetches)) (wants_same ∙ h.wants) in record {
        una = ap (λ (x : Sending). x.una) send;
        wnd = ap (λ (x : Sending). x.wnd) send;
        shut = λ e. ap (λ (x : Sending). x.finished) send ∙ e;
        limit = λ e. ap (λ (o : Option ℕ). is_some o) over ∙ e;
        more = omega arith;
        cheap = omega arith;
        way = inl (omega arith);
      }

  by_reads : (w : Work) (size : ℕ) → 1 ≤ size → w.batch ≡ [] → KeptByReads env size (λ here. Entering w size) (Onward w)
  by_reads w size some none = record {
    hits = λ r path v vs b good is t h. let e : Entry = record { verdict = v; progress = progress.Ready via.Cache } in like-entered w size vs (entered e b) (hit_here env path v b) refl refl refl refl refl refl (one-entered w size v vs e b h);
    queues = λ r path v vs b good is f h. let e : Entry = record { verdict = v; progress = progress.Reading } in like-entered w size vs (entered e b) (queued_here env r path v b) refl refl refl refl refl refl (one-entered w size v vs e b h);
    enters = λ here v vs b only h. one-entered w size v vs (read_entry env.serve.files v) b h;
    plain = λ here b named h. all-read w b b size some none h refl refl refl (omega arith);
    asks = λ here path paths b named h. all-read w b (asks_for env size (path ∷ paths) b) size some none h refl refl refl
        (asked-more (record { number = b.asks + 1; queue = env.queue + length b.jobs; size = size; paths = path ∷ paths }) b.asked);
  }

  -- where there is none, the cluster's FIN follows the client's
  ends : (used : ℕ) (w : Work) → w.service.block.send.finished ≡ false → Onward w (record w { service = ended_at_fin (serving_consumed used w.service) })
  ends used w open_ =
      at-fin-keeps (λ (s : Service). Onward w (record w { service = s })) (serving_consumed used w.service)
      (λ t. record { una = refl; wnd = refl; shut = λ e. refl; limit = λ e. e; more = omega arith; cheap = omega arith; way = inr (inl (open_, refl)) })
      (λ t. record {
        una = refl;
        wnd = refl;
        shut = λ e. e;
        limit = λ e. e;
        more = omega arith;
        cheap = omega arith;
        way = inr (inr (inr (record {
          block = record { send = refl; awaits = refl; roomy = wider used w.service.block.recv; owed = refl; last_window = refl; reset = refl };
          count = refl;
          over = refl;
          batch = refl;
          asks = refl;
          wants = refl;
          asked = refl;
        })));
      })

  reads-on : (here : Bool) (w : Work) → w.batch ≡ [] → w.service.block.send.finished ≡ false → StepIn (Onward w) (Onward w) (reads_batch env here w)
  reads-on here w none open_ = go (batch_of 8 w.service.block.recv.unread) where
    used : ℕ
    used = bytes_used 8 w.service.block.recv.unread

    go : (vs : List Verdict) → StepIn (Onward w) (Onward w) (reads_these env here used w vs)
    go [] = ends used w open_
    go (v ∷ vs) =
        let size : ℕ = length (v ∷ vs) in
        these-in env (λ here. Entering w size) (Onward w) (Onward w) here used w (v ∷ vs) (by_reads w size (omega arith) none) none (λ e. let no : v ∷ vs ≡ [] = e in absurd (let f : ⊥ = cc in f))
        (λ x us e. record {
          longer = let l0 : length w.batch ≡ 0 = ap (λ (es : List Entry). length es) none in omega (arith, l0);
          costs = let b0 : batch_left w.batch ≡ 0 = ap batch_left none in omega (arith, b0);
          send = refl;
          count = refl;
          over = refl;
          wants = refl;
          asked = refl;
        })

  -- ---- turn by turn

  -- what may be read is open, and not over
  step-then : (a w : Work) (s : Step Work) → Onward a w → StepIn (Onward w) (Onward w) s → StepIn (Onward a) (Onward a) s
  step-then a w (More u) g h = onward-then a w u g h
  step-then a w (Done u) g h = onward-then a w u g h

  pub goes-onward : (a : Work) → Onward a (goes_on env a)
  goes-onward a = goes-in env (Onward a) (Onward a) (record {
    reads = λ w none may p. step-then a w (reads_batch env false w) p (reads-on false w none (may-parts w.service.block.reset w.service.block.send.finished w.service.over may).0);
    serves = λ way e rest w may first is p. onward-then a w (serves_with (answered env.serve way e.verdict w.service) e rest w) p
        (serves-on way e rest w (may-parts w.service.block.reset w.service.block.send.finished w.service.over may).1 first is);
    stops = λ w may p. p;
    holds = λ w leaves none may p. p;
  }) a (onward-self a)

  -- a stay that begins reads its first batch
  pub first-batch : (w : Work) → w.batch ≡ [] → w.service.block.send.finished ≡ false → Onward w (state_of (reads_batch env true w))
  first-batch w none open_ = state-in (Onward w) (reads_batch env true w) (reads-on true w none open_)
