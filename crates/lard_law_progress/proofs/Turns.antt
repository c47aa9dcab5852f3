-- What a turn of a stay leaves to be done, of each kind of turn, up to where its endpoint speaks.
use Rattle.std.proofs.Common.{◌≡◌, ◌⊎◌, ◌<◌, ◌≤◌, ◌+◌, ◌*◌, ◌==◌, ℕ, Bool, true, false, List, length, is_some, Option, inl, inr, ⊎_elim, refl, sym, ap, ◌∙◌, arith}
use Rattle.std.specs.List.{find}
use Rattle.std.proofs.lemmas.Bool.{both_ways, cases_lt}
use Rattle.std.proofs.lemmas.Bool.Decides.{nat_tests}
use Rattle.lard_law_view.specs.Prelude.{Asked, ClientBlock, ControlBlock, Kept, NodeEnv, Phase, Said, Sending, Service, Want, Work, after_timer, asked_kept, awaited, came_for, come_progress, goes_on, is_under, on_segment, rcv_nxt, read_progress, tagged, wants_kept, without, work_of}
use Rattle.lard_base.specs.declared.place.TimerKind.TheVariants as kind
use Rattle.lard_bound.specs.Progress.{IsWarmWord}
use Rattle.lard_bound.specs.Seats.{Staying}
use Rattle.lard_bound.specs.Spots.{number_awaited}
use Rattle.lard_bound.specs.Units.{batch_left, is_stale, one_if_not}
use Rattle.lard_client.specs.declared.phase.Phase.TheVariants as phase
use Rattle.lard_law_progress.proofs.Coming.{came-on, content-comes, read-comes, read-still, tagged-on, without-fewer}
use Rattle.lard_law_progress.proofs.Ends.{heard-ahead, heard-window, timer-said}
use Rattle.lard_law_progress.proofs.Stays.{Finishes, Idle, Cheaper, cost, goes-onward, read_of}
use Rattle.lard_rules.proofs.Hearing.{segment-keeps}

-- the requests of a stay that were read, and what they cost
abbrev pub read_in : Staying → ℕ
read_in s = s.stay.served + length s.stay.batch

abbrev pub cost_in : Staying → ℕ
cost_in s = batch_left s.stay.batch + length s.kept + length s.fetches

module _ (x : ClientBlock) (env : NodeEnv) where
  -- nothing changes that decides what comes of a packet
  pub record Rests (b : ControlBlock) (s : Staying) (kept fetches : List Kept) (w : Work) : Type 0 where
    pub total : w.service.block.send.total ≡ b.send.total
    pub awaits : number_awaited w.service.block x.phase ≡ number_awaited b x.phase
    pub asks : w.asks ≡ s.stay.asks
    pub batch : w.batch ≡ s.stay.batch
    pub kept_is : asked_kept env w.asked kept ≡ s.kept
    pub fetches_are : wants_kept env w.wants fetches ≡ s.fetches

  abbrev pub Falls : Staying → List Kept → List Kept → Work → Type 0
  Falls s kept fetches w = cost env kept fetches w + 4 * read_in s < cost_in s + 4 * read_of w

  -- Work that is done for a stay: no unit comes back, and one goes, or nothing changes.
  pub record Works (b : ControlBlock) (s : Staying) (kept fetches : List Kept) (w : Work) : Type 0 where
    pub una : b.send.una ≤ w.service.block.send.una
    pub shut : b.send.finished ≡ true → w.service.block.send.finished ≡ true
    pub stale : is_stale x w.service.block ≤ is_stale x b
    pub more : read_in s ≤ read_of w
    pub cheap : cost env kept fetches w + 4 * read_in s ≤ cost_in s + 4 * read_of w
    pub way : Falls s kept fetches w ⊎ (((b.send.finished ≡ false) × (w.service.block.send.finished ≡ true)) ⊎ ((is_some w.service.over ≡ true) ⊎ Rests b s kept fetches w))

  pub awaited-same : (p : Phase) (b d : ControlBlock) → rcv_nxt d ≡ rcv_nxt b → number_awaited d p ≡ number_awaited b p
  awaited-same phase.Open b d e = refl
  awaited-same phase.Aborted b d e = e
  awaited-same phase.Reset b d e = refl

  -- what was done before a stay goes on, and that it goes on
  goes : (b : ControlBlock) (s : Staying) (kept fetches : List Kept) (w : Work) → Works b s kept fetches w → Works b s kept fetches (goes_on env w)
  goes b s kept fetches w h =
      let v = goes_on env w in
      let o = goes-onward env kept fetches w in
      let c1 : cost env kept fetches w + 4 * read_in s ≤ cost_in s + 4 * read_of w = h.cheap in
      let c2 : cost env kept fetches v + 4 * read_of w ≤ cost env kept fetches w + 4 * read_of v = o.cheap in
      let m1 : read_in s ≤ read_of w = h.more in let m2 : read_of w ≤ read_of v = o.more in record {
        una = let e : v.service.block.send.una ≡ w.service.block.send.una = o.una in let u : b.send.una ≤ w.service.block.send.una = h.una in omega arith;
        shut = λ e. o.shut (h.shut e);
        stale = let e : is_stale x v.service.block ≡ is_stale x w.service.block = ap (λ n. one_if_not (n == x.wnd)) o.wnd in let u : is_stale x w.service.block ≤ is_stale x b = h.stale in omega arith;
        more = omega arith;
        cheap = omega arith;
        way = ⊎_elim
            (λ (t : Falls s kept fetches w). inl (omega arith))
            (λ (e : ((b.send.finished ≡ false) × (w.service.block.send.finished ≡ true)) ⊎ ((is_some w.service.over ≡ true) ⊎ Rests b s kept fetches w)). ⊎_elim
            (λ (t : (b.send.finished ≡ false) × (w.service.block.send.finished ≡ true)). inr (inl (t.0, o.shut t.1)))
            (λ (e2 : (is_some w.service.over ≡ true) ⊎ Rests b s kept fetches w). ⊎_elim
            (λ (t : is_some w.service.over ≡ true). inr (inr (inl (o.limit t))))
            (λ (r : Rests b s kept fetches w). ⊎_elim
            (λ (t : Cheaper env kept fetches w v). inl (omega arith))
            (λ (f : Finishes w v ⊎ ((is_some v.service.over ≡ true) ⊎ Idle w v)). ⊎_elim
            (λ (t : Finishes w v). inr (inl (open_ b.send.finished w.service.block.send.finished h.shut t.0, t.1)))
            (λ (f2 : (is_some v.service.over ≡ true) ⊎ Idle w v). ⊎_elim
            (λ (t : is_some v.service.over ≡ true). inr (inr (inl t)))
            (λ (i : Idle w v). inr (inr (inr (record {
              total = ap (λ (z : Sending). z.total) i.block.send ∙ r.total;
              awaits = awaited-same x.phase w.service.block v.service.block i.block.awaits ∙ r.awaits;
              asks = i.asks ∙ r.asks;
              batch = i.batch ∙ r.batch;
              kept_is = ap (λ (o : Option Asked). asked_kept env o kept) i.asked ∙ r.kept_is;
              fetches_are = ap (λ (ws : List Want). wants_kept env ws fetches) i.wants ∙ r.fetches_are;
            })))) f2) f) o.way) e2) e)
            h.way;
      }
    where
      open_ : (p q : Bool) → (p ≡ true → q ≡ true) → q ≡ false → p ≡ false
      open_ true q on e = absurd (let bad : true ≡ false = sym (on refl) ∙ e in cc)
      open_ false q on e = refl

  -- ---- a segment

  -- a window that is its own is no staler
  fresh : (n m : ℕ) → n ≡ m → one_if_not (n == m) ≡ 0
  fresh n m e = ap one_if_not (same n m e) where
    same : (n m : ℕ) → n ≡ m → (n == m) ≡ true
    same n m e = grind (arith, nat_tests, e)

  pub window-on : (b : ControlBlock) (wnd : ℕ) → (wnd ≡ b.send.wnd) ⊎ (wnd ≡ x.wnd) → one_if_not (wnd == x.wnd) ≤ is_stale x b
  window-on b wnd (inl e) = let same : one_if_not (wnd == x.wnd) ≡ is_stale x b = ap (λ n. one_if_not (n == x.wnd)) e in omega (arith, same)
  window-on b wnd (inr e) = let same : one_if_not (wnd == x.wnd) ≡ 0 = fresh wnd x.wnd e in omega (arith, same)

  -- a reset changes nothing but that
  abbrev pub IsPassed : ControlBlock → ControlBlock → Type 0
  IsPassed b d = (d.send ≡ b.send) × (d.recv ≡ b.recv)

  pub reset-passed : (b : ControlBlock) (s : Said) → s.flags.rst ≡ true → IsPassed b (on_segment b s).1
  reset-passed b s rst = segment-keeps b s (IsPassed b) (record {
    rests = λ owed. (refl, refl);
    resets = λ t. (refl, refl);
    acks = λ owed c. absurd (both_ways s.flags.rst c.plain rst);
    comes = λ c some. absurd (both_ways s.flags.rst c.plain rst);
  })

  -- what came of a segment, before the stay goes on
  heard-by : (b : ControlBlock) (s : Staying) (said : Said) (p : Phase) → x.phase ≡ p → IsWarmWord x said p → (p ≡ phase.Reset → ⊥) → Works b s s.kept s.fetches (work_of (on_segment b said).1 s.stay)
  heard-by b s said phase.Reset is warm here = absurd (here refl)
  heard-by b s said phase.Open is warm here =
      let a = heard-ahead b said in
      let d = (on_segment b said).1 in
      record {
        una = a.una;
        shut = a.shut;
        stale = window-on b d.send.wnd (⊎_elim (λ (e : d.send.wnd ≡ b.send.wnd). inl e) (λ (e : d.send.wnd ≡ said.wnd). inr (e ∙ warm)) (heard-window b said));
        more = omega arith;
        cheap = omega arith;
        way = inr (inr (inr (record { total = a.total; awaits = ap (number_awaited d) is ∙ sym (ap (number_awaited b) is); asks = refl; batch = refl; kept_is = refl; fetches_are = refl })));
      }
  heard-by b s said phase.Aborted is warm here =
      let a = heard-ahead b said in
      let d = (on_segment b said).1 in
      let same = reset-passed b said warm in
      record {
        una = a.una;
        shut = a.shut;
        stale = window-on b d.send.wnd (inl (ap (λ (z : Sending). z.wnd) same.0));
        more = omega arith;
        cheap = omega arith;
        way = inr (inr (inr (record { total = a.total; awaits = awaited-same x.phase b d (ap awaited same.1); asks = refl; batch = refl; kept_is = refl; fetches_are = refl })));
      }

  pub forwarded-works : (b : ControlBlock) (s : Staying) (said : Said) → IsWarmWord x said x.phase → (x.phase ≡ phase.Reset → ⊥) → Works b s s.kept s.fetches (goes_on env (work_of (on_segment b said).1 s.stay))
  forwarded-works b s said warm here = goes b s s.kept s.fetches (work_of (on_segment b said).1 s.stay) (heard-by b s said x.phase refl warm here)

  -- ---- a Tag, a content, a job

  pub tagged-works : (b : ControlBlock) (s : Staying) (nodes : List ℕ) → is_some (find (is_under kind.Ask 0) s.kept) ≡ true
      → Works b s (without kind.Ask 0 s.kept) s.fetches (goes_on env (tagged env nodes (work_of b s.stay)))
  tagged-works b s nodes kept =
      let w = tagged env nodes (work_of b s.stay) in
      let h = tagged-on env s.fetches nodes (work_of b s.stay) in
      let few = without-fewer kind.Ask 0 s.kept kept in
      let asked : length (asked_kept env w.asked (without kind.Ask 0 s.kept)) ≡ length (without kind.Ask 0 s.kept) = ap (λ (o : Option Asked). length (asked_kept env o (without kind.Ask 0 s.kept))) h.5 in
      let l : length w.batch ≡ length s.stay.batch = h.0 in
      let c : batch_left w.batch + length (wants_kept env w.wants s.fetches) ≤ batch_left s.stay.batch + length s.fetches = h.1 in
      let n : w.service.count ≡ s.stay.served = h.3 in
      let block : w.service.block ≡ b = h.2 in
      goes b s (without kind.Ask 0 s.kept) s.fetches w (record {
        una = let e : w.service.block.send.una ≡ b.send.una = ap (λ (z : ControlBlock). z.send.una) block in omega arith;
        shut = λ e. ap (λ (z : ControlBlock). z.send.finished) block ∙ e;
        stale = let e : is_stale x w.service.block ≡ is_stale x b = ap (is_stale x) block in omega arith;
        more = omega arith;
        cheap = omega arith;
        way = inl (omega arith);
      })

  pub content-works : (b : ControlBlock) (s : Staying) (from r : ℕ) → is_some (find (is_under kind.Fetch r) s.fetches) ≡ true
      → Works b s s.kept (without kind.Fetch r s.fetches) (goes_on env (came_for (come_progress from) r (work_of b s.stay)))
  content-works b s from r kept =
      let w = came_for (come_progress from) r (work_of b s.stay) in
      let h = came-on (come_progress from) (content-comes from) r (work_of b s.stay) in
      let few = without-fewer kind.Fetch r s.fetches kept in
      let l : length w.batch ≡ length s.stay.batch = h.0 in
      let c : batch_left w.batch ≤ batch_left s.stay.batch = h.1 in
      let n : w.service.count ≡ s.stay.served = ap (λ (z : Service). z.count) h.2 in
      let block : w.service.block ≡ b = ap (λ (z : Service). z.block) h.2 in
      let asked : length (asked_kept env w.asked s.kept) ≡ length s.kept = ap (λ (o : Option Asked). length (asked_kept env o s.kept)) h.4 in
      let wants : length (wants_kept env w.wants (without kind.Fetch r s.fetches)) ≡ length (without kind.Fetch r s.fetches) = ap (λ (ws : List Want). length (wants_kept env ws (without kind.Fetch r s.fetches))) h.3 in
      goes b s s.kept (without kind.Fetch r s.fetches) w (record {
        una = let e : w.service.block.send.una ≡ b.send.una = ap (λ (z : ControlBlock). z.send.una) block in omega arith;
        shut = λ e. ap (λ (z : ControlBlock). z.send.finished) block ∙ e;
        stale = let e : is_stale x w.service.block ≡ is_stale x b = ap (is_stale x) block in omega arith;
        more = omega arith;
        cheap = omega arith;
        way = inl (omega arith);
      })

  pub read-works : (b : ControlBlock) (s : Staying) (r : ℕ) → Works b s s.kept s.fetches (goes_on env (came_for read_progress r (work_of b s.stay)))
  read-works b s r =
      let w = came_for read_progress r (work_of b s.stay) in
      let h = came-on read_progress read-comes r (work_of b s.stay) in
      let l : length w.batch ≡ length s.stay.batch = h.0 in
      let c : batch_left w.batch ≤ batch_left s.stay.batch = h.1 in
      let n : w.service.count ≡ s.stay.served = ap (λ (z : Service). z.count) h.2 in
      let block : w.service.block ≡ b = ap (λ (z : Service). z.block) h.2 in
      let asked : length (asked_kept env w.asked s.kept) ≡ length s.kept = ap (λ (o : Option Asked). length (asked_kept env o s.kept)) h.4 in
      let wants : length (wants_kept env w.wants s.fetches) ≡ length s.fetches = ap (λ (ws : List Want). length (wants_kept env ws s.fetches)) h.3 in
      goes b s s.kept s.fetches w (record {
        una = let e : w.service.block.send.una ≡ b.send.una = ap (λ (z : ControlBlock). z.send.una) block in omega arith;
        shut = λ e. ap (λ (z : ControlBlock). z.send.finished) block ∙ e;
        stale = let e : is_stale x w.service.block ≡ is_stale x b = ap (is_stale x) block in omega arith;
        more = omega arith;
        cheap = omega arith;
        way = ⊎_elim
            (λ (t : batch_left w.batch < batch_left s.stay.batch). inl (omega arith))
            (λ (t : batch_left s.stay.batch ≤ batch_left w.batch). inr (inr (inr (record {
              total = ap (λ (z : ControlBlock). z.send.total) block;
              awaits = ap (λ (z : ControlBlock). number_awaited z x.phase) block;
              asks = h.5;
              batch = read-still r (work_of b s.stay) t;
              kept_is = ap (λ (o : Option Asked). asked_kept env o s.kept) h.4;
              fetches_are = ap (λ (ws : List Want). wants_kept env ws s.fetches) h.3;
            }))))
            (cases_lt (batch_left w.batch) (batch_left s.stay.batch));
      })

  -- ---- nothing is done yet

  pub no-works : (b : ControlBlock) (s : Staying) → Works b s s.kept s.fetches (work_of b s.stay)
  no-works b s = record {
    una = omega arith;
    shut = λ e. e;
    stale = omega arith;
    more = omega arith;
    cheap = omega arith;
    way = inr (inr (inr (record { total = refl; awaits = refl; asks = refl; batch = refl; kept_is = refl; fetches_are = refl })));
  }

  -- ---- the timer: no turn of the stay

  pub timer-works : (b : ControlBlock) (s : Staying) → Works b s s.kept s.fetches (work_of (after_timer b) s.stay)
  timer-works b s =
      let h = timer-said b in
      let d = after_timer b in
      record {
        una = h.ahead.una;
        shut = h.ahead.shut;
        stale = window-on b d.send.wnd (inl h.wnd);
        more = omega arith;
        cheap = omega arith;
        way = inr (inr (inr (record { total = h.ahead.total; awaits = awaited-same x.phase b d (ap awaited h.recv); asks = refl; batch = refl; kept_is = refl; fetches_are = refl })));
      }
