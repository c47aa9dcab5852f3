-- The front end hears a segment of a connection that it has, and its timer fires: nothing that is left to do comes back.
use Rattle.std.proofs.Common.{◌≡◌, ◌⊎◌, ◌<◌, ◌≤◌, ◌==◌, ℕ, Bool, true, false, [], is_some, Option, None, inl, inr, ⊎_elim, refl, sym, ap, ◌∙◌, arith}
use Rattle.lard_law_view.specs.Prelude.{ClientBlock, ControlBlock, Ending, FilesAt, Final, FrontConn, FrontPart, FrontRest, FrontRow, NodeEnv, Part, Phase, Said, Sending, ServeEnv, Service, Station, after_timer, awaited, front_rests, on_segment, rested, serving, serving_settled, speaks, with_front}
use Rattle.lard_bound.specs.Progress.{IsWarmWord}
use Rattle.lard_bound.specs.Seats.{Held, Over, seat_of}
use Rattle.lard_bound.specs.Spots.{number_awaited}
use Rattle.lard_bound.specs.Units.{Whole, is_stale, one_if_not, symbols_taken}
use Rattle.lard_client.specs.declared.phase.Phase.TheVariants as phase
use Rattle.lard_handoff_front.specs.declared.row.FrontConn.TheVariants as stage
use Rattle.lard_law_progress.proofs.Away.{by-ending}
use Rattle.lard_law_progress.proofs.Ends.{IsSaid, heard-ahead, heard-window, speaks-said, timer-said}
use Rattle.lard_law_progress.proofs.Fronts.{Carries, FitsAt, Keeps, held-less, over-less}
use Rattle.lard_law_progress.proofs.Less.{Lasting}
use Rattle.lard_law_progress.proofs.Reading.{Further, IsSame}
use Rattle.lard_law_progress.proofs.Turns.{awaited-same, reset-passed, window-on}
use Rattle.lard_rules.specs.declared.places.Ending.TheVariants as ending
use Rattle.lard_rules.proofs.Endings.{rested-keeps}

-- where what was read may end, without the stream limit
pub by-rest : (c : ℕ) (b : ControlBlock) (count : ℕ) (P : Ending → Type 0) → P (ending.Here (speaks c b).1 count) → ((last : Final) → P (ending.Over last)) → P (rested (speaks c b).1 count)
by-rest c b count P here over = rested-keeps P (speaks c b).1 count (λ t. over _) (λ t. here)

module _ (k : Whole) (K : ℕ) (files : FilesAt) (p : Part) (st : Station) (b : ControlBlock) (count : ℕ) (held : seat_of p ≡ Held b count) (acked : b.send.una ≤ symbols_taken st.client) where
  abbrev x : ClientBlock
  x = st.client

  abbrev To : FrontPart → Type 0
  To f = Lasting k K files p st (with_front p f) st

  -- an endpoint in hand before its requests are read: what came changed what is acknowledged, and the window, to one that is its own
  pub record Came (d : ControlBlock) : Type 0 where
    pub una : b.send.una ≤ d.send.una
    pub shut : b.send.finished ≡ true → d.send.finished ≡ true
    pub stale : is_stale x d ≤ is_stale x b
    pub total : d.send.total ≡ b.send.total
    pub waits : number_awaited d x.phase ≡ number_awaited b x.phase

  seat-held : (f : FrontPart) (row : FrontRow) (rest : FrontRest) (d : ControlBlock) (n : ℕ) → seat_of (with_front p (front_rests f row rest stage.Held (ending.Here d n))) ≡ Held d n
  unfolding seat_of
  seat-held f row rest d n = refl

  seat-over : (f : FrontPart) (row : FrontRow) (rest : FrontRest) (stays : ControlBlock → FrontConn) (last : Final) → seat_of (with_front p (front_rests f row rest stays (ending.Over last))) ≡ Over last
  unfolding seat_of
  seat-over f row rest stays last = refl

  pub carries : (env : NodeEnv) (d : ControlBlock) (w : Service) (e : ControlBlock) → Came d → Further (serving d count []) w → IsSaid w.block e → Carries x b e count w.count
  carries env d w e came h said = record {
    una = let a : e.send.una ≡ w.block.send.una = said.una in let c : w.block.send.una ≡ d.send.una = h.una in let u : b.send.una ≤ d.send.una = came.una in omega (arith, a, c, u);
    shut = λ t. said.finished ∙ h.shut (came.shut t);
    stale = let s : is_stale x e ≡ is_stale x d = ap (λ n. one_if_not (n == x.wnd)) (said.wnd ∙ h.wnd) in let t : is_stale x d ≤ is_stale x b = came.stale in omega (arith, s, t);
    up = h.more;
  }

  keeps : (env : NodeEnv) (d : ControlBlock) (w : Service) (e : ControlBlock) → Came d → Further (serving d count []) w → w.over ≡ None → IsSaid w.block e → Keeps x b e count w.count
  keeps env d w e came h none said =
      let c = carries env d w e came h said in record {
        una = c.una;
        shut = c.shut;
        stale = c.stale;
        up = c.up;
        way = ⊎_elim
            (λ (t : count < w.count). inl t)
            (λ (r : ((d.send.finished ≡ false) × (w.block.send.finished ≡ true)) ⊎ ((is_some w.over ≡ true) ⊎ IsSame (serving d count []) w)). ⊎_elim
            (λ (t : (d.send.finished ≡ false) × (w.block.send.finished ≡ true)). inr (inl (still-open b.send.finished d.send.finished came.shut t.0, said.finished ∙ t.1)))
            (λ (r2 : (is_some w.over ≡ true) ⊎ IsSame (serving d count []) w). ⊎_elim
            (λ (t : is_some w.over ≡ true). absurd (let bad : true ≡ false = sym t ∙ ap (λ (o : Option ℕ). is_some o) none in cc))
            (λ (i : IsSame (serving d count []) w). inr (inr (
              said.ahead.total ∙ ap (λ (s : Sending). s.total) i.block.send ∙ came.total,
              awaited-same x env x.phase d e (ap awaited said.recv ∙ i.block.awaits) ∙ came.waits,
            ))) r2) r)
            h.way;
      }
    where
      still-open : (p q : Bool) → (p ≡ true → q ≡ true) → q ≡ false → p ≡ false
      still-open true q on e = absurd (let bad : true ≡ false = sym (on refl) ∙ e in cc)
      still-open false q on e = refl

  -- what was read is said: it is held, or it ended
  pub held-lasts : (env : NodeEnv) (serve : ServeEnv) (f : FrontPart) (row : FrontRow) (rest : FrontRest) (d : ControlBlock) → Came d → (w : Service) → Further (serving d count []) w
      → ((e : ControlBlock) (n : ℕ) → (serving_settled serve w).0 ≡ ending.Here e n → FitsAt k x e n) → To (front_rests f row rest stage.Held (serving_settled serve w).0)
  held-lasts env serve f row rest d came w h fits =
      by-ending serve w (λ (o : Ending). ((e : ControlBlock) (n : ℕ) → o ≡ ending.Here e n → FitsAt k x e n) → To (front_rests f row rest stage.Held o))
      (λ none fit. let e = (speaks serve.c w.block).1 in
      held-less k K files p st b count held acked (front_rests f row rest stage.Held (ending.Here e w.count)) e w.count (seat-held f row rest e w.count) (keeps env d w e came h none (speaks-said serve.c w.block)) (fit e w.count refl))
      (λ last fit. over-less k K files p st b count held acked (front_rests f row rest stage.Held (ending.Over last)) last (seat-over f row rest stage.Held last))
      fits

  -- a segment
  came-by : (env : NodeEnv) (said : Said) (ph : Phase) → x.phase ≡ ph → IsWarmWord x said ph → (ph ≡ phase.Reset → ⊥) → Came (on_segment b said).1
  came-by env said phase.Reset is warm here = absurd (here refl)
  came-by env said phase.Open is warm here =
      let a = heard-ahead b said in
      let d = (on_segment b said).1 in
      record {
        una = a.una;
        shut = a.shut;
        stale = window-on x env b d.send.wnd (⊎_elim (λ (e : d.send.wnd ≡ b.send.wnd). inl e) (λ (e : d.send.wnd ≡ said.wnd). inr (e ∙ warm)) (heard-window b said));
        total = a.total;
        waits = ap (number_awaited d) is ∙ sym (ap (number_awaited b) is);
      }
  came-by env said phase.Aborted is warm here =
      let a = heard-ahead b said in
      let d = (on_segment b said).1 in
      let same = reset-passed x env b said warm in
      record {
        una = a.una;
        shut = a.shut;
        stale = window-on x env b d.send.wnd (inl (ap (λ (z : Sending). z.wnd) same.0));
        total = a.total;
        waits = awaited-same x env x.phase b d (ap awaited same.1);
      }

  pub segment-came : (env : NodeEnv) (said : Said) → IsWarmWord x said x.phase → (x.phase ≡ phase.Reset → ⊥) → Came (on_segment b said).1
  segment-came env said warm here = came-by env said x.phase refl warm here

  -- the timer: it says again what it may, and stays or ends
  pub timer-lasts : (env : NodeEnv) (c : ℕ) (f : FrontPart) (row : FrontRow) (rest : FrontRest)
      → ((e : ControlBlock) (n : ℕ) → rested (speaks c (after_timer b)).1 count ≡ ending.Here e n → FitsAt k x e n) → To (front_rests f row rest stage.Held (rested (speaks c (after_timer b)).1 count))
  timer-lasts env c f row rest fits =
      let t = timer-said b in
      by-rest c (after_timer b) count (λ (o : Ending). ((e : ControlBlock) (n : ℕ) → o ≡ ending.Here e n → FitsAt k x e n) → To (front_rests f row rest stage.Held o))
      (λ fit. let e = (speaks c (after_timer b)).1 in let s = speaks-said c (after_timer b) in
      held-less k K files p st b count held acked (front_rests f row rest stage.Held (ending.Here e count)) e count (seat-held f row rest e count)
      (record {
        una = let u : e.send.una ≡ (after_timer b).send.una = s.una in let v : (after_timer b).send.una ≡ b.send.una = t.una in omega (arith, u, v);
        shut = λ z. s.finished ∙ t.finished ∙ z;
        stale = window-on x env b e.send.wnd (inl (s.wnd ∙ t.wnd));
        up = omega arith;
        way = inr (inr (s.ahead.total ∙ t.ahead.total, awaited-same x env x.phase b e (ap awaited (s.recv ∙ t.recv))));
      }) (fit e count refl))
      (λ last fit. over-less k K files p st b count held acked (front_rests f row rest stage.Held (ending.Over last)) last (seat-over f row rest stage.Held last))
      fits
