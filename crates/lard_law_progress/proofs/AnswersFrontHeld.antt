-- A connection that the front end holds, where a client's segment comes and no unit goes: its endpoint is as it was, but for what it owes.
use Rattle.std.proofs.Common.{◌≡◌, ◌⊎◌, ◌<◌, ◌≤◌, ◌+◌, ◌-◌, ◌*◌, ◌==◌, ℕ, Bool, true, false, [], is_some, Option, None, inl, inr, ⊎_elim, refl, sym, ap, ◌∙◌, arith}
use Rattle.std.proofs.lemmas.Bool.{eq-eqb, eqb-true}
use Rattle.lard_law_view.specs.Prelude.{ControlBlock, FilesAt, FrontPart, Part, Phase, Said, Sending, Service, Station, may_end, on_segment, serving, with_front}
use Rattle.lard_bound.specs.Progress.{IsWarmWord}
use Rattle.lard_bound.specs.Seats.{Held, SeatNow, seat_of}
use Rattle.lard_bound.specs.Units.{Whole, is_stale, left_with, nodes_left, one_if_not, symbols_taken}
use Rattle.lard_client.specs.declared.phase.Phase.TheVariants as phase
use Rattle.lard_law_progress.proofs.AnswersFrontGiven.{IsTalking}
use Rattle.lard_law_progress.proofs.AnswersFrontSaying.{reset-ends}
use Rattle.lard_law_progress.proofs.Away.{not-less}
use Rattle.lard_law_progress.proofs.Ends.{IsSaid, heard-ahead, heard-window}
use Rattle.lard_law_progress.proofs.Fronts.{Carries, FitsAt}
use Rattle.lard_law_progress.proofs.Less.{left_by}
use Rattle.lard_law_progress.proofs.Reading.{Further, IsSame}
use Rattle.lard_law_progress.proofs.Stays.{IsAlike}

-- ---- by what is left

-- as much is acknowledged, as many responses were queued, and the window and the side are no better
pub record IsAsLeft (st : Station) (b e : ControlBlock) (were are_ : ℕ) : Type 0 where
  pub una : e.send.una ≡ b.send.una
  pub count : are_ ≡ were
  pub shut : one_if_not b.send.finished ≤ one_if_not e.send.finished
  pub stale : is_stale st.client b ≤ is_stale st.client e

same-una : (a y z : ℕ) → z ≤ y → y ≤ a → a - z ≤ a - y → y ≡ z
same-una a y z up in_ e = omega arith

same-count : (n c m : ℕ) → c ≤ m → m ≤ n → 4 * (n - c) ≤ 4 * (n - m) → m ≡ c
same-count n c m e l h = omega arith

less-count : (n c m : ℕ) → c ≤ m → 4 * (n - m) ≤ 4 * (n - c)
less-count n c m e = omega arith

pub held-as-left : (k : Whole) (K : ℕ) (files : FilesAt) (p : Part) (st : Station) (b e : ControlBlock) (count more : ℕ) (f : FrontPart) → seat_of p ≡ Held b count → seat_of (with_front p f) ≡ Held e more
    → Carries st.client b e count more → FitsAt k st.client e more → left_with k K p st ≤ left_with k K (with_front p f) st → IsAsLeft st b e count more
held-as-left k K files p st b e count more f seat now keeps fits up =
    let w : left_with k K p st ≡ left_by k st (Held b count) (nodes_left k p.nodes K) = ap (λ (z : SeatNow). left_by k st z (nodes_left k p.nodes K)) seat in
    let n : left_with k K (with_front p f) st ≡ left_by k st (Held e more) (nodes_left k p.nodes K) = ap (λ (z : SeatNow). left_by k st z (nodes_left k p.nodes K)) now in
    let u1 : b.send.una ≤ e.send.una = keeps.una in
    let u2 : e.send.una ≤ symbols_taken st.client = fits.acked in
    let u3 : symbols_taken st.client ≤ k.answers + 2 = fits.taken_in in
    let s = not-less b.send.finished e.send.finished keeps.shut in
    let t : is_stale st.client e ≤ is_stale st.client b = keeps.stale in
    let c = less-count k.requests count more keeps.up in record {
      una = same-una (k.answers + 2) e.send.una b.send.una u1 (omega (arith, u2, u3)) (omega (arith, up, w, n, u1, s, t, c));
      count = same-count k.requests count more keeps.up fits.few (omega (arith, up, w, n, u1, s, t, c));
      shut = omega (arith, up, w, n, u1, s, t, c);
      stale = omega (arith, up, w, n, u1, s, t, c);
    }

-- ---- what came

module _ (st : Station) (b : ControlBlock) (s : Said) (count : ℕ) where
  abbrev d : ControlBlock
  d = (on_segment b s).1

  -- what is read of it, and what is said then
  module _ (q : Service) (e : ControlBlock) (further : Further (serving d count []) q) (said : IsSaid q.block e) where
    -- the window is as it was, or the client's
    pub carries-on : (d.send.wnd ≡ b.send.wnd) ⊎ (d.send.wnd ≡ st.client.wnd) → Carries st.client b e count q.count
    carries-on window =
        let a = heard-ahead b s in record {
          una = let x : e.send.una ≡ q.block.send.una = said.una in let y : q.block.send.una ≡ d.send.una = further.una in let z : b.send.una ≤ d.send.una = a.una in omega (arith, x, y, z);
          shut = λ f. said.finished ∙ further.shut (a.shut f);
          stale =
              let same : is_stale st.client e ≡ is_stale st.client d = ap (λ n. one_if_not (n == st.client.wnd)) (said.wnd ∙ further.wnd) in
              ⊎_elim
              (λ (h : d.send.wnd ≡ b.send.wnd). let i : is_stale st.client d ≡ is_stale st.client b = ap (λ n. one_if_not (n == st.client.wnd)) h in omega (arith, same, i))
              (λ (h : d.send.wnd ≡ st.client.wnd). let i : is_stale st.client d ≡ 0 = ap one_if_not (eq-eqb d.send.wnd st.client.wnd h) in omega (arith, same, i))
              window;
          up = further.more;
        }

    -- so where no unit goes, nothing changes but that less is unread
    pub reads-nothing : q.over ≡ None → IsAsLeft st b e count q.count → IsAlike d q.block
    reads-nothing none left =
        ⊎_elim
        (λ (t : count < q.count). absurd (let c : q.count ≡ count = left.count in omega (arith, c, t)))
        (λ (r : ((d.send.finished ≡ false) × (q.block.send.finished ≡ true)) ⊎ ((is_some q.over ≡ true) ⊎ IsSame (serving d count []) q)). ⊎_elim
        (λ (t : (d.send.finished ≡ false) × (q.block.send.finished ≡ true)). absurd (opens b.send.finished d.send.finished e.send.finished (heard-ahead b s).shut t.0 (said.finished ∙ t.1) left.shut))
        (λ (r2 : (is_some q.over ≡ true) ⊎ IsSame (serving d count []) q). ⊎_elim
        (λ (t : is_some q.over ≡ true). absurd (let bad : true ≡ false = sym t ∙ ap (λ (o : Option ℕ). is_some o) none in cc))
        (λ (i : IsSame (serving d count []) q). i.block) r2) r)
        further.way
      where
        opens : (p m f : Bool) → (p ≡ true → m ≡ true) → m ≡ false → f ≡ true → one_if_not p ≤ one_if_not f → ⊥
        opens true m f on no_ over low = let bad : true ≡ false = sym (on refl) ∙ no_ in cc
        opens false m f on no_ over low = let g : one_if_not f ≡ 0 = ap one_if_not over in omega (arith, g, low)

    -- and its window too
    pub same-window : (d.send.wnd ≡ b.send.wnd) ⊎ (d.send.wnd ≡ st.client.wnd) → IsAsLeft st b e count q.count → d.send.wnd ≡ b.send.wnd
    same-window (inl h) left = h
    same-window (inr h) left =
        let same : is_stale st.client e ≡ one_if_not (d.send.wnd == st.client.wnd) = ap (λ n. one_if_not (n == st.client.wnd)) (said.wnd ∙ further.wnd) in
        let now : one_if_not (d.send.wnd == st.client.wnd) ≡ 0 = ap one_if_not (eq-eqb d.send.wnd st.client.wnd h) in
        let low : is_stale st.client b ≤ is_stale st.client e = left.stale in
        h ∙ sym (eqb-true b.send.wnd st.client.wnd (none (b.send.wnd == st.client.wnd) (omega (arith, low, same, now))))
      where
        none : (t : Bool) → one_if_not t ≤ 0 → t ≡ true
        none true low = refl
        none false low = absurd (omega (arith, low))

    -- one that was reset ends
    pub no-reset : IsAlike d q.block → may_end e ≡ false → d ≡ record b { reset = true } → ⊥
    no-reset alike stays is =
        let over = reset-ends e (said.reset ∙ alike.reset ∙ ap (λ (z : ControlBlock). z.reset) is) in let bad : true ≡ false = sym over ∙ stays in cc

-- ---- the window that comes

pub window-came : (st : Station) (b : ControlBlock) (s : Said) → IsTalking st b → IsWarmWord st.client s st.client.phase → (s.flags.rst ≡ true → (on_segment b s).1.send ≡ b.send)
    → ((on_segment b s).1.send.wnd ≡ b.send.wnd) ⊎ ((on_segment b s).1.send.wnd ≡ st.client.wnd)
window-came st b s talk warm resets = go st.client.phase refl warm where
  go : (ph : Phase) → st.client.phase ≡ ph → IsWarmWord st.client s ph → ((on_segment b s).1.send.wnd ≡ b.send.wnd) ⊎ ((on_segment b s).1.send.wnd ≡ st.client.wnd)
  go phase.Open is warm = ⊎_elim (λ (e : (on_segment b s).1.send.wnd ≡ b.send.wnd). inl e) (λ (e : (on_segment b s).1.send.wnd ≡ s.wnd). inr (e ∙ warm)) (heard-window b s)
  go phase.Aborted is warm = inl (ap (λ (z : Sending). z.wnd) (resets warm))
  go phase.Reset is warm = absurd (talk.here is)
