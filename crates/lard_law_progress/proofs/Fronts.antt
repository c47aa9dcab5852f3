-- A connection that the front end has, and what becomes of it in a step: nothing that is left to do on it comes back.
use Rattle.std.proofs.Common.{◌≡◌, ◌⊎◌, ◌<◌, ◌≤◌, ◌+◌, ◌-◌, ◌*◌, ℕ, zero, suc, Bool, true, false, ⊎_elim, refl, sym, ap, ◌∙◌, arith}
use Rattle.lard_law_view.specs.Prelude.{ClientBlock, ControlBlock, FilesAt, Final, FrontPart, Part, Phase, Station, one_if, symbols, with_front}
use Rattle.lard_bound.specs.Seats.{Held, Offered, Over, SeatNow, Waiting, seat_of, tells_over}
use Rattle.lard_bound.specs.Spots.{AtFront, number_awaited, ends_of, post_of, spot_of}
use Rattle.lard_bound.specs.Units.{Whole, block_left, client_left, ended_left, hand_off, heard_left, is_stale, left_with, nodes_left, one_if_not, requests_left, seat_left, symbols_taken}
use Rattle.lard_client.specs.declared.phase.Phase.TheVariants as phase
use Rattle.lard_law_progress.proofs.Away.{not-less, not-same}
use Rattle.lard_law_progress.proofs.Less.{Lasting}

-- Of an endpoint that the front end has, of which so many responses were queued: it is as good as it was.
pub record Carries (x : ClientBlock) (b d : ControlBlock) (count more : ℕ) : Type 0 where
  pub una : b.send.una ≤ d.send.una
  pub shut : b.send.finished ≡ true → d.send.finished ≡ true
  pub stale : is_stale x d ≤ is_stale x b
  pub up : count ≤ more

-- Of an endpoint that the front end has, of which so many responses were queued: it is as good as it was, and better, or the same.
pub record Keeps (x : ClientBlock) (b d : ControlBlock) (count more : ℕ) : Type 0 where
  pub una : b.send.una ≤ d.send.una
  pub shut : b.send.finished ≡ true → d.send.finished ≡ true
  pub stale : is_stale x d ≤ is_stale x b
  pub up : count ≤ more
  pub way : (count < more) ⊎ (((b.send.finished ≡ false) × (d.send.finished ≡ true)) ⊎ ((d.send.total ≡ b.send.total) × (number_awaited d x.phase ≡ number_awaited b x.phase)))

-- what holds of a connection that the front end still has: no more is acknowledged than was taken, and no more answered than there is
pub record FitsAt (k : Whole) (x : ClientBlock) (d : ControlBlock) (count : ℕ) : Type 0 where
  pub acked : d.send.una ≤ symbols_taken x
  pub taken_in : symbols_taken x ≤ k.answers + 2
  pub few : count ≤ k.requests

same-una : (a y z : ℕ) → z ≤ y → y ≤ a → a - z ≤ a - y → y ≡ z
same-una a y z up in_ e = omega arith

count-less : (n c m : ℕ) → c ≤ m → 4 * (n - m) ≤ 4 * (n - c)
count-less n c m e = omega arith

count-falls : (n c m : ℕ) → c < m → m ≤ n → 4 * (n - m) < 4 * (n - c)
count-falls n c m e l = omega arith

module _ (k : Whole) (K : ℕ) (files : FilesAt) (p : Part) (st : Station) (b : ControlBlock) (count : ℕ) (seat : seat_of p ≡ Held b count) (acked : b.send.una ≤ symbols_taken st.client) where
  abbrev x : ClientBlock
  x = st.client

  abbrev left_by : SeatNow → ℕ
  left_by z = client_left k x + heard_left k x z + (seat_left k x z + nodes_left k p.nodes K) + requests_left k z

  abbrev pub IsLess : Part → Type 0
  IsLess p' = Lasting k K files p st p' st

  was : left_with k K p st ≡ left_by (Held b count)
  was = ap left_by seat

  -- it is somewhere else: a unit goes
  leaves : (f : FrontPart) (z : SeatNow) → seat_of (with_front p f) ≡ z → left_by z < left_by (Held b count) → IsLess (with_front p f)
  leaves f z is low =
      let now : left_with k K (with_front p f) st ≡ left_by z = ap left_by is in
      let w = was in
      record { less = omega (arith, now, w, low); steady = λ up. absurd (omega (arith, up, now, w, low)) }

  ended-less : (ph : Phase) → ended_left k x ph ≤ block_left k x b
  ended-less phase.Open = let l : b.send.una ≤ symbols_taken x = acked in omega arith
  ended-less phase.Aborted = let l : b.send.una ≤ symbols_taken x = acked in omega arith
  ended-less phase.Reset = omega arith

  pub over-less : (f : FrontPart) (last : Final) → seat_of (with_front p f) ≡ Over last → IsLess (with_front p f)
  over-less f last is = leaves f (Over last) is (let h = ended-less x.phase in omega (arith, h))

  some-more : (n : ℕ) → 1 ≤ n → hand_off n ≡ 7
  some-more zero e = absurd (omega arith)
  some-more (suc n) e = refl

  -- handed off, where there is a request, and all that was said is acknowledged
  pub offered-less : (f : FrontPart) (n e : ℕ) (d : ControlBlock) (more : ℕ) → seat_of (with_front p f) ≡ Offered n e more → Carries x b d count more → d.send.finished ≡ false → 1 ≤ k.requests → IsLess (with_front p f)
  offered-less f n e d more is keeps open_ some = leaves f (Offered n e more) is
      (let u : b.send.una ≤ symbols_taken x = acked in
      let h = some-more k.requests some in
      let c = count-less k.requests count more keeps.up in
      let o : one_if_not b.send.finished ≡ 1 = opens b.send.finished d.send.finished keeps.shut open_ in
      omega (arith, h, c, o))
    where
      opens : (p q : Bool) → (p ≡ true → q ≡ true) → q ≡ false → one_if_not p ≡ 1
      opens true q on e = absurd (let bad : true ≡ false = sym (on refl) ∙ e in cc)
      opens false q on e = refl

  -- it goes to the line
  pub waiting-less : (f : FrontPart) (d : ControlBlock) (more : ℕ) → seat_of (with_front p f) ≡ Waiting d more → Carries x b d count more → 1 ≤ k.requests → IsLess (with_front p f)
  waiting-less f d more is keeps some = leaves f (Waiting d more) is
      (let u : b.send.una ≤ d.send.una = keeps.una in
      let h = some-more k.requests some in
      let c = count-less k.requests count more keeps.up in
      let s = not-less b.send.finished d.send.finished keeps.shut in
      omega (arith, h, c, s))

  same-spot : (f : FrontPart) (d : ControlBlock) (more : ℕ) → seat_of (with_front p f) ≡ Held d more → d.send.una ≡ b.send.una → d.send.finished ≡ b.send.finished → d.send.total ≡ b.send.total
      → number_awaited d x.phase ≡ number_awaited b x.phase → spot_of files (with_front p f) st ≡ spot_of files p st
  unfolding spot_of
  same-spot f d more is u fin total waits =
      let ends : ends_of x d ≡ ends_of x b = λ i. record { una = u i; symbols = 1 + total i + one_if (fin i); awaited = waits i } in
      let post : post_of files x (seat_of (with_front p f)) ≡ post_of files x (seat_of p) = ap (post_of files x) is ∙ ap AtFront ends ∙ sym (ap (post_of files x) seat) in
      λ i. record { phase = x.phase; isn = x.send.iss; iss = st.iss; una = x.send.una; last = symbols x.send; post = post i; telling = λ z. tells_over (p.nodes z) }

  -- it stays
  pub held-less : (f : FrontPart) (d : ControlBlock) (more : ℕ) → seat_of (with_front p f) ≡ Held d more → Keeps x b d count more → FitsAt k x d more → IsLess (with_front p f)
  held-less f d more is keeps fits =
      let p' = with_front p f in
      let now : left_with k K p' st ≡ left_by (Held d more) = ap left_by is in
      let w = was in
      let u1 : b.send.una ≤ d.send.una = keeps.una in
      let u2 : d.send.una ≤ symbols_taken x = fits.acked in
      let u3 : symbols_taken x ≤ k.answers + 2 = fits.taken_in in
      let s = not-less b.send.finished d.send.finished keeps.shut in
      let t : is_stale x d ≤ is_stale x b = keeps.stale in
      let c = count-less k.requests count more keeps.up in record {
        less = omega (arith, now, w, u1, s, t, c);
        steady = λ up.
            let u : d.send.una ≡ b.send.una = same-una (k.answers + 2) d.send.una b.send.una u1 (omega (arith, u2, u3)) (omega (arith, up, now, w, u1, s, t, c)) in
            let g : one_if_not b.send.finished ≤ one_if_not d.send.finished = omega (arith, up, now, w, u1, s, t, c) in
            let fin : d.send.finished ≡ b.send.finished = not-same b.send.finished d.send.finished keeps.shut g in
            let r : 4 * (k.requests - count) ≤ 4 * (k.requests - more) = omega (arith, up, now, w, u1, s, t, c) in
            ⊎_elim
            (λ (l : count < more). absurd (let v = count-falls k.requests count more l fits.few in omega (arith, v, r)))
            (λ (e : ((b.send.finished ≡ false) × (d.send.finished ≡ true)) ⊎ ((d.send.total ≡ b.send.total) × (number_awaited d x.phase ≡ number_awaited b x.phase))). ⊎_elim
            (λ (l : (b.send.finished ≡ false) × (d.send.finished ≡ true)). absurd (let bad : true ≡ false = sym l.1 ∙ fin ∙ l.0 in cc))
            (λ (l : (d.send.total ≡ b.send.total) × (number_awaited d x.phase ≡ number_awaited b x.phase)). same-spot f d more is u fin l.0 l.1) e)
            keeps.way;
      }
