-- A node's turn behind which no unit went and the spot is as it was: no request got on, the cluster's side is as it was, and the window
-- is as old as before. So the stay went on by nothing.
use Rattle.std.proofs.lemmas.Bool.{cases_lt}
use Rattle.std.proofs.Common.{◌≡◌, ◌<◌, ◌≤◌, ◌⊎◌, ◌+◌, ◌*◌, ◌==◌, ◌&&◌, ℕ, Bool, true, false, cond, List, is_some, Option, ⊎_elim, refl, sym, ap, ◌∙◌, arith}
use Rattle.lard_law_view.specs.Prelude.{BackRow, ClientBlock, ControlBlock, FilesAt, NodeEnv, NodePart, Part, Place, Station, Work, front_rest, goes_on, kept_after, node_rests, with_node}
use Rattle.lard_bound.specs.Seats.{Here, SeatNow, Staying, seat_of, staying_of, tells_end}
use Rattle.lard_bound.specs.Spots.{EndpointSymbols}
use Rattle.lard_bound.specs.Units.{Whole, client_left, heard_left, is_stale, left_with, may_return_by, nodes_left, one_if_not, requests_left, seat_left, token_of}
use Rattle.lard_law_progress.proofs.AnswersNodeSeats.{IsHere, here-seat}
use Rattle.lard_law_progress.proofs.AnswersNodeStill.{Still, left_here}
use Rattle.lard_law_progress.proofs.Away.{away-here, not-less, not-same, owed-same, seat-put, stay-less, stay-same, tells}
use Rattle.lard_law_progress.proofs.Ends.{IsSaid, speaks-said}
use Rattle.lard_law_progress.proofs.Stays.{Cheaper, Finishes, Idle, cost, goes-onward, read_of}
use Rattle.lard_law_progress.proofs.Turns.{Falls, cost_in, read_in}
use Rattle.lard_rules.specs.declared.places.Ending.TheVariants as ending

module _ (k : Whole) (K : ℕ) (files : FilesAt) (p : Part) (st : Station) (told : Bool) (n : ℕ) (b : ControlBlock) (env : NodeEnv) (h : IsHere p told n env.epoch b)
    (pp : NodePart) (before : List (Place × List ℕ)) (w0 : Work) (s : Staying) (s_is : s ≡ staying_of (p.nodes n)) where
  abbrev x : ClientBlock
  x = st.client

  abbrev w : Work
  w = goes_on env w0

  abbrev IsStill : Type 0
  IsStill = Still files p st told n b env h pp before w

  abbrev d : ControlBlock
  d = left_here files p st told n b env h pp before w

  -- What was done before the stay went on: no request came back, and the window is no staler.
  pub record Begun : Type 0 where
    pub shut : w0.service.block.send.finished ≡ b.send.finished
    pub stale : is_stale x w0.service.block ≤ is_stale x b
    pub read : read_of w0 ≡ read_in s
    pub costs : cost env pp.kept pp.fetches w0 ≤ cost_in s

  -- how it is then
  pub record Unmoved : Type 0 where
    pub stale : is_stale x w0.service.block ≡ is_stale x b
    pub costs : cost env pp.kept pp.fetches w0 ≡ cost_in s
    pub idle : Idle w0 w

  abbrev after : NodePart
  after = kept_after env pp w (ending.Here d w.service.count)

  abbrev p' : Part
  p' = with_node p n after

  abbrev left_by : SeatNow → ℕ → ℕ
  left_by z t = client_left k x + heard_left k x z + (seat_left k x z + t) + requests_left k z

  was : left_with k K p st ≡ left_by (Here told n env.epoch b s) (nodes_left k p.nodes K)
  was = ap (λ (z : SeatNow). left_by z (nodes_left k p.nodes K)) (here-seat p told n env.epoch b h ∙ ap (Here told n env.epoch b) (sym s_is))

  now : left_with k K p' st ≡ left_by (Here told n env.epoch d (staying_of after)) (nodes_left k p.nodes K)
  now =
      let seat : seat_of p' ≡ Here told n env.epoch d (staying_of after) = seat-put p n env.epoch told h.front after h.row h.with_ ∙ away-here told n env.epoch (front_rest p.front.rest).count after d refl in
      let quiet : tells after ≡ tells (p.nodes n) = sym (ap (λ (o : Option BackRow). cond (is_some (tells_end o)) 1 0) h.there) in
      let token : token_of k.leaving n after ≡ token_of k.leaving n (p.nodes n) =
      sym (ap (λ (o : Option BackRow). cond {A = ℕ} (k.leaving n && may_return_by o (p.nodes n).beside.refused) 9 0) h.there) in
      let same : nodes_left k p'.nodes K ≡ nodes_left k p.nodes K = owed-same k p.nodes n after quiet token K in
      ap (λ (z : SeatNow). left_by z (nodes_left k p'.nodes K)) seat ∙ ap (left_by (Here told n env.epoch d (staying_of after))) same

  here-part : IsStill → (node_rests env pp before w).0 ≡ after
  here-part still = ap (kept_after env pp w) still.ends_here

  pub unmoved : IsStill → Begun → read_of w ≤ k.requests → left_with k K p st ≤ left_with k K (with_node p n (node_rests env pp before w).0) st → Unmoved
  unmoved still begun few up0 =
      let up : left_with k K p st ≤ left_with k K p' st = let e : left_with k K (with_node p n (node_rests env pp before w).0) st ≡ left_with k K p' st = ap (λ (q : NodePart). left_with k K (with_node p n q) st) (here-part still) in omega (arith, up0, e) in
      let o = goes-onward env pp.kept pp.fetches w0 in
      let said : IsSaid w.service.block d = speaks-said env.serve.c w.service.block in
      let a = was in
      let c = now in
      let una : d.send.una ≡ b.send.una = ap (λ (e : EndpointSymbols). e.una) still.ends in
      let shut : b.send.finished ≡ true → d.send.finished ≡ true = λ e. said.finished ∙ o.shut (begun.shut ∙ e) in
      let f = not-less b.send.finished d.send.finished shut in
      let t1 : is_stale x d ≡ is_stale x w0.service.block = ap (λ z. one_if_not (z == x.wnd)) (said.wnd ∙ o.wnd) in
      let t2 : is_stale x w0.service.block ≤ is_stale x b = begun.stale in
      let r0 : read_of w0 ≡ read_in s = begun.read in
      let m : read_of w0 ≤ read_of w = o.more in
      let more : read_in s ≤ read_of w = omega (arith, r0, m) in
      let c0 : cost env pp.kept pp.fetches w0 ≤ cost_in s = begun.costs in
      let c1 : cost env pp.kept pp.fetches w + 4 * read_of w0 ≤ cost env pp.kept pp.fetches w0 + 4 * read_of w = o.cheap in
      let cheap : cost env pp.kept pp.fetches w + 4 * read_in s ≤ cost_in s + 4 * read_of w = omega (arith, r0, c0, c1) in
      let r1 = stay-less k (read_in s) (read_of w) (cost_in s) (cost env pp.kept pp.fetches w) more few cheap in
      let fin : d.send.finished ≡ b.send.finished = not-same b.send.finished d.send.finished shut (omega (arith, up, a, c, una, f, t1, t2, r1)) in
      let still-costs : Falls x env s pp.kept pp.fetches w → ⊥ = λ t. (let r2 = stay-same k (read_in s) (read_of w) (cost_in s) (cost env pp.kept pp.fetches w) more few t in omega (arith, up, a, c, una, f, t1, t2, r2)) in
      record {
        stale = omega (arith, up, a, c, una, f, t1, t2, r1);
        costs = ⊎_elim (λ (l : cost env pp.kept pp.fetches w0 < cost_in s). absurd (still-costs (omega (arith, l, c1, r0)))) (λ (l : cost_in s ≤ cost env pp.kept pp.fetches w0). omega (arith, l, c0)) (cases_lt (cost env pp.kept pp.fetches w0) (cost_in s));
        idle = ⊎_elim
            (λ (t : Cheaper env pp.kept pp.fetches w0 w). absurd (still-costs (omega (arith, t, r0, c0))))
            (λ (e : Finishes w0 w ⊎ ((is_some w.service.over ≡ true) ⊎ Idle w0 w)). ⊎_elim
            (λ (t : Finishes w0 w). absurd (let bad : true ≡ false = sym (said.finished ∙ t.1) ∙ fin ∙ sym begun.shut ∙ t.0 in cc))
            (λ (e2 : (is_some w.service.over ≡ true) ⊎ Idle w0 w). ⊎_elim
            (λ (t : is_some w.service.over ≡ true). absurd (let bad : true ≡ false = sym t ∙ ap (λ (o : Option ℕ). is_some o) still.none in cc))
            (λ (i : Idle w0 w). i)
            e2) e)
            o.way;
      }
