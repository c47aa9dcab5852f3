-- A connection whose stay goes on, or ends, at the node that has it: nothing that is left to do on it comes back.
use Rattle.std.proofs.Common.{◌≡◌, ◌⊎◌, ◌<◌, ◌≤◌, ◌+◌, ◌-◌, ◌*◌, ◌==◌, ◌&&◌, ℕ, zero, suc, Bool, true, false, cond, List, [], length, is_some, Option, Some, None, ⊎_elim, refl, sym, ap, ◌∙◌, subst, arith}
use Rattle.std.proofs.lemmas.Bool.{cond_both, cond-true, eq-eqb, eqb-true}
use Rattle.std.proofs.lemmas.Bool.Decides.{nat_tests}
use Rattle.lard_law_view.specs.Prelude.{BackRow, ClientBlock, ControlBlock, Ending, Entry, FilesAt, Final, FrontConn, FrontRow, Kept, NodeEnv, NodePart, Part, Phase, Place, ServeEnv, Service, Station, Stay, Work, asked_kept, awaited, front_rest, kept_after, kept_back, named_paths, node_put_back, node_rests, one_if, serving_settled, speaks, symbols, wants_kept, with_node}
use Rattle.lard_bound.specs.Seats.{Gone, Here, Returned, SeatNow, Staying, seat_away, seat_by, seat_decided, seat_in, seat_of, seat_over, seat_over_by, seat_untaken, staying_of, telling_by, tells_end, tells_over}
use Rattle.lard_bound.specs.Spots.{AtNode, number_awaited, ends_of, post_of, spot_of}
use Rattle.lard_bound.specs.Units.{Whole, block_left, client_left, ended_left, heard_left, is_stale, left_with, may_return, may_return_by, nodes_left, one_if_not, requests_left, seat_left, stay_left, sum_of, symbols_taken, tells_of, token_of}
use Rattle.lard_client.specs.declared.phase.Phase.TheVariants as phase
use Rattle.lard_handoff_back.specs.declared.row.BackConn.TheVariants as back
use Rattle.lard_handoff_back.specs.Table.{Beside}
use Rattle.lard_handoff_front.specs.declared.row.FrontConn.TheVariants as stage
use Rattle.lard_law_progress.proofs.Ends.{IsSaid, speaks-said}
use Rattle.lard_law_progress.proofs.Less.{Lasting}
use Rattle.lard_law_progress.proofs.Stays.{cost, read_of}
use Rattle.lard_law_progress.proofs.Turns.{Falls, Rests, Works, awaited-same, cost_in, read_in}
use Rattle.lard_rules.specs.declared.places.Ending.TheVariants as ending
use Rattle.lard_rules.proofs.NodeCases.{IsHereWith}
use Rattle.lard_rules.proofs.Endings.{rested-keeps, settled-keeps}

self : (n : ℕ) → (n == n) ≡ true
self n = grind (arith, nat_tests)

-- ---- where it is, behind a step of its node

-- the front end's stage, where it is with node n in epoch e, and knows so or not
abbrev pub IsWith : Bool → ℕ → ℕ → FrontConn → Type 0
IsWith false n e c = c ≡ stage.Offering n (record { 0 = e })
IsWith true n e c = c ≡ stage.Moved n (record { 0 = e })

pub put-there : (nodes : ℕ → NodePart) (n : ℕ) (q : NodePart) → node_put_back nodes n q n ≡ q
put-there nodes n q = cond-true (n == n) q (nodes n) (self n)

pub seat-with : (p : Part) (n e : ℕ) (told : Bool) (row : FrontRow) → p.front.row ≡ Some row → IsWith told n e row.stage → seat_of p ≡ seat_away told n e (front_rest p.front.rest).count (p.nodes n)
unfolding seat_of
seat-with p n e false row front with_ = ap (λ (o : Option FrontRow). seat_by p.front p.nodes o) front ∙ ap (seat_in p.front p.nodes) with_
seat-with p n e true row front with_ = ap (λ (o : Option FrontRow). seat_by p.front p.nodes o) front ∙ ap (seat_in p.front p.nodes) with_

pub seat-put : (p : Part) (n e : ℕ) (told : Bool) (row : FrontRow) (q : NodePart) → p.front.row ≡ Some row → IsWith told n e row.stage
    → seat_of (with_node p n q) ≡ seat_away told n e (front_rest p.front.rest).count q
seat-put p n e told row q front with_ = seat-with (with_node p n q) n e told row front with_ ∙ ap (seat_away told n e (front_rest p.front.rest).count) (put-there p.nodes n q)

pub away-here : (told : Bool) (n e count : ℕ) (q : NodePart) (b : ControlBlock) → q.row ≡ Some (record { stage = back.Here b; epoch = record { 0 = e } }) → seat_away told n e count q ≡ Here told n e b (staying_of q)
away-here told n e count q b is = ap (seat_decided told n e count q) is ∙ cond-true (e == e) (Here told n e b (staying_of q)) (seat_untaken n e count q)
    (self e)

pub away-over : (told : Bool) (n e count : ℕ) (q : NodePart) → q.row ≡ Some (record { stage = back.Ended; epoch = record { 0 = e } })
    → seat_away told n e count q ≡ seat_over told n e q
away-over told n e count q is = ap (seat_decided told n e count q) is ∙ cond-true (e == e) (seat_over told n e q) (seat_untaken n e count q) (self e)

-- one that was not given back
pub away-ended : (told : Bool) (n e count : ℕ) (q : NodePart) → q.row ≡ Some (record { stage = back.Ended; epoch = record { 0 = e } })
    → q.beside.returned ≡ None → seat_away told n e count q ≡ Gone told n e
away-ended told n e count q is none = away-over told n e count q is ∙ ap (seat_over_by told n e) none

-- the row of a connection that a rule finds here
pub here-row : (e : ℕ) (q : NodePart) (b : ControlBlock) (s : Stay) → IsHereWith e q b s
    → q.row ≡ Some (record { stage = back.Here b; epoch = record { 0 = e } })
here-row e q b s at = at.found ∙ λ i. Some (record { stage = at.staged i; epoch = record { 0 = at.epoch_is i } })

-- ---- what a node owes: its end, or what it may send back

abbrev pub tells : NodePart → ℕ
tells q = tells_of 0 q

-- a sum over all nodes, where one of them keeps something else
module _ (f : ℕ → NodePart → ℕ) (nodes : ℕ → NodePart) (n : ℕ) (q : NodePart) where
  sum-below : (m : ℕ) → m < n → sum_of f (node_put_back nodes n q) m ≡ sum_of f nodes m
  sum-below zero low = refl
  sum-below (suc m) low =
      let other : (suc m == n) ≡ false = apart (suc m) n low in
      let rest : sum_of f (node_put_back nodes n q) m ≡ sum_of f nodes m = sum-below m (omega (arith, low)) in
      let one : f (suc m) (cond (suc m == n) q (nodes (suc m))) ≡ f (suc m) (nodes (suc m)) = ap (λ (b : Bool). f (suc m) (cond b q (nodes (suc m)))) other in
      omega (arith, rest, one)
    where
      apart : (a b : ℕ) → a < b → (a == b) ≡ false
      apart a b l = grind (arith, nat_tests, l)

  at-one : (m : ℕ) → suc m ≡ n → (f (suc m) (cond (suc m == n) q (nodes (suc m))) ≡ f n q) × (f (suc m) (nodes (suc m)) ≡ f n (nodes n))
  at-one m is = ((λ i. f (is i) (cond (eq-eqb (suc m) n is i) q (nodes (suc m)))), (λ i. f (is i) (nodes (is i))))

  -- as much more as it has more
  sum-moves : 1 ≤ n → (m : ℕ) → n ≤ m → sum_of f (node_put_back nodes n q) m + f n (nodes n) ≡ sum_of f nodes m + f n q
  sum-moves some zero in_ = absurd (omega (arith, some, in_))
  sum-moves some (suc m) in_ = go (suc m == n) refl (λ i. sum-moves some m i) where
    go : (b : Bool) → (suc m == n) ≡ b → (n ≤ m → sum_of f (node_put_back nodes n q) m + f n (nodes n) ≡ sum_of f nodes m + f n q)
        → f (suc m) (cond (suc m == n) q (nodes (suc m))) + sum_of f (node_put_back nodes n q) m + f n (nodes n) ≡ f (suc m) (nodes (suc m)) + sum_of f nodes m + f n q
    go true is later =
        let same : suc m ≡ n = eqb-true (suc m) n is in
        let both = at-one m same in
        let rest = sum-below m (omega (arith, same)) in
        let a = both.0 in let b = both.1 in omega (arith, a, b, rest)
    go false is later =
        let one : f (suc m) (cond (suc m == n) q (nodes (suc m))) ≡ f (suc m) (nodes (suc m)) = ap (λ (b : Bool). f (suc m) (cond b q (nodes (suc m)))) is in
        let low : n < suc m = differ (suc m) n is in_ in
        let rest = later (omega (arith, low)) in omega (arith, one, rest)
      where
        differ : (a b : ℕ) → (a == b) ≡ false → b ≤ a → b < a
        differ a b e l = grind (arith, nat_tests, e, l)

  -- that much more at the most
  sum-put : (m : ℕ) → sum_of f (node_put_back nodes n q) m ≤ sum_of f nodes m + f n q
  sum-put zero = omega arith
  sum-put (suc m) = go (suc m == n) refl (sum-put m) where
    go : (b : Bool) → (suc m == n) ≡ b → sum_of f (node_put_back nodes n q) m ≤ sum_of f nodes m + f n q
        → f (suc m) (cond (suc m == n) q (nodes (suc m))) + sum_of f (node_put_back nodes n q) m ≤ (f (suc m) (nodes (suc m)) + sum_of f nodes m) + f n q
    go true is h =
        let same : suc m ≡ n = eqb-true (suc m) n is in
        let both = at-one m same in let rest = sum-below m (omega (arith, same)) in
        let a = both.0 in omega (arith, a, rest)
    go false is h =
        let one : f (suc m) (cond (suc m == n) q (nodes (suc m))) ≡ f (suc m) (nodes (suc m)) = ap (λ (b : Bool). f (suc m) (cond b q (nodes (suc m)))) is in
        omega (arith, one, h)

  -- and none, where it has as much as before
  sum-same : f n q ≡ f n (nodes n) → (m : ℕ) → sum_of f (node_put_back nodes n q) m ≡ sum_of f nodes m
  sum-same e zero = refl
  sum-same e (suc m) = go (suc m == n) refl (sum-same e m) where
    go : (b : Bool) → (suc m == n) ≡ b → sum_of f (node_put_back nodes n q) m ≡ sum_of f nodes m
        → f (suc m) (cond (suc m == n) q (nodes (suc m))) + sum_of f (node_put_back nodes n q) m ≡ f (suc m) (nodes (suc m)) + sum_of f nodes m
    go true is h = let both = at-one m (eqb-true (suc m) n is) in let a = both.0 in let b = both.1 in omega (arith, a, b, e, h)
    go false is h =
        let one : f (suc m) (cond (suc m == n) q (nodes (suc m))) ≡ f (suc m) (nodes (suc m)) = ap (λ (b : Bool). f (suc m) (cond b q (nodes (suc m)))) is in
        omega (arith, one, h)

-- what is left at node n
abbrev pub owes : Whole → ℕ → NodePart → ℕ
owes k n q = tells q + token_of k.leaving n q

module _ (k : Whole) (nodes : ℕ → NodePart) (n : ℕ) (q : NodePart) where
  pub owed-moves : 1 ≤ n → (m : ℕ) → n ≤ m → nodes_left k (node_put_back nodes n q) m + owes k n (nodes n) ≡ nodes_left k nodes m + owes k n q
  owed-moves some m in_ =
      let a = sum-moves tells_of nodes n q some m in_ in let b = sum-moves (token_of k.leaving) nodes n q some m in_ in omega (arith, a, b)

  pub owed-put : (m : ℕ) → nodes_left k (node_put_back nodes n q) m ≤ nodes_left k nodes m + owes k n q
  owed-put m = let a = sum-put tells_of nodes n q m in let b = sum-put (token_of k.leaving) nodes n q m in omega (arith, a, b)

  pub owed-same : tells q ≡ tells (nodes n) → token_of k.leaving n q ≡ token_of k.leaving n (nodes n) → (m : ℕ) → nodes_left k (node_put_back nodes n q) m ≡ nodes_left k nodes m
  owed-same told token m = let a = sum-same tells_of nodes n q told m in let b = sum-same (token_of k.leaving) nodes n q token m in omega (arith, a, b)

pub tells-one : (q : NodePart) → tells q ≤ 1
tells-one q = cond_both (is_some (tells_end q.row)) 1 0 (λ z. z ≤ 1) (λ t. omega arith) (λ t. omega arith)

-- one whose stay is over sends it back no more, and one that has it may
pub token-none : (l : ℕ → Bool) (n : ℕ) (q : NodePart) → may_return q ≡ false → token_of l n q ≡ 0
token-none l n q is = by (l n) where
  by : (t : Bool) → ◌≡◌ {A = ℕ} (cond (t && may_return q) 9 0) 0
  by true = ap (λ (b : Bool). cond {A = ℕ} b 9 0) is
  by false = refl

pub token-stays : (l : ℕ → Bool) (n : ℕ) (q : NodePart) → l n ≡ false → token_of l n q ≡ 0
token-stays l n q is = ap (λ (b : Bool). cond {A = ℕ} (b && may_return q) 9 0) is

pub token-nine : (l : ℕ → Bool) (n : ℕ) (q : NodePart) → l n ≡ true → may_return q ≡ true → token_of l n q ≡ 9
token-nine l n q leaves may = λ i. cond {A = ℕ} (leaves i && may i) 9 0

pub over-owes : (k : Whole) (n e : ℕ) (q : NodePart) → q.row ≡ Some (record { stage = back.Ended; epoch = record { 0 = e } }) → owes k n q ≤ 1
over-owes k n e q is =
    let one = tells-one q in
    let none = token-none k.leaving n q (ap (λ (o : Option BackRow). may_return_by o q.beside.refused) is) in omega (arith, one, none)

-- ---- the end of a turn

-- the endpoint said what it may and is still here, or it ended
pub by-ending : (env : ServeEnv) (w : Service) (P : Ending → Type 0) → (w.over ≡ None → P (ending.Here (speaks env.c w.block).1 w.count)) → ((last : Final) → P (ending.Over last)) → P (serving_settled env w).0
by-ending env w P here over = settled-keeps (λ given. P given.0) env w (λ e. rested-keeps P (speaks env.c w.block).1 w.count (λ t. over _) (λ t. here e)) (λ total e. over _)

pub not-less : (a b : Bool) → (a ≡ true → b ≡ true) → one_if_not b ≤ one_if_not a
not-less true true on = omega arith
not-less true false on = absurd (let bad : false ≡ true = on refl in cc)
not-less false true on = omega arith
not-less false false on = omega arith

pub not-same : (a b : Bool) → (a ≡ true → b ≡ true) → one_if_not a ≤ one_if_not b → b ≡ a
not-same true true on e = refl
not-same true false on e = absurd (let bad : false ≡ true = on refl in cc)
not-same false true on e = absurd (omega arith)
not-same false false on e = refl

-- the requests of a stay, by how many were read and what they cost
pub stay-less : (k : Whole) (r r' c c' : ℕ) → r ≤ r' → r' ≤ k.requests → c' + 4 * r ≤ c + 4 * r' → 4 * (k.requests - r') + c' ≤ 4 * (k.requests - r) + c
stay-less k r r' c c' up in_ cheap = omega arith

pub stay-same : (k : Whole) (r r' c c' : ℕ) → r ≤ r' → r' ≤ k.requests → c' + 4 * r < c + 4 * r' → 4 * (k.requests - r') + c' < 4 * (k.requests - r) + c
stay-same k r r' c c' up in_ cheap = omega arith

pub fewer-left : (n c m : ℕ) → c ≤ m → 4 * (n - m) ≤ 4 * (n - c)
fewer-left n c m e = omega arith

module _ (k : Whole) (K : ℕ) (files : FilesAt) (p : Part) (st : Station) (n : ℕ) (told : Bool) (row : FrontRow) (b : ControlBlock) (env : NodeEnv)
    (front : p.front.row ≡ Some row) (with_ : IsWith told n env.epoch row.stage) (here : (p.nodes n).row ≡ Some (record { stage = back.Here b; epoch = record { 0 = env.epoch } }))
    (una : b.send.una ≤ symbols_taken st.client) where
  abbrev x : ClientBlock
  x = st.client

  abbrev s : Staying
  s = staying_of (p.nodes n)

  abbrev at : ℕ
  at = (front_rest p.front.rest).count

  seat-is : seat_of p ≡ Here told n env.epoch b s
  seat-is = seat-with p n env.epoch told row front with_ ∙ away-here told n env.epoch at (p.nodes n) b here

  abbrev left_by : SeatNow → ℕ → ℕ
  left_by seat t = client_left k x + heard_left k x seat + (seat_left k x seat + t) + requests_left k seat

  abbrev pub IsLess : Part → Type 0
  IsLess p' = Lasting k K files p st p' st

  was : left_with k K p st ≡ left_by (Here told n env.epoch b s) (nodes_left k p.nodes K)
  was = ap (λ (z : SeatNow). left_by z (nodes_left k p.nodes K)) seat-is

  ended-less : (ph : Phase) → ended_left k x ph ≤ block_left k x b
  ended-less phase.Open = let l : b.send.una ≤ symbols_taken x = una in omega arith
  ended-less phase.Aborted = let l : b.send.una ≤ symbols_taken x = una in omega arith
  ended-less phase.Reset = omega arith

  -- it ended: a unit goes
  ends-less : (q : NodePart) → q.row ≡ Some (record { stage = back.Ended; epoch = record { 0 = env.epoch } }) → q.beside.returned ≡ None
      → IsLess (with_node p n q)
  ends-less q is none =
      let p' = with_node p n q in
      let seat : seat_of p' ≡ Gone told n env.epoch = seat-put p n env.epoch told row q front with_ ∙ away-ended told n env.epoch at q is none in
      let now : left_with k K p' st ≡ left_by (Gone told n env.epoch) (nodes_left k p'.nodes K) = ap (λ (z : SeatNow). left_by z (nodes_left k p'.nodes K)) seat in
      let more = owed-put k p.nodes n q K in
      let one = over-owes k n env.epoch q is in
      let heard = ended-less x.phase in
      let w = was in
      record {
        less = omega (arith, now, more, one, heard, w);
        steady = λ up. absurd (omega (arith, up, now, more, one, heard, w));
      }

  -- what holds of a connection that is still there
  pub record Fits (d : ControlBlock) (w : Work) : Type 0 where
    pub acked : d.send.una ≤ symbols_taken x
    pub taken_in : symbols_taken x ≤ k.answers + 2
    pub few : read_of w ≤ k.requests

  module _ (kept fetches : List Kept) (w : Work) (works : Works x env b s kept fetches w) where
    abbrev q_of : Beside → ControlBlock → ℕ → NodePart
    q_of beside d count = record {
      row = Some (record { stage = back.Here d; epoch = record { 0 = env.epoch } });
      stay = Some (record { served = count; batch = w.batch; asks = w.asks });
      kept = asked_kept env w.asked kept;
      fetches = wants_kept env w.wants fetches;
      beside = beside;
    }

    same-una : (a y z : ℕ) → z ≤ y → y ≤ a → a - z ≤ a - y → y ≡ z
    same-una a y z up in_ e = omega arith

    same-spot : (beside : Beside) (d : ControlBlock) → IsSaid w.service.block d → seat_of (with_node p n (q_of beside d w.service.count)) ≡ Here told n env.epoch d (staying_of (q_of beside d w.service.count)) → tells (q_of beside d w.service.count) ≡ tells (p.nodes n)
        → d.send.una ≡ b.send.una → d.send.finished ≡ b.send.finished → Rests x env b s kept fetches w → spot_of files (with_node p n (q_of beside d w.service.count)) st ≡ spot_of files p st
    unfolding spot_of
    same-spot beside d said seat quiet u fin h =
        let q = q_of beside d w.service.count in
        let total : d.send.total ≡ b.send.total = said.ahead.total ∙ h.total in
        let waits : number_awaited d x.phase ≡ number_awaited b x.phase = awaited-same x env x.phase w.service.block d (ap awaited said.recv) ∙ h.awaits in
        let ends : ends_of x d ≡ ends_of x b = λ i. record { una = u i; symbols = 1 + total i + one_if (fin i); awaited = waits i } in
        let now : post_of files x (Here told n env.epoch d (staying_of q)) ≡ post_of files x (Here told n env.epoch b s) =
        λ i. AtNode told n env.epoch (ends i) (record { asks = h.asks i; named = length (named_paths files (h.batch i)); kept = h.kept_is i; fetches = h.fetches_are i }) in
        let post : post_of files x (seat_of (with_node p n q)) ≡ post_of files x (seat_of p) = ap (post_of files x) seat ∙ now ∙ sym (ap (post_of files x) seat-is) in
        let tell : (z : ℕ) → tells_over (node_put_back p.nodes n q z) ≡ tells_over (p.nodes z) = told-same q refl in
        λ i. record { phase = x.phase; isn = x.send.iss; iss = st.iss; una = x.send.una; last = symbols x.send; post = post i; telling = λ z. tell z i }
      where
        told-same : (q : NodePart) → tells_over q ≡ None → (z : ℕ) → tells_over (node_put_back p.nodes n q z) ≡ tells_over (p.nodes z)
        told-same q e z = go (z == n) refl where
          none : tells_over (p.nodes n) ≡ None
          none = ap (λ (o : Option BackRow). telling_by (tells_end o) (p.nodes n).beside.returned) here

          go : (b : Bool) → (z == n) ≡ b → tells_over (cond b q (p.nodes z)) ≡ tells_over (p.nodes z)
          go true is = e ∙ sym (ap (λ (y : ℕ). tells_over (p.nodes y)) (eqb-true z n is) ∙ none)
          go false is = refl

    stays-less : (beside : Beside) (d : ControlBlock) → IsSaid w.service.block d → w.service.over ≡ None → Fits d w → IsLess (with_node p n (q_of beside d w.service.count))
    stays-less beside d said none fits =
        let q = q_of beside d w.service.count in
        let p' = with_node p n q in
        let s' = staying_of q in
        let seat : seat_of p' ≡ Here told n env.epoch d s' = seat-put p n env.epoch told row q front with_ ∙ away-here told n env.epoch at q d refl in
        let quiet : tells q ≡ tells (p.nodes n) = sym (ap (λ (o : Option BackRow). cond (is_some (tells_end o)) 1 0) here) in
        let token : token_of k.leaving n q ≡ token_of k.leaving n (p.nodes n) =
        sym (ap (λ (o : Option BackRow). cond {A = ℕ} (k.leaving n && may_return_by o (p.nodes n).beside.refused) 9 0) here) in
        let same : nodes_left k p'.nodes K ≡ nodes_left k p.nodes K = owed-same k p.nodes n q quiet token K in
        let now : left_with k K p' st ≡ left_by (Here told n env.epoch d s') (nodes_left k p'.nodes K) = ap (λ (z : SeatNow). left_by z (nodes_left k p'.nodes K)) seat in
        let w0 = was in
        let u1 : d.send.una ≡ w.service.block.send.una = said.una in
        let u2 : b.send.una ≤ w.service.block.send.una = works.una in
        let u3 : d.send.una ≤ symbols_taken x = fits.acked in
        let u4 : symbols_taken x ≤ k.answers + 2 = fits.taken_in in
        let shut : b.send.finished ≡ true → d.send.finished ≡ true = λ e. said.finished ∙ works.shut e in
        let f1 = not-less b.send.finished d.send.finished shut in
        let t1 : is_stale x d ≡ is_stale x w.service.block = ap (λ z. one_if_not (z == x.wnd)) said.wnd in
        let t2 : is_stale x w.service.block ≤ is_stale x b = works.stale in
        let r1 = stay-less k (read_in s) (read_of w) (cost_in s) (cost env kept fetches w) works.more fits.few works.cheap in
        record {
          less = omega (arith, now, w0, same, u1, u2, f1, t1, t2, r1);
          steady = λ up.
              let u : d.send.una ≡ b.send.una = same-una (k.answers + 2) d.send.una b.send.una (omega (arith, u1, u2)) (omega (arith, u3, u4)) (omega (arith, up, now, w0, same, u1, u2, f1, t1, t2, r1)) in
              let f : one_if_not b.send.finished ≤ one_if_not d.send.finished = omega (arith, up, now, w0, same, u1, u2, f1, t1, t2, r1) in
              let r : stay_left k s ≤ stay_left k s' = omega (arith, up, now, w0, same, u1, u2, f1, t1, t2, r1) in
              let fin : d.send.finished ≡ b.send.finished = not-same b.send.finished d.send.finished shut f in
              ⊎_elim
              (λ (t : Falls x env s kept fetches w). absurd (let r2 = stay-same k (read_in s) (read_of w) (cost_in s) (cost env kept fetches w) works.more fits.few t in omega (arith, r, r2)))
              (λ (e : ((b.send.finished ≡ false) × (w.service.block.send.finished ≡ true)) ⊎ ((is_some w.service.over ≡ true) ⊎ Rests x env b s kept fetches w)). ⊎_elim
              (λ (t : (b.send.finished ≡ false) × (w.service.block.send.finished ≡ true)). absurd (let bad : true ≡ false = sym (said.finished ∙ t.1) ∙ fin ∙ t.0 in cc))
              (λ (e2 : (is_some w.service.over ≡ true) ⊎ Rests x env b s kept fetches w). ⊎_elim
              (λ (t : is_some w.service.over ≡ true). absurd (let bad : true ≡ false = sym t ∙ ap (λ (o : Option ℕ). is_some o) none in cc))
              (λ (h : Rests x env b s kept fetches w). same-spot beside d said seat quiet u fin h)
              e2) e)
              works.way;
        }

    -- and the whole turn
    pub turn-less : (before : List (Place × List ℕ)) (pp : NodePart) → pp.kept ≡ kept → pp.fetches ≡ fetches → pp.beside.returned ≡ None
        → ((d : ControlBlock) (count : ℕ) → (serving_settled env.serve w.service).0 ≡ ending.Here d count → Fits d w)
        → IsLess (with_node p n (node_rests env pp before w).0)
    turn-less before pp ks fs unreturned fits =
        let E : Ending → Type 0 = λ o. ((d : ControlBlock) (count : ℕ) → o ≡ ending.Here d count → Fits d w) → IsLess (with_node p n (kept_after env pp w o)) in
        by-ending env.serve w.service E
        (λ none fit. let d = (speaks env.serve.c w.service.block).1 in subst (λ (ks' : List Kept). IsLess (with_node p n (record {
          row = Some (record { stage = back.Here d; epoch = record { 0 = env.epoch } });
          stay = Some (record { served = w.service.count; batch = w.batch; asks = w.asks });
          kept = asked_kept env w.asked ks';
          fetches = wants_kept env w.wants pp.fetches;
          beside = pp.beside;
        }))) (sym ks) (subst (λ (fs' : List Kept). IsLess (with_node p n (record {
          row = Some (record { stage = back.Here d; epoch = record { 0 = env.epoch } });
          stay = Some (record { served = w.service.count; batch = w.batch; asks = w.asks });
          kept = asked_kept env w.asked kept;
          fetches = wants_kept env w.wants fs';
          beside = pp.beside;
        }))) (sym fs) (stays-less pp.beside d (speaks-said env.serve.c w.service.block) none (fit d w.service.count refl))))
        (λ last fit. ends-less (kept_after env pp w (ending.Over last)) refl unreturned)
        fits

    -- a node that leaves gives it back, once nothing that was read is left, and its side is open
    pub back-less : (pp : NodePart) → 1 ≤ n → n ≤ K → k.leaving n ≡ true → w.batch ≡ [] → w.service.block.send.finished ≡ false
        → IsLess (with_node p n (kept_back env pp w))
    back-less pp some within leaves none open_ =
        let q = kept_back env pp w in
        let p' = with_node p n q in
        let seat : seat_of p' ≡ Returned told n env.epoch w.service.count = seat-put p n env.epoch told row q front with_ ∙ away-over told n env.epoch at q refl in
        let now : left_with k K p' st ≡ left_by (Returned told n env.epoch w.service.count) (nodes_left k p'.nodes K) = ap (λ (z : SeatNow). left_by z (nodes_left k p'.nodes K)) seat in
        let moves = owed-moves k p.nodes n q some K within in
        let had : token_of k.leaving n (p.nodes n) ≡ 9 = token-nine k.leaving n (p.nodes n) leaves (ap (λ (o : Option BackRow). may_return_by o (p.nodes n).beside.refused) here) in
        let has = over-owes k n env.epoch q refl in
        let u : b.send.una ≤ symbols_taken x = una in
        let f : one_if_not b.send.finished ≡ 1 = ap one_if_not (open-before b.send.finished w.service.block.send.finished works.shut open_) in
        let l : length w.batch ≡ 0 = ap (λ (es : List Entry). length es) none in
        let m : read_in s ≤ read_of w = works.more in
        let r = fewer-left k.requests (read_in s) w.service.count (omega (arith, l, m)) in
        let w0 = was in
        record {
          less = omega (arith, now, w0, moves, had, has, u, f, r);
          steady = λ up. absurd (omega (arith, up, now, w0, moves, had, has, u, f, r));
        }
      where
        open-before : (a c : Bool) → (a ≡ true → c ≡ true) → c ≡ false → a ≡ false
        open-before true c on e = absurd (let bad : true ≡ false = sym (on refl) ∙ e in cc)
        open-before false c on e = refl
