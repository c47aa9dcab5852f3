-- How much is left to do at the most, and of all connections together.
use Rattle.std.proofs.Common.{◌≡◌, ◌<◌, ◌≤◌, ◌+◌, ◌-◌, ◌*◌, ℕ, zero, suc, length, ⊎_elim, sym, subst, arith, ◌&&◌, Bool, true, false, cond, if◌then◌else◌, is_some, Option, Some, None}
use Rattle.std.proofs.lemmas.Bool.{cases_lt}
use Rattle.lard_bound.specs.Seats.{Gone, Held, Here, Offered, Over, Refused, Returned, SeatNow, Staying, Unborn, Waiting, seat_of, telling, tells_end}
use Rattle.lard_bound.specs.Units.{Whole, batch_left, ended_left, hand_off, heard_left, leavers, left_with, may_return, may_return_by, nodes_left, requests_left, seat_left, spoken_left, sum_of, tellers, tells_of, tokens, units, units_to}
use Rattle.lard_law_view.specs.Prelude.{BackConn, BackRow, ClientBlock, Epoch, Machine, NodePart, Part, Phase, Station, back_held, conn}
use Rattle.lard_client.specs.declared.phase.Phase.TheVariants as phase
use Rattle.lard_handoff_back.specs.declared.row.BackConn.TheVariants as back
use Rattle.lard_law_progress.proofs.Handing.{flag-one, stale-one}
use Rattle.lard_law_progress.proofs.Turns.{read_in}

-- ---- one connection

-- What is known of a connection by where it is: how many nodes that do not leave tell an end, that one which was handed off has a request, that one which is
-- given back had a response, and what its batch, its Ask and its Fetches are.
pub record IsModestStay (k : Whole) (s : Staying) : Type 0 where
  pub few : read_in s ≤ k.requests
  pub asks : length s.kept ≤ 1
  pub fetches : batch_left s.stay.batch + length s.fetches ≤ 2 * length s.stay.batch

abbrev pub IsModest : Whole → ℕ → SeatNow → Type 0
IsModest k t Unborn = t ≡ 0
IsModest k t (Held b count) = t ≡ 0
IsModest k t (Waiting b count) = (t ≡ 0) × (1 ≤ k.requests)
IsModest k t (Offered n e count) = (t ≡ 0) × (1 ≤ k.requests)
IsModest k t (Refused n e count) = (t ≡ 0) × (1 ≤ k.requests)
IsModest k t (Here told n e b s) = (t ≡ 0) × (1 ≤ k.requests) × IsModestStay k s
IsModest k t (Returned told n e served) = (t ≤ 1) × (1 ≤ k.requests) × (1 ≤ served)
IsModest k t (Gone told n e) = (t ≤ 1) × (1 ≤ k.requests)
IsModest k t (Over last) = t ≤ 1

module _ (k : Whole) (x : ClientBlock) where
  spoken-most : (p : Phase) → spoken_left k x p ≤ k.written + 4
  spoken-most phase.Open = let f = flag-one x.send.finished in omega (arith, f)
  spoken-most phase.Aborted = omega arith
  spoken-most phase.Reset = omega arith

  ended-most : (p : Phase) → ended_left k x p ≤ k.answers + 2
  ended-most phase.Open = omega arith
  ended-most phase.Aborted = omega arith
  ended-most phase.Reset = omega arith

  heard-most : (z : SeatNow) → heard_left k x z ≤ k.answers + 3
  heard-most Unborn = omega arith
  heard-most (Held b count) = let f = flag-one b.send.finished in omega (arith, f)
  heard-most (Waiting b count) = let f = flag-one b.send.finished in omega (arith, f)
  heard-most (Offered n e count) = omega arith
  heard-most (Refused n e count) = omega arith
  heard-most (Returned told n e served) = omega arith
  heard-most (Here told n e b s) = let f = flag-one b.send.finished in omega (arith, f)
  heard-most (Gone told n e) = let h = ended-most x.phase in omega (arith, h)
  heard-most (Over last) = let h = ended-most x.phase in omega (arith, h)

  hand-most : (n : ℕ) → hand_off n + 4 * n ≤ 4 + 7 * n
  hand-most zero = omega arith
  hand-most (suc n) = omega arith

  stay-most : (n s b c a f : ℕ) → s ≤ n → b ≤ s → c + f ≤ 2 * b → a ≤ 1 → 4 * (n - s) + c + a + f ≤ 4 * n + 1
  stay-most n s b c a f x y z w = omega arith

  -- where it is, and its requests
  way-most : (t : ℕ) (z : SeatNow) → IsModest k t z → seat_left k x z + t + requests_left k z ≤ 7 + 7 * k.requests
  way-most t Unborn m = let h = hand-most k.requests in omega (arith, h, m)
  way-most t (Held b count) m = let h = hand-most k.requests in let s = stale-one x b in omega (arith, h, s, m)
  way-most t (Waiting b count) m = let a = m.0 in let r = m.1 in omega (arith, a, r)
  way-most t (Offered n e count) m = let a = m.0 in let r = m.1 in omega (arith, a, r)
  way-most t (Refused n e count) m = let a = m.0 in let r = m.1 in omega (arith, a, r)
  way-most t (Here told n e b s) m =
      let a = m.0 in let r = m.1 in let v = stale-one x b in let f = flag-one told in
      let q = stay-most k.requests (read_in s) (length s.stay.batch) (batch_left s.stay.batch) (length s.kept) (length s.fetches) m.2.few (omega arith) m.2.fetches m.2.asks in
      omega (arith, a, r, v, f, q)
  way-most t (Returned told n e served) m = let a = m.0 in let r = m.1 in let s = m.2 in let f = flag-one told in omega (arith, a, r, s, f)
  way-most t (Gone told n e) m = let a = m.0 in let f = flag-one told in omega (arith, a, f)
  way-most t (Over last) m = omega (arith, m)

-- ---- the nodes

-- of those that do not leave, how many tell that a stay is over
abbrev stays_telling : (ℕ → Bool) → ℕ → NodePart → ℕ
stays_telling l n q = if l n then 0 else tells_of n q

abbrev pub staying_tellers : (ℕ → Bool) → (ℕ → NodePart) → ℕ → ℕ
staying_tellers l nodes m = sum_of (stays_telling l) nodes m

pub fewer-tellers : (l : ℕ → Bool) (nodes : ℕ → NodePart) (m : ℕ) → staying_tellers l nodes m ≤ tellers nodes m
fewer-tellers l nodes zero = omega arith
fewer-tellers l nodes (suc m) = go (l (suc m)) (fewer-tellers l nodes m) where
  go : (t : Bool) → staying_tellers l nodes m ≤ tellers nodes m → cond t 0 (tells_of (suc m) (nodes (suc m))) + staying_tellers l nodes m ≤ tells_of (suc m) (nodes (suc m)) + tellers nodes m
  go true h = omega (arith, h)
  go false h = omega (arith, h)

-- one that tells so sends the connection back no more
one-most : (q : NodePart) → tells_of 0 q + cond (may_return q) 9 0 ≤ 9
one-most q = go q.row q.beside.refused where
  go : (o : Option BackRow) (r : Option Epoch) → cond (is_some (tells_end o)) 1 0 + cond (may_return_by o r) 9 0 ≤ 9
  go None None = omega arith
  go None (Some e) = omega arith
  go (Some row) r = by row.stage where
    by : (c : BackConn) → cond (is_some (telling c row.epoch.0)) 1 0 + cond (is_some (back_held c)) 9 0 ≤ 9
    by (back.Here b) = omega arith
    by back.Out = omega arith
    by back.Ended = omega arith
    by back.Gone = omega arith

-- nine for each node that leaves, and those that tell so
nodes-most : (k : Whole) (nodes : ℕ → NodePart) (m : ℕ) → nodes_left k nodes m ≤ staying_tellers k.leaving nodes m + 9 * leavers k.leaving m
nodes-most k nodes zero = omega arith
nodes-most k nodes (suc m) = go (k.leaving (suc m)) (nodes-most k nodes m) where
  q : NodePart
  q = nodes (suc m)

  go : (t : Bool) → nodes_left k nodes m ≤ staying_tellers k.leaving nodes m + 9 * leavers k.leaving m
      → (tells_of 0 q + tellers nodes m) + (cond (t && may_return q) 9 0 + tokens k.leaving nodes m)
      ≤ (cond t 0 (tells_of 0 q) + staying_tellers k.leaving nodes m) + 9 * (cond t 1 0 + leavers k.leaving m)
  go true h = let one = one-most (nodes (suc m)) in omega (arith, one, h)
  go false h = omega (arith, h)

-- fewer tell it
pub modest-less : (k : Whole) (t u : ℕ) → u ≤ t → (z : SeatNow) → IsModest k t z → IsModest k u z
modest-less k t u low Unborn m = omega (arith, low, m)
modest-less k t u low (Held b count) m = omega (arith, low, m)
modest-less k t u low (Waiting b count) m = let a = m.0 in (omega (arith, low, a), m.1)
modest-less k t u low (Offered n e count) m = let a = m.0 in (omega (arith, low, a), m.1)
modest-less k t u low (Refused n e count) m = let a = m.0 in (omega (arith, low, a), m.1)
modest-less k t u low (Here told n e b s) m = let a = m.0 in (omega (arith, low, a), m.1, m.2)
modest-less k t u low (Returned told n e served) m = let a = m.0 in (omega (arith, low, a), m.1, m.2)
modest-less k t u low (Gone told n e) m = let a = m.0 in (omega (arith, low, a), m.1)
modest-less k t u low (Over last) m = omega (arith, low, m)

-- by how many tell it of those that do not leave, and how many leave
pub left-most : (k : Whole) (K : ℕ) (p : Part) (st : Station) → IsModest k (staying_tellers k.leaving p.nodes K) (seat_of p)
    → left_with k K p st ≤ k.written + k.answers + 14 + 7 * k.requests + 9 * leavers k.leaving K
left-most k K p st m =
    let a = spoken-most k st.client st.client.phase in
    let b = heard-most k st.client (seat_of p) in
    let n = nodes-most k p.nodes K in
    let c = way-most k st.client (staying_tellers k.leaving p.nodes K) (seat_of p) m in omega (arith, a, b, c, n)

-- ---- all connections

-- what comes back of none comes back of all
pub sum-less : (all : ℕ → Whole) (m n : Machine) (q : ℕ) → ((c : ℕ) → 1 ≤ c → c ≤ q → units (all c) n.config.nodes (conn n c) ≤ units (all c) m.config.nodes (conn m c)) → units_to all n q ≤ units_to all m q
unfolding units_to
sum-less all m n zero h = omega arith
sum-less all m n (suc q) h =
    let one = h (suc q) (omega arith) (omega arith) in
    let rest = sum-less all m n q (λ c some in_. h c some (omega (arith, in_))) in omega (arith, one, rest)

-- and where none goes of all, none goes of any
pub sum-still : (all : ℕ → Whole) (m n : Machine) (q : ℕ) → ((c : ℕ) → 1 ≤ c → c ≤ q → units (all c) n.config.nodes (conn n c) ≤ units (all c) m.config.nodes (conn m c)) → units_to all m q ≤ units_to all n q
    → (c : ℕ) → 1 ≤ c → c ≤ q → units (all c) m.config.nodes (conn m c) ≤ units (all c) n.config.nodes (conn n c)
unfolding units_to
sum-still all m n zero h up c some in_ = absurd (omega (arith, some, in_))
sum-still all m n (suc q) h up c some in_ =
    let one = h (suc q) (omega arith) (omega arith) in
    let rest = sum-less all m n q (λ c some in_. h c some (omega (arith, in_))) in
    ⊎_elim
    (λ (l : c < suc q). sum-still all m n q (λ c some in_. h c some (omega (arith, in_))) (omega (arith, up, one)) c some (omega (arith, l)))
    (λ (l : suc q ≤ c).
    let same : c ≡ suc q = omega (arith, l, in_) in
    subst (λ z. units (all z) m.config.nodes (conn m z) ≤ units (all z) n.config.nodes (conn n z)) (sym same) (omega (arith, up, rest)))
    (cases_lt c (suc q))
