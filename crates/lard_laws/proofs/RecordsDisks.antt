-- The jobs of a disk are few: the journal tells each of them.
use Rattle.std.proofs.Common.{◌≡◌, ℕ, suc, ◌+◌, ◌-◌, ◌≤◌, ◌<◌, ◌^◌, List, [], ◌∷◌, ◌++◌, length, take, drop, nat_eq, cond, Some, arith, length-append, length-drop}
use Rattle.std.proofs.lemmas.Bool.{cond_both}
use Rattle.std.proofs.lemmas.List.{length-take}
use Rattle.std.specs.List.{fold}
use Rattle.lard_law_view.specs.Prelude.{Config, IsReached, Machine, NodeState, Rec, node_at}
use Rattle.lard_counts.specs.Stores.{Queue, Waiting, jobs, jobs_step, no_jobs, without_waiting}
use Rattle.lard_law_connections.proofs.StoresStored.{jobs-told}
use Rattle.lard_journal.specs.declared.rec.Rec.TheVariants as rec

-- a journal tells of no more jobs than it has records
jobs-few : (n : ℕ) (J : List Rec) → length (jobs J n) ≤ length J
jobs-few n J = let all = go J no_jobs in omega (arith, all) where
  queued : (q : Queue) (k m c r : ℕ) (path : List ℕ) → length (jobs_step n q (rec.Queued k m c r path)).list ≤ length q.list + 1
  queued q k m c r path =
      let more = length-append q.list ((m, c, r, path) ∷ []) in
      cond_both (nat_eq k n) (record q { list = q.list ++ (m, c, r, path) ∷ [] }) q (λ (x : Queue). length x.list ≤ length q.list + 1) (λ t. omega (arith, more)) (λ t. omega arith)

  less : (list : List Waiting) (at : ℕ) → length (without_waiting list at) ≤ length list + 1
  less list at =
      let i : ℕ = at - 1 in
      let all = length-append (take i list) (drop (suc i) list) in
      let first = length-take i list in
      let last = length-drop (suc i) list in
      cond_both (nat_eq at 0) list (take i list ++ drop (suc i) list) (λ (xs : List Waiting). length xs ≤ length list + 1) (λ t. omega arith) (λ t. omega (arith, all, first, last))

  read : (q : Queue) (k : ℕ) → length (cond (nat_eq k n) (record q { list = without_waiting q.list q.at }) q).list ≤ length q.list + 1
  read q k = cond_both (nat_eq k n) (record q { list = without_waiting q.list q.at }) q (λ (x : Queue). length x.list ≤ length q.list + 1) (λ t. less q.list q.at) (λ t. omega arith)

  step : (q : Queue) (r : Rec) → length (jobs_step n q r).list ≤ length q.list + 1
  step q (rec.Event i event) = omega arith
  step q (rec.Inner event) = omega arith
  step q (rec.Opened c isn iss wnd mss) = omega arith
  step q (rec.Wrote c bytes) = omega arith
  step q (rec.Sent k from to bytes) = omega arith
  step q (rec.Got k) = omega arith
  step q (rec.Lost k) = omega arith
  step q (rec.Accepted c bytes) = omega arith
  step q (rec.Eof c) = omega arith
  step q (rec.Took place c epoch) = omega arith
  step q (rec.Gave place c epoch) = omega arith
  step q (rec.Waits c) = omega arith
  step q (rec.Admitted c) = omega arith
  step q (rec.Released c) = omega arith
  step q (rec.AssignedFirst c r path n add remove) = omega arith
  step q (rec.AssignedLater c r path n add size queue) = omega arith
  step q (rec.BatchOver c) = omega arith
  step q (rec.Served place c r code length via) = omega arith
  step q (rec.Hit n path) = omega arith
  step q (rec.Queued k m c r path) = queued q k m c r path
  step q (rec.Read k m c r path) = read q k
  step q (rec.Closed k) = omega arith
  step q (rec.Armed place c _) = omega arith
  step q (rec.Cleared place c _) = omega arith
  step q (rec.Reset place c count) = omega arith
  step q (rec.Aborted c) = omega arith
  step q (rec.Injected c) = omega arith
  step q (rec.Clock time) = omega arith
  step q (rec.Settled rounds) = omega arith
  step q (rec.Unsettled rounds left) = omega arith

  go : (rs : List Rec) (q : Queue) → length (fold (jobs_step n) q rs).list ≤ length q.list + length rs
  go [] q = omega arith
  go (r ∷ rs) q = let one = step q r in let rest = go rs (jobs_step n q r) in omega (arith, one, rest)

abbrev pub DisksAreShort : Machine → Type 0
DisksAreShort m = (n : ℕ) (s : NodeState) → node_at m.nodes n ≡ Some s → length s.disk ≤ 2 ^ 30

pub disks-short : (config : Config) (files : List (List ℕ × List ℕ)) (m : Machine) → IsReached config files m → length m.journal < 4000000 → DisksAreShort m
disks-short config files m reached few n s here = let told = (jobs-told config files m reached n s here).1 in let most = jobs-few n m.journal in omega (arith, told, most, few)
