-- The cluster's machine owes what a machine that goes on by rounds owes.
use Rattle.std.proofs.Common.{◌≡◌, ◌<◌, ◌≤◌, ℕ, suc, ◌+◌, true, List, [], ◌∷◌, length, Some, None, Ok, inl, inr, ⊎_elim, refl, sym, ap, ◌∙◌, subst, arith}
use Rattle.std.specs.Prelude.{◌⊎◌}
use Rattle.std.proofs.lemmas.Option.{slice_get_within}
use Rattle.lard_agenda.specs.Laws.{is_on_way}
use Rattle.lard_law_view.specs.Prelude.{Conn, Event, Has, IsViewed, Job, Machine, Move, NodeState, Packet, Rules, conn, file_at, grown, job_at, letter_of, machine_step, node_at, packet_at, setting_of}
use Rattle.lard_base.specs.declared.event.Event.TheVariants as event
use Rattle.lard_bound.specs.Progress.{IsFetch, NearAt}
use Rattle.lard_bound.specs.Units.{Whole, machine_units}
use Rattle.lard_law_view.proofs.After.{IsAfter, step-after}
use Rattle.lard_law_progress.proofs.Given.{IsRounds, rounds-rule}
use Rattle.lard_law_settles.specs.Course.{chain_in}
use Rattle.lard_law_settles.specs.CourseGame.{CompletesFirst, FiresAt, Begins, Task, TaskWaits, game}
use Rattle.lard_law_settles.proofs.CourseBeginning.{Timers, begins-near}
use Rattle.lard_law_settles.proofs.CourseChains.{chains-are-short, near-never}
use Rattle.lard_law_settles.proofs.CourseCompleting.{job-leads, job-shorter}
use Rattle.lard_law_settles.proofs.CourseDelivering.{near-of, packet-leads, packet-shorter}
use Rattle.lard_law_settles.proofs.CourseFetched.{fetches-lead}
use Rattle.lard_law_settles.proofs.CourseFetching.{Fetches}
use Rattle.lard_law_settles.proofs.CourseGoing.{IsListed, IsPlain, goes-on, spots}
use Rattle.lard_law_view.proofs.Steps.{IsShown}
use Rattle.lard_law_settles.proofs.CourseOnWay.{step-new}
use Rattle.lard_law_settles.proofs.CourseOwing.{IsStep, Owed}
use Rattle.lard_law_settles.proofs.CourseWays.{Takes, Ways, step-ways}
use Rattle.lard_law_settles.proofs.CourseSending.{within-net}
use Rattle.lard_law_settles.proofs.CourseStocking.{Opened, Stocks, TagsFall, job-stocks, packet-stocks, timer-stocks}
use Rattle.lard_rounds.specs.Rounds.{Delivers, Fires, IsIdle, Nearer, Owes}
use Rattle.lard_rounds.specs.Rounds as rounds

-- ---- inner steps

-- what is delivered is on its way
abbrev pub IsReady : Machine → Event → Type 0
IsReady m (event.Deliver k) = is_on_way m.journal k ≡ true
IsReady m _ = Unit {0}

-- an event of a round, which is made from here
abbrev pub IsMade : Machine → Event → Type 0
IsMade m e = IsRounds e × IsReady m e

-- ---- what is known

-- Of the machines within a settle.
pub record Within (Given : Conn → Type 0) (Came : Conn → Move → Type 0) (all : ℕ → Whole) (Good : Machine → Type 0) : Type 0 where
  pub view : (m : Machine) → Good m → IsViewed m
  pub rules : (m : Machine) → Good m → Rules (setting_of m) (Owed Given Came all (setting_of m))
  pub given : (m : Machine) → Good m → (q : ℕ) → Given (conn m q)
  pub goes : (m n : Machine) (e : Event) → Good m → IsMade m e → machine_step m e ≡ Ok n → Good n
  pub came : (m n : Machine) (e : Event) → Good m → IsMade m e → machine_step m e ≡ Ok n → (q : ℕ) (v : Move) → IsShown m e (conn m q) v → conn n q ≡ grown (conn m q) v → Came (conn m q) v
  pub listed : (m : Machine) → Good m → IsListed m
  pub fetches : (m : Machine) → Good m → Fetches m
  pub opened : (m : Machine) → Good m → Opened m
  pub tags : (m n : Machine) (e : Event) → Good m → IsStep Given Came all m n e → TagsFall all m n
  pub timers : (m : Machine) → Good m → Timers m

module _ (Given : Conn → Type 0) (Came : Conn → Move → Type 0) (all : ℕ → Whole) (Good : Machine → Type 0) (w : Within Given Came all Good) where
  module _ (m n : Machine) (e : Event) (good : Good m) (made : IsMade m e) (is : machine_step m e ≡ Ok n) where
    after : IsAfter m e n
    after = step-after m (w.view m good) e n (rounds-rule e made.0) is

    pub step : IsStep Given Came all m n e
    step = record {
      view = w.view m good;
      rules = w.rules m good;
      rule = rounds-rule e made.0;
      is = is;
      config = after.config;
      before = w.given m good;
      behind = w.given n (w.goes m n e good made is);
      came = w.came m n e good made is;
    }

    ways : Ways m e n
    ways = step-ways m (w.view m good) e n (rounds-rule e made.0) is

    plain-of : ((k : ℕ) (p : Packet) → packet_at m.net k ≡ Some p → packet_at n.net k ≡ Some p) → IsPlain m n
    plain-of packets = record {
      config = after.config;
      files = after.files;
      more = ways.more;
      packets = packets;
      way = λ k on. ⊎_elim (λ (h : (is_on_way m.journal k ≡ true) × (Takes e k → ⊥)). inl h.0) (λ (late : length m.net < k). inr late) (ways.way k on);
      new = step-new m (w.view m good) e n (rounds-rule e made.0) is;
      listed = w.listed m good;
      listed_too = w.listed n (w.goes m n e good made is);
    }

  stocks : (m n : Machine) (e : Event) → Good m → IsMade m e → machine_step m e ≡ Ok n → Stocks all m e n
  stocks m n (event.Deliver k) good made is =
      let l = w.listed m good in
      let p = l.there k made.1 in
      let of = l.numbers k p.0 p.1 in
      packet-stocks Given Came all m n k (step m n (event.Deliver k) good made is) (w.opened m good) (w.tags m n (event.Deliver k) good (step m n (event.Deliver k) good made is)) p.0 p.1 of.0 of.1 of.2
  stocks m n (event.Disk i j) good made is =
      subst (λ (x : ℕ). Stocks all m (event.Disk i x) n) (sym made.0) (job-stocks all m n i (subst (λ (x : ℕ). machine_step m (event.Disk i x) ≡ Ok n) made.0 is))
  stocks m n (event.Timer p c) good made is = timer-stocks all m n p c is
  stocks m n _ good made is = absurd made.0

  -- ---- a packet

  packet : (m n : Machine) (k : ℕ) → Good m → is_on_way m.journal k ≡ true → machine_step m (event.Deliver k) ≡ Ok n → Delivers (game all Good) 3 m k n
  packet m n k good on is =
      let e : Event = event.Deliver k in
      let s = step m n e good (tt, on) is in
      let plain = plain-of m n e good (tt, on) is (ways m n e good (tt, on) is).packets in
      let left = stocks m n e good (tt, on) is in
      let p = plain.listed.there k on in
      let of = plain.listed.numbers k p.0 p.1 in
      record {
        goes = goes-on Given Came Good all m n e s plain (w.goes m n e good (tt, on) is);
        others = (ways m n e good (tt, on) is).others;
        jobs = λ t waits. ⊎_elim
            (λ (d : (z : NodeState) × (e ≡ event.Disk t.0 1) × (node_at m.nodes t.0 ≡ Some z) × (job_at z.disk 1 ≡ Some t.1)). absurd (let bad : e ≡ event.Disk t.0 1 = d.1 in cc))
            (λ (h : TaskWaits n t). h)
            (left.kept t waits);
        queues = λ t waits. ⊎_elim
            (λ (h : TaskWaits m t). inl h)
            (λ (h : (i : ℕ) × (e ≡ event.Deliver i) × (machine_units all m ≤ machine_units all n → 1 ≤ chain_in m i)). inr (λ up.
            let same : k ≡ h.0 = deliver-same k h.0 h.1 in subst (λ i. 1 ≤ chain_in m i) (sym same) (h.2 up)))
            (left.queued t waits);
        shorter = packet-shorter Given Came Good all m n k s plain p.0 p.1 of.0 of.1 of.2;
        leads = λ up d near.
            let near_ : NearAt (file_at m.files) (conn m of.0) (suc d) (letter_of p.0) = near-of m k (suc d) of.0 p.0 p.1 of.1 near in
            ⊎_elim
            (λ (h : Nearer (game all Good) n (length m.net) d). inl h)
            (λ (f : IsFetch (letter_of p.0)).
            fetches-lead Good all m n plain (w.view m good) (w.fetches m good) (spots Given Came Good all m n e s plain up) k of.0 d p.0 p.1 of.1 of.2 is near_ f)
            (packet-leads Given Came Good all m n k s plain p.0 p.1 of.0 of.1 of.2 up d near_);
      }
    where
      deliver-same : (i j : ℕ) → event.Deliver i ≡ event.Deliver j → i ≡ j
      deliver-same i j e = cc

  -- ---- a job

  job : (m n : Machine) (t : Task) → Good m → TaskWaits m t → CompletesFirst m t n → rounds.Completes (game all Good) 3 m t n
  job m n t good waits (z, there, at, is) =
      let e : Event = event.Disk t.0 1 in
      let s = step m n e good (refl, tt) is in
      let plain = plain-of m n e good (refl, tt) is (ways m n e good (refl, tt) is).packets in
      let left = stocks m n e good (refl, tt) is in
      record {
        goes = goes-on Given Came Good all m n e s plain (w.goes m n e good (refl, tt) is);
        others = λ i on. ⊎_elim (λ (no_ : ⊥). absurd no_) (λ (h : is_on_way n.journal i ≡ true). h) ((ways m n e good (refl, tt) is).others i on);
        jobs = λ u waits_. ⊎_elim
            (λ (d : (y : NodeState) × (e ≡ event.Disk u.0 1) × (node_at m.nodes u.0 ≡ Some y) × (job_at y.disk 1 ≡ Some u.1)). inl (same-task t u z d.0 there at (disk-same t.0 u.0 d.1) d.2 d.3))
            (λ (h : TaskWaits n u). inr h)
            (left.kept u waits_);
        queues = λ u waits_. ⊎_elim
            (λ (h : TaskWaits m u). h)
            (λ (h : (i : ℕ) × (e ≡ event.Deliver i) × (machine_units all m ≤ machine_units all n → 1 ≤ chain_in m i)). absurd (let bad : e ≡ event.Deliver h.0 = h.1 in cc))
            (left.queued u waits_);
        shorter = λ up. inl (job-shorter Given Came Good all m n t.0 s plain up);
        leads = λ up d near.
            job-leads Good all m n plain (w.fetches m good) (spots Given Came Good all m n e s plain up) t.0 t.1 z there at is ((w.fetches m good).jobs t.0 z t.1 there (first-has z.disk t.1 at)) d near.0 near.1;
      }
    where
      disk-same : (i j : ℕ) → event.Disk i 1 ≡ event.Disk j 1 → i ≡ j
      disk-same i j e = cc

      some-job : (a b : Job) → Some a ≡ Some b → a ≡ b
      some-job a b e = cc

      some-state : (a b : NodeState) → Some a ≡ Some b → a ≡ b
      some-state a b e = cc

      same-task : (t u : Task) (z y : NodeState) → node_at m.nodes t.0 ≡ Some z → job_at z.disk 1 ≡ Some t.1 → t.0 ≡ u.0 → node_at m.nodes u.0 ≡ Some y → job_at y.disk 1 ≡ Some u.1 → u ≡ t
      same-task t u z y there at same there_ at_ =
          let states : z ≡ y = some-state z y (sym there ∙ ap (node_at m.nodes) same ∙ there_) in
          let jobs : t.1 ≡ u.1 = some-job t.1 u.1 (sym at ∙ ap (λ (x : NodeState). job_at x.disk 1) states ∙ at_) in
          λ i. (sym same i, sym jobs i)

      first-has : (disk : List Job) (x : Job) → job_at disk 1 ≡ Some x → Has x disk
      first-has [] x e = let bad : None ≡ Some x = e in absurd cc
      first-has (y ∷ disk) x e = inl (some-job y x e)

  -- ---- a timer

  timer : (m n : Machine) → Good m → FiresAt m n → Fires (game all Good) m n
  timer m n good (p, c, has, is) =
      let e : Event = event.Timer p c in
      let s = step m n e good (has, tt) is in
      let plain = plain-of m n e good (has, tt) is (ways m n e good (has, tt) is).packets in
      let left = stocks m n e good (has, tt) is in
      record {
        goes = goes-on Given Came Good all m n e s plain (w.goes m n e good (has, tt) is);
        others = λ i on. ⊎_elim (λ (no_ : ⊥). absurd no_) (λ (h : is_on_way n.journal i ≡ true). h) ((ways m n e good (has, tt) is).others i on);
        queues = λ u waits_. ⊎_elim
            (λ (h : TaskWaits m u). h)
            (λ (h : (i : ℕ) × (e ≡ event.Deliver i) × (machine_units all m ≤ machine_units all n → 1 ≤ chain_in m i)). absurd (let bad : e ≡ event.Deliver h.0 = h.1 in cc))
            (left.queued u waits_);
      }

  begin : (m n : Machine) → Good m → IsIdle (game all Good) m → Begins m n → (machine_units all n < machine_units all m) ⊎ Nearer (game all Good) n 0 3
  begin m n good idle (p, c, more, has, due_, is) =
      let e : Event = event.Timer p c in
      let plain = plain-of m n e good (has, tt) is (ways m n e good (has, tt) is).packets in
      begins-near Given Came Good all m n p c (step m n e good (has, tt) is) plain (w.timers m good) more has due_

  -- ---- all of it

  within : (m : Machine) (k : ℕ) → Good m → is_on_way m.journal k ≡ true → k ≤ length m.net
  within m k good on =
      let p = (w.listed m good).there k on in
      let i = within-net m.net k p.0 p.1 in
      let low : i.0 < length m.net = slice_get_within m.net i.0 p.0 i.2 in
      let is : k ≡ i.0 + 1 = i.1 in
      omega (arith, low, is)

  pub owes : Owes (game all Good) 5 3
  owes = record {
    packets = packet;
    jobs = job;
    timers = timer;
    are_timers = λ m n (p, c, more, has, due, is). (p, c, has, is);
    begins = begin;
    short = λ m k good on. chains-are-short m k;
    brief = λ m t good waits. omega arith;
    never = λ m k good on near. near-never m k near;
    known = within;
  }
