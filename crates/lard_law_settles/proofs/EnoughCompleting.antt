-- Nodes complete their jobs, one node after the other, until none waits.
use Rattle.std.proofs.Common.{◌≡◌, ◌≢◌, ◌<◌, ◌≤◌, ℕ, zero, suc, ◌+◌, false, List, [], ◌∷◌, ◌++◌, length, replicate, Some, Result, Ok, Err, inl, ⊎_elim, refl, sym, ap, ◌∙◌, subst, arith, length-append}
use Rattle.std.proofs.lemmas.Bool.{cases_lt}
use Rattle.std.proofs.lemmas.Bool.Decides.{nat_tests}
use Rattle.lard_law_view.specs.Prelude.{Config, Has, Job, Machine, NodeState, Passes, is_no_node, job_at, node_at}
use Rattle.lard_base.specs.declared.event.Event.TheVariants as event
use Rattle.lard_bound.specs.Units.{Whole}
use Rattle.lard_law_view.proofs.Carried.{reached-viewed}
use Rattle.lard_law_settles.specs.CourseGame.{Task, TaskWaits, game}
use Rattle.lard_rounds.proofs.Listing.{CompleteOn, complete-append}
use Rattle.lard_law_settles.proofs.EnoughAgendas.{same-jobs}
use Rattle.lard_law_settles.proofs.EnoughBeside.{Beside, Is, all-beside, err-ok, ok-same}
use Rattle.lard_law_settles.proofs.EnoughDisks.{IsDone, disk-done}
use Rattle.lard_law_settles.proofs.SettlesFew.{config-is}
use Rattle.lard_law_settles.proofs.SettlesFiring.{disk-inner}
use Rattle.lard_law_settles.proofs.SettlesLate.{node-counted}
use Rattle.lard_settling.specs.Left.{jobs_at, jobs_of}
use Rattle.lard_settling.specs.Settling.{Stop, all_inner, completions, nodes_complete}

module _ (all : ℕ → Whole) (Good : Machine → Type 0) where
  -- tasks are done one after the other
  abbrev pub DoneOn : List Task → Machine → Machine → Type 0
  DoneOn = CompleteOn (game all Good)

  -- ---- the jobs of one node

  -- Node n did so many jobs, and has none.
  record Emptied (n count : ℕ) (m q : Machine) : Type 0 where
    tasks : List Task
    on : DoneOn tasks m q
    mine : jobs_at q n ≡ 0
    others : (i : ℕ) → i ≢ n → jobs_at q i ≡ jobs_at m i
    many : length tasks ≡ count

  first-task : (m l : Machine) (n : ℕ) (d : IsDone m n l) → TaskWaits m (n, d.job)
  first-task m l n d = (d.state, d.at, subst (Has d.job) (sym d.were) (inl refl))

  task-done : (m l : Machine) (n : ℕ) (d : IsDone m n l) → ((s : NodeState) × (node_at m.nodes n ≡ Some s) × (job_at s.disk 1 ≡ Some d.job))
  task-done m l n d = (d.state, d.at, ap (λ (js : List Job). job_at js 1) d.were)

  empties : (count n : ℕ) (m q : Machine) → jobs_at m n ≡ count → Passes m (replicate count (event.Disk n 1)) q → Emptied n count m q
  empties zero n m q jobs same = record { tasks = []; on = same; mine = ap (λ (k : Machine). jobs_at k n) same ∙ jobs; others = λ i other. ap (λ (k : Machine). jobs_at k i) same; many = refl }
  empties (suc count) n m q jobs on =
      let l : Machine = on.0 in
      let d : IsDone m n l = disk-done m l n on.2 in
      let before : jobs_at m n ≡ suc (length d.jobs) = ap jobs_of d.at ∙ ap (λ (js : List Job). length js) d.were in
      let mine = d.mine in
      let rest : Emptied n count l q = empties count n l q (omega (arith, jobs, before, mine)) on.3 in
      let t = task-done m l n d in record {
        tasks = (n, d.job) ∷ rest.tasks;
        on = (l, first-task m l n d, (t.0, t.1, t.2, on.2), rest.on);
        mine = rest.mine;
        others = λ i other. rest.others i other ∙ ap jobs_of (d.others i other);
        many = ap suc rest.many;
      }

  -- ---- all nodes

  module _ (config : Config) (files : List (List ℕ × List ℕ)) where
    -- So many nodes, the first of which is n, have no job, and those before are as they were.
    pub record AllEmptied (n more : ℕ) (m : Machine) (w : Is config files m) (k : Machine) : Type 0 where
      pub is : Is config files k
      pub tasks : List Task
      pub on : DoneOn tasks w.plain is.plain
      pub longer : length m.journal + length tasks ≤ length k.journal
      pub none : tasks ≡ [] → k ≡ m
      pub before : (i : ℕ) → i < n → jobs_at k i ≡ jobs_at m i
      pub done : (i : ℕ) → n ≤ i → i < n + more → jobs_at k i ≡ 0

    nothing-emptied : (n : ℕ) (m k : Machine) (w : Is config files m) → k ≡ m → AllEmptied n 0 m w k
    nothing-emptied n m k w same = subst (AllEmptied n 0 m w) (sym same) (record {
      is = w;
      tasks = [];
      on = refl;
      longer = omega arith;
      none = λ e. refl;
      before = λ i low. refl;
      done = λ i up low. absurd (omega (arith, up, low));
    })

    -- no list of both is empty
    both-none : (xs ys : List Task) → xs ++ ys ≡ [] → (xs ≡ []) × (ys ≡ [])
    both-none [] ys e = (refl, e)
    both-none (x ∷ xs) ys e = cc

    module _ (n more : ℕ) (m l k : Machine) (w : Is config files m) (b : Beside config files m w (completions m n) l) (rest : AllEmptied (n + 1) more l b.is k) where
      e : Emptied n (jobs_at m n) w.plain b.is.plain
      e = empties (jobs_at m n) n w.plain b.is.plain (sym (same-jobs config files m w n)) b.passes

      -- how many jobs a node has behind the first
      behind : (i : ℕ) → i ≢ n → jobs_at l i ≡ jobs_at m i
      behind i other = same-jobs config files l b.is i ∙ e.others i other ∙ sym (same-jobs config files m w i)

      none-there : e.tasks ≡ [] → l ≡ m
      none-there lacks =
          let zero_ : jobs_at m n ≡ 0 = sym e.many ∙ ap (λ (ts : List Task). length ts) lacks in
          b.none (ap (λ count. replicate count (event.Disk n 1)) zero_)

      later-done : (i : ℕ) → n ≤ i → i < n + suc more → jobs_at k i ≡ 0
      later-done i up low = ⊎_elim
          (λ (late : n < i). rest.done i (omega (arith, late)) (omega (arith, low)))
          (λ (early : i ≤ n).
          let same : i ≡ n = omega (arith, up, early) in
          rest.before i (omega (arith, same)) ∙ same-jobs config files l b.is i ∙ ap (jobs_at b.is.plain) same ∙ e.mine)
          (cases_lt n i)

      pub more-emptied : AllEmptied n (suc more) m w k
      more-emptied =
          let sum : length (e.tasks ++ rest.tasks) ≡ length e.tasks + length rest.tasks = length-append e.tasks rest.tasks in
          let many = e.many in
          let first = b.longer in
          let count : length (completions m n) ≡ jobs_at m n = length-of (jobs_at m n) in
          let next = rest.longer in record {
            is = rest.is;
            tasks = e.tasks ++ rest.tasks;
            on = complete-append (game all Good) e.tasks rest.tasks w.plain b.is.plain rest.is.plain e.on rest.on;
            longer = omega (arith, sum, many, first, count, next);
            none = λ lacks. let parts = both-none e.tasks rest.tasks lacks in rest.none parts.1 ∙ none-there parts.0;
            before = λ i low. rest.before i (omega (arith, low)) ∙ behind i (λ same. omega (arith, low, same));
            done = later-done;
          } where
            length-of : (count : ℕ) → length (replicate count (event.Disk n 1)) ≡ count
            length-of zero = refl
            length-of (suc count) = ap suc (length-of count)

    pub nodes-empty : (more n : ℕ) (m k : Machine) (w : Is config files m) → nodes_complete m n more ≡ Ok k → AllEmptied n more m w k
    unfolding nodes_complete
    nodes-empty zero n m k w is = nothing-emptied n m k w (sym (ok-same m k is))
    nodes-empty (suc more) n m k w is = go (all_inner m (completions m n)) refl is (λ l v h. nodes-empty more (n + 1) l k v h) where
      go : (x : Result Machine Stop) → all_inner m (completions m n) ≡ x → (elim x as (λ r. Result Machine Stop) [ Err stop ↦ Err stop | Ok l ↦ nodes_complete l (n + 1) more ]) ≡ Ok k
          → ((l : Machine) (v : Is config files l) → nodes_complete l (n + 1) more ≡ Ok k → AllEmptied (n + 1) more l v k) → AllEmptied n (suc more) m w k
      go (Err stop) s h later = absurd (err-ok stop k h)
      go (Ok l) s h later =
          let b : Beside config files m w (completions m n) l = all-beside config files (completions m n) m l w (disk-inner n (jobs_at m n)) s in
          more-emptied n more m l k w b (later l b.is h)

    -- ---- and so no job waits

    pub same-config : (m : Machine) → Is config files m → m.config ≡ config
    same-config m w = ap (λ (k : Machine). k.config) w.same ∙ config-is config files w.plain w.reached

    no-member : (job : Job) (js : List Job) → length js ≡ 0 → Has job js → ⊥
    no-member job [] none has = has
    no-member job (j ∷ js) none has = absurd (omega (arith, none))

    pub none-waits : (m : Machine) (w : Is config files m) → ((i : ℕ) → 1 ≤ i → i < 1 + config.nodes → jobs_at m i ≡ 0) → (t : Task) → TaskWaits w.plain t → ⊥
    none-waits m w none t waits =
        let s : NodeState = waits.0 in
        let view = reached-viewed config files w.plain w.reached in
        let there : is_no_node config.nodes t.0 ≡ false = node-counted w.plain.nodes config.nodes t.0 s (view.nodes ∙ ap (λ (c : Config). c.nodes) (config-is config files w.plain w.reached)) waits.1 in
        let few : 1 ≤ t.0 = grind (arith, nat_tests, there) in
        let many : t.0 < 1 + config.nodes = grind (arith, nat_tests, there) in
        let mine : jobs_at w.plain t.0 ≡ length s.disk = ap jobs_of waits.1 in
        no-member t.1 s.disk (sym mine ∙ sym (same-jobs config files m w t.0) ∙ none t.0 few many) waits.2
