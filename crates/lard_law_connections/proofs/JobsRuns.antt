-- In every state each node reads only what a job of its disk is for, and the journal tells that job.
use Rattle.std.proofs.Common.{◌≡◌, ℕ, ◌+◌, ◌-◌, ◌&&◌, ◌==◌, List, [], ◌∷◌, map, Option, Some, None, Ok, inl, inr, ⊎_elim, refl, sym, ap, ◌∙◌, subst, eqb-true}
use Rattle.std.proofs.lemmas.Bool.{and_parts}
use Rattle.std.specs.FinMap.{get-empty}
use Rattle.std.specs.Ordering.{nat_cmp}
use Rattle.std.specs.Prelude.{slice_set}
use Rattle.lard_law_view.specs.Prelude.{BackRow, ControlBlock, Entry, Event, Has, Job, Machine, NodePart, NodeState, Stay, conn, kept_at, machine_step, machine_told, no_stays, node_at, node_part, node_setting, node_step, part_of}
use Rattle.lard_law_connections.specs.Jobs.{BatchReads, HasJob, NodeReads, PartReads, ReadsBy, RowReads, StageReads, StayReads}
use Rattle.lard_law_connections.specs.JobsLaws.{ReadsAreJobs, ReadsAreQueued}
use Rattle.lard_law_connections.proofs.JobsNodes.{step-reads}
use Rattle.lard_law_connections.specs.StoresLaws.{job_told}
use Rattle.lard_counts.specs.Stores.{Waiting, jobs}
use Rattle.lard_law_connections.proofs.Forms.{NodeStep, NodesStay, node-form}
use Rattle.lard_law_connections.proofs.StoresStored.{jobs-told}
use Rattle.lard_law_view.proofs.Carried.{carried-keep}
use Rattle.lard_law_view.proofs.Parts.{node-others, node-set}
use Rattle.lard_law_view.proofs.Runs.{of-nodes}
use Rattle.lard_handoff_back.specs.declared.row.BackConn.TheVariants as back
use Rattle.lard_history.proofs.Seeing.{by_number}
use Rattle.lard_rules.specs.declared.stay.Progress.TheVariants as progress

abbrev AllRead : Machine → Type 0
AllRead m = (n : ℕ) (s : NodeState) → node_at m.nodes n ≡ Some s → NodeReads n s

-- ---- a step

module _ (m : Machine) (e : Event) (read : AllRead m) where
  node-reads : (n : Machine) (step : NodeStep m e n) → AllRead n
  unfolding machine_told
  node-reads n step i u at =
      let t : NodeState = (node_step (node_setting m step.i) step.s step.comes).0 in
      let nodes : List NodeState = slice_set m.nodes (step.i - 1) t in
      let there : node_at nodes i ≡ Some u = sym (ap (λ (k : Machine). node_at k.nodes i) step.is) ∙ at in
      by_number (NodeReads i u) i step.i
      (λ same.
      let one : Some t ≡ Some u = sym (node-set m.nodes step.i step.s t step.there) ∙ ap (node_at nodes) (sym same) ∙ there in
      let is : t ≡ u = cc in
      subst (λ (j : ℕ). NodeReads j u) (sym same) (subst (NodeReads step.i) is (step-reads (node_setting m step.i) step.s step.comes (read step.i step.s step.there))))
      (λ other. read i u (sym (node-others m.nodes step.i i step.s t step.there other) ∙ there))

  step-read : (n : Machine) → machine_step m e ≡ Ok n → AllRead n
  step-read n is = ⊎_elim
      (λ (stay : NodesStay m e n). λ i s at. read i s (ap (λ (nodes : List NodeState). node_at nodes i) (sym stay.0) ∙ at))
      (λ (step : NodeStep m e n). node-reads n step)
      (node-form m n e is)

-- ---- every state

nothing-read : (n limit : ℕ) → NodeReads n (no_stays limit)
nothing-read n limit c = subst (RowReads (HasJob n c []) (node_part (no_stays limit) c).stay) (sym (get-empty nat_cmp c)) tt

pub reads-are-jobs : ReadsAreJobs
reads-are-jobs config files m r = carried-keep config files AllRead
    (λ n s at. of-nodes (λ (o : Option NodeState). o ≡ Some s → NodeReads n s) config.nodes (no_stays config.cache)
    (λ e. let no : None ≡ Some s = e in absurd cc)
    (λ e. let same : no_stays config.cache ≡ s = cc in subst (NodeReads n) same (nothing-read n config.cache))
    n at)
    (λ k n e on read rule is. step-read k e read n is)
    m r

-- ---- as the journal tells it

told-has : (job : Job) (disk : List Job) → Has job disk → Has (job_told job) (map job_told disk)
told-has job [] h = absurd h
told-has job (x ∷ xs) h = ⊎_elim (λ (e : x ≡ job). inl (ap job_told e)) (λ (k : Has job xs). inr (told-has job xs k)) h

module _ (n c : ℕ) (J : List Waiting) (disk : List Job) (told : J ≡ map job_told disk) where
  abbrev Queued : ℕ → Type 0
  Queued r = (path : List ℕ) × Has (n, c, r, path) J

  job-queued : (e r : ℕ) → HasJob n c disk e r → Queued r
  job-queued e r h =
      let parts = and_parts (h.0.c == c && h.0.epoch.0 == e) (h.0.r == r) h.3 in
      let mine : h.0.c ≡ c = eqb-true h.0.c c (and_parts (h.0.c == c) (h.0.epoch.0 == e) parts.0).0 in
      let has : Has (job_told h.0) J = subst (Has (job_told h.0)) (sym told) (told-has h.0 disk h.1) in
      let one : Has (n, c, h.0.r, h.0.path) J = subst (λ (d : ℕ). Has (n, d, h.0.r, h.0.path) J) mine (subst (λ (o : ℕ). Has (o, h.0.c, h.0.r, h.0.path) J) h.2 has) in
      (h.0.path, subst (λ (i : ℕ). Has (n, c, i, h.0.path) J) (eqb-true h.0.r r parts.1) one)

  part-queued : (p : NodePart) (row : BackRow) (b : ControlBlock) (s : Stay) (e : Entry) (es : List Entry) → p.row ≡ Some row → row.stage ≡ back.Here b → p.stay ≡ Some s → s.batch ≡ e ∷ es → e.progress ≡ progress.Reading
      → PartReads n c disk p → Queued (s.served + 1)
  part-queued p row b s e es found at stays batch first h =
      let Q : ℕ → Type 0 = HasJob n c disk row.epoch.0 in
      let of-row : StageReads Q p.stay row.stage = subst (RowReads (HasJob n c disk) p.stay) found h in
      let of-stay : StayReads Q p.stay = subst (StageReads Q p.stay) at of-row in
      let of-batch : BatchReads Q (s.served + 1) s.batch = subst (StayReads Q) stays of-stay in
      let of-first : BatchReads Q (s.served + 1) (e ∷ es) = subst (BatchReads Q (s.served + 1)) batch of-batch in
      job-queued row.epoch.0 (s.served + 1) (subst (ReadsBy Q (s.served + 1)) first of-first.0)

-- a node that keeps anything is there
module _ (m : Machine) (n c : ℕ) where
  there : (o : Option NodeState) → node_at m.nodes n ≡ o → (row : BackRow) → (kept_at c o).row ≡ Some row → (s : NodeState) × (node_at m.nodes n ≡ Some s) × (kept_at c o ≡ node_part s c)
  there None at row is = let no : None ≡ Some row = is in absurd cc
  there (Some s) at row is = (s, at, refl)

pub reads-are-queued : ReadsAreQueued
unfolding conn part_of
reads-are-queued config files m r c n row b s e es found at stays batch first =
    let node = there m n c (node_at m.nodes n) refl row found in
    part-queued n c (jobs m.journal n) node.0.disk (jobs-told config files m r n node.0 node.1).0 (kept_at c (node_at m.nodes n)) row b s e es found at stays batch first
    (subst (PartReads n c node.0.disk) (sym node.2) (reads-are-jobs config files m r n node.0 node.1 c))
