-- In every state the disks and caches are those that the journal tells, and each of its records stands where they let it.
use Rattle.std.proofs.Common.{◌≡◌, ℕ, ◌+◌, ◌-◌, List, [], ◌∷◌, ◌++◌, length, Option, Some, None, Ok, refl, sym, ap, ◌∙◌, subst, append_assoc, ⊎_elim}
use Rattle.std.specs.Prelude.{slice_set}
use Rattle.std.proofs.lemmas.List.{length-map}
use Rattle.std.proofs.lemmas.List.Sums.{fold-append}
use Rattle.lard_law_view.specs.Prelude.{BackIn, Config, EachMay, Event, FilesAt, HasRule, IsReached, IsViewed, Machine, Node, NodeSetting, NodeState, Out, Rec, file_at, last_event_step, machine_start, machine_step, machine_told, no_stays, node_at, node_gave, node_setting, node_step}
use Rattle.lard_base.specs.declared.event.Event.TheVariants as event
use Rattle.lard_law_connections.specs.StoresLaws.{CachesAreTold, JobsAreTold, MayStore, StoresAreLawful, job_told}
use Rattle.lard_counts.specs.Stores.{Queue, jobs_step, no_jobs, queue_of}
use Rattle.lard_law_connections.proofs.StoresAsides.{IsAside, allows-aside, asides-may, note-aside}
use Rattle.lard_law_connections.proofs.Calm.{IsCalm, every-clock, first-calm, first_rows, last-calm, last_rows, told-journal}
use Rattle.lard_law_connections.proofs.Forms.{Comes, NodeStep, NodesStay, node-form, nodes-calm}
use Rattle.lard_law_connections.proofs.StoresLeading.{IsNamed, Leads, asides-kept, step-leads}
use Rattle.lard_law_connections.proofs.StoresNodes.{NodeMoves, Plain, Reads, step-moves}
use Rattle.lard_law_connections.proofs.StoresNotes.{IsKept, own-test}
use Rattle.lard_law_view.proofs.Carried.{carried-keep}
use Rattle.lard_law_view.proofs.Parts.{node-others, node-set}
use Rattle.lard_law_view.proofs.Runs.{of-nodes}
use Rattle.lard_history.proofs.Each.{Each, each_append}
use Rattle.lard_history.proofs.Seeing.{by_number}
use Rattle.lard_journal.specs.declared.rec.Rec.TheVariants as rec
use Rattle.lard_rules.specs.declared.node.BackIn.TheVariants as back
use Rattle.lard_law_view.proofs.OwnRecords.{behind}

-- Each disk and each cache is as the journal tells it, and the journal obeys the law of its records.
pub record IsStored (files : FilesAt) (limit : ℕ) (m : Machine) : Type 0 where
  pub kept : (n : ℕ) (s : NodeState) → node_at m.nodes n ≡ Some s → IsKept files limit m.journal n s.cache s.disk
  pub law : EachMay (MayStore files limit) [] m.journal

-- ---- no node moves

calm-stored : (files : FilesAt) (limit : ℕ) (m n : Machine) → IsStored files limit m → n.nodes ≡ m.nodes → IsCalm IsAside m n → IsStored files limit n
calm-stored files limit m n stored same calm =
    let rs : List Rec = calm.0 in record {
      kept = λ k s at. subst (λ (J : List Rec). IsKept files limit J k s.cache s.disk) (sym calm.1)
          (asides-kept files limit k m.journal rs s.cache s.disk calm.2 (stored.kept k s (ap (λ (nodes : List NodeState). node_at nodes k) (sym same) ∙ at)));
      law = subst (EachMay (MayStore files limit) []) (sym calm.1) (each_append (MayStore files limit) [] m.journal rs stored.law (asides-may files limit m.journal rs calm.2));
    }

-- ---- a node moves

-- the event of a disk names the job that is completed
named-after : (k : NodeSetting) (limit : ℕ) (J : List Rec) (m : Machine) (c : ℕ) (e : Event) (i : BackIn) (s : NodeState) → Comes m e k.n s i → IsNamed k limit (J ++ rec.Event c e ∷ behind e) i
named-after k limit J m c e (back.Disk j) s comes = subst (λ (d : Event). IsNamed k limit (J ++ rec.Event c d ∷ behind d) (back.Disk j)) (sym comes.0) (
  ap (λ (q : Queue). q.at) (fold-append (jobs_step k.n) no_jobs J (rec.Event c (event.Disk k.n j) ∷ [])) ∙ own-test k.n k.n j (queue_of J k.n).at refl,
  fold-append last_event_step None J (rec.Event c (event.Disk k.n j) ∷ []),
)
named-after k limit J m c e (back.Timer d) s comes = tt
named-after k limit J m c e (back.Message from bytes) s comes = tt

-- the records of a node's step but its notes are aside
pub moves-asides : (k : NodeSetting) (s : NodeState) (i : BackIn) (x : NodeState × Out) → NodeMoves k s i x → Each IsAside x.1.gave × Each IsAside x.1.timers
moves-asides k s i x (Plain idle moves) = (moves.gave, moves.timers)
moves-asides k s (back.Disk j) x (Reads {job = job} {x = y} is moves) = (moves.gave, moves.timers)

module _ (limit : ℕ) (m : Machine) (stored : IsStored (file_at m.files) limit m) (e : Event) (i : ℕ) (s : NodeState) (comes : BackIn) (at : node_at m.nodes i ≡ Some s) (came : Comes m e i s comes)
    (t : NodeState) (o : Out) (moves : NodeMoves (node_setting m i) s comes (t, o)) where
  abbrev files : FilesAt
  files = file_at m.files

  abbrev first : List Rec
  first = first_rows m e

  abbrev w : Machine
  w = record m { nodes = slice_set m.nodes (i - 1) t }

  abbrev last : List Rec
  last = last_rows w (Node i) o

  abbrev rows : List Rec
  rows = first ++ o.notes ++ last

  leads : Leads files limit (m.journal ++ first) i o.notes t
  leads = step-leads (node_setting m i) limit (m.journal ++ first) s comes (t, o) (asides-kept files limit i m.journal first s.cache s.disk (first-calm IsAside allows-aside m e) (stored.kept i s at))
      (named-after (node_setting m i) limit m.journal m (m.events + 1) e comes s came) moves

  lasts : Each IsAside last
  lasts = let asides = moves-asides (node_setting m i) s comes (t, o) moves in last-calm IsAside allows-aside w (Node i) o asides.0 asides.1

  -- the journal behind the step
  whole : (m.journal ++ first ++ o.notes) ++ last ≡ m.journal ++ rows
  whole = ap (λ l. l ++ last) (append_assoc m.journal first o.notes) ∙ append_assoc m.journal (first ++ o.notes) last

  kept-on : (k : ℕ) (u : NodeState) → IsKept files limit (m.journal ++ first ++ o.notes) k u.cache u.disk → IsKept files limit (m.journal ++ rows) k u.cache u.disk
  kept-on k u kept = subst (λ (J : List Rec). IsKept files limit J k u.cache u.disk) whole (asides-kept files limit k (m.journal ++ first ++ o.notes) last u.cache u.disk lasts kept)

  each-kept : (k : ℕ) (u : NodeState) → node_at w.nodes k ≡ Some u → IsKept files limit (m.journal ++ rows) k u.cache u.disk
  each-kept k u is = by_number (IsKept files limit (m.journal ++ rows) k u.cache u.disk) k i
      (λ same.
      let one : Some t ≡ Some u = sym (node-set m.nodes i s t at) ∙ ap (node_at w.nodes) (sym same) ∙ is in
      let e : t ≡ u = cc in
      subst (λ (j : ℕ). IsKept files limit (m.journal ++ rows) j u.cache u.disk) (sym same) (subst (λ (x : NodeState). IsKept files limit (m.journal ++ rows) i x.cache x.disk) e (kept-on i t leads.mine)))
      (λ other.
      let was : IsKept files limit m.journal k u.cache u.disk = stored.kept k u (sym (node-others m.nodes i k s t at other) ∙ is) in
      kept-on k u (leads.others k u.cache u.disk (λ same. other (sym same)) (asides-kept files limit k m.journal first u.cache u.disk (first-calm IsAside allows-aside m e) was)))

  law-on : EachMay (MayStore files limit) [] (m.journal ++ rows)
  law-on = subst (EachMay (MayStore files limit) []) whole
      (each_append (MayStore files limit) [] (m.journal ++ first ++ o.notes) last
      (each_append (MayStore files limit) [] (m.journal ++ first) o.notes
      (each_append (MayStore files limit) [] m.journal first stored.law (asides-may files limit m.journal first (first-calm IsAside allows-aside m e)))
      leads.law)
      (asides-may files limit (m.journal ++ first ++ o.notes) last lasts))

  pub node-stored : IsStored files limit (node_gave m e (behind e) i (t, o))
  unfolding machine_told
  node-stored =
      let J : (node_gave m e (behind e) i (t, o)).journal ≡ m.journal ++ rows = told-journal w e (Node i) o in
      record {
        kept = λ k u is. subst (λ (J : List Rec). IsKept files limit J k u.cache u.disk) (sym J) (each-kept k u is);
        law = subst (EachMay (MayStore files limit) []) (sym J) law-on;
      }

-- ---- a step

abbrev files_in : Machine → FilesAt
files_in m = file_at m.files

-- what is said where no node moves
pub calm-of : (m n : Machine) (e : Event) → IsViewed m → HasRule e → machine_step m e ≡ Ok n → NodesStay m e n → IsCalm IsAside m n
calm-of m n e view rule is stay = nodes-calm IsAside allows-aside note-aside m view e n rule is (every-clock IsAside (λ time. tt) e) stay

step-stored : (limit : ℕ) (m n : Machine) (e : Event) → IsViewed m → IsStored (files_in m) limit m → HasRule e → machine_step m e ≡ Ok n → IsStored (files_in m) limit n
step-stored limit m n e view stored rule is = ⊎_elim
    (λ (stay : NodesStay m e n). calm-stored (files_in m) limit m n stored stay.0
    (calm-of m n e view rule is stay))
    (λ (step : NodeStep m e n).
    let given : NodeState × Out = node_step (node_setting m step.i) step.s step.comes in
    subst (IsStored (files_in m) limit) (sym step.is)
    (node-stored limit m stored e step.i step.s step.comes step.there step.came given.0 given.1 (step-moves (node_setting m step.i) step.s step.comes)))
    (node-form m n e is)

-- ---- every state

module _ (config : Config) (files : List (List ℕ × List ℕ)) where
  abbrev Stored : Machine → Type 0
  Stored m = IsStored (file_at files) config.cache m

  start-stored : Stored (machine_start config files)
  start-stored = record {
    kept = λ n s at. of-nodes (λ (o : Option NodeState). o ≡ Some s → IsKept (file_at files) config.cache [] n s.cache s.disk) config.nodes (no_stays config.cache)
        (λ e. let no : None ≡ Some s = e in absurd cc)
        (λ e. let same : no_stays config.cache ≡ s = cc in subst (λ (x : NodeState). IsKept (file_at files) config.cache [] n x.cache x.disk) same (record { jobs_are = refl; cache_is = refl }))
        n at;
    law = tt;
  }

  pub reached-stored : (m : Machine) → IsReached config files m → Stored m
  reached-stored m r = carried-keep config files Stored start-stored
      (λ k n e on stored rule is.
      subst (λ (fs : List (List ℕ × List ℕ)). IsStored (file_at fs) config.cache n) on.files_are
      (step-stored config.cache k n e on.view (subst (λ (fs : List (List ℕ × List ℕ)). IsStored (file_at fs) config.cache k) (sym on.files_are) stored) rule is))
      m r

-- ---- what is told

pub jobs-told : JobsAreTold
jobs-told config files m r n s at = let kept = (reached-stored config files m r).kept n s at in (kept.jobs_are, ap (λ xs. length xs) kept.jobs_are ∙ length-map s.disk job_told)

pub caches-told : CachesAreTold
caches-told config files m r n s at = ap (λ c. c.entries) ((reached-stored config files m r).kept n s at).cache_is

pub lawful : StoresAreLawful
lawful config files m r = (reached-stored config files m r).law
