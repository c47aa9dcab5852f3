-- Each job that is queued is the node's own, or that of a Fetch which comes in the step.
use Rattle.std.proofs.Common.{◌≡◌, ◌-◌, ℕ, List, [], ◌∷◌, ◌++◌, refl, sym, ap, ◌∙◌, subst, inl, inr, ⊎_elim}
use Rattle.std.specs.Prelude.{slice_set}
use Rattle.std.specs.List.{AllByRecursion}
use Rattle.lard_law_view.specs.Prelude.{BackIn, Event, Has, IsViewed, Machine, Node, NodeState, Out, Packet, Rec, decoded_message, machine_told, node_setting, node_step, packet_at}
use Rattle.lard_laws.specs.BackingJobs.{GetsFetch, MayQueue, MustQueue}
use Rattle.lard_laws.specs.BackingRuns.{JobsAreAsked}
use Rattle.lard_laws.proofs.BackingElsewhere.{allows-still, stays-still}
use Rattle.lard_laws.proofs.BackingHits.{node-hits, reached-hit}
use Rattle.lard_laws.proofs.BackingHitting.{IsStill}
use Rattle.lard_laws.proofs.BackingWalking.{FetchIn, QueuesBy, StepHits}
use Rattle.lard_law_connections.proofs.Calm.{IsCalm, first-calm, first_rows, last-calm, last_rows, told-journal}
use Rattle.lard_law_connections.proofs.Forms.{Comes, NodeStep, NodesStay, node-form}
use Rattle.lard_law_view.proofs.After.{IsAfter, step-after}
use Rattle.lard_law_view.proofs.Carried.{carried-keep}
use Rattle.lard_history.proofs.Each.{Each, Each-append, Each-weaker}
use Rattle.lard_history.proofs.Seeing.{has-before}
use Rattle.lard_history.proofs.Stepping.{AreLawful, cancel, one-more}
use Rattle.lard_journal.specs.declared.rec.Rec.TheVariants as rec
use Rattle.lard_rules.specs.declared.node.BackIn.TheVariants as input

still-may : (past step : List Rec) (r : Rec) → IsStill r → MayQueue past step r
still-may past step (rec.Queued n m c r path) h = inl h.1
still-may past step _ h = tt

all-may : (past step rs : List Rec) → Each (MayQueue past step) rs → AllByRecursion (MayQueue past step) rs
all-may past step [] h = tt
all-may past step (r ∷ rs) h = (h.0, all-may past step rs h.1)

-- what the journal of n has behind that of m may be queued
abbrev Good : Machine → Machine → Type 0
Good m n = (rs : List Rec) × (n.journal ≡ m.journal ++ rs) × MustQueue m.journal rs

mild-good : (m n : Machine) → IsCalm IsStill m n → Good m n
mild-good m n h = (h.0, h.1, all-may m.journal h.0 h.0 (Each-weaker IsStill (MayQueue m.journal h.0) (still-may m.journal h.0) h.0 h.2))

-- ---- a node's step

module _ (m : Machine) (view : IsViewed m) (e : Event) (n : Machine) (step : NodeStep m e n) where
  abbrev given : NodeState × Out
  given = node_step (node_setting m step.i) step.s step.comes

  abbrev w : Machine
  w = record m { nodes = slice_set m.nodes (step.i - 1) given.0 }

  abbrev first : List Rec
  first = first_rows m e

  abbrev last : List Rec
  last = last_rows w (Node step.i) given.1

  abbrev rows : List Rec
  rows = first ++ given.1.notes ++ last

  fetched : (comes : BackIn) → Comes m e step.i step.s comes → (k c r : ℕ) (path : List ℕ) → FetchIn comes k c r path → GetsFetch m.journal rows step.i k c r path
  fetched (input.Message from bytes) came k c r path f = record {
    k = came.0;
    packet = came.1;
    epoch = f.0;
    sent = ap (λ (net : List Packet). packet_at net came.0) view.told ∙ came.3;
    from = came.4 ∙ f.1;
    to = came.5;
    asks = ap decoded_message came.6 ∙ f.2;
    got = has-before (rec.Got came.0) (first ++ given.1.notes) last (has-before (rec.Got came.0) first given.1.notes (subst (λ (d : Event). Has (rec.Got came.0) (first_rows m d)) (sym came.2) (inr (inl refl))));
  }
  fetched (input.Timer c) came k d r path f = absurd f
  fetched (input.Disk j) came k c r path f = absurd f

  by-may : (r : Rec) → QueuesBy step.i step.comes r → MayQueue m.journal rows r
  by-may (rec.Queued k o c r path) h = ⊎_elim (λ (own : o ≡ k). inl own)
      (λ (f : (k ≡ step.i) × FetchIn step.comes o c r path). inr (subst (λ (i : ℕ). GetsFetch m.journal rows i o c r path) (sym f.0) (fetched step.comes step.came o c r path f.1))) h
  by-may _ h = tt

  node-good : StepHits (node_setting m step.i) step.comes (m.journal ++ first) given → Good m n
  unfolding machine_told
  node-good h =
      let P : Rec → Type 0 = MayQueue m.journal rows in (
        rows,
        ap (λ (k : Machine). k.journal) step.is ∙ told-journal w e (Node step.i) given.1,
        all-may m.journal rows rows
            (Each-append P (first ++ given.1.notes) last
            (Each-append P first given.1.notes (Each-weaker IsStill P (still-may m.journal rows) first (first-calm IsStill allows-still m e)) (Each-weaker (QueuesBy step.i step.comes) P by-may given.1.notes h.queued))
            (Each-weaker IsStill P (still-may m.journal rows) last (last-calm IsStill allows-still w (Node step.i) given.1 h.gave h.timers))),
      )

-- ---- every state

pub jobs-are-asked : JobsAreAsked
jobs-are-asked config files m checked r = (carried-keep config files (λ k. AreLawful MustQueue k.journal) (refl, tt)
    (λ k n e on lawful rule is.
    let after : IsAfter k e n = step-after k on.view e n rule is in
    let good : Good k n = ⊎_elim
    (λ (stay : NodesStay k e n). mild-good k n (stays-still k on.view e n rule is stay))
    (λ (step : NodeStep k e n). node-good k on.view e n step (node-hits config files checked k on (reached-hit config files checked k on.reached) e n step))
    (node-form k n e is) in
    let same : good.0 ≡ after.step = cancel k.journal good.0 after.step (sym good.1 ∙ after.is) in
    subst (AreLawful MustQueue) (sym after.is) (one-more MustQueue k.journal after.step after.one lawful (subst (MustQueue k.journal) same good.2)))
    m r).1
