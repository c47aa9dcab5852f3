-- Each event of a disk reads the job that it names, and in no other step is one read.
use Rattle.std.proofs.Common.{◌≡◌, ℕ, ◌-◌, Bool, false, List, [], ◌∷◌, ◌++◌, map, Some, None, Ok, refl, sym, ap, ◌∙◌, subst, ⊎_elim}
use Rattle.std.specs.Prelude.{slice_set}
use Rattle.lard_law_view.specs.Prelude.{BackIn, Event, FilesAt, HasRule, IsViewed, Machine, Node, NodeSetting, NodeState, Out, Rec, machine_step, node_at, node_setting, node_step}
use Rattle.lard_base.specs.declared.event.Event.TheVariants as event
use Rattle.lard_law_connections.specs.StoresLaws.{CompletesJob, DisksAreRead, MustRead, NoneRead, is_read, job_told}
use Rattle.lard_counts.specs.Stores.{jobs}
use Rattle.lard_law_connections.proofs.StoresAsides.{IsAside, allows-aside, aside}
use Rattle.lard_law_connections.proofs.Calm.{IsCalm, behind-calm, first_rows, last-calm, last_rows, told-journal}
use Rattle.lard_law_connections.proofs.Forms.{Comes, IsOther, NodeStep, NodesStay, node-form}
use Rattle.lard_law_connections.proofs.StoresLeading.{waiting-is}
use Rattle.lard_law_connections.proofs.StoresNodes.{NodeMoves, Plain, Reads, step-moves}
use Rattle.lard_law_connections.proofs.StoresNotes.{MayNote}
use Rattle.lard_law_connections.proofs.StoresStored.{calm-of, moves-asides, reached-stored}
use Rattle.lard_law_view.proofs.After.{IsAfter, step-after}
use Rattle.lard_law_view.proofs.Carried.{carried-keep}
use Rattle.lard_law_view.proofs.Works.{all-append}
use Rattle.lard_history.proofs.Each.{Each}
use Rattle.lard_history.proofs.Stepping.{AreLawful, cancel, one-more}
use Rattle.lard_journal.specs.declared.rec.Rec.TheVariants as rec
use Rattle.lard_rules.specs.declared.node.BackIn.TheVariants as back
use Rattle.lard_law_view.proofs.OwnRecords.{behind}

-- ---- records that read no job

asides-unread : (rs : List Rec) → Each IsAside rs → NoneRead rs
asides-unread [] e = tt
asides-unread (r ∷ rs) e = ((aside r e.0).unread, asides-unread rs e.1)

notes-unread : (n : ℕ) (files : FilesAt) (has : List ℕ → Bool) (rs : List Rec) → Each (MayNote n files has) rs → NoneRead rs
notes-unread n files has [] e = tt
notes-unread n files has (r ∷ rs) e = (one r e.0, notes-unread n files has rs e.1) where
  one : (r : Rec) → MayNote n files has r → is_read r ≡ false
  one (rec.Hit k path) h = refl
  one (rec.Queued k m c r path) h = refl
  one r h = (aside r h).unread

joined : (xs ys : List Rec) → NoneRead xs → NoneRead ys → NoneRead (xs ++ ys)
joined xs ys e f = all-append (λ r. is_read r ≡ false) xs ys e f

others-complete : (past : List Rec) (e : Event) (rs : List Rec) → IsOther e → NoneRead rs → CompletesJob past e rs
others-complete past (event.Disk n j) rs other none = absurd other
others-complete past _ rs other none = none

-- ---- a step

-- no node moves
calm-reads : (m n : Machine) (e : Event) (after : IsAfter m e n) → IsOther e → IsCalm IsAside m n → MustRead m.journal after.step
calm-reads m n e after other calm =
    let same : calm.0 ≡ after.step = cancel m.journal calm.0 after.step (sym calm.1 ∙ after.is) in
    let is : after.step ≡ rec.Event n.events e ∷ after.follows.own ++ after.follows.others = after.follows.is in
    let asides : Each IsAside (rec.Event n.events e ∷ after.follows.own ++ after.follows.others) = subst (Each IsAside) (same ∙ is) calm.2 in
    subst (MustRead m.journal) (sym is) (others-complete m.journal e (after.follows.own ++ after.follows.others) other (asides-unread (after.follows.own ++ after.follows.others) asides.1))

other-event : {d e : Event} → d ≡ e → IsOther d → IsOther e
other-event is other = subst IsOther is other

-- node k.n moves, which has the jobs that J tells; behind the notes no job is read
module _ (m : Machine) (k : NodeSetting) (J : List Rec) (e : Event) (s : NodeState) (told : jobs J k.n ≡ map job_told s.disk) (last : List Rec) (none : NoneRead last) where
  plain : (notes : List Rec) → IsOther e → NoneRead (behind e) → NoneRead notes → CompletesJob J e (behind e ++ notes ++ last)
  plain notes other first e_ = others-complete J e (behind e ++ notes ++ last) other (joined (behind e ++ notes) last (joined (behind e) notes first e_) none)

  moves-read : (i : BackIn) (x : NodeState × Out) → Comes m e k.n s i → NoneRead (behind e) → NodeMoves k s i x → CompletesJob J e (behind e ++ x.1.notes ++ last)
  moves-read (back.Disk j) x named first (Plain idle moves) = let no : None ≡ Some named.1 = sym idle ∙ named.2 in absurd cc
  moves-read (back.Timer c) x named first (Plain idle moves) = plain x.1.notes (other-event (sym named.0) tt) first (notes-unread k.n k.files _ x.1.notes moves.notes.each)
  moves-read (back.Message from bytes) x named first (Plain idle moves) = plain x.1.notes (other-event (sym named.2) tt) first (notes-unread k.n k.files _ x.1.notes moves.notes.each)
  moves-read (back.Disk j) x named first (Reads {job = job} {x = y} is moves) =
      subst (λ (d : Event). CompletesJob J d (behind d ++ rec.Read k.n job.origin job.c job.r job.path ∷ y.1.notes ++ last)) (sym named.0)
      (job_told job, y.1.notes ++ last, waiting-is J k.n j s.disk job told is, refl, joined y.1.notes last (notes-unread k.n k.files _ y.1.notes moves.notes.each) none)

step-reads : (m n : Machine) (e : Event) → IsViewed m → HasRule e → machine_step m e ≡ Ok n → (after : IsAfter m e n)
    → ((i : ℕ) (s : NodeState) → node_at m.nodes i ≡ Some s → jobs m.journal i ≡ map job_told s.disk) → MustRead m.journal after.step
step-reads m n e view rule is after told = ⊎_elim
    (λ (stay : NodesStay m e n). calm-reads m n e after stay.1 (calm-of m n e view rule is stay))
    (λ (step : NodeStep m e n).
    let k : NodeSetting = node_setting m step.i in
    let x : NodeState × Out = node_step k step.s step.comes in
    let moves : NodeMoves k step.s step.comes x = step-moves k step.s step.comes in
    let w : Machine = record m { nodes = slice_set m.nodes (step.i - 1) x.0 } in
    let last : List Rec = last_rows w (Node step.i) x.1 in
    let asides = moves-asides k step.s step.comes x moves in
    let rows : List Rec = first_rows m e ++ x.1.notes ++ last in
    let same : rows ≡ after.step = cancel m.journal rows after.step (sym (ap (λ (z : Machine). z.journal) step.is ∙ told-journal w e (Node step.i) x.1) ∙ after.is) in
    subst (MustRead m.journal) same
    (moves-read m k m.journal e step.s (told step.i step.s step.there) last (asides-unread last (last-calm IsAside allows-aside w (Node step.i) x.1 asides.0 asides.1)) step.comes x step.came (asides-unread (behind e) (behind-calm IsAside allows-aside e)) moves))
    (node-form m n e is)

-- ---- every state

pub disks-read : DisksAreRead
disks-read config files m r = (carried-keep config files (λ k. AreLawful MustRead k.journal) (refl, tt)
    (λ k n e on lawful rule is.
    let after : IsAfter k e n = step-after k on.view e n rule is in
    subst (AreLawful MustRead) (sym after.is)
    (one-more MustRead k.journal after.step after.one lawful (step-reads k n e on.view rule is after (λ i s at. ((reached-stored config files k on.reached).kept i s at).jobs_are))))
    m r).1
