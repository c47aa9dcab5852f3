-- A connection that ended, and the head of the line behind it.
use Rattle.std.proofs.Common.{◌≡◌, ℕ, ◌≤◌, List, [], Option, Some, None, Result, Ok, Err, IfOk, OnOk, option_map, refl, sym, ap, ◌∙◌, subst, arith}
use Rattle.std.specs.FinMap as table
use Rattle.lard_base.proofs.Usable.{usable}
use Rattle.lard_dispatch.specs.Books.{Dispatcher}
use Rattle.lard_dispatch.specs.Sound.{AreBefore, IsDispatcherSound}
use Rattle.lard_rules.specs.declared.front.FrontState.{FrontState}
use Rattle.lard_rules.specs.declared.front.FrontTurn.{FrontTurn}
use Rattle.lard_rules.specs.Front.{FrontDeed, Drops, Says, Does, Did, FrontPart, front_admitted, front_ended}
use Rattle.lard_rules.specs.FrontPlace.{FrontSetting, admits, admits_too, ended_deed, front_deed, front_env, front_part, front_put, front_step, in_order, front_joined, front_out_of, put_back, front_timers}
use Rattle.lard_rules.specs.FrontSound.{IsFrontSound, MayClose, OpenNodes, Waits, dispatch_standing, open_nodes_of}
use Rattle.lard_rules.proofs.FrontEnded.{Comes, end-comes, next-waits}
use Rattle.lard_rules.proofs.FrontKeeping.{put-some}
use Rattle.lard_rules.proofs.FrontParts.{part_put}
use Rattle.lard_rules.proofs.FrontStepping.{step-stays}
use Rattle.lard_front.specs.declared.turns.Armed.{Armed}
use Rattle.lard_front.specs.Hand.{HeadWaits, armed_of, changes, deed_turn, gives, next_admitted_by}
use Rattle.lard_front.specs.Place.{head_too}
use Rattle.lard_front.proofs.Steps.{changes_are}
use Rattle.lard_journal.specs.declared.rec.Rec.{Rec}
use Rattle.lard_policy.specs.declared.first.FirstChoice.{FirstChoice}
use Rattle.lard_rules.specs.declared.front.FrontIn.{FrontIn}
use Rattle.lard_rules.specs.declared.places.Out.{Out}
use Rattle.lard_endpoint.specs.declared.control.moving.Final.{Final}

-- ---- a connection that waits is handed off

-- there are at most 64 nodes, so no epoch is late
pub few-nodes : (d : Dispatcher) → IsDispatcherSound d → d.config.nodes ≤ 64
few-nodes d sound = (usable d.config sound.usable).nodes

pub waits_as : (s : FrontState) (d : ℕ) (nodes : OpenNodes) → nodes.all ≤ 64 → Waits nodes (front_part s d) → (table.get s.kept d ≡ Some [] → ⊥) → HeadWaits s d
waits_as s d nodes few waits some = let early = waits.here.early in record { nodes = nodes; waits = waits; small = omega (arith, few, early); some = some }

-- what was given to the code is what the rules give
pub handed_is : (s : FrontState) (d : ℕ) (o : Option (FrontPart × FrontTurn)) {n : FrontState} {t : FrontTurn} {timers : List Rec}
    → option_map (gives s d) o ≡ Some (n, t) → timers ≡ changes d (armed_of (front_part s d)) (armed_of (front_part n d))
    → (y : FrontPart × FrontTurn) × (o ≡ Some y) × (n ≡ front_put s d y.0) × (t ≡ y.1) × (timers ≡ front_timers d (front_part s d) y.0)
handed_is s d None {n = n} {t = t} given changed = let no : ◌≡◌ {A = Option (FrontState × FrontTurn)} None (Some (n, t)) = given in absurd cc
handed_is s d (Some y) {n = n} {t = t} given changed =
    let same : (n, t) ≡ gives s d y = some_is (n, t) (gives s d y) given in
    let state : n ≡ front_put s d y.0 = ap (λ (x : FrontState × FrontTurn). x.0) same in
    let there : front_part n d ≡ y.0 = ap (λ (u : FrontState). front_part u d) state ∙ part_put s d y.0 in (
      y,
      refl,
      state,
      ap (λ (x : FrontState × FrontTurn). x.1) same,
      changed ∙ ap (λ (p : FrontPart). changes d (armed_of (front_part s d)) (armed_of p)) there ∙ changes_are d (front_part s d) y.0,
    ) where
      some_is : (x y : FrontState × FrontTurn) → Some y ≡ Some x → x ≡ y
      some_is x y e = cc

pub too_is : (s : FrontState) (turn : FrontTurn) (timers : List Rec) (c d : ℕ) (o : Option (FrontPart × FrontTurn))
    {n : FrontState} {t all : FrontTurn} {others both : List Rec}
    → option_map (gives s d) o ≡ Some (n, t) → all ≡ front_joined turn t → others ≡ changes d (armed_of (front_part s d)) (armed_of (front_part n d))
    → both ≡ in_order c d timers others → (n, front_out_of all both) ≡ head_too s turn timers c d o
too_is s turn timers c d o given joins changed order =
    let h = handed_is s d o given changed in
    (λ i. (h.2 i, front_out_of ((joins ∙ ap (front_joined turn) h.3) i) ((order ∙ ap (in_order c d timers) h.4) i)))
    ∙ sym (ap (head_too s turn timers c d) h.1)

-- ---- an end

module _ (k : FrontSetting) (s : FrontState) (c : ℕ) where
  -- nobody is admitted in its place
  pub alone_is : (deed : FrontDeed) → next_admitted_by s.dispatch c k.now deed ≡ None → front_deed s c deed ≡ ended_deed k s c deed
  alone_is Drops none = refl
  alone_is (Says turn) none = refl
  alone_is (Does x) none = sym (ap (admits k s (put_back s c x) c x) none)

  abbrev After : FrontState → FrontTurn → List Rec → ℕ × FirstChoice → FrontState × Out
  After t turn timers next = head_too t turn timers c next.0 (front_admitted (front_env k t next.0 0) (front_part t next.0) next.1)

  too_same : (t : FrontState) (x : Did) (d : ℕ) (o : Option (FrontPart × FrontTurn)) → head_too t x.turn (front_timers c (front_part s c) x.part) c d o ≡ admits_too s t c x d o
  too_same t x d None = refl
  too_same t x d (Some y) = refl

  -- the head is
  pub headed_is : (deed : FrontDeed) {t : FrontState} {turn : FrontTurn} {timers : List Rec} {was is : Armed} {next : ℕ × FirstChoice} → (t, turn) ≡ deed_turn s c deed
      → Some next ≡ next_admitted_by s.dispatch c k.now deed → was ≡ armed_of (front_part s c) → is ≡ armed_of (front_part t c) → timers ≡ changes c was is
      → After t turn timers next ≡ ended_deed k s c deed
  headed_is Drops {next = next} did some before after changed = let no : Some next ≡ None = some in absurd cc
  headed_is (Says said) {next = next} did some before after changed = let no : Some next ≡ None = some in absurd cc
  headed_is (Does x) {t = t} {turn = turn} {timers = timers} {next = next} did some before after changed =
      let state : t ≡ put_back s c x = ap (λ (y : FrontState × FrontTurn). y.0) did in
      let told : turn ≡ x.turn = ap (λ (y : FrontState × FrontTurn). y.1) did in
      let timed : timers ≡ front_timers c (front_part s c) x.part =
      changed ∙ (λ i. changes c (before i) ((after ∙ ap (λ (u : FrontState). armed_of (front_part u c)) state ∙ ap armed_of (part_put s c x.part)) i)) ∙ changes_are c (front_part s c) x.part in
      (λ i. After (state i) (told i) (timed i) next)
      ∙ too_same (put_back s c x) x next.0 (front_admitted (front_env k (put_back s c x) next.0 0) (front_part (put_back s c x) next.0) next.1)
      ∙ ap (admits k s (put_back s c x) c x) some

  -- the head waits, and an empty list is not kept of it
  module _ (from epoch : ℕ) (last : Final) (sound : IsFrontSound s) where
    abbrev ended : FrontDeed
    ended = front_ended (front_env k s c 0) (front_part s c) from epoch last

    head_waits : {t : FrontState} {turn : FrontTurn} {next : ℕ × FirstChoice} (deed : FrontDeed)
        → Comes (open_nodes_of s.dispatch) (front_env k s c 0) (front_part s c) from epoch last (dispatch_standing s.dispatch c) deed
        → (t, turn) ≡ deed_turn s c deed → Some next ≡ next_admitted_by s.dispatch c k.now deed → HeadWaits t next.0
    head_waits {next = next} Drops comes did some = let no : Some next ≡ None = some in absurd cc
    head_waits {next = next} (Says said) comes did some = let no : Some next ≡ None = some in absurd cc
    head_waits {t = t} {next = next} (Does x) comes did some =
        subst (λ t. HeadWaits t next.0) (sym (ap (λ (y : FrontState × FrontTurn). y.0) did))
        (waits_as (put_back s c x) next.0 (open_nodes_of s.dispatch) (few-nodes s.dispatch sound.books)
        (next-waits k s sound c x comes.2 next (sym some)) (put-some s c x.part sound.some next.0))

    pub ended_waits : {t : FrontState} {turn : FrontTurn} {next : ℕ × FirstChoice} → (t, turn) ≡ deed_turn s c ended
        → Some next ≡ next_admitted_by s.dispatch c k.now ended → HeadWaits t next.0
    ended_waits did some =
        head_waits ended (end-comes (open_nodes_of s.dispatch) (front_env k s c 0) (front_part s c) from epoch last (dispatch_standing s.dispatch c) (sound.each c)) did some

-- ---- a step

pub step_sound : {E : Type 0} (k : FrontSetting) (s n : FrontState) (in_ : FrontIn) (r : Result Out E) → MayClose s in_ → IsFrontSound s
    → IfOk r (λ out. (n, out) ≡ front_step k s in_) → OnOk r (IsFrontSound n)
step_sound k s n in_ (Ok out) may sound is = subst IsFrontSound (sym (ap (λ (x : FrontState × Out). x.0) is)) (step-stays k s in_ may sound).sound
step_sound k s n in_ (Err e) may sound is = tt

pub step_before : {E : Type 0} (k : FrontSetting) (s n : FrontState) (in_ : FrontIn) (r : Result Out E)
    → MayClose s in_ → IsFrontSound s → AreBefore k.now.0 s.dispatch.books.sets
    → IfOk r (λ out. (n, out) ≡ front_step k s in_) → OnOk r (AreBefore k.now.0 n.dispatch.books.sets)
step_before k s n in_ (Ok out) may sound clock is =
    subst (λ (u : FrontState). AreBefore k.now.0 u.dispatch.books.sets) (sym (ap (λ (x : FrontState × Out). x.0) is)) ((step-stays k s in_ may sound).clock clock)
step_before k s n in_ (Err e) may sound clock is = tt
