-- What each rule of the front end does to its connection is sound.
use Rattle.std.proofs.Common.{◌≡◌, ℕ, ◌+◌, ◌≤◌, ◌==◌, ◌&&◌, nat_eq, nat_lt, Bool, true, false, cond, List, [], ◌∷◌, ◌++◌, length, map, Option, Some, None, Result, Ok, Err, refl, sym, ap, subst, ◌∙◌, arith}
use Rattle.std.proofs.lemmas.Bool.{and_parts, cond_both, eqb-true}
use Rattle.std.proofs.lemmas.List.{length-map}
use Rattle.std.specs.List.{list_any}
use Rattle.lard_base.specs.declared.config.Config.{Config}
use Rattle.lard_base.specs.declared.ids.Millis.{Millis}
use Rattle.lard_costs.specs.declared.later.LaterChoice.{LaterChoice}
use Rattle.lard_dispatch.specs.declared.dispatch.Ask.{Ask}
use Rattle.lard_dispatch.specs.declared.dispatch.First.{First}
use Rattle.lard_dispatch.specs.declared.dispatch.First.TheVariants as first
use Rattle.lard_dispatch.specs.declared.dispatch.Later.{Later}
use Rattle.lard_dispatch.specs.Books.{Books, Dispatcher}
use Rattle.lard_dispatch.specs.Calls.{after_first, all_choices, batch_over, choice_at, first_answer, is_full, later_answer, shared_with}
use Rattle.lard_dispatch.specs.Laws as call
use Rattle.lard_dispatch.proofs.Soundness.{before-first, before-later}
use Rattle.lard_endpoint.specs.Arriving.{on_segment}
use Rattle.lard_endpoint.specs.Control.{ControlBlock, listening}
use Rattle.lard_endpoint.specs.Leaving.{after_timer, timed}
use Rattle.lard_endpoint.specs.Moving.{may_freeze}
use Rattle.lard_rules.specs.declared.front.FrontRest.{FrontRest}
use Rattle.lard_rules.specs.Front.{FrontDeed, Drops, Says, Does, FrontEnv, FrontPart, asked_by, assigns, front_begun, front_fired, front_asked, front_gets, front_hears, front_taken, front_timer, front_fired_by, fires_at, heard, hears_at, holds, is_row_at, is_with, leaves_by, placed, front_rest, front_rests, front_saying, settled_by, tag_sent, taken_by, turn_here, waits_on}
use Rattle.lard_rules.specs.FrontReading.{MayMove, Reading, front_reads}
use Rattle.lard_rules.specs.FrontSound.{HasTag, HasTarget, IsAsk, IsAwayAt, IsEarlyAway, IsEarlyHere, IsEarlyOver, IsHereWith, IsPartSound, IsRowSound, IsStageSound, OpenNodes, Serves, DispatchStanding, nowhere, dispatch_standing, open_nodes_of}
use Rattle.lard_rules.proofs.FrontBlocks.{EndsIdle, EndsServing, idle-of, segment-idle, segment-serves, settled-serves, spoken-idle, spoken-serves, timer-idle, timer-serves}
use Rattle.lard_rules.proofs.FrontKeeping.{DeedKeeps, Keeps}
use Rattle.lard_rules.proofs.FrontOpen.{HasOpen, chosen-open, first-nodes, later-nodes, others-less}
use Rattle.lard_rules.proofs.FrontStandings.{StandsAt, first-others, first-stands, later-stands, leave-others, leave-stands}
use Rattle.lard_rules.proofs.FrontTurns.{HasStopped, reads-stop}
use Rattle.lard_handoff_front.specs.declared.row.FrontConn.{FrontConn}
use Rattle.lard_handoff_front.specs.declared.row.FrontConn.TheVariants as stage
use Rattle.lard_handoff_front.specs.declared.row.FrontRow.{FrontRow}
use Rattle.lard_handoff_front.specs.Front.{asked_node}
use Rattle.lard_handoff_front.specs.Row.{offered_to}
use Rattle.lard_journal.specs.declared.rec.Rec.TheVariants as rec
use Rattle.lard_base.specs.declared.place.Place.TheVariants as place
use Rattle.lard_base.specs.declared.place.TimerKind.TheVariants as kind
use Rattle.lard_resend.specs.declared.kept.Kept.{Kept}
use Rattle.lard_resend.specs.Kept.{without}
use Rattle.lard_rules.specs.declared.places.Ending.{Ending}
use Rattle.lard_rules.specs.declared.places.Ending.TheVariants.{Here, Over}
use Rattle.lard_rules.specs.declared.places.Turn.{Turn}
use Rattle.lard_rules.specs.Tombstone.{is_plain_syn}
use Rattle.lard_rules.specs.Serving.{Service, serving_ready_of, serving, serving_settled, spoken}
use Rattle.lard_segment.specs.declared.fault.SegFault.{SegFault}
use Rattle.lard_segment.specs.Segment.{Said}
use Rattle.lard_loads.specs.Tally.{home, is_open}

-- the dispatcher's answers are those of these books, at this time
pub record IsOf (env : FrontEnv) (d : Dispatcher) : Type 0 where
  pub first : (path : List ℕ) → env.first path ≡ first_answer d path env.now
  pub later : (ask : Ask) → env.later ask ≡ later_answer d ask env.now

abbrev pub waiting_there : DispatchStanding
waiting_there = record { home = None; waits = true }

-- ---- an endpoint that is here

-- what is early here is early over
here-over : (k : OpenNodes) (e : ℕ) → IsEarlyHere k e → IsEarlyOver k e
here-over k e h = omega (arith, h)

-- it is held on, or ended
pub holds-keeps : (d : Dispatcher) (c : ℕ) (now : Millis) (p : FrontPart) (row : FrontRow) (rest : FrontRest) (given : Ending × Turn)
    → IsEarlyHere (open_nodes_of d) row.epoch.0 → p.kept ≡ [] → dispatch_standing d c ≡ nowhere → HasTag (Some rest) → EndsServing given.0 → DeedKeeps d c now (holds p row rest given)
holds-keeps d c now p row rest (Here b count, turn) early none free tag serves =
    record { part = (record { early = early; serves = serves }, none, free); nodes = refl; tag = tag; others = λ q n. refl; allowed = tt; clock = λ h. h }
holds-keeps d c now p row rest (Over last, turn) early none free tag serves =
    record { part = (here-over (open_nodes_of d) row.epoch.0 early, free); nodes = refl; tag = tt; others = λ q n. refl; allowed = tt; clock = λ h. h }

-- it waits on, or leaves the line
pub waits-keeps : (d : Dispatcher) (env : FrontEnv) (p : FrontPart) (row : FrontRow) (rest : FrontRest) (given : Ending × Turn)
    → IsEarlyHere (open_nodes_of d) row.epoch.0 → p.kept ≡ [] → dispatch_standing d env.serve.c ≡ waiting_there → HasTag (Some rest) → HasTarget (Some rest) → EndsServing given.0 → EndsIdle given.0
    → DeedKeeps d env.serve.c env.now (waits_on env p row rest given)
waits-keeps d env p row rest (Here b count, turn) early none there tag target serves idle =
    record { part = (record { early = early; serves = serves }, none, there, idle, target); nodes = refl; tag = tag; others = λ q n. refl; allowed = tt; clock = λ h. h }
waits-keeps d env p row rest (Over last, turn) early none there tag target serves idle = record {
  part = (here-over (open_nodes_of d) row.epoch.0 early, leave-stands d env.serve.c (ap (λ (x : DispatchStanding). x.home) there));
  nodes = refl;
  tag = tt;
  others = leave-others d env.serve.c;
  allowed = (tt, tt);
  clock = λ h. h;
}

-- ---- it is placed

-- who goes to an open node is early there
pub goes-early : (k : OpenNodes) (n e : ℕ) → list_any (nat_eq n) k.left_open ≡ true → IsEarlyHere k e → IsEarlyAway k n (e + 1)
goes-early k n e there early = let less = others-less n k.left_open there in omega (arith, less, early)

module _ (d : Dispatcher) (env : FrontEnv) (free : dispatch_standing d env.serve.c ≡ nowhere) (p : FrontPart) (row : FrontRow) (rest : FrontRest) (w : Service) (path : List ℕ) where
  abbrev After : Dispatcher
  After = after_first d env.serve.c path env.now

  may-come : (call.IsAllowed d (call.First env.serve.c path env.now))
  may-come = (ap (λ (x : DispatchStanding). x.home) free, ap (λ (x : DispatchStanding). x.waits) free)

  -- a node that was chosen is open
  abbrev pub GoesToOpen : First → Type 0
  GoesToOpen (first.Go choice) = is_open d.books.loads choice.node ≡ true
  GoesToOpen first.Waits = Unit {0}

  placed-keeps : (f : First) → StandsAt env.serve.c f After → GoesToOpen f → IsEarlyHere (open_nodes_of d) row.epoch.0 → p.kept ≡ [] → HasTag (Some rest) → Serves w.count w.block.recv w.block.send → may_freeze w.block ≡ true
      → Keeps d env.serve.c env.now (placed env p row rest w path f)
  placed-keeps (first.Go choice) at goes early none tag serves may = record {
    part = record { stands = at; early = goes-early (open_nodes_of d) choice.node row.epoch.0 goes early; offer = refl };
    nodes = first-nodes d env.serve.c path env.now;
    tag = λ some. absurd (omega (arith, some));
    others = first-others d env.serve.c path env.now;
    allowed = (may-come, tt);
    clock = before-first d env.serve.c path env.now;
  }
  placed-keeps first.Waits at goes early none tag serves may =
      let v : Service = record w { notes = w.notes ++ rec.Waits env.serve.c ∷ [] } in
      wait (spoken env.serve v []) (spoken-serves env.serve v [] serves) (spoken-idle env.serve v [] (idle-of w.block may serves.sent)) where
        wait : (given : Ending × Turn) → EndsServing given.0 → EndsIdle given.0 → Keeps d env.serve.c env.now (record {
          part = front_rests p row (record rest { target = Some path }) stage.Waiting given.0;
          turn = turn_here given.1;
          calls = call.First env.serve.c path env.now ∷ leaves_by env.serve.c given.0;
        })
        wait (Here b count, turn) on idle = record {
          part = (record { early = early; serves = on }, none, at, idle, tt);
          nodes = first-nodes d env.serve.c path env.now;
          tag = tag;
          others = first-others d env.serve.c path env.now;
          allowed = (may-come, tt);
          clock = before-first d env.serve.c path env.now;
        }
        wait (Over last, turn) on idle = record {
          part = (here-over (open_nodes_of d) row.epoch.0 early, leave-stands After env.serve.c (ap (λ (x : DispatchStanding). x.home) at));
          nodes = first-nodes d env.serve.c path env.now;
          tag = tt;
          others = λ q n. leave-others After env.serve.c q n ∙ first-others d env.serve.c path env.now q n;
          allowed = (may-come, (tt, tt));
          clock = before-first d env.serve.c path env.now;
        }

-- a first answer is of an open node
answer-open : (d : Dispatcher) (env : FrontEnv) (free : dispatch_standing d env.serve.c ≡ nowhere) (p : FrontPart) (row : FrontRow) (rest : FrontRest) (w : Service) (path : List ℕ) → HasOpen d.config d.books
    → GoesToOpen d env free p row rest w path (first_answer d path env.now)
answer-open d env free p row rest w path h =
    cond_both (is_full d) first.Waits (first.Go (choice_at d.config d.books path env.now)) (GoesToOpen d env free p row rest w path) (λ t. tt) (λ t. (chosen-open d.config d.books path env.now h).0)

-- what was read is said, or it is placed
pub read-keeps : (d : Dispatcher) (env : FrontEnv) (p : FrontPart) (row : FrontRow) (rest : FrontRest) (w : Service) (target : Option (List ℕ)) → IsOf env d → HasOpen d.config d.books → dispatch_standing d env.serve.c ≡ nowhere
    → IsEarlyHere (open_nodes_of d) row.epoch.0 → p.kept ≡ [] → HasTag (Some rest) → Serves w.count w.block.recv w.block.send → MayMove w.block target → DeedKeeps d env.serve.c env.now (settled_by env p row rest w target)
read-keeps d env p row rest w None of has free early none tag serves may = holds-keeps d env.serve.c env.now p row rest (serving_settled env.serve w) early none free tag (settled-serves env.serve w serves)
read-keeps d env p row rest w (Some path) of has free early none tag serves may =
    let at : StandsAt env.serve.c (env.first path) (after_first d env.serve.c path env.now) =
    subst (λ f. StandsAt env.serve.c f (after_first d env.serve.c path env.now)) (sym (of.first path)) (first-stands d env.serve.c path env.now free) in
    placed-keeps d env free p row rest w path (env.first path) at (subst (GoesToOpen d env free p row rest w path) (sym (of.first path)) (answer-open d env free p row rest w path has)) early none tag serves may

-- what an endpoint that is here reads, and what becomes of it
pub heard-keeps : (d : Dispatcher) (env : FrontEnv) (p : FrontPart) (row : FrontRow) (rest : FrontRest) (b : ControlBlock) → IsOf env d → HasOpen d.config d.books → dispatch_standing d env.serve.c ≡ nowhere
    → IsEarlyHere (open_nodes_of d) row.epoch.0 → p.kept ≡ [] → HasTag (Some rest) → Serves rest.count b.recv b.send → DeedKeeps d env.serve.c env.now (heard env p row rest b)
heard-keeps d env p row rest b of has free early none tag serves =
    let first : Reading = record { service = serving b rest.count []; target = None } in
    let stopped : HasStopped (front_reads env.serve first) = reads-stop env.serve first.service serves in
    read-keeps d env p row rest (front_reads env.serve first).service (front_reads env.serve first).target of has free early none tag stopped.0 stopped.1

-- ---- a segment

-- what is known of a part whose endpoint is here
here-rest : (k : OpenNodes) (epoch : ℕ) (b : ControlBlock) (rest : Option FrontRest) → IsHereWith k epoch b rest → IsEarlyHere k epoch × Serves (front_rest rest).count b.recv b.send
here-rest k epoch b None h = absurd h
here-rest k epoch b (Some rest) h = (h.early, h.serves)

tag-rest : (rest : Option FrontRest) → HasTag rest → HasTag (Some (front_rest rest))
tag-rest None h = λ some. absurd (omega (arith, some))
tag-rest (Some rest) h = h

target-rest : (rest : Option FrontRest) → HasTarget rest → HasTarget (Some (front_rest rest))
target-rest None h = absurd h
target-rest (Some rest) h = h

module _ (d : Dispatcher) (env : FrontEnv) (of : IsOf env d) (p : FrontPart) (tag : HasTag p.rest) where
  abbrev k : OpenNodes
  k = open_nodes_of d

  begins-keeps : length k.left_open ≤ k.all → (s : Said) → p.kept ≡ [] → dispatch_standing d env.serve.c ≡ nowhere → DeedKeeps d env.serve.c env.now (front_begun env p s)
  begins-keeps few s none free =
      let w : Service = serving (listening s env.iss) 0 (rec.Took place.Front env.serve.c (record { 0 = 1 }) ∷ []) in
      holds-keeps d env.serve.c env.now p (record { stage = stage.Lent; epoch = record { 0 = 1 }; ended_by = None }) (front_rest None) (spoken env.serve w []) (omega (arith, few)) none free (λ some. absurd (omega (arith, some)))
      (spoken-serves env.serve w [] (record { asked = omega arith; most = omega arith; sent = omega arith }))

  hears-keeps : HasOpen d.config d.books → (row : FrontRow) (bytes : List ℕ) (s : Said) (at : FrontConn) → IsStageSound k row.epoch.0 p.rest p.kept (dispatch_standing d env.serve.c) at
      → DeedKeeps d env.serve.c env.now (hears_at env p row bytes s at)
  hears-keeps has row bytes s (stage.Held b) sound =
      let here = here-rest k row.epoch.0 b p.rest sound.0 in
      heard-keeps d env p row (front_rest p.rest) (on_segment b s).1 of has sound.2 here.0 sound.1 (tag-rest p.rest tag) (segment-serves (front_rest p.rest).count b s here.1)
  hears-keeps has row bytes s (stage.Waiting b) sound =
      let here = here-rest k row.epoch.0 b p.rest sound.0 in
      let w : Service = serving (on_segment b s).1 (front_rest p.rest).count [] in
      waits-keeps d env p row (front_rest p.rest) (spoken env.serve w []) here.0 sound.1 sound.2 (tag-rest p.rest tag) (target-rest p.rest sound.4)
      (spoken-serves env.serve w [] (segment-serves (front_rest p.rest).count b s here.1)) (spoken-idle env.serve w [] (segment-idle b s (idle-of b sound.3 here.1.sent)))
  hears-keeps has row bytes s stage.Lent sound = tt
  hears-keeps has row bytes s (stage.Offering node epoch) sound = tt
  hears-keeps has row bytes s (stage.Moved node epoch) sound = tt
  hears-keeps has row bytes s (stage.Closed last) sound = tt

  module _ (few : length k.left_open ≤ k.all) (has : HasOpen d.config d.books) where
    row-hears : (bytes : List ℕ) (s : Said) (o : Option FrontRow) → IsRowSound k p.rest p.kept (dispatch_standing d env.serve.c) o → DeedKeeps d env.serve.c env.now (front_hears env p bytes s o)
    row-hears bytes s None sound = cond_both (is_plain_syn s) (front_begun env p s) Drops (DeedKeeps d env.serve.c env.now) (λ t. begins-keeps few s sound.0 sound.1) (λ t. tt)
    row-hears bytes s (Some row) sound = hears-keeps has row bytes s row.stage sound

    pub gets-keeps : (bytes : List ℕ) (r : Result Said SegFault) → IsPartSound k p (dispatch_standing d env.serve.c) → DeedKeeps d env.serve.c env.now (front_gets env p bytes r)
    gets-keeps bytes (Err fault) sound = tt
    gets-keeps bytes (Ok s) sound = row-hears bytes s p.row sound

  -- ---- timers

  fired-serves : (rest : FrontRest) (b : ControlBlock) → Serves rest.count b.recv b.send → EndsServing (front_fired env rest b).0
  fired-serves rest b h = spoken-serves env.serve (serving (after_timer b) rest.count []) (serving_ready_of env.serve (after_timer b) (timed b)) (timer-serves rest.count b h)

  fires-keeps : (row : FrontRow) (at : FrontConn) → IsStageSound k row.epoch.0 p.rest p.kept (dispatch_standing d env.serve.c) at → DeedKeeps d env.serve.c env.now (fires_at env p row at)
  fires-keeps row (stage.Held b) sound =
      let here = here-rest k row.epoch.0 b p.rest sound.0 in
      holds-keeps d env.serve.c env.now p row (front_rest p.rest) (front_fired env (front_rest p.rest) b) here.0 sound.1 sound.2 (tag-rest p.rest tag) (fired-serves (front_rest p.rest) b here.1)
  fires-keeps row (stage.Waiting b) sound =
      let here = here-rest k row.epoch.0 b p.rest sound.0 in
      waits-keeps d env p row (front_rest p.rest) (front_fired env (front_rest p.rest) b) here.0 sound.1 sound.2 (tag-rest p.rest tag) (target-rest p.rest sound.4) (fired-serves (front_rest p.rest) b here.1)
      (spoken-idle env.serve (serving (after_timer b) (front_rest p.rest).count []) (serving_ready_of env.serve (after_timer b) (timed b)) (timer-idle b (idle-of b sound.3 here.1.sent)))
  fires-keeps row stage.Lent sound = tt
  fires-keeps row (stage.Offering node epoch) sound = tt
  fires-keeps row (stage.Moved node epoch) sound = tt
  fires-keeps row (stage.Closed last) sound = tt

  pub timer-keeps : IsPartSound k p (dispatch_standing d env.serve.c) → DeedKeeps d env.serve.c env.now (front_timer env p)
  timer-keeps sound = go p.row sound where
    go : (o : Option FrontRow) → IsRowSound k p.rest p.kept (dispatch_standing d env.serve.c) o → DeedKeeps d env.serve.c env.now (front_fired_by env p o)
    go None h = tt
    go (Some row) h = fires-keeps row row.stage h

-- ---- a Taken

-- the node to which it was offered, and where it is then
offered-at : (k : OpenNodes) (epoch : ℕ) (at : FrontConn) (node : ℕ) (rest : Option FrontRest) (kept : List Kept) (stands : DispatchStanding) (e : ℕ) → offered_to epoch at ≡ Some node → IsStageSound k e rest kept stands at
    → IsAwayAt k e kept stands node
offered-at k epoch (stage.Offering n by) node rest kept stands e asked sound = go (by.0 == epoch) asked where
  go : (b : Bool) → cond b (Some n) None ≡ Some node → IsAwayAt k e kept stands node
  go true h = let same : n ≡ node = cc in subst (IsAwayAt k e kept stands) same sound
  go false h = let no : None ≡ Some node = h in absurd cc
offered-at k epoch (stage.Held b) node rest kept stands e asked sound = let no : None ≡ Some node = asked in absurd cc
offered-at k epoch (stage.Waiting b) node rest kept stands e asked sound = let no : None ≡ Some node = asked in absurd cc
offered-at k epoch stage.Lent node rest kept stands e asked sound = absurd sound
offered-at k epoch (stage.Moved n by) node rest kept stands e asked sound = let no : None ≡ Some node = asked in absurd cc
offered-at k epoch (stage.Closed last) node rest kept stands e asked sound = let no : None ≡ Some node = asked in absurd cc

pub taken-keeps : (d : Dispatcher) (c : ℕ) (now : Millis) (p : FrontPart) (epoch : ℕ) → HasTag p.rest → IsPartSound (open_nodes_of d) p (dispatch_standing d c) → DeedKeeps d c now (front_taken p epoch)
taken-keeps d c now p epoch tag sound = go p.row (asked_node epoch p.row) refl sound where
  go : (o : Option FrontRow) (a : Option ℕ) → asked_node epoch o ≡ a → IsRowSound (open_nodes_of d) p.rest p.kept (dispatch_standing d c) o → DeedKeeps d c now (taken_by p epoch o a)
  go None a is h = tt
  go (Some row) None is h = tt
  go (Some row) (Some node) is h =
      let away : IsAwayAt (open_nodes_of d) row.epoch.0 p.kept (dispatch_standing d c) node = offered-at (open_nodes_of d) epoch row.stage node p.rest p.kept (dispatch_standing d c) row.epoch.0 is h in
      record {
        part = record { stands = away.stands; early = away.early; offer = ap (without kind.Offer 0) away.offer };
        nodes = refl;
        tag = tag;
        others = λ q n. refl;
        allowed = tt;
        clock = λ k. k;
      }

-- ---- an Ask

-- where the connection is
pub away-at : (k : OpenNodes) (from epoch : ℕ) (at : FrontConn) (rest : Option FrontRest) (kept : List Kept) (stands : DispatchStanding) (e : ℕ) → is_with from epoch at ≡ true → IsStageSound k e rest kept stands at
    → IsAwayAt k e kept stands from
away-at k from epoch (stage.Offering n by) rest kept stands e there sound = subst (IsAwayAt k e kept stands) (eqb-true n from (and_parts (n == from) (by.0 == epoch) there).0) sound
away-at k from epoch (stage.Moved n by) rest kept stands e there sound = subst (IsAwayAt k e kept stands) (eqb-true n from (and_parts (n == from) (by.0 == epoch) there).0) sound
away-at k from epoch (stage.Held b) rest kept stands e there sound = let no : false ≡ true = there in absurd cc
away-at k from epoch (stage.Waiting b) rest kept stands e there sound = let no : false ≡ true = there in absurd cc
away-at k from epoch stage.Lent rest kept stands e there sound = absurd sound
away-at k from epoch (stage.Closed last) rest kept stands e there sound = let no : false ≡ true = there in absurd cc

pub row-at : (k : OpenNodes) (from epoch : ℕ) (o : Option FrontRow) (rest : Option FrontRest) (kept : List Kept) (stands : DispatchStanding) → is_row_at from epoch o ≡ true → IsRowSound k rest kept stands o
    → (row : FrontRow) × (o ≡ Some row) × IsAwayAt k row.epoch.0 kept stands from
row-at k from epoch None rest kept stands there sound = let no : false ≡ true = there in absurd cc
row-at k from epoch (Some row) rest kept stands there sound = (row, refl, away-at k from epoch row.stage rest kept stands row.epoch.0 there sound)

-- one that is away stands the same whatever was asked for it
away-row : (k : OpenNodes) (from epoch : ℕ) (at : FrontConn) (rest new : Option FrontRest) (kept : List Kept) (stands : DispatchStanding) (e : ℕ) → is_with from epoch at ≡ true → IsStageSound k e rest kept stands at
    → IsStageSound k e new kept stands at
away-row k from epoch (stage.Offering n by) rest new kept stands e there sound = sound
away-row k from epoch (stage.Moved n by) rest new kept stands e there sound = sound
away-row k from epoch (stage.Held b) rest new kept stands e there sound = let no : false ≡ true = there in absurd cc
away-row k from epoch (stage.Waiting b) rest new kept stands e there sound = let no : false ≡ true = there in absurd cc
away-row k from epoch stage.Lent rest new kept stands e there sound = absurd sound
away-row k from epoch (stage.Closed last) rest new kept stands e there sound = let no : false ≡ true = there in absurd cc

-- an Ask has as many choices as paths
choices-many : (cfg : Config) (ask : Ask) (now : Millis) (paths : List (List ℕ)) (b : Books) → length (all_choices cfg ask now paths b) ≡ length paths
choices-many cfg ask now [] b = refl
choices-many cfg ask now (p ∷ ps) b = let later = choices-many cfg ask now ps (shared_with cfg b ask p now) in omega (arith, later)

pub many-choices : (d : Dispatcher) (ask : Ask) (now : Millis) → length (later_answer d ask now).choices ≡ length ask.paths
many-choices d ask now = choices-many d.config ask now ask.paths (batch_over d.books ask)

pub many-nodes : (d : Dispatcher) (ask : Ask) (now : Millis) → length (map (λ (x : LaterChoice). x.node) (later_answer d ask now).choices) ≡ length ask.paths
many-nodes d ask now = length-map (later_answer d ask now).choices (λ (x : LaterChoice). x.node) ∙ many-choices d ask now

pub asked-keeps : (d : Dispatcher) (env : FrontEnv) (of : IsOf env d) (p : FrontPart) (epoch : ℕ) (ask : Ask) → ask.c ≡ env.serve.c → IsAsk ask → HasTag p.rest → IsPartSound (open_nodes_of d) p (dispatch_standing d env.serve.c)
    → DeedKeeps d env.serve.c env.now (front_asked env p ask.home epoch ask)
asked-keeps d env of p epoch ask same asks tag sound =
    cond_both (is_row_at ask.home epoch p.row) (asked_by env p ask.home epoch ask p.rest) Drops (DeedKeeps d env.serve.c env.now) (λ there. by p.rest there) (λ t. tt) where
      k : OpenNodes
      k = open_nodes_of d

      stands : is_row_at ask.home epoch p.row ≡ true → dispatch_standing d env.serve.c ≡ record { home = Some ask.home; waits = false }
      stands there = (row-at k ask.home epoch p.row p.rest p.kept (dispatch_standing d env.serve.c) there sound).2.stands

      row-stands : (new : Option FrontRest) (o : Option FrontRow) → is_row_at ask.home epoch o ≡ true → IsRowSound k p.rest p.kept (dispatch_standing d env.serve.c) o → IsRowSound k new p.kept (dispatch_standing d env.serve.c) o
      row-stands new None there h = let no : false ≡ true = there in absurd cc
      row-stands new (Some row) there h = away-row k ask.home epoch row.stage p.rest new p.kept (dispatch_standing d env.serve.c) row.epoch.0 there h

      tagged : (l : Later) → l ≡ later_answer d ask env.now → (1 ≤ length (map (λ (x : LaterChoice). x.node) l.choices)) × (length (map (λ (x : LaterChoice). x.node) l.choices) ≤ 8)
      tagged l is =
          let many : length (map (λ (x : LaterChoice). x.node) l.choices) ≡ length ask.paths = ap (λ (y : Later). length (map (λ (x : LaterChoice). x.node) y.choices)) is ∙ many-nodes d ask env.now in
          (omega (arith, many, asks.some), omega (arith, many, asks.within, asks.few))

      new : (rest : FrontRest) → is_row_at ask.home epoch p.row ≡ true → Keeps d env.serve.c env.now (assigns env p rest ask.home epoch ask (env.later ask))
      new rest there =
          let part : FrontPart = (assigns env p rest ask.home epoch ask (env.later ask)).part in
          record {
            part = subst (λ at. IsRowSound k part.rest p.kept at p.row) (sym (later-stands d ask env.now env.serve.c)) (row-stands part.rest p.row there sound);
            nodes = later-nodes d ask env.now;
            tag = λ some. tagged (env.later ask) (of.later ask);
            others = λ q n. later-stands d ask env.now q;
            allowed = (ap (λ (n : ℕ). home d.books.loads n) same ∙ ap (λ (x : DispatchStanding). x.home) (stands there), tt);
            clock = before-later d ask env.now;
          }

      by : (o : Option FrontRest) → is_row_at ask.home epoch p.row ≡ true → DeedKeeps d env.serve.c env.now (asked_by env p ask.home epoch ask o)
      by None there = tt
      by (Some rest) there =
          let again : FrontDeed = Says (front_saying (tag_sent env ask.home epoch rest.asks rest.tag)) in
          cond_both (ask.number == rest.asks + 1) (Does (assigns env p rest ask.home epoch ask (env.later ask))) (cond (ask.number == rest.asks && nat_lt 0 rest.asks) again Drops) (DeedKeeps d env.serve.c env.now)
          (λ t. new rest there) (λ t. cond_both (ask.number == rest.asks && nat_lt 0 rest.asks) again Drops (DeedKeeps d env.serve.c env.now) (λ u. tt) (λ u. tt))
