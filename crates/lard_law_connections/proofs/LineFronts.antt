-- What each rule of the front end does to how its connection stands.
use Rattle.std.proofs.Common.{◌≡◌, ℕ, ◌+◌, ◌^◌, ◌<◌, ◌≤◌, ◌&&◌, not, Bool, true, false, cond, List, [], ◌∷◌, ◌++◌, Option, Some, None, Result, Ok, Err, inl, inr, ⊎_elim, arith, refl, sym, ap, ◌∙◌, subst}
use Rattle.std.proofs.lemmas.Bool.{and_parts, cond_both}
use Rattle.std.proofs.lemmas.List.Sums.{fold-append}
use Rattle.std.specs.List.{fold}
use Rattle.lard_base.specs.declared.place.Place.TheVariants as place
use Rattle.lard_law_connections.proofs.LineHearing.{Hears, freezes-still, is_reset, segment-hears}
use Rattle.lard_law_connections.proofs.LineHolding.{EndsHeld, EndsWaiting, HasRead, IsHeld, IsRead, IsReady, IsWaiting, Serves, all-read, held-ends, reset-leaves, settled-ends, spoken-over, spoken-waits, waiting-ends}
use Rattle.lard_law_connections.proofs.LineSpeaking.{IsSound, IsTold, heard_by, speaks-spoken, timer-spoken, told-on}
use Rattle.lard_law_connections.proofs.LineStands.{IsAlike, IsSame, Stand, all-same, front-behind, row_step, sends-alike, stand_behind}
use Rattle.lard_law_connections.specs.Line.{leaves}
use Rattle.lard_law_view.specs.Prelude.{ControlBlock, Ending, Epoch, Final, First, FrontConn, FrontDeed, FrontEnv, FrontPart, FrontRest, FrontRow, MayMove, Reading, Rec, Said, SegFault, Service, Turn, after_timer, emitted, front_begun, front_fired, front_gets, front_hears, front_reads, front_rest, hears_at, holds, is_plain_syn, last_words, listening, may_freeze, next_piece, on_segment, placed, serving, serving_settled, settled_by, speaks, spoken, stage_after, tombstone, waits_on}
use Rattle.lard_dispatch.specs.declared.dispatch.First.TheVariants as first
use Rattle.lard_endpoint.proofs.Silence.{emit-none}
use Rattle.lard_endpoint.proofs.Sound.{on_segment-sound}
use Rattle.lard_rules.specs.Front.{Drops, Says, Does}
use Rattle.lard_rules.proofs.FrontCases.{IsAwayWith, KeptByTimer, fired_before, fired_service, of-stage}
use Rattle.lard_handoff_front.specs.declared.row.FrontConn.TheVariants as stage
use Rattle.lard_history.proofs.Each.{Each}
use Rattle.lard_journal.specs.declared.rec.Rec.TheVariants as rec
use Rattle.lard_rules.specs.declared.places.Ending.TheVariants as ending

-- ---- how a connection stands, by its stage

pub record Counts (s : Stand) (waits : Bool) (most : ℕ) (inside : Bool) : Type 0 where
  pub waits_is : s.waits ≡ waits
  pub times : s.times ≤ most
  pub inside_is : s.inside ≡ inside

-- Who waits is in the line, and was to wait once since it was admitted; who is offered or moved is admitted; and what is here is held.
abbrev pub StageStands : Stand → FrontConn → Type 0
StageStands s (stage.Held b) = Counts s false 0 false × IsHeld s.told b
StageStands s (stage.Waiting b) = Counts s true 1 false × IsWaiting s.told b
StageStands s stage.Lent = Counts s false 0 false
StageStands s (stage.Offering n epoch) = Counts s false 0 true
StageStands s (stage.Moved n epoch) = Counts s false 0 true
StageStands s (stage.Closed last) = Counts s false 1 false

abbrev pub RowStands : Stand → Option FrontRow → Type 0
RowStands s None = Counts s false 0 false
RowStands s (Some row) = StageStands s row.stage

pub counts-alike : (s t : Stand) (w : Bool) (most : ℕ) (i : Bool) → IsAlike s t → Counts s w most i → Counts t w most i
counts-alike s t w most i a k = record { waits_is = a.waits ∙ k.waits_is; times = subst (λ (n : ℕ). n ≤ most) (sym a.times) k.times; inside_is = a.inside ∙ k.inside_is }

stage-alike : (s t : Stand) → IsAlike s t → t.told ≡ s.told → (at : FrontConn) → StageStands s at → StageStands t at
stage-alike s t a e (stage.Held b) h = (counts-alike s t false 0 false a h.0, subst (λ (o : Option Said). IsHeld o b) (sym e) h.1)
stage-alike s t a e (stage.Waiting b) h = (counts-alike s t true 1 false a h.0, subst (λ (o : Option Said). IsWaiting o b) (sym e) h.1)
stage-alike s t a e stage.Lent h = counts-alike s t false 0 false a h
stage-alike s t a e (stage.Offering n epoch) h = counts-alike s t false 0 true a h
stage-alike s t a e (stage.Moved n epoch) h = counts-alike s t false 0 true a h
stage-alike s t a e (stage.Closed last) h = counts-alike s t false 1 false a h

pub row-alike : (s t : Stand) → IsAlike s t → t.told ≡ s.told → (o : Option FrontRow) → RowStands s o → RowStands t o
row-alike s t a e None h = counts-alike s t false 0 false a h
row-alike s t a e (Some row) h = stage-alike s t a e row.stage h

-- ---- a deed

-- behind what it says, what is kept stands
abbrev pub DeedStands : ℕ → Stand → FrontPart → FrontDeed → Type 0
DeedStands c s p Drops = RowStands s p.row
DeedStands c s p (Says t) = RowStands (stand_behind c place.Front s t.notes t.segments) p.row
DeedStands c s p (Does x) = RowStands (stand_behind c place.Front s x.turn.notes x.turn.segments) x.part.row

-- notes of reading
read-same : (c : ℕ) (rs : List Rec) → Each IsRead rs → Each (IsSame c) rs
read-same c [] e = tt
read-same c (r ∷ rs) e = (one r e.0, read-same c rs e.1) where
  one : (r : Rec) → IsRead r → IsSame c r
  one (rec.Served place d n code size via) h = λ s. refl
  one (rec.Reset place d total) h = λ s. refl
  one _ h = absurd h

module _ (c : ℕ) (s : Stand) (notes : List Rec) (given : Ending × Turn) where
  -- how it stands behind the notes
  abbrev noted : Stand
  noted = fold (row_step c) s notes

  behind-is : given.1.notes ≡ notes → Each (λ x. x.0 ≡ place.Client c) given.1.segments
      → record noted { told = heard_by c noted.told given.1.segments } ≡ stand_behind c place.Front s given.1.notes given.1.segments
  behind-is e to = sym (ap (λ (ns : List Rec). stand_behind c place.Front s ns given.1.segments) e ∙ front-behind c noted given.1.segments to)

  -- an endpoint that is held on, or is over
  pub holds-stands : EndsHeld c noted.told notes given → Counts noted false 0 false → StageStands (stand_behind c place.Front s given.1.notes given.1.segments) (stage_after stage.Held given.0)
  holds-stands ends k = subst (λ (t : Stand). StageStands t (stage_after stage.Held given.0)) (behind-is ends.noted ends.to) (go given.0 refl) where
    go : (e : Ending) → given.0 ≡ e → StageStands (record noted { told = heard_by c noted.told given.1.segments }) (stage_after stage.Held e)
    go (ending.Here b count) e = (record { waits_is = k.waits_is; times = k.times; inside_is = k.inside_is }, ends.held b count e)
    go (ending.Over last) e = record { waits_is = k.waits_is; times = let few = k.times in omega (arith, few); inside_is = k.inside_is }

  -- one that waits on
  pub waits-stands : EndsWaiting c noted.told notes given → Counts noted true 1 false → StageStands (stand_behind c place.Front s given.1.notes given.1.segments) (stage_after stage.Waiting given.0)
  waits-stands ends k = subst (λ (t : Stand). StageStands t (stage_after stage.Waiting given.0)) (behind-is ends.noted ends.to)
      (subst (λ (e : Ending). StageStands (record noted { told = heard_by c noted.told given.1.segments }) (stage_after stage.Waiting e)) (sym ends.here)
      (record { waits_is = k.waits_is; times = k.times; inside_is = k.inside_is }, ends.waits))

-- ---- it is placed

-- what was read changes nothing of how it stands behind other notes
pub read-stands : (c : ℕ) (o : Option Said) (v t : Stand) (first : List Rec) → fold (row_step c) v first ≡ t → (w : Service) → Serves o first w
    → fold (row_step c) v w.notes ≡ t
read-stands c o v t first is w serves =
    ap (fold (row_step c) v) serves.notes_are ∙ fold-append (row_step c) v first serves.read
    ∙ ap (λ (u : Stand). fold (row_step c) u serves.read) is ∙ all-same c t serves.read (read-same c serves.read serves.notes)

-- It read on: behind the notes it stands as t.
module _ (env : FrontEnv) (p q : FrontPart) (row : FrontRow) (rest : FrontRest) (v t : Stand) (out : Counts t false 0 false)
    (w : Service) (noted_is : fold (row_step env.serve.c) v w.notes ≡ t) (ready : IsReady t.told w.block) where
  abbrev own : ℕ
  own = env.serve.c

  pub unplaced-stands : DeedStands own v p (holds q row rest (serving_settled env.serve w))
  unplaced-stands = holds-stands own v w.notes (serving_settled env.serve w)
      (subst (λ (u : Stand). EndsHeld own u.told w.notes (serving_settled env.serve w)) (sym noted_is) (settled-ends env.serve t.told w ready))
      (subst (λ (u : Stand). Counts u false 0 false) (sym noted_is) out)

  module _ (path : List ℕ) (may : may_freeze w.block ≡ true) where
    open_ : w.block.reset ≡ false
    open_ = go w.block.reset (and_parts (not w.block.recv.discarding) (not w.block.reset)
        (and_parts _ (not w.block.recv.discarding && not w.block.reset) may).1).1 where
          go : (t : Bool) → not t ≡ true → t ≡ false
          go true h = let no : false ≡ true = h in absurd cc
          go false h = refl

    pub placed-stands : (f : First) → DeedStands own v p (Does (placed env q row rest w path f))
    placed-stands (first.Go choice) =
        let last : List Rec = rec.Admitted own ∷ rec.AssignedFirst own (w.count + 1) path choice.node choice.add choice.remove ∷ [] in
        subst (λ (u : Stand). Counts u false 0 true) (sym (fold-append (row_step own) v w.notes last))
        (record { waits_is = refl; times = omega arith; inside_is = ap (λ (u : Stand). true) noted_is })
    placed-stands first.Waits =
        let z : Service = record w { notes = w.notes ++ rec.Waits own ∷ [] } in
        let behind : fold (row_step own) v z.notes ≡ record t { waits = true; times = t.times + 1 } =
        fold-append (row_step own) v w.notes (rec.Waits own ∷ []) ∙ ap (λ (u : Stand). row_step own u (rec.Waits own)) noted_is in
        waits-stands own v z.notes (spoken env.serve z [])
        (subst (λ (u : Stand). EndsWaiting own u.told z.notes (spoken env.serve z [])) (sym behind) (spoken-waits env.serve t.told z ready open_ may))
        (subst (λ (u : Stand). Counts u true 1 false) (sym behind)
        (record { waits_is = refl; times = let few = out.times in omega (arith, few); inside_is = out.inside_is }))

  settled-stands : (target : Option (List ℕ)) → MayMove w.block target → DeedStands own v p (settled_by env q row rest w target)
  settled-stands None may = unplaced-stands
  settled-stands (Some path) may = placed-stands path may (env.first path)

pub away-found : (p : FrontPart) (row : FrontRow) (n : ℕ) (e : Epoch) → IsAwayWith p row n e → p.row ≡ Some row
away-found p row n e (inl at) = at.0
away-found p row n e (inr at) = at.0

-- who is away is admitted
pub away-with : (s : Stand) (p : FrontPart) → RowStands s p.row → (row : FrontRow) (n : ℕ) (e : Epoch) → IsAwayWith p row n e → Counts s false 0 true
away-with s p h row n e (inl at) = of-stage (RowStands s) p row (stage.Offering n e) at h
away-with s p h row n e (inr at) = of-stage (RowStands s) p row (stage.Moved n e) at h

-- ---- a segment

-- how it stands once this came
abbrev pub came_so : Stand → Result Said SegFault → Stand
came_so s r = record s { waits = cond (leaves s.told r) false s.waits }

-- who is not in the line does not leave it
pub came-out : (s : Stand) (r : Result Said SegFault) → s.waits ≡ false → IsAlike s (came_so s r)
came-out s r out = record { waits = go (leaves s.told r); times = refl; inside = refl } where
  go : (t : Bool) → cond t false s.waits ≡ s.waits
  go true = sym out
  go false = refl

fault-stays : (o : Option Said) (fault : SegFault) → leaves o (Err fault) ≡ false
fault-stays None fault = refl
fault-stays (Some last) fault = refl

came-fault : (s : Stand) (fault : SegFault) → IsAlike s (came_so s (Err fault))
came-fault s fault = record { waits = ap (λ (t : Bool). cond t false s.waits) (fault-stays s.told fault); times = refl; inside = refl }

module _ (env : FrontEnv) (small : env.serve.stream ≤ 2 ^ 30) (number : env.iss < 2 ^ 32) (p : FrontPart) (s : Stand) where
  abbrev c : ℕ
  c = env.serve.c

  -- an endpoint that took a segment is ready
  pub heard-ready : (b : ControlBlock) (said : Said) → IsHeld s.told b → IsReady s.told (on_segment b said).1
  heard-ready b said h =
      let d : ControlBlock = (on_segment b said).1 in
      let t : Hears b (is_reset b said) d = segment-hears b said h.open_ in
      let n = h.sound.number in
      record {
        sound = record {
          block = on_segment-sound b said h.sound.block;
          number = λ z. let up = t.send.una in let fits = n (omega (arith, up, z)) in omega (arith, t.send.iss, fits);
        };
        quiet = λ open_. ⊎_elim (λ (e : d.recv ≡ b.recv). inr (told-on s.told b d e t.last h.told_is)) (λ (e : d.owed ≡ true). inl e) t.taken_in;
      }

  -- ---- a client begins

  begun-sound : (said : Said) → IsSound (listening said env.iss)
  begun-sound said = record {
    block = record {
      received = record { received = omega arith; buffered = omega arith; within = omega arith; dropped = λ d. omega arith };
      sending = record { sent = omega arith; queued = omega arith; kept = omega arith; most = omega arith; some_mss = omega arith; small_mss = omega arith };
      same_irs = refl;
    };
    number = λ z. number;
  }

  begun-loud : (o : Option Said) (said : Said) → emitted (listening said env.iss) ≡ None → IsTold o (listening said env.iss)
  begun-loud o said e = let none : next_piece (listening said env.iss).send ≡ None = (emit-none (listening said env.iss) refl e).1 in absurd (cc)

  begun-stands : (v : Stand) (said : Said) → Counts v false 0 false → DeedStands c v p (front_begun env p said)
  begun-stands v said out =
      let b : ControlBlock = listening said env.iss in
      let w : Service = serving b 0 (rec.Took place.Front c (record { 0 = 1 }) ∷ []) in
      holds-stands c v w.notes (spoken env.serve w []) (held-ends c v.told w b (speaks c b) refl (speaks-spoken c v.told b (begun-sound said) (begun-loud v.told said))) out

  -- ---- a segment comes

  words-stand : (v : Stand) (last : Final) (o : Option Said) → Counts v false 1 false → StageStands (stand_behind c place.Front v (tombstone env.serve o).notes (tombstone env.serve o).segments) (stage.Closed last)
  words-stand v last None k = k
  words-stand v last (Some said) k = counts-alike v (stand_behind c place.Front v [] (tombstone env.serve (Some said)).segments) false 1 false (sends-alike c place.Front v (tombstone env.serve (Some said)).segments) k

  -- one that waits leaves the line by the segment that resets it, and by no other
  waiting-hears : (row : FrontRow) (said : Said) (b : ControlBlock) → StageStands s (stage.Waiting b)
      → DeedStands c (came_so s (Ok said)) p (waits_on env p row (front_rest p.rest) (spoken env.serve (serving (on_segment b said).1 (front_rest p.rest).count []) []))
  waiting-hears row said b h = go (is_reset b said) refl where
    d : ControlBlock
    d = (on_segment b said).1

    w : Service
    w = serving d (front_rest p.rest).count []

    t : Hears b (is_reset b said) d
    t = segment-hears b said h.1.held.open_

    ready : IsReady s.told d
    ready = heard-ready b said h.1.held

    goes : (x : Bool) → is_reset b said ≡ x → leaves s.told (Ok said) ≡ x
    goes x e = reset-leaves s.told b said h.1.held ∙ e

    go : (x : Bool) → is_reset b said ≡ x → DeedStands c (came_so s (Ok said)) p (waits_on env p row (front_rest p.rest) (spoken env.serve w []))
    go true e =
        let over = spoken-over env.serve s.told w ready (t.reset_is ∙ e) in
        let k : Counts (came_so s (Ok said)) false 1 false = record { waits_is = ap (λ (x : Bool). cond x false s.waits) (goes true e); times = h.0.times; inside_is = h.0.inside_is } in
        subst (λ (x : Ending). StageStands (stand_behind c place.Front (came_so s (Ok said)) [] (spoken env.serve w []).1.segments) (stage_after stage.Waiting x)) (sym over)
        (counts-alike (came_so s (Ok said)) (stand_behind c place.Front (came_so s (Ok said)) [] (spoken env.serve w []).1.segments) false 1 false (sends-alike c place.Front (came_so s (Ok said)) (spoken env.serve w []).1.segments) k)
    go false e =
        let open_ : d.reset ≡ false = t.reset_is ∙ e in
        waits-stands c (came_so s (Ok said)) [] (spoken env.serve w [])
        (spoken-waits env.serve s.told w ready open_ (freezes-still b d ready.sound.block t.send t.discarding open_ h.1.freezes))
        (record { waits_is = ap (λ (x : Bool). cond x false s.waits) (goes false e) ∙ h.0.waits_is; times = h.0.times; inside_is = h.0.inside_is })

  hears-stands : (row : FrontRow) (bytes : List ℕ) (said : Said) (at : FrontConn) → row.stage ≡ at → p.row ≡ Some row → StageStands s at → DeedStands c (came_so s (Ok said)) p (hears_at env p row bytes said at)
  hears-stands row bytes said (stage.Held b) is found h =
      let v : Stand = came_so s (Ok said) in
      let alike : IsAlike s v = came-out s (Ok said) h.0.waits_is in
      let w : Service = serving (on_segment b said).1 (front_rest p.rest).count [] in
      let x : Reading = front_reads env.serve (record { service = w; target = None }) in
      let read : HasRead s.told env.serve small [] x = all-read s.told env.serve small [] w refl (heard-ready b said h.1) in
      settled-stands env p p row (front_rest p.rest) v v (counts-alike s v false 0 false alike h.0) x.service
      (read-stands c s.told v v [] refl x.service read.0) read.0.ready x.target read.1
  hears-stands row bytes said (stage.Waiting b) is found h = waiting-hears row said b h
  hears-stands row bytes said stage.Lent is found h = still (counts-alike s (came_so s (Ok said)) false 0 false (came-out s (Ok said) h.waits_is) h) where
    still : StageStands (came_so s (Ok said)) stage.Lent → RowStands (came_so s (Ok said)) p.row
    still k = subst (RowStands (came_so s (Ok said))) (sym found) (subst (StageStands (came_so s (Ok said))) (sym is) k)
  hears-stands row bytes said (stage.Offering node epoch) is found h =
      subst (RowStands (came_so s (Ok said))) (sym found) (subst (StageStands (came_so s (Ok said))) (sym is)
      (counts-alike s (came_so s (Ok said)) false 0 true (came-out s (Ok said) h.waits_is) h))
  hears-stands row bytes said (stage.Moved node epoch) is found h =
      subst (RowStands (came_so s (Ok said))) (sym found) (subst (StageStands (came_so s (Ok said))) (sym is)
      (counts-alike s (came_so s (Ok said)) false 0 true (came-out s (Ok said) h.waits_is) h))
  hears-stands row bytes said (stage.Closed last) is found h =
      let o : Option Said = last_words last.reason last said in
      let t : Stand = stand_behind c place.Front (came_so s (Ok said)) (tombstone env.serve o).notes (tombstone env.serve o).segments in
      subst (RowStands t) (sym found) (subst (StageStands t) (sym is) (words-stand (came_so s (Ok said)) last o (counts-alike s (came_so s (Ok said)) false 1 false (came-out s (Ok said) h.waits_is) h)))

  pub gets-stands : (bytes : List ℕ) (r : Result Said SegFault) → RowStands s p.row → DeedStands c (came_so s r) p (front_gets env p bytes r)
  gets-stands bytes (Err fault) h = row-alike s (came_so s (Err fault)) (came-fault s fault) refl p.row h
  gets-stands bytes (Ok said) h = by_row p.row refl h where
    by_row : (o : Option FrontRow) → p.row ≡ o → RowStands s o → DeedStands c (came_so s (Ok said)) p (front_hears env p bytes said o)
    by_row None e k =
        let v : Stand = came_so s (Ok said) in
        let out : Counts v false 0 false = counts-alike s v false 0 false (came-out s (Ok said) k.waits_is) k in
        cond_both (is_plain_syn said) (front_begun env p said) Drops (DeedStands c v p) (λ t. begun-stands v said out) (λ t. subst (RowStands v) (sym e) out)
    by_row (Some row) e k = hears-stands row bytes said row.stage refl e k

-- ---- timers

module _ (env : FrontEnv) (p : FrontPart) (s : Stand) (h : RowStands s p.row) where
  abbrev here : ℕ
  here = env.serve.c

  pub by-timer : KeptByTimer env p (DeedStands here s p)
  by-timer = record {
    drops = h;
    holds = λ row b at. let k = of-stage (RowStands s) p row (stage.Held b) at h in holds-stands here s [] (front_fired env (front_rest p.rest) b)
        (held-ends here s.told (fired_service p b) b (fired_before env b ++ (speaks here (after_timer b)).0, (speaks here (after_timer b)).1) k.1.open_
        (timer-spoken env.serve s.told b k.1.sound k.1.told_is)) k.0;
    stays = λ row b at. let k = of-stage (RowStands s) p row (stage.Waiting b) at h in waits-stands here s [] (front_fired env (front_rest p.rest) b)
        (waiting-ends here s.told (fired_service p b) b (fired_before env b ++ (speaks here (after_timer b)).0, (speaks here (after_timer b)).1)
        k.1.held.open_ k.1.freezes (timer-spoken env.serve s.told b k.1.held.sound k.1.held.told_is)) k.0;
    resends = λ row n e at. h;
  }
