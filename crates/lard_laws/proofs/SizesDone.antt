-- How many requests a node has read at the end of a step is what is said of them.
use Rattle.std.proofs.Common.{◌≡◌, ◌≢◌, ◌≤◌, ◌<◌, ◌+◌, ◌-◌, ◌*◌, ◌/◌, ℕ, min, nat_lt, cond, Bool, true, false, List, [], ◌∷◌, length, take, map, Option, Some, None, ⊎_elim, refl, sym, ap, ◌∙◌, subst, arith}
use Rattle.std.proofs.lemmas.Bool.{ltb-false, ltb-true}
use Rattle.lard_law_view.specs.Prelude.{BackConn, BackRow, Client, Conn, ControlBlock, Entry, FilesAt, Front, HasStopped, IsStream, Node, Place, Station, Stay, Stream, Talk, Verdict, tale_at, verdicts}
use Rattle.lard_law_connections.specs.BytesAgreement.{ConnAgrees, HoldsItPending, IsOpen, IsTruthful, IsConnUnopened, RowAgrees, StayAgrees}
use Rattle.lard_law_connections.proofs.BytesClientMoves.{open-at}
use Rattle.lard_law_connections.proofs.BytesNodeMoves.{has-it}
use Rattle.lard_law_connections.proofs.BytesReading.{read-alone}
use Rattle.lard_law_connections.proofs.LineSpeaking.{IsTold}
use Rattle.lard_law_connections.proofs.LineStands.{stand_at}
use Rattle.lard_law_connections.proofs.PlacesNodeRules.{has-at}
use Rattle.lard_law_connections.proofs.PlacesTurns.{IsPlaced}
use Rattle.lard_laws.specs.Sizes.{SizeMarks, batch_begins, complete, requests_read_by, read_on}
use Rattle.lard_laws.proofs.SizesMoving.{IsTelling, Reaches, marks_now}
use Rattle.lard_laws.proofs.SizesReading.{IsReadOn, Reach}
use Rattle.lard_laws.proofs.SizesTurns.{Reads, RowLeft, RowReach, RowReads, StageLeft, StageReach, StageReads, StayReach, StayReads, complete-is}
use Rattle.lard_law_connections.specs.Stops.{BackStageStops, FirstIsAwaited, ReadingStops, RowStops, StayStops}
use Rattle.lard_handoff_back.specs.declared.row.BackConn.TheVariants as back
use Rattle.lard_law_view.specs.Agreement as one
use Rattle.lard_law_view.proofs.Answered.{came-answered}
use Rattle.lard_law_view.proofs.Speaking.{speaks-stream}

-- ---- numbers

module _ (u upto all count : ℕ) (le : count ≤ upto) (done : count ≡ upto → all ≤ count) where
  abbrev on : ℕ
  on = count + (min all (u + 8 * ((count - u) / 8) + 8) - count)

  ends-on : count ≡ upto → upto ≡ on
  ends-on e = let most = done e in omega (arith, e, most)

  same-on : u ≤ count → upto ≡ u → upto ≡ on
  same-on more e = ends-on (omega (arith, le, e, more))

  read-on : (i : ℕ) → u + 8 * i ≤ count → upto ≡ u + 8 * i + min 8 (all - (u + 8 * i)) → upto ≡ on
  read-on i begun is = go (nat_lt count upto) (ltb-true count upto) (ltb-false count upto) where
    go : (b : Bool) → (b ≡ true → count < upto) → (b ≡ false → upto ≤ count) → upto ≡ on
    go true less more =
        let below = less refl in
        let number : (count - u) / 8 ≡ i = omega (arith, begun, is, below) in
        omega (arith, begun, is, below, number)
    go false less more = let above = more refl in ends-on (omega (arith, le, above))

read-is : (u : ℕ) (now : SizeMarks) (upto : ℕ) → now.served ≤ upto → (now.served ≡ upto → length (complete now) ≤ now.served) → Reach u now.served upto (length (complete now)) → upto ≡ read_on u now
read-is u now upto le done h = go (nat_lt now.served u) (ltb-true now.served u) (ltb-false now.served u) where
  go : (b : Bool) → (b ≡ true → now.served < u) → (b ≡ false → u ≤ now.served) → upto ≡ cond b u (now.served + (min (length (complete now)) (batch_begins u now + 8) - now.served))
  go true less more = ⊎_elim
      (λ (e : upto ≡ u). e)
      (λ (r : IsReadOn u now.served upto (length (complete now))). absurd (let a = less refl in let b = r.begun in omega (arith, a, b))) h
  go false less more = ⊎_elim
      (λ (e : upto ≡ u). same-on u upto (length (complete now)) now.served le done (more refl) e)
      (λ (r : IsReadOn u now.served upto (length (complete now))). read-on u upto (length (complete now)) now.served le done r.batches r.begun r.is) h

-- ---- one connection

-- an endpoint with nothing that was read and is not answered, which has stopped
stopped-held : (w out : Stream) (vs : List Verdict) (b : ControlBlock) (count : ℕ) → HoldsItPending w out vs [] b count → HasStopped b → one.HoldsIt w out vs b count
stopped-held w out vs b count h stopped = record {
  counted = h.counted;
  not_reset = h.not_reset;
  sound = h.sound;
  speaks = h.speaks;
  out_is = h.out_is;
  hears = h.hears;
  has_read = read-alone w b vs h.has_read;
  stopped = stopped;
}

empty-batch : (es : List Entry) → length es ≤ 0 → es ≡ []
empty-batch [] le = refl
empty-batch (e ∷ es) le = absurd (omega (arith, le))

module _ (files : FilesAt) (x : Conn) (truth : IsTruthful files x) (placed : IsPlaced x) (stops : ReadingStops files x) (telling : IsTelling files x) (u : ℕ) (reach : Reaches u x) where
  abbrev m : SizeMarks
  m = marks_now x

  abbrev l : Talk
  l = truth.talk

  abbrev pend : List Verdict
  pend = truth.pend

  abbrev written : List ℕ
  written = (tale_at x).wrote

  module _ (s : Station) (there : x.part.station ≡ Some s) (n : ℕ) (row : BackRow) (b : ControlBlock) (t : Stay) (found : (x.part.nodes n).row ≡ Some row) (at : row.stage ≡ back.Here b) (stays : (x.part.nodes n).stay ≡ Some t) where
    o : IsOpen files x l pend s
    o = open-at files x s there truth

    stream : IsStream l.w
    stream = subst IsStream (sym o.client.w_is) (speaks-stream s.client.send l.w.bytes o.client.speaks)

    agrees : StayAgrees l.w l.out l.vs pend b (Some t)
    agrees = subst (StayAgrees l.w l.out l.vs pend b) stays (subst (λ (st : BackConn). RowAgrees l.w l.out l.vs pend l.was_reset x.c (x.part.nodes n) (Some (record { stage = st; epoch = row.epoch }))) at (subst (RowAgrees l.w l.out l.vs pend l.was_reset x.c (x.part.nodes n)) found (has-it x l pend o.seat placed n row b found at).agrees))

    stop : StayStops b t.batch
    stop = subst (λ (st : BackConn). BackStageStops st (Some t)) at (subst (RowStops (Some row)) stays (subst (λ (q : Option BackRow). RowStops q (x.part.nodes n).stay) found (stops.1 n)))

    told : IsTold (stand_at x).told b
    told = (subst (StageLeft files m (x.part.nodes n).stay) at (subst (RowLeft files m (x.part.nodes n).stay) found (telling.left n))).0

    all : complete m ≡ verdicts (take b.recv.got l.w.bytes)
    all = complete-is l.w b.recv stream agrees.1.hears m (record { isn = l.w.first; iss = l.out.first }) o.tale.numbers refl o.tale.wrote (record { said = told.said; is = told.is; ack = told.ack })

    served : m.served ≡ t.served
    served = o.tale.served ∙ sym agrees.1.counted

    stopped-by : t.batch ≡ [] → (f : Bool) → b.send.finished ≡ f → HasStopped b
    stopped-by none true e = (stop.closed e).0
    stopped-by none false e = ⊎_elim (λ (a : FirstIsAwaited t.batch). absurd (subst FirstIsAwaited none a)) (λ (h : HasStopped b × (t.batch ≡ [])). h.0) (stop.open_ e)

    -- behind the last batch none is complete
    done : m.served ≡ t.served + length t.batch → length (complete m) ≤ m.served
    done e =
        let none : t.batch ≡ [] = empty-batch t.batch (omega (arith, e, served)) in
        let alone : HoldsItPending l.w l.out l.vs [] b t.served = subst (λ (us : List Verdict). HoldsItPending l.w l.out l.vs us b t.served) (agrees.0 ∙ ap (map (λ z. z.verdict)) none) agrees.1 in
        let most = came-answered l.w l.out l.vs b t.served files o.says (stopped-held l.w l.out l.vs b t.served alone (stopped-by none b.send.finished refl)) in
        let same : length (complete m) ≡ length (verdicts (take b.recv.got l.w.bytes)) = ap length all in
        let count : m.served ≡ length l.vs = o.tale.served in
        omega (arith, same, most, count)

    reaches : Reach u m.served (t.served + length t.batch) (length (complete m))
    reaches =
        let here : Reach u t.served (t.served + length t.batch) (length (verdicts (take b.recv.got written))) =
        subst (StayReach u written b) stays (subst (StageReach u written (x.part.nodes n).stay) at (subst (RowReach u written (x.part.nodes n).stay) found (reach n))) in
        subst (λ (j : ℕ). Reach u j (t.served + length t.batch) (length (complete m))) (sym served)
        (subst (λ (us : List Verdict). Reach u t.served (t.served + length t.batch) (length us)) (sym (all ∙ ap (λ (q : List ℕ). verdicts (take b.recv.got q)) (sym o.tale.wrote))) here)

    is-read : read_on u m ≡ t.served + length t.batch
    is-read = sym (read-is u m (t.served + length t.batch) (omega (arith, served)) done reaches)

  abbrev now : ℕ
  now = requests_read_by (tale_at x).owner u m

  by-stay : (n : ℕ) (row : BackRow) (b : ControlBlock) → (x.part.nodes n).row ≡ Some row → row.stage ≡ back.Here b → (t : Option Stay) → (x.part.nodes n).stay ≡ t → StayReads now t
  by-stay n row b found at None stays = tt
  by-stay n row b found at (Some t) stays = go x.part.station refl where
    owner : (tale_at x).owner ≡ Some (Node n)
    owner = (has-at x placed n row b found at x.part.front.row refl).owner

    go : (s : Option Station) → x.part.station ≡ s → now ≡ t.served + length t.batch
    go (Some s) there = ap (λ (p : Option Place). requests_read_by p u m) owner ∙ is-read s there n row b t found at stays
    go None there =
        let none : IsConnUnopened x = subst (ConnAgrees files x l pend) there truth.agrees in
        let no : ◌≡◌ {A = Option Stay} None (Some t) = sym (none.stays n) ∙ stays in absurd cc

  by-stage : (n : ℕ) (row : BackRow) → (x.part.nodes n).row ≡ Some row → (d : BackConn) → row.stage ≡ d → StageReads now (x.part.nodes n).stay d
  by-stage n row found (back.Here b) at = by-stay n row b found at (x.part.nodes n).stay refl
  by-stage n row found _ at = tt

  by-row : (n : ℕ) (row : Option BackRow) → (x.part.nodes n).row ≡ row → RowReads now (x.part.nodes n).stay row
  by-row n None found = tt
  by-row n (Some row) found = by-stage n row found row.stage refl

  by-owner : (p : Option Place) → ((n : ℕ) → p ≢ Some (Node n)) → requests_read_by p u m ≡ m.served
  by-owner None h = refl
  by-owner (Some Front) h = refl
  by-owner (Some (Client d)) h = refl
  by-owner (Some (Node n)) h = absurd (h n refl)

  pub now-reads : Reads now x
  now-reads = record { here = λ n. by-row n (x.part.nodes n).row refl; away = λ h. by-owner (tale_at x).owner h }
