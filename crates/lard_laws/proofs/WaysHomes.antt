-- The rules of a node leave a connection on its way.
use Rattle.std.proofs.Common.{◌≡◌, ◌≢◌, ◌≤◌, ◌<◌, ◌+◌, ◌^◌, ◌⊎◌, nat_lt, ℕ, Bool, true, false, cond, List, [], ◌∷◌, ◌++◌, map, Option, Some, None, Ok, inl, inr, ⊎_elim, refl, sym, ap, ◌∙◌, subst, arith}
use Rattle.std.specs.Prelude.{is_some}
use Rattle.std.proofs.lemmas.Bool.{ltb-false, ltb-true}
use Rattle.lard_law_view.specs.Prelude.{AreSent, Body, Conn, FilesAt, Front, FrontConn, FrontRest, FrontRow, Kept, Message, Move, Node, NodeEnv, NodePart, NodeTurn, Part, Place, Rec, Seen, Stay, again_sent, decoded_message, front_rest, kind_of, letter, named_records, node_put_back, whose, with_node}
use Rattle.lard_law_connections.proofs.BytesLaw.{Helps}
use Rattle.lard_law_connections.proofs.BytesNodeMoves.{IsAt}
use Rattle.lard_law_connections.specs.Places.{IsDecided, IsPast}
use Rattle.lard_law_connections.proofs.PlacesHeads.{kinds-same}
use Rattle.lard_law_view.proofs.Parts.{put-each, put-same}
use Rattle.lard_laws.specs.WaysState.{GoesItsWay, IsAtHome, IsAway, IsPlacedOnce, LetterWays, NodeSaysWays, SeatWays, StageWays, StayAsks, StayWays, marks_at}
use Rattle.lard_laws.specs.Ways.{BodyGoesOn, WayMarks}
use Rattle.lard_laws.proofs.WaysLetters.{Counts, carries-same}
use Rattle.lard_laws.proofs.WaysMarking.{IsPlain, Rightly, mark, marked, plain-mark}
use Rattle.lard_laws.proofs.WaysMoving.{Keeps, LetterAsks, asks-append, clients-ask, clients-say, decided-home, makes, same-marks, says-append, sent-ask, sent-say}
use Rattle.lard_laws.proofs.WaysSpelling.{ReadsAsk, ask-reads, epoch-reads}
use Rattle.lard_laws.proofs.WaysTurning.{BodyIs, SaysIt, TurnWays}
use Rattle.lard_handoff_front.specs.declared.row.FrontConn.TheVariants as stage
use Rattle.lard_history.proofs.Each.{Each, Each-append}
use Rattle.lard_journal.specs.declared.rec.Rec.TheVariants as rec
use Rattle.lard_message.specs.declared.kind.Kind.TheVariants as kind
use Rattle.lard_message.specs.declared.message.Body.TheVariants as body
use Rattle.lard_rules.specs.Node.{message}

-- ---- what is named of the notes

unnamed-plain : (r : Rec) → is_some (whose r) ≡ false → IsPlain r
unnamed-plain (rec.Wrote d bytes) e = let no : true ≡ false = e in absurd cc
unnamed-plain (rec.Served place d k code size way) e = let no : true ≡ false = e in absurd cc
unnamed-plain (rec.Took place d epoch) e = let no : true ≡ false = e in absurd cc
unnamed-plain (rec.Released d) e = let no : true ≡ false = e in absurd cc
unnamed-plain (rec.AssignedFirst d k path n add remove) e = let no : true ≡ false = e in absurd cc
unnamed-plain (rec.AssignedLater d k path n add size queue) e = let no : true ≡ false = e in absurd cc
unnamed-plain _ e = tt

module _ (files : FilesAt) where
  pub named-rightly : (m : WayMarks) (rs : List Rec) → Rightly files m rs → Rightly files m (named_records rs)
  named-rightly m [] h = tt
  named-rightly m (r ∷ rs) h = go (is_some (whose r)) refl (named-rightly (mark m r) rs h.1) where
    go : (b : Bool) → is_some (whose r) ≡ b → Rightly files (mark m r) (named_records rs) → Rightly files m (cond b (r ∷ named_records rs) (named_records rs))
    go true e later = (h.0, later)
    go false e later = subst (λ (n : WayMarks). Rightly files n (named_records rs)) (plain-mark m r (unnamed-plain r e)) later

  pub named-marked : (m : WayMarks) (rs : List Rec) → marked m (named_records rs) ≡ marked m rs
  named-marked m [] = refl
  named-marked m (r ∷ rs) = go (is_some (whose r)) refl (named-marked (mark m r) rs) where
    go : (b : Bool) → is_some (whose r) ≡ b → marked (mark m r) (named_records rs) ≡ marked (mark m r) rs → marked m (cond b (r ∷ named_records rs) (named_records rs)) ≡ marked (mark m r) rs
    go true e later = later
    go false e later = ap (λ (n : WayMarks). marked n (named_records rs)) (sym (plain-mark m r (unnamed-plain r e))) ∙ later

-- ---- an Ask that goes out

less-or-same : (n k : ℕ) → n ≤ k + 1 → (n ≤ k) ⊎ (n ≡ k + 1)
less-or-same n k le = go (nat_lt k n) refl where
  go : (b : Bool) → nat_lt k n ≡ b → (n ≤ k) ⊎ (n ≡ k + 1)
  go true e = let more : k < n = ltb-true k n e in inr (omega (arith, more, le))
  go false e = inl (ltb-false k n e)

-- a message of another kind says nothing of ways
quiet-body : (files : FilesAt) (m : WayMarks) (p : Part) (n e : ℕ) (b : Body) → kind_of b ≢ kind.Ask → NodeSaysWays files m p n e b
quiet-body files m p n e (body.Ask number queue size paths) not = absurd (not refl)
quiet-body files m p n e _ not = tt

pub quiet-says : (files : FilesAt) (m : WayMarks) (p : Part) (n c e : ℕ) (b : Body) → kind_of b ≢ kind.Ask → LetterWays files m p (record { from = Node n; to = Front; bytes = message c e b })
quiet-says files m p n c e b not = λ msg d. quiet-body files m p n msg.epoch.0 msg.body (λ ask. not (kinds-same (record { c = c; epoch = record { 0 = e }; body = b }) msg d ∙ ask))

module _ (env : NodeEnv) (m : WayMarks) (p : Part) (n : ℕ) (small : env.epoch < 2 ^ 16) (decided : IsDecided env.epoch (p.nodes n).row) where
  abbrev files : FilesAt
  files = env.serve.files

  abbrev r : FrontRest
  r = front_rest p.front.rest

  body-says : (b : Body) → BodyIs env m r (p.nodes n).stay b → (msg : Message) → decoded_message (message env.serve.c env.epoch b) ≡ Ok msg → NodeSaysWays files m p n msg.epoch.0 msg.body
  body-says (body.Ask number queue size paths) h msg d =
      let read : ReadsAsk number size paths msg.body = ask-reads env.serve.c env.epoch number queue size paths h.1 msg d in
      let same : msg.epoch.0 ≡ env.epoch = epoch-reads env.serve.c env.epoch (body.Ask number queue size paths) small msg d in
      let le = read.less in
      subst (NodeSaysWays files m p n msg.epoch.0) (sym read.is) (
        subst (λ (e : ℕ). IsDecided e (p.nodes n).row) (sym same) decided,
        λ at. ⊎_elim (λ (a : read.read ≤ r.asks). inl a) (λ (a : read.read ≡ r.asks + 1). inr (a, h.2, h.3)) (less-or-same read.read r.asks (omega (arith, h.0, le))),
      )
  body-says b h msg d = quiet-body files m p n msg.epoch.0 msg.body (λ ask.
      let no : kind_of b ≡ kind.Ask = kinds-same (record { c = env.serve.c; epoch = record { 0 = env.epoch }; body = b }) msg d ∙ ask in cc)

  -- what a turn says
  pub it-says : (ss : List (Place × List ℕ)) → Each (SaysIt env m r (p.nodes n).stay) ss → Each (LetterWays files m p) (map (letter (Node n)) ss)
  it-says [] h = tt
  it-says (s ∷ ss) h = (
    ⊎_elim
        (λ (to : (i : ℕ) × (s.0 ≡ Node i)). subst (λ (q : Place). LetterWays files m p (record { from = Node n; to = q; bytes = s.1 })) (sym to.1) tt)
        (λ (f : (b : Body) × (s ≡ (Front, message env.serve.c env.epoch b)) × BodyIs env m r (p.nodes n).stay b).
        subst (λ (z : Place × List ℕ). LetterWays files m p (letter (Node n) z)) (sym f.1) (λ msg d. body-says f.0 f.2 msg d)) h.0,
    it-says ss h.1,
  )

-- ---- its paths go on

asks-nothing : (fs : FilesAt) (m : WayMarks) (b : Body) → kind_of b ≢ kind.Ask → BodyGoesOn fs m b
asks-nothing fs m (body.Ask number queue size paths) not = absurd (not refl)
asks-nothing fs m _ not = tt

other-goes : (fs : FilesAt) (m : WayMarks) (c e : ℕ) (b : Body) → kind_of b ≢ kind.Ask → (msg : Message) → decoded_message (message c e b) ≡ Ok msg → BodyGoesOn fs m msg.body
other-goes fs m c e b not msg d = asks-nothing fs m msg.body (λ ask. not (kinds-same (record { c = c; epoch = record { 0 = e }; body = b }) msg d ∙ ask))

pub quiet-asks : (fs : FilesAt) (m : WayMarks) (x : Conn) (n c e : ℕ) (b : Body) → kind_of b ≢ kind.Ask → LetterAsks fs m x (record { from = Node n; to = Front; bytes = message c e b })
quiet-asks fs m x n c e b not = inr (other-goes fs m c e b not)

module _ (env : NodeEnv) (m : WayMarks) (r : FrontRest) (x : Conn) (n : ℕ) (stay : Option Stay) where
  abbrev its_files : FilesAt
  its_files = env.serve.files

  abbrev Goes : Body → Type 0
  Goes b = (msg : Message) → decoded_message (message env.serve.c env.epoch b) ≡ Ok msg → BodyGoesOn its_files m msg.body

  body-asks : (b : Body) → BodyIs env m r stay b → Goes b
  body-asks (body.Ask number queue size paths) h = λ msg d. subst (BodyGoesOn its_files m) (sym (ask-reads env.serve.c env.epoch number queue size paths h.1 msg d).is) h.2
  body-asks b h = other-goes its_files m env.serve.c env.epoch b (λ ask. let no : kind_of b ≡ kind.Ask = ask in cc)

  -- what a turn says
  pub it-asks : (ss : List (Place × List ℕ)) → Each (SaysIt env m r stay) ss → Each (LetterAsks its_files m x) (map (letter (Node n)) ss)
  it-asks [] h = tt
  it-asks (s ∷ ss) h = (
    ⊎_elim
        (λ (to : (i : ℕ) × (s.0 ≡ Node i)). subst (λ (q : Place). LetterAsks its_files m x (record { from = Node n; to = q; bytes = s.1 })) (sym to.1) tt)
        (λ (f : (b : Body) × (s ≡ (Front, message env.serve.c env.epoch b)) × BodyIs env m r stay b).
        subst (λ (z : Place × List ℕ). LetterAsks its_files m x (letter (Node n) z)) (sym f.1) (inr (body-asks f.0 f.2))) h.0,
    it-asks ss h.1,
  )

-- ---- its seat

-- what a node keeps anew agrees, where the connection is at it
module _ (files : FilesAt) (m : WayMarks) (p : Part) (n : ℕ) (q : NodePart) where
  abbrev rest : FrontRest
  rest = front_rest p.front.rest

  away-put : (e i : ℕ) → i ≡ n → IsAway files m rest n e q → IsAway files m rest i e (node_put_back p.nodes n q i)
  away-put e i same h = subst (λ (j : ℕ). IsAway files m rest j e (node_put_back p.nodes n q j)) (sym same) (subst (IsAway files m rest n e) (sym (put-same p.nodes n q)) h)

  stage-put : (e : ℕ) (d : FrontConn) → IsAt n d → IsAway files m rest n e q → StageWays files m (with_node p n q) e d
  stage-put e (stage.Offering i f) at h = away-put e i at h
  stage-put e (stage.Moved i f) at h = away-put e i at h
  stage-put e _ at h = absurd at

  -- what it kept of the stay is as it was
  abbrev pub KeepsStay : Type 0
  KeepsStay = ((e : ℕ) → IsPast e (p.nodes n).row → IsPast e q.row) × ((e : ℕ) → IsDecided e (p.nodes n).row → IsDecided e q.row) × (q.stay ≡ (p.nodes n).stay)

  away-kept : KeepsStay → (e i : ℕ) → IsAway files m rest i e (p.nodes i) → IsAway files m rest i e (node_put_back p.nodes n q i)
  away-kept keeps e i h = put-each p.nodes n q (λ j (z : NodePart). j ≡ i → IsAway files m rest i e z)
      (λ same. let mine : IsAway files m rest i e (p.nodes n) = subst (λ (j : ℕ). IsAway files m rest i e (p.nodes j)) (sym same) h in (
        mine.0,
        ⊎_elim (λ (a : IsPast e (p.nodes n).row × IsPlacedOnce files m rest i). inl (keeps.0 e a.0, a.1))
            (λ (a : IsDecided e (p.nodes n).row × IsAtHome files m rest i (p.nodes n).stay). inr (keeps.1 e a.0, subst (IsAtHome files m rest i) (sym keeps.2) a.1)) mine.1,
      ))
      (λ j other same. subst (λ (k : ℕ). IsAway files m rest i e (p.nodes k)) (sym same) h) i refl

  stage-kept : KeepsStay → (e : ℕ) (d : FrontConn) → StageWays files m p e d → StageWays files m (with_node p n q) e d
  stage-kept keeps e (stage.Offering i f) h = away-kept keeps e i h
  stage-kept keeps e (stage.Moved i f) h = away-kept keeps e i h
  stage-kept keeps e _ h = h

  pub seat-kept : KeepsStay → (o : Option FrontRow) → SeatWays files m p o → SeatWays files m (with_node p n q) o
  seat-kept keeps None h = h
  seat-kept keeps (Some row) h = stage-kept keeps row.epoch.0 row.stage h

  pub seat-put : (row : FrontRow) → p.front.row ≡ Some row → IsAt n row.stage → IsAway files m rest n row.epoch.0 q → SeatWays files m (with_node p n q) p.front.row
  seat-put row found at h = subst (SeatWays files m (with_node p n q)) (sym found) (stage-put row.epoch.0 row.stage at h)

-- where the connection is at this node
at-away : (fs : FilesAt) (m : WayMarks) (p : Part) (n e : ℕ) (d : FrontConn) → IsAt n d → StageWays fs m p e d → IsAway fs m (front_rest p.front.rest) n e (p.nodes n)
at-away fs m p n e (stage.Offering i f) at h = subst (λ (j : ℕ). IsAway fs m (front_rest p.front.rest) j e (p.nodes j)) at h
at-away fs m p n e (stage.Moved i f) at h = subst (λ (j : ℕ). IsAway fs m (front_rest p.front.rest) j e (p.nodes j)) at h
at-away fs m p n e _ at h = absurd at

-- What is known of the connection at its home.
pub record AtHome (files : FilesAt) (m : WayMarks) (r : FrontRest) (n : ℕ) (p : NodePart) : Type 0 where
  pub home : m.home ≡ Some n
  pub has : IsAtHome files m r n p.stay

pub at-home : (files : FilesAt) (x : Conn) (g : GoesItsWay files x) (n : ℕ) (row : FrontRow) → x.part.front.row ≡ Some row → IsAt n row.stage → IsDecided row.epoch.0 (x.part.nodes n).row → AtHome files (marks_at x) (front_rest x.part.front.rest) n (x.part.nodes n)
at-home files x g n row found at decided =
    let seat : StageWays files (marks_at x) x.part row.epoch.0 row.stage = subst (SeatWays files (marks_at x) x.part) found g.seat in
    let away : IsAway files (marks_at x) (front_rest x.part.front.rest) n row.epoch.0 (x.part.nodes n) = at-away files (marks_at x) x.part n row.epoch.0 row.stage at seat in
    record { home = away.0; has = decided-home files (marks_at x) (front_rest x.part.front.rest) n row.epoch.0 (x.part.nodes n) decided away }

-- ---- a turn

pub sent-append : (x : Conn) (place : Place) (xs ys : List Kept) → AreSent x place xs → AreSent x place ys → AreSent x place (xs ++ ys)
sent-append x place [] ys h k = k
sent-append x place (q ∷ xs) ys h k = (h.0, sent-append x place xs ys h.1 k)

module _ (env : NodeEnv) (x : Conn) (n : ℕ) (node : env.n ≡ n) (small : env.epoch < 2 ^ 16) where
  abbrev m : WayMarks
  m = marks_at x

  abbrev kept : FrontRest
  kept = front_rest x.part.front.rest

  abbrev p : NodePart
  p = x.part.nodes n

  abbrev all_files : FilesAt
  all_files = env.serve.files

  -- what it said before it says again
  again-say : (k : WayMarks) (q : Part) (v : Move) → Helps x v → (ms : List (Place × List ℕ)) → (ms ≡ []) ⊎ (ms ≡ again_sent p) → Each (LetterWays all_files k q) x.letters → Each (LetterWays all_files k q) (map (letter (Node n)) ms)
  again-say k q v help ms h all = ⊎_elim
      (λ (e : ms ≡ []). subst (λ (l : List (Place × List ℕ)). Each (LetterWays all_files k q) (map (letter (Node n)) l)) (sym e) tt)
      (λ (e : ms ≡ again_sent p). subst (λ (l : List (Place × List ℕ)). Each (LetterWays all_files k q) (map (letter (Node n)) l)) (sym e)
      (sent-say all_files k q x (Node n) (p.kept ++ p.fetches) (sent-append x (Node n) p.kept p.fetches (help.sound.kept n) (help.sound.fetches n)) all)) h

  again-ask : (k : WayMarks) (v : Move) → Helps x v → (ms : List (Place × List ℕ)) → (ms ≡ []) ⊎ (ms ≡ again_sent p) → Each (LetterAsks all_files k x) (map (letter (Node n)) ms)
  again-ask k v help ms h = ⊎_elim
      (λ (e : ms ≡ []). subst (λ (l : List (Place × List ℕ)). Each (LetterAsks all_files k x) (map (letter (Node n)) l)) (sym e) tt)
      (λ (e : ms ≡ again_sent p). subst (λ (l : List (Place × List ℕ)). Each (LetterAsks all_files k x) (map (letter (Node n)) l)) (sym e)
      (sent-ask all_files k x n (p.kept ++ p.fetches) (sent-append x (Node n) p.kept p.fetches (help.sound.kept n) (help.sound.fetches n)))) h

  abbrev pub does_with : List Seen → List Rec → NodePart × NodeTurn → Move
  does_with heads notes given = record {
    place = Node n;
    heads = heads;
    said = record { notes = notes; segments = given.1.segments; gave = given.1.gave; messages = given.1.messages };
    part = with_node x.part n given.0;
  }

  pub does-makes : (heads : List Seen) (notes : List Rec) (given : NodePart × NodeTurn) → (Was : List (List ℕ) → Type 0) (t : TurnWays env m kept p Was given) → ((e : ℕ) (ps : List (List ℕ)) → Counts x.part n e → IsDecided e p.row → StayAsks all_files (kept.asks + 1) ps p.stay → Was ps) → Rightly all_files m notes → marked m notes ≡ marked m given.1.notes
      → (row : FrontRow) → x.part.front.row ≡ Some row → IsAt n row.stage → row.epoch.0 ≡ env.epoch → m.home ≡ Some n → (m.assigned ≡ [] → ⊥) → Keeps all_files x (does_with heads notes given)
  does-makes heads notes given Was t was may same row found at epoch home some help g =
      let v : Move = does_with heads notes given in
      let q : NodePart = given.0 in
      let k : WayMarks = record m { served = t.served; fresh = false } in
      let put : node_put_back x.part.nodes n q n ≡ q = put-same x.part.nodes n q in
      let now : IsDecided env.epoch (node_put_back x.part.nodes n q n).row = subst (λ (z : NodePart). IsDecided env.epoch z.row) (sym put) t.decided in
      let here : IsDecided row.epoch.0 q.row = subst (λ (e : ℕ). IsDecided e q.row) (sym epoch) t.decided in
      let said : Each (SaysIt env k kept (node_put_back x.part.nodes n q n).stay) t.more = subst (λ (z : NodePart). Each (SaysIt env k kept z.stay) t.more) (sym put) t.said in
      makes all_files x v help g k may (same ∙ t.told) g.paths
      (seat-put all_files k x.part n q row found at (home, inr (here, record { some = some; fresh = refl; stay = subst (λ (i : ℕ). StayWays all_files i k kept q.stay) node t.stay })))
      (carries-same all_files m k (same-marks all_files m t.served false) x.part v.part help.owes.grows refl refl
      (λ i e ps c d a. put-each x.part.nodes n q (λ j (z : NodePart). Counts x.part j e → IsDecided e (x.part.nodes j).row → StayAsks all_files (kept.asks + 1) ps (x.part.nodes j).stay → StayAsks all_files (kept.asks + 1) ps z.stay)
      (λ c d a. t.kept ps (was e ps c d a)) (λ j other c d b. b) i c d a))
      (λ old. append-letters (given.1.segments) (given.1.messages) v.part k
      (clients-say all_files k v.part (Node n) env.serve.c given.1.segments t.to)
      (subst (λ (ms : List (Place × List ℕ)). Each (LetterWays all_files k v.part) (map (letter (Node n)) ms)) (sym t.messages)
      (says-append all_files k v.part (Node n) t.again t.more (again-say k v.part v help t.again t.sent old) (it-says env k v.part n small now t.more said))))
      (Each-append (LetterAsks all_files k x) (map (letter (Node n)) given.1.segments) (map (letter (Node n)) given.1.messages)
      (clients-ask all_files k x n env.serve.c given.1.segments t.to)
      (subst (λ (ms : List (Place × List ℕ)). Each (LetterAsks all_files k x) (map (letter (Node n)) ms)) (sym t.messages)
      (asks-append all_files k x n t.again t.more (again-ask k v help t.again t.sent) (it-asks env k kept x n given.0.stay t.more t.said)))) where
        append-letters : (ss ms : List (Place × List ℕ)) (q : Part) (k : WayMarks) → Each (LetterWays all_files k q) (map (letter (Node n)) ss) → Each (LetterWays all_files k q) (map (letter (Node n)) ms)
            → Each (LetterWays all_files k q) (map (letter (Node n)) ss ++ map (letter (Node n)) ms)
        append-letters [] ms q k h g = g
        append-letters (s ∷ ss) ms q k h g = (h.0, append-letters ss ms q k h.1 g)
