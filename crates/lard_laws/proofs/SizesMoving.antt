-- In each move the client of a connection is told what it has to be, and what its Asks say is so.
use Rattle.std.proofs.Common.{◌≡◌, ◌≢◌, ◌⊎◌, ◌+◌, ◌==◌, ℕ, nat_eq, Bool, true, false, cond, eq-eqb, eqb-true, List, [], ◌∷◌, ◌++◌, length, map, take, Option, Some, None, Ok, inl, inr, ⊎_elim, refl, sym, ap, ◌∙◌, subst, append-nil}
use Rattle.std.proofs.lemmas.List.Sums.{fold-append}
use Rattle.std.specs.List.{fold, list_any}
use Rattle.lard_answers.proofs.Growing.{IsPrefix-trans}
use Rattle.lard_law_view.specs.Prelude.{BackConn, BackRow, Came, Client, Conn, FilesAt, Front, IsPrefix, Message, Move, Node, NodePart, Part, Place, Rec, Row, Said, Seen, Stay, Tale, ToClient, Was, bytes_served_in, decoded, decoded_message, grown, is_reset_record, rows_of, seen_in, seen_step, served_in, tale_at, tale_of, tale_step, timer_rows, told_on, untold, verdicts}
use Rattle.lard_law_connections.proofs.BytesLaw.{IsHead}
use Rattle.lard_law_connections.specs.BytesTurning.{IsNoteOf}
use Rattle.lard_law_connections.proofs.BytesTold.{Bytes, bytes_of, move-bytes, place-notes}
use Rattle.lard_law_connections.specs.Line.{said_of}
use Rattle.lard_law_connections.proofs.LineSpeaking.{IsTold, heard_by}
use Rattle.lard_law_connections.proofs.LineStands.{Stand, came_stand, row_step, sent_stand, stand-grown, stand_at, stand_before, stand_step, unknown}
use Rattle.lard_law_connections.proofs.OffersSent.{AreSeen, SentSeen, grown-seen}
use Rattle.lard_law_connections.specs.Places.{Owning, owning}
use Rattle.lard_law_connections.proofs.PlacesNodeRules.{has-at}
use Rattle.lard_law_connections.proofs.PlacesRows.{MayOwnBy, OwnsBy, SendsOwn, after, after_all}
use Rattle.lard_law_connections.proofs.PlacesTurns.{IsPlaced, Owes}
use Rattle.lard_laws.specs.Sizes.{BodyIsOfBatch, SizeMarks, TakeOver, take_over_step}
use Rattle.lard_laws.proofs.SizesReading.{HasGoodBehind, good-grows}
use Rattle.lard_laws.proofs.SizesTaken.{owned-taken, seen_take_over, take-grown, take-served}
use Rattle.lard_laws.proofs.SizesTurns.{PartLeft, PartReach, Reads, RowLeft, SaysFit, StageLeft, StayLeft, now_told, reads-reach}
use Rattle.lard_law_view.specs.View.{sending}
use Rattle.lard_law_view.proofs.Fine.{IsItsOwn}
use Rattle.lard_law_view.proofs.Rows.{tale_before}
use Rattle.lard_law_view.proofs.Saying.{NotedAt}
use Rattle.lard_handoff_back.specs.declared.row.BackConn.TheVariants as back
use Rattle.lard_history.proofs.Each.{Each, Each-append, Each-weaker}
use Rattle.lard_journal.specs.declared.rec.Rec.TheVariants as rec
use Rattle.lard_law_view.proofs.Notes.{Adds}
use Rattle.lard_law_view.proofs.EndpointSends.{AllTo}
use Rattle.lard_law_view.proofs.OfKinds.{gaves-unsent, note-unsent, notes-unsent, rest_of, rest-each, rows-are, timers-unsent}
use Rattle.lard_law_view.proofs.RecordKinds.{IsUnsent}

-- ---- what is told

-- by what a connection saw
abbrev pub seen_marks : ℕ → List Seen → SizeMarks
seen_marks c ss = record {
  numbers = (tale_of c ss).numbers;
  wrote = (tale_of c ss).wrote;
  served = (tale_of c ss).served;
  taken = (seen_take_over c ss).taken;
  told = (fold (stand_step c) unknown ss).told;
}

abbrev pub marks_now : Conn → SizeMarks
marks_now x = seen_marks x.c x.seen

-- Each packet was seen to go out, and where a node has the endpoint, the client was told all that came, and one of the requests that were
-- read since is for a file.
pub record IsTelling (files : FilesAt) (x : Conn) : Type 0 where
  pub seen : AreSeen x
  pub left : (n : ℕ) → PartLeft files (marks_now x) (x.part.nodes n)

-- ---- what may be seen of a step

abbrev pub SentFits : FilesAt → ℕ → ℕ → List Seen → List Seen → Place → Place → List ℕ → Type 0
SentFits files c u past step (Node n) Front bytes =
    (SentSeen (Node n) Front bytes past → ⊥) → (m : Message) → decoded_message bytes ≡ Ok m → BodyIsOfBatch files u (seen_marks c (past ++ step)) m.body
SentFits files c u past step _ _ bytes = Unit {0}

abbrev pub RowFits : FilesAt → ℕ → ℕ → List Seen → List Seen → Rec → Type 0
RowFits files c u past step (rec.Sent k from to bytes) = SentFits files c u past step from to bytes
RowFits files c u past step _ = Unit {0}

abbrev pub SeenFits : FilesAt → ℕ → ℕ → List Seen → List Seen → Seen → Type 0
SeenFits files c u past step (Row r) = RowFits files c u past step r
SeenFits files c u past step (Came l) = Unit {0}

abbrev pub AllFit : FilesAt → ℕ → Conn → Move → Type 0
AllFit files u x v = Each (SeenFits files x.c u x.seen (seen_in x v)) (seen_in x v)

-- behind which so many requests were read, u before it
abbrev pub Reaches : ℕ → Conn → Type 0
Reaches u x = (n : ℕ) → PartReach u (tale_at x).wrote (x.part.nodes n)

-- it tells what it has to, what its Asks say is so, and so many requests are read
abbrev pub IsSaid : FilesAt → ℕ → Conn → Move → Type 0
IsSaid files u x v = IsTelling files (grown x v) × AllFit files u x v × Reaches u (grown x v)

abbrev pub IsNoNode : Place → Type 0
IsNoNode Front = Unit {0}
IsNoNode (Client d) = Unit {0}
IsNoNode (Node n) = ⊥

-- ---- records that send nothing

module _ (files : FilesAt) (c u : ℕ) (past step : List Seen) where
  unsent-fits : (r : Rec) → IsUnsent r → RowFits files c u past step r
  unsent-fits (rec.Sent k from to bytes) h = absurd h
  unsent-fits _ h = tt

  head-fits : (s : Seen) → IsHead s → SeenFits files c u past step s
  head-fits (Came l) h = tt
  head-fits (Row (rec.Event i e)) h = tt
  head-fits (Row (rec.Opened d isn iss wnd mss)) h = tt
  head-fits (Row _) h = absurd h

  rows-fit : (rs : List Rec) → Each (RowFits files c u past step) rs → Each (SeenFits files c u past step) (map Row rs)
  rows-fit [] h = tt
  rows-fit (r ∷ rs) h = (h.0, rows-fit rs h.1)

  -- another place than a node asks nothing
  pub else-sends : (place : Place) → IsNoNode place → (ss : List (Place × List ℕ)) → Each (RowFits files c u past step) (map (sending place) ss)
  else-sends place apart [] = tt
  else-sends Front apart (s ∷ ss) = (tt, else-sends Front apart ss)
  else-sends (Client d) apart (s ∷ ss) = (tt, else-sends (Client d) apart ss)
  else-sends (Node n) apart (s ∷ ss) = absurd apart

  -- nor does a segment to a client
  client-sends : (n d : ℕ) (ss : List (Place × List ℕ)) → AllTo (Client d) ss → Each (RowFits files c u past step) (map (sending (Node n)) ss)
  client-sends n d [] h = tt
  client-sends n d (s ∷ ss) h = (subst (λ (to : Place). SentFits files c u past step (Node n) to s.1) (sym h.0) tt, client-sends n d ss h.1)

module _ (files : FilesAt) (u : ℕ) (x : Conn) (v : Move) (own : IsItsOwn x v) where
  abbrev Fit : Rec → Type 0
  Fit r = RowFits files x.c u x.seen (seen_in x v) r

  -- all of a move, once its packets may be
  pub all-fit : Each (SeenFits files x.c u x.seen (seen_in x v)) v.heads → Each Fit (map (sending v.place) v.said.segments) → Each Fit (map (sending v.place) v.said.messages) → AllFit files u x v
  all-fit heads segments messages =
      let fits : (r : Rec) → IsUnsent r → Fit r = unsent-fits files x.c u x.seen (seen_in x v) in
      let N : List Rec = v.said.notes in
      let G : List Rec = v.said.gave in
      let T : List Rec = timer_rows v.place x.c x.part v.part in
      Each-append (SeenFits files x.c u x.seen (seen_in x v)) v.heads (map Row (rows_of x v)) heads
      (rows-fit files x.c u x.seen (seen_in x v) (rows_of x v) (subst (Each Fit) (sym (rows-are x v))
      (Each-append Fit N (rest_of x v) (Each-weaker IsUnsent Fit fits N (notes-unsent v.place x.c N own.notes))
      (rest-each x v Fit segments (Each-weaker IsUnsent Fit fits G (gaves-unsent v.place x.c G own.gave)) messages (Each-weaker IsUnsent Fit fits T (timers-unsent v.place x.c x.part v.part))))))

-- ---- what the client was told last

-- to whom, and from whom
abbrev told_one : ℕ → Place → Place → List ℕ → Option Said → Option Said
told_one c (Client d) Front bytes o = said_of (decoded bytes c ToClient)
told_one c (Client d) (Node n) bytes o = said_of (decoded bytes c ToClient)
told_one c (Client d) (Client e) bytes o = o
told_one c Front from bytes o = o
told_one c (Node n) from bytes o = o

abbrev told_behind : ℕ → Place → Option Said → List (Place × List ℕ) → Option Said
told_behind c place o [] = o
told_behind c place o (s ∷ ss) = told_behind c place (told_one c s.0 place s.1 o) ss

sent-one : (c : ℕ) (s : Stand) (to from : Place) (bytes : List ℕ) → (sent_stand c s to from bytes).told ≡ told_one c to from bytes s.told
sent-one c s (Client d) Front bytes = refl
sent-one c s (Client d) (Node n) bytes = refl
sent-one c s (Client d) (Client e) bytes = refl
sent-one c s Front from bytes = refl
sent-one c s (Node n) from bytes = refl

sends-told : (c : ℕ) (place : Place) (s : Stand) (ss : List (Place × List ℕ)) → (fold (row_step c) s (map (sending place) ss)).told ≡ told_behind c place s.told ss
sends-told c place s [] = refl
sends-told c place s (y ∷ ys) = sends-told c place (sent_stand c s y.0 place y.1) ys ∙ ap (λ (o : Option Said). told_behind c place o ys) (sent-one c s y.0 place y.1)

unsent-told : (c : ℕ) (s : Stand) (r : Rec) → IsUnsent r → (row_step c s r).told ≡ s.told
unsent-told c s (rec.Sent k from to bytes) h = absurd h
unsent-told c s _ h = refl

notes-told : (place : Place) (c d : ℕ) (s : Stand) (rs : List Rec) → Each (NotedAt place d) rs → (fold (row_step c) s rs).told ≡ s.told
notes-told place c d s [] h = refl
notes-told place c d s (r ∷ rs) h = notes-told place c d (row_step c s r) rs h.1 ∙ unsent-told c s r (note-unsent place d r h.0)

came-told : (c : ℕ) (s : Stand) (to from : Place) (bytes : List ℕ) → (came_stand c s to from bytes).told ≡ s.told
came-told c s Front (Client d) bytes = refl
came-told c s Front Front bytes = refl
came-told c s Front (Node n) bytes = refl
came-told c s (Node m) from bytes = refl
came-told c s (Client d) from bytes = refl

head-told : (c : ℕ) (s : Stand) (h : Seen) → IsHead h → (stand_step c s h).told ≡ s.told
head-told c s (Came l) h = came-told c s l.to l.from l.bytes
head-told c s (Row (rec.Event i e)) h = refl
head-told c s (Row (rec.Opened d isn iss wnd mss)) h = refl
head-told c s (Row _) h = absurd h

heads-told : (c : ℕ) (s : Stand) (hs : List Seen) → Each IsHead hs → (fold (stand_step c) s hs).told ≡ s.told
heads-told c s [] h = refl
heads-told c s (y ∷ ys) h = heads-told c (stand_step c s y) ys h.1 ∙ head-told c s y h.0

-- behind a move
told-grown : (x : Conn) (v : Move) → IsItsOwn x v → Each IsHead v.heads → (stand_at (grown x v)).told ≡ told_behind x.c v.place (stand_at x).told v.said.segments
told-grown x v own heads =
    let s : Stand = fold (row_step x.c) (stand_before x v) v.said.notes in
    ap (λ (t : Stand). t.told) (stand-grown x v own) ∙ sends-told x.c v.place s v.said.segments
    ∙ ap (λ (o : Option Said). told_behind x.c v.place o v.said.segments) (notes-told v.place x.c x.c (stand_before x v) v.said.notes own.notes ∙ heads-told x.c (stand_at x) v.heads heads)

-- a node tells the last of what it sends
node-told : (c n : ℕ) (o : Option Said) (ss : List (Place × List ℕ)) → AllTo (Client c) ss → told_behind c (Node n) o ss ≡ heard_by c o ss
node-told c n o [] h = refl
node-told c n o (s ∷ ss) h = ap (λ (to : Place). told_behind c (Node n) (told_one c to (Node n) s.1 o) ss) h.0 ∙ node-told c n (said_of (decoded s.1 c ToClient)) ss h.1

-- ---- who does not own the connection tells its client nothing

silent-one : (c : ℕ) (w : Owning) (place q to : Place) (bytes : List ℕ) (o : Option Said) → w.owner ≡ Some q → place ≢ q → SendsOwn c w place to → told_one c to place bytes o ≡ o
silent-one c w Front q (Client d) bytes o mine other h = let same : Some q ≡ Some Front = sym mine ∙ h.1 in absurd (other (let e : q ≡ Front = cc in sym e))
silent-one c w (Node n) q (Client d) bytes o mine other h = let same : Some q ≡ Some (Node n) = sym mine ∙ h.1 in absurd (other (let e : q ≡ Node n = cc in sym e))
silent-one c w (Client e) q (Client d) bytes o mine other h = refl
silent-one c w place q Front bytes o mine other h = refl
silent-one c w place q (Node n) bytes o mine other h = refl

silent-behind : (c : ℕ) (w : Owning) (place q : Place) (o : Option Said) (ss : List (Place × List ℕ)) → w.owner ≡ Some q → place ≢ q → OwnsBy c w (map (sending place) ss) → told_behind c place o ss ≡ o
silent-behind c w place q o [] mine other h = refl
silent-behind c w place q o (s ∷ ss) mine other h =
    ap (λ (t : Option Said). told_behind c place t ss) (silent-one c w place q s.0 s.1 o mine other h.0) ∙ silent-behind c w place q o ss mine other h.1

-- the owner stays, while another place notes
note-owner : (place : Place) (c d : ℕ) (w : Owning) (q : Place) (r : Rec) → NotedAt place d r → w.owner ≡ Some q → MayOwnBy c w r → (after w r).owner ≡ Some q
note-owner place c d w q (rec.Took p e epoch) h mine may = let no : Some q ≡ None = sym mine ∙ may.2 in absurd cc
note-owner (Client k) c d w q (rec.Gave p e epoch) h mine may = absurd h
note-owner Front c d w q (rec.Gave p e epoch) h mine may = absurd h
note-owner (Node n) c d w q (rec.Gave p e epoch) h mine may = absurd h
note-owner place c d w q _ h mine may = mine

notes-owner : (place : Place) (c d : ℕ) (w : Owning) (q : Place) (ns rest : List Rec) → Each (NotedAt place d) ns → w.owner ≡ Some q → OwnsBy c w (ns ++ rest) → ((after_all w ns).owner ≡ Some q) × OwnsBy c (after_all w ns) rest
notes-owner place c d w q [] rest h mine owns = (mine, owns)
notes-owner place c d w q (r ∷ rs) rest h mine owns = notes-owner place c d (after w r) q rs rest h.1 (note-owner place c d w q r h.0 mine owns.0) owns.1

-- so nobody takes it
notes-taken : (place : Place) (c d : ℕ) (w : Owning) (q : Place) (t : TakeOver) (ns rest : List Rec) → Each (NotedAt place d) ns → w.owner ≡ Some q → OwnsBy c w (ns ++ rest) → (fold (take_over_step c) t ns).taken ≡ t.taken
notes-taken place c d w q t [] rest h mine owns = refl
notes-taken place c d w q t (r ∷ rs) rest h mine owns =
    notes-taken place c d (after w r) q (take_over_step c t r) rs rest h.1 (note-owner place c d w q r h.0 mine owns.0) owns.1 ∙ owned-taken c w q t r mine owns.0

owns-first : (c : ℕ) (w : Owning) (xs ys : List Rec) → OwnsBy c w (xs ++ ys) → OwnsBy c w xs
owns-first c w [] ys h = tt
owns-first c w (y ∷ xs) ys h = (h.0, owns-first c (after w y) xs ys h.1)

-- ---- what its client wrote only grows

row-wrote : (c : ℕ) (t : Tale) (r : Rec) → IsPrefix t.wrote (tale_step c t r).wrote
row-wrote c t (rec.Wrote d bytes) = go (nat_eq d c) where
  go : (b : Bool) → IsPrefix t.wrote (cond b (t.wrote ++ bytes) t.wrote)
  go true = (bytes, refl)
  go false = ([], sym (append-nil t.wrote))
row-wrote c t _ = ([], sym (append-nil t.wrote))

seen-wrote : (c : ℕ) (t : Tale) (ss : List Seen) → IsPrefix t.wrote (fold (seen_step (tale_step c)) t ss).wrote
seen-wrote c t [] = ([], sym (append-nil t.wrote))
seen-wrote c t (Came l ∷ ss) = seen-wrote c t ss
seen-wrote c t (Row r ∷ ss) = IsPrefix-trans t.wrote (tale_step c t r).wrote (fold (seen_step (tale_step c)) (tale_step c t r) ss).wrote (row-wrote c t r) (seen-wrote c (tale_step c t r) ss)

wrote-grown : (x : Conn) (v : Move) → IsPrefix (tale_at x).wrote (tale_at (grown x v)).wrote
wrote-grown x v = subst (λ (t : Tale). IsPrefix (tale_at x).wrote t.wrote) (sym (fold-append (seen_step (tale_step x.c)) untold x.seen (seen_in x v))) (seen-wrote x.c (tale_at x) (seen_in x v))

-- what is told since no node took it
stay-later : (files : FilesAt) (m n : SizeMarks) → n.taken ≡ m.taken → IsPrefix m.wrote n.wrote → (o : Option Stay) → StayLeft files m o → StayLeft files n o
stay-later files m n same more None h = tt
stay-later files m n same more (Some s) h =
    let read : ℕ = s.served + length s.batch in
    subst (λ (y : ℕ × List ℕ). HasGoodBehind files y.0 (take read (verdicts y.1))) (λ i. (sym same i, sym more.1 i)) (good-grows files m.taken read m.wrote more.0 h)

module _ (files : FilesAt) (x : Conn) (v : Move) (own : IsItsOwn x v) (owes : Owes x v) (placed : IsPlaced x) (heads : Each IsHead v.heads) where
  abbrev w : Owning
  w = owning (tale_at x)

  -- its notes and segments are those of who may write them
  rows-owned : OwnsBy x.c w (v.said.notes ++ map (sending v.place) v.said.segments)
  rows-owned =
      let N : List Rec = v.said.notes in
      let S : List Rec = map (sending v.place) v.said.segments in
      let G : List Rec = v.said.gave in
      let M : List Rec = map (sending v.place) v.said.messages in
      let T : List Rec = timer_rows v.place x.c x.part v.part in
      owns-first x.c w (N ++ S) G (owns-first x.c w (N ++ S ++ G) M (owns-first x.c w (N ++ S ++ G ++ M) T owes.rows))

  silent-told : (q : Place) → w.owner ≡ Some q → v.place ≢ q → (stand_at (grown x v)).told ≡ (stand_at x).told
  silent-told q mine other =
      let behind = notes-owner v.place x.c x.c w q v.said.notes (map (sending v.place) v.said.segments) own.notes mine rows-owned in
      told-grown x v own heads ∙ silent-behind x.c (after_all w v.said.notes) v.place q (stand_at x).told v.said.segments behind.0 other behind.1

  silent-taken : (q : Place) → w.owner ≡ Some q → (marks_now (grown x v)).taken ≡ (marks_now x).taken
  silent-taken q mine =
      ap (λ (t : TakeOver). t.taken) (take-grown x v own heads)
      ∙ notes-taken v.place x.c x.c w q (seen_take_over x.c x.seen) v.said.notes (map (sending v.place) v.said.segments) own.notes mine rows-owned

  -- so what another node has is as it was
  row-still : (q : ℕ) (o : Option Stay) (r : Option BackRow) → (x.part.nodes q).row ≡ r → v.place ≢ Node q → RowLeft files (marks_now x) o r → RowLeft files (marks_now (grown x v)) o r
  row-still q o None found other h = tt
  row-still q o (Some row) found other h = go row.stage refl h where
    go : (d : BackConn) → row.stage ≡ d → StageLeft files (marks_now x) o d → StageLeft files (marks_now (grown x v)) o d
    go (back.Here b) at t =
        let mine : w.owner ≡ Some (Node q) = (has-at x placed q row b found at x.part.front.row refl).owner in
        (subst (λ (o : Option Said). IsTold o b) (sym (silent-told (Node q) mine other)) t.0, stay-later files (marks_now x) (marks_now (grown x v)) (silent-taken (Node q) mine) (wrote-grown x v) o t.1)
    go _ at t = tt

  node-still : (q : ℕ) → v.place ≢ Node q → v.part.nodes q ≡ x.part.nodes q → PartLeft files (marks_now x) (x.part.nodes q) → PartLeft files (marks_now (grown x v)) (v.part.nodes q)
  node-still q other same h = subst (PartLeft files (marks_now (grown x v))) (sym same) (row-still q (x.part.nodes q).stay (x.part.nodes q).row refl other h)

  -- ---- where another place than a node acts

  no-node : (place : Place) (q : ℕ) → IsNoNode place → place ≢ Node q
  no-node Front q h e = let no : Front ≡ Node q = e in cc
  no-node (Client d) q h e = let no : Client d ≡ Node q = e in cc
  no-node (Node n) q h e = absurd h

  pub else-said : IsNoNode v.place → v.part.nodes ≡ x.part.nodes → IsTelling files x → (u : ℕ) → Reads u x → IsSaid files u x v
  else-said apart same h u reads = (
    record { seen = grown-seen x v h.seen; left = λ q. node-still q (no-node v.place q apart) (ap (λ (nodes : ℕ → NodePart). nodes q) same) (h.left q) },
    all-fit files u x v own (Each-weaker IsHead (SeenFits files x.c u x.seen (seen_in x v)) (head-fits files x.c u x.seen (seen_in x v)) v.heads heads)
        (else-sends files x.c u x.seen (seen_in x v) v.place apart v.said.segments) (else-sends files x.c u x.seen (seen_in x v) v.place apart v.said.messages),
    λ q. subst (λ (nodes : ℕ → NodePart). PartReach u (tale_at (grown x v)).wrote (nodes q)) (sym same) (reads-reach u (tale_at (grown x v)).wrote (x.part.nodes q).stay (x.part.nodes q).row (reads.here q)),
  )

-- ---- where a node acts

module _ (files : FilesAt) (u : ℕ) (x : Conn) (n : ℕ) (heads : List Seen) (notes : List Rec) (segments : List (Place × List ℕ)) (gave : List Rec) (messages : List (Place × List ℕ)) (part : Part) where
  abbrev pub acts : Move
  acts = record { place = Node n; heads = heads; said = record { notes = notes; segments = segments; gave = gave; messages = messages }; part = part }

  abbrev now : SizeMarks
  now = now_told files x.c x n u (marks_now x) notes segments

  module _ (own : IsItsOwn x acts) (owes : Owes x acts) (placed : IsPlaced x) (are : Each IsHead heads) (quiet : bytes_of (tale_before x acts) ≡ bytes_of (tale_at x)) (each : Each (IsNoteOf x.c) notes) (to : AllTo (Client x.c) segments) where
    -- what is told with the step
    told-now : (stand_at (grown x acts)).told ≡ heard_by x.c (stand_at x).told segments
    told-now = told-grown x acts own are ∙ node-told x.c n (stand_at x).told segments to

    marks-grown : seen_marks x.c (x.seen ++ seen_in x acts) ≡ now
    marks-grown =
        let before : Tale = tale_before x acts in
        let adds : Adds before [] [] (served_in notes) (bytes_served_in notes) (list_any is_reset_record notes) (told_on x.c before notes) = place-notes x.c before notes each in
        let moved : bytes_of (tale_at (grown x acts)) ≡ bytes_of (told_on x.c before notes) = move-bytes x acts own.messages own.gave in
        let taking : seen_take_over x.c x.seen ≡ record { served = (marks_now x).served; taken = (marks_now x).taken } = λ i. record { served = take-served x.c x.seen i; taken = (marks_now x).taken } in
        λ i. record {
          numbers = (ap (λ (b : Bytes). b.numbers) moved ∙ adds.numbers ∙ ap (λ (b : Bytes). b.numbers) quiet) i;
          wrote = (ap (λ (b : Bytes). b.wrote) moved ∙ adds.wrote ∙ append-nil before.wrote ∙ ap (λ (b : Bytes). b.wrote) quiet) i;
          served = (ap (λ (b : Bytes). b.served) moved ∙ adds.served ∙ ap (λ (b : Bytes). b.served + served_in notes) quiet) i;
          taken = (ap (λ (t : TakeOver). t.taken) (take-grown x acts own are ∙ ap (λ (t : TakeOver). fold (take_over_step x.c) t notes) taking)) i;
          told = told-now i;
        }

    -- what is said was seen before, or it is of its batch
    message-fits : IsTelling files x → (s : Place × List ℕ) → SaysFit files x.c x n u (marks_now x) now s → SentFits files x.c u x.seen (seen_in x acts) (Node n) s.0 s.1
    message-fits h s says = go s.0 says where
      go : (p : Place) → SaysFit files x.c x n u (marks_now x) now (p, s.1) → SentFits files x.c u x.seen (seen_in x acts) (Node n) p s.1
      go (Client d) f = tt
      go (Node m) f = tt
      go Front f = λ new m d. ⊎_elim
          (λ (was : Was x (Node n) Front s.1). absurd (new (h.seen (record { from = Node n; to = Front; bytes = s.1 }) was)))
          (λ (g : (m : Message) → decoded_message s.1 ≡ Ok m → BodyIsOfBatch files u now m.body). subst (λ (t : SizeMarks). BodyIsOfBatch files u t m.body) (sym marks-grown) (g m d)) f

    messages-fit : IsTelling files x → (ss : List (Place × List ℕ)) → Each (SaysFit files x.c x n u (marks_now x) now) ss → Each (RowFits files x.c u x.seen (seen_in x acts)) (map (sending (Node n)) ss)
    messages-fit h [] f = tt
    messages-fit h (s ∷ ss) f = (message-fits h s f.0, messages-fit h ss f.1)

    pub node-said : ((q : ℕ) → q ≢ n → part.nodes q ≡ x.part.nodes q) → PartLeft files now (part.nodes n) → PartReach u (marks_now x).wrote (part.nodes n) → Each (SaysFit files x.c x n u (marks_now x) now) messages
        → IsTelling files x → Reads u x → IsSaid files u x acts
    node-said others mine mine_reach says h reads = (
      record { seen = grown-seen x acts h.seen; left = λ q. by_node q (same_number_here q n) },
      all-fit files u x acts own (Each-weaker IsHead (SeenFits files x.c u x.seen (seen_in x acts)) (head-fits files x.c u x.seen (seen_in x acts)) heads are)
          (client-sends files x.c u x.seen (seen_in x acts) n x.c segments to) (messages-fit h messages says),
      λ q. reach_by q (same_number_here q n),
    ) where
      reach_by : (q : ℕ) → (q ≡ n) ⊎ (q ≢ n) → PartReach u (tale_at (grown x acts)).wrote (part.nodes q)
      reach_by q e = ⊎_elim
          (λ (same : q ≡ n). subst (λ (i : ℕ). PartReach u (tale_at (grown x acts)).wrote (part.nodes i)) (sym same) (subst (λ (l : List ℕ). PartReach u l (part.nodes n)) (sym (ap (λ (m : SizeMarks). m.wrote) marks-grown)) mine_reach))
          (λ (other : q ≢ n). subst (PartReach u (tale_at (grown x acts)).wrote) (sym (others q other)) (reads-reach u (tale_at (grown x acts)).wrote (x.part.nodes q).stay (x.part.nodes q).row (reads.here q))) e

      by_node : (q : ℕ) → (q ≡ n) ⊎ (q ≢ n) → PartLeft files (marks_now (grown x acts)) (part.nodes q)
      by_node q e = ⊎_elim
          (λ (same : q ≡ n). subst (λ (i : ℕ). PartLeft files (marks_now (grown x acts)) (part.nodes i)) (sym same) (subst (λ (m : SizeMarks). PartLeft files m (part.nodes n)) (sym marks-grown) mine))
          (λ (other : q ≢ n). node-still files x acts own owes placed are q (λ f. let same : n ≡ q = cc in other (sym same)) (others q other) (h.left q)) e

      same_number_here : (a b : ℕ) → (a ≡ b) ⊎ (a ≢ b)
      same_number_here a b = go (a == b) refl where
        go : (t : Bool) → (a == b) ≡ t → (a ≡ b) ⊎ (a ≢ b)
        go true e = inl (eqb-true a b e)
        go false e = inr (λ f. let no : true ≡ false = sym (eq-eqb a b f) ∙ e in cc)
