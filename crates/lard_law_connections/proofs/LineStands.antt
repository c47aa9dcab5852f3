-- How one connection stands by what it sees: what its client was told last, whether it is in the line, and whether it is admitted.
use Rattle.std.proofs.Common.{◌≡◌, ℕ, ◌+◌, Bool, true, false, cond, List, [], ◌∷◌, ◌++◌, map, Option, Some, None, refl, sym, ap, ◌∙◌, subst}
use Rattle.std.proofs.lemmas.List.Sums.{fold-append}
use Rattle.std.specs.List.{fold}
use Rattle.lard_law_view.specs.Prelude.{Came, Client, Conn, Front, GoesBetween, IsMachine, Move, Node, Place, Rec, Row, Said, Seen, ToClient, ToCluster, decoded, grown, rows_of, seen_in, timer_rows}
use Rattle.lard_law_connections.proofs.LineSpeaking.{heard_by}
use Rattle.lard_law_connections.specs.Line.{leaves, said_of}
use Rattle.lard_law_view.specs.View.{sending}
use Rattle.lard_law_view.proofs.Fine.{IsItsOwn}
use Rattle.lard_law_view.proofs.Saying.{AllBetween, AreMessages, NotedAt}
use Rattle.lard_law_connections.specs.Places.{Owning}
use Rattle.lard_law_connections.proofs.PlacesRows.{OwnsBy, SendsOwn}
use Rattle.lard_history.proofs.Each.{Each, Each-weaker}
use Rattle.lard_journal.specs.declared.rec.Rec.TheVariants as rec
use Rattle.lard_law_view.proofs.EndpointSends.{AllTo}
use Rattle.lard_law_view.proofs.OfKinds.{of-gifts, of-timers, elsewhere}
use Rattle.lard_law_view.proofs.RecordKinds as kinds

pub record Stand : Type 0 where
  pub told : Option Said  -- the last segment that the cluster sent to its client
  pub waits : Bool  -- it is in the line
  pub times : ℕ  -- how often it was to wait since it was admitted
  pub inside : Bool  -- it is admitted

abbrev pub unknown : Stand
unknown = record { told = None; waits = false; times = 0; inside = false }

-- to whom, and from whom
abbrev pub sent_stand : ℕ → Stand → Place → Place → List ℕ → Stand
sent_stand c s (Client d) Front bytes = record s { told = said_of (decoded bytes c ToClient) }
sent_stand c s (Client d) (Node n) bytes = record s { told = said_of (decoded bytes c ToClient) }
sent_stand c s (Client d) (Client e) bytes = s
sent_stand c s Front from bytes = s
sent_stand c s (Node n) from bytes = s

abbrev pub row_step : ℕ → Stand → Rec → Stand
row_step c s (rec.Waits d) = record s { waits = true; times = s.times + 1 }
row_step c s (rec.Admitted d) = record s { waits = false; times = 0; inside = true }
row_step c s (rec.Released d) = record s { inside = false }
row_step c s (rec.Sent k from to bytes) = sent_stand c s to from bytes
row_step c s _ = s

abbrev pub came_stand : ℕ → Stand → Place → Place → List ℕ → Stand
came_stand c s Front (Client d) bytes = record s { waits = cond (leaves s.told (decoded bytes c ToCluster)) false s.waits }
came_stand c s Front Front bytes = s
came_stand c s Front (Node n) bytes = s
came_stand c s (Node m) from bytes = s
came_stand c s (Client d) from bytes = s

abbrev pub stand_step : ℕ → Stand → Seen → Stand
stand_step c s (Row r) = row_step c s r
stand_step c s (Came l) = came_stand c s l.to l.from l.bytes

abbrev pub stand_at : Conn → Stand
stand_at x = fold (stand_step x.c) unknown x.seen

-- ---- records by which it stands as before

abbrev pub IsSame : ℕ → Rec → Type 0
IsSame c r = (s : Stand) → row_step c s r ≡ s

pub all-same : (c : ℕ) (s : Stand) (rs : List Rec) → Each (IsSame c) rs → fold (row_step c) s rs ≡ s
all-same c s [] e = refl
all-same c s (r ∷ rs) e = ap (λ (t : Stand). fold (row_step c) t rs) (e.0 s) ∙ all-same c s rs e.1

-- what goes to a machine tells no client anything
machine-same : (c : ℕ) (s : Stand) (to from : Place) (bytes : List ℕ) → IsMachine to → sent_stand c s to from bytes ≡ s
machine-same c s Front from bytes m = refl
machine-same c s (Node n) from bytes m = refl
machine-same c s (Client d) from bytes m = absurd m

messages-same : (c : ℕ) (place : Place) (ms : List (Place × List ℕ)) → AreMessages c place ms → Each (IsSame c) (map (sending place) ms)
messages-same c place [] e = tt
messages-same c place (m ∷ ms) e = ((λ s. machine-same c s m.0 place m.1 e.0.0), messages-same c place ms e.1)

-- what another place than the front end notes
abbrev pub IsElsewhere : Place → Type 0
IsElsewhere Front = ⊥
IsElsewhere _ = Unit {0}

else-same : (c : ℕ) (r : Rec) → kinds.IsElsewhere (kinds.kind_of r) → IsSame c r
else-same c (rec.Waits d) h = absurd h
else-same c (rec.Admitted d) h = absurd h
else-same c (rec.Released d) h = absurd h
else-same c (rec.Sent k from to bytes) h = absurd h
else-same c _ h = λ s. refl

pub notes-same : (place : Place) (c : ℕ) (rs : List Rec) → IsElsewhere place → Each (NotedAt place c) rs → Each (IsSame c) rs
notes-same place c rs there = Each-weaker (NotedAt place c) (IsSame c) (λ r h. else-same c r (elsewhere place c r h (λ e. subst IsElsewhere e there))) rs

-- ---- a move

-- what is so before the notes
abbrev pub stand_before : Conn → Move → Stand
stand_before x v = fold (stand_step x.c) (stand_at x) v.heads

-- and behind notes and segments
abbrev pub stand_behind : ℕ → Place → Stand → List Rec → List (Place × List ℕ) → Stand
stand_behind c place s notes segments = fold (row_step c) (fold (row_step c) s notes) (map (sending place) segments)

rows-seen : (c : ℕ) (s : Stand) (rs : List Rec) → fold (stand_step c) s (map Row rs) ≡ fold (row_step c) s rs
rows-seen c s [] = refl
rows-seen c s (r ∷ rs) = rows-seen c (row_step c s r) rs

pub stand-grown : (x : Conn) (v : Move) → IsItsOwn x v → stand_at (grown x v) ≡ stand_behind x.c v.place (stand_before x v) v.said.notes v.said.segments
stand-grown x v own =
    let c : ℕ = x.c in
    let S : List Rec = map (sending v.place) v.said.segments in
    let G : List Rec = v.said.gave in
    let M : List Rec = map (sending v.place) v.said.messages in
    let T : List Rec = timer_rows v.place x.c x.part v.part in
    let N : List Rec = v.said.notes in
    let s : Stand = stand_before x v in
    fold-append (stand_step c) unknown x.seen (seen_in x v)
    ∙ fold-append (stand_step c) (stand_at x) v.heads (map Row (rows_of x v))
    ∙ rows-seen c s (rows_of x v)
    ∙ fold-append (row_step c) s (N ++ S ++ G ++ M) T ∙ all-same c (fold (row_step c) s (N ++ S ++ G ++ M)) T (of-timers (IsSame c) (λ p d kind. ((λ u. refl), (λ u. refl))) v.place c x.part v.part)
    ∙ fold-append (row_step c) s (N ++ S ++ G) M ∙ all-same c (fold (row_step c) s (N ++ S ++ G)) M (messages-same c v.place v.said.messages own.messages)
    ∙ fold-append (row_step c) s (N ++ S) G ∙ all-same c (fold (row_step c) s (N ++ S)) G (of-gifts (IsSame c) (λ p d epoch u. refl) v.place c G own.gave)
    ∙ fold-append (row_step c) s N S

-- ---- segments

-- a client tells its connection nothing
pub client-behind : (c d : ℕ) (s : Stand) (ss : List (Place × List ℕ)) → AllBetween c (Client d) ss → fold (row_step c) s (map (sending (Client d)) ss) ≡ s
client-behind c d s [] e = refl
client-behind c d s (x ∷ xs) e = ap (λ (t : Stand). fold (row_step c) t (map (sending (Client d)) xs)) (one x.0 e.0) ∙ client-behind c d s xs e.1 where
  one : (to : Place) → GoesBetween c (Client d) to x.1 → sent_stand c s to (Client d) x.1 ≡ s
  one Front h = refl
  one (Client e) h = refl
  one (Node n) h = refl

-- the front end tells its client the last of what it sends
pub front-behind : (c : ℕ) (s : Stand) (ss : List (Place × List ℕ)) → AllTo (Client c) ss → fold (row_step c) s (map (sending Front) ss) ≡ record s { told = heard_by c s.told ss }
front-behind c s [] e = refl
front-behind c s (x ∷ xs) e =
    let now : sent_stand c s x.0 Front x.1 ≡ record s { told = said_of (decoded x.1 c ToClient) } = ap (λ (to : Place). sent_stand c s to Front x.1) e.0 in
    ap (λ (t : Stand). fold (row_step c) t (map (sending Front) xs)) now ∙ front-behind c (record s { told = said_of (decoded x.1 c ToClient) }) xs e.1

-- all else is as it was, whatever is sent
pub record IsAlike (s t : Stand) : Type 0 where
  pub waits : t.waits ≡ s.waits
  pub times : t.times ≡ s.times
  pub inside : t.inside ≡ s.inside

alike-then : (s t u : Stand) → IsAlike s t → IsAlike t u → IsAlike s u
alike-then s t u a b = record { waits = b.waits ∙ a.waits; times = b.times ∙ a.times; inside = b.inside ∙ a.inside }

pub sends-alike : (c : ℕ) (place : Place) (s : Stand) (ss : List (Place × List ℕ)) → IsAlike s (fold (row_step c) s (map (sending place) ss))
sends-alike c place s [] = record { waits = refl; times = refl; inside = refl }
sends-alike c place s (x ∷ xs) = alike-then s (sent_stand c s x.0 place x.1) (fold (row_step c) (sent_stand c s x.0 place x.1) (map (sending place) xs)) (one x.0 place) (sends-alike c place (sent_stand c s x.0 place x.1) xs) where
  one : (to from : Place) → IsAlike s (sent_stand c s to from x.1)
  one (Client d) Front = record { waits = refl; times = refl; inside = refl }
  one (Client d) (Node n) = record { waits = refl; times = refl; inside = refl }
  one (Client d) (Client e) = record { waits = refl; times = refl; inside = refl }
  one Front from = record { waits = refl; times = refl; inside = refl }
  one (Node n) from = record { waits = refl; times = refl; inside = refl }

-- a node that does not own the connection tells its client nothing
pub node-behind : (c n : ℕ) (w : Owning) (s : Stand) (ss : List (Place × List ℕ)) → w.owner ≡ Some Front → OwnsBy c w (map (sending (Node n)) ss) → fold (row_step c) s (map (sending (Node n)) ss) ≡ s
node-behind c n w s [] front h = refl
node-behind c n w s (x ∷ xs) front h = ap (λ (t : Stand). fold (row_step c) t (map (sending (Node n)) xs)) (one x.0 h.0) ∙ node-behind c n w s xs front h.1 where
  one : (to : Place) → SendsOwn c w (Node n) to → sent_stand c s to (Node n) x.1 ≡ s
  one Front may = refl
  one (Node m) may = refl
  one (Client d) may = let no : Some Front ≡ Some (Node n) = sym front ∙ may.1 in absurd cc
