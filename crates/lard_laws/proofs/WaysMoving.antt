-- A move leaves a connection on its way, where its notes may stand, its seat agrees, and what is said agrees.
use Rattle.std.proofs.Common.{◌≡◌, ◌⊎◌, ℕ, Bool, List, [], ◌∷◌, ◌++◌, map, Ok, inl, ⊎_elim, refl, sym, ◌∙◌, subst, append-nil}
use Rattle.lard_law_view.specs.Prelude.{AreSent, Client, Conn, EachRow, FilesAt, Front, FrontRest, IsPrefix, Kept, Letter, Message, Move, Node, NodePart, Part, Place, Seen, TurnSaid, Was, decoded_message, grown, letter, letters_of, seen_in, sent_of, stands}
use Rattle.lard_law_connections.proofs.BytesLaw.{Helps}
use Rattle.lard_law_connections.proofs.BytesClientMoves.{has-fair}
use Rattle.lard_law_connections.proofs.BytesFrontMessages.{past-undecided}
use Rattle.lard_law_connections.specs.Places.{IsDecided, IsPast}
use Rattle.lard_law_connections.proofs.PlacesGrowing.{grows-still}
use Rattle.lard_laws.specs.WaysState.{GoesItsWay, IsAtHome, IsAway, IsPlacedOnce, LetterWays, SeatWays, marks_at}
use Rattle.lard_laws.specs.Ways.{BodyGoesOn, WayMarks, paths_assigned, paths_wanted}
use Rattle.lard_laws.proofs.WaysLetters.{Carries, IsSame, carries-same, letters-on}
use Rattle.lard_laws.proofs.WaysMarking.{IsPlain, Mine, Rightly, marked, marks-after, plain-marked, plain-rightly, rows-mine}
use Rattle.lard_history.proofs.Each.{Each, Each-append}

-- What a node sends was sent before, or the paths of an Ask go on from those that were assigned.
abbrev pub AskTo : FilesAt → WayMarks → Conn → Place → Place → List ℕ → Type 0
AskTo files m x (Node n) Front bytes = Was x (Node n) Front bytes ⊎ ((msg : Message) → decoded_message bytes ≡ Ok msg → BodyGoesOn files m msg.body)
AskTo files m x _ _ bytes = Unit {0}

abbrev pub LetterAsks : FilesAt → WayMarks → Conn → Letter → Type 0
LetterAsks files m x l = AskTo files m x l.from l.to l.bytes

-- so it is of all that a place sends, where that is a node
abbrev pub AsksBy : FilesAt → WayMarks → Conn → Place → List Letter → Type 0
AsksBy files m x (Node n) ls = Each (LetterAsks files m x) ls
AsksBy files m x _ ls = Unit {0}

-- it is on its way still, all that it sees of the move may stand, and what is asked goes on
abbrev pub IsMade : FilesAt → Conn → Move → Type 0
IsMade files x v = GoesItsWay files (grown x v) × EachRow (Mine files x.c) x.seen (seen_in x v) × AsksBy files (marked (marks_at x) v.said.notes) x v.place (letters_of v)

-- what a move owes
abbrev pub Keeps : FilesAt → Conn → Move → Type 0
Keeps files x v = Helps x v → GoesItsWay files x → IsMade files x v

-- ---- letters

module _ (files : FilesAt) (m : WayMarks) (p : Part) where
  -- a client is told nothing of ways, nor is a node by another
  pub clients-say : (place : Place) (c : ℕ) (ss : List (Place × List ℕ)) → Each (λ s. s.0 ≡ Client c) ss → Each (LetterWays files m p) (map (letter place) ss)
  clients-say place c [] h = tt
  clients-say place c (s ∷ ss) h = (one place s.0 h.0, clients-say place c ss h.1) where
    one : (from to : Place) → to ≡ Client c → LetterWays files m p (record { from = from; to = to; bytes = s.1 })
    one (Node n) to e = subst (λ (q : Place). LetterWays files m p (record { from = Node n; to = q; bytes = s.1 })) (sym e) tt
    one Front to e = subst (λ (q : Place). LetterWays files m p (record { from = Front; to = q; bytes = s.1 })) (sym e) tt
    one (Client d) to e = tt

  pub says-append : (place : Place) (xs ys : List (Place × List ℕ)) → Each (LetterWays files m p) (map (letter place) xs) → Each (LetterWays files m p) (map (letter place) ys) → Each (LetterWays files m p) (map (letter place) (xs ++ ys))
  says-append place [] ys h k = k
  says-append place (x ∷ xs) ys h k = (h.0, says-append place xs ys h.1 k)

  -- what is held was sent before
  pub sent-say : (x : Conn) (place : Place) (ks : List Kept) → AreSent x place ks → Each (LetterWays files m p) x.letters → Each (LetterWays files m p) (map (letter place) (map sent_of ks))
  sent-say x place [] h all = tt
  sent-say x place (k ∷ ks) h all = (has-fair (LetterWays files m p) (record { from = place; to = k.to; bytes = k.bytes }) x.letters h.0.1 all, sent-say x place ks h.1 all)

-- ---- Asks

module _ (files : FilesAt) (m : WayMarks) (x : Conn) (n : ℕ) where
  -- a client is asked nothing
  pub clients-ask : (c : ℕ) (ss : List (Place × List ℕ)) → Each (λ s. s.0 ≡ Client c) ss → Each (LetterAsks files m x) (map (letter (Node n)) ss)
  clients-ask c [] h = tt
  clients-ask c (s ∷ ss) h = (subst (λ (to : Place). AskTo files m x (Node n) to s.1) (sym h.0) tt, clients-ask c ss h.1)

  pub asks-append : (xs ys : List (Place × List ℕ)) → Each (LetterAsks files m x) (map (letter (Node n)) xs) → Each (LetterAsks files m x) (map (letter (Node n)) ys) → Each (LetterAsks files m x) (map (letter (Node n)) (xs ++ ys))
  asks-append [] ys h k = k
  asks-append (s ∷ xs) ys h k = (h.0, asks-append xs ys h.1 k)

  was-asked : (to : Place) (bytes : List ℕ) → Was x (Node n) to bytes → AskTo files m x (Node n) to bytes
  was-asked Front bytes was = inl was
  was-asked _ bytes was = tt

  -- what is held was sent before
  pub sent-ask : (ks : List Kept) → AreSent x (Node n) ks → Each (LetterAsks files m x) (map (letter (Node n)) (map sent_of ks))
  sent-ask [] h = tt
  sent-ask (k ∷ ks) h = (was-asked k.to k.bytes h.0.1, sent-ask ks h.1)

-- a place that says nothing asks nothing
pub none-asked : (files : FilesAt) (m : WayMarks) (x : Conn) (place : Place) → AsksBy files m x place []
none-asked files m x (Node n) = tt
none-asked files m x Front = tt
none-asked files m x (Client d) = tt

-- ---- a move

module _ (files : FilesAt) (x : Conn) (v : Move) (help : Helps x v) (g : GoesItsWay files x) where
  pub makes : (n : WayMarks) → Rightly files (marks_at x) v.said.notes → marked (marks_at x) v.said.notes ≡ n → IsPrefix (paths_assigned n) (paths_wanted files n) → SeatWays files n v.part v.part.front.row
      → Carries files (marks_at x) n x.part v.part → (Each (LetterWays files n v.part) x.letters → Each (LetterWays files n v.part) (letters_of v)) → AsksBy files n x v.place (letters_of v) → IsMade files x v
  makes n notes told paths seat carries new asks =
      let after : marks_at (grown x v) ≡ n = marks-after files x v help.own help.heads ∙ told in
      let old : Each (LetterWays files n v.part) x.letters = letters-on files (marks_at x) n x.part v.part carries x.letters help.placed.letters g.letters in (
        record {
          paths = subst (λ (m : WayMarks). IsPrefix (paths_assigned m) (paths_wanted files m)) (sym after) paths;
          seat = subst (λ (m : WayMarks). SeatWays files m v.part v.part.front.row) (sym after) seat;
          letters = subst (λ (m : WayMarks). Each (LetterWays files m v.part) (x.letters ++ letters_of v)) (sym after)
              (Each-append (LetterWays files n v.part) x.letters (letters_of v) old (new old));
        },
        rows-mine files x v help.own help.heads notes,
        subst (λ (m : WayMarks). AsksBy files m x v.place (letters_of v)) (sym told) asks,
      )

-- what was assigned is the same, and so is what the client wrote
pub same-marks : (files : FilesAt) (m : WayMarks) (served : ℕ) (fresh : Bool) → IsSame files m (record m { served = served; fresh = fresh })
same-marks files m served fresh = record { assigned = refl; wanted = ([], sym (append-nil (paths_wanted files m))) }

-- it is at its home, where that has decided
pub decided-home : (files : FilesAt) (m : WayMarks) (r : FrontRest) (home e : ℕ) (p : NodePart) → IsDecided e p.row → IsAway files m r home e p → IsAtHome files m r home p.stay
decided-home files m r home e p decided h = ⊎_elim
    (λ (a : IsPast e p.row × IsPlacedOnce files m r home). absurd (past-undecided e p.row a.0 decided))
    (λ (a : IsDecided e p.row × IsAtHome files m r home p.stay). a.1) h.1

-- nothing that is kept changes, and nothing is told
pub stands-makes : (files : FilesAt) (x : Conn) (place : Place) (heads : List Seen) (said : TurnSaid) → Each IsPlain said.notes
    → (Each (LetterWays files (marks_at x) x.part) x.letters → Each (LetterWays files (marks_at x) x.part) (letters_of (stands x place heads said))) → AsksBy files (marks_at x) x place (letters_of (stands x place heads said))
    → Keeps files x (stands x place heads said)
stands-makes files x place heads said plain new asks help g =
    let m : WayMarks = marks_at x in
    makes files x (stands x place heads said) help g m (plain-rightly files m said.notes plain) (plain-marked m said.notes plain) g.paths g.seat
    (carries-same files m m (same-marks files m m.served m.fresh) x.part x.part (grows-still x.part) refl refl (λ i e ps at decided a. a)) new asks
