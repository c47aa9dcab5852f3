-- What a connection sees go out of a move: the paths of an Ask that was not sent before go on from those that were assigned.
use Rattle.std.proofs.Common.{◌≡◌, ℕ, List, [], ◌∷◌, ◌++◌, map, sym, subst, ⊎_elim, Ok}
use Rattle.lard_law_view.specs.Prelude.{Came, Client, Conn, EachRow, FilesAt, Front, Letter, Message, Move, Node, Place, Rec, Row, Seen, Tale, Was, decoded_message, letter, letters_of, seen_in, tale_of, tale_step, timer_rows, told_on}
use Rattle.lard_law_connections.proofs.BytesLaw.{IsHead, heads-stand}
use Rattle.lard_law_connections.proofs.OffersSent.{AreSeen, SentSeen, seen-before}
use Rattle.lard_law_view.specs.Carry.{TellsBy}
use Rattle.lard_law_view.specs.View.{sending}
use Rattle.lard_law_view.proofs.Fine.{IsItsOwn}
use Rattle.lard_law_view.proofs.RowLists.{MayBeSeen}
use Rattle.lard_law_view.proofs.Rows.{move-lawful, tale_before, tale_said}
use Rattle.lard_laws.specs.WaysState.{marks_at, marks_of}
use Rattle.lard_laws.specs.Ways.{BodyGoesOn, WayMarks}
use Rattle.lard_laws.proofs.WaysMarking.{marked, noted-marks, said-marks}
use Rattle.lard_laws.proofs.WaysMoving.{AskTo, AsksBy, LetterAsks}
use Rattle.lard_history.proofs.Each.{Each}
use Rattle.lard_journal.specs.declared.rec.Rec.TheVariants as rec
use Rattle.lard_law_view.proofs.OfKinds.{each-tells, gaves-unsent, notes-unsent, timers-unsent}
use Rattle.lard_law_view.proofs.RecordKinds.{IsUnsent}

-- ---- what may be seen

-- what a node sends to the front end, and did not send there before, goes on
abbrev pub NamesTo : FilesAt → ℕ → List Seen → Place → Place → List ℕ → Type 0
NamesTo files c past (Node n) Front bytes = (SentSeen (Node n) Front bytes past → ⊥) → (m : Message) → decoded_message bytes ≡ Ok m → BodyGoesOn files (marks_of (tale_of c past)) m.body
NamesTo files c past _ _ bytes = Unit {0}

abbrev pub Names : FilesAt → ℕ → List Seen → Rec → Type 0
Names files c past (rec.Sent k from to bytes) = NamesTo files c past from to bytes
Names files c past _ = Unit {0}

module _ (files : FilesAt) (x : Conn) where
  -- the same of a move: what was sent before the move, or goes on
  abbrev MayRow : Tale → Rec → Type 0
  MayRow t (rec.Sent k from to bytes) = AskTo files (marks_of t) x from to bytes
  MayRow t _ = Unit {0}

  abbrev TellsRows : Tale → List Rec → Type 0
  TellsRows t rs = TellsBy MayRow x.c t rs

  heads-may : (past heads : List Seen) → Each IsHead heads → EachRow (MayBeSeen MayRow x.c) past heads
  heads-may = heads-stand (MayBeSeen MayRow x.c) (λ past i e. tt) (λ past d isn iss wnd mss. tt)

  unsent-may : (t : Tale) (r : Rec) → IsUnsent r → MayRow t r
  unsent-may t (rec.Sent k from to bytes) h = absurd h
  unsent-may t _ h = tt

  unsents-may : (t : Tale) (rs : List Rec) → Each IsUnsent rs → TellsRows t rs
  unsents-may = each-tells IsUnsent MayRow unsent-may x.c

  -- ---- packets

  sent-may : (place : Place) (t : Tale) (ss : List (Place × List ℕ)) → AsksBy files (marks_of t) x place (map (letter place) ss) → TellsRows t (map (sending place) ss)
  sent-may place t [] h = tt
  sent-may Front t (s ∷ ss) h = (tt, sent-may Front (tale_step x.c t (sending Front s)) ss tt)
  sent-may (Node n) t (s ∷ ss) h = (h.0, sent-may (Node n) (tale_step x.c t (sending (Node n) s)) ss h.1)
  sent-may (Client d) t (s ∷ ss) h = (tt, sent-may (Client d) (tale_step x.c t (sending (Client d) s)) ss tt)

  both-ask : (m : WayMarks) (place : Place) (xs ys : List Letter) → AsksBy files m x place (xs ++ ys) → AsksBy files m x place xs × AsksBy files m x place ys
  both-ask m Front xs ys h = (tt, tt)
  both-ask m (Client d) xs ys h = (tt, tt)
  both-ask m (Node n) xs ys h = go xs h where
    go : (xs : List Letter) → Each (LetterAsks files m x) (xs ++ ys) → Each (LetterAsks files m x) xs × Each (LetterAsks files m x) ys
    go [] h = (tt, h)
    go (l ∷ xs) h = let rest = go xs h.1 in ((h.0, rest.0), rest.1)

  -- ---- a move

  module _ (v : Move) (own : IsItsOwn x v) (heads : Each IsHead v.heads) where
    pub move-may : AsksBy files (marked (marks_at x) v.said.notes) x v.place (letters_of v) → EachRow (MayBeSeen MayRow x.c) x.seen (seen_in x v)
    move-may h =
        let ss : List Letter = map (letter v.place) v.said.segments in
        let ms : List Letter = map (letter v.place) v.said.messages in
        let parts = both-ask (marked (marks_at x) v.said.notes) v.place ss ms h in
        move-lawful MayRow x v (heads-may x.seen v.heads heads) (unsents-may (tale_before x v) v.said.notes (notes-unsent v.place x.c v.said.notes own.notes))
        (sent-may v.place (told_on x.c (tale_before x v) v.said.notes) v.said.segments (subst (λ (m : WayMarks). AsksBy files m x v.place ss) (sym (noted-marks files x v own heads)) parts.0))
        (unsents-may _ v.said.gave (gaves-unsent v.place x.c v.said.gave own.gave))
        (sent-may v.place (tale_said x v (tale_before x v)) v.said.messages (subst (λ (m : WayMarks). AsksBy files m x v.place ms) (sym (said-marks files x v own heads)) parts.1))
        (unsents-may _ (timer_rows v.place x.c x.part v.part) (timers-unsent v.place x.c x.part v.part))

  -- ---- what was sent before the move was seen

  module _ (seen : AreSeen x) where
    abbrev Holds : List Seen → Type 0
    Holds past = (from to : Place) (bytes : List ℕ) → SentSeen from to bytes x.seen → SentSeen from to bytes past

    row-names : (past : List Seen) → Holds past → (r : Rec) → MayRow (tale_of x.c past) r → Names files x.c past r
    row-names past all (rec.Sent k (Node n) Front bytes) h = λ new m d. ⊎_elim
        (λ (was : Was x (Node n) Front bytes). absurd (new (all (Node n) Front bytes (seen (record { from = Node n; to = Front; bytes = bytes }) was))))
        (λ (f : (m : Message) → decoded_message bytes ≡ Ok m → BodyGoesOn files (marks_of (tale_of x.c past)) m.body). f m d) h
    row-names past all _ h = tt

    pub rows-name : (past ss : List Seen) → Holds past → EachRow (MayBeSeen MayRow x.c) past ss → EachRow (Names files x.c) past ss
    rows-name past [] all h = tt
    rows-name past (Row r ∷ ss) all h = (row-names past all r h.0, rows-name (past ++ Row r ∷ []) ss (λ from to bytes s. seen-before from to bytes past (Row r ∷ []) (all from to bytes s)) h.1)
    rows-name past (Came l ∷ ss) all h = rows-name (past ++ Came l ∷ []) ss (λ from to bytes s. seen-before from to bytes past (Came l ∷ []) (all from to bytes s)) h
