-- What a connection sees of a move may stand, by what the move says.
use Rattle.std.proofs.Common.{◌≡◌, ℕ, List, [], ◌∷◌, ◌++◌, map, ap, ◌∙◌, sym, subst, ⊎_elim, Ok}
use Rattle.lard_law_view.specs.Prelude.{Came, Client, Conn, EachRow, FilesAt, Front, Message, Move, Node, Place, Rec, Row, Seen, Tale, Was, decoded_message, seen_in, tale, tale_of, tale_step, timer_rows, told_on}
use Rattle.lard_law_connections.proofs.BytesLaw.{IsHead, heads-stand}
use Rattle.lard_law_connections.proofs.BytesTold.{Bytes, bytes_of, move-bytes}
use Rattle.lard_law_connections.specs.Offers.{BodyCarries}
use Rattle.lard_law_connections.proofs.OffersRules.{SaysTruth}
use Rattle.lard_law_connections.proofs.OffersSaying.{AllMayGo, GoesFirst, MayGo}
use Rattle.lard_law_connections.proofs.OffersSent.{AreSeen, SentSeen, seen-before}
use Rattle.lard_law_view.specs.Carry.{TellsBy}
use Rattle.lard_law_view.specs.View.{sending}
use Rattle.lard_law_view.proofs.Fine.{IsItsOwn}
use Rattle.lard_law_view.proofs.Rows.{grown-tale, move-lawful, tale_before, tale_said}
use Rattle.lard_history.proofs.Each.{Each}
use Rattle.lard_journal.specs.declared.rec.Rec.TheVariants as rec
use Rattle.lard_law_view.proofs.RowLists.{MayBeSeen}
use Rattle.lard_law_view.proofs.OfKinds.{each-tells, gaves-unsent, notes-unsent, timers-unsent}
use Rattle.lard_law_view.proofs.RecordKinds.{IsUnsent}

-- ---- what may be seen

-- what did not go there before carries what is told
abbrev pub FirstMine : FilesAt → ℕ → List Seen → Place → Place → List ℕ → Type 0
FirstMine files c past from to bytes = (SentSeen from to bytes past → ⊥) → (J : List Rec) → tale J c ≡ tale_of c past → (m : Message) → decoded_message bytes ≡ Ok m → BodyCarries files J c m.body

-- from the front end to a node, and from a node to the front end
abbrev pub MineTo : FilesAt → ℕ → List Seen → Place → Place → List ℕ → Type 0
MineTo files c past Front (Node n) bytes = FirstMine files c past Front (Node n) bytes
MineTo files c past (Node n) Front bytes = FirstMine files c past (Node n) Front bytes
MineTo files c past _ _ bytes = Unit {0}

abbrev pub Mine : FilesAt → ℕ → List Seen → Rec → Type 0
Mine files c past (rec.Sent k from to bytes) = MineTo files c past from to bytes
Mine files c past _ = Unit {0}

module _ (files : FilesAt) (x : Conn) where
  -- the same of a move: it was sent before the move, or carries what is told
  abbrev MayRow : Tale → Rec → Type 0
  MayRow t (rec.Sent k from to bytes) = MayGo files x (bytes_of t) from to bytes
  MayRow t _ = Unit {0}

  abbrev TellsRows : Tale → List Rec → Type 0
  TellsRows t rs = TellsBy MayRow x.c t rs

  heads-may : (past heads : List Seen) → Each IsHead heads → EachRow (MayBeSeen MayRow x.c) past heads
  heads-may = heads-stand (MayBeSeen MayRow x.c) (λ past i e. tt) (λ past d isn iss wnd mss. tt)

  unsent-may : (t : Tale) (r : Rec) → IsUnsent r → MayRow t r
  unsent-may t (rec.Sent k from to bytes) h = absurd h
  unsent-may t _ h = tt

  unsents-may : (t : Tale) (rs : List Rec) → Each IsUnsent rs → TellsRows t rs
  unsents-may = each-tells IsUnsent MayRow unsent-may x.c

  -- ---- packets

  sent-may : (place : Place) (t : Tale) (ss : List (Place × List ℕ)) → AllMayGo files x (bytes_of t) place ss → TellsRows t (map (sending place) ss)
  sent-may place t [] h = tt
  sent-may place t (s ∷ ss) h = (h.0, sent-may place (tale_step x.c t (sending place s)) ss h.1)

  -- ---- a move

  module _ (v : Move) (own : IsItsOwn x v) (heads : Each IsHead v.heads) (says : SaysTruth files x v) where
    abbrev noted : Tale
    noted = told_on x.c (tale_before x v) v.said.notes

    -- what is given up tells nothing of bytes
    same-bytes : bytes_of noted ≡ bytes_of (tale_said x v (tale_before x v))
    same-bytes = sym (sym (ap bytes_of (grown-tale x v own.messages)) ∙ move-bytes x v own.messages own.gave)

    pub move-may : EachRow (MayBeSeen MayRow x.c) x.seen (seen_in x v)
    move-may = move-lawful MayRow x v (heads-may x.seen v.heads heads) (unsents-may (tale_before x v) v.said.notes (notes-unsent v.place x.c v.said.notes own.notes))
        (sent-may v.place noted v.said.segments says.0)
        (unsents-may _ v.said.gave (gaves-unsent v.place x.c v.said.gave own.gave))
        (sent-may v.place (tale_said x v (tale_before x v)) v.said.messages (subst (λ (b : Bytes). AllMayGo files x b v.place v.said.messages) same-bytes says.1))
        (unsents-may _ (timer_rows v.place x.c x.part v.part) (timers-unsent v.place x.c x.part v.part))

  -- ---- what was sent before the move was seen

  module _ (seen : AreSeen x) where
    abbrev Holds : List Seen → Type 0
    Holds past = (from to : Place) (bytes : List ℕ) → SentSeen from to bytes x.seen → SentSeen from to bytes past

    first-mine : (past : List Seen) → Holds past → (from to : Place) (bytes : List ℕ) → GoesFirst files x (bytes_of (tale_of x.c past)) from to bytes → FirstMine files x.c past from to bytes
    first-mine past all from to bytes h new J is m d = ⊎_elim
        (λ (was : Was x from to bytes). absurd (new (all from to bytes (seen (record { from = from; to = to; bytes = bytes }) was))))
        (λ (f : (J : List Rec) → bytes_of (tale J x.c) ≡ bytes_of (tale_of x.c past) → (m : Message) → decoded_message bytes ≡ Ok m → BodyCarries files J x.c m.body). f J (ap bytes_of is) m d) h

    row-mine : (past : List Seen) → Holds past → (r : Rec) → MayRow (tale_of x.c past) r → Mine files x.c past r
    row-mine past all (rec.Sent k Front (Node n) bytes) h = first-mine past all Front (Node n) bytes h
    row-mine past all (rec.Sent k Front Front bytes) h = tt
    row-mine past all (rec.Sent k Front (Client d) bytes) h = tt
    row-mine past all (rec.Sent k (Node n) Front bytes) h = first-mine past all (Node n) Front bytes h
    row-mine past all (rec.Sent k (Node n) (Node m) bytes) h = tt
    row-mine past all (rec.Sent k (Node n) (Client d) bytes) h = tt
    row-mine past all (rec.Sent k (Client d) to bytes) h = tt
    row-mine past all _ h = tt

    pub rows-mine : (past ss : List Seen) → Holds past → EachRow (MayBeSeen MayRow x.c) past ss → EachRow (Mine files x.c) past ss
    rows-mine past [] all h = tt
    rows-mine past (Row r ∷ ss) all h = (row-mine past all r h.0, rows-mine (past ++ Row r ∷ []) ss (λ from to bytes s. seen-before from to bytes past (Row r ∷ []) (all from to bytes s)) h.1)
    rows-mine past (Came l ∷ ss) all h = rows-mine (past ++ Came l ∷ []) ss (λ from to bytes s. seen-before from to bytes past (Came l ∷ []) (all from to bytes s)) h
