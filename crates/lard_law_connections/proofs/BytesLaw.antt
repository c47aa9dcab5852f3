-- What a move owes that leaves its connection in agreement, and whose records are true.
use Rattle.std.specs.Prelude.{◌≡◌, ℕ, List, [], ◌∷◌, ◌++◌, Option, Some}
use Rattle.lard_law_view.specs.Prelude.{Came, Conn, EachRow, Event, FilesAt, IsConnNumber, IsConnSound, Move, Place, Rec, Row, Seen, Setting, grown, owner_step, seen_in, tale_at, tale_of}
use Rattle.lard_law_connections.specs.BytesAgreement.{IsTruthful}
use Rattle.lard_law_connections.specs.BytesRecords.{IsOwnedTrueAfter}
use Rattle.lard_law_connections.proofs.PlacesTurns.{IsPlaced, Owes}
use Rattle.lard_law_view.proofs.Fine.{IsItsOwn}
use Rattle.lard_history.proofs.Each.{Each}
use Rattle.lard_journal.specs.declared.rec.Rec.TheVariants as rec

-- what is seen before the notes of a move: an event, an opening, a packet as it comes
abbrev pub IsHead : Seen → Type 0
IsHead (Came l) = Unit {0}
IsHead (Row (rec.Event i e)) = Unit {0}
IsHead (Row (rec.Opened c isn iss wnd mss)) = Unit {0}
IsHead (Row _) = ⊥

-- so each row among them may stand, where any event and any opening may
pub heads-stand : (mine : List Seen → Rec → Type 0) → ((past : List Seen) (i : ℕ) (e : Event) → mine past (rec.Event i e))
    → ((past : List Seen) (c isn iss wnd mss : ℕ) → mine past (rec.Opened c isn iss wnd mss)) → (past heads : List Seen) → Each IsHead heads → EachRow mine past heads
heads-stand mine event opens past [] h = tt
heads-stand mine event opens past (Came l ∷ ss) h = heads-stand mine event opens (past ++ Came l ∷ []) ss h.1
heads-stand mine event opens past (Row (rec.Event i e) ∷ ss) h = (event past i e, heads-stand mine event opens (past ++ Row (rec.Event i e) ∷ []) ss h.1)
heads-stand mine event opens past (Row (rec.Opened c isn iss wnd mss) ∷ ss) h =
    (opens past c isn iss wnd mss, heads-stand mine event opens (past ++ Row (rec.Opened c isn iss wnd mss) ∷ []) ss h.1)
heads-stand mine event opens past (Row _ ∷ ss) h = absurd h.0

-- ---- who serves

-- who serves or resets a connection is its owner
abbrev pub ServesOwn : Option Place → Rec → Type 0
ServesOwn owner (rec.Served place c r code size via) = owner ≡ Some place
ServesOwn owner (rec.Reset place c total) = owner ≡ Some place
ServesOwn owner _ = Unit {0}

-- so it is of each of these records of connection c, where it is owned so before them
abbrev pub OwnerServes : ℕ → Option Place → List Rec → Type 0
OwnerServes c owner [] = Unit {0}
OwnerServes c owner (r ∷ rs) = ServesOwn owner r × OwnerServes c (owner_step c owner r) rs

-- ---- a move

-- What is known of a connection and of its move beside the bytes: the view has it of each rule, and the law of places.
pub record Helps (x : Conn) (v : Move) : Type 0 where
  pub number : IsConnNumber x.c
  pub sound : IsConnSound x
  pub placed : IsPlaced x
  pub owes : Owes x v
  pub own : IsItsOwn x v
  pub heads : Each IsHead v.heads
  pub serves : OwnerServes x.c (tale_at x).owner v.said.notes

-- what a connection sees of a record is true
abbrev pub IsSeenTrue : FilesAt → ℕ → List Seen → Rec → Type 0
IsSeenTrue files c past r = IsOwnedTrueAfter files c (tale_of c past) r

-- behind the move its connection agrees, and all that it sees of the move is true
abbrev pub IsTrueMove : FilesAt → Conn → Move → Type 0
IsTrueMove files x v = IsTruthful files (grown x v) × EachRow (IsSeenTrue files x.c) x.seen (seen_in x v)

-- the move leaves its connection in agreement, and tells the truth of it
abbrev pub StaysTruthful : Setting → Conn → Move → Type 0
StaysTruthful k x v = Helps x v → IsTruthful k.files x → IsTrueMove k.files x v
