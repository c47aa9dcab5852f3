-- What each turn leaves to be done on its connection: no more than there was.
use Rattle.std.specs.Prelude.{ℕ, ◌+◌, ◌≤◌, ◌≡◌}
use Rattle.lard_law_view.specs.Prelude.{ClientBlock, FilesAt, Part, Said, Station, client_after_timer, client_arrived, client_speaks, with_station}
use Rattle.lard_bound.specs.Spots.{spot_of}
use Rattle.lard_bound.specs.Units.{Whole, left_with, symbols_taken}

abbrev pub with_client : Station → ClientBlock → Station
with_client st y = record { client = y; iss = st.iss }

-- Behind a turn that leaves this client no unit came back; and where none went, all is as it was that decides what comes of a packet. The
-- client knows of no more than it has, and took no more than there is.
abbrev pub LeavesNoMore : ClientBlock → Whole → ℕ → FilesAt → Part → Station → Type 0
LeavesNoMore y k nodes files p st = y.send.una ≤ k.written + 2 → symbols_taken y ≤ k.answers + 2
    → (left_with k nodes (with_station p (with_client st y)) (with_client st y) ≤ left_with k nodes p st)
    × (left_with k nodes p st ≤ left_with k nodes (with_station p (with_client st y)) (with_client st y) → spot_of files (with_station p (with_client st y)) (with_client st y) ≡ spot_of files p st)

-- a client that hears a segment, and one whose timer fires
abbrev pub ClientsLeaveNoMore : Type 0
ClientsLeaveNoMore = (k : Whole) (nodes : ℕ) (files : FilesAt) (p : Part) (st : Station) →
    ((s : Said) → LeavesNoMore (client_speaks (client_arrived st.client s).1).1 k nodes files p st) × LeavesNoMore (client_speaks (client_after_timer st.client)).1 k nodes files p st
