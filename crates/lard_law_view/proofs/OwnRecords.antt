-- What stands directly behind an event, of whatever connection.
use Rattle.std.proofs.Common.{◌≡◌, ℕ, ◌-◌, List, [], ◌∷◌}
use Rattle.lard_law_view.specs.Prelude.{Event, Rec}
use Rattle.lard_base.specs.declared.event.Event.TheVariants as event
use Rattle.lard_journal.specs.declared.rec.Rec.TheVariants as rec

-- ---- the shapes

-- what stands directly behind an event, of whatever connection
abbrev pub behind : Event → List Rec
behind (event.Open c isn iss wnd mss) = rec.Opened c isn iss wnd mss ∷ []
behind (event.Deliver k) = rec.Got k ∷ []
behind (event.Lose k) = rec.Lost k ∷ []
behind (event.Inject c bytes) = rec.Injected c ∷ []
behind _ = []

-- the event closes a node
abbrev pub IsDrain : Event → Type 0
IsDrain (event.Drain n) = Unit {0}
IsDrain _ = ⊥

-- it closes no node
abbrev pub IsNoClosing : Rec → Type 0
IsNoClosing (rec.Closed n) = ⊥
IsNoClosing _ = Unit {0}

-- it stands behind an event that names connection c, and says nothing of packets
abbrev pub IsAside : ℕ → Rec → Type 0
IsAside c (rec.Opened d isn iss wnd mss) = d ≡ c
IsAside c (rec.Injected d) = d ≡ c
IsAside c _ = ⊥
