-- What became of each request of a batch: it takes the next of its connection's assignments once it started.
use Rattle.std.specs.Prelude.{◌≡◌, ◌≢◌, ℕ, List, [], ◌∷◌, Option, Some, None}
use Rattle.lard_law_view.specs.Prelude.{Entry, FilesAt, Progress, good_path}
use Rattle.lard_base.specs.declared.place.Via.TheVariants as via
use Rattle.lard_laws.specs.Ways.{ComesFrom}
use Rattle.lard_rules.specs.declared.stay.Progress.TheVariants as progress

-- an assignment: a path, and its node
abbrev pub Assigned : Type 0
Assigned = List ℕ × ℕ

-- A request that was assigned to this node started: its content is read at home, or is awaited from that node, or came from where it
-- should.
abbrev pub IsStarted : ℕ → ℕ → Progress → Type 0
IsStarted home node progress.Named = ⊥
IsStarted home node progress.Reading = node ≡ home
IsStarted home node (progress.Awaited from) = (from ≡ node) × (node ≢ home)
IsStarted home node (progress.Ready way) = ComesFrom home node way

-- it takes the first of these
abbrev pub TakesFirstAssigned : ℕ → List ℕ → Progress → (List Assigned → Type 0) → List Assigned → Type 0
TakesFirstAssigned home path p later [] = ⊥
TakesFirstAssigned home path p later (g ∷ gs) = (g.0 ≡ path) × IsStarted home g.1 p × later gs

-- A good request that has no node yet is one of those that an Ask names; none behind it has one.
abbrev pub LiesGood : ℕ → List ℕ → Progress → (List Assigned → Type 0) → List Assigned → Type 0
LiesGood home path progress.Named later us = (us ≡ []) × later []
LiesGood home path progress.Reading later us = TakesFirstAssigned home path progress.Reading later us
LiesGood home path (progress.Awaited from) later us = TakesFirstAssigned home path (progress.Awaited from) later us
LiesGood home path (progress.Ready way) later us = TakesFirstAssigned home path (progress.Ready way) later us

abbrev pub Lies : ℕ → Progress → (List Assigned → Type 0) → List Assigned → Option (List ℕ) → Type 0
Lies home p later us None = (p ≡ progress.Ready via.Own) × later us
Lies home p later us (Some path) = LiesGood home path p later us

-- the requests of a batch, in order, with the assignments of those that started
abbrev pub Under : FilesAt → ℕ → List Entry → List Assigned → Type 0
Under files home [] us = us ≡ []
Under files home (e ∷ es) us = Lies home e.progress (λ gs. Under files home es gs) us (good_path files e.verdict)
