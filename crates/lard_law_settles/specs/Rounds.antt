-- Which inner steps a settle has, in words of the journal alone: takes, and rounds as long as anything is left.
use Rattle.std.specs.Prelude.{ℕ, zero, suc, ◌+◌, ◌<◌, ◌≤◌, ◌≡◌, ◌≢◌, ◌⊎◌, ◌==◌, Bool, true, false, List, [], ◌∷◌, ◌++◌, length}
use Rattle.std.specs.List.{AllByRecursion}
use Rattle.lard_law_view.specs.Prelude.{Event, Rec}
use Rattle.lard_base.specs.declared.event.Event.TheVariants as event
use Rattle.lard_journal.specs.declared.rec.Rec.TheVariants as rec
use Rattle.lard_law_settles.specs.RoundsToDo.{completions_in, deliveries_in, firings_in, left_in, takes_in}
use Rattle.lard_settling.specs.Steps.{closing}

-- ---- steps

-- a record that begins no step and closes no settle
abbrev pub IsToldInStep : Rec → Type 0
IsToldInStep (rec.Event i e) = ⊥
IsToldInStep (rec.Inner e) = ⊥
IsToldInStep (rec.Settled done) = ⊥
IsToldInStep (rec.Unsettled done left) = ⊥
IsToldInStep _ = Unit {0}

-- Inner steps of these events lead from journal J to K, one after another: of each its record stands there, and what was told in it.
abbrev pub InnerSteps : List Event → List Rec → List Rec → Type 0
InnerSteps [] J K = K ≡ J
InnerSteps (e ∷ es) J K = (told : List Rec) × AllByRecursion IsToldInStep told × InnerSteps es (J ++ rec.Inner e ∷ told) K

-- ---- a round

-- node after node, so many of them, the first of which is n
abbrev pub CompletesInTurn : ℕ → ℕ → List Rec → List Rec → Type 0
CompletesInTurn n zero J K = K ≡ J
CompletesInTurn n (suc more) J K = (L : List Rec) × InnerSteps (completions_in J n) J L × CompletesInTurn (n + 1) more L K

-- the timers fire, or not
abbrev pub Fires : Bool → List Rec → List Rec → Type 0
Fires true J K = InnerSteps (firings_in J) J K
Fires false J K = K ≡ J

-- What is on its way is delivered, and jobs are completed; where the journal has grown by neither, the timers fire.
pub record IsRound (nodes : ℕ) (J K : List Rec) : Type 0 where
  pub delivered : List Rec
  pub deliveries : InnerSteps (deliveries_in J) J delivered
  pub completed : List Rec
  pub completions : CompletesInTurn 1 nodes delivered completed
  pub fires : Fires (length completed == length J) completed K

-- so many rounds, each where something is left
abbrev pub AreRounds : ℕ → ℕ → List Rec → List Rec → Type 0
AreRounds nodes zero J K = K ≡ J
AreRounds nodes (suc more) J K = (left_in nodes J ≢ 0) × ((L : List Rec) × IsRound nodes J L × AreRounds nodes more L K)

-- ---- a settle

-- The steps of a settle of `rounds` rounds behind its event, to its closing record: it was closed where nothing was left, or all rounds
-- were done; and that record tells how many were done, and what is left.
pub record IsWhole (nodes rounds : ℕ) (J K : List Rec) : Type 0 where
  pub taken : List Rec
  pub takes : InnerSteps (takes_in J) J taken
  pub done : ℕ
  pub last : List Rec
  pub are : AreRounds nodes done taken last
  pub few : done ≤ rounds
  pub over : (left_in nodes last ≡ 0) ⊎ (done ≡ rounds)
  pub closed : K ≡ last ++ closing done (left_in nodes last) ∷ []

-- ---- one in which the run ended

-- some of the steps, from the first on
abbrev pub SomeSteps : List Event → List Rec → List Rec → Type 0
SomeSteps es J K = (front : List Event) × (rest : List Event) × (es ≡ front ++ rest) × InnerSteps front J K

abbrev pub SomeCompletes : ℕ → ℕ → List Rec → List Rec → Type 0
SomeCompletes n zero J K = K ≡ J
SomeCompletes n (suc more) J K = SomeSteps (completions_in J n) J K ⊎ ((L : List Rec) × InnerSteps (completions_in J n) J L × SomeCompletes (n + 1) more L K)

abbrev pub SomeFire : Bool → List Rec → List Rec → Type 0
SomeFire true J K = SomeSteps (firings_in J) J K
SomeFire false J K = K ≡ J

-- some of a round
abbrev pub SomeOfRound : ℕ → List Rec → List Rec → Type 0
SomeOfRound nodes J K = SomeSteps (deliveries_in J) J K
    ⊎ ((L : List Rec) × InnerSteps (deliveries_in J) J L × (SomeCompletes 1 nodes L K ⊎ ((M : List Rec) × CompletesInTurn 1 nodes L M × SomeFire (length M == length J) M K)))

-- whole rounds, fewer than so many, and some of the next
pub record AreBegun (nodes rounds : ℕ) (J K : List Rec) : Type 0 where
  pub done : ℕ
  pub last : List Rec
  pub are : AreRounds nodes done J last
  pub few : done < rounds
  pub goes_on : left_in nodes last ≢ 0
  pub some : SomeOfRound nodes last K

-- some of a settle
abbrev pub IsBegun : ℕ → ℕ → List Rec → List Rec → Type 0
IsBegun nodes rounds J K = SomeSteps (takes_in J) J K ⊎ ((taken : List Rec) × InnerSteps (takes_in J) J taken × AreBegun nodes rounds taken K)

-- ---- a journal

-- from a settle's event, at the end of J, it leads to a journal on which more records follow; or it is begun, and ends with the last
abbrev pub StandsAt : ℕ → List Rec → Event → List Rec → Type 0
StandsAt nodes J (event.Settle rounds) rest = ((K : List Rec) × (more : List Rec) × (J ++ rest ≡ K ++ more) × IsWhole nodes rounds J K) ⊎ IsBegun nodes rounds J (J ++ rest)
StandsAt nodes J _ rest = Unit {0}

abbrev pub StandsBehind : ℕ → List Rec → Rec → List Rec → Type 0
StandsBehind nodes J (rec.Event i e) rest = StandsAt nodes J e rest
StandsBehind nodes J _ rest = Unit {0}

-- of each record behind others, where the cluster has so many nodes
abbrev pub SettlesTakeRounds : ℕ → List Rec → List Rec → Type 0
SettlesTakeRounds nodes past [] = Unit {0}
SettlesTakeRounds nodes past (r ∷ rest) = StandsBehind nodes (past ++ r ∷ []) r rest × SettlesTakeRounds nodes (past ++ r ∷ []) rest
