-- A record of a connection that the schedule did not touch, and records that each may stand by what is told before them.
use Rattle.std.specs.Prelude.{◌≡◌, ℕ, false, List, [], ◌∷◌}
use Rattle.lard_history.specs.Journal.{Tale, tale_step}
use Rattle.lard_history.specs.Own.{Seen, tale_of}
use Rattle.lard_journal.specs.declared.rec.Rec.{Rec}

-- ---- laws of connections that the schedule did not touch

-- a record may stand where it does, as long as the schedule did not touch the connection
abbrev pub WhileUntouched : (ℕ → List Seen → Rec → Type 0) → ℕ → List Seen → Rec → Type 0
WhileUntouched mine c past r = (tale_of c past).touched ≡ false → mine c past r

-- each record may stand where this is told of the connection
abbrev pub TellsBy : (Tale → Rec → Type 0) → ℕ → Tale → List Rec → Type 0
TellsBy may c t [] = Unit {0}
TellsBy may c t (r ∷ rs) = may t r × TellsBy may c (tale_step c t r) rs
