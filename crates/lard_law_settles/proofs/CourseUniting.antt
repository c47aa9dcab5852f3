-- What each rule owes within a settle, all of it: no unit comes back, what comes of a packet is shorter and nearer, and the first timer of
-- those that are due sends what is near.
use Rattle.std.proofs.Common.{ℕ}
use Rattle.lard_bound.specs.Units.{Whole}
use Rattle.lard_law_view.specs.Prelude.{Conn, Move, Rules, Setting}
use Rattle.lard_law_view.proofs.Guarded.{both, weaker}
use Rattle.lard_law_settles.proofs.CourseOwing.{Owed}
use Rattle.lard_law_settles.proofs.CourseTimingRules.{Timed, TimersKnown, rules-begin}
use Rattle.lard_law_progress.proofs.Leading.{AllGiven, Comes, OwesAll, rules-lead}

-- what is given of a connection between two steps
abbrev pub Known : Setting → (ℕ → Whole) → Conn → Type 0
Known k all x = AllGiven k all x × TimersKnown k x

module _ (k : Setting) (all : ℕ → Whole) where
  abbrev Both : Conn → Move → Type 0
  Both x v = OwesAll k all x v × Timed k all x v

  timed : Rules k (Timed k all)
  timed = record { untouched = rules-begin k all; injects = λ x s bytes is rule known lasts p heads. absurd cc }

  unite : (x : Conn) (v : Move) → Both x v → Owed (Known k all) Comes all k x v
  unite x v (owes, begins) m after comes =
      let l = owes (record { number = m.number; sound = m.sound; given = m.given.0 }) after.0 comes in
      record { lasts = l.lasts; answers = l.answers; alone = record { admits = l.admits; works = l.works }; fires = begins m.given.1 l.lasts }

  pub rules-owe : Rules k (Owed (Known k all) Comes all k)
  rules-owe = weaker k Both (Owed (Known k all) Comes all k) unite (both k (OwesAll k all) (Timed k all) (rules-lead k all) timed)
