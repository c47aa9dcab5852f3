-- What a step rests on, and what it comes to.
use Rattle.std.specs.Prelude.{ℕ, List, Option, Some, None}
use Rattle.lard_files.specs.Files.{file_at}
use Rattle.lard_rules.specs.declared.front.FrontState.{FrontState}
use Rattle.lard_rules.specs.declared.front.FrontTurn.{FrontTurn}
use Rattle.lard_rules.specs.Front.{FrontPart}
use Rattle.lard_rules.specs.FrontPlace.{FrontSetting, front_part, front_put, in_order, front_joined, front_out_of, front_timers}
use Rattle.lard_front.specs.declared.step.Setting.{Setting}
use Rattle.lard_journal.specs.declared.rec.Rec.{Rec}
use Rattle.lard_rules.specs.declared.places.Out.{Out}

abbrev pub front_setting_seen : Setting → FrontSetting
front_setting_seen k = record { files = file_at k.files.now; stream = k.stream; now = k.now }

-- behind this turn of connection c, whose timers changed so, the head d is handed off as well
abbrev pub head_too : FrontState → FrontTurn → List Rec → ℕ → ℕ → Option (FrontPart × FrontTurn) → FrontState × Out
head_too s turn timers c d None = (s, front_out_of turn timers)
head_too s turn timers c d (Some y) = (front_put s d y.0, front_out_of (front_joined turn y.1) (in_order c d timers (front_timers d (front_part s d) y.0)))
