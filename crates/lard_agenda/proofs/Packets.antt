-- Packets on their way, as the journal tells them.
use Rattle.std.proofs.Common.{◌≡◌, ℕ, Bool, true, false, Some, None, ap, ◌∙◌, cond, nat_eq, is_some}
use Rattle.std.specs.FinMap.{contains_key, get-empty}
use Rattle.std.specs.Ordering.{nat_cmp}
use Rattle.lard_journal.specs.declared.rec.Rec.{Rec}
use Rattle.lard_journal.specs.declared.rec.Rec.TheVariants as rec
use Rattle.lard_agenda.specs.declared.agenda.Agenda.{Agenda}
use Rattle.lard_agenda.specs.Agenda.{agenda_of, noted_by, nothing_noted, way_step}
use Rattle.lard_agenda.specs.Laws.{AgendasTellPackets, way_flag}
use Rattle.lard_agenda.proofs.Folds.{always}
use Rattle.lard_agenda.proofs.Numbers.{has}

step : (k : ℕ) (a : Agenda) (was : Bool) (r : Rec) → contains_key a.way k ≡ was → contains_key (way_step a.way r) k ≡ way_flag k was r
step k a was (rec.Sent j from to bytes) h = has a.way j k (Some tt) ∙ ap (cond (nat_eq j k) true) h
step k a was (rec.Got j) h = has a.way j k None ∙ ap (cond (nat_eq j k) false) h
step k a was (rec.Lost j) h = has a.way j k None ∙ ap (cond (nat_eq j k) false) h
step k a was _ h = h

pub packets_are_told : AgendasTellPackets
unfolding agenda_of
packets_are_told J k = always (λ (a : Agenda) (was : Bool). contains_key a.way k ≡ was) noted_by (way_flag k) (step k) nothing_noted false J (ap is_some (get-empty nat_cmp k))
