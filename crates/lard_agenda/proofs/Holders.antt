-- Clients that hold, as the journal tells them.
use Rattle.std.proofs.Common.{◌≡◌, ℕ, Bool, true, false, Option, Some, None, refl, sym, ap, ◌∙◌, cond, nat_eq}
use Rattle.std.specs.FinMap.{FinMap, get, get-empty}
use Rattle.std.specs.Ordering.{nat_cmp}
use Rattle.lard_base.specs.declared.event.Event.{Event}
use Rattle.lard_base.specs.declared.event.Event.TheVariants as event
use Rattle.lard_history.proofs.Seeing.{by_number, other_number, same_number}
use Rattle.lard_journal.specs.declared.rec.Rec.{Rec}
use Rattle.lard_journal.specs.declared.rec.Rec.TheVariants as rec
use Rattle.lard_agenda.specs.declared.agenda.Agenda.{Agenda}
use Rattle.lard_agenda.specs.Agenda.{agenda_of, held_by, held_step, noted_by, nothing_noted}
use Rattle.lard_agenda.specs.Laws.{AgendasTellHolders, event_flag, holds_flag}
use Rattle.lard_agenda.proofs.Folds.{always}
use Rattle.lard_agenda.proofs.Numbers.{found}

module _ (c : ℕ) where
  -- what is kept of the client, where it holds
  abbrev self_if : Bool → Option ℕ
  self_if holds = cond holds (Some c) None

  held : (m : FinMap nat_cmp ℕ) (was : Bool) (d : ℕ) → get m c ≡ self_if was → cond (nat_eq d c) (Some d) (get m c) ≡ self_if (cond (nat_eq d c) true was)
  held m was d h = by_number _ d c
      (λ same. ap (λ b. cond b (Some d) (get m c)) (is same) ∙ ap Some same ∙ sym (ap (λ b. self_if (cond b true was)) (is same)))
      (λ other. ap (λ b. cond b (Some d) (get m c)) (other_number d c other) ∙ h ∙ sym (ap (λ b. self_if (cond b true was)) (other_number d c other))) where
        is : d ≡ c → nat_eq d c ≡ true
        is same = ap (λ k. nat_eq k c) same ∙ same_number c

  left : (t : Bool) (o : Option ℕ) (was : Bool) → o ≡ self_if was → cond t None o ≡ self_if (cond t false was)
  left true o was h = refl
  left false o was h = h

  heard : (m : FinMap nat_cmp ℕ) (was : Bool) (e : Event) → get m c ≡ self_if was → get (held_by m e) c ≡ self_if (event_flag c was e)
  heard m was (event.Hold d) h = found m d c (Some d) ∙ held m was d h
  heard m was (event.Take d) h = found m d c None ∙ left (nat_eq d c) (get m c) was h
  heard m was _ h = h

  step : (a : Agenda) (was : Bool) (r : Rec) → get a.held c ≡ self_if was → get (held_step a.held r) c ≡ self_if (holds_flag c was r)
  step a was (rec.Event i e) h = heard a.held was e h
  step a was (rec.Inner e) h = heard a.held was e h
  step a was _ h = h

pub holders_are_told : AgendasTellHolders
unfolding agenda_of
holders_are_told J c = always (λ (a : Agenda) (was : Bool). get a.held c ≡ self_if c was) noted_by (holds_flag c) (step c) nothing_noted false J (get-empty nat_cmp c)
