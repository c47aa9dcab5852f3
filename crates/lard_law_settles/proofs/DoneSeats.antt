-- A timer that runs is at a seat of its own, where each record of a timer names such a seat.
use Rattle.std.proofs.Common.{◌≡◌, ℕ, Bool, true, false, ◌&&◌, cond, List, [], ◌∷◌, refl, subst}
use Rattle.std.proofs.lemmas.Bool.{and_parts, both_ways}
use Rattle.std.specs.List.{AllByRecursion, fold}
use Rattle.std.specs.Prelude.{nat_eq}
use Rattle.lard_agenda.specs.Laws.{IsSeated, NamesSeat}
use Rattle.lard_law_view.specs.Prelude.{Place, Rec, TimerKind, armed_step, is_kind, is_place, is_running}
use Rattle.lard_history.proofs.Seeing.{by_number, other_number}
use Rattle.lard_journal.specs.declared.rec.Rec.TheVariants as rec
use Rattle.lard_law_view.proofs.TimerChanges.{place-is}

number-is : (d c : ℕ) → nat_eq d c ≡ true → d ≡ c
number-is d c e = by_number (d ≡ c) d c (λ same. same) (λ other. absurd (both_ways (nat_eq d c) (other_number d c other) e))

module _ (p : Place) (c : ℕ) (kind : TimerKind) where
  -- a record of this timer names its seat
  named : (q : Place) (d : ℕ) (k : TimerKind) → IsSeated q d → (is_place q p && (nat_eq d c && is_kind k kind)) ≡ true → IsSeated p c
  named q d k seated its =
      let parts = and_parts (is_place q p) (nat_eq d c && is_kind k kind) its in
      let number = (and_parts (nat_eq d c) (is_kind k kind) parts.1).0 in
      subst (λ (n : ℕ). IsSeated p n) (number-is d c number) (subst (λ (r : Place). IsSeated r d) (place-is q p parts.0) seated)

  set-seated : (was on its : Bool) → (was ≡ true → IsSeated p c) → (its ≡ true → IsSeated p c) → cond its on was ≡ true → IsSeated p c
  set-seated was on true before now runs = now refl
  set-seated was on false before now runs = before runs

  step-seated : (was : Bool) (r : Rec) → (was ≡ true → IsSeated p c) → NamesSeat r → armed_step p c kind was r ≡ true → IsSeated p c
  step-seated was (rec.Armed q d k) before seated runs = set-seated was true (is_place q p && (nat_eq d c && is_kind k kind)) before (named q d k seated) runs
  step-seated was (rec.Cleared q d k) before seated runs = set-seated was false (is_place q p && (nat_eq d c && is_kind k kind)) before (named q d k seated) runs
  step-seated was _ before seated runs = before runs

  fold-seated : (was : Bool) (J : List Rec) → (was ≡ true → IsSeated p c) → AllByRecursion NamesSeat J → fold (armed_step p c kind) was J ≡ true → IsSeated p c
  fold-seated was [] before all runs = before runs
  fold-seated was (r ∷ J) before all runs = fold-seated (armed_step p c kind was r) J (step-seated was r before all.0) all.1 runs

  pub running-seated : (J : List Rec) → AllByRecursion NamesSeat J → is_running J p c kind ≡ true → IsSeated p c
  running-seated J all runs = fold-seated false J (λ on. absurd (both_ways false refl on)) all runs
