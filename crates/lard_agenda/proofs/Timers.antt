-- Timers that run, as the journal tells them.
use Rattle.std.proofs.Common.{◌≡◌, ◌≢◌, ℕ, Bool, true, false, not, ◌&&◌, ◌||◌, Some, None, refl, sym, ap, ◌∙◌, cond, nat_eq, arith}
use Rattle.std.proofs.lemmas.Bool.{both_ways}
use Rattle.std.specs.FinMap.{FinMap, get, get-empty}
use Rattle.std.specs.Ordering.{nat_cmp}
use Rattle.lard_base.specs.declared.place.Place.{Place}
use Rattle.lard_base.specs.declared.place.Place.TheVariants.{Front, Node, Client}
use Rattle.lard_base.specs.declared.place.TimerKind.{TimerKind}
use Rattle.lard_base.specs.declared.place.TimerKind.TheVariants.{Tcp, Offer, Ask, Fetch, Ended, Give}
use Rattle.lard_history.specs.Journal.{armed_step, is_kind, is_place}
use Rattle.lard_history.proofs.Seeing.{by_number, other_number, same_number}
use Rattle.lard_journal.specs.declared.rec.Rec.{Rec}
use Rattle.lard_journal.specs.declared.rec.Rec.TheVariants as rec
use Rattle.lard_agenda.specs.declared.agenda.Agenda.{Agenda}
use Rattle.lard_agenda.specs.declared.kinds.Kinds.{Kinds}
use Rattle.lard_agenda.specs.declared.kinds.Running.{Running}
use Rattle.lard_agenda.specs.Agenda.{agenda_of, entry, noted_by, nothing_noted, place_number, running_step, seat, timer_set}
use Rattle.lard_agenda.specs.Kinds.{is_none, kinds_of, no_kinds, runs, with_timer}
use Rattle.lard_agenda.specs.Laws.{AgendasTellTimers, IsSeated, IsSeatedPlace, NamesSeat}
use Rattle.lard_agenda.proofs.Folds.{side_by_side}
use Rattle.lard_agenda.proofs.Numbers.{found}

-- ---- kinds

with-runs : (k kind : TimerKind) (on : Bool) (kinds : Kinds) → runs kind (with_timer kinds k on) ≡ cond (is_kind k kind) on (runs kind kinds)
with-runs Tcp Tcp on kinds = refl
with-runs Offer Offer on kinds = refl
with-runs Ask Ask on kinds = refl
with-runs Fetch Fetch on kinds = refl
with-runs Ended Ended on kinds = refl
with-runs Give Give on kinds = refl
with-runs _ _ on kinds = refl

nor : (a b : Bool) → not (a || b) ≡ true → (a ≡ false) × (not b ≡ true)
nor true b h = absurd (both_ways false refl h)
nor false b h = (refl, h)

none-runs : (kind : TimerKind) (kinds : Kinds) → is_none kinds ≡ true → runs kind kinds ≡ false
none-runs kind kinds h =
    let no_tcp = nor kinds.tcp (kinds.offer || (kinds.ask || (kinds.fetch || (kinds.ended || kinds.give)))) h in
    let no_offer = nor kinds.offer (kinds.ask || (kinds.fetch || (kinds.ended || kinds.give))) no_tcp.1 in
    let no_ask = nor kinds.ask (kinds.fetch || (kinds.ended || kinds.give)) no_offer.1 in
    let no_fetch = nor kinds.fetch (kinds.ended || kinds.give) no_ask.1 in
    let no_ended = nor kinds.ended kinds.give no_fetch.1 in
    by kind (no_tcp.0, no_offer.0, no_ask.0, no_fetch.0, no_ended.0, off kinds.give no_ended.1) where
      off : (b : Bool) → not b ≡ true → b ≡ false
      off true e = sym e
      off false e = refl

      by : (kind : TimerKind)
          → (kinds.tcp ≡ false) × (kinds.offer ≡ false) × (kinds.ask ≡ false) × (kinds.fetch ≡ false) × (kinds.ended ≡ false) × (kinds.give ≡ false)
          → runs kind kinds ≡ false
      by Tcp all = all.0
      by Offer all = all.1
      by Ask all = all.2
      by Fetch all = all.3
      by Ended all = all.4
      by Give all = all.5

-- what is kept tells the kinds
entry-runs : (p : Place) (c : ℕ) (kind : TimerKind) (kinds : Kinds) → runs kind (kinds_of (entry p c kinds)) ≡ runs kind kinds
entry-runs p c kind kinds = go (is_none kinds) refl where
  off : (kind : TimerKind) → runs kind no_kinds ≡ false
  off Tcp = refl
  off Offer = refl
  off Ask = refl
  off Fetch = refl
  off Ended = refl
  off Give = refl

  go : (b : Bool) → is_none kinds ≡ b → runs kind (kinds_of (cond b None (Some (record { place = p; c = c; kinds = kinds })))) ≡ runs kind kinds
  go true e = off kind ∙ sym (none-runs kind kinds e)
  go false e = refl

-- ---- seats

place-of : (q p : Place) → IsSeatedPlace q → IsSeatedPlace p → place_number q ≡ place_number p → q ≡ p
place-of Front Front h g e = refl
place-of Front (Node n) h g e = absurd (omega (arith, g.0, e))
place-of Front (Client c) h g e = absurd (omega (arith, g, e))
place-of (Node n) Front h g e = absurd (omega (arith, h.0, e))
place-of (Node n) (Node m) h g e = ap Node e
place-of (Node n) (Client c) h g e = absurd (omega (arith, h.1, g, e))
place-of (Client c) Front h g e = absurd (omega (arith, h, e))
place-of (Client c) (Node m) h g e = absurd (omega (arith, g.1, h, e))
place-of (Client c) (Client d) h g e = ap Client (omega (arith, e))

-- a seat is of one place and one connection
pub one_seat : (q p : Place) (d c : ℕ) → IsSeated q d → IsSeated p c → seat q d ≡ seat p c → (q ≡ p) × (d ≡ c)
one_seat q p d c h g e = (place-of q p h.0 g.0 (omega (arith, h.1, g.1, e)), omega (arith, h.1, g.1, e))

same_place : (p : Place) → is_place p p ≡ true
same_place Front = refl
same_place (Node n) = same_number n
same_place (Client c) = same_number c

pub number-is : (d c : ℕ) → nat_eq d c ≡ true → d ≡ c
number-is d c e = by_number (d ≡ c) d c (λ same. same) (λ n. absurd (both_ways (nat_eq d c) (other_number d c n) e))

place-is : (q p : Place) → is_place q p ≡ true → q ≡ p
place-is Front Front e = refl
place-is (Node n) (Node m) e = ap Node (number-is n m e)
place-is (Client c) (Client d) e = ap Client (number-is c d e)
place-is _ _ e = absurd (both_ways false refl e)

-- two have one seat where place and connection are the same
seat_test : (q p : Place) (d c : ℕ) → IsSeated q d → IsSeated p c → nat_eq (seat q d) (seat p c) ≡ (is_place q p && nat_eq d c)
seat_test q p d c h g = by_number _ (seat q d) (seat p c)
    (λ e. let is = one_seat q p d c h g e in
    ap (λ n. nat_eq n (seat p c)) e ∙ same_number (seat p c)
    ∙ sym (ap (λ (r : Place). is_place r p && nat_eq d c) is.0 ∙ ap (λ b. b && nat_eq d c) (same_place p) ∙ ap (λ n. nat_eq n c) is.1 ∙ same_number c))
    (λ n. other_number (seat q d) (seat p c) n ∙ sym (go (is_place q p) (nat_eq d c) refl refl n)) where
      go : (s t : Bool) → is_place q p ≡ s → nat_eq d c ≡ t → seat q d ≢ seat p c → (s && t) ≡ false
      go true true e f n = absurd (n (ap (λ (r : Place). seat r d) (place-is q p e) ∙ ap (seat p) (number-is d c f)))
      go true false e f n = refl
      go false t e f n = refl

-- ---- one record

module _ (p : Place) (c : ℕ) (kind : TimerKind) where
  abbrev told : FinMap nat_cmp Running → Bool
  told running = runs kind (kinds_of (get running (seat p c)))

  -- the seat's entry is the one of this place and connection, or another's and nothing changes
  chosen : (q : Place) (d : ℕ) (k : TimerKind) (on was : Bool) (running : FinMap nat_cmp Running) (s t : Bool) → is_place q p ≡ s → nat_eq d c ≡ t → told running ≡ was
      → runs kind (kinds_of (cond (s && t) (entry q d (with_timer (kinds_of (get running (seat q d))) k on)) (get running (seat p c)))) ≡ cond (s && (t && is_kind k kind)) on was
  chosen q d k on was running true true e f h =
      entry-runs q d kind (with_timer (kinds_of (get running (seat q d))) k on) ∙ with-runs k kind on (kinds_of (get running (seat q d)))
      ∙ ap (cond (is_kind k kind) on) (ap (λ n. runs kind (kinds_of (get running n))) (ap (λ (r : Place). seat r d) (place-is q p e) ∙ ap (seat p) (number-is d c f)) ∙ h)
  chosen q d k on was running true false e f h = h
  chosen q d k on was running false t e f h = h

  set : (q : Place) (d : ℕ) (k : TimerKind) (on was : Bool) (running : FinMap nat_cmp Running) → IsSeated q d → IsSeated p c → told running ≡ was
      → told (timer_set running q d k on) ≡ cond (is_place q p && (nat_eq d c && is_kind k kind)) on was
  set q d k on was running g here h =
      ap (λ o. runs kind (kinds_of o)) (found running (seat q d) (seat p c) (entry q d (with_timer (kinds_of (get running (seat q d))) k on)))
      ∙ ap (λ b. runs kind (kinds_of (cond b (entry q d (with_timer (kinds_of (get running (seat q d))) k on)) (get running (seat p c))))) (seat_test q p d c g here)
      ∙ chosen q d k on was running (is_place q p) (nat_eq d c) refl refl h

  step : IsSeated p c → (a : Agenda) (was : Bool) (r : Rec) → NamesSeat r → told a.running ≡ was → told (running_step a.running r) ≡ armed_step p c kind was r
  step here a was (rec.Armed q d k) g h = set q d k true was a.running g here h
  step here a was (rec.Cleared q d k) g h = set q d k false was a.running g here h
  step here a was _ g h = h

pub none-told : (kind : TimerKind) → runs kind no_kinds ≡ false
none-told Tcp = refl
none-told Offer = refl
none-told Ask = refl
none-told Fetch = refl
none-told Ended = refl
none-told Give = refl

pub timers_are_told : AgendasTellTimers
unfolding agenda_of
timers_are_told J p c kind all here = side_by_side (λ (a : Agenda) (was : Bool). told p c kind a.running ≡ was) NamesSeat noted_by (armed_step p c kind) (step p c kind here) nothing_noted false J all
    (ap (λ o. runs kind (kinds_of o)) (get-empty nat_cmp (seat p c)) ∙ none-told kind)
