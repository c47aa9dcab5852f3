-- What an agenda lists is what the journal tells.
use Rattle.std.proofs.Common.{◌≡◌, ℕ, Bool, true, false, not, ◌||◌, List, [], ◌∷◌, map, Option, Some, None, is_some, refl, sym, ap, subst, ◌∙◌, cond}
use Rattle.std.proofs.lemmas.Bool.{both_ways}
use Rattle.std.specs.FinMap.{entries, get, values}
use Rattle.std.specs.List.{AllByRecursion}
use Rattle.lard_base.specs.declared.place.Place.{Place}
use Rattle.lard_base.specs.declared.place.TimerKind.{TimerKind}
use Rattle.lard_base.specs.declared.place.TimerKind.TheVariants.{Tcp, Offer, Ask, Fetch, Ended, Give}
use Rattle.lard_dispatch.specs.Books.{Dispatcher}
use Rattle.lard_history.specs.Journal.{is_running}
use Rattle.lard_journal.specs.declared.rec.Rec.{Rec}
use Rattle.lard_agenda.specs.declared.kinds.Kinds.{Kinds}
use Rattle.lard_agenda.specs.declared.kinds.Running.{Running}
use Rattle.lard_agenda.specs.Agenda.{agenda_of, due, free_of, is_stalled, no_seats, rests, seat, stalled_at}
use Rattle.lard_agenda.specs.Kinds.{is_none, kinds_of, no_kinds, runs}
use Rattle.lard_agenda.specs.Laws.{AgendasListHolders, AgendasListPackets, AgendasListTimers, AgendasRest, IsDue, IsSeated, NamesSeat, RunsAt, is_held, is_on_way}
use Rattle.lard_agenda.proofs.Holders.{holders_are_told}
use Rattle.lard_agenda.proofs.Kept.{kept_is_seated, nothing_idle}
use Rattle.lard_agenda.proofs.Listed.{all_filter, all_map, each_entry, of_found}
use Rattle.lard_agenda.proofs.Packets.{packets_are_told}
use Rattle.lard_agenda.proofs.Timers.{none-told, one_seat, timers_are_told}

-- ---- packets, and clients that hold

pub packets_are_listed : AgendasListPackets
packets_are_listed J = all_map (λ e. e.0) (λ k. is_on_way J k ≡ true) (entries (agenda_of J).way)
    (each_entry (λ e. is_on_way J e.0 ≡ true) (agenda_of J).way (λ k v f. sym (packets_are_told J k) ∙ ap is_some f))

pub holders_are_listed : AgendasListHolders
holders_are_listed J = all_map (λ e. e.1) (λ c. is_held J c ≡ true) (entries (agenda_of J).held)
    (each_entry (λ e. is_held J e.1 ≡ true) (agenda_of J).held (λ c v f. go c v (is_held J c) refl (sym (holders_are_told J c) ∙ f))) where
      go : (c v : ℕ) (b : Bool) → is_held J c ≡ b → cond b (Some c) None ≡ Some v → is_held J v ≡ true
      go c v true h e = let same : c ≡ v = cc in subst (λ k. is_held J k ≡ true) same h
      go c v false h e = absurd cc

-- ---- timers

or-one : (a b : Bool) (P : Type 0) → (a ≡ true → P) → (not b ≡ false → P) → not (a || b) ≡ false → P
or-one true b P one other h = one refl
or-one false b P one other h = other h

-- of what is kept a kind runs
some-runs : (kinds : Kinds) → is_none kinds ≡ false → (kind : TimerKind) × (runs kind kinds ≡ true)
some-runs kinds =
    or-one kinds.tcp (kinds.offer || (kinds.ask || (kinds.fetch || (kinds.ended || kinds.give)))) Found (λ e. (Tcp, e))
    (or-one kinds.offer (kinds.ask || (kinds.fetch || (kinds.ended || kinds.give))) Found (λ e. (Offer, e))
    (or-one kinds.ask (kinds.fetch || (kinds.ended || kinds.give)) Found (λ e. (Ask, e))
    (or-one kinds.fetch (kinds.ended || kinds.give) Found (λ e. (Fetch, e))
    (or-one kinds.ended kinds.give Found (λ e. (Ended, e)) (λ e. (Give, on kinds.give e)))))) where
      Found : Type 0
      Found = (kind : TimerKind) × (runs kind kinds ≡ true)

      on : (b : Bool) → not b ≡ false → b ≡ true
      on true e = refl
      on false e = absurd (both_ways true e refl)

module _ (J : List Rec) (all : AllByRecursion NamesSeat J) where
  -- a connection of which something is kept: its seat, and a timer that runs
  kept-runs : (at : ℕ) (r : Running) → get (agenda_of J).running at ≡ Some r → IsSeated r.place r.c × RunsAt J r.place r.c
  kept-runs at r f =
      let kept = nothing_idle J at r f in
      let seated = kept_is_seated J all at r f in
      let one = some-runs r.kinds kept.1 in
      (seated, (one.0, sym (timers_are_told J r.place r.c one.0 all seated) ∙ ap (λ o. runs one.0 (kinds_of o)) (ap (get (agenda_of J).running) (sym kept.0) ∙ f) ∙ one.1))

  each-due : (d : Dispatcher) → AllByRecursion (IsDue d J) (due d (agenda_of J))
  each-due d = all_map (λ r. (r.place, r.c)) (IsDue d J) (free_of d (values (agenda_of J).running))
      (all_filter (λ r. not (is_stalled d r)) (λ r. IsSeated r.place r.c × RunsAt J r.place r.c) (λ r. IsDue d J (r.place, r.c))
      (λ r h free. (h.0, h.1, off (is_stalled d r) free)) (values (agenda_of J).running)
      (all_map (λ e. e.1) (λ r. IsSeated r.place r.c × RunsAt J r.place r.c) (entries (agenda_of J).running)
      (each_entry (λ e. IsSeated e.1.place e.1.c × RunsAt J e.1.place e.1.c) (agenda_of J).running kept-runs))) where
        off : (b : Bool) → not b ≡ true → b ≡ false
        off true e = sym e
        off false e = refl

  -- where all that runs is stalled nothing is due
  nothing-due : (d : Dispatcher) → ((p : Place) (c : ℕ) (kind : TimerKind) → IsSeated p c → is_running J p c kind ≡ true → stalled_at p d.books.line c ≡ true)
      → (xs : List (Place × ℕ)) → AllByRecursion (IsDue d J) xs → no_seats xs ≡ true
  nothing-due d h [] each = refl
  nothing-due d h (x ∷ xs) each = absurd (both_ways (stalled_at x.0 d.books.line x.1) each.0.2 (h x.0 x.1 each.0.1.0 each.0.0 each.0.1.1))

  -- and where nothing is due all that is kept is stalled
  all-stalled : (d : Dispatcher) (rs : List Running) → no_seats (map (λ r. (r.place, r.c)) (free_of d rs)) ≡ true → AllByRecursion (λ r. is_stalled d r ≡ true) rs
  all-stalled d [] h = tt
  all-stalled d (r ∷ rs) h = go (is_stalled d r) refl (all-stalled d rs) h where
    go : (b : Bool) → is_stalled d r ≡ b → (no_seats (map (λ x. (x.place, x.c)) (free_of d rs)) ≡ true → AllByRecursion (λ x. is_stalled d x ≡ true) rs)
        → no_seats (map (λ x. (x.place, x.c)) (cond (not b) (r ∷ free_of d rs) (free_of d rs))) ≡ true → AllByRecursion (λ x. is_stalled d x ≡ true) (r ∷ rs)
    go true e rest g = (e, rest g)
    go false e rest g = absurd (both_ways false refl g)

  stalled-where : (d : Dispatcher) → rests d (agenda_of J) ≡ true → (p : Place) (c : ℕ) (kind : TimerKind) → IsSeated p c → is_running J p c kind ≡ true → stalled_at p d.books.line c ≡ true
  stalled-where d h p c kind here run = go (get (agenda_of J).running (seat p c)) refl (timers_are_told J p c kind all here ∙ run) where
    go : (o : Option Running) → get (agenda_of J).running (seat p c) ≡ o → runs kind (kinds_of o) ≡ true → stalled_at p d.books.line c ≡ true
    go None f t = absurd (both_ways (runs kind no_kinds) (none-told kind) t)
    go (Some r) f t =
        let is = one_seat r.place p r.c c (kept_is_seated J all (seat p c) r f) here (sym (nothing_idle J (seat p c) r f).0) in
        let stalled : stalled_at r.place d.books.line r.c ≡ true = of_found (λ x. is_stalled d x ≡ true) (agenda_of J).running (seat p c) r (all-stalled d (values (agenda_of J).running) h) f in
        subst (λ q. stalled_at q d.books.line c ≡ true) is.0 (subst (λ n. stalled_at r.place d.books.line n ≡ true) is.1 stalled)

pub timers_are_listed : AgendasListTimers
timers_are_listed d J all = each-due J all d

pub rest_is_told : AgendasRest
rest_is_told d J all = (stalled-where J all d, λ h. nothing-due J all d h (due d (agenda_of J)) (each-due J all d))
