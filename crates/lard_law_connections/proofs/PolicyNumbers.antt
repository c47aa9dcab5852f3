-- Each record of admission and of assignments is of a connection's number.
use Rattle.std.proofs.Common.{◌≡◌, ℕ, ◌+◌, List, [], ◌∷◌, ◌++◌, Ok, refl, sym, ap, ◌∙◌, subst, inl, inr}
use Rattle.lard_law_view.specs.Prelude.{Client, Config, Event, Front, HasRule, IsConnNumber, IsReached, IsViewed, Machine, Node, Out, Place, Rec, clocked, machine_step, machine_told, passed}
use Rattle.lard_base.specs.declared.event.Event.TheVariants as event
use Rattle.lard_law_connections.proofs.PolicyAsides.{IsAside, allows-aside, named-aside}
use Rattle.lard_law_connections.proofs.Calm.{first-calm, first_rows, gifts-calm, last-calm, last_rows, timers-calm, told-journal}
use Rattle.lard_law_view.proofs.AnyShape.{AnyShape, IsAct, SomeNote, step-any}
use Rattle.lard_law_view.proofs.Carried.{carried-keep}
use Rattle.lard_law_view.proofs.Saying.{NotedAt}
use Rattle.lard_history.proofs.Each.{Each, Each-append, Each-weaker}
use Rattle.lard_journal.specs.declared.rec.Rec.TheVariants as rec
use Rattle.lard_law_view.proofs.OwnRecords.{behind}

abbrev pub IsNumbered : Rec → Type 0
IsNumbered (rec.Waits c) = IsConnNumber c
IsNumbered (rec.Admitted c) = IsConnNumber c
IsNumbered (rec.Released c) = IsConnNumber c
IsNumbered (rec.AssignedFirst c r path n add remove) = IsConnNumber c
IsNumbered (rec.AssignedLater c r path n add size queue) = IsConnNumber c
IsNumbered (rec.BatchOver c) = IsConnNumber c
IsNumbered _ = Unit {0}

aside-numbered : (r : Rec) → IsAside r → IsNumbered r
aside-numbered (rec.Waits c) h = absurd h
aside-numbered (rec.Admitted c) h = absurd h
aside-numbered (rec.Released c) h = absurd h
aside-numbered (rec.AssignedFirst c r path n add remove) h = absurd h
aside-numbered (rec.AssignedLater c r path n add size queue) h = absurd h
aside-numbered (rec.BatchOver c) h = absurd h
aside-numbered _ h = tt

note-numbered : (place : Place) (c : ℕ) (r : Rec) → IsConnNumber c → NotedAt place c r → IsNumbered r
note-numbered Front c (rec.Took Front d epoch) n h = tt
note-numbered Front c (rec.Served Front d r code size via) n h = tt
note-numbered Front c (rec.Reset Front d total) n h = tt
note-numbered Front c (rec.Waits d) n h = subst IsConnNumber (sym h) n
note-numbered Front c (rec.Admitted d) n h = subst IsConnNumber (sym h) n
note-numbered Front c (rec.AssignedFirst d r path k add remove) n h = subst IsConnNumber (sym h) n
note-numbered Front c (rec.AssignedLater d r path k add size queue) n h = subst IsConnNumber (sym h) n
note-numbered Front c (rec.BatchOver d) n h = subst IsConnNumber (sym h) n
note-numbered Front c (rec.Released d) n h = subst IsConnNumber (sym h) n
note-numbered (Node k) c r n h = aside-numbered r (named-aside (Node k) c r tt h)
note-numbered (Client d) c r n h = aside-numbered r (named-aside (Client d) c r tt h)
note-numbered _ c _ n h = absurd h

some-numbered : (place : Place) (r : Rec) → SomeNote place r → IsNumbered r
some-numbered place r (inl h) = note-numbered place h.0 r h.1 h.2
some-numbered Front (rec.Closed n) (inr h) = tt
some-numbered (Node n) (rec.Hit k path) (inr h) = tt
some-numbered _ _ (inr h) = absurd h

asides-numbered : (rs : List Rec) → Each IsAside rs → Each IsNumbered rs
asides-numbered rs e = Each-weaker IsAside IsNumbered aside-numbered rs e

module _ (m : Machine) where
  -- what a step adds
  abbrev Adds : Machine → Type 0
  Adds n = (rs : List Rec) × (n.journal ≡ m.journal ++ rs) × Each IsNumbered rs

  passed-adds : (e : Event) (own : List Rec) → Each IsNumbered own → Adds (passed m e own)
  passed-adds e own numbered = (rec.Event (m.events + 1) e ∷ own, refl, (tt, numbered))

  told-adds : (w : Machine) (e : Event) (place : Place) (o : Out) → IsAct m w e place o → Adds (machine_told w e (behind e) place o)
  told-adds w e place o act = (
    first_rows w e ++ o.notes ++ last_rows w place o,
    told-journal w e place o ∙ ap (λ (J : List Rec). J ++ (first_rows w e ++ o.notes ++ last_rows w place o)) act.put.journal,
    Each-append IsNumbered (first_rows w e ++ o.notes) (last_rows w place o)
        (Each-append IsNumbered (first_rows w e) o.notes (asides-numbered (first_rows w e) (first-calm IsAside allows-aside w e)) (Each-weaker (SomeNote place) IsNumbered (some-numbered place) o.notes act.notes))
        (asides-numbered (last_rows w place o) (last-calm IsAside allows-aside w place o (gifts-calm IsAside allows-aside place o.gave act.gave)
        (timers-calm IsAside allows-aside place o.timers act.timers))),
  )

  any-add : AnyShape m (λ e n. Adds n)
  unfolding clocked
  any-add = record {
    acts = told-adds;
    nobody = λ k l at there. passed-adds (event.Deliver k) (rec.Got k ∷ []) (tt, tt);
    loses = λ k l at there. passed-adds (event.Lose k) (rec.Lost k ∷ []) (tt, tt);
    clocks = λ ms. passed-adds (event.Clock ms) (rec.Clock (record { 0 = m.now + ms }) ∷ []) (tt, tt);
  }

step-adds : (m : Machine) → IsViewed m → (e : Event) (n : Machine) → HasRule e → machine_step m e ≡ Ok n → Adds m n
step-adds m view e n rule is = step-any m view (λ d k. Adds m k) (any-add m) e n rule is

pub reached-numbered : (config : Config) (files : List (List ℕ × List ℕ)) (m : Machine) → IsReached config files m → Each IsNumbered m.journal
reached-numbered config files m r = carried-keep config files (λ m. Each IsNumbered m.journal) tt
    (λ k n e on before rule is. let adds : Adds k n = step-adds k on.view e n rule is in subst (Each IsNumbered) (sym adds.1) (Each-append IsNumbered k.journal adds.0 before adds.2))
    m r
