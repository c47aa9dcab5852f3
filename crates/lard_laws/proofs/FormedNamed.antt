-- Each packet that is sent is of some connection, in every run.
use Rattle.std.proofs.Common.{◌≡◌, ℕ, ◌+◌, List, [], ◌∷◌, ◌++◌, length, Some, refl, sym, ap, subst}
use Rattle.lard_base.specs.declared.event.Event.TheVariants as event
use Rattle.lard_history.proofs.Each.{Each, Each-append, Each-weaker}
use Rattle.lard_journal.specs.declared.rec.Rec.TheVariants as rec
use Rattle.lard_law_view.specs.Prelude.{Config, Event, IsReached, Machine, Out, Place, Rec, clocked, conn_of, machine_told, segments_sent, sent_records, told_rows}
use Rattle.lard_law_view.proofs.AnyShape.{AnyShape, IsAct, SomeGift, SomeNote, SomeSent, SomeTimer, some-noted, step-any}
use Rattle.lard_law_view.proofs.Carried.{carried-keep}
use Rattle.lard_law_view.proofs.OfKinds.{gave-unsent, noted-unsent, timer-unsent}
use Rattle.lard_law_view.proofs.OwnRecords.{behind}
use Rattle.lard_law_view.proofs.RecordKinds.{IsUnsent}
use Rattle.lard_law_view.proofs.Saying.{between-conn}

abbrev pub IsNamed : Rec → Type 0
IsNamed (rec.Sent k from to bytes) = (c : ℕ) × (conn_of from to bytes ≡ Some c)
IsNamed _ = Unit {0}

unsent-named : (r : Rec) → IsUnsent r → IsNamed r
unsent-named (rec.Sent k from to bytes) h = absurd h
unsent-named _ h = tt

all-unsent : (rs : List Rec) → Each IsUnsent rs → Each IsNamed rs
all-unsent rs h = Each-weaker IsUnsent IsNamed unsent-named rs h

behind-named : (e : Event) → Each IsNamed (behind e)
behind-named (event.Open c isn iss wnd mss) = (tt, tt)
behind-named (event.Deliver k) = (tt, tt)
behind-named (event.Lose k) = (tt, tt)
behind-named (event.Inject c bytes) = (tt, tt)
behind-named _ = tt

sents-named : (k : ℕ) (place : Place) (ss : List (Place × List ℕ)) → Each (SomeSent place) ss → Each IsNamed (sent_records k place ss)
sents-named k place [] h = tt
sents-named k place (s ∷ ss) h = ((h.0.0, between-conn h.0.0 place s.0 s.1 h.0.2), sents-named (k + 1) place ss h.1)

-- the step adds such records
record Adds (m n : Machine) : Type 0 where
  rows : List Rec
  is : n.journal ≡ m.journal ++ rows
  are : Each IsNamed rows

module _ (m : Machine) where
  told-adds : (w : Machine) (e : Event) (place : Place) (o : Out) → IsAct m w e place o → Adds m (machine_told w e (behind e) place o)
  unfolding machine_told
  told-adds w e place o act =
      let S : List Rec = sent_records (length w.net + 1) place o.segments in
      let M : List Rec = sent_records (length (segments_sent w place o) + 1) place o.messages in
      let notes : Each IsNamed o.notes = all-unsent o.notes (Each-weaker (SomeNote place) IsUnsent (λ r h. noted-unsent r (some-noted place r h)) o.notes act.notes) in
      let gave : Each IsNamed o.gave = all-unsent o.gave (Each-weaker (SomeGift place) IsUnsent (λ r h. gave-unsent place h.0 r h.1) o.gave act.gave) in
      let timers : Each IsNamed o.timers = all-unsent o.timers (Each-weaker (SomeTimer place) IsUnsent (λ r h. timer-unsent place h.0 r h.1) o.timers act.timers) in
      record {
        rows = told_rows w e (behind e) place o;
        is = ap (λ (J : List Rec). J ++ told_rows w e (behind e) place o) act.put.journal;
        are = (
          tt,
          Each-append IsNamed (behind e ++ o.notes ++ S ++ o.gave ++ M) o.timers
              (Each-append IsNamed (behind e ++ o.notes ++ S ++ o.gave) M
              (Each-append IsNamed (behind e ++ o.notes ++ S) o.gave
              (Each-append IsNamed (behind e ++ o.notes) S (Each-append IsNamed (behind e) o.notes (behind-named e) notes) (sents-named (length w.net + 1) place o.segments act.segments))
              gave)
              (sents-named (length (segments_sent w place o) + 1) place o.messages act.messages))
              timers,
        );
      }

  any-add : AnyShape m (λ e n. Adds m n)
  unfolding clocked
  any-add = record {
    acts = told-adds;
    nobody = λ k q at there. record { rows = rec.Event (m.events + 1) (event.Deliver k) ∷ rec.Got k ∷ []; is = refl; are = (tt, (tt, tt)) };
    loses = λ k q at there. record { rows = rec.Event (m.events + 1) (event.Lose k) ∷ rec.Lost k ∷ []; is = refl; are = (tt, (tt, tt)) };
    clocks = λ ms. record { rows = rec.Event (m.events + 1) (event.Clock ms) ∷ rec.Clock (record { 0 = m.now + ms }) ∷ []; is = refl; are = (tt, (tt, tt)) };
  }

pub packets-named : (config : Config) (files : List (List ℕ × List ℕ)) (m : Machine) → IsReached config files m → Each IsNamed m.journal
packets-named config files m r = carried-keep config files (λ k. Each IsNamed k.journal) tt
    (λ k n e on h rule is.
    let a : Adds k n = step-any k on.view (λ d i. Adds k i) (any-add k) e n rule is in
    subst (Each IsNamed) (sym a.is) (Each-append IsNamed k.journal a.rows h a.are))
    m r
