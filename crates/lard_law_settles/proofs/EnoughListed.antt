-- Each packet is of a connection with a number, and each that is on its way is there.
use Rattle.std.proofs.Common.{◌≡◌, ℕ, zero, suc, ◌-◌, ◌==◌, Bool, true, false, cond, List, [], ◌∷◌, ◌++◌, Some, None, Ok, sym, subst}
use Rattle.std.specs.Prelude.{slice_get}
use Rattle.lard_law_view.specs.Prelude.{Config, Event, HasRule, IsConnNumber, IsReached, IsViewed, Machine, Out, Packet, Place, clocked, conn_of, lose_at, machine_step, machine_told, packets_of}
use Rattle.lard_law_view.proofs.AnyShape.{AnyShape, IsAct, SomeSent, step-any}
use Rattle.lard_law_view.proofs.Carried.{carried-keep}
use Rattle.lard_law_view.proofs.Saying.{between-conn}
use Rattle.lard_law_settles.proofs.CourseGoing.{IsListed}
use Rattle.lard_history.proofs.Each.{Each, Each-append}
use Rattle.lard_law_settles.proofs.EnoughOwned.{way-there}
use Rattle.lard_law_view.proofs.OwnRecords.{behind}

-- it is of a connection with a number
abbrev IsOfOne : Packet → Type 0
IsOfOne p = (q : ℕ) × (conn_of p.from p.to p.bytes ≡ Some q) × IsConnNumber q

abbrev AreOfOne : List Packet → Type 0
AreOfOne ps = Each IsOfOne ps

sent-of-one : (place : Place) (ss : List (Place × List ℕ)) → Each (SomeSent place) ss → AreOfOne (packets_of place ss)
sent-of-one place [] h = tt
sent-of-one place (s ∷ ss) h = ((h.0.0, between-conn h.0.0 place s.0 s.1 h.0.2, h.0.1), sent-of-one place ss h.1)

lost-of-one : (net : List Packet) (i : ℕ) → AreOfOne net → AreOfOne (lose_at i net)
lost-of-one [] i h = tt
lost-of-one (p ∷ net) zero h = (h.0, h.1)
lost-of-one (p ∷ net) (suc i) h = (h.0, lost-of-one net i h.1)

module _ (m : Machine) (h : AreOfOne m.net) where
  told-of-one : (w : Machine) (e : Event) (place : Place) (o : Out) → IsAct m w e place o → AreOfOne (machine_told w e (behind e) place o).net
  unfolding machine_told
  told-of-one w e place o act =
      Each-append IsOfOne (w.net ++ packets_of place o.segments) (packets_of place o.messages)
      (Each-append IsOfOne w.net (packets_of place o.segments) (subst AreOfOne (sym act.put.net) h) (sent-of-one place o.segments act.segments)) (sent-of-one place o.messages act.messages)

  any-of-one : AnyShape m (λ e n. AreOfOne n.net)
  unfolding clocked
  any-of-one = record {
    acts = told-of-one;
    nobody = λ k l at there. h;
    loses = λ k l at there. lost-of-one m.net (k - 1) h;
    clocks = λ ms. h;
  }

  step-of-one : (n : Machine) (e : Event) → IsViewed m → HasRule e → machine_step m e ≡ Ok n → AreOfOne n.net
  step-of-one n e view rule is = step-any m view (λ d k. AreOfOne k.net) any-of-one e n rule is

net-of-one : (config : Config) (files : List (List ℕ × List ℕ)) (m : Machine) → IsReached config files m → AreOfOne m.net
net-of-one config files m r = carried-keep config files (λ k. AreOfOne k.net) tt (λ k n e on h rule is. step-of-one k h n e on.view rule is) m r

got-of-one : (net : List Packet) (i : ℕ) (p : Packet) → AreOfOne net → slice_get net i ≡ Some p → IsOfOne p
got-of-one [] i p h e = let none : None ≡ Some p = e in absurd cc
got-of-one (x ∷ net) zero p h e = let same : x ≡ p = cc in subst IsOfOne same h.0
got-of-one (x ∷ net) (suc i) p h e = got-of-one net i p h.1 e

pub listed-always : (config : Config) (files : List (List ℕ × List ℕ)) (m : Machine) → IsReached config files m → IsListed m
listed-always config files m r = record {
  there = λ k on. let p = way-there config files m r k on in (p.0, p.1);
  numbers = λ k p at. go k p (k == 0) at;
} where
  go : (k : ℕ) (p : Packet) (b : Bool) → cond b None (slice_get m.net (k - 1)) ≡ Some p → IsOfOne p
  go k p true e = let none : None ≡ Some p = e in absurd cc
  go k p false e = got-of-one m.net (k - 1) p (net-of-one config files m r) e
