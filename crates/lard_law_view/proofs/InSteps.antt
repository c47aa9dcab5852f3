-- Laws of a step: from the move of each connection in it to the steps of the whole journal. And laws of a record, and of
-- the end of each step.
use Rattle.std.proofs.Common.{◌≡◌, ℕ, List, [], ◌++◌, Ok, refl, sym, ap, ◌∙◌, subst, ⊎_elim, append-nil}
use Rattle.lard_law_view.specs.Prelude.{AtEachEnd, CarriesRecords, CarriesSteps, Config, Conn, EachMay, Event, GoesBy, HasRule, HoldsBefore, IsConnNumber, IsReached, Machine, MayRestOn, Move, Rec, Seen, conn, grown, which_leave, machine_step, net_of, own, seen_in, seen_on}
use Rattle.lard_law_view.proofs.After.{IsAfter, step-after}
use Rattle.lard_law_view.proofs.Carried.{IsOn, carried-keep, goes-on, may-move}
use Rattle.lard_history.proofs.Each.{each_append}
use Rattle.lard_history.proofs.Lifting.{each_from_own}
use Rattle.lard_history.proofs.Seeing.{own-append}
use Rattle.lard_history.proofs.Stepping.{AreLawful, cancel, one-more, step-holds}

-- what a connection sees of a step is what its move says
pub seen-step : (P : Conn → Move → Type 0) (Q : List Seen → Type 0) (m n : Machine) (s : List Rec) (q : ℕ) → n.journal ≡ m.journal ++ s → Q []
    → ((v : Move) → P (conn m q) v → Q (seen_in (conn m q) v)) → GoesBy P (conn m q) (conn n q) → Q (seen_on q (net_of m.journal) s)
unfolding conn
seen-step P Q m n s q is still moves g = ⊎_elim
    (λ (same : conn n q ≡ conn m q).
    let e : own q m.journal ++ seen_on q (net_of m.journal) s ≡ own q m.journal ++ [] =
    sym (own-append q m.journal s) ∙ ap (own q) (sym is) ∙ ap (λ (x : Conn). x.seen) same ∙ sym (append-nil (own q m.journal)) in
    subst Q (sym (cancel (own q m.journal) (seen_on q (net_of m.journal) s) [] e)) still)
    (λ (k : (v : Move) × P (conn m q) v × (conn n q ≡ grown (conn m q) v)).
    let e : own q m.journal ++ seen_on q (net_of m.journal) s ≡ own q m.journal ++ seen_in (conn m q) k.0 =
    sym (own-append q m.journal s) ∙ ap (own q) (sym is) ∙ ap (λ (x : Conn). x.seen) k.2 in
    subst Q (sym (cancel (own q m.journal) (seen_on q (net_of m.journal) s) (seen_in (conn m q) k.0) e)) (moves k.0 k.1))
    g

-- what the move of each rule must hold, each step of the journal holds
pub carried-steps : CarriesSteps
unfolding conn
carried-steps config files Given must own_must local law given m r = (carried-keep config files (λ k. AreLawful must k.journal) (refl, tt) step m r).1 where
  step : (k n : Machine) (e : Event) → IsOn config files k → AreLawful must k.journal → HasRule e → machine_step k e ≡ Ok n → AreLawful must n.journal
  step k n e on h rule is =
      let shape : IsAfter k e n = step-after k on.view e n rule is in
      let P : Conn → Move → Type 0 = λ x v. MayRestOn Given x → own_must x.c x.seen (seen_in x v) in
      let Q : Conn → Move → Type 0 = λ x v. IsConnNumber x.c × P x v in
      let goes : (q : ℕ) → GoesBy Q (conn k q) (conn n q) = goes-on config files P (λ l. (law l).moves) k n e on rule is in
      subst (AreLawful must) (sym shape.is)
      (one-more must k.journal shape.step shape.one h
      (local k.journal shape.step (λ q. seen-step Q (own_must q (own q k.journal)) k n shape.step q shape.is ((law (which_leave k)).still q (own q k.journal))
      (λ v does. does.1 (may-move Given (conn k q) does.0 (on.view.sound q) (given k on.reached q))) (goes q))))

-- what each connection's own records may say, the journal may say
pub carried-records : CarriesRecords
unfolding conn
carried-records config files may mine nobody somebody each m r = each_from_own may mine (record { nobody = nobody; somebody = somebody }) m.journal (λ q. each m r q)

-- what the journal of each state holds, it holds at the end of each of its steps
pub carried-ends : (config : Config) (files : List (List ℕ × List ℕ)) (P : List Rec → Type 0) → ((m : Machine) → IsReached config files m → P m.journal)
    → (m : Machine) → IsReached config files m → AtEachEnd P m.journal
carried-ends config files P always m r = record { before = carried-keep config files (λ k. EachMay (HoldsBefore P) [] k.journal) tt step m r; last = always m r } where
  step : (k n : Machine) (e : Event) → IsOn config files k → EachMay (HoldsBefore P) [] k.journal → HasRule e → machine_step k e ≡ Ok n → EachMay (HoldsBefore P) [] n.journal
  step k n e on h rule is =
      let shape : IsAfter k e n = step-after k on.view e n rule is in
      subst (EachMay (HoldsBefore P) []) (sym shape.is)
      (each_append (HoldsBefore P) [] k.journal shape.step h (step-holds P k.journal shape.step (always k on.reached) shape.one))
