-- Only nodes that are there act: a packet to any other comes to nobody, and an event of one is a fault.
use Rattle.std.proofs.Common.{◌≡◌, ℕ, zero, suc, ◌+◌, ◌≤◌, List, [], ◌∷◌, ◌++◌, length, Some, None, Ok, inl, inr, ⊎_elim, refl, sym, ap, ◌∙◌, subst, arith}
use Rattle.std.proofs.lemmas.List.{append_cancel_left}
use Rattle.std.proofs.lemmas.Option.{slice_get_within}
use Rattle.std.specs.Prelude.{◌⊎◌}
use Rattle.lard_law_view.specs.Prelude.{Client, Config, EachMay, Event, Front, Machine, Node, NodeState, Out, Place, Rec, clocked, first_place, machine_step, machine_told, node_at, segments_sent, sent_records, told_rows}
use Rattle.lard_base.specs.declared.event.Event.TheVariants as event
use Rattle.lard_law_connections.proofs.Calm.{first_rows}
use Rattle.lard_law_connections.proofs.Forms.{NodeActs, NodeStep, NodesStay, Passes, comes-at, node-form}
use Rattle.lard_laws.specs.RecordsMessages.{MayBeThere, OnlyNodesThatAreThereAct}
use Rattle.lard_laws.proofs.StepsPlaces.{AreHere, act-here, all-six, behind-here, here-at}
use Rattle.lard_law_view.proofs.AnyShape.{AnyShape, IsAct, step-any}
use Rattle.lard_law_view.proofs.Carried.{carried-keep}
use Rattle.lard_law_view.proofs.Heads.{ActsAt}
use Rattle.lard_history.proofs.Acting.{IsAt}
use Rattle.lard_history.proofs.Each.{Each, each_append}
use Rattle.lard_journal.specs.declared.rec.Rec.TheVariants as rec
use Rattle.lard_law_view.proofs.PlaceRecords.{sents-at}
use Rattle.lard_law_view.proofs.OwnRecords.{behind}

-- ---- places

-- a node that is one of so many, or the front end or a client
abbrev IsThere : ℕ → Place → Type 0
IsThere nodes (Node n) = (1 ≤ n) × (n ≤ nodes)
IsThere nodes Front = Unit {0}
IsThere nodes (Client c) = Unit {0}

-- one that keeps something
kept-node : (ns : List NodeState) (n : ℕ) (s : NodeState) → node_at ns n ≡ Some s → (1 ≤ n) × (n ≤ length ns)
kept-node ns zero s is = let no : None ≡ Some s = is in absurd cc
kept-node ns (suc i) s is = let within = slice_get_within ns i s is in (omega arith, omega (arith, within))

-- ---- the records of a step

abbrev NamesNone : Rec → Type 0
NamesNone r = first_place r ≡ None

none-may : (nodes : ℕ) (past rs : List Rec) → Each NamesNone rs → EachMay (MayBeThere nodes) past rs
none-may nodes past [] h = tt
none-may nodes past (r ∷ rs) h = ((λ n e. let no : None ≡ Some (Node n) = sym h.0 ∙ e in absurd cc), none-may nodes (past ++ r ∷ []) rs h.1)

one-may : (nodes : ℕ) (p : Place) (past : List Rec) (r : Rec) → IsThere nodes p → IsAt p r → MayBeThere nodes past r
one-may nodes p past r there at n e = ⊎_elim
    (λ (none : first_place r ≡ None). let no : None ≡ Some (Node n) = sym none ∙ e in absurd cc)
    (λ (here : first_place r ≡ Some p). let both : Some p ≡ Some (Node n) = sym here ∙ e in let same : p ≡ Node n = cc in subst (IsThere nodes) same there)
    at

all-may : (nodes : ℕ) (p : Place) (past rs : List Rec) → IsThere nodes p → Each (IsAt p) rs → EachMay (MayBeThere nodes) past rs
all-may nodes p past [] there h = tt
all-may nodes p past (r ∷ rs) there h = (one-may nodes p past r there h.0, all-may nodes p (past ++ r ∷ []) rs there h.1)

-- The step adds records that name no place, or those of a place that acts in it.
record Adds (m n : Machine) (e : Event) : Type 0 where
  rows : List Rec
  is : n.journal ≡ m.journal ++ rows
  are : Each NamesNone rows ⊎ ((p : Place) × ActsAt m.net e p × Each (IsAt p) rows)

module _ (m : Machine) where
  told-adds : (w : Machine) (e : Event) (place : Place) (o : Out) → IsAct m w e place o → Adds m (machine_told w e (behind e) place o) e
  unfolding machine_told
  told-adds w e place o act =
      let here : AreHere place o = act-here m w e place o act in
      let S : List Rec = sent_records (length w.net + 1) place o.segments in
      let M : List Rec = sent_records (length (segments_sent w place o) + 1) place o.messages in
      let rest : Each (IsAt place) (behind e ++ o.notes ++ S ++ o.gave ++ M ++ o.timers) = all-six (IsAt place) (behind e) o.notes S o.gave M o.timers (here-at place (behind e) (behind-here place e)) (here-at place o.notes here.notes)
      (sents-at (length w.net + 1) place o.segments) (here-at place o.gave here.gave) (sents-at (length (segments_sent w place o) + 1) place o.messages) (here-at place o.timers here.timers) in
      record { rows = told_rows w e (behind e) place o; is = ap (λ (J : List Rec). J ++ told_rows w e (behind e) place o) act.put.journal; are = inr (place, act.acts, (inl refl, rest)) }

  any-add : AnyShape m (λ e n. Adds m n e)
  unfolding clocked
  any-add = record {
    acts = told-adds;
    nobody = λ k q at there. record { rows = rec.Event (m.events + 1) (event.Deliver k) ∷ rec.Got k ∷ []; is = refl; are = inl (refl, (refl, tt)) };
    loses = λ k q at there. record { rows = rec.Event (m.events + 1) (event.Lose k) ∷ rec.Lost k ∷ []; is = refl; are = inl (refl, (refl, tt)) };
    clocks = λ ms. record { rows = rec.Event (m.events + 1) (event.Clock ms) ∷ rec.Clock (record { 0 = m.now + ms }) ∷ []; is = refl; are = inl (refl, (refl, tt)) };
  }

  -- ---- the node that acts is there

  -- it is there, or the step names no place
  abbrev Fits : Place → Machine → Type 0
  Fits p n = IsThere m.config.nodes p ⊎ ((rows : List Rec) × Each NamesNone rows × (n.journal ≡ m.journal ++ rows))

  behind-none : (e : Event) → Each NamesNone (behind e)
  behind-none (event.Open c isn iss wnd mss) = (refl, tt)
  behind-none (event.Deliver k) = (refl, tt)
  behind-none (event.Lose k) = (refl, tt)
  behind-none (event.Inject c bytes) = (refl, tt)
  behind-none _ = tt

  step-fits : length m.nodes ≡ m.config.nodes → (n : Machine) (e : Event) (p : Place) → ActsAt m.net e p → machine_step m e ≡ Ok n → Fits p n
  step-fits as_many n e Front acts is = inl tt
  step-fits as_many n e (Client c) acts is = inl tt
  step-fits as_many n e (Node k) acts is = go (node-form m n e is) where
    go : NodesStay m e n ⊎ NodeStep m e n → Fits (Node k) n
    go (inl stay) = ⊎_elim
        (λ (never : NodeActs m e → ⊥). absurd (never (k, acts)))
        (λ (s : Passes m e n). inr (first_rows m e, (refl, behind-none e), ap (λ (x : Machine). x.journal) s.is))
        stay.2
    go (inr step) =
        let at : step.i ≡ k = comes-at m e k step.i step.s step.comes step.came acts in
        let kept = kept-node m.nodes step.i step.s step.there in
        let most = kept.1 in
        inl (subst (λ i. (1 ≤ i) × (i ≤ m.config.nodes)) at (kept.0, omega (arith, most, as_many)))

  -- what a step adds names nodes that are there
  rows-may : length m.nodes ≡ m.config.nodes → (n : Machine) (e : Event) → machine_step m e ≡ Ok n → (a : Adds m n e) → EachMay (MayBeThere m.config.nodes) m.journal a.rows
  rows-may as_many n e is a = ⊎_elim
      (λ (none : Each NamesNone a.rows). none-may m.config.nodes m.journal a.rows none)
      (λ (acted : (p : Place) × ActsAt m.net e p × Each (IsAt p) a.rows). ⊎_elim
      (λ (there : IsThere m.config.nodes acted.0). all-may m.config.nodes acted.0 m.journal a.rows there acted.2)
      (λ (quiet : (rows : List Rec) × Each NamesNone rows × (n.journal ≡ m.journal ++ rows)).
      none-may m.config.nodes m.journal a.rows (subst (Each NamesNone) (append_cancel_left m.journal quiet.0 a.rows (sym quiet.2 ∙ a.is)) quiet.1))
      (step-fits as_many n e acted.0 acted.1 is))
      a.are

pub only-nodes : OnlyNodesThatAreThereAct
only-nodes config files m r = carried-keep config files (λ k. EachMay (MayBeThere config.nodes) [] k.journal) tt
    (λ k n e on h rule is.
    let a : Adds k n e = step-any k on.view (λ d i. Adds k i d) (any-add k) e n rule is in
    let more = subst (λ (c : Config). EachMay (MayBeThere c.nodes) k.journal a.rows) on.config_is (rows-may k on.view.nodes n e is a) in
    subst (EachMay (MayBeThere config.nodes) []) (sym a.is) (each_append (MayBeThere config.nodes) [] k.journal a.rows h more))
    m r
