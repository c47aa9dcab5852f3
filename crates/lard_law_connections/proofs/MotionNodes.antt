-- What each rule makes of a connection's way at the nodes.
use Rattle.std.proofs.Common.{◌≡◌, ◌≢◌, max, ℕ, false, cond, List, [], ◌∷◌, ◌++◌, map, Option, Some, None, refl, sym, ap, ◌∙◌, subst, arith, append-nil}
use Rattle.lard_law_view.specs.Prelude.{BackRow, Came, Client, Conn, Front, Move, Node, NodePart, Place, Rec, Row, Seen, epoch_in, grown, is_no_node, rows_of, seen_in}
use Rattle.lard_law_connections.specs.Motion.{EachIsTold, NodeEnds, NodeTakes, StepsUp, above}
use Rattle.lard_law_connections.specs.MotionStory.{from_node, highest, node_gave_epoch, node_took, of_row, epoch_offered, picked}
use Rattle.lard_law_connections.proofs.MotionElsewhere.{AreNextUp}
use Rattle.lard_law_connections.proofs.MotionPicking.{came-none, pick, pick-none, pick-seen, picked-append, picked-none, IsNoGift, pick-given, pick-noted}
use Rattle.lard_law_view.proofs.Fine.{IsItsOwn}
use Rattle.lard_law_view.proofs.Saying.{GaveAt, NotedAt}
use Rattle.lard_history.proofs.Each.{Each, Each-weaker}
use Rattle.lard_history.proofs.Seeing.{other_number}
use Rattle.lard_journal.specs.declared.rec.Rec.TheVariants as rec
use Rattle.lard_law_connections.specs.Places.{IsEven}
use Rattle.lard_law_view.proofs.RecordKinds.{IsOuter}

-- ---- what is known of the way at the nodes

-- a stay at a node is of an epoch of nodes
abbrev pub IsOfNodes : Option BackRow → Type 0
IsOfNodes None = Unit {0}
IsOfNodes (Some row) = IsEven row.epoch.0

pub record NodesKnown (x : Conn) : Type 0 where
  pub highest_is : (n : ℕ) → highest (picked (of_row (node_took n)) x.seen) ≡ epoch_in (x.part.nodes n)
  pub late : (n : ℕ) → IsOfNodes (x.part.nodes n).row

-- ---- what a step must be

pub record NodesMove (nodes : ℕ) (past step : List Seen) : Type 0 where
  pub takes : (n : ℕ) → is_no_node nodes n ≡ false → NodeTakes n past step
  pub ends : (n : ℕ) → NodeEnds n step
  pub ups : (n : ℕ) → StepsUp (node_took n) past step

abbrev pub NodesGo : ℕ → Conn → Move → Type 0
NodesGo nodes x v = NodesMove nodes x.seen (seen_in x v) × NodesKnown (grown x v)

-- ---- of one node

-- what is seen of node n in a move
pub record At (nodes : ℕ) (x : Conn) (v : Move) (n : ℕ) : Type 0 where
  pub takes : List ℕ
  pub takes_are : picked (of_row (node_took n)) (seen_in x v) ≡ takes
  pub due : is_no_node nodes n ≡ false → takes ≡ above (highest (picked (of_row (node_took n)) x.seen)) (picked (epoch_offered n) (seen_in x v))
  pub ends : NodeEnds n (seen_in x v)
  pub up : AreNextUp x v takes
  pub then : max (highest (picked (of_row (node_took n)) x.seen)) (highest takes) ≡ epoch_in (v.part.nodes n)
  pub late : IsOfNodes (v.part.nodes n).row

highest-append : (xs ys : List ℕ) → highest (xs ++ ys) ≡ max (highest xs) (highest ys)
highest-append [] ys = omega arith
highest-append (x ∷ xs) ys = let e = highest-append xs ys in omega (arith, e)

pub nodes-go : (nodes : ℕ) (x : Conn) (v : Move) → ((n : ℕ) → At nodes x v n) → NodesGo nodes x v
nodes-go nodes x v at = (
  record { takes = λ n there. (at n).takes_are ∙ (at n).due there; ends = λ n. (at n).ends; ups = λ n. subst (AreNextUp x v) (sym (at n).takes_are) (at n).up },
  record {
    highest_is = λ n. ap highest (picked-append (of_row (node_took n)) x.seen (seen_in x v) ∙ ap (λ l. picked (of_row (node_took n)) x.seen ++ l) (at n).takes_are)
        ∙ highest-append (picked (of_row (node_took n)) x.seen) (at n).takes ∙ (at n).then;
    late = λ n. (at n).late;
  },
)

-- ---- what is seen first

-- an event, or what stands directly behind it, or a packet
abbrev pub IsFirst : Seen → Type 0
IsFirst (Row (rec.Event i e)) = Unit {0}
IsFirst (Row (rec.Opened c isn iss wnd mss)) = Unit {0}
IsFirst (Row (rec.Injected c)) = Unit {0}
IsFirst (Row _) = ⊥
IsFirst (Came l) = Unit {0}

-- what is picked of no such record
abbrev IsBehind : {A : Type 0} → (Rec → Option A) → Type 0
IsBehind f = (s : Seen) → IsFirst s → of_row f s ≡ None

took-behind : (n : ℕ) → IsBehind (node_took n)
took-behind n (Row (rec.Event i e)) h = refl
took-behind n (Row (rec.Opened c isn iss wnd mss)) h = refl
took-behind n (Row (rec.Injected c)) h = refl
took-behind n (Row _) h = absurd h
took-behind n (Came l) h = refl

gave-behind : (n : ℕ) → IsBehind (node_gave_epoch n)
gave-behind n (Row (rec.Event i e)) h = refl
gave-behind n (Row (rec.Opened c isn iss wnd mss)) h = refl
gave-behind n (Row (rec.Injected c)) h = refl
gave-behind n (Row _) h = absurd h
gave-behind n (Came l) h = refl

-- ---- records of node n

took-noted : (n : ℕ) (r : Rec) → IsOuter r → node_took n r ≡ None
took-noted n (rec.Took p d epoch) h = absurd h
took-noted n _ h = refl

gave-given : (n : ℕ) (r : Rec) → IsNoGift r → node_gave_epoch n r ≡ None
gave-given n (rec.Gave p d epoch) h = absurd h
gave-given n _ h = refl

module _ (n : ℕ) (x : Conn) (v : Move) (own : IsItsOwn x v) (first : Each IsFirst v.heads) where
  pub seen-took : (takes : List ℕ) → pick (node_took n) v.said.notes ≡ takes → picked (of_row (node_took n)) (seen_in x v) ≡ takes
  seen-took takes e =
      pick-seen (node_took n) x v
      ∙ ap (λ l. l ++ pick (node_took n) (rows_of x v)) (picked-none (of_row (node_took n)) v.heads (Each-weaker IsFirst (λ s. of_row (node_took n) s ≡ None) (took-behind n) v.heads first))
      ∙ pick-noted (node_took n) x v own (took-noted n) ∙ e

  pub seen-gave : (gives : List ℕ) → pick (node_gave_epoch n) v.said.gave ≡ gives → picked (of_row (node_gave_epoch n)) (seen_in x v) ≡ gives
  seen-gave gives e =
      pick-seen (node_gave_epoch n) x v
      ∙ ap (λ l. l ++ pick (node_gave_epoch n) (rows_of x v)) (picked-none (of_row (node_gave_epoch n)) v.heads (Each-weaker IsFirst (λ s. of_row (node_gave_epoch n) s ≡ None) (gave-behind n) v.heads first))
      ∙ pick-given (node_gave_epoch n) x v own (gave-given n) ∙ e

  -- the Offers that come are seen first
  pub seen-offers : (offers : List ℕ) → picked (epoch_offered n) v.heads ≡ offers → picked (epoch_offered n) (seen_in x v) ≡ offers
  seen-offers offers e = picked-append (epoch_offered n) v.heads (map Row (rows_of x v)) ∙ (λ i. e i ++ came-none (epoch_offered n) (λ r. refl) (rows_of x v) i) ∙ append-nil offers

-- ---- where node n does nothing of it

pub max-none : (h : ℕ) → max h 0 ≡ h
max-none h = omega arith

pub quiet-at : (nodes n : ℕ) (x : Conn) (v : Move) → IsItsOwn x v → NodesKnown x → Each IsFirst v.heads → picked (epoch_offered n) v.heads ≡ [] → pick (node_took n) v.said.notes ≡ [] → pick (node_gave_epoch n) v.said.gave ≡ []
    → epoch_in (v.part.nodes n) ≡ epoch_in (x.part.nodes n) → IsOfNodes (v.part.nodes n).row → At nodes x v n
quiet-at nodes n x v own known first offers took gave same late = record {
  takes = [];
  takes_are = seen-took n x v own first [] took;
  due = λ there. ap (above (highest (picked (of_row (node_took n)) x.seen))) (sym (seen-offers n x v own first [] offers));
  ends = subst (λ (l : List ℕ). EachIsTold l (picked (of_row (from_node n)) (seen_in x v))) (sym (seen-gave n x v own first [] gave)) tt;
  up = tt;
  then = max-none (highest (picked (of_row (node_took n)) x.seen)) ∙ known.highest_is n ∙ sym same;
  late = late;
}

-- ---- a move of another place

abbrev pub IsOther : ℕ → Place → Type 0
IsOther n Front = Unit {0}
IsOther n (Client d) = Unit {0}
IsOther n (Node m) = m ≢ n

other-took : (n : ℕ) (place : Place) (c : ℕ) (r : Rec) → IsOther n place → NotedAt place c r → node_took n r ≡ None
other-took n Front c (rec.Took Front d epoch) o h = refl
other-took n Front c (rec.Took (Node m) d epoch) o h = absurd h
other-took n Front c (rec.Took (Client e) d epoch) o h = refl
other-took n (Client e) c (rec.Took p d epoch) o h = absurd h
other-took n (Node m) c (rec.Took Front d epoch) o h = refl
other-took n (Node m) c (rec.Took (Client e) d epoch) o h = refl
other-took n (Node m) c (rec.Took (Node k) d epoch) o h = ap (λ b. cond b (Some epoch.0) None) (other_number k n (λ same. o (sym h.0 ∙ same)))
other-took n place c _ o h = refl

other-gave : (n : ℕ) (place : Place) (c : ℕ) (r : Rec) → IsOther n place → GaveAt place c r → node_gave_epoch n r ≡ None
other-gave n Front c (rec.Gave Front d epoch) o h = refl
other-gave n Front c (rec.Gave (Node m) d epoch) o h = absurd h
other-gave n Front c (rec.Gave (Client e) d epoch) o h = refl
other-gave n (Client e) c (rec.Gave p d epoch) o h = absurd h
other-gave n (Node m) c (rec.Gave Front d epoch) o h = refl
other-gave n (Node m) c (rec.Gave (Client e) d epoch) o h = refl
other-gave n (Node m) c (rec.Gave (Node k) d epoch) o h = ap (λ b. cond b (Some epoch.0) None) (other_number k n (λ same. o (sym h.0 ∙ same)))
other-gave n place c _ o h = refl

pub other-at : (nodes n : ℕ) (x : Conn) (v : Move) → IsItsOwn x v → NodesKnown x → Each IsFirst v.heads → picked (epoch_offered n) v.heads ≡ [] → IsOther n v.place → v.part.nodes n ≡ x.part.nodes n → At nodes x v n
other-at nodes n x v own known first offers other same = quiet-at nodes n x v own known first offers
    (pick-none (node_took n) v.said.notes (Each-weaker (NotedAt v.place x.c) (λ r. node_took n r ≡ None) (λ r. other-took n v.place x.c r other) v.said.notes own.notes))
    (pick-none (node_gave_epoch n) v.said.gave (Each-weaker (GaveAt v.place x.c) (λ r. node_gave_epoch n r ≡ None) (λ r. other-gave n v.place x.c r other) v.said.gave own.gave))
    (ap epoch_in same) (subst (λ (p : NodePart). IsOfNodes p.row) (sym same) (known.late n))
