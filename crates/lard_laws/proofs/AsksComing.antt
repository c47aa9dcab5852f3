-- What comes on a connection in a step is the packet that the event delivers.
use Rattle.std.proofs.Common.{◌≡◌, ℕ, Bool, true, false, cond, not, List, [], ◌∷◌, ◌++◌, Option, Some, None, nat_eq, eqb-true, refl, sym, ap, ◌∙◌, subst, inl, inr}
use Rattle.std.specs.Prelude.{◌⊎◌}
use Rattle.std.specs.List.{list_all}
use Rattle.std.proofs.lemmas.Bool.{and_parts, cond_both}
use Rattle.lard_law_view.specs.Prelude.{AreOwn, Came, Event, Machine, Packet, Rec, Row, Seen, came_seen, conn_of, is_own, letter_of, net_step, one_of, packet_at, plain, request, seen_of, seen_on, whose}
use Rattle.lard_base.specs.declared.event.Event.TheVariants as event
use Rattle.lard_laws.specs.Asks.{ask_in}
use Rattle.lard_law_connections.specs.MotionStory.{picked}
use Rattle.lard_law_view.proofs.After.{IsAfter}
use Rattle.lard_history.proofs.Each.{Each, Each-append}
use Rattle.lard_journal.specs.declared.rec.Rec.TheVariants as rec

-- ---- records, and what is seen of them

abbrev pub IsRow : Seen → Type 0
IsRow (Row r) = Unit {0}
IsRow (Came l) = ⊥

-- no packet comes by it
abbrev IsUngot : Rec → Type 0
IsUngot (rec.Got k) = ⊥
IsUngot _ = Unit {0}

one-row : (q : ℕ) (o : Option ℕ) (r : Rec) → Each IsRow (one_of q o (Row r))
one-row q None r = tt
one-row q (Some c) r = cond_both (nat_eq c q) (Row r ∷ []) [] (Each IsRow) (λ t. (tt, tt)) (λ t. tt)

ungot-row : (q : ℕ) (net : List Packet) (r : Rec) → IsUngot r → Each IsRow (seen_of q net r)
ungot-row q net (rec.Got k) h = absurd h
ungot-row q net (rec.Event i e) h = one-row q (whose (rec.Event i e)) (rec.Event 0 e)
ungot-row q net (rec.Inner e) h = one-row q (whose (rec.Inner e)) (rec.Inner e)
ungot-row q net (rec.Sent k from to bytes) h = one-row q (conn_of from to bytes) (rec.Sent 0 from to bytes)
ungot-row q net r h = one-row q (whose r) (plain r)

ungot-rows : (q : ℕ) (net : List Packet) (rs : List Rec) → Each IsUngot rs → Each IsRow (seen_on q net rs)
ungot-rows q net [] e = tt
ungot-rows q net (r ∷ rs) e = Each-append IsRow (seen_of q net r) (seen_on q (net_step net r) rs) (ungot-row q net r e.0) (ungot-rows q (net_step net r) rs e.1)

-- of records, none is an Ask that comes
pub rows-unasked : (ss : List Seen) → Each IsRow ss → picked ask_in ss ≡ []
rows-unasked [] e = refl
rows-unasked (Row r ∷ ss) e = rows-unasked ss e.1
rows-unasked (Came l ∷ ss) e = absurd e.0

-- ---- an event's records

others-ungot : (rs : List Rec) → list_all (λ r. not (is_own r)) rs ≡ true → Each IsUngot rs
others-ungot [] e = tt
others-ungot (r ∷ rs) e = (one r ((and_parts (not (is_own r)) (list_all (λ q. not (is_own q)) rs) e).0), others-ungot rs ((and_parts (not (is_own r)) (list_all (λ q. not (is_own q)) rs) e).1)) where
  one : (r : Rec) → not (is_own r) ≡ true → IsUngot r
  one (rec.Got k) h = let no : false ≡ true = h in absurd cc
  one _ h = tt

abbrev IsOther : Event → Type 0
IsOther (event.Deliver k) = ⊥
IsOther _ = Unit {0}

-- one record or none
one-or-none : (own : List Rec) (r : Rec) → IsUngot r → (own ≡ r ∷ []) ⊎ (own ≡ []) → Each IsUngot own
one-or-none own r h (inl one) = subst (Each IsUngot) (sym one) (h, tt)
one-or-none own r h (inr none) = subst (Each IsUngot) (sym none) tt

own-ungot : (e : Event) (own : List Rec) → IsOther e → AreOwn e own → Each IsUngot own
own-ungot (event.Open c isn iss wnd mss) own o is = subst (Each IsUngot) (sym is) (tt, tt)
own-ungot (event.Get c path) own o is = one-or-none own (rec.Wrote c (request path)) tt is
own-ungot (event.Write c bytes) own o is = one-or-none own (rec.Wrote c bytes) tt is
own-ungot (event.Abort c) own o is = subst (Each IsUngot) (sym is) (tt, tt)
own-ungot (event.Deliver k) own o is = absurd o
own-ungot (event.Lose k) own o is = subst (Each IsUngot) (sym is) (tt, tt)
own-ungot (event.Inject c bytes) own o is = subst (Each IsUngot) (sym is) (tt, tt)
own-ungot (event.Drain n) own o is = one-or-none own (rec.Closed n) tt is
own-ungot (event.Clock ms) own o is = subst (Each IsUngot) (sym is.1) (tt, tt)
own-ungot _ own o is = subst (Each IsUngot) (sym is) tt

-- ---- what comes

-- The event delivers this packet, which is seen to come, and records behind it.
pub record Delivers (q : ℕ) (net : List Packet) (e : Event) (seen : List Seen) : Type 0 where
  pub k : ℕ
  pub p : Packet
  pub is : e ≡ event.Deliver k
  pub at : packet_at net k ≡ Some p
  pub of : conn_of p.from p.to p.bytes ≡ Some q
  pub rows : List Seen
  pub seen_is : seen ≡ Came (letter_of p) ∷ rows
  pub behind : Each IsRow rows

-- it is so, or nothing comes
abbrev pub MayCome : ℕ → List Packet → Event → List Seen → Type 0
MayCome q net e seen = Each IsRow seen ⊎ Delivers q net e seen

module _ (q : ℕ) (net : List Packet) where
  no-packet : (i : ℕ) (e : Event) (own others : List Rec) → IsOther e → AreOwn e own → list_all (λ r. not (is_own r)) others ≡ true → Each IsRow (seen_on q net (rec.Event i e ∷ own ++ others))
  no-packet i e own others other is alone = ungot-rows q net (rec.Event i e ∷ own ++ others) (tt, Each-append IsUngot own others (own-ungot e own other is) (others-ungot others alone))

  module _ (k : ℕ) (rows : List Seen) (behind : Each IsRow rows) where
    -- the packet, if it is there, is of the connection or of another one
    by-test : (p : Packet) (d : ℕ) (b : Bool) → nat_eq d q ≡ b → packet_at net k ≡ Some p → conn_of p.from p.to p.bytes ≡ Some d → MayCome q net (event.Deliver k) (cond b (Came (letter_of p) ∷ []) [] ++ rows)
    by-test p d true same at of = inr (record { k = k; p = p; is = refl; at = at; of = of ∙ ap Some (eqb-true d q same); rows = rows; seen_is = refl; behind = behind })
    by-test p d false same at of = inl behind

    by-conn : (p : Packet) (o : Option ℕ) → packet_at net k ≡ Some p → conn_of p.from p.to p.bytes ≡ o → MayCome q net (event.Deliver k) (one_of q o (Came (letter_of p)) ++ rows)
    by-conn p None at of = inl behind
    by-conn p (Some d) at of = by-test p d (nat_eq d q) refl at of

    by-packet : (o : Option Packet) → packet_at net k ≡ o → MayCome q net (event.Deliver k) (came_seen q o ++ rows)
    by-packet None at = inl behind
    by-packet (Some p) at = by-conn p (conn_of p.from p.to p.bytes) at refl

  by-event : (i : ℕ) (e : Event) (own others : List Rec) → AreOwn e own → list_all (λ r. not (is_own r)) others ≡ true → MayCome q net e (seen_on q net (rec.Event i e ∷ own ++ others))
  by-event i (event.Deliver k) own others is alone =
      subst (λ (rs : List Rec). MayCome q net (event.Deliver k) (seen_on q net (rec.Event i (event.Deliver k) ∷ rs ++ others))) (sym is)
      (by-packet k (seen_on q net others) (ungot-rows q net others (others-ungot others alone)) (packet_at net k) refl)
  by-event i e own others is alone = inl (no-packet i e own others tt is alone)

pub step-comes : (q : ℕ) (m n : Machine) (e : Event) (after : IsAfter m e n) (net : List Packet) → MayCome q net e (seen_on q net after.step)
step-comes q m n e after net = subst (λ (rs : List Rec). MayCome q net e (seen_on q net rs)) (sym after.follows.is) (by-event q net n.events e after.follows.own after.follows.others after.follows.own_are after.follows.alone)
