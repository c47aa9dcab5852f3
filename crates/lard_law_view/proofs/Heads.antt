-- What is seen of an event, before all notes.
use Rattle.std.proofs.Common.{◌≡◌, ◌≢◌, ℕ, List, [], ◌∷◌, ◌++◌, map, false, Some, None, refl, ap, ◌∙◌, subst}
use Rattle.std.specs.List.{fold}
use Rattle.lard_law_view.specs.Prelude.{Came, Event, Front, Has, Letter, Machine, Node, Packet, Place, Rec, Row, Seen, Was, acting_in, answered_step, came_seen, conn, conn_of, event_conn, letter_of, one_of, packet_at, packet_seen, plain, seen_on, whose}
use Rattle.lard_base.specs.declared.event.Event.TheVariants as event
use Rattle.lard_law_view.proofs.Saying.{IsStill}
use Rattle.lard_history.proofs.Each.{Each, Each-weaker}
use Rattle.lard_history.proofs.Seeing.{AreOf, has-letter, of-whose, one-mine, one-other, seen-all, seen-mine, seen-none, seen-other}
use Rattle.lard_journal.specs.declared.rec.Rec.TheVariants as rec
use Rattle.lard_law_view.proofs.Deliveries.{IsDelivered, IsHead}
use Rattle.lard_law_view.proofs.OwnRecords.{IsAside, behind}

-- the place acts in the step of the event: it is named, or a packet comes to it
abbrev pub ActsAt : List Packet → Event → Place → Type 0
ActsAt net (event.Deliver k) place = (l : Packet) × (packet_at net k ≡ Some l) × (l.lost ≡ false) × (l.to ≡ place)
ActsAt net e place = (J : List Rec) → acting_in J e ≡ Some place

-- Connection c sees these heads of an event and of what stands directly behind it, and no other sees any of it. The place acts.
pub record Begins (m : Machine) (e : Event) (place : Place) (c : ℕ) (heads : List Seen) : Type 0 where
  pub mine : (i : ℕ) → seen_on c m.net (rec.Event i e ∷ behind e) ≡ heads
  pub others : (i q : ℕ) → q ≢ c → seen_on q m.net (rec.Event i e ∷ behind e) ≡ []
  pub still : Each IsStill (behind e)
  pub uncounted : (n : ℕ) → fold answered_step n (behind e) ≡ n
  pub acts : ActsAt m.net e place
  pub event : Each (IsHead e) heads
  pub came : Each (IsDelivered m.net e) heads

-- ---- of an event that names the connection

aside-of : (c : ℕ) (r : Rec) → IsAside c r → (whose r ≡ Some c) × (plain r ≡ r)
aside-of c (rec.Opened d isn iss wnd mss) h = (ap Some h, refl)
aside-of c (rec.Injected d) h = (ap Some h, refl)
aside-of c _ h = absurd h

aside-still : (c : ℕ) (r : Rec) → IsAside c r → IsStill r
aside-still c (rec.Opened d isn iss wnd mss) h = (refl, λ net. refl)
aside-still c (rec.Injected d) h = (refl, λ net. refl)
aside-still c _ h = absurd h

aside-uncounted : (c : ℕ) (rs : List Rec) → Each (IsAside c) rs → (n : ℕ) → fold answered_step n rs ≡ n
aside-uncounted c [] h n = refl
aside-uncounted c (r ∷ rs) h n = ap (λ k. fold answered_step k rs) (one r h.0) ∙ aside-uncounted c rs h.1 n where
  one : (r : Rec) → IsAside c r → answered_step n r ≡ n
  one (rec.Opened d isn iss wnd mss) g = refl
  one (rec.Injected d) g = refl
  one _ g = absurd g

aside-heads : (net : List Packet) (c : ℕ) (e : Event) (rs : List Rec) → Each (IsAside c) rs → Each (IsHead e) (map Row rs) × Each (IsDelivered net e) (map Row rs)
aside-heads net c e [] h = (tt, tt)
aside-heads net c e (r ∷ rs) h = let later = aside-heads net c e rs h.1 in ((one r h.0, later.0), (tt, later.1)) where
  one : (r : Rec) → IsAside c r → IsHead e (Row r)
  one (rec.Opened d isn iss wnd mss) g = tt
  one (rec.Injected d) g = tt
  one _ g = absurd g

pub names : (m : Machine) (e : Event) (place : Place) (c : ℕ) → event_conn e ≡ Some c → ActsAt m.net e place → Each (IsAside c) (behind e) → Begins m e place c (map Row (rec.Event 0 e ∷ behind e))
names m e place c of acts aside =
    let own : AreOf c (behind e) = Each-weaker (IsAside c) (λ r. (whose r ≡ Some c) × (plain r ≡ r)) (aside-of c) (behind e) aside in
    let heads = aside-heads m.net c e (behind e) aside in
    record {
      mine = λ i j. seen-mine c m.net (rec.Event i e) of j ++ seen-all c m.net (behind e) own j;
      others = λ i q n j. seen-other c q m.net (rec.Event i e) n of j ++ seen-none c q m.net (behind e) n (of-whose c (behind e) own) j;
      still = Each-weaker (IsAside c) IsStill (aside-still c) (behind e) aside;
      uncounted = λ n. aside-uncounted c (behind e) aside n;
      acts = acts;
      event = (refl, heads.0);
      came = (tt, heads.1);
    }

-- ---- of a packet that comes on the connection

module _ (m : Machine) (k c : ℕ) (p : Packet) (at : packet_at m.net k ≡ Some p) (from to : Place) (is-from : p.from ≡ from) (is-to : p.to ≡ to) (of : conn_of from to p.bytes ≡ Some c) where
  its : conn_of p.from p.to p.bytes ≡ Some c
  its = (λ i. conn_of (is-from i) (is-to i) p.bytes) ∙ of

  letter-is : ◌≡◌ {A = Letter} (letter_of p) (record { from = from; to = to; bytes = p.bytes })
  letter-is = λ i. record { from = is-from i; to = is-to i; bytes = p.bytes }

  pub comes : p.lost ≡ false → Begins m (event.Deliver k) to c (packet_seen from to p.bytes)
  comes there = record {
    mine = λ i. ap (λ o. came_seen c o ++ []) at ∙ ap (λ l. l ++ []) (one-mine c (conn_of p.from p.to p.bytes) (Came (letter_of p)) its) ∙ ap (λ (l : Letter). Came l ∷ []) letter-is;
    others = λ i q n. ap (λ o. came_seen q o ++ []) at ∙ ap (λ l. l ++ []) (one-other c q (conn_of p.from p.to p.bytes) (Came (letter_of p)) n its);
    still = ((refl, λ net. refl), tt);
    uncounted = λ n. refl;
    acts = (p, at, there, is-to);
    event = (tt, tt);
    came = ((k, p, refl, at, letter-is), tt);
  }

  -- it was sent
  pub was : Was (conn m c) from to p.bytes
  unfolding conn
  was = subst (λ (l : Letter). Has l (conn m c).letters) letter-is (has-letter c k m.net p at its)

-- a packet that is of no connection
pub comes-to-none : (m : Machine) (k : ℕ) (p : Packet) → packet_at m.net k ≡ Some p → conn_of p.from p.to p.bytes ≡ None → (i q : ℕ) → seen_on q m.net (rec.Event i (event.Deliver k) ∷ rec.Got k ∷ []) ≡ []
comes-to-none m k p at none i q = ap (λ o. came_seen q o ++ []) at ∙ ap (λ o. one_of q o (Came (letter_of p)) ++ []) none

-- ---- of a node that is closed, which names none

pub drains : (m : Machine) (n c : ℕ) → Begins m (event.Drain n) Front c []
drains m n c = record { mine = λ i. refl; others = λ i q k. refl; still = tt; uncounted = λ k. refl; acts = λ J. refl; event = tt; came = tt }

-- ---- of a job of a disk, which names none

pub completes : (m : Machine) (n j c : ℕ) → Begins m (event.Disk n j) (Node n) c []
completes m n j c = record { mine = λ i. refl; others = λ i q n. refl; still = tt; uncounted = λ n. refl; acts = λ J. refl; event = tt; came = tt }
