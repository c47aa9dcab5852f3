-- The two rounds before those that count: behind the first, each packet that is on its way is as what is sent within a settle is, and behind
-- the second as what is sent where such a packet came.
use Rattle.std.proofs.Common.{◌≡◌, ◌<◌, inl, inr, ⊎_elim, ℕ, nat_eq, Bool, true, false, cond, List, [], ◌∷◌, ◌++◌, length, Option, Some, None, Ok, refl, sym, ap, ◌∙◌, subst}
use Rattle.lard_agenda.specs.Laws.{is_on_way}
use Rattle.lard_law_view.specs.Prelude.{Came, Config, Conn, Event, GoesBy, Has, IsReached, Letter, Machine, Move, Packet, Place, Row, Seen, came_seen, conn, conn_of, grown, letter_of, letters, letters_of, machine_step, one_of, packet_at}
use Rattle.lard_base.specs.declared.event.Event.TheVariants as event
use Rattle.lard_bound.specs.Progress.{IfCame, came_in}
use Rattle.lard_bound.specs.Units.{Whole}
use Rattle.lard_law_view.proofs.Carried.{reached-viewed}
use Rattle.lard_law_settles.specs.CourseGame.{Task, game}
use Rattle.lard_law_view.proofs.Steps.{IsShown, shown}
use Rattle.lard_law_progress.proofs.Given.{IsRounds, rounds-rule}
use Rattle.lard_law_settles.proofs.CourseResting.{IsReady}
use Rattle.lard_law_settles.proofs.CourseSending.{more, new-has, new-letters, new-none}
use Rattle.lard_law_settles.proofs.CourseWays.{KeepsPackets, Takes, Ways, step-ways}
use Rattle.lard_history.proofs.Seeing.{by_number, one-mine, one-other}
use Rattle.lard_journal.specs.declared.rec.Rec.TheVariants as rec
use Rattle.lard_rounds.proofs.Ripening.{ripens}
use Rattle.lard_rounds.specs.Ripening.{Ripens, Turns}
use Rattle.lard_rounds.specs.Rounds.{Game, Round}
use Rattle.lard_law_settles.proofs.EnoughOwned.{way-known, way-there}

-- ---- moves

-- Of a move, with two facts of a packet: both stay so of each packet; the first is so of all that is sent, and the second where the first is
-- so of the packet that came.
pub record Warms (First Second : Conn → Letter → Type 0) (x : Conn) (v : Move) : Type 0 where
  pub first_stays : (l : Letter) → First x l → First (grown x v) l
  pub second_stays : (l : Letter) → Second x l → Second (grown x v) l
  pub first_sent : (l : Letter) → Has l (letters_of v) → First (grown x v) l
  pub second_sent : IfCame (First x) (came_in v.heads) → (l : Letter) → Has l (letters_of v) → Second (grown x v) l

-- ---- packets

-- it is so of a packet, by its connection
abbrev pub OfPacket : (Conn → Letter → Type 0) → Machine → ℕ → Type 0
OfPacket P m k = (p : Packet) → packet_at m.net k ≡ Some p → (q : ℕ) → conn_of p.from p.to p.bytes ≡ Some q → P (conn m q) (letter_of p)

-- and of each that is on its way
abbrev pub OfAll : (Conn → Letter → Type 0) → Machine → Type 0
OfAll P m = (k : ℕ) → is_on_way m.journal k ≡ true → OfPacket P m k

-- ---- what comes in a step

-- what is so of a packet is so of it where it comes
came-so : (P : Conn → Letter → Type 0) (m : Machine) (k : ℕ) → OfPacket P m k → (q : ℕ) → IfCame (P (conn m q)) (came_in (shown m (event.Deliver k) q))
came-so P m k so q = go (packet_at m.net k) refl where
  of : (p : Packet) → packet_at m.net k ≡ Some p → (o : Option ℕ) → conn_of p.from p.to p.bytes ≡ o → IfCame (P (conn m q)) (came_in (came_seen q (Some p) ++ []))
  of p at None is = subst (λ (o : Option ℕ). IfCame (P (conn m q)) (came_in (one_of q o (Came (letter_of p)) ++ []))) (sym is) tt
  of p at (Some c) is = by_number (IfCame (P (conn m q)) (came_in (came_seen q (Some p) ++ []))) c q
      (λ same.
      let its : conn_of p.from p.to p.bytes ≡ Some q = is ∙ ap (λ d. Some d) same in
      subst (λ (ss : List Seen). IfCame (P (conn m q)) (came_in (ss ++ []))) (sym (one-mine q (conn_of p.from p.to p.bytes) (Came (letter_of p)) its)) (so p at q its))
      (λ other. subst (λ (ss : List Seen). IfCame (P (conn m q)) (came_in (ss ++ []))) (sym (one-other c q (conn_of p.from p.to p.bytes) (Came (letter_of p)) (λ s. other (sym s)) is)) tt)

  go : (o : Option Packet) → packet_at m.net k ≡ o → IfCame (P (conn m q)) (came_in (came_seen q o ++ []))
  go None at = tt
  go (Some p) at = of p at (conn_of p.from p.to p.bytes) refl

timer-so : (P : Conn → Letter → Type 0) (m : Machine) (place : Place) (c q : ℕ) → IfCame (P (conn m q)) (came_in (shown m (event.Timer place c) q))
timer-so P m place c q = go (nat_eq c q) where
  go : (b : Bool) → IfCame (P (conn m q)) (came_in (cond b (Row (rec.Event 0 (event.Timer place c)) ∷ []) [] ++ []))
  go true = tt
  go false = tt

shown-so : (P : Conn → Letter → Type 0) (m : Machine) (e : Event) → IsRounds e → IsReady m e → OfAll P m → (q : ℕ) → IfCame (P (conn m q)) (came_in (shown m e q))
shown-so P m (event.Deliver k) of on so q = came-so P m k (so k on) q
shown-so P m (event.Disk n j) of on so q = tt
shown-so P m (event.Timer place c) of on so q = timer-so P m place c q
shown-so P m _ of on so q = absurd of

named : (m : Machine) (q : ℕ) → (conn m q).c ≡ q
unfolding conn
named m q = refl

-- so it is where a connection moves
pub comes-so : (P : Conn → Letter → Type 0) (m : Machine) (e : Event) → IsRounds e → IsReady m e → OfAll P m → (q : ℕ) (v : Move) → IsShown m e (conn m q) v → IfCame (P (conn m q)) (came_in v.heads)
comes-so P m e of on so q v s = subst (λ (hs : List Seen). IfCame (P (conn m q)) (came_in hs)) (sym (s.heads ∙ ap (λ (c : ℕ). shown m e c) (named m q))) (shown-so P m e of on so q)

module _ (config : Config) (files : List (List ℕ × List ℕ)) (all : ℕ → Whole) (Good Within : Machine → Type 0) (First Second : Conn → Letter → Type 0) where
  abbrev G : Game Machine Task
  G = game all Good

  -- What is known of machines within a settle, and that each connection that moves in a step of a round owes as much.
  pub record Warming : Type 0 where
    pub reached : (m : Machine) → Within m → IsReached config files m
    pub kept : (m n : Machine) (e : Event) → Within m → IsRounds e → machine_step m e ≡ Ok n → Within n
    pub moves : (m n : Machine) (e : Event) → Within m → IsRounds e → machine_step m e ≡ Ok n → (q : ℕ) → GoesBy (λ x v. IsShown m e x v × Warms First Second x v) (conn m q) (conn n q)
    pub follows : (x : Conn) (l : Letter) → Second x l → First x l

  module _ (h : Warming) where
    some-is : {A : Type 0} (x y : A) → Some x ≡ Some y → x ≡ y
    some-is x y e = cc

    keeps-packets : (e : Event) (m n : Machine) → IsRounds e → KeepsPackets e m n → (k : ℕ) (p : Packet) → packet_at m.net k ≡ Some p → packet_at n.net k ≡ Some p
    keeps-packets (event.Deliver j) m n of h = h
    keeps-packets (event.Disk i j) m n of h = h
    keeps-packets (event.Timer p c) m n of h = h
    keeps-packets _ m n of h = absurd of

    -- ---- a step

    module _ (m n : Machine) (e : Event) (w : Within m) (of : IsRounds e) (is : machine_step m e ≡ Ok n) where
      ways : Ways m e n
      ways = step-ways m (reached-viewed config files m (h.reached m w)) e n (rounds-rule e of) is

      packets : (k : ℕ) (p : Packet) → packet_at m.net k ≡ Some p → packet_at n.net k ≡ Some p
      packets = keeps-packets e m n of ways.packets

      -- what is so of a packet that waits stays so
      stays-so : (P : Conn → Letter → Type 0) → ((x : Conn) (v : Move) → Warms First Second x v → (l : Letter) → P x l → P (grown x v) l) → (k : ℕ) → is_on_way m.journal k ≡ true → OfPacket P m k → OfPacket P n k
      stays-so P stays k on so p at q its =
          let was = way-there config files m (h.reached m w) k on in
          let same : was.0 ≡ p = some-is was.0 p (sym (packets k was.0 was.1) ∙ at) in
          let here : P (conn m q) (letter_of p) = so p (was.1 ∙ ap (λ (x : Packet). Some x) same) q its in
          ⊎_elim
          (λ (still : conn n q ≡ conn m q). subst (λ (y : Conn). P y (letter_of p)) (sym still) here)
          (λ (g : (v : Move) × (IsShown m e (conn m q) v × Warms First Second (conn m q) v) × (conn n q ≡ grown (conn m q) v)).
          subst (λ (y : Conn). P y (letter_of p)) (sym g.2) (stays (conn m q) g.0 g.1.1 (letter_of p) here))
          (h.moves m n e w of is q)

      -- and of what is sent it is so as its connection's move says
      sent-so : (P : Conn → Letter → Type 0) → ((q : ℕ) (v : Move) → IsShown m e (conn m q) v → Warms First Second (conn m q) v → (l : Letter) → Has l (letters_of v) → P (grown (conn m q) v) l)
          → (k : ℕ) → length m.net < k → OfPacket P n k
      sent-so P sent k late p at q its =
          let has : Has (letter_of p) (letters q (more m n packets)) = new-has m n packets k p q late at its in
          ⊎_elim
          (λ (still : conn n q ≡ conn m q). absurd (subst (λ ls. Has (letter_of p) ls) (new-none m n packets q still) has))
          (λ (g : (v : Move) × (IsShown m e (conn m q) v × Warms First Second (conn m q) v) × (conn n q ≡ grown (conn m q) v)).
          subst (λ (y : Conn). P y (letter_of p)) (sym g.2) (sent q g.0 g.1.0 g.1.1 (letter_of p) (subst (λ ls. Has (letter_of p) ls) (new-letters m n packets q g.0 g.2) has)))
          (h.moves m n e w of is q)

      first-stays : (k : ℕ) → is_on_way m.journal k ≡ true → OfPacket First m k → OfPacket First n k
      first-stays = stays-so First (λ x v s. s.first_stays)

      second-stays : (k : ℕ) → is_on_way m.journal k ≡ true → OfPacket Second m k → OfPacket Second n k
      second-stays = stays-so Second (λ x v s. s.second_stays)

      first-sent : (k : ℕ) → length m.net < k → OfPacket First n k
      first-sent = sent-so First (λ q v s warms. warms.first_sent)

      second-sent : ((q : ℕ) → IfCame (First (conn m q)) (came_in (shown m e q))) → (k : ℕ) → length m.net < k → OfPacket Second n k
      second-sent so = sent-so Second (λ q v s warms. warms.second_sent
          (subst (λ (hs : List Seen). IfCame (First (conn m q)) (came_in hs)) (sym (s.heads ∙ ap (λ (c : ℕ). shown m e c) (named m q))) (so q)))

    -- ---- rounds

    first-turns : (m n : Machine) (e : Event) → Within m → IsRounds e → machine_step m e ≡ Ok n → Turns G Within (λ l k. Unit {0}) (OfPacket First) m n
    first-turns m n e w of is =
        let s : Ways m e n = ways m n e w of is in record {
          good = h.kept m n e w of is;
          more = s.more;
          way = λ k on. ⊎_elim
              (λ (x : (is_on_way m.journal k ≡ true) × (Takes e k → ⊥)). inl (x.0, (λ b. tt), first-stays m n e w of is k x.0))
              (λ (late : length m.net < k). inr (late, first-sent m n e w of is k late))
              (s.way k on);
        }

    second-turns : (m n : Machine) (e : Event) → Within m → IsRounds e → machine_step m e ≡ Ok n → ((q : ℕ) → IfCame (First (conn m q)) (came_in (shown m e q))) → Turns G Within (OfPacket First) (OfPacket Second) m n
    second-turns m n e w of is so =
        let s : Ways m e n = ways m n e w of is in record {
          good = h.kept m n e w of is;
          more = s.more;
          way = λ k on. ⊎_elim
              (λ (x : (is_on_way m.journal k ≡ true) × (Takes e k → ⊥)). inl (x.0, first-stays m n e w of is k x.0, second-stays m n e w of is k x.0))
              (λ (late : length m.net < k). inr (late, second-sent m n e w of is so k late))
              (s.way k on);
        }

    first-ripens : Ripens G Within (λ l k. Unit {0}) (OfPacket First)
    first-ripens = record {
      packets = λ m n k w on before is. first-turns m n (event.Deliver k) w tt is;
      jobs = λ m n t w waits does. first-turns m n (event.Disk t.0 1) w refl does.3;
      timers = λ m n w fires. first-turns m n (event.Timer fires.0 fires.1) w fires.2 fires.3;
      are_timers = λ m n b. (b.0, b.1, b.3, b.5);
      known = λ m k w on. way-known config files m (h.reached m w) k on;
    }

    second-ripens : Ripens G Within (OfPacket First) (OfPacket Second)
    second-ripens = record {
      packets = λ m n k w on before is. second-turns m n (event.Deliver k) w tt is (came-so First m k before);
      jobs = λ m n t w waits does. second-turns m n (event.Disk t.0 1) w refl does.3 (λ q. tt);
      timers = λ m n w fires. second-turns m n (event.Timer fires.0 fires.1) w fires.2 fires.3 (timer-so First m fires.0 fires.1);
      are_timers = λ m n b. (b.0, b.1, b.3, b.5);
      known = λ m k w on. way-known config files m (h.reached m w) k on;
    }

    -- behind one round all is as the first says, and behind one more as the second does
    pub first-round : (m n : Machine) → Within m → Round G m n → Within n × OfAll First n
    first-round m n w r = ripens G Within (λ l k. Unit {0}) (OfPacket First) first-ripens m n w (λ k on. tt) r

    pub second-round : (m n : Machine) → Within m × OfAll First m → Round G m n → Within n × OfAll Second n
    second-round m n w r = ripens G Within (OfPacket First) (OfPacket Second) second-ripens m n w.0 w.1 r

    -- ---- and so it stays

    pub second-stays-so : (m n : Machine) (e : Event) → Within m × OfAll Second m → IsRounds e → IsReady m e → machine_step m e ≡ Ok n → Within n × OfAll Second n
    second-stays-so m n e w of ready is =
        let t = second-turns m n e w.0 of is (shown-so First m e of ready (λ k on p at c its. h.follows (conn m c) (letter_of p) (w.1 k on p at c its))) in (
          t.good,
          λ k on. ⊎_elim
              (λ (x : (is_on_way m.journal k ≡ true) × (OfPacket First m k → OfPacket First n k) × (OfPacket Second m k → OfPacket Second n k)). x.2 (w.1 k x.0))
              (λ (x : (length m.net < k) × OfPacket Second n k). x.1)
              (t.way k on),
        )
