-- A step that is done has one of the shapes.
use Rattle.lard_law_view.proofs.Saying.{NamesNobody}
use Rattle.std.proofs.Common.{◌≡◌, ℕ, ◌-◌, Bool, true, false, cond, nat_lt, List, [], ◌∷◌, length, Option, Some, None, Result, Ok, Err, refl, sym, ap, ◌∙◌, subst, ◌++◌, inl, inr}
use Rattle.std.specs.FinMap as table
use Rattle.std.proofs.lemmas.Bool.{cond_both}
use Rattle.lard_history.proofs.Each.{Each}
use Rattle.lard_law_view.specs.Prelude.{AreOwn, Client, ClientBlock, Conn, Event, Front, HasRule, IsUnheard, IsViewed, Machine, Move, Node, NodeState, Packet, Place, Rec, Rules, Seen, Station, StepFault, ToClient, Turn, What, client_aborts, client_acts, client_gets, client_goes_on, client_holds, client_injects, client_opens, client_shuts, client_takes, client_timer, client_writes, closed_note, completes, conn, conn_of, decoded, decoded_message, delivered, disk_at, drained, from_place, front_acts, front_drains, happens, has_other_open, is_client_armed, is_no_job, is_no_node, is_open, limit_reached, lose_at, lost, machine_opened, machine_step, machine_to_client, machine_to_front, machine_wrote, node_acts, node_at, node_gave, node_setting, node_step, packet_at, part_of, passed, request, setting_of, station_armed, timer, to_place, unless_limit, written_len}
use Rattle.lard_base.specs.declared.event.Event.TheVariants as event
use Rattle.lard_rules.specs.declared.fault.Refusal.TheVariants.{LastNode, NoJob, NoNode, WasLost}
use Rattle.lard_rules.specs.declared.fault.StepFault.TheVariants.{Limit, Refused}
use Rattle.lard_law_view.specs.View as moves
use Rattle.lard_law_view.proofs.Clients.{client-acts}
use Rattle.lard_law_view.proofs.Heads.{Begins, comes, drains, names, was}
use Rattle.lard_law_view.proofs.Firing.{disk-completes, front-fires, front-gets, node-fires}
use Rattle.lard_law_view.proofs.Hearing.{front-message, node-message}
use Rattle.lard_law_view.proofs.Nothing.{node-there}
use Rattle.lard_law_view.proofs.Numbers.{client-number}
use Rattle.lard_law_view.proofs.Shapes.{ActsOnEach, Shapes}
use Rattle.lard_law_view.proofs.Turned.{between-has}
use Rattle.lard_journal.specs.declared.rec.Rec.TheVariants as rec
use Rattle.lard_rules.specs.declared.fault.What.TheVariants.{Stream}
use Rattle.lard_rules.specs.declared.front.FrontIn.TheVariants as input
use Rattle.lard_rules.specs.declared.node.BackIn.TheVariants as back
use Rattle.lard_law_view.proofs.Firsts.{HasOwn, gets-others, own-alone, writes-own}
use Rattle.lard_law_view.proofs.OwnRecords.{behind}
use Rattle.lard_law_view.proofs.PlaceTurns.{IsClientTurn, aborts-turn, fires-turn, hears-turn, holds-turn, injects-turn, opens-turn, shuts-turn, takes-turn, writes-turn}

module _ (m : Machine) (view : IsViewed m) (P : Conn → Move → Type 0) (R : Rules (setting_of m) P) (Q : Event → Machine → Type 0) (shapes : Shapes m P Q) where
  -- ---- events of clients

  -- one that opened acts
  goes-on : (e : Event) (c : ℕ) (x : Station) (given : ClientBlock × Turn) (heads : List Seen) → table.get m.clients c ≡ Some x → Begins m e (Client c) c heads → IsClientTurn c given → HasOwn e (behind e ++ given.1.notes)
      → P (conn m c) (moves.client_does (conn m c) x heads given) → Q e (client_goes_on m e (behind e) c x given)
  unfolding conn part_of
  goes-on e c x given heads is begins turn first does =
      client-acts m P Q shapes e c x.iss (is_client_armed x.client) given heads (client-number (conn m c) x (view.sound c) is) (sym (ap station_armed is)) turn begins first does

  -- its client is its own
  own : (c : ℕ) (x : Station) → table.get m.clients c ≡ Some x → x.client.c ≡ c
  unfolding conn part_of
  own c x is = (view.sound c).client x is

  module _ (n : Machine) where
    -- what is so of the state that a step gives
    done : (e : Event) (given : Machine) → Q e given → ◌≡◌ {A = Result Machine StepFault} (Ok given) (Ok n) → Q e n
    done e given q is = let same : given ≡ n = cc in subst (Q e) same q

    opened-is : (c isn iss wnd mss : ℕ) (o : Option Station) → HasRule (event.Open c isn iss wnd mss) → table.get m.clients c ≡ o → machine_opened m c isn iss wnd mss o ≡ Ok n → Q (event.Open c isn iss wnd mss) n
    unfolding machine_opened conn part_of
    opened-is c isn iss wnd mss None h none is =
        let e : Event = event.Open c isn iss wnd mss in
        done e _ (client-acts m P Q shapes e c iss false (client_opens c isn wnd mss) _ h.6 (sym (ap station_armed none)) (opens-turn c isn wnd mss) (names m e (Client c) c refl (λ J. refl) (refl, tt))
        (own-alone e (rec.Opened c isn iss wnd mss ∷ []) refl) (R.untouched.client.opens (conn m c) isn iss wnd mss h none)) is
    opened-is c isn iss wnd mss (Some x) h at is = cc

    -- bytes are written, of an event with nothing behind it
    wrote-is : (e : Event) (c : ℕ) (bytes : List ℕ) (o : Option Station) → table.get m.clients c ≡ o
        → ((x : Station) → o ≡ Some x → nat_lt m.config.stream (written_len x.client bytes) ≡ false → Q e (client_goes_on m e [] c x (client_writes x.client bytes)))
        → machine_wrote m e c bytes o ≡ Ok n → Q e n
    unfolding machine_wrote
    wrote-is e c bytes None at g is = cc
    wrote-is e c bytes (Some x) at g is = go (nat_lt m.config.stream (written_len x.client bytes)) refl is where
      go : (b : Bool) → nat_lt m.config.stream (written_len x.client bytes) ≡ b
          → cond {A = Result Machine StepFault} b (Err (Limit Stream)) (Ok (client_goes_on m e [] c x (client_writes x.client bytes))) ≡ Ok n → Q e n
      go true t i = cc
      go false t i = done e _ (g x refl t) i

    -- an event of a client that opened
    does-is : (e : Event) (own_ : List Rec) (c : ℕ) (rule : ClientBlock → ClientBlock × Turn) (o : Option Station) → ((x : Station) → o ≡ Some x → Q e (client_goes_on m e own_ c x (rule x.client)))
        → client_acts m e own_ c rule o ≡ Ok n → Q e n
    unfolding client_acts
    does-is e own_ c rule None g is = cc
    does-is e own_ c rule (Some x) g is = done e _ (g x refl) is

    -- ---- timers

    node-timer-is : (i c : ℕ) (x : Station) → table.get m.clients c ≡ Some x → (b : Bool) → is_no_node m.config.nodes i ≡ b
        → cond {A = Result Machine StepFault} b (Err (Refused (NoNode i m.config.nodes))) (Ok (node_acts m (event.Timer (Node i) c) [] i (back.Timer c) (node_at m.nodes i))) ≡ Ok n → Q (event.Timer (Node i) c) n
    node-timer-is i c x at true t is = cc
    node-timer-is i c x at false t is =
        let e : Event = event.Timer (Node i) c in
        let got = node-there m.nodes m.config.nodes i view.nodes t in
        done e _ (subst (λ (o : Option NodeState). Q e (node_acts m e [] i (back.Timer c) o)) (sym got.1) (node-fires m view P R Q shapes c x at i got.0 got.1)) is

    timer-is : (p : Place) (c : ℕ) (o : Option Station) → HasRule (event.Timer p c) → table.get m.clients c ≡ o → timer m p c o ≡ Ok n → Q (event.Timer p c) n
    unfolding timer conn part_of
    timer-is p c None h at is = cc
    timer-is Front c (Some x) h at is = done (event.Timer Front c) _ (front-fires m view P R Q shapes c x at) is
    timer-is (Client d) c (Some x) h at is =
        done (event.Timer (Client d) c) _ (subst (λ (z : ℕ). Q (event.Timer (Client z) c) (client_goes_on m (event.Timer (Client z) c) [] c x (client_timer x.client))) (sym h)
        (goes-on (event.Timer (Client c) c) c x (client_timer x.client) _ at (names m (event.Timer (Client c) c) (Client c) c refl (λ J. refl) tt) (fires-turn c x.client (own c x at)) (own-alone (event.Timer (Client c) c) [] refl) (R.untouched.client.fires (conn m c) x at))) is
    timer-is (Node i) c (Some x) h at is = node-timer-is i c x at (is_no_node m.config.nodes i) refl is

    -- ---- packets

    module _ (k : ℕ) (p : Packet) (at : packet_at m.net k ≡ Some p) (there : p.lost ≡ false) where
      -- a packet that no rule hears, by where it comes from and goes
      unheard-as : (d : ℕ) (from to : Place) → p.from ≡ from → p.to ≡ to → IsUnheard m.config.nodes (table.get m.clients d) from to p.bytes → IsUnheard m.config.nodes (table.get m.clients d) p.from p.to p.bytes
      unheard-as d from to is-from is-to h =
          subst (λ (f : Place). IsUnheard m.config.nodes (table.get m.clients d) f p.to p.bytes) (sym is-from)
          (subst (λ (t : Place). IsUnheard m.config.nodes (table.get m.clients d) from t p.bytes) (sym is-to) h)

      number-same : (c d : ℕ) → Some c ≡ Some d → c ≡ d
      number-same c d e = cc

      front-is : (c : ℕ) (o : Option Station) → p.from ≡ Client c → p.to ≡ Front → table.get m.clients c ≡ o → Q (event.Deliver k) (machine_to_front m k p.bytes c o)
      front-is c None from to is = shapes.nobody k p at (
        there,
        (λ d goal. let no : Front ≡ Client d = sym to ∙ goal in absurd cc),
        λ d named.
            let same : c ≡ d = number-same c d (sym (ap (λ (f : Place). conn_of f p.to p.bytes) from) ∙ named) in
            unheard-as d (Client c) Front from to (subst (λ (q : ℕ). table.get m.clients q ≡ None) same is),
      )
      front-is c (Some x) from to is = front-gets m view P R Q shapes c x is k p at there from to

      from-is : (from : Place) → p.from ≡ from → p.to ≡ Front → Q (event.Deliver k) (from_place m k p.bytes from)
      from-is (Client c) from to = front-is c (table.get m.clients c) from to refl
      from-is Front from to = shapes.nobody k p at (there, (λ d goal. let no : Front ≡ Client d = sym to ∙ goal in absurd cc), λ d named. unheard-as d Front Front from to tt)
      from-is (Node i) from to = front-message m view P R Q shapes k p at there i from to (decoded_message p.bytes) refl

      one-client : (c d : ℕ) → Client c ≡ Client d → c ≡ d
      one-client c d e = cc

      -- a packet that comes to a client is of its connection
      client-of : (c : ℕ) (from : Place) → p.from ≡ from → p.to ≡ Client c → conn_of from (Client c) p.bytes ≡ Some c
      unfolding conn
      client-of c Front from to = refl
      client-of c (Node i) from to = refl
      client-of c (Client d) from to = absurd (between-has d (record { from = Client d; to = Client c; bytes = p.bytes }) (conn m d).letters (was m k d p at (Client d) (Client c) from to refl) (view.sound d).between)

      client-is : (c : ℕ) (o : Option Station) → p.to ≡ Client c → table.get m.clients c ≡ o → Q (event.Deliver k) (machine_to_client m k p.bytes c o)
      unfolding conn part_of
      client-is c None to is =
          shapes.nobody k p at (there, (λ d goal. let same : c ≡ d = one-client c d (sym to ∙ goal) in subst (λ (q : ℕ). table.get m.clients q ≡ None) same is), λ d named. unheard-as d p.from (Client c) refl to (to-client d p.from)) where
            to-client : (d : ℕ) (from : Place) → IsUnheard m.config.nodes (table.get m.clients d) from (Client c) p.bytes
            to-client d Front = tt
            to-client d (Node i) = tt
            to-client d (Client q) = tt
      client-is c (Some x) to is =
          let of : conn_of p.from (Client c) p.bytes ≡ Some c = client-of c p.from refl to in
          goes-on (event.Deliver k) c x (client_gets x.client (decoded p.bytes c ToClient)) _ is (comes m k c p at p.from (Client c) refl to of there)
          (hears-turn c x.client (own c x is) (decoded p.bytes c ToClient))
          (rec.Got k ∷ [], (client_gets x.client (decoded p.bytes c ToClient)).1.notes, refl, refl, gets-others x.client (decoded p.bytes c ToClient)) (R.untouched.client.hears (conn m c) x p.from p.bytes is (was m k c p at p.from (Client c) refl to of))

      node-is : (i : ℕ) (o : Option NodeState) → node_at m.nodes i ≡ o → p.to ≡ Node i → Q (event.Deliver k) (node_acts m (event.Deliver k) (rec.Got k ∷ []) i (back.Message p.from p.bytes) o)
      node-is i None here to = shapes.nobody k p at (there, (λ d goal. let no : Node i ≡ Client d = sym to ∙ goal in absurd cc), λ d named. unheard-as d p.from (Node i) refl to (to-none d p.from)) where
        none : is_no_node m.config.nodes i ≡ true
        none = go (is_no_node m.config.nodes i) refl where
          go : (b : Bool) → is_no_node m.config.nodes i ≡ b → b ≡ true
          go true t = refl
          go false t = let got = node-there m.nodes m.config.nodes i view.nodes t in let no : Some got.0 ≡ None = sym got.1 ∙ here in absurd cc

        to-none : (d : ℕ) (from : Place) → IsUnheard m.config.nodes (table.get m.clients d) from (Node i) p.bytes
        to-none d Front = λ msg is for. none
        to-none d (Node j) = λ msg is for. none
        to-none d (Client q) = tt
      node-is i (Some s) here to = node-message m view P R Q shapes k p at there i s here to (decoded_message p.bytes) refl

      place-is : (to : Place) → p.to ≡ to → Q (event.Deliver k) (to_place m k p to)
      place-is Front to = from-is p.from refl to
      place-is (Client c) to = client-is c (table.get m.clients c) to refl
      place-is (Node i) to = node-is i (node_at m.nodes i) refl to

    delivered-is : (k : ℕ) (o : Option Packet) → packet_at m.net k ≡ o → delivered m k o ≡ Ok n → Q (event.Deliver k) n
    unfolding delivered
    delivered-is k None at is = cc
    delivered-is k (Some p) at is = go p.lost refl is where
      go : (b : Bool) → p.lost ≡ b → cond {A = Result Machine StepFault} b (Err (Refused (WasLost k))) (Ok (to_place m k p p.to)) ≡ Ok n → Q (event.Deliver k) n
      go true t i = cc
      go false t i = done _ _ (place-is k p at t p.to refl) i

    lost-is : (k : ℕ) (o : Option Packet) → packet_at m.net k ≡ o → lost m k o ≡ Ok n → Q (event.Lose k) n
    unfolding lost
    lost-is k None at is = cc
    lost-is k (Some p) at is = go p.lost refl is where
      go : (b : Bool) → p.lost ≡ b
          → cond {A = Result Machine StepFault} b (Err (Refused (WasLost k))) (Ok (passed (record m { net = lose_at (k - 1) m.net }) (event.Lose k) (rec.Lost k ∷ []))) ≡ Ok n → Q (event.Lose k) n
      go true t i = cc
      go false t i = done _ _ (shapes.loses k p at t) i

    -- ---- nodes that close

    drain-acts : (i : ℕ) → ActsOnEach m (record m { front = (front_drains m.front i).0 }) (event.Drain i) Front (closed_note m.front.dispatch i) []
    unfolding part_of
    drain-acts i =
        let open_ : Bool = is_open m.front.dispatch.books.loads i in
        record {
          put = record { config = refl; files = refl; net = refl; journal = refl; events = refl; answered = refl; now = refl; nodes = refl; jobs = λ h. h; remain = λ h. h };
          machine = tt;
          begins = drains m i;
          first = own-alone (event.Drain i) (closed_note m.front.dispatch i) (cond_both open_ (rec.Closed i ∷ []) [] (AreOwn (event.Drain i)) (λ t. inl refl) (λ t. inr refl));
          closes = inl tt;
          nobody = cond_both open_ (rec.Closed i ∷ []) [] (Each (NamesNobody Front)) (λ t. (tt, tt)) (λ t. tt);
          rising = tt;
          movers = tt;
          others = λ q h. refl;
        }

    -- by whether another one is open
    abbrev closes : ℕ → Bool → Result Machine StepFault
    closes i b = cond b (Ok (front_acts m (event.Drain i) [] (input.Drain i))) (Err (Refused (LastNode i)))

    drained-is : (i : ℕ) → drained m i ≡ Ok n → Q (event.Drain i) n
    unfolding drained
    drained-is i is = there (is_no_node m.config.nodes i) is where
      other : (b : Bool) → closes i b ≡ Ok n → Q (event.Drain i) n
      other true e = done (event.Drain i) _ (shapes.each _ (event.Drain i) Front (closed_note m.front.dispatch i) [] (drain-acts i) tt) e
      other false e = cc

      there : (b : Bool) → cond {A = Result Machine StepFault} b (Err (Refused (NoNode i m.config.nodes))) (closes i (has_other_open m.front.dispatch.books.loads i)) ≡ Ok n → Q (event.Drain i) n
      there true e = cc
      there false e = other (has_other_open m.front.dispatch.books.loads i) e

    -- ---- disks

    disk-is : (i j : ℕ) (o : Option NodeState) → node_at m.nodes i ≡ o → disk_at m i j o ≡ Ok n → Q (event.Disk i j) n
    disk-is i j None here is = cc
    disk-is i j (Some s) here is = go (is_no_job s j) refl is where
      go : (b : Bool) → is_no_job s j ≡ b
          → cond {A = Result Machine StepFault} b (Err (Refused (NoJob i j (length s.disk)))) (Ok (node_gave m (event.Disk i j) [] i (node_step (node_setting m i) s (back.Disk j)))) ≡ Ok n → Q (event.Disk i j) n
      go true t e = cc
      go false t e = done _ _ (disk-completes m view P R Q shapes i s here j t) e

    completes-is : (i j : ℕ) → completes m i j ≡ Ok n → Q (event.Disk i j) n
    unfolding completes
    completes-is i j is = go (is_no_node m.config.nodes i) is where
      go : (b : Bool) → cond {A = Result Machine StepFault} b (Err (Refused (NoNode i m.config.nodes))) (disk_at m i j (node_at m.nodes i)) ≡ Ok n → Q (event.Disk i j) n
      go true e = cc
      go false e = disk-is i j (node_at m.nodes i) refl e

    happens-is : (e : Event) → HasRule e → happens m e ≡ Ok n → Q e n
    unfolding conn part_of
    happens-is (event.Open c isn iss wnd mss) h is = opened-is c isn iss wnd mss (table.get m.clients c) h refl is
    happens-is (event.Get c path) h is = wrote-is (event.Get c path) c (request path) (table.get m.clients c) refl
        (λ x at le. goes-on (event.Get c path) c x (client_writes x.client (request path)) _ at (names m (event.Get c path) (Client c) c refl (λ J. refl) tt) (writes-turn c x.client (own c x at) (request path))
        (own-alone (event.Get c path) (client_writes x.client (request path)).1.notes (writes-own x.client c (request path) (own c x at))) (R.untouched.client.gets (conn m c) x path at le)) is
    happens-is (event.Write c bytes) h is = wrote-is (event.Write c bytes) c bytes (table.get m.clients c) refl
        (λ x at le. goes-on (event.Write c bytes) c x (client_writes x.client bytes) _ at (names m (event.Write c bytes) (Client c) c refl (λ J. refl) tt) (writes-turn c x.client (own c x at) bytes)
        (own-alone (event.Write c bytes) (client_writes x.client bytes).1.notes (writes-own x.client c bytes (own c x at))) (R.untouched.client.writes (conn m c) x bytes at le)) is
    happens-is (event.Shut c) h is = does-is (event.Shut c) [] c client_shuts (table.get m.clients c)
        (λ x at. goes-on (event.Shut c) c x (client_shuts x.client) _ at (names m (event.Shut c) (Client c) c refl (λ J. refl) tt) (shuts-turn c x.client (own c x at)) (own-alone (event.Shut c) [] refl) (R.untouched.client.shuts (conn m c) x at)) is
    happens-is (event.Abort c) h is = does-is (event.Abort c) [] c client_aborts (table.get m.clients c)
        (λ x at. goes-on (event.Abort c) c x (client_aborts x.client) _ at (names m (event.Abort c) (Client c) c refl (λ J. refl) tt) (aborts-turn c x.client (own c x at)) (own-alone (event.Abort c) (rec.Aborted x.client.c ∷ []) (ap (λ d. rec.Aborted d ∷ []) (own c x at))) (R.untouched.client.aborts (conn m c) x at)) is
    happens-is (event.Hold c) h is = does-is (event.Hold c) [] c client_holds (table.get m.clients c)
        (λ x at. goes-on (event.Hold c) c x (client_holds x.client) _ at (names m (event.Hold c) (Client c) c refl (λ J. refl) tt) (holds-turn c x.client (own c x at)) (own-alone (event.Hold c) [] refl) (R.untouched.client.holds (conn m c) x at)) is
    happens-is (event.Take c) h is = does-is (event.Take c) [] c client_takes (table.get m.clients c)
        (λ x at. goes-on (event.Take c) c x (client_takes x.client) _ at (names m (event.Take c) (Client c) c refl (λ J. refl) tt) (takes-turn c x.client (own c x at)) (own-alone (event.Take c) [] refl) (R.untouched.client.takes (conn m c) x at)) is
    happens-is (event.Inject c bytes) h is = does-is (event.Inject c bytes) (rec.Injected c ∷ []) c (λ x. client_injects x bytes) (table.get m.clients c)
        (λ x at. goes-on (event.Inject c bytes) c x (client_injects x.client bytes) _ at (names m (event.Inject c bytes) (Client c) c refl (λ J. refl) (refl, tt)) (injects-turn c x.client (own c x at) bytes)
        (own-alone (event.Inject c bytes) (rec.Injected c ∷ []) refl) (R.injects (conn m c) x bytes at h)) is
    happens-is (event.Deliver k) h is = delivered-is k (packet_at m.net k) refl is
    happens-is (event.Lose k) h is = lost-is k (packet_at m.net k) refl is
    happens-is (event.Timer p c) h is = timer-is p c (table.get m.clients c) h refl is
    happens-is (event.Disk i j) h is = completes-is i j is
    happens-is (event.Drain i) h is = drained-is i is
    happens-is (event.Clock ms) h is = done (event.Clock ms) _ (shapes.clocks ms) is
    happens-is (event.Settle rounds) h is = absurd h

  -- no limit was reached before a step that is done
  below-limits : (n : Machine) (e : Event) → machine_step m e ≡ Ok n → happens m e ≡ Ok n
  unfolding machine_step
  below-limits n e is = go (limit_reached m) is where
    go : (o : Option What) → unless_limit o (happens m e) ≡ Ok n → happens m e ≡ Ok n
    go None i = i
    go (Some what) i = cc

  -- what is so of each shape is so of a step that is done
  pub step-has : (e : Event) (n : Machine) → HasRule e → machine_step m e ≡ Ok n → Q e n
  step-has e n rule is = happens-is n e rule (below-limits n e is)
