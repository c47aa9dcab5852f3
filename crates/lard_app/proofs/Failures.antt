-- A step is not done exactly where a limit was reached, or the event is not one that may come now.
use Rattle.std.proofs.Common.{◌≡◌, ◌⊎◌, ℕ, zero, suc, ◌-◌, ◌≤◌, ◌<◌, List, [], ◌∷◌, length, Bool, true, false, not, cond, Option, Some, None, IsSome, Result, Ok, Err, refl, sym, ap, ◌∙◌, subst, inl, inr, ⊎_elim, arith, nat_eq, ◌==◌, ◌||◌}
use Rattle.std.proofs.lemmas.Bool.{not_from_true, true≢false}
use Rattle.std.proofs.lemmas.Bool.Decides.{nat_tests}
use Rattle.std.proofs.lemmas.Option.{slice_get_past, slice_get_within}
use Rattle.std.specs.List.{list_any}
use Rattle.std.specs.Prelude.{nat_lt, slice_get}
use Rattle.std.specs.FinMap as table
use Rattle.lard_law_view.specs.Prelude.{Client, ClientBlock, Event, Front, Machine, Node, NodeState, Packet, Place, Rec, Station, StepFault, Turn, What, answered_bytes, bytes_in, client_aborts, client_acts, client_goes_on, client_holds, client_injects, client_shuts, client_takes, client_writes, completes, delivered, disk_at, drained, front_acts, happens, has_other_open, is_no_job, is_no_node, is_node_closed, limit_of, limit_reached, lose_at, lost, machine_opened, machine_step, machine_wrote, node_acts, node_at, node_gave, node_setting, node_step, numbers, numbers_of, packet_at, packet_bytes, passed, request, timer, to_place, unless_limit, written_len}
use Rattle.lard_base.specs.declared.event.Event.TheVariants as event
use Rattle.lard_laws.proofs.ClientsTables.{client_at}
use Rattle.lard_rules.specs.declared.fault.Refusal.TheVariants as refusal
use Rattle.lard_rules.specs.declared.fault.StepFault.TheVariants as fault
use Rattle.lard_journal.specs.declared.rec.Rec.TheVariants as rec
use Rattle.lard_rules.specs.declared.fault.What.TheVariants.{Stream}
use Rattle.lard_rules.specs.declared.front.FrontIn.TheVariants as input
use Rattle.lard_rules.specs.declared.node.BackIn.TheVariants as back
use Rattle.lard_app.specs.Causes.{AreOthersClosed, HasReached, IsOfClient, IsOfDisk, IsOfNode, IsOfPacket, IsUntimely, IsWithinLimits, Opens, WouldPass, WritesTooMuch}
use Rattle.lard_app.proofs.Numbers.{found_limit, limit-reached, none-reached, reached-limit, within-none}
use Rattle.lard_app.proofs.Others.{all-closed, any_other, none-open}
use Rattle.lard_app.proofs.Reached.{Told}

-- ---- packets by their numbers

not_there : (net : List Packet) (k : ℕ) → packet_at net k ≡ None → (k ≡ 0) ⊎ (length net < k)
not_there net k e = go (nat_eq k 0) refl e where
  past : (ps : List Packet) (i : ℕ) → slice_get ps i ≡ None → length ps ≤ i
  past [] i f = omega arith
  past (p ∷ ps) zero f = cc
  past (p ∷ ps) (suc i) f = omega (arith, past ps i f)

  go : (b : Bool) → nat_eq k 0 ≡ b → cond b None (slice_get net (k - 1)) ≡ None → (k ≡ 0) ⊎ (length net < k)
  go true z f = inl (grind (arith, nat_tests, z))
  go false z f = let beyond = past net (k - 1) f in inr (grind (arith, nat_tests, z, beyond))

none_there : (net : List Packet) (k : ℕ) → (k ≡ 0) ⊎ (length net < k) → packet_at net k ≡ None
none_there net k (inl z) = subst (λ n. packet_at net n ≡ None) (sym z) refl
none_there net k (inr l) = go (nat_eq k 0) where
  go : (b : Bool) → cond b None (slice_get net (k - 1)) ≡ None
  go true = refl
  go false = slice_get_past net (k - 1) (omega (arith, l))

is_there : (net : List Packet) (k : ℕ) (p : Packet) → packet_at net k ≡ Some p → (1 ≤ k) × (k ≤ length net)
is_there net k p e = go (nat_eq k 0) refl e where
  go : (b : Bool) → nat_eq k 0 ≡ b → cond b None (slice_get net (k - 1)) ≡ Some p → (1 ≤ k) × (k ≤ length net)
  go true z f = cc
  go false z f = let within = slice_get_within net (k - 1) p f in (grind (arith, nat_tests, z), grind (arith, nat_tests, z, within))

pub some_there : (net : List Packet) (k : ℕ) → 1 ≤ k → k ≤ length net → (p : Packet) × (packet_at net k ≡ Some p)
some_there net k first last = go (packet_at net k) refl where
  go : (o : Option Packet) → packet_at net k ≡ o → (p : Packet) × (o ≡ Some p)
  go (Some p) e = (p, refl)
  go None e = absurd (⊎_elim (λ z. omega (arith, z, first)) (λ l. omega (arith, l, last)) (not_there net k e))

-- a number that is none of 1 to n
beyond : (n k : ℕ) → (k == 0 || nat_lt n k) ≡ true → (k ≡ 0) ⊎ (n < k)
beyond n zero e = inl refl
beyond n (suc i) e = inr (grind (arith, nat_tests, e))

not_beyond : (n k : ℕ) → (k ≡ 0) ⊎ (n < k) → (k == 0 || nat_lt n k) ≡ true
not_beyond n zero h = refl
not_beyond n (suc i) (inl z) = cc
not_beyond n (suc i) (inr l) = grind (arith, nat_tests, l)

-- one of them
is_there_node : (n k : ℕ) → (k == 0 || nat_lt n k) ≡ false → (1 ≤ k) × (k ≤ n)
is_there_node n zero e = cc
is_there_node n (suc i) e = (omega arith, grind (arith, nat_tests, e))

not_past : (n k : ℕ) → 1 ≤ k → k ≤ n → (k == 0 || nat_lt n k) ≡ false
not_past n zero first last = absurd (omega (arith, first))
not_past n (suc i) first last = grind (arith, nat_tests, last)

-- ---- faults, in words of the journal

-- no limit was reached, and the step is not done
abbrev pub IsFault : Machine → Event → StepFault → Type 0
IsFault m e (fault.Refused reason) = IsUntimely m e reason
IsFault m e (fault.Limit w) = (w ≡ Stream) × WritesTooMuch m.config.stream m.journal e
IsFault m e fault.NoMemory = ⊥

err_is : {A E : Type 0} (x y : E) → ◌≡◌ {A = Result A E} (Err x) (Err y) → x ≡ y
err_is x y e = cc

passes_limit : (a b : ℕ) → nat_lt a b ≡ true → a < b
passes_limit a b e = grind (arith, nat_tests, e)

past_limit : (a b : ℕ) → a < b → nat_lt a b ≡ true
past_limit a b l = grind (arith, nat_tests, l)

-- a node that is one of those that are to be there is there
no_such_node : (m : Machine) (t : Told m) (n : ℕ) → is_no_node m.config.nodes n ≡ false → ¬ (node_at m.nodes n ≡ None)
no_such_node m t zero e none = cc
no_such_node m t (suc i) e none = let past = all_past m.nodes i none in let same = t.nodes in grind (arith, nat_tests, e, past, same) where
  all_past : (xs : List NodeState) (i : ℕ) → slice_get xs i ≡ None → length xs ≤ i
  all_past [] i f = omega arith
  all_past (x ∷ xs) zero f = cc
  all_past (x ∷ xs) (suc i) f = omega (arith, all_past xs i f)

-- a test that does not fail
holds : (b : Bool) → not b ≡ false → b ≡ true
holds true e = refl
holds false e = absurd (true≢false e)

module _ (m : Machine) (t : Told m) where
  -- ---- nodes that are open

  -- that another one is open is told by the journal
  others-are : (n : ℕ) → has_other_open m.front.dispatch.books.loads n ≡ any_other (λ k. not (is_node_closed m.journal k)) n (numbers m.config.nodes)
  others-are n = ap (list_any (λ k. not (nat_eq k n))) t.open_nodes

  others-closed : (n : ℕ) → has_other_open m.front.dispatch.books.loads n ≡ false → AreOthersClosed m.config.nodes m.journal n
  others-closed n none k low high other =
      holds (is_node_closed m.journal k) (none-open (λ j. not (is_node_closed m.journal j)) n 1 m.config.nodes (sym (others-are n) ∙ none) k low (omega (arith, high)) other)

  closed-others : (n : ℕ) → AreOthersClosed m.config.nodes m.journal n → has_other_open m.front.dispatch.books.loads n ≡ false
  closed-others n closed =
      others-are n
      ∙ all-closed (λ k. not (is_node_closed m.journal k)) n 1 m.config.nodes (λ k low high other. not_from_true (is_node_closed m.journal k) (closed k low (omega (arith, high)) other))

  -- ---- what a fault means

  fault_is : (e : Event) (known f : StepFault) → IsFault m e known → ◌≡◌ {A = Result Machine StepFault} (Err known) (Err f) → IsFault m e f
  fault_is e known f h is = subst (IsFault m e) (err_is known f is) h

  no_client : (e : Event) (c : ℕ) (f : StepFault) → IsOfClient e c → table.get m.clients c ≡ None → ◌≡◌ {A = Result Machine StepFault} (Err (fault.Refused (refusal.NoClient c))) (Err f) → IsFault m e f
  no_client e c f of none is = fault_is e (fault.Refused (refusal.NoClient c)) f (of, t.unopened c none) is

  not_sent : (e : Event) (k : ℕ) (f : StepFault) → IsOfPacket e k → packet_at m.net k ≡ None → ◌≡◌ {A = Result Machine StepFault} (Err (fault.Refused (refusal.NotSent k (length m.net)))) (Err f) → IsFault m e f
  not_sent e k f of none is = fault_is e (fault.Refused (refusal.NotSent k (length m.net))) f (of, sym t.sent, not_there m.net k none) is

  was_lost : (e : Event) (k : ℕ) (f : StepFault) (p : Packet) → IsOfPacket e k → packet_at m.net k ≡ Some p → p.lost ≡ true → ◌≡◌ {A = Result Machine StepFault} (Err (fault.Refused (refusal.WasLost k))) (Err f) → IsFault m e f
  was_lost e k f p of at gone is =
      let there = is_there m.net k p at in
      fault_is e (fault.Refused (refusal.WasLost k)) f (of, there.0, subst (λ n. k ≤ n) (sym t.sent) there.1, t.lost k p at ∙ gone) is

  opened-fault : (c isn iss wnd mss : ℕ) (f : StepFault) (o : Option Station) → table.get m.clients c ≡ o → machine_opened m c isn iss wnd mss o ≡ Err f → IsFault m (event.Open c isn iss wnd mss) f
  unfolding machine_opened
  opened-fault c isn iss wnd mss f None at is = cc
  opened-fault c isn iss wnd mss f (Some x) at is = fault_is (event.Open c isn iss wnd mss) (fault.Refused (refusal.Used c)) f (refl, t.opened c x at) is

  wrote-fault : (e : Event) (c : ℕ) (bytes : List ℕ) (f : StepFault) (o : Option Station) → IsOfClient e c → (WouldPass m.config.stream m.journal c bytes → WritesTooMuch m.config.stream m.journal e)
      → table.get m.clients c ≡ o → machine_wrote m e c bytes o ≡ Err f → IsFault m e f
  unfolding machine_wrote
  wrote-fault e c bytes f None of much at is = no_client e c f of at is
  wrote-fault e c bytes f (Some x) of much at is = go (nat_lt m.config.stream (written_len x.client bytes)) refl is where
    go : (b : Bool) → nat_lt m.config.stream (written_len x.client bytes) ≡ b → cond {A = Result Machine StepFault} b (Err (fault.Limit Stream)) (Ok (client_goes_on m e [] c x (client_writes x.client bytes))) ≡ Err f → IsFault m e f
    go true l h = fault_is e (fault.Limit Stream) f (refl, much (x.client, t.clients c ∙ ap client_at at, passes_limit m.config.stream (written_len x.client bytes) l)) h
    go false l h = cc

  does-fault : (e : Event) (own : List Rec) (c : ℕ) (rule : ClientBlock → ClientBlock × Turn) (f : StepFault) (o : Option Station) → IsOfClient e c → table.get m.clients c ≡ o → client_acts m e own c rule o ≡ Err f → IsFault m e f
  unfolding client_acts
  does-fault e own c rule f None of at is = no_client e c f of at is
  does-fault e own c rule f (Some x) of at is = cc

  -- of a node that is not there
  no_node : (e : Event) (n : ℕ) (f : StepFault) → IsOfNode m.journal e n → is_no_node m.config.nodes n ≡ true → ◌≡◌ {A = Result Machine StepFault} (Err (fault.Refused (refusal.NoNode n m.config.nodes))) (Err f) → IsFault m e f
  no_node e n f of none is = fault_is e (fault.Refused (refusal.NoNode n m.config.nodes)) f (of, refl, beyond m.config.nodes n none) is

  timer-fault : (p : Place) (c : ℕ) (f : StepFault) (o : Option Station) → table.get m.clients c ≡ o → timer m p c o ≡ Err f → IsFault m (event.Timer p c) f
  unfolding timer
  timer-fault p c f None at is = no_client (event.Timer p c) c f refl at is
  timer-fault Front c f (Some x) at is = cc
  timer-fault (Client d) c f (Some x) at is = cc
  timer-fault (Node n) c f (Some x) at is = go (is_no_node m.config.nodes n) refl is where
    go : (b : Bool) → is_no_node m.config.nodes n ≡ b
        → cond {A = Result Machine StepFault} b (Err (fault.Refused (refusal.NoNode n m.config.nodes))) (Ok (node_acts m (event.Timer (Node n) c) [] n (back.Timer c) (node_at m.nodes n))) ≡ Err f → IsFault m (event.Timer (Node n) c) f
    go true none h = no_node (event.Timer (Node n) c) n f (refl, t.opened c x at) none h
    go false none h = cc

  -- of a job that is not there
  disk-fault : (n j : ℕ) (f : StepFault) (o : Option NodeState) → is_no_node m.config.nodes n ≡ false → node_at m.nodes n ≡ o → disk_at m n j o ≡ Err f → IsFault m (event.Disk n j) f
  disk-fault n j f None there at is = absurd (no_such_node m t n there at)
  disk-fault n j f (Some s) there at is = go (is_no_job s j) refl is where
    go : (b : Bool) → is_no_job s j ≡ b
        → cond {A = Result Machine StepFault} b (Err (fault.Refused (refusal.NoJob n j (length s.disk)))) (Ok (node_gave m (event.Disk n j) [] n (node_step (node_setting m n) s (back.Disk j)))) ≡ Err f → IsFault m (event.Disk n j) f
    go true none h = fault_is (event.Disk n j) (fault.Refused (refusal.NoJob n j (length s.disk))) f ((refl, refl, (is_there_node m.config.nodes n there).0, (is_there_node m.config.nodes n there).1, sym (t.jobs n s at)), beyond (length s.disk) j none) h
    go false none h = cc

  completes-fault : (n j : ℕ) (f : StepFault) → completes m n j ≡ Err f → IsFault m (event.Disk n j) f
  unfolding completes
  completes-fault n j f is = go (is_no_node m.config.nodes n) refl is where
    go : (b : Bool) → is_no_node m.config.nodes n ≡ b → cond {A = Result Machine StepFault} b (Err (fault.Refused (refusal.NoNode n m.config.nodes))) (disk_at m n j (node_at m.nodes n)) ≡ Err f → IsFault m (event.Disk n j) f
    go true none h = no_node (event.Disk n j) n f refl none h
    go false there h = disk-fault n j f (node_at m.nodes n) there refl h

  -- a node that is there is closed where another one is open
  abbrev closes : ℕ → Bool → Result Machine StepFault
  closes n b = cond b (Ok (front_acts m (event.Drain n) [] (input.Drain n))) (Err (fault.Refused (refusal.LastNode n)))

  -- of a node that is not there, or is the last
  drained-fault : (n : ℕ) (f : StepFault) → drained m n ≡ Err f → IsFault m (event.Drain n) f
  unfolding drained
  drained-fault n f is = go (is_no_node m.config.nodes n) refl is where
    of-there : is_no_node m.config.nodes n ≡ false → (b : Bool) → has_other_open m.front.dispatch.books.loads n ≡ b → closes n b ≡ Err f
        → IsFault m (event.Drain n) f
    of-there there true some h = cc
    of-there there false none h =
        let within = is_there_node m.config.nodes n there in
        fault_is (event.Drain n) (fault.Refused (refusal.LastNode n)) f (refl, within.0, within.1, others-closed n none) h

    go : (b : Bool) → is_no_node m.config.nodes n ≡ b
        → cond {A = Result Machine StepFault} b (Err (fault.Refused (refusal.NoNode n m.config.nodes))) (closes n (has_other_open m.front.dispatch.books.loads n)) ≡ Err f → IsFault m (event.Drain n) f
    go true none h = no_node (event.Drain n) n f refl none h
    go false there h = of-there there (has_other_open m.front.dispatch.books.loads n) refl h

  delivered-fault : (k : ℕ) (f : StepFault) (o : Option Packet) → packet_at m.net k ≡ o → delivered m k o ≡ Err f → IsFault m (event.Deliver k) f
  unfolding delivered
  delivered-fault k f None at is = not_sent (event.Deliver k) k f refl at is
  delivered-fault k f (Some p) at is = go p.lost refl is where
    go : (b : Bool) → p.lost ≡ b → cond {A = Result Machine StepFault} b (Err (fault.Refused (refusal.WasLost k))) (Ok (to_place m k p p.to)) ≡ Err f → IsFault m (event.Deliver k) f
    go true l h = was_lost (event.Deliver k) k f p refl at l h
    go false l h = cc

  lost-fault : (k : ℕ) (f : StepFault) (o : Option Packet) → packet_at m.net k ≡ o → lost m k o ≡ Err f → IsFault m (event.Lose k) f
  unfolding lost
  lost-fault k f None at is = not_sent (event.Lose k) k f refl at is
  lost-fault k f (Some p) at is = go p.lost refl is where
    go : (b : Bool) → p.lost ≡ b → cond {A = Result Machine StepFault} b (Err (fault.Refused (refusal.WasLost k))) (Ok (passed (record m { net = lose_at (k - 1) m.net }) (event.Lose k) (rec.Lost k ∷ []))) ≡ Err f → IsFault m (event.Lose k) f
    go true l h = was_lost (event.Lose k) k f p refl at l h
    go false l h = cc

  happens-fault : (e : Event) (f : StepFault) → happens m e ≡ Err f → IsFault m e f
  happens-fault (event.Open c isn iss wnd mss) f is = opened-fault c isn iss wnd mss f (table.get m.clients c) refl is
  happens-fault (event.Get c path) f is = wrote-fault (event.Get c path) c (request path) f (table.get m.clients c) refl (λ much. much) refl is
  happens-fault (event.Write c bytes) f is = wrote-fault (event.Write c bytes) c bytes f (table.get m.clients c) refl (λ much. much) refl is
  happens-fault (event.Shut c) f is = does-fault (event.Shut c) [] c client_shuts f (table.get m.clients c) refl refl is
  happens-fault (event.Abort c) f is = does-fault (event.Abort c) [] c client_aborts f (table.get m.clients c) refl refl is
  happens-fault (event.Hold c) f is = does-fault (event.Hold c) [] c client_holds f (table.get m.clients c) refl refl is
  happens-fault (event.Take c) f is = does-fault (event.Take c) [] c client_takes f (table.get m.clients c) refl refl is
  happens-fault (event.Deliver k) f is = delivered-fault k f (packet_at m.net k) refl is
  happens-fault (event.Lose k) f is = lost-fault k f (packet_at m.net k) refl is
  happens-fault (event.Timer p c) f is = timer-fault p c f (table.get m.clients c) refl is
  happens-fault (event.Disk n j) f is = completes-fault n j f is
  happens-fault (event.Drain n) f is = drained-fault n f is
  happens-fault (event.Clock ms) f is = cc
  happens-fault (event.Settle rounds) f is = cc
  happens-fault (event.Inject c bytes) f is = does-fault (event.Inject c bytes) (rec.Injected c ∷ []) c (λ x. client_injects x bytes) f (table.get m.clients c) refl refl is

  -- ---- and back

  fault-unsent : (e : Event) (k : ℕ) → IsOfPacket e k → packet_at m.net k ≡ None → happens m e ≡ Err (fault.Refused (refusal.NotSent k (length m.net)))
  unfolding delivered lost
  fault-unsent (event.Deliver j) k same none = subst (λ i. happens m (event.Deliver i) ≡ Err (fault.Refused (refusal.NotSent k (length m.net)))) (sym same) (ap (delivered m k) none)
  fault-unsent (event.Lose j) k same none = subst (λ i. happens m (event.Lose i) ≡ Err (fault.Refused (refusal.NotSent k (length m.net)))) (sym same) (ap (lost m k) none)
  fault-unsent _ k same none = absurd same

  fault-lost : (e : Event) (k : ℕ) (p : Packet) → IsOfPacket e k → packet_at m.net k ≡ Some p → p.lost ≡ true → happens m e ≡ Err (fault.Refused (refusal.WasLost k))
  unfolding delivered lost
  fault-lost (event.Deliver j) k p same at gone = subst (λ i. happens m (event.Deliver i) ≡ Err (fault.Refused (refusal.WasLost k))) (sym same)
      (ap (delivered m k) at ∙ ap (λ b. cond {A = Result Machine StepFault} b (Err (fault.Refused (refusal.WasLost k))) (Ok (to_place m k p p.to))) gone)
  fault-lost (event.Lose j) k p same at gone = subst (λ i. happens m (event.Lose i) ≡ Err (fault.Refused (refusal.WasLost k))) (sym same)
      (ap (lost m k) at ∙ ap (λ b. cond {A = Result Machine StepFault} b (Err (fault.Refused (refusal.WasLost k))) (Ok (passed (record m { net = lose_at (k - 1) m.net }) (event.Lose k) (rec.Lost k ∷ [])))) gone)
  fault-lost _ k p same at gone = absurd same

  fault-client : (e : Event) (c : ℕ) → IsOfClient e c → table.get m.clients c ≡ None → happens m e ≡ Err (fault.Refused (refusal.NoClient c))
  unfolding machine_wrote client_acts timer
  fault-client (event.Get d path) c same none = subst (λ i. happens m (event.Get i path) ≡ Err (fault.Refused (refusal.NoClient c))) (sym same) (ap (machine_wrote m (event.Get c path) c (request path)) none)
  fault-client (event.Write d bytes) c same none = subst (λ i. happens m (event.Write i bytes) ≡ Err (fault.Refused (refusal.NoClient c))) (sym same) (ap (machine_wrote m (event.Write c bytes) c bytes) none)
  fault-client (event.Shut d) c same none = subst (λ i. happens m (event.Shut i) ≡ Err (fault.Refused (refusal.NoClient c))) (sym same) (ap (client_acts m (event.Shut c) [] c client_shuts) none)
  fault-client (event.Abort d) c same none = subst (λ i. happens m (event.Abort i) ≡ Err (fault.Refused (refusal.NoClient c))) (sym same) (ap (client_acts m (event.Abort c) [] c client_aborts) none)
  fault-client (event.Hold d) c same none = subst (λ i. happens m (event.Hold i) ≡ Err (fault.Refused (refusal.NoClient c))) (sym same) (ap (client_acts m (event.Hold c) [] c client_holds) none)
  fault-client (event.Inject d bytes) c same none = subst (λ i. happens m (event.Inject i bytes) ≡ Err (fault.Refused (refusal.NoClient c))) (sym same) (ap (client_acts m (event.Inject c bytes) (rec.Injected c ∷ []) c (λ x. client_injects x bytes)) none)
  fault-client (event.Take d) c same none = subst (λ i. happens m (event.Take i) ≡ Err (fault.Refused (refusal.NoClient c))) (sym same) (ap (client_acts m (event.Take c) [] c client_takes) none)
  fault-client (event.Timer p d) c same none = subst (λ i. happens m (event.Timer p i) ≡ Err (fault.Refused (refusal.NoClient c))) (sym same) (ap (timer m p c) none)
  fault-client _ c same none = absurd same

  fault-used : (e : Event) (c : ℕ) (x : Station) → Opens e c → table.get m.clients c ≡ Some x → happens m e ≡ Err (fault.Refused (refusal.Used c))
  unfolding machine_opened
  fault-used (event.Open d isn iss wnd mss) c x same at = subst (λ i. happens m (event.Open i isn iss wnd mss) ≡ Err (fault.Refused (refusal.Used c))) (sym same) (ap (machine_opened m c isn iss wnd mss) at)
  fault-used _ c x same at = absurd same

  -- a client that the journal tells of
  client_there : (c : ℕ) → IsSome (numbers_of m.journal c) → (x : Station) × (table.get m.clients c ≡ Some x)
  client_there c some = go (table.get m.clients c) refl where
    go : (o : Option Station) → table.get m.clients c ≡ o → (x : Station) × (o ≡ Some x)
    go (Some x) e = (x, refl)
    go None e = absurd (let both = subst (λ n. IsSome n) (t.unopened c e) some in cc)

  client_none : (c : ℕ) → numbers_of m.journal c ≡ None → table.get m.clients c ≡ None
  client_none c none = go (table.get m.clients c) refl where
    go : (o : Option Station) → table.get m.clients c ≡ o → o ≡ None
    go None e = refl
    go (Some x) e = absurd (let both = subst (λ n. IsSome n) none (t.opened c x e) in cc)

  fault-node : (e : Event) (n : ℕ) → IsOfNode m.journal e n → is_no_node m.config.nodes n ≡ true → happens m e ≡ Err (fault.Refused (refusal.NoNode n m.config.nodes))
  unfolding timer completes drained
  fault-node (event.Timer (Node k) c) n of none =
      let x = client_there c of.1 in
      subst (λ i. happens m (event.Timer (Node i) c) ≡ Err (fault.Refused (refusal.NoNode n m.config.nodes))) (sym of.0) (ap (timer m (Node n) c) x.1
      ∙ ap (λ b. cond {A = Result Machine StepFault} b (Err (fault.Refused (refusal.NoNode n m.config.nodes))) (Ok (node_acts m (event.Timer (Node n) c) [] n (back.Timer c) (node_at m.nodes n)))) none)
  fault-node (event.Disk k j) n of none = subst (λ i. happens m (event.Disk i j) ≡ Err (fault.Refused (refusal.NoNode n m.config.nodes))) (sym of)
      (ap (λ b. cond {A = Result Machine StepFault} b (Err (fault.Refused (refusal.NoNode n m.config.nodes))) (disk_at m n j (node_at m.nodes n))) none)
  fault-node (event.Drain k) n of none = subst (λ i. happens m (event.Drain i) ≡ Err (fault.Refused (refusal.NoNode n m.config.nodes))) (sym of)
      (ap (λ b. cond {A = Result Machine StepFault} b (Err (fault.Refused (refusal.NoNode n m.config.nodes))) (closes n (has_other_open m.front.dispatch.books.loads n))) none)
  fault-node (event.Timer Front c) n of none = absurd of.0
  fault-node (event.Timer (Client d) c) n of none = absurd of.0
  fault-node _ n of none = absurd of

  -- a node whose number may be there is there
  some_node : (n : ℕ) → is_no_node m.config.nodes n ≡ false → (s : NodeState) × (node_at m.nodes n ≡ Some s)
  some_node n there = go (node_at m.nodes n) refl where
    go : (o : Option NodeState) → node_at m.nodes n ≡ o → (s : NodeState) × (o ≡ Some s)
    go (Some s) at = (s, refl)
    go None at = absurd (no_such_node m t n there at)

  fault-job : (e : Event) (n j len : ℕ) → IsOfDisk m.config.nodes m.journal e n j len → (j ≡ 0) ⊎ (len < j) → happens m e ≡ Err (fault.Refused (refusal.NoJob n j len))
  unfolding completes
  fault-job (event.Disk k i) n j len of beyond_ =
      let there : is_no_node m.config.nodes n ≡ false = not_past m.config.nodes n of.2 of.3 in
      let found = some_node n there in
      let s : NodeState = found.0 in
      let same : len ≡ length s.disk = of.4 ∙ t.jobs n s found.1 in
      subst (λ d. happens m (event.Disk d i) ≡ Err (fault.Refused (refusal.NoJob n j len))) (sym of.0) (subst (λ d. happens m (event.Disk n d) ≡ Err (fault.Refused (refusal.NoJob n j len))) (sym of.1)
      (ap (λ b. cond {A = Result Machine StepFault} b (Err (fault.Refused (refusal.NoNode n m.config.nodes))) (disk_at m n j (node_at m.nodes n))) there
      ∙ ap (disk_at m n j) found.1
      ∙ ap (λ b. cond {A = Result Machine StepFault} b (Err (fault.Refused (refusal.NoJob n j (length s.disk)))) (Ok (node_gave m (event.Disk n j) [] n (node_step (node_setting m n) s (back.Disk j)))))
      (not_beyond (length s.disk) j (subst (λ l. (j ≡ 0) ⊎ (l < j)) same beyond_))
      ∙ ap (λ l. Err (fault.Refused (refusal.NoJob n j l))) (sym same)))
  fault-job _ n j len of beyond_ = absurd of

  -- the last node that is open
  fault-last : (e : Event) (n : ℕ) → IsUntimely m e (refusal.LastNode n) → happens m e ≡ Err (fault.Refused (refusal.LastNode n))
  unfolding drained
  fault-last (event.Drain k) n h = subst (λ i. happens m (event.Drain i) ≡ Err (fault.Refused (refusal.LastNode n))) (sym h.0)
      (ap (λ b. cond {A = Result Machine StepFault} b (Err (fault.Refused (refusal.NoNode n m.config.nodes))) (closes n (has_other_open m.front.dispatch.books.loads n))) (not_past m.config.nodes n h.1 h.2)
      ∙ ap (closes n) (closed-others n h.3))
  fault-last _ n h = absurd h.0

  wrote-much : (e : Event) (c : ℕ) (bytes : List ℕ) (x : Station) → table.get m.clients c ≡ Some x → m.config.stream < written_len x.client bytes → machine_wrote m e c bytes (table.get m.clients c) ≡ Err (fault.Limit Stream)
  unfolding machine_wrote
  wrote-much e c bytes x at much =
      ap (machine_wrote m e c bytes) at
      ∙ ap (λ b. cond {A = Result Machine StepFault} b (Err (fault.Limit Stream)) (Ok (client_goes_on m e [] c x (client_writes x.client bytes)))) (past_limit m.config.stream (written_len x.client bytes) much)

  -- the client that the journal tells is that of the machine
  wrote-past : (e : Event) (c : ℕ) (bytes : List ℕ) → WouldPass m.config.stream m.journal c bytes → machine_wrote m e c bytes (table.get m.clients c) ≡ Err (fault.Limit Stream)
  wrote-past e c bytes h = go (table.get m.clients c) refl where
    go : (o : Option Station) → table.get m.clients c ≡ o → machine_wrote m e c bytes (table.get m.clients c) ≡ Err (fault.Limit Stream)
    go None at = let no : Some h.0 ≡ None = sym h.1 ∙ t.clients c ∙ ap client_at at in cc
    go (Some x) at =
        let is : Some h.0 ≡ Some x.client = sym h.1 ∙ t.clients c ∙ ap client_at at in
        let same : h.0 ≡ x.client = cc in
        wrote-much e c bytes x at (subst (λ (k : ClientBlock). m.config.stream < written_len k bytes) same h.2)

  fault-stream : (e : Event) → WritesTooMuch m.config.stream m.journal e → happens m e ≡ Err (fault.Limit Stream)
  fault-stream (event.Get c path) h = wrote-past (event.Get c path) c (request path) h
  fault-stream (event.Write c bytes) h = wrote-past (event.Write c bytes) c bytes h
  fault-stream _ h = absurd h

  ap_node : (e : Event) (n nodes : ℕ) → IsUntimely m e (refusal.NoNode n nodes) → happens m e ≡ Err (fault.Refused (refusal.NoNode n nodes))
  ap_node e n nodes h =
      fault-node e n h.0 (not_beyond m.config.nodes n (subst (λ k. (n ≡ 0) ⊎ (k < n)) h.1 h.2)) ∙ ap (λ k. Err (fault.Refused (refusal.NoNode n k))) (sym h.1)

  fault-happens : (e : Event) (f : StepFault) → IsFault m e f → happens m e ≡ Err f
  fault-happens e (fault.Refused (refusal.NotSent k n)) h =
      let there : n ≡ length m.net = h.1 ∙ t.sent in
      subst (λ i. happens m e ≡ Err (fault.Refused (refusal.NotSent k i))) (sym there) (fault-unsent e k h.0 (none_there m.net k (⊎_elim (λ z. inl z) (λ l. inr (subst (λ i. i < k) there l)) h.2)))
  fault-happens e (fault.Refused (refusal.WasLost k)) h =
      let p = some_there m.net k h.1 (subst (λ n. k ≤ n) t.sent h.2) in
      fault-lost e k p.0 h.0 p.1 (sym (t.lost k p.0 p.1) ∙ h.3)
  fault-happens e (fault.Refused (refusal.NoClient c)) h = fault-client e c h.0 (client_none c h.1)
  fault-happens e (fault.Refused (refusal.Used c)) h = let x = client_there c h.1 in fault-used e c x.0 h.0 x.1
  fault-happens e (fault.Refused (refusal.NoNode n nodes)) h = ap_node e n nodes h
  fault-happens e (fault.Refused (refusal.LastNode n)) h = fault-last e n h
  fault-happens e (fault.Refused (refusal.NoJob n j len)) h = fault-job e n j len h.0 h.1
  fault-happens e (fault.Limit w) h = subst (λ v. happens m e ≡ Err (fault.Limit v)) (sym h.0) (fault-stream e h.1)
  fault-happens e fault.NoMemory h = absurd h

  -- ---- the whole step

  limit_same : found_limit m.journal ≡ limit_reached m
  limit_same =
      ap (λ n. limit_of n (packet_bytes m.journal) (length m.journal) (answered_bytes m.journal)) t.sent
      ∙ ap (λ n. limit_of (length m.net) n (length m.journal) (answered_bytes m.journal)) t.bytes
      ∙ ap (λ n. limit_of (length m.net) (bytes_in m.net) (length m.journal) n) t.answered

  -- the limit that the machine finds is the journal's, and the other way round
  pub limit_found : (w : What) → limit_reached m ≡ Some w → HasReached m.journal w
  limit_found w l = limit-reached m.journal w (limit_same ∙ l)

  pub limit_there : (w : What) → HasReached m.journal w → limit_reached m ≡ Some w
  limit_there w l = sym limit_same ∙ reached-limit m.journal w l

  -- a limit ends the step, or the event does
  pub step-fault : (e : Event) (f : StepFault) → machine_step m e ≡ Err f → ((w : What) × HasReached m.journal w × (fault.Limit w ≡ f)) ⊎ (IsWithinLimits m.journal × IsFault m e f)
  unfolding machine_step
  step-fault e f is = go (limit_reached m) refl is where
    go : (o : Option What) → limit_reached m ≡ o → unless_limit o (happens m e) ≡ Err f → ((w : What) × HasReached m.journal w × (fault.Limit w ≡ f)) ⊎ (IsWithinLimits m.journal × IsFault m e f)
    go (Some w) l h = inl (w, limit-reached m.journal w (limit_same ∙ l), err_is (fault.Limit w) f h)
    go None l h = inr (none-reached m.journal (limit_same ∙ l), happens-fault e f h)

  pub limit-step : (e : Event) (w : What) → HasReached m.journal w → machine_step m e ≡ Err (fault.Limit w)
  unfolding machine_step
  limit-step e w l = ap (λ o. unless_limit o (happens m e)) (sym limit_same ∙ reached-limit m.journal w l)

  pub fault-step : (e : Event) (f : StepFault) → IsWithinLimits m.journal → IsFault m e f → machine_step m e ≡ Err f
  unfolding machine_step
  fault-step e f l h = ap (λ o. unless_limit o (happens m e)) (sym limit_same ∙ within-none m.journal l) ∙ fault-happens e f h
