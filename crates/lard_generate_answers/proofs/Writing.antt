-- By the events of a generated schedule each client writes all that they have it write.
use Rattle.std.proofs.Common.{◌≡◌, ◌≢◌, ◌≤◌, ◌<◌, ℕ, zero, suc, ◌+◌, Bool, true, false, cond, nat_eq, List, [], ◌∷◌, ◌++◌, map, Ok, refl, sym, ap, ◌∙◌, subst, append_assoc, append-nil, arith}
use Rattle.std.proofs.lemmas.List.{map-append}
use Rattle.rand_pcg.specs.Lcg.{Lcg}
use Rattle.lard_law_view.specs.Prelude.{Config, Event, HasRule, IsReached, Machine, Passes, machine_start, machine_step, request, wrote}
use Rattle.lard_base.specs.declared.event.Event.TheVariants as event
use Rattle.lard_law_view.proofs.After.{IsAfter, step-after}
use Rattle.lard_law_view.proofs.Carried.{reached-viewed}
use Rattle.lard_generate.specs.declared.action.Action.TheVariants.{Ask, Shut}
use Rattle.lard_generate.specs.Clients.{drawn_actions, drawn_ask, drawn_fate, drawn_open, action_event, fate_at, shut_at}
use Rattle.lard_generate.specs.Draws.{behind, draw, each}
use Rattle.lard_generate_bound.proofs.Leaving.{IsPlain, IsUnwritten}
use Rattle.lard_generate_bound.proofs.Reaching.{plain-rule, plain-step}
use Rattle.lard_history.proofs.Seeing.{by_number}
use Rattle.lard_settling.specs.Events.{GoesThrough, MayCome, event_step}
use Rattle.std.specs.FinMap as table
use Rattle.lard_generate_answers.specs.Counted.{writes}
use Rattle.lard_law_connections.proofs.Happened.{done-happens}
use Rattle.lard_generate_answers.proofs.Requests.{CanWrite, opened-can, others-can, same-says, shut-puts, write-says, written-of}
use Rattle.lard_generate_answers.proofs.Sums.{IsTo}

-- events one behind another
pub writes-append : (c : ℕ) (xs ys : List Event) → writes c (xs ++ ys) ≡ writes c xs ++ writes c ys
writes-append c [] ys = refl
writes-append c (event.Get d path ∷ xs) ys = ap (λ (l : List ℕ). cond (nat_eq d c) (request path) [] ++ l) (writes-append c xs ys) ∙ sym (append_assoc (cond (nat_eq d c) (request path) []) (writes c xs) (writes c ys))
writes-append c (event.Write d bytes ∷ xs) ys = ap (λ (l : List ℕ). cond (nat_eq d c) bytes [] ++ l) (writes-append c xs ys) ∙ sym (append_assoc (cond (nat_eq d c) bytes []) (writes c xs) (writes c ys))
writes-append c (_ ∷ xs) ys = writes-append c xs ys

module _ (config : Config) (files : List (List ℕ × List ℕ)) where
  abbrev Reached : Machine → Type 0
  Reached = IsReached config files

  -- these clients may write
  abbrev MayAll : (ℕ → Type 0) → Machine → Type 0
  MayAll S m = (c : ℕ) → S c → CanWrite m c

  -- the events led from m to n: all that they have clients write was written, and these may write then
  pub record Leads (S : ℕ → Type 0) (es : List Event) (m n : Machine) : Type 0 where
    pub reached : Reached n
    pub may : MayAll S n
    pub says : (q : ℕ) → wrote n.journal q ≡ wrote m.journal q ++ writes q es

  -- so they do from each state in which these may write
  abbrev pub Keeps : (ℕ → Type 0) → (ℕ → Type 0) → List Event → Type 0
  Keeps S T es = (m n : Machine) → Reached m → MayAll S m → GoesThrough m es n → Leads T es m n

  -- ---- one event

  passes-on : (es : List Event) (k m n : Machine) (e : Event) → Passes k es m → HasRule e → machine_step m e ≡ Ok n → Passes k (es ++ e ∷ []) n
  passes-on [] k m n e p rule is = (n, rule, subst (λ (j : Machine). machine_step j e ≡ Ok n) p is, refl)
  passes-on (d ∷ es) k m n e p rule is = (p.0, p.1, p.2, passes-on es p.0 m n e p.3 rule is)

  -- a step of an event that is no settle
  record Steps (m : Machine) (e : Event) (n : Machine) : Type 0 where
    pub reached : Reached n
    pub done : machine_step m e ≡ Ok n
    pub after : IsAfter m e n

  steps : (m n : Machine) (e : Event) → Reached m → IsPlain e → MayCome e → event_step m e ≡ Ok n → Steps m e n
  steps m n e r plain may is =
      let rule = plain-rule e plain may in
      let done = plain-step m n e plain is in
      record { reached = (r.0 ++ e ∷ [], passes-on r.0 (machine_start config files) m n e r.1 rule done); done = done; after = step-after m (reached-viewed config files m r) e n rule done }

  keeps-one : (S T : ℕ → Type 0) (e : Event) → IsPlain e
      → ((m n : Machine) → MayAll S m → machine_step m e ≡ Ok n → IsAfter m e n → MayAll T n × ((q : ℕ) → wrote n.journal q ≡ wrote m.journal q ++ writes q (e ∷ []))) → Keeps S T (e ∷ [])
  keeps-one S T e plain one m n r may goes =
      let s = steps m goes.0 e r plain goes.1 goes.2 in
      let its = one m goes.0 may s.done s.after in
      subst (Leads T (e ∷ []) m) (sym goes.3) (record { reached = s.reached; may = its.0; says = its.1 })

  -- ---- several

  goes-apart : (xs ys : List Event) (m n : Machine) → GoesThrough m (xs ++ ys) n → (k : Machine) × GoesThrough m xs k × GoesThrough k ys n
  goes-apart [] ys m n g = (m, refl, g)
  goes-apart (e ∷ es) ys m n g = let more = goes-apart es ys g.0 n g.3 in (more.0, (g.0, g.1, g.2, more.1), more.2)

  keeps-nothing : (S : ℕ → Type 0) → Keeps S S []
  keeps-nothing S m n r may goes = subst (Leads S [] m) (sym goes) (record { reached = r; may = may; says = λ q. sym (append-nil (wrote m.journal q)) })

  keeps-both : (S T U : ℕ → Type 0) (xs ys : List Event) → Keeps S T xs → Keeps T U ys → Keeps S U (xs ++ ys)
  keeps-both S T U xs ys first second m n r may goes =
      let parts = goes-apart xs ys m n goes in
      let x = first m parts.0 r may parts.1 in
      let y = second parts.0 n x.reached x.may parts.2 in
      record {
        reached = y.reached;
        may = y.may;
        says = λ q. y.says q ∙ ap (λ (l : List ℕ). l ++ writes q ys) (x.says q) ∙ append_assoc (wrote m.journal q) (writes q xs) (writes q ys) ∙ ap (λ (l : List ℕ). wrote m.journal q ++ l) (sym (writes-append q xs ys));
      }

  keeps-fewer : (S T U : ℕ → Type 0) (es : List Event) → ((c : ℕ) → U c → T c) → Keeps S T es → Keeps S U es
  keeps-fewer S T U es fewer k m n r may goes = let x = k m n r may goes in record { reached = x.reached; may = λ c u. x.may c (fewer c u); says = x.says }

  -- what is made for 1, 2, .., n, each behind those before
  keeps-each : {A : Type 0} (S : ℕ → ℕ → Type 0) (f : ℕ → Lcg → List A × Lcg) (to : List A → List Event) → to [] ≡ [] → ((xs ys : List A) → to (xs ++ ys) ≡ to xs ++ to ys) → (n : ℕ) (g : Lcg)
      → ((k : ℕ) (h : Lcg) → k < n → Keeps (S k) (S (k + 1)) (to (f (k + 1) h).0)) → Keeps (S 0) (S n) (to (each f n g).0)
  unfolding each
  keeps-each S f to none both zero g one = subst (Keeps (S 0) (S 0)) (sym none) (keeps-nothing (S 0))
  keeps-each S f to none both (suc n) g one =
      let before = each f n g in
      let first : Keeps (S 0) (S n) (to before.0) = keeps-each S f to none both n g (λ k h less. one k h (omega (arith, less))) in
      let last : Keeps (S n) (S (n + 1)) (to (f (n + 1) before.1).0) = one n before.1 (omega arith) in
      subst (λ i. Keeps (S 0) (S i) (to (before.0 ++ (f (n + 1) before.1).0))) (omega arith)
      (subst (Keeps (S 0) (S (n + 1))) (sym (both before.0 (f (n + 1) before.1).0)) (keeps-both (S 0) (S n) (S (n + 1)) (to before.0) (to (f (n + 1) before.1).0) first last))

  -- ---- the events of a generated schedule

  -- one that writes nothing
  says-nothing : (m n : Machine) (e : Event) (q : ℕ) → IsUnwritten e → writes q (e ∷ []) ≡ [] → IsAfter m e n → wrote n.journal q ≡ wrote m.journal q ++ writes q (e ∷ [])
  says-nothing m n e q plain none a = same-says m n e q plain a ∙ sym (append-nil (wrote m.journal q)) ∙ ap (λ (l : List ℕ). wrote m.journal q ++ l) (sym none)

  up-to : (c k : ℕ) → IsTo (k + 1) c → c ≢ k + 1 → IsTo k c
  up-to c k to other = (to.0, omega (arith, to.1, other))

  keeps-open : (k isn iss wnd mss : ℕ) → Keeps (IsTo k) (IsTo (k + 1)) (event.Open (k + 1) isn iss wnd mss ∷ [])
  keeps-open k isn iss wnd mss = keeps-one (IsTo k) (IsTo (k + 1)) (event.Open (k + 1) isn iss wnd mss) tt (λ m n may done a.
      let can = opened-can m (k + 1) isn iss wnd mss n (table.get m.clients (k + 1)) (done-happens m n (event.Open (k + 1) isn iss wnd mss) done).1 in (
        λ c to. by_number (CanWrite n c) c (k + 1) (λ same. subst (CanWrite n) (sym same) can.1) (λ other. others-can m n (k + 1) c can.0 other (may c (up-to c k to other))),
        λ q. says-nothing m n (event.Open (k + 1) isn iss wnd mss) q tt refl a,
      ))

  -- the clients from k + 1 on
  abbrev IsBehind : ℕ → ℕ → ℕ → Type 0
  IsBehind n k c = (k < c) × (c ≤ n)

  keeps-ask : (n k file : ℕ) → k < n → Keeps (IsBehind n k) (IsBehind n k) (map action_event (Ask (k + 1) file ∷ []))
  keeps-ask n k file less = keeps-one (IsBehind n k) (IsBehind n k) (action_event (Ask (k + 1) file)) tt (λ m j may done a.
      let w = written-of m j (k + 1) _ (may (k + 1) (omega arith, omega (arith, less))) (done-happens m j (action_event (Ask (k + 1) file)) done).1 in (
        λ c is. by_number (CanWrite j c) c (k + 1) (λ same. subst (CanWrite j) (sym same) w.can) (λ other. others-can m j (k + 1) c w.puts other (may c is)),
        λ q. write-says m j (k + 1) _ q w a ∙ ap (λ (l : List ℕ). wrote m.journal q ++ l) (sym (append-nil _)),
      ))

  keeps-shut : (n k : ℕ) → Keeps (IsBehind n k) (IsBehind n (k + 1)) (map action_event (Shut (k + 1) ∷ []))
  keeps-shut n k = keeps-one (IsBehind n k) (IsBehind n (k + 1)) (event.Shut (k + 1)) tt (λ m j may done a.
      let p = shut-puts m j (k + 1) (table.get m.clients (k + 1)) (done-happens m j (event.Shut (k + 1)) done).1 in (
        λ c is. others-can m j (k + 1) c p (λ same. omega (arith, is.0, same)) (may c (omega (arith, is.0), is.1)),
        λ q. says-nothing m j (event.Shut (k + 1)) q tt refl a,
      ))

  keeps-end : (n k d : ℕ) → Keeps (IsBehind n k) (IsBehind n (k + 1)) (map action_event (shut_at (k + 1) d))
  keeps-end n k d = go (nat_eq d 0) where
    go : (b : Bool) → Keeps (IsBehind n k) (IsBehind n (k + 1)) (map action_event (cond b [] (Shut (k + 1) ∷ [])))
    go true = keeps-fewer (IsBehind n k) (IsBehind n k) (IsBehind n (k + 1)) [] (λ c is. (omega (arith, is.0), is.1)) (keeps-nothing (IsBehind n k))
    go false = keeps-shut n k

  keeps-client : (n k : ℕ) (g : Lcg) → k < n → Keeps (IsBehind n k) (IsBehind n (k + 1)) (map action_event (drawn_actions (k + 1) g).0)
  keeps-client n k g less =
      let asks = each (drawn_ask (k + 1)) (1 + draw 10 g) (behind g) in
      subst (Keeps (IsBehind n k) (IsBehind n (k + 1))) (sym (map-append action_event asks.0 (shut_at (k + 1) (draw 4 asks.1))))
      (keeps-both (IsBehind n k) (IsBehind n k) (IsBehind n (k + 1)) (map action_event asks.0) (map action_event (shut_at (k + 1) (draw 4 asks.1)))
      (keeps-each (λ i. IsBehind n k) (drawn_ask (k + 1)) (map action_event) refl (map-append action_event) (1 + draw 10 g) (behind g) (λ i h low. keeps-ask n k (draw 256 h) less))
      (keeps-end n k (draw 4 asks.1)))

  -- nobody needs to write any longer
  abbrev Nobody : ℕ → Type 0
  Nobody c = ⊥

  keeps-lose : (k : ℕ) → Keeps Nobody Nobody (event.Lose k ∷ [])
  keeps-lose k = keeps-one Nobody Nobody (event.Lose k) tt (λ m j may done a. (λ c no. absurd no, λ q. says-nothing m j (event.Lose k) q tt refl a))

  keeps-deliver : (k : ℕ) → Keeps Nobody Nobody (event.Deliver k ∷ [])
  keeps-deliver k = keeps-one Nobody Nobody (event.Deliver k) tt (λ m j may done a. (λ c no. absurd no, λ q. says-nothing m j (event.Deliver k) q tt refl a))

  keeps-fate : (c d : ℕ) → Keeps Nobody Nobody (fate_at c d)
  keeps-fate c d = go (nat_eq d 0) (nat_eq d 1) where
    go : (a b : Bool) → Keeps Nobody Nobody (cond a (event.Lose c ∷ []) (cond b (event.Deliver c ∷ event.Deliver c ∷ []) []))
    go true b = keeps-lose c
    go false true = keeps-both Nobody Nobody Nobody (event.Deliver c ∷ []) (event.Deliver c ∷ []) (keeps-deliver c) (keeps-deliver c)
    go false false = keeps-nothing Nobody

  -- all of them before the settle
  pub keeps-all : (n : ℕ) (f g h : Lcg) → Keeps (IsTo 0) Nobody ((each drawn_open n f).0 ++ map action_event (each drawn_actions n g).0 ++ (each drawn_fate n h).0)
  keeps-all n f g h =
      let opens = (each drawn_open n f).0 in
      let acts = map action_event (each drawn_actions n g).0 in
      let fates = (each drawn_fate n h).0 in
      let first : Keeps (IsTo 0) (IsTo n) opens = keeps-each IsTo drawn_open (λ es. es) refl (λ xs ys. refl) n f (λ k l less. keeps-open k _ _ 65535 1460) in
      let second : Keeps (IsBehind n 0) (IsBehind n n) acts = keeps-each (IsBehind n) drawn_actions (map action_event) refl (map-append action_event) n g (λ k l less. keeps-client n k l less) in
      let third : Keeps Nobody Nobody fates = keeps-each (λ i. Nobody) drawn_fate (λ es. es) refl (λ xs ys. refl) n h (λ k l less. keeps-fate (k + 1) (draw 8 l)) in
      keeps-both (IsTo 0) Nobody Nobody (opens ++ acts) fates
      (keeps-both (IsTo 0) (IsTo n) Nobody opens acts first (keeps-fewer (IsTo n) (IsBehind n n) Nobody acts (λ c no. absurd no) (λ m j r may goes. second m j r (λ c is. may c (omega (arith, is.0), is.1)) goes)))
      third
