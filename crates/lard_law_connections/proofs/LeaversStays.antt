-- Some node is open and does not leave, in every run: a connection that comes back closes the node that sends it, which leaves.
use Rattle.std.proofs.Common.{◌≡◌, ◌≢◌, ◌<◌, ⊎_elim, ℕ, inl, zero, suc, ◌||◌, not, nat_eq, Bool, true, false, List, [], ◌∷◌, length, Option, Some, None, Result, Ok, Err, refl, sym, ap, ◌∙◌, subst, arith, eq-eqb}
use Rattle.std.specs.List.{filter, list_any}
use Rattle.lard_history.proofs.Seeing.{other_number}
use Rattle.lard_law_connections.proofs.Forms.{Clocks, ComesToFront, FrontStays, FrontStep, front-form}
use Rattle.lard_law_connections.proofs.LeaversOpen.{IsOpenIn, Spares, SparesBy, SparesOn, step-open}
use Rattle.lard_law_connections.proofs.LeaversSenders.{back-leaves}
use Rattle.lard_law_connections.proofs.LeaversSteps.{leaving-stays}
use Rattle.lard_law_view.proofs.After.{step-after}
use Rattle.lard_law_view.proofs.Carried.{IsOn, carried-keep}
use Rattle.lard_law_view.proofs.Runs.{length-replicated, of-nodes}
use Rattle.lard_law_view.specs.Prelude.{Body, Config, Event, FrontIn, FrontState, IsReached, IsViewed, Machine, Message, MsgFault, NodeState, clocked, decoded_message, front_setting, front_step, leaves_at, machine_start, machine_step, machine_told, no_stays, node_at, which_leave}
use Rattle.lard_loads.proofs.Firsts.{IsIn, any-length, from_filter, in_range}
use Rattle.lard_message.specs.declared.message.Body.TheVariants as body
use Rattle.lard_rules.specs.FrontSound.{HasOther}
use Rattle.lard_rules.specs.declared.front.FrontIn.TheVariants as input

pub record SomeStays (m : Machine) : Type 0 where
  pub node : ℕ
  pub opened : IsOpenIn node m.front.dispatch
  pub stays : which_leave m node ≡ false

-- ---- one of a list, and another one

or-true : (b : Bool) → (b || true) ≡ true
or-true true = refl
or-true false = refl

-- another one than n is in the list
pub any-other : (n i : ℕ) (ns : List ℕ) → i ≢ n → IsIn i ns → list_any (λ m. not (nat_eq m n)) ns ≡ true
any-other n i [] apart within = absurd within
any-other n i (x ∷ xs) apart within = ⊎_elim
    (λ (same : x ≡ i). ap (λ b. not b || list_any (λ m. not (nat_eq m n)) xs) (other_number x n (λ is. apart (sym same ∙ is))))
    (λ (later : IsIn i xs). ap (λ b. not (nat_eq x n) || b) (any-other n i xs apart later) ∙ or-true (not (nat_eq x n))) within

-- which one
pub the-other : (n : ℕ) (ns : List ℕ) → list_any (λ m. not (nat_eq m n)) ns ≡ true → (i : ℕ) × (i ≢ n) × IsIn i ns
the-other n ns some = go (filter (λ m. not (nat_eq m n)) ns) refl (any-length (λ m. not (nat_eq m n)) ns some) where
  go : (xs : List ℕ) → filter (λ m. not (nat_eq m n)) ns ≡ xs → 0 < length xs → (i : ℕ) × (i ≢ n) × IsIn i ns
  go [] is none = absurd (omega (arith, none))
  go (i ∷ xs) is more =
      let found = from_filter (λ m. not (nat_eq m n)) i ns (subst (IsIn i) (sym is) (inl refl)) in
      (i, (λ same. let no : false ≡ true = sym (ap not (eq-eqb i n same)) ∙ found.0 in cc), found.1)

-- a node that leaves is there
pub has-nodes : (ns : List NodeState) (n : ℕ) → leaves_at (node_at ns n) ≡ true → 0 < length ns
has-nodes [] zero leaves = let no : false ≡ true = leaves in cc
has-nodes [] (suc n) leaves = let no : false ≡ true = leaves in cc
has-nodes (s ∷ ns) n leaves = omega arith

pub apart-by : (m : Machine) (i n : ℕ) → which_leave m i ≡ false → which_leave m n ≡ true → i ≢ n
apart-by m i n stays leaves same = let no : false ≡ true = sym stays ∙ ap (which_leave m) same ∙ leaves in cc

-- ---- INTERIM: no node leaves yet

pub none-leaves : (m : Machine) → IsViewed m → (n : ℕ) → which_leave m n ≡ false
none-leaves m view n = go (node_at m.nodes n) refl where
  go : (o : Option NodeState) → node_at m.nodes n ≡ o → leaves_at o ≡ false
  go None at = refl
  go (Some s) at = view.remain n s at

-- INTERIM: so the other one that is open where a node is drained stays
drain-leaves : (m : Machine) → IsViewed m → (n : ℕ) → HasOther m.front n → (i : ℕ) × (i ≢ n) × IsOpenIn i m.front.dispatch × (which_leave m i ≡ false)
drain-leaves m view n other = let one = the-other n m.front.dispatch.books.loads.open_nodes other in (one.0, one.1, one.2, none-leaves m view one.0)

-- ---- a step

module _ (config : Config) (files : List (List ℕ × List ℕ)) where
  module _ (k n : Machine) (e : Event) (on : IsOn config files k) (is : machine_step k e ≡ Ok n) (some : SomeStays k) where
    still : (i : ℕ) → which_leave k i ≡ false → which_leave n i ≡ false
    still i stays = ap (λ (l : ℕ → Bool). l i) (leaving-stays k n e is) ∙ stays

    -- the one that stays is not closed by what comes
    abbrev Spared : FrontIn → Type 0
    Spared x = (i : ℕ) × Spares i x × IsOpenIn i k.front.dispatch × (which_leave k i ≡ false)

    message-spares : (from : ℕ) (bytes : List ℕ) → ComesToFront k e (input.Message from bytes) → SparesOn some.node from (decoded_message bytes)
    message-spares from bytes came = go (decoded_message bytes) refl where
      go : (given : Result Message MsgFault) → decoded_message bytes ≡ given → SparesOn some.node from given
      go (Err fault) reads = tt
      go (Ok msg) reads = by msg.body reads where
        by : (b : Body) → decoded_message bytes ≡ Ok (record { c = msg.c; epoch = msg.epoch; body = b }) → SparesBy some.node from b
        by body.Refused spells = apart-by k some.node from some.stays (back-leaves config files k on.reached e from bytes came msg.c msg.epoch.0 None spells)
        by (body.Give parts) spells =
            apart-by k some.node from some.stays (back-leaves config files k on.reached e from bytes came msg.c msg.epoch.0 (Some parts) spells)
        by _ spells = tt

    spared : (x : FrontIn) → ComesToFront k e x → Spared x
    spared (input.Segment c iss bytes) came = (some.node, tt, some.opened, some.stays)
    spared (input.Timer c) came = (some.node, tt, some.opened, some.stays)
    spared (input.Message from bytes) came = (some.node, message-spares from bytes came, some.opened, some.stays)
    spared (input.Drain m) came = drain-leaves k on.view m came

    step-stays : SomeStays n
    unfolding machine_told clocked
    step-stays = ⊎_elim stays (⊎_elim moves clocks) (front-form k n e is) where
      same : n.front ≡ k.front → SomeStays n
      same front = record {
        node = some.node;
        opened = subst (λ (f : FrontState). IsOpenIn some.node f.dispatch) (sym front) some.opened;
        stays = still some.node some.stays;
      }

      stays : FrontStays k e n → SomeStays n
      stays s = same s.front

      moves : FrontStep k e n → SomeStays n
      moves s =
          let one = spared s.comes s.came in
          let after : n.front ≡ (front_step (front_setting k) k.front s.comes).0 = ap (λ (m : Machine). m.front) s.is in
          record {
            node = one.0;
            opened = subst (λ (f : FrontState). IsOpenIn one.0 f.dispatch) (sym after) (step-open one.0 (front_setting k) k.front one.2 s.comes one.1);
            stays = still one.0 one.3;
          }

      clocks : Clocks k e n → SomeStays n
      clocks c = same (ap (λ (m : Machine). m.front) c.is)

  start-stays : 0 < length (machine_start config files).nodes → SomeStays (machine_start config files)
  start-stays some =
      let count = length-replicated (no_stays config.cache) config.nodes in
      record {
        node = 1;
        opened = in_range 1 config.nodes 1 (omega arith) (omega (arith, some, count));
        stays = of-nodes (λ o. leaves_at o ≡ false) config.nodes (no_stays config.cache) refl refl 1;
      }

  -- where there is a node at all
  pub some-stays : (m : Machine) → IsReached config files m → 0 < length m.nodes → SomeStays m
  some-stays = carried-keep config files (λ k. 0 < length k.nodes → SomeStays k) start-stays
      (λ k n e on h rule is some. step-stays k n e on is (h (subst (λ (count : ℕ). 0 < count) (step-after k on.view e n rule is).nodes some)))
