-- A round told list by list: all packets that are on their way are delivered, and then jobs are done until there are none.
use Rattle.std.proofs.Common.{ℕ, ◌≡◌, ◌≢◌, ◌<◌, ◌≤◌, List, [], ◌∷◌, ◌++◌, ◌⊎◌, inl, inr, sym, subst, ⊎_elim, arith}
use Rattle.std.specs.List.{AllByRecursion}
use Rattle.lard_rounds.specs.Rounds.{Game, Item, Job, Packet, Takes, Works}

-- ---- numbers

-- a number that is none of these
abbrev pub IsBut : ℕ → List ℕ → Type 0
IsBut i [] = Unit {0}
IsBut i (k ∷ ks) = (i ≢ k) × IsBut i ks

-- none stands twice
abbrev pub AreApart : List ℕ → Type 0
AreApart [] = Unit {0}
AreApart (k ∷ ks) = IsBut k ks × AreApart ks

module _ {M J : Type 0} (g : Game M J) where
  -- packets are delivered one after the other, and jobs are done so
  abbrev pub DeliverOn : List ℕ → M → M → Type 0
  DeliverOn [] m n = n ≡ m
  DeliverOn (k ∷ ks) m n = (l : M) × g.delivers m k l × DeliverOn ks l n

  abbrev pub CompleteOn : List J → M → M → Type 0
  CompleteOn [] m n = n ≡ m
  CompleteOn (j ∷ js) m n = (l : M) × g.queued m j × g.completes m j l × CompleteOn js l n

  pub complete-append : (js is : List J) (m l n : M) → CompleteOn js m l → CompleteOn is l n → CompleteOn (js ++ is) m n
  complete-append [] is m l n same more = subst (λ z. CompleteOn is z n) same more
  complete-append (j ∷ js) is m l n on more = (on.0, on.1, on.2, complete-append js is on.0 l n on.3 more)

  -- What a step leaves on its way: all but what it takes away. What it sends has a number behind all before it.
  pub record Leaves (Taken : ℕ → Type 0) (m n : M) : Type 0 where
    pub more : g.sent m ≤ g.sent n
    pub others : (i : ℕ) → g.on_way m i → Taken i ⊎ g.on_way n i
    pub way : (i : ℕ) → g.on_way n i → (g.on_way m i × (Taken i → ⊥)) ⊎ (g.sent m < i)

  -- what is delivered, and then what is done
  abbrev pub items_of : List ℕ → List J → List (Item g)
  items_of [] [] = []
  items_of [] (j ∷ js) = Job j ∷ items_of [] js
  items_of (k ∷ ks) js = Packet k ∷ items_of ks js

  -- A delivery takes its packet away and no other, and a job takes none.
  pub record Plays (Good : M → Type 0) : Type 0 where
    pub deliveries : (m n : M) (k : ℕ) → Good m → g.on_way m k → g.delivers m k n → Good n × Leaves (λ i. i ≡ k) m n
    pub completions : (m n : M) (j : J) → Good m → g.queued m j → g.completes m j n → Good n × Leaves (λ i. ⊥) m n

  module _ (Good : M → Type 0) (p : Plays Good) where
    -- one of the first packets, and on its way
    abbrev pub IsReady : ℕ → M → ℕ → Type 0
    IsReady first m k = (k ≤ first) × g.on_way m k

    still-ready : (first k : ℕ) (m n : M) → Leaves (λ i. i ≡ k) m n → (ks : List ℕ) → IsBut k ks → AllByRecursion (IsReady first m) ks → AllByRecursion (IsReady first n) ks
    still-ready first k m n t [] apart h = tt
    still-ready first k m n t (i ∷ ks) apart h =
        ((h.0.0, ⊎_elim (λ (e : i ≡ k). absurd (apart.0 (sym e))) (λ on. on) (t.others i h.0.1)), still-ready first k m n t ks apart.1 h.1)

    -- behind deliveries and jobs
    record Behind (ks : List ℕ) (m n : M) : Type 0 where
      good : Good n
      more : g.sent m ≤ g.sent n
      way : (i : ℕ) → g.on_way n i → (g.on_way m i × IsBut i ks) ⊎ (g.sent m < i)

    none-behind : (m n : M) → Good m → n ≡ m → Behind [] m n
    none-behind m n good same = subst (Behind [] m) (sym same) (record { good = good; more = omega arith; way = λ i on. inl (on, tt) })

    job-behind : (m l n : M) → Leaves (λ i. ⊥) m l → Behind [] l n → Behind [] m n
    job-behind m l n t h =
        let a : g.sent m ≤ g.sent l = t.more in let b : g.sent l ≤ g.sent n = h.more in record {
          good = h.good;
          more = omega arith;
          way = λ i on. ⊎_elim
              (λ (e : g.on_way l i × IsBut i []). ⊎_elim (λ (w : g.on_way m i × (⊥ → ⊥)). inl (w.0, tt)) (λ late. inr late) (t.way i e.0))
              (λ (late : g.sent l < i). inr (omega arith))
              (h.way i on);
        }

    packet-behind : (k : ℕ) (ks : List ℕ) (m l n : M) → Leaves (λ i. i ≡ k) m l → Behind ks l n → Behind (k ∷ ks) m n
    packet-behind k ks m l n t h =
        let a : g.sent m ≤ g.sent l = t.more in let b : g.sent l ≤ g.sent n = h.more in record {
          good = h.good;
          more = omega arith;
          way = λ i on. ⊎_elim
              (λ (e : g.on_way l i × IsBut i ks). ⊎_elim (λ (w : g.on_way m i × (i ≡ k → ⊥)). inl (w.0, (w.1, e.1))) (λ late. inr late) (t.way i e.0))
              (λ (late : g.sent l < i). inr (omega arith))
              (h.way i on);
        }

    jobs-behind : (js : List J) (m n : M) → Good m → CompleteOn js m n → Behind [] m n
    jobs-behind [] m n good same = none-behind m n good same
    jobs-behind (j ∷ js) m n good on = let d = p.completions m on.0 j good on.1 on.2 in job-behind m on.0 n d.1 (jobs-behind js on.0 n d.0 on.3)

    all-behind : (first : ℕ) (ks : List ℕ) (js : List J) (m l n : M) → Good m → AllByRecursion (IsReady first m) ks → AreApart ks → DeliverOn ks m l → CompleteOn js l n → Behind ks m n
    all-behind first [] js m l n good ready apart same on = jobs-behind js m n good (subst (λ z. CompleteOn js z n) same on)
    all-behind first (k ∷ ks) js m l n good ready apart on jobs =
        let d = p.deliveries m on.0 k good ready.0.1 on.1 in
        packet-behind k ks m on.0 n d.1 (all-behind first ks js on.0 l n d.0 (still-ready first k m on.0 d.1 ks apart.0 ready.1) apart.1 on.2 jobs)

    jobs-take : (first : ℕ) (js : List J) (m n : M) → CompleteOn js m n → Takes g first m (items_of [] js) n
    jobs-take first [] m n same = same
    jobs-take first (j ∷ js) m n on = (on.0, on.1, on.2, jobs-take first js on.0 n on.3)

    all-take : (first : ℕ) (ks : List ℕ) (js : List J) (m l n : M) → Good m → AllByRecursion (IsReady first m) ks → AreApart ks → DeliverOn ks m l → CompleteOn js l n → Takes g first m (items_of ks js) n
    all-take first [] js m l n good ready apart same on = jobs-take first js m n (subst (λ z. CompleteOn js z n) same on)
    all-take first (k ∷ ks) js m l n good ready apart on jobs =
        let d = p.deliveries m on.0 k good ready.0.1 on.1 in
        (on.0, ready.0.0, ready.0.1, on.1, all-take first ks js on.0 l n d.0 (still-ready first k m on.0 d.1 ks apart.0 ready.1) apart.1 on.2 jobs)

    -- So a round delivers these packets, which are all that are on their way, and does these jobs, until there are none.
    pub record Told (ks : List ℕ) (js : List J) (m n : M) : Type 0 where
      pub good : Good m
      pub ready : AllByRecursion (IsReady (g.sent m) m) ks
      pub apart : AreApart ks
      pub complete : (k : ℕ) → g.on_way m k → IsBut k ks → ⊥
      pub between : M
      pub delivers : DeliverOn ks m between
      pub completes : CompleteOn js between n
      pub done : (j : J) → g.queued n j → ⊥

    module _ (ks : List ℕ) (js : List J) (m n : M) (t : Told ks js m n) where
      behind : Behind ks m n
      behind = all-behind (g.sent m) ks js m t.between n t.good t.ready t.apart t.delivers t.completes

      pub told-good : Good n
      told-good = behind.good

      -- where something is delivered or done
      pub told-works : (x : Item g) (xs : List (Item g)) → items_of ks js ≡ x ∷ xs → Works g m n
      told-works x xs are = record {
        item = x;
        items = xs;
        takes = subst (λ (ys : List (Item g)). Takes g (g.sent m) m ys n) are (all-take (g.sent m) ks js m t.between n t.good t.ready t.apart t.delivers t.completes);
        emptied = λ k on. ⊎_elim (λ (e : g.on_way m k × IsBut k ks). absurd (t.complete k e.0 e.1)) (λ late. late) (behind.way k on);
        done = t.done;
      }
