-- After a round all that is on its way is as what is sent in a round is.
use Rattle.std.proofs.Common.{ℕ, zero, suc, ◌+◌, ◌*◌, ◌≡◌, ◌<◌, ◌≤◌, List, [], ◌∷◌, sym, subst, ⊎_elim, arith}
use Rattle.lard_rounds.specs.Ripening.{Ripens, Turns}
use Rattle.lard_rounds.proofs.Resting.{rests}
use Rattle.lard_rounds.specs.Rounds.{FireOn, Game, Item, Job, Owes, Packet, Round, Rounds, Shoots, Takes, Works}

module _ {M J : Type 0} (g : Game M J) (Good : M → Type 0) (Before After : M → ℕ → Type 0) (o : Ripens g Good Before After) where
  -- within a round, in which at first so many packets were sent
  record Ripe (first : ℕ) (l : M) : Type 0 where
    good : Good l
    far : first ≤ g.sent l
    olds : (k : ℕ) → g.on_way l k → k ≤ first → Before l k
    news : (k : ℕ) → g.on_way l k → first < k → After l k

  turns : (first : ℕ) (l n : M) → Ripe first l → Turns g Good Before After l n → Ripe first n
  turns first l n h t =
      let far : first ≤ g.sent l = h.far in let more : g.sent l ≤ g.sent n = t.more in record {
        good = t.good;
        far = omega arith;
        olds = λ k on old. ⊎_elim
            (λ (e : g.on_way l k × (Before l k → Before n k) × (After l k → After n k)). e.1 (h.olds k e.0 old))
            (λ (e : (g.sent l < k) × After n k). absurd (let late : g.sent l < k = e.0 in omega arith))
            (t.way k on);
        news = λ k on late. ⊎_elim
            (λ (e : g.on_way l k × (Before l k → Before n k) × (After l k → After n k)). e.2 (h.news k e.0 late))
            (λ (e : (g.sent l < k) × After n k). e.1)
            (t.way k on);
      }

  takes : (first : ℕ) (l n : M) (xs : List (Item g)) → Ripe first l → Takes g first l xs n → Ripe first n
  takes first l n [] h is = subst (Ripe first) (sym is) h
  takes first l n (Packet k ∷ xs) h t = takes first t.0 n xs (turns first l t.0 h (o.packets l t.0 k h.good t.2 (h.olds k t.2 t.1) t.3)) t.4
  takes first l n (Job j ∷ xs) h t = takes first t.0 n xs (turns first l t.0 h (o.jobs l t.0 j h.good t.1 t.2)) t.3

  began : (m : M) → Good m → ((k : ℕ) → g.on_way m k → Before m k) → Ripe (g.sent m) m
  began m good all = record { good = good; far = omega arith; olds = λ k on old. all k on; news = λ k on late. absurd (let known : k ≤ g.sent m = o.known m k good on in omega arith) }

  -- where timers fire nothing was on its way
  fires-on : (more : ℕ) (l n : M) → Good l → ((k : ℕ) → g.on_way l k → After l k) → FireOn g more l n → Good n × ((k : ℕ) → g.on_way n k → After n k)
  fires-on zero l n good all is = subst (λ z. Good z × ((k : ℕ) → g.on_way z k → After z k)) (sym is) (good, all)
  fires-on (suc more) l n good all t =
      let s = o.timers l t.0 good t.1 in
      fires-on more t.0 n s.good (λ k on. ⊎_elim
      (λ (e : g.on_way l k × (Before l k → Before t.0 k) × (After l k → After t.0 k)). e.2 (all k e.0))
      (λ (e : (g.sent l < k) × After t.0 k). e.1)
      (s.way k on)) t.2

  -- where all that is on its way before the round is as `Before` says
  pub ripens : (m n : M) → Good m → ((k : ℕ) → g.on_way m k → Before m k) → Round g m n → Good n × ((k : ℕ) → g.on_way n k → After n k)
  ripens m n good all r = ⊎_elim
      (λ (w : Works g m n).
      let h = takes (g.sent m) m n (w.item ∷ w.items) (began m good all) w.takes in
      (h.good, λ k on. h.news k on (w.emptied k on)))
      (λ (s : Shoots g m n). fires-on (suc s.more) m n good (λ k on. absurd (s.idle.packets k on)) (s.after, o.are_timers m s.after s.begins, s.rest))
      r

-- ---- two rounds before

-- Where two rounds lead to what is known of a state, and few units are left then, it comes to rest.
module _ {M J : Type 0} (g : Game M J) (longest reach : ℕ) (o : Owes g longest reach) (Begun Between : M → Type 0) (r : ℕ)
    (first : (m n : M) → Begun m → Round g m n → Between n)
    (second : (m n : M) → Between m → Round g m n → g.good n × ((longest + 1 + reach) * (g.units n + 1) ≤ r)) where
  after-one : (m n : M) → Between m → Rounds g (suc r) m n → g.is_quiet n
  after-one m n between t = ⊎_elim
      (λ (e : g.is_quiet m × (n ≡ m)). subst g.is_quiet (sym e.1) e.0)
      (λ (e : (l : M) × Round g m l × Rounds g r l n). let h = second m e.0 between e.1 in rests g longest reach o r e.0 n h.0 h.1 e.2)
      t

  pub ripe-rests : (m n : M) → Begun m → Rounds g (suc (suc r)) m n → g.is_quiet n
  ripe-rests m n begun t = ⊎_elim
      (λ (e : g.is_quiet m × (n ≡ m)). subst g.is_quiet (sym e.1) e.0)
      (λ (e : (l : M) × Round g m l × Rounds g (suc r) l n). after-one e.0 n (first m e.0 begun e.1) e.2)
      t
