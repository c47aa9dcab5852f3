-- What owes as much comes to rest.
use Rattle.std.proofs.Common.{ℕ, zero, suc, ◌≡◌, ◌+◌, ◌*◌, ◌<◌, ◌≤◌, List, [], ◌∷◌, ◌⊎◌, inl, inr, sym, subst, ⊎_elim, arith}
use Rattle.std.proofs.lemmas.Bool.{cases_lt}
use Rattle.lard_rounds.specs.Rounds.{AreShorter, ComesToRest, Completes, Delivers, FireOn, Game, Goes, Item, Job, JobNearer, Nearer, Owes, Packet, Round, Rounds, Shoots, Takes, Works}

module _ {M J : Type 0} (g : Game M J) (longest reach : ℕ) (o : Owes g longest reach) where
  -- ---- what holds all through a round that delivers, in which at first so many packets were sent and so many units were left

  module _ (first u : ℕ) where
    -- a state within the round
    record Within (l : M) : Type 0 where
      good : g.good l
      low : g.units l ≤ u
      far : first ≤ g.sent l

    goes-within : (l n : M) → Within l → Goes g l n → Within n
    goes-within l n w s =
        let less : g.units n ≤ g.units l = s.less in let low : g.units l ≤ u = w.low in
        let more : g.sent l ≤ g.sent n = s.more in let far : first ≤ g.sent l = w.far in
        record { good = s.good; low = omega arith; far = omega arith }

    abbrev Fell : M → Type 0
    Fell l = g.units l < u

    -- a unit went, or none does in the step
    or-still : {A : Type 0} (l n : M) → Within l → Goes g l n → (Fell n → A) → (g.units l ≤ g.units n → A) → A
    or-still l n w s f h = ⊎_elim
        (λ (t : g.units n < g.units l). let low : g.units l ≤ u = w.low in f (omega arith))
        h
        (cases_lt (g.units n) (g.units l))

    fell-on : (l n : M) → Goes g l n → Fell l → Fell n
    fell-on l n s f = let less : g.units n ≤ g.units l = s.less in omega arith

    newer : (l n : M) (d : ℕ) → Within l → Nearer g n (g.sent l) d → Nearer g n first d
    newer l n d w x = let far : first ≤ g.sent l = w.far in let late : g.sent l < x.number = x.is_new in
        record { number = x.number; is_new = omega arith; waits = x.waits; leads = x.leads }

    -- a new one that is near waits on, and stays near
    near-on : (l n : M) (d : ℕ) → Goes g l n → g.units l ≤ g.units n → ((i : ℕ) → first < i → g.on_way l i → g.on_way n i) → Nearer g l first d → Nearer g n first d
    near-on l n d s still others x =
        record { number = x.number; is_new = x.is_new; waits = others x.number x.is_new x.waits; leads = s.stays still d x.number x.waits x.leads }

    -- what is not the old packet that is delivered
    but-old : (l n : M) (k : ℕ) → k ≤ first → ((i : ℕ) → g.on_way l i → (i ≡ k) ⊎ g.on_way n i) → (i : ℕ) → first < i → g.on_way l i → g.on_way n i
    but-old l n k old others i new on = ⊎_elim (λ (e : i ≡ k). absurd (omega arith)) (λ t. t) (others i on)

    -- ---- chains get shorter, or something is as near as what timers send

    abbrev Made : M → Type 0
    Made l = Fell l ⊎ Nearer g l first reach

    record Short (j : ℕ) (l : M) : Type 0 where
      olds : (k : ℕ) → g.on_way l k → g.chain l k < suc j
      news : (k : ℕ) → g.on_way l k → first < k → g.chain l k < j
      jobs : (i : J) → g.queued l i → g.job_chain l i < suc j

    made-on : (l n : M) → Within l → Goes g l n → ((i : ℕ) → first < i → g.on_way l i → g.on_way n i) → Made l → Made n
    made-on l n w s others m = ⊎_elim
        (λ f. inl (fell-on l n s f))
        (λ x. or-still l n w s (λ f. inl f) (λ still. inr (near-on l n reach s still others x)))
        m

    -- in a step in which no unit goes, where what it sends has shorter chains than this one
    short-on : (j c : ℕ) (l n : M) → Within l → Goes g l n → g.units l ≤ g.units n → c < suc j → AreShorter g n (g.sent l) c
        → ((i : J) → g.queued n i → g.queued l i ⊎ (g.job_chain n i ≤ c)) → Short j l → Short j n
    short-on j c l n w s still top shorter queues h = record {
      olds = λ k on. ⊎_elim
          (λ was. let a : g.chain n k ≤ g.chain l k = s.shrinks still k was in let b : g.chain l k < suc j = h.olds k was in omega arith)
          (λ new. let a : g.chain n k < c = shorter k on new in omega arith)
          (s.way k on);
      news = λ k on late. ⊎_elim
          (λ was. let a : g.chain n k ≤ g.chain l k = s.shrinks still k was in let b : g.chain l k < j = h.news k was late in omega arith)
          (λ new. let a : g.chain n k < c = shorter k on new in omega arith)
          (s.way k on);
      jobs = λ i on. ⊎_elim
          (λ was. let a : g.job_chain n i ≤ g.job_chain l i = s.job_shrinks still i was in let b : g.job_chain l i < suc j = h.jobs i was in omega arith)
          (λ a. omega arith)
          (queues i on);
    }

    drains : (j : ℕ) (l n : M) (xs : List (Item g)) → Within l → Takes g first l xs n → Made l ⊎ Short j l → Within n × (Made n ⊎ Short j n)
    drains j l n [] w is h = subst (λ z. Within z × (Made z ⊎ Short j z)) (sym is) (w, h)
    drains j l n (Packet k ∷ xs) w t h =
        let m = t.0 in
        let d = o.packets l m k w.good t.2 t.3 in
        let others = but-old l m k t.1 d.others in
        drains j m n xs (goes-within l m w d.goes) t.4 (⊎_elim
        (λ made. inl (made-on l m w d.goes others made))
        (λ short. or-still l m w d.goes (λ f. inl (inl f)) (λ still. ⊎_elim
        (λ a. inr (short-on j (g.chain l k) l m w d.goes still (short.olds k t.2) a (λ i on. ⊎_elim (λ was. inl was) (λ f. inr (f still)) (d.queues i on)) short))
        (λ x. inl (inr (newer l m reach w x)))
        (d.shorter still)))
        h)
    drains j l n (Job i ∷ xs) w t h =
        let m = t.0 in
        let d = o.jobs l m i w.good t.1 t.2 in
        drains j m n xs (goes-within l m w d.goes) t.3 (⊎_elim
        (λ made. inl (made-on l m w d.goes (λ k late on. d.others k on) made))
        (λ short. or-still l m w d.goes (λ f. inl (inl f)) (λ still. ⊎_elim
        (λ a. inr (short-on j (g.job_chain l i) l m w d.goes still (short.jobs i t.1) a (λ q on. inl (d.queues q on)) short))
        (λ x. inl (inr (newer l m reach w x)))
        (d.shorter still)))
        h)

    -- ---- what is near comes nearer

    record NearOld (l : M) (d : ℕ) : Type 0 where
      number : ℕ
      is_old : number ≤ first
      waits : g.on_way l number
      leads : g.near l d number

    abbrev Found : ℕ → M → Type 0
    Found d l = Fell l ⊎ (NearOld l (suc d) ⊎ (Nearer g l first d ⊎ JobNearer g l (suc d)))

    finds : (d : ℕ) (l n : M) (xs : List (Item g)) → Within l → Takes g first l xs n → Found d l → Found d n
    finds d l n [] w is f = subst (Found d) (sym is) f
    finds d l n (Packet k ∷ xs) w t f =
        let m = t.0 in
        let s = o.packets l m k w.good t.2 t.3 in
        let others = but-old l m k t.1 s.others in
        finds d m n xs (goes-within l m w s.goes) t.4 (⊎_elim
        (λ fell. inl (fell-on l m s.goes fell))
        (λ (e : NearOld l (suc d) ⊎ (Nearer g l first d ⊎ JobNearer g l (suc d))). or-still l m w s.goes (λ fell. inl fell) (λ still. ⊎_elim
        (λ (x : NearOld l (suc d)). old k l m still s w x (s.others x.number x.waits))
        (λ (e2 : Nearer g l first d ⊎ JobNearer g l (suc d)). ⊎_elim
        (λ (x : Nearer g l first d). inr (inr (inl (near-on l m d s.goes still others x))))
        (λ (x : JobNearer g l (suc d)). inr (inr (inr (record { job = x.job; waits = s.jobs x.job x.waits; leads = s.goes.job_stays still (suc d) x.job x.waits x.leads })))) e2) e))
        f)
      where
        old : (k : ℕ) (l m : M) → g.units l ≤ g.units m → Delivers g reach l k m → Within l → (x : NearOld l (suc d)) → (x.number ≡ k) ⊎ g.on_way m x.number → Found d m
        old k l m still s w x (inl e) = ⊎_elim
            (λ y. inr (inr (inl (newer l m d w y))))
            (λ y. inr (inr (inr y)))
            (s.leads still d (subst (g.near l (suc d)) e x.leads))
        old k l m still s w x (inr on) = inr (inl (record { number = x.number; is_old = x.is_old; waits = on; leads = s.goes.stays still (suc d) x.number x.waits x.leads }))
    finds d l n (Job i ∷ xs) w t f =
        let m = t.0 in
        let s = o.jobs l m i w.good t.1 t.2 in
        finds d m n xs (goes-within l m w s.goes) t.3 (⊎_elim
        (λ fell. inl (fell-on l m s.goes fell))
        (λ (e : NearOld l (suc d) ⊎ (Nearer g l first d ⊎ JobNearer g l (suc d))). or-still l m w s.goes (λ fell. inl fell) (λ still. ⊎_elim
        (λ (x : NearOld l (suc d)). inr (inl (record { number = x.number; is_old = x.is_old; waits = s.others x.number x.waits; leads = s.goes.stays still (suc d) x.number x.waits x.leads })))
        (λ (e2 : Nearer g l first d ⊎ JobNearer g l (suc d)). ⊎_elim
        (λ (x : Nearer g l first d). inr (inr (inl (near-on l m d s.goes still (λ k late on. s.others k on) x))))
        (λ (x : JobNearer g l (suc d)). job i l m still s w x (s.jobs x.job x.waits)) e2) e))
        f)
      where
        job : (i : J) (l m : M) → g.units l ≤ g.units m → Completes g reach l i m → Within l → (x : JobNearer g l (suc d)) → (x.job ≡ i) ⊎ g.queued m x.job → Found d m
        job i l m still s w x (inl e) = inr (inr (inl (newer l m d w (s.leads still d (subst (g.job_near l (suc d)) e x.leads)))))
        job i l m still s w x (inr on) = inr (inr (inr (record { job = x.job; waits = on; leads = s.goes.job_stays still (suc d) x.job x.waits x.leads })))

  -- ---- one round that delivers

  module _ (m n : M) (good : g.good m) (w : Works g m n) where
    began : Within (g.sent m) (g.units m) m
    began = record { good = good; low = omega arith; far = omega arith }

    keeps : (l : M) (xs : List (Item g)) → Within (g.sent m) (g.units m) l → Takes g (g.sent m) l xs n → Within (g.sent m) (g.units m) n
    keeps l [] h is = subst (Within (g.sent m) (g.units m)) (sym is) h
    keeps l (Packet k ∷ xs) h t = keeps t.0 xs (goes-within (g.sent m) (g.units m) l t.0 h (o.packets l t.0 k h.good t.2 t.3).goes) t.4
    keeps l (Job i ∷ xs) h t = keeps t.0 xs (goes-within (g.sent m) (g.units m) l t.0 h (o.jobs l t.0 i h.good t.1 t.2).goes) t.3

    pub works-within : g.good n × (g.units n ≤ g.units m)
    works-within = let h = keeps m (w.item ∷ w.items) began w.takes in (h.good, h.low)

    -- all that is on its way behind it was sent in it
    pub works-drain : (j : ℕ) → ((k : ℕ) → g.on_way m k → g.chain m k < suc j) → ((i : J) → g.queued m i → g.job_chain m i < suc j)
        → ((g.units n < g.units m) ⊎ Nearer g n (g.sent m) reach) ⊎ ((k : ℕ) → g.on_way n k → g.chain n k < j)
    works-drain j packets jobs = ⊎_elim
        (λ made. inl made)
        (λ (short : Short (g.sent m) (g.units m) j n). inr (λ k on. short.news k on (w.emptied k on)))
        (drains (g.sent m) (g.units m) j m n (w.item ∷ w.items) began w.takes (inr (record {
          olds = packets;
          news = λ k on late. absurd (let known : k ≤ g.sent m = o.known m k good on in omega arith);
          jobs = jobs;
        }))).1

    pub works-near : (d k : ℕ) → g.on_way m k → g.near m (suc d) k → (g.units n < g.units m) ⊎ Nearer g n (g.sent m) d
    works-near d k on near = ⊎_elim
        (λ fell. inl fell)
        (λ (e : NearOld (g.sent m) (g.units m) n (suc d) ⊎ (Nearer g n (g.sent m) d ⊎ JobNearer g n (suc d))). ⊎_elim
        (λ (x : NearOld (g.sent m) (g.units m) n (suc d)). absurd (let late : g.sent m < x.number = w.emptied x.number x.waits in let old : x.number ≤ g.sent m = x.is_old in omega arith))
        (λ (e2 : Nearer g n (g.sent m) d ⊎ JobNearer g n (suc d)). ⊎_elim (λ x. inr x) (λ (x : JobNearer g n (suc d)). absurd (w.done x.job x.waits)) e2) e)
        (finds (g.sent m) (g.units m) d m n (w.item ∷ w.items) began w.takes
        (inr (inl (record { number = k; is_old = o.known m k good on; waits = on; leads = near }))))

  -- the first item waits
  works-something : (m n : M) → Works g m n → ((k : ℕ) → g.on_way m k → ⊥) → ((j : J) → g.queued m j → ⊥) → ⊥
  works-something m n w none idle = first w.item w.items w.takes where
    first : (x : Item g) (xs : List (Item g)) → Takes g (g.sent m) m (x ∷ xs) n → ⊥
    first (Packet k) xs t = none k t.2
    first (Job j) xs t = idle j t.1

  -- ---- a round in which timers fire

  fires-on : (more u first d : ℕ) (l n : M) → g.good l → ((j : J) → g.queued l j → ⊥) → g.units l ≤ u → (g.units l < u) ⊎ Nearer g l first d → FireOn g more l n
      → g.good n × ((j : J) → g.queued n j → ⊥) × (g.units n ≤ u) × ((g.units n < u) ⊎ Nearer g n first d)
  fires-on zero u first d l n good idle low h is =
      subst (λ z. g.good z × ((j : J) → g.queued z j → ⊥) × (g.units z ≤ u) × ((g.units z < u) ⊎ Nearer g z first d)) (sym is) (good, idle, low, h)
  fires-on (suc more) u first d l n good idle low h t =
      let f = o.timers l t.0 good t.1 in
      let less : g.units t.0 ≤ g.units l = f.goes.less in
      fires-on more u first d t.0 n f.goes.good (λ j on. idle j (f.queues j on)) (omega arith) (⊎_elim
      (λ fell. inl (omega arith))
      (λ (x : Nearer g l first d). ⊎_elim
      (λ (fell : g.units t.0 < g.units l). inl (omega arith))
      (λ still. inr (record { number = x.number; is_new = x.is_new; waits = f.others x.number x.waits; leads = f.goes.stays still d x.number x.waits x.leads }))
      (cases_lt (g.units t.0) (g.units l)))
      h) t.2

  shoots-make : (m n : M) → g.good m → Shoots g m n
      → g.good n × ((j : J) → g.queued n j → ⊥) × (g.units n ≤ g.units m) × ((g.units n < g.units m) ⊎ Nearer g n 0 reach)
  shoots-make m n good s =
      let f = o.timers m s.after good (o.are_timers m s.after s.begins) in
      fires-on s.more (g.units m) 0 reach s.after n f.goes.good (λ j on. s.idle.jobs j (f.queues j on)) f.goes.less (o.begins m s.after good s.idle s.begins) s.rest

  -- ---- rounds

  abbrev per_unit : ℕ
  per_unit = longest + 1 + reach

  -- as all with fewer units come to rest
  module _ (u : ℕ) (ih : (r : ℕ) (l n : M) → g.good l → g.units l < u → per_unit * u ≤ r → Rounds g r l n → g.is_quiet n) where
    -- what is d rounds from a unit
    nears : (d r : ℕ) (l n : M) → g.good l → g.units l < suc u → (k : ℕ) → g.on_way l k → g.near l d k → d + per_unit * u ≤ r → Rounds g r l n → g.is_quiet n
    nears zero r l n good low k on near enough t = absurd (o.never l k good on near)
    nears (suc d) zero l n good low k on near enough t = absurd (omega arith)
    nears (suc d) (suc r) l n good low k on near enough t = ⊎_elim
        (λ (e : g.is_quiet l × (n ≡ l)). subst g.is_quiet (sym e.1) e.0)
        (λ (e : (m : M) × Round g l m × Rounds g r m n). ⊎_elim
        (λ (w : Works g l e.0).
        let h = works-within l e.0 good w in
        let less : g.units e.0 ≤ g.units l = h.1 in
        ⊎_elim
        (λ (fell : g.units e.0 < g.units l). ih r e.0 n h.0 (omega arith) (omega arith) e.2)
        (λ (x : Nearer g e.0 (g.sent l) d). nears d r e.0 n h.0 (omega arith) x.number x.waits x.leads (omega arith) e.2)
        (works-near l e.0 good w d k on near))
        (λ (s : Shoots g l e.0). absurd (s.idle.packets k on)) e.1)
        t

    -- what is on the way has no chain of j: it is gone after j rounds, and then the timers fire
    empties : (j r : ℕ) (l n : M) → g.good l → g.units l < suc u → ((k : ℕ) → g.on_way l k → g.chain l k < j) → ((i : J) → g.queued l i → g.job_chain l i < j)
        → j + 1 + reach + per_unit * u ≤ r → Rounds g r l n → g.is_quiet n
    empties j zero l n good low packets jobs enough t = absurd (omega arith)
    empties j (suc r) l n good low packets jobs enough t = ⊎_elim
        (λ (e : g.is_quiet l × (n ≡ l)). subst g.is_quiet (sym e.1) e.0)
        (λ (e : (m : M) × Round g l m × Rounds g r m n). ⊎_elim
        (λ (w : Works g l e.0). works j r l n e.0 good low w packets jobs enough e.2 (λ i. empties i r e.0 n))
        (λ (s : Shoots g l e.0).
        let h = shoots-make l e.0 good s in
        let less : g.units e.0 ≤ g.units l = h.2 in
        ⊎_elim
        (λ (fell : g.units e.0 < g.units l). ih r e.0 n h.0 (omega arith) (omega arith) e.2)
        (λ (x : Nearer g e.0 0 reach). nears reach r e.0 n h.0 (omega arith) x.number x.waits x.leads (omega arith) e.2)
        h.3)
        e.1)
        t
      where
        works : (j r : ℕ) (l n m : M) → g.good l → g.units l < suc u → Works g l m → ((k : ℕ) → g.on_way l k → g.chain l k < j) → ((i : J) → g.queued l i → g.job_chain l i < j)
            → j + 1 + reach + per_unit * u ≤ suc r → Rounds g r m n
            → ((i : ℕ) → g.good m → g.units m < suc u → ((k : ℕ) → g.on_way m k → g.chain m k < i) → ((q : J) → g.queued m q → g.job_chain m q < i) → i + 1 + reach + per_unit * u ≤ r → Rounds g r m n → g.is_quiet n)
            → g.is_quiet n
        works zero r l n m good low w packets jobs enough t on = absurd (works-something l m w
            (λ k way. let c : g.chain l k < 0 = packets k way in omega arith)
            (λ i way. let c : g.job_chain l i < 0 = jobs i way in omega arith))
        works (suc j) r l n m good low w packets jobs enough t on =
            let h = works-within l m good w in
            let less : g.units m ≤ g.units l = h.1 in
            ⊎_elim
            (λ (made : (g.units m < g.units l) ⊎ Nearer g m (g.sent l) reach). ⊎_elim
            (λ (fell : g.units m < g.units l). ih r m n h.0 (omega arith) (omega arith) t)
            (λ (x : Nearer g m (g.sent l) reach). nears reach r m n h.0 (omega arith) x.number x.waits x.leads (omega arith) t)
            made)
            (λ (short : (k : ℕ) → g.on_way m k → g.chain m k < j). on j h.0 (omega arith) short (λ i way. absurd (w.done i way)) (omega arith) t)
            (works-drain l m good w j packets jobs)

  -- by the number of units
  rests-by : (u r : ℕ) (l n : M) → g.good l → g.units l < u → per_unit * u ≤ r → Rounds g r l n → g.is_quiet n
  rests-by zero r l n good low enough t = absurd (omega arith)
  rests-by (suc u) r l n good low enough t = empties u (rests-by u) longest r l n good low (λ k on. o.short l k good on) (λ i on. o.brief l i good on) (more per_unit u enough) t
    where
      more : (k u : ℕ) → k * suc u ≤ r → k + k * u ≤ r
      more k u e = omega arith

  pub rests : ComesToRest g longest reach
  rests r l n good enough t = rests-by (g.units l + 1) r l n good (omega arith) enough t
