-- The open charges of each connection are its home's and its shares', so both ways of counting agree.
use Rattle.std.proofs.Common.{◌≡◌, ◌≢◌, ℕ, zero, suc, ◌+◌, ◌*◌, ◌/◌, ◌<◌, ◌≤◌, Bool, true, false, not, ◌&&◌, ◌||◌, cond, nat_eq, All, List, [], ◌∷◌, ◌++◌, map, sum_by, count_by, Option, Some, None, is_some, refl, sym, ap, subst, ◌∙◌, ◌⊎◌, inl, inr, ⊎_elim, arith}
use Rattle.std.proofs.lemmas.Bool.{cases_eq, false≢true}
use Rattle.std.proofs.lemmas.Bool.Decides.{nat_tests}
use Rattle.std.proofs.lemmas.List.{append-nil, map_push}
use Rattle.std.proofs.lemmas.List.Elements.{All-filter, All-head, All-nil, All-push, All-tail, filter-append}
use Rattle.std.proofs.lemmas.List.Sums.{sum_by-append, sum_by-cons}
use Rattle.std.specs.FinMap as fin
use Rattle.std.specs.FinMap.{get-empty, len-empty}
use Rattle.std.specs.List.{filter, list_any, range_with_len}
use Rattle.std.specs.Ordering.{nat_cmp}
use Rattle.lard_table.specs.Table.{put_or}
use Rattle.lard_table.proofs.Map.{get_put_other, get_put_same}
use Rattle.lard_loads.specs.Charges.{BatchOver, LoadCall, Charge, Connect, MayCall, MayCallAll, Release, Share, tally_after, tally_after_all, charged, charges_from, is_home, is_charge_of, is_share_of, units_at}
use Rattle.lard_loads.specs.declared.slot.Share.{Share as Part}
use Rattle.lard_loads.specs.Tally.{Standing, Tally, admitted, batch_ended_with, load, numbers, sharing, tally_start, units_of, units_of_share}
use Rattle.lard_loads.proofs.Nodes.{nodes_ended, nodes_shared}
use Rattle.lard_loads.proofs.Standings.{len-put, one_if}
use Rattle.lard_loads.proofs.Sums.{load-empty, load-put}

-- ---- filters

module _ {X : Type 0} where
  filter-twice : (p q r : X → Bool) → ((x : X) → p x ≡ (q x && r x)) → (xs : List X) → filter q (filter r xs) ≡ filter p xs
  filter-twice p q r same [] = refl
  filter-twice p q r same (x ∷ xs) = go (filter-twice p q r same xs) (r x) refl (q x) refl where
    go : filter q (filter r xs) ≡ filter p xs → (b : Bool) → r x ≡ b → (d : Bool) → q x ≡ d → filter q (cond b (x ∷ filter r xs) (filter r xs)) ≡ cond (p x) (x ∷ filter p xs) (filter p xs)
    go rest true e true f = ap (λ c. cond c (x ∷ filter q (filter r xs)) (filter q (filter r xs))) f ∙ ap (λ ys. x ∷ ys) rest ∙ sym (ap (λ c. cond c (x ∷ filter p xs) (filter p xs)) (same x ∙ ap (λ c. c && r x) f ∙ e))
    go rest true e false f = ap (λ c. cond c (x ∷ filter q (filter r xs)) (filter q (filter r xs))) f ∙ rest ∙ sym (ap (λ c. cond c (x ∷ filter p xs) (filter p xs)) (same x ∙ ap (λ c. c && r x) f))
    go rest false e true f = rest ∙ sym (ap (λ c. cond c (x ∷ filter p xs) (filter p xs)) (same x ∙ ap (λ c. c && r x) f ∙ e))
    go rest false e false f = rest ∙ sym (ap (λ c. cond c (x ∷ filter p xs) (filter p xs)) (same x ∙ ap (λ c. c && r x) f))

  filter-same : (p q : X → Bool) → ((x : X) → p x ≡ q x) → (xs : List X) → filter p xs ≡ filter q xs
  filter-same p q same [] = refl
  filter-same p q same (x ∷ xs) = ap (λ b. cond b (x ∷ filter p xs) (filter p xs)) (same x) ∙ ap (λ ys. cond (q x) (x ∷ ys) ys) (filter-same p q same xs)

  filter-none : (p : X → Bool) → ((x : X) → p x ≡ false) → (xs : List X) → filter p xs ≡ []
  filter-none p none [] = refl
  filter-none p none (x ∷ xs) = ap (λ b. cond b (x ∷ filter p xs) (filter p xs)) (none x) ∙ filter-none p none xs

  -- what passes and what does not are all
  sum-parts : (f : X → ℕ) (p : X → Bool) (xs : List X) → sum_by f (filter (λ x. not (p x)) xs) + sum_by f (filter p xs) ≡ sum_by f xs
  sum-parts f p [] = refl
  sum-parts f p (x ∷ xs) = go (sum-parts f p xs) (p x) where
    go : sum_by f (filter (λ y. not (p y)) xs) + sum_by f (filter p xs) ≡ sum_by f xs
        → (b : Bool) → sum_by f (cond (not b) (x ∷ filter (λ y. not (p y)) xs) (filter (λ y. not (p y)) xs)) + sum_by f (cond b (x ∷ filter p xs) (filter p xs)) ≡ sum_by f (x ∷ xs)
    go rest true = omega (arith, rest, sum_by-cons f x (filter p xs), sum_by-cons f x xs)
    go rest false = omega (arith, rest, sum_by-cons f x (filter (λ y. not (p y)) xs), sum_by-cons f x xs)

-- ---- the charges of one connection

abbrev pub home_charge : ℕ → ℕ → Charge
home_charge c h = record { c = c; node = h; units = 840; share = false }

abbrev pub share_charge : ℕ → Part → Charge
share_charge c x = record { c = c; node = x.node; units = x.units; share = true }

abbrev pub charges_of : ℕ → Option Standing → List Charge
charges_of c None = []
charges_of c (Some s) = home_charge c s.home ∷ map (share_charge c) s.shares

-- sums over them
shares-sum : (c n : ℕ) (xs : List Part) → sum_by (units_at n) (map (share_charge c) xs) ≡ sum_by (units_of_share n) xs
shares-sum c n [] = refl
shares-sum c n (x ∷ xs) = let rest = shares-sum c n xs in omega (arith, rest, sum_by-cons (units_at n) (share_charge c x) (map (share_charge c) xs), sum_by-cons (units_of_share n) x xs)

of-sum : (c n : ℕ) (o : Option Standing) → sum_by (units_at n) (charges_of c o) ≡ units_of o n
of-sum c n None = refl
of-sum c n (Some s) = let rest = shares-sum c n s.shares in omega (arith, rest, sum_by-cons (units_at n) (home_charge c s.home) (map (share_charge c) s.shares))

shares-count : (c : ℕ) (xs : List Part) → count_by (λ (x : Charge). not x.share) (map (share_charge c) xs) ≡ 0
shares-count c [] = refl
shares-count c (x ∷ xs) = let rest = shares-count c xs in omega (arith, rest, sum_by-cons (λ (y : Charge). cond (not y.share) 1 0) (share_charge c x) (map (share_charge c) xs))

of-count : (c : ℕ) (o : Option Standing) → count_by (λ (x : Charge). not x.share) (charges_of c o) ≡ one_if o
of-count c None = refl
of-count c (Some s) = let rest = shares-count c s.shares in omega (arith, rest, sum_by-cons (λ (y : Charge). cond (not y.share) 1 0) (home_charge c s.home) (map (share_charge c) s.shares))

shares-out : (c : ℕ) (xs : List Part) → filter (λ (x : Charge). not x.share) (map (share_charge c) xs) ≡ []
shares-out c [] = refl
shares-out c (x ∷ xs) = shares-out c xs

-- ---- both ways of counting

-- a charge at a node that there is, of a whole where it is no share
abbrev pub IsCharge : ℕ → Charge → Type 0
IsCharge nodes x = (1 ≤ x.node) × (x.node ≤ nodes) × (x.share ≡ false → x.units ≡ 840)

pub record IsCharged (t : Tally) (xs : List Charge) : Type 0 where
  pub each : (c : ℕ) → filter (is_charge_of c) xs ≡ charges_of c (fin.get t.standings c)
  pub loads : (n : ℕ) → load t n ≡ sum_by (units_at n) xs
  pub count : admitted t ≡ count_by (λ x. not x.share) xs
  pub in_range : All (IsCharge t.nodes) xs

module _ (t : Tally) (xs : List Charge) (is : IsCharged t xs) (c : ℕ) (low : 1 ≤ c) (high : c ≤ 16384) where
  abbrev old : Option Standing
  old = fin.get t.standings c

  abbrev put : Option Standing → Tally
  put o = record t { standings = put_or t.standings c o }

  changed : (o : Option Standing) (ys : List Charge) → filter (is_charge_of c) ys ≡ charges_of c o → ((q : ℕ) → q ≢ c → filter (is_charge_of q) ys ≡ filter (is_charge_of q) xs)
      → ((f : Charge → ℕ) → sum_by f ys + sum_by f (filter (is_charge_of c) xs) ≡ sum_by f xs + sum_by f (charges_of c o)) → All (IsCharge t.nodes) ys → IsCharged (put o) ys
  changed o ys here there sums range = record { each = each; loads = loads; count = count; in_range = range } where
    each : (q : ℕ) → filter (is_charge_of q) ys ≡ charges_of q (fin.get (put_or t.standings c o) q)
    each q = ⊎_elim
        (λ e. subst (λ k. filter (is_charge_of k) ys ≡ charges_of k (fin.get (put_or t.standings c o) k)) (sym e) (here ∙ sym (ap (charges_of c) (get_put_same t.standings c o))))
        (λ f. there q f ∙ is.each q ∙ sym (ap (charges_of q) (get_put_other t.standings c q o f)))
        (cases_eq q c)

    loads : (n : ℕ) → load (put o) n ≡ sum_by (units_at n) ys
    loads n =
        let tally = load-put t.standings n c o low high in
        let list = sums (units_at n) in
        let before = is.loads n in
        let was : sum_by (units_at n) (filter (is_charge_of c) xs) ≡ units_of old n = ap (sum_by (units_at n)) (is.each c) ∙ of-sum c n old in
        let now = of-sum c n o in
        omega (arith, tally, list, before, was, now)

    count : admitted (put o) ≡ count_by (λ x. not x.share) ys
    count =
        let tally = len-put t.standings c o in
        let list = sums (λ x. cond (not x.share) 1 0) in
        let before = is.count in
        let was : count_by (λ x. not x.share) (filter (is_charge_of c) xs) ≡ one_if old = ap (count_by (λ (x : Charge). not x.share)) (is.each c) ∙ of-count c old in
        let now = of-count c o in
        omega (arith, tally, list, before, was, now)

  -- one charge more
  added : (o : Option Standing) (x : Charge) → x.c ≡ c → charges_of c o ≡ charges_of c old ++ x ∷ [] → IsCharge t.nodes x → IsCharged (put o) (xs ++ x ∷ [])
  added o x of_c more range = changed o (xs ++ x ∷ []) here there sums (All-push (IsCharge t.nodes) xs x is.in_range range) where
    yes : nat_eq x.c c ≡ true
    yes = grind (arith, nat_tests, of_c)

    here : filter (is_charge_of c) (xs ++ x ∷ []) ≡ charges_of c o
    here = filter-append (is_charge_of c) xs (x ∷ []) ∙ ap (λ ys. filter (is_charge_of c) xs ++ ys) (ap (λ b. cond b (x ∷ []) []) yes) ∙ ap (λ ys. ys ++ x ∷ []) (is.each c) ∙ sym more

    there : (q : ℕ) → q ≢ c → filter (is_charge_of q) (xs ++ x ∷ []) ≡ filter (is_charge_of q) xs
    there q f =
        let no : nat_eq x.c q ≡ false = grind (arith, nat_tests, of_c, f) in
        filter-append (is_charge_of q) xs (x ∷ []) ∙ ap (λ ys. filter (is_charge_of q) xs ++ ys) (ap (λ b. cond b (x ∷ []) []) no) ∙ append-nil (filter (is_charge_of q) xs)

    sums : (f : Charge → ℕ) → sum_by f (xs ++ x ∷ []) + sum_by f (filter (is_charge_of c) xs) ≡ sum_by f xs + sum_by f (charges_of c o)
    sums f =
        let all = sum_by-append f xs (x ∷ []) in
        let part : sum_by f (filter (is_charge_of c) xs) ≡ sum_by f (charges_of c old) = ap (sum_by f) (is.each c) in
        let both : sum_by f (charges_of c o) ≡ sum_by f (charges_of c old) + sum_by f (x ∷ []) = ap (sum_by f) more ∙ sum_by-append f (charges_of c old) (x ∷ []) in
        omega (arith, all, part, both)

  -- some of its charges fewer
  taken : (o : Option Standing) (p r : Charge → Bool) → ((x : Charge) → p x ≡ (is_charge_of c x && r x)) → charges_of c o ≡ filter (λ x. not (r x)) (charges_of c old) → IsCharged (put o) (filter (λ x. not (p x)) xs)
  taken o p r split left = changed o ys here there sums (All-filter (λ x. not (p x)) (IsCharge t.nodes) xs is.in_range) where
    ys : List Charge
    ys = filter (λ x. not (p x)) xs

    inside : (a b : Bool) → (a && not (a && b)) ≡ (not b && a)
    inside true true = refl
    inside true false = refl
    inside false true = refl
    inside false false = refl

    here : filter (is_charge_of c) (filter (λ x. not (p x)) xs) ≡ charges_of c o
    here =
        filter-twice (λ x. is_charge_of c x && not (p x)) (is_charge_of c) (λ x. not (p x)) (λ x. refl) xs
        ∙ sym (filter-twice (λ x. is_charge_of c x && not (p x)) (λ x. not (r x)) (is_charge_of c) (λ x. ap (λ b. is_charge_of c x && not b) (split x) ∙ inside (is_charge_of c x) (r x)) xs)
        ∙ ap (filter (λ x. not (r x))) (is.each c) ∙ sym left

    outside : (q : ℕ) → q ≢ c → (x : Charge) → is_charge_of q x ≡ (is_charge_of q x && not (p x))
    outside q f x = go (is_charge_of q x) refl where
      go : (b : Bool) → nat_eq x.c q ≡ b → b ≡ (b && not (p x))
      go true e = let no : nat_eq x.c c ≡ false = grind (arith, nat_tests, e, f) in sym (ap not (split x ∙ ap (λ b. b && r x) no))
      go false e = refl

    there : (q : ℕ) → q ≢ c → filter (is_charge_of q) (filter (λ x. not (p x)) xs) ≡ filter (is_charge_of q) xs
    there q f = filter-twice (is_charge_of q) (is_charge_of q) (λ x. not (p x)) (outside q f) xs

    turned : (a b : Bool) → (a && b) ≡ (b && a)
    turned true true = refl
    turned true false = refl
    turned false true = refl
    turned false false = refl

    sums : (f : Charge → ℕ) → sum_by f (filter (λ x. not (p x)) xs) + sum_by f (filter (is_charge_of c) xs) ≡ sum_by f xs + sum_by f (charges_of c o)
    sums f =
        let all = sum-parts f p xs in
        let own = sum-parts f r (filter (is_charge_of c) xs) in
        let gone : sum_by f (filter r (filter (is_charge_of c) xs)) ≡ sum_by f (filter p xs) = ap (sum_by f) (filter-twice p r (is_charge_of c) (λ x. split x ∙ turned (is_charge_of c x) (r x)) xs) in
        let stay : sum_by f (filter (λ x. not (r x)) (filter (is_charge_of c) xs)) ≡ sum_by f (charges_of c o) = ap (sum_by f) (ap (filter (λ x. not (r x))) (is.each c) ∙ sym left) in
        omega (arith, all, own, gone, stay)

-- ---- each call

and_true : (a : Bool) → a ≡ (a && true)
and_true true = refl
and_true false = refl

-- a charge of a connection that is at its home
home-found : (xs : List Charge) (c n : ℕ) → list_any (λ x. is_charge_of c x && (not x.share && nat_eq x.node n)) xs ≡ list_any (λ x. not x.share && nat_eq x.node n) (filter (is_charge_of c) xs)
home-found [] c n = refl
home-found (x ∷ xs) c n = go (home-found xs c n) (is_charge_of c x) where
  go : list_any (λ y. is_charge_of c y && (not y.share && nat_eq y.node n)) xs ≡ list_any (λ y. not y.share && nat_eq y.node n) (filter (is_charge_of c) xs)
      → (b : Bool) → ((b && (not x.share && nat_eq x.node n)) || list_any (λ y. is_charge_of c y && (not y.share && nat_eq y.node n)) xs) ≡ list_any (λ y. not y.share && nat_eq y.node n) (cond b (x ∷ filter (is_charge_of c) xs) (filter (is_charge_of c) xs))
  go rest true = ap (λ d. (not x.share && nat_eq x.node n) || d) rest
  go rest false = rest

no_home : (c n : ℕ) (ss : List Part) → list_any (λ (x : Charge). not x.share && nat_eq x.node n) (map (share_charge c) ss) ≡ false
no_home c n [] = refl
no_home c n (x ∷ ss) = no_home c n ss

or_none : (a b : Bool) → b ≡ false → (a || b) ≡ a
or_none true b e = refl
or_none false b e = e

is_home-of : (t : Tally) (xs : List Charge) (c n : ℕ) (s : Standing) → IsCharged t xs → fin.get t.standings c ≡ Some s → is_home xs c n ≡ nat_eq n s.home
is_home-of t xs c n s is found =
    home-found xs c n ∙ ap (list_any (λ x. not x.share && nat_eq x.node n)) (is.each c ∙ ap (charges_of c) found)
    ∙ or_none (nat_eq s.home n) (list_any (λ (x : Charge). not x.share && nat_eq x.node n) (map (share_charge c) s.shares)) (no_home c n s.shares) ∙ turned s.home n where
      turned : (a b : ℕ) → nat_eq a b ≡ nat_eq b a
      turned a b = grind (arith, nat_tests)

connecting : (t : Tally) (xs : List Charge) (c n : ℕ) → IsCharged t xs → MayCall t (Connect c n) → IsCharged (tally_after t (Connect c n)) (charged xs (Connect c n))
connecting t xs c n is may =
    added t xs is c may.0.0 may.0.1 (Some (record { home = n; shares = [] })) (record { c = c; node = n; units = 840; share = false }) refl
    (ap (λ ys. ys ++ home_charge c n ∷ []) (sym (ap (charges_of c) may.1))) (may.2, may.3, λ e. refl)

releasing : (t : Tally) (xs : List Charge) (c : ℕ) → IsCharged t xs → MayCall t (Release c) → IsCharged (tally_after t (Release c)) (charged xs (Release c))
releasing t xs c is may =
    taken t xs is c may.0.0 may.0.1 None (is_charge_of c) (λ x. true) (λ x. and_true (is_charge_of c x)) (sym (filter-none (λ x. false) (λ x. refl) (charges_of c (fin.get t.standings c))))

sharing_charged : (t : Tally) (xs : List Charge) (c n size : ℕ) → IsCharged t xs → MayCall t (Share c n size) → IsCharged (tally_after t (Share c n size)) (charged xs (Share c n size))
sharing_charged t xs c n size is may = go (fin.get t.standings c) refl may.1 where
  x : Charge
  x = record { c = c; node = n; units = 840 / size; share = true }

  both : (s : Standing) → fin.get t.standings c ≡ Some s → (b : Bool) → is_home xs c n ≡ b → nat_eq n s.home ≡ b
      → IsCharged (cond b t (record t { standings = fin.insert t.standings c (record s { shares = s.shares ++ record { node = n; units = 840 / size } ∷ [] }) })) (cond b xs (xs ++ record { c = c; node = n; units = 840 / size; share = true } ∷ []))
  both s found true e f = is
  both s found false e f =
      added t xs is c may.0.0 may.0.1 (Some (record s { shares = s.shares ++ record { node = n; units = 840 / size } ∷ [] })) (record { c = c; node = n; units = 840 / size; share = true }) refl
      (ap (λ ys. home_charge c s.home ∷ ys) (map_push (share_charge c) s.shares (record { node = n; units = 840 / size })) ∙ ap (λ o. charges_of c o ++ record { c = c; node = n; units = 840 / size; share = true } ∷ []) (sym found))
      (may.2, may.3, λ e. absurd (false≢true (sym e)))

  go : (o : Option Standing) → fin.get t.standings c ≡ o → is_some (fin.get t.standings c) ≡ true → IsCharged (tally_after t (Share c n size)) (charged xs (Share c n size))
  go None e some = absurd (false≢true (sym (ap is_some e) ∙ some))
  go (Some s) e some =
      let home : is_home xs c n ≡ nat_eq n s.home = is_home-of t xs c n s is e in
      let R : Option Standing → Type 0 = λ (o : Option Standing). IsCharged (sharing t c n size o) (charged xs (Share c n size)) in
      subst R (sym e) (subst (λ b. IsCharged (sharing t c n size (Some s)) (cond b xs (xs ++ record { c = c; node = n; units = 840 / size; share = true } ∷ []))) (sym home)
      (both s e (nat_eq n s.home) home refl))

batch_over : (t : Tally) (xs : List Charge) (c : ℕ) → IsCharged t xs → MayCall t (BatchOver c) → IsCharged (tally_after t (BatchOver c)) (charged xs (BatchOver c))
batch_over t xs c is may = go (fin.get t.standings c) refl may.1 where
  go : (o : Option Standing) → fin.get t.standings c ≡ o → is_some (fin.get t.standings c) ≡ true → IsCharged (tally_after t (BatchOver c)) (charged xs (BatchOver c))
  go None e some = absurd (false≢true (sym (ap is_some e) ∙ some))
  go (Some s) e some =
      let R : Option Standing → Type 0 = λ (o : Option Standing). IsCharged (batch_ended_with t c o) (charged xs (BatchOver c)) in
      subst R (sym e) (taken t xs is c may.0.0 may.0.1 (Some (record s { shares = [] })) (is_share_of c) (λ x. x.share) (λ x. refl)
      (sym (ap (filter (λ (x : Charge). not x.share)) (ap (charges_of c) e) ∙ ap (λ ys. home_charge c s.home ∷ ys) (shares-out c s.shares))))

called : (t : Tally) (xs : List Charge) (call : LoadCall) → IsCharged t xs → MayCall t call → IsCharged (tally_after t call) (charged xs call)
called t xs (Connect c n) is may = connecting t xs c n is may
called t xs (Release c) is may = releasing t xs c is may
called t xs (Share c n size) is may = sharing_charged t xs c n size is may
called t xs (BatchOver c) is may = batch_over t xs c is may

called_all : (t : Tally) (xs : List Charge) (calls : List LoadCall) → IsCharged t xs → MayCallAll t calls → IsCharged (tally_after_all t calls) (charges_from xs calls)
called_all t xs [] is may = is
called_all t xs (call ∷ calls) is may = called_all (tally_after t call) (charged xs call) calls (called t xs call is may.0) may.1

pub all_charged : (nodes : ℕ) (calls : List LoadCall) → MayCallAll (tally_start nodes) calls → IsCharged (tally_after_all (tally_start nodes) calls) (charges_from [] calls)
all_charged nodes calls may = called_all (tally_start nodes) [] calls (record {
  each = λ c. sym (ap (charges_of c) (get-empty nat_cmp c));
  loads = λ n. load-empty n;
  count = len-empty nat_cmp Standing;
  in_range = All-nil (IsCharge nodes);
}) may

-- ---- the sum of all loads

nodes_stay : (t : Tally) (call : LoadCall) → (tally_after t call).nodes ≡ t.nodes
nodes_stay t (Connect c n) = refl
nodes_stay t (Release c) = refl
nodes_stay t (Share c n size) = nodes_shared t c n size
nodes_stay t (BatchOver c) = nodes_ended t c

pub all_nodes_stay : (t : Tally) (calls : List LoadCall) → (tally_after_all t calls).nodes ≡ t.nodes
all_nodes_stay t [] = refl
all_nodes_stay t (call ∷ calls) = all_nodes_stay (tally_after t call) calls ∙ nodes_stay t call

pub zeros : (a k : ℕ) → sum_by (λ (n : ℕ). 0) (range_with_len a k) ≡ 0
zeros a zero = refl
zeros a (suc k) = let rest = zeros (a + 1) k in omega (arith, rest, sum_by-cons (λ (n : ℕ). 0) a (range_with_len (a + 1) k))

pub each_sum : (f g : ℕ → ℕ) → ((n : ℕ) → f n ≡ g n) → (ns : List ℕ) → sum_by f ns ≡ sum_by g ns
each_sum f g same [] = refl
each_sum f g same (n ∷ ns) = let rest = each_sum f g same ns in let one = same n in omega (arith, rest, one, sum_by-cons f n ns, sum_by-cons g n ns)

pub two_sums : (h f g : ℕ → ℕ) → ((n : ℕ) → h n ≡ f n + g n) → (ns : List ℕ) → sum_by h ns ≡ sum_by f ns + sum_by g ns
two_sums h f g same [] = refl
two_sums h f g same (n ∷ ns) = let rest = two_sums h f g same ns in let one = same n in omega (arith, rest, one, sum_by-cons h n ns, sum_by-cons f n ns, sum_by-cons g n ns)

pub none_left : (k u a many : ℕ) → k < a → sum_by (λ n. cond (nat_eq k n) u 0) (range_with_len a many) ≡ 0
none_left k u a zero below = refl
none_left k u a (suc many) below =
    let no : nat_eq k a ≡ false = grind (arith, nat_tests, below) in
    let first : cond (nat_eq k a) u 0 ≡ 0 = ap (λ b. cond b u 0) no in
    let rest = none_left k u (a + 1) many (omega (arith, below)) in
    omega (arith, first, rest, sum_by-cons (λ n. cond (nat_eq k n) u 0) a (range_with_len (a + 1) many))

-- a node counts its own charge once among all nodes
pub one_node : (k u a many : ℕ) → a ≤ k → k < a + many → sum_by (λ n. cond (nat_eq k n) u 0) (range_with_len a many) ≡ u
one_node k u a zero low high = absurd (omega (arith, low, high))
one_node k u a (suc many) low high = go (one_node k u (a + 1) many) (cases_eq a k) where
  all : sum_by (λ n. cond (nat_eq k n) u 0) (range_with_len a (suc many)) ≡ cond (nat_eq k a) u 0 + sum_by (λ n. cond (nat_eq k n) u 0) (range_with_len (a + 1) many)
  all = sum_by-cons (λ n. cond (nat_eq k n) u 0) a (range_with_len (a + 1) many)

  go : (a + 1 ≤ k → k < a + 1 + many → sum_by (λ n. cond (nat_eq k n) u 0) (range_with_len (a + 1) many) ≡ u) → (a ≡ k) ⊎ (a ≡ k → ⊥) → sum_by (λ n. cond (nat_eq k n) u 0) (range_with_len a (suc many)) ≡ u
  go more (inl e) =
      let yes : nat_eq k a ≡ true = grind (arith, nat_tests, e) in
      let first : cond (nat_eq k a) u 0 ≡ u = ap (λ b. cond b u 0) yes in
      let rest = none_left k u (a + 1) many (omega (arith, e)) in
      omega (arith, all, first, rest)
  go more (inr f) =
      let no : nat_eq k a ≡ false = grind (arith, nat_tests, f) in
      let first : cond (nat_eq k a) u 0 ≡ 0 = ap (λ b. cond b u 0) no in
      let rest = more (omega (arith, low, f)) (omega (arith, high)) in
      omega (arith, all, first, rest)

sum-of-sums : (nodes : ℕ) (xs : List Charge) → All (IsCharge nodes) xs → sum_by (λ n. sum_by (units_at n) xs) (numbers nodes) ≡ sum_by (λ x. x.units) xs
sum-of-sums nodes [] all = zeros 1 nodes
sum-of-sums nodes (x ∷ xs) all =
    let rest = sum-of-sums nodes xs (All-tail (IsCharge nodes) x xs all) in
    let range = All-head (IsCharge nodes) x xs all in
    let most = range.1 in
    let own = one_node x.node x.units 1 nodes range.0 (omega (arith, most)) in
    let split = two_sums (λ n. sum_by (units_at n) (x ∷ xs)) (λ n. cond (nat_eq x.node n) x.units 0) (λ n. sum_by (units_at n) xs) (λ n. sum_by-cons (units_at n) x xs) (numbers nodes) in
    omega (arith, rest, own, split, sum_by-cons (λ (y : Charge). y.units) x xs)

-- each charge is a whole, or a share
wholes_and_shares : (nodes : ℕ) (xs : List Charge) → All (IsCharge nodes) xs → sum_by (λ x. x.units) xs ≡ 840 * count_by (λ x. not x.share) xs + sum_by (λ x. cond x.share x.units 0) xs
wholes_and_shares nodes [] all = refl
wholes_and_shares nodes (x ∷ xs) all =
    let rest = wholes_and_shares nodes xs (All-tail (IsCharge nodes) x xs all) in
    let one = go x.share refl in
    omega (arith, rest, one, sum_by-cons (λ (y : Charge). y.units) x xs, sum_by-cons (λ (y : Charge). cond (not y.share) 1 0) x xs, sum_by-cons (λ (y : Charge). cond y.share y.units 0) x xs) where
      go : (b : Bool) → x.share ≡ b → x.units ≡ 840 * cond {A = ℕ} (not x.share) 1 0 + cond x.share x.units 0
      go true e = let a : cond {A = ℕ} (not x.share) 1 0 ≡ 0 = ap (λ b. cond {A = ℕ} (not b) 1 0) e in let d : cond x.share x.units 0 ≡ x.units = ap (λ b. cond b x.units 0) e in omega (arith, a, d)
      go false e =
          let a : cond {A = ℕ} (not x.share) 1 0 ≡ 1 = ap (λ b. cond {A = ℕ} (not b) 1 0) e in
          let d : cond x.share x.units 0 ≡ 0 = ap (λ b. cond b x.units 0) e in
          let w = (All-head (IsCharge nodes) x xs all).2 e in omega (arith, a, d, w)

pub all_add_up : (nodes : ℕ) (calls : List LoadCall) → MayCallAll (tally_start nodes) calls
    → sum_by (load (tally_after_all (tally_start nodes) calls)) (numbers nodes) ≡ 840 * admitted (tally_after_all (tally_start nodes) calls) + sum_by (λ x. cond x.share x.units 0) (charges_from [] calls)
all_add_up nodes calls may =
    let is : IsCharged (tally_after_all (tally_start nodes) calls) (charges_from [] calls) = all_charged nodes calls may in
    let range : All (IsCharge nodes) (charges_from [] calls) = subst (λ k. All (IsCharge k) (charges_from [] calls)) (all_nodes_stay (tally_start nodes) calls) is.in_range in
    let each = each_sum (load (tally_after_all (tally_start nodes) calls)) (λ n. sum_by (units_at n) (charges_from [] calls)) is.loads (numbers nodes) in
    let sums = sum-of-sums nodes (charges_from [] calls) range in
    let parts = wholes_and_shares nodes (charges_from [] calls) range in
    let count = is.count in
    omega (arith, each, sums, parts, count)
