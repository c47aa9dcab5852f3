-- A batch's end, share by share: what it comes to, and that it leaves a release as it is.
use Rattle.std.proofs.Common.{◌≡◌, ℕ, ◌+◌, ◌-◌, ◌/◌, ◌<◌, Bool, true, false, cond, nat_eq, nat_lt, List, [], ◌∷◌, ◌++◌, length, Option, Some, None, is_some, refl, sym, ap, subst, ◌∙◌, arith}
use Rattle.std.proofs.lemmas.Bool.{false≢true}
use Rattle.std.proofs.lemmas.Bool.Decides.{nat_tests}
use Rattle.std.proofs.lemmas.List.{length_push, nil_from_length}
use Rattle.std.specs.FinMap as map
use Rattle.std.specs.FinMap.{FinMap}
use Rattle.std.specs.Ordering.{nat_cmp}
use Rattle.lard_table.specs.Table.{put_or}
use Rattle.lard_table.proofs.Map.{get_inserted, insert_twice, put_got, put_twice}
use Rattle.lard_loads.specs.declared.slot.Share.{Share}
use Rattle.lard_loads.specs.declared.slot.Slot.{Slot}
use Rattle.lard_loads.specs.Slot.{shares_open_in, standing_with, standing_of}
use Rattle.lard_loads.specs.Tally.{Standing, Tally, batch_ended, batch_ended_with, open_shares, released, shared, shares_of, sharing}

-- an admitted connection has a home
pub record HasHome (s : Slot) : Type 0 where
  pub node : ℕ
  pub is : s.home ≡ Some node

pub has_home : (s : Slot) → is_some (standing_of s) ≡ true → HasHome s
has_home s h = go s.home refl h where
  go : (o : Option ℕ) → s.home ≡ o → is_some (standing_with o (shares_open_in s)) ≡ true → HasHome s
  go None e k = absurd (false≢true k)
  go (Some n) e k = record { node = n; is = e }

abbrev pub with_standing : Tally → ℕ → Standing → Tally
with_standing t c s = record t { standings = map.insert t.standings c s }

module _ (t : Tally) (c h : ℕ) (xs : List Share) where
  abbrev short : Tally
  short = with_standing t c (record { home = h; shares = xs })

  found : map.get short.standings c ≡ Some (record { home = h; shares = xs })
  found = get_inserted t.standings c (record { home = h; shares = xs })

  pub short-admitted : is_some (map.get short.standings c) ≡ true
  short-admitted = ap is_some found

  pub short-open : open_shares short c ≡ length xs
  short-open = ap (λ o. length (shares_of o)) found

  -- whichever shares are open, the batch's end is one
  pub short-ended : (ys : List Share) → map.get t.standings c ≡ Some (record { home = h; shares = ys }) → batch_ended short c ≡ batch_ended t c
  short-ended ys was =
      ap (batch_ended_with short c) found
      ∙ ap (λ (m : FinMap nat_cmp Standing). record t { standings = m }) (insert_twice t.standings c (record { home = h; shares = xs }) (record { home = h; shares = [] }))
      ∙ sym (ap (batch_ended_with t c) was)

-- no share is open where the batch is over
pub ended-admitted : (t : Tally) (c : ℕ) → is_some (map.get t.standings c) ≡ true → is_some (map.get (batch_ended t c).standings c) ≡ true
ended-admitted t c some = go (map.get t.standings c) refl some where
  go : (o : Option Standing) → map.get t.standings c ≡ o → is_some o ≡ true → is_some (map.get (batch_ended_with t c o).standings c) ≡ true
  go None e k = absurd (false≢true k)
  go (Some s) e k = ap is_some (get_inserted t.standings c (record s { shares = [] }))

pub ended-open : (t : Tally) (c : ℕ) → is_some (map.get t.standings c) ≡ true → open_shares (batch_ended t c) c ≡ 0
ended-open t c some = go (map.get t.standings c) refl some where
  go : (o : Option Standing) → map.get t.standings c ≡ o → is_some o ≡ true → open_shares (batch_ended_with t c o) c ≡ 0
  go None e k = absurd (false≢true k)
  go (Some s) e k = ap (λ o. length (shares_of o)) (get_inserted t.standings c (record s { shares = [] }))

-- where no share is open nothing changes
pub ended-none : (t : Tally) (c : ℕ) → open_shares t c ≡ 0 → batch_ended t c ≡ t
ended-none t c none = go (map.get t.standings c) refl none where
  go : (o : Option Standing) → map.get t.standings c ≡ o → length (shares_of o) ≡ 0 → batch_ended_with t c o ≡ t
  go None e k = refl
  go (Some s) e k =
      let empty : s.shares ≡ [] = nil_from_length s.shares k in
      let same : Some (record s { shares = [] }) ≡ map.get t.standings c = ap (λ xs. Some (record s { shares = xs })) (sym empty) ∙ sym e in
      ap (λ (m : FinMap nat_cmp Standing). record t { standings = m }) (ap (put_or t.standings c) same ∙ put_got t.standings c)

-- a release ends the batch too
pub released-ended : (t : Tally) (c : ℕ) → released (batch_ended t c) c ≡ released t c
released-ended t c = go (map.get t.standings c) where
  go : (o : Option Standing) → released (batch_ended_with t c o) c ≡ released t c
  go None = refl
  go (Some s) = ap (λ (m : FinMap nat_cmp Standing). record t { standings = m }) (put_twice t.standings c (Some (record s { shares = [] })) None)

-- ---- one share more

pub shared-away : (t : Tally) (c n size h : ℕ) (xs : List Share) → map.get t.standings c ≡ Some (record { home = h; shares = xs }) → nat_eq n h ≡ false
    → shared t c n size ≡ with_standing t c (record { home = h; shares = xs ++ record { node = n; units = 840 / size } ∷ [] })
shared-away t c n size h xs was away =
    ap (sharing t c n size) was
    ∙ ap (λ b. cond b t (with_standing t c (record { home = h; shares = xs ++ record { node = n; units = 840 / size } ∷ [] }))) away

pub shared-home : (t : Tally) (c n size h : ℕ) (xs : List Share) → map.get t.standings c ≡ Some (record { home = h; shares = xs }) → nat_eq n h ≡ true → shared t c n size ≡ t
shared-home t c n size h xs was home =
    ap (sharing t c n size) was
    ∙ ap (λ b. cond b t (with_standing t c (record { home = h; shares = xs ++ record { node = n; units = 840 / size } ∷ [] }))) home

-- ---- one share fewer

-- what a call that ends a share leaves, whether there was one
pub record EndsShare (old new : Tally) (c : ℕ) (some : Bool) : Type 0 where
  pub was_open : some ≡ nat_lt 0 (open_shares old c)
  pub fewer : open_shares new c ≡ open_shares old c - 1
  pub others : batch_ended new c ≡ batch_ended old c
  pub stays : is_some (map.get new.standings c) ≡ true

pub ends_share : (t u : Tally) (c h : ℕ) (xs : List Share) (x : Share) → map.get t.standings c ≡ Some (record { home = h; shares = xs ++ x ∷ [] }) → u ≡ with_standing t c (record { home = h; shares = xs }) → EndsShare t u c true
ends_share t u c h xs x was is = subst (λ v. EndsShare t v c true) (sym is) (record {
  was_open = let some : 0 < open_shares t c = omega (arith, many) in sym (lt-true some);
  fewer = let now = short-open t c h xs in omega (arith, now, many);
  others = short-ended t c h xs (xs ++ x ∷ []) was;
  stays = short-admitted t c h xs;
}) where
  lt-true : {n : ℕ} → 0 < n → nat_lt 0 n ≡ true
  lt-true {n} h = grind (arith, nat_tests, h)

  many : open_shares t c ≡ length xs + 1
  many = ap (λ o. length (shares_of o)) was ∙ length_push xs x

pub ends_none : (t u : Tally) (c h : ℕ) → map.get t.standings c ≡ Some (record { home = h; shares = [] }) → u ≡ t → EndsShare t u c false
ends_none t u c h was is = subst (λ v. EndsShare t v c false) (sym is) (record {
  was_open = ap (nat_lt 0) (sym none);
  fewer = none ∙ sym (ap (λ n. n - 1) none);
  others = refl;
  stays = ap is_some was;
}) where
  none : open_shares t c ≡ 0
  none = ap (λ o. length (shares_of o)) was
