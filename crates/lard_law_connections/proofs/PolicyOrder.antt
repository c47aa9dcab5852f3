-- Who is admitted in a step is the first of the line, and is where another is released.
use Rattle.std.proofs.Common.{ℕ, ◌+◌, Bool, true, false, List, [], ◌∷◌, ◌++◌, Option, inl, refl}
use Rattle.lard_law_connections.proofs.PolicyAsides.{IsAside}
use Rattle.lard_law_connections.specs.PolicyLaws.{AdmitsFirst, PassesOn}
use Rattle.lard_law_view.specs.Prelude.{Ask, Has, LaterChoice, Rec, Waiting, assigned_notes, over_note}
use Rattle.lard_history.proofs.Each.{Each, Each-append, Each-weaker}
use Rattle.lard_history.proofs.Seeing.{has-before, has-behind}
use Rattle.lard_journal.specs.declared.rec.Rec.TheVariants as rec

-- it is neither an admission nor a release
abbrev pub IsNeither : Rec → Type 0
IsNeither (rec.Admitted c) = ⊥
IsNeither (rec.Released c) = ⊥
IsNeither _ = Unit {0}

pub aside-neither : (r : Rec) → IsAside r → IsNeither r
aside-neither (rec.Admitted c) h = absurd h
aside-neither (rec.Released c) h = absurd h
aside-neither _ h = tt

neither-first : (line : List Waiting) (r : Rec) → IsNeither r → AdmitsFirst line r
neither-first line (rec.Admitted c) h = absurd h
neither-first [] r h = tt
neither-first (w ∷ ws) _ h = tt

neither-passes : (line : List Waiting) (rs : List Rec) (r : Rec) → IsNeither r → PassesOn line rs r
neither-passes line rs (rec.Released c) h = absurd h
neither-passes [] rs r h = tt
neither-passes (w ∷ ws) rs _ h = tt

-- ---- records of a step

pub record IsOrdered (line : List Waiting) (rs : List Rec) : Type 0 where
  pub first : Each (AdmitsFirst line) rs
  pub passes : Each (PassesOn line rs) rs

pub none-ordered : (line : List Waiting) (rs : List Rec) → Each IsNeither rs → IsOrdered line rs
none-ordered line rs e = record {
  first = Each-weaker IsNeither (AdmitsFirst line) (neither-first line) rs e;
  passes = Each-weaker IsNeither (PassesOn line rs) (neither-passes line rs) rs e;
}

-- where nobody waits
pub alone-ordered : (rs : List Rec) → IsOrdered [] rs
alone-ordered rs = record { first = all rs; passes = go rs rs } where
  all : (rs : List Rec) → Each (AdmitsFirst []) rs
  all [] = tt
  all (r ∷ rs) = (tt, all rs)

  go : (all rs : List Rec) → Each (PassesOn [] all) rs
  go all [] = tt
  go all (r ∷ rs) = (tt, go all rs)

passes-wider : (line : List Waiting) (rs ss : List Rec) → ((r : Rec) → Has r rs → Has r ss) → (r : Rec) → PassesOn line rs r → PassesOn line ss r
passes-wider [] rs ss wider r h = tt
passes-wider (w ∷ ws) rs ss wider (rec.Released c) h = wider (rec.Admitted w.c) h
passes-wider (w ∷ ws) rs ss wider _ h = tt

-- one behind another
pub both-ordered : (line : List Waiting) (xs ys : List Rec) → IsOrdered line xs → IsOrdered line ys → IsOrdered line (xs ++ ys)
both-ordered line xs ys one two = record {
  first = Each-append (AdmitsFirst line) xs ys one.first two.first;
  passes =
      let all : List Rec = xs ++ ys in
      Each-append (PassesOn line all) xs ys
      (Each-weaker (PassesOn line xs) (PassesOn line all) (passes-wider line xs all (λ r h. has-before r xs ys h)) xs one.passes)
      (Each-weaker (PassesOn line ys) (PassesOn line all) (passes-wider line ys all (λ r h. has-behind r xs ys h)) ys two.passes);
}

-- between other records
pub between-ordered : (line : List Waiting) (xs rs ys : List Rec) → Each IsNeither xs → IsOrdered line rs → Each IsNeither ys → IsOrdered line (xs ++ rs ++ ys)
between-ordered line xs rs ys before is behind =
    both-ordered line (xs ++ rs) ys (both-ordered line xs rs (none-ordered line xs before) is) (none-ordered line ys behind)

-- where one is released, the head is admitted behind it
pub passed-ordered : (w : Waiting) (ws : List Waiting) (xs : List Rec) (c r : ℕ) (path : List ℕ) (n : ℕ) (add remove : Option ℕ) → Each IsNeither xs
    → IsOrdered (w ∷ ws) ((xs ++ rec.Released c ∷ []) ++ rec.Admitted w.c ∷ rec.AssignedFirst w.c r path n add remove ∷ [])
passed-ordered w ws xs c r path n add remove before = record {
  first = Each-append (AdmitsFirst line) (xs ++ released) heads
      (Each-append (AdmitsFirst line) xs released (Each-weaker IsNeither (AdmitsFirst line) (neither-first line) xs before) (tt, tt)) (refl, (tt, tt));
  passes = Each-append (PassesOn line all) (xs ++ released) heads
      (Each-append (PassesOn line all) xs released (Each-weaker IsNeither (PassesOn line all) (neither-passes line all) xs before)
      (has-behind (rec.Admitted w.c) (xs ++ released) heads (inl refl), tt)) (tt, (tt, tt));
} where
  line : List Waiting
  line = w ∷ ws

  released : List Rec
  released = rec.Released c ∷ []

  heads : List Rec
  heads = rec.Admitted w.c ∷ rec.AssignedFirst w.c r path n add remove ∷ []

  all : List Rec
  all = (xs ++ released) ++ heads

-- ---- an Ask

pub over-neither : (c : ℕ) (over : Bool) → Each IsNeither (over_note c over)
over-neither c true = (tt, tt)
over-neither c false = tt

pub assigned-neither : (c : ℕ) (ask : Ask) (r : ℕ) (paths : List (List ℕ)) (choices : List LaterChoice) → Each IsNeither (assigned_notes c ask r paths choices)
assigned-neither c ask r [] choices = tt
assigned-neither c ask r (path ∷ paths) [] = tt
assigned-neither c ask r (path ∷ paths) (choice ∷ choices) = (tt, assigned-neither c ask (r + 1) paths choices)
