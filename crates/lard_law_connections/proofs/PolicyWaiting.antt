-- The line stands among those who wait by the journal, in their order.
use Rattle.std.proofs.Common.{◌≡◌, ℕ, ◌+◌, ◌==◌, ◌||◌, nat_eq, not, Bool, true, false, cond, List, [], ◌∷◌, ◌++◌, map, refl, sym, ap, ◌∙◌, subst, inl, inr}
use Rattle.std.proofs.lemmas.Bool.{eqb-false}
use Rattle.std.proofs.lemmas.List.Sums.{fold-append}
use Rattle.std.specs.List.{filter, fold}
use Rattle.lard_law_connections.proofs.PolicyAsides.{IsAside}
use Rattle.lard_law_connections.specs.PolicyLine.{IsSublist, waiting_step}
use Rattle.lard_law_view.specs.Prelude.{Ask, LaterChoice, Rec, Waiting, assigned_notes, line_waits, line_without, over_note}
use Rattle.lard_history.proofs.Each.{Each, Each-weaker}
use Rattle.lard_history.proofs.Seeing.{other_number}
use Rattle.lard_journal.specs.declared.rec.Rec.TheVariants as rec

-- the connections of a line
abbrev pub who : List Waiting → List ℕ
who line = map (λ (w : Waiting). w.c) line

-- ---- lists

pub within-wider : (xs ys : List ℕ) (y : ℕ) → IsSublist xs ys → IsSublist xs (y ∷ ys)
within-wider [] ys y h = tt
within-wider (x ∷ xs) ys y h = inr h

pub within-tail : (x : ℕ) (xs ys : List ℕ) → IsSublist (x ∷ xs) ys → IsSublist xs ys
within-tail x xs [] h = absurd h
within-tail x xs (y ∷ ys) (inl h) = within-wider xs ys y h.1
within-tail x xs (y ∷ ys) (inr h) = within-wider xs ys y (within-tail x xs ys h)

within-none : (c : ℕ) (ys : List ℕ) → IsSublist (c ∷ []) (ys ++ c ∷ [])
within-none c [] = inl (refl, tt)
within-none c (y ∷ ys) = inr (within-none c ys)

-- one more at the end of both
pub within-more : (c : ℕ) (xs ys : List ℕ) → IsSublist xs ys → IsSublist (xs ++ c ∷ []) (ys ++ c ∷ [])
within-more c [] ys h = within-none c ys
within-more c (x ∷ xs) [] h = absurd h
within-more c (x ∷ xs) (y ∷ ys) (inl h) = inl (h.0, within-more c xs ys h.1)
within-more c (x ∷ xs) (y ∷ ys) (inr h) = inr (within-more c (x ∷ xs) ys h)

-- a number that none of these is
abbrev IsNone : ℕ → List ℕ → Type 0
IsNone c xs = Each (λ x. x ≡ c → ⊥) xs

-- is taken out of those
within-others : (c : ℕ) (xs ys : List ℕ) → IsNone c xs → IsSublist xs ys → IsSublist xs (filter (λ d. not (nat_eq c d)) ys)
within-others c [] ys none h = tt
within-others c (x ∷ xs) [] none h = absurd h
within-others c (x ∷ xs) (y ∷ ys) none (inl h) =
    ap-other (other_number c y (λ e. none.0 (h.0 ∙ sym e))) (inl (h.0, within-others c xs ys none.1 h.1)) where
      ap-other : nat_eq c y ≡ false → IsSublist (x ∷ xs) (y ∷ filter (λ d. not (nat_eq c d)) ys) → IsSublist (x ∷ xs) (cond (not (nat_eq c y)) (y ∷ filter (λ d. not (nat_eq c d)) ys) (filter (λ d. not (nat_eq c d)) ys))
      ap-other e h = subst (λ (b : Bool). IsSublist (x ∷ xs) (cond (not b) (y ∷ filter (λ d. not (nat_eq c d)) ys) (filter (λ d. not (nat_eq c d)) ys))) (sym e) h
within-others c (x ∷ xs) (y ∷ ys) none (inr h) = go (nat_eq c y) (within-others c (x ∷ xs) ys none h) where
  go : (b : Bool) → IsSublist (x ∷ xs) (filter (λ d. not (nat_eq c d)) ys) → IsSublist (x ∷ xs) (cond (not b) (y ∷ filter (λ d. not (nat_eq c d)) ys) (filter (λ d. not (nat_eq c d)) ys))
  go true h = h
  go false h = inr h

-- ---- a line

waits-none : (c : ℕ) (line : List Waiting) → line_waits line c ≡ false → IsNone c (who line)
waits-none c [] h = tt
waits-none c (w ∷ ws) h = go (w.c == c) refl h (waits-none c ws) where
  go : (b : Bool) → (w.c == c) ≡ b → (b || line_waits ws c) ≡ false → (line_waits ws c ≡ false → IsNone c (who ws)) → IsNone c (who (w ∷ ws))
  go true is out later = let never : true ≡ false = out in absurd cc
  go false is out later = (eqb-false w.c c is, later out)

-- its head is admitted
pub head-within : (w : Waiting) (ws : List Waiting) (ys : List ℕ) → line_waits ws w.c ≡ false → IsSublist (who (w ∷ ws)) ys → IsSublist (who ws) (filter (λ d. not (nat_eq w.c d)) ys)
head-within w ws ys apart h = within-others w.c (who ws) ys (waits-none w.c ws apart) (within-tail w.c (who ws) ys h)

-- one leaves
pub left-within : (c : ℕ) (line : List Waiting) (ys : List ℕ) → IsSublist (who line) ys → IsSublist (who (line_without line c)) ys
left-within c [] ys h = tt
left-within c (w ∷ ws) [] h = absurd h
left-within c (w ∷ ws) (y ∷ ys) (inl h) = go (w.c == c) (left-within c ws ys h.1) where
  go : (b : Bool) → IsSublist (who (line_without ws c)) ys → IsSublist (who (cond (not b) (w ∷ line_without ws c) (line_without ws c))) (y ∷ ys)
  go true later = within-wider (who (line_without ws c)) ys y later
  go false later = inl (h.0, later)
left-within c (w ∷ ws) (y ∷ ys) (inr h) = within-wider (who (line_without (w ∷ ws) c)) ys y (left-within c (w ∷ ws) ys h)

-- one comes last
who-more : (line : List Waiting) (w : Waiting) → who (line ++ w ∷ []) ≡ who line ++ w.c ∷ []
who-more [] w = refl
who-more (v ∷ vs) w = ap (λ xs. v.c ∷ xs) (who-more vs w)

pub come-within : (line : List Waiting) (w : Waiting) (ys : List ℕ) → IsSublist (who line) ys → IsSublist (who (line ++ w ∷ [])) (ys ++ w.c ∷ [])
come-within line w ys h = subst (λ (xs : List ℕ). IsSublist xs (ys ++ w.c ∷ [])) (sym (who-more line w)) (within-more w.c (who line) ys h)

-- ---- notes by which nobody waits, and nobody is admitted

abbrev pub IsIdle : Rec → Type 0
IsIdle r = (ys : List ℕ) → waiting_step ys r ≡ ys

pub aside-idle : (r : Rec) → IsAside r → IsIdle r
aside-idle (rec.Waits c) h = absurd h
aside-idle (rec.Admitted c) h = absurd h
aside-idle _ h = λ ys. refl

pub idle-same : (rs : List Rec) (ys : List ℕ) → Each IsIdle rs → fold waiting_step ys rs ≡ ys
idle-same [] ys e = refl
idle-same (r ∷ rs) ys e = ap (λ (xs : List ℕ). fold waiting_step xs rs) (e.0 ys) ∙ idle-same rs ys e.1

pub asides-idle : (rs : List Rec) → Each IsAside rs → Each IsIdle rs
asides-idle rs e = Each-weaker IsAside IsIdle aside-idle rs e

-- behind such notes
pub behind-idle : (xs rs : List Rec) (ys : List ℕ) → Each IsIdle xs → fold waiting_step ys (xs ++ rs) ≡ fold waiting_step ys rs
behind-idle xs rs ys e = fold-append waiting_step ys xs rs ∙ ap (λ (zs : List ℕ). fold waiting_step zs rs) (idle-same xs ys e)

pub over-idle : (c : ℕ) (over : Bool) → Each IsIdle (over_note c over)
over-idle c true = ((λ ys. refl), tt)
over-idle c false = tt

pub assigned-idle : (c : ℕ) (ask : Ask) (r : ℕ) (paths : List (List ℕ)) (choices : List LaterChoice) → Each IsIdle (assigned_notes c ask r paths choices)
assigned-idle c ask r [] choices = tt
assigned-idle c ask r (path ∷ paths) [] = tt
assigned-idle c ask r (path ∷ paths) (choice ∷ choices) = ((λ ys. refl), assigned-idle c ask (r + 1) paths choices)

-- These notes take those who wait from one line to another.
abbrev pub Leaves : List Waiting → List Rec → List Waiting → Type 0
Leaves line notes after = (ys : List ℕ) → IsSublist (who line) ys → IsSublist (who after) (fold waiting_step ys notes)

pub idle-leaves : (line : List Waiting) (notes : List Rec) → Each IsIdle notes → Leaves line notes line
idle-leaves line notes e = λ ys h. subst (IsSublist (who line)) (sym (idle-same notes ys e)) h

pub left-leaves : (c : ℕ) (line : List Waiting) (notes : List Rec) (after : List Waiting) → Leaves line notes after → Leaves line notes (line_without after c)
left-leaves c line notes after l = λ ys h. left-within c after (fold waiting_step ys notes) (l ys h)

pub waits-leaves : (line : List Waiting) (notes : List Rec) (w : Waiting) → Each IsIdle notes → Leaves line (notes ++ rec.Waits w.c ∷ []) (line ++ w ∷ [])
waits-leaves line notes w e = λ ys h. subst (IsSublist (who (line ++ w ∷ []))) (sym (behind-idle notes (rec.Waits w.c ∷ []) ys e)) (come-within line w ys h)

-- one behind another
pub both-leave : (line mid after : List Waiting) (xs ys : List Rec) → Leaves line xs mid → Leaves mid ys after → Leaves line (xs ++ ys) after
both-leave line mid after xs ys one two =
    λ zs h. subst (IsSublist (who after)) (sym (fold-append waiting_step zs xs ys)) (two (fold waiting_step zs xs) (one zs h))

-- between such notes
pub between-leaves : (line after : List Waiting) (xs rs ys : List Rec) → Each IsIdle xs → Leaves line rs after → Each IsIdle ys → Leaves line (xs ++ rs ++ ys) after
between-leaves line after xs rs ys before l behind =
    both-leave line after after (xs ++ rs) ys (both-leave line line after xs rs (idle-leaves line xs before) l) (idle-leaves after ys behind)
