-- The admitted and the waiting, once one of the admitted changes.
use Rattle.std.proofs.Common.{◌≡◌, ◌≢◌, ℕ, Bool, true, false, not, ◌==◌, ◌||◌, List, [], ◌∷◌, ◌++◌, Option, None, IfSome, is_some, refl, sym, ap, subst, ◌∙◌}
use Rattle.std.proofs.lemmas.Bool.{cond_both, both_ways, eq-eqb, ne_eqb}
use Rattle.std.specs.FinMap as map
use Rattle.std.specs.FinMap.{FinMap}
use Rattle.std.specs.Ordering.{eq_by_cmp, nat_cmp}
use Rattle.lard_table.specs.Table.{put_or}
use Rattle.lard_table.proofs.Map.{get_put, get_put_other}
use Rattle.lard_loads.specs.Tally.{Standing}
use Rattle.lard_dispatch.specs.declared.line.Waiting.{Waiting}
use Rattle.lard_dispatch.specs.Line.{is_of, line_waits, line_without}
use Rattle.lard_dispatch.specs.Sound.{AreApart, AreAtNodes, IsNode}

abbrev Standings : Type 0
Standings = FinMap nat_cmp Standing

-- one that is at a node, or is none
pub at-nodes-put : (nodes : ℕ) (m : Standings) (c : ℕ) (o : Option Standing) → AreAtNodes nodes m → IfSome o (λ s. IsNode nodes s.home) → AreAtNodes nodes (put_or m c o)
at-nodes-put nodes m c o all own = λ q.
    subst (λ (x : Option Standing). IfSome x (λ s. IsNode nodes s.home)) (sym (get_put m c q o))
    (cond_both (eq_by_cmp nat_cmp q c) o (map.get m q) (λ (x : Option Standing). IfSome x (λ s. IsNode nodes s.home)) (λ _. own) (λ _. all q))

-- the head of a line is another than who does not wait
not-first : (w : Waiting) (ws : List Waiting) (c : ℕ) → line_waits (w ∷ ws) c ≡ false → (w.c ≢ c) × (line_waits ws c ≡ false)
not-first w ws c h = go (w.c == c) refl h where
  go : (b : Bool) → (w.c == c) ≡ b → (b || line_waits ws c) ≡ false → (w.c ≢ c) × (line_waits ws c ≡ false)
  go true e t = cc
  go false e t = ((λ same. both_ways (w.c == c) e (eq-eqb w.c c same)), t)

-- a connection that does not wait changes nothing for those that do
pub apart-put : (m : Standings) (c : ℕ) (o : Option Standing) (ws : List Waiting) → line_waits ws c ≡ false → AreApart m ws → AreApart (put_or m c o) ws
apart-put m c o [] away all = tt
apart-put m c o (w ∷ ws) away all =
    let other : (w.c ≢ c) × (line_waits ws c ≡ false) = not-first w ws c away in
    (get_put_other m c w.c o other.0 ∙ all.0, all.1, apart-put m c o ws other.1 all.2)

-- who is admitted does not wait
pub admitted-away : (m : Standings) (c : ℕ) (ws : List Waiting) → is_some (map.get m c) ≡ true → AreApart m ws → line_waits ws c ≡ false
admitted-away m c [] in_ all = refl
admitted-away m c (w ∷ ws) in_ all =
    ap (λ (b : Bool). b || line_waits ws c) (ne_eqb w.c c (λ e. both_ways (is_some (map.get m c)) (ap is_some (ap (map.get m) (sym e) ∙ all.0)) in_))
    ∙ admitted-away m c ws in_ all.2

-- one more that waits
pub apart-pushed : (m : Standings) (w : Waiting) (ws : List Waiting) → map.get m w.c ≡ None → line_waits ws w.c ≡ false → AreApart m ws → AreApart m (ws ++ w ∷ [])
apart-pushed m w [] free away all = (free, refl, tt)
apart-pushed m w (v ∷ ws) free away all =
    let other : (v.c ≢ w.c) × (line_waits ws w.c ≡ false) = not-first v ws w.c away in
    (all.0, behind ws all.1 (λ e. other.0 (sym e)), apart-pushed m w ws free other.1 all.2) where
      behind : (us : List Waiting) → line_waits us v.c ≡ false → w.c ≢ v.c → line_waits (us ++ w ∷ []) v.c ≡ false
      behind [] h n = ap (λ (b : Bool). b || false) (ne_eqb w.c v.c n)
      behind (u ∷ us) h n = let p : (u.c ≢ v.c) × (line_waits us v.c ≡ false) = not-first u us v.c h in ap (λ (b : Bool). b || line_waits (us ++ w ∷ []) v.c) (ne_eqb u.c v.c p.0) ∙ behind us p.1 n

-- one fewer
left-away : (ws : List Waiting) (c d : ℕ) → line_waits ws d ≡ false → line_waits (line_without ws c) d ≡ false
left-away [] c d h = refl
left-away (w ∷ ws) c d h =
    let p : (w.c ≢ d) × (line_waits ws d ≡ false) = not-first w ws d h in
    cond_both (not (is_of c w)) (w ∷ line_without ws c) (line_without ws c) (λ (l : List Waiting). line_waits l d ≡ false)
    (λ _. ap (λ (b : Bool). b || line_waits (line_without ws c) d) (ne_eqb w.c d p.0) ∙ left-away ws c d p.1) (λ _. left-away ws c d p.1)

pub apart-left : (m : Standings) (c : ℕ) (ws : List Waiting) → AreApart m ws → AreApart m (line_without ws c)
apart-left m c [] all = tt
apart-left m c (w ∷ ws) all =
    cond_both (not (is_of c w)) (w ∷ line_without ws c) (line_without ws c) (AreApart m) (λ _. (all.0, left-away ws c w.c all.1, apart-left m c ws all.2)) (λ _. apart-left m c ws all.2)
