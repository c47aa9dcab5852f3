-- What is given call by call until there is none, where each call leaves less: how many calls are allowed does not matter.
use Rattle.std.proofs.Common.{◌≡◌, ℕ, zero, suc, ◌≤◌, ◌<◌, List, [], ◌∷◌, Bool, refl, sym, ap, ◌∙◌, arith}
use Rattle.std.specs.Prelude.{Option, Some, None, if◌then◌else◌}

module _ {S X P : Type 0} (emitted : S → Option X) (after : S → S) (packet : S → X → P) (goes : X → Bool) where
  -- one call, and what later calls give
  abbrev pub turned : (S → List P × S) → S → Option X → List P × S
  turned later s None = ([], s)
  turned later s (Some x) = if goes x then (packet (after s) x ∷ (later (after s)).0, (later (after s)).1) else ([], after s)

  -- the facts that make it end
  pub record Drains (left : S → ℕ) (Sound : S → Type 0) (drains : ℕ → S → List P × S) : Type 0 where
    pub at_zero : (s : S) → drains zero s ≡ ([], s)
    pub at_suc : (n : ℕ) (s : S) → drains (suc n) s ≡ turned (drains n) s (emitted s)
    pub falls : (s : S) (x : X) → Sound s → emitted s ≡ Some x → left (after s) < left s
    pub keeps : (s : S) → Sound s → Sound (after s)

  module _ (left : S → ℕ) (Sound : S → Type 0) (drains : ℕ → S → List P × S) (d : Drains left Sound drains) where
    turned-same : (f g : S → List P × S) (s : S) (o : Option X) → ((x : X) → o ≡ Some x → f (after s) ≡ g (after s)) → turned f s o ≡ turned g s o
    turned-same f g s None h = refl
    turned-same f g s (Some x) h = ap (λ (r : List P × S). if goes x then (packet (after s) x ∷ r.0, r.1) else ([], after s)) (h x refl)

    pub nothing_more : (n : ℕ) (s : S) → emitted s ≡ None → drains n s ≡ ([], s)
    nothing_more zero s e = d.at_zero s
    nothing_more (suc n) s e = d.at_suc n s ∙ ap (turned (drains n) s) e

    none_left : (s : S) → Sound s → left s ≤ 0 → (o : Option X) → emitted s ≡ o → o ≡ None
    none_left s h a None e = refl
    none_left s h a (Some x) e = absurd (omega (arith, d.falls s x h e, a))

    pub fuel : (n m : ℕ) (s : S) → Sound s → left s ≤ n → left s ≤ m → drains n s ≡ drains m s
    fuel zero m s h a b = d.at_zero s ∙ sym (nothing_more m s (none_left s h a (emitted s) refl))
    fuel (suc n) zero s h a b = nothing_more (suc n) s (none_left s h b (emitted s) refl) ∙ sym (d.at_zero s)
    fuel (suc n) (suc m) s h a b =
        d.at_suc n s
        ∙ turned-same (drains n) (drains m) s (emitted s) (λ x e. let f = d.falls s x h e in fuel n m (after s) (d.keeps s h) (omega (arith, f, a)) (omega (arith, f, b)))
        ∙ sym (d.at_suc m s)

    pub one_more : (s : S) (x : X) → Sound s → emitted s ≡ Some x → drains (left s) s ≡ turned (λ t. drains (left t) t) s (Some x)
    one_more s x h e = go (left s) refl where
      go : (n : ℕ) → left s ≡ n → drains n s ≡ turned (λ t. drains (left t) t) s (Some x)
      go zero k = absurd (let f : left (after s) < left s = d.falls s x h e in omega (arith, f, k))
      go (suc n) k =
          let f : left (after s) < left s = d.falls s x h e in
          d.at_suc n s ∙ ap (turned (drains n) s) e
          ∙ turned-same (drains n) (λ t. drains (left t) t) s (Some x) (λ y u. fuel n (left (after s)) (after s) (d.keeps s h) (omega (arith, f, k)) (omega arith))
