-- What goes to the front of a cache stays in it, and so do all others.
use Rattle.std.proofs.Common.{◌≡◌, ℕ, Bool, true, false, cond, List, [], ◌∷◌, Option, Some, None, is_some, refl, sym, ap, ◌∙◌}
use Rattle.std.proofs.lemmas.Slice.Eq.{bytes_eq-Decides}
use Rattle.std.specs.Map.{remove_entry}
use Rattle.std.specs.Str.{bytes_eq}
use Rattle.lard_law_view.specs.Prelude.{after_hit, brought_forward, has_path, size_at}

abbrev Entries : Type 0
Entries = List (List ℕ × ℕ)

-- another path is found as before
found-other : (es : Entries) (p q : List ℕ) → bytes_eq q p ≡ false → size_at (remove_entry (bytes_eq p) es) q ≡ size_at es q
found-other [] p q other = refl
found-other (e ∷ es) p q other = go (bytes_eq p e.0) refl (found-other es p q other) where
  go : (b : Bool) → bytes_eq p e.0 ≡ b → size_at (remove_entry (bytes_eq p) es) q ≡ size_at es q
      → size_at (cond b es (e ∷ remove_entry (bytes_eq p) es)) q ≡ cond (bytes_eq q e.0) (Some e.1) (size_at es q)
  go true is later =
      let same : p ≡ e.0 = (bytes_eq-Decides p e.0).0 is in
      sym (ap (λ (b : Bool). cond {A = Option ℕ} b (Some e.1) (size_at es q)) (ap (bytes_eq q) (sym same) ∙ other))
  go false is later = ap (λ (o : Option ℕ). cond (bytes_eq q e.0) (Some e.1) o) later

-- a hit changes nothing of what is in
pub hit-has : (es : Entries) (p q : List ℕ) → has_path (after_hit es p) q ≡ has_path es q
hit-has es p q = go (size_at es p) refl where
  go : (o : Option ℕ) → size_at es p ≡ o → has_path (brought_forward es p o) q ≡ has_path es q
  go None none = refl
  go (Some size) some = by (bytes_eq q p) refl where
    by : (b : Bool) → bytes_eq q p ≡ b → is_some (cond {A = Option ℕ} (bytes_eq q p) (Some size) (size_at (remove_entry (bytes_eq p) es) q)) ≡ has_path es q
    by true is =
        let same : q ≡ p = (bytes_eq-Decides q p).0 is in
        ap (λ (b : Bool). is_some (cond {A = Option ℕ} b (Some size) (size_at (remove_entry (bytes_eq p) es) q))) is ∙ sym (ap (λ x. is_some (size_at es x)) same ∙ ap (λ (o : Option ℕ). is_some o) some)
    by false is =
        ap (λ (b : Bool). is_some (cond {A = Option ℕ} b (Some size) (size_at (remove_entry (bytes_eq p) es) q))) is ∙ ap (λ (o : Option ℕ). is_some o) (found-other es p q is)
