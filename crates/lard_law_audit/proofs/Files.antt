-- What a cache has does not depend on the bytes of files, only on how many they are.
use Rattle.std.proofs.Common.{◌≡◌, ℕ, cond, is_some, List, [], ◌∷◌, length, Option, Some, None, refl, ap, ◌∙◌, nat_eq}
use Rattle.std.proofs.lemmas.List.{length-replicate}
use Rattle.std.proofs.lemmas.Map.Made.{lookup-map_values}
use Rattle.std.specs.List.{fold}
use Rattle.std.specs.Option.{option_map}
use Rattle.std.specs.Prelude.{replicate}
use Rattle.std.specs.Str.{bytes_eq}
use Rattle.lard_audit.specs.Sound.{audit_files_of, size_in}
use Rattle.lard_law_view.specs.Prelude.{Rec, Recency, after_put, file_at}
use Rattle.lard_counts.specs.Stores.{bytes_of_file, cache_step, cached, size_of}
use Rattle.lard_journal.specs.declared.rec.Rec.TheVariants as rec
use Rattle.lard_law_audit.specs.Laws.{file_lengths}

module _ (files : List (List ℕ × List ℕ)) where
  size-found : (path : List ℕ) → size_in (file_lengths files) path ≡ option_map (λ (b : List ℕ). length b) (file_at files path)
  size-found path = lookup-map_values (λ (b : List ℕ). length b) (bytes_eq path) files

  -- a path has a size where it has a file
  pub size-there : (path : List ℕ) → is_some (size_in (file_lengths files) path) ≡ is_some (file_at files path)
  size-there path = ap is_some (size-found path) ∙ go (file_at files path) where
    go : (o : Option (List ℕ)) → is_some (option_map (λ (b : List ℕ). length b) o) ≡ is_some o
    go None = refl
    go (Some b) = refl

  size-same : (path : List ℕ) → size_of (audit_files_of (file_lengths files)) path ≡ size_of (file_at files) path
  size-same path = ap (λ (o : Option ℕ). bytes_of_file (option_map (λ (n : ℕ). replicate n 0) o)) (size-found path) ∙ go (file_at files path) where
    go : (o : Option (List ℕ)) → bytes_of_file (option_map (λ (n : ℕ). replicate n 0) (option_map (λ (b : List ℕ). length b) o)) ≡ bytes_of_file o
    go None = refl
    go (Some b) = length-replicate (length b) 0

  one-same : (n : ℕ) (cache : Recency) (r : Rec) → cache_step (audit_files_of (file_lengths files)) n cache r ≡ cache_step (file_at files) n cache r
  one-same n cache (rec.Read k m c r path) = ap (λ (size : ℕ). cond (nat_eq k n) (after_put cache path size) cache) (size-same path)
  one-same n cache (rec.Hit k path) = refl
  one-same n cache _ = refl

  all-same : (n : ℕ) (cache : Recency) (rs : List Rec) → fold (cache_step (audit_files_of (file_lengths files)) n) cache rs ≡ fold (cache_step (file_at files) n) cache rs
  all-same n cache [] = refl
  all-same n cache (r ∷ rs) = ap (λ (x : Recency). fold (cache_step (audit_files_of (file_lengths files)) n) x rs) (one-same n cache r) ∙ all-same n (cache_step (file_at files) n cache r) rs

  pub cached-same : (limit : ℕ) (J : List Rec) (n : ℕ) → cached (audit_files_of (file_lengths files)) limit J n ≡ cached (file_at files) limit J n
  cached-same limit J n = ap (λ (x : Recency). x.entries) (all-same n (record { entries = []; limit = limit }) J)
