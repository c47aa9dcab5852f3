-- The entries of the map of vectors, seen as pairs of a path and the bytes of its file.
use Rattle.std.proofs.Common.{zero, slice_get, ◌≡◌, ℕ, suc, ◌+◌, ◌-◌, ◌<◌, ◌≤◌, Bool, true, false, List, [], ◌∷◌, length, take, Option, Some, None, cond, refl, sym, ap, ◌∙◌, Vec, Global, arith, unwrap_or}
use Rattle.std.proofs.lemmas.List.{take_all}
use Rattle.std.proofs.lemmas.Option.{slice_get_within}
use Rattle.std.proofs.lemmas.Slice.Eq.{bytes_eq-Decides}
use Rattle.std.specs.Str.{bytes_eq}
use Rattle.std.specs.Map.{lookup, lookup_entry, remove_entry}
use Rattle.std.specs.Option.{option_map_or}
use Rattle.lru.specs.LruCache.{LruCache, promoted, put_entries}
use Rattle.lard_cache.specs.Recency.{entries_shown, size_at, total, in_front, brought_forward, after_hit}

-- an entry, and the test of its key
abbrev Entry : Type 0
Entry = Vec ℕ Global × ℕ

abbrev is_at : List ℕ → Vec ℕ Global → Bool
is_at q k = bytes_eq q k.items

-- a look-up among the entries is one among the pairs
pub size-shown : (es : List Entry) (q : List ℕ) → lookup (is_at q) es ≡ size_at (entries_shown es) q
size-shown [] q = refl
size-shown (e ∷ es) q = ap (λ (o : Option ℕ). cond (bytes_eq q e.0.items) (Some e.1) o) (size-shown es q)

-- so is what is left without a path
remove-shown : (es : List Entry) (q : List ℕ) → entries_shown (remove_entry (is_at q) es) ≡ remove_entry (bytes_eq q) (entries_shown es)
remove-shown [] q = refl
remove-shown (e ∷ es) q = go (bytes_eq q e.0.items) (remove-shown es q) where
  go : (b : Bool) → entries_shown (remove_entry (is_at q) es) ≡ remove_entry (bytes_eq q) (entries_shown es)
      → entries_shown (cond b es (e ∷ remove_entry (is_at q) es)) ≡ cond b (entries_shown es) ((e.0.items, e.1) ∷ remove_entry (bytes_eq q) (entries_shown es))
  go true h = refl
  go false h = ap (λ (xs : List (List ℕ × ℕ)). (e.0.items, e.1) ∷ xs) h

-- an entry that is found has that path, and its size
pub record IsFound (es : List Entry) (q : List ℕ) (e : Entry) : Type 0 where
  pub key : e.0.items ≡ q
  pub size : size_at (entries_shown es) q ≡ Some e.1

found : (es : List Entry) (q : List ℕ) (e : Entry) → lookup_entry (is_at q) es ≡ Some e → IsFound es q e
found [] q e h = cc
found (f ∷ es) q e h = go (found es q e) (bytes_eq q f.0.items) refl h where
  go : (lookup_entry (is_at q) es ≡ Some e → IsFound es q e) → (b : Bool) → bytes_eq q f.0.items ≡ b → cond {A = Option Entry} b (Some f) (lookup_entry (is_at q) es) ≡ Some e → IsFound (f ∷ es) q e
  go more true is g =
      let same : f ≡ e = cc in
      record {
        key = ap (λ (x : Entry). x.0.items) (sym same) ∙ sym ((bytes_eq-Decides q f.0.items).0 is);
        size = ap (λ (b : Bool). cond {A = Option ℕ} b (Some f.1) (size_at (entries_shown es) q)) is ∙ ap (λ (x : Entry). Some x.1) same;
      }
  go more false is g =
      record { key = (more g).key; size = ap (λ (b : Bool). cond {A = Option ℕ} b (Some f.1) (size_at (entries_shown es) q)) is ∙ (more g).size }

missing : (es : List Entry) (q : List ℕ) → lookup_entry (is_at q) es ≡ None → size_at (entries_shown es) q ≡ None
missing [] q h = refl
missing (f ∷ es) q h = go (missing es q) (bytes_eq q f.0.items) h where
  go : (lookup_entry (is_at q) es ≡ None → size_at (entries_shown es) q ≡ None) → (b : Bool) → cond {A = Option Entry} b (Some f) (lookup_entry (is_at q) es) ≡ None → cond {A = Option ℕ} b (Some f.1) (size_at (entries_shown es) q) ≡ None
  go more true g = cc
  go more false g = more g

-- without a path that is not there all stay
absent : (es : List (List ℕ × ℕ)) (q : List ℕ) → size_at es q ≡ None → remove_entry (bytes_eq q) es ≡ es
absent [] q h = refl
absent (e ∷ es) q h = go (absent es q) (bytes_eq q e.0) h where
  go : (size_at es q ≡ None → remove_entry (bytes_eq q) es ≡ es) → (b : Bool) → cond {A = Option ℕ} b (Some e.1) (size_at es q) ≡ None → cond b es (e ∷ remove_entry (bytes_eq q) es) ≡ e ∷ es
  go more true g = cc
  go more false g = ap (λ (xs : List (List ℕ × ℕ)). e ∷ xs) (more g)

-- the entries after a hit, seen as pairs
pub promoted-shown : (es : List Entry) (q : List ℕ) → entries_shown (promoted (is_at q) es) ≡ after_hit (entries_shown es) q
promoted-shown es q = go (lookup_entry (is_at q) es) refl where
  go : (o : Option Entry) → lookup_entry (is_at q) es ≡ o → entries_shown (option_map_or (λ e. e ∷ remove_entry (is_at q) es) o es) ≡ after_hit (entries_shown es) q
  go None h = ap (brought_forward (entries_shown es) q) (sym (missing es q h))
  go (Some e) h =
      let is : IsFound es q e = found es q e h in
      ap (λ (p : List ℕ). (p, e.1) ∷ entries_shown (remove_entry (is_at q) es)) is.key
      ∙ ap (λ (xs : List (List ℕ × ℕ)). (q, e.1) ∷ xs) (remove-shown es q)
      ∙ ap (brought_forward (entries_shown es) q) (sym is.size)

-- the entries after a put into a cache that is not full, seen as pairs
pub put-shown : (c : LruCache (Vec ℕ Global) ℕ) (k : Vec ℕ Global) (size : ℕ) (path : List ℕ) → k.items ≡ path → length c.entries ≤ c.cap - 1
    → entries_shown (put_entries (λ x y. bytes_eq x.items y.items) c k size) ≡ in_front (entries_shown c.entries) path size
put-shown c k size path key short = go (lookup_entry (is_at k.items) c.entries) refl ∙ ap (λ (p : List ℕ). in_front (entries_shown c.entries) p size) key where
  go : (o : Option Entry) → lookup_entry (is_at k.items) c.entries ≡ o
      → entries_shown (option_map_or (λ e. (e.0, size) ∷ remove_entry (is_at k.items) c.entries) o ((k, size) ∷ take (c.cap - 1) c.entries)) ≡ in_front (entries_shown c.entries) k.items size
  go None h =
      ap (λ (es : List Entry). (k.items, size) ∷ entries_shown es) (take_all (c.cap - 1) c.entries short)
      ∙ ap (λ (xs : List (List ℕ × ℕ)). (k.items, size) ∷ xs) (sym (absent (entries_shown c.entries) k.items (missing c.entries k.items h)))
  go (Some e) h =
      ap (λ (p : List ℕ). (p, size) ∷ entries_shown (remove_entry (is_at k.items) c.entries)) (found c.entries k.items e h).key
      ∙ ap (λ (xs : List (List ℕ × ℕ)). (k.items, size) ∷ xs) (remove-shown c.entries k.items)

-- what a path has, and what the others have
pub total-remove : (es : List (List ℕ × ℕ)) (q : List ℕ) → unwrap_or (size_at es q) 0 + total (remove_entry (bytes_eq q) es) ≡ total es
total-remove [] q = refl
total-remove (e ∷ es) q = go (bytes_eq q e.0) (total-remove es q) where
  go : (b : Bool) → unwrap_or (size_at es q) 0 + total (remove_entry (bytes_eq q) es) ≡ total es
      → unwrap_or (cond {A = Option ℕ} b (Some e.1) (size_at es q)) 0 + total (cond b es (e ∷ remove_entry (bytes_eq q) es)) ≡ e.1 + total es
  go true h = refl
  go false h = omega (arith, h)

pub length-remove : (es : List (List ℕ × ℕ)) (q : List ℕ) (size : ℕ) → size_at es q ≡ Some size → suc (length (remove_entry (bytes_eq q) es)) ≡ length es
length-remove [] q size h = cc
length-remove (e ∷ es) q size h = go (length-remove es q size) (bytes_eq q e.0) h where
  go : (size_at es q ≡ Some size → suc (length (remove_entry (bytes_eq q) es)) ≡ length es) → (b : Bool) → cond {A = Option ℕ} b (Some e.1) (size_at es q) ≡ Some size → suc (length (cond b es (e ∷ remove_entry (bytes_eq q) es))) ≡ suc (length es)
  go more true g = refl
  go more false g = ap suc (more g)

-- the bytes of those before the last, and of the last
pub total-last : (es : List Entry) (e : Entry) (m : ℕ) → length es ≡ suc m → slice_get es m ≡ Some e → total (entries_shown (take m es)) + e.1 ≡ total (entries_shown es)
total-last [] e m n h = cc
total-last (f ∷ es) e zero n h = single es (omega (arith, n)) (λ (x : Entry). cc) where
  single : (fs : List Entry) → length fs ≡ 0 → ((x : Entry) → f ≡ e) → 0 + e.1 ≡ f.1 + total (entries_shown fs)
  single [] z same = let s : f ≡ e = same f in omega (arith, ap (λ (x : Entry). x.1) s)
  single (g ∷ fs) z same = absurd (omega (arith, z))
total-last (f ∷ es) e (suc m) n h = omega (arith, total-last es e m (omega (arith, n)) h)

-- there are as many pairs as entries
pub length-shown : (es : List Entry) → length (entries_shown es) ≡ length es
length-shown [] = refl
length-shown (e ∷ es) = ap suc (length-shown es)

-- so it is of a cache whose last entry is dropped
pub record IsPopped (es : List Entry) (size : ℕ) : Type 0 where
  pub bytes : total (entries_shown (take (length es - 1) es)) + size ≡ total (entries_shown es)
  pub count : length (entries_shown es) ≡ suc (length es - 1)
  pub pairs : entries_shown (take (length es - 1) es) ≡ take (length es - 1) (entries_shown es)

map-take : (n : ℕ) (es : List Entry) → entries_shown (take n es) ≡ take n (entries_shown es)
map-take zero es = refl
map-take (suc n) [] = refl
map-take (suc n) (e ∷ es) = ap (λ (xs : List (List ℕ × ℕ)). (e.0.items, e.1) ∷ xs) (map-take n es)

pub popped : (es : List Entry) (e : Entry) → slice_get es (length es - 1) ≡ Some e → IsPopped es e.1
popped es e h =
    let some : length es - 1 < length es = slice_get_within es (length es - 1) e h in
    record {
      bytes = total-last es e (length es - 1) (omega (arith, some)) h;
      count = omega (arith, some, length-shown es);
      pairs = map-take (length es - 1) es;
    }

-- the bytes that a path had, and those of the others
pub total-had : (es : List Entry) (old : Option ℕ) (key : Vec ℕ Global) (path : List ℕ) → old ≡ lookup (is_at key.items) es → key.items ≡ path
    → unwrap_or old 0 + total (remove_entry (bytes_eq path) (entries_shown es)) ≡ total (entries_shown es)
total-had es old key path is same =
    ap (λ (o : Option ℕ). unwrap_or o 0 + total (remove_entry (bytes_eq path) (entries_shown es))) (is ∙ size-shown es key.items ∙ ap (size_at (entries_shown es)) same)
    ∙ total-remove (entries_shown es) path
