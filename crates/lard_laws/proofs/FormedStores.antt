-- What is hit, queued and read names a file: a job is queued for one, a job that is read was queued, and a cache has what was read.
use Rattle.std.proofs.Common.{◌≡◌, ℕ, zero, suc, ◌-◌, ◌&&◌, Bool, true, false, cond, is_some, nat_eq, nat_le, nat_lt, List, [], ◌∷◌, ◌++◌, take, drop, Option, Some, None, refl, sym, subst}
use Rattle.std.proofs.lemmas.Bool.{cond_both}
use Rattle.std.proofs.lemmas.List.Sums.{fold-append}
use Rattle.std.proofs.lemmas.Slice.Eq.{bytes_eq-Decides}
use Rattle.std.specs.List.{slice_get}
use Rattle.std.specs.Map.{lookup, remove_entry}
use Rattle.std.specs.Str.{bytes_eq}
use Rattle.lard_law_view.specs.Prelude.{EachMay, FilesAt, MAX_CACHED_PATHS, Rec, Recency, after_hit, after_put, brought_forward, front_within, has_path, in_front, size_at}
use Rattle.lard_counts.specs.Stores.{Queue, Waiting, cache_of, cache_step, cached, jobs, jobs_step, no_jobs, queue_of, size_of, waiting_at, without_waiting}
use Rattle.lard_history.proofs.Each.{Each, Each-append}
use Rattle.lard_journal.specs.declared.rec.Rec.TheVariants as rec
use Rattle.lard_law_connections.specs.StoresLaws.{MayStore}
use Rattle.lard_laws.proofs.FormedTold.{IsStoredSo}
use Rattle.lard_laws.specs.Formed.{IsOfFile}

module _ (files : FilesAt) (limit : ℕ) where
  -- ---- lists

  part-take : {A : Type 0} (P : A → Type 0) (n : ℕ) (xs : List A) → Each P xs → Each P (take n xs)
  part-take P zero xs h = tt
  part-take P (suc n) [] h = tt
  part-take P (suc n) (x ∷ xs) h = (h.0, part-take P n xs h.1)

  part-drop : {A : Type 0} (P : A → Type 0) (n : ℕ) (xs : List A) → Each P xs → Each P (drop n xs)
  part-drop P zero xs h = h
  part-drop P (suc n) [] h = tt
  part-drop P (suc n) (x ∷ xs) h = part-drop P n xs h.1

  got : {A : Type 0} (P : A → Type 0) (xs : List A) (i : ℕ) (a : A) → Each P xs → slice_get xs i ≡ Some a → P a
  got P [] i a h e = let no : None ≡ Some a = e in cc
  got P (x ∷ xs) zero a h e = let same : x ≡ a = cc in subst P same h.0
  got P (x ∷ xs) (suc i) a h e = got P xs i a h.1 e

  -- ---- disks

  abbrev IsJob : Waiting → Type 0
  IsJob w = IsOfFile files w.3

  abbrev Jobs : List Rec → Type 0
  Jobs past = (n : ℕ) → Each IsJob (queue_of past n).list

  job-named : (ws : List Waiting) (j : ℕ) (w : Waiting) → Each IsJob ws → waiting_at ws j ≡ Some w → IsJob w
  job-named ws j w h = go (nat_eq j 0) where
    go : (b : Bool) → cond b None (slice_get ws (j - 1)) ≡ Some w → IsJob w
    go true e = let no : None ≡ Some w = e in cc
    go false e = got IsJob ws (j - 1) w h e

  less-named : (ws : List Waiting) (j : ℕ) → Each IsJob ws → Each IsJob (without_waiting ws j)
  less-named ws j h = cond_both (nat_eq j 0) ws (take (j - 1) ws ++ drop (suc (j - 1)) ws) (Each IsJob) (λ t. h)
      (λ t. Each-append IsJob (take (j - 1) ws) (drop (suc (j - 1)) ws) (part-take IsJob (j - 1) ws h) (part-drop IsJob (suc (j - 1)) ws h))

  one-job : (n : ℕ) (q : Queue) (r : Rec) → Each IsJob q.list → IsStoredSo files r → Each IsJob (jobs_step n q r).list
  one-job n q (rec.Event i e) h s = h
  one-job n q (rec.Inner e) h s = h
  one-job n q (rec.Queued k m c r path) h s = cond_both (nat_eq k n) (record q { list = q.list ++ (m, c, r, path) ∷ [] }) q (λ (p : Queue). Each IsJob p.list) (λ t. Each-append IsJob q.list ((m, c, r, path) ∷ []) h (s, tt)) (λ t. h)
  one-job n q (rec.Read k m c r path) h s = cond_both (nat_eq k n) (record q { list = without_waiting q.list q.at }) q (λ (p : Queue). Each IsJob p.list) (λ t. less-named q.list q.at h) (λ t. h)
  one-job n q _ h s = h

  -- ---- caches

  abbrev IsEntry : List ℕ × ℕ → Type 0
  IsEntry e = IsOfFile files e.0

  abbrev Caches : List Rec → Type 0
  Caches past = (n : ℕ) → Each IsEntry (cached files limit past n)

  removed-named : (path : List ℕ) (es : List (List ℕ × ℕ)) → Each IsEntry es → Each IsEntry (remove_entry (bytes_eq path) es)
  removed-named path [] h = tt
  removed-named path (e ∷ es) h = cond_both (bytes_eq path e.0) es (e ∷ remove_entry (bytes_eq path) es) (Each IsEntry) (λ t. h.1) (λ t. (h.0, removed-named path es h.1))

  front-named : (paths bytes : ℕ) (es : List (List ℕ × ℕ)) → Each IsEntry es → Each IsEntry (front_within paths bytes es)
  front-named paths bytes [] h = tt
  front-named paths bytes (e ∷ es) h = cond_both (nat_lt 0 paths && nat_le e.1 bytes) (e ∷ front_within (paths - 1) (bytes - e.1) es) [] (Each IsEntry) (λ t. (h.0, front-named (paths - 1) (bytes - e.1) es h.1)) (λ t. tt)

  hit-named : (es : List (List ℕ × ℕ)) (path : List ℕ) → IsOfFile files path → Each IsEntry es → Each IsEntry (after_hit es path)
  hit-named es path s h = go (size_at es path) where
    go : (o : Option ℕ) → Each IsEntry (brought_forward es path o)
    go None = h
    go (Some size) = (s, removed-named path es h)

  put-named : (c : Recency) (path : List ℕ) (size : ℕ) → IsOfFile files path → Each IsEntry c.entries → Each IsEntry (after_put c path size).entries
  put-named c path size s h = cond_both (nat_lt c.limit size) c (record c { entries = front_within MAX_CACHED_PATHS c.limit (in_front c.entries path size) }) (λ (x : Recency). Each IsEntry x.entries) (λ t. h)
      (λ t. front-named MAX_CACHED_PATHS c.limit (in_front c.entries path size) (s, removed-named path c.entries h))

  one-cache : (n : ℕ) (c : Recency) (r : Rec) → Each IsEntry c.entries → IsStoredSo files r → Each IsEntry (cache_step files n c r).entries
  one-cache n c (rec.Hit k path) h s = cond_both (nat_eq k n) (record c { entries = after_hit c.entries path }) c (λ (x : Recency). Each IsEntry x.entries) (λ t. hit-named c.entries path s h) (λ t. h)
  one-cache n c (rec.Read k m i r path) h s = cond_both (nat_eq k n) (after_put c path (size_of files path)) c (λ (x : Recency). Each IsEntry x.entries) (λ t. put-named c path (size_of files path) s h) (λ t. h)
  one-cache n c _ h s = h

  -- ---- a path that is there is one of them

  there-named : (path : List ℕ) (es : List (List ℕ × ℕ)) → Each IsEntry es → has_path es path ≡ true → IsOfFile files path
  there-named path [] h t = let no : false ≡ true = t in cc
  there-named path (e ∷ es) h t = go (bytes_eq path e.0) refl t (there-named path es h.1) where
    go : (b : Bool) → bytes_eq path e.0 ≡ b → is_some (cond b (Some e.1) (lookup (bytes_eq path) es)) ≡ true → (has_path es path ≡ true → IsOfFile files path) → IsOfFile files path
    go true same u later = subst (IsOfFile files) (sym ((bytes_eq-Decides path e.0).0 same)) h.0
    go false other u later = later u

  -- ---- record by record

  may-named : (past : List Rec) (r : Rec) → Jobs past → Caches past → MayStore files limit past r → IsStoredSo files r
  may-named past (rec.Hit n path) j c may = there-named path (cached files limit past n) (c n) may
  may-named past (rec.Queued n m c r path) j h may = may.1
  may-named past (rec.Read n m c r path) j h may = job-named (jobs past n) may.0 (m, c, r, path) (j n) may.2
  may-named past _ j c may = tt

  all-named : (past rs : List Rec) → Jobs past → Caches past → EachMay (MayStore files limit) past rs → Each (IsStoredSo files) rs
  all-named past [] j c h = tt
  all-named past (r ∷ rs) j c h =
      let one : IsStoredSo files r = may-named past r j c h.0 in (
        one,
        all-named (past ++ r ∷ []) rs
            (λ n. subst (λ (q : Queue). Each IsJob q.list) (sym (fold-append (jobs_step n) no_jobs past (r ∷ []))) (one-job n (queue_of past n) r (j n) one))
            (λ n. subst (λ (x : Recency). Each IsEntry x.entries) (sym (fold-append (cache_step files n) (record { entries = []; limit = limit }) past (r ∷ []))) (one-cache n (cache_of files limit past n) r (c n) one))
            h.1,
      )

  pub stored-named : (J : List Rec) → EachMay (MayStore files limit) [] J → Each (IsStoredSo files) J
  stored-named J h = all-named [] J (λ n. tt) (λ n. tt) h
