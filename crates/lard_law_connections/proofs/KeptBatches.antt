-- What is kept for a batch: the paths that have no node, the Fetches, and how many contents are awaited.
use Rattle.std.proofs.Common.{◌≡◌, ◌≤◌, ◌+◌, ◌==◌, ℕ, zero, suc, Bool, true, false, cond, not, List, [], ◌∷◌, ◌++◌, length, is_some, Option, Some, None, refl, ap, subst, arith}
use Rattle.std.proofs.lemmas.Bool.{cond_both}
use Rattle.std.specs.List.{AllByRecursion, find}
use Rattle.lard_law_view.specs.Prelude.{AreInOrder, Entry, FilesAt, Kept, Progress, TimerKind, Verdict, and_path, anew, come_on, come_progress, good_path, is_from, is_under, named_path, named_paths, path_in, read_progress, without}
use Rattle.lard_base.specs.declared.place.TimerKind.TheVariants as kind
use Rattle.lard_base.specs.declared.place.Via.TheVariants as via
use Rattle.lard_law_connections.specs.Kept.{IsFetchFromOther, contents_awaited, awaits_content}
use Rattle.lard_rules.specs.declared.stay.Progress.TheVariants as progress
use Rattle.lard_request.specs.declared.verdict.Verdict.TheVariants as verdict
use Rattle.lard_resend.proofs.Lengths.{without-less}
use Rattle.lard_resend.proofs.Ordered.{drop_all, drop_keeps, drops, keeps, put_all}

-- ---- paths

-- a good path is that of a file
pub good-file : (files : FilesAt) (v : Verdict) (path : List ℕ) → good_path files v ≡ Some path → is_some (files path) ≡ true
good-file files (verdict.Fault code) path is = let no : None ≡ Some path = is in absurd cc
good-file files (verdict.Serve p head close) path is = go (is_some (files p)) refl is where
  go : (b : Bool) → is_some (files p) ≡ b → cond b (Some p) None ≡ Some path → is_some (files path) ≡ true
  go true there e =
      let found : Some p ≡ Some path = e in
      let same : p ≡ path = cc in
      subst (λ (q : List ℕ). is_some (files q) ≡ true) same there
  go false there e = let no : None ≡ Some path = e in absurd cc

pub named-file : (files : FilesAt) (e : Entry) (p : Progress) (path : List ℕ) → path_in files e p ≡ Some path → is_some (files path) ≡ true
named-file files e progress.Named path is = good-file files e.verdict path is
named-file files e _ path is = let no : None ≡ Some path = is in absurd cc

-- no path is named by the first of them, and none behind it
none-of : (o : Option (List ℕ)) (paths : List (List ℕ)) → and_path o paths ≡ [] → (o ≡ None) × (paths ≡ [])
none-of None paths e = (refl, e)
none-of (Some path) paths e = let no : path ∷ paths ≡ [] = e in absurd cc

pub named-push : (files : FilesAt) (es : List Entry) (x : Entry) → named_paths files es ≡ [] → named_path files x ≡ None → named_paths files (es ++ x ∷ []) ≡ []
named-push files [] x none is = ap (λ (o : Option (List ℕ)). and_path o []) is
named-push files (y ∷ es) x none is =
    let both = none-of (named_path files y) (named_paths files es) none in
    (λ i. and_path (both.0 i) (named-push files es x both.1 is i))

-- a job or a content that comes names no path, and leaves none unnamed
abbrev pub IsCalm : FilesAt → (Progress → Progress) → Type 0
IsCalm files f = (e : Entry) (p : Progress) → path_in files (record e { progress = f p }) (f p) ≡ path_in files e p

pub read-calm : (files : FilesAt) → IsCalm files read_progress
read-calm files e progress.Named = refl
read-calm files e progress.Reading = refl
read-calm files e (progress.Awaited node) = refl
read-calm files e (progress.Ready way) = refl

pub come-calm : (files : FilesAt) (from : ℕ) → IsCalm files (come_progress from)
come-calm files from e progress.Named = refl
come-calm files from e progress.Reading = refl
come-calm files from e (progress.Ready way) = refl
come-calm files from e (progress.Awaited node) =
    cond_both (node == from) (progress.Ready (via.Node from)) (progress.Awaited node) (λ (p : Progress). path_in files (record e { progress = p }) p ≡ None) (λ t. refl) (λ t. refl)

pub named-come : (files : FilesAt) (f : Progress → Progress) → IsCalm files f → (i : ℕ) (es : List Entry) → named_paths files (come_on f i es) ≡ named_paths files es
named-come files f calm i [] = refl
named-come files f calm zero (e ∷ es) = ap (λ (o : Option (List ℕ)). and_path o (named_paths files es)) (calm e e.progress)
named-come files f calm (suc i) (e ∷ es) = ap (and_path (named_path files e)) (named-come files f calm i es)

-- ---- Fetches

module _ (N : ℕ → Type 0) (files : FilesAt) (c e n : ℕ) where
  pub record AreFetches (ks : List Kept) : Type 0 where
    pub each : AllByRecursion (IsFetchFromOther N files c e n) ks
    pub order : AreInOrder ks

  -- one takes the place of its number
  pub anew-fetches : (k : Kept) (ks : List Kept) → IsFetchFromOther N files c e n k → AreFetches ks → AreFetches (anew k ks)
  anew-fetches k ks one h = record {
    each = put_all (IsFetchFromOther N files c e n) k (without k.kind k.r ks) one (drop_all (IsFetchFromOther N files c e n) k.kind k.r ks h.each);
    order = (keeps k (without k.kind k.r ks) (drop_keeps k.kind k.r ks h.order) (drops k.kind k.r ks)).0;
  }

  pub without-fetches : (r : ℕ) (ks : List Kept) → AreFetches ks → AreFetches (without kind.Fetch r ks)
  without-fetches r ks h = record { each = drop_all (IsFetchFromOther N files c e n) kind.Fetch r ks h.each; order = drop_keeps kind.Fetch r ks h.order }

-- one less, where one is found
pub found-less : (a : TimerKind) (r from epoch : ℕ) (ks : List Kept) → is_from from epoch (find (is_under a r) ks) ≡ true → length (without a r ks) + 1 ≤ length ks
found-less a r from epoch [] h = let no : false ≡ true = h in absurd cc
found-less a r from epoch (k ∷ ks) h = go (is_under a r k) h (λ f. found-less a r from epoch ks f) where
  go : (t : Bool) → is_from from epoch (cond t (Some k) (find (is_under a r) ks)) ≡ true → (is_from from epoch (find (is_under a r) ks) ≡ true → length (without a r ks) + 1 ≤ length ks) → length (cond (not t) (k ∷ without a r ks) (without a r ks)) + 1 ≤ suc (length ks)
  go true f later = let less = without-less a r ks in omega (arith, less)
  go false f later = let less = later f in omega (arith, less)

-- ---- how many contents are awaited

pub awaited-push : (es : List Entry) (x : Entry) → contents_awaited (es ++ x ∷ []) ≡ contents_awaited es + awaits_content x.progress
awaited-push [] x = omega arith
awaited-push (e ∷ es) x = let rest = awaited-push es x in omega (arith, rest)

-- one that has no node yet awaits none
pub named-awaits : (files : FilesAt) (e : Entry) (p : Progress) (path : List ℕ) → path_in files e p ≡ Some path → awaits_content p ≡ 0
named-awaits files e progress.Named path is = refl
named-awaits files e progress.Reading path is = refl
named-awaits files e (progress.Ready way) path is = refl
named-awaits files e (progress.Awaited node) path is = let no : None ≡ Some path = is in absurd cc

-- so many at most are awaited no more, where a request comes on
abbrev pub Loses : ℕ → (Progress → Progress) → Type 0
Loses n f = (p : Progress) → awaits_content p ≤ awaits_content (f p) + n

pub read-loses : Loses 0 read_progress
read-loses progress.Named = omega arith
read-loses progress.Reading = omega arith
read-loses (progress.Awaited node) = omega arith
read-loses (progress.Ready way) = omega arith

pub come-loses : (from : ℕ) → Loses 1 (come_progress from)
come-loses from progress.Named = omega arith
come-loses from progress.Reading = omega arith
come-loses from (progress.Ready way) = omega arith
come-loses from (progress.Awaited node) = omega arith

pub awaited-come : (n : ℕ) (f : Progress → Progress) → Loses n f → (i : ℕ) (es : List Entry) → contents_awaited es ≤ contents_awaited (come_on f i es) + n
awaited-come n f loses i [] = omega arith
awaited-come n f loses zero (e ∷ es) = let one = loses e.progress in omega (arith, one)
awaited-come n f loses (suc i) (e ∷ es) = let rest = awaited-come n f loses i es in omega (arith, rest)
