-- Batches and their assignments: one batch behind another, what came for one of the requests, and the nodes of those that had none.
use Rattle.std.proofs.Common.{◌≡◌, ◌⊎◌, ◌==◌, ℕ, zero, suc, List, [], ◌∷◌, ◌++◌, map, Option, Some, None, inl, inr, ⊎_elim, refl, sym, ap, ◌∙◌, subst, eqb-true}
use Rattle.std.proofs.lemmas.Bool.{cond_both}
use Rattle.lard_law_view.specs.Prelude.{Entry, FilesAt, Progress, Via, and_path, come_on, come_progress, good_path, named_path, named_paths, path_in, read_progress}
use Rattle.lard_base.specs.declared.place.Via.TheVariants as via
use Rattle.lard_law_connections.proofs.BytesWorking.{verdicts_of}
use Rattle.lard_laws.specs.WaysUnder.{Assigned, IsStarted, Lies, LiesGood, TakesFirstAssigned, Under}
use Rattle.lard_laws.specs.Ways.{good_paths}
use Rattle.lard_rules.specs.declared.stay.Progress.TheVariants as progress

-- ---- one request

module _ (home : ℕ) (path : List ℕ) where
  abbrev Later : Type 1
  Later = List Assigned → Type 0

  pub takes-lies : (q : Progress) (later : Later) (us : List Assigned) → TakesFirstAssigned home path q later us → LiesGood home path q later us
  takes-lies progress.Named later [] h = absurd h
  takes-lies progress.Named later (g ∷ gs) h = absurd h.1
  takes-lies _ later us h = h

  -- what is so of what is behind it, with more assignments
  takes-more : (p q : Progress) (a b : Later) (us ws : List Assigned) → ((n : ℕ) → IsStarted home n p → IsStarted home n q) → ((gs : List Assigned) → a gs → b (gs ++ ws)) → TakesFirstAssigned home path p a us → TakesFirstAssigned home path q b (us ++ ws)
  takes-more p q a b [] ws w f h = absurd h
  takes-more p q a b (g ∷ gs) ws w f h = (h.0, w g.1 h.1, f gs h.2)

-- ---- one batch behind another

module _ (files : FilesAt) (home : ℕ) where
  and-append : (o : Option (List ℕ)) (xs ys : List (List ℕ)) → and_path o (xs ++ ys) ≡ and_path o xs ++ ys
  and-append None xs ys = refl
  and-append (Some path) xs ys = refl

  pub named-append : (xs ys : List Entry) → named_paths files (xs ++ ys) ≡ named_paths files xs ++ named_paths files ys
  named-append [] ys = refl
  named-append (e ∷ xs) ys = ap (and_path (named_path files e)) (named-append xs ys) ∙ and-append (named_path files e) (named_paths files xs) (named_paths files ys)

  pub none-behind : (o : Option (List ℕ)) (paths : List (List ℕ)) → and_path o paths ≡ [] → paths ≡ []
  none-behind None paths e = e
  none-behind (Some path) paths e = let no : path ∷ paths ≡ [] = e in absurd cc

  none-first : (o : Option (List ℕ)) (path : List ℕ) (paths : List (List ℕ)) → o ≡ Some path → and_path o paths ≡ [] → ⊥
  none-first o path paths e none = let no : path ∷ paths ≡ [] = sym (ap (λ (p : Option (List ℕ)). and_path p paths) e) ∙ none in cc

  -- Where the first has none that waits for its node, or the second has no assignment.
  pub under-append : (xs ys : List Entry) (us ws : List Assigned) → (named_paths files xs ≡ []) ⊎ (ws ≡ []) → Under files home xs us → Under files home ys ws → Under files home (xs ++ ys) (us ++ ws)
  under-append [] ys us ws c h k = subst (λ (l : List Assigned). Under files home ys (l ++ ws)) (sym h) k
  under-append (e ∷ xs) ys us ws c h k = go (λ gs a. under-append xs ys gs ws c_later a k) e.progress refl (good_path files e.verdict) refl h where
    All : List Assigned → Type 0
    All gs = Under files home (xs ++ ys) gs

    c_later : (named_paths files xs ≡ []) ⊎ (ws ≡ [])
    c_later = ⊎_elim (λ (n : named_paths files (e ∷ xs) ≡ []). inl (none-behind (named_path files e) (named_paths files xs) n)) (λ (n : ws ≡ []). inr n) c

    on : (later : (gs : List Assigned) → Under files home xs gs → All (gs ++ ws)) → (p : Progress) → e.progress ≡ p → (o : Option (List ℕ)) → good_path files e.verdict ≡ o → Lies home p (λ gs. Under files home xs gs) us o → Lies home p All (us ++ ws) o
    on later p at None none l = (l.0, later us l.1)
    on later progress.Named at (Some path) good l =
        let nothing : ws ≡ [] = ⊎_elim (λ (n : named_paths files (e ∷ xs) ≡ []). absurd (none-first (named_path files e) path (named_paths files xs) (ap (path_in files e) at ∙ good) n)) (λ (n : ws ≡ []). n) c in
        ((λ i. l.0 i ++ nothing i), subst All nothing (later [] l.1))
    on later progress.Reading at (Some path) good l = takes-more home path progress.Reading progress.Reading (λ gs. Under files home xs gs) All us ws (λ n s. s) later l
    on later (progress.Awaited from) at (Some path) good l = takes-more home path (progress.Awaited from) (progress.Awaited from) (λ gs. Under files home xs gs) All us ws (λ n s. s) later l
    on later (progress.Ready way) at (Some path) good l = takes-more home path (progress.Ready way) (progress.Ready way) (λ gs. Under files home xs gs) All us ws (λ n s. s) later l

    go : ((gs : List Assigned) → Under files home xs gs → All (gs ++ ws)) → (p : Progress) → e.progress ≡ p → (o : Option (List ℕ)) → good_path files e.verdict ≡ o → Lies home e.progress (λ gs. Under files home xs gs) us (good_path files e.verdict) → Lies home e.progress All (us ++ ws) (good_path files e.verdict)
    go later p at o good l = subst (λ (q : Progress). Lies home q All (us ++ ws) (good_path files e.verdict)) (sym at) (subst (λ (x : Option (List ℕ)). Lies home p All (us ++ ws) x) (sym good)
        (on later p at o good (subst (λ (x : Option (List ℕ)). Lies home p (λ gs. Under files home xs gs) us x) good (subst (λ (q : Progress). Lies home q (λ gs. Under files home xs gs) us (good_path files e.verdict)) at l))))

  -- ---- the paths of a batch: those that started, and those that wait for their node

  abbrev paths_of : List Assigned → List (List ℕ)
  paths_of us = map (λ a. a.0) us

  pub under-paths : (es : List Entry) (us : List Assigned) → Under files home es us → good_paths files (verdicts_of es) ≡ paths_of us ++ named_paths files es
  under-paths [] us h = ap (λ (l : List Assigned). paths_of l ++ []) (sym h)
  under-paths (e ∷ es) us h = go e.progress refl (good_path files e.verdict) refl h (λ gs a. under-paths es gs a) where
    Behind : Type 0
    Behind = (gs : List Assigned) → Under files home es gs → good_paths files (verdicts_of es) ≡ paths_of gs ++ named_paths files es

    G : List (List ℕ)
    G = good_paths files (verdicts_of es)

    N : List (List ℕ)
    N = named_paths files es

    takes : (path : List ℕ) (p : Progress) (gs : List Assigned) → path_in files e p ≡ None → TakesFirstAssigned home path p (λ l. Under files home es l) gs → Behind → path ∷ G ≡ paths_of gs ++ and_path (path_in files e p) N
    takes path p [] none t behind = absurd t
    takes path p (g ∷ gs) none t behind = (λ i. (sym t.0) i ∷ behind gs t.2 i) ∙ ap (λ (o : Option (List ℕ)). g.0 ∷ (paths_of gs ++ and_path o N)) (sym none)

    on : (p : Progress) → (o : Option (List ℕ)) → good_path files e.verdict ≡ o → Lies home p (λ l. Under files home es l) us o → Behind → and_path o G ≡ paths_of us ++ and_path (path_in files e p) N
    on p None none l behind = behind us l.1 ∙ ap (λ (q : Progress). paths_of us ++ and_path (path_in files e q) N) (sym l.0)
    on progress.Named (Some path) good l behind =
        ap (λ (g : List (List ℕ)). path ∷ g) (behind [] l.1) ∙ (λ i. paths_of (sym l.0 i) ++ and_path (sym good i) N)
    on progress.Reading (Some path) good l behind = takes path progress.Reading us refl l behind
    on (progress.Awaited from) (Some path) good l behind = takes path (progress.Awaited from) us refl l behind
    on (progress.Ready way) (Some path) good l behind = takes path (progress.Ready way) us refl l behind

    go : (p : Progress) → e.progress ≡ p → (o : Option (List ℕ)) → good_path files e.verdict ≡ o → Lies home e.progress (λ l. Under files home es l) us (good_path files e.verdict) → Behind
        → and_path (good_path files e.verdict) G ≡ paths_of us ++ and_path (path_in files e e.progress) N
    go p at o good l behind =
        ap (λ (x : Option (List ℕ)). and_path x G) good
        ∙ on p o good (subst (λ (x : Option (List ℕ)). Lies home p (λ gs. Under files home es gs) us x) good (subst (λ (q : Progress). Lies home q (λ gs. Under files home es gs) us (good_path files e.verdict)) at l)) behind
        ∙ ap (λ (q : Progress). paths_of us ++ and_path (path_in files e q) N) (sym at)

  -- ---- what came for one of them

  pub record KeepsStarted (f : Progress → Progress) : Type 0 where
    pub started : (n : ℕ) (p : Progress) → IsStarted home n p → IsStarted home n (f p)
    pub ready : (way : Via) → f (progress.Ready way) ≡ progress.Ready way
    pub named : f progress.Named ≡ progress.Named
    pub others : (e d : Entry) (p : Progress) → d.verdict ≡ e.verdict → path_in files d (f p) ≡ path_in files e p

  pub read-keeps : KeepsStarted read_progress
  read-keeps = record { started = started; ready = λ way. refl; named = refl; others = others } where
    started : (n : ℕ) (p : Progress) → IsStarted home n p → IsStarted home n (read_progress p)
    started n progress.Named h = h
    started n progress.Reading h = h
    started n (progress.Awaited from) h = h
    started n (progress.Ready way) h = h

    others : (e d : Entry) (p : Progress) → d.verdict ≡ e.verdict → path_in files d (read_progress p) ≡ path_in files e p
    others e d progress.Named same = ap (good_path files) same
    others e d _ same = refl

  pub come-keeps : (from : ℕ) → KeepsStarted (come_progress from)
  come-keeps from = record { started = started; ready = λ way. refl; named = refl; others = others } where
    started : (n : ℕ) (p : Progress) → IsStarted home n p → IsStarted home n (come_progress from p)
    started n progress.Named h = h
    started n progress.Reading h = h
    started n (progress.Awaited node) h = cond_both (node == from) (progress.Ready (via.Node from)) (progress.Awaited node) (IsStarted home n) (λ t. (sym (eqb-true node from t) ∙ h.0, h.1)) (λ t. h)
    started n (progress.Ready way) h = h

    others : (e d : Entry) (p : Progress) → d.verdict ≡ e.verdict → path_in files d (come_progress from p) ≡ path_in files e p
    others e d progress.Named same = ap (good_path files) same
    others e d progress.Reading same = refl
    others e d (progress.Awaited node) same = cond_both (node == from) (progress.Ready (via.Node from)) (progress.Awaited node) (λ (q : Progress). path_in files d q ≡ None) (λ t. refl) (λ t. refl)
    others e d (progress.Ready way) same = refl

  module _ (f : Progress → Progress) (keeps : KeepsStarted f) where
    lies-on : (p : Progress) (later : List Assigned → Type 0) (us : List Assigned) (o : Option (List ℕ)) → Lies home p later us o → Lies home (f p) later us o
    lies-on p later us None l = (ap f l.0 ∙ keeps.ready via.Own, l.1)
    lies-on progress.Named later us (Some path) l = subst (λ (q : Progress). LiesGood home path q later us) (sym keeps.named) l
    lies-on progress.Reading later us (Some path) l = takes-lies home path (f progress.Reading) later us (takes progress.Reading us l) where
      takes : (p : Progress) (gs : List Assigned) → TakesFirstAssigned home path p later gs → TakesFirstAssigned home path (f p) later gs
      takes p [] h = absurd h
      takes p (g ∷ gs) h = (h.0, keeps.started g.1 p h.1, h.2)
    lies-on (progress.Awaited from) later us (Some path) l = takes-lies home path (f (progress.Awaited from)) later us (takes (progress.Awaited from) us l) where
      takes : (p : Progress) (gs : List Assigned) → TakesFirstAssigned home path p later gs → TakesFirstAssigned home path (f p) later gs
      takes p [] h = absurd h
      takes p (g ∷ gs) h = (h.0, keeps.started g.1 p h.1, h.2)
    lies-on (progress.Ready way) later us (Some path) l = subst (λ (q : Progress). LiesGood home path q later us) (sym (keeps.ready way)) l

    pub came-under : (i : ℕ) (es : List Entry) (us : List Assigned) → Under files home es us → Under files home (come_on f i es) us
    came-under i [] us h = h
    came-under zero (e ∷ es) us h = lies-on e.progress (λ gs. Under files home es gs) us (good_path files e.verdict) h
    came-under (suc i) (e ∷ es) us h = lies-later e.progress (good_path files e.verdict) us (λ gs a. came-under i es gs a) h where
      takes-later : (path : List ℕ) (p : Progress) (a b : List Assigned → Type 0) (gs : List Assigned) → ((l : List Assigned) → a l → b l) → TakesFirstAssigned home path p a gs → TakesFirstAssigned home path p b gs
      takes-later path p a b [] g t = absurd t
      takes-later path p a b (x ∷ gs) g t = (t.0, t.1, g gs t.2)

      lies-later : (p : Progress) (o : Option (List ℕ)) (gs : List Assigned) → ((l : List Assigned) → Under files home es l → Under files home (come_on f i es) l) → Lies home p (λ l. Under files home es l) gs o → Lies home p (λ l. Under files home (come_on f i es) l) gs o
      lies-later p None gs g l = (l.0, g gs l.1)
      lies-later progress.Named (Some path) gs g l = (l.0, g [] l.1)
      lies-later progress.Reading (Some path) gs g l = takes-later path progress.Reading (λ l. Under files home es l) (λ l. Under files home (come_on f i es) l) gs g l
      lies-later (progress.Awaited from) (Some path) gs g l = takes-later path (progress.Awaited from) (λ l. Under files home es l) (λ l. Under files home (come_on f i es) l) gs g l
      lies-later (progress.Ready way) (Some path) gs g l = takes-later path (progress.Ready way) (λ l. Under files home es l) (λ l. Under files home (come_on f i es) l) gs g l

    pub came-named : (i : ℕ) (es : List Entry) → named_paths files (come_on f i es) ≡ named_paths files es
    came-named i [] = refl
    came-named zero (e ∷ es) = ap (λ (o : Option (List ℕ)). and_path o (named_paths files es)) (keeps.others e (record e { progress = f e.progress }) e.progress refl)
    came-named (suc i) (e ∷ es) = ap (and_path (named_path files e)) (came-named i es)
