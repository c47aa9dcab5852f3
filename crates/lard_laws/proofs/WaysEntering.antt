-- Requests that are entered into a batch: as they are read, and as they start at their nodes.
use Rattle.std.proofs.Common.{◌≡◌, ◌≢◌, ◌+◌, ◌==◌, ℕ, suc, Bool, true, false, List, [], ◌∷◌, ◌++◌, map, length, slice_get, Option, Some, None, inl, refl, sym, ap, ◌∙◌, subst, arith, append_assoc, append-nil, eqb-true, eq-eqb}
use Rattle.std.proofs.lemmas.Bool.{cond_both}
use Rattle.std.proofs.lemmas.List.{length-append}
use Rattle.lard_law_view.specs.Prelude.{Entry, FilesAt, NodeEnv, Progress, Rec, Service, Verdict, Work, and_path, entered, enters, good_path, named_path, named_paths, noted, path_in, progress_of, read_entry, started, started_here, started_there, starts_at, starts_named, starts_one}
use Rattle.lard_base.specs.declared.place.Via.TheVariants as via
use Rattle.lard_laws.specs.WaysState.{given_to}
use Rattle.lard_laws.specs.WaysUnder.{Assigned, IsStarted, Lies, LiesGood, TakesFirstAssigned, Under}
use Rattle.lard_laws.proofs.WaysGoods.{get-behind}
use Rattle.lard_laws.proofs.WaysLying.{named-append, takes-lies, under-append}
use Rattle.lard_laws.proofs.WaysMarking.{IsPlain}
use Rattle.lard_history.proofs.Each.{Each, Each-append}
use Rattle.lard_journal.specs.declared.rec.Rec.TheVariants as rec
use Rattle.lard_rules.specs.declared.stay.Progress.TheVariants as progress

-- ---- a batch that grows

-- These requests are entered, and nothing is noted but what the cache and the disk are told.
pub record Enters (w v : Work) (es : List Entry) : Type 0 where
  pub notes : List Rec
  pub plain : Each IsPlain notes
  pub service : v.service ≡ noted notes w.service
  pub batch : v.batch ≡ w.batch ++ es
  pub asks : v.asks ≡ w.asks
  pub asked : v.asked ≡ w.asked

noted-none : (s : Service) → s ≡ noted [] s
noted-none s = λ i. record s { notes = sym (append-nil s.notes) i }

enters-nothing : (w : Work) → Enters w w []
enters-nothing w = record { notes = []; plain = tt; service = noted-none w.service; batch = sym (append-nil w.batch); asks = refl; asked = refl }

pub enters-both : (w v u : Work) (xs ys : List Entry) → Enters w v xs → Enters v u ys → Enters w u (xs ++ ys)
enters-both w v u xs ys a b = record {
  notes = a.notes ++ b.notes;
  plain = Each-append IsPlain a.notes b.notes a.plain b.plain;
  service = b.service ∙ ap (noted b.notes) a.service ∙ ap (λ (l : List Rec). record w.service { notes = l }) (append_assoc w.service.notes a.notes b.notes);
  batch = b.batch ∙ ap (λ l. l ++ ys) a.batch ∙ append_assoc w.batch xs ys;
  asks = b.asks ∙ a.asks;
  asked = b.asked ∙ a.asked;
}

entered-one : (e : Entry) (w : Work) → Enters w (entered e w) (e ∷ [])
entered-one e w = record { notes = []; plain = tt; service = noted-none w.service; batch = refl; asks = refl; asked = refl }

-- ---- as they are read

module _ (env : NodeEnv) where
  abbrev files : FilesAt
  files = env.serve.files

  -- none has a node
  pub read-enter : (r : ℕ) (vs : List Verdict) (w : Work) → Enters w (enters env false r vs w) (map (read_entry files) vs)
  unfolding enters
  read-enter r [] w = enters-nothing w
  read-enter r (v ∷ vs) w = enters-both w (entered (read_entry files v) w) (enters env false (r + 1) vs (entered (read_entry files v) w)) (read_entry files v ∷ []) (map (read_entry files) vs)
      (entered-one (read_entry files v) w) (read-enter (r + 1) vs (entered (read_entry files v) w))

  read-lies : (home : ℕ) (later : List Assigned → Type 0) (o : Option (List ℕ)) → later [] → Lies home (progress_of o) later [] o
  read-lies home later None h = (refl, h)
  read-lies home later (Some path) h = (refl, h)

  pub read-under : (home : ℕ) (vs : List Verdict) → Under files home (map (read_entry files) vs) []
  read-under home [] = refl
  read-under home (v ∷ vs) = read-lies home (λ gs. Under files home (map (read_entry files) vs) gs) (good_path files v) (read-under home vs)

  -- ---- a request that starts

  -- one more is entered, which started at its node
  pub record Begun (home node : ℕ) (v : Verdict) (w u : Work) : Type 0 where
    pub entry : Entry
    pub verdict : entry.verdict ≡ v
    pub started : IsStarted home node entry.progress
    pub enters : Enters w u (entry ∷ [])

  pub here-begins : (home r : ℕ) (path : List ℕ) (v : Verdict) (w : Work) → Begun home home v w (started_here env r path v w)
  here-begins home r path v w = cond_both (env.cached path)
      (entered (record { verdict = v; progress = progress.Ready via.Cache }) (record w { service = noted (rec.Hit env.n path ∷ []) w.service }))
      (entered (record { verdict = v; progress = progress.Reading })
      (record w { service = noted (rec.Queued env.n env.n env.serve.c r path ∷ []) w.service; jobs = w.jobs ++ record { origin = env.n; c = env.serve.c; epoch = record { 0 = env.epoch }; r = r; path = path } ∷ [] }))
      (Begun home home v w)
      (λ t. record {
        entry = record { verdict = v; progress = progress.Ready via.Cache };
        verdict = refl;
        started = refl;
        enters = record { notes = rec.Hit env.n path ∷ []; plain = (tt, tt); service = refl; batch = refl; asks = refl; asked = refl };
      })
      (λ t. record {
        entry = record { verdict = v; progress = progress.Reading };
        verdict = refl;
        started = refl;
        enters = record { notes = rec.Queued env.n env.n env.serve.c r path ∷ []; plain = (tt, tt); service = refl; batch = refl; asks = refl; asked = refl };
      })

  differs : (a b : ℕ) → (a == b) ≡ false → a ≢ b
  differs a b e same = let no : true ≡ false = sym (eq-eqb a b same) ∙ e in cc

  started-begins : (node r : ℕ) (path : List ℕ) (v : Verdict) (w : Work) → Begun env.n node v w (started env node r path v w)
  started-begins node r path v w = cond_both (node == env.n) (started_here env r path v w) (started_there node r path v w) (Begun env.n node v w)
      (λ t. subst (λ (n : ℕ). Begun env.n n v w (started_here env r path v w)) (sym (eqb-true node env.n t)) (here-begins env.n r path v w))
      (λ t. record {
        entry = record { verdict = v; progress = progress.Awaited node };
        verdict = refl;
        started = (refl, differs node env.n t);
        enters = record { notes = []; plain = tt; service = noted-none w.service; batch = refl; asks = refl; asked = refl };
      })

  one-lies : (home : ℕ) (path : List ℕ) (node : ℕ) (p : Progress) → IsStarted home node p → LiesGood home path p (λ gs. gs ≡ []) ((path, node) ∷ [])
  one-lies home path node p h = takes-lies home path p (λ gs. gs ≡ []) ((path, node) ∷ []) (refl, h, refl)

  -- its own assignment is above it
  pub begun-under : (home node : ℕ) (v : Verdict) (path : List ℕ) (w u : Work) (b : Begun home node v w u) → good_path files v ≡ Some path → Under files home (b.entry ∷ []) ((path, node) ∷ [])
  begun-under home node v path w u b good =
      subst (Lies home b.entry.progress (λ gs. gs ≡ []) ((path, node) ∷ [])) (sym (ap (good_path files) b.verdict ∙ good)) (one-lies home path node b.entry.progress b.started)

  not-named : (e : Entry) (home node : ℕ) (p : Progress) → IsStarted home node p → path_in files e p ≡ None
  not-named e home node progress.Named h = absurd h
  not-named e home node _ h = refl

  pub begun-none : (home node : ℕ) (v : Verdict) (w u : Work) (b : Begun home node v w u) → named_paths files (b.entry ∷ []) ≡ []
  begun-none home node v w u b = ap (λ (o : Option (List ℕ)). and_path o []) (not-named b.entry home node b.entry.progress b.started)

  -- ---- the nodes of an Ask

  -- one that is not named stays as it is
  stays-as : (o : Option ℕ) (r : ℕ) (e : Entry) (w : Work) → named_path files e ≡ None → starts_one env o r e w ≡ (false, entered e w)
  stays-as None r e w none = refl
  stays-as (Some node) r e w none = ap (starts_named env node r e w) none

  -- All have started, each with an assignment above it.
  pub record AllStarted (w v : Work) (us : List Assigned) : Type 0 where
    pub es : List Entry
    pub enters : Enters w v es
    pub under : Under files env.n es us
    pub none : named_paths files es ≡ []

  -- one more in front
  more-started : (w u v : Work) (e : Entry) (g : List Assigned) (us : List Assigned) → Enters w u (e ∷ []) → Under files env.n (e ∷ []) g → named_paths files (e ∷ []) ≡ [] → AllStarted u v us → AllStarted w v (g ++ us)
  more-started w u v e g us one under none all = record {
    es = (e ∷ []) ++ all.es;
    enters = enters-both w u v (e ∷ []) all.es one all.enters;
    under = under-append files env.n (e ∷ []) all.es g us (inl none) under all.under;
    none = named-append files env.n (e ∷ []) all.es ∙ ap (λ (l : List (List ℕ)). l ++ named_paths files all.es) none ∙ all.none;
  }

  module _ (nodes : List ℕ) where
    abbrev After : Work → ℕ → ℕ → List Entry → List Assigned → Bool × Work → Type 0
    After w at r es us one = AllStarted w (elim one.0 as (λ t. Work) [
      | true ↦ starts_at env nodes (at + 1) (r + 1) es one.1
      | false ↦ starts_at env nodes at (r + 1) es one.1
    ]) us

    -- the nodes that are left go to the requests that are named, in order
    pub all-start : (before left : List ℕ) (at r : ℕ) (es : List Entry) (w : Work) (us : List Assigned) → nodes ≡ before ++ left → at ≡ length before → length left ≡ length (named_paths files es)
        → Under files env.n es us → AllStarted w (starts_at env nodes at r es w) (us ++ given_to (named_paths files es) left)
    unfolding starts_at
    all-start before left at r [] w us is at_is count h = record {
      es = [];
      enters = enters-nothing w;
      under = ap (λ (l : List Assigned). l ++ []) h;
      none = refl;
    }
    all-start before left at r (e ∷ es) w us is at_is count h =
        go e.progress refl (good_path files e.verdict) refl h (λ before left at w gs is at_is count u. all-start before left at (r + 1) es w gs is at_is count u) where
          Later : Type 0
          Later = (before left : List ℕ) (at : ℕ) (w : Work) (gs : List Assigned) → nodes ≡ before ++ left → at ≡ length before → length left ≡ length (named_paths files es) → Under files env.n es gs
              → AllStarted w (starts_at env nodes at (r + 1) es w) (gs ++ given_to (named_paths files es) left)

          Goal : Type 0
          Goal = After w at r es (us ++ given_to (named_paths files (e ∷ es)) left) (starts_one env (slice_get nodes at) r e w)

          -- it stays as it is, with these above it
          stay : named_path files e ≡ None → (g gs : List Assigned) → us ≡ g ++ gs → Under files env.n (e ∷ []) g → Under files env.n es gs → Later → Goal
          stay none g gs split one u later =
              let same : named_paths files (e ∷ es) ≡ named_paths files es = ap (λ (o : Option (List ℕ)). and_path o (named_paths files es)) none in
              let alone : named_paths files (e ∷ []) ≡ [] = ap (λ (o : Option (List ℕ)). and_path o []) none in
              let all : AllStarted (entered e w) (starts_at env nodes at (r + 1) es (entered e w)) (gs ++ given_to (named_paths files es) left) = later before left at (entered e w) gs is at_is (count ∙ ap length same) u in
              let whole : AllStarted w (starts_at env nodes at (r + 1) es (entered e w)) (g ++ (gs ++ given_to (named_paths files es) left)) =
              more-started w (entered e w) _ e g (gs ++ given_to (named_paths files es) left) (entered-one e w) one alone all in
              let is_all : g ++ (gs ++ given_to (named_paths files es) left) ≡ us ++ given_to (named_paths files (e ∷ es)) left =
              sym (append_assoc g gs (given_to (named_paths files es) left)) ∙ (λ i. sym split i ++ given_to (sym same i) left) in
              subst (λ (one : Bool × Work). After w at r es (us ++ given_to (named_paths files (e ∷ es)) left) one) (sym (stays-as (slice_get nodes at) r e w none))
              (subst (AllStarted w (starts_at env nodes at (r + 1) es (entered e w))) is_all whole)

          -- it starts at the next node
          begin : (path : List ℕ) → named_path files e ≡ Some path → good_path files e.verdict ≡ Some path → us ≡ [] → Under files env.n es [] → (rest : List ℕ) → left ≡ rest → length rest ≡ suc (length (named_paths files es)) → Later → Goal
          begin path named good none u [] left_is size later = let no : 0 ≡ suc (length (named_paths files es)) = size in absurd (omega (arith, no))
          begin path named good none u (node ∷ rest) left_is size later =
              let split : nodes ≡ before ++ node ∷ rest = is ∙ ap (λ (l : List ℕ). before ++ l) left_is in
              let got : slice_get nodes at ≡ Some node = (λ i. slice_get (split i) (at_is i)) ∙ get-behind before node rest in
              let one : starts_one env (slice_get nodes at) r e w ≡ (true, started env node r path e.verdict w) = ap (λ (o : Option ℕ). starts_one env o r e w) got ∙ ap (starts_named env node r e w) named in
              let b : Begun env.n node e.verdict w (started env node r path e.verdict w) = started-begins node r path e.verdict w in
              let u_next : Work = started env node r path e.verdict w in
              let further : nodes ≡ (before ++ node ∷ []) ++ rest = split ∙ sym (append_assoc before (node ∷ []) rest) in
              let all : AllStarted u_next (starts_at env nodes (at + 1) (r + 1) es u_next) ([] ++ given_to (named_paths files es) rest) =
              later (before ++ node ∷ []) rest (at + 1) u_next [] further (omega (arith, at_is, length-append before (node ∷ []))) (omega (arith, size)) u in
              let whole : AllStarted w (starts_at env nodes (at + 1) (r + 1) es u_next) ((path, node) ∷ given_to (named_paths files es) rest) =
              more-started w u_next _ b.entry ((path, node) ∷ []) (given_to (named_paths files es) rest) b.enters (begun-under env.n node e.verdict path w u_next b good) (begun-none env.n node e.verdict w u_next b) all in
              let names : named_paths files (e ∷ es) ≡ path ∷ named_paths files es = ap (λ (o : Option (List ℕ)). and_path o (named_paths files es)) named in
              let is_all : (path, node) ∷ given_to (named_paths files es) rest ≡ us ++ given_to (named_paths files (e ∷ es)) left = λ i. sym none i ++ given_to (sym names i) (sym left_is i) in
              subst (λ (one : Bool × Work). After w at r es (us ++ given_to (named_paths files (e ∷ es)) left) one) (sym one)
              (subst (AllStarted w (starts_at env nodes (at + 1) (r + 1) es u_next)) is_all whole)

          named-as : (p : Progress) → e.progress ≡ p → (o : Option (List ℕ)) → path_in files e p ≡ o → named_path files e ≡ o
          named-as p at o is = ap (path_in files e) at ∙ is

          -- of one that started, its own assignment is the first
          takes : (path : List ℕ) (p : Progress) → e.progress ≡ p → good_path files e.verdict ≡ Some path → path_in files e p ≡ None → (gs : List Assigned) → us ≡ gs → TakesFirstAssigned env.n path p (λ l. Under files env.n es l) gs → Later → Goal
          takes path p at good none [] split t later = absurd t
          takes path p at good none (g ∷ gs) split t later =
              stay (named-as p at None none) (g ∷ []) gs split
              (subst (λ (q : Progress). Lies env.n q (λ l. l ≡ []) (g ∷ []) (good_path files e.verdict)) (sym at) (subst (Lies env.n p (λ l. l ≡ []) (g ∷ [])) (sym good) (takes-lies env.n path p (λ l. l ≡ []) (g ∷ []) (t.0, t.1, refl))))
              t.2 later

          on : (p : Progress) → e.progress ≡ p → (o : Option (List ℕ)) → good_path files e.verdict ≡ o → Lies env.n p (λ l. Under files env.n es l) us o → Later → Goal
          on p at None none l later =
              stay (ap (path_in files e) (at ∙ l.0)) [] us refl
              (subst (λ (q : Progress). Lies env.n q (λ g. g ≡ []) [] (good_path files e.verdict)) (sym at) (subst (Lies env.n p (λ g. g ≡ []) []) (sym none) (l.0, refl))) l.1 later
          on progress.Named at (Some path) good l later =
              let named : named_path files e ≡ Some path = named-as progress.Named at (Some path) good in
              begin path named good l.0 l.1 left refl (count ∙ ap (λ (o : Option (List ℕ)). length (and_path o (named_paths files es))) named) later
          on progress.Reading at (Some path) good l later = takes path progress.Reading at good refl us refl l later
          on (progress.Awaited from) at (Some path) good l later = takes path (progress.Awaited from) at good refl us refl l later
          on (progress.Ready way) at (Some path) good l later = takes path (progress.Ready way) at good refl us refl l later

          go : (p : Progress) → e.progress ≡ p → (o : Option (List ℕ)) → good_path files e.verdict ≡ o → Lies env.n e.progress (λ l. Under files env.n es l) us (good_path files e.verdict) → Later → Goal
          go p at o good l later = on p at o good (subst (λ (x : Option (List ℕ)). Lies env.n p (λ gs. Under files env.n es gs) us x) good (subst (λ (q : Progress). Lies env.n q (λ gs. Under files env.n es gs) us (good_path files e.verdict)) at l)) later
