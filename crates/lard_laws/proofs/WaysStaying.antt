-- While a stay goes on, its batch and its connection's assignments agree, and each response goes with its own.
use Rattle.std.proofs.Common.{◌≡◌, ◌+◌, nat_lt, ℕ, false, List, [], ◌∷◌, ◌++◌, map, length, take, Option, Some, None, inl, inr, ⊎_elim, refl, sym, ap, ◌∙◌, subst, arith, append_assoc, append-nil}
use Rattle.std.specs.List.{slice_get}
use Rattle.std.proofs.lemmas.Bool.{cond_both}
use Rattle.std.proofs.lemmas.List.{length-append, length-map, map-append}
use Rattle.lard_law_view.specs.Prelude.{Asked, Done, Entry, FilesAt, FrontRest, IsPrefix, More, Node, NodeEnv, Progress, Rec, Service, Step, Stream, Verdict, Via, Work, and_path, answer, answer_code, answered, asks_for, ended_at_fin, enters, good_path, named_path, named_paths, passed_over, path_in, queued, read_entry, reads_these, serves_with, serving_consumed, stay_after, verdicts}
use Rattle.lard_base.specs.declared.place.Via.TheVariants as via
use Rattle.lard_law_connections.specs.BytesTurning.{IsReading}
use Rattle.lard_law_connections.proofs.BytesWorking.{Works, verdicts_of}
use Rattle.lard_laws.specs.WaysState.{IsAsking, given_to}
use Rattle.lard_laws.specs.WaysUnder.{Assigned, Lies, Under}
use Rattle.lard_laws.specs.Ways.{AnswersBy, AnswersNextAt, ComesAsAssigned, WayMarks, good_paths, paths_assigned, paths_wanted}
use Rattle.lard_laws.proofs.WaysEntering.{Enters, read-enter, read-under}
use Rattle.lard_laws.proofs.WaysGoods.{get-behind, get-front, good-append, good-prefix, next-get, prefix-take}
use Rattle.lard_laws.proofs.WaysLying.{under-paths}
use Rattle.lard_laws.proofs.WaysMarking.{IsPlain, Rightly, marked, marked-append, plain-marked, plain-rightly, rightly-append}
use Rattle.lard_history.proofs.Each.{Each}
use Rattle.lard_journal.specs.declared.rec.Rec.TheVariants as rec
use Rattle.lard_rules.specs.declared.stay.Progress.TheVariants as progress
use Rattle.lard_rules.proofs.StayWalking.{StepIn}

-- the node whose turn it is, is the connection's home
pub record Home (env : NodeEnv) (m : WayMarks) : Type 0 where
  pub place : env.serve.place ≡ Node env.n
  pub home : m.home ≡ Some env.n

-- `m` is what was marked before a turn of the home, `r` what the front end keeps, and `Before` is so of the paths of an Ask that it awaits.
module _ (env : NodeEnv) (m : WayMarks) (r : FrontRest) (Before : List (List ℕ) → Type 0) where
  abbrev files : FilesAt
  files = env.serve.files

  abbrev pub all_verdicts : List Verdict
  all_verdicts = verdicts m.wrote

  -- so many were answered, and a node took the connection
  abbrev pub served_now : ℕ → WayMarks
  served_now n = record m { served = n; fresh = false }

  abbrev pub AsksFor : List (List ℕ) → Work → Type 0
  AsksFor ps k = (k.asks ≡ r.asks + 1) × (ps ≡ named_paths files k.batch)

  -- the Ask in hand names what the batch awaits, the next good requests
  abbrev pub AskIn : Work → Option Asked → Type 0
  AskIn k None = Unit {0}
  AskIn k (Some a) = (a.number ≡ r.asks + 1) × AsksFor a.paths k × IsPrefix (paths_assigned m ++ a.paths) (paths_wanted files m)

  -- What is in hand: what was noted may stand, and the assignments are of those that were answered, those that started, and those that
  -- wait for a Tag.
  pub record Goes (k : Work) : Type 0 where
    pub noted_so : Rightly files m k.service.notes
    pub told : marked m k.service.notes ≡ served_now k.service.count
    pub gone : List Assigned
    pub under : List Assigned
    pub walked : map (λ a. a.0) gone ≡ good_paths files (take k.service.count all_verdicts)
    pub lies : Under files env.n k.batch under
    pub asking : IsAsking files m r (stay_after 0 k) gone under
    pub asked : AskIn k k.asked
    pub kept : (ps : List (List ℕ)) → Before ps → AsksFor ps k

  -- ---- plain notes, and another endpoint

  plain-goes : (k : Work) (s : Service) (notes : List Rec) → Each IsPlain notes → s.notes ≡ k.service.notes ++ notes → s.count ≡ k.service.count → Goes k → Goes (record k { service = s })
  plain-goes k s notes plain ns count h = record {
    noted_so = subst (Rightly files m) (sym ns) (rightly-append files m k.service.notes notes h.noted_so (plain-rightly files (marked m k.service.notes) notes plain));
    told = ap (marked m) ns ∙ marked-append m k.service.notes notes ∙ plain-marked (marked m k.service.notes) notes plain ∙ h.told ∙ ap served_now (sym count);
    gone = h.gone;
    under = h.under;
    walked = h.walked ∙ ap (λ (n : ℕ). good_paths files (take n all_verdicts)) (sym count);
    lies = h.lies;
    asking = h.asking;
    asked = h.asked;
    kept = h.kept;
  }

  same-goes : (k : Work) (s : Service) → s.notes ≡ k.service.notes → s.count ≡ k.service.count → Goes k → Goes (record k { service = s })
  same-goes k s ns count h = plain-goes k s [] tt (ns ∙ sym (append-nil k.service.notes)) count h

  -- ---- what was answered and what waits, among all that the client wrote

  pub record Reads (k : Work) : Type 0 where
    pub before : List Verdict
    pub counted : k.service.count ≡ length before
    pub fronts : IsPrefix (before ++ verdicts_of k.batch) all_verdicts

  module _ (w out : Stream) (vs : List Verdict) (wrote : m.wrote ≡ w.bytes) where
    pub works-read : (k : Work) → Works env w out vs k → k.service.over ≡ None → Reads k
    works-read k h none = record {
      before = h.vs_now;
      counted = h.counted;
      fronts = subst (λ (q : List ℕ). IsPrefix (h.vs_now ++ verdicts_of k.batch) (verdicts q)) (append-nil w.bytes ∙ sym wrote)
          ((subst (λ (o : Option ℕ). IsReading w h.vs_now (verdicts_of k.batch) k.service.block k.service.notes o) none h.reading).fronts []);
    }

  -- ---- a batch is read

  -- nothing waits
  pub record IsIdle (k : Work) (gone under : List Assigned) : Type 0 where
    pub none : under ≡ []
    pub asks : k.asks ≡ r.asks
    pub assigned : m.assigned ≡ gone ++ under

  pub idle : (k : Work) (h : Goes k) → k.batch ≡ [] → IsIdle k h.gone h.under
  idle k h none =
      let empty : h.under ≡ [] = subst (λ (es : List Entry). Under files env.n es h.under) none h.lies in
      let names : named_paths files k.batch ≡ [] = ap (named_paths files) none in
      ⊎_elim
      (λ (a : (k.asks ≡ r.asks) × (m.assigned ≡ (h.gone ++ h.under) ++ given_to (named_paths files k.batch) r.tag)).
      record { none = empty; asks = a.0; assigned = a.1 ∙ ap (λ (ps : List (List ℕ)). (h.gone ++ h.under) ++ given_to ps r.tag) names ∙ append-nil (h.gone ++ h.under) })
      (λ (a : (k.asks ≡ r.asks + 1) × (m.assigned ≡ h.gone ++ h.under) × (named_paths files k.batch ≡ [] → ⊥)). absurd (a.2 names))
      h.asking

  not-both : (n : ℕ) → n ≡ r.asks → n ≡ r.asks + 1 → ⊥
  not-both n a b = omega (arith, a, b)

  no-ask : (k : Work) (o : Option Asked) → k.asks ≡ r.asks → AskIn k o → o ≡ None
  no-ask k None same a = refl
  no-ask k (Some q) same a = absurd (not-both k.asks same a.1.0)

  -- an Ask names those that have no node
  pub asks-go : (size : ℕ) (paths : List (List ℕ)) (k : Work) → named_paths files k.batch ≡ paths → Reads k → k.asks ≡ r.asks → k.asked ≡ None → Rightly files m k.service.notes → marked m k.service.notes ≡ served_now k.service.count
      → (gone under : List Assigned) → m.assigned ≡ gone ++ under → map (λ a. a.0) gone ≡ good_paths files (take k.service.count all_verdicts) → Under files env.n k.batch under → ((ps : List (List ℕ)) → Before ps → ⊥) → Goes (asks_for env size paths k)
  asks-go size [] k names reads same none notes told gone under assigned walked lies never = record {
    noted_so = notes;
    told = told;
    gone = gone;
    under = under;
    walked = walked;
    lies = lies;
    asking = inl (same, assigned ∙ sym (append-nil (gone ++ under)) ∙ ap (λ (ps : List (List ℕ)). (gone ++ under) ++ given_to ps r.tag) (sym names));
    asked = subst (AskIn k) (sym none) tt;
    kept = λ ps b. absurd (never ps b);
  }
  asks-go size (path ∷ paths) k names reads same none notes told gone under assigned walked lies never =
      let number : k.asks + 1 ≡ r.asks + 1 = ap (λ (n : ℕ). n + 1) same in
      let walked_to : map (λ a. a.0) gone ≡ good_paths files reads.before = walked ∙ ap (λ (n : ℕ). good_paths files (take n all_verdicts)) reads.counted
      ∙ ap (good_paths files) (prefix-take reads.before all_verdicts (verdicts_of k.batch ++ reads.fronts.0, reads.fronts.1 ∙ append_assoc reads.before (verdicts_of k.batch) reads.fronts.0)) in
      let all : good_paths files (reads.before ++ verdicts_of k.batch) ≡ paths_assigned m ++ (path ∷ paths) =
      good_append_here reads.before (verdicts_of k.batch)
      ∙ (λ i. sym walked_to i ++ under-paths files env.n k.batch under lies i)
      ∙ sym (append_assoc (map (λ a. a.0) gone) (map (λ a. a.0) under) (named_paths files k.batch))
      ∙ (λ i. sym (map-append (λ a. a.0) gone under) i ++ names i)
      ∙ ap (λ (l : List Assigned). map (λ a. a.0) l ++ (path ∷ paths)) (sym assigned) in
      record {
        noted_so = notes;
        told = told;
        gone = gone;
        under = under;
        walked = walked;
        lies = lies;
        asking = inr (number, assigned, λ e. let no : path ∷ paths ≡ [] = sym names ∙ e in cc);
        asked = (number, (number, sym names), subst (λ (ps : List (List ℕ)). IsPrefix ps (paths_wanted files m)) all (good-prefix files (reads.before ++ verdicts_of k.batch) all_verdicts reads.fronts));
        kept = λ ps b. absurd (never ps b);
      } where
        good_append_here : (xs ys : List Verdict) → good_paths files (xs ++ ys) ≡ good_paths files xs ++ good_paths files ys
        good_append_here xs ys = good-append files xs ys

  -- notes, count and endpoint as they were, but for what the cache and the disk are told
  pub entered-notes : (k u : Work) (es : List Entry) → Enters k u es → Rightly files m k.service.notes → Rightly files m u.service.notes
  entered-notes k u es e h = subst (λ (s : Service). Rightly files m s.notes) (sym e.service) (rightly-append files m k.service.notes e.notes h (plain-rightly files (marked m k.service.notes) e.notes e.plain))

  pub entered-told : (k u : Work) (es : List Entry) → Enters k u es → marked m k.service.notes ≡ served_now k.service.count → marked m u.service.notes ≡ served_now u.service.count
  entered-told k u es e h =
      ap (λ (s : Service). marked m s.notes) e.service ∙ marked-append m k.service.notes e.notes ∙ plain-marked (marked m k.service.notes) e.notes e.plain ∙ h ∙ ap (λ (s : Service). served_now s.count) (sym e.service)

  pub entered-walked : (k u : Work) (es : List Entry) (gone : List Assigned) → Enters k u es → map (λ a. a.0) gone ≡ good_paths files (take k.service.count all_verdicts) → map (λ a. a.0) gone ≡ good_paths files (take u.service.count all_verdicts)
  entered-walked k u es gone e h = h ∙ ap (λ (s : Service). good_paths files (take s.count all_verdicts)) (sym e.service)

  abbrev pub StepReads : Step Work → Type 0
  StepReads (More k) = Reads k
  StepReads (Done k) = Unit {0}

  -- what an Ask leaves is read as it was
  pub unasked : (size : ℕ) (paths : List (List ℕ)) (k : Work) → Reads (asks_for env size paths k) → Reads k
  unasked size [] k h = h
  unasked size (path ∷ paths) k h = record { before = h.before; counted = h.counted; fronts = h.fronts }

  pub these-go : (used : ℕ) (k : Work) (us : List Verdict) → k.batch ≡ [] → Goes k → StepReads (reads_these env false used k us) → StepIn Goes Goes (reads_these env false used k us)
  these-go used k [] none h reads =
      let s : Service = serving_consumed used k.service in
      same-goes k (ended_at_fin s) (cond_both s.block.recv.fin (record s { block = _ }) s (λ (t : Service). t.notes ≡ k.service.notes) (λ t. refl) (λ t. refl)) (cond_both s.block.recv.fin (record s { block = _ }) s (λ (t : Service). t.count ≡ k.service.count) (λ t. refl) (λ t. refl)) h
  these-go used k (v ∷ us) none h reads =
      let start : Work = record k { service = serving_consumed used k.service } in
      let all : Work = enters env false (k.service.count + 1) (v ∷ us) start in
      let e : Enters start all (map (read_entry files) (v ∷ us)) = read-enter env (k.service.count + 1) (v ∷ us) start in
      let i : IsIdle k h.gone h.under = idle k h none in
      let batch : all.batch ≡ map (read_entry files) (v ∷ us) = e.batch ∙ ap (λ (es : List Entry). es ++ map (read_entry files) (v ∷ us)) none in
      let same : all.asks ≡ r.asks = e.asks ∙ i.asks in
      asks-go (length (v ∷ us)) (named_paths files all.batch) all refl (unasked (length (v ∷ us)) (named_paths files all.batch) all reads) same (e.asked ∙ no-ask k k.asked i.asks h.asked)
      (entered-notes start all _ e h.noted_so) (entered-told start all _ e h.told) h.gone h.under i.assigned (entered-walked start all _ h.gone e h.walked)
      (subst (λ (es : List Entry). Under files env.n es h.under) (sym batch) (subst (Under files env.n (map (read_entry files) (v ∷ us))) (sym i.none) (read-under env env.n (v ∷ us))))
      (λ ps b. not-both k.asks i.asks (h.kept ps b).0)

  -- ---- the first request of the batch is served

  module _ (home : Home env m) where
    -- the assignment behind those that were answered
    its-own : (gone gs : List Assigned) (g : Assigned) (k : Work) → IsAsking files m r (stay_after 0 k) gone (g ∷ gs) → slice_get m.assigned (length gone) ≡ Some g
    its-own gone gs g k h = ⊎_elim
        (λ (a : (k.asks ≡ r.asks) × (m.assigned ≡ (gone ++ g ∷ gs) ++ given_to (named_paths files k.batch) r.tag)).
        ap (λ (l : List Assigned). slice_get l (length gone)) a.1 ∙ get-front (gone ++ g ∷ gs) (given_to (named_paths files k.batch) r.tag) (length gone) g (get-behind gone g gs))
        (λ (a : (k.asks ≡ r.asks + 1) × (m.assigned ≡ gone ++ g ∷ gs) × (named_paths files k.batch ≡ [] → ⊥)). ap (λ (l : List Assigned). slice_get l (length gone)) a.1 ∙ get-behind gone g gs) h

    -- the assignments move on, where what waits is the same
    asking-on : (k u : Work) (gone under more left : List Assigned) → u.asks ≡ k.asks → named_paths files u.batch ≡ named_paths files k.batch → gone ++ under ≡ more ++ left → IsAsking files m r (stay_after 0 k) gone under → IsAsking files m r (stay_after 0 u) more left
    asking-on k u gone under more left asks names same h = ⊎_elim
        (λ (a : (k.asks ≡ r.asks) × (m.assigned ≡ (gone ++ under) ++ given_to (named_paths files k.batch) r.tag)). inl (asks ∙ a.0, a.1 ∙ (λ i. same i ++ given_to (sym names i) r.tag)))
        (λ (a : (k.asks ≡ r.asks + 1) × (m.assigned ≡ gone ++ under) × (named_paths files k.batch ≡ [] → ⊥)). inr (asks ∙ a.0, a.1 ∙ same, λ e. a.2 (sym names ∙ e))) h

    -- so is the Ask
    ask-on : (k u : Work) (o : Option Asked) → u.asks ≡ k.asks → named_paths files u.batch ≡ named_paths files k.batch → AskIn k o → AskIn u o
    ask-on k u None asks names h = tt
    ask-on k u (Some a) asks names h = (h.0, (asks ∙ h.1.0, h.1.1 ∙ sym names), h.2)

    map-push : (gone : List Assigned) (g : Assigned) → map (λ a. a.0) (gone ++ g ∷ []) ≡ map (λ a. a.0) gone ++ g.0 ∷ []
    map-push gone g = map-append (λ a. a.0) gone (g ∷ [])

    module _ (k : Work) (e : Entry) (rest : List Entry) (is : k.batch ≡ e ∷ rest) (way : Via) (at : e.progress ≡ progress.Ready way) (h : Goes k) where
      abbrev bytes : List ℕ
      bytes = answer files e.verdict

      unnamed : named_path files e ≡ None
      unnamed = ap (path_in files e) at

      names : named_paths files rest ≡ named_paths files k.batch
      names = sym (ap (named_paths files) is ∙ ap (λ (o : Option (List ℕ)). and_path o (named_paths files rest)) unnamed)

      -- it would pass the stream limit: it stays where it is
      passed-goes : (total : ℕ) → Goes (serves_with (passed_over env.serve total k.service) e rest k)
      passed-goes total =
          let s : Service = passed_over env.serve total k.service in
          let g : Goes (record k { service = s }) = plain-goes k s (rec.Reset env.serve.place env.serve.c total ∷ []) (tt, tt) refl refl h in
          subst (λ (es : List Entry). Goes (record k { service = s; batch = es })) is g

      -- its assignment, and those behind it
      record Served : Type 0 where
        gone : List Assigned
        under : List Assigned
        same : h.gone ++ h.under ≡ gone ++ under
        walked : map (λ a. a.0) gone ≡ good_paths files (take k.service.count all_verdicts ++ e.verdict ∷ [])
        lies : Under files env.n rest under
        may : ComesAsAssigned files (served_now k.service.count) env.serve.place way (good_path files e.verdict)

      goods : List (List ℕ)
      goods = good_paths files (take k.service.count all_verdicts)

      push-good : (o : Option (List ℕ)) → good_path files e.verdict ≡ o → good_paths files (take k.service.count all_verdicts ++ e.verdict ∷ []) ≡ goods ++ and_path o []
      unfolding goods
      push-good o good = good-append files (take k.service.count all_verdicts) (e.verdict ∷ []) ∙ ap (λ (x : Option (List ℕ)). good_paths files (take k.service.count all_verdicts) ++ and_path x []) good

      served-as : (o : Option (List ℕ)) → good_path files e.verdict ≡ o → (us : List Assigned) → h.under ≡ us → Lies env.n (progress.Ready way) (λ gs. Under files env.n rest gs) us o → Served
      unfolding goods
      served-as None good us split l = record {
        gone = h.gone;
        under = us;
        same = ap (λ (l : List Assigned). h.gone ++ l) split;
        walked = h.walked ∙ sym (append-nil (good_paths files (take k.service.count all_verdicts))) ∙ sym (push-good None good);
        lies = l.1;
        may = subst (ComesAsAssigned files (served_now k.service.count) env.serve.place way) (sym good) (let s : progress.Ready way ≡ progress.Ready via.Own = l.0 in cc);
      }
      served-as (Some path) good [] split l = absurd l
      served-as (Some path) good (g ∷ gs) split l =
          let size : length goods ≡ length h.gone = sym (ap length h.walked) ∙ length-map h.gone (λ a. a.0) in
          record {
            gone = h.gone ++ g ∷ [];
            under = gs;
            same = ap (λ (l : List Assigned). h.gone ++ l) split ∙ sym (append_assoc h.gone (g ∷ []) gs);
            walked = map-push h.gone g ∙ (λ i. h.walked i ++ l.0 i ∷ []) ∙ sym (push-good (Some path) good);
            lies = l.2;
            may = subst (ComesAsAssigned files (served_now k.service.count) env.serve.place way) (sym good) (record {
              home = env.n;
              home_is = home.home;
              its = g;
              its_is = ap (slice_get m.assigned) size ∙ its-own h.gone gs g k (subst (IsAsking files m r (stay_after 0 k) h.gone) split h.asking);
              path_is = l.0;
              place_is = home.place;
              comes = l.1;
            });
          }

      served : Served
      served =
          let here : Under files env.n (e ∷ rest) h.under = subst (λ (es : List Entry). Under files env.n es h.under) is h.lies in
          served-as (good_path files e.verdict) refl h.under refl (subst (λ (p : Progress). Lies env.n p (λ gs. Under files env.n rest gs) h.under (good_path files e.verdict)) at here)

      queued-goes : Reads k → Goes (serves_with (queued env.serve way e.verdict bytes k.service) e rest k)
      queued-goes reads =
          let s : Service = queued env.serve way e.verdict bytes k.service in
          let u : Work = serves_with s e rest k in
          let pending : IsPrefix (reads.before ++ e.verdict ∷ verdicts_of rest) all_verdicts = subst (λ (es : List Entry). IsPrefix (reads.before ++ verdicts_of es) all_verdicts) is reads.fronts in
          let got : slice_get all_verdicts k.service.count ≡ Some e.verdict = ap (slice_get all_verdicts) reads.counted ∙ next-get reads.before (verdicts_of rest) all_verdicts e.verdict pending in
          let one : IsPrefix (reads.before ++ e.verdict ∷ []) all_verdicts = (verdicts_of rest ++ pending.0, pending.1 ∙ regroup reads.before e.verdict (verdicts_of rest) pending.0) in
          let first : IsPrefix reads.before all_verdicts = (e.verdict ∷ (verdicts_of rest ++ pending.0), pending.1 ∙ append_assoc reads.before (e.verdict ∷ verdicts_of rest) pending.0) in
          let size : k.service.count + 1 ≡ length (reads.before ++ e.verdict ∷ []) = omega (arith, reads.counted, length-append reads.before (e.verdict ∷ [])) in
          let next_is : take (k.service.count + 1) all_verdicts ≡ take k.service.count all_verdicts ++ e.verdict ∷ [] =
          ap (λ (n : ℕ). take n all_verdicts) size ∙ prefix-take (reads.before ++ e.verdict ∷ []) all_verdicts one
          ∙ ap (λ (l : List Verdict). l ++ e.verdict ∷ []) (sym (ap (λ (n : ℕ). take n all_verdicts) reads.counted ∙ prefix-take reads.before all_verdicts first)) in
          let v = served in
          let may : AnswersNextAt files (served_now k.service.count) env.serve.place way = subst (AnswersBy files (served_now k.service.count) env.serve.place way) (sym got) v.may in
          let noted_row : Rightly files (marked m k.service.notes) (rec.Served env.serve.place env.serve.c (k.service.count + 1) (answer_code files e.verdict) (length bytes) way ∷ []) =
          (subst (λ (n : WayMarks). AnswersNextAt files n env.serve.place way) (sym h.told) may, tt) in
          record {
            noted_so = rightly-append files m k.service.notes _ h.noted_so noted_row;
            told = marked-append m k.service.notes _ ∙ ap (λ (n : WayMarks). record n { served = n.served + 1 }) h.told;
            gone = v.gone;
            under = v.under;
            walked = v.walked ∙ ap (good_paths files) (sym next_is);
            lies = v.lies;
            asking = asking-on k u h.gone h.under v.gone v.under refl names v.same h.asking;
            asked = ask-on k u k.asked refl names h.asked;
            kept = λ ps b. let a = h.kept ps b in (a.0, a.1 ∙ sym names);
          } where
            regroup : (xs : List Verdict) (x : Verdict) (ys zs : List Verdict) → (xs ++ x ∷ ys) ++ zs ≡ (xs ++ x ∷ []) ++ (ys ++ zs)
            regroup [] x ys zs = refl
            regroup (y ∷ xs) x ys zs = ap (λ (l : List Verdict). y ∷ l) (regroup xs x ys zs)

      pub answered-goes : Reads k → Goes (serves_with (answered env.serve way e.verdict k.service) e rest k)
      answered-goes reads =
          let total : ℕ = k.service.block.send.total + length bytes in
          cond_both (nat_lt env.serve.stream total) (passed_over env.serve total k.service) (queued env.serve way e.verdict bytes k.service) (λ (s : Service). Goes (serves_with s e rest k))
          (λ t. passed-goes total) (λ t. queued-goes reads)
