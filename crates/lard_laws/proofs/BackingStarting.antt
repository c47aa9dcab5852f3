-- A job of a node itself is queued and read only behind what told the node where its request is assigned.
use Rattle.std.proofs.Common.{◌≡◌, ◌-◌, ℕ, zero, suc, false, List, [], ◌∷◌, ◌++◌, length, take, Option, Some, None, refl, sym, ap, ◌∙◌, subst, arith, append_assoc}
use Rattle.std.specs.Prelude.{slice_get}
use Rattle.lard_law_view.specs.Prelude.{EachMay, FilesAt, Rec, Verdict, and_path, assigned, good_path, is_touched, verdicts, wrote}
use Rattle.lard_laws.specs.BackingRequests.{IsFor, NodeIsTold, MayStart}
use Rattle.lard_laws.specs.BackingState.{MayBack}
use Rattle.lard_laws.specs.BackingTold.{AssignsFor, WasTold, files_before}
use Rattle.lard_laws.proofs.BackingAssignments.{HasAssignment}
use Rattle.lard_laws.proofs.BackingContents.{Known}
use Rattle.lard_laws.proofs.BackingFinding.{Stands, each-from, has-stands, job-queued}
use Rattle.lard_laws.proofs.BackingHeld.{Anything, Started, started-more, told-more}
use Rattle.lard_laws.proofs.BackingHitting.{MayHit}
use Rattle.lard_laws.proofs.BackingMarks.{MayMark, each-at, for-later, untouched-before, writes-on}
use Rattle.lard_law_connections.specs.StoresLaws.{MayStore}
use Rattle.lard_laws.specs.Ways.{AreAssignedInOrder, IsNextGood, MayBeAssigned, good_paths, way_marks}
use Rattle.lard_laws.proofs.WaysGoods.{get-front, wanted-grow}
use Rattle.lard_journal.specs.declared.rec.Rec.TheVariants as rec

-- ---- the path of an assignment

some-same : (a b : List ℕ) → Some a ≡ Some b → a ≡ b
some-same a b e = cc

module _ (files : FilesAt) where
  -- a request for a file is found among those, behind as many as stand before it
  good-at : (vs : List Verdict) (i : ℕ) (v : Verdict) (path : List ℕ) → slice_get vs i ≡ Some v → good_path files v ≡ Some path → slice_get (good_paths files vs) (length (good_paths files (take i vs))) ≡ Some path
  good-at [] i v path is good = let no : None ≡ Some v = is in absurd (let f : ⊥ = cc in f)
  good-at (y ∷ vs) zero v path is good =
      let same : y ≡ v = cc in
      ap (λ (o : Option (List ℕ)). slice_get (and_path o (good_paths files vs)) 0) (ap (good_path files) same ∙ good)
  good-at (y ∷ vs) (suc i) v path is good = go (good_path files y) (good-at vs i v path is good) where
    go : (o : Option (List ℕ)) → slice_get (good_paths files vs) (length (good_paths files (take i vs))) ≡ Some path → slice_get (and_path o (good_paths files vs)) (length (and_path o (good_paths files (take i vs)))) ≡ Some path
    go None h = h
    go (Some p) h = h

  for-at : (w : List ℕ) (r : ℕ) (path : List ℕ) → IsFor files w r path → slice_get (good_paths files (verdicts w)) (files_before files w r) ≡ Some path
  for-at w r path h =
      let first : h.before ≡ r - 1 = let a = h.number in omega (arith, a) in
      subst (λ (i : ℕ). slice_get (good_paths files (verdicts w)) (length (good_paths files (take i (verdicts w)))) ≡ Some path) first (good-at (verdicts w) h.before h.verdict path h.is h.good)

  -- what is assigned next is found there as the client writes on
  next-at : (J rs : List Rec) (c : ℕ) (p : List ℕ) → IsNextGood files (way_marks J c) p → slice_get (good_paths files (verdicts (wrote (J ++ rs) c))) (length (assigned J c)) ≡ Some p
  next-at J rs c p h =
      let w = writes-on J rs c in
      let g = wanted-grow files (wrote J c) w.0 in
      ap (λ (q : List ℕ). slice_get (good_paths files (verdicts q)) (length (assigned J c))) w.1 ∙ ap (λ (ps : List (List ℕ)). slice_get ps (length (assigned J c))) g.1
      ∙ get-front (good_paths files (verdicts (wrote J c))) g.0 (length (assigned J c)) p h

  -- the record that assigns it assigns the next good request
  its-path : (past : List Rec) (c node : ℕ) (path : List ℕ) (ask : Option ℕ) (its : Rec) → AssignsFor past c path node ask its → is_touched past c ≡ false → MayBeAssigned files past its → IsNextGood files (way_marks past c) path
  its-path past c node path ask (rec.AssignedFirst d r p n add remove) h u may =
      subst (IsNextGood files (way_marks past c)) h.1 (subst (λ (q : ℕ). is_touched past q ≡ false → IsNextGood files (way_marks past q) p) h.0 may u)
  its-path past c node path ask (rec.AssignedLater d r p n add size queue) h u may =
      subst (IsNextGood files (way_marks past c)) h.1 (subst (λ (q : ℕ). is_touched past q ≡ false → IsNextGood files (way_marks past q) p) h.0 may u)
  its-path past c node path ask _ h u may = absurd h

-- ---- a lawful journal

module _ (files : FilesAt) (limit : ℕ) (J : List Rec) (known : Known files limit J) (order : AreAssignedInOrder files J) where
  -- where a request started, and is for this path
  told-of : (a b : List Rec) (n c epoch r : ℕ) (path : List ℕ) → J ≡ a ++ b → is_touched a c ≡ false → IsFor files (wrote a c) r path → Started files n c epoch (Anything files n c epoch) a r → NodeIsTold files a n c r path
  told-of a b n c epoch r path is u for s =
      let h : HasAssignment files (wrote a c) s.before c r s.ask = (s.for u).1 in
      let start : a ≡ h.before ++ h.its ∷ (h.behind ++ s.later) = s.split ∙ ap (λ (l : List Rec). l ++ s.later) h.split ∙ append_assoc h.before (h.its ∷ h.behind) s.later in
      let whole : J ≡ h.before ++ h.its ∷ ((h.behind ++ s.later) ++ b) = is ∙ ap (λ (l : List Rec). l ++ b) start ∙ append_assoc h.before (h.its ∷ (h.behind ++ s.later)) b in
      let clean : is_touched h.before c ≡ false = untouched-before h.before (h.its ∷ (h.behind ++ s.later)) c (subst (λ (l : List Rec). is_touched l c ≡ false) start u) in
      let next = its-path files h.before c h.made.1 h.made.0 s.ask h.its h.assigns clean (each-at (MayBeAssigned files) J h.before ((h.behind ++ s.later) ++ b) h.its whole order) in
      let found : slice_get (good_paths files (verdicts (wrote a c))) (length (assigned h.before c)) ≡ Some h.made.0 =
      subst (λ (l : List Rec). slice_get (good_paths files (verdicts (wrote l c))) (length (assigned h.before c)) ≡ Some h.made.0) (sym start) (next-at files h.before (h.its ∷ (h.behind ++ s.later)) c h.made.0 next) in
      let same : h.made.0 ≡ path = some-same h.made.0 path (sym found ∙ ap (slice_get (good_paths files (verdicts (wrote a c)))) h.place ∙ for-at files (wrote a c) r path for) in
      record {
        epoch = epoch;
        ask = s.ask;
        node = h.made.1;
        assigned = record {
          before = h.before;
          its = h.its;
          behind = h.behind ++ s.later;
          split = start;
          assigns = subst (λ (p : List ℕ). AssignsFor h.before c p h.made.1 s.ask h.its) same h.assigns;
          place = h.place;
        };
        told = subst (λ (l : List Rec). WasTold l n c epoch s.ask) (sym s.split) (told-more s.before s.later n c epoch s.ask s.told);
      }

  -- for which path a job is
  job-for : (a b : List Rec) (n m c r : ℕ) (path : List ℕ) → J ≡ a ++ rec.Queued n m c r path ∷ b → is_touched a c ≡ false → IsFor files (wrote a c) r path
  job-for a b n m c r path is u = let may : MayBack files (way_marks a c) (rec.Queued n m c r path) = each-at (MayMark files) J a b (rec.Queued n m c r path) is known.marks c refl u in may.0

  starts-at : (a b : List Rec) (x : Rec) → J ≡ a ++ x ∷ b → MayStart files a x
  starts-at a b (rec.Queued n m c r path) is = λ u same.
      let x : Rec = rec.Queued n m c r path in
      let s = each-at (MayHit files) J a b x is known.hits u same in
      told-of a (x ∷ b) n c s.0 r path is u (job-for a b n m c r path is u) s.1
  starts-at a b (rec.Read n m c r path) is = λ u same.
      let x : Rec = rec.Read n m c r path in
      let job : Rec = rec.Queued n m c r path in
      let may : MayStore files limit a x = each-at (MayStore files limit) J a b x is known.stores in
      let q : Stands job a = has-stands job a (job-queued a n may.0 (m, c, r, path) may.2) in
      let at : J ≡ q.before ++ job ∷ (q.behind ++ x ∷ b) = is ∙ ap (λ (l : List Rec). l ++ x ∷ b) q.split ∙ append_assoc q.before (job ∷ q.behind) (x ∷ b) in
      let clean : is_touched q.before c ≡ false = untouched-before q.before (job ∷ q.behind) c (subst (λ (l : List Rec). is_touched l c ≡ false) q.split u) in
      let s = each-at (MayHit files) J q.before (q.behind ++ x ∷ b) job at known.hits clean same in
      let for : IsFor files (wrote a c) r path = subst (λ (l : List Rec). IsFor files (wrote l c) r path) (sym q.split) (for-later files q.before (job ∷ q.behind) c r path (job-for q.before (q.behind ++ x ∷ b) n m c r path at clean)) in
      told-of a (x ∷ b) n c s.0 r path is u for (subst (λ (l : List Rec). Started files n c s.0 (Anything files n c s.0) l r) (sym q.split) (started-more files n c s.0 (Anything files n c s.0) (λ path before later rs h. tt) q.before (job ∷ q.behind) r s.1))
  starts-at a b _ is = tt

  pub all-start : EachMay (MayStart files) [] J
  all-start = each-from (MayStart files) J starts-at
