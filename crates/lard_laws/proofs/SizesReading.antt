-- What an Ask says of its batch, while the turns of a stay go on.
use Rattle.std.proofs.Common.{◌≡◌, ◌≢◌, ◌⊎◌, ◌≤◌, ◌<◌, ◌+◌, ◌-◌, ◌^◌, ℕ, zero, suc, true, false, nat_lt, List, [], ◌∷◌, ◌++◌, map, length, min, take, drop, ◌*◌, Option, Some, None, inl, inr, ⊎_elim, refl, sym, ap, ◌∙◌, subst, arith, append_assoc, append-nil}
use Rattle.std.proofs.Math.Seq.{drop-append_seam, take-append_seam}
use Rattle.std.proofs.lemmas.Bool.{and_parts, cond_both, not-true}
use Rattle.std.proofs.lemmas.List.{drop_all, length-append, length-take, take-append-drop}
use Rattle.lard_law_view.specs.Prelude.{Asked, ControlBlock, Entry, FilesAt, IsPrefix, NodeEnv, Progress, Service, Stream, Verdict, Via, Work, and_path, answer, answered, asks_for, batch_of, blocks, bytes_used, closed_behind, closes, discarding_on, ended_at_fin, enters, enters_first, finishing, goes_on, good_path, left_by, may_read, named_path, named_paths, passed_over, path_in, progress_of, queued, queueing, read_entry, reads_batch, reads_these, serves_with, serving_consumed, started_here, state_of, until_close, verdicts, verdicts_on}
use Rattle.lard_answers.proofs.Following.{until_close-behind}
use Rattle.lard_answers.proofs.Growing.{verdicts-are, verdicts-grow}
use Rattle.lard_law_connections.proofs.BytesReading.{batch-read, read-alone}
use Rattle.lard_law_connections.proofs.BytesServing.{MayGo, So, may-go}
use Rattle.lard_law_connections.proofs.BytesWorking.{Right, Works, verdicts_of, going_so}
use Rattle.lard_laws.specs.Sizes.{batch_behind, to_assign}
use Rattle.lard_laws.specs.Ways.{good_paths}
use Rattle.lard_laws.proofs.WaysEntering.{Begun, Enters, begun-none, enters-both, here-begins, read-enter}
use Rattle.lard_laws.proofs.WaysGoods.{prefix-take}
use Rattle.lard_laws.proofs.WaysLying.{named-append}
use Rattle.lard_law_view.proofs.ReadingBytes.{IsJudged, place, read-came}
use Rattle.lard_rules.specs.declared.stay.Progress.TheVariants as progress
use Rattle.lard_rules.proofs.StayWalking.{StepIn, both-going, goes-in}

-- ---- paths of good requests

module _ (files : FilesAt) where
  and-none : (o : Option (List ℕ)) (ps : List (List ℕ)) → and_path o ps ≡ [] → (o ≡ None) × (ps ≡ [])
  and-none None ps e = (refl, e)
  and-none (Some path) ps e = let no : path ∷ ps ≡ [] = e in absurd cc

  -- one of these is for a file, behind the first t
  abbrev pub HasGoodBehind : ℕ → List Verdict → Type 0
  HasGoodBehind t vs = good_paths files (drop t vs) ≢ []

  -- where none is of more requests, none is of fewer
  none-fewer : (t n m : ℕ) (vs : List Verdict) → n ≤ m → good_paths files (drop t (take m vs)) ≡ [] → good_paths files (drop t (take n vs)) ≡ []
  none-fewer t n zero vs le e = ap (λ (i : ℕ). good_paths files (drop t (take i vs))) (let f : n ≡ 0 = omega (arith, le) in f) ∙ e
  none-fewer zero zero (suc m) vs le e = refl
  none-fewer (suc t) zero (suc m) [] le e = refl
  none-fewer (suc t) zero (suc m) (v ∷ vs) le e = refl
  none-fewer t (suc n) (suc m) [] le e = e
  none-fewer zero (suc n) (suc m) (v ∷ vs) le e =
      let both = and-none (good_path files v) (good_paths files (take m vs)) e in
      ap (λ (o : Option (List ℕ)). and_path o (good_paths files (take n vs))) both.0 ∙ none-fewer zero n m vs (omega (arith, le)) both.1
  none-fewer (suc t) (suc n) (suc m) (v ∷ vs) le e = none-fewer t n m vs (omega (arith, le)) e

  good-more : (t n m : ℕ) (vs : List Verdict) → n ≤ m → HasGoodBehind t (take n vs) → HasGoodBehind t (take m vs)
  good-more t n m vs le h e = h (none-fewer t n m vs le e)

  -- so it stays as the client writes more
  pub good-grows : (t n : ℕ) (q z : List ℕ) → HasGoodBehind t (take n (verdicts q)) → HasGoodBehind t (take n (verdicts (q ++ z)))
  good-grows t n q z h =
      let vs : List Verdict = verdicts q in
      let more : IsPrefix vs (verdicts (q ++ z)) = verdicts-grow q z in
      let front : IsPrefix (take n vs) (verdicts (q ++ z)) = (
        drop n vs ++ more.0,
        more.1 ∙ ap (λ (l : List Verdict). l ++ more.0) (sym (take-append-drop n vs)) ∙ append_assoc (take n vs) (drop n vs) more.0,
      ) in
      good-more t (length (take n vs)) n (verdicts (q ++ z)) (let size = length-take n vs in omega (arith, size))
      (subst (HasGoodBehind t) (sym (prefix-take (take n vs) (verdicts (q ++ z)) front)) h)

  -- a request as it is read is named where it is for a file
  read-named : (v : Verdict) → named_path files (read_entry files v) ≡ good_path files v
  read-named v = go (good_path files v) refl where
    go : (o : Option (List ℕ)) → good_path files v ≡ o → path_in files (record { verdict = v; progress = progress_of o }) (progress_of o) ≡ good_path files v
    go None e = sym e
    go (Some path) e = refl

  pub all-named : (vs : List Verdict) → named_paths files (map (read_entry files) vs) ≡ good_paths files vs
  all-named [] = refl
  all-named (v ∷ vs) = (λ i. and_path (read-named v i) (all-named vs i))

  -- the first of these
  pub good-first : (v : Verdict) (vs : List Verdict) (path : List ℕ) → good_path files v ≡ Some path → good_paths files (v ∷ vs) ≡ path ∷ good_paths files vs
  good-first v vs path e = ap (λ (o : Option (List ℕ)). and_path o (good_paths files vs)) e

-- ---- where some were assigned before

some-assigned : (gone paths : List (List ℕ)) → gone ≢ [] → to_assign gone paths ≡ paths
some-assigned [] paths h = absurd (h refl)
some-assigned (g ∷ gs) paths h = refl

none-assigned : (gone paths : List (List ℕ)) (path : List ℕ) → gone ≡ [] → to_assign gone (path ∷ paths) ≡ paths
none-assigned gone paths path e = ap (λ (l : List (List ℕ)). to_assign l (path ∷ paths)) e

-- ---- how much came, while requests are answered

got-closed : (v : Verdict) (b : ControlBlock) → (closed_behind v b).recv.got ≡ b.recv.got
got-closed v b = cond_both (closes v) (finishing (discarding_on b)) b (λ (d : ControlBlock). d.recv.got ≡ b.recv.got) (λ t. refl) (λ t. refl)

reset-closed : (v : Verdict) (b : ControlBlock) → (closed_behind v b).reset ≡ b.reset
reset-closed v b = cond_both (closes v) (finishing (discarding_on b)) b (λ (d : ControlBlock). d.reset ≡ b.reset) (λ t. refl) (λ t. refl)

-- ---- in hand

-- Of these that are complete so many were read, where u were before the turn: batches of eight were, and one more behind them.
pub record IsReadOn (u count upto all : ℕ) : Type 0 where
  pub batches : ℕ
  pub begun : u + 8 * batches ≤ count
  pub is : upto ≡ u + 8 * batches + min 8 (all - (u + 8 * batches))

-- or no batch was read yet
abbrev pub Reach : ℕ → ℕ → ℕ → ℕ → Type 0
Reach u count upto all = (upto ≡ u) ⊎ IsReadOn u count upto all

pub reach-later : (u count more upto all : ℕ) → count ≤ more → Reach u count upto all → Reach u more upto all
reach-later u count more upto all le h = ⊎_elim (λ (e : upto ≡ u). inl e) (λ (r : IsReadOn u count upto all). inr (record { batches = r.batches; begun = let b = r.begun in omega (arith, b, le); is = r.is })) h

-- where the next batch begins, if there is one
next-begins : (u n all : ℕ) → Reach u n n all → n < all → (i : ℕ) × (n ≡ u + 8 * i)
next-begins u n all h less = ⊎_elim
    (λ (e : n ≡ u). (0, (let f : n ≡ u + 8 * 0 = omega (arith, e) in f)))
    (λ (r : IsReadOn u n n all). let e = r.is in let b = r.begun in (r.batches + 1, (let f : n ≡ u + 8 * (r.batches + 1) = omega (arith, e, b, less) in f))) h

-- where u requests were read before the turn, and t were answered before the node took the connection
module _ (env : NodeEnv) (w out : Stream) (vs : List Verdict) (u t : ℕ) where
  abbrev files : FilesAt
  files = env.serve.files

  -- the requests that are complete in so many of the client's bytes
  abbrev pub whole : ℕ → List Verdict
  whole got = verdicts (take got w.bytes)

  -- An Ask says what it says of a batch that is what stands next, behind so many, of those that came. What is left of that batch is in
  -- hand, and what the Ask names is not answered.
  pub record IsAsked (k : Work) (a : Asked) : Type 0 where
    pub batches : ℕ
    pub before : ℕ
    pub begins : before ≡ u + 8 * batches
    pub answered_more : before ≤ k.service.count
    pub rest : k.service.count + length k.batch ≡ before + a.size
    pub names : a.paths ≡ named_paths files k.batch
    pub some : a.paths ≢ []
    pub calm : k.service.block.reset ≡ false
    pub size_is : a.size ≡ length (batch_behind before (whole k.service.block.recv.got))
    pub paths_are : a.paths ≡ to_assign (good_paths files (drop t (take before (whole k.service.block.recv.got)))) (good_paths files (batch_behind before (whole k.service.block.recv.got)))

  abbrev pub AskSo : Work → Option Asked → Type 0
  AskSo k None = Unit {0}
  AskSo k (Some a) = IsAsked k a

  -- one of so many requests that were read since then is for a file
  abbrev pub HasGood : ℕ → Type 0
  HasGood n = HasGoodBehind files t (take n (verdicts w.bytes))

  -- So it is of the Ask in hand; one of the requests that were read is for a file, and so many were read in batches.
  pub record Fits (k : Work) : Type 0 where
    pub good : HasGood (k.service.count + length k.batch)
    pub reach : Reach u k.service.count (k.service.count + length k.batch) (length (whole k.service.block.recv.got))
    pub asked : AskSo k k.asked

  -- ---- a batch is read

  -- what came is what was answered, and the unread behind it
  came-is : (s : Service) (h : So env.serve w out vs s []) → MayGo w h.vs_now [] s → whole s.block.recv.got ≡ h.vs_now ++ verdicts s.block.recv.unread
  came-is s h may =
      let b : ControlBlock = s.block in
      let x : List ℕ = take (place b.recv) w.bytes in
      let y : List ℕ = b.recv.unread in
      let judged : IsJudged x h.vs_now = (read-alone w b h.vs_now may.read).cut may.keeps in
      ap verdicts (read-came w b.recv h.between.hears may.keeps)
      ∙ verdicts-are (x ++ y) ∙ ap until_close (judged y) ∙ until_close-behind h.vs_now (verdicts_on (blocks y)) (may.read.goes_on may.keeps) ∙ ap (λ us. h.vs_now ++ us) (sym (verdicts-are y))

  -- these verdicts are the next batch
  module _ (k : Work) (h : So env.serve w out vs k.service []) (may : MayGo w h.vs_now [] k.service) (us : List Verdict) (is : batch_of 8 k.service.block.recv.unread ≡ us) where
    abbrev got : ℕ
    got = k.service.block.recv.got

    abbrev n : ℕ
    n = k.service.count

    all-is : whole got ≡ h.vs_now ++ verdicts k.service.block.recv.unread
    all-is = came-is k.service h may

    pub gone-are : take n (whole got) ≡ h.vs_now
    gone-are = (λ i. take (h.counted i) (all-is i)) ∙ take-append_seam h.vs_now (verdicts k.service.block.recv.unread)

    pub batch-is : batch_behind n (whole got) ≡ us
    batch-is = ap (take 8) ((λ i. drop (h.counted i) (all-is i)) ∙ drop-append_seam h.vs_now (verdicts k.service.block.recv.unread)) ∙ is

    -- so many requests are in it
    size-is : length us ≡ min 8 (length (whole got) - n)
    size-is =
        let a : length us ≡ min 8 (length (verdicts k.service.block.recv.unread)) = ap length (sym is) ∙ length-take 8 (verdicts k.service.block.recv.unread) in
        let b : length (whole got) ≡ length h.vs_now + length (verdicts k.service.block.recv.unread) = ap length all-is ∙ length-append h.vs_now (verdicts k.service.block.recv.unread) in
        let d = h.counted in
        omega (arith, a, b, d)

    pub some-left : 1 ≤ length us → n < length (whole got)
    some-left some = let a = size-is in omega (arith, a, some)

    -- what was answered is the first of all
    pub gone-all : take n (verdicts w.bytes) ≡ h.vs_now
    gone-all =
        let front : IsPrefix (h.vs_now ++ []) (verdicts (w.bytes ++ [])) = may.read.fronts [] in
        let whole_front : IsPrefix h.vs_now (verdicts w.bytes) = (
          [] ++ front.0,
          ap verdicts (sym (append-nil w.bytes)) ∙ front.1 ∙ append_assoc h.vs_now [] front.0,
        ) in
        ap (λ (i : ℕ). take i (verdicts w.bytes)) h.counted ∙ prefix-take h.vs_now (verdicts w.bytes) whole_front

    -- and the batch comes next of all
    pub read-all : take (n + length us) (verdicts w.bytes) ≡ h.vs_now ++ us
    read-all =
        let front : IsPrefix (h.vs_now ++ batch_of 8 k.service.block.recv.unread) (verdicts (w.bytes ++ [])) =
        (batch-read w k.service.block h.vs_now h.between.hears may.keeps may.read 8).fronts [] in
        let all : IsPrefix (h.vs_now ++ us) (verdicts w.bytes) = (front.0, ap verdicts (sym (append-nil w.bytes)) ∙ front.1 ∙ ap (λ (l : List Verdict). (h.vs_now ++ l) ++ front.0) is) in
        let size : n + length us ≡ length (h.vs_now ++ us) = (let a = h.counted in let b = length-append h.vs_now us in omega (arith, a, b)) in
        ap (λ (i : ℕ). take i (verdicts w.bytes)) size ∙ prefix-take (h.vs_now ++ us) (verdicts w.bytes) all

    reached : (all : Work) → all.service.count ≡ n → all.service.block.recv.got ≡ got → length all.batch ≡ length us → (i : ℕ) → n ≡ u + 8 * i → Reach u all.service.count (all.service.count + length all.batch) (length (whole all.service.block.recv.got))
    reached all count same size i begins = inr (record {
      batches = i;
      begun = omega (arith, count, begins);
      is =
          let a : length (whole all.service.block.recv.got) ≡ length (whole got) = ap (λ (g : ℕ). length (whole g)) same in
          let b = size-is in
          omega (arith, a, b, count, size, begins);
    })

    -- requests were entered, and an Ask names those that are to be assigned
    pub asks-fit : (all : Work) → all.service.count ≡ n → all.service.block.recv.got ≡ got → all.service.block.reset ≡ false → length all.batch ≡ length us → all.asked ≡ None
        → named_paths files all.batch ≡ to_assign (good_paths files (drop t h.vs_now)) (good_paths files us) → HasGood (n + length us) → (i : ℕ) → n ≡ u + 8 * i
        → (paths : List (List ℕ)) → named_paths files all.batch ≡ paths → Fits (asks_for env (length us) paths all)
    asks-fit all count same calm size none names good i begins [] are = record {
      good = subst HasGood (λ j. sym count j + sym size j) good;
      reach = reached all count same size i begins;
      asked = subst (AskSo all) (sym none) tt;
    }
    asks-fit all count same calm size none names good i begins (path ∷ paths) are = record {
      good = subst HasGood (λ j. sym count j + sym size j) good;
      reach = reached all count same size i begins;
      asked = record {
        batches = i;
        before = n;
        begins = begins;
        answered_more = omega (arith, count);
        rest = (λ i. count i + size i);
        names = sym are;
        some = λ e. let no : path ∷ paths ≡ [] = e in absurd cc;
        calm = calm;
        size_is = ap length (sym batch-is) ∙ ap (λ (g : ℕ). length (batch_behind n (whole g))) (sym same);
        paths_are = sym are ∙ names ∙ (λ i. to_assign (good_paths files (drop t (sym gone-are i))) (good_paths files (sym batch-is i)))
            ∙ ap (λ (g : ℕ). to_assign (good_paths files (drop t (take n (whole g)))) (good_paths files (batch_behind n (whole g)))) (sym same);
      };
    }

  -- nothing was asked yet, where nothing waits
  pub none-asked : (k : Work) (o : Option Asked) → k.asked ≡ o → k.batch ≡ [] → AskSo k o → k.asked ≡ None
  none-asked k None is none h = is
  none-asked k (Some a) is none h = absurd (h.some (h.names ∙ ap (named_paths files) none))

  may-calm : (s : Service) → may_read s ≡ true → s.block.reset ≡ false
  may-calm s may = not-true s.block.reset (and_parts _ _ may).0

  these-fit : (k : Work) → k.batch ≡ [] → may_read k.service ≡ true → Works env w out vs k → Fits k → (us : List Verdict) → batch_of 8 k.service.block.recv.unread ≡ us
      → StepIn Fits Fits (reads_these env false (bytes_used 8 k.service.block.recv.unread) k us)
  these-fit k none may works fits [] is =
      let s : Service = serving_consumed (bytes_used 8 k.service.block.recv.unread) k.service in
      let quiet : k.asked ≡ None = none-asked k k.asked refl none fits.asked in
      record {
        good = subst HasGood (ap (λ (c : ℕ). c + length k.batch) (sym (cond_both s.block.recv.fin (record s { block = finishing s.block }) s (λ (t : Service). t.count ≡ k.service.count) (λ t. refl) (λ t. refl)))) fits.good;
        reach = subst (λ (t : ℕ × ℕ). Reach u t.0 (t.0 + length k.batch) (length (whole t.1)))
            (sym (cond_both s.block.recv.fin (record s { block = finishing s.block }) s (λ (t : Service). ◌≡◌ {A = ℕ × ℕ} (t.count, t.block.recv.got) (k.service.count, k.service.block.recv.got)) (λ t. refl) (λ t. refl))) fits.reach;
        asked = subst (AskSo (record k { service = ended_at_fin s })) (sym quiet) tt;
      }
  these-fit k none may works fits (v ∷ us) is =
      let h : So env.serve w out vs k.service [] = subst (λ (es : List Entry). So env.serve w out vs k.service (verdicts_of es)) none works in
      let go : MayGo w h.vs_now [] k.service = may-go w h.vs_now [] k.service may h.reading in
      let start : Work = record k { service = serving_consumed (bytes_used 8 k.service.block.recv.unread) k.service } in
      let all : Work = enters env false (k.service.count + 1) (v ∷ us) start in
      let e : Enters start all (map (read_entry files) (v ∷ us)) = read-enter env (k.service.count + 1) (v ∷ us) start in
      let batch : all.batch ≡ map (read_entry files) (v ∷ us) = e.batch ∙ ap (λ (es : List Entry). es ++ map (read_entry files) (v ∷ us)) none in
      let quiet : k.asked ≡ None = none-asked k k.asked refl none fits.asked in
      let now : HasGood k.service.count = subst HasGood (ap (λ (es : List Entry). k.service.count + length es) none ∙ plus-none k.service.count) fits.good in
      let some : HasGoodBehind files t h.vs_now = λ f. now (ap (λ (l : List Verdict). good_paths files (drop t l)) (gone-all k h go (v ∷ us) is) ∙ f) in
      let names : named_paths files all.batch ≡ to_assign (good_paths files (drop t h.vs_now)) (good_paths files (v ∷ us)) =
      ap (named_paths files) batch ∙ all-named files (v ∷ us) ∙ sym (some-assigned (good_paths files (drop t h.vs_now)) (good_paths files (v ∷ us)) some) in
      let reach : Reach u k.service.count k.service.count (length (whole k.service.block.recv.got)) =
      subst (λ (i : ℕ). Reach u k.service.count i (length (whole k.service.block.recv.got))) (ap (λ (es : List Entry). k.service.count + length es) none ∙ plus-none k.service.count) fits.reach in
      let begun = next-begins u k.service.count (length (whole k.service.block.recv.got)) reach (some-left k h go (v ∷ us) is (omega arith)) in
      asks-fit k h go (v ∷ us) is all (ap (λ (s : Service). s.count) e.service) (ap (λ (s : Service). s.block.recv.got) e.service) (ap (λ (s : Service). s.block.reset) e.service ∙ may-calm k.service may)
      (ap length batch ∙ length-read (v ∷ us)) (e.asked ∙ quiet) names (good-more files t k.service.count (k.service.count + length (v ∷ us)) (verdicts w.bytes) (omega arith) now) begun.0 begun.1 (named_paths files all.batch) refl
    where
      plus-none : (n : ℕ) → n + 0 ≡ n
      plus-none n = omega arith

      length-read : (us : List Verdict) → length (map (read_entry files) us) ≡ length us
      length-read [] = refl
      length-read (u ∷ us) = ap suc (length-read us)

  enters-good : (i : ℕ) (v : Verdict) (us : List Verdict) (path : List ℕ) (start : Work) → good_path files v ≡ Some path → enters env true i (v ∷ us) start ≡ enters env false (i + 1) us (started_here env i path v start)
  unfolding enters
  enters-good i v us path start good = ap (λ (o : Option (List ℕ)). enters env (enters_first env i v start o).0 (i + 1) us (enters_first env i v start o).1) good

  -- the first batch of a stay, where the node took it behind what is answered: its first request is the one that was assigned
  pub first-fits : (k : Work) (h : So env.serve w out vs k.service []) → MayGo w h.vs_now [] k.service → k.batch ≡ [] → k.asked ≡ None → k.service.block.reset ≡ false → (v : Verdict) (us : List Verdict) (path : List ℕ) → batch_of 8 k.service.block.recv.unread ≡ v ∷ us
      → good_path files v ≡ Some path → k.service.count ≡ u → k.service.count ≡ t → Fits (state_of (reads_batch env true k))
  first-fits k h go none quiet calm v us path is good same_upto took = subst (λ (all : List Verdict). Fits (state_of (reads_these env true (bytes_used 8 k.service.block.recv.unread) k all))) (sym is)
      (subst (λ (u : Work). Fits (asks_for env (length (v ∷ us)) (named_paths files u.batch) u)) (sym same)
      (asks-fit k h go (v ∷ us) is all (ap (λ (s : Service). s.count) e.service) (ap (λ (s : Service). s.block.recv.got) e.service) (ap (λ (s : Service). s.block.reset) e.service ∙ calm)
      (ap length batch ∙ ap suc (length-read us)) (e.asked ∙ quiet) names now 0 (let f : k.service.count ≡ u + 8 * 0 = omega (arith, same_upto) in f) (named_paths files all.batch) refl)) where
        -- so many were answered before
        behind : length h.vs_now ≡ t
        behind = sym h.counted ∙ took

        before : good_paths files (drop t h.vs_now) ≡ []
        before = ap (good_paths files) (drop_all t h.vs_now (omega (arith, behind)))

        now : HasGood (k.service.count + length (v ∷ us))
        now f =
            let seam : drop t (h.vs_now ++ (v ∷ us)) ≡ v ∷ us = ap (λ (i : ℕ). drop i (h.vs_now ++ (v ∷ us))) (sym behind) ∙ drop-append_seam h.vs_now (v ∷ us) in
            let no : path ∷ good_paths files us ≡ [] =
            sym (good-first files v us path good) ∙ ap (good_paths files) (sym seam) ∙ ap (λ (l : List Verdict). good_paths files (drop t l)) (sym (read-all k h go (v ∷ us) is)) ∙ f in
            absurd cc

        n : ℕ
        n = k.service.count + 1

        start : Work
        start = record k { service = serving_consumed (bytes_used 8 k.service.block.recv.unread) k.service }

        one : Work
        one = started_here env n path v start

        all : Work
        all = enters env false (n + 1) us one

        same : enters env true n (v ∷ us) start ≡ all
        same = enters-good n v us path start good

        b : Begun env env.n env.n v start one
        b = here-begins env env.n n path v start

        e : Enters start all ((b.entry ∷ []) ++ map (read_entry files) us)
        e = enters-both start one all (b.entry ∷ []) (map (read_entry files) us) b.enters (read-enter env (n + 1) us one)

        batch : all.batch ≡ (b.entry ∷ []) ++ map (read_entry files) us
        batch = e.batch ∙ ap (λ (es : List Entry). es ++ ((b.entry ∷ []) ++ map (read_entry files) us)) none

        names : named_paths files all.batch ≡ to_assign (good_paths files (drop t h.vs_now)) (good_paths files (v ∷ us))
        names = ap (named_paths files) batch ∙ named-append files env.n (b.entry ∷ []) (map (read_entry files) us)
            ∙ (λ i. begun-none env env.n env.n v start one b i ++ all-named files us i)
            ∙ sym (none-assigned (good_paths files (drop t h.vs_now)) (good_paths files us) path before)
            ∙ ap (to_assign (good_paths files (drop t h.vs_now))) (sym (good-first files v us path good))

        length-read : (us : List Verdict) → length (map (read_entry files) us) ≡ length us
        length-read [] = refl
        length-read (u ∷ us) = ap suc (length-read us)

  -- ---- the first request of the batch is served

  -- of one more that is answered, or of none
  served-fits : (k : Work) (s : Service) (e : Entry) (rest : List Entry) (way : Via) → k.batch ≡ e ∷ rest → e.progress ≡ progress.Ready way → s.block.recv.got ≡ k.service.block.recv.got → s.block.reset ≡ k.service.block.reset
      → ((s.over ≡ None) × (s.count ≡ k.service.count + 1)) ⊎ ((s.over ≢ None) × (s.count ≡ k.service.count)) → Fits k → Fits (serves_with s e rest k)
  served-fits k s e rest way is at got calm count fits = go s.over refl count where
    unnamed : named_paths files k.batch ≡ named_paths files rest
    unnamed = ap (named_paths files) is ∙ ap (λ (p : Progress). and_path (path_in files e p) (named_paths files rest)) at

    ask : (es : List Entry) (o : Option Asked) → s.count + length es ≡ k.service.count + length k.batch → k.service.count ≤ s.count → named_paths files es ≡ named_paths files k.batch → AskSo k o → AskSo (record k { service = s; batch = es }) o
    ask es None sum more named h = tt
    ask es (Some a) sum more named h = record {
      batches = h.batches;
      before = h.before;
      begins = h.begins;
      answered_more = let le = h.answered_more in omega (arith, le, more);
      rest = sum ∙ h.rest;
      names = h.names ∙ sym named;
      some = h.some;
      calm = calm ∙ h.calm;
      size_is = h.size_is ∙ ap (λ (g : ℕ). length (batch_behind h.before (whole g))) (sym got);
      paths_are = h.paths_are ∙ ap (λ (g : ℕ). to_assign (good_paths files (drop t (take h.before (whole g)))) (good_paths files (batch_behind h.before (whole g)))) (sym got);
    }

    fit : (es : List Entry) → s.count + length es ≡ k.service.count + length k.batch → k.service.count ≤ s.count → named_paths files es ≡ named_paths files k.batch → Fits (record k { service = s; batch = es })
    fit es sum more named = record {
      good = subst HasGood (sym sum) fits.good;
      reach = reach-later u k.service.count s.count (s.count + length es) (length (whole s.block.recv.got)) more
          (subst (λ (t : ℕ × ℕ). Reach u k.service.count t.0 (length (whole t.1))) (λ i. (sym sum i, sym got i)) fits.reach);
      asked = ask es k.asked sum more named fits.asked;
    }

    go : (o : Option ℕ) → s.over ≡ o → ((o ≡ None) × (s.count ≡ k.service.count + 1)) ⊎ ((o ≢ None) × (s.count ≡ k.service.count)) → Fits (record k { service = s; batch = left_by o e rest })
    go None over c = ⊎_elim
        (λ (a : (None ≡ None) × (s.count ≡ k.service.count + 1)). let more = a.1 in let size : length k.batch ≡ suc (length rest) = ap length is in fit rest (omega (arith, more, size)) (omega (arith, more)) (sym unnamed))
        (λ (a : (None ≢ None) × (s.count ≡ k.service.count)). absurd (a.0 refl)) c
    go (Some total) over c = ⊎_elim
        (λ (a : (Some total ≡ None) × (s.count ≡ k.service.count + 1)). absurd (let no : Some total ≡ None = a.0 in cc))
        (λ (a : (Some total ≢ None) × (s.count ≡ k.service.count)). let same = a.1 in fit (e ∷ rest) (λ i. same i + length (sym is i)) (omega (arith, same)) (ap (named_paths files) (sym is))) c

  serves-fit : (way : Via) (e : Entry) (rest : List Entry) (k : Work) → k.batch ≡ e ∷ rest → e.progress ≡ progress.Ready way → Fits k → Fits (serves_with (answered env.serve way e.verdict k.service) e rest k)
  serves-fit way e rest k is at fits =
      let bytes : List ℕ = answer files e.verdict in
      let total : ℕ = k.service.block.send.total + length bytes in
      cond_both (nat_lt env.serve.stream total) (passed_over env.serve total k.service) (queued env.serve way e.verdict bytes k.service) (λ (s : Service). Fits (serves_with s e rest k))
      (λ t. served-fits k (passed_over env.serve total k.service) e rest way is at refl refl (inr ((λ f. let no : Some total ≡ None = f in absurd cc), refl)) fits)
      (λ t. served-fits k (queued env.serve way e.verdict bytes k.service) e rest way is at (got-closed e.verdict (queueing k.service.block bytes)) (reset-closed e.verdict (queueing k.service.block bytes)) (inl (refl, refl)) fits)

  -- ---- turn by turn

  -- it agrees, and each request of the batch is answered as it may be
  abbrev Agrees : Work → Type 0
  Agrees k = Right env w out vs k × Works env w out vs k

  pub goes-fit : env.serve.stream ≤ 2 ^ 30 → (k : Work) → Works env w out vs k → Right env w out vs k → Fits k → Fits (goes_on env k)
  goes-fit most k works right fits = (goes-in env (λ k. Agrees k × Fits k) (λ k. Agrees k × Fits k) (both-going env Agrees Fits (going_so env w out vs most) (record {
    reads = λ k none may agrees fits steps. these-fit k none may agrees.1 fits (batch_of 8 k.service.block.recv.unread) refl;
    serves = λ way e rest k may first is agrees fits. serves-fit way e rest k first is fits;
  })) k ((right, works), fits)).1
