-- What the front end answers until a request is to be placed is not for files, and what it leaves unread begins with that request.
use Rattle.std.proofs.Common.{◌≡◌, ◌≤◌, ◌+◌, ◌^◌, ℕ, zero, suc, cond, nat_lt, List, [], ◌∷◌, ◌++◌, length, take, Option, Some, None, refl, sym, ap, ◌∙◌, subst, arith, append-nil, length-append}
use Rattle.std.specs.List.{slice_get}
use Rattle.std.proofs.lemmas.Bool.{cond_both}
use Rattle.lard_law_view.specs.Prelude.{ControlBlock, Done, FilesAt, Found, IsPrefix, More, Reading, Received, ServeEnv, Service, Step, Stream, Verdict, and_path, answer, answer_code, answered, awaited, begins_after, block_at, bytes_taken, consuming, cut_of, ended_at_fin, ends, fresh_bytes, front_reads, good_path, may_freeze, may_read, passed_over, queued, reading_left, reading_turn, reads_block, reads_found, runs_on, serving_consumed, verdicts}
use Rattle.lard_answers.proofs.Firsts.{verdicts-block}
use Rattle.lard_answers.proofs.Growing.{verdicts-grow}
use Rattle.lard_base.specs.declared.place.Via.TheVariants.{Own}
use Rattle.lard_block.specs.declared.block.Found.TheVariants as found
use Rattle.lard_law_connections.specs.BytesAgreement.{HasReadPending}
use Rattle.lard_law_connections.proofs.BytesFrontReading.{IsOn, ReadsSo, block-read, long-read, turn-so}
use Rattle.lard_law_connections.proofs.BytesServing.{MayGo, So, may-go}
use Rattle.lard_laws.specs.WaysState.{BeginsWithRequest, IsAllAnswered, WaitsForNext}
use Rattle.lard_laws.specs.Ways.{AnswersBy, AnswersNextAt, ComesAsAssigned, WayMarks, good_paths}
use Rattle.lard_laws.proofs.WaysGoods.{good-append, next-get, prefix-take}
use Rattle.lard_laws.proofs.WaysMarking.{Rightly, marked, marked-append, rightly-append}
use Rattle.lard_rules.proofs.FrontBlocks.{KeptByTurns}
use Rattle.lard_journal.specs.declared.rec.Rec.TheVariants as rec
use Rattle.lard_request.specs.declared.verdict.Code.TheVariants as code
use Rattle.lard_request.specs.declared.verdict.Verdict.TheVariants.{Fault}

-- ---- the first of the unread bytes stays the first

begins-more : (files : FilesAt) (unread z path : List ℕ) → BeginsWithRequest files unread path → BeginsWithRequest files (unread ++ z) path
begins-more files unread z path h =
    let g = verdicts-grow unread z in
    record { first = h.first; others = h.others ++ g.0; are = g.1 ∙ ap (λ (vs : List Verdict). vs ++ g.0) h.are; good = h.good }

pub waits-more : (files : FilesAt) (unread z : List ℕ) (o : Option (List ℕ)) → WaitsForNext files unread o → WaitsForNext files (unread ++ z) o
waits-more files unread z None h = tt
waits-more files unread z (Some path) h = begins-more files unread z path h

-- whatever comes and is sent
pub waits-kept : (files : FilesAt) (o : Option (List ℕ)) → KeptByTurns (λ r s. WaitsForNext files r.unread o)
waits-kept files o = record {
  comes = λ r s seq bytes fin h.
      let all : Received = bytes_taken r (fresh_bytes r seq bytes) (ends r seq bytes fin) in
      cond_both (begins_after seq (awaited r)) r (cond r.fin r all) (λ (q : Received). WaitsForNext files q.unread o) (λ t. h) (λ t.
      cond_both r.fin r all (λ (q : Received). WaitsForNext files q.unread o) (λ u. h) (λ u.
      cond_both r.discarding r.unread (r.unread ++ fresh_bytes r seq bytes) (λ (xs : List ℕ). WaitsForNext files xs o) (λ v. h) (λ v. waits-more files r.unread (fresh_bytes r seq bytes) o h)));
  acks = λ r s ack seq wnd h. h;
  nexts = λ r s h. h;
  again = λ r s h. h;
}

-- ---- what is in hand

-- It began with these marks, and has those behind what it noted first: that it is back, or nothing.
module _ (env : ServeEnv) (begun m : WayMarks) where
  abbrev files : FilesAt
  files = env.files

  abbrev pub all_verdicts : List Verdict
  all_verdicts = verdicts m.wrote

  -- all that was assigned is answered, and nothing else for a file
  pub record Looks (s : Service) : Type 0 where
    pub noted_so : Rightly files begun s.notes
    pub told : marked begun s.notes ≡ record m { served = s.count }
    pub answered : IsAllAnswered files (record m { served = s.count })

  abbrev pub LooksAt : Reading → Type 0
  LooksAt x = Looks x.service × WaitsForNext files x.service.block.recv.unread x.target

  abbrev StepLooks : Step Reading → Type 0
  StepLooks (More y) = LooksAt y
  StepLooks (Done y) = LooksAt y

  same-looks : (s t : Service) → t.notes ≡ s.notes → t.count ≡ s.count → Looks s → Looks t
  same-looks s t notes count h = record {
    noted_so = subst (Rightly files begun) (sym notes) h.noted_so;
    told = ap (marked begun) notes ∙ h.told ∙ ap (λ (n : ℕ). record m { served = n }) (sym count);
    answered = subst (λ (n : ℕ). IsAllAnswered files (record m { served = n })) (sym count) h.answered;
  }

  -- the next request is not for a file, and is answered
  answered-looks : (v : Verdict) → good_path files v ≡ None → (n : ℕ) (s : Service) (before : List Verdict) → s.count ≡ length before → IsPrefix (before ++ v ∷ []) all_verdicts → Looks s → Looks (answered env Own v (serving_consumed n s))
  answered-looks v none n s before counted fronts h =
      let t : Service = serving_consumed n s in
      let bytes : List ℕ = answer files v in
      let total : ℕ = t.block.send.total + length bytes in
      let k : Looks t = same-looks s t refl refl h in
      let got : slice_get all_verdicts s.count ≡ Some v = ap (slice_get all_verdicts) counted ∙ next-get before [] all_verdicts v fronts in
      let first : IsPrefix before all_verdicts = (v ∷ fronts.0, fronts.1 ∙ regroup before v fronts.0) in
      let size : s.count + 1 ≡ length (before ++ v ∷ []) = omega (arith, counted, length-append before (v ∷ [])) in
      let next_is : take (s.count + 1) all_verdicts ≡ take s.count all_verdicts ++ v ∷ [] =
      ap (λ (n : ℕ). take n all_verdicts) size ∙ prefix-take (before ++ v ∷ []) all_verdicts fronts
      ∙ ap (λ (l : List Verdict). l ++ v ∷ []) (sym (ap (λ (n : ℕ). take n all_verdicts) counted ∙ prefix-take before all_verdicts first)) in
      let may : AnswersNextAt files (record m { served = s.count }) env.place Own = subst (AnswersBy files (record m { served = s.count }) env.place Own) (sym got) (as-own (good_path files v) none) in
      cond_both (nat_lt env.stream total) (passed_over env total t) (queued env Own v bytes t) Looks
      (λ e. record {
        noted_so = rightly-append files begun s.notes (rec.Reset env.place env.c total ∷ []) h.noted_so (tt, tt);
        told = marked-append begun s.notes (rec.Reset env.place env.c total ∷ []) ∙ h.told;
        answered = h.answered;
      })
      (λ e. record {
        noted_so = rightly-append files begun s.notes (rec.Served env.place env.c (s.count + 1) (answer_code files v) (length bytes) Own ∷ []) h.noted_so (subst (λ (q : WayMarks). AnswersNextAt files q env.place Own) (sym h.told) may, tt);
        told = marked-append begun s.notes (rec.Served env.place env.c (s.count + 1) (answer_code files v) (length bytes) Own ∷ []) ∙ ap (λ (q : WayMarks). record q { served = q.served + 1 }) h.told;
        answered = (
          h.answered.0
              ∙ sym (ap (good_paths files) next_is ∙ good-append files (take s.count all_verdicts) (v ∷ []) ∙ ap (λ (l : List (List ℕ)). good_paths files (take s.count all_verdicts) ++ l) (lone (good_path files v) none)
              ∙ append-nil (good_paths files (take s.count all_verdicts))),
          h.answered.1,
        );
      }) where
        regroup : (xs : List Verdict) (x : Verdict) (zs : List Verdict) → (xs ++ x ∷ []) ++ zs ≡ xs ++ x ∷ zs
        regroup [] x zs = refl
        regroup (y ∷ xs) x zs = ap (λ (l : List Verdict). y ∷ l) (regroup xs x zs)

        as-own : (o : Option (List ℕ)) → o ≡ None → ComesAsAssigned files (record m { served = s.count }) env.place Own o
        as-own o e = subst (ComesAsAssigned files (record m { served = s.count }) env.place Own) (sym e) refl

        lone : (o : Option (List ℕ)) → o ≡ None → and_path o [] ≡ []
        lone o e = ap (λ (x : Option (List ℕ)). and_path x []) e

module _ (env : ServeEnv) (begun m : WayMarks) (w out : Stream) (vs : List Verdict) (wrote : m.wrote ≡ w.bytes) (most : env.stream ≤ 2 ^ 30) where
  abbrev its_files : FilesAt
  its_files = env.files

  abbrev It : Reading → Type 0
  It x = IsOn env w out vs most x

  abbrev Its : Reading → Type 0
  Its x = LooksAt env begun m x

  abbrev StepIts : Step Reading → Type 0
  StepIts s = StepLooks env begun m s

  fronts-of : (b : ControlBlock) (before pend : List Verdict) → HasReadPending w b before pend → IsPrefix (before ++ pend) (all_verdicts env begun m)
  fronts-of b before pend read = subst (λ (q : List ℕ). IsPrefix (before ++ pend) (verdicts q)) (append-nil w.bytes ∙ sym wrote) (read.fronts [])

  waits-none : (x : Reading) → x.target ≡ None → (unread : List ℕ) → WaitsForNext its_files unread x.target
  waits-none x none unread = subst (WaitsForNext its_files unread) (sym none) tt

  -- ---- turn by turn

  ended-same : (s : Service) → ((ended_at_fin s).notes ≡ s.notes) × ((ended_at_fin s).count ≡ s.count)
  ended-same s = (cond_both s.block.recv.fin (record s { block = _ }) s (λ (t : Service). t.notes ≡ s.notes) (λ t. refl) (λ t. refl), cond_both s.block.recv.fin (record s { block = _ }) s (λ (t : Service). t.count ≡ s.count) (λ t. refl) (λ t. refl))

  found-looks : (x : Reading) (h : It x) → MayGo w h.0.vs_now [] x.service → Its x → (f : Found) → cut_of x.service.block.recv.unread ≡ f → StepIts (reads_found env x f)
  found-looks x h may k (found.More skip) e =
      let t : Service = serving_consumed skip x.service in
      let same = ended-same t in
      (same-looks env begun m x.service (ended_at_fin t) same.0 same.1 k.0, waits-none x h.1 _)
  found-looks x h may k (found.Block skip len) e = by_path (good_path its_files (block_at x skip len)) refl where
    v : Verdict
    v = block_at x skip len

    by_path : (o : Option (List ℕ)) → good_path its_files (block_at x skip len) ≡ o → StepIts (reads_block env x (skip + len) (block_at x skip len) o)
    by_path None none =
        let read = block-read w x.service.block h.0.vs_now h.0.between.hears may.keeps may.read skip len e in
        (answered-looks env begun m (block_at x skip len) none (skip + len) x.service h.0.vs_now h.0.counted (fronts-of (consuming x.service.block (skip + len)) h.0.vs_now (block_at x skip len ∷ []) read) k.0, waits-none x h.1 _)
    by_path (Some path) good = cond_both (may_freeze x.service.block) (record x { target = Some path }) x Its
        (λ t. (k.0, record { first = block_at x skip len; others = _; are = verdicts-block x.service.block.recv.unread skip len e; good = good })) (λ t. k)
  found-looks x h may k (found.TooLong skip) e =
      let all = length x.service.block.recv.unread in
      let read = long-read w x.service.block h.0.vs_now h.0.between.hears may.keeps may.read skip all e in
      (answered-looks env begun m (Fault code.FieldsTooLarge) refl all x.service h.0.vs_now h.0.counted (fronts-of (consuming x.service.block all) h.0.vs_now (Fault code.FieldsTooLarge ∷ []) read) k.0, waits-none x h.1 _)

  turn-looks : (x : Reading) → It x → Its x → StepIts (reading_turn env x)
  turn-looks x h k = cond_both (may_read x.service) (reads_found env x (cut_of x.service.block.recv.unread)) (Done x) StepIts
      (λ may. found-looks x h (may-go w h.0.vs_now [] x.service may h.0.reading) k (cut_of x.service.block.recv.unread) refl) (λ may. k)

  stops-on : (n : ℕ) (x : Reading) → It x → Its x → Its (runs_on n (reading_turn env) x)
  unfolding runs_on
  stops-on zero x h k = k
  stops-on (suc n) x h k = go (reading_turn env x) (turn-so env w out vs most x h) (turn-looks x h k) (stops-on n) where
    go : (s : Step Reading) → ReadsSo env w out vs most s → StepIts s → ((y : Reading) → It y → Its y → Its (runs_on n (reading_turn env) y)) → Its (elim s as (λ s. Reading) [ More y ↦ runs_on n (reading_turn env) y | Done y ↦ y ])
    go (More y) h k later = later y h k
    go (Done y) h k later = k

  pub reads-look : (s : Service) → So env w out vs s [] → Looks env begun m s → Its (front_reads env (record { service = s; target = None }))
  reads-look s h k = stops-on (reading_left (record { service = s; target = None }) + 1) (record { service = s; target = None }) (h, refl) (k, tt)
