-- The front end reads until a request is good: what it answers is the first to what the client wrote, and nothing waits.
use Rattle.std.proofs.Common.{◌≡◌, ◌≤◌, ◌+◌, ◌^◌, ℕ, zero, suc, false, List, [], ◌∷◌, length, take, drop, Option, Some, None, refl, sym, subst}
use Rattle.std.proofs.lemmas.Bool.{both_ways, cond_both}
use Rattle.lard_law_view.specs.Prelude.{ControlBlock, Done, Found, Head, Hears, More, Reading, ServeEnv, Service, Step, Stream, Verdict, answered, block_at, consuming, cut_of, ended_at_fin, front_reads, good_path, may_freeze, may_read, reading_left, reading_turn, reads_block, reads_found, runs_on, serving_consumed, targeted, verdict, with_service}
use Rattle.lard_base.specs.declared.place.Via.TheVariants.{Own}
use Rattle.lard_block.specs.declared.block.Found.TheVariants as found
use Rattle.lard_block.proofs.Division.{cuts-block}
use Rattle.lard_law_connections.specs.BytesAgreement.{HasReadPending}
use Rattle.lard_law_connections.specs.BytesTurning.{IsReading}
use Rattle.lard_law_connections.proofs.BytesReading.{read-alone}
use Rattle.lard_law_connections.proofs.BytesServing.{MayGo, So, answered-serves, consumed-serves, ended-serves, go-on, left_of, may-go}
use Rattle.lard_law_connections.proofs.BytesWays.{own-way}
use Rattle.lard_law_view.proofs.ReadingBytes.{IsJudged, begins-block, begins-long, cuts-more, next-verdict, place, read-judged}
use Rattle.lard_request.specs.declared.verdict.Code.TheVariants as code
use Rattle.lard_request.specs.declared.verdict.Verdict.TheVariants.{Fault}

module _ (w : Stream) (b : ControlBlock) (vs : List Verdict) (heard : Hears w b.recv) (keeps : b.recv.discarding ≡ false) (read : HasReadPending w b vs []) where
  judged : IsJudged (take (place b.recv) w.bytes) vs
  judged = (read-alone w b vs read).cut keeps

  -- a block is the next
  pub block-read : (skip len : ℕ) → cut_of b.recv.unread ≡ found.Block skip len → HasReadPending w (consuming b (skip + len)) vs (verdict (take len (drop skip b.recv.unread)) ∷ [])
  block-read skip len e =
      let unread = b.recv.unread in
      let v = verdict (take len (drop skip unread)) in
      record {
        cut = λ f g. read-judged w b.recv heard keeps (skip + len) vs (Head (take len (drop skip unread)) (skip + len) ∷ []) judged (cuts-block unread skip len e);
        goes_on = λ f. read.goes_on keeps;
        stops = λ f. absurd (both_ways b.recv.discarding keeps f);
        fronts = next-verdict w b.recv heard keeps vs v judged (read.goes_on keeps) (begins-block unread skip len e);
      }

  -- or a head that is too long
  pub long-read : (skip n : ℕ) → cut_of b.recv.unread ≡ found.TooLong skip → HasReadPending w (consuming b n) vs (Fault code.FieldsTooLarge ∷ [])
  long-read skip n e = record {
    cut = λ f g. absurd cc;
    goes_on = λ f. read.goes_on keeps;
    stops = λ f. absurd (both_ways b.recv.discarding keeps f);
    fronts = next-verdict w b.recv heard keeps vs (Fault code.FieldsTooLarge) judged (read.goes_on keeps) (begins-long b.recv.unread skip e);
  }

  -- or pairs that are skipped
  pairs-read : (skip : ℕ) → cut_of b.recv.unread ≡ found.More skip → HasReadPending w (consuming b skip) vs []
  pairs-read skip e = record {
    cut = λ f g. read-judged w b.recv heard keeps skip vs [] judged (cuts-more b.recv.unread skip e);
    goes_on = λ f. read.goes_on keeps;
    stops = λ f. absurd (both_ways b.recv.discarding keeps f);
    fronts = read.fronts;
  }

-- what is to be placed is not reset
abbrev pub GoesOver : Option (List ℕ) → Service → Type 0
GoesOver None s = Unit {0}
GoesOver (Some path) s = s.over ≡ None

module _ (env : ServeEnv) (w out : Stream) (vs : List Verdict) (most : env.stream ≤ 2 ^ 30) where
  abbrev pub Reads : Service → Type 0
  Reads s = So env w out vs s []

  -- while it goes on nothing is to be placed
  abbrev pub IsOn : Reading → Type 0
  IsOn x = Reads x.service × (x.target ≡ None)

  abbrev pub HasStopped : Reading → Type 0
  HasStopped x = Reads x.service × GoesOver x.target x.service

  abbrev pub ReadsSo : Step Reading → Type 0
  ReadsSo (More y) = IsOn y
  ReadsSo (Done y) = HasStopped y

  still : (x : Reading) (s : Service) → Reads s → x.target ≡ None → HasStopped (with_service x s)
  still x s h none = (h, subst (λ (o : Option (List ℕ)). GoesOver o s) (sym none) tt)

  -- what waited is answered, or nothing counts any more
  nothing-left : (s : Service) (v : Verdict) → So env w out vs s (left_of env w out vs s.over v []) → Reads s
  nothing-left s v h = record {
    out_now = h.out_now;
    vs_now = h.vs_now;
    longer = h.longer;
    says = h.says;
    counted = h.counted;
    between = h.between;
    wide = h.wide;
    noted = h.noted;
    reading = go s.over h.reading;
  } where
    go : (o : Option ℕ) → IsReading w h.vs_now (left_of env w out vs o v []) s.block s.notes o → IsReading w h.vs_now [] s.block s.notes o
    go None r = r
    go (Some total) r = r

  answers-so : (v : Verdict) → good_path env.files v ≡ None → (n : ℕ) (s : Service) (h : Reads s) → MayGo w h.vs_now [] s → HasReadPending w (consuming s.block n) h.vs_now (v ∷ []) → Reads (answered env Own v (serving_consumed n s))
  answers-so v none n s h may read =
      let t : Service = serving_consumed n s in
      let so : So env w out vs t (v ∷ []) = consumed-serves env w out vs n s (v ∷ []) h may.none read in
      nothing-left (answered env Own v t) v (answered-serves env w out vs most Own v [] t so (go-on env w out vs t (v ∷ []) so may.none may.unfinished may.keeps) (own-way env.files v none))

  targeted-so : (path : List ℕ) (x : Reading) → x.service.over ≡ None → IsOn x → HasStopped (targeted path x)
  targeted-so path x none h = cond_both (may_freeze x.service.block) (record x { target = Some path }) x HasStopped (λ t. (h.0, none)) (λ t. still x x.service h.0 h.1)

  found-so : (x : Reading) (h : IsOn x) → MayGo w h.0.vs_now [] x.service → (f : Found) → cut_of x.service.block.recv.unread ≡ f → ReadsSo (reads_found env x f)
  found-so x h may (found.More skip) e =
      let t : Service = serving_consumed skip x.service in
      let so : Reads t = consumed-serves env w out vs skip x.service [] h.0 may.none (pairs-read w x.service.block h.0.vs_now h.0.between.hears may.keeps may.read skip e) in
      still x (ended_at_fin t) (ended-serves env w out vs t so (go-on env w out vs t [] so may.none may.unfinished may.keeps)) h.1
  found-so x h may (found.Block skip len) e = by_path (good_path env.files (block_at x skip len)) refl where
    by_path : (o : Option (List ℕ)) → good_path env.files (block_at x skip len) ≡ o → ReadsSo (reads_block env x (skip + len) (block_at x skip len) o)
    by_path None none = (answers-so (block_at x skip len) none (skip + len) x.service h.0 may (block-read w x.service.block h.0.vs_now h.0.between.hears may.keeps may.read skip len e), h.1)
    by_path (Some path) good = targeted-so path x may.none h
  found-so x h may (found.TooLong skip) e =
      let all = length x.service.block.recv.unread in
      (answers-so (Fault code.FieldsTooLarge) refl all x.service h.0 may (long-read w x.service.block h.0.vs_now h.0.between.hears may.keeps may.read skip all e), h.1)

  pub turn-so : (x : Reading) → IsOn x → ReadsSo (reading_turn env x)
  turn-so x h = cond_both (may_read x.service) (reads_found env x (cut_of x.service.block.recv.unread)) (Done x) ReadsSo
      (λ may. found-so x h (may-go w h.0.vs_now [] x.service may h.0.reading) (cut_of x.service.block.recv.unread) refl)
      (λ may. still x x.service h.0 h.1)

  -- so many turns
  stops-on : (n : ℕ) (x : Reading) → IsOn x → HasStopped (runs_on n (reading_turn env) x)
  unfolding runs_on
  stops-on zero x h = still x x.service h.0 h.1
  stops-on (suc n) x h = go (reading_turn env x) (turn-so x h) (stops-on n) where
    go : (s : Step Reading) → ReadsSo s → ((y : Reading) → IsOn y → HasStopped (runs_on n (reading_turn env) y)) → HasStopped (elim s as (λ s. Reading) [ More y ↦ runs_on n (reading_turn env) y | Done y ↦ y ])
    go (More y) k later = later y k
    go (Done y) k later = k

  pub reads-so : (s : Service) → Reads s → HasStopped (front_reads env (record { service = s; target = None }))
  reads-so s h = stops-on (reading_left (record { service = s; target = None }) + 1) (record { service = s; target = None }) (h, refl)
