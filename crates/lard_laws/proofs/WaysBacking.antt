-- While a stay goes on, each request of its batch that is ready has what its way needs, and so has each that is served.
use Rattle.std.proofs.Common.{◌≡◌, ◌<◌, ◌+◌, ◌-◌, nat_lt, ℕ, zero, suc, Bool, List, [], ◌∷◌, ◌++◌, length, Option, Some, None, refl, sym, subst, arith}
use Rattle.std.proofs.lemmas.Bool.{cond_both, ltb-true}
use Rattle.lard_law_view.specs.Prelude.{Entry, FilesAt, NodeEnv, Progress, Rec, Service, Verdict, Via, Work, answer, answered, came_for, come_on, ended_at_fin, entered, finishing, goes_on, good_path, passed_over, progress_of, queued, read_entry, reads_batch, serves_with, state_of, tagged}
use Rattle.lard_base.specs.declared.place.Via.TheVariants as via
use Rattle.lard_history.proofs.Each.{Each, Each-append}
use Rattle.lard_journal.specs.declared.rec.Rec.TheVariants as rec
use Rattle.lard_rules.specs.declared.stay.Progress.TheVariants as progress
use Rattle.lard_rules.proofs.StayKeeping.{KeptByStay, batch-keeps, goes-keep, tagged-keeps, EachFrom}

-- B is so of a request and its way
module _ (B : ℕ → Via → Type 0) where
  abbrev pub IsBacked : ℕ → Progress → Type 0
  IsBacked r (progress.Ready way) = B r way
  IsBacked r _ = Unit {0}

  -- each of a batch, the first with number r
  abbrev pub AreBacked : ℕ → List Entry → Type 0
  AreBacked r [] = Unit {0}
  AreBacked r (e ∷ es) = IsBacked r e.progress × AreBacked (r + 1) es

  abbrev pub IsNoted : Rec → Type 0
  IsNoted (rec.Served place c r code size way) = B r way
  IsNoted _ = Unit {0}

  -- one more comes behind them
  pushed : (r at : ℕ) (es : List Entry) (e : Entry) → at ≡ r + length es → AreBacked r es → IsBacked at e.progress → AreBacked r (es ++ e ∷ [])
  pushed r at [] e is h by = (subst (λ (i : ℕ). IsBacked i e.progress) (let same : at ≡ r = omega (arith, is) in same) by, tt)
  pushed r at (y ∷ es) e is h by = (h.0, pushed (r + 1) at es e (omega (arith, is)) h.1 by)

  -- whatever its number is
  pushed-any : (r : ℕ) (es : List Entry) (e : Entry) → AreBacked r es → ((i : ℕ) → IsBacked i e.progress) → AreBacked r (es ++ e ∷ [])
  pushed-any r es e h by = pushed r (r + length es) es e refl h (by (r + length es))

  -- ---- one of them comes so far

  pub come-backed : (f : Progress → Progress) (r i at : ℕ) (es : List Entry) → r + i ≡ at → ((p : Progress) → IsBacked at p → IsBacked at (f p)) → AreBacked r es → AreBacked r (come_on f i es)
  come-backed f r i at [] is by h = tt
  come-backed f r zero at (e ∷ es) is by h =
      let same : at ≡ r = omega (arith, is) in
      (subst (λ (n : ℕ). IsBacked n (f e.progress)) same (by e.progress (subst (λ (n : ℕ). IsBacked n e.progress) (sym same) h.0)), h.1)
  come-backed f r (suc i) at (e ∷ es) is by h = (h.0, come-backed f (r + 1) i at es (omega (arith, is)) by h.1)

  -- M is so of the notes, however many come behind them
  module _ (M : List Rec → Type 0) (more : (ns : List Rec) (r : Rec) → M ns → M (ns ++ r ∷ [])) where
    abbrev pub AreNoted : List Rec → Type 0
    AreNoted ns = Each IsNoted ns × M ns

    pub record GoesBacked (w : Work) : Type 0 where
      pub batch : AreBacked (w.service.count + 1) w.batch
      pub notes : AreNoted w.service.notes

    pub came-backed : (f : Progress → Progress) (r : ℕ) (w : Work) → ((p : Progress) → IsBacked r p → IsBacked r (f p)) → GoesBacked w → GoesBacked (came_for f r w)
    came-backed f r w by h = cond_both (nat_lt w.service.count r) (record w { batch = come_on f (r - (w.service.count + 1)) w.batch }) w GoesBacked
        (λ t.
        let less : w.service.count < r = ltb-true w.service.count r t in
        record { batch = come-backed f (w.service.count + 1) (r - (w.service.count + 1)) r w.batch (omega (arith, less)) by h.batch; notes = h.notes })
        (λ t. h)

    module _ (env : NodeEnv) (owned : (r : ℕ) → B r via.Own) (cached : (r : ℕ) → B r via.Cache) where
      abbrev files : FilesAt
      files = env.serve.files

      noted-more : (ns : List Rec) (r : Rec) → AreNoted ns → IsNoted r → AreNoted (ns ++ r ∷ [])
      noted-more ns r h by = (Each-append IsNoted ns (r ∷ []) h.0 (by, tt), more ns r h.1)

      enter : (e : Entry) (w : Work) → GoesBacked w → ((i : ℕ) → IsBacked i e.progress) → GoesBacked (entered e w)
      enter e w h by = record { batch = pushed-any (w.service.count + 1) w.batch e h.batch by; notes = h.notes }

      -- ---- requests are entered

      read-by : (v : Verdict) (i : ℕ) → IsBacked i (read_entry files v).progress
      read-by v i = go (good_path files v) where
        go : (o : Option (List ℕ)) → IsBacked i (progress_of o)
        go None = owned i
        go (Some path) = tt

      served-backed : (way : Via) (e : Entry) (rest : List Entry) (w : Work) → AreNoted w.service.notes → AreBacked (w.service.count + 1) (e ∷ rest) → B (w.service.count + 1) way → GoesBacked (serves_with (answered env.serve way e.verdict w.service) e rest w)
      served-backed way e rest w noted h by =
          let bytes = answer files e.verdict in
          let total = w.service.block.send.total + length bytes in
          cond_both (nat_lt env.serve.stream total) (passed_over env.serve total w.service) (queued env.serve way e.verdict bytes w.service) (λ (s : Service). GoesBacked (serves_with s e rest w))
          (λ t. record { batch = h; notes = noted-more w.service.notes (rec.Reset env.serve.place env.serve.c total) noted tt })
          (λ t. record { batch = h.1; notes = noted-more w.service.notes (rec.Served env.serve.place env.serve.c (w.service.count + 1) _ (length bytes) way) noted by })

      ended-backed : (w : Work) → GoesBacked w → GoesBacked (record w { service = ended_at_fin w.service })
      ended-backed w h = cond_both w.service.block.recv.fin (record w.service { block = finishing w.service.block }) w.service (λ (s : Service). GoesBacked (record w { service = s }))
          (λ t. record { batch = h.batch; notes = h.notes }) (λ t. record { batch = h.batch; notes = h.notes })

      by_ways : KeptByStay env GoesBacked
      by_ways = record {
        hits = λ r path v w good is t h. record { batch = pushed-any (w.service.count + 1) w.batch (record { verdict = v; progress = progress.Ready via.Cache }) h.batch cached; notes = noted-more w.service.notes (rec.Hit env.n path) h.notes tt };
        queues = λ r path v w good is f h. record { batch = pushed-any (w.service.count + 1) w.batch (record { verdict = v; progress = progress.Reading }) h.batch (λ i. tt); notes = noted-more w.service.notes (rec.Queued env.n env.n env.serve.c r path) h.notes tt };
        wants = λ node r path v w good is f h. record { batch = pushed-any (w.service.count + 1) w.batch (record { verdict = v; progress = progress.Awaited node }) h.batch (λ i. tt); notes = h.notes };
        enters = λ v w h. enter (read_entry files v) w h (read-by v);
        asks = λ size path paths w e h. record { batch = h.batch; notes = h.notes };
        takes = λ used w none h. record { batch = h.batch; notes = h.notes };
        ends = λ w none h. ended-backed w h;
        serves = λ way e rest w may first is h. let all : AreBacked (w.service.count + 1) (e ∷ rest) = subst (AreBacked (w.service.count + 1)) first h.batch in
            served-backed way e rest w h.notes all (subst (IsBacked (w.service.count + 1)) is all.0);
      }

      pub read-backed : (here : Bool) (w : Work) → w.batch ≡ [] → GoesBacked w → GoesBacked (state_of (reads_batch env here w))
      read-backed here w none h = batch-keeps env GoesBacked by_ways here w none h

      pub goes-backed : (w : Work) → GoesBacked w → GoesBacked (goes_on env w)
      goes-backed w h = goes-keep env GoesBacked by_ways w h

      -- ---- a Tag comes

      each-backed : (r : ℕ) (es : List Entry) → AreBacked r es → EachFrom (λ r e. IsBacked r e.progress) r es
      each-backed r [] h = tt
      each-backed r (e ∷ es) h = (h.0, each-backed (r + 1) es h.1)

      pub tagged-backed : (nodes : List ℕ) (w : Work) → GoesBacked w → GoesBacked (tagged env nodes w)
      tagged-backed nodes w h = tagged-keeps env GoesBacked by_ways (λ r e. IsBacked r e.progress)
          (λ r e x is by goes. record { batch = pushed (x.service.count + 1) r x.batch e is goes.batch by; notes = goes.notes })
          nodes w (each-backed (w.service.count + 1) w.batch h.batch) (record { batch = tt; notes = h.notes })
