-- Each request of a batch is answered as it may be: what is not for a file is ready as it was read, and what is for one is ready once its
-- content came.
use Rattle.std.proofs.Common.{◌≡◌, ◌≢◌, ℕ, zero, suc, ◌+◌, ◌-◌, ◌==◌, Bool, nat_lt, List, [], ◌∷◌, Option, Some, None, refl, sym, ◌∙◌, subst}
use Rattle.std.proofs.lemmas.Bool.{cond_both}
use Rattle.lard_law_view.specs.Prelude.{Entry, FilesAt, NodeEnv, Progress, Verdict, Via, Work, answered, came_for, come_on, come_progress, entered, goes_on, good_path, left_by, progress_of, read_entry, read_progress, reads_batch, state_of, tagged}
use Rattle.lard_base.specs.declared.place.Via.TheVariants as via
use Rattle.lard_law_connections.specs.BytesAgreement.{AreOnTheWay, ComesOn}
use Rattle.lard_law_connections.specs.BytesRecords.{IsWay}
use Rattle.lard_history.proofs.Each.{Each-append}
use Rattle.lard_rules.specs.declared.stay.Progress.TheVariants as progress
use Rattle.lard_rules.proofs.StayWalking.{KeptByGoing}
use Rattle.lard_rules.proofs.StayKeeping.{KeptByStay, batch-keeps, goes-keep, EachFrom, tagged-keeps, by_going}

-- ---- ways

-- the content of a file comes by any way but the place's own
way-of : (files : FilesAt) (v : Verdict) (way : Via) → good_path files v ≢ None → (way ≡ via.Own → ⊥) → IsWay files v way
way-of files v way good other = ((λ e. absurd (other e)), (λ none. absurd (good none)))

pub own-way : (files : FilesAt) (v : Verdict) → good_path files v ≡ None → IsWay files v via.Own
own-way files v none = ((λ e. none), (λ e. refl))

some-good : (o : Option (List ℕ)) (path : List ℕ) → o ≡ Some path → o ≢ None
some-good o path e none = let no : Some path ≡ None = sym e ∙ none in cc

module _ (files : FilesAt) where
  read-on : (v : Verdict) (o : Option (List ℕ)) → good_path files v ≡ o → ComesOn files v (progress_of o)
  read-on v None e = own-way files v e
  read-on v (Some path) e = some-good (good_path files v) path e

  -- ---- what came

  pub read_progress-on : (v : Verdict) (p : Progress) → ComesOn files v p → ComesOn files v (read_progress p)
  read_progress-on v progress.Reading h = way-of files v via.Disk h (λ e. cc)
  read_progress-on v _ h = h

  pub come_progress-on : (from : ℕ) (v : Verdict) (p : Progress) → ComesOn files v p → ComesOn files v (come_progress from p)
  come_progress-on from v (progress.Awaited node) h = cond_both (node == from) (progress.Ready (via.Node from)) (progress.Awaited node) (ComesOn files v) (λ t. way-of files v (via.Node from) h (λ e. cc)) (λ t. h)
  come_progress-on from v _ h = h

  abbrev pub KeepsWay : (Progress → Progress) → Type 0
  KeepsWay f = (v : Verdict) (p : Progress) → ComesOn files v p → ComesOn files v (f p)

  come-on : (f : Progress → Progress) → KeepsWay f → (i : ℕ) (es : List Entry) → AreOnTheWay files es → AreOnTheWay files (come_on f i es)
  come-on f keeps i [] h = tt
  come-on f keeps zero (e ∷ es) h = (keeps e.verdict e.progress h.0, h.1)
  come-on f keeps (suc i) (e ∷ es) h = (h.0, come-on f keeps i es h.1)

  abbrev Right : Work → Type 0
  Right w = AreOnTheWay files w.batch

  pub came-right : (f : Progress → Progress) → KeepsWay f → (r : ℕ) (w : Work) → Right w → Right (came_for f r w)
  came-right f keeps r w h = cond_both (nat_lt w.service.count r) (record w { batch = come_on f (r - (w.service.count + 1)) w.batch }) w Right
      (λ t. come-on f keeps (r - (w.service.count + 1)) w.batch h) (λ t. h)

-- ---- turns

module _ (env : NodeEnv) where
  abbrev files : FilesAt
  files = env.serve.files

  abbrev So : Work → Type 0
  So w = AreOnTheWay files w.batch

  entered-right : (e : Entry) (w : Work) → So w → ComesOn files e.verdict e.progress → So (entered e w)
  entered-right e w h on = Each-append (λ (x : Entry). ComesOn files x.verdict x.progress) w.batch (e ∷ []) h (on, tt)

  left-right : (o : Option ℕ) (e : Entry) (rest : List Entry) → AreOnTheWay files (e ∷ rest) → AreOnTheWay files (left_by o e rest)
  left-right None e rest h = h.1
  left-right (Some total) e rest h = h

  by_ways : KeptByStay env So
  by_ways = record {
    hits = λ r path v w good is t h. entered-right (record { verdict = v; progress = progress.Ready via.Cache }) w h (way-of files v via.Cache (some-good (good_path files v) path good) (λ e. cc));
    queues = λ r path v w good is f h. entered-right (record { verdict = v; progress = progress.Reading }) w h (some-good (good_path files v) path good);
    wants = λ node r path v w good is f h. entered-right (record { verdict = v; progress = progress.Awaited node }) w h (some-good (good_path files v) path good);
    enters = λ v w h. entered-right (read_entry files v) w h (read-on files v (good_path files v) refl);
    asks = λ size path paths w e h. h;
    takes = λ used w none h. h;
    ends = λ w none h. h;
    serves = λ way e rest w may first is h. left-right (answered env.serve way e.verdict w.service).over e rest (subst (AreOnTheWay files) first h);
  }

  pub batch-right : (here : Bool) (w : Work) → w.batch ≡ [] → So w → So (state_of (reads_batch env here w))
  batch-right here w none h = batch-keeps env So by_ways here w none h

  pub going_right : KeptByGoing env So So
  going_right = by_going env So by_ways

  pub goes-right : (w : Work) → So w → So (goes_on env w)
  goes-right w h = goes-keep env So by_ways w h

  -- ---- the nodes of an Ask

  each-right : (r : ℕ) (es : List Entry) → AreOnTheWay files es → EachFrom (λ r e. ComesOn files e.verdict e.progress) r es
  each-right r [] h = tt
  each-right r (e ∷ es) h = (h.0, each-right (r + 1) es h.1)

  pub tagged-right : (nodes : List ℕ) (w : Work) → So w → So (tagged env nodes w)
  tagged-right nodes w h = tagged-keeps env So by_ways (λ r e. ComesOn files e.verdict e.progress) (λ r e x is on so. entered-right e x so on) nodes w (each-right (w.service.count + 1) w.batch h) tt
