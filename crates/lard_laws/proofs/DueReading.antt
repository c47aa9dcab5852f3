-- What an endpoint acknowledged and did not answer: nothing where its reading has stopped; and the next request, where that is for a file.
use Rattle.std.proofs.Common.{◌≡◌, ◌≢◌, ◌<◌, ◌≤◌, ◌+◌, ◌-◌, ℕ, Bool, true, false, List, [], ◌∷◌, ◌++◌, map, length, take, drop, Option, Some, None, refl, sym, ap, ◌∙◌, subst, arith, append-nil, take_all}
use Rattle.std.proofs.lemmas.Bool.{both_ways}
use Rattle.std.specs.List.{slice_get}
use Rattle.lard_law_view.specs.Prelude.{ControlBlock, Entry, FilesAt, HasRead, HasStopped, Hears, IsPrefix, SaysAnswers, Stream, Verdict, good_path, verdict, verdicts}
use Rattle.lard_law_connections.specs.BytesAgreement.{HoldsItPending}
use Rattle.lard_law_connections.specs.Stops.{NextIsGood}
use Rattle.lard_law_connections.proofs.BytesReading.{read-alone}
use Rattle.lard_law_view.proofs.Acked.{heard_by}
use Rattle.lard_law_view.proofs.Answered.{came-answered, fewer-verdicts}
use Rattle.lard_law_view.proofs.ReadingBytes.{begins-block, next-verdict}
use Rattle.lard_laws.specs.BackingRequests.{IsFor}
use Rattle.lard_laws.proofs.QuietComplete.{stopped-held}
use Rattle.lard_laws.proofs.WaysGoods.{next-get}

-- the bytes among the symbols that were taken came
among : (w : Stream) (b : ControlBlock) → Hears w b.recv → (n : ℕ) → n ≤ heard_by b.recv → length (verdicts (take (n - 1) w.bytes)) ≤ length (verdicts (take b.recv.got w.bytes))
among w b h n le = go b.recv.fin refl le where
  go : (f : Bool) → b.recv.fin ≡ f → n ≤ 1 + b.recv.got + (elim f as (λ f. ℕ) [ true ↦ 1 | false ↦ 0 ]) → length (verdicts (take (n - 1) w.bytes)) ≤ length (verdicts (take b.recv.got w.bytes))
  go false e less = fewer-verdicts w.bytes (n - 1) b.recv.got (omega (arith, less))
  go true e less =
      let got : b.recv.got ≡ length w.bytes = (h.final e).0 in
      let fewer = fewer-verdicts w.bytes (n - 1) (b.recv.got + 1) (omega (arith, less)) in
      let all : take (b.recv.got + 1) w.bytes ≡ take b.recv.got w.bytes = take_all (b.recv.got + 1) w.bytes (omega (arith, got)) ∙ sym (take_all b.recv.got w.bytes (omega (arith, got))) in
      let same : length (verdicts (take (b.recv.got + 1) w.bytes)) ≡ length (verdicts (take b.recv.got w.bytes)) = ap (λ (bytes : List ℕ). length (verdicts bytes)) all in
      omega (arith, fewer, same)

module _ (files : FilesAt) (w out : Stream) (vs : List Verdict) (b : ControlBlock) (count : ℕ) where
  -- where reading has stopped, all that was acknowledged is answered
  pub all-served : SaysAnswers files w out vs → HoldsItPending w out vs [] b count → HasStopped b → (n : ℕ) → n ≤ heard_by b.recv → length vs < length (verdicts (take (n - 1) w.bytes)) → ⊥
  all-served says h stopped n le more =
      let answered = came-answered w out vs b count files says (stopped-held w out vs b count h stopped) in
      let came = among w b h.hears n le in
      omega (arith, answered, came, more)

  -- where the next block asks for a file, the next request is for that
  pub held-for : HoldsItPending w out vs [] b count → b.send.finished ≡ false → (next : NextIsGood files b) → IsFor files w.bytes (count + 1) next.path
  held-for h open_ next =
      let reads : HasRead w b vs = read-alone w b vs h.has_read in
      let keeps : b.recv.discarding ≡ false = kept b.recv.discarding refl in
      let v : Verdict = verdict (take next.len (drop next.skip b.recv.unread)) in
      let first : IsPrefix (vs ++ v ∷ []) (verdicts (w.bytes ++ [])) = next-verdict w b.recv h.hears keeps vs v (reads.cut keeps) (reads.goes_on keeps) (begins-block b.recv.unread next.skip next.len next.found) [] in
      let fronts : IsPrefix (vs ++ v ∷ []) (verdicts w.bytes) = subst (λ (q : List ℕ). IsPrefix (vs ++ v ∷ []) (verdicts q)) (append-nil w.bytes) first in
      record { before = count; number = refl; verdict = v; is = ap (slice_get (verdicts w.bytes)) h.counted ∙ next-get vs [] (verdicts w.bytes) v fronts; good = next.good } where
        kept : (d : Bool) → b.recv.discarding ≡ d → b.recv.discarding ≡ false
        kept true e = absurd (both_ways b.send.finished open_ (h.has_read.stops e).0)
        kept false e = e

  -- a request that was read and is not answered is the next
  pub read-for : (e : Entry) (es : List Entry) → HoldsItPending w out vs (map (λ z. z.verdict) (e ∷ es)) b count → (path : List ℕ) → good_path files e.verdict ≡ Some path → IsFor files w.bytes (count + 1) path
  read-for e es h path good =
      let later : List Verdict = map (λ z. z.verdict) es in
      let fronts : IsPrefix (vs ++ e.verdict ∷ later) (verdicts w.bytes) = subst (λ (q : List ℕ). IsPrefix (vs ++ e.verdict ∷ later) (verdicts q)) (append-nil w.bytes) (h.has_read.fronts []) in
      record { before = count; number = refl; verdict = e.verdict; is = ap (slice_get (verdicts w.bytes)) h.counted ∙ next-get vs later (verdicts w.bytes) e.verdict fronts; good = good }

-- a request for a file has its path
pub some-path : (files : FilesAt) (v : Verdict) → good_path files v ≢ None → (path : List ℕ) × (good_path files v ≡ Some path)
some-path files v some = go (good_path files v) refl where
  go : (o : Option (List ℕ)) → good_path files v ≡ o → (path : List ℕ) × (good_path files v ≡ Some path)
  go None e = absurd (some e)
  go (Some path) e = (path, e)
