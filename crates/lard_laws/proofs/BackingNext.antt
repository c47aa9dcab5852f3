-- The next request of a frozen endpoint, among all that its client wrote.
use Rattle.std.proofs.Common.{◌≡◌, ◌+◌, ℕ, true, List, [], ◌∷◌, ◌++◌, take, refl, ap, ◌∙◌, subst, append-nil}
use Rattle.std.specs.List.{slice_get}
use Rattle.lard_law_view.specs.Prelude.{ControlBlock, FilesAt, IsPrefix, Stream, Verdict, batch_of, may_freeze, verdicts}
use Rattle.lard_laws.specs.BackingRequests.{IsFor}
use Rattle.lard_law_connections.specs.BytesAgreement.{HoldsItPending}
use Rattle.lard_law_connections.proofs.BytesReading.{batch-read}
use Rattle.lard_laws.specs.WaysState.{BeginsWithRequest}
use Rattle.lard_laws.proofs.WaysGoods.{next-get}
use Rattle.lard_endpoint.proofs.Adoption.{frozen_stands}

pub next-for : (files : FilesAt) (w out : Stream) (vs : List Verdict) (b : ControlBlock) (count : ℕ) → HoldsItPending w out vs [] b count → may_freeze b ≡ true → (path : List ℕ) → BeginsWithRequest files b.recv.unread path → IsFor files w.bytes (count + 1) path
next-for files w out vs b count h frozen path next =
    let stands = frozen_stands b h.sound frozen in
    let read = batch-read w b vs h.hears stands.discarding_is h.has_read 8 in
    let fronts : IsPrefix (vs ++ next.first ∷ take 7 next.others) (verdicts w.bytes) = subst (λ (us : List Verdict). IsPrefix (vs ++ us) (verdicts w.bytes)) (ap (take 8) next.are)
    (subst (λ (q : List ℕ). IsPrefix (vs ++ batch_of 8 b.recv.unread) (verdicts q)) (append-nil w.bytes) (read.fronts [])) in
    record { before = count; number = refl; verdict = next.first; is = ap (slice_get (verdicts w.bytes)) h.counted ∙ next-get vs (take 7 next.others) (verdicts w.bytes) next.first fronts; good = next.good }
