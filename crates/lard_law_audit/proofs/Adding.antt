-- Files that may be added to those of a run, one after another, are such as an audit may be told.
use Rattle.std.proofs.Common.{◌≡◌, ℕ, ◌+◌, ◌<◌, ◌^◌, true, List, [], ◌∷◌, ◌++◌, length, Ok, refl, sym, ◌∙◌, subst, append_assoc, append-nil}
use Rattle.std.proofs.lemmas.List.{length-map}
use Rattle.std.specs.List.{fold}
use Rattle.std.specs.Prelude.{is_some, sum_by}
use Rattle.lard_audit.specs.State.{audit_add_check}
use Rattle.lard_audit_run.specs.Reports.{MayBeAdded}
use Rattle.lard_law_audit.proofs.Files.{size-there}
use Rattle.lard_law_audit.specs.Laws.{file_lengths}
use Rattle.lard_law_view.specs.Prelude.{add_check, file_at, files_total, first_fault}
use Rattle.lard_schedule.specs.Files.{is_file_path}

sums-from : (sum : ℕ) (files : List (List ℕ × List ℕ)) → fold (λ (n : ℕ) (f : List ℕ × ℕ). n + f.1) sum (file_lengths files) ≡ fold (λ (n : ℕ) (f : List ℕ × List ℕ). n + length f.1) sum files
sums-from sum [] = refl
sums-from sum (f ∷ fs) = sums-from (sum + length f.1) fs

sums-same : (files : List (List ℕ × List ℕ)) → sum_by (λ (f : List ℕ × ℕ). f.1) (file_lengths files) ≡ files_total files
sums-same files = sums-from 0 files

-- both check the same
check-same : (files : List (List ℕ × List ℕ)) (path : List ℕ) (size : ℕ) → audit_add_check (file_lengths files) path size ≡ add_check files path size
check-same files path size =
    (λ i. first_fault (size-there files path i) (length (file_lengths files)) (sum_by (λ (f : List ℕ × ℕ). f.1) (file_lengths files)) size)
    ∙ (λ i. first_fault (is_some (file_at files path)) (length-map {B = List ℕ × ℕ} files (λ (f : List ℕ × List ℕ). (f.0, length f.1)) i) (sums-same files i) size)

-- one more, behind those that were told
told-more : (before : List (List ℕ × ℕ)) (files : List (List ℕ × List ℕ)) (path bytes : List ℕ) → MayBeAdded before (file_lengths files) → is_file_path path ≡ true → length bytes < 2 ^ 64
    → audit_add_check (before ++ file_lengths files) path (length bytes) ≡ Ok tt → MayBeAdded before (file_lengths (files ++ (path, bytes) ∷ []))
told-more before [] path bytes h fits small e = (fits, small, subst (λ (fs : List (List ℕ × ℕ)). audit_add_check fs path (length bytes) ≡ Ok tt) (append-nil before) e, tt)
told-more before (f ∷ fs) path bytes h fits small e = (
  h.0,
  h.1,
  h.2,
  told-more (before ++ (f.0, length f.1) ∷ []) fs path bytes h.3 fits small
      (subst (λ (gs : List (List ℕ × ℕ)). audit_add_check gs path (length bytes) ≡ Ok tt) (sym (append_assoc before ((f.0, length f.1) ∷ []) (file_lengths fs))) e),
)

pub added-told : (files : List (List ℕ × List ℕ)) (path bytes : List ℕ) → MayBeAdded [] (file_lengths files) → is_file_path path ≡ true → length bytes < 2 ^ 64
    → add_check files path (length bytes) ≡ Ok tt → MayBeAdded [] (file_lengths (files ++ (path, bytes) ∷ []))
added-told files path bytes h fits small e = told-more [] files path bytes h fits small (check-same files path (length bytes) ∙ e)
