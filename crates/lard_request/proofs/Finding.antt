-- What httparse finds in a block, and the head that the block is.
use Rattle.std.proofs.Common.{◌≡◌, ℕ, List, [], length, drop, Option, Some, None, refl, sym, ap, ◌∙◌, subst, arith, append-nil, Result, Ok, Err}
use Rattle.std.proofs.Math.ListN.{drop_of_length-le}
use Rattle.httparse.specs.declared.Error.{Error}
use Rattle.httparse.specs.declared.Status.{Status}
use Rattle.httparse.specs.declared.Status.TheVariants.{Complete, Partial}
use Rattle.httparse.specs.Outcome.{IfComplete, IsCompleteAnd}
use Rattle.httparse.specs.declared.spans.HeaderSpan.{HeaderSpan}
use Rattle.httparse.specs.declared.spans.RequestSpans.{RequestSpans}
use Rattle.httparse.specs.Grammar.{RequestHead, print_request, ReadsRequest}
use Rattle.httparse.specs.Spans.{IsRequestAt}
use Rattle.lard_request.specs.Head.{head_of}
use Rattle.lard_request.proofs.Reading.{head-sound, head-complete}

-- what holds of what was found
pub found-at : (r : Result (Status RequestSpans) Error) (parts : RequestSpans) (P : RequestSpans → Type 0) → r ≡ Ok (Complete parts) → IsCompleteAnd r P → P parts
found-at r parts P e h = subst (λ (r : Result (Status RequestSpans) Error). IsCompleteAnd r P) e h

pub complete-at : (r : Result (Status RequestSpans) Error) (parts : RequestSpans) (P : RequestSpans → Type 0) → r ≡ Ok (Complete parts) → IfComplete r P → P parts
complete-at r parts P e h = subst (λ (r : Result (Status RequestSpans) Error). IfComplete r P) e h

-- nothing was found
pub not-found : (r : Result (Status RequestSpans) Error) (P : RequestSpans → Type 0) → (r ≡ Ok Partial) → IsCompleteAnd r P → ⊥
not-found r P e h = subst (λ (r : Result (Status RequestSpans) Error). IsCompleteAnd r P) e h

pub not-read : (r : Result (Status RequestSpans) Error) (error : Error) (P : RequestSpans → Type 0) → (r ≡ Err error) → IsCompleteAnd r P → ⊥
not-read r error P e h = subst (λ (r : Result (Status RequestSpans) Error). IsCompleteAnd r P) e h

-- a head that takes all bytes is that of the block
pub head-found : (block : List ℕ) (spans : List HeaderSpan) (parts : RequestSpans) (h : RequestHead) → IsRequestAt block spans parts h → parts.len ≡ length block → head_of block ≡ Some h
head-found block spans parts h at whole =
    let none : drop parts.len block ≡ [] = drop_of_length-le block (omega (arith, whole)) in
    head-complete block h (subst (ReadsRequest block h) none at.reads)

-- and the head of the block takes all bytes
pub head-whole : (block : List ℕ) (spans : List HeaderSpan) (parts : RequestSpans) (h : RequestHead) → head_of block ≡ Some h → IsRequestAt block spans parts h → parts.len ≡ length block
head-whole block spans parts h e at = at.len ∙ ap length (sym ((head-sound block h e).1 ∙ append-nil (print_request h)))

pub head-none : (block : List ℕ) → ((h : RequestHead) → head_of block ≡ Some h → ⊥) → head_of block ≡ None
head-none block never = go (head_of block) refl where
  go : (o : Option RequestHead) → head_of block ≡ o → o ≡ None
  go None e = refl
  go (Some h) e = absurd (never h e)
