-- The answers to bytes of which the first are cut into pieces, whatever follows them.
use Rattle.std.proofs.Common.{◌≡◌, ℕ, ◌||◌, Bool, true, false, List, [], ◌∷◌, ◌++◌, map, length, refl, sym, ap, ◌∙◌}
use Rattle.std.proofs.lemmas.Bool.{or_parts}
use Rattle.std.proofs.lemmas.List.{map-append}
use Rattle.lard_block.specs.Blocks.{Piece, Head, Long, piece_moved, blocks, Cuts}
use Rattle.lard_request.specs.declared.verdict.Verdict.{Verdict}
use Rattle.lard_request.specs.Verdict.{closes}
use Rattle.lard_answers.specs.Answers.{FilesAt, answer, piece_verdict, verdicts_on, until_close, verdicts, answers, closes_any}
use Rattle.lard_answers.proofs.Growing.{until_close-closed, until_close-open, verdicts-are, answers-are}

-- a verdict does not depend on where its block stands
pub verdicts_on-moved : (by : ℕ) (ps : List Piece) → verdicts_on (map (piece_moved by) ps) ≡ verdicts_on ps
verdicts_on-moved by [] = refl
verdicts_on-moved by (Head block after ∷ ps) = ap (λ w. piece_verdict (Head block after) ∷ w) (verdicts_on-moved by ps)
verdicts_on-moved by (Long ∷ ps) = ap (λ w. piece_verdict Long ∷ w) (verdicts_on-moved by ps)

-- ---- verdicts before others

-- where none closes, those behind them count
pub until_close-behind : (vs ws : List Verdict) → closes_any vs ≡ false → until_close (vs ++ ws) ≡ vs ++ until_close ws
until_close-behind [] ws h = refl
until_close-behind (v ∷ vs) ws h =
    let p : (closes v ≡ false) × (closes_any vs ≡ false) = or_parts (closes v) (closes_any vs) h in
    until_close-open v (vs ++ ws) p.0 ∙ ap (λ w. v ∷ w) (until_close-behind vs ws p.1)

-- where one closes, none does
pub until_close-before : (vs ws : List Verdict) → closes_any vs ≡ true → until_close (vs ++ ws) ≡ until_close vs
until_close-before [] ws h = let e : false ≡ true = h in cc
until_close-before (v ∷ vs) ws h = go (until_close-before vs ws) (closes v) refl h where
  go : (closes_any vs ≡ true → until_close (vs ++ ws) ≡ until_close vs) → (b : Bool) → closes v ≡ b → (closes v || closes_any vs) ≡ true
      → until_close (v ∷ (vs ++ ws)) ≡ until_close (v ∷ vs)
  go ih true e f = until_close-closed v (vs ++ ws) e ∙ sym (until_close-closed v vs e)
  go ih false e f =
      until_close-open v (vs ++ ws) e ∙ ap (λ w. v ∷ w) (ih (sym (ap (λ b. b || closes_any vs) e) ∙ f)) ∙ sym (until_close-open v vs e)

-- ---- bytes that are cut, and other bytes

cut-verdicts : (x z : List ℕ) (ps : List Piece) → Cuts x ps → verdicts (x ++ z) ≡ until_close (verdicts_on ps ++ verdicts_on (blocks z))
cut-verdicts x z ps c = verdicts-are (x ++ z)
    ∙ ap (λ w. until_close (verdicts_on w)) (c z)
    ∙ ap until_close (map-append piece_verdict ps (map (piece_moved (length x)) (blocks z)) ∙ ap (λ w. verdicts_on ps ++ w) (verdicts_on-moved (length x) (blocks z)))

-- no answer closes: those to the other bytes follow
pub verdicts-follow : (x z : List ℕ) (ps : List Piece) → Cuts x ps → closes_any (verdicts_on ps) ≡ false → verdicts (x ++ z) ≡ verdicts_on ps ++ verdicts z
verdicts-follow x z ps c h = cut-verdicts x z ps c ∙ until_close-behind (verdicts_on ps) (verdicts_on (blocks z)) h ∙ ap (λ w. verdicts_on ps ++ w) (sym (verdicts-are z))

pub answers-follow : (files : FilesAt) (x z : List ℕ) (ps : List Piece) → Cuts x ps → closes_any (verdicts_on ps) ≡ false
    → answers files (x ++ z) ≡ map (answer files) (verdicts_on ps) ++ answers files z
answers-follow files x z ps c h = answers-are files (x ++ z)
    ∙ ap (map (answer files)) (verdicts-follow x z ps c h)
    ∙ map-append (answer files) (verdicts_on ps) (verdicts z)
    ∙ ap (λ w. map (answer files) (verdicts_on ps) ++ w) (sym (answers-are files z))

-- one closes: nothing of the other bytes counts
pub verdicts-end : (x z : List ℕ) (ps : List Piece) → Cuts x ps → closes_any (verdicts_on ps) ≡ true → verdicts (x ++ z) ≡ until_close (verdicts_on ps)
verdicts-end x z ps c h = cut-verdicts x z ps c ∙ until_close-before (verdicts_on ps) (verdicts_on (blocks z)) h

pub answers-end : (files : FilesAt) (x z : List ℕ) (ps : List Piece) → Cuts x ps → closes_any (verdicts_on ps) ≡ true
    → answers files (x ++ z) ≡ map (answer files) (until_close (verdicts_on ps))
answers-end files x z ps c h = answers-are files (x ++ z) ∙ ap (map (answer files)) (verdicts-end x z ps c h)
