-- Heads that follow one another are cut into themselves, and each is answered by its file.
use Rattle.std.proofs.Common.{◌≡◌, ℕ, ◌+◌, false, List, [], ◌∷◌, ◌++◌, map, length, take, drop, All, refl, sym, ap, ◌∙◌, subst, length-append, append_assoc, take_all, arith}
use Rattle.std.specs.Prelude.{sum_by}
use Rattle.std.specs.List.{concat}
use Rattle.std.proofs.lemmas.List.{length-map}
use Rattle.std.proofs.lemmas.List.Elements.{All-head, All-tail}
use Rattle.std.proofs.lemmas.List.Sums.{sum_by-cons}
use Rattle.lard_answers.specs.Answers.{FilesAt, closes_any, answer, answer_bytes, found, piece_verdict, verdicts_on}
use Rattle.lard_answers.proofs.Following.{answers-follow}
use Rattle.lard_answers.proofs.Growing.{answers-nothing, blocks-nothing}
use Rattle.lard_block.specs.Blocks.{Piece, Head, Cuts, blocks, piece_moved}
use Rattle.lard_block.proofs.Division.{cuts-block}
use Rattle.lard_files.specs.Files.{file_at}
use Rattle.lard_request.specs.declared.verdict.Verdict.TheVariants.{Serve}
use Rattle.lard_request.specs.Verdict.{verdict}
use Rattle.lard_generate.specs.declared.action.Action.TheVariants.{Ask}
use Rattle.lard_generate.specs.Clients.{answer_bytes_of, request_head}
use Rattle.lard_generate.specs.Files.{generated_files, generated_path}
use Rattle.lard_generate.proofs.Answered.{counted}
use Rattle.lard_generate_bound.specs.Heads.{IsFileNumber, heads}
use Rattle.lard_generate_bound.proofs.Judged.{head-cut, head-verdict}

-- ---- one head

-- the piece that a head is
abbrev piece : ℕ → Piece
piece file = Head (take (length (request_head file)) (drop 0 (request_head file))) (0 + length (request_head file))

-- it is cut off whatever follows it
head-cuts : (file : ℕ) → IsFileNumber file → Cuts (request_head file) (piece file ∷ [])
head-cuts file small =
    let whole : take (0 + length (request_head file)) (request_head file) ≡ request_head file = take_all (0 + length (request_head file)) (request_head file) (omega arith) in
    subst (λ (q : List ℕ). Cuts q (piece file ∷ [])) whole (cuts-block (request_head file) 0 (length (request_head file)) (head-cut file small))

-- its verdict
piece-verdict : (file : ℕ) → IsFileNumber file → piece_verdict (piece file) ≡ Serve (generated_path file) false false
piece-verdict file small = ap verdict (take_all (length (request_head file)) (request_head file) (omega arith)) ∙ head-verdict file small

-- it leaves the connection open
closes-not : (file : ℕ) → IsFileNumber file → closes_any (verdicts_on (piece file ∷ [])) ≡ false
closes-not file small = ap (λ v. closes_any (v ∷ [])) (piece-verdict file small)

-- how many bytes its answer has
answer-length : (sizes : List ℕ) (c file : ℕ) → IsFileNumber file → length (answer (file_at (generated_files sizes)) (Serve (generated_path file) false false)) ≡ answer_bytes_of sizes (Ask c file)
answer-length sizes c file small =
    let known = counted sizes c file small in
    ap (λ o. length (found o false false)) known.1 ∙ sym known.2

-- ---- all

-- of files one behind another
pub heads-append : (xs ys : List ℕ) → heads (xs ++ ys) ≡ heads xs ++ heads ys
heads-append [] ys = refl
heads-append (x ∷ xs) ys = ap (λ (bytes : List ℕ). request_head x ++ bytes) (heads-append xs ys) ∙ sym (append_assoc (request_head x) (heads xs) (heads ys))

-- how many bytes all heads have
pub heads-length : (files : List ℕ) → length (heads files) ≡ sum_by (λ file. length (request_head file)) files
heads-length [] = refl
heads-length (file ∷ files) = length-append (request_head file) (heads files) ∙ ap (λ n. length (request_head file) + n) (heads-length files) ∙ sym (sum_by-cons (λ f. length (request_head f)) file files)

-- there are as many blocks as files
pub heads-blocks : (files : List ℕ) → All IsFileNumber files → length (blocks (heads files)) ≡ sum_by (λ file. 1) files
heads-blocks [] small = ap length blocks-nothing
heads-blocks (file ∷ files) small =
    let later : List Piece = map (piece_moved (length (request_head file))) (blocks (heads files)) in
    let cut : length (blocks (request_head file ++ heads files)) ≡ length (piece file ∷ [] ++ later) = ap length (head-cuts file (All-head IsFileNumber file files small) (heads files)) in
    omega (
      arith,
      cut,
      length-append (piece file ∷ []) later,
      length-map (blocks (heads files)) (piece_moved (length (request_head file))),
      heads-blocks files (All-tail IsFileNumber file files small),
      sum_by-cons (λ f. 1) file files,
    )

-- the answers have the bytes that are counted
pub heads-answered : (sizes : List ℕ) (c : ℕ) (files : List ℕ) → All IsFileNumber files
    → length (answer_bytes (file_at (generated_files sizes)) (heads files)) ≡ sum_by (λ file. answer_bytes_of sizes (Ask c file)) files
heads-answered sizes c [] small = ap (λ (all : List (List ℕ)). length (concat all)) (answers-nothing (file_at (generated_files sizes)))
heads-answered sizes c (file ∷ files) small =
    let at : FilesAt = file_at (generated_files sizes) in
    let is = All-head IsFileNumber file files small in
    let judged = piece-verdict file is in
    let given : List ℕ = answer at (piece_verdict (piece file)) in
    ap (λ (all : List (List ℕ)). length (concat all)) (answers-follow at (request_head file) (heads files) (piece file ∷ []) (head-cuts file is) (closes-not file is))
    ∙ length-append given (answer_bytes at (heads files))
    ∙ ap (λ n. n + length (answer_bytes at (heads files))) (ap (λ v. length (answer at v)) judged ∙ answer-length sizes c file is)
    ∙ ap (λ n. answer_bytes_of sizes (Ask c file) + n) (heads-answered sizes c files (All-tail IsFileNumber file files small))
    ∙ sym (sum_by-cons (λ f. answer_bytes_of sizes (Ask c f)) file files)
