-- The head of a request for each of the files is a block by itself, and its verdict is to serve the file's path: they are computed, all
-- 256 of them.
use Rattle.std.proofs.Common.{◌≡◌, ◌<◌, ℕ, zero, suc, Bool, true, false, ◌&&◌, not, List, length, nat_eq, nat_lt, bytes_eq, refl, ap, ◌∙◌, arith}
use Rattle.std.proofs.lemmas.Bool.{and_parts}
use Rattle.std.proofs.lemmas.Bool.Decides.{nat_tests}
use Rattle.std.proofs.lemmas.Slice.Eq.{bytes_eq-Decides}
use Rattle.std.specs.Fmt.{digits}
use Rattle.std.specs.Str.{is_utf8, chars}
use Rattle.httparse.specs.Grammar.{is_token_byte, trim_ows}
use Rattle.lard_block.specs.Blocks.{cut_of, skipped, head_end}
use Rattle.lard_block.specs.declared.block.Found.{Found}
use Rattle.lard_block.specs.declared.block.Found.TheVariants.{Block}
use Rattle.lard_request.specs.declared.verdict.Verdict.{Verdict}
use Rattle.lard_request.specs.declared.verdict.Verdict.TheVariants.{Serve, Fault}
use Rattle.lard_request.specs.Fields.{has_content, has_good_host, is_close, says_close, values}
use Rattle.lard_request.specs.Head as head
use Rattle.lard_request.specs.Head.{run, word, blank_lines, newline, version, section, field}
use Rattle.lard_request.specs.Target as target
use Rattle.lard_request.specs.Verdict.{verdict, pairs_in, has_bare_feed, head_verdict}
use Rattle.lard_generate.specs.Clients.{request_head, fields}
use Rattle.lard_generate.specs.Files.{generated_path}
use lib.Utf8.{encode}

-- ---- tests

-- the verdict is to serve this path, with its bytes, and the connection stays
abbrev serves : List ℕ → Verdict → Bool
serves path (Serve other head close) = bytes_eq other path && (not head && not close)
serves path (Fault code) = false

-- a block of so many bytes is found, with nothing before it
abbrev is_whole : ℕ → Found → Bool
is_whole n (Block skip len) = nat_eq skip 0 && nat_eq len n
is_whole n _ = false

-- the head of a request for this file is judged and cut so, and is short
abbrev is_good : ℕ → Bool
is_good file = serves (generated_path file) (verdict (request_head file)) && (is_whole (length (request_head file)) (cut_of (request_head file)) && nat_lt (length (request_head file)) 486)

-- so it is of each file below n
abbrev all_good : ℕ → Bool
all_good zero = true
all_good (suc n) = is_good n && all_good n

-- of all files, computed
all_are : all_good 256 ≡ true
unfolding verdict pairs_in has_bare_feed head_verdict head.head_of run word blank_lines newline version section field digits fields is_token_byte trim_ows has_content has_good_host is_close says_close values target.path_of is_utf8 chars encode cut_of skipped head_end
all_are = refl

-- and so of each one
below : (n file : ℕ) → all_good n ≡ true → file < n → is_good file ≡ true
below zero file all small = absurd (omega (arith, small))
below (suc n) file all small = go (below n file parts.1) (nat_eq file n) refl where
  parts : (is_good n ≡ true) × (all_good n ≡ true)
  parts = and_parts (is_good n) (all_good n) all

  go : (file < n → is_good file ≡ true) → (b : Bool) → nat_eq file n ≡ b → is_good file ≡ true
  go lower true e = let same : file ≡ n = grind (arith, nat_tests, e) in ap is_good same ∙ parts.0
  go lower false e = let less : file < n = grind (arith, nat_tests, e, small) in lower less

-- ---- what they say

-- a verdict that serves the path
serves-is : (path : List ℕ) (v : Verdict) → serves path v ≡ true → v ≡ Serve path false false
serves-is path (Fault code) h = cc
serves-is path (Serve other head close) h =
    let parts = and_parts (bytes_eq other path) (not head && not close) h in
    ap (λ (p : List ℕ). Serve p head close) ((bytes_eq-Decides other path).0 parts.0) ∙ go head close parts.1 where
      go : (a b : Bool) → (not a && not b) ≡ true → Serve path a b ≡ Serve path false false
      go false false e = refl
      go true b e = cc
      go false true e = cc

-- a block with nothing before it
whole-is : (n : ℕ) (f : Found) → is_whole n f ≡ true → f ≡ Block 0 n
whole-is n (Block skip len) h =
    let parts = and_parts (nat_eq skip 0) (nat_eq len n) h in
    let first : skip ≡ 0 = grind (arith, nat_tests, parts.0) in
    let second : len ≡ n = grind (arith, nat_tests, parts.1) in
    ap (λ k. Block k len) first ∙ ap (Block 0) second
whole-is n _ h = cc

module _ (file : ℕ) (small : file < 256) where
  -- its three tests, apart
  good : (serves (generated_path file) (verdict (request_head file)) ≡ true) × ((is_whole (length (request_head file)) (cut_of (request_head file)) && nat_lt (length (request_head file)) 486) ≡ true)
  good = and_parts (serves (generated_path file) (verdict (request_head file))) (is_whole (length (request_head file)) (cut_of (request_head file)) && nat_lt (length (request_head file)) 486) (below 256 file all_are small)

  rest : (is_whole (length (request_head file)) (cut_of (request_head file)) ≡ true) × (nat_lt (length (request_head file)) 486 ≡ true)
  rest = and_parts (is_whole (length (request_head file)) (cut_of (request_head file))) (nat_lt (length (request_head file)) 486) good.1

  -- it is judged to be a request for the file's path
  pub head-verdict : verdict (request_head file) ≡ Serve (generated_path file) false false
  head-verdict = serves-is (generated_path file) (verdict (request_head file)) good.0

  -- it is the block that is found first
  pub head-cut : cut_of (request_head file) ≡ Block 0 (length (request_head file))
  head-cut = whole-is (length (request_head file)) (cut_of (request_head file)) rest.0

  -- it is short
  pub head-short : length (request_head file) < 486
  head-short = grind (arith, nat_tests, rest.1)
