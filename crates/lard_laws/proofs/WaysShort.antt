-- The path of a request is no longer than its block.
use Rattle.std.proofs.Common.{◌≡◌, ◌≤◌, ◌<◌, ◌+◌, ◌^◌, ℕ, zero, suc, Bool, false, cond, nat_eq, nat_lt, not, codes, List, [], ◌∷◌, ◌++◌, map, length, take, drop, Option, Some, None, refl, sym, ap, subst, arith}
use Rattle.std.specs.List.{position_or_len, starts_with}
use Rattle.std.specs.Prelude.{◌||◌}
use Rattle.std.specs.Str.{str_eq_ignore_ascii_case}
use Rattle.std.proofs.lemmas.Bool.{cond_both}
use Rattle.std.proofs.lemmas.List.{length-append, length-drop, length-take}
use Rattle.httparse.specs.Grammar.{RequestHead, print_blank, print_end, print_request, print_section, print_version}
use Rattle.lard_law_view.specs.Prelude.{FilesAt, Found, Head, IsWithin, Long, MAX_FIELDS, Verdict, absolute_path, and_path, asked, authority_len, blocks, closes, cut_of, good_path, has_bare_feed, has_content, has_good_host, head_of, head_verdict, is_get, is_head, is_query, pairs_in, path_behind, path_of, path_verdict, piece_moved, pieces, pieces_from, says_close, until_close, verdict, verdict_of, verdicts, verdicts_on, without_query}
use Rattle.lard_answers.proofs.Growing.{until_close-cons, until_close-nil, verdicts-are}
use Rattle.lard_block.specs.declared.block.Found.TheVariants.{Block, More, TooLong}
use Rattle.lard_block.specs.Blocks.{Piece}
use Rattle.lard_block.proofs.Cutting.{cut-within}
use Rattle.lard_laws.specs.Ways.{good_paths}
use Rattle.lard_history.proofs.Each.{Each}
use Rattle.lard_request.specs.declared.verdict.Verdict.TheVariants.{Fault, Serve}
use Rattle.lard_request.proofs.Reading.{head-sound}

le-front : (xs ys : List ℕ) → length xs ≤ length (xs ++ ys)
le-front xs ys = omega (arith, length-append xs ys)

le-behind : (xs ys : List ℕ) → length ys ≤ length (xs ++ ys)
le-behind xs ys = omega (arith, length-append xs ys)

-- ---- a head

target-within : (h : RequestHead) → length h.target ≤ length (print_request h)
unfolding print_request
target-within h =
    let a : List ℕ = print_blank h.blank ++ h.method in
    let b : List ℕ = a ++ 32 ∷ h.target in
    let c : List ℕ = b ++ 32 ∷ print_version h.minor in
    let d : List ℕ = c ++ print_end h.line_end in
    omega (arith, le-behind a (32 ∷ h.target), le-front b (32 ∷ print_version h.minor), le-front c (print_end h.line_end), le-front d (print_section h.fields h.last))

-- ---- a target

abbrev PathBy : ℕ → Option (List ℕ) → Type 0
PathBy n None = Unit {0}
PathBy n (Some path) = length path ≤ n + 1

query-within : (target : List ℕ) → length (without_query target) ≤ length target
query-within target = omega (arith, length-take (position_or_len is_query target) target)

behind-within : (rest : List ℕ) → length (path_behind rest) ≤ length rest + 1
behind-within rest = cond_both (starts_with nat_eq rest (codes "/")) (without_query rest) (codes "/") (λ (p : List ℕ). length p ≤ length rest + 1)
    (λ t. let le = query-within rest in omega (arith, le)) (λ t. omega arith)

absolute-within : (rest : List ℕ) → PathBy (length rest) (absolute_path rest)
absolute-within rest = cond_both (nat_lt 0 (authority_len rest)) (Some (path_behind (drop (authority_len rest) rest))) None (PathBy (length rest))
    (λ t. let le = behind-within (drop (authority_len rest) rest) in omega (arith, le, length-drop (authority_len rest) rest)) (λ t. tt)

path-more : (n m : ℕ) (o : Option (List ℕ)) → n ≤ m → PathBy n o → PathBy m o
path-more n m None le h = tt
path-more n m (Some path) le h = omega (arith, le, h)

path-within : (target : List ℕ) → PathBy (length target) (path_of target)
unfolding path_of
path-within target = cond_both (starts_with nat_eq target (codes "/")) (Some (without_query target)) (cond (str_eq_ignore_ascii_case (codes "http://") (take 7 target)) (absolute_path (drop 7 target)) None) (PathBy (length target))
    (λ t. let le = query-within target in omega (arith, le))
    (λ t. cond_both (str_eq_ignore_ascii_case (codes "http://") (take 7 target)) (absolute_path (drop 7 target)) None (PathBy (length target))
    (λ u. path-more (length (drop 7 target)) (length target) (absolute_path (drop 7 target)) (omega (arith, length-drop 7 target)) (absolute-within (drop 7 target))) (λ u. tt))

-- ---- a verdict

abbrev pub IsShort : ℕ → Verdict → Type 0
IsShort n (Serve path head close) = length path ≤ n + 1
IsShort n (Fault code) = Unit {0}

served-short : (n : ℕ) (head close : Bool) (o : Option (List ℕ)) → PathBy n o → IsShort n (path_verdict head close o)
served-short n head close None h = tt
served-short n head close (Some path) h = h

asked-short : (method target : List ℕ) (close : Bool) → IsShort (length target) (asked method target close)
asked-short method target close = cond_both (not (is_get method || is_head method)) (Fault _) (path_verdict (is_head method) close (path_of target)) (IsShort (length target))
    (λ t. tt) (λ t. served-short (length target) (is_head method) close (path_of target) (path-within target))

short-more : (n m : ℕ) (v : Verdict) → n ≤ m → IsShort n v → IsShort m v
short-more n m (Serve path head close) le h = omega (arith, le, h)
short-more n m (Fault code) le h = tt

head-short : (h : RequestHead) → IsShort (length h.target) (head_verdict h)
unfolding head_verdict
head-short h =
    let ask : Verdict = asked h.method h.target (nat_eq h.minor 0 || says_close h.fields) in
    cond_both (not (has_good_host h.minor h.fields)) (Fault _) (cond (has_content h.fields) (Fault _) ask) (IsShort (length h.target)) (λ t. tt)
    (λ t. cond_both (has_content h.fields) (Fault _) ask (IsShort (length h.target)) (λ u. tt) (λ u. asked-short h.method h.target (nat_eq h.minor 0 || says_close h.fields)))

of-short : (block : List ℕ) (o : Option RequestHead) → head_of block ≡ o → IsShort (length block) (verdict_of o)
of-short block None e = tt
of-short block (Some h) e =
    let same : block ≡ print_request h ++ [] = (head-sound block h e).1 in
    let le = target-within h in
    short-more (length h.target) (length block) (head_verdict h) (omega (arith, le, ap length same, length-append (print_request h) [])) (head-short h)

verdict-short : (block : List ℕ) → IsShort (length block) (verdict block)
unfolding verdict
verdict-short block =
    cond_both (nat_lt (MAX_FIELDS + 2) (pairs_in block)) (Fault _) (cond (has_bare_feed false block) (Fault _) (verdict_of (head_of block))) (IsShort (length block)) (λ t. tt)
    (λ t. cond_both (has_bare_feed false block) (Fault _) (verdict_of (head_of block)) (IsShort (length block)) (λ u. tt) (λ u. of-short block (head_of block) refl))

-- ---- all that a client wrote

abbrev IsSmall : Piece → Type 0
IsSmall (Head block after) = length block ≤ 8192
IsSmall Long = Unit {0}

small-moved : (by : ℕ) (ps : List Piece) → Each IsSmall ps → Each IsSmall (map (piece_moved by) ps)
small-moved by [] h = tt
small-moved by (Head block after ∷ ps) h = (h.0, small-moved by ps h.1)
small-moved by (Long ∷ ps) h = (tt, small-moved by ps h.1)

small-from : (q : List ℕ) (later : ℕ → List Piece) → ((n : ℕ) → Each IsSmall (later n)) → (f : Found) → IsWithin f (length q) → Each IsSmall (pieces_from q later f)
small-from q later h (Block skip len) within = (let le = within.1 in omega (arith, le, length-take len (drop skip q)), h (skip + len))
small-from q later h (More skip) within = tt
small-from q later h (TooLong skip) within = (tt, tt)

small-pieces : (n : ℕ) (q : List ℕ) → Each IsSmall (pieces n q)
unfolding pieces
small-pieces zero q = tt
small-pieces (suc n) q = small-from q (λ used. map (piece_moved used) (pieces n (drop used q))) (λ used. small-moved used (pieces n (drop used q)) (small-pieces n (drop used q))) (cut_of q) (cut-within q)

small-blocks : (q : List ℕ) → Each IsSmall (blocks q)
unfolding blocks
small-blocks q = small-pieces (length q) q

short-on : (ps : List Piece) → Each IsSmall ps → Each (IsShort 8192) (verdicts_on ps)
short-on [] h = tt
short-on (Head block after ∷ ps) h = (short-more (length block) 8192 (verdict block) h.0 (verdict-short block), short-on ps h.1)
short-on (Long ∷ ps) h = (tt, short-on ps h.1)

short-until : (vs : List Verdict) → Each (IsShort 8192) vs → Each (IsShort 8192) (until_close vs)
short-until [] h = subst (Each (IsShort 8192)) (sym until_close-nil) tt
short-until (v ∷ vs) h = subst (Each (IsShort 8192)) (sym (until_close-cons v vs))
    (h.0, cond_both (closes v) [] (until_close vs) (Each (IsShort 8192)) (λ t. tt) (λ t. short-until vs h.1))

short-verdicts : (q : List ℕ) → Each (IsShort 8192) (verdicts q)
short-verdicts q = subst (Each (IsShort 8192)) (sym (verdicts-are q)) (short-until (verdicts_on (blocks q)) (short-on (blocks q) (small-blocks q)))

-- ---- the paths of good requests

abbrev pub AreShort : List (List ℕ) → Type 0
AreShort paths = Each (λ p. length p < 2 ^ 16) paths

module _ (files : FilesAt) where
  and-short : (o : Option (List ℕ)) (paths : List (List ℕ)) → PathBy 8192 o → AreShort paths → AreShort (and_path o paths)
  and-short None paths h k = k
  and-short (Some path) paths h k = (omega (arith, h), k)

  good-short : (v : Verdict) → IsShort 8192 v → PathBy 8192 (good_path files v)
  good-short (Serve path head close) h = cond_both _ (Some path) None (PathBy 8192) (λ t. h) (λ t. tt)
  good-short (Fault code) h = tt

  paths-short : (vs : List Verdict) → Each (IsShort 8192) vs → AreShort (good_paths files vs)
  paths-short [] h = tt
  paths-short (v ∷ vs) h = and-short (good_path files v) (good_paths files vs) (good-short v h.0) (paths-short vs h.1)

  pub wanted-short : (q : List ℕ) → AreShort (good_paths files (verdicts q))
  wanted-short q = paths-short (verdicts q) (short-verdicts q)

-- of what stands within others
pub short-within : (xs ys zs all : List (List ℕ)) → all ≡ (xs ++ ys) ++ zs → AreShort all → AreShort ys
short-within xs ys zs all e h = behind xs (front (xs ++ ys) zs (subst AreShort e h)) where
  front : (a b : List (List ℕ)) → AreShort (a ++ b) → AreShort a
  front [] b k = tt
  front (x ∷ a) b k = (k.0, front a b k.1)

  behind : (a : List (List ℕ)) → AreShort (a ++ ys) → AreShort ys
  behind [] k = k
  behind (x ∷ a) k = behind a k.1
