-- A head has fewer fields than its bytes have line feeds, and where no line feed is bare, no more of these than pairs.
use Rattle.std.proofs.Common.{◌≡◌, ℕ, ◌+◌, ◌≤◌, Bool, true, false, ◌&&◌, ◌||◌, not, List, [], ◌∷◌, ◌++◌, length, cond, Some, refl, sym, ap, ◌∙◌, arith, append_assoc, nat_eq}
use Rattle.std.specs.List.{flat_map}
use Rattle.std.proofs.lemmas.Bool.{eqb-true, false≢true}
use Rattle.httparse.specs.Grammar.{LineEnd, crlf, lf, print_end, print_blank, print_version, Field, print_field, print_section, RequestHead, print_request}
use Rattle.httparse.proofs.GrammarLemmas.{print_request-append}
use Rattle.lard_request.specs.Head.{head_of}
use Rattle.lard_request.specs.Verdict.{pairs_in, has_bare_feed}
use Rattle.lard_request.proofs.Feeds.{pair_here, pairs-cons}
use Rattle.lard_request.proofs.Reading.{head-sound}

-- how many line feeds there are
feeds : List ℕ → ℕ
feeds [] = 0
feeds (b ∷ rest) = cond (nat_eq b 10) 1 0 + feeds rest

feeds-append : (a b : List ℕ) → feeds (a ++ b) ≡ feeds a + feeds b
unfolding feeds
feeds-append [] b = let z : 0 + feeds b ≡ feeds b = omega arith in sym z
feeds-append (x ∷ a) b = let ih : feeds (a ++ b) ≡ feeds a + feeds b = feeds-append a b in omega (arith, ih)

feeds-end : (end : LineEnd) → feeds (print_end end) ≡ 1
unfolding feeds
feeds-end crlf = refl
feeds-end lf = refl

feeds-field : (f : Field) (rest : List ℕ) → 1 + feeds rest ≤ feeds (print_field f ++ rest)
feeds-field f rest =
    let spelled : feeds (print_field f ++ rest) ≡ feeds ((f.name ++ 58 ∷ f.raw) ++ (print_end f.end ++ rest)) = ap feeds (append_assoc (f.name ++ 58 ∷ f.raw) (print_end f.end) rest) in
    omega (arith, spelled, feeds-append (f.name ++ 58 ∷ f.raw) (print_end f.end ++ rest), feeds-append (print_end f.end) rest, feeds-end f.end)

feeds-fields : (fields : List Field) (rest : List ℕ) → length fields + feeds rest ≤ feeds (flat_map print_field fields ++ rest)
feeds-fields [] rest = omega arith
feeds-fields (f ∷ fields) rest =
    let ih : length fields + feeds rest ≤ feeds (flat_map print_field fields ++ rest) = feeds-fields fields rest in
    let here : 1 + feeds (flat_map print_field fields ++ rest) ≤ feeds (print_field f ++ (flat_map print_field fields ++ rest)) = feeds-field f (flat_map print_field fields ++ rest) in
    let spelled : feeds ((print_field f ++ flat_map print_field fields) ++ rest) ≡ feeds (print_field f ++ (flat_map print_field fields ++ rest)) = ap feeds (append_assoc (print_field f) (flat_map print_field fields) rest) in
    omega (arith, ih, here, spelled)

-- a part has no more than the whole
feeds-behind : (front rest : List ℕ) → feeds rest ≤ feeds (front ++ rest)
feeds-behind front rest = omega (arith, feeds-append front rest)

feeds-head : (h : RequestHead) → length h.fields ≤ feeds (print_request h ++ [])
feeds-head h =
    let section = print_section h.fields h.last ++ [] in
    let line = print_end h.line_end ++ section in
    let version = print_version h.minor ++ line in
    let target = (h.target ++ 32 ∷ []) ++ version in
    let method = (h.method ++ 32 ∷ []) ++ target in
    let spelled : feeds (print_request h ++ []) ≡ feeds (print_blank h.blank ++ method) =
    ap feeds (print_request-append h [] ∙ ap (λ v. print_blank h.blank ++ v) (sym (append_assoc h.method (32 ∷ []) target ∙ ap (λ v. h.method ++ 32 ∷ v) (append_assoc h.target (32 ∷ []) version)))) in
    let in_section : feeds section ≡ feeds (flat_map print_field h.fields ++ (print_end h.last ++ [])) = ap feeds (append_assoc (flat_map print_field h.fields) (print_end h.last) []) in
    omega (
      arith,
      spelled,
      in_section,
      feeds-fields h.fields (print_end h.last ++ []),
      feeds-behind (print_end h.line_end) section,
      feeds-behind (print_version h.minor) line,
      feeds-behind (h.target ++ 32 ∷ []) version,
      feeds-behind (h.method ++ 32 ∷ []) target,
      feeds-behind (print_blank h.blank) method,
    )

-- ---- line feeds and pairs

pairs-tail : (b : ℕ) (rest : List ℕ) → pairs_in rest ≤ pairs_in (b ∷ rest)
pairs-tail b rest = omega (arith, pairs-cons b rest)

-- behind a CR a first LF is the end of a pair
feeds-pairs : (bs : List ℕ) → (has_bare_feed false bs ≡ false → feeds bs ≤ pairs_in bs) × (has_bare_feed true bs ≡ false → feeds bs ≤ pairs_in (13 ∷ bs))
unfolding feeds has_bare_feed pairs_in
feeds-pairs [] = ((λ e. omega arith), (λ e. omega arith))
feeds-pairs (b ∷ rest) = go (feeds-pairs rest) (nat_eq b 13) refl (nat_eq b 10) refl where
  go : (has_bare_feed false rest ≡ false → feeds rest ≤ pairs_in rest) × (has_bare_feed true rest ≡ false → feeds rest ≤ pairs_in (13 ∷ rest))
      → (t : Bool) → nat_eq b 13 ≡ t → (s : Bool) → nat_eq b 10 ≡ s
      → (((s && not false) || has_bare_feed t rest) ≡ false → cond s 1 0 + feeds rest ≤ pairs_in (b ∷ rest))
      × (((s && not true) || has_bare_feed t rest) ≡ false → cond s 1 0 + feeds rest ≤ pairs_in (13 ∷ b ∷ rest))
  go ih true is_return true is_feed = absurd (omega (arith, eqb-true b 13 is_return, eqb-true b 10 is_feed))
  go ih true is_return false e =
      let same : pairs_in (13 ∷ rest) ≡ pairs_in (b ∷ rest) = ap (λ v. pairs_in (v ∷ rest)) (sym (eqb-true b 13 is_return)) in
      ((λ h. omega (arith, ih.1 h, same)), (λ h. omega (arith, ih.1 h, same, pairs-tail 13 (b ∷ rest))))
  go ih false e true is_feed =
      let hit : pair_here (13 ∷ b ∷ rest) ≡ true = ap (λ v. pair_here (13 ∷ v ∷ rest)) (eqb-true b 10 is_feed) in
      let count : pairs_in (13 ∷ b ∷ rest) ≡ 1 + pairs_in (b ∷ rest) = pairs-cons 13 (b ∷ rest) ∙ ap (λ t. cond t 1 0 + pairs_in (b ∷ rest)) hit in
      ((λ h. absurd (false≢true (sym h))), (λ h. omega (arith, ih.0 h, count, pairs-tail b rest)))
  go ih false e false f = ((λ h. omega (arith, ih.0 h, pairs-tail b rest)), (λ h. omega (arith, ih.0 h, pairs-tail b rest, pairs-tail 13 (b ∷ rest))))

-- no more fields than pairs
pub few_fields : (block : List ℕ) (h : RequestHead) → head_of block ≡ Some h → has_bare_feed false block ≡ false → length h.fields ≤ pairs_in block
few_fields block h e fine =
    let same : feeds block ≡ feeds (print_request h ++ []) = ap feeds (head-sound block h e).1 in
    omega (arith, same, feeds-head h, (feeds-pairs block).0 fine)
