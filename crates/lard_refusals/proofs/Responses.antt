-- What is to be answered to a client that wrote nothing, and to one that asked for a file.
use Rattle.std.proofs.Common.{◌≡◌, ℕ, false, List, [], ◌∷◌, map, None, Some, refl, ap, subst}
use Rattle.std.specs.Fmt.{digits}
use Rattle.std.specs.List.{concat}
use Rattle.std.specs.Prelude.{codes, slice_get}
use Rattle.lard_law_view.specs.Prelude.{Verdict, answer, answer_bytes, answers, goods, goods_from, request, response, verdicts}
use Rattle.lard_laws.specs.BackingRequests.{IsFor}
use Rattle.lard_laws.specs.Ways.{good_paths}
use Rattle.lard_refusals.specs.Refusals.{two_files}
use Rattle.lard_refusals.proofs.Requests.{nothing-asked, request-asks}
use Rattle.lard_request.specs.declared.verdict.Verdict.TheVariants.{Serve}

-- the answer to the request for /a
abbrev pub answer_a : List ℕ
answer_a = codes "HTTP/1.1 200 OK\r\nContent-Length: 2\r\n\r\nhi"

pub no-answers : answers two_files [] ≡ []
unfolding answers
no-answers = ap (map (answer two_files)) nothing-asked

pub one-answer : answers two_files (request (codes "/a")) ≡ answer_a ∷ []
unfolding answers digits response
one-answer = ap (map (answer two_files)) request-asks

pub no-bytes : answer_bytes two_files [] ≡ []
no-bytes = ap concat no-answers

pub its-bytes : answer_bytes two_files (request (codes "/a")) ≡ answer_a
its-bytes = ap concat one-answer

pub no-goods : map (λ g. g.1) (goods two_files []) ≡ []
unfolding goods
no-goods = ap (λ (vs : List Verdict). map (λ g. g.1) (goods_from two_files 1 vs)) nothing-asked

pub its-goods : map (λ g. g.1) (goods two_files (request (codes "/a"))) ≡ codes "/a" ∷ []
unfolding goods
its-goods = ap (λ (vs : List Verdict). map (λ g. g.1) (goods_from two_files 1 vs)) request-asks

pub no-paths : good_paths two_files (verdicts []) ≡ []
no-paths = ap (good_paths two_files) nothing-asked

pub its-paths : good_paths two_files (verdicts (request (codes "/a"))) ≡ codes "/a" ∷ []
its-paths = ap (good_paths two_files) request-asks

-- its first request is for /a
pub first-for-a : IsFor two_files (request (codes "/a")) 1 (codes "/a")
first-for-a = record { before = 0; number = refl; verdict = Serve (codes "/a") false false; is = ap (λ (vs : List Verdict). slice_get vs 0) request-asks; good = refl }

abbrev nobody : List Verdict
nobody = []

-- no request is there
pub for-nobody : (r : ℕ) (path : List ℕ) → IsFor two_files [] r path → ⊥
for-nobody r path is = none is.before (subst (λ (vs : List Verdict). slice_get vs is.before ≡ Some is.verdict) nothing-asked is.is) where
  none : (n : ℕ) → slice_get nobody n ≡ Some is.verdict → ⊥
  none n e = let none_is : None ≡ Some is.verdict = e in cc
