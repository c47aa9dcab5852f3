use Rattle.std.proofs.Common.{◌≡◌, ℕ, Bool, true, false, List, [], ◌∷◌, ◌++◌, cond, nat_eq, refl, sym, ap, ◌∙◌, arith}
use Rattle.std.specs.Prelude.{codes, slice_index}
use Rattle.lard_law_view.specs.Prelude.{IsPrefix, Rec, accepted, answer_bytes, request, wrote}
use Rattle.lard_journal.specs.declared.rec.Rec.TheVariants as rec
use Rattle.lard_refusals.specs.Refusals.{two_files}
use Rattle.lard_refusals.specs.Service.{accepted_and_not_asked, another_answer_accepted}
use Rattle.lard_refusals.proofs.Moments.{at-every-moment}
use Rattle.lard_refusals.proofs.Responses.{its-bytes, no-bytes}
use Rattle.lard_refusals.proofs.service.prefix_refuses.Goals as goal

pub returns-clause-accepted_and_not_asked : goal.returns-clause-accepted_and_not_asked
returns-clause-accepted_and_not_asked c h =
    let begins = h accepted_and_not_asked [] 1 refl refl in
    let e : [] ≡ codes "HTTP/1.1 200 OK" ++ begins.0 = sym no-bytes ∙ begins.1 in
    cc

-- the first byte of the code is not the same
pub returns-clause-another_answer_accepted : goal.returns-clause-another_answer_accepted
returns-clause-another_answer_accepted c h =
    let begins = h another_answer_accepted [] 1 refl refl in
    let e : ◌≡◌ {A = ℕ} 50 52 = ap (λ (bytes : List ℕ). slice_index bytes 9) (sym its-bytes ∙ begins.1) in
    omega arith

-- nothing is the front of anything, and what client 1 accepted is the front of its answer
nothing : (whole : List ℕ) → IsPrefix [] whole
nothing whole = (whole, refl)

front : IsPrefix (codes "HTTP/1.1 200") (answer_bytes two_files (request (codes "/a")))
front = (codes " OK\r\nContent-Length: 2\r\n\r\nhi", its-bytes)

abbrev asking : Rec
asking = rec.Wrote 1 (request (codes "/a"))

abbrev accepting : Rec
accepting = rec.Accepted 1 (codes "HTTP/1.1 200")

both : (c : ℕ) → IsPrefix (accepted (asking ∷ accepting ∷ []) c) (answer_bytes two_files (wrote (asking ∷ accepting ∷ []) c))
both c = go (nat_eq 1 c) where
  go : (b : Bool) → IsPrefix (cond b (codes "HTTP/1.1 200") []) (answer_bytes two_files (cond b (request (codes "/a")) []))
  go true = front
  go false = nothing _

pub returns-clause-its_answer_accepted : goal.returns-clause-its_answer_accepted
returns-clause-its_answer_accepted c past later q cut untouched =
    at-every-moment (λ (past : List Rec). (c : ℕ) → IsPrefix (accepted past c) (answer_bytes two_files (wrote past c))) (asking ∷ accepting ∷ []) ((λ c. nothing _), ((λ c. nothing _), both)) past later cut q
