-- The judgements, as the code asks for them.
use Rattle.std.proofs.Common.{◌≡◌, ℕ, Bool, true, false, ◌||◌, not, List, map, take, Option, cond, refl, sym, ap, ◌∙◌, subst, arith, codes, nat_eq, nat_lt, ◌<◌, ◌≤◌, Result}
use Rattle.std.proofs.lemmas.Bool.Decides.{nat_tests}
use Rattle.std.specs.Result.{IfOk}
use Rattle.std.specs.List.{list_any}
use Rattle.httparse.specs.declared.spans.HeaderSpan.{HeaderSpan}
use Rattle.httparse.specs.declared.spans.RequestSpans.{RequestSpans}
use Rattle.httparse.specs.Grammar.{RequestHead}
use Rattle.httparse.specs.Spans.{IsRequestAt, header_bytes}
use Rattle.http_header.specs.FieldName.{IsHeaderName}
use Rattle.http_header.specs.HeaderMap.{Entries, get_all}
use Rattle.http_header.proofs.TokenLemmas.{IsHeaderName-from_test}
use Rattle.lard_request.specs.declared.verdict.Code.TheVariants as code
use Rattle.lard_request.specs.declared.verdict.Verdict.{Verdict}
use Rattle.lard_request.specs.declared.verdict.Verdict.TheVariants.{Fault}
use Rattle.lard_request.specs.Fields.{values, good_hosts, has_good_host, told_content, has_content, lists_close, says_close}
use Rattle.lard_request.specs.Head.{head_of}
use Rattle.lard_request.specs.Kept.{values_named, Keeps}
use Rattle.lard_request.specs.Verdict.{pairs_in, has_bare_feed, asked, head_verdict, verdict_of, verdict}
use Rattle.lard_request.proofs.Keeping.{named-values}

-- ---- what the map says is what the fields say

module _ (m : Entries (List ℕ)) (block : List ℕ) (spans : List HeaderSpan) (parts : RequestSpans) (h : RequestHead)
    (keeps : Keeps m (map (header_bytes block) (take parts.headers spans))) (at : IsRequestAt block spans parts h) where
  kept-values : (name : List ℕ) → IsHeaderName name → get_all m name ≡ values name h.fields
  kept-values name lower = keeps name lower ∙ ap (values_named name) at.fields ∙ named-values name h.fields

  pub host-told : good_hosts parts.version (get_all m (codes "host")) ≡ has_good_host h.minor h.fields
  unfolding has_good_host
  host-told = ap (good_hosts parts.version) (kept-values (codes "host") (IsHeaderName-from_test (codes "host") refl)) ∙ ap (λ n. good_hosts n (values (codes "host") h.fields)) at.version

  pub content-told : told_content (get_all m (codes "transfer-encoding")) (get_all m (codes "content-length")) ≡ has_content h.fields
  unfolding has_content
  content-told =
      ap (λ v. told_content v (get_all m (codes "content-length"))) (kept-values (codes "transfer-encoding") (IsHeaderName-from_test (codes "transfer-encoding") refl))
      ∙ ap (told_content (values (codes "transfer-encoding") h.fields)) (kept-values (codes "content-length") (IsHeaderName-from_test (codes "content-length") refl))

  pub close-told : (nat_eq parts.version 0 || list_any lists_close (get_all m (codes "connection"))) ≡ (nat_eq h.minor 0 || says_close h.fields)
  unfolding says_close
  close-told =
      ap (λ v. nat_eq parts.version 0 || list_any lists_close v) (kept-values (codes "connection") (IsHeaderName-from_test (codes "connection") refl))
      ∙ ap (λ n. nat_eq n 0 || list_any lists_close (values (codes "connection") h.fields)) at.version

-- ---- the verdict on a head

-- the three ways that it goes
chosen : Bool → Bool → Verdict → Verdict
chosen host content asks = cond {A = Verdict} (not host) (Fault code.BadRequest) (cond {A = Verdict} content (Fault code.TooLarge) asks)

head_verdict-is : (h : RequestHead) → head_verdict h ≡ chosen (has_good_host h.minor h.fields) (has_content h.fields) (asked h.method h.target (nat_eq h.minor 0 || says_close h.fields))
unfolding head_verdict chosen
head_verdict-is h = refl

pub verdict-host : (h : RequestHead) → has_good_host h.minor h.fields ≡ false → Fault code.BadRequest ≡ head_verdict h
unfolding chosen
verdict-host h bad = sym (head_verdict-is h ∙ ap (λ t. chosen t (has_content h.fields) (asked h.method h.target (nat_eq h.minor 0 || says_close h.fields))) bad)

pub verdict-content : (h : RequestHead) → has_good_host h.minor h.fields ≡ true → has_content h.fields ≡ true → Fault code.TooLarge ≡ head_verdict h
unfolding chosen
verdict-content h good content =
    sym (head_verdict-is h ∙ ap (λ t. chosen t (has_content h.fields) (asked h.method h.target (nat_eq h.minor 0 || says_close h.fields))) good
    ∙ ap (λ t. chosen true t (asked h.method h.target (nat_eq h.minor 0 || says_close h.fields))) content)

pub verdict-asked : (h : RequestHead) → has_good_host h.minor h.fields ≡ true → has_content h.fields ≡ false → asked h.method h.target (nat_eq h.minor 0 || says_close h.fields) ≡ head_verdict h
unfolding chosen
verdict-asked h good content =
    sym (head_verdict-is h ∙ ap (λ t. chosen t (has_content h.fields) (asked h.method h.target (nat_eq h.minor 0 || says_close h.fields))) good
    ∙ ap (λ t. chosen true t (asked h.method h.target (nat_eq h.minor 0 || says_close h.fields))) content)

-- ---- the verdict on a block

tested : Bool → Bool → Verdict → Verdict
tested many bare then_ = cond {A = Verdict} many (Fault code.FieldsTooLarge) (cond {A = Verdict} bare (Fault code.BadRequest) then_)

verdict-is : (b : List ℕ) → verdict b ≡ tested (nat_lt 66 (pairs_in b)) (has_bare_feed false b) (verdict_of (head_of b))
unfolding verdict tested
verdict-is b = refl

pub verdict-many : (b : List ℕ) → nat_lt 66 (pairs_in b) ≡ true → Fault code.FieldsTooLarge ≡ verdict b
unfolding tested
verdict-many b many = sym (verdict-is b ∙ ap (λ t. tested t (has_bare_feed false b) (verdict_of (head_of b))) many)

pub verdict-bare : (b : List ℕ) → nat_lt 66 (pairs_in b) ≡ false → has_bare_feed false b ≡ true → Fault code.BadRequest ≡ verdict b
unfolding tested
verdict-bare b few bare = sym (verdict-is b ∙ ap (λ t. tested t (has_bare_feed false b) (verdict_of (head_of b))) few ∙ ap (λ t. tested false t (verdict_of (head_of b))) bare)

-- what the bytes are read as decides
pub verdict-read : (b : List ℕ) (o : Option RequestHead) → nat_lt 66 (pairs_in b) ≡ false → has_bare_feed false b ≡ false → head_of b ≡ o → verdict_of o ≡ verdict b
unfolding tested
verdict-read b o few fine is =
    sym (verdict-is b ∙ ap (λ t. tested t (has_bare_feed false b) (verdict_of (head_of b))) few ∙ ap (λ t. tested false t (verdict_of (head_of b))) fine ∙ ap verdict_of is)

-- more than 66, or not
pub is_many : (n p : ℕ) → n ≡ p → 66 < n → nat_lt 66 p ≡ true
is_many n p same many = grind (arith, nat_tests)

pub is_few : (n p : ℕ) → n ≡ p → n ≤ 66 → nat_lt 66 p ≡ false
is_few n p same few = grind (arith, nat_tests)

-- an answer that is equal to another is it
pub is_too : {E : Type 0} (r : Result Verdict E) (a b : Verdict) → a ≡ b → IfOk r (λ v. v ≡ a) → IfOk r (λ v. v ≡ b)
is_too {E} r a b same h = subst (λ (x : Verdict). IfOk r (λ v. v ≡ x)) same h
