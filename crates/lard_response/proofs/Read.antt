-- What a response is read as: its code, whether it closes, and its content.
use Rattle.std.proofs.Common.{◌≡◌, ℕ, zero, suc, ◌+◌, ◌≤◌, ◌/◌, ◌%◌, Bool, true, false, List, [], ◌∷◌, ◌++◌, length, drop, get_or, cond, refl, sym, ap, ◌∙◌, append_assoc, arith, nat_eq, nat_lt, nat_le, decimal, codes, ◌==◌}
use Rattle.std.specs.Fmt.{digits, digits_onto, digit_glyph}
use Rattle.std.proofs.lemmas.List.{append_cancel_left, append-nil}
use Rattle.std.proofs.lemmas.Bool.Decides.{nat_tests}
use Rattle.lard_request.specs.declared.verdict.Code.{Code}
use Rattle.lard_request.specs.declared.verdict.Code.TheVariants.{Ok, BadRequest, NotFound, TooLarge, FieldsTooLarge, NotImplemented}
use Rattle.lard_response.specs.Response.{status_line, length_line, close_line, response}
use Rattle.lard_response.proofs.Statuses.{status_text, status_written}

-- ---- the code, by the first and the last digit of its number

abbrev code_read : List ℕ → Code
code_read text =
    cond (nat_eq (get_or text 9 0) 50) Ok
    (cond (nat_eq (get_or text 9 0) 53) NotImplemented
    (cond (nat_eq (get_or text 11 0) 48) BadRequest
    (cond (nat_eq (get_or text 11 0) 49) FieldsTooLarge
    (cond (nat_eq (get_or text 11 0) 51) TooLarge
    NotFound))))

code_back : (code : Code) (rest : List ℕ) → code_read (status_text code ++ rest) ≡ code
code_back Ok rest = refl
code_back BadRequest rest = refl
code_back NotFound rest = refl
code_back TooLarge rest = refl
code_back FieldsTooLarge rest = refl
code_back NotImplemented rest = refl

-- ---- digits, and what is behind them

abbrev behind_digits : List ℕ → List ℕ
behind_digits [] = []
behind_digits (b ∷ rest) = cond (nat_le 48 b) (behind_digits rest) (b ∷ rest)

glyph-above : (n : ℕ) → 48 ≤ digit_glyph false n
glyph-above n = go (nat_lt n 10) where
  go : (b : Bool) → 48 ≤ cond b (48 + n) (87 + n)
  go true = omega arith
  go false = omega arith

digit-behind : (n : ℕ) (rest : List ℕ) → behind_digits (digit_glyph false n ∷ rest) ≡ behind_digits rest
digit-behind n rest =
    let h : 48 ≤ digit_glyph false n = glyph-above n in
    let e : nat_le 48 (digit_glyph false n) ≡ true = grind (arith, nat_tests, h) in
    ap (λ b. cond b (behind_digits rest) (digit_glyph false n ∷ rest)) e

digits_onto-behind : (k n : ℕ) (acc rest : List ℕ) → behind_digits (acc ++ 13 ∷ rest) ≡ 13 ∷ rest → behind_digits (digits_onto k 10 false n acc ++ 13 ∷ rest) ≡ 13 ∷ rest
digits_onto-behind zero n acc rest h = h
digits_onto-behind (suc k) n acc rest h = go (digits_onto-behind k (n / 10) (digit_glyph false (n % 10) ∷ acc) rest more) (n / 10 == 0) where
  more : behind_digits (digit_glyph false (n % 10) ∷ (acc ++ 13 ∷ rest)) ≡ 13 ∷ rest
  more = digit-behind (n % 10) (acc ++ 13 ∷ rest) ∙ h

  go : behind_digits (digits_onto k 10 false (n / 10) (digit_glyph false (n % 10) ∷ acc) ++ 13 ∷ rest) ≡ 13 ∷ rest → (b : Bool)
      → behind_digits (cond b (digit_glyph false (n % 10) ∷ acc) (digits_onto k 10 false (n / 10) (digit_glyph false (n % 10) ∷ acc)) ++ 13 ∷ rest) ≡ 13 ∷ rest
  go ih true = more
  go ih false = ih

decimal-behind : (n : ℕ) (rest : List ℕ) → behind_digits (decimal n ++ 13 ∷ rest) ≡ 13 ∷ rest
unfolding digits
decimal-behind n rest = digits_onto-behind 64 n [] rest refl

-- ---- the parts of a response, and the same read back

abbrev behind_status : List ℕ → Bool → List ℕ
behind_status body close = codes "Content-Length: " ++ (decimal (length body) ++ 13 ∷ (10 ∷ (close_line close ++ 13 ∷ (10 ∷ body))))

regroup : (s l d e c b : List ℕ) → (((s ++ ((l ++ d) ++ e)) ++ c) ++ e) ++ b ≡ s ++ (l ++ (d ++ (e ++ (c ++ (e ++ b)))))
regroup s l d e c b = simp append_assoc

parts : (code : Code) (body : List ℕ) (close : Bool) → response code body false close ≡ status_text code ++ behind_status body close
unfolding response
parts code body close = regroup (status_line code) (codes "Content-Length: ") (decimal (length body)) (codes "\r\n") (close_line close) body
    ∙ ap (λ w. w ++ behind_status body close) (sym (status_written code))

same_code : (c d : Code) (x y : List ℕ) → status_text c ++ x ≡ status_text d ++ y → c ≡ d
same_code c d x y h = sym (code_back c x) ∙ ap code_read h ∙ code_back d y

same_rest : (a b : List ℕ) (j k : Bool) → behind_status a j ≡ behind_status b k → close_line j ++ 13 ∷ (10 ∷ a) ≡ close_line k ++ 13 ∷ (10 ∷ b)
same_rest a b j k h =
    let x : List ℕ = close_line j ++ 13 ∷ (10 ∷ a) in
    let y : List ℕ = close_line k ++ 13 ∷ (10 ∷ b) in
    let e : 13 ∷ (10 ∷ x) ≡ 13 ∷ (10 ∷ y) =
    sym (decimal-behind (length a) (10 ∷ x)) ∙ ap (λ w. behind_digits (drop 16 w)) h ∙ decimal-behind (length b) (10 ∷ y) in
    ap (drop 2) e

same_content : (a b : List ℕ) (j k : Bool) → close_line j ++ 13 ∷ (10 ∷ a) ≡ close_line k ++ 13 ∷ (10 ∷ b) → (a ≡ b) × (j ≡ k)
same_content a b true true h =
    let e : 13 ∷ (10 ∷ a) ≡ 13 ∷ (10 ∷ b) = append_cancel_left (codes "Connection: close\r\n") (13 ∷ (10 ∷ a)) (13 ∷ (10 ∷ b)) h in
    (ap (drop 2) e, refl)
same_content a b false false h = (ap (drop 2) h, refl)
same_content a b true false h = let e : 67 ≡ 13 = ap (λ (w : List ℕ). get_or w 0 0) h in absurd (omega (arith, e))
same_content a b false true h = let e : 13 ≡ 67 = ap (λ (w : List ℕ). get_or w 0 0) h in absurd (omega (arith, e))

-- two responses with their content that are the same are of the same code and content, and close alike
pub told : (c d : Code) (a b : List ℕ) (j k : Bool) → response c a false j ≡ response d b false k → (c ≡ d) × (a ≡ b) × (j ≡ k)
told c d a b j k h =
    let e : status_text c ++ behind_status a j ≡ status_text d ++ behind_status b k = sym (parts c a j) ∙ h ∙ parts d b k in
    let s : c ≡ d = same_code c d (behind_status a j) (behind_status b k) e in
    let f : status_text c ++ behind_status a j ≡ status_text c ++ behind_status b k = e ∙ ap (λ i. status_text i ++ behind_status b k) (sym s) in
    let r : (a ≡ b) × (j ≡ k) = same_content a b j k (same_rest a b j k (append_cancel_left (status_text c) (behind_status a j) (behind_status b k) f)) in
    (s, r.0, r.1)

-- the answer to HEAD is the same without the content
pub without_content : (code : Code) (body : List ℕ) (close : Bool) → response code body false close ≡ response code body true close ++ body
unfolding response
without_content code body close =
    ap (λ w. w ++ body) (sym (append-nil (status_line code ++ length_line (length body) ++ close_line close ++ codes "\r\n")))
