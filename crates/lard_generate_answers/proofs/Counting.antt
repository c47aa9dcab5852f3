-- What is counted of a journal is what it says of its connections together.
use Rattle.std.proofs.Common.{◌≡◌, ◌⊎◌, inl, inr, ℕ, ◌+◌, Bool, true, false, cond, nat_eq, List, [], ◌∷◌, ◌++◌, length, refl, sym, ◌∙◌, length-append, arith}
use Rattle.std.specs.List.{fold}
use Rattle.lard_law_view.specs.Prelude.{Rec, accepted, accepted_step, served, served_step}
use Rattle.lard_journal.specs.declared.rec.Rec.TheVariants as rec
use Rattle.lard_summary.specs.Counts as counted
use Rattle.lard_generate_answers.specs.Counted.{sum_to}
use Rattle.lard_generate_answers.proofs.Sums.{IsTo, by-number, share, sum-same, weigh}

-- ---- responses

-- whose response a record tells of, and that it is one
abbrev responded : Rec → ℕ
responded (rec.Served place c r code size via) = c
responded _ = 0

abbrev responses : Rec → ℕ
responses (rec.Served place c r code size via) = 1
responses _ = 0

one-request : (n : ℕ) (r : Rec) → counted.request_step n r ≡ n + responses r
one-request n (rec.Served place c r code size via) = refl
one-request n _ = omega arith

all-requests : (n : ℕ) (J : List Rec) → fold counted.request_step n J ≡ n + weigh responses J
all-requests n [] = omega arith
all-requests n (r ∷ J) = let one = one-request n r in let more = all-requests (counted.request_step n r) J in omega (arith, one, more)

one-served : (c n : ℕ) (r : Rec) → served_step c n r ≡ n + share responded responses c r
one-served c n (rec.Served place d r code size via) = go (nat_eq d c) where
  go : (b : Bool) → cond b (n + 1) n ≡ n + cond b 1 0
  go true = refl
  go false = omega arith
one-served c n r = go (nat_eq 0 c) where
  go : (b : Bool) → n ≡ n + cond b 0 0
  go true = omega arith
  go false = omega arith

all-served : (c n : ℕ) (J : List Rec) → fold (served_step c) n J ≡ n + weigh (share responded responses c) J
all-served c n [] = omega arith
all-served c n (r ∷ J) = let one = one-served c n r in let more = all-served c (served_step c n r) J in omega (arith, one, more)

-- ---- bytes

-- whose bytes a record tells of that were accepted, and how many
abbrev receiver : Rec → ℕ
receiver (rec.Accepted c bytes) = c
receiver _ = 0

abbrev received : Rec → ℕ
received (rec.Accepted c bytes) = length bytes
received _ = 0

one-taken : (n : ℕ) (r : Rec) → counted.accepted_bytes_step n r ≡ n + received r
one-taken n (rec.Accepted c bytes) = refl
one-taken n _ = omega arith

all-taken : (n : ℕ) (J : List Rec) → fold counted.accepted_bytes_step n J ≡ n + weigh received J
all-taken n [] = omega arith
all-taken n (r ∷ J) = let one = one-taken n r in let more = all-taken (counted.accepted_bytes_step n r) J in omega (arith, one, more)

one-accepted : (c : ℕ) (before : List ℕ) (r : Rec) → length (accepted_step c before r) ≡ length before + share receiver received c r
one-accepted c before (rec.Accepted d bytes) = go (nat_eq d c) where
  go : (b : Bool) → length (cond b (before ++ bytes) before) ≡ length before + cond b (length bytes) 0
  go true = length-append before bytes
  go false = omega arith
one-accepted c before r = go (nat_eq 0 c) where
  go : (b : Bool) → length before ≡ length before + cond b 0 0
  go true = omega arith
  go false = omega arith

all-accepted : (c : ℕ) (before : List ℕ) (J : List Rec) → length (fold (accepted_step c) before J) ≡ length before + weigh (share receiver received c) J
all-accepted c before [] = omega arith
all-accepted c before (r ∷ J) =
    let one = one-accepted c before r in
    let more = all-accepted c (accepted_step c before r) J in
    omega (arith, one, more)

-- ---- of all connections

module _ (n : ℕ) (J : List Rec) where
  -- Where nothing was served on other connections, the requests that are counted are those of connections 1 to n.
  pub requests-together : ((c : ℕ) → IsTo n c ⊎ (served J c ≡ 0)) → counted.requests_answered J ≡ sum_to (served J) n
  requests-together h =
      let all : counted.requests_answered J ≡ weigh responses J = all-requests 0 J ∙ omega arith in
      all ∙ by-number responded responses n J (λ c. one c (h c)) ∙ sym (sum-same (served J) (λ c. weigh (share responded responses c) J) n (λ c to. is c)) where
        is : (c : ℕ) → served J c ≡ weigh (share responded responses c) J
        is c = all-served c 0 J ∙ omega arith

        one : (c : ℕ) → IsTo n c ⊎ (served J c ≡ 0) → IsTo n c ⊎ (weigh (share responded responses c) J ≡ 0)
        one c (inl to) = inl to
        one c (inr none) = inr (sym (is c) ∙ none)

  -- Where other clients accepted nothing, the bytes that are counted are those of clients 1 to n.
  pub bytes-together : ((c : ℕ) → IsTo n c ⊎ (length (accepted J c) ≡ 0)) → counted.accepted_bytes J ≡ sum_to (λ c. length (accepted J c)) n
  bytes-together h =
      let all : counted.accepted_bytes J ≡ weigh received J = all-taken 0 J ∙ omega arith in
      all ∙ by-number receiver received n J (λ c. one c (h c)) ∙ sym (sum-same (λ c. length (accepted J c)) (λ c. weigh (share receiver received c) J) n (λ c to. is c)) where
        is : (c : ℕ) → length (accepted J c) ≡ weigh (share receiver received c) J
        is c = all-accepted c [] J ∙ omega arith

        one : (c : ℕ) → IsTo n c ⊎ (length (accepted J c) ≡ 0) → IsTo n c ⊎ (weigh (share receiver received c) J ≡ 0)
        one c (inl to) = inl to
        one c (inr none) = inr (sym (is c) ∙ none)
