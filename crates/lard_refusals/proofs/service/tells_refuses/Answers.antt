use Rattle.std.proofs.Common.{◌≡◌, ◌⊎◌, ℕ, ◌+◌, ◌<◌, ◌≤◌, true, false, [], length, refl, sym, ap, ⊎_elim, arith, Bool, List, Some, inl, inr, subst}
use Rattle.std.proofs.lemmas.Bool.{both_ways}
use Rattle.std.specs.List.{concat}
use Rattle.std.specs.Prelude.{codes, drop, slice_index, take}
use Rattle.lard_law_view.specs.Prelude.{IsPartAt, Numbers, Said, ToClient, answers, decoded, request, said_fin, seq_add}
use Rattle.lard_refusals.specs.Packets.{final_segment}
use Rattle.lard_refusals.specs.Refusals.{two_files}
use Rattle.lard_refusals.proofs.Responses.{answer_a, one-answer}
use Rattle.lard_refusals.proofs.Segments.{final-decodes, garbage-is-short, reset-decodes, reset_says, same-numbers, same-said, three-bytes-decode, three_bytes_say, two-bytes-decode, other-bytes-decode, other_bytes_say, from-the-end-decodes, from-zero-decodes, from_the_end_say, from_zero_say, two_bytes_say}
use Rattle.lard_refusals.proofs.service.tells_refuses.Goals as goal

-- ---- what a segment carries, and numbers modulo 2^32

-- bytes that are there stand at their offset
stands : (seq iss : ℕ) (payload all : List ℕ) → 0 < length payload → (payload ≡ []) ⊎ ((k : ℕ) × (seq ≡ seq_add iss (1 + k)) × IsPartAt k payload all) → (k : ℕ) × (seq ≡ seq_add iss (1 + k)) × IsPartAt k payload all
stands seq iss payload all some carries = ⊎_elim (λ (none : payload ≡ []). let zero : length payload ≡ 0 = ap length none in absurd (omega arith)) (λ part. part) carries

-- three bytes are more than the SYN and a FIN
too-much : (ack isn n : ℕ) → ack ≡ seq_add isn n → ack ≡ 1004 → isn ≡ 1000 → n ≤ 2 → ⊥
too-much ack isn n is four first few = omega arith

-- the greatest number is none of those behind it
not-behind : (seq iss k : ℕ) → seq ≡ seq_add iss (1 + k) → seq ≡ 4294967295 → iss ≡ 4294967295 → k + 2 ≤ 40 → ⊥
not-behind seq iss k is last first within = omega arith

-- the number behind the first is that of the first byte
is-first : (seq iss k : ℕ) → seq ≡ seq_add iss (1 + k) → seq ≡ 5001 → iss ≡ 5000 → k + 2 ≤ 40 → k ≡ 0
is-first seq iss k is second first within = omega arith

-- what client 1 is told once its request for /a is answered: the answer
abbrev told : List ℕ
told = concat (take 1 (answers two_files (request (codes "/a"))))

of-answer : (k : ℕ) (payload : List ℕ) → IsPartAt k payload told → IsPartAt k payload answer_a
of-answer k payload part = subst (λ (all : List (List ℕ)). IsPartAt k payload (concat (take 1 all))) one-answer part

-- ---- what is refused

pub returns-clause-no_segment : goal.returns-clause-no_segment
returns-clause-no_segment c h = garbage-is-short _ (h.0 refl).decodes

pub returns-clause-reset_at_will : goal.returns-clause-reset_at_will
returns-clause-reset_at_will c h =
    let t = h.1.0 refl in
    let says : t.said ≡ reset_says = same-said t.decodes reset-decodes in
    let was : false ≡ true = t.reset (ap (λ (s : Said). s.flags.rst) says) in
    cc

pub returns-clause-bytes_of_no_response : goal.returns-clause-bytes_of_no_response
returns-clause-bytes_of_no_response c h =
    let t = h.1.0 refl in
    let two : length t.said.payload ≡ 2 = ap (λ (s : Said). length s.payload) (same-said t.decodes two-bytes-decode) in
    let part = stands t.said.seq t.numbers.iss t.said.payload [] (omega arith) t.carries in
    let within : part.0 + length t.said.payload ≤ 0 = part.2.within in
    omega arith

pub returns-clause-bytes_begin_one_too_late : goal.returns-clause-bytes_begin_one_too_late
returns-clause-bytes_begin_one_too_late c h =
    let t = h.1.1.1.0 refl in
    let says : t.said ≡ other_bytes_say = same-said t.decodes other-bytes-decode in
    let two : length t.said.payload ≡ 2 = ap (λ (s : Said). length s.payload) says in
    let part = stands t.said.seq t.numbers.iss t.said.payload told (omega arith) t.carries in
    let k : ℕ = part.0 in
    let its : IsPartAt k (codes "TT") answer_a = subst (λ (s : Said). IsPartAt k s.payload answer_a) says (of-answer k t.said.payload part.2) in
    let start : k ≡ 0 = is-first t.said.seq t.numbers.iss k part.1 (ap (λ (s : Said). s.seq) says) (ap (λ (n : Numbers). n.iss) (same-numbers t.numbers t.opened)) its.within in
    let same : take 2 (drop 0 answer_a) ≡ codes "TT" = subst (λ (n : ℕ). take 2 (drop n answer_a) ≡ codes "TT") start its.same in
    let letters : ◌≡◌ {A = ℕ} 72 84 = ap (λ (bytes : List ℕ). slice_index bytes 0) same in
    omega arith

pub returns-clause-number_does_not_wrap : goal.returns-clause-number_does_not_wrap
returns-clause-number_does_not_wrap c h =
    let t = h.1.1.1.0 refl in
    let says : t.said ≡ from_the_end_say = same-said t.decodes from-the-end-decodes in
    let two : length t.said.payload ≡ 2 = ap (λ (s : Said). length s.payload) says in
    let part = stands t.said.seq t.numbers.iss t.said.payload told (omega arith) t.carries in
    let k : ℕ = part.0 in
    let its : IsPartAt k (codes "HT") answer_a = subst (λ (s : Said). IsPartAt k s.payload answer_a) says (of-answer k t.said.payload part.2) in
    let opened : Some (record { isn = 1000; iss = 4294967295 }) ≡ Some t.numbers = t.opened in
    let numbers : t.numbers ≡ record { isn = 1000; iss = 4294967295 } = cc in
    not-behind t.said.seq t.numbers.iss k part.1 (ap (λ (s : Said). s.seq) says) (ap (λ (n : Numbers). n.iss) numbers) its.within

pub returns-clause-acknowledged_before_it_is_written : goal.returns-clause-acknowledged_before_it_is_written
returns-clause-acknowledged_before_it_is_written c h =
    let t = h.1.0 refl in
    let says : t.said ≡ three_bytes_say = same-said t.decodes three-bytes-decode in
    let first : t.numbers.isn ≡ 1000 = ap (λ (n : Numbers). n.isn) (same-numbers t.numbers t.opened) in
    let some = t.acknowledges (ap (λ (s : Said). s.flags.rst) says) in
    too-much t.said.ack t.numbers.isn some.0 some.1 (ap (λ (s : Said). s.ack) says) first some.2

pub returns-clause-served_behind_the_end : goal.returns-clause-served_behind_the_end
returns-clause-served_behind_the_end c h =
    let sent : said_fin (decoded final_segment 1 ToClient) ≡ true = ap said_fin final-decodes in
    let not_sent : said_fin (decoded final_segment 1 ToClient) ≡ false = h.1.1.0 refl in
    both_ways _ not_sent sent

-- ---- what is allowed

-- the two bytes are the first of the answer
first-two : IsPartAt 0 (codes "HT") told
first-two = subst (λ (all : List (List ℕ)). IsPartAt 0 (codes "HT") (concat (take 1 all))) (sym one-answer) (record { within = omega arith; same = refl })

not-so : {A : Type 0} (b : Bool) → b ≡ false → b ≡ true → A
not-so b e f = absurd (both_ways b e f)

pub returns-clause-reset_behind_the_limit : goal.returns-clause-reset_behind_the_limit
returns-clause-reset_behind_the_limit c = (
  tt,
  (
    tt,
    (
      (λ untouched. record {
        said = reset_says;
        decodes = reset-decodes;
        numbers = record { isn = 1000; iss = 5000 };
        opened = refl;
        reset = λ e. refl;
        carries = inl refl;
        final = λ e. not-so false refl e;
        acknowledges = λ e. not-so true e refl;
      }),
      tt,
    ),
  ),
)

pub returns-clause-bytes_of_a_response : goal.returns-clause-bytes_of_a_response
returns-clause-bytes_of_a_response c = (
  tt,
  (
    tt,
    (
      (λ untouched. refl),
      (
        (λ untouched. record {
          said = two_bytes_say;
          decodes = two-bytes-decode;
          numbers = record { isn = 1000; iss = 5000 };
          opened = refl;
          reset = λ e. not-so false refl e;
          carries = inr (0, refl, first-two);
          final = λ e. not-so false refl e;
          acknowledges = λ e. (1, refl, omega arith);
        }),
        tt,
      ),
    ),
  ),
)

pub returns-clause-number_wraps : goal.returns-clause-number_wraps
returns-clause-number_wraps c = (
  tt,
  (
    tt,
    (
      (λ untouched. refl),
      (
        (λ untouched. record {
          said = from_zero_say;
          decodes = from-zero-decodes;
          numbers = record { isn = 1000; iss = 4294967295 };
          opened = refl;
          reset = λ e. not-so false refl e;
          carries = inr (0, refl, first-two);
          final = λ e. not-so false refl e;
          acknowledges = λ e. (1, refl, omega arith);
        }),
        tt,
      ),
    ),
  ),
)
