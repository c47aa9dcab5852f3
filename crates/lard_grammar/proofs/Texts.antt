-- Lines make a text, and the text is cut into these lines.
use Rattle.std.proofs.Common.{◌≡◌, ◌≢◌, ℕ, suc, ◌+◌, ◌<◌, List, [], ◌∷◌, ◌++◌, length, take, drop, get_or, true, cond, Option, Some, None, refl, sym, ap, ◌∙◌, subst, append_assoc, arith}
use Rattle.std.proofs.Math.Seq.{drop-append-add, drop-cons, take-append_seam}
use Rattle.std.proofs.lemmas.Bool.Decides.{nat_tests}
use Rattle.std.proofs.lemmas.List.{length-take-le, take-append-drop}
use Rattle.std.proofs.lemmas.List.Quantifiers.{position-Some}
use Rattle.std.specs.List.{position}
use Rattle.std.specs.Prelude.{nat_lt}
use Rattle.lard_lines.proofs.Feeds.{found_before, found_behind}
use Rattle.lard_lines.specs.Lines.{is_feed, lines_of}
use Rattle.lard_schedule.proofs.Cuts.{first_part, split_alone, split_at}
use Rattle.lard_grammar.specs.Schedule.{AreLines, text_of}

-- ---- lines make a text

behind_line : (line rest : List ℕ) → drop (length line + 1) (line ++ 10 ∷ rest) ≡ rest
behind_line line rest = drop-append-add line (10 ∷ rest) 1

first_feed : (rest : List ℕ) → position is_feed (10 ∷ rest) ≡ Some 0
first_feed rest =
    let some : nat_lt 0 (length (10 ∷ rest)) ≡ true = grind (arith, nat_tests) in
    ap (λ t. cond t (Some 0) None) some

feed_behind : (line rest : List ℕ) → position is_feed line ≡ None → position is_feed (line ++ 10 ∷ rest) ≡ Some (length line + 0)
feed_behind line rest none = found_behind is_feed line (10 ∷ rest) 0 none (first_feed rest)

one_cut : (line rest : List ℕ) → position is_feed line ≡ None → lines_of (line ++ 10 ∷ rest) ≡ line ∷ lines_of rest
one_cut line rest none =
    let at : position is_feed (line ++ 10 ∷ rest) ≡ Some (length line) = feed_behind line rest none ∙ ap (λ n. Some n) (omega arith) in
    split_at is_feed (line ++ 10 ∷ rest) (length line) at
    ∙ ap (λ first. first ∷ lines_of (drop (length line + 1) (line ++ 10 ∷ rest))) (take-append_seam line (10 ∷ rest))
    ∙ ap (λ xs. line ∷ lines_of xs) (behind_line line rest)

pub cut_again : (lines : List (List ℕ)) → AreLines lines → lines_of (text_of lines) ≡ lines ++ [] ∷ []
cut_again [] are = refl
cut_again (line ∷ lines) are = one_cut line (text_of lines) are.0 ∙ ap (λ ls. line ∷ ls) (cut_again lines are.1)

-- ---- a text is made of the lines into which it is cut

-- a byte that is a line feed is 10
feed_is : (b : ℕ) → is_feed b ≡ true → b ≡ 10
feed_is b e = grind (arith, nat_tests, e)

module _ (text : List ℕ) (i : ℕ) (is : position is_feed text ≡ Some i) where
  within : i < length text
  within = (position-Some is_feed text i 0 is).0

  joined_at : take i text ++ 10 ∷ drop (i + 1) text ≡ text
  joined_at =
      let feed : get_or text i 0 ≡ 10 = feed_is (get_or text i 0) (position-Some is_feed text i 0 is).1 in
      let next : suc i ≡ i + 1 = omega arith in
      let cut : drop i text ≡ 10 ∷ drop (i + 1) text = drop-cons text i 0 within ∙ ap (λ b. b ∷ drop (suc i) text) feed ∙ ap (λ n. 10 ∷ drop n text) next in
      ap (λ xs. take i text ++ xs) (sym cut) ∙ take-append-drop i text

  none_first : position is_feed (take i text) ≡ None
  none_first = go (position is_feed (take i text)) refl where
    go : (o : Option ℕ) → position is_feed (take i text) ≡ o → o ≡ None
    go None e = refl
    go (Some j) e =
        let low : j < length (take i text) = (position-Some is_feed (take i text) j 0 e).0 in
        let len : length (take i text) ≡ i = length-take-le i text (omega (arith, within)) in
        let again : position is_feed (take i text ++ drop i text) ≡ Some j = found_before is_feed (take i text) (drop i text) j e in
        let there : Some j ≡ Some i = sym again ∙ ap (λ xs. position is_feed xs) (take-append-drop i text) ∙ is in
        let same : j ≡ i = cc in
        absurd (omega (arith, low, len, same))

no_lines : (lines : List (List ℕ)) (line : List ℕ) → lines ++ line ∷ [] ≢ []
no_lines [] line e = cc
no_lines (first ∷ lines) line e = cc

head_same : (a b : List ℕ) (xs ys : List (List ℕ)) → a ∷ xs ≡ b ∷ ys → a ≡ b
head_same a b xs ys e = cc

tail_same : (a b : List ℕ) (xs ys : List (List ℕ)) → a ∷ xs ≡ b ∷ ys → xs ≡ ys
tail_same a b xs ys e = cc

-- the text is that of the lines, which have no line feed
abbrev pub IsMadeOf : List ℕ → List (List ℕ) → Type 0
IsMadeOf text lines = (text ≡ text_of lines) × AreLines lines

pub joined : (lines : List (List ℕ)) (text : List ℕ) → lines_of text ≡ lines ++ [] ∷ [] → IsMadeOf text lines
joined [] text e = go (position is_feed text) refl where
  go : (o : Option ℕ) → position is_feed text ≡ o → IsMadeOf text []
  go None f = (head_same text [] [] [] (sym (split_alone is_feed text f) ∙ e), tt)
  go (Some i) f =
      let behind = first_part is_feed (drop (i + 1) text) in
      let none : behind.0 ∷ behind.1 ≡ [] = sym behind.2 ∙ tail_same (take i text) [] (lines_of (drop (i + 1) text)) [] (sym (split_at is_feed text i f) ∙ e) in cc
joined (line ∷ lines) text e = go (position is_feed text) refl (λ rest f. joined lines rest f) where
  go : (o : Option ℕ) → position is_feed text ≡ o → ((rest : List ℕ) → lines_of rest ≡ lines ++ [] ∷ [] → IsMadeOf rest lines) → IsMadeOf text (line ∷ lines)
  go None f later = absurd (no_lines lines [] (sym (tail_same text line [] (lines ++ [] ∷ []) (sym (split_alone is_feed text f) ∙ e))))
  go (Some i) f later =
      let both : take i text ∷ lines_of (drop (i + 1) text) ≡ line ∷ (lines ++ [] ∷ []) = sym (split_at is_feed text i f) ∙ e in
      let first : take i text ≡ line = head_same (take i text) line (lines_of (drop (i + 1) text)) (lines ++ [] ∷ []) both in
      let rest = later (drop (i + 1) text) (tail_same (take i text) line (lines_of (drop (i + 1) text)) (lines ++ [] ∷ []) both) in (
        sym (joined_at text i f) ∙ ap (λ l. l ++ 10 ∷ drop (i + 1) text) first ∙ ap (λ xs. line ++ 10 ∷ xs) rest.0,
        (subst (λ l. position is_feed l ≡ None) first (none_first text i f), rest.1),
      )

-- The first of the lines make a front of the text, if there are more. What comes behind it has the others.
abbrev pub HasFront : List ℕ → List (List ℕ) → Type 0
HasFront text lines = (behind : List ℕ) × (text ≡ text_of lines ++ behind) × AreLines lines

pub front_joined : (lines rest : List (List ℕ)) (text : List ℕ) → lines_of text ≡ lines ++ rest → rest ≢ [] → HasFront text lines
front_joined [] rest text e some = (text, refl, tt)
front_joined (line ∷ lines) rest text e some = go (position is_feed text) refl (λ xs f. front_joined lines rest xs f some) where
  none_left : (ls : List (List ℕ)) → ls ++ rest ≢ []
  none_left [] f = some f
  none_left (l ∷ ls) f = cc

  go : (o : Option ℕ) → position is_feed text ≡ o → ((xs : List ℕ) → lines_of xs ≡ lines ++ rest → HasFront xs lines) → HasFront text (line ∷ lines)
  go None f later = absurd (none_left lines (sym (tail_same text line [] (lines ++ rest) (sym (split_alone is_feed text f) ∙ e))))
  go (Some i) f later =
      let both : take i text ∷ lines_of (drop (i + 1) text) ≡ line ∷ (lines ++ rest) = sym (split_at is_feed text i f) ∙ e in
      let first : take i text ≡ line = head_same (take i text) line (lines_of (drop (i + 1) text)) (lines ++ rest) both in
      let front = later (drop (i + 1) text) (tail_same (take i text) line (lines_of (drop (i + 1) text)) (lines ++ rest) both) in (
        front.0,
        sym (joined_at text i f) ∙ ap (λ l. l ++ 10 ∷ drop (i + 1) text) first ∙ ap (λ xs. line ++ 10 ∷ xs) front.1 ∙ sym (append_assoc line (10 ∷ text_of lines) front.0),
        (subst (λ l. position is_feed l ≡ None) first (none_first text i f), front.2),
      )
