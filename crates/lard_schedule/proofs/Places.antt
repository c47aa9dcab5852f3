-- Words by themselves: places, and bytes in hexadecimal.
use Rattle.std.proofs.Common.{◌≡◌, ℕ, ◌≤◌, List, [], ◌∷◌, length, Bool, true, false, cond, Some, None, Result, Ok, Err, refl, ap, ◌∙◌, subst, arith}
use Rattle.std.specs.Prelude.{nat_eq, nat_le, codes, bytes_eq}
use Rattle.std.specs.Result.{result_ok}
use Rattle.std.proofs.lemmas.Bool.{eqb-true}
use Rattle.std.proofs.lemmas.Bool.Decides.{nat_tests}
use Rattle.std.proofs.lemmas.Slice.Eq.{bytes_eq-Decides}
use Rattle.hex.specs.Hex.{decode_of}
use Rattle.hex.specs.declared.error.FromHexError.{FromHexError}
use Rattle.lard_base.specs.Spelling.{place_word}
use Rattle.lard_base.specs.declared.place.Place.{Place}
use Rattle.lard_base.specs.declared.place.Place.TheVariants.{Front, Node, Client}
use Rattle.lard_schedule.specs.Words.{◌>>=◌, count_up_to}
use Rattle.lard_schedule.specs.Events.{IsPlace, hex_bytes_of, some_bytes_of, numbered_place, place_of}
use Rattle.lard_schedule.proofs.Found.{bind_some, some_same, cond_some, count_spelled, count_read}

-- a word that passes the test of a text is the text
pub text_is : (word text : List ℕ) → bytes_eq word text ≡ true → word ≡ text
text_is word text e = (bytes_eq-Decides word text).0 e

-- ---- places

abbrev IsSpelled : List ℕ → Place → Type 0
IsSpelled word place = (word ≡ place_word place) × IsPlace place

numbered_spelled : (b : ℕ) (bs : List ℕ) (place : Place) → numbered_place b bs ≡ Some place → IsSpelled (b ∷ bs) place
numbered_spelled b bs place e = of_node (nat_eq b 110) refl e where
  of_client : (t : Bool) → nat_eq b 99 ≡ t → cond t (count_up_to 16384 bs >>= (λ c. Some (Client c))) None ≡ Some place → IsSpelled (b ∷ bs) place
  of_client false f g = let none : None ≡ Some place = g in cc
  of_client true f g =
      let c = bind_some (count_up_to 16384 bs) _ place g in
      let spelled = count_spelled 16384 bs c.0 c.1 in
      subst (IsSpelled (b ∷ bs)) (some_same (Client c.0) place c.2) (ap (λ k. k ∷ bs) (eqb-true b 99 f) ∙ ap (λ ds. 99 ∷ ds) spelled.0, spelled.1)

  of_node : (t : Bool) → nat_eq b 110 ≡ t
      → cond t (count_up_to 64 bs >>= (λ n. Some (Node n))) (cond (nat_eq b 99) (count_up_to 16384 bs >>= (λ c. Some (Client c))) None) ≡ Some place → IsSpelled (b ∷ bs) place
  of_node false f g = of_client (nat_eq b 99) refl g
  of_node true f g =
      let n = bind_some (count_up_to 64 bs) _ place g in
      let spelled = count_spelled 64 bs n.0 n.1 in
      subst (IsSpelled (b ∷ bs)) (some_same (Node n.0) place n.2) (ap (λ k. k ∷ bs) (eqb-true b 110 f) ∙ ap (λ ds. 110 ∷ ds) spelled.0, spelled.1)

pub place_spelled : (word : List ℕ) (place : Place) → place_of word ≡ Some place → IsSpelled word place
unfolding place_of
place_spelled [] place e = let none : None ≡ Some place = e in cc
place_spelled (b ∷ bs) place e = go (bytes_eq (b ∷ bs) (codes "front")) refl e where
  go : (t : Bool) → bytes_eq (b ∷ bs) (codes "front") ≡ t → cond t (Some Front) (numbered_place b bs) ≡ Some place → IsSpelled (b ∷ bs) place
  go false f g = numbered_spelled b bs place g
  go true f g = subst (IsSpelled (b ∷ bs)) (some_same Front place g) (text_is _ _ f, tt)

pub place_read : (place : Place) → IsPlace place → place_of (place_word place) ≡ Some place
unfolding place_of
place_read Front range = refl
place_read (Node n) range = ap (λ o. o >>= λ k. Some (Node k)) (count_read 64 n (omega arith) range)
place_read (Client c) range = ap (λ o. o >>= λ k. Some (Client k)) (count_read 16384 c (omega arith) range)

-- ---- bytes

pub bytes_spelled : (word bytes : List ℕ) → hex_bytes_of word ≡ Some bytes → decode_of word ≡ Ok bytes
bytes_spelled word bytes e = go (decode_of word) refl e where
  go : (r : Result (List ℕ) FromHexError) → decode_of word ≡ r → result_ok r ≡ Some bytes → r ≡ Ok bytes
  go (Ok x) f g = ap Ok (some_same x bytes g)
  go (Err x) f g = let none : None ≡ Some bytes = g in cc

pub some_bytes_spelled : (word bytes : List ℕ) → some_bytes_of word ≡ Some bytes → (decode_of word ≡ Ok bytes) × (1 ≤ length bytes)
unfolding some_bytes_of
some_bytes_spelled word bytes e =
    let read = bind_some (hex_bytes_of word) _ bytes e in
    let tested = cond_some (nat_le 1 (length read.0)) read.0 bytes read.2 in
    let some : 1 ≤ length read.0 = let passed = tested.0 in grind (arith, nat_tests, passed) in
    subst (λ b. (decode_of word ≡ Ok b) × (1 ≤ length b)) tested.1 (bytes_spelled word read.0 read.1, some)

pub some_bytes_read : (word bytes : List ℕ) → decode_of word ≡ Ok bytes → 1 ≤ length bytes → some_bytes_of word ≡ Some bytes
unfolding some_bytes_of
some_bytes_read word bytes e some = let passed : nat_le 1 (length bytes) ≡ true = grind (arith, nat_tests, some) in rw (e, passed) refl
