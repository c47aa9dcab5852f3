-- The lines of a schedule can spell a generated one.
use Rattle.std.proofs.Common.{◌≡◌, ℕ, zero, suc, ◌+◌, ◌-◌, ◌*◌, ◌/◌, ◌%◌, ◌<◌, ◌≤◌, ◌^◌, Bool, true, false, ◌&&◌, List, [], ◌∷◌, ◌++◌, length, map, All, refl, ap, ◌∙◌, arith}
use Rattle.std.specs.Prelude.{decimal, nat_eq, nat_lt, slice_index, if◌then◌else◌}
use Rattle.std.specs.Int.{w32, rotate_right}
use Rattle.std.specs.List.{list_all}
use Rattle.std.specs.Str.Parse.{AllDigits}
use Rattle.std.proofs.Math.Nat.{div-le_self}
use Rattle.std.proofs.lemmas.Bool.Decides.{nat_tests}
use Rattle.std.proofs.lemmas.Fmt.{decimal_is_IsNumeral, length-decimal-le}
use Rattle.std.proofs.lemmas.List.Elements.{All-nil, All-cons, All-append, All-map, All-get_or}
use Rattle.std.proofs.lemmas.List.Folds.{list_all-append}
use Rattle.std.proofs.lemmas.List.Sums.{list_all-from_AllPass}
use Rattle.std.proofs.lemmas.Nat.{or_of_32}
use Rattle.std.proofs.lemmas.Str.Parse.{digit_from_value}
use Rattle.hex.specs.Hex.{IsBytes}
use Rattle.rand_pcg.specs.Lcg.{Lcg}
use Rattle.lard_base.specs.declared.event.Event.TheVariants as event
use Rattle.lard_schedule.specs.Events.{is_visible}
use Rattle.lard_schedule.specs.Files.{is_file_path, is_no_question}
use Rattle.lard_generate.specs.declared.action.Action.{Action}
use Rattle.lard_generate.specs.declared.action.Action.TheVariants.{Ask, Shut}
use Rattle.lard_generate.specs.Clients.{drawn_actions, drawn_ask, drawn_fate, drawn_open, action_event, fate_at, fields, request_head, rounds, shut_at}
use Rattle.lard_generate.specs.Draws.{behind, draw, each, seeded, drawn_word}
use Rattle.lard_generate.specs.Files.{generated_content, drawn_size, generated_file, generated_files, listed_to, generated_path}
use Rattle.lard_generate.specs.Generated.{generated}
use Rattle.lard_generate.specs.Laws.{EventsAreSpelled, FilesAreSpelled, IsSpelled, IsSpelledFile}
use Rattle.lard_generate.proofs.Listing.{length-listed}
use Rattle.lard_generate.proofs.Making.{All-each}
use Rattle.lard_generate.proofs.Ranges.{IsSmall, length-sizes, rounds_are_fit, sizes_small}

-- ---- draws

turned : (n by : ℕ) → n < 2 ^ 32 → rotate_right w32 n by < 2 ^ 32
turned n by small = or_of_32 (n / 2 ^ (by % 32)) (n * 2 ^ ((32 - by % 32) % 32) % 2 ^ 32) (omega (arith, div-le_self n (2 ^ (by % 32)))) (omega arith)

-- a word has 32 bits
word_fits : (g : Lcg) → drawn_word g < 2 ^ 32
unfolding drawn_word
word_fits g = turned _ (g.state / 2 ^ 59) (omega arith)

-- ---- bytes

both : (a b : Bool) → a && b ≡ true → (a ≡ true) × (b ≡ true)
both true b e = (refl, e)
both false b e = cc

all_three : (a b c : Bool) → a ≡ true → b ≡ true → c ≡ true → (a && b) && c ≡ true
all_three true true true d e f = refl
all_three false b c d e f = cc
all_three true false c d e f = cc
all_three true true false d e f = cc

abbrev is_byte : ℕ → Bool
is_byte b = nat_lt b 256

bytes_pass : (xs : List ℕ) → list_all is_byte xs ≡ true → IsBytes xs
bytes_pass [] e zero = omega arith
bytes_pass [] e (suc i) = omega arith
bytes_pass (x ∷ xs) e zero = let first = (both (is_byte x) (list_all is_byte xs) e).0 in grind (arith, nat_tests, first)
bytes_pass (x ∷ xs) e (suc i) = bytes_pass xs (both (is_byte x) (list_all is_byte xs) e).1 i

digits_pass : (p : ℕ → Bool) → ((b : ℕ) → 48 ≤ b → b ≤ 57 → p b ≡ true) → (ds : List ℕ) → AllDigits 10 ds → list_all p ds ≡ true
digits_pass p fine [] all = refl
digits_pass p fine (b ∷ bs) all =
    let range = digit_from_value b all.0 in
    ap (λ t. t && list_all p bs) (fine b range.0 range.1) ∙ digits_pass p fine bs all.1

decimal_passes : (p : ℕ → Bool) → ((b : ℕ) → 48 ≤ b → b ≤ 57 → p b ≡ true) → (n : ℕ) → n < 2 ^ 64 → list_all p (decimal n) ≡ true
decimal_passes p fine n small = digits_pass p fine (decimal n) (decimal_is_IsNumeral n small).0.1

-- what holds at each place of a list that is given place by place
All-listed : {A : Type 0} (P : A → Type 0) (f : ℕ → A) (n : ℕ) → ((k : ℕ) → k < n → P (f k)) → All P (listed_to f n)
unfolding listed_to
All-listed P f zero holds = All-nil P
All-listed P f (suc n) holds =
    All-append P (listed_to f n) (f n ∷ []) (All-listed P f n (λ k low. holds k (omega arith))) (All-cons P (f n) [] (holds n (omega arith)) (All-nil P))

-- ---- files

path_fine : (i : ℕ) → i < 256 → is_file_path (generated_path i) ≡ true
path_fine i small =
    let digits = decimal i in
    let short : nat_lt (length (102 ∷ digits)) 1024 ≡ true = grind (arith, nat_tests, length-decimal-le 3 i (omega arith) (omega arith) (omega arith)) in
    let visible = decimal_passes is_visible (λ b low high. grind (arith, nat_tests, low, high)) i (omega arith) in
    let plain = decimal_passes is_no_question (λ b low high. grind (arith, nat_tests, low, high)) i (omega arith) in
    all_three (nat_lt (length (102 ∷ digits)) 1024) (list_all is_visible digits) (list_all is_no_question digits) short visible plain

content_fine : (i size : ℕ) → IsBytes (generated_content i size)
content_fine i size =
    bytes_pass (generated_content i size)
    (list_all-from_AllPass is_byte (generated_content i size) (All-listed (λ b. is_byte b ≡ true) (λ j. (i + j) % 256) size (λ j low. grind (arith, nat_tests))))

sizes_some : (g : Lcg) → All (λ size. 1 ≤ size) (each drawn_size 256 g).0
sizes_some g = All-each (λ size. 1 ≤ size) drawn_size 256 g (λ k h low high. All-cons (λ size. 1 ≤ size) (1 + draw 8192 h) [] (omega arith) (All-nil (λ size. 1 ≤ size)))

sized_fine : (g : Lcg) → All IsSpelledFile (generated_files (each drawn_size 256 g).0)
sized_fine g =
    let sizes = (each drawn_size 256 g).0 in
    All-listed IsSpelledFile (generated_file sizes) 256 (λ i small.
    let least : 1 ≤ slice_index sizes i = All-get_or (λ size. 1 ≤ size) sizes i 0 (omega (arith, length-sizes g)) (sizes_some g) in
    let most : slice_index sizes i ≤ 8192 = All-get_or IsSmall sizes i 0 (omega (arith, length-sizes g)) (sizes_small g) in
    let length_is = length-listed (λ j. (i + j) % 256) (slice_index sizes i) in
    (path_fine i small, omega (arith, least, length_is), omega (arith, most, length_is), content_fine i (slice_index sizes i)))

pub files_spelled : FilesAreSpelled
unfolding generated
files_spelled seed clients = sized_fine (seeded seed)

-- ---- events

opens_fine : (clients : ℕ) (g : Lcg) → clients ≤ 2000 → All IsSpelled (each drawn_open clients g).0
opens_fine clients g few =
    All-each IsSpelled drawn_open clients g (λ c h low high.
    All-cons IsSpelled (event.Open c (drawn_word h) (drawn_word (behind h)) 65535 1460) []
    (((low, omega arith), word_fits h, word_fits (behind h), (omega arith, omega arith), (omega arith, omega arith)), tt) (All-nil IsSpelled))

head_fine : (file : ℕ) → file < 256 → IsBytes (request_head file)
unfolding fields
head_fine file small =
    bytes_pass (request_head file)
    (list_all-append is_byte (decimal file) fields ∙ ap (λ t. t && list_all is_byte fields) (decimal_passes is_byte (λ b low high. grind (arith, nat_tests, low, high)) file (omega arith)))

-- the event of an action is spelled
abbrev IsFine : Action → Type 0
IsFine action = IsSpelled (action_event action)

shut_fine : (c n : ℕ) → 1 ≤ c → c ≤ 2000 → All IsFine (shut_at c n)
shut_fine c n low high = go (nat_eq n 0) where
  go : (b : Bool) → All IsFine (if b then [] else Shut c ∷ [])
  go true = All-nil IsFine
  go false = All-cons IsFine (Shut c) [] ((low, omega arith), tt) (All-nil IsFine)

asks_fine : (c n : ℕ) (g : Lcg) → 1 ≤ c → c ≤ 2000 → All IsFine (each (drawn_ask c) n g).0
asks_fine c n g low high =
    All-each IsFine (drawn_ask c) n g (λ k h _ _.
    All-cons IsFine (Ask c (draw 256 h)) []
    (((low, omega arith), omega arith), head_fine (draw 256 h) (omega arith)) (All-nil IsFine))

actions_fine : (clients : ℕ) (g : Lcg) → clients ≤ 2000 → All IsFine (each drawn_actions clients g).0
actions_fine clients g few =
    All-each IsFine drawn_actions clients g (λ c h low high.
    let asks = each (drawn_ask c) (1 + draw 10 h) (behind h) in
    All-append IsFine asks.0 (shut_at c (draw 4 asks.1)) (asks_fine c (1 + draw 10 h) (behind h) low (omega arith)) (shut_fine c (draw 4 asks.1) low (omega arith)))

fate_fine : (c n : ℕ) → c ≤ 2000 → All IsSpelled (fate_at c n)
fate_fine c n high = go (nat_eq n 0) (nat_eq n 1) where
  go : (a b : Bool) → All IsSpelled (if a then event.Lose c ∷ [] else if b then event.Deliver c ∷ event.Deliver c ∷ [] else [])
  go true b = All-cons IsSpelled (event.Lose c) [] (omega arith, tt) (All-nil IsSpelled)
  go false true = All-cons IsSpelled (event.Deliver c) (event.Deliver c ∷ []) (omega arith, tt) (All-cons IsSpelled (event.Deliver c) [] (omega arith, tt) (All-nil IsSpelled))
  go false false = All-nil IsSpelled

fates_fine : (clients : ℕ) (g : Lcg) → clients ≤ 2000 → All IsSpelled (each drawn_fate clients g).0
fates_fine clients g few = All-each IsSpelled drawn_fate clients g (λ c h low high. fate_fine c (draw 8 h) (omega arith))

pub events_spelled : EventsAreSpelled
unfolding generated
events_spelled seed clients few =
    let sizes = each drawn_size 256 (seeded seed) in
    let opens = each drawn_open clients sizes.1 in
    let actions = each drawn_actions clients opens.1 in
    let fates = each drawn_fate clients actions.1 in
    let moves = map action_event actions.0 in
    let last = event.Settle (rounds clients sizes.0 actions.0) in
    let fit = rounds_are_fit clients (seeded seed) sizes.1 opens.1 actions.1 sizes.0 actions.0 few refl refl in
    let acted = All-map IsSpelled action_event actions.0 (actions_fine clients opens.1 few) in
    All-append IsSpelled (opens.0 ++ moves ++ fates.0) (last ∷ [])
    (All-append IsSpelled (opens.0 ++ moves) fates.0 (All-append IsSpelled opens.0 moves (opens_fine clients sizes.1 few) acted) (fates_fine clients actions.1 few))
    (All-cons IsSpelled last [] ((omega arith, fit), tt) (All-nil IsSpelled))
