-- The words of a line, with single spaces between them; numbers in decimal; and readings, which find something at the front
-- of the words that are left, or nothing.
use Rattle.std.specs.Prelude.{◌≡◌, ℕ, ◌+◌, ◌-◌, ◌*◌, ◌^◌, Bool, true, false, ◌&&◌, not, nat_eq, nat_le, List, [], ◌∷◌, Option, Some, None, Result, Ok, Err, if◌then◌else◌}
use Rattle.std.specs.List.{slice_split}
use Rattle.std.specs.Borrow.{Bor}
use Rattle.lard_base.specs.declared.ids.TheConstants.ConnId as conn_id
use Rattle.lard_schedule.specs.declared.words.Words.{Words}
use Rattle.lard_schedule.specs.declared.item.LineFault.{LineFault}
use Rattle.lard_schedule.specs.declared.item.LineFault.TheVariants.{Syntax, NoMemory}

infixl 10 ◌>>=◌
-- one reading after another, as long as each finds something
abbrev pub ◌>>=◌ : {A B : Type 0} → Option A → (A → Option B) → Option B
(Some x) >>= f = f x
None >>= f = None

-- What a function found, seen by view, is what reading finds.
abbrev pub Finds : {X Y : Type 0} → (X → Y) → Option X → Option Y → Type 0
Finds view (Some x) read = read ≡ Some (view x)
Finds view None read = read ≡ None

-- A call gives what is read, and Syntax where nothing is, unless memory runs out.
abbrev pub Judges : {X : Type 0} → Result X LineFault → Option X → Type 0
Judges (Ok x) read = read ≡ Some x
Judges (Err Syntax) read = read ≡ None
Judges (Err NoMemory) read = Unit {0}

-- ---- words

abbrev pub is_space : ℕ → Bool
is_space b = nat_eq b 32

-- the words of a text: what stands between its spaces
abbrev pub words_of : List ℕ → List (List ℕ)
words_of text = slice_split is_space text

abbrev pub first_word_of : List (List ℕ) → List ℕ
first_word_of [] = []
first_word_of (word ∷ words) = word

abbrev pub first_word : List ℕ → List ℕ
first_word line = first_word_of (words_of line)

-- the words that are still to be read
abbrev pub words_left : Option (Bor (List ℕ)) → List (List ℕ)
words_left None = []
words_left (Some rest) = words_of rest.now

abbrev pub left_of : Words → List (List ℕ)
left_of words = words_left words.rest

-- the next word, and the words after it
abbrev pub word_then : List (List ℕ) → Option (List ℕ × List (List ℕ))
word_then [] = None
word_then (word ∷ words) = Some (word, words)

-- nothing comes after it
abbrev pub ended : {A : Type 0} → List (List ℕ) → A → Option A
ended [] x = Some x
ended (word ∷ words) x = None

-- what calls show of what they found
abbrev pub seen_word : Bor (List ℕ) × Words → List ℕ × List (List ℕ)
seen_word found = (found.0.now, left_of found.1)

abbrev pub words_seen : {X : Type 0} → X × Words → X × List (List ℕ)
words_seen found = (found.0, left_of found.1)

abbrev pub seen_texts : Bor (List ℕ) × Bor (List ℕ) → List ℕ × List ℕ
seen_texts found = (found.0.now, found.1.now)

abbrev pub seen_pair : {X : Type 0} → X × Bor (List ℕ) → X × List ℕ
seen_pair found = (found.0, found.1.now)

-- ---- numbers

-- a number with one more digit, as long as it is at most `most`
abbrev pub digit_on : ℕ → ℕ → ℕ → Option ℕ
digit_on most n b = if nat_le 48 b && nat_le b 57 && nat_le (10 * n + (b - 48)) most then Some (10 * n + (b - 48)) else None

abbrev pub digits_on : ℕ → ℕ → List ℕ → Option ℕ
digits_on most n [] = Some n
digits_on most n (b ∷ bs) = digit_on most n b >>= λ m. digits_on most m bs

abbrev pub is_nil : {A : Type 0} → List A → Bool
is_nil [] = true
is_nil (x ∷ xs) = false

-- a number to `most`: digits without a sign, and without a leading zero
abbrev pub number_of : ℕ → List ℕ → Option ℕ
number_of most [] = None
number_of most (b ∷ bs) = if nat_eq b 48 && not (is_nil bs) then None else digits_on most 0 (b ∷ bs)

-- a number from 1 to `most`, which is below 2^32
unfoldable pub count_up_to : ℕ → List ℕ → Option ℕ
count_up_to most word = do
  n ← number_of (2 ^ 32 - 1) word
  if nat_le 1 n && nat_le n most then Some n else None

unfoldable pub number_then : ℕ → List (List ℕ) → Option (ℕ × List (List ℕ))
number_then most words = do
  word ← word_then words
  n ← number_of most word.0
  Some (n, word.1)

unfoldable pub count_then : ℕ → List (List ℕ) → Option (ℕ × List (List ℕ))
count_then most words = do
  word ← word_then words
  n ← count_up_to most word.0
  Some (n, word.1)

-- a client's number, from 1 to 16,384
abbrev pub client_then : List (List ℕ) → Option (ℕ × List (List ℕ))
client_then words = count_then conn_id.MAX words
