-- What the words of a call ask for.
use Rattle.std.specs.Prelude.{◌≡◌, ℕ, ◌<◌, ◌≤◌, ◌^◌, List, [], ◌∷◌, map, codes, decimal, Option, Some, None}
use Rattle.std.specs.String.{string_bytes}
use Rattle.std.specs.declared.string.String.{String}
use Rattle.std.specs.declared.alloc.Global.{Global}
use Rattle.lard_lab.specs.declared.policy.Policy.{Policy}
use Rattle.lard_lab.specs.Policy.{policy_word}
use Rattle.lard_app.specs.declared.words.Command.{Command}
use Rattle.lard_app.specs.declared.words.Command.TheVariants as command

-- the word of a replay
abbrev pub AreReplay : List (List ℕ) → Type 0
AreReplay words = words ≡ codes "replay" ∷ []

-- The words of the generated run of this seed and of so many clients: 1 to 2,000, and a seed below 2^64. Both are written in decimal,
-- without a sign and without a leading zero.
pub record AreGenerate (words : List (List ℕ)) (seed clients : ℕ) : Type 0 where
  pub are : words ≡ codes "generate" ∷ decimal seed ∷ decimal clients ∷ []
  pub seed_fits : seed < 2 ^ 64
  pub some : 1 ≤ clients
  pub few : clients ≤ 2000

-- the words of the lab under a policy
abbrev pub AreLab : List (List ℕ) → Policy → Type 0
AreLab words policy = words ≡ codes "lab" ∷ policy_word policy ∷ []

-- the word of an audit
abbrev pub AreAudit : List (List ℕ) → Type 0
AreAudit words = words ≡ codes "audit" ∷ []

-- the bytes of each word
abbrev pub words_bytes : List (String Global) → List (List ℕ)
words_bytes words = map string_bytes words

abbrev pub IsReplay : List (String Global) → Type 0
IsReplay words = AreReplay (words_bytes words)

abbrev pub IsGenerate : List (String Global) → ℕ → ℕ → Type 0
IsGenerate words seed clients = AreGenerate (words_bytes words) seed clients

abbrev pub IsLab : List (String Global) → Policy → Type 0
IsLab words policy = AreLab (words_bytes words) policy

abbrev pub IsAudit : List (String Global) → Type 0
IsAudit words = AreAudit (words_bytes words)

-- they ask for nothing that there is
abbrev pub IsNone : List (String Global) → Type 0
IsNone words = (¬ (IsReplay words)) × ((seed clients : ℕ) → ¬ (IsGenerate words seed clients)) × ((policy : Policy) → ¬ (IsLab words policy)) × (¬ (IsAudit words))

-- ---- what calls find

-- the command that words are, if they are one
abbrev pub IsOne : List (List ℕ) → Option Command → Type 0
IsOne words None = (¬ (AreReplay words)) × ((seed clients : ℕ) → ¬ (AreGenerate words seed clients)) × ((policy : Policy) → ¬ (AreLab words policy)) × (¬ (AreAudit words))
IsOne words (Some command.Replay) = AreReplay words
IsOne words (Some (command.Generate seed clients)) = AreGenerate words seed clients
IsOne words (Some (command.Lab policy)) = AreLab words policy
IsOne words (Some command.Audit) = AreAudit words

abbrev pub AsksCommand : List (String Global) → Option Command → Type 0
AsksCommand words found = IsOne (words_bytes words) found

-- the policy that a word names, if it does
abbrev pub IsPolicy : List ℕ → Option Policy → Type 0
IsPolicy word None = (policy : Policy) → ¬ (word ≡ policy_word policy)
IsPolicy word (Some policy) = word ≡ policy_word policy

-- the number below 2^64 that a word writes in decimal, if it does
abbrev pub WritesNumber : List ℕ → Option ℕ → Type 0
WritesNumber word None = (n : ℕ) → n < 2 ^ 64 → ¬ (word ≡ decimal n)
WritesNumber word (Some n) = (word ≡ decimal n) × (n < 2 ^ 64)

-- the number of clients, 1 to 2,000, that a word writes in decimal, if it does
abbrev pub WritesCount : List ℕ → Option ℕ → Type 0
WritesCount word None = (n : ℕ) → 1 ≤ n → n ≤ 2000 → ¬ (word ≡ decimal n)
WritesCount word (Some n) = (word ≡ decimal n) × (1 ≤ n) × (n ≤ 2000)
