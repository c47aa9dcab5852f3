-- The lines of a report.
use Rattle.std.specs.Prelude.{ℕ, ◌+◌, Bool, List, [], ◌∷◌, ◌++◌, Option, Some, None, codes, decimal, if◌then◌else◌}
use Rattle.lard_base.specs.declared.config.Config.{Config}
use Rattle.lard_lab.specs.declared.backends.Backend.{Backend}
use Rattle.lard_lab.specs.declared.policy.Policy.{Policy}
use Rattle.lard_lab.specs.Policy.{policy_word}

-- how many nodes there are, and the thresholds of their loads
unfoldable pub thresholds_text : Config → List ℕ
thresholds_text cfg = (codes " nodes " ++ decimal cfg.nodes) ++ (codes " low " ++ decimal cfg.low) ++ (codes " high " ++ decimal cfg.high)

-- and how long a server set stays, and the bytes of each cache
unfoldable pub numbers_text : Config → List ℕ
numbers_text cfg = thresholds_text cfg ++ (codes " age " ++ decimal cfg.age) ++ (codes " cache " ++ decimal cfg.cache) ++ codes "\n"

-- lab POLICY nodes A low B high C age D cache E
unfoldable pub lab_heading_line : Policy → Config → List ℕ
lab_heading_line policy cfg = codes "lab " ++ policy_word policy ++ numbers_text cfg

abbrev pub outcome_word : Bool → List ℕ
outcome_word hit = if hit then codes " hit\n" else codes " miss\n"

-- where a request went, and whether its path was in the cache there: n3 hit; none where it was full
abbrev pub outcome_text : Option (ℕ × Bool) → List ℕ
outcome_text None = codes " full\n"
outcome_text (Some outcome) = codes " n" ++ decimal outcome.0 ++ outcome_word outcome.1

-- I PATH nK hit, I PATH nK miss, I PATH full
unfoldable pub request_line : ℕ → List ℕ → Option (ℕ × Bool) → List ℕ
request_line number path outcome = decimal number ++ codes " " ++ path ++ outcome_text outcome

-- the line of a request that goes to a node, up to its outcome: I PATH nK
unfoldable pub line_front : ℕ → List ℕ → ℕ → List ℕ
line_front number path n = decimal number ++ codes " " ++ path ++ (codes " n" ++ decimal n)

-- requests R hits H full F
unfoldable pub totals_line : ℕ → ℕ → ℕ → List ℕ
totals_line requests hits full = (codes "requests " ++ decimal requests) ++ (codes " hits " ++ decimal hits) ++ (codes " full " ++ decimal full) ++ codes "\n"

-- nK requests R hits H peak P
unfoldable pub node_line : ℕ → Backend → List ℕ
node_line n b = (codes "n" ++ decimal n) ++ (codes " requests " ++ decimal b.requests) ++ (codes " hits " ++ decimal b.hits) ++ (codes " peak " ++ decimal b.peak) ++ codes "\n"

-- one for each node, from a number on
abbrev pub node_lines : ℕ → List Backend → List ℕ
node_lines n [] = []
node_lines n (b ∷ bs) = node_line n b ++ node_lines (n + 1) bs
