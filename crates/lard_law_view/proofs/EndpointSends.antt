-- What an endpoint sends goes to its client, and its bytes stay as many as they were.
use Rattle.std.proofs.Common.{◌≡◌, ℕ, List, Option, Some, None, refl, ◌∙◌}
use Rattle.lard_law_view.specs.Prelude.{Client, ControlBlock, Place, Ready, ServeEnv, serving_ready_of, speaks, speaks_symbols}
use Rattle.lard_history.proofs.Each.{Each}
use Rattle.lard_rules.proofs.Loops.{KeptBySpeaking, speaks_keep, symbols_keep}
use Rattle.lard_rules.proofs.Totals.{HasAsMany, emit-many}

-- what is sent all goes to one place
abbrev pub AllTo : Place → List (Place × List ℕ) → Type 0
AllTo p ss = Each (λ s. s.0 ≡ p) ss

-- segments to client c, and an endpoint with as many bytes
pub record SpeaksTo (c : ℕ) (b : ControlBlock) (given : List (Place × List ℕ) × ControlBlock) : Type 0 where
  pub to : AllTo (Client c) given.0
  pub many : HasAsMany b given.1

-- whatever it says, and however many of its segments send a symbol
says-to : (c : ℕ) → KeptBySpeaking c (λ b ss d. SpeaksTo c b (ss, d))
says-to c = record { rests = λ b. record { to = tt; many = refl }; says = λ b r ss d e later. record { to = (refl, later.to); many = later.many ∙ emit-many b } }

pub speaks-to : (c : ℕ) (b : ControlBlock) → SpeaksTo c b (speaks c b)
speaks-to c b = speaks_keep c (λ b ss d. SpeaksTo c b (ss, d)) (says-to c) b

pub speaks_symbols-to : (c : ℕ) (b : ControlBlock) → SpeaksTo c b (speaks_symbols c b)
speaks_symbols-to c b = symbols_keep c (λ b ss d. SpeaksTo c b (ss, d)) (says-to c) (λ b r e held. record { to = tt; many = emit-many b }) b

pub ready-to : (env : ServeEnv) (b : ControlBlock) (o : Option Ready) → AllTo (Client env.c) (serving_ready_of env b o)
ready-to env b None = tt
ready-to env b (Some r) = (refl, tt)
