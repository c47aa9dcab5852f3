-- What is said to a node.
use Rattle.std.specs.Prelude.{ℕ, [], ◌∷◌}
use Rattle.lard_base.specs.declared.place.Place.TheVariants as place
use Rattle.lard_rules.specs.declared.front.FrontTurn.{FrontTurn}
use Rattle.lard_rules.specs.Front.{message, front_saying}
use Rattle.lard_message.specs.declared.message.Body.{Body}

-- one message, and nothing else is done
abbrev pub front_telling : ℕ → ℕ → ℕ → Body → FrontTurn
front_telling c epoch node body = front_saying ((place.Node node, message c epoch body) ∷ [])
