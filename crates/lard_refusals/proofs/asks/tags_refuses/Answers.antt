use Rattle.std.proofs.Common.{◌≡◌, ℕ, List, [], ◌∷◌}
use Rattle.std.specs.Prelude.{codes}
use Rattle.lard_laws.specs.Asks.{LaterAssigned}
use Rattle.lard_law_view.specs.Prelude.{ask_at, counted_at, decoded_message, own, paths_at}
use Rattle.lard_refusals.specs.Packets.{tag}
use Rattle.lard_refusals.proofs.asks.tags_refuses.Goals as goal

abbrev later : ℕ → LaterAssigned
later r = record { r = r; path = codes "/a"; size = 1; queue = 0 }

pub returns-clause-assigned_without_an_ask : goal.returns-clause-assigned_without_an_ask
returns-clause-assigned_without_an_ask c h = let e : later 2 ∷ [] ≡ [] = (h.0 1).assigns in cc

pub returns-clause-repeated_ask_assigns_again : goal.returns-clause-repeated_ask_assigns_again
unfolding ask_at counted_at decoded_message own paths_at
returns-clause-repeated_ask_assigns_again c h = let e : later 3 ∷ [] ≡ [] = (h.1.1.1.0 1).assigns in cc

pub returns-clause-ask_passed_over : goal.returns-clause-ask_passed_over
unfolding ask_at counted_at decoded_message own paths_at
returns-clause-ask_passed_over c h = let e : [] ≡ later 2 ∷ [] = (h.1.1.0 1).assigns in cc

pub returns-clause-tag_without_an_ask : goal.returns-clause-tag_without_an_ask
returns-clause-tag_without_an_ask c h = let e : ◌≡◌ {A = List (ℕ × List ℕ)} ((1, tag) ∷ []) [] = (h.0 1).tags in cc
