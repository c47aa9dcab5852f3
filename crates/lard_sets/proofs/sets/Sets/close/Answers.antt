-- The node is taken out of the set of each entry, so of each pair.
use Rattle.std.proofs.Common.{◌∙◌, ap, rules}
use Rattle.std.proofs.lemmas.Map.Made.{map_same_pairs}
use Rattle.lard_sets.specs.declared.sets.ServerSet.{ServerSet}
use Rattle.lard_sets.specs.Sets.{sets_shown, sets_closed, without_member}
use Rattle.lard_sets.proofs.Entries.{shown-closed}
use Rattle.lard_sets.proofs.sets.Sets.close.Goals as goal

pub returns : goal.returns
returns c =
    ap sets_shown (map_same_pairs _ (λ (s : ServerSet). record s { members = without_member s.members c.args.n }) _ (λ k v b w f' t. search rules) _ _ c.retain.ensures.filtered)
    ∙ shown-closed c.self.inside.sets.entries c.args.n
    ∙ ap (λ m. sets_closed m c.args.n) c.self.view_is
