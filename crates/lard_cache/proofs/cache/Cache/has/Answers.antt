-- A look-up among the entries is one among the pairs.
use Rattle.std.proofs.Common.{◌∙◌, ap, is_some}
use Rattle.lard_cache.specs.Recency.{Recency, has_path}
use Rattle.lard_cache.proofs.Entries.{size-shown}
use Rattle.lard_cache.proofs.cache.Cache.has.Goals as goal

pub returns : goal.returns
returns c = c.contains.ensures ∙ ap is_some (size-shown c.self.inside.paths.entries c.args.path.now) ∙ ap (λ (r : Recency). has_path r.entries c.args.path.now) c.self.view_is
