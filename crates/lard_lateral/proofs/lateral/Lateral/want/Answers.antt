-- What was held of the request is dropped, and then its Fetch is held.
use Rattle.std.proofs.Common.{ℕ, List, ap, ◌∙◌}
use Rattle.lard_base.specs.declared.place.Place.TheVariants.{Node}
use Rattle.lard_base.specs.declared.place.TimerKind.TheVariants as kind
use Rattle.lard_lateral.specs.Lateral.{fetch_kept}
use Rattle.lard_resend.specs.Pending.{holding, renewed}
use Rattle.lard_resend.proofs.Held.{Held}
use Rattle.lard_resend.proofs.Renewed.{held_anew}
use Rattle.lard_lateral.proofs.lateral.Lateral.want.Goals as goal

pub returns-clause-ok : goal.returns-clause-ok
returns-clause-ok c =
    let k = fetch_kept c.args.c c.args.epoch.0 c.args.r c.args.node c.args.path.now in
    c.in_ok-hold.ensures.ok
    ∙ ap (λ (bytes : List ℕ). holding c.settle.new.self c.args.c (record { kind = kind.Fetch; r = c.args.r; to = Node c.args.node; bytes = bytes })) (c.in_ok-kept.ensures ∙ c.in_ok-bytes.ensures.bytes)
    ∙ ap (λ (m : Held). holding m c.args.c k) c.settle.ensures.after
    ∙ held_anew c.self.inside.fetches c.args.c k
    ∙ ap (λ (m : Held). renewed m c.args.c k) c.self.view_is
