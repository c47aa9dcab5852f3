-- The choice is that of the definition, by whether somebody serves the target.
use Rattle.std.proofs.Common.{◌≡◌, ◌-◌, ◌∙◌, sym, ap, Some, None, unwrap_or}
use Rattle.lard_policy.specs.declared.first.FirstChoice.{FirstChoice}
use Rattle.lard_policy.specs.First.{relieved, joining, leaving, least_node}
use Rattle.lard_policy.proofs.Choice.{by_least}
use Rattle.lard_policy.proofs.first.choose_first.Goals as goal

pub returns-in_default-clause-choice : goal.returns-in_default-clause-choice
returns-in_default-clause-choice c =
    let p : c.least-p.result ≡ least_node c.args.loads.now = sym (ap (λ o. unwrap_or o 0) c.least-p.ensures.node) in
    let choice : FirstChoice = record { node = c.least-p.result; add = Some c.least-p.result; remove = None } in
    let none : choice ≡ record { node = least_node c.args.loads.now; add = Some (least_node c.args.loads.now); remove = None } = λ i. record { node = p i; add = Some (p i); remove = None } in
    none ∙ sym (by_least c.args.loads.now c.args.set c.args.now c.args.last_mod c.args.cfg.now None (sym c.least_of.ensures.node ∙ c.in_default.is))

pub returns-clause-choice : goal.returns-clause-choice
returns-clause-choice c =
    let p : c.relieved-p.result ≡ relieved c.args.loads.now c.args.cfg.now c.in-Some.n = c.relieved-p.ensures.node in
    let add = c.joining.ensures ∙ ap (joining c.args.set) p in
    let remove = c.leaving.ensures ∙ ap (λ p. leaving c.args.loads.now c.args.set p (c.args.now.0 - c.args.last_mod.0) c.args.cfg.now.age) p in
    let choice : FirstChoice = record { node = c.relieved-p.result; add = c.joining.result; remove = c.leaving.result } in
    let some : choice ≡ _ = λ i. record { node = p i; add = add i; remove = remove i } in
    some ∙ sym (by_least c.args.loads.now c.args.set c.args.now c.args.last_mod c.args.cfg.now (Some c.in-Some.n) (sym c.least_of.ensures.node ∙ c.in-Some.is))
