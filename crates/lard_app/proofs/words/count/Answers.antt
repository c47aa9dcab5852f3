-- A number that is not one of these is no other, which is.
use Rattle.std.proofs.Common.{◌≡◌, ◌≤◌, sym, ◌∙◌, subst, arith}
use Rattle.std.proofs.lemmas.Fmt.{decimal_injective}
use Rattle.lard_app.proofs.words.count.Goals as goal

pub returns : goal.returns
returns c = λ n some few same.
    let number : n ≡ c.in_ok-n.n = decimal_injective n c.in_ok-n.n (omega (arith, few)) c.in_ok-n.ensures.1 (sym same ∙ c.in_ok-n.ensures.0) in
    let within = subst (λ i. (1 ≤ i) × (i ≤ 2000)) number (some, few) in
    let yes = c.if-is_count.ensures.1 within in cc
