-- A word that writes a number is read as it, and as no other.
use Rattle.std.proofs.Common.{◌≡◌, ℕ, true, false, Result, Ok, sym, ap, ◌∙◌, subst, decimal}
use Rattle.std.proofs.lemmas.Cmp.{nat_list_eq_equiv}
use Rattle.std.proofs.lemmas.Fmt.{parse-decimal}
use Rattle.std.specs.Str.{bytes_eq}
use Rattle.lard_app.proofs.words.number.Goals as goal

ok_same : {E : Type 0} (i j : ℕ) → ◌≡◌ {A = Result ℕ E} (Ok i) (Ok j) → i ≡ j
ok_same i j e = cc

pub returns-in_default : goal.returns-in_default
returns-in_default c = λ n small same. c.in_default.not-Ok n (parse-decimal 64 n c.args.word.now c.parse.result small small same c.parse.ensures.value.0)

pub returns : goal.returns
returns c = λ n small same.
    let read = parse-decimal 64 n c.args.word.now c.parse.result small small same c.parse.ensures.value.0 in
    let number : n ≡ c.in-Ok.n = ok_same n c.in-Ok.n (sym read ∙ c.in-Ok.is) in
    let spelled : c.format.result.now ≡ c.args.word.now = c.format.ensures.text ∙ ap decimal (sym number) ∙ sym same in
    let equal : bytes_eq c.format.result.now c.args.word.now ≡ true = subst (λ word. bytes_eq c.format.result.now word ≡ true) spelled (nat_list_eq_equiv.refl c.format.result.now) in
    let both : true ≡ false = sym equal ∙ sym c.eq.ensures ∙ c.if-eq.false in cc
