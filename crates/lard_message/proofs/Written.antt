-- What several writes one after the other put behind a text.
use Rattle.std.proofs.Common.{◌≡◌, List, ◌++◌, ℕ, Result, OnOk, ap, ◌∙◌, append_assoc}
use Rattle.std.proofs.lemmas.Result.{on_ok_weaker}

-- a write, and what is behind it
then : (old now one more : List ℕ) → now ≡ old ++ one → now ++ more ≡ old ++ (one ++ more)
then old now one more e = ap (λ (xs : List ℕ). xs ++ more) e ∙ append_assoc old one more

-- three writes
pub three : {T E : Type 0} (r : Result T E) (old a b d o1 o2 o3 : List ℕ) → o1 ≡ old ++ a → o2 ≡ o1 ++ b → OnOk r (o3 ≡ o2 ++ d)
    → OnOk r (o3 ≡ old ++ (a ++ (b ++ d)))
three r old a b d o1 o2 o3 e1 e2 h = on_ok_weaker r (λ e3. e3 ∙ then o1 o2 b d e2 ∙ then old o1 a (b ++ d) e1) h

-- five of them
pub five : {T E : Type 0} (r : Result T E) (old a b d e f o1 o2 o3 o4 o5 : List ℕ) → o1 ≡ old ++ a → o2 ≡ o1 ++ b
    → o3 ≡ o2 ++ d → o4 ≡ o3 ++ e → OnOk r (o5 ≡ o4 ++ f) → OnOk r (o5 ≡ old ++ (a ++ (b ++ (d ++ (e ++ f)))))
five r old a b d e f o1 o2 o3 o4 o5 e1 e2 e3 e4 h =
    on_ok_weaker r (λ e5. e5 ∙ then o3 o4 e f e4 ∙ then o2 o3 d (e ++ f) e3 ∙ then o1 o2 b (d ++ (e ++ f)) e2 ∙ then old o1 a (b ++ (d ++ (e ++ f))) e1) h
