-- A text that grows by what is read into its end.
use Rattle.std.proofs.Common.{◌≡◌, ◌≤◌, ◌+◌, ℕ, Bool, true, false, List, [], ◌++◌, length, take, arith, ap, ◌∙◌, sym, append_assoc, append-nil, Option}
use Rattle.std.specs.Prelude.{if◌then◌else◌}
use Rattle.std.proofs.KnownBytes.{Consumes-trans}
use Rattle.std.proofs.Math.Seq.{take-append-add}
use Rattle.std.proofs.lemmas.List.{take_all, take_at, take-append-le, take-take}
use Rattle.lard_base.specs.Outside.{TakesIn}

-- room that is made behind a text leaves it in front
pub grown : (b : Bool) (old more : List ℕ) (len room : ℕ) → length old ≡ len → take len (if b then take (len + room) old ++ more else old) ≡ old
grown true old more len room e = ap (λ xs. take len (xs ++ more)) (take_all (len + room) old (omega (arith, e))) ∙ take_at old more len e
grown false old more len room e = take_all len old (omega (arith, e))

-- the text, and the bytes that were read behind it
pub gained : (old buf post rest : List ℕ) (len n most : ℕ) → length old ≡ len → n ≤ length buf → len + n ≤ most → take (len + n) (take most ((old ++ (buf ++ post)) ++ rest)) ≡ old ++ take n buf
gained old buf post rest len n most e h k =
    ap (take (len + n)) (ap (take most) (append_assoc old (buf ++ post) rest)) ∙ take-take (len + n) most (old ++ ((buf ++ post) ++ rest)) k ∙ ap (λ m. take (m + n) (old ++ ((buf ++ post) ++ rest))) (sym e) ∙ take-append-add old ((buf ++ post) ++ rest) n
    ∙ ap (λ xs. old ++ xs) (ap (take n) (append_assoc buf post rest) ∙ take-append-le n buf (post ++ rest) h)

-- the same where nothing was read
pub regained : (old more rest : List ℕ) (len most : ℕ) → length old ≡ len → len ≤ most → take len (take most ((old ++ more) ++ rest)) ≡ old ++ []
regained old more rest len most e k =
    take-take len most ((old ++ more) ++ rest) k ∙ ap (take len) (append_assoc old more rest) ∙ take_at old (more ++ rest) len e ∙ sym (append-nil old)

-- room that is made or not leaves what was there
pub roomy : (b : Bool) (total len room old : ℕ) → total ≡ (if b then len + room else old) → len ≡ old → len ≤ total
roomy true total len room old e h = omega arith
roomy false total len room old e h = omega arith

-- one taking after another
pub takes_more : (a b d : Option (List ℕ)) (old mid new : List ℕ) → TakesIn a b old mid → TakesIn b d mid new → TakesIn a d old new
takes_more a b d old mid new p q = record {
  taken = p.taken ++ q.taken;
  consumed = Consumes-trans a b d p.taken q.taken p.consumed q.consumed;
  text = q.text ∙ ap (λ (xs : List ℕ). xs ++ q.taken) p.text ∙ append_assoc old p.taken q.taken;
}
