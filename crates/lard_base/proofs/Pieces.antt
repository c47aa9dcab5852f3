-- A slice's rest, and what is written of it piece by piece.
use Rattle.std.proofs.Common.{◌≡◌, ◌≤◌, ◌-◌, ◌+◌, ℕ, ◌<◌, List, [], ◌++◌, min, length, take, drop, length-drop, length-append, arith, ap, ◌∙◌, sym, subst, Result, Ok, Err, OnErr, Option}
use Rattle.std.proofs.Math.Seq.{take-add}
use Rattle.std.proofs.lemmas.List.{take_rest, take_at, take-append-drop, length-take-le, drop-drop, nil_from_length}
use Rattle.std.proofs.KnownBytes.{Appends-trans}
use Rattle.std.specs.Io.KnownBytes.{Appends}

-- a fact holds on an error, too
pub on_err_from : {T E P : Type 0} (r : Result T E) → P → OnErr r P
on_err_from (Ok x) p = tt
on_err_from (Err e) p = p

-- a part of the rest ends within the slice
pub rest_length : (xs : List ℕ) (d n : ℕ) → d ≤ length xs → n ≤ length (take (length xs - d) (drop d xs)) → d + n ≤ length xs
rest_length xs d n h k = let l : length (take (length xs - d) (drop d xs)) ≡ length xs - d = ap length (take_rest xs d) ∙ length-drop d xs in omega (arith, l)

-- what was written so far goes on by n bytes of the rest
pub written_more : (a b e : Option (List ℕ)) (xs : List ℕ) (d n : ℕ) → Appends a b (take d xs) → Appends b e (take n (take (length xs - d) (drop d xs))) → Appends a e (take (d + n) xs)
written_more a b e xs d n h k = subst (Appends a e) (ap (λ zs. take d xs ++ take n zs) (take_rest xs d) ∙ sym (take-add d n xs)) (Appends-trans a b e _ _ h k)

-- what a read gave is the front of what was left, and nothing only at its end
pub read_part : (left all given got buf : List ℕ) (at n : ℕ) → given ≡ all → drop at all ≡ left → got ≡ take n (take (length given - at) (drop at given)) → n ≡ min (length buf) (length (take (length given - at) (drop at given)))
    → (left ≡ take n (got ++ drop n buf) ++ drop (at + n) all) × (n ≡ 0 → 0 < length (got ++ drop n buf) → drop (at + n) all ≡ [])
read_part left all given got buf at n e f g h =
    let rest : take (length given - at) (drop at given) ≡ left = take_rest given at ∙ ap (drop at) e ∙ f in
    let front : got ≡ take n left = g ∙ ap (take n) rest in
    let after : drop (at + n) all ≡ drop n left = sym (drop-drop n at all) ∙ ap (drop n) f in
    let count : n ≡ min (length buf) (length left) = h ∙ ap (λ xs. min (length buf) (length xs)) rest in
    let size : length got ≡ n = ap length front ∙ length-take-le n left (omega (arith, count)) in (
      sym (ap (λ xs. xs ++ drop (at + n) all) (take_at got (drop n buf) n size) ∙ ap (λ xs. xs ++ drop (at + n) all) front ∙ ap (λ xs. take n left ++ xs) after ∙ take-append-drop n left),
      λ z l. let none : length left ≡ 0 = omega (arith, z, l, count, size, length-append got (drop n buf), length-drop n buf) in nil_from_length (drop (at + n) all) (omega (arith, none, ap length after, length-drop n left)),
    )
