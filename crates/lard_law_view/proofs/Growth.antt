-- What was true, heard and accepted stays so as a stream goes on.
use Rattle.std.proofs.Common.{◌≡◌, ◌≤◌, ◌+◌, ℕ, List, [], ◌++◌, length, take, drop, arith, ap, ◌∙◌, sym, subst, refl, inl, inr, ⊎_elim, length-append, length-drop, append-nil}
use Rattle.std.proofs.lemmas.List.{drop-append-le, take-append-le}
use Rattle.lard_law_view.specs.Prelude.{Accepts, ClientBlock, GoesOn, Hears, IsPartAt, IsPrefix, IsTrueOf, IsUnusedPart, Received, Said, Stands, Stream, seq_add}

-- ---- streams that go on
pub goes_on-same : (x : Stream) → GoesOn x x
goes_on-same x = record { first = refl; bytes = ([], sym (append-nil x.bytes)); ended = λ e. refl }

pub goes_on-equal : (x y : Stream) → y ≡ x → GoesOn x y
goes_on-equal x y e = subst (λ (z : Stream). GoesOn x z) (sym e) (goes_on-same x)

-- a part stays one where more bytes follow
part-grown : (place : ℕ) (part xs ys : List ℕ) → IsPrefix xs ys → IsPartAt place part xs → IsPartAt place part ys
part-grown place part xs ys f p =
    let within = p.within in
    let longer : IsPartAt place part (xs ++ f.0) = record {
      within = omega (arith, length-append xs f.0);
      same = ap (take (length part)) (drop-append-le place xs f.0 (omega arith))
          ∙ take-append-le (length part) (drop place xs) f.0 (omega (arith, length-drop place xs)) ∙ p.same;
    } in
    subst (λ (zs : List ℕ). IsPartAt place part zs) (sym f.1) longer

-- ---- what was said
stands-grown : (x y : Stream) (s : Said) → GoesOn x y → Stands x s → Stands y s
stands-grown x y s g t = record {
  place = t.place;
  number = t.number ∙ ap (λ n. seq_add n (1 + t.place)) (sym g.first);
  part = part-grown t.place s.payload x.bytes y.bytes g.bytes t.part;
  final = λ f. let last = t.final f in let same = g.ended last.1 in (last.0 ∙ ap (λ z. length z.bytes) (sym same), ap (λ z. z.ended) same ∙ last.1);
}

pub truth-grown : (x y : Stream) (s : Said) → GoesOn x y → IsTrueOf x s → IsTrueOf y s
truth-grown x y s g t = record {
  greets = λ e. t.greets e ∙ sym g.first;
  carries = ⊎_elim (λ bare. inl bare) (λ stands. inr (stands-grown x y s g stands)) t.carries;
}

-- ---- what was taken
pub front-length : (xs ys : List ℕ) → IsPrefix xs ys → length xs ≤ length ys
front-length xs ys f = omega (arith, ap length f.1, length-append xs f.0)

pub front-take : (n : ℕ) (xs ys : List ℕ) → IsPrefix xs ys → n ≤ length xs → take n ys ≡ take n xs
front-take n xs ys f le = ap (take n) f.1 ∙ take-append-le n xs f.0 le

pub heard-grown : (x y : Stream) (r : Received) → GoesOn x y → Hears x r → Hears y r
heard-grown x y r g h =
    let within = h.within in
    record {
      first = h.first ∙ sym g.first;
      sound = h.sound;
      within = omega (arith, front-length x.bytes y.bytes g.bytes);
      part = subst (λ (all : List ℕ). IsUnusedPart r all) (sym (front-take r.got x.bytes y.bytes g.bytes within)) h.part;
      final = λ f. let last = h.final f in let same = g.ended last.1 in (last.0 ∙ ap (λ z. length z.bytes) (sym same), ap (λ z. z.ended) same ∙ last.1);
    }

pub accepted-grown : (x y : Stream) (b : ClientBlock) → GoesOn x y → Accepts x b → Accepts y b
accepted-grown x y b g a =
    let within = a.within in
    record {
      first = λ e. a.first e ∙ sym g.first;
      within = omega (arith, front-length x.bytes y.bytes g.bytes);
      final = λ f. let last = a.final f in let same = g.ended last.1 in (last.0 ∙ ap (λ z. length z.bytes) (sym same), ap (λ z. z.ended) same ∙ last.1);
    }
