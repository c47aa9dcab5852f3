-- What a receiver takes of a true segment.
use Rattle.std.proofs.Common.{◌≡◌, ℕ, ◌+◌, ◌-◌, ◌^◌, ◌<◌, ◌≤◌, min, true, false, nat_lt, List, [], length, take, drop, arith, ap, refl, ◌∙◌, sym, subst, ⊎_elim, length-drop}
use Rattle.std.specs.Prelude.{if◌then◌else◌}
use Rattle.std.proofs.lemmas.Bool.{cond_both, cases_lt, lt-ltb, and_from, false≢true}
use Rattle.std.proofs.lemmas.List.{drop-take, drop-drop, drop_all, length-take, take_min, take_all, take-take}
use Rattle.lard_recv.specs.Recv.{Received, awaited, receive_room, begins_after, fresh_bytes, gained}
use Rattle.lard_seq.specs.Seq.{one_if, seq_add, seq_offset}
use Rattle.lard_arrival.specs.Arrival.{IsPartAt}
use Rattle.lard_endpoint.specs.Laws.{IsTrueData}
use Rattle.lard_endpoint.proofs.Numbers.{offset_later}

-- nothing is a part at every place
nothing_at : (place : ℕ) (all : List ℕ) → place ≤ length all → IsPartAt place [] all
nothing_at place all h = record { within = omega arith; same = refl }

-- at most m of what is behind the first d of a part
cut_part : (k d m : ℕ) (part all : List ℕ) → k + d ≤ length all → IsPartAt k part all → IsPartAt (k + d) (take m (drop d part)) all
cut_part k d m part all h p =
    let rest = drop d part in
    let size : length (take m rest) ≡ min m (length rest) = length-take m rest in
    let rest_size : length rest ≡ length part - d = length-drop d part in
    let within = p.within in
    ⊎_elim
    (λ (short : length part < d).
    let none : rest ≡ [] = drop_all d part (omega arith) in
    subst (λ (z : List ℕ). IsPartAt (k + d) z all) (sym (ap (take m) none ∙ take_all m [] (omega arith))) (nothing_at (k + d) all h))
    (λ (long : d ≤ length part).
    let whole : d + (length part - d) ≡ length part = omega arith in
    let is : rest ≡ take (length part - d) (drop (k + d) all) =
    ap (drop d) (sym p.same ∙ ap (λ n. take n (drop k all)) (sym whole)) ∙ drop-take d (length part - d) (drop k all) ∙ ap (take (length part - d)) (drop-drop d k all) in
    record {
      within = omega arith;
      same = sym (take-take (length (take m rest)) (length part - d) (drop (k + d) all) (omega arith)) ∙ ap (take (length (take m rest))) (sym is)
          ∙ ap (λ n. take n rest) size ∙ take_min m rest;
    })
    (cases_lt (length part) d)

module _ (r : Received) (all : List ℕ) (k seq : ℕ) (data_ : List ℕ) (got : r.got ≤ length all) (t : IsTrueData r all k seq data_) (open_ : r.fin ≡ false) where
  next : awaited r ≡ seq_add r.irs (1 + r.got)
  next = let none : one_if r.fin ≡ 0 = ap one_if open_ in ap (seq_add r.irs) (omega arith)

  -- a segment that begins at the awaited byte or before it
  behind : k ≤ r.got → IsPartAt r.got (fresh_bytes r seq data_) all
  behind le =
      let first = t.first in
      let most = t.most in
      let offset : seq_offset (awaited r) seq ≡ r.got - k =
      ap (seq_offset (awaited r)) t.number ∙ ap (λ n. seq_offset n (seq_add r.irs (1 + k))) next ∙ offset_later r.irs (1 + r.got) (1 + k) first (omega arith) (omega arith) ∙ omega arith in
      let place : k + (r.got - k) ≡ r.got = omega arith in
      subst (λ (d : ℕ). IsPartAt r.got (take (receive_room r) (drop d data_)) all) (sym offset)
      (subst (λ (n : ℕ). IsPartAt n (take (receive_room r) (drop (r.got - k) data_)) all) place (cut_part k (r.got - k) (receive_room r) data_ all (omega arith) t.part))

  -- one that begins after it is seen
  ahead : r.got < k → begins_after seq (awaited r) ≡ true
  ahead lt =
      let first = t.first in
      let most = t.most in
      let within = t.part.within in
      let offset : seq_offset seq (awaited r) ≡ k - r.got =
      ap (seq_offset seq) next ∙ ap (λ n. seq_offset n (seq_add r.irs (1 + r.got))) t.number ∙ offset_later r.irs (1 + k) (1 + r.got) first (omega arith) (omega arith) ∙ omega arith in
      and_from (nat_lt 0 (seq_offset seq (awaited r))) (nat_lt (seq_offset seq (awaited r)) (2 ^ 31))
      (lt-ltb 0 (seq_offset seq (awaited r)) (omega arith)) (lt-ltb (seq_offset seq (awaited r)) (2 ^ 31) (omega arith))

  not_ahead : begins_after seq (awaited r) ≡ false → IsPartAt r.got (fresh_bytes r seq data_) all
  not_ahead e = ⊎_elim (λ (lt : r.got < k). absurd (false≢true (sym e ∙ ahead lt))) (λ (le : k ≤ r.got). behind le) (cases_lt r.got k)

pub gained-part : (r : Received) (all : List ℕ) (k seq : ℕ) (data_ : List ℕ) → r.got ≤ length all → IsTrueData r all k seq data_ → IsPartAt r.got (gained r seq data_) all
gained-part r all k seq data_ h t =
    let P : List ℕ → Type 0 = λ z. IsPartAt r.got z all in
    cond_both (begins_after seq (awaited r)) [] (if r.fin then [] else fresh_bytes r seq data_) P (λ b. nothing_at r.got all h)
    (λ b. cond_both r.fin [] (fresh_bytes r seq data_) P (λ f. nothing_at r.got all h) (λ f. not_ahead r all k seq data_ h t f b))
