-- What is unread is the unused part of all bytes that came.
use Rattle.std.proofs.Common.{◌≡◌, ◌≤◌, ◌-◌, ◌+◌, ℕ, Bool, true, false, List, [], ◌++◌, length, drop, min, arith, ap, ◌∙◌, sym, subst, length-append, length-drop, append-nil}
use Rattle.std.specs.Prelude.{if◌then◌else◌}
use Rattle.std.proofs.lemmas.List.{drop-drop, drop-append-le, drop_min}
use Rattle.lard_recv.specs.Recv.{Received, IsUnusedPart, bytes_taken, arrived, gained, consumed, fresh_bytes, ends, awaited, begins_after}

-- the rest of a list from any place on is known by its length
last_part : (all rest : List ℕ) (n total : ℕ) → length all ≡ total → rest ≡ drop n all → rest ≡ drop (total - length rest) all
last_part all rest n total c e =
    let place : min n (length all) ≡ total - length rest = omega (arith, c, ap length e, length-drop n all) in
    e ∙ sym (drop_min n all) ∙ ap (λ k. drop k all) place

-- bytes that are taken stand behind those that came
unused-taken : (r : Received) (all more : List ℕ) (fin : Bool) → IsUnusedPart r all → IsUnusedPart (bytes_taken r more fin) (all ++ more)
unused-taken r all more fin h =
    let count : length (all ++ more) ≡ r.got + length more = length-append all more ∙ ap (λ n. n + length more) h.count in
    let within : r.got - length r.unread ≤ length all = omega (arith, h.count) in
    record {
      count = count;
      part = λ (d : r.discarding ≡ false). rw d (last_part (all ++ more) (r.unread ++ more) (r.got - length r.unread) (r.got + length more) count
          (ap (λ xs. xs ++ more) (h.part d) ∙ sym (drop-append-le (r.got - length r.unread) all more within)));
    }

-- nothing is gained where nothing is taken
unused-by_case : (b c : Bool) (r t : Received) (all more : List ℕ) → IsUnusedPart r all → IsUnusedPart t (all ++ more)
    → IsUnusedPart (if b then r else if c then r else t) (all ++ (if b then [] else if c then [] else more))
unused-by_case true c r t all more h k = subst (IsUnusedPart r) (sym (append-nil all)) h
unused-by_case false true r t all more h k = subst (IsUnusedPart r) (sym (append-nil all)) h
unused-by_case false false r t all more h k = k

-- a segment arrives
pub unused-arrived : (r : Received) (all : List ℕ) (seq : ℕ) (data_ : List ℕ) (fin : Bool) → IsUnusedPart r all → IsUnusedPart (arrived r seq data_ fin) (all ++ gained r seq data_)
unused-arrived r all seq data_ fin h =
    unused-by_case (begins_after seq (awaited r)) r.fin r (bytes_taken r (fresh_bytes r seq data_) (ends r seq data_ fin)) all (fresh_bytes r seq data_) h
    (unused-taken r all (fresh_bytes r seq data_) (ends r seq data_ fin) h)

-- bytes are read
pub unused-consumed : (r : Received) (all : List ℕ) (n : ℕ) → IsUnusedPart r all → IsUnusedPart (consumed r n) all
unused-consumed r all n h = record {
  count = h.count;
  part = λ (d : r.discarding ≡ false). last_part all (drop n r.unread) (r.got - length r.unread + n) r.got h.count (ap (drop n) (h.part d) ∙ drop-drop n (r.got - length r.unread) all);
}
