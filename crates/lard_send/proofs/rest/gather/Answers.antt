-- A part is copied, as far as it is wanted; and behind the last one nothing is.
use Rattle.std.proofs.Common.{◌≡◌, ◌++◌, ◌-◌, List, ℕ, length, take, drop, ap, sym, ◌∙◌}
use Rattle.std.specs.List.{concat}
use Rattle.std.specs.VecDeque.Iter.{deque_iter_rest}
use Rattle.std.proofs.lemmas.List.{take_rest}
use Rattle.lard_send.proofs.Parts.{part_gathered, all_gathered, no_parts}
use Rattle.lard_send.proofs.rest.gather.Goals as goal

pub loop-part-preserved : goal.loop-part-preserved
loop-part-preserved c =
    let p : List ℕ = c.as_slice-bytes.result.now in
    let buf : List ℕ = c.loop-part.buf in
    let n : ℕ = c.loop-part.filled in
    let left : List (List ℕ) = deque_iter_rest c.next.new.self in
    let all : concat (deque_iter_rest c.loop-part.part-iterator) ≡ p ++ concat left =
    ap concat c.in-Some.ensures.steps ∙ ap (λ (xs : List ℕ). xs ++ concat left) (sym c.as_slice-bytes.ensures) in
    let g = part_gathered p (concat left) buf (take (length p - c.min-from.result) (drop c.min-from.result p)) (take (length buf - n) (drop n buf)) c.copy-filled.new.buf
    (take (length c.args.buf.now) (drop c.args.skip (concat c.args.parts.now.items))) c.loop-part.skip n c.min-from.result c.copy-filled.result
    c.loop-part.invariant.within c.min-from.ensures (take_rest p c.min-from.result) (take_rest buf n) c.copy-filled.ensures.count c.copy-filled.ensures.copied
    (ap (λ (xs : List ℕ). take n buf ++ take (length buf - n) (drop c.loop-part.skip xs)) (sym all) ∙ c.loop-part.invariant.wanted) in
    record { within = g.0; wanted = g.1 }

pub returns : goal.returns
returns c =
    all_gathered c.loop-part.buf (concat c.args.parts.now.items) (concat (deque_iter_rest c.loop-part.part-iterator)) c.loop-part.filled c.loop-part.skip
    (length c.args.buf.now) c.args.skip (ap concat (no_parts (deque_iter_rest c.loop-part.part-iterator) c.in-None.ensures.steps.0))
    c.loop-part.invariant.within c.loop-part.auto.buf c.requires c.loop-part.invariant.wanted
