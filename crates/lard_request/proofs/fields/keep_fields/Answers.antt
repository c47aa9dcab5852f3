-- One field more is kept.
use Rattle.std.proofs.Common.{◌≡◌, ℕ, ◌≤◌, List, length, take, map, sym, subst, take_all, arith}
use Rattle.http_header.specs.HeaderMap.{Entries, value_count}
use Rattle.httparse.specs.declared.spans.HeaderSpan.{HeaderSpan}
use Rattle.httparse.specs.Spans.{header_bytes}
use Rattle.lard_request.specs.Kept.{Keeps}
use Rattle.lard_request.proofs.Keeping.{keeps-nothing, keeps-next}
use Rattle.lard_request.proofs.fields.keep_fields.Goals as goal

pub loop-span-init : goal.loop-span-init
loop-span-init c = record {
  kept = keeps-nothing c.empty-fields.result c.empty-fields.ensures;
  names = subst (λ (m : Entries (List ℕ)). length m ≤ 0) (sym c.empty-fields.ensures) (omega arith);
  values = subst (λ (m : Entries (List ℕ)). value_count m ≤ 0) (sym c.empty-fields.ensures) (omega arith);
}

pub loop-span-preserved : goal.loop-span-preserved
loop-span-preserved c =
    let none : HeaderSpan = record { name = record { start = 0; end = 0 }; value = record { start = 0; end = 0 } } in
    record {
      kept =
          keeps-next c.loop-span.fields c.keep_field.new.fields c.args.block.now c.args.spans.now c.loop-span.span-index none c.loop-span-test.true c.loop-span.invariant.kept
          c.of.result.now c.of-in-loop-span.result.now c.of.ensures c.of-in-loop-span.ensures c.in_ok-keep_field.ensures.kept;
      names = omega (arith, c.loop-span.invariant.names, c.in_ok-keep_field.ensures.grown);
      values = omega (arith, c.loop-span.invariant.values, c.in_ok-keep_field.ensures.grown);
    }

pub returns : goal.returns
returns c =
    let all : take c.loop-span.span-index c.args.spans.now ≡ c.args.spans.now = take_all c.loop-span.span-index c.args.spans.now c.loop-span-test.false in
    subst (λ (spans : List HeaderSpan). Keeps c.loop-span.fields (map (header_bytes c.args.block.now) spans)) all c.loop-span.invariant.kept
