-- The fields so far are kept, and the map has no more names and values than there were fields.
use Rattle.std.proofs.Common.{◌≤◌, length, take, map}
use Rattle.http_header.specs.HeaderMap.{value_count}
use Rattle.httparse.specs.Spans.{header_bytes}
use Rattle.lard_request.specs.Kept.{Keeps}
use Rattle.lard_request.proofs.fields.keep_fields.Given as goal

abbrev pub invariant-loop-span : goal.invariant-loop-span
invariant-loop-span l = record {
  kept : Keeps l.fields (map (header_bytes l.block) (take l.span-index l.spans));
  names : length l.fields ≤ l.span-index;
  values : value_count l.fields ≤ l.span-index;
}
