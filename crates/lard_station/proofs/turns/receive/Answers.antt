-- The data of a segment is the last of its packet.
use Rattle.std.proofs.Common.{◌≡◌, ◌-◌, List, ℕ, length, drop, subst}
use Rattle.lard_segment.specs.Segment.{said}
use Rattle.lard_segment.specs.declared.segment.Dir.TheVariants.{ToClient}
use Rattle.lard_station.proofs.Data.{data_stands_last}
use Rattle.lard_station.proofs.turns.receive.Goals as goal

pub data_in-requires-clause-last : goal.data_in-requires-clause-last
data_in-requires-clause-last c =
    let s = said c.in-Ok.segment in
    subst (λ (bytes : List ℕ). drop (length bytes - length s.payload) bytes ≡ s.payload) c.as_slice.ensures
    (data_stands_last c.as_slice.result.now c.args.c ToClient s c.in-Ok.ensures.given)
