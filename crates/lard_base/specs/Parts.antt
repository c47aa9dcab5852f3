-- Which parts an endpoint can be made of.
use Rattle.std.specs.Prelude.{◌≤◌, ◌+◌, ◌-◌, length}
use Rattle.lard_base.specs.declared.limits.TheConstants.{MAX_SEGMENT_DATA, MAX_STREAM_BYTES, RECEIVE_WINDOW}
use Rattle.lard_base.specs.declared.parts.EndpointParts.{EndpointParts}

pub record IsValidParts (p : EndpointParts) : Type 0 where
  pub buffered : length p.unread ≤ RECEIVE_WINDOW
  pub within : length p.unread ≤ p.got
  pub received : p.got ≤ MAX_STREAM_BYTES
  pub syn_acknowledged : 1 ≤ p.una
  pub acknowledged : p.una ≤ MAX_STREAM_BYTES + 1
  pub some_mss : 1 ≤ p.mss
  pub small_mss : p.mss ≤ MAX_SEGMENT_DATA
  pub answered : p.served ≤ p.got - length p.unread
