-- What the front end says to a segment of a connection that ended, and which segment begins one.
use Rattle.std.specs.Prelude.{ℕ, nat_lt, ◌&&◌, ◌||◌, not, Bool, true, false, if◌then◌else◌, [], ◌∷◌, length, Option, Some, None}
use Rattle.lard_base.specs.declared.limits.TheConstants.{RECEIVE_WINDOW}
use Rattle.lard_base.specs.declared.place.Reason.{Reason}
use Rattle.lard_base.specs.declared.place.Reason.TheVariants as reason
use Rattle.lard_endpoint.specs.declared.control.moving.Final.{Final}
use Rattle.lard_rules.specs.declared.places.Turn.{Turn}
use Rattle.lard_rules.specs.Client.{silent}
use Rattle.lard_rules.specs.Serving.{ServeEnv, serving_told}
use Rattle.lard_segment.specs.Segment.{Said}

-- a plain SYN: it has no other control bit that counts
abbrev pub is_plain_syn : Said → Bool
is_plain_syn s = s.flags.syn && (not s.flags.ack && (not s.flags.rst && not s.flags.fin))

-- What an ended connection answers by: the ACK with the last numbers (RFC 9293, 3.10.7.4, TIME-WAIT), or the RST of one
-- that is not known (3.10.7.1).
abbrev pub last_ack : Final → Said
last_ack last = record {
  seq = last.snd.0;
  ack = last.rcv.0;
  flags = record { syn = false; ack = true; fin = false; rst = false; psh = false };
  wnd = RECEIVE_WINDOW;
  mss = None;
  payload = [];
}

abbrev pub refusal : ℕ → Said
refusal ack = record {
  seq = ack;
  ack = 0;
  flags = record { syn = false; ack = false; fin = false; rst = true; psh = false };
  wnd = 0;
  mss = None;
  payload = [];
}

-- a segment has something to acknowledge, and is no RST
abbrev pub is_telling : Said → Bool
is_telling s = not s.flags.rst && (s.flags.syn || (s.flags.fin || nat_lt 0 (length s.payload)))

abbrev pub last_words : Reason → Final → Said → Option Said
last_words reason.Closed last s = if is_telling s then Some (last_ack last) else None
last_words reason.Peer last s = None
last_words reason.Limit last s = if s.flags.ack && not s.flags.rst then Some (refusal s.ack) else None

abbrev pub tombstone : ServeEnv → Option Said → Turn
tombstone env None = silent
tombstone env (Some s) = record { notes = []; segments = serving_told env s ∷ []; answered = 0 }
