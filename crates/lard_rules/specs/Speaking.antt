-- What a place sends at the end of its turn: the segments that its endpoint or client gives, call by call, until none.
use Rattle.std.specs.Prelude.{ℕ, zero, suc, ◌≤◌, Bool, ◌||◌, nat_lt, List, [], ◌∷◌, length, Option, Some, None, if◌then◌else◌}
use Rattle.lard_base.specs.declared.limits.TheConstants.{MAX_SEGMENT_BYTES}
use Rattle.lard_base.specs.declared.place.Place.{Place}
use Rattle.lard_base.specs.declared.place.Place.TheVariants as place
use Rattle.lard_client.specs.Control.{ClientBlock}
use Rattle.lard_client.specs.Leaving as client
use Rattle.lard_endpoint.specs.Control.{ControlBlock}
use Rattle.lard_endpoint.specs.Leaving as endpoint
use Rattle.lard_segment.specs.declared.segment.Dir.TheVariants.{ToClient, ToCluster}
use Rattle.lard_segment.specs.declared.segment.Ready.{Ready}
use Rattle.lard_segment.specs.Segment.{spelled}

-- an item or none, as a list
abbrev pub listed : {A : Type 0} → Option A → List A
listed None = []
listed (Some x) = x ∷ []

-- the packet of an endpoint's segment to client c, and that of a client's segment to the front end
abbrev pub to_client : ℕ → ControlBlock → Ready → Place × List ℕ
to_client c b r = (place.Client c, spelled c ToClient (endpoint.filled b r))

abbrev pub to_front : ClientBlock → Ready → Place × List ℕ
to_front x r = (place.Front, spelled x.c ToCluster (client.client_filled x r))

-- what an endpoint emits, at most so many segments, and the endpoint after it
unfoldable pub emits : ℕ → ℕ → ControlBlock → List (Place × List ℕ) × ControlBlock
emits c zero b = ([], b)
emits c (suc n) b = elim (endpoint.emitted b) [
  | None ↦ ([], b)
  | Some r ↦ (to_client c (endpoint.after_emit b) r ∷ (emits c n (endpoint.after_emit b)).0, (emits c n (endpoint.after_emit b)).1)
]

-- until none: each segment ends an ACK that is owed or sends a symbol
abbrev pub speaks : ℕ → ControlBlock → List (Place × List ℕ) × ControlBlock
speaks c b = emits c (endpoint.emits_left b) b

-- a segment sends a symbol: it is no plain ACK
abbrev pub has_symbol : Ready → Bool
has_symbol r = r.flags.syn || (r.flags.fin || nat_lt 0 r.len)

-- what an endpoint emits as long as each segment sends a symbol
unfoldable pub emits_symbols : ℕ → ℕ → ControlBlock → List (Place × List ℕ) × ControlBlock
emits_symbols c zero b = ([], b)
emits_symbols c (suc n) b = elim (endpoint.emitted b) [
  | None ↦ ([], b)
  | Some r ↦ if has_symbol r
      then (to_client c (endpoint.after_emit b) r ∷ (emits_symbols c n (endpoint.after_emit b)).0, (emits_symbols c n (endpoint.after_emit b)).1)
      else ([], endpoint.after_emit b)
]

abbrev pub speaks_symbols : ℕ → ControlBlock → List (Place × List ℕ) × ControlBlock
speaks_symbols c b = emits_symbols c (endpoint.emits_left b) b

-- what a client emits, at most so many segments, and the client after it
unfoldable pub client_emits : ℕ → ClientBlock → List (Place × List ℕ) × ClientBlock
client_emits zero x = ([], x)
client_emits (suc n) x = elim (client.client_emitted x) [
  | None ↦ ([], x)
  | Some r ↦ (to_front (client.client_after_emit x) r ∷ (client_emits n (client.client_after_emit x)).0, (client_emits n (client.client_after_emit x)).1)
]

abbrev pub client_speaks : ClientBlock → List (Place × List ℕ) × ClientBlock
client_speaks x = client_emits (client.unsaid x) x

-- packets of at most 1,520 bytes
abbrev pub AreShort : List (Place × List ℕ) → Type 0
AreShort [] = Unit {0}
AreShort (s ∷ ss) = (length s.1 ≤ MAX_SEGMENT_BYTES) × AreShort ss
