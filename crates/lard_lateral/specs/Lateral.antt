-- Which contents are awaited: those whose Fetches are held.
use Rattle.std.specs.Prelude.{ℕ, ◌+◌, ◌*◌, Bool, false, ◌==◌, nat_lt, ◌&&◌, List, length, slice_index, Option, Some, None, if◌then◌else◌}
use Rattle.std.specs.FinMap.{FinMap}
use Rattle.std.specs.Ordering.{nat_cmp}
use Rattle.lard_base.specs.declared.place.Place.{Place}
use Rattle.lard_base.specs.declared.place.Place.TheVariants.{Front, Node, Client}
use Rattle.lard_base.specs.declared.place.TimerKind.TheVariants as kind
use Rattle.lard_message.specs.declared.message.Body.TheVariants as body
use Rattle.lard_message.specs.declared.message.Message.{Message}
use Rattle.lard_message.specs.Message.{spelled_message}
use Rattle.lard_resend.specs.declared.kept.Kept.{Kept}
use Rattle.lard_resend.specs.Pending.{renewed, pending_settled, under}

-- the Fetch of a request
abbrev pub fetching : ℕ → ℕ → ℕ → List ℕ → Message
fetching c epoch r path = record { c = c; epoch = record { 0 = epoch }; body = body.Fetch r path }

-- as it is held
abbrev pub fetch_kept : ℕ → ℕ → ℕ → ℕ → List ℕ → Kept
fetch_kept c epoch r node path = record { kind = kind.Fetch; r = r; to = Node node; bytes = spelled_message (fetching c epoch r path) }

-- the content of a request is awaited from this node, and from no other
abbrev pub wanting : FinMap nat_cmp (List Kept) → ℕ → ℕ → ℕ → ℕ → List ℕ → FinMap nat_cmp (List Kept)
wanting m c epoch r node path = renewed m c (fetch_kept c epoch r node path)

abbrev pub is_node : Place → ℕ → Bool
is_node (Node n) from = n == from
is_node Front from = false
is_node (Client c) from = false

-- the epoch stands behind the connection's number
abbrev pub names_epoch : List ℕ → ℕ → Bool
names_epoch bytes epoch = if nat_lt (length bytes) 6 then false else slice_index bytes 4 * 256 + slice_index bytes 5 == epoch

-- what is held, if anything, was sent to this node in this epoch
abbrev pub is_from : ℕ → ℕ → Option Kept → Bool
is_from from epoch None = false
is_from from epoch (Some k) = is_node k.to from && names_epoch k.bytes epoch

-- the content of request r is awaited from this node in this epoch
abbrev pub is_awaited : FinMap nat_cmp (List Kept) → ℕ → ℕ → ℕ → ℕ → Bool
is_awaited m from c epoch r = is_from from epoch (under m c kind.Fetch r)

-- a content that came is awaited no longer; one that is not awaited changes nothing
abbrev pub after_content : FinMap nat_cmp (List Kept) → ℕ → ℕ → ℕ → ℕ → FinMap nat_cmp (List Kept)
after_content m from c epoch r = if is_awaited m from c epoch r then pending_settled m c kind.Fetch r else m
