-- What bytes say, from left to right, and the first fault of those that are no message.
use Rattle.std.specs.Prelude.{◌≡◌, ℕ, zero, suc, ◌+◌, ◌-◌, nat_lt, nat_le, ◌==◌, not, ◌&&◌, Bool, true, false, List, [], ◌∷◌, length, take, drop, slice_index, Option, Some, None, Result, Ok, Err, if◌then◌else◌}
use Rattle.std.specs.List.{list_all}
use Rattle.std.specs.Int.{Width, w16, w32, byte_len, from_be_bytes}
use Rattle.lard_base.specs.declared.ids.TheConstants.ConnId.{MAX}
use Rattle.lard_base.specs.declared.limits.TheConstants.{MAX_FILE_BYTES, MAX_PATH_BYTES, MAX_SEGMENT_BYTES, MAX_SEGMENT_DATA, MAX_STREAM_BYTES, RECEIVE_WINDOW}
use Rattle.lard_base.specs.declared.parts.EndpointParts.{EndpointParts}
use Rattle.lard_base.specs.declared.place.Reason.{Reason}
use Rattle.lard_base.specs.declared.place.Reason.TheVariants.{Closed, Peer, Limit}
use Rattle.lard_message.specs.declared.fault.MsgFault.{MsgFault}
use Rattle.lard_message.specs.declared.fault.MsgFault.TheVariants as fault
use Rattle.lard_message.specs.declared.kind.Kind.{Kind}
use Rattle.lard_message.specs.declared.kind.Kind.TheVariants as kind
use Rattle.lard_message.specs.declared.message.Body.{Body}
use Rattle.lard_message.specs.declared.message.Body.TheVariants.{Offer, Taken, Forward, Ask, Tag, Fetch, Content, Ended, EndedAck, Refused, Give, Given}
use Rattle.lard_message.specs.declared.message.Message.{Message}
use Rattle.lard_message.specs.Kinds.{is_version, kind_named}

infixl 10 ◌>>=◌
-- one reading after another, as long as each finds something
abbrev pub ◌>>=◌ : {A B : Type 0} → Option A → (A → Option B) → Option B
(Some x) >>= f = f x
None >>= f = None

-- A reading that ends without a value found nothing, unless memory ran out.
abbrev pub StopsReading : {Y : Type 0} → MsgFault → Option Y → Type 0
StopsReading fault.NoMemory read = Unit {0}
StopsReading fault.Field read = read ≡ None
StopsReading e read = ⊥

-- What a function read, seen by view, is what reading finds.
abbrev pub Reads : {X Y : Type 0} → (X → Y) → Result X MsgFault → Option Y → Type 0
Reads view (Ok x) read = read ≡ Some (view x)
Reads view (Err e) read = StopsReading e read

-- ---- fields: a value, and the bytes after it

abbrev pub byte_at : List ℕ → Option (ℕ × List ℕ)
byte_at [] = None
byte_at (b ∷ rest) = Some (b, rest)

abbrev pub number_at : Width → List ℕ → Option (ℕ × List ℕ)
number_at w bytes = if nat_lt (length bytes) (byte_len w) then None else Some (from_be_bytes w (take (byte_len w) bytes), drop (byte_len w) bytes)

abbrev pub taken_at : ℕ → List ℕ → Option (List ℕ × List ℕ)
taken_at n bytes = if nat_lt (length bytes) n then None else Some (take n bytes, drop n bytes)

abbrev pub flag_of : ℕ → Option Bool
flag_of b = if b == 0 then Some false else if b == 1 then Some true else None

abbrev pub reason_of : ℕ → Option Reason
reason_of b = if b == 0 then Some Closed else if b == 1 then Some Peer else if b == 2 then Some Limit else None

abbrev pub node_of : ℕ → Option ℕ
node_of b = if nat_le 1 b && nat_le b 64 then Some b else None

unfoldable pub flag_at : List ℕ → Option (Bool × List ℕ)
flag_at bytes = do
  b ← byte_at bytes
  flag ← flag_of b.0
  Some (flag, b.1)

unfoldable pub reason_at : List ℕ → Option (Reason × List ℕ)
reason_at bytes = do
  b ← byte_at bytes
  reason ← reason_of b.0
  Some (reason, b.1)

unfoldable pub counted_at : List ℕ → Option (List ℕ × List ℕ)
counted_at bytes = do
  n ← number_at w16 bytes
  taken_at n.0 n.1

-- so many paths, each behind its length
unfoldable pub paths_at : ℕ → List ℕ → Option (List (List ℕ) × List ℕ)
paths_at zero bytes = Some ([], bytes)
paths_at (suc n) bytes = do
  first ← counted_at bytes
  others ← paths_at n first.1
  Some (first.0 ∷ others.0, others.1)

-- the nodes of these bytes, one each
unfoldable pub nodes_of : List ℕ → Option (List ℕ)
nodes_of [] = Some []
nodes_of (b ∷ bytes) = do
  node ← node_of b
  others ← nodes_of bytes
  Some (node ∷ others)

-- ---- bodies, each with the bytes after it

unfoldable pub parts_at : List ℕ → Option (EndpointParts × List ℕ)
parts_at bytes = do
  irs ← number_at w32 bytes
  iss ← number_at w32 irs.1
  got ← number_at w32 iss.1
  fin ← flag_at got.1
  una ← number_at w32 fin.1
  wnd ← number_at w16 una.1
  wl1 ← number_at w32 wnd.1
  wl2 ← number_at w32 wl1.1
  mss ← number_at w16 wl2.1
  served ← number_at w32 mss.1
  unread ← counted_at served.1
  Some (
    record {
      irs = irs.0;
      iss = iss.0;
      got = got.0;
      fin = fin.0;
      una = una.0;
      wnd = wnd.0;
      wl1 = wl1.0;
      wl2 = wl2.0;
      mss = mss.0;
      served = served.0;
      unread = unread.0;
    },
    unread.1,
  )

-- what is behind the first five of these numbers
unfoldable pub parts_behind : ℕ → ℕ → ℕ → Bool → ℕ → List ℕ → Option (EndpointParts × List ℕ)
parts_behind irs iss got fin una bytes = do
  wnd ← number_at w16 bytes
  wl1 ← number_at w32 wnd.1
  wl2 ← number_at w32 wl1.1
  mss ← number_at w16 wl2.1
  served ← number_at w32 mss.1
  unread ← counted_at served.1
  Some (
    record {
      irs = irs;
      iss = iss;
      got = got;
      fin = fin;
      una = una;
      wnd = wnd.0;
      wl1 = wl1.0;
      wl2 = wl2.0;
      mss = mss.0;
      served = served.0;
      unread = unread.0;
    },
    unread.1,
  )

unfoldable pub offer_at : List ℕ → Option (Body × List ℕ)
offer_at bytes = do
  parts ← parts_at bytes
  Some (Offer parts.0, parts.1)

unfoldable pub give_at : List ℕ → Option (Body × List ℕ)
give_at bytes = do
  parts ← parts_at bytes
  Some (Give parts.0, parts.1)

unfoldable pub ask_at : List ℕ → Option (Body × List ℕ)
ask_at bytes = do
  number ← number_at w32 bytes
  queue ← number_at w32 number.1
  size ← byte_at queue.1
  count ← byte_at size.1
  paths ← paths_at count.0 count.1
  Some (Ask number.0 queue.0 size.0 paths.0, paths.1)

unfoldable pub tag_at : List ℕ → Option (Body × List ℕ)
tag_at all = do
  number ← number_at w32 all
  count ← byte_at number.1
  bytes ← taken_at count.0 count.1
  nodes ← nodes_of bytes.0
  Some (Tag number.0 nodes, bytes.1)

unfoldable pub fetch_at : List ℕ → Option (Body × List ℕ)
fetch_at bytes = do
  r ← number_at w32 bytes
  path ← counted_at r.1
  Some (Fetch r.0 path.0, path.1)

unfoldable pub content_at : List ℕ → Option (Body × List ℕ)
content_at bytes = do
  r ← number_at w32 bytes
  len ← number_at w32 r.1
  content ← taken_at len.0 len.1
  Some (Content r.0 content.0, content.1)

unfoldable pub ended_body_at : List ℕ → Option (Body × List ℕ)
ended_body_at bytes = do
  reason ← reason_at bytes
  snd ← number_at w32 reason.1
  rcv ← number_at w32 snd.1
  count ← number_at w32 rcv.1
  Some (Ended reason.0 snd.0 rcv.0 count.0, count.1)

-- the segment of a Forward is all that there is
abbrev pub body_at : Kind → List ℕ → Option (Body × List ℕ)
body_at kind.Offer bytes = offer_at bytes
body_at kind.Taken bytes = Some (Taken, bytes)
body_at kind.Forward bytes = Some (Forward bytes, [])
body_at kind.Ask bytes = ask_at bytes
body_at kind.Tag bytes = tag_at bytes
body_at kind.Fetch bytes = fetch_at bytes
body_at kind.Content bytes = content_at bytes
body_at kind.Ended bytes = ended_body_at bytes
body_at kind.EndedAck bytes = Some (EndedAck, bytes)
body_at kind.Refused bytes = Some (Refused, bytes)
body_at kind.Give bytes = give_at bytes
body_at kind.Given bytes = Some (Given, bytes)

-- ---- the ranges, as tests

abbrev pub is_message_path : List ℕ → Bool
is_message_path path = nat_le 1 (length path) && nat_le (length path) MAX_PATH_BYTES

abbrev pub is_count : Reason → ℕ → Bool
is_count Limit count = true
is_count Closed count = count == 0
is_count Peer count = count == 0

abbrev pub are_parts : EndpointParts → Bool
are_parts p =
    (nat_le (length p.unread) RECEIVE_WINDOW && nat_le (length p.unread) p.got) && ((nat_le p.got MAX_STREAM_BYTES && nat_le 1 p.una)
    && ((nat_le p.una (MAX_STREAM_BYTES + 1) && nat_le 1 p.mss) && (nat_le p.mss MAX_SEGMENT_DATA && nat_le p.served (p.got - length p.unread))))

abbrev pub is_of_table : Body → Bool
is_of_table (Offer parts) = are_parts parts
is_of_table Taken = true
is_of_table (Forward bytes) = nat_le 20 (length bytes) && nat_le (length bytes) MAX_SEGMENT_BYTES
is_of_table (Ask number queue size paths) = nat_le size 8 && (nat_le 1 (length paths) && (nat_le (length paths) size && list_all is_message_path paths))
is_of_table (Tag number nodes) = nat_le 1 (length nodes) && nat_le (length nodes) 8
is_of_table (Fetch r path) = is_message_path path
is_of_table (Content r bytes) = nat_le (length bytes) MAX_FILE_BYTES
is_of_table (Ended reason snd rcv count) = is_count reason count
is_of_table EndedAck = true
is_of_table Refused = true
is_of_table (Give parts) = are_parts parts
is_of_table Given = true

-- ---- the whole

abbrev pub version_at : List ℕ → ℕ
version_at bytes = slice_index bytes 0

abbrev pub number_byte : List ℕ → ℕ
number_byte bytes = slice_index bytes 1

abbrev pub connection_at : List ℕ → ℕ
connection_at bytes = from_be_bytes w16 (take 2 (drop 2 bytes))

abbrev pub epoch_at : List ℕ → ℕ
epoch_at bytes = from_be_bytes w16 (take 2 (drop 4 bytes))

abbrev pub length_at : List ℕ → ℕ
length_at bytes = from_be_bytes w32 (take 4 (drop 6 bytes))

-- a body of this connection that has been read, and the bytes after it, of which there may be none
abbrev pub with_body : ℕ → ℕ → Option (Body × List ℕ) → Result Message MsgFault
with_body c epoch None = Err fault.Field
with_body c epoch (Some (body, rest)) =
    if length rest == 0 && is_of_table body then Ok (record { c = c; epoch = record { 0 = epoch }; body = body }) else Err fault.Field

-- the connection is tested before its body is read
abbrev pub with_kind : List ℕ → Option Kind → Result Message MsgFault
with_kind bytes None = Err fault.Kind
with_kind bytes (Some kind) =
    if nat_lt (length bytes) (10 + length_at bytes) then Err fault.Length
    else if nat_lt (10 + length_at bytes) (length bytes) then Err fault.Trailing
    else if not (nat_le 1 (connection_at bytes) && nat_le (connection_at bytes) MAX) then Err fault.Field
    else with_body (connection_at bytes) (epoch_at bytes) (body_at kind (drop 10 bytes))

-- the message that the bytes spell, or the first fault
unfoldable pub decoded_message : List ℕ → Result Message MsgFault
decoded_message bytes =
    if nat_lt (length bytes) 10 then Err fault.Short
    else if not (is_version (version_at bytes)) then Err fault.Version
    else with_kind bytes (kind_named (version_at bytes) (number_byte bytes))

-- An answer is what the bytes say, unless memory ran out.
abbrev pub GivesMessage : Result Message MsgFault → Result Message MsgFault → Type 0
GivesMessage (Ok m) given = given ≡ Ok m
GivesMessage (Err fault.NoMemory) given = Unit {0}
GivesMessage (Err e) given = given ≡ Err e
