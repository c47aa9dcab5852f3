-- What a message says, which of these have a spelling, and the one spelling of each: its version, its kind, its connection,
-- its epoch, the length of its body, and its body. Numbers stand with the highest byte first.
use Rattle.std.specs.Prelude.{◌≡◌, ℕ, ◌<◌, ◌≤◌, ◌^◌, Bool, List, [], ◌∷◌, ◌++◌, length, All, if◌then◌else◌}
use Rattle.std.specs.List.{flat_map, AllByRecursion}
use Rattle.std.specs.Int.{w16, w32, to_be_bytes}
use Rattle.lard_base.specs.declared.ids.TheConstants.ConnId.{MAX}
use Rattle.lard_base.specs.declared.limits.TheConstants.{MAX_FILE_BYTES, MAX_PATH_BYTES, MAX_SEGMENT_BYTES}
use Rattle.lard_base.specs.declared.parts.EndpointParts.{EndpointParts}
use Rattle.lard_base.specs.declared.place.Reason.{Reason}
use Rattle.lard_base.specs.declared.place.Reason.TheVariants.{Closed, Peer, Limit}
use Rattle.lard_base.specs.Parts.{IsValidParts}
use Rattle.lard_message.specs.declared.kind.Kind.{Kind}
use Rattle.lard_message.specs.declared.kind.Kind.TheVariants as kind
use Rattle.lard_message.specs.declared.message.Body.{Body}
use Rattle.lard_message.specs.declared.message.Body.TheVariants.{Offer, Taken, Forward, Ask, Tag, Fetch, Content, Ended, EndedAck, Refused, Give, Given}
use Rattle.lard_message.specs.declared.message.Message.{Message}
use Rattle.lard_message.specs.Kinds.{kind_number, version_of}

-- ---- what has a spelling

abbrev pub kind_of : Body → Kind
kind_of (Offer parts) = kind.Offer
kind_of Taken = kind.Taken
kind_of (Forward bytes) = kind.Forward
kind_of (Ask number queue size paths) = kind.Ask
kind_of (Tag number nodes) = kind.Tag
kind_of (Fetch r path) = kind.Fetch
kind_of (Content r bytes) = kind.Content
kind_of (Ended reason snd rcv count) = kind.Ended
kind_of EndedAck = kind.EndedAck
kind_of Refused = kind.Refused
kind_of (Give parts) = kind.Give
kind_of Given = kind.Given

abbrev pub IsPath : List ℕ → Type 0
IsPath path = (1 ≤ length path) × (length path ≤ MAX_PATH_BYTES)

-- a count belongs to the stream limit alone
abbrev pub IsCount : Reason → ℕ → Type 0
IsCount Limit count = Unit {0}
IsCount Closed count = count ≡ 0
IsCount Peer count = count ≡ 0

-- The ranges of a body's numbers and lengths.
abbrev pub IsOfTable : Body → Type 0
IsOfTable (Offer parts) = IsValidParts parts
IsOfTable Taken = Unit {0}
IsOfTable (Forward bytes) = (20 ≤ length bytes) × (length bytes ≤ MAX_SEGMENT_BYTES)
IsOfTable (Ask number queue size paths) = (size ≤ 8) × (1 ≤ length paths) × (length paths ≤ size) × All IsPath paths
IsOfTable (Tag number nodes) = (1 ≤ length nodes) × (length nodes ≤ 8)
IsOfTable (Fetch r path) = IsPath path
IsOfTable (Content r bytes) = length bytes ≤ MAX_FILE_BYTES
IsOfTable (Ended reason snd rcv count) = IsCount reason count
IsOfTable EndedAck = Unit {0}
IsOfTable Refused = Unit {0}
IsOfTable (Give parts) = IsValidParts parts
IsOfTable Given = Unit {0}

-- A node has a number of its range.
abbrev pub IsNodeNumber : ℕ → Type 0
IsNodeNumber n = (1 ≤ n) × (n ≤ 64)

-- Those numbers of an endpoint's parts that no range bounds fit their fields.
abbrev pub FitParts : EndpointParts → Type 0
FitParts parts = (parts.irs < 2 ^ 32) × (parts.iss < 2 ^ 32) × (parts.wnd < 2 ^ 16) × (parts.wl1 < 2 ^ 32) × (parts.wl2 < 2 ^ 32)

-- Each number fits its field, which in the code its type says.
abbrev pub FitsFields : Body → Type 0
FitsFields (Offer parts) = FitParts parts
FitsFields Taken = Unit {0}
FitsFields (Forward bytes) = Unit {0}
FitsFields (Ask number queue size paths) = (number < 2 ^ 32) × (queue < 2 ^ 32)
FitsFields (Tag number nodes) = (number < 2 ^ 32) × AllByRecursion IsNodeNumber nodes
FitsFields (Fetch r path) = r < 2 ^ 32
FitsFields (Content r bytes) = r < 2 ^ 32
FitsFields (Ended reason snd rcv count) = (snd < 2 ^ 32) × (rcv < 2 ^ 32) × (count < 2 ^ 32)
FitsFields EndedAck = Unit {0}
FitsFields Refused = Unit {0}
FitsFields (Give parts) = FitParts parts
FitsFields Given = Unit {0}

-- what has a spelling
pub record IsMessage (m : Message) : Type 0 where
  pub some_connection : 1 ≤ m.c
  pub connection : m.c ≤ MAX
  pub epoch : m.epoch.0 < 2 ^ 16
  pub table : IsOfTable m.body
  pub fits : FitsFields m.body

-- ---- the one spelling

-- two bytes of length, and that many bytes
abbrev pub counted_bytes : List ℕ → List ℕ
counted_bytes bytes = to_be_bytes w16 (length bytes) ++ bytes

abbrev pub flag_byte : Bool → ℕ
flag_byte flag = if flag then 1 else 0

abbrev pub reason_byte : Reason → ℕ
reason_byte Closed = 0
reason_byte Peer = 1
reason_byte Limit = 2

-- 33 bytes
abbrev pub parts_numbers : EndpointParts → List ℕ
parts_numbers p =
    to_be_bytes w32 p.irs ++ to_be_bytes w32 p.iss ++ to_be_bytes w32 p.got ++ flag_byte p.fin ∷ to_be_bytes w32 p.una ++ to_be_bytes w16 p.wnd
    ++ to_be_bytes w32 p.wl1 ++ to_be_bytes w32 p.wl2 ++ to_be_bytes w16 p.mss ++ to_be_bytes w32 p.served

-- the same numbers in two halves, each written by itself
abbrev pub first_numbers : EndpointParts → List ℕ
first_numbers p = to_be_bytes w32 p.irs ++ to_be_bytes w32 p.iss ++ to_be_bytes w32 p.got ++ flag_byte p.fin ∷ to_be_bytes w32 p.una

abbrev pub second_numbers : EndpointParts → List ℕ
second_numbers p = to_be_bytes w16 p.wnd ++ to_be_bytes w32 p.wl1 ++ to_be_bytes w32 p.wl2 ++ to_be_bytes w16 p.mss ++ to_be_bytes w32 p.served

-- in an Offer as in a Give
abbrev pub parts_bytes : EndpointParts → List ℕ
parts_bytes p = parts_numbers p ++ counted_bytes p.unread

abbrev pub body_bytes : Body → List ℕ
body_bytes (Offer parts) = parts_bytes parts
body_bytes Taken = []
body_bytes (Forward bytes) = bytes
body_bytes (Ask number queue size paths) = to_be_bytes w32 number ++ to_be_bytes w32 queue ++ size ∷ length paths ∷ flat_map counted_bytes paths
body_bytes (Tag number nodes) = to_be_bytes w32 number ++ length nodes ∷ nodes
body_bytes (Fetch r path) = to_be_bytes w32 r ++ counted_bytes path
body_bytes (Content r bytes) = to_be_bytes w32 r ++ to_be_bytes w32 (length bytes) ++ bytes
body_bytes (Ended reason snd rcv count) = reason_byte reason ∷ to_be_bytes w32 snd ++ to_be_bytes w32 rcv ++ to_be_bytes w32 count
body_bytes EndedAck = []
body_bytes Refused = []
body_bytes (Give parts) = parts_bytes parts
body_bytes Given = []

-- ten bytes
abbrev pub header_bytes : ℕ → ℕ → ℕ → ℕ → ℕ → List ℕ
header_bytes version number c epoch len = version ∷ number ∷ to_be_bytes w16 c ++ to_be_bytes w16 epoch ++ to_be_bytes w32 len

unfoldable pub spelled_message : Message → List ℕ
spelled_message m =
    header_bytes (version_of (kind_of m.body)) (kind_number (kind_of m.body)) m.c m.epoch.0 (length (body_bytes m.body)) ++ body_bytes m.body
