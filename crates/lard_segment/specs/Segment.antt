-- What a segment says, the one spelling of it, and what bytes say (RFC 9293, 3.1).
use Rattle.std.specs.Prelude.{◌≡◌, ℕ, ◌+◌, ◌-◌, ◌*◌, ◌/◌, ◌^◌, ◌<◌, ◌≤◌, Bool, false, List, ◌∷◌, ◌++◌, length, take, drop, slice_index, Option, None, Some, Result, Ok, Err, IfSome, if◌then◌else◌, nat_lt, nat_eq, ◌&&◌, ◌||◌, not}
use Rattle.std.specs.Int.{w16, w32, to_be_bytes}
use Rattle.lard_base.specs.declared.limits.TheConstants.{MAX_SEGMENT_DATA}
use Rattle.lard_segment.specs.declared.segment.Dir.{Dir}
use Rattle.lard_segment.specs.declared.segment.Flags.{Flags}
use Rattle.lard_segment.specs.declared.segment.Segment.{Segment}
use Rattle.lard_segment.specs.declared.fault.SegFault.{SegFault}
use Rattle.lard_segment.specs.declared.fault.SegFault.TheVariants as fault
use Rattle.lard_segment.specs.Checksum.{checksum_of}
use Rattle.lard_segment.specs.Fields.{word_at, double_word_at, flags_of, flags_byte, source_port, target_port}
use Rattle.lard_segment.specs.Options.{mss_in, option_bytes}

-- a segment, without where its data lies
pub record Said : Type 0 where
  pub seq : ℕ
  pub ack : ℕ
  pub flags : Flags
  pub wnd : ℕ
  pub mss : Option ℕ
  pub payload : List ℕ

abbrev pub said : Segment → Said
said s = record { seq = s.seq.0; ack = s.ack.0; flags = s.flags; wnd = s.wnd; mss = s.mss; payload = s.payload.now }

-- ---- the one spelling

-- the header up to the options, where the data begins at a place
abbrev pub fixed_bytes : Dir → Said → ℕ → ℕ → List ℕ
fixed_bytes dir s begins checksum =
    to_be_bytes w16 (source_port dir) ++ to_be_bytes w16 (target_port dir) ++ to_be_bytes w32 s.seq ++ to_be_bytes w32 s.ack
    ++ begins / 4 * 16 ∷ flags_byte s.flags ∷ to_be_bytes w16 s.wnd ++ to_be_bytes w16 checksum ++ to_be_bytes w16 0

-- the whole segment with this checksum
abbrev pub with_checksum : Dir → Said → ℕ → List ℕ
with_checksum dir s checksum = fixed_bytes dir s (20 + length (option_bytes s.mss)) checksum ++ option_bytes s.mss ++ s.payload

-- the segment of connection c in this direction, with the checksum that agrees
unfoldable pub spelled : ℕ → Dir → Said → List ℕ
spelled c dir s = with_checksum dir s (checksum_of c dir (with_checksum dir s 0))

-- what may be sent: numbers in their fields, little data, a size in its range, and no number without ACK
pub record IsSendable (s : Said) : Type 0 where
  pub seq_fits : s.seq < 2 ^ 32
  pub ack_fits : s.ack < 2 ^ 32
  pub wnd_fits : s.wnd < 2 ^ 16
  pub some_mss : IfSome s.mss (λ m. 1 ≤ m)
  pub small_mss : IfSome s.mss (λ m. m ≤ MAX_SEGMENT_DATA)
  pub small_payload : length s.payload ≤ MAX_SEGMENT_DATA
  pub no_ack : s.flags.ack ≡ false → s.ack ≡ 0

-- ---- what bytes say

-- the ports of the direction
abbrev pub are_ports : List ℕ → Dir → Bool
are_ports bytes dir = nat_eq (word_at bytes 0) (source_port dir) && nat_eq (word_at bytes 2) (target_port dir)

-- the data offset, which the upper four bits of byte 12 count in words of four bytes
abbrev pub offset_of : List ℕ → ℕ
offset_of bytes = slice_index bytes 12 / 16 * 4

-- where the data begins, unless that is in the fixed part of the header or past the end
abbrev pub begins_at : List ℕ → Option ℕ
begins_at bytes = if nat_lt (offset_of bytes) 20 || nat_lt (length bytes) (offset_of bytes) then None else Some (offset_of bytes)

-- the segment whose data begins at a place, once its options are read
abbrev pub with_mss : List ℕ → ℕ → Result (Option ℕ) SegFault → Result Said SegFault
with_mss bytes begins (Err e) = Err e
with_mss bytes begins (Ok mss) = Ok (record {
  seq = double_word_at bytes 4;
  ack = double_word_at bytes 8;
  flags = flags_of (slice_index bytes 13);
  wnd = word_at bytes 14;
  mss = mss;
  payload = drop begins bytes;
})

-- the segment once it is known where its data begins; the options stand before it
abbrev pub with_data : List ℕ → Option ℕ → Result Said SegFault
with_data bytes None = Err fault.Offset
with_data bytes (Some begins) = with_mss bytes begins (mss_in (take (begins - 20) (drop 20 bytes)))

-- what bytes say on connection c in this direction, or the first fault
unfoldable pub decoded : List ℕ → ℕ → Dir → Result Said SegFault
decoded bytes c dir =
    if nat_lt (length bytes) 20 then Err fault.Short
    else (if not (nat_eq (word_at bytes 16) (checksum_of c dir bytes)) then Err fault.Sum
    else (if not (are_ports bytes dir) then Err fault.Port
    else with_data bytes (begins_at bytes)))

-- an answer, seen as what is said
abbrev pub GivesSegment : Result Segment SegFault → Result Said SegFault → Type 0
GivesSegment (Ok s) given = given ≡ Ok (said s)
GivesSegment (Err e) given = given ≡ Err e

-- what was written is read again
abbrev pub SegmentReadsAgain : Type 0
SegmentReadsAgain = (c : ℕ) (dir : Dir) (s : Said) → IsSendable s → decoded (spelled c dir s) c dir ≡ Ok s
