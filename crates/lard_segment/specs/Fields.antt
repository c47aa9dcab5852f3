-- Numbers, control bits and ports in the bytes of a segment.
use Rattle.std.specs.Prelude.{ℕ, ◌+◌, ◌*◌, Bool, List, slice_index, bit_and, nat_eq, not, if◌then◌else◌}
use Rattle.lard_segment.specs.declared.segment.Flags.{Flags}
use Rattle.lard_segment.specs.declared.segment.Dir.{Dir}
use Rattle.lard_segment.specs.declared.segment.Dir.TheVariants.{ToCluster, ToClient}

-- the 16 bits at a place, the higher byte first
abbrev pub word_at : List ℕ → ℕ → ℕ
word_at bytes i = slice_index bytes i * 256 + slice_index bytes (i + 1)

-- the 32 bits at a place
abbrev pub double_word_at : List ℕ → ℕ → ℕ
double_word_at bytes i = word_at bytes i * 65536 + word_at bytes (i + 2)

abbrev pub is_set : ℕ → ℕ → Bool
is_set byte bit = not (nat_eq (bit_and byte bit) 0)

-- from the lowest bit on: FIN, SYN, RST, PSH, ACK, and three that are ignored
abbrev pub flags_of : ℕ → Flags
flags_of byte = record { fin = is_set byte 1; syn = is_set byte 2; rst = is_set byte 4; psh = is_set byte 8; ack = is_set byte 16 }

abbrev pub flags_byte : Flags → ℕ
flags_byte f = (if f.fin then 1 else 0) + (if f.syn then 2 else 0) + (if f.rst then 4 else 0) + (if f.psh then 8 else 0) + (if f.ack then 16 else 0)

-- clients use port 40000, and the cluster port 80
abbrev pub source_port : Dir → ℕ
source_port ToCluster = 40000
source_port ToClient = 80

abbrev pub target_port : Dir → ℕ
target_port ToCluster = 80
target_port ToClient = 40000
