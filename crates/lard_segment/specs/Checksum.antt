-- The checksum of a segment (RFC 9293, 3.1).
use Rattle.std.specs.Prelude.{ℕ, ◌+◌, ◌-◌, ◌*◌, ◌/◌, ◌%◌, List, [], ◌∷◌, ◌++◌, length, take, drop}
use Rattle.std.specs.Int.{w16, to_be_bytes}
use Rattle.lard_segment.specs.declared.segment.Dir.{Dir}
use Rattle.lard_segment.specs.declared.segment.Dir.TheVariants.{ToCluster, ToClient}

-- the sum of the words of 16 bits, the last one filled up by a zero byte
abbrev pub words_sum : List ℕ → ℕ
words_sum [] = 0
words_sum (a ∷ []) = a * 256
words_sum (a ∷ b ∷ bytes) = a * 256 + b + words_sum bytes

-- 10.0.0.1
abbrev pub cluster_address : List ℕ
cluster_address = 10 ∷ 0 ∷ 0 ∷ 1 ∷ []

-- 10.1.H.L for client 256 * H + L
abbrev pub client_address : ℕ → List ℕ
client_address c = 10 ∷ 1 ∷ c / 256 ∷ c % 256 ∷ []

-- source, then destination
abbrev pub addresses : ℕ → Dir → List ℕ
addresses c ToCluster = client_address c ++ cluster_address
addresses c ToClient = cluster_address ++ client_address c

-- what is summed before a segment of this length: addresses, a zero byte, TCP's protocol number 6, the length
abbrev pub pseudo_header : ℕ → Dir → ℕ → List ℕ
pseudo_header c dir len = addresses c dir ++ 0 ∷ 6 ∷ to_be_bytes w16 len

-- a segment with checksum 0
abbrev pub blanked : List ℕ → List ℕ
blanked bytes = take 16 bytes ++ 0 ∷ 0 ∷ drop 18 bytes

-- The complement of the one's complement sum, in which 65,535 and 0 are one number and stand as 65,535,
-- since a pseudo header is never all zeros.
abbrev pub checksum_of : ℕ → Dir → List ℕ → ℕ
checksum_of c dir bytes = (65535 - (words_sum (pseudo_header c dir (length bytes)) + words_sum (blanked bytes)) % 65535) % 65535
