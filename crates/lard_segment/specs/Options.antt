-- The options of a segment (RFC 9293, 3.1 and 3.2).
use Rattle.std.specs.Prelude.{ℕ, ◌-◌, zero, suc, List, [], ◌∷◌, length, drop, min, max, Option, Some, None, Result, Ok, Err, if◌then◌else◌, nat_lt, nat_eq, ◌&&◌, ◌||◌, not}
use Rattle.std.specs.Int.{w16, to_be_bytes}
use Rattle.lard_base.specs.declared.limits.TheConstants.{MAX_SEGMENT_DATA}
use Rattle.lard_segment.specs.Fields.{word_at}
use Rattle.lard_segment.specs.declared.fault.SegFault.{SegFault}
use Rattle.lard_segment.specs.declared.fault.SegFault.TheVariants as fault

-- The length of an option of kind k, of which the bytes begin with the length byte; None where that is
-- missing, below 2 or past the end, and where a maximum segment size has another length than 4.
abbrev pub option_len : ℕ → List ℕ → Option ℕ
option_len k [] = None
option_len k (len ∷ more) =
    if nat_lt len 2 || nat_lt (length more) (len - 2) then None
    else (if nat_eq k 2 && not (nat_eq len 4) then None else Some len)

-- a maximum segment size in its range
abbrev pub clamped : ℕ → ℕ
clamped m = min (max m 1) MAX_SEGMENT_DATA

-- the maximum segment size so far, and then that of an option of kind k, where it is the first
abbrev pub mss_after : Option ℕ → ℕ → List ℕ → Option ℕ
mss_after (Some m) k bytes = Some m
mss_after None k bytes = if nat_eq k 2 then Some (clamped (word_at bytes 1)) else None

-- The maximum segment size that options name after the one so far. Kind 0 ends the list, kind 1 is one
-- byte, and unknown kinds are skipped. n is how many options are read at most.
abbrev pub mss_among : ℕ → List ℕ → Option ℕ → Result (Option ℕ) SegFault
mss_among n [] mss = Ok mss
mss_among zero (k ∷ bytes) mss = Ok mss
mss_among (suc n) (k ∷ bytes) mss =
    if nat_eq k 0 then Ok mss
    else (if nat_eq k 1 then mss_among n bytes mss
    else elim (option_len k bytes) [ None ↦ Err fault.Option | Some len ↦ mss_among n (drop (len - 1) bytes) (mss_after mss k bytes) ])

-- the maximum segment size that options name, or the fault of one of them
abbrev pub mss_in : List ℕ → Result (Option ℕ) SegFault
mss_in bytes = mss_among (length bytes) bytes None

-- the options that are written: a maximum segment size, where there is one
abbrev pub option_bytes : Option ℕ → List ℕ
option_bytes None = []
option_bytes (Some m) = 2 ∷ 4 ∷ to_be_bytes w16 m
