-- What the segments say.
use Rattle.std.proofs.Common.{◌≡◌, true, false, [], ◌∷◌, Some, None, Result, Ok, Err, refl}
use Rattle.std.specs.Prelude.{codes}
use Rattle.lard_law_view.specs.Prelude.{Flags, Numbers, Said, SegFault, ToClient, decoded}
use Rattle.lard_refusals.specs.Packets.{acknowledgement, acknowledges_the_request, acknowledges_three_bytes, final_segment, reset_segment, two_bytes, two_bytes_from_the_end, two_bytes_from_zero, two_other_bytes}
use Rattle.lard_segment.specs.declared.fault.SegFault.TheVariants as fault

-- what is decoded twice is the same
pub same-said : {r : Result Said SegFault} {s t : Said} → r ≡ Ok s → r ≡ Ok t → s ≡ t
same-said e f = cc

pub same-numbers : (n : Numbers) → Some (record { isn = 1000; iss = 5000 }) ≡ Some n → n ≡ record { isn = 1000; iss = 5000 }
same-numbers n e = cc

pub garbage-is-short : (s : Said) → decoded (1 ∷ 2 ∷ 3 ∷ []) 1 ToClient ≡ Ok s → ⊥
unfolding decoded
garbage-is-short s e = let short : Err fault.Short ≡ Ok s = e in cc

abbrev pub ack_flags : Flags
ack_flags = record { fin = false; syn = false; rst = false; psh = false; ack = true }

abbrev pub acknowledgement_says : Said
acknowledgement_says = record { seq = 5001; ack = 1001; flags = ack_flags; wnd = 16384; mss = None; payload = [] }

abbrev pub three_bytes_say : Said
three_bytes_say = record acknowledgement_says { ack = 1004 }

abbrev pub request_say : Said
request_say = record acknowledgement_says { ack = 1032 }

abbrev pub two_bytes_say : Said
two_bytes_say = record acknowledgement_says { flags = record ack_flags { psh = true }; payload = codes "HT" }

abbrev pub reset_says : Said
reset_says = record { seq = 5001; ack = 0; flags = record ack_flags { rst = true; ack = false }; wnd = 0; mss = None; payload = [] }

pub acknowledgement-decodes : decoded acknowledgement 1 ToClient ≡ Ok acknowledgement_says
unfolding decoded
acknowledgement-decodes = refl

pub three-bytes-decode : decoded acknowledges_three_bytes 1 ToClient ≡ Ok three_bytes_say
unfolding decoded
three-bytes-decode = refl

pub request-decodes : decoded acknowledges_the_request 1 ToClient ≡ Ok request_say
unfolding decoded
request-decodes = refl

pub two-bytes-decode : decoded two_bytes 1 ToClient ≡ Ok two_bytes_say
unfolding decoded
two-bytes-decode = refl

pub final-decodes : decoded final_segment 1 ToClient ≡ Ok (record acknowledgement_says { flags = record ack_flags { fin = true } })
unfolding decoded
final-decodes = refl

pub reset-decodes : decoded reset_segment 1 ToClient ≡ Ok reset_says
unfolding decoded
reset-decodes = refl

abbrev pub from_zero_say : Said
from_zero_say = record two_bytes_say { seq = 0 }

abbrev pub from_the_end_say : Said
from_the_end_say = record two_bytes_say { seq = 4294967295 }

pub from-zero-decodes : decoded two_bytes_from_zero 1 ToClient ≡ Ok from_zero_say
unfolding decoded
from-zero-decodes = refl

pub from-the-end-decodes : decoded two_bytes_from_the_end 1 ToClient ≡ Ok from_the_end_say
unfolding decoded
from-the-end-decodes = refl

abbrev pub other_bytes_say : Said
other_bytes_say = record two_bytes_say { payload = codes "TT" }

pub other-bytes-decode : decoded two_other_bytes 1 ToClient ≡ Ok other_bytes_say
unfolding decoded
other-bytes-decode = refl
