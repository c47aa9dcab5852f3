-- What one more packet, or one that is lost, changes of the whole.
use Rattle.std.proofs.Common.{◌≡◌, ◌+◌, ◌*◌, ◌≤◌, ◌<◌, ◌^◌, [], ◌∷◌, ◌++◌, true, length, ℕ, zero, suc, List, Some, slice_set, slice_index_or, refl, ap, arith, subst}
use Rattle.std.specs.Prelude.{slice_get}
use Rattle.lard_base.specs.declared.place.Place.{Place}
use Rattle.lard_base.specs.declared.place.Place.TheVariants.{Front, Node, Client}
use Rattle.lard_net.specs.declared.net.Kept.{Kept}
use Rattle.lard_net.specs.Net.{Packet, AreSized, IsSized, bytes_in, lose_at, most_bytes, packet_lent, packets_shown}

pub bytes_pushed : (ps : List Packet) (p : Packet) → bytes_in (ps ++ p ∷ []) ≡ bytes_in ps + length p.bytes
bytes_pushed [] p = omega arith
bytes_pushed (q ∷ qs) p = let e : bytes_in (qs ++ p ∷ []) ≡ bytes_in qs + length p.bytes = bytes_pushed qs p in omega arith

pub sized_pushed : (ps : List Packet) (p : Packet) → AreSized ps → IsSized p.from p.to (length p.bytes) → AreSized (ps ++ p ∷ [])
sized_pushed [] p all one = (one, tt)
sized_pushed (q ∷ qs) p all one = (all.0, sized_pushed qs p all.1 one)

-- no place has packets of more than 2^21 bytes, and each may have those of a segment
pub most : (place : Place) → most_bytes place ≤ 2 ^ 21
most Front = omega arith
most (Node n) = omega arith
most (Client c) = omega arith

least : (place : Place) → 1520 ≤ most_bytes place
least Front = omega arith
least (Node n) = omega arith
least (Client c) = omega arith

-- a segment may go between any two places
pub segment_sized : (from to : Place) (n : ℕ) → n ≤ 1520 → IsSized from to n
segment_sized from to n h = (omega (arith, h, least from), omega (arith, h, least to))

-- all bytes are few
pub bytes_bounded : (ps : List Packet) → AreSized ps → bytes_in ps ≤ 2 ^ 21 * length ps
bytes_bounded [] all = omega arith
bytes_bounded (q ∷ qs) all =
    let e : bytes_in qs ≤ 2 ^ 21 * length qs = bytes_bounded qs all.1 in
    let f : length q.bytes ≤ most_bytes q.from = all.0.0 in
    omega (arith, e, f, most q.from)

-- a packet that is lost keeps its bytes
pub lost_bytes : (n : ℕ) (ps : List Packet) → bytes_in (lose_at n ps) ≡ bytes_in ps
lost_bytes n [] = refl
lost_bytes zero (p ∷ ps) = refl
lost_bytes (suc n) (p ∷ ps) = ap (λ (k : ℕ). length p.bytes + k) (lost_bytes n ps)

pub lost_sized : (n : ℕ) (ps : List Packet) → AreSized ps → AreSized (lose_at n ps)
lost_sized n [] all = tt
lost_sized zero (p ∷ ps) all = all
lost_sized (suc n) (p ∷ ps) all = (all.0, lost_sized n ps all.1)

pub lost_length : (n : ℕ) (ps : List Packet) → length (lose_at n ps) ≡ length ps
lost_length n [] = refl
lost_length zero (p ∷ ps) = refl
lost_length (suc n) (p ∷ ps) = ap suc (lost_length n ps)

-- ---- the packets as they are kept

-- the code sets one field in its place
pub lost_is : (ps : List Kept) (n : ℕ) (q : Kept) → n < length ps → q ≡ slice_index_or ps n q → packets_shown (slice_set ps n (record q { lost = true })) ≡ lose_at n (packets_shown ps)
lost_is [] n q within e = absurd (omega arith)
lost_is (p ∷ ps) zero q within e = ap (λ (r : Kept). packet_lent (record r { lost = true }) ∷ packets_shown ps) e
lost_is (p ∷ ps) (suc n) q within e = ap (λ (rs : List Packet). packet_lent p ∷ rs) (lost_is ps n q (omega arith) e)

-- a packet that is found has no more bytes than may go between its places
pub sized_at : (ps : List Kept) (i : ℕ) (p : Kept) → AreSized (packets_shown ps) → Some p ≡ slice_get ps i → IsSized p.from p.to (length p.bytes)
sized_at [] i p all is = cc
sized_at (q ∷ qs) zero p all is = let e : q ≡ p = cc in subst (λ (r : Kept). IsSized r.from r.to (length r.bytes)) e all.0
sized_at (q ∷ qs) (suc i) p all is = sized_at qs i p all.1 is
