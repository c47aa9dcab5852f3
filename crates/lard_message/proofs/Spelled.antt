-- How long a spelling is, and what stands at its places.
use Rattle.std.proofs.Common.{◌≡◌, ℕ, ◌+◌, ◌*◌, ◌≤◌, List, [], ◌∷◌, ◌++◌, length, drop, flat_map, refl, ap, ◌∙◌, arith, length-append}
use Rattle.std.specs.Int.{w16, w32, to_be_bytes, from_be_bytes}
use Rattle.std.specs.List.{AllByRecursion}
use Rattle.std.proofs.lemmas.List.Elements.{recursion_from_All}
use Rattle.std.proofs.lemmas.Nat.{be_bytes_2, be_bytes_4, from_be_bytes-to_be_bytes_4}
use Rattle.lard_message.specs.declared.message.Body.{Body}
use Rattle.lard_message.specs.declared.message.Body.TheVariants.{Offer, Taken, Forward, Ask, Tag, Fetch, Content, Ended, EndedAck, Refused, Give, Given}
use Rattle.lard_message.specs.declared.message.Message.{Message}
use Rattle.lard_message.specs.Laws.{AreBytes}
use Rattle.lard_message.specs.Message.{IsMessage, IsOfTable, IsPath, counted_bytes, body_bytes, header_bytes, spelled_message}
use Rattle.lard_message.proofs.Fields.{AreBytes-take, AreBytes-drop}
use Rattle.lard_message.specs.Reading.{version_at, number_byte, connection_at, epoch_at, length_at}

length-counted : (ps : List (List ℕ)) → AllByRecursion IsPath ps → length (flat_map counted_bytes ps) ≤ 1026 * length ps
length-counted [] h = omega arith
length-counted (p ∷ ps) h = omega (arith, length-append p (flat_map counted_bytes ps), length-counted ps h.1, h.0)

-- a body is at most a file and its number and length
pub length-body : (b : Body) → IsOfTable b → length (body_bytes b) ≤ 1048584
length-body (Offer p) t = omega (arith, t.buffered)
length-body Taken t = omega arith
length-body (Forward bytes) t = omega (arith, t)
length-body (Ask number queue size paths) t = omega (arith, t, length-counted paths (recursion_from_All IsPath paths t.3))
length-body (Tag number nodes) t = omega (arith, t)
length-body (Fetch r path) t = omega (arith, t)
length-body (Content r bytes) t = omega (arith, t)
length-body (Ended reason snd rcv count) t = omega arith
length-body EndedAck t = omega arith
length-body Refused t = omega arith
length-body (Give p) t = omega (arith, t.buffered)
length-body Given t = omega arith

pub length-spelled : (m : Message) → length (spelled_message m) ≡ 10 + length (body_bytes m.body)
unfolding spelled_message
length-spelled m = omega arith

-- the length stands behind the epoch, whatever follows
pub length_at-spelled : (m : Message) (rest : List ℕ) → IsMessage m → length_at (spelled_message m ++ rest) ≡ length (body_bytes m.body)
unfolding spelled_message
length_at-spelled m rest h = from_be_bytes-to_be_bytes_4 (length (body_bytes m.body)) (omega (arith, length-body m.body h.table))

-- ten bytes are the header of the numbers in it
pub header_again : (bytes : List ℕ) → AreBytes bytes → 10 ≤ length bytes
    → header_bytes (version_at bytes) (number_byte bytes) (connection_at bytes) (epoch_at bytes) (length_at bytes) ++ drop 10 bytes ≡ bytes
header_again (a ∷ b ∷ c ∷ d ∷ e ∷ f ∷ g ∷ h ∷ i ∷ j ∷ rest) fits long =
    let bytes : List ℕ = a ∷ b ∷ c ∷ d ∷ e ∷ f ∷ g ∷ h ∷ i ∷ j ∷ rest in
    let c16 : to_be_bytes w16 (from_be_bytes w16 (c ∷ d ∷ [])) ≡ c ∷ d ∷ [] = be_bytes_2 (c ∷ d ∷ []) _ refl (AreBytes-take 2 (drop 2 bytes) (AreBytes-drop 2 bytes fits)) refl in
    let e16 : to_be_bytes w16 (from_be_bytes w16 (e ∷ f ∷ [])) ≡ e ∷ f ∷ [] = be_bytes_2 (e ∷ f ∷ []) _ refl (AreBytes-take 2 (drop 4 bytes) (AreBytes-drop 4 bytes fits)) refl in
    let g32 : to_be_bytes w32 (from_be_bytes w32 (g ∷ h ∷ i ∷ j ∷ [])) ≡ g ∷ h ∷ i ∷ j ∷ [] =
    be_bytes_4 (g ∷ h ∷ i ∷ j ∷ []) _ refl (AreBytes-take 4 (drop 6 bytes) (AreBytes-drop 6 bytes fits)) refl in
    ap (λ (w : List ℕ). a ∷ b ∷ (w ++ to_be_bytes w16 (epoch_at bytes) ++ to_be_bytes w32 (length_at bytes) ++ rest)) c16
    ∙ ap (λ (w : List ℕ). a ∷ b ∷ c ∷ d ∷ (w ++ to_be_bytes w32 (length_at bytes) ++ rest)) e16 ∙ ap (λ (w : List ℕ). a ∷ b ∷ c ∷ d ∷ e ∷ f ∷ (w ++ rest)) g32
header_again bytes fits long = absurd (omega (arith, long))
