-- The connection that a message names, as it is spelled and as it is read.
use Rattle.std.proofs.Common.{◌≡◌, ℕ, ◌+◌, ◌*◌, ◌≤◌, Bool, true, false, cond, not, ◌==◌, ◌&&◌, nat_lt, nat_le, List, [], ◌∷◌, ◌++◌, length, drop, Option, Some, None, Result, Ok, Err, refl, ap, ◌∙◌, subst, arith, leb-true, ltb-false}
use Rattle.std.proofs.lemmas.Bool.{and_parts, not-false}
use Rattle.std.proofs.lemmas.Nat.{from_be_bytes-to_be_bytes_2}
use Rattle.std.specs.Int.{w16, w32, to_be_bytes, from_be_bytes}
use Rattle.lard_law_view.specs.Prelude.{Body, IsConnNumber, Kind, Message, MsgFault, body_at, body_bytes, connection_at, decoded_message, epoch_at, is_of_table, is_version, kind_named, kind_number, kind_of, length_at, named_in, number_byte, spelled_message, version_at, version_of, with_body, with_kind}
use Rattle.lard_base.specs.declared.ids.TheConstants.ConnId.{MAX}
use Rattle.lard_message.specs.declared.fault.MsgFault.TheVariants as fault

-- ---- as it is spelled

two-named : (version kind : ℕ) (number rest : List ℕ) → length number ≡ 2 → named_in (version ∷ kind ∷ number ++ rest) ≡ Some (from_be_bytes w16 number)
two-named version kind (h ∷ l ∷ []) rest e = let same : 256 * h + l ≡ from_be_bytes w16 (h ∷ l ∷ []) = omega arith in ap Some same
two-named version kind _ rest e = absurd (omega (arith, e))

-- a message names its connection
pub spelled-named : (m : Message) → IsConnNumber m.c → named_in (spelled_message m) ≡ Some m.c
unfolding spelled_message
spelled-named m h =
    let body : List ℕ = body_bytes m.body in
    two-named (version_of (kind_of m.body)) (kind_number (kind_of m.body)) (to_be_bytes w16 m.c) (to_be_bytes w16 m.epoch.0 ++ to_be_bytes w32 (length body) ++ body) refl
    ∙ ap Some (from_be_bytes-to_be_bytes_2 m.c (omega (arith, h.1)))

-- ---- as it is read

-- the bytes are those of a message of this connection, whose number is one
pub record Names (bytes : List ℕ) (c : ℕ) : Type 0 where
  pub named : named_in bytes ≡ Some c
  pub number : IsConnNumber c

long-named : (bytes : List ℕ) → 10 ≤ length bytes → named_in bytes ≡ Some (connection_at bytes)
long-named (a ∷ b ∷ h ∷ l ∷ rest) long = let same : 256 * h + l ≡ from_be_bytes w16 (h ∷ l ∷ []) = omega arith in ap Some same
long-named _ long = absurd (omega (arith, long))

module _ (m : Message) where
  -- what is not refused is read
  unrefused : (b : Bool) (f : MsgFault) (given : Result Message MsgFault) → cond b (Err f) given ≡ Ok m → (b ≡ false) × (given ≡ Ok m)
  unrefused true f given e = let no : ◌≡◌ {A = Result Message MsgFault} (Err f) (Ok m) = e in absurd cc
  unrefused false f given e = (refl, e)

  body-names : (c epoch : ℕ) (o : Option (Body × List ℕ)) → with_body c epoch o ≡ Ok m → c ≡ m.c
  body-names c epoch None e = let no : ◌≡◌ {A = Result Message MsgFault} (Err fault.Field) (Ok m) = e in absurd cc
  body-names c epoch (Some x) e = go (length x.1 == 0 && is_of_table x.0) e where
    go : (b : Bool) → cond {A = Result Message MsgFault} b (Ok (record { c = c; epoch = record { 0 = epoch }; body = x.0 })) (Err fault.Field) ≡ Ok m → c ≡ m.c
    go true i = let same : ◌≡◌ {A = Message} (record { c = c; epoch = record { 0 = epoch }; body = x.0 }) m = cc in ap (λ (k : Message). k.c) same
    go false i = let no : ◌≡◌ {A = Result Message MsgFault} (Err fault.Field) (Ok m) = i in absurd cc

  kind-names : (bytes : List ℕ) → 10 ≤ length bytes → (o : Option Kind) → with_kind bytes o ≡ Ok m → Names bytes m.c
  kind-names bytes long None e = let no : ◌≡◌ {A = Result Message MsgFault} (Err fault.Kind) (Ok m) = e in absurd cc
  kind-names bytes long (Some k) e =
      let c : ℕ = connection_at bytes in
      let body : Result Message MsgFault = with_body c (epoch_at bytes) (body_at k (drop 10 bytes)) in
      let one = unrefused (nat_lt (length bytes) (10 + length_at bytes)) fault.Length _ e in
      let two = unrefused (nat_lt (10 + length_at bytes) (length bytes)) fault.Trailing _ one.1 in
      let three = unrefused (not (nat_le 1 c && nat_le c MAX)) fault.Field body two.1 in
      let same : c ≡ m.c = body-names c (epoch_at bytes) (body_at k (drop 10 bytes)) three.1 in
      let range = and_parts (nat_le 1 c) (nat_le c MAX) (not-false (nat_le 1 c && nat_le c MAX) three.0) in
      record { named = long-named bytes long ∙ ap Some same; number = subst IsConnNumber same (leb-true 1 c range.0, leb-true c MAX range.1) }

  -- the bytes of a message name its connection
  pub decoded-names : (bytes : List ℕ) → decoded_message bytes ≡ Ok m → Names bytes m.c
  unfolding decoded_message
  decoded-names bytes e =
      let short = unrefused (nat_lt (length bytes) 10) fault.Short _ e in
      let version = unrefused (not (is_version (version_at bytes))) fault.Version _ short.1 in
      kind-names bytes (ltb-false (length bytes) 10 short.0) (kind_named (version_at bytes) (number_byte bytes)) version.1
