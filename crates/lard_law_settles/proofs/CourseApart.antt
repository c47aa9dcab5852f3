-- A segment is no message: its ports are no version and kind.
use Rattle.std.proofs.Common.{◌*◌, ◌≡◌, ◌≤◌, nat_lt, nat_eq, not, ℕ, ◌+◌, Bool, true, false, cond, List, length, Option, Some, None, Result, Ok, Err, refl, arith, eqb-true}
use Rattle.std.proofs.lemmas.Bool.{and_parts, not-false}
use Rattle.std.specs.Prelude.{slice_index}
use Rattle.lard_law_view.specs.Prelude.{Dir, Kind, Message, MsgFault, Said, ToClient, ToCluster, are_ports, decoded, decoded_message, is_version, kind_named, number_byte, source_port, target_port, version_at, with_kind, word_at}
use Rattle.lard_message.specs.declared.fault.MsgFault.TheVariants as fault
use Rattle.lard_message.proofs.Whole.{kind_small, named_is}
use Rattle.lard_segment.specs.declared.fault.SegFault.TheVariants as seg

module _ {A E : Type 0} where
  refused : (b : Bool) (f : E) (given : Result A E) (x : A) → cond b (Err f) given ≡ Ok x → (b ≡ false) × (given ≡ Ok x)
  refused true f given x e = let no : ◌≡◌ {A = Result A E} (Err f) (Ok x) = e in absurd cc
  refused false f given x e = (refl, e)

-- ---- a message

-- the first two bytes of a message are small
abbrev AreSmall : List ℕ → Type 0
AreSmall bytes = (1 ≤ slice_index bytes 0) × (slice_index bytes 0 ≤ 2) × (slice_index bytes 1 ≤ 12)

message-first : (bytes : List ℕ) (m : Message) → decoded_message bytes ≡ Ok m → AreSmall bytes
unfolding decoded_message
message-first bytes m e =
    let short = refused (nat_lt (length bytes) 10) fault.Short _ m e in
    let version = refused (not (is_version (version_at bytes))) fault.Version _ m short.1 in
    go (kind_named (version_at bytes) (number_byte bytes)) refl version.1
  where
    go : (o : Option Kind) → kind_named (version_at bytes) (number_byte bytes) ≡ o → with_kind bytes o ≡ Ok m → AreSmall bytes
    go None is h = let no : ◌≡◌ {A = Result Message MsgFault} (Err fault.Kind) (Ok m) = h in absurd cc
    go (Some x) is h =
        let named = named_is (version_at bytes) (number_byte bytes) x is in let small = kind_small x in
        (omega (arith, named.0, small.0), omega (arith, named.0, small.1), omega (arith, named.1, small.2))

-- ---- a segment

segment-first : (bytes : List ℕ) (c : ℕ) (dir : Dir) (s : Said) → decoded bytes c dir ≡ Ok s → word_at bytes 0 ≡ source_port dir
unfolding decoded
segment-first bytes c dir s e =
    let short = refused (nat_lt (length bytes) 20) seg.Short _ s e in
    let sum = refused _ seg.Sum _ s short.1 in
    let ports = refused (not (are_ports bytes dir)) seg.Port _ s sum.1 in
    let both = and_parts (nat_eq (word_at bytes 0) (source_port dir)) (nat_eq (word_at bytes 2) (target_port dir)) (not-false (are_ports bytes dir) ports.0) in
    eqb-true (word_at bytes 0) (source_port dir) both.0

no-port : (dir : Dir) (a b : ℕ) → 1 ≤ a → a ≤ 2 → b ≤ 12 → a * 256 + b ≡ source_port dir → ⊥
no-port ToCluster a b some few low e = omega (arith, few, low, e)
no-port ToClient a b some few low e = omega (arith, some, e)

pub no-message : (bytes : List ℕ) (c : ℕ) (dir : Dir) (s : Said) (m : Message) → decoded bytes c dir ≡ Ok s → decoded_message bytes ≡ Ok m → ⊥
no-message bytes c dir s m e f = let first = message-first bytes m f in no-port dir (slice_index bytes 0) (slice_index bytes 1) first.0 first.1 first.2 (segment-first bytes c dir s e)
