-- A message that was read is in the ranges of its table.
use Rattle.std.proofs.Common.{◌≡◌, ℕ, ◌+◌, ◌==◌, ◌&&◌, not, nat_lt, nat_le, Bool, true, false, cond, List, length, Option, Some, None, Result, Ok, Err, drop}
use Rattle.std.proofs.lemmas.Bool.{cond_both}
use Rattle.lard_base.specs.declared.ids.TheConstants.ConnId.{MAX}
use Rattle.lard_message.proofs.Tables.{table_passed}
use Rattle.lard_message.specs.declared.fault.MsgFault.{MsgFault}
use Rattle.lard_message.specs.declared.fault.MsgFault.TheVariants as fault
use Rattle.lard_message.specs.declared.kind.Kind.{Kind}
use Rattle.lard_message.specs.declared.message.Body.{Body}
use Rattle.lard_message.specs.declared.message.Message.{Message}
use Rattle.lard_message.specs.Kinds.{is_version, kind_named}
use Rattle.lard_message.specs.Message.{IsOfTable}
use Rattle.lard_message.specs.Reading.{body_at, connection_at, decoded_message, epoch_at, is_of_table, length_at, number_byte, version_at, with_body, with_kind}

abbrev pub IsTold : Result Message MsgFault → Type 0
IsTold (Ok m) = IsOfTable m.body
IsTold (Err e) = Unit {0}

both-true : (a b : Bool) → (a && b) ≡ true → b ≡ true
both-true true b h = h
both-true false b h = let no : false ≡ true = h in absurd cc

body-told : (c epoch : ℕ) (o : Option (Body × List ℕ)) → IsTold (with_body c epoch o)
body-told c epoch None = tt
body-told c epoch (Some (b, rest)) = cond_both (length rest == 0 && is_of_table b) (Ok (record { c = c; epoch = record { 0 = epoch }; body = b })) (Err fault.Field) IsTold (λ t. table_passed b (both-true (length rest == 0) (is_of_table b) t)) (λ t. tt)

kind-told : (bytes : List ℕ) (o : Option Kind) → IsTold (with_kind bytes o)
kind-told bytes None = tt
kind-told bytes (Some kind) =
    let last : Result Message MsgFault = with_body (connection_at bytes) (epoch_at bytes) (body_at kind (drop 10 bytes)) in
    let third : Result Message MsgFault = cond (not (nat_le 1 (connection_at bytes) && nat_le (connection_at bytes) MAX)) (Err fault.Field) last in
    let second : Result Message MsgFault = cond (nat_lt (10 + length_at bytes) (length bytes)) (Err fault.Trailing) third in
    cond_both (nat_lt (length bytes) (10 + length_at bytes)) (Err fault.Length) second IsTold (λ t. tt) (λ t.
    cond_both (nat_lt (10 + length_at bytes) (length bytes)) (Err fault.Trailing) third IsTold (λ u. tt) (λ u.
    cond_both (not (nat_le 1 (connection_at bytes) && nat_le (connection_at bytes) MAX)) (Err fault.Field) last IsTold (λ v. tt) (λ v. body-told (connection_at bytes) (epoch_at bytes) (body_at kind (drop 10 bytes)))))

pub message-told : (bytes : List ℕ) → IsTold (decoded_message bytes)
unfolding decoded_message
message-told bytes =
    let last : Result Message MsgFault = with_kind bytes (kind_named (version_at bytes) (number_byte bytes)) in
    let second : Result Message MsgFault = cond (not (is_version (version_at bytes))) (Err fault.Version) last in
    cond_both (nat_lt (length bytes) 10) (Err fault.Short) second IsTold (λ t. tt) (λ t.
    cond_both (not (is_version (version_at bytes))) (Err fault.Version) last IsTold (λ u. tt) (λ u. kind-told bytes (kind_named (version_at bytes) (number_byte bytes))))
