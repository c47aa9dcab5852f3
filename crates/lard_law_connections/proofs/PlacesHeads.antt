-- The head of a message that was spelled, and of bytes that were decoded.
use Rattle.std.proofs.Common.{◌≡◌, ℕ, ◌+◌, ◌<◌, ◌^◌, Bool, true, false, cond, not, ◌==◌, ◌&&◌, nat_le, nat_lt, List, [], ◌++◌, drop, length, option_map, Option, Some, None, Result, Ok, Err, refl, sym, ap, ◌∙◌, subst}
use Rattle.std.specs.Int.{w32}
use Rattle.std.proofs.lemmas.Nat.{from_be_bytes-to_be_bytes_2}
use Rattle.lard_law_view.specs.Prelude.{Body, Kind, Message, MsgFault, ask_at, body_at, body_bytes, byte_at, connection_at, content_at, counted_at, decoded_message, ended_body_at, epoch_at, fetch_at, give_at, header_bytes, is_of_table, is_version, kind_named, kind_number, kind_of, length_at, nodes_of, number_at, number_byte, offer_at, parts_at, paths_at, reason_at, spelled_message, tag_at, taken_at, version_at, version_of, with_body, with_kind}
use Rattle.lard_base.specs.declared.ids.TheConstants.ConnId.{MAX}
use Rattle.lard_law_connections.specs.Places.{Head, message_head}
use Rattle.lard_message.specs.declared.fault.MsgFault.TheVariants as fault
use Rattle.lard_message.specs.declared.kind.Kind.TheVariants as kind
use Rattle.lard_message.specs.declared.message.Body.TheVariants as body
use Rattle.lard_message.proofs.Fields.{bind_then, some_same}
use Rattle.lard_message.proofs.Whole.{named_again}

abbrev pub head : Kind → ℕ → Head
head k e = record { kind = k; epoch = e }

abbrev with_epoch : ℕ → Option Kind → Option Head
with_epoch e o = option_map (λ k. record { kind = k; epoch = e }) o

-- what was written has its kind
pub spelled-some : (m : Message) → message_head (spelled_message m) ≡ Some (head (kind_of m.body) (epoch_at (spelled_message m)))
unfolding spelled_message
spelled-some m =
    let k : Kind = kind_of m.body in
    let bytes : List ℕ = header_bytes (version_of k) (kind_number k) m.c m.epoch.0 (length (body_bytes m.body)) ++ body_bytes m.body in
    ap (with_epoch (epoch_at bytes)) (named_again k)

-- and its epoch
pub spelled-head : (m : Message) → m.epoch.0 < 2 ^ 16 → message_head (spelled_message m) ≡ Some (head (kind_of m.body) m.epoch.0)
unfolding spelled_message
spelled-head m small =
    let k : Kind = kind_of m.body in
    let bytes : List ℕ = header_bytes (version_of k) (kind_number k) m.c m.epoch.0 (length (body_bytes m.body)) ++ body_bytes m.body in
    let epoch : epoch_at bytes ≡ m.epoch.0 = from_be_bytes-to_be_bytes_2 m.epoch.0 small in
    spelled-some m ∙ ap (λ (e : ℕ). Some (head k e)) epoch

-- ---- what is read has the kind of its head

module _ (bytes : List ℕ) (b : Body) (rest : List ℕ) where
  abbrev y : Body × List ℕ
  y = (b, rest)

  first-kind : (x : Body × List ℕ) → Some x ≡ Some y → kind_of b ≡ kind_of x.0
  first-kind x e = ap (λ (p : Body × List ℕ). kind_of p.0) (sym (some_same x y e))

  offer-kind : offer_at bytes ≡ Some (b, rest) → kind_of b ≡ kind.Offer
  unfolding offer_at
  offer-kind e = bind_then (parts_at bytes) _ y e (λ parts p n. first-kind (body.Offer parts.0, parts.1) n)

  give-kind : give_at bytes ≡ Some (b, rest) → kind_of b ≡ kind.Give
  unfolding give_at
  give-kind e = bind_then (parts_at bytes) _ y e (λ parts p n. first-kind (body.Give parts.0, parts.1) n)

  ask-kind : ask_at bytes ≡ Some (b, rest) → kind_of b ≡ kind.Ask
  unfolding ask_at
  ask-kind e =
      bind_then (number_at w32 bytes) _ y e (λ number e1 n1. bind_then (number_at w32 number.1) _ y n1 (λ queue e2 n2. bind_then (byte_at queue.1) _ y n2 (λ size e3 n3.
      bind_then (byte_at size.1) _ y n3 (λ count e4 n4. bind_then (paths_at count.0 count.1) _ y n4 (λ paths e5 n5.
      first-kind (body.Ask number.0 queue.0 size.0 paths.0, paths.1) n5)))))

  tag-kind : tag_at bytes ≡ Some (b, rest) → kind_of b ≡ kind.Tag
  unfolding tag_at
  tag-kind e =
      bind_then (number_at w32 bytes) _ y e (λ number e1 n1. bind_then (byte_at number.1) _ y n1 (λ count e2 n2. bind_then (taken_at count.0 count.1) _ y n2 (λ all e3 n3.
      bind_then (nodes_of all.0) _ y n3 (λ nodes e4 n4. first-kind (body.Tag number.0 nodes, all.1) n4))))

  fetch-kind : fetch_at bytes ≡ Some (b, rest) → kind_of b ≡ kind.Fetch
  unfolding fetch_at
  fetch-kind e = bind_then (number_at w32 bytes) _ y e (λ r e1 n1. bind_then (counted_at r.1) _ y n1 (λ path e2 n2. first-kind (body.Fetch r.0 path.0, path.1) n2))

  content-kind : content_at bytes ≡ Some (b, rest) → kind_of b ≡ kind.Content
  unfolding content_at
  content-kind e =
      bind_then (number_at w32 bytes) _ y e (λ r e1 n1. bind_then (number_at w32 r.1) _ y n1 (λ len e2 n2. bind_then (taken_at len.0 len.1) _ y n2 (λ content e3 n3.
      first-kind (body.Content r.0 content.0, content.1) n3)))

  ended-kind : ended_body_at bytes ≡ Some (b, rest) → kind_of b ≡ kind.Ended
  unfolding ended_body_at
  ended-kind e =
      bind_then (reason_at bytes) _ y e (λ reason e1 n1. bind_then (number_at w32 reason.1) _ y n1 (λ snd e2 n2. bind_then (number_at w32 snd.1) _ y n2 (λ rcv e3 n3.
      bind_then (number_at w32 rcv.1) _ y n3 (λ count e4 n4. first-kind (body.Ended reason.0 snd.0 rcv.0 count.0, count.1) n4))))

  body-kind : (k : Kind) → body_at k bytes ≡ Some (b, rest) → kind_of b ≡ k
  body-kind kind.Offer e = offer-kind e
  body-kind kind.Taken e = first-kind (body.Taken, bytes) e
  body-kind kind.Forward e = first-kind (body.Forward bytes, []) e
  body-kind kind.Ask e = ask-kind e
  body-kind kind.Tag e = tag-kind e
  body-kind kind.Fetch e = fetch-kind e
  body-kind kind.Content e = content-kind e
  body-kind kind.Ended e = ended-kind e
  body-kind kind.EndedAck e = first-kind (body.EndedAck, bytes) e
  body-kind kind.Refused e = first-kind (body.Refused, bytes) e
  body-kind kind.Give e = give-kind e
  body-kind kind.Given e = first-kind (body.Given, bytes) e

-- ---- bytes that were decoded

pub let-through : (t : Bool) (e : MsgFault) (x : Result Message MsgFault) (m : Message) → cond t (Err e) x ≡ Ok m → x ≡ Ok m
let-through true e x m h = absurd cc
let-through false e x m h = h

pub made : (t : Bool) (x m : Message) (e : MsgFault) → cond t (Ok x) (Err e) ≡ Ok m → x ≡ m
made true x m e h = cc
made false x m e h = absurd cc

module _ (bytes : List ℕ) (m : Message) where
  by-body : (k : Kind) (o : Option (Body × List ℕ)) → body_at k (drop 10 bytes) ≡ o → with_body (connection_at bytes) (epoch_at bytes) o ≡ Ok m
      → Some (head k (epoch_at bytes)) ≡ Some (head (kind_of m.body) m.epoch.0)
  by-body k None e h = absurd cc
  by-body k (Some (b, rest)) e h =
      let new : Message = record { c = connection_at bytes; epoch = record { 0 = epoch_at bytes }; body = b } in
      let is : new ≡ m = made (length rest == 0 && is_of_table b) new m fault.Field h in
      let same : k ≡ kind_of b = sym (body-kind (drop 10 bytes) b rest k e) in
      ap (λ (j : Kind). Some (head j (epoch_at bytes))) same ∙ ap (λ (x : Message). Some (head (kind_of x.body) x.epoch.0)) is

  by-kind : (o : Option Kind) → with_kind bytes o ≡ Ok m → with_epoch (epoch_at bytes) o ≡ Some (head (kind_of m.body) m.epoch.0)
  by-kind None h = absurd cc
  by-kind (Some k) h =
      let a = let-through (nat_lt (length bytes) (10 + length_at bytes)) fault.Length _ m h in
      let b = let-through (nat_lt (10 + length_at bytes) (length bytes)) fault.Trailing _ m a in
      let c = let-through (not (nat_le 1 (connection_at bytes) && nat_le (connection_at bytes) MAX)) fault.Field _ m b in
      by-body k (body_at k (drop 10 bytes)) refl c

  pub decoded-head : decoded_message bytes ≡ Ok m → message_head bytes ≡ Some (head (kind_of m.body) m.epoch.0)
  unfolding decoded_message
  decoded-head h =
      let a = let-through (nat_lt (length bytes) 10) fault.Short _ m h in
      let b = let-through (not (is_version (version_at bytes))) fault.Version _ m a in
      by-kind (kind_named (version_at bytes) (number_byte bytes)) b

-- ---- what is read of what was spelled

-- what is read of a message has the kind with which it was spelled
pub kinds-same : (x m : Message) → decoded_message (spelled_message x) ≡ Ok m → kind_of x.body ≡ kind_of m.body
kinds-same x m d = ap head_kind (sym (spelled-some x) ∙ decoded-head (spelled_message x) m d) where
  head_kind : Option Head → Kind
  head_kind None = kind_of x.body
  head_kind (Some h) = h.kind

module _ (x m : Message) where
  made-body : (o : Option (Body × List ℕ)) → with_body (connection_at (spelled_message x)) (epoch_at (spelled_message x)) o ≡ Ok m → (rest : List ℕ) × (o ≡ Some (m.body, rest))
  made-body None h = absurd cc
  made-body (Some (b, rest)) h =
      let new : Message = record { c = connection_at (spelled_message x); epoch = record { 0 = epoch_at (spelled_message x) }; body = b } in
      let is : new ≡ m = made (length rest == 0 && is_of_table b) new m fault.Field h in
      (rest, ap (λ (y : Message). Some (y.body, rest)) is)

  pub spelled-body : decoded_message (spelled_message x) ≡ Ok m → (rest : List ℕ) × (body_at (kind_of x.body) (body_bytes x.body) ≡ Some (m.body, rest))
  unfolding decoded_message spelled_message
  spelled-body h =
      let k : Kind = kind_of x.body in
      let bytes : List ℕ = header_bytes (version_of k) (kind_number k) x.c x.epoch.0 (length (body_bytes x.body)) ++ body_bytes x.body in
      let a = let-through (nat_lt (length bytes) 10) fault.Short _ m h in
      let b = let-through (not (is_version (version_at bytes))) fault.Version _ m a in
      let named : with_kind bytes (Some k) ≡ Ok m = subst (λ (o : Option Kind). with_kind bytes o ≡ Ok m) (named_again k) b in
      let d = let-through (nat_lt (length bytes) (10 + length_at bytes)) fault.Length _ m named in
      let f = let-through (nat_lt (10 + length_at bytes) (length bytes)) fault.Trailing _ m d in
      let g = let-through (not (nat_le 1 (connection_at bytes) && nat_le (connection_at bytes) MAX)) fault.Field _ m f in
      made-body (body_at k (body_bytes x.body)) g
