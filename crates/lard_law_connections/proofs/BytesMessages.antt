-- What is read of a message between places is what was said: of an Offer, a Give, a Forward and an Ended.
use Rattle.std.proofs.Common.{◌≡◌, ◌≤◌, ◌<◌, ◌-◌, ◌^◌, ℕ, true, List, [], ◌∷◌, ◌++◌, length, Some, None, Result, Ok, Err, arith, refl, ap, ◌∙◌, sym, subst}
use Rattle.std.specs.Int.{to_be_bytes, w32}
use Rattle.lard_law_view.specs.Prelude.{Body, ControlBlock, EndpointParts, IsConnNumber, IsMessage, IsStream, IsValidParts, Kept, Message, MsgFault, Reason, Stream, Verdict, body_bytes, decoded_message, ended_body_at, may_freeze, number_at, parts_in, parts_kept, parts_of, parts_read, reason_at, reason_byte}
use Rattle.lard_law_connections.specs.BytesAgreement.{EndedWithNumbers, FrontHolds, IsOffering}
use Rattle.lard_law_connections.specs.BytesKeeping.{EndsAreRead, ForwardsAreRead, GivesAreRead, OffersAreRead}
use Rattle.lard_law_connections.proofs.PlacesHeads.{spelled-body}
use Rattle.lard_endpoint.proofs.Adoption.{parts-valid}
use Rattle.lard_message.specs.Message.{FitParts}
use Rattle.lard_message.specs.declared.message.Body.TheVariants as body
use Rattle.lard_rules.specs.Front.{message}
use Rattle.lard_message.proofs.Fields.{bind_then, number_again, reason_again, some_same, wide32}
use Rattle.lard_message.proofs.Whole.{again}

-- ---- an Offer, a Give

offer_parts : EndpointParts → Body → EndpointParts
offer_parts p (body.Offer q) = q
offer_parts p _ = p

give_parts : EndpointParts → Body → EndpointParts
give_parts p (body.Give q) = q
give_parts p _ = p

ok-same : (x m : Message) → (let given : Result Message MsgFault = Ok x in given ≡ Ok m) → x ≡ m
ok-same x m e = cc

-- the parts of an endpoint that was frozen are those that a message has room for
module _ (w out : Stream) (vs pend : List Verdict) (b : ControlBlock) (count : ℕ) (is : IsStream w) (h : FrontHolds w out vs pend b count) (frozen : may_freeze b ≡ true) where
  valid : IsValidParts (parts_of b count)
  valid = let serves = h.serves in
      let asked : count ≤ b.recv.got - length b.recv.unread = omega (arith, serves.asked) in
      parts-valid b count h.holds.sound frozen asked

  fit : FitParts (parts_of b count)
  fit = (subst (λ (n : ℕ). n < 2 ^ 32) (sym h.holds.hears.first) is.number, h.holds.speaks.number, h.holds.wide.wnd, h.holds.wide.wl1, h.holds.wide.wl2)

pub offers-read : OffersAreRead
unfolding offer_parts
offers-read c e w out vs pend b count number small is h frozen m parts decodes offer =
    let x : Message = record { c = c; epoch = record { 0 = e }; body = body.Offer (parts_of b count) } in
    let good : IsMessage x = record {
      some_connection = number.0;
      connection = number.1;
      epoch = small;
      table = valid w out vs pend b count is h frozen;
      fits = fit w out vs pend b count is h frozen;
    } in
    let same : (let given : Result Message MsgFault = Ok x in given ≡ Ok m) = sym (again x good) ∙ decodes in
    let bodies : body.Offer (parts_of b count) ≡ body.Offer parts = ap (λ (y : Message). y.body) (ok-same x m same) ∙ offer in
    sym (ap (offer_parts (parts_of b count)) bodies)

pub gives-read : GivesAreRead
unfolding give_parts
gives-read c e w out vs pend b count number small is h frozen m parts decodes give =
    let x : Message = record { c = c; epoch = record { 0 = e }; body = body.Give (parts_of b count) } in
    let good : IsMessage x = record {
      some_connection = number.0;
      connection = number.1;
      epoch = small;
      table = valid w out vs pend b count is h frozen;
      fits = fit w out vs pend b count is h frozen;
    } in
    let same : (let given : Result Message MsgFault = Ok x in given ≡ Ok m) = sym (again x good) ∙ decodes in
    let bodies : body.Give (parts_of b count) ≡ body.Give parts = ap (λ (y : Message). y.body) (ok-same x m same) ∙ give in
    sym (ap (give_parts (parts_of b count)) bodies)

-- So it is of the Offer that is kept, where that is read.
offer-of : (parts : EndpointParts) (b : Body) → parts_in b ≡ Some parts → b ≡ body.Offer parts
offer-of parts (body.Offer q) is = ap (λ (r : EndpointParts). body.Offer r) (some_same q parts is)
offer-of parts _ is = let no : None ≡ Some parts = is in absurd cc

pub kept-read : (c n e : ℕ) (w out : Stream) (vs pend : List Verdict) (kept : List Kept) (h : IsOffering w out vs pend c n e kept)
    → IsConnNumber c → e < 2 ^ 16 → IsStream w → (parts : EndpointParts) → parts_kept kept ≡ Some parts → parts ≡ parts_of h.block h.count
kept-read c n e w out vs pend kept h number small is parts read =
    go (decoded_message bytes) refl (sym (ap parts_kept h.kept_is) ∙ read) where
      bytes : List ℕ
      bytes = message c e (body.Offer (parts_of h.block h.count))

      go : (r : Result Message MsgFault) → decoded_message bytes ≡ r → parts_read r ≡ Some parts → parts ≡ parts_of h.block h.count
      go (Err fault) d none = let no : None ≡ Some parts = none in absurd cc
      go (Ok m) d some = offers-read c e w out vs pend h.block h.count number small is h.holds h.frozen m parts d (offer-of parts m.body some)

-- ---- a Forward

forward_bytes : List ℕ → Body → List ℕ
forward_bytes bytes (body.Forward segment) = segment
forward_bytes bytes _ = bytes

pub forwards-read : ForwardsAreRead
unfolding forward_bytes
forwards-read c e bytes segment m decodes forward =
    let x : Message = record { c = c; epoch = record { 0 = e }; body = body.Forward bytes } in
    let read = spelled-body x m decodes in
    let pair : (body.Forward bytes, []) ≡ (m.body, read.0) = some_same (body.Forward bytes, []) (m.body, read.0) read.1 in
    let bodies : body.Forward bytes ≡ body.Forward segment = ap (λ (p : Body × List ℕ). p.0) pair ∙ forward in
    sym (ap (forward_bytes bytes) bodies)

-- ---- an Ended

-- why and with which numbers
abbrev Ends : Type 0
Ends = Reason × ℕ × ℕ

ended_of : Ends → Body → Ends
ended_of d (body.Ended why snd rcv n) = (why, snd, rcv)
ended_of d _ = d

pub ended-fields : (why : Reason) (snd rcv count : ℕ) → snd < 2 ^ 32 → rcv < 2 ^ 32 → (b : Body) (rest : List ℕ) → ended_body_at (body_bytes (body.Ended why snd rcv count)) ≡ Some (b, rest)
    → (n : ℕ) × (body.Ended why snd rcv n ≡ b)
unfolding ended_body_at
ended-fields why snd rcv count s r b rest e =
    let r3 : List ℕ = to_be_bytes w32 count in
    let r2 : List ℕ = to_be_bytes w32 rcv ++ r3 in
    let r1 : List ℕ = to_be_bytes w32 snd ++ r2 in
    let y : Body × List ℕ = (b, rest) in
    bind_then (reason_at (reason_byte why ∷ r1)) _ y e (λ a e1 n1.
    bind_then (number_at w32 a.1) _ y n1 (λ t e2 n2.
    bind_then (number_at w32 t.1) _ y n2 (λ u e3 n3.
    bind_then (number_at w32 u.1) _ y n3 (λ v e4 n4.
    let first : (why, r1) ≡ a = some_same (why, r1) a (sym (reason_again why r1) ∙ e1) in
    let second : (snd, r2) ≡ t = some_same (snd, r2) t (sym (number_again w32 (2 ^ 32) wide32 snd r2 s) ∙ ap (λ (p : Reason × List ℕ). number_at w32 p.1) first ∙ e2) in
    let third : (rcv, r3) ≡ u = some_same (rcv, r3) u (sym (number_again w32 (2 ^ 32) wide32 rcv r3 r) ∙ ap (λ (p : ℕ × List ℕ). number_at w32 p.1) second ∙ e3) in
    let whole : (body.Ended a.0 t.0 u.0 v.0, v.1) ≡ y = some_same (body.Ended a.0 t.0 u.0 v.0, v.1) y n4 in
    (v.0, (λ i. body.Ended (first i).0 (second i).0 (third i).0 v.0) ∙ ap (λ (p : Body × List ℕ). p.0) whole)))))

pub ends-read : EndsAreRead
unfolding ended_of
ends-read c e w was_reset last count h m why snd rcv n decodes ended =
    let x : Message = record { c = c; epoch = record { 0 = e }; body = body.Ended last.reason last.snd.0 last.rcv.0 count } in
    let read = spelled-body x m decodes in
    let fields = ended-fields last.reason last.snd.0 last.rcv.0 count h.snd_fits h.rcv_fits m.body read.0 read.1 in
    let bodies : body.Ended last.reason last.snd.0 last.rcv.0 fields.0 ≡ body.Ended why snd rcv n = fields.1 ∙ ended in
    let same : (last.reason, last.snd.0, last.rcv.0) ≡ (why, snd, rcv) = ap (ended_of (why, snd, rcv)) bodies in
    subst (λ (t : Ends). EndedWithNumbers w was_reset (record { reason = t.0; snd = record { 0 = t.1 }; rcv = record { 0 = t.2 } })) same h
