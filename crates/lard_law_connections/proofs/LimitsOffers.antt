-- What is read of an Offer has the cluster's first number and the count of what was acknowledged, where they fit, whatever else it carries.
use Rattle.std.proofs.Common.{◌≡◌, ◌+◌, ◌-◌, ◌<◌, ◌^◌, ℕ, Bool, true, false, cond, nat_lt, List, ◌∷◌, ◌++◌, length, drop, take, Option, Some, None, Ok, arith, inr, refl, ap, ◌∙◌, sym, subst}
use Rattle.std.specs.Int.{Width, byte_len, from_be_bytes, to_be_bytes, w16, w32}
use Rattle.std.proofs.lemmas.List.{drop_at}
use Rattle.lard_law_view.specs.Prelude.{Body, ControlBlock, EndpointParts, Front, Message, Node, Part, counted_at, counted_bytes, decoded_message, flag_at, flag_byte, may_freeze, number_at, offer_at, parts_at, parts_bytes, parts_of}
use Rattle.lard_law_connections.specs.LimitsCounts.{BodyCounts, IsWithinStream, EndpointCounts, LetterCountsOn, Served}
use Rattle.lard_law_connections.proofs.PlacesHeads.{spelled-body}
use Rattle.lard_endpoint.proofs.Adoption.{frozen_stands}
use Rattle.lard_message.specs.declared.message.Body.TheVariants as body
use Rattle.lard_message.proofs.Fields.{bind_then, flag_again, number_again, some_same, wide32}
use Rattle.lard_rules.specs.Front.{message}

-- the bytes behind a number are found, whether it fits its field or not
rest-of : (w : Width) (n : ℕ) (rest : List ℕ) (a : ℕ × List ℕ) → length (to_be_bytes w n) ≡ byte_len w → number_at w (to_be_bytes w n ++ rest) ≡ Some a → a.1 ≡ rest
rest-of w n rest a len e = go (nat_lt (length (to_be_bytes w n ++ rest)) (byte_len w)) e where
  bytes : List ℕ
  bytes = to_be_bytes w n ++ rest

  go : (t : Bool) → cond t None (Some (from_be_bytes w (take (byte_len w) bytes), drop (byte_len w) bytes)) ≡ Some a → a.1 ≡ rest
  go true f = let no : ◌≡◌ {A = Option (ℕ × List ℕ)} None (Some a) = f in absurd cc
  go false f = ap (λ (p : ℕ × List ℕ). p.1) (sym (some_same (from_be_bytes w (take (byte_len w) bytes), drop (byte_len w) bytes) a f)) ∙ drop_at (to_be_bytes w n) rest (byte_len w) len

-- its first number and its count
abbrev pub AreReadAs : EndpointParts → EndpointParts → Type 0
AreReadAs p q = (p.iss < 2 ^ 32 → q.iss ≡ p.iss) × (p.una < 2 ^ 32 → q.una ≡ p.una)

module _ (p : EndpointParts) where
  abbrev r6 : List ℕ
  r6 = to_be_bytes w16 p.wnd ++ to_be_bytes w32 p.wl1 ++ to_be_bytes w32 p.wl2 ++ to_be_bytes w16 p.mss ++ to_be_bytes w32 p.served ++ counted_bytes p.unread

  abbrev r5 : List ℕ
  r5 = to_be_bytes w32 p.una ++ r6

  abbrev r4 : List ℕ
  r4 = flag_byte p.fin ∷ r5

  abbrev r3 : List ℕ
  r3 = to_be_bytes w32 p.got ++ r4

  abbrev r2 : List ℕ
  r2 = to_be_bytes w32 p.iss ++ r3

  parts-read : (q : EndpointParts) (rest : List ℕ) → parts_at (to_be_bytes w32 p.irs ++ r2) ≡ Some (q, rest) → AreReadAs p q
  unfolding parts_at
  parts-read q rest e =
      let y : EndpointParts × List ℕ = (q, rest) in
      bind_then (number_at w32 (to_be_bytes w32 p.irs ++ r2)) _ y e (λ irs e1 n1.
      let f1 : irs.1 ≡ r2 = rest-of w32 p.irs r2 irs refl e1 in
      bind_then (number_at w32 irs.1) _ y n1 (λ iss e2 n2.
      let there : number_at w32 r2 ≡ Some iss = ap (number_at w32) (sym f1) ∙ e2 in
      let first : p.iss < 2 ^ 32 → (p.iss, r3) ≡ iss = λ fits. some_same (p.iss, r3) iss (sym (number_again w32 (2 ^ 32) wide32 p.iss r3 fits) ∙ there) in
      let f2 : iss.1 ≡ r3 = rest-of w32 p.iss r3 iss refl there in
      bind_then (number_at w32 iss.1) _ y n2 (λ got e3 n3.
      let f3 : got.1 ≡ r4 = rest-of w32 p.got r4 got refl (ap (number_at w32) (sym f2) ∙ e3) in
      bind_then (flag_at got.1) _ y n3 (λ fin e4 n4.
      let f4 : (p.fin, r5) ≡ fin = some_same (p.fin, r5) fin (sym (flag_again p.fin r5) ∙ ap flag_at (sym f3) ∙ e4) in
      bind_then (number_at w32 fin.1) _ y n4 (λ una e5 n5.
      let f5 : p.una < 2 ^ 32 → (p.una, r6) ≡ una = λ fits. some_same (p.una, r6) una (sym (number_again w32 (2 ^ 32) wide32 p.una r6 fits) ∙ ap (λ (z : Bool × List ℕ). number_at w32 z.1) f4 ∙ e5) in
      bind_then (number_at w16 una.1) _ y n5 (λ wnd e6 n6.
      bind_then (number_at w32 wnd.1) _ y n6 (λ wl1 e7 n7.
      bind_then (number_at w32 wl1.1) _ y n7 (λ wl2 e8 n8.
      bind_then (number_at w16 wl2.1) _ y n8 (λ mss e9 n9.
      bind_then (number_at w32 mss.1) _ y n9 (λ served e10 n10.
      bind_then (counted_at served.1) _ y n10 (λ unread e11 n11. (
        (λ fits. ap (λ (z : EndpointParts × List ℕ). z.0.iss) (sym (some_same _ y n11)) ∙ ap (λ (z : ℕ × List ℕ). z.0) (sym (first fits))),
        (λ fits. ap (λ (z : EndpointParts × List ℕ). z.0.una) (sym (some_same _ y n11)) ∙ ap (λ (z : ℕ × List ℕ). z.0) (sym (f5 fits))),
      ))))))))))))

-- so it is of a message
pub offer-read : (c e : ℕ) (p : EndpointParts) (m : Message) (parts : EndpointParts) → decoded_message (message c e (body.Offer p)) ≡ Ok m → m.body ≡ body.Offer parts → AreReadAs p parts
unfolding offer_at
offer-read c e p m parts d is =
    let x : Message = record { c = c; epoch = record { 0 = e }; body = body.Offer p } in
    let read = spelled-body x m d in
    let y : Body × List ℕ = (m.body, read.0) in
    bind_then (parts_at (parts_bytes p)) _ y read.1 (λ found e1 n1.
    let bodies : body.Offer found.0 ≡ body.Offer parts = ap (λ (z : Body × List ℕ). z.0) (some_same (body.Offer found.0, found.1) y n1) ∙ is in
    subst (AreReadAs p) (same found.0 parts bodies) (parts-read p found.0 found.1 e1)) where
      same : (a b : EndpointParts) → body.Offer a ≡ body.Offer b → a ≡ b
      same a b e = cc

-- The Offer of an endpoint that may move begins with all that was served.
pub offer-counts : (stream : ℕ) (w : Served) (part : Part) (n c e count : ℕ) (b : ControlBlock) → EndpointCounts stream w b → may_freeze b ≡ true → LetterCountsOn stream w part Front (Node n) (message c e (body.Offer (parts_of b count)))
offer-counts stream w part n c e count b h may m d = go m.body refl where
  stands : b.send.una ≡ 1 + b.send.total
  stands = (frozen_stands b h.sound may).una_is

  go : (a : Body) → m.body ≡ a → BodyCounts stream w part n m.epoch.0 a
  go (body.Offer parts) is =
      let most = h.sound.sending.most in
      let una : parts.una ≡ b.send.una = (offer-read c e (parts_of b count) m parts d is).1 (omega (arith, stands, most)) in
      let same : parts.una - 1 ≡ b.send.total = omega (arith, una, stands) in
      inr (inr (subst (IsWithinStream stream w) (sym same) h.counts))
  go _ is = tt
