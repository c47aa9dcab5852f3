-- What is read of a message between places: an Offer has what the endpoint took and what was acknowledged, an Ended the last numbers,
-- and a Forward the segment as it came.
use Rattle.std.proofs.Common.{◌≡◌, ◌+◌, ◌≤◌, ◌<◌, ◌^◌, ℕ, Bool, true, false, cond, nat_lt, List, ◌∷◌, ◌++◌, length, drop, take, Option, Some, None, Ok, arith, inr, refl, ap, ◌∙◌, sym, subst}
use Rattle.std.specs.Int.{Width, byte_len, from_be_bytes, to_be_bytes, w16, w32}
use Rattle.std.proofs.lemmas.List.{drop_at}
use Rattle.lard_law_view.specs.Prelude.{Body, ControlBlock, EndpointParts, Final, Front, IsControlBlock, Message, Node, Part, Reason, counted_at, counted_bytes, decoded_message, flag_at, flag_byte, kind_of, number_at, offer_at, one_if, parts_at, parts_bytes, parts_of}
use Rattle.lard_laws.specs.Acks.{Bounds, EndActs, FrontBodyActs, LetterActsOn, NodeBodyActs, WordActs}
use Rattle.lard_law_connections.proofs.BytesMessages.{ended-fields, forwards-read}
use Rattle.lard_law_connections.proofs.PlacesHeads.{kinds-same, spelled-body}
use Rattle.lard_rules.specs.Front.{message}
use Rattle.lard_law_view.proofs.Acked.{heard_by}
use Rattle.lard_message.specs.declared.kind.Kind.TheVariants as kind
use Rattle.lard_message.specs.declared.message.Body.TheVariants as body
use Rattle.lard_message.proofs.Fields.{bind_then, flag_again, number_again, some_same, wide32}
use Rattle.lard_rules.specs.declared.places.Ending.TheVariants as ending
use Rattle.lard_law_view.proofs.Speaking.{one_small}

-- ---- an Offer

-- the bytes behind a number are found, whether it fits its field or not
rest-of : (w : Width) (n : ℕ) (rest : List ℕ) (a : ℕ × List ℕ) → length (to_be_bytes w n) ≡ byte_len w → number_at w (to_be_bytes w n ++ rest) ≡ Some a → a.1 ≡ rest
rest-of w n rest a len e = go (nat_lt (length (to_be_bytes w n ++ rest)) (byte_len w)) e where
  bytes : List ℕ
  bytes = to_be_bytes w n ++ rest

  go : (t : Bool) → cond t None (Some (from_be_bytes w (take (byte_len w) bytes), drop (byte_len w) bytes)) ≡ Some a → a.1 ≡ rest
  go true f = let no : ◌≡◌ {A = Option (ℕ × List ℕ)} None (Some a) = f in absurd cc
  go false f = ap (λ (p : ℕ × List ℕ). p.1) (sym (some_same (from_be_bytes w (take (byte_len w) bytes), drop (byte_len w) bytes) a f)) ∙ drop_at (to_be_bytes w n) rest (byte_len w) len

-- what was taken and what was acknowledged
abbrev Numbers : Type 0
Numbers = ℕ × Bool × ℕ

abbrev numbers_in : EndpointParts → Numbers
numbers_in p = (p.got, p.fin, p.una)

module _ (p : EndpointParts) (got_fits : p.got < 2 ^ 32) (una_fits : p.una < 2 ^ 32) where
  abbrev r6 : List ℕ
  r6 = to_be_bytes w16 p.wnd ++ to_be_bytes w32 p.wl1 ++ to_be_bytes w32 p.wl2 ++ to_be_bytes w16 p.mss ++ to_be_bytes w32 p.served ++ counted_bytes p.unread

  abbrev r5 : List ℕ
  r5 = to_be_bytes w32 p.una ++ r6

  abbrev r4 : List ℕ
  r4 = flag_byte p.fin ∷ r5

  abbrev r3 : List ℕ
  r3 = to_be_bytes w32 p.got ++ r4

  abbrev r2 : List ℕ
  r2 = to_be_bytes w32 p.iss ++ r3

  numbers-read : (q : EndpointParts) (rest : List ℕ) → parts_at (to_be_bytes w32 p.irs ++ r2) ≡ Some (q, rest) → numbers_in p ≡ numbers_in q
  unfolding parts_at
  numbers-read q rest e =
      let y : EndpointParts × List ℕ = (q, rest) in
      bind_then (number_at w32 (to_be_bytes w32 p.irs ++ r2)) _ y e (λ irs e1 n1.
      let f1 : irs.1 ≡ r2 = rest-of w32 p.irs r2 irs refl e1 in
      bind_then (number_at w32 irs.1) _ y n1 (λ iss e2 n2.
      let f2 : iss.1 ≡ r3 = rest-of w32 p.iss r3 iss refl (ap (number_at w32) (sym f1) ∙ e2) in
      bind_then (number_at w32 iss.1) _ y n2 (λ got e3 n3.
      let f3 : (p.got, r4) ≡ got = some_same (p.got, r4) got (sym (number_again w32 (2 ^ 32) wide32 p.got r4 got_fits) ∙ ap (number_at w32) (sym f2) ∙ e3) in
      bind_then (flag_at got.1) _ y n3 (λ fin e4 n4.
      let f4 : (p.fin, r5) ≡ fin = some_same (p.fin, r5) fin (sym (flag_again p.fin r5) ∙ ap (λ (z : ℕ × List ℕ). flag_at z.1) f3 ∙ e4) in
      bind_then (number_at w32 fin.1) _ y n4 (λ una e5 n5.
      let f5 : (p.una, r6) ≡ una = some_same (p.una, r6) una (sym (number_again w32 (2 ^ 32) wide32 p.una r6 una_fits) ∙ ap (λ (z : Bool × List ℕ). number_at w32 z.1) f4 ∙ e5) in
      bind_then (number_at w16 una.1) _ y n5 (λ wnd e6 n6.
      bind_then (number_at w32 wnd.1) _ y n6 (λ wl1 e7 n7.
      bind_then (number_at w32 wl1.1) _ y n7 (λ wl2 e8 n8.
      bind_then (number_at w16 wl2.1) _ y n8 (λ mss e9 n9.
      bind_then (number_at w32 mss.1) _ y n9 (λ served e10 n10.
      bind_then (counted_at served.1) _ y n10 (λ unread e11 n11.
      let read : numbers_in p ≡ (got.0, fin.0, una.0) = λ i. ((f3 i).0, (f4 i).0, (f5 i).0) in
      subst (λ (z : EndpointParts × List ℕ). numbers_in p ≡ numbers_in z.0) (some_same _ y n11) read)))))))))))

-- so it is of a message
offer-read : (c e : ℕ) (p : EndpointParts) → p.got < 2 ^ 32 → p.una < 2 ^ 32 → (m : Message) (parts : EndpointParts) → decoded_message (message c e (body.Offer p)) ≡ Ok m → m.body ≡ body.Offer parts
    → numbers_in p ≡ numbers_in parts
unfolding offer_at
offer-read c e p got una m parts d is =
    let x : Message = record { c = c; epoch = record { 0 = e }; body = body.Offer p } in
    let read = spelled-body x m d in
    let y : Body × List ℕ = (m.body, read.0) in
    bind_then (parts_at (parts_bytes p)) _ y read.1 (λ found e1 n1.
    let bodies : body.Offer found.0 ≡ body.Offer parts = ap (λ (z : Body × List ℕ). z.0) (some_same (body.Offer found.0, found.1) y n1) ∙ is in
    numbers-read p got una found.0 found.1 e1 ∙ ap of_body bodies) where
      of_body : Body → Numbers
      of_body (body.Offer q) = numbers_in q
      of_body _ = (0, false, 0)

module _ (b : Bounds) (part : Part) (x_c n c e : ℕ) where
  -- The Offer of an endpoint has all that was taken.
  pub offer-acts : (block : ControlBlock) (count : ℕ) → IsControlBlock block → b.heard ≡ heard_by block.recv → block.send.una ≤ b.taken → LetterActsOn x_c b part Front (Node n) (message c e (body.Offer (parts_of block count)))
  offer-acts block count sound heard una m d = go m.body refl where
    go : (a : Body) → m.body ≡ a → FrontBodyActs x_c b part n m.epoch.0 a
    go (body.Offer parts) is =
        let most = sound.sending.most in
        let sent = sound.sending.sent in
        let queued = sound.sending.queued in
        let received = sound.received.received in
        let same : numbers_in (parts_of block count) ≡ numbers_in parts = offer-read c e (parts_of block count) (omega (arith, received)) (let one = one_small block.send.finished in omega (arith, most, sent, queued)) m parts d is in
        inr (inr (record {
          heard = heard ∙ ap (λ (z : Numbers). 1 + z.0 + one_if z.1) same;
          acknowledged = subst (λ (z : Numbers). z.2 ≤ b.taken) same una;
        }))
    go (body.Forward segment) is = absurd (let no : kind.Offer ≡ kind.Forward = kinds-same (record { c = c; epoch = record { 0 = e }; body = body.Offer (parts_of block count) }) m d ∙ ap kind_of is in cc)
    go _ is = tt

  -- What is forwarded is what came.
  pub forward-acts : (bytes : List ℕ) → WordActs x_c b bytes → LetterActsOn x_c b part Front (Node n) (message c e (body.Forward bytes))
  forward-acts bytes h m d = go m.body refl where
    go : (a : Body) → m.body ≡ a → FrontBodyActs x_c b part n m.epoch.0 a
    go (body.Forward segment) is = subst (WordActs x_c b) (sym (forwards-read c e bytes segment m d is)) h
    go (body.Offer parts) is = absurd (let no : kind.Forward ≡ kind.Offer = kinds-same (record { c = c; epoch = record { 0 = e }; body = body.Forward bytes }) m d ∙ ap kind_of is in cc)
    go _ is = tt

  -- a message of another kind says nothing of it
  pub other-front : (a : Body) → (kind_of a ≡ kind.Offer → ⊥) → (kind_of a ≡ kind.Forward → ⊥) → LetterActsOn x_c b part Front (Node n) (message c e a)
  other-front a offer forward m d = go m.body (kinds-same (record { c = c; epoch = record { 0 = e }; body = a }) m d) where
    go : (z : Body) → kind_of a ≡ kind_of z → FrontBodyActs x_c b part n m.epoch.0 z
    go (body.Offer parts) is = absurd (offer is)
    go (body.Forward segment) is = absurd (forward is)
    go _ is = tt

  pub other-node : (a : Body) → (kind_of a ≡ kind.Ended → ⊥) → LetterActsOn x_c b part (Node n) Front (message c e a)
  other-node a ended m d = go m.body (kinds-same (record { c = c; epoch = record { 0 = e }; body = a }) m d) where
    go : (z : Body) → kind_of a ≡ kind_of z → NodeBodyActs b m.epoch.0 part.front.row z
    go (body.Ended reason snd rcv count) is = absurd (ended is)
    go _ is = tt

-- ---- an Ended

-- why and with which numbers
abbrev Ends : Type 0
Ends = Reason × ℕ × ℕ

ended_of : Ends → Body → Ends
ended_of d (body.Ended why snd rcv n) = (why, snd, rcv)
ended_of d _ = d

-- What is read of it is why it ended, and with which numbers.
pub ended-same : (c e count : ℕ) (last : Final) → last.snd.0 < 2 ^ 32 → last.rcv.0 < 2 ^ 32 → (m : Message) (why : Reason) (snd rcv k : ℕ) → decoded_message (message c e (body.Ended last.reason last.snd.0 last.rcv.0 count)) ≡ Ok m → m.body ≡ body.Ended why snd rcv k
    → last ≡ record { reason = why; snd = record { 0 = snd }; rcv = record { 0 = rcv } }
unfolding ended_of
ended-same c e count last snd_fits rcv_fits m why snd rcv k d is =
    let x : Message = record { c = c; epoch = record { 0 = e }; body = body.Ended last.reason last.snd.0 last.rcv.0 count } in
    let read = spelled-body x m d in
    let fields = ended-fields last.reason last.snd.0 last.rcv.0 count snd_fits rcv_fits m.body read.0 read.1 in
    let same : (last.reason, last.snd.0, last.rcv.0) ≡ (why, snd, rcv) = ap (ended_of (why, snd, rcv)) (fields.1 ∙ is) in
    ap (λ (t : Ends). record { reason = t.0; snd = record { 0 = t.1 }; rcv = record { 0 = t.2 } }) same

-- The end that a node tells has the last numbers.
pub ended-acts : (b : Bounds) (part : Part) (x_c n c e count : ℕ) (last : Final) → last.snd.0 < 2 ^ 32 → last.rcv.0 < 2 ^ 32 → EndActs b (ending.Over last)
    → LetterActsOn x_c b part (Node n) Front (message c e (body.Ended last.reason last.snd.0 last.rcv.0 count))
ended-acts b part x_c n c e count last snd_fits rcv_fits h m d = go m.body refl where
  go : (a : Body) → m.body ≡ a → NodeBodyActs b m.epoch.0 part.front.row a
  go (body.Ended why snd rcv k) is = inr (subst (λ (l : Final). EndActs b (ending.Over l)) (ended-same c e count last snd_fits rcv_fits m why snd rcv k d is) h)
  go _ is = tt
