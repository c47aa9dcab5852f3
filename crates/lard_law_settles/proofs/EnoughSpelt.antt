-- What was spelled as the message of these fields, and is the spelling of a message, is that of the same kind and the same bytes: so the
-- fields that are kept are in range, or others that spell the same.
use Rattle.std.proofs.Common.{◌≡◌, ◌<◌, ◌^◌, ℕ, List, [], ◌∷◌, ◌++◌, drop, take, length, option_map, Option, refl, sym, ap, ◌∙◌, subst, arith, All}
use Rattle.std.specs.Int.{to_be_bytes, w32}
use Rattle.std.specs.List.{flat_map}
use Rattle.lard_law_view.specs.Prelude.{Body, EndpointParts, Final, FitsFields, IsConnNumber, IsMessage, IsOfTable, Kind, Message, body_bytes, counted_bytes, header_bytes, kind_number, kind_of, spelled_message, version_of}
use Rattle.lard_law_connections.specs.Places.{Head, message_head}
use Rattle.lard_law_connections.proofs.PlacesHeads.{spelled-some}
use Rattle.lard_laws.proofs.RecordsLetters.{IsSpelled}
use Rattle.lard_law_settles.proofs.CourseRenewing.{of_conn}
use Rattle.lard_message.specs.declared.kind.Kind.TheVariants as kind
use Rattle.lard_message.specs.declared.message.Body.TheVariants as body
use Rattle.lard_message.specs.Message.{IsPath}
use Rattle.lard_message.proofs.Fields.{some_same}
use Rattle.lard_rules.specs.Node.{message}

abbrev kind_in : Option Head → Option Kind
kind_in o = option_map (λ h. h.kind) o

abbrev first_of : List ℕ → ℕ
first_of [] = 0
first_of (b ∷ bs) = b

module _ (x : Message) (s : IsSpelled (spelled_message x)) where
  pub same-kind : kind_of s.message.body ≡ kind_of x.body
  same-kind =
      some_same (kind_of s.message.body) (kind_of x.body) (ap kind_in (sym (spelled-some s.message)) ∙ ap (λ (bs : List ℕ). kind_in (message_head bs)) s.spelled ∙ ap kind_in (spelled-some x))

  pub same-body : body_bytes s.message.body ≡ body_bytes x.body
  unfolding spelled_message
  same-body = ap (drop 10) s.spelled

respelled : (c e : ℕ) (a b : Body) → kind_of a ≡ kind_of b → body_bytes a ≡ body_bytes b → message c e a ≡ message c e b
unfolding spelled_message
respelled c e a b kinds same = λ i. header_bytes (version_of (kinds i)) (kind_number (kinds i)) c e (length (same i)) ++ same i

module _ (c e : ℕ) (number : IsConnNumber c) (early : e < 2 ^ 16) where
  may : (b : Body) → IsOfTable b → FitsFields b → IsMessage (of_conn c e b)
  may b table fits = record { some_connection = number.0; connection = number.1; epoch = early; table = table; fits = fits }

  pub offer-may : (parts : EndpointParts) → IsSpelled (message c e (body.Offer parts)) → (p : EndpointParts) × (message c e (body.Offer parts) ≡ message c e (body.Offer p)) × IsMessage (of_conn c e (body.Offer p))
  offer-may parts s = go s.message.body (same-kind (of_conn c e (body.Offer parts)) s) (same-body (of_conn c e (body.Offer parts)) s) s.is.table s.is.fits where
    go : (b : Body) → kind_of b ≡ kind.Offer → body_bytes b ≡ body_bytes (body.Offer parts) → IsOfTable b → FitsFields b
        → (p : EndpointParts) × (message c e (body.Offer parts) ≡ message c e (body.Offer p)) × IsMessage (of_conn c e (body.Offer p))
    go (body.Offer p) k same table fits = (p, respelled c e (body.Offer parts) (body.Offer p) refl (sym same), may (body.Offer p) table fits)
    go _ k same table fits = absurd cc

  pub give-may : (parts : EndpointParts) → IsSpelled (message c e (body.Give parts)) → (p : EndpointParts) × (message c e (body.Give parts) ≡ message c e (body.Give p)) × IsMessage (of_conn c e (body.Give p))
  give-may parts s = go s.message.body (same-kind (of_conn c e (body.Give parts)) s) (same-body (of_conn c e (body.Give parts)) s) s.is.table s.is.fits where
    go : (b : Body) → kind_of b ≡ kind.Give → body_bytes b ≡ body_bytes (body.Give parts) → IsOfTable b → FitsFields b
        → (p : EndpointParts) × (message c e (body.Give parts) ≡ message c e (body.Give p)) × IsMessage (of_conn c e (body.Give p))
    go (body.Give p) k same table fits = (p, respelled c e (body.Give parts) (body.Give p) refl (sym same), may (body.Give p) table fits)
    go _ k same table fits = absurd cc

  -- what an Ended tells, and how much it counts
  abbrev pub told_end : Final → ℕ → Body
  told_end last count = body.Ended last.reason last.snd.0 last.rcv.0 count

  pub ended-may : (last : Final) (count : ℕ) → IsSpelled (message c e (told_end last count)) → (l : Final) × (n : ℕ) × (message c e (told_end last count) ≡ message c e (told_end l n)) × IsMessage (of_conn c e (told_end l n))
  ended-may last count s = go s.message.body (same-kind (of_conn c e (told_end last count)) s) (same-body (of_conn c e (told_end last count)) s) s.is.table s.is.fits where
    go : (b : Body) → kind_of b ≡ kind.Ended → body_bytes b ≡ body_bytes (told_end last count) → IsOfTable b → FitsFields b
        → (l : Final) × (n : ℕ) × (message c e (told_end last count) ≡ message c e (told_end l n)) × IsMessage (of_conn c e (told_end l n))
    go (body.Ended reason snd rcv n) k same table fits =
        let l : Final = record { reason = reason; snd = record { 0 = snd }; rcv = record { 0 = rcv } } in
        (l, n, respelled c e (told_end last count) (told_end l n) refl (sym same), may (told_end l n) table fits)
    go _ k same table fits = absurd cc

  -- a Fetch whose number has room
  pub fetch-may : (r : ℕ) (path : List ℕ) → r < 2 ^ 32 → IsSpelled (message c e (body.Fetch r path)) → IsMessage (of_conn c e (body.Fetch r path))
  fetch-may r path low s = go s.message.body (same-kind (of_conn c e (body.Fetch r path)) s) (same-body (of_conn c e (body.Fetch r path)) s) s.is.table where
    go : (b : Body) → kind_of b ≡ kind.Fetch → body_bytes b ≡ body_bytes (body.Fetch r path) → IsOfTable b → IsMessage (of_conn c e (body.Fetch r path))
    go (body.Fetch i other) k same table =
        let paths : other ≡ path = ap (drop 6) same in
        may (body.Fetch r path) (subst IsPath paths table) low
    go _ k same table = absurd cc

  -- an Ask whose number has room, for paths of files
  pub ask-may : (n queue size : ℕ) (paths : List (List ℕ)) → n < 2 ^ 32 → All IsPath paths → IsSpelled (message c e (body.Ask n queue size paths))
      → (q : ℕ) × (message c e (body.Ask n queue size paths) ≡ message c e (body.Ask n q size paths)) × IsMessage (of_conn c e (body.Ask n q size paths))
  ask-may n queue size paths low named s = go s.message.body (same-kind (of_conn c e (body.Ask n queue size paths)) s) (same-body (of_conn c e (body.Ask n queue size paths)) s) s.is.table s.is.fits where
    go : (b : Body) → kind_of b ≡ kind.Ask → body_bytes b ≡ body_bytes (body.Ask n queue size paths) → IsOfTable b → FitsFields b
        → (q : ℕ) × (message c e (body.Ask n queue size paths) ≡ message c e (body.Ask n q size paths)) × IsMessage (of_conn c e (body.Ask n q size paths))
    go (body.Ask m q z ps) k same table fits =
        let queues : to_be_bytes w32 q ≡ to_be_bytes w32 queue = ap (λ (bs : List ℕ). take 4 (drop 4 bs)) same in
        let sizes : z ≡ size = ap (λ (bs : List ℕ). first_of (drop 8 bs)) same in
        let lengths : length ps ≡ length paths = ap (λ (bs : List ℕ). first_of (drop 9 bs)) same in
        let few = table.0 in
        let some = table.1 in
        let within = table.2 in (
          q,
          respelled c e (body.Ask n queue size paths) (body.Ask n q size paths) refl (λ i. to_be_bytes w32 n ++ sym queues i ++ size ∷ length paths ∷ flat_map counted_bytes paths),
          may (body.Ask n q size paths) (omega (arith, few, sizes), omega (arith, some, lengths), omega (arith, within, lengths, sizes), named) (low, fits.1),
        )
    go _ k same table fits = absurd cc
