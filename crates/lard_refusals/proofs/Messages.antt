-- What the messages say.
use Rattle.std.proofs.Common.{◌≡◌, ℕ, false, List, [], ◌∷◌, Ok, refl}
use Rattle.std.specs.Prelude.{codes}
use Rattle.lard_law_view.specs.Prelude.{Body, EndpointParts, Message, ask_at, content_at, counted_at, decoded_message, flag_at, give_at, offer_at, parts_at, paths_at, request}
use Rattle.lard_message.specs.declared.message.Body.TheVariants as body
use Rattle.lard_refusals.specs.Packets.{content, first_ask, give_without_bytes, offer, offer_without_bytes}

-- a message on connection 1 in epoch 2
abbrev pub saying : Body → Message
saying b = record { c = 1; epoch = record { 0 = 2 }; body = b }

-- what an Offer or a Give carries behind one request that came, with these bytes unread
abbrev pub carrying : List ℕ → EndpointParts
carrying unread = record { irs = 1000; iss = 5000; got = 31; fin = false; una = 1; wnd = 65535; wl1 = 1001; wl2 = 5001; mss = 1460; served = 0; unread = unread }

pub offer-says : decoded_message offer ≡ Ok (saying (body.Offer (carrying (request (codes "/a")))))
unfolding counted_at decoded_message flag_at offer_at parts_at
offer-says = refl

pub offer-without-bytes-says : decoded_message offer_without_bytes ≡ Ok (saying (body.Offer (carrying [])))
unfolding counted_at decoded_message flag_at offer_at parts_at
offer-without-bytes-says = refl

pub give-without-bytes-says : decoded_message give_without_bytes ≡ Ok (saying (body.Give (carrying [])))
unfolding counted_at decoded_message flag_at give_at parts_at
give-without-bytes-says = refl

pub first-ask-says : decoded_message first_ask ≡ Ok (saying (body.Ask 1 0 1 (codes "/a" ∷ [])))
unfolding ask_at counted_at decoded_message paths_at
first-ask-says = refl

pub content-says : decoded_message content ≡ Ok (saying (body.Content 1 (codes "hi")))
unfolding content_at decoded_message
content-says = refl
