use Rattle.std.proofs.Common.{◌≡◌, ◌⊎◌, ◌+◌, ◌≤◌, List, [], ◌∷◌, Option, None, Some, refl, subst, ⊎_elim, arith}
use Rattle.std.specs.Prelude.{codes, drop}
use Rattle.lard_law_view.specs.Prelude.{FilesAt, Numbers, Rec, request}
use Rattle.lard_block.specs.Blocks.{Piece}
use Rattle.lard_law_connections.specs.Offers.{ArePartsOf, BeginsFrom}
use Rattle.lard_history.proofs.Each.{Each}
use Rattle.lard_journal.specs.declared.rec.Rec.TheVariants as rec
use Rattle.lard_message.specs.declared.message.Body.TheVariants as body
use Rattle.lard_refusals.proofs.Messages.{carrying, give-without-bytes-says, offer-says, offer-without-bytes-says, saying}
use Rattle.lard_refusals.proofs.Requests.{request-block}
use Rattle.lard_refusals.proofs.moves.offers_refuses.Goals as goal

pub returns-clause-offer_of_nobody : goal.returns-clause-offer_of_nobody
returns-clause-offer_of_nobody c h =
    let carries = h.0 (saying (body.Offer (carrying (request (codes "/a"))))) offer-says refl (λ none. none) in
    let e : ◌≡◌ {A = Option Numbers} None (Some (record { isn = 1000; iss = 5000 })) = carries.numbers in
    cc

-- a client opened, and wrote a request
abbrev written : List Rec
written = rec.Opened 1 1000 5000 65535 1460 ∷ rec.Wrote 1 (request (codes "/a")) ∷ []

-- what was read would end before the request begins
none-left : (files : FilesAt) → ArePartsOf files written 1 (carrying []) → ⊥
none-left files carries =
    let begins = subst (λ (ps : List Piece). Each (BeginsFrom 31) (drop 0 ps)) request-block carries.cut.begins in
    let e : 31 + 31 ≤ 31 = begins.0 in
    omega arith

-- the packet was not sent before
new : ⊥ ⊎ ⊥ ⊎ ⊥ → ⊥
new h = ⊎_elim (λ (none : ⊥). none) (⊎_elim (λ (none : ⊥). none) (λ (none : ⊥). none)) h

pub returns-clause-unread_bytes_left_behind : goal.returns-clause-unread_bytes_left_behind
returns-clause-unread_bytes_left_behind c h = none-left _ (h.1.1.0 (saying (body.Offer (carrying []))) offer-without-bytes-says refl new)

pub returns-clause-unread_bytes_not_given_back : goal.returns-clause-unread_bytes_not_given_back
returns-clause-unread_bytes_not_given_back c h = none-left _ (h.1.1.0 (saying (body.Give (carrying []))) give-without-bytes-says refl new)
