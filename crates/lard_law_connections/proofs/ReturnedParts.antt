-- The parts with which a connection comes back are those of an Offer that is kept, or of a Give: both are read from bytes.
use Rattle.std.proofs.Common.{◌≡◌, ℕ, List, [], ◌∷◌, Option, Some, None, Result, Ok, Err, refl, subst}
use Rattle.lard_law_view.specs.Prelude.{Body, Conn, EndpointParts, IsOfTable, IsValidParts, Kept, Message, MsgFault, Seen, decoded_message, parts_back, parts_in, parts_kept, parts_read}
use Rattle.lard_rules.proofs.MessageTold.{IsTold, message-told}
use Rattle.lard_law_view.proofs.EachFront.{HasBack}
use Rattle.lard_message.specs.declared.message.Body.TheVariants as body
use Rattle.lard_message.proofs.Fields.{some_same}

-- these bytes are read as the Offer of these parts
pub record ReadsOffer (bytes : List ℕ) (parts : EndpointParts) : Type 0 where
  pub read : Message
  pub reads : decoded_message bytes ≡ Ok read
  pub offers : read.body ≡ body.Offer parts

pub reads-offer : (bytes : List ℕ) (parts : EndpointParts) → parts_read (decoded_message bytes) ≡ Some parts → ReadsOffer bytes parts
reads-offer bytes parts is = of-read (decoded_message bytes) refl is where
  of-body : (m : Message) → decoded_message bytes ≡ Ok m → (b : Body) → m.body ≡ b → parts_in b ≡ Some parts → ReadsOffer bytes parts
  of-body m reads (body.Offer given) is same =
      record { read = m; reads = reads; offers = subst (λ (z : EndpointParts). m.body ≡ body.Offer z) (some_same given parts same) is }
  of-body m reads _ is same = let no : None ≡ Some parts = same in absurd cc

  of-read : (r : Result Message MsgFault) → decoded_message bytes ≡ r → parts_read r ≡ Some parts → ReadsOffer bytes parts
  of-read (Ok m) reads same = of-body m reads m.body refl same
  of-read (Err fault) reads same = let no : None ≡ Some parts = same in absurd cc

kept-valid : (ks : List Kept) (parts : EndpointParts) → parts_kept ks ≡ Some parts → IsValidParts parts
kept-valid [] parts is = let no : None ≡ Some parts = is in absurd cc
kept-valid (q ∷ ks) parts is =
    let o : ReadsOffer q.bytes parts = reads-offer q.bytes parts is in
    subst IsOfTable o.offers (subst IsTold o.reads (message-told q.bytes))

-- they are in their ranges
pub back-valid : (x : Conn) (n epoch : ℕ) (given : Option EndpointParts) (heads : List Seen) → HasBack x n epoch given heads
    → (parts : EndpointParts) → parts_back x.part.front given ≡ Some parts → IsValidParts parts
back-valid x n epoch None heads comes parts is = kept-valid x.part.front.kept parts is
back-valid x n epoch (Some given) heads comes parts is = subst IsValidParts (some_same given parts is) (subst IsTold comes.spells (message-told comes.bytes))
