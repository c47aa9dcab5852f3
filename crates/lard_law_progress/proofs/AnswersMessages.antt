-- What is read of the messages by which a node answers, and how far they lead.
use Rattle.std.proofs.Common.{◌≡◌, ◌≤◌, ℕ, Bool, true, false, List, length, refl, sym, ap, ◌∙◌, subst}
use Rattle.lard_law_view.specs.Prelude.{Body, EndpointParts, FilesAt, Front, IsMessage, Letter, MAX_FILE_BYTES, Message, Node}
use Rattle.lard_bound.specs.Chains.{aside_chain, chain, node_chain, of_message}
use Rattle.lard_bound.specs.Nears.{Near, NearSaid, OfMessage}
use Rattle.lard_bound.specs.Spots.{Spot}
use Rattle.lard_message.specs.declared.message.Body.TheVariants as body
use Rattle.lard_message.proofs.Whole.{again}
use Rattle.lard_rules.specs.Node.{message}

-- a message of connection c in epoch e
abbrev pub of_conn : ℕ → ℕ → Body → Message
of_conn c e b = record { c = c; epoch = record { 0 = e }; body = b }

-- ---- a content

abbrev pub content_letter : ℕ → ℕ → ℕ → ℕ → ℕ → List ℕ → Letter
content_letter n to c e r file = record { from = Node n; to = Node to; bytes = message c e (body.Content r file) }

pub content-may : (c e r : ℕ) (path file : List ℕ) → IsMessage (of_conn c e (body.Fetch r path)) → length file ≤ MAX_FILE_BYTES → IsMessage (of_conn c e (body.Content r file))
content-may c e r path file h small = record { some_connection = h.some_connection; connection = h.connection; epoch = h.epoch; table = small; fits = h.fits }

module _ (files : FilesAt) (t : Spot) (c e r n to : ℕ) (file : List ℕ) (may : IsMessage (of_conn c e (body.Content r file))) where
  -- nothing comes of it
  pub content-chain : chain t c (content_letter n to c e r file) ≡ 0
  content-chain = ap (of_message (λ (m : Message). aside_chain m.body)) (again (of_conn c e (body.Content r file)) may)

-- ---- what answers an Offer: that it was taken, or refused

abbrev pub answer_body : Bool → Body
answer_body true = body.Taken
answer_body false = body.Refused

abbrev pub answer_letter : ℕ → ℕ → ℕ → Bool → Letter
answer_letter n c e takes = record { from = Node n; to = Front; bytes = message c e (answer_body takes) }

pub answer-may : (c e : ℕ) (parts : EndpointParts) (takes : Bool) → IsMessage (of_conn c e (body.Offer parts)) → IsMessage (of_conn c e (answer_body takes))
answer-may c e parts true h = record { some_connection = h.some_connection; connection = h.connection; epoch = h.epoch; table = tt; fits = tt }
answer-may c e parts false h = record { some_connection = h.some_connection; connection = h.connection; epoch = h.epoch; table = tt; fits = tt }

module _ (files : FilesAt) (t : Spot) (c e n : ℕ) (takes : Bool) (may : IsMessage (of_conn c e (answer_body takes))) where
  -- nothing comes of it
  pub answer-chain : chain t c (answer_letter n c e takes) ≡ 0
  answer-chain = ap (of_message (λ (m : Message). node_chain m.body)) (again (of_conn c e (answer_body takes)) may) ∙ none takes where
    none : (takes : Bool) → node_chain (answer_body takes) ≡ 0
    none true = refl
    none false = refl

  pub answer-near : (d : ℕ) → NearSaid t d n e (answer_body takes) → Near files t c d (answer_letter n c e takes)
  answer-near d near = subst (OfMessage (λ (m : Message). NearSaid t d n m.epoch.0 m.body)) (sym (again (of_conn c e (answer_body takes)) may)) near
