-- What the journal tells of packets goes on as the network does.
use Rattle.std.proofs.Common.{◌≡◌, ℕ, ◌+◌, List, [], ◌∷◌, ◌++◌, false, sym, ◌∙◌, append_assoc, append-nil}
use Rattle.std.specs.List.{fold}
use Rattle.lard_law_view.specs.Prelude.{Packet, Place, net_step, packets_of, sent_records}

-- ---- what the journal tells of packets goes on as the network does

pub sents-net : (net : List Packet) (k : ℕ) (place : Place) (ss : List (Place × List ℕ)) → fold net_step net (sent_records k place ss) ≡ net ++ packets_of place ss
sents-net net k place [] = sym (append-nil net)
sents-net net k place (s ∷ ss) = sents-net (net ++ record { from = place; to = s.0; bytes = s.1; lost = false } ∷ []) (k + 1) place ss
    ∙ append_assoc net (record { from = place; to = s.0; bytes = s.1; lost = false } ∷ []) (packets_of place ss)
