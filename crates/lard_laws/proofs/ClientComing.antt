-- What comes to a client, of a connection that agrees, once for the laws of this crate: a segment is a reply of the cluster's, and each rule is a turn
-- of a client that goes on to agree.
use Rattle.std.proofs.Common.{◌≡◌, ◌≤◌, ◌^◌, ℕ, List, Some, Ok, ap, ◌∙◌}
use Rattle.lard_law_view.specs.Prelude.{Client, ClientGets, ClientTurned, Conn, Front, GoesBetween, IsConnSound, IsReply, Node, Place, Said, Setting, Station, Talk, ToClient, Was, client_rule, decoded, spelled}
use Rattle.lard_law_connections.specs.BytesAgreement.{IsFair, IsFairOn, IsOpen, IsTruthful}
use Rattle.lard_law_connections.proofs.BytesClientMoves.{has-fair, open-at, was-between}
use Rattle.lard_law_connections.proofs.BytesClientMoves as agreement
use Rattle.lard_law_view.proofs.EachClient.{ClientComes}
use Rattle.lard_segment.proofs.Again.{again}

module _ (k : Setting) (small : k.stream ≤ 2 ^ 30) (x : Conn) (s : Station) (there : x.part.station ≡ Some s) (truth : IsTruthful k.files x)
    (sound : IsConnSound x) where
  abbrev l : Talk
  l = truth.talk

  abbrev o : IsOpen k.files x l truth.pend s
  o = open-at k.files x s there truth

  pub record HasReply (from : Place) (bytes : List ℕ) : Type 0 where
    pub said : Said
    pub read : decoded bytes x.c ToClient ≡ Ok said
    pub reply : IsReply l.w l.out l.was_reset said

  reply-in : (from : Place) (bytes : List ℕ) → GoesBetween x.c from (Client x.c) bytes → IsFairOn l x.c x.part from (Client x.c) bytes
      → (t : Said) × (bytes ≡ spelled x.c ToClient t) × IsReply l.w l.out l.was_reset t
  reply-in Front bytes between f = f
  reply-in (Node n) bytes between f = f
  reply-in (Client d) bytes between f = absurd between

  pub reply-of : (from : Place) (bytes : List ℕ) → Was x from (Client x.c) bytes → HasReply from bytes
  reply-of from bytes was =
      let fair = has-fair (IsFair l x.c x.part) (record { from = from; to = Client x.c; bytes = bytes }) x.letters was o.fair in
      let f = reply-in from bytes (was-between x from (Client x.c) bytes sound was) fair in
      record { said = f.0; read = ap (λ (b : List ℕ). decoded b x.c ToClient) f.1 ∙ again x.c ToClient f.0 f.2.sendable; reply = f.2 }

  pub rule-turned : (g : ClientGets) → ClientComes k x s g → ClientTurned x.c l.w l.out s.client (client_rule x.c s.client g)
  rule-turned = agreement.rule-turned k small x s truth o sound
