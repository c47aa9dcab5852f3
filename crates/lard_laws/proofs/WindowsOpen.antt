-- What is known of a connection whose client opened, beside how far its windows reach.
use Rattle.std.proofs.Common.{◌≡◌, ◌≤◌, ◌<◌, ◌^◌, Option, Some, None, refl, sym, ap, ◌∙◌, subst, arith}
use Rattle.lard_law_view.specs.Prelude.{Conn, IsConnNumber, IsConnSound, Move, Setting, Station, Stream, grown}
use Rattle.lard_law_connections.specs.BytesAgreement.{IsOpen, IsTruthful}
use Rattle.lard_law_connections.proofs.BytesClientMoves.{open-at}
use Rattle.lard_law_connections.proofs.PlacesTurns.{IsPlaced}
use Rattle.lard_law_view.proofs.Fine.{IsItsOwn}
use Rattle.lard_laws.specs.Windows.{IsReaching, ReachesOn, StationReaches}

-- ---- a place's move, of a connection whose client opened or not

pub by-station : (x : Conn) (v : Move) → v.part.station ≡ x.part.station → ((s : Station) → x.part.station ≡ Some s → StationReaches x s → StationReaches (grown x v) s) → IsReaching x → IsReaching (grown x v)
by-station x v same opened h = go x.part.station refl h where
  go : (o : Option Station) → x.part.station ≡ o → ReachesOn x o → ReachesOn (grown x v) v.part.station
  go None e r = subst (ReachesOn (grown x v)) (sym (same ∙ e)) tt
  go (Some s) e r = subst (ReachesOn (grown x v)) (sym (same ∙ e)) (opened s e r)

module _ (k : Setting) (small : k.stream ≤ 2 ^ 30) where
  -- what is known beside the windows
  pub record Helps (x : Conn) (v : Move) : Type 0 where
    pub number : IsConnNumber x.c
    pub sound : IsConnSound x
    pub placed : IsPlaced x
    pub truth : IsTruthful k.files x
    pub own : IsItsOwn x v

  abbrev pub Keeps : Conn → Move → Type 0
  Keeps x v = Helps x v → IsReaching x → IsReaching (grown x v)

  -- ---- of a connection whose client opened

  module _ (x : Conn) (s : Station) (there : x.part.station ≡ Some s) (truth : IsTruthful k.files x) where
    abbrev pub whole : IsOpen k.files x truth.talk truth.pend s
    whole = open-at k.files x s there truth

    pub first_is : truth.talk.w.first ≡ s.client.send.iss
    first_is = ap (λ (z : Stream). z.first) whole.client.w_is

    pub isn_small : s.client.send.iss < 2 ^ 32
    isn_small = whole.client.speaks.number

    pub iss_small : s.iss < 2 ^ 32
    iss_small = let n = whole.says.number in let same = whole.begins in omega (arith, n, same)
