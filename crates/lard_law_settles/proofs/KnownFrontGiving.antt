-- What the front end's answers rest on: of its stages, epochs, last numbers and Tags, from the laws of every run.
use Rattle.std.proofs.Common.{◌≡◌, ◌<◌, ◌^◌, ℕ, Bool, true, false, List, Option, Some, None, Ok, refl, sym, subst, arith}
use Rattle.lard_law_view.specs.Prelude.{Client, Conn, ControlBlock, Epoch, FilesAt, Front, FrontConn, FrontRest, FrontRow, NodePart, Said, Station, ToCluster, Was, decoded, front_rest, tale_at}
use Rattle.lard_bound.specs.Seats.{Held, Waiting, seat_away, seat_in, seat_of}
use Rattle.lard_bound.specs.Units.{Whole}
use Rattle.lard_laws.specs.Acks.{AcksWhatWasTaken}
use Rattle.lard_law_connections.specs.BytesAgreement.{ConnAgrees, IsTruthful}
use Rattle.lard_laws.specs.EndedEnds.{EndsAreTrue}
use Rattle.lard_law_connections.specs.Past.{EndsAreOfStays}
use Rattle.lard_law_connections.specs.Places.{EndedBefore, HasEarlyEpoch, IsEarlyEpoch, IsRowEarly, Owning, Sits, SitsAt, StageSits, owning}
use Rattle.lard_laws.proofs.RecordsFronts.{RestKeeps}
use Rattle.lard_laws.proofs.TagsAgree.{Agreed}
use Rattle.lard_law_settles.proofs.KnownClosing.{has-closed}
use Rattle.lard_law_settles.proofs.KnownStaying.{asks-given, ended-given}
use Rattle.lard_handoff_front.specs.declared.row.FrontConn.TheVariants as stage
use Rattle.lard_law_progress.proofs.AnswersFrontGiven.{AtSeat, ComesBackKnown, FrontGiven, HasTag, IsStage, IsWord}
use Rattle.lard_law_progress.proofs.AnswersFrontSpots.{away-cases, seat-row}

-- What other laws give of it: of an endpoint that the front end has, of a connection that comes back, and of what its client says.
pub record IsKnownElsewhere (w : Whole) (x : Conn) : Type 0 where
  pub held : (st : Station) (b : ControlBlock) (count : ℕ) → x.part.station ≡ Some st → seat_of x.part ≡ Held b count → AtSeat w st (Held b count)
  pub waiting : (st : Station) (b : ControlBlock) (count : ℕ) → x.part.station ≡ Some st → seat_of x.part ≡ Waiting b count → AtSeat w st (Waiting b count)
  pub back : ComesBackKnown x
  pub words : (st : Station) (bytes : List ℕ) (s : Said) → x.part.station ≡ Some st → Was x (Client x.c) Front bytes → decoded bytes x.c ToCluster ≡ Ok s → IsWord st (seat_of x.part) bytes s

-- ---- where it sits

stage-sits : (e : ℕ) (o : Owning) (nodes : ℕ → NodePart) (c : FrontConn) → StageSits e o nodes c → IsEarlyEpoch e → IsStage c
stage-sits e o nodes (stage.Held b) h early = tt
stage-sits e o nodes (stage.Waiting b) h early = tt
stage-sits e o nodes stage.Lent h early = absurd h
stage-sits e o nodes (stage.Offering n d) h early = let same : d.0 ≡ e = h.1 in omega (arith, early, same)
stage-sits e o nodes (stage.Moved n d) h early = let same : d.0 ≡ e = h.1 in omega (arith, early, same)
stage-sits e o nodes (stage.Closed last) h early = tt

module _ (N : ℕ → Type 0) (files : FilesAt) (w : Whole) (x : Conn) (sits : SitsAt x) (early : HasEarlyEpoch x) (truth : IsTruthful files x) (acts : AcksWhatWasTaken x) (told : EndsAreTrue files x) (keeps : RestKeeps (front_rest x.part.front.rest))
    (ends : EndsAreOfStays x) (agreed : Agreed N files x) (known : IsKnownElsewhere w x) where
  row-sits : (row : FrontRow) → x.part.front.row ≡ Some row → StageSits row.epoch.0 (owning (tale_at x)) x.part.nodes row.stage × EndedBefore row.epoch.0 row.ended_by
  row-sits row is = subst (Sits (owning (tale_at x)) x.part.nodes) is sits

  row-early : (row : FrontRow) → x.part.front.row ≡ Some row → IsEarlyEpoch row.epoch.0
  row-early row is = subst IsRowEarly is early

  unopened : x.part.station ≡ None → x.part.front.row ≡ None
  unopened none = (subst (ConnAgrees files x truth.talk truth.pend) none truth.agrees).front

  ended-small : (row : FrontRow) (e : Epoch) → x.part.front.row ≡ Some row → row.ended_by ≡ Some e → e.0 < 2 ^ 16
  ended-small row e is by =
      let h = row-sits row is in
      let before : e.0 < row.epoch.0 = subst (EndedBefore row.epoch.0) by h.1 in
      let most = row-early row is in
      omega (arith, before, most)

  tag-fits : (rest : FrontRest) → x.part.front.rest ≡ Some rest → 0 < rest.asks → HasTag rest
  tag-fits rest is some =
      let k : RestKeeps rest = subst (λ (o : Option FrontRest). RestKeeps (front_rest o)) is keeps in
      record { number = k.asks; some = k.some some; few = k.short; nodes = k.tag }

  seat-known : (st : Station) → x.part.station ≡ Some st → AtSeat w st (seat_of x.part)
  seat-known st there = by-row x.part.front.row refl where
    away : (t : Bool) (n e count : ℕ) (q : NodePart) → AtSeat w st (seat_away t n e count q)
    away t n e count q = away-cases t n e count q (AtSeat w st) tt tt (λ b. tt) tt (λ served. tt)

    by-stage : (row : FrontRow) → x.part.front.row ≡ Some row → (c : FrontConn) → row.stage ≡ c → seat_of x.part ≡ seat_in x.part.front x.part.nodes c → AtSeat w st (seat_in x.part.front x.part.nodes c)
    by-stage row is (stage.Held b) at seat = known.held st b (front_rest x.part.front.rest).count there seat
    by-stage row is (stage.Waiting b) at seat = known.waiting st b (front_rest x.part.front.rest).count there seat
    by-stage row is stage.Lent at seat = tt
    by-stage row is (stage.Offering n d) at seat = away false n d.0 (front_rest x.part.front.rest).count (x.part.nodes n)
    by-stage row is (stage.Moved n d) at seat = away true n d.0 (front_rest x.part.front.rest).count (x.part.nodes n)
    by-stage row is (stage.Closed last) at seat = has-closed files x truth acts told st there row last is at

    by-row : (o : Option FrontRow) → x.part.front.row ≡ o → AtSeat w st (seat_of x.part)
    by-row None is = subst (AtSeat w st) (sym (seat-row x.part None is)) tt
    by-row (Some row) is = subst (AtSeat w st) (sym (seat-row x.part (Some row) is)) (by-stage row is row.stage refl (seat-row x.part (Some row) is))

  pub front-given : FrontGiven files w x
  front-given = record {
    unopened = unopened;
    stages = λ row is. stage-sits row.epoch.0 (owning (tale_at x)) x.part.nodes row.stage (row-sits row is).0 (row-early row is);
    epochs = ended-small;
    ended = ended-given x ends;
    tags = tag-fits;
    asks = asks-given N files x agreed;
    back = known.back;
    seats = seat-known;
    words = known.words;
  }
