-- What a place keeps stays in agreement where the client writes on.
use Rattle.std.proofs.Common.{◌≡◌, ◌≤◌, ◌-◌, ℕ, Bool, List, [], ◌++◌, length, take, Option, Some, None, arith, ap, ◌∙◌, sym, subst, append_assoc, inl, inr, ⊎_elim}
use Rattle.lard_law_view.specs.Prelude.{BackConn, BackRow, ControlBlock, Final, FrontConn, FrontRow, GoesOn, Hears, IsPrefix, Kept, NodePart, Part, Stay, Stream, Verdict, blocks, seq_add, verdicts, verdicts_on}
use Rattle.lard_law_connections.specs.BytesAgreement.{AwayAgrees, BackAgrees, EndedWithNumbers, FrontHolds, HasReadPending, HoldsItPending, IsEnding, IsOffering, IsReturning, NodeAgrees, RowAgrees, SeatAgrees, StageAgrees, StayAgrees}
use Rattle.lard_law_connections.specs.BytesKeeping.{SaidStays, SeatStays}
use Rattle.lard_handoff_back.specs.declared.row.BackConn.TheVariants as back
use Rattle.lard_handoff_front.specs.declared.row.FrontConn.TheVariants as stage
use Rattle.lard_law_view.proofs.Growth.{front-length, front-take, heard-grown}

module _ (w v : Stream) (g : GoesOn w v) where
  -- what fronts the verdicts of all that may be written yet, fronts those of what may be written behind more
  fronts-on : (us : List Verdict) → ((z : List ℕ) → IsPrefix us (verdicts (w.bytes ++ z))) → (z : List ℕ) → IsPrefix us (verdicts (v.bytes ++ z))
  fronts-on us h z =
      let more = g.bytes.0 in
      subst (λ (all : List ℕ). IsPrefix us (verdicts all)) (sym (append_assoc w.bytes more z) ∙ ap (λ l. l ++ z) (sym g.bytes.1)) (h (more ++ z))

  module _ (out : Stream) (vs pend : List Verdict) where
    read-on : (b : ControlBlock) → Hears w b.recv → HasReadPending w b vs pend → HasReadPending v b vs pend
    read-on b heard h =
        let n = b.recv.got - length b.recv.unread in
        let within : n ≤ length w.bytes = omega (arith, heard.within) in
        let same : take n v.bytes ≡ take n w.bytes = front-take n w.bytes v.bytes g.bytes within in
        record {
          cut = λ keeps open_ z. ap (λ l. verdicts_on (blocks (l ++ z))) same ∙ h.cut keeps open_ z;
          goes_on = h.goes_on;
          stops = h.stops;
          fronts = fronts-on (vs ++ pend) h.fronts;
        }

    holds-on : (b : ControlBlock) (count : ℕ) → HoldsItPending w out vs pend b count → HoldsItPending v out vs pend b count
    holds-on b count h = record {
      counted = h.counted;
      not_reset = h.not_reset;
      sound = h.sound;
      speaks = h.speaks;
      out_is = h.out_is;
      hears = heard-grown w v b.recv g h.hears;
      wide = h.wide;
      has_read = read-on b h.hears h.has_read;
    }

  ended-on : (r : Bool) (last : Final) → EndedWithNumbers w r last → EndedWithNumbers v r last
  ended-on r last h =
      let a = h.acks in
      let le = a.2 in
      record {
        snd_fits = h.snd_fits;
        rcv_fits = h.rcv_fits;
        acks = (a.0, a.1 ∙ ap (λ n. seq_add n a.0) (sym g.first), omega (arith, le, front-length w.bytes v.bytes g.bytes));
        limit = h.limit;
      }

  module _ (out : Stream) (vs pend : List Verdict) (r : Bool) (c : ℕ) where
    front-on : (b : ControlBlock) (count : ℕ) → FrontHolds w out vs pend b count → FrontHolds v out vs pend b count
    front-on b count h = record { none = h.none; serves = h.serves; holds = holds-on out vs [] b count h.holds }

    offering-on : (n e : ℕ) (kept : List Kept) → IsOffering w out vs pend c n e kept → IsOffering v out vs pend c n e kept
    offering-on n e kept h = record { block = h.block; count = h.count; frozen = h.frozen; holds = front-on h.block h.count h.holds; kept_is = h.kept_is }

    stay-on : (b : ControlBlock) (o : Option Stay) → StayAgrees w out vs pend b o → StayAgrees v out vs pend b o
    stay-on b None h = h
    stay-on b (Some s) h = (h.0, holds-on out vs pend b s.served h.1)

    ending-on : (e : ℕ) (kept : List Kept) → IsEnding w r c e kept → IsEnding v r c e kept
    ending-on e kept h = record { last = h.last; count = h.count; ended = ended-on r h.last h.ended; kept_is = h.kept_is }

    returning-on : (e : ℕ) (p : NodePart) → IsReturning w out vs pend c e p → IsReturning v out vs pend c e p
    returning-on e p h = record { block = h.block; count = h.count; frozen = h.frozen; holds = front-on h.block h.count h.holds; returned = h.returned; kept_is = h.kept_is }

    back-on : (e : ℕ) (p : NodePart) (d : BackConn) → BackAgrees w out vs pend r c e p d → BackAgrees v out vs pend r c e p d
    back-on e p (back.Here b) h = stay-on b p.stay h
    back-on e p back.Out h = h
    back-on e p back.Ended h = ⊎_elim (λ (t : IsEnding w r c e p.kept). inl (ending-on e p.kept t)) (λ (t : IsReturning w out vs pend c e p). inr (returning-on e p t)) h
    back-on e p back.Gone h = h

    node-on : (p : NodePart) (o : Option BackRow) → RowAgrees w out vs pend r c p o → RowAgrees v out vs pend r c p o
    node-on p None h = h
    node-on p (Some row) h = back-on row.epoch.0 p row.stage h

    away-on : (n e : ℕ) (p : Part) → AwayAgrees w out vs pend r c n e p → AwayAgrees v out vs pend r c n e p
    away-on n e p h = ⊎_elim
        (λ (t : _ × IsOffering w out vs pend c n e p.front.kept). inl (t.0, offering-on n e p.front.kept t.1))
        (λ (t : _ × NodeAgrees w out vs pend r c (p.nodes n)). inr (t.0, node-on (p.nodes n) (p.nodes n).row t.1))
        h

    stage-on : (p : Part) (e : ℕ) (d : FrontConn) → StageAgrees w out vs pend r c p e d → StageAgrees v out vs pend r c p e d
    stage-on p e (stage.Held b) h = front-on b _ h
    stage-on p e (stage.Waiting b) h = (front-on b _ h.0, h.1)
    stage-on p e stage.Lent h = h
    stage-on p e (stage.Offering n d) h = away-on n e p h
    stage-on p e (stage.Moved n d) h = (h.0, node-on (p.nodes n) (p.nodes n).row h.1)
    stage-on p e (stage.Closed last) h = ended-on r last h

    seat-on : (p : Part) (o : Option FrontRow) → SeatAgrees w out vs pend r c p o → SeatAgrees v out vs pend r c p o
    seat-on p None h = h
    seat-on p (Some row) h = stage-on p row.epoch.0 row.stage h

pub seat-stays : SeatStays
seat-stays w v out vs pend was_reset c p g h = seat-on w v g out vs pend was_reset c p p.front.row h

pub said-stays : SaidStays
said-stays files w v out vs g h = record { spoken = h.spoken; fronts = fronts-on w v g vs h.fronts; number = h.number; most = h.most }
