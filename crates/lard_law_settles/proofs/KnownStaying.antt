-- A connection that is at a node, and one whose end a node tells: what the front end keeps of it.
use Rattle.std.proofs.Common.{◌≡◌, ◌==◌, ℕ, Bool, true, false, is_some, Option, Some, None, refl, sym, ap, ◌∙◌, subst}
use Rattle.std.specs.List.{find}
use Rattle.std.proofs.lemmas.Bool.{cond_both, eqb-true}
use Rattle.lard_law_view.specs.Prelude.{BackConn, BackRow, Conn, ControlBlock, Epoch, FilesAt, Final, FrontConn, FrontRow, NodePart, Part, Stay, front_rest, is_under}
use Rattle.lard_base.specs.declared.place.TimerKind.TheVariants as kind
use Rattle.lard_bound.specs.Seats as seat
use Rattle.lard_bound.specs.Seats.{Here, Offered, SeatNow, Staying, Unborn, seat_away, seat_decided, seat_in, seat_of, seat_there, seat_untaken, stay_of, staying_of, telling, telling_by, tells_end, tells_over}
use Rattle.lard_law_connections.specs.Past.{EndsAreOfStays, Over, RowTells, StageTells, stage_whereabouts, whereabouts, whereabouts_of}
use Rattle.lard_law_connections.specs.Kept.{HereKeeps, NodeRowKeeps}
use Rattle.lard_law_connections.specs.KeptLaws.{AnyNode}
use Rattle.lard_laws.proofs.TagsAgree.{Agreed, asks-agree}
use Rattle.lard_handoff_back.specs.declared.row.BackConn.TheVariants as back
use Rattle.lard_handoff_front.specs.declared.row.FrontConn.TheVariants as stage
use Rattle.lard_law_progress.proofs.AnswersFrontGiven.{IsAsked}
use Rattle.lard_law_progress.proofs.AnswersFrontSpots.{away-cases, over-cases, seat-row, untaken-cases}

-- ---- at a node

-- the node has its endpoint, and the stay
abbrev HasHere : NodePart → ℕ → ControlBlock → Staying → Type 0
HasHere q e b s = (q.row ≡ Some (record { stage = back.Here b; epoch = record { 0 = e } })) × (s ≡ staying_of q)

here-row : (q : NodePart) (row : BackRow) (b c : ControlBlock) (d e : ℕ) → q.row ≡ Some row → row.stage ≡ back.Here b → row.epoch.0 ≡ d → b ≡ c → d ≡ e → q.row ≡ Some (record { stage = back.Here c; epoch = record { 0 = e } })
here-row q row b c d e is at same block epoch = is ∙ (λ i. Some (record { stage = (at ∙ ap back.Here block) i; epoch = record { 0 = (same ∙ epoch) i } }))

away-stay : (t told : Bool) (m d count n e : ℕ) (q : NodePart) (b : ControlBlock) (s : Staying) → seat_away t m d count q ≡ Here told n e b s → (m ≡ n) × HasHere q e b s
away-stay t told m d count n e q b s = go q.row refl where
  there : (row : BackRow) → q.row ≡ Some row → row.epoch.0 ≡ d → (c : BackConn) → row.stage ≡ c → seat_there t m d count q c ≡ Here told n e b s → (m ≡ n) × HasHere q e b s
  there row is same (back.Here c) at f =
      let node : m ≡ n = cc in let epoch : d ≡ e = cc in let block : c ≡ b = cc in let stay : s ≡ staying_of q = cc in
      (node, (here-row q row c b d e is at same block epoch, stay))
  there row is same back.Out at f = absurd cc
  there row is same back.Ended at f = over-cases t m d q (λ (z : SeatNow). z ≡ Here told n e b s → (m ≡ n) × HasHere q e b s) (λ f. absurd cc)
      (λ served f. absurd cc) f
  there row is same back.Gone at f = over-cases t m d q (λ (z : SeatNow). z ≡ Here told n e b s → (m ≡ n) × HasHere q e b s) (λ f. absurd cc)
      (λ served f. absurd cc) f

  untaken : seat_untaken m d count q ≡ Here told n e b s → (m ≡ n) × HasHere q e b s
  untaken = untaken-cases m d count q (λ (z : SeatNow). z ≡ Here told n e b s → (m ≡ n) × HasHere q e b s) (λ f. absurd cc) (λ f. absurd cc)

  go : (o : Option BackRow) → q.row ≡ o → seat_decided t m d count q o ≡ Here told n e b s → (m ≡ n) × HasHere q e b s
  go None is f = untaken f
  go (Some row) is f = cond_both (row.epoch.0 == d) (seat_there t m d count q row.stage) (seat_untaken m d count q)
      (λ (z : SeatNow). z ≡ Here told n e b s → (m ≡ n) × HasHere q e b s)
      (λ same. there row is (eqb-true row.epoch.0 d same) row.stage refl) (λ other. untaken) f

pub seat-stay : (p : Part) (told : Bool) (n e : ℕ) (b : ControlBlock) (s : Staying) → seat_of p ≡ Here told n e b s → HasHere (p.nodes n) e b s
seat-stay p told n e b s seat = go p.front.row refl where
  moved : (t : Bool) (m d count : ℕ) → seat_away t m d count (p.nodes m) ≡ Here told n e b s → HasHere (p.nodes n) e b s
  moved t m d count f = let h = away-stay t told m d count n e (p.nodes m) b s f in subst (λ (i : ℕ). HasHere (p.nodes i) e b s) h.0 h.1

  at : (c : FrontConn) → seat_in p.front p.nodes c ≡ Here told n e b s → HasHere (p.nodes n) e b s
  at (stage.Held d) f = absurd cc
  at (stage.Waiting d) f = absurd cc
  at stage.Lent f = absurd cc
  at (stage.Offering m d) f = moved false m d.0 (front_rest p.front.rest).count f
  at (stage.Moved m d) f = moved true m d.0 (front_rest p.front.rest).count f
  at (stage.Closed last) f = absurd cc

  go : (o : Option FrontRow) → p.front.row ≡ o → HasHere (p.nodes n) e b s
  go None is = absurd (let bad : Unborn ≡ Here told n e b s = sym (seat-row p None is) ∙ seat in cc)
  go (Some row) is = at row.stage (sym (seat-row p (Some row) is) ∙ seat)

-- where a node has the connection, it has its stay
pub stay-there : (files : FilesAt) (c n e : ℕ) (b : ControlBlock) (p : NodePart) → NodeRowKeeps AnyNode files c n p p.row → p.row ≡ Some (record { stage = back.Here b; epoch = record { 0 = e } }) → (s : Stay) × (p.stay ≡ Some s)
stay-there files c n e b p kept row = go p.stay refl (subst (NodeRowKeeps AnyNode files c n p) row kept) where
  go : (o : Option Stay) → p.stay ≡ o → HereKeeps AnyNode files c e n p o → (s : Stay) × (p.stay ≡ Some s)
  go None is h = absurd h
  go (Some s) is h = (s, is)

-- so the Ask that it has out is the next one, or the last that was answered
module _ (N : ℕ → Type 0) (files : FilesAt) (x : Conn) (agreed : Agreed N files x) where
  pub asks-given : (told : Bool) (n e : ℕ) (b : ControlBlock) (s : Staying) → seat_of x.part ≡ Here told n e b s → is_some (find (is_under kind.Ask 0) s.kept) ≡ true → IsAsked files s x.part.front.rest
  asks-given told n e b s seat out =
      let h = seat-stay x.part told n e b s seat in
      let stay = stay-there files x.c n e b (x.part.nodes n) (agreed.kept.nodes n) h.0 in
      let q = x.part.nodes n in
      let mine : IsAsked files (record { stay = stay.0; kept = q.kept; fetches = q.fetches }) x.part.front.rest =
      (let a = asks-agree N files x n e b stay.0 (record { row = h.0; stay = stay.1 }) agreed (subst (λ (y : Staying). is_some (find (is_under kind.Ask 0) y.kept) ≡ true) h.1 out) in
      subst (IsAsked files (record { stay = stay.0; kept = q.kept; fetches = q.fetches })) (sym a.1) a.2) in
      let same : record { stay = stay.0; kept = q.kept; fetches = q.fetches } ≡ s = (λ i. record { stay = stay_of (sym stay.1 i); kept = q.kept; fetches = q.fetches }) ∙ sym h.1 in
      subst (λ (y : Staying). IsAsked files y x.part.front.rest) same mine

-- ---- a node that tells an end

module _ (x : Conn) (ends : EndsAreOfStays x) where
  told-by : (n i : ℕ) (by : Option Epoch) (o : Option BackRow) → RowTells n o (Over by) → tells_end o ≡ Some i → by ≡ Some (record { 0 = i })
  told-by n i by None h told = let bad : None ≡ Some i = told in absurd cc
  told-by n i by (Some row) h told = go row.stage h told where
    go : (c : BackConn) → StageTells n row.epoch.0 c (Over by) → telling c row.epoch.0 ≡ Some i → by ≡ Some (record { 0 = i })
    go (back.Here b) k f = absurd cc
    go back.Out k f = absurd cc
    go back.Ended k f = let same : row.epoch.0 ≡ i = cc in k ∙ (λ j. Some (record { 0 = same j }))
    go back.Gone k f = absurd cc

  -- the front end knows of the end that a node tells
  pub ended-given : (row : FrontRow) (last : Final) (n i : ℕ) → x.part.front.row ≡ Some row → seat_of x.part ≡ seat.Over last
      → tells_over (x.part.nodes n) ≡ Some (i, false) → row.ended_by ≡ Some (record { 0 = i })
  ended-given row last n i is sits told = at row.stage refl (sym (seat-row x.part (Some row) is) ∙ sits) where
    away : (t : Bool) (m d count : ℕ) → seat_away t m d count (x.part.nodes m) ≡ seat.Over last → ⊥
    away t m d count = away-cases t m d count (x.part.nodes m) (λ (z : SeatNow). z ≡ seat.Over last → ⊥) (λ f. cc) (λ f. cc) (λ b f. cc) (λ f. cc)
        (λ served f. cc)

    tells : (o r : Option ℕ) → telling_by o r ≡ Some (i, false) → o ≡ Some i
    tells None r f = absurd (let bad : ◌≡◌ {A = Option (ℕ × Bool)} None (Some (i, false)) = f in cc)
    tells (Some e) r f = let both : ◌≡◌ {A = ℕ × Bool} (e, is_some r) (i, false) = cc in ap (λ p. Some p.0) both

    at : (c : FrontConn) → row.stage ≡ c → seat_in x.part.front x.part.nodes c ≡ seat.Over last → row.ended_by ≡ Some (record { 0 = i })
    at (stage.Held b) staged f = absurd cc
    at (stage.Waiting b) staged f = absurd cc
    at stage.Lent staged f = absurd cc
    at (stage.Offering m d) staged f = absurd (away false m d.0 (front_rest x.part.front.rest).count f)
    at (stage.Moved m d) staged f = absurd (away true m d.0 (front_rest x.part.front.rest).count f)
    at (stage.Closed final) staged f =
        let over : whereabouts_of x ≡ Over row.ended_by = ap whereabouts is ∙ ap (stage_whereabouts row.ended_by) staged in
        told-by n i row.ended_by (x.part.nodes n).row (subst (RowTells n (x.part.nodes n).row) over (ends n))
        (tells (tells_end (x.part.nodes n).row) (x.part.nodes n).beside.returned told)
