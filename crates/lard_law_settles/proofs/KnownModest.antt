-- How much is left to do on a connection is bounded: who tells an end, and what a node keeps of a stay.
use Rattle.std.proofs.Common.{◌≡◌, ◌⊎◌, ◌≤◌, ◌+◌, ◌*◌, ◌==◌, ℕ, zero, suc, Bool, true, false, cond, List, [], ◌∷◌, length, is_some, Option, Some, None, inl, inr, ⊎_elim, refl, sym, ap, ◌∙◌, subst, arith}
use Rattle.std.proofs.lemmas.Bool.{both_ways, cases_eq, cond_both, eq-eqb}
use Rattle.lard_law_view.specs.Prelude.{BackConn, BackRow, Conn, Entry, Epoch, FilesAt, FrontConn, FrontRow, Kept, NodePart, Progress, Station, Stay, front_rest}
use Rattle.lard_bound.specs.Seats.{SeatNow, seat_decided, seat_in, seat_of, seat_over, seat_over_by, seat_there, seat_untaken, stay_of, telling, tells_end}
use Rattle.lard_bound.specs.Units.{Whole, batch_left, progress_left, tellers}
use Rattle.lard_law_connections.specs.Past.{AtFront, AtNode, DecidedIn, EndsAreOfStays, EpochsAreOfOneNode, IsOfStay, Over, RowTells, StageTells, stage_whereabouts, whereabouts, whereabouts_of}
use Rattle.lard_law_connections.specs.Kept.{AsksFor, HereKeeps, IsKeptByStage, NodeRowKeeps, NodeStageKeeps, contents_awaited, awaits_content}
use Rattle.lard_handoff_back.specs.declared.row.BackConn.TheVariants as back
use Rattle.lard_handoff_front.specs.declared.row.FrontConn.TheVariants as stage
use Rattle.lard_law_settles.proofs.KnownKnowing.{IsPlacing}
use Rattle.lard_law_settles.proofs.KnownReturns.{IsUngiven}
use Rattle.lard_rules.specs.declared.stay.Progress.TheVariants as progress
use Rattle.lard_law_progress.proofs.AnswersFrontSpots.{untaken-cases}
use Rattle.lard_law_progress.proofs.Away.{tells}
use Rattle.lard_law_progress.proofs.Given.{SeatKnown}
use Rattle.lard_law_progress.proofs.Most.{IsModest, IsModestStay}
use Rattle.lard_law_progress.proofs.Seating.{seat-at, seat-none}

-- ---- who tells an end

tells-none : (q : NodePart) → q.row ≡ None → tells q ≡ 0
tells-none q e = ap (λ (o : Option BackRow). cond {A = ℕ} (is_some (tells_end o)) 1 0) e

tells-stage : (q : NodePart) (row : BackRow) → q.row ≡ Some row → telling row.stage row.epoch.0 ≡ None → tells q ≡ 0
tells-stage q row e none = ap (λ (o : Option BackRow). cond {A = ℕ} (is_some (tells_end o)) 1 0) e ∙ ap (λ (o : Option ℕ). cond {A = ℕ} (is_some o) 1 0) none

tells-most : (q : NodePart) → tells q ≤ 1
tells-most q = cond_both (is_some (tells_end q.row)) 1 0 (λ n. n ≤ 1) (λ t. omega arith) (λ t. omega arith)

none-tell : (nodes : ℕ → NodePart) (m : ℕ) → ((n : ℕ) → n ≤ m → tells (nodes n) ≡ 0) → tellers nodes m ≡ 0
none-tell nodes zero h = refl
none-tell nodes (suc m) h = let one : tells (nodes (suc m)) ≡ 0 = h (suc m) (omega arith) in let rest = none-tell nodes m (λ n l. h n (omega (arith, l))) in omega (arith, one, rest)

one-tells : (nodes : ℕ → NodePart) (home m : ℕ) → ((n : ℕ) → (n ≡ home → ⊥) → tells (nodes n) ≡ 0) → tellers nodes m ≤ 1
one-tells nodes home zero h = omega arith
one-tells nodes home (suc m) h = ⊎_elim
    (λ (same : suc m ≡ home).
    let most = tells-most (nodes (suc m)) in
    let rest = none-tell nodes m (λ n l. h n (λ (is : n ≡ home). absurd (omega (arith, l, same, is)))) in
    omega (arith, most, rest))
    (λ (other : suc m ≡ home → ⊥).
    let none = h (suc m) other in
    let rest = one-tells nodes home m h in
    omega (arith, none, rest))
    (cases_eq (suc m) home)

-- a node tells one where its stay ended
pub record Tells (q : NodePart) : Type 0 where
  pub row : BackRow
  pub is : q.row ≡ Some row
  pub ended : row.stage ≡ back.Ended

tells-or : (q : NodePart) → (tells q ≡ 0) ⊎ Tells q
tells-or q = go q.row refl where
  at : (row : BackRow) → q.row ≡ Some row → (c : BackConn) → row.stage ≡ c → (tells q ≡ 0) ⊎ Tells q
  at row is back.Ended ended = inr (record { row = row; is = is; ended = ended })
  at row is (back.Here b) stays = inl (tells-stage q row is (ap (λ (c : BackConn). telling c row.epoch.0) stays))
  at row is back.Out stays = inl (tells-stage q row is (ap (λ (c : BackConn). telling c row.epoch.0) stays))
  at row is back.Gone stays = inl (tells-stage q row is (ap (λ (c : BackConn). telling c row.epoch.0) stays))

  go : (o : Option BackRow) → q.row ≡ o → (tells q ≡ 0) ⊎ Tells q
  go None is = inl (tells-none q is)
  go (Some row) is = at row is row.stage refl

silent : (q : NodePart) → (Tells q → ⊥) → tells q ≡ 0
silent q never = ⊎_elim (λ (none : tells q ≡ 0). none) (λ (t : Tells q). absurd (never t)) (tells-or q)

-- where all that tell one are the same node
few-tell : (nodes : ℕ → NodePart) (m : ℕ) → ((a b : ℕ) → Tells (nodes a) → Tells (nodes b) → a ≡ b) → tellers nodes m ≤ 1
few-tell nodes zero one = omega arith
few-tell nodes (suc m) one = ⊎_elim
    (λ (none : tells (nodes (suc m)) ≡ 0). let rest = few-tell nodes m one in omega (arith, none, rest))
    (λ (t : Tells (nodes (suc m))).
    let most = tells-most (nodes (suc m)) in
    let rest = none-tell nodes m (λ n l. silent (nodes n) (λ u. let same : n ≡ suc m = one n (suc m) u t in omega (arith, l, same))) in
    omega (arith, most, rest))
    (tells-or (nodes (suc m)))

-- ---- what a node keeps of a stay

two-each : (es : List Entry) → batch_left es + contents_awaited es ≤ 2 * length es
two-each [] = omega arith
two-each (e ∷ es) = let one = two e.progress in let rest = two-each es in omega (arith, one, rest) where
  two : (p : Progress) → progress_left p + awaits_content p ≤ 2
  two progress.Named = omega arith
  two progress.Reading = omega arith
  two (progress.Awaited node) = omega arith
  two (progress.Ready way) = omega arith

one-asks : (c e number : ℕ) (paths : List (List ℕ)) (ks : List Kept) → AsksFor c e number paths ks → length ks ≤ 1
one-asks c e number [] ks h = let l : length ks ≡ 0 = ap (λ (ks : List Kept). length ks) h in omega (arith, l)
one-asks c e number (path ∷ paths) ks h = let l : length ks ≡ 1 = ap (λ (ks : List Kept). length ks) h.2 in omega (arith, l)

-- ---- a connection

module _ (w : Whole) (N : ℕ → Type 0) (files : FilesAt) (x : Conn) (st : Station) (K : ℕ) (ungiven : IsUngiven x) (ends : EndsAreOfStays x)
    (one : EpochsAreOfOneNode x) (keeps : IsKeptByStage N files x)
    (asks : (row : FrontRow) → x.part.front.row ≡ Some row → IsPlacing row.stage → 1 ≤ w.requests) where
  abbrev nodes : ℕ → NodePart
  nodes = x.part.nodes

  abbrev Bounded : SeatNow → Type 0
  Bounded z = SeatKnown w st.client z → IsModest w (tellers nodes K) z

  -- who tells an end has it of a stay that is where the connection is, or closed it
  ended-of : (n : ℕ) (t : Tells (nodes n)) → IsOfStay n t.row.epoch.0 (whereabouts_of x)
  ended-of n t = subst (λ (c : BackConn). StageTells n t.row.epoch.0 c (whereabouts_of x)) t.ended
      (subst (λ (o : Option BackRow). RowTells n o (whereabouts_of x)) t.is (ends n))

  nobody : whereabouts_of x ≡ AtFront → tellers nodes K ≡ 0
  nobody at = none-tell nodes K (λ n l. silent (nodes n) (λ t. subst (IsOfStay n t.row.epoch.0) at (ended-of n t)))

  -- the last numbers that the front end has are of one epoch
  over-few : (by : Option Epoch) → whereabouts_of x ≡ Over by → tellers nodes K ≤ 1
  over-few by at = few-tell nodes K (λ n m t u.
      let first : by ≡ Some (record { 0 = t.row.epoch.0 }) = subst (IsOfStay n t.row.epoch.0) at (ended-of n t) in
      let second : by ≡ Some (record { 0 = u.row.epoch.0 }) = subst (IsOfStay m u.row.epoch.0) at (ended-of m u) in
      let both : ◌≡◌ {A = Option Epoch} (Some (record { 0 = t.row.epoch.0 })) (Some (record { 0 = u.row.epoch.0 })) = sym first ∙ second in
      let same : u.row.epoch.0 ≡ t.row.epoch.0 = cc in
      one n m t.row.epoch.0 (subst (DecidedIn t.row.epoch.0) (sym t.is) refl) (subst (DecidedIn t.row.epoch.0) (sym u.is) same))

  modest-stay : (n e : ℕ) (o : Option Stay) → HereKeeps N files x.c e n (nodes n) o → (stay_of o).served + length (stay_of o).batch ≤ w.requests
      → IsModestStay w (record { stay = stay_of o; kept = (nodes n).kept; fetches = (nodes n).fetches })
  modest-stay n e None h few = absurd h
  modest-stay n e (Some s) h few = record {
    few = few;
    asks = one-asks x.c e s.asks _ (nodes n).kept h.asks;
    fetches = let a = two-each s.batch in let f = h.few in omega (arith, a, f);
  }

  module _ (told : Bool) (n e count : ℕ) (at_node : whereabouts_of x ≡ AtNode n e) (some : 1 ≤ w.requests) where
    abbrev q : NodePart
    q = nodes n

    others : (m : ℕ) → (m ≡ n → ⊥) → tells (nodes m) ≡ 0
    others m other = silent (nodes m) (λ t.
        let its : IsOfStay m t.row.epoch.0 (AtNode n e) = subst (IsOfStay m t.row.epoch.0) at_node (ended-of m t) in other (sym its.0))

    -- no end is told where only this node may, and does not
    quiet : tells q ≡ 0 → tellers nodes K ≡ 0
    quiet none = none-tell nodes K (λ m l. ⊎_elim
        (λ (same : m ≡ n). ap (λ i. tells (nodes i)) same ∙ none)
        (λ (other : m ≡ n → ⊥). others m other)
        (cases_eq m n))

    over : Bounded (seat_over told n e q)
    over = subst (λ (o : Option ℕ). Bounded (seat_over_by told n e o)) (sym (ungiven n)) (λ known. (one-tells nodes n K others, some))

    there : (row : BackRow) → q.row ≡ Some row → (s : BackConn) → row.stage ≡ s → Bounded (seat_there told n e count q s)
    there row at (back.Here b) is = λ known.
        let none : telling row.stage row.epoch.0 ≡ None = ap (λ (s : BackConn). telling s row.epoch.0) is in
        let kept : HereKeeps N files x.c row.epoch.0 n q q.stay = subst (NodeStageKeeps N files x.c row.epoch.0 n q) is (subst (NodeRowKeeps N files x.c n q) at (keeps.nodes n)) in
        (quiet (tells-stage q row at none), some, modest-stay n row.epoch.0 q.stay kept known.1)
    there row at back.Out is = λ known. (quiet (tells-stage q row at (ap (λ (s : BackConn). telling s row.epoch.0) is)), some)
    there row at back.Ended is = over
    there row at back.Gone is = over

    -- what it decided in another epoch it tells no end of
    elsewhere : (row : BackRow) → q.row ≡ Some row → (row.epoch.0 == e) ≡ false → tells q ≡ 0
    elsewhere row at other = silent q (λ t.
        let its : IsOfStay n t.row.epoch.0 (AtNode n e) = subst (IsOfStay n t.row.epoch.0) at_node (ended-of n t) in
        let rows : Some t.row ≡ Some row = sym t.is ∙ at in
        let one_row : t.row ≡ row = cc in
        let same : row.epoch.0 ≡ e = sym (ap (λ (r : BackRow). r.epoch.0) one_row) ∙ sym its.1 in
        both_ways (row.epoch.0 == e) other (eq-eqb row.epoch.0 e same))

    untaken : tells q ≡ 0 → Bounded (seat_untaken n e count q)
    untaken none = untaken-cases n e count q Bounded (λ known. (quiet none, some)) (λ known. (quiet none, some))

    decided : (o : Option BackRow) → q.row ≡ o → Bounded (seat_decided told n e count q o)
    decided None at = untaken (tells-none q at)
    decided (Some row) at =
        cond_both (row.epoch.0 == e) (seat_there told n e count q row.stage) (seat_untaken n e count q) Bounded (λ t. there row at row.stage refl)
        (λ t. untaken (elsewhere row at t))

  by-stage : (row : FrontRow) → x.part.front.row ≡ Some row → (s : FrontConn) → row.stage ≡ s → Bounded (seat_in x.part.front nodes s)
  by-stage row at s is = go s is where
    where_is : (s : FrontConn) → row.stage ≡ s → whereabouts_of x ≡ stage_whereabouts row.ended_by s
    where_is s is = ap whereabouts at ∙ ap (stage_whereabouts row.ended_by) is

    go : (s : FrontConn) → row.stage ≡ s → Bounded (seat_in x.part.front nodes s)
    go (stage.Held b) is = λ known. nobody (where_is (stage.Held b) is)
    go (stage.Waiting b) is = λ known. (nobody (where_is (stage.Waiting b) is), asks row at (subst IsPlacing (sym is) tt))
    go stage.Lent is = λ known. nobody (where_is stage.Lent is)
    go (stage.Offering n d) is = decided false n d.0 (front_rest x.part.front.rest).count (where_is (stage.Offering n d) is)
        (asks row at (subst IsPlacing (sym is) tt)) (nodes n).row refl
    go (stage.Moved n d) is = decided true n d.0 (front_rest x.part.front.rest).count (where_is (stage.Moved n d) is)
        (asks row at (subst IsPlacing (sym is) tt)) (nodes n).row refl
    go (stage.Closed last) is = λ known. over-few row.ended_by (where_is (stage.Closed last) is)

  pub modest : Bounded (seat_of x.part)
  modest = go x.part.front.row refl where
    go : (o : Option FrontRow) → x.part.front.row ≡ o → Bounded (seat_of x.part)
    go None at = subst Bounded (sym (seat-none x.part at)) (λ known. nobody (ap whereabouts at))
    go (Some row) at = subst Bounded (sym (seat-at x.part row row.stage at refl)) (by-stage row at row.stage refl)
