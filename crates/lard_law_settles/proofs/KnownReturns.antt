-- INTERIM: no connection comes back: no node refuses one, or gives one back.
use Rattle.std.proofs.Common.{◌≡◌, ◌==◌, ℕ, Bool, true, false, cond, List, Option, Some, None, refl, sym, ap, ◌∙◌, subst}
use Rattle.std.proofs.lemmas.Bool.{both_ways, cond_both}
use Rattle.lard_law_view.specs.Prelude.{BackConn, BackRow, Config, Conn, Epoch, FrontConn, FrontRow, NodePart, OfEach, Part, front_rest}
use Rattle.lard_bound.specs.Seats.{Offered, Refused, Returned, SeatNow, seat_away, seat_decided, seat_in, seat_of, seat_over, seat_over_by, seat_there, seat_untaken, telling_by, tells_end, tells_over}
use Rattle.lard_handoff_back.specs.declared.row.BackConn.TheVariants as back
use Rattle.lard_handoff_back.specs.Leaving.{is_this_epoch}
use Rattle.lard_handoff_front.specs.declared.row.FrontConn.TheVariants as stage
use Rattle.lard_law_connections.proofs.LeaversRuns.{each-unreturned}
use Rattle.lard_law_progress.proofs.AnswersFrontSpots.{seat-row}

-- ---- no node refuses a connection, or gives one back: only a node that leaves does

abbrev pub IsUnrefused : Conn → Type 0
IsUnrefused x = (n : ℕ) → (x.part.nodes n).beside.refused ≡ None

abbrev pub IsUngiven : Conn → Type 0
IsUngiven x = (n : ℕ) → (x.part.nodes n).beside.returned ≡ None

pub each-unrefused : (config : Config) (files : List (List ℕ × List ℕ)) → OfEach config files IsUnrefused
each-unrefused config files m reached q = (each-unreturned config files m reached q).unrefused

pub each-ungiven : (config : Config) (files : List (List ℕ × List ℕ)) → OfEach config files IsUngiven
each-ungiven config files m reached q = (each-unreturned config files m reached q).ungiven

-- ---- so no connection is where one comes back from

abbrev IsNoReturn : SeatNow → Type 0
IsNoReturn (Refused n e count) = ⊥
IsNoReturn (Returned told n e served) = ⊥
IsNoReturn _ = Unit {0}

module _ (p : Part) (unrefused : (n : ℕ) → (p.nodes n).beside.refused ≡ None) (ungiven : (n : ℕ) → (p.nodes n).beside.returned ≡ None) where
  away : (told : Bool) (n e count : ℕ) → IsNoReturn (seat_away told n e count (p.nodes n))
  away told n e count = by (p.nodes n).row where
    q : NodePart
    q = p.nodes n

    untaken : IsNoReturn (seat_untaken n e count q)
    untaken = subst (λ (o : Option Epoch). IsNoReturn (cond (is_this_epoch e o) (Refused n e count) (Offered n e count))) (sym (unrefused n)) tt

    over : IsNoReturn (seat_over told n e q)
    over = subst (λ (o : Option ℕ). IsNoReturn (seat_over_by told n e o)) (sym (ungiven n)) tt

    there : (s : BackConn) → IsNoReturn (seat_there told n e count q s)
    there (back.Here b) = tt
    there back.Out = tt
    there back.Ended = over
    there back.Gone = over

    by : (o : Option BackRow) → IsNoReturn (seat_decided told n e count q o)
    by None = untaken
    by (Some row) = cond_both (row.epoch.0 == e) (seat_there told n e count q row.stage) (seat_untaken n e count q) IsNoReturn (λ t. there row.stage)
        (λ t. untaken)

  at : (s : FrontConn) → IsNoReturn (seat_in p.front p.nodes s)
  at (stage.Held b) = tt
  at (stage.Waiting b) = tt
  at stage.Lent = tt
  at (stage.Offering n d) = away false n d.0 (front_rest p.front.rest).count
  at (stage.Moved n d) = away true n d.0 (front_rest p.front.rest).count
  at (stage.Closed last) = tt

  seat-stays : IsNoReturn (seat_of p)
  seat-stays = go p.front.row refl where
    go : (o : Option FrontRow) → p.front.row ≡ o → IsNoReturn (seat_of p)
    go None is = subst IsNoReturn (sym (seat-row p None is)) tt
    go (Some row) is = subst IsNoReturn (sym (seat-row p (Some row) is)) (at row.stage)

  pub never-refused : (n e count : ℕ) → seat_of p ≡ Refused n e count → ⊥
  never-refused n e count is = subst IsNoReturn is seat-stays

  pub never-given : (told : Bool) (n e served : ℕ) → seat_of p ≡ Returned told n e served → ⊥
  never-given told n e served is = subst IsNoReturn is seat-stays

  pub never-told : (n i : ℕ) → tells_over (p.nodes n) ≡ Some (i, true) → ⊥
  never-told n i is = go (tells_end (p.nodes n).row) (sym (ap (telling_by (tells_end (p.nodes n).row)) (ungiven n)) ∙ is) where
    go : (o : Option ℕ) → telling_by o None ≡ Some (i, true) → ⊥
    go None f = let bad : ◌≡◌ {A = Option (ℕ × Bool)} None (Some (i, true)) = f in cc
    go (Some e) f = let both : ◌≡◌ {A = ℕ × Bool} (e, false) (i, true) = cc in both_ways false refl (ap (λ p. p.1) both)
