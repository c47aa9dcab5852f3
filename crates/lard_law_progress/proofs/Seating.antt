-- Where a connection is by the front end's row; a step in which it stays where it was; and what a rule owes of its deed.
use Rattle.std.proofs.Common.{◌≡◌, ◌≤◌, ◌+◌, ◌==◌, ℕ, Bool, true, false, List, Option, Some, None, refl, ap, ◌∙◌, arith}
use Rattle.std.proofs.lemmas.Bool.{cond-false}
use Rattle.std.proofs.lemmas.Bool.Decides.{nat_tests}
use Rattle.lard_law_view.specs.Prelude.{BackRow, ControlBlock, Epoch, FilesAt, Final, FrontConn, FrontEnv, FrontPart, FrontRest, FrontRow, NodePart, Part, Service, Station, front_rest, front_rests, offering, symbols, with_front, with_node}
use Rattle.lard_bound.specs.Seats.{Held, Offered, Over, Refused, SeatNow, Unborn, Waiting, seat_away, seat_by, seat_decided, seat_in, seat_of, seat_there, seat_untaken, tells_over}
use Rattle.lard_bound.specs.Spots.{post_of, spot_of}
use Rattle.lard_bound.specs.Units.{Whole, left_with, nodes_left}
use Rattle.lard_handoff_back.specs.Leaving.{is_this_epoch}
use Rattle.lard_rules.specs.Front as front
use Rattle.lard_handoff_front.specs.declared.row.FrontConn.TheVariants as stage
use Rattle.lard_rules.specs.Node as node
use Rattle.lard_law_progress.proofs.Given.{IsDecidedWithin, IsRefusedWithin, IsWithin, SeatKnown}
use Rattle.lard_law_progress.proofs.Less.{Lasting, left_by}
use Rattle.lard_rules.specs.declared.places.Ending.TheVariants as ending

-- ---- by the row

pub seat-none : (p : Part) → p.front.row ≡ None → seat_of p ≡ Unborn
unfolding seat_of
seat-none p at = ap (seat_by p.front p.nodes) at

pub seat-at : (p : Part) (row : FrontRow) (s : FrontConn) → p.front.row ≡ Some row → row.stage ≡ s → seat_of p ≡ seat_in p.front p.nodes s
unfolding seat_of
seat-at p row s at is = ap (seat_by p.front p.nodes) at ∙ ap (seat_in p.front p.nodes) is

-- ---- behind a turn of the front end

pub seat-held : (p : Part) (f : FrontPart) (row : FrontRow) (rest : FrontRest) (d : ControlBlock) (n : ℕ) → seat_of (with_front p (front_rests f row rest stage.Held (ending.Here d n))) ≡ Held d n
unfolding seat_of
seat-held p f row rest d n = refl

pub seat-waits : (p : Part) (f : FrontPart) (row : FrontRow) (rest : FrontRest) (d : ControlBlock) (n : ℕ) → seat_of (with_front p (front_rests f row rest stage.Waiting (ending.Here d n))) ≡ Waiting d n
unfolding seat_of
seat-waits p f row rest d n = refl

pub seat-over : (p : Part) (f : FrontPart) (row : FrontRow) (rest : FrontRest) (stays : ControlBlock → FrontConn) (last : Final) → seat_of (with_front p (front_rests f row rest stays (ending.Over last))) ≡ Over last
unfolding seat_of
seat-over p f row rest stays last = refl

-- no node has decided of the epoch that follows
other : (a b : ℕ) → a ≤ b → (a == (b + 1)) ≡ false
other a b l = grind (arith, nat_tests, l)

unrefused : (e : ℕ) (o : Option Epoch) → IsRefusedWithin e o → is_this_epoch (e + 1) o ≡ false
unrefused e None h = refl
unrefused e (Some d) h = other d.0 e h

untaken : (n e count : ℕ) (q : NodePart) → IsRefusedWithin e q.beside.refused → seat_untaken n (e + 1) count q ≡ Offered n (e + 1) count
untaken n e count q h = cond-false (is_this_epoch (e + 1) q.beside.refused) (Refused n (e + 1) count) (Offered n (e + 1) count)
    (unrefused e q.beside.refused h)

undecided : (told : Bool) (n e count : ℕ) (q : NodePart) (o : Option BackRow) → IsWithin e o → IsRefusedWithin e q.beside.refused
    → seat_decided told n (e + 1) count q o ≡ Offered n (e + 1) count
undecided told n e count q None h u = untaken n e count q u
undecided told n e count q (Some r) h u =
    cond-false (r.epoch.0 == (e + 1)) (seat_there told n (e + 1) count q r.stage) (seat_untaken n (e + 1) count q) (other r.epoch.0 e h)
    ∙ untaken n e count q u

pub seat-offering : (p : Part) (env : FrontEnv) (row : FrontRow) (w : Service) (path : List ℕ) (n : ℕ) → IsDecidedWithin row.epoch.0 (p.nodes n)
    → seat_of (with_front p (offering env row w path n)) ≡ Offered n (row.epoch.0 + 1) w.count
unfolding seat_of
seat-offering p env row w path n h = undecided false n row.epoch.0 w.count (p.nodes n) (p.nodes n).row h.0 h.1

-- ---- it stays where it is

module _ (w : Whole) (K : ℕ) (files : FilesAt) (p : Part) (st : Station) where
  pub front-stays : (f : FrontPart) → seat_of (with_front p f) ≡ seat_of p → Lasting w K files p st (with_front p f) st
  unfolding spot_of
  front-stays f same = record {
    less = let e : left_with w K (with_front p f) st ≡ left_with w K p st = ap (λ (s : SeatNow). left_by w st s (nodes_left w p.nodes K)) same in omega (arith, e);
    steady = λ up i. record {
      phase = st.client.phase;
      isn = st.client.send.iss;
      iss = st.iss;
      una = st.client.send.una;
      last = symbols st.client.send;
      post = post_of files st.client (same i);
      telling = λ z. tells_over (p.nodes z);
    };
  }

  -- where so many responses were queued as before, and the row is the same
  counts : (f : FrontPart) → (front_rest f.rest).count ≡ (front_rest p.front.rest).count → (o : Option FrontRow) → seat_by f p.nodes o ≡ seat_by p.front p.nodes o
  counts f same None = refl
  counts f same (Some row) = go row.stage where
    go : (s : FrontConn) → seat_in f p.nodes s ≡ seat_in p.front p.nodes s
    go (stage.Held b) = ap (λ n. Held b n) same
    go (stage.Waiting b) = ap (λ n. Waiting b n) same
    go stage.Lent = refl
    go (stage.Offering n e) = ap (λ c. seat_away false n e.0 c (p.nodes n)) same
    go (stage.Moved n e) = ap (λ c. seat_away true n e.0 c (p.nodes n)) same
    go (stage.Closed last) = refl

  pub seat-counts : (f : FrontPart) → (front_rest f.rest).count ≡ (front_rest p.front.rest).count → f.row ≡ p.front.row → seat_of (with_front p f) ≡ seat_of p
  unfolding seat_of
  seat-counts f same rows = ap (seat_by f p.nodes) rows ∙ counts f same p.front.row

  -- ---- what a rule owes of its deed, where all that is known holds behind it

  abbrev pub FrontLasts : front.FrontDeed → Type 0
  FrontLasts front.Drops = Unit {0}
  FrontLasts (front.Says turn) = Unit {0}
  FrontLasts (front.Does did) = SeatKnown w st.client (seat_of (with_front p did.part)) → Lasting w K files p st (with_front p did.part) st

  abbrev pub NodeLasts : ℕ → node.NodeDeed → Type 0
  NodeLasts n node.Drops = Unit {0}
  NodeLasts n (node.Says messages) = Unit {0}
  NodeLasts n (node.Does given) = SeatKnown w st.client (seat_of (with_node p n given.0)) → Lasting w K files p st (with_node p n given.0) st
