-- What a step leaves to be done on a connection, by what all places keep of it.
use Rattle.std.proofs.Common.{◌≡◌, ◌<◌, ◌≤◌, ◌+◌, ℕ, Some, sym, ap, ◌∙◌, arith}
use Rattle.lard_law_view.specs.Prelude.{Conn, FilesAt, Move, Part, Setting, Station, grown}
use Rattle.lard_bound.specs.Progress.{Lasts, spot_with}
use Rattle.lard_bound.specs.Seats.{SeatNow, seat_of}
use Rattle.lard_bound.specs.Spots.{Spot, spot_of}
use Rattle.lard_bound.specs.Units.{Whole, client_left, heard_left, left_to_client, left_with, nodes_left, requests_left, seat_left, units}

-- No unit comes back, and where none goes, the spot is as it was.
pub record Lasting (k : Whole) (K : ℕ) (files : FilesAt) (p : Part) (st : Station) (p' : Part) (st' : Station) : Type 0 where
  pub less : left_with k K p' st' ≤ left_with k K p st
  pub steady : left_with k K p st ≤ left_with k K p' st' → spot_of files p' st' ≡ spot_of files p st

-- what is left by where the connection is, and how many nodes tell an end
abbrev pub left_by : Whole → Station → SeatNow → ℕ → ℕ
left_by k st z t = client_left k st.client + heard_left k st.client z + (seat_left k st.client z + t) + requests_left k z

-- it is somewhere else: a unit goes
pub falls : (k : Whole) (K : ℕ) (files : FilesAt) (p p' : Part) (st : Station) (a z : SeatNow) → seat_of p ≡ a → seat_of p' ≡ z
    → left_by k st z (nodes_left k p'.nodes K) < left_by k st a (nodes_left k p.nodes K) → Lasting k K files p st p' st
falls k K files p p' st a z is now low =
    let w : left_with k K p st ≡ left_by k st a (nodes_left k p.nodes K) = ap (λ (s : SeatNow). left_by k st s (nodes_left k p.nodes K)) is in
    let n : left_with k K p' st ≡ left_by k st z (nodes_left k p'.nodes K) = ap (λ (s : SeatNow). left_by k st s (nodes_left k p'.nodes K)) now in
    record { less = omega (arith, w, n, low); steady = λ up. absurd (omega (arith, up, w, n, low)) }

-- so it is of a move
pub lasts : (k : Setting) (w : Whole) (x : Conn) (v : Move) (st st' : Station) → x.part.station ≡ Some st → v.part.station ≡ Some st' → Lasting w k.nodes k.files x.part st v.part st' → Lasts k w x v
unfolding units
lasts k w x v st st' was is h =
    let a : units w k.nodes x ≡ left_with w k.nodes x.part st = ap (left_to_client w k.nodes x.part) was in
    let b : units w k.nodes (grown x v) ≡ left_with w k.nodes v.part st' = ap (left_to_client w k.nodes v.part) is in
    let l : left_with w k.nodes v.part st' ≤ left_with w k.nodes x.part st = h.less in record {
      less = omega (arith, a, b, l);
      steady = λ up.
          let same : spot_of k.files v.part st' ≡ spot_of k.files x.part st = h.steady (omega (arith, up, a, b)) in
          ap (spot_with k.files (grown x v)) is ∙ ap (λ (t : Spot). Some t) same ∙ sym (ap (spot_with k.files x) was);
    }

-- a connection of which nothing is kept that changes
pub idles : (k : Setting) (w : Whole) (x : Conn) (v : Move) → v.part ≡ x.part → Lasts k w x v
unfolding units
idles k w x v same =
    let a : units w k.nodes (grown x v) ≡ units w k.nodes x = λ i. left_to_client w k.nodes (same i) (same i).station in record {
      less = omega (arith, a);
      steady = λ up. ap (λ (p : Part). spot_with k.files (record { c = x.c; part = p; letters = x.letters; seen = x.seen }) p.station) same;
    }
