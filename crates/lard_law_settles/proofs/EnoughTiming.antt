-- What is known of timers in every state that events lead to.
use Rattle.std.proofs.Common.{◌≡◌, ℕ, ◌||◌, ◌==◌, nat_eq, Bool, true, false, List, [], ◌∷◌, map, Option, Some, None, Ok, refl, ap, ◌∙◌, arith}
use Rattle.std.proofs.lemmas.Bool.{both_ways, cond_both}
use Rattle.std.proofs.lemmas.Bool.Decides.{nat_tests}
use Rattle.std.specs.FinMap as table
use Rattle.std.specs.List.{list_any}
use Rattle.lard_base.proofs.Usable.{usable}
use Rattle.lard_law_view.specs.Prelude.{BackConn, BackRow, Config, ControlBlock, FrontConn, FrontPart, FrontRow, IsReached, Machine, NodePart, config_check, front_part, front_rest, is_of, is_waiting, line_waits, machine_start, part_of}
use Rattle.lard_bound.specs.Seats.{SeatNow, Waiting, seat_away, seat_by, seat_decided, seat_in, seat_of, seat_there, seat_untaken}
use Rattle.lard_law_connections.proofs.LineRuns.{line-is-kept, line-is-of-those-who-wait}
use Rattle.lard_law_connections.specs.LineLaws.{waits_there}
use Rattle.lard_laws.proofs.StepsTimers.{timers-kept}
use Rattle.lard_law_view.proofs.Carried.{reached-viewed}
use Rattle.lard_law_view.proofs.Runs.{passes-keep}
use Rattle.lard_law_progress.proofs.AnswersFrontSpots.{over-cases, untaken-cases}
use Rattle.lard_law_settles.proofs.CourseBeginning.{Timers}
use Rattle.lard_dispatch.specs.declared.line.Waiting as line
use Rattle.lard_handoff_back.specs.declared.row.BackConn.TheVariants as back
use Rattle.lard_handoff_front.specs.declared.row.FrontConn.TheVariants as stage
use Rattle.lard_history.proofs.Seeing.{by_number}
use Rattle.lard_law_settles.proofs.SettlesFew.{config-is}
use Rattle.lard_law_settles.proofs.SettlesSeats.{seats-named}
use Rattle.lard_settling.specs.Written.{IsWrittenOut}
use Rattle.lard_settling.proofs.Written.{written}

-- a run without settles is one with none
pub reached-written : (config : Config) (files : List (List ℕ × List ℕ)) (m : Machine) → IsReached config files m → IsWrittenOut config files m
reached-written config files m r =
    passes-keep (IsWrittenOut config files) (λ k n e w rule is. (written config files).steps k n e w rule is) r.0 (machine_start config files) m r.1 (written config files).begins

-- ---- where it waits

abbrev waits_in : SeatNow → Bool
waits_in (Waiting b count) = true
waits_in _ = false

there-not : (told : Bool) (n e count : ℕ) (p : NodePart) (s : BackConn) → waits_in (seat_there told n e count p s) ≡ false
there-not told n e count p (back.Here b) = refl
there-not told n e count p back.Out = refl
there-not told n e count p back.Ended = over-cases told n e p (λ z. waits_in z ≡ false) refl (λ served. refl)
there-not told n e count p back.Gone = over-cases told n e p (λ z. waits_in z ≡ false) refl (λ served. refl)

away-not : (told : Bool) (n e count : ℕ) (p : NodePart) → waits_in (seat_away told n e count p) ≡ false
away-not told n e count p = go p.row where
  go : (o : Option BackRow) → waits_in (seat_decided told n e count p o) ≡ false
  go None = untaken-cases n e count p (λ z. waits_in z ≡ false) refl refl
  go (Some row) = cond_both (row.epoch.0 == e) (seat_there told n e count p row.stage) (seat_untaken n e count p) (λ z. waits_in z ≡ false)
      (λ t. there-not told n e count p row.stage)
      (λ t. untaken-cases n e count p (λ z. waits_in z ≡ false) refl refl)

in-waits : (f : FrontPart) (nodes : ℕ → NodePart) (s : FrontConn) → waits_in (seat_in f nodes s) ≡ true → is_waiting s ≡ true
in-waits f nodes (stage.Waiting b) h = refl
in-waits f nodes (stage.Offering n e) h = absurd (both_ways (waits_in (seat_in f nodes (stage.Offering n e))) (away-not false n e.0 (front_rest f.rest).count (nodes n)) h)
in-waits f nodes (stage.Moved n e) h = absurd (both_ways (waits_in (seat_in f nodes (stage.Moved n e))) (away-not true n e.0 (front_rest f.rest).count (nodes n)) h)
in-waits f nodes _ h = h

by-waits : (f : FrontPart) (nodes : ℕ → NodePart) (o : Option FrontRow) → waits_in (seat_by f nodes o) ≡ true → waits_there o ≡ true
by-waits f nodes None h = h
by-waits f nodes (Some row) h = in-waits f nodes row.stage h

-- one whose seat waits does so at the front end
seat-waits : (m : Machine) (c : ℕ) → waits_in (seat_of (part_of m c)) ≡ true → waits_there (table.get m.front.conns c) ≡ true
unfolding seat_of part_of
seat-waits m c h = by-waits (front_part m.front c) (part_of m c).nodes (table.get m.front.conns c) h

-- the line, by the numbers of its connections
line-same : (c : ℕ) (ws : List line.Waiting) → line_waits ws c ≡ list_any (nat_eq c) (map (λ w. w.c) ws)
line-same c [] = refl
line-same c (w ∷ ws) = (λ i. is-of c w i || line-same c ws i) where
  is-of : (c : ℕ) (w : line.Waiting) → is_of c w ≡ nat_eq c w.c
  is-of c w = by_number (is_of c w ≡ nat_eq c w.c) c w.c
      (λ same. grind (arith, nat_tests, same))
      (λ other. grind (arith, nat_tests, other))

module _ (config : Config) (files : List (List ℕ × List ℕ)) (checked : config_check config ≡ Ok tt) (m : Machine) (r : IsReached config files m) where
  in-line : (c : ℕ) (b : ControlBlock) (count : ℕ) → seat_of (part_of m c) ≡ Waiting b count → line_waits m.front.dispatch.books.line c ≡ true
  in-line c b count is =
      let there : waits_there (table.get m.front.conns c) ≡ true = seat-waits m c (ap waits_in is) in
      line-same c m.front.dispatch.books.line
      ∙ ap (λ (cs : List ℕ). list_any (nat_eq c) cs) (line-is-kept config files m checked r)
      ∙ line-is-of-those-who-wait config files m checked r c ∙ there

  pub timers-are : Timers m
  timers-are = record {
    kept = timers-kept config files m r;
    seats = seats-named config files m checked (reached-written config files m r);
    few = let same : m.config.nodes ≡ config.nodes = ap (λ (c : Config). c.nodes) (config-is config files m r) in let few = (usable config checked).nodes in omega (arith, same, few);
    nodes = (reached-viewed config files m r).nodes;
    line = in-line;
  }
