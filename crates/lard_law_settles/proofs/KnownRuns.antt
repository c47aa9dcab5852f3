-- In every state that events lead to, all that is known of a connection that the schedule did not touch is so.
use Rattle.std.proofs.Common.{◌≡◌, ◌≤◌, ℕ, zero, suc, false, List, [], ◌∷◌, length, Option, Some, None, ⊎_elim, refl, sym, ap, ◌∙◌, subst, arith, Ok}
use Rattle.std.specs.Prelude.{slice_get}
use Rattle.lard_law_view.specs.Prelude.{BackRow, Config, Conn, IsConnNumber, IsConnSound, IsReached, IsViewed, Machine, NodeState, Station, blank_conn, config_check, conn, file_at, kept_at, node_at, part_of, setting_of, tale_at, which_leave}
use Rattle.lard_bound.specs.Seats.{seat_of}
use Rattle.lard_bound.specs.Units.{Whole, tellers, whole_of}
pub use Rattle.lard_laws.specs.Acks.{OpenActs, StationActs, story_at}
pub use Rattle.lard_laws.proofs.AcksRuns.{connections-ack}
use Rattle.lard_law_connections.proofs.LeaversStays.{none-leaves}
use Rattle.lard_law_connections.specs.BytesAgreement.{ConnAgrees, IsOpen}
use Rattle.lard_law_connections.proofs.BytesRuns.{states-truthful}
use Rattle.lard_law_connections.proofs.PastRuns.{each-end-is-of-its-stay, each-epoch-is-of-one-node}
use Rattle.lard_law_connections.specs.KeptLaws.{AnyNode}
use Rattle.lard_law_connections.proofs.KeptRuns.{connections-are-kept}
use Rattle.lard_law_connections.proofs.LimitsRuns.{connections-counted}
use Rattle.lard_law_connections.proofs.PlacesRuns.{each-placed}
use Rattle.lard_laws.proofs.WaysRuns.{each-guarded}
use Rattle.lard_law_view.proofs.Carried.{reached-viewed}
use Rattle.lard_law_settles.proofs.KnownAsking.{new-idle, placing-asks}
use Rattle.lard_law_settles.proofs.KnownGiving.{known}
use Rattle.lard_law_settles.proofs.KnownModest.{modest}
use Rattle.lard_law_settles.proofs.KnownReturns.{each-ungiven, each-unrefused}
use Rattle.lard_law_settles.proofs.KnownSmall.{each-small}
use Rattle.lard_law_progress.proofs.Given.{Known}
use Rattle.lard_law_progress.proofs.Most.{IsModest}

-- ---- only nodes that are there keep something

node-counted : (nodes : List NodeState) (n : ℕ) (s : NodeState) → node_at nodes n ≡ Some s → (1 ≤ n) × (n ≤ length nodes)
node-counted nodes zero s e = absurd (let bad : ◌≡◌ {A = Option NodeState} None (Some s) = e in cc)
node-counted nodes (suc i) s e = let l = within nodes i e in (omega arith, omega (arith, l)) where
  within : (xs : List NodeState) (i : ℕ) → slice_get xs i ≡ Some s → suc i ≤ length xs
  within [] i e = absurd (let bad : ◌≡◌ {A = Option NodeState} None (Some s) = e in cc)
  within (x ∷ xs) zero e = omega arith
  within (x ∷ xs) (suc i) e = let l = within xs i e in omega (arith, l)

pub node-there : (m : Machine) (view : IsViewed m) (q n : ℕ) (row : BackRow) → ((conn m q).part.nodes n).row ≡ Some row → (1 ≤ n) × (n ≤ m.config.nodes)
unfolding conn part_of
node-there m view q n row is = go (node_at m.nodes n) refl is where
  go : (o : Option NodeState) → node_at m.nodes n ≡ o → (kept_at q o).row ≡ Some row → (1 ≤ n) × (n ≤ m.config.nodes)
  go None at e = absurd (let bad : ◌≡◌ {A = Option BackRow} None (Some row) = e in cc)
  go (Some s) at e = let l = node-counted m.nodes n s at in let same = view.nodes in (l.0, omega (arith, l.1, same))

-- a client that opened has the number of a connection
pub number-of : (x : Conn) (st : Station) → IsConnSound x → x.part.station ≡ Some st → IsConnNumber x.c
number-of x st sound at = ⊎_elim
    (λ (n : IsConnNumber x.c). n)
    (λ (none : x ≡ blank_conn x.c). absurd (let bad : ◌≡◌ {A = Option Station} (Some st) None = sym at ∙ ap (λ (y : Conn). y.part.station) none in cc))
    sound.number

module _ (config : Config) (files : List (List ℕ × List ℕ)) (checked : config_check config ≡ Ok tt) (m : Machine) (reached : IsReached config files m) (q : ℕ) where
  abbrev x : Conn
  x = conn m q

  pub view : IsViewed m
  view = reached-viewed config files m reached

  abbrev pub written_on : Whole
  written_on = whole_of (file_at files) (which_leave m) (tale_at x).wrote

  pub each-known : (tale_at x).touched ≡ false → (st : Station) → x.part.station ≡ Some st → Known (setting_of m) written_on x st
  each-known free st at =
      let truth = states-truthful config files checked m reached q free in
      let o : IsOpen (file_at files) x truth.talk truth.pend st = subst (ConnAgrees (file_at files) x truth.talk truth.pend) at truth.agrees in
      let acts : OpenActs x st = subst (StationActs x) at (connections-ack config files checked m reached q free) in
      let way = (each-guarded config files checked m reached q).0 free in
      let kept = connections-are-kept config files m reached q in
      let same : written_on ≡ whole_of (file_at files) (which_leave m) truth.talk.w.bytes = ap (whole_of (file_at files) (which_leave m)) o.tale.wrote in
      known (file_at files) x st truth.talk truth.pend o acts config.stream (connections-counted config files checked m reached q) (each-placed config files checked m reached q) (number-of x st (view.sound q) at) written_on same (setting_of m)
      (record {
        leaves = λ n. refl;
        stays = none-leaves m view;
        asks = placing-asks (file_at files) x st truth.talk truth.pend o way kept.front written_on same;
        idle = λ n e new. new-idle AnyNode (file_at files) x.c n e (x.part.nodes n) (kept.nodes n) new;
        there = node-there m view q;
        keeps = kept.front;
        small = each-small config files checked m reached q free;
        unrefused = each-unrefused config files m reached q;
        ungiven = each-ungiven config files m reached q;
      })

  -- so what is left to do on it is bounded
  pub each-modest : (tale_at x).touched ≡ false → (st : Station) → x.part.station ≡ Some st → IsModest written_on (tellers x.part.nodes m.config.nodes) (seat_of x.part)
  each-modest free st at =
      let truth = states-truthful config files checked m reached q free in
      let o : IsOpen (file_at files) x truth.talk truth.pend st = subst (ConnAgrees (file_at files) x truth.talk truth.pend) at truth.agrees in
      let kept = connections-are-kept config files m reached q in
      let same : written_on ≡ whole_of (file_at files) (which_leave m) truth.talk.w.bytes = ap (whole_of (file_at files) (which_leave m)) o.tale.wrote in
      modest written_on AnyNode (file_at files) x st m.config.nodes (each-ungiven config files m reached q)
      (each-end-is-of-its-stay config files checked m reached q) (each-epoch-is-of-one-node config files checked m reached q) kept
      (placing-asks (file_at files) x st truth.talk truth.pend o ((each-guarded config files checked m reached q).0 free) kept.front written_on same)
      (each-known free st at).seat
