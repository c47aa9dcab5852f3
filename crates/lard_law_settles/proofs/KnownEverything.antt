-- All that the rules want given holds of each connection of a machine within a settle, where the schedule touched none.
use Rattle.std.proofs.Common.{◌≡◌, ℕ, List, Some, Ok, refl, sym, ap, ◌∙◌, subst, false}
use Rattle.std.specs.Prelude.{All}
use Rattle.lard_law_view.specs.Prelude.{Config, Conn, ControlBlock, IsReached, Machine, Setting, Station, Tale, config_check, conn, file_at, is_touched, setting, setting_of, tale_at, which_leave, with_leaving, wrote}
use Rattle.lard_bound.specs.Seats.{Held, Waiting, seat_of}
use Rattle.lard_bound.specs.Units.{Whole, whole_of}
use Rattle.lard_laws.specs.Records.{IsRunFile, IsScheduled}
use Rattle.lard_laws.proofs.RecordsHolding.{Holds}
use Rattle.lard_laws.proofs.RecordsReached.{run-holds}
use Rattle.lard_law_view.proofs.After.{step-after}
use Rattle.lard_law_view.proofs.Carried.{carried-keep}
use Rattle.lard_law_settles.proofs.KnownFrontRuns.{each-forwarded, each-front}
use Rattle.lard_history.proofs.Tales.{wrote-tale}
use Rattle.lard_law_settles.proofs.KnownCalm.{free-tale, its-tale}
use Rattle.lard_law_settles.proofs.KnownEventsGiven.{config-of}
use Rattle.lard_law_settles.proofs.KnownNodesGiven.{node-given}
use Rattle.lard_law_settles.proofs.KnownRuns.{each-known, written_on}
use Rattle.lard_law_progress.proofs.AnswersClientGiven.{ClientGiven}
use Rattle.lard_law_progress.proofs.AnswersFrontGiven.{AtSeat, IsTalking}
use Rattle.lard_law_progress.proofs.AnswersNodeGiven.{HasIt, NodeGiven}
use Rattle.lard_law_progress.proofs.Given.{Given, Known}
use Rattle.lard_law_progress.proofs.Leading.{AllGiven}

-- ---- settings

-- a machine has the settings with which it began
pub record IsSet (config : Config) (files : List (List ℕ × List ℕ)) (m : Machine) : Type 0 where
  pub config_is : m.config ≡ config
  pub files_are : m.files ≡ files

pub is-set : (config : Config) (files : List (List ℕ × List ℕ)) (m : Machine) → IsReached config files m → IsSet config files m
is-set config files m reached = carried-keep config files (IsSet config files) (record { config_is = refl; files_are = refl })
    (λ k n e on h rule is. let after = step-after k on.view e n rule is in record { config_is = after.config ∙ h.config_is; files_are = after.files ∙ h.files_are }) m reached

-- with its own nodes that leave, they are its setting
pub setting-is : (config : Config) (files : List (List ℕ × List ℕ)) (m : Machine) → IsReached config files m
    → with_leaving (setting config files) (which_leave m) ≡ setting_of m
setting-is config files m reached =
    let s = is-set config files m reached in
    λ i. record { files = file_at (sym s.files_are i); stream = (sym s.config_is i).stream; nodes = (sym s.config_is i).nodes; leaving = which_leave m }

-- ---- a connection

module _ (config : Config) (files : List (List ℕ × List ℕ)) (checked : config_check config ≡ Ok tt) (named : All IsRunFile files) (all : ℕ → Whole) (m : Machine) (reached : IsReached config files m)
    (given : All IsScheduled reached.0) (q : ℕ) (free : is_touched m.journal q ≡ false) (same : all q ≡ whole_of (file_at files) (which_leave m) (wrote m.journal q)) where
  abbrev x : Conn
  x = conn m q

  abbrev k : Setting
  k = with_leaving (setting config files) (which_leave m)

  untouched : (tale_at x).touched ≡ false
  untouched = free-tale config files checked m reached q free

  holds : Holds m
  holds = run-holds config files reached.0 m checked named given reached.1

  -- what its client wrote, as the connection sees it
  abbrev W : Whole
  W = written_on config files checked m reached q

  same-whole : W ≡ all q
  same-whole = ap (λ (bytes : List ℕ). whole_of (file_at files) (which_leave m) bytes) (sym (ap (λ (t : Tale). t.wrote) (its-tale config files checked m reached q)) ∙ sym (wrote-tale m.journal q)) ∙ sym same

  pub known-by : Given k all x
  unfolding conn
  known-by st at =
      let h = each-known config files checked m reached q untouched st at in
      let n : Known k W x st = subst (λ (z : Setting). Known z W x st) (sym (setting-is config files m reached)) h in
      subst (λ (w : Whole). Known k w x st) same-whole n

  -- where endpoints talk with the client, and the client's own half
  pub record Beside : Type 0 where
    pub held : (st : Station) (b : ControlBlock) (count : ℕ) → x.part.station ≡ Some st → seat_of x.part ≡ Held b count → AtSeat (all q) st (Held b count)
    pub waiting : (st : Station) (b : ControlBlock) (count : ℕ) → x.part.station ≡ Some st → seat_of x.part ≡ Waiting b count → AtSeat (all q) st (Waiting b count)
    pub talks : (st : Station) (n e : ℕ) (b : ControlBlock) → x.part.station ≡ Some st → HasIt x n e b → IsTalking st b
    pub client : ClientGiven x

  by-node : Beside → NodeGiven k (all q) x
  by-node beside = subst (λ (w : Whole). NodeGiven k w x) same-whole
      (node-given config files checked named reached.0 given m reached.1 (config-of config files m reached) q untouched beside.talks
      (λ st n e b segment bytes s at has spells was read. each-forwarded config files checked m reached q untouched st at n e b segment bytes s has spells was read))

  pub given-by : Beside → AllGiven k all x
  unfolding conn
  given-by beside = record {
    known = known-by;
    front = each-front config files checked m reached q untouched holds (all q) beside.held beside.waiting;
    node = by-node beside;
    client = beside.client;
  }
