-- Of the machines within a settle, put together: what its rounds owe, and so its end, where what is given of each connection is so.
use Rattle.std.proofs.Common.{◌≡◌, ◌≤◌, ℕ, false, List, Option, Some, None, Ok, sym, ap, ◌∙◌, subst, Bool}
use Rattle.std.specs.Prelude.{All}
use Rattle.lard_law_view.specs.Prelude.{Config, Conn, Event, Letter, Machine, Move, Rules, Seen, Setting, SpellsMessage, Station, config_check, conn, file_at, grown, is_holding, machine_step, part_of, setting, setting_of, tale_at, which_leave, with_leaving}
use Rattle.lard_bound.specs.Bound.{IsOrdinary, settling_bound}
use Rattle.lard_bound.specs.Progress.{IfCame, IsWarm, came_in}
use Rattle.lard_bound.specs.Units.{Whole, tellers, whole_of}
use Rattle.lard_bound.specs.Seats.{seat_of}
use Rattle.lard_laws.specs.Records.{IsRunFile, IsScheduled}
use Rattle.lard_laws.proofs.RecordsHolding.{Holds}
use Rattle.lard_laws.proofs.RecordsNamed.{AreNamed, files-named}
use Rattle.lard_laws.proofs.RecordsReached.{run-holds}
use Rattle.lard_law_view.proofs.Carried.{reached-viewed}
use Rattle.lard_law_settles.proofs.KnownEverything.{is-set, setting-is}
use Rattle.lard_law_view.proofs.Steps.{IsShown}
use Rattle.lard_law_settles.proofs.CourseOwing.{Owed}
use Rattle.lard_law_settles.proofs.CourseTagging.{tags-fall}
use Rattle.lard_law_settles.proofs.CourseUniting.{Known, rules-owe}
use Rattle.lard_law_settles.proofs.CourseUnwanted.{unwanted}
use Rattle.lard_law_settles.proofs.CourseFetching.{Fetches}
use Rattle.lard_law_settles.proofs.CourseResting.{IsMade, Within, owes}
use Rattle.lard_law_settles.proofs.CourseStocking.{Opened}
use Rattle.lard_history.proofs.Each.{Each, Each-weaker}
use Rattle.lard_law_settles.proofs.KnownCalm as known
use Rattle.lard_law_settles.proofs.KnownEventsGiven.{config-of, settle-given}
use Rattle.lard_law_settles.proofs.KnownNodesGiven.{fetch-opened, front-opened}
use Rattle.lard_law_view.proofs.ByteLists.{each-all}
use Rattle.lard_law_progress.proofs.AnswersForm.{IsLateOn}
use Rattle.lard_law_progress.proofs.AnswersNodeGiven.{NodeGiven}
use Rattle.lard_law_progress.proofs.Given.{IsRoundsSeen}
use Rattle.lard_law_progress.proofs.Most.{IsModest}
use Rattle.lard_law_progress.proofs.Leading.{Comes}
use Rattle.lard_law_settles.proofs.EnoughBeside.{Is}
use Rattle.lard_law_settles.proofs.EnoughFetches.{fetches}
use Rattle.lard_law_settles.proofs.EnoughListed.{listed-always}
use Rattle.lard_law_settles.proofs.EnoughOpened.{opened-there}
use Rattle.lard_law_settles.proofs.EnoughSettled.{EndsQuiet}
use Rattle.lard_law_settles.proofs.EnoughSums.{wholes}
use Rattle.lard_law_settles.proofs.EnoughTiming.{timers-are}
use Rattle.lard_law_settles.proofs.EnoughWarm.{second-late, second-warm}
use Rattle.lard_law_settles.proofs.EnoughWarming.{OfAll, Warming, comes-so, second-stays-so}
use Rattle.lard_law_settles.proofs.EnoughWithin.{AreGiven, IsWithin, SettlesWithin, within-kept, within-quiet}
use Rattle.lard_law_settles.proofs.EnoughWording.{First, IsCalmConn, Second, second-first}
use Rattle.lard_law_settles.proofs.EnoughRuling.{rounds-seen, step-warms}
use Rattle.lard_settling.specs.declared.settled.Settled.{Settled}
use Rattle.lard_settling.specs.Left.{holds_there}
use Rattle.lard_settling.specs.Settling.{settled}
use Rattle.lard_law_view.proofs.Deliveries.{IsHead}
use Rattle.lard_message.specs.declared.message.Body.TheVariants as body

-- ---- what comes

came-also : (P Q : Letter → Type 0) (ss : List Seen) → IfCame P (came_in ss) → ((l : Letter) → P l → Q l) → IfCame Q (came_in ss)
came-also P Q ss h f = go (came_in ss) h where
  go : (o : Option Letter) → IfCame P o → IfCame Q o
  go None h = tt
  go (Some l) h = f l h

module _ (config : Config) (files : List (List ℕ × List ℕ)) (checked : config_check config ≡ Ok tt) (are : All IsRunFile files) (m : Machine) where
  abbrev pub Good : Machine → Type 0
  Good p = IsWithin config files m p × OfAll Second p

  pub events : AreGiven config files
  events p n e reached inner is = settle-given config files checked p n e reached inner is

  -- ---- of a machine within

  module _ (p : Machine) (w : IsWithin config files m p) where
    pub free-tale : (q : ℕ) → (tale_at (conn p q)).touched ≡ false
    free-tale q = known.free-tale config files checked p w.reached q (w.untouched q)

    pub all-events : All IsScheduled w.reached.0
    all-events = each-all IsScheduled w.reached.0 w.given

    pub holds : Holds p
    holds = run-holds config files w.reached.0 p checked are all-events w.reached.1

    pub free-of : (q : ℕ) (st : Station) → (conn p q).part.station ≡ Some st → is_holding st.client ≡ false
    unfolding conn part_of
    free-of q st at = sym (ap holds_there at) ∙ w.free q

    calm : (q : ℕ) → IsCalmConn (conn p q)
    calm q = record {
      calm = λ st at.
          let f = known.client-fits config files checked p w.reached q (w.untouched q) st at in
          record { sound = f.sound; fits = f.fits; bytes = f.bytes; speaks = f.speaks; free = known.open-free st.client (free-of q st at); held = f.held };
      acks = known.acks-fit config files checked p w.reached q (w.untouched q);
      offers = known.offers-kept config files checked p w.reached q;
    }

    modest : (c : ℕ) (s : Station) → (conn p c).part.station ≡ Some s → IsModest (wholes (file_at files) (which_leave m) m.journal c) (tellers (conn p c).part.nodes p.config.nodes) (seat_of (conn p c).part)
    modest c s at = subst (λ (v : Whole). IsModest v (tellers (conn p c).part.nodes p.config.nodes) (seat_of (conn p c).part))
        (λ i. whole_of (file_at files) (w.leaving_same i) (w.wrote_same c i))
        (known.modest-of config files checked p w.reached c (w.untouched c) s at)

    all-fetches : Fetches p
    all-fetches = fetches config files checked p w.reached holds (subst (λ (fs : List (List ℕ × List ℕ)). AreNamed (file_at fs)) (sym (is-set config files p w.reached).files_are) (files-named files are))
        (config-of config files p w.reached) free-tale

    spells-of : (q e r : ℕ) (path bytes : List ℕ) → SpellsMessage q e (body.Fetch r path) bytes → SpellsMessage (conn p q).c e (body.Fetch r path) bytes
    unfolding conn
    spells-of q e r path bytes s = s

    all-opened : Opened p
    all-opened = record {
      offers = λ q i bytes was. front-opened config files checked are w.reached.0 all-events p w.reached.1 (config-of config files p w.reached) q (free-tale q) i bytes was;
      fetches = λ q a i e r path bytes was spells.
          fetch-opened config files checked are w.reached.0 all-events p w.reached.1 (config-of config files p w.reached) q (free-tale q) a i e r path bytes (spells-of q e r path bytes spells) was;
    }

  -- ---- of all of them, where what is given of each connection is so

  abbrev pub k : Setting
  k = with_leaving (setting config files) (which_leave m)

  abbrev Given : Conn → Type 0
  Given x = Known k (wholes (file_at files) (which_leave m) m.journal) x

  module _ (given : (p : Machine) → IsWithin config files m p → (q : ℕ) → Known k (wholes (file_at files) (which_leave m) m.journal) (conn p q)) where
    warming : Warming config files (wholes (file_at files) (which_leave m) m.journal) Good (IsWithin config files m) First Second
    warming = record {
      reached = λ p v. v.reached;
      kept = λ p q e v of is. within-kept config files events m p q e v of is;
      moves = λ p q e v of is. step-warms p q e (reached-viewed config files p v.reached) (calm p v) of is;
      follows = second-first;
    }

    -- all machines within have one setting
    setting-within : (p : Machine) → IsWithin config files m p → k ≡ setting_of p
    setting-within p w = ap (λ (l : ℕ → Bool). with_leaving (setting config files) l) (sym w.leaving_same) ∙ setting-is config files p w.reached

    node-given : (p : Machine) → IsWithin config files m p → (q : ℕ) → NodeGiven (setting_of p) (wholes (file_at files) (which_leave m) m.journal q) (conn p q)
    unfolding conn
    node-given p w q = subst (λ (z : Setting). NodeGiven z (wholes (file_at files) (which_leave m) m.journal q) (conn p q)) (setting-within p w) (given p w q).0.node

    rules : (p : Machine) → IsWithin config files m p → Rules (setting_of p) (Owed Given Comes (wholes (file_at files) (which_leave m) m.journal) (setting_of p))
    rules p w = subst (λ (z : Setting). Rules z (Owed Given Comes (wholes (file_at files) (which_leave m) m.journal) z)) (setting-within p w) (rules-owe k (wholes (file_at files) (which_leave m) m.journal))

    comes : (p n : Machine) (e : Event) → Good p → IsMade p e → machine_step p e ≡ Ok n → (q : ℕ) (v : Move) → IsShown p e (conn p q) v → conn n q ≡ grown (conn p q) v → Comes (conn p q) v
    comes p n e w made is q v s grows =
        let second = comes-so Second p e made.0 made.1 w.1 q v s in
        let sound = (reached-viewed config files p w.0.reached).sound q in
        record {
          inner = Each-weaker (IsHead e) IsRoundsSeen (rounds-seen e made.0) v.heads s.event;
          warm = came-also (Second (conn p q)) (IsWarm (conn p q)) v.heads second (second-warm (conn p q) sound);
          late = came-also (Second (conn p q)) (IsLateOn (conn p q)) v.heads second (second-late (conn p q));
          unwanted = unwanted p n e is (listed-always config files p w.0.reached) q (wholes (file_at files) (which_leave m) m.journal q) (node-given p w.0 q) v s grows;
        }

    goes : (p n : Machine) (e : Event) → Good p → IsMade p e → machine_step p e ≡ Ok n → Good n
    goes p n e w made is = second-stays-so config files (wholes (file_at files) (which_leave m) m.journal) Good (IsWithin config files m) First Second warming p n e w made.0 made.1 is

    within : Within Given Comes (wholes (file_at files) (which_leave m) m.journal) Good
    within = record {
      view = λ p w. reached-viewed config files p w.0.reached;
      rules = λ p w. rules p w.0;
      given = λ p w. given p w.0;
      goes = goes;
      came = comes;
      listed = λ p w. listed-always config files p w.0.reached;
      fetches = λ p w. all-fetches p w.0;
      opened = λ p w. all-opened p w.0;
      tags = λ p n e w step. tags-fall Given Comes (wholes (file_at files) (which_leave m) m.journal) p n e step (node-given p w.0);
      timers = λ p w. timers-are config files checked p w.0.reached;
    }

    settles-within : (w : Is config files m) (rounds : ℕ) → SettlesWithin config files m w rounds
    settles-within w rounds = record {
      calm = calm;
      opened = λ p v c s at. opened-there config files checked p v.reached c (v.untouched c) s at;
      modest = modest;
      owes = owes Given Comes (wholes (file_at files) (which_leave m) m.journal) Good within;
    }

    -- so an ordinary settle with enough rounds ends with nothing left
    pub rested : (w : Is config files m) → Each IsScheduled w.reached.0 → IsOrdinary m.journal → (rounds : ℕ) → settling_bound (file_at files) m.journal ≤ rounds → (n : Machine) (s : Settled) → settled m rounds ≡ Ok (n, s) → EndsQuiet n s
    rested w given ordinary rounds paid n s is = within-quiet config files m w rounds events (settles-within w rounds) given ordinary paid n s is
