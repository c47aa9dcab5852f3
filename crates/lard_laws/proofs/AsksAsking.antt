-- What nodes ask, in every run.
use Rattle.std.proofs.Common.{◌≡◌, ℕ, List, [], ◌∷◌, ◌++◌, length, Option, Some, Ok, refl, sym, ◌∙◌, subst, inl, inr, ⊎_elim}
use Rattle.lard_law_view.specs.Prelude.{Config, Conn, Event, HasRule, IsConnNumber, IsLaw, IsReached, Machine, MayRestOn, Move, OfEach, Rec, Rules, Setting, config_check, conn, grown, machine_start, machine_step, named_in, net_of, own, seen_on, setting, with_leaving}
use Rattle.lard_laws.specs.AsksRuns.{AsksGoOnInSteps}
use Rattle.lard_laws.specs.AsksSent.{AsksGoOn, IsNextAsk, MustAsk, ask_by, last_ask}
use Rattle.lard_laws.proofs.AsksQueues.{Waits, asks-seen, go-on, last-named}
use Rattle.lard_laws.proofs.AsksRows.{IsTold, step-first, step-told}
use Rattle.lard_laws.proofs.AsksSends.{Goes, GoesOn, PartsAsk, Sends, all-send}
use Rattle.lard_law_connections.specs.MotionStory.{of_row, picked}
use Rattle.lard_law_connections.proofs.MotionPicking.{pick}
use Rattle.lard_law_connections.proofs.PlacesRuns.{each-placed}
use Rattle.lard_law_connections.proofs.PlacesTurns.{IsPlaced}
use Rattle.lard_counts.specs.Stores.{jobs}
use Rattle.lard_law_view.proofs.After.{IsAfter, step-after}
use Rattle.lard_law_view.proofs.Carried.{IsOn, carried, carried-keep, goes-on}
use Rattle.lard_law_view.proofs.Fine.{IsFine, fine}
use Rattle.lard_law_view.proofs.Guarded.{both, weaker}
use Rattle.lard_law_view.proofs.InSteps.{seen-step}
use Rattle.lard_law_view.proofs.Runs.{passes-more}
use Rattle.lard_history.proofs.Each.{Each, Each-weaker}
use Rattle.lard_history.proofs.Stepping.{AreLawful, one-more}
use Rattle.lard_message.proofs.Fields.{some_same}

module _ (k : Setting) where
  abbrev All : Conn → Move → Type 0
  All x v = IsFine x v × Goes k x v

  all : Rules k All
  all = both k IsFine (Goes k) (fine k) (all-send k)

  does : (x : Conn) (v : Move) → All x v → MayRestOn IsPlaced x → PartsAsk x → Sends x v
  does x v h may known = h.1 may.given known (h.0 may.number may.sound).0

  asks-law : IsLaw k IsPlaced PartsAsk
  asks-law = record {
    begins = λ c n. record { fresh = λ e less. refl; kept = tt; fetches = tt; stay = tt };
    moves = weaker k All (λ x v. MayRestOn IsPlaced x → PartsAsk x → PartsAsk (grown x v)) (λ x v h may known. (does x v h may known).1) all;
  }

module _ (config : Config) (files : List (List ℕ × List ℕ)) (checked : config_check config ≡ Ok tt) where
  -- what is known at the nodes, in every state
  pub each-asks : OfEach config files PartsAsk
  each-asks = carried config files IsPlaced PartsAsk (λ l. asks-law (with_leaving (setting config files) l)) (each-placed config files checked)

  module _ (m n : Machine) (e : Event) (on : IsOn config files m) (rule : HasRule e) (is : machine_step m e ≡ Ok n) (after : IsAfter m e n) where
    -- the Asks go on, with as many jobs as there may be
    goes : (q : ℕ) → GoesOn q (own q m.journal) (seen_on q (net_of m.journal) after.step)
    unfolding conn
    goes q = seen-step (λ x v. IsConnNumber x.c × All (setting config files) x v) (GoesOn q (own q m.journal)) m n after.step q after.is (λ j d. tt)
        (λ v h. (does (setting config files) (conn m q) v h.1 (record { number = h.0; sound = on.view.sound q; given = each-placed config files checked m on.reached q }) (each-asks m on.reached q)).0)
        (goes-on config files (All (setting config files)) (λ l. all (with_leaving (setting config files) l)) m n e on rule is q)

    abbrev reached : IsReached config files n
    reached = (on.reached.0 ++ e ∷ [], passes-more on.reached.0 (machine_start config files) m n e on.reached.1 rule is)

    module _ (q j d : ℕ) where
      abbrev last : Option (List ℕ)
      last = last_ask j d (own q m.journal)

      abbrev seen : List (List ℕ)
      seen = picked (of_row (ask_by j d)) (seen_on q (net_of m.journal) after.step)

      abbrev IsMine : List ℕ → Type 0
      IsMine bytes = IsTold m.journal n.journal j d bytes × (named_in bytes ≡ Some q)

      -- the last Ask of whatever connection is that of this one
      waits : (bytes : List ℕ) → IsMine bytes → Waits q j d (length (jobs n.journal j)) last bytes
      waits bytes h = ⊎_elim
          (λ (again : (c : ℕ) × (last_ask j d (own c m.journal) ≡ Some bytes)).
          let same : again.0 ≡ q = some_same again.0 q (sym (last-named j d again.0 m.journal bytes again.1) ∙ h.1) in inl (subst (λ (c : ℕ). last_ask j d (own c m.journal) ≡ Some bytes) same again.1))
          (λ new. inr new)
          h.0

      -- and with those that the journal counts
      counted : AsksGoOn (IsNextAsk q d (length (jobs (m.journal ++ after.step) j))) last seen
      counted =
          let told : Each (IsTold m.journal n.journal j d) (pick (ask_by j d) after.step) =
          step-told config files m n reached on.view (λ c. each-placed config files checked m on.reached c) (λ c. each-asks m on.reached c) e after.step after.is rule is j d in
          subst (λ (J : List Rec). AsksGoOn (IsNextAsk q d (length (jobs J j))) last seen) after.is
          (go-on q j d (length (jobs n.journal j)) last seen (goes q j d) (Each-weaker IsMine (Waits q j d (length (jobs n.journal j)) last) waits seen (asks-seen j d q (IsTold m.journal n.journal j d) (net_of m.journal) after.step told)))

    pub step-asks : MustAsk m.journal after.step
    step-asks = record {
      jobs_first = step-first config files m n reached on.view (λ c. each-placed config files checked m on.reached c) (λ c. each-asks m on.reached c) e after.step after.is rule is;
      asks = counted;
    }

pub asks-go-on : AsksGoOnInSteps
asks-go-on config files m checked r = (carried-keep config files (λ k. AreLawful MustAsk k.journal) (refl, tt)
    (λ k n e on lawful rule is.
    let after : IsAfter k e n = step-after k on.view e n rule is in
    subst (AreLawful MustAsk) (sym after.is) (one-more MustAsk k.journal after.step after.one lawful (step-asks config files checked k n e on rule is after)))
    m r).1
