-- What is proved of the view: each connection goes by a rule or stays, and what each rule keeps holds in every run.
use Rattle.std.specs.Prelude.{◌≡◌, ℕ, Bool, true, List, [], Some, None, Ok}
use Rattle.lard_base.specs.declared.config.Config.{Config}
use Rattle.lard_base.specs.declared.event.Event.{Event}
use Rattle.lard_rules.specs.declared.machine.Machine.{Machine}
use Rattle.lard_rules.specs.Bounds.{HasRule, IsConnNumber}
use Rattle.lard_rules.specs.Machine.{IsReached, machine_step}
use Rattle.lard_law_view.specs.Carry.{Guarded, IsGuardedLaw, IsLaw, IsStepLaw, IsUntouchedLaw, OfEach, Untouched, setting}
use Rattle.lard_law_view.specs.View.{Conn, GoesBy, IsViewed, Move, Rules, Setting, conn, setting_of, with_leaving}
use Rattle.lard_history.specs.Laws.{EachMay}
use Rattle.lard_history.specs.Own.{EachRow, Seen, net_of, own, plain, seen_on, whose}
use Rattle.lard_history.specs.Steps.{EachStep, steps}
use Rattle.lard_journal.specs.declared.rec.Rec.{Rec}

-- In a step each connection is as before, or grown by a move of which P is so, if P is so of the move of each rule.
abbrev pub StepsMove : Type 1
StepsMove = (m n : Machine) (e : Event) (P : Conn → Move → Type 0) → IsViewed m → Rules (setting_of m) P → HasRule e → machine_step m e ≡ Ok n
    → (q : ℕ) → GoesBy (λ x v. IsConnNumber x.c × P x v) (conn m q) (conn n q)

-- What the view rests on holds in every state that events lead to.
abbrev pub IsViewedAlways : Type 0
IsViewedAlways = (config : Config) (files : List (List ℕ × List ℕ)) (m : Machine) → IsReached config files m → IsViewed m

-- A law of one connection is a law of each, in every state that events lead to: it is one whichever nodes leave.
abbrev pub Carries : Type 1
Carries = (config : Config) (files : List (List ℕ × List ℕ)) (Given Inv : Conn → Type 0) → ((l : ℕ → Bool) → IsLaw (with_leaving (setting config files) l) Given Inv)
    → OfEach config files Given → OfEach config files Inv

-- What the move of each rule must hold, each step of the journal holds, once that is so where it is so of what each connection sees.
abbrev pub CarriesSteps : Type 1
CarriesSteps = (config : Config) (files : List (List ℕ × List ℕ)) (Given : Conn → Type 0) (must : List Rec → List Rec → Type 0) (own_must : ℕ → List Seen → List Seen → Type 0)
    → ((past s : List Rec) → ((c : ℕ) → own_must c (own c past) (seen_on c (net_of past) s)) → must past s)
    → ((l : ℕ → Bool) → IsStepLaw (with_leaving (setting config files) l) Given own_must) → OfEach config files Given
    → (m : Machine) → IsReached config files m → EachStep must [] (steps m.journal)

-- What each connection's own records may say, the journal may say.
abbrev pub CarriesRecords : Type 1
CarriesRecords = (config : Config) (files : List (List ℕ × List ℕ)) (may : List Rec → Rec → Type 0) (mine : ℕ → List Seen → Rec → Type 0)
    → ((J : List Rec) (r : Rec) → whose r ≡ None → may J r) → ((J : List Rec) (r : Rec) (c : ℕ) → whose r ≡ Some c → mine c (own c J) (plain r) → may J r)
    → ((m : Machine) → IsReached config files m → (q : ℕ) → EachRow (mine q) [] (conn m q).seen) → (m : Machine) → IsReached config files m → EachMay may [] m.journal

-- A law of connections that the schedule did not touch is a law, and so is one with a law of its records.
abbrev pub UntouchedIsLaw : Type 1
UntouchedIsLaw = (k : Setting) (Given Inv : Conn → Type 0) → IsUntouchedLaw k Given Inv → IsLaw k Given (Untouched Inv)

abbrev pub GuardedIsLaw : Type 1
GuardedIsLaw = (k : Setting) (Given Inv : Conn → Type 0) (mine : ℕ → List Seen → Rec → Type 0) → IsGuardedLaw k Given Inv mine → IsLaw k Given (Guarded Inv mine)

-- ---- the same of tests, since a contract cannot range over facts

abbrev pub PassesTest : (Conn → Move → Bool) → Conn → Move → Type 0
PassesTest test x v = test x v ≡ true

abbrev pub HoldsTest : (Conn → Bool) → Conn → Type 0
HoldsTest test x = test x ≡ true

-- What passes each rule's move, passes the move of each connection that does not stay as it is.
abbrev pub ConnectionsGoByRules : Type 0
ConnectionsGoByRules = (m n : Machine) (e : Event) (test : Conn → Move → Bool) → IsViewed m → Rules (setting_of m) (PassesTest test) → HasRule e → machine_step m e ≡ Ok n
    → (q : ℕ) → GoesBy (λ x v. IsConnNumber x.c × PassesTest test x v) (conn m q) (conn n q)

-- What each rule keeps, holds of each connection in every state.
abbrev pub LawsAreCarried : Type 0
LawsAreCarried = (config : Config) (files : List (List ℕ × List ℕ)) (given inv : Conn → Bool) → ((l : ℕ → Bool) → IsLaw (with_leaving (setting config files) l) (HoldsTest given) (HoldsTest inv))
    → OfEach config files (HoldsTest given) → OfEach config files (HoldsTest inv)

-- What the move of each rule holds, each step of the journal holds.
abbrev pub StepLawsAreCarried : Type 0
StepLawsAreCarried = (config : Config) (files : List (List ℕ × List ℕ)) (given : Conn → Bool) (must : List Rec → List Rec → Bool) (own_must : ℕ → List Seen → List Seen → Bool)
    → ((past s : List Rec) → ((c : ℕ) → own_must c (own c past) (seen_on c (net_of past) s) ≡ true) → must past s ≡ true)
    → ((l : ℕ → Bool) → IsStepLaw (with_leaving (setting config files) l) (HoldsTest given) (λ c past s. own_must c past s ≡ true)) → OfEach config files (HoldsTest given)
    → (m : Machine) → IsReached config files m → EachStep (λ past s. must past s ≡ true) [] (steps m.journal)
