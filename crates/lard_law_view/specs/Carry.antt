-- What a law of one connection owes, to be a law of every run of the cluster's machine.
use Rattle.std.specs.Prelude.{◌≡◌, ℕ, false, List, []}
use Rattle.lard_base.specs.declared.config.Config.{Config}
use Rattle.lard_base.specs.declared.event.Event.{Event}
use Rattle.lard_rules.specs.declared.machine.Machine.{Machine}
use Rattle.lard_rules.specs.Bounds.{IsConnNumber}
use Rattle.lard_rules.specs.Machine.{IsReached}
use Rattle.lard_law_view.specs.View.{Conn, IsConnSound, Rules, Setting, UntouchedRules, blank_conn, conn, grown, seen_in}
use Rattle.lard_files.specs.Files.{file_at}
use Rattle.lard_history.specs.Journal.{Tale}
use Rattle.lard_history.specs.Own.{EachRow, Seen, tale_of}
use Rattle.lard_journal.specs.declared.rec.Rec.{Rec}
use Rattle.lard_journal.specs.declared.rec.Rec.TheVariants as rec
pub use Rattle.lard_law_view.specs.WhileUntouched.{TellsBy, WhileUntouched}

-- at the beginning no node leaves
abbrev pub setting : Config → List (List ℕ × List ℕ) → Setting
setting config files = record { files = file_at files; stream = config.stream; nodes = config.nodes; leaving = λ n. false }

-- it is so of each connection in every state that events lead to
abbrev pub OfEach : Config → List (List ℕ × List ℕ) → (Conn → Type 0) → Type 0
OfEach config files Inv = (m : Machine) → IsReached config files m → (q : ℕ) → Inv (conn m q)

-- What a law may rest on where connection x moves: its number is one of a connection, it is sound, and what is given holds.
pub record MayRestOn (Given : Conn → Type 0) (x : Conn) : Type 0 where
  pub number : IsConnNumber x.c
  pub sound : IsConnSound x
  pub given : Given x

-- Of a connection: it holds of what is blank, and each rule keeps it; where other laws are given.
pub record IsLaw (k : Setting) (Given Inv : Conn → Type 0) : Type 0 where
  pub begins : (c : ℕ) → Inv (blank_conn c)
  pub moves : Rules k (λ x v. MayRestOn Given x → Inv x → Inv (grown x v))

-- Of the step in which a connection moves: what it sees of the past and of the step must be so.
pub record IsStepLaw (k : Setting) (Given : Conn → Type 0) (must : ℕ → List Seen → List Seen → Type 0) : Type 0 where
  pub still : (c : ℕ) (past : List Seen) → must c past []
  pub moves : Rules k (λ x v. MayRestOn Given x → must x.c x.seen (seen_in x v))

-- ---- laws of connections that the schedule did not touch

-- what is told of a connection
abbrev pub tale_at : Conn → Tale
tale_at x = tale_of x.c x.seen

-- Of a connection as long as the schedule did not touch it: it holds of what is blank, and each rule keeps it.
pub record IsUntouchedLaw (k : Setting) (Given Inv : Conn → Type 0) : Type 0 where
  pub begins : (c : ℕ) → Inv (blank_conn c)
  pub moves : UntouchedRules k (λ x v. MayRestOn Given x → (tale_at x).touched ≡ false → Inv x → Inv (grown x v))

-- what holds of each connection that the schedule did not touch
abbrev pub Untouched : (Conn → Type 0) → Conn → Type 0
Untouched Inv x = (tale_at x).touched ≡ false → Inv x

-- The same with a law of its records: each rule keeps what holds, and all that is seen of its step may stand.
pub record IsGuardedLaw (k : Setting) (Given Inv : Conn → Type 0) (mine : ℕ → List Seen → Rec → Type 0) : Type 0 where
  pub begins : (c : ℕ) → Inv (blank_conn c)
  pub events : (c : ℕ) (past : List Seen) (e : Event) → mine c past (rec.Event 0 e)
  pub injected : (c : ℕ) (past : List Seen) → mine c past (rec.Injected c)
  pub moves : UntouchedRules k (λ x v. MayRestOn Given x → (tale_at x).touched ≡ false → Inv x → Inv (grown x v) × EachRow (mine x.c) x.seen (seen_in x v))

-- what holds of each connection: Inv while it is untouched, and the law of its records
abbrev pub Guarded : (Conn → Type 0) → (ℕ → List Seen → Rec → Type 0) → Conn → Type 0
Guarded Inv mine x = Untouched Inv x × EachRow (WhileUntouched mine x.c) [] x.seen
