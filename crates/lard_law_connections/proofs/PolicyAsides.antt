-- Records that say nothing of admission, loads and server sets, and what may stand behind what a ledger says.
use Rattle.std.proofs.Common.{◌≡◌, ℕ, List, [], ◌∷◌, ◌++◌, Option, Some, None, refl, sym, ap, ◌∙◌, subst}
use Rattle.std.proofs.lemmas.List.Sums.{fold-append}
use Rattle.std.specs.List.{fold}
use Rattle.lard_law_view.specs.Prelude.{Client, Config, EachMay, Front, Node, Place, Rec}
use Rattle.lard_law_view.proofs.Saying.{NamesNobody, NotedAt}
use Rattle.lard_law_connections.proofs.Calm.{Allows, AllowsNotes}
use Rattle.lard_law_connections.proofs.Forms.{IsNoFront}
use Rattle.lard_law_connections.specs.PolicyLaws.{ArePaired, AssignmentDue, MayAdmit, MayAssign, MayRelease, MayShare, but_closed_step, last_but_closed, last_record}
use Rattle.lard_law_connections.specs.PolicyLaws.AssignmentDue.{First, Later, Nothing}
use Rattle.lard_counts.specs.Ledger.{Ledger, blank_ledger, ledger, ledger_step}
use Rattle.lard_history.proofs.Each.{Each}
use Rattle.lard_journal.specs.declared.rec.Rec.TheVariants as rec

-- ---- both laws at once, over a ledger that goes on record by record

abbrev pub May : Config → Ledger → Rec → Type 0
May cfg l r = MayAdmit cfg l r × MayAssign cfg l r

abbrev pub EachFrom : (Ledger → Rec → Type 0) → Ledger → List Rec → Type 0
EachFrom may l [] = Unit {0}
EachFrom may l (r ∷ rs) = may l r × EachFrom may (ledger_step l r) rs

pub from-append : (may : Ledger → Rec → Type 0) (l : Ledger) (xs ys : List Rec) → EachFrom may l xs → EachFrom may (fold ledger_step l xs) ys → EachFrom may l (xs ++ ys)
from-append may l [] ys e f = f
from-append may l (x ∷ xs) ys e f = (e.0, from-append may (ledger_step l x) xs ys e.1 f)

-- so it is of a journal, behind its past
pub from-may : (cfg : Config) (may : Ledger → Rec → Type 0) (past rs : List Rec) → EachFrom may (ledger cfg past) rs → EachMay (λ past r. may (ledger cfg past) r) past rs
from-may cfg may past [] e = tt
from-may cfg may past (r ∷ rs) e = (e.0, from-may cfg may (past ++ r ∷ []) rs (subst (λ (l : Ledger). EachFrom may l rs) (sym (fold-append ledger_step (blank_ledger cfg) past (r ∷ []))) e.1))

-- and back
pub may-from : (cfg : Config) (may : Ledger → Rec → Type 0) (past rs : List Rec) → EachMay (λ past r. may (ledger cfg past) r) past rs → EachFrom may (ledger cfg past) rs
may-from cfg may past [] e = tt
may-from cfg may past (r ∷ rs) e = (e.0, subst (λ (l : Ledger). EachFrom may l rs) (fold-append ledger_step (blank_ledger cfg) past (r ∷ [])) (may-from cfg may (past ++ r ∷ []) rs e.1))

-- ---- what stands before: the last record, and the last that closes no node

abbrev pub MayFollow : Option Rec → Option Rec → Ledger → Rec → Type 0
MayFollow before but_closed l r = MayShare before l r × MayRelease but_closed r

abbrev pub EachAfter : Option Rec → Option Rec → Ledger → List Rec → Type 0
EachAfter before but_closed l [] = Unit {0}
EachAfter before but_closed l (r ∷ rs) = MayFollow before but_closed l r × EachAfter (Some r) (but_closed_step but_closed r) (ledger_step l r) rs

pub after-append : (before but_closed : Option Rec) (l : Ledger) (xs ys : List Rec) → EachAfter before but_closed l xs → ((o p : Option Rec) → EachAfter o p (fold ledger_step l xs) ys) → EachAfter before but_closed l (xs ++ ys)
after-append before but_closed l [] ys e f = f before but_closed
after-append before but_closed l (x ∷ xs) ys e f = (e.0, after-append (Some x) (but_closed_step but_closed x) (ledger_step l x) xs ys e.1 f)

pub after-may : (cfg : Config) (past rs : List Rec) → EachAfter (last_record past) (last_but_closed past) (ledger cfg past) rs → EachMay (λ past r. MayFollow (last_record past) (last_but_closed past) (ledger cfg past) r) past rs
after-may cfg past [] e = tt
after-may cfg past (r ∷ rs) e = (
  e.0,
  after-may cfg (past ++ r ∷ []) rs (subst (λ (o : Option Rec). EachAfter o (last_but_closed (past ++ r ∷ [])) (ledger cfg (past ++ r ∷ [])) rs) (sym (fold-append (λ (before : Option Rec) (r : Rec). Some r) None past (r ∷ [])))
      (subst (λ (o : Option Rec). EachAfter (Some r) o (ledger cfg (past ++ r ∷ [])) rs) (sym (fold-append but_closed_step None past (r ∷ [])))
      (subst (λ (l : Ledger). EachAfter (Some r) (but_closed_step (last_but_closed past) r) l rs) (sym (fold-append ledger_step (blank_ledger cfg) past (r ∷ []))) e.1))),
)

pub paired-append : (due : AssignmentDue) (xs ys : List Rec) → ArePaired due xs → ArePaired Nothing ys → ArePaired due (xs ++ ys)
paired-append Nothing [] ys h f = f
paired-append (First c) [] ys h f = absurd h
paired-append (Later c) [] ys h f = absurd h
paired-append Nothing (rec.Admitted c ∷ xs) ys h f = paired-append (First c) xs ys h f
paired-append Nothing (rec.BatchOver c ∷ xs) ys h f = paired-append (Later c) xs ys h f
paired-append Nothing (rec.AssignedFirst c r path n add remove ∷ xs) ys h f = absurd h
paired-append (First c) (rec.AssignedFirst d r path n add remove ∷ xs) ys h f = (h.0, paired-append Nothing xs ys h.1 f)
paired-append (Later c) (rec.AssignedLater d r path n add size queue ∷ xs) ys h f = (h.0, paired-append Nothing xs ys h.1 f)
paired-append Nothing (x ∷ xs) ys h f = paired-append Nothing xs ys h f
paired-append (First c) (x ∷ xs) ys h f = absurd h
paired-append (Later c) (x ∷ xs) ys h f = absurd h

-- ---- records aside

-- it is none of admission, assignments and closed nodes, and none of the clock
abbrev pub IsAside : Rec → Type 0
IsAside (rec.Clock time) = ⊥
IsAside (rec.Waits c) = ⊥
IsAside (rec.Admitted c) = ⊥
IsAside (rec.Released c) = ⊥
IsAside (rec.AssignedFirst c r path n add remove) = ⊥
IsAside (rec.AssignedLater c r path n add size queue) = ⊥
IsAside (rec.BatchOver c) = ⊥
IsAside (rec.Closed n) = ⊥
IsAside _ = Unit {0}

-- The ledger stays by it, and it may stand anywhere.
pub record ChangesNothing (r : Rec) : Type 0 where
  pub same : (l : Ledger) → ledger_step l r ≡ l
  pub may : (cfg : Config) (l : Ledger) → May cfg l r
  pub follow : (before but_closed : Option Rec) (l : Ledger) → MayFollow before but_closed l r
  pub pair : (rs : List Rec) → ArePaired Nothing rs → ArePaired Nothing (r ∷ rs)

pub aside : (r : Rec) → IsAside r → ChangesNothing r
aside (rec.Clock time) h = absurd h
aside (rec.Waits c) h = absurd h
aside (rec.Admitted c) h = absurd h
aside (rec.Released c) h = absurd h
aside (rec.AssignedFirst c r path n add remove) h = absurd h
aside (rec.AssignedLater c r path n add size queue) h = absurd h
aside (rec.BatchOver c) h = absurd h
aside (rec.Closed n) h = absurd h
aside _ h = record { same = λ l. refl; may = λ cfg l. (tt, tt); follow = λ before but_closed l. (tt, tt); pair = λ rs h. h }

pub asides-same : (l : Ledger) (rs : List Rec) → Each IsAside rs → fold ledger_step l rs ≡ l
asides-same l [] e = refl
asides-same l (r ∷ rs) e = ap (λ (x : Ledger). fold ledger_step x rs) ((aside r e.0).same l) ∙ asides-same l rs e.1

pub asides-may : (cfg : Config) (l : Ledger) (rs : List Rec) → Each IsAside rs → EachFrom (May cfg) l rs
asides-may cfg l [] e = tt
asides-may cfg l (r ∷ rs) e = ((aside r e.0).may cfg l, asides-may cfg (ledger_step l r) rs e.1)

pub asides-after : (before but_closed : Option Rec) (l : Ledger) (rs : List Rec) → Each IsAside rs → EachAfter before but_closed l rs
asides-after before but_closed l [] e = tt
asides-after before but_closed l (r ∷ rs) e = ((aside r e.0).follow before but_closed l, asides-after (Some r) (but_closed_step but_closed r) (ledger_step l r) rs e.1)

pub asides-paired : (rs : List Rec) → Each IsAside rs → ArePaired Nothing rs
asides-paired [] e = tt
asides-paired (r ∷ rs) e = (aside r e.0).pair rs (asides-paired rs e.1)

-- ---- which records are

-- what is no note, and what a client or a node notes
pub allows-aside : Allows IsAside
allows-aside = record {
  event = λ i e. tt;
  opened = λ c isn iss wnd mss. tt;
  injected = λ c. tt;
  got = λ k. tt;
  lost = λ k. tt;
  sent = λ k from to bytes. tt;
  gave = λ place c epoch. tt;
  armed = λ place c kind. tt;
  cleared = λ place c kind. tt;
}

pub named-aside : (place : Place) (c : ℕ) (r : Rec) → IsNoFront place → NotedAt place c r → IsAside r
named-aside Front c r k h = absurd k
named-aside (Client e) c (rec.Wrote d bytes) k h = tt
named-aside (Client e) c (rec.Accepted d bytes) k h = tt
named-aside (Client e) c (rec.Eof d) k h = tt
named-aside (Client e) c (rec.Aborted d) k h = tt
named-aside (Node n) c (rec.Took (Node k) d epoch) _ h = tt
named-aside (Node n) c (rec.Served (Node k) d r code size via) _ h = tt
named-aside (Node n) c (rec.Reset (Node k) d total) _ h = tt
named-aside (Node n) c (rec.Queued k o d r path) _ h = tt
named-aside (Node n) c (rec.Read k o d r path) _ h = tt
named-aside (Node n) c (rec.Hit k path) _ h = tt
named-aside _ c _ k h = absurd h

nobody-aside : (place : Place) (r : Rec) → IsNoFront place → NamesNobody place r → IsAside r
nobody-aside Front r k h = absurd k
nobody-aside (Node n) (rec.Hit i path) k h = tt
nobody-aside _ _ k h = absurd h

pub note-aside : AllowsNotes IsNoFront IsAside
note-aside = record { named = named-aside; nobody = nobody-aside }
