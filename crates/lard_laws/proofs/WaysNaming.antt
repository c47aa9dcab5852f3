-- The paths of each Ask go on from those that were assigned, in every run.
use Rattle.std.proofs.Common.{◌≡◌, ◌≤◌, ◌^◌, ℕ, false, List, [], Some, None, Ok, ap, ◌∙◌, sym, subst}
use Rattle.lard_base.proofs.Usable.{usable}
use Rattle.lard_law_view.specs.Prelude.{Config, Conn, EachRow, FilesAt, Front, Guarded, IsGuardedLaw, IsReached, Machine, MayRestOn, Move, Node, OfEach, Place, Rec, Seen, Setting, Tale, Untouched, WhileUntouched, config_check, conn, file_at, grown, is_touched, own, plain, seen_in, setting, tale_at, tale_of, whose, with_leaving}
use Rattle.lard_law_connections.proofs.BytesLaw.{Helps}
use Rattle.lard_law_connections.proofs.BytesRuns.{states-truthful}
use Rattle.lard_law_connections.proofs.OffersSent.{AreSeen, grown-seen, own-sends}
use Rattle.lard_law_connections.proofs.PlacesRuns.{each-placed}
use Rattle.lard_law_view.proofs.Carried.{carried}
use Rattle.lard_law_view.proofs.Guarded.{guarded-law, untouched-weaker}
use Rattle.lard_law_view.proofs.InSteps.{carried-records}
use Rattle.lard_law_view.proofs.Naming.{decoded-names}
use Rattle.lard_laws.specs.WaysRuns.{AsksNameTheNext}
use Rattle.lard_laws.specs.WaysState.{GoesItsWay}
use Rattle.lard_laws.specs.Ways.{BodyGoesOn, GoesOnTo, WayMarks, MayGoOn, way_marks}
use Rattle.lard_laws.proofs.WaysAsking.{Names, move-may, rows-name}
use Rattle.lard_laws.proofs.WaysMoving.{IsMade}
use Rattle.lard_laws.proofs.WaysRuns.{All, all, each-guarded, helped, made, marks-own}
use Rattle.lard_laws.proofs.WaysRuns as ways
use Rattle.lard_history.proofs.Lifting.{tale-own}
use Rattle.lard_history.proofs.Tales.{touched-tale}
use Rattle.lard_journal.specs.declared.rec.Rec.TheVariants as rec

-- ---- a law

module _ (k : Setting) (small : k.stream ≤ 2 ^ 30) where
  abbrev Given : Conn → Type 0
  Given x = ways.Given k small x × Untouched (GoesItsWay k.files) x

  abbrev Moves : Conn → Move → Type 0
  Moves x v = MayRestOn Given x → (tale_at x).touched ≡ false → AreSeen x → AreSeen (grown x v) × EachRow (Names k.files x.c) x.seen (seen_in x v)

  moves : (x : Conn) (v : Move) → All k small x v → Moves x v
  moves x v h may untouched seen =
      let given : MayRestOn (ways.Given k small) x = record { number = may.number; sound = may.sound; given = may.given.0 } in
      let help : Helps x v = helped k small x v h given in
      let it : IsMade k.files x v = made k small x v h given untouched (may.given.1 untouched) in
      (grown-seen x v seen, rows-name k.files x seen x.seen (seen_in x v) (λ from to bytes s. s) (move-may k.files x v help.own help.heads it.2))

  names-law : IsGuardedLaw k Given AreSeen (Names k.files)
  names-law = record {
    begins = λ c l h. absurd h;
    events = λ c past e. tt;
    injected = λ c past. tt;
    moves = untouched-weaker k (All k small) Moves moves (all k small);
  }

-- ---- from a connection's records to the journal's

module _ (files : FilesAt) where
  abbrev mine : ℕ → List Seen → Rec → Type 0
  mine c past r = WhileUntouched (Names files) c past r

  some-number : (a b : ℕ) → Some a ≡ Some b → a ≡ b
  some-number a b e = cc

  goes-to : (J : List Rec) (from to : Place) (bytes : List ℕ) (c : ℕ) → whose (rec.Sent 0 from to bytes) ≡ Some c → mine c (own c J) (rec.Sent 0 from to bytes) → GoesOnTo files J from to bytes
  goes-to J (Node n) Front bytes c e h = λ m d u new.
      let same : m.c ≡ c = some-number m.c c (sym (decoded-names m bytes d).named ∙ e) in
      let quiet : (tale_of c (own c J)).touched ≡ false =
      ap (λ (t : Tale). t.touched) (sym (tale-own J c)) ∙ sym (touched-tale J c) ∙ subst (λ (q : ℕ). is_touched J q ≡ false) same u in
      subst (λ (q : ℕ). BodyGoesOn files (way_marks J q) m.body) (sym same)
      (subst (λ (t : WayMarks). BodyGoesOn files t m.body) (marks-own files J c) (h quiet (λ s. new (own-sends (Node n) Front bytes c J s)) m d))
  goes-to J _ _ bytes c e h = tt

  somebody : (J : List Rec) (r : Rec) (c : ℕ) → whose r ≡ Some c → mine c (own c J) (plain r) → MayGoOn files J r
  somebody J (rec.Sent k from to bytes) c e h = goes-to J from to bytes c e h
  somebody J _ c e h = tt

  goes-none : (J : List Rec) (from to : Place) (bytes : List ℕ) → whose (rec.Sent 0 from to bytes) ≡ None → GoesOnTo files J from to bytes
  goes-none J (Node n) Front bytes e = λ m d u new. let no : Some m.c ≡ None = sym (decoded-names m bytes d).named ∙ e in absurd cc
  goes-none J _ _ bytes e = tt

  nobody : (J : List Rec) (r : Rec) → whose r ≡ None → MayGoOn files J r
  nobody J (rec.Sent k from to bytes) e = goes-none J from to bytes e
  nobody J _ e = tt

-- ---- every run

module _ (config : Config) (files : List (List ℕ × List ℕ)) (checked : config_check config ≡ Ok tt) where
  abbrev k : Setting
  k = setting config files

  small : k.stream ≤ 2 ^ 30
  small = (usable config checked).stream

  guarded-names : OfEach config files (Guarded AreSeen (Names (file_at files)))
  guarded-names = carried config files (Given k small) (Guarded AreSeen (Names (file_at files)))
      (λ l. guarded-law (with_leaving k l) (Given k small) AreSeen (Names (file_at files)) (names-law (with_leaving k l) small))
      (λ m r q. ((each-placed config files checked m r q, states-truthful config files checked m r q), (each-guarded config files checked m r q).0))

  each : (m : Machine) → IsReached config files m → (q : ℕ) → EachRow (mine (file_at files) q) [] (conn m q).seen
  unfolding conn
  each m r q = (guarded-names m r q).1

pub asks-name : AsksNameTheNext
asks-name config files m checked r = carried-records config files (MayGoOn (file_at files)) (mine (file_at files)) (nobody (file_at files)) (somebody (file_at files)) (each config files checked) m r
