-- Each rule leaves a connection on its way, so it is in every run; and what its records say the journal says.
use Rattle.std.proofs.Common.{◌≡◌, ◌≤◌, ◌^◌, ℕ, false, List, [], Some, None, Ok, refl, sym, ap, ◌∙◌, subst}
use Rattle.lard_base.proofs.Usable.{usable}
use Rattle.lard_law_view.specs.Prelude.{Config, Conn, EachRow, FilesAt, Guarded, IsGuardedLaw, IsReached, Machine, MayRestOn, Move, OfEach, Rec, Seen, Setting, Tale, Untouched, UntouchedRules, WhileUntouched, config_check, conn, file_at, grown, is_touched, own, plain, seen_in, setting, tale_at, tale_of, whose, with_leaving}
use Rattle.lard_law_connections.specs.BytesAgreement.{IsTruthful}
use Rattle.lard_law_connections.proofs.BytesLaw.{Helps}
use Rattle.lard_law_connections.proofs.BytesOwners.{Known, Knows, known}
use Rattle.lard_law_connections.proofs.BytesRuns.{states-truthful}
use Rattle.lard_law_connections.proofs.PlacesLaw.{owing}
use Rattle.lard_law_connections.proofs.PlacesRuns.{each-placed}
use Rattle.lard_law_connections.proofs.PlacesTurns.{IsPlaced}
use Rattle.lard_law_connections.proofs.PlacesTurns as places
use Rattle.lard_law_view.proofs.Carried.{carried}
use Rattle.lard_law_view.proofs.EachFront.{each-front}
use Rattle.lard_law_view.proofs.Fine.{IsFine, IsItsOwn, fine}
use Rattle.lard_law_view.proofs.Guarded.{guarded-law, untouched-both, untouched-weaker}
use Rattle.lard_law_view.proofs.InSteps.{carried-records}
use Rattle.lard_laws.specs.WaysRuns.{ContentsComeAsAssigned, JournalsAssignAPrefix, JournalsAssignInOrder}
use Rattle.lard_laws.specs.WaysState.{GoesItsWay, marks_of}
use Rattle.lard_laws.specs.Ways.{AnswersNextAt, IsNextGood, WayMarks, MayBeAssigned, MayComeThisWay, way_marks, paths_wanted}
use Rattle.lard_laws.proofs.WaysClients.{clients}
use Rattle.lard_laws.proofs.WaysFrontStays.{front-keep}
use Rattle.lard_laws.proofs.WaysMarking.{MayTell, Mine}
use Rattle.lard_laws.proofs.WaysMoments.{assigns-a-prefix}
use Rattle.lard_laws.proofs.WaysMoving.{IsMade}
use Rattle.lard_laws.proofs.WaysNodeRules.{Owes, ignores, nodes}
use Rattle.lard_history.proofs.Lifting.{tale-own}
use Rattle.lard_history.proofs.Tales.{assignments-tale, home-tale, served-tale, touched-tale, wrote-tale}
use Rattle.lard_journal.specs.declared.rec.Rec.TheVariants as rec

-- ---- the law

module _ (k : Setting) (small : k.stream ≤ 2 ^ 30) where
  keeps : UntouchedRules k (Owes k small)
  keeps = record { client = clients k small; front = each-front k (Owes k small) (λ x env heads g is comes h. front-keep k small x h env is heads g comes); node = nodes k small; ignores = λ x from to bytes was. ignores k small x from to bytes }

  abbrev pub Owed : Conn → Move → Type 0
  Owed x v = MayRestOn IsPlaced x → IsPlaced x → places.Owes x v

  abbrev pub Given : Conn → Type 0
  Given x = IsPlaced x × Untouched (IsTruthful k.files) x

  abbrev pub All : Conn → Move → Type 0
  All x v = ((IsFine x v × Owed x v) × Knows x v) × Owes k small x v

  abbrev Wanted : Conn → Move → Type 0
  Wanted x v = MayRestOn Given x → (tale_at x).touched ≡ false → GoesItsWay k.files x → GoesItsWay k.files (grown x v) × EachRow (Mine k.files x.c) x.seen (seen_in x v)

  pub all : UntouchedRules k All
  all = untouched-both k (λ x v. (IsFine x v × Owed x v) × Knows x v) (Owes k small) (untouched-both k (λ x v. IsFine x v × Owed x v) Knows (untouched-both k IsFine Owed (fine k).untouched (owing k IsPlaced).untouched) (known k)) keeps

  -- what helps a rule
  pub helped : (x : Conn) (v : Move) → All x v → MayRestOn Given x → Helps x v
  helped x v h may =
      let placed : MayRestOn IsPlaced x = record { number = may.number; sound = may.sound; given = may.given.0 } in
      let own : IsItsOwn x v = (h.0.0.0 may.number may.sound).0 in
      let more : Known x v = h.0.1 placed own in
      record { number = may.number; sound = may.sound; placed = may.given.0; owes = h.0.0.1 placed may.given.0; own = own; heads = more.heads; serves = more.serves }

  pub made : (x : Conn) (v : Move) → All x v → MayRestOn Given x → (tale_at x).touched ≡ false → GoesItsWay k.files x → IsMade k.files x v
  made x v h may untouched way = h.1 (may.given.1 untouched) (helped x v h may) way

  wanted : (x : Conn) (v : Move) → All x v → Wanted x v
  wanted x v h may untouched way = let it : IsMade k.files x v = made x v h may untouched way in (it.0, it.1)

  ways-law : IsGuardedLaw k Given (GoesItsWay k.files) (λ c. Mine k.files c)
  ways-law = record {
    begins = λ c. record { paths = (paths_wanted k.files (marks_of (tale_of c [])), refl); seat = (refl, refl); letters = tt };
    events = λ c past e. tt;
    injected = λ c past. tt;
    moves = untouched-weaker k All Wanted wanted all;
  }

-- ---- from a connection's records to the journal's

module _ (files : FilesAt) where
  abbrev seen_so : ℕ → List Seen → Rec → Type 0
  seen_so c past r = WhileUntouched (λ c. Mine files c) c past r

  pub marks-own : (J : List Rec) (c : ℕ) → marks_of (tale_of c (own c J)) ≡ way_marks J c
  marks-own J c = ap marks_of (sym (tale-own J c)) ∙ (λ i. record {
    wrote = sym (wrote-tale J c) i;
    served = sym (served-tale J c) i;
    assigned = (sym (assignments-tale J c) i).list;
    fresh = (sym (assignments-tale J c) i).fresh;
    home = sym (home-tale J c) i;
  })

  says : (J : List Rec) (r : Rec) (c d : ℕ) → d ≡ c → seen_so c (own c J) r → is_touched J d ≡ false → MayTell files c (tale_of c (own c J)) r
  says J r c d same h u = h (ap (λ (t : Tale). t.touched) (sym (tale-own J c)) ∙ sym (touched-tale J c) ∙ subst (λ (q : ℕ). is_touched J q ≡ false) same u)

  some-number : (a b : ℕ) → Some a ≡ Some b → a ≡ b
  some-number a b e = cc

  of-it : (P : WayMarks → Type 0) (J : List Rec) (c d : ℕ) → d ≡ c → P (marks_of (tale_of c (own c J))) → P (way_marks J d)
  of-it P J c d same h = subst (λ (q : ℕ). P (way_marks J q)) (sym same) (subst P (marks-own J c) h)

  none-number : (a : ℕ) → Some a ≡ None → ⊥
  none-number a e = cc

  comes-somebody : (J : List Rec) (r : Rec) (c : ℕ) → whose r ≡ Some c → seen_so c (own c J) (plain r) → MayComeThisWay files J r
  comes-somebody J (rec.Served place d r code size way) c e h = λ u.
      let same : d ≡ c = some-number d c e in
      of-it (λ (m : WayMarks). AnswersNextAt files m place way) J c d same (says J (rec.Served place d r code size way) c d same h u)
  comes-somebody J _ c e h = tt

  comes-nobody : (J : List Rec) (r : Rec) → whose r ≡ None → MayComeThisWay files J r
  comes-nobody J (rec.Served place d r code size way) e = absurd (none-number d e)
  comes-nobody J _ e = tt

  assigned-somebody : (J : List Rec) (r : Rec) (c : ℕ) → whose r ≡ Some c → seen_so c (own c J) (plain r) → MayBeAssigned files J r
  assigned-somebody J (rec.AssignedFirst d r path n add remove) c e h = λ u.
      let same : d ≡ c = some-number d c e in
      of-it (λ (m : WayMarks). IsNextGood files m path) J c d same (says J (rec.AssignedFirst d r path n add remove) c d same h u)
  assigned-somebody J (rec.AssignedLater d r path n add size queue) c e h = λ u.
      let same : d ≡ c = some-number d c e in
      of-it (λ (m : WayMarks). IsNextGood files m path) J c d same (says J (rec.AssignedLater d r path n add size queue) c d same h u)
  assigned-somebody J _ c e h = tt

  assigned-nobody : (J : List Rec) (r : Rec) → whose r ≡ None → MayBeAssigned files J r
  assigned-nobody J (rec.AssignedFirst d r path n add remove) e = absurd (none-number d e)
  assigned-nobody J (rec.AssignedLater d r path n add size queue) e = absurd (none-number d e)
  assigned-nobody J _ e = tt

-- ---- every run

module _ (config : Config) (files : List (List ℕ × List ℕ)) (checked : config_check config ≡ Ok tt) where
  abbrev k : Setting
  k = setting config files

  small : k.stream ≤ 2 ^ 30
  small = (usable config checked).stream

  pub each-guarded : OfEach config files (Guarded (GoesItsWay (file_at files)) (λ c. Mine (file_at files) c))
  each-guarded = carried config files (Given k small) (Guarded (GoesItsWay (file_at files)) (λ c. Mine (file_at files) c))
      (λ l. guarded-law (with_leaving k l) (Given k small) (GoesItsWay (file_at files)) (λ c. Mine (file_at files) c) (ways-law (with_leaving k l) small))
      (λ m r q. (each-placed config files checked m r q, states-truthful config files checked m r q))

  each : (m : Machine) → IsReached config files m → (q : ℕ) → EachRow (seen_so (file_at files) q) [] (conn m q).seen
  unfolding conn
  each m r q = (each-guarded m r q).1

pub contents-come : ContentsComeAsAssigned
contents-come config files m checked r = carried-records config files (MayComeThisWay (file_at files)) (seen_so (file_at files)) (comes-nobody (file_at files)) (comes-somebody (file_at files)) (each config files checked) m r

pub assign-in-order : JournalsAssignInOrder
assign-in-order config files m checked r = carried-records config files (MayBeAssigned (file_at files)) (seen_so (file_at files)) (assigned-nobody (file_at files)) (assigned-somebody (file_at files)) (each config files checked) m r

pub assign-a-prefix : JournalsAssignAPrefix
assign-a-prefix config files m checked r = assigns-a-prefix (file_at files) m.journal (assign-in-order config files m checked r)
