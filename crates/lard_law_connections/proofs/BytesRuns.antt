-- The law of bytes in every run: of each state, and of each record.
use Rattle.std.proofs.Common.{◌≡◌, ◌≤◌, ◌^◌, ℕ, false, List, [], Some, None, refl, ap, ◌∙◌, sym, subst, Ok}
use Rattle.lard_law_view.specs.Prelude.{Client, Config, Conn, EachMay, EachRow, FilesAt, Front, Guarded, IsGuardedLaw, IsReached, Machine, MayAccept, MayRestOn, MayTell, Move, Node, OfEach, Place, Rec, Seen, Setting, Stream, Tale, Talk, ToldTo, UntouchedRules, WhileUntouched, config_check, conn, conn_of, file_at, is_touched, own, plain, setting, tale_at, whose, with_leaving}
use Rattle.lard_law_connections.specs.BytesAgreement.{IsTruthful}
use Rattle.lard_law_connections.proofs.BytesLaw.{IsSeenTrue, IsTrueMove, StaysTruthful}
use Rattle.lard_law_connections.specs.BytesRecords.{MayServeOwned}
use Rattle.lard_law_connections.specs.BytesRuns.{ClientsAcceptAnswers, JournalsServeTheAnswers, JournalsTellTheTruth, StatesAreTruthful}
use Rattle.lard_law_connections.proofs.BytesClientMoves.{clients}
use Rattle.lard_law_connections.proofs.BytesFrontEnds.{fronts}
use Rattle.lard_law_connections.proofs.BytesNodeRest.{ignores-stays, nodes}
use Rattle.lard_law_connections.proofs.BytesOwners.{Known, Knows, known}
use Rattle.lard_law_connections.proofs.PlacesLaw.{owing}
use Rattle.lard_law_connections.proofs.PlacesRuns.{each-placed}
use Rattle.lard_law_connections.proofs.PlacesTurns.{IsPlaced, Owes}
use Rattle.lard_law_view.proofs.Carried.{carried}
use Rattle.lard_law_view.proofs.Fine.{IsFine, IsItsOwn, fine}
use Rattle.lard_law_view.proofs.Guarded.{guarded-law, untouched-both, untouched-weaker}
use Rattle.lard_law_view.proofs.InSteps.{carried-records}
use Rattle.lard_history.proofs.Lifting.{tale-own}
use Rattle.lard_history.proofs.Tales.{touched-tale}
use Rattle.lard_journal.specs.declared.rec.Rec.TheVariants as rec
use Rattle.lard_law_view.proofs.Moments.{at_every_moment}
use Rattle.lard_law_view.proofs.RecordBytes.{accepts-nobody, tells-nobody}
use Rattle.lard_base.proofs.Usable.{usable}

-- ---- each rule keeps it

module _ (k : Setting) (small : k.stream ≤ 2 ^ 30) where
  mine : UntouchedRules k (StaysTruthful k)
  mine = record {
    client = clients k small;
    front = fronts k small;
    node = nodes k small;
    ignores = λ x from to bytes was. ignores-stays k small x from to bytes was.0;
  }

  abbrev Owed : Conn → Move → Type 0
  Owed x v = MayRestOn IsPlaced x → IsPlaced x → Owes x v

  abbrev Given : Conn → Move → Type 0
  Given x v = (IsFine x v × Owed x v) × Knows x v

  abbrev All : Conn → Move → Type 0
  All x v = Given x v × StaysTruthful k x v

  abbrev Wanted : Conn → Move → Type 0
  Wanted x v = MayRestOn IsPlaced x → (tale_at x).touched ≡ false → IsTruthful k.files x → IsTrueMove k.files x v

  all : UntouchedRules k All
  all = untouched-both k Given (StaysTruthful k) (untouched-both k (λ x v. IsFine x v × Owed x v) Knows (untouched-both k IsFine Owed (fine k).untouched (owing k IsPlaced).untouched) (known k)) mine

  wanted : (x : Conn) (v : Move) → All x v → Wanted x v
  wanted x v h may untouched truthful =
      let own : IsItsOwn x v = (h.0.0.0 may.number may.sound).0 in
      let more : Known x v = h.0.1 may own in
      h.1 (record { number = may.number; sound = may.sound; placed = may.given; owes = h.0.0.1 may may.given; own = own; heads = more.heads; serves = more.serves }) truthful

  -- nobody speaks yet
  silence : Talk
  silence = let nothing : Stream = record { first = 0; bytes = []; ended = false } in record { w = nothing; out = nothing; vs = []; was_reset = false }

  bytes-law : IsGuardedLaw k IsPlaced (IsTruthful k.files) (IsSeenTrue k.files)
  bytes-law = record {
    begins = λ c. record { talk = silence; pend = []; agrees = record { front = refl; stays = λ n. refl; inner = tt; wrote = refl; accepted = refl; served = refl; served_bytes = refl; was_reset = refl; fin = refl } };
    events = λ c past e J is. (tt, tt, tt);
    injected = λ c past J is. (tt, tt, tt);
    moves = untouched-weaker k All Wanted wanted all;
  }

-- ---- from a connection's records to the journal's

module _ (files : FilesAt) where
  abbrev seen_true : ℕ → List Seen → Rec → Type 0
  seen_true c past r = WhileUntouched (IsSeenTrue files) c past r

  -- what the connection sees of a record, the journal may say, as long as the schedule did not touch it
  abbrev May : List Rec → Rec → Type 0
  May J r = MayTell files J r × MayServeOwned files J r × MayAccept files J r

  says : (J : List Rec) (r : Rec) (c d : ℕ) → d ≡ c → seen_true c (own c J) (plain r) → is_touched J d ≡ false → May J (plain r)
  says J r c d same h u = h
      (ap (λ (t : Tale). t.touched) (sym (tale-own J c)) ∙ sym (touched-tale J c) ∙ subst (λ (q : ℕ). is_touched J q ≡ false) same u) J (tale-own J c)

  told-to : (J : List Rec) (from to : Place) (bytes : List ℕ) (c : ℕ) → conn_of from to bytes ≡ Some c → seen_true c (own c J) (rec.Sent 0 from to bytes) → ToldTo files J from to bytes
  told-to J Front (Client d) bytes c e h = λ u. let same : d ≡ c = cc in (says J (rec.Sent 0 Front (Client d) bytes) c d same h u).0 u
  told-to J (Node n) (Client d) bytes c e h = λ u. let same : d ≡ c = cc in (says J (rec.Sent 0 (Node n) (Client d) bytes) c d same h u).0 u
  told-to J Front Front bytes c e h = tt
  told-to J Front (Node n) bytes c e h = tt
  told-to J (Node n) Front bytes c e h = tt
  told-to J (Node n) (Node m) bytes c e h = tt
  told-to J (Client d) to bytes c e h = tt

  tells-somebody : (J : List Rec) (r : Rec) (c : ℕ) → whose r ≡ Some c → seen_true c (own c J) (plain r) → MayTell files J r
  tells-somebody J (rec.Sent k from to bytes) c e h = told-to J from to bytes c e h
  tells-somebody J (rec.Served place d r code size via) c e h = λ u. let same : d ≡ c = cc in (says J (rec.Served place d r code size via) c d same h u).0 u
  tells-somebody J _ c e h = tt

  serves-somebody : (J : List Rec) (r : Rec) (c : ℕ) → whose r ≡ Some c → seen_true c (own c J) (plain r) → MayServeOwned files J r
  serves-somebody J (rec.Served place d r code size via) c e h = λ u. let same : d ≡ c = cc in (says J (rec.Served place d r code size via) c d same h u).1 u
  serves-somebody J (rec.Reset place d total) c e h = λ u. let same : d ≡ c = cc in (says J (rec.Reset place d total) c d same h u).1 u
  serves-somebody J _ c e h = tt

  serves-nobody : (J : List Rec) (r : Rec) → whose r ≡ None → MayServeOwned files J r
  serves-nobody J (rec.Served place d r code size via) e = let no : Some d ≡ None = e in absurd cc
  serves-nobody J (rec.Reset place d total) e = let no : Some d ≡ None = e in absurd cc
  serves-nobody J _ e = tt

  accepts-somebody : (J : List Rec) (r : Rec) (c : ℕ) → whose r ≡ Some c → seen_true c (own c J) (plain r) → MayAccept files J r
  accepts-somebody J (rec.Accepted d bytes) c e h = λ u. let same : d ≡ c = cc in (says J (rec.Accepted d bytes) c d same h u).2 u
  accepts-somebody J _ c e h = tt

-- ---- every run

module _ (config : Config) (files : List (List ℕ × List ℕ)) (checked : config_check config ≡ Ok tt) where
  abbrev Holds : Conn → Type 0
  Holds x = Guarded (IsTruthful (file_at files)) (IsSeenTrue (file_at files)) x

  each-guarded : OfEach config files Holds
  each-guarded = carried config files IsPlaced Holds
      (λ l. let k : Setting = with_leaving (setting config files) l in guarded-law k IsPlaced (IsTruthful (file_at files)) (IsSeenTrue (file_at files)) (bytes-law k (usable config checked).stream)) (each-placed config files checked)

  each : (m : Machine) → IsReached config files m → (q : ℕ) → EachRow (seen_true (file_at files) q) [] (conn m q).seen
  unfolding conn
  each m r q = (each-guarded m r q).1

  by-records : (may : List Rec → Rec → Type 0) → ((J : List Rec) (r : Rec) → whose r ≡ None → may J r)
      → ((J : List Rec) (r : Rec) (c : ℕ) → whose r ≡ Some c → seen_true (file_at files) c (own c J) (plain r) → may J r) → (m : Machine) → IsReached config files m → EachMay may [] m.journal
  by-records may nobody somebody m r = carried-records config files may (seen_true (file_at files)) nobody somebody each m r

pub states-truthful : StatesAreTruthful
states-truthful config files checked m r q = (each-guarded config files checked m r q).0

pub journals-tell : JournalsTellTheTruth
journals-tell config files m checked r = by-records config files checked (MayTell (file_at files)) (tells-nobody (file_at files)) (tells-somebody (file_at files)) m r

pub journals-serve : JournalsServeTheAnswers
journals-serve config files m checked r = by-records config files checked (MayServeOwned (file_at files)) (serves-nobody (file_at files)) (serves-somebody (file_at files)) m r

pub clients-accept : ClientsAcceptAnswers
clients-accept config files m checked r = at_every_moment (file_at files) m.journal
    (by-records config files checked (MayAccept (file_at files)) (accepts-nobody (file_at files)) (accepts-somebody (file_at files)) m r)
