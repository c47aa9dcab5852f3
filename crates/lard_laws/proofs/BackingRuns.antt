-- What each connection's records say of its requests, the journal says.
use Rattle.std.proofs.Common.{◌≡◌, ℕ, List, [], ◌∷◌, length, Some, refl, sym, ap, ◌∙◌, subst, inl, inr, Ok}
use Rattle.std.proofs.lemmas.List.{length-map}
use Rattle.std.specs.Prelude.{◌⊎◌}
use Rattle.lard_law_view.specs.Prelude.{Config, Conn, FilesAt, Has, IsConnNumber, IsReached, Machine, Rec, Row, assigned, blank_conn, config_check, conn, file_at, net_of, net_step, own, plain, seen_of, seen_on, whose}
use Rattle.lard_laws.specs.BackingRequests.{MayAnswerFrom, MayName}
use Rattle.lard_laws.specs.BackingRuns.{JobsStartWhenTold, JournalsNameRequests, PlacesAnswer, ResponsesAreBacked}
use Rattle.lard_laws.proofs.BackingAnswering.{answers-from}
use Rattle.lard_laws.proofs.BackingContents.{Known, all-backed}
use Rattle.lard_laws.proofs.BackingStarting.{all-start}
use Rattle.lard_laws.proofs.BackingFinding.{Stands, each-from, has-stands}
use Rattle.lard_laws.proofs.BackingHits.{reached-hit}
use Rattle.lard_laws.proofs.BackingMarked.{marks-lawful}
use Rattle.lard_laws.proofs.BackingMarks.{MayMark, each-at}
use Rattle.lard_law_connections.proofs.StoresDisks.{disks-read}
use Rattle.lard_law_connections.proofs.StoresStored.{lawful}
use Rattle.lard_law_connections.specs.BytesRecords.{MayServeOwned}
use Rattle.lard_law_connections.proofs.BytesRuns.{journals-serve}
use Rattle.lard_law_view.proofs.After.{IsAfter, step-after}
use Rattle.lard_law_view.proofs.Carried.{carried-keep, reached-viewed}
use Rattle.lard_laws.specs.Ways.{MayComeThisWay}
use Rattle.lard_laws.proofs.WaysRuns.{assign-in-order, contents-come}
use Rattle.lard_laws.proofs.WaysSteps.{contents-are-files}
use Rattle.lard_history.proofs.Each.{each_weaker}
use Rattle.lard_history.proofs.Seeing.{has-before, has-behind, own-append, seen-mine}
use Rattle.lard_history.proofs.Stepping.{AreLawful, one-more}
use Rattle.lard_journal.specs.declared.rec.Rec.TheVariants as rec

module _ (files : FilesAt) where
  names : (past : List Rec) (r : Rec) → MayMark files past r → MayName files past r
  names past (rec.AssignedFirst c r path n add remove) may = λ u.
      let h = may c refl u in
      (sym (length-map (assigned past c) (λ a. a.0)) ∙ ap length h.0, h.1, h.2)
  names past (rec.Queued n m c r path) may = λ u. (may c refl u).0
  names past _ may = tt

pub requests-named : JournalsNameRequests
requests-named config files m checked r = each_weaker (MayMark (file_at files)) (MayName (file_at files)) (names (file_at files)) [] m.journal (marks-lawful config files m checked r)

pub home-answers : PlacesAnswer
home-answers config files m checked r =
    let fs : FilesAt = file_at files in
    each-from (MayAnswerFrom fs) m.journal (λ a b x is. answers-from fs a x
    (each-at (MayServeOwned fs) m.journal a b x is (journals-serve config files m checked r))
    (each-at (MayComeThisWay fs) m.journal a b x is (contents-come config files m checked r)))

-- ---- what was read or came

-- whose records stand in a journal has a number of a connection
numbered : (config : Config) (files : List (List ℕ × List ℕ)) (m : Machine) → IsReached config files m → (x : Rec) (c : ℕ) → whose x ≡ Some c → Has x m.journal → IsConnNumber c
unfolding conn
numbered config files m r x c its h = go ((reached-viewed config files m r).sound c).number where
  s : Stands x m.journal
  s = has-stands x m.journal h

  sees : Has (Row (plain x)) (own c m.journal)
  sees = subst (λ (J : List Rec). Has (Row (plain x)) (own c J)) (sym s.split) (subst (Has (Row (plain x))) (sym (own-append c s.before (x ∷ s.behind)))
      (has-behind (Row (plain x)) (own c s.before) (seen_on c (net_of s.before) (x ∷ s.behind))
      (has-before (Row (plain x)) (seen_of c (net_of s.before) x) (seen_on c (net_step (net_of s.before) x) s.behind) (subst (Has (Row (plain x))) (sym (seen-mine c (net_of s.before) x its)) (inl refl)))))

  go : IsConnNumber c ⊎ (conn m c ≡ blank_conn c) → IsConnNumber c
  go (inl k) = k
  go (inr e) = absurd (subst (Has (Row (plain x))) (ap (λ (y : Conn). y.seen) e) sees)

-- a journal is whole steps
whole-steps : (config : Config) (files : List (List ℕ × List ℕ)) (m : Machine) → IsReached config files m → AreLawful (λ past s. Unit {0}) m.journal
whole-steps config files m r = carried-keep config files (λ k. AreLawful (λ past s. Unit {0}) k.journal) (refl, tt)
    (λ k n e on h rule is. let after : IsAfter k e n = step-after k on.view e n rule is in subst (AreLawful (λ past s. Unit {0})) (sym after.is) (one-more (λ past s. Unit {0}) k.journal after.step after.one h tt)) m r

-- what is known of a journal
known-of : (config : Config) (files : List (List ℕ × List ℕ)) (m : Machine) → config_check config ≡ Ok tt → IsReached config files m → Known (file_at files) config.cache m.journal
known-of config files m checked r = record {
  marks = marks-lawful config files m checked r;
  hits = (reached-hit config files checked m r).law;
  stores = lawful config files m r;
  ways = contents-come config files m checked r;
  service = journals-serve config files m checked r;
  whole = (whole-steps config files m r).0;
  brings = contents-are-files config files m r;
  reads = disks-read config files m r;
  numbers = λ n k c i path h. numbered config files m r (rec.Queued n k c i path) c refl h;
}

pub responses-backed : ResponsesAreBacked
responses-backed config files m checked r = all-backed (file_at files) config.cache m.journal (known-of config files m checked r)

-- no job of a node itself starts before it is told
pub jobs-start : JobsStartWhenTold
jobs-start config files m checked r = all-start (file_at files) config.cache m.journal (known-of config files m checked r) (assign-in-order config files m checked r)
