-- Each record of a connection that the schedule did not touch may stand by what the journal marks of it.
use Rattle.std.proofs.Common.{◌≡◌, ℕ, false, List, [], Some, None, sym, ap, ◌∙◌, subst, Ok}
use Rattle.lard_law_view.specs.Prelude.{Config, EachMay, EachRow, FilesAt, IsReached, Machine, Rec, Seen, Tale, WhileUntouched, config_check, conn, file_at, is_touched, own, plain, tale_of, whose}
use Rattle.lard_laws.specs.BackingState.{MayBack}
use Rattle.lard_laws.proofs.BackingMarks.{MayMark}
use Rattle.lard_laws.proofs.BackingRows.{Mine}
use Rattle.lard_laws.proofs.BackingRules.{each-backed}
use Rattle.lard_law_view.proofs.InSteps.{carried-records}
use Rattle.lard_laws.specs.WaysState.{marks_of}
use Rattle.lard_laws.specs.Ways.{WayMarks, way_marks}
use Rattle.lard_laws.proofs.WaysRuns.{marks-own}
use Rattle.lard_history.proofs.Lifting.{tale-own}
use Rattle.lard_history.proofs.Tales.{touched-tale}
use Rattle.lard_journal.specs.declared.rec.Rec.TheVariants as rec

module _ (files : FilesAt) where
  abbrev seen_so : ℕ → List Seen → Rec → Type 0
  seen_so c past r = WhileUntouched (λ c. Mine files c) c past r

  -- the numbers of packets and events say nothing
  plain-back : (m : WayMarks) (r : Rec) → MayBack files m (plain r) → MayBack files m r
  plain-back m (rec.Event i e) h = tt
  plain-back m _ h = h

  somebody : (J : List Rec) (r : Rec) (c : ℕ) → whose r ≡ Some c → seen_so c (own c J) (plain r) → MayMark files J r
  somebody J r c e h d f u =
      let same : c ≡ d = some-number c d (sym e ∙ f) in
      let now : MayBack files (marks_of (tale_of c (own c J))) (plain r) = h (ap (λ (t : Tale). t.touched) (sym (tale-own J c)) ∙ sym (touched-tale J c) ∙ subst (λ (q : ℕ). is_touched J q ≡ false) (sym same) u) in
      subst (λ (q : ℕ). MayBack files (way_marks J q) r) same (plain-back (way_marks J c) r (subst (λ (m : WayMarks). MayBack files m (plain r)) (marks-own files J c) now)) where
        some-number : (a b : ℕ) → Some a ≡ Some b → a ≡ b
        some-number a b e = cc

  nobody : (J : List Rec) (r : Rec) → whose r ≡ None → MayMark files J r
  nobody J r e d f u = let no : None ≡ Some d = sym e ∙ f in absurd (let f : ⊥ = cc in f)

-- each record of a connection that the schedule did not touch may stand by what is marked of it
pub marks-lawful : (config : Config) (files : List (List ℕ × List ℕ)) (m : Machine) → config_check config ≡ Ok tt → IsReached config files m → EachMay (MayMark (file_at files)) [] m.journal
unfolding conn
marks-lawful config files m checked r = carried-records config files (MayMark (file_at files)) (seen_so (file_at files)) (nobody (file_at files)) (somebody (file_at files)) each m r where
  each : (m : Machine) → IsReached config files m → (q : ℕ) → EachRow (seen_so (file_at files) q) [] (conn m q).seen
  each m r q = (each-backed config files checked m r q).1
