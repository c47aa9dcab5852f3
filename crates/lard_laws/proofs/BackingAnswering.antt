-- The home answers each request for a file, and the place that owns the connection each other one.
use Rattle.std.proofs.Common.{◌≡◌, ℕ, List, Option, Some, None}
use Rattle.lard_law_view.specs.Prelude.{FilesAt, Place, Rec, Verdict, Via, good_path, next_verdict, owner}
use Rattle.lard_law_connections.specs.BytesRecords.{MayServeOwned}
use Rattle.lard_laws.specs.BackingRequests.{AnswersFrom, AnswersNextFrom, MayAnswerFrom}
use Rattle.lard_laws.specs.Ways.{AnswersBy, ComesAsAssigned, MayComeThisWay, WayMarks, way_marks}
use Rattle.lard_journal.specs.declared.rec.Rec.TheVariants as rec

module _ (files : FilesAt) where
  -- by the way of its content, and by its place
  from-way : (m : WayMarks) (owner : Option Place) (place : Place) (way : Via) (o : Option (List ℕ)) → owner ≡ Some place → ComesAsAssigned files m place way o → AnswersFrom owner m.home o place
  from-way m owner place way None own comes = own
  from-way m owner place way (Some path) own comes = (comes.home, comes.home_is, comes.place_is)

  next-from : (m : WayMarks) (owner : Option Place) (place : Place) (way : Via) (o : Option Verdict) → owner ≡ Some place → AnswersBy files m place way o → AnswersNextFrom files owner m.home o place
  next-from m owner place way None own comes = absurd comes
  next-from m owner place way (Some v) own comes = from-way m owner place way (good_path files v) own comes

  pub answers-from : (past : List Rec) (r : Rec) → MayServeOwned files past r → MayComeThisWay files past r → MayAnswerFrom files past r
  answers-from past (rec.Served place c r code size way) owned comes = λ u. next-from (way_marks past c) (owner past c) place way (next_verdict past c) (owned u).0 (comes u)
  answers-from past _ owned comes = tt
