-- What nobody is told and nobody accepts: records of no connection may stand anywhere.
use Rattle.std.proofs.Common.{◌≡◌, ℕ, List, Some, None}
use Rattle.lard_law_view.specs.Prelude.{Client, FilesAt, Front, MayAccept, MayTell, Node, Place, Rec, ToldTo, conn_of, whose}
use Rattle.lard_journal.specs.declared.rec.Rec.TheVariants as rec

-- ---- from a connection's records to the journal's

module _ (files : FilesAt) where
  told-nobody : (J : List Rec) (from to : Place) (bytes : List ℕ) → conn_of from to bytes ≡ None → ToldTo files J from to bytes
  told-nobody J Front (Client d) bytes e = let no : Some d ≡ None = e in absurd cc
  told-nobody J (Node n) (Client d) bytes e = let no : Some d ≡ None = e in absurd cc
  told-nobody J Front Front bytes e = tt
  told-nobody J Front (Node n) bytes e = tt
  told-nobody J (Node n) Front bytes e = tt
  told-nobody J (Node n) (Node m) bytes e = tt
  told-nobody J (Client d) to bytes e = tt

  pub tells-nobody : (J : List Rec) (r : Rec) → whose r ≡ None → MayTell files J r
  tells-nobody J (rec.Sent k from to bytes) e = told-nobody J from to bytes e
  tells-nobody J (rec.Served place d r code size via) e = let no : Some d ≡ None = e in absurd cc
  tells-nobody J _ e = tt

  pub accepts-nobody : (J : List Rec) (r : Rec) → whose r ≡ None → MayAccept files J r
  accepts-nobody J (rec.Accepted d bytes) e = let no : Some d ≡ None = e in absurd cc
  accepts-nobody J _ e = tt
