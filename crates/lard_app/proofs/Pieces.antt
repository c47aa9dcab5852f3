-- Records that are written in pieces.
use Rattle.std.proofs.Common.{◌≡◌, ℕ, ◌+◌, ◌-◌, ◌≤◌, ◌<◌, List, ◌++◌, length, take, drop, Option, Err, sym, ap, ◌∙◌, subst, arith}
use Rattle.std.proofs.Math.Seq.{take-add}
use Rattle.std.proofs.KnownBytes.{Appends-trans}
use Rattle.std.proofs.lemmas.Grind.{flat_map-append}
use Rattle.std.proofs.lemmas.List.{take-append-drop, take_all}
use Rattle.std.specs.Io.KnownBytes.{Appends}
use Rattle.std.specs.List.{flat_map}
use Rattle.lard_law_view.specs.Prelude.{Rec, rec_line}
use Rattle.lard_app.specs.declared.status.Status.{Status}
use Rattle.lard_app.specs.declared.status.Status.TheVariants.{Done, Usage, Refused, ReadFault, WriteFault, NoMemory, Limit}
use Rattle.lard_app.specs.Replay.{Writes}
use Rattle.lard_app.proofs.Going.{front_on}

module _ (recs : List Rec) (at next : ℕ) (more : at < next) where
  -- the lines of the records before the piece, and of the piece
  abbrev before : List ℕ
  before = flat_map rec_line (take at recs)

  abbrev piece : List ℕ
  piece = flat_map rec_line (take (next - at) (drop at recs))

  lines-more : flat_map rec_line (take next recs) ≡ before ++ piece
  lines-more =
      let sum : next ≡ at + (next - at) = omega (arith, more) in
      ap (λ n. flat_map rec_line (take n recs)) sum ∙ ap (flat_map rec_line) (take-add at (next - at) recs) ∙ flat_map-append rec_line (take at recs) (take (next - at) (drop at recs))

  pub piece-written : (old mid new : Option (List ℕ)) → Appends old mid before → Appends mid new piece → Appends old new (flat_map rec_line (take next recs))
  piece-written old mid new h p = subst (Appends old new) (sym lines-more) (Appends-trans old mid new before piece h p)

  pub piece-failed : (old mid new : Option (List ℕ)) (status : Status) → Appends old mid before → Writes piece mid new (Err status) → Writes (flat_map rec_line recs) old new (Err status)
  piece-failed old mid new status h w = go status w where
    all : flat_map rec_line recs ≡ (before ++ piece) ++ flat_map rec_line (drop next recs)
    all = ap (flat_map rec_line) (sym (take-append-drop next recs)) ∙ flat_map-append rec_line (take next recs) (drop next recs) ∙ ap (λ xs. xs ++ flat_map rec_line (drop next recs)) lines-more

    go : (s : Status) → Writes piece mid new (Err s) → Writes (flat_map rec_line recs) old new (Err s)
    go WriteFault f = front_on old mid new before piece (flat_map rec_line (drop next recs)) (flat_map rec_line recs) h f all
    go NoMemory f = front_on old mid new before piece (flat_map rec_line (drop next recs)) (flat_map rec_line recs) h f all
    go Done f = absurd f
    go Usage f = absurd f
    go ReadFault f = absurd f
    go (Refused line why) f = absurd f
    go (Limit line what) f = absurd f

-- all pieces are all records
pub all-written : (recs : List Rec) (at : ℕ) (old now : Option (List ℕ)) → length recs ≤ at → Appends old now (flat_map rec_line (take at recs)) → Appends old now (flat_map rec_line recs)
all-written recs at old now le h = subst (λ (rs : List Rec). Appends old now (flat_map rec_line rs)) (take_all at recs le) h
