-- A front of a sound report is one.
use Rattle.std.proofs.Common.{◌≡◌, ℕ, List, [], ◌∷◌, ◌++◌, None, refl, ap, subst, ◌∙◌}
use Rattle.std.proofs.lemmas.Grind.{flat_map-append}
use Rattle.std.specs.List.{AllByRecursion, flat_map}
use Rattle.lard_audit.specs.Sound.{IsSound, broken}
use Rattle.lard_history.proofs.Each.{each_front}
use Rattle.lard_journal.specs.Report.{rec_line, report}
use Rattle.lard_journal.specs.declared.rec.Rec.{Rec}
use Rattle.lard_journal.proofs.Growth.{report-append}
use Rattle.lard_report.specs.Readable.{IsReadable}
use Rattle.lard_audit_run.specs.Reports.{IsSoundReport}

readable_front : (before behind : List Rec) → AllByRecursion IsReadable (before ++ behind) → AllByRecursion IsReadable before
readable_front [] behind h = tt
readable_front (r ∷ before) behind h = (h.0, readable_front before behind h.1)

pub fronts_sound : (text : List ℕ) (r : IsSoundReport text) (before behind : List Rec) → r.journal ≡ before ++ behind
    → (text ≡ report r.config r.files before ++ flat_map rec_line behind) × ((front : IsSoundReport (report r.config r.files before)) × (front.journal ≡ before))
fronts_sound text r before behind is = (
  r.is ∙ ap (report r.config r.files) is ∙ report-append r.config r.files before behind,
  (
    record {
      config = r.config;
      files = r.files;
      journal = before;
      is = refl;
      usable = r.usable;
      addable = r.addable;
      readable = readable_front before behind (subst (AllByRecursion IsReadable) is r.readable);
      sound = each_front (λ past rec. broken r.config r.files past rec ≡ None) [] before behind (subst (IsSound r.config r.files) is r.sound);
    },
    refl,
  ),
)
