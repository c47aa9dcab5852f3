-- The report of a run is a sound one: a line can stand for each of its records, and each keeps all rules.
use Rattle.std.proofs.Common.{◌≡◌, ℕ, ◌+◌, ◌<◌, ◌^◌, Bool, true, false, cond, is_some, List, [], ◌∷◌, ◌++◌, length, Some, refl, sym, subst, arith, nat_eq, nat_lt, ◌&&◌}
use Rattle.std.proofs.lemmas.Bool.{and_parts, cond_both}
use Rattle.std.proofs.lemmas.Bool.Decides.{nat_tests}
use Rattle.std.proofs.lemmas.Slice.Eq.{bytes_eq-Decides}
use Rattle.std.specs.List.{AllByRecursion, list_all}
use Rattle.std.specs.Map.{lookup}
use Rattle.std.specs.Str.{bytes_eq}
use Rattle.lard_audit_run.specs.Reports.{MayBeAdded}
use Rattle.lard_base.specs.declared.event.Event.TheVariants as event
use Rattle.lard_history.proofs.Each.{Each, Each-append}
use Rattle.lard_journal.specs.declared.rec.Rec.TheVariants as rec
use Rattle.lard_law_audit.proofs.Forming.{EventFormed, events-formed}
use Rattle.lard_law_audit.proofs.Lifting.{Lift, lift-each}
use Rattle.lard_law_audit.proofs.Running.{settled-runs-sound}
use Rattle.lard_law_audit.specs.Laws.{file_lengths}
use Rattle.lard_law_audit.specs.Reports.{IsRunOf, ReportsAreSound}
use Rattle.lard_laws.proofs.FormedRuns.{records-told}
use Rattle.lard_laws.specs.Formed.{AreFilePathsShort, GivesBytes, HasPathAndBytes, IsOfFile, RecordGives}
use Rattle.lard_law_view.proofs.OfKinds.{each-may}
use Rattle.lard_law_view.specs.Prelude.{Config, EachMay, Event, FilesAt, Machine, Rec, file_at}
use Rattle.lard_report.specs.Formed.{HaveWidths, IsEventFormed, IsFormed}
use Rattle.lard_report.specs.Readable.{IsReadable}
use Rattle.lard_schedule.specs.Events.{is_path, is_visible}
use Rattle.lard_schedule.specs.Files.{is_file_path, is_no_question}
use Rattle.lard_settling.proofs.Plain.{is_mark}
use Rattle.lard_settling.specs.Written.{is_settle, steps_with, written_from, written_out, written_rec}

-- ---- files

-- each has a path that a file may have
abbrev HavePaths : List (List ℕ × List ℕ) → Type 0
HavePaths files = Each (λ f. is_file_path f.0 ≡ true) files

paths-there : (before : List (List ℕ × ℕ)) (files : List (List ℕ × List ℕ)) → MayBeAdded before (file_lengths files) → HavePaths files
paths-there before [] h = tt
paths-there before (f ∷ fs) h = (h.0, paths-there (before ++ (f.0, length f.1) ∷ []) fs h.3)

-- so what names a file is the path of a request
path-of : (files : List (List ℕ × List ℕ)) → HavePaths files → (path : List ℕ) → IsOfFile (file_at files) path → is_path path ≡ true
path-of [] h path some = let no : false ≡ true = some in cc
path-of (f ∷ fs) h path some = go (bytes_eq path f.0) refl some (path-of fs h.1 path) where
  go : (b : Bool) → bytes_eq path f.0 ≡ b → is_some (cond b (Some f.1) (lookup (bytes_eq path) fs)) ≡ true → (IsOfFile (file_at fs) path → is_path path ≡ true) → is_path path ≡ true
  go true same t later = subst (λ (p : List ℕ). is_path p ≡ true) (sym ((bytes_eq-Decides path f.0).0 same)) (and_parts (is_path f.0) (list_all is_no_question f.0) h.0).0
  go false other t later = later t

path-short : (path : List ℕ) → is_path path ≡ true → length path < 2 ^ 16
path-short [] e = omega arith
path-short (b ∷ bs) e =
    let first = (and_parts (nat_eq b 47 && nat_lt (length bs) 1024) (list_all is_visible bs) e).0 in
    let short = (and_parts (nat_eq b 47) (nat_lt (length bs) 1024) first).1 in
    let few : length bs < 1024 = grind (arith, nat_tests, short) in
    omega (arith, few)

-- ---- events

event-gives : (e : Event) → IsEventFormed e → GivesBytes e
event-gives (event.Write c bytes) h = h
event-gives _ h = tt

-- what is written out of a record gives what the record gives
one-gives : (i : ℕ) (r : Rec) → EventFormed r → Each RecordGives (written_rec i r)
one-gives i (rec.Event k e) h = cond_both (is_settle e) [] (rec.Event (i + 1) e ∷ []) (Each RecordGives) (λ t. tt) (λ t. (event-gives e h, tt))
one-gives i (rec.Inner e) h = (event-gives e h, tt)
one-gives i (rec.Settled rounds) h = tt
one-gives i (rec.Unsettled rounds left) h = tt
one-gives i _ h = (tt, tt)

all-give : (i : ℕ) (rs : List Rec) → Each EventFormed rs → Each RecordGives (written_from i rs)
all-give i [] h = tt
all-give i (r ∷ rs) h = Each-append RecordGives (written_rec i r) (written_from (steps_with i r) rs) (one-gives i r h.0) (all-give (steps_with i r) rs h.1)

-- ---- records

module _ (fs : FilesAt) where
  abbrev May : List Rec → Rec → Type 0
  May past r = HasPathAndBytes fs r

  -- a mark of a step or a settle has neither paths nor bytes of its own
  mark-has : (r : Rec) → is_mark r ≡ true → HasPathAndBytes fs r
  mark-has (rec.Event i e) mark = tt
  mark-has (rec.Inner e) mark = tt
  mark-has (rec.Settled rounds) mark = tt
  mark-has (rec.Unsettled rounds left) mark = tt
  mark-has _ mark = let no : false ≡ true = mark in cc

  one-has : (r : Rec) → (is_mark r ≡ false → HasPathAndBytes fs r) → HasPathAndBytes fs r
  one-has r plain = go (is_mark r) refl where
    go : (b : Bool) → is_mark r ≡ b → HasPathAndBytes fs r
    go true mark = mark-has r mark
    go false none = plain none

  all-have : (past rs : List Rec) → EachMay (Lift May) past rs → Each (HasPathAndBytes fs) rs
  all-have past [] h = tt
  all-have past (r ∷ rs) h = (one-has r h.0, all-have (past ++ r ∷ []) rs h.1)

  -- what is so with the settles written out is so of the journal
  have-back : (J : List Rec) → Each (HasPathAndBytes fs) (written_out J) → Each (HasPathAndBytes fs) J
  have-back J h = all-have [] J (lift-each May J (each-may (HasPathAndBytes fs) May (λ past r k. k) [] (written_out J) h))

  module _ (path : (p : List ℕ) → IsOfFile fs p → is_path p ≡ true) where
    record-formed : (r : Rec) → EventFormed r → HasPathAndBytes fs r → IsFormed r
    record-formed (rec.Event i e) h k = h
    record-formed (rec.Inner e) h k = h
    record-formed (rec.Wrote c bytes) h k = k
    record-formed (rec.Sent i from to bytes) h k = k
    record-formed (rec.Accepted c bytes) h k = k
    record-formed (rec.AssignedFirst c r p n add remove) h k = path p k
    record-formed (rec.AssignedLater c r p n add size queue) h k = path p k
    record-formed (rec.Hit n p) h k = path p k
    record-formed (rec.Queued n m c r p) h k = path p k
    record-formed (rec.Read n m c r p) h k = path p k
    record-formed _ h k = tt

    readable : (rs : List Rec) → Each EventFormed rs → Each (HasPathAndBytes fs) rs → HaveWidths rs → AllByRecursion IsReadable rs
    readable [] h k w = tt
    readable (r ∷ rs) h k w = (w.0 (record-formed r h.0 k.0), readable rs h.1 k.1 w.1)

-- ---- the report

pub reports-sound : ReportsAreSound
reports-sound config files m run widths =
    let paths : HavePaths files = paths-there [] files run.addable in
    let path : (p : List ℕ) → IsOfFile (file_at files) p → is_path p ≡ true = path-of files paths in
    let short : AreFilePathsShort (file_at files) = λ p of. path-short p (path p of) in
    let both = events-formed config files run.events m run.formed run.leads in
    let told : Each (HasPathAndBytes (file_at files)) (written_out m.journal) =
    subst (Each (HasPathAndBytes (file_at files))) both.0.journal (records-told config files both.0.plain short both.0.reached (subst (Each RecordGives) (sym both.0.journal) (all-give 0 m.journal both.1))) in
    record {
      config = config;
      files = file_lengths files;
      journal = m.journal;
      is = refl;
      usable = run.usable;
      addable = run.addable;
      readable = readable (file_at files) path m.journal both.1 (have-back (file_at files) m.journal told) widths;
      sound = settled-runs-sound config files run.events m run.usable run.leads;
    }

-- it has the records of the run
pub report-has : (config : Config) (files : List (List ℕ × List ℕ)) (m : Machine) (run : IsRunOf config files m) (widths : HaveWidths m.journal) → (reports-sound config files m run widths).journal ≡ m.journal
unfolding reports-sound
report-has config files m run widths = refl
