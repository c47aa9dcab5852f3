-- What a lab answers of a whole trace.
use Rattle.std.proofs.Common.{◌≡◌, ℕ, ◌+◌, ◌-◌, ◌≤◌, max, List, [], ◌++◌, length, Ok, sym, ap, subst, ◌∙◌, arith}
use Rattle.lard_base.specs.declared.config.Config.{Config}
use Rattle.lard_base.specs.Config.{config_check}
use Rattle.lard_lab.specs.declared.backends.Backend.{Backend}
use Rattle.lard_lab.specs.declared.event.LabEvent.{LabEvent}
use Rattle.lard_lab.specs.declared.policy.Policy.{Policy}
use Rattle.lard_lab.specs.Lab.{State, totals_text}
use Rattle.lard_lab.specs.Laws.{CachesAreApart, PassAll, TellsTheReport, TotalsAddUp, lab_after_all, told_all}
use Rattle.lard_lab.specs.Report.{File, Request, all_hits, all_requests, lab_assignments, backends_of, desk_with, full_among, lab_report, lines_from, peak_of, file_size_in, totals_of}
use Rattle.lard_lab.specs.Text.{lab_heading_line, node_lines, totals_line}
use Rattle.lard_lab.proofs.Beginning.{first-follows, first-is, first_state}
use Rattle.lard_lab.proofs.Following.{Told, follows, same-peaks}
use Rattle.lard_lab.proofs.Choosing.{hits-below}

-- the nodes at the end
last-nodes : (policy : Policy) (cfg : Config) (files : List File) (es : List LabEvent) → Told files (first_state policy cfg files) [] (λ n. 0) es
    → (lab_after_all (first_state policy cfg files) es).stores.nodes ≡ backends_of (file_size_in files) cfg (lab_assignments (desk_with policy cfg files) es) (λ n. peak_of n (desk_with policy cfg files) es)
last-nodes policy cfg files es told =
    told.last.nodes
    ∙ ap (λ (c : Config). backends_of (file_size_in files) c (lab_assignments (desk_with policy cfg files) es) (λ n. max 0 (peak_of n (desk_with policy cfg files) es))) told.config
    ∙ same-peaks (file_size_in files) cfg (lab_assignments (desk_with policy cfg files) es) (λ n. max 0 (peak_of n (desk_with policy cfg files) es)) (λ n. peak_of n (desk_with policy cfg files) es) (λ n. omega arith)

last-totals : (policy : Policy) (cfg : Config) (files : List File) (es : List LabEvent) → Told files (first_state policy cfg files) [] (λ n. 0) es
    → totals_text (lab_after_all (first_state policy cfg files) es) ≡ totals_of (file_size_in files) cfg (lab_assignments (desk_with policy cfg files) es) (λ n. peak_of n (desk_with policy cfg files) es)
unfolding totals_text
last-totals policy cfg files es told =
    let s : State = lab_after_all (first_state policy cfg files) es in
    let rs : List Request = lab_assignments (desk_with policy cfg files) es in
    let made : s.desk.made ≡ length rs = told.last.made in
    let sum : s.stores.requests + full_among rs ≡ length rs = told.last.full in
    let full : s.desk.made - s.stores.requests ≡ full_among rs = omega (arith, made, sum) in
    let hits : s.stores.hits ≡ all_hits (file_size_in files) cfg rs = told.last.hits ∙ ap (λ (c : Config). all_hits (file_size_in files) c rs) told.config in
    ap (λ (k : ℕ). totals_line k s.stores.hits (s.desk.made - s.stores.requests) ++ node_lines 1 s.stores.nodes) made
    ∙ ap (λ (k : ℕ). totals_line (length rs) k (s.desk.made - s.stores.requests) ++ node_lines 1 s.stores.nodes) hits
    ∙ ap (λ (k : ℕ). totals_line (length rs) (all_hits (file_size_in files) cfg rs) k ++ node_lines 1 s.stores.nodes) full
    ∙ ap (λ (bs : List Backend). totals_line (length rs) (all_hits (file_size_in files) cfg rs) (full_among rs) ++ node_lines 1 bs) (last-nodes policy cfg files es told)

first-told : (policy : Policy) (cfg : Config) (files : List File) (es : List LabEvent) → config_check cfg ≡ Ok tt → PassAll (first_state policy cfg files) es → Told files (first_state policy cfg files) [] (λ n. 0) es
first-told policy cfg files es usable pass = follows files es (first_state policy cfg files) [] (λ n. 0) (first-follows policy cfg files usable) pass

pub caches-apart : CachesAreApart
caches-apart policy cfg files es usable =
    subst (λ (s : State). PassAll s es → (lab_after_all s es).stores.nodes ≡ backends_of (file_size_in files) cfg (lab_assignments (desk_with policy cfg files) es) (λ n. peak_of n (desk_with policy cfg files) es))
    (sym (first-is policy cfg files)) (λ pass. last-nodes policy cfg files es (first-told policy cfg files es usable pass))

reported : (policy : Policy) (cfg : Config) (files : List File) (es : List LabEvent) → Told files (first_state policy cfg files) [] (λ n. 0) es
    → lab_heading_line policy cfg ++ told_all (first_state policy cfg files) es ++ totals_text (lab_after_all (first_state policy cfg files) es) ≡ lab_report policy cfg files es
unfolding lab_report
reported policy cfg files es told =
    let s : State = first_state policy cfg files in
    ap (λ (t : List ℕ). lab_heading_line policy cfg ++ t ++ totals_text (lab_after_all s es)) told.text
    ∙ ap (λ (t : List ℕ). lab_heading_line policy cfg ++ lines_from (file_size_in files) cfg.cache [] (lab_assignments (desk_with policy cfg files) es) ++ t) (last-totals policy cfg files es told)

pub report-told : TellsTheReport
report-told policy cfg files es usable =
    subst (λ (s : State). PassAll s es → lab_heading_line policy cfg ++ told_all s es ++ totals_text (lab_after_all s es) ≡ lab_report policy cfg files es)
    (sym (first-is policy cfg files)) (λ pass. reported policy cfg files es (first-told policy cfg files es usable pass))

totals-add : (policy : Policy) (cfg : Config) (files : List File) (es : List LabEvent) → Told files (first_state policy cfg files) [] (λ n. 0) es
    → let rs : List Request = lab_assignments (desk_with policy cfg files) es in (length rs ≡ all_requests cfg rs + full_among rs) × (all_hits (file_size_in files) cfg rs ≤ all_requests cfg rs)
totals-add policy cfg files es told =
    let s : State = lab_after_all (first_state policy cfg files) es in
    let rs : List Request = lab_assignments (desk_with policy cfg files) es in
    let sum : s.stores.requests + full_among rs ≡ length rs = told.last.full in
    let all : s.stores.requests ≡ all_requests cfg rs = told.last.requests ∙ ap (λ (c : Config). all_requests c rs) told.config in
    (omega (arith, sum, all), hits-below (file_size_in files) cfg rs)

pub totals-added : TotalsAddUp
totals-added policy cfg files es usable =
    subst (λ (s : State). PassAll s es → let rs : List Request = lab_assignments (desk_with policy cfg files) es in (length rs ≡ all_requests cfg rs + full_among rs) × (all_hits (file_size_in files) cfg rs ≤ all_requests cfg rs))
    (sym (first-is policy cfg files)) (λ pass. totals-add policy cfg files es (first-told policy cfg files es usable pass))
