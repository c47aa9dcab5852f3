-- A connection that is admitted from the line is offered then: a unit goes.
use Rattle.std.proofs.Common.{◌≡◌, ◌<◌, ◌≤◌, ◌+◌, Option, Some, None, [], refl, sym, ap, ◌∙◌, subst, ⊎_elim}
use Rattle.std.proofs.lemmas.Bool.{cases_lt}
use Rattle.lard_law_view.specs.Prelude.{Conn, FilesAt, FirstChoice, FrontEnv, FrontPart, FrontTurn, Part, Service, Setting, Station, admitted_by, front_admits, front_admitted, front_rest, grown, handed_off, serving, with_front}
use Rattle.lard_bound.specs.Progress.{Lasts, spot_with}
use Rattle.lard_bound.specs.Spots.{InLine, OnOffer, Spot, post_of, spot_of}
use Rattle.lard_bound.specs.Units.{Whole, units}
use Rattle.lard_handoff_front.specs.declared.row.FrontConn.TheVariants as stage
use Rattle.lard_law_progress.proofs.AnswersNodeStill.{post-is}
use Rattle.lard_law_progress.proofs.Given.{IsFresh}
use Rattle.lard_law_progress.proofs.Seating.{seat-at, seat-offering}
use Rattle.lard_rules.proofs.FrontCases.{admitted-keeps}

none-given : (g : FrontPart × FrontTurn) → ◌≡◌ {A = Option (FrontPart × FrontTurn)} None (Some g) → ⊥
none-given g e = cc

pub admitted-moves : (files : FilesAt) (p : Part) (st : Station) (env : FrontEnv) (choice : FirstChoice) (given : FrontPart × FrontTurn) → spot_of files (with_front p given.0) st ≡ spot_of files p st
    → IsFresh p.nodes p.front.row → front_admitted env p.front choice ≡ Some given → ⊥
admitted-moves files p st env choice given same fresh e = admitted-keeps env p.front choice (λ (g : FrontPart × FrontTurn). spot_of files (with_front p g.0) st ≡ spot_of files p st → ⊥) (λ row b path at target here.
    let w : Service = serving b (front_rest p.front.rest).count [] in
    let was = ap (post_of files st.client) (seat-at p row (stage.Waiting b) at.0 at.1) in
    let now = ap (post_of files st.client) (seat-offering p env row w path choice.node (subst (IsFresh p.nodes) at.0 fresh choice.node)) in
    let bad : OnOffer choice.node (row.epoch.0 + 1) ≡ InLine =
    sym now ∙ sym (post-is files (with_front p (handed_off env row w path choice).0) st) ∙ ap (λ (s : Spot). s.post) here ∙ post-is files p st ∙ was in
    absurd cc) given e same

-- nobody is admitted who did not open
pub unopened-waits : (env : FrontEnv) (f : FrontPart) (choice : FirstChoice) (given : FrontPart × FrontTurn) → f.row ≡ None → front_admitted env f choice ≡ Some given → ⊥
unopened-waits env f choice given none e = none-given given (sym (ap (admitted_by env f choice) none) ∙ e)

-- so a unit goes
pub admitted-falls : (k : Setting) (w : Whole) (x : Conn) (env : FrontEnv) (choice : FirstChoice) (given : FrontPart × FrontTurn) → (x.part.station ≡ None → x.part.front.row ≡ None)
    → ((st : Station) → x.part.station ≡ Some st → IsFresh x.part.nodes x.part.front.row) → front_admitted env x.part.front choice ≡ Some given → Lasts k w x (front_admits x given)
    → units w k.nodes (grown x (front_admits x given)) < units w k.nodes x
admitted-falls k w x env choice given unopened fresh e lasts =
    ⊎_elim (λ (l : units w k.nodes (grown x (front_admits x given)) < units w k.nodes x). l) (λ (up : units w k.nodes x ≤ units w k.nodes (grown x (front_admits x given))). absurd (by-station x.part.station refl up))
    (cases_lt (units w k.nodes (grown x (front_admits x given))) (units w k.nodes x))
  where
    by-station : (o : Option Station) → x.part.station ≡ o → units w k.nodes x ≤ units w k.nodes (grown x (front_admits x given)) → ⊥
    by-station None at up = unopened-waits env x.part.front choice given (unopened at) e
    by-station (Some st) at up =
        let both : Some (spot_of k.files (with_front x.part given.0) st) ≡ Some (spot_of k.files x.part st) = sym (ap (spot_with k.files (grown x (front_admits x given))) at) ∙ lasts.steady up ∙ ap (spot_with k.files x) at in
        let same : spot_of k.files (with_front x.part given.0) st ≡ spot_of k.files x.part st = cc in
        admitted-moves k.files x.part st env choice given same (fresh st at) e
