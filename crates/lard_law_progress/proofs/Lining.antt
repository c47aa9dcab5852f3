-- A connection in the line hears, says again what it said, and is admitted: nothing that is left to do comes back.
use Rattle.std.proofs.Common.{◌≡◌, ◌≤◌, ◌+◌, ℕ, true, List, [], Some, ◌∙◌, subst, arith}
use Rattle.lard_law_view.specs.Prelude.{ControlBlock, Ending, FilesAt, FirstChoice, FrontEnv, FrontPart, FrontRow, Part, Said, Station, after_timer, fires_at, front_rest, front_rests, handed_off, hears_at, offering, on_segment, rested, serving, speaks, with_front}
use Rattle.lard_bound.specs.Seats.{Waiting, seat_of}
use Rattle.lard_bound.specs.Units.{Whole}
use Rattle.lard_handoff_front.specs.declared.row.FrontConn.TheVariants as stage
use Rattle.lard_law_progress.proofs.Ends.{heard-ahead, speaks-said, timer-said}
use Rattle.lard_law_progress.proofs.FrontRules.{by-rest}
use Rattle.lard_law_progress.proofs.Given.{IsFresh, SeatKnown}
use Rattle.lard_law_progress.proofs.Handing.{admitted-less, waits-on, waits-over}
use Rattle.lard_law_progress.proofs.Less.{Lasting}
use Rattle.lard_law_progress.proofs.Seating.{FrontLasts, seat-at, seat-offering, seat-over, seat-waits}
use Rattle.lard_rules.specs.declared.places.Ending.TheVariants as ending

module _ (w : Whole) (K : ℕ) (files : FilesAt) (p : Part) (st : Station) where
  abbrev To : FrontPart → Type 0
  To f = Lasting w K files p st (with_front p f) st

  module _ (row : FrontRow) (b : ControlBlock) (at : p.front.row ≡ Some row) (is : row.stage ≡ stage.Waiting b) (known : SeatKnown w st.client (seat_of p)) where
    abbrev count : ℕ
    count = (front_rest p.front.rest).count

    waits : seat_of p ≡ Waiting b count
    waits = seat-at p row (stage.Waiting b) at is

    knows : SeatKnown w st.client (Waiting b count)
    knows = subst (SeatKnown w st.client) waits known

    -- an endpoint that is as good says what it may: it goes on to wait, or ends
    goes-on : (c : ℕ) (d : ControlBlock) → b.send.una ≤ d.send.una → (b.send.finished ≡ true → d.send.finished ≡ true) → To (front_rests p.front row (front_rest p.front.rest) stage.Waiting (rested (speaks c d).1 count))
    goes-on c d una shut =
        let e = (speaks c d).1 in
        let s = speaks-said c d in
        let rest = front_rest p.front.rest in
        let u : e.send.una ≡ d.send.una = s.una in
        by-rest c d count (λ (o : Ending). To (front_rests p.front row rest stage.Waiting o))
        (waits-on w K files p st (front_rests p.front row rest stage.Waiting (ending.Here e count)) b e count waits (seat-waits p p.front row rest e count) (omega (arith, u, una)) (λ t. s.finished ∙ shut t))
        (λ last. waits-over w K files p st (front_rests p.front row rest stage.Waiting (ending.Over last)) b count last waits (seat-over p p.front row rest stage.Waiting last) knows.0)

    pub line-hears : (env : FrontEnv) (bytes : List ℕ) (s : Said) → FrontLasts w K files p st (hears_at env p.front row bytes s (stage.Waiting b))
    line-hears env bytes s behind = let h = heard-ahead b s in goes-on env.serve.c (on_segment b s).1 h.una h.shut

    pub line-fires : (env : FrontEnv) → FrontLasts w K files p st (fires_at env p.front row (stage.Waiting b))
    line-fires env behind = let h = (timer-said b).ahead in goes-on env.serve.c (after_timer b) h.una h.shut

    -- ---- the head of the line

    pub admits : (env : FrontEnv) (choice : FirstChoice) (path : List ℕ) → IsFresh p.nodes (Some row) → To (handed_off env row (serving b count []) path choice).0
    admits env choice path fresh =
        let f = offering env row (serving b count []) path choice.node in
        admitted-less w K files p st f b count choice.node (row.epoch.0 + 1) waits (seat-offering p env row (serving b count []) path choice.node (fresh choice.node)) knows.0 knows.2
