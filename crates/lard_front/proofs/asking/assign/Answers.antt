-- As many nodes are chosen as there are paths, and the Tag says them.
use Rattle.std.proofs.Common.{◌≡◌, ℕ, ◌+◌, ◌++◌, length, map, sym, ap, ◌∙◌, arith}
use Rattle.std.proofs.lemmas.List.{length-map}
use Rattle.lard_costs.specs.declared.later.LaterChoice.{LaterChoice}
use Rattle.lard_dispatch.specs.Calls.{later_answer}
use Rattle.lard_rules.specs.Front.{assigned_notes, over_note}
use Rattle.lard_rules.proofs.FrontDeeds.{many-choices}
use Rattle.lard_front.proofs.Assigning.{assigned-with}
use Rattle.lard_front.proofs.asking.assign.Goals as goal
use Rattle.lard_front.specs.Hand.{front_env_of}

pub notes-requires-clause-each : goal.notes-requires-clause-each
notes-requires-clause-each c = ap length c.as_slice.ensures ∙ ap (λ l. length l.choices) c.in_ok-over.ensures.answer ∙ many-choices c.args.state.now.dispatch c.args.ask c.args.around.now.time

pub telling-requires : goal.telling-requires
telling-requires c =
    let many : length c.in_ok-nodes.nodes ≡ length c.args.ask.paths =
    ap length c.in_ok-nodes.ensures ∙ length-map c.as_slice-2.result.now (λ (x : LaterChoice). x.node) ∙ ap length c.as_slice-2.ensures
    ∙ ap (λ l. length l.choices) c.in_ok-over.ensures.answer ∙ many-choices c.args.state.now.dispatch c.args.ask c.args.around.now.time in
    (omega (arith, many, c.requires.ask.some), omega (arith, many, c.requires.ask.within, c.requires.ask.few))

pub returns-clause-turn : goal.returns-clause-turn
returns-clause-turn c =
    let d = c.args.state.now.dispatch in
    let l = later_answer d c.args.ask c.args.around.now.time in
    let chosen : c.in_ok-over.field-0.choices ≡ l.choices = ap (λ l. l.choices) c.in_ok-over.ensures.answer in
    let each : c.in_ok-nodes.nodes ≡ map (λ (x : LaterChoice). x.node) l.choices =
    c.in_ok-nodes.ensures ∙ ap (map (λ (x : LaterChoice). x.node)) (c.as_slice-2.ensures ∙ chosen) in
    let noted : c.in_ok-notes.notes ≡ over_note c.args.ask.c l.over ++ assigned_notes c.args.ask.c c.args.ask c.args.assigned c.args.ask.paths l.choices =
    c.in_ok-notes.ensures
    ∙ (λ j. over_note c.args.ask.c ((ap (λ l. l.over) c.in_ok-over.ensures.answer) j) ++ assigned_notes c.args.ask.c c.args.ask c.args.assigned c.args.ask.paths ((c.as_slice.ensures ∙ chosen) j)) in
    let many : c.in-Some.last ≡ c.args.assigned + length c.args.ask.paths = c.in-Some.ensures.1 ∙ ap (λ (n : ℕ). c.args.assigned + n) c.len.ensures in
    let ends = many ∙ ap (λ (n : ℕ). c.args.assigned + n) (sym (many-choices d c.args.ask c.args.around.now.time)) in
    assigned-with (front_env_of c.args.around.now c.args.state.now) c.args.state.now c.args.epoch.0 c.args.ask c.args.assigned l (sym c.requires.number)
    c.keep.ensures (c.in_ok-tag.ensures ∙ c.as_slice-3.ensures) each ends c.in_ok-over.ensures.ok noted c.in_ok-turn.ensures.turn
