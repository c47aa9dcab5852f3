-- The first of the line is handed off with the path that it waits with.
use Rattle.std.proofs.Common.{◌≡◌, ℕ, true, List, Option, Some, option_map, sym, ap, ◌∙◌}
use Rattle.std.specs.FinMap as table
use Rattle.lard_endpoint.specs.Control.{ControlBlock}
use Rattle.lard_rules.specs.declared.front.FrontState.{FrontState}
use Rattle.lard_rules.specs.declared.front.FrontTurn.{FrontTurn}
use Rattle.lard_rules.specs.Front.{admitted_at, admitted_by, front_admitted_with, front_admitted, handed_off, front_rest}
use Rattle.lard_rules.specs.FrontPlace.{front_part}
use Rattle.lard_front.specs.declared.turns.Around.{Around}
use Rattle.lard_front.specs.Hand.{Holds, front_count_of, front_env_of, gives, handed_at, handed_by, target_of}
use Rattle.lard_front.proofs.Heard.{IsNew, begins}
use Rattle.lard_handoff_front.specs.declared.row.FrontRow.{FrontRow}
use Rattle.lard_handoff_front.specs.Row.{held_in}
use Rattle.lard_policy.specs.declared.first.FirstChoice.{FirstChoice}
use Rattle.lard_rules.specs.Serving.{Service}
use Rattle.lard_serving.specs.declared.answering.Service.{Service as Served}
use Rattle.std.proofs.Common.{refl}

pub admitted_is : (around : Around) (s : FrontState) (h : Holds s around.serve.c true) (w : Served) (n : ℕ) (path : List ℕ) (choice : FirstChoice) (new : FrontState) (t : FrontTurn) → IsNew w n
    → n ≡ front_count_of (table.get s.rests around.serve.c) → target_of (table.get s.rests around.serve.c) ≡ Some path
    → handed_at (front_env_of around s) s w path choice (table.get s.conns around.serve.c) ≡ Some (new, t)
    → option_map (gives s around.serve.c) (front_admitted (front_env_of around s) (front_part s around.serve.c) choice) ≡ Some (new, t)
admitted_is around s h w n path choice new t is many waits handed =
    let k = around.serve.c in
    let env = front_env_of around s in
    let p = front_part s k in
    ap (λ o. option_map (gives s k) (admitted_by env p choice o)) h.found
    ∙ ap (λ x. option_map (gives s k) (admitted_at env p choice h.row x)) h.stage
    ∙ ap (λ o. option_map (gives s k) (front_admitted_with env h.row (front_rest p.rest) h.block choice o)) waits
    ∙ ap (λ (x : Service). Some (gives s k (handed_off env h.row x path choice))) (sym (begins h.block h.block w n (front_count_of (table.get s.rests k)) is many refl))
    ∙ sym (ap (λ (o : Option ControlBlock). handed_by env s w path choice h.row o) (ap held_in h.stage))
    ∙ sym (ap (λ (o : Option FrontRow). handed_at env s w path choice o) h.found)
    ∙ handed
