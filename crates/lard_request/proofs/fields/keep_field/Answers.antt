-- The field is kept under its name, or nobody asks for it.
use Rattle.std.proofs.Common.{◌∙◌, ap, Err, List, ℕ}
use Rattle.http_header.specs.HeaderMap.{append}
use Rattle.lard_request.proofs.Keeping.{keeps-appended, keeps-none, grows-appended}
use Rattle.lard_request.proofs.fields.keep_field.Goals as goal

pub returns-in-Err-Invalid-clause-kept : goal.returns-in-Err-Invalid-clause-kept
returns-in-Err-Invalid-clause-kept c = keeps-none c.args.fields.now c.args.name.now c.args.value.now (c.in-Err-Invalid.ensures.invalid.0 (ap Err c.in-Err-Invalid.field-0-is))

pub returns-in-Ok-append-clause-kept : goal.returns-in-Ok-append-clause-kept
returns-in-Ok-append-clause-kept c =
    keeps-appended c.args.fields.now c.append.new.self c.args.name.now c.args.value.now
    (c.in-Ok-append.ensures.ok ∙ ap (λ (n : List ℕ). append c.args.fields.now n c.in_ok-value.value) c.in-Ok.ensures.ok ∙ ap (append c.args.fields.now _) c.in_ok-value.ensures)

pub returns-in-Ok-append-clause-grown : goal.returns-in-Ok-append-clause-grown
returns-in-Ok-append-clause-grown c = grows-appended c.args.fields.now c.append.new.self c.in-Ok.name c.in_ok-value.value c.in-Ok-append.ensures.ok
