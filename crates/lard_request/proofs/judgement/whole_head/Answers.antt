-- What httparse finds is the block's head where it takes all bytes.
use Rattle.std.proofs.Common.{◌∙◌, ap, Ok}
use Rattle.httparse.specs.Spans.{IsRequestOf, IsRequestAt}
use Rattle.lard_request.proofs.Finding.{found-at, complete-at, not-found, not-read, head-found, head-whole, head-none}
use Rattle.lard_request.proofs.Reading.{head-sound}
use Rattle.lard_request.proofs.judgement.whole_head.Goals as goal

pub returns-then-head-block-clause-found : goal.returns-then-head-block-clause-found
returns-then-head-block-clause-found c =
    let found = complete-at c.parse_request.result c.in-Ok-Complete.head (IsRequestOf c.args.block.now c.parse_request.new.headers) (c.in-Ok-Complete.is ∙ ap Ok c.in-Ok-Complete.field-0-is) c.parse_request.ensures.complete in
    (found.0, head-found c.args.block.now c.parse_request.new.headers c.in-Ok-Complete.head found.0 found.1 c.if-head-block.true, found.1)

pub returns-else-head-block-clause-none : goal.returns-else-head-block-clause-none
returns-else-head-block-clause-none c =
    head-none c.args.block.now (λ h e.
    c.if-head-block.false (head-whole c.args.block.now c.parse_request.new.headers c.in-Ok-Complete.head h e
    (found-at c.parse_request.result c.in-Ok-Complete.head (λ parts. IsRequestAt c.args.block.now c.parse_request.new.headers parts h) (c.in-Ok-Complete.is ∙ ap Ok c.in-Ok-Complete.field-0-is)
    (c.parse_request.ensures.found h _ (head-sound c.args.block.now h e) (c.requires h e)))))

pub returns-in-Ok-Partial-clause-none : goal.returns-in-Ok-Partial-clause-none
returns-in-Ok-Partial-clause-none c =
    head-none c.args.block.now (λ h e.
    not-found c.parse_request.result (λ parts. IsRequestAt c.args.block.now c.parse_request.new.headers parts h) (c.in-Ok-Partial.is ∙ ap Ok c.in-Ok-Partial.field-0-is)
    (c.parse_request.ensures.found h _ (head-sound c.args.block.now h e) (c.requires h e)))

pub returns-in-Err-clause-none : goal.returns-in-Err-clause-none
returns-in-Err-clause-none c =
    head-none c.args.block.now (λ h e.
    not-read c.parse_request.result c.in-Err.field-0 (λ parts. IsRequestAt c.args.block.now c.parse_request.new.headers parts h) c.in-Err.is
    (c.parse_request.ensures.found h _ (head-sound c.args.block.now h e) (c.requires h e)))
