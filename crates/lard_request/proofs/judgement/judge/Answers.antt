-- The judgements on a block, in their order.
use Rattle.std.proofs.Common.{sym, ◌∙◌, Some, None, arith}
use Rattle.lard_request.specs.Verdict.{pairs_in}
use Rattle.lard_request.proofs.Counting.{few_fields}
use Rattle.lard_request.proofs.Judging.{verdict-many, verdict-bare, verdict-read, is_many, is_few, is_too}
use Rattle.lard_request.proofs.judgement.judge.Goals as goal

pub returns-then-count_pairs-gt-MOST_PAIRS : goal.returns-then-count_pairs-gt-MOST_PAIRS
returns-then-count_pairs-gt-MOST_PAIRS c = verdict-many c.args.block.now (is_many c.count_pairs.result (pairs_in c.args.block.now) c.count_pairs.ensures c.if-count_pairs-gt-MOST_PAIRS.true)

pub returns-then-holds_bare_feed : goal.returns-then-holds_bare_feed
returns-then-holds_bare_feed c =
    verdict-bare c.args.block.now (is_few c.count_pairs.result (pairs_in c.args.block.now) c.count_pairs.ensures c.if-count_pairs-gt-MOST_PAIRS.false)
    (sym c.holds_bare_feed.ensures ∙ c.if-holds_bare_feed.true)

pub whole_head-requires : goal.whole_head-requires
whole_head-requires c = λ h e.
    let most = few_fields c.args.block.now h e (sym c.holds_bare_feed.ensures ∙ c.if-holds_bare_feed.false) in
    omega (arith, most, c.count_pairs.ensures, c.if-count_pairs-gt-MOST_PAIRS.false)

pub returns-in-Some : goal.returns-in-Some
returns-in-Some c =
    let found = c.in-Some.ensures.found in
    is_too c.judge_head.result _ _
    (verdict-read c.args.block.now (Some found.0) (is_few c.count_pairs.result (pairs_in c.args.block.now) c.count_pairs.ensures c.if-count_pairs-gt-MOST_PAIRS.false)
    (sym c.holds_bare_feed.ensures ∙ c.if-holds_bare_feed.false) found.1)
    (c.judge_head.ensures found.0 found.2)

pub returns-in-None : goal.returns-in-None
returns-in-None c =
    verdict-read c.args.block.now None (is_few c.count_pairs.result (pairs_in c.args.block.now) c.count_pairs.ensures c.if-count_pairs-gt-MOST_PAIRS.false)
    (sym c.holds_bare_feed.ensures ∙ c.if-holds_bare_feed.false) c.in-None.ensures.none
