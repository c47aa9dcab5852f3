use Rattle.std.proofs.Common.{◌≡◌, ◌⊎◌, ℕ, ◌+◌, ◌≤◌, List, take, Ok, Err, refl, sym, ◌∙◌, subst, arith}
use Rattle.std.specs.Io.KnownBytes.{IsAtEnd}
use Rattle.lard_audit_run.specs.Audited.{audit_begin, audit_ending, audit_passed}
use Rattle.lard_audit_run.specs.Seen.{AuditPasses}
use Rattle.lard_audit_run.proofs.Passing.{passed-took}
use Rattle.lard_audit_run.proofs.Reading.{ending_no_read, reading_end, reading_failed, reading_first, reading_more, reading_on, reading_starved, reading_stop, stop_no_read}
use Rattle.lard_audit_run.proofs.run.judge_lines.Goals as goal

pub loop-len-init : goal.loop-len-init
loop-len-init g c = record {
  course = (audit_begin, c.requires.begins, reading_first _ _ c.requires.unread);
  counted = c.requires.counted;
  read_faults = refl;
}

pub loop-len-smaller : goal.loop-len-smaller
loop-len-smaller g c =
    let s = c.loop-len.invariant.course.0 in
    let here = c.loop-len.invariant.course.1 in
    let t = c.in-Ok.ensures.passed s here in
    let took = passed-took s t.0 _ t.1 in
    let counted = c.loop-len.invariant.counted.read in omega (arith, counted, here.read, took.read, t.2.read)

pub loop-len-preserved : goal.loop-len-preserved
loop-len-preserved g c =
    let s = c.loop-len.invariant.course.0 in
    let here = c.loop-len.invariant.course.1 in
    let more = (reading_more _ _ _ _ _ _ c.loop-len.invariant.course.2 c.find_line.ensures.taken c.find_line.ensures.count c.find_line.ensures.bound c.find_line.ensures.most) in
    let t = c.in-Ok.ensures.passed s here in
    record {
      course = (
        t.0,
        t.2,
        reading_on _ _ c.find_line.new.self s more c.in-Ok-Some.len c.pass-in-Ok.new.self t.0 (sym c.in-Ok-Some.ensures.found ∙ c.in-Ok-Some.field-0-is) c.pass-in-Ok.ensures
            (subst (λ (rest : List ℕ). audit_passed s (take c.in-Ok-Some.len rest) ≡ Ok t.0) c.rest.ensures.value t.1),
      );
      counted = c.in-Ok.ensures.counted;
      read_faults = c.find_line.ensures.same (λ e. cc) ∙ c.loop-len.invariant.read_faults;
    }

pub returns-in-Err-clause-judged : goal.returns-in-Err-clause-judged
returns-in-Err-clause-judged g c =
    let s = c.loop-len.invariant.course.0 in
    let here = c.loop-len.invariant.course.1 in
    let more = (reading_more _ _ _ _ _ _ c.loop-len.invariant.course.2 c.find_line.ensures.taken c.find_line.ensures.count c.find_line.ensures.bound c.find_line.ensures.most) in
    reading_stop _ _ c.find_line.new.self s more c.in-Ok-Some.len c.in-Err.verdict c.pass.new.self (sym c.in-Ok-Some.ensures.found ∙ c.in-Ok-Some.field-0-is)
    (subst (λ (rest : List ℕ). AuditPasses (audit_passed s (take c.in-Ok-Some.len rest)) c.pass.new.self (Err c.in-Err.verdict)) c.rest.ensures.value (c.in-Err.ensures.passed s here))

pub returns-in-Err-clause-read_fault : goal.returns-in-Err-clause-read_fault
returns-in-Err-clause-read_fault g c = λ e.
    let s = c.loop-len.invariant.course.0 in
    let here = c.loop-len.invariant.course.1 in absurd (stop_no_read s _ c.pass.new.self c.in-Err.verdict (c.in-Err.ensures.passed s here) e)

pub returns-in-Ok-None-clause-judged : goal.returns-in-Ok-None-clause-judged
returns-in-Ok-None-clause-judged g c =
    let s = c.loop-len.invariant.course.0 in
    let here = c.loop-len.invariant.course.1 in
    let more = (reading_more _ _ _ _ _ _ c.loop-len.invariant.course.2 c.find_line.ensures.taken c.find_line.ensures.count c.find_line.ensures.bound c.find_line.ensures.most) in
    reading_end _ _ c.find_line.new.self s more (sym c.in-Ok-None.ensures.found ∙ c.in-Ok-None.field-0-is) c.end.result
    (subst (λ n. IsAtEnd (g.S.Source.left c.find_line.new.source) ⊎ (c.find_line.new.self.read ≡ n + 1)) (sym c.find_line.ensures.most) (c.in-Ok-None.ensures.ended c.in-Ok-None.field-0-is))
    (subst (λ (rest : List ℕ). c.end.result ≡ audit_ending s rest) c.rest-in-Ok-None.ensures.value (c.end.ensures s here))

pub returns-in-Ok-None-clause-read_fault : goal.returns-in-Ok-None-clause-read_fault
returns-in-Ok-None-clause-read_fault g c = λ e.
    let s = c.loop-len.invariant.course.0 in
    let here = c.loop-len.invariant.course.1 in absurd (ending_no_read s c.rest-in-Ok-None.result.now (sym (c.end.ensures s here) ∙ e))

pub returns-in-Err-Failed-clause-judged : goal.returns-in-Err-Failed-clause-judged
returns-in-Err-Failed-clause-judged g c =
    let s = c.loop-len.invariant.course.0 in
    let more = (reading_more _ _ _ _ _ _ c.loop-len.invariant.course.2 c.find_line.ensures.taken c.find_line.ensures.count c.find_line.ensures.bound c.find_line.ensures.most) in
    reading_failed _ _ c.find_line.new.self s more c.in-Err-Failed.ensures.err (subst (λ n. c.find_line.new.self.read ≤ n) (sym c.find_line.ensures.most) c.in-Err-Failed.ensures.within)

pub returns-in-Err-NoMemory-clause-judged : goal.returns-in-Err-NoMemory-clause-judged
returns-in-Err-NoMemory-clause-judged g c =
    let s = c.loop-len.invariant.course.0 in
    let more = (reading_more _ _ _ _ _ _ c.loop-len.invariant.course.2 c.find_line.ensures.taken c.find_line.ensures.count c.find_line.ensures.bound c.find_line.ensures.most) in reading_starved _ _ c.find_line.new.self s more
