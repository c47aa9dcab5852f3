use Rattle.std.proofs.Common.{◌≡◌, ◌⊎◌, ℕ, ◌+◌, ◌-◌, ◌<◌, ◌≤◌, List, take, Ok, Err, refl, sym, ap, ◌∙◌, subst, arith}
use Rattle.std.specs.Io.KnownBytes.{Appends, IsAtEnd}
use Rattle.lard_law_view.specs.Prelude.{MAX_INPUT_BYTES}
use Rattle.lard_app.specs.Replay.{HaltsAt, PassesLine, ending, gain, halted, line_passed}
use Rattle.lard_app.specs.Seen.{replay_seen}
use Rattle.lard_app.proofs.Passing.{passed-read}
use Rattle.lard_app.proofs.Reading.{Reading, reading_end, reading_failed, reading_first, reading_more, reading_on, reading_starved, reading_stop}
use Rattle.lard_app.proofs.commands.replay_lines.Goals as goal

pub loop-len-init : goal.loop-len-init
loop-len-init g c = record {
  reading = reading_first _ _ _ _ c.requires.unread c.requires.begins;
  usable = c.requires.usable;
  agenda = c.requires.agenda;
  read_faults = refl;
  faults = refl;
}

pub loop-len-smaller : goal.loop-len-smaller
loop-len-smaller g c = less where
  less : MAX_INPUT_BYTES + 1 - c.pass.new.self.read < MAX_INPUT_BYTES + 1 - c.loop-len.replay.read
  less = let counted = (passed-read (replay_seen c.loop-len.replay) (replay_seen c.pass.new.self) _ c.in-Ok.ensures.passed.0).1 in omega (arith, counted, c.loop-len.invariant.reading.going.keeps.read)

pub loop-len-preserved : goal.loop-len-preserved
loop-len-preserved g c = record {
  reading = reading_on _ _ _ _ c.find_line.new.self (replay_seen c.loop-len.replay) more c.in-Ok-Some.len c.pass-in-Ok.new.self (replay_seen c.pass.new.self) _ (sym c.in-Ok-Some.ensures.found ∙ c.in-Ok-Some.field-0-is) c.pass-in-Ok.ensures
      (subst (λ (rest : List ℕ). (line_passed (replay_seen c.loop-len.replay) (take c.in-Ok-Some.len rest) ≡ Ok (replay_seen c.pass.new.self)) × Appends (g.K.Sink.written c.loop-len.sink) (g.K.Sink.written c.pass.new.sink) (gain (replay_seen c.loop-len.replay) (take c.in-Ok-Some.len rest)))
      c.rest.ensures.value c.in-Ok.ensures.passed);
  usable = c.in-Ok.ensures.usable;
  agenda = c.in-Ok.ensures.agenda;
  read_faults = c.find_line.ensures.same (λ e. cc) ∙ c.loop-len.invariant.read_faults;
  faults = c.in-Ok.ensures.faults ∙ c.loop-len.invariant.faults;
} where
  more : Reading (g.S.Source.left c.args.source.now) (g.S.Source.left c.find_line.new.source) c.find_line.new.self (replay_seen c.loop-len.replay) (g.K.Sink.written c.args.sink.now) (g.K.Sink.written c.loop-len.sink)
  more = reading_more _ _ _ _ _ _ _ _ c.loop-len.invariant.reading c.find_line.ensures.taken c.find_line.ensures.count c.find_line.ensures.bound c.find_line.ensures.most

pub returns-in-Err-clause-reads : goal.returns-in-Err-clause-reads
returns-in-Err-clause-reads g c = reading_stop _ _ _ _ c.find_line.new.self (replay_seen c.loop-len.replay) more c.in-Ok-Some.len c.in-Err.status (replay_seen c.pass.new.self) _ (sym c.in-Ok-Some.ensures.found ∙ c.in-Ok-Some.field-0-is)
    (subst (λ (rest : List ℕ). PassesLine (line_passed (replay_seen c.loop-len.replay) (take c.in-Ok-Some.len rest)) (gain (replay_seen c.loop-len.replay) (take c.in-Ok-Some.len rest)) (g.K.Sink.written c.loop-len.sink) (g.K.Sink.written c.pass.new.sink) (replay_seen c.pass.new.self) (Err c.in-Err.status))
    c.rest.ensures.value c.in-Err.ensures.passed)
    (subst (λ (rest : List ℕ). HaltsAt (halted (replay_seen c.loop-len.replay) (take c.in-Ok-Some.len rest)).machine c.pass.new.self.world.machine (Err c.in-Err.status)) c.rest.ensures.value c.in-Err.ensures.halts)
    c.tell_widths.ensures where
      more : Reading (g.S.Source.left c.args.source.now) (g.S.Source.left c.find_line.new.source) c.find_line.new.self (replay_seen c.loop-len.replay) (g.K.Sink.written c.args.sink.now) (g.K.Sink.written c.loop-len.sink)
      more = reading_more _ _ _ _ _ _ _ _ c.loop-len.invariant.reading c.find_line.ensures.taken c.find_line.ensures.count c.find_line.ensures.bound c.find_line.ensures.most

pub returns-in-Ok-None-clause-reads : goal.returns-in-Ok-None-clause-reads
returns-in-Ok-None-clause-reads g c = reading_end _ _ _ _ c.find_line.new.self (replay_seen c.loop-len.replay) more (sym c.in-Ok-None.ensures.found ∙ c.in-Ok-None.field-0-is) c.end.result (subst (λ n. IsAtEnd (g.S.Source.left c.find_line.new.source) ⊎ (c.find_line.new.self.read ≡ n + 1)) (sym c.find_line.ensures.most) (c.in-Ok-None.ensures.ended c.in-Ok-None.field-0-is)) (c.end.ensures ∙ ap (ending (replay_seen c.loop-len.replay)) c.rest-in-Ok-None.ensures.value) c.tell_widths-in-Ok-None.ensures where
  more : Reading (g.S.Source.left c.args.source.now) (g.S.Source.left c.find_line.new.source) c.find_line.new.self (replay_seen c.loop-len.replay) (g.K.Sink.written c.args.sink.now) (g.K.Sink.written c.loop-len.sink)
  more = reading_more _ _ _ _ _ _ _ _ c.loop-len.invariant.reading c.find_line.ensures.taken c.find_line.ensures.count c.find_line.ensures.bound c.find_line.ensures.most

pub returns-in-Err-Failed-clause-reads : goal.returns-in-Err-Failed-clause-reads
returns-in-Err-Failed-clause-reads g c = reading_failed _ _ _ _ c.find_line.new.self (replay_seen c.loop-len.replay) more c.in-Err-Failed.ensures.err (subst (λ n. c.find_line.new.self.read ≤ n) (sym c.find_line.ensures.most) c.in-Err-Failed.ensures.within) c.tell_widths-in-Err-Failed.ensures where
  more : Reading (g.S.Source.left c.args.source.now) (g.S.Source.left c.find_line.new.source) c.find_line.new.self (replay_seen c.loop-len.replay) (g.K.Sink.written c.args.sink.now) (g.K.Sink.written c.loop-len.sink)
  more = reading_more _ _ _ _ _ _ _ _ c.loop-len.invariant.reading c.find_line.ensures.taken c.find_line.ensures.count c.find_line.ensures.bound c.find_line.ensures.most

pub returns-in-Err-NoMemory-clause-reads : goal.returns-in-Err-NoMemory-clause-reads
returns-in-Err-NoMemory-clause-reads g c = reading_starved _ _ _ _ c.find_line.new.self (replay_seen c.loop-len.replay) more where
  more : Reading (g.S.Source.left c.args.source.now) (g.S.Source.left c.find_line.new.source) c.find_line.new.self (replay_seen c.loop-len.replay) (g.K.Sink.written c.args.sink.now) (g.K.Sink.written c.loop-len.sink)
  more = reading_more _ _ _ _ _ _ _ _ c.loop-len.invariant.reading c.find_line.ensures.taken c.find_line.ensures.count c.find_line.ensures.bound c.find_line.ensures.most
