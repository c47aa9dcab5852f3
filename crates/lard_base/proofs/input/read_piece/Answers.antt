-- The read's bytes end the text, or it ends as it was.
use Rattle.std.proofs.Common.{rules, arith, take, length, ◌+◌, ◌≤◌, ◌≡◌, [], ap, ◌∙◌}
use Rattle.std.specs.Result.{is_ok}
use Rattle.std.specs.Vec.{vec_len}
use Rattle.std.proofs.KnownBytes.{Consumes-nil, Consumes-kept}
use Rattle.lard_base.proofs.Texts.{grown, gained, regained, roomy}
use Rattle.lard_base.proofs.input.read_piece.Goals as goal

pub returns-in-Ok-clause-taken : goal.returns-in-Ok-clause-taken
returns-in-Ok-clause-taken g c = record {
  taken = take c.in-Ok.n c.read.new.buf;
  consumed = c.in-Ok.ensures.bytes.0;
  text = rw e at c.truncate.ensures.items ∙ gained c.args.text.now.items c.read.new.buf _ _ c.len-len.result c.in-Ok.n c.resize.new.self.len l c.in-Ok.ensures.bound.0 m;
} where
  l : length c.args.text.now.items ≡ c.len-len.result
  l = search rules

  m : c.len-len.result + c.in-Ok.n ≤ c.resize.new.self.len
  m = search rules

  e : take c.len-len.result c.as_mut_slice.result.now ≡ c.args.text.now.items
  e = ap (take c.len-len.result) (c.as_mut_slice.ensures.value ∙ c.resize.ensures.items) ∙ grown _ _ _ _ _ l

pub returns-in-Ok-clause-count : goal.returns-in-Ok-clause-count
returns-in-Ok-clause-count g c = omega (arith, c.truncate.ensures.len, m, c.len-len.ensures) where
  m : c.len-len.result + c.in-Ok.n ≤ c.resize.new.self.len
  m = search rules

pub returns-in-Err-clause-taken : goal.returns-in-Err-clause-taken
returns-in-Err-clause-taken g c = record {
  taken = [];
  consumed = Consumes-kept _ _ _ _ (Consumes-nil (g.S.Source.left c.args.source.now)) c.in-Err.ensures.bytes;
  text = rw e at c.truncate-in-Err.ensures.items ∙ regained c.args.text.now.items _ _ c.len-len.result c.resize.new.self.len l m;
} where
  l : length c.args.text.now.items ≡ c.len-len.result
  l = search rules

  m : c.len-len.result ≤ c.resize.new.self.len
  m = roomy (is_ok c.resize.result) c.resize.new.self.len c.len-len.result c.args.room (vec_len c.args.text.now) c.resize.ensures.len c.len-len.ensures

  e : take c.len-len.result c.as_mut_slice.result.now ≡ c.args.text.now.items
  e = ap (take c.len-len.result) (c.as_mut_slice.ensures.value ∙ c.resize.ensures.items) ∙ grown _ _ _ _ _ l

pub returns-in-Err-clause-err : goal.returns-in-Err-clause-err
returns-in-Err-clause-err g c = omega (arith, c.truncate-in-Err.ensures.len, m, c.len-len.ensures) where
  m : c.len-len.result ≤ c.resize.new.self.len
  m = roomy (is_ok c.resize.result) c.resize.new.self.len c.len-len.result c.args.room (vec_len c.args.text.now) c.resize.ensures.len c.len-len.ensures
