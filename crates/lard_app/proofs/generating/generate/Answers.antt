-- The four lines were made and written, or were not.
use Rattle.std.proofs.Common.{subst}
use Rattle.std.specs.Io.KnownBytes.{Appends}
use Rattle.lard_law_view.specs.Prelude.{WrotePrefix}
use Rattle.lard_app.proofs.Spelled.{says-all, says-nothing, says-some}
use Rattle.lard_app.proofs.generating.generate.Goals as goal

pub returns-in-Err-clause-generated : goal.returns-in-Err-clause-generated
returns-in-Err-clause-generated g c = says-nothing c.args.seed c.args.clients c.requires.clients.1 c.in-Err.status _ c.in-Err.ensures

pub returns-in-Ok-write_all-clause-generated : goal.returns-in-Ok-write_all-clause-generated
returns-in-Ok-write_all-clause-generated g c = says-all c.args.seed c.args.clients c.requires.clients.1 c.in-Ok.text _ _ c.in-Ok.ensures
    (subst (Appends (g.K.Sink.written c.args.sink.now) (g.K.Sink.written c.write_all.new.sink)) c.as_slice.ensures c.in-Ok-write_all.ensures.ok)

pub returns-in-Err-write_all-clause-generated : goal.returns-in-Err-write_all-clause-generated
returns-in-Err-write_all-clause-generated g c = says-some c.args.seed c.args.clients c.requires.clients.1 c.in-Ok.text _ _ c.in-Ok.ensures
    (subst (WrotePrefix (g.K.Sink.written c.args.sink.now) (g.K.Sink.written c.write_all.new.sink)) c.as_slice.ensures c.in-Err-write_all.ensures.err)
