-- Each call goes on behind what stands.
use Rattle.lard_journal.proofs.Begins.{begins_behind, on_err, on_err_behind}
use Rattle.lard_journal.proofs.lines.of_job.Goals as goal

pub returns-in_err-bytes-clause-err : goal.returns-in_err-bytes-clause-err
returns-in_err-bytes-clause-err c = on_err _ c.in_err-bytes.ensures.err

pub returns-in_err-node-clause-err : goal.returns-in_err-node-clause-err
returns-in_err-node-clause-err c = on_err _ (begins_behind _ _ _ _ c.in_ok-bytes.ensures.ok c.in_err-node.ensures.err)

pub returns-in_err-node-2-clause-err : goal.returns-in_err-node-2-clause-err
returns-in_err-node-2-clause-err c =
    on_err _ (begins_behind _ _ _ _ c.in_ok-bytes.ensures.ok (begins_behind _ _ _ _ c.in_ok-node.ensures.ok c.in_err-node-2.ensures.err))

pub returns-in_err-connection-clause-err : goal.returns-in_err-connection-clause-err
returns-in_err-connection-clause-err c =
    on_err _ (begins_behind _ _ _ _ c.in_ok-bytes.ensures.ok (begins_behind _ _ _ _ c.in_ok-node.ensures.ok
    (begins_behind _ _ _ _ c.in_ok-node-2.ensures.ok c.in_err-connection.ensures.err)))

pub returns-in_err-number-clause-err : goal.returns-in_err-number-clause-err
returns-in_err-number-clause-err c =
    on_err _ (begins_behind _ _ _ _ c.in_ok-bytes.ensures.ok (begins_behind _ _ _ _ c.in_ok-node.ensures.ok
    (begins_behind _ _ _ _ c.in_ok-node-2.ensures.ok (begins_behind _ _ _ _ c.in_ok-connection.ensures.ok c.in_err-number.ensures.err))))

pub returns-clause-err : goal.returns-clause-err
returns-clause-err c =
    on_err_behind _ (λ h. begins_behind _ _ _ _ c.in_ok-bytes.ensures.ok (begins_behind _ _ _ _ c.in_ok-node.ensures.ok
    (begins_behind _ _ _ _ c.in_ok-node-2.ensures.ok (begins_behind _ _ _ _ c.in_ok-connection.ensures.ok
    (begins_behind _ _ _ _ c.in_ok-number.ensures.ok h))))) c.path.ensures.err
