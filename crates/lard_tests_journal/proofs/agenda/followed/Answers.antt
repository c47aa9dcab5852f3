-- Nothing was noted yet.
use Rattle.lard_agenda.proofs.Follows.{unnoted}
use Rattle.lard_tests_journal.proofs.agenda.followed.Goals as goal

pub follow-requires : goal.follow-requires
follow-requires c = unnoted c.new-agenda.result c.as_slice.result.now c.new-agenda.ensures
