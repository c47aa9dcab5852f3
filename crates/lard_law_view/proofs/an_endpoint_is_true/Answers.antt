-- Each law, by its lemma.
use Rattle.lard_law_view.proofs.Endpoint.{listening-begins, emitted-fair, timed-fair, emit-left, timer-left, arriving-speaks, arriving-hears}
use Rattle.lard_law_view.proofs.StreamHearing.{heard-consumed, heard-discarded}
use Rattle.lard_law_view.proofs.Speaking.{speaks-queued, speaks-closed}
use Rattle.lard_law_view.proofs.an_endpoint_is_true.Goals as goal

pub returns : goal.returns
returns c = record {
  listening = listening-begins;
  emitted = λ b bytes r _ h. emitted-fair b bytes h r;
  timed = λ b bytes r _ h. timed-fair b bytes h r;
  leaving = λ b bytes h. (emit-left b bytes h, timer-left b bytes h);
  arriving = arriving-speaks;
  hearing = arriving-hears;
  queueing = λ b. speaks-queued b.send;
  finishing = λ b. speaks-closed b.send;
  reading = λ x b n h. (heard-consumed x b.recv n h, heard-discarded x b.recv h);
}
