-- Each law, by its lemma.
use Rattle.lard_law_view.proofs.Accepting.{arrived-takes}
use Rattle.lard_law_view.proofs.Client.{opening-begins, emitted-fair, timed-fair, abort-fair, reply-fair, emit-left, timer-left, arriving-continues, written-speaks, closing-speaks, others-change_nothing}
use Rattle.lard_law_view.specs.Prelude.{stream_of}
use Rattle.lard_law_view.proofs.a_client_is_true.Goals as goal

pub returns : goal.returns
returns c = record {
  opening = opening-begins;
  emitted = λ b bytes r sound wide h. emitted-fair b bytes sound wide h r;
  timed = λ b bytes r sound wide h. timed-fair b bytes sound wide h r;
  abort = λ b bytes r h. abort-fair (stream_of b.send bytes) b r;
  reply = λ b bytes s r n h. reply-fair (stream_of b.send bytes) b s r n;
  leaving = λ x b bytes h a. (emit-left x b bytes h a, timer-left x b bytes h a);
  arriving = arriving-continues;
  accepting = λ x b s is q a t. arrived-takes x b s is q a t;
  writing = written-speaks;
  closing = closing-speaks;
  others = others-change_nothing;
}
