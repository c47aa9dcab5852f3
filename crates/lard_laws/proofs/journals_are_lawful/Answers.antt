-- By what each step adds.
use Rattle.lard_laws.proofs.StepsFollowing.{follows}
use Rattle.lard_laws.proofs.StepsLinking.{reached-linked}
use Rattle.lard_laws.proofs.StepsPlaces.{reached-in-place}
use Rattle.lard_laws.proofs.journals_are_lawful.Goals as goal

pub returns : goal.returns
returns c = record {
  network = λ config files m r. (reached-linked config files m r).each;
  places = λ config files m r. (reached-in-place config files m r).acts;
  clock = λ config files m r. (reached-in-place config files m r).times;
  follows = follows;
}
