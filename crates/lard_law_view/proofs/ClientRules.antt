-- All rules of a client together.
use Rattle.lard_law_view.proofs.Acked.{RulesAct}
use Rattle.lard_law_view.proofs.ClientActs.{aborts-acts, gets-acts, holds-acts, opens-acts, shuts-acts, shuts-finish, takes-acts, timer-acts, writes-acts}

pub all-act : RulesAct
all-act = record {
  opens = opens-acts;
  writes = writes-acts;
  shuts = shuts-acts;
  finishes = shuts-finish;
  aborts = aborts-acts;
  holds = holds-acts;
  takes = takes-acts;
  client_timer = timer-acts;
  client_gets = gets-acts;
}
