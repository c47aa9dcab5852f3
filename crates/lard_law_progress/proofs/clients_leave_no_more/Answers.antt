-- By what a client keeps in its turn.
use Rattle.lard_law_progress.proofs.Clients.{client-less, client-steady, heard-turned, timer-turned}
use Rattle.lard_law_view.specs.Prelude.{client_after_timer, client_arrived, client_speaks}
use Rattle.lard_law_progress.proofs.clients_leave_no_more.Goals as goal

pub returns : goal.returns
returns c k nodes files p st = (
  (λ s a b. (client-less k nodes files p st (client_speaks (client_arrived st.client s).1).1 (heard-turned st.client s) a b, client-steady k nodes files p st (client_speaks (client_arrived st.client s).1).1 (heard-turned st.client s) a b)),
  (λ a b. (client-less k nodes files p st (client_speaks (client_after_timer st.client)).1 (timer-turned st.client) a b, client-steady k nodes files p st (client_speaks (client_after_timer st.client)).1 (timer-turned st.client) a b)),
)
