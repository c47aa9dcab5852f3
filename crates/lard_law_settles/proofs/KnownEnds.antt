-- In every state that events lead to: wherever its endpoint is, it talks with its client, and what the client's answers rest on, of a
-- connection that the schedule did not touch and whose client wrote little.
use Rattle.std.proofs.Common.{◌≡◌, ◌≤◌, false, ℕ, List, length, Some, subst, Ok}
use Rattle.lard_law_view.specs.Prelude.{Config, Conn, ControlBlock, IsReached, Machine, Setting, Station, config_check, conn, file_at, tale_at}
use Rattle.lard_base.proofs.Usable.{usable}
use Rattle.lard_bound.specs.Seats.{Held, Waiting, seat_of}
use Rattle.lard_bound.specs.Units.{Whole}
use Rattle.lard_client.specs.declared.phase.Phase.TheVariants.{Open}
use Rattle.lard_laws.proofs.AcksRuns.{connections-ack}
use Rattle.lard_law_connections.proofs.BytesRuns.{states-truthful}
use Rattle.lard_law_connections.proofs.LimitsRuns.{connections-counted}
use Rattle.lard_law_connections.proofs.SilenceRuns.{connections-have-spoken}
use Rattle.lard_laws.proofs.WindowsEarlyRuns.{stays-early}
use Rattle.lard_laws.proofs.WindowsRefusals.{refusals-answer}
use Rattle.lard_laws.proofs.WindowsRuns.{windows-reach}
use Rattle.lard_laws.proofs.WindowsWordRuns.{clients-start}
use Rattle.lard_law_settles.proofs.KnownClientSide.{IsMet, client-given}
use Rattle.lard_law_settles.proofs.KnownMeeting.{met}
use Rattle.lard_law_settles.proofs.KnownSeating.{IsLawful, held-given, talks-there, waiting-given}
use Rattle.lard_law_progress.proofs.AnswersClientGiven.{ClientGiven}
use Rattle.lard_law_progress.proofs.AnswersFrontGiven.{AtSeat, FrontGiven, IsTalking}
use Rattle.lard_law_progress.proofs.AnswersNodeGiven.{HasIt}
use Rattle.lard_law_progress.proofs.Given.{Known}

module _ (config : Config) (files : List (List ℕ × List ℕ)) (checked : config_check config ≡ Ok tt) (m : Machine) (reached : IsReached config files m) (q : ℕ) (free : (tale_at (conn m q)).touched ≡ false)
    (few : length (tale_at (conn m q)).wrote ≤ 16382) where
  abbrev x : Conn
  x = conn m q

  pub lawful : IsLawful (file_at files) config.stream x
  lawful = record {
    truth = states-truthful config files checked m reached q free;
    acks = connections-ack config files checked m reached q free;
    counts = connections-counted config files checked m reached q;
    spoken = connections-have-spoken config files (usable config checked).stream m reached q;
    reaches = windows-reach config files checked m reached q free;
    refusals = refusals-answer config files checked m reached q free;
    starts = clients-start config files checked m reached q free;
    few = few;
  }

  -- before its client is established
  pub each-met : (st : Station) → x.part.station ≡ Some st → IsMet x st
  each-met st at = met x st at (stays-early config files checked m reached q free)

  module _ (set : Setting) (w : Whole) (known : (st : Station) → x.part.station ≡ Some st → Known set w x st) where
    pub each-held : (st : Station) (b : ControlBlock) (count : ℕ) → x.part.station ≡ Some st → seat_of x.part ≡ Held b count → AtSeat w st (Held b count)
    each-held st b count at = held-given (file_at files) config.stream x st at lawful set w (known st at) b count

    pub each-waiting : (st : Station) (b : ControlBlock) (count : ℕ) → x.part.station ≡ Some st → seat_of x.part ≡ Waiting b count → AtSeat w st (Waiting b count)
    each-waiting st b count at = waiting-given (file_at files) config.stream x st at lawful set w (known st at) b count

    pub each-talks : (st : Station) (n e : ℕ) (b : ControlBlock) → x.part.station ≡ Some st → HasIt x n e b → IsTalking st b
    each-talks st n e b at = talks-there (file_at files) config.stream x st at lawful set w (known st at) n e b

    -- where no client holds, and what no law says yet is so
    pub each-client : FrontGiven (file_at files) w x → ((st : Station) → x.part.station ≡ Some st → st.client.phase ≡ Open → st.client.holding ≡ false)
        → ((st : Station) (at : x.part.station ≡ Some st) → IsMet x st) → ClientGiven x
    each-client front holds-none met = client-given (file_at files) config.stream x lawful set w known
        (λ st at last eq. subst (AtSeat w st) eq (front.seats st at)) holds-none met
