-- In every state that events lead to: what the front end's answers rest on, of a connection that the schedule did not touch.
use Rattle.std.proofs.Common.{◌≡◌, false, List, ℕ, Some, Ok, subst}
use Rattle.lard_law_view.specs.Prelude.{Client, Config, Conn, ControlBlock, Front, IsNode, IsReached, Machine, Node, Said, SpellsMessage, Station, ToCluster, Was, config_check, conn, decoded, file_at, front_rest, part_of, tale_at}
use Rattle.lard_bound.specs.Seats.{Held, Waiting, seat_of}
use Rattle.lard_bound.specs.Units.{Whole}
use Rattle.lard_laws.specs.Acks.{OpenActs, StationActs}
use Rattle.lard_laws.proofs.AcksRuns.{connections-ack}
use Rattle.lard_law_connections.specs.BytesAgreement.{IsOpen, IsTruthful}
use Rattle.lard_law_connections.proofs.BytesClientMoves.{open-at}
use Rattle.lard_law_connections.proofs.BytesRuns.{states-truthful}
use Rattle.lard_laws.proofs.EndedRuns.{connections-were-closed}
use Rattle.lard_law_connections.proofs.PastRuns.{each-end-is-of-its-stay}
use Rattle.lard_law_connections.proofs.PlacesFrontMessages.{never-back, no-give}
use Rattle.lard_law_connections.proofs.PlacesRuns.{each-placed, each-sits}
use Rattle.lard_laws.proofs.RecordsFronts.{RestKeeps}
use Rattle.lard_laws.proofs.RecordsHolding.{Holds}
use Rattle.lard_laws.proofs.TagsGoing.{each-agrees}
use Rattle.lard_law_view.proofs.Carried.{reached-viewed}
use Rattle.lard_laws.proofs.WindowsForwards.{forwards-were}
use Rattle.lard_laws.proofs.WindowsWordRuns.{words-fit}
use Rattle.lard_law_settles.proofs.KnownFrontGiving.{front-given}
use Rattle.lard_law_settles.proofs.KnownFrontWords.{word, word-there}
use Rattle.lard_law_settles.proofs.KnownReturns.{each-ungiven, each-unrefused, never-given, never-refused, never-told}
use Rattle.lard_message.specs.declared.message.Body.TheVariants as body
use Rattle.lard_law_progress.proofs.AnswersFrontGiven.{AtSeat, FrontGiven, IsWord}
use Rattle.lard_law_progress.proofs.AnswersNodeGiven.{HasIt, IsForwarded}

-- its Tag and its numbers are in their ranges
rest-keeps : (m : Machine) (q : ℕ) → Holds m → RestKeeps (front_rest (conn m q).part.front.rest)
unfolding conn part_of
rest-keeps m q holds = (holds.parts.front q).rest

module _ (config : Config) (files : List (List ℕ × List ℕ)) (checked : config_check config ≡ Ok tt) (m : Machine) (reached : IsReached config files m) (q : ℕ) (free : (tale_at (conn m q)).touched ≡ false) where
  abbrev x : Conn
  x = conn m q

  truth : IsTruthful (file_at files) x
  truth = states-truthful config files checked m reached q free

  module _ (st : Station) (there : x.part.station ≡ Some st) where
    agrees : IsOpen (file_at files) x truth.talk truth.pend st
    agrees = open-at (file_at files) x st there truth

    acts : OpenActs x st
    acts = subst (StationActs x) there (connections-ack config files checked m reached q free)

    -- a segment of its client
    pub each-word : (bytes : List ℕ) (s : Said) → Was x (Client x.c) Front bytes → decoded bytes x.c ToCluster ≡ Ok s → IsWord st (seat_of x.part) bytes s
    each-word bytes s was read =
        word (file_at files) x st there truth.talk truth.pend agrees acts ((reached-viewed config files m reached).sound q) (words-fit config files checked m reached q free) bytes s was read

    -- and one that the front end forwarded
    pub each-forwarded : (n e : ℕ) (b : ControlBlock) (segment bytes : List ℕ) (s : Said) → HasIt x n e b → SpellsMessage x.c e (body.Forward segment) bytes → Was x Front (Node n) bytes → decoded segment x.c ToCluster ≡ Ok s
        → IsForwarded st b s
    each-forwarded n e b segment bytes s here spells was read =
        word-there (file_at files) x st there truth.talk truth.pend agrees acts ((reached-viewed config files m reached).sound q) (words-fit config files checked m reached q free)
        (forwards-were config files m reached q) n e b segment bytes s here spells was read

  -- all of it, given of what an endpoint at the front end is
  pub each-front : Holds m → (w : Whole) → ((st : Station) (b : ControlBlock) (count : ℕ) → x.part.station ≡ Some st → seat_of x.part ≡ Held b count → AtSeat w st (Held b count))
      → ((st : Station) (b : ControlBlock) (count : ℕ) → x.part.station ≡ Some st → seat_of x.part ≡ Waiting b count → AtSeat w st (Waiting b count)) → FrontGiven (file_at files) w x
  each-front holds w held waiting =
      let placed = each-placed config files checked m reached q in
      let unrefused = each-unrefused config files m reached q in
      let ungiven = each-ungiven config files m reached q in
      front-given (IsNode config.nodes) (file_at files) w x (each-sits config files checked m reached q).0 (each-sits config files checked m reached q).1 truth (connections-ack config files checked m reached q free)
      (connections-were-closed config files checked m reached q free) (rest-keeps m q holds) (each-end-is-of-its-stay config files checked m reached q) (each-agrees config files checked m reached q free)
      (record {
        held = held;
        waiting = waiting;
        back = record {
          refused = λ n e count is. absurd (never-refused x.part unrefused ungiven n e count is);
          returns = λ n e given bytes spells was row parts back. absurd (never-back x placed n e given bytes was spells);
          told = λ n i tells. absurd (never-told x.part unrefused ungiven n i tells);
          given = λ told n e served is. absurd (never-given x.part unrefused ungiven told n e served is);
          gives = λ n e parts bytes spells was. absurd (no-give x placed n e parts bytes was spells);
        };
        words = λ st bytes s there was read. each-word st there bytes s was read;
      })
