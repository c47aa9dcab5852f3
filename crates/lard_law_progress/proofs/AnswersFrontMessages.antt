-- What is owed of a message of a node that comes to the front end, and of the message that it sends back.
use Rattle.std.proofs.Common.{◌≡◌, ◌<◌, ◌^◌, ℕ, suc, List, [], ◌∷◌, Some, None, Ok, inl, refl, sym, ap, ◌∙◌, subst, arith}
use Rattle.lard_law_view.specs.Prelude.{Body, Conn, FitsFields, Front, FrontDeed, IsConnNumber, IsOfTable, Letter, Move, Node, Setting, Station, decoded_message, front_does, grown, letters_of, packet_seen}
use Rattle.lard_bound.specs.Chains.{chain, front_chain, of_message}
use Rattle.lard_bound.specs.Nears.{Near, NearTold, OfMessage}
use Rattle.lard_bound.specs.Progress.{Answers, Lasts}
use Rattle.lard_bound.specs.Seats.{SeatNow, seat_of}
use Rattle.lard_bound.specs.Units.{Whole}
use Rattle.lard_rules.specs.Front.{Drops, message}
use Rattle.lard_message.proofs.Whole.{again}
use Rattle.lard_law_progress.proofs.AnswersFrontGiven.{FrontGiven}
use Rattle.lard_law_progress.proofs.AnswersFrontSpots.{AnswersBy, answers-by, answers-none, at_seat, nothing-comes}

-- it is read as it was written
pub reads : (c d e : ℕ) (b : Body) → d ≡ c → IsConnNumber c → e < 2 ^ 16 → IsOfTable b → FitsFields b → decoded_message (message d e b) ≡ Ok (record { c = c; epoch = record { 0 = e }; body = b })
reads c d e b same number small table fits =
    ap (λ n. decoded_message (message n e b)) same ∙ again (record { c = c; epoch = record { 0 = e }; body = b }) (record { some_connection = number.0; connection = number.1; epoch = small; table = table; fits = fits })

module _ (k : Setting) (w : Whole) (x : Conn) (n : ℕ) (bytes : List ℕ) where
  abbrev pub l : Letter
  l = record { from = Node n; to = Front; bytes = bytes }

  abbrev pub does : FrontDeed → Move
  does deed = front_does x (packet_seen (Node n) Front bytes) deed

  -- what is owed of a deed
  abbrev pub Owes : FrontDeed → Type 0
  Owes deed = Lasts k w x (does deed) → FrontGiven k.files w (grown x (does deed)) → Answers k w x (does deed) l

  -- nothing is done for a client that has not opened
  pub unopened-owes : x.part.station ≡ None → Owes Drops
  unopened-owes none lasts later = answers-none k w x (does Drops) l none refl

  pub drops-owes : (st : Station) → x.part.station ≡ Some st → ((z : SeatNow) → seat_of x.part ≡ z → (d : ℕ) → Near k.files (at_seat k.files x.part st z) x.c (suc d) l → ⊥) → Owes Drops
  drops-owes st was never lasts later = answers-by k w x (does Drops) l st was lasts (seat_of x.part) refl (λ up. nothing-comes k.files (at_seat k.files x.part st (seat_of x.part)) x.c l (never (seat_of x.part) refl))

  -- one message goes back
  pub one-owes : (st : Station) → x.part.station ≡ Some st → (deed : FrontDeed) (sent : List ℕ) (e : ℕ) (b : Body) → letters_of (does deed) ≡ record { from = Front; to = Node n; bytes = sent } ∷ []
      → decoded_message sent ≡ Ok (record { c = x.c; epoch = record { 0 = e }; body = b })
      → ((z : SeatNow) → seat_of x.part ≡ z → front_chain (at_seat k.files x.part st z) x.c b < chain (at_seat k.files x.part st z) x.c l)
      → ((z : SeatNow) → seat_of x.part ≡ z → (d : ℕ) → Near k.files (at_seat k.files x.part st z) x.c (suc d) l → NearTold (at_seat k.files x.part st z) x.c d n e b)
      → Owes deed
  one-owes st was deed sent e b letters reads short near lasts later = answers-by k w x (does deed) l st was lasts (seat_of x.part) refl (λ up.
      let t = at_seat k.files x.part st (seat_of x.part) in
      let a : Letter = record { from = Front; to = Node n; bytes = sent } in
      let chained : chain t x.c a ≡ front_chain t x.c b = ap (of_message (λ m. front_chain t x.c m.body)) reads in
      let less : front_chain t x.c b < chain t x.c l = short (seat_of x.part) refl in
      subst (AnswersBy k.files t x.c l) (sym letters) (record {
        shorter = (omega (arith, chained, less), tt);
        leads = λ d h. inl (subst (OfMessage (λ m. NearTold t x.c d n m.epoch.0 m.body)) (sym reads) (near (seat_of x.part) refl d h));
      }))
