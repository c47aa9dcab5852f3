-- A move of the front end or of a node keeps what holds of its connection, where what the place does acknowledges what was taken.
use Rattle.std.proofs.Common.{◌≡◌, ◌⊎◌, ℕ, ◌≤◌, Bool, true, Option, Some, None, inl, refl, sym, ◌∙◌, subst, arith}
use Rattle.lard_law_view.specs.Prelude.{ClientBlock, Conn, Move, Station, grown, letters_of}
use Rattle.lard_laws.specs.Acks.{AcksWhatWasTaken, BackActs, Bounds, FrontActs, LetterActs, OpenActs, StationActs, bounds_of, story_at}
use Rattle.lard_laws.proofs.AcksGrowing.{Widens, back-more, front-more, letters-on}
use Rattle.lard_laws.proofs.AcksStory.{move-tells}
use Rattle.lard_law_connections.proofs.LimitsMoves.{Helps}
use Rattle.lard_law_connections.specs.Places.{HasEnded, IsDecided, IsOffered, IsOver}
use Rattle.lard_law_connections.proofs.PlacesGrowing.{grows-still}
use Rattle.lard_history.proofs.Each.{Each, Each-append}
use Rattle.lard_law_view.proofs.Acked.{ClientHolds}
use Rattle.lard_law_view.proofs.Story.{Tells, story_seen}

-- what holds of a client goes on holding as more is taken and told
pub client-more : (n m : ℕ) (a b r s : Bool) (x : ClientBlock) → n ≤ m → (a ≡ true → b ≡ true) → (r ≡ true → s ≡ true) → ClientHolds n a r x → ClientHolds m b s x
client-more n m a b r s x le told reset h =
    let una = h.acknowledged in
    record { acknowledged = omega arith; aborts = λ e. told (h.aborts e); resets = λ e. reset (h.resets e) }

module _ (x : Conn) (v : Move) where
  -- What a place does, behind which so much of the client's was taken: what has the connection then keeps to that, and so does what is sent.
  pub record PlaceActs (b : Bounds) : Type 0 where
    pub then : ℕ
    pub more : b.heard ≤ then
    pub offers : (then ≡ b.heard) ⊎ ((n e : ℕ) → IsOffered n e x.part.front.row → IsDecided e (v.part.nodes n).row)
    pub ends : (then ≡ b.heard) ⊎ ((n e : ℕ) → IsOver e (x.part.nodes n).row → HasEnded e x.part.front.row)
    pub front : FrontActs (record b { heard = then }) v.part.front.row
    pub nodes : (n : ℕ) → BackActs (record b { heard = then }) (v.part.nodes n).row
    pub letters : Each (LetterActs x.c (record b { heard = then }) v.part) (letters_of v)

  -- nothing is taken
  pub record Idle (b : Bounds) : Type 0 where
    pub front : FrontActs b v.part.front.row
    pub nodes : (n : ℕ) → BackActs b (v.part.nodes n).row
    pub letters : Each (LetterActs x.c b v.part) (letters_of v)

  pub idle-acts : (b : Bounds) → Idle b → PlaceActs b
  idle-acts b i = record { then = b.heard; more = omega arith; offers = inl refl; ends = inl refl; front = i.front; nodes = i.nodes; letters = i.letters }

  module _ (help : Helps x v) (heads : story_seen x.c (story_at x) v.heads ≡ story_at x) where
    tells : Tells (story_at x) (story_at (grown x v))
    tells = move-tells x v help.own (story_at x) heads

    module _ (s : Station) (o : OpenActs x s) (p : PlaceActs (bounds_of x s o.heard)) where
      abbrev b : Bounds
      b = bounds_of x s o.heard

      abbrev d : Bounds
      d = bounds_of (grown x v) s p.then

      whole : Widens b d
      whole = record { isn = refl; iss = refl; heard = p.more; taken = omega arith; aborted = tells.aborted }

      behind : Widens (record b { heard = p.then }) d
      behind = record { isn = refl; iss = refl; heard = omega arith; taken = omega arith; aborted = tells.aborted }

      open-grown : OpenActs (grown x v) s
      open-grown = record {
        heard = p.then;
        client = client-more o.heard p.then (story_at x).aborted (story_at (grown x v)).aborted (story_at x).reset (story_at (grown x v)).reset s.client p.more tells.aborted tells.reset o.client;
        within = record {
          front = front-more (record b { heard = p.then }) d behind refl v.part.front.row p.front;
          nodes = λ n. back-more (record b { heard = p.then }) d behind refl (v.part.nodes n).row (p.nodes n);
          packets = Each-append (LetterActs x.c d v.part) x.letters (letters_of v)
              (letters-on x.c b d x.part v.part (record { widens = whole; grows = help.owes.grows; offers = p.offers; ends = p.ends }) x.letters help.placed.letters o.within.packets)
              (letters-on x.c (record b { heard = p.then }) d v.part v.part (record { widens = behind; grows = grows-still v.part; offers = inl refl; ends = inl refl }) (letters_of v) help.owes.letters p.letters);
        };
        ended = λ e. tells.ended (o.ended e);
        shut = λ e f. o.shut e (sym tells.shut ∙ f);
      }

    pub place-keeps : v.part.station ≡ x.part.station → ((s : Station) → x.part.station ≡ Some s → (o : OpenActs x s) → PlaceActs (bounds_of x s o.heard)) → AcksWhatWasTaken x → AcksWhatWasTaken (grown x v)
    place-keeps same acts h = subst (StationActs (grown x v)) (sym same) (go x.part.station refl h) where
      go : (o : Option Station) → x.part.station ≡ o → StationActs x o → StationActs (grown x v) o
      go None e shut = tells.shut ∙ shut
      go (Some s) e o = open-grown s o (acts s e o)
