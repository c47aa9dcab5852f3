-- A spot by the seat of a connection, and what comes of a packet by that.
use Rattle.std.proofs.Common.{◌≡◌, ◌<◌, ◌≤◌, ◌+◌, ◌&&◌, ◌||◌, not, ℕ, suc, Bool, true, false, List, [], ◌∷◌, ◌++◌, map, Option, Some, None, Result, Ok, Err, inl, refl, sym, ap, ◌∙◌, subst, arith, ◌==◌}
use Rattle.std.proofs.lemmas.Bool.{cond_both, cond-false}
use Rattle.lard_law_view.specs.Prelude.{BackConn, BackRow, Client, Conn, ControlBlock, FilesAt, Front, FrontRow, Letter, Move, NodePart, Part, Place, Said, SegFault, Setting, Station, ToClient, decoded, grown, letter, letters_of, symbols}
use Rattle.lard_bound.specs.Chains.{chain, chain_between, is_current, reply_chain, word_chain}
use Rattle.lard_bound.specs.Nears.{Near}
use Rattle.lard_bound.specs.Progress.{Answers, Any, Every, Lasts, NearOn, chain_at, chain_on, spot_at, spot_with}
use Rattle.lard_bound.specs.Seats.{Gone, Here, Offered, Refused, Returned, SeatNow, seat_away, seat_by, seat_decided, seat_of, seat_over, seat_over_by, seat_there, seat_untaken, staying_of, tells_over}
use Rattle.lard_bound.specs.Spots.{Nowhere, Post, Spot, post_of, spot_of}
use Rattle.lard_bound.specs.Units.{Whole, left_to_client, left_with, units}
use Rattle.lard_handoff_back.specs.declared.row.BackConn.TheVariants as back
use Rattle.lard_handoff_back.specs.Leaving.{is_this_epoch}

-- ---- seats

-- the spot of a connection at this seat
abbrev pub at_seat : FilesAt → Part → Station → SeatNow → Spot
at_seat files p st z = record {
  phase = st.client.phase;
  isn = st.client.send.iss;
  iss = st.iss;
  una = st.client.send.una;
  last = symbols st.client.send;
  post = post_of files st.client z;
  telling = λ n. tells_over (p.nodes n);
}

pub spot-seat : (files : FilesAt) (p : Part) (st : Station) (z : SeatNow) → seat_of p ≡ z → spot_of files p st ≡ at_seat files p st z
unfolding spot_of
spot-seat files p st z e = λ i. record {
  phase = st.client.phase;
  isn = st.client.send.iss;
  iss = st.iss;
  una = st.client.send.una;
  last = symbols st.client.send;
  post = post_of files st.client (e i);
  telling = λ n. tells_over (p.nodes n);
}

-- by what the front end keeps
pub seat-row : (p : Part) (o : Option FrontRow) → p.front.row ≡ o → seat_of p ≡ seat_by p.front p.nodes o
unfolding seat_of
seat-row p o e = ap (seat_by p.front p.nodes) e

-- one that its node did not take was refused, or its answer is awaited
pub untaken-cases : (n e count : ℕ) (q : NodePart) (P : SeatNow → Type 0) → P (Offered n e count) → P (Refused n e count) → P (seat_untaken n e count q)
untaken-cases n e count q P out refused = cond_both (is_this_epoch e q.beside.refused) (Refused n e count) (Offered n e count) P (λ t. refused) (λ t. out)

-- one whose stay is over ended, or is given back
pub over-cases : (told : Bool) (n e : ℕ) (q : NodePart) (P : SeatNow → Type 0) → P (Gone told n e) → ((served : ℕ) → P (Returned told n e served))
    → P (seat_over told n e q)
over-cases told n e q P gone returned = go q.beside.returned where
  go : (o : Option ℕ) → P (seat_over_by told n e o)
  go None = gone
  go (Some served) = returned served

-- what a node has decided of the epoch in which it was offered
pub away-cases : (told : Bool) (n e count : ℕ) (q : NodePart) (P : SeatNow → Type 0) → P (Offered n e count) → P (Refused n e count)
    → ((b : ControlBlock) → P (Here told n e b (staying_of q))) → P (Gone told n e)
    → ((served : ℕ) → P (Returned told n e served)) → P (seat_away told n e count q)
away-cases told n e count q P out refused here gone returned = go q.row where
  untaken : P (seat_untaken n e count q)
  untaken = untaken-cases n e count q P out refused

  there : (c : BackConn) → P (seat_there told n e count q c)
  there (back.Here b) = here b
  there back.Out = out
  there back.Ended = over-cases told n e q P gone returned
  there back.Gone = over-cases told n e q P gone returned

  go : (o : Option BackRow) → P (seat_decided told n e count q o)
  go None = untaken
  go (Some row) = cond_both (row.epoch.0 == e) (seat_there told n e count q row.stage) (seat_untaken n e count q) P (λ t. there row.stage) (λ t. untaken)

-- ---- what comes of a packet

-- By the spot, which stays: all that is sent has shorter chains, and if the packet is near, something of that is nearer.
pub record AnswersBy (files : FilesAt) (t : Spot) (c : ℕ) (l : Letter) (ls : List Letter) : Type 0 where
  pub shorter : Every (λ a. chain t c a < chain t c l) ls
  pub leads : (d : ℕ) → Near files t c (suc d) l → Any (λ a. Near files t c d a) ls

-- nothing is sent, and nothing was near
pub nothing-comes : (files : FilesAt) (t : Spot) (c : ℕ) (l : Letter) → ((d : ℕ) → Near files t c (suc d) l → ⊥) → AnswersBy files t c l []
nothing-comes files t c l never = record { shorter = tt; leads = λ d near. absurd (never d near) }

abbrev post_in : Option Spot → Post
post_in None = Nowhere
post_in (Some t) = t.post

module _ (k : Setting) (w : Whole) (x : Conn) (v : Move) (l : Letter) where
  -- where no unit goes
  abbrev pub Still : Type 0
  Still = units w k.nodes x ≤ units w k.nodes (grown x v)

  -- a unit goes
  pub unit-goes : (Still → ⊥) → Answers k w x v l
  unit-goes never = record { shorter = λ up. absurd (never up); leads = λ up d near. absurd (never up) }

  pub answers-by : (st : Station) → x.part.station ≡ Some st → Lasts k w x v → (z : SeatNow) → seat_of x.part ≡ z → (Still → AnswersBy k.files (at_seat k.files x.part st z) x.c l (letters_of v)) → Answers k w x v l
  answers-by st was lasts z seat h =
      let t = at_seat k.files x.part st z in
      let now : spot_at k.files x ≡ Some t = ap (spot_with k.files x) was ∙ ap (λ (s : Spot). Some s) (spot-seat k.files x.part st z seat) in
      record {
        shorter = λ up.
            let later : spot_at k.files (grown x v) ≡ Some t = lasts.steady up ∙ now in
            let here : Every (λ a. chain t x.c a < chain_at k.files x l) (letters_of v) = subst (λ (o : Option Spot). Every (λ a. chain t x.c a < chain_on o x.c l) (letters_of v)) (sym now) (h up).shorter in
            subst (λ (o : Option Spot). Every (λ a. chain_on o x.c a < chain_at k.files x l) (letters_of v)) (sym later) here;
        leads = λ up d near.
            let later : spot_at k.files (grown x v) ≡ Some t = lasts.steady up ∙ now in
            let there : Near k.files t x.c (suc d) l = subst (λ (o : Option Spot). NearOn k.files o x.c (suc d) l) now near in
            inl (subst (λ (o : Option Spot). Any (λ a. NearOn k.files o x.c d a) (letters_of v)) (sym later) ((h up).leads d there));
      }

  -- of a client that has not opened
  pub answers-none : x.part.station ≡ None → letters_of v ≡ [] → Answers k w x v l
  answers-none was none = record {
    shorter = λ up. subst (λ (ls : List Letter). Every (λ a. chain_at k.files (grown x v) a < chain_at k.files x l) ls) (sym none) tt;
    leads = λ up d near. absurd (subst (λ (o : Option Spot). NearOn k.files o x.c (suc d) l) (ap (spot_with k.files x) was) near);
  }

  -- what decides of a packet does not stay at another post
  pub moves-on : (st : Station) → x.part.station ≡ Some st → v.part.station ≡ Some st → (z y : SeatNow) → seat_of x.part ≡ z → seat_of v.part ≡ y → Lasts k w x v → Still
      → post_of k.files st.client y ≡ post_of k.files st.client z
  unfolding spot_of
  moves-on st was is z y seat later lasts up =
      let now : spot_at k.files x ≡ Some (spot_of k.files x.part st) = ap (spot_with k.files x) was in
      let then : spot_at k.files (grown x v) ≡ Some (spot_of k.files v.part st) = ap (spot_with k.files (grown x v)) is in
      let same : (spot_of k.files v.part st).post ≡ (spot_of k.files x.part st).post = ap post_in (sym then ∙ lasts.steady up ∙ now) in
      sym (ap (post_of k.files st.client) later) ∙ same ∙ ap (post_of k.files st.client) seat

-- no unit goes, by what is left
pub left-still : (k : Setting) (w : Whole) (x : Conn) (v : Move) (l : Letter) (st : Station) → x.part.station ≡ Some st → v.part.station ≡ Some st → Still k w x v l → left_with w k.nodes x.part st ≤ left_with w k.nodes v.part st
unfolding units
left-still k w x v l st was is up =
    let a : units w k.nodes x ≡ left_with w k.nodes x.part st = ap (left_to_client w k.nodes x.part) was in
    let b : units w k.nodes (grown x v) ≡ left_with w k.nodes v.part st = ap (left_to_client w k.nodes v.part) is in
    omega (arith, a, b, up)

-- ---- letters to a client

abbrev pub AreToClient : ℕ → List (Place × List ℕ) → Type 0
AreToClient c [] = Unit {0}
AreToClient c (s ∷ ss) = (s.0 ≡ Client c) × AreToClient c ss

reply-most : (r : Result Said SegFault) → reply_chain r ≤ 2
reply-most (Err fault) = omega arith
reply-most (Ok s) = cond_both (s.flags.rst && not s.flags.ack) 0 2 (λ n. n ≤ 2) (λ t. omega arith) (λ t. omega arith)

-- a chain of at most two
pub reply-short : (t : Spot) (c d : ℕ) (s : Place × List ℕ) → s.0 ≡ Client d → chain t c (letter Front s) ≤ 2
reply-short t c d s to = subst (λ (q : Place). chain_between t c Front q (letter Front s) ≤ 2) (sym to) (reply-most (decoded s.1 c ToClient))

pub replies-short : (t : Spot) (c d most : ℕ) → 3 ≤ most → (ss : List (Place × List ℕ)) → AreToClient d ss → Every (λ a. chain t c a < most) (map (letter Front) ss ++ [])
replies-short t c d most some [] h = tt
replies-short t c d most some (s ∷ ss) h = (let l = reply-short t c d s h.0 in omega (arith, l, some), replies-short t c d most some ss h.1)

-- So each is shorter than a client's segment, where nothing is said to one that ends a chain.
pub words-short : (t : Spot) (c d : ℕ) (l : Letter) (s : Said) → chain t c l ≡ word_chain t s + 1 → (ss : List (Place × List ℕ)) → AreToClient d ss → ((s.flags.rst || is_current t s) ≡ true → ss ≡ [])
    → Every (λ a. chain t c a < chain t c l) (map (letter Front) ss ++ [])
words-short t c d l s is ss to quiet = go (s.flags.rst || is_current t s) refl where
  go : (b : Bool) → (s.flags.rst || is_current t s) ≡ b → Every (λ a. chain t c a < chain t c l) (map (letter Front) ss ++ [])
  go true e = subst (λ (ss : List (Place × List ℕ)). Every (λ a. chain t c a < chain t c l) (map (letter Front) ss ++ [])) (sym (quiet e)) tt
  go false e = let three : word_chain t s ≡ 3 = cond-false (s.flags.rst || is_current t s) 0 3 e in replies-short t c d (chain t c l) (omega (arith, is, three)) ss to
