-- What the segments of a client say, at the front end and where it forwards them, whenever they were sent.
use Rattle.std.proofs.Common.{◌≡◌, ◌<◌, ◌≤◌, ◌^◌, ℕ, Bool, true, false, List, [], ◌∷◌, length, Option, Some, None, Ok, refl, sym, ap, ◌∙◌, subst, arith}
use Rattle.lard_law_view.specs.Prelude.{AreBetween, Client, Conn, ControlBlock, FilesAt, Front, FrontConn, FrontRow, GoesBetween, Has, IsConnSound, Letter, Node, NodePart, Place, Said, SpellsMessage, Station, Talk, ToCluster, Verdict, Was, decoded, front_rest, is_client_open, is_open_in, seq_add, spelled}
use Rattle.lard_bound.specs.Seats.{seat_away, seat_in, seat_of}
use Rattle.lard_client.specs.declared.phase.Phase.TheVariants as phase
use Rattle.lard_laws.specs.Acks.{BackActs, FrontActs, FrontStageActs, LetterActs, OpenActs, bounds_of}
use Rattle.lard_law_connections.specs.BytesAgreement.{IsFair, IsOpen}
use Rattle.lard_law_connections.proofs.PlacesFrontRules.{has-each}
use Rattle.lard_laws.specs.WindowsWords.{FitsClient, FitsOn, ForwardsWere, HasFittingWords, IsRefused, WordFits}
use Rattle.lard_laws.proofs.WindowsLatest.{forward-fits}
use Rattle.lard_law_settles.proofs.KnownSegments.{acks-most, read-is}
use Rattle.lard_law_settles.proofs.KnownCounting.{taken-same}
use Rattle.lard_law_settles.proofs.KnownForwarded.{Refuses, forwarded, taken-small}
use Rattle.lard_handoff_front.specs.declared.row.FrontConn.TheVariants as stage
use Rattle.lard_history.proofs.Each.{Each}
use Rattle.lard_law_view.specs.Agreement as agreement
use Rattle.lard_law_view.proofs.Acked.{Acks, WordMay, taken_by}
use Rattle.lard_message.specs.declared.message.Body.TheVariants as body
use Rattle.lard_law_progress.proofs.AnswersFrontGiven.{IsWord, WasAwaited}
use Rattle.lard_law_progress.proofs.AnswersFrontSpots.{away-cases, seat-row}
use Rattle.lard_law_progress.proofs.AnswersNodeGiven.{HasIt, IsForwarded}
use Rattle.lard_law_progress.proofs.Data.{heard}
use Rattle.lard_segment.proofs.Written.{length-spelled, length-spelled-most}

-- a packet to a client is of the front end or of a node
between : (c : ℕ) (ls : List Letter) (l : Letter) → Has l ls → AreBetween c ls → GoesBetween c l.from l.to l.bytes
between c ls l has all = has-each (λ (a : Letter). GoesBetween c a.from a.to a.bytes) l ls has (each ls all) where
  each : (ls : List Letter) → AreBetween c ls → Each (λ (a : Letter). GoesBetween c a.from a.to a.bytes) ls
  each [] h = tt
  each (a ∷ as_) h = (h.0, each as_ h.1)

module _ (files : FilesAt) (x : Conn) (st : Station) (there : x.part.station ≡ Some st) (k : Talk) (pend : List Verdict) (o : IsOpen files x k pend st) (acts : OpenActs x st) (sound : IsConnSound x) (fit : HasFittingWords x) where
  -- ---- a refusal

  -- what it refuses acknowledged what was taken
  refused-number : (number : ℕ) → IsRefused x.c x.letters number → Acks st.client.send.iss acts.heard number
  refused-number number r = by r.letter.from refl where
    goes : GoesBetween x.c r.letter.from (Client x.c) r.letter.bytes
    goes = subst (λ (to : Place). GoesBetween x.c r.letter.from to r.letter.bytes) r.to (between x.c x.letters r.letter r.has sound.between)

    may : LetterActs x.c (bounds_of x st acts.heard) x.part (record { from = r.letter.from; to = Client x.c; bytes = r.letter.bytes })
    may = subst (λ (to : Place). LetterActs x.c (bounds_of x st acts.heard) x.part (record { from = r.letter.from; to = to; bytes = r.letter.bytes })) r.to (has-each (LetterActs x.c (bounds_of x st acts.heard) x.part) r.letter x.letters r.has acts.within.packets)

    acked : Acks st.client.send.iss acts.heard r.said.ack → Acks st.client.send.iss acts.heard number
    acked a = (a.0, r.same ∙ a.1, a.2)

    by : (from : Place) → r.letter.from ≡ from → Acks st.client.send.iss acts.heard number
    by (Client d) is = absurd (subst (λ (from : Place). GoesBetween x.c from (Client x.c) r.letter.bytes) is goes)
    by Front is = acked (subst (λ (from : Place). LetterActs x.c (bounds_of x st acts.heard) x.part (record { from = from; to = Client x.c; bytes = r.letter.bytes })) is may r.said r.read r.acks)
    by (Node n) is = acked (subst (λ (from : Place). LetterActs x.c (bounds_of x st acts.heard) x.part (record { from = from; to = Client x.c; bytes = r.letter.bytes })) is may r.said r.read r.acks)

  -- so its number was awaited by an endpoint that took so much
  refusal-of : (s : Said) (b : ControlBlock) → acts.heard ≡ heard b.recv → FitsClient x.c st.client x.letters s → Refuses st.client.send.iss (heard b.recv) s
  refusal-of s b same fits rst ack =
      let a = refused-number s.seq (fits.refuses rst ack) in
      let most : a.0 ≤ acts.heard = a.2 in
      (fits.bare rst, a.0, a.1, omega (arith, most, same))

  -- ---- at the front end

  stage-heard : (row : FrontRow) (c : FrontConn) → x.part.front.row ≡ Some row → row.stage ≡ c → FrontStageActs (bounds_of x st acts.heard) c
  stage-heard row c is at = subst (FrontStageActs (bounds_of x st acts.heard)) at (subst (FrontActs (bounds_of x st acts.heard)) is acts.within.front)

  awaited : (seq : ℕ) → Acks st.client.send.iss acts.heard seq → WasAwaited st seq (seat_of x.part)
  awaited seq a = by-row x.part.front.row refl where
    away : (t : Bool) (n e count : ℕ) (q : NodePart) → WasAwaited st seq (seat_away t n e count q)
    away t n e count q = away-cases t n e count q (WasAwaited st seq) tt tt (λ b. tt) tt (λ served. tt)

    here : (b : ControlBlock) → acts.heard ≡ heard b.recv → (a : ℕ) × (seq ≡ seq_add st.client.send.iss a) × (a ≤ heard b.recv)
    here b same = let most : a.0 ≤ acts.heard = a.2 in (a.0, a.1, omega (arith, most, same))

    by-stage : (row : FrontRow) → x.part.front.row ≡ Some row → (c : FrontConn) → row.stage ≡ c → WasAwaited st seq (seat_in x.part.front x.part.nodes c)
    by-stage row is (stage.Held b) at = here b (stage-heard row (stage.Held b) is at).0
    by-stage row is (stage.Waiting b) at = here b (stage-heard row (stage.Waiting b) is at).0
    by-stage row is stage.Lent at = tt
    by-stage row is (stage.Offering n d) at = away false n d.0 (front_rest x.part.front.rest).count (x.part.nodes n)
    by-stage row is (stage.Moved n d) at = away true n d.0 (front_rest x.part.front.rest).count (x.part.nodes n)
    by-stage row is (stage.Closed last) at = tt

    by-row : (r : Option FrontRow) → x.part.front.row ≡ r → WasAwaited st seq (seat_of x.part)
    by-row None is = subst (WasAwaited st seq) (sym (seat-row x.part None is)) tt
    by-row (Some row) is = subst (WasAwaited st seq) (sym (seat-row x.part (Some row) is)) (by-stage row is row.stage refl)

  never-reset : (s : Said) → (s.flags.rst ≡ true → is_client_open st.client ≡ false) → st.client.phase ≡ phase.Open → s.flags.rst ≡ false
  never-reset s closed open_ = go s.flags.rst refl where
    go : (t : Bool) → s.flags.rst ≡ t → t ≡ false
    go false e = refl
    go true e = absurd (let bad : true ≡ false = sym (ap is_open_in open_) ∙ closed e in cc)

  -- a segment of the client
  pub word : (bytes : List ℕ) (s : Said) → Was x (Client x.c) Front bytes → decoded bytes x.c ToCluster ≡ Ok s → IsWord st (seat_of x.part) bytes s
  word bytes s was read =
      let l : Letter = record { from = Client x.c; to = Front; bytes = bytes } in
      let fair = has-each (IsFair k x.c x.part) l x.letters was o.fair in
      let may : WordMay st.iss (taken_by st.client) (bounds_of x st acts.heard).aborted s = has-each (LetterActs x.c (bounds_of x st acts.heard) x.part) l x.letters was acts.within.packets s read in
      let fits : FitsClient x.c st.client x.letters s = has-each (WordFits x.c st.client x.letters) l x.letters was (subst (FitsOn x) there fit) s read in
      let same : fair.0 ≡ s = read-is x.c ToCluster bytes fair.0 s fair.1 fair.2.sendable read in
      let mine : agreement.IsWord k.w s = subst (agreement.IsWord k.w) same fair.2 in
      let length_is : length bytes ≡ length (spelled x.c ToCluster s) = ap (λ (xs : List ℕ). length xs) fair.1 ∙ ap (λ (y : Said). length (spelled x.c ToCluster y)) same in
      let least = length-spelled x.c ToCluster s in
      let most = length-spelled-most x.c ToCluster s mine.sendable.small_payload in
      record {
        seq_small = mine.sendable.seq_fits;
        ack_small = mine.sendable.ack_fits;
        acks = λ ack.
            let m = acks-most st.iss (taken_by st.client) s.ack (subst (λ n. n < 2 ^ 32) o.begins o.says.number) (taken-small files x st k pend o acts) (may.acks ack) in
            let is = taken-same st.client in omega (arith, m, is);
        within = λ rst has. fits.within rst;
        open_ = never-reset s fits.closed;
        refuses = λ rst ack. (fits.bare rst, awaited s.seq (refused-number s.seq (fits.refuses rst ack)));
        some = omega (arith, length_is, least);
        short = omega (arith, length_is, most);
      }

  -- ---- at a node

  -- a segment of the client that the front end forwarded
  pub word-there : ForwardsWere x → (n e : ℕ) (b : ControlBlock) (segment bytes : List ℕ) (s : Said) → HasIt x n e b → SpellsMessage x.c e (body.Forward segment) bytes → Was x Front (Node n) bytes → decoded segment x.c ToCluster ≡ Ok s
      → IsForwarded st b s
  word-there were n e b segment bytes s here spells was read =
      let heard_is : acts.heard ≡ heard b.recv = (subst (BackActs (bounds_of x st acts.heard)) here (acts.within.nodes n)).0 in
      forwarded files x st k pend o acts n e b segment bytes s spells was read (refusal-of s b heard_is (forward-fits x st there fit were n e segment bytes was spells s read))
