-- What comes of a client's segment at the front end where it has no endpoint: a SYN begins a connection, and a segment of one that is away is
-- forwarded.
use Rattle.std.proofs.Common.{◌≡◌, ◌<◌, ◌+◌, ◌^◌, ℕ, suc, Bool, true, false, List, [], ◌∷◌, Some, None, Ok, Err, inl, refl, sym, ap, ◌∙◌, subst, arith, ◌++◌}
use Rattle.std.proofs.lemmas.Bool.{cond_both}
use Rattle.lard_law_view.specs.Prelude.{Client, Conn, ControlBlock, Ending, Epoch, Final, Front, FrontDeed, FrontEnv, FrontRow, IsConnNumber, IsFrontEnv, Letter, Move, Node, NodePart, Said, SegFault, Setting, Station, ToCluster, Turn, decoded, forwarded, front_begun, front_does, front_rest, grown, holds, is_plain_syn, listening, met, packet_seen, serving, speaks, turn_of}
use Rattle.lard_bound.specs.Chains.{chain, front_chain, of_message, word_chain, word_result}
use Rattle.lard_bound.specs.Nears.{Near, NearForward, NearTold, NearWord, OfMessage, OfSegment}
use Rattle.lard_bound.specs.Progress.{Answers, Lasts}
use Rattle.lard_bound.specs.Seats.{Held, Over, SeatNow, Unborn, seat_away, seat_of}
use Rattle.lard_bound.specs.Spots.{Spot, post_of}
use Rattle.lard_bound.specs.Units.{Whole}
use Rattle.lard_rules.specs.Front.{Drops, message}
use Rattle.lard_handoff_front.specs.declared.row.FrontConn.TheVariants as stage
use Rattle.lard_journal.specs.declared.rec.Rec.TheVariants as rec
use Rattle.lard_message.specs.declared.message.Body.TheVariants as body
use Rattle.lard_law_progress.proofs.AnswersFrontGiven.{FrontGiven, IsWord}
use Rattle.lard_law_progress.proofs.AnswersFrontMessages.{reads}
use Rattle.lard_law_progress.proofs.AnswersFrontSaying.{spoken-cases}
use Rattle.lard_law_progress.proofs.AnswersFrontSpots.{answers-by, at_seat, away-cases, moves-on, nothing-comes, unit-goes}
use Rattle.lard_rules.specs.declared.places.Ending.TheVariants as ending

module _ (k : Setting) (w : Whole) (x : Conn) (bytes : List ℕ) where
  abbrev pub l : Letter
  l = record { from = Client x.c; to = Front; bytes = bytes }

  abbrev pub does : FrontDeed → Move
  does deed = front_does x (packet_seen (Client x.c) Front bytes) deed

  -- what is owed of a deed
  abbrev pub Owes : FrontDeed → Type 0
  Owes deed = Lasts k w x (does deed) → FrontGiven k.files w (grown x (does deed)) → Answers k w x (does deed) l

  module _ (st : Station) (was : x.part.station ≡ Some st) where
    pub drops-owes : (z : SeatNow) → seat_of x.part ≡ z → ((d : ℕ) → Near k.files (at_seat k.files x.part st z) x.c (suc d) l → ⊥) → Owes Drops
    drops-owes z seat never lasts later = answers-by k w x (does Drops) l st was lasts z seat (λ up. nothing-comes k.files (at_seat k.files x.part st z) x.c l never)

    -- what does not decode
    pub unread-owes : (fault : SegFault) → decoded bytes x.c ToCluster ≡ Err fault → Owes Drops
    unread-owes fault is = drops-owes (seat_of x.part) refl (λ d near. subst (OfSegment (λ s. NearWord (at_seat k.files x.part st (seat_of x.part)) (suc d) s (post_of k.files st.client (seat_of x.part)))) is near)

    module _ (s : Said) (reads_so : decoded bytes x.c ToCluster ≡ Ok s) where
      -- ---- what the segment leads to

      pub word-near : (t : Spot) (d : ℕ) → Near k.files t x.c d l → NearWord t d s t.post
      word-near t d near = subst (OfSegment (λ s. NearWord t d s t.post)) reads_so near

      pub word-chained : (t : Spot) → chain t x.c l ≡ word_chain t s + 1
      word-chained t = ap (λ r. word_result t r + 1) reads_so

      -- ---- a SYN

      begun-held : (row : FrontRow) (d : ControlBlock) (t : Turn) → seat_of (does (holds x.part.front row (front_rest None) (ending.Here d 0, t))).part ≡ Held d 0
      unfolding seat_of
      begun-held row d t = refl

      begun-over : (row : FrontRow) (last : Final) (t : Turn) → seat_of (does (holds x.part.front row (front_rest None) (ending.Over last, t))).part ≡ Over last
      unfolding seat_of
      begun-over row last t = refl

      begun-owes : (env : FrontEnv) → seat_of x.part ≡ Unborn → Owes (front_begun env x.part.front s)
      begun-owes env seat =
          let row : FrontRow = record { stage = stage.Lent; epoch = record { 0 = 1 }; ended_by = None } in
          let q = serving (listening s env.iss) 0 (rec.Took Front env.serve.c (record { 0 = 1 }) ∷ []) in
          spoken-cases env.serve q (λ (g : Ending × Turn). Owes (holds x.part.front row (front_rest None) g))
          (λ last t lasts later.
          let v = does (holds x.part.front row (front_rest None) (ending.Over last, t)) in
          unit-goes k w x v l (λ up. let bad = moves-on k w x v l st was was Unborn (Over last) seat (begun-over row last t) lasts up in cc))
          (λ stays lasts later.
          let d = (speaks env.serve.c q.block).1 in
          let t = turn_of q ([] ++ (speaks env.serve.c q.block).0) in
          let v = does (holds x.part.front row (front_rest None) (ending.Here d 0, t)) in
          unit-goes k w x v l (λ up. let bad = moves-on k w x v l st was was Unborn (Held d 0) seat (begun-held row d t) lasts up in cc))

      pub met-owes : (env : FrontEnv) → seat_of x.part ≡ Unborn → Owes (met env x.part.front s)
      met-owes env seat = cond_both (is_plain_syn s) (front_begun env x.part.front s) Drops Owes (λ t. begun-owes env seat)
          (λ t. drops-owes Unborn seat (λ d near. let h = word-near (at_seat k.files x.part st Unborn) (suc d) near in let bad : true ≡ false = sym h.0 ∙ t in cc))

      -- ---- a connection that is away

      near-forward : (t : Spot) (told : Bool) (node e count : ℕ) (q : NodePart) (d : ℕ) → NearWord t (suc d) s (post_of k.files st.client (seat_away told node e count q))
          → NearForward t d node e (Ok s) (post_of k.files st.client (seat_away told node e count q))
      near-forward t told node e count q d = away-cases told node e count q (λ (z : SeatNow). NearWord t (suc d) s (post_of k.files st.client z) → NearForward t d node e (Ok s) (post_of k.files st.client z))
          (λ near. near) (λ near. near) (λ b near. (refl, refl, near)) (λ near. near) (λ served near. near)

      pub forwarded-owes : (env : FrontEnv) → IsFrontEnv k x.c env → IsConnNumber x.c → IsWord st (seat_of x.part) bytes s → (told : Bool) (node count : ℕ) (e : Epoch) → e.0 < 2 ^ 16
          → seat_of x.part ≡ seat_away told node e.0 count (x.part.nodes node) → Owes (forwarded env node e bytes)
      forwarded-owes env is_env number word told node count e small seat lasts later =
          let z = seat_away told node e.0 count (x.part.nodes node) in
          let t = at_seat k.files x.part st z in
          let a : Letter = record { from = Front; to = Node node; bytes = message env.serve.c e.0 (body.Forward bytes) } in
          let is = reads x.c env.serve.c e.0 (body.Forward bytes) is_env.number number small (word.some, word.short) tt in
          let chained : chain t x.c a ≡ word_result t (decoded bytes x.c ToCluster) = ap (of_message (λ m. front_chain t x.c m.body)) is in
          let before : chain t x.c l ≡ word_result t (decoded bytes x.c ToCluster) + 1 = refl in
          answers-by k w x (does (forwarded env node e bytes)) l st was lasts z seat (λ up. record {
            shorter = (omega (arith, chained, before), tt);
            leads = λ d near.
                let there : NearForward t d node e.0 (decoded bytes x.c ToCluster) t.post =
                subst (λ r. NearForward t d node e.0 r t.post) (sym reads_so) (near-forward t told node e.0 count (x.part.nodes node) d (word-near t (suc d) near)) in
                inl (subst (OfMessage (λ m. NearTold t x.c d node m.epoch.0 m.body)) (sym is) there);
          })
