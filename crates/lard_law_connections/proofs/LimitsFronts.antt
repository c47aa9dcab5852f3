-- What the front end does leaves a connection counted.
use Rattle.std.proofs.Common.{◌≡◌, ◌≤◌, ◌<◌, ◌+◌, ◌-◌, ◌^◌, ℕ, Bool, true, false, List, [], ◌∷◌, ◌++◌, map, Option, Some, None, arith, inr, ⊎_elim, refl, sym, ap, ◌∙◌, subst}
use Rattle.std.proofs.lemmas.List.{map-append}
use Rattle.std.proofs.lemmas.List.Sums.{fold-append}
use Rattle.lard_law_view.specs.Prelude.{AreSent, Ask, BackConn, BackRow, Call, Client, Conn, ControlBlock, Ending, EndpointParts, Epoch, FirstChoice, Front, FrontConn, FrontDeed, FrontEnv, FrontGets, FrontPart, FrontRest, FrontRow, IsConnSound, IsControlBlock, IsFrontEnv, IsValidParts, Kept, Later, LaterChoice, Message, Move, Node, NodePart, Part, Place, Rec, Said as Segment, Seen, Service, Setting, Turn, ack_sent, after_timer, assigned_notes, assigns, back_part, back_rest, does_first, front_begun, front_does, front_ends, front_reads, front_rest, front_rule, front_saying, given_sent, holds, last_words, leaves_by, letter, may_freeze, next_epoch, offer_kept, on_segment, over_note, parts_kept, placed, returned_row, sent_of, serving, serving_settled, spoken, stage_after, tag_sent, taken_by, tale_at, timed, tombstone, turn_here, waits_on}
use Rattle.lard_law_connections.specs.LimitsCounts.{BackCounts, BodyCounts, IsWithinStream, EndpointCounts, FrontCounts, FrontStageCounts, LetterCounts, LetterCountsOn, Served, served_by_tale}
use Rattle.lard_law_connections.proofs.LimitsMoves.{IsLimited, MoveCounts, client-letters, idle-counts, other-letter}
use Rattle.lard_law_connections.proofs.LimitsOffers.{offer-counts}
use Rattle.lard_law_connections.proofs.LimitsReading.{HasStopped, MayPlace, reads-so}
use Rattle.lard_law_connections.proofs.LimitsRows.{CountsBy, IsMute, IsMuteSeen, after, after_all, counts-append, mute-after, mute-counts}
use Rattle.lard_law_connections.proofs.LimitsServing.{EndCounts, EndSound, IsServing, TurnCounts, UnlessOver, begins-serving, noted-mute, settled-counts, settled-sound, spoken-counts, spoken-sound}
use Rattle.lard_law_connections.specs.Places.{ArePast, HasEnded, Head, IsDecided, IsLeft, IsOffered, IsPast, Offers, Owning, Sits, StageSits, owning}
use Rattle.lard_law_connections.specs.Kept.{FrontKeeps, FrontRowKeeps, IsOffer}
use Rattle.lard_law_connections.proofs.BytesFrontMessages.{past-undecided}
use Rattle.lard_law_connections.proofs.PlacesFrontMessages.{IsRefusedThere, no-give, refused-past, refused-there}
use Rattle.lard_law_connections.proofs.PlacesFrontRules.{has-each}
use Rattle.lard_law_connections.proofs.PlacesHeads.{decoded-head, spelled-head}
use Rattle.lard_law_connections.proofs.PlacesTurns.{IsPlaced}
use Rattle.lard_law_connections.proofs.ReturnedParts.{ReadsOffer, back-valid, reads-offer}
use Rattle.lard_law_connections.proofs.SilenceEndpoints.{adopted-turns}
use Rattle.lard_law_view.proofs.EachFront.{FrontComes, HasBack, admission}
use Rattle.lard_base.specs.declared.place.TimerKind.TheVariants as timer
use Rattle.lard_dispatch.specs.declared.dispatch.First.TheVariants as first
use Rattle.lard_dispatch.specs.Laws as call
use Rattle.lard_endpoint.proofs.Sound.{after_timer-sound, on_segment-sound}
use Rattle.lard_rules.specs.Front.{Drops, Says, Does, message}
use Rattle.lard_rules.proofs.FrontBlocks.{EndsIdle, idle-of, segment-idle, spoken-idle, timer-idle}
use Rattle.lard_handoff_back.specs.declared.row.BackConn.TheVariants as back
use Rattle.lard_handoff_front.specs.declared.row.FrontConn.TheVariants as stage
use Rattle.lard_history.proofs.Each.{Each, Each-append}
use Rattle.lard_journal.specs.declared.rec.Rec.TheVariants as rec
use Rattle.lard_message.specs.declared.message.Body.TheVariants as body
use Rattle.lard_rules.specs.declared.places.Ending.TheVariants as ending
use Rattle.lard_rules.proofs.Endpoints.{listening-sound}
use Rattle.lard_rules.proofs.Totals.{segment-many, timer-many}
use Rattle.lard_law_view.proofs.EndpointSends.{AllTo, ready-to}
use Rattle.lard_rules.proofs.FrontCases.{IsBack, IsInStage, KeptByFront, KeptByReturn, KeptBySegment, back_reading, back_service, begun_row, begun_service, fired_before, fired_service, front-keeps, hands_off, heard_reading, heard_service, of-stage, rests_in, waiting_service}

-- ---- nodes that have nothing count nothing

left-counts : (stream : ℕ) (v : Served) (st : BackConn) → IsLeft st → BackCounts stream v (Some (record { stage = st; epoch = record { 0 = 0 } }))
left-counts stream v (back.Here b) h = absurd h
left-counts stream v _ h = tt

pub past-counts : (stream : ℕ) (v : Served) (e : ℕ) (o : Option BackRow) → IsPast e o → BackCounts stream v o
past-counts stream v e None h = tt
past-counts stream v e (Some row) h = left-counts stream v row.stage h.1

-- ---- where it is offered

-- the front end offers it in its own epoch, so it is not past that
offered-epoch : (x : Conn) → IsPlaced x → (row : FrontRow) → x.part.front.row ≡ Some row → (n e : ℕ) → Offers n e row.stage → e ≡ row.epoch.0
offered-epoch x placed row found n e offers = go row.stage refl offers where
  go : (st : FrontConn) → row.stage ≡ st → Offers n e st → e ≡ row.epoch.0
  go (stage.Offering m d) at offers =
      let sits = (of-stage (Sits (owning (tale_at x)) x.part.nodes) x.part.front row (stage.Offering m d) (found, at) placed.sits).0 in
      sym offers.1 ∙ sits.1
  go _ at offers = absurd offers

pub offered-now : (x : Conn) → IsPlaced x → (n e : ℕ) → (o : Option FrontRow) → x.part.front.row ≡ o → IsOffered n e o → HasEnded e o → ⊥
offered-now x placed n e None found offered past = offered
offered-now x placed n e (Some row) found offered past = let same : e ≡ row.epoch.0 = offered-epoch x placed row found n e offered in omega (arith, same, past)

-- ---- one connection

module _ (k : Setting) (most : k.stream ≤ 2 ^ 30) (x : Conn) (sound_x : IsConnSound x) (at_place : IsPlaced x) (kept_x : FrontKeeps x.c x.part.front)
    (h : IsLimited k.stream x) (heads : List Seen) (seen : Each IsMuteSeen heads) (env : FrontEnv) (is : IsFrontEnv k x.c env) where
  abbrev p : FrontPart
  p = x.part.front

  abbrev w : Served
  w = served_by_tale (tale_at x)

  abbrev nodes : ℕ → NodePart
  nodes = x.part.nodes

  abbrev own : Owning
  own = owning (tale_at x)

  abbrev Stays : FrontDeed → Type 0
  Stays d = MoveCounts k.stream x (front_does x heads d)

  dropped : Stays Drops
  dropped = idle-counts k.stream x (front_does x heads Drops) (record { heads = seen; notes = tt; front = h.counted.front; nodes = h.counted.nodes; letters = tt })

  -- messages go out, of which none is a new Offer
  says : (ms : List (Place × List ℕ)) → Each (LetterCounts k.stream w x.part) (map (letter Front) ms) → Stays (Says (front_saying ms))
  says ms sent = idle-counts k.stream x (front_does x heads (Says (front_saying ms)))
      (record { heads = seen; notes = tt; front = h.counted.front; nodes = h.counted.nodes; letters = sent })

  -- ---- an endpoint that is here

  -- no node has the connection, and where it was offered the front end is past that in this row
  record IsOurs (row : FrontRow) : Type 0 where
    e : ℕ
    past : ArePast e nodes
    passed : (n d : ℕ) → IsOffered n d p.row → d < row.epoch.0

  -- messages that are no Offer
  abbrev AreOther : List (Place × List ℕ) → Type 0
  AreOther said = (v : Served) (q : Part) → Each (LetterCounts k.stream v q) (map (letter Front) said)

  none-said : AreOther []
  none-said v q = tt

  behind-said : (v : Served) (q : Part) (said more : List (Place × List ℕ)) → AreOther said → Each (LetterCounts k.stream v q) (map (letter Front) more)
      → Each (LetterCounts k.stream v q) (map (letter Front) (said ++ more))
  behind-said v q said more other counts = subst (Each (LetterCounts k.stream v q)) (sym (map-append (letter Front) said more))
      (Each-append (LetterCounts k.stream v q) (map (letter Front) said) (map (letter Front) more) (other v q) counts)

  own-turn : (given : Ending × Turn) → TurnCounts env.serve.stream env.serve.c w given → TurnCounts k.stream x.c w given
  own-turn given t = subst (λ (c : ℕ). TurnCounts k.stream c w given) is.number (subst (λ (n : ℕ). TurnCounts n env.serve.c w given) is.stream t)

  ends-limited : (said : List (Place × List ℕ)) → AreOther said → (q : FrontPart) (row : FrontRow) → IsOurs row
      → (rest : FrontRest) (stays : ControlBlock → FrontConn) (given : Ending × Turn) (calls : List Call)
      → TurnCounts env.serve.stream env.serve.c w given → EndSound given.0
      → ((v : Served) (b : ControlBlock) (count : ℕ) → given.0 ≡ ending.Here b count → EndpointCounts k.stream v b → FrontStageCounts k.stream v (stays b))
      → Stays (does_first [] said (rests_in q row rest stays given calls))
  ends-limited said other q row ours rest stays given calls counts sound stay =
      let v : Move = front_does x heads (does_first [] said (rests_in q row rest stays given calls)) in
      let t : TurnCounts k.stream x.c w given = own-turn given counts in
      let then : Served = after_all w given.1.notes in
      record {
        heads = seen;
        notes = t.told;
        front = go then given.0 refl t.ends sound;
        nodes = λ n. past-counts k.stream then ours.e (nodes n).row (ours.past n);
        old = inr (λ n f offered. inr (ours.passed n f offered));
        letters = Each-append (LetterCounts k.stream then v.part) (map (letter Front) given.1.segments) (map (letter Front) (said ++ []))
            (client-letters k.stream then v.part Front x.c given.1.segments t.to) (behind-said then v.part said [] other tt);
      } where
        go : (then : Served) (e : Ending) → given.0 ≡ e → EndCounts k.stream then e → EndSound e → FrontStageCounts k.stream then (stage_after stays e)
        go then (ending.Here b count) at c s = stay then b count at (record { sound = s; counts = c })
        go then (ending.Over last) at c s = tt

  holds-limited : (said : List (Place × List ℕ)) → AreOther said → (q : FrontPart) (row : FrontRow) → IsOurs row → (rest : FrontRest) (given : Ending × Turn)
      → TurnCounts env.serve.stream env.serve.c w given → EndSound given.0 → Stays (does_first [] said (holds q row rest given))
  holds-limited said other q row ours rest given counts sound = ends-limited said other q row ours rest stage.Held given [] counts sound (λ v b count at c. c)

  idle-at : (given : Ending × Turn) (b : ControlBlock) (count : ℕ) → given.0 ≡ ending.Here b count → EndsIdle given.0 → may_freeze b ≡ true
  idle-at given b count at idle = subst EndsIdle at idle

  waits-limited : (said : List (Place × List ℕ)) → AreOther said → (q : FrontPart) (row : FrontRow) → IsOurs row
      → (rest : FrontRest) (given : Ending × Turn) (calls : List Call) → TurnCounts env.serve.stream env.serve.c w given → EndSound given.0 → EndsIdle given.0
      → Stays (does_first [] said (rests_in q row rest stage.Waiting given calls))
  waits-limited said other q row ours rest given calls counts sound idle =
      ends-limited said other q row ours rest stage.Waiting given calls counts sound (λ v b count at c. (c, idle-at given b count at idle))

  -- it is handed off: its Offer begins with all that was served
  handed-limited : (said : List (Place × List ℕ)) → AreOther said → (row : FrontRow) → IsOurs row
      → (s : Service) (path : List ℕ) (choice : FirstChoice) (calls : List Call) → IsServing env.serve w s → IsControlBlock s.block
      → may_freeze s.block ≡ true → s.over ≡ None → Stays (does_first [] said (hands_off env row s path choice calls))
  handed-limited said other row ours s path choice calls serving sound may none =
      let v : Move = front_does x heads (does_first [] said (hands_off env row s path choice calls)) in
      let more : List Rec = rec.Admitted env.serve.c ∷ rec.AssignedFirst env.serve.c (s.count + 1) path choice.node choice.add choice.remove ∷ [] in
      let then : Served = after_all w (s.notes ++ more) in
      let now : then ≡ after_all w s.notes = fold-append after w s.notes more ∙ mute-after (after_all w s.notes) more (tt, (tt, tt)) in
      let counts : IsWithinStream k.stream (after_all w s.notes) s.block.send.total =
      subst (λ (n : ℕ). IsWithinStream n (after_all w s.notes) s.block.send.total) is.stream (unless s.over none serving.counts) in
      let told : CountsBy k.stream x.c w s.notes = subst (λ (c : ℕ). CountsBy k.stream c w s.notes) is.number (subst (λ (n : ℕ). CountsBy n env.serve.c w s.notes) is.stream serving.told) in
      record {
        heads = seen;
        notes = counts-append k.stream x.c w s.notes more told (mute-counts k.stream x.c (after_all w s.notes) more (tt, (tt, tt)));
        front = tt;
        nodes = λ n. past-counts k.stream then ours.e (nodes n).row (ours.past n);
        old = inr (λ n f offered. inr (let less : f < row.epoch.0 = ours.passed n f offered in omega (arith, less)));
        letters = behind-said then v.part said (sent_of (offer_kept env.serve.c row s.block s.count choice.node) ∷ []) other (
          offer-counts k.stream then v.part choice.node env.serve.c (next_epoch row).0 s.count s.block
              (record { sound = sound; counts = subst (λ (u : Served). IsWithinStream k.stream u s.block.send.total) (sym now) counts }) may,
          tt,
        );
      } where
        unless : (o : Option ℕ) → o ≡ None → UnlessOver env.serve w o s.block.send.total (after_all w s.notes) → IsWithinStream env.serve.stream (after_all w s.notes) s.block.send.total
        unless None e c = c
        unless (Some total) e c = let no : Some total ≡ None = e in absurd cc

  -- what was read is counted, and what is to be placed may be
  abbrev Came : Service → Option (List ℕ) → Type 0
  Came s o = IsServing env.serve w s × IsControlBlock s.block × MayPlace o s

  -- it is held on, or is to be placed and waits
  settled-limited : (said : List (Place × List ℕ)) → AreOther said → (q : FrontPart) (row : FrontRow) → IsOurs row
      → (rest : FrontRest) (t : Service) → Came t None → Stays (does_first [] said (holds q row rest (serving_settled env.serve t)))
  settled-limited said other q row ours rest t came =
      holds-limited said other q row ours rest (serving_settled env.serve t) (settled-counts env.serve w t came.0) (settled-sound env.serve t came.1)

  placed-limited : (said : List (Place × List ℕ)) → AreOther said → (q : FrontPart) (row : FrontRow) → IsOurs row
      → (rest : FrontRest) (t : Service) (path : List ℕ) → Came t (Some path) → Stays (does_first [] said (Does (placed env q row rest t path first.Waits)))
  placed-limited said other q row ours rest t path came =
      let waits : Service = waiting_service env t in
      let given : Ending × Turn = spoken env.serve waits [] in
      waits-limited said other q row ours (record rest { target = Some path }) given (call.First env.serve.c path env.now ∷ leaves_by env.serve.c given.0)
      (spoken-counts env.serve w waits [] came.2.1 tt (noted-mute env.serve w t (rec.Waits env.serve.c ∷ []) (tt, tt) came.0))
      (spoken-sound env.serve waits [] came.1) (spoken-idle env.serve waits [] (idle-of t.block came.2.0 came.1.sending.queued))

  abbrev within : env.serve.stream ≤ 2 ^ 30
  within = subst (λ (n : ℕ). n ≤ 2 ^ 30) (sym is.stream) most

  own-counts : (total : ℕ) → IsWithinStream k.stream w total → IsWithinStream env.serve.stream w total
  own-counts total c = subst (λ (n : ℕ). IsWithinStream n w total) (sym is.stream) c

  -- with the endpoint that it has
  here-serving : (b d : ControlBlock) (count : ℕ) → d.send.total ≡ b.send.total → EndpointCounts k.stream w b → IsServing env.serve w (serving d count [])
  here-serving b d count same h = begins-serving env.serve w b d count same (own-counts b.send.total h.counts)

  -- ---- where the connection is

  counts-row : (row : FrontRow) (st : FrontConn) → IsInStage p row st → FrontStageCounts k.stream w st
  counts-row row st at = of-stage (FrontCounts k.stream w) p row st at h.counted.front

  -- it is held here, or waits
  abbrev HasIt : FrontConn → Type 0
  HasIt (stage.Held b) = Unit {0}
  HasIt (stage.Waiting b) = Unit {0}
  HasIt _ = ⊥

  none-offered : (st : FrontConn) → HasIt st → (n d : ℕ) → Offers n d st → ⊥
  none-offered (stage.Held b) has n d o = o
  none-offered (stage.Waiting b) has n d o = o
  none-offered _ has n d o = absurd has

  all-past : (e : ℕ) (st : FrontConn) → HasIt st → StageSits e own nodes st → ArePast e nodes
  all-past e (stage.Held b) has sits = sits.1.1
  all-past e (stage.Waiting b) has sits = sits.1.1
  all-past e _ has sits = absurd has

  ours-at : (row : FrontRow) (st : FrontConn) → IsInStage p row st → HasIt st → IsOurs row
  ours-at row st at has = record {
    e = row.epoch.0;
    past = all-past row.epoch.0 st has (of-stage (Sits own nodes) p row st at at_place.sits).0;
    passed = λ n d offered. absurd (none-offered st has n d (of-stage (IsOffered n d) p row st at offered));
  }

  -- its own notes and endpoint, behind the segments before
  says-held : (row : FrontRow) (b d : ControlBlock) (before : List (Place × List ℕ)) → IsInStage p row (stage.Held b) → d.send.total ≡ b.send.total → IsControlBlock d → AllTo (Client env.serve.c) before
      → Stays (holds p row (front_rest p.rest) (spoken env.serve (serving d (front_rest p.rest).count []) before))
  says-held row b d before at same sound to =
      let s : Service = serving d (front_rest p.rest).count [] in
      holds-limited [] none-said p row (ours-at row (stage.Held b) at tt) (front_rest p.rest) (spoken env.serve s before)
      (spoken-counts env.serve w s before refl to (here-serving b d (front_rest p.rest).count same (counts-row row (stage.Held b) at))) (spoken-sound env.serve s before sound)

  says-waiting : (row : FrontRow) (b d : ControlBlock) (before : List (Place × List ℕ)) → IsInStage p row (stage.Waiting b) → d.send.total ≡ b.send.total → IsControlBlock d
      → EndsIdle (spoken env.serve (serving d (front_rest p.rest).count []) before).0 → AllTo (Client env.serve.c) before
      → Stays (waits_on env p row (front_rest p.rest) (spoken env.serve (serving d (front_rest p.rest).count []) before))
  says-waiting row b d before at same sound idle to =
      let s : Service = serving d (front_rest p.rest).count [] in
      waits-limited [] none-said p row (ours-at row (stage.Waiting b) at tt) (front_rest p.rest) (spoken env.serve s before) (leaves_by env.serve.c (spoken env.serve s before).0)
      (spoken-counts env.serve w s before refl to (here-serving b d (front_rest p.rest).count same (counts-row row (stage.Waiting b) at).0)) (spoken-sound env.serve s before sound) idle

  -- ---- a segment

  begins-limited : (s : Segment) → p.row ≡ None → Stays (front_begun env p s)
  begins-limited s none =
      let start : Service = begun_service env s in
      let at : Sits own nodes None = subst (Sits own nodes) none at_place.sits in
      let counts : IsWithinStream env.serve.stream w 0 = own-counts 0 (subst (FrontCounts k.stream w) none h.counted.front) in
      let ours : IsOurs begun_row = record { e = 0; past = at.1; passed = λ n d offered. absurd (subst (IsOffered n d) none offered) } in
      holds-limited [] none-said p begun_row ours (front_rest None) (spoken env.serve start []) (spoken-counts env.serve w start [] refl tt (record { told = (tt, tt); counts = counts })) (spoken-sound env.serve start [] (listening-sound s env.iss))

  tombstone-limited : (o : Option Segment) → Stays (Says (turn_here (tombstone env.serve o)))
  tombstone-limited None = idle-counts k.stream x (front_does x heads (Says (turn_here (tombstone env.serve None))))
      (record { heads = seen; notes = tt; front = h.counted.front; nodes = h.counted.nodes; letters = tt })
  tombstone-limited (Some s) = idle-counts k.stream x (front_does x heads (Says (turn_here (tombstone env.serve (Some s)))))
      (record { heads = seen; notes = tt; front = h.counted.front; nodes = h.counted.nodes; letters = (tt, tt) })

  read-counts : (row : FrontRow) (b : ControlBlock) (s : Segment) → IsInStage p row (stage.Held b)
      → Came (front_reads env.serve (heard_reading p b s)).service (front_reads env.serve (heard_reading p b s)).target
  read-counts row b s at =
      let c : EndpointCounts k.stream w b = counts-row row (stage.Held b) at in
      let stop : HasStopped env.serve w within (front_reads env.serve (heard_reading p b s)) =
      reads-so env.serve w within (heard_service p b s) (here-serving b (on_segment b s).1 (front_rest p.rest).count (segment-many b s) c, on_segment-sound b s c.sound) in
      (stop.0.0, stop.0.1, stop.1)

  by-segment : (bytes : List ℕ) (s : Segment) → KeptBySegment env p bytes s Came Stays
  by-segment bytes s = record {
    drops = dropped;
    begins = λ none plain. begins-limited s none;
    reads = λ row b at. read-counts row b s at;
    holds = λ row b t at came. settled-limited [] none-said p row (ours-at row (stage.Held b) at tt) (front_rest p.rest) t came;
    hands = λ row b t path choice at came is. handed-limited [] none-said row (ours-at row (stage.Held b) at tt) t path choice
        (call.First env.serve.c path env.now ∷ []) came.0 came.1 came.2.0 came.2.1;
    waits = λ row b t path at came is. placed-limited [] none-said p row (ours-at row (stage.Held b) at tt) (front_rest p.rest) t path came;
    stays = λ row b at.
        let c : FrontStageCounts k.stream w (stage.Waiting b) = counts-row row (stage.Waiting b) at in
        says-waiting row b (on_segment b s).1 [] at (segment-many b s) (on_segment-sound b s c.0.sound) (spoken-idle env.serve (heard_service p b s) [] (segment-idle b s (idle-of b c.1 c.0.sound.sending.queued))) tt;
    forwards = λ row n e at. says ((Node n, message env.serve.c e.0 (body.Forward bytes)) ∷ []) (other-letter k.stream w x.part n env.serve.c e.0 (body.Forward bytes) (λ i. cc), tt);
    words = λ row last at. tombstone-limited (last_words last.reason last s);
  }

  -- ---- timers

  resent-letters : (ks : List Kept) → AreSent x Front ks → Each (LetterCounts k.stream w x.part) (map (letter Front) (map sent_of ks))
  resent-letters [] sent = tt
  resent-letters (q ∷ ks) sent = (has-each (LetterCounts k.stream w x.part) (record { from = Front; to = q.to; bytes = q.bytes }) x.letters sent.0.1 h.counted.letters, resent-letters ks sent.1)

  -- ---- what nodes say

  over-mute : (c : ℕ) (b : Bool) → Each IsMute (over_note c b)
  over-mute c true = (tt, tt)
  over-mute c false = tt

  assigned-mute : (c : ℕ) (ask : Ask) (r : ℕ) (paths : List (List ℕ)) (choices : List LaterChoice) → Each IsMute (assigned_notes c ask r paths choices)
  assigned-mute c ask r [] choices = tt
  assigned-mute c ask r (path ∷ paths) [] = tt
  assigned-mute c ask r (path ∷ paths) (choice ∷ choices) = (tt, assigned-mute c ask (r + 1) paths choices)

  tag-letters : (n epoch number : ℕ) (tags : List ℕ) → (q : Part) → Each (LetterCounts k.stream w q) (map (letter Front) (tag_sent env n epoch number tags))
  tag-letters n epoch number tags q = (other-letter k.stream w q n env.serve.c epoch (body.Tag number tags) (λ i. cc), tt)

  assigns-limited : (n epoch : ℕ) (ask : Ask) (rest : FrontRest) → Stays (Does (assigns env p rest n epoch ask (env.later ask)))
  assigns-limited n epoch ask rest =
      let l : Later = env.later ask in
      let v : Move = front_does x heads (Does (assigns env p rest n epoch ask l)) in
      idle-counts k.stream x v (record {
        heads = seen;
        notes = Each-append IsMute (over_note env.serve.c l.over) (assigned_notes env.serve.c ask rest.assigned ask.paths l.choices) (over-mute env.serve.c l.over) (assigned-mute env.serve.c ask rest.assigned ask.paths l.choices);
        front = h.counted.front;
        nodes = h.counted.nodes;
        letters = tag-letters n epoch ask.number (map (λ y. y.node) l.choices) v.part;
      })

  ack-letters : (n epoch : ℕ) (q : Part) → Each (LetterCounts k.stream w q) (map (letter Front) (ack_sent env n epoch))
  ack-letters n epoch q = (other-letter k.stream w q n env.serve.c epoch body.EndedAck (λ i. cc), tt)

  -- ---- a connection that comes back

  -- the Offer that is kept is of this node and epoch, and was sent
  kept-counts : (n epoch : ℕ) (row : FrontRow) (parts : EndpointParts) → IsRefusedThere x n epoch row → parts_kept p.kept ≡ Some parts
      → IsWithinStream k.stream w (parts.una - 1)
  kept-counts n epoch row parts there is =
      let from : Epoch = record { 0 = epoch } in
      let offer : IsOffer x.c n epoch (front_rest p.rest).count p.kept =
      (of-stage (FrontRowKeeps x.c p) p row (stage.Offering n from) (there.found, there.stage) kept_x).1 in
      let early = there.early in
      let made : Message = record { c = x.c; epoch = from; body = body.Offer offer.0 } in
      let bytes : List ℕ = message x.c epoch (body.Offer offer.0) in
      let sent : AreSent x Front (record { kind = timer.Offer; r = 0; to = Node n; bytes = bytes } ∷ []) = subst (AreSent x Front) offer.1 sound_x.front in
      let o : ReadsOffer bytes parts = reads-offer bytes parts (subst (λ (ks : List Kept). parts_kept ks ≡ Some parts) offer.1 is) in
      let said : LetterCountsOn k.stream w x.part Front (Node n) bytes =
      has-each (LetterCounts k.stream w x.part) (record { from = Front; to = Node n; bytes = bytes }) x.letters sent.0.1 h.counted.letters in
      let same : epoch ≡ o.read.epoch.0 =
      ap epoch_in (sym (spelled-head made (omega (arith, early))) ∙ decoded-head bytes o.read o.reads) in
      let counts : BodyCounts k.stream w x.part n epoch (body.Offer parts) =
      subst (λ (e : ℕ). BodyCounts k.stream w x.part n e (body.Offer parts)) (sym same)
      (subst (BodyCounts k.stream w x.part n o.read.epoch.0) o.offers (said o.read o.reads)) in
      ⊎_elim (λ (d : IsDecided epoch (nodes n).row). absurd (past-undecided epoch (nodes n).row there.coming.2 d))
      (⊎_elim (λ (e : HasEnded epoch p.row).
      let less : epoch < row.epoch.0 = subst (HasEnded epoch) there.found e in
      let now = there.epoch_is in
      absurd (omega (arith, less, now)))
      (λ (c : IsWithinStream k.stream w (parts.una - 1)). c)) counts where
        epoch_in : Option Head → ℕ
        epoch_in None = 0
        epoch_in (Some h) = h.epoch

  given-letters : (n epoch : ℕ) (given : Option EndpointParts) → AreOther (given_sent env.serve.c n epoch given)
  given-letters n epoch None v q = tt
  given-letters n epoch (Some parts) v q = (other-letter k.stream v q n env.serve.c epoch body.Given (λ i. cc), tt)

  ours-back : (n epoch : ℕ) (row : FrontRow) (parts : EndpointParts) → IsRefusedThere x n epoch row → IsOurs (returned_row parts row)
  ours-back n epoch row parts there = record {
    e = epoch;
    past = refused-past x n epoch row there;
    passed = λ m d offered.
        let same : d ≡ row.epoch.0 = offered-epoch x at_place row there.found m d (subst (IsOffered m d) there.found offered) in omega (arith, same);
  }

  by-return : (said : List (Place × List ℕ)) → AreOther said → (row : FrontRow) (parts : EndpointParts) → IsOurs (returned_row parts row)
      → IsValidParts parts → IsWithinStream k.stream w (parts.una - 1) → KeptByReturn env p said row parts Came Stays
  by-return said other row parts ours valid counts = record {
    reads =
        let start : IsServing env.serve w (back_service env row parts) = record { told = (tt, (tt, tt)); counts = own-counts (parts.una - 1) counts } in
        let stop : HasStopped env.serve w within (front_reads env.serve (back_reading env row parts)) =
        reads-so env.serve w within (back_service env row parts) (start, (adopted-turns parts valid).0) in
        (stop.0.0, stop.0.1, stop.1);
    holds = λ t came. settled-limited said other (back_part p row parts) (returned_row parts row) ours (back_rest parts) t came;
    hands = λ t path choice came is. handed-limited said other (returned_row parts row) ours t path choice
        (call.First env.serve.c path env.now ∷ []) came.0 came.1 came.2.0 came.2.1;
    waits = λ t path came is. placed-limited said other (back_part p row parts) (returned_row parts row) ours (back_rest parts) t path came;
  }

  returns-limited : (n epoch : ℕ) (given : Option EndpointParts) → HasBack x n epoch given heads
      → (row : FrontRow) (parts : EndpointParts) → IsBack p n epoch given row parts → KeptByReturn env p (given_sent env.serve.c n epoch given) row parts Came Stays
  returns-limited n epoch None comes row parts back =
      let there : IsRefusedThere x n epoch row = refused-there x at_place n epoch heads comes row parts back in
      by-return [] none-said row parts (ours-back n epoch row parts there) (back-valid x n epoch None heads comes parts back.parts_are)
      (kept-counts n epoch row parts there back.parts_are)
  returns-limited n epoch (Some given) comes row parts back = absurd (no-give x at_place n epoch given comes.bytes comes.was comes.spells)

  -- ---- whatever comes

  by-rules : KeptByFront env p (FrontComes x env heads) Came Stays
  by-rules = record {
    drops = dropped;
    hears = λ bytes s m. by-segment bytes s;
    fires = λ m. record {
      drops = dropped;
      holds = λ row b at. says-held row b (after_timer b) (fired_before env b) at (timer-many b) (after_timer-sound b (counts-row row (stage.Held b) at).sound)
          (ready-to env.serve (after_timer b) (timed b));
      stays = λ row b at.
          let c : FrontStageCounts k.stream w (stage.Waiting b) = counts-row row (stage.Waiting b) at in
          says-waiting row b (after_timer b) (fired_before env b) at (timer-many b) (after_timer-sound b c.0.sound)
          (spoken-idle env.serve (fired_service p b) (fired_before env b) (timer-idle b (idle-of b c.1 c.0.sound.sending.queued))) (ready-to env.serve (after_timer b) (timed b));
      resends = λ row n e at. says (map sent_of p.kept) (resent-letters p.kept sound_x.front);
    };
    takes = λ n epoch m row node e at same. idle-counts k.stream x (front_does x heads (taken_by p epoch (Some row) (Some node)))
        (record { heads = seen; notes = tt; front = tt; nodes = h.counted.nodes; letters = tt });
    tags_again = λ n epoch ask m rest found there same some. says (tag_sent env n epoch rest.asks rest.tag) (tag-letters n epoch rest.asks rest.tag x.part);
    assigns_next = λ n epoch ask m rest found there next. assigns-limited n epoch ask rest;
    ends_again = λ n epoch last m row found away again. says (ack_sent env n epoch) (ack-letters n epoch x.part);
    ends = λ n epoch last m row found away.
        let v : Move = front_does x heads (Does (front_ends env p n epoch last row (next_epoch row))) in
        idle-counts k.stream x v (record { heads = seen; notes = (tt, (tt, tt)); front = tt; nodes = h.counted.nodes; letters = ack-letters n epoch v.part });
    gives_again = λ n epoch parts m row found past. says (given_sent env.serve.c n epoch (Some parts)) (given-letters n epoch (Some parts) w x.part);
    returns = returns-limited;
    admits = λ choice made met row b path at target.
        let c : FrontStageCounts k.stream w (stage.Waiting b) = counts-row row (stage.Waiting b) at in
        handed-limited [] none-said row (ours-at row (stage.Waiting b) at tt) (serving b (front_rest p.rest).count []) path choice []
        (here-serving b b (front_rest p.rest).count refl c.0) c.0.sound c.1 refl;
  }

  pub front-limited : (g : FrontGets) → FrontComes x env heads g → Stays (front_rule env p g)
  front-limited g comes = front-keeps env p (FrontComes x env heads) Came Stays by-rules g (admission x env heads g comes) comes
