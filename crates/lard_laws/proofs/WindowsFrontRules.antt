-- The rules of the front end keep how far windows reach.
use Rattle.std.proofs.Common.{◌≡◌, ◌≤◌, ◌<◌, ◌^◌, ◌&&◌, not, ℕ, true, List, [], Option, Some, None, Ok, IfSome, refl, sym, ap, ◌∙◌, subst, arith}
use Rattle.std.proofs.lemmas.Bool.{and_parts, cond_both}
use Rattle.lard_law_view.specs.Prelude.{Conn, ControlBlock, EndpointParts, Final, FrontRow, FrontRules, IsConnNumber, IsFrontEnv, IsWord, Move, Reason, Said, Seen, Setting, Station, adopted, front_does, is_plain_syn, is_telling, last_ack, last_words, listening, refusal}
use Rattle.lard_base.specs.declared.place.Reason.TheVariants as reason
use Rattle.lard_law_connections.specs.BytesAgreement.{EndedWithNumbers, IsTruthful, SeatAgrees, StageAgrees}
use Rattle.lard_law_connections.proofs.PlacesFrontMessages.{no-give, refused-past, refused-there}
use Rattle.lard_law_connections.proofs.PlacesTurns.{IsPlaced}
use Rattle.lard_law_connections.proofs.ReturnedParts.{back-valid}
use Rattle.lard_law_connections.specs.SilencePlaces.{FrontHas}
use Rattle.lard_law_connections.proofs.SilenceEndpoints.{Anything}
use Rattle.lard_law_connections.proofs.SilenceFronts as fronts
use Rattle.lard_law_connections.proofs.SilenceTurns.{IsKept}
use Rattle.lard_law_view.proofs.EachFront.{FrontComes, HasBack, admission, each-front}
use Rattle.lard_laws.proofs.AcksOffers.{IsOfferOf, refused-is}
use Rattle.lard_laws.proofs.FrontComing.{heard-number, heard-word}
use Rattle.lard_laws.specs.Windows.{EndSent, FrontSent, StationReaches, SymbolsWereSent}
use Rattle.lard_laws.proofs.WindowsEndpoints.{endpoint-law}
use Rattle.lard_laws.proofs.WindowsMoves.{GoesOn, Home, Known, Says, front-moves, known}
use Rattle.lard_laws.proofs.WindowsPlaces.{closed-alone, front-at, front-sent, front_sent, home-alone, offered-sent, unborn-alone}
use Rattle.lard_laws.proofs.WindowsOffers.{GoesOnFrom, of-offer}
use Rattle.lard_rules.proofs.FrontCases.{IsBack}
use Rattle.lard_rules.specs.Front as front
use Rattle.lard_handoff_front.specs.declared.row.FrontConn.TheVariants as stage
use Rattle.lard_rules.proofs.Endpoints.{listening-sound}
use Rattle.lard_law_view.proofs.Endpoint.{listening-begins}
use Rattle.lard_laws.proofs.WindowsOpen as known
use Rattle.lard_laws.proofs.WindowsOpen.{by-station}
use Rattle.lard_law_view.proofs.Deeds.{front-station}

module _ (k : Setting) (small : k.stream ≤ 2 ^ 30) where
  abbrev Keeps : Conn → Move → Type 0
  Keeps x v = known.Keeps k small x v

  abbrev Helps : Conn → Move → Type 0
  Helps x v = known.Helps k small x v

  -- ---- the front end

  module _ (x : Conn) (s : Station) (there : x.part.station ≡ Some s) (truth : IsTruthful k.files x) (number : IsConnNumber x.c) (placed : IsPlaced x)
      (h : StationReaches x s) (env : front.FrontEnv) (is : IsFrontEnv k x.c env) where
    abbrev isn_fits : s.client.send.iss < 2 ^ 32
    isn_fits = known.isn_small k small x s there truth

    abbrev sent : ℕ
    sent = front_sent x.part.front.kept x.part.front.row

    abbrev F : ControlBlock → Type 0
    F b = GoesOn x s h sent isn_fits (Home x s h sent isn_fits) b

    abbrev G : ControlBlock → Said → Type 0
    G b t = Says x s h sent isn_fits (Home x s h sent isn_fits) b t

    kept : IsKept env.serve F F Anything G
    kept = endpoint-law s.client.send.iss s.iss sent isn_fits (Known x s h sent isn_fits (Home x s h sent isn_fits)) (Home x s h sent isn_fits) (known x s h sent isn_fits (Home x s h sent isn_fits)) env.serve
        (subst (λ (n : ℕ). n ≤ 2 ^ 30) (sym is.stream) small)

    have : FrontHas F x.part.front.row
    have = front-at (EndSent x.c s.client s.iss x.letters) F x.part.front.row
        (λ row b found at e.
        let same : sent ≡ b.send.nxt = front-sent x.part.front.kept x.part.front.row row b found at in
        (e.0, omega (arith, same), (home-alone x placed row b found at, subst (SymbolsWereSent x.c s.client s.iss x.letters) (sym same) e.1)))
        h.front

    abbrev Fine : front.FrontDeed → Type 0
    Fine d = fronts.DeedHas F G x.c d

    -- a segment of the client's
    module _ (begins : env.iss ≡ s.iss) (sd : Said) (word : IsWord truth.talk.w sd) where
      listens : x.part.front.row ≡ None → is_plain_syn sd ≡ true → F (listening sd env.iss)
      listens none plain =
          let greets : sd.seq ≡ truth.talk.w.first = word.true_of.greets (and_parts sd.flags.syn _ plain).0 in
          let zero : sent ≡ 0 = ap (front_sent x.part.front.kept) none in
          let was : SymbolsWereSent x.c s.client s.iss x.letters 0 = subst (FrontSent x.c s.client s.iss x.letters) none h.begins in (
            record { sound = listening-sound sd env.iss; irs_is = greets ∙ known.first_is k small x s there truth; iss_is = begins; bytes = []; speaks = (listening-begins truth.talk.w sd env.iss (let n = known.iss_small k small x s there truth in omega (arith, n, begins)) greets).1 },
            omega (arith, zero),
            (unborn-alone x placed none, subst (SymbolsWereSent x.c s.client s.iss x.letters) (sym zero) was),
          )

      words-reach-so : (why : Reason) (last : Final) → last.snd.0 < 2 ^ 32 → last.rcv.0 < 2 ^ 32 → Home x s h sent isn_fits → IfSome (last_words why last sd) (λ (t : Said). (d : ControlBlock) → G d t)
      words-reach-so reason.Closed last snd rcv home = cond_both (is_telling sd) (Some (last_ack last)) None (λ (q : Option Said). IfSome q (λ (t : Said). (d : ControlBlock) → G d t))
          (λ t d. (
            record { seq_fits = snd; ack_fits = rcv; wnd_fits = omega arith; some_mss = tt; small_mss = tt; small_payload = omega arith; no_ack = λ f. absurd (cc) },
            record { wide = λ rst. omega arith; ends = λ rst some. absurd (omega (arith, some)) },
            home,
          ))
          (λ t. tt)
      words-reach-so reason.Peer last snd rcv home = tt
      words-reach-so reason.Limit last snd rcv home = cond_both (sd.flags.ack && not sd.flags.rst) (Some (refusal sd.ack)) None (λ (q : Option Said). IfSome q (λ (t : Said). (d : ControlBlock) → G d t))
          (λ t d. (
            record { seq_fits = word.sendable.ack_fits; ack_fits = omega arith; wnd_fits = omega arith; some_mss = tt; small_mss = tt; small_payload = omega arith; no_ack = λ f. refl },
            record { wide = λ rst. absurd (cc); ends = λ rst some. absurd (cc) },
            home,
          ))
          (λ t. tt)

      closes : (row : FrontRow) (last : Final) → x.part.front.row ≡ Some row → row.stage ≡ stage.Closed last → IfSome (last_words last.reason last sd) (λ (t : Said). (d : ControlBlock) → G d t)
      closes row last found at =
          let l = truth.talk in
          let ended : EndedWithNumbers l.w l.was_reset last = subst (StageAgrees l.w l.out l.vs truth.pend l.was_reset x.c x.part row.epoch.0) at (subst (SeatAgrees l.w l.out l.vs truth.pend l.was_reset x.c x.part) found (known.whole k small x s there truth).seat) in
          words-reach-so last.reason last ended.snd_fits ended.rcv_fits (closed-alone x placed row last found at)

    -- ---- a connection that comes back

    -- what it goes on from is the endpoint that was frozen
    returns : (n epoch : ℕ) (back : Option EndpointParts) (heads : List Seen) → HasBack x n epoch back heads → (row : FrontRow) (parts : EndpointParts)
        → IsBack x.part.front n epoch back row parts → F (adopted parts)
    returns n epoch (Some found) heads comes row parts back = absurd (no-give x placed n epoch found comes.bytes comes.was comes.spells)
    returns n epoch None heads comes row parts back =
        let l = truth.talk in
        let o = known.whole k small x s there truth in
        let offer : IsOfferOf l truth.pend parts = refused-is k.files x number placed s l truth.pend o n epoch heads comes row parts back in
        let goes : GoesOnFrom x s parts = of-offer k.files x s l truth.pend o h parts (back-valid x n epoch None heads comes parts back.parts_are) offer in
        let at = back.refused refl in
        let same : sent ≡ parts.una = offered-sent x.part.front.kept x.part.front.row row n back.from parts at.0 at.1 back.parts_are in (
          goes.end,
          omega (arith, same),
          (
            (epoch, refused-past x n epoch row (refused-there x placed n epoch heads comes row parts back)),
            subst (SymbolsWereSent x.c s.client s.iss x.letters) (sym same) goes.sent,
          ),
        )

    -- ---- whatever comes

    given : (heads : List Seen) (g : front.FrontGets) → FrontComes x env heads g → fronts.Given env F F Anything G kept x.part.front have g
    given heads (front.FrontHears bytes (Ok sd)) comes =
        let word : IsWord truth.talk.w sd = heard-word x s env bytes heads k.files truth.talk truth.pend (known.whole k small x s there truth) sd comes in
        (tt, listens (heard-number x s env bytes heads there (Ok sd) comes) sd word, closes (heard-number x s env bytes heads there (Ok sd) comes) sd word)
    given heads (front.ReturnedBy n epoch back) comes = returns n epoch back heads comes
    given heads _ comes = tt

    rule-fine : (heads : List Seen) (g : front.FrontGets) → FrontComes x env heads g → Fine (front.front_rule env x.part.front g)
    rule-fine heads g comes = subst (λ (c : ℕ). fronts.DeedHas F G c (front.front_rule env x.part.front g)) is.number
        (fronts.rule-has env F F Anything G kept x.part.front have g (admission x env heads g comes) (given heads g comes))

  pub front-rules : FrontRules k Keeps
  front-rules = each-front k Keeps (λ x env heads g is comes help h.
      let d : front.FrontDeed = front.front_rule env x.part.front g in
      by-station x (front_does x heads d) (front-station x heads d) (λ s there h.
      front-moves x s h (sent x s there help.truth help.number help.placed h env is) (known.isn_small k small x s there help.truth) heads d (rule-fine x s there help.truth help.number help.placed h env is heads g comes) help.own) h)
