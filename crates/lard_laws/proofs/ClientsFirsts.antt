-- Each operation of an endpoint leaves the cluster's first number as it is, and each segment with SYN that it sends has it.
use Rattle.std.proofs.Common.{◌≡◌, ◌+◌, ◌*◌, ◌/◌, ◌%◌, ◌<◌, ◌^◌, ◌&&◌, not, ℕ, Bool, true, false, cond, List, [], ◌∷◌, map, Option, Some, None, Ok, IfSome, refl, sym, ap, ◌∙◌, subst, arith}
use Rattle.std.proofs.lemmas.Bool.{cond-true, cond_both}
use Rattle.lard_law_view.specs.Prelude.{Body, Client, ControlBlock, Final, Flags, Front, IsMachine, Node, Place, Ready, Reason, Said, Sending, ServeEnv, Service, ToClient, Verdict, Via, ack_ready, advanced, answer, answered, closes, decoded, discarding_on, emitted, finishing, is_telling, kind_of, last_ack, last_words, letter, next_piece, owed_ready, owes, parts_of, piece_ready, queueing, ready_of, refusal, resent_piece, retried, seq_add, spelled, timed}
use Rattle.lard_base.specs.declared.place.Reason.TheVariants as reason
use Rattle.lard_history.proofs.Each.{Each}
use Rattle.lard_law_connections.proofs.LimitsOffers.{offer-read}
use Rattle.lard_law_connections.proofs.ResetsTurns.{same-flags}
use Rattle.lard_law_connections.proofs.SilenceEndpoints.{Anything}
use Rattle.lard_law_connections.proofs.SilenceTurns.{AreTold, IsKept}
use Rattle.lard_law_connections.proofs.PlacesHeads.{kinds-same}
use Rattle.lard_law_view.proofs.Saying.{AreMessages}
use Rattle.lard_laws.specs.ClientsFirsts.{BodyHasFirst, BytesGreet, GreetsBy, HasFirstOn, IssIs, LetterHasFirst, MessageHasFirst}
use Rattle.lard_laws.proofs.ClientsTelling.{TellsEach}
use Rattle.lard_message.specs.declared.kind.Kind.TheVariants as kind
use Rattle.lard_message.specs.declared.message.Body.TheVariants as body
use Rattle.lard_rules.specs.Front.{message}
use Rattle.lard_rules.proofs.Halves.{KeptBySending, endpoint-emit, endpoint-fires, endpoint-segment}
use Rattle.lard_rules.proofs.Loops.{speaks_keep}
use Rattle.lard_rules.proofs.Sides.{ack-side, next-side, resend-side}
use Rattle.lard_segment.proofs.Decoded.{decoded-read}
use Rattle.lard_send.specs.declared.piece.Piece.{Piece}
use Rattle.lard_rules.proofs.Endings.{answered-keeps, at-fin-keeps}

-- ---- an endpoint

module _ (iss : ℕ) where
  kept-first : KeptBySending (λ (s : Sending). s.iss ≡ iss)
  kept-first = record {
    acks = λ s ack seq wnd h. (ack-side s ack seq wnd).first ∙ h;
    nexts = λ s h. (next-side s).first ∙ h;
    resends = λ s h. (resend-side s).first ∙ h;
    closes = λ s h. h;
    learns = λ s irs mss h. h;
  }

  -- a segment that is ready
  abbrev ReadyGreets : Ready → Type 0
  ReadyGreets r = r.flags.syn ≡ true → r.seq.0 ≡ iss

  some-ready : (p q : Ready) → Some p ≡ Some q → p ≡ q
  some-ready p q e = cc

  piece-greets : (d : ControlBlock) (p : Piece) → IssIs iss d → ReadyGreets (piece_ready d p)
  piece-greets d p h syn = cond-true p.syn d.send.iss (seq_add d.send.iss (1 + p.at)) syn ∙ h

  ready-greets : (d : ControlBlock) (o : Option Piece) (other : Option Ready) (r : Ready) → IssIs iss d → ((q : Ready) → other ≡ Some q → ReadyGreets q) → ready_of d o other ≡ Some r → ReadyGreets r
  ready-greets d None other r h k e = k r e
  ready-greets d (Some p) other r h k e = subst ReadyGreets (some-ready (piece_ready d p) r e) (piece-greets d p h)

  -- an ACK alone has no SYN
  owed-greets : (d : ControlBlock) (q : Ready) → owed_ready d ≡ Some q → ReadyGreets q
  owed-greets d q e = go (owes d) e where
    go : (t : Bool) → cond {A = Option Ready} t (Some (ack_ready d)) None ≡ Some q → ReadyGreets q
    go true k = subst ReadyGreets (some-ready (ack_ready d) q k) (λ syn. absurd (let no : false ≡ true = syn in cc))
    go false k = absurd (let no : None ≡ Some q = k in cc)

  emitted-greets : (b : ControlBlock) (r : Ready) → IssIs iss b → emitted b ≡ Some r → ReadyGreets r
  emitted-greets b r h e = go b.reset e where
    go : (t : Bool) → cond {A = Option Ready} t None (ready_of (advanced b) (next_piece b.send) (owed_ready (advanced b))) ≡ Some r → ReadyGreets r
    go true k = absurd (let no : None ≡ Some r = k in cc)
    go false k = ready-greets (advanced b) (next_piece b.send) (owed_ready (advanced b)) r (kept-first.nexts b.send h) (owed-greets (advanced b)) k

  timed-greets : (b : ControlBlock) (r : Ready) → IssIs iss b → timed b ≡ Some r → ReadyGreets r
  timed-greets b r h e = go b.reset e where
    go : (t : Bool) → cond {A = Option Ready} t None (ready_of (retried b) (resent_piece b.send) None) ≡ Some r → ReadyGreets r
    go true k = absurd (let no : None ≡ Some r = k in cc)
    go false k = ready-greets (retried b) (resent_piece b.send) None r (kept-first.resends b.send h) (λ q f. absurd (let no : None ≡ Some q = f in cc)) k

  answered-first : (env : ServeEnv) (via : Via) (v : Verdict) (w : Service) → IssIs iss w.block → IssIs iss (answered env via v w).block
  answered-first env via v w h =
      let bytes = answer env.files v in
      let more = queueing w.block bytes in
      answered-keeps (λ (z : Service). IssIs iss z.block) env via v w (λ t. h)
      (λ t. cond_both (closes v) (finishing (discarding_on more)) more (IssIs iss) (λ u. h) (λ u. h))

  pub first-kept : (env : ServeEnv) → IsKept env (IssIs iss) (IssIs iss) Anything (λ b s. GreetsBy iss s)
  first-kept env = record {
    begins = λ b h. h;
    hears = λ b s h word. endpoint-segment (λ (s : Sending). s.iss ≡ iss) kept-first b s h;
    fires = λ b h. endpoint-fires (λ (s : Sending). s.iss ≡ iss) kept-first b h;
    again = λ b r h e. timed-greets b r h e;
    emits = λ b h. endpoint-emit (λ (s : Sending). s.iss ≡ iss) kept-first b h;
    says = λ b r h e. emitted-greets b r h e;
    later = λ b s h r. r;
    cuts = λ b h syn. absurd (let no : false ≡ true = syn in cc);
    serves = record {
      notes = λ w rs starts h. h;
      reads = λ w n h. h;
      ends = λ w h. at-fin-keeps (λ (z : Service). IssIs iss z.block) w (λ t. h) (λ t. h);
      answers = λ w way v may h. answered-first env way v w h;
    };
    rests = λ b h stays. speaks_keep env.c (λ (b : ControlBlock) ss d. IssIs iss b → IssIs iss d)
        (record { rests = λ b h. h; says = λ b r ss d e later h. later (endpoint-emit (λ (s : Sending). s.iss ≡ iss) kept-first b h) }) b h;
  }

  -- what a connection that ended answers has no SYN
  pub words-greet : (why : Reason) (last : Final) (s : Said) → IfSome (last_words why last s) (λ (t : Said). (d : ControlBlock) → GreetsBy iss t)
  words-greet reason.Closed last s = cond_both (is_telling s) (Some (last_ack last)) None (λ (q : Option Said). IfSome q (λ (t : Said). (d : ControlBlock) → GreetsBy iss t))
      (λ t d syn. absurd (let no : false ≡ true = syn in cc)) (λ t. tt)
  words-greet reason.Peer last s = tt
  words-greet reason.Limit last s = cond_both (s.flags.ack && not s.flags.rst) (Some (refusal s.ack)) None (λ (q : Option Said). IfSome q (λ (t : Said). (d : ControlBlock) → GreetsBy iss t))
      (λ t d syn. absurd (let no : false ≡ true = syn in cc)) (λ t. tt)

-- ---- segments

-- the number of a segment stands in four bytes
pub four : (n : ℕ) → n < 2 ^ 32 → (n / 16777216 % 256 * 256 + n / 65536 % 256) * 65536 + (n / 256 % 256 * 256 + n % 256) ≡ n
four n h = omega arith

number-spelled : (c : ℕ) (s t : Said) → decoded (spelled c ToClient s) c ToClient ≡ Ok t
    → t.seq ≡ (s.seq / 16777216 % 256 * 256 + s.seq / 65536 % 256) * 65536 + (s.seq / 256 % 256 * 256 + s.seq % 256)
unfolding spelled
number-spelled c s t e = (decoded-read (spelled c ToClient s) c ToClient t e).sequence

module _ (c iss : ℕ) (small : iss < 2 ^ 32) where
  spelled-greets : (s : Said) → GreetsBy iss s → BytesGreet c iss (spelled c ToClient s)
  spelled-greets s h t e =
      let n = number-spelled c s t e in
      record {
        fits = omega (arith, n);
        greets = λ syn.
            let same : s.seq ≡ iss = h (sym (ap (λ (f : Flags). f.syn) (same-flags c s t e)) ∙ syn) in
            n ∙ four s.seq (omega (arith, same, small)) ∙ same;
      }

  on-machine : (place : Place) (bytes : List ℕ) → IsMachine place → BytesGreet c iss bytes → HasFirstOn c iss place (Client c) bytes
  on-machine Front bytes m g = g
  on-machine (Node n) bytes m g = g
  on-machine (Client d) bytes m g = absurd m

  -- all that goes to the client
  pub told-first : (place : Place) → IsMachine place → (ss : List (Place × List ℕ)) → AreTold c (GreetsBy iss) ss → Each (LetterHasFirst c iss) (map (letter place) ss)
  told-first place m [] told = tt
  told-first place m (p ∷ ps) told = (
    subst (λ (to : Place). HasFirstOn c iss place to p.1) (sym told.0.0) (on-machine place p.1 m (subst (BytesGreet c iss) (sym told.0.1.1) (spelled-greets told.0.1.0 told.0.1.2))),
    told-first place m ps told.1,
  )

  -- ---- messages

  other-first : (d e : ℕ) (b : Body) → (kind_of b ≡ kind.Offer → ⊥) → MessageHasFirst iss (message d e b)
  other-first d e b other m read = go m.body (kinds-same (record { c = d; epoch = record { 0 = e }; body = b }) m read) where
    go : (a : Body) → kind_of b ≡ kind_of a → BodyHasFirst iss a
    go (body.Offer parts) same = absurd (other same)
    go _ same = tt

  offer-first : (d e count : ℕ) (b : ControlBlock) → IssIs iss b → MessageHasFirst iss (message d e (body.Offer (parts_of b count)))
  offer-first d e count b h m read = go m.body refl where
    go : (a : Body) → m.body ≡ a → BodyHasFirst iss a
    go (body.Offer parts) is = (offer-read d e (parts_of b count) m parts read is).0 (subst (λ (n : ℕ). n < 2 ^ 32) (sym h) small) ∙ h
    go _ is = tt

  -- of each message that the front end makes
  pub front-tells : (d : ℕ) → TellsEach (λ to bytes. HasFirstOn c iss Front to bytes) d (IssIs iss)
  front-tells d = record {
    offers = λ n e count b h. offer-first d e count b h;
    tags = λ n e number nodes. other-first d e (body.Tag number nodes) (λ f. let no : kind.Tag ≡ kind.Offer = f in cc);
    acks = λ n e. other-first d e body.EndedAck (λ f. let no : kind.EndedAck ≡ kind.Offer = f in cc);
    givens = λ n e. other-first d e body.Given (λ f. let no : kind.Given ≡ kind.Offer = f in cc);
  }

  pub forward-tells : (d : ℕ) (bytes : List ℕ) (n e : ℕ) → HasFirstOn c iss Front (Node n) (message d e (body.Forward bytes))
  forward-tells d bytes n e = other-first d e (body.Forward bytes) (λ f. let no : kind.Forward ≡ kind.Offer = f in cc)

module _ (c iss : ℕ) where
  pub front-first : (ms : List (Place × List ℕ)) → Each (λ (p : Place × List ℕ). HasFirstOn c iss Front p.0 p.1) ms → Each (LetterHasFirst c iss) (map (letter Front) ms)
  front-first [] h = tt
  front-first (m ∷ ms) h = (h.0, front-first ms h.1)

  -- a node makes no Offer
  pub node-first : (n : ℕ) (ms : List (Place × List ℕ)) → AreMessages c (Node n) ms → Each (LetterHasFirst c iss) (map (letter (Node n)) ms)
  node-first n [] h = tt
  node-first n (m ∷ ms) h = (go m.0 h.0.0, node-first n ms h.1) where
    go : (to : Place) → IsMachine to → HasFirstOn c iss (Node n) to m.1
    go Front machine = tt
    go (Node k) machine = tt
    go (Client d) machine = absurd machine

  from-client : (d : ℕ) (to : Place) (bytes : List ℕ) → HasFirstOn c iss (Client d) to bytes
  from-client d _ bytes = tt

  pub client-first : (d : ℕ) (ps : List (Place × List ℕ)) → Each (LetterHasFirst c iss) (map (letter (Client d)) ps)
  client-first d [] = tt
  client-first d (p ∷ ps) = (from-client d p.0 p.1, client-first d ps)
