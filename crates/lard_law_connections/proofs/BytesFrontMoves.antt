-- What the front end does leaves its connection in agreement.
use Rattle.std.proofs.Common.{◌≡◌, ◌≤◌, ◌||◌, ◌^◌, ℕ, Bool, List, [], ◌∷◌, map, Option, Some, None, Ok, Result, refl, ap, ◌∙◌, sym, subst, inl, inr}
use Rattle.std.specs.List.{list_any}
use Rattle.lard_law_view.specs.Prelude.{AreReplies, AreSent, Body, Client, Conn, Did, Epoch, FilesAt, Final, Front, FrontConn, FrontDeed, FrontEnv, FrontGets, FrontHears, FrontPart, FrontRow, FrontTurn, IsFrontEnv, IsStream, IsWord, Kept, Message, Move, Node, Part, Place, Said, SaysAnswers, Seen, SegFault, Setting, Station, Stream, Talk, ToCluster, Verdict, bytes_served_in, decoded, fires_at, forwarded, front_begun, front_does, front_rest, front_rule, front_saying, hears_at, holds, is_reset_record, kind_of, last_words, letter, placed, sent_of, served_in, serving_settled, spelled, spelled_message, tale_at, tombstone, turn_here}
use Rattle.lard_law_connections.specs.BytesAgreement.{FrontHolds, FrontTells, IsFair, IsFairOn, IsOpen, SeatAgrees, StageAgrees}
use Rattle.lard_law_connections.specs.BytesKeeping.{FrontPartAgrees, FrontDeedKeeps, FrontRowAgrees, FrontSays, FrontStageAgrees, FrontTurned, IsFrontTalk, SaysOfKind}
use Rattle.lard_law_connections.proofs.BytesLaw.{Helps, IsTrueMove}
use Rattle.lard_law_connections.proofs.BytesClientMoves.{has-fair}
use Rattle.lard_law_connections.proofs.BytesFronts.{CameBack, IsOurs, IsTrueWord, RowIsOurs, rule-keeps}
use Rattle.lard_law_connections.proofs.BytesMessages.{forwards-read}
use Rattle.lard_law_connections.proofs.BytesMoves.{idle-goes, move-goes, replies-fair, talk_after}
use Rattle.lard_law_connections.proofs.BytesTold.{bytes_of}
use Rattle.lard_law_connections.specs.Places.{ArePast, IsOffered, Offers, Owning, Sits, StageSits, owning}
use Rattle.lard_law_connections.proofs.PlacesGrowing.{IsFrom, past-later, front_epoch, grows-from}
use Rattle.lard_law_connections.proofs.PlacesHeads.{kinds-same}
use Rattle.lard_law_view.proofs.Rows.{tale_before}
use Rattle.lard_rules.specs.Front.{Does, Drops, Says, message}
use Rattle.lard_handoff_front.specs.declared.row.FrontConn.TheVariants as stage
use Rattle.lard_history.proofs.Each.{Each, Each-append}
use Rattle.lard_message.specs.declared.kind.Kind.TheVariants as kind
use Rattle.lard_message.specs.declared.message.Body.TheVariants as body
use Rattle.lard_segment.proofs.Again.{again}
use Rattle.lard_law_view.proofs.Speaking.{speaks-stream}
use Rattle.lard_law_view.proofs.EachFront.{FrontComes, HasSegment, admission}
use Rattle.lard_rules.proofs.FrontCases.{KeptBySegment, KeptByTimer, IsInStage}
use Rattle.lard_dispatch.specs.declared.dispatch.First.TheVariants as first

-- ---- messages of the front end

tells-kind : (k : Talk) (c : ℕ) (p : Part) (n e : ℕ) (bytes : List ℕ) (b : Body) → SaysOfKind p.front bytes (kind_of b) → FrontTells k c p n e bytes b
tells-kind k c p n e bytes (body.Offer parts) h = inr (inr h)
tells-kind k c p n e bytes (body.Forward segment) h = absurd h
tells-kind k c p n e bytes _ h = tt

says-fair : (k : Talk) (c : ℕ) (p : Part) (s : Place × List ℕ) → FrontSays c p.front s → IsFair k c p (letter Front s)
says-fair k c p s h =
    let x : Message = record { c = c; epoch = record { 0 = h.1 }; body = h.2 } in
    subst (λ (z : Place × List ℕ). IsFair k c p (letter Front z)) (sym h.3)
    (λ m d. tells-kind k c p h.0 m.epoch.0 (spelled_message x) m.body (subst (SaysOfKind p.front (spelled_message x)) (kinds-same x m d) (subst (λ (z : Place × List ℕ). SaysOfKind p.front z.1 (kind_of h.2)) h.3 h.4)))

pub all-say : (k : Talk) (c : ℕ) (p : Part) (ss : List (Place × List ℕ)) → Each (FrontSays c p.front) ss → Each (IsFair k c p) (map (letter Front) ss)
all-say k c p [] h = tt
all-say k c p (s ∷ ss) h = (says-fair k c p s h.0, all-say k c p ss h.1)

-- what it forwards is what came
forward-fair : (k : Talk) (c : ℕ) (p : Part) (n e : ℕ) (bytes : List ℕ) (s : Said) → bytes ≡ spelled c ToCluster s → IsWord k.w s → IsFair k c p (letter Front (Node n, message c e (body.Forward bytes)))
forward-fair k c p n e bytes s is word m d = go m.body refl (kinds-same (record { c = c; epoch = record { 0 = e }; body = body.Forward bytes }) m d) where
  go : (b : Body) → m.body ≡ b → kind.Forward ≡ kind_of m.body → FrontTells k c p n m.epoch.0 (message c e (body.Forward bytes)) b
  go (body.Forward segment) f same = (s, forwards-read c e bytes segment m d f ∙ is, word)
  go (body.Offer parts) f same = let no : kind.Forward ≡ kind.Offer = same ∙ ap kind_of f in absurd cc
  go _ f same = tt

-- ---- what is kept, as the front end's or as the connection's

-- it is held here, or waits
abbrev pub IsBefore : FrontConn → Type 0
IsBefore (stage.Held b) = Unit {0}
IsBefore (stage.Waiting b) = Unit {0}
IsBefore _ = ⊥

-- of what nobody else has no Offer is told
ours-unoffered : (o : Option FrontRow) → RowIsOurs o → (n e : ℕ) → IsOffered n e o → ⊥
ours-unoffered None h n e f = f
ours-unoffered (Some row) h n e f = go row.stage h f where
  go : (d : FrontConn) → IsOurs d → Offers n e d → ⊥
  go (stage.Held b) h f = f
  go (stage.Waiting b) h f = f
  go stage.Lent h f = f
  go (stage.Offering m d) h f = h
  go (stage.Moved m d) h f = h
  go (stage.Closed last) h f = f

module _ (w out : Stream) (vs pend : List Verdict) (r : Bool) (c : ℕ) (p : Part) where
  holds-alone : (b : _) (count : ℕ) → FrontHolds w out vs pend b count → FrontHolds w out vs [] b count
  holds-alone b count h = record { none = refl; serves = h.serves; holds = h.holds }

  stage-front : (e : ℕ) (d : FrontConn) → IsOurs d → StageAgrees w out vs pend r c p e d → FrontStageAgrees w out vs r c e p.front d
  stage-front e (stage.Held b) ours h = holds-alone b _ h
  stage-front e (stage.Waiting b) ours h = (holds-alone b _ h.0, h.1)
  stage-front e stage.Lent ours h = h
  stage-front e (stage.Offering n d) ours h = absurd ours
  stage-front e (stage.Moved n d) ours h = absurd ours
  stage-front e (stage.Closed last) ours h = h

  seat-front : (o : Option FrontRow) → RowIsOurs o → SeatAgrees w out vs pend r c p o → FrontRowAgrees w out vs r c p.front o
  seat-front None ours h = (h.0, h.2)
  seat-front (Some row) ours h = stage-front row.epoch.0 row.stage ours h

  -- and back, where no node has it since an epoch that is no later
  front-stage : (i e : ℕ) (d : FrontConn) → i ≤ e → ArePast i p.nodes → FrontStageAgrees w out vs r c e p.front d → StageAgrees w out vs [] r c p e d
  front-stage i e (stage.Offering n d) le past h = inl (past-later i e (p.nodes n).row le (past n), h)
  front-stage i e (stage.Moved n d) le past h = absurd h
  front-stage i e _ le past h = h

  front-seat : (i : ℕ) (o : Option FrontRow) → IsFrom i o → ArePast i p.nodes → FrontRowAgrees w out vs r c p.front o → SeatAgrees w out vs [] r c p o
  front-seat i None le past h = (h.0, refl, h.1)
  front-seat i (Some row) le past h = front-stage i row.epoch.0 row.stage le past h

-- ---- what it does

module _ (k : Setting) (small : k.stream ≤ 2 ^ 30) (x : Conn) (s : Station) (there : x.part.station ≡ Some s) (l : Talk) (pend : List Verdict) (o : IsOpen k.files x l pend s) where
  -- what goes out where nothing is kept anew
  abbrev pub MessagesFair : FrontDeed → Type 0
  MessagesFair Drops = Unit {0}
  MessagesFair (Says turn) = Each (IsFair l x.c x.part) (map (letter Front) turn.messages)
  MessagesFair (Does did) = Unit {0}

  abbrev IsQuiet : List Seen → Type 0
  IsQuiet heads = (d : FrontDeed) → bytes_of (tale_before x (front_does x heads d)) ≡ bytes_of (tale_at x)

  pub says-goes : (heads : List Seen) (turn : FrontTurn) → bytes_of (tale_before x (front_does x heads (Says turn))) ≡ bytes_of (tale_at x) → turn.notes ≡ [] → AreReplies x.c l.w l.out l.was_reset turn.segments
      → Each (IsFair l x.c x.part) (map (letter Front) turn.messages) → Helps x (front_does x heads (Says turn)) → IsTrueMove k.files x (front_does x heads (Says turn))
  says-goes heads turn quiet none replies fair help =
      let v : Move = front_does x heads (Says turn) in
      move-goes k.files x s there l pend o v help
      (record { heads = quiet; station = refl; offers = λ n e a b. refl; ends = λ n e over. inl refl })
      (idle-goes k.files x s there l pend o v (record {
        each = subst (Each _) (sym none) tt;
        served = ap served_in none;
        size = ap bytes_served_in none;
        reset = ap (list_any is_reset_record) none;
        seat = o.seat;
        ways = o.ways;
        sent = replies;
        letters = Each-append (IsFair l x.c x.part) (map (letter Front) turn.segments) (map (letter Front) turn.messages) (replies-fair l x.c x.part Front (inl refl) turn.segments replies) fair;
      }))

  -- its Offer is told on behind it
  abbrev pub OffersStill : ℕ → ℕ → FrontDeed → Type 0
  OffersStill n e (Does did) = IsOffered n e x.part.front.row × IsOffered n e did.part.row
  OffersStill n e _ = ⊥

  -- what is kept anew is of this epoch, or of a later one
  abbrev pub IsKeptFrom : ℕ → FrontDeed → Type 0
  IsKeptFrom i (Does did) = IsFrom i did.part.row
  IsKeptFrom i _ = Unit {0}

  kept-from : (heads : List Seen) (d : FrontDeed) → Helps x (front_does x heads d) → IsKeptFrom (front_epoch x.part.front.row) d
  kept-from heads Drops help = tt
  kept-from heads (Says turn) help = tt
  kept-from heads (Does did) help = grows-from x.part.nodes x.part.front.row did.part.row help.owes.grows.front

  unoffered : RowIsOurs x.part.front.row → (d : FrontDeed) (n e : ℕ) → OffersStill n e d → ⊥
  unoffered mine (Does did) n e still = ours-unoffered x.part.front.row mine n e still.0
  unoffered mine _ n e still = still

  does-goes : (heads : List Seen) (did : Did) → bytes_of (tale_before x (front_does x heads (Does did))) ≡ bytes_of (tale_at x)
      → ((n e : ℕ) → OffersStill n e (Does did) → ⊥) → (i : ℕ) → IsFrom i did.part.row → ArePast i x.part.nodes
      → FrontTurned k.files x.c l.w l.out l.vs l.was_reset did.part did.turn → Helps x (front_does x heads (Does did)) → IsTrueMove k.files x (front_does x heads (Does did))
  does-goes heads did quiet anew i from past t help =
      let v : Move = front_does x heads (Does did) in
      let r : Bool = l.was_reset || list_any is_reset_record did.turn.notes in
      let after : Talk = talk_after k.files x s there l pend o v t.out_after t.vs_after in
      move-goes k.files x s there l pend o v help
      (record { heads = quiet; station = refl; offers = λ n e a b. absurd (anew n e (a, b)); ends = λ n e over. inl refl })
      (record {
        out_after = t.out_after;
        vs_after = t.vs_after;
        pend_after = [];
        longer = t.longer;
        says = t.says;
        seat = front-seat l.w t.out_after t.vs_after [] r x.c v.part i did.part.row from past t.agrees;
        ways = o.ways;
        noted = t.noted;
        sent = t.sent;
        letters = Each-append (IsFair after x.c v.part) (map (letter Front) did.turn.segments) (map (letter Front) did.turn.messages)
            (replies-fair after x.c v.part Front (inl refl) did.turn.segments t.sent) (all-say after x.c v.part did.turn.messages t.said);
      })

  pub drops-goes : (heads : List Seen) → bytes_of (tale_before x (front_does x heads Drops)) ≡ bytes_of (tale_at x) → Helps x (front_does x heads Drops) → IsTrueMove k.files x (front_does x heads Drops)
  drops-goes heads quiet help = move-goes k.files x s there l pend o (front_does x heads Drops) help
      (record { heads = quiet; station = refl; offers = λ n e a b. refl; ends = λ n e over. inl refl })
      (idle-goes k.files x s there l pend o (front_does x heads Drops) (record { each = tt; served = refl; size = refl; reset = refl; seat = o.seat; ways = o.ways; sent = tt; letters = tt }))

  -- where each stay was of an earlier epoch than what is kept anew
  pub deed-from : (heads : List Seen) (d : FrontDeed) → IsQuiet heads → ((n e : ℕ) → OffersStill n e d → ⊥)
      → (i : ℕ) → IsKeptFrom i d → ArePast i x.part.nodes → MessagesFair d
      → FrontDeedKeeps k.files x.c l.w l.out l.vs l.was_reset d → Helps x (front_does x heads d) → IsTrueMove k.files x (front_does x heads d)
  deed-from heads Drops quiet anew i from past fair t help = drops-goes heads (quiet Drops) help
  deed-from heads (Says turn) quiet anew i from past fair t help = says-goes heads turn (quiet (Says turn)) t.0 t.1 fair help
  deed-from heads (Does did) quiet anew i from past fair t help = does-goes heads did (quiet (Does did)) anew i from past t help

  pub deed-goes : (heads : List Seen) (d : FrontDeed) → IsQuiet heads → ((n e : ℕ) → OffersStill n e d → ⊥)
      → ArePast (front_epoch x.part.front.row) x.part.nodes → MessagesFair d
      → FrontDeedKeeps k.files x.c l.w l.out l.vs l.was_reset d → Helps x (front_does x heads d) → IsTrueMove k.files x (front_does x heads d)
  deed-goes heads d quiet anew past fair t help = deed-from heads d quiet anew (front_epoch x.part.front.row) (kept-from heads d help) past fair t help

-- ---- a segment, and the timers

-- the settings of the rules are the run's
pub talk-of : (k : Setting) → k.stream ≤ 2 ^ 30 → (x : Conn) (env : FrontEnv) → IsFrontEnv k x.c env → (s : Station) (l : Talk) (pend : List Verdict) → IsOpen k.files x l pend s → env.iss ≡ s.iss → IsFrontTalk env l.w l.out l.vs
talk-of k small x env is s l pend o iss = record {
  most = subst (λ (n : ℕ). n ≤ 2 ^ 30) (sym is.stream) small;
  begins = iss ∙ sym o.begins;
  stream = subst IsStream (sym o.client.w_is) (speaks-stream s.client.send l.w.bytes o.client.speaks);
  says = subst (λ (files : FilesAt). SaysAnswers files l.w l.out l.vs) (sym is.files) o.says;
}

module _ (k : Setting) (small : k.stream ≤ 2 ^ 30) (x : Conn) (s : Station) (there : x.part.station ≡ Some s) (env : FrontEnv) (is : IsFrontEnv k x.c env) (l : Talk) (pend : List Verdict) (o : IsOpen k.files x l pend s) where
  -- for its own number and files
  own-keeps : (d : FrontDeed) → FrontDeedKeeps env.serve.files env.serve.c l.w l.out l.vs l.was_reset d → FrontDeedKeeps k.files x.c l.w l.out l.vs l.was_reset d
  own-keeps d h = subst (λ (files : FilesAt). FrontDeedKeeps files x.c l.w l.out l.vs l.was_reset d) is.files (subst (λ (c : ℕ). FrontDeedKeeps env.serve.files c l.w l.out l.vs l.was_reset d) is.number h)

  own-agrees : RowIsOurs x.part.front.row → FrontPartAgrees l.w l.out l.vs l.was_reset env.serve.c x.part.front
  own-agrees ours = subst (λ (c : ℕ). FrontPartAgrees l.w l.out l.vs l.was_reset c x.part.front) (sym is.number) (seat-front l.w l.out l.vs pend l.was_reset x.c x.part x.part.front.row ours o.seat)

  -- what its Offer says was sent before
  again-fair : (ks : List Kept) → AreSent x Front ks → Each (IsFair l x.c x.part) (map (letter Front) (map sent_of ks))
  again-fair [] h = tt
  again-fair (q ∷ ks) h = (has-fair (IsFair l x.c x.part) (record { from = Front; to = q.to; bytes = q.bytes }) x.letters h.0.1 o.fair, again-fair ks h.1)

  -- where it is held, or waits, no node has more than a stay that is over
  pub home-past : (own : Owning) (row : FrontRow) (d : FrontConn) → row.stage ≡ d → IsBefore d → Sits own x.part.nodes (Some row) → ArePast row.epoch.0 x.part.nodes
  home-past own row (stage.Held b) at before sits = let h : StageSits row.epoch.0 own x.part.nodes (stage.Held b) = subst (StageSits row.epoch.0 own x.part.nodes) at sits.0 in h.1.1
  home-past own row (stage.Waiting b) at before sits = let h : StageSits row.epoch.0 own x.part.nodes (stage.Waiting b) = subst (StageSits row.epoch.0 own x.part.nodes) at sits.0 in h.1.1
  home-past own row _ at before sits = absurd before

  pub past-found : (o : Option FrontRow) → x.part.front.row ≡ o → ArePast (front_epoch o) x.part.nodes → ArePast (front_epoch x.part.front.row) x.part.nodes
  past-found o found past = subst (λ (q : Option FrontRow). ArePast (front_epoch q) x.part.nodes) (sym found) past

  module _ (talk : IsFrontTalk env l.w l.out l.vs) (heads : List Seen) (quiet : IsQuiet k small x s there l pend o heads) where
    abbrev p : FrontPart
    p = x.part.front

    -- where the connection is the front end's, what it does agrees
    abbrev pub GoesSo : FrontDeed → Type 0
    GoesSo d = (RowIsOurs p.row → FrontDeedKeeps k.files x.c l.w l.out l.vs l.was_reset d) → Helps x (front_does x heads d) → IsTrueMove k.files x (front_does x heads d)

    drops : GoesSo Drops
    drops keeps help = drops-goes k small x s there l pend o heads (quiet Drops) help

    ours : (row : FrontRow) (d : FrontConn) → IsInStage p row d → IsOurs d → RowIsOurs p.row
    ours row d at mine = subst RowIsOurs (sym at.0) (subst IsOurs (sym at.1) mine)

    pub at-home : (row : FrontRow) (st : FrontConn) → IsInStage p row st → IsBefore st → IsOurs st → (d : FrontDeed) → MessagesFair k small x s there l pend o d → GoesSo d
    at-home row st at before mine d fair keeps help =
        deed-goes k small x s there l pend o heads d quiet (unoffered k small x s there l pend o (ours row st at mine) d)
        (past-found (Some row) at.0 (home-past (owning (tale_at x)) row st at.1 before (subst (Sits (owning (tale_at x)) x.part.nodes) at.0 help.placed.sits))) fair (keeps (ours row st at mine)) help

    -- nobody has it yet
    begins-here : (sd : Said) → p.row ≡ None → GoesSo (front_begun env p sd)
    begins-here sd none keeps help =
        let mine : RowIsOurs p.row = subst RowIsOurs (sym none) tt in
        let sits : Sits (owning (tale_at x)) x.part.nodes None = subst (Sits (owning (tale_at x)) x.part.nodes) none help.placed.sits in
        deed-goes k small x s there l pend o heads (front_begun env p sd) quiet (unoffered k small x s there l pend o mine (front_begun env p sd))
        (past-found None none sits.1) tt (keeps mine) help

    module _ (bytes : List ℕ) (sd : Said) (is_spelled : bytes ≡ spelled x.c ToCluster sd) (word : IsWord l.w sd) where
      forwards : (n : ℕ) (d : Epoch) → GoesSo (forwarded env n d bytes)
      forwards n d keeps help = says-goes k small x s there l pend o heads (front_saying ((Node n, message env.serve.c d.0 (body.Forward bytes)) ∷ [])) (quiet (forwarded env n d bytes)) refl tt
          (subst (λ (c : ℕ). IsFair l x.c x.part (letter Front (Node n, message c d.0 (body.Forward bytes)))) (sym is.number) (forward-fair l x.c x.part n d.0 bytes sd is_spelled word), tt) help

      words : (row : FrontRow) (last : Final) → IsInStage p row (stage.Closed last) → GoesSo (Says (turn_here (tombstone env.serve (last_words last.reason last sd))))
      words row last at keeps help =
          let t = keeps (ours row (stage.Closed last) at tt) in
          let turn : FrontTurn = turn_here (tombstone env.serve (last_words last.reason last sd)) in
          says-goes k small x s there l pend o heads turn (quiet (Says turn)) t.0 t.1 tt help

      pub by-segment : KeptBySegment env p bytes sd (CameBack env l.w l.out l.vs l.was_reset p) GoesSo
      by-segment = record {
        drops = drops;
        begins = λ none plain. begins-here sd none;
        reads = λ row b at away. absurd (away (ours row (stage.Held b) at tt));
        holds = λ row b w at r. at-home row (stage.Held b) at tt tt (holds p row (front_rest p.rest) (serving_settled env.serve w)) tt;
        hands = λ row b w path choice at r is. at-home row (stage.Held b) at tt tt (Does (placed env p row (front_rest p.rest) w path (first.Go choice))) tt;
        waits = λ row b w path at r is. at-home row (stage.Held b) at tt tt (Does (placed env p row (front_rest p.rest) w path first.Waits)) tt;
        stays = λ row b at. at-home row (stage.Waiting b) at tt tt (hears_at env p row bytes sd (stage.Waiting b)) tt;
        forwards = λ row n d at. forwards n d;
        words = words;
      }

    -- its timers fire
    pub by-timer : KeptByTimer env p GoesSo
    by-timer = record {
      drops = drops;
      holds = λ row b at. at-home row (stage.Held b) at tt tt (fires_at env p row (stage.Held b)) tt;
      stays = λ row b at. at-home row (stage.Waiting b) at tt tt (fires_at env p row (stage.Waiting b)) tt;
      resends = λ row n d at keeps help.
          says-goes k small x s there l pend o heads (front_saying (map sent_of p.kept)) (quiet (Says (front_saying (map sent_of p.kept)))) refl tt (again-fair p.kept help.sound.front) help;
    }

  -- ---- what comes

  -- a segment that came is what the client sent
  pub heard-word : (heads : List Seen) (bytes : List ℕ) (sd : Said) → HasSegment x env bytes (Ok sd) heads → (bytes ≡ spelled x.c ToCluster sd) × IsWord l.w sd
  heard-word heads bytes sd comes =
      let f : IsFairOn l x.c x.part (Client x.c) Front bytes =
      has-fair (IsFair l x.c x.part) (record { from = Client x.c; to = Front; bytes = bytes }) x.letters comes.was o.fair in
      subst (λ (q : Said). (bytes ≡ spelled x.c ToCluster q) × IsWord l.w q)
      (same-said f.0 sd (sym (comes.read ∙ ap (λ (b : List ℕ). decoded b x.c ToCluster) f.1 ∙ again x.c ToCluster f.0 f.2.sendable))) (f.1, f.2) where
        same-said : (a b : Said) → ◌≡◌ {A = Result Said SegFault} (Ok a) (Ok b) → a ≡ b
        same-said a b e = cc

  true-word : (heads : List Seen) (ours : RowIsOurs x.part.front.row) (talk : IsFrontTalk env l.w l.out l.vs) (g : FrontGets) → FrontComes x env heads g
      → IsTrueWord env l.w l.out l.vs l.was_reset talk x.part.front (own-agrees ours) ours g
  true-word heads ours talk (FrontHears bytes given) comes = λ sd e.
      (heard-word heads bytes sd (subst (λ (r : Result Said SegFault). HasSegment x env bytes r heads) e comes)).1
  true-word heads ours talk _ comes = tt

  -- where the connection is the front end's, what it does agrees
  pub rule-agrees : IsFrontTalk env l.w l.out l.vs → (heads : List Seen) (g : FrontGets) → FrontComes x env heads g → RowIsOurs x.part.front.row
      → FrontDeedKeeps k.files x.c l.w l.out l.vs l.was_reset (front_rule env x.part.front g)
  rule-agrees talk heads g comes ours = own-keeps (front_rule env x.part.front g)
      (rule-keeps env l.w l.out l.vs l.was_reset talk x.part.front (own-agrees ours) ours g (admission x env heads g comes)
      (true-word heads ours talk g comes))
