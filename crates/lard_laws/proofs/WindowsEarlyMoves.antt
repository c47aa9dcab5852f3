-- Each rule keeps that of an open client which is not established nothing is known but its SYN.
use Rattle.std.proofs.Common.{◌≡◌, ◌≤◌, ◌+◌, ◌^◌, ℕ, Bool, true, false, List, [], ◌∷◌, ◌++◌, map, Option, Some, None, Ok, ⊎_elim, refl, sym, ap, ◌∙◌, subst, arith}
use Rattle.std.proofs.lemmas.Bool.{and_parts, both_ways}
use Rattle.lard_law_view.specs.Prelude.{BackRow, Client, ClientBlock, ClientRules, Conn, ControlBlock, Front, FrontConn, FrontDeed, FrontEnv, FrontGets, FrontPart, FrontRow, FrontRules, IsConnSound, IsFrontEnv, IsUntouchedLaw, IsWord, Letter, MayRestOn, Move, Node, NodeEnv, NodeGets, NodePart, NodeRules, Place, Said, Seen, Service, Setting, Station, Stay, Stream, Talk, ToClient, Turn, TurnSaid as SaidIn, Untouched, UntouchedRules, Was, again_sent, client_begins, client_does, client_opens, client_rule, front_does, front_rest, front_rule, grown, holds, is_client_open, letter, letters_of, node_does, nothing_said, packet_seen, seg_len, seq_offset, spelled, stands, tale_at}
use Rattle.lard_law_connections.specs.BytesAgreement.{ConnAgrees, IsInner, IsNodePlace, IsOpen, IsTruthful, IsConnUnopened}
use Rattle.lard_law_connections.proofs.BytesClientMoves.{open-at}
use Rattle.lard_law_connections.specs.Places.{IsPast, Sits, owning}
use Rattle.lard_law_connections.proofs.PlacesFrontRules.{has-each}
use Rattle.lard_law_connections.proofs.PlacesTurns.{IsPlaced}
use Rattle.lard_law_connections.proofs.SilenceTurns.{AreTold}
use Rattle.lard_law_view.proofs.EachClient.{client_seen, each-client}
use Rattle.lard_law_view.proofs.EachFront.{FrontComes, HasSegment, admission, each-front}
use Rattle.lard_law_view.proofs.EachNode.{NodeComes, aside_said, aside_seen, each-node, node_goes}
use Rattle.lard_law_view.proofs.Guarded.{untouched-weaker}
use Rattle.lard_laws.specs.WindowsEarly.{RowIsFresh, StageIsFresh}
use Rattle.lard_laws.specs.WindowsWords.{FitsClient, FitsOn, HasFittingWords, HasStarted, Starts, StartsOn, WordFits}
use Rattle.lard_laws.proofs.FrontComing.{heard-word}
use Rattle.lard_laws.proofs.NodeDeeds.{again-letters, aside-letters}
use Rattle.lard_laws.proofs.WindowsEarly.{AcksFirst, DeedIsEarly, ReadsNothing, fired-early, holds-early, reads-nothing, segment-fresh}
use Rattle.lard_laws.proofs.WindowsWordRuns.{rule-turned}
use Rattle.lard_laws.proofs.WindowsWords.{IsLater}
use Rattle.lard_laws.proofs.WindowsWordTurns.{Turned}
use Rattle.lard_rules.specs.Front.{Drops, Says, Does}
use Rattle.lard_handoff_front.specs.declared.row.FrontConn.TheVariants as stage
use Rattle.lard_history.proofs.Each.{Each, Each-append, Each-weaker}
use Rattle.lard_rules.proofs.Endings.{settled-keeps}
use Rattle.lard_rules.proofs.FrontCases.{IsInStage, KeptByFront, KeptBySegment, begun_row, begun_service, front-keeps, heard_reading, of-stage}
use Rattle.lard_rules.proofs.NodeCases.{IsHereWith, IsOfItsEpoch, KeptByNode, node-keeps}
use Rattle.lard_rules.specs.Node as node
use Rattle.lard_law_view.proofs.Deeds.{front-station, node-station}

-- ---- letters, by how they were spelled

abbrev pub Spelled : ℕ → ℕ → List ℕ → Type 0
Spelled c isn bytes = (s : Said) × (bytes ≡ spelled c ToClient s) × AcksFirst isn s

abbrev pub SpelledOn : ℕ → ℕ → Place → Place → List ℕ → Type 0
SpelledOn c isn Front (Client d) bytes = Spelled c isn bytes
SpelledOn c isn (Node n) (Client d) bytes = ⊥
SpelledOn c isn Front (Node n) bytes = ⊥
SpelledOn c isn (Node n) Front bytes = ⊥
SpelledOn c isn _ _ bytes = Unit {0}

abbrev pub LetterIs : ℕ → ℕ → Letter → Type 0
LetterIs c isn l = SpelledOn c isn l.from l.to l.bytes

pub record IsEarlySo (x : Conn) (s : Station) : Type 0 where
  pub front : RowIsFresh s.client.send.iss x.part.front.row
  pub nodes : (n : ℕ) → (x.part.nodes n).row ≡ None
  pub letters : Each (LetterIs x.c s.client.send.iss) x.letters

abbrev pub EarlyAt : Conn → Option Station → Type 0
EarlyAt x None = Unit {0}
EarlyAt x (Some s) = is_client_open s.client ≡ true → s.client.send.una ≡ 0 → IsEarlySo x s

abbrev pub IsEarlyIn : Conn → Type 0
IsEarlyIn x = EarlyAt x x.part.station

told-are : (c isn : ℕ) (ss : List (Place × List ℕ)) → AreTold c (AcksFirst isn) ss → Each (LetterIs c isn) (map (letter Front) ss)
told-are c isn [] told = tt
told-are c isn (p ∷ ps) told = (subst (λ (to : Place). SpelledOn c isn Front to p.1) (sym told.0.0) told.0.1, told-are c isn ps told.1)

from-client : (c isn d : ℕ) (ss : List (Place × List ℕ)) → Each (LetterIs c isn) (map (letter (Client d)) ss)
from-client c isn d [] = tt
from-client c isn d (p ∷ ps) = (go p.0, from-client c isn d ps) where
  go : (to : Place) → SpelledOn c isn (Client d) to p.1
  go Front = tt
  go (Node n) = tt
  go (Client e) = tt

inner-are : (c isn : ℕ) (ls : List Letter) → Each IsInner ls → Each (LetterIs c isn) ls
inner-are c isn ls h = Each-weaker IsInner (LetterIs c isn) (λ l i. go l.from l.to l.bytes i.0 i.1) ls h where
  go : (from to : Place) (bytes : List ℕ) → IsNodePlace from → IsNodePlace to → SpelledOn c isn from to bytes
  go (Node m) (Node n) bytes i j = tt
  go (Node m) _ bytes i j = absurd j
  go _ to bytes i j = absurd i

module _ (k : Setting) (small : k.stream ≤ 2 ^ 30) where
  -- what is known beside it
  pub record Helps (x : Conn) : Type 0 where
    pub sound : IsConnSound x
    pub placed : IsPlaced x
    pub truth : IsTruthful k.files x
    pub words : HasFittingWords x
    pub started : HasStarted x

  abbrev Keeps : Conn → Move → Type 0
  Keeps x v = Helps x → IsEarlyIn x → IsEarlyIn (grown x v)

  -- a place's move, where the client is as it was
  by-early : (x : Conn) (v : Move) → v.part.station ≡ x.part.station → ((s : Station) → x.part.station ≡ Some s → is_client_open s.client ≡ true → s.client.send.una ≡ 0 → IsEarlySo x s → IsEarlySo (grown x v) s) → IsEarlyIn x → IsEarlyIn (grown x v)
  by-early x v same early h = go x.part.station refl h where
    go : (o : Option Station) → x.part.station ≡ o → EarlyAt x o → EarlyAt (grown x v) v.part.station
    go None e r = subst (EarlyAt (grown x v)) (sym (same ∙ e)) tt
    go (Some s) e r = subst (EarlyAt (grown x v)) (sym (same ∙ e)) (λ open_ una. early s e open_ una (r open_ una))

  -- ---- the front end

  front-moves : (x : Conn) (s : Station) (heads : List Seen) (d : FrontDeed) → IsEarlySo x s → DeedIsEarly s.client.send.iss x.c d → IsEarlySo (grown x (front_does x heads d)) s
  front-moves x s heads Drops h f = record { front = h.front; nodes = h.nodes; letters = Each-append (LetterIs x.c s.client.send.iss) x.letters [] h.letters tt }
  front-moves x s heads (Says turn) h f = absurd f
  front-moves x s heads (Does did) h f =
      let isn : ℕ = s.client.send.iss in
      record {
        front = f.0;
        nodes = h.nodes;
        letters = Each-append (LetterIs x.c isn) x.letters (map (letter Front) did.turn.segments ++ map (letter Front) did.turn.messages) h.letters
            (Each-append (LetterIs x.c isn) (map (letter Front) did.turn.segments) (map (letter Front) did.turn.messages) (told-are x.c isn did.turn.segments f.1)
            (subst (λ (ms : List (Place × List ℕ)). Each (LetterIs x.c isn) (map (letter Front) ms)) (sym f.2) tt));
      }

  -- what was said between the front end and a node was not
  none-said : (x : Conn) (s : Station) (from to : Place) (bytes : List ℕ) → IsEarlySo x s → Was x from to bytes → SpelledOn x.c s.client.send.iss from to bytes
  none-said x s from to bytes h was = has-each (LetterIs x.c s.client.send.iss) (record { from = from; to = to; bytes = bytes }) x.letters was h.letters

  module _ (x : Conn) (help : Helps x) (s : Station) (there : x.part.station ≡ Some s) (open_ : is_client_open s.client ≡ true) (una : s.client.send.una ≡ 0) (h : IsEarlySo x s) (env : FrontEnv) (heads : List Seen) where
    abbrev talk : Talk
    talk = help.truth.talk

    abbrev whole : IsOpen k.files x talk help.truth.pend s
    whole = open-at k.files x s there help.truth

    abbrev f : FrontPart
    f = x.part.front

    abbrev isn : ℕ
    isn = s.client.send.iss

    abbrev Goal : FrontDeed → Type 0
    Goal d = DeedIsEarly isn env.serve.c d

    abbrev Came : Service → Option (List ℕ) → Type 0
    Came w target = ReadsNothing isn env f (record { service = w; target = target })

    fresh-at : (row : FrontRow) (st : FrontConn) → IsInStage f row st → StageIsFresh isn st
    fresh-at row st at = of-stage (RowIsFresh isn) f row st at h.front

    starts : Starts s.client
    starts = subst StartsOn there help.started

    none-placed : (path : List ℕ) → Some path ≡ None → ⊥
    none-placed path e = cc

    by-segment : (bytes : List ℕ) (sd : Said) → HasSegment x env bytes (Ok sd) heads → KeptBySegment env f bytes sd Came Goal
    by-segment bytes sd c =
        let word : IsWord talk.w sd = heard-word x s env bytes heads k.files talk help.truth.pend whole sd c in
        let fits : FitsClient x.c s.client x.letters sd =
        (has-each (WordFits x.c s.client x.letters) (record { from = Client x.c; to = Front; bytes = bytes }) x.letters c.was (subst (FitsOn x) there help.words)) sd (sym c.read) in
        let plain : sd.flags.rst ≡ false = go sd.flags.rst refl fits.closed in
        let within : seq_offset sd.seq isn + seg_len sd ≤ 1 = let e = fits.sent plain in let few = starts.first una in omega (arith, e, few) in
        record {
          drops = tt;
          begins = λ none syn.
              let greets : sd.seq ≡ isn = word.true_of.greets (and_parts sd.flags.syn _ syn).0 ∙ ap (λ (u : Stream). u.first) whole.client.w_is in
              holds-early isn env f begun_row (front_rest None) (begun_service env sd) [] (record { irs_is = greets; got = refl; fin = refl; unread = refl; reset = refl }) tt;
          reads = λ row b at. reads-nothing isn env f (heard_reading f b sd)
              (segment-fresh isn whole.client.speaks.number sd word.sendable.seq_fits within plain b (fresh-at row (stage.Held b) at), refl, refl);
          holds = λ row b w at r. settled-keeps (λ given. Goal (holds f row (front_rest f.rest) given)) env.serve w (λ e. holds-early isn env f row (front_rest f.rest) w [] r.0 tt)
              (λ total e. absurd (let no : Some total ≡ None = sym e ∙ r.1 in cc));
          hands = λ row b w path choice at r is. absurd (none-placed path r.2);
          waits = λ row b w path at r is. absurd (none-placed path r.2);
          stays = λ row b at. absurd (fresh-at row (stage.Waiting b) at);
          forwards = λ row n e at. absurd (⊎_elim (λ (a : IsInStage f row (stage.Offering n e)). fresh-at row (stage.Offering n e) a) (λ (a : IsInStage f row (stage.Moved n e)). fresh-at row (stage.Moved n e) a) at);
          words = λ row last at. absurd (fresh-at row (stage.Closed last) at);
        }
      where
        go : (b : Bool) → sd.flags.rst ≡ b → (sd.flags.rst ≡ true → is_client_open s.client ≡ false) → sd.flags.rst ≡ false
        go false e closed = e
        go true e closed = absurd (both_ways (is_client_open s.client) (closed e) open_)

    by-rules : KeptByFront env f (FrontComes x env heads) Came Goal
    by-rules = record {
      drops = tt;
      hears = by-segment;
      fires = λ c. record {
        drops = tt;
        holds = λ row b at. fired-early isn env f row b (fresh-at row (stage.Held b) at);
        stays = λ row b at. absurd (fresh-at row (stage.Waiting b) at);
        resends = λ row n e at. absurd (fresh-at row (stage.Offering n e) at);
      };
      takes = λ n epoch c row i e at same. absurd (fresh-at row (stage.Offering i e) at);
      tags_again = λ n epoch ask c rest found there same some. absurd (none-said x s (Node n) Front c.told.bytes h c.told.was);
      assigns_next = λ n epoch ask c rest found there next. absurd (none-said x s (Node n) Front c.told.bytes h c.told.was);
      ends_again = λ n epoch last c row found away again. absurd (none-said x s (Node n) Front c.told.bytes h c.told.was);
      ends = λ n epoch last c row found away. absurd (none-said x s (Node n) Front c.told.bytes h c.told.was);
      gives_again = λ n epoch parts c row found past. absurd (none-said x s (Node n) Front c.bytes h c.was);
      returns = λ n epoch given c row parts at. absurd (none-said x s (Node n) Front c.bytes h c.was);
      admits = λ choice made met row b path at target. absurd (fresh-at row (stage.Waiting b) at);
    }

    front-early : IsFrontEnv k x.c env → (g : FrontGets) → FrontComes x env heads g → DeedIsEarly isn x.c (front_rule env f g)
    front-early is g comes = subst (λ (c : ℕ). DeedIsEarly isn c (front_rule env f g)) is.number (front-keeps env f (FrontComes x env heads) Came Goal by-rules g (admission x env heads g comes) comes)

  front-rules : FrontRules k Keeps
  front-rules = each-front k Keeps (λ x env heads g is comes help h.
      let d : FrontDeed = front_rule env x.part.front g in
      by-early x (front_does x heads d) (front-station x heads d) (λ s there open_ una e. front-moves x s heads d e (front-early x help s there open_ una e env heads is g comes)) h)

  -- ---- the nodes

  -- nothing changes but what is said
  said-still : (x : Conn) (s : Station) (place : Place) (heads : List Seen) (said : SaidIn) → IsEarlySo x s → Each (LetterIs x.c s.client.send.iss) (letters_of (stands x place heads said)) → IsEarlySo (grown x (stands x place heads said)) s
  said-still x s place heads said h more = record { front = h.front; nodes = h.nodes; letters = Each-append (LetterIs x.c s.client.send.iss) x.letters (letters_of (stands x place heads said)) h.letters more }

  stands-rule : (x : Conn) (place : Place) (heads : List Seen) (said : SaidIn) → ((c isn : ℕ) → Each (LetterIs c isn) (letters_of (stands x place heads said))) → Keeps x (stands x place heads said)
  stands-rule x place heads said more help h =
      by-early x (stands x place heads said) refl (λ s there open_ una e. said-still x s place heads said e (more x.c s.client.send.iss)) h

  -- a node that has none does nothing with it, and it hears nothing of the front end
  module _ (x : Conn) (n epoch : ℕ) (env : NodeEnv) (heads : List Seen) (sound : IsConnSound x) (s : Station) (h : IsEarlySo x s) where
    abbrev p : NodePart
    p = x.part.nodes n

    abbrev Early : node.NodeDeed → Type 0
    Early d = IsEarlySo (grown x (node_does x n heads d)) s

    none-here : (b : ControlBlock) (t : Stay) → IsHereWith env.epoch p b t → ⊥
    none-here b t at = let no : None ≡ Some at.row = sym (h.nodes n) ∙ at.found in cc

    never : (bytes : List ℕ) → Was x Front (Node n) bytes → ⊥
    never bytes was = none-said x s Front (Node n) bytes h was

    rules_early : KeptByNode env p (NodeComes x n epoch heads) Early
    rules_early = record {
      drops = said-still x s (Node n) heads nothing_said h tt;
      hears = λ said b t m at. absurd (none-here b t at);
      tags = λ number nodes b t m at asked same count. absurd (none-here b t at);
      comes = λ from r b t m at wanted. absurd (none-here b t at);
      reads = λ r path b t m at. absurd (none-here b t at);
      begins = λ parts m new may. absurd (never m.bytes m.was);
      takes_again = λ parts m again. absurd (never m.bytes m.was);
      refuses = λ parts m is. absurd (never m.bytes m.was);
      fires = λ b t m at. absurd (none-here b t at);
      resends = λ m none. said-still x s (Node n) heads (record nothing_said { messages = again_sent p }) h
          (again-letters (LetterIs x.c s.client.send.iss) x sound h.letters n);
      ends = λ back m told was. absurd (never m.bytes m.was);
      leaves = λ b t m at back. absurd (none-here b t at);
    }

    rule-early : (g : NodeGets) → IsOfItsEpoch env p g → NodeComes x n epoch heads g → IsEarlySo (grown x (node_goes x n env heads g)) s
    rule-early g at comes = let e = node-keeps env p (NodeComes x n epoch heads) Early rules_early g at comes in
        record { front = e.front; nodes = e.nodes; letters = e.letters }

  node-rules : NodeRules k Keeps
  node-rules = each-node k Keeps (record {
    does = λ x n epoch env heads g is at comes help h.
        by-early x (node_goes x n env heads g) (node-station x n heads (node.node_rule env (x.part.nodes n) g))
        (λ s there open_ una e. rule-early x n epoch env heads help.sound s e g at.0 comes) h;
    aside = λ x n a may. stands-rule x (Node n) (aside_seen n a) (aside_said k n x.c a) (λ c isn. aside-letters (LetterIs c isn) (λ n to bytes. tt) k x n a);
  })

  -- ---- clients

  client-rule : (x : Conn) (s : Station) (heads : List Seen) (given : ClientBlock × Turn) → x.part.station ≡ Some s → (Helps x → Turned x.c s.client x.letters given) → Keeps x (client_does x s heads given)
  client-rule x s heads given there turned help h open_ una =
      let later : IsLater s.client given.0 = (turned help).later in
      let was_open : is_client_open s.client ≡ true = go (is_client_open s.client) refl later.closed in
      let was_una : s.client.send.una ≡ 0 = (let up = later.since.acked in omega (arith, up, una)) in
      let e : IsEarlySo x s = (subst (EarlyAt x) there h) was_open was_una in
      let same : s.client.send.iss ≡ given.0.send.iss = sym later.since.iss in
      let isn : ℕ = given.0.send.iss in
      record {
        front = subst (λ (i : ℕ). RowIsFresh i x.part.front.row) same e.front;
        nodes = e.nodes;
        letters = Each-append (LetterIs x.c isn) x.letters (letters_of (client_does x s heads given)) (subst (λ (i : ℕ). Each (LetterIs x.c i) x.letters) same e.letters)
            (Each-append (LetterIs x.c isn) (map (letter (Client x.c)) given.1.segments) [] (from-client x.c isn x.c given.1.segments) tt);
      }
    where
      go : (b : Bool) → is_client_open s.client ≡ b → (is_client_open s.client ≡ false → is_client_open given.0 ≡ false) → is_client_open s.client ≡ true
      go true e f = e
      go false e f = absurd (both_ways (is_client_open given.0) (f e) open_)

  client-opens-so : (x : Conn) (isn iss wnd mss : ℕ) → x.part.station ≡ None → Keeps x (client_begins x isn iss wnd mss)
  client-opens-so x isn iss wnd mss none help h open_ una =
      let u : IsConnUnopened x = subst (ConnAgrees k.files x help.truth.talk help.truth.pend) none help.truth.agrees in
      let i : ℕ = (client_opens x.c isn wnd mss).0.send.iss in
      let ss : List (Place × List ℕ) = (client_opens x.c isn wnd mss).1.segments in
      record {
        front = subst (RowIsFresh i) (sym u.front) tt;
        nodes = λ n. past-none (x.part.nodes n).row ((subst (Sits (owning (tale_at x)) x.part.nodes) u.front help.placed.sits).1 n);
        letters = Each-append (LetterIs x.c i) x.letters (letters_of (client_begins x isn iss wnd mss)) (inner-are x.c i x.letters u.inner)
            (Each-append (LetterIs x.c i) (map (letter (Client x.c)) ss) [] (from-client x.c i x.c ss) tt);
      }
    where
      past-none : (q : Option BackRow) → IsPast 0 q → q ≡ None
      past-none None past = refl
      past-none (Some row) past = absurd (let less = past.0 in omega (arith, less))

  client-rules : ClientRules k Keeps
  client-rules = each-client k Keeps (record {
    opens = λ x isn iss wnd mss rule none. client-opens-so x isn iss wnd mss none;
    does = λ x s g there comes. client-rule x s (client_seen x.c g) (client_rule x.c s.client g) there (λ h. rule-turned k small x s there h.truth h.sound g comes);
  })

  -- ---- the law

  keeps : UntouchedRules k Keeps
  keeps = record { client = client-rules; front = front-rules; node = node-rules; ignores = λ x from to bytes was. stands-rule x to (packet_seen from to bytes) nothing_said (λ c isn. tt) }

  abbrev pub Given : Conn → Type 0
  Given x = IsPlaced x × (Untouched (IsTruthful k.files) x × (Untouched HasFittingWords x × Untouched HasStarted x))

  abbrev Wanted : Conn → Move → Type 0
  Wanted x v = MayRestOn Given x → (tale_at x).touched ≡ false → IsEarlyIn x → IsEarlyIn (grown x v)

  wanted : (x : Conn) (v : Move) → Keeps x v → Wanted x v
  wanted x v owed may untouched h = owed (record { sound = may.sound; placed = may.given.0; truth = may.given.1.0 untouched; words = may.given.1.1.0 untouched; started = may.given.1.1.1 untouched }) h

  pub early-law : IsUntouchedLaw k Given IsEarlyIn
  early-law = record { begins = λ c. tt; moves = untouched-weaker k Keeps Wanted wanted keeps }
