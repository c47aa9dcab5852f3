-- What each rule of the front end says, where its connection agrees.
use Rattle.lard_law_connections.proofs.PlacesTurns.{IsPlaced}
use Rattle.std.proofs.Common.{◌≡◌, ◌≤◌, ◌^◌, ℕ, Bool, List, [], ◌∷◌, map, Option, Some, None, refl, sym, subst, inl}
use Rattle.std.specs.List.{fold}
use Rattle.lard_law_view.specs.Prelude.{AreSent, Client, Conn, EndpointParts, FilesAt, Front, FrontConn, FrontDeed, FrontEnv, FrontGets, FrontPart, FrontRow, FrontRules, FrontTurn, IsConnNumber, IsConnSound, IsFrontEnv, Kept, Move, Node, Place, Said, Seen, Setting, Station, Stream, Talk, Verdict, Was, back_part, back_rest, does_first, fires_at, front_begun, front_does, front_rest, front_rule, given_sent, handed_off, hears_at, holds, placed, returned_row, seen_step, sent_of, serving, serving_settled, tale_at, tale_step, told_on}
use Rattle.lard_law_connections.specs.BytesAgreement.{IsOpen, IsTruthful}
use Rattle.lard_law_connections.specs.BytesKeeping.{FrontDeedKeeps, FrontTurned, IsFrontTalk}
use Rattle.lard_law_connections.proofs.BytesClientMoves.{open-at}
use Rattle.lard_law_connections.proofs.BytesFrontMessages.{where-opened}
use Rattle.lard_law_connections.proofs.BytesFrontMoves.{rule-agrees, talk-of}
use Rattle.lard_law_connections.proofs.BytesFronts.{CameBack, IsOurs, RowIsOurs}
use Rattle.lard_law_connections.proofs.BytesReturns.{given-keeps, refused-keeps}
use Rattle.lard_law_connections.proofs.BytesTold.{Bytes, bytes_of}
use Rattle.lard_law_connections.proofs.OffersParts.{Tells}
use Rattle.lard_law_connections.proofs.OffersSaying.{AllMayGo, AreSaid, MayGo, handed-says, other-goes, replies-go}
use Rattle.lard_law_view.proofs.Frames.{Owed}
use Rattle.lard_law_view.proofs.Rows.{tale_before}
use Rattle.lard_dispatch.specs.declared.dispatch.First.TheVariants as first
use Rattle.lard_rules.specs.Front.{Does, Drops, Says, message, stands_first}
use Rattle.lard_handoff_front.specs.declared.row.FrontConn.TheVariants as stage
use Rattle.lard_message.specs.declared.message.Body.TheVariants as body
use Rattle.lard_law_view.proofs.EachFront.{FrontComes, HasBack, admission, each-front, of-front}
use Rattle.lard_rules.proofs.FrontCases.{IsBack, IsInStage, KeptByFront, KeptByReturn, KeptBySegment, front-keeps, hands_off}

-- what a move says
abbrev pub SaysTruth : FilesAt → Conn → Move → Type 0
SaysTruth files x v = AreSaid files x (bytes_of (told_on x.c (tale_before x v) v.said.notes)) v.place v.said.segments v.said.messages

-- ---- the front end

-- a turn without the message that stands first
behind-first : (files : FilesAt) (c : ℕ) (w out : Stream) (vs : List Verdict) (r : Bool) (part : FrontPart) (said : Place × List ℕ) (turn : FrontTurn)
    → FrontTurned files c w out vs r part (stands_first [] (said ∷ []) turn) → FrontTurned files c w out vs r part turn
behind-first files c w out vs r part said turn h = record {
  out_after = h.out_after;
  vs_after = h.vs_after;
  longer = h.longer;
  says = h.says;
  agrees = h.agrees;
  noted = h.noted;
  sent = h.sent;
  said = h.said.1;
}

-- what is told before the notes of whatever it does
told-behind : (l : Talk) (x : Conn) (heads : List Seen) → Tells l.w l.out l.vs (fold (seen_step (tale_step x.c)) (tale_at x) heads) → (d : FrontDeed)
    → Tells l.w l.out l.vs (tale_before x (front_does x heads d))
told-behind l x heads t Drops = t
told-behind l x heads t (Says turn) = t
told-behind l x heads t (Does did) = t

module _ (k : Setting) (small : k.stream ≤ 2 ^ 30) (x : Conn) (number : IsConnNumber x.c) (s : Station) (there : x.part.station ≡ Some s) (l : Talk) (pend : List Verdict) (o : IsOpen k.files x l pend s) (env : FrontEnv) (is : IsFrontEnv k x.c env) (talk : IsFrontTalk env l.w l.out l.vs) where
  abbrev p : FrontPart
  p = x.part.front

  told-at : Tells l.w l.out l.vs (tale_at x)
  told-at = record { numbers = o.tale.numbers; wrote = o.tale.wrote; served = o.tale.served }

  module _ (heads : List Seen) (told : (d : FrontDeed) → Tells l.w l.out l.vs (tale_before x (front_does x heads d))) where
    abbrev Speaks : FrontDeed → Type 0
    Speaks d = SaysTruth k.files x (front_does x heads d)

    abbrev Keeps : FrontDeed → Type 0
    Keeps d = FrontDeedKeeps k.files x.c l.w l.out l.vs l.was_reset d

    -- it says this alone to nodes
    abbrev SaysOnly : List (Place × List ℕ) → FrontDeed → Type 0
    SaysOnly said Drops = Unit {0}
    SaysOnly said (Says turn) = turn.messages ≡ said
    SaysOnly said (Does did) = did.turn.messages ≡ said

    only-speaks : (said : List (Place × List ℕ)) → ((b : Bytes) → AllMayGo k.files x b Front said) → (d : FrontDeed) → SaysOnly said d → Keeps d → Speaks d
    only-speaks said may Drops m t = (tt, tt)
    only-speaks said may (Says turn) m t = (
      replies-go k.files x _ x.c l.w l.out l.was_reset turn.segments t.1,
      subst (AllMayGo k.files x (bytes_of (told_on x.c (tale_before x (front_does x heads (Says turn))) turn.notes)) Front) (sym m) (may _),
    )
    only-speaks said may (Does did) m t = (
      replies-go k.files x _ x.c l.w t.out_after _ did.turn.segments t.sent,
      subst (AllMayGo k.files x (bytes_of (told_on x.c (tale_before x (front_does x heads (Does did))) did.turn.notes)) Front) (sym m) (may _),
    )

    mute-speaks : (d : FrontDeed) → SaysOnly [] d → Keeps d → Speaks d
    mute-speaks = only-speaks [] (λ b. tt)

    -- what it does agrees where the connection is the front end's
    abbrev pub Tells_so : FrontDeed → Type 0
    Tells_so d = (RowIsOurs p.row → Keeps d) → Speaks d

    ours : (row : FrontRow) (d : FrontConn) → IsInStage p row d → IsOurs d → RowIsOurs p.row
    ours row d at mine = subst RowIsOurs (sym at.0) (subst IsOurs (sym at.1) mine)

    -- ---- a segment

    module _ (bytes : List ℕ) (sd : Said) where
      by-segment : KeptBySegment env p bytes sd (CameBack env l.w l.out l.vs l.was_reset p) Tells_so
      by-segment = record {
        drops = λ keeps. (tt, tt);
        begins = λ none plain keeps. mute-speaks (front_begun env p sd) refl (keeps (subst RowIsOurs (sym none) tt));
        reads = λ row b at away. absurd (away (ours row (stage.Held b) at tt));
        holds = λ row b w at r keeps. mute-speaks (holds p row (front_rest p.rest) (serving_settled env.serve w)) refl (keeps (ours row (stage.Held b) at tt));
        hands = λ row b w path choice at r is keeps.
            let d : FrontDeed = Does (placed env p row (front_rest p.rest) w path (first.Go choice)) in
            handed-says k.files x number l.w l.out l.vs l.was_reset talk.stream (tale_before x (front_does x heads d)) (told d) env row w path choice (keeps (ours row (stage.Held b) at tt));
        waits = λ row b w path at r is keeps. mute-speaks (Does (placed env p row (front_rest p.rest) w path first.Waits)) refl (keeps (ours row (stage.Held b) at tt));
        stays = λ row b at keeps. mute-speaks (hears_at env p row bytes sd (stage.Waiting b)) refl (keeps (ours row (stage.Waiting b) at tt));
        forwards = λ row n d at keeps. (tt, (other-goes k.files x _ n env.serve.c d.0 (body.Forward bytes) (λ none. none), tt));
        words = λ row last at keeps. mute-speaks (hears_at env p row bytes sd (stage.Closed last)) refl (keeps (ours row (stage.Closed last) at tt));
      }

    -- ---- messages: no Offer is an answer to them, and what is sent again was sent before

    again-goes : (b : Bytes) (ks : List Kept) → AreSent x Front ks → AllMayGo k.files x b Front (map sent_of ks)
    again-goes b [] h = tt
    again-goes b (q ∷ ks) h = (one q.to h.0.1, again-goes b ks h.1) where
      one : (to : Place) → Was x Front to q.bytes → MayGo k.files x b Front to q.bytes
      one (Node n) was = inl was
      one Front was = tt
      one (Client d) was = tt

    tag-goes : (b : Bytes) (n c e number : ℕ) (nodes : List ℕ) → MayGo k.files x b Front (Node n) (message c e (body.Tag number nodes))
    tag-goes b n c e number nodes = other-goes k.files x b n c e (body.Tag number nodes) (λ none. none)

    ack-goes : (b : Bytes) (n c e : ℕ) → MayGo k.files x b Front (Node n) (message c e body.EndedAck)
    ack-goes b n c e = other-goes k.files x b n c e body.EndedAck (λ none. none)

    given-goes : (b : Bytes) (n c e : ℕ) → MayGo k.files x b Front (Node n) (message c e body.Given)
    given-goes b n c e = other-goes k.files x b n c e body.Given (λ none. none)

    -- ---- a connection that comes back

    by-return : IsPlaced x → (n epoch : ℕ) (given : Option EndpointParts) → HasBack x n epoch given heads → (row : FrontRow) (parts : EndpointParts)
        → IsBack p n epoch given row parts
        → KeptByReturn env p (given_sent env.serve.c n epoch given) row parts (CameBack env l.w l.out l.vs l.was_reset p) Tells_so
    by-return at_place n epoch (Some g) comes row parts back =
        let q : FrontPart = back_part p row parts in
        let r : FrontRow = returned_row parts row in
        let said : List (Place × List ℕ) = given_sent env.serve.c n epoch (Some g) in
        let may : (b : Bytes) → AllMayGo k.files x b Front said = λ b. (given-goes b n env.serve.c epoch, tt) in
        let kept = given-keeps k small x s there env is l pend o talk number at_place n epoch g heads comes row parts back in
        record {
          reads = kept.reads;
          holds = λ v came keeps. only-speaks said may (does_first [] said (holds q r (back_rest parts) (serving_settled env.serve v))) refl (kept.holds v came);
          hands = λ v path choice came is keeps.
              let d : FrontDeed = does_first [] said (Does (placed env q r (back_rest parts) v path (first.Go choice))) in
              let handed = handed-says k.files x number l.w l.out l.vs l.was_reset talk.stream (tale_before x (front_does x heads d)) (told d) env r v path choice
              (behind-first k.files x.c l.w l.out l.vs l.was_reset (handed_off env r v path choice).0 (Node n, message env.serve.c epoch body.Given) (handed_off env r v path choice).1
              (kept.hands v path choice came is)) in
              (handed.0, (given-goes _ n env.serve.c epoch, handed.1));
          waits = λ v path came is keeps.
              only-speaks said may (does_first [] said (Does (placed env q r (back_rest parts) v path first.Waits))) refl (kept.waits v path came is);
        }
    by-return at_place n epoch None comes row parts back =
        let q : FrontPart = back_part p row parts in
        let r : FrontRow = returned_row parts row in
        let kept = refused-keeps k small x s there env is l pend o talk number at_place n epoch heads comes row parts back in
        record {
          reads = kept.reads;
          holds = λ v came keeps. mute-speaks (does_first [] [] (holds q r (back_rest parts) (serving_settled env.serve v))) refl (kept.holds v came);
          hands = λ v path choice came is keeps.
              let d : FrontDeed = does_first [] [] (Does (placed env q r (back_rest parts) v path (first.Go choice))) in
              handed-says k.files x number l.w l.out l.vs l.was_reset talk.stream (tale_before x (front_does x heads d)) (told d) env r v path choice
              (kept.hands v path choice came is);
          waits = λ v path came is keeps.
              mute-speaks (does_first [] [] (Does (placed env q r (back_rest parts) v path first.Waits))) refl (kept.waits v path came is);
        }

    -- ---- whatever comes

    pub by-rules : IsPlaced x → AreSent x Front p.kept → KeptByFront env p (FrontComes x env heads) (CameBack env l.w l.out l.vs l.was_reset p) Tells_so
    by-rules at_place sent = record {
      drops = λ keeps. (tt, tt);
      hears = λ bytes sd m. by-segment bytes sd;
      fires = λ m. record {
        drops = λ keeps. (tt, tt);
        holds = λ row b at keeps. mute-speaks (fires_at env p row (stage.Held b)) refl (keeps (ours row (stage.Held b) at tt));
        stays = λ row b at keeps. mute-speaks (fires_at env p row (stage.Waiting b)) refl (keeps (ours row (stage.Waiting b) at tt));
        resends = λ row n d at keeps. (tt, again-goes _ p.kept sent);
      };
      takes = λ n epoch m row node e at same keeps. (tt, tt);
      tags_again = λ n epoch ask m rest found there same some keeps. (tt, (tag-goes _ n env.serve.c epoch rest.asks rest.tag, tt));
      assigns_next = λ n epoch ask m rest found there next keeps. (tt, (tag-goes _ n env.serve.c epoch ask.number _, tt));
      ends_again = λ n epoch last m row found away again keeps. (tt, (ack-goes _ n env.serve.c epoch, tt));
      ends = λ n epoch last m row found away keeps. (tt, (ack-goes _ n env.serve.c epoch, tt));
      gives_again = λ n epoch parts m row found past keeps. (tt, (given-goes _ n env.serve.c epoch, tt));
      returns = by-return at_place;
      admits = λ choice made met row b path at target keeps.
          handed-says k.files x number l.w l.out l.vs l.was_reset talk.stream
          (tale_before x (front_does x heads (hands_off env row (serving b (front_rest p.rest).count []) path choice [])))
          (told (hands_off env row (serving b (front_rest p.rest).count []) path choice [])) env row
          (serving b (front_rest p.rest).count []) path choice (keeps (ours row (stage.Waiting b) at tt));
    }

-- ---- the rules of the front end

module _ (k : Setting) (small : k.stream ≤ 2 ^ 30) where
  abbrev pub Wants : Conn → Move → Type 0
  Wants x v = IsPlaced x → IsTruthful k.files x → SaysTruth k.files x v

  opened-says : (x : Conn) (s : Station) (env : FrontEnv) (heads : List Seen) (g : FrontGets) → x.part.station ≡ Some s → env.iss ≡ s.iss
      → IsFrontEnv k x.c env → FrontComes x env heads g → IsTruthful k.files x → IsConnNumber x.c → IsConnSound x → IsPlaced x
      → SaysTruth k.files x (front_does x heads (front_rule env x.part.front g))
  opened-says x s env heads g there iss is comes h number sound at_place =
      let l : Talk = h.talk in
      let o = open-at k.files x s there h in
      let talk = talk-of k small x env is s l h.pend o iss in
      let t = told-at k small x number s there l h.pend o env is talk in
      let told = told-behind l x heads (of-front x (λ (ss : List Seen). Tells l.w l.out l.vs (fold (seen_step (tale_step x.c)) (tale_at x) ss))
      (λ from bytes. record { numbers = t.numbers; wrote = t.wrote; served = t.served }) t
      (record { numbers = t.numbers; wrote = t.wrote; served = t.served }) env heads g comes) in
      front-keeps env x.part.front (FrontComes x env heads) (CameBack env l.w l.out l.vs l.was_reset x.part.front)
      (Tells_so k small x number s there l h.pend o env is talk heads told)
      (by-rules k small x number s there l h.pend o env is talk heads told at_place sound.front) g (admission x env heads g comes) comes
      (rule-agrees k small x s there env is l h.pend o talk heads g comes)

  pub fronts : FrontRules k (Owed Wants)
  fronts = each-front k (Owed Wants) (λ x env heads g is comes number sound placed h.
      where-opened k (λ y v. IsConnNumber y.c → IsConnSound y → IsPlaced y → SaysTruth k.files y v) opened-says x env heads g is comes h number sound placed)
