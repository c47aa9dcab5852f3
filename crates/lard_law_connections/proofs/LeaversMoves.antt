-- What nodes say as they leave, and who refuses a connection or gives it back, as a law of one connection: each rule keeps both.
use Rattle.std.proofs.Common.{◌≡◌, ◌⊎◌, ℕ, Bool, true, false, List, [], ◌∷◌, ◌++◌, map, Option, Some, None, is_some, inl, inr, ⊎_elim, refl, sym, ◌∙◌, subst}
use Rattle.lard_history.proofs.Each.{Each, Each-append, Each-weaker}
use Rattle.lard_law_connections.proofs.LeaversTold.{AreTold, GoesSo, HasSentBack, MayTell, StaysDecided, rule-goes, still-decided, still-told}
use Rattle.lard_law_connections.proofs.PlacesFrontRules.{has-each}
use Rattle.lard_law_connections.specs.Places.{Head, message_head}
use Rattle.lard_law_view.proofs.EachClient.{each-client}
use Rattle.lard_law_view.proofs.EachFront.{each-front}
use Rattle.lard_law_view.proofs.EachNode.{Aside, Answers, Brings, Queues, aside_said, aside_seen, each-node, node_goes}
use Rattle.lard_law_view.proofs.EndpointSends.{AllTo}
use Rattle.lard_law_view.proofs.Parts.{put-each, put-same}
use Rattle.lard_law_view.proofs.Works.{all-append}
use Rattle.lard_law_view.specs.Prelude.{AreSent, Client, Conn, Front, FrontDeed, FrontPart, IsConnSound, IsMachine, Kept, Letter, MayRestOn, Move, Node, NodeDeed, NodeEnv, NodeGets, NodePart, Part, Place, Rules, Seen, Setting, Station, TurnSaid, Was, again_sent, by_front, front_does, front_rule, grown, letter, letters_of, node_does, node_rule, nothing_said, packet_seen, sent_of, stands, with_node}
use Rattle.lard_rules.proofs.NodeCases.{IsOfItsEpoch}
use Rattle.lard_rules.specs.Front as front
use Rattle.lard_rules.specs.Node.{Drops, Says, Does}

-- ---- one connection

-- what a node said to the front end is so
abbrev pub MayTellAs : Part → Place → Place → Option Head → Type 0
MayTellAs p (Node n) to h = MayTell (p.nodes n) to h
MayTellAs p _ to h = Unit {0}

abbrev pub LetterTells : Part → Letter → Type 0
LetterTells p l = MayTellAs p l.from l.to (message_head l.bytes)

abbrev pub IsToldSo : Conn → Type 0
IsToldSo x = Each (LetterTells x.part) x.letters

-- who refused it or gave it back leaves
abbrev pub SendersLeave : (ℕ → Bool) → Conn → Type 0
SendersLeave l x = (n : ℕ) → HasSentBack (x.part.nodes n) → l n ≡ true

-- so who stays refused none, and gave none back
module _ (l : ℕ → Bool) (x : Conn) (h : SendersLeave l x) (n : ℕ) (stays : l n ≡ false) where
  unsent : {T : Type 0} (o : Option T) → (is_some o ≡ true → HasSentBack (x.part.nodes n)) → o ≡ None
  unsent None sends = refl
  unsent (Some t) sends = let no : false ≡ true = sym stays ∙ h n (sends refl) in absurd cc

  pub stays-unrefused : (x.part.nodes n).beside.refused ≡ None
  stays-unrefused = unsent (x.part.nodes n).beside.refused (λ sent. inl sent)

  pub stays-ungiven : (x.part.nodes n).beside.returned ≡ None
  stays-ungiven = unsent (x.part.nodes n).beside.returned (λ sent. inr sent)

-- ---- moves

-- What a move owes: what was decided stays so, its packets are told so, and a node that decides more leaves.
pub record Owes (l : ℕ → Bool) (x : Conn) (v : Move) : Type 0 where
  pub stays : (n : ℕ) → StaysDecided (x.part.nodes n) (v.part.nodes n)
  pub told : Each (LetterTells v.part) (letters_of v)
  pub leaves : (n : ℕ) → HasSentBack (v.part.nodes n) → HasSentBack (x.part.nodes n) ⊎ (l n ≡ true)

letter-stays : (p q : Part) → ((n : ℕ) → StaysDecided (p.nodes n) (q.nodes n)) → (l : Letter) → LetterTells p l → LetterTells q l
letter-stays p q stays l told = by l.from told where
  by : (from : Place) → MayTellAs p from l.to (message_head l.bytes) → MayTellAs q from l.to (message_head l.bytes)
  by (Node n) h = still-told (p.nodes n) (q.nodes n) (stays n) l.to (message_head l.bytes) h
  by _ h = tt

module _ (l : ℕ → Bool) (x : Conn) where
  pub told-more : (v : Move) → Owes l x v → IsToldSo x → IsToldSo (grown x v)
  told-more v o h = Each-append (LetterTells v.part) x.letters (letters_of v)
      (Each-weaker (LetterTells x.part) (LetterTells v.part) (letter-stays x.part v.part o.stays) x.letters h) o.told

  pub leave-more : (v : Move) → Owes l x v → SendersLeave l x → SendersLeave l (grown x v)
  leave-more v o h n sent = ⊎_elim (λ (was : HasSentBack (x.part.nodes n)). h n was) (λ (leaves : l n ≡ true). leaves) (o.leaves n sent)

  -- nothing is done
  nothing-owes : (place : Place) (heads : List Seen) → Owes l x (stands x place heads nothing_said)
  nothing-owes place heads = record { stays = λ n. still-decided (x.part.nodes n); told = tt; leaves = λ n h. inl h }

  -- ---- of a client, and of the front end

  abbrev IsNoNode : Place → Type 0
  IsNoNode (Node n) = ⊥
  IsNoNode _ = Unit {0}

  other-tells : (p : Part) (place : Place) (ms : List (Place × List ℕ)) → IsNoNode place → Each (LetterTells p) (map (letter place) ms)
  other-tells p place [] away = tt
  other-tells p place (m ∷ ms) away = (one place away, other-tells p place ms away) where
    one : (q : Place) → IsNoNode q → MayTellAs p q m.0 (message_head m.1)
    one (Node n) none = absurd none
    one _ none = tt

  other-owes : (place : Place) (heads : List Seen) (s : TurnSaid) (station : Option Station) (f : FrontPart) → IsNoNode place
      → Owes l x (record { place = place; heads = heads; said = s; part = record x.part { station = station; front = f } })
  other-owes place heads s station f away =
      let p : Part = record x.part { station = station; front = f } in
      record {
        stays = λ n. still-decided (x.part.nodes n);
        told = Each-append (LetterTells p) (map (letter place) s.segments) (map (letter place) s.messages)
            (other-tells p place s.segments away) (other-tells p place s.messages away);
        leaves = λ n h. inl h;
      }

  front-owes : (heads : List Seen) (d : FrontDeed) → Owes l x (front_does x heads d)
  front-owes heads front.Drops = other-owes Front heads nothing_said x.part.station x.part.front tt
  front-owes heads (front.Says turn) = other-owes Front heads (by_front turn) x.part.station x.part.front tt
  front-owes heads (front.Does did) = other-owes Front heads (by_front did.turn) x.part.station did.part tt

  -- ---- of a node

  messages-tell : (p : Part) (n : ℕ) (ms : List (Place × List ℕ)) → AreTold (p.nodes n) ms → Each (LetterTells p) (map (letter (Node n)) ms)
  messages-tell p n [] h = tt
  messages-tell p n (m ∷ ms) h = (h.0, messages-tell p n ms h.1)

  segments-tell : (p : Part) (n c : ℕ) (ss : List (Place × List ℕ)) → AllTo (Client c) ss → Each (LetterTells p) (map (letter (Node n)) ss)
  segments-tell p n c [] to = tt
  segments-tell p n c (s ∷ ss) to = (subst (λ (q : Place). MayTell (p.nodes n) q (message_head s.1)) (sym to.0) tt, segments-tell p n c ss to.1)

  -- its packets, where it keeps what it kept
  says-owe : (n : ℕ) (heads : List Seen) (notes : TurnSaid) (ms : List (Place × List ℕ)) → AreTold (x.part.nodes n) ms
      → Owes l x (stands x (Node n) heads (record notes { segments = []; messages = ms }))
  says-owe n heads notes ms told = record { stays = λ i. still-decided (x.part.nodes i); told = messages-tell x.part n ms told; leaves = λ i h. inl h }

  node-owes : (n : ℕ) (env : NodeEnv) (heads : List Seen) (d : NodeDeed) → env.leaving ≡ l n → GoesSo env (x.part.nodes n) d → Owes l x (node_does x n heads d)
  node-owes n env heads Drops is goes = nothing-owes (Node n) heads
  node-owes n env heads (Says ms) is goes = says-owe n heads nothing_said ms goes
  node-owes n env heads (Does given) is goes =
      let q : NodePart = given.0 in
      let p : Part = with_node x.part n q in
      record {
        stays = put-each x.part.nodes n q (λ i r. StaysDecided (x.part.nodes i) r) goes.0.stays (λ i other. still-decided (x.part.nodes i));
        told = Each-append (LetterTells p) (map (letter (Node n)) given.1.segments) (map (letter (Node n)) given.1.messages)
            (segments-tell p n env.serve.c given.1.segments goes.1)
            (messages-tell p n given.1.messages (subst (λ (r : NodePart). AreTold r given.1.messages) (sym (put-same x.part.nodes n q)) goes.2));
        leaves = put-each x.part.nodes n q (λ i r. HasSentBack r → HasSentBack (x.part.nodes i) ⊎ (l i ≡ true))
            (λ h. ⊎_elim (λ (was : HasSentBack (x.part.nodes n)). inl was) (λ (leaves : env.leaving ≡ true). inr (sym is ∙ leaves)) (goes.0.leaves h))
            (λ i other h. inl h);
      }

  -- what is told again was said before
  kept-told : (n : ℕ) → IsToldSo x → (ks : List Kept) → AreSent x (Node n) ks → AreTold (x.part.nodes n) (map sent_of ks)
  kept-told n told [] h = tt
  kept-told n told (q ∷ ks) h =
      let sent : Letter = record { from = Node n; to = q.to; bytes = q.bytes } in
      (has-each (LetterTells x.part) sent x.letters h.0.1 told, kept-told n told ks h.1)

  again-told : (n : ℕ) → IsConnSound x → IsToldSo x → AreTold (x.part.nodes n) (again_sent (x.part.nodes n))
  again-told n sound told =
      let ours : NodePart = x.part.nodes n in
      kept-told n told (ours.kept ++ ours.fetches)
      (all-append (λ q. IsMachine q.to × Was x (Node n) q.to q.bytes) ours.kept ours.fetches (sound.kept n) (sound.fetches n))

  rule-owes : (n : ℕ) (env : NodeEnv) (heads : List Seen) (g : NodeGets) → env.leaving ≡ l n → IsOfItsEpoch env (x.part.nodes n) g → IsConnSound x → IsToldSo x
      → Owes l x (node_goes x n env heads g)
  rule-owes n env heads g is at sound told =
      let o = node-owes n env heads (node_rule env (x.part.nodes n) g) is (rule-goes env (x.part.nodes n) (again-told n sound told) g at) in
      record { stays = o.stays; told = o.told; leaves = o.leaves }

  aside-owes : (k : Setting) (n : ℕ) (a : Aside) → Owes l x (stands x (Node n) (aside_seen n a) (aside_said k n x.c a))
  aside-owes k n a = go a where
    go : (b : Aside) → Owes l x (stands x (Node n) (aside_seen n a) (aside_said k n x.c b))
    go (Answers from epoch r path file bytes) = says-owe n (aside_seen n a) (aside_said k n x.c (Answers from epoch r path file bytes)) _ (tt, tt)
    go (Queues from epoch r path file bytes) = says-owe n (aside_seen n a) (aside_said k n x.c (Queues from epoch r path file bytes)) [] tt
    go (Brings from epoch r path) = says-owe n (aside_seen n a) (aside_said k n x.c (Brings from epoch r path)) _ (tt, tt)

-- ---- every rule

-- what each move owes, where what was said is so
module _ (k : Setting) (Given : Conn → Type 0) where
  abbrev P : Conn → Move → Type 0
  P x v = MayRestOn Given x → IsToldSo x → Owes k.leaving x v

  pub owing : Rules k P
  owing = record {
    untouched = record {
      client = each-client k P (record {
        opens = λ x isn iss wnd mss rule none may told. other-owes k.leaving x (Client x.c) _ _ _ x.part.front tt;
        does = λ x s g there comes may told. other-owes k.leaving x (Client x.c) _ _ _ x.part.front tt;
      });
      front = each-front k P (λ x env heads g is comes may told. front-owes k.leaving x heads (front_rule env x.part.front g));
      node = each-node k P (record {
        does = λ x n epoch env heads g is at comes may told. rule-owes k.leaving x n env heads g is.leaves at.0 may.sound told;
        aside = λ x n a by may told. aside-owes k.leaving x k n a;
      });
      ignores = λ x from to bytes was may told. nothing-owes k.leaving x to (packet_seen from to bytes);
    };
    injects = λ x s bytes there rule may told. other-owes k.leaving x (Client x.c) _ _ _ x.part.front tt;
  }
