-- What comes of an Ask at the front end: the Tag that it awaits, for the first time or again.
use Rattle.std.proofs.Common.{◌≡◌, ◌<◌, ◌≤◌, ◌+◌, ◌^◌, ◌==◌, ◌&&◌, nat_lt, ℕ, suc, Bool, true, false, cond, List, [], ◌∷◌, length, map, is_some, Option, Some, None, ⊎_elim, refl, sym, ap, ◌∙◌, subst, arith}
use Rattle.std.specs.List.{AllByRecursion, find}
use Rattle.std.proofs.lemmas.Bool.{and_parts, cond_both, eq-eqb, eqb-true, lt-ltb, ltb-true}
use Rattle.lard_law_view.specs.Prelude.{Ask, Conn, ControlBlock, Front, FrontDeed, FrontEnv, FrontRest, FrontRow, IsConnNumber, IsFrontEnv, IsNodeNumber, Node, Setting, SpellsMessage, Station, ask_of, asked_by, assigns, front_asked, front_rest, front_saying, grown, is_row_at, is_under, letters_of, named_paths, tag_sent}
use Rattle.lard_base.specs.declared.place.TimerKind.TheVariants as kind
use Rattle.lard_bound.specs.Chains.{chain, node_chain, of_message}
use Rattle.lard_bound.specs.Nears.{Near, NearAsk, NearSaid, OfMessage}
use Rattle.lard_bound.specs.Seats.{Here, SeatNow, Staying, seat_of}
use Rattle.lard_bound.specs.Spots.{Spot, post_of}
use Rattle.lard_bound.specs.Units.{Whole}
use Rattle.lard_rules.specs.Front.{Drops, Says, Does, message}
use Rattle.lard_message.specs.declared.message.Body.TheVariants as body
use Rattle.lard_law_progress.proofs.AnswersFrontGiven.{FrontGiven, HasTag, IsAsked}
use Rattle.lard_law_progress.proofs.AnswersFrontHome.{home, small-at}
use Rattle.lard_law_progress.proofs.AnswersFrontMessages.{Owes, does, drops-owes, l, one-owes, reads, unopened-owes}
use Rattle.lard_law_progress.proofs.AnswersFrontSpots.{at_seat}
use Rattle.lard_law_progress.proofs.Seating.{seat-counts}

module _ (k : Setting) (w : Whole) (x : Conn) (env : FrontEnv) (is_env : IsFrontEnv k x.c env) (number_is : IsConnNumber x.c) (given : FrontGiven k.files w x) (n : ℕ) (bytes : List ℕ) (epoch number queue size : ℕ) (paths : List (List ℕ))
    (spells : SpellsMessage x.c epoch (body.Ask number queue size paths) bytes) where
  abbrev ask : Ask
  ask = ask_of x.c n number queue size paths

  -- ---- what it leads to

  asked-near : (t : Spot) (d : ℕ) → Near k.files t x.c d (l k w x n bytes) → NearAsk 2 n epoch number (length paths) t.post × (2 ≤ d)
  asked-near t d near = subst (OfMessage (λ m. NearSaid t d n m.epoch.0 m.body)) spells near

  asked-chain : (t : Spot) → chain t x.c (l k w x n bytes) ≡ 1
  asked-chain t = ap (of_message (λ m. node_chain m.body)) spells

  -- the stay that awaits its answer
  record IsAwaiting (z : SeatNow) : Type 0 where
    told : Bool
    block : ControlBlock
    stay : Staying
    seat : z ≡ Here told n epoch block stay
    kept : is_some (find (is_under kind.Ask 0) stay.kept) ≡ true
    number_of : number ≡ stay.stay.asks
    count : length paths ≡ length (named_paths k.files stay.stay.batch)

  awaiting : (st : Station) (z : SeatNow) → NearAsk 2 n epoch number (length paths) (post_of k.files st.client z) → IsAwaiting z
  awaiting st (Here told m e b s) near = record { told = told; block = b; stay = s; seat = λ i. Here told (near.0 i) (near.1 i) b s; kept = near.2.0; number_of = near.2.1; count = near.2.2 }
  awaiting st _ near = absurd near

  -- and what the front end knows of it
  known : (z : SeatNow) → seat_of x.part ≡ z → (h : IsAwaiting z) → IsAsked k.files h.stay x.part.front.rest
  known z seat h = given.asks h.told n epoch h.block h.stay (seat ∙ h.seat) h.kept

  -- a Tag of as many nodes is what the stay awaits
  tag-near : (st : Station) (z : SeatNow) → IsAwaiting z → (m : ℕ) (nodes : List ℕ) → number ≡ m → length nodes ≡ length paths → NearAsk 1 n epoch m (length nodes) (post_of k.files st.client z)
  tag-near st z h m nodes is same = subst (λ (y : SeatNow). NearAsk 1 n epoch m (length nodes) (post_of k.files st.client y)) (sym h.seat) (refl, refl, (h.kept, sym is ∙ h.number_of, same ∙ h.count))

  -- ---- what is done

  -- a Tag that may be sent, with as many nodes as the stay awaits
  record IsAnswer (m : ℕ) (nodes : List ℕ) : Type 0 where
    fits : m < 2 ^ 32
    some : 1 ≤ length nodes
    few : length nodes ≤ 8
    are_nodes : AllByRecursion IsNodeNumber nodes
    many : (z : SeatNow) → seat_of x.part ≡ z → IsAwaiting z → length nodes ≡ length paths

  tag-owes : (st : Station) → x.part.station ≡ Some st → is_row_at n epoch x.part.front.row ≡ true → (deed : FrontDeed) (m : ℕ) (nodes : List ℕ) → number ≡ m
      → letters_of (does k w x n bytes deed) ≡ record { from = Front; to = Node n; bytes = message env.serve.c epoch (body.Tag m nodes) } ∷ []
      → (FrontGiven k.files w (grown x (does k w x n bytes deed)) → IsAnswer m nodes) → Owes k w x n bytes deed
  tag-owes st was at deed m nodes is letters answer lasts later =
      let a = answer later in
      one-owes k w x n bytes st was deed (message env.serve.c epoch (body.Tag m nodes)) epoch (body.Tag m nodes) letters
      (reads x.c env.serve.c epoch (body.Tag m nodes) is_env.number number_is (small-at n epoch x.part.front.row given.stages at) (a.some, a.few) (a.fits, a.are_nodes))
      (λ z seat. let one = asked-chain (at_seat k.files x.part st z) in omega (arith, one))
      (λ z seat d near.
      let h = asked-near (at_seat k.files x.part st z) (suc d) near in
      let y = awaiting st z h.0 in
      (tag-near st z y m nodes is (a.many z seat y), (let two : 2 ≤ suc d = h.1 in omega arith)))
      lasts later

  abbrev given_nodes : List ℕ
  given_nodes = map (λ c. c.node) (env.later ask).choices

  -- the next Ask: what the dispatcher answered is the Tag that is kept then
  next-owes : (st : Station) → x.part.station ≡ Some st → is_row_at n epoch x.part.front.row ≡ true → (rest : FrontRest) → x.part.front.rest ≡ Some rest → (number == rest.asks + 1) ≡ true
      → Owes k w x n bytes (Does (assigns env x.part.front rest n epoch ask (env.later ask)))
  next-owes st was at rest found is = tag-owes st was at (Does (assigns env x.part.front rest n epoch ask (env.later ask))) number given_nodes refl refl (λ later.
      let more : FrontRest = record rest { asks = number; tag = given_nodes; assigned = rest.assigned + length (env.later ask).choices } in
      let next : number ≡ rest.asks + 1 = eqb-true number (rest.asks + 1) is in
      let tag : HasTag more = later.tags more refl (omega (arith, next)) in
      record {
        fits = tag.number;
        some = tag.some;
        few = tag.few;
        are_nodes = tag.nodes;
        many = λ z seat h. ⊎_elim
            (λ (e : h.stay.stay.asks ≡ number + 1). absurd (let i : number ≡ h.stay.stay.asks = h.number_of in omega (arith, e, i)))
            (λ (e : (h.stay.stay.asks ≡ number) × (0 < number) × (length given_nodes ≡ length (named_paths k.files h.stay.stay.batch))). e.2 ∙ sym h.count)
            (later.asks h.told n epoch h.block h.stay (seat-counts w k.nodes k.files x.part st (record x.part.front { rest = Some more }) (sym (ap (λ (o : Option FrontRest). (front_rest o).count) found)) refl ∙ seat ∙ h.seat) h.kept);
      })

  -- the last Ask that was answered
  last-owes : (st : Station) → x.part.station ≡ Some st → is_row_at n epoch x.part.front.row ≡ true → (rest : FrontRest) → x.part.front.rest ≡ Some rest → ((number == rest.asks) && nat_lt 0 rest.asks) ≡ true
      → Owes k w x n bytes (Says (front_saying (tag_sent env n epoch rest.asks rest.tag)))
  last-owes st was at rest found is =
      let both = and_parts (number == rest.asks) (nat_lt 0 rest.asks) is in
      let last : number ≡ rest.asks = eqb-true number rest.asks both.0 in
      let tag : HasTag rest = given.tags rest found (ltb-true 0 rest.asks both.1) in
      tag-owes st was at (Says (front_saying (tag_sent env n epoch rest.asks rest.tag))) rest.asks rest.tag last refl (λ later. record {
        fits = tag.number;
        some = tag.some;
        few = tag.few;
        are_nodes = tag.nodes;
        many = λ z seat h. ⊎_elim
            (λ (e : h.stay.stay.asks ≡ rest.asks + 1). absurd (let i : number ≡ h.stay.stay.asks = h.number_of in omega (arith, e, i, last)))
            (λ (e : (h.stay.stay.asks ≡ rest.asks) × (0 < rest.asks) × (length rest.tag ≡ length (named_paths k.files h.stay.stay.batch))). e.2 ∙ sym h.count)
            (subst (IsAsked k.files h.stay) found (known z seat h));
      })

  -- any other is awaited by none
  other-owes : (st : Station) → x.part.station ≡ Some st → (rest : FrontRest) → x.part.front.rest ≡ Some rest → (number == rest.asks + 1) ≡ false → ((number == rest.asks) && nat_lt 0 rest.asks) ≡ false → Owes k w x n bytes Drops
  other-owes st was rest found first again = drops-owes k w x n bytes st was (λ z seat d near.
      let h = awaiting st z (asked-near (at_seat k.files x.part st z) (suc d) near).0 in
      ⊎_elim
      (λ (e : h.stay.stay.asks ≡ rest.asks + 1). let bad : true ≡ false = sym (eq-eqb number (rest.asks + 1) (h.number_of ∙ e)) ∙ first in cc)
      (λ (e : (h.stay.stay.asks ≡ rest.asks) × (0 < rest.asks) × (length rest.tag ≡ length (named_paths k.files h.stay.stay.batch))).
      let t : ((number == rest.asks) && nat_lt 0 rest.asks) ≡ true = λ i. (eq-eqb number rest.asks (h.number_of ∙ e.0) i) && (lt-ltb 0 rest.asks e.1 i) in
      let bad : true ≡ false = sym t ∙ again in cc)
      (subst (IsAsked k.files h.stay) found (known z seat h)))

  pub asked-answers : Owes k w x n bytes (front_asked env x.part.front n epoch ask)
  asked-answers = by-station x.part.station refl where
    by-rest : (st : Station) → x.part.station ≡ Some st → is_row_at n epoch x.part.front.row ≡ true → (o : Option FrontRest) → x.part.front.rest ≡ o → Owes k w x n bytes (asked_by env x.part.front n epoch ask o)
    by-rest st was at None found = drops-owes k w x n bytes st was (λ z seat d near.
        let h = awaiting st z (asked-near (at_seat k.files x.part st z) (suc d) near).0 in subst (IsAsked k.files h.stay) found (known z seat h))
    by-rest st was at (Some rest) found =
        cond_both (number == rest.asks + 1) (Does (assigns env x.part.front rest n epoch ask (env.later ask))) (cond ((number == rest.asks) && nat_lt 0 rest.asks) (Says (front_saying (tag_sent env n epoch rest.asks rest.tag))) Drops) (Owes k w x n bytes)
        (λ t. next-owes st was at rest found t)
        (λ t. cond_both ((number == rest.asks) && nat_lt 0 rest.asks) (Says (front_saying (tag_sent env n epoch rest.asks rest.tag))) Drops (Owes k w x n bytes)
        (λ u. last-owes st was at rest found u) (λ u. other-owes st was rest found t u))

    by-place : (st : Station) → x.part.station ≡ Some st → Owes k w x n bytes (front_asked env x.part.front n epoch ask)
    by-place st was = cond_both (is_row_at n epoch x.part.front.row) (asked_by env x.part.front n epoch ask x.part.front.rest) Drops (Owes k w x n bytes)
        (λ t. by-rest st was t x.part.front.rest refl)
        (λ t. drops-owes k w x n bytes st was (λ z seat d near.
        let h = awaiting st z (asked-near (at_seat k.files x.part st z) (suc d) near).0 in
        let there = home x.part h.told n epoch h.block h.stay (seat ∙ h.seat) in let bad : true ≡ false = sym there ∙ t in cc))

    by-station : (o : Option Station) → x.part.station ≡ o → Owes k w x n bytes (front_asked env x.part.front n epoch ask)
    by-station None none = subst (λ (o : Option FrontRow). Owes k w x n bytes (cond (is_row_at n epoch o) (asked_by env x.part.front n epoch ask x.part.front.rest) Drops)) (sym (given.unopened none)) (unopened-owes k w x n bytes none)
    by-station (Some st) was = by-place st was
