-- The first timer of those that are due, at the front end and at a node: what is sent again is near.
use Rattle.std.proofs.Common.{◌≡◌, ◌≤◌, ◌==◌, not, ℕ, Bool, true, false, List, [], ◌∷◌, ◌++◌, map, Option, Some, None, inl, inr, refl, sym, ap, ◌∙◌, subst}
use Rattle.std.specs.Prelude.{◌⊎◌}
use Rattle.std.proofs.lemmas.Bool.{both_ways}
use Rattle.std.specs.List.{AllByRecursion, list_any}
use Rattle.lard_base.specs.declared.event.Event.TheVariants as event
use Rattle.lard_law_view.specs.Prelude.{BackConn, BackRow, Conn, ControlBlock, Front, FrontConn, FrontEnv, FrontPart, FrontRow, Has, Kept, Letter, Move, Node, NodeEnv, NodePart, Place, Setting, Station, Stay, TimerKind, after_timer, again_sent, back_endpoint, back_held, both_of, event_seen, fetch_kept, fires_at, front_armed, front_does, front_fired_by, front_timer, grown, holds_kind, is_clear, is_unsaid, kind_rank, letter, letters_of, named_paths, node_armed, node_does, node_fired, node_timer, row_armed, sent_of, serving, serving_ready_of, spoken, stage_armed, timed}
use Rattle.lard_base.specs.declared.place.TimerKind.TheVariants as kind
use Rattle.lard_bound.specs.Nears.{Near}
use Rattle.lard_bound.specs.Progress.{Any, Lasts, NearAt, NearOn, spot_at, spot_with}
use Rattle.lard_bound.specs.Spots.{spot_of}
use Rattle.lard_bound.specs.Units.{Whole, units}
use Rattle.lard_law_view.proofs.Turned.{has-map}
use Rattle.lard_law_settles.proofs.CourseOwing.{IsFirst}
use Rattle.lard_law_settles.proofs.CourseRenewing.{BackKept, IsAsk, IsFetched, OfferKept, Renews, RowKept, StageKept, StayKept, ToldKept, ask-near, ended-near, fetch-near, given-near, offer-near}
use Rattle.lard_rules.specs.Front as front
use Rattle.lard_handoff_back.specs.declared.row.BackConn.TheVariants as back
use Rattle.lard_message.specs.declared.message.Body.TheVariants as body
use Rattle.lard_handoff_front.specs.declared.row.FrontConn.TheVariants as stage
use Rattle.lard_history.proofs.Seeing.{has-before, has-behind}
use Rattle.lard_rules.specs.Node as node
use Rattle.lard_rules.specs.Node.{message}

-- ---- one of the letters of a move is near

has-any : {A : Type 0} (P : A → Type 0) (a : A) (xs : List A) → Has a xs → P a → Any P xs
has-any P a [] h p = absurd h
has-any P a (x ∷ xs) (inl same) p = inl (subst P (sym same) p)
has-any P a (x ∷ xs) (inr h) p = inr (has-any P a xs h p)

pub not-off : (b : Bool) → not b ≡ true → b ≡ false
not-off true e = sym e
not-off false e = refl

module _ (k : Setting) (w : Whole) (x : Conn) (st : Station) (is : x.part.station ≡ Some st) where
  -- what a timer sends is near within three rounds, where no unit goes
  abbrev pub SendsNear : Move → Type 0
  SendsNear v = units w k.nodes x ≤ units w k.nodes (grown x v) → Any (λ a. NearAt k.files (grown x v) 3 a) (letters_of v)

  pub near-by : (v : Move) → Lasts k w x v → (a : Letter) → Has a (letters_of v) → Near k.files (spot_of k.files x.part st) x.c 3 a → SendsNear v
  near-by v lasts a has near up =
      let spot : spot_at k.files (grown x v) ≡ Some (spot_of k.files x.part st) = lasts.steady up ∙ ap (spot_with k.files x) is in
      has-any (λ a. NearAt k.files (grown x v) 3 a) a (letters_of v) has (subst (λ o. NearOn k.files o x.c 3 a) (sym spot) near)

  -- ---- the front end

  -- its timer is that of the endpoint, or something is kept
  front-armed : (p : FrontPart) (kd : TimerKind) → front_armed p kd ≡ true → (row_armed p.row ≡ true) ⊎ (p.kept ≡ [] → ⊥)
  front-armed p kind.Tcp on = inl on
  front-armed p kind.Offer on = inr (λ none. both_ways false refl (sym (ap (list_any (λ k. kind_rank k.kind == kind_rank kind.Offer)) none) ∙ on))
  front-armed p _ on = absurd (both_ways false refl on)

  module _ (env : FrontEnv) (renews : Renews k.files x) where
    abbrev p : FrontPart
    p = x.part.front

    abbrev pub FrontNear : front.FrontDeed → Type 0
    FrontNear d = Lasts k w x (front_does x (event_seen (event.Timer Front x.c)) d) → SendsNear (front_does x (event_seen (event.Timer Front x.c)) d)

    -- where it has the endpoint, that sends what was not acknowledged
    abbrev pub HeldNear : Type 0
    HeldNear = (row : FrontRow) (b : ControlBlock) → p.row ≡ Some row → row.stage ≡ stage.Held b → is_clear b.send ≡ false → FrontNear (fires_at env p row (stage.Held b))

    -- one that waits has said all
    abbrev pub WaitsClear : Type 0
    WaitsClear = (row : FrontRow) (b : ControlBlock) → p.row ≡ Some row → row.stage ≡ stage.Waiting b → is_clear b.send ≡ true

    unarmed : (row : FrontRow) (ks : List Kept) → (false ≡ true) ⊎ (ks ≡ [] → ⊥) → ks ≡ [] → ⊥
    unarmed row ks (inl on) none = both_ways false refl on
    unarmed row ks (inr some) none = some none

    by-stage : HeldNear → WaitsClear → (row : FrontRow) → p.row ≡ Some row → (c : FrontConn) → row.stage ≡ c → OfferKept x.c p.kept c → (stage_armed c ≡ true) ⊎ (p.kept ≡ [] → ⊥) → FrontNear (fires_at env p row c)
    by-stage held waits row at (stage.Held b) is_ none (inl on) = held row b at is_ (not-off (is_clear b.send) on)
    by-stage held waits row at (stage.Held b) is_ none (inr some) = absurd (some none)
    by-stage held waits row at (stage.Waiting b) is_ none (inl on) = absurd (both_ways (is_clear b.send) (not-off (is_clear b.send) on) (waits row b at is_))
    by-stage held waits row at (stage.Waiting b) is_ none (inr some) = absurd (some none)
    by-stage held waits row at stage.Lent is_ none armed = absurd none
    by-stage held waits row at (stage.Moved n e) is_ none armed = absurd (unarmed row p.kept armed none)
    by-stage held waits row at (stage.Closed last) is_ none armed = absurd (unarmed row p.kept armed none)
    by-stage held waits row at (stage.Offering n e) is_ (parts, kept, may) armed = λ lasts.
        let a : Letter = record { from = Front; to = Node n; bytes = message x.c e.0 (body.Offer parts) } in
        let near = offer-near k.files x.part st x.c n e.0 row at is_ parts may in
        let v : Move = front_does x (event_seen (event.Timer Front x.c)) (front.Says (front.front_saying (map sent_of p.kept))) in
        let has : letters_of v ≡ a ∷ [] = ap (λ (ks : List Kept). map (letter Front) (map sent_of ks)) kept in
        near-by v lasts a (subst (Has a) (sym has) (inl refl)) near

    by-row : HeldNear → WaitsClear → (o : Option FrontRow) → p.row ≡ o → RowKept x.c p.kept o → (row_armed o ≡ true) ⊎ (p.kept ≡ [] → ⊥) → FrontNear (front_fired_by env p o)
    by-row held waits None at none (inl on) = absurd (both_ways false refl on)
    by-row held waits None at none (inr some) = absurd (some none)
    by-row held waits (Some row) at kept armed = by-stage held waits row at row.stage refl kept armed

    pub front-begins : HeldNear → WaitsClear → IsFirst x.part Front → FrontNear (front_timer env p)
    front-begins held waits (kd, on) = by-row held waits p.row refl renews.front (front-armed p kd on)

  -- ---- a node

  -- the endpoint's timer, or something is kept, or a Fetch is
  node-on : (q : NodePart) (kd : TimerKind) → node_armed q kd ≡ true → (is_unsaid (back_endpoint q.row) ≡ true) ⊎ ((q.kept ≡ [] → ⊥) ⊎ (q.fetches ≡ [] → ⊥))
  node-on q kind.Tcp on = inl on
  node-on q kind.Offer on = absurd (both_ways false refl on)
  node-on q kind.Ask on = inr (inl (λ none. both_ways false refl (sym (ap (holds_kind kind.Ask) none) ∙ on)))
  node-on q kind.Fetch on = inr (inr (λ none. both_ways false refl (sym (ap (holds_kind kind.Fetch) none) ∙ on)))
  node-on q kind.Ended on = inr (inl (λ none. both_ways false refl (sym (ap (holds_kind kind.Ended) none) ∙ on)))
  node-on q kind.Give on = inr (inl (λ none. both_ways false refl (sym (ap (holds_kind kind.Give) none) ∙ on)))

  module _ (n : ℕ) (env : NodeEnv) (renews : Renews k.files x) where
    abbrev q : NodePart
    q = x.part.nodes n

    abbrev pub NodeNear : node.NodeDeed → Type 0
    NodeNear d = Lasts k w x (node_does x n (event_seen (event.Timer (Node n) x.c)) d) → SendsNear (node_does x n (event_seen (event.Timer (Node n) x.c)) d)

    -- where it has the endpoint
    abbrev pub HereDeed : ControlBlock → Stay → node.NodeDeed
    HereDeed b s = node.Does (node_fired env q (b, s) (spoken env.serve (serving (after_timer b) s.served []) (serving_ready_of env.serve (after_timer b) (timed b))))

    abbrev pub HereNear : Type 0
    HereNear = (e : ℕ) (b : ControlBlock) (s : Stay) → q.row ≡ Some (record { stage = back.Here b; epoch = record { 0 = e } }) → q.stay ≡ Some s → is_clear b.send ≡ false → NodeNear (HereDeed b s)

    -- what is kept is among what is sent
    said-none : (j : Kept) → Has j (q.kept ++ q.fetches) → Has (letter (Node n) (sent_of j)) (letters_of (node_does x n (event_seen (event.Timer (Node n) x.c)) (node.Says (again_sent q))))
    said-none j has = has-map (letter (Node n)) (sent_of j) (again_sent q) (has-map sent_of j (q.kept ++ q.fetches) has)

    said-here : (b : ControlBlock) (s : Stay) (j : Kept) → Has j (q.kept ++ q.fetches) → Has (letter (Node n) (sent_of j)) (letters_of (node_does x n (event_seen (event.Timer (Node n) x.c)) (HereDeed b s)))
    said-here b s j has =
        let given = spoken env.serve (serving (after_timer b) s.served []) (serving_ready_of env.serve (after_timer b) (timed b)) in
        let l : Letter = letter (Node n) (sent_of j) in
        let messages : List (Place × List ℕ) = again_sent q ++ [] ++ [] ++ node.ended_sent env None given.0 in
        let first : Has (sent_of j) messages =
        has-before (sent_of j) (again_sent q ++ [] ++ []) (node.ended_sent env None given.0) (has-before (sent_of j) (again_sent q ++ []) [] (has-before (sent_of j) (again_sent q) [] (has-map sent_of j (q.kept ++ q.fetches) has))) in
        has-behind l (map (letter (Node n)) given.1.segments) (map (letter (Node n)) messages) (has-map (letter (Node n)) (sent_of j) messages first)

    abbrev Armed : Option ControlBlock → Type 0
    Armed o = (is_unsaid o ≡ true) ⊎ ((q.kept ≡ [] → ⊥) ⊎ (q.fetches ≡ [] → ⊥))

    nothing-on : Armed None → (q.kept ≡ []) × (q.fetches ≡ []) → ⊥
    nothing-on (inl on) none = both_ways false refl on
    nothing-on (inr (inl some)) none = some none.0
    nothing-on (inr (inr some)) none = some none.1

    -- here
    module _ (e : ℕ) (b : ControlBlock) (s : Stay) (row : q.row ≡ Some (record { stage = back.Here b; epoch = record { 0 = e } })) (stay : q.stay ≡ Some s) where
      asks-near : IsAsk k.files x.c e s q.kept → NodeNear (HereDeed b s)
      asks-near a lasts =
          let near = ask-near k.files x.part st x.c n e b s row stay (renews.homes n e b row) a in
          let j : Kept = node.ask_kept x.c e (record { number = s.asks; queue = a.queue; size = a.size; paths = named_paths k.files s.batch }) in
          let has : Has j (q.kept ++ q.fetches) = has-before j q.kept q.fetches (subst (Has j) (sym a.is) (inl refl)) in
          near-by (node_does x n (event_seen (event.Timer (Node n) x.c)) (HereDeed b s)) lasts (letter (Node n) (sent_of j)) (said-here b s j has) near

      fetches-near : (fs : List Kept) → q.fetches ≡ fs → AllByRecursion (IsFetched k.files x.c e) fs → (q.fetches ≡ [] → ⊥) → NodeNear (HereDeed b s)
      fetches-near [] are each some lasts = absurd (some are)
      fetches-near (f ∷ rest) are each some lasts =
          let g = each.0 in
          let j : Kept = fetch_kept x.c e g.r g.node g.path in
          let near = fetch-near k.files x.part st x.c n e b s row stay (renews.homes n e b row) f rest are g in
          let has : Has j (q.kept ++ q.fetches) = has-behind j q.kept q.fetches (subst (Has j) (sym are) (inl g.is)) in
          near-by (node_does x n (event_seen (event.Timer (Node n) x.c)) (HereDeed b s)) lasts (letter (Node n) (sent_of j)) (said-here b s j has) near

      here-armed : HereNear → ((q.kept ≡ []) ⊎ IsAsk k.files x.c e s q.kept) → AllByRecursion (IsFetched k.files x.c e) q.fetches → Armed (Some b) → NodeNear (HereDeed b s)
      here-armed here ask each (inl on) = here e b s row stay (not-off (is_clear b.send) on)
      here-armed here (inl none) each (inr (inl some)) = absurd (some none)
      here-armed here (inr a) each (inr (inl some)) = asks-near a
      here-armed here ask each (inr (inr some)) = fetches-near q.fetches refl each some

    -- that a stay is over is told again: it ended, or the connection goes back
    again-near : (j : Kept) → q.kept ≡ j ∷ [] → Near k.files (spot_of k.files x.part st) x.c 3 (letter (Node n) (sent_of j)) → NodeNear (node.Says (again_sent q))
    again-near j is near lasts =
        let has : Has j (q.kept ++ q.fetches) = has-before j q.kept q.fetches (subst (Has j) (sym is) (inl refl)) in
        near-by (node_does x n (event_seen (event.Timer (Node n) x.c)) (node.Says (again_sent q))) lasts (letter (Node n) (sent_of j)) (said-none j has) near

    over-near : (e : ℕ) → q.row ≡ Some (record { stage = back.Ended; epoch = record { 0 = e } }) → (o : Option ℕ) → q.beside.returned ≡ o → ToldKept x.c e q.kept o
        → NodeNear (node.Says (again_sent q))
    over-near e row None none g = again-near (node.ended_kept x.c e g.last g.count) g.is (ended-near k.files x.part st x.c n e row none (renews.ends n e row none) g)
    over-near e row (Some served) given g =
        again-near (record { kind = kind.Give; r = 0; to = Front; bytes = message x.c e (body.Give g.parts) }) g.is (given-near k.files x.part st x.c n e row served given g)

    by-stay : HereNear → (e : ℕ) (b : ControlBlock) → q.row ≡ Some (record { stage = back.Here b; epoch = record { 0 = e } }) → (o : Option Stay) → q.stay ≡ o → StayKept k.files x.c e q o → Armed (Some b)
        → NodeNear (node.node_fired_by env q (both_of (Some b) o))
    by-stay here e b row None stay kept armed = absurd kept
    by-stay here e b row (Some s) stay kept armed = here-armed e b s row stay here kept.0 kept.1 armed

    by-back : HereNear → (row : BackRow) → q.row ≡ Some row → (c : BackConn) → row.stage ≡ c → StageKept k.files x.c row.epoch.0 q c → Armed (back_held c) → NodeNear (node.node_fired_by env q (both_of (back_held c) q.stay))
    by-back here row at (back.Here b) is_ kept armed = by-stay here row.epoch.0 b (at ∙ λ i. Some (record { stage = is_ i; epoch = record { 0 = row.epoch.0 } })) q.stay refl kept armed
    by-back here row at back.Out is_ kept armed = absurd kept
    by-back here row at back.Ended is_ kept armed = over-near row.epoch.0 (at ∙ λ i. Some (record { stage = is_ i; epoch = record { 0 = row.epoch.0 } })) q.beside.returned refl kept.0
    by-back here row at back.Gone is_ kept armed = absurd (nothing-on armed kept)

    by-node : HereNear → (o : Option BackRow) → q.row ≡ o → BackKept k.files x.c q o → Armed (back_endpoint o) → NodeNear (node.node_fired_by env q (both_of (back_endpoint o) q.stay))
    by-node here None at kept armed = absurd (nothing-on armed kept)
    by-node here (Some row) at kept armed = by-back here row at row.stage refl kept armed

    pub node-begins : HereNear → IsFirst x.part (Node n) → NodeNear (node_timer env q)
    node-begins here (kd, on, off) = by-node here q.row refl (renews.nodes n) (node-on q kd on)
