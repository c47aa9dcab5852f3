-- What comes of a Tag, of a content, and of what answers that a stay is over: where no unit goes they did not count, and were not near.
use Rattle.std.proofs.Common.{◌≡◌, ◌==◌, ◌&&◌, not, ℕ, suc, Bool, true, false, List, [], length, is_some, Option, Some, None, refl, sym, ap, ◌∙◌, subst, arith}
use Rattle.std.specs.List.{find}
use Rattle.std.proofs.lemmas.Bool.{and_parts, cond_both, cond-false, cond-true}
use Rattle.std.proofs.lemmas.Bool.Decides.{nat_tests}
use Rattle.lard_law_view.specs.Prelude.{BackConn, BackRow, Conn, ControlBlock, FilesAt, Front, IsNodeEnv, Kept, Message, Node, NodeEnv, NodePart, Part, Setting, SpellsMessage, Station, Stay, Was, ack_body, awaits_ack, awaits_told, came_for, come_by, come_progress, goes_on, gone, here, is_ended, is_from, is_tag_awaited, is_under, named_paths, node_acknowledged, node_content, node_put_back, node_rests, node_saying, node_tagged, node_turns, tagged, tagged_by, told_kind, with_node, without, work_of}
use Rattle.lard_base.specs.declared.place.TimerKind.TheVariants as kind
use Rattle.lard_bound.specs.Nears.{IsAwaited, IsWanted, Near, NearAsk, NearAside, NearTold, OfMessage}
use Rattle.lard_bound.specs.Seats.{Here, SeatNow, seat_of, stay_of, staying_of, telling, telling_by, tells_end, tells_over}
use Rattle.lard_bound.specs.Spots.{Spot, awaits_of, post_of, spot_of}
use Rattle.lard_bound.specs.Units.{Whole}
use Rattle.lard_handoff_back.specs.declared.row.BackConn.TheVariants as back
use Rattle.lard_message.specs.declared.message.Body.TheVariants as body
use Rattle.lard_rules.specs.Node as node
use Rattle.lard_law_progress.proofs.AnswersNodeDeeds.{OwesBy, does-owes, drops-owes, is-here, turns-does, turns-owes}
use Rattle.lard_law_progress.proofs.AnswersNodeGiven.{NodeGiven}
use Rattle.lard_law_progress.proofs.AnswersNodeSeats.{IsHere, Sits, here-both, seat-sits}
use Rattle.lard_law_progress.proofs.AnswersNodeStill.{content-falls, post-is, still, tag-falls}
use Rattle.lard_law_progress.proofs.Away.{here-row, put-there}
use Rattle.lard_law_progress.proofs.Coming.{awaited-some}
use Rattle.lard_rules.proofs.NodeCases.{where-here}

-- ---- what is near, a node awaits

-- node n has the connection in epoch e, and what it awaits is so
abbrev pub AwaitsAt : Part → ℕ → ℕ → (NodePart → Type 0) → Type 0
AwaitsAt p n e P = (told : Bool) × (b : ControlBlock) × IsHere p told n e b × P (p.nodes n)

pub at-same : (p : Part) (told : Bool) (n m e f : ℕ) (b : ControlBlock) → m ≡ n → f ≡ e → IsHere p told m f b → IsHere p told n e b
at-same p told n m e f b same_n same_e h = subst (λ (i : ℕ). IsHere p told i e b) same_n (subst (λ (j : ℕ). IsHere p told m j b) same_e h)

module _ (files : FilesAt) (p : Part) (st : Station) (n e : ℕ) where
  pub ask-awaits : (least number count : ℕ) → NearAsk least n e number count (spot_of files p st).post → AwaitsAt p n e (λ q. IsAwaited number count (awaits_of files (staying_of q)))
  ask-awaits least number count near = go (seat_of p) (seat-sits p) (subst (NearAsk least n e number count) (post-is files p st) near) where
    go : (z : SeatNow) → Sits p z → NearAsk least n e number count (post_of files st.client z) → AwaitsAt p n e (λ q. IsAwaited number count (awaits_of files (staying_of q)))
    go (Here told m f b s) sits h =
        let a : IsAwaited number count (awaits_of files (staying_of (p.nodes m))) = subst (λ z. IsAwaited number count (awaits_of files z)) sits.1 h.2 in
        (told, b, at-same p told n m e f b h.0 h.1 sits.0, subst (λ (i : ℕ). IsAwaited number count (awaits_of files (staying_of (p.nodes i)))) h.0 a)
    go _ sits h = absurd h

  abbrev Wants : ℕ → ℕ → NodePart → Type 0
  Wants from r q = is_from from e (find (is_under kind.Fetch r) q.fetches) ≡ true

  pub content-awaits : (from r : ℕ) → IsWanted n e from r (spot_of files p st).post → AwaitsAt p n e (Wants from r)
  content-awaits from r near = go (seat_of p) (seat-sits p) (subst (IsWanted n e from r) (post-is files p st) near) where
    go : (z : SeatNow) → Sits p z → IsWanted n e from r (post_of files st.client z) → AwaitsAt p n e (Wants from r)
    go (Here told m f b s) sits h =
        let a : Wants from r (p.nodes m) = subst (λ z. is_from from e (find (is_under kind.Fetch r) (awaits_of files z).fetches) ≡ true) sits.1 h.2 in
        (told, b, at-same p told n m e f b h.0 h.1 sits.0, subst (λ (i : ℕ). Wants from r (p.nodes i)) h.0 a)
    go _ sits h = absurd h

-- ---- the rules

all-three : (a : Bool) (i j n m : ℕ) → a ≡ true → i ≡ j → n ≡ m → (a && (i == j && n == m)) ≡ true
all-three true i j n m e f g = grind (arith, nat_tests, f, g)
all-three false i j n m e f g = absurd (let bad : false ≡ true = e in cc)

module _ (k : Setting) (w : Whole) (x : Conn) (n epoch : ℕ) (env : NodeEnv) (of : IsNodeEnv k x.c n epoch env) where
  abbrev q : NodePart
  q = x.part.nodes n

  -- a node that has the connection keeps its stay
  has-both : NodeGiven k w x → (told : Bool) (b : ControlBlock) → IsHere x.part told n epoch b → (s : Stay) × (here env.epoch q ≡ Some (b, s)) × (q.stay ≡ Some s)
  has-both given told b h =
      let s = given.stays n epoch b h.there in
      (s.0, ap (λ (e : ℕ). here e q) of.epoch_is ∙ here-both q epoch b s.0 h.there s.1, s.1)

  -- ---- a Tag

  module _ (number : ℕ) (nodes bytes : List ℕ) (spells : SpellsMessage x.c epoch (body.Tag number nodes) bytes) (was : Was x Front (Node n) bytes) where
    abbrev Tags : node.NodeDeed → Type 0
    Tags deed = OwesBy k w x n Front bytes was deed

    tag-near : (st : Station) (d : ℕ) → Near k.files (spot_of k.files x.part st) x.c (suc d) (record { from = Front; to = Node n; bytes = bytes })
        → AwaitsAt x.part n epoch (λ q. IsAwaited number (length nodes) (awaits_of k.files (staying_of q)))
    tag-near st d near =
        let t = spot_of k.files x.part st in
        let h : NearTold t x.c (suc d) n epoch (body.Tag number nodes) = subst (OfMessage (λ (m : Message). NearTold t x.c (suc d) n m.epoch.0 m.body)) spells near in
        ask-awaits k.files x.part st n epoch 1 number (length nodes) h.0

    counts : NodeGiven k w x → (st : Station) (d : ℕ) → Near k.files (spot_of k.files x.part st) x.c (suc d) (record { from = Front; to = Node n; bytes = bytes })
        → (b : ControlBlock) × (s : Stay) × (here env.epoch q ≡ Some (b, s)) × (is_tag_awaited env number nodes q s ≡ true)
    counts given st d near =
        let h = tag-near st d near in
        let s = has-both given h.0 h.1 h.2 in
        let a : IsAwaited number (length nodes) (awaits_of k.files (staying_of q)) = h.3 in
        let asks : number ≡ s.0.asks = a.1 ∙ ap (λ (o : Option Stay). (stay_of o).asks) s.2 in
        let named : length nodes ≡ length (named_paths env.serve.files s.0.batch) =
        a.2 ∙ ap (λ (o : Option Stay). length (named_paths k.files (stay_of o).batch)) s.2 ∙ ap (λ (f : FilesAt). length (named_paths f s.0.batch)) (sym of.files) in
        (h.1, s.0, s.1, all-three (is_some (find (is_under kind.Ask 0) q.kept)) s.0.asks number (length nodes) (length (named_paths env.serve.files s.0.batch)) a.0 (sym asks) named)

    -- one that is dropped was not near
    tag-dropped : node_tagged env q number nodes ≡ node.Drops → Tags node.Drops
    tag-dropped e = drops-owes k w x n Front bytes was (λ given st st_is d near.
        let h = counts given st d near in
        turns-does env (record q { kept = without kind.Ask 0 q.kept }) [] (goes_on env (tagged env nodes (work_of h.0 h.1)))
        (sym (ap (tagged_by env number nodes q) h.2 ∙ cond-true (is_tag_awaited env number nodes q h.1) _ node.Drops h.3) ∙ e))

    pub tagged-owes : Tags (node_tagged env q number nodes)
    tagged-owes = where-here env.epoch q (λ o. here env.epoch q ≡ o → Tags (tagged_by env number nodes q o))
        (λ is. tag-dropped (ap (tagged_by env number nodes q) is))
        (λ b s at is.
        let pp : NodePart = record q { kept = without kind.Ask 0 q.kept } in
        let v = goes_on env (tagged env nodes (work_of b s)) in
        let row = here-row env.epoch q b s at in
        cond_both (is_tag_awaited env number nodes q s) (node_turns env pp [] v) node.Drops Tags
        (λ t. turns-owes k w x n Front bytes was env pp [] v b row (does-owes k w x n Front bytes was (λ given. given.opened n bytes was) (node_rests env pp [] v)
        (λ given after warm late st st_is c_is up same.
        let home = is-here k w x given n env.epoch b row in
        absurd (tag-falls k.files x.part st home.0 n b env home.1 s nodes at.stays (and_parts _ _ t).0
        (still k.files x.part st home.0 n b env home.1 pp [] v same)))))
        (λ f. tag-dropped (ap (tagged_by env number nodes q) is ∙ cond-false (is_tag_awaited env number nodes q s) (node_turns env pp [] v) node.Drops f)))
        refl

  -- ---- a content

  module _ (from r : ℕ) (file bytes : List ℕ) (spells : SpellsMessage x.c epoch (body.Content r file) bytes) (was : Was x (Node from) (Node n) bytes) where
    abbrev Brings : node.NodeDeed → Type 0
    Brings deed = OwesBy k w x n (Node from) bytes was deed

    abbrev is_wanted : Bool
    is_wanted = is_from from env.epoch (find (is_under kind.Fetch r) q.fetches)

    wanted : NodeGiven k w x → (st : Station) (d : ℕ) → Near k.files (spot_of k.files x.part st) x.c (suc d) (record { from = Node from; to = Node n; bytes = bytes })
        → (b : ControlBlock) × (s : Stay) × (here env.epoch q ≡ Some (b, s)) × (is_wanted ≡ true)
    wanted given st d near =
        let t = spot_of k.files x.part st in
        let m : NearAside k.files t (suc d) from n epoch (body.Content r file) = subst (OfMessage (λ (m : Message). NearAside k.files t (suc d) from n m.epoch.0 m.body)) spells near in
        let h = content-awaits k.files x.part st n epoch from r m.0 in
        let s = has-both given h.0 h.1 h.2 in
        (h.1, s.0, s.1, ap (λ (e : ℕ). is_from from e (find (is_under kind.Fetch r) q.fetches)) of.epoch_is ∙ h.3)

    content-dropped : node_content env q from r ≡ node.Drops → Brings node.Drops
    content-dropped e = drops-owes k w x n (Node from) bytes was (λ given st st_is d near.
        let h = wanted given st d near in
        turns-does env (record q { fetches = without kind.Fetch r q.fetches }) [] (goes_on env (came_for (come_progress from) r (work_of h.0 h.1)))
        (sym (ap (come_by env from r q) h.2 ∙ cond-true is_wanted _ node.Drops h.3) ∙ e))

    pub content-owes : Brings (node_content env q from r)
    content-owes = where-here env.epoch q (λ o. here env.epoch q ≡ o → Brings (come_by env from r q o))
        (λ is. content-dropped (ap (come_by env from r q) is))
        (λ b s at is.
        let row = here-row env.epoch q b s at in
        let pp : NodePart = record q { fetches = without kind.Fetch r q.fetches } in
        let v = goes_on env (came_for (come_progress from) r (work_of b s)) in
        cond_both is_wanted (node_turns env pp [] v) node.Drops Brings
        (λ t. turns-owes k w x n (Node from) bytes was env pp [] v b row (does-owes k w x n (Node from) bytes was (λ given. given.held n env.epoch b row)
        (node_rests env pp [] v)
        (λ given after warm late st st_is c_is up same.
        let home = is-here k w x given n env.epoch b row in
        absurd (content-falls k.files x.part st home.0 n b env home.1 s from r (awaited-some from env.epoch (find (is_under kind.Fetch r) q.fetches) t)
        (still k.files x.part st home.0 n b env home.1 pp [] v same)))))
        (λ f. content-dropped (ap (come_by env from r q) is ∙ cond-false is_wanted (node_turns env pp [] v) node.Drops f)))
        refl

  -- ---- what answers that a stay is over

  module _ (goes_back : Bool) (bytes : List ℕ) (spells : SpellsMessage x.c epoch (ack_body goes_back) bytes) (was : Was x Front (Node n) bytes) where
    abbrev Acks : node.NodeDeed → Type 0
    Acks deed = OwesBy k w x n Front bytes was deed

    near-told : (t : Spot) (d : ℕ) (g : Bool) → NearTold t x.c (suc d) n epoch (ack_body g) → t.telling n ≡ Some (epoch, g)
    near-told t d false h = h.0
    near-told t d true h = h.0

    ack-near : (st : Station) (d : ℕ) → Near k.files (spot_of k.files x.part st) x.c (suc d) (record { from = Front; to = Node n; bytes = bytes })
        → tells_over q ≡ Some (epoch, goes_back)
    unfolding spot_of
    ack-near st d near =
        let t = spot_of k.files x.part st in
        near-told t d goes_back (subst (OfMessage (λ (m : Message). NearTold t x.c (suc d) n m.epoch.0 m.body)) spells near)

    -- what it tells is what this answers
    told-over : (o : Option BackRow) (r : Option ℕ) (e : ℕ) → telling_by (tells_end o) r ≡ Some (e, goes_back) → (awaits_ack e o ≡ true) × (is_some r ≡ goes_back)
    told-over None r e is = absurd (let bad : ◌≡◌ {A = Option (ℕ × Bool)} None (Some (e, goes_back)) = is in cc)
    told-over (Some row) r e is = go row.stage is where
      none : ◌≡◌ {A = Option (ℕ × Bool)} None (Some (e, goes_back)) → ⊥
      none f = cc

      first : (a b : ℕ) → a ≡ b → ((a == b) && true) ≡ true
      first a b s = grind (arith, nat_tests, s)

      go : (z : BackConn) → telling_by (telling z row.epoch.0) r ≡ Some (e, goes_back) → (((row.epoch.0 == e) && is_ended z) ≡ true) × (is_some r ≡ goes_back)
      go (back.Here b) f = absurd (none f)
      go back.Out f = absurd (none f)
      go back.Gone f = absurd (none f)
      go back.Ended f = let both : ◌≡◌ {A = ℕ × Bool} (row.epoch.0, is_some r) (e, goes_back) = cc in (first row.epoch.0 e (ap (λ p. p.0) both), ap (λ p. p.1) both)

    awaits : (e : ℕ) (p : NodePart) → awaits_ack e p.row ≡ true → is_some p.beside.returned ≡ goes_back → (e ≡ env.epoch) → awaits_told goes_back env p ≡ true
    awaits e p ack is same = go goes_back is where
      at : awaits_ack env.epoch p.row ≡ true
      at = ap (λ (i : ℕ). awaits_ack i p.row) (sym same) ∙ ack

      go : (g : Bool) → is_some p.beside.returned ≡ g → awaits_told g env p ≡ true
      go true f = ap (λ a. a && is_some p.beside.returned) at ∙ f
      go false f = ap (λ a. a && not (is_some p.beside.returned)) at ∙ ap not f

    -- behind it the node tells nothing
    gone-tells : (o : Option BackRow) (r : Option ℕ) → telling_by (tells_end (gone o)) r ≡ None
    gone-tells None r = refl
    gone-tells (Some row) r = refl

    after-tells : (st : Station) (kept : List Kept) → spot_of k.files (with_node x.part n (record q { row = gone q.row; kept = kept })) st ≡ spot_of k.files x.part st
        → None ≡ tells_over q
    unfolding spot_of
    after-tells st kept same =
        let r : NodePart = record q { row = gone q.row; kept = kept } in
        let t : tells_over (node_put_back x.part.nodes n r n) ≡ tells_over q = ap (λ (s : Spot). s.telling n) same in
        sym (ap tells_over (put-there x.part.nodes n r) ∙ gone-tells q.row q.beside.returned) ∙ t

    pub acknowledged-owes : Acks (node_acknowledged env goes_back q)
    acknowledged-owes =
        cond_both (awaits_told goes_back env q) (node.Does (record q { row = gone q.row; kept = without (told_kind goes_back) 0 q.kept }, node_saying [])) node.Drops Acks
        (λ t. does-owes k w x n Front bytes was (λ given. given.opened n bytes was)
        (record q { row = gone q.row; kept = without (told_kind goes_back) 0 q.kept }, node_saying []) (λ given after warm late st st_is c_is up same. record {
          shorter = tt;
          leads = λ d near. absurd (let bad : ◌≡◌ {A = Option (ℕ × Bool)} None (Some (epoch, goes_back)) =
              after-tells st (without (told_kind goes_back) 0 q.kept) same ∙ ack-near st d near in cc);
        }))
        (λ f. drops-owes k w x n Front bytes was (λ given st st_is d near.
        let told = told-over q.row q.beside.returned epoch (ack-near st d near) in
        let bad : true ≡ false = sym (awaits epoch q told.0 told.1 (sym of.epoch_is)) ∙ f in cc))
