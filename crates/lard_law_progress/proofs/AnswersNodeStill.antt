-- A node's turn behind which the spot is as it was: the connection is still here, what is awaited is the same, and no message was sent.
-- So a Tag that counts, and a content, is a unit.
use Rattle.std.proofs.Common.{◌≡◌, ◌<◌, ◌≤◌, ◌+◌, ℕ, Bool, true, List, [], ◌++◌, length, is_some, Option, Some, None, ⊎_elim, refl, sym, ap, ◌∙◌, arith}
use Rattle.std.specs.List.{find}
use Rattle.std.proofs.lemmas.List.{append-nil}
use Rattle.lard_law_view.specs.Prelude.{Asked, ClientBlock, ControlBlock, Ending, FilesAt, Final, Kept, NodeEnv, NodePart, Part, Place, Station, Stay, Want, Work, asked_kept, asked_sent, came_for, come_progress, ended_sent, front_rest, goes_on, is_under, kept_after, kept_back, node_rests, serving_settled, speaks, tagged, wants_kept, wants_sent, with_node, without, work_of}
use Rattle.lard_base.specs.declared.place.TimerKind.TheVariants as kind
use Rattle.lard_bound.specs.Seats.{Here, seat_of, seat_over_by, stay_of, staying_of}
use Rattle.lard_bound.specs.Spots.{AtNode, Awaits, EndpointSymbols, GaveBack, Post, Spot, awaits_of, ends_of, post_of, spot_of}
use Rattle.lard_law_progress.proofs.AnswersNodeAsks.{Asks, goes-asks}
use Rattle.lard_law_progress.proofs.AnswersNodeSeats.{IsHere, here-seat}
use Rattle.lard_law_progress.proofs.Away.{away-here, away-over, by-ending, seat-put}
use Rattle.lard_law_progress.proofs.Coming.{came-on, content-comes, tagged-on, without-fewer}
use Rattle.lard_rules.specs.declared.places.Ending.TheVariants as ending

-- what a post has of a node's stay
abbrev pub ends_or : EndpointSymbols → Post → EndpointSymbols
ends_or z (AtNode told n e ends a) = ends
ends_or z _ = z

abbrev pub awaits_or : Awaits → Post → Awaits
awaits_or z (AtNode told n e ends a) = a
awaits_or z _ = z

pub post-is : (files : FilesAt) (p : Part) (st : Station) → (spot_of files p st).post ≡ post_of files st.client (seat_of p)
unfolding spot_of
post-is files p st = refl

module _ (files : FilesAt) (p : Part) (st : Station) (told : Bool) (n : ℕ) (b : ControlBlock) (env : NodeEnv) (h : IsHere p told n env.epoch b) where
  abbrev x : ClientBlock
  x = st.client

  abbrev q : NodePart
  q = p.nodes n

  module _ (pp : NodePart) (before : List (Place × List ℕ)) (w : Work) where
    -- the endpoint that is still here said what it may
    abbrev pub left_here : ControlBlock
    left_here = (speaks env.serve.c w.service.block).1

    pub record Still : Type 0 where
      pub none : w.service.over ≡ None
      pub ends_here : (serving_settled env.serve w.service).0 ≡ ending.Here left_here w.service.count
      pub ends : ends_of x left_here ≡ ends_of x b
      pub awaits : awaits_of files (staying_of (kept_after env pp w (ending.Here left_here w.service.count))) ≡ awaits_of files (staying_of q)

    abbrev put : Ending → Part
    put o = with_node p n (kept_after env pp w o)

    abbrev IsPost : Post → Type 0
    IsPost z = z ≡ AtNode told n env.epoch (ends_of x b) (awaits_of files (staying_of q))

    here-post : (d : ControlBlock) (count : ℕ) → post_of files x (seat_of (put (ending.Here d count))) ≡ AtNode told n env.epoch (ends_of x d) (awaits_of files (staying_of (kept_after env pp w (ending.Here d count))))
    here-post d count =
        let after = kept_after env pp w (ending.Here d count) in
        ap (post_of files x) (seat-put p n env.epoch told h.front after h.row h.with_ ∙ away-here told n env.epoch (front_rest p.front.rest).count after d refl)

    over-post : (last : Final) → IsPost (post_of files x (seat_of (put (ending.Over last)))) → ⊥
    over-post last post =
        let after = kept_after env pp w (ending.Over last) in
        over-apart told n env.epoch after.beside.returned
        (sym (ap (post_of files x) (seat-put p n env.epoch told h.front after h.row h.with_
        ∙ away-over told n env.epoch (front_rest p.front.rest).count after refl)) ∙ post)
      where
        over-apart : (t : Bool) (m e : ℕ) (o : Option ℕ) → IsPost (post_of files x (seat_over_by t m e o)) → ⊥
        over-apart t m e None f = cc
        over-apart t m e (Some served) f = cc

    pub still : spot_of files (with_node p n (node_rests env pp before w).0) st ≡ spot_of files p st → Still
    still same =
        let was : IsPost (post_of files x (seat_of p)) = ap (post_of files x) (here-seat p told n env.epoch b h) in
        let now : IsPost (post_of files x (seat_of (put (serving_settled env.serve w.service).0))) =
        sym (post-is files (put (serving_settled env.serve w.service).0) st) ∙ ap (λ (s : Spot). s.post) same ∙ post-is files p st ∙ was in
        by-ending env.serve w.service (λ o. (serving_settled env.serve w.service).0 ≡ o → IsPost (post_of files x (seat_of (put o))) → Still)
        (λ none is post.
        let d = left_here in
        let both = sym (here-post d w.service.count) ∙ post in
        record { none = none; ends_here = is; ends = ap (ends_or (ends_of x d)) both; awaits = ap (awaits_or (awaits_of files (staying_of (kept_after env pp w (ending.Here d w.service.count))))) both })
        (λ last is post. absurd (over-post last post))
        refl now

    -- where it sits then
    pub still-seat : Still → seat_of (with_node p n (node_rests env pp before w).0) ≡ Here told n env.epoch left_here (staying_of (kept_after env pp w (ending.Here left_here w.service.count)))
    still-seat s =
        let after = kept_after env pp w (ending.Here left_here w.service.count) in
        ap (λ (o : Ending). seat_of (put o)) s.ends_here ∙ seat-put p n env.epoch told h.front after h.row h.with_ ∙ away-here told n env.epoch (front_rest p.front.rest).count after left_here refl

    -- ---- what is sent then

    -- no Ask, where its number would have gone on
    pub unasked : (a : Work) → a.asked ≡ None → Asks a w → w.asks ≡ a.asks → w.asked ≡ None
    unasked a none asks same = ⊎_elim (λ (e : w.asked ≡ a.asked). e ∙ none) (λ (l : a.asks < w.asks). absurd (omega (arith, l, same))) asks.asked

    pub no-message : Still → w.asked ≡ None → w.wants ≡ [] → (node_rests env pp before w).1.messages ≡ before
    no-message s asked wants =
        let a : asked_sent env w.asked ≡ [] = ap (asked_sent env) asked in
        let c : wants_sent env w.wants ≡ [] = ap (wants_sent env) wants in
        let e : ended_sent env w.service.over (serving_settled env.serve w.service).0 ≡ [] = ap (ended_sent env w.service.over) s.ends_here in
        (λ i. ((before ++ a i) ++ c i) ++ e i) ∙ append-nil ((before ++ []) ++ []) ∙ append-nil (before ++ []) ∙ append-nil before

  -- where it is given back, it is somewhere else
  pub back-moves : (pp : NodePart) (w : Work) → spot_of files (with_node p n (kept_back env pp w)) st ≡ spot_of files p st → ⊥
  back-moves pp w same =
      let after = kept_back env pp w in
      let was : post_of files x (seat_of p) ≡ AtNode told n env.epoch (ends_of x b) (awaits_of files (staying_of q)) = ap (post_of files x) (here-seat p told n env.epoch b h) in
      let now : post_of files x (seat_of (with_node p n after)) ≡ GaveBack told n env.epoch =
      ap (post_of files x) (seat-put p n env.epoch told h.front after h.row h.with_ ∙ away-over told n env.epoch (front_rest p.front.rest).count after refl) in
      let bad : GaveBack told n env.epoch ≡ AtNode told n env.epoch (ends_of x b) (awaits_of files (staying_of q)) =
      sym now ∙ sym (post-is files (with_node p n after) st) ∙ ap (λ (s : Spot). s.post) same ∙ post-is files p st ∙ was in cc

  -- ---- what comes for a request

  shorter-is : (r : ℕ) (ks : List Kept) → length ks + 1 ≤ r → length ks ≡ r → ⊥
  shorter-is r ks l e = omega (arith, l, e)

  pub tag-falls : (s : Stay) (nodes : List ℕ) → q.stay ≡ Some s → is_some (find (is_under kind.Ask 0) q.kept) ≡ true
      → Still (record q { kept = without kind.Ask 0 q.kept }) [] (goes_on env (tagged env nodes (work_of b s))) → ⊥
  tag-falls s nodes stay asked h =
      let w0 = tagged env nodes (work_of b s) in
      let w = goes_on env w0 in
      let pp : NodePart = record q { kept = without kind.Ask 0 q.kept } in
      let t = tagged-on env q.fetches nodes (work_of b s) in
      let asks : w.asks ≡ s.asks = ap (λ (a : Awaits). a.asks) h.awaits ∙ ap (λ (o : Option Stay). (stay_of o).asks) stay in
      let none : w.asked ≡ None = unasked pp [] w w0 t.5 (goes-asks env w0) (asks ∙ sym t.6) in
      let kept : asked_kept env w.asked (without kind.Ask 0 q.kept) ≡ q.kept = ap (λ (a : Awaits). a.kept) h.awaits in
      let few : length (without kind.Ask 0 q.kept) + 1 ≤ length q.kept = without-fewer kind.Ask 0 q.kept asked in
      let is : without kind.Ask 0 q.kept ≡ q.kept = sym (ap (λ (o : Option Asked). asked_kept env o (without kind.Ask 0 q.kept)) none) ∙ kept in
      shorter-is (length q.kept) (without kind.Ask 0 q.kept) few (ap (λ (ks : List Kept). length ks) is)

  pub content-falls : (s : Stay) (from r : ℕ) → is_some (find (is_under kind.Fetch r) q.fetches) ≡ true
      → Still (record q { fetches = without kind.Fetch r q.fetches }) [] (goes_on env (came_for (come_progress from) r (work_of b s))) → ⊥
  content-falls s from r wanted h =
      let w0 = came_for (come_progress from) r (work_of b s) in
      let w = goes_on env w0 in
      let t = came-on (come_progress from) (content-comes from) r (work_of b s) in
      let g = goes-asks env w0 in
      let wants : w.wants ≡ [] = g.wants ∙ t.3 in
      let fetches : wants_kept env w.wants (without kind.Fetch r q.fetches) ≡ q.fetches = ap (λ (a : Awaits). a.fetches) h.awaits in
      let few : length (without kind.Fetch r q.fetches) + 1 ≤ length q.fetches = without-fewer kind.Fetch r q.fetches wanted in
      let is : without kind.Fetch r q.fetches ≡ q.fetches = sym (ap (λ (ws : List Want). wants_kept env ws (without kind.Fetch r q.fetches)) wants) ∙ fetches in
      shorter-is (length q.fetches) (without kind.Fetch r q.fetches) few (ap (λ (ks : List Kept). length ks) is)
