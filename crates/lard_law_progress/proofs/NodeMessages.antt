-- Each rule of a node, by what it comes to: nothing that is left to do comes back.
use Rattle.std.proofs.Common.{◌≡◌, ◌⊎◌, ◌≤◌, ◌+◌, ◌==◌, ◌&&◌, nat_lt, ℕ, Bool, true, false, cond, List, [], length, is_some, Option, Some, None, inl, inr, ⊎_elim, refl, sym, ap, ◌∙◌, subst, arith}
use Rattle.std.specs.List.{find}
use Rattle.std.proofs.lemmas.Bool.{and_parts, both_ways, cond-false, cond-true, cond_both, eq-eqb, eqb-true}
use Rattle.lard_law_view.specs.Prelude.{Adopt, BackConn, BackRow, ClientBlock, ControlBlock, Ending, EndpointParts, Epoch, FilesAt, FrontConn, FrontRow, NodeDeed, NodeEnv, NodeGets, NodePart, Part, Said, ServeEnv, Service, Station, Stay, Work, after_timer, awaits_ack, back_held, came_for, come_progress, front_rest, gives_back, goes_on, gone, is_ended, is_from, is_gone, is_under, kept_after, kept_refused, may_give_back, node_fired_by, node_put_back, node_rule, node_saying, offer_answer, offer_decision, offered_by, on_segment, read_progress, refused_sent, serving_settled, speaks, tagged, told_kind, with_node, without, work_of}
use Rattle.lard_base.specs.declared.place.TimerKind.{TimerKind}
use Rattle.lard_base.specs.declared.place.TimerKind.TheVariants as kind
use Rattle.lard_bound.specs.Progress.{IsWarmSegment, IsWarmWord}
use Rattle.lard_bound.specs.Seats.{Here, Offered, Refused, SeatNow, seat_away, seat_by, seat_decided, seat_in, seat_of, seat_over, seat_over_by, seat_there, seat_untaken, stay_of, staying_of, telling, tells_end}
use Rattle.lard_bound.specs.Units.{Whole, may_return, may_return_by, symbols_taken}
use Rattle.lard_handoff_back.specs.declared.row.BackConn.TheVariants as back
use Rattle.lard_handoff_back.specs.declared.table.Adopt.TheVariants.{Again, New, Refuse, Stale}
use Rattle.lard_handoff_back.specs.Leaving.{exceeds, is_free, is_new_epoch, is_this_epoch, row_epoch}
use Rattle.lard_handoff_back.specs.Table.{Beside}
use Rattle.lard_handoff_front.specs.declared.row.FrontConn.TheVariants as stage
use Rattle.lard_rules.specs.Node as node
use Rattle.lard_rules.specs.Node.{Does}
use Rattle.lard_rules.proofs.NodeCases.{IsHereWith, IsOfItsEpoch, KeptByNode, Turned, node-keeps}
use Rattle.lard_law_progress.proofs.Away.{Fits, away-here, by-ending, here-row, seat-put, seat-with, tells, token-nine, token-none}
use Rattle.lard_law_progress.proofs.Coming.{awaited-some}
use Rattle.lard_law_progress.proofs.Given.{IsAt, IsNewOffer, IsUnseen, SeatKnown}
use Rattle.lard_law_progress.proofs.Handing.{acknowledged-less, over-there, refused-less}
use Rattle.lard_law_progress.proofs.Less.{Lasting}
use Rattle.lard_law_progress.proofs.NodeRules as rules
use Rattle.lard_law_progress.proofs.NodeRules.{content-lasts, forwarded-lasts, left-lasts, offered-lasts, read-lasts, tagged-lasts, taking, timer-lasts}
use Rattle.lard_law_progress.proofs.Seating.{NodeLasts}
use Rattle.lard_rules.specs.declared.places.Ending.TheVariants as ending

-- ---- a connection is here

-- what is still here served as many as were counted
ending-count : (env : ServeEnv) (s : Service) (d : ControlBlock) (count : ℕ) → (serving_settled env s).0 ≡ ending.Here d count → count ≡ s.count
ending-count env s d count = by-ending env s (λ (o : Ending). o ≡ ending.Here d count → count ≡ s.count)
    (λ none e. let is : ◌≡◌ {A = Ending} (ending.Here (speaks env.c s.block).1 s.count) (ending.Here d count) = e in cc)
    (λ last e. absurd (let bad : ◌≡◌ {A = Ending} (ending.Over last) (ending.Here d count) = e in cc))

-- ---- the stages of a node

gone-tells : (s : BackConn) (e : ℕ) → is_gone s ≡ true → telling s e ≡ None
gone-tells back.Gone e t = refl
gone-tells (back.Here b) e t = refl
gone-tells back.Out e t = refl
gone-tells back.Ended e t = absurd (let bad : false ≡ true = t in cc)

ended-tells : (s : BackConn) (e : ℕ) → is_ended s ≡ true → telling s e ≡ Some e
ended-tells back.Ended e t = refl
ended-tells _ e t = absurd (let bad : false ≡ true = t in cc)

ended-holds : (s : BackConn) → is_ended s ≡ true → is_some (back_held s) ≡ false
ended-holds back.Ended t = refl
ended-holds _ t = absurd (let bad : false ≡ true = t in cc)

ended-there : (told : Bool) (n e count : ℕ) (q : NodePart) (s : BackConn) → is_ended s ≡ true → seat_there told n e count q s ≡ seat_over told n e q
ended-there told n e count q back.Ended t = refl
ended-there told n e count q _ t = absurd (let bad : false ≡ true = t in cc)

-- an Offer that is new to its node was not decided, and the node tells no end
pub new-row : (n e count : ℕ) (q : NodePart) (o : Option BackRow) → is_this_epoch e q.beside.refused ≡ false → offer_answer e o ≡ New
    → (seat_decided false n e count q o ≡ Offered n e count) × (◌≡◌ {A = ℕ} (cond (is_some (tells_end o)) 1 0) 0)
new-row n e count q o unrefused = by o where
  untaken : seat_untaken n e count q ≡ Offered n e count
  untaken = cond-false (is_this_epoch e q.beside.refused) (Refused n e count) (Offered n e count) unrefused

  by : (o : Option BackRow) → offer_answer e o ≡ New → (seat_decided false n e count q o ≡ Offered n e count)
      × (◌≡◌ {A = ℕ} (cond (is_some (tells_end o)) 1 0) 0)
  by None is = (untaken, refl)
  by (Some r) is = go (r.epoch.0 == e) refl is where
    left : (g : Bool) → (nat_lt r.epoch.0 e && is_gone r.stage) ≡ g → cond g New Stale ≡ New → is_gone r.stage ≡ true
    left true t h = (and_parts (nat_lt r.epoch.0 e) (is_gone r.stage) t).1
    left false t h = absurd (let bad : Stale ≡ New = h in cc)

    go : (b : Bool) → (r.epoch.0 == e) ≡ b → cond b Again (cond (nat_lt r.epoch.0 e && is_gone r.stage) New Stale) ≡ New
        → (cond b (seat_there false n e count q r.stage) (seat_untaken n e count q) ≡ Offered n e count)
        × (◌≡◌ {A = ℕ} (cond (is_some (telling r.stage r.epoch.0)) 1 0) 0)
    go true t h = absurd (let bad : Again ≡ New = h in cc)
    go false t h = (
      untaken,
      ap (λ (o : Option ℕ). cond {A = ℕ} (is_some o) 1 0)
          (gone-tells r.stage r.epoch.0 (left (nat_lt r.epoch.0 e && is_gone r.stage) refl h)),
    )

-- An Offer is refused by a node that leaves, where it is new, or where it was refused before.
decision-refuse : (leaving : Bool) (e : ℕ) (row : Option BackRow) (b : Beside) → offer_decision leaving e row b ≡ Refuse
    → ((leaving ≡ true) × (is_new_epoch e row b ≡ true)) ⊎ (is_this_epoch e b.refused ≡ true)
decision-refuse leaving e row b =
    let again : Bool = is_this_epoch e b.refused && exceeds e (row_epoch row) in
    let known : Adopt = cond (is_this_epoch e (row_epoch row) && exceeds e b.refused) Again Stale in
    cond_both (is_new_epoch e row b) (cond leaving Refuse (cond (is_free row) New Stale)) (cond again Refuse known) Refused_
    (λ new. cond_both leaving Refuse (cond (is_free row) New Stale) Refused_ (λ t is. inl (t, new)) (λ f. cond_both (is_free row) New Stale Refused_ (λ t is. absurd cc) (λ t is. absurd cc)))
    (λ old. cond_both again Refuse known Refused_ (λ t is. inr (and_parts (is_this_epoch e b.refused) (exceeds e (row_epoch row)) t).0)
    (λ f. cond_both (is_this_epoch e (row_epoch row) && exceeds e b.refused) Again Stale Refused_ (λ t is. absurd cc) (λ t is. absurd cc)))
  where
    Refused_ : Adopt → Type 0
    Refused_ a = a ≡ Refuse → ((leaving ≡ true) × (is_new_epoch e row b ≡ true)) ⊎ (is_this_epoch e b.refused ≡ true)

-- what was refused in this epoch stays so
refused-same : (env : NodeEnv) (q : NodePart) → is_this_epoch env.epoch q.beside.refused ≡ true → kept_refused env q ≡ q
refused-same env q is = go q.beside.refused refl is where
  go : (o : Option Epoch) → q.beside.refused ≡ o → is_this_epoch env.epoch o ≡ true → kept_refused env q ≡ q
  go None at t = absurd (both_ways false refl t)
  go (Some d) at t =
      let same : Some (record { 0 = env.epoch }) ≡ q.beside.refused = (λ i. Some (record { 0 = sym (eqb-true d.0 env.epoch t) i })) ∙ sym at in
      λ i. record q { beside = record q.beside { refused = same i } }

module _ (w : Whole) (K : ℕ) (files : FilesAt) (p : Part) (st : Station) (n : ℕ) (env : NodeEnv) (leaves : env.leaving ≡ w.leaving n) where
  abbrev x : ClientBlock
  x = st.client

  abbrev q : NodePart
  q = p.nodes n

  abbrev Owes : node.NodeDeed → Type 0
  Owes d = NodeLasts w K files p st n d

  abbrev Behind : NodePart → Type 0
  Behind f = SeatKnown w x (seat_of (with_node p n f))

  -- ---- a connection that is here

  module _ (known : SeatKnown w x (seat_of p)) (heard_all : symbols_taken x ≤ w.answers + 2)
      (homes : (b : ControlBlock) → q.row ≡ Some (record { stage = back.Here b; epoch = record { 0 = env.epoch } }) → IsAt p.front n env.epoch)
      (unreturned : (b : ControlBlock) → q.row ≡ Some (record { stage = back.Here b; epoch = record { 0 = env.epoch } }) → q.beside.returned ≡ None)
      (there : (row : BackRow) → q.row ≡ Some row → (1 ≤ n) × (n ≤ K)) where
    module _ (b : ControlBlock) (s : Stay) (here : IsHereWith env.epoch q b s) where
      is : q.row ≡ Some (record { stage = back.Here b; epoch = record { 0 = env.epoch } })
      is = here-row env.epoch q b s here

      at : IsAt p.front n env.epoch
      at = homes b is

      sits : seat_of p ≡ Here at.told n env.epoch b (staying_of q)
      sits = seat-with p n env.epoch at.told at.row at.front at.with_ ∙ away-here at.told n env.epoch (front_rest p.front.rest).count q b is

      knows : SeatKnown w x (Here at.told n env.epoch b (staying_of q))
      knows = subst (SeatKnown w x) sits known

      -- what is known behind a turn, where it is still here
      fits : (pp : NodePart) (v : Work) → Behind (kept_after env pp v (serving_settled env.serve v.service).0) → (d : ControlBlock) (count : ℕ) → (serving_settled env.serve v.service).0 ≡ ending.Here d count
          → Fits w K files p st n at.told at.row b env at.front at.with_ is knows.0 d v
      fits pp v behind d count same =
          let z : NodePart = kept_after env pp v (ending.Here d count) in
          let there : seat_of (with_node p n z) ≡ Here at.told n env.epoch d (staying_of z) = seat-put p n env.epoch at.told at.row z at.front at.with_ ∙ away-here at.told n env.epoch (front_rest p.front.rest).count z d refl in
          let now : seat_of (with_node p n (kept_after env pp v (serving_settled env.serve v.service).0)) ≡ Here at.told n env.epoch d (staying_of z) = ap (λ (o : Ending). seat_of (with_node p n (kept_after env pp v o))) same ∙ there in
          let h : SeatKnown w x (Here at.told n env.epoch d (staying_of z)) = subst (SeatKnown w x) now behind in
          let c = ending-count env.serve v.service d count same in
          let few : count + length v.batch ≤ w.requests = h.1 in
          record { acked = h.0; taken_in = heard_all; few = omega (arith, few, c) }

      -- what is so with the stay that is kept is so with this one
      with-stay : (P : Stay → Type 0) → P (stay_of q.stay) → P s
      with-stay P = subst P (ap stay_of here.stays)

      -- a turn ends: the connection rests, or goes back
      abbrev Turns : NodePart → Work → Type 0
      Turns pp v = Turned Owes env pp [] v

      abbrev Ended : NodePart → Work → Type 0
      Ended pp v = rules.Ends w K files p st n at.told at.row b env at.front at.with_ is knows.0 (unreturned b is) leaves (there _ is) pp v

      ends-so : (pp : NodePart) (v : Work) → Ended pp v → Turns pp v
      ends-so pp v h = (λ rests behind. h.0 (fits pp v behind), λ back behind. h.1 back)

      heard-here : (said : Said) → IsWarmWord x said x.phase → Turns q (goes_on env (work_of (on_segment b said).1 s))
      heard-here said warm = with-stay (λ t. Turns q (goes_on env (work_of (on_segment b said).1 t)))
          (ends-so q (goes_on env (work_of (on_segment b said).1 (stay_of q.stay)))
          (forwarded-lasts w K files p st n at.told at.row b env at.front at.with_ is knows.0 (unreturned b is) leaves (there _ is) said warm knows.2))

      tagged-here : (nodes : List ℕ) → is_some (find (is_under kind.Ask 0) q.kept) ≡ true
          → Turns (record q { kept = without kind.Ask 0 q.kept }) (goes_on env (tagged env nodes (work_of b s)))
      tagged-here nodes asked = with-stay (λ t. Turns (record q { kept = without kind.Ask 0 q.kept }) (goes_on env (tagged env nodes (work_of b t))))
          (ends-so (record q { kept = without kind.Ask 0 q.kept }) (goes_on env (tagged env nodes (work_of b (stay_of q.stay))))
          (tagged-lasts w K files p st n at.told at.row b env at.front at.with_ is knows.0 (unreturned b is) leaves (there _ is) nodes asked))

      come-here : (from r : ℕ) → is_from from env.epoch (find (is_under kind.Fetch r) q.fetches) ≡ true
          → Turns (record q { fetches = without kind.Fetch r q.fetches }) (goes_on env (came_for (come_progress from) r (work_of b s)))
      come-here from r wanted = with-stay (λ t. Turns (record q { fetches = without kind.Fetch r q.fetches }) (goes_on env (came_for (come_progress from) r (work_of b t))))
          (ends-so (record q { fetches = without kind.Fetch r q.fetches }) (goes_on env (came_for (come_progress from) r (work_of b (stay_of q.stay))))
          (content-lasts w K files p st n at.told at.row b env at.front at.with_ is knows.0 (unreturned b is) leaves (there _ is) from r
          (awaited-some from env.epoch (find (is_under kind.Fetch r) q.fetches) wanted)))

      read-here : (r : ℕ) → Turns q (goes_on env (came_for read_progress r (work_of b s)))
      read-here r = with-stay (λ t. Turns q (goes_on env (came_for read_progress r (work_of b t))))
          (ends-so q (goes_on env (came_for read_progress r (work_of b (stay_of q.stay))))
          (read-lasts w K files p st n at.told at.row b env at.front at.with_ is knows.0 (unreturned b is) leaves (there _ is) r))

      fired-here : Owes (node_fired_by env q (Some (b, s)))
      fired-here = with-stay (λ t. Owes (node_fired_by env q (Some (b, t))))
          (λ behind. timer-lasts w K files p st n at.told at.row b env at.front at.with_ is knows.0 (unreturned b is) leaves (there _ is) []
          (fits q (work_of (after_timer b) (stay_of q.stay)) behind))

      -- the node leaves
      left-here : may_give_back env (work_of b s) ≡ true → Owes (gives_back env q [] (work_of b s))
      left-here = with-stay (λ t. may_give_back env (work_of b t) ≡ true → Owes (gives_back env q [] (work_of b t)))
          (λ back behind. left-lasts w K files p st n at.told at.row b env at.front at.with_ is knows.0 (unreturned b is) leaves (there _ is) back)

  -- ---- an Offer that is new

  adopts : (parts : EndpointParts) → offer_answer env.epoch q.row ≡ New → env.leaving ≡ false → IsNewOffer p x n env.epoch parts → Owes (offered_by env parts q New)
  adopts parts new stays o behind =
      let v = taking env parts in
      let count = (front_rest p.front.rest).count in
      let free = new-row n env.epoch count q q.row o.unrefused new in
      let offered : seat_of p ≡ Offered n env.epoch count = seat-with p n env.epoch false o.row o.front o.with_ ∙ free.0 in
      let E : Ending → Type 0 = λ e. (serving_settled env.serve v.service).0 ≡ e → Behind (kept_after env q v e) → Lasting w K files p st (with_node p n (kept_after env q v (serving_settled env.serve v.service).0)) st in
      by-ending env.serve v.service E
      (λ none same there. offered-lasts w K files p st n o.row env o.front o.with_ offered free.1 (sym leaves ∙ stays) o.unreturned parts o.kept o.fetches o.served o.una
      (λ none.
      let d = (speaks env.serve.c v.service.block).1 in
      let z : NodePart = kept_after env q v (ending.Here d v.service.count) in
      let now : seat_of (with_node p n z) ≡ Here false n env.epoch d (staying_of z) = seat-put p n env.epoch false o.row z o.front o.with_ ∙ away-here false n env.epoch count z d refl in
      let h : SeatKnown w x (Here false n env.epoch d (staying_of z)) = subst (SeatKnown w x) now there in
      h.1))
      (λ last same there. over-there w K files p st n o.row env o.front o.with_ offered free.1 (sym leaves ∙ stays) (kept_after env q v (serving_settled env.serve v.service).0)
      (ap (λ (e : Ending). (kept_after env q v e).row) same) (ap (λ (e : Ending). (kept_after env q v e).beside.returned) same ∙ o.unreturned))
      refl behind

  -- ---- the end of its stay is known

  -- the connection is where it was
  module _ (row : BackRow) (z : NodePart) (was : q.row ≡ Some row) (ended : is_ended row.stage ≡ true)
      (now : z.row ≡ Some (record row { stage = back.Gone })) (same_beside : z.beside ≡ q.beside) where
    same-away : (told : Bool) (m e count : ℕ) → seat_away told m e count (node_put_back p.nodes n z m) ≡ seat_away told m e count (p.nodes m)
    same-away told m e count = cond_both (m == n) z (p.nodes m) (λ (y : NodePart). seat_away told m e count y ≡ seat_away told m e count (p.nodes m))
        (λ t.
        let a : seat_away told m e count z ≡ cond (row.epoch.0 == e) (seat_over told m e q) (seat_untaken m e count q) =
        ap (seat_decided told m e count z) now ∙ ap (λ (b : Beside). cond (row.epoch.0 == e) (seat_over_by told m e b.returned)
        (cond (is_this_epoch e b.refused) (Refused m e count) (Offered m e count))) same_beside in
        let b : seat_away told m e count (p.nodes m) ≡ seat_away told m e count q = ap (λ i. seat_away told m e count (p.nodes i)) (eqb-true m n t) in
        let c : seat_away told m e count q ≡ cond (row.epoch.0 == e) (seat_there told m e count q row.stage) (seat_untaken m e count q) = ap
        (seat_decided told m e count q) was in
        let d : cond (row.epoch.0 == e) (seat_there told m e count q row.stage) (seat_untaken m e count q) ≡ cond (row.epoch.0 == e) (seat_over told m e q)
        (seat_untaken m e count q) =
        ap (λ (s : SeatNow). cond (row.epoch.0 == e) s (seat_untaken m e count q)) (ended-there told m e count q row.stage ended) in
        a ∙ sym (b ∙ c ∙ d))
        (λ t. refl)

    same-stage : (s : FrontConn) → seat_in p.front (node_put_back p.nodes n z) s ≡ seat_in p.front p.nodes s
    same-stage (stage.Offering m d) = same-away false m d.0 (front_rest p.front.rest).count
    same-stage (stage.Moved m d) = same-away true m d.0 (front_rest p.front.rest).count
    same-stage _ = refl

    same-seat : seat_of (with_node p n z) ≡ seat_of p
    unfolding seat_of
    same-seat = go p.front.row where
      go : (o : Option FrontRow) → seat_by p.front (node_put_back p.nodes n z) o ≡ seat_by p.front p.nodes o
      go None = refl
      go (Some r) = same-stage r.stage

    acknowledges : 1 ≤ n → n ≤ K → Lasting w K files p st (with_node p n z) st
    acknowledges some within =
        let told : tells q ≡ 1 = ap (λ (o : Option BackRow). cond {A = ℕ} (is_some (tells_end o)) 1 0) was ∙ ap (λ (o : Option ℕ). cond {A = ℕ} (is_some o) 1 0) (ended-tells row.stage row.epoch.0 ended) in
        let quiet : tells z ≡ 0 = ap (λ (o : Option BackRow). cond {A = ℕ} (is_some (tells_end o)) 1 0) now in
        let over : may_return q ≡ false = ap (λ (o : Option BackRow). may_return_by o q.beside.refused) was ∙ ended-holds row.stage ended in
        let gone_ : may_return z ≡ false = ap (λ (o : Option BackRow). may_return_by o z.beside.refused) now in
        acknowledged-less w K files p st n z (seat_of p) refl same-seat some within told quiet (token-none w.leaving n z gone_ ∙ sym (token-none w.leaving n q over))

  gone-lasts : (k : TimerKind) → ((row : BackRow) → q.row ≡ Some row → (1 ≤ n) × (n ≤ K)) → awaits_ack env.epoch q.row ≡ true
      → Owes (Does (record q { row = gone q.row; kept = without k 0 q.kept }, node_saying []))
  gone-lasts k there t behind = go q.row refl t where
    go : (o : Option BackRow) → q.row ≡ o → awaits_ack env.epoch o ≡ true → Lasting w K files p st (with_node p n (record q { row = gone q.row; kept = without k 0 q.kept })) st
    go None at t = absurd (let bad : false ≡ true = t in cc)
    go (Some row) at t = let in_ = there row at in acknowledges row (record q { row = gone q.row; kept = without k 0 q.kept }) at
        (and_parts _ _ t).1 (ap gone at) refl in_.0 in_.1

  -- ---- it is refused again

  put-same : (m : ℕ) → node_put_back p.nodes n q m ≡ p.nodes m
  put-same m = go (m == n) refl where
    go : (b : Bool) → (m == n) ≡ b → cond b q (p.nodes m) ≡ p.nodes m
    go true e = ap p.nodes (sym (eqb-true m n e))
    go false e = refl

  refuses-again : is_this_epoch env.epoch q.beside.refused ≡ true → Owes (Does (kept_refused env q, node_saying (refused_sent env)))
  refuses-again is behind = subst (λ (y : NodePart). Lasting w K files p st (with_node p n y) st) (sym (refused-same env q is))
      (subst (λ (z : Part). Lasting w K files p st z st) (λ i. record { station = p.station; front = p.front; nodes = λ m. sym (put-same m) i })
      (record { less = omega arith; steady = λ up. refl }))

  -- ---- it is refused: the node leaves

  refuses : env.leaving ≡ true → IsUnseen K p n env.epoch → Owes (Does (kept_refused env q, node_saying (refused_sent env)))
  refuses leaving o behind =
      let count = (front_rest p.front.rest).count in
      let z = kept_refused env q in
      let was : seat_of p ≡ Offered n env.epoch count = seat-with p n env.epoch false o.row o.front o.with_
      ∙ (λ i. seat_decided false n env.epoch count (record q { beside = record q.beside { refused = o.open_ i } }) (o.none i)) in
      let now : seat_of (with_node p n z) ≡ Refused n env.epoch count = seat-put p n env.epoch false o.row z o.front o.with_
      ∙ ap (seat_decided false n env.epoch count z) o.none ∙ cond-true (env.epoch == env.epoch) (Refused n env.epoch count) (Offered n env.epoch count) (eq-eqb env.epoch env.epoch refl) in
      let nine = token-nine w.leaving n q (sym leaves ∙ leaving) (λ i. may_return_by (o.none i) (o.open_ i)) in
      let none = token-none w.leaving n z (ap (λ (r : Option BackRow). may_return_by r z.beside.refused) o.none) in
      refused-less w K files p st n env.epoch count z was now o.some o.within refl nine none

  -- ---- every rule

  -- an Offer that is new is the one that the front end makes, taken or refused, and a segment is the client's
  abbrev pub IsExpected : NodeGets → Type 0
  IsExpected (node.Offered parts) = (offer_answer env.epoch q.row ≡ New → IsNewOffer p x n env.epoch parts)
      × (env.leaving ≡ true → is_new_epoch env.epoch q.row q.beside ≡ true → IsUnseen K p n env.epoch)
  IsExpected (node.Forwarded given) = IsWarmSegment x given
  IsExpected _ = Unit {0}

  module _ (known : SeatKnown w x (seat_of p)) (heard_all : symbols_taken x ≤ w.answers + 2)
      (homes : (b : ControlBlock) → q.row ≡ Some (record { stage = back.Here b; epoch = record { 0 = env.epoch } }) → IsAt p.front n env.epoch)
      (unreturned : (b : ControlBlock) → q.row ≡ Some (record { stage = back.Here b; epoch = record { 0 = env.epoch } }) → q.beside.returned ≡ None)
      (there : (row : BackRow) → q.row ≡ Some row → (1 ≤ n) × (n ≤ K)) where
    kept-last : KeptByNode env q IsExpected Owes
    kept-last = record {
      drops = tt;
      hears = λ said b s warm here. heard-here known heard_all homes unreturned there b s here said warm;
      tags = λ number nodes b s m here asked same count. tagged-here known heard_all homes unreturned there b s here nodes asked;
      comes = λ from r b s m here wanted. come-here known heard_all homes unreturned there b s here from r wanted;
      reads = λ r path b s m here. read-here known heard_all homes unreturned there b s here r;
      begins = λ parts of new may. adopts parts new may.0 (of.0 new);
      takes_again = λ parts of again. tt;
      refuses = λ parts of is. ⊎_elim
          (λ (new : (env.leaving ≡ true) × (is_new_epoch env.epoch q.row q.beside ≡ true)). refuses new.0 (of.1 new.0 new.1))
          (λ (again : is_this_epoch env.epoch q.beside.refused ≡ true). refuses-again again)
          (decision-refuse env.leaving env.epoch q.row q.beside is);
      fires = λ b s m here. fired-here known heard_all homes unreturned there b s here;
      resends = λ m none. tt;
      ends = λ back m told was. gone-lasts (told_kind back) there told;
      leaves = λ b s m here back. left-here known heard_all homes unreturned there b s here back;
    }

    pub rule-lasts : (g : NodeGets) → IsOfItsEpoch env q g → IsExpected g → Owes (node_rule env q g)
    rule-lasts = node-keeps env q IsExpected Owes kept-last
