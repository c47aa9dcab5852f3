-- Each rule of a node, of a connection that it has or takes: nothing that is left to do comes back.
use Rattle.std.proofs.Common.{◌≡◌, ◌≤◌, ◌+◌, ◌*◌, ◌&&◌, not, ℕ, Bool, true, false, cond, List, [], is_some, Some, None, refl, sym, ◌∙◌, arith}
use Rattle.std.proofs.lemmas.Bool.{and_parts}
use Rattle.std.specs.List.{find}
use Rattle.lard_law_view.specs.Prelude.{ControlBlock, EndpointParts, FilesAt, FrontRow, Kept, NodeEnv, NodePart, Part, Place, Said, Station, Work, after_timer, came_for, come_progress, front_rest, goes_on, is_clear, is_to_read, is_under, kept_back, may_freeze, may_give_back, may_read, next_in, next_of, node_begins, node_rests, on_segment, read_progress, reads_batch, serving_settled, state_of, tagged, taken_sent, with_node, without, work_of}
use Rattle.lard_base.specs.declared.place.TimerKind.TheVariants as kind
use Rattle.lard_bound.specs.Progress.{IsWarmWord}
use Rattle.lard_bound.specs.Seats.{Offered, Staying, seat_of, staying_of}
use Rattle.lard_bound.specs.Units.{Whole, symbols_taken}
use Rattle.lard_client.specs.declared.phase.Phase.TheVariants as phase
use Rattle.lard_handoff_back.specs.declared.row.BackConn.TheVariants as back
use Rattle.lard_law_progress.proofs.Away.{Fits, IsWith, back-less, tells, turn-less}
use Rattle.lard_law_progress.proofs.Handing.{adopted-less}
use Rattle.lard_law_progress.proofs.Less.{Lasting}
use Rattle.lard_law_progress.proofs.Stays.{Onward, cost, first-batch, goes-onward, onward-then, read_of}
use Rattle.lard_law_progress.proofs.Turns.{Works, content-works, forwarded-works, no-works, read-works, tagged-works, timer-works}
use Rattle.lard_rules.proofs.StayFalling.{none-left}
use Rattle.lard_rules.specs.declared.places.Ending.TheVariants as ending
use Rattle.lard_rules.specs.declared.stay.Next.{Next}
use Rattle.lard_rules.specs.declared.stay.Next.TheVariants as next

-- A connection that is at node n: the front end's row, the node's, and no more is acknowledged than the client took.
module _ (k : Whole) (K : ℕ) (files : FilesAt) (p : Part) (st : Station) (n : ℕ) (told : Bool) (row : FrontRow) (b : ControlBlock) (env : NodeEnv)
    (front : p.front.row ≡ Some row) (with_ : IsWith told n env.epoch row.stage) (here : (p.nodes n).row ≡ Some (record { stage = back.Here b; epoch = record { 0 = env.epoch } }))
    (una : b.send.una ≤ symbols_taken st.client) (unreturned : (p.nodes n).beside.returned ≡ None) (leaves : env.leaving ≡ k.leaving n) (there : (1 ≤ n) × (n ≤ K)) where
  abbrev q : NodePart
  q = p.nodes n

  abbrev s : Staying
  s = staying_of q

  -- what holds of it behind the turn, if it is still there then
  abbrev pub Then : Work → Type 0
  Then w = (d : ControlBlock) (count : ℕ) → (serving_settled env.serve w.service).0 ≡ ending.Here d count → Fits k K files p st n told row b env front with_ here una d w

  abbrev pub To : List (Place × List ℕ) → NodePart → Work → Type 0
  To before pp w = Lasting k K files p st (with_node p n (node_rests env pp before w).0) st

  -- where the node leaves it goes back
  abbrev pub Back : NodePart → Work → Type 0
  Back pp w = may_give_back env w ≡ true → Lasting k K files p st (with_node p n (kept_back env pp w)) st

  -- a turn ends
  abbrev pub Ends : NodePart → Work → Type 0
  Ends pp w = (Then w → To [] pp w) × Back pp w

  done : (kept fetches : List Kept) (w : Work) → Works st.client env b s kept fetches w → (before : List (Place × List ℕ)) (pp : NodePart) → pp.kept ≡ kept
      → pp.fetches ≡ fetches → pp.beside.returned ≡ None → Then w
      → To before pp w
  done kept fetches w works before pp ks fs none fits = turn-less k K files p st n told row b env front with_ here una kept fetches w works before pp ks fs none fits

  goes-back : (kept fetches : List Kept) (w : Work) → Works st.client env b s kept fetches w → (pp : NodePart) → Back pp w
  goes-back kept fetches w works pp may =
      let both = and_parts env.leaving (is_to_read (next_of w) && may_freeze w.service.block) may in
      let ready = and_parts (is_to_read (next_of w)) (may_freeze w.service.block) both.1 in
      back-less k K files p st n told row b env front with_ here una kept fetches w works pp there.0 there.1 (sym leaves ∙ both.0)
      (to-read w ready.0) (still-open w.service.block.reset w.service.block.send.finished (is_clear w.service.block.send) (not w.service.block.recv.discarding) ready.1)
    where
      to-read : (w : Work) → is_to_read (next_of w) ≡ true → w.batch ≡ []
      to-read w t = by (may_read w.service) t where
        of-next : (o : Next) → next_in w.batch ≡ o → is_to_read o ≡ true → w.batch ≡ []
        of-next next.Serve is f = absurd (let bad : false ≡ true = f in cc)
        of-next next.Read is f = none-left w.batch is
        of-next next.Stop is f = absurd (let bad : false ≡ true = f in cc)

        by : (m : Bool) → is_to_read (cond m (next_in w.batch) next.Stop) ≡ true → w.batch ≡ []
        by true f = of-next (next_in w.batch) refl f
        by false f = absurd (let bad : false ≡ true = f in cc)

      still-open : (reset shut clear keeps : Bool) → ((clear && not shut) && (keeps && not reset)) ≡ true → shut ≡ false
      still-open reset false clear keeps e = refl
      still-open reset true true keeps e = absurd (let bad : false ≡ true = e in cc)
      still-open reset true false keeps e = absurd (let bad : false ≡ true = e in cc)

  turned : (kept fetches : List Kept) (w : Work) → Works st.client env b s kept fetches w → (pp : NodePart) → pp.kept ≡ kept → pp.fetches ≡ fetches
      → pp.beside.returned ≡ None → Ends pp w
  turned kept fetches w works pp ks fs none = (done kept fetches w works [] pp ks fs none, goes-back kept fetches w works pp)

  pub forwarded-lasts : (said : Said) → IsWarmWord st.client said st.client.phase → (st.client.phase ≡ phase.Reset → ⊥)
      → Ends q (goes_on env (work_of (on_segment b said).1 s.stay))
  forwarded-lasts said warm open_ = turned s.kept s.fetches (goes_on env (work_of (on_segment b said).1 s.stay))
      (forwarded-works st.client env b s said warm open_) q refl refl unreturned

  pub tagged-lasts : (nodes : List ℕ) → is_some (find (is_under kind.Ask 0) q.kept) ≡ true
      → Ends (record q { kept = without kind.Ask 0 q.kept }) (goes_on env (tagged env nodes (work_of b s.stay)))
  tagged-lasts nodes asked =
      turned (without kind.Ask 0 q.kept) q.fetches (goes_on env (tagged env nodes (work_of b s.stay))) (tagged-works st.client env b s nodes asked)
      (record q { kept = without kind.Ask 0 q.kept }) refl refl unreturned

  pub content-lasts : (from r : ℕ) → is_some (find (is_under kind.Fetch r) q.fetches) ≡ true
      → Ends (record q { fetches = without kind.Fetch r q.fetches }) (goes_on env (came_for (come_progress from) r (work_of b s.stay)))
  content-lasts from r wanted =
      turned q.kept (without kind.Fetch r q.fetches) (goes_on env (came_for (come_progress from) r (work_of b s.stay))) (content-works st.client env b s from r wanted)
      (record q { fetches = without kind.Fetch r q.fetches }) refl refl unreturned

  pub read-lasts : (r : ℕ) → Ends q (goes_on env (came_for read_progress r (work_of b s.stay)))
  read-lasts r = turned s.kept s.fetches (goes_on env (came_for read_progress r (work_of b s.stay))) (read-works st.client env b s r) q refl refl unreturned

  -- its timer, with whatever is told again
  pub timer-lasts : (before : List (Place × List ℕ)) → Then (work_of (after_timer b) s.stay) → To before q (work_of (after_timer b) s.stay)
  timer-lasts before fits = done s.kept s.fetches (work_of (after_timer b) s.stay) (timer-works st.client env b s) before q refl refl unreturned fits

  -- the node leaves
  pub left-lasts : Back q (work_of b s.stay)
  left-lasts = goes-back s.kept s.fetches (work_of b s.stay) (no-works st.client env b s) q

-- ---- an Offer that is new

-- A node takes a connection, and reads its first batch.
abbrev pub taking : NodeEnv → EndpointParts → Work
taking env parts = goes_on env (state_of (reads_batch env true (node_begins env parts)))

takes-on : (env : NodeEnv) (parts : EndpointParts) → Onward env [] [] (node_begins env parts) (taking env parts)
takes-on env parts =
    let a = node_begins env parts in
    let c = state_of (reads_batch env true a) in
    onward-then env [] [] a c (goes_on env c) (first-batch env [] [] a refl refl) (goes-onward env [] [] c)

module _ (k : Whole) (K : ℕ) (files : FilesAt) (p : Part) (st : Station) (n : ℕ) (row : FrontRow) (env : NodeEnv) (front : p.front.row ≡ Some row) (with_ : IsWith false n env.epoch row.stage)
    (offered : seat_of p ≡ Offered n env.epoch (front_rest p.front.rest).count) (quiet : tells (p.nodes n) ≡ 0) (stays : k.leaving n ≡ false)
    (unreturned : (p.nodes n).beside.returned ≡ None) where
  -- Nothing was kept there of it. The Offer has the endpoint as the front end counts, and what the client took was acknowledged to it.
  pub offered-lasts : (parts : EndpointParts) → (p.nodes n).kept ≡ [] → (p.nodes n).fetches ≡ [] → parts.served ≡ (front_rest p.front.rest).count → symbols_taken st.client ≤ parts.una
      → ((taking env parts).service.over ≡ None → read_of (taking env parts) ≤ k.requests)
      → Lasting k K files p st (with_node p n (node_rests env (p.nodes n) (taken_sent env) (taking env parts)).0) st
  offered-lasts parts ks fs served una few =
      let o = takes-on env parts in
      let w = taking env parts in
      let u : w.service.block.send.una ≡ parts.una = o.una in
      let m : parts.served + 0 ≤ read_of w = o.more in
      let c : cost env [] [] w + 4 * (parts.served + 0) ≤ (0 + 0 + 0) + 4 * read_of w = o.cheap in
      adopted-less k K files p st n row env front with_ offered quiet stays (taken_sent env) (p.nodes n) w ks fs unreturned
      (record { una = omega (arith, u, una); more = omega (arith, m, served); cheap = omega (arith, c, served); few = few })
