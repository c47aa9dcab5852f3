-- A connection begins, waits, goes to a node, is refused there, and comes back: in each of these steps a unit goes.
use Rattle.std.proofs.Common.{◌≡◌, ◌≤◌, ◌+◌, ◌-◌, ◌*◌, ◌==◌, ℕ, zero, suc, Bool, true, false, List, [], Option, Some, None, refl, sym, ap, ◌∙◌, subst, arith}
use Rattle.lard_law_view.specs.Prelude.{ClientBlock, ControlBlock, Ending, EndpointParts, FilesAt, Final, FrontPart, FrontRow, Kept, NodeEnv, NodePart, Part, Phase, Place, Station, Work, asked_kept, front_rest, kept_after, node_put_back, node_rests, speaks, symbols, wants_kept, with_front, with_node}
use Rattle.lard_bound.specs.Seats.{Gone, Held, Here, Offered, Over, Refused, Returned, SeatNow, Staying, Unborn, Waiting, seat_of, staying_of, tells_over}
use Rattle.lard_bound.specs.Spots.{post_of, spot_of}
use Rattle.lard_bound.specs.Units.{Whole, block_left, ended_left, hand_off, heard_left, is_stale, left_with, nodes_left, one_if_not, requests_left, seat_left, symbols_taken, token_of, untaken}
use Rattle.lard_client.specs.declared.phase.Phase.TheVariants as phase
use Rattle.lard_handoff_back.specs.declared.row.BackConn.TheVariants as back
use Rattle.lard_handoff_back.specs.Table.{Beside}
use Rattle.lard_law_progress.proofs.Away.{IsWith, away-ended, away-here, by-ending, fewer-left, not-less, over-owes, owed-moves, owed-put, owed-same, seat-put, stay-less, tells, token-stays}
use Rattle.lard_law_progress.proofs.Ends.{IsSaid, speaks-said}
use Rattle.lard_law_progress.proofs.Given.{IsFrom}
use Rattle.lard_law_progress.proofs.Less.{Lasting, falls, left_by}
use Rattle.lard_law_progress.proofs.Stays.{cost, read_of}
use Rattle.lard_rules.specs.declared.places.Ending.TheVariants as ending

pub stale-one : (x : ClientBlock) (b : ControlBlock) → is_stale x b ≤ 1
stale-one x b = go (b.send.wnd == x.wnd) where
  go : (t : Bool) → one_if_not t ≤ 1
  go true = omega arith
  go false = omega arith

pub flag-one : (t : Bool) → one_if_not t ≤ 1
flag-one true = omega arith
flag-one false = omega arith

module _ (k : Whole) (K : ℕ) (files : FilesAt) (p : Part) (st : Station) where
  abbrev x : ClientBlock
  x = st.client

  abbrev To : Part → Type 0
  To p' = Lasting k K files p st p' st

  ended-untaken : (ph : Phase) → ended_left k x ph ≤ untaken k x
  ended-untaken phase.Open = omega arith
  ended-untaken phase.Aborted = omega arith
  ended-untaken phase.Reset = omega arith

  ended-block : (b : ControlBlock) → b.send.una ≤ symbols_taken x → (ph : Phase) → ended_left k x ph ≤ block_left k x b
  ended-block b una phase.Open = omega (arith, una)
  ended-block b una phase.Aborted = omega (arith, una)
  ended-block b una phase.Reset = omega arith

  -- ---- a SYN comes: the front end has an endpoint of which nothing is acknowledged
  pub begins-less : (f : FrontPart) (d : ControlBlock) → seat_of p ≡ Unborn → seat_of (with_front p f) ≡ Held d 0 → symbols_taken x ≤ d.send.una → To (with_front p f)
  begins-less f d was now una =
      let s = stale-one x d in let g = flag-one d.send.finished in
      falls k K files p (with_front p f) st Unborn (Held d 0) was now (omega (arith, una, s, g))

  pub begins-over : (f : FrontPart) (last : Final) → seat_of p ≡ Unborn → seat_of (with_front p f) ≡ Over last → To (with_front p f)
  begins-over f last was now = let e = ended-untaken x.phase in falls k K files p (with_front p f) st Unborn (Over last) was now (omega (arith, e))

  -- ---- the line

  pub waits-on : (f : FrontPart) (b d : ControlBlock) (count : ℕ) → seat_of p ≡ Waiting b count → seat_of (with_front p f) ≡ Waiting d count → b.send.una ≤ d.send.una → (b.send.finished ≡ true → d.send.finished ≡ true) → To (with_front p f)
  unfolding spot_of
  waits-on f b d count was now una shut =
      let w : left_with k K p st ≡ left_by k st (Waiting b count) (nodes_left k p.nodes K) = ap (λ (s : SeatNow). left_by k st s (nodes_left k p.nodes K)) was in
      let n : left_with k K (with_front p f) st ≡ left_by k st (Waiting d count) (nodes_left k p.nodes K) = ap (λ (s : SeatNow). left_by k st s (nodes_left k p.nodes K)) now in
      let s = not-less b.send.finished d.send.finished shut in record {
        less = omega (arith, w, n, una, s);
        steady = λ up.
            let post : post_of files x (seat_of (with_front p f)) ≡ post_of files x (seat_of p) = ap (post_of files x) now ∙ sym (ap (post_of files x) was) in
            λ i. record { phase = x.phase; isn = x.send.iss; iss = st.iss; una = x.send.una; last = symbols x.send; post = post i; telling = λ z. tells_over (p.nodes z) };
      }

  pub waits-over : (f : FrontPart) (b : ControlBlock) (count : ℕ) (last : Final) → seat_of p ≡ Waiting b count → seat_of (with_front p f) ≡ Over last → b.send.una ≤ symbols_taken x → To (with_front p f)
  waits-over f b count last was now una = let e = ended-block b una x.phase in falls k K files p (with_front p f) st (Waiting b count) (Over last) was now (omega (arith, e))

  -- it is admitted to a node
  pub admitted-less : (f : FrontPart) (b : ControlBlock) (count n e : ℕ) → seat_of p ≡ Waiting b count → seat_of (with_front p f) ≡ Offered n e count → b.send.una ≤ symbols_taken x → b.send.finished ≡ false → To (with_front p f)
  admitted-less f b count n e was now una open_ =
      let o : one_if_not b.send.finished ≡ 1 = ap one_if_not open_ in
      falls k K files p (with_front p f) st (Waiting b count) (Offered n e count) was now (omega (arith, una, o))

  -- ---- a node takes it

  module _ (n : ℕ) (row : FrontRow) (env : NodeEnv) (front : p.front.row ≡ Some row) (with_ : IsWith false n env.epoch row.stage)
      (offered : seat_of p ≡ Offered n env.epoch (front_rest p.front.rest).count) (quiet : tells (p.nodes n) ≡ 0) (stays : k.leaving n ≡ false) where
    abbrev count : ℕ
    count = (front_rest p.front.rest).count

    pub over-there : (q : NodePart) → q.row ≡ Some (record { stage = back.Ended; epoch = record { 0 = env.epoch } }) → q.beside.returned ≡ None
        → To (with_node p n q)
    over-there q is none =
        let seat : seat_of (with_node p n q) ≡ Gone false n env.epoch = seat-put p n env.epoch false row q front with_
        ∙ away-ended false n env.epoch count q is none in
        let e = ended-untaken x.phase in let more = owed-put k p.nodes n q K in let one = over-owes k n env.epoch q is in
        falls k K files p (with_node p n q) st (Offered n env.epoch count) (Gone false n env.epoch) offered seat (omega (arith, e, more, one))

    -- what the endpoint that it adopted, and its work behind that, are
    pub record Adopts (w : Work) : Type 0 where
      pub una : symbols_taken x ≤ w.service.block.send.una
      pub more : count ≤ read_of w
      pub cheap : cost env [] [] w + 4 * count ≤ 4 * read_of w
      pub few : w.service.over ≡ None → read_of w ≤ k.requests

    here-less : (beside : Beside) (w : Work) (d : ControlBlock) → Adopts w → IsSaid w.service.block d → w.service.over ≡ None → To (with_node p n (record {
      row = Some (record { stage = back.Here d; epoch = record { 0 = env.epoch } });
      stay = Some (record { served = w.service.count; batch = w.batch; asks = w.asks });
      kept = asked_kept env w.asked [];
      fetches = wants_kept env w.wants [];
      beside = beside;
    }))
    here-less beside w d a said none =
        let q : NodePart = record {
          row = Some (record { stage = back.Here d; epoch = record { 0 = env.epoch } });
          stay = Some (record { served = w.service.count; batch = w.batch; asks = w.asks });
          kept = asked_kept env w.asked [];
          fetches = wants_kept env w.wants [];
          beside = beside;
        } in
        let seat : seat_of (with_node p n q) ≡ Here false n env.epoch d (staying_of q) = seat-put p n env.epoch false row q front with_ ∙ away-here false n env.epoch count q d refl in
        let token : token_of k.leaving n q ≡ token_of k.leaving n (p.nodes n) = token-stays k.leaving n q stays ∙ sym (token-stays k.leaving n (p.nodes n) stays) in
        let same : nodes_left k (node_put_back p.nodes n q) K ≡ nodes_left k p.nodes K = owed-same k p.nodes n q (sym quiet) token K in
        let u : d.send.una ≡ w.service.block.send.una = said.una in
        let t : symbols_taken x ≤ w.service.block.send.una = a.una in
        let s = stale-one x d in let g = flag-one d.send.finished in
        let c0 : cost env [] [] w + 4 * count ≤ 4 * read_of w = a.cheap in
        let c : cost env [] [] w + 4 * count ≤ 0 + 4 * read_of w = omega (arith, c0) in
        let r = stay-less k count (read_of w) 0 (cost env [] [] w) a.more (a.few none) c in
        falls k K files p (with_node p n q) st (Offered n env.epoch count) (Here false n env.epoch d (staying_of q)) offered seat (omega (arith, same, u, t, s, g, r))

    pub adopted-less : (before : List (Place × List ℕ)) (pp : NodePart) (w : Work) → pp.kept ≡ [] → pp.fetches ≡ [] → pp.beside.returned ≡ None → Adopts w
        → To (with_node p n (node_rests env pp before w).0)
    adopted-less before pp w ks fs unreturned a =
        by-ending env.serve w.service (λ (o : Ending). To (with_node p n (kept_after env pp w o)))
        (λ none. let d = (speaks env.serve.c w.service.block).1 in subst (λ (ks' : List Kept). To (with_node p n (record {
          row = Some (record { stage = back.Here d; epoch = record { 0 = env.epoch } });
          stay = Some (record { served = w.service.count; batch = w.batch; asks = w.asks });
          kept = asked_kept env w.asked ks';
          fetches = wants_kept env w.wants pp.fetches;
          beside = pp.beside;
        }))) (sym ks) (subst (λ (fs' : List Kept). To (with_node p n (record {
          row = Some (record { stage = back.Here d; epoch = record { 0 = env.epoch } });
          stay = Some (record { served = w.service.count; batch = w.batch; asks = w.asks });
          kept = asked_kept env w.asked [];
          fetches = wants_kept env w.wants fs';
          beside = pp.beside;
        }))) (sym fs) (here-less pp.beside w d a (speaks-said env.serve.c w.service.block) none)))
        (λ last. over-there (kept_after env pp w (ending.Over last)) refl unreturned)

  -- ---- the front end hears that it was taken

  pub taken-here : (f : FrontPart) (n e : ℕ) (b : ControlBlock) (s : Staying) → seat_of p ≡ Here false n e b s → seat_of (with_front p f) ≡ Here true n e b s → To (with_front p f)
  taken-here f n e b s was now = falls k K files p (with_front p f) st (Here false n e b s) (Here true n e b s) was now (omega arith)

  pub taken-gone : (f : FrontPart) (n e : ℕ) → seat_of p ≡ Gone false n e → seat_of (with_front p f) ≡ Gone true n e → To (with_front p f)
  taken-gone f n e was now = falls k K files p (with_front p f) st (Gone false n e) (Gone true n e) was now (omega arith)

  pub taken-back : (f : FrontPart) (n e served : ℕ) → seat_of p ≡ Returned false n e served → seat_of (with_front p f) ≡ Returned true n e served
      → To (with_front p f)
  taken-back f n e served was now = falls k K files p (with_front p f) st (Returned false n e served) (Returned true n e served) was now (omega arith)

  -- and that it ended
  pub ended-over : (f : FrontPart) (told : Bool) (n e : ℕ) (last : Final) → seat_of p ≡ Gone told n e → seat_of (with_front p f) ≡ Over last → To (with_front p f)
  ended-over f told n e last was now = falls k K files p (with_front p f) st (Gone told n e) (Over last) was now (omega arith)

  -- ---- it comes back from a node

  seven : (n : ℕ) → hand_off n ≤ 7
  seven zero = omega arith
  seven (suc n) = omega arith

  module _ (given : Option EndpointParts) (n e served : ℕ) (from : IsFrom given n e served (seat_of p)) where
    -- so much is left that it may be placed anew
    back-left : (z : SeatNow) → IsFrom given n e served z → (t : ℕ)
        → untaken k x + 11 + t + 4 * (k.requests - served) ≤ heard_left k x z + (seat_left k x z + t) + requests_left k z
    back-left (Refused m d count) h t = let c = fewer-left k.requests count served h.3 in omega (arith, c)
    back-left (Returned told m d count) h t = let c = fewer-left k.requests count served h.3 in omega (arith, c)
    back-left _ h t = absurd h

    abbrev left : untaken k x + 11 + nodes_left k p.nodes K + 4 * (k.requests - served) ≤ heard_left k x (seat_of p) +
        (seat_left k x (seat_of p) + nodes_left k p.nodes K) + requests_left k (seat_of p)
    left = back-left (seat_of p) from (nodes_left k p.nodes K)

    pub back-held : (f : FrontPart) (d : ControlBlock) (more : ℕ) → seat_of (with_front p f) ≡ Held d more → symbols_taken x ≤ d.send.una → served ≤ more
        → To (with_front p f)
    back-held f d more now una up =
        let l = left in let h = seven k.requests in let s = stale-one x d in let g = flag-one d.send.finished in let c = fewer-left k.requests served more up in
        falls k K files p (with_front p f) st (seat_of p) (Held d more) refl now (omega (arith, l, h, s, g, c, una))

    pub back-waits : (f : FrontPart) (d : ControlBlock) (more : ℕ) → seat_of (with_front p f) ≡ Waiting d more → symbols_taken x ≤ d.send.una → served ≤ more
        → To (with_front p f)
    back-waits f d more now una up =
        let l = left in let g = flag-one d.send.finished in let c = fewer-left k.requests served more up in
        falls k K files p (with_front p f) st (seat_of p) (Waiting d more) refl now (omega (arith, l, g, c, una))

    pub back-offered : (f : FrontPart) (m d more : ℕ) → seat_of (with_front p f) ≡ Offered m d more → served ≤ more → To (with_front p f)
    back-offered f m d more now up =
        let l = left in let c = fewer-left k.requests served more up in
        falls k K files p (with_front p f) st (seat_of p) (Offered m d more) refl now (omega (arith, l, c))

    pub back-over : (f : FrontPart) (last : Final) → seat_of (with_front p f) ≡ Over last → To (with_front p f)
    back-over f last now =
        let l = left in let e = ended-untaken x.phase in
        falls k K files p (with_front p f) st (seat_of p) (Over last) refl now (omega (arith, l, e))

  -- ---- the node hears that its end is known

  pub acknowledged-less : (n : ℕ) (q : NodePart) (z : SeatNow) → seat_of p ≡ z → seat_of (with_node p n q) ≡ z → 1 ≤ n → n ≤ K → tells (p.nodes n) ≡ 1 → tells q ≡ 0
      → token_of k.leaving n q ≡ token_of k.leaving n (p.nodes n) → To (with_node p n q)
  acknowledged-less n q z was now some within told quiet token =
      let f = owed-moves k p.nodes n q some K within in
      falls k K files p (with_node p n q) st z z was now (omega (arith, f, told, quiet, token))

  -- ---- a node that leaves refuses it

  pub refused-less : (n e count : ℕ) (q : NodePart) → seat_of p ≡ Offered n e count → seat_of (with_node p n q) ≡ Refused n e count → 1 ≤ n → n ≤ K
      → tells q ≡ tells (p.nodes n) → token_of k.leaving n (p.nodes n) ≡ 9 → token_of k.leaving n q ≡ 0 → To (with_node p n q)
  refused-less n e count q was now some within told nine none =
      let f = owed-moves k p.nodes n q some K within in
      falls k K files p (with_node p n q) st (Offered n e count) (Refused n e count) was now (omega (arith, f, told, nine, none))
