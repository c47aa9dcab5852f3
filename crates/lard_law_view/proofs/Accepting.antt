-- A client accepts the next bytes of a true segment.
use Rattle.std.proofs.Common.{◌≡◌, ◌≤◌, ◌<◌, ◌+◌, ◌^◌, ℕ, true, false, cond, ◌==◌, not, List, length, take, drop, arith, ap, ◌∙◌, sym, subst, refl, ⊎_elim, length-take, length-drop}
use Rattle.std.proofs.lemmas.Bool.{cond_both, cond-false}
use Rattle.lard_law_view.specs.Prelude.{Accepts, ClientBlock, Heard, IsBare, IsInOrder, IsNextOf, IsPartAt, IsStream, IsTrueOf, IsTrueSegment, Phase, Said, Stands, Stream, answers_syn, client_arrived, client_on_segment, established, heard_in, heard_nothing, heard_open, introduced, is_established, is_open_in, on_greeting, peer_mss, reset_by_peer, seq_add}
use Rattle.lard_client.specs.declared.phase.Phase.TheVariants.{Open, Aborted, Reset}
use Rattle.lard_client.proofs.Accepted.{arrived-order, arrived-ended}
use Rattle.lard_client.proofs.Outcomes.{Outcome, Quiet, Took, segment-outcome}
use Rattle.lard_client.proofs.TrueSegments.{true-accepted}
use Rattle.lard_send.proofs.Sent.{after_ack-irs}

-- what is accepted of a segment are the next bytes
abbrev pub Takes : Stream → ClientBlock → Said → Heard × ClientBlock → Type 0
Takes x b s r = Accepts x r.1 × IsPartAt b.accepted (take r.0.len (drop r.0.from s.payload)) x.bytes × (r.1.accepted ≡ b.accepted + r.0.len)

none-part : (x : Stream) (b : ClientBlock) (part : List ℕ) (n : ℕ) → n ≡ 0 → b.accepted ≤ length x.bytes → IsPartAt b.accepted (take n part) x.bytes
none-part x b part n e le = subst (λ (m : ℕ). IsPartAt b.accepted (take m part) x.bytes) (sym e) (record { within = omega arith; same = refl })

-- it accepts nothing, and learns at most the first number
accepts-none : (x : Stream) (b y : ClientBlock) → y.accepted ≡ b.accepted → y.eof ≡ b.eof → (is_established y ≡ true → y.send.irs ≡ x.first) → Accepts x b → Accepts x y
accepts-none x b y n f e a =
    let within = a.within in
    record { first = e; within = omega arith; final = λ t. let last = a.final (sym f ∙ t) in (n ∙ last.0, last.1) }

-- ---- while its SYN is not acknowledged
greeting-takes : (x : Stream) (b : ClientBlock) (s : Said) → (b.send.una == 0) ≡ true → Accepts x b → (s.flags.syn ≡ true → s.seq ≡ x.first) → Takes x b s (on_greeting b s)
greeting-takes x b s z a greets =
    let P : Heard × ClientBlock → Type 0 = Takes x b s in
    let none : (y : ClientBlock) → y.accepted ≡ b.accepted → y.eof ≡ b.eof → (is_established y ≡ true → y.send.irs ≡ x.first) → P (heard_nothing, y) = λ y n f e.
    (accepts-none x b y n f e a, none-part x b s.payload 0 refl a.within, n ∙ omega arith) in
    let unknown : is_established b ≡ true → ⊥ = λ e. let no : not true ≡ true = subst (λ t. not t ≡ true) z e in cc in
    let synced = cond s.flags.syn (heard_nothing, established b s) (heard_nothing, b) in
    cond_both (not (answers_syn b s)) (heard_nothing, b) (cond s.flags.rst (heard_nothing, reset_by_peer b) synced) P (λ t. none b refl refl (λ e. absurd (unknown e)))
    (λ t. cond_both s.flags.rst (heard_nothing, reset_by_peer b) synced P (λ u. none (reset_by_peer b) refl refl (λ e. absurd (unknown e)))
    (λ u. cond_both s.flags.syn (heard_nothing, established b s) (heard_nothing, b) P
    (λ v. none (established b s) refl refl (λ e. after_ack-irs (introduced b.send s.seq (peer_mss s.mss)) s.ack s.seq s.wnd ∙ greets v))
    (λ v. none b refl refl (λ e. absurd (unknown e)))))

-- ---- once it is established
module _ (x : Stream) (b : ClientBlock) (s : Said) (r : Heard × ClientBlock) (a : Accepts x b) (known : is_established b ≡ true) (o : IsInOrder b s r.0 r.1) (outcome : Outcome b s r) where
  -- a part that is the next one, with the FIN behind all bytes
  part-takes : IsPartAt b.accepted (take r.0.len (drop r.0.from s.payload)) x.bytes → (r.0.eof ≡ true → (b.accepted + r.0.len ≡ length x.bytes) × (x.ended ≡ true)) → Takes x b s r
  part-takes part final =
      let within = o.within in
      let counted = o.counted in
      let size : length (take r.0.len (drop r.0.from s.payload)) ≡ r.0.len = omega (arith, length-take r.0.len (drop r.0.from s.payload), length-drop r.0.from s.payload) in
      let le = part.within in (
        record {
          first = λ e. ⊎_elim (λ (q : Quiet b r). q.3) (λ (t : Took b s r). t.4) outcome ∙ a.first known;
          within = omega arith;
          final = λ e. ⊎_elim
              (λ (q : Quiet b r). let last = a.final (sym q.2 ∙ e) in (q.1 ∙ last.0, last.1))
              (λ (t : Took b s r). let last = final (ap (λ h. h.eof) t.1 ∙ sym t.3 ∙ e) in (counted ∙ last.0, last.1))
              outcome;
        },
        part,
        counted,
      )

  bare-takes : IsBare s → Takes x b s r
  bare-takes bare =
      let within = o.within in
      let empty : length s.payload ≡ 0 = ap length bare.0 in
      part-takes (none-part x b (drop r.0.from s.payload) r.0.len (omega arith) a.within) (λ e. absurd (let fin = o.ended e in let no = bare.1 in cc))

  stands-takes : Stands x s → IsNextOf b s r.0 x.bytes → Takes x b s r
  stands-takes t next = part-takes next.part (λ e. (next.final e, (t.final (o.ended e)).1))

-- what a segment says is a true segment of the cluster
stands-segment : (x : Stream) (b : ClientBlock) (s : Said) (t : Stands x s) → IsStream x → b.send.irs ≡ x.first → IsTrueSegment b x.bytes t.place s
stands-segment x b s t is e = record {
  first = subst (λ n. n < 2 ^ 32) (sym e) is.number;
  most = is.most;
  number = t.number ∙ ap (λ n. seq_add n (1 + t.place)) (sym e);
  part = t.part;
  final = λ f. (t.final f).0;
}

-- ---- any client
open-is : (b : ClientBlock) (s : Said) → b.phase ≡ Open → client_arrived b s ≡ heard_open b s
unfolding client_arrived
open-is b s e = ap (λ p. heard_in p b s) e

segment-is : (b : ClientBlock) (s : Said) → (b.send.una == 0) ≡ false → heard_open b s ≡ client_on_segment b s
segment-is b s e = cond-false (b.send.una == 0) (on_greeting b s) (client_on_segment b s) e

module _ (x : Stream) (b : ClientBlock) (s : Said) (is : IsStream x) (q : s.seq < 2 ^ 32) (a : Accepts x b) (t : IsTrueOf x s) where
  -- of an established client
  segment-takes : (b.send.una == 0) ≡ false → client_arrived b s ≡ client_on_segment b s → Takes x b s (client_on_segment b s)
  segment-takes z e =
      let known : is_established b ≡ true = ap not z in
      let order = subst (λ (r : Heard × ClientBlock). IsInOrder b s r.0 r.1) e (arrived-order b s q) in
      ⊎_elim
      (λ (bare : IsBare s). bare-takes x b s (client_on_segment b s) a known order (segment-outcome b s) bare)
      (λ (stands : Stands x s). stands-takes x b s (client_on_segment b s) a known order (segment-outcome b s) stands
      (subst (λ (r : Heard × ClientBlock). IsNextOf b s r.0 x.bytes) e (true-accepted b s x.bytes stands.place a.within (stands-segment x b s stands is (a.first known)))))
      t.carries

  open-takes : b.phase ≡ Open → Takes x b s (heard_open b s)
  open-takes e =
      cond_both (b.send.una == 0) (on_greeting b s) (client_on_segment b s) (Takes x b s)
      (λ z. greeting-takes x b s z a t.greets)
      (λ z. segment-takes z (open-is b s e ∙ segment-is b s z))

  -- of one that was aborted or reset
  ended-takes : is_open_in b.phase ≡ false → Takes x b s (client_arrived b s)
  ended-takes e =
      let same = arrived-ended b s e in (
        subst (λ (y : ClientBlock). Accepts x y) (sym same.0) a,
        none-part x b (drop (client_arrived b s).0.from s.payload) (client_arrived b s).0.len same.1 a.within,
        (let len = same.1 in ap (λ y. y.accepted) same.0 ∙ omega arith),
      )

  by_phase : (p : Phase) → b.phase ≡ p → Takes x b s (client_arrived b s)
  by_phase Open e = subst (Takes x b s) (sym (open-is b s e)) (open-takes e)
  by_phase Aborted e = ended-takes (ap is_open_in e)
  by_phase Reset e = ended-takes (ap is_open_in e)

  pub arrived-takes : Takes x b s (client_arrived b s)
  arrived-takes = by_phase b.phase refl
