-- What a journal says of packets and of the bytes of responses, and what each record adds to it.
use Rattle.std.proofs.Common.{◌≡◌, ℕ, ◌+◌, ◌-◌, List, [], ◌∷◌, ◌++◌, length, Bool, true, false, cond, Option, Some, IsSome, refl, sym, ap, ◌∙◌, subst, append_assoc, append-nil, length-append, nat_eq}
use Rattle.std.proofs.lemmas.List.Sums.{fold-append}
use Rattle.std.specs.List.{fold}
use Rattle.lard_law_view.specs.Prelude.{EachMay, Event, IsNetOf, MayInNetwork, Packet, Place, Rec, acting, acting_at, answered_bytes, answered_step, bytes_step, goal_in, goal_of, goal_step, is_lost, lose_at, lost_in, lost_step, net_of, net_step, packet_at, packet_bytes, packet_of, packets_of, sent_count, sent_records, sent_step}
use Rattle.lard_base.specs.declared.event.Event.TheVariants.{Deliver, Lose}
use Rattle.lard_history.proofs.Counts.{answered_bytes-append, goal_of-append, is_lost-append, last_event-append, packet_bytes-append, sent_count-append}
use Rattle.lard_history.proofs.Each.{Each, each_append}
use Rattle.lard_journal.specs.declared.rec.Rec.TheVariants as rec
use Rattle.lard_law_view.proofs.PacketLookups.{goal_lost, goal_push, lost_lost, lost_push}
use Rattle.lard_net.proofs.Packets.{bytes_pushed, lost_bytes, lost_length}

-- a journal of these packets, and of so many bytes of responses
pub record Linked (J : List Rec) (net : List Packet) (answered : ℕ) : Type 0 where
  pub each : EachMay MayInNetwork [] J
  pub is : IsNetOf J net
  pub bytes : answered_bytes J ≡ answered

-- records that say nothing of packets
abbrev pub IsUncounted : Rec → Type 0
IsUncounted (rec.Sent k from to bytes) = ⊥
IsUncounted (rec.Got k) = ⊥
IsUncounted (rec.Lost k) = ⊥
IsUncounted _ = Unit {0}

module _ (J : List Rec) (net : List Packet) (answered : ℕ) (l : Linked J net answered) where
  -- a record that changes nothing of the packets
  still : (r : Rec) → MayInNetwork J r → ((ps : List Packet) → net_step ps r ≡ ps) → ((n : ℕ) → sent_step n r ≡ n) → ((n : ℕ) → bytes_step n r ≡ n)
      → ((k : ℕ) (x : Option Place) → goal_step k x r ≡ x) → ((k : ℕ) (x : Bool) → lost_step k x r ≡ x) → Linked (J ++ r ∷ []) net (answered_step answered r)
  still r may p s b g o = record {
    each = each_append MayInNetwork [] J (r ∷ []) l.each (may, tt);
    is = record {
      packets = fold-append net_step [] J (r ∷ []) ∙ p (net_of J) ∙ l.is.packets;
      sent = sent_count-append J (r ∷ []) ∙ s (sent_count J) ∙ l.is.sent;
      bytes = packet_bytes-append J (r ∷ []) ∙ b (packet_bytes J) ∙ l.is.bytes;
      goals = λ k. goal_of-append J (r ∷ []) k ∙ g k (goal_of J k) ∙ l.is.goals k;
      lost = λ k. is_lost-append J (r ∷ []) k ∙ o k (is_lost J k) ∙ l.is.lost k;
    };
    bytes = answered_bytes-append J (r ∷ []) ∙ ap (λ n. answered_step n r) l.bytes;
  }

  pub quiet : (r : Rec) → IsUncounted r → Linked (J ++ r ∷ []) net (answered_step answered r)
  quiet (rec.Sent k from to bytes) q = absurd q
  quiet (rec.Got k) q = absurd q
  quiet (rec.Lost k) q = absurd q
  quiet r q = still r tt (λ ps. refl) (λ n. refl) (λ n. refl) (λ k x. refl) (λ k x. refl)

  -- the packet is there, and goes somewhere
  module _ (k : ℕ) (p : Packet) (at : packet_at net k ≡ Some p) (there : p.lost ≡ false) where
    goal_is : goal_of J k ≡ Some p.to
    goal_is = l.is.goals k ∙ ap goal_in at

    pub some_goal : IsSome (goal_of J k)
    some_goal = subst (λ (o : Option Place). IsSome o) (sym goal_is) refl

    pub not_lost : is_lost J k ≡ false
    not_lost = l.is.lost k ∙ ap lost_in at ∙ there

    -- it is got in the step that delivers it
    pub got : acting J ≡ goal_of J k → Linked (J ++ rec.Got k ∷ []) net answered
    got acts = still (rec.Got k) (some_goal, acts, not_lost) (λ ps. refl) (λ n. refl) (λ n. refl) (λ j x. refl) (λ j x. refl)

    pub lost : Linked (J ++ rec.Lost k ∷ []) (lose_at (k - 1) net) answered
    lost = record {
      each = each_append MayInNetwork [] J (rec.Lost k ∷ []) l.each ((some_goal, not_lost), tt);
      is = record {
        packets = fold-append net_step [] J (rec.Lost k ∷ []) ∙ ap (lose_at (k - 1)) l.is.packets;
        sent = sent_count-append J (rec.Lost k ∷ []) ∙ l.is.sent ∙ sym (lost_length (k - 1) net);
        bytes = packet_bytes-append J (rec.Lost k ∷ []) ∙ l.is.bytes ∙ sym (lost_bytes (k - 1) net);
        goals = λ j. goal_of-append J (rec.Lost k ∷ []) j ∙ l.is.goals j ∙ sym (goal_lost net (k - 1) j);
        lost = λ j. is_lost-append J (rec.Lost k ∷ []) j ∙ ap (λ b. cond (nat_eq k j) true b) (l.is.lost j) ∙ sym (lost_lost net k j p at);
      };
      bytes = answered_bytes-append J (rec.Lost k ∷ []) ∙ l.bytes;
    }

  -- a packet is sent, with the next number
  pub sent : (from to : Place) (bytes : List ℕ)
      → Linked (J ++ rec.Sent (length net + 1) from to bytes ∷ []) (net ++ record { from = from; to = to; bytes = bytes; lost = false } ∷ []) answered
  sent from to bytes =
      let p : Packet = record { from = from; to = to; bytes = bytes; lost = false } in
      let r : Rec = rec.Sent (length net + 1) from to bytes in
      record {
        each = each_append MayInNetwork [] J (r ∷ []) l.each (ap (λ n. n + 1) (sym l.is.sent), tt);
        is = record {
          packets = fold-append net_step [] J (r ∷ []) ∙ ap (λ (ps : List Packet). ps ++ p ∷ []) l.is.packets;
          sent = sent_count-append J (r ∷ []) ∙ ap (λ n. n + 1) l.is.sent ∙ sym (length-append net (p ∷ []));
          bytes = packet_bytes-append J (r ∷ []) ∙ ap (λ n. n + length bytes) l.is.bytes ∙ sym (bytes_pushed net p);
          goals = λ k. goal_of-append J (r ∷ []) k ∙ ap (λ o. cond (nat_eq (length net + 1) k) (Some to) o) (l.is.goals k) ∙ sym (goal_push net p k);
          lost = λ k. is_lost-append J (r ∷ []) k ∙ l.is.lost k ∙ sym (lost_push net p k refl);
        };
        bytes = answered_bytes-append J (r ∷ []) ∙ l.bytes;
      }

-- ---- many records

pub uncounted-all : (J rs : List Rec) (net : List Packet) (answered : ℕ) → Each IsUncounted rs → Linked J net answered → Linked (J ++ rs) net (fold answered_step answered rs)
uncounted-all J [] net answered q l = subst (λ (K : List Rec). Linked K net answered) (sym (append-nil J)) l
uncounted-all J (r ∷ rs) net answered q l =
    subst (λ (K : List Rec). Linked K net (fold answered_step (answered_step answered r) rs)) (append_assoc J (r ∷ []) rs)
    (uncounted-all (J ++ r ∷ []) rs net (answered_step answered r) q.1 (quiet J net answered l r q.0))

pub sents : (J : List Rec) (net : List Packet) (answered : ℕ) (from : Place) (ss : List (Place × List ℕ)) → Linked J net answered
    → Linked (J ++ sent_records (length net + 1) from ss) (net ++ packets_of from ss) answered
sents J net answered from [] l =
    subst (λ (K : List Rec). Linked K (net ++ []) answered) (sym (append-nil J)) (subst (λ (ps : List Packet). Linked J ps answered) (sym (append-nil net)) l)
sents J net answered from (s ∷ ss) l =
    let p : Packet = packet_of from s in
    let first : Linked (J ++ rec.Sent (length net + 1) from s.0 s.1 ∷ []) (net ++ p ∷ []) answered = sent J net answered l from s.0 s.1 in
    let number : length (net ++ p ∷ []) ≡ length net + 1 = length-append net (p ∷ []) in
    subst (λ (K : List Rec). Linked K (net ++ packets_of from (s ∷ ss)) answered) (append_assoc J (rec.Sent (length net + 1) from s.0 s.1 ∷ []) (sent_records (length net + 1 + 1) from ss))
    (subst (λ (ps : List Packet). Linked ((J ++ rec.Sent (length net + 1) from s.0 s.1 ∷ []) ++ sent_records (length net + 1 + 1) from ss) ps answered) (append_assoc net (p ∷ []) (packets_of from ss))
    (subst (λ n. Linked ((J ++ rec.Sent (length net + 1) from s.0 s.1 ∷ []) ++ sent_records (n + 1) from ss) ((net ++ p ∷ []) ++ packets_of from ss) answered) number
    (sents (J ++ rec.Sent (length net + 1) from s.0 s.1 ∷ []) (net ++ p ∷ []) answered from ss first)))

-- ---- a step's beginning

-- the event, and the packet that it delivers
pub delivers : (J : List Rec) (net : List Packet) (answered i k : ℕ) (p : Packet) → packet_at net k ≡ Some p → p.lost ≡ false → Linked J net answered
    → Linked (J ++ rec.Event i (Deliver k) ∷ rec.Got k ∷ []) net answered
delivers J net answered i k p at there l =
    let e : Rec = rec.Event i (Deliver k) in
    let K : List Rec = J ++ e ∷ [] in
    subst (λ (L : List Rec). Linked L net answered) (append_assoc J (e ∷ []) (rec.Got k ∷ []))
    (got K net answered (quiet J net answered l e tt) k p at there (ap (acting_at K) (last_event-append J (e ∷ []))))

pub loses : (J : List Rec) (net : List Packet) (answered i k : ℕ) (p : Packet) → packet_at net k ≡ Some p → p.lost ≡ false → Linked J net answered
    → Linked (J ++ rec.Event i (Lose k) ∷ rec.Lost k ∷ []) (lose_at (k - 1) net) answered
loses J net answered i k p at there l =
    let e : Rec = rec.Event i (Lose k) in
    subst (λ (L : List Rec). Linked L (lose_at (k - 1) net) answered) (append_assoc J (e ∷ []) (rec.Lost k ∷ []))
    (lost (J ++ e ∷ []) net answered (quiet J net answered l e tt) k p at there)
