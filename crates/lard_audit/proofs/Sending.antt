-- The packets that are kept are those of the records, and one record more is noted.
use Rattle.std.proofs.Common.{◌≡◌, ◌≢◌, ℕ, ◌+◌, Bool, true, false, not, ◌&&◌, nat_eq, nat_le, nat_lt, cond, List, [], ◌∷◌, ◌++◌, Option, Some, None, is_some, refl, sym, ap, subst, ◌∙◌, arith}
use Rattle.std.proofs.lemmas.Bool.{eqb-true, eq-eqb}
use Rattle.std.proofs.lemmas.Bool.Decides.{nat_tests}
use Rattle.indexmap.specs.IndexMap.{insert_entry}
use Rattle.lard_base.specs.declared.place.Place.{Place}
use Rattle.lard_history.specs.Journal.{goal_of, goal_step, is_lost, lost_step, sent_count, sent_step}
use Rattle.lard_history.proofs.Seeing.{by_number, other_number}
use Rattle.lard_journal.specs.declared.rec.Rec.{Rec}
use Rattle.lard_journal.specs.declared.rec.Rec.TheVariants as rec
use Rattle.lard_audit.specs.declared.packets.Packets.{Packets}
use Rattle.lard_audit.specs.Audit.{ArePackets}
use Rattle.lard_audit.specs.Sound.{keeps_network, may_arrive}
use Rattle.lard_audit.specs.Network.{is_audit_on_way, packets_step}
use Rattle.lard_audit.specs.Register.{kept}
use Rattle.lard_audit.proofs.Kept.{kept-other, kept-same, once-more}

arrives : (p : Packets) (J : List Rec) → ArePackets p J → (k : ℕ) → may_arrive J k ≡ is_audit_on_way p k
arrives p J h k = ap (λ (b : Bool). b && not (is_lost J k)) (h.sent k) ∙ ap (λ (b : Bool). (nat_lt 0 k && nat_le k p.sent) && not b) (h.lost k)

-- the rule says the same of what is kept
pub network-same : (p : Packets) (J : List Rec) (r : Rec) → ArePackets p J → keeps_network (sent_count J) (may_arrive J) r ≡ keeps_network p.sent (is_audit_on_way p) r
network-same p J (rec.Sent k from to bytes) h = ap (λ (n : ℕ). nat_eq k (n + 1)) (sym h.count)
network-same p J (rec.Got k) h = arrives p J h k
network-same p J (rec.Lost k) h = arrives p J h k
network-same p J _ h = refl

-- one number more
next-one : (s : ℕ) → (nat_lt 0 (s + 1) && nat_le (s + 1) (s + 1)) ≡ true
next-one s = grind (arith, nat_tests)

no-other : (q s : ℕ) → q ≢ s + 1 → (nat_lt 0 q && nat_le q s) ≡ (nat_lt 0 q && nat_le q (s + 1))
no-other q s n = grind (arith, nat_tests)

pub packets-begin : (p : Packets) → p.sent ≡ 0 → p.lost ≡ [] → ArePackets p []
packets-begin p none empty = record {
  count = none;
  sent = λ k. sym (ap (λ (s : ℕ). nat_lt 0 k && nat_le k s) none ∙ nothing k);
  lost = λ k. sym (ap (λ (l : List (ℕ × Unit {0})). is_some (kept l k)) empty);
} where
  nothing : (k : ℕ) → (nat_lt 0 k && nat_le k 0) ≡ false
  nothing k = grind (arith, nat_tests)

-- a record is noted that keeps the rule
pub packets-more : (p : Packets) (J : List Rec) (r : Rec) → ArePackets p J → keeps_network p.sent (is_audit_on_way p) r ≡ true → ArePackets (packets_step p r) (J ++ r ∷ [])
packets-more p J (rec.Sent k from to bytes) h keeps = record {
  count = ap (λ (n : ℕ). n + 1) h.count ∙ sym (once-more sent_step 0 J (rec.Sent k from to bytes));
  sent = λ q. ap is_some (once-more (goal_step q) None J (rec.Sent k from to bytes)) ∙ by_number _ k q (mine q) (other q);
  lost = λ q. once-more (lost_step q) false J (rec.Sent k from to bytes) ∙ h.lost q;
} where
  mine : (q : ℕ) → k ≡ q → is_some (cond (nat_eq k q) (Some to) (goal_of J q)) ≡ (nat_lt 0 q && nat_le q (p.sent + 1))
  mine q e =
      let next : q ≡ p.sent + 1 = sym e ∙ eqb-true k (p.sent + 1) keeps in
      ap (λ (b : Bool). is_some (cond {A = Option Place} b (Some to) (goal_of J q))) (eq-eqb k q e) ∙ sym (subst (λ (n : ℕ). (nat_lt 0 n && nat_le n (p.sent + 1)) ≡ true) (sym next) (next-one p.sent))

  other : (q : ℕ) → k ≢ q → is_some (cond (nat_eq k q) (Some to) (goal_of J q)) ≡ (nat_lt 0 q && nat_le q (p.sent + 1))
  other q n =
      ap (λ (b : Bool). is_some (cond {A = Option Place} b (Some to) (goal_of J q))) (other_number k q n) ∙ h.sent q
      ∙ no-other q p.sent (λ e. n (eqb-true k (p.sent + 1) keeps ∙ sym e))
packets-more p J (rec.Lost k) h keeps = record {
  count = h.count ∙ sym (once-more sent_step 0 J (rec.Lost k));
  sent = λ q. ap is_some (once-more (goal_step q) None J (rec.Lost k)) ∙ h.sent q;
  lost = λ q. once-more (lost_step q) false J (rec.Lost k) ∙ by_number _ k q (mine q) (other q);
} where
  mine : (q : ℕ) → k ≡ q → cond (nat_eq k q) true (is_lost J q) ≡ is_some (kept (insert_entry nat_eq p.lost k tt) q)
  mine q e = ap (λ (b : Bool). cond b true (is_lost J q)) (eq-eqb k q e) ∙ sym (subst (λ (n : ℕ). is_some (kept (insert_entry nat_eq p.lost k tt) n) ≡ true) e (ap is_some (kept-same p.lost k tt)))

  other : (q : ℕ) → k ≢ q → cond (nat_eq k q) true (is_lost J q) ≡ is_some (kept (insert_entry nat_eq p.lost k tt) q)
  other q n = ap (λ (b : Bool). cond b true (is_lost J q)) (other_number k q n) ∙ h.lost q ∙ sym (ap is_some (kept-other p.lost k q tt (λ s. n (sym s))))
packets-more p J r h keeps = record {
  count = h.count ∙ sym (once-more sent_step 0 J r);
  sent = λ q. ap is_some (once-more (goal_step q) None J r) ∙ h.sent q;
  lost = λ q. once-more (lost_step q) false J r ∙ h.lost q;
}
