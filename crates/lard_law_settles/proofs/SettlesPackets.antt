-- Packets that are on their way by the journal are there, and are not lost.
use Rattle.std.proofs.Common.{◌≡◌, ◌≤◌, ℕ, ◌+◌, Bool, true, false, cond, nat_eq, List, [], ◌∷◌, ◌++◌, Option, Some, None, refl, sym, ap, ◌∙◌, subst, arith, append-nil, append_assoc}
use Rattle.std.specs.Prelude.{IsSome}
use Rattle.std.proofs.lemmas.Bool.{true≢false}
use Rattle.std.proofs.lemmas.List.Sums.{fold-append}
use Rattle.lard_agenda.specs.Laws.{is_on_way, way_flag}
use Rattle.lard_law_view.specs.Prelude.{EachMay, IsNetOf, MayInNetwork, Packet, Place, Rec, goal_in, goal_of, goal_step, is_lost, lost_in, lost_step, packet_at, sent_count, sent_step}
use Rattle.lard_history.proofs.Seeing.{by_number, other_number, same_number}
use Rattle.lard_journal.specs.declared.rec.Rec.TheVariants as rec
use Rattle.lard_law_settles.proofs.SettlesKeeping.{HasPacket}

abbrev HasGoal : Option Place → Type 0
HasGoal goal = (to : Place) × (goal ≡ Some to)

-- What is told of packet k: where it goes is told once it was sent, it is lost only then, and on its way it is not lost.
record Tells (k : ℕ) (on : Bool) (goal : Option Place) (lost : Bool) (sent : ℕ) : Type 0 where
  lost_later : lost ≡ true → HasGoal goal
  counted : HasGoal goal → k ≤ sent
  on_way : on ≡ true → HasGoal goal × (lost ≡ false)

module _ (k : ℕ) where
  abbrev TellsOf : List Rec → Type 0
  TellsOf J = Tells k (is_on_way J k) (goal_of J k) (is_lost J k) (sent_count J)

  -- a packet is sent, this one or another
  when-sent : (on : Bool) (goal : Option Place) (lost : Bool) (sent j : ℕ) (to : Place) → j ≡ sent + 1 → Tells k on goal lost sent
      → Tells k (cond (nat_eq j k) true on) (cond (nat_eq j k) (Some to) goal) lost (sent + 1)
  when-sent on goal lost sent j to new h = by_number _ j k
      (λ same. subst (λ (b : Bool). Tells k (cond b true on) (cond b (Some to) goal) lost (sent + 1)) (sym (is same)) (first (omega (arith, new, same)) lost refl))
      (λ other. subst (λ (b : Bool). Tells k (cond b true on) (cond b (Some to) goal) lost (sent + 1)) (sym (other_number j k other))
      (record { lost_later = h.lost_later; counted = λ g. let below = h.counted g in omega (arith, below); on_way = h.on_way })) where
        is : j ≡ k → nat_eq j k ≡ true
        is same = ap (λ i. nat_eq i k) same ∙ same_number k

        first : k ≡ sent + 1 → (b : Bool) → lost ≡ b → Tells k true (Some to) lost (sent + 1)
        first now true e = let below = h.counted (h.lost_later e) in absurd (omega (arith, below, now))
        first now false e = record { lost_later = λ l. (to, refl); counted = λ g. omega (arith, now); on_way = λ o. ((to, refl), e) }

  -- it comes, or another does
  when-got : (on : Bool) (goal : Option Place) (lost : Bool) (sent j : ℕ) → Tells k on goal lost sent → Tells k (cond (nat_eq j k) false on) goal lost sent
  when-got on goal lost sent j h = go (nat_eq j k) where
    go : (b : Bool) → Tells k (cond b false on) goal lost sent
    go true = record { lost_later = h.lost_later; counted = h.counted; on_way = λ o. absurd (true≢false (sym o)) }
    go false = h

  -- it is lost, or another is
  when-lost : (on : Bool) (goal : Option Place) (lost : Bool) (sent j : ℕ) → (j ≡ k → HasGoal goal) → Tells k on goal lost sent → Tells k (cond (nat_eq j k) false on) goal (cond (nat_eq j k) true lost) sent
  when-lost on goal lost sent j known h = by_number _ j k
      (λ same. subst (λ (b : Bool). Tells k (cond b false on) goal (cond b true lost) sent) (sym (ap (λ i. nat_eq i k) same ∙ same_number k))
      (record { lost_later = λ l. known same; counted = h.counted; on_way = λ o. absurd (true≢false (sym o)) }))
      (λ other. subst (λ (b : Bool). Tells k (cond b false on) goal (cond b true lost) sent) (sym (other_number j k other)) h)

  goal-some : (o : Option Place) → IsSome o → HasGoal o
  goal-some None h = absurd (true≢false (sym h))
  goal-some (Some to) h = (to, refl)

  one-told : (past : List Rec) (r : Rec) → MayInNetwork past r → TellsOf past
      → Tells k (way_flag k (is_on_way past k) r) (goal_step k (goal_of past k) r) (lost_step k (is_lost past k) r) (sent_step (sent_count past) r)
  one-told past (rec.Sent j from to bytes) may h = when-sent (is_on_way past k) (goal_of past k) (is_lost past k) (sent_count past) j to may h
  one-told past (rec.Got j) may h = when-got (is_on_way past k) (goal_of past k) (is_lost past k) (sent_count past) j h
  one-told past (rec.Lost j) may h = when-lost (is_on_way past k) (goal_of past k) (is_lost past k) (sent_count past) j
      (λ same. goal-some (goal_of past k) (subst (λ i. IsSome (goal_of past i)) same may.0)) h
  one-told past _ may h = h

  more-told : (past : List Rec) (r : Rec) → MayInNetwork past r → TellsOf past → TellsOf (past ++ r ∷ [])
  more-told past r may h =
      subst (λ on. Tells k on (goal_of (past ++ r ∷ []) k) (is_lost (past ++ r ∷ []) k) (sent_count (past ++ r ∷ []))) (sym (fold-append (way_flag k) false past (r ∷ [])))
      (subst (λ goal. Tells k (way_flag k (is_on_way past k) r) goal (is_lost (past ++ r ∷ []) k) (sent_count (past ++ r ∷ []))) (sym (fold-append (goal_step k) None past (r ∷ [])))
      (subst (λ lost. Tells k (way_flag k (is_on_way past k) r) (goal_step k (goal_of past k) r) lost (sent_count (past ++ r ∷ []))) (sym (fold-append (lost_step k) false past (r ∷ [])))
      (subst (λ sent. Tells k (way_flag k (is_on_way past k) r) (goal_step k (goal_of past k) r) (lost_step k (is_lost past k) r) sent) (sym (fold-append sent_step 0 past (r ∷ [])))
      (one-told past r may h))))

  all-told : (past rs : List Rec) → EachMay MayInNetwork past rs → TellsOf past → TellsOf (past ++ rs)
  all-told past [] each h = subst TellsOf (sym (append-nil past)) h
  all-told past (r ∷ rs) each h = subst TellsOf (append_assoc past (r ∷ []) rs) (all-told (past ++ r ∷ []) rs each.1 (more-told past r each.0 h))

  none-told : TellsOf []
  none-told = record { lost_later = λ l. absurd (true≢false (sym l)); counted = λ g. let no : None ≡ Some g.0 = g.1 in absurd cc; on_way = λ o. absurd (true≢false (sym o)) }

  pub on-way-there : (J : List Rec) (net : List Packet) → EachMay MayInNetwork [] J → IsNetOf J net → is_on_way J k ≡ true → HasPacket net k
  on-way-there J net each is on = let told = (all-told [] J each none-told).on_way on in go (packet_at net k) refl (sym (is.goals k) ∙ told.0.1) (sym (is.lost k) ∙ told.1) where
    go : (o : Option Packet) → packet_at net k ≡ o → goal_in o ≡ Some (((all-told [] J each none-told).on_way on).0.0) → lost_in o ≡ false → HasPacket net k
    go None at goal lost = cc
    go (Some p) at goal lost = (p, at, lost)
