-- What a place does in a step is in range.
use Rattle.std.proofs.Common.{ℕ, ◌≤◌, ◌^◌, List, [], ◌∷◌, ◌++◌, length, nat_lt, Bool, true, false, cond, arith, length-append}
use Rattle.std.specs.List.{flat_map}
use Rattle.lard_law_view.specs.Prelude.{IsNumber, IsPlaceInRange, IsRecordInRange, Out, Place, Rec, TimerKind, in_order, kind_change, nothing_done, timer_kinds}
use Rattle.lard_laws.proofs.RecordsLetters.{IsLetter}
use Rattle.lard_laws.proofs.RecordsTurns.{IsTurn, change-range}
use Rattle.lard_history.proofs.Each.{Each, Each-append}

pub record OutFits (from : Place) (o : Out) : Type 0 where
  pub notes : Each IsRecordInRange o.notes
  pub segments : Each (IsLetter from) o.segments
  pub few : length o.segments ≤ 2 ^ 32
  pub gave : Each IsRecordInRange o.gave
  pub messages : Each (IsLetter from) o.messages
  pub few_messages : length o.messages ≤ 2 ^ 32
  pub timers : Each IsRecordInRange o.timers

pub nothing-fits : (from : Place) → OutFits from nothing_done
nothing-fits from = record { notes = tt; segments = tt; few = omega arith; gave = tt; messages = tt; few_messages = omega arith; timers = tt }

-- a turn, with the records of its timers
pub turn-fits : (from : Place) (notes : List Rec) (segments : List (Place × List ℕ)) (gave : List Rec) (messages : List (Place × List ℕ)) (timers : List Rec) (answered : ℕ)
    → IsTurn from notes segments gave messages → Each IsRecordInRange timers → OutFits from (record { notes = notes; segments = segments; gave = gave; messages = messages; timers = timers; answered = answered })
turn-fits from notes segments gave messages timers answered h t = let few = h.few in let few_messages = h.few_messages in
    record { notes = h.notes; segments = h.segments; few = omega (arith, few); gave = h.gave; messages = h.messages; few_messages = omega (arith, few_messages); timers = t }

-- two turns in one step
pub both-fit : (from : Place) (n1 n2 : List Rec) (s1 s2 : List (Place × List ℕ)) (g1 g2 : List Rec) (m1 m2 : List (Place × List ℕ)) (timers : List Rec) (answered : ℕ)
    → IsTurn from n1 s1 g1 m1 → IsTurn from n2 s2 g2 m2 → Each IsRecordInRange timers
    → OutFits from (record { notes = n1 ++ n2; segments = s1 ++ s2; gave = g1 ++ g2; messages = m1 ++ m2; timers = timers; answered = answered })
both-fit from n1 n2 s1 s2 g1 g2 m1 m2 timers answered h k t =
    let a = h.few in
    let b = k.few in
    let both = length-append s1 s2 in
    let c = h.few_messages in
    let d = k.few_messages in
    let too = length-append m1 m2 in
    record {
      notes = Each-append IsRecordInRange n1 n2 h.notes k.notes;
      segments = Each-append (IsLetter from) s1 s2 h.segments k.segments;
      few = omega (arith, a, b, both);
      gave = Each-append IsRecordInRange g1 g2 h.gave k.gave;
      messages = Each-append (IsLetter from) m1 m2 h.messages k.messages;
      few_messages = omega (arith, c, d, too);
      timers = t;
    }

-- the records of timers that changed, kind by kind
pub timers-range : (from : Place) (c : ℕ) (was is : TimerKind → Bool) → IsPlaceInRange from → IsNumber c → Each IsRecordInRange (flat_map (λ kind. kind_change from c kind (was kind) (is kind)) timer_kinds)
timers-range from c was is h n = go timer_kinds where
  go : (ks : List TimerKind) → Each IsRecordInRange (flat_map (λ kind. kind_change from c kind (was kind) (is kind)) ks)
  go [] = tt
  go (k ∷ ks) = Each-append IsRecordInRange (kind_change from c k (was k) (is k)) (flat_map (λ kind. kind_change from c kind (was kind) (is kind)) ks) (change-range from c k (was k) (is k) h n) (go ks)

pub ordered-range : (c d : ℕ) (cs ds : List Rec) → Each IsRecordInRange cs → Each IsRecordInRange ds → Each IsRecordInRange (in_order c d cs ds)
ordered-range c d cs ds h k = go (nat_lt d c) where
  go : (b : Bool) → Each IsRecordInRange (cond b (ds ++ cs) (cs ++ ds))
  go true = Each-append IsRecordInRange ds cs k h
  go false = Each-append IsRecordInRange cs ds h k
