-- Each step, inner or not, and both ends of a settle lead on from a machine whose journal can be written out.
use Rattle.std.proofs.Common.{◌≡◌, ◌≤◌, ◌<◌, ℕ, zero, suc, ◌+◌, Bool, true, false, cond, List, [], ◌∷◌, ◌++◌, length, Option, Some, None, Result, Ok, Err, refl, sym, ap, ◌∙◌, subst, append-nil, arith}
use Rattle.std.specs.Prelude.{nat_le}
use Rattle.std.proofs.lemmas.Bool.{leb-false, lt-leb}
use Rattle.std.proofs.lemmas.List.{append_cancel_left}
use Rattle.std.proofs.lemmas.List.Sums.{fold-append}
use Rattle.lard_law_view.specs.Prelude.{Config, Event, HasRule, MAX_PACKETS, MAX_PACKET_BYTES, MAX_RECORDS, MAX_RESPONSE_BYTES, Machine, Rec, StepFault, What, bytes_in, happens, limit_of, limit_reached, machine_start, machine_step, passed, turned_at, unless_limit}
use Rattle.lard_base.specs.declared.event.Event.TheVariants as event
use Rattle.lard_law_view.proofs.Carried.{reached-viewed}
use Rattle.lard_law_view.proofs.Runs.{passes-more}
use Rattle.lard_journal.specs.declared.rec.Rec.TheVariants as rec
use Rattle.lard_journal.proofs.Turned.{turned_behind}
use Rattle.lard_rules.specs.declared.fault.What.TheVariants.{Answers, PacketBytes, Packets, Records}
use Rattle.lard_settling.specs.Steps.{as_inner, closing, inner_given, inner_step, settle_begun, settle_closed}
use Rattle.lard_settling.specs.Written.{AreWrittenOut, IsWrittenOut, is_settle, steps_in, steps_with, told_as, written_from, written_out, written_rec}
use Rattle.lard_settling.proofs.Alike.{Alike, AreAlike, first-done, happens-alike}
use Rattle.lard_settling.proofs.Folds.{rule-step, unmarked-written, written-append, written-short}
use Rattle.lard_settling.proofs.Plain.{AreUnmarked, HasPlainRows, step-plain}

-- ---- limits

-- nothing was reached, and the step is done
pub unless-ok : (o : Option What) (given : Result Machine StepFault) (n : Machine) → unless_limit o given ≡ Ok n → (o ≡ None) × (given ≡ Ok n)
unless-ok None given n is = (refl, is)
unless-ok (Some what) given n is = cc

-- the first of these that holds
abbrev first : Bool → Bool → Bool → Bool → Option What
first p b r a = cond p (Some Packets) (cond b (Some PacketBytes) (cond r (Some Records) (cond a (Some Answers) None)))

-- where no limit is reached, none is with fewer records
fewer-records : (packets bytes few many answered : ℕ) → few ≤ many → limit_of packets bytes many answered ≡ None → limit_of packets bytes few answered ≡ None
fewer-records packets bytes few many answered le is =
    go (nat_le MAX_PACKETS packets) (nat_le MAX_PACKET_BYTES bytes) (nat_le MAX_RECORDS many) (nat_le MAX_RECORDS few) (nat_le MAX_RESPONSE_BYTES answered)
    (λ below. lt-leb MAX_RECORDS few (let l : many < MAX_RECORDS = leb-false MAX_RECORDS many below in omega (arith, l, le))) is where
      go : (p b r s a : Bool) → (r ≡ false → s ≡ false) → first p b r a ≡ None → first p b s a ≡ None
      go true b r s a below h = cc
      go false true r s a below h = cc
      go false false true s a below h = cc
      go false false false s a below h = subst (λ t. first false false t a ≡ None) (sym (below refl)) h

-- so few records stand before a step that is done
pub few-records : (packets bytes many answered : ℕ) → limit_of packets bytes many answered ≡ None → many < MAX_RECORDS
few-records packets bytes many answered is = go (nat_le MAX_PACKETS packets) (nat_le MAX_PACKET_BYTES bytes) (nat_le MAX_RECORDS many) (nat_le MAX_RESPONSE_BYTES answered) refl is where
  go : (p b r a : Bool) → nat_le MAX_RECORDS many ≡ r → first p b r a ≡ None → many < MAX_RECORDS
  go true b r a e h = cc
  go false true r a e h = cc
  go false false true a e h = cc
  go false false false a e h = leb-false MAX_RECORDS many e

-- ---- a step

-- what is made of an answer was made of one that is done
pub given-done : {A B : Type 0} (f : A → A) (g : Result A B → Result A B) → ((a : A) → g (Ok a) ≡ Ok (f a)) → ((b : B) → g (Err b) ≡ Err b) → (x : Result A B) (n : A) → g x ≡ Ok n → (k : A) × (x ≡ Ok k) × (n ≡ f k)
given-done {A} {B} f g ok err (Ok k) n is = let made : ◌≡◌ {A = Result A B} (Ok (f k)) (Ok n) = sym (ok k) ∙ is in (k, refl, cc)
given-done {A} {B} f g ok err (Err b) n is = let made = sym (err b) ∙ is in cc

-- whatever came before, a step appends its event and other records behind it
pub step-appends : (m n : Machine) (e : Event) → HasRule e → machine_step m e ≡ Ok n → (rows : List Rec) × (n.journal ≡ m.journal ++ rec.Event (m.events + 1) e ∷ rows)
unfolding machine_step
step-appends m n e rule is =
    let done = unless-ok (limit_reached m) (happens m e) n is in
    let both : Alike m.journal m.journal m.events m.events m e (happens m e) (happens m e) = happens-alike m.journal m.journal m.events m.events m e rule in
    let other = first-done (AreAlike m.journal m.journal m.events m.events e) (happens m e) (happens m e) n both done.1 in
    (other.2.rows, ap (λ (k : Machine). k.journal) other.2.right)

-- the record of a step of this event, however it is recorded
pub record BeginsStep (e : Event) (h : Rec) : Type 0 where
  pub stands : (i : ℕ) → written_rec i h ≡ rec.Event (i + 1) e ∷ []
  pub counts : (i : ℕ) → steps_with i h ≡ i + 1

event-begins : (i : ℕ) (e : Event) → is_settle e ≡ false → BeginsStep e (rec.Event i e)
event-begins i e h = record {
  stands = λ k. ap (λ b. cond b [] (rec.Event (k + 1) e ∷ [])) h;
  counts = λ k. ap (λ b. cond b k (k + 1)) h;
}

inner-begins : (e : Event) → BeginsStep e (rec.Inner e)
inner-begins e = record { stands = λ i. refl; counts = λ i. refl }

-- a record that stands for nothing
record StandsAside (h : Rec) : Type 0 where
  pub stands : (i : ℕ) → written_rec i h ≡ []
  pub counts : (i : ℕ) → steps_with i h ≡ i

-- the journal of J and a step behind it
written-step : (J : List Rec) (e : Event) (h : Rec) (rows : List Rec) → BeginsStep e h → AreUnmarked rows
    → (written_out (J ++ h ∷ rows) ≡ written_out J ++ rec.Event (steps_in J + 1) e ∷ rows) × (steps_in (J ++ h ∷ rows) ≡ steps_in J + 1)
written-step J e h rows begins plain =
    let i : ℕ = steps_in J in
    let more = unmarked-written (steps_with i h) rows plain in
    let cut : written_out (J ++ h ∷ rows) ≡ written_out J ++ (written_rec i h ++ written_from (steps_with i h) rows) = written-append 0 J (h ∷ rows) in
    let stands : written_rec i h ++ written_from (steps_with i h) rows ≡ rec.Event (i + 1) e ∷ rows = ap (λ l. written_rec i h ++ l) more.0 ∙ ap (λ l. l ++ rows) (begins.stands i) in (
      cut ∙ ap (λ l. written_out J ++ l) stands,
      fold-append steps_with 0 J (h ∷ rows) ∙ more.1 ∙ begins.counts i,
    )

module _ (config : Config) (files : List (List ℕ × List ℕ)) where
  abbrev Is : Machine → Type 0
  Is m = IsWrittenOut config files m

  -- Behind a step stands what is recorded of it, which begins no step and closes no settle; with any record of its event it can be
  -- written out.
  pub record Leads (m : Machine) (e : Event) (n : Machine) : Type 0 where
    pub rows : List Rec
    pub journal : n.journal ≡ m.journal ++ rec.Event (m.events + 1) e ∷ rows
    pub unmarked : AreUnmarked rows
    pub events : n.events ≡ m.events + 1
    pub recorded : (h : Rec) (events : ℕ) → BeginsStep e h → Is (told_as n (m.journal ++ h ∷ rows) events)

  pub step-leads : (m n : Machine) (e : Event) → Is m → HasRule e → machine_step m e ≡ Ok n → Leads m e n
  unfolding machine_step
  step-leads m n e w rule is =
      let p : Machine = w.plain in
      let done = unless-ok (limit_reached m) (happens m e) n is in
      let same : happens (told_as p m.journal m.events) e ≡ Ok n = ap (λ (k : Machine). happens k e) (sym w.same) ∙ done.1 in
      let both : Alike p.journal m.journal p.events m.events p e (happens p e) (happens (told_as p m.journal m.events) e) = happens-alike p.journal m.journal p.events m.events p e rule in
      let other = first-done (AreAlike p.journal m.journal p.events m.events e) (happens p e) (happens (told_as p m.journal m.events) e) n both same in
      let l : Machine = other.0 in
      let a : AreAlike p.journal m.journal p.events m.events e l n = other.2 in
      let short : length p.journal ≤ length m.journal = subst (λ (J : List Rec). length J ≤ length m.journal) (sym w.journal) (written-short 0 m.journal) in
      let told : limit_of (length p.net) (bytes_in p.net) (length m.journal) p.answered ≡ None = ap (λ (k : Machine). limit_of (length k.net) (bytes_in k.net) (length m.journal) k.answered) (sym w.same) ∙ done.0 in
      let free : limit_reached p ≡ None = fewer-records (length p.net) (bytes_in p.net) (length p.journal) (length m.journal) p.answered short told in
      let steps : machine_step p e ≡ Ok l = ap (λ (o : Option What). unless_limit o (happens p e)) free ∙ other.1 in
      let plain : HasPlainRows p e l = step-plain p (reached-viewed config files p w.reached) e l rule steps in
      let rows_are : rec.Event (p.events + 1) e ∷ plain.rows ≡ rec.Event (p.events + 1) e ∷ a.rows =
      append_cancel_left p.journal (rec.Event (p.events + 1) e ∷ plain.rows) (rec.Event (p.events + 1) e ∷ a.rows) (sym plain.are ∙ ap (λ (k : Machine). k.journal) a.left) in
      let rows_same : plain.rows ≡ a.rows = cc in
      let unmarked : AreUnmarked a.rows = subst AreUnmarked rows_same plain.unmarked in
      record {
        rows = a.rows;
        journal = ap (λ (k : Machine). k.journal) a.right;
        unmarked = unmarked;
        events = ap (λ (k : Machine). k.events) a.right;
        recorded = λ h events begins.
            let all = written-step m.journal e h a.rows begins unmarked in
            record {
              plain = l;
              reached = (w.reached.0 ++ e ∷ [], passes-more w.reached.0 (machine_start config files) p l e w.reached.1 rule steps);
              same = ap (λ (k : Machine). told_as k (m.journal ++ h ∷ a.rows) events) (a.right ∙ sym (ap (λ (k : Machine). told_as k (m.journal ++ rec.Event (m.events + 1) e ∷ a.rows) (m.events + 1)) a.left));
              journal = ap (λ (k : Machine). k.journal) a.left ∙ ap (λ (J : List Rec). J ++ rec.Event (p.events + 1) e ∷ a.rows) w.journal ∙ ap (λ i. written_out m.journal ++ rec.Event (i + 1) e ∷ a.rows) w.events ∙ sym all.0;
              events = ap (λ (k : Machine). k.events) a.left ∙ ap (λ i. i + 1) w.events ∙ sym all.1;
            };
      }

  steps : (m n : Machine) (e : Event) → Is m → HasRule e → machine_step m e ≡ Ok n → Is n
  steps m n e w rule is =
      let on = step-leads m n e w rule is in
      subst (λ (J : List Rec). Is (told_as n J n.events)) (sym on.journal) (on.recorded (rec.Event (m.events + 1) e) n.events (event-begins (m.events + 1) e (rule-step e rule)))

  inner_steps : (m n : Machine) (e : Event) → Is m → HasRule e → inner_step m e ≡ Ok n → Is n
  unfolding inner_step
  inner_steps m n e w rule is =
      let x = given-done (as_inner m) (inner_given m) (λ k. refl) (λ fault. refl) (machine_step m e) n is in
      let on = step-leads m x.0 e w rule x.1 in
      let turned : turned_at (length m.journal) x.0.journal ≡ m.journal ++ rec.Inner e ∷ on.rows = ap (turned_at (length m.journal)) on.journal ∙ turned_behind m.journal (m.events + 1) e on.rows in
      subst Is (sym x.2) (subst (λ (J : List Rec). Is (told_as x.0 J m.events)) (sym turned) (on.recorded (rec.Inner e) m.events (inner-begins e)))

  -- what a settle tells of itself changes nothing
  aside : (m : Machine) (h : Rec) (events : ℕ) → StandsAside h → Is m → Is (told_as m (m.journal ++ h ∷ []) events)
  aside m h events stands w =
      let i : ℕ = steps_in m.journal in
      let cut : written_out (m.journal ++ h ∷ []) ≡ written_out m.journal ++ (written_rec i h ++ []) = written-append 0 m.journal (h ∷ []) in
      let nothing : written_rec i h ++ [] ≡ [] = ap (λ (l : List Rec). l ++ []) (stands.stands i) in
      let none : written_out (m.journal ++ h ∷ []) ≡ written_out m.journal = cut ∙ ap (λ (l : List Rec). written_out m.journal ++ l) nothing ∙ append-nil (written_out m.journal) in
      record {
        plain = w.plain;
        reached = w.reached;
        same = ap (λ (k : Machine). told_as k (m.journal ++ h ∷ []) events) w.same;
        journal = w.journal ∙ sym none;
        events = w.events ∙ sym (fold-append steps_with 0 m.journal (h ∷ []) ∙ stands.counts i);
      }

  settle : (m n : Machine) (rounds : ℕ) → Is m → settle_begun m rounds ≡ Ok n → Is n
  unfolding settle_begun
  settle m n rounds w is =
      let done = unless-ok (limit_reached m) (Ok (passed m (event.Settle rounds) [])) n is in
      let same : passed m (event.Settle rounds) [] ≡ n = cc in
      subst Is same (aside m (rec.Event (m.events + 1) (event.Settle rounds)) (m.events + 1) (record { stands = λ i. refl; counts = λ i. refl }) w)

  closes : (m : Machine) (rounds left : ℕ) → Is m → Is (settle_closed m rounds left)
  closes m rounds zero w = aside m (closing rounds zero) m.events (record { stands = λ i. refl; counts = λ i. refl }) w
  closes m rounds (suc left) w = aside m (closing rounds (suc left)) m.events (record { stands = λ i. refl; counts = λ i. refl }) w

  pub written : AreWrittenOut config files
  written = record {
    begins = record { plain = machine_start config files; reached = ([], refl); same = refl; journal = refl; events = refl };
    steps = steps;
    inner_steps = inner_steps;
    settle = settle;
    closes = closes;
  }
