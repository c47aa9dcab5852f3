-- Inner steps, and the steps of the machine whose journal is written out: the one makes the same steps as the other.
use Rattle.std.proofs.Common.{◌≡◌, ◌≤◌, ◌<◌, ℕ, ◌+◌, Bool, true, false, cond, List, [], ◌∷◌, ◌++◌, length, Option, Some, None, Result, Ok, Err, refl, sym, ap, ◌∙◌, subst, arith, length-append}
use Rattle.std.specs.Prelude.{nat_le}
use Rattle.std.proofs.lemmas.Bool.{leb-false, lt-leb}
use Rattle.std.proofs.lemmas.List.{append_cancel_left}
use Rattle.std.proofs.lemmas.List.Sums.{fold-append}
use Rattle.std.specs.List.{fold}
use Rattle.lard_law_view.specs.Prelude.{Config, Event, HasRule, MAX_PACKETS, MAX_PACKET_BYTES, MAX_RECORDS, MAX_RESPONSE_BYTES, Machine, Passes, Rec, StepFault, What, bytes_in, happens, limit_of, limit_reached, machine_step, turned_at, unless_limit}
use Rattle.lard_base.specs.declared.event.Event.TheVariants as event
use Rattle.lard_history.proofs.Each.{Each}
use Rattle.lard_journal.specs.declared.rec.Rec.TheVariants as rec
use Rattle.lard_journal.proofs.Turned.{turned_behind}
use Rattle.lard_rules.specs.declared.fault.What.TheVariants.{Answers, PacketBytes, Packets, Records}
use Rattle.lard_law_settles.proofs.SettlesFiring.{IsInner, inner-rule}
use Rattle.lard_law_settles.proofs.SettlesGiven.{InnerRows, inner-rows}
use Rattle.lard_settling.specs.Settling.{Stop, all_inner}
use Rattle.lard_settling.specs.Steps.{as_inner, inner_given, inner_step}
use Rattle.lard_settling.specs.Written.{IsWrittenOut, is_settle, steps_in, steps_with, told_as, written_from, written_out, written_rec}
use Rattle.lard_settling.proofs.Alike.{Alike, AreAlike, first-done, happens-alike}
use Rattle.lard_settling.proofs.Folds.{unmarked-written, written-append, written-short}
use Rattle.lard_settling.proofs.Plain.{AreUnmarked}
use Rattle.lard_settling.proofs.Written.{Leads, given-done, step-leads, unless-ok, written}

-- ---- limits

abbrev first : Bool → Bool → Bool → Bool → Option What
first p b r a = cond p (Some Packets) (cond b (Some PacketBytes) (cond r (Some Records) (cond a (Some Answers) None)))

-- where no limit is reached, none is with fewer records
fewer-records : (packets bytes few many answered : ℕ) → few ≤ many → limit_of packets bytes many answered ≡ None → limit_of packets bytes few answered ≡ None
fewer-records packets bytes few many answered le is =
    go (nat_le MAX_PACKETS packets) (nat_le MAX_PACKET_BYTES bytes) (nat_le MAX_RECORDS many) (nat_le MAX_RECORDS few) (nat_le MAX_RESPONSE_BYTES answered)
    (λ below. lt-leb MAX_RECORDS few (let l : many < MAX_RECORDS = leb-false MAX_RECORDS many below in omega (arith, l, le))) is where
      go : (p b r s a : Bool) → (r ≡ false → s ≡ false) → first p b r a ≡ None → first p b s a ≡ None
      go true b r s a below h = cc
      go false true r s a below h = cc
      go false false true s a below h = cc
      go false false false s a below h = subst (λ t. first false false t a ≡ None) (sym (below refl)) h

-- ---- a step

-- what is not done is not done
pub err-ok : {A B : Type 0} (b : B) (a : A) → ◌≡◌ {A = Result A B} (Err b) (Ok a) → ⊥
err-ok b a e = cc

-- what is done leads to one state
pub ok-same : {A B : Type 0} (a b : A) → ◌≡◌ {A = Result A B} (Ok a) (Ok b) → a ≡ b
ok-same a b e = cc

-- the journal of J and an inner step behind it
inner-written : (J : List Rec) (e : Event) (rows : List Rec) → AreUnmarked rows
    → (written_out (J ++ rec.Inner e ∷ rows) ≡ written_out J ++ rec.Event (steps_in J + 1) e ∷ rows) × (steps_in (J ++ rec.Inner e ∷ rows) ≡ steps_in J + 1)
inner-written J e rows plain =
    let i : ℕ = steps_in J in
    let more = unmarked-written (i + 1) rows plain in (
      written-append 0 J (rec.Inner e ∷ rows) ∙ ap (λ (l : List Rec). written_out J ++ rec.Event (i + 1) e ∷ l) more.0,
      fold-append steps_with 0 J (rec.Inner e ∷ rows) ∙ more.1,
    )

-- the journal of J and an event behind it, which is no settle
event-written : (J : List Rec) (k : ℕ) (e : Event) (rows : List Rec) → is_settle e ≡ false → AreUnmarked rows
    → (written_out (J ++ rec.Event k e ∷ rows) ≡ written_out J ++ rec.Event (steps_in J + 1) e ∷ rows) × (steps_in (J ++ rec.Event k e ∷ rows) ≡ steps_in J + 1)
event-written J k e rows nots plain =
    let i : ℕ = steps_in J in
    let count : steps_with i (rec.Event k e) ≡ i + 1 = ap (λ t. cond t i (i + 1)) nots in
    let begins : written_rec i (rec.Event k e) ≡ rec.Event (i + 1) e ∷ [] = ap (λ t. cond t [] (rec.Event (i + 1) e ∷ [])) nots in
    let more = unmarked-written (i + 1) rows plain in (
      written-append 0 J (rec.Event k e ∷ rows) ∙ ap (λ (l : List Rec). written_out J ++ (l ++ written_from (steps_with i (rec.Event k e)) rows)) begins
          ∙ ap (λ j. written_out J ++ rec.Event (i + 1) e ∷ written_from j rows) count ∙ ap (λ (l : List Rec). written_out J ++ rec.Event (i + 1) e ∷ l) more.0,
      fold-append steps_with 0 J (rec.Event k e ∷ rows) ∙ ap (λ j. fold steps_with j rows) count ∙ more.1,
    )

-- an event that the machine does is no settle
rule-plain : (e : Event) → HasRule e → is_settle e ≡ false
rule-plain (event.Settle rounds) h = absurd h
rule-plain _ h = refl

module _ (config : Config) (files : List (List ℕ × List ℕ)) where
  abbrev pub Is : Machine → Type 0
  Is m = IsWrittenOut config files m

  -- the machine without settles is m but for how the journal is told
  plain-is : (n : Machine) (v : Is n) → v.plain ≡ told_as n v.plain.journal v.plain.events
  plain-is n v = sym (ap (λ (k : Machine). told_as k v.plain.journal v.plain.events) v.same)

  -- behind a step that leads to k, told as record h, stands n
  module _ (m n k : Machine) (e : Event) (w : Is m) (v : Is n) (rule : HasRule e) (done : machine_step m e ≡ Ok k) (h : Rec)
      (out : (rows : List Rec) → AreUnmarked rows
      → (written_out (m.journal ++ h ∷ rows) ≡ written_out m.journal ++ rec.Event (steps_in m.journal + 1) e ∷ rows) × (steps_in (m.journal ++ h ∷ rows) ≡ steps_in m.journal + 1))
      (turned : (rows : List Rec) → k.journal ≡ m.journal ++ rec.Event (m.events + 1) e ∷ rows → n.journal ≡ m.journal ++ h ∷ rows) (but : (J : List Rec) (i : ℕ) → told_as n J i ≡ told_as k J i) where
    plain-step : machine_step w.plain e ≡ Ok v.plain
    unfolding machine_step
    plain-step =
        let p : Machine = w.plain in
        let on : Leads config files m e k = step-leads config files m k e w rule done in
        let free = unless-ok (limit_reached m) (happens m e) k done in
        let same : happens (told_as p m.journal m.events) e ≡ Ok k = ap (λ (x : Machine). happens x e) (sym w.same) ∙ free.1 in
        let both : Alike p.journal m.journal p.events m.events p e (happens p e) (happens (told_as p m.journal m.events) e) = happens-alike p.journal m.journal p.events m.events p e rule in
        let other = first-done (AreAlike p.journal m.journal p.events m.events e) (happens p e) (happens (told_as p m.journal m.events) e) k both same in
        let l : Machine = other.0 in
        let a : AreAlike p.journal m.journal p.events m.events e l k = other.2 in
        let short : length p.journal ≤ length m.journal = subst (λ (J : List Rec). length J ≤ length m.journal) (sym w.journal) (written-short 0 m.journal) in
        let told : limit_of (length p.net) (bytes_in p.net) (length m.journal) p.answered ≡ None = ap (λ (x : Machine). limit_of (length x.net) (bytes_in x.net) (length m.journal) x.answered) (sym w.same) ∙ free.0 in
        let none : limit_reached p ≡ None = fewer-records (length p.net) (bytes_in p.net) (length p.journal) (length m.journal) p.answered short told in
        let steps : machine_step p e ≡ Ok l = ap (λ (o : Option What). unless_limit o (happens p e)) none ∙ other.1 in
        let rows_are : rec.Event (m.events + 1) e ∷ on.rows ≡ rec.Event (m.events + 1) e ∷ a.rows =
        append_cancel_left m.journal (rec.Event (m.events + 1) e ∷ on.rows) (rec.Event (m.events + 1) e ∷ a.rows) (sym on.journal ∙ ap (λ (x : Machine). x.journal) a.right) in
        let rows_same : on.rows ≡ a.rows = cc in
        let turned_is : n.journal ≡ m.journal ++ h ∷ on.rows = turned on.rows on.journal in
        let out_is = out on.rows on.unmarked in
        let journal : p.journal ++ rec.Event (p.events + 1) e ∷ a.rows ≡ v.plain.journal =
        ap (λ (J : List Rec). J ++ rec.Event (p.events + 1) e ∷ a.rows) w.journal ∙ ap (λ i. written_out m.journal ++ rec.Event (i + 1) e ∷ a.rows) w.events
        ∙ ap (λ (rs : List Rec). written_out m.journal ++ rec.Event (steps_in m.journal + 1) e ∷ rs) (sym rows_same) ∙ sym out_is.0 ∙ ap written_out (sym turned_is) ∙ sym v.journal in
        let events : p.events + 1 ≡ v.plain.events = ap (λ i. i + 1) w.events ∙ sym out_is.1 ∙ ap steps_in (sym turned_is) ∙ sym v.events in
        let to : told_as a.base v.plain.journal v.plain.events ≡ v.plain =
        ap (λ (x : Machine). told_as x v.plain.journal v.plain.events) (sym a.right)
        ∙ sym (but v.plain.journal v.plain.events) ∙ sym (plain-is n v) in
        let last : l ≡ v.plain = a.left ∙ (λ i. told_as a.base (journal i) (events i)) ∙ to in
        steps ∙ ap (λ (x : Machine). Ok x) last

  -- an inner step is a step of that machine too
  pub inner-plain : (m n : Machine) (e : Event) (w : Is m) → HasRule e → inner_step m e ≡ Ok n → (v : Is n) × (machine_step w.plain e ≡ Ok v.plain)
  unfolding inner_step
  inner-plain m n e w rule is =
      let v : Is n = (written config files).inner_steps m n e w rule is in
      let x = given-done (as_inner m) (inner_given m) (λ k. refl) (λ fault. refl) (machine_step m e) n is in (
        v,
        plain-step m n x.0 e w v rule x.1 (rec.Inner e) (λ rows unmarked. inner-written m.journal e rows unmarked)
            (λ rows at. ap (λ (k : Machine). k.journal) x.2 ∙ ap (turned_at (length m.journal)) at ∙ turned_behind m.journal (m.events + 1) e rows) (λ J i. ap (λ (k : Machine). told_as k J i) x.2),
      )

  -- and so is a step of an event
  pub event-plain : (m n : Machine) (e : Event) (w : Is m) → HasRule e → machine_step m e ≡ Ok n → (v : Is n) × (machine_step w.plain e ≡ Ok v.plain)
  event-plain m n e w rule is =
      let v : Is n = (written config files).steps m n e w rule is in
      (v, plain-step m n n e w v rule is (rec.Event (m.events + 1) e) (λ rows unmarked. event-written m.journal (m.events + 1) e rows (rule-plain e rule) unmarked) (λ rows at. at) (λ J i. refl))

  -- ---- lists of inner steps

  -- What inner steps of these events lead to, as far as it is told in the journal.
  pub record Beside (m : Machine) (w : Is m) (es : List Event) (n : Machine) : Type 0 where
    pub is : Is n
    pub passes : Passes w.plain es is.plain
    pub longer : length m.journal + length es ≤ length n.journal
    pub none : es ≡ [] → n ≡ m

  nothing-beside : (m n : Machine) (w : Is m) → n ≡ m → Beside m w [] n
  nothing-beside m n w same = subst (Beside m w []) (sym same) (record { is = w; passes = refl; longer = omega arith; none = λ e. refl })

  inner-longer : (m n : Machine) (e : Event) → Is m → HasRule e → inner_step m e ≡ Ok n → length m.journal + 1 ≤ length n.journal
  inner-longer m n e w rule is =
      let on : InnerRows m e n = inner-rows config files m n e w rule is in
      let len : length n.journal ≡ length (m.journal ++ rec.Inner e ∷ on.rows) = ap (λ (J : List Rec). length J) on.are in
      let sum : length (m.journal ++ rec.Inner e ∷ on.rows) ≡ length m.journal + length (rec.Inner e ∷ on.rows) = length-append m.journal (rec.Inner e ∷ on.rows) in
      omega (arith, len, sum)

  -- one inner step before others
  more-beside : (m k n : Machine) (e : Event) (es : List Event) (w : Is m) (v : Is k) → HasRule e → machine_step w.plain e ≡ Ok v.plain → length m.journal + 1 ≤ length k.journal → Beside k v es n
      → Beside m w (e ∷ es) n
  more-beside m k n e es w v rule step more rest =
      let longer = rest.longer in
      record { is = rest.is; passes = (v.plain, rule, step, rest.passes); longer = omega (arith, more, longer); none = λ no. cc }

  first-beside : (m k n : Machine) (e : Event) (es : List Event) (w : Is m) → HasRule e → inner_step m e ≡ Ok k → ((v : Is k) → Beside k v es n) → Beside m w (e ∷ es) n
  first-beside m k n e es w rule s later =
      let one = inner-plain m k e w rule s in more-beside m k n e es w one.0 rule one.1 (inner-longer m k e w rule s) (later one.0)

  module _ (m n : Machine) (e : Event) (es : List Event) (w : Is m) (rule : HasRule e) (later : (k : Machine) (v : Is k) → all_inner k es ≡ Ok n → Beside k v es n) where
    begun-beside : (x : Result Machine StepFault) → inner_step m e ≡ x → (elim x as (λ r. Result Machine Stop) [ Err fault ↦ Err (m, fault) | Ok k ↦ all_inner k es ]) ≡ Ok n → Beside m w (e ∷ es) n
    begun-beside (Err fault) s h = absurd (err-ok (m, fault) n h)
    begun-beside (Ok k) s h = first-beside m k n e es w rule s (λ v. later k v h)

  pub all-beside : (es : List Event) (m n : Machine) (w : Is m) → Each IsInner es → all_inner m es ≡ Ok n → Beside m w es n
  unfolding all_inner
  all-beside [] m n w inner is = nothing-beside m n w (sym (ok-same m n is))
  all-beside (e ∷ es) m n w inner is = begun-beside m n e es w (inner-rule e inner.0) (λ k v h. all-beside es k n v inner.1 h) (inner_step m e) refl is
