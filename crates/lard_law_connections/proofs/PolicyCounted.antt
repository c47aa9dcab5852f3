-- In every state that events lead to, the dispatcher's books are those that the journal tells, and each of its records stands where
-- these let it.
use Rattle.std.proofs.Common.{◌≡◌, ℕ, ◌+◌, ◌≤◌, cond, append-nil, List, [], ◌∷◌, ◌++◌, is_some, Option, Ok, refl, sym, ap, ◌∙◌, subst, ⊎_elim, arith, length-append, append_assoc, length}
use Rattle.std.proofs.lemmas.List.Sums.{fold-append}
use Rattle.std.specs.FinMap as map
use Rattle.std.specs.FinMap.{get-empty, len-empty}
use Rattle.std.specs.List.{fold}
use Rattle.std.specs.Ordering.{nat_cmp}
use Rattle.lard_law_view.specs.Prelude.{Books, Config, EachMay, Event, Front, FrontIn, FrontState, HasRule, IsFrontSound, IsReached, IsViewed, Machine, MayClose, Millis, Out, Rec, Standing, Waiting, clocked, config_check, front_gave, front_setting, front_step, machine_start, machine_step, machine_told, room_of, time_step}
use Rattle.lard_base.specs.declared.event.Event.TheVariants as event
use Rattle.lard_law_connections.proofs.PolicyAsides.{EachAfter, EachFrom, IsAside, May, MayFollow, after-may, allows-aside, from-may, may-from, note-aside, paired-append}
use Rattle.lard_law_connections.proofs.Calm.{IsCalm, first-calm, first_rows, last-calm, last_rows, told-journal}
use Rattle.lard_law_connections.proofs.Forms.{Clocks, ComesToFront, FrontStays, FrontStep, front-calm, front-form}
use Rattle.lard_law_connections.proofs.LeaversRuns.{may-come}
use Rattle.lard_law_connections.proofs.PolicyHomes.{stands-so}
use Rattle.lard_law_connections.proofs.PolicyIns.{AreIn, length-others}
use Rattle.lard_law_connections.proofs.PolicyLeading.{Leads, aside-leads, at, behind-asides, both-lead}
use Rattle.lard_law_connections.proofs.PolicyLines.{AreLined, targets}
use Rattle.lard_law_connections.proofs.PolicyLoads.{charged}
use Rattle.lard_law_connections.proofs.PolicyNumbers.{IsNumbered, reached-numbered}
use Rattle.lard_law_connections.proofs.PolicyOrder.{IsNeither, IsOrdered, aside-neither, between-ordered, none-ordered}
use Rattle.lard_law_connections.proofs.PolicyServers.{modified, served}
use Rattle.lard_law_connections.proofs.PolicyStanding.{HasNodes, all-has, blank-has, told-open}
use Rattle.lard_law_connections.proofs.PolicySteps.{step-tells}
use Rattle.lard_law_connections.proofs.PolicyTelling.{StepTells}
use Rattle.lard_law_connections.proofs.PolicyWaiting.{Leaves, asides-idle, between-leaves, idle-leaves, who}
use Rattle.lard_law_connections.specs.PolicyLine.{IsSublist, waiting, waiting_step}
use Rattle.lard_law_connections.specs.PolicyLaws.{AdmitsByRoom, AdmitsFirst, AdmitsInOrder, AdmitsToANode, ArePaired, AssignsAsStated, BooksAreTold, LineIsTold, LoadsAreAlwaysCharges, MayAdmit, MayAssign, MayRelease, MayShare, PassesOn, ReleasesWhatItTook, ServersAreTold, SharesOneBatch, StandingsAreTold, RoomIsNeverPassed, last_but_closed, last_record}
use Rattle.lard_law_connections.specs.PolicyLaws.AssignmentDue.{Nothing}
use Rattle.lard_counts.specs.Ledger.{Ledger, ledger_admitted, blank_ledger, ledger, ledger_step}
use Rattle.lard_law_connections.specs.PolicyLoads.{charges}
use Rattle.lard_dispatch.proofs.AllCalls.{some-node}
use Rattle.lard_loads.proofs.Charged.{IsCharged}
use Rattle.lard_law_view.proofs.ByteLists.{each-before}
use Rattle.lard_law_view.proofs.Carried.{carried-keep, reached-viewed}
use Rattle.lard_rules.proofs.FrontStepping.{start-sound, step-stays}
use Rattle.lard_history.proofs.Each.{Each, Each-weaker, each_append, each_then, each_weaker}
use Rattle.lard_journal.specs.declared.rec.Rec.TheVariants as rec
use Rattle.lard_loads.specs.Tally as tally
use Rattle.lard_law_view.proofs.OwnRecords.{behind}

abbrev pub Lawful : Config → List Rec → List Rec → Type 0
Lawful cfg past rs = EachMay (λ past r. May cfg (ledger cfg past) r) past rs

abbrev pub Follows : Config → List Rec → List Rec → Type 0
Follows cfg past rs = EachMay (λ past r. MayFollow (last_record past) (last_but_closed past) (ledger cfg past) r) past rs

abbrev time_in : Machine → Millis
time_in m = record { 0 = m.now }

-- The ledger of the journal has what the books have, those that are in are those of the books, and the records obey their law.
pub record IsCounted (cfg : Config) (m : Machine) : Type 0 where
  pub config_is : m.front.dispatch.config ≡ cfg
  pub sound : IsFrontSound m.front
  pub lined : AreLined (targets m.front) m.front.dispatch.books.line
  pub ins : List ℕ
  pub in_ : AreIn ins m.front.dispatch.books.loads.standings
  pub is : ledger cfg m.journal ≡ at (record { 0 = m.now }) ins m.front.dispatch.books
  pub law : Lawful cfg [] m.journal
  pub paired : ArePaired Nothing m.journal
  pub follows : Follows cfg [] m.journal
  pub line : IsSublist (who m.front.dispatch.books.line) (waiting m.journal)

module _ (cfg : Config) (m : Machine) (counted : IsCounted cfg m) where
  -- ---- the journal goes on

  on-is : (rows : List Rec) (d : Books) → (leads : Leads cfg (time_in m) counted.ins m.front.dispatch.books rows d) → ledger cfg (m.journal ++ rows) ≡ at (time_in m) leads.more d
  on-is rows d leads = fold-append ledger_step (blank_ledger cfg) m.journal rows ∙ ap (λ (l : Ledger). fold ledger_step l rows) counted.is ∙ leads.then

  on-law : (rows : List Rec) (d : Books) → Leads cfg (time_in m) counted.ins m.front.dispatch.books rows d → Lawful cfg [] (m.journal ++ rows)
  on-law rows d leads = each_append (λ past r. May cfg (ledger cfg past) r) [] m.journal rows counted.law
      (from-may cfg (May cfg) m.journal rows (subst (λ (l : Ledger). EachFrom (May cfg) l rows) (sym counted.is) leads.may))

  on-follows : (rows : List Rec) (d : Books) → Leads cfg (time_in m) counted.ins m.front.dispatch.books rows d → Follows cfg [] (m.journal ++ rows)
  on-follows rows d leads = each_append (λ past r. MayFollow (last_record past) (last_but_closed past) (ledger cfg past) r) [] m.journal rows counted.follows
      (after-may cfg m.journal rows (subst (λ (l : Ledger). EachAfter (last_record m.journal) (last_but_closed m.journal) l rows) (sym counted.is) (leads.after (last_record m.journal) (last_but_closed m.journal))))

  on-line : (rows : List Rec) (after : List Waiting) → Leaves m.front.dispatch.books.line rows after → IsSublist (who after) (waiting (m.journal ++ rows))
  on-line rows after leaves = subst (IsSublist (who after)) (sym (fold-append waiting_step [] m.journal rows)) (leaves (waiting m.journal) counted.line)

  -- ---- the front end stays

  calm-counted : (n : Machine) → n.front ≡ m.front → n.now ≡ m.now → IsCalm IsAside m n → IsCounted cfg n
  calm-counted n same now calm =
      let leads : Leads cfg (time_in m) counted.ins m.front.dispatch.books calm.0 m.front.dispatch.books = aside-leads cfg (time_in m) counted.ins m.front.dispatch.books counted.in_ calm.0 calm.2 in record {
        config_is = ap (λ (f : FrontState). f.dispatch.config) same ∙ counted.config_is;
        sound = subst IsFrontSound (sym same) counted.sound;
        lined = subst (λ (f : FrontState). AreLined (targets f) f.dispatch.books.line) (sym same) counted.lined;
        ins = leads.more;
        in_ = subst (λ (f : FrontState). AreIn leads.more f.dispatch.books.loads.standings) (sym same) leads.in_;
        is = ap (ledger cfg) calm.1 ∙ on-is calm.0 m.front.dispatch.books leads ∙ (λ i. at (record { 0 = sym now i }) leads.more (sym same i).dispatch.books);
        law = subst (Lawful cfg []) (sym calm.1) (on-law calm.0 m.front.dispatch.books leads);
        paired = subst (ArePaired Nothing) (sym calm.1) (paired-append Nothing m.journal calm.0 counted.paired leads.paired);
        follows = subst (Follows cfg []) (sym calm.1) (on-follows calm.0 m.front.dispatch.books leads);
        line = subst (λ (f : FrontState). IsSublist (who f.dispatch.books.line) (waiting n.journal)) (sym same)
            (subst (λ (J : List Rec). IsSublist (who m.front.dispatch.books.line) (waiting J)) (sym calm.1)
            (on-line calm.0 m.front.dispatch.books.line (idle-leaves m.front.dispatch.books.line calm.0 (asides-idle calm.0 calm.2))));
      }

  -- ---- it moves

  module _ (e : Event) (t : FrontState) (o : Out) (tells : StepTells (front_setting m) m.front counted.ins (t, o)) (sound : IsFrontSound t) where
    abbrev w : Machine
    w = record m { front = t }

    abbrev first : List Rec
    first = first_rows m e

    abbrev last : List Rec
    last = last_rows w Front o

    abbrev LeadsBy : List Rec → Books → Type 0
    LeadsBy rows d = Leads cfg (time_in m) counted.ins m.front.dispatch.books rows d

    noted : LeadsBy o.notes t.dispatch.books
    noted = subst (λ (c : Config). Leads c (time_in m) counted.ins m.front.dispatch.books o.notes t.dispatch.books) counted.config_is tells.leads

    lasts : Each IsAside last
    lasts = last-calm IsAside allows-aside w Front o tells.gave tells.timers

    whole : LeadsBy (first ++ o.notes ++ last) t.dispatch.books
    whole =
        let front : LeadsBy (first ++ o.notes) t.dispatch.books = behind-asides cfg (time_in m) counted.ins m.front.dispatch.books t.dispatch.books first o.notes counted.in_ (first-calm IsAside allows-aside m e) noted in
        both-lead cfg (time_in m) counted.ins m.front.dispatch.books t.dispatch.books t.dispatch.books (first ++ o.notes) last front (aside-leads cfg (time_in m) front.more t.dispatch.books front.in_ last lasts)

    moved-counted : IsCounted cfg (front_gave m e (behind e) (t, o))
    unfolding machine_told
    moved-counted =
        let J : (front_gave m e (behind e) (t, o)).journal ≡ m.journal ++ (first ++ o.notes ++ last) = told-journal w e Front o in record {
          config_is = tells.config ∙ counted.config_is;
          sound = sound;
          lined = tells.lined;
          ins = whole.more;
          in_ = whole.in_;
          is = ap (ledger cfg) J ∙ on-is (first ++ o.notes ++ last) t.dispatch.books whole;
          law = subst (Lawful cfg []) (sym J) (on-law (first ++ o.notes ++ last) t.dispatch.books whole);
          paired = subst (ArePaired Nothing) (sym J) (paired-append Nothing m.journal (first ++ o.notes ++ last) counted.paired whole.paired);
          follows = subst (Follows cfg []) (sym J) (on-follows (first ++ o.notes ++ last) t.dispatch.books whole);
          line = subst (λ (J : List Rec). IsSublist (who t.dispatch.books.line) (waiting J)) (sym J) (on-line (first ++ o.notes ++ last) t.dispatch.books.line
              (between-leaves m.front.dispatch.books.line t.dispatch.books.line first o.notes last (asides-idle first (first-calm IsAside allows-aside m e)) tells.waits (asides-idle last lasts)));
        }

  -- ---- the time moves on

  clocked-counted : (ms : ℕ) → IsCounted cfg (clocked m ms)
  unfolding clocked
  clocked-counted ms =
      let rows : List Rec = rec.Event (m.events + 1) (event.Clock ms) ∷ rec.Clock (record { 0 = m.now + ms }) ∷ [] in record {
        config_is = counted.config_is;
        sound = counted.sound;
        lined = counted.lined;
        ins = counted.ins;
        in_ = counted.in_;
        is = fold-append ledger_step (blank_ledger cfg) m.journal rows ∙ ap (λ (l : Ledger). fold ledger_step l rows) counted.is;
        law = each_append (λ past r. May cfg (ledger cfg past) r) [] m.journal rows counted.law (from-may cfg (May cfg) m.journal rows ((tt, tt), ((tt, tt), tt)));
        paired = paired-append Nothing m.journal rows counted.paired tt;
        follows = each_append (λ past r. MayFollow (last_record past) (last_but_closed past) (ledger cfg past) r) [] m.journal rows counted.follows ((tt, tt), ((tt, tt), tt));
        line = on-line rows m.front.dispatch.books.line (idle-leaves m.front.dispatch.books.line rows ((λ ys. refl), ((λ ys. refl), tt)));
      }

  -- ---- a step

  -- what comes in the step of this event may come
  abbrev MayComeBy : Event → Type 0
  MayComeBy e = (comes : FrontIn) → ComesToFront m e comes → MayClose m.front comes

  step-counted : (n : Machine) (e : Event) → MayComeBy e → IsViewed m → HasRule e → machine_step m e ≡ Ok n → IsCounted cfg n
  step-counted n e may view rule is = ⊎_elim stays (⊎_elim moves clocks) (front-form m n e is) where
    stays : FrontStays m e n → IsCounted cfg n
    stays s = calm-counted n s.front s.now (front-calm IsAside allows-aside note-aside m view e n rule is s)

    moves : FrontStep m e n → IsCounted cfg n
    moves s =
        let given : FrontState × Out = front_step (front_setting m) m.front s.comes in
        subst (IsCounted cfg) (sym s.is) (moved-counted e given.0 given.1
        (step-tells (front_setting m) m.front counted.sound counted.lined counted.ins counted.in_ s.comes (may s.comes s.came))
        (step-stays (front_setting m) m.front s.comes (may s.comes s.came) counted.sound).sound)

    clocks : Clocks m e n → IsCounted cfg n
    clocks c = subst (IsCounted cfg) (sym c.is) (clocked-counted c.ms)

  -- ---- in its order

  abbrev Line : List Waiting
  Line = m.front.dispatch.books.line

  abbrev InOrder : Machine → Type 0
  InOrder n = (rs : List Rec) × (n.journal ≡ m.journal ++ rs) × Each (AdmitsFirst Line) rs × Each (PassesOn Line rs) rs

  neither : (rs : List Rec) → Each IsAside rs → Each IsNeither rs
  neither rs asides = Each-weaker IsAside IsNeither aside-neither rs asides

  moved-ordered : (e : Event) (t : FrontState) (o : Out) → StepTells (front_setting m) m.front counted.ins (t, o) → InOrder (front_gave m e (behind e) (t, o))
  moved-ordered e t o tells =
      let w : Machine = record m { front = t } in
      let all : IsOrdered Line (first_rows m e ++ o.notes ++ last_rows w Front o) =
      between-ordered Line (first_rows m e) o.notes (last_rows w Front o) (neither (first_rows m e) (first-calm IsAside allows-aside m e)) tells.ordered (neither (last_rows w Front o) (last-calm IsAside allows-aside w Front o tells.gave tells.timers)) in
      (first_rows m e ++ o.notes ++ last_rows w Front o, told-journal w e Front o, all.first, all.passes)

  clocked-ordered : (ms : ℕ) → InOrder (clocked m ms)
  unfolding clocked
  clocked-ordered ms =
      let rows : List Rec = rec.Event (m.events + 1) (event.Clock ms) ∷ rec.Clock (record { 0 = m.now + ms }) ∷ [] in
      let all : IsOrdered Line rows = none-ordered Line rows (tt, (tt, tt)) in (rows, refl, all.first, all.passes)

  pub step-ordered : (n : Machine) (e : Event) → MayComeBy e → IsViewed m → HasRule e → machine_step m e ≡ Ok n → InOrder n
  step-ordered n e may view rule is = ⊎_elim stays (⊎_elim moves clocks) (front-form m n e is) where
    by-calm : IsCalm IsAside m n → InOrder n
    by-calm calm = let all : IsOrdered Line calm.0 = none-ordered Line calm.0 (neither calm.0 calm.2) in (calm.0, calm.1, all.first, all.passes)

    stays : FrontStays m e n → InOrder n
    stays s = by-calm (front-calm IsAside allows-aside note-aside m view e n rule is s)

    moves : FrontStep m e n → InOrder n
    moves s =
        let given : FrontState × Out = front_step (front_setting m) m.front s.comes in
        subst InOrder (sym s.is) (moved-ordered e given.0 given.1
        (step-tells (front_setting m) m.front counted.sound counted.lined counted.ins counted.in_ s.comes (may s.comes s.came)))

    clocks : Clocks m e n → InOrder n
    clocks c = subst InOrder (sym c.is) (clocked-ordered c.ms)

-- ---- every state

none-in : AreIn [] (map.empty {K = ℕ} {X = Standing} {R = nat_cmp})
none-in = record {
  many = sym (len-empty nat_cmp Standing);
  each = λ q. sym (ap (λ (o : Option Standing). cond (is_some o) 1 0) (get-empty nat_cmp q));
}

module _ (config : Config) (files : List (List ℕ × List ℕ)) (checked : config_check config ≡ Ok tt) where
  start-counted : IsCounted config (machine_start config files)
  start-counted = record { config_is = refl; sound = start-sound config checked; lined = tt; ins = []; in_ = none-in; is = refl; law = tt; paired = tt; follows = tt; line = tt }

  pub reached-counted : (m : Machine) → IsReached config files m → IsCounted config m
  reached-counted m r = carried-keep config files (IsCounted config) start-counted
      (λ k n e on counted rule is. step-counted config k counted n e (may-come config files k on.reached e) on.view rule is) m r

-- ---- what is told

pub admits-by-room : AdmitsByRoom
admits-by-room config files m checked r =
    each_weaker (λ past r. May config (ledger config past) r) (λ past r. MayAdmit config (ledger config past) r) (λ past r h. h.0) [] m.journal (reached-counted config files checked m r).law

pub assigns-as-stated : AssignsAsStated
assigns-as-stated config files m checked r =
    each_weaker (λ past r. May config (ledger config past) r) (λ past r. MayAssign config (ledger config past) r) (λ past r h. h.1) [] m.journal (reached-counted config files checked m r).law

pub admits-to-a-node : AdmitsToANode
admits-to-a-node config files m checked r = (reached-counted config files checked m r).paired

pub admits-in-order : AdmitsInOrder
admits-in-order config files m n e checked r rule is =
    step-ordered config m (reached-counted config files checked m r) n e (may-come config files m r e) (reached-viewed config files m r) rule is

pub shares-one-batch : SharesOneBatch
shares-one-batch config files m checked r =
    each_weaker (λ past r. MayFollow (last_record past) (last_but_closed past) (ledger config past) r) (λ past r. MayShare (last_record past) (ledger config past) r) (λ past r h. h.0) [] m.journal (reached-counted config files checked m r).follows

pub releases-what-it-took : ReleasesWhatItTook
releases-what-it-took config files m checked r =
    each_weaker (λ past r. MayFollow (last_record past) (last_but_closed past) (ledger config past) r) (λ past r. MayRelease (last_but_closed past) r) (λ past r h. h.1) [] m.journal (reached-counted config files checked m r).follows

pub books-are-told : BooksAreTold
books-are-told config files m checked r =
    let counted : IsCounted config m = reached-counted config files checked m r in
    let many : tally.admitted m.front.dispatch.books.loads ≡ ledger_admitted (ledger config m.journal) = sym counted.in_.many ∙ sym (ap (λ (l : Ledger). length l.ins) counted.is) in (
      sym (ap (λ (l : Ledger). l.loads) counted.is),
      sym (ap (λ (l : Ledger). l.sets) counted.is),
      many,
      λ some. sym many ∙ counted.sound.books.full some ∙ ap room_of counted.config_is,
    )

pub line-is-told : LineIsTold
line-is-told config files m checked r = (reached-counted config files checked m r).line

-- ---- the room

module _ (cfg : Config) where
  one-within : (l : Ledger) (r : Rec) → MayAdmit cfg l r → ledger_admitted l ≤ room_of cfg → ledger_admitted (ledger_step l r) ≤ room_of cfg
  one-within l (rec.Admitted c) may within = let less = may.0 in let more = length-append l.ins (c ∷ []) in omega (arith, less, more)
  one-within l (rec.Released c) may within = let sum = length-others c l.ins in omega (arith, sum, within)
  one-within l _ may within = within

  all-within : (past rs : List Rec) → EachMay (λ past r. MayAdmit cfg (ledger cfg past) r) past rs → ledger_admitted (ledger cfg past) ≤ room_of cfg → ledger_admitted (ledger cfg (past ++ rs)) ≤ room_of cfg
  all-within past [] e within = subst (λ (J : List Rec). ledger_admitted (ledger cfg J) ≤ room_of cfg) (sym (append-nil past)) within
  all-within past (r ∷ rs) e within = subst (λ (J : List Rec). ledger_admitted (ledger cfg J) ≤ room_of cfg) (append_assoc past (r ∷ []) rs)
      (all-within (past ++ r ∷ []) rs e.1 (subst (λ (l : Ledger). ledger_admitted l ≤ room_of cfg) (sym (fold-append ledger_step (blank_ledger cfg) past (r ∷ []))) (one-within (ledger cfg past) r e.0 within)))

pub stays-within : RoomIsNeverPassed
stays-within config files m checked r past later is =
    all-within config [] past (each_then (λ past r. MayAdmit config (ledger config past) r) m.journal past later is (admits-by-room config files m checked r)) (omega arith)

-- ---- loads

module _ (config : Config) (files : List (List ℕ × List ℕ)) (m : Machine) (checked : config_check config ≡ Ok tt) (r : IsReached config files m) (past later : List Rec) (is : m.journal ≡ past ++ later) where
  past-may : EachFrom (May config) (blank_ledger config) past
  past-may = may-from config (May config) [] past (each_then (λ past r. May config (ledger config past) r) m.journal past later is (reached-counted config files checked m r).law)

  past-numbered : Each IsNumbered past
  past-numbered = each-before IsNumbered past later (subst (Each IsNumbered) is (reached-numbered config files m r))

  pub past-has : HasNodes config (ledger config past)
  past-has = all-has config (some-node config checked) (blank_ledger config) past (blank-has config checked) past-may

  pub past-charged : IsCharged (ledger config past).loads (charges past)
  past-charged = charged config (some-node config checked) past (blank-has config checked) past-numbered past-may

pub loads-are-charges : LoadsAreAlwaysCharges
loads-are-charges config files m checked r past later is =
    let has : HasNodes config (ledger config past) = past-has config files m checked r past later is in
    ((past-charged config files m checked r past later is).loads, has.nodes, told-open config past)

-- the time of the ledger is the last that was told
one-time : (l : Ledger) (t : ℕ) (r : Rec) → l.now.0 ≡ t → (ledger_step l r).now.0 ≡ time_step t r
one-time l t (rec.Clock time) h = refl
one-time l t (rec.Admitted c) h = h
one-time l t (rec.Released c) h = h
one-time l t (rec.AssignedFirst c r path n add remove) h = h
one-time l t (rec.AssignedLater c r path n add size queue) h = h
one-time l t (rec.BatchOver c) h = h
one-time l t (rec.Closed n) h = h
one-time l t _ h = h

all-times : (l : Ledger) (t : ℕ) (rs : List Rec) → l.now.0 ≡ t → (fold ledger_step l rs).now.0 ≡ fold time_step t rs
all-times l t [] h = h
all-times l t (r ∷ rs) h = all-times (ledger_step l r) (time_step t r) rs (one-time l t r h)

pub servers-are-told : ServersAreTold
servers-are-told config files m checked r past later is = (
  served config (some-node config checked) past (blank-has config checked) (past-may config files m checked r past later is),
  modified config (some-node config checked) past,
  all-times (blank_ledger config) 0 past refl,
)

pub standings-are-told : StandingsAreTold
standings-are-told config files m checked r past later is = stands-so config past
