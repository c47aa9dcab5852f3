-- Who holds: a client that does was told to, and none does behind the takes of a settle, nor later.
use Rattle.std.proofs.Common.{◌≡◌, ◌⊎◌, inl, inr, ⊎_elim, ℕ, ◌&&◌, ◌||◌, nat_eq, not, Bool, true, false, cond, List, [], ◌∷◌, ◌++◌, map, filter, Option, Some, None, Ok, refl, sym, ap, ◌∙◌, subst}
use Rattle.std.proofs.lemmas.Bool.{and_parts, both_ways, cond_both, true≢false}
use Rattle.std.proofs.lemmas.List.Sums.{fold-append}
use Rattle.std.specs.FinMap as table
use Rattle.std.specs.FinMap.{entries, get, get-entries}
use Rattle.std.specs.FinMap.Entries.{find}
use Rattle.std.specs.List.{fold, list_all}
use Rattle.std.specs.Ordering.{eq_by_cmp, nat_cmp}
use Rattle.lard_agenda.proofs.Holders.{holders_are_told}
use Rattle.lard_agenda.specs.Agenda.{agenda_of, holders}
use Rattle.lard_agenda.specs.Laws.{event_flag, holds_flag, is_held}
use Rattle.lard_law_view.specs.Prelude.{AreOwn, ClientBlock, ClientRules, Config, Conn, Event, Has, HasRule, IsReached, IsStep, IsViewed, Machine, Move, Passes, Rec, Rules, Seen, Setting, Station, Turn, aborted, client_acts, client_opened, client_speaks, client_takes, client_writes, client_written, conn, event_seen, grown, is_client_open, is_established, is_holding, is_open_in, is_own, is_writing, machine_start, machine_step, machine_told, part_of, setting_of, shut_down, silent, speaking}
use Rattle.lard_base.specs.declared.event.Event.TheVariants as event
use Rattle.lard_rules.specs.declared.fault.Refusal.TheVariants.{NoClient}
use Rattle.lard_rules.specs.declared.fault.StepFault.TheVariants.{Refused}
use Rattle.lard_law_view.proofs.After.{IsAfter, step-after}
use Rattle.lard_law_view.proofs.Carried.{carried-keep, reached-viewed}
use Rattle.lard_law_view.proofs.Frames.{Owed, by_clients}
use Rattle.lard_law_view.proofs.Runs.{passes-more}
use Rattle.lard_law_view.proofs.Steps.{IsShown, step_comes}
use Rattle.lard_history.proofs.Each.{Each}
use Rattle.lard_history.proofs.Seeing.{by_number, other_number, same_number}
use Rattle.lard_journal.specs.declared.rec.Rec.TheVariants as rec
use Rattle.lard_law_progress.proofs.Clients.{speaks-told}
use Rattle.lard_laws.proofs.ClientsAsides.{same-station}
use Rattle.lard_law_connections.proofs.Happened.{done-happens}
use Rattle.lard_law_settles.proofs.EnoughBeside.{Beside, Is, err-ok, ok-same}
use Rattle.lard_law_settles.proofs.EnoughHolding.{fires-keeps, fires-phase, gets-keeps, gets-phase, holding-then, speaks-keeps}
use Rattle.lard_settling.specs.Left.{holds_there, is_holder}
use Rattle.lard_settling.specs.Settling.{takes}
use Rattle.lard_settling.proofs.Folds.{TakesSteps, fold-written}
use Rattle.lard_table.proofs.Map.{get_inserted}
use Rattle.lard_law_view.proofs.Deliveries.{IsHead}

-- ---- turns of a client

none-of : (a b : Bool) → b ≡ false → a && b ≡ false
none-of true b e = e
none-of false b e = refl

free-says : (y : ClientBlock) → y.holding ≡ false → is_holding (client_speaks y).1 ≡ false
free-says y e = none-of (is_client_open (client_speaks y).1) (client_speaks y).1.holding ((speaks-keeps y).holding ∙ e)

closed-says : (y : ClientBlock) → is_client_open y ≡ false → is_holding (client_speaks y).1 ≡ false
closed-says y shut = ap (λ o. o && (client_speaks y).1.holding) (ap is_open_in (speaks-told y).phase ∙ shut)

says-holding : (y : ClientBlock) → is_holding (client_speaks y).1 ≡ true → is_holding y ≡ true
says-holding y h = holding-then y (client_speaks y).1 (inl (speaks-told y).phase) (speaks-keeps y) h

takes-free : (x : ClientBlock) → is_holding (client_takes x).0 ≡ false
takes-free x =
    let y : ClientBlock = record x { holding = false; held = 0; owed = x.owed || is_established x } in
    cond_both (is_client_open x) y x (λ (z : ClientBlock). is_holding (client_speaks z).1 ≡ false) (λ t. free-says y refl) (λ f. closed-says x f)

writes-holding : (x : ClientBlock) (bytes : List ℕ) → is_holding (client_writes x bytes).0 ≡ true → is_holding x ≡ true
writes-holding x bytes = cond_both {A = ClientBlock × Turn} (is_writing x) (speaking (rec.Wrote x.c bytes ∷ []) [] (client_written x bytes)) (x, silent) (λ g. is_holding g.0 ≡ true → is_holding x ≡ true)
    (λ t h. cond_both (is_writing x) _ x (λ (y : ClientBlock). is_holding y ≡ true → is_holding x ≡ true) (λ u k. k) (λ u k. k) (says-holding (client_written x bytes) h))
    (λ t h. h)

shuts-holding : (x : ClientBlock) → is_holding (client_speaks (shut_down x)).1 ≡ true → is_holding x ≡ true
shuts-holding x h = cond_both (is_client_open x) _ x (λ (y : ClientBlock). is_holding y ≡ true → is_holding x ≡ true) (λ u k. k) (λ u k. k) (says-holding (shut_down x) h)

aborts-holding : (x : ClientBlock) → is_holding (aborted x) ≡ true → is_holding x ≡ true
aborts-holding x = cond_both (is_client_open x) _ x (λ (y : ClientBlock). is_holding y ≡ true → is_holding x ≡ true) (λ u k. absurd (true≢false (sym k))) (λ u k. k)

-- ---- a move: a client that holds behind it held before, or is told to

abbrev Holds : Conn → Type 0
Holds x = holds_there x.part.station ≡ true

abbrev HoldsOn : Conn → Move → Type 0
HoldsOn x v = Holds (grown x v) → Holds x ⊎ (v.heads ≡ event_seen (event.Hold x.c))

held-before : (x : Conn) (st : Station) → x.part.station ≡ Some st → is_holding st.client ≡ true → Holds x
held-before x st there h = ap holds_there there ∙ h

clients-hold : (k : Setting) → ClientRules k (Owed HoldsOn)
clients-hold k = record {
  opens = λ x isn iss wnd mss rule none number sound h. absurd (true≢false (sym h ∙ free-says (client_opened x.c isn wnd mss) refl));
  gets = λ x st path there le number sound h. inl (held-before x st there (writes-holding st.client _ h));
  writes = λ x st bytes there le number sound h. inl (held-before x st there (writes-holding st.client bytes h));
  shuts = λ x st there number sound h. inl (held-before x st there (shuts-holding st.client h));
  aborts = λ x st there number sound h. inl (held-before x st there (aborts-holding st.client h));
  holds = λ x st there number sound h. inr refl;
  takes = λ x st there number sound h. absurd (true≢false (sym h ∙ takes-free st.client));
  fires = λ x st there number sound h. inl (held-before x st there (holding-then st.client _ (fires-phase st.client) (fires-keeps st.client) h));
  hears = λ x st from bytes there was number sound h. inl (held-before x st there (holding-then st.client _ (gets-phase st.client _) (gets-keeps st.client _) h));
}

rules-hold : (k : Setting) → Rules k (Owed HoldsOn)
rules-hold k = record {
  untouched = by_clients k HoldsOn (clients-hold k)
      (λ x v at own number sound h. inl (ap holds_there (sym (same-station v.place x.part v.part at.machine at.keeps)) ∙ h))
      (λ x from to bytes was number sound h. inl h);
  injects = λ x st bytes there rule number sound h. inl (held-before x st there h);
}

-- ---- a step

module _ (m n : Machine) (e : Event) (v : IsViewed m) (rule : HasRule e) (is : machine_step m e ≡ Ok n) where
  by-conn : (k : Machine) (c : ℕ) → holds_there (conn k c).part.station ≡ is_holder k c
  unfolding conn part_of
  by-conn k c = refl

  named : (c : ℕ) → (conn m c).c ≡ c
  unfolding conn
  named c = refl

  seen-hold : (heads : List Seen) (c : ℕ) → Each (IsHead e) heads → heads ≡ event_seen (event.Hold c) → event.Hold c ≡ e
  seen-hold heads c all same = (subst (Each (IsHead e)) same all).0

  -- one that holds behind it held before, or was told to
  pub holder-before : (c : ℕ) → is_holder n c ≡ true → (is_holder m c ≡ true) ⊎ (e ≡ event.Hold c)
  holder-before c h = ⊎_elim
      (λ (stays : conn n c ≡ conn m c). inl (sym (by-conn m c) ∙ ap (λ (x : Conn). holds_there x.part.station) (sym stays) ∙ by-conn n c ∙ h))
      (λ (g : (a : Move) × (IsShown m e (conn m c) a × Owed HoldsOn (conn m c) a) × (conn n c ≡ grown (conn m c) a)).
      let a : Move = g.0 in
      let shown : IsShown m e (conn m c) a = g.1.0 in
      let there : Holds (grown (conn m c) a) = ap (λ (x : Conn). holds_there x.part.station) (sym g.2) ∙ by-conn n c ∙ h in
      ⊎_elim
      (λ (was : Holds (conn m c)). inl (sym (by-conn m c) ∙ was))
      (λ (told_ : a.heads ≡ event_seen (event.Hold (conn m c).c)). inr (sym (seen-hold a.heads (conn m c).c shown.event told_) ∙ ap event.Hold (named c)))
      (g.1.1 shown.number (v.sound c) there))
      (step_comes m n e (Owed HoldsOn) v (rules-hold (setting_of m)) rule is c)

-- one that takes does not
pub take-free : (m n : Machine) (d : ℕ) → machine_step m (event.Take d) ≡ Ok n → is_holder n d ≡ false
unfolding client_acts machine_told
take-free m n d is = does (table.get m.clients d) (done-happens m n (event.Take d) is).1 where
  does : (o : Option Station) → client_acts m (event.Take d) [] d client_takes o ≡ Ok n → is_holder n d ≡ false
  does None e = absurd (err-ok (Refused (NoClient d)) n e)
  does (Some x) e = subst (λ (k : Machine). is_holder k d ≡ false) (ok-same _ n e) (ap holds_there (get_inserted m.clients d (record { client = (client_takes x.client).0; iss = x.iss })) ∙ takes-free x.client)

-- ---- the journal says so

module _ (c : ℕ) where
  one-own : (a : Bool) (r : Rec) (own : List Rec) → holds_flag c a r ≡ a → own ≡ r ∷ [] → fold (holds_flag c) a own ≡ a
  one-own a r own same are = ap (fold (holds_flag c) a) are ∙ same

  no-own : (a : Bool) (own : List Rec) → own ≡ [] → fold (holds_flag c) a own ≡ a
  no-own a own are = ap (fold (holds_flag c) a) are

  own-flag : (a : Bool) (e : Event) (own : List Rec) → AreOwn e own → fold (holds_flag c) a own ≡ a
  own-flag a (event.Open d isn iss wnd mss) own are = one-own a (rec.Opened d isn iss wnd mss) own refl are
  own-flag a (event.Get d path) own are = ⊎_elim (λ e. one-own a _ own refl e) (λ e. no-own a own e) are
  own-flag a (event.Write d bytes) own are = ⊎_elim (λ e. one-own a (rec.Wrote d bytes) own refl e) (λ e. no-own a own e) are
  own-flag a (event.Shut d) own are = no-own a own are
  own-flag a (event.Abort d) own are = one-own a (rec.Aborted d) own refl are
  own-flag a (event.Hold d) own are = no-own a own are
  own-flag a (event.Take d) own are = no-own a own are
  own-flag a (event.Deliver k) own are = one-own a (rec.Got k) own refl are
  own-flag a (event.Lose k) own are = one-own a (rec.Lost k) own refl are
  own-flag a (event.Timer p d) own are = no-own a own are
  own-flag a (event.Disk n j) own are = no-own a own are
  own-flag a (event.Drain n) own are = ⊎_elim (λ e. one-own a (rec.Closed n) own refl e) (λ e. no-own a own e) are
  own-flag a (event.Clock ms) own are = one-own a (rec.Clock are.0) own refl are.1
  own-flag a (event.Settle rounds) own are = no-own a own are
  own-flag a (event.Inject d bytes) own are = one-own a (rec.Injected d) own refl are

  other-flag : (a : Bool) (r : Rec) → not (is_own r) ≡ true → holds_flag c a r ≡ a
  other-flag a (rec.Event i e) h = cc
  other-flag a (rec.Inner e) h = cc
  other-flag a _ h = refl

  others-flag : (a : Bool) (rs : List Rec) → list_all (λ r. not (is_own r)) rs ≡ true → fold (holds_flag c) a rs ≡ a
  others-flag a [] h = refl
  others-flag a (r ∷ rs) h =
      let parts = and_parts (not (is_own r)) (list_all (λ q. not (is_own q)) rs) h in
      ap (λ b. fold (holds_flag c) b rs) (other-flag a r parts.0) ∙ others-flag a rs parts.1

  step-flag : (a : Bool) (i : ℕ) (e : Event) (rows : List Rec) → IsStep i e rows → fold (holds_flag c) a rows ≡ event_flag c a e
  step-flag a i e rows s =
      ap (fold (holds_flag c) a) s.is
      ∙ fold-append (holds_flag c) (event_flag c a e) s.own s.others
      ∙ ap (λ b. fold (holds_flag c) b s.others) (own-flag (event_flag c a e) e s.own s.own_are)
      ∙ others-flag (event_flag c a e) s.others s.alone

  held-flag : (m n : Machine) (e : Event) → IsViewed m → HasRule e → machine_step m e ≡ Ok n → is_held n.journal c ≡ event_flag c (is_held m.journal c) e
  held-flag m n e v rule is =
      let after : IsAfter m e n = step-after m v e n rule is in
      ap (fold (holds_flag c) false) after.is ∙ fold-append (holds_flag c) false m.journal after.step ∙ step-flag (is_held m.journal c) n.events e after.step after.follows

  -- it stays told, unless it takes
  stays-told : (e : Event) → (e ≡ event.Take c → ⊥) → event_flag c true e ≡ true
  stays-told (event.Hold d) other = cond_both (nat_eq d c) true true (λ b. b ≡ true) (λ t. refl) (λ t. refl)
  stays-told (event.Take d) other = by_number (cond (nat_eq d c) false true ≡ true) d c
      (λ same. absurd (other (ap event.Take same)))
      (λ apart. ap (λ b. cond b false true) (other_number d c apart))
  stays-told _ other = refl

  told-now : (a : Bool) → event_flag c a (event.Hold c) ≡ true
  told-now a = ap (λ b. cond b true a) (same_number c)

-- a client that holds was told to
pub holders-told : (config : Config) (files : List (List ℕ × List ℕ)) (m : Machine) → IsReached config files m → (c : ℕ) → is_holder m c ≡ true → is_held m.journal c ≡ true
holders-told config files m r = carried-keep config files (λ k. (c : ℕ) → is_holder k c ≡ true → is_held k.journal c ≡ true)
    (λ c h. absurd (true≢false (sym h ∙ ap holds_there (table.get-empty nat_cmp c))))
    (λ k n e on before rule is c h.
    held-flag c k n e on.view rule is ∙ ⊎_elim
    (λ (was : is_holder k c ≡ true).
    ap (λ b. event_flag c b e) (before c was) ∙ stays-told c e (λ takes_. both_ways (is_holder n c) (take-free k n c (ap (machine_step k) (sym takes_) ∙ is)) h))
    (λ (told_ : e ≡ event.Hold c). ap (event_flag c (is_held k.journal c)) told_ ∙ told-now c (is_held k.journal c))
    (holder-before k n e on.view rule is c h))
    m r

-- ---- the takes of a settle

module _ {X : Type 0} where
  found-value : (k : ℕ) (v : X) (es : List (ℕ × X)) → find nat_cmp k es ≡ Some v → Has v (map (λ e. e.1) es)
  found-value k v [] f = cc
  found-value k v (e ∷ es) f = go (eq_by_cmp nat_cmp k e.0) f (found-value k v es) where
    go : (b : Bool) → cond b (Some e.1) (find nat_cmp k es) ≡ Some v → (find nat_cmp k es ≡ Some v → Has v (map (λ (p : ℕ × X). p.1) es)) → Has v (map (λ (p : ℕ × X). p.1) (e ∷ es))
    go true g later = let same : e.1 ≡ v = cc in inl same
    go false g later = inr (later g)

  filter-has : (p : X → Bool) (x : X) (xs : List X) → Has x xs → p x ≡ true → Has x (filter p xs)
  filter-has p x [] h yes_ = absurd h
  filter-has p x (y ∷ xs) h yes_ = go (p y) refl h (λ k. filter-has p x xs k yes_) where
    go : (b : Bool) → p y ≡ b → (y ≡ x) ⊎ Has x xs → (Has x xs → Has x (filter p xs)) → Has x (cond b (y ∷ filter p xs) (filter p xs))
    go true e (inl same) later = inl same
    go true e (inr k) later = inr (later k)
    go false e (inl same) later = absurd (both_ways (p x) (ap p (sym same) ∙ e) yes_)
    go false e (inr k) later = later k

holds-steps : (c : ℕ) → TakesSteps (holds_flag c)
holds-steps c = record { events = λ a i j e. refl; inner = λ a i e. refl; settles = λ a i rounds. refl; settled = λ a rounds. refl; unsettled = λ a rounds left. refl }

module _ (config : Config) (files : List (List ℕ × List ℕ)) where
  -- each that holds is to take
  all-listed : (n : Machine) (w : Is config files n) (c : ℕ) → is_holder w.plain c ≡ true → Has c (filter (is_holder n) (holders (agenda_of n.journal)))
  all-listed n w c h =
      let held : is_held n.journal c ≡ true = sym (ap (λ (J : List Rec). is_held J c) w.journal ∙ fold-written (holds_flag c) (holds-steps c) false 0 n.journal) ∙ holders-told config files w.plain w.reached c h in
      let here : is_holder n c ≡ true = ap (λ (k : Machine). is_holder k c) w.same ∙ h in
      let found : get (agenda_of n.journal).held c ≡ Some c = holders_are_told n.journal c ∙ ap (λ b. cond b (Some c) None) held in
      filter-has (is_holder n) c (holders (agenda_of n.journal)) (found-value c c (entries (agenda_of n.journal).held) (sym (get-entries (agenda_of n.journal).held c) ∙ found)) here

  no-hold : (d c : ℕ) → event.Take d ≡ event.Hold c → ⊥
  no-hold d c e = cc

  -- as they take, one after the other, those that hold are to take yet
  takes-on : (cs : List ℕ) (p q : Machine) → IsReached config files p → Passes p (map event.Take cs) q → ((c : ℕ) → is_holder p c ≡ true → Has c cs) → (c : ℕ) → is_holder q c ≡ true → ⊥
  takes-on [] p q r same h c holds = h c (ap (λ (k : Machine). is_holder k c) (sym same) ∙ holds)
  takes-on (d ∷ cs) p q r on h c holds = takes-on cs on.0 q (r.0 ++ event.Take d ∷ [], passes-more r.0 (machine_start config files) p on.0 (event.Take d) r.1 tt on.2) on.3 (λ i held. ⊎_elim
      (λ (was : is_holder p i ≡ true). ⊎_elim
      (λ (same : d ≡ i). absurd (both_ways (is_holder on.0 i) (ap (is_holder on.0) (sym same) ∙ take-free p on.0 d on.2) held))
      (λ k. k)
      (h i was))
      (λ (told_ : event.Take d ≡ event.Hold i). absurd (no-hold d i told_))
      (holder-before p on.0 (event.Take d) (reached-viewed config files p r) tt on.2 i held)) c holds

  -- behind the takes none holds
  pub none-holds : (n t : Machine) (w : Is config files n) (b : Beside config files n w (takes n) t) (c : ℕ) → is_holder b.is.plain c ≡ false
  none-holds n t w b c = go (is_holder b.is.plain c) refl where
    go : (f : Bool) → is_holder b.is.plain c ≡ f → is_holder b.is.plain c ≡ false
    go false e = e
    go true e = absurd (takes-on (filter (is_holder n) (holders (agenda_of n.journal))) w.plain b.is.plain w.reached b.passes (all-listed n w) c e)
