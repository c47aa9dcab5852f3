-- What a step leaves to be done on all connections: no unit comes back, and where none goes of all, each connection's spot is as it was.
use Rattle.std.proofs.Common.{◌≡◌, ◌≤◌, ◌+◌, ℕ, inl, inr, ⊎_elim, refl, sym, ap, ◌∙◌, subst, List, [], ◌∷◌, ◌++◌, length, arith, append-nil}
use Rattle.std.specs.Prelude.{◌⊎◌}
use Rattle.std.proofs.lemmas.List.{append_cancel_left}
use Rattle.std.specs.List.{fold}
use Rattle.lard_law_view.specs.Prelude.{Conn, Event, FilesAt, GoesBy, Machine, Move, Packet, Place, Rec, Seen, conn, file_at, grown, net_step, own, packets_of, seen_on, sent_records, setting_of}
use Rattle.lard_base.specs.declared.event.Event.TheVariants as event
use Rattle.lard_base.specs.declared.ids.TheConstants.ConnId.{MAX}
use Rattle.lard_bound.specs.Progress.{spot_at}
use Rattle.lard_bound.specs.Units.{Whole, units, machine_units}
use Rattle.lard_law_view.proofs.Acts.{ActsAlone, ActsMany, IsPassing, said_rows, step_acts}
use Rattle.lard_law_view.proofs.Steps.{IsShown, shown, step_comes}
use Rattle.lard_law_settles.proofs.CourseOwing.{IsStep, Leads, Owed}
use Rattle.lard_history.proofs.Seeing.{own-append, seen_on-append}
use Rattle.lard_journal.specs.declared.rec.Rec.TheVariants as rec
use Rattle.lard_law_progress.proofs.Most.{sum-less, sum-still}
use Rattle.lard_law_view.proofs.OwnRecords.{behind}

module _ (Given : Conn → Type 0) (Came : Conn → Move → Type 0) (all : ℕ → Whole) (m n : Machine) (e : Event) (s : IsStep Given Came all m n e) where
  abbrev nodes : ℕ
  nodes = m.config.nodes

  abbrev files : FilesAt
  files = file_at m.files

  -- connection q moves
  pub record Moved (q : ℕ) (y : Conn) : Type 0 where
    pub move : Move
    pub shown : IsShown m e (conn m q) move
    pub leads : Leads (setting_of m) (all q) (conn m q) move
    pub grows : y ≡ grown (conn m q) move

  named : (q : ℕ) → (conn m q).c ≡ q
  unfolding conn
  named q = refl

  pub moved : (q : ℕ) → (conn n q ≡ conn m q) ⊎ Moved q (conn n q)
  moved q = go (conn n q) (s.behind q) (λ v h grows. s.came q v h grows) (step_comes m n e (Owed Given Came all (setting_of m)) s.view s.rules s.rule s.is q) where
    go : (y : Conn) → Given y → ((v : Move) → IsShown m e (conn m q) v → y ≡ grown (conn m q) v → Came (conn m q) v) → GoesBy (λ x v. IsShown m e x v × Owed Given Came all (setting_of m) x v) (conn m q) y → (y ≡ conn m q) ⊎ Moved q y
    go y g came (inl stays) = inl stays
    go y g came (inr (v, p, grows)) = inr (record {
      move = v;
      shown = p.0;
      leads = subst (λ (i : ℕ). Leads (setting_of m) (all i) (conn m q) v) (named q)
          (p.1 (record { number = p.0.number; sound = s.view.sound q; given = s.before q }) (subst Given grows g) (came v p.0 grows));
      grows = grows;
    })

  -- ---- one that stays sees nothing of the event

  front-nil : (as_ bs : List Seen) → as_ ++ bs ≡ [] → as_ ≡ []
  front-nil [] bs h = refl
  front-nil (a ∷ as_) bs h = absurd (let bad : a ∷ (as_ ++ bs) ≡ [] = h in cc)

  front-none : (q : ℕ) (net : List Packet) (xs ys : List Rec) → seen_on q net (xs ++ ys) ≡ [] → seen_on q net xs ≡ []
  front-none q net xs ys h = front-nil (seen_on q net xs) (seen_on q (fold net_step net xs) ys) (sym (seen_on-append q net xs ys) ∙ h)

  passing-behind : (d : Event) (adds : List Rec) → IsPassing m d adds → (adds ≡ behind d) ⊎ ((q : ℕ) → shown m d q ≡ [])
  passing-behind (event.Clock ms) adds h = inr (λ q. refl)
  passing-behind d adds h = inl h

  -- behind the event's own records others stand
  behind-none : (q : ℕ) (place : Place) (notes : List Rec) (segments : List (Place × List ℕ)) (gave : List Rec) (messages : List (Place × List ℕ)) (timers adds : List Rec)
      → adds ≡ said_rows (behind e) m.net place notes segments gave messages timers → seen_on q m.net (rec.Event (m.events + 1) e ∷ adds) ≡ [] → shown m e q ≡ []
  behind-none q place notes segments gave messages timers adds are none =
      let r : Rec = rec.Event (m.events + 1) e in
      let S : List Rec = sent_records (length m.net + 1) place segments in
      let M : List Rec = sent_records (length (m.net ++ packets_of place segments) + 1) place messages in
      let all : seen_on q m.net (r ∷ said_rows (behind e) m.net place notes segments gave messages timers) ≡ [] = ap (λ rs. seen_on q m.net (r ∷ rs)) (sym are) ∙ none in
      front-none q m.net (r ∷ behind e) notes
      (front-none q m.net (r ∷ (behind e ++ notes)) S
      (front-none q m.net (r ∷ (behind e ++ notes ++ S)) gave
      (front-none q m.net (r ∷ (behind e ++ notes ++ S ++ gave)) M
      (front-none q m.net (r ∷ (behind e ++ notes ++ S ++ gave ++ M)) timers all))))

  pub unseen : (q : ℕ) → conn n q ≡ conn m q → shown m e q ≡ []
  unfolding conn
  unseen q stays =
      let acts = step_acts m n e (Owed Given Came all (setting_of m)) s.view s.rules s.rule s.is in
      let same : own q n.journal ≡ own q m.journal = ap (λ (x : Conn). x.seen) stays in
      let step : List Rec = rec.Event (m.events + 1) e ∷ acts.adds in
      let grown_ : own q n.journal ≡ own q m.journal ++ seen_on q m.net step =
      ap (own q) acts.journal ∙ own-append q m.journal step ∙ ap (λ (net : List Packet). own q m.journal ++ seen_on q net step) s.view.told in
      let none : seen_on q m.net step ≡ [] = append_cancel_left (own q m.journal) (seen_on q m.net step) [] (sym grown_ ∙ same ∙ sym (append-nil (own q m.journal))) in
      ⊎_elim
      (λ (passing : IsPassing m e acts.adds). ⊎_elim
      (λ (are : acts.adds ≡ behind e). ap (λ rs. seen_on q m.net (rec.Event (m.events + 1) e ∷ rs)) (sym are) ∙ none)
      (λ (nothing : (q : ℕ) → shown m e q ≡ []). nothing q)
      (passing-behind e acts.adds passing))
      (λ (a : ActsAlone (Owed Given Came all (setting_of m)) m e acts.adds ⊎ ActsMany (Owed Given Came all (setting_of m)) m e acts.adds). ⊎_elim
      (λ (one : ActsAlone (Owed Given Came all (setting_of m)) m e acts.adds).
      behind-none q one.move.place one.noted one.move.said.segments one.move.said.gave one.move.said.messages _ acts.adds one.are none)
      (λ (many : ActsMany (Owed Given Came all (setting_of m)) m e acts.adds).
      behind-none q many.place many.o.notes many.o.segments many.o.gave many.o.messages many.o.timers acts.adds many.are none)
      a)
      acts.acts

  -- one that sees something of it moves
  pub moves : (q : ℕ) (a : Seen) → shown m e q ≡ a ∷ [] → Moved q (conn n q)
  moves q a is = ⊎_elim
      (λ (stays : conn n q ≡ conn m q). absurd (let bad : a ∷ [] ≡ [] = sym is ∙ unseen q stays in cc))
      (λ (h : Moved q (conn n q)). h)
      (moved q)

  -- ---- units

  -- of one connection
  record One (q : ℕ) (y : Conn) : Type 0 where
    less : units (all q) nodes y ≤ units (all q) nodes (conn m q)
    steady : units (all q) nodes (conn m q) ≤ units (all q) nodes y → spot_at files y ≡ spot_at files (conn m q)

  one : (q : ℕ) → One q (conn n q)
  one q = go (conn n q) (moved q) where
    go : (y : Conn) → (y ≡ conn m q) ⊎ Moved q y → One q y
    go y (inl stays) = subst (One q) (sym stays) (record { less = omega arith; steady = λ up. refl })
    go y (inr h) = let l = h.leads.lasts in subst (One q) (sym h.grows) (record { less = l.less; steady = l.steady })

  same-nodes : (c : ℕ) (y : Conn) → units (all c) n.config.nodes y ≡ units (all c) nodes y
  same-nodes c y = ap (λ (x : ℕ). units (all c) x y) (ap (λ c. c.nodes) s.config)

  each-less : (c : ℕ) → units (all c) n.config.nodes (conn n c) ≤ units (all c) m.config.nodes (conn m c)
  each-less c = let h = (one c).less in let k = same-nodes c (conn n c) in omega (arith, h, k)

  pub all-less : machine_units all n ≤ machine_units all m
  all-less = sum-less all m n MAX (λ c some in_. each-less c)

  -- where no unit of the whole goes, none of any connection does
  pub each-still : machine_units all m ≤ machine_units all n → (q : ℕ) → 1 ≤ q → q ≤ MAX → units (all q) nodes (conn m q) ≤ units (all q) nodes (conn n q)
  each-still up q some in_ =
      let h = sum-still all m n MAX (λ c some in_. each-less c) up q some in_ in
      let k = same-nodes q (conn n q) in
      omega (arith, h, k)

  pub all-steady : machine_units all m ≤ machine_units all n → (q : ℕ) → 1 ≤ q → q ≤ MAX → spot_at files (conn n q) ≡ spot_at files (conn m q)
  all-steady up q some in_ = (one q).steady (each-still up q some in_)

  -- and where none goes of a connection, its own is
  pub steady : (q : ℕ) → units (all q) nodes (conn m q) ≤ units (all q) nodes (conn n q) → spot_at files (conn n q) ≡ spot_at files (conn m q)
  steady q = (one q).steady
