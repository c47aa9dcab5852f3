-- What is so of a step in which a place acts, whatever its shape: each of its records is of some connection, or of none. A law that
-- looks at records alone is proved by this, and needs no case for a shape.
use Rattle.std.proofs.Common.{◌≡◌, ℕ, ◌+◌, ◌-◌, List, [], ◌∷◌, ◌++◌, false, Some, Ok, refl, sym, ap, ◌∙◌, subst, ⊎_elim, inl, inr, arith}
use Rattle.std.specs.Prelude.{◌⊎◌}
use Rattle.std.proofs.lemmas.List.Sums.{fold-append}
use Rattle.std.specs.List.{flat_map, fold}
use Rattle.lard_law_view.specs.Prelude.{Client, Conn, Event, Front, GoesBetween, HasRule, IsConnNumber, IsViewed, Machine, Move, Node, Out, Packet, Part, Place, Rec, Seen, answered_step, clocked, lose_at, machine_step, machine_told, net_step, packet_at, part_of, passed, seen_of, seen_on, setting_of, timer_rows}
use Rattle.lard_base.specs.declared.event.Event.TheVariants as event
use Rattle.lard_law_view.proofs.Fine.{IsFine, fine}
use Rattle.lard_law_view.proofs.Heads.{ActsAt, Begins}
use Rattle.lard_law_view.proofs.RecordKinds.{IsNote, IsOfPlace, any-kind, kind_of}
use Rattle.lard_law_view.proofs.Saying.{AllBetween, AreMessages, GaveAt, IsStill, NamesNobody, NotedAt, NotedIn, messages-between, nobody-kind, nobody-seen, note-kind}
use Rattle.lard_law_view.proofs.Shapes.{ActsOn, ActsOnEach, ActsOnTwo, ClosesBehind, IsMover, IsNobodyAt, IsPut, IsUnheardAt, Mover, Shapes, both_out, each_out}
use Rattle.lard_law_view.proofs.Stepping.{step-has}
use Rattle.lard_law_view.proofs.Timers.{IsTimerAt, timer_rows-are}
use Rattle.lard_history.proofs.Each.{Each, Each-append, Each-weaker}
use Rattle.lard_journal.specs.declared.rec.Rec.TheVariants as rec
use Rattle.lard_law_view.proofs.Firsts.{HasOwn}
use Rattle.lard_law_view.proofs.OwnRecords.{IsDrain, IsNoClosing, behind}

-- ---- of some connection

-- a note is of some connection, or of none
abbrev pub SomeNote : Place → Rec → Type 0
SomeNote place r = ((c : ℕ) × IsConnNumber c × NotedAt place c r) ⊎ NamesNobody place r

abbrev pub SomeGift : Place → Rec → Type 0
SomeGift place r = (c : ℕ) × GaveAt place c r

abbrev pub SomeTimer : Place → Rec → Type 0
SomeTimer place r = (c : ℕ) × IsTimerAt place c r

abbrev pub SomeSent : Place → Place × List ℕ → Type 0
SomeSent place s = (c : ℕ) × IsConnNumber c × GoesBetween c place s.0 s.1

-- A place acts, and w is m with what it keeps put back.
pub record IsAct (m w : Machine) (e : Event) (place : Place) (o : Out) : Type 0 where
  pub put : IsPut m w
  pub still : Each IsStill (behind e)
  pub uncounted : (n : ℕ) → fold answered_step n (behind e) ≡ n
  pub acts : ActsAt m.net e place
  pub first : HasOwn e (behind e ++ o.notes)
  pub notes : Each (SomeNote place) o.notes
  pub closes : IsDrain e ⊎ (((c : ℕ) × ClosesBehind m e c o.notes) ⊎ Each IsNoClosing o.notes)
  pub segments : Each (SomeSent place) o.segments
  pub gave : Each (SomeGift place) o.gave
  pub messages : Each (SomeSent place) o.messages
  pub timers : Each (SomeTimer place) o.timers
  pub counted : (n : ℕ) → fold answered_step n o.notes ≡ n + o.answered

-- ---- notes that name nobody

-- of what kind a note is
pub some-kind : (place : Place) (r : Rec) → SomeNote place r → IsOfPlace place (kind_of r)
some-kind place r (inl h) = note-kind place h.0 r h.2
some-kind place r (inr h) = nobody-kind place r h

nobody-counts : (place : Place) (n : ℕ) (r : Rec) → NamesNobody place r → answered_step n r ≡ n
nobody-counts Front n (rec.Closed i) h = refl
nobody-counts (Node i) n (rec.Hit k path) h = refl
nobody-counts _ n _ h = absurd h

pub some-noted : (place : Place) (r : Rec) → SomeNote place r → IsNote r
some-noted place r h = any-kind place (kind_of r) (some-kind place r h)

pub none-seen : (place : Place) (q : ℕ) (net : List Packet) (rs : List Rec) → Each (NamesNobody place) rs → seen_on q net rs ≡ []
none-seen place q net [] h = refl
none-seen place q net (r ∷ rs) h = λ i. nobody-seen place q net r h.0 i ++ none-seen place q (net_step net r) rs h.1 i

none-counts : (place : Place) (n : ℕ) (rs : List Rec) → Each (NamesNobody place) rs → fold answered_step n rs ≡ n
none-counts place n [] h = refl
none-counts place n (r ∷ rs) h = ap (λ k. fold answered_step k rs) (nobody-counts place n r h.0) ∙ none-counts place n rs h.1

-- ---- of one connection

some-notes : (place : Place) (c : ℕ) (rs : List Rec) → IsConnNumber c → Each (NotedIn place c) rs → Each (SomeNote place) rs
some-notes place c rs number h = Each-weaker (NotedIn place c) (SomeNote place) (λ r k. ⊎_elim (λ (n : NotedAt place c r). inl (c, number, n)) (λ (n : NamesNobody place r). inr n) k) rs h

some-gifts : (place : Place) (c : ℕ) (rs : List Rec) → Each (GaveAt place c) rs → Each (SomeGift place) rs
some-gifts place c rs h = Each-weaker (GaveAt place c) (SomeGift place) (λ r k. (c, k)) rs h

some-timers : (place : Place) (c : ℕ) (p q : Part) (rs : List Rec) → rs ≡ timer_rows place c p q → Each (SomeTimer place) rs
some-timers place c p q rs e = subst (Each (SomeTimer place)) (sym e) (Each-weaker (IsTimerAt place c) (SomeTimer place) (λ r k. (c, k)) (timer_rows place c p q) (timer_rows-are place c p q))

some-sents : (place : Place) (c : ℕ) (ss : List (Place × List ℕ)) → IsConnNumber c → AllBetween c place ss → Each (SomeSent place) ss
some-sents place c ss number h = Each-weaker (λ s. GoesBetween c place s.0 s.1) (SomeSent place) (λ s k. (c, number, k)) ss h

some-messages : (place : Place) (c : ℕ) (ss : List (Place × List ℕ)) → IsConnNumber c → AreMessages c place ss → Each (SomeSent place) ss
some-messages place c ss number h = some-sents place c ss number (messages-between c place ss h)

-- ---- lists, one behind another

each-three : {A : Type 0} (P : A → Type 0) (as_ bs cs : List A) → Each P as_ → Each P bs → Each P cs → Each P (as_ ++ bs ++ cs)
each-three P as_ bs cs h k l = Each-append P (as_ ++ bs) cs (Each-append P as_ bs h k) l

-- in whichever order they stand
pub each-order : {A : Type 0} (P : A → Type 0) (as_ bs rows : List A) → (rows ≡ as_ ++ bs) ⊎ (rows ≡ bs ++ as_) → Each P as_ → Each P bs → Each P rows
each-order P as_ bs rows order h k = ⊎_elim
    (λ (e : rows ≡ as_ ++ bs). subst (Each P) (sym e) (Each-append P as_ bs h k))
    (λ (e : rows ≡ bs ++ as_). subst (Each P) (sym e) (Each-append P bs as_ k h))
    order

pub each-flat : {A B : Type 0} (P : B → Type 0) (f : A → List B) (xs : List A) → Each (λ x. Each P (f x)) xs → Each P (flat_map f xs)
each-flat P f [] h = tt
each-flat P f (x ∷ xs) h = Each-append P (f x) (flat_map f xs) h.0 (each-flat P f xs h.1)

-- ---- shape by shape

module _ (m w : Machine) (e : Event) where
  pub one-act : (place : Place) (o : Out) (c : ℕ) (heads : List Seen) (ns : List Rec) (p : Part) → ActsOn m w e place o c heads ns p → IsAct m w e place o
  one-act place o c heads ns p act = record {
    put = act.put;
    still = act.begins.still;
    uncounted = act.begins.uncounted;
    acts = act.begins.acts;
    first = act.first;
    notes = some-notes place c o.notes act.number act.said.notes;
    closes = inr (⊎_elim (λ (b : ClosesBehind m e c _). inl (c, b)) (λ none. inr none) act.closes);
    segments = some-sents place c o.segments act.number act.said.segments;
    gave = some-gifts place c o.gave act.said.gave;
    messages = some-messages place c o.messages act.number act.said.messages;
    timers = some-timers place c (part_of m c) p o.timers act.timers;
    counted = act.said.counted;
  }

  pub two-act : (a b z : Out) (rows : List Rec) (c d : ℕ) (heads : List Seen) (ns : List Rec) (p r : Part) → ActsOnTwo m w e a b z rows c d heads ns p r → IsAct m w e Front (both_out a b z rows)
  two-act a b z rows c d heads ns p r act = record {
    put = act.put;
    still = act.begins.still;
    uncounted = act.begins.uncounted;
    acts = act.begins.acts;
    first = act.first;
    closes = inr (⊎_elim (λ (b : ClosesBehind m e c _). inl (c, b)) (λ none. inr none) act.closes);
    notes = each-three (SomeNote Front) a.notes b.notes z.notes (some-notes Front c a.notes act.number act.said.notes) (some-notes Front d b.notes act.number_too act.said_too.notes)
        (some-notes Front c z.notes act.number act.said_rest.notes);
    segments = each-three (SomeSent Front) a.segments b.segments z.segments (some-sents Front c a.segments act.number act.said.segments)
        (some-sents Front d b.segments act.number_too act.said_too.segments) (some-sents Front c z.segments act.number act.said_rest.segments);
    gave = each-three (SomeGift Front) a.gave b.gave z.gave (some-gifts Front c a.gave act.said.gave) (some-gifts Front d b.gave act.said_too.gave) (some-gifts Front c z.gave act.said_rest.gave);
    messages = each-three (SomeSent Front) a.messages b.messages z.messages (some-messages Front c a.messages act.number act.said.messages)
        (some-messages Front d b.messages act.number_too act.said_too.messages) (some-messages Front c z.messages act.number act.said_rest.messages);
    timers = each-order (SomeTimer Front) a.timers b.timers rows act.order (some-timers Front c (part_of m c) p a.timers act.timers) (some-timers Front d (part_of m d) r b.timers act.timers_too);
    counted = λ n.
        let two : fold answered_step n (a.notes ++ b.notes) ≡ (n + a.answered) + 0 =
        fold-append answered_step n a.notes b.notes ∙ ap (λ j. fold answered_step j b.notes) (act.said.counted n) ∙ act.said_too.counted (n + a.answered) in
        let all : fold answered_step n (a.notes ++ b.notes ++ z.notes) ≡ ((n + a.answered) + 0) + z.answered =
        fold-append answered_step n (a.notes ++ b.notes) z.notes ∙ ap (λ j. fold answered_step j z.notes) two ∙ act.said_rest.counted ((n + a.answered) + 0) in
        all ∙ omega arith;
  }

  pub each-act : (place : Place) (notes : List Rec) (xs : List Mover) → ActsOnEach m w e place notes xs → IsAct m w e place (each_out notes xs)
  each-act place notes xs act =
      let any : Begins m e place 1 [] = act.begins 1 in
      record {
        put = act.put;
        still = any.still;
        uncounted = any.uncounted;
        acts = any.acts;
        first = act.first;
        notes = Each-weaker (NamesNobody place) (SomeNote place) (λ r h. inr h) notes act.nobody;
        closes = ⊎_elim (λ (d : IsDrain e). inl d) (λ (none : Each IsNoClosing notes). inr (inr none)) act.closes;
        segments = tt;
        gave = each-flat (SomeGift place) (λ x. x.gave) xs (Each-weaker (IsMover m w place) (λ x. Each (SomeGift place) x.gave) (λ x h. some-gifts place x.c x.gave h.gave) xs act.movers);
        messages = each-flat (SomeSent place) (λ x. x.messages) xs
            (Each-weaker (IsMover m w place) (λ x. Each (SomeSent place) x.messages) (λ x h. some-messages place x.c x.messages h.number h.messages) xs act.movers);
        timers = each-flat (SomeTimer place) (λ x. x.timers) xs
            (Each-weaker (IsMover m w place) (λ x. Each (SomeTimer place) x.timers) (λ x h. some-timers place x.c (part_of m x.c) x.part x.timers h.timers) xs act.movers);
        counted = λ n. none-counts place n notes act.nobody ∙ omega arith;
      }

-- ---- a step

-- Q is so of each step in which a place acts, and of each in which none does.
pub record AnyShape (m : Machine) (Q : Event → Machine → Type 0) : Type 0 where
  pub acts : (w : Machine) (e : Event) (place : Place) (o : Out) → IsAct m w e place o → Q e (machine_told w e (behind e) place o)
  pub nobody : (k : ℕ) (l : Packet) → packet_at m.net k ≡ Some l → (l.lost ≡ false) × IsNobodyAt m l.to × IsUnheardAt m l → Q (event.Deliver k) (passed m (event.Deliver k) (rec.Got k ∷ []))
  pub loses : (k : ℕ) (l : Packet) → packet_at m.net k ≡ Some l → l.lost ≡ false → Q (event.Lose k) (passed (record m { net = lose_at (k - 1) m.net }) (event.Lose k) (rec.Lost k ∷ []))
  pub clocks : (ms : ℕ) → Q (event.Clock ms) (clocked m ms)

pub any-shapes : (m : Machine) (P : Conn → Move → Type 0) (Q : Event → Machine → Type 0) → AnyShape m Q → Shapes m P Q
any-shapes m P Q any = record {
  one = λ w e place o c heads ns p act does. any.acts w e place o (one-act m w e place o c heads ns p act);
  two = λ w e a b z rows c d heads ns p r act does too. any.acts w e Front (both_out a b z rows) (two-act m w e a b z rows c d heads ns p r act);
  each = λ w e place notes xs act made. any.acts w e place (each_out notes xs) (each-act m w e place notes xs act);
  nobody = any.nobody;
  loses = any.loses;
  clocks = any.clocks;
}

-- what is so of any shape is so of a step that is done
pub step-any : (m : Machine) → IsViewed m → (Q : Event → Machine → Type 0) → AnyShape m Q → (e : Event) (n : Machine) → HasRule e → machine_step m e ≡ Ok n → Q e n
step-any m view Q any e n rule is = step-has m view IsFine (fine (setting_of m)) Q (any-shapes m IsFine Q any) e n rule is
