-- What a step does to the packets that are on their way, as the journal tells them: it takes away what it delivers or loses, and no other,
-- and what it sends has numbers behind all before it.
use Rattle.std.proofs.Common.{◌≡◌, ◌<◌, ◌≤◌, ℕ, zero, suc, ◌+◌, ◌-◌, Bool, true, false, cond, nat_eq, List, [], ◌∷◌, ◌++◌, length, Some, Ok, inl, inr, ⊎_elim, refl, sym, ap, ◌∙◌, subst, arith, append_assoc, length-append}
use Rattle.std.specs.Prelude.{◌⊎◌}
use Rattle.std.proofs.lemmas.Bool.{true≢false}
use Rattle.std.proofs.lemmas.List.Sums.{fold-append}
use Rattle.std.specs.List.{fold}
use Rattle.lard_agenda.specs.Laws.{is_on_way, way_flag}
use Rattle.lard_law_view.specs.Prelude.{Event, HasRule, IsViewed, Machine, Out, Packet, Place, Rec, clocked, lose_at, machine_step, machine_told, packet_at, packets_of, passed, segments_sent, sent_records}
use Rattle.lard_base.specs.declared.event.Event.TheVariants as event
use Rattle.lard_law_connections.proofs.Calm.{first_rows, last_rows, told-journal}
use Rattle.lard_law_view.proofs.AnyShape.{AnyShape, IsAct, SomeGift, SomeNote, SomeTimer, some-noted, step-any}
use Rattle.lard_law_view.proofs.Shapes.{IsPut}
use Rattle.lard_law_settles.proofs.SettlesKeeping.{packet-stays}
use Rattle.lard_history.proofs.Each.{Each, Each-weaker}
use Rattle.lard_history.proofs.Seeing.{by_number, other_number, same_number}
use Rattle.lard_journal.specs.declared.rec.Rec.TheVariants as rec
use Rattle.lard_law_view.proofs.OwnRecords.{behind}
use Rattle.lard_law_view.proofs.OfKinds as of-kinds
use Rattle.lard_law_view.proofs.RecordKinds.{IsNote}

-- ---- what is claimed

-- the event takes packet k away
abbrev pub Takes : Event → ℕ → Type 0
Takes (event.Deliver j) k = k ≡ j
Takes (event.Lose j) k = k ≡ j
Takes _ k = ⊥

-- packets are as they were
abbrev pub KeepsPackets : Event → Machine → Machine → Type 0
KeepsPackets (event.Lose j) m n = Unit {0}
KeepsPackets _ m n = (k : ℕ) (p : Packet) → packet_at m.net k ≡ Some p → packet_at n.net k ≡ Some p

pub record Ways (m : Machine) (e : Event) (n : Machine) : Type 0 where
  pub more : length m.net ≤ length n.net
  pub packets : KeepsPackets e m n
  pub others : (k : ℕ) → is_on_way m.journal k ≡ true → Takes e k ⊎ (is_on_way n.journal k ≡ true)
  pub way : (k : ℕ) → is_on_way n.journal k ≡ true → ((is_on_way m.journal k ≡ true) × (Takes e k → ⊥)) ⊎ (length m.net < k)

-- ---- records behind the event and its own

module _ (k first : ℕ) where
  -- of packets they say that some were sent, with numbers behind the first
  pub record OnlySend (rs : List Rec) : Type 0 where
    pub keeps : fold (way_flag k) true rs ≡ true
    pub new : fold (way_flag k) false rs ≡ true → first < k

  pub send-none : OnlySend []
  send-none = record { keeps = refl; new = λ e. absurd (true≢false (sym e)) }

  pub send-append : (xs ys : List Rec) → OnlySend xs → OnlySend ys → OnlySend (xs ++ ys)
  send-append xs ys h g = record {
    keeps = fold-append (way_flag k) true xs ys ∙ ap (λ b. fold (way_flag k) b ys) h.keeps ∙ g.keeps;
    new = λ e. go (fold (way_flag k) false xs) refl (sym (fold-append (way_flag k) false xs ys) ∙ e);
  } where
    go : (b : Bool) → fold (way_flag k) false xs ≡ b → fold (way_flag k) b ys ≡ true → first < k
    go true is e = h.new is
    go false is e = g.new e

  -- behind what was said before
  sent-behind : (was : Bool) (rs : List Rec) → OnlySend rs → fold (way_flag k) was rs ≡ true → (was ≡ true) ⊎ (first < k)
  sent-behind true rs h e = inl refl
  sent-behind false rs h e = inr (h.new e)

  pub sents-send : (i : ℕ) (place : Place) (ss : List (Place × List ℕ)) → first < i → OnlySend (sent_records i place ss)
  sents-send i place [] late = send-none
  sents-send i place (s ∷ ss) late =
      let rest : OnlySend (sent_records (i + 1) place ss) = sents-send (i + 1) place ss (omega (arith, late)) in
      by_number (OnlySend (rec.Sent i place s.0 s.1 ∷ sent_records (i + 1) place ss)) i k
      (λ same. let t : nat_eq i k ≡ true = ap (λ j. nat_eq j k) same ∙ same_number k in record {
        keeps = ap (λ b. fold (way_flag k) (cond b true true) (sent_records (i + 1) place ss)) t ∙ rest.keeps;
        new = λ e. omega (arith, late, same);
      })
      (λ other. let t : nat_eq i k ≡ false = other_number i k other in record {
        keeps = ap (λ b. fold (way_flag k) (cond b true true) (sent_records (i + 1) place ss)) t ∙ rest.keeps;
        new = λ e. rest.new (sym (ap (λ b. fold (way_flag k) (cond b true false) (sent_records (i + 1) place ss)) t) ∙ e);
      })

  -- a record that says nothing of packets
  abbrev pub SaysNone : Rec → Type 0
  SaysNone r = (was : Bool) → way_flag k was r ≡ was

  none-said : (was : Bool) (rs : List Rec) → Each SaysNone rs → fold (way_flag k) was rs ≡ was
  none-said was [] h = refl
  none-said was (r ∷ rs) h = ap (λ b. fold (way_flag k) b rs) (h.0 was) ∙ none-said was rs h.1

  pub none-send : (rs : List Rec) → Each SaysNone rs → OnlySend rs
  none-send rs h = record { keeps = none-said true rs h; new = λ e. absurd (true≢false (sym (sym (none-said false rs h) ∙ e))) }

  noted-none : (r : Rec) → IsNote r → SaysNone r
  noted-none (rec.Sent j from to bytes) h was = absurd h
  noted-none (rec.Got j) h was = absurd h
  noted-none (rec.Lost j) h was = absurd h
  noted-none _ h was = refl

  -- ---- what a place does

  pub record SaysLittle (o : Out) : Type 0 where
    pub notes : Each SaysNone o.notes
    pub gave : Each SaysNone o.gave
    pub timers : Each SaysNone o.timers

  pub act-little : (m w : Machine) (e : Event) (place : Place) (o : Out) → IsAct m w e place o → SaysLittle o
  act-little m w e place o act = record {
    notes = Each-weaker (SomeNote place) SaysNone (λ r h. noted-none r (some-noted place r h)) o.notes act.notes;
    gave = Each-weaker (SomeGift place) SaysNone (λ r h. of-kinds.of-gift SaysNone (λ p d epoch was. refl) place h.0 r h.1) o.gave act.gave;
    timers = Each-weaker (SomeTimer place) SaysNone (λ r h. of-kinds.of-timer SaysNone (λ p d kind. ((λ was. refl), (λ was. refl))) place h.0 r h.1) o.timers act.timers;
  }

  -- behind the event's own records
  rest-send : (place : Place) (o : Out) (i j : ℕ) → first < i → first < j → SaysLittle o
      → OnlySend (o.notes ++ (sent_records i place o.segments ++ o.gave ++ sent_records j place o.messages ++ o.timers))
  rest-send place o i j a b h =
      let S : List Rec = sent_records i place o.segments in
      let M : List Rec = sent_records j place o.messages in
      send-append o.notes (S ++ o.gave ++ M ++ o.timers) (none-send o.notes h.notes)
      (send-append (S ++ o.gave ++ M) o.timers
      (send-append (S ++ o.gave) M (send-append S o.gave (sents-send i place o.segments a) (none-send o.gave h.gave)) (sents-send j place o.messages b))
      (none-send o.timers h.timers))

  -- ---- the event and its own records

  -- all but what the event takes away
  record Passes (e : Event) (was is : Bool) : Type 0 where
    others : was ≡ true → Takes e k ⊎ (is ≡ true)
    way : is ≡ true → (was ≡ true) × (Takes e k → ⊥)

  took : (j : ℕ) (was : Bool) → (was ≡ true → (k ≡ j) ⊎ (cond (nat_eq j k) false was ≡ true)) × (cond (nat_eq j k) false was ≡ true → (was ≡ true) × (k ≡ j → ⊥))
  took j was = by_number ((was ≡ true → (k ≡ j) ⊎ (cond (nat_eq j k) false was ≡ true)) × (cond (nat_eq j k) false was ≡ true → (was ≡ true) × (k ≡ j → ⊥))) j k
      (λ same. let t : nat_eq j k ≡ true = ap (λ i. nat_eq i k) same ∙ same_number k in
      (λ on. inl (sym same), λ on. absurd (true≢false (sym (sym (ap (λ b. cond b false was) t) ∙ on)))))
      (λ other. let t : nat_eq j k ≡ false = other_number j k other in
      (λ on. inr (ap (λ b. cond b false was) t ∙ on), λ on. (sym (ap (λ b. cond b false was) t) ∙ on, λ same. other (sym same))))

  untaken : (e : Event) (was : Bool) → (Takes e k → ⊥) → Passes e was was
  untaken e was none = record { others = λ on. inr on; way = λ on. (on, none) }

  own-passes : (e : Event) (was : Bool) → Passes e was (fold (way_flag k) was (behind e))
  own-passes (event.Deliver j) was = let t = took j was in record { others = t.0; way = t.1 }
  own-passes (event.Lose j) was = let t = took j was in record { others = t.0; way = t.1 }
  own-passes (event.Open c isn iss wnd mss) was = untaken (event.Open c isn iss wnd mss) was (λ t. t)
  own-passes (event.Get c path) was = untaken (event.Get c path) was (λ t. t)
  own-passes (event.Write c bytes) was = untaken (event.Write c bytes) was (λ t. t)
  own-passes (event.Shut c) was = untaken (event.Shut c) was (λ t. t)
  own-passes (event.Abort c) was = untaken (event.Abort c) was (λ t. t)
  own-passes (event.Hold c) was = untaken (event.Hold c) was (λ t. t)
  own-passes (event.Take c) was = untaken (event.Take c) was (λ t. t)
  own-passes (event.Timer p c) was = untaken (event.Timer p c) was (λ t. t)
  own-passes (event.Disk n j) was = untaken (event.Disk n j) was (λ t. t)
  own-passes (event.Drain n) was = untaken (event.Drain n) was (λ t. t)
  own-passes (event.Clock ms) was = untaken (event.Clock ms) was (λ t. t)
  own-passes (event.Settle rounds) was = untaken (event.Settle rounds) was (λ t. t)
  own-passes (event.Inject c bytes) was = untaken (event.Inject c bytes) was (λ t. t)

  -- and what is sent behind them
  record Goes (e : Event) (was is : Bool) : Type 0 where
    others : was ≡ true → Takes e k ⊎ (is ≡ true)
    way : is ≡ true → ((was ≡ true) × (Takes e k → ⊥)) ⊎ (first < k)

  go-behind : (e : Event) (was is : Bool) (rs : List Rec) → Passes e was is → OnlySend rs → Goes e was (fold (way_flag k) is rs)
  go-behind e was is rs h s = record {
    others = λ on. ⊎_elim (λ t. inl t) (λ (there : is ≡ true). inr (ap (λ b. fold (way_flag k) b rs) there ∙ s.keeps)) (h.others on);
    way = λ on. ⊎_elim (λ (there : is ≡ true). inl (h.way there)) (λ late. inr late) (sent-behind is rs s on);
  }

-- the journal behind an act: the event and its own records, and the rest
pub rest-journal : (w : Machine) (e : Event) (place : Place) (o : Out)
    → (machine_told w e (behind e) place o).journal ≡ w.journal ++ (first_rows w e ++ (o.notes ++ last_rows w place o))
rest-journal w e place o = told-journal w e place o ∙ ap (λ (rs : List Rec). w.journal ++ rs) (append_assoc (first_rows w e) o.notes (last_rows w place o))

-- ---- packets stay

keeps-all : (e : Event) (m n : Machine) → ((k : ℕ) (p : Packet) → packet_at m.net k ≡ Some p → packet_at n.net k ≡ Some p) → KeepsPackets e m n
keeps-all (event.Lose j) m n h = tt
keeps-all _ m n h = h

pub lost-length : (net : List Packet) (i : ℕ) → length (lose_at i net) ≡ length net
lost-length [] i = refl
lost-length (p ∷ net) zero = refl
lost-length (p ∷ net) (suc i) = ap suc (lost-length net i)

-- ---- shape by shape

module _ (m : Machine) where
  goes-all : (e : Event) (n : Machine) → length m.net ≤ length n.net → KeepsPackets e m n
      → ((k : ℕ) → Goes k (length m.net) e (is_on_way m.journal k) (is_on_way n.journal k)) → Ways m e n
  goes-all e n more packets h = record { more = more; packets = packets; others = λ k on. (h k).others on; way = λ k on. (h k).way on }

  told-goes : (w : Machine) (e : Event) (place : Place) (o : Out) → IsPut m w → ((k : ℕ) → SaysLittle k (length m.net) o) → (k : ℕ)
      → Goes k (length m.net) e (is_on_way m.journal k) (is_on_way (machine_told w e (behind e) place o).journal k)
  unfolding machine_told
  told-goes w e place o put little k =
      let first : ℕ = length m.net in
      let was : Bool = is_on_way m.journal k in
      let same : length w.net ≡ first = ap (λ ps. length ps) put.net in
      let sum : length (segments_sent w place o) ≡ length w.net + length (packets_of place o.segments) = length-append w.net (packets_of place o.segments) in
      let rest : List Rec = o.notes ++ last_rows w place o in
      let told_is : is_on_way (machine_told w e (behind e) place o).journal k ≡ fold (way_flag k) (fold (way_flag k) was (behind e)) rest =
      ap (λ (J : List Rec). is_on_way J k) (rest-journal w e place o ∙ ap (λ (J : List Rec). J ++ (first_rows w e ++ rest)) put.journal)
      ∙ fold-append (way_flag k) false m.journal (first_rows w e ++ rest) ∙ fold-append (way_flag k) was (first_rows w e) rest in
      subst (Goes k first e was) (sym told_is)
      (go-behind k first e was (fold (way_flag k) was (behind e)) rest (own-passes k first e was)
      (rest-send k first place o (length w.net + 1) (length (segments_sent w place o) + 1) (omega (arith, same)) (omega (arith, same, sum)) (little k)))

  told-ways : (w : Machine) (e : Event) (place : Place) (o : Out) → IsPut m w → ((k : ℕ) → SaysLittle k (length m.net) o) → Ways m e (machine_told w e (behind e) place o)
  unfolding machine_told
  told-ways w e place o put little =
      let sent : List Packet = packets_of place o.segments ++ packets_of place o.messages in
      let net : (w.net ++ packets_of place o.segments) ++ packets_of place o.messages ≡ m.net ++ sent =
      ap (λ (ps : List Packet). (ps ++ packets_of place o.segments) ++ packets_of place o.messages) put.net ∙ append_assoc m.net (packets_of place o.segments) (packets_of place o.messages) in
      let sum : length (m.net ++ sent) ≡ length m.net + length sent = length-append m.net sent in
      let len : length ((w.net ++ packets_of place o.segments) ++ packets_of place o.messages) ≡ length (m.net ++ sent) = ap (λ ps. length ps) net in
      goes-all e (machine_told w e (behind e) place o) (omega (arith, len, sum))
      (keeps-all e m (machine_told w e (behind e) place o) (λ k p at. ap (λ (ps : List Packet). packet_at ps k) net ∙ packet-stays m.net sent k p at))
      (told-goes w e place o put little)

  -- one record stands behind the event
  passed-ways : (w : Machine) (e : Event) (r : Rec) → w.journal ≡ m.journal → length w.net ≡ length m.net → KeepsPackets e m (passed w e (r ∷ []))
      → ((k : ℕ) → Passes k (length m.net) e (is_on_way m.journal k) (way_flag k (is_on_way m.journal k) r)) → Ways m e (passed w e (r ∷ []))
  passed-ways w e r journal len packets h = goes-all e (passed w e (r ∷ [])) (omega (arith, len)) packets (λ k.
      let was : Bool = is_on_way m.journal k in
      let told_is : is_on_way (w.journal ++ rec.Event (w.events + 1) e ∷ r ∷ []) k ≡ way_flag k was r =
      ap (λ (J : List Rec). is_on_way (J ++ rec.Event (w.events + 1) e ∷ r ∷ []) k) journal ∙ fold-append (way_flag k) false m.journal (rec.Event (w.events + 1) e ∷ r ∷ []) in
      subst (Goes k (length m.net) e was) (sym told_is) (go-behind k (length m.net) e was (way_flag k was r) [] (h k) (send-none k (length m.net))))

  any-ways : AnyShape m (λ e n. Ways m e n)
  unfolding clocked
  any-ways = record {
    acts = λ w e place o act. told-ways w e place o act.put (λ k. act-little k (length m.net) m w e place o act);
    nobody = λ k l at there. passed-ways m (event.Deliver k) (rec.Got k) refl refl (λ j p is. is) (λ j. own-passes j (length m.net) (event.Deliver k) (is_on_way m.journal j));
    loses = λ k l at there. passed-ways (record m { net = lose_at (k - 1) m.net }) (event.Lose k) (rec.Lost k) refl (lost-length m.net (k - 1)) tt
        (λ j. own-passes j (length m.net) (event.Lose k) (is_on_way m.journal j));
    clocks = λ ms. passed-ways (record m { now = m.now + ms }) (event.Clock ms) (rec.Clock (record { 0 = m.now + ms })) refl refl (λ j p is. is)
        (λ j. untaken j (length m.net) (event.Clock ms) (is_on_way m.journal j) (λ t. t));
  }

pub step-ways : (m : Machine) → IsViewed m → (e : Event) (n : Machine) → HasRule e → machine_step m e ≡ Ok n → Ways m e n
step-ways m view e n rule is = step-any m view (λ d k. Ways m d k) (any-ways m) e n rule is
