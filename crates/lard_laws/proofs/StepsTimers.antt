-- When timers change: what each move tells of its connection's timers, and what a step does.
use Rattle.std.proofs.Common.{◌≡◌, ◌≢◌, ℕ, ◌+◌, List, [], ◌∷◌, ◌++◌, map, length, append-nil, Bool, true, false, Ok, inl, inr, ⊎_elim, refl, sym, ap, ◌∙◌, subst, nat_eq}
use Rattle.std.specs.Prelude.{◌⊎◌}
use Rattle.std.proofs.lemmas.Bool.{both_ways}
use Rattle.std.proofs.lemmas.List.Sums.{fold-append}
use Rattle.std.specs.List.{fold, list_all}
use Rattle.lard_law_view.specs.Prelude.{Came, ChangesTimers, Client, Config, Conn, Event, Front, HasRule, HasTimer, IsConnNumber, IsLaw, IsMachine, IsReached, IsViewed, Machine, MayRestOn, Move, Node, NodePart, OfEach, Part, Place, Rec, Row, Rules, Seen, Setting, TimerKind, armed_step, blank_conn, conn, front_armed, grown, is_change, is_place, machine_step, node_armed, packets_of, part_of, rows_of, seen_step, sent_records, setting, timer_change, timer_kinds, timer_rows, with_leaving}
use Rattle.lard_law_view.proofs.EachClient.{each-client, of-client}
use Rattle.lard_base.specs.declared.event.Event.TheVariants as event
use Rattle.lard_base.specs.declared.place.TimerKind.TheVariants.{Tcp, Offer, Ask, Fetch, Ended, Give}
use Rattle.lard_laws.specs.StepsTimers.{RunsAsKept, TimersChangeInSteps, TimersRunAsKept, armed_at, client_armed}
use Rattle.lard_law_view.specs.View.{sending}
use Rattle.lard_law_view.proofs.Acts.{ActsAlone, ActsMany, AreApart, IsPassing, IsStepOf, Moving, step_acts, timers_in}
use Rattle.lard_law_view.proofs.AnyShape.{SomeGift, SomeNote, some-noted}
use Rattle.lard_law_view.proofs.After.{IsAfter, step-after}
use Rattle.lard_law_view.proofs.Carried.{IsOn, carried, carried-keep, on-rules}
use Rattle.lard_law_view.proofs.Fine.{IsFine, IsItsOwn, fine}
use Rattle.lard_law_view.proofs.Frames.{IsAtMachine, IsHeadAt, KeepsAt, Owed, fronts-leave, nodes-leave}
use Rattle.lard_law_view.proofs.Guarded.{both, weaker}
use Rattle.lard_law_view.proofs.Rows.{grown-told}
use Rattle.lard_law_view.proofs.Saying.{GaveAt, NotedIn, in-kind}
use Rattle.lard_law_view.proofs.Turned.{notes-in}
use Rattle.lard_law_view.proofs.Timers.{timer_rows-same}
use Rattle.lard_history.proofs.Each.{Each, Each-append, Each-weaker}
use Rattle.lard_history.proofs.Lifting.{fold-own}
use Rattle.lard_history.proofs.Seeing.{by_number, same_number}
use Rattle.lard_history.proofs.Stepping.{AreLawful, cancel, one-more}
use Rattle.lard_journal.specs.declared.rec.Rec.TheVariants as rec
use Rattle.lard_law_view.proofs.TimerChanges.{AreOthers, Exactly, IsStill, Still, all-both, all-change, changes, exactly-both, exactly-changes, exactly-none, kinds-change, number-others, others-both, place-is, place-others, step-changes, still-behind, still-rows, still-seen, still-sents, timer-is-own}
use Rattle.lard_law_view.proofs.OwnRecords.{behind}
use Rattle.lard_law_view.proofs.OfKinds as of-note
use Rattle.lard_law_view.proofs.RecordKinds.{IsNote, any-kind, kind_of}

-- ---- records of no timer

note-stays : (r : Rec) → IsNote r → is_change r ≡ false
note-stays (rec.Armed p d kind) h = absurd h
note-stays (rec.Cleared p d kind) h = absurd h
note-stays _ h = refl

still-note : (place : Place) (c : ℕ) (r : Rec) → NotedIn place c r → is_change r ≡ false
still-note place c r h = note-stays r (any-kind place (kind_of r) (in-kind place c r h))

still-gave : (place : Place) (c : ℕ) (r : Rec) → GaveAt place c r → is_change r ≡ false
still-gave = of-note.of-gift (λ r. is_change r ≡ false) (λ p d epoch. refl)

still-notes : (place : Place) (c : ℕ) (rs : List Rec) → Each (NotedIn place c) rs → Still rs
still-notes place c rs e = Each-weaker (NotedIn place c) (λ r. is_change r ≡ false) (still-note place c) rs e

still-gaves : (place : Place) (c : ℕ) (rs : List Rec) → Each (GaveAt place c) rs → Still rs
still-gaves place c rs e = Each-weaker (GaveAt place c) (λ r. is_change r ≡ false) (still-gave place c) rs e

still-sends : (place : Place) (ss : List (Place × List ℕ)) → Still (map (sending place) ss)
still-sends place [] = tt
still-sends place (s ∷ ss) = (refl, still-sends place ss)

still-both : (xs ys : List Rec) → Still xs → Still ys → Still (xs ++ ys)
still-both xs ys e f = Each-append (λ r. is_change r ≡ false) xs ys e f

-- ---- the records of a place's timers, kind by kind

rows-change : (place : Place) (c : ℕ) (p q : Part) → timer_rows place c p q ≡ changes place c (armed_at place p) (armed_at place q) timer_kinds
unfolding timer_rows
rows-change (Client d) c p q = sym (append-nil (timer_change (Client d) c (client_armed p.station Tcp) (client_armed q.station Tcp)))
rows-change _ c p q = refl

-- ---- a move changes what its own place keeps, or nothing

abbrev KeepsOthers : Conn → Move → Type 0
KeepsOthers x v = (HasTimer v.place x.c × KeepsAt v.place x.part v.part) ⊎ (v.part ≡ x.part)

-- and what is seen before its notes is of no timer
record IsPlain (x : Conn) (v : Move) : Type 0 where
  heads : Each IsStill v.heads
  acts : KeepsOthers x v

machine-timer : (place : Place) (c : ℕ) → IsMachine place → HasTimer place c
machine-timer Front c h = tt
machine-timer (Node n) c h = tt
machine-timer (Client d) c h = absurd h

head-still : (place : Place) (c : ℕ) (s : Seen) → IsHeadAt place c s → IsStill s
head-still place c (Row (rec.Event i (event.Timer p d))) h = refl
head-still place c (Came l) h = tt
head-still place c _ h = absurd h

machine-plain : (x : Conn) (v : Move) → IsAtMachine x v → IsPlain x v
machine-plain x v at = record {
  heads = Each-weaker (IsHeadAt v.place x.c) IsStill (head-still v.place x.c) v.heads at.heads;
  acts = inl (machine-timer v.place x.c at.machine, at.keeps);
}

plainly : (k : Setting) → Rules k (Owed IsPlain)
plainly k = record {
  untouched = record {
    client = each-client k (Owed IsPlain) (record {
      opens = λ x isn iss wnd mss rule none number sound. record { heads = (refl, (refl, tt)); acts = inl (refl, (refl, refl)) };
      does = λ x s g there comes number sound. record {
        heads = of-client x.c (Each IsStill) (λ from bytes. (tt, tt)) (λ e. (refl, tt)) g;
        acts = inl (refl, (refl, refl));
      };
    });
    front = fronts-leave k IsPlain (λ x v at own number sound. machine-plain x v at);
    node = nodes-leave k IsPlain (λ x v at own number sound. machine-plain x v at);
    ignores = λ x from to bytes was number sound. record { heads = (tt, tt); acts = inr refl };
  };
  injects = λ x s bytes there rule number sound. record { heads = (refl, (refl, tt)); acts = inl (refl, (refl, refl)) };
}

abbrev Changes : Conn → Move → Type 0
Changes x v = Owed IsPlain x v × IsFine x v

changing : (k : Setting) → Rules k Changes
changing k = both k (Owed IsPlain) IsFine (plainly k) (fine k)

-- ---- the flags of the other places

not-same : (n j : ℕ) → nat_eq n j ≡ false → n ≢ j
not-same n j e same = both_ways (nat_eq n j) e (subst (λ i. nat_eq n i ≡ true) same (same_number n))

flags-elsewhere : (place q : Place) (c : ℕ) (p r : Part) (kind : TimerKind) → is_place place q ≡ false → HasTimer place c → HasTimer q c → KeepsAt place p r → armed_at q r kind ≡ armed_at q p kind
flags-elsewhere (Client d) (Client e) c p r kind n mine its keeps = absurd (not-same d e n (mine ∙ sym its))
flags-elsewhere (Client d) Front c p r kind n mine its keeps = ap (λ f. front_armed f kind) keeps.0
flags-elsewhere (Client d) (Node i) c p r kind n mine its keeps = ap (λ (ns : ℕ → NodePart). node_armed (ns i) kind) keeps.1
flags-elsewhere Front (Client e) c p r kind n mine its keeps = ap (λ s. client_armed s kind) keeps.0
flags-elsewhere Front Front c p r kind n mine its keeps = absurd (both_ways true n refl)
flags-elsewhere Front (Node i) c p r kind n mine its keeps = ap (λ (ns : ℕ → NodePart). node_armed (ns i) kind) keeps.1
flags-elsewhere (Node j) (Client e) c p r kind n mine its keeps = ap (λ s. client_armed s kind) keeps.0
flags-elsewhere (Node j) Front c p r kind n mine its keeps = ap (λ f. front_armed f kind) keeps.1
flags-elsewhere (Node j) (Node i) c p r kind n mine its keeps = ap (λ (b : NodePart). node_armed b kind) (keeps.2 i (λ same. not-same j i n (sym same)))

-- ---- what is told of a connection's timers is what is kept

abbrev told : Conn → Place → TimerKind → Bool
told x place kind = fold (seen_step (armed_step place x.c kind)) false x.seen

abbrev IsTimed : Conn → Type 0
IsTimed x = (place : Place) → HasTimer place x.c → (kind : TimerKind) → told x place kind ≡ armed_at place x.part kind

each-kind : (P : TimerKind → Type 0) → P Tcp → P Offer → P Ask → P Fetch → P Ended → P Give → (kind : TimerKind) → P kind
each-kind P t o a f e g Tcp = t
each-kind P t o a f e g Offer = o
each-kind P t o a f e g Ask = a
each-kind P t o a f e g Fetch = f
each-kind P t o a f e g Ended = e
each-kind P t o a f e g Give = g

-- no timer runs at the start
none-runs : (c : ℕ) (place : Place) (kind : TimerKind) → false ≡ armed_at place (blank_conn c).part kind
none-runs c (Client d) kind = each-kind (λ k. false ≡ armed_at (Client d) (blank_conn c).part k) refl refl refl refl refl refl kind
none-runs c Front kind = each-kind (λ k. false ≡ armed_at Front (blank_conn c).part k) refl refl refl refl refl refl kind
none-runs c (Node n) kind = each-kind (λ k. false ≡ armed_at (Node n) (blank_conn c).part k) refl refl refl refl refl refl kind

module _ (x : Conn) (v : Move) (is : IsPlain x v) (own : IsItsOwn x v) where
  -- a move tells its place's timers
  grown-timer : (p : Place) (kind : TimerKind) → told (grown x v) p kind ≡ fold (armed_step p x.c kind) (told x p kind) (timer_rows v.place x.c x.part v.part)
  grown-timer p kind =
      let step : Bool → Rec → Bool = armed_step p x.c kind in
      let segments : List Rec = map (sending v.place) v.said.segments in
      let messages : List Rec = map (sending v.place) v.said.messages in
      let spoken : List Rec = v.said.notes ++ segments ++ v.said.gave ++ messages in
      let none : Still spoken =
      still-both (v.said.notes ++ segments ++ v.said.gave) messages
      (still-both (v.said.notes ++ segments) v.said.gave (still-both v.said.notes segments (still-notes v.place x.c v.said.notes (notes-in v.place x.c v.said.notes own.notes)) (still-sends v.place v.said.segments))
      (still-gaves v.place x.c v.said.gave own.gave))
      (still-sends v.place v.said.messages) in
      grown-told step false x v ∙ ap (λ b. fold step b (rows_of x v)) (still-seen p x.c kind (told x p kind) v.heads is.heads)
      ∙ fold-append step (told x p kind) spoken (timer_rows v.place x.c x.part v.part) ∙ ap (λ b. fold step b (timer_rows v.place x.c x.part v.part)) (still-rows p x.c kind (told x p kind) spoken none)

  timed-grown : IsTimed x → IsTimed (grown x v)
  timed-grown h q its kind = grown-timer q kind ∙ ⊎_elim
      (λ (a : HasTimer v.place x.c × KeepsAt v.place x.part v.part).
      ap (fold (armed_step q x.c kind) (told x q kind)) (rows-change v.place x.c x.part v.part) ∙ by-place a (is_place v.place q) refl)
      (λ (same : v.part ≡ x.part).
      ap (fold (armed_step q x.c kind) (told x q kind)) (ap (timer_rows v.place x.c x.part) same ∙ timer_rows-same v.place x.c x.part) ∙ h q its kind ∙ ap (λ (p : Part). armed_at q p kind) (sym same))
      is.acts
    where
      rows : List Rec
      rows = changes v.place x.c (armed_at v.place x.part) (armed_at v.place v.part) timer_kinds

      by-place : HasTimer v.place x.c × KeepsAt v.place x.part v.part → (b : Bool) → is_place v.place q ≡ b → fold (armed_step q x.c kind) (told x q kind) rows ≡ armed_at q v.part kind
      by-place a true e = subst (λ (p : Place). fold (armed_step p x.c kind) (told x p kind) rows ≡ armed_at p v.part kind) (place-is v.place q e)
          (ap (λ b. fold (armed_step v.place x.c kind) b rows) (h v.place a.0 kind) ∙ (kinds-change v.place x.c (armed_at v.place x.part) (armed_at v.place v.part) kind).tells)
      by-place a false n =
          (place-others q v.place x.c x.c (armed_at v.place x.part) (armed_at v.place v.part) kind n).stays (told x q kind) ∙ h q its kind
          ∙ sym (flags-elsewhere v.place q x.c x.part v.part kind n a.0 its a.1)

-- nothing more is given
abbrev Anything : Conn → Type 0
Anything x = Unit {0}

timing : (k : Setting) → IsLaw k Anything IsTimed
timing k = record {
  begins = λ c place its kind. none-runs c place kind;
  moves = weaker k Changes (λ x v. MayRestOn Anything x → IsTimed x → IsTimed (grown x v))
      (λ x v does may h. timed-grown x v (does.0 may.number may.sound) (does.1 may.number may.sound).0 h) (changing k);
}

module _ (config : Config) (files : List (List ℕ × List ℕ)) where
  timed-always : OfEach config files IsTimed
  timed-always = carried config files Anything IsTimed (λ l. timing (with_leaving (setting config files) l)) (λ m r q. tt)

  runs-kept : (m : Machine) → IsReached config files m → (c : ℕ) → RunsAsKept m c
  unfolding conn
  runs-kept m r c place its kind = fold-own c (armed_step place c kind) (timer-is-own place c kind) false m.journal ∙ timed-always m r c place its kind

pub timers-kept : TimersRunAsKept
timers-kept config files m r c = runs-kept config files m r c

-- ---- a step

-- of a state whose timers run as kept
module _ (m : Machine) (view : IsViewed m) (kept : (c : ℕ) → RunsAsKept m c) (e : Event) (adds : List Rec) where
  abbrev first : Rec
  first = rec.Event (m.events + 1) e

  module _ (place : Place) (c : ℕ) (r : Part) where
    abbrev rows : List Rec
    rows = timer_rows place c (part_of m c) r

    rows-all : list_all is_change rows ≡ true
    rows-all = subst (λ (rs : List Rec). list_all is_change rs ≡ true) (sym (rows-change place c (part_of m c) r)) (all-change place c (armed_at place (part_of m c)) (armed_at place r) timer_kinds)

    rows-exactly : (HasTimer place c × KeepsAt place (part_of m c) r) ⊎ (r ≡ part_of m c) → Exactly m.journal rows
    rows-exactly acts = ⊎_elim
        (λ (a : HasTimer place c × KeepsAt place (part_of m c) r).
        subst (Exactly m.journal) (sym (rows-change place c (part_of m c) r)) (exactly-changes m.journal place c (armed_at place (part_of m c)) (armed_at place r) (λ kind. kept c place a.0 kind)))
        (λ (same : r ≡ part_of m c). subst (Exactly m.journal) (sym (ap (timer_rows place c (part_of m c)) same ∙ timer_rows-same place c (part_of m c))) (exactly-none m.journal))
        acts

    -- none is of another connection
    rows-others : (p : Place) (d : ℕ) (kind : TimerKind) → c ≢ d → AreOthers p d kind rows
    rows-others p d kind n = subst (AreOthers p d kind) (sym (rows-change place c (part_of m c) r)) (number-others p place c d (armed_at place (part_of m c)) (armed_at place r) kind n)

  -- what stands before the records of timers
  module _ (place : Place) (notes : List Rec) (segments : List (Place × List ℕ)) (gave : List Rec) (messages : List (Place × List ℕ)) where
    abbrev spoken : List Rec
    spoken = behind e ++ notes ++ sent_records (length m.net + 1) place segments ++ gave ++ sent_records (length (m.net ++ packets_of place segments) + 1) place messages

    spoken-still : Still notes → Still gave → Still (first ∷ spoken)
    spoken-still n g =
        let S : List Rec = sent_records (length m.net + 1) place segments in
        let M : List Rec = sent_records (length (m.net ++ packets_of place segments) + 1) place messages in (
          refl,
          still-both (behind e ++ notes ++ S ++ gave) M
              (still-both (behind e ++ notes ++ S) gave (still-both (behind e ++ notes) S (still-both (behind e) notes (still-behind e) n) (still-sents (length m.net + 1) place segments)) g)
              (still-sents (length (m.net ++ packets_of place segments) + 1) place messages),
        )

    spoken-changes : (timers : List Rec) → Still notes → Still gave → list_all is_change timers ≡ true → Exactly m.journal timers → ChangesTimers m.journal (first ∷ spoken ++ timers)
    spoken-changes timers n g all exact = step-changes m.journal (first ∷ spoken) timers (spoken-still n g) all exact

  alone-change : ActsAlone Changes m e adds → ChangesTimers m.journal (first ∷ adds)
  unfolding conn
  alone-change a =
      let v : Move = a.move in
      let own : IsItsOwn (conn m a.c) v = (a.moves.does.1 a.moves.number (view.sound a.c)).0 in
      let plain : IsPlain (conn m a.c) v = a.moves.does.0 a.moves.number (view.sound a.c) in
      subst (λ (rs : List Rec). ChangesTimers m.journal (first ∷ rs)) (sym a.are)
      (spoken-changes v.place a.noted v.said.segments v.said.gave v.said.messages (rows v.place a.c v.part) (still-notes v.place a.c a.noted a.moves.notes) (still-gaves v.place a.c v.said.gave own.gave)
      (rows-all v.place a.c v.part) (rows-exactly v.place a.c v.part plain.acts))

  -- the records of the timers of several, one behind another
  abbrev Owned : Moving → Type 0
  Owned x = IsConnNumber x.c × Changes (conn m x.c) x.move

  abbrev rows_in : Moving → List Rec
  rows_in x = rows x.move.place x.c x.move.part

  moving-all : (xs : List Moving) → list_all is_change (timers_in m xs) ≡ true
  moving-all [] = refl
  moving-all (x ∷ xs) = all-both (rows_in x) (timers_in m xs) (rows-all x.move.place x.c x.move.part) (moving-all xs)

  moving-others : (p : Place) (d : ℕ) (kind : TimerKind) (xs : List Moving) → Each (λ y. y.c ≢ d) xs → AreOthers p d kind (timers_in m xs)
  moving-others p d kind [] h = record { none = refl; stays = λ b. refl }
  moving-others p d kind (x ∷ xs) h = others-both p d kind (rows_in x) (timers_in m xs) (rows-others x.move.place x.c x.move.part p d kind h.0) (moving-others p d kind xs h.1)

  moving-exactly : (xs : List Moving) → AreApart xs → Each Owned xs → Exactly m.journal (timers_in m xs)
  unfolding conn
  moving-exactly [] apart h = exactly-none m.journal
  moving-exactly (x ∷ xs) apart h =
      let plain : IsPlain (conn m x.c) x.move = h.0.1.0 h.0.0 (view.sound x.c) in
      exactly-both m.journal (rows_in x) (timers_in m xs) (rows-exactly x.move.place x.c x.move.part plain.acts) (moving-exactly xs apart.1 h.1)
      (λ p q kind. by_number (AreOthers p q kind (rows_in x) ⊎ AreOthers p q kind (timers_in m xs)) x.c q
      (λ same. inr (moving-others p q kind xs (Each-weaker (λ y. y.c ≢ x.c) (λ y. y.c ≢ q) (λ y other e. other (e ∙ sym same)) xs apart.0)))
      (λ other. inl (rows-others x.move.place x.c x.move.part p q kind other)))

  many-change : ActsMany Changes m e adds → ChangesTimers m.journal (first ∷ adds)
  many-change a =
      subst (λ (rs : List Rec). ChangesTimers m.journal (first ∷ rs)) (sym a.are)
      (spoken-changes a.place a.o.notes a.o.segments a.o.gave a.o.messages a.o.timers
      (Each-weaker (SomeNote a.place) (λ r. is_change r ≡ false) (λ r h. note-stays r (some-noted a.place r h)) a.o.notes a.act.notes)
      (Each-weaker (SomeGift a.place) (λ r. is_change r ≡ false) (λ r h. still-gave a.place h.0 r h.1) a.o.gave a.act.gave)
      (subst (λ (rs : List Rec). list_all is_change rs ≡ true) (sym a.timers) (moving-all a.moving))
      (subst (Exactly m.journal) (sym a.timers) (moving-exactly a.moving a.apart a.moves)))

  adds-change : IsPassing m e adds ⊎ (ActsAlone Changes m e adds ⊎ ActsMany Changes m e adds) → ChangesTimers m.journal (first ∷ adds)
  adds-change (inl passing) = subst (λ (rs : List Rec). ChangesTimers m.journal (first ∷ rs)) (append-nil adds) (step-changes m.journal (first ∷ adds) [] (refl, passing-still e adds passing) refl (exactly-none m.journal)) where
    passing-still : (d : Event) (rs : List Rec) → IsPassing m d rs → Still rs
    passing-still (event.Clock ms) rs h = subst Still (sym h) (refl, tt)
    passing-still d rs h = subst Still (sym h) (still-behind d)
  adds-change (inr (inl a)) = alone-change a
  adds-change (inr (inr a)) = many-change a

-- ---- every run

module _ (config : Config) (files : List (List ℕ × List ℕ)) where
  one-step : (k n : Machine) (e : Event) → IsOn config files k → AreLawful ChangesTimers k.journal → HasRule e → machine_step k e ≡ Ok n → AreLawful ChangesTimers n.journal
  one-step k n e on h rule is =
      let shape : IsAfter k e n = step-after k on.view e n rule is in
      let step : IsStepOf Changes k n e = step_acts k n e Changes on.view (on-rules config files Changes (λ l. changing (with_leaving (setting config files) l)) k on) rule is in
      let opening : Rec = rec.Event (k.events + 1) e in
      let same : shape.step ≡ opening ∷ step.adds = cancel k.journal shape.step (opening ∷ step.adds) (sym shape.is ∙ step.journal) in
      subst (AreLawful ChangesTimers) (sym shape.is)
      (one-more ChangesTimers k.journal shape.step shape.one h
      (subst (ChangesTimers k.journal) (sym same) (adds-change k on.view (runs-kept config files k on.reached) e step.adds step.acts)))

pub timers-change : TimersChangeInSteps
timers-change config files m r = (carried-keep config files (λ k. AreLawful ChangesTimers k.journal) (refl, tt) (one-step config files) m r).1
