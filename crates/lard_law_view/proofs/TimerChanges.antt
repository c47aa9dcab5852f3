-- Records of timers: what each says of the timer that it names and of all others, and the records of all that changed in a step.
use Rattle.std.proofs.Common.{◌≡◌, ◌≢◌, ℕ, ◌+◌, List, [], ◌∷◌, ◌++◌, Bool, true, false, not, cond, ◌&&◌, Some, None, refl, sym, ap, ◌∙◌, subst, nat_eq, append-nil, inl, inr, ⊎_elim}
use Rattle.std.specs.Prelude.{◌⊎◌}
use Rattle.std.proofs.lemmas.Bool.{and_parts, both_ways}
use Rattle.std.proofs.lemmas.List.Elements.{filter-append}
use Rattle.std.proofs.lemmas.List.Sums.{fold-append}
use Rattle.std.specs.List.{filter, flat_map, fold, list_all}
use Rattle.lard_law_view.specs.Prelude.{Came, ChangesTimers, Client, Event, Front, Node, Place, Rec, Row, Seen, TimerKind, armed_step, change_of, is_change, is_change_of, is_kind, is_place, is_running, kind_change, plain, seen_step, sent_records, timer_kinds, whose}
use Rattle.lard_base.specs.declared.event.Event.TheVariants as event
use Rattle.lard_base.specs.declared.place.TimerKind.TheVariants.{Tcp, Offer, Ask, Fetch, Ended, Give}
use Rattle.lard_history.proofs.Each.{Each, Each-weaker}
use Rattle.lard_history.proofs.Lifting.{IsOwnFold}
use Rattle.lard_history.proofs.Seeing.{by_number, other_number, same_number}
use Rattle.lard_journal.specs.declared.rec.Rec.TheVariants as rec
use Rattle.lard_law_view.proofs.OwnRecords.{behind}

-- ---- records of no timer

abbrev pub Still : List Rec → Type 0
Still rs = Each (λ r. is_change r ≡ false) rs

pub still-behind : (e : Event) → Still (behind e)
still-behind (event.Open c isn iss wnd mss) = (refl, tt)
still-behind (event.Deliver k) = (refl, tt)
still-behind (event.Lose k) = (refl, tt)
still-behind (event.Inject c bytes) = (refl, tt)
still-behind _ = tt

pub still-sents : (k : ℕ) (place : Place) (ss : List (Place × List ℕ)) → Still (sent_records k place ss)
still-sents k place [] = tt
still-sents k place (s ∷ ss) = (refl, still-sents (k + 1) place ss)

none-change : (rs : List Rec) → Still rs → list_all (λ r. not (is_change r)) rs ≡ true
none-change [] n = refl
none-change (r ∷ rs) n = ap (λ b. not b && list_all (λ q. not (is_change q)) rs) n.0 ∙ none-change rs n.1

-- such a record leaves each timer as it was
module _ (p : Place) (c : ℕ) (kind : TimerKind) where
  still-step : (b : Bool) (r : Rec) → is_change r ≡ false → armed_step p c kind b r ≡ b
  still-step b (rec.Armed q d k) n = absurd (both_ways true n refl)
  still-step b (rec.Cleared q d k) n = absurd (both_ways true n refl)
  still-step b _ n = refl

  pub still-rows : (b : Bool) (rs : List Rec) → Still rs → fold (armed_step p c kind) b rs ≡ b
  still-rows b [] n = refl
  still-rows b (r ∷ rs) n = ap (λ a. fold (armed_step p c kind) a rs) (still-step b r n.0) ∙ still-rows b rs n.1

-- and so does what a connection sees
abbrev pub IsStill : Seen → Type 0
IsStill (Row r) = is_change r ≡ false
IsStill (Came l) = Unit {0}

pub still-seen : (p : Place) (c : ℕ) (kind : TimerKind) (b : Bool) (ss : List Seen) → Each IsStill ss → fold (seen_step (armed_step p c kind)) b ss ≡ b
still-seen p c kind b [] n = refl
still-seen p c kind b (Row r ∷ ss) n = ap (λ a. fold (seen_step (armed_step p c kind)) a ss) (still-step p c kind b r n.0) ∙ still-seen p c kind b ss n.1
still-seen p c kind b (Came l ∷ ss) n = still-seen p c kind b ss n.1

-- ---- which timer a record names

number-is : (d c : ℕ) → nat_eq d c ≡ true → d ≡ c
number-is d c e = by_number (d ≡ c) d c (λ same. same) (λ n. absurd (both_ways (nat_eq d c) (other_number d c n) e))

pub place-is : (q p : Place) → is_place q p ≡ true → q ≡ p
place-is Front Front e = refl
place-is (Node n) (Node m) e = ap Node (number-is n m e)
place-is (Client c) (Client d) e = ap Client (number-is c d e)
place-is _ _ e = absurd (both_ways false refl e)

pub same-place : (p : Place) → is_place p p ≡ true
same-place Front = refl
same-place (Node n) = same_number n
same-place (Client c) = same_number c

kind-is : (k kind : TimerKind) → is_kind k kind ≡ true → k ≡ kind
kind-is Tcp Tcp e = refl
kind-is Offer Offer e = refl
kind-is Ask Ask e = refl
kind-is Fetch Fetch e = refl
kind-is Ended Ended e = refl
kind-is Give Give e = refl
kind-is _ _ e = absurd (both_ways false refl e)

not-its : (a d b : Bool) → d ≡ false → (a && (d && b)) ≡ false
not-its true d b e = ap (λ t. t && b) e
not-its false d b e = refl

plain-timer : (p : Place) (c : ℕ) (kind : TimerKind) (b : Bool) (r : Rec) → armed_step p c kind b (plain r) ≡ armed_step p c kind b r
plain-timer p c kind b (rec.Event i e) = refl
plain-timer p c kind b (rec.Sent k from to bytes) = refl
plain-timer p c kind b _ = refl

-- a record of another connection, or of none, leaves the timer
other-timer : (p : Place) (c : ℕ) (kind : TimerKind) (b : Bool) (r : Rec) → whose r ≢ Some c → armed_step p c kind b r ≡ b
other-timer p c kind b (rec.Armed q d k) n = ap (λ t. cond t true b) (not-its (is_place q p) (nat_eq d c) (is_kind k kind) (other_number d c (λ s. n (ap Some s))))
other-timer p c kind b (rec.Cleared q d k) n = ap (λ t. cond t false b) (not-its (is_place q p) (nat_eq d c) (is_kind k kind) (other_number d c (λ s. n (ap Some s))))
other-timer p c kind b _ n = refl

-- so a connection tells its timers by what it sees
pub timer-is-own : (p : Place) (c : ℕ) (kind : TimerKind) → IsOwnFold c (armed_step p c kind)
timer-is-own p c kind = record {
  mine = λ b r e. plain-timer p c kind b r;
  others = λ b r d n e. other-timer p c kind b r (λ s. n (let same : Some d ≡ Some c = sym e ∙ s in cc));
  nobody = λ b r e. other-timer p c kind b r (λ s. let no : None ≡ Some c = sym e ∙ s in absurd cc);
}

-- ---- the records of one place and connection

-- the records of kinds of timers that changed
abbrev pub changes : Place → ℕ → (TimerKind → Bool) → (TimerKind → Bool) → List TimerKind → List Rec
changes place c was is ks = flat_map (λ kind. kind_change place c kind (was kind) (is kind)) ks

-- no record of them is of this timer
pub record AreOthers (p : Place) (d : ℕ) (kind : TimerKind) (rs : List Rec) : Type 0 where
  pub none : filter (is_change_of p d kind) rs ≡ []
  pub stays : (b : Bool) → fold (armed_step p d kind) b rs ≡ b

-- they are those of this timer's change, and tell it
pub record AreOfChange (p : Place) (d : ℕ) (kind : TimerKind) (was is : Bool) (rs : List Rec) : Type 0 where
  pub one : filter (is_change_of p d kind) rs ≡ change_of p d kind was is
  pub tells : fold (armed_step p d kind) was rs ≡ is

module _ (p : Place) (d : ℕ) (kind : TimerKind) where
  pub others-both : (xs ys : List Rec) → AreOthers p d kind xs → AreOthers p d kind ys → AreOthers p d kind (xs ++ ys)
  others-both xs ys h k = record {
    none = filter-append (is_change_of p d kind) xs ys ∙ (λ i. h.none i ++ k.none i);
    stays = λ b. fold-append (armed_step p d kind) b xs ys ∙ ap (λ a. fold (armed_step p d kind) a ys) (h.stays b) ∙ k.stays b;
  }

  pub change-first : (was is : Bool) (xs ys : List Rec) → AreOfChange p d kind was is xs → AreOthers p d kind ys → AreOfChange p d kind was is (xs ++ ys)
  change-first was is xs ys h k = record {
    one = filter-append (is_change_of p d kind) xs ys ∙ (λ i. h.one i ++ k.none i) ∙ append-nil (change_of p d kind was is);
    tells = fold-append (armed_step p d kind) was xs ys ∙ k.stays (fold (armed_step p d kind) was xs) ∙ h.tells;
  }

  pub change-second : (was is : Bool) (xs ys : List Rec) → AreOthers p d kind xs → AreOfChange p d kind was is ys → AreOfChange p d kind was is (xs ++ ys)
  change-second was is xs ys h k = record {
    one = filter-append (is_change_of p d kind) xs ys ∙ (λ i. h.none i ++ k.one i);
    tells = fold-append (armed_step p d kind) was xs ys ∙ ap (λ a. fold (armed_step p d kind) a ys) (h.stays was) ∙ k.tells;
  }

  -- of another timer than the one that the record names
  pub kind-others : (place : Place) (c : ℕ) (k : TimerKind) (was is : Bool) → (is_place place p && (nat_eq c d && is_kind k kind)) ≡ false → AreOthers p d kind (kind_change place c k was is)
  kind-others place c k false false n = record { none = refl; stays = λ b. refl }
  kind-others place c k false true n = record { none = ap (λ t. cond t (rec.Armed place c k ∷ []) []) n; stays = λ b. ap (λ t. cond t true b) n }
  kind-others place c k true false n = record { none = ap (λ t. cond t (rec.Cleared place c k ∷ []) []) n; stays = λ b. ap (λ t. cond t false b) n }
  kind-others place c k true true n = record { none = refl; stays = λ b. refl }

  all-others : (place : Place) (c : ℕ) (was is : TimerKind → Bool) (ks : List TimerKind) → Each (λ k. (is_place place p && (nat_eq c d && is_kind k kind)) ≡ false) ks
      → AreOthers p d kind (changes place c was is ks)
  all-others place c was is [] n = record { none = refl; stays = λ b. refl }
  all-others place c was is (k ∷ ks) n =
      others-both (kind_change place c k (was k) (is k)) (changes place c was is ks) (kind-others place c k (was k) (is k) n.0) (all-others place c was is ks n.1)

  -- of the timer itself
  itself : (is_place p p && (nat_eq d d && is_kind kind kind)) ≡ true
  itself = ap (λ b. b && (nat_eq d d && is_kind kind kind)) (same-place p) ∙ ap (λ b. b && is_kind kind kind) (same_number d) ∙ same-kind kind where
    same-kind : (k : TimerKind) → is_kind k k ≡ true
    same-kind Tcp = refl
    same-kind Offer = refl
    same-kind Ask = refl
    same-kind Fetch = refl
    same-kind Ended = refl
    same-kind Give = refl

  pub its-change : (was is : Bool) → AreOfChange p d kind was is (kind_change p d kind was is)
  its-change false false = record { one = refl; tells = refl }
  its-change false true = record { one = ap (λ t. cond t (rec.Armed p d kind ∷ []) []) itself; tells = ap (λ t. cond t true false) itself }
  its-change true false = record { one = ap (λ t. cond t (rec.Cleared p d kind ∷ []) []) itself; tells = ap (λ t. cond t false true) itself }
  its-change true true = record { one = refl; tells = refl }

-- another kind is another timer
other-kind : (a b k : Bool) → k ≡ false → (a && (b && k)) ≡ false
other-kind true true k e = e
other-kind true false k e = refl
other-kind false b k e = refl

-- the kind stands in the list once
abbrev HasOnce : TimerKind → List TimerKind → Type 0
HasOnce kind [] = ⊥
HasOnce kind (k ∷ ks) = ((is_kind k kind ≡ true) × Each (λ j. is_kind j kind ≡ false) ks) ⊎ ((is_kind k kind ≡ false) × HasOnce kind ks)

each-once : (kind : TimerKind) → HasOnce kind timer_kinds
each-once Tcp = inl (refl, (refl, (refl, (refl, (refl, (refl, tt))))))
each-once Offer = inr (refl, inl (refl, (refl, (refl, (refl, (refl, tt))))))
each-once Ask = inr (refl, inr (refl, inl (refl, (refl, (refl, (refl, tt))))))
each-once Fetch = inr (refl, inr (refl, inr (refl, inl (refl, (refl, (refl, tt))))))
each-once Ended = inr (refl, inr (refl, inr (refl, inr (refl, inl (refl, (refl, tt))))))
each-once Give = inr (refl, inr (refl, inr (refl, inr (refl, inr (refl, inl (refl, tt))))))

module _ (place : Place) (c : ℕ) (was is : TimerKind → Bool) where
  -- the records of a place's timers have that of each that changed
  once-changes : (kind : TimerKind) (ks : List TimerKind) → HasOnce kind ks → AreOfChange place c kind (was kind) (is kind) (changes place c was is ks)
  once-changes kind [] h = absurd h
  once-changes kind (k ∷ ks) h = ⊎_elim
      (λ (now : (is_kind k kind ≡ true) × Each (λ j. is_kind j kind ≡ false) ks).
      let same : k ≡ kind = kind-is k kind now.0 in
      change-first place c kind (was kind) (is kind) (kind_change place c k (was k) (is k)) (changes place c was is ks)
      (subst (λ (j : TimerKind). AreOfChange place c kind (was kind) (is kind) (kind_change place c j (was j) (is j))) (sym same) (its-change place c kind (was kind) (is kind)))
      (all-others place c kind place c was is ks (Each-weaker (λ j. is_kind j kind ≡ false) (λ j. (is_place place place && (nat_eq c c && is_kind j kind)) ≡ false) (λ j n. other-kind (is_place place place) (nat_eq c c) (is_kind j kind) n) ks now.1)))
      (λ (later : (is_kind k kind ≡ false) × HasOnce kind ks).
      change-second place c kind (was kind) (is kind) (kind_change place c k (was k) (is k)) (changes place c was is ks)
      (kind-others place c kind place c k (was k) (is k) (other-kind (is_place place place) (nat_eq c c) (is_kind k kind) later.0))
      (once-changes kind ks later.1))
      h

  pub kinds-change : (kind : TimerKind) → AreOfChange place c kind (was kind) (is kind) (changes place c was is timer_kinds)
  kinds-change kind = once-changes kind timer_kinds (each-once kind)

-- and none of those of another place, or of another connection
pub place-others : (p q : Place) (c d : ℕ) (was is : TimerKind → Bool) (kind : TimerKind) → is_place q p ≡ false → AreOthers p d kind (changes q c was is timer_kinds)
place-others p q c d was is kind n = all-others p d kind q c was is timer_kinds (each-not timer_kinds) where
  each-not : (ks : List TimerKind) → Each (λ k. (is_place q p && (nat_eq c d && is_kind k kind)) ≡ false) ks
  each-not [] = tt
  each-not (k ∷ ks) = (ap (λ b. b && (nat_eq c d && is_kind k kind)) n, each-not ks)

pub number-others : (p q : Place) (c d : ℕ) (was is : TimerKind → Bool) (kind : TimerKind) → c ≢ d → AreOthers p d kind (changes q c was is timer_kinds)
number-others p q c d was is kind n = all-others p d kind q c was is timer_kinds (each-not timer_kinds) where
  each-not : (ks : List TimerKind) → Each (λ k. (is_place q p && (nat_eq c d && is_kind k kind)) ≡ false) ks
  each-not [] = tt
  each-not (k ∷ ks) = (not-its (is_place q p) (nat_eq c d) (is_kind k kind) (other_number c d n), each-not ks)

pub one-change : (place : Place) (c : ℕ) (k : TimerKind) (was is : Bool) → list_all is_change (kind_change place c k was is) ≡ true
one-change place c k false false = refl
one-change place c k false true = refl
one-change place c k true false = refl
one-change place c k true true = refl

pub all-both : (xs ys : List Rec) → list_all is_change xs ≡ true → list_all is_change ys ≡ true → list_all is_change (xs ++ ys) ≡ true
all-both [] ys e f = f
all-both (x ∷ xs) ys e f = let parts = and_parts (is_change x) (list_all is_change xs) e in ap (λ b. b && list_all is_change (xs ++ ys)) parts.0 ∙ all-both xs ys parts.1 f

-- all of them are of timers
pub all-change : (place : Place) (c : ℕ) (was is : TimerKind → Bool) (ks : List TimerKind) → list_all is_change (changes place c was is ks) ≡ true
all-change place c was is [] = refl
all-change place c was is (k ∷ ks) = all-both (kind_change place c k (was k) (is k)) (changes place c was is ks) (one-change place c k (was k) (is k)) (all-change place c was is ks)

-- ---- a step

-- the records of each timer are those of its change, by what is told before
abbrev pub Exactly : List Rec → List Rec → Type 0
Exactly past rows = (p : Place) (c : ℕ) (kind : TimerKind) → AreOfChange p c kind (is_running past p c kind) (fold (armed_step p c kind) (is_running past p c kind) rows) rows

-- a timer that has no record is as before
pub others-exactly : (p : Place) (c : ℕ) (kind : TimerKind) (b : Bool) (rows : List Rec) → AreOthers p c kind rows → AreOfChange p c kind b (fold (armed_step p c kind) b rows) rows
others-exactly p c kind b rows h = record { one = h.none ∙ unchanged b ∙ ap (change_of p c kind b) (sym (h.stays b)); tells = refl } where
  unchanged : (b : Bool) → [] ≡ change_of p c kind b b
  unchanged true = refl
  unchanged false = refl

pub exactly-none : (past : List Rec) → Exactly past []
exactly-none past p c kind = others-exactly p c kind (is_running past p c kind) [] (record { none = refl; stays = λ b. refl })

module _ (past : List Rec) where
  -- the records of a place whose timers were told to run as its flags say
  pub exactly-changes : (place : Place) (c : ℕ) (was is : TimerKind → Bool) → ((kind : TimerKind) → is_running past place c kind ≡ was kind) → Exactly past (changes place c was is timer_kinds)
  exactly-changes place c was is kept p d kind = by-place (is_place place p) refl where
    rows : List Rec
    rows = changes place c was is timer_kinds

    told : AreOfChange place c kind (is_running past place c kind) (is kind) rows
    told = subst (λ (b : Bool). AreOfChange place c kind b (is kind) rows) (sym (kept kind)) (kinds-change place c was is kind)

    own : AreOfChange place c kind (is_running past place c kind) (fold (armed_step place c kind) (is_running past place c kind) rows) rows
    own = record { one = told.one ∙ ap (change_of place c kind (is_running past place c kind)) (sym told.tells); tells = refl }

    by-place : (b : Bool) → is_place place p ≡ b → AreOfChange p d kind (is_running past p d kind) (fold (armed_step p d kind) (is_running past p d kind) rows) rows
    by-place false n = others-exactly p d kind (is_running past p d kind) rows (place-others p place c d was is kind n)
    by-place true e = by_number (AreOfChange p d kind (is_running past p d kind) (fold (armed_step p d kind) (is_running past p d kind) rows) rows) c d
        (λ same.
        subst (λ (q : Place). AreOfChange q d kind (is_running past q d kind) (fold (armed_step q d kind) (is_running past q d kind) rows) rows) (place-is place p e)
        (subst (λ (n : ℕ). AreOfChange place n kind (is_running past place n kind) (fold (armed_step place n kind) (is_running past place n kind) rows) rows) same own))
        (λ n. others-exactly p d kind (is_running past p d kind) rows (number-others p place c d was is kind n))

  -- two lists, of each timer at most one has records
  pub exactly-both : (xs ys : List Rec) → Exactly past xs → Exactly past ys → ((p : Place) (d : ℕ) (kind : TimerKind) → AreOthers p d kind xs ⊎ AreOthers p d kind ys) → Exactly past (xs ++ ys)
  exactly-both xs ys f g apart p d kind =
      let b : Bool = is_running past p d kind in
      ⊎_elim
      (λ (none : AreOthers p d kind xs).
      let same : fold (armed_step p d kind) b (xs ++ ys) ≡ fold (armed_step p d kind) b ys = fold-append (armed_step p d kind) b xs ys ∙ ap (λ a. fold (armed_step p d kind) a ys) (none.stays b) in
      subst (λ (a : Bool). AreOfChange p d kind b a (xs ++ ys)) (sym same) (change-second p d kind b (fold (armed_step p d kind) b ys) xs ys none (g p d kind)))
      (λ (none : AreOthers p d kind ys).
      let same : fold (armed_step p d kind) b (xs ++ ys) ≡ fold (armed_step p d kind) b xs = fold-append (armed_step p d kind) b xs ys ∙ none.stays (fold (armed_step p d kind) b xs) in
      subst (λ (a : Bool). AreOfChange p d kind b a (xs ++ ys)) (sym same) (change-first p d kind b (fold (armed_step p d kind) b xs) xs ys (f p d kind) none))
      (apart p d kind)

  -- a step whose last records are those
  pub step-changes : (before rows : List Rec) → Still before → list_all is_change rows ≡ true → Exactly past rows → ChangesTimers past (before ++ rows)
  step-changes before rows none all exact = record {
    before = before;
    changes = rows;
    is = refl;
    none = none-change before none;
    all = all;
    exactly = λ p c kind. (exact p c kind).one ∙ ap (change_of p c kind (is_running past p c kind)) (sym (now p c kind));
  } where
    now : (p : Place) (c : ℕ) (kind : TimerKind) → is_running (past ++ (before ++ rows)) p c kind ≡ fold (armed_step p c kind) (is_running past p c kind) rows
    now p c kind =
        fold-append (armed_step p c kind) false past (before ++ rows) ∙ fold-append (armed_step p c kind) (is_running past p c kind) before rows
        ∙ ap (λ b. fold (armed_step p c kind) b rows) (still-rows p c kind (is_running past p c kind) before none)
