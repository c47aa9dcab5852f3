-- Places that are kept before anything is decided: they change no set, and no order.
use Rattle.std.proofs.Common.{◌≡◌, ℕ, suc, ◌+◌, ◌<◌, ◌≤◌, Bool, true, false, ◌||◌, cond, List, [], ◌∷◌, ◌++◌, length, take, drop, get_or, Option, Some, None, is_some, unwrap_or, refl, sym, ap, subst, ◌∙◌, arith}
use Rattle.std.proofs.lemmas.Bool.{cond-true, cond-false}
use Rattle.std.proofs.lemmas.List.{append-nil, length-append, take-append-le}
use Rattle.std.proofs.lemmas.Slice.Eq.{bytes_eq-Decides}
use Rattle.std.specs.List.{AllByRecursion}
use Rattle.std.specs.Str.{bytes_eq}
use Rattle.lard_base.specs.declared.config.Config.{Config}
use Rattle.lard_base.specs.declared.ids.Millis.{Millis}
use Rattle.lard_sets.specs.declared.sets.ServerSet.{ServerSet}
use Rattle.lard_sets.specs.Sets.{has_place, no_servers, place, put, set_of, touched, with_member}
use Rattle.lard_sets.proofs.Changes.{place-put}
use Rattle.std.proofs.Math.Seq.{drop-cons}
use Rattle.lard_base.specs.Members.{has}
use Rattle.lard_loads.specs.Tally.{Tally, batch_ended, connected, shared}
use Rattle.lard_policy.specs.First.{first_choice}
use Rattle.lard_policy.specs.declared.first.FirstChoice.{FirstChoice}
use Rattle.lard_costs.specs.Later.{later_choice}
use Rattle.lard_costs.specs.declared.later.LaterChoice.{LaterChoice}
use Rattle.lard_dispatch.specs.declared.dispatch.Ask.{Ask}
use Rattle.lard_dispatch.specs.declared.line.Waiting.{Waiting}
use Rattle.lard_dispatch.specs.Books.{Books}
use Rattle.lard_dispatch.specs.Sound.{AreServedByNodes}
use Rattle.lard_dispatch.specs.Calls.{admitted_with, all_choices, all_shared, all_touched, batch_over, choice_at, joined, later_choice_at, placed_by, reduced, shared_with, unlined}
use Rattle.lard_dispatch.proofs.Servers.{Sets, set_of-put, set_of-touched, place-touched}

-- a place more, or none
abbrev more_for : Sets → List ℕ → Sets
more_for sets t = cond (has_place sets t) [] ((t, no_servers) ∷ [])

touched-is : (sets : Sets) (t : List ℕ) → touched sets t ≡ sets ++ more_for sets t
touched-is [] t = refl
touched-is (e ∷ es) t = go (bytes_eq t e.0) (touched-is es t) where
  go : (b : Bool) → touched es t ≡ es ++ more_for es t
      → cond b ((e.0, unwrap_or (cond b (Some e.1) (place es t)) no_servers) ∷ es) (e ∷ put es t (unwrap_or (cond b (Some e.1) (place es t)) no_servers))
      ≡ e ∷ (es ++ cond (is_some (cond b (Some e.1) (place es t))) [] ((t, no_servers) ∷ []))
  go true h = ap (λ (xs : Sets). e ∷ xs) (sym (append-nil es))
  go false h = ap (λ (xs : Sets). e ∷ xs) h

-- where a place is kept nothing changes
pub touched-there : (sets : Sets) (t : List ℕ) → has_place sets t ≡ true → touched sets t ≡ sets
touched-there sets t there = touched-is sets t ∙ ap (λ (b : Bool). sets ++ cond b [] ((t, no_servers) ∷ [])) there ∙ append-nil sets

pub place-own : (sets : Sets) (t : List ℕ) → has_place (touched sets t) t ≡ true
place-own sets t = place-touched sets t t ∙ ap (λ (b : Bool). b || has_place sets t) ((bytes_eq-Decides t t).1 refl)

-- what stood before the new places
pub touched-front : (sets : Sets) (n : ℕ) (t : List ℕ) → n ≤ length sets → (take n (touched sets t) ≡ take n sets) × (n ≤ length (touched sets t))
touched-front sets n t le =
    let grown : length (touched sets t) ≡ length sets + length (more_for sets t) = ap length (touched-is sets t) ∙ length-append sets (more_for sets t) in
    (ap (take n) (touched-is sets t) ∙ take-append-le n sets (more_for sets t) le, omega (arith, grown, le))

-- ---- two targets

-- what is put at one target where a place is kept, and at another, may be put in either order
put-swap : (sets : Sets) (p q : List ℕ) (s v : ServerSet) → has_place sets p ≡ true → bytes_eq p q ≡ false → put (put sets q v) p s ≡ put (put sets p s) q v
put-swap [] p q s v there apart = cc
put-swap (e ∷ es) p q s v there apart = go (put-swap es p q s v) (bytes_eq p e.0) (bytes_eq q e.0) refl refl there where
  go : (has_place es p ≡ true → bytes_eq p q ≡ false → put (put es q v) p s ≡ put (put es p s) q v) → (a b : Bool) → bytes_eq p e.0 ≡ a → bytes_eq q e.0 ≡ b
      → is_some (cond {A = Option ServerSet} a (Some e.1) (place es p)) ≡ true
      → put (cond b ((e.0, v) ∷ es) (e ∷ put es q v)) p s ≡ put (cond a ((e.0, s) ∷ es) (e ∷ put es p s)) q v
  go more true true f g t =
      let same : p ≡ q = (bytes_eq-Decides p e.0).0 f ∙ sym ((bytes_eq-Decides q e.0).0 g) in
      let is : bytes_eq p q ≡ true = (bytes_eq-Decides p q).1 same in
      cc
  go more true false f g t =
      cond-true (bytes_eq p e.0) ((e.0, s) ∷ put es q v) (e ∷ put (put es q v) p s) f ∙ sym (cond-false (bytes_eq q e.0) ((e.0, v) ∷ es) ((e.0, s) ∷ put es q v) g)
  go more false true f g t =
      cond-false (bytes_eq p e.0) ((e.0, s) ∷ es) ((e.0, v) ∷ put es p s) f ∙ sym (cond-true (bytes_eq q e.0) ((e.0, v) ∷ put es p s) (e ∷ put (put es p s) q v) g)
  go more false false f g t =
      cond-false (bytes_eq p e.0) ((e.0, s) ∷ put es q v) (e ∷ put (put es q v) p s) f ∙ ap (λ (xs : Sets). e ∷ xs) (more t apart)
      ∙ sym (cond-false (bytes_eq q e.0) ((e.0, v) ∷ put es p s) (e ∷ put (put es p s) q v) g)

-- what is put twice at a target
put-twice : (sets : Sets) (p : List ℕ) (s v : ServerSet) → put (put sets p v) p s ≡ put sets p s
put-twice [] p s v = ap (λ (b : Bool). cond b ((p, s) ∷ []) ((p, v) ∷ (p, s) ∷ [])) ((bytes_eq-Decides p p).1 refl)
put-twice (e ∷ es) p s v = go (bytes_eq p e.0) refl (put-twice es p s v) where
  go : (b : Bool) → bytes_eq p e.0 ≡ b → put (put es p v) p s ≡ put es p s → put (cond b ((e.0, v) ∷ es) (e ∷ put es p v)) p s ≡ cond b ((e.0, s) ∷ es) (e ∷ put es p s)
  go true f h = cond-true (bytes_eq p e.0) ((e.0, s) ∷ es) ((e.0, v) ∷ put es p s) f
  go false f h = cond-false (bytes_eq p e.0) ((e.0, s) ∷ put es p v) (e ∷ put (put es p v) p s) f ∙ ap (λ (xs : Sets). e ∷ xs) h

-- a place may be kept before or after a set in another place is put
touched-put : (sets : Sets) (p q : List ℕ) (s : ServerSet) → has_place sets p ≡ true → put (touched sets q) p s ≡ touched (put sets p s) q
touched-put sets p q s there = go (bytes_eq p q) refl where
  go : (b : Bool) → bytes_eq p q ≡ b → put (touched sets q) p s ≡ touched (put sets p s) q
  go true e =
      let same : q ≡ p = sym ((bytes_eq-Decides p q).0 e) in
      let found : set_of (put sets p s) p ≡ s = set_of-put sets p p s ∙ cond-true (bytes_eq p p) s (set_of sets p) ((bytes_eq-Decides p p).1 refl) in
      ap (λ (x : List ℕ). put (touched sets x) p s) same ∙ put-twice sets p s (set_of sets p)
      ∙ sym (ap (λ (x : List ℕ). touched (put sets p s) x) same ∙ ap (put (put sets p s) p) found ∙ put-twice sets p s s)
  go false e =
      let other : bytes_eq q p ≡ false = differs q p (λ x. both (bytes_eq p q) e ((bytes_eq-Decides p q).1 (sym x))) in
      let kept : set_of (put sets p s) q ≡ set_of sets q = set_of-put sets p q s ∙ cond-false (bytes_eq q p) s (set_of sets q) other in
      put-swap sets p q s (set_of sets q) there e ∙ ap (put (put sets p s) q) (sym kept) where
        both : (b : Bool) → b ≡ false → b ≡ true → ⊥
        both b f t = let h : false ≡ true = sym f ∙ t in cc

        differs : (x y : List ℕ) → (x ≡ y → ⊥) → bytes_eq x y ≡ false
        differs x y n = by (bytes_eq x y) refl where
          by : (b : Bool) → bytes_eq x y ≡ b → b ≡ false
          by true h = absurd (n ((bytes_eq-Decides x y).0 h))
          by false h = refl

-- ---- many targets

-- who had a place keeps it
pub kept-touched : (sets : Sets) (ps : List (List ℕ)) (t : List ℕ) → has_place sets t ≡ true → has_place (all_touched sets ps) t ≡ true
kept-touched sets [] t there = there
kept-touched sets (p ∷ ps) t there = kept-touched (touched sets p) ps t (place-touched sets p t ∙ or-right (bytes_eq t p) there) where
  or-right : (b : Bool) {c : Bool} → c ≡ true → (b || c) ≡ true
  or-right true h = refl
  or-right false h = h

pub kept-joined : (sets : Sets) (p : List ℕ) (o : Option ℕ) (now : Millis) (t : List ℕ) → has_place sets t ≡ true → has_place (joined sets p o now) t ≡ true
kept-joined sets p None now t there = there
kept-joined sets p (Some n) now t there = ap is_some (place-put sets p t new) ∙ go new (bytes_eq t p) where
  new : ServerSet
  new = record { members = with_member (set_of sets p).members n; modified = now }

  go : (s : ServerSet) (b : Bool) → is_some (cond b (Some s) (place sets t)) ≡ true
  go s true = refl
  go s false = there

-- each of the targets has a place
pub all-there : (sets : Sets) (ps : List (List ℕ)) → AllByRecursion (λ p. has_place (all_touched sets ps) p ≡ true) ps
all-there sets [] = tt
all-there sets (p ∷ ps) = (kept-touched (touched sets p) ps p (own sets p), all-there (touched sets p) ps) where
  own : (sets : Sets) (p : List ℕ) → has_place (touched sets p) p ≡ true
  own sets p = place-touched sets p p ∙ ap (λ (b : Bool). b || has_place sets p) ((bytes_eq-Decides p p).1 refl)

-- the set of a target is what it was
pub same-set : (sets : Sets) (ps : List (List ℕ)) (t : List ℕ) → set_of (all_touched sets ps) t ≡ set_of sets t
same-set sets [] t = refl
same-set sets (p ∷ ps) t = same-set (touched sets p) ps t ∙ set_of-touched sets p t

-- a node may join a set before or after other places are kept
joined-touched : (sets : Sets) (ps : List (List ℕ)) (p : List ℕ) (o : Option ℕ) (now : Millis) → has_place sets p ≡ true
    → joined (all_touched sets ps) p o now ≡ all_touched (joined sets p o now) ps
joined-touched sets ps p None now there = refl
joined-touched sets [] p (Some n) now there = refl
joined-touched sets (q ∷ qs) p (Some n) now there =
    joined-touched (touched sets q) qs p (Some n) now (kept-touched sets (q ∷ []) p there)
    ∙ ap (λ (x : Sets). all_touched x qs) (ap (λ (s : ServerSet). added-with (touched sets q) p s n now) (set_of-touched sets q p) ∙ touched-put sets p q _ there) where
      added-with : Sets → List ℕ → ServerSet → ℕ → Millis → Sets
      added-with xs t s m at = put xs t (record { members = with_member s.members m; modified = at })

-- ---- the paths of an Ask

module _ (cfg : Config) (ask : Ask) (now : Millis) where
  -- a path whose place is kept
  pub next-books : (t : Tally) (s : Sets) (p : List ℕ) (ps : List (List ℕ)) → has_place s p ≡ true
      → all_shared cfg ask now (p ∷ ps) (unlined t s)
      ≡ all_shared cfg ask now ps (unlined (shared t ask.c (later_choice_at cfg (unlined t s) ask p).node ask.size) (joined s p (later_choice_at cfg (unlined t s) ask p).add now))
  next-books t s p ps there =
      ap (λ (x : Sets). all_shared cfg ask now ps (unlined (shared t ask.c (later_choice_at cfg (unlined t s) ask p).node ask.size) (joined x p (later_choice_at cfg (unlined t s) ask p).add now))) (touched-there s p there)

  pub next-choices : (t : Tally) (s : Sets) (p : List ℕ) (ps : List (List ℕ)) → has_place s p ≡ true
      → all_choices cfg ask now (p ∷ ps) (unlined t s)
      ≡ later_choice_at cfg (unlined t s) ask p
      ∷ all_choices cfg ask now ps (unlined (shared t ask.c (later_choice_at cfg (unlined t s) ask p).node ask.size) (joined s p (later_choice_at cfg (unlined t s) ask p).add now))
  next-choices t s p ps there =
      ap (λ (x : Sets). later_choice_at cfg (unlined t s) ask p ∷ all_choices cfg ask now ps (unlined (shared t ask.c (later_choice_at cfg (unlined t s) ask p).node ask.size) (joined x p (later_choice_at cfg (unlined t s) ask p).add now))) (touched-there s p there)

  -- the choice is the same where places are kept
  same-choice : (t : Tally) (s : Sets) (ps : List (List ℕ)) (p : List ℕ) → later_choice_at cfg (unlined t (all_touched s ps)) ask p ≡ later_choice_at cfg (unlined t s) ask p
  same-choice t s ps p = ap (λ (x : ServerSet). later_choice t ask.home x.members ask.queue cfg) (same-set s ps p)

  -- what a step leaves where places are kept, and where the step keeps its own
  abbrev after : Tally → Sets → List ℕ → LaterChoice → Books
  after t s p choice = unlined (shared t ask.c choice.node ask.size) (joined s p choice.add now)

  one-step : (t : Tally) (s : Sets) (p : List ℕ) (ps : List (List ℕ))
      → after t (touched (all_touched (touched s p) ps) p) p (later_choice_at cfg (unlined t (all_touched (touched s p) ps)) ask p)
      ≡ unlined (shared t ask.c (later_choice_at cfg (unlined t s) ask p).node ask.size) (all_touched (joined (touched s p) p (later_choice_at cfg (unlined t s) ask p).add now) ps)
  one-step t s p ps =
      let own : has_place (touched s p) p ≡ true = place-touched s p p ∙ ap (λ (b : Bool). b || has_place s p) ((bytes_eq-Decides p p).1 refl) in
      let choice : LaterChoice = later_choice_at cfg (unlined t s) ask p in
      ap (λ (c : LaterChoice). after t (touched (all_touched (touched s p) ps) p) p c) (same-choice t s (p ∷ ps) p)
      ∙ ap (λ (x : Sets). after t x p choice) (touched-there (all_touched (touched s p) ps) p (kept-touched (touched s p) ps p own))
      ∙ ap (unlined (shared t ask.c choice.node ask.size)) (joined-touched (touched s p) ps p choice.add now own)

  pub places-first : (ps : List (List ℕ)) (t : Tally) (s : Sets) → all_shared cfg ask now ps (unlined t (all_touched s ps)) ≡ all_shared cfg ask now ps (unlined t s)
  places-first [] t s = refl
  places-first (p ∷ ps) t s = ap (all_shared cfg ask now ps) (one-step t s p ps) ∙ places-first ps _ _

  pub choices-first : (ps : List (List ℕ)) (t : Tally) (s : Sets) → all_choices cfg ask now ps (unlined t (all_touched s ps)) ≡ all_choices cfg ask now ps (unlined t s)
  choices-first [] t s = refl
  choices-first (p ∷ ps) t s =
      ap (λ (c : LaterChoice). c ∷ all_choices cfg ask now ps (after t (touched (all_touched (touched s p) ps) p) p (later_choice_at cfg (unlined t (all_touched (touched s p) ps)) ask p))) (same-choice t s (p ∷ ps) p)
      ∙ ap (λ (b : Books). later_choice_at cfg (unlined t s) ask p ∷ all_choices cfg ask now ps b) (one-step t s p ps)
      ∙ ap (λ (cs : List LaterChoice). later_choice_at cfg (unlined t s) ask p ∷ cs) (choices-first ps _ _)

  -- who waits makes no difference
  pub with-line : (ps : List (List ℕ)) (b : Books) → all_shared cfg ask now ps b ≡ record (all_shared cfg ask now ps (unlined b.loads b.sets)) { line = b.line }
  with-line [] b = refl
  with-line (p ∷ ps) b = with-line ps (shared_with cfg b ask p now)

  pub choices-with-line : (ps : List (List ℕ)) (b : Books) → all_choices cfg ask now ps b ≡ all_choices cfg ask now ps (unlined b.loads b.sets)
  choices-with-line [] b = refl
  choices-with-line (p ∷ ps) b = ap (λ (cs : List LaterChoice). later_choice_at cfg b ask p ∷ cs) (choices-with-line ps (shared_with cfg b ask p now))

-- ---- what the code leaves

pub served-places : (nodes : ℕ) (sets : Sets) (ps : List (List ℕ)) → AreServedByNodes nodes sets → AreServedByNodes nodes (all_touched sets ps)
served-places nodes sets ps all = λ target n h. all target n (subst (λ (s : ServerSet). has s.members n ≡ true) (same-set sets ps target) h)

-- one more place is kept
pub keep-next : (all all0 new : Sets) (ps : List (List ℕ)) (count i : ℕ) (p : List ℕ) → all_touched all (drop i ps) ≡ all_touched all0 ps → take count all ≡ all0 → count ≤ length all
    → i < length ps → p ≡ get_or ps i p → new ≡ touched all p → (all_touched new (drop (i + 1) ps) ≡ all_touched all0 ps) × (take count new ≡ all0) × (count ≤ length new)
keep-next all all0 new ps count i p rest front le lt at is =
    let row : drop i ps ≡ p ∷ drop (i + 1) ps =
    drop-cons ps i p lt ∙ ap (λ (q : List ℕ). q ∷ drop (suc i) ps) (sym at) ∙ ap (λ (k : ℕ). p ∷ drop k ps) (let e : suc i ≡ i + 1 = omega arith in e) in
    let f : (take count (touched all p) ≡ take count all) × (count ≤ length (touched all p)) = touched-front all count p le in (
      ap (λ (x : Sets). all_touched x (drop (i + 1) ps)) is ∙ ap (all_touched all) (sym row) ∙ rest,
      ap (take count) is ∙ f.0 ∙ front,
      subst (λ (x : Sets). count ≤ length x) (sym is) f.1,
    )

-- one is admitted where a place was kept
pub placed : (cfg : Config) (t : Tally) (all one : Sets) (line : List Waiting) (c : ℕ) (target : List ℕ) (now : Millis) (choice : FirstChoice) → one ≡ touched all target
    → choice ≡ choice_at cfg (unlined t one) target now → choice ≡ choice_at cfg (record { loads = t; sets = all; line = line }) target now
placed cfg t all one line c target now choice is made =
    made ∙ ap (λ (x : Sets). choice_at cfg (unlined t x) target now) is
    ∙ ap (λ (s : ServerSet). first_choice t s.members now s.modified cfg) (set_of-touched all target target)

pub placed-books : (cfg : Config) (t t2 : Tally) (all one two : Sets) (line : List Waiting) (c : ℕ) (target : List ℕ) (now : Millis) (choice : FirstChoice) → one ≡ touched all target
    → choice ≡ choice_at cfg (unlined t one) target now → t2 ≡ connected t c choice.node → two ≡ reduced (joined one target choice.add now) target choice.remove now
    → record { loads = t2; sets = two; line = line } ≡ admitted_with cfg (record { loads = t; sets = all; line = line }) c target now
placed-books cfg t t2 all one two line c target now choice is made counted changed =
    ap (λ (x : Tally). record { loads = x; sets = two; line = line }) counted
    ∙ ap (λ (x : Sets). record { loads = connected t c choice.node; sets = x; line = line }) (changed ∙ ap (λ (x : Sets). reduced (joined x target choice.add now) target choice.remove now) is)
    ∙ ap (placed_by (record { loads = t; sets = all; line = line }) c target now) (placed cfg t all one line c target now choice is made)

-- an Ask is answered where places were kept
pub later-books : (cfg : Config) (ask : Ask) (now : Millis) (b : Books) (t1 t2 : Tally) (one two : Sets) → t1 ≡ batch_ended b.loads ask.c → one ≡ all_touched b.sets ask.paths
    → unlined t2 two ≡ all_shared cfg ask now ask.paths (unlined t1 one) → record { loads = t2; sets = two; line = b.line } ≡ all_shared cfg ask now ask.paths (batch_over b ask)
later-books cfg ask now b t1 t2 one two over is made =
    ap (λ (x : Books). record x { line = b.line })
    (made ∙ ap (λ (t : Tally). all_shared cfg ask now ask.paths (unlined t one)) over ∙ ap (λ (x : Sets). all_shared cfg ask now ask.paths (unlined (batch_ended b.loads ask.c) x)) is
    ∙ places-first cfg ask now ask.paths (batch_ended b.loads ask.c) b.sets)
    ∙ sym (with-line cfg ask now ask.paths (batch_over b ask))

pub later-choices : (cfg : Config) (ask : Ask) (now : Millis) (b : Books) (t1 : Tally) (one : Sets) → t1 ≡ batch_ended b.loads ask.c → one ≡ all_touched b.sets ask.paths
    → all_choices cfg ask now ask.paths (unlined t1 one) ≡ all_choices cfg ask now ask.paths (batch_over b ask)
later-choices cfg ask now b t1 one over is =
    ap (λ (t : Tally). all_choices cfg ask now ask.paths (unlined t one)) over ∙ ap (λ (x : Sets). all_choices cfg ask now ask.paths (unlined (batch_ended b.loads ask.c) x)) is
    ∙ choices-first cfg ask now ask.paths (batch_ended b.loads ask.c) b.sets
    ∙ sym (choices-with-line cfg ask now ask.paths (batch_over b ask))
