-- What was read or came for a response is of its request's path.
use Rattle.std.proofs.Common.{◌≡◌, ◌<◌, ◌+◌, ◌^◌, ℕ, Bool, true, false, cond, List, [], ◌∷◌, ◌++◌, Some, Ok, refl, sym, ap, ◌∙◌, subst, arith, inl, inr, ⊎_elim, append_assoc}
use Rattle.std.specs.Prelude.{◌⊎◌, slice_get}
use Rattle.std.specs.List.{AllByRecursion}
use Rattle.lard_law_view.specs.Prelude.{Came, Client, EachMay, EachStep, Event, FilesAt, Front, Has, IsConnNumber, Letter, Message, Node, Place, Rec, Seen, Via, content_bytes, decoded_message, good_path, is_opening, is_touched, letter_of, named_in, net_of, own, seen_on, served, split, steps, verdicts, whose, wrote}
use Rattle.lard_base.specs.declared.event.Event.TheVariants as event
use Rattle.lard_base.specs.declared.place.Via.TheVariants as via
use Rattle.lard_laws.specs.BackingRequests.{HasComeFor, IsBehindTold, IsFor, IsQueuedAndRead, MayBeBacked, StandsFor, WasFor}
use Rattle.lard_laws.specs.BackingState.{MayBack, SaysFor}
use Rattle.lard_laws.proofs.BackingFinding.{IsSentIn, Stands, came-sent, each-from, has-stands, job-queued, packet-sent}
use Rattle.lard_laws.proofs.BackingHeld.{Comes, HasCome, IsDone, IsHit, Started, WasDone}
use Rattle.lard_laws.proofs.BackingHitting.{MayHit}
use Rattle.lard_laws.proofs.BackingMarks.{MayMark, each-at, for-later, untouched-before}
use Rattle.lard_laws.proofs.BackingMatching.{matched}
use Rattle.lard_laws.proofs.BackingSpelled.{content-reads}
use Rattle.lard_law_connections.specs.BytesRecords.{MayServeOwned}
use Rattle.lard_law_connections.specs.StoresLaws.{CompletesJob, MayStore, MustRead, NoneRead, is_read}
use Rattle.lard_law_view.proofs.Naming.{decoded-names, spelled-named}
use Rattle.lard_laws.specs.WaysContents.{AnswersFetch, BringsFile, IsContentMessage, MayBring, MustBring}
use Rattle.lard_laws.specs.Ways.{AnswersNextAt, MayComeThisWay, way_marks}
use Rattle.lard_history.proofs.Each.{Each}
use Rattle.lard_history.proofs.Seeing.{has-before, has-behind, own-append}
use Rattle.lard_journal.specs.declared.rec.Rec.TheVariants as rec
use Rattle.lard_message.specs.declared.message.Body.TheVariants as body
use Rattle.lard_rules.specs.Node.{message}

-- ---- a request is for one path

some-same : {A : Type 0} (a b : A) → Some a ≡ Some b → a ≡ b
some-same a b e = cc

for-one : (files : FilesAt) (q : List ℕ) (r : ℕ) (p s : List ℕ) → IsFor files q r p → IsFor files q r s → p ≡ s
for-one files q r p s a b =
    let at : a.before ≡ b.before = let x = a.number in let y = b.number in omega (arith, x, y) in
    let same : a.verdict ≡ b.verdict = some-same a.verdict b.verdict (sym a.is ∙ ap (λ (i : ℕ). slice_get (verdicts q) i) at ∙ b.is) in
    some-same p s (sym a.good ∙ ap (good_path files) same ∙ b.good)

-- ---- the step of a record

-- a step begins with its opening
abbrev Opens : List Rec → Type 0
Opens [] = ⊥
Opens (r ∷ rs) = is_opening r ≡ true

all-open : (J : List Rec) → Each Opens (split J).1
all-open [] = tt
all-open (r ∷ J) = go (is_opening r) refl (all-open J) where
  go : (b : Bool) → is_opening r ≡ b → Each Opens (split J).1 → Each Opens (cond {A = List Rec × List (List Rec)} b ([], (r ∷ (split J).0) ∷ (split J).1) (r ∷ (split J).0, (split J).1)).1
  go true e h = (e, h)
  go false e h = h

abbrev joined : List (List Rec) → List Rec
joined [] = []
joined (s ∷ ss) = s ++ joined ss

joined-split : (J : List Rec) → (split J).0 ++ joined (split J).1 ≡ J
joined-split [] = refl
joined-split (r ∷ J) = go (is_opening r) (joined-split J) where
  go : (b : Bool) → (split J).0 ++ joined (split J).1 ≡ J → (cond {A = List Rec × List (List Rec)} b ([], (r ∷ (split J).0) ∷ (split J).1) (r ∷ (split J).0, (split J).1)).0
      ++ joined (cond {A = List Rec × List (List Rec)} b ([], (r ∷ (split J).0) ∷ (split J).1) (r ∷ (split J).0, (split J).1)).1 ≡ r ∷ J
  go true e = ap (λ l. r ∷ l) e
  go false e = ap (λ l. r ∷ l) e

-- where two lists joined are cut at a record, it is in the first or in the second
cut : (xs ys a b : List Rec) (r : Rec) → xs ++ ys ≡ a ++ r ∷ b → Has r xs ⊎ ((c : List Rec) × (a ≡ xs ++ c) × (ys ≡ c ++ r ∷ b))
cut [] ys a b r e = inr (a, refl, e)
cut (x ∷ xs) ys [] b r e = inl (inl (let same : x ∷ (xs ++ ys) ≡ r ∷ b = e in cc))
cut (x ∷ xs) ys (y ∷ a) b r e =
    let same : x ∷ (xs ++ ys) ≡ y ∷ (a ++ r ∷ b) = e in
    let first : x ≡ y = cc in
    let later : xs ++ ys ≡ a ++ r ∷ b = cc in
    ⊎_elim (λ (h : Has r xs). inl (inr h)) (λ (h : (c : List Rec) × (a ≡ xs ++ c) × (ys ≡ c ++ r ∷ b)). inr (h.0, (λ i. sym first i ∷ h.1 i), h.2)) (cut xs ys a b r later)

-- in which step a record stands, and what that must hold
record InStep (must : List Rec → List Rec → Type 0) (a : List Rec) (r : Rec) : Type 0 where
  past : List Rec
  step : List Rec
  inside : List Rec
  holds : must past step
  opens : Opens step
  has : Has r step
  before : a ≡ past ++ inside

in-steps : (must : List Rec → List Rec → Type 0) (past : List Rec) (ss : List (List Rec)) (a b : List Rec) (r : Rec) → joined ss ≡ a ++ r ∷ b → EachStep must past ss → Each Opens ss → InStep must (past ++ a) r
in-steps must past [] a b r e h o = absurd (none a e) where
  none : (a : List Rec) → [] ≡ a ++ r ∷ b → ⊥
  none [] e = cc
  none (x ∷ a) e = cc
in-steps must past (s ∷ ss) a b r e h o = go (cut s (joined ss) a b r e) (λ c f. in-steps must (past ++ s) ss c b r f h.1 o.1) where
  go : Has r s ⊎ ((c : List Rec) × (a ≡ s ++ c) × (joined ss ≡ c ++ r ∷ b)) → ((c : List Rec) → joined ss ≡ c ++ r ∷ b → InStep must ((past ++ s) ++ c) r) → InStep must (past ++ a) r
  go (inl k) later = record { past = past; step = s; inside = a; holds = h.0; opens = o.0; has = k; before = refl }
  go (inr k) later = subst (λ (l : List Rec). InStep must l r) (append_assoc past s k.0 ∙ ap (λ (l : List Rec). past ++ l) (sym k.1)) (later k.0 k.2)

both-steps : (P Q : List Rec → List Rec → Type 0) (past : List Rec) (ss : List (List Rec)) → EachStep P past ss → EachStep Q past ss → EachStep (λ past s. P past s × Q past s) past ss
both-steps P Q past [] h k = tt
both-steps P Q past (s ∷ ss) h k = ((h.0, k.0), both-steps P Q (past ++ s) ss h.1 k.1)

-- ---- what is read in a step was queued before it

read-not : (n m c r : ℕ) (path : List ℕ) (rs : List Rec) → NoneRead rs → Has (rec.Read n m c r path) rs → ⊥
read-not n m c r path [] none h = h
read-not n m c r path (x ∷ rs) none h = ⊎_elim
    (λ (e : x ≡ rec.Read n m c r path). let no : true ≡ false = sym (ap is_read e) ∙ none.0 in let f : ⊥ = cc in f)
    (λ (k : Has (rec.Read n m c r path) rs). read-not n m c r path rs none.1 k) h

module _ (past : List Rec) (n m c r : ℕ) (path : List ℕ) where
  abbrev read : Rec
  read = rec.Read n m c r path

  abbrev queued : Rec
  queued = rec.Queued n m c r path

  completed-queued : (e : Event) (rs : List Rec) → CompletesJob past e rs → Has read rs → Has queued past
  completed-queued (event.Disk k j) rs h has =
      ⊎_elim
      (λ (e : rec.Read k h.0.0 h.0.1 h.0.2 h.0.3 ≡ read).
      subst (λ (x : Rec). Has (queued_of x) past) e (job-queued past k j h.0 h.2))
      (λ (f : Has read h.1). absurd (read-not n m c r path h.1 h.4 f))
      (subst (Has read) h.3 has) where
        queued_of : Rec → Rec
        queued_of (rec.Read k a b d p) = rec.Queued k a b d p
        queued_of x = x
  completed-queued _ rs h has = absurd (read-not n m c r path rs h has)

  read-queued : (s : List Rec) → Opens s → MustRead past s → Has read s → Has queued past
  read-queued [] o h has = absurd o
  read-queued (rec.Event i e ∷ rs) o h has = ⊎_elim (λ (f : rec.Event i e ≡ read). absurd (let g : ⊥ = cc in g)) (λ (k : Has read rs). completed-queued e rs h k) has
  read-queued (rec.Inner e ∷ rs) o h has = ⊎_elim (λ (f : rec.Inner e ≡ read). absurd (let g : ⊥ = cc in g)) (λ (k : Has read rs). completed-queued e rs h k) has
  read-queued (_ ∷ rs) o h has = absurd (let no : false ≡ true = o in let g : ⊥ = cc in g)

-- ---- a lawful journal

-- What is known of it.
pub record Known (files : FilesAt) (limit : ℕ) (J : List Rec) : Type 0 where
  pub marks : EachMay (MayMark files) [] J
  pub stores : EachMay (MayStore files limit) [] J
  pub hits : EachMay (MayHit files) [] J
  pub ways : EachMay (MayComeThisWay files) [] J
  pub service : EachMay (MayServeOwned files) [] J
  pub whole : (split J).0 ≡ []
  pub brings : EachStep (MustBring files) [] (steps J)
  pub reads : EachStep MustRead [] (steps J)
  pub numbers : (n m c r : ℕ) (path : List ℕ) → Has (rec.Queued n m c r path) J → IsConnNumber c

module _ (files : FilesAt) (limit : ℕ) (J : List Rec) (known : Known files limit J) where
  -- what is marked of a record that stands before
  marked-at : (a b rest : List Rec) (x : Rec) (c : ℕ) → J ≡ (a ++ x ∷ b) ++ rest → whose x ≡ Some c → is_touched (a ++ x ∷ b) c ≡ false → MayBack files (way_marks a c) x
  marked-at a b rest x c is own u = each-at (MayMark files) J a (b ++ rest) x (is ∙ append_assoc a (x ∷ b) rest) known.marks c own (untouched-before a (x ∷ b) c u)

  -- ---- a job

  -- one that was queued before is for its path
  queued-for : (a rest : List Rec) (n m c r : ℕ) (path : List ℕ) → J ≡ a ++ rest → is_touched a c ≡ false → Has (rec.Queued n m c r path) a → IsFor files (wrote a c) r path × (r < 2 ^ 32)
  queued-for a rest n m c r path is u h =
      let s : Stands (rec.Queued n m c r path) a = has-stands (rec.Queued n m c r path) a h in
      let may : MayBack files (way_marks s.before c) (rec.Queued n m c r path) = marked-at s.before s.behind rest (rec.Queued n m c r path) c (is ∙ ap (λ (l : List Rec). l ++ rest) s.split) refl (subst (λ (l : List Rec). is_touched l c ≡ false) s.split u) in
      (subst (λ (l : List Rec). IsFor files (wrote l c) r path) (sym s.split) (for-later files s.before (rec.Queued n m c r path ∷ s.behind) c r path may.0), may.1)

  read-for : (a rest : List Rec) (n m c r : ℕ) (path : List ℕ) → J ≡ a ++ rest → is_touched a c ≡ false → Has (rec.Read n m c r path) a → IsFor files (wrote a c) r path
  read-for a rest n m c r path is u h =
      let x : Rec = rec.Read n m c r path in
      let s : Stands x a = has-stands x a h in
      let may : MayStore files limit s.before x = each-at (MayStore files limit) J s.before (s.behind ++ rest) x (is ∙ ap (λ (l : List Rec). l ++ rest) s.split ∙ append_assoc s.before (x ∷ s.behind) rest) known.stores in
      let earlier = queued-for s.before (x ∷ (s.behind ++ rest)) n m c r path (is ∙ ap (λ (l : List Rec). l ++ rest) s.split ∙ append_assoc s.before (x ∷ s.behind) rest)
      (untouched-before s.before (x ∷ s.behind) c (subst (λ (l : List Rec). is_touched l c ≡ false) s.split u)) (job-queued s.before n may.0 (m, c, r, path) may.2) in
      subst (λ (l : List Rec). IsFor files (wrote l c) r path) (sym s.split) (for-later files s.before (x ∷ s.behind) c r path earlier.0)

  -- ---- a content that is sent

  record Carries (a : List Rec) (bytes : List ℕ) : Type 0 where
    c : ℕ
    epoch : ℕ
    r : ℕ
    path : List ℕ
    is : bytes ≡ message c epoch (body.Content r (content_bytes (files path)))
    number : IsConnNumber c
    for : is_touched a c ≡ false → IsFor files (wrote a c) r path × (r < 2 ^ 32)

  -- what holds at the end of the past holds inside the step
  inside-for : (past inside a : List Rec) (c r : ℕ) (path : List ℕ) → a ≡ past ++ inside → (is_touched past c ≡ false → IsFor files (wrote past c) r path × (r < 2 ^ 32)) → is_touched a c ≡ false → IsFor files (wrote a c) r path × (r < 2 ^ 32)
  inside-for past inside a c r path is h u =
      let k = h (untouched-before past inside c (subst (λ (l : List Rec). is_touched l c ≡ false) is u)) in
      (subst (λ (l : List Rec). IsFor files (wrote l c) r path) (sym is) (for-later files past inside c r path k.0), k.1)

  fetched-for : (past rest step : List Rec) (n m c epoch r : ℕ) (path : List ℕ) → J ≡ past ++ rest → AnswersFetch past step n m c epoch r path → is_touched past c ≡ false → IsFor files (wrote past c) r path × (r < 2 ^ 32)
  fetched-for past rest step n m c epoch r path is f u =
      let sent : IsSentIn (letter_of f.packet) past = packet-sent past f.k f.packet f.sent in
      let x : Rec = rec.Sent sent.0 f.packet.from f.packet.to f.packet.bytes in
      let s : Stands x past = has-stands x past sent.1 in
      let named : whose x ≡ Some c = (λ i. whose (rec.Sent sent.0 (f.from i) (f.to i) f.packet.bytes)) ∙ (decoded-names (record { c = c; epoch = record { 0 = epoch }; body = body.Fetch r path }) f.packet.bytes f.asks).named in
      let may : MayBack files (way_marks s.before c) x = marked-at s.before s.behind rest x c (is ∙ ap (λ (l : List Rec). l ++ rest) s.split) named (subst (λ (l : List Rec). is_touched l c ≡ false) s.split u) in
      let says : SaysFor files (wrote s.before c) (Node m) (Node n) f.packet.bytes = subst (λ (p : Place). SaysFor files (wrote s.before c) (Node m) p f.packet.bytes) f.to (subst (λ (p : Place). SaysFor files (wrote s.before c) p f.packet.to f.packet.bytes) f.from may) in
      let for = says (record { c = c; epoch = record { 0 = epoch }; body = body.Fetch r path }) f.asks in
      (subst (λ (l : List Rec). IsFor files (wrote l c) r path) (sym s.split) (for-later files s.before (x ∷ s.behind) c r path for.0), for.1)

  all-at : (P : Rec → Type 0) (rs : List Rec) (x : Rec) → AllByRecursion P rs → Has x rs → P x
  all-at P [] x h k = absurd k
  all-at P (y ∷ rs) x h k = ⊎_elim (λ (e : y ≡ x). subst P e h.0) (λ (f : Has x rs). all-at P rs x h.1 f) k

  abbrev Both : List Rec → List Rec → Type 0
  Both past s = MustBring files past s × MustRead past s

  rest-of : (a b past inside : List Rec) (x : Rec) → J ≡ a ++ x ∷ b → a ≡ past ++ inside → J ≡ past ++ (inside ++ x ∷ b)
  rest-of a b past inside x is before = is ∙ ap (λ (l : List Rec). l ++ x ∷ b) before ∙ append_assoc past inside (x ∷ b)

  carries : (a b : List Rec) (i n m : ℕ) (bytes : List ℕ) → J ≡ a ++ rec.Sent i (Node n) (Node m) bytes ∷ b → IsContentMessage bytes → Carries a bytes
  carries a b i n m bytes is content =
      let x : Rec = rec.Sent i (Node n) (Node m) bytes in
      let all : joined (steps J) ≡ a ++ x ∷ b = sym (ap (λ (l : List Rec). l ++ joined (steps J)) known.whole) ∙ joined-split J ∙ is in
      let at : InStep Both a x = in-steps Both [] (steps J) a b x all (both-steps (MustBring files) MustRead [] (steps J) known.brings known.reads) (all-open J) in
      let brings : BringsFile files at.past at.step n m bytes = all-at (MayBring files at.past at.step) at.step x at.holds.0 at.has content in
      let whole : J ≡ at.past ++ (at.inside ++ x ∷ b) = rest-of a b at.past at.inside x is at.before in
      by-route at brings whole brings.by where
        by-route : (at : InStep Both a (rec.Sent i (Node n) (Node m) bytes)) (k : BringsFile files at.past at.step n m bytes) → J ≡ at.past ++ (at.inside ++ rec.Sent i (Node n) (Node m) bytes ∷ b)
            → AnswersFetch at.past at.step n m k.c k.epoch k.r k.path ⊎ Has (rec.Read n m k.c k.r k.path) at.step → Carries a bytes
        by-route at k whole (inl f) = record {
          c = k.c;
          epoch = k.epoch;
          r = k.r;
          path = k.path;
          is = k.is;
          number = (decoded-names (record { c = k.c; epoch = record { 0 = k.epoch }; body = body.Fetch k.r k.path }) f.packet.bytes f.asks).number;
          for = inside-for at.past at.inside a k.c k.r k.path at.before (fetched-for at.past (at.inside ++ rec.Sent i (Node n) (Node m) bytes ∷ b) at.step n m k.c k.epoch k.r k.path whole f);
        }
        by-route at k whole (inr h) =
            let queued : Has (rec.Queued n m k.c k.r k.path) at.past = read-queued at.past n m k.c k.r k.path at.step at.opens at.holds.1 h in
            record {
              c = k.c;
              epoch = k.epoch;
              r = k.r;
              path = k.path;
              is = k.is;
              number = known.numbers n m k.c k.r k.path (subst (Has (rec.Queued n m k.c k.r k.path)) (sym whole) (has-before (rec.Queued n m k.c k.r k.path) at.past (at.inside ++ rec.Sent i (Node n) (Node m) bytes ∷ b) queued));
              for = inside-for at.past at.inside a k.c k.r k.path at.before (λ u. queued-for at.past (at.inside ++ rec.Sent i (Node n) (Node m) bytes ∷ b) n m k.c k.r k.path whole u queued);
            }

  -- ---- a response

  module _ (past b : List Rec) (n c r : ℕ) (path : List ℕ) (way : Via) (untouched : is_touched past c ≡ false) (for : IsFor files (wrote past c) r path) (number : r ≡ served past c + 1) (next : AnswersNextAt files (way_marks past c) (Node n) way) where
    -- what started is meant for this path
    mine : (other : List ℕ) → IsFor files (wrote past c) r other → other ≡ path
    mine other its = for-one files (wrote past c) r other path its for

    -- of a content that came for the request
    content-for : (m epoch : ℕ) (file bytes : List ℕ) → J ≡ past ++ b → Has (Came (record { from = Node m; to = Node n; bytes = bytes })) (own c past) → decoded_message bytes ≡ Ok (record { c = c; epoch = record { 0 = epoch }; body = body.Content r file }) → file ≡ content_bytes (files path)
    content-for m epoch file bytes is came reads =
        let l : Letter = record { from = Node m; to = Node n; bytes = bytes } in
        let sent : IsSentIn l past = came-sent l c past came in
        let x : Rec = rec.Sent sent.0 (Node m) (Node n) bytes in
        let s : Stands x past = has-stands x past sent.1 in
        let got : Message = record { c = c; epoch = record { 0 = epoch }; body = body.Content r file } in
        let k : Carries s.before bytes = carries s.before (s.behind ++ b) sent.0 m n bytes (is ∙ ap (λ (l : List Rec). l ++ b) s.split ∙ append_assoc s.before (x ∷ s.behind) b) (got, reads, refl) in
        let said : Message = record { c = k.c; epoch = record { 0 = k.epoch }; body = body.Content k.r (content_bytes (files k.path)) } in
        let mine_is : k.c ≡ c = some-same k.c c (sym (spelled-named said k.number) ∙ ap named_in (sym k.is) ∙ (decoded-names got bytes reads).named) in
        let before : is_touched s.before k.c ≡ false = subst (λ (q : ℕ). is_touched s.before q ≡ false) (sym mine_is) (untouched-before s.before (x ∷ s.behind) c (subst (λ (l : List Rec). is_touched l c ≡ false) s.split untouched)) in
        let its = k.for before in
        let read : body.Content r file ≡ body.Content k.r (content_bytes (files k.path)) = content-reads k.c k.epoch k.r (content_bytes (files k.path)) its.1 got (ap decoded_message (sym k.is) ∙ reads) in
        let number : r ≡ k.r = cc in
        let carried : file ≡ content_bytes (files k.path) = cc in
        let there : IsFor files (wrote past c) k.r k.path = subst (λ (l : List Rec). IsFor files (wrote l c) k.r k.path) (sym s.split) (for-later files s.before (x ∷ s.behind) c k.r k.path (subst (λ (q : ℕ). IsFor files (wrote s.before q) k.r k.path) mine_is its.0)) in
        let same : path ≡ k.path = for-one files (wrote past c) r path k.path for (subst (λ (q : ℕ). IsFor files (wrote past c) q k.path) (sym number) there) in
        carried ∙ ap (λ (p : List ℕ). content_bytes (files p)) (sym same)

    -- what started, and stands so, is backed
    backs : (epoch : ℕ) (P : List ℕ → List Rec → List Rec → Type 0) → ((before later : List Rec) → past ≡ before ++ later → P path before later → StandsFor files before later n c epoch r path way) → Started files n c epoch P past r → IsBehindTold files past n c r path way
    backs epoch P stands h = let meant = h.for untouched in record {
      epoch = epoch;
      ask = h.ask;
      before = h.before;
      later = h.later;
      split = h.split;
      assigned = matched files past c n r path way number for next h.before h.later h.ask h.split meant.1;
      told = h.told;
      stands = stands h.before h.later h.split (subst (λ (p : List ℕ). P p h.before h.later) (mine h.path meant.0) h.stands);
    }

    disk-for : J ≡ past ++ b → (before later : List Rec) → past ≡ before ++ later → WasDone n c r path later → IsQueuedAndRead later n c r path
    disk-for is before later split w =
        let read : Rec = rec.Read n n c r w.other in
        let stood : Has read past = subst (Has read) (sym split) (has-behind read before later (subst (Has read) (sym w.split) (has-behind read w.before w.later w.read))) in
        record {
          before = w.before;
          later = w.later;
          split = w.split;
          queued = w.queued;
          read = subst (λ (p : List ℕ). Has (rec.Read n n c r p) w.later) (mine w.other (read-for past b n n c r w.other is untouched stood)) w.read;
        }

    node-for : (m epoch : ℕ) → J ≡ past ++ b → (before later : List Rec) → past ≡ before ++ later → HasCome n m c epoch r (seen_on c (net_of before) later) → HasComeFor files (seen_on c (net_of before) later) n m c epoch r path
    node-for m epoch is before later split w =
        let l : Seen = Came (record { from = Node m; to = Node n; bytes = w.bytes }) in
        let seen : Has l (own c past) = subst (λ (k : List Rec). Has l (own c k)) (sym split) (subst (Has l) (sym (own-append c before later)) (has-behind l (own c before) (seen_on c (net_of before) later) w.came)) in
        let file : w.file ≡ content_bytes (files path) = content-for m epoch w.file w.bytes is seen w.reads in
        record { bytes = w.bytes; came = w.came; reads = w.reads ∙ (λ i. Ok (record { c = c; epoch = record { 0 = epoch }; body = body.Content r (file i) })) }

  way-for : (past b : List Rec) (n c r code size : ℕ) (path : List ℕ) (way : Via) → is_touched past c ≡ false → IsFor files (wrote past c) r path → r ≡ served past c + 1 → AnswersNextAt files (way_marks past c) (Node n) way → J ≡ past ++ b → MayHit files past (rec.Served (Node n) c r code size way) → WasFor files past n c r path way
  way-for past b n c r code size path via.Own u for number next is h = tt
  way-for past b n c r code size path via.Cache u for number next is h = backs past b n c r path via.Cache u for number next h.0 (IsHit files n c h.0) (λ before later split s. s) h.1
  way-for past b n c r code size path via.Disk u for number next is h = backs past b n c r path via.Disk u for number next h.0 (IsDone files n c h.0 r) (λ before later split s. disk-for past b n c r path via.Disk u for number next is before later split s) h.1
  way-for past b n c r code size path (via.Node m) u for number next is h = backs past b n c r path (via.Node m) u for number next h.0 (Comes files n c h.0 m r) (λ before later split s. node-for past b n c r path (via.Node m) u for number next m h.0 is before later split s) h.1

  backed-at : (a b : List Rec) (x : Rec) → J ≡ a ++ x ∷ b → MayBeBacked files a x
  backed-at a b (rec.Served (Node n) c r code size way) is = λ u path for.
      let x : Rec = rec.Served (Node n) c r code size way in
      way-for a (x ∷ b) n c r code size path way u for (each-at (MayServeOwned files) J a b x is known.service u).1.0 (each-at (MayComeThisWay files) J a b x is known.ways u) is (each-at (MayHit files) J a b x is known.hits)
  backed-at a b (rec.Served Front c r code size way) is = λ u path for. tt
  backed-at a b (rec.Served (Client e) c r code size way) is = λ u path for. tt
  backed-at a b _ is = tt

  pub all-backed : EachMay (MayBeBacked files) [] J
  all-backed = each-from (MayBeBacked files) J backed-at
