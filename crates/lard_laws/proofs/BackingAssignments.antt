-- In which record of a journal each request of a connection was assigned, and for which Ask.
use Rattle.std.proofs.Common.{◌≡◌, ◌≤◌, ◌<◌, ◌+◌, ◌-◌, ℕ, zero, suc, Bool, true, false, cond, nat_eq, nat_lt, List, [], ◌∷◌, ◌++◌, length, take, Option, Some, None, refl, sym, ap, ◌∙◌, subst, arith, append_assoc, append-nil, inl, inr, ⊎_elim}
use Rattle.std.specs.Prelude.{◌⊎◌}
use Rattle.std.specs.List.{fold, slice_get}
use Rattle.std.proofs.lemmas.Bool.{eqb-true, ltb-false, ltb-true}
use Rattle.std.proofs.lemmas.List.{length-take-le, length_push}
use Rattle.std.proofs.lemmas.List.Sums.{fold-append}
use Rattle.lard_laws.specs.Asks.{Answered, Asking, AskTale, ask_on, ask_tale, asks_step, came_done, is_next, row_done, unasked}
use Rattle.lard_law_view.specs.Prelude.{Came, Client, FilesAt, Front, Letter, Node, Packet, Place, Rec, Row, Seen, assigned, assignments, assignments_step, assignments_taken, came_seen, conn_of, letter_of, net_of, one_of, own, packet_at, plain, seen_of, whose}
use Rattle.lard_laws.specs.BackingTold.{AssignsFor, files_before}
use Rattle.lard_laws.proofs.BackingLasting.{all-last, lasting, taken-last}
use Rattle.lard_laws.specs.WaysUnder.{Assigned}
use Rattle.lard_laws.proofs.WaysGoods.{get-behind, get-front}
use Rattle.lard_history.proofs.Seeing.{own-append}
use Rattle.lard_history.specs.Journal.{Assignments, without_last}
use Rattle.lard_journal.specs.declared.rec.Rec.TheVariants as rec

-- what was answered of Asks
abbrev pub done : ℕ → List Rec → Answered
done c J = (ask_tale c (own c J)).done

-- the record makes this first assignment
abbrev pub IsFirst : ℕ → Assigned → Rec → Type 0
IsFirst c a (rec.AssignedFirst d r path n add remove) = (d ≡ c) × (path ≡ a.0) × (n ≡ a.1)
IsFirst c a _ = ⊥

-- or this later one
abbrev pub IsLater : ℕ → Assigned → Rec → Type 0
IsLater c a (rec.AssignedLater d r path n add size queue) = (d ≡ c) × (path ≡ a.0) × (n ≡ a.1)
IsLater c a _ = ⊥

-- ---- one record more

-- It is the first assignment.
record AddsFirst (c : ℕ) (J : List Rec) (r : Rec) : Type 0 where
  made : Assigned
  is : IsFirst c made r
  state : assignments (J ++ r ∷ []) c ≡ record { list = assigned J c ++ made ∷ []; fresh = true }
  nodes : (done c (J ++ r ∷ [])).nodes ≡ []

-- It is a later one.
record AddsLater (c : ℕ) (J : List Rec) (r : Rec) : Type 0 where
  made : Assigned
  is : IsLater c made r
  state : assignments (J ++ r ∷ []) c ≡ record { list = assigned J c ++ made ∷ []; fresh = false }
  nodes : length (done c (J ++ r ∷ [])).nodes ≡ length (done c J).nodes + 1
  last : (done c (J ++ r ∷ [])).last ≡ (done c J).last

-- A place takes the connection.
record Takes (c : ℕ) (J : List Rec) (r : Rec) : Type 0 where
  place : Place
  state : assignments (J ++ r ∷ []) c ≡ assignments_taken place (assignments J c)
  same : done c (J ++ r ∷ []) ≡ done c J

-- the nodes of the last Ask are none, or all is as it was
abbrev IsAnew : Answered → Answered → Type 0
IsAnew new old = (new.nodes ≡ []) ⊎ (new ≡ old)

-- Nothing changes but what an Ask changes.
record Leaves (c : ℕ) (J : List Rec) (r : Rec) : Type 0 where
  state : assignments (J ++ r ∷ []) c ≡ assignments J c
  anew : IsAnew (done c (J ++ r ∷ [])) (done c J)

abbrev Grows : ℕ → List Rec → Rec → Type 0
Grows c J r = AddsFirst c J r ⊎ (AddsLater c J r ⊎ (Takes c J r ⊎ Leaves c J r))

module _ (c : ℕ) (J : List Rec) where
  abbrev t : AskTale
  t = ask_tale c (own c J)

  assigned-more : (r : Rec) → assignments (J ++ r ∷ []) c ≡ assignments_step c (assignments J c) r
  assigned-more r = fold-append (assignments_step c) (record { list = []; fresh = false }) J (r ∷ [])

  asks-more : (r : Rec) → ask_tale c (own c (J ++ r ∷ [])) ≡ fold (asks_step c) t (seen_of c (net_of J) r)
  asks-more r =
      ap (ask_tale c) (own-append c J (r ∷ []) ∙ ap (λ (l : List Seen). own c J ++ l) (append-nil (seen_of c (net_of J) r)))
      ∙ fold-append (asks_step c) unasked (own c J) (seen_of c (net_of J) r)

  -- a record that tells nothing of assignments
  row-still : (x : Rec) → row_done t.done x ≡ t.done → (o : Option ℕ) → (fold (asks_step c) t (one_of c o (Row x))).done ≡ t.done
  row-still x same None = refl
  row-still x same (Some d) = go (nat_eq d c) where
    go : (b : Bool) → (fold (asks_step c) t (cond b (Row x ∷ []) [])).done ≡ t.done
    go true = same
    go false = refl

  -- a packet that comes
  came-anew : (l : Letter) (o : Option ℕ) → IsAnew (fold (asks_step c) t (one_of c o (Came l))).done t.done
  came-anew l None = inr refl
  came-anew l (Some d) = go (nat_eq d c) where
    by-next : (a : Asking) (b : Bool) → IsAnew (cond b (record t.done { last = a.number; nodes = [] }) t.done) t.done
    by-next a true = inl refl
    by-next a false = inr refl

    by-ask : (o : Option Asking) → IsAnew (came_done t o) t.done
    by-ask None = inr refl
    by-ask (Some a) = by-next a (is_next t a)

    go : (b : Bool) → IsAnew (fold (asks_step c) t (cond b (Came l ∷ []) [])).done t.done
    go true = by-ask (ask_on l.from l.to l.bytes)
    go false = inr refl

  -- a record of another connection
  leaves-row : (x : Rec) → (fold (asks_step c) t (seen_of c (net_of J) x)).done ≡ t.done → assignments_step c (assignments J c) x ≡ assignments J c → Leaves c J x
  leaves-row x same state = record { state = assigned-more x ∙ state; anew = inr (ap (λ (u : AskTale). u.done) (asks-more x) ∙ same) }

  grows : (r : Rec) → Grows c J r
  grows (rec.AssignedFirst d i path n add remove) = go (nat_eq d c) refl where
    x : Rec
    x = rec.AssignedFirst d i path n add remove

    next : Assignments
    next = record { list = assigned J c ++ (path, n) ∷ []; fresh = true }

    go : (b : Bool) → nat_eq d c ≡ b → Grows c J x
    go true e = inl (record {
      made = (path, n);
      is = (eqb-true d c e, refl, refl);
      state = assigned-more x ∙ ap (λ (b : Bool). cond b next (assignments J c)) e;
      nodes = ap (λ (u : AskTale). u.done.nodes) (asks-more x ∙ ap (λ (b : Bool). fold (asks_step c) t (cond b (Row x ∷ []) [])) e);
    })
    go false e = inr (inr (inr (leaves-row x (ap (λ (b : Bool). (fold (asks_step c) t (cond b (Row x ∷ []) [])).done) e) (ap (λ (b : Bool). cond b next (assignments J c)) e))))
  grows (rec.AssignedLater d i path n add size queue) = go (nat_eq d c) refl where
    x : Rec
    x = rec.AssignedLater d i path n add size queue

    next : Assignments
    next = record { list = assigned J c ++ (path, n) ∷ []; fresh = false }

    go : (b : Bool) → nat_eq d c ≡ b → Grows c J x
    go true e = inr (inl (record {
      made = (path, n);
      is = (eqb-true d c e, refl, refl);
      state = assigned-more x ∙ ap (λ (b : Bool). cond b next (assignments J c)) e;
      nodes = ap (λ (u : AskTale). length u.done.nodes) (asks-more x ∙ ap (λ (b : Bool). fold (asks_step c) t (cond b (Row x ∷ []) [])) e) ∙ length_push t.done.nodes n;
      last = ap (λ (u : AskTale). u.done.last) (asks-more x ∙ ap (λ (b : Bool). fold (asks_step c) t (cond b (Row x ∷ []) [])) e);
    }))
    go false e = inr (inr (inr (leaves-row x (ap (λ (b : Bool). (fold (asks_step c) t (cond b (Row x ∷ []) [])).done) e) (ap (λ (b : Bool). cond b next (assignments J c)) e))))
  grows (rec.Took place d epoch) = go (nat_eq d c) refl where
    x : Rec
    x = rec.Took place d epoch

    next : Assignments
    next = assignments_taken place (assignments J c)

    go : (b : Bool) → nat_eq d c ≡ b → Grows c J x
    go true e = inr (inr (inl (record {
      place = place;
      state = assigned-more x ∙ ap (λ (b : Bool). cond b next (assignments J c)) e;
      same = ap (λ (u : AskTale). u.done) (asks-more x) ∙ row-still x refl (Some d);
    })))
    go false e = inr (inr (inr (leaves-row x (row-still x refl (Some d)) (ap (λ (b : Bool). cond b next (assignments J c)) e))))
  grows (rec.Got k) = inr (inr (inr (record { state = assigned-more (rec.Got k); anew = subst (λ (u : AskTale). IsAnew u.done t.done) (sym (asks-more (rec.Got k))) (go (packet_at (net_of J) k)) }))) where
    go : (o : Option Packet) → IsAnew (fold (asks_step c) t (came_seen c o)).done t.done
    go None = inr refl
    go (Some p) = came-anew (letter_of p) (conn_of p.from p.to p.bytes)
  grows r = inr (inr (inr (leaves-row r (row-still (plain r) refl (whose r)) refl)))

-- ---- the k-th assignment

-- The record that makes it. Where it is among those of the last Ask, it is made for that; and where it is the last, and no node took it,
-- it is a first one.
pub record Assignment (c : ℕ) (J : List Rec) (k : ℕ) : Type 0 where
  pub before : List Rec
  pub its : Rec
  pub behind : List Rec
  pub split : J ≡ before ++ its ∷ behind
  pub made : Assigned
  pub is : IsFirst c made its ⊎ IsLater c made its
  pub place : length (assigned before c) ≡ k
  pub there : slice_get (assigned J c) k ≡ Some made
  pub last : length (assigned J c) ≤ k + length (done c J).nodes → IsLater c made its × ((done c before).last ≡ (done c J).last)
  pub first : (assignments J c).fresh ≡ true → length (assigned J c) ≡ k + 1 → IsFirst c made its

get-take : {A : Type 0} (n k : ℕ) (xs : List A) → k < n → slice_get (take n xs) k ≡ slice_get xs k
get-take zero k xs less = absurd (omega (arith, less))
get-take (suc n) k [] less = refl
get-take (suc n) zero (x ∷ xs) less = refl
get-take (suc n) (suc k) (x ∷ xs) less = get-take n k xs (omega (arith, less))

module _ (c : ℕ) where
  -- Each assignment has its record, and the last Ask has no nodes as long as no node took the last of them.
  record Found (J : List Rec) : Type 0 where
    each : (k : ℕ) → k < length (assigned J c) → Assignment c J k
    anew : (assignments J c).fresh ≡ true → (done c J).nodes ≡ []

  module _ (J : List Rec) (r : Rec) (found : Found J) where
    abbrev new : List Rec
    new = J ++ r ∷ []

    abbrev count : ℕ
    count = length (assigned J c)

    -- What is so of the last assignments is so of those before: of one that was there, this follows where the assignments are now these.
    abbrev IsOfLast : Assignments → ℕ → Type 0
    IsOfLast s k = length s.list ≤ k + length (done c new).nodes → (count ≤ k + length (done c J).nodes) × ((done c new).last ≡ (done c J).last)

    abbrev IsOfFresh : Assignments → ℕ → Type 0
    IsOfFresh s k = s.fresh ≡ true → length s.list ≡ k + 1 → ((assignments J c).fresh ≡ true) × (count ≡ k + 1)

    -- one that was there before
    one-before : (s : Assignments) → assignments new c ≡ s → (k : ℕ) → k < count → slice_get s.list k ≡ slice_get (assigned J c) k → IsOfLast s k → IsOfFresh s k → Assignment c new k
    one-before s state k less here last first =
        let h : Assignment c J k = found.each k less in
        record {
          before = h.before;
          its = h.its;
          behind = h.behind ++ r ∷ [];
          split = ap (λ (l : List Rec). l ++ r ∷ []) h.split ∙ append_assoc h.before (h.its ∷ h.behind) (r ∷ []);
          made = h.made;
          is = h.is;
          place = h.place;
          there = ap (λ (t : Assignments). slice_get t.list k) state ∙ here ∙ h.there;
          last = λ le.
              let m = last (subst (λ (t : Assignments). length t.list ≤ k + length (done c new).nodes) state le) in
              let l = h.last m.0 in
              (l.0, l.1 ∙ sym m.1);
          first = λ f e.
              let m = first (sym (ap (λ (t : Assignments). t.fresh) state) ∙ f) (sym (ap (λ (t : Assignments). length t.list) state) ∙ e) in
              h.first m.0 m.1;
        }

    -- the list is as before, and no node is added
    all-before : (fresh : Bool) → assignments new c ≡ record { list = assigned J c; fresh = fresh } → (fresh ≡ true → (assignments J c).fresh ≡ true) → IsAnew (done c new) (done c J) → Found new
    all-before fresh state was anew = record {
      each = λ k less.
          let below : k < count = subst (λ (t : Assignments). k < length t.list) state less in
          one-before (record { list = assigned J c; fresh = fresh }) state k below refl (go k below anew) (λ f e. (was f, e));
      anew = λ f. ⊎_elim (λ (e : (done c new).nodes ≡ []). e) (λ (e : done c new ≡ done c J). ap (λ (d : Answered). d.nodes) e ∙ found.anew (was (sym (ap (λ (t : Assignments). t.fresh) state) ∙ f))) anew;
    } where
      go : (k : ℕ) → k < count → IsAnew (done c new) (done c J) → IsOfLast (record { list = assigned J c; fresh = fresh }) k
      go k below (inl e) le = let none : length (done c new).nodes ≡ 0 = ap length e in absurd (omega (arith, below, le, none))
      go k below (inr e) le = (subst (λ (d : Answered). count ≤ k + length d.nodes) e le, ap (λ (d : Answered). d.last) e)

    -- one is added
    pushed : (a : Assigned) (fresh : Bool) → IsFirst c a r ⊎ IsLater c a r → assignments new c ≡ record { list = assigned J c ++ a ∷ []; fresh = fresh }
        → ((k : ℕ) → k < count → IsOfLast (record { list = assigned J c ++ a ∷ []; fresh = fresh }) k)
        → (count + 1 ≤ count + length (done c new).nodes → IsLater c a r × ((done c J).last ≡ (done c new).last))
        → (fresh ≡ true → IsFirst c a r)
        → (k : ℕ) → k < length (assigned new c) → Assignment c new k
    pushed a fresh is state old last first k less = go (nat_lt k count) refl where
      s : Assignments
      s = record { list = assigned J c ++ a ∷ []; fresh = fresh }

      long : length (assigned new c) ≡ count + 1
      long = ap (λ (t : Assignments). length t.list) state ∙ length_push (assigned J c) a

      go : (b : Bool) → nat_lt k count ≡ b → Assignment c new k
      go true e =
          let below : k < count = ltb-true k count e in
          let more = length_push (assigned J c) a in
          let made = (found.each k below).there in
          one-before (record { list = assigned J c ++ a ∷ []; fresh = fresh }) state k below (get-front (assigned J c) (a ∷ []) k (found.each k below).made made ∙ sym made) (old k below)
          (λ f e. absurd (omega (arith, below, e, more)))
      go false e =
          let above : count ≤ k = ltb-false k count e in
          let same : k ≡ count = omega (arith, above, less, long) in
          record {
            before = J;
            its = r;
            behind = [];
            split = refl;
            made = a;
            is = is;
            place = sym same;
            there = ap (λ (t : Assignments). slice_get t.list k) state ∙ ap (slice_get (assigned J c ++ a ∷ [])) same ∙ get-behind (assigned J c) a [];
            last = λ le. last (omega (arith, le, same, long));
            first = λ f e. first (sym (ap (λ (t : Assignments). t.fresh) state) ∙ f);
          }

    -- a first assignment that no node took is void
    voided : assignments new c ≡ record { list = without_last (assigned J c); fresh = false } → (done c J).nodes ≡ [] → done c new ≡ done c J → Found new
    voided state none same = record {
      each = λ k less.
          let left : k < length (without_last (assigned J c)) = subst (λ (t : Assignments). k < length t.list) state less in
          let long : length (without_last (assigned J c)) ≡ count - 1 = length-take-le (count - 1) (assigned J c) (omega arith) in
          let below : k < count - 1 = omega (arith, left, long) in
          let nodes : length (done c new).nodes ≡ 0 = ap (λ (d : Answered). length d.nodes) same ∙ ap length none in
          one-before (record { list = without_last (assigned J c); fresh = false }) state k (omega (arith, below)) (get-take (count - 1) k (assigned J c) below)
          (λ le. absurd (omega (arith, le, left, nodes))) (λ f e. let no : false ≡ true = f in absurd (let g : ⊥ = cc in g));
      anew = λ f. ap (λ (d : Answered). d.nodes) same ∙ none;
    }

    taken : (place : Place) → assignments new c ≡ assignments_taken place (assignments J c) → done c new ≡ done c J → Found new
    taken Front state same = go (assignments J c).fresh refl where
      go : (b : Bool) → (assignments J c).fresh ≡ b → Found new
      go true e = voided (state ∙ ap (λ (b : Bool). record { list = cond b (without_last (assigned J c)) (assigned J c); fresh = false }) e) (found.anew e) same
      go false e = all-before false (state ∙ ap (λ (b : Bool). record { list = cond b (without_last (assigned J c)) (assigned J c); fresh = false }) e) (λ f. let no : false ≡ true = f in absurd (let g : ⊥ = cc in g)) (inr same)
    taken (Node n) state same = all-before false state (λ f. let no : false ≡ true = f in absurd (let g : ⊥ = cc in g)) (inr same)
    taken (Client d) state same = all-before (assignments J c).fresh state (λ f. f) (inr same)

    found-one : Grows c J r → Found new
    found-one (inl h) = record {
      each = pushed h.made true (inl h.is) h.state
          (λ k below le. let none : length (done c new).nodes ≡ 0 = ap length h.nodes in let more = length_push (assigned J c) h.made in absurd (omega (arith, below, le, none, more)))
          (λ le. let none : length (done c new).nodes ≡ 0 = ap length h.nodes in absurd (omega (arith, le, none)))
          (λ f. h.is);
      anew = λ f. h.nodes;
    }
    found-one (inr (inl h)) = record {
      each = pushed h.made false (inr h.is) h.state
          (λ k below le. let one = h.nodes in let more = length_push (assigned J c) h.made in (omega (arith, le, one, more), h.last))
          (λ le. (h.is, sym h.last))
          (λ f. let no : false ≡ true = f in absurd (let g : ⊥ = cc in g));
      anew = λ f. let no : false ≡ true = sym (ap (λ (t : Assignments). t.fresh) h.state) ∙ f in absurd (let g : ⊥ = cc in g);
    }
    found-one (inr (inr (inl h))) = taken h.place h.state h.same
    found-one (inr (inr (inr h))) = all-before (assignments J c).fresh h.state (λ f. f) h.anew

  found-all : (past rs : List Rec) → Found past → Found (past ++ rs)
  found-all past [] h = subst Found (sym (append-nil past)) h
  found-all past (r ∷ rs) h = subst Found (append_assoc past (r ∷ []) rs) (found-all (past ++ r ∷ []) rs (found-one past r h (grows c past r)))

  found : (rs : List Rec) → Found rs
  unfolding own
  found rs = found-all [] rs (record { each = λ k less. (let no : k < 0 = less in absurd (omega (arith, no))); anew = λ f. refl })

-- ---- a request's assignment

-- Request r was assigned for this Ask, and its assignment lasts.
pub record HasAssignment (files : FilesAt) (wrote : List ℕ) (past : List Rec) (c r : ℕ) (ask : Option ℕ) : Type 0 where
  pub before : List Rec
  pub its : Rec
  pub behind : List Rec
  pub split : past ≡ before ++ its ∷ behind
  pub made : Assigned
  pub assigns : AssignsFor before c made.0 made.1 ask its
  pub place : length (assigned before c) ≡ files_before files wrote r
  pub lasts : slice_get (lasting (assignments past c)) (length (assigned before c)) ≡ Some made

module _ (files : FilesAt) (w : List ℕ) (J : List Rec) (c r : ℕ) where
  abbrev at : ℕ
  at = files_before files w r

  of-later : (past : List Rec) (a : Assigned) (x : Rec) (number : ℕ) → IsLater c a x → number ≡ (done c past).last → AssignsFor past c a.0 a.1 (Some number) x
  of-later past a (rec.AssignedLater d i path n add size queue) number h e = (h.0, h.1, h.2, ap Some e)
  of-later past a _ number h e = absurd h

  of-first : (past : List Rec) (a : Assigned) (x : Rec) → IsFirst c a x → AssignsFor past c a.0 a.1 None x
  of-first past a (rec.AssignedFirst d i path n add remove) h = (h.0, h.1, h.2, refl)
  of-first past a _ h = absurd h

  -- One among those of the last Ask was assigned for that: a node took the connection before.
  pub last-assigned : (number : ℕ) → number ≡ (done c J).last → length (assigned J c) ≤ files_before files w r + length (done c J).nodes → files_before files w r < length (assigned J c) → HasAssignment files w J c r (Some number)
  last-assigned number is low high =
      let a : Assignment c J at = (found c J).each at high in
      let l = a.last low in
      let all : lasting (assignments J c) ≡ assigned J c = all-last (assignments J c) (settled (assignments J c).fresh refl) in
      record {
        before = a.before;
        its = a.its;
        behind = a.behind;
        split = a.split;
        made = a.made;
        assigns = of-later a.before a.made a.its number l.0 (is ∙ sym l.1);
        place = a.place;
        lasts = ap (λ (xs : List Assigned). slice_get xs (length (assigned a.before c))) all ∙ ap (slice_get (assigned J c)) a.place ∙ a.there;
      } where
        settled : (b : Bool) → (assignments J c).fresh ≡ b → b ≡ false
        settled true e = let none : length (done c J).nodes ≡ 0 = ap length ((found c J).anew e) in absurd (omega (arith, low, high, none))
        settled false e = refl

  -- And the last one, where no node took the connection before, was assigned with it: a node that takes it behind these records has it so.
  pub first-assigned : (rs : List Rec) (n epoch : ℕ) → assignments (J ++ rs) c ≡ assignments J c → (assignments J c).fresh ≡ true → length (assigned J c) ≡ files_before files w r + 1
      → HasAssignment files w ((J ++ rs) ++ rec.Took (Node n) c (record { 0 = epoch }) ∷ []) c r None
  first-assigned rs n epoch same fresh long =
      let a : Assignment c J at = (found c J).each at (omega (arith, long)) in
      let took : Rec = rec.Took (Node n) c (record { 0 = epoch }) in
      let all : lasting (assignments ((J ++ rs) ++ took ∷ []) c) ≡ assigned J c = taken-last (J ++ rs) n c epoch ∙ ap (λ (s : Assignments). s.list) same in
      record {
        before = a.before;
        its = a.its;
        behind = a.behind ++ (rs ++ took ∷ []);
        split = append_assoc J rs (took ∷ []) ∙ ap (λ (l : List Rec). l ++ (rs ++ took ∷ [])) a.split ∙ append_assoc a.before (a.its ∷ a.behind) (rs ++ took ∷ []);
        made = a.made;
        assigns = of-first a.before a.made a.its (a.first fresh long);
        place = a.place;
        lasts = ap (λ (xs : List Assigned). slice_get xs (length (assigned a.before c))) all ∙ ap (slice_get (assigned J c)) a.place ∙ a.there;
      }
