-- Where a connection comes back, its node is closed behind the record that the front end took it: what a step notes is what the connection sees of it,
-- with that record between.
use Rattle.std.proofs.Common.{◌≡◌, ℕ, ◌⊎◌, Bool, true, false, cond, List, [], ◌∷◌, ◌++◌, map, append_assoc, inl, inr, ⊎_elim, refl, sym, ◌∙◌, subst}
use Rattle.lard_history.proofs.Each.{Each, Each-append, Each-weaker}
use Rattle.lard_journal.specs.declared.rec.Rec.TheVariants as rec
use Rattle.lard_law_connections.proofs.LineNotes.{Alone, Enters}
use Rattle.lard_law_view.proofs.ByteLists.{each-before}
use Rattle.lard_law_view.proofs.OwnRecords.{IsNoClosing}
use Rattle.lard_law_view.proofs.Saying.{NamesNobody, NotedAt, NotedIn, notes-all}
use Rattle.lard_law_view.proofs.Shapes.{ActsOnTwo, ClosesBehind, ReadsOn}
use Rattle.lard_law_view.specs.Prelude.{Epoch, Event, Front, Machine, Out, Packet, Part, Rec, Row, Seen, seen_on}

-- a list is known by what is seen of it
rows-same : (xs ys : List Rec) → map Row xs ≡ map Row ys → xs ≡ ys
rows-same [] [] e = refl
rows-same [] (y ∷ ys) e = let no : [] ≡ Row y ∷ map Row ys = e in absurd cc
rows-same (x ∷ xs) [] e = let no : Row x ∷ map Row xs ≡ [] = e in absurd cc
rows-same (x ∷ xs) (y ∷ ys) e =
    let one : x ≡ y = cc in
    let rest : map Row xs ≡ map Row ys = cc in
    λ i. one i ∷ rows-same xs ys rest i

-- The second are the first, or have one record more: that a node is closed.
pub data IsClosedIn : List Rec → List Rec → Type 0 where
  Nowhere : (rs : List Rec) → IsClosedIn rs rs
  Behind : (c : ℕ) (epoch : Epoch) (n : ℕ) (rs : List Rec)
      → IsClosedIn (rec.Took Front c epoch ∷ rec.Released c ∷ rs) (rec.Took Front c epoch ∷ rec.Closed n ∷ rec.Released c ∷ rs)

pub closed-append : (xs ys zs : List Rec) → IsClosedIn xs ys → IsClosedIn (xs ++ zs) (ys ++ zs)
closed-append all same zs (Nowhere rs) = Nowhere (rs ++ zs)
closed-append all more zs (Behind c epoch n rs) = Behind c epoch n (rs ++ zs)

pub closed-each : (P : Rec → Type 0) (xs ys : List Rec) → IsClosedIn xs ys → Each P ys → Each P xs
closed-each P all same (Nowhere rs) e = e
closed-each P all more (Behind c epoch n rs) e = (e.0, e.1.1)

-- no connection sees it
closed-seen : (c : ℕ) (net : List Packet) (xs ys : List Rec) → IsClosedIn xs ys → seen_on c net ys ≡ seen_on c net xs
closed-seen c net all same (Nowhere rs) = refl
closed-seen c net all more (Behind d epoch n rs) = refl

-- ---- what closes no node

-- is of the connection
own-at : (c : ℕ) (r : Rec) → IsNoClosing r → NotedIn Front c r → NotedAt Front c r
own-at c r none h = ⊎_elim (λ (k : NotedAt Front c r). k) (λ (k : NamesNobody Front r). absurd (go r k none)) h where
  go : (r : Rec) → NamesNobody Front r → IsNoClosing r → ⊥
  go (rec.Closed n) k none = none
  go _ k none = k

all-own : (c : ℕ) (rs : List Rec) → Each IsNoClosing rs → Each (NotedIn Front c) rs → Each (NotedAt Front c) rs
all-own c [] none h = tt
all-own c (r ∷ rs) none h = (own-at c r none.0 h.0, all-own c rs none.1 h.1)

on-closing : (r : Rec) → ReadsOn r → IsNoClosing r
on-closing (rec.Closed n) h = h
on-closing _ h = tt

-- ---- what is noted of a connection

-- that it comes back, from a node that was open or not
abbrev back_rows : ℕ → Epoch → ℕ → Bool → List Rec → List Rec
back_rows c taken from open_ rest = rec.Took Front c taken ∷ cond open_ (rec.Closed from ∷ []) [] ++ rec.Released c ∷ [] ++ rest

-- where a node is closed in these notes
record ClosesIn (c : ℕ) (notes : List Rec) : Type 0 where
  from : ℕ
  taken : Epoch
  open_ : Bool
  rest : List Rec
  are : notes ≡ back_rows c taken from open_ rest
  none : Each IsNoClosing rest

closes-in : (m : Machine) (e : Event) (c : ℕ) (notes : List Rec) → ClosesBehind m e c notes → ClosesIn c notes
closes-in m e c notes b = record { from = b.from; taken = b.taken; open_ = b.open_; rest = b.rest; are = b.are; none = b.none }

-- what of them is of the connection
record ClosedOf (c : ℕ) (notes : List Rec) : Type 0 where
  own : List Rec
  is : IsClosedIn own notes
  noted : Each (NotedAt Front c) own

closed-of : (c : ℕ) (notes : List Rec) → Each (NotedIn Front c) notes → ClosesIn c notes ⊎ Each IsNoClosing notes → ClosedOf c notes
closed-of c notes noted closes = ⊎_elim (λ (k : ClosesIn c notes). somewhere k k.open_ k.are) nowhere closes where
  nowhere : Each IsNoClosing notes → ClosedOf c notes
  nowhere none = record { own = notes; is = Nowhere notes; noted = all-own c notes none noted }

  somewhere : (k : ClosesIn c notes) (b : Bool) → notes ≡ back_rows c k.taken k.from b k.rest → ClosedOf c notes
  somewhere k false are = nowhere (subst (Each IsNoClosing) (sym are) (tt, (tt, k.none)))
  somewhere k true are = record {
    own = rec.Took Front c k.taken ∷ rec.Released c ∷ k.rest;
    is = subst (IsClosedIn (rec.Took Front c k.taken ∷ rec.Released c ∷ k.rest)) (sym are) (Behind c k.taken k.from k.rest);
    noted = (refl, (refl, all-own c k.rest k.none (subst (Each (NotedIn Front c)) are noted).1.1.1));
  }

-- that is what the connection sees
own-seen : (c : ℕ) (ns own notes : List Rec) → IsClosedIn own notes → Each (NotedAt Front c) own → ((net : List Packet) → seen_on c net notes ≡ map Row ns)
    → own ≡ ns
own-seen c ns own notes is noted seen = rows-same own ns (sym (notes-all Front c [] own tt noted) ∙ sym (closed-seen c [] own notes is) ∙ seen [])

-- ---- of one connection

pub one-closed : (m : Machine) (e : Event) (c : ℕ) (ns notes : List Rec) → Each (NotedIn Front c) notes → ClosesBehind m e c notes ⊎ Each IsNoClosing notes
    → ((net : List Packet) → seen_on c net notes ≡ map Row ns) → IsClosedIn ns notes
one-closed m e c ns notes noted closes seen =
    let k : ClosedOf c notes = closed-of c notes noted
    (⊎_elim (λ (b : ClosesBehind m e c notes). inl (closes-in m e c notes b)) (λ (b : Each IsNoClosing notes). inr b) closes) in
    subst (λ (rs : List Rec). IsClosedIn rs notes) (own-seen c ns k.own notes k.is k.noted seen) k.is

-- ---- of two

-- what stands before an admission
module _ (c d : ℕ) (taken : Epoch) (from : ℕ) (rest ts : List Rec) where
  cut-back : (b : Bool) (xs : List Rec) → xs ++ rec.Admitted d ∷ ts ≡ back_rows c taken from b rest
      → (us : List Rec) × (xs ≡ back_rows c taken from b us) × (rest ≡ us ++ rec.Admitted d ∷ ts)
  cut-back b [] same = absurd (cc)
  cut-back true (x ∷ []) same = absurd (cc)
  cut-back true (x ∷ y ∷ []) same = absurd (cc)
  cut-back true (x ∷ y ∷ z ∷ us) same =
      let one : x ≡ rec.Took Front c taken = cc in
      let two : y ≡ rec.Closed from = cc in
      let three : z ≡ rec.Released c = cc in
      let on : us ++ rec.Admitted d ∷ ts ≡ rest = cc in
      (us, (λ i. one i ∷ two i ∷ three i ∷ us), sym on)
  cut-back false (x ∷ []) same = absurd (cc)
  cut-back false (x ∷ y ∷ us) same =
      let one : x ≡ rec.Took Front c taken = cc in
      let two : y ≡ rec.Released c = cc in
      let on : us ++ rec.Admitted d ∷ ts ≡ rest = cc in
      (us, (λ i. one i ∷ two i ∷ us), sym on)

closes-first : (c d : ℕ) (xs ys zs : List Rec) → Enters d ys → ClosesIn c (xs ++ ys ++ zs) → ClosesIn c xs
closes-first c d xs all zs (Alone r path n add remove) b =
    let ts : List Rec = rec.AssignedFirst d r path n add remove ∷ zs in
    let same : xs ++ rec.Admitted d ∷ ts ≡ back_rows c b.taken b.from b.open_ b.rest =
    sym (append_assoc xs (rec.Admitted d ∷ rec.AssignedFirst d r path n add remove ∷ []) zs) ∙ b.are in
    let cut = cut-back c d b.taken b.from b.rest ts b.open_ xs same in
    record {
      from = b.from;
      taken = b.taken;
      open_ = b.open_;
      rest = cut.0;
      are = cut.1;
      none = each-before IsNoClosing cut.0 (rec.Admitted d ∷ ts) (subst (Each IsNoClosing) cut.2 b.none);
    }

-- What is of the first, before the head and behind it.
pub record ClosedTwo (c : ℕ) (ns xs zs : List Rec) : Type 0 where
  pub own : List Rec
  pub is : IsClosedIn own xs
  pub are : own ++ zs ≡ ns
  pub noted : Each (NotedAt Front c) zs

pub two-closed : (m w : Machine) (e : Event) (a b z : Out) (rows : List Rec) (c d : ℕ) (heads : List Seen) (ns : List Rec) (p r : Part)
    → ActsOnTwo m w e a b z rows c d heads ns p r → Enters d b.notes → ClosedTwo c ns a.notes z.notes
two-closed m w e a b z rows c d heads ns p r act enters =
    let all : List Rec = a.notes ++ b.notes ++ z.notes in
    let closes : ClosesIn c a.notes ⊎ Each IsNoClosing a.notes =
    ⊎_elim (λ (k : ClosesBehind m e c all). inl (closes-first c d a.notes b.notes z.notes enters (closes-in m e c all k)))
    (λ (k : Each IsNoClosing all). inr (each-before IsNoClosing a.notes b.notes (each-before IsNoClosing (a.notes ++ b.notes) z.notes k))) act.closes in
    let k : ClosedOf c a.notes = closed-of c a.notes act.said.notes closes in
    let rest : Each (NotedAt Front c) z.notes = all-own c z.notes (Each-weaker ReadsOn IsNoClosing on-closing z.notes act.reads_on) act.said_rest.notes in
    record {
      own = k.own;
      is = k.is;
      are = own-seen c ns (k.own ++ z.notes) (a.notes ++ z.notes) (closed-append k.own a.notes z.notes k.is)
          (Each-append (NotedAt Front c) k.own z.notes k.noted rest) act.notes;
      noted = rest;
    }
