-- What was sent and is not answered goes on so, where nothing that answers it comes; and what a move sends is not answered behind it.
use Rattle.std.proofs.Common.{◌≡◌, ◌<◌, ◌+◌, ◌*◌, ◌/◌, ◌%◌, ◌^◌, ◌==◌, nat_lt, not, ℕ, Bool, true, false, cond, List, [], ◌∷◌, ◌++◌, map, length, find, Option, Some, None, inl, inr, ⊎_elim, refl, sym, ap, ◌∙◌, arith, append_assoc, append-nil, eqb-true, eq-eqb, le-ltb}
use Rattle.std.proofs.lemmas.Bool.{and_parts, both_ways, cond-false, ltb-true}
use Rattle.std.specs.List.{AllByRecursion}
use Rattle.std.specs.Prelude.{slice_get}
use Rattle.lard_law_view.specs.Prelude.{AreInOrder, BackConn, BackRow, Conn, FilesAt, Front, Has, Kept, Letter, Move, Node, NodePart, Place, Rec, Row, Seen, Stay, TimerKind, comes_before, fetch_kept, fetching, is_under, kind_rank, named_paths, names_epoch, rows_of, seen_in, spelled_message, timer_rows, without}
use Rattle.lard_handoff_back.specs.declared.row.BackConn.TheVariants as back
use Rattle.lard_history.proofs.Each.{Each, Each-append}
use Rattle.lard_history.proofs.Seeing.{has-before, has-behind}
use Rattle.lard_journal.specs.declared.rec.Rec.TheVariants as rec
use Rattle.lard_law_view.specs.View.{sending}
use Rattle.lard_law_view.proofs.Turned.{has-all, has-map}
use Rattle.lard_laws.specs.Due.{CameAs, IsContentFor, IsTagFor, IsUnanswered}
use Rattle.lard_laws.specs.DueAnswers.{FetchKeptIsOut, HereIsOut, NamesAreOut, PartIsOut, RowIsOut, StageIsOut, StayIsOut}
use Rattle.lard_message.specs.declared.message.Body.TheVariants as body
use Rattle.lard_rules.specs.Node.{message}

-- ---- what is seen

-- none of these that came is one of which P is so
abbrev pub NoneCome : (Letter → Type 0) → List Seen → Type 0
NoneCome P ss = Each (λ s. CameAs P s → ⊥) ss

module _ (P : Letter → Type 0) where
  -- records do not come
  pub rows-none : (rs : List Rec) → NoneCome P (map Row rs)
  rows-none [] = tt
  rows-none (r ∷ rs) = ((λ h. h), rows-none rs)

  pub move-none : (x : Conn) (v : Move) → NoneCome P v.heads → NoneCome P (seen_in x v)
  move-none x v h = Each-append (λ s. CameAs P s → ⊥) v.heads (map Row (rows_of x v)) h (rows-none (rows_of x v))

  pub more-unanswered : (seen ss : List Seen) (from to : Place) (bytes : List ℕ) → NoneCome P ss → IsUnanswered P seen from to bytes → IsUnanswered P (seen ++ ss) from to bytes
  more-unanswered seen ss from to bytes none u = record {
    before = u.before;
    later = u.later ++ ss;
    split = ap (λ l. l ++ ss) u.split ∙ append_assoc u.before u.later ss;
    sent = u.sent;
    none = Each-append (λ s. CameAs P s → ⊥) u.later ss u.none none;
  }

  pub sent-now : (seen ss : List Seen) (from to : Place) (bytes : List ℕ) → Has (Row (rec.Sent 0 from to bytes)) ss → IsUnanswered P (seen ++ ss) from to bytes
  sent-now seen ss from to bytes has = record {
    before = seen ++ ss;
    later = [];
    split = sym (append-nil (seen ++ ss));
    sent = has-behind (Row (rec.Sent 0 from to bytes)) seen ss has;
    none = tt;
  }

-- a message of a move is seen as it is sent
pub message-seen : (x : Conn) (v : Move) (m : Place × List ℕ) → Has m v.said.messages → Has (Row (sending v.place m)) (seen_in x v)
message-seen x v m has =
    let r : Rec = sending v.place m in
    let first : List Rec = v.said.notes ++ map (sending v.place) v.said.segments ++ v.said.gave in
    let messages : List Rec = map (sending v.place) v.said.messages in
    has-behind (Row r) v.heads (map Row (rows_of x v))
    (has-map Row r (rows_of x v) (has-before r (first ++ messages) (timer_rows v.place x.c x.part v.part) (has-behind r first messages (has-map (sending v.place) m v.said.messages has))))

-- ---- what a node awaits

module _ (files : FilesAt) (seen ss : List Seen) (n c : ℕ) where
  pub names-more : (e number : ℕ) (names : List (List ℕ)) → ((path : List ℕ) (paths : List (List ℕ)) → names ≡ path ∷ paths → NoneCome (IsTagFor n c e number (length names)) ss)
      → NamesAreOut seen n c e number names → NamesAreOut (seen ++ ss) n c e number names
  names-more e number [] calm h = tt
  names-more e number (path ∷ paths) calm h =
      (h.0, h.1, more-unanswered (IsTagFor n c e number (length (path ∷ paths))) seen ss (Node n) Front _ (calm path paths refl) h.2)

  -- nothing answers these Fetches
  abbrev pub FetchesCalm : ℕ → List Kept → Type 0
  FetchesCalm e ks = (k : Kept) → Has k ks → (r node : ℕ) (path : List ℕ) → k ≡ fetch_kept c e r node path → NoneCome (IsContentFor n node c e r) ss

  pub fetches-more : (e : ℕ) (ks : List Kept) → FetchesCalm e ks → AllByRecursion (FetchKeptIsOut seen n c e) ks → AllByRecursion (FetchKeptIsOut (seen ++ ss) n c e) ks
  fetches-more e [] calm h = tt
  fetches-more e (k ∷ ks) calm h =
      let one : FetchKeptIsOut seen n c e k = h.0 in (
        (one.0, one.1, one.2, one.3, more-unanswered (IsContentFor n one.1 c e one.0) seen ss (Node n) (Node one.1) _ (calm k (inl refl) one.0 one.1 one.2 one.3) one.4),
        fetches-more e ks (λ j has. calm j (inr has)) h.1,
      )

  -- nothing that comes answers what the stay awaits
  pub record StayCalm (e : ℕ) (fetches : List Kept) (s : Stay) : Type 0 where
    pub tags : (path : List ℕ) (paths : List (List ℕ)) → named_paths files s.batch ≡ path ∷ paths → NoneCome (IsTagFor n c e s.asks (length (named_paths files s.batch))) ss
    pub contents : FetchesCalm e fetches

  pub stay-more : (e : ℕ) (fetches : List Kept) (s : Stay) → StayCalm e fetches s → StayIsOut files seen n c e fetches s → StayIsOut files (seen ++ ss) n c e fetches s
  stay-more e fetches s calm h = record { asks = names-more e s.asks (named_paths files s.batch) calm.tags h.asks; fetched = fetches-more e fetches calm.contents h.fetched }

  pub part-more : (p : NodePart) → ((row : BackRow) (b : _) (s : Stay) → p.row ≡ Some row → row.stage ≡ back.Here b → p.stay ≡ Some s → StayCalm row.epoch.0 p.fetches s) → PartIsOut files seen n c p → PartIsOut files (seen ++ ss) n c p
  part-more p calm h = by-row p.row refl h where
    by-stay : (row : BackRow) (b : _) → p.row ≡ Some row → row.stage ≡ back.Here b → (o : Option Stay) → p.stay ≡ o → HereIsOut files seen n c row.epoch.0 p.fetches o → HereIsOut files (seen ++ ss) n c row.epoch.0 p.fetches o
    by-stay row b found at None is k = tt
    by-stay row b found at (Some s) is k = stay-more row.epoch.0 p.fetches s (calm row b s found at is) k

    by-stage : (row : BackRow) → p.row ≡ Some row → (d : BackConn) → row.stage ≡ d → StageIsOut files seen n c row.epoch.0 p d → StageIsOut files (seen ++ ss) n c row.epoch.0 p d
    by-stage row found (back.Here b) at k = by-stay row b found at p.stay refl k
    by-stage row found _ at k = tt

    by-row : (o : Option BackRow) → p.row ≡ o → RowIsOut files seen n c p o → RowIsOut files (seen ++ ss) n c p o
    by-row None found k = tt
    by-row (Some row) found k = by-stage row found row.stage refl k

  -- nothing that comes answers anything
  pub record AllCalm : Type 0 where
    pub tags : (e number count : ℕ) → NoneCome (IsTagFor n c e number count) ss
    pub contents : (node e r : ℕ) → NoneCome (IsContentFor n node c e r) ss

  pub calm-stay : AllCalm → (e : ℕ) (fetches : List Kept) (s : Stay) → StayCalm e fetches s
  calm-stay calm e fetches s = record { tags = λ path paths is. calm.tags e s.asks (length (named_paths files s.batch)); contents = λ k has r node path is. calm.contents node e r }

  pub calm-part : (p : NodePart) → AllCalm → PartIsOut files seen n c p → PartIsOut files (seen ++ ss) n c p
  calm-part p calm h = part-more p (λ row b s found at is. calm-stay calm row.epoch.0 p.fetches s) h

-- ---- messages that are kept

-- the numbers of two Asks that follow one another are spelled otherwise
pub numbers-differ : (c e n q z q1 z1 : ℕ) (ps ps1 : List (List ℕ)) → message c e (body.Ask n q z ps) ≡ message c e (body.Ask (n + 1) q1 z1 ps1) → ⊥
unfolding spelled_message
numbers-differ c e n q z q1 z1 ps ps1 same =
    let at : Some (n % 256) ≡ Some ((n + 1) % 256) = ap (λ (l : List ℕ). slice_get l 13) same in
    let less : n % 256 ≡ (n + 1) % 256 = cc in
    omega (arith, less)

-- a spelling names its epoch
pub names-epoch : (c e r : ℕ) (path : List ℕ) → e < 2 ^ 16 → names_epoch (spelled_message (fetching c e r path)) e ≡ true
unfolding spelled_message
names-epoch c e r path low =
    let same : e / 256 % 256 * 256 + e % 256 ≡ e = omega arith in
    cond-false (nat_lt (length (spelled_message (fetching c e r path))) 6) _ _ (le-ltb _ _ (omega arith)) ∙ ap (λ (n : ℕ). n == e) same ∙ eq-eqb e e refl

-- what is left was there, and is under another number
pub has-without : (a : TimerKind) (r : ℕ) (ks : List Kept) (k : Kept) → Has k (without a r ks) → Has k ks × (is_under a r k ≡ false)
has-without a r [] k h = absurd h
has-without a r (j ∷ ks) k h = go (is_under a r j) refl h (has-without a r ks k) where
  go : (t : Bool) → is_under a r j ≡ t → Has k (cond (not t) (j ∷ without a r ks) (without a r ks)) → (Has k (without a r ks) → Has k ks × (is_under a r k ≡ false)) → Has k (j ∷ ks) × (is_under a r k ≡ false)
  go true is f later = let rest = later f in (inr rest.0, rest.1)
  go false is f later = ⊎_elim (λ (same : j ≡ k). (inl same, ap (is_under a r) (sym same) ∙ is)) (λ (has : Has k (without a r ks)). let rest = later has in (inr rest.0, rest.1)) f

-- of those in order the first with a kind and a number is the only one
pub found-it : (a : TimerKind) (r : ℕ) (ks : List Kept) (k : Kept) → AreInOrder ks → Has k ks → is_under a r k ≡ true → find (is_under a r) ks ≡ Some k
found-it a r [] k order has is = absurd has
found-it a r (j ∷ ks) k order has is = go (is_under a r j) refl (λ h. found-it a r ks k order.1 h is) where
  ranks : (i : Kept) → is_under a r i ≡ true → (kind_rank i.kind ≡ kind_rank a) × (i.r ≡ r)
  ranks i under = let both = and_parts (kind_rank i.kind == kind_rank a) (i.r == r) under in (eqb-true (kind_rank i.kind) (kind_rank a) both.0, eqb-true i.r r both.1)

  -- none behind it is under the same
  never : is_under a r j ≡ true → Has k ks → ⊥
  never under h =
      let before : comes_before k.kind k.r j ≡ true = has-all (λ (later : Kept). comes_before later.kind later.r j ≡ true) k ks h order.0 in
      let one = ranks j under in
      let two = ranks k is in
      let same : (kind_rank j.kind == kind_rank k.kind) ≡ true = eq-eqb (kind_rank j.kind) (kind_rank k.kind) (one.0 ∙ sym two.0) in
      let less : nat_lt j.r k.r ≡ true = sym (ap (λ (t : Bool). cond t (nat_lt j.r k.r) (nat_lt (kind_rank j.kind) (kind_rank k.kind))) same) ∙ before in
      let lower : j.r < k.r = ltb-true j.r k.r less in
      let first = one.1 in
      let second = two.1 in
      omega (arith, lower, first, second)

  go : (t : Bool) → is_under a r j ≡ t → (Has k ks → find (is_under a r) ks ≡ Some k) → cond t (Some j) (find (is_under a r) ks) ≡ Some k
  go true under later = ⊎_elim (λ (same : j ≡ k). ap Some same) (λ (h : Has k ks). absurd (never under h)) has
  go false under later = ⊎_elim (λ (same : j ≡ k). absurd (both_ways (is_under a r j) under (ap (is_under a r) same ∙ is))) (λ (h : Has k ks). later h) has
