-- What a connection sees of a list: of two lists joined, of one that is all its own, of one that is none of its own.
use Rattle.std.proofs.Common.{◌≡◌, ◌≢◌, ℕ, zero, suc, ◌-◌, List, [], ◌∷◌, ◌++◌, map, Bool, true, false, cond, Option, Some, None, refl, sym, ap, ◌∙◌, subst, append_assoc, nat_eq, ⊎_elim, inl, inr}
use Rattle.std.proofs.lemmas.Bool.Decides.{eqb_tells}
use Rattle.std.specs.List.{fold}
use Rattle.std.specs.Prelude.{slice_get}
use Rattle.lard_history.specs.Own.{Has, Letter, Row, conn_of, letter_of, letters, letters_in, net_of, net_step, one_of, own, plain, seen_of, seen_on, whose}
use Rattle.lard_history.proofs.Each.{Each, Each-weaker}
use Rattle.lard_journal.specs.declared.rec.Rec.{Rec}
use Rattle.lard_journal.specs.declared.rec.Rec.TheVariants as rec
use Rattle.lard_net.specs.Net.{Packet, lose_at, packet_at}

-- ---- numbers

-- a number is another's, or not
pub by_number : (P : Type 0) (d c : ℕ) → (d ≡ c → P) → (d ≢ c → P) → P
by_number P d c same other = ⊎_elim (λ (h : (nat_eq d c ≡ true) × (d ≡ c)). same h.1) (λ (h : (nat_eq d c ≡ false) × (d ≢ c)). other h.1) (eqb_tells d c)

pub same_number : (c : ℕ) → nat_eq c c ≡ true
same_number c = ⊎_elim (λ (h : (nat_eq c c ≡ true) × (c ≡ c)). h.0) (λ (h : (nat_eq c c ≡ false) × (c ≢ c)). absurd (h.1 refl)) (eqb_tells c c)

pub other_number : (d c : ℕ) → d ≢ c → nat_eq d c ≡ false
other_number d c n = ⊎_elim (λ (h : (nat_eq d c ≡ true) × (d ≡ c)). absurd (n h.1)) (λ (h : (nat_eq d c ≡ false) × (d ≢ c)). h.0) (eqb_tells d c)

module _ {B : Type 0} where
  pub one-mine : (c : ℕ) (o : Option ℕ) (b : B) → o ≡ Some c → one_of c o b ≡ b ∷ []
  one-mine c o b e = ap (λ k. one_of c k b) e ∙ ap (λ t. cond t (b ∷ []) []) (same_number c)

  pub one-other : (c q : ℕ) (o : Option ℕ) (b : B) → q ≢ c → o ≡ Some c → one_of q o b ≡ []
  one-other c q o b n e = ap (λ k. one_of q k b) e ∙ ap (λ t. cond t (b ∷ []) []) (other_number c q (λ s. n (sym s)))

-- ---- records

pub seen_on-append : (q : ℕ) (net : List Packet) (xs ys : List Rec) → seen_on q net (xs ++ ys) ≡ seen_on q net xs ++ seen_on q (fold net_step net xs) ys
seen_on-append q net [] ys = refl
seen_on-append q net (x ∷ xs) ys =
    ap (λ l. seen_of q net x ++ l) (seen_on-append q (net_step net x) xs ys)
    ∙ sym (append_assoc (seen_of q net x) (seen_on q (net_step net x) xs) (seen_on q (fold net_step (net_step net x) xs) ys))

pub own-append : (q : ℕ) (J rs : List Rec) → own q (J ++ rs) ≡ own q J ++ seen_on q (net_of J) rs
unfolding own
own-append q J rs = seen_on-append q [] J rs

-- records of one connection, each as it sees it
abbrev pub AreOf : ℕ → List Rec → Type 0
AreOf c rs = Each (λ r. (whose r ≡ Some c) × (plain r ≡ r)) rs

-- the record of a packet that came is nobody's
pub seen-whose : (q c : ℕ) (net : List Packet) (r : Rec) → whose r ≡ Some c → seen_of q net r ≡ one_of q (whose r) (Row (plain r))
seen-whose q c net (rec.Got k) e = let no : None ≡ Some c = e in absurd cc
seen-whose q c net _ e = refl

pub seen-mine : (c : ℕ) (net : List Packet) (r : Rec) → whose r ≡ Some c → seen_of c net r ≡ Row (plain r) ∷ []
seen-mine c net r e = seen-whose c c net r e ∙ one-mine c (whose r) (Row (plain r)) e

pub seen-other : (c q : ℕ) (net : List Packet) (r : Rec) → q ≢ c → whose r ≡ Some c → seen_of q net r ≡ []
seen-other c q net r n e = seen-whose q c net r e ∙ one-other c q (whose r) (Row (plain r)) n e

pub seen-all : (c : ℕ) (net : List Packet) (rs : List Rec) → AreOf c rs → seen_on c net rs ≡ map Row rs
seen-all c net [] e = refl
seen-all c net (r ∷ rs) e =
    ap (λ l. l ++ seen_on c (net_step net r) rs) (seen-mine c net r e.0.0) ∙ (λ i. Row (e.0.1 i) ∷ seen-all c (net_step net r) rs e.1 i)

pub seen-none : (c q : ℕ) (net : List Packet) (rs : List Rec) → q ≢ c → Each (λ r. whose r ≡ Some c) rs → seen_on q net rs ≡ []
seen-none c q net [] n e = refl
seen-none c q net (r ∷ rs) n e = ap (λ l. l ++ seen_on q (net_step net r) rs) (seen-other c q net r n e.0) ∙ seen-none c q (net_step net r) rs n e.1

pub of-whose : (c : ℕ) (rs : List Rec) → AreOf c rs → Each (λ r. whose r ≡ Some c) rs
of-whose c rs e = Each-weaker (λ r. (whose r ≡ Some c) × (plain r ≡ r)) (λ r. whose r ≡ Some c) (λ r h. h.0) rs e

-- ---- packets

pub letters-append : (q : ℕ) (xs ys : List Packet) → letters q (xs ++ ys) ≡ letters q xs ++ letters q ys
unfolding letters
letters-append q xs ys = go xs where
  go : (xs : List Packet) → letters_in q (xs ++ ys) ≡ letters_in q xs ++ letters_in q ys
  go [] = refl
  go (x ∷ xs) = ap (λ l. one_of q (conn_of x.from x.to x.bytes) (letter_of x) ++ l) (go xs)
      ∙ sym (append_assoc (one_of q (conn_of x.from x.to x.bytes) (letter_of x)) (letters_in q xs) (letters_in q ys))

abbrev pub packet_conn : Packet → Option ℕ
packet_conn p = conn_of p.from p.to p.bytes

pub letters-all : (c : ℕ) (ps : List Packet) → Each (λ p. packet_conn p ≡ Some c) ps → letters c ps ≡ map letter_of ps
unfolding letters
letters-all c [] e = refl
letters-all c (p ∷ ps) e = ap (λ l. l ++ letters_in c ps) (one-mine c (packet_conn p) (letter_of p) e.0) ∙ ap (λ l. letter_of p ∷ l) (letters-all c ps e.1)

pub letters-none : (c q : ℕ) (ps : List Packet) → q ≢ c → Each (λ p. packet_conn p ≡ Some c) ps → letters q ps ≡ []
unfolding letters
letters-none c q [] n e = refl
letters-none c q (p ∷ ps) n e = ap (λ l. l ++ letters_in q ps) (one-other c q (packet_conn p) (letter_of p) n e.0) ∙ letters-none c q ps n e.1

-- a loss is seen by nobody
pub letters-lost : (q k : ℕ) (ps : List Packet) → letters q (lose_at k ps) ≡ letters q ps
unfolding letters
letters-lost q k [] = refl
letters-lost q zero (p ∷ ps) = refl
letters-lost q (suc k) (p ∷ ps) = ap (λ l. one_of q (packet_conn p) (letter_of p) ++ l) (letters-lost q k ps)

module _ {A : Type 0} (a : A) where
  pub has-before : (xs ys : List A) → Has a xs → Has a (xs ++ ys)
  has-before [] ys h = absurd h
  has-before (x ∷ xs) ys h = ⊎_elim (λ (e : x ≡ a). inl e) (λ (k : Has a xs). inr (has-before xs ys k)) h

  pub has-behind : (xs ys : List A) → Has a ys → Has a (xs ++ ys)
  has-behind [] ys h = h
  has-behind (x ∷ xs) ys h = inr (has-behind xs ys h)

  pub has-each : (P : A → Type 0) (xs : List A) → Has a xs → Each P xs → P a
  has-each P [] h e = absurd h
  has-each P (x ∷ xs) h e = ⊎_elim (λ (s : x ≡ a). subst P s e.0) (λ (k : Has a xs). has-each P xs k e.1) h

-- a packet of the net is among those of its connection
pub has-letter : (q k : ℕ) (net : List Packet) (p : Packet) → packet_at net k ≡ Some p → packet_conn p ≡ Some q → Has (letter_of p) (letters q net)
unfolding letters
has-letter q k net p at of = numbered (nat_eq k 0) at where
  go : (k : ℕ) (ps : List Packet) → slice_get ps k ≡ Some p → Has (letter_of p) (letters_in q ps)
  go k [] e = let no : None ≡ Some p = e in absurd cc
  go zero (x ∷ ps) e =
      let same : x ≡ p = cc in
      let o : packet_conn x ≡ Some q = ap packet_conn same ∙ of in
      subst (λ (l : List Letter). Has (letter_of p) (l ++ letters_in q ps)) (sym (one-mine q (packet_conn x) (letter_of x) o)) (inl (ap letter_of same))
  go (suc k) (x ∷ ps) e = has-behind (letter_of p) (one_of q (packet_conn x) (letter_of x)) (letters_in q ps) (go k ps e)

  numbered : (b : Bool) → cond b None (slice_get net (k - 1)) ≡ Some p → Has (letter_of p) (letters_in q net)
  numbered true e = let no : None ≡ Some p = e in absurd cc
  numbered false e = go (k - 1) net e
