-- What a step sends, connection by connection: the letters of its move, each with a number behind those before.
use Rattle.std.proofs.Common.{◌≡◌, ◌<◌, ◌≤◌, ◌==◌, ℕ, zero, suc, ◌+◌, ◌-◌, false, cond, List, [], ◌∷◌, ◌++◌, length, Option, Some, None, inl, inr, refl, sym, ap, ◌∙◌, subst, arith, append-nil}
use Rattle.std.specs.Prelude.{◌⊎◌, slice_get}
use Rattle.std.proofs.lemmas.List.{append_cancel_left}
use Rattle.std.proofs.lemmas.Option.{slice_get_within}
use Rattle.lard_bound.specs.Progress.{Any, Every}
use Rattle.lard_law_view.specs.Prelude.{Conn, Has, Letter, Machine, Move, Packet, conn, grown, letter_of, letters, letters_in, letters_of, one_of, packet_at}
use Rattle.lard_history.proofs.Seeing.{by_number, has-letter, letters-append, one-mine, one-other, other_number, packet_conn}

-- ---- lists

module _ {A : Type 0} where
  pub every-has : (P : A → Type 0) (xs : List A) (a : A) → Every P xs → Has a xs → P a
  every-has P [] a e h = absurd h
  every-has P (x ∷ xs) a e (inl same) = subst P same e.0
  every-has P (x ∷ xs) a e (inr h) = every-has P xs a e.1 h

  pub any-has : (P : A → Type 0) (xs : List A) → Any P xs → (a : A) × Has a xs × P a
  any-has P [] h = absurd h
  any-has P (x ∷ xs) (inl h) = (x, inl refl, h)
  any-has P (x ∷ xs) (inr h) = let rest = any-has P xs h in (rest.0, inr rest.1, rest.2)

  -- one list goes on from another
  pub goes-on-from : (xs ys : List A) → ((i : ℕ) (x : A) → slice_get xs i ≡ Some x → slice_get ys i ≡ Some x) → (more : List A) × (ys ≡ xs ++ more)
  goes-on-from [] ys h = (ys, refl)
  goes-on-from (x ∷ xs) [] h = absurd (let bad : None ≡ Some x = h zero x refl in cc)
  goes-on-from (x ∷ xs) (y ∷ ys) h =
      let first : Some y ≡ Some x = h zero x refl in
      let same : y ≡ x = cc in
      let rest = goes-on-from xs ys (λ i z e. h (suc i) z e) in
      (rest.0, λ i. same i ∷ rest.1 i)

  pub get-behind : (xs ys : List A) (i j : ℕ) → j ≡ length xs + i → slice_get (xs ++ ys) j ≡ slice_get ys i
  get-behind [] ys i j e = let same : j ≡ i = omega (arith, e) in ap (slice_get ys) same
  get-behind (x ∷ xs) ys i zero e = absurd (omega (arith, e))
  get-behind (x ∷ xs) ys i (suc j) e = get-behind xs ys i j (omega (arith, e))

-- ---- packets by their numbers

pub at-index : (net : List Packet) (i : ℕ) → packet_at net (i + 1) ≡ slice_get net i
at-index net i =
    let some : (i + 1 == 0) ≡ false = other_number (i + 1) 0 (λ e. omega (arith, e)) in
    let less : (i + 1) - 1 ≡ i = omega arith in
    ap (λ b. cond b None (slice_get net ((i + 1) - 1))) some ∙ ap (slice_get net) less

pub within-net : (net : List Packet) (k : ℕ) (p : Packet) → packet_at net k ≡ Some p → (i : ℕ) × (k ≡ i + 1) × (slice_get net i ≡ Some p)
within-net net zero p e = absurd (let bad : None ≡ Some p = e in cc)
within-net net (suc i) p e =
    let is : suc i ≡ i + 1 = omega arith in (i, is, sym (at-index net i) ∙ ap (packet_at net) (sym is) ∙ e)

-- the packets of a connection among these, by their letters
pub letter-packet : (q : ℕ) (ps : List Packet) (a : Letter) → Has a (letters q ps) → (i : ℕ) × (p : Packet) × (slice_get ps i ≡ Some p) × (packet_conn p ≡ Some q) × (letter_of p ≡ a)
unfolding letters
letter-packet q [] a h = absurd h
letter-packet q (p ∷ ps) a h = go (λ g. letter-packet q ps a g) (packet_conn p) refl h where
  There : List Packet → Type 0
  There xs = (i : ℕ) × (x : Packet) × (slice_get xs i ≡ Some x) × (packet_conn x ≡ Some q) × (letter_of x ≡ a)

  later : (Has a (letters_in q ps) → There ps) → Has a (letters_in q ps) → There (p ∷ ps)
  later others g = let r = others g in (suc r.0, r.1, r.2, r.3, r.4)

  mine : (Has a (letters_in q ps) → There ps) → packet_conn p ≡ Some q → (letter_of p ≡ a) ⊎ Has a (letters_in q ps) → There (p ∷ ps)
  mine others of (inl same) = (zero, p, refl, of, same)
  mine others of (inr g) = later others g

  go : (Has a (letters_in q ps) → There ps) → (o : Option ℕ) → packet_conn p ≡ o → Has a (one_of q (packet_conn p) (letter_of p) ++ letters_in q ps) → There (p ∷ ps)
  go others None e g = later others (subst (λ o. Has a (one_of q o (letter_of p) ++ letters_in q ps)) e g)
  go others (Some c) e g = by_number (There (p ∷ ps)) c q
      (λ same. let of : packet_conn p ≡ Some q = e ∙ ap (λ d. Some d) same in
      mine others of (subst (λ (ls : List Letter). Has a (ls ++ letters_in q ps)) (one-mine q (packet_conn p) (letter_of p) of) g))
      (λ other. later others (subst (λ (ls : List Letter). Has a (ls ++ letters_in q ps)) (one-other c q (packet_conn p) (letter_of p) (λ s. other (sym s)) e) g))

-- ---- a step

module _ (m n : Machine) (packets : (k : ℕ) (p : Packet) → packet_at m.net k ≡ Some p → packet_at n.net k ≡ Some p) where
  pub grows : (more : List Packet) × (n.net ≡ m.net ++ more)
  grows = goes-on-from m.net n.net (λ i x e. sym (at-index n.net i) ∙ packets (i + 1) x (at-index m.net i ∙ e))

  abbrev pub more : List Packet
  more = grows.0

  letters-more : (q : ℕ) → letters q n.net ≡ letters q m.net ++ letters q more
  letters-more q = ap (letters q) grows.1 ∙ letters-append q m.net more

  -- all new letters of a connection are those of its move, and of one that stays there are none
  pub new-none : (q : ℕ) → conn n q ≡ conn m q → letters q more ≡ []
  unfolding conn
  new-none q stays =
      let same : letters q n.net ≡ letters q m.net = ap (λ (x : Conn). x.letters) stays in
      append_cancel_left (letters q m.net) (letters q more) [] (sym (letters-more q) ∙ same ∙ sym (append-nil (letters q m.net)))

  pub new-letters : (q : ℕ) (v : Move) → conn n q ≡ grown (conn m q) v → letters q more ≡ letters_of v
  unfolding conn
  new-letters q v moves =
      let same : letters q n.net ≡ letters q m.net ++ letters_of v = ap (λ (x : Conn). x.letters) moves in
      append_cancel_left (letters q m.net) (letters q more) (letters_of v) (sym (letters-more q) ∙ same)

  -- a new packet is among them
  pub new-has : (k : ℕ) (p : Packet) (q : ℕ) → length m.net < k → packet_at n.net k ≡ Some p → packet_conn p ≡ Some q → Has (letter_of p) (letters q more)
  new-has k p q late at of =
      let w = within-net n.net k p at in
      let is : k ≡ w.0 + 1 = w.1 in
      let i : ℕ = w.0 - length m.net in
      let index : w.0 ≡ length m.net + i = omega (arith, late, is) in
      let got : slice_get more i ≡ Some p = sym (get-behind m.net more i w.0 index) ∙ ap (λ (ps : List Packet). slice_get ps w.0) (sym grows.1) ∙ w.2 in
      has-letter q (i + 1) more p (at-index more i ∙ got) of

  -- and each of them is a new packet
  pub has-new : (q : ℕ) (a : Letter) → Has a (letters q more) → (k : ℕ) × (p : Packet) × (length m.net < k) × (k ≤ length n.net) × (packet_at n.net k ≡ Some p) × (packet_conn p ≡ Some q) × (letter_of p ≡ a)
  has-new q a h =
      let r = letter-packet q more a h in
      let j : ℕ = length m.net + r.0 in
      let got : slice_get n.net j ≡ Some r.1 = ap (λ (ps : List Packet). slice_get ps j) grows.1 ∙ get-behind m.net more r.0 j refl ∙ r.2 in
      let low : j < length n.net = slice_get_within n.net j r.1 got in
      (j + 1, r.1, omega arith, omega (arith, low), at-index n.net j ∙ got, r.3, r.4)
