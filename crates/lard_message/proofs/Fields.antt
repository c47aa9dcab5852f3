-- A field that is read is the field that was written, and what was written is read again.
use Rattle.std.proofs.Common.{◌≡◌, ℕ, zero, suc, ◌+◌, ◌^◌, ◌<◌, ◌≤◌, Bool, true, false, cond, ltb, ◌==◌, ◌&&◌, nat_le, List, [], ◌∷◌, ◌++◌, length, take, drop, flat_map, Option, Some, None, refl, sym, ap, subst, ◌∙◌, append_assoc, append-nil, arith, inl, inr}
use Rattle.std.specs.Int.{Width, w16, w32, byte_len, from_be_bytes, to_be_bytes}
use Rattle.std.specs.List.{AllByRecursion}
use Rattle.std.proofs.lemmas.Bool.{cases_lt, ltb-false, le-ltb, leb-true, le-leb, eqb-true, and_parts, and_from}
use Rattle.std.proofs.lemmas.List.{take_at, drop_at, take-append-drop, length-append, length-take, length-take-le, get_or-drop, get_or-take, get_or_past}
use Rattle.std.proofs.lemmas.Nat.{be_bytes_2, be_bytes_4, from_be_bytes-to_be_bytes_2, from_be_bytes-to_be_bytes_4}
use Rattle.lard_base.specs.declared.place.Reason.{Reason}
use Rattle.lard_base.specs.declared.place.Reason.TheVariants.{Closed, Peer, Limit}
use Rattle.lard_message.specs.Laws.{AreBytes}
use Rattle.lard_message.specs.Message.{IsNodeNumber, counted_bytes, flag_byte, reason_byte}
use Rattle.lard_message.specs.Reading.{◌>>=◌, byte_at, number_at, taken_at, flag_of, flag_at, reason_of, reason_at, node_of, counted_at, paths_at, nodes_of}

pub AreBytes-drop : (n : ℕ) (bytes : List ℕ) → AreBytes bytes → AreBytes (drop n bytes)
AreBytes-drop n bytes h i = rw get_or-drop (h (n + i))

pub AreBytes-take : (n : ℕ) (bytes : List ℕ) → AreBytes bytes → AreBytes (take n bytes)
AreBytes-take n bytes h i =
    elim (cases_lt i n) [
      | inl lt ↦ rw (get_or-take n bytes i 0 lt) (h i)
      | inr le ↦ rw (get_or_past (take n bytes) i 0 (omega (arith, length-take n bytes))) (omega arith)
    ]

AreBytes-rest : (b : ℕ) (bytes : List ℕ) → AreBytes (b ∷ bytes) → AreBytes bytes
AreBytes-rest b bytes h i = h (suc i)

-- the first of two readings found something, and the second went on from it
pub bind_some : {A B : Type 0} (o : Option A) (f : A → Option B) (y : B) → (o >>= f) ≡ Some y → (x : A) × (o ≡ Some x) × (f x ≡ Some y)
bind_some None f y e = let none : None ≡ Some y = e in cc
bind_some (Some x) f y e = (x, refl, e)

-- the same, for what follows from it
pub bind_then : {A B P : Type 0} (o : Option A) (f : A → Option B) (y : B) → (o >>= f) ≡ Some y → ((x : A) → o ≡ Some x → f x ≡ Some y → P) → P
bind_then None f y e go = let none : None ≡ Some y = e in absurd cc
bind_then (Some x) f y e go = go x refl e

-- and the other way round
pub bind_to : {A B : Type 0} (o : Option A) (f : A → Option B) (x : A) (y : Option B) → o ≡ Some x → f x ≡ y → (o >>= f) ≡ y
bind_to {A = A} o f x y e g = ap (λ (p : Option A). p >>= f) e ∙ g

pub some_same : {A : Type 0} (x y : A) → Some x ≡ Some y → x ≡ y
some_same x y e = cc

-- what a test lets through
pub cond_some : {A : Type 0} (t : Bool) (x y : A) → cond t (Some x) None ≡ Some y → (t ≡ true) × (x ≡ y)
cond_some true x y e = (refl, some_same x y e)
cond_some false x y e = let none : None ≡ Some y = e in cc

cond_none : {A : Type 0} (t : Bool) (x y : A) → cond t None (Some x) ≡ Some y → (t ≡ false) × (x ≡ y)
cond_none true x y e = let none : None ≡ Some y = e in cc
cond_none false x y e = (refl, some_same x y e)

-- what a reading took from the front
pub record Takes (bytes text rest : List ℕ) : Type 0 where
  pub parts : bytes ≡ text ++ rest
  pub rest_fits : AreBytes rest

-- ---- numbers

pub record IsWide (w : Width) (limit : ℕ) : Type 0 where
  pub len : (n : ℕ) → length (to_be_bytes w n) ≡ byte_len w
  pub back : (bytes : List ℕ) → length bytes ≡ byte_len w → AreBytes bytes → to_be_bytes w (from_be_bytes w bytes) ≡ bytes
  pub again : (n : ℕ) → n < limit → from_be_bytes w (to_be_bytes w n) ≡ n
  pub below : (bytes : List ℕ) → AreBytes bytes → from_be_bytes w bytes < limit

pub wide16 : IsWide w16 (2 ^ 16)
wide16 = record {
  len = λ n. refl;
  back = λ bytes len fits. be_bytes_2 bytes _ len fits refl;
  again = λ n lt. from_be_bytes-to_be_bytes_2 n lt;
  below = λ bytes fits. omega (arith, fits 0, fits 1);
}

pub wide32 : IsWide w32 (2 ^ 32)
wide32 = record {
  len = λ n. refl;
  back = λ bytes len fits. be_bytes_4 bytes _ len fits refl;
  again = λ n lt. from_be_bytes-to_be_bytes_4 n lt;
  below = λ bytes fits. omega (arith, fits 0, fits 1, fits 2, fits 3);
}

pub number_takes : (w : Width) (limit : ℕ) (wide : IsWide w limit) (bytes : List ℕ) (x : ℕ × List ℕ) → AreBytes bytes → number_at w bytes ≡ Some x → Takes bytes (to_be_bytes w x.0) x.1 × (x.0 < limit)
number_takes w limit wide bytes x fits e =
    let front : List ℕ = take (byte_len w) bytes in
    let g = cond_none (ltb (length bytes) (byte_len w)) (from_be_bytes w front, drop (byte_len w) bytes) x e in
    let long : byte_len w ≤ length bytes = ltb-false _ _ g.0 in
    let whole : to_be_bytes w (from_be_bytes w front) ≡ front = wide.back front (length-take-le (byte_len w) bytes long) (AreBytes-take (byte_len w) bytes fits) in
    let taken : Takes bytes (to_be_bytes w (from_be_bytes w front)) (drop (byte_len w) bytes) = record {
      parts = sym (take-append-drop (byte_len w) bytes) ∙ ap (λ (xs : List ℕ). xs ++ drop (byte_len w) bytes) (sym whole);
      rest_fits = AreBytes-drop (byte_len w) bytes fits;
    } in
    subst (λ (y : ℕ × List ℕ). Takes bytes (to_be_bytes w y.0) y.1 × (y.0 < limit)) g.1 (taken, wide.below front (AreBytes-take (byte_len w) bytes fits))

pub number_again : (w : Width) (limit : ℕ) (wide : IsWide w limit) (n : ℕ) (rest : List ℕ) → n < limit → number_at w (to_be_bytes w n ++ rest) ≡ Some (n, rest)
number_again w limit wide n rest lt =
    let len = wide.len n in
    let long : ltb (length (to_be_bytes w n ++ rest)) (byte_len w) ≡ false = le-ltb _ _ (omega (arith, length-append (to_be_bytes w n) rest)) in
    rw (long, take_at (to_be_bytes w n) rest (byte_len w) len, drop_at (to_be_bytes w n) rest (byte_len w) len, wide.again n lt) refl

-- ---- bytes

pub byte_takes : (bytes : List ℕ) (x : ℕ × List ℕ) → AreBytes bytes → byte_at bytes ≡ Some x → Takes bytes (x.0 ∷ []) x.1 × (x.0 < 256)
byte_takes [] x fits e = let none : None ≡ Some x = e in absurd cc
byte_takes (b ∷ rest) x fits e =
    subst (λ (y : ℕ × List ℕ). Takes (b ∷ rest) (y.0 ∷ []) y.1 × (y.0 < 256)) (some_same (b, rest) x e) (record { parts = refl; rest_fits = AreBytes-rest b rest fits }, fits 0)

pub taken_takes : (n : ℕ) (bytes : List ℕ) (x : List ℕ × List ℕ) → AreBytes bytes → taken_at n bytes ≡ Some x → Takes bytes x.0 x.1 × (length x.0 ≡ n)
taken_takes n bytes x fits e =
    let g = cond_none (ltb (length bytes) n) (take n bytes, drop n bytes) x e in
    subst (λ (y : List ℕ × List ℕ). Takes bytes y.0 y.1 × (length y.0 ≡ n)) g.1
    (record { parts = sym (take-append-drop n bytes); rest_fits = AreBytes-drop n bytes fits }, length-take-le n bytes (ltb-false _ _ g.0))

pub taken_again : (n : ℕ) (text rest : List ℕ) → length text ≡ n → taken_at n (text ++ rest) ≡ Some (text, rest)
taken_again n text rest len =
    let long : ltb (length (text ++ rest)) n ≡ false = le-ltb _ _ (omega (arith, length-append text rest)) in
    rw (long, take_at text rest n len, drop_at text rest n len) refl

pub counted_takes : (bytes : List ℕ) (x : List ℕ × List ℕ) → AreBytes bytes → counted_at bytes ≡ Some x → Takes bytes (counted_bytes x.0) x.1
unfolding counted_at
counted_takes bytes x fits e =
    let n = bind_some (number_at w16 bytes) _ x e in
    let first = number_takes w16 (2 ^ 16) wide16 bytes n.0 fits n.1 in
    let second = taken_takes n.0.0 n.0.1 x first.0.rest_fits n.2 in
    record {
      parts = first.0.parts ∙ ap (λ (xs : List ℕ). to_be_bytes w16 n.0.0 ++ xs) second.0.parts ∙ sym (append_assoc (to_be_bytes w16 n.0.0) x.0 x.1)
          ∙ ap (λ (k : ℕ). (to_be_bytes w16 k ++ x.0) ++ x.1) (sym second.1);
      rest_fits = second.0.rest_fits;
    }

pub counted_again : (text rest : List ℕ) → length text < 2 ^ 16 → counted_at (counted_bytes text ++ rest) ≡ Some (text, rest)
unfolding counted_at
counted_again text rest lt =
    bind_to _ _ _ _ (number_again w16 (2 ^ 16) wide16 (length text) (text ++ rest) lt) (taken_again (length text) text rest refl)

pub counted_alone : (text : List ℕ) → length text < 2 ^ 16 → counted_at (counted_bytes text) ≡ Some (text, [])
counted_alone text lt = ap counted_at (sym (append-nil (counted_bytes text))) ∙ counted_again text [] lt

-- ---- words of one byte

flag_is : (b : ℕ) (f : Bool) → flag_of b ≡ Some f → flag_byte f ≡ b
flag_is b f e = go (b == 0) (b == 1) refl refl e where
  go : (t u : Bool) → (b == 0) ≡ t → (b == 1) ≡ u → cond t (Some false) (cond u (Some true) None) ≡ Some f → flag_byte f ≡ b
  go true u p q h = ap flag_byte (sym (some_same false f h)) ∙ sym (eqb-true b 0 p)
  go false true p q h = ap flag_byte (sym (some_same true f h)) ∙ sym (eqb-true b 1 q)
  go false false p q h = let none : None ≡ Some f = h in absurd cc

pub flag_takes : (bytes : List ℕ) (x : Bool × List ℕ) → AreBytes bytes → flag_at bytes ≡ Some x → Takes bytes (flag_byte x.0 ∷ []) x.1
unfolding flag_at
flag_takes bytes x fits e =
    let b = bind_some (byte_at bytes) _ x e in
    let f = bind_some (flag_of b.0.0) _ x b.2 in
    let first = byte_takes bytes b.0 fits b.1 in
    subst (λ (y : Bool × List ℕ). Takes bytes (flag_byte y.0 ∷ []) y.1) (some_same (f.0, b.0.1) x f.2)
    (record { parts = first.0.parts ∙ ap (λ (k : ℕ). k ∷ b.0.1) (sym (flag_is b.0.0 f.0 f.1)); rest_fits = first.0.rest_fits })

pub flag_again : (f : Bool) (rest : List ℕ) → flag_at (flag_byte f ∷ rest) ≡ Some (f, rest)
unfolding flag_at
flag_again true rest = refl
flag_again false rest = refl

reason_is : (b : ℕ) (r : Reason) → reason_of b ≡ Some r → reason_byte r ≡ b
reason_is b r e = go (b == 0) (b == 1) (b == 2) refl refl refl e where
  go : (t u v : Bool) → (b == 0) ≡ t → (b == 1) ≡ u → (b == 2) ≡ v → cond t (Some Closed) (cond u (Some Peer) (cond v (Some Limit) None)) ≡ Some r → reason_byte r ≡ b
  go true u v p q s h = ap reason_byte (sym (some_same Closed r h)) ∙ sym (eqb-true b 0 p)
  go false true v p q s h = ap reason_byte (sym (some_same Peer r h)) ∙ sym (eqb-true b 1 q)
  go false false true p q s h = ap reason_byte (sym (some_same Limit r h)) ∙ sym (eqb-true b 2 s)
  go false false false p q s h = let none : None ≡ Some r = h in absurd cc

pub reason_takes : (bytes : List ℕ) (x : Reason × List ℕ) → AreBytes bytes → reason_at bytes ≡ Some x → Takes bytes (reason_byte x.0 ∷ []) x.1
unfolding reason_at
reason_takes bytes x fits e =
    let b = bind_some (byte_at bytes) _ x e in
    let r = bind_some (reason_of b.0.0) _ x b.2 in
    let first = byte_takes bytes b.0 fits b.1 in
    subst (λ (y : Reason × List ℕ). Takes bytes (reason_byte y.0 ∷ []) y.1) (some_same (r.0, b.0.1) x r.2)
    (record { parts = first.0.parts ∙ ap (λ (k : ℕ). k ∷ b.0.1) (sym (reason_is b.0.0 r.0 r.1)); rest_fits = first.0.rest_fits })

pub reason_again : (r : Reason) (rest : List ℕ) → reason_at (reason_byte r ∷ rest) ≡ Some (r, rest)
unfolding reason_at
reason_again Closed rest = refl
reason_again Peer rest = refl
reason_again Limit rest = refl

-- ---- lists

pub paths_take : (n : ℕ) (bytes : List ℕ) (x : List (List ℕ) × List ℕ) → AreBytes bytes → paths_at n bytes ≡ Some x → Takes bytes (flat_map counted_bytes x.0) x.1 × (length x.0 ≡ n)
unfolding paths_at
paths_take zero bytes x fits e =
    subst (λ (y : List (List ℕ) × List ℕ). Takes bytes (flat_map counted_bytes y.0) y.1 × (length y.0 ≡ 0)) (some_same ([], bytes) x e) (record { parts = refl; rest_fits = fits }, refl)
paths_take (suc n) bytes x fits e =
    let p = bind_some (counted_at bytes) _ x e in
    let ps = bind_some (paths_at n p.0.1) _ x p.2 in
    let first = counted_takes bytes p.0 fits p.1 in
    let others = paths_take n p.0.1 ps.0 first.rest_fits ps.1 in
    let both : bytes ≡ (counted_bytes p.0.0 ++ flat_map counted_bytes ps.0.0) ++ ps.0.1 =
    first.parts ∙ ap (λ (xs : List ℕ). counted_bytes p.0.0 ++ xs) others.0.parts ∙ sym (append_assoc (counted_bytes p.0.0) (flat_map counted_bytes ps.0.0) ps.0.1) in
    subst (λ (y : List (List ℕ) × List ℕ). Takes bytes (flat_map counted_bytes y.0) y.1 × (length y.0 ≡ suc n)) (some_same (p.0.0 ∷ ps.0.0, ps.0.1) x ps.2)
    (record { parts = both; rest_fits = others.0.rest_fits }, ap suc others.1)

pub paths_again : (ps : List (List ℕ)) (rest : List ℕ) → AllByRecursion (λ (p : List ℕ). length p < 2 ^ 16) ps → paths_at (length ps) (flat_map counted_bytes ps ++ rest) ≡ Some (ps, rest)
unfolding paths_at
paths_again [] rest h = refl
paths_again (p ∷ ps) rest h =
    let regrouped : (counted_bytes p ++ flat_map counted_bytes ps) ++ rest ≡ counted_bytes p ++ (flat_map counted_bytes ps ++ rest) = append_assoc (counted_bytes p) (flat_map counted_bytes ps) rest in
    ap (paths_at (suc (length ps))) regrouped ∙ bind_to _ _ _ _ (counted_again p (flat_map counted_bytes ps ++ rest) h.0) (bind_to _ _ _ _ (paths_again ps rest h.1) refl)

node_is : (b n : ℕ) → node_of b ≡ Some n → (b ≡ n) × IsNodeNumber n
node_is b n e =
    let g = cond_some (nat_le 1 b && nat_le b 64) b n e in
    let both = and_parts _ _ g.0 in
    (g.1, subst IsNodeNumber g.1 (leb-true _ _ both.0, leb-true _ _ both.1))

pub nodes_are : (bytes ns : List ℕ) → nodes_of bytes ≡ Some ns → (bytes ≡ ns) × AllByRecursion IsNodeNumber ns
unfolding nodes_of
nodes_are [] ns e = subst (λ (xs : List ℕ). ([] ≡ xs) × AllByRecursion IsNodeNumber xs) (some_same [] ns e) (refl, tt)
nodes_are (b ∷ bytes) ns e =
    let n = bind_some (node_of b) _ ns e in
    let others = bind_some (nodes_of bytes) _ ns n.2 in
    let first = node_is b n.0 n.1 in
    let rest = nodes_are bytes others.0 others.1 in
    subst (λ (xs : List ℕ). (b ∷ bytes ≡ xs) × AllByRecursion IsNodeNumber xs) (some_same (n.0 ∷ others.0) ns others.2) (cc (first.0, rest.0), (first.1, rest.1))

node_again : (n : ℕ) → IsNodeNumber n → node_of n ≡ Some n
node_again n h =
    let passes : (nat_le 1 n && nat_le n 64) ≡ true = and_from _ _ (le-leb _ _ h.0) (le-leb _ _ h.1) in
    rw passes refl

pub nodes_again : (ns : List ℕ) → AllByRecursion IsNodeNumber ns → nodes_of ns ≡ Some ns
unfolding nodes_of
nodes_again [] h = refl
nodes_again (n ∷ ns) h = bind_to _ _ _ _ (node_again n h.0) (bind_to _ _ _ _ (nodes_again ns h.1) refl)
