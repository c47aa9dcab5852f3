-- What the events of a generated schedule leave before its settle: no client aborted, and only clients 1 to n wrote.
use Rattle.std.proofs.Common.{◌≡◌, ◌≢◌, ◌⊎◌, inl, inr, ℕ, zero, suc, ◌+◌, Bool, true, false, cond, nat_eq, List, [], ◌∷◌, ◌++◌, All, map, Option, Some, None, IsSome, refl, sym, ap, ◌∙◌, subst, ⊎_elim, arith}
use Rattle.std.proofs.lemmas.List.Elements.{All-append, All-cons, All-head, All-nil, All-tail}
use Rattle.std.specs.List.{fold}
use Rattle.rand_pcg.specs.Lcg.{Lcg}
use Rattle.lard_law_view.specs.Prelude.{Event, Follows, Has, Numbers, Rec, aborted_step, has_aborted, is_own, numbers_of, numbers_step, wrote, wrote_step}
use Rattle.lard_base.specs.declared.event.Event.TheVariants as event
use Rattle.lard_bound.specs.Bound.{opener_step, openers}
use Rattle.lard_generate.specs.declared.action.Action.{Action}
use Rattle.lard_generate.specs.declared.action.Action.TheVariants.{Ask, Shut}
use Rattle.lard_generate.specs.Clients.{drawn_actions, drawn_ask, action_event, request_head, shut_at}
use Rattle.lard_generate.specs.Draws.{behind, draw, each}
use Rattle.lard_generate.proofs.Making.{All-each}
use Rattle.lard_generate_bound.specs.Laws.{before_settle}
use Rattle.lard_generate_bound.specs.Shares.{actor, numbers_to}
use Rattle.lard_generate_bound.proofs.Leaving.{IsPlain, fates-are, opens-are, unwritten, wrote-still}
use Rattle.lard_generate_bound.proofs.Walking.{Leaves, all-leave}
use Rattle.lard_history.proofs.Seeing.{by_number, has-before, has-behind, other_number, same_number}
use Rattle.lard_journal.specs.declared.rec.Rec.TheVariants as rec
use Rattle.lard_generate_answers.proofs.Sums.{IsTo}

-- ---- who opened

-- it is one of two lists
has-either : (c : ℕ) (xs ys : List ℕ) → Has c (xs ++ ys) → Has c xs ⊎ Has c ys
has-either c [] ys h = inr h
has-either c (x ∷ xs) ys (inl same) = inl (inl same)
has-either c (x ∷ xs) ys (inr later) = ⊎_elim (λ (h : Has c xs). inl (inr h)) (λ (h : Has c ys). inr h) (has-either c xs ys later)

-- who is among the openers has first numbers
open-numbers : (c : ℕ) (J : List Rec) (os : List ℕ) (k : Option Numbers) → (Has c os → IsSome k) → Has c (fold opener_step os J) → IsSome (fold (numbers_step c) k J)
open-numbers c [] os k known h = known h
open-numbers c (rec.Opened d isn iss wnd mss ∷ J) os k known h =
    open-numbers c J (os ++ d ∷ []) (numbers_step c k (rec.Opened d isn iss wnd mss)) (λ has. by_number (IsSome (numbers_step c k (rec.Opened d isn iss wnd mss))) d c mine (other (has-either c os (d ∷ []) has))) h where
      mine : d ≡ c → IsSome (numbers_step c k (rec.Opened d isn iss wnd mss))
      mine same = subst (λ b. IsSome (cond b (Some (record { isn = isn; iss = iss })) k)) (sym (ap (λ i. nat_eq i c) same ∙ same_number c)) refl

      other : Has c os ⊎ Has c (d ∷ []) → d ≢ c → IsSome (numbers_step c k (rec.Opened d isn iss wnd mss))
      other (inl before) apart = subst (λ b. IsSome (cond b (Some (record { isn = isn; iss = iss })) k)) (sym (other_number d c apart)) (known before)
      other (inr (inl same)) apart = absurd (apart same)
      other (inr (inr none)) apart = absurd none
open-numbers c (r ∷ J) os k known h = open-numbers c J os k known h

-- each from 1 to n is among the numbers up to n
pub numbers-have : (c n : ℕ) → IsTo n c → Has c (numbers_to n)
numbers-have c zero to = absurd (omega (arith, to.0, to.1))
numbers-have c (suc n) to = by_number (Has c (numbers_to n ++ (n + 1) ∷ [])) (n + 1) c
    (λ same. has-behind c (numbers_to n) ((n + 1) ∷ []) (inl same))
    (earlier (numbers-have c n)) where
      earlier : (IsTo n c → Has c (numbers_to n)) → n + 1 ≢ c → Has c (numbers_to n ++ (n + 1) ∷ [])
      earlier more apart = has-before c (numbers_to n) ((n + 1) ∷ []) (more (to.0, omega (arith, to.1, apart)))

-- where those who opened are 1 to n, each of them has
pub opened : (n c : ℕ) (J : List Rec) → openers J ≡ numbers_to n → IsTo n c → IsSome (numbers_of J c)
opened n c J are to = open-numbers c J [] None (λ no. absurd no) (subst (Has c) (sym are) (numbers-have c n to))

-- ---- the clients of actions

-- one client's actions are its own
asks-of : (c n : ℕ) (g : Lcg) → All (λ a. actor a ≡ c) (each (drawn_ask c) n g).0
asks-of c n g = All-each (λ a. actor a ≡ c) (drawn_ask c) n g (λ k h low high. All-cons (λ a. actor a ≡ c) (Ask c (draw 256 h)) [] refl (All-nil (λ a. actor a ≡ c)))

shut-of : (c n : ℕ) → All (λ a. actor a ≡ c) (shut_at c n)
shut-of c n = go (nat_eq n 0) where
  go : (b : Bool) → All (λ a. actor a ≡ c) (cond b [] (Shut c ∷ []))
  go true = All-nil (λ a. actor a ≡ c)
  go false = All-cons (λ a. actor a ≡ c) (Shut c) [] refl (All-nil (λ a. actor a ≡ c))

actions-of : (c : ℕ) (g : Lcg) → All (λ a. actor a ≡ c) (drawn_actions c g).0
actions-of c g =
    let asks = each (drawn_ask c) (1 + draw 10 g) (behind g) in
    All-append (λ a. actor a ≡ c) asks.0 (shut_at c (draw 4 asks.1)) (asks-of c (1 + draw 10 g) (behind g)) (shut-of c (draw 4 asks.1))

all-weaker : (P Q : Action → Type 0) → ((a : Action) → P a → Q a) → (actions : List Action) → All P actions → All Q actions
all-weaker P Q weaker [] all = All-nil Q
all-weaker P Q weaker (a ∷ actions) all = All-cons Q a actions (weaker a (All-head P a actions all)) (all-weaker P Q weaker actions (All-tail P a actions all))

-- all are of clients 1 to n
actors-to : (n : ℕ) (g : Lcg) → All (λ a. IsTo n (actor a)) (each drawn_actions n g).0
actors-to n g = All-each (λ a. IsTo n (actor a)) drawn_actions n g
    (λ k h low high. all-weaker (λ a. actor a ≡ k) (λ a. IsTo n (actor a)) (λ a is. subst (IsTo n) (sym is) (low, high)) (drawn_actions k h).0 (actions-of k h))

events-are : (P : Event → Type 0) (n : ℕ) → ((c file : ℕ) → IsTo n c → P (event.Write c (request_head file))) → ((c : ℕ) → IsTo n c → P (event.Shut c)) → (actions : List Action) → All (λ a. IsTo n (actor a)) actions
    → All P (map action_event actions)
events-are P n write shut [] all = All-nil P
events-are P n write shut (Ask c file ∷ actions) all =
    All-cons P (event.Write c (request_head file)) (map action_event actions) (write c file (All-head (λ a. IsTo n (actor a)) (Ask c file) actions all)) (events-are P n write shut actions (All-tail (λ a. IsTo n (actor a)) (Ask c file) actions all))
events-are P n write shut (Shut c ∷ actions) all =
    All-cons P (event.Shut c) (map action_event actions) (shut c (All-head (λ a. IsTo n (actor a)) (Shut c) actions all)) (events-are P n write shut actions (All-tail (λ a. IsTo n (actor a)) (Shut c) actions all))

-- ---- what they leave

aborted-still : (c : ℕ) (was : Bool) (r : Rec) → is_own r ≡ false → aborted_step c was r ≡ was
aborted-still c was (rec.Aborted d) h = cc
aborted-still c was _ h = refl

-- none aborts
unaborted : (c : ℕ) (e : Event) → IsPlain e → Leaves (aborted_step c) e
unaborted c (event.Open d isn iss wnd mss) plain i own a is = ap (λ (l : List Rec). fold (aborted_step c) a l) is
unaborted c (event.Write d bytes) plain i own a is = ⊎_elim (λ (one : own ≡ rec.Wrote d bytes ∷ []). ap (λ (l : List Rec). fold (aborted_step c) a l) one) (λ (none : own ≡ []). ap (λ (l : List Rec). fold (aborted_step c) a l) none) is
unaborted c (event.Shut d) plain i own a is = ap (λ (l : List Rec). fold (aborted_step c) a l) is
unaborted c (event.Deliver k) plain i own a is = ap (λ (l : List Rec). fold (aborted_step c) a l) is
unaborted c (event.Lose k) plain i own a is = ap (λ (l : List Rec). fold (aborted_step c) a l) is
unaborted c _ plain i own a is = absurd plain

all-unaborted : (c : ℕ) (es : List Event) → All IsPlain es → All (Leaves (aborted_step c)) es
all-unaborted c [] plain = All-nil (Leaves (aborted_step c))
all-unaborted c (e ∷ es) plain = All-cons (Leaves (aborted_step c)) e es (unaborted c e (All-head IsPlain e es plain)) (all-unaborted c es (All-tail IsPlain e es plain))

-- so no client aborted
pub not-aborted : (c : ℕ) (es : List Event) (J : List Rec) → All IsPlain es → Follows 1 es J → has_aborted J c ≡ false
not-aborted c es J plain w = all-leave (aborted_step c) (aborted-still c) es 1 J false (all-unaborted c es plain) w

-- a request of another client
writes-other : (c d : ℕ) (bytes : List ℕ) → d ≢ c → Leaves (wrote_step c) (event.Write d bytes)
writes-other c d bytes apart i own a is = ⊎_elim
    (λ (one : own ≡ rec.Wrote d bytes ∷ []). ap (λ (l : List Rec). fold (wrote_step c) a l) one ∙ ap (λ b. cond b (a ++ bytes) a) (other_number d c apart))
    (λ (none : own ≡ []). ap (λ (l : List Rec). fold (wrote_step c) a l) none)
    is

-- One that is not among 1 to n wrote nothing.
pub not-written : (seed n c : ℕ) (J : List Rec) → (IsTo n c → ⊥) → Follows 1 (before_settle seed n) J → wrote J c ≡ []
not-written seed n c J none w = all-leave (wrote_step c) (wrote-still c) (before_settle seed n) 1 J []
    (All-append (Leaves (wrote_step c)) _ _
    (All-append (Leaves (wrote_step c)) _ _
    (opens-are (Leaves (wrote_step c)) (λ d isn iss. unwritten c (event.Open d isn iss 65535 1460) tt) n _)
    (events-are (Leaves (wrote_step c)) n (λ d file to. writes-other c d (request_head file) (λ same. none (subst (IsTo n) same to))) (λ d to. unwritten c (event.Shut d) tt) _ (actors-to n _)))
    (fates-are (Leaves (wrote_step c)) (λ k. unwritten c (event.Lose k) tt) (λ k. unwritten c (event.Deliver k) tt) n _)) w
