-- What a place does in its turn is in range, and lists of what is held.
use Rattle.std.proofs.Common.{◌≡◌, ℕ, suc, ◌+◌, ◌≤◌, ◌^◌, List, [], ◌∷◌, ◌++◌, length, map, take, drop, Bool, true, false, not, refl, ap, arith, length-append}
use Rattle.std.proofs.lemmas.Bool.{cond_both}
use Rattle.std.proofs.lemmas.List.{take-append-drop}
use Rattle.lard_law_view.specs.Prelude.{IsNumber, IsPlaceInRange, IsRecordInRange, Kept, Place, Rec, TimerKind, anew, is_under, kept_place_of, kind_change, sent_of, without}
use Rattle.lard_laws.proofs.RecordsLetters.{IsLetter}
use Rattle.lard_history.proofs.Each.{Each, Each-append}
use Rattle.lard_law_view.proofs.ByteLists.{each-drop, each-take}

-- ---- a turn

-- What is noted, sent and given up is in range, and few segments and messages are sent.
pub record IsTurn (from : Place) (ns : List Rec) (ss : List (Place × List ℕ)) (gs : List Rec) (ms : List (Place × List ℕ)) : Type 0 where
  pub notes : Each IsRecordInRange ns
  pub segments : Each (IsLetter from) ss
  pub few : length ss ≤ 2 ^ 31
  pub gave : Each IsRecordInRange gs
  pub messages : Each (IsLetter from) ms
  pub few_messages : length ms ≤ 2 ^ 30

-- messages alone
pub sends : (from : Place) (messages : List (Place × List ℕ)) → Each (IsLetter from) messages → length messages ≤ 2 ^ 30 → IsTurn from [] [] [] messages
sends from messages h few = record { notes = tt; segments = tt; few = omega arith; gave = tt; messages = h; few_messages = few }

-- the record of a timer that changed
pub change-range : (p : Place) (c : ℕ) (kind : TimerKind) (was is : Bool) → IsPlaceInRange p → IsNumber c → Each IsRecordInRange (kind_change p c kind was is)
change-range p c kind false false h n = tt
change-range p c kind false true h n = ((h, n), tt)
change-range p c kind true false h n = ((h, n), tt)
change-range p c kind true true h n = tt

-- ---- what is held until it is answered

abbrev pub AreHeld : Place → List Kept → Type 0
AreHeld from ks = Each (λ k. IsLetter from (sent_of k)) ks

-- it is sent again
pub held-sent : (from : Place) (ks : List Kept) → AreHeld from ks → Each (IsLetter from) (map sent_of ks)
held-sent from [] h = tt
held-sent from (k ∷ ks) h = (h.0, held-sent from ks h.1)

pub length-held : (ks : List Kept) → length (map sent_of ks) ≡ length ks
length-held [] = refl
length-held (k ∷ ks) = ap suc (length-held ks)

module _ (kind : TimerKind) (r : ℕ) where
  -- less of it
  pub held-less : (from : Place) (ks : List Kept) → AreHeld from ks → AreHeld from (without kind r ks)
  held-less from [] h = tt
  held-less from (k ∷ ks) h = cond_both (not (is_under kind r k)) (k ∷ without kind r ks) (without kind r ks) (AreHeld from) (λ t. (h.0, held-less from ks h.1)) (λ t. held-less from ks h.1)

  pub length-less : (ks : List Kept) → length (without kind r ks) ≤ length ks
  length-less [] = omega arith
  length-less (k ∷ ks) =
      let rest = length-less ks in
      cond_both (not (is_under kind r k)) (k ∷ without kind r ks) (without kind r ks) (λ (xs : List Kept). length xs ≤ suc (length ks)) (λ t. omega (arith, rest)) (λ t. omega (arith, rest))

-- and one more
pub held-more : (from : Place) (k : Kept) (ks : List Kept) → IsLetter from (sent_of k) → AreHeld from ks → AreHeld from (anew k ks)
held-more from k ks one h =
    let P : Kept → Type 0 = λ k. IsLetter from (sent_of k) in
    let less : List Kept = without k.kind k.r ks in
    let all : AreHeld from less = held-less k.kind k.r from ks h in
    let i : ℕ = kept_place_of k.kind k.r less in
    Each-append P (take i less) (k ∷ drop i less) (each-take P i less all) (one, each-drop P i less all)

pub length-more : (k : Kept) (ks : List Kept) → length (anew k ks) ≤ length ks + 1
length-more k ks =
    let less : List Kept = without k.kind k.r ks in
    let i : ℕ = kept_place_of k.kind k.r less in
    let fewer = length-less k.kind k.r ks in
    let parts : length (take i less ++ drop i less) ≡ length less = ap (λ (xs : List Kept). length xs) (take-append-drop i less) in
    let whole = length-append (take i less) (drop i less) in
    let put = length-append (take i less) (k ∷ drop i less) in
    omega (arith, fewer, parts, whole, put)
