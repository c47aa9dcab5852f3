-- An event's own records stand first in its step: what a rule notes are the last of them, or they are no one's own.
use Rattle.std.proofs.Common.{◌≡◌, ◌⊎◌, ℕ, List, [], ◌∷◌, ◌++◌, take, drop, Bool, true, false, cond, nat_lt, not, ◌&&◌, Ok, Err, Result, refl, sym, ap, append-nil, inl, inr}
use Rattle.std.proofs.lemmas.Bool.{cond_both}
use Rattle.std.specs.List.{list_all}
use Rattle.lard_law_view.specs.Prelude.{AreOwn, ClientBlock, Event, Rec, Said, SegFault, Turn, client_arrived, client_gets, client_writes, client_written, is_own, is_writing, silent, speaking}
use Rattle.lard_journal.specs.declared.rec.Rec.TheVariants as rec

-- ---- records that are not an event's own

abbrev pub AreOthers : List Rec → Type 0
AreOthers rs = list_all (λ r. not (is_own r)) rs ≡ true

pub others_append : (xs ys : List Rec) → AreOthers xs → AreOthers ys → AreOthers (xs ++ ys)
others_append [] ys e f = f
others_append (x ∷ xs) ys e f = go (not (is_own x)) (λ h. others_append xs ys h f) e where
  go : (b : Bool) → (AreOthers xs → AreOthers (xs ++ ys)) → (b && list_all (λ r. not (is_own r)) xs) ≡ true → (b && list_all (λ r. not (is_own r)) (xs ++ ys)) ≡ true
  go true again h = again h
  go false again h = h

heard-others : (b d : Bool) (c : ℕ) (bytes : List ℕ) → AreOthers (cond b (rec.Accepted c bytes ∷ []) [] ++ cond d (rec.Eof c ∷ []) [])
heard-others false false c bytes = refl
heard-others false true c bytes = refl
heard-others true false c bytes = refl
heard-others true true c bytes = refl

-- nor does a client to which a packet comes
pub gets-others : (x : ClientBlock) (r : Result Said SegFault) → AreOthers (client_gets x r).1.notes
gets-others x (Err fault) = refl
gets-others x (Ok s) = let r = client_arrived x s in heard-others (nat_lt 0 r.0.len) r.0.eof r.1.c (take r.0.len (drop r.0.from s.payload))

-- ---- what stands first

-- the event's own records come first, in a part of what is noted
abbrev pub HasOwn : Event → List Rec → Type 0
HasOwn e noted = (own : List Rec) × (rest : List Rec) × (noted ≡ own ++ rest) × AreOwn e own × AreOthers rest

-- they are all of it
pub own-alone : (e : Event) (rs : List Rec) → AreOwn e rs → HasOwn e rs
own-alone e rs are = (rs, [], sym (append-nil rs), are, refl)

-- a client writes these bytes or none
pub writes-own : (x : ClientBlock) (c : ℕ) (bytes : List ℕ) → x.c ≡ c → (((client_writes x bytes).1.notes ≡ rec.Wrote c bytes ∷ []) ⊎ ((client_writes x bytes).1.notes ≡ []))
writes-own x c bytes is = cond_both {A = ClientBlock × Turn} (is_writing x) (speaking (rec.Wrote x.c bytes ∷ []) [] (client_written x bytes)) (x, silent)
    (λ r. (r.1.notes ≡ rec.Wrote c bytes ∷ []) ⊎ (r.1.notes ≡ []))
    (λ t. inl (ap (λ d. rec.Wrote d bytes ∷ []) is))
    (λ t. inr refl)
