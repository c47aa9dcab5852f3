-- What the records of a turn add to the tale of their connection.
use Rattle.std.proofs.Common.{◌≡◌, ℕ, ◌+◌, List, [], ◌∷◌, ◌++◌, Bool, true, false, cond, ◌||◌, refl, sym, ap, ◌∙◌, append_assoc, append-nil, arith, nat_eq}
use Rattle.std.proofs.lemmas.Bool.{eq-eqb}
use Rattle.lard_law_view.specs.Prelude.{AreClientNotes, Rec, Tale, accepted_in, tale_step, told_on, written_in}
use Rattle.lard_journal.specs.declared.rec.Rec.TheVariants as rec

-- Of what is told of a connection, what bytes rest on goes on so.
pub record Adds (t : Tale) (written accepted_ : List ℕ) (more size : ℕ) (reset : Bool) (u : Tale) : Type 0 where
  pub numbers : u.numbers ≡ t.numbers
  pub wrote : u.wrote ≡ t.wrote ++ written
  pub accepted : u.accepted ≡ t.accepted ++ accepted_
  pub served : u.served ≡ t.served + more
  pub served_bytes : u.served_bytes ≡ t.served_bytes + size
  pub was_reset : u.was_reset ≡ (t.was_reset || reset)
  pub fin_sent : u.fin_sent ≡ t.fin_sent

-- what nothing is added to stays
pub or-false : (b : Bool) → b ≡ (b || false)
or-false true = refl
or-false false = refl

plus-none : (n : ℕ) → n ≡ n + 0
plus-none n = omega arith

-- nothing of that is told
pub adds-none : (t u : Tale) → u.numbers ≡ t.numbers → u.wrote ≡ t.wrote → u.accepted ≡ t.accepted → u.served ≡ t.served → u.served_bytes ≡ t.served_bytes
    → u.was_reset ≡ t.was_reset → u.fin_sent ≡ t.fin_sent → Adds t [] [] 0 0 false u
adds-none t u n w a s b r f = record {
  numbers = n;
  wrote = w ∙ sym (append-nil t.wrote);
  accepted = a ∙ sym (append-nil t.accepted);
  served = s ∙ plus-none t.served;
  served_bytes = b ∙ plus-none t.served_bytes;
  was_reset = r ∙ or-false t.was_reset;
  fin_sent = f;
}

pub adds-both : (t u v : Tale) (w1 a1 w2 a2 : List ℕ) (n1 n2 n s1 s2 s : ℕ) (r1 r2 : Bool) → n ≡ n1 + n2 → s ≡ s1 + s2 → Adds t w1 a1 n1 s1 r1 u → Adds u w2 a2 n2 s2 r2 v
    → Adds t (w1 ++ w2) (a1 ++ a2) n s (r1 || r2) v
adds-both t u v w1 a1 w2 a2 n1 n2 n s1 s2 s r1 r2 sum sizes x y = record {
  numbers = y.numbers ∙ x.numbers;
  wrote = y.wrote ∙ ap (λ (l : List ℕ). l ++ w2) x.wrote ∙ append_assoc t.wrote w1 w2;
  accepted = y.accepted ∙ ap (λ (l : List ℕ). l ++ a2) x.accepted ∙ append_assoc t.accepted a1 a2;
  served = add-up t.served u.served v.served n1 n2 n sum x.served y.served;
  served_bytes = add-up t.served_bytes u.served_bytes v.served_bytes s1 s2 s sizes x.served_bytes y.served_bytes;
  was_reset = y.was_reset ∙ ap (λ b. b || r2) x.was_reset ∙ or-assoc t.was_reset r1 r2;
  fin_sent = y.fin_sent ∙ x.fin_sent;
} where
  or-assoc : (a b c : Bool) → ((a || b) || c) ≡ (a || (b || c))
  or-assoc true b c = refl
  or-assoc false b c = refl

  add-up : (t u v n1 n2 n : ℕ) → n ≡ n1 + n2 → u ≡ t + n1 → v ≡ u + n2 → v ≡ t + n
  add-up t u v n1 n2 n sum x y = omega (arith, sum, x, y)

pub same-number : (d c : ℕ) → d ≡ c → nat_eq d c ≡ true
same-number d c e = eq-eqb d c e

-- ---- a client's notes

pub client-notes : (c : ℕ) (t : Tale) (rs : List Rec) → AreClientNotes c rs → Adds t (written_in rs) (accepted_in rs) 0 0 false (told_on c t rs)
client-notes c t [] notes = adds-none t t refl refl refl refl refl refl refl
client-notes c t (rec.Wrote d bytes ∷ rs) notes =
    adds-both t (tale_step c t (rec.Wrote d bytes)) (told_on c (tale_step c t (rec.Wrote d bytes)) rs) bytes [] (written_in rs) (accepted_in rs) 0 0 0 0 0 0 false false refl refl
    (record {
      numbers = refl;
      wrote = ap (λ (b : Bool). cond b (t.wrote ++ bytes) t.wrote) (same-number d c notes.0);
      accepted = sym (append-nil t.accepted);
      served = plus-none t.served;
      served_bytes = plus-none t.served_bytes;
      was_reset = or-false t.was_reset;
      fin_sent = refl;
    })
    (client-notes c (tale_step c t (rec.Wrote d bytes)) rs notes.1)
client-notes c t (rec.Accepted d bytes ∷ rs) notes =
    adds-both t (tale_step c t (rec.Accepted d bytes)) (told_on c (tale_step c t (rec.Accepted d bytes)) rs) [] bytes (written_in rs) (accepted_in rs) 0 0 0 0 0 0 false false refl refl
    (record {
      numbers = refl;
      wrote = sym (append-nil t.wrote);
      accepted = ap (λ (b : Bool). cond b (t.accepted ++ bytes) t.accepted) (same-number d c notes.0);
      served = plus-none t.served;
      served_bytes = plus-none t.served_bytes;
      was_reset = or-false t.was_reset;
      fin_sent = refl;
    })
    (client-notes c (tale_step c t (rec.Accepted d bytes)) rs notes.1)
client-notes c t (rec.Eof d ∷ rs) notes =
    adds-both t (tale_step c t (rec.Eof d)) (told_on c (tale_step c t (rec.Eof d)) rs) [] [] (written_in rs) (accepted_in rs) 0 0 0 0 0 0 false false refl refl
    (adds-none t (tale_step c t (rec.Eof d)) refl refl refl refl refl refl refl) (client-notes c (tale_step c t (rec.Eof d)) rs notes.1)
client-notes c t (rec.Aborted d ∷ rs) notes =
    adds-both t (tale_step c t (rec.Aborted d)) (told_on c (tale_step c t (rec.Aborted d)) rs) [] [] (written_in rs) (accepted_in rs) 0 0 0 0 0 0 false false refl refl
    (adds-none t (tale_step c t (rec.Aborted d)) refl refl refl refl refl refl refl) (client-notes c (tale_step c t (rec.Aborted d)) rs notes.1)
client-notes c t (_ ∷ rs) notes = absurd notes.0
