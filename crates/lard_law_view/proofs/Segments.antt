-- What the records and packets of the segments that go out say of their connection.
use Rattle.std.proofs.Common.{◌≡◌, ℕ, ◌+◌, ◌≤◌, List, length, take, Bool, true, false, ◌&&◌, ◌||◌, Some, ◌⊎◌, refl, sym, ap, ◌∙◌, subst, inl, inr, ⊎_elim, nat_eq}
use Rattle.std.proofs.lemmas.Bool.{both_ways}
use Rattle.std.specs.List.{concat}
use Rattle.lard_law_view.specs.Prelude.{Client, FilesAt, Front, IsBare, IsPartAt, IsReply, IsTold, IsTrueOf, Rec, Said, SaysAnswers, Stands, Stream, Tale, ToClient, Verdict, answers, decoded, said_fin, said_to, spelled, tale, tale_step, wrote}
use Rattle.lard_history.proofs.Tales.{numbers-tale, reset-tale, served-tale, wrote-tale}
use Rattle.lard_journal.specs.declared.rec.Rec.TheVariants as rec
use Rattle.lard_segment.proofs.Again.{again}
use Rattle.lard_law_view.proofs.Prefix.{said-bytes}

-- ---- what they tell of their connection

-- a moment of the turn at which they stand
pub record Moment (w out : Stream) (vs : List Verdict) (reset : Bool) (t : Tale) : Type 0 where
  pub numbers : t.numbers ≡ Some (record { isn = w.first; iss = out.first })
  pub wrote : t.wrote ≡ w.bytes
  pub served : t.served ≡ length vs
  pub served_bytes : t.served_bytes ≡ length out.bytes
  pub was_reset : t.was_reset ≡ reset
  pub fin : t.fin_sent ≡ true → out.ended ≡ true

-- a FIN is one of a stream that ended
pub fin-ended : (out : Stream) (s : Said) → IsTrueOf out s → s.flags.fin ≡ true → out.ended ≡ true
fin-ended out s true_ fin = ⊎_elim (λ (b : IsBare s). absurd (both_ways s.flags.fin b.1 fin)) (λ (p : Stands out s). (p.final fin).1) true_.carries

or-either : (a b : Bool) → (a || b) ≡ true → (a ≡ true) ⊎ (b ≡ true)
or-either true b e = inl refl
or-either false b e = inr e

and-right : (a b : Bool) → (a && b) ≡ true → b ≡ true
and-right true b e = e
and-right false b e = absurd (both_ways false refl e)

-- the moment after a segment
pub moment-on : (c : ℕ) (w out : Stream) (vs : List Verdict) (reset : Bool) (t : Tale) (s : Said) (bytes : List ℕ) → bytes ≡ spelled c ToClient s → IsReply w out reset s
    → Moment w out vs reset t → Moment w out vs reset (tale_step c t (rec.Sent 0 Front (Client c) bytes))
moment-on c w out vs reset t s bytes is r m = record {
  numbers = m.numbers;
  wrote = m.wrote;
  served = m.served;
  served_bytes = m.served_bytes;
  was_reset = m.was_reset;
  fin = λ e. ⊎_elim m.fin (λ f. fin-ended out s r.true_of (sym (ap said_fin (ap (λ l. decoded l c ToClient) is ∙ again c ToClient s r.sendable)) ∙ and-right (nat_eq c c) (said_fin (decoded bytes c ToClient)) f))
      (or-either t.fin_sent (nat_eq c c && said_fin (decoded bytes c ToClient)) e);
}

-- a segment may be told at such a moment
pub told-one : (files : FilesAt) (c : ℕ) (w out : Stream) (vs : List Verdict) (reset : Bool) (past : List Rec) (s : Said) (bytes : List ℕ) → SaysAnswers files w out vs
    → Moment w out vs reset (tale past c) → bytes ≡ spelled c ToClient s → IsReply w out reset s → IsTold files past c bytes
told-one files c w out vs reset past s bytes says m is r =
    let wr : wrote past c ≡ w.bytes = wrote-tale past c ∙ m.wrote in
    let said : out.bytes ≡ said_to files past c =
    sym (ap (λ n. concat (take n (answers files (wrote past c)))) (served-tale past c ∙ m.served) ∙ ap (λ l. concat (take (length vs) (answers files l))) wr ∙ said-bytes files w out vs says) in
    record {
      said = s;
      decodes = ap (λ l. decoded l c ToClient) is ∙ again c ToClient s r.sendable;
      numbers = record { isn = w.first; iss = out.first };
      opened = numbers-tale past c ∙ m.numbers;
      reset = λ e. reset-tale past c ∙ m.was_reset ∙ r.resets e;
      carries = ⊎_elim (λ (b : IsBare s). inl b.0)
          (λ (p : Stands out s). inr (p.place, p.number, subst (λ (l : List ℕ). IsPartAt p.place s.payload l) said p.part)) r.true_of.carries;
      final = λ f. ⊎_elim (λ (b : IsBare s). absurd (both_ways s.flags.fin b.1 f))
          (λ (p : Stands out s). (p.place, p.number, (p.final f).0 ∙ ap length said)) r.true_of.carries;
      acknowledges = λ e. (let a = r.acks e in (a.0, a.1, subst (λ (l : List ℕ). a.0 ≤ 2 + length l) (sym wr) a.2));
    }
