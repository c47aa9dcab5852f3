-- What was fair on a connection stays so as its streams go on.
use Rattle.std.proofs.Common.{◌≡◌, ℕ, ◌≤◌, length, true, sym, ap, ◌∙◌, arith}
use Rattle.lard_law_view.specs.Prelude.{GoesOn, IsReply, IsWord, Said, Stream, Talk, seq_add}
use Rattle.lard_law_view.proofs.Growth.{front-length, truth-grown}

-- a talk goes on
pub record TalksOn (k l : Talk) : Type 0 where
  pub w : GoesOn k.w l.w
  pub out : GoesOn k.out l.out
  pub reset : k.was_reset ≡ true → l.was_reset ≡ true

pub word-later : (w v : Stream) (s : Said) → GoesOn w v → IsWord w s → IsWord v s
word-later w v s g x = record { sendable = x.sendable; true_of = truth-grown w v s g x.true_of }

pub reply-later : (k l : Talk) (s : Said) → TalksOn k l → IsReply k.w k.out k.was_reset s → IsReply l.w l.out l.was_reset s
reply-later k l s g x = record {
  sendable = x.sendable;
  true_of = truth-grown k.out l.out s g.out x.true_of;
  acks = λ e. (let a = x.acks e in (a.0, a.1 ∙ ap (λ (n : ℕ). seq_add n a.0) (sym g.w.first), (let f : length k.w.bytes ≤ length l.w.bytes = front-length k.w.bytes l.w.bytes g.w.bytes in let b = a.2 in omega arith)));
  resets = λ e. g.reset (x.resets e);
}
