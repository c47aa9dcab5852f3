-- What is known of a replay after lines that passed: how many, of how many bytes, and what it keeps.
use Rattle.std.proofs.Common.{◌≡◌, ℕ, ◌+◌, List, [], ◌++◌, length, Ok, refl, ap, ◌∙◌, arith}
use Rattle.lard_law_view.specs.Prelude.{Event}
use Rattle.lard_app.specs.Replay.{Progress, begin, event_listed, judged, line_passed}
use Rattle.lard_app.proofs.Keeping.{Keeps, begin-keeps, passed-keeps}
use Rattle.lard_app.proofs.Passing.{passed-read}

pub record Knows (n bytes : ℕ) (s : Progress) : Type 0 where
  pub lines : s.lines ≡ n
  pub read : s.read ≡ bytes
  pub events : List Event
  pub keeps : Keeps s events

pub begin-knows : Knows 0 0 begin
begin-knows = record { lines = refl; read = refl; events = []; keeps = begin-keeps }

line_bytes : (r b n : ℕ) → r ≡ b → r + n + 1 ≡ b + (n + 1)
line_bytes r b n e = omega (arith, e)

pub passed-knows : (n bytes : ℕ) (s u : Progress) (line : List ℕ) → Knows n bytes s → line_passed s line ≡ Ok u → Knows (n + 1) (bytes + (length line + 1)) u
passed-knows n bytes s u line k e =
    let counts = passed-read s u line e in
    record {
      lines = counts.0 ∙ ap (λ m. m + 1) k.lines;
      read = counts.1 ∙ line_bytes s.read bytes (length line) k.read;
      events = k.events ++ event_listed (judged s.reader line);
      keeps = passed-keeps s u line k.events k.keeps e;
    }
