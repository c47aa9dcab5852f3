-- What holds of the two ends of one connection.
use Rattle.std.proofs.Common.{◌≡◌, ℕ, ◌≤◌, true, sym, ap, ◌∙◌, arith}
use Rattle.lard_law_view.specs.Prelude.{Seat, Station, is_client_open, seq_add}
use Rattle.lard_law_view.proofs.Acked.{Acks, ClientHolds, FrontHolds, heard_of, taken_by}
use Rattle.lard_law_view.proofs.Story.{Story}

-- ---- its two ends

-- they acknowledge no more than was taken, and its story tells what became of its client
pub record ConnHolds (x : Station) (f : Seat) (y : Story) : Type 0 where
  pub client : ClientHolds (heard_of x.client.send.iss f) y.aborted y.reset x.client
  pub front : FrontHolds x.iss (taken_by x.client) y.aborted f
  pub ended : x.client.eof ≡ true → y.ended ≡ true
  pub shut : is_client_open x.client ≡ true → y.shut ≡ true → x.client.send.finished ≡ true

-- ---- its packets

pub acks-more : (first more n m number : ℕ) → more ≡ first → n ≤ m → Acks first n number → Acks more m number
acks-more first more n m number e le a = (a.0, a.1 ∙ ap (λ f. seq_add f a.0) (sym e), (let b = a.2 in omega arith))
