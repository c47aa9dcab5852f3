-- Where each connection's spot is as it was, what is near stays near, and no chain gets longer.
use Rattle.std.proofs.Common.{◌≡◌, ◌≤◌, ℕ, Option, Some, None, refl, sym, ap, ◌∙◌, subst}
use Rattle.lard_law_view.specs.Prelude.{FilesAt, IsConnNumber, Letter, Machine, Packet, conn, conn_of, file_at, letter_of, packet_at}
use Rattle.lard_base.specs.declared.ids.TheConstants.ConnId.{MAX}
use Rattle.lard_bound.specs.Progress.{NearAt, NearOn, chain_at, chain_on, spot_at}
use Rattle.lard_bound.specs.Spots.{Spot}
use Rattle.lard_law_settles.specs.Course.{NearIn, chain_by, chain_in, chain_of}

-- Of a step in which no unit goes: the spots, the files and the packets that there were are the same.
module _ (m n : Machine) (files : n.files ≡ m.files) (spots : (q : ℕ) → 1 ≤ q → q ≤ MAX → spot_at (file_at m.files) (conn n q) ≡ spot_at (file_at m.files) (conn m q))
    (packets : (k : ℕ) (p : Packet) → packet_at m.net k ≡ Some p → packet_at n.net k ≡ Some p) where
  number-is : (q : ℕ) → (conn n q).c ≡ (conn m q).c
  unfolding conn
  number-is q = refl

  pub near-stays : (d k : ℕ) → NearIn m d k → NearIn n d k
  near-stays d k x =
      let spot = spots x.c x.number.0 x.number.1 in
      let N : FilesAt → Option Spot → ℕ → Type 0 = λ f s c. NearOn f s c d (letter_of x.packet) in
      let there : N (file_at m.files) (spot_at (file_at m.files) (conn n x.c)) (conn n x.c).c =
      subst (λ s. N (file_at m.files) s (conn n x.c).c) (sym spot) (subst (N (file_at m.files) (spot_at (file_at m.files) (conn m x.c))) (sym (number-is x.c)) x.near) in
      record {
        packet = x.packet;
        at = packets k x.packet x.at;
        c = x.c;
        number = x.number;
        is_of = x.is_of;
        near = subst (λ f. NearAt (file_at f) (conn n x.c) d (letter_of x.packet)) (sym files) there;
      }

  same-chain : (q : ℕ) → IsConnNumber q → (l : Letter) → chain_at (file_at n.files) (conn n q) l ≡ chain_at (file_at m.files) (conn m q) l
  same-chain q number l =
      ap (λ f. chain_at (file_at f) (conn n q) l) files
      ∙ ap (λ s. chain_on s (conn n q).c l) (spots q number.0 number.1)
      ∙ ap (λ c. chain_on (spot_at (file_at m.files) (conn m q)) c l) (number-is q)

  -- of a packet whose connection has a number, where it has one
  pub chain-stays : (k : ℕ) (p : Packet) → packet_at m.net k ≡ Some p → ((q : ℕ) → conn_of p.from p.to p.bytes ≡ Some q → IsConnNumber q) → chain_in n k ≡ chain_in m k
  chain-stays k p at numbered = ap (chain_by n) (packets k p at) ∙ go (conn_of p.from p.to p.bytes) refl ∙ sym (ap (chain_by m) at) where
    go : (o : Option ℕ) → conn_of p.from p.to p.bytes ≡ o → chain_of n p o ≡ chain_of m p o
    go None e = refl
    go (Some q) e = same-chain q (numbered q e) (letter_of p)
