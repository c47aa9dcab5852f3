-- What comes of a packet, by the spot of its connection alone: where no unit goes, that is the same before the move and behind it.
use Rattle.std.proofs.Common.{◌≡◌, ◌<◌, ◌≤◌, ◌⊎◌, ℕ, suc, true, false, List, [], Option, Some, Ok, refl, sym, ap, ◌∙◌, subst}
use Rattle.lard_law_view.specs.Prelude.{Body, Client, Conn, FilesAt, Front, Letter, MayRestOn, Message, Move, Node, Part, Place, Said, Setting, Station, ToCluster, decoded, decoded_message, grown, letters_of, symbols}
use Rattle.lard_bound.specs.Chains.{chain}
use Rattle.lard_bound.specs.Nears.{Near}
use Rattle.lard_bound.specs.Progress.{Answers, Any, Every, IfCame, IsFetch, IsWarm, Lasts, NearOn, came_in, chain_on, spot_at, spot_with}
use Rattle.lard_bound.specs.Seats.{SeatNow, seat_of, tells_over}
use Rattle.lard_bound.specs.Spots.{Spot, post_of, spot_of}
use Rattle.lard_bound.specs.Units.{Whole, units}
use Rattle.lard_message.specs.declared.message.Body.TheVariants as body

-- ---- what a client says late: no reset of its own, which has ACK, but refusals

abbrev pub IsLateWord : ℕ → List ℕ → Type 0
IsLateWord c bytes = (s : Said) → decoded bytes c ToCluster ≡ Ok s → s.flags.rst ≡ true → s.flags.ack ≡ false

abbrev pub IsLateBody : ℕ → Body → Type 0
IsLateBody c (body.Forward segment) = IsLateWord c segment
IsLateBody c _ = Unit {0}

abbrev pub IsLateBetween : ℕ → Place → Place → List ℕ → Type 0
IsLateBetween c (Client d) Front bytes = IsLateWord c bytes
IsLateBetween c Front (Node n) bytes = (m : Message) → decoded_message bytes ≡ Ok m → IsLateBody c m.body
IsLateBetween c _ _ bytes = Unit {0}

abbrev pub IsLate : ℕ → Letter → Type 0
IsLate c l = IsLateBetween c l.from l.to l.bytes

-- of a connection whose client opened
abbrev pub IsLateOn : Conn → Letter → Type 0
IsLateOn x l = (st : Station) → x.part.station ≡ Some st → IsLate x.c l

-- ---- what is owed

-- What each rule owes, given what holds of the connection before the move and behind it, and that no unit comes back; what comes was sent
-- behind the first rounds.
abbrev pub Owes : Setting → Whole → (Conn → Type 0) → Conn → Move → Type 0
Owes k w Given x v =
    MayRestOn Given x → Given (grown x v) → IfCame (IsWarm x) (came_in v.heads) → IfCame (IsLateOn x) (came_in v.heads) → Lasts k w x v → IfCame (Answers k w x v) (came_in v.heads)

-- Of packet l, on which these are sent: their chains are shorter, and if it is near, one of them is nearer.
pub record Replies (files : FilesAt) (t : Spot) (c : ℕ) (l : Letter) (sent : List Letter) : Type 0 where
  pub shorter : Every (λ a. chain t c a < chain t c l) sent
  pub leads : (d : ℕ) → Near files t c (suc d) l → Any (λ a. Near files t c d a) sent ⊎ IsFetch l

-- nothing is sent, and it was not near
pub no-reply : (files : FilesAt) (t : Spot) (c : ℕ) (l : Letter) → ((d : ℕ) → Near files t c (suc d) l → ⊥) → Replies files t c l []
no-reply files t c l far = record { shorter = tt; leads = λ d near. absurd (far d near) }

module _ (k : Setting) (w : Whole) (x : Conn) (v : Move) (l : Letter) (st st' : Station) (is : x.part.station ≡ Some st) (now : v.part.station ≡ Some st') (lasts : Lasts k w x v) where
  abbrev t : Spot
  t = spot_of k.files x.part st

  -- what it owes where no unit goes, the spot being the same
  abbrev pub Wanted : Type 0
  Wanted = units w k.nodes x ≤ units w k.nodes (grown x v) → spot_of k.files v.part st' ≡ spot_of k.files x.part st → Replies k.files (spot_of k.files x.part st) x.c l (letters_of v)

  before : spot_at k.files x ≡ Some t
  before = ap (spot_with k.files x) is

  after : units w k.nodes x ≤ units w k.nodes (grown x v) → spot_at k.files (grown x v) ≡ Some t
  after up = lasts.steady up ∙ before

  same : units w k.nodes x ≤ units w k.nodes (grown x v) → spot_of k.files v.part st' ≡ t
  same up = let both : Some (spot_of k.files v.part st') ≡ Some t = sym (ap (spot_with k.files (grown x v)) now) ∙ after up in cc

  pub answers-by : Wanted → Answers k w x v l
  answers-by wanted = record {
    shorter = λ up.
        let S : Option Spot → Option Spot → Type 0 = λ o p. Every (λ a. chain_on o x.c a < chain_on p x.c l) (letters_of v) in
        subst (λ o. S o (spot_at k.files x)) (sym (after up)) (subst (S (Some t)) (sym before) (wanted up (same up)).shorter);
    leads = λ up d near.
        let L : Option Spot → Type 0 = λ o. Any (λ a. NearOn k.files o x.c d a) (letters_of v) ⊎ IsFetch l in
        subst L (sym (after up)) ((wanted up (same up)).leads d (subst (λ o. NearOn k.files o x.c (suc d) l) before near));
  }

-- ---- the spot of a connection at a seat

abbrev pub seated : FilesAt → Part → Station → SeatNow → Spot
seated files p st z = record {
  phase = st.client.phase;
  isn = st.client.send.iss;
  iss = st.iss;
  una = st.client.send.una;
  last = symbols st.client.send;
  post = post_of files st.client z;
  telling = λ n. tells_over (p.nodes n);
}

pub seated-is : (files : FilesAt) (p : Part) (st : Station) → spot_of files p st ≡ seated files p st (seat_of p)
unfolding spot_of
seated-is files p st = refl
