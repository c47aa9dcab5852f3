-- A machine that goes on by rounds, whatever it is: in a round all that is on its way is delivered and all jobs are done, or, where
-- there is nothing of that, timers fire. And what it owes to come to rest within a number of rounds.
use Rattle.std.specs.Prelude.{ℕ, zero, suc, ◌+◌, ◌*◌, ◌<◌, ◌≤◌, ◌≡◌, ◌⊎◌, List, [], ◌∷◌}

-- ---- the machine

-- What there is of it, and by what its progress is measured.
pub record Game (M J : Type 0) : Type 1 where
  pub on_way : M → ℕ → Type 0  -- the packet of this number is on its way
  pub queued : M → J → Type 0  -- this job is to be done
  pub sent : M → ℕ  -- so many packets were sent: those have the numbers up to this one
  pub delivers : M → ℕ → M → Type 0  -- the packet is delivered, which leads from the one state to the other
  pub completes : M → J → M → Type 0  -- the job is done
  pub fires : M → M → Type 0  -- a timer fires
  pub begins : M → M → Type 0  -- the first timer fires of those that run
  pub is_quiet : M → Type 0  -- nothing is left to do
  pub good : M → Type 0  -- what is known of a state
  pub units : M → ℕ  -- how much is left to do: an upper bound, which never grows
  pub chain : M → ℕ → ℕ  -- how many packets can come of this one, one after the other, as long as no unit goes
  pub job_chain : M → J → ℕ
  pub near : M → ℕ → ℕ → Type 0  -- within so many rounds this packet surely leads to a unit
  pub job_near : M → ℕ → J → Type 0

module _ {M J : Type 0} (g : Game M J) where
  -- a packet that was sent behind so many others is on its way, and leads to a unit within d rounds
  pub record Nearer (n : M) (behind d : ℕ) : Type 0 where
    pub number : ℕ
    pub is_new : behind < number
    pub waits : g.on_way n number
    pub leads : g.near n d number

  -- a job is to be done that leads to one
  pub record JobNearer (n : M) (d : ℕ) : Type 0 where
    pub job : J
    pub waits : g.queued n job
    pub leads : g.job_near n d job

  -- each packet that was sent behind so many others has a chain shorter than this
  abbrev pub AreShorter : M → ℕ → ℕ → Type 0
  AreShorter n behind most = (k : ℕ) → g.on_way n k → behind < k → g.chain n k < most

  -- ---- what a step owes

  -- Of a step from m to n: no unit comes back. Where none goes, no chain gets longer, and what is near stays near.
  pub record Goes (m n : M) : Type 0 where
    pub good : g.good n
    pub more : g.sent m ≤ g.sent n
    pub less : g.units n ≤ g.units m
    pub way : (k : ℕ) → g.on_way n k → g.on_way m k ⊎ (g.sent m < k)
    pub shrinks : g.units m ≤ g.units n → (k : ℕ) → g.on_way m k → g.chain n k ≤ g.chain m k
    pub job_shrinks : g.units m ≤ g.units n → (j : J) → g.queued m j → g.job_chain n j ≤ g.job_chain m j
    pub stays : g.units m ≤ g.units n → (d k : ℕ) → g.on_way m k → g.near m d k → g.near n d k
    pub job_stays : g.units m ≤ g.units n → (d : ℕ) (j : J) → g.queued m j → g.job_near m d j → g.job_near n d j

  -- Packet k is delivered: all else waits on. Where no unit goes, what it sends has shorter chains, or something of it is as near as
  -- what timers send; and if it is near, something of what it sends or queues is nearer, or something that is queued already.
  pub record Delivers (reach : ℕ) (m : M) (k : ℕ) (n : M) : Type 0 where
    pub goes : Goes m n
    pub others : (i : ℕ) → g.on_way m i → (i ≡ k) ⊎ g.on_way n i
    pub jobs : (j : J) → g.queued m j → g.queued n j
    pub queues : (j : J) → g.queued n j → g.queued m j ⊎ (g.units m ≤ g.units n → g.job_chain n j ≤ g.chain m k)
    pub shorter : g.units m ≤ g.units n → AreShorter n (g.sent m) (g.chain m k) ⊎ Nearer n (g.sent m) reach
    pub leads : g.units m ≤ g.units n → (d : ℕ) → g.near m (suc d) k → Nearer n (g.sent m) d ⊎ JobNearer n (suc d)

  -- Job j is done: it queues none.
  pub record Completes (reach : ℕ) (m : M) (j : J) (n : M) : Type 0 where
    pub goes : Goes m n
    pub others : (i : ℕ) → g.on_way m i → g.on_way n i
    pub jobs : (i : J) → g.queued m i → (i ≡ j) ⊎ g.queued n i
    pub queues : (i : J) → g.queued n i → g.queued m i
    pub shorter : g.units m ≤ g.units n → AreShorter n (g.sent m) (g.job_chain m j) ⊎ Nearer n (g.sent m) reach
    pub leads : g.units m ≤ g.units n → (d : ℕ) → g.job_near m (suc d) j → Nearer n (g.sent m) d

  -- A timer fires: it queues no job.
  pub record Fires (m n : M) : Type 0 where
    pub goes : Goes m n
    pub others : (i : ℕ) → g.on_way m i → g.on_way n i
    pub queues : (j : J) → g.queued n j → g.queued m j

  -- nothing is on its way, and no job is to be done
  pub record IsIdle (m : M) : Type 0 where
    pub packets : (k : ℕ) → g.on_way m k → ⊥
    pub jobs : (j : J) → g.queued m j → ⊥

  -- Of the machine: no chain is as long as `longest`, and the first timer of those that fire sends what leads to a unit within
  -- `reach` rounds.
  pub record Owes (longest reach : ℕ) : Type 0 where
    pub packets : (m n : M) (k : ℕ) → g.good m → g.on_way m k → g.delivers m k n → Delivers reach m k n
    pub jobs : (m n : M) (j : J) → g.good m → g.queued m j → g.completes m j n → Completes reach m j n
    pub timers : (m n : M) → g.good m → g.fires m n → Fires m n
    pub are_timers : (m n : M) → g.begins m n → g.fires m n
    pub begins : (m n : M) → g.good m → IsIdle m → g.begins m n → (g.units n < g.units m) ⊎ Nearer n 0 reach
    pub short : (m : M) (k : ℕ) → g.good m → g.on_way m k → g.chain m k < longest
    pub brief : (m : M) (j : J) → g.good m → g.queued m j → g.job_chain m j < longest
    pub never : (m : M) (k : ℕ) → g.good m → g.on_way m k → g.near m 0 k → ⊥
    pub known : (m : M) (k : ℕ) → g.good m → g.on_way m k → k ≤ g.sent m

  -- ---- rounds

  -- what is delivered and what is done in a round, one after the other; the packets are among the first so many
  pub data Item : Type 0 where
    Packet : ℕ → Item
    Job : J → Item

  abbrev pub Takes : ℕ → M → List Item → M → Type 0
  Takes first m [] n = n ≡ m
  Takes first m (Packet k ∷ xs) n = (l : M) × (k ≤ first) × g.on_way m k × g.delivers m k l × Takes first l xs n
  Takes first m (Job j ∷ xs) n = (l : M) × g.queued m j × g.completes m j l × Takes first l xs n

  -- A round that delivers all that is on its way and does all jobs, also those that are queued in it.
  pub record Works (m n : M) : Type 0 where
    pub item : Item
    pub items : List Item
    pub takes : Takes (g.sent m) m (item ∷ items) n
    pub emptied : (k : ℕ) → g.on_way n k → g.sent m < k
    pub done : (j : J) → g.queued n j → ⊥

  -- timers fire one after the other: so many of them, and no other
  abbrev pub FireOn : ℕ → M → M → Type 0
  FireOn zero m n = n ≡ m
  FireOn (suc more) m n = (l : M) × g.fires m l × FireOn more l n

  -- A round in which timers fire, where there is nothing else to do.
  pub record Shoots (m n : M) : Type 0 where
    pub idle : IsIdle m
    pub after : M
    pub begins : g.begins m after
    pub more : ℕ
    pub rest : FireOn more after n

  abbrev pub Round : M → M → Type 0
  Round m n = Works m n ⊎ Shoots m n

  -- at most so many rounds, and none once it is quiet
  abbrev pub Rounds : ℕ → M → M → Type 0
  Rounds zero m n = n ≡ m
  Rounds (suc more) m n = (g.is_quiet m × (n ≡ m)) ⊎ ((l : M) × Round m l × Rounds more l n)

  -- ---- what is claimed

  -- It comes to rest: each unit takes at most so many rounds, and one more than there are units suffice.
  abbrev pub ComesToRest : ℕ → ℕ → Type 0
  ComesToRest longest reach = (r : ℕ) (m n : M) → g.good m → (longest + 1 + reach) * (g.units m + 1) ≤ r → Rounds r m n → g.is_quiet n
