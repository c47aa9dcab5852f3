-- Each segment that a place of the cluster sends goes to its client, and has a byte; and so has each segment of a client.
use Rattle.std.proofs.Common.{◌≡◌, ℕ, ◌≤◌, List, [], ◌∷◌, length, Option, Some, None, refl, arith}
use Rattle.lard_law_view.specs.Prelude.{Client, ClientBlock, ControlBlock, Dir, Place, Ready, Said, ServeEnv, Service, ToClient, ToCluster, after_emit, client_after_emit, client_filled, client_speaks, cut_off, filled, final_of, limit_said, serving_ready_of, serving_settled, serving_told, speaks, speaks_symbols, spelled, spoken, station_ready_of, tombstone}
use Rattle.lard_base.specs.declared.place.Reason.TheVariants.{Limit}
use Rattle.lard_history.proofs.Each.{Each, Each-append}
use Rattle.lard_rules.proofs.Endings.{settled-keeps}
use Rattle.lard_rules.proofs.Loops.{KeptBySpeaking, KeptByTelling, client_keeps, speaks_keep, symbols_keep}
use Rattle.lard_segment.proofs.Written.{length-spelled}

pub spelled-some : (c : ℕ) (dir : Dir) (s : Said) → 1 ≤ length (spelled c dir s)
spelled-some c dir s = let long = length-spelled c dir s in omega (arith, long)

-- ---- a place of the cluster

-- it goes to client c, and has a byte
abbrev pub SaysTo : ℕ → Place × List ℕ → Type 0
SaysTo c s = (s.0 ≡ Client c) × (1 ≤ length s.1)

module _ (c : ℕ) where
  abbrev Says : ControlBlock → List (Place × List ℕ) → ControlBlock → Type 0
  Says b ss d = Each (SaysTo c) ss

  by_saying : KeptBySpeaking c Says
  by_saying = record { rests = λ b. tt; says = λ b r ss d e later. ((refl, spelled-some c ToClient (filled (after_emit b) r)), later) }

  speaks-says : (b : ControlBlock) → Each (SaysTo c) (speaks c b).0
  speaks-says b = speaks_keep c Says by_saying b

  symbols-says : (b : ControlBlock) → Each (SaysTo c) (speaks_symbols c b).0
  symbols-says b = symbols_keep c Says by_saying (λ b r e held. tt) b

module _ (env : ServeEnv) where
  pub ready-says : (b : ControlBlock) (o : Option Ready) → Each (SaysTo env.c) (serving_ready_of env b o)
  ready-says b None = tt
  ready-says b (Some r) = ((refl, spelled-some env.c ToClient (filled b r)), tt)

  pub spoken-says : (w : Service) (before : List (Place × List ℕ)) → Each (SaysTo env.c) before → Each (SaysTo env.c) (spoken env w before).1.segments
  spoken-says w before h = Each-append (SaysTo env.c) before (speaks env.c w.block).0 h (speaks-says env.c w.block)

  pub cut-says : (w : Service) → Each (SaysTo env.c) (cut_off env w).1.segments
  cut-says w =
      let said : List (Place × List ℕ) × ControlBlock = speaks_symbols env.c w.block in
      let last : Said = limit_said (final_of said.1 Limit) in
      Each-append (SaysTo env.c) said.0 (serving_told env last ∷ []) (symbols-says env.c w.block) ((refl, spelled-some env.c ToClient last), tt)

  pub settled-says : (w : Service) → Each (SaysTo env.c) (serving_settled env w).1.segments
  settled-says w = settled-keeps (λ given. Each (SaysTo env.c) given.1.segments) env w (λ e. spoken-says w [] tt) (λ total e. cut-says w)

  pub tombstone-says : (o : Option Said) → Each (SaysTo env.c) (tombstone env o).segments
  tombstone-says None = tt
  tombstone-says (Some s) = ((refl, spelled-some env.c ToClient s), tt)

-- ---- a client

abbrev pub HasByte : Place × List ℕ → Type 0
HasByte s = 1 ≤ length s.1

pub station-says : (x : ClientBlock) (o : Option Ready) → Each HasByte (station_ready_of x o)
station-says x None = tt
station-says x (Some r) = (spelled-some x.c ToCluster (client_filled x r), tt)

abbrev Tells : ClientBlock → List (Place × List ℕ) → ClientBlock → Type 0
Tells x ss y = Each HasByte ss

by_telling : KeptByTelling Tells
by_telling = record { rests = λ x. tt; says = λ x r ss y e later. (spelled-some (client_after_emit x).c ToCluster (client_filled (client_after_emit x) r), later) }

pub client-says : (x : ClientBlock) → Each HasByte (client_speaks x).0
client-says x = client_keeps Tells by_telling x
