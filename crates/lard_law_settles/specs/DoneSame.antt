-- What a journal tells is told by it with its settles written out, too: fold by fold.
use Rattle.std.specs.Prelude.{◌≡◌, ℕ, List}
use Rattle.lard_law_view.specs.Prelude.{Config, FilesAt, Place, Rec, TimerKind, accepted, assigned, has_aborted, has_ended, home_told, is_lost, is_node_closed, is_running, is_touched, last_epoch, numbers_of, owner, packet_bytes, sent_count, served, served_bytes, time_of, was_reset, was_shut, wrote}
use Rattle.lard_law_connections.specs.Line.{waiting_line}
use Rattle.lard_counts.specs.Ledger.{ledger}
use Rattle.lard_law_connections.specs.PolicyLoads.{load_told}
use Rattle.lard_counts.specs.Stores.{cached, jobs}

-- Two journals tell the same of each client: what it opened with, wrote and accepted, and how it ended.
pub record TellsClientsTheSame (J K : List Rec) : Type 0 where
  pub opened : (c : ℕ) → numbers_of K c ≡ numbers_of J c
  pub written : (c : ℕ) → wrote K c ≡ wrote J c
  pub taken : (c : ℕ) → accepted K c ≡ accepted J c
  pub touched : (c : ℕ) → is_touched K c ≡ is_touched J c
  pub aborts : (c : ℕ) → has_aborted K c ≡ has_aborted J c
  pub shuts : (c : ℕ) → was_shut K c ≡ was_shut J c
  pub ends : (c : ℕ) → has_ended K c ≡ has_ended J c

-- And of each connection and place: who owns it and in which epoch, what was served, where it was assigned, whether the limit reset it;
-- who is admitted, the loads and the sets of nodes, which of them are closed, and the line; jobs, caches, timers, packets and the time.
pub record TellsTheSame (config : Config) (files : FilesAt) (J K : List Rec) : Type 0 where
  pub clients : TellsClientsTheSame J K
  pub owners : (c : ℕ) → owner K c ≡ owner J c
  pub epochs : (c : ℕ) → last_epoch K c ≡ last_epoch J c
  pub responses : (c : ℕ) → served K c ≡ served J c
  pub bytes : (c : ℕ) → served_bytes K c ≡ served_bytes J c
  pub resets : (c : ℕ) → was_reset K c ≡ was_reset J c
  pub homes : (c : ℕ) → home_told K c ≡ home_told J c
  pub requests : (c : ℕ) → assigned K c ≡ assigned J c
  pub counted : ledger config K ≡ ledger config J
  pub loads : (n : ℕ) → load_told K n ≡ load_told J n
  pub closings : (n : ℕ) → is_node_closed K n ≡ is_node_closed J n
  pub waits : waiting_line K ≡ waiting_line J
  pub disks : (n : ℕ) → jobs K n ≡ jobs J n
  pub caches : (limit n : ℕ) → cached files limit K n ≡ cached files limit J n
  pub timers : (p : Place) (c : ℕ) (kind : TimerKind) → is_running K p c kind ≡ is_running J p c kind
  pub packets : sent_count K ≡ sent_count J
  pub sizes : packet_bytes K ≡ packet_bytes J
  pub losses : (k : ℕ) → is_lost K k ≡ is_lost J k
  pub time : time_of K ≡ time_of J
