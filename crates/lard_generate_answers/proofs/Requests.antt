-- Each request of a generated schedule is written: its client opened, and has not shut.
use Rattle.std.proofs.Common.{◌≡◌, ◌≢◌, ℕ, ◌+◌, not, Bool, true, false, cond, nat_eq, nat_lt, List, [], ◌∷◌, ◌++◌, Option, Some, None, Result, Ok, Err, refl, sym, ap, ◌∙◌, subst, append-nil, ⊎_elim}
use Rattle.std.proofs.lemmas.Bool.{cond-true}
use Rattle.std.proofs.lemmas.List.{append_cancel_left}
use Rattle.std.proofs.lemmas.List.Sums.{fold-append}
use Rattle.std.specs.FinMap as table
use Rattle.std.specs.List.{fold, list_all}
use Rattle.lard_law_view.specs.Prelude.{ClientBlock, Event, Machine, Rec, Station, StepFault, client_acts, client_goes_on, client_opens, client_shuts, client_writes, client_written, happens, is_own, is_writing, machine_opened, machine_told, machine_wrote, silent, speaking, written_len, wrote_step}
use Rattle.lard_base.specs.declared.event.Event.TheVariants as event
use Rattle.lard_client.specs.Control as client
use Rattle.lard_rules.specs.declared.fault.StepFault.TheVariants as fault
use Rattle.lard_law_connections.proofs.Happened.{ok-same}
use Rattle.lard_law_view.proofs.After.{IsAfter}
use Rattle.lard_generate_bound.proofs.Leaving.{IsUnwritten, unwritten, wrote-still}
use Rattle.lard_generate_bound.proofs.Walking.{one-folds}
use Rattle.lard_history.specs.Journal as journal
use Rattle.lard_journal.specs.declared.rec.Rec.TheVariants as rec
use Rattle.lard_rules.specs.declared.fault.What.TheVariants as what
use Rattle.lard_table.proofs.Map.{get_inserted, get_other}
use Rattle.lard_generate_answers.proofs.Clients.{like-speaks, like-written}

-- ---- a machine in which a client may write

pub record CanWrite (m : Machine) (c : ℕ) : Type 0 where
  pub station : Station
  pub there : table.get m.clients c ≡ Some station
  pub number : station.client.c ≡ c
  pub writing : is_writing station.client ≡ true

-- a client's part was put
pub record Puts (m n : Machine) (c : ℕ) : Type 0 where
  pub station : Station
  pub clients : n.clients ≡ table.insert m.clients c station

-- those of others stay
pub others-can : (m n : Machine) (c d : ℕ) → Puts m n c → d ≢ c → CanWrite m d → CanWrite n d
others-can m n c d p apart h = record {
  station = h.station;
  there = ap (λ (t : _). table.get t d) p.clients ∙ get_other m.clients c d p.station apart ∙ h.there;
  number = h.number;
  writing = h.writing;
}

-- ---- it opens

pub opened-can : (m : Machine) (c isn iss wnd mss : ℕ) (n : Machine) (o : Option Station) → machine_opened m c isn iss wnd mss o ≡ Ok n → Puts m n c × CanWrite n c
unfolding machine_opened machine_told
opened-can m c isn iss wnd mss n (Some x) is = cc
opened-can m c isn iss wnd mss n None is =
    let spoke = like-speaks (client.client_opened c isn wnd mss) in
    let station : Station = record { client = (client_opens c isn wnd mss).0; iss = iss } in
    let clients : n.clients ≡ table.insert m.clients c station = ap (λ (k : Machine). k.clients) (sym (ok-same _ n is)) in (
      record { station = station; clients = clients },
      record { station = station; there = ap (λ (t : _). table.get t c) clients ∙ get_inserted m.clients c station; number = spoke.0; writing = spoke.1 },
    )

-- ---- it writes

pub record Written (m n : Machine) (c : ℕ) (bytes : List ℕ) : Type 0 where
  pub puts : Puts m n c
  pub can : CanWrite n c
  pub by : ℕ
  pub rows : List Rec
  pub is : n.journal ≡ m.journal ++ rec.Event (m.events + 1) (event.Write c bytes) ∷ rec.Wrote by bytes ∷ rows

goes-written : (m : Machine) (c : ℕ) (bytes : List ℕ) (x : Station) → x.client.c ≡ c → is_writing x.client ≡ true
    → Written m (client_goes_on m (event.Write c bytes) [] c x (speaking (rec.Wrote x.client.c bytes ∷ []) [] (client_written x.client bytes))) c bytes
unfolding machine_told
goes-written m c bytes x number writing =
    let y : ClientBlock = client_written x.client bytes in
    let spoke = like-speaks y in
    let on = like-written x.client bytes in
    let station : Station = record { client = (speaking (rec.Wrote x.client.c bytes ∷ []) [] y).0; iss = x.iss } in
    record {
      puts = record { station = station; clients = refl };
      can = record { station = station; there = get_inserted m.clients c station; number = spoke.0 ∙ on.0 ∙ number; writing = spoke.1 ∙ on.1 ∙ writing };
      by = x.client.c;
      rows = _;
      is = refl;
    }

pub written-of : (m n : Machine) (c : ℕ) (bytes : List ℕ) → CanWrite m c → happens m (event.Write c bytes) ≡ Ok n → Written m n c bytes
unfolding machine_wrote
written-of m n c bytes h is = go (nat_lt m.config.stream (written_len h.station.client bytes)) (subst (λ (o : Option Station). machine_wrote m (event.Write c bytes) c bytes o ≡ Ok n) h.there is) where
  writing : client_writes h.station.client bytes ≡ speaking (rec.Wrote h.station.client.c bytes ∷ []) [] (client_written h.station.client bytes)
  writing = cond-true (is_writing h.station.client) (speaking (rec.Wrote h.station.client.c bytes ∷ []) [] (client_written h.station.client bytes)) (h.station.client, silent) h.writing

  go : (b : Bool) → cond {A = Result Machine StepFault} b (Err (fault.Limit what.Stream)) (Ok (client_goes_on m (event.Write c bytes) [] c h.station (client_writes h.station.client bytes))) ≡ Ok n → Written m n c bytes
  go true e = cc
  go false e = subst (λ (k : Machine). Written m k c bytes) (ap (client_goes_on m (event.Write c bytes) [] c h.station) (sym writing) ∙ ok-same _ n e) (goes-written m c bytes h.station h.number h.writing)

-- ---- it shuts

pub shut-puts : (m n : Machine) (c : ℕ) (o : Option Station) → client_acts m (event.Shut c) [] c client_shuts o ≡ Ok n → Puts m n c
unfolding client_acts machine_told
shut-puts m n c None is = cc
shut-puts m n c (Some x) is = record { station = record { client = (client_shuts x.client).0; iss = x.iss }; clients = ap (λ (k : Machine). k.clients) (sym (ok-same _ n is)) }

-- ---- what the journal says

-- of a step, its event and its own records count
step-says : (m n : Machine) (e : Event) (q : ℕ) (a : IsAfter m e n) → journal.wrote n.journal q ≡ fold (wrote_step q) (journal.wrote m.journal q) (rec.Event n.events e ∷ a.follows.own)
step-says m n e q a =
    ap (fold (wrote_step q) []) a.is ∙ fold-append (wrote_step q) [] m.journal a.step
    ∙ one-folds (wrote_step q) (wrote-still q) (journal.wrote m.journal q) n.events e a.step (a.step, [], sym (append-nil a.step), a.follows, refl)

-- a step that writes nothing
pub same-says : (m n : Machine) (e : Event) (q : ℕ) → IsUnwritten e → IsAfter m e n → journal.wrote n.journal q ≡ journal.wrote m.journal q
same-says m n e q plain a = step-says m n e q a ∙ unwritten q e plain n.events a.follows.own (journal.wrote m.journal q) a.follows.own_are

-- one of a client that may write has its record
own-wrote : (m n : Machine) (c : ℕ) (bytes : List ℕ) → Written m n c bytes → (a : IsAfter m (event.Write c bytes) n) → a.follows.own ≡ rec.Wrote c bytes ∷ []
own-wrote m n c bytes w a = ⊎_elim (λ (is : a.follows.own ≡ rec.Wrote c bytes ∷ []). is) (λ (none : a.follows.own ≡ []). absurd (nothing none)) a.follows.own_are where
  rows : a.step ≡ rec.Event (m.events + 1) (event.Write c bytes) ∷ rec.Wrote w.by bytes ∷ w.rows
  rows = append_cancel_left m.journal a.step (rec.Event (m.events + 1) (event.Write c bytes) ∷ rec.Wrote w.by bytes ∷ w.rows) (sym a.is ∙ w.is)

  behind : (i j : ℕ) (e : Event) (r : Rec) (xs ys : List Rec) → ◌≡◌ {A = List Rec} (rec.Event i e ∷ xs) (rec.Event j e ∷ r ∷ ys) → xs ≡ r ∷ ys
  behind i j e r xs ys is = cc

  nothing : a.follows.own ≡ [] → ⊥
  nothing none =
      let all : a.step ≡ rec.Event n.events (event.Write c bytes) ∷ a.follows.others = a.follows.is ∙ ap (λ (own : List Rec). (rec.Event n.events (event.Write c bytes) ∷ own) ++ a.follows.others) none in
      let others : a.follows.others ≡ rec.Wrote w.by bytes ∷ w.rows = behind n.events (m.events + 1) (event.Write c bytes) (rec.Wrote w.by bytes) a.follows.others w.rows (sym all ∙ rows) in
      let both : false ≡ true = sym (ap (λ (rs : List Rec). list_all (λ r. not (is_own r)) rs) others) ∙ a.follows.alone in
      cc

pub write-says : (m n : Machine) (c : ℕ) (bytes : List ℕ) (q : ℕ) → Written m n c bytes → IsAfter m (event.Write c bytes) n → journal.wrote n.journal q ≡ journal.wrote m.journal q ++ cond (nat_eq c q) bytes []
write-says m n c bytes q w a =
    step-says m n (event.Write c bytes) q a ∙ ap (λ (own : List Rec). fold (wrote_step q) (journal.wrote m.journal q) (rec.Event n.events (event.Write c bytes) ∷ own)) (own-wrote m n c bytes w a) ∙ go (nat_eq c q) where
      go : (b : Bool) → cond b (journal.wrote m.journal q ++ bytes) (journal.wrote m.journal q) ≡ journal.wrote m.journal q ++ cond b bytes []
      go true = refl
      go false = sym (append-nil (journal.wrote m.journal q))
