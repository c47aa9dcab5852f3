-- What a client notes and sends has a byte.
use Rattle.std.proofs.Common.{◌≡◌, ℕ, ◌-◌, ◌≤◌, Bool, true, false, cond, nat_lt, List, [], ◌∷◌, ◌++◌, length, min, take, drop, Result, Ok, Err, sym, ap, ◌∙◌, arith, length-drop}
use Rattle.std.proofs.lemmas.Bool.{cond_both, ltb-true}
use Rattle.std.proofs.lemmas.List.{length-take}
use Rattle.lard_law_view.specs.Prelude.{ClientBlock, ClientFires, ClientGets, ClientReceives, FilesAt, Heard, IsAwaitedPart, Place, Rec, Said, SegFault, ToAbort, ToClient, ToGet, ToHold, ToShut, ToTake, ToWrite, Turn, abort_ready, aborted, accepted_note, client_after_timer, client_arrived, client_gets, client_injects, client_opened, client_opens, client_room, client_rule, client_speaks, client_taken, client_timed, client_writes, client_written, counts, decoded, eof_note, held_on, is_writing, known, request, shut_down, silent, speaking, station_ready_of}
use Rattle.lard_client.proofs.Counting.{arrived-awaited}
use Rattle.lard_history.proofs.Each.{Each, Each-append}
use Rattle.lard_journal.specs.declared.rec.Rec.TheVariants as rec
use Rattle.lard_laws.proofs.FormedTold.{IsToldSo}
use Rattle.lard_laws.proofs.FormedSegments.{HasByte, client-says, station-says}

-- ---- what is accepted

-- a part that is taken has as many bytes as are counted
part-long : (b : Bool) (len room : ℕ) (rest part : List ℕ) → len ≡ cond b (min (length rest) room) 0 → part ≡ cond b (take room rest) [] → len ≤ length part
part-long true len room rest part is same = let long = length-take room rest in let at = ap (λ (xs : List ℕ). length xs) same in omega (arith, is, long, at)
part-long false len room rest part is same = omega (arith, is)

-- how many there are of it
rest-long : (b : Bool) (n k room : ℕ) (rest : List ℕ) → length rest ≡ n - k → cond b (min (n - k) room) 0 ≡ cond b (min (length rest) room) 0
rest-long b n k room rest is = ap (λ (i : ℕ). cond b (min i room) 0) (sym is)

taken-long : (x : ClientBlock) (s : Said) → (client_arrived x s).0.len ≤ length (take (client_arrived x s).0.len (drop (client_arrived x s).0.from s.payload))
taken-long x s =
    let h : Heard = (client_arrived x s).0 in
    let is : IsAwaitedPart x s h = arrived-awaited x s in
    let rest : List ℕ = drop (known x s) s.payload in
    part-long (counts x s) h.len (client_room x) rest (take h.len (drop h.from s.payload)) (is.len ∙ rest-long (counts x s) (length s.payload) (known x s) (client_room x) rest (length-drop (known x s) s.payload)) is.bytes

-- ---- rule by rule

module _ (files : FilesAt) where
  -- its notes are so, and each segment has a byte
  abbrev pub ClientFits : ClientBlock × Turn → Type 0
  ClientFits given = Each (IsToldSo files) given.1.notes × Each HasByte given.1.segments

  speaking-fits : (notes : List Rec) (segments : List (Place × List ℕ)) (x : ClientBlock) → Each (IsToldSo files) notes → Each HasByte segments → ClientFits (speaking notes segments x)
  speaking-fits notes segments x h sent = (h, Each-append HasByte segments (client_speaks x).0 sent (client-says x))

  pub opens-fits : (c isn wnd mss : ℕ) → ClientFits (client_opens c isn wnd mss)
  opens-fits c isn wnd mss = speaking-fits [] [] (client_opened c isn wnd mss) tt tt

  pub injects-fits : (x : ClientBlock) (bytes : List ℕ) → 1 ≤ length bytes → ClientFits (client_injects x bytes)
  injects-fits x bytes some = (tt, (some, tt))

  writes-fits : (x : ClientBlock) (bytes : List ℕ) → 1 ≤ length bytes → ClientFits (client_writes x bytes)
  writes-fits x bytes some = cond_both {A = ClientBlock × Turn} (is_writing x) (speaking (rec.Wrote x.c bytes ∷ []) [] (client_written x bytes)) (x, silent) ClientFits
      (λ t. speaking-fits (rec.Wrote x.c bytes ∷ []) [] (client_written x bytes) (some, tt) tt) (λ t. (tt, tt))

  -- a request has a byte
  request-some : (path : List ℕ) → 1 ≤ length (request path)
  request-some path = omega arith

  accepted-told : (d : ℕ) (h : Heard) (payload : List ℕ) → h.len ≤ length (take h.len (drop h.from payload)) → Each (IsToldSo files) (accepted_note d h payload)
  accepted-told d h payload long = cond_both (nat_lt 0 h.len) (rec.Accepted d (take h.len (drop h.from payload)) ∷ []) [] (Each (IsToldSo files))
      (λ t. (let some = ltb-true 0 h.len t in omega (arith, some, long), tt)) (λ t. tt)

  eof-told : (d : ℕ) (h : Heard) → Each (IsToldSo files) (eof_note d h)
  eof-told d h = cond_both h.eof (rec.Eof d ∷ []) [] (Each (IsToldSo files)) (λ t. (tt, tt)) (λ t. tt)

  gets-fits : (x : ClientBlock) (r : Result Said SegFault) → ClientFits (client_gets x r)
  gets-fits x (Err fault) = (tt, tt)
  gets-fits x (Ok s) =
      let after : Heard × ClientBlock = client_arrived x s in
      speaking-fits (accepted_note after.1.c after.0 s.payload ++ eof_note after.1.c after.0) (station_ready_of after.1 after.0.reply) after.1
      (Each-append (IsToldSo files) (accepted_note after.1.c after.0 s.payload) (eof_note after.1.c after.0) (accepted-told after.1.c after.0 s.payload (taken-long x s)) (eof-told after.1.c after.0))
      (station-says after.1 after.0.reply)

  -- what it is told to write has a byte
  abbrev pub GetsBytes : ClientGets → Type 0
  GetsBytes (ToWrite bytes) = 1 ≤ length bytes
  GetsBytes _ = Unit {0}

  pub rule-fits : (c : ℕ) (x : ClientBlock) (g : ClientGets) → GetsBytes g → ClientFits (client_rule c x g)
  rule-fits c x (ToGet path) some = writes-fits x (request path) (request-some path)
  rule-fits c x (ToWrite bytes) some = writes-fits x bytes some
  rule-fits c x ToShut some = speaking-fits [] [] (shut_down x) tt tt
  rule-fits c x ToAbort some = ((tt, tt), station-says (aborted x) (abort_ready x))
  rule-fits c x ToHold some = speaking-fits [] [] (held_on x) tt tt
  rule-fits c x ToTake some = speaking-fits [] [] (client_taken x) tt tt
  rule-fits c x ClientFires some = speaking-fits [] (station_ready_of (client_after_timer x) (client_timed x)) (client_after_timer x) tt (station-says (client_after_timer x) (client_timed x))
  rule-fits c x (ClientReceives from bytes) some = gets-fits x (decoded bytes c ToClient)
