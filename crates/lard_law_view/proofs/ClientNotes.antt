-- What each rule of a client says: its notes may stand, and it stands as they tell.
use Rattle.std.proofs.Common.{◌≡◌, ℕ, Bool, true, false, cond, nat_lt, List, [], ◌∷◌, ◌++◌, take, drop, Some, Result, Ok, Err, refl, sym, ap, ◌∙◌}
use Rattle.std.proofs.lemmas.Bool.{cond_both}
use Rattle.lard_law_view.specs.Prelude.{ClientBlock, ClientTale, Front, IsOpened, Place, Rec, Said, SegFault, Tale, Turn, abort_ready, aborted, client_aborts, client_after_timer, client_arrived, client_gets, client_holds, client_injects, client_opened, client_opens, client_shuts, client_speaks, client_taken, client_takes, client_tale, client_timed, client_timer, client_writes, client_written, held_on, is_writing, shut_down, silent, speaking, station_ready_of, told_on}
use Rattle.lard_history.proofs.Each.{Each, Each-append}
use Rattle.lard_journal.specs.declared.rec.Rec.TheVariants as rec
use Rattle.lard_law_view.proofs.ClientTurns.{GoesOn, aborted-on, arrived-hears, held-on, ready-to, shut-on, speaks-on, taken-on, timer-on, written-on}
use Rattle.lard_law_view.proofs.EndpointSends.{AllTo}
use Rattle.lard_law_view.proofs.Telling.{Tells}

-- what a client notes in its turn
abbrev pub IsOfClient : Rec → Type 0
IsOfClient (rec.Wrote c bytes) = Unit {0}
IsOfClient (rec.Accepted c bytes) = Unit {0}
IsOfClient (rec.Eof c) = Unit {0}
IsOfClient (rec.Aborted c) = Unit {0}
IsOfClient _ = ⊥

module _ (stream c iss : ℕ) (u : Tale) where
  abbrev IsClientAt : ClientBlock → ClientTale → Type 0
  IsClientAt x t = IsOpened c (record { client = x; iss = iss }) t

  -- the client after its rule, and its turn, where so much was told of it before
  pub record ClientSays (given : ClientBlock × Turn) : Type 0 where
    pub told : Tells stream c u given.1.notes
    pub notes : Each IsOfClient given.1.notes
    pub stands : IsOpened c (record { client = given.0; iss = iss }) (client_tale (told_on c u given.1.notes))
    pub to : AllTo Front given.1.segments

  goes-at : (x y : ClientBlock) (t : ClientTale) → GoesOn x y → IsClientAt x t → IsClientAt y t
  goes-at x y t on h = record {
    number = on.number ∙ h.number;
    numbers = h.numbers ∙ ap (λ n. Some (record { isn = n; iss = iss })) (sym on.first);
    writes = λ w. h.writes (on.writes w);
  }

  speaking-says : (x : ClientBlock) (notes : List Rec) (segments : List (Place × List ℕ)) → Tells stream c u notes → Each IsOfClient notes
      → IsClientAt x (client_tale (told_on c u notes)) → AllTo Front segments → ClientSays (speaking notes segments x)
  speaking-says x notes segments told of stands to =
      let spoken = speaks-on x in
      record {
        told = told;
        notes = of;
        stands = goes-at x (client_speaks x).1 (client_tale (told_on c u notes)) spoken.on stands;
        to = Each-append (λ s. s.0 ≡ Front) segments (client_speaks x).0 to spoken.to;
      }

  silent-says : (x : ClientBlock) → IsClientAt x (client_tale u) → ClientSays (x, silent)
  silent-says x h = record { told = tt; notes = tt; stands = h; to = tt }

  -- ---- rule by rule

  pub opens-says : (isn wnd mss : ℕ) → u.numbers ≡ Some (record { isn = isn; iss = iss }) → u.has_closed ≡ false → ClientSays (client_opens c isn wnd mss)
  opens-says isn wnd mss n w = speaking-says (client_opened c isn wnd mss) [] [] tt tt (record { number = refl; numbers = n; writes = λ h. w }) tt

  pub shuts-says : (x : ClientBlock) → x.c ≡ c → u.numbers ≡ Some (record { isn = x.send.iss; iss = iss }) → ClientSays (client_shuts x)
  shuts-says x n k =
      let shut = shut-on x in
      let on = shut.0 in
      let no : is_writing (shut_down x) ≡ false = shut.1 in
      speaking-says (shut_down x) [] [] tt tt (record { number = on.number ∙ n; numbers = k ∙ ap (λ n. Some (record { isn = n; iss = iss })) (sym on.first); writes = λ w. absurd (cc) }) tt

  module _ (x : ClientBlock) (h : IsClientAt x (client_tale u)) where
    pub writes-says : (bytes : List ℕ) → ClientSays (client_writes x bytes)
    writes-says bytes = cond_both {A = ClientBlock × Turn} (is_writing x) (speaking (rec.Wrote x.c bytes ∷ []) [] (client_written x bytes)) (x, silent) ClientSays
        (λ t.
        let on = written-on x bytes in
        speaking-says (client_written x bytes) (rec.Wrote x.c bytes ∷ []) [] ((h.number, h.writes t), tt) (tt, tt)
        (record { number = on.number ∙ h.number; numbers = h.numbers ∙ ap (λ n. Some (record { isn = n; iss = iss })) (sym on.first); writes = λ w. h.writes t }) tt)
        (λ t. silent-says x h)

    pub injects-says : (bytes : List ℕ) → ClientSays (client_injects x bytes)
    injects-says bytes = record { told = tt; notes = tt; stands = h; to = (refl, tt) }

    pub holds-says : ClientSays (client_holds x)
    holds-says = speaking-says (held_on x) [] [] tt tt (goes-at x (held_on x) (client_tale u) (held-on x) h) tt

    pub takes-says : ClientSays (client_takes x)
    takes-says = speaking-says (client_taken x) [] [] tt tt (goes-at x (client_taken x) (client_tale u) (taken-on x) h) tt

    pub timer-says : ClientSays (client_timer x)
    timer-says = speaking-says (client_after_timer x) [] (station_ready_of (client_after_timer x) (client_timed x)) tt tt (goes-at x (client_after_timer x) (client_tale u) (timer-on x) h) (ready-to (client_after_timer x) (client_timed x))

    pub aborts-says : ClientSays (client_aborts x)
    aborts-says =
        let done = aborted-on x in
        let on = done.0 in
        let no : is_writing (aborted x) ≡ false = done.1 in
        record {
          told = (h.number, tt);
          notes = (tt, tt);
          stands = record { number = on.number ∙ h.number; numbers = h.numbers ∙ ap (λ n. Some (record { isn = n; iss = iss })) (sym on.first); writes = λ w. absurd (cc) };
          to = ready-to (aborted x) (abort_ready x);
        }

    -- ---- segments that come

    abbrev noted : Bool → List ℕ → Bool → ℕ → List Rec
    noted b bytes d n = cond b (rec.Accepted n bytes ∷ []) [] ++ cond d (rec.Eof n ∷ []) []

    noted-says : (b : Bool) (bytes : List ℕ) (d : Bool) (y : ClientBlock) (segments : List (Place × List ℕ)) → GoesOn x y → (d ≡ true → is_writing y ≡ false) → AllTo Front segments
        → ClientSays (speaking (noted b bytes d y.c) segments y)
    noted-says false bytes false y segments on ends to = speaking-says y [] segments tt tt (goes-at x y (client_tale u) on h) to
    noted-says true bytes false y segments on ends to =
        let k = goes-at x y (client_tale u) on h in
        speaking-says y (rec.Accepted y.c bytes ∷ []) segments (k.number, tt) (tt, tt) (record { number = k.number; numbers = k.numbers; writes = k.writes }) to
    noted-says false bytes true y segments on ends to =
        let k = goes-at x y (client_tale u) on h in
        let no : is_writing y ≡ false = ends refl in
        speaking-says y (rec.Eof y.c ∷ []) segments (k.number, tt) (tt, tt) (record { number = k.number; numbers = k.numbers; writes = λ w. absurd (cc) }) to
    noted-says true bytes true y segments on ends to =
        let k = goes-at x y (client_tale u) on h in
        let no : is_writing y ≡ false = ends refl in
        speaking-says y (rec.Accepted y.c bytes ∷ rec.Eof y.c ∷ []) segments (k.number, (k.number, tt)) (tt, (tt, tt)) (record { number = k.number; numbers = k.numbers; writes = λ w. absurd (cc) }) to

    pub gets-says : (r : Result Said SegFault) → ClientSays (client_gets x r)
    gets-says (Err fault) = silent-says x h
    gets-says (Ok s) =
        let r = client_arrived x s in
        let hears = arrived-hears x s in
        noted-says (nat_lt 0 r.0.len) (take r.0.len (drop r.0.from s.payload)) r.0.eof r.1 (station_ready_of r.1 r.0.reply) hears.on hears.ended (ready-to r.1 r.0.reply)
