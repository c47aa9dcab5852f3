-- The step in which a connection comes back, as the laws of whole steps see it: what it comes to, by the books that release it, and by whether its
-- node was open.
use Rattle.std.proofs.Common.{◌≡◌, ℕ, Bool, cond, List, [], ◌∷◌, ◌++◌, Option, Some, None, refl}
use Rattle.lard_law_view.specs.Prelude.{Did, Dispatcher, EndpointParts, FirstChoice, FrontEnv, FrontPart, FrontRest, FrontRow, FrontSetting, FrontState, FrontTurn, IsFrontSound, Out, Place, Reading, Rec, Service, adopted, back_answer, back_part, back_rest, dispatch_standing, ended_answer, front_admitted, front_env, front_out_of, front_part, front_put, front_reads, front_rests, front_saying, next_epoch, nothing_done, parts_back, placed, reads_on, returned_row, serving, serving_settled, sets_closed, settled_by, tally_closed, turn_here}
use Rattle.lard_base.specs.declared.place.Place.TheVariants as place
use Rattle.lard_dispatch.specs.Calls.{after_ended}
use Rattle.lard_handoff_front.specs.declared.row.FrontConn.TheVariants as stage
use Rattle.lard_handoff_front.specs.declared.table.returns.Back.{Back}
use Rattle.lard_handoff_front.specs.declared.table.returns.Back.TheVariants as back
use Rattle.lard_journal.specs.declared.rec.Rec.TheVariants as rec
use Rattle.lard_rules.specs.Front.{Does, given_sent}
use Rattle.lard_rules.specs.FrontPlace.{HeadTurn, comes_back, env_behind, goes_behind, handed_head, head_turn, returned_deed, returns}
use Rattle.lard_rules.specs.FrontSound.{IsAwayAt, open_nodes_of}
use Rattle.lard_rules.proofs.FrontReturning.{back-away}

-- Nothing is done, a Give is answered again, or the connection comes back from the node where it is, with these parts.
module _ (k : FrontSetting) (s : FrontState) (sound : IsFrontSound s) (from c epoch : ℕ) (given : Option EndpointParts) (D : FrontState × Out → Type 0) where
  abbrev p : FrontPart
  p = front_part s c

  abbrev said : List (Place × List ℕ)
  said = given_sent c from epoch given

  abbrev IsAwayThere : FrontRow → Type 0
  IsAwayThere row = IsAwayAt (open_nodes_of s.dispatch) row.epoch.0 p.kept (dispatch_standing s.dispatch c) from

  pub comes-keeps : D (s, nothing_done) → D (s, front_out_of (front_saying said) [])
      → ((row : FrontRow) (parts : EndpointParts) → IsAwayThere row → parts_back p given ≡ Some parts → D (returns k s from c said row parts))
      → D (comes_back k s from c epoch given)
  comes-keeps still again new = go p.row refl (back_answer from epoch given p.row) refl (parts_back p given) refl where
    go : (o : Option FrontRow) → p.row ≡ o → (answer : Back) → back_answer from epoch given p.row ≡ answer
        → (parts : Option EndpointParts) → parts_back p given ≡ parts → D (returned_deed k s from c said o answer parts)
    go None none answer is parts are = still
    go (Some row) found (back.New next) is (Some parts) are =
        new row parts (back-away (open_nodes_of s.dispatch) from epoch given p (dispatch_standing s.dispatch c) row next found is (sound.each c)) are
    go (Some row) found (back.New next) is None are = still
    go (Some row) found back.Again is parts are = again
    go (Some row) found back.Stale is parts are = still

-- ---- it reads on

-- it is held, or placed
abbrev settled_did : FrontEnv → FrontPart → FrontRow → FrontRest → Service → Option (List ℕ) → Did
settled_did env p row rest w None =
    let given = serving_settled env.serve w in
    record { part = front_rests p row rest stage.Held given.0; turn = turn_here given.1; calls = [] }
settled_did env p row rest w (Some path) = placed env p row rest w path (env.first path)

settled-does : (env : FrontEnv) (p : FrontPart) (row : FrontRow) (rest : FrontRest) (w : Service) (o : Option (List ℕ))
    → settled_by env p row rest w o ≡ Does (settled_did env p row rest w o)
settled-does env p row rest w None = refl
settled-does env p row rest w (Some path) = refl

-- from these parts, with nothing in hand
abbrev pub first_reading : EndpointParts → Reading
first_reading parts = record { service = serving (adopted parts) parts.served []; target = None }

module _ (env : FrontEnv) (p : FrontPart) (row : FrontRow) (parts : EndpointParts) where
  abbrev x : Reading
  x = front_reads env.serve (first_reading parts)

  abbrev pub reads_did : Did
  reads_did = settled_did env (back_part p row parts) (returned_row parts row) (back_rest parts) x.service x.target

  pub reads-does : reads_on env p row parts ≡ Does reads_did
  reads-does = settled-does env (back_part p row parts) (returned_row parts row) (back_rest parts) x.service x.target

-- ---- by the books that release it

module _ (k : FrontSetting) (s : FrontState) (c : ℕ) (row : FrontRow) (parts : EndpointParts) (d : Dispatcher) where
  abbrev pub put_by : FrontState
  put_by = record (front_put s c (back_part (front_part s c) row parts)) { dispatch = after_ended d c k.now }

  -- the head behind it
  abbrev pub head_by : HeadTurn
  head_by = head_turn k put_by c (ended_answer d c k.now)

  abbrev pub env_by : FrontEnv
  env_by = env_behind k head_by c

  -- all of the step, with these notes and messages before the head
  abbrev pub back_by : List Rec → List (Place × List ℕ) → FrontState × Out
  back_by notes said = goes_behind s c notes said head_by (reads_on env_by (front_part s c) row parts)

  -- the head changes no books
  pub head-books : head_by.state.dispatch ≡ after_ended d c k.now
  head-books = by (ended_answer d c k.now) where
    handed : (q : ℕ) (o : Option (FrontPart × FrontTurn)) → (handed_head k put_by c q o).state.dispatch ≡ after_ended d c k.now
    handed q None = refl
    handed q (Some y) = refl

    by : (o : Option (ℕ × FirstChoice)) → (head_turn k put_by c o).state.dispatch ≡ after_ended d c k.now
    by None = refl
    by (Some next) = handed next.0 (front_admitted (front_env k put_by next.0 0) (front_part put_by next.0) next.1)

-- ---- by whether its node was open, which is closed then

abbrev pub closed_where : Dispatcher → ℕ → Bool → Dispatcher
closed_where d n b = cond b (record d { books = record d.books { loads = tally_closed d.books.loads n; sets = sets_closed d.books.sets n } }) d

abbrev pub notes_where : ℕ → ℕ → FrontRow → Bool → List Rec
notes_where from c row b = rec.Took place.Front c (next_epoch row) ∷ cond b (rec.Closed from ∷ []) [] ++ rec.Released c ∷ []
