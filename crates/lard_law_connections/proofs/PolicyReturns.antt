-- A connection that comes back from its node: the node is closed, the connection released, the head of the line admitted, and then it reads on. The
-- notes go along with the dispatcher's books.
use Rattle.std.proofs.Common.{◌≡◌, ℕ, Bool, true, false, List, [], ◌∷◌, ◌++◌, is_some, Option, refl, sym, ap, subst, ◌∙◌}
use Rattle.std.specs.FinMap as map
use Rattle.lard_law_view.specs.Prelude.{Books, Config, Did, DispatchStanding, Dispatcher, EndpointParts, FrontDeed, FrontEnv, FrontPart, FrontRow, FrontSetting, FrontState, IsDispatcherSound, IsFrontSound, Out, Place, Reading, Rec, ServerSet, after_calls, back_part, back_rest, dispatch_standing, front_part, front_put, front_reads, front_saying, front_timers, is_open, line_waits, next_epoch, reads_on, released_from, returned_row, room_of, sets_closed, tally_closed}
use Rattle.lard_base.specs.declared.place.Place.TheVariants as place
use Rattle.lard_law_connections.proofs.PolicyAsides.{IsAside}
use Rattle.lard_law_connections.proofs.PolicyFronts.{DeedTells, Tells, settled-tells}
use Rattle.lard_law_connections.proofs.PolicyHeads.{HeadTells, head-tells}
use Rattle.lard_law_connections.proofs.PolicyIns.{AreIn}
use Rattle.lard_law_connections.proofs.PolicyLeading.{Leads, both-lead, release-leads, return-leads}
use Rattle.lard_law_connections.proofs.PolicyLines.{AreLined, targets}
use Rattle.lard_law_connections.proofs.PolicyOrder.{IsNeither, both-ordered}
use Rattle.lard_law_connections.proofs.PolicyReading.{reads-notes}
use Rattle.lard_law_connections.proofs.PolicyTelling.{StepTells, put-lined, says-tells, still-tells, targets-other, targets-same, timers-aside}
use Rattle.lard_law_connections.proofs.PolicyWaiting.{IsIdle, both-leave}
use Rattle.lard_law_connections.proofs.ReturnedSteps.{back_by, closed_where, comes-keeps, env_by, first_reading, head_by, notes_where, put_by, reads-does, reads_did}
use Rattle.lard_dispatch.proofs.AllCalls.{configs-stay}
use Rattle.lard_dispatch.proofs.Soundness.{close-kept, is-in}
use Rattle.lard_rules.specs.Front.{Does, given_sent}
use Rattle.lard_rules.specs.FrontPlace.{HeadTurn, comes_back, goes_behind, returns}
use Rattle.lard_rules.specs.FrontSound.{HasOther, open_nodes_of}
use Rattle.lard_rules.proofs.FrontEnded.{IsAdmitted, head-waiting, may-end}
use Rattle.lard_history.proofs.Each.{Each, Each-append}
use Rattle.lard_journal.specs.declared.rec.Rec.TheVariants as rec

module _ (k : FrontSetting) (s : FrontState) (sound : IsFrontSound s) (lined : AreLined (targets s) s.dispatch.books.line) (ins : List ℕ)
    (in_ : AreIn ins s.dispatch.books.loads.standings) where
  abbrev Fine : FrontState × Out → Type 0
  Fine x = StepTells k s ins x

  module _ (from c : ℕ) (other : HasOther s from) (said : List (Place × List ℕ)) (row : FrontRow) (parts : EndpointParts)
      (at : IsAdmitted (dispatch_standing s.dispatch c)) where
    abbrev part : FrontPart
    part = back_part (front_part s c) row parts

    -- ---- behind a release by these books

    module _ (open_nodes : List ℕ) (sets : List (List ℕ × ServerSet)) where
      abbrev d : Dispatcher
      d = record s.dispatch { books = record s.dispatch.books { loads = record s.dispatch.books.loads { open_nodes = open_nodes }; sets = sets } }

      abbrev put : FrontState
      put = put_by k s c row parts d

      abbrev h : HeadTurn
      h = head_by k s c row parts d

      abbrev env : FrontEnv
      env = env_by k s c row parts d

      module _ (notes : List Rec) (t : HeadTells d c k.now ins s.dispatch.books notes put h) where
        abbrev heads : List Rec
        heads = notes ++ h.turn.notes

        does-tells : (x : Did) → Tells h.state.dispatch c k.now t.leads.more part x → Fine (goes_behind s c notes said h (Does x))
        does-tells x tells =
            let after : Books = (after_calls h.state.dispatch x.calls).books in
            let led : Leads s.dispatch.config k.now t.leads.more h.state.dispatch.books x.turn.notes after =
            subst (λ (cfg : Config). Leads cfg k.now t.leads.more h.state.dispatch.books x.turn.notes after) t.config tells.leads in
            record {
              leads = both-lead s.dispatch.config k.now ins s.dispatch.books h.state.dispatch.books after heads x.turn.notes t.leads led;
              gave = Each-append IsAside h.turn.gave x.turn.gave t.gave tells.gave;
              timers = t.timers (front_timers c (front_part s c) x.part) (timers-aside c (front_part s c) x.part);
              lined = tells.lines (targets h.state) (targets (front_put h.state c x.part)) (targets-other h.state c x.part)
                  (t.same ∙ targets-same s c part) (targets-same h.state c x.part) t.lined;
              config = configs-stay h.state.dispatch x.calls ∙ t.config;
              ordered = both-ordered s.dispatch.books.line heads x.turn.notes t.ordered
                  (tells.ordered s.dispatch.books.line (λ some. t.full some ∙ ap room_of (sym t.config)));
              waits = both-leave s.dispatch.books.line h.state.dispatch.books.line after.line heads x.turn.notes t.waits tells.waits;
            }

        read-tells : Fine (back_by k s c row parts d notes said)
        read-tells =
            let x : Reading = front_reads env.serve (first_reading parts) in
            let tells : DeedTells h.state.dispatch c k.now t.leads.more part (reads_on env (front_part s c) row parts) =
            settled-tells h.state.dispatch t.leads.more t.leads.in_ t.sound env (record { first = t.first; later = λ ask. refl }) part t.free
            (returned_row parts row) (back_rest parts) x.service (reads-notes env.serve (first_reading parts) tt) x.target in
            let does : reads_on env (front_part s c) row parts ≡ Does (reads_did env (front_part s c) row parts) = reads-does env (front_part s c) row parts in
            subst (λ (deed : FrontDeed). Fine (goes_behind s c notes said h deed)) (sym does)
            (does-tells (reads_did env (front_part s c) row parts) (subst (DeedTells h.state.dispatch c k.now t.leads.more part) does tells))

      -- what is noted before the release
      released-tells : IsDispatcherSound d → (before : List Rec) → Each IsIdle before → Each IsNeither before
          → Leads s.dispatch.config k.now ins s.dispatch.books (before ++ rec.Released c ∷ []) (released_from d.books c)
          → Fine (back_by k s c row parts d (before ++ rec.Released c ∷ []) said)
      released-tells books before idle neither leads =
          let free : line_waits s.dispatch.books.line c ≡ false = ap (λ (x : DispatchStanding). x.waits) at.1 in
          let held : Did = record { part = part; turn = front_saying []; calls = [] } in
          read-tells (before ++ rec.Released c ∷ [])
          (head-tells k d books ins s.dispatch.books c at put (put-lined s c part free lined) before idle neither leads (open_nodes_of s.dispatch) (head-waiting k s sound c held at))

    -- ---- its node is closed, where it was open

    returned-tells : Fine (returns k s from c said row parts)
    returned-tells = go (is_open s.dispatch.books.loads from) refl (close-kept s.dispatch from sound.books other) where
      there : is_some (map.get s.dispatch.books.loads.standings c) ≡ true
      there = is-in s.dispatch.books.loads c (may-end s.dispatch c k.now at)

      taken : Rec
      taken = rec.Took place.Front c (next_epoch row)

      go : (b : Bool) → is_open s.dispatch.books.loads from ≡ b → IsDispatcherSound (closed_where s.dispatch from b)
          → Fine (back_by k s c row parts (closed_where s.dispatch from b) (notes_where from c row b) said)
      go true opened books = released-tells (tally_closed s.dispatch.books.loads from).open_nodes (sets_closed s.dispatch.books.sets from) books
          (taken ∷ rec.Closed from ∷ []) ((λ ys. refl), ((λ ys. refl), tt)) (tt, (tt, tt))
          (return-leads s.dispatch.config k.now ins s.dispatch.books in_ from c (next_epoch row) opened other there)
      go false closed books = released-tells s.dispatch.books.loads.open_nodes s.dispatch.books.sets books (taken ∷ []) ((λ ys. refl), tt) (tt, tt)
          (release-leads s.dispatch.config k.now ins s.dispatch.books in_ c (next_epoch row) there)

  pub back-tells : (from c epoch : ℕ) (given : Option EndpointParts) → HasOther s from → Fine (comes_back k s from c epoch given)
  back-tells from c epoch given other =
      let said : List (Place × List ℕ) = given_sent c from epoch given in
      comes-keeps k s sound from c epoch given Fine (still-tells k s lined ins in_)
      (says-tells k s lined ins in_ (front_saying said) (record { notes = refl; gave = refl }))
      (λ row parts away are. returned-tells from c other said row parts (from, away.stands))
