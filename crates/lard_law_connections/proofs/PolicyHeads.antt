-- The head of the line behind a release: its notes go along with the books, behind those of the release.
use Rattle.std.proofs.Common.{◌≡◌, ℕ, ◌+◌, ◌<◌, Bool, true, cond, List, [], ◌∷◌, ◌++◌, length, is_some, Option, Some, None, refl, sym, ap, subst, ◌∙◌, arith}
use Rattle.std.specs.FinMap as map
use Rattle.lard_law_view.specs.Prelude.{AreApart, Books, ControlBlock, Dispatcher, FirstChoice, FrontPart, FrontRow, FrontSetting, FrontState, FrontTurn, IsDispatcherSound, Millis, Rec, Waiting, Waits, admitted, choice_at, dispatch_standing, ended_answer, first_answer, front_env, front_part, front_put, front_timers, handed_off, next_admission, next_admitted, nowhere, released_from, room_of, serving}
use Rattle.lard_law_connections.proofs.PolicyAsides.{IsAside}
use Rattle.lard_law_connections.proofs.PolicyLeading.{Leads, admit-leads, aside-leads, both-lead}
use Rattle.lard_law_connections.proofs.PolicyLines.{AreLined, lined-absent, target_of, targets}
use Rattle.lard_law_connections.proofs.PolicyOrder.{IsNeither, IsOrdered, alone-ordered, passed-ordered}
use Rattle.lard_law_connections.proofs.PolicyTelling.{ordered-aside, targets-other, timers-aside}
use Rattle.lard_law_connections.proofs.PolicyWaiting.{IsIdle, Leaves, both-leave, head-within, idle-leaves}
use Rattle.lard_dispatch.specs.Calls.{after_ended}
use Rattle.lard_dispatch.specs.declared.dispatch.First.TheVariants as first
use Rattle.lard_dispatch.proofs.Soundness.{HasRoom, ended-kept, free-first, is-in, released-room}
use Rattle.lard_rules.specs.FrontPlace.{HeadTurn, handed_head, head_turn, no_head}
use Rattle.lard_rules.specs.FrontSound.{OpenNodes}
use Rattle.lard_rules.proofs.FrontEnded.{IsAdmitted, head-apart, head-ended, head-full, may-end, no-room, none-here}
use Rattle.lard_rules.proofs.FrontWaiting.{waits-admitted}
use Rattle.lard_history.proofs.Each.{Each, Each-append}
use Rattle.lard_journal.specs.declared.rec.Rec.TheVariants as rec

-- Behind these notes, which lead from these books to those of a release, stands the head, where there is one. Connection c, which was released,
-- stands nowhere, and is as it was put back into this state; where somebody waited there is no room for it.
pub record HeadTells (d : Dispatcher) (c : ℕ) (now : Millis) (ins : List ℕ) (b : Books) (notes : List Rec) (r : FrontState) (h : HeadTurn) : Type 0 where
  pub leads : Leads d.config now ins b (notes ++ h.turn.notes) h.state.dispatch.books
  pub gave : Each IsAside h.turn.gave
  pub timers : (rs : List Rec) → Each IsAside rs → Each IsAside (h.timers rs)
  pub lined : AreLined (targets h.state) h.state.dispatch.books.line
  pub config : h.state.dispatch.config ≡ d.config
  pub ordered : IsOrdered d.books.line (notes ++ h.turn.notes)
  pub waits : Leaves d.books.line (notes ++ h.turn.notes) h.state.dispatch.books.line
  pub sound : IsDispatcherSound h.state.dispatch
  pub full : 0 < length d.books.line → admitted h.state.dispatch.books.loads ≡ room_of d.config
  pub first : (path : List ℕ) → h.first path ≡ first_answer h.state.dispatch path now
  pub free : dispatch_standing h.state.dispatch c ≡ nowhere
  pub same : targets h.state c ≡ targets r c

-- It is released behind these notes.
module _ (k : FrontSetting) (d : Dispatcher) (sound : IsDispatcherSound d) (ins : List ℕ) (b : Books) (c : ℕ) (in_ : IsAdmitted (dispatch_standing d c))
    (r : FrontState) (lined : AreLined (targets r) d.books.line) (before : List Rec) (idle : Each IsIdle before) (neither : Each IsNeither before)
    (released : Leads d.config k.now ins b (before ++ rec.Released c ∷ []) (released_from d.books c)) where
  abbrev notes : List Rec
  notes = before ++ rec.Released c ∷ []

  abbrev After : Dispatcher
  After = after_ended d c k.now

  abbrev after : FrontState
  after = record r { dispatch = After }

  abbrev HeadTold : HeadTurn → Type 0
  HeadTold h = HeadTells d c k.now ins b notes r h

  abbrev books_with : List Waiting → Books
  books_with line = next_admitted d.config k.now (released_from d.books c) line

  there : is_some (map.get d.books.loads.standings c) ≡ true
  there = is-in d.books.loads c (may-end d c k.now in_)

  still-sound : IsDispatcherSound After
  still-sound = ended-kept d c k.now sound there

  all-idle : Each IsIdle notes
  all-idle = Each-append IsIdle before (rec.Released c ∷ []) idle ((λ ys. refl), tt)

  alone-tells : d.books.line ≡ [] → HeadTold (no_head k after)
  alone-tells none = record {
    leads = subst (λ (l : List Waiting). Leads d.config k.now ins b (notes ++ []) (books_with l)) (sym none)
        (both-lead d.config k.now ins b (released_from d.books c) (released_from d.books c) notes [] released
        (aside-leads d.config k.now released.more (released_from d.books c) released.in_ [] tt));
    gave = tt;
    timers = λ rs asides. asides;
    lined = subst (λ (l : List Waiting). AreLined (targets after) (books_with l).line) (sym none) lined;
    config = refl;
    ordered = subst (λ (l : List Waiting). IsOrdered l (notes ++ [])) (sym none) (alone-ordered (notes ++ []));
    waits = subst (λ (l : List Waiting). Leaves d.books.line (notes ++ []) (books_with l).line) (sym none)
        (both-leave d.books.line d.books.line d.books.line notes [] (idle-leaves d.books.line notes all-idle) (idle-leaves d.books.line [] tt));
    sound = still-sound;
    full = λ some. let no : 0 < length {A = Waiting} [] = subst (λ (l : List Waiting). 0 < length l) none some in absurd (omega (arith, no));
    first = λ path. refl;
    free = none-here d c k.now in_ none;
    same = refl;
  }

  module _ (w : Waiting) (ws : List Waiting) (line : d.books.line ≡ w ∷ ws) where
    abbrev choice : FirstChoice
    choice = choice_at d.config (released_from d.books c) w.target k.now

    apart : AreApart d.books.loads.standings (w ∷ ws)
    apart = subst (AreApart d.books.loads.standings) line sound.apart

    room : HasRoom d.config (record (released_from d.books c) { line = w ∷ ws })
    room = released-room d c (w ∷ ws) sound there apart (subst (λ (l : List Waiting). 0 < length l → admitted d.books.loads ≡ room_of d.config) line sound.full)

    out : map.get (released_from d.books c).loads.standings w.c ≡ None
    out = free-first d.books.loads.standings c w ws there apart

    abbrev head_notes : ℕ → List ℕ → List Rec
    head_notes n path = rec.Admitted w.c ∷ rec.AssignedFirst w.c n path choice.node choice.add choice.remove ∷ []

    head-leads : (n : ℕ) → Leads d.config k.now released.more (released_from d.books c) (head_notes n w.target) (books_with (w ∷ ws))
    head-leads n =
        let b : Books = record (released_from d.books c) { line = ws } in
        let leads : Leads d.config k.now released.more b (head_notes n w.target) (books_with (w ∷ ws)) =
        admit-leads d.config k.now released.more b released.in_ w.c n w.target out room.room in
        record { more = leads.more; then = leads.then; in_ = leads.in_; may = leads.may; paired = leads.paired; after = leads.after }

    -- it is handed off with the path that stands in the line
    module _ (row : FrontRow) (block : ControlBlock) (count : ℕ) (path : List ℕ) (same : path ≡ w.target) where
      abbrev handed : FrontPart × FrontTurn
      handed = handed_off (front_env k after w.c 0) row (serving block count []) path choice

      abbrev state : FrontState
      state = front_put after w.c handed.0

      abbrev all_notes : List Rec
      all_notes = notes ++ head_notes (count + 1) path

      -- who is behind it waits on
      rest-lined : AreLined (targets state) ws
      rest-lined = lined-absent (targets after) (targets state) w.c (targets-other after w.c handed.0) ws apart.1
          (subst (AreLined (targets after)) line lined).1

      pub handed-tells : HeadTold (handed_head k after c w.c (Some handed))
      handed-tells = record {
        leads = subst (λ (l : List Waiting). Leads d.config k.now ins b all_notes (books_with l)) (sym line)
            (subst (λ (p : List ℕ). Leads d.config k.now ins b (notes ++ head_notes (count + 1) p) (books_with (w ∷ ws))) (sym same)
            (both-lead d.config k.now ins b (released_from d.books c) (books_with (w ∷ ws)) notes (head_notes (count + 1) w.target) released
            (head-leads (count + 1))));
        gave = (tt, tt);
        timers = λ rs asides. ordered-aside c w.c rs (front_timers w.c (front_part after w.c) handed.0) asides
            (timers-aside w.c (front_part after w.c) handed.0);
        lined = subst (λ (l : List Waiting). AreLined (targets state) (books_with l).line) (sym line) rest-lined;
        config = refl;
        ordered = subst (λ (l : List Waiting). IsOrdered l all_notes) (sym line)
            (passed-ordered w ws before c (count + 1) path choice.node choice.add choice.remove neither);
        waits = subst (λ (l : List Waiting). Leaves l all_notes (books_with l).line) (sym line)
            (both-leave (w ∷ ws) (w ∷ ws) ws notes (head_notes (count + 1) path) (idle-leaves (w ∷ ws) notes all-idle)
            (λ ys within. head-within w ws ys apart.1 within));
        sound = still-sound;
        full = λ some. head-full d c k.now in_ w ws line sound;
        first = λ path. sym (ap (λ (b : Bool). cond b first.Waits (first.Go (choice_at d.config After.books path k.now)))
            (no-room d c k.now in_ w ws line sound));
        free = head-ended d c k.now in_ w ws line;
        same = targets-other after w.c handed.0 c (λ e. head-apart d c k.now in_ w ws line (sym e));
      }

  -- the head waits, where there is one
  pub head-tells : (nodes : OpenNodes) → ((w : Waiting) (ws : List Waiting) → d.books.line ≡ w ∷ ws → Waits nodes (front_part r w.c))
      → HeadTold (head_turn k after c (ended_answer d c k.now))
  head-tells nodes waits = go d.books.line refl where
    with-head : (w : Waiting) (ws : List Waiting) (line : d.books.line ≡ w ∷ ws) (h : Waits nodes (front_part r w.c))
        → HeadTold (head_turn k after c (Some (w.c, choice_at d.config (released_from d.books c) w.target k.now)))
    with-head w ws line h =
        let choice : FirstChoice = choice_at d.config (released_from d.books c) w.target k.now in
        let own : AreLined (targets r) (w ∷ ws) = subst (AreLined (targets r)) line lined in
        let same : Some h.path ≡ Some w.target = sym h.target ∙ ap target_of (sym h.found_rest) ∙ own.0 in
        subst (λ (o : Option (FrontPart × FrontTurn)). HeadTold (handed_head k after c w.c o))
        (sym (waits-admitted (front_env k after w.c 0) nodes (front_part r w.c) choice h))
        (handed-tells w ws line h.row h.block h.rest.count h.path cc)

    go : (ws : List Waiting) → d.books.line ≡ ws → HeadTold (head_turn k after c (next_admission d.config k.now (released_from d.books c) ws))
    go [] line = alone-tells line
    go (w ∷ ws) line = with-head w ws line (waits w ws line)
