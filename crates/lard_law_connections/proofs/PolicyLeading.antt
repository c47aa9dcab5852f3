-- What the dispatcher does, and what is noted of it: the ledger goes along with the books, note by note.
use Rattle.std.proofs.Common.{◌≡◌, ℕ, ◌+◌, ◌<◌, nat_eq, nat_lt, not, Bool, true, false, List, [], ◌∷◌, ◌++◌, length, is_some, Option, Some, None, refl, sym, ap, ◌∙◌, subst, arith, inl, inr, ◌⊎◌, ◌≤◌}
use Rattle.std.proofs.lemmas.Bool.{cond_both, ltb-false}
use Rattle.std.proofs.lemmas.List.Sums.{fold-append}
use Rattle.std.specs.FinMap as map
use Rattle.std.specs.List.{filter, fold}
use Rattle.lard_law_view.specs.Prelude.{Ask, Books, Config, Epoch, Front, LaterChoice, Millis, Rec, Standing, Tally, Waiting, admitted, admitted_with, all_choices, all_shared, assigned_notes, batch_ended, batch_ended_with, batch_over, choice_at, has_other_open, home, home_of, is_open, later_choice_at, open_shares, over_note, put_or, released_from, room_of, sets_closed, shared, shared_with, shares_of, sharing, tally_closed}
use Rattle.lard_law_connections.proofs.PolicyAsides.{EachAfter, EachFrom, IsAside, May, after-append, asides-after, asides-may, asides-paired, asides-same, from-append, paired-append}
use Rattle.lard_law_connections.proofs.PolicyIns.{AreIn, in-less, in-more, in-not, in-same, in-there}
use Rattle.lard_law_connections.specs.PolicyLaws.{ArePaired, IsBehind}
use Rattle.lard_law_connections.specs.PolicyLaws.AssignmentDue.{Nothing}
use Rattle.lard_counts.specs.Ledger.{Ledger, ledger_step}
use Rattle.lard_dispatch.proofs.Sharing.{home-ended, home-shared, shares-ended, shares-shared}
use Rattle.lard_history.proofs.Each.{Each}
use Rattle.lard_journal.specs.declared.rec.Rec.TheVariants as rec
use Rattle.lard_loads.specs.declared.slot.Share.{Share}
use Rattle.lard_table.proofs.Map.{put_got}

-- the ledger that says what the books have
abbrev pub at : Millis → List ℕ → Books → Ledger
at now ins b = record { now = now; ins = ins; loads = b.loads; sets = b.sets }

-- who is admitted has a node
has-home : (o : Option Standing) → is_some o ≡ true → is_some (home_of o) ≡ true
has-home None h = h
has-home (Some s) h = refl

-- These notes take the ledger from what one state of the books has to what another has, and may stand there.
pub record Leads (cfg : Config) (now : Millis) (ins : List ℕ) (b : Books) (notes : List Rec) (d : Books) : Type 0 where
  pub more : List ℕ
  pub then : fold ledger_step (at now ins b) notes ≡ at now more d
  pub in_ : AreIn more d.loads.standings
  pub may : EachFrom (May cfg) (at now ins b) notes
  pub paired : ArePaired Nothing notes
  pub after : (before but_closed : Option Rec) → EachAfter before but_closed (at now ins b) notes

module _ (cfg : Config) (now : Millis) (ins : List ℕ) (b : Books) (in_ : AreIn ins b.loads.standings) where
  -- notes aside
  pub aside-leads : (notes : List Rec) → Each IsAside notes → Leads cfg now ins b notes b
  aside-leads notes asides = record { more = ins; then = asides-same (at now ins b) notes asides; in_ = in_; may = asides-may cfg (at now ins b) notes asides; paired = asides-paired notes asides; after = λ before but_closed. asides-after before but_closed (at now ins b) notes asides }

  -- ---- a first choice

  pub admit-leads : (c r : ℕ) (path : List ℕ) → map.get b.loads.standings c ≡ None → admitted b.loads < room_of cfg
      → Leads cfg now ins b (rec.Admitted c ∷ rec.AssignedFirst c r path (choice_at cfg b path now).node (choice_at cfg b path now).add (choice_at cfg b path now).remove ∷ []) (admitted_with cfg b c path now)
  admit-leads c r path free less = record {
    more = ins ++ c ∷ [];
    then = refl;
    in_ = in-more ins b.loads.standings c _ in_ free;
    may = (((subst (λ (n : ℕ). n < room_of cfg) (sym in_.many) less, in-not ins b.loads.standings c in_ free), tt), ((tt, (ap home_of free, refl)), tt));
    paired = (refl, tt);
    after = λ before but_closed. ((tt, tt), ((tt, tt), tt));
  }

  -- ---- no room

  pub wait-leads : (c : ℕ) (line : List Waiting) → admitted b.loads ≡ room_of cfg → Leads cfg now ins b (rec.Waits c ∷ []) (record b { line = line })
  wait-leads c line full = record { more = ins; then = refl; in_ = in_; may = ((in_.many ∙ full, tt), tt); paired = tt; after = λ before but_closed. ((tt, tt), tt) }

  -- ---- a release

  pub release-leads : (c : ℕ) (epoch : Epoch) → is_some (map.get b.loads.standings c) ≡ true → Leads cfg now ins b (rec.Took Front c epoch ∷ rec.Released c ∷ []) (released_from b c)
  release-leads c epoch there = record {
    more = filter (λ d. not (nat_eq c d)) ins;
    then = refl;
    in_ = in-less ins b.loads.standings c in_ there;
    may = ((tt, tt), ((in-there ins b.loads.standings c in_ there, has-home (map.get b.loads.standings c) there), tt));
    paired = tt;
    after = λ before but_closed. ((tt, tt), ((tt, refl), tt));
  }

  -- ---- a node that is closed

  pub close-leads : (n : ℕ) → is_open b.loads n ≡ true → has_other_open b.loads n ≡ true
      → Leads cfg now ins b (rec.Closed n ∷ []) (record b { loads = tally_closed b.loads n; sets = sets_closed b.sets n })
  close-leads n opened other = record { more = ins; then = refl; in_ = in_; may = ((tt, (opened, other)), tt); paired = tt; after = λ before but_closed. ((tt, tt), tt) }

  -- it is released where it comes back from a node that was open: that is closed before
  pub return-leads : (n c : ℕ) (epoch : Epoch) → is_open b.loads n ≡ true → has_other_open b.loads n ≡ true → is_some (map.get b.loads.standings c) ≡ true
      → Leads cfg now ins b (rec.Took Front c epoch ∷ rec.Closed n ∷ rec.Released c ∷ [])
      (released_from (record b { loads = tally_closed b.loads n; sets = sets_closed b.sets n }) c)
  return-leads n c epoch opened other there = record {
    more = filter (λ d. not (nat_eq c d)) ins;
    then = refl;
    in_ = in-less ins b.loads.standings c in_ there;
    may = ((tt, tt), ((tt, (opened, other)), ((in-there ins b.loads.standings c in_ there, has-home (map.get b.loads.standings c) there), tt)));
    paired = tt;
    after = λ before but_closed. ((tt, tt), ((tt, tt), ((tt, refl), tt)));
  }

-- one behind another
pub both-lead : (cfg : Config) (now : Millis) (ins : List ℕ) (b d e : Books) (xs ys : List Rec) → (one : Leads cfg now ins b xs d) → Leads cfg now one.more d ys e → Leads cfg now ins b (xs ++ ys) e
both-lead cfg now ins b d e xs ys one two = record {
  more = two.more;
  then = fold-append ledger_step (at now ins b) xs ys ∙ ap (λ (l : Ledger). fold ledger_step l ys) one.then ∙ two.then;
  in_ = two.in_;
  may = from-append (May cfg) (at now ins b) xs ys one.may (subst (λ (l : Ledger). EachFrom (May cfg) l ys) (sym one.then) two.may);
  paired = paired-append Nothing xs ys one.paired two.paired;
  after = λ before but_closed. after-append before but_closed (at now ins b) xs ys (one.after before but_closed) (λ o p. subst (λ (l : Ledger). EachAfter o p l ys) (sym one.then) (two.after o p));
}

-- behind notes aside
pub behind-asides : (cfg : Config) (now : Millis) (ins : List ℕ) (b d : Books) (xs ys : List Rec) → AreIn ins b.loads.standings → Each IsAside xs → Leads cfg now ins b ys d → Leads cfg now ins b (xs ++ ys) d
unfolding aside-leads
behind-asides cfg now ins b d xs ys in_ asides two = both-lead cfg now ins b b d xs ys (aside-leads cfg now ins b in_ xs asides) two

-- ---- later choices

module _ (cfg : Config) (now : Millis) (ask : Ask) where
  -- those who are in stay
  shared-in : (ins : List ℕ) (t : Tally) (n size : ℕ) → AreIn ins t.standings → AreIn ins (shared t ask.c n size).standings
  shared-in ins t n size h = go (map.get t.standings ask.c) refl where
    go : (o : Option Standing) → map.get t.standings ask.c ≡ o → AreIn ins (sharing t ask.c n size o).standings
    go None e = h
    go (Some s) e = cond_both (nat_eq n s.home) t _ (λ (x : Tally). AreIn ins x.standings) (λ same. h) (λ other. in-same ins t.standings ask.c s _ h e)

  ended-in : (ins : List ℕ) (t : Tally) → AreIn ins t.standings → AreIn ins (batch_ended t ask.c).standings
  ended-in ins t h = go (map.get t.standings ask.c) refl where
    go : (o : Option Standing) → map.get t.standings ask.c ≡ o → AreIn ins (batch_ended_with t ask.c o).standings
    go None e = h
    go (Some s) e = in-same ins t.standings ask.c s _ h e

  -- the notes of a batch, from a ledger on
  record Shared (ins : List ℕ) (b : Books) (notes : List Rec) (d : Books) : Type 0 where
    then : fold ledger_step (at now ins b) notes ≡ at now ins d
    in_ : AreIn ins d.loads.standings
    may : EachFrom (May cfg) (at now ins b) notes
    paired : ArePaired Nothing notes

  shares-lead : (ins : List ℕ) (r : ℕ) (paths : List (List ℕ)) (b : Books) → 1 ≤ ask.size → ask.size ≤ 8 → open_shares b.loads ask.c + length paths ≤ 8 → AreIn ins b.loads.standings → home b.loads ask.c ≡ Some ask.home
      → Shared ins b (assigned_notes ask.c ask r paths (all_choices cfg ask now paths b)) (all_shared cfg ask now paths b)
  shares-lead ins r [] b least most room in_ at_home = record { then = refl; in_ = in_; may = tt; paired = tt }
  shares-lead ins r (path ∷ paths) b least most room in_ at_home =
      let choice : LaterChoice = later_choice_at cfg b ask path in
      let opens : open_shares (shared b.loads ask.c choice.node ask.size) ask.c ≤ open_shares b.loads ask.c + 1 = shares-shared b.loads ask.c choice.node ask.size in
      let later : Shared ins (shared_with cfg b ask path now) (assigned_notes ask.c ask (r + 1) paths (all_choices cfg ask now paths (shared_with cfg b ask path now))) (all_shared cfg ask now paths (shared_with cfg b ask path now)) =
      shares-lead ins (r + 1) paths (shared_with cfg b ask path now) least most (omega (arith, room, opens)) (shared-in ins b.loads choice.node ask.size in_) (home-shared b.loads ask.c choice.node ask.size ∙ at_home) in
      record { then = later.then; in_ = later.in_; may = ((tt, (ask.home, at_home, refl, least, most, omega (arith, room))), later.may); paired = later.paired }

  -- the first of a batch finds no share open, and the others stand directly behind it
  shares-after : (ins : List ℕ) (r : ℕ) (paths : List (List ℕ)) (b : Books) (before but_closed : Option Rec) → IsBehind ask.c before ⊎ (open_shares b.loads ask.c ≡ 0)
      → EachAfter before but_closed (at now ins b) (assigned_notes ask.c ask r paths (all_choices cfg ask now paths b))
  shares-after ins r [] b before but_closed h = tt
  shares-after ins r (path ∷ paths) b before but_closed h =
      let choice : LaterChoice = later_choice_at cfg b ask path in
      let it : Option Rec = Some (rec.AssignedLater ask.c (r + 1) path choice.node choice.add ask.size ask.queue) in
      ((h, tt), shares-after ins (r + 1) paths (shared_with cfg b ask path now) it it (inl refl))

  -- the line stays
  pub line-shared : (paths : List (List ℕ)) (b : Books) → (all_shared cfg ask now paths b).line ≡ b.line
  line-shared [] b = refl
  line-shared (path ∷ paths) b = line-shared paths (shared_with cfg b ask path now)

  -- where no share is open, none ends
  none-ends : (t : Tally) → nat_lt 0 (open_shares t ask.c) ≡ false → batch_ended t ask.c ≡ t
  none-ends t none = go (map.get t.standings ask.c) refl none where
    with-shares : (s : Standing) → map.get t.standings ask.c ≡ Some s → (xs : List Share) → s.shares ≡ xs → nat_lt 0 (length xs) ≡ false → batch_ended_with t ask.c (Some s) ≡ t
    with-shares s e [] is h =
        let got : map.insert t.standings ask.c s ≡ t.standings = ap (λ (o : Option Standing). put_or t.standings ask.c o) (sym e) ∙ put_got t.standings ask.c in
        ap (λ (x : Standing). record t { standings = map.insert t.standings ask.c x }) (λ i. record { home = s.home; shares = sym is i }) ∙ (λ i. record t { standings = got i })
    with-shares s e (x ∷ xs) is h = absurd (omega (arith, ltb-false 0 (length (x ∷ xs)) h))

    go : (o : Option Standing) → map.get t.standings ask.c ≡ o → nat_lt 0 (length (shares_of o)) ≡ false → batch_ended_with t ask.c o ≡ t
    go None e h = refl
    go (Some s) e h = with-shares s e s.shares refl h

  -- the end of the shares before
  record Ends (ins : List ℕ) (b : Books) (notes : List Rec) : Type 0 where
    then : fold ledger_step (at now ins b) notes ≡ at now ins (batch_over b ask)
    in_ : AreIn ins (batch_over b ask).loads.standings
    may : EachFrom (May cfg) (at now ins b) notes
    after : (before but_closed : Option Rec) → EachAfter before but_closed (at now ins b) notes

  over-ends : (ins : List ℕ) (b : Books) → AreIn ins b.loads.standings → (over : Bool) → nat_lt 0 (open_shares b.loads ask.c) ≡ over → Ends ins b (over_note ask.c over)
  over-ends ins b in_ true is = record { then = refl; in_ = ended-in ins b.loads in_; may = ((tt, is), tt); after = λ before but_closed. ((tt, tt), tt) }
  over-ends ins b in_ false is = record {
    then = ap (λ (t : Tally). record { now = now; ins = ins; loads = t; sets = b.sets }) (sym (none-ends b.loads is));
    in_ = ended-in ins b.loads in_;
    may = tt;
    after = λ before but_closed. tt;
  }

  -- an assignment stands directly behind it
  batch-paired : (over : Bool) (r : ℕ) (paths : List (List ℕ)) (b : Books) → 1 ≤ length paths → ArePaired Nothing (assigned_notes ask.c ask r paths (all_choices cfg ask now paths b))
      → ArePaired Nothing (over_note ask.c over ++ assigned_notes ask.c ask r paths (all_choices cfg ask now paths b))
  batch-paired true r [] b some h = absurd (omega (arith, some))
  batch-paired true r (path ∷ paths) b some h = (refl, h)
  batch-paired false r paths b some h = h

  -- all of an Ask
  pub later-leads : (ins : List ℕ) (r : ℕ) (b : Books) → 1 ≤ length ask.paths → length ask.paths ≤ ask.size → ask.size ≤ 8 → AreIn ins b.loads.standings → home b.loads ask.c ≡ Some ask.home
      → Leads cfg now ins b (over_note ask.c (nat_lt 0 (open_shares b.loads ask.c)) ++ assigned_notes ask.c ask r ask.paths (all_choices cfg ask now ask.paths (batch_over b ask))) (all_shared cfg ask now ask.paths (batch_over b ask))
  later-leads ins r b some within most in_ at_home =
      let open_ : Bool = nat_lt 0 (open_shares b.loads ask.c) in
      let xs : List Rec = over_note ask.c open_ in
      let ys : List Rec = assigned_notes ask.c ask r ask.paths (all_choices cfg ask now ask.paths (batch_over b ask)) in
      let over : Ends ins b xs = over-ends ins b in_ open_ refl in
      let shares = shares-lead ins r ask.paths (batch_over b ask) (omega (arith, some, within)) most (let none : open_shares (batch_ended b.loads ask.c) ask.c ≡ 0 = shares-ended b.loads ask.c in omega (arith, none, within, most)) over.in_ (home-ended b.loads ask.c ∙ at_home) in
      record {
        more = ins;
        then = fold-append ledger_step (at now ins b) xs ys ∙ ap (λ (l : Ledger). fold ledger_step l ys) over.then ∙ shares.then;
        in_ = shares.in_;
        may = from-append (May cfg) (at now ins b) xs ys over.may (subst (λ (l : Ledger). EachFrom (May cfg) l ys) (sym over.then) shares.may);
        paired = batch-paired open_ r ask.paths (batch_over b ask) some shares.paired;
        after = λ before but_closed. after-append before but_closed (at now ins b) xs ys (over.after before but_closed)
            (λ o p. subst (λ (l : Ledger). EachAfter o p l ys) (sym over.then) (shares-after ins r ask.paths (batch_over b ask) o p (inr (shares-ended b.loads ask.c))));
      }
