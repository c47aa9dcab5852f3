-- What is so of each rule, weaker or together, and laws of connections that the schedule did not touch.
use Rattle.std.proofs.Common.{◌≡◌, ℕ, List, [], ◌∷◌, ◌++◌, map, Bool, true, false, cond, refl, sym, ap, ◌∙◌}
use Rattle.std.proofs.lemmas.List.Sums.{fold-append}
use Rattle.std.specs.List.{fold}
use Rattle.lard_base.specs.declared.event.Event.TheVariants as event
use Rattle.lard_law_view.specs.Prelude.{Came, ClientRules, Conn, EachRow, FrontRules, Guarded, GuardedIsLaw, IsGuardedLaw, IsLaw, MayRestOn, Move, NodeRules, Rec, Row, Rules, Seen, Setting, Station, Tale, Untouched, UntouchedIsLaw, UntouchedRules, WhileUntouched, client_begins, client_does, client_injects, grown, inject_seen, rows_of, seen_in, seen_step, tale_at, tale_of, tale_step, untold}
use Rattle.lard_law_view.proofs.EachClient.{client-each, client_goes, each-client}
use Rattle.lard_history.proofs.Lifting.{each_row-append}
use Rattle.lard_history.proofs.Seeing.{same_number}
use Rattle.lard_journal.specs.declared.rec.Rec.TheVariants as rec
use Rattle.lard_law_view.proofs.Untouched.{touched-stays}

module _ (k : Setting) (P Q : Conn → Move → Type 0) where
  -- ---- less is so of each rule, where more is

  module _ (w : (x : Conn) (v : Move) → P x v → Q x v) where
    pub client-weaker : ClientRules k P → ClientRules k Q
    client-weaker R = each-client k Q (record {
      opens = λ x isn iss wnd mss rule none. w x (client_begins x isn iss wnd mss) (R.opens x isn iss wnd mss rule none);
      does = λ x s g there comes. w x (client_goes x s g) ((client-each k P R).does x s g there comes);
    })

    pub front-weaker : FrontRules k P → FrontRules k Q
    front-weaker R = record {
      hears = λ x s env bytes there is iss was. w x _ (R.hears x s env bytes there is iss was);
      fires = λ x s env there is. w x _ (R.fires x s env there is);
      taken = λ x env n epoch bytes is spells was. w x _ (R.taken x env n epoch bytes is spells was);
      asked = λ x env n epoch z queue size paths bytes is spells was. w x _ (R.asked x env n epoch z queue size paths bytes is spells was);
      ended = λ x env n epoch reason snd rcv count bytes is spells was. w x _ (R.ended x env n epoch reason snd rcv count bytes is spells was);
      returned = λ x env n epoch given bytes is spells was. w x _ (R.returned x env n epoch given bytes is spells was);
      admitted = λ x env choice given is e. w x _ (R.admitted x env choice given is e);
    }

    pub node-weaker : NodeRules k P → NodeRules k Q
    node-weaker R = record {
      offered = λ x n epoch env parts bytes is spells was. w x _ (R.offered x n epoch env parts bytes is spells was);
      forwarded = λ x n epoch env segment bytes is spells was. w x _ (R.forwarded x n epoch env segment bytes is spells was);
      tagged = λ x n epoch z ns env bytes is spells was. w x _ (R.tagged x n epoch z ns env bytes is spells was);
      content = λ x n from epoch r env file bytes is spells was. w x _ (R.content x n from epoch r env file bytes is spells was);
      acknowledged = λ x n epoch back env bytes is spells was. w x _ (R.acknowledged x n epoch back env bytes is spells was);
      read = λ x n epoch r env path is. w x _ (R.read x n epoch r env path is);
      fires = λ x s n env there is. w x _ (R.fires x s n env there is);
      answers = λ x n from epoch r path file bytes there spells was. w x _ (R.answers x n from epoch r path file bytes there spells was);
      queues = λ x n from epoch r path file bytes there spells was. w x _ (R.queues x n from epoch r path file bytes there spells was);
      brings = λ x n from epoch r path. w x _ (R.brings x n from epoch r path);
    }

    pub untouched-weaker : UntouchedRules k P → UntouchedRules k Q
    untouched-weaker R = record {
      client = client-weaker R.client;
      front = front-weaker R.front;
      node = node-weaker R.node;
      ignores = λ x from to bytes was. w x _ (R.ignores x from to bytes was);
    }

    pub weaker : Rules k P → Rules k Q
    weaker R = record {
      untouched = untouched-weaker R.untouched;
      injects = λ x s bytes there rule. w x _ (R.injects x s bytes there rule);
    }

  -- ---- two facts of each rule at once

  pub client-both : ClientRules k P → ClientRules k Q → ClientRules k (λ x v. P x v × Q x v)
  client-both R S = each-client k (λ x v. P x v × Q x v) (record {
    opens = λ x isn iss wnd mss rule none. (R.opens x isn iss wnd mss rule none, S.opens x isn iss wnd mss rule none);
    does = λ x s g there comes. ((client-each k P R).does x s g there comes, (client-each k Q S).does x s g there comes);
  })

  pub front-both : FrontRules k P → FrontRules k Q → FrontRules k (λ x v. P x v × Q x v)
  front-both R S = record {
    hears = λ x s env bytes there is iss was. (R.hears x s env bytes there is iss was, S.hears x s env bytes there is iss was);
    fires = λ x s env there is. (R.fires x s env there is, S.fires x s env there is);
    taken = λ x env n epoch bytes is spells was. (R.taken x env n epoch bytes is spells was, S.taken x env n epoch bytes is spells was);
    asked = λ x env n epoch z queue size paths bytes is spells was. (R.asked x env n epoch z queue size paths bytes is spells was, S.asked x env n epoch z queue size paths bytes is spells was);
    ended = λ x env n epoch reason snd rcv count bytes is spells was. (R.ended x env n epoch reason snd rcv count bytes is spells was, S.ended x env n epoch reason snd rcv count bytes is spells was);
    returned = λ x env n epoch given bytes is spells was. (R.returned x env n epoch given bytes is spells was, S.returned x env n epoch given bytes is spells was);
    admitted = λ x env choice given is e. (R.admitted x env choice given is e, S.admitted x env choice given is e);
  }

  pub node-both : NodeRules k P → NodeRules k Q → NodeRules k (λ x v. P x v × Q x v)
  node-both R S = record {
    offered = λ x n epoch env parts bytes is spells was. (R.offered x n epoch env parts bytes is spells was, S.offered x n epoch env parts bytes is spells was);
    forwarded = λ x n epoch env segment bytes is spells was. (R.forwarded x n epoch env segment bytes is spells was, S.forwarded x n epoch env segment bytes is spells was);
    tagged = λ x n epoch z ns env bytes is spells was. (R.tagged x n epoch z ns env bytes is spells was, S.tagged x n epoch z ns env bytes is spells was);
    content = λ x n from epoch r env file bytes is spells was. (R.content x n from epoch r env file bytes is spells was, S.content x n from epoch r env file bytes is spells was);
    acknowledged = λ x n epoch back env bytes is spells was. (R.acknowledged x n epoch back env bytes is spells was, S.acknowledged x n epoch back env bytes is spells was);
    read = λ x n epoch r env path is. (R.read x n epoch r env path is, S.read x n epoch r env path is);
    fires = λ x s n env there is. (R.fires x s n env there is, S.fires x s n env there is);
    answers = λ x n from epoch r path file bytes there spells was. (R.answers x n from epoch r path file bytes there spells was, S.answers x n from epoch r path file bytes there spells was);
    queues = λ x n from epoch r path file bytes there spells was. (R.queues x n from epoch r path file bytes there spells was, S.queues x n from epoch r path file bytes there spells was);
    brings = λ x n from epoch r path. (R.brings x n from epoch r path, S.brings x n from epoch r path);
  }

  pub untouched-both : UntouchedRules k P → UntouchedRules k Q → UntouchedRules k (λ x v. P x v × Q x v)
  untouched-both R S = record {
    client = client-both R.client S.client;
    front = front-both R.front S.front;
    node = node-both R.node S.node;
    ignores = λ x from to bytes was. (R.ignores x from to bytes was, S.ignores x from to bytes was);
  }

  pub both : Rules k P → Rules k Q → Rules k (λ x v. P x v × Q x v)
  both R S = record {
    untouched = untouched-both R.untouched S.untouched;
    injects = λ x s bytes there rule. (R.injects x s bytes there rule, S.injects x s bytes there rule);
  }

-- ---- once touched, a connection stays so

-- it was not touched before, where it is not now
pub untouched-before : (x : Conn) (v : Move) → (tale_at (grown x v)).touched ≡ false → (tale_at x).touched ≡ false
untouched-before x v e = go (tale_at x).touched refl where
  go : (b : Bool) → (tale_at x).touched ≡ b → b ≡ false
  go false t = refl
  go true t =
      let later : (tale_at (grown x v)).touched ≡ true =
      ap (λ (t : Tale). t.touched) (fold-append (seen_step (tale_step x.c)) untold x.seen (seen_in x v)) ∙ touched-stays x.c (tale_at x) (seen_in x v) t in
      let no : true ≡ false = sym later ∙ e in absurd cc

-- a packet that the schedule puts on the way touches it
injected-touches : (x : Conn) (s : Station) (bytes : List ℕ) → (tale_at (grown x (client_does x s (inject_seen x.c bytes) (client_injects s.client bytes)))).touched ≡ true
injected-touches x s bytes =
    let v : Move = client_does x s (inject_seen x.c bytes) (client_injects s.client bytes) in
    let u : Tale = fold (seen_step (tale_step x.c)) (tale_at x) (inject_seen x.c bytes) in
    let now : u.touched ≡ true = ap (λ b. cond b true (tale_at x).touched) (same_number x.c) in
    ap (λ (t : Tale). t.touched) (fold-append (seen_step (tale_step x.c)) untold x.seen (seen_in x v) ∙ fold-append (seen_step (tale_step x.c)) (tale_at x) v.heads (map Row (rows_of x v)))
    ∙ touched-stays x.c u (map Row (rows_of x v)) now

-- ---- a law of untouched connections is a law

with_injects : (k : Setting) (P Q : Conn → Move → Type 0) → ((x : Conn) (v : Move) → P x v → Q x v) → UntouchedRules k P
    → ((x : Conn) (s : Station) (bytes : List ℕ) → Q x (client_does x s (inject_seen x.c bytes) (client_injects s.client bytes))) → Rules k Q
with_injects k P Q w R injects = record { untouched = untouched-weaker k P Q w R; injects = λ x s bytes there rule. injects x s bytes }

pub untouched-law : UntouchedIsLaw
untouched-law k Given Inv law = record {
  begins = λ c e. law.begins c;
  moves = with_injects k (λ x v. MayRestOn Given x → (tale_at x).touched ≡ false → Inv x → Inv (grown x v))
      (λ x v. MayRestOn Given x → Untouched Inv x → Untouched Inv (grown x v))
      (λ x v moves may inv e. let before : (tale_at x).touched ≡ false = untouched-before x v e in moves may before (inv before))
      law.moves
      (λ x s bytes may inv e. let no : true ≡ false = sym (injected-touches x s bytes) ∙ e in absurd cc);
}

-- ---- with a law of its records

module _ (mine : ℕ → List Seen → Rec → Type 0) (c : ℕ) where
  -- what holds of records holds of them while untouched
  while-untouched : (past ss : List Seen) → EachRow (mine c) past ss → EachRow (WhileUntouched mine c) past ss
  while-untouched past [] e = tt
  while-untouched past (Row r ∷ ss) e = (λ u. e.0, while-untouched (past ++ Row r ∷ []) ss e.1)
  while-untouched past (Came l ∷ ss) e = while-untouched (past ++ Came l ∷ []) ss e

  -- once touched, any record may stand
  any-stands : (past ss : List Seen) → (tale_of c past).touched ≡ true → EachRow (WhileUntouched mine c) past ss
  any-stands past [] e = tt
  any-stands past (Row r ∷ ss) e = ((λ u. let no : true ≡ false = sym e ∙ u in absurd cc), any-stands (past ++ Row r ∷ []) ss (later (Row r))) where
    later : (s : Seen) → (tale_of c (past ++ s ∷ [])).touched ≡ true
    later s = ap (λ (t : Tale). t.touched) (fold-append (seen_step (tale_step c)) untold past (s ∷ [])) ∙ touched-stays c (tale_of c past) (s ∷ []) e
  any-stands past (Came l ∷ ss) e = any-stands (past ++ Came l ∷ []) ss
      (ap (λ (t : Tale). t.touched) (fold-append (seen_step (tale_step c)) untold past (Came l ∷ [])) ∙ touched-stays c (tale_of c past) (Came l ∷ []) e)

module _ (k : Setting) (Given Inv : Conn → Type 0) (mine : ℕ → List Seen → Rec → Type 0) (law : IsGuardedLaw k Given Inv mine) where
  abbrev Holds : Conn → Type 0
  Holds x = Guarded Inv mine x

  grows : (x : Conn) (v : Move) → EachRow (WhileUntouched mine x.c) [] x.seen → EachRow (WhileUntouched mine x.c) x.seen (seen_in x v) → EachRow (WhileUntouched mine x.c) [] (grown x v).seen
  grows x v past now = each_row-append (WhileUntouched mine x.c) [] x.seen (seen_in x v) past now

  moved : (x : Conn) (v : Move) → (MayRestOn Given x → (tale_at x).touched ≡ false → Inv x → Inv (grown x v) × EachRow (mine x.c) x.seen (seen_in x v))
      → MayRestOn Given x → Holds x → Holds (grown x v)
  moved x v moves may h = (
    (λ e. let before : (tale_at x).touched ≡ false = untouched-before x v e in (moves may before (h.0 before)).0),
    grows x v h.1 (by-touch (tale_at x).touched refl),
  ) where
    by-touch : (b : Bool) → (tale_at x).touched ≡ b → EachRow (WhileUntouched mine x.c) x.seen (seen_in x v)
    by-touch true t = any-stands mine x.c x.seen (seen_in x v) t
    by-touch false t = while-untouched mine x.c x.seen (seen_in x v) (moves may t (h.0 t)).1

  injects-guarded : (x : Conn) (s : Station) (bytes : List ℕ) → MayRestOn Given x → Holds x → Holds (grown x (client_does x s (inject_seen x.c bytes) (client_injects s.client bytes)))
  injects-guarded x s bytes may h =
      let v : Move = client_does x s (inject_seen x.c bytes) (client_injects s.client bytes) in
      let e : Rec = rec.Event 0 (event.Inject x.c bytes) in
      let one : List Seen = x.seen ++ Row e ∷ [] in
      let two : List Seen = one ++ Row (rec.Injected x.c) ∷ [] in
      let touched : (tale_of x.c two).touched ≡ true =
      ap (λ (t : Tale). t.touched) (fold-append (seen_step (tale_step x.c)) untold one (Row (rec.Injected x.c) ∷ [])) ∙ ap (λ b. cond b true (tale_of x.c one).touched) (same_number x.c) in (
        (λ u. let no : true ≡ false = sym (injected-touches x s bytes) ∙ u in absurd cc),
        grows x v h.1 ((λ u. law.events x.c x.seen (event.Inject x.c bytes)), ((λ u. law.injected x.c one), any-stands mine x.c two (map Row (rows_of x v)) touched)),
      )

  guarded : IsLaw k Given (Guarded Inv mine)
  guarded = record {
    begins = λ c. ((λ e. law.begins c), tt);
    moves = with_injects k (λ x v. MayRestOn Given x → (tale_at x).touched ≡ false → Inv x → Inv (grown x v) × EachRow (mine x.c) x.seen (seen_in x v))
        (λ x v. MayRestOn Given x → Holds x → Holds (grown x v)) moved law.moves injects-guarded;
  }

pub guarded-law : GuardedIsLaw
guarded-law k Given Inv mine law = guarded k Given Inv mine law
