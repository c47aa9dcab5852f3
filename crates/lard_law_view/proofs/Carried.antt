-- A law of one connection is a law of each connection in every state that events lead to.
use Rattle.std.proofs.Common.{◌≡◌, ℕ, List, [], ◌∷◌, ◌++◌, Some, None, Ok, refl, sym, ap, ◌∙◌, subst, inl, inr, ⊎_elim, Bool, false}
use Rattle.lard_law_view.specs.Prelude.{AreNumbered, Carries, Config, Conn, Event, GoesBy, HasRule, IsConnNumber, IsConnSound, IsLaw, IsReached, IsViewed, IsViewedAlways, Machine, MayRestOn, Move, NodeState, Rules, Setting, StepsMove, blank_conn, conn, file_at, grown, which_leave, machine_start, machine_step, no_stays, node_leaves, setting, setting_of, with_leaving}
use Rattle.lard_law_view.proofs.After.{IsAfter, step-after}
use Rattle.lard_law_view.proofs.Fine.{IsFine, fine}
use Rattle.lard_law_view.proofs.Runs.{length-replicated, of-nodes, passes-keep, passes-more, start-blank}
use Rattle.lard_law_view.proofs.Steps.{IsShown, step_comes}

-- each connection stays, or makes one move of one rule
pub step_moves : StepsMove
step_moves m n e P view R rule is q = ⊎_elim
    (λ (same : conn n q ≡ conn m q). inl same)
    (λ (k : (v : Move) × (IsShown m e (conn m q) v × P (conn m q) v) × (conn n q ≡ grown (conn m q) v)). inr (k.0, (k.1.0.number, k.1.1), k.2))
    (step_comes m n e P view R rule is q)

-- ---- what the view rests on

-- what holds of x, and of a connection where it goes
pub gone : (Inv : Conn → Type 0) (P : Conn → Move → Type 0) (x y : Conn) → Inv x → ((v : Move) → P x v → Inv (grown x v)) → GoesBy P x y → Inv y
gone Inv P x y held grows goes = ⊎_elim
    (λ (same : y ≡ x). subst Inv (sym same) held)
    (λ (k : (v : Move) × P x v × (y ≡ grown x v)). subst Inv (sym k.2) (grows k.0 k.1))
    goes

pub viewed-kept : (m n : Machine) (e : Event) → IsViewed m → HasRule e → machine_step m e ≡ Ok n → IsViewed n
viewed-kept m n e view rule is =
    let after : IsAfter m e n = step-after m view e n rule is in
    let goes = step_moves m n e IsFine view (fine (setting_of m)) rule is in
    record {
      sound = λ q. gone IsConnSound (λ x v. IsConnNumber x.c × IsFine x v) (conn m q) (conn n q) (view.sound q) (λ v good. (good.1 good.0 (view.sound q)).1) (goes q);
      told = after.told;
      nodes = after.nodes ∙ view.nodes ∙ ap (λ (c : Config). c.nodes) (sym after.config);
      jobs = after.jobs view.jobs;
      remain = after.remain view.remain;
    }

blank-sound : (c : ℕ) → IsConnSound (blank_conn c)
blank-sound c = record { number = inr refl; between = tt; client = λ s e. let no : None ≡ Some s = e in absurd cc; front = tt; kept = λ n. tt; fetches = λ n. tt }

pub start-viewed : (config : Config) (files : List (List ℕ × List ℕ)) → IsViewed (machine_start config files)
start-viewed config files = record {
  sound = λ q. subst IsConnSound (sym (start-blank config files q)) (blank-sound q);
  told = refl;
  nodes = length-replicated (no_stays config.cache) config.nodes;
  jobs = λ n s at. of-nodes (λ o. o ≡ Some s → AreNumbered s.disk) config.nodes (no_stays config.cache)
      (λ e. let no : None ≡ Some s = e in absurd cc)
      (λ e. let same : no_stays config.cache ≡ s = cc in subst (λ (x : NodeState). AreNumbered x.disk) same tt)
      n at;
  remain = λ n s at. of-nodes (λ o. o ≡ Some s → node_leaves s ≡ false) config.nodes (no_stays config.cache)
      (λ e. let no : None ≡ Some s = e in absurd cc)
      (λ e. let same : no_stays config.cache ≡ s = cc in ap (λ (x : NodeState). node_leaves x) (sym same))
      n at;
}

pub reached-viewed : IsViewedAlways
reached-viewed config files m r = passes-keep IsViewed viewed-kept r.0 (machine_start config files) m r.1 (start-viewed config files)

-- ---- laws

module _ (config : Config) (files : List (List ℕ × List ℕ)) where
  -- a state that events lead to, with the settings that it began with
  pub record IsOn (m : Machine) : Type 0 where
    pub reached : IsReached config files m
    pub view : IsViewed m
    pub config_is : m.config ≡ config
    pub files_are : m.files ≡ files

  pub on-setting : (m : Machine) → IsOn m → with_leaving (setting config files) (which_leave m) ≡ setting_of m
  on-setting m on = λ i. record { files = file_at (sym on.files_are i); stream = (sym on.config_is i).stream; nodes = (sym on.config_is i).nodes; leaving = which_leave m }

  -- what is so of each rule, and may say which nodes leave, is so of each rule of the machine by those that leave there
  rules-leaving : (P : (ℕ → Bool) → Conn → Move → Type 0) → ((l : ℕ → Bool) → Rules (with_leaving (setting config files) l) (P l)) → (m : Machine) → IsOn m
      → Rules (setting_of m) (P (which_leave m))
  rules-leaving P R m on = subst (λ (s : Setting). Rules s (P (which_leave m))) (on-setting m on) (R (which_leave m))

  pub on-rules : (P : Conn → Move → Type 0) → ((l : ℕ → Bool) → Rules (with_leaving (setting config files) l) P) → (m : Machine) → IsOn m → Rules (setting_of m) P
  on-rules P R = rules-leaving (λ l. P) R

  on-more : (m n : Machine) (e : Event) → IsOn m → HasRule e → machine_step m e ≡ Ok n → IsOn n
  on-more m n e on rule is = let after : IsAfter m e n = step-after m on.view e n rule is in record {
    reached = (on.reached.0 ++ e ∷ [], passes-more on.reached.0 (machine_start config files) m n e on.reached.1 rule is);
    view = viewed-kept m n e on.view rule is;
    config_is = after.config ∙ on.config_is;
    files_are = after.files ∙ on.files_are;
  }

  on-start : IsOn (machine_start config files)
  on-start = record { reached = ([], refl); view = start-viewed config files; config_is = refl; files_are = refl }

  -- what each step keeps of a state that events lead to
  pub carried-keep : (P : Machine → Type 0) → P (machine_start config files) → ((m n : Machine) (e : Event) → IsOn m → P m → HasRule e → machine_step m e ≡ Ok n → P n)
      → (m : Machine) → IsReached config files m → P m
  carried-keep P begins step m r = (passes-keep (λ k. IsOn k × P k)
      (λ k n e h rule is. (on-more k n e h.0 rule is, step k n e h.0 h.1 rule is))
      r.0 (machine_start config files) m r.1 (on-start, begins)).1

  -- each connection goes by a rule, which may say which nodes leave
  pub goes-leaving : (P : (ℕ → Bool) → Conn → Move → Type 0) → ((l : ℕ → Bool) → Rules (with_leaving (setting config files) l) (P l)) → (m n : Machine) (e : Event)
      → IsOn m → HasRule e → machine_step m e ≡ Ok n → (q : ℕ) → GoesBy (λ x v. IsConnNumber x.c × P (which_leave m) x v) (conn m q) (conn n q)
  goes-leaving P R m n e on rule is q = step_moves m n e (P (which_leave m)) on.view (rules-leaving P R m on) rule is q

  pub goes-on : (P : Conn → Move → Type 0) → ((l : ℕ → Bool) → Rules (with_leaving (setting config files) l) P) → (m n : Machine) (e : Event) → IsOn m → HasRule e → machine_step m e ≡ Ok n
      → (q : ℕ) → GoesBy (λ x v. IsConnNumber x.c × P x v) (conn m q) (conn n q)
  goes-on P R = goes-leaving (λ l. P) R

-- what holds where a connection moves
pub may-move : (Given : Conn → Type 0) (x : Conn) → IsConnNumber x.c → IsConnSound x → Given x → MayRestOn Given x
may-move Given x number sound given = record { number = number; sound = sound; given = given }

-- what goes on as others leave
abbrev pub KeptAsMoreLeave : ((ℕ → Bool) → Conn → Type 0) → Type 0
KeptAsMoreLeave Inv = (m n : Machine) (e : Event) → HasRule e → machine_step m e ≡ Ok n → (x : Conn) → Inv (which_leave m) x → Inv (which_leave n) x

-- A law that says which nodes leave, and is given what says so, is one of every state, by those that leave there.
pub carried-leaving : (config : Config) (files : List (List ℕ × List ℕ)) (Given Inv : (ℕ → Bool) → Conn → Type 0) → KeptAsMoreLeave Inv
    → ((l : ℕ → Bool) → IsLaw (with_leaving (setting config files) l) (Given l) (Inv l))
    → ((m : Machine) → IsReached config files m → (q : ℕ) → Given (which_leave m) (conn m q))
    → (m : Machine) → IsReached config files m → (q : ℕ) → Inv (which_leave m) (conn m q)
unfolding conn
carried-leaving config files Given Inv more law given m r = carried-keep config files (λ k. (q : ℕ) → Inv (which_leave k) (conn k q))
    (λ q. let l : ℕ → Bool = which_leave (machine_start config files) in subst (Inv l) (sym (start-blank config files q)) ((law l).begins q))
    (λ k n e on h rule is q.
    let l : ℕ → Bool = which_leave k in
    let P : (ℕ → Bool) → Conn → Move → Type 0 = λ i x v. MayRestOn (Given i) x → Inv i x → Inv i (grown x v) in
    more k n e rule is (conn n q)
    (gone (Inv l) (λ x v. IsConnNumber x.c × P l x v) (conn k q) (conn n q) (h q) (λ v does. does.1 (may-move (Given l) (conn k q) does.0 (on.view.sound q) (given k on.reached q)) (h q))
    (goes-leaving config files P (λ i. (law i).moves) k n e on rule is q)))
    m r

pub carried : Carries
carried config files Given Inv law given = carried-leaving config files (λ l. Given) (λ l. Inv) (λ m n e rule is x h. h) law given
