-- What a client writes and who opens, over the steps of a generated schedule.
use Rattle.std.proofs.Common.{◌≡◌, ℕ, zero, suc, ◌+◌, Bool, true, false, List, [], ◌∷◌, ◌++◌, All, map, refl, sym, ap, ◌∙◌, subst, append_assoc, append-nil, nat_eq, ⊎_elim, arith}
use Rattle.std.specs.Prelude.{if◌then◌else◌}
use Rattle.std.specs.List.{fold}
use Rattle.std.proofs.lemmas.Bool.Decides.{nat_tests}
use Rattle.std.proofs.lemmas.List.Elements.{All-nil, All-cons, All-append, All-head, All-tail}
use Rattle.std.proofs.lemmas.List.Sums.{fold-append, sum_by-append, sum_by-cons}
use Rattle.rand_pcg.specs.Lcg.{Lcg}
use Rattle.lard_base.specs.declared.event.Event.TheVariants as event
use Rattle.lard_bound.specs.Bound.{opener_step}
use Rattle.lard_generate.specs.declared.action.Action.{Action}
use Rattle.lard_generate.specs.declared.action.Action.TheVariants.{Ask, Shut}
use Rattle.lard_generate.specs.Clients.{drawn_open, action_event, request_head}
use Rattle.lard_generate.specs.Draws.{behind, each, drawn_word}
use Rattle.lard_generate.specs.Rounds.{AsksForFile}
use Rattle.lard_history.specs.Journal.{wrote_step}
use Rattle.lard_history.specs.Laws.{Follows, IsStep}
use Rattle.lard_journal.specs.declared.rec.Rec.{Rec}
use Rattle.lard_journal.specs.declared.rec.Rec.TheVariants as rec
use Rattle.lard_generate_bound.specs.Heads.{IsFileNumber, heads}
use Rattle.lard_generate_bound.specs.Shares.{Wrote, numbers_to, share}
use Rattle.lard_generate_bound.proofs.Cut.{heads-append}
use Rattle.lard_generate_bound.proofs.Leaving.{opener-still, unwritten, wrote-still}
use Rattle.lard_generate_bound.proofs.Walking.{Parts, first-folds, one-folds, parts}

-- ---- who opens

-- n clients open, by number
pub opens-open : (n : ℕ) (g : Lcg) (i : ℕ) (J : List Rec) (cs : List ℕ) → Follows i (each drawn_open n g).0 J → fold opener_step cs J ≡ cs ++ numbers_to n
unfolding each
opens-open zero g i J cs w = ap (fold opener_step cs) w ∙ sym (append-nil cs)
opens-open (suc n) g i J cs w =
    let before = each drawn_open n g in
    let e = event.Open (n + 1) (drawn_word before.1) (drawn_word (behind before.1)) 65535 1460 in
    let p : Parts i before.0 (e ∷ []) J = parts before.0 (e ∷ []) i J w in
    let so : List ℕ = cs ++ numbers_to n in
    ap (fold opener_step cs) p.is ∙ fold-append opener_step cs p.front p.back
    ∙ ap (λ (ds : List ℕ). fold opener_step ds p.back) (opens-open n g i p.front cs p.first)
    ∙ one-folds opener_step opener-still so p.next e p.back p.second
    ∙ ap (λ (l : List Rec). fold opener_step so l) p.second.3.own_are
    ∙ append_assoc cs (numbers_to n) ((n + 1) ∷ [])

-- ---- what a client writes

-- nothing
nothing : (c : ℕ) (actions : List Action) (old : List ℕ) → Wrote c actions old old
nothing c actions old = record { files = []; small = All-nil IsFileNumber; is = sym (append-nil old); fewer = λ cost. omega arith }

-- first in one action and then in others
further : (c : ℕ) (action : Action) (actions : List Action) (old mid new : List ℕ) → Wrote c (action ∷ []) old mid → Wrote c actions mid new → Wrote c (action ∷ actions) old new
further c action actions old mid new first later = record {
  files = first.files ++ later.files;
  small = All-append IsFileNumber first.files later.files first.small later.small;
  is =
      later.is ∙ ap (λ (bytes : List ℕ). bytes ++ heads later.files) first.is ∙ append_assoc old (heads first.files) (heads later.files)
      ∙ ap (λ (bytes : List ℕ). old ++ bytes) (sym (heads-append first.files later.files));
  fewer = λ cost. omega (
    arith,
    first.fewer cost,
    later.fewer cost,
    sum_by-append (λ file. cost (Ask c file)) first.files later.files,
    sum_by-cons (share c cost) action actions,
    sum_by-cons (share c cost) action [],
  );
}

-- the request of client d, where that is c
asks-one : (c d file : ℕ) (old : List ℕ) → IsFileNumber file → (b : Bool) → nat_eq d c ≡ b → Wrote c (Ask d file ∷ []) old (if b then old ++ request_head file else old)
asks-one c d file old small true e =
    let same : d ≡ c = grind (arith, nat_tests, e) in
    record {
      files = file ∷ [];
      small = All-cons IsFileNumber file [] small (All-nil IsFileNumber);
      is = ap (λ (bytes : List ℕ). old ++ bytes) (sym (append-nil (request_head file)));
      fewer = λ cost.
          let its : share c cost (Ask d file) ≡ cost (Ask d file) = ap (λ b. if b then cost (Ask d file) else 0) e in
          let mine : cost (Ask d file) ≡ cost (Ask c file) = ap (λ k. cost (Ask k file)) same in
          omega (arith, its, mine, sum_by-cons (λ f. cost (Ask c f)) file [], sum_by-cons (share c cost) (Ask d file) []);
    }
asks-one c d file old small false e = nothing c (Ask d file ∷ []) old

-- one action
acts : (c i : ℕ) (action : Action) (step : List Rec) (old : List ℕ) → AsksForFile action → (s : IsStep i (action_event action) step)
    → Wrote c (action ∷ []) old (fold (wrote_step c) old (rec.Event i (action_event action) ∷ s.own))
acts c i (Ask d file) step old small s = ⊎_elim
    (λ (is : s.own ≡ rec.Wrote d (request_head file) ∷ []). subst (λ (l : List Rec). Wrote c (Ask d file ∷ []) old (fold (wrote_step c) old l)) (sym is) (asks-one c d file old small (nat_eq d c) refl))
    (λ (is : s.own ≡ []). subst (λ (l : List Rec). Wrote c (Ask d file ∷ []) old (fold (wrote_step c) old l)) (sym is) (nothing c (Ask d file ∷ []) old))
    s.own_are
acts c i (Shut d) step old small s = subst (Wrote c (Shut d ∷ []) old) (sym (unwritten c (event.Shut d) tt i s.own old s.own_are)) (nothing c (Shut d ∷ []) old)

-- all actions
pub writes : (c : ℕ) (actions : List Action) (i : ℕ) (J : List Rec) (old : List ℕ) → All AsksForFile actions → Follows i (map action_event actions) J
    → Wrote c actions old (fold (wrote_step c) old J)
writes c [] i J old all w = subst (Wrote c [] old) (sym (ap (fold (wrote_step c) old) w)) (nothing c [] old)
writes c (action ∷ actions) i J old all w =
    let mid : List ℕ = fold (wrote_step c) old (rec.Event i (action_event action) ∷ w.3.own) in
    subst (Wrote c (action ∷ actions) old) (sym (first-folds (wrote_step c) (wrote-still c) old i (action_event action) (map action_event actions) J w))
    (further c action actions old mid (fold (wrote_step c) mid w.1)
    (acts c i action w.0 old (All-head AsksForFile action actions all) w.3)
    (writes c actions (i + 1) w.1 mid (All-tail AsksForFile action actions all) w.4))
