-- What the laws together say of a connection that is at a node: with whom the front end has it, what was asked and answered, and to
-- which nodes its Fetches go.
use Rattle.std.proofs.Common.{◌≡◌, ◌≢◌, ◌⊎◌, ◌<◌, ◌+◌, ◌==◌, ℕ, Bool, true, false, cond, List, [], ◌∷◌, length, is_some, Option, Some, None, refl, sym, ap, ◌∙◌, subst, arith, eqb-true, eq-eqb, inl, inr, ⊎_elim}
use Rattle.std.proofs.lemmas.Bool.{and_from, and_parts}
use Rattle.std.specs.List.{AllByRecursion, find}
use Rattle.lard_law_view.specs.Prelude.{Conn, ControlBlock, FilesAt, Front, FrontRest, Kept, Node, NodePart, SpellsMessage, Stay, Was, front_rest, is_from, is_node, is_row_at, is_under, is_with, named_paths, names_epoch}
use Rattle.lard_base.specs.declared.place.TimerKind.TheVariants as kind
use Rattle.lard_law_connections.specs.Kept.{AsksFor, FrontRowKeeps, FrontStageKeeps, HasRest, IsFetchFromOther, IsKeptByStage, NodeRowKeeps, StayKeeps, HereKeeps}
use Rattle.lard_law_connections.specs.KeptLaws.{AnyNode}
use Rattle.lard_law_connections.proofs.KeptHere.{IsHere, here-is}
use Rattle.lard_law_connections.proofs.KeptRuns.{TagsName}
use Rattle.lard_law_connections.proofs.PlacesFrontRules.{has-each}
use Rattle.lard_law_connections.proofs.PlacesWithNode.{IsWithNode, with-node}
use Rattle.lard_laws.specs.Tags.{NamesNodes}
use Rattle.lard_laws.proofs.TagsNodes.{Facts, asks-are}
use Rattle.lard_laws.specs.WaysState.{FrontSaysWays, LetterWays, TagIs, marks_at}
use Rattle.lard_handoff_back.specs.declared.row.BackConn.TheVariants as back
use Rattle.lard_handoff_front.specs.declared.row.FrontConn.TheVariants as stage
use Rattle.lard_history.proofs.Each.{Each}
use Rattle.lard_message.specs.declared.message.Body.TheVariants as body

-- ---- with whom the front end has it

self : (n : ℕ) → (n == n) ≡ true
self n = eq-eqb n n refl

pub is-at : (x : Conn) (n e : ℕ) → IsWithNode x n e → is_row_at n e x.part.front.row ≡ true
is-at x n e h = ap (is_row_at n e) h.found ∙ ⊎_elim
    (λ (s : h.row.stage ≡ stage.Offering n (record { 0 = e })). ap (is_with n e) s ∙ and_from (n == n) (e == e) (self n) (self e))
    (λ (s : h.row.stage ≡ stage.Moved n (record { 0 = e })). ap (is_with n e) s ∙ and_from (n == n) (e == e) (self n) (self e))
    h.stage

-- ---- all that is known of it

pub record Agreed (N : ℕ → Type 0) (files : FilesAt) (x : Conn) : Type 0 where
  pub facts : Facts files x
  pub kept : IsKeptByStage AnyNode files x
  pub names : NamesNodes N files x

-- it is at node n in epoch e
pub record IsStaying (x : Conn) (n e : ℕ) (b : ControlBlock) (s : Stay) : Type 0 where
  pub row : (x.part.nodes n).row ≡ Some (record { stage = back.Here b; epoch = record { 0 = e } })
  pub stay : (x.part.nodes n).stay ≡ Some s

module _ (N : ℕ → Type 0) (files : FilesAt) (x : Conn) (n e : ℕ) (b : ControlBlock) (s : Stay) (h : IsStaying x n e b s) where
  abbrev p : NodePart
  p = x.part.nodes n

  -- what its node keeps
  pub stay-keeps : (M : ℕ → Type 0) → IsKeptByStage M files x → StayKeeps M files x.c e n p s
  stay-keeps M k = subst (HereKeeps M files x.c e n p) h.stay (subst (NodeRowKeeps M files x.c n p) h.row (k.nodes n))

  module _ (k : Agreed N files x) where
    with_ : IsWithNode x n e
    with_ = with-node x k.facts.placed n e b h.row

    at : is_row_at n e x.part.front.row ≡ true
    at = is-at x n e with_

    -- what the front end knows of it
    rest-is : (r : FrontRest) × (x.part.front.rest ≡ Some r)
    rest-is = of-rest x.part.front.rest refl (⊎_elim
        (λ (st : with_.row.stage ≡ stage.Offering n (record { 0 = e })). (subst (FrontStageKeeps x.c x.part.front) st keeps).0)
        (λ (st : with_.row.stage ≡ stage.Moved n (record { 0 = e })). (subst (FrontStageKeeps x.c x.part.front) st keeps).0)
        with_.stage) where
          keeps : FrontStageKeeps x.c x.part.front with_.row.stage
          keeps = subst (FrontRowKeeps x.c x.part.front) with_.found k.kept.front

          of-rest : (o : Option FrontRest) → x.part.front.rest ≡ o → HasRest o → (r : FrontRest) × (x.part.front.rest ≡ Some r)
          of-rest None is has = absurd has
          of-rest (Some r) is has = (r, is)

    -- An Ask that it has out is the next one, or the last, whose Tag names as many nodes as requests have none.
    pub asks-agree : is_some (find (is_under kind.Ask 0) p.kept) ≡ true
        → (r : FrontRest) × (x.part.front.rest ≡ Some r) × ((s.asks ≡ r.asks + 1) ⊎ ((s.asks ≡ r.asks) × (0 < r.asks) × (length r.tag ≡ length (named_paths files s.batch))))
    asks-agree out =
        let r : FrontRest = rest-is.0 in
        let found : x.part.front.rest ≡ Some r = rest-is.1 in (
          r,
          found,
          ⊎_elim
              (λ (same : s.asks ≡ r.asks). inr (
                same,
                let some = some-number (named_paths files s.batch) (stay-keeps AnyNode k.kept).asks in omega (arith, some, same),
                ⊎_elim
                    (λ (none : named_paths files s.batch ≡ []). absurd (no-paths none))
                    (λ (as_many : length r.tag ≡ length (named_paths files s.batch)). as_many)
                    (k.names.fits n e b s r at h.row h.stay found same),
              ))
              (λ (next : (s.asks ≡ r.asks + 1) × (named_paths files s.batch ≡ [] → ⊥)). inl next.0)
              (asks-are files x k.facts n e r at found b s (record { row = h.row; stay = h.stay })),
        ) where
          no-kept : p.kept ≡ [] → ⊥
          no-kept none = let no : false ≡ true = sym (ap (λ (ks : List Kept). is_some (find (is_under kind.Ask 0) ks)) none) ∙ out in cc

          no-paths : named_paths files s.batch ≡ [] → ⊥
          no-paths none = no-kept (subst (λ (ps : List (List ℕ)). AsksFor x.c e s.asks ps p.kept) none (stay-keeps AnyNode k.kept).asks)

          some-number : (ps : List (List ℕ)) → AsksFor x.c e s.asks ps p.kept → 0 < s.asks
          some-number [] none = absurd (no-kept none)
          some-number (path ∷ ps) ask = ask.3

    -- a Tag that counts names nodes of which N is so
    tag-names : (number : ℕ) (nodes bytes : List ℕ) → SpellsMessage x.c e (body.Tag number nodes) bytes → Was x Front (Node n) bytes → s.asks ≡ number → Each N nodes
    tag-names number nodes bytes spells was same =
        let r : FrontRest = rest-is.0 in
        let found : x.part.front.rest ≡ Some r = rest-is.1 in
        let said : FrontSaysWays files (marks_at x) x.part n e (body.Tag number nodes) = (has-each (LetterWays files (marks_at x) x.part) _ x.letters was k.facts.ways.letters) _ spells in
        let is : TagIs r number nodes = subst (λ (q : FrontRest). TagIs q number nodes) (ap front_rest found) (said.1 at) in
        let most = is.0 in
        let last : number ≡ r.asks = ⊎_elim
        (λ (one : s.asks ≡ r.asks). sym same ∙ one)
        (λ (two : (s.asks ≡ r.asks + 1) × (named_paths files s.batch ≡ [] → ⊥)). absurd (let asks = two.0 in omega (arith, asks, same, most)))
        (asks-are files x k.facts n e r at found b s (record { row = h.row; stay = h.stay })) in
        subst (Each N) (sym (is.1 last)) (k.names.nodes r found)

pub tags-name : (N : ℕ → Type 0) (files : FilesAt) (x : Conn) → Agreed N files x → TagsName N x
tags-name N files x k n epoch number nodes bytes spells was y here_is same =
    let is : IsHere epoch (x.part.nodes n) y.0 y.1 = here-is epoch (x.part.nodes n) y.0 y.1 here_is in
    tag-names N files x n epoch y.0 y.1 (record { row = is.row; stay = is.stay }) k number nodes bytes spells was same

-- ---- where Fetches go

found-all : (P : Kept → Type 0) (test : Kept → Bool) (ks : List Kept) (k : Kept) → find test ks ≡ Some k → AllByRecursion P ks → P k
found-all P test [] k is h = let no : None ≡ Some k = is in absurd cc
found-all P test (x ∷ ks) k is h = go (test x) is (λ f. found-all P test ks k f h.1) where
  go : (t : Bool) → cond t (Some x) (find test ks) ≡ Some k → (find test ks ≡ Some k → P k) → P k
  go true e later = let found : Some x ≡ Some k = e in let same : x ≡ k = cc in subst P same h.0
  go false e later = later e

-- a content that is awaited from a node is awaited from another one than where the connection is, of which N is so
pub goal-there : (N : ℕ → Type 0) (files : FilesAt) (x : Conn) (n e : ℕ) (b : ControlBlock) (s : Stay) → IsStaying x n e b s → IsKeptByStage N files x → (from r : ℕ)
    → is_from from e (find (is_under kind.Fetch r) (x.part.nodes n).fetches) ≡ true → (from ≢ n) × N from
goal-there N files x n e b s h k from r is = go (find (is_under kind.Fetch r) p.fetches) refl is where
  p : NodePart
  p = x.part.nodes n

  go : (o : Option Kept) → find (is_under kind.Fetch r) p.fetches ≡ o → is_from from e o ≡ true → (from ≢ n) × N from
  go None found t = let no : false ≡ true = t in absurd cc
  go (Some k2) found t =
      let fetch : IsFetchFromOther N files x.c e n k2 = found-all (IsFetchFromOther N files x.c e n) (is_under kind.Fetch r) p.fetches k2 found (stay-keeps N files x n e b s h N k).fetches in
      let goes : is_node k2.to from ≡ true = (and_parts (is_node k2.to from) (names_epoch k2.bytes e) t).0 in
      let same : fetch.node ≡ from = eqb-true fetch.node from (ap (λ (q : Kept). is_node q.to from) (sym fetch.is) ∙ goes) in
      (subst (λ (i : ℕ). i ≢ n) same fetch.other, subst N same fetch.there)
