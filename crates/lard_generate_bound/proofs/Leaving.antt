-- What the events of a generated schedule leave as it is: none touches a connection, only writing adds to what was written, and only
-- opening to the clients that opened.
use Rattle.std.proofs.Common.{◌≡◌, ℕ, Bool, true, false, List, [], ◌∷◌, All, map, refl, ap, ⊎_elim, nat_eq}
use Rattle.std.specs.Prelude.{if◌then◌else◌}
use Rattle.std.specs.List.{fold}
use Rattle.std.proofs.lemmas.List.Elements.{All-nil, All-cons}
use Rattle.rand_pcg.specs.Lcg.{Lcg}
use Rattle.lard_base.specs.declared.event.Event.{Event}
use Rattle.lard_base.specs.declared.event.Event.TheVariants as event
use Rattle.lard_bound.specs.Bound.{opener_step}
use Rattle.lard_generate.specs.declared.action.Action.{Action}
use Rattle.lard_generate.specs.declared.action.Action.TheVariants.{Ask, Shut}
use Rattle.lard_generate.specs.Clients.{drawn_fate, drawn_open, action_event, request_head}
use Rattle.lard_generate.specs.Draws.{behind, draw, each, drawn_word}
use Rattle.lard_generate.proofs.Making.{All-each}
use Rattle.lard_history.specs.Journal.{touched_step, wrote_step}
use Rattle.lard_history.specs.Laws.{is_own}
use Rattle.lard_journal.specs.declared.rec.Rec.{Rec}
use Rattle.lard_journal.specs.declared.rec.Rec.TheVariants as rec
use Rattle.lard_generate_bound.proofs.Walking.{Leaves}

-- ---- records that are no event's own

-- none says that a client wrote, opened, or had a packet put on the way
pub wrote-still : (c : ℕ) (bytes : List ℕ) (r : Rec) → is_own r ≡ false → wrote_step c bytes r ≡ bytes
wrote-still c bytes (rec.Wrote d more) h = cc
wrote-still c bytes _ h = refl

pub opener-still : (cs : List ℕ) (r : Rec) → is_own r ≡ false → opener_step cs r ≡ cs
opener-still cs (rec.Opened c isn iss wnd mss) h = cc
opener-still cs _ h = refl

pub touched-still : (c : ℕ) (was : Bool) (r : Rec) → is_own r ≡ false → touched_step c was r ≡ was
touched-still c was (rec.Injected d) h = cc
touched-still c was _ h = refl

-- ---- events

-- the events of a schedule but for its settle
abbrev pub IsPlain : Event → Type 0
IsPlain (event.Open c isn iss wnd mss) = Unit {0}
IsPlain (event.Write c bytes) = Unit {0}
IsPlain (event.Shut c) = Unit {0}
IsPlain (event.Deliver k) = Unit {0}
IsPlain (event.Lose k) = Unit {0}
IsPlain _ = ⊥

-- none touches a connection
pub untouched : (c : ℕ) (e : Event) → IsPlain e → Leaves (touched_step c) e
untouched c (event.Open d isn iss wnd mss) plain i own a is = ap (λ (l : List Rec). fold (touched_step c) a l) is
untouched c (event.Write d bytes) plain i own a is = ⊎_elim (λ (is : own ≡ rec.Wrote d bytes ∷ []). ap (λ (l : List Rec). fold (touched_step c) a l) is) (λ (is : own ≡ []). ap (λ (l : List Rec). fold (touched_step c) a l) is) is
untouched c (event.Shut d) plain i own a is = ap (λ (l : List Rec). fold (touched_step c) a l) is
untouched c (event.Deliver k) plain i own a is = ap (λ (l : List Rec). fold (touched_step c) a l) is
untouched c (event.Lose k) plain i own a is = ap (λ (l : List Rec). fold (touched_step c) a l) is
untouched c _ plain i own a is = absurd plain

-- one that writes nothing
abbrev pub IsUnwritten : Event → Type 0
IsUnwritten (event.Write c bytes) = ⊥
IsUnwritten e = IsPlain e

-- leaves what was written
pub unwritten : (c : ℕ) (e : Event) → IsUnwritten e → Leaves (wrote_step c) e
unwritten c (event.Open d isn iss wnd mss) plain i own a is = ap (λ (l : List Rec). fold (wrote_step c) a l) is
unwritten c (event.Shut d) plain i own a is = ap (λ (l : List Rec). fold (wrote_step c) a l) is
unwritten c (event.Deliver k) plain i own a is = ap (λ (l : List Rec). fold (wrote_step c) a l) is
unwritten c (event.Lose k) plain i own a is = ap (λ (l : List Rec). fold (wrote_step c) a l) is
unwritten c _ plain i own a is = absurd plain

-- one that opens none
abbrev pub IsUnopening : Event → Type 0
IsUnopening (event.Open c isn iss wnd mss) = ⊥
IsUnopening e = IsPlain e

-- leaves the clients that opened
pub unopening : (e : Event) → IsUnopening e → Leaves opener_step e
unopening (event.Write d bytes) plain i own a is = ⊎_elim (λ (is : own ≡ rec.Wrote d bytes ∷ []). ap (λ (l : List Rec). fold opener_step a l) is) (λ (is : own ≡ []). ap (λ (l : List Rec). fold opener_step a l) is) is
unopening (event.Shut d) plain i own a is = ap (λ (l : List Rec). fold opener_step a l) is
unopening (event.Deliver k) plain i own a is = ap (λ (l : List Rec). fold opener_step a l) is
unopening (event.Lose k) plain i own a is = ap (λ (l : List Rec). fold opener_step a l) is
unopening _ plain i own a is = absurd plain

-- ---- the parts of a schedule

module _ (P : Event → Type 0) where
  -- of each client that opens
  pub opens-are : ((c isn iss : ℕ) → P (event.Open c isn iss 65535 1460)) → (n : ℕ) (g : Lcg) → All P (each drawn_open n g).0
  opens-are is n g = All-each P drawn_open n g (λ c h low high. All-cons P (event.Open c (drawn_word h) (drawn_word (behind h)) 65535 1460) [] (is c (drawn_word h) (drawn_word (behind h))) (All-nil P))

  -- of each SYN that is lost or comes twice
  pub fates-are : ((k : ℕ) → P (event.Lose k)) → ((k : ℕ) → P (event.Deliver k)) → (n : ℕ) (g : Lcg) → All P (each drawn_fate n g).0
  fates-are lose deliver n g = All-each P drawn_fate n g (λ c h low high. go c (nat_eq (draw 8 h) 0) (nat_eq (draw 8 h) 1)) where
    go : (c : ℕ) (a b : Bool) → All P (if a then event.Lose c ∷ [] else if b then event.Deliver c ∷ event.Deliver c ∷ [] else [])
    go c true b = All-cons P (event.Lose c) [] (lose c) (All-nil P)
    go c false true = All-cons P (event.Deliver c) (event.Deliver c ∷ []) (deliver c) (All-cons P (event.Deliver c) [] (deliver c) (All-nil P))
    go c false false = All-nil P

  -- of each request and each end
  pub acts-are : ((c : ℕ) (bytes : List ℕ) → P (event.Write c bytes)) → ((c : ℕ) → P (event.Shut c)) → (actions : List Action) → All P (map action_event actions)
  acts-are write shut [] = All-nil P
  acts-are write shut (Ask c file ∷ actions) = All-cons P (event.Write c (request_head file)) (map action_event actions) (write c (request_head file)) (acts-are write shut actions)
  acts-are write shut (Shut c ∷ actions) = All-cons P (event.Shut c) (map action_event actions) (shut c) (acts-are write shut actions)
