-- What is told of a reset stays told; and what may be sent where a connection was reset, of one connection's own records.
use Rattle.std.proofs.Common.{◌≡◌, ℕ, List, [], ◌∷◌, ◌++◌, map, Bool, true, false, cond, Option, Some, None, is_some, refl, sym, ap, ◌∙◌, subst, nat_eq}
use Rattle.std.specs.List.{fold}
use Rattle.std.proofs.lemmas.Bool.{both_ways}
use Rattle.lard_law_view.specs.Prelude.{Body, Came, Client, EachRow, Front, FrontConn, FrontRow, IsMachine, Letter, Node, Place, Rec, Row, Seen, Tale, conn_of, letter, named_records, plain, reset_step, seen_step, tale, tale_of, tale_step, told_on, was_reset, whose}
use Rattle.lard_history.proofs.Each.{Each, Each-weaker}
use Rattle.lard_history.proofs.Lifting.{IsLocal, tale-own}
use Rattle.lard_history.proofs.Tales.{reset-tale}
use Rattle.lard_journal.specs.declared.rec.Rec.TheVariants as rec
use Rattle.lard_law_connections.specs.ResetsLaws.{BodyEndsBehind, SaysEndsBehind, HasRstOnly, LetterEndsBehind, MaySendRst, ResetsOnly, RowEndsBehind, StageEndsBehind}
use Rattle.lard_law_view.specs.View.{sending}
use Rattle.lard_law_view.specs.WhileUntouched.{TellsBy}
use Rattle.lard_law_view.proofs.RowLists.{MayBeSeen}
use Rattle.lard_handoff_front.specs.declared.row.FrontConn.TheVariants as stage
use Rattle.lard_message.specs.declared.message.Body.TheVariants as body
use Rattle.lard_law_view.proofs.OfKinds.{each-tells}
use Rattle.lard_law_view.proofs.RecordKinds.{IsUnsent}

-- ---- resets

-- where it was so before, it is so
abbrev pub Since : Bool → Bool → Type 0
Since a b = a ≡ true → b ≡ true

pub since-false : (b : Bool) → Since false b
since-false b e = absurd (both_ways false refl e)

-- whether a connection was reset, once these records are told
abbrev pub resets_on : ℕ → Bool → List Rec → Bool
resets_on c was rs = fold (reset_step c) was rs

step-more : (c : ℕ) (a b : Bool) (r : Rec) → Since a b → Since (reset_step c a r) (reset_step c b r)
step-more c a b (rec.Reset place d total) h = go (nat_eq d c) where
  go : (t : Bool) → Since (cond t true a) (cond t true b)
  go true e = refl
  go false e = h e
step-more c a b _ h = h

step-stays : (c : ℕ) (a : Bool) (r : Rec) → Since a (reset_step c a r)
step-stays c a (rec.Reset place d total) = go (nat_eq d c) where
  go : (t : Bool) → Since a (cond t true a)
  go true e = refl
  go false e = e
step-stays c a _ = λ e. e

pub resets-more : (c : ℕ) (rs : List Rec) (a b : Bool) → Since a b → Since (resets_on c a rs) (resets_on c b rs)
resets-more c [] a b h = h
resets-more c (r ∷ rs) a b h = resets-more c rs (reset_step c a r) (reset_step c b r) (step-more c a b r h)

pub resets-stay : (c : ℕ) (rs : List Rec) (a : Bool) → Since a (resets_on c a rs)
resets-stay c [] a e = e
resets-stay c (r ∷ rs) a e = resets-stay c rs (reset_step c a r) (step-stays c a r e)

-- and so the tale says
pub told-reset : (c : ℕ) (rs : List Rec) (t : Tale) → (told_on c t rs).was_reset ≡ resets_on c t.was_reset rs
told-reset c [] t = refl
told-reset c (r ∷ rs) t = told-reset c rs (tale_step c t r)

pub told-stays : (c : ℕ) (rs : List Rec) (t : Tale) → Since t.was_reset (told_on c t rs).was_reset
told-stays c rs t e = told-reset c rs t ∙ resets-stay c rs t.was_reset e

pub seen-stays : (c : ℕ) (ss : List Seen) (t : Tale) → Since t.was_reset (fold (seen_step (tale_step c)) t ss).was_reset
seen-stays c [] t e = e
seen-stays c (Row r ∷ ss) t e = seen-stays c ss (tale_step c t r) (step-stays c t.was_reset r e)
seen-stays c (Came l ∷ ss) t e = seen-stays c ss t e

unnamed-same : (c : ℕ) (a : Bool) (r : Rec) → whose r ≡ None → reset_step c a r ≡ a
unnamed-same c a (rec.Reset place d total) e = let no : Some d ≡ None = e in absurd cc
unnamed-same c a _ e = refl

-- what a node names of its notes tells what all do
pub named-resets : (c : ℕ) (rs : List Rec) (a : Bool) → resets_on c a (named_records rs) ≡ resets_on c a rs
named-resets c [] a = refl
named-resets c (r ∷ rs) a = go (whose r) refl (named-resets c rs a) (named-resets c rs (reset_step c a r)) where
  go : (o : Option ℕ) → whose r ≡ o → resets_on c a (named_records rs) ≡ resets_on c a rs → resets_on c (reset_step c a r) (named_records rs) ≡ resets_on c (reset_step c a r) rs
      → resets_on c a (cond (is_some o) (r ∷ named_records rs) (named_records rs)) ≡ resets_on c (reset_step c a r) rs
  go None e same later = same ∙ ap (λ (b : Bool). resets_on c b rs) (sym (unnamed-same c a r e))
  go (Some d) e same later = later

-- ---- what is sent

-- by a place of the cluster to a client
abbrev pub RstSent : Bool → Place → Place → List ℕ → Type 0
RstSent was Front (Client c) bytes = HasRstOnly was c bytes
RstSent was (Node n) (Client c) bytes = HasRstOnly was c bytes
RstSent was _ _ bytes = Unit {0}

pub rst-more : (a b : Bool) (from to : Place) (bytes : List ℕ) → Since a b → RstSent a from to bytes → RstSent b from to bytes
rst-more a b Front (Client c) bytes h k = λ s d e. h (k s d e)
rst-more a b (Node n) (Client c) bytes h k = λ s d e. h (k s d e)
rst-more a b _ _ bytes h k = tt

pub machine-rst : (was : Bool) (from to : Place) (bytes : List ℕ) → IsMachine to → RstSent was from to bytes
machine-rst was Front (Client c) bytes m = absurd m
machine-rst was (Node n) (Client c) bytes m = absurd m
machine-rst was _ _ bytes m = tt

body-more : (a b : Bool) (m : Body) → Since a b → BodyEndsBehind a m → BodyEndsBehind b m
body-more a b (body.Ended why snd rcv count) h k = λ e. h (k e)
body-more a b _ h k = tt

pub ends-more : (a b : Bool) (from to : Place) (bytes : List ℕ) → Since a b → SaysEndsBehind a from to bytes → SaysEndsBehind b from to bytes
ends-more a b (Node n) Front bytes h k = λ m d. body-more a b m.body h (k m d)
ends-more a b _ _ bytes h k = tt

pub letters-more : (a b : Bool) (ls : List Letter) → Since a b → Each (LetterEndsBehind a) ls → Each (LetterEndsBehind b) ls
letters-more a b ls h k = Each-weaker (LetterEndsBehind a) (LetterEndsBehind b) (λ l e. ends-more a b l.from l.to l.bytes h e) ls k

stage-more : (a b : Bool) (st : FrontConn) → Since a b → StageEndsBehind a st → StageEndsBehind b st
stage-more a b (stage.Closed last) h k = λ e. h (k e)
stage-more a b _ h k = tt

pub row-more : (a b : Bool) (o : Option FrontRow) → Since a b → RowEndsBehind a o → RowEndsBehind b o
row-more a b None h k = tt
row-more a b (Some row) h k = stage-more a b row.stage h k

-- a packet that a place may send where the connection was reset, or not
abbrev pub KeepsRst : Bool → Place → Place × List ℕ → Type 0
KeepsRst was from s = RstSent was from s.0 s.1 × SaysEndsBehind was from s.0 s.1

abbrev pub AllKeepRst : Bool → Place → List (Place × List ℕ) → Type 0
AllKeepRst was from ss = Each (KeepsRst was from) ss

pub fair-more : (a b : Bool) (from : Place) (ss : List (Place × List ℕ)) → Since a b → AllKeepRst a from ss → AllKeepRst b from ss
fair-more a b from ss h k = Each-weaker (KeepsRst a from) (KeepsRst b from) (λ s e. (rst-more a b from s.0 s.1 h e.0, ends-more a b from s.0 s.1 h e.1)) ss k

-- what a client sends
pub client-fair : (was : Bool) (d : ℕ) (ss : List (Place × List ℕ)) → AllKeepRst was (Client d) ss
client-fair was d [] = tt
client-fair was d (s ∷ ss) = ((tt, tt), client-fair was d ss)

pub fair-letters : (was : Bool) (from : Place) (ss : List (Place × List ℕ)) → AllKeepRst was from ss → Each (LetterEndsBehind was) (map (letter from) ss)
fair-letters was from [] k = tt
fair-letters was from (s ∷ ss) k = (k.0.1, fair-letters was from ss k.1)

-- ---- records

-- it may stand where this is told
abbrev pub MayStand : Tale → Rec → Type 0
MayStand t (rec.Sent k from to bytes) = RstSent t.was_reset from to bytes
MayStand t _ = Unit {0}

abbrev pub IsUnsentSeen : Seen → Type 0
IsUnsentSeen (Row r) = IsUnsent r
IsUnsentSeen (Came l) = Unit {0}

unsent-may : (t : Tale) (r : Rec) → IsUnsent r → MayStand t r
unsent-may t (rec.Sent k from to bytes) h = absurd h
unsent-may t _ h = tt

pub unsent-tell : (c : ℕ) (rs : List Rec) (t : Tale) → Each IsUnsent rs → TellsBy MayStand c t rs
unsent-tell c rs t h = each-tells IsUnsent MayStand unsent-may c t rs h

pub unsent-seen : (c : ℕ) (past ss : List Seen) → Each IsUnsentSeen ss → EachRow (MayBeSeen MayStand c) past ss
unsent-seen c past [] h = tt
unsent-seen c past (Row r ∷ ss) h = (unsent-may (tale_of c past) r h.0, unsent-seen c (past ++ Row r ∷ []) ss h.1)
unsent-seen c past (Came l ∷ ss) h = unsent-seen c (past ++ Came l ∷ []) ss h.1

pub sent-tell : (c : ℕ) (was : Bool) (from : Place) (ss : List (Place × List ℕ)) (t : Tale) → Since was t.was_reset → AllKeepRst was from ss → TellsBy MayStand c t (map (sending from) ss)
sent-tell c was from [] t h k = tt
sent-tell c was from (s ∷ ss) t h k = (rst-more was t.was_reset from s.0 s.1 h k.0.0, sent-tell c was from ss (tale_step c t (sending from s)) h k.1)

-- ---- the law

sent-lawful : (c : ℕ) (J : List Rec) (from to : Place) (bytes : List ℕ) → conn_of from to bytes ≡ Some c → RstSent (tale J c).was_reset from to bytes → ResetsOnly J from to bytes
sent-lawful c J Front (Client d) bytes e h = let same : d ≡ c = cc in λ s read rst. subst (λ (q : ℕ). was_reset J q ≡ true) (sym same) (reset-tale J c ∙ h s read rst)
sent-lawful c J (Node n) (Client d) bytes e h = let same : d ≡ c = cc in λ s read rst. subst (λ (q : ℕ). was_reset J q ≡ true) (sym same) (reset-tale J c ∙ h s read rst)
sent-lawful c J _ _ bytes e h = tt

sent-nobody : (J : List Rec) (from to : Place) (bytes : List ℕ) → conn_of from to bytes ≡ None → ResetsOnly J from to bytes
sent-nobody J Front (Client d) bytes e = let no : Some d ≡ None = e in absurd cc
sent-nobody J (Node n) (Client d) bytes e = let no : Some d ≡ None = e in absurd cc
sent-nobody J _ _ bytes e = tt

nobody-lawful : (J : List Rec) (r : Rec) → whose r ≡ None → MaySendRst J r
nobody-lawful J (rec.Sent k from to bytes) e = sent-nobody J from to bytes e
nobody-lawful J _ e = tt

stands-lawful : (c : ℕ) (J : List Rec) (r : Rec) → whose r ≡ Some c → MayStand (tale J c) (plain r) → MaySendRst J r
stands-lawful c J (rec.Sent k from to bytes) e h = sent-lawful c J from to bytes e h
stands-lawful c J _ e h = tt

-- the law looks at the record's own connection alone
pub rst-local : IsLocal MaySendRst (λ c. MayBeSeen MayStand c)
rst-local = record {
  nobody = nobody-lawful;
  somebody = λ J r c e h. stands-lawful c J r e (subst (λ (t : Tale). MayStand t (plain r)) (sym (tale-own J c)) h);
}
