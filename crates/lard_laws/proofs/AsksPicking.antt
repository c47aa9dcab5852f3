-- What is picked of a move, and what it makes of the answers so far.
use Rattle.std.proofs.Common.{◌≡◌, ℕ, List, [], ◌∷◌, ◌++◌, map, Option, None, Some, refl, sym, ap, ◌∙◌, append-nil}
use Rattle.std.proofs.lemmas.List.Sums.{fold-append}
use Rattle.std.specs.List.{fold}
use Rattle.lard_law_view.specs.Prelude.{Came, Conn, Move, Rec, Row, Seen, listed, rows_of, seen_in}
use Rattle.lard_laws.specs.Asks.{Answered, Asking, AskTale, ask_in, ask_on, ask_tale, asks_step, came_done, done_step, end_in, later_in, node_in, row_done, tag_to, unasked}
use Rattle.lard_law_connections.specs.MotionStory.{of_row, picked, story, story_step}
use Rattle.lard_law_connections.proofs.MotionNodes.{IsFirst}
use Rattle.lard_law_connections.proofs.MotionPicking.{came-none, pick, pick-seen, picked-append, picked-none, pick-noted, pick-sent}
use Rattle.lard_law_view.specs.View.{sending}
use Rattle.lard_law_view.proofs.Fine.{IsItsOwn}
use Rattle.lard_history.proofs.Each.{Each, Each-weaker}
use Rattle.lard_journal.specs.declared.rec.Rec.TheVariants as rec
use Rattle.lard_law_view.proofs.OfKinds.{Passes, passes-rest, rest-outer}
use Rattle.lard_law_view.proofs.RecordKinds.{IsOuter, IsUnsent}

-- ---- records around the notes

-- what is picked of notes alone
abbrev pub IsNoted : {A : Type 0} → (Rec → Option A) → Type 0
IsNoted f = (r : Rec) → IsOuter r → f r ≡ None

first-none : {A : Type 0} (f : Rec → Option A) → IsNoted f → (s : Seen) → IsFirst s → of_row f s ≡ None
first-none f none (Row (rec.Event i e)) h = none (rec.Event i e) tt
first-none f none (Row (rec.Opened c isn iss wnd mss)) h = none (rec.Opened c isn iss wnd mss) tt
first-none f none (Row (rec.Injected c)) h = none (rec.Injected c) tt
first-none f none (Row _) h = absurd h
first-none f none (Came l) h = refl

pub later-noted : IsNoted later_in
later-noted (rec.AssignedLater c r path n add size queue) h = absurd h
later-noted _ h = refl

pub node-noted : IsNoted node_in
node-noted (rec.AssignedLater c r path n add size queue) h = absurd h
node-noted _ h = refl

pub end-noted : IsNoted end_in
end-noted (rec.BatchOver c) h = absurd h
end-noted _ h = refl

outer-done : (d : Answered) (r : Rec) → IsOuter r → row_done d r ≡ d
outer-done d (rec.AssignedFirst c r path n add remove) h = absurd h
outer-done d (rec.AssignedLater c r path n add size queue) h = absurd h
outer-done d _ h = refl

-- ---- what was answered

pub way-is : (c : ℕ) (t : AskTale) (ss : List Seen) → (fold (asks_step c) t ss).way ≡ fold (story_step c) t.way ss
way-is c t [] = refl
way-is c t (s ∷ ss) = way-is c (asks_step c t s) ss

-- how it moved is the story of its way
pub way-told : (c : ℕ) (ss : List Seen) → (ask_tale c ss).way ≡ story c ss
way-told c ss = way-is c unasked ss

done-rows : (c : ℕ) (t : AskTale) (rs : List Rec) → (fold (asks_step c) t (map Row rs)).done ≡ fold row_done t.done rs
done-rows c t [] = refl
done-rows c t (r ∷ rs) = done-rows c (asks_step c t (Row r)) rs

-- where no Ask comes first
pub first-done : (c : ℕ) (t : AskTale) (ss : List Seen) → Each IsFirst ss → picked ask_in ss ≡ [] → (fold (asks_step c) t ss).done ≡ t.done
first-done c t [] e none = refl
first-done c t (Row (rec.Event i e_) ∷ ss) e none = first-done c (asks_step c t (Row (rec.Event i e_))) ss e.1 none
first-done c t (Row (rec.Opened d isn iss wnd mss) ∷ ss) e none = first-done c (asks_step c t (Row (rec.Opened d isn iss wnd mss))) ss e.1 none
first-done c t (Row (rec.Injected d) ∷ ss) e none = first-done c (asks_step c t (Row (rec.Injected d))) ss e.1 none
first-done c t (Row _ ∷ ss) e none = absurd e.0
first-done c t (Came l ∷ ss) e none = go (ask_on l.from l.to l.bytes) refl (first-done c (asks_step c t (Came l)) ss e.1) where
  go : (o : Option Asking) → ask_on l.from l.to l.bytes ≡ o → (picked ask_in ss ≡ [] → (fold (asks_step c) t (Came l ∷ ss)).done ≡ done_step t (Came l)) → (fold (asks_step c) t (Came l ∷ ss)).done ≡ t.done
  go None is later = later (sym (ap (λ q. listed q ++ picked ask_in ss) is) ∙ none) ∙ ap (came_done t) is
  go (Some a) is later = let no : a ∷ picked ask_in ss ≡ [] = sym (ap (λ q. listed q ++ picked ask_in ss) is) ∙ none in absurd cc

-- ---- what is seen of a move

tag-unsent : (r : Rec) → IsUnsent r → tag_to r ≡ None
tag-unsent (rec.Sent k from to bytes) h = absurd h
tag-unsent _ h = refl

tag-first : (s : Seen) → IsFirst s → of_row tag_to s ≡ None
tag-first (Row (rec.Event i e)) h = refl
tag-first (Row (rec.Opened c isn iss wnd mss)) h = refl
tag-first (Row (rec.Injected c)) h = refl
tag-first (Row _) h = absurd h
tag-first (Came l) h = refl

module _ (x : Conn) (v : Move) (own : IsItsOwn x v) (first : Each IsFirst v.heads) where
  abbrev messages : List Rec
  messages = map (sending v.place) v.said.messages

  -- its notes
  pub seen-noted : {A : Type 0} (f : Rec → Option A) → IsNoted f → picked (of_row f) (seen_in x v) ≡ pick f v.said.notes
  seen-noted f none =
      pick-seen f x v
      ∙ ap (λ l. l ++ pick f (rows_of x v)) (picked-none (of_row f) v.heads (Each-weaker IsFirst (λ s. of_row f s ≡ None) (first-none f none) v.heads first))
      ∙ pick-noted f x v own none

  -- its messages
  pub seen-tags : pick tag_to (map (sending v.place) v.said.segments) ≡ [] → picked (of_row tag_to) (seen_in x v) ≡ pick tag_to messages
  seen-tags none =
      pick-seen tag_to x v
      ∙ ap (λ l. l ++ pick tag_to (rows_of x v)) (picked-none (of_row tag_to) v.heads (Each-weaker IsFirst (λ s. of_row tag_to s ≡ None) tag-first v.heads first))
      ∙ pick-sent tag_to x v own tag-unsent ∙ (λ i. none i ++ pick tag_to messages)

  -- and the Ask that comes
  pub seen-asks : picked ask_in (seen_in x v) ≡ picked ask_in v.heads
  seen-asks = picked-append ask_in v.heads (map Row (rows_of x v)) ∙ ap (λ l. picked ask_in v.heads ++ l) (came-none ask_in (λ r. refl) (rows_of x v)) ∙ append-nil (picked ask_in v.heads)

  -- what is answered then
  pub done-grown : (ask_tale x.c (x.seen ++ seen_in x v)).done ≡ fold row_done (fold (asks_step x.c) (ask_tale x.c x.seen) v.heads).done v.said.notes
  done-grown =
      let t : AskTale = fold (asks_step x.c) (ask_tale x.c x.seen) v.heads in
      ap (λ (u : AskTale). u.done) (fold-append (asks_step x.c) unasked x.seen (seen_in x v) ∙ fold-append (asks_step x.c) (ask_tale x.c x.seen) v.heads (map Row (rows_of x v)))
      ∙ done-rows x.c t (rows_of x v)
      ∙ passes-rest row_done x v t.done (rest-outer x v (Passes row_done) (λ r h e. outer-done e r h) own)
