-- A packet is delivered: what comes of it is shorter, and nearer.
use Rattle.std.proofs.Common.{◌≡◌, ◌<◌, ◌≤◌, ◌⊎◌, ℕ, suc, true, List, [], ◌∷◌, ◌++◌, length, Some, inl, inr, ⊎_elim, refl, sym, ap, ◌∙◌, subst, arith}
use Rattle.lard_agenda.specs.Laws.{is_on_way}
use Rattle.lard_law_view.specs.Prelude.{Came, Conn, Event, FilesAt, Has, IsConnNumber, Letter, Machine, Move, Packet, Seen, came_seen, conn, conn_of, file_at, grown, letter_of, letters, letters_of, packet_at, setting_of}
use Rattle.lard_base.specs.declared.event.Event.TheVariants as event
use Rattle.lard_bound.specs.Progress.{Answers, Any, IfCame, IsFetch, NearAt, came_in, chain_at}
use Rattle.lard_bound.specs.Units.{Whole, units, machine_units}
use Rattle.lard_law_view.proofs.Saying.{NamesAll}
use Rattle.lard_law_settles.specs.Course.{NearIn, chain_by, chain_in, chain_of}
use Rattle.lard_law_settles.specs.CourseGame.{game}
use Rattle.lard_law_settles.proofs.CourseGoing.{IsPlain}
use Rattle.lard_law_settles.proofs.CourseLasting.{Moved, each-still, moved, moves}
use Rattle.lard_law_view.proofs.Steps.{shown}
use Rattle.lard_law_settles.proofs.CourseOwing.{IsStep}
use Rattle.lard_law_settles.proofs.CourseSending.{any-has, every-has, has-new, more, new-has, new-letters, new-none}
use Rattle.lard_history.proofs.Seeing.{by_number, one-mine, one-other}
use Rattle.lard_rounds.specs.Rounds.{AreShorter, Nearer}

-- by its connection
pub chain-is : (m : Machine) (k q : ℕ) (p : Packet) → packet_at m.net k ≡ Some p → conn_of p.from p.to p.bytes ≡ Some q → chain_in m k ≡ chain_at (file_at m.files) (conn m q) (letter_of p)
chain-is m k q p at of = ap (chain_by m) at ∙ ap (chain_of m p) of

-- ---- what a step sends

module _ (Given : Conn → Type 0) (Came_ : Conn → Move → Type 0) (Good : Machine → Type 0) (all : ℕ → Whole) (m n : Machine) (e : Event) (s : IsStep Given Came_ all m n e) (plain : IsPlain m n) where
  abbrev Move_of : ℕ → Type 0
  Move_of q = Moved Given Came_ all m n e s q (conn n q)

  abbrev files : FilesAt
  files = file_at m.files

  -- A packet that is new is a letter of the move of its connection.
  pub record IsNew (k : ℕ) : Type 0 where
    pub packet : Packet
    pub c : ℕ
    pub number : IsConnNumber c
    pub moved_ : Move_of c
    pub has : Has (letter_of packet) (letters_of moved_.move)
    pub chain : chain_in n k ≡ chain_at files (grown (conn m c) moved_.move) (letter_of packet)

  pub new-is : (k : ℕ) → is_on_way n.journal k ≡ true → length m.net < k → IsNew k
  new-is k on late =
      let there = plain.listed_too.there k on in
      let p : Packet = there.0 in
      let of = plain.listed_too.numbers k p there.1 in
      let q : ℕ = of.0 in
      let has : Has (letter_of p) (letters q (more m n plain.packets)) = new-has m n plain.packets k p q late there.1 of.1 in
      ⊎_elim
      (λ (stays : conn n q ≡ conn m q). absurd (subst (λ ls. Has (letter_of p) ls) (new-none m n plain.packets q stays) has))
      (λ (h : Move_of q). record {
        packet = p;
        c = q;
        number = of.2;
        moved_ = h;
        has = subst (λ ls. Has (letter_of p) ls) (new-letters m n plain.packets q h.move h.grows) has;
        chain = chain-is n k q p there.1 of.1 ∙ ap (λ f. chain_at (file_at f) (conn n q) (letter_of p)) plain.files ∙ ap (λ (y : Conn). chain_at files y (letter_of p)) h.grows;
      })
      (moved Given Came_ all m n e s q)

  -- a letter that a connection sends, and which is near then, is a new packet
  pub near-new : (q : ℕ) → IsConnNumber q → (h : Move_of q) (d : ℕ) → Any (λ a. NearAt files (grown (conn m q) h.move) d a) (letters_of h.move) → Nearer (game all Good) n (length m.net) d
  near-new q number h d any =
      let a = any-has (λ a. NearAt files (grown (conn m q) h.move) d a) (letters_of h.move) any in
      let has : Has a.0 (letters q (more m n plain.packets)) = subst (λ ls. Has a.0 ls) (sym (new-letters m n plain.packets q h.move h.grows)) a.1 in
      let new = has-new m n plain.packets q a.0 has in
      let there : NearAt files (conn n q) d a.0 = subst (λ (y : Conn). NearAt files y d a.0) (sym h.grows) a.2 in
      let here : NearAt (file_at n.files) (conn n q) d a.0 = subst (λ f. NearAt (file_at f) (conn n q) d a.0) (sym plain.files) there in
      record {
        number = new.0;
        is_new = new.2;
        waits = plain.new new.0 new.2 new.3;
        leads = record { packet = new.1; at = new.4; c = q; number = number; is_of = new.5; near = subst (λ (l : Letter). NearAt (file_at n.files) (conn n q) d l) (sym new.6) here };
      }

  -- where no unit goes, none of a connection that moves does
  pub still : machine_units all m ≤ machine_units all n → (q : ℕ) → IsConnNumber q → (h : Move_of q) → units (all q) m.config.nodes (conn m q) ≤ units (all q) m.config.nodes (grown (conn m q) h.move)
  still up q number h = subst (λ (y : Conn). units (all q) m.config.nodes (conn m q) ≤ units (all q) m.config.nodes y) h.grows (each-still Given Came_ all m n e s up q number.0 number.1)

-- ---- of one that is delivered

module _ (Given : Conn → Type 0) (Came_ : Conn → Move → Type 0) (Good : Machine → Type 0) (all : ℕ → Whole) (m n : Machine) (k : ℕ) (s : IsStep Given Came_ all m n (event.Deliver k)) (plain : IsPlain m n)
    (p : Packet) (at : packet_at m.net k ≡ Some p) (c : ℕ) (of : conn_of p.from p.to p.bytes ≡ Some c) (number : IsConnNumber c) where
  abbrev e : Event
  e = event.Deliver k

  its-shown : shown m e c ≡ Came (letter_of p) ∷ []
  its-shown = ap (λ o. came_seen c o ++ []) at ∙ ap (λ l. l ++ []) (one-mine c (conn_of p.from p.to p.bytes) (Came (letter_of p)) of)

  others-shown : (q : ℕ) → (q ≡ c → ⊥) → shown m e q ≡ []
  others-shown q other = ap (λ o. came_seen q o ++ []) at ∙ ap (λ l. l ++ []) (one-other c q (conn_of p.from p.to p.bytes) (Came (letter_of p)) other of)

  abbrev its : Type 0
  its = Moved Given Came_ all m n e s c (conn n c)

  pub its-move : its
  its-move = moves Given Came_ all m n e s c (Came (letter_of p)) its-shown

  its-named : (conn m c).c ≡ c
  unfolding conn
  its-named = refl

  -- its connection answers it
  pub its-answers : (h : its) → Answers (setting_of m) (all c) (conn m c) h.move (letter_of p)
  its-answers h =
      let heads : h.move.heads ≡ Came (letter_of p) ∷ [] = h.shown.heads ∙ ap (λ (q : ℕ). shown m e q) its-named ∙ its-shown in
      subst (λ (hs : List Seen). IfCame (Answers (setting_of m) (all c) (conn m c) h.move) (came_in hs)) heads h.leads.answers

  number-named : (q : ℕ) → (conn m q).c ≡ q
  unfolding conn
  number-named q = refl

  shorter : machine_units all m ≤ machine_units all n → AreShorter (game all Good) n (length m.net) (chain_in m k)
  shorter up i on late =
      let new = new-is Given Came_ Good all m n e s plain i on late in
      let still_ = still Given Came_ Good all m n e s plain up new.c new.number new.moved_ in
      by_number (chain_in n i < chain_in m k) new.c c
      (λ same. go new.c same new.moved_ new.packet new.has new.chain still_)
      (λ other.
      let none : new.moved_.move.heads ≡ [] = new.moved_.shown.heads ∙ ap (λ (q : ℕ). shown m e q) (number-named new.c) ∙ others-shown new.c other in
      ⊎_elim
      (λ (names : NamesAll new.moved_.move.place). let falls = new.moved_.leads.alone.admits none names in absurd (omega (arith, falls, still_)))
      (λ (nothing : (q : ℕ) → shown m e q ≡ []). absurd (let bad : Came (letter_of p) ∷ [] ≡ [] = sym its-shown ∙ nothing c in cc))
      (new.moved_.shown.alone none))
    where
      go : (q : ℕ) → q ≡ c → (h : Moved Given Came_ all m n e s q (conn n q)) (x : Packet) → Has (letter_of x) (letters_of h.move) → chain_in n i ≡ chain_at (file_at m.files) (grown (conn m q) h.move) (letter_of x)
          → units (all q) m.config.nodes (conn m q) ≤ units (all q) m.config.nodes (grown (conn m q) h.move) → chain_in n i < chain_in m k
      go q same = subst (λ (z : ℕ). (h : Moved Given Came_ all m n e s z (conn n z)) (x : Packet) → Has (letter_of x) (letters_of h.move) → chain_in n i ≡ chain_at (file_at m.files) (grown (conn m z) h.move) (letter_of x)
          → units (all z) m.config.nodes (conn m z) ≤ units (all z) m.config.nodes (grown (conn m z) h.move) → chain_in n i < chain_in m k) (sym same)
          (λ h x has is up.
          let less = every-has (λ a. chain_at (file_at m.files) (grown (conn m c) h.move) a < chain_at (file_at m.files) (conn m c) (letter_of p)) (letters_of h.move) (letter_of x) ((its-answers h).shorter up) has in
          let old = chain-is m k c p at of in
          omega (arith, less, is, old))

  pub packet-shorter : machine_units all m ≤ machine_units all n → AreShorter (game all Good) n (length m.net) (chain_in m k) ⊎ Nearer (game all Good) n (length m.net) 3
  packet-shorter up = inl (shorter up)

  -- one that is near leads further, or it is a Fetch
  pub packet-leads : machine_units all m ≤ machine_units all n → (d : ℕ) → NearAt (file_at m.files) (conn m c) (suc d) (letter_of p) → Nearer (game all Good) n (length m.net) d ⊎ IsFetch (letter_of p)
  packet-leads up d near = ⊎_elim
      (λ (a : Any (λ a. NearAt (file_at m.files) (grown (conn m c) its-move.move) d a) (letters_of its-move.move)). inl (near-new Given Came_ Good all m n e s plain c number its-move d a))
      (λ (f : IsFetch (letter_of p)). inr f)
      ((its-answers its-move).leads (still Given Came_ Good all m n e s plain up c number its-move) d near)

-- a packet that is near is one of a connection
pub near-of : (m : Machine) (k d c : ℕ) (p : Packet) → packet_at m.net k ≡ Some p → conn_of p.from p.to p.bytes ≡ Some c → NearIn m d k → NearAt (file_at m.files) (conn m c) d (letter_of p)
near-of m k d c p at of h =
    let same : h.packet ≡ p = some-is h.packet p (sym h.at ∙ at) in
    let here : conn_of h.packet.from h.packet.to h.packet.bytes ≡ Some c = ap (λ (x : Packet). conn_of x.from x.to x.bytes) same ∙ of in
    let number : h.c ≡ c = some-is h.c c (sym h.is_of ∙ here) in
    subst (λ (q : ℕ). NearAt (file_at m.files) (conn m q) d (letter_of p)) number (subst (λ (x : Packet). NearAt (file_at m.files) (conn m h.c) d (letter_of x)) same h.near)
  where
    some-is : {A : Type 0} (x y : A) → Some x ≡ Some y → x ≡ y
    some-is x y e = cc
