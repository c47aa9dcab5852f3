-- What the front end and the nodes say to one another: what was said before, no Offer and no Give, or one that carries what the journal tells.
use Rattle.std.proofs.Common.{◌≡◌, ◌⊎◌, ◌+◌, ◌^◌, ◌<◌, ◌-◌, ◌≤◌, ℕ, Bool, true, List, [], ◌∷◌, length, map, Some, Ok, arith, ap, ◌∙◌, sym, subst, inl, inr, ⊎_elim, append-nil}
use Rattle.std.specs.List.{list_any}
use Rattle.lard_law_view.specs.Prelude.{AreReplies, AreSent, Body, Client, Conn, ControlBlock, FilesAt, FirstChoice, Front, FrontEnv, FrontRow, FrontTurn, GoesOn, IsConnNumber, IsMessage, IsStream, Kept, Kind, Message, Node, Place, Rec, Service, Stream, Tale, Verdict, Was, bytes_served_in, decoded_message, handed_off, is_reset_record, kind_of, may_freeze, next_epoch, offer_kept, parts_of, sent_of, served_in, tale, told_on}
use Rattle.lard_law_connections.specs.BytesAgreement.{FrontHolds, IsOffering}
use Rattle.lard_law_connections.specs.BytesKeeping.{FrontTurned}
use Rattle.lard_law_connections.proofs.BytesTold.{Bytes, bytes_of, place-notes}
use Rattle.lard_law_connections.specs.Offers.{BodyCarries}
use Rattle.lard_law_connections.proofs.OffersParts.{Tells, carries}
use Rattle.lard_law_connections.specs.BytesTurning.{IsNoteOf}
use Rattle.lard_law_connections.proofs.PlacesHeads.{kinds-same, spelled-body}
use Rattle.lard_endpoint.proofs.Adoption.{parts-valid}
use Rattle.lard_law_view.proofs.EndpointSends.{AllTo}
use Rattle.lard_rules.specs.Front.{message}
use Rattle.lard_history.proofs.Each.{Each}
use Rattle.lard_law_view.proofs.Notes.{Adds}
use Rattle.lard_message.specs.declared.kind.Kind.TheVariants as kind
use Rattle.lard_message.specs.declared.message.Body.TheVariants as body
use Rattle.lard_message.proofs.Fields.{some_same}
use Rattle.lard_message.proofs.Whole.{again}

-- ---- what goes out

-- it was sent before, or it carries what is told now
abbrev pub GoesFirst : FilesAt → Conn → Bytes → Place → Place → List ℕ → Type 0
GoesFirst files x b from to bytes = Was x from to bytes ⊎ ((J : List Rec) → bytes_of (tale J x.c) ≡ b → (m : Message) → decoded_message bytes ≡ Ok m → BodyCarries files J x.c m.body)

-- from the front end to a node, and from a node to the front end
abbrev pub MayGo : FilesAt → Conn → Bytes → Place → Place → List ℕ → Type 0
MayGo files x b Front (Node n) bytes = GoesFirst files x b Front (Node n) bytes
MayGo files x b (Node n) Front bytes = GoesFirst files x b (Node n) Front bytes
MayGo files x b _ _ bytes = Unit {0}

abbrev pub AllMayGo : FilesAt → Conn → Bytes → Place → List (Place × List ℕ) → Type 0
AllMayGo files x b from ss = Each (λ s. MayGo files x b from s.0 s.1) ss

-- the segments of a turn, and its messages
abbrev pub AreSaid : FilesAt → Conn → Bytes → Place → List (Place × List ℕ) → List (Place × List ℕ) → Type 0
AreSaid files x b from ss ms = AllMayGo files x b from ss × AllMayGo files x b from ms

-- segments go to a client
pub replies-go : (files : FilesAt) (x : Conn) (b : Bytes) (c : ℕ) (w out : Stream) (r : Bool) (ss : List (Place × List ℕ)) → AreReplies c w out r ss → AllMayGo files x b Front ss
replies-go files x b c w out r [] h = tt
replies-go files x b c w out r (s ∷ ss) h = (subst (λ (to : Place). MayGo files x b Front to s.1) (sym h.0) tt, replies-go files x b c w out r ss h.2)

-- ---- a message that is no Offer, and no Give

abbrev pub IsOfParts : Kind → Type 0
IsOfParts kind.Offer = Unit {0}
IsOfParts kind.Give = Unit {0}
IsOfParts _ = ⊥

pub no-parts : (files : FilesAt) (J : List Rec) (c : ℕ) (b : Body) → (IsOfParts (kind_of b) → ⊥) → BodyCarries files J c b
no-parts files J c (body.Offer parts) n = absurd (n tt)
no-parts files J c (body.Give parts) n = absurd (n tt)
no-parts files J c _ n = tt

pub other-goes : (files : FilesAt) (x : Conn) (b : Bytes) (n c e : ℕ) (y : Body) → (IsOfParts (kind_of y) → ⊥) → MayGo files x b Front (Node n) (message c e y)
other-goes files x b n c e y other = inr (λ J is m d.
    no-parts files J x.c m.body (λ (k : IsOfParts (kind_of m.body)). other (subst IsOfParts (sym (kinds-same (record { c = c; epoch = record { 0 = e }; body = y }) m d)) k)))

-- so a node says it too
abbrev pub IsPlainSay : ℕ → Place × List ℕ → Type 0
IsPlainSay c s = ((m : ℕ) × (s.0 ≡ Node m)) ⊎ ((e : ℕ) × (y : Body) × (s ≡ (Front, message c e y)) × (IsOfParts (kind_of y) → ⊥))

pub plain-goes : (files : FilesAt) (x : Conn) (b : Bytes) (n c : ℕ) (ss : List (Place × List ℕ)) → Each (IsPlainSay c) ss → AllMayGo files x b (Node n) ss
plain-goes files x b n c [] h = tt
plain-goes files x b n c (s ∷ ss) h = (
  ⊎_elim
      (λ (to : (m : ℕ) × (s.0 ≡ Node m)). subst (λ (z : Place). MayGo files x b (Node n) z s.1) (sym to.1) tt)
      (λ (f : (e : ℕ) × (y : Body) × (s ≡ (Front, message c e y)) × (IsOfParts (kind_of y) → ⊥)).
      subst (λ (z : Place × List ℕ). MayGo files x b (Node n) z.0 z.1) (sym f.2)
      (inr (λ J is m d. no-parts files J x.c m.body (λ (k : IsOfParts (kind_of m.body)). f.3 (subst IsOfParts (sym (kinds-same (record { c = c; epoch = record { 0 = f.0 }; body = f.1 }) m d)) k)))))
      h.0,
  plain-goes files x b n c ss h.1,
)

-- segments go to a client
pub clients-go : (files : FilesAt) (x : Conn) (b : Bytes) (n c : ℕ) (ss : List (Place × List ℕ)) → AllTo (Client c) ss → AllMayGo files x b (Node n) ss
clients-go files x b n c [] h = tt
clients-go files x b n c (s ∷ ss) h = (subst (λ (to : Place). MayGo files x b (Node n) to s.1) (sym h.0) tt, clients-go files x b n c ss h.1)

pub replies-to : (c : ℕ) (w out : Stream) (r : Bool) (ss : List (Place × List ℕ)) → AreReplies c w out r ss → AllTo (Client c) ss
replies-to c w out r [] h = tt
replies-to c w out r (s ∷ ss) h = (h.0, replies-to c w out r ss h.2)

-- what was sent before
pub sent-goes : (files : FilesAt) (x : Conn) (b : Bytes) (n : ℕ) (ks : List Kept) → AreSent x (Node n) ks → AllMayGo files x b (Node n) (map sent_of ks)
sent-goes files x b n [] h = tt
sent-goes files x b n (q ∷ ks) h = (one q.to h.0.1, sent-goes files x b n ks h.1) where
  one : (to : Place) → Was x (Node n) to q.bytes → MayGo files x b (Node n) to q.bytes
  one Front was = inl was
  one (Node m) was = tt
  one (Client d) was = tt

-- ---- an Offer, and a Give

-- what is read of it is the parts of the endpoint that was frozen
module _ (c e : ℕ) (w out : Stream) (vs : List Verdict) (b : ControlBlock) (count : ℕ) (number : IsConnNumber c) (is : IsStream w) (h : FrontHolds w out vs [] b count) (frozen : may_freeze b ≡ true) where
  abbrev offer : Body
  offer = body.Offer (parts_of b count)

  abbrev first : Message
  first = record { c = c; epoch = record { 0 = 1 }; body = offer }

  good : IsMessage first
  good =
      let held = h.holds in
      let serves = h.serves in
      let asked : count ≤ b.recv.got - length b.recv.unread = omega (arith, serves.asked) in
      let irs : b.recv.irs < 2 ^ 32 = subst (λ (n : ℕ). n < 2 ^ 32) (sym held.hears.first) is.number in
      record {
        some_connection = number.0;
        connection = number.1;
        epoch = omega arith;
        table = parts-valid b count held.sound frozen asked;
        fits = (irs, held.speaks.number, held.wide.wnd, held.wide.wl1, held.wide.wl2);
      }

  -- in whatever epoch
  pub offer-body : (m : Message) → decoded_message (message c e offer) ≡ Ok m → offer ≡ m.body
  offer-body m d =
      let read = spelled-body (record { c = c; epoch = record { 0 = e }; body = offer }) m d in
      let known = spelled-body first first (again first good) in
      let same : (offer, known.0) ≡ (m.body, read.0) = some_same (offer, known.0) (m.body, read.0) (sym known.1 ∙ read.1) in
      ap (λ (p : Body × List ℕ). p.0) same

  abbrev give : Body
  give = body.Give (parts_of b count)

  abbrev last : Message
  last = record { c = c; epoch = record { 0 = 1 }; body = give }

  pub give-body : (m : Message) → decoded_message (message c e give) ≡ Ok m → give ≡ m.body
  give-body m d =
      let read = spelled-body (record { c = c; epoch = record { 0 = e }; body = give }) m d in
      let sound : IsMessage last = record { some_connection = good.some_connection; connection = good.connection; epoch = good.epoch; table = good.table; fits = good.fits } in
      let known = spelled-body last last (again last sound) in
      let same : (give, known.0) ≡ (m.body, read.0) = some_same (give, known.0) (m.body, read.0) (sym known.1 ∙ read.1) in
      ap (λ (p : Body × List ℕ). p.0) same

first_bytes : List Kept → List ℕ
first_bytes [] = []
first_bytes (k ∷ ks) = k.bytes

-- ---- a hand-off

module _ (files : FilesAt) (x : Conn) (number : IsConnNumber x.c) (w out : Stream) (vs : List Verdict) (r : Bool) (stream : IsStream w) (before : Tale) (told : Tells w out vs before) where
  -- what is told behind these notes
  pub notes-tell : (next : Stream) (us : List Verdict) (notes : List Rec) → GoesOn out next → Each (IsNoteOf x.c) notes → length us ≡ length vs + served_in notes
      → Tells w next us (told_on x.c before notes)
  notes-tell next us notes longer each served =
      let adds : Adds before [] [] (served_in notes) (bytes_served_in notes) (list_any is_reset_record notes) (told_on x.c before notes) = place-notes x.c before notes each in
      record {
        numbers = adds.numbers ∙ told.numbers ∙ (λ i. Some (record { isn = w.first; iss = sym longer.first i }));
        wrote = adds.wrote ∙ append-nil before.wrote ∙ told.wrote;
        served = adds.served ∙ ap (λ (n : ℕ). n + served_in notes) told.served ∙ sym served;
      }

  turn-tells : (p : _) (t : FrontTurn) (h : FrontTurned files x.c w out vs r p t) → Tells w h.out_after h.vs_after (told_on x.c before t.notes)
  turn-tells p t h = notes-tell h.out_after h.vs_after t.notes h.longer h.noted.each h.noted.served

  -- so it is of each journal that tells the same of bytes
  pub same-tells : (out : Stream) (vs : List Verdict) (t u : Tale) → bytes_of u ≡ bytes_of t → Tells w out vs t → Tells w out vs u
  same-tells out vs t u e h = record {
    numbers = ap (λ (b : Bytes). b.numbers) e ∙ h.numbers;
    wrote = ap (λ (b : Bytes). b.wrote) e ∙ h.wrote;
    served = ap (λ (b : Bytes). b.served) e ∙ h.served;
  }

  -- the Offer of a hand-off carries what is told then
  pub handed-says : (env : FrontEnv) (row : FrontRow) (s : Service) (path : List ℕ) (choice : FirstChoice) → (let given = handed_off env row s path choice in FrontTurned files x.c w out vs r given.0 given.1)
      → (let given = handed_off env row s path choice in AreSaid files x (bytes_of (told_on x.c before given.1.notes)) Front given.1.segments given.1.messages)
  unfolding first_bytes
  handed-says env row s path choice h =
      let given = handed_off env row s path choice in
      let node : ℕ = choice.node in
      let e : ℕ = (next_epoch row).0 in
      let kept : Kept = offer_kept env.serve.c row s.block s.count node in
      let at : IsOffering w h.out_after h.vs_after [] x.c node e (kept ∷ []) = h.agrees in
      let spelled : kept.bytes ≡ message x.c e (body.Offer (parts_of at.block at.count)) = ap first_bytes at.kept_is in
      let tells : Tells w h.out_after h.vs_after (told_on x.c before given.1.notes) = turn-tells given.0 given.1 h in (
        tt,
        (
          inr (λ J is m d.
              let same : body.Offer (parts_of at.block at.count) ≡ m.body =
              offer-body x.c e w h.out_after h.vs_after at.block at.count number stream at.holds at.frozen m (sym (ap decoded_message spelled) ∙ d) in
              subst (BodyCarries files J x.c) same
              (carries files w h.out_after h.vs_after at.block at.count h.says at.holds at.frozen J x.c (same-tells h.out_after h.vs_after (told_on x.c before given.1.notes) (tale J x.c) is tells))),
          tt,
        ),
      )
