-- The laws: what was written is read again, what is read is spelled so, and a fault is the first that applies.
use Rattle.std.proofs.Common.{◌≡◌, ℕ, ◌+◌, ◌^◌, ◌<◌, ◌≤◌, Bool, true, false, cond, not, ◌==◌, ◌&&◌, ◌||◌, nat_lt, nat_le, List, [], ◌++◌, length, take, drop, Option, Some, None, Result, Ok, Err, IfOk, IfErr, refl, sym, ap, subst, ◌∙◌, arith, append-nil, length-append, length-drop, ltb-true, ltb-false, le-ltb, leb-true, le-leb, eqb-true}
use Rattle.std.proofs.lemmas.Bool.{cond-true, cond-false, and_parts, and_from, both_ways, not-false, not-true}
use Rattle.std.proofs.lemmas.List.{nil_from_length}
use Rattle.std.proofs.lemmas.Nat.{from_be_bytes-to_be_bytes_2}
use Rattle.lard_base.specs.declared.ids.TheConstants.ConnId.{MAX}
use Rattle.lard_message.specs.declared.fault.MsgFault.{MsgFault}
use Rattle.lard_message.specs.declared.fault.MsgFault.TheVariants as fault
use Rattle.lard_message.specs.declared.kind.Kind.{Kind}
use Rattle.lard_message.specs.declared.kind.Kind.TheVariants as kind
use Rattle.lard_message.specs.declared.message.Body.{Body}
use Rattle.lard_message.specs.declared.message.Message.{Message}
use Rattle.lard_message.specs.Kinds.{version_of, kind_number, is_version, first_kind, second_kind, kind_named}
use Rattle.lard_message.specs.Laws.{AreBytes, ReadsAgain, ReadsWhatIsSpelled, NamesTheFirstFault, SpellsOneMessage, NoneBeginsAnother, FitsAPacket}
use Rattle.lard_message.specs.Message.{IsMessage, kind_of, body_bytes, header_bytes, spelled_message}
use Rattle.lard_message.specs.Reading.{is_of_table, version_at, number_byte, connection_at, epoch_at, length_at, with_body, with_kind, body_at, decoded_message, GivesMessage}
use Rattle.lard_message.specs.Faults.{Applies, IsFirstFault}
use Rattle.lard_message.proofs.Fields.{some_same, AreBytes-drop, AreBytes-take, wide16}
use Rattle.lard_message.proofs.Layouts.{IsBodyAt, body_takes, body_again}
use Rattle.lard_message.proofs.Spelled.{length-body, length-spelled, length_at-spelled, header_again}
use Rattle.lard_message.proofs.Tables.{table_passes, table_passed}

-- ---- kinds and their numbers

pub named_again : (k : Kind) → kind_named (version_of k) (kind_number k) ≡ Some k
named_again kind.Offer = refl
named_again _ = refl

-- the version of a kind is one
version_again : (k : Kind) → is_version (version_of k) ≡ true
version_again kind.Offer = refl
version_again _ = refl

-- the first two bytes of a header are small
small_again : (k : Kind) → (nat_le 1 (version_of k) && (nat_le (version_of k) 2 && nat_le (kind_number k) 12)) ≡ true
small_again kind.Offer = refl
small_again _ = refl

pub kind_small : (k : Kind) → (1 ≤ version_of k) × (version_of k ≤ 2) × (kind_number k ≤ 12)
kind_small k =
    let some = and_parts _ _ (small_again k) in let few = and_parts _ _ some.1 in
    (leb-true _ _ some.0, leb-true _ _ few.0, leb-true _ _ few.1)

-- some kind has each version
some_kind : (v : ℕ) → is_version v ≡ true → (k : Kind) × (version_of k ≡ v)
some_kind v h = go (v == 1) (v == 2) refl refl h where
  go : (t u : Bool) → (v == 1) ≡ t → (v == 2) ≡ u → (t || u) ≡ true → (k : Kind) × (version_of k ≡ v)
  go true u p q h = (kind.Taken, sym (eqb-true v 1 p))
  go false true p q h = (kind.Refused, sym (eqb-true v 2 q))
  go false false p q h = absurd (cc)

-- the kind with this version and number
abbrev pub IsNamed : ℕ → ℕ → Kind → Type 0
IsNamed v n x = (version_of x ≡ v) × (kind_number x ≡ n)

-- one kind of a table, or one behind it
one_of : (t : Bool) (k : Kind) (others : Option Kind) (v n : ℕ) (x : Kind) → version_of k ≡ v → (t ≡ true → kind_number k ≡ n) → (others ≡ Some x → IsNamed v n x) → cond t (Some k) others ≡ Some x → IsNamed v n x
one_of true k others v n x version here there e = subst (IsNamed v n) (some_same k x e) (version, here refl)
one_of false k others v n x version here there e = there e

none_of : (v n : ℕ) (x : Kind) → None ≡ Some x → IsNamed v n x
none_of v n x e = absurd cc

first_is : (n : ℕ) (x : Kind) → first_kind n ≡ Some x → IsNamed 1 n x
first_is n x e =
    one_of (n == 1) kind.Offer _ 1 n x refl (λ t. sym (eqb-true n 1 t)) (one_of (n == 2) kind.Taken _ 1 n x refl (λ t. sym (eqb-true n 2 t)) (
    one_of (n == 4) kind.Forward _ 1 n x refl (λ t. sym (eqb-true n 4 t)) (one_of (n == 5) kind.Ask _ 1 n x refl (λ t. sym (eqb-true n 5 t)) (
    one_of (n == 6) kind.Tag _ 1 n x refl (λ t. sym (eqb-true n 6 t)) (one_of (n == 7) kind.Fetch _ 1 n x refl (λ t. sym (eqb-true n 7 t)) (
    one_of (n == 8) kind.Content _ 1 n x refl (λ t. sym (eqb-true n 8 t)) (one_of (n == 9) kind.Ended _ 1 n x refl (λ t. sym (eqb-true n 9 t)) (
    one_of (n == 10) kind.EndedAck _ 1 n x refl (λ t. sym (eqb-true n 10 t)) (none_of 1 n x))))))))) e

second_is : (n : ℕ) (x : Kind) → second_kind n ≡ Some x → IsNamed 2 n x
second_is n x e =
    one_of (n == 3) kind.Refused _ 2 n x refl (λ t. sym (eqb-true n 3 t)) (one_of (n == 11) kind.Give _ 2 n x refl (λ t. sym (eqb-true n 11 t)) (
    one_of (n == 12) kind.Given _ 2 n x refl (λ t. sym (eqb-true n 12 t)) (none_of 2 n x))) e

pub named_is : (v n : ℕ) (x : Kind) → kind_named v n ≡ Some x → IsNamed v n x
named_is v n x e = go (v == 1) (v == 2) refl refl e where
  go : (t u : Bool) → (v == 1) ≡ t → (v == 2) ≡ u → cond t (first_kind n) (cond u (second_kind n) None) ≡ Some x → IsNamed v n x
  go true u p q h = let is = first_is n x h in (is.0 ∙ sym (eqb-true v 1 p), is.1)
  go false true p q h = let is = second_is n x h in (is.0 ∙ sym (eqb-true v 2 q), is.1)
  go false false p q h = let none : None ≡ Some x = h in absurd cc

-- ---- what was written is read again

pub again : ReadsAgain
unfolding decoded_message spelled_message
again m h =
    let body : List ℕ = body_bytes m.body in
    let bytes : List ℕ = header_bytes (version_of (kind_of m.body)) (kind_number (kind_of m.body)) m.c m.epoch.0 (length body) ++ body in
    let len : length_at bytes ≡ length body = ap length_at (sym (append-nil bytes)) ∙ length_at-spelled m [] h in
    let c : connection_at bytes ≡ m.c = from_be_bytes-to_be_bytes_2 m.c (omega (arith, h.connection)) in
    let epoch : epoch_at bytes ≡ m.epoch.0 = from_be_bytes-to_be_bytes_2 m.epoch.0 h.epoch in
    let some : 1 ≤ connection_at bytes = omega (arith, c, h.some_connection) in
    let most : connection_at bytes ≤ MAX = omega (arith, c, h.connection) in
    let in_range : (nat_le 1 (connection_at bytes) && nat_le (connection_at bytes) MAX) ≡ true = and_from _ _ (le-leb 1 (connection_at bytes) some) (le-leb (connection_at bytes) MAX most) in
    cond-false (nat_lt (length bytes) 10) _ _ (le-ltb _ _ (omega arith))
    ∙ cond-false (not (is_version (version_at bytes))) _ _ (ap not (version_again (kind_of m.body)))
    ∙ ap (with_kind bytes) (named_again (kind_of m.body))
    ∙ cond-false (nat_lt (length bytes) (10 + length_at bytes)) _ _ (le-ltb _ _ (omega (arith, len)))
    ∙ cond-false (nat_lt (10 + length_at bytes) (length bytes)) _ _ (le-ltb _ _ (omega (arith, len)))
    ∙ cond-false (not (nat_le 1 (connection_at bytes) && nat_le (connection_at bytes) MAX)) _ _ (ap not in_range)
    ∙ ap (λ (n : ℕ). with_body n (epoch_at bytes) (body_at (kind_of m.body) body)) c
    ∙ ap (λ (n : ℕ). with_body m.c n (body_at (kind_of m.body) body)) epoch
    ∙ ap (with_body m.c m.epoch.0) (body_again m.body h.table h.fits)
    ∙ cond-true (is_of_table m.body) _ _ (table_passes m.body h.table)

-- ---- what is read is spelled so

-- a test before an answer has passed
passed : (t : Bool) (e : MsgFault) (x : Result Message MsgFault) (m : Message) → cond t (Err e) x ≡ Ok m → (t ≡ false) × (x ≡ Ok m)
passed true e x m h = absurd (cc)
passed false e x m h = (refl, h)

let_through : (t : Bool) (x m : Message) (e : MsgFault) → cond t (Ok x) (Err e) ≡ Ok m → (t ≡ true) × (x ≡ m)
let_through true x m e h = (refl, cc)
let_through false x m e h = absurd (cc)

epoch_small : (bytes : List ℕ) → AreBytes bytes → epoch_at bytes < 2 ^ 16
epoch_small bytes fits = wide16.below (take 2 (drop 4 bytes)) (AreBytes-take 2 (drop 4 bytes) (AreBytes-drop 4 bytes fits))

-- the parts of a message that was read are its spelling
joined : (bytes : List ℕ) (k : Kind) (b : Body) (rest : List ℕ) → AreBytes bytes → 10 ≤ length bytes → length bytes ≡ 10 + length_at bytes → kind_named (version_at bytes) (number_byte bytes) ≡ Some k
    → IsBodyAt k (drop 10 bytes) (b, rest) → rest ≡ []
    → header_bytes (version_of (kind_of b)) (kind_number (kind_of b)) (connection_at bytes) (epoch_at bytes) (length (body_bytes b)) ++ body_bytes b ≡ bytes
joined bytes k b rest fits long whole named at none =
    let is = named_is (version_at bytes) (number_byte bytes) k named in
    let v : version_of (kind_of b) ≡ version_at bytes = ap version_of at.kind ∙ is.0 in
    let n : kind_number (kind_of b) ≡ number_byte bytes = ap kind_number at.kind ∙ is.1 in
    let body : drop 10 bytes ≡ body_bytes b = at.parts ∙ ap (λ (r : List ℕ). body_bytes b ++ r) none ∙ append-nil (body_bytes b) in
    let len : length (body_bytes b) ≡ length_at bytes = sym (ap length body) ∙ length-drop 10 bytes ∙ omega (arith, whole) in
    ap (λ (x : ℕ). header_bytes x (kind_number (kind_of b)) (connection_at bytes) (epoch_at bytes) (length (body_bytes b)) ++ body_bytes b) v
    ∙ ap (λ (x : ℕ). header_bytes (version_at bytes) x (connection_at bytes) (epoch_at bytes) (length (body_bytes b)) ++ body_bytes b) n
    ∙ ap (λ (x : ℕ). header_bytes (version_at bytes) (number_byte bytes) (connection_at bytes) (epoch_at bytes) x ++ body_bytes b) len
    ∙ ap (λ (x : List ℕ). header_bytes (version_at bytes) (number_byte bytes) (connection_at bytes) (epoch_at bytes) (length_at bytes) ++ x) (sym body)
    ∙ header_again bytes fits long

module _ (bytes : List ℕ) (m : Message) (fits : AreBytes bytes) (long : 10 ≤ length bytes) where
  by_body : (k : Kind) (o : Option (Body × List ℕ)) → kind_named (version_at bytes) (number_byte bytes) ≡ Some k → length bytes ≡ 10 + length_at bytes
      → (1 ≤ connection_at bytes) × (connection_at bytes ≤ MAX) → epoch_at bytes < 2 ^ 16 → body_at k (drop 10 bytes) ≡ o → with_body (connection_at bytes) (epoch_at bytes) o ≡ Ok m
      → IsMessage m × (spelled_message m ≡ bytes)
  unfolding spelled_message
  by_body k None named whole c epoch e h = absurd (cc)
  by_body k (Some (b, rest)) named whole c epoch e h =
      let made : Message = record { c = connection_at bytes; epoch = record { 0 = epoch_at bytes }; body = b } in
      let t = let_through (length rest == 0 && is_of_table b) made m fault.Field h in
      let tests = and_parts _ _ t.0 in
      let none : rest ≡ [] = nil_from_length rest (eqb-true _ _ tests.0) in
      let at = body_takes k (drop 10 bytes) (b, rest) (AreBytes-drop 10 bytes fits) e in
      let is : IsMessage made = record { some_connection = c.0; connection = c.1; epoch = epoch; table = table_passed b tests.1; fits = at.fits } in
      subst (λ (x : Message). IsMessage x × (spelled_message x ≡ bytes)) t.1 (is, joined bytes k b rest fits long whole named at none)

  by_kind : (o : Option Kind) → kind_named (version_at bytes) (number_byte bytes) ≡ o → with_kind bytes o ≡ Ok m → IsMessage m × (spelled_message m ≡ bytes)
  by_kind None named h = absurd (cc)
  by_kind (Some k) named h =
      let a = passed (nat_lt (length bytes) (10 + length_at bytes)) fault.Length _ m h in
      let b = passed (nat_lt (10 + length_at bytes) (length bytes)) fault.Trailing _ m a.1 in
      let d = passed (not (nat_le 1 (connection_at bytes) && nat_le (connection_at bytes) MAX)) fault.Field _ m b.1 in
      let tests = and_parts _ _ (not-false (nat_le 1 (connection_at bytes) && nat_le (connection_at bytes) MAX) d.0) in
      let more : 10 + length_at bytes ≤ length bytes = ltb-false _ _ a.0 in
      let less : length bytes ≤ 10 + length_at bytes = ltb-false _ _ b.0 in
      by_body k (body_at k (drop 10 bytes)) named (omega (arith, more, less)) (leb-true _ _ tests.0, leb-true _ _ tests.1) (epoch_small bytes fits) refl d.1

pub spelled_so : ReadsWhatIsSpelled
unfolding decoded_message
spelled_so bytes m fits h =
    let a = passed (nat_lt (length bytes) 10) fault.Short _ m h in
    let b = passed (not (is_version (version_at bytes))) fault.Version _ m a.1 in
    by_kind bytes m fits (ltb-false _ _ a.0) (kind_named (version_at bytes) (number_byte bytes)) refl b.1

-- ---- a fault is the first that applies

err_same : (d e : MsgFault) → ◌≡◌ {A = Result Message MsgFault} (Err d) (Err e) → d ≡ e
err_same d e h = cc

-- where a test stops, or goes on
stopped : (t : Bool) (d e : MsgFault) (x : Result Message MsgFault) (P : MsgFault → Type 0) → (t ≡ true → P d) → (t ≡ false → x ≡ Err e → P e) → cond t (Err d) x ≡ Err e → P e
stopped true d e x P here there h = subst P (err_same d e h) (here refl)
stopped false d e x P here there h = there refl h

-- a message is no fault
ended_by : (t : Bool) (x : Message) (d e : MsgFault) (P : MsgFault → Type 0) → P d → cond t (Ok x) (Err d) ≡ Err e → P e
ended_by true x d e P here h = absurd (cc)
ended_by false x d e P here h = subst P (err_same d e h) here

body_fault : (c epoch : ℕ) (o : Option (Body × List ℕ)) (e : MsgFault) (P : MsgFault → Type 0) → P fault.Field → with_body c epoch o ≡ Err e → P e
body_fault c epoch None e P here h = subst P (err_same fault.Field e h) here
body_fault c epoch (Some (b, rest)) e P here h = ended_by (length rest == 0 && is_of_table b) (record { c = c; epoch = record { 0 = epoch }; body = b }) fault.Field e P here h

-- what is no message has no spelling
unspelled : (bytes : List ℕ) → decoded_message bytes ≡ Err fault.Field → Applies fault.Field bytes
unspelled bytes h m is same = let both : ◌≡◌ {A = Result Message MsgFault} (Ok m) (Err fault.Field) = sym (again m is) ∙ ap decoded_message same ∙ h in cc

module _ (bytes : List ℕ) (e : MsgFault) (whole : decoded_message bytes ≡ Err e) (long : 10 ≤ length bytes) where
  not_short : Applies fault.Short bytes → ⊥
  not_short h = omega (arith, h, long)

  kind_fault : (o : Option Kind) → kind_named (version_at bytes) (number_byte bytes) ≡ o → is_version (version_at bytes) ≡ true → with_kind bytes o ≡ Err e → IsFirstFault bytes e
  kind_fault None named v h =
      let known = some_kind (version_at bytes) v in
      let none : Applies fault.Kind bytes = λ k p q. let both : Some k ≡ None = sym (named_again k) ∙ ap (λ (x : ℕ). kind_named x (kind_number k)) p ∙ ap (kind_named (version_at bytes)) q ∙ named in cc in
      subst (IsFirstFault bytes) (err_same fault.Kind e h) (none, (not_short, ((λ f. f known.0 known.1), tt)))
  kind_fault (Some k) named v h =
      let is = named_is (version_at bytes) (number_byte bytes) k named in
      let versioned : Applies fault.Version bytes → ⊥ = λ f. f k is.0 in
      let known : Applies fault.Kind bytes → ⊥ = λ f. f k is.0 is.1 in
      stopped (nat_lt (length bytes) (10 + length_at bytes)) fault.Length e _ (IsFirstFault bytes) (λ t. (ltb-true _ _ t, (not_short, (versioned, (known, tt))))) (λ t h1.
      let enough : Applies fault.Length bytes → ⊥ = λ less. omega (arith, less, ltb-false _ _ t) in
      stopped (nat_lt (10 + length_at bytes) (length bytes)) fault.Trailing e _ (IsFirstFault bytes) (λ u. (ltb-true _ _ u, (not_short, (versioned, (known, (enough, tt)))))) (λ u h2.
      let no_more : Applies fault.Trailing bytes → ⊥ = λ more. omega (arith, more, ltb-false _ _ u) in
      let field : decoded_message bytes ≡ Err fault.Field → IsFirstFault bytes fault.Field = λ f. (unspelled bytes f, (not_short, (versioned, (known, (enough, (no_more, tt)))))) in
      let found : decoded_message bytes ≡ Err e → IsFirstFault bytes e =
      stopped (not (nat_le 1 (connection_at bytes) && nat_le (connection_at bytes) MAX)) fault.Field e _ (λ d. decoded_message bytes ≡ Err d → IsFirstFault bytes d) (λ c. field)
      (λ c h3. body_fault (connection_at bytes) (epoch_at bytes) (body_at k (drop 10 bytes)) e (λ d. decoded_message bytes ≡ Err d → IsFirstFault bytes d) field h3) h2 in
      found whole) h1) h

pub first_fault : NamesTheFirstFault
unfolding decoded_message
first_fault bytes e h =
    stopped (nat_lt (length bytes) 10) fault.Short e _ (IsFirstFault bytes) (λ t. (ltb-true _ _ t, tt)) (λ t h1.
    let long : 10 ≤ length bytes = ltb-false _ _ t in
    let short : Applies fault.Short bytes → ⊥ = not_short bytes e h long in
    stopped (not (is_version (version_at bytes))) fault.Version e _ (IsFirstFault bytes) (λ u. (λ k v. both_ways (is_version (version_at bytes)) (not-true _ u) (sym (ap is_version v) ∙ version_again k), (short, tt)))
    (λ u h2. kind_fault bytes e h long (kind_named (version_at bytes) (number_byte bytes)) refl (not-false _ u) h2) h1) h

-- ---- one spelling

pub one_message : SpellsOneMessage
one_message m n p q same = let both : ◌≡◌ {A = Result Message MsgFault} (Ok m) (Ok n) = sym (again m p) ∙ ap decoded_message same ∙ again n q in cc

pub none_begins : NoneBeginsAnother
none_begins m n rest p q same =
    let len : length (body_bytes m.body) ≡ length (body_bytes n.body) =
    sym (length_at-spelled m rest p) ∙ ap length_at (same ∙ sym (append-nil (spelled_message n))) ∙ length_at-spelled n [] q in
    nil_from_length rest (omega (arith, len, ap length same, length-append (spelled_message m) rest, length-spelled m, length-spelled n))

pub within_packet : FitsAPacket
within_packet m h = omega (arith, length-spelled m, length-body m.body h.table)

-- ---- what a call answers

pub found_is : (bytes : List ℕ) (r : Result Message MsgFault) → AreBytes bytes → GivesMessage r (decoded_message bytes) → IfOk r (λ m. IsMessage m × (spelled_message m ≡ bytes))
found_is bytes (Ok m) fits given = spelled_so bytes m fits given
found_is bytes (Err e) fits given = tt

pub fault_is : (bytes : List ℕ) (r : Result Message MsgFault) → GivesMessage r (decoded_message bytes) → IfErr r (IsFirstFault bytes)
fault_is bytes (Ok m) given = tt
fault_is bytes (Err fault.Short) given = first_fault bytes fault.Short given
fault_is bytes (Err fault.Version) given = first_fault bytes fault.Version given
fault_is bytes (Err fault.Kind) given = first_fault bytes fault.Kind given
fault_is bytes (Err fault.Length) given = first_fault bytes fault.Length given
fault_is bytes (Err fault.Trailing) given = first_fault bytes fault.Trailing given
fault_is bytes (Err fault.Field) given = first_fault bytes fault.Field given
fault_is bytes (Err fault.NoMemory) given = (tt, tt)
