-- What a connection takes in a move: of the packet that came in it.
use Rattle.std.proofs.Common.{◌≡◌, ℕ, ◌+◌, ◌<◌, ◌≤◌, ◌^◌, List, [], ◌∷◌, ◌++◌, length, take, drop, true, false, cond, nat_lt, Some, ◌⊎◌, Result, Ok, Err, refl, sym, ap, ◌∙◌, subst, arith, length-append, length-take, length-drop}
use Rattle.std.proofs.lemmas.Bool.{cond_both, ltb-false, ltb-true}
use Rattle.lard_law_view.specs.Prelude.{Came, Client, ClientBlock, Heard, IsPartAt, Letter, Numbers, Place, Rec, Said, Seen, SegFault, Tale, ToClient, Turn, accepted_note, client_arrived, client_gets, client_speaks, client_writes, client_written, decoded, eof_note, is_established, is_writing, one_if, seq_add, silent, speaking, tale_step, told_on}
use Rattle.lard_client.proofs.Accepted.{arrived-order}
use Rattle.lard_history.proofs.Each.{Each}
use Rattle.lard_history.proofs.Seeing.{same_number}
use Rattle.lard_journal.specs.declared.rec.Rec.TheVariants as rec
use Rattle.lard_law_view.proofs.ClientAlike.{arrived-alike, emit-alike}
use Rattle.lard_law_view.proofs.ClientHears.{Takes, end-number, next-number, takes-established}
use Rattle.lard_law_view.proofs.RecordKinds.{IsOuter}
use Rattle.lard_rules.proofs.Loops.{client_keeps}
use Rattle.lard_law_view.specs.WhileUntouched.{TellsBy}

-- The segment that client c got, where this packet came and this is told of c.
pub record GetsBy (l : Letter) (c : ℕ) (t : Tale) : Type 0 where
  pub goal : l.to ≡ Client c
  pub said : Said
  pub decodes : decoded l.bytes c ToClient ≡ Ok said
  pub numbers : Numbers
  pub opened : t.numbers ≡ Some numbers

-- A record of client c takes of it what comes next.
abbrev pub TakesBy : Letter → ℕ → Tale → Rec → Type 0
TakesBy l c t (rec.Accepted d bytes) = (d ≡ c)
    × ((g : GetsBy l c t) × (from : ℕ) × (seq_add g.said.seq from ≡ seq_add g.numbers.iss (1 + length t.accepted)) × IsPartAt from bytes g.said.payload × (0 < length bytes))
TakesBy l c t (rec.Eof d) = (d ≡ c)
    × ((g : GetsBy l c t) × (g.said.flags.fin ≡ true) × (seq_add g.said.seq (length g.said.payload) ≡ seq_add g.numbers.iss (1 + length t.accepted)))
TakesBy l c t _ = ⊥

abbrev pub TakesNothing : Rec → Type 0
TakesNothing (rec.Accepted c bytes) = ⊥
TakesNothing (rec.Eof c) = ⊥
TakesNothing _ = Unit {0}

pub outer-nothing : (r : Rec) → IsOuter r → TakesNothing r
outer-nothing (rec.Accepted c bytes) h = absurd h
outer-nothing (rec.Eof c) h = absurd h
outer-nothing _ h = tt

-- The notes of connection c, of which this is told, take nothing, or a packet came and they take of it.
abbrev pub TakesOf : ℕ → Tale → List Seen → List Rec → Type 0
TakesOf c t heads notes = Each TakesNothing notes ⊎ ((l : Letter) × (heads ≡ Came l ∷ []) × TellsBy (TakesBy l c) c t notes)

-- ---- what is known where a packet comes

-- The client counts what it is told to have accepted, from the first number with which the cluster's side was opened; and the
-- packet's segment has a number of 32 bits.
pub record Knows (c : ℕ) (x : ClientBlock) (t : Tale) (bytes : List ℕ) : Type 0 where
  pub numbers : Numbers
  pub opened : t.numbers ≡ Some numbers
  pub irs : is_established x ≡ true → x.send.irs ≡ numbers.iss
  pub counted : length t.accepted ≡ x.accepted
  pub fits : (s : Said) → decoded bytes c ToClient ≡ Ok s → s.seq < 2 ^ 32

-- ---- what a client hears

-- it accepts nothing while it speaks
pub speaks-counts : (x : ClientBlock) → (client_speaks x).1.accepted ≡ x.accepted
speaks-counts x = client_keeps (λ x ss y. y.accepted ≡ x.accepted) (record { rests = λ x. refl; says = λ x r ss y e later. later ∙ (emit-alike x).1 }) x

-- where a part is cut from
part-at : (from n : ℕ) (all : List ℕ) → from + n ≤ length all → IsPartAt from (take n (drop from all)) all
part-at from n all fits =
    let size : length (take n (drop from all)) ≡ n = omega (arith, length-take n (drop from all), length-drop from all) in
    record { within = omega (arith, size, fits); same = ap (λ k. take k (drop from all)) size }

module _ (c : ℕ) (st : ClientBlock) (told : Tale) (from_ : Place) (bytes : List ℕ) (h : Knows c st told bytes) (number : st.c ≡ c) where
  abbrev packet : Letter
  packet = record { from = from_; to = Client c; bytes = bytes }

  module _ (s : Said) (is : decoded bytes c ToClient ≡ Ok s) where
    abbrev heard : Heard
    heard = (client_arrived st s).0

    abbrev part : List ℕ
    part = take heard.len (drop heard.from s.payload)

    fits : s.seq < 2 ^ 32
    fits = h.fits s is

    -- the segment
    abbrev got : (t : Tale) → t.numbers ≡ told.numbers → GetsBy packet c t
    got t same = record { goal = refl; said = s; decodes = is; numbers = h.numbers; opened = same ∙ h.opened }

    -- a number counted from the cluster's SYN, as the client counts it, is the next one
    next : (t : Tale) (count seq : ℕ) → length t.accepted ≡ count → Takes heard → seq ≡ seq_add st.send.irs (1 + count) → seq ≡ seq_add h.numbers.iss (1 + length t.accepted)
    next t count seq counted some same =
        same ∙ ap (λ (n : ℕ). seq_add n (1 + count)) (h.irs (takes-established st s some)) ∙ ap (λ (n : ℕ). seq_add h.numbers.iss (1 + n)) (sym counted)

    size : length part ≡ heard.len
    size =
        let within = (arrived-order st s fits).within in
        omega (arith, length-take heard.len (drop heard.from s.payload), length-drop heard.from s.payload, within)

    -- behind what it accepted
    abbrev accepted_on : Tale
    accepted_on = tale_step c told (rec.Accepted c part)

    more : length accepted_on.accepted ≡ st.accepted + heard.len
    more = ap (λ b. length (cond b (told.accepted ++ part) told.accepted)) (same_number c) ∙ length-append told.accepted part ∙ (λ i. h.counted i + size i)

    ends : (t : Tale) → t.numbers ≡ told.numbers → length t.accepted ≡ st.accepted + heard.len → TellsBy (TakesBy packet c) c t (eof_note c heard)
    ends t numbers count = cond_both heard.eof (rec.Eof c ∷ []) [] (TellsBy (TakesBy packet c) c t)
        (λ e.
        let some : Takes heard = subst (λ b. 0 < heard.len + one_if b) (sym e) (omega arith) in (
          (refl, (got t numbers, (arrived-order st s fits).ended e, next t (st.accepted + heard.len) (seq_add s.seq (length s.payload)) count some (end-number st s fits some e))),
          tt,
        ))
        (λ e. tt)

    heard-takes : TellsBy (TakesBy packet c) c told (accepted_note c heard s.payload ++ eof_note c heard)
    heard-takes = cond_both (nat_lt 0 heard.len) (rec.Accepted c part ∷ []) [] (λ (rs : List Rec). TellsBy (TakesBy packet c) c told (rs ++ eof_note c heard)) some-bytes no-bytes where
      some-bytes : nat_lt 0 heard.len ≡ true → TellsBy (TakesBy packet c) c told (rec.Accepted c part ∷ eof_note c heard)
      some-bytes e =
          let less : 0 < heard.len = ltb-true 0 heard.len e in
          let some : Takes heard = omega (arith, less) in (
            (
              refl,
              (
                got told refl,
                heard.from,
                next told st.accepted (seq_add s.seq heard.from) h.counted some (next-number st s fits some),
                part-at heard.from heard.len s.payload (arrived-order st s fits).within,
                subst (λ n. 0 < n) (sym size) less,
              ),
            ),
            ends accepted_on refl more,
          )

      no-bytes : nat_lt 0 heard.len ≡ false → TellsBy (TakesBy packet c) c told (eof_note c heard)
      no-bytes e = let none : heard.len ≡ 0 = omega (arith, ltb-false 0 heard.len e) in ends told refl (h.counted ∙ omega (arith, none))

    -- and so it counts on
    heard-counts : length (told_on c told (accepted_note c heard s.payload ++ eof_note c heard)).accepted ≡ st.accepted + heard.len
    heard-counts = cond_both (nat_lt 0 heard.len) (rec.Accepted c part ∷ []) [] (λ (rs : List Rec). length (told_on c told (rs ++ eof_note c heard)).accepted ≡ st.accepted + heard.len)
        (λ e. still accepted_on ∙ more)
        (λ e. let none : heard.len ≡ 0 = omega (arith, ltb-false 0 heard.len e) in still told ∙ h.counted ∙ omega (arith, none))
      where
        still : (t : Tale) → length (told_on c t (eof_note c heard)).accepted ≡ length t.accepted
        still t = cond_both heard.eof (rec.Eof c ∷ []) [] (λ (rs : List Rec). length (told_on c t rs).accepted ≡ length t.accepted) (λ e. refl) (λ e. refl)

  same-client : (s : Said) → (client_arrived st s).1.c ≡ c
  same-client s = (arrived-alike st s).0 ∙ number

  pub hears : (r : Result Said SegFault) → decoded bytes c ToClient ≡ r → TellsBy (TakesBy packet c) c told (client_gets st r).1.notes
  hears (Err fault) is = tt
  hears (Ok s) is = subst (λ d. TellsBy (TakesBy packet c) c told (accepted_note d (client_arrived st s).0 s.payload ++ eof_note d (client_arrived st s).0)) (sym (same-client s)) (heard-takes s is)

  -- what it is told to have accepted then, it counts
  pub hears-counts : (r : Result Said SegFault) → decoded bytes c ToClient ≡ r → length (told_on c told (client_gets st r).1.notes).accepted ≡ (client_gets st r).0.accepted
  hears-counts (Err fault) is = h.counted
  hears-counts (Ok s) is =
      subst (λ d. length (told_on c told (accepted_note d (client_arrived st s).0 s.payload ++ eof_note d (client_arrived st s).0)).accepted ≡ st.accepted + (client_arrived st s).0.len) (sym (same-client s)) (heard-counts s is)
      ∙ sym (speaks-counts (client_arrived st s).1 ∙ (arrived-order st s (fits s is)).counted)

-- ---- each rule

pub writes-pass : (x : ClientBlock) (bytes : List ℕ) → Each TakesNothing (client_writes x bytes).1.notes
writes-pass x bytes = cond_both (is_writing x) (speaking (rec.Wrote x.c bytes ∷ []) [] (client_written x bytes)) (x, silent) (λ (given : ClientBlock × Turn). Each TakesNothing given.1.notes)
    (λ t. (tt, tt)) (λ t. tt)
