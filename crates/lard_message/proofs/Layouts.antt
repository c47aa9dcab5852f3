-- A body that is read was written so, and what was written is read again.
use Rattle.std.proofs.Common.{◌≡◌, ℕ, ◌^◌, ◌<◌, List, [], ◌∷◌, ◌++◌, length, flat_map, Some, refl, sym, ap, subst, ◌∙◌, append-nil, arith}
use Rattle.std.specs.Int.{w16, w32, to_be_bytes}
use Rattle.std.specs.List.{AllByRecursion}
use Rattle.std.proofs.lemmas.List.Elements.{recursion_from_All}
use Rattle.lard_base.specs.declared.parts.EndpointParts.{EndpointParts}
use Rattle.lard_base.specs.declared.place.Reason.{Reason}
use Rattle.lard_base.specs.Parts.{IsValidParts}
use Rattle.lard_message.specs.declared.kind.Kind.{Kind}
use Rattle.lard_message.specs.declared.kind.Kind.TheVariants as kind
use Rattle.lard_message.specs.declared.message.Body.{Body}
use Rattle.lard_message.specs.declared.message.Body.TheVariants.{Offer, Taken, Forward, Ask, Tag, Fetch, Content, Ended, EndedAck, Refused, Give, Given}
use Rattle.lard_message.specs.Laws.{AreBytes}
use Rattle.lard_message.specs.Message.{IsOfTable, IsPath, FitParts, FitsFields, kind_of, counted_bytes, flag_byte, reason_byte, parts_bytes, body_bytes}
use Rattle.lard_message.specs.Reading.{◌>>=◌, flag_at, reason_at, byte_at, number_at, taken_at, counted_at, paths_at, nodes_of, parts_at, offer_at, give_at, ask_at, tag_at, fetch_at, content_at, ended_body_at, body_at}
use Rattle.lard_message.proofs.Fields.{bind_some, bind_then, bind_to, some_same, wide16, wide32, number_takes, number_again, byte_takes, taken_takes, taken_again, counted_takes, counted_alone, flag_takes, flag_again, reason_takes, reason_again, paths_take, paths_again, nodes_are, nodes_again}

-- what was read is a body of its kind, written so, whose numbers fit
pub record IsBodyAt (k : Kind) (bytes : List ℕ) (x : Body × List ℕ) : Type 0 where
  pub kind : kind_of x.0 ≡ k
  pub parts : bytes ≡ body_bytes x.0 ++ x.1
  pub fits : FitsFields x.0

-- ---- what was read

parts_take : (bytes : List ℕ) (x : EndpointParts × List ℕ) → AreBytes bytes → parts_at bytes ≡ Some x → (bytes ≡ parts_bytes x.0 ++ x.1) × FitParts x.0
unfolding parts_at
parts_take bytes x fits e =
    bind_then (number_at w32 bytes) _ x e (λ irs e1 n1. bind_then (number_at w32 irs.1) _ x n1 (λ iss e2 n2. bind_then (number_at w32 iss.1) _ x n2 (λ got e3 n3.
    bind_then (flag_at got.1) _ x n3 (λ fin e4 n4. bind_then (number_at w32 fin.1) _ x n4 (λ una e5 n5. bind_then (number_at w16 una.1) _ x n5 (λ wnd e6 n6.
    bind_then (number_at w32 wnd.1) _ x n6 (λ wl1 e7 n7. bind_then (number_at w32 wl1.1) _ x n7 (λ wl2 e8 n8. bind_then (number_at w16 wl2.1) _ x n8 (λ mss e9 n9.
    bind_then (number_at w32 mss.1) _ x n9 (λ served e10 n10. bind_then (counted_at served.1) _ x n10 (λ unread e11 n11.
    let t1 = number_takes w32 (2 ^ 32) wide32 bytes irs fits e1 in
    let t2 = number_takes w32 (2 ^ 32) wide32 irs.1 iss t1.0.rest_fits e2 in
    let t3 = number_takes w32 (2 ^ 32) wide32 iss.1 got t2.0.rest_fits e3 in
    let t4 = flag_takes got.1 fin t3.0.rest_fits e4 in
    let t5 = number_takes w32 (2 ^ 32) wide32 fin.1 una t4.rest_fits e5 in
    let t6 = number_takes w16 (2 ^ 16) wide16 una.1 wnd t5.0.rest_fits e6 in
    let t7 = number_takes w32 (2 ^ 32) wide32 wnd.1 wl1 t6.0.rest_fits e7 in
    let t8 = number_takes w32 (2 ^ 32) wide32 wl1.1 wl2 t7.0.rest_fits e8 in
    let t9 = number_takes w16 (2 ^ 16) wide16 wl2.1 mss t8.0.rest_fits e9 in
    let t10 = number_takes w32 (2 ^ 32) wide32 mss.1 served t9.0.rest_fits e10 in
    let t11 = counted_takes served.1 unread t10.0.rest_fits e11 in
    let p : EndpointParts = record {
      irs = irs.0;
      iss = iss.0;
      got = got.0;
      fin = fin.0;
      una = una.0;
      wnd = wnd.0;
      wl1 = wl1.0;
      wl2 = wl2.0;
      mss = mss.0;
      served = served.0;
      unread = unread.0;
    } in
    let whole : bytes ≡ parts_bytes p ++ unread.1 =
    t1.0.parts ∙ ap (λ (w : List ℕ). to_be_bytes w32 irs.0 ++ w) (t2.0.parts ∙ ap (λ (w : List ℕ). to_be_bytes w32 iss.0 ++ w) (t3.0.parts ∙ ap (λ (w : List ℕ). to_be_bytes w32 got.0 ++ w) (
    t4.parts ∙ ap (λ (w : List ℕ). flag_byte fin.0 ∷ w) (t5.0.parts ∙ ap (λ (w : List ℕ). to_be_bytes w32 una.0 ++ w) (t6.0.parts ∙ ap (λ (w : List ℕ). to_be_bytes w16 wnd.0 ++ w) (
    t7.0.parts ∙ ap (λ (w : List ℕ). to_be_bytes w32 wl1.0 ++ w) (t8.0.parts ∙ ap (λ (w : List ℕ). to_be_bytes w32 wl2.0 ++ w) (t9.0.parts ∙ ap (λ (w : List ℕ). to_be_bytes w16 mss.0 ++ w) (
    t10.0.parts ∙ ap (λ (w : List ℕ). to_be_bytes w32 served.0 ++ w) t11.parts)))))))))
    in
    subst (λ (y : EndpointParts × List ℕ). (bytes ≡ parts_bytes y.0 ++ y.1) × FitParts y.0) (some_same (p, unread.1) x n11) (whole, (t1.1, t2.1, t6.1, t7.1, t8.1)))))))))))))

offer_takes : (bytes : List ℕ) (x : Body × List ℕ) → AreBytes bytes → offer_at bytes ≡ Some x → IsBodyAt kind.Offer bytes x
unfolding offer_at
offer_takes bytes x fits e =
    let p = bind_some (parts_at bytes) _ x e in
    let t = parts_take bytes p.0 fits p.1 in
    subst (IsBodyAt kind.Offer bytes) (some_same (Offer p.0.0, p.0.1) x p.2) (record { kind = refl; parts = t.0; fits = t.1 })

give_takes : (bytes : List ℕ) (x : Body × List ℕ) → AreBytes bytes → give_at bytes ≡ Some x → IsBodyAt kind.Give bytes x
unfolding give_at
give_takes bytes x fits e =
    let p = bind_some (parts_at bytes) _ x e in
    let t = parts_take bytes p.0 fits p.1 in
    subst (IsBodyAt kind.Give bytes) (some_same (Give p.0.0, p.0.1) x p.2) (record { kind = refl; parts = t.0; fits = t.1 })

ask_takes : (bytes : List ℕ) (x : Body × List ℕ) → AreBytes bytes → ask_at bytes ≡ Some x → IsBodyAt kind.Ask bytes x
unfolding ask_at
ask_takes bytes x fits e =
    let number = bind_some (number_at w32 bytes) _ x e in
    let queue = bind_some (number_at w32 number.0.1) _ x number.2 in
    let size = bind_some (byte_at queue.0.1) _ x queue.2 in
    let count = bind_some (byte_at size.0.1) _ x size.2 in
    let paths = bind_some (paths_at count.0.0 count.0.1) _ x count.2 in
    let t1 = number_takes w32 (2 ^ 32) wide32 bytes number.0 fits number.1 in
    let t2 = number_takes w32 (2 ^ 32) wide32 number.0.1 queue.0 t1.0.rest_fits queue.1 in
    let t3 = byte_takes queue.0.1 size.0 t2.0.rest_fits size.1 in
    let t4 = byte_takes size.0.1 count.0 t3.0.rest_fits count.1 in
    let t5 = paths_take count.0.0 count.0.1 paths.0 t4.0.rest_fits paths.1 in
    let whole : bytes ≡ body_bytes (Ask number.0.0 queue.0.0 size.0.0 paths.0.0) ++ paths.0.1 =
    t1.0.parts ∙ ap (λ (w : List ℕ). to_be_bytes w32 number.0.0 ++ w) (t2.0.parts ∙ ap (λ (w : List ℕ). to_be_bytes w32 queue.0.0 ++ w) (t3.0.parts ∙ ap (λ (w : List ℕ). size.0.0 ∷ w) (
    t4.0.parts ∙ ap (λ (w : List ℕ). count.0.0 ∷ w) t5.0.parts ∙ ap (λ (n : ℕ). n ∷ (flat_map counted_bytes paths.0.0 ++ paths.0.1)) (sym t5.1)))) in
    subst (IsBodyAt kind.Ask bytes) (some_same (Ask number.0.0 queue.0.0 size.0.0 paths.0.0, paths.0.1) x paths.2) (record { kind = refl; parts = whole; fits = (t1.1, t2.1) })

tag_takes : (bytes : List ℕ) (x : Body × List ℕ) → AreBytes bytes → tag_at bytes ≡ Some x → IsBodyAt kind.Tag bytes x
unfolding tag_at
tag_takes bytes x fits e =
    let number = bind_some (number_at w32 bytes) _ x e in
    let count = bind_some (byte_at number.0.1) _ x number.2 in
    let taken = bind_some (taken_at count.0.0 count.0.1) _ x count.2 in
    let nodes = bind_some (nodes_of taken.0.0) _ x taken.2 in
    let t1 = number_takes w32 (2 ^ 32) wide32 bytes number.0 fits number.1 in
    let t2 = byte_takes number.0.1 count.0 t1.0.rest_fits count.1 in
    let t3 = taken_takes count.0.0 count.0.1 taken.0 t2.0.rest_fits taken.1 in
    let are = nodes_are taken.0.0 nodes.0 nodes.1 in
    let whole : bytes ≡ body_bytes (Tag number.0.0 taken.0.0) ++ taken.0.1 =
    t1.0.parts ∙ ap (λ (w : List ℕ). to_be_bytes w32 number.0.0 ++ w) (t2.0.parts ∙ ap (λ (w : List ℕ). count.0.0 ∷ w) t3.0.parts ∙ ap (λ (n : ℕ). n ∷ (taken.0.0 ++ taken.0.1)) (sym t3.1)) in
    let named : bytes ≡ body_bytes (Tag number.0.0 nodes.0) ++ taken.0.1 = whole ∙ ap (λ (ns : List ℕ). body_bytes (Tag number.0.0 ns) ++ taken.0.1) are.0 in
    subst (IsBodyAt kind.Tag bytes) (some_same (Tag number.0.0 nodes.0, taken.0.1) x nodes.2) (record { kind = refl; parts = named; fits = (t1.1, are.1) })

fetch_takes : (bytes : List ℕ) (x : Body × List ℕ) → AreBytes bytes → fetch_at bytes ≡ Some x → IsBodyAt kind.Fetch bytes x
unfolding fetch_at
fetch_takes bytes x fits e =
    let r = bind_some (number_at w32 bytes) _ x e in
    let path = bind_some (counted_at r.0.1) _ x r.2 in
    let t1 = number_takes w32 (2 ^ 32) wide32 bytes r.0 fits r.1 in
    let t2 = counted_takes r.0.1 path.0 t1.0.rest_fits path.1 in
    let whole : bytes ≡ body_bytes (Fetch r.0.0 path.0.0) ++ path.0.1 = t1.0.parts ∙ ap (λ (w : List ℕ). to_be_bytes w32 r.0.0 ++ w) t2.parts in
    subst (IsBodyAt kind.Fetch bytes) (some_same (Fetch r.0.0 path.0.0, path.0.1) x path.2) (record { kind = refl; parts = whole; fits = t1.1 })

content_takes : (bytes : List ℕ) (x : Body × List ℕ) → AreBytes bytes → content_at bytes ≡ Some x → IsBodyAt kind.Content bytes x
unfolding content_at
content_takes bytes x fits e =
    let r = bind_some (number_at w32 bytes) _ x e in
    let len = bind_some (number_at w32 r.0.1) _ x r.2 in
    let taken = bind_some (taken_at len.0.0 len.0.1) _ x len.2 in
    let t1 = number_takes w32 (2 ^ 32) wide32 bytes r.0 fits r.1 in
    let t2 = number_takes w32 (2 ^ 32) wide32 r.0.1 len.0 t1.0.rest_fits len.1 in
    let t3 = taken_takes len.0.0 len.0.1 taken.0 t2.0.rest_fits taken.1 in
    let whole : bytes ≡ body_bytes (Content r.0.0 taken.0.0) ++ taken.0.1 =
    t1.0.parts ∙ ap (λ (w : List ℕ). to_be_bytes w32 r.0.0 ++ w) (t2.0.parts ∙ ap (λ (w : List ℕ). to_be_bytes w32 len.0.0 ++ w) t3.0.parts
    ∙ ap (λ (n : ℕ). to_be_bytes w32 n ++ (taken.0.0 ++ taken.0.1)) (sym t3.1)) in
    subst (IsBodyAt kind.Content bytes) (some_same (Content r.0.0 taken.0.0, taken.0.1) x taken.2) (record { kind = refl; parts = whole; fits = t1.1 })

ended_takes : (bytes : List ℕ) (x : Body × List ℕ) → AreBytes bytes → ended_body_at bytes ≡ Some x → IsBodyAt kind.Ended bytes x
unfolding ended_body_at
ended_takes bytes x fits e =
    let reason = bind_some (reason_at bytes) _ x e in
    let snd = bind_some (number_at w32 reason.0.1) _ x reason.2 in
    let rcv = bind_some (number_at w32 snd.0.1) _ x snd.2 in
    let count = bind_some (number_at w32 rcv.0.1) _ x rcv.2 in
    let t1 = reason_takes bytes reason.0 fits reason.1 in
    let t2 = number_takes w32 (2 ^ 32) wide32 reason.0.1 snd.0 t1.rest_fits snd.1 in
    let t3 = number_takes w32 (2 ^ 32) wide32 snd.0.1 rcv.0 t2.0.rest_fits rcv.1 in
    let t4 = number_takes w32 (2 ^ 32) wide32 rcv.0.1 count.0 t3.0.rest_fits count.1 in
    let whole : bytes ≡ body_bytes (Ended reason.0.0 snd.0.0 rcv.0.0 count.0.0) ++ count.0.1 =
    t1.parts ∙ ap (λ (w : List ℕ). reason_byte reason.0.0 ∷ w) (t2.0.parts ∙ ap (λ (w : List ℕ). to_be_bytes w32 snd.0.0 ++ w) (
    t3.0.parts ∙ ap (λ (w : List ℕ). to_be_bytes w32 rcv.0.0 ++ w) t4.0.parts)) in
    subst (IsBodyAt kind.Ended bytes) (some_same (Ended reason.0.0 snd.0.0 rcv.0.0 count.0.0, count.0.1) x count.2) (record { kind = refl; parts = whole; fits = (t2.1, t3.1, t4.1) })

pub body_takes : (k : Kind) (bytes : List ℕ) (x : Body × List ℕ) → AreBytes bytes → body_at k bytes ≡ Some x → IsBodyAt k bytes x
body_takes kind.Offer bytes x fits e = offer_takes bytes x fits e
body_takes kind.Taken bytes x fits e = subst (IsBodyAt kind.Taken bytes) (some_same (Taken, bytes) x e) (record { kind = refl; parts = refl; fits = tt })
body_takes kind.Forward bytes x fits e = subst (IsBodyAt kind.Forward bytes) (some_same (Forward bytes, []) x e) (record { kind = refl; parts = sym (append-nil bytes); fits = tt })
body_takes kind.Ask bytes x fits e = ask_takes bytes x fits e
body_takes kind.Tag bytes x fits e = tag_takes bytes x fits e
body_takes kind.Fetch bytes x fits e = fetch_takes bytes x fits e
body_takes kind.Content bytes x fits e = content_takes bytes x fits e
body_takes kind.Ended bytes x fits e = ended_takes bytes x fits e
body_takes kind.EndedAck bytes x fits e = subst (IsBodyAt kind.EndedAck bytes) (some_same (EndedAck, bytes) x e) (record { kind = refl; parts = refl; fits = tt })
body_takes kind.Refused bytes x fits e = subst (IsBodyAt kind.Refused bytes) (some_same (Refused, bytes) x e) (record { kind = refl; parts = refl; fits = tt })
body_takes kind.Give bytes x fits e = give_takes bytes x fits e
body_takes kind.Given bytes x fits e = subst (IsBodyAt kind.Given bytes) (some_same (Given, bytes) x e) (record { kind = refl; parts = refl; fits = tt })

-- ---- what was written

parts_again : (p : EndpointParts) → IsValidParts p → FitParts p → parts_at (parts_bytes p) ≡ Some (p, [])
unfolding parts_at
parts_again p v f =
    let r11 : List ℕ = counted_bytes p.unread in
    let r10 : List ℕ = to_be_bytes w32 p.served ++ r11 in
    let r9 : List ℕ = to_be_bytes w16 p.mss ++ r10 in
    let r8 : List ℕ = to_be_bytes w32 p.wl2 ++ r9 in
    let r7 : List ℕ = to_be_bytes w32 p.wl1 ++ r8 in
    let r6 : List ℕ = to_be_bytes w16 p.wnd ++ r7 in
    let r5 : List ℕ = to_be_bytes w32 p.una ++ r6 in
    let r4 : List ℕ = flag_byte p.fin ∷ r5 in
    let r3 : List ℕ = to_be_bytes w32 p.got ++ r4 in
    let r2 : List ℕ = to_be_bytes w32 p.iss ++ r3 in
    let got : p.got < 2 ^ 32 = omega (arith, v.received) in
    let una : p.una < 2 ^ 32 = omega (arith, v.acknowledged) in
    let mss : p.mss < 2 ^ 16 = omega (arith, v.small_mss) in
    let served : p.served < 2 ^ 32 = omega (arith, v.answered, v.received) in
    let unread : length p.unread < 2 ^ 16 = omega (arith, v.buffered) in
    bind_to _ _ _ _ (number_again w32 (2 ^ 32) wide32 p.irs r2 f.0) (bind_to _ _ _ _ (number_again w32 (2 ^ 32) wide32 p.iss r3 f.1) (bind_to _ _ _ _ (number_again w32 (2 ^ 32) wide32 p.got r4 got) (
    bind_to _ _ _ _ (flag_again p.fin r5) (bind_to _ _ _ _ (number_again w32 (2 ^ 32) wide32 p.una r6 una) (bind_to _ _ _ _ (number_again w16 (2 ^ 16) wide16 p.wnd r7 f.2) (
    bind_to _ _ _ _ (number_again w32 (2 ^ 32) wide32 p.wl1 r8 f.3) (bind_to _ _ _ _ (number_again w32 (2 ^ 32) wide32 p.wl2 r9 f.4) (bind_to _ _ _ _ (number_again w16 (2 ^ 16) wide16 p.mss r10 mss) (
    bind_to _ _ _ _ (number_again w32 (2 ^ 32) wide32 p.served r11 served) (bind_to _ _ _ _ (counted_alone p.unread unread) refl))))))))))

paths_fit : (ps : List (List ℕ)) → AllByRecursion IsPath ps → AllByRecursion (λ (p : List ℕ). length p < 2 ^ 16) ps
paths_fit [] h = tt
paths_fit (p ∷ ps) h = (omega (arith, h.0), paths_fit ps h.1)

offer_again : (p : EndpointParts) → IsValidParts p → FitParts p → offer_at (parts_bytes p) ≡ Some (Offer p, [])
unfolding offer_at
offer_again p v f = bind_to _ _ _ _ (parts_again p v f) refl

give_again : (p : EndpointParts) → IsValidParts p → FitParts p → give_at (parts_bytes p) ≡ Some (Give p, [])
unfolding give_at
give_again p v f = bind_to _ _ _ _ (parts_again p v f) refl

ask_again : (number queue size : ℕ) (paths : List (List ℕ)) → IsOfTable (Ask number queue size paths) → FitsFields (Ask number queue size paths)
    → ask_at (body_bytes (Ask number queue size paths)) ≡ Some (Ask number queue size paths, [])
unfolding ask_at
ask_again number queue size paths t f =
    let r4 : List ℕ = flat_map counted_bytes paths in
    let r2 : List ℕ = size ∷ length paths ∷ r4 in
    let paths_read : paths_at (length paths) r4 ≡ Some (paths, []) =
    ap (paths_at (length paths)) (sym (append-nil r4)) ∙ paths_again paths [] (paths_fit paths (recursion_from_All IsPath paths t.3)) in
    bind_to _ _ _ _ (number_again w32 (2 ^ 32) wide32 number (to_be_bytes w32 queue ++ r2) f.0) (bind_to _ _ _ _ (number_again w32 (2 ^ 32) wide32 queue r2 f.1) (bind_to _ _ _ _ paths_read refl))

tag_again : (number : ℕ) (nodes : List ℕ) → FitsFields (Tag number nodes) → tag_at (body_bytes (Tag number nodes)) ≡ Some (Tag number nodes, [])
unfolding tag_at
tag_again number nodes f =
    let taken : taken_at (length nodes) nodes ≡ Some (nodes, []) = ap (taken_at (length nodes)) (sym (append-nil nodes)) ∙ taken_again (length nodes) nodes [] refl in
    bind_to _ _ _ _ (number_again w32 (2 ^ 32) wide32 number (length nodes ∷ nodes) f.0) (bind_to _ _ _ _ taken (bind_to _ _ _ _ (nodes_again nodes f.1) refl))

fetch_again : (r : ℕ) (path : List ℕ) → IsPath path → r < 2 ^ 32 → fetch_at (body_bytes (Fetch r path)) ≡ Some (Fetch r path, [])
unfolding fetch_at
fetch_again r path t f = bind_to _ _ _ _ (number_again w32 (2 ^ 32) wide32 r (counted_bytes path) f) (bind_to _ _ _ _ (counted_alone path (omega (arith, t))) refl)

content_again : (r : ℕ) (bytes : List ℕ) → length bytes < 2 ^ 32 → r < 2 ^ 32 → content_at (body_bytes (Content r bytes)) ≡ Some (Content r bytes, [])
unfolding content_at
content_again r bytes t f =
    let taken : taken_at (length bytes) bytes ≡ Some (bytes, []) = ap (taken_at (length bytes)) (sym (append-nil bytes)) ∙ taken_again (length bytes) bytes [] refl in
    bind_to _ _ _ _ (number_again w32 (2 ^ 32) wide32 r (to_be_bytes w32 (length bytes) ++ bytes) f) (bind_to _ _ _ _ (number_again w32 (2 ^ 32) wide32 (length bytes) bytes t) (bind_to _ _ _ _ taken refl))

ended_again : (reason : Reason) (snd rcv count : ℕ) → FitsFields (Ended reason snd rcv count) → ended_body_at (body_bytes (Ended reason snd rcv count)) ≡ Some (Ended reason snd rcv count, [])
unfolding ended_body_at
ended_again reason snd rcv count f =
    let r3 : List ℕ = to_be_bytes w32 count in
    let r2 : List ℕ = to_be_bytes w32 rcv ++ r3 in
    let r1 : List ℕ = to_be_bytes w32 snd ++ r2 in
    let last : number_at w32 r3 ≡ Some (count, []) = ap (number_at w32) (sym (append-nil r3)) ∙ number_again w32 (2 ^ 32) wide32 count [] f.2 in
    bind_to (reason_at (reason_byte reason ∷ r1)) (λ a. number_at w32 a.1 >>= λ b. number_at w32 b.1 >>= λ c. number_at w32 c.1 >>= λ d. Some (Ended a.0 b.0 c.0 d.0, d.1)) (reason, r1) _ (reason_again reason r1) (
    bind_to (number_at w32 r1) (λ b. number_at w32 b.1 >>= λ c. number_at w32 c.1 >>= λ d. Some (Ended reason b.0 c.0 d.0, d.1)) (snd, r2) _ (number_again w32 (2 ^ 32) wide32 snd r2 f.0) (
    bind_to (number_at w32 r2) (λ c. number_at w32 c.1 >>= λ d. Some (Ended reason snd c.0 d.0, d.1)) (rcv, r3) _ (number_again w32 (2 ^ 32) wide32 rcv r3 f.1) (
    bind_to (number_at w32 r3) (λ d. Some (Ended reason snd rcv d.0, d.1)) (count, []) _ last refl)))

pub body_again : (b : Body) → IsOfTable b → FitsFields b → body_at (kind_of b) (body_bytes b) ≡ Some (b, [])
body_again (Offer p) t f = offer_again p t f
body_again Taken t f = refl
body_again (Forward bytes) t f = refl
body_again (Ask number queue size paths) t f = ask_again number queue size paths t f
body_again (Tag number nodes) t f = tag_again number nodes f
body_again (Fetch r path) t f = fetch_again r path t f
body_again (Content r bytes) t f = content_again r bytes (omega (arith, t)) f
body_again (Ended reason snd rcv count) t f = ended_again reason snd rcv count f
body_again EndedAck t f = refl
body_again Refused t f = refl
body_again (Give p) t f = give_again p t f
body_again Given t f = refl
