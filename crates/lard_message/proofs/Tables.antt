-- The ranges, and the same as tests.
use Rattle.std.proofs.Common.{◌≡◌, ℕ, Bool, true, List, [], ◌∷◌, IsTrue, ◌↔◌, refl, sym, ◌∙◌, arith, leb-true, le-leb}
use Rattle.std.specs.List.{list_all, AllByRecursion}
use Rattle.std.proofs.lemmas.Bool.{and_parts, and_from, eqb-true, eq-eqb}
use Rattle.std.proofs.lemmas.Bool.Decides.{nat_tests, same_from_decides}
use Rattle.std.proofs.lemmas.List.Elements.{All-from_recursion, recursion_from_All}
use Rattle.lard_base.specs.declared.parts.EndpointParts.{EndpointParts}
use Rattle.lard_base.specs.declared.place.Reason.{Reason}
use Rattle.lard_base.specs.declared.place.Reason.TheVariants.{Closed, Peer, Limit}
use Rattle.lard_base.specs.Parts.{IsValidParts}
use Rattle.lard_message.specs.declared.message.Body.{Body}
use Rattle.lard_message.specs.declared.message.Body.TheVariants.{Offer, Taken, Forward, Ask, Tag, Fetch, Content, Ended, EndedAck, Refused, Give, Given}
use Rattle.lard_message.specs.Message.{IsOfTable, IsPath, IsCount}
use Rattle.lard_message.specs.Reading.{is_of_table, is_message_path, is_count, are_parts}

path_passes : (p : List ℕ) → IsPath p → is_message_path p ≡ true
path_passes p h = grind (arith, nat_tests)

path_passed : (p : List ℕ) → is_message_path p ≡ true → IsPath p
path_passed p h = let both = and_parts _ _ h in (leb-true _ _ both.0, leb-true _ _ both.1)

paths_pass : (ps : List (List ℕ)) → AllByRecursion IsPath ps → list_all is_message_path ps ≡ true
paths_pass [] h = refl
paths_pass (p ∷ ps) h = and_from _ _ (path_passes p h.0) (paths_pass ps h.1)

paths_passed : (ps : List (List ℕ)) → list_all is_message_path ps ≡ true → AllByRecursion IsPath ps
paths_passed [] h = tt
paths_passed (p ∷ ps) h = let both = and_parts _ _ h in (path_passed p both.0, paths_passed ps both.1)

parts_pass : (p : EndpointParts) → IsValidParts p → are_parts p ≡ true
parts_pass p h =
    and_from _ _ (and_from _ _ (le-leb _ _ h.buffered) (le-leb _ _ h.within)) (and_from _ _ (and_from _ _ (le-leb _ _ h.received) (le-leb _ _ h.syn_acknowledged))
    (and_from _ _ (and_from _ _ (le-leb _ _ h.acknowledged) (le-leb _ _ h.some_mss)) (and_from _ _ (le-leb _ _ h.small_mss) (le-leb _ _ h.answered))))

parts_passed : (p : EndpointParts) → are_parts p ≡ true → IsValidParts p
parts_passed p h =
    let a = and_parts _ _ h in let b = and_parts _ _ a.1 in let d = and_parts _ _ b.1 in
    let one = and_parts _ _ a.0 in let two = and_parts _ _ b.0 in let three = and_parts _ _ d.0 in let four = and_parts _ _ d.1 in
    record {
      buffered = leb-true _ _ one.0;
      within = leb-true _ _ one.1;
      received = leb-true _ _ two.0;
      syn_acknowledged = leb-true _ _ two.1;
      acknowledged = leb-true _ _ three.0;
      some_mss = leb-true _ _ three.1;
      small_mss = leb-true _ _ four.0;
      answered = leb-true _ _ four.1;
    }

-- the test of the parts is their range
pub parts_test : (p : EndpointParts) (t : Bool) → IsTrue t ↔ IsValidParts p → t ≡ are_parts p
parts_test p t h = same_from_decides {P = IsValidParts p} t (are_parts p) (λ e. h.0 e, λ v. h.1 v) (parts_passed p, parts_pass p)

count_passes : (r : Reason) (n : ℕ) → IsCount r n → is_count r n ≡ true
count_passes Limit n h = refl
count_passes Closed n h = eq-eqb n 0 h
count_passes Peer n h = eq-eqb n 0 h

count_passed : (r : Reason) (n : ℕ) → is_count r n ≡ true → IsCount r n
count_passed Limit n h = tt
count_passed Closed n h = eqb-true n 0 h
count_passed Peer n h = eqb-true n 0 h

pub table_passes : (b : Body) → IsOfTable b → is_of_table b ≡ true
table_passes (Offer parts) h = parts_pass parts h
table_passes Taken h = refl
table_passes (Forward bytes) h = and_from _ _ (le-leb _ _ h.0) (le-leb _ _ h.1)
table_passes (Ask number queue size paths) h =
    and_from _ _ (le-leb _ _ h.0) (and_from _ _ (le-leb _ _ h.1) (and_from _ _ (le-leb _ _ h.2) (paths_pass paths (recursion_from_All IsPath paths h.3))))
table_passes (Tag number nodes) h = and_from _ _ (le-leb _ _ h.0) (le-leb _ _ h.1)
table_passes (Fetch r path) h = path_passes path h
table_passes (Content r bytes) h = le-leb _ _ h
table_passes (Ended reason snd rcv count) h = count_passes reason count h
table_passes EndedAck h = refl
table_passes Refused h = refl
table_passes (Give parts) h = parts_pass parts h
table_passes Given h = refl

pub table_passed : (b : Body) → is_of_table b ≡ true → IsOfTable b
table_passed (Offer parts) h = parts_passed parts h
table_passed Taken h = tt
table_passed (Forward bytes) h = let a = and_parts _ _ h in (leb-true _ _ a.0, leb-true _ _ a.1)
table_passed (Ask number queue size paths) h =
    let a = and_parts _ _ h in let b = and_parts _ _ a.1 in let d = and_parts _ _ b.1 in
    (leb-true _ _ a.0, leb-true _ _ b.0, leb-true _ _ d.0, All-from_recursion IsPath paths (paths_passed paths d.1))
table_passed (Tag number nodes) h = let a = and_parts _ _ h in (leb-true _ _ a.0, leb-true _ _ a.1)
table_passed (Fetch r path) h = path_passed path h
table_passed (Content r bytes) h = leb-true _ _ h
table_passed (Ended reason snd rcv count) h = count_passed reason count h
table_passed EndedAck h = tt
table_passed Refused h = tt
table_passed (Give parts) h = parts_passed parts h
table_passed Given h = tt

-- the test is the range
pub table_test : (b : Body) (t : Bool) → t ≡ is_of_table b → IsTrue t ↔ IsOfTable b
table_test b t e = (λ h. table_passed b (sym e ∙ h), λ h. e ∙ table_passes b h)
