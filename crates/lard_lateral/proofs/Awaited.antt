-- What is awaited after a Fetch, and after its Content.
use Rattle.std.proofs.Common.{◌≡◌, ℕ, ◌+◌, ◌*◌, ◌/◌, ◌%◌, ◌<◌, ◌^◌, Bool, true, ◌==◌, ◌&&◌, nat_lt, List, length, find, Option, Some, None, is_some, refl, ap, ◌∙◌, arith, le-ltb}
use Rattle.std.specs.FinMap.{FinMap}
use Rattle.std.specs.Ordering.{nat_cmp}
use Rattle.std.proofs.lemmas.Bool.{cond-true, cond-false}
use Rattle.lard_base.specs.declared.place.TimerKind.TheVariants as kind
use Rattle.lard_message.specs.Message.{spelled_message}
use Rattle.lard_resend.specs.declared.kept.Kept.{Kept}
use Rattle.lard_resend.specs.Kept.{anew, is_under, without}
use Rattle.lard_resend.specs.Pending.{held, list_of, under, put_list}
use Rattle.lard_resend.proofs.Lists.{held_put}
use Rattle.lard_resend.proofs.Ordered.{holds, drops}
use Rattle.lard_table.proofs.Map.{get_inserted}
use Rattle.lard_lateral.specs.Lateral.{fetching, fetch_kept, wanting, names_epoch, is_from, is_awaited, after_content}
use Rattle.lard_lateral.specs.Laws.{AwaitsWhatIsWanted, AwaitsItOnce}

-- a spelling names its epoch
names_its_epoch : (c epoch r other : ℕ) (path : List ℕ) → epoch < 2 ^ 16 → names_epoch (spelled_message (fetching c epoch r path)) other ≡ (epoch == other)
unfolding spelled_message
names_its_epoch c epoch r other path lt =
    let same : epoch / 256 % 256 * 256 + epoch % 256 ≡ epoch = omega arith in
    cond-false (nat_lt (length (spelled_message (fetching c epoch r path))) 6) _ _ (le-ltb _ _ (omega arith)) ∙ ap (λ (n : ℕ). n == other) same

pub awaits : AwaitsWhatIsWanted
awaits m c epoch r node from other path lt =
    let k : Kept = fetch_kept c epoch r node path in
    let found : under (wanting m c epoch r node path) c kind.Fetch r ≡ Some k =
    ap (λ (o : Option (List Kept)). find (is_under kind.Fetch r) (list_of o)) (get_inserted m c (anew k (held m c)))
    ∙ holds k (without kind.Fetch r (held m c)) (drops kind.Fetch r (held m c)) in
    ap (is_from from other) found ∙ ap (λ (t : Bool). node == from && t) (names_its_epoch c epoch r other path lt)

is_held : (from epoch : ℕ) (o : Option Kept) → is_from from epoch o ≡ true → is_some o ≡ true
is_held from epoch None h = h
is_held from epoch (Some k) h = refl

pub once : AwaitsItOnce
once m c epoch r from node other h =
    let there : is_some (under m c kind.Fetch r) ≡ true = is_held from epoch (under m c kind.Fetch r) h in
    let left : List Kept = without kind.Fetch r (held m c) in
    let after : after_content m from c epoch r ≡ put_list m c left =
    cond-true (is_awaited m from c epoch r) _ _ h ∙ cond-true (is_some (under m c kind.Fetch r)) _ _ there in
    let none : under (after_content m from c epoch r) c kind.Fetch r ≡ None =
    ap (λ (n : FinMap nat_cmp (List Kept)). under n c kind.Fetch r) after ∙ ap (find (is_under kind.Fetch r)) (held_put m c left) ∙ drops kind.Fetch r (held m c) in
    ap (is_from node other) none
