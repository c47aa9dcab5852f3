-- What was in hand and is put back.
use Rattle.std.proofs.Common.{◌≡◌, ℕ, suc, zero, List, [], ◌∷◌, length, Bool, IsSome, Option, Some, rules, refl, sym, ap, ◌∙◌}
use Rattle.std.specs.FinMap as table
use Rattle.std.specs.FinMap.{FinMap}
use Rattle.std.specs.Ordering.{nat_cmp}
use Rattle.lard_base.specs.declared.event.Event.{Event}
use Rattle.lard_base.specs.declared.place.Place.TheVariants as place
use Rattle.lard_client.specs.Control.{ClientBlock, is_client_armed}
use Rattle.lard_rules.specs.Machine.{client_acted, client_goes_on, machine_told}
use Rattle.lard_rules.specs.declared.machine.Machine.{Machine}
use Rattle.lard_stepping.specs.Lent.{stand_in, without_client}
use Rattle.lard_journal.specs.declared.rec.Rec.{Rec}
use Rattle.lard_net.specs.Net.{Packet, lose_at}
use Rattle.lard_rules.specs.declared.places.Station.{Station}
use Rattle.lard_rules.specs.declared.places.Turn.{Turn}
use Rattle.lard_rules.specs.Outs.{out_of}
use Rattle.lard_table.proofs.Map.{get_inserted, insert_twice}

pub client_back : (m : Machine) (e : Event) (own : List Rec) (c iss : ℕ) (was : Bool) (given : ClientBlock × Turn)
    → client_acted (without_client m c) e own c iss was given ≡ client_acted m e own c iss was given
client_back m e own c iss was given =
    ap (λ (t : FinMap nat_cmp Station). machine_told (record m { clients = t }) e own (place.Client c) (out_of (place.Client c) c was (is_client_armed given.0) given.1))
    (insert_twice m.clients c (stand_in c) (record { client = given.0; iss = iss }))

-- what is put in is found
pub there_after : {X : Type 0} (t n : FinMap nat_cmp X) (c k : ℕ) (x : X) → k ≡ c → n ≡ table.insert t k x → IsSome (table.get n c)
there_after t n c k x e h =
    let f : table.get n c ≡ Some x = ap (λ u. table.get u c) (h ∙ ap (λ j. table.insert t j x) e) ∙ get_inserted t c x in search (rules, f)

-- a client's rule was followed on the station that was taken out, which was put back
pub client_done : {R : Type 0} (rule : Option Station → R) (wrap : Machine → R) (m taken new : Machine) (e : Event) (own : List Rec) (c d : ℕ) (x : Station) (was : Bool) (given said : ClientBlock × Turn)
    → rule (Some x) ≡ wrap (client_goes_on m e own c x said) → table.get m.clients c ≡ Some x → d ≡ c → was ≡ is_client_armed x.client → taken ≡ without_client m c → given ≡ said
    → new ≡ client_acted taken e own d x.iss was given → rule (table.get m.clients c) ≡ wrap new
client_done rule wrap m taken new e own c d x was given said r f s a t g n =
    ap rule f ∙ r ∙ ap wrap (sym (n ∙ ap (λ k. client_acted k e own d x.iss was given) t ∙ ap (λ k. client_acted (without_client m c) e own k x.iss was given) s
    ∙ ap (λ k. client_acted (without_client m c) e own c x.iss k given) a ∙ ap (λ k. client_acted (without_client m c) e own c x.iss (is_client_armed x.client) k) g
    ∙ client_back m e own c x.iss (is_client_armed x.client) said))

-- a packet that is lost stays among those that were sent
pub lost_len : (n : ℕ) (net : List Packet) → length (lose_at n net) ≡ length net
lost_len n [] = refl
lost_len zero (p ∷ ps) = refl
lost_len (suc n) (p ∷ ps) = ap suc (lost_len n ps)
