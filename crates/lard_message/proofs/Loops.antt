-- Lists that are read or written item by item, as a loop does.
use Rattle.std.proofs.Common.{◌≡◌, ℕ, suc, ◌-◌, ◌+◌, ◌≤◌, ◌<◌, List, [], ◌∷◌, ◌++◌, length, get_or, drop, Option, Some, None, refl, sym, ap, ◌∙◌, append_assoc, append-nil, arith}
use Rattle.std.proofs.lemmas.List.{drop_more, drop_all}
use Rattle.lard_message.specs.declared.fault.MsgFault.{MsgFault}
use Rattle.lard_message.specs.declared.fault.MsgFault.TheVariants as fault
use Rattle.lard_message.specs.Reading.{◌>>=◌, StopsReading, counted_at, paths_at, node_of, nodes_of}

-- ---- paths

-- the paths that were read before, and what is still read
abbrev pub with_front : List (List ℕ) → Option (List (List ℕ) × List ℕ) → Option (List (List ℕ) × List ℕ)
with_front front read = read >>= λ x. Some (front ++ x.0, x.1)

regroup : (front : List (List ℕ)) (p : List ℕ) (read : Option (List (List ℕ) × List ℕ)) → with_front front (read >>= λ x. Some (p ∷ x.0, x.1)) ≡ with_front (front ++ p ∷ []) read
regroup front p (Some x) = ap (λ (ps : List (List ℕ)). Some (ps, x.1)) (sym (append_assoc front (p ∷ []) x.0))
regroup front p None = refl

pub path_more : (front : List (List ℕ)) (count i : ℕ) (bytes p after : List ℕ) (total : Option (List (List ℕ) × List ℕ)) → i < count → counted_at bytes ≡ Some (p, after)
    → with_front front (paths_at (count - i) bytes) ≡ total → with_front (front ++ p ∷ []) (paths_at (count - (i + 1)) after) ≡ total
unfolding paths_at
path_more front count i bytes p after total lt h so_far =
    let k : count - i ≡ suc (count - (i + 1)) = omega arith in
    let one : with_front front (paths_at (count - i) bytes) ≡ with_front (front ++ p ∷ []) (paths_at (count - (i + 1)) after) = rw (k, h) (regroup front p (paths_at (count - (i + 1)) after)) in
    sym one ∙ so_far

pub path_stops : (e : MsgFault) (front : List (List ℕ)) (count i : ℕ) (bytes : List ℕ) (total : Option (List (List ℕ) × List ℕ)) → i < count → StopsReading e (counted_at bytes)
    → with_front front (paths_at (count - i) bytes) ≡ total → StopsReading e total
unfolding paths_at
path_stops fault.Field front count i bytes total lt h so_far =
    let k : count - i ≡ suc (count - (i + 1)) = omega arith in
    sym so_far ∙ rw (k, h) refl
path_stops fault.NoMemory front count i bytes total lt h so_far = tt
path_stops fault.Short front count i bytes total lt h so_far = h
path_stops fault.Version front count i bytes total lt h so_far = h
path_stops fault.Kind front count i bytes total lt h so_far = h
path_stops fault.Length front count i bytes total lt h so_far = h
path_stops fault.Trailing front count i bytes total lt h so_far = h

pub paths_done : (front : List (List ℕ)) (count i : ℕ) (bytes : List ℕ) (total : Option (List (List ℕ) × List ℕ)) → count ≤ i → with_front front (paths_at (count - i) bytes) ≡ total
    → total ≡ Some (front, bytes)
unfolding paths_at
paths_done front count i bytes total le so_far =
    let k : count - i ≡ 0 = omega arith in
    let one : with_front front (paths_at (count - i) bytes) ≡ Some (front, bytes) = rw k (ap (λ (ps : List (List ℕ)). Some (ps, bytes)) (append-nil front)) in
    sym so_far ∙ one

-- ---- nodes

abbrev pub with_nodes : List ℕ → Option (List ℕ) → Option (List ℕ)
with_nodes front read = read >>= λ ns. Some (front ++ ns)

regroup_nodes : (front : List ℕ) (n : ℕ) (read : Option (List ℕ)) → with_nodes front (read >>= λ ns. Some (n ∷ ns)) ≡ with_nodes (front ++ n ∷ []) read
regroup_nodes front n (Some ns) = ap (λ (xs : List ℕ). Some xs) (sym (append_assoc front (n ∷ []) ns))
regroup_nodes front n None = refl

pub node_more : (front bytes : List ℕ) (i n : ℕ) (total : Option (List ℕ)) → i < length bytes → node_of (get_or bytes i 0) ≡ Some n
    → with_nodes front (nodes_of (drop i bytes)) ≡ total → with_nodes (front ++ n ∷ []) (nodes_of (drop (i + 1) bytes)) ≡ total
unfolding nodes_of
node_more front bytes i n total lt h so_far =
    let cut = drop_more bytes i 0 lt in
    let one : with_nodes front (nodes_of (drop i bytes)) ≡ with_nodes (front ++ n ∷ []) (nodes_of (drop (i + 1) bytes)) = rw (cut, h) (regroup_nodes front n (nodes_of (drop (i + 1) bytes))) in
    sym one ∙ so_far

pub node_stops : (e : MsgFault) (front bytes : List ℕ) (i : ℕ) (total : Option (List ℕ)) → i < length bytes → StopsReading e (node_of (get_or bytes i 0))
    → with_nodes front (nodes_of (drop i bytes)) ≡ total → StopsReading e total
unfolding nodes_of
node_stops fault.Field front bytes i total lt h so_far =
    let cut = drop_more bytes i 0 lt in
    sym so_far ∙ rw (cut, h) refl
node_stops fault.NoMemory front bytes i total lt h so_far = tt
node_stops fault.Short front bytes i total lt h so_far = h
node_stops fault.Version front bytes i total lt h so_far = h
node_stops fault.Kind front bytes i total lt h so_far = h
node_stops fault.Length front bytes i total lt h so_far = h
node_stops fault.Trailing front bytes i total lt h so_far = h

pub nodes_done : (front bytes : List ℕ) (i : ℕ) (total : Option (List ℕ)) → length bytes ≤ i → with_nodes front (nodes_of (drop i bytes)) ≡ total → total ≡ Some front
unfolding nodes_of
nodes_done front bytes i total le so_far =
    let none : drop i bytes ≡ [] = drop_all i bytes le in
    let one : with_nodes front (nodes_of (drop i bytes)) ≡ Some front = rw none (ap (λ (xs : List ℕ). Some xs) (append-nil front)) in
    sym so_far ∙ one
