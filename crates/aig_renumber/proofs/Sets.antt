-- Sets of edges that are read, and that are replaced in turn.
use Rattle.aig_base.proofs.Words.{◌≡◌, ℕ, ◌+◌, ◌<◌, List, ◌++◌, length, map, get_or, set, take, drop, Vec, Global, sym, ap, subst, ◌∙◌, arith, All, common_steps, get_or-map, length-map, map-set, map_over_more}
use Rattle.aig_circuit.specs.declared.edge.AigEdge.{AigEdge}
use Rattle.aig_circuit.proofs.Lists.{All-from_map}

-- the edges of a set
abbrev pub edges_of : Vec AigEdge Global → List AigEdge
edges_of v = v.items

-- what holds of all sets holds of the one that is read
pub set_among : (P : List AigEdge → Type 0) (sets : List (Vec AigEdge Global)) (i : ℕ) (one : Vec AigEdge Global) (items : List AigEdge) → i < length sets → one ≡ get_or sets i one → items ≡ one.items → All P (map edges_of sets) → P items
set_among P sets i one items h is same all = subst P (sym same) (subst (λ (v : Vec AigEdge Global). P v.items) (sym is) (All-from_map edges_of P sets all i one h))

-- where the first i entries are replaced, the next one is as it was
replaced_next : {X : Type 0} (f : X → X) (xs ys : List X) (i : ℕ) (d : X) → i < length xs → ys ≡ map f (take i xs) ++ drop i xs → get_or ys i d ≡ get_or xs i d
replaced_next f xs ys i d h so_far = grind (arith, common_steps)

module _ (f : List AigEdge → List AigEdge) (old now : List (Vec AigEdge Global)) (i : ℕ) (set_i : Vec AigEdge Global) (h : i < length old) (count : length now ≡ length old)
    (so_far : map edges_of now ≡ map f (take i (map edges_of old)) ++ drop i (map edges_of old)) (read : set_i ≡ get_or now i set_i) where
  in_old : i < length (map edges_of old)
  in_old = omega (arith, length-map old edges_of)

  read_items : edges_of set_i ≡ get_or (map edges_of now) i (edges_of set_i)
  read_items = ap edges_of read ∙ sym (get_or-map edges_of now i set_i (edges_of set_i) (omega arith))

  -- what holds of all old sets holds of the one that is read
  pub set_read : (P : List AigEdge → Type 0) → All P (map edges_of old) → P (edges_of set_i)
  set_read P all = subst P (sym (read_items ∙ replaced_next f (map edges_of old) (map edges_of now) i (edges_of set_i) in_old so_far)) (all i (edges_of set_i) in_old)

  -- and it is replaced
  pub sets-more : (new : Vec AigEdge Global) → edges_of new ≡ f (edges_of set_i) → map edges_of (set now i new) ≡ map f (take (i + 1) (map edges_of old)) ++ drop (i + 1) (map edges_of old)
  sets-more new is =
      map-set edges_of now i new ∙ ap (λ es. set (map edges_of now) i es) is
      ∙ map_over_more f (map edges_of old) (map edges_of now) i (edges_of set_i) in_old so_far read_items
