-- Lists of properties.
use Rattle.aig_base.proofs.Words.{◌≡◌, ◌∙◌, ◌++◌, List, [], get_or, map, All, AllZip, flat_map, All-weaker, All-map, All-nil, All-append, map-map}
use Rattle.aig_circuit.specs.Properties.{Properties, AllProperties, AreProperties, append_properties, entries_of, map_properties, no_properties}
use Rattle.aig_circuit.proofs.Lists.{All-first, All-flat_map, All-from_flat_map, All-second, AllZip-map, AllZip-weaker, map-agrees, map-same}

pub AllProperties-none : {E : Type 0} (P : E → Type 0) → AllProperties P no_properties
AllProperties-none P = record { outputs = All-nil P; bads = All-nil P; constraints = All-nil P; justice = All-nil (All P); fairness = All-nil P }

pub AllProperties-always : {E : Type 0} (p : Properties E) → AllProperties (λ e. Unit {0}) p
AllProperties-always p = record { outputs = λ k d h. tt; bads = λ k d h. tt; constraints = λ k d h. tt; justice = λ k d h j e l. tt; fairness = λ k d h. tt }

pub AllProperties-weaker : {E : Type 0} (P Q : E → Type 0) → ((e : E) → P e → Q e) → (p : Properties E) → AllProperties P p → AllProperties Q p
AllProperties-weaker P Q weaker p all = record {
  outputs = All-weaker P Q weaker p.outputs all.outputs;
  bads = All-weaker P Q weaker p.bads all.bads;
  constraints = All-weaker P Q weaker p.constraints all.constraints;
  justice = All-weaker (All P) (All Q) (All-weaker P Q weaker) p.justice all.justice;
  fairness = All-weaker P Q weaker p.fairness all.fairness;
}

pub AllProperties-map : {E F : Type 0} (P : F → Type 0) (f : E → F) (p : Properties E) → AllProperties (λ e. P (f e)) p → AllProperties P (map_properties f p)
AllProperties-map P f p all = record {
  outputs = All-map P f p.outputs all.outputs;
  bads = All-map P f p.bads all.bads;
  constraints = All-map P f p.constraints all.constraints;
  justice = All-map (All P) (map f) p.justice (All-weaker (All (λ e. P (f e))) (λ es. All P (map f es)) (All-map P f) p.justice all.justice);
  fairness = All-map P f p.fairness all.fairness;
}

pub AllProperties-append : {E : Type 0} (P : E → Type 0) (p q : Properties E) → AllProperties P p → AllProperties P q → AllProperties P (append_properties p q)
AllProperties-append P p q all also = record {
  outputs = All-append P p.outputs q.outputs all.outputs also.outputs;
  bads = All-append P p.bads q.bads all.bads also.bads;
  constraints = All-append P p.constraints q.constraints all.constraints also.constraints;
  justice = All-append (All P) p.justice q.justice all.justice also.justice;
  fairness = All-append P p.fairness q.fairness all.fairness also.fairness;
}

-- what holds of the properties holds of all entries together
pub All-entries_of : {E : Type 0} (P : E → Type 0) (p : Properties E) → AllProperties P p → All P (entries_of p)
All-entries_of P p all =
    let three = p.outputs ++ p.bads ++ p.constraints in
    let sets = flat_map (λ set. set) p.justice in
    All-append P (three ++ sets) p.fairness
    (All-append P three sets
    (All-append P (p.outputs ++ p.bads) p.constraints (All-append P p.outputs p.bads all.outputs all.bads) all.constraints)
    (All-flat_map P (λ set. set) p.justice all.justice))
    all.fairness

-- and the other way round
pub AllProperties-entries_of : {E : Type 0} (P : E → Type 0) (p : Properties E) → All P (entries_of p) → AllProperties P p
AllProperties-entries_of P p all =
    let two = p.outputs ++ p.bads in
    let three = two ++ p.constraints in
    let sets = flat_map (λ set. set) p.justice in
    let to_sets = All-first P (three ++ sets) p.fairness all in
    let to_constraints = All-first P three sets to_sets in
    let to_bads = All-first P two p.constraints to_constraints in
    record {
      outputs = All-first P p.outputs p.bads to_bads;
      bads = All-second P p.outputs p.bads to_bads;
      constraints = All-second P two p.constraints to_constraints;
      justice = All-from_flat_map P (λ set. set) p.justice (All-second P three sets to_sets);
      fairness = All-second P (three ++ sets) p.fairness all;
    }

-- what stands one for one in one relation does so in a weaker one
pub AreProperties-weaker : {E F : Type 0} (R S : E → F → Type 0) → ((e : E) (f : F) → R e f → S e f) → (p : Properties E) (q : Properties F) → AreProperties R p q → AreProperties S p q
AreProperties-weaker R S weaker p q are = record {
  outputs = AllZip-weaker R S weaker p.outputs q.outputs are.outputs;
  bads = AllZip-weaker R S weaker p.bads q.bads are.bads;
  constraints = AllZip-weaker R S weaker p.constraints q.constraints are.constraints;
  justice = AllZip-weaker (AllZip R) (AllZip S) (AllZip-weaker R S weaker) p.justice q.justice are.justice;
  fairness = AllZip-weaker R S weaker p.fairness q.fairness are.fairness;
}

-- properties and what they are mapped to, one for one
pub AreProperties-map : {E F : Type 0} (f : E → F) (R : E → F → Type 0) (p : Properties E) → AllProperties (λ e. R e (f e)) p → AreProperties R p (map_properties f p)
AreProperties-map f R p all = record {
  outputs = AllZip-map f R p.outputs all.outputs;
  bads = AllZip-map f R p.bads all.bads;
  constraints = AllZip-map f R p.constraints all.constraints;
  justice = AllZip-map (map f) (AllZip R) p.justice (All-weaker (All (λ e. R e (f e))) (λ es. AllZip R es (map f es)) (AllZip-map f R) p.justice all.justice);
  fairness = AllZip-map f R p.fairness all.fairness;
}

-- functions that agree on every entry map the properties alike
pub map_properties-agree : {E F : Type 0} (f g : E → F) (p : Properties E) → AllProperties (λ e. f e ≡ g e) p → map_properties f p ≡ map_properties g p
map_properties-agree f g p all =
    let o = map-agrees f g p.outputs all.outputs in
    let b = map-agrees f g p.bads all.bads in
    let c = map-agrees f g p.constraints all.constraints in
    let j = map-agrees (map f) (map g) p.justice (All-weaker (All (λ e. f e ≡ g e)) (λ es. map f es ≡ map g es) (map-agrees f g) p.justice all.justice) in
    let r = map-agrees f g p.fairness all.fairness in
    λ i. record { outputs = o i; bads = b i; constraints = c i; justice = j i; fairness = r i }

-- a function that keeps every entry keeps the properties
pub map_properties-same : {E : Type 0} (f : E → E) (p : Properties E) → AllProperties (λ e. f e ≡ e) p → map_properties f p ≡ p
map_properties-same f p all =
    let o = map-same f p.outputs all.outputs in
    let b = map-same f p.bads all.bads in
    let c = map-same f p.constraints all.constraints in
    let j = map-same (map f) p.justice (All-weaker (All (λ e. f e ≡ e)) (λ es. map f es ≡ es) (map-same f) p.justice all.justice) in
    let r = map-same f p.fairness all.fairness in
    λ i. record { outputs = o i; bads = b i; constraints = c i; justice = j i; fairness = r i }

-- one function after another
pub map_properties-map : {D E F : Type 0} (f : E → F) (g : D → E) (p : Properties D) → map_properties f (map_properties g p) ≡ map_properties (λ e. f (g e)) p
map_properties-map f g p =
    let sets = map-agrees (λ es. map f (map g es)) (map (λ e. f (g e))) p.justice (λ k d h. map-map f g (get_or p.justice k d)) in
    let o = map-map f g p.outputs in
    let b = map-map f g p.bads in
    let c = map-map f g p.constraints in
    let j = map-map (map f) (map g) p.justice ∙ sets in
    let r = map-map f g p.fairness in
    λ i. record { outputs = o i; bads = b i; constraints = c i; justice = j i; fairness = r i }
