-- One cell more of a new object.
use Rattle.std.proofs.Common.{◌≡◌, ℕ, ◌+◌, ◌<◌, ◌≤◌, List, [], ◌∷◌, ◌++◌, length, map, take, get_or, arith, refl, sym, ap, subst, ◌∙◌, append-nil, append_assoc}
use Rattle.std.specs.List.{All}
use Rattle.std.proofs.lemmas.List.{take_all, take_more, map-append}
use Rattle.std.proofs.lemmas.List.Elements.{All-push}
use Rattle.som_model.specs.declared.class.Variable.{Variable}
use Rattle.som_model.specs.declared.key.ValueType.{ValueType}
use Rattle.som_semantics.specs.State.{Value, zero_of}
use Rattle.som_objects.specs.declared.cell.Cell.{Cell}
use Rattle.som_objects.specs.Objects.{Objects}
use Rattle.som_values.specs.Shown.{IsSeen, Showing, shown, all_shown}
use Rattle.som_values.specs.Stored.{IsKept}
use Rattle.som_values.specs.Zeros.{AreZeros, kinds_of}

all_on : (P : Cell → Type 0) (cs new : List Cell) (c : Cell) → new ≡ cs ++ c ∷ [] → All P cs → P c → All P new
all_on P cs new c added before one = subst (All P) (sym added) (All-push P cs c before one)

kinds_more : (types : List ValueType) (vs : List Variable) (i : ℕ) (v : Variable) → i < length vs → v ≡ get_or vs i v → types ++ kinds_of (take (i + 1) vs) ≡ (types ++ kinds_of (take i vs)) ++ v.kind ∷ []
kinds_more types vs i v lt at =
    ap (λ (l : List Variable). types ++ kinds_of l) (take_more vs i v lt ∙ ap (λ (d : Variable). take i vs ++ d ∷ []) (sym at))
    ∙ ap (λ (l : List ValueType). types ++ l) (map-append (λ (x : Variable). x.kind) (take i vs) (v ∷ [])) ∙ sym (append_assoc types (kinds_of (take i vs)) (v.kind ∷ []))

-- the zero value of one variable more
pub zeros_on : (types : List ValueType) (vs : List Variable) (i : ℕ) (v : Variable) (cs new : List Cell) (c : Cell) → i < length vs → v ≡ get_or vs i v → new ≡ cs ++ c ∷ []
    → ((s : Showing) → shown s c ≡ zero_of v.kind) → ((s : Showing) → IsSeen s c) → ((os : Objects) → IsKept os c) → AreZeros (types ++ kinds_of (take i vs)) cs → AreZeros (types ++ kinds_of (take (i + 1) vs)) new
zeros_on types vs i v cs new c lt at added zero seen kept before = record {
  means = λ s.
      (ap (all_shown s) added ∙ map-append (shown s) cs (c ∷ []) ∙ ap (λ (l : List Value). l ++ shown s c ∷ []) (before.means s)
      ∙ ap (λ (z : Value). map zero_of (types ++ kinds_of (take i vs)) ++ z ∷ []) (zero s)
      ∙ sym (ap (map zero_of) (kinds_more types vs i v lt at) ∙ map-append zero_of (types ++ kinds_of (take i vs)) (v.kind ∷ [])));
  seen = λ s. all_on (IsSeen s) cs new c added (before.seen s) (seen s);
  kept = λ os. all_on (IsKept os) cs new c added (before.kept os) (kept os);
}

-- none of the variables, and all
pub zeros_none : (types : List ValueType) (cs : List Cell) → AreZeros types cs → AreZeros (types ++ []) cs
zeros_none types cs zeros = subst (λ (l : List ValueType). AreZeros l cs) (sym (append-nil types)) zeros

pub zeros_all : (types : List ValueType) (vs : List Variable) (i : ℕ) (cs : List Cell) → length vs ≤ i → AreZeros (types ++ kinds_of (take i vs)) cs → AreZeros (types ++ kinds_of vs) cs
zeros_all types vs i cs le zeros = subst (λ (l : List Variable). AreZeros (types ++ kinds_of l) cs) (take_all i vs le) zeros

-- no variables
pub no_zeros : AreZeros [] []
no_zeros = record { means = λ s. refl; seen = λ s i d lt. absurd (omega (arith, lt)); kept = λ os i d lt. absurd (omega (arith, lt)) }
