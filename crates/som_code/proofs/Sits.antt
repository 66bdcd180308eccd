-- Where instructions stand in code.
use Rattle.std.proofs.Common.{◌≡◌, ◌+◌, ℕ, suc, List, [], ◌∷◌, ◌++◌, length, slice_get, Some, refl, sym, subst, arith, length-append, append_assoc}
use Rattle.som_code.specs.declared.instruction.Instruction.{Instruction}

-- the code at a place begins with these instructions
abbrev pub Sits : List Instruction → ℕ → List Instruction → Type 0
Sits code a [] = Unit {0}
Sits code a (i ∷ is) = (slice_get code a ≡ Some i) × Sits code (a + 1) is

pub sits_front : (code : List Instruction) (a : ℕ) (x y : List Instruction) → Sits code a (x ++ y) → Sits code a x
sits_front code a [] y h = tt
sits_front code a (i ∷ x) y h = (h.0, sits_front code (a + 1) x y h.1)

pub sits_back : (code : List Instruction) (a : ℕ) (x y : List Instruction) → Sits code a (x ++ y) → Sits code (a + length x) y
sits_back code a [] y h = let e : a + 0 ≡ a = omega arith in subst (λ n. Sits code n y) (sym e) h
sits_back code a (i ∷ x) y h = let e : a + 1 + length x ≡ a + suc (length x) = omega arith in subst (λ n. Sits code n y) e (sits_back code (a + 1) x y h.1)

at_length : (pre : List Instruction) (i : Instruction) (is : List Instruction) → slice_get (pre ++ i ∷ is) (length pre) ≡ Some i
at_length [] i is = refl
at_length (x ∷ pre) i is = at_length pre i is

sits_from : (pre code : List Instruction) → Sits (pre ++ code) (length pre) code
sits_from pre [] = tt
sits_from pre (i ∷ is) =
    let e : (pre ++ i ∷ []) ++ is ≡ pre ++ i ∷ is = append_assoc pre (i ∷ []) is in
    let n : length (pre ++ i ∷ []) ≡ length pre + 1 = simp length-append (omega arith) in
    (at_length pre i is, subst (λ (k : ℕ). Sits (pre ++ i ∷ is) k is) n (subst (λ (c : List Instruction). Sits c (length (pre ++ i ∷ [])) is) e (sits_from (pre ++ i ∷ []) is)))

-- the whole code stands at its beginning
pub sits_all : (code : List Instruction) → Sits code 0 code
sits_all code = sits_from [] code
