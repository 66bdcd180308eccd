-- A step takes a unit, or makes the weight of the task smaller.
use Rattle.std.proofs.Common.{◌≡◌, ◌⊎◌, inl, inr, ◌<◌, ◌≤◌, ◌+◌, ◌-◌, ◌*◌, ℕ, suc, List, length, slice_get, Some, Bool, true, false, if◌then◌else◌, ◌&&◌, ◌||◌, nat_lt, refl, ap, ◌∙◌, subst, arith}
use Rattle.std.proofs.lemmas.Bool.{ltb-true, and_parts}
use Rattle.std.proofs.lemmas.Option.{slice_get_within}
use Rattle.std.proofs.Math.Nat.{mul-suc, mul-le-mul_left}
use Rattle.som_code.specs.declared.instruction.Instruction.{Instruction}
use Rattle.som_code.specs.declared.instruction.Instruction.TheVariants as ops
use Rattle.som_code.specs.Sound.{is_turn, is_led}
use Rattle.som_machine_laws.specs.Weight.{room}

-- ---- places in code

room_le : (code : List Instruction) (p : ℕ) → room code p ≤ suc (length code - p)
room_le code p = at (is_turn (slice_get code p)) where
  at : (b : Bool) → (if b then 0 else suc (length code - p)) ≤ suc (length code - p)
  at true = omega arith
  at false = omega arith

module _ (code : List Instruction) (p : ℕ) (i : Instruction) (is : slice_get code p ≡ Some i) (other : is_turn (Some i) ≡ false) where
  room_is : room code p ≡ suc (length code - p)
  room_is = ap (λ b. if b then 0 else suc (length code - p)) (ap is_turn is ∙ other)

  -- further on there is less room
  pub room_on : (q : ℕ) → p < q → room code q < room code p
  room_on q lt =
      let a = room_is in
      let b = room_le code q in
      let c : p < length code = slice_get_within code p i is in
      omega (arith, a, b, c, lt)

  pub room_next : room code (p + 1) < room code p
  room_next = room_on (p + 1) (omega arith)

  -- and none where a unit is taken
  pub room_back : (q : ℕ) → is_turn (slice_get code q) ≡ true → room code q < room code p
  room_back q t =
      let a = room_is in
      let b : room code q ≡ 0 = ap (λ b. if b then 0 else suc (length code - q)) t in
      omega (arith, a, b)

either_true : (x y : Bool) → x || y ≡ true → (x ≡ true) ⊎ (y ≡ true)
either_true true y h = inl refl
either_true false y h = inr h

pub jump_room : (code : List Instruction) (p k : ℕ) → slice_get code p ≡ Some (ops.Jump k) → is_led code p (ops.Jump k) ≡ true → room code k < room code p
jump_room code p k is led = by (either_true (nat_lt p k) (is_turn (slice_get code k)) (and_parts (nat_lt k (length code)) (nat_lt p k || is_turn (slice_get code k)) led).1) where
  by : (nat_lt p k ≡ true) ⊎ (is_turn (slice_get code k) ≡ true) → room code k < room code p
  by (inl h) = room_on code p (ops.Jump k) is refl k (ltb-true p k h)
  by (inr h) = room_back code p (ops.Jump k) is refl k h

pub unless_room : (code : List Instruction) (p k : ℕ) → slice_get code p ≡ Some (ops.Unless k) → is_led code p (ops.Unless k) ≡ true → room code k < room code p
unless_room code p k is led =
    let both = and_parts (nat_lt k (length code)) (nat_lt p k && nat_lt (p + 1) (length code)) led in
    room_on code p (ops.Unless k) is refl k (ltb-true p k (and_parts (nat_lt p k) (nat_lt (p + 1) (length code)) both.1).0)

-- less room by one is less by the cost of a place
pub less_by_cost : (c q p : ℕ) → q < p → c * q + c ≤ c * p
less_by_cost c q p lt =
    let le : suc q ≤ p = lt in
    subst (λ n. n ≤ c * p) (mul-suc c q) (mul-le-mul_left c le)
