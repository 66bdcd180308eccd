-- Tests that are true.
use Rattle.std.proofs.Common.{◌≡◌, ◌<◌, ℕ, Bool, true, false, ◌&&◌, ◌||◌, nat_lt, refl, arith}

pub and_true : (x y : Bool) → x ≡ true → y ≡ true → x && y ≡ true
and_true true y p q = q
and_true false y p q = p

pub or_left : (x y : Bool) → x ≡ true → x || y ≡ true
or_left true y p = refl
or_left false y p = absurd cc

pub or_right : (x y : Bool) → y ≡ true → x || y ≡ true
or_right true y p = refl
or_right false y p = p

pub lt_true : (m n : ℕ) → m < n → nat_lt m n ≡ true
lt_true m n h = grind arith
