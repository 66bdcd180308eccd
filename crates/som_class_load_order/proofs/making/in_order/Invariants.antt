use Rattle.std.proofs.Common.{◌≡◌, ◌++◌, ℕ, map}
use Rattle.som_class_load_order.proofs.making.in_order.Given as goal

abbrev pub invariant-loop-key : goal.invariant-loop-key
invariant-loop-key l = l.order ++ map (λ (q : ℕ × ℕ). q.1) l.key-iterator ≡ map (λ (q : ℕ × ℕ). q.1) l.ranked.keys
