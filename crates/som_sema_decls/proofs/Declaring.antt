-- Overrides that are made of copies.
use Rattle.std.proofs.Common.{◌≡◌, ℕ, List, ap, ◌∙◌}
use Rattle.som_model.specs.declared.key.ClassKey.{ClassKey}
use Rattle.som_model.specs.declared.class.Override.{Override}
use Rattle.som_model.specs.declared.syntax.Stmt.{Stmt}

abbrev override : ClassKey → List ℕ → List Stmt → Override
override k n ss = record { method = record { class = k; name = n }; block = record { statements = ss } }

pub same_override : (k k2 : ClassKey) (n n2 : List ℕ) (ss ss2 : List Stmt) → k ≡ k2 → n ≡ n2 → ss ≡ ss2 → override k n ss ≡ override k2 n2 ss2
same_override k k2 n n2 ss ss2 ek en es = ap (λ z. override z n ss) ek ∙ ap (λ z. override k2 z ss) en ∙ ap (λ z. override k2 n2 z) es
