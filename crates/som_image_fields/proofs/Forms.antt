-- How spellings in a list are joined, and how a block is spelled.
use Rattle.std.proofs.Common.{◌≡◌, ℕ, List, [], ◌∷◌, ◌++◌, length, map, refl, sym, ap, ◌∙◌}
use Rattle.std.specs.List.{flat_map}
use Rattle.std.specs.Int.{w32}
use Rattle.std.proofs.lemmas.List.{length-map}
use Rattle.std.proofs.lemmas.List.Concat.{flat_map-cons}
use Rattle.som_image_fields.specs.Spelling.{number, counted}
use Rattle.som_image_fields.specs.declared.syntax.WireStmt.{WireStmt}
use Rattle.som_image_fields.specs.declared.syntax.WireBlock.{fold-roll-WireBlock}
use Rattle.som_image_fields.specs.SyntaxSpelling.{block_step, stmt_step, stmt, block}

pub flat_of : {A : Type 0} (f : A → List ℕ) (xs : List A) → flat_map (λ (t : List ℕ). t) (map f xs) ≡ flat_map f xs
flat_of f [] = refl
flat_of f (x ∷ xs) = flat_map-cons (λ (t : List ℕ). t) (f x) (map f xs) ∙ ap (λ (t : List ℕ). f x ++ t) (flat_of f xs) ∙ sym (flat_map-cons f x xs)

-- a block is spelled by its statements
pub block_is : (ss : List WireStmt) → block (record { statements = ss }) ≡ counted w32 stmt ss
block_is ss =
    fold-roll-WireBlock (List ℕ) (List ℕ) stmt_step block_step (record { statements = ss })
    ∙ ap (λ (n : ℕ). number w32 n ++ flat_map (λ (t : List ℕ). t) (map stmt ss)) (length-map ss stmt)
    ∙ ap (λ (t : List ℕ). number w32 (length ss) ++ t) (flat_of stmt ss)
