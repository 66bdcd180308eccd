-- What a client prints among others is what the main of its kernel prints alone.
use Rattle.std.proofs.Common.{◌≡◌, ℕ, List, map, Option, Some, ap, ◌∙◌}
use Rattle.std.specs.Prelude.{slice_get}
use Rattle.som_model.specs.declared.syntax.Block.{Block}
use Rattle.som_semantics.specs.RunText.{with_prefix}
use Rattle.som_semantics.specs.World.{World}
use Rattle.som_turn_laws.specs.Clients.{IsMain}
use Rattle.som_turn_laws.specs.Turns.{Clients, alone_lines, client_prefix, from_client, line_shown, turns_lines, turns_of}
use Rattle.som_tasks.specs.Taken.{client_at, client_of, clients_of}

module _ {A : Type 0} (world : A → World) (main : A → Block) (kernels : List A) (i : ℕ) (kernel : A) (at : slice_get kernels i ≡ Some kernel) where
  is_main : IsMain (clients_of world main kernels i)
  is_main = record { world = world kernel; main = main kernel; means = λ units. ap (λ (k : Option A). client_at world main k units) at }

  pub alone : (turns : List ℕ)
      → ((clients : Clients) (j : ℕ) → IsMain (clients j) → (ts : List ℕ) → map line_shown (from_client j (turns_lines clients ts)) ≡ with_prefix (client_prefix j) (alone_lines (clients j) (turns_of j ts)))
      → map line_shown (from_client i (turns_lines (clients_of world main kernels) turns)) ≡ with_prefix (client_prefix i) (alone_lines (client_of world main kernel) (turns_of i turns))
  alone turns law = law (clients_of world main kernels) i is_main turns ∙ ap (λ (k : Option A). with_prefix (client_prefix i) (alone_lines (client_at world main k) (turns_of i turns))) at
