-- The kernel's bodies by name: rows with other names are passed over.
use Rattle.std.proofs.Common.{◌≡◌, ℕ, Bool, false, if◌then◌else◌, List, ◌∷◌, drop, codes, sym, ap, ◌∙◌}
use Rattle.std.specs.Str.{bytes_eq}
use Rattle.som_semantics.specs.Invoked.{KernelBody, kernel_body, table}
use Rattle.som_semantics.specs.Invoked as bodies

passed_over : (word : List ℕ) (body : KernelBody) (rows : List (List ℕ × KernelBody)) (name : List ℕ) → bytes_eq word name ≡ false → kernel_body rows name ≡ kernel_body ((word, body) ∷ rows) name
passed_over word body rows name e = ap (λ (b : Bool). if b then body else kernel_body rows name) (sym e)

pub past_three : (name : List ℕ) → bytes_eq (codes "somInit") name ≡ false → bytes_eq (codes "somUninit") name ≡ false → bytes_eq (codes "somFree") name ≡ false → kernel_body (drop 3 table) name ≡ kernel_body table name
past_three name e f g =
    passed_over (codes "somFree") bodies.Free (drop 3 table) name g
    ∙ passed_over (codes "somUninit") bodies.Idle (drop 2 table) name f
    ∙ passed_over (codes "somInit") bodies.Idle (drop 1 table) name e
