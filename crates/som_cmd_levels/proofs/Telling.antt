-- How a breach that is told of levels is written.
use Rattle.std.proofs.Common.{◌≡◌, ℕ, List, Option, Some, None, Result, Ok, Err, refl, sym, ap, subst, ◌∙◌}
use Rattle.std.specs.Prelude.{IfOk, codes, unwrap_or}
use Rattle.som_model.specs.Compatible.{CompatBreach}
use Rattle.som_order.specs.Names.{name_at}
use Rattle.som_model.specs.declared.memory.NoMemory.{NoMemory}
use Rattle.som_compat_levels.specs.declared.breach.LevelBreach.{LevelBreach}
use Rattle.som_compat_levels.specs.Told.{IsTold}
use Rattle.som_cmd_steps.specs.declared.stop.Refusal.{Refusal}
use Rattle.som_cmd_steps.specs.Lines.{incompatible, not_kept, or_dash}
use Rattle.som_cmd_levels.specs.Comparing.{level_kept_or}

dash : (name : Option (List ℕ)) → unwrap_or name (codes "-") ≡ or_dash name
dash None = refl
dash (Some name) = refl

same_line : (image : List ℕ) (b : LevelBreach) (found : ℕ × CompatBreach) → IsTold found b → incompatible image b.rule b.class b.name b.place ≡ not_kept image found.1
same_line image b found t =
    ap (λ (n : ℕ). incompatible image n b.class b.name b.place) t.rule
    ∙ ap (λ (x : List ℕ). incompatible image found.1.rule x b.name b.place) t.class
    ∙ ap (λ (x : List ℕ). incompatible image found.1.rule found.1.class x b.place) (t.name ∙ dash found.1.name)
    ∙ ap (λ (n : ℕ). incompatible image found.1.rule found.1.class (or_dash found.1.name) n) t.place

pub told_so : (image : List ℕ) (b : LevelBreach) (name : List ℕ) (result : Result Refusal NoMemory) → name ≡ b.name → IfOk result (λ r. r ≡ incompatible image b.rule b.class name b.place)
    → (found : ℕ × CompatBreach) → IsTold found b → IfOk result (λ r. r ≡ not_kept image found.1)
told_so image b name result same h found t =
    subst (λ (x : Refusal). IfOk result (λ r. r ≡ x)) (ap (λ (x : List ℕ). incompatible image b.rule b.class x b.place) same ∙ same_line image b found t) h

-- under the name of its level
pub named_so : (names : List (List ℕ)) (b : LevelBreach) (name : List ℕ) (result : Result Refusal NoMemory) → name ≡ name_at names b.level → ((found : ℕ × CompatBreach) → IsTold found b → IfOk result (λ r. r ≡ not_kept name found.1))
    → (found : ℕ × CompatBreach) → IsTold found b → IfOk result (λ r. level_kept_or names (Some found) ≡ Err r)
named_so names b name (Err e) same h found t = tt
named_so names b name (Ok r) same h found t =
    let told : r ≡ not_kept (name_at names found.0) found.1 = h found t ∙ ap (λ (x : List ℕ). not_kept x found.1) (same ∙ ap (λ (k : ℕ). name_at names k) t.level) in
    ap (λ (x : Refusal). let s : Result (Unit {0}) Refusal = Err x in s) (sym told)
