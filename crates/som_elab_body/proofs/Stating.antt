-- Statements by their values: where a value breaks a rule, and what a demand comes to.
use Rattle.std.proofs.Common.{◌≡◌, ℕ, zero, suc, ◌<◌, Bool, true, false, if◌then◌else◌, List, [], ◌∷◌, length, slice_get, slice_index_or, Option, Some, None, Result, Ok, Err, refl, sym, ap, ◌∙◌, subst, arith}
use Rattle.som_model.specs.declared.key.ValueType.{ValueType}
use Rattle.som_model.specs.declared.syntax.Stmt.{Stmt}
use Rattle.som_model.specs.declared.syntax.Stmt.TheVariants as stmts
use Rattle.som_model.specs.Steps.{◌>>=◌}
use Rattle.som_model.specs.Class.{Class}
use Rattle.som_model.specs.Typing.{CodePlace, Ruled, fits, needs, own_variable, there}
use Rattle.som_verify_forms.specs.declared.code_place.TypeFault.{TypeFault}
use Rattle.som_verify_forms.specs.declared.code_place.TypeFault.TheVariants as types
use Rattle.som_verify_forms.specs.Kinds.{Fails, IsType, type_at}
use Rattle.som_verify_forms.proofs.KindLaws.{index_mem}
use Rattle.som_elab_body.specs.declared.local.Local.{Local}
use Rattle.som_elab_body.specs.Locals.{Names, kinds_of, local_of}
use Rattle.som_elab_body.specs.Methods.{variable_place}
use Rattle.som_elab_body.specs.Expressions.{Among, Elab, Elaborated, facts_among}
use Rattle.som_elab_body.specs.Code.{AreLocals, names_at}
use Rattle.som_elab_body.specs.declared.fault.BodyFault.{BodyFault}
use Rattle.som_elab_body.specs.declared.fault.BodyFault.TheVariants as faults
use Rattle.som_elab_body.specs.Statements.{Breaks, Placed, Told, placed, ruled, set_local, set_variable}
use Rattle.som_elab_body.specs.BlockCode.{Stops, of_type_fault}
use Rattle.som_elab_body.specs.Stated.{Keeps, by_value}

-- where a value breaks a rule, what follows is not looked at
pub value_stops : {B : Type 0} (value : Elab) (f : Elaborated → Ruled B) (e : TypeFault) → Fails value e → Stops (ruled (value >>= f)) (of_type_fault e)
value_stops value f (types.Rule r) t = ap (λ (z : Elab). ruled (z >>= f)) t
value_stops value f types.NoMemory t = tt

pub part_stops : {B : Type 0} (value : Elab) (f : Elaborated → Told B) (e : TypeFault) → Fails value e → Stops (ruled value >>= f) (of_type_fault e)
part_stops value f (types.Rule r) t = ap (λ (z : Elab). ruled z >>= f) t
part_stops value f types.NoMemory t = tt

-- what a demand comes to
pub kept : (cs : List Class) (ls : List Local) (comes : Told Placed) (rule : ℕ) (holds test : Bool) (s : Stmt) (r : Result Stmt BodyFault)
    → comes ≡ ruled (needs rule test (placed (names_at cs ls) s)) → holds ≡ test → r ≡ (if holds then Ok s else Err (faults.Rule rule)) → Keeps cs comes ls r
kept cs ls comes rule true test s r e h is = subst (λ z. Keeps cs comes ls z) (sym is) (e ∙ ap (λ b. ruled (needs rule b (placed (names_at cs ls) s))) (sym h))
kept cs ls comes rule false test s r e h is = subst (λ z. Keeps cs comes ls z) (sym is) (e ∙ ap (λ b. ruled (needs rule b (placed (names_at cs ls) s))) (sym h))

-- what a demand comes to that a form asks of a value
pub tested : (cs : List Class) (ls : List Local) (value : Elab) (form : Elaborated → Ruled Placed) (p : Elaborated) (rule : ℕ) (holds test : Bool) (s : Stmt) (r : Result Stmt BodyFault)
    → value ≡ Ok p → form p ≡ needs rule test (placed (names_at cs ls) s) → holds ≡ test → r ≡ (if holds then Ok s else Err (faults.Rule rule)) → Keeps cs (by_value value form) ls r
tested cs ls value form p rule holds test s r e f h is =
    kept cs ls (by_value value form) rule holds test s r (ap (λ (z : Elab). by_value z form) e ∙ ap (λ (z : Ruled Placed). ruled z) f) h is

-- what the form asks for is not there
pub missing : (value : Elab) (form : Elaborated → Ruled Placed) (p : Elaborated) (rule : ℕ) → value ≡ Ok p → form p ≡ Err rule → by_value value form ≡ Err (Breaks rule)
missing value form p rule e f = ap (λ (z : Elab). by_value z form) e ∙ ap (λ (z : Ruled Placed). ruled z) f

-- ---- what is set

pub local_missing : (a : Among) (scope : Names) (name : List ℕ) (p : Elaborated) → None ≡ local_of scope name → set_local a scope name p ≡ Err 16
local_missing a scope name p e =
    ap (λ (z : Option ℕ). there 16 z >>= λ n. there 16 (slice_get (kinds_of scope) n) >>= λ kind. needs 17 (fits (facts_among a) kind p.type) (placed scope (stmts.SetLocal n p.expr))) (sym e)

pub local_set : (a : Among) (scope : Names) (name : List ℕ) (p : Elaborated) (n : ℕ) (kind : ValueType) → Some n ≡ local_of scope name → slice_get (kinds_of scope) n ≡ Some kind
    → set_local a scope name p ≡ needs 17 (fits (facts_among a) kind p.type) (placed scope (stmts.SetLocal n p.expr))
local_set a scope name p n kind e f =
    ap (λ (z : Option ℕ). there 16 z >>= λ n. there 16 (slice_get (kinds_of scope) n) >>= λ kind. needs 17 (fits (facts_among a) kind p.type) (placed scope (stmts.SetLocal n p.expr))) (sym e)
    ∙ ap (λ (z : Option ValueType). there 16 z >>= λ kind. needs 17 (fits (facts_among a) kind p.type) (placed scope (stmts.SetLocal n p.expr))) f

pub variable_missing : (a : Among) (at : CodePlace) (scope : Names) (name : List ℕ) (p : Elaborated) → None ≡ variable_place at.class name → set_variable a at scope name p ≡ Err 16
variable_missing a at scope name p e =
    ap (λ (z : Option ℕ). there 16 z >>= λ n. own_variable at n >>= λ kind. needs 17 (fits (facts_among a) kind p.type) (placed scope (stmts.SetVariable n p.expr))) (sym e)

-- the variable that is there comes to this
pub variable_at : (a : Among) (at : CodePlace) (scope : Names) (name : List ℕ) (p : Elaborated) (n : ℕ) (kind : Ruled ValueType) → Some n ≡ variable_place at.class name → own_variable at n ≡ kind
    → set_variable a at scope name p ≡ (kind >>= λ k. needs 17 (fits (facts_among a) k p.type) (placed scope (stmts.SetVariable n p.expr)))
variable_at a at scope name p n kind e f =
    ap (λ (z : Option ℕ). there 16 z >>= λ n. own_variable at n >>= λ kind. needs 17 (fits (facts_among a) kind p.type) (placed scope (stmts.SetVariable n p.expr))) (sym e)
    ∙ ap (λ (z : Ruled ValueType). z >>= λ kind. needs 17 (fits (facts_among a) kind p.type) (placed scope (stmts.SetVariable n p.expr))) f

-- ---- locals by their places

pub kind_there : (cs : List Class) (ls : List Local) (i : ℕ) (d : Local) → i < length ls → slice_get (kinds_of (names_at cs ls)) i ≡ Some (type_at cs (slice_index_or ls i d).kind)
kind_there cs [] i d lt = absurd (omega arith)
kind_there cs (l ∷ ls) zero d lt = refl
kind_there cs (l ∷ ls) (suc i) d lt = kind_there cs ls i d (omega arith)

pub kind_stands : (cs : List Class) (ls : List Local) (i : ℕ) (d : Local) → AreLocals cs ls → i < length ls → IsType cs (slice_index_or ls i d).kind
kind_stands cs ls i d are lt = are.types (slice_index_or ls i d) (index_mem ls i d lt)
