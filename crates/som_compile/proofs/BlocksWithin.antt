-- What texts of blocks within their limits are elaborated to is within the limits of images.
use Rattle.std.proofs.Common.{◌≡◌, ℕ, zero, suc, ◌+◌, ◌<◌, ◌≤◌, ◌^◌, ◌&&◌, not, Bool, true, false, if◌then◌else◌, nat_lt, nat_le, List, [], ◌∷◌, ◌++◌, length, map, slice_get, Option, Some, None, IfSome, Ok, Err, inl, inr, refl, sym, ap, subst, ◌∙◌, arith, length-append}
use Rattle.std.specs.Prelude.{All}
use Rattle.std.specs.Int.{w32, cast_signed}
use Rattle.std.specs.List.{AllByRecursion}
use Rattle.std.specs.Str.{bytes_eq}
use Rattle.std.proofs.lemmas.Bool.{ltb-true}
use Rattle.std.proofs.lemmas.List.{length-map}
use Rattle.std.proofs.lemmas.List.Elements.{All-from_recursion, recursion_from_All}
use Rattle.std.proofs.Math.Facts.{sfits_to_z}
use Rattle.som_model.specs.declared.key.ClassKey.{ClassKey}
use Rattle.som_model.specs.declared.key.MethodRef.{MethodRef}
use Rattle.som_model.specs.declared.key.ValueType.{ValueType}
use Rattle.som_model.specs.declared.key.ValueType.TheVariants as types
use Rattle.som_model.specs.declared.syntax.Expr.{Expr, out-Expr, roll-Expr, out-roll-Expr}
use Rattle.som_model.specs.declared.syntax.Expr.TheVariants as exprs
use Rattle.som_model.specs.declared.syntax.Expr.TheOpen.{Expr-F}
use Rattle.som_model.specs.declared.syntax.Stmt.{Stmt, out-Stmt, roll-Stmt, out-roll-Stmt}
use Rattle.som_model.specs.declared.syntax.Stmt.TheVariants as stmts
use Rattle.som_model.specs.declared.syntax.Stmt.TheOpen.{Stmt-F}
use Rattle.som_model.specs.declared.syntax.Block.{Block}
use Rattle.som_model.specs.declared.class.Entry.{Entry}
use Rattle.som_model.specs.declared.class.Entry.TheVariants as entries
use Rattle.som_model.specs.declared.class.Sig.{Sig}
use Rattle.som_model.specs.declared.class.Variable.{Variable}
use Rattle.som_model.specs.declared.class.Way.TheVariants as ways
use Rattle.som_model.specs.declared.limits.TheConstants.{MAX_LOCALS, MAX_NAME, MAX_NESTING, MAX_PARAMETERS, MAX_PARENTS, MAX_VARIABLES}
use Rattle.som_model.specs.Lists.{Mem, find, place_from}
use Rattle.som_model.specs.Keys.{same_key}
use Rattle.som_model.specs.Steps.{◌>>=◌}
use Rattle.som_model.specs.Class.{Class, entry_name, introduced_sig}
use Rattle.som_model.specs.Classes.{class_at, hierarchy}
use Rattle.som_model.specs.Owner.{entry_at, introduces, owner, sig_of}
use Rattle.som_model.specs.Resolution.{byname}
use Rattle.som_model.specs.Blocks.{is_call}
use Rattle.som_model.specs.Typing.{ClassFacts, CodePlace, ExprType, Of, PlainNil, Ruled, Typed, class_facts, needs, there, is_nothing, is_boolean, is_class, has_text, kind_is_known, fits, all_fit, descends_to, local_type, own_variable, self_type, unary_type, binary_type, host_type, new_type, class_type, cast_type, isa_type, proxy_type, offset_call_type, named_call_type, parent_call_type, parents_call_type}
use Rattle.som_model.specs.Kernel.{som_class_mgr}
use Rattle.som_model.proofs.StepLaws.{went, held, found, same_ok}
use Rattle.som_ast.specs.declared.words.TypeName.{TypeName}
use Rattle.som_ast.specs.declared.expression.ExprText.{ExprText, out-ExprText, roll-out-ExprText, map-ExprText, fold-roll-ExprText}
use Rattle.som_ast.specs.declared.expression.ExprText.TheOpen.{ExprText-F}
use Rattle.som_body.specs.ExpressionWithin as expression
use Rattle.som_body.specs.ExpressionWithin.{ExprTextWithin}
use Rattle.som_ast.specs.declared.body.StmtText.{StmtText, out-StmtText, roll-out-StmtText, map-StmtText, fold-roll-StmtText}
use Rattle.som_ast.specs.declared.body.StmtText.TheOpen.{StmtText-F}
use Rattle.som_ast.specs.declared.body.BlockText.{BlockText, fold-roll-BlockText}
use Rattle.som_body.specs.Within as text
use Rattle.som_body.specs.Within.{StmtTextWithin, BlockTextWithin}
use Rattle.som_image_decode.specs.BlockLimits.{ArgsWithin, ExprPartsWithin, ExprWithin, StmtPartsWithin, StatementsWithin, StmtWithin, BlockWithin}
use Rattle.som_image_classes.specs.ClassLimits.{EntryWithin}
use Rattle.som_sema_scope.specs.ClassNames.{result_of, type_of}
use Rattle.som_elab_body.specs.Locals.{Named, Names, in_scope, kinds_of, local_of, names_of}
use Rattle.som_elab_body.specs.Methods.{Method, introduced_method, method_by, method_for, method_of, own_method, parent_place, variable_place}
use Rattle.som_elab_body.specs.Expressions.{Among, Elab, Elaborated, class_named, expr_step, elaborated, elaborated_value, exprs_of, facts_among, formed, unary_form, binary_form, host_form, cast_form, isa_form, proxy_form, call_form, called_by, lookup_form, dispatch_form, parent_form, parents_form, part, parts, types_of, valued}
use Rattle.som_elab_body.specs.Statements.{BlockElab, ManyLocals, Placed, StmtElab, Told, block_step, call_statement, declared, elaborated_block, elaborated_stmt, freed, in_turn, placed, printed, returned, ruled, set_local, set_variable, stmt_step, value_return, with_local}
use Rattle.som_elab_body.proofs.TypedBodies.{ruled_ok}

-- ---- what there is room for

-- no method has more parameters than it may
abbrev pub SigsFit : List Class → Type 0
SigsFit cs = (r : MethodRef) (sig : Sig) → sig_of cs r ≡ Some sig → length sig.params ≤ MAX_PARAMETERS

-- the class of a body has no more variables and parents than it may
abbrev pub PlaceFits : Option Class → Type 0
PlaceFits None = Unit {0}
PlaceFits (Some c) = (length c.decl.variables ≤ MAX_VARIABLES) × (length c.decl.face.parents ≤ MAX_PARENTS)

pub record Roomy (a : Among) (at : CodePlace) : Type 0 where
  pub sigs : SigsFit a.classes
  pub place : PlaceFits at.class

-- ---- what came to a value

some_is : {A : Type 0} (x y : A) → Some x ≡ Some y → x ≡ y
some_is x y e = let z = e in cc

-- ---- places and signatures

place_below : {A : Type 0} (n : ℕ) (test : A → Bool) (xs : List A) (k : ℕ) → place_from n test xs ≡ Some k → k < n + length xs
place_below n test [] k e = absurd (let z = e in cc)
place_below n test (x ∷ xs) k e = by (test x) e (place_below (suc n) test xs k)
  where
    by : (b : Bool) → (if b then Some n else place_from (suc n) test xs) ≡ Some k → (place_from (suc n) test xs ≡ Some k → k < suc n + length xs) → k < n + length (x ∷ xs)
    by true e rest = omega (arith, some_is n k e)
    by false e rest = omega (arith, rest e)

fits_as_many : (w : ClassFacts) (kinds : List ValueType) (ts : List ExprType) → all_fit w kinds ts ≡ true → length ts ≡ length kinds
fits_as_many w [] [] e = refl
fits_as_many w (kind ∷ kinds) (t ∷ ts) e = by (fits w kind t) e (fits_as_many w kinds ts)
  where
    by : (b : Bool) → (b && all_fit w kinds ts) ≡ true → (all_fit w kinds ts ≡ true → length ts ≡ length kinds) → length (t ∷ ts) ≡ length (kind ∷ kinds)
    by true e rest = ap suc (rest e)
    by false e rest = absurd (let z = e in cc)
fits_as_many w [] (t ∷ ts) e = absurd (let z = e in cc)
fits_as_many w (kind ∷ kinds) [] e = absurd (let z = e in cc)

at_most_true : (m n : ℕ) → nat_le m n ≡ true → m ≤ n
at_most_true m n e = grind (arith, e)

find_mem : {A : Type 0} (test : A → Bool) (xs : List A) (x : A) → find test xs ≡ Some x → Mem x xs
find_mem test [] x e = absurd (let z = e in cc)
find_mem test (y ∷ ys) x e = by (test y) e (find_mem test ys x)
  where
    by : (b : Bool) → (if b then Some y else find test ys) ≡ Some x → (find test ys ≡ Some x → Mem x ys) → Mem x (y ∷ ys)
    by true e rest = inl (sym (some_is y x e))
    by false e rest = inr (rest e)

all_there : {A : Type 0} (P : A → Type 0) (xs : List A) (x : A) → AllByRecursion P xs → Mem x xs → P x
all_there P [] x h m = absurd m
all_there P (y ∷ ys) x h (inl e) = subst P (sym e) h.0
all_there P (y ∷ ys) x h (inr m) = all_there P ys x h.1 m

-- an entry with few parameters
entry_few : (o : Option Entry) → IfSome o EntryWithin → (sig : Sig) → introduced_sig o ≡ Some sig → length sig.params ≤ MAX_PARAMETERS
entry_few None h sig e = absurd (let z = e in cc)
entry_few (Some (entries.Introduced name s way)) h sig e = subst (λ (s : Sig). length s.params ≤ MAX_PARAMETERS) (some_is s sig e) h.1
entry_few (Some (entries.Moved name to)) h sig e = absurd (let z = e in cc)

abbrev entry_in : Option Class → List ℕ → Option Entry
entry_in None name = None
entry_in (Some c) name = find (λ (e : Entry). bytes_eq (entry_name e) name) c.decl.face.entries

-- no method has more parameters than it may, where the entries of each class are within the limits
pub sigs_fit : (cs : List Class) → ((c : Class) → Mem c cs → All EntryWithin c.decl.face.entries) → SigsFit cs
sigs_fit cs each r sig e = in_class (class_at cs r.class) refl e
  where
    found_few : (c : Class) → Mem c cs → (o : Option Entry) → find (λ (e : Entry). bytes_eq (entry_name e) r.name) c.decl.face.entries ≡ o → IfSome o EntryWithin
    found_few c m None same = tt
    found_few c m (Some x) same =
        all_there EntryWithin c.decl.face.entries x (recursion_from_All EntryWithin c.decl.face.entries (each c m)) (find_mem (λ (e : Entry). bytes_eq (entry_name e) r.name) c.decl.face.entries x same)

    in_class : (o : Option Class) → class_at cs r.class ≡ o → introduced_sig (entry_in o r.name) ≡ Some sig → length sig.params ≤ MAX_PARAMETERS
    in_class None same e = absurd (let z = e in cc)
    in_class (Some c) same e =
        let listed = find_mem (λ (c : Class). same_key c.key r.class) cs c same in
        entry_few (find (λ (e : Entry). bytes_eq (entry_name e) r.name) c.decl.face.entries) (found_few c listed _ refl) sig e

-- ---- the names of methods

introduced_ref : (r : MethodRef) (o : Option Entry) (m : Method) → introduced_method r o ≡ Some m → r ≡ m.ref
introduced_ref r None m e = absurd (let z = e in cc)
introduced_ref r (Some (entries.Introduced name sig way)) m e = ap (λ (x : Method). x.ref) (some_is (record { ref = r; sig = sig; way = way }) m e)
introduced_ref r (Some (entries.Moved name to)) m e = absurd (let z = e in cc)

by_named : (cs : List Class) (name : List ℕ) (o : Option ClassKey) (m : Method) → method_by cs name o ≡ Some m → name ≡ m.ref.name
by_named cs name None m e = absurd (let z = e in cc)
by_named cs name (Some k) m e = ap (λ (r : MethodRef). r.name) (introduced_ref (record { class = k; name = name }) (entry_at cs k name) m e)

for_named : (cs : List Class) (t : ExprType) (name : List ℕ) (m : Method) → method_for cs t name ≡ Some m → name ≡ m.ref.name
for_named cs (Of (types.Class k)) name m e = by_named cs name (byname (hierarchy cs) (introduces cs name) k) m e
for_named cs (Of types.Void) name m e = absurd (let z = e in cc)
for_named cs (Of types.Long) name m e = absurd (let z = e in cc)
for_named cs (Of types.Boolean) name m e = absurd (let z = e in cc)
for_named cs (Of types.Str) name m e = absurd (let z = e in cc)
for_named cs PlainNil name m e = absurd (let z = e in cc)

-- ---- forms

abbrev expr_or : Expr → Elab → Expr
expr_or e (Ok p) = p.expr
expr_or e (Err rule) = e

formed_is : (e : Expr) (type : Typed) (p : Elaborated) → formed e type ≡ Ok p → e ≡ p.expr
formed_is e (Ok t) p h = ap (expr_or e) h
formed_is e (Err rule) p h = absurd (let z = h in cc)

formed_type : (e : Expr) (type : Typed) (p : Elaborated) → formed e type ≡ Ok p → (t : ExprType) × (type ≡ Ok t)
formed_type e (Ok t) p h = (t, refl)
formed_type e (Err rule) p h = absurd (let z = h in cc)

valued_is : (q p : Elaborated) → valued q ≡ Ok p → q ≡ p
valued_is q p e = same_ok q p (held 20 (not (is_nothing q.type)) (Ok q) p e).1

part_is : (e : Elab) (p : Elaborated) → part e ≡ Ok p → e ≡ Ok p
part_is e p h = let w = went e valued p h in w.first ∙ ap (λ x. Ok x) (valued_is w.value p w.further)

local_number : (scope : Names) (name : List ℕ) (n : ℕ) → length scope ≤ MAX_LOCALS → local_of scope name ≡ Some n → n < 2 ^ 16
local_number scope name n few e =
    let below = place_below 0 (bytes_eq name) (names_of scope) n e in
    let many : length (names_of scope) ≡ length scope = length-map scope (λ (n : Named). n.name) in
    omega (arith, below, many, few)

variable_number : (o : Option Class) → PlaceFits o → (name : List ℕ) (n : ℕ) → variable_place o name ≡ Some n → n < 2 ^ 8
variable_number None fits name n e = absurd (let z = e in cc)
variable_number (Some c) fits name n e = omega (arith, fits.0, place_below 0 (λ (v : Variable). bytes_eq v.name name) c.decl.variables n e)

parent_number : (o : Option Class) → PlaceFits o → (k : ClassKey) (n : ℕ) → parent_place o k ≡ Some n → n < 2 ^ 8
parent_number None fits k n e = absurd (let z = e in cc)
parent_number (Some c) fits k n e = omega (arith, fits.1, place_below 0 (same_key k) c.decl.face.parents n e)

module _ (a : Among) (at : CodePlace) (room : Roomy a at) where
  signature_few : (r : MethodRef) (sig : Sig) → (facts_among a).signature r ≡ Some sig → length sig.params ≤ MAX_PARAMETERS
  unfolding class_facts
  signature_few r sig e = room.sigs (owner a.classes r) sig e

  -- arguments that fit a signature are few
  fitting_few : (sig : Sig) (ts : List ExprType) → length sig.params ≤ MAX_PARAMETERS → all_fit (facts_among a) sig.params ts ≡ true → length ts ≤ MAX_PARAMETERS
  fitting_few sig ts few e = let same = fits_as_many (facts_among a) sig.params ts e in omega (arith, same, few)

  -- what follows the signature of each call
  abbrev after_offset : MethodRef → ExprType → List ExprType → Sig → Typed
  after_offset r on ts sig = needs 17 (descends_to (facts_among a) r.class on) (needs 18 (all_fit (facts_among a) sig.params ts) (Ok (Of sig.result)))

  abbrev parent_of : Option Class → ℕ → Option ClassKey
  parent_of None n = None
  parent_of (Some c) n = slice_get c.decl.face.parents n

  abbrev after_parent_method : MethodRef → List ExprType → ClassKey → Sig → Typed
  after_parent_method r ts p sig = needs 17 ((facts_among a).is_a p r.class) (needs 18 (all_fit (facts_among a) sig.params ts) (Ok (Of sig.result)))

  abbrev after_parent : MethodRef → List ExprType → ClassKey → Typed
  after_parent r ts p = there 16 ((facts_among a).signature r) >>= after_parent_method r ts p

  abbrev is_proper_here : Option Class → ClassKey → Bool
  is_proper_here None k = false
  is_proper_here (Some c) k = not (same_key k c.key) && (facts_among a).is_a c.key k

  abbrev after_parents : MethodRef → List ExprType → Sig → Typed
  after_parents r ts sig = needs 18 (all_fit (facts_among a) sig.params ts) (needs 20 (is_nothing (Of sig.result) && is_proper_here at.class ((facts_among a).owner r).class) (Ok (Of sig.result)))

  offset_few : (r : MethodRef) (on : ExprType) (ts : List ExprType) (t : ExprType) → offset_call_type (facts_among a) r on ts ≡ Ok t → length ts ≤ MAX_PARAMETERS
  offset_few r on ts t e =
      let s = went (there 16 ((facts_among a).signature r)) (after_offset r on ts) t e in
      let k = held 17 (descends_to (facts_among a) r.class on) (needs 18 (all_fit (facts_among a) s.value.params ts) (Ok (Of s.value.result))) t s.further in
      let all = held 18 (all_fit (facts_among a) s.value.params ts) (Ok (Of s.value.result)) t k.1 in
      fitting_few s.value ts (signature_few r s.value (found 16 ((facts_among a).signature r) s.value s.first)) all.0

  named_few : (kind : ValueType) (on : ExprType) (ts : List ExprType) (t : ExprType) → named_call_type (facts_among a) kind on ts ≡ Ok t → length ts ≤ MAX_PARAMETERS
  named_few kind on ts t e =
      let k = held 16 (kind_is_known (facts_among a) kind) (needs 17 (is_class on) (needs 18 (nat_le (length ts) MAX_PARAMETERS) (Ok (Of kind)))) t e in
      let c = held 17 (is_class on) (needs 18 (nat_le (length ts) MAX_PARAMETERS) (Ok (Of kind))) t k.1 in
      at_most_true (length ts) MAX_PARAMETERS (held 18 (nat_le (length ts) MAX_PARAMETERS) (Ok (Of kind)) t c.1).0

  parent_few : (n : ℕ) (r : MethodRef) (ts : List ExprType) (t : ExprType) → parent_call_type (facts_among a) at n r ts ≡ Ok t → length ts ≤ MAX_PARAMETERS
  parent_few n r ts t e =
      let p = went (there 16 (parent_of at.class n)) (after_parent r ts) t e in
      let s = went (there 16 ((facts_among a).signature r)) (after_parent_method r ts p.value) t p.further in
      let k = held 17 ((facts_among a).is_a p.value r.class) (needs 18 (all_fit (facts_among a) s.value.params ts) (Ok (Of s.value.result))) t s.further in
      let all = held 18 (all_fit (facts_among a) s.value.params ts) (Ok (Of s.value.result)) t k.1 in
      fitting_few s.value ts (signature_few r s.value (found 16 ((facts_among a).signature r) s.value s.first)) all.0

  parents_few : (r : MethodRef) (ts : List ExprType) (t : ExprType) → parents_call_type (facts_among a) at r ts ≡ Ok t → length ts ≤ MAX_PARAMETERS
  parents_few r ts t e =
      let s = went (there 16 ((facts_among a).signature r)) (after_parents r ts) t e in
      let all = held 18 (all_fit (facts_among a) s.value.params ts) (needs 20 (is_nothing (Of s.value.result) && is_proper_here at.class ((facts_among a).owner r).class) (Ok (Of s.value.result))) t s.further in
      fitting_few s.value ts (signature_few r s.value (found 16 ((facts_among a).signature r) s.value s.first)) all.0

  -- ---- expressions, by those that can stand in them
  module _ (scope : Names) (few : length scope ≤ MAX_LOCALS) (Inner : ExprText → Type 0) (Within : Expr → Type 0) (inner : (t : ExprText) (p : Elaborated) → Inner t → elaborated a at scope t ≡ Ok p → Within p.expr) where
    abbrev PartsWithin : Elaborated → Type 0
    PartsWithin p = ExprPartsWithin Within (out-Expr p.expr)

    made : (e : Expr) (layer : Expr-F Expr) (type : Typed) (p : Elaborated) → roll-Expr layer ≡ e → formed e type ≡ Ok p → ExprPartsWithin Within layer → PartsWithin p
    made e layer type p rolls h parts = subst (ExprPartsWithin Within) (sym (ap out-Expr (sym (rolls ∙ formed_is e type p h)) ∙ out-roll-Expr layer)) parts

    value_within : (t : ExprText) (p : Elaborated) → Inner t → part (elaborated a at scope t) ≡ Ok p → Within p.expr
    value_within t p h e = inner t p h (part_is (elaborated a at scope t) p e)

    each_within : (ts : List ExprText) (ps : List Elaborated) → AllByRecursion Inner ts → parts (map (elaborated a at scope) ts) ≡ Ok ps → AllByRecursion Within (exprs_of ps)
    each_within [] ps hs e = subst (λ (qs : List Elaborated). AllByRecursion Within (exprs_of qs)) (same_ok [] ps e) tt
    each_within (t ∷ ts) ps hs e =
        let first = went (part (elaborated a at scope t)) (λ p. parts (map (elaborated a at scope) ts) >>= λ qs. Ok (p ∷ qs)) ps e in
        let rest = went (parts (map (elaborated a at scope) ts)) (λ qs. Ok (first.value ∷ qs)) ps first.further in
        subst (λ (qs : List Elaborated). AllByRecursion Within (exprs_of qs)) (same_ok (first.value ∷ rest.value) ps rest.further)
        (value_within t first.value hs.0 first.first, each_within ts rest.value hs.1 rest.first)

    args_within : (ts : List ExprText) (ps : List Elaborated) → All Inner ts → parts (map (elaborated a at scope) ts) ≡ Ok ps → length (types_of ps) ≤ MAX_PARAMETERS → ArgsWithin Within (exprs_of ps)
    args_within ts ps hs e many =
        let as_types = length-map ps (λ (p : Elaborated). p.type) in
        let as_exprs = length-map ps (λ (p : Elaborated). p.expr) in
        (omega (arith, as_types, as_exprs, many), All-from_recursion Within (exprs_of ps) (each_within ts ps (recursion_from_All Inner ts hs) e))

    -- a call by its offset or by its name
    called_within : (way : _) (on : Elaborated) (ts : List ExprText) (args : List Elaborated) (m : Method) (p : Elaborated) → Within on.expr → All Inner ts → parts (map (elaborated a at scope) ts) ≡ Ok args → length m.ref.name ≤ MAX_NAME
        → called_by (facts_among a) on args m way ≡ Ok p → PartsWithin p
    called_within ways.Offset on ts args m p h hs es named e =
        let type = offset_call_type (facts_among a) m.ref on.type (types_of args) in
        let t = formed_type (exprs.OffsetCall m.ref on.expr (exprs_of args)) type p e in
        made (exprs.OffsetCall m.ref on.expr (exprs_of args)) (Expr-F.OffsetCall m.ref on.expr (exprs_of args)) type p (exprs.rolls-OffsetCall m.ref on.expr (exprs_of args)) e
        (h, args_within ts args hs es (offset_few m.ref on.type (types_of args) t.0 t.1))
    called_within ways.Lookup on ts args m p h hs es named e =
        let type = named_call_type (facts_among a) m.sig.result on.type (types_of args) in
        let f = held 18 (all_fit (facts_among a) m.sig.params (types_of args)) (formed (exprs.Lookup m.sig.result m.ref.name on.expr (exprs_of args)) type) p e in
        let t = formed_type (exprs.Lookup m.sig.result m.ref.name on.expr (exprs_of args)) type p f.1 in
        made (exprs.Lookup m.sig.result m.ref.name on.expr (exprs_of args)) (Expr-F.Lookup m.sig.result m.ref.name on.expr (exprs_of args)) type p (exprs.rolls-Lookup m.sig.result m.ref.name on.expr (exprs_of args)) f.1
        (omega (arith, named), h, args_within ts args hs es (named_few m.sig.result on.type (types_of args) t.0 t.1))

    -- ---- the forms with arguments
    call_within : (t : ExprText) (name : List ℕ) (ts : List ExprText) (p : Elaborated) → Inner t → length name ≤ MAX_NAME → All Inner ts
        → (part (elaborated a at scope t) >>= λ on. parts (map (elaborated a at scope) ts) >>= call_form a on name) ≡ Ok p → PartsWithin p
    call_within t name ts p h short hs e =
        let on = went (part (elaborated a at scope t)) (λ on. parts (map (elaborated a at scope) ts) >>= call_form a on name) p e in
        let args = went (parts (map (elaborated a at scope) ts)) (call_form a on.value name) p on.further in
        let m = went (there 16 (method_for a.classes on.value.type name)) (λ m. called_by (facts_among a) on.value args.value m m.way) p args.further in
        let named = for_named a.classes on.value.type name m.value (found 16 (method_for a.classes on.value.type name) m.value m.first) in
        called_within m.value.way on.value ts args.value m.value p (value_within t on.value h on.first) hs args.first (subst (λ (x : List ℕ). length x ≤ MAX_NAME) named short) m.further

    lookup_within : (answer : Option TypeName) (t : ExprText) (name : List ℕ) (ts : List ExprText) (p : Elaborated) → Inner t → length name ≤ MAX_NAME → All Inner ts
        → (part (elaborated a at scope t) >>= λ on. parts (map (elaborated a at scope) ts) >>= lookup_form a answer on name) ≡ Ok p → PartsWithin p
    lookup_within answer t name ts p h short hs e =
        let on = went (part (elaborated a at scope t)) (λ on. parts (map (elaborated a at scope) ts) >>= lookup_form a answer on name) p e in
        let args = went (parts (map (elaborated a at scope) ts)) (lookup_form a answer on.value name) p on.further in
        let kind = result_of a.module_of answer in
        let type = named_call_type (facts_among a) kind on.value.type (types_of args.value) in
        let x = formed_type (exprs.Lookup kind name on.value.expr (exprs_of args.value)) type p args.further in
        made (exprs.Lookup kind name on.value.expr (exprs_of args.value)) (Expr-F.Lookup kind name on.value.expr (exprs_of args.value)) type p (exprs.rolls-Lookup kind name on.value.expr (exprs_of args.value)) args.further
        (omega (arith, short), value_within t on.value h on.first, args_within ts args.value hs args.first (named_few kind on.value.type (types_of args.value) x.0 x.1))

    dispatch_within : (answer : Option TypeName) (t : ExprText) (name : List ℕ) (ts : List ExprText) (p : Elaborated) → Inner t → length name ≤ MAX_NAME → All Inner ts
        → (part (elaborated a at scope t) >>= λ on. parts (map (elaborated a at scope) ts) >>= dispatch_form a answer on name) ≡ Ok p → PartsWithin p
    dispatch_within answer t name ts p h short hs e =
        let on = went (part (elaborated a at scope t)) (λ on. parts (map (elaborated a at scope) ts) >>= dispatch_form a answer on name) p e in
        let args = went (parts (map (elaborated a at scope) ts)) (dispatch_form a answer on.value name) p on.further in
        let kind = result_of a.module_of answer in
        let type = named_call_type (facts_among a) kind on.value.type (types_of args.value) in
        let x = formed_type (exprs.Dispatch kind name on.value.expr (exprs_of args.value)) type p args.further in
        made (exprs.Dispatch kind name on.value.expr (exprs_of args.value)) (Expr-F.Dispatch kind name on.value.expr (exprs_of args.value)) type p (exprs.rolls-Dispatch kind name on.value.expr (exprs_of args.value)) args.further
        (omega (arith, short), value_within t on.value h on.first, args_within ts args.value hs args.first (named_few kind on.value.type (types_of args.value) x.0 x.1))

    parent_within : (parent name : List ℕ) (ts : List ExprText) (p : Elaborated) → All Inner ts → (parts (map (elaborated a at scope) ts) >>= parent_form a at parent name) ≡ Ok p → PartsWithin p
    parent_within parent name ts p hs e =
        let k = class_named a parent in
        let args = went (parts (map (elaborated a at scope) ts)) (parent_form a at parent name) p e in
        let call : ℕ → Method → Elab = λ n m. formed (exprs.ParentCall n m.ref (exprs_of args.value)) (parent_call_type (facts_among a) at n m.ref (types_of args.value)) in
        let n = went (there 16 (parent_place at.class k)) (λ n. there 16 (method_of a.classes k name) >>= call n) p args.further in
        let m = went (there 16 (method_of a.classes k name)) (call n.value) p n.further in
        let type = parent_call_type (facts_among a) at n.value m.value.ref (types_of args.value) in
        let x = formed_type (exprs.ParentCall n.value m.value.ref (exprs_of args.value)) type p m.further in
        made (exprs.ParentCall n.value m.value.ref (exprs_of args.value)) (Expr-F.ParentCall n.value m.value.ref (exprs_of args.value)) type p (exprs.rolls-ParentCall n.value m.value.ref (exprs_of args.value)) m.further
        (parent_number at.class room.place k n.value (found 16 (parent_place at.class k) n.value n.first), args_within ts args.value hs args.first (parent_few n.value m.value.ref (types_of args.value) x.0 x.1))

    parents_within : (name : List ℕ) (ts : List ExprText) (p : Elaborated) → All Inner ts → (parts (map (elaborated a at scope) ts) >>= parents_form a at name) ≡ Ok p → PartsWithin p
    parents_within name ts p hs e =
        let args = went (parts (map (elaborated a at scope) ts)) (parents_form a at name) p e in
        let m = went (there 16 (own_method a.classes at.class name)) (λ m. formed (exprs.ParentsCall m.ref (exprs_of args.value)) (parents_call_type (facts_among a) at m.ref (types_of args.value))) p args.further in
        let type = parents_call_type (facts_among a) at m.value.ref (types_of args.value) in
        let x = formed_type (exprs.ParentsCall m.value.ref (exprs_of args.value)) type p m.further in
        made (exprs.ParentsCall m.value.ref (exprs_of args.value)) (Expr-F.ParentsCall m.value.ref (exprs_of args.value)) type p (exprs.rolls-ParentsCall m.value.ref (exprs_of args.value)) m.further
        (args_within ts args.value hs args.first (parents_few m.value.ref (types_of args.value) x.0 x.1))

    -- ---- by the outermost part
    layer_within : (layer : ExprText-F ExprText) (p : Elaborated) → expression.ExprPartsWithin Inner layer → expr_step a at scope (map-ExprText ExprText Elab (elaborated a at scope) layer) ≡ Ok p → PartsWithin p
    layer_within (ExprText-F.Number n) p h e =
        made (exprs.Long (cast_signed w32 n)) (Expr-F.Long (cast_signed w32 n)) (Ok (Of types.Long)) p (exprs.rolls-Long (cast_signed w32 n)) e (sfits_to_z (record { fits = omega (arith, h) }))
    layer_within (ExprText-F.Literal t) p h e = made (exprs.Str t) (Expr-F.Str t) (Ok (Of types.Str)) p (exprs.rolls-Str t) e h
    layer_within (ExprText-F.Boolean b) p h e = made (exprs.Boolean b) (Expr-F.Boolean b) (Ok (Of types.Boolean)) p (exprs.rolls-Boolean b) e tt
    layer_within ExprText-F.Nil p h e = made exprs.Nil Expr-F.Nil (Ok PlainNil) p exprs.rolls-Nil e tt
    layer_within (ExprText-F.Name w) p h e =
        let n = went (there 16 (local_of scope w.text)) (λ n. formed (exprs.Local n) (local_type (kinds_of scope) n)) p e in
        made (exprs.Local n.value) (Expr-F.Local n.value) (local_type (kinds_of scope) n.value) p (exprs.rolls-Local n.value) n.further (local_number scope w.text n.value few (found 16 (local_of scope w.text) n.value n.first))
    layer_within ExprText-F.Me p h e = made exprs.Me Expr-F.Me (self_type at) p exprs.rolls-Me e tt
    layer_within (ExprText-F.Variable w) p h e =
        let n = went (there 16 (variable_place at.class w.text)) (λ n. formed (exprs.Variable n) (own_variable at n >>= λ kind. Ok (Of kind))) p e in
        made (exprs.Variable n.value) (Expr-F.Variable n.value) (own_variable at n.value >>= λ kind. Ok (Of kind)) p (exprs.rolls-Variable n.value) n.further
        (variable_number at.class room.place w.text n.value (found 16 (variable_place at.class w.text) n.value n.first))
    layer_within (ExprText-F.Unary op t) p h e =
        let q = went (part (elaborated a at scope t)) (unary_form op) p e in
        made (exprs.Unary op q.value.expr) (Expr-F.Unary op q.value.expr) (unary_type op q.value.type) p (exprs.rolls-Unary op q.value.expr) q.further (value_within t q.value h q.first)
    layer_within (ExprText-F.Binary op t u) p h e =
        let q = went (part (elaborated a at scope t)) (λ q. part (elaborated a at scope u) >>= binary_form op q) p e in
        let r = went (part (elaborated a at scope u)) (binary_form op q.value) p q.further in
        made (exprs.Binary op q.value.expr r.value.expr) (Expr-F.Binary op q.value.expr r.value.expr) (binary_type op q.value.type r.value.type) p (exprs.rolls-Binary op q.value.expr r.value.expr) r.further (value_within t q.value h.0 q.first, value_within u r.value h.1 r.first)
    layer_within (ExprText-F.New w) p h e = let k = class_named a w.text in made (exprs.New k) (Expr-F.New k) (new_type (facts_among a) k) p (exprs.rolls-New k) e tt
    layer_within (ExprText-F.Class w) p h e = let k = class_named a w.text in made (exprs.Class k) (Expr-F.Class k) (class_type (facts_among a) k) p (exprs.rolls-Class k) e tt
    layer_within ExprText-F.Manager p h e = made exprs.Manager Expr-F.Manager (Ok (Of (types.Class som_class_mgr))) p exprs.rolls-Manager e tt
    layer_within (ExprText-F.Cast w t) p h e =
        let k = class_named a w.text in
        let q = went (part (elaborated a at scope t)) (cast_form a w.text) p e in
        made (exprs.Cast k q.value.expr) (Expr-F.Cast k q.value.expr) (cast_type (facts_among a) k q.value.type) p (exprs.rolls-Cast k q.value.expr) q.further (value_within t q.value h.1 q.first)
    layer_within (ExprText-F.Isa w t) p h e =
        let k = class_named a w.text in
        let q = went (part (elaborated a at scope t)) (isa_form a w.text) p e in
        made (exprs.Isa k q.value.expr) (Expr-F.Isa k q.value.expr) (isa_type (facts_among a) k q.value.type) p (exprs.rolls-Isa k q.value.expr) q.further (value_within t q.value h.1 q.first)
    layer_within (ExprText-F.Proxy w t) p h e =
        let k = class_named a w.text in
        let q = went (part (elaborated a at scope t)) (proxy_form a w.text) p e in
        made (exprs.Proxy k q.value.expr) (Expr-F.Proxy k q.value.expr) (proxy_type (facts_among a) k q.value.type) p (exprs.rolls-Proxy k q.value.expr) q.further (value_within t q.value h.1 q.first)
    layer_within (ExprText-F.Call t w ts) p h e = call_within t w.text ts p h.0 h.1 h.2 e
    layer_within (ExprText-F.Lookup answer t w ts) p h e = lookup_within answer t w.text ts p h.1 h.2 h.3 e
    layer_within (ExprText-F.Dispatch answer t w ts) p h e = dispatch_within answer t w.text ts p h.1 h.2 h.3 e
    layer_within (ExprText-F.Parent c w ts) p h e = parent_within c.text w.text ts p h.2 e
    layer_within (ExprText-F.Parents w ts) p h e = parents_within w.text ts p h.1 e
    layer_within (ExprText-F.Host code t u) p h e =
        let q = went (part (elaborated a at scope t)) (λ q. part (elaborated a at scope u) >>= host_form code q) p e in
        let r = went (part (elaborated a at scope u)) (host_form code q.value) p q.further in
        made (exprs.Host code q.value.expr r.value.expr) (Expr-F.Host code q.value.expr r.value.expr) (host_type q.value.type r.value.type) p (exprs.rolls-Host code q.value.expr r.value.expr) r.further (value_within t q.value h.0 q.first, value_within u r.value h.1 r.first)

  -- an expression, where so many levels are left
  pub expr_within : (scope : Names) → length scope ≤ MAX_LOCALS → (left : ℕ) (t : ExprText) (p : Elaborated) → ExprTextWithin left t → elaborated a at scope t ≡ Ok p → ExprWithin left p.expr
  unfolding ExprTextWithin ExprWithin
  expr_within scope few zero t p h e = absurd h
  expr_within scope few (suc left) t p h e =
      layer_within scope few (ExprTextWithin left) (ExprWithin left) (expr_within scope few left) (out-ExprText t) p h
      (sym (ap (elaborated a at scope) (sym (roll-out-ExprText t)) ∙ fold-roll-ExprText Elab (expr_step a at scope) (out-ExprText t)) ∙ e)

  -- ---- statements, by what can stand in them
  module _ (Inner : ExprText → Type 0) (Within : Expr → Type 0) (inner : (scope : Names) → length scope ≤ MAX_LOCALS → (t : ExprText) (p : Elaborated) → Inner t → elaborated a at scope t ≡ Ok p → Within p.expr)
      (BlockIn : BlockText → Type 0) (BlockOut : Block → Type 0) (block : (scope : Names) → length scope ≤ MAX_LOCALS → (t : BlockText) (b : Block) → BlockIn t → elaborated_block a at t scope ≡ Ok b → BlockOut b) where
    -- a statement is within its limits, and not too many names are in scope after it
    abbrev PlacedWithin : Placed → Type 0
    PlacedWithin q = StmtPartsWithin Within BlockOut (out-Stmt q.stmt) × (length q.scope ≤ MAX_LOCALS)

    stands : (scope : Names) → length scope ≤ MAX_LOCALS → (s : Stmt) (layer : Stmt-F Stmt Block) → roll-Stmt layer ≡ s → StmtPartsWithin Within BlockOut layer → PlacedWithin (record { stmt = s; scope = scope })
    stands scope few s layer rolls parts = (subst (StmtPartsWithin Within BlockOut) (sym (ap out-Stmt (sym rolls) ∙ out-roll-Stmt layer)) parts, few)

    placed_within : (scope : Names) → length scope ≤ MAX_LOCALS → (s : Stmt) (layer : Stmt-F Stmt Block) (q : Placed) → roll-Stmt layer ≡ s → placed scope s ≡ Ok q → StmtPartsWithin Within BlockOut layer → PlacedWithin q
    placed_within scope few s layer q rolls e parts = subst PlacedWithin (same_ok (record { stmt = s; scope = scope }) q e) (stands scope few s layer rolls parts)

    part_within : (scope : Names) → length scope ≤ MAX_LOCALS → (t : ExprText) (p : Elaborated) → Inner t → elaborated_value a at scope t ≡ Ok p → Within p.expr
    part_within scope few t p h e = inner scope few t p h (part_is (elaborated a at scope t) p e)

    one_more : (scope : Names) (n : Named) (s : Stmt) (layer : Stmt-F Stmt Block) (q : Placed) → roll-Stmt layer ≡ s → with_local scope n s ≡ Ok q → StmtPartsWithin Within BlockOut layer → PlacedWithin q
    one_more scope n s layer q rolls e parts = by (nat_lt (length scope) MAX_LOCALS) refl e
      where
        by : (b : Bool) → nat_lt (length scope) MAX_LOCALS ≡ b → (if b then Ok (record { stmt = s; scope = scope ++ n ∷ [] }) else Err ManyLocals) ≡ Ok q → PlacedWithin q
        by true is e = subst PlacedWithin (same_ok (record { stmt = s; scope = scope ++ n ∷ [] }) q e) (stands (scope ++ n ∷ []) (let lt = ltb-true (length scope) MAX_LOCALS is in omega (arith, lt, length-append scope (n ∷ []))) s layer rolls parts)
        by false is e = absurd (let z = e in cc)

    var_within : (scope : Names) → length scope ≤ MAX_LOCALS → (name : List ℕ) (kind : ValueType) (t : ExprText) (q : Placed) → Inner t → (ruled (elaborated_value a at scope t) >>= declared a scope name kind) ≡ Ok q → PlacedWithin q
    var_within scope few name kind t q h e =
        let p = went (ruled (elaborated_value a at scope t)) (declared a scope name kind) q e in
        let kept = needs 17 (fits (facts_among a) kind p.value.type) (Ok p.value) in
        let known = needs 16 (kind_is_known (facts_among a) kind) kept in
        let r = went (ruled (needs 15 (not (in_scope scope name)) known)) (λ (r : Elaborated). with_local scope (record { name = name; kind = kind }) (stmts.Var kind r.expr)) q p.further in
        let x = held 15 (not (in_scope scope name)) known r.value (ruled_ok (needs 15 (not (in_scope scope name)) known) r.value r.first) in
        let y = held 16 (kind_is_known (facts_among a) kind) kept r.value x.1 in
        let z = held 17 (fits (facts_among a) kind p.value.type) (Ok p.value) r.value y.1 in
        let here = part_within scope few t p.value h (ruled_ok (elaborated_value a at scope t) p.value p.first) in
        one_more scope (record { name = name; kind = kind }) (stmts.Var kind r.value.expr) (Stmt-F.Var kind r.value.expr) q (stmts.rolls-Var kind r.value.expr) r.further
        (subst (λ (v : Elaborated). Within v.expr) (same_ok p.value r.value z.1) here)

    set_within : (scope : Names) → length scope ≤ MAX_LOCALS → (name : List ℕ) (t : ExprText) (q : Placed) → Inner t → (elaborated_value a at scope t >>= set_local a scope name) ≡ Ok q → PlacedWithin q
    set_within scope few name t q h e =
        let p = went (elaborated_value a at scope t) (set_local a scope name) q e in
        let set : ℕ → ValueType → Ruled Placed = λ n kind. needs 17 (fits (facts_among a) kind p.value.type) (placed scope (stmts.SetLocal n p.value.expr)) in
        let n = went (there 16 (local_of scope name)) (λ n. there 16 (slice_get (kinds_of scope) n) >>= set n) q p.further in
        let kind = went (there 16 (slice_get (kinds_of scope) n.value)) (set n.value) q n.further in
        let x = held 17 (fits (facts_among a) kind.value p.value.type) (placed scope (stmts.SetLocal n.value p.value.expr)) q kind.further in
        placed_within scope few (stmts.SetLocal n.value p.value.expr) (Stmt-F.SetLocal n.value p.value.expr) q (stmts.rolls-SetLocal n.value p.value.expr) x.1
        (local_number scope name n.value few (found 16 (local_of scope name) n.value n.first), part_within scope few t p.value h p.first)

    set_variable_within : (scope : Names) → length scope ≤ MAX_LOCALS → (name : List ℕ) (t : ExprText) (q : Placed) → Inner t → (elaborated_value a at scope t >>= set_variable a at scope name) ≡ Ok q → PlacedWithin q
    set_variable_within scope few name t q h e =
        let p = went (elaborated_value a at scope t) (set_variable a at scope name) q e in
        let set : ℕ → ValueType → Ruled Placed = λ n kind. needs 17 (fits (facts_among a) kind p.value.type) (placed scope (stmts.SetVariable n p.value.expr)) in
        let n = went (there 16 (variable_place at.class name)) (λ n. own_variable at n >>= set n) q p.further in
        let kind = went (own_variable at n.value) (set n.value) q n.further in
        let x = held 17 (fits (facts_among a) kind.value p.value.type) (placed scope (stmts.SetVariable n.value p.value.expr)) q kind.further in
        placed_within scope few (stmts.SetVariable n.value p.value.expr) (Stmt-F.SetVariable n.value p.value.expr) q (stmts.rolls-SetVariable n.value p.value.expr) x.1
        (variable_number at.class room.place name n.value (found 16 (variable_place at.class name) n.value n.first), part_within scope few t p.value h p.first)

    if_within : (scope : Names) → length scope ≤ MAX_LOCALS → (t : ExprText) (b c : BlockText) (q : Placed) → Inner t → BlockIn b → BlockIn c
        → (ruled (elaborated_value a at scope t) >>= λ p. elaborated_block a at b scope >>= λ x. elaborated_block a at c scope >>= λ y. ruled (needs 17 (is_boolean p.type) (placed scope (stmts.If p.expr x y)))) ≡ Ok q → PlacedWithin q
    if_within scope few t b c q h hb hc e =
        let end : Elaborated → Block → Block → Told Placed = λ p x y. ruled (needs 17 (is_boolean p.type) (placed scope (stmts.If p.expr x y))) in
        let p = went (ruled (elaborated_value a at scope t)) (λ p. elaborated_block a at b scope >>= λ x. elaborated_block a at c scope >>= end p x) q e in
        let x = went (elaborated_block a at b scope) (λ x. elaborated_block a at c scope >>= end p.value x) q p.further in
        let y = went (elaborated_block a at c scope) (end p.value x.value) q x.further in
        let s = stmts.If p.value.expr x.value y.value in
        let z = held 17 (is_boolean p.value.type) (placed scope s) q (ruled_ok (needs 17 (is_boolean p.value.type) (placed scope s)) q y.further) in
        placed_within scope few s (Stmt-F.If p.value.expr x.value y.value) q (stmts.rolls-If p.value.expr x.value y.value) z.1
        (part_within scope few t p.value h (ruled_ok (elaborated_value a at scope t) p.value p.first), block scope few b x.value hb x.first, block scope few c y.value hc y.first)

    while_within : (scope : Names) → length scope ≤ MAX_LOCALS → (t : ExprText) (b : BlockText) (q : Placed) → Inner t → BlockIn b
        → (ruled (elaborated_value a at scope t) >>= λ p. elaborated_block a at b scope >>= λ x. ruled (needs 17 (is_boolean p.type) (placed scope (stmts.While p.expr x)))) ≡ Ok q → PlacedWithin q
    while_within scope few t b q h hb e =
        let end : Elaborated → Block → Told Placed = λ p x. ruled (needs 17 (is_boolean p.type) (placed scope (stmts.While p.expr x))) in
        let p = went (ruled (elaborated_value a at scope t)) (λ p. elaborated_block a at b scope >>= end p) q e in
        let x = went (elaborated_block a at b scope) (end p.value) q p.further in
        let s = stmts.While p.value.expr x.value in
        let z = held 17 (is_boolean p.value.type) (placed scope s) q (ruled_ok (needs 17 (is_boolean p.value.type) (placed scope s)) q x.further) in
        placed_within scope few s (Stmt-F.While p.value.expr x.value) q (stmts.rolls-While p.value.expr x.value) z.1
        (part_within scope few t p.value h (ruled_ok (elaborated_value a at scope t) p.value p.first), block scope few b x.value hb x.first)

    return_within : (scope : Names) → length scope ≤ MAX_LOCALS → (o : Option ExprText) (q : Placed) → IfSome o Inner → returned a at scope o ≡ Ok q → PlacedWithin q
    return_within scope few None q h e =
        let z = held 19 (is_nothing (Of at.result)) (placed scope stmts.Return) q e in
        placed_within scope few stmts.Return Stmt-F.Return q stmts.rolls-Return z.1 tt
    return_within scope few (Some t) q h e =
        let p = went (elaborated_value a at scope t) (value_return a at scope) q e in
        let z = held 19 (not (is_nothing (Of at.result)) && fits (facts_among a) at.result p.value.type) (placed scope (stmts.ReturnValue p.value.expr)) q p.further in
        placed_within scope few (stmts.ReturnValue p.value.expr) (Stmt-F.ReturnValue p.value.expr) q (stmts.rolls-ReturnValue p.value.expr) z.1 (part_within scope few t p.value h p.first)

    print_within : (scope : Names) → length scope ≤ MAX_LOCALS → (t : ExprText) (q : Placed) → Inner t → (elaborated_value a at scope t >>= printed scope) ≡ Ok q → PlacedWithin q
    print_within scope few t q h e =
        let p = went (elaborated_value a at scope t) (printed scope) q e in
        let z = held 17 (has_text p.value.type) (placed scope (stmts.Print p.value.expr)) q p.further in
        placed_within scope few (stmts.Print p.value.expr) (Stmt-F.Print p.value.expr) q (stmts.rolls-Print p.value.expr) z.1 (part_within scope few t p.value h p.first)

    free_within : (scope : Names) → length scope ≤ MAX_LOCALS → (t : ExprText) (q : Placed) → Inner t → (elaborated_value a at scope t >>= freed scope) ≡ Ok q → PlacedWithin q
    free_within scope few t q h e =
        let p = went (elaborated_value a at scope t) (freed scope) q e in
        let z = held 17 (is_class p.value.type) (placed scope (stmts.Free p.value.expr)) q p.further in
        placed_within scope few (stmts.Free p.value.expr) (Stmt-F.Free p.value.expr) q (stmts.rolls-Free p.value.expr) z.1 (part_within scope few t p.value h p.first)

    call_stands : (scope : Names) → length scope ≤ MAX_LOCALS → (t : ExprText) (q : Placed) → Inner t → (elaborated a at scope t >>= call_statement scope) ≡ Ok q → PlacedWithin q
    call_stands scope few t q h e =
        let p = went (elaborated a at scope t) (call_statement scope) q e in
        let z = held 20 (is_call p.value.expr) (placed scope (stmts.Call p.value.expr)) q p.further in
        placed_within scope few (stmts.Call p.value.expr) (Stmt-F.Call p.value.expr) q (stmts.rolls-Call p.value.expr) z.1 (inner scope few t p.value h p.first)

    statement_within : (scope : Names) → length scope ≤ MAX_LOCALS → (layer : StmtText-F StmtText BlockText) (q : Placed) → text.StmtPartsWithin Inner BlockIn layer
        → stmt_step a at (map-StmtText StmtText BlockText StmtElab BlockElab (elaborated_stmt a at) (elaborated_block a at) layer) scope ≡ Ok q → PlacedWithin q
    statement_within scope few (StmtText-F.Var w kind t) q h e = var_within scope few w.text (type_of a.module_of kind) t q h.2 e
    statement_within scope few (StmtText-F.Set w t) q h e = set_within scope few w.text t q h.1 (ruled_ok (elaborated_value a at scope t >>= set_local a scope w.text) q e)
    statement_within scope few (StmtText-F.SetVariable w t) q h e = set_variable_within scope few w.text t q h.1 (ruled_ok (elaborated_value a at scope t >>= set_variable a at scope w.text) q e)
    statement_within scope few (StmtText-F.If t b c) q h e = if_within scope few t b c q h.0 h.1 h.2 e
    statement_within scope few (StmtText-F.While t b) q h e = while_within scope few t b q h.0 h.1 e
    statement_within scope few (StmtText-F.Return o) q h e = return_within scope few o q h (ruled_ok (returned a at scope o) q e)
    statement_within scope few (StmtText-F.Print t) q h e = print_within scope few t q h (ruled_ok (elaborated_value a at scope t >>= printed scope) q e)
    statement_within scope few (StmtText-F.Free t) q h e = free_within scope few t q h (ruled_ok (elaborated_value a at scope t >>= freed scope) q e)
    statement_within scope few (StmtText-F.Call t) q h e = call_stands scope few t q h (ruled_ok (elaborated a at scope t >>= call_statement scope) q e)

  -- ---- blocks, by the statements that can stand in them
  module _ (Inner : StmtText → Type 0) (Within : Stmt → Type 0) (one : (scope : Names) → length scope ≤ MAX_LOCALS → (t : StmtText) (q : Placed) → Inner t → elaborated_stmt a at t scope ≡ Ok q → Within q.stmt × (length q.scope ≤ MAX_LOCALS)) where
    in_turn_within : (scope : Names) → length scope ≤ MAX_LOCALS → (ts : List StmtText) (ss : List Stmt) → AllByRecursion Inner ts → in_turn (map (elaborated_stmt a at) ts) scope ≡ Ok ss → AllByRecursion Within ss × (length ss ≡ length ts)
    in_turn_within scope few [] ss hs e = subst (λ (rs : List Stmt). AllByRecursion Within rs × (length rs ≡ 0)) (same_ok [] ss e) (tt, refl)
    in_turn_within scope few (t ∷ ts) ss hs e =
        let first = went (elaborated_stmt a at t scope) (λ (p : Placed). in_turn (map (elaborated_stmt a at) ts) p.scope >>= λ more. Ok (p.stmt ∷ more)) ss e in
        let rest = went (in_turn (map (elaborated_stmt a at) ts) first.value.scope) (λ more. Ok (first.value.stmt ∷ more)) ss first.further in
        let here = one scope few t first.value hs.0 first.first in
        let later = in_turn_within first.value.scope here.1 ts rest.value hs.1 rest.first in
        subst (λ (rs : List Stmt). AllByRecursion Within rs × (length rs ≡ suc (length ts))) (same_ok (first.value.stmt ∷ rest.value) ss rest.further) ((here.0, later.0), ap suc later.1)

    statements_within : (most : ℕ) → most < 2 ^ 32 → (scope : Names) → length scope ≤ MAX_LOCALS → (t : BlockText) (b : Block) → text.StatementsWithin most Inner t → elaborated_block a at t scope ≡ Ok b → StatementsWithin Within b
    statements_within most small scope few t b h e =
        let step = ap (λ (f : BlockElab). f scope) (fold-roll-BlockText StmtElab BlockElab (stmt_step a at) block_step (record { statements = t.statements })) in
        let w = went (in_turn (map (elaborated_stmt a at) t.statements) scope) (λ (ss : List Stmt). Ok (record { statements = ss })) b (sym step ∙ e) in
        let all = in_turn_within scope few t.statements w.value (recursion_from_All Inner t.statements h.1) w.first in
        subst (StatementsWithin Within) (same_ok (record { statements = w.value }) b w.further) (omega (arith, all.1, h.0, small), All-from_recursion Within w.value all.0)

  module _ (most : ℕ) (small : most < 2 ^ 32) where
    -- a statement, where so many levels are left
    stmt_within : (left : ℕ) (scope : Names) → length scope ≤ MAX_LOCALS → (t : StmtText) (q : Placed) → StmtTextWithin most left t → elaborated_stmt a at t scope ≡ Ok q → StmtWithin left q.stmt × (length q.scope ≤ MAX_LOCALS)
    unfolding StmtTextWithin StmtWithin
    stmt_within zero scope few t q h e = absurd h
    stmt_within (suc left) scope few t q h e =
        statement_within (ExprTextWithin left) (ExprWithin left) (λ scope few. expr_within scope few left) (text.StatementsWithin most (StmtTextWithin most left)) (StatementsWithin (StmtWithin left))
        (statements_within (StmtTextWithin most left) (StmtWithin left) (stmt_within left) most small) scope few (out-StmtText t) q h
        (sym (ap (λ (f : StmtElab). f scope) (ap (elaborated_stmt a at) (sym (roll-out-StmtText t)) ∙ fold-roll-StmtText StmtElab BlockElab (stmt_step a at) block_step (out-StmtText t))) ∙ e)

    -- a block, where so many levels are left
    pub block_within : (left : ℕ) (t : BlockText) (scope : Names) (b : Block) → length scope ≤ MAX_LOCALS → BlockTextWithin most left t → elaborated_block a at t scope ≡ Ok b → StatementsWithin (StmtWithin left) b
    block_within left t scope b few h e = statements_within (StmtTextWithin most left) (StmtWithin left) (stmt_within left) most small scope few t b h e

    -- a block of which all levels are left
    pub whole_block_within : (t : BlockText) (scope : Names) (b : Block) → length scope ≤ MAX_LOCALS → BlockTextWithin most MAX_NESTING t → elaborated_block a at t scope ≡ Ok b → BlockWithin b
    whole_block_within t scope b few h e = block_within MAX_NESTING t scope b few h e
