-- What typing asks of classes is the same where they differ in bodies, blocks and selects alone.
use Rattle.std.proofs.Common.{◌≡◌, ℕ, zero, suc, Bool, true, false, if◌then◌else◌, List, [], ◌∷◌, map, Option, Some, None, is_some, option_map, Ok, refl, sym, ap, ◌∙◌}
use Rattle.std.proofs.Math.Path.{fun_ext}
use Rattle.std.specs.Prelude.{unwrap_or}
use Rattle.std.specs.Str.{bytes_eq}
use Rattle.som_model.specs.declared.key.ClassKey.{ClassKey}
use Rattle.som_model.specs.declared.key.MethodRef.{MethodRef}
use Rattle.som_model.specs.declared.key.ValueType.{ValueType}
use Rattle.som_model.specs.declared.syntax.Expr.{Expr, fold-Expr}
use Rattle.som_model.specs.declared.syntax.Expr.TheOpen.{Expr-F}
use Rattle.som_model.specs.declared.syntax.Stmt.TheOpen.{Stmt-F}
use Rattle.som_model.specs.declared.syntax.Block.{Block, fold-Block}
use Rattle.som_model.specs.declared.class.Sig.{Sig}
use Rattle.som_model.specs.declared.class.Entry.{Entry}
use Rattle.som_model.specs.declared.class.Entry.TheVariants as entries
use Rattle.som_model.specs.declared.class.Override.{Override}
use Rattle.som_model.specs.Lists.{find}
use Rattle.som_model.specs.Keys.{same_key}
use Rattle.som_model.specs.Hierarchy.{Hierarchy}
use Rattle.som_model.specs.Ancestors.{descends}
use Rattle.som_model.specs.Steps.{◌>>=◌}
use Rattle.som_model.specs.Blocks.{is_call}
use Rattle.som_model.specs.Class.{Class, entry_name, introduced_sig}
use Rattle.som_model.specs.Classes.{class_at, hierarchy, is_a}
use Rattle.som_model.specs.Kernel.{som_class}
use Rattle.som_model.specs.Owner.{entry_at, owner, owner_within, sig_of}
use Rattle.som_model.specs.Typing.{ClassFacts, CodePlace, Typed, class_facts, expr_step, expr_type, has_text, in_body, is_boolean, is_class, needs, value}
use Rattle.som_model.specs.TypedBlocks.{Scope, Scoped, block_scope, block_step, local_set, stmt_step, value_return, var_scope, variable_set}
use Rattle.som_verify_classes.proofs.Outlines.{hierarchy_outline, outline}

abbrev pub emptied : Override → Override
emptied o = record { method = o.method; block = record { statements = [] } }

-- a class without its bodies, blocks and selects
abbrev pub plain : Class → Class
plain c = record { key = c.key; decl = record { face = c.decl.face; variables = c.decl.variables; bodies = []; overrides = map emptied c.decl.overrides; selects = [] } }

-- a class without its bodies and blocks, but with its selects
abbrev pub selecting : Class → Class
selecting c = record { key = c.key; decl = record { face = c.decl.face; variables = c.decl.variables; bodies = []; overrides = map emptied c.decl.overrides; selects = c.decl.selects } }

abbrev pub unselected : Class → Class
unselected c = record { key = c.key; decl = record c.decl { selects = [] } }

plain_parts : (cs : List Class) → map plain cs ≡ map unselected (map selecting cs)
plain_parts [] = refl
plain_parts (c ∷ cs) = ap (λ z. plain c ∷ z) (plain_parts cs)

pub plain_same : (cs ds : List Class) → map selecting cs ≡ map selecting ds → map plain cs ≡ map plain ds
plain_same cs ds e = plain_parts cs ∙ ap (map unselected) e ∙ sym (plain_parts ds)

find_if : (b : Bool) (c : Class) (o p : Option Class) → p ≡ option_map plain o → (if b then Some (plain c) else p) ≡ option_map plain (if b then Some c else o)
find_if true c o p e = refl
find_if false c o p e = e

pub plain_at : (cs : List Class) (k : ClassKey) → class_at (map plain cs) k ≡ option_map plain (class_at cs k)
plain_at [] k = refl
plain_at (c ∷ cs) k = find_if (same_key c.key k) c (class_at cs k) (class_at (map plain cs) k) (plain_at cs k)

-- hierarchies

plain_outline : (cs : List Class) → map outline (map plain cs) ≡ map outline cs
plain_outline [] = refl
plain_outline (c ∷ cs) = ap (λ z. outline c ∷ z) (plain_outline cs)

pub plain_hierarchy : (cs : List Class) → hierarchy (map plain cs) ≡ hierarchy cs
plain_hierarchy cs = sym (hierarchy_outline (map plain cs)) ∙ ap hierarchy (plain_outline cs) ∙ hierarchy_outline cs

-- owners

abbrev entry_of_class : Option Class → List ℕ → Option Entry
entry_of_class None name = None
entry_of_class (Some c) name = find (λ (e : Entry). bytes_eq (entry_name e) name) c.decl.face.entries

plain_entry_in : (o : Option Class) (name : List ℕ) → entry_of_class (option_map plain o) name ≡ entry_of_class o name
plain_entry_in None name = refl
plain_entry_in (Some c) name = refl

plain_entry : (cs : List Class) (k : ClassKey) (name : List ℕ) → entry_at (map plain cs) k name ≡ entry_at cs k name
plain_entry cs k name = ap (λ o. entry_of_class o name) (plain_at cs k) ∙ plain_entry_in (class_at cs k) name

owner_step : (cs : List Class) (n : ℕ) (r : MethodRef) (o : Option Entry) → entry_at (map plain cs) r.class r.name ≡ o → entry_at cs r.class r.name ≡ o
    → ((q : MethodRef) → owner_within (map plain cs) n q ≡ owner_within cs n q) → owner_within (map plain cs) (suc n) r ≡ owner_within cs (suc n) r
owner_step cs n r None e f more = rw (e, f) refl
owner_step cs n r (Some (entries.Introduced name sig way)) e f more = rw (e, f) refl
owner_step cs n r (Some (entries.Moved name to)) e f more = rw (e, f) (more (record { class = to; name = r.name }))

plain_within : (cs : List Class) (n : ℕ) (r : MethodRef) → owner_within (map plain cs) n r ≡ owner_within cs n r
plain_within cs zero r = refl
plain_within cs (suc n) r = owner_step cs n r (entry_at cs r.class r.name) (plain_entry cs r.class r.name) refl (plain_within cs n)

pub plain_owner : (cs : List Class) (r : MethodRef) → owner (map plain cs) r ≡ owner cs r
plain_owner cs r =
    ap (λ (h : Hierarchy ClassKey). owner_within (map plain cs) (h.height r.class) r) (plain_hierarchy cs) ∙ plain_within cs ((hierarchy cs).height r.class) r

-- what typing asks

abbrev declared_metaclass : Option Class → ClassKey
declared_metaclass None = som_class
declared_metaclass (Some c) = unwrap_or c.decl.face.metaclass som_class

plain_known : (o : Option Class) → is_some (option_map plain o) ≡ is_some o
plain_known None = refl
plain_known (Some c) = refl

plain_metaclass : (o : Option Class) → declared_metaclass (option_map plain o) ≡ declared_metaclass o
plain_metaclass None = refl
plain_metaclass (Some c) = refl

abbrev facts : (ClassKey → Bool) → (ClassKey → ClassKey → Bool) → (ClassKey → ClassKey) → (MethodRef → MethodRef) → (MethodRef → Option Sig) → ClassFacts
facts known descent object owners signatures = record { is_known = known; is_a = descent; class_object = object; owner = owners; signature = signatures }

plain_facts : (cs : List Class) → class_facts (map plain cs) ≡ class_facts cs
unfolding class_facts
plain_facts cs =
    let ps = map plain cs in
    let known : (λ (k : ClassKey). is_some (class_at ps k)) ≡ (λ (k : ClassKey). is_some (class_at cs k)) = fun_ext (λ k. ap is_some (plain_at cs k) ∙ plain_known (class_at cs k)) in
    let descent : (λ (k a : ClassKey). is_a ps k a) ≡ (λ (k a : ClassKey). is_a cs k a) = ap (λ (h : Hierarchy ClassKey). λ (k a : ClassKey). descends h k a) (plain_hierarchy cs) in
    let object : (λ (k : ClassKey). declared_metaclass (class_at ps k)) ≡ (λ (k : ClassKey). declared_metaclass (class_at cs k)) = fun_ext (λ k. ap declared_metaclass (plain_at cs k) ∙ plain_metaclass (class_at cs k)) in
    let owners : (λ (r : MethodRef). owner ps r) ≡ (λ (r : MethodRef). owner cs r) = fun_ext (λ r. plain_owner cs r) in
    let signatures : (λ (r : MethodRef). sig_of ps (owner ps r)) ≡ (λ (r : MethodRef). sig_of cs (owner cs r)) =
    fun_ext (λ r. ap (λ (q : MethodRef). sig_of ps q) (plain_owner cs r) ∙ ap introduced_sig (plain_entry cs (owner cs r).class (owner cs r).name)) in
    ap (λ z. facts z (λ k a. is_a ps k a) (λ k. declared_metaclass (class_at ps k)) (λ r. owner ps r) (λ r. sig_of ps (owner ps r))) known
    ∙ ap (λ z. facts (λ k. is_some (class_at cs k)) z (λ k. declared_metaclass (class_at ps k)) (λ r. owner ps r) (λ r. sig_of ps (owner ps r))) descent
    ∙ ap (λ z. facts (λ k. is_some (class_at cs k)) (λ k a. is_a cs k a) z (λ r. owner ps r) (λ r. sig_of ps (owner ps r))) object
    ∙ ap (λ z. facts (λ k. is_some (class_at cs k)) (λ k a. is_a cs k a) (λ k. declared_metaclass (class_at cs k)) z (λ r. sig_of ps (owner ps r))) owners
    ∙ ap (λ z. facts (λ k. is_some (class_at cs k)) (λ k a. is_a cs k a) (λ k. declared_metaclass (class_at cs k)) (λ r. owner cs r) z) signatures

pub facts_other : (cs ds : List Class) → map plain cs ≡ map plain ds → class_facts cs ≡ class_facts ds
facts_other cs ds e = sym (plain_facts cs) ∙ ap class_facts e ∙ plain_facts ds

pub sig_other : (cs ds : List Class) → map plain cs ≡ map plain ds → (r : MethodRef) → sig_of cs (owner cs r) ≡ sig_of ds (owner ds r)
sig_other cs ds e r = side cs ∙ ap (λ z. sig_of z (owner z r)) e ∙ sym (side ds)
  where
    side : (xs : List Class) → sig_of xs (owner xs r) ≡ sig_of (map plain xs) (owner (map plain xs) r)
    side xs = sym (ap (λ (q : MethodRef). sig_of (map plain xs) q) (plain_owner xs r) ∙ ap introduced_sig (plain_entry xs (owner xs r).class (owner xs r).name))

-- what stands in a body of a class

module _ (w : ClassFacts) (c : Class) (result : ValueType) where
  abbrev bare : CodePlace
  bare = in_body (plain c) result

  abbrev here : CodePlace
  here = in_body c result

  expr_same : (scope : Scope) (l : Expr-F Typed) → expr_step w bare scope l ≡ expr_step w here scope l
  expr_same scope (Expr-F.Long z) = refl
  expr_same scope (Expr-F.Str t) = refl
  expr_same scope (Expr-F.Boolean b) = refl
  expr_same scope Expr-F.Nil = refl
  expr_same scope (Expr-F.Local n) = refl
  expr_same scope Expr-F.Me = refl
  expr_same scope (Expr-F.Variable n) = refl
  expr_same scope (Expr-F.Unary op e) = refl
  expr_same scope (Expr-F.Binary op a b) = refl
  expr_same scope (Expr-F.New k) = refl
  expr_same scope (Expr-F.Class k) = refl
  expr_same scope Expr-F.Manager = refl
  expr_same scope (Expr-F.Cast k e) = refl
  expr_same scope (Expr-F.Isa k e) = refl
  expr_same scope (Expr-F.Proxy k e) = refl
  expr_same scope (Expr-F.OffsetCall r e es) = refl
  expr_same scope (Expr-F.Lookup kind name e es) = refl
  expr_same scope (Expr-F.Dispatch kind name e es) = refl
  expr_same scope (Expr-F.ParentCall n r es) = refl
  expr_same scope (Expr-F.ParentsCall r es) = refl
  expr_same scope (Expr-F.Host code a b) = refl

  types_same : (scope : Scope) (e : Expr) → expr_type w bare scope e ≡ expr_type w here scope e
  types_same scope e = ap (λ (f : Expr-F Typed → Typed). fold-Expr Typed f e) (fun_ext (expr_same scope))

  stmt_same : (l : Stmt-F Scoped Scoped) (scope : Scope) → stmt_step w bare l scope ≡ stmt_step w here l scope
  stmt_same (Stmt-F.Var kind e) scope = ap (λ t. value t >>= var_scope w scope kind) (types_same scope e)
  stmt_same (Stmt-F.SetLocal n e) scope = ap (λ t. value t >>= local_set w scope n) (types_same scope e)
  stmt_same (Stmt-F.SetVariable n e) scope = ap (λ t. value t >>= variable_set w here scope n) (types_same scope e)
  stmt_same (Stmt-F.If e a b) scope = ap (λ t. value t >>= λ t. a scope >>= λ _. b scope >>= λ _. needs 17 (is_boolean t) (Ok scope)) (types_same scope e)
  stmt_same (Stmt-F.While e b) scope = ap (λ t. value t >>= λ t. b scope >>= λ _. needs 17 (is_boolean t) (Ok scope)) (types_same scope e)
  stmt_same Stmt-F.Return scope = refl
  stmt_same (Stmt-F.ReturnValue e) scope = ap (λ t. value t >>= value_return w here scope) (types_same scope e)
  stmt_same (Stmt-F.Print e) scope = ap (λ t. value t >>= λ t. needs 17 (has_text t) (Ok scope)) (types_same scope e)
  stmt_same (Stmt-F.Free e) scope = ap (λ t. value t >>= λ t. needs 17 (is_class t) (Ok scope)) (types_same scope e)
  stmt_same (Stmt-F.Call e) scope = ap (λ (t : Typed). t >>= λ t. needs 20 (is_call e) (Ok scope)) (types_same scope e)

  plain_scope : (b : Block) (scope : Scope) → block_scope w bare b scope ≡ block_scope w here b scope
  plain_scope b scope = ap (λ (f : Stmt-F Scoped Scoped → Scoped). fold-Block Scoped Scoped f block_step b scope) (fun_ext (λ l. fun_ext (stmt_same l)))

-- a block in a body of classes that differ in bodies and blocks alone
pub scope_other : (w : ClassFacts) (c d : Class) (result : ValueType) (b : Block) (scope : Scope) → plain c ≡ plain d → block_scope w (in_body c result) b scope ≡ block_scope w (in_body d result) b scope
scope_other w c d result b scope e =
    sym (plain_scope w c result b scope) ∙ ap (λ (z : Class). block_scope w (in_body z result) b scope) e ∙ plain_scope w d result b scope
