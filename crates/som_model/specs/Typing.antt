-- The types of expressions, and the lowest rule that the first wrong one breaks: parts come before the whole, in the order of the text.
use Rattle.std.specs.Prelude.{ℕ, ◌==◌, Bool, true, false, not, ◌&&◌, ◌||◌, if◌then◌else◌, nat_lt, nat_le, List, [], ◌∷◌, length, map, slice_get, Option, Some, None, is_some, unwrap_or, Result, Ok, Err}
use Rattle.som_model.specs.declared.key.ClassKey.{ClassKey}
use Rattle.som_model.specs.declared.key.MethodRef.{MethodRef}
use Rattle.som_model.specs.declared.key.ValueType.{ValueType}
use Rattle.som_model.specs.declared.key.ValueType.TheVariants as types
use Rattle.som_model.specs.declared.syntax.Expr.{Expr, fold-Expr}
use Rattle.som_model.specs.declared.syntax.Expr.TheOpen.{Expr-F}
use Rattle.som_model.specs.declared.class.Sig.{Sig}
use Rattle.som_model.specs.declared.limits.TheConstants.{MAX_PARAMETERS}
use Rattle.som_model.specs.Steps.{◌>>=◌}
use Rattle.som_model.specs.Same.{same_type}
use Rattle.som_model.specs.Keys.{same_key}
use Rattle.som_model.specs.Class.{Class}
use Rattle.som_model.specs.Kernel.{som_class, som_class_mgr}
use Rattle.som_model.specs.Classes.{class_at, is_a}
use Rattle.som_model.specs.Owner.{owner, sig_of}
use Rattle.som_model.specs.Metaclass.{meta}

-- What typing asks of the classes, and nothing else.
pub record ClassFacts : Type 0 where
  -- whether there is the class, and whether it descends from another
  pub is_known : ClassKey → Bool
  pub is_a : ClassKey → ClassKey → Bool
  -- the class of the class's own object, as far as it is declared
  pub class_object : ClassKey → ClassKey
  -- the owner of a method, and the signature that it has there
  pub owner : MethodRef → MethodRef
  pub signature : MethodRef → Option Sig

abbrev declared_metaclass : Option Class → ClassKey
declared_metaclass None = som_class
declared_metaclass (Some c) = unwrap_or c.decl.face.metaclass som_class

-- what typing asks of these classes, where the class of a class's own object is the metaclass that it declares
unfoldable pub class_facts : List Class → ClassFacts
class_facts cs = record {
  is_known = λ k. is_some (class_at cs k);
  is_a = is_a cs;
  class_object = λ k. declared_metaclass (class_at cs k);
  owner = owner cs;
  signature = λ r. sig_of cs (owner cs r);
}

-- what typing asks of the classes of a run, where the class of a class's own object is its metaclass, made or declared
unfoldable pub running_facts : List Class → ClassFacts
running_facts cs = record {
  is_known = λ k. is_some (class_at cs k);
  is_a = is_a cs;
  class_object = meta cs;
  owner = owner cs;
  signature = λ r. sig_of cs (owner cs r);
}

-- where code stands: in a body of a class or in main, and what it answers
pub record CodePlace : Type 0 where
  pub class : Option Class
  pub result : ValueType

-- main answers nothing
abbrev pub in_main : CodePlace
in_main = record { class = None; result = types.Void }

abbrev pub in_body : Class → ValueType → CodePlace
in_body c result = record { class = Some c; result = result }

-- the type of an expression: that of its value, void where it has none, or that of nil alone
pub data ExprType : Type 0 where
  Of : ValueType → ExprType
  PlainNil : ExprType

-- what a form comes to, or the lowest rule that it breaks
abbrev pub Ruled : Type 0 → Type 0
Ruled A = Result A ℕ

abbrev pub Typed : Type 0
Typed = Ruled ExprType

-- a demand of a rule, and what comes of it
abbrev pub needs : {A : Type 0} → ℕ → Bool → Ruled A → Ruled A
needs rule holds further = if holds then further else Err rule

-- what a rule asks to be there
abbrev pub there : {A : Type 0} → ℕ → Option A → Ruled A
there rule None = Err rule
there rule (Some x) = Ok x

-- ---- types

abbrev pub is_nothing : ExprType → Bool
is_nothing (Of types.Void) = true
is_nothing _ = false

abbrev pub is_long : ExprType → Bool
is_long (Of types.Long) = true
is_long _ = false

abbrev pub is_boolean : ExprType → Bool
is_boolean (Of types.Boolean) = true
is_boolean _ = false

abbrev pub is_string : ExprType → Bool
is_string (Of types.Str) = true
is_string _ = false

-- an object's type, which plain nil has not
abbrev pub is_class : ExprType → Bool
is_class (Of (types.Class k)) = true
is_class _ = false

-- a reference: an object's or nil
abbrev pub is_reference : ExprType → Bool
is_reference (Of (types.Class k)) = true
is_reference PlainNil = true
is_reference _ = false

-- what can be printed
abbrev pub has_text : ExprType → Bool
has_text t = is_long t || (is_boolean t || is_string t)

-- what can be compared: two of one plain type, or two references of any classes
abbrev pub are_alike : ExprType → ExprType → Bool
are_alike s t = (is_long s && is_long t) || ((is_boolean s && is_boolean t) || ((is_string s && is_string t) || (is_reference s && is_reference t)))

-- a type names a class that is known, if it names any
abbrev pub kind_is_known : ClassFacts → ValueType → Bool
kind_is_known w (types.Class k) = w.is_known k
kind_is_known w _ = true

-- a class descends from another, where the type is a class
abbrev pub descends_to : ClassFacts → ClassKey → ExprType → Bool
descends_to w k (Of (types.Class c)) = w.is_a c k
descends_to w k _ = false

-- a type fits itself, a class each class that it descends from, and nil each class
abbrev pub fits : ClassFacts → ValueType → ExprType → Bool
fits w (types.Class k) PlainNil = true
fits w (types.Class k) t = descends_to w k t
fits w kind (Of t) = same_type t kind
fits w kind PlainNil = false

-- each fits its own, and there are as many
abbrev pub all_fit : ClassFacts → List ValueType → List ExprType → Bool
all_fit w [] [] = true
all_fit w (kind ∷ kinds) (t ∷ ts) = fits w kind t && all_fit w kinds ts
all_fit w [] (t ∷ ts) = false
all_fit w (kind ∷ kinds) [] = false

-- ---- parts

-- a part has a value, since a void expression stands only as a call statement
abbrev pub value_of : ExprType → Typed
value_of t = needs 20 (not (is_nothing t)) (Ok t)

abbrev pub value : Typed → Typed
value part = part >>= value_of

-- the parts in their order
abbrev pub values : List Typed → Ruled (List ExprType)
values [] = Ok []
values (part ∷ parts) = value part >>= λ t. values parts >>= λ ts. Ok (t ∷ ts)

-- ---- forms, by the types of their parts

-- an operator takes what it takes, and gives this
abbrev pub gives : Bool → ValueType → Typed
gives takes kind = needs 17 takes (Ok (Of kind))

-- minus, not, length and text
abbrev pub unary_type : ℕ → ExprType → Typed
unary_type op t =
    if op == 0 then gives (is_long t) types.Long
    else if op == 1 then gives (is_boolean t) types.Boolean
    else if op == 2 then gives (is_string t) types.Long
    else if op == 3 then gives (has_text t) types.Str
    else Err 17

-- + - * / %, then == !=, then < <= > >=, then and, or, and &
abbrev pub binary_type : ℕ → ExprType → ExprType → Typed
binary_type op s t =
    if nat_lt op 5 then gives (is_long s && is_long t) types.Long
    else if nat_lt op 7 then gives (are_alike s t) types.Boolean
    else if nat_lt op 11 then gives (is_long s && is_long t) types.Boolean
    else if nat_lt op 13 then gives (is_boolean s && is_boolean t) types.Boolean
    else if op == 13 then gives (is_string s && is_string t) types.Str
    else Err 17

abbrev pub local_type : List ValueType → ℕ → Typed
local_type scope n = there 16 (slice_get scope n) >>= λ kind. Ok (Of kind)

abbrev variable_kind : Option Class → ℕ → Option ValueType
variable_kind None n = None
variable_kind (Some c) n = slice_get (map (λ v. v.kind) c.decl.variables) n

abbrev pub own_variable : CodePlace → ℕ → Ruled ValueType
own_variable at n = there 16 (variable_kind at.class n)

-- self stands only in bodies of classes
abbrev pub self_type : CodePlace → Typed
self_type at = there 20 at.class >>= λ c. Ok (Of (types.Class c.key))

abbrev pub new_type : ClassFacts → ClassKey → Typed
new_type w k = needs 16 (w.is_known k) (Ok (Of (types.Class k)))

abbrev pub class_type : ClassFacts → ClassKey → Typed
class_type w k = needs 16 (w.is_known k) (Ok (Of (types.Class (w.class_object k))))

abbrev pub cast_type : ClassFacts → ClassKey → ExprType → Typed
cast_type w k t = needs 16 (w.is_known k) (gives (is_reference t) (types.Class k))

abbrev pub isa_type : ClassFacts → ClassKey → ExprType → Typed
isa_type w k t = needs 16 (w.is_known k) (gives (is_reference t) types.Boolean)

abbrev pub proxy_type : ClassFacts → ClassKey → ExprType → Typed
proxy_type w k t = needs 16 (w.is_known k) (gives (fits w (types.Class k) t) (types.Class k))

-- a call by offset: the receiver descends from the class of the reference
abbrev pub offset_call_type : ClassFacts → MethodRef → ExprType → List ExprType → Typed
offset_call_type w r on ts =
    there 16 (w.signature r) >>= λ sig.
    needs 17 (descends_to w r.class on) (needs 18 (all_fit w sig.params ts) (Ok (Of sig.result)))

-- a call by name: on any object, with any values
abbrev pub named_call_type : ClassFacts → ValueType → ExprType → List ExprType → Typed
named_call_type w kind on ts =
    needs 16 (kind_is_known w kind) (needs 17 (is_class on) (needs 18 (nat_le (length ts) MAX_PARAMETERS) (Ok (Of kind))))

abbrev parent_in : Option Class → ℕ → Option ClassKey
parent_in None n = None
parent_in (Some c) n = slice_get c.decl.face.parents n

-- a call of a parent's method: the parent descends from the class of the reference
abbrev pub parent_call_type : ClassFacts → CodePlace → ℕ → MethodRef → List ExprType → Typed
parent_call_type w at n r ts =
    there 16 (parent_in at.class n) >>= λ p.
    there 16 (w.signature r) >>= λ sig.
    needs 17 (w.is_a p r.class) (needs 18 (all_fit w sig.params ts) (Ok (Of sig.result)))

abbrev is_proper_for : ClassFacts → Option Class → ClassKey → Bool
is_proper_for w None k = false
is_proper_for w (Some c) k = not (same_key k c.key) && w.is_a c.key k

-- a call of all parents' method: void, of a proper ancestor of the body's class
abbrev pub parents_call_type : ClassFacts → CodePlace → MethodRef → List ExprType → Typed
parents_call_type w at r ts =
    there 16 (w.signature r) >>= λ sig.
    needs 18 (all_fit w sig.params ts) (needs 20 (is_nothing (Of sig.result) && is_proper_for w at.class (w.owner r).class) (Ok (Of sig.result)))

abbrev pub host_type : ExprType → ExprType → Typed
host_type s t = gives (is_long s && is_long t) types.Long

-- an expression, by what its parts come to
abbrev pub expr_step : ClassFacts → CodePlace → List ValueType → Expr-F Typed → Typed
expr_step w at scope (Expr-F.Long z) = Ok (Of types.Long)
expr_step w at scope (Expr-F.Str t) = Ok (Of types.Str)
expr_step w at scope (Expr-F.Boolean b) = Ok (Of types.Boolean)
expr_step w at scope Expr-F.Nil = Ok PlainNil
expr_step w at scope (Expr-F.Local n) = local_type scope n
expr_step w at scope Expr-F.Me = self_type at
expr_step w at scope (Expr-F.Variable n) = own_variable at n >>= λ kind. Ok (Of kind)
expr_step w at scope (Expr-F.Unary op e) = value e >>= unary_type op
expr_step w at scope (Expr-F.Binary op a b) = value a >>= λ s. value b >>= binary_type op s
expr_step w at scope (Expr-F.New k) = new_type w k
expr_step w at scope (Expr-F.Class k) = class_type w k
expr_step w at scope Expr-F.Manager = Ok (Of (types.Class som_class_mgr))
expr_step w at scope (Expr-F.Cast k e) = value e >>= cast_type w k
expr_step w at scope (Expr-F.Isa k e) = value e >>= isa_type w k
expr_step w at scope (Expr-F.Proxy k e) = value e >>= proxy_type w k
expr_step w at scope (Expr-F.OffsetCall r e es) = value e >>= λ on. values es >>= offset_call_type w r on
expr_step w at scope (Expr-F.Lookup kind name e es) = value e >>= λ on. values es >>= named_call_type w kind on
expr_step w at scope (Expr-F.Dispatch kind name e es) = value e >>= λ on. values es >>= named_call_type w kind on
expr_step w at scope (Expr-F.ParentCall n r es) = values es >>= parent_call_type w at n r
expr_step w at scope (Expr-F.ParentsCall r es) = values es >>= parents_call_type w at r
expr_step w at scope (Expr-F.Host code a b) = value a >>= λ s. value b >>= host_type s

-- the type of an expression, void included
abbrev pub expr_type : ClassFacts → CodePlace → List ValueType → Expr → Typed
expr_type w at scope = fold-Expr Typed (expr_step w at scope)
