-- A name stands for one thing where nothing stands twice.
use Rattle.std.proofs.Common.{◌≡◌, ℕ, zero, suc, List, [], ◌∷◌, map, slice_get, Option, Some, None, Ok, refl, sym, ap, ◌∙◌, subst}
use Rattle.som_model.specs.declared.key.ClassKey.{ClassKey}
use Rattle.som_model.specs.declared.key.MethodRef.{MethodRef}
use Rattle.som_model.specs.declared.key.ValueType.TheVariants as types
use Rattle.som_model.specs.declared.class.Entry.{Entry}
use Rattle.som_model.specs.declared.class.Entry.TheVariants as entries
use Rattle.som_model.specs.declared.class.Sig.{Sig}
use Rattle.som_model.specs.declared.class.Variable.{Variable}
use Rattle.som_model.specs.declared.class.Way.{Way}
use Rattle.som_model.specs.declared.syntax.Expr.{Expr}
use Rattle.som_model.specs.Class.{Class}
use Rattle.som_model.specs.Owner.{entry_at}
use Rattle.som_model.specs.Typing.{CodePlace, ExprType, Of}
use Rattle.som_verify_classes.specs.Plainly.{Differ}
use Rattle.som_elab_body.specs.Expressions.{Among}
use Rattle.som_elab_body.specs.Locals.{Named, Names, names_of}
use Rattle.som_model.proofs.StepLaws.{same_answer}
use Rattle.som_elab_laws.specs.Named.{HasMethod, HasVariable, IsLocal, IsOf, IsParent, IsVariable}
use Rattle.som_elab_program_laws.specs.NothingTwice.{NothingTwice}

-- what stands at a place of a list that a function was applied to
record Mapped {A B : Type 0} (f : A → B) (xs : List A) (n : ℕ) (y : B) : Type 0 where
  value : A
  there : slice_get xs n ≡ Some value
  is : f value ≡ y

some_one : {A : Type 0} {x y : A} → Some x ≡ Some y → x ≡ y
some_one e = let z = e in cc

mapped : {A B : Type 0} (f : A → B) (xs : List A) (n : ℕ) (y : B) → slice_get (map f xs) n ≡ Some y → Mapped f xs n y
mapped f [] n y e = absurd (cc)
mapped f (x ∷ xs) zero y e = record { value = x; there = refl; is = some_one e }
mapped f (x ∷ xs) (suc n) y e = let r = mapped f xs n y e in record { value = r.value; there = r.there; is = r.is }

-- ---- locals, variables and parents

pub one_variable : (c : Class) (name : List ℕ) (n m : ℕ) → Differ (λ (v : Variable). v.name) c.decl.variables → HasVariable c name n → HasVariable c name m → n ≡ m
one_variable c name n m differ p q = differ.by n m p.variable q.variable p.there q.there (p.named ∙ sym q.named)

module _ (at : CodePlace) (scope : Names) (once : NothingTwice at scope) where
  pub one_local : (name : List ℕ) (n m : ℕ) → IsLocal scope name n → IsLocal scope name m → n ≡ m
  one_local name n m p q =
      let r = mapped (λ (x : Named). x.name) scope n name p in
      let s = mapped (λ (x : Named). x.name) scope m name q in
      once.locals.by n m r.value s.value r.there s.there (r.is ∙ sym s.is)

  pub one_own : (c d : Class) → at.class ≡ Some c → at.class ≡ Some d → c ≡ d
  one_own c d e f = some_one (sym e ∙ f)

  pub one_own_variable : (name : List ℕ) (n m : ℕ) → IsVariable at name n → IsVariable at name m → n ≡ m
  one_own_variable name n m p q =
      one_variable p.class name n m (once.variables p.class p.own) p.has (subst (λ (c : Class). HasVariable c name m) (one_own q.class p.class q.own p.own) q.has)

  pub one_parent : (k : ClassKey) (n m : ℕ) → IsParent at k n → IsParent at k m → n ≡ m
  one_parent k n m p q =
      let there : slice_get p.class.decl.face.parents m ≡ Some k = subst (λ (c : Class). slice_get c.decl.face.parents m ≡ Some k) (one_own q.class p.class q.own p.own) q.there in
      (once.parents p.class p.own).by n m k k p.there there refl

-- ---- methods

abbrev sig_in : Entry → Option Sig
sig_in (entries.Introduced name sig way) = Some sig
sig_in (entries.Moved name to) = None

abbrev way_in : Entry → Option Way
way_in (entries.Introduced name sig way) = Some way
way_in (entries.Moved name to) = None

-- a class has one method of a name, with one signature and one way of calling it
pub record IsOneMethod (r s : MethodRef) (x y : Sig) (v w : Way) : Type 0 where
  pub method : r ≡ s
  pub sig : x ≡ y
  pub way : v ≡ w

pub one_method : (cs : List Class) (k : ClassKey) (name : List ℕ) (r s : MethodRef) (x y : Sig) (v w : Way) → HasMethod cs k name r x v → HasMethod cs k name s y w → IsOneMethod r s x y v w
one_method cs k name r s x y v w p q =
    let class : r.class ≡ s.class = some_one (sym p.first ∙ q.first) in
    let entry = some_one (sym p.entry ∙ ap (λ z. entry_at cs z name) class ∙ q.entry) in
    record {
      method = ap (λ z. let m : MethodRef = record r { class = z } in m) class ∙ ap (λ z. let m : MethodRef = record s { name = z } in m) (p.named ∙ sym q.named);
      sig = some_one (ap sig_in entry);
      way = some_one (ap way_in entry);
    }

abbrev class_in_type : ExprType → Option ClassKey
class_in_type (Of (types.Class k)) = Some k
class_in_type _ = None

-- an expression is of one class
pub one_class : (a : Among) (at : CodePlace) (scope : Names) (x : Expr) (k l : ClassKey) → IsOf a at scope x k → IsOf a at scope x l → k ≡ l
one_class a at scope x k l p q = some_one (ap class_in_type (same_answer (sym p ∙ q)))
