-- What is found by a name is of that name.
use Rattle.std.proofs.Common.{◌≡◌, ℕ, suc, ◌+◌, Bool, true, false, if◌then◌else◌, List, [], ◌∷◌, slice_get, Option, Some, None, refl, sym, ap, ◌∙◌, subst, arith}
use Rattle.std.specs.Str.{bytes_eq}
use Rattle.som_model.specs.declared.key.ClassKey.{ClassKey}
use Rattle.som_model.specs.declared.class.Entry.{Entry}
use Rattle.som_model.specs.declared.class.Entry.TheVariants as entries
use Rattle.som_model.specs.declared.class.Variable.{Variable}
use Rattle.som_model.specs.declared.key.ValueType.TheVariants as types
use Rattle.som_model.specs.Class.{Class, entry_name, entry_of}
use Rattle.som_model.specs.Classes.{class_at, hierarchy}
use Rattle.som_model.specs.Keys.{same_key}
use Rattle.som_model.specs.Lists.{place_from}
use Rattle.som_model.specs.Owner.{entry_at, introduces}
use Rattle.som_model.specs.Resolution.{byname}
use Rattle.som_model.specs.Typing.{CodePlace, ExprType, Of, PlainNil, there}
use Rattle.som_model.proofs.KeyLaws.{exact_bytes, exact_keys}
use Rattle.som_model_laws.proofs.Members.{find_first}
use Rattle.som_elab_body.specs.Locals.{Names, local_of, names_of}
use Rattle.som_elab_body.specs.Methods.{Method, introduced_method, method_by, method_for, method_of, own_method, parent_place, variable_place}
use Rattle.som_elab_laws.specs.Named.{HasMethod, IsLocal, IsParent, IsVariable}

-- ---- places

-- what stands at a place that was found passes the test
pub record Found {A : Type 0} (test : A → Bool) (xs : List A) (n : ℕ) : Type 0 where
  pub value : A
  pub there : slice_get xs n ≡ Some value
  pub passes : test value ≡ true

record FoundFrom {A : Type 0} (test : A → Bool) (xs : List A) (start n : ℕ) : Type 0 where
  place : ℕ
  is : n ≡ start + place
  found : Found test xs place

found_from : {A : Type 0} (test : A → Bool) (xs : List A) (start n : ℕ) → place_from start test xs ≡ Some n → FoundFrom test xs start n
found_from test [] start n e = absurd (let z = e in cc)
found_from {A = A} test (x ∷ xs) start n e = by (test x) refl e (found_from test xs (suc start) n)
  where
    by : (b : Bool) → test x ≡ b → (if b then Some start else place_from (suc start) test xs) ≡ Some n → (place_from (suc start) test xs ≡ Some n → FoundFrom test xs (suc start) n) → FoundFrom test (x ∷ xs) start n
    by true is h further = record { place = 0; is = (let same : start ≡ n = let z = h in cc in omega (arith, same)); found = record { value = x; there = refl; passes = is } }
    by false is h further =
        let r = further h in
        record { place = suc r.place; is = (let e = r.is in omega (arith, e)); found = record { value = r.found.value; there = r.found.there; passes = r.found.passes } }

pub found : {A : Type 0} (test : A → Bool) (xs : List A) (n : ℕ) → place_from 0 test xs ≡ Some n → Found test xs n
found test xs n e =
    let r = found_from test xs 0 n e in
    subst (Found test xs) (let h = r.is in omega (arith, h)) r.found

-- ---- locals, variables and parents

pub local_is : (scope : Names) (name : List ℕ) (n : ℕ) → local_of scope name ≡ Some n → IsLocal scope name n
local_is scope name n e =
    let f = found (bytes_eq name) (names_of scope) n e in
    f.there ∙ ap Some (sym (exact_bytes.two name f.value f.passes))

pub variable_is : (at : CodePlace) (name : List ℕ) (n : ℕ) → variable_place at.class name ≡ Some n → IsVariable at name n
variable_is at name n e = by at.class refl e
  where
    by : (o : Option Class) → at.class ≡ o → variable_place o name ≡ Some n → IsVariable at name n
    by None here h = absurd (let z = h in cc)
    by (Some c) here h =
        let f = found (λ (v : Variable). bytes_eq v.name name) c.decl.variables n h in
        record { class = c; own = here; has = record { variable = f.value; there = f.there; named = exact_bytes.two f.value.name name f.passes } }

pub parent_is : (at : CodePlace) (k : ClassKey) (n : ℕ) → parent_place at.class k ≡ Some n → IsParent at k n
parent_is at k n e = by at.class refl e
  where
    by : (o : Option Class) → at.class ≡ o → parent_place o k ≡ Some n → IsParent at k n
    by None here h = absurd (let z = h in cc)
    by (Some c) here h =
        let f = found (same_key k) c.decl.face.parents n h in
        record { class = c; own = here; there = f.there ∙ ap Some (sym (exact_keys.two k f.value f.passes)) }

-- ---- methods

-- an entry that a class has for a name is of that name
pub entry_named : (cs : List Class) (k : ClassKey) (name : List ℕ) (e : Entry) → entry_at cs k name ≡ Some e → entry_name e ≡ name
entry_named cs k name e h = by (class_at cs k) refl
  where
    by : (o : Option Class) → class_at cs k ≡ o → entry_name e ≡ name
    by None here = absurd (let z : None ≡ Some e = rw here at h in cc)
    by (Some c) here =
        let z : entry_of c.decl.face.entries name ≡ Some e = rw here at h in
        exact_bytes.two (entry_name e) name (find_first (λ (x : Entry). bytes_eq (entry_name x) name) c.decl.face.entries e z).passes

-- the method that a class has, as far as it is one
pub method_is : (cs : List Class) (k : ClassKey) (name : List ℕ) (m : Method) → method_of cs k name ≡ Some m → HasMethod cs k name m.ref m.sig m.way
method_is cs k name m e = by (byname (hierarchy cs) (introduces cs name) k) refl e
  where
    entered : (c : ClassKey) (o : Option Entry) → byname (hierarchy cs) (introduces cs name) k ≡ Some c → entry_at cs c name ≡ o
        → introduced_method (record { class = c; name = name }) o ≡ Some m → HasMethod cs k name m.ref m.sig m.way
    entered c None is there h = absurd (let z = h in cc)
    entered c (Some (entries.Moved n to)) is there h = absurd (let z = h in cc)
    entered c (Some (entries.Introduced n sig way)) is there h =
        let made : Method = record { ref = record { class = c; name = name }; sig = sig; way = way } in
        let same : made ≡ m = let z = h in cc in
        let named : n ≡ name = entry_named cs c name (entries.Introduced n sig way) there in
        subst (λ (z : Method). HasMethod cs k name z.ref z.sig z.way) same
        (record { named = refl; first = is; entry = there ∙ ap (λ z. Some (entries.Introduced z sig way)) named })

    by : (o : Option ClassKey) → byname (hierarchy cs) (introduces cs name) k ≡ o → method_by cs name o ≡ Some m → HasMethod cs k name m.ref m.sig m.way
    by None is h = absurd (let z = h in cc)
    by (Some c) is h = entered c (entry_at cs c name) is refl h

-- the method that an object of a type has, which is one of a class
pub record ObjectHas (cs : List Class) (t : ExprType) (name : List ℕ) (m : Method) : Type 0 where
  pub class : ClassKey
  pub type : t ≡ Of (types.Class class)
  pub has : HasMethod cs class name m.ref m.sig m.way

pub object_has : (cs : List Class) (t : ExprType) (name : List ℕ) (m : Method) → method_for cs t name ≡ Some m → ObjectHas cs t name m
object_has cs (Of (types.Class k)) name m e = record { class = k; type = refl; has = method_is cs k name m e }
object_has cs (Of types.Void) name m e = absurd (let z = e in cc)
object_has cs (Of types.Long) name m e = absurd (let z = e in cc)
object_has cs (Of types.Boolean) name m e = absurd (let z = e in cc)
object_has cs (Of types.Str) name m e = absurd (let z = e in cc)
object_has cs PlainNil name m e = absurd (let z = e in cc)

-- the method that the class of a body has
pub record OwnHas (cs : List Class) (o : Option Class) (name : List ℕ) (m : Method) : Type 0 where
  pub class : Class
  pub own : o ≡ Some class
  pub has : HasMethod cs class.key name m.ref m.sig m.way

pub own_has : (cs : List Class) (o : Option Class) (name : List ℕ) (m : Method) → own_method cs o name ≡ Some m → OwnHas cs o name m
own_has cs None name m e = absurd (let z = e in cc)
own_has cs (Some c) name m e = record { class = c; own = refl; has = method_is cs c.key name m e }
